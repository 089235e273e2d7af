-- What a node starts: what holds before holds after it.
use Rattle.std.proofs.Common.{◌≡◌, ℕ, List, [], ◌∷◌, Some, ap, refl, subst, ◌∙◌, inl, inr}
use Rattle.tap_name.specs.Settings.{SettingsValue}
use Rattle.tap_wire.specs.declared.frame.Body.TheVariants.{Seek}
use Rattle.tap_wire.specs.declared.frame.Frame.{Frame}
use Rattle.tap_rule.specs.Act.{act}
use Rattle.tap_rule.specs.Event.{Start}
use Rattle.tap_rule.specs.Event.Event.{Starts}
use Rattle.tap_rule.specs.Event.Start.{Abandon, Cast, Find, Join, Leave, Publish, Withdraw}
use Rattle.tap_rule.specs.Node.{NodeState, joiner, name_of}
use Rattle.tap_rule.specs.QuietSteps.{IsQuietStart}
use Rattle.tap_rule.specs.Reaction.{message}
use Rattle.tap_rule.specs.Sent.{IsAmong}
use Rattle.tap_rule.proofs.QuietSteps.{quiet_start_law}
use Rattle.tap_rule.proofs.StartSteps.{give_up_law, seek_start_law}
use Rattle.tap_safety.specs.Filled.{AreFilled}
use Rattle.tap_safety.specs.Invariant.{Basis}
use Rattle.tap_safety.specs.Moved.{IsStarted, starter}
use Rattle.tap_safety.specs.Sessions.{AreExact, Belongs}
use Rattle.tap_safety.specs.SessionSteps.{LeavesSessions}
use Rattle.tap_safety.specs.Exchanges.{AreNumbered, HasSent, numbered_from}
use Rattle.tap_safety.specs.System.{System}
use Rattle.tap_safety.proofs.Moved.{ascend_one, numbers_sent, starts}
use Rattle.tap_safety.proofs.StepLaws.{join_filled_law, others_law, start_filled_law}
use Rattle.tap_safety.proofs.Said.{said_of}
use Rattle.tap_moves.specs.ByRule.{BeginsByRule, StartsByRule}
use Rattle.tap_moves.specs.Delivered.{after_start}
use Rattle.tap_moves.specs.InvariantLaws.{StartFills}
use Rattle.tap_moves.specs.MovesLaws.{GivingUpKeeps, JoinKeeps, KeepsBoth, QuietStartKeeps}
use Rattle.tap_moves.specs.KnownNames.{IsNodeOf}
use Rattle.tap_moves.proofs.Exchanged.{in_either, in_first, sent_numbered}
use Rattle.tap_moves.proofs.InSession.{sent_in}
use Rattle.tap_moves.proofs.OutsideMade.{quiet_none, seek_none}
use Rattle.tap_moves.proofs.Plain.{giving_up_is_made, join_is_made, quiet_start_is_made}

-- whoever starts something but a join is there
starter_is : (p : SettingsValue) (s : System) (x : List ℕ) (node : NodeState) (start : Start) → s.node x ≡ Some node
    → IsQuietStart start → starter p s x start ≡ Some node
starter_is p s x node (Publish object) at quiet = at
starter_is p s x node (Withdraw object) at quiet = at
starter_is p s x node (Find ticket object) at quiet = at
starter_is p s x node (Cast cast level word) at quiet = at
starter_is p s x node (Join via) at quiet = absurd quiet
starter_is p s x node Abandon at quiet = absurd quiet
starter_is p s x node Leave at quiet = absurd quiet

-- a start by the rule of a node that is there
started_by_rule : (p : SettingsValue) (s : System) (node : NodeState) (start : Start) → s.node (name_of node) ≡ Some node
    → IsStarted p s (name_of node) start node → StartsByRule s (after_start p s (name_of node) start) node start
started_by_rule p s node start at step =
    record { has_sent = step.sent; at = record { was = at; is = step.done.is; others = step.done.others } }

-- frames of no session that come leave the sessions as they are
sent_aside : (s s' : System) (sent : List Frame) → HasSent s s' sent → AreNumbered s
    → ((y : List ℕ) (k : ℕ) → s'.session y k ≡ s.session y k)
    → ((f : Frame) (y : List ℕ) (k : ℕ) → IsAmong f sent → Belongs f y k → ⊥) → LeavesSessions s s'
sent_aside s s' sent has are sessions none =
    let numbers = numbers_sent s s' sent has are in
    record {
      sessions = sessions;
      still = λ m f y k among belongs. rw has.after (in_first m f s.frames (numbered_from s.next sent) among);
      was = λ m f y k among belongs. elim (in_either m f s.frames (numbered_from s.next sent) (rw has.after at among)) [
        | inl old ↦ old
        | inr comes ↦ absurd (none f y k (sent_numbered m f s.next sent comes) belongs)
      ];
      is_one = λ m g other one two. ascend_one 0 s'.frames s'.next m g other numbers.numbers one two;
    }

pub quiet_start_keeps : QuietStartKeeps
quiet_start_keeps p s node start at quiet are =
    let s' = after_start p s (name_of node) start in
    let step = starts p s (name_of node) start node (starter_is p s (name_of node) node start at quiet) in
    let by_rule = started_by_rule p s node start at step in
    let law = quiet_start_law node start quiet in (
      λ filled. start_filled_law p s s' (name_of node) (quiet_start_is_made s s' node start by_rule step.surrogate quiet).0 filled,
      λ exact. others_law s s' (sent_aside s s' (act node (Starts start)).sent step.sent are step.session
          (λ f y k among belongs. quiet_none (said_of f.body) f.from f.to y k (law.sent f among) belongs)) exact,
    )

pub giving_up_keeps : GivingUpKeeps
giving_up_keeps p s node at joining are =
    let s' = after_start p s (name_of node) Abandon in
    let step = starts p s (name_of node) Abandon node at in
    let by_rule = started_by_rule p s node Abandon at step in
    let law = give_up_law node joining in (
      λ filled. start_filled_law p s s' (name_of node) (giving_up_is_made s s' node by_rule step.surrogate joining).0 filled,
      λ exact. others_law s s' (sent_aside s s' (act node (Starts Abandon)).sent step.sent are step.session
          (λ f y k among belongs. let found = sent_in (name_of node) [] [] (act node (Starts Abandon)).sent law.sent f y k among belongs in
          absurd found.1)) exact,
    )

pub join_keeps : JoinKeeps
join_keeps p s x via fresh unstarted are =
    let s' = after_start p s x (Join via) in
    let step = starts p s x (Join via) (joiner p x) refl in
    let law = seek_start_law (joiner p x) via refl in
    let begins : BeginsByRule p s s' x via = record {
      fresh = fresh;
      unstarted = unstarted;
      has_sent = step.sent;
      is = step.done.is;
      others = step.done.others;
    } in (
      λ filled. join_filled_law p s s' x (join_is_made p s s' x via begins step.surrogate) filled,
      λ exact. others_law s s' (sent_aside s s' (act (joiner p x) (Starts (Join via))).sent step.sent are step.session
          (λ f y k among belongs.
          let found = sent_in x [] (message via (Seek x) ∷ []) (act (joiner p x) (Starts (Join via))).sent law.sent f y k among belongs in
          seek_none x via x found.0 y k found.1 found.2)) exact,
    )

-- ---- from the invariant

quiet_fills : (p : SettingsValue) (s : System) (x : List ℕ) (start : Start) (node : NodeState) → Basis p s → IsNodeOf p x node
    → s.node x ≡ Some node → IsQuietStart start
    → (AreFilled p s → AreFilled p (after_start p s x start)) × AreExact (after_start p s x start)
quiet_fills p s x start node inv of at quiet =
    let keeps = subst (λ y. KeepsBoth p s (after_start p s y start)) of.name
    (quiet_start_keeps p s node start (ap s.node of.name ∙ at) quiet inv.numbered) in
    (keeps.0, keeps.1 inv.exact)

pub start_fills : StartFills
start_fills p s x (Join via) inv nodes may new =
    let keeps = join_keeps p s x via may.fresh new inv.numbered in (keeps.0, keeps.1 inv.exact)
start_fills p s x Abandon inv nodes may new =
    let of = nodes.nodes x may.state may.is in
    let keeps = subst (λ y. KeepsBoth p s (after_start p s y Abandon)) of.name
    (giving_up_keeps p s may.state (ap s.node of.name ∙ may.is) may.joining inv.numbered) in
    (keeps.0, keeps.1 inv.exact)
start_fills p s x Leave inv nodes may new = absurd new
start_fills p s x (Publish object) inv nodes may new =
    quiet_fills p s x (Publish object) may.acts.state inv (nodes.nodes x may.acts.state may.acts.is) may.acts.is tt
start_fills p s x (Withdraw object) inv nodes may new =
    quiet_fills p s x (Withdraw object) may.acts.state inv (nodes.nodes x may.acts.state may.acts.is) may.acts.is tt
start_fills p s x (Find ticket object) inv nodes may new =
    quiet_fills p s x (Find ticket object) may.acts.state inv (nodes.nodes x may.acts.state may.acts.is) may.acts.is tt
start_fills p s x (Cast cast level word) inv nodes may new =
    quiet_fills p s x (Cast cast level word) may.acts.state inv (nodes.nodes x may.acts.state may.acts.is) may.acts.is tt
