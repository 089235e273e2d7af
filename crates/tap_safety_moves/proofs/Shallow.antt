-- Each move keeps it that no copy of a cast that is under way is deeper than its level; so none comes to the greatest depth.
use Rattle.std.proofs.Common.{◌≡◌, ◌⊎◌, ℕ, ◌≤◌, Bool, true, false, cond, List, [], ◌++◌, map, All, Option, None, Some, refl, subst, arith, eqb, inl, inr}
use Rattle.std.specs.Prelude.{IfSome}
use Rattle.std.proofs.lemmas.Bool.{cases_Bool, eqb-true}
use Rattle.std.proofs.lemmas.List.Elements.{All-append, All-map, All-nil}
use Rattle.tap_name.specs.Settings.{AreWithinLimits, SettingsValue}
use Rattle.tap_table.specs.Table.{IsTable}
use Rattle.tap_wire.specs.Spelling.{IsBody}
use Rattle.tap_wire.specs.declared.frame.Body.{Body}
use Rattle.tap_wire.specs.declared.frame.Frame.{Frame}
use Rattle.tap_rule.specs.Act.{act, carried_out, completed, follows, refuses}
use Rattle.tap_rule.specs.Event.{Start}
use Rattle.tap_rule.specs.Event.Event.{Starts, Takes}
use Rattle.tap_rule.specs.Event.Start.{Abandon, Cast as StartCast, Find, Join, Leave, Publish, Withdraw}
use Rattle.tap_rule.specs.FrameRules.{rule_of_frame}
use Rattle.tap_rule.specs.Node.{NodeState, Status, joiner, name_of}
use Rattle.tap_rule.specs.Node.Status.{Ceased, Core, Gone, Joining, Leaving}
use Rattle.tap_rule.specs.Pointers.{reconciles}
use Rattle.tap_rule.specs.Reaction.{Reaction}
use Rattle.tap_rule.specs.Sending.{by_receiver, frames_of, lay_frame, link_frame, message_frame}
use Rattle.tap_rule.specs.StartRules.{rule_of_start}
use Rattle.tap_rule.specs.Strange.{is_strange}
use Rattle.tap_rule.proofs.KeptNode.{joiner_law}
use Rattle.tap_safety.specs.Move.{may_start}
use Rattle.tap_safety.specs.Moved.{starter}
use Rattle.tap_safety.specs.Exchanges.{AreNumbered, numbered_from}
use Rattle.tap_safety.specs.System.{System, AmongFrames}
use Rattle.tap_safety.proofs.Moved.{delivers, found, starts}
use Rattle.tap_safety.proofs.UnderWay.{among_sent}
use Rattle.tap_safety.proofs.Said.{Said, said_of}
use Rattle.tap_safety.proofs.Said.Said.{IsCast}
use Rattle.tap_moves.specs.Delivered.{after_delivery, after_start}
use Rattle.tap_moves.specs.KnownNames.{AreNodes}
use Rattle.tap_moves.proofs.Exchanged.{exchanges, in_either}
use Rattle.tap_moves.proofs.Got.{among_all}
use Rattle.tap_safety_moves.specs.Arrivals.{is_deepest_copy}
use Rattle.tap_safety_moves.specs.Shallow.{AreShallow, IsShallow}
use Rattle.tap_safety_moves.specs.Sound.{SoundBasis}
use Rattle.tap_safety_moves.proofs.ShallowRules.{SendsShallow, rule_shallow, start_shallow}

-- ---- a node acts

-- these frames are no copies of casts that are deeper than their levels
abbrev AreShallowFrames : List Frame → Type 0
AreShallowFrames frames = All (λ f. IsShallow f.body) frames

module _ (node : NodeState) where
  -- words and Lays are no copies of casts
  frames_shallow : (r : Reaction) → SendsShallow r → AreShallowFrames (frames_of (name_of node) r)
  frames_shallow r shallow =
      let from = name_of node in
      let So : Frame → Type 0 = λ f. IsShallow f.body in
      All-append So (map (link_frame from) (by_receiver r.words)) (map (message_frame from) r.messages ++ map (lay_frame from) r.lays)
      (All-map So (link_frame from) (by_receiver r.words) (λ k d within. tt))
      (All-append So (map (message_frame from) r.messages) (map (lay_frame from) r.lays)
      (All-map So (message_frame from) r.messages shallow) (All-map So (lay_frame from) r.lays (λ k d within. tt)))

  ends_shallow : (r : Reaction) → SendsShallow r → (status : Status)
      → AreShallowFrames (carried_out (name_of node) (completed status r)).sent
  ends_shallow r shallow Joining = frames_shallow (reconciles r) shallow
  ends_shallow r shallow Core = frames_shallow (reconciles r) shallow
  ends_shallow r shallow Leaving = frames_shallow (reconciles r) shallow
  ends_shallow r shallow Gone = frames_shallow r shallow
  ends_shallow r shallow Ceased = frames_shallow r shallow

  none_sent : AreShallowFrames []
  none_sent = All-nil (λ f. IsShallow f.body)

  follows_shallow : (rule : Option Reaction) → IfSome rule SendsShallow → AreShallowFrames (follows node rule).sent
  follows_shallow None shallow = none_sent
  follows_shallow (Some r) shallow = ends_shallow r shallow r.state.status

  frame_shallow : IsTable node.ties.table → (frame : Frame) → IsShallow frame.body → AreShallowFrames (act node (Takes frame)).sent
  unfolding act
  frame_shallow valid frame shallow = by_test (is_strange node frame)
    where
      by_test : (strange : Bool) → AreShallowFrames
          (cond strange (refuses node) (follows node (rule_of_frame node.status node frame.from frame.body))).sent
      by_test true = none_sent
      by_test false =
          follows_shallow (rule_of_frame node.status node frame.from frame.body)
          (rule_shallow node frame.from valid node.status frame.body shallow)

  started_shallow : IsTable node.ties.table → (start : Start) → AreShallowFrames (act node (Starts start)).sent
  unfolding act
  started_shallow valid start = follows_shallow (rule_of_start node.status node start) (start_shallow node valid node.status start)

-- ---- moves

-- a frame that is under way then was before, or is one of those sent
shallow_after : (s s' : System) (sent : List Frame) → AreShallowFrames sent → AreShallow s
    → ((m : ℕ) (f : Frame) → AmongFrames m f s'.frames → AmongFrames m f s.frames ⊎ AmongFrames m f (numbered_from s.next sent))
    → AreShallow s'
shallow_after s s' sent all shallow either = record {
  each = λ m f among. elim (either m f among) [
    | inl old ↦ shallow.each m f old
    | inr comes ↦ among_all (λ f. IsShallow f.body) sent all f (among_sent s.next sent m f comes)
  ];
}

pub shallow_delivered : (p : SettingsValue) (s : System) (number : ℕ) (frame : Frame) (node : NodeState) → AreNodes p s → AreNumbered s
    → AmongFrames number frame s.frames → s.node frame.to ≡ Some node → AreShallow s → AreShallow (after_delivery p s number)
shallow_delivered p s number frame node nodes numbers among at shallow =
    let valid = (nodes.nodes frame.to node at).is_node.ties.table in
    let step = delivers p s number frame node (found number frame 0 s.frames s.next numbers.numbers among) at in
    let acted = act node (Takes frame) in
    shallow_after s (after_delivery p s number) acted.sent (frame_shallow node valid frame (shallow.each number frame among)) shallow
    (exchanges s (after_delivery p s number) number frame acted.sent step.taken numbers).was

-- a node that starts something
starter_shallow : (p : SettingsValue) (s : System) (x : List ℕ) (start : Start) (node : NodeState) → IsTable node.ties.table
    → starter p s x start ≡ Some node → AreShallow s → AreShallow (after_start p s x start)
starter_shallow p s x start node valid is shallow =
    let step = starts p s x start node is in
    let acted = act node (Starts start) in
    shallow_after s (after_start p s x start) acted.sent (started_shallow node valid start) shallow
    (λ m f among. in_either m f s.frames (numbered_from s.next acted.sent) (rw step.sent.after at among))

pub shallow_started : (p : SettingsValue) (s : System) (x : List ℕ) (start : Start) → AreNodes p s → may_start p s x start → AreShallow s
    → AreShallow (after_start p s x start)
shallow_started p s x (Join via) nodes may shallow =
    let core = nodes.nodes via may.core.state may.core.is in
    let limits = subst AreWithinLimits core.settings core.is_node.ties.table.limits in
    starter_shallow p s x (Join via) (joiner p x) (joiner_law p x limits may.name).ties.table refl shallow
shallow_started p s x Abandon nodes may shallow =
    starter_shallow p s x Abandon may.state (nodes.nodes x may.state may.is).is_node.ties.table may.is shallow
shallow_started p s x Leave nodes may shallow =
    starter_shallow p s x Leave may.acts.state (nodes.nodes x may.acts.state may.acts.is).is_node.ties.table may.acts.is shallow
shallow_started p s x (Publish object) nodes may shallow =
    starter_shallow p s x (Publish object) may.acts.state (nodes.nodes x may.acts.state may.acts.is).is_node.ties.table may.acts.is shallow
shallow_started p s x (Withdraw object) nodes may shallow =
    starter_shallow p s x (Withdraw object) may.acts.state (nodes.nodes x may.acts.state may.acts.is).is_node.ties.table may.acts.is shallow
shallow_started p s x (Find ticket object) nodes may shallow =
    starter_shallow p s x (Find ticket object) may.acts.state (nodes.nodes x may.acts.state may.acts.is).is_node.ties.table may.acts.is
    shallow
shallow_started p s x (StartCast cast level word) nodes may shallow =
    starter_shallow p s x (StartCast cast level word) may.acts.state (nodes.nodes x may.acts.state may.acts.is).is_node.ties.table
    may.acts.is shallow

-- ---- so no copy comes to the greatest depth

-- levels are of the digits, which are at most 40
no_deepest : (p : SettingsValue) {body : Body} → Said body → p.digits ≤ 40 → IsBody p body → IsShallow body → is_deepest_copy body ≡ false
no_deepest p (IsCast {level = level} {depth = depth}) digits is shallow =
    elim (cases_Bool (eqb depth 65535)) [
      | inl deepest ↦
          let same = eqb-true depth 65535 deepest in
          let level_to = is.0.1 in
          absurd (the_least depth level p.digits digits level_to shallow same)
      | inr other ↦ other
    ]
  where
    the_least : (depth level digits : ℕ) → digits ≤ 40 → level ≤ digits → depth ≤ level → depth ≡ 65535 → ⊥
    the_least depth level digits forty to shallow same = omega (arith, forty, to, shallow, same)
no_deepest p _ digits is shallow = refl

pub comes_shallow : (p : SettingsValue) (s : System) (number : ℕ) (frame : Frame) (node : NodeState) → SoundBasis p s
    → AmongFrames number frame s.frames → s.node frame.to ≡ Some node → is_deepest_copy frame.body ≡ false
comes_shallow p s number frame node sound among at =
    let of = sound.nodes.nodes frame.to node at in
    let limits = subst AreWithinLimits of.settings of.is_node.ties.table.limits in
    no_deepest p (said_of frame.body) limits.digits_to (sound.basis.spelled.each number frame among).body (sound.shallow.each number frame among)
