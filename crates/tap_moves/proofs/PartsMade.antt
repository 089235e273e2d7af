-- Each node stays one that speaks of names, and each frame has a spelling, once a frame is delivered and once something is started.
-- Cited above: parts_kept, start_keeps_parts
use Rattle.std.proofs.Common.{◌≡◌, ◌⊎◌, arith, ℕ, Bool, List, ◌++◌, length, map, Option, None, Some, All, true, false, refl, sym, ap, subst, ◌∙◌, inl, inr}
use Rattle.std.specs.Prelude.{IfSome}
use Rattle.std.proofs.lemmas.Bool.{cases_Bool}
use Rattle.std.proofs.lemmas.List.Elements.{All-append, All-map, All-nil}
use Rattle.tap_name.specs.Name.{IsName}
use Rattle.tap_name.specs.Settings.{AreWithinLimits, SettingsValue}
use Rattle.tap_table.specs.declared.tie.Tie.{Tie}
use Rattle.tap_table.specs.Table.{TableValue}
use Rattle.tap_pointer.specs.Reconcile.{AreLaid, reconcile_lays, reconciled, wanted_hop}
use Rattle.tap_wire.specs.declared.frame.Body.{Body}
use Rattle.tap_wire.specs.declared.frame.Frame.{Frame}
use Rattle.tap_wire.specs.Spelling.{IsFrame}
use Rattle.tap_rule.specs.Act.{act, carried_out, completed, follows, ignores}
use Rattle.tap_rule.specs.Event.{Acted, Event, Start}
use Rattle.tap_rule.specs.Event.Event.{Starts, Takes}
use Rattle.tap_rule.specs.Event.Start.{Abandon, Cast as StartCast, Find, Join, Leave, Publish, Withdraw}
use Rattle.tap_rule.specs.FrameRules.{frame_at_ceased, rule_of_frame}
use Rattle.tap_rule.specs.KeptNode.{IsNode, IsStart, KeepsNode}
use Rattle.tap_rule.specs.Node.{IsRunning, NodeState, Status, joiner, name_of, settings_of}
use Rattle.tap_rule.specs.Node.Status.{Ceased, Core, Gone, Joining, Leaving}
use Rattle.tap_rule.specs.Pointers.{reconciles, with_reconciled}
use Rattle.tap_rule.specs.Reaction.{Reaction}
use Rattle.tap_rule.specs.Sending.{by_receiver, frames_of, lay_frame, link_frame, message_frame}
use Rattle.tap_rule.specs.StartRules.{rule_of_start}
use Rattle.tap_rule.specs.Strange.{is_strange}
use Rattle.tap_rule.proofs.Among.{among-by_receiver_from}
use Rattle.tap_rule.proofs.Completed.{runs_or_ended}
use Rattle.tap_rule.proofs.CarriedOut.{frame_law, strange_law, unruled_law, unruled_start_law}
use Rattle.tap_rule.proofs.KeptNode.{joiner_law, kept_law, start_kept_law}
use Rattle.tap_rule.proofs.Laid.{laid_law}
use Rattle.tap_safety.specs.Move.Move.{Begins, Delivers}
use Rattle.tap_safety.specs.Moved.{starter}
use Rattle.tap_safety.specs.Spelled.{AreSpelled}
use Rattle.tap_safety.specs.Exchanges.{numbered_from}
use Rattle.tap_safety.specs.System.{System, AmongFrames}
use Rattle.tap_safety.proofs.Moved.{delivers, found, starts}
use Rattle.tap_safety.proofs.Said.{Said, said_of}
use Rattle.tap_safety.proofs.Said.Said.{IsAck, IsCast, IsHeard, IsLink, IsTell}
use Rattle.tap_moves.specs.Delivered.{after_delivery, after_start}
use Rattle.tap_moves.specs.InvariantLaws.{MoveKeepsParts, PartsKept, StartKeepsParts}
use Rattle.tap_moves.specs.KnownNames.{AreNamedPairs, AreNodes, IsNamedPair, IsNodeOf, IsParent, KnowsNames}
use Rattle.tap_moves.proofs.Exchanged.{exchanges, in_either, sent_numbered}
use Rattle.tap_moves.proofs.FewLinks.{none_linked}
use Rattle.tap_moves.proofs.Got.{all_among, among_all}
use Rattle.tap_moves.proofs.Spelled.{IsNamedLay, reconciled_lays, reconciled_pairs}
use Rattle.tap_moves.proofs.SpelledJoins.{IsForName, IsSpelled}
use Rattle.tap_moves.proofs.SpelledRules.{SaysNames, frame_spelled, start_spelled}

-- ---- one step

-- what holds of these words holds of them by receiver
all_by_receiver : (P : Tie → Type 0) (words : List Tie) → All P words → All P (by_receiver words)
all_by_receiver P words all =
    all_among P (by_receiver words) (λ word among. among_all P words all word (among-by_receiver_from word words among))

module _ (node : NodeState) (is : IsNode node) (has : KnowsNames (settings_of node) node) where
  abbrev p : SettingsValue
  p = settings_of node

  -- what a step leaves and sends
  record IsSpelledStep (acted : Acted) : Type 0 where
    knows : KnowsNames p acted.state
    frames : All (IsFrame p) acted.sent

  frames_spelled : (r : Reaction) → IsSpelled p r → All (IsFrame p) (frames_of (name_of node) r)
  frames_spelled r spelled =
      let own = is.ties.table.owner in
      All-append (IsFrame p) (map (link_frame (name_of node)) (by_receiver r.words))
      (map (message_frame (name_of node)) r.messages ++ map (lay_frame (name_of node)) r.lays)
      (All-map (IsFrame p) (link_frame (name_of node)) (by_receiver r.words) (λ k d inside.
      record { sender = own; receiver = all_by_receiver (IsForName p) r.words spelled.words k d inside; body = tt }))
      (All-append (IsFrame p) (map (message_frame (name_of node)) r.messages) (map (lay_frame (name_of node)) r.lays)
      (All-map (IsFrame p) (message_frame (name_of node)) r.messages (λ k d inside.
      let one = spelled.messages k d inside in record { sender = own; receiver = one.to; body = one.body }))
      (All-map (IsFrame p) (lay_frame (name_of node)) r.lays (λ k d inside.
      let one = spelled.lays k d inside in
      record { sender = own; receiver = one.to; body = (one.object, one.server, one.level) })))

  -- reconciling sends Lays that are about names
  reconciles_spelled : (r : Reaction) → IsSpelled p r → KeepsNode node (with_reconciled r.state) → IsSpelled p (reconciles r)
  reconciles_spelled r spelled kept =
      let t : TableValue = r.state.ties.table in
      let pointers = r.state.pointers in
      let named = subst (λ q. AreNamedPairs q pointers) (sym kept.settings) spelled.knows.pairs in
      let valid = kept.node.ties.table in
      record {
        knows = record {
          parents = spelled.knows.parents;
          cast_parents = spelled.knows.cast_parents;
          pairs =
              subst (λ q. AreNamedPairs q (reconciled t pointers)) kept.settings
              (reconciled_pairs t valid r.state.stamp pointers named kept.node.objects kept.node.pointers);
          few = spelled.knows.few;
        };
        words = spelled.words;
        messages = spelled.messages;
        lays =
            subst (λ q. All (IsNamedLay q) (reconcile_lays t r.state.stamp pointers)) kept.settings
            (reconciled_lays t valid r.state.stamp pointers named kept.node.objects kept.node.pointers);
      }

  completed_spelled : (r : Reaction) (status : Status) → IsSpelled p r
      → KeepsNode node (carried_out (name_of node) (completed status r)).state → IsSpelled p (completed status r)
  completed_spelled r Joining spelled kept = reconciles_spelled r spelled kept
  completed_spelled r Core spelled kept = reconciles_spelled r spelled kept
  completed_spelled r Leaving spelled kept = reconciles_spelled r spelled kept
  completed_spelled r Gone spelled kept = spelled
  completed_spelled r Ceased spelled kept = spelled

  ignored_spelled : IsSpelledStep (ignores node)
  ignored_spelled = record { knows = has; frames = All-nil (IsFrame p) }

  followed_spelled : (rule : Option Reaction) → IfSome rule (IsSpelled p) → KeepsNode node (follows node rule).state
      → IsSpelledStep (follows node rule)
  followed_spelled None spelled kept = ignored_spelled
  followed_spelled (Some r) spelled kept =
      let all = completed_spelled r r.state.status spelled kept in
      record { knows = all.knows; frames = frames_spelled (completed r.state.status r) all }

  taken_spelled : (frame : Frame) → IsFrame p frame → IsSpelledStep (act node (Takes frame))
  unfolding act
  taken_spelled frame keeps = by_strange (is_strange node frame) refl
    where
      by_strange : (strange : Bool) → is_strange node frame ≡ strange → IsSpelledStep (act node (Takes frame))
      by_strange true same = rw same (record { knows = has; frames = All-nil (IsFrame p) })
      by_strange false same =
          let kept : KeepsNode node (follows node (rule_of_frame node.status node frame.from frame.body)).state =
          rw same at (kept_law node frame is keeps) in
          rw same (followed_spelled (rule_of_frame node.status node frame.from frame.body)
          (frame_spelled node is has frame.from keeps.sender node.status frame.body keeps.body same) kept)

  -- what a start publishes is a name
  is_start : (start : Start) → SaysNames node is has start → IsStart p start
  is_start (Publish object) named = named
  is_start (Join via) named = tt
  is_start Abandon named = tt
  is_start (Withdraw object) named = tt
  is_start (Find ticket object) named = tt
  is_start Leave named = tt
  is_start (StartCast cast level word) named = tt

  started_spelled : (start : Start) → SaysNames node is has start → IsSpelledStep (act node (Starts start))
  unfolding act
  started_spelled start named =
      followed_spelled (rule_of_start node.status node start) (start_spelled node is has node.status start named)
      (start_kept_law node start is (is_start start named))

-- ---- a node that has ended stays so

rule_stays : (node : NodeState) (from : List ℕ) (body : Body) (status : Status) → (IsRunning status → ⊥)
    → IfSome (rule_of_frame status node from body) (λ r. r.state.status ≡ node.status)
unfolding frame_at_ceased
rule_stays node from body Joining over = absurd (over tt)
rule_stays node from body Core over = absurd (over tt)
rule_stays node from body Leaving over = absurd (over tt)
rule_stays node from body Gone over = tt
rule_stays node from body Ceased over = by_said (said_of body)
  where
    by_said : {body : Body} → Said body → IfSome (frame_at_ceased node from body) (λ r. r.state.status ≡ node.status)
    by_said (IsTell tell watch) = refl
    by_said (IsHeard session) = refl
    by_said (IsAck session) = refl
    by_said (IsLink version on) = refl
    by_said IsCast = refl
    by_said _ = tt

no_rule : (node : NodeState) (start : Start) (status : Status) → (IsRunning status → ⊥) → rule_of_start status node start ≡ None
no_rule node start Joining over = absurd (over tt)
no_rule node start Core over = absurd (over tt)
no_rule node start Leaving over = absurd (over tt)
no_rule node start Gone over = refl
no_rule node start Ceased over = refl

stays_ended : (node : NodeState) (event : Event) → (IsRunning node.status → ⊥) → (act node event).state.status ≡ node.status
stays_ended node (Starts start) over =
    ap (λ (n : NodeState). n.status) (unruled_start_law node start (no_rule node start node.status over)).state
stays_ended node (Takes frame) over =
    elim (cases_Bool (is_strange node frame)) [
      | inl strange ↦ ap (λ (n : NodeState). n.status) (strange_law node frame strange).0.state
      | inr known ↦
          by_rule known (rule_of_frame node.status node frame.from frame.body) refl (rule_stays node frame.from frame.body node.status over)
    ]
  where
    by_rule : is_strange node frame ≡ false → (rule : Option Reaction) → rule_of_frame node.status node frame.from frame.body ≡ rule
        → IfSome rule (λ r. r.state.status ≡ node.status) → (act node (Takes frame)).state.status ≡ node.status
    by_rule known None same stays = ap (λ (n : NodeState). n.status) (unruled_law node frame same).state
    by_rule known (Some r) same stays = (frame_law node frame r known same).status ∙ stays

-- so the pairs of a node that runs are laid as wanted
stays_laid : (node : NodeState) (event : Event) → (IsRunning node.status → AreLaid node.ties.table node.pointers)
    → IsRunning (act node event).state.status → AreLaid (act node event).state.ties.table (act node event).state.pointers
stays_laid node event laid running =
    elim (runs_or_ended node.status) [
      | inl runs ↦ laid_law node event (laid runs) running
      | inr over ↦ absurd (over (subst IsRunning (stays_ended node event over) running))
    ]

-- ---- a node by its name

module _ (p : SettingsValue) (x : List ℕ) where
  still_of : (before : NodeState) (event : Event) → IsNodeOf p x before → KeepsNode before (act before event).state
      → KnowsNames (settings_of before) (act before event).state → IsNodeOf p x (act before event).state
  still_of before event of kept knows = record {
    is_node = kept.node;
    name = kept.name ∙ of.name;
    settings = kept.settings ∙ of.settings;
    knows = subst (λ q. KnowsNames q (act before event).state) of.settings knows;
    laid = stays_laid before event of.laid;
  }

nodes_after : (p : SettingsValue) (s s' : System) (x : List ℕ) (after : NodeState) → s'.node x ≡ Some after
    → ((y : List ℕ) → (y ≡ x) ⊎ (s'.node y ≡ s.node y)) → IsNodeOf p x after → AreNodes p s → AreNodes p s'
nodes_after p s s' x after at others here are = record {
  nodes = λ y node is. elim (others y) [
    | inl same ↦
        let now : s'.node x ≡ Some node = ap s'.node (sym same) ∙ is in
        let one : after ≡ node = cc in
        subst (λ n. IsNodeOf p y n) one (subst (λ z. IsNodeOf p z after) (sym same) here)
    | inr other ↦ are.nodes y node (sym other ∙ is)
  ];
}

-- frames that come have spellings
frames_after : (p : SettingsValue) (s s' : System) (sent : List Frame) → All (IsFrame p) sent → AreSpelled p s
    → ((m : ℕ) (f : Frame) → AmongFrames m f s'.frames → AmongFrames m f s.frames ⊎ AmongFrames m f (numbered_from s.next sent))
    → AreSpelled p s'
frames_after p s s' sent all are either = record {
  each = λ m f among. elim (either m f among) [
    | inl old ↦ are.each m f old
    | inr comes ↦ among_all (IsFrame p) sent all f (sent_numbered m f s.next sent comes)
  ];
}

pub parts_kept : PartsKept
parts_kept p s number frame node nodes frames numbers among at =
    let s' = after_delivery p s number in
    let of = nodes.nodes frame.to node at in
    let step = delivers p s number frame node (found number frame 0 s.frames s.next numbers.numbers among) at in
    let fits = subst (λ q. IsFrame q frame) (sym of.settings) (frames.each number frame among) in
    let knows = subst (λ q. KnowsNames q node) (sym of.settings) of.knows in
    let acted = act node (Takes frame) in
    let spelled = taken_spelled node of.is_node knows frame fits in
    let here = still_of p frame.to node (Takes frame) of (kept_law node frame of.is_node fits) spelled.knows in
    let all = subst (λ q. All (IsFrame q) acted.sent) of.settings spelled.frames in (
      nodes_after p s s' frame.to acted.state step.at.is step.at.others here nodes,
      frames_after p s s' acted.sent all frames (exchanges s s' number frame acted.sent step.taken numbers).was,
    )

-- ---- starts

-- a node that starts something, by its name
start_keeps : (p : SettingsValue) (s : System) (x : List ℕ) (start : Start) (node : NodeState) → AreNodes p s → AreSpelled p s
    → (of : IsNodeOf p x node) → starter p s x start ≡ Some node
    → SaysNames node of.is_node (subst (λ q. KnowsNames q node) (sym of.settings) of.knows) start
    → AreNodes p (after_start p s x start) × AreSpelled p (after_start p s x start)
start_keeps p s x start node nodes frames of is named =
    let s' = after_start p s x start in
    let step = starts p s x start node is in
    let knows = subst (λ q. KnowsNames q node) (sym of.settings) of.knows in
    let acted = act node (Starts start) in
    let spelled = started_spelled node of.is_node knows start named in
    let kept = start_kept_law node start of.is_node (is_start node of.is_node knows start named) in
    let all = subst (λ q. All (IsFrame q) acted.sent) of.settings spelled.frames in (
      nodes_after p s s' x acted.state step.done.is step.done.others (still_of p x node (Starts start) of kept spelled.knows) nodes,
      frames_after p s s' acted.sent all frames (λ m f among.
          in_either m f s.frames (numbered_from s.next acted.sent) (rw step.sent.after at among)),
    )

-- who starts to join is a node
joiner_of : (p : SettingsValue) (x : List ℕ) → AreWithinLimits p → IsName p x → IsNodeOf p x (joiner p x)
joiner_of p x limits name =
    let is = joiner_law p x limits name in
    let none = ap length (none_linked p x is.ties.table) in
    record {
      is_node = is;
      name = refl;
      settings = refl;
      knows = record {
        parents = All-nil (λ s. IsParent p s.parent);
        cast_parents = All-nil (λ s. IsParent p s.parent);
        pairs = All-nil (IsNamedPair p);
        few = omega (arith, none);
      };
      laid = λ running. All-nil (λ e. e.1.laid ≡ wanted_hop (joiner p x).ties.table e);
    }

pub start_keeps_parts : StartKeepsParts
start_keeps_parts p s x (Join via) nodes frames may named =
    let core = nodes.nodes via may.core.state may.core.is in
    let limits = subst AreWithinLimits core.settings core.is_node.ties.table.limits in
    let by = subst (λ q. IsName q via) core.settings (subst (IsName (settings_of may.core.state)) core.name core.is_node.ties.table.owner) in
    start_keeps p s x (Join via) (joiner p x) nodes frames (joiner_of p x limits may.name) refl by
start_keeps_parts p s x Abandon nodes frames may named =
    start_keeps p s x Abandon may.state nodes frames (nodes.nodes x may.state may.is) may.is tt
start_keeps_parts p s x Leave nodes frames may named =
    start_keeps p s x Leave may.acts.state nodes frames (nodes.nodes x may.acts.state may.acts.is) may.acts.is tt
start_keeps_parts p s x (Publish object) nodes frames may named =
    let of = nodes.nodes x may.acts.state may.acts.is in
    start_keeps p s x (Publish object) may.acts.state nodes frames of may.acts.is (subst (λ q. IsName q object) (sym of.settings) named)
start_keeps_parts p s x (Withdraw object) nodes frames may named =
    start_keeps p s x (Withdraw object) may.acts.state nodes frames (nodes.nodes x may.acts.state may.acts.is) may.acts.is tt
start_keeps_parts p s x (Find ticket object) nodes frames may named =
    let of = nodes.nodes x may.acts.state may.acts.is in
    start_keeps p s x (Find ticket object) may.acts.state nodes frames of may.acts.is (subst (λ q. IsName q object) (sym of.settings) named)
start_keeps_parts p s x (StartCast cast level word) nodes frames may named =
    start_keeps p s x (StartCast cast level word) may.acts.state nodes frames (nodes.nodes x may.acts.state may.acts.is) may.acts.is named

-- ---- moves

pub move_keeps_parts : MoveKeepsParts
move_keeps_parts p s (Begins x start) nodes frames numbers may named = start_keeps_parts p s x start nodes frames may named
move_keeps_parts p s (Delivers number) nodes frames numbers may named =
    parts_kept p s number may.frame may.receiver.state nodes frames numbers may.among may.receiver.is
