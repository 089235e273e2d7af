-- Each possible move keeps that few Acks are sent; so it holds at each moment of a run.
-- Cited above: run_acks_few
use Rattle.std.proofs.Common.{◌≡◌, ◌≢◌, ◌⊎◌, ℕ, nat_eq, ◌+◌, ◌≤◌, Bool, true, false, cond, List, [], ◌∷◌, ◌++◌, map, Option, None, Some, arith, ap, refl, sym, subst, ◌∙◌, inl, inr}
use Rattle.std.specs.Prelude.{◌&&◌}
use Rattle.std.specs.Cmp.Lexicographic.{pointwise}
use Rattle.std.proofs.lemmas.Bool.{cases_Bool}
use Rattle.std.proofs.lemmas.Slice.Eq.{bytes_eq-Decides}
use Rattle.tap_session.specs.Session.{SessionsValue}
use Rattle.std.specs.Prelude.{IfSome, count_by}
use Rattle.tap_name.specs.Names.{has_name}
use Rattle.tap_name.specs.Settings.{SettingsValue}
use Rattle.tap_name.specs.declared.slot.Slot.{Slot}
use Rattle.tap_join.specs.Seek.{sought}
use Rattle.tap_wire.specs.declared.frame.Body.{Body}
use Rattle.tap_wire.specs.declared.frame.Body.TheVariants.{Seek}
use Rattle.tap_wire.specs.declared.frame.Frame.{Frame}
use Rattle.tap_wire.specs.declared.frame.TellFields.{TellFields}
use Rattle.tap_rule.specs.Act.{act}
use Rattle.tap_rule.specs.Covering.{request_of}
use Rattle.tap_rule.specs.Event.{Acted, Start}
use Rattle.tap_rule.specs.Event.Event.{Starts, Takes}
use Rattle.tap_rule.specs.Event.Start.{Join, Abandon, Publish, Withdraw, Find, Leave, Cast}
use Rattle.tap_rule.specs.FrameRules.{frame_at_ceased, frame_at_core, frame_at_joining, frame_at_leaving, rule_of_frame}
use Rattle.tap_rule.specs.RuleLaws.{IsCarriedOut, IsIgnored, frame_to}
use Rattle.tap_rule.specs.Node.{NodeState, Status, joiner, member_at_rest, name_of}
use Rattle.tap_rule.specs.Node.Status.{Ceased, Core, Gone, Joining, Leaving}
use Rattle.tap_rule.specs.Reaction.{Message, Reaction}
use Rattle.tap_rule.specs.Sending.{message_frame}
use Rattle.tap_rule.specs.StartRules.{rule_of_start}
use Rattle.tap_rule.specs.Strange.{is_strange}
use Rattle.tap_rule.proofs.CarriedOut.{frame_law, start_law, unruled_law, unruled_start_law}
use Rattle.tap_safety.specs.AtRest.{member_of, system_at_rest}
use Rattle.tap_safety.specs.Frames.{tell_body}
use Rattle.tap_safety.specs.Move.{Move, may_start}
use Rattle.tap_safety.specs.Move.Move.{Begins, Delivers}
use Rattle.tap_safety.specs.Moved.{moved, starter}
use Rattle.tap_safety.specs.System.{System, AmongFrames}
use Rattle.tap_safety.proofs.Moved.{starts}
use Rattle.tap_safety.proofs.Said.{Said, said_of}
use Rattle.tap_safety.proofs.Said.Said.{IsSeek, IsTell}
use Rattle.tap_moves.specs.ByRule.{taken_at}
use Rattle.tap_moves.specs.Delivered.{after_delivery, after_start}
use Rattle.tap_moves.specs.InvariantLaws.{IsDelivery}
use Rattle.tap_moves.proofs.Got.{same_name}
use Rattle.tap_moves.proofs.InvariantMoves.{due}
use Rattle.tap_moves.proofs.MovesMade.{by_rule, is_found}
use Rattle.tap_safety_moves.specs.SoundMoves.{after_moves, may_run}
use Rattle.tap_safety_moves.specs.Sound.{Sound}
use Rattle.tap_safety_moves.proofs.Members.{sound_at_rest}
use Rattle.tap_safety_moves.proofs.SoundMoves.{move_keeps}
use Rattle.tap_safety_moves.proofs.Delivered.{is_delivery}
use Rattle.tap_bounds.specs.Acks.{AcksAreFew, AcksAtRest, MoveKeepsAcks, RunAcksFew, is_ack, is_ack_from, is_tell_body, is_tell_to}
use Rattle.tap_bounds.specs.FewSent.{traffic_of}
use Rattle.tap_bounds.specs.Traffic.{Traffic, frames_taken_by, no_traffic, sent_by, traffic_after}
use Rattle.tap_bounds.proofs.Counting.{CountsMessages, count-append, count-cons, count-map_none, counted}
use Rattle.tap_bounds.proofs.AckRules.{FewAcks, acks_in, below, rule_acks, start_acks}
use Rattle.tap_bounds.proofs.AckSteps.{ceased_acks, meets_acks, pins_acks, seeks_acks}

-- ---- what a node does

no_and : (a : Bool) → (a && false) ≡ false
no_and true = refl
no_and false = refl

ack_tests : (x : List ℕ) → CountsMessages (is_ack_from x)
ack_tests x = record { links = λ own word. refl; lays = λ own l. refl }

-- what a node sends isn't from another name
ack_from : (own x : List ℕ) → x ≢ own → (m : Message) → is_ack_from x (message_frame own m) ≡ false
ack_from own x other m =
    elim (cases_Bool (pointwise nat_eq own x)) [
      | inl same ↦ absurd (other (sym ((bytes_eq-Decides own x).0 same)))
      | inr apart ↦ rw apart (no_and (is_ack m.body))
    ]

both_and : (a c : Bool) → cond {A = ℕ} (a && c) 1 0 ≤ cond {A = ℕ} a 1 0
both_and true true = omega arith
both_and true false = omega arith
both_and false c = omega arith

acks_of : (own : List ℕ) (messages : List Message)
    → count_by (is_ack_from own) (map (message_frame own) messages) ≤ acks_in messages
acks_of own [] = omega arith
acks_of own (m ∷ messages) =
    let one = count-cons (is_ack_from own) (message_frame own m) (map (message_frame own) messages) in
    let two = count-cons (λ (n : Message). is_ack n.body) m messages in
    let here = both_and (is_ack m.body) (pointwise nat_eq own own) in
    let others = acks_of own messages in
    omega (arith, one, two, here, others)

-- of a step: what a rule sends and leaves open, and nobody sends in another's name
pub record ActedAcks (node : NodeState) (more : ℕ) (acted : Acted) : Type 0 where
  pub own : count_by (is_ack_from (name_of node)) acted.sent + below acted.state.sessions.sessions
      ≤ below node.sessions.sessions + more
  pub others : (x : List ℕ) → x ≢ name_of node → count_by (is_ack_from x) acted.sent ≤ 0

carried_acks : (node : NodeState) (more : ℕ) (r : Reaction) (acted : Acted) → IsCarriedOut node r acted → FewAcks node more r
    → ActedAcks node more acted
carried_acks node more r acted carried few = record {
  own =
      let all = counted (is_ack_from (name_of node)) (ack_tests (name_of node)) node r acted carried in
      let less = acks_of (name_of node) r.messages in
      let now = few.few in
      let same = ap (λ (s : SessionsValue). below s.sessions) carried.sessions in
      omega (arith, all, less, now, same);
  others = λ x other.
      let all = counted (is_ack_from x) (ack_tests x) node r acted carried in
      let none = count-map_none (is_ack_from x) (message_frame (name_of node)) (ack_from (name_of node) x other) r.messages in
      omega (arith, all, none);
}

ignored_acks : (node : NodeState) (more : ℕ) (acted : Acted) → IsIgnored node acted → ActedAcks node more acted
ignored_acks node more acted ignored = record {
  own =
      let none = ap (count_by (is_ack_from (name_of node))) ignored.sent in
      let same = ap (λ (n : NodeState). below n.sessions.sessions) ignored.state in
      omega (arith, none, same);
  others = λ x other. let none = ap (count_by (is_ack_from x)) ignored.sent in omega (arith, none);
}

frame_acks : (node : NodeState) (more : ℕ) (frame : Frame) → is_strange node frame ≡ false
    → IfSome (rule_of_frame node.status node frame.from frame.body) (FewAcks node more) → ActedAcks node more (act node (Takes frame))
frame_acks node more frame fits few = by (rule_of_frame node.status node frame.from frame.body) refl few
  where
    by : (rule : Option Reaction) → rule_of_frame node.status node frame.from frame.body ≡ rule → IfSome rule (FewAcks node more)
        → ActedAcks node more (act node (Takes frame))
    by None is few = ignored_acks node more (act node (Takes frame)) (unruled_law node frame is)
    by (Some r) is few = carried_acks node more r (act node (Takes frame)) (frame_law node frame r fits is) few

begun_acks : (node : NodeState) (start : Start) → ActedAcks node 0 (act node (Starts start))
begun_acks node start = by (rule_of_start node.status node start) refl (start_acks node node.status start)
  where
    by : (rule : Option Reaction) → rule_of_start node.status node start ≡ rule → IfSome rule (FewAcks node 0)
        → ActedAcks node 0 (act node (Starts start))
    by None is few = ignored_acks node 0 (act node (Starts start)) (unruled_start_law node start is)
    by (Some r) is few = carried_acks node 0 r (act node (Starts start)) (start_law node start r is) few

-- ---- what it does at a frame

module _ (node : NodeState) (from : List ℕ) where
  seek_rule : (b : List ℕ) (status : Status) → IfSome (rule_of_frame status node from (Seek b)) (FewAcks node 0)
  unfolding frame_at_joining frame_at_core frame_at_leaving frame_at_ceased
  seek_rule b Joining = tt
  seek_rule b Core = seeks_acks node b (sought node.ties.table b)
  seek_rule b Leaving = tt
  seek_rule b Gone = tt
  seek_rule b Ceased = tt

  tell_rule : (tell : TellFields) (watch : List Slot) (status : Status)
      → IfSome (rule_of_frame status node from (tell_body tell watch)) (FewAcks node 1)
  unfolding frame_at_joining frame_at_core frame_at_leaving frame_at_ceased
  tell_rule tell watch Joining = meets_acks node from tell
  tell_rule tell watch Core = pins_acks node (request_of from tell watch)
  tell_rule tell watch Leaving = tt
  tell_rule tell watch Gone = tt
  tell_rule tell watch Ceased = ceased_acks node from tell

  rule_few : (body : Body) → Said body → IfSome (rule_of_frame node.status node from body) (FewAcks node (cond (is_tell_body body) 1 0))
  rule_few _ (IsSeek b) = seek_rule b node.status
  rule_few _ (IsTell tell watch) = tell_rule tell watch node.status
  rule_few body _ = rule_acks node from node.status body tt

-- ---- what that makes of a system

module _ (s s' : System) (r r' : Traffic) (node : NodeState) (more : ℕ) (acted : Acted) (at : s'.node (name_of node) ≡ Some acted.state)
    (others : (y : List ℕ) → (y ≡ name_of node) ⊎ (s'.node y ≡ s.node y)) (all : r'.sent ≡ r.sent ++ acted.sent)
    (taken : List Frame) (all_taken : r'.taken ≡ r.taken ++ taken) (tells : more ≤ count_by (is_tell_to (name_of node)) taken)
    (acks : ActedAcks node more acted)
    (old : count_by (is_ack_from (name_of node)) r.sent + below node.sessions.sessions ≤ count_by (is_tell_to (name_of node)) r.taken)
    (few : AcksAreFew s r) where
  abbrev own : List ℕ
  own = name_of node

  kept : (x : List ℕ) → x ≢ own → s.node x ≡ s'.node x
  kept x other = elim (others x) [ inl same ↦ absurd (other same) | inr stays ↦ sym stays ]

  total : (x : List ℕ) → count_by (is_ack_from x) r'.sent ≡ count_by (is_ack_from x) r.sent + count_by (is_ack_from x) acted.sent
  total x = ap (count_by (is_ack_from x)) all ∙ count-append (is_ack_from x) r.sent acted.sent

  total_taken : (x : List ℕ) → count_by (is_tell_to x) r'.taken ≡ count_by (is_tell_to x) r.taken + count_by (is_tell_to x) taken
  total_taken x = ap (count_by (is_tell_to x)) all_taken ∙ count-append (is_tell_to x) r.taken taken

  own_few : count_by (is_ack_from own) r'.sent + below acted.state.sessions.sessions ≤ count_by (is_tell_to own) r'.taken
  own_few =
      let one = total own in
      let two = total_taken own in
      let now = acks.own in
      omega (arith, one, two, now, old, tells)

  pub acks_kept : AcksAreFew s' r'
  acks_kept = record {
    each = λ x n is. elim (same_name x own) [
      | inl same ↦
          let here : Some acted.state ≡ Some n = sym at ∙ ap s'.node (sym same) ∙ is in
          let state : acted.state ≡ n = cc in
          subst (λ y. count_by (is_ack_from y) r'.sent + below n.sessions.sessions ≤ count_by (is_tell_to y) r'.taken) (sym same)
          (subst (λ (m : NodeState). count_by (is_ack_from own) r'.sent + below m.sessions.sessions ≤ count_by (is_tell_to own) r'.taken)
          state own_few)
      | inr other ↦
          let one = total x in
          let two = total_taken x in
          let none = acks.others x other in
          let before = few.each x n (kept x other ∙ is) in
          omega (arith, one, two, none, before)
    ];
    fresh = λ x nobody. elim (same_name x own) [
      | inl same ↦
          let wrong : ◌≡◌ {A = Option NodeState} None (Some acted.state) = sym nobody ∙ ap s'.node same ∙ at in
          absurd (cc)
      | inr other ↦
          let one = total x in
          let none = acks.others x other in
          let before = few.fresh x (kept x other ∙ nobody) in
          omega (arith, one, none, before)
    ];
  }

-- a frame that is a Tell counts as one to its receiver
tell_counts : (own from : List ℕ) (body : Body)
    → cond {A = ℕ} (is_tell_body body) 1 0 ≤ count_by (is_tell_to own) (record { from = from; to = own; body = body } ∷ [])
tell_counts own from body =
    let one = count-cons (is_tell_to own) (record { from = from; to = own; body = body }) [] in
    let same = (bytes_eq-Decides own own).1 refl in
    let here : cond {A = ℕ} (is_tell_body body) 1 0 ≤ cond {A = ℕ} (is_tell_body body && pointwise nat_eq own own) 1 0 =
    rw same (by (is_tell_body body)) in
    omega (arith, one, here)
  where
    by : (test : Bool) → cond {A = ℕ} test 1 0 ≤ cond {A = ℕ} (test && true) 1 0
    by true = omega arith
    by false = omega arith

-- ---- frames

delivery_keeps : (p : SettingsValue) (s : System) (r : Traffic) (number : ℕ) (node : NodeState) (from : List ℕ) (body : Body)
    → IsDelivery p s number node from body → AcksAreFew s r
    → AcksAreFew (after_delivery p s number) (traffic_after p s r (Delivers number))
unfolding sent_by frames_taken_by
delivery_keeps p s r number node from body is few =
    let comes = due p s number node from body is in
    let step = by_rule p s number node from body comes in
    let here = is.at in
    let sent : sent_by p s (Delivers number) ≡ (taken_at node from body).sent = rw (is_found p s number node from body comes, here) refl in
    let took : frames_taken_by s (Delivers number) ≡ frame_to node from body ∷ [] = rw (is_found p s number node from body comes) refl in
    acks_kept s (after_delivery p s number) r (traffic_after p s r (Delivers number)) node (cond (is_tell_body body) 1 0)
    (taken_at node from body) step.at.is step.at.others (ap (λ fs. r.sent ++ fs) sent) (frame_to node from body ∷ [])
    (ap (λ fs. r.taken ++ fs) took) (tell_counts (name_of node) from body)
    (frame_acks node (cond (is_tell_body body) 1 0) (frame_to node from body) is.known (rule_few node from body (said_of body)))
    (few.each (name_of node) node is.at) few

frame_keeps : (p : SettingsValue) (s : System) (r : Traffic) (number : ℕ) (frame : Frame) (node : NodeState) → Sound p s
    → AcksAreFew s r → AmongFrames number frame s.frames → s.node frame.to ≡ Some node
    → AcksAreFew (after_delivery p s number) (traffic_after p s r (Delivers number))
frame_keeps p s r number frame node sound few among at =
    delivery_keeps p s r number node frame.from frame.body (is_delivery p s number frame node sound among at) few

-- ---- starts

starter_keeps : (p : SettingsValue) (s : System) (r : Traffic) (start : Start) (node : NodeState)
    → starter p s (name_of node) start ≡ Some node
    → count_by (is_ack_from (name_of node)) r.sent + below node.sessions.sessions ≤ count_by (is_tell_to (name_of node)) r.taken
    → AcksAreFew s r → AcksAreFew (after_start p s (name_of node) start) (traffic_after p s r (Begins (name_of node) start))
unfolding sent_by frames_taken_by
starter_keeps p s r start node there old few =
    let done = (starts p s (name_of node) start node there).done in
    let sent : sent_by p s (Begins (name_of node) start) ≡ (act node (Starts start)).sent = rw there refl in
    acks_kept s (after_start p s (name_of node) start) r (traffic_after p s r (Begins (name_of node) start)) node 0
    (act node (Starts start)) done.is done.others (ap (λ fs. r.sent ++ fs) sent) [] refl (omega arith) (begun_acks node start) old few

-- a node that is there starts something
here_keeps : (p : SettingsValue) (s : System) (r : Traffic) (x : List ℕ) (start : Start) (node : NodeState) → s.node x ≡ Some node
    → starter p s x start ≡ Some node → Sound p s → AcksAreFew s r
    → AcksAreFew (after_start p s x start) (traffic_after p s r (Begins x start))
here_keeps p s r x start node at there sound few =
    let name : name_of node ≡ x = (sound.nodes.nodes x node at).name in
    subst (λ y. AcksAreFew (after_start p s y start) (traffic_after p s r (Begins y start))) name
    (starter_keeps p s r start node (subst (λ y. starter p s y start ≡ Some node) (sym name) there)
    (few.each (name_of node) node (ap s.node name ∙ at)) few)

start_keeps : (p : SettingsValue) (s : System) (r : Traffic) (x : List ℕ) (start : Start) → may_start p s x start → Sound p s
    → AcksAreFew s r → AcksAreFew (after_start p s x start) (traffic_after p s r (Begins x start))
start_keeps p s r x (Join via) may sound few =
    let none = few.fresh x may.fresh in starter_keeps p s r (Join via) (joiner p x) refl (omega (arith, none)) few
start_keeps p s r x Abandon may sound few = here_keeps p s r x Abandon may.state may.is may.is sound few
start_keeps p s r x Leave may sound few = here_keeps p s r x Leave may.acts.state may.acts.is may.acts.is sound few
start_keeps p s r x (Publish object) may sound few =
    here_keeps p s r x (Publish object) may.acts.state may.acts.is may.acts.is sound few
start_keeps p s r x (Withdraw object) may sound few =
    here_keeps p s r x (Withdraw object) may.acts.state may.acts.is may.acts.is sound few
start_keeps p s r x (Find ticket object) may sound few =
    here_keeps p s r x (Find ticket object) may.acts.state may.acts.is may.acts.is sound few
start_keeps p s r x (Cast cast level word) may sound few =
    here_keeps p s r x (Cast cast level word) may.acts.state may.acts.is may.acts.is sound few

-- ---- moves, and runs

pub move_keeps_acks : MoveKeepsAcks
move_keeps_acks p s r (Begins x start) may sound few = start_keeps p s r x start may sound few
move_keeps_acks p s r (Delivers number) may sound few =
    frame_keeps p s r number may.frame may.receiver.state sound few may.among may.receiver.is

pub acks_at_rest : AcksAtRest
acks_at_rest p members are = record { each = λ x node at. none_open x node at; fresh = λ x nobody. omega arith }
  where
    none_open : (x : List ℕ) (node : NodeState) → member_of p members x ≡ Some node → 0 + below node.sessions.sessions ≤ 0
    none_open x node is = by (has_name members x) refl
      where
        by : (member : Bool) → has_name members x ≡ member → 0 + below node.sessions.sessions ≤ 0
        by true there =
            let here : Some (member_at_rest p members x) ≡ Some node = rw there at is in
            let same : member_at_rest p members x ≡ node = cc in
            subst (λ (n : NodeState). 0 + below n.sessions.sessions ≤ 0) same (omega arith)
        by false there = let here : ◌≡◌ {A = Option NodeState} None (Some node) = rw there at is in cc

run_from : (p : SettingsValue) (s : System) (r : Traffic) (moves : List Move) → Sound p s → AcksAreFew s r → may_run p s moves
    → AcksAreFew (after_moves p s moves) (traffic_of p s r moves)
run_from p s r [] sound few may = few
run_from p s r (move ∷ moves) sound few may =
    run_from p (moved p s move) (traffic_after p s r move) moves (move_keeps p s move may.0 sound)
    (move_keeps_acks p s r move may.0 sound few) may.1

pub run_acks_few : RunAcksFew
run_acks_few p members moves are may =
    run_from p (system_at_rest p members) no_traffic moves (sound_at_rest p members are) (acks_at_rest p members are) may
