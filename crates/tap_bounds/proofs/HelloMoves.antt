-- Each possible move keeps that few Hellos are sent; so it holds at each moment of a run.
-- Cited above: few_are_once, run_hellos_few
use Rattle.std.proofs.Common.{◌≡◌, ◌≢◌, ◌⊎◌, ℕ, ◌+◌, ◌≤◌, Bool, false, List, [], ◌∷◌, ◌++◌, Option, None, Some, arith, ap, refl, sym, subst, ◌∙◌, inl, inr}
use Rattle.std.specs.Prelude.{IfSome, count_by}
use Rattle.std.proofs.lemmas.List.Elements.{All-cons, All-nil}
use Rattle.std.proofs.lemmas.Option.{IfSome_then}
use Rattle.tap_name.specs.Settings.{SettingsValue}
use Rattle.tap_name.specs.declared.slot.Slot.{Slot}
use Rattle.tap_join.specs.Seek.{sought}
use Rattle.tap_join.specs.declared.sought.Sought.{Sought}
use Rattle.tap_join.specs.declared.sought.Sought.TheVariants.{Forward, Surrogate}
use Rattle.tap_multicast.specs.Covers.{level_kept}
use Rattle.tap_wire.specs.declared.frame.Body.{Body}
use Rattle.tap_wire.specs.declared.frame.Body.TheVariants.{Ack, Seek}
use Rattle.tap_wire.specs.declared.frame.Frame.{Frame}
use Rattle.tap_wire.specs.declared.frame.TellFields.{TellFields}
use Rattle.tap_rule.specs.Act.{act}
use Rattle.tap_rule.specs.Ceasing.{takes_tell_ceased}
use Rattle.tap_rule.specs.Covering.{first_request, request_of, takes_seek_as}
use Rattle.tap_rule.specs.Event.{Acted, Start}
use Rattle.tap_rule.specs.Event.Event.{Starts, Takes}
use Rattle.tap_rule.specs.Event.Start.{Join, Abandon, Publish, Withdraw, Find, Leave, Cast}
use Rattle.tap_rule.specs.FrameRules.{frame_at_ceased, frame_at_core, frame_at_joining, frame_at_leaving, rule_of_frame}
use Rattle.tap_rule.specs.RuleLaws.{IsCarriedOut, IsIgnored, frame_to}
use Rattle.tap_rule.specs.Node.{NodeState, Status, joiner, name_of}
use Rattle.tap_rule.specs.Node.Status.{Ceased, Core, Gone, Joining, Leaving}
use Rattle.tap_rule.specs.Reaction.{Reaction, message}
use Rattle.tap_rule.specs.Sending.{message_frame}
use Rattle.tap_rule.specs.StartRules.{rule_of_start}
use Rattle.tap_rule.specs.Strange.{is_strange}
use Rattle.tap_rule.proofs.CarriedOut.{frame_law, start_law, unruled_law, unruled_start_law}
use Rattle.tap_safety.specs.AtRest.{system_at_rest}
use Rattle.tap_safety.specs.Frames.{tell_body}
use Rattle.tap_safety.specs.Move.{Move, may_start}
use Rattle.tap_safety.specs.Move.Move.{Begins, Delivers}
use Rattle.tap_safety.specs.Moved.{moved, starter}
use Rattle.tap_safety.specs.System.{System, AmongFrames}
use Rattle.tap_safety.proofs.Moved.{starts}
use Rattle.tap_safety.proofs.Said.{Said, said_of}
use Rattle.tap_safety.proofs.Said.Said.{IsSeek, IsTell}
use Rattle.tap_moves.specs.ByRule.{taken_at}
use Rattle.tap_moves.specs.Delivered.{after_delivery, after_start}
use Rattle.tap_moves.specs.InvariantLaws.{IsDelivery}
use Rattle.tap_moves.proofs.Got.{same_name}
use Rattle.tap_moves.proofs.InvariantMoves.{due}
use Rattle.tap_moves.proofs.MovesMade.{by_rule, is_found}
use Rattle.tap_safety_moves.specs.SoundMoves.{after_moves, may_run}
use Rattle.tap_safety_moves.specs.Sound.{Sound}
use Rattle.tap_safety_moves.proofs.Members.{sound_at_rest}
use Rattle.tap_safety_moves.proofs.SoundMoves.{move_keeps}
use Rattle.tap_safety_moves.proofs.Delivered.{is_delivery}
use Rattle.tap_bounds.specs.Hellos.{FewAreOnce, HellosAreFew, HellosAtRest, MoveKeepsHellos, RunHellosFew, if_covered, is_core_hello, is_joining_hello, most_as_core, most_as_joining}
use Rattle.tap_bounds.specs.FewSent.{traffic_of}
use Rattle.tap_bounds.specs.Traffic.{Traffic, no_traffic, sent_by, traffic_after}
use Rattle.tap_bounds.proofs.Counting.{count-append, count-map_none, counted}
use Rattle.tap_bounds.proofs.HelloRules.{IsUngreeting, Ungreeting, keeps, rule_ungreeting, start_ungreeting}
use Rattle.tap_bounds.proofs.HelloSteps.{Greets, core_from, core_most, core_tests, joining_from, joining_most, joining_tests, meets_greet, pins_greet, ungreeting_greets}

-- ---- what a node does

-- of a step: what a rule sends and allows, and nobody sends in another's name
pub record ActedGreets (node : NodeState) (acted : Acted) : Type 0 where
  pub core : (b : List ℕ) → count_by (is_core_hello (name_of node) b) acted.sent + most_as_core node.status node b
      ≤ most_as_core acted.state.status acted.state b
  pub joining : (b : List ℕ) → count_by (is_joining_hello (name_of node) b) acted.sent + most_as_joining node.status node b
      ≤ most_as_joining acted.state.status acted.state b
  pub no_core : (x b : List ℕ) → x ≢ name_of node → count_by (is_core_hello x b) acted.sent ≤ 0
  pub no_joining : (x b : List ℕ) → x ≢ name_of node → count_by (is_joining_hello x b) acted.sent ≤ 0

-- what a state allows rests on its status, its covers and whom it has greeted
alike_core : (one two : NodeState) (b : List ℕ) → one.status ≡ two.status → one.covers ≡ two.covers
    → most_as_core one.status one b ≡ most_as_core two.status two b
alike_core one two b status covers = ap (λ s. most_as_core s one b) status ∙ by two.status
  where
    by : (s : Status) → most_as_core s one b ≡ most_as_core s two b
    by Joining = ap (λ cs. if_covered (level_kept cs b)) covers
    by Core = ap (λ cs. if_covered (level_kept cs b)) covers
    by Leaving = ap (λ cs. if_covered (level_kept cs b)) covers
    by Gone = refl
    by Ceased = refl

alike_joining : (one two : NodeState) (b : List ℕ) → one.status ≡ two.status → one.greeted ≡ two.greeted
    → most_as_joining one.status one b ≡ most_as_joining two.status two b
alike_joining one two b status greeted = ap (λ s. most_as_joining s one b) status ∙ by two.status
  where
    by : (s : Status) → most_as_joining s one b ≡ most_as_joining s two b
    by Joining = rw greeted refl
    by Core = refl
    by Leaving = refl
    by Gone = refl
    by Ceased = refl

carried_greets : (node : NodeState) (r : Reaction) (acted : Acted) → IsCarriedOut node r acted → Greets node r → ActedGreets node acted
carried_greets node r acted carried greets = record {
  core = λ b.
      let all = counted (is_core_hello own b) (core_tests own b) node r acted carried in
      let more = greets.core b in
      let same = alike_core acted.state r.state b carried.status carried.covers in
      omega (arith, all, more, same);
  joining = λ b.
      let all = counted (is_joining_hello own b) (joining_tests own b) node r acted carried in
      let more = greets.joining b in
      let same = alike_joining acted.state r.state b carried.status carried.greeted in
      omega (arith, all, more, same);
  no_core = λ x b other.
      let all = counted (is_core_hello x b) (core_tests x b) node r acted carried in
      let none = count-map_none (is_core_hello x b) (message_frame own) (core_from own x b other) r.messages in
      omega (arith, all, none);
  no_joining = λ x b other.
      let all = counted (is_joining_hello x b) (joining_tests x b) node r acted carried in
      let none = count-map_none (is_joining_hello x b) (message_frame own) (joining_from own x b other) r.messages in
      omega (arith, all, none);
}
  where
    own : List ℕ
    own = name_of node

ignored_greets : (node : NodeState) (acted : Acted) → IsIgnored node acted → ActedGreets node acted
ignored_greets node acted ignored = record {
  core = λ b.
      let none = ap (count_by (is_core_hello (name_of node) b)) ignored.sent in
      let same = ap (λ (n : NodeState). most_as_core n.status n b) ignored.state in
      omega (arith, none, same);
  joining = λ b.
      let none = ap (count_by (is_joining_hello (name_of node) b)) ignored.sent in
      let same = ap (λ (n : NodeState). most_as_joining n.status n b) ignored.state in
      omega (arith, none, same);
  no_core = λ x b other. let none = ap (count_by (is_core_hello x b)) ignored.sent in omega (arith, none);
  no_joining = λ x b other. let none = ap (count_by (is_joining_hello x b)) ignored.sent in omega (arith, none);
}

frame_greets : (node : NodeState) (frame : Frame) → is_strange node frame ≡ false
    → IfSome (rule_of_frame node.status node frame.from frame.body) (Greets node) → ActedGreets node (act node (Takes frame))
frame_greets node frame fits greets = by (rule_of_frame node.status node frame.from frame.body) refl greets
  where
    by : (rule : Option Reaction) → rule_of_frame node.status node frame.from frame.body ≡ rule → IfSome rule (Greets node)
        → ActedGreets node (act node (Takes frame))
    by None is greets = ignored_greets node (act node (Takes frame)) (unruled_law node frame is)
    by (Some r) is greets = carried_greets node r (act node (Takes frame)) (frame_law node frame r fits is) greets

start_greets : (node : NodeState) (start : Start) → ActedGreets node (act node (Starts start))
start_greets node start = by (rule_of_start node.status node start) refl (start_ungreeting node node.status refl start)
  where
    by : (rule : Option Reaction) → rule_of_start node.status node start ≡ rule → IfSome rule (Ungreeting node)
        → ActedGreets node (act node (Starts start))
    by None is none = ignored_greets node (act node (Starts start)) (unruled_start_law node start is)
    by (Some r) is none =
        carried_greets node r (act node (Starts start)) (start_law node start r is) (ungreeting_greets node r none)

-- ---- what it does at a frame

module _ (node : NodeState) (from : List ℕ) where
  seeking : (b : List ℕ) (found : Sought) → node.status ≡ Core → Greets node (takes_seek_as node b found)
  seeking b (Forward next) at =
      ungreeting_greets node (takes_seek_as node b (Forward next)) (keeps node (takes_seek_as node b (Forward next)) refl refl refl
      (All-cons (λ m. IsUngreeting m.body) (message next (Seek b)) [] tt (All-nil (λ m. IsUngreeting m.body))))
  seeking b (Surrogate prefix) at = pins_greet node (first_request node b prefix) at

  seek_rule : (b : List ℕ) (status : Status) → node.status ≡ status → IfSome (rule_of_frame status node from (Seek b)) (Greets node)
  unfolding frame_at_joining frame_at_core frame_at_leaving frame_at_ceased
  seek_rule b Joining at = tt
  seek_rule b Core at = seeking b (sought node.ties.table b) at
  seek_rule b Leaving at = tt
  seek_rule b Gone at = tt
  seek_rule b Ceased at = tt

  tell_rule : (tell : TellFields) (watch : List Slot) (status : Status) → node.status ≡ status
      → IfSome (rule_of_frame status node from (tell_body tell watch)) (Greets node)
  unfolding frame_at_joining frame_at_core frame_at_leaving frame_at_ceased
  tell_rule tell watch Joining at = meets_greet node from tell at
  tell_rule tell watch Core at = pins_greet node (request_of from tell watch) at
  tell_rule tell watch Leaving at = tt
  tell_rule tell watch Gone at = tt
  tell_rule tell watch Ceased at =
      ungreeting_greets node (takes_tell_ceased node from tell.session) (keeps node (takes_tell_ceased node from tell.session) refl refl refl
      (All-cons (λ m. IsUngreeting m.body) (message from (Ack tell.session)) [] tt (All-nil (λ m. IsUngreeting m.body))))

  rule_greets : (body : Body) → Said body → IfSome (rule_of_frame node.status node from body) (Greets node)
  rule_greets _ (IsSeek b) = seek_rule b node.status refl
  rule_greets _ (IsTell tell watch) = tell_rule tell watch node.status refl
  rule_greets body _ =
      IfSome_then (rule_of_frame node.status node from body) (rule_ungreeting node from node.status refl body tt)
      (ungreeting_greets node)

-- ---- what that makes of a system

module _ (s s' : System) (r r' : Traffic) (node : NodeState) (acted : Acted) (at : s'.node (name_of node) ≡ Some acted.state)
    (others : (y : List ℕ) → (y ≡ name_of node) ⊎ (s'.node y ≡ s.node y)) (all : r'.sent ≡ r.sent ++ acted.sent)
    (greets : ActedGreets node acted)
    (old_core : (b : List ℕ) → count_by (is_core_hello (name_of node) b) r.sent ≤ most_as_core node.status node b)
    (old_joining : (b : List ℕ) → count_by (is_joining_hello (name_of node) b) r.sent ≤ most_as_joining node.status node b)
    (few : HellosAreFew s r) where
  abbrev own : List ℕ
  own = name_of node

  total : (test : Frame → Bool) → count_by test r'.sent ≡ count_by test r.sent + count_by test acted.sent
  total test = ap (count_by test) all ∙ count-append test r.sent acted.sent

  kept : (x : List ℕ) → x ≢ own → s.node x ≡ s'.node x
  kept x other = elim (others x) [ inl same ↦ absurd (other same) | inr stays ↦ sym stays ]

  state_is : (x : List ℕ) (n : NodeState) → x ≡ own → s'.node x ≡ Some n → acted.state ≡ n
  state_is x n same is = let here : Some acted.state ≡ Some n = sym at ∙ ap s'.node (sym same) ∙ is in cc

  not_none : (x : List ℕ) → x ≡ own → s'.node x ≡ None → ⊥
  not_none x same nobody =
      let wrong : ◌≡◌ {A = Option NodeState} None (Some acted.state) = sym nobody ∙ ap s'.node same ∙ at in cc

  own_core : (b : List ℕ) → count_by (is_core_hello own b) r'.sent ≤ most_as_core acted.state.status acted.state b
  own_core b =
      let sum = total (is_core_hello own b) in
      let before = old_core b in
      let more = greets.core b in
      omega (arith, sum, before, more)

  own_joining : (b : List ℕ) → count_by (is_joining_hello own b) r'.sent ≤ most_as_joining acted.state.status acted.state b
  own_joining b =
      let sum = total (is_joining_hello own b) in
      let before = old_joining b in
      let more = greets.joining b in
      omega (arith, sum, before, more)

  pub hellos_kept : HellosAreFew s' r'
  hellos_kept = record {
    core = λ x n is b. elim (same_name x own) [
      | inl same ↦
          subst (λ y. count_by (is_core_hello y b) r'.sent ≤ most_as_core n.status n b) (sym same)
          (subst (λ (m : NodeState). count_by (is_core_hello own b) r'.sent ≤ most_as_core m.status m b) (state_is x n same is)
          (own_core b))
      | inr other ↦
          let sum = total (is_core_hello x b) in
          let none = greets.no_core x b other in
          let before = few.core x n (kept x other ∙ is) b in
          omega (arith, sum, none, before)
    ];
    joining = λ x n is b. elim (same_name x own) [
      | inl same ↦
          subst (λ y. count_by (is_joining_hello y b) r'.sent ≤ most_as_joining n.status n b) (sym same)
          (subst (λ (m : NodeState). count_by (is_joining_hello own b) r'.sent ≤ most_as_joining m.status m b) (state_is x n same is)
          (own_joining b))
      | inr other ↦
          let sum = total (is_joining_hello x b) in
          let none = greets.no_joining x b other in
          let before = few.joining x n (kept x other ∙ is) b in
          omega (arith, sum, none, before)
    ];
    fresh_core = λ x nobody b. elim (same_name x own) [
      | inl same ↦ absurd (not_none x same nobody)
      | inr other ↦
          let sum = total (is_core_hello x b) in
          let none = greets.no_core x b other in
          let before = few.fresh_core x (kept x other ∙ nobody) b in
          omega (arith, sum, none, before)
    ];
    fresh_joining = λ x nobody b. elim (same_name x own) [
      | inl same ↦ absurd (not_none x same nobody)
      | inr other ↦
          let sum = total (is_joining_hello x b) in
          let none = greets.no_joining x b other in
          let before = few.fresh_joining x (kept x other ∙ nobody) b in
          omega (arith, sum, none, before)
    ];
  }

-- ---- frames

delivery_keeps : (p : SettingsValue) (s : System) (r : Traffic) (number : ℕ) (node : NodeState) (from : List ℕ) (body : Body)
    → IsDelivery p s number node from body → HellosAreFew s r
    → HellosAreFew (after_delivery p s number) (traffic_after p s r (Delivers number))
unfolding sent_by
delivery_keeps p s r number node from body is few =
    let comes = due p s number node from body is in
    let step = by_rule p s number node from body comes in
    let here = is.at in
    let sent : sent_by p s (Delivers number) ≡ (taken_at node from body).sent = rw (is_found p s number node from body comes, here) refl in
    hellos_kept s (after_delivery p s number) r (traffic_after p s r (Delivers number)) node (taken_at node from body) step.at.is
    step.at.others (ap (λ fs. r.sent ++ fs) sent) (frame_greets node (frame_to node from body) is.known (rule_greets node from body (said_of body)))
    (λ b. few.core (name_of node) node is.at b) (λ b. few.joining (name_of node) node is.at b) few

frame_keeps : (p : SettingsValue) (s : System) (r : Traffic) (number : ℕ) (frame : Frame) (node : NodeState) → Sound p s
    → HellosAreFew s r → AmongFrames number frame s.frames → s.node frame.to ≡ Some node
    → HellosAreFew (after_delivery p s number) (traffic_after p s r (Delivers number))
frame_keeps p s r number frame node sound few among at =
    delivery_keeps p s r number node frame.from frame.body (is_delivery p s number frame node sound among at) few

-- ---- starts

starter_keeps : (p : SettingsValue) (s : System) (r : Traffic) (start : Start) (node : NodeState)
    → starter p s (name_of node) start ≡ Some node
    → ((b : List ℕ) → count_by (is_core_hello (name_of node) b) r.sent ≤ most_as_core node.status node b)
    → ((b : List ℕ) → count_by (is_joining_hello (name_of node) b) r.sent ≤ most_as_joining node.status node b)
    → HellosAreFew s r → HellosAreFew (after_start p s (name_of node) start) (traffic_after p s r (Begins (name_of node) start))
unfolding sent_by
starter_keeps p s r start node there old_core old_joining few =
    let done = (starts p s (name_of node) start node there).done in
    let sent : sent_by p s (Begins (name_of node) start) ≡ (act node (Starts start)).sent = rw there refl in
    hellos_kept s (after_start p s (name_of node) start) r (traffic_after p s r (Begins (name_of node) start)) node
    (act node (Starts start)) done.is done.others (ap (λ fs. r.sent ++ fs) sent) (start_greets node start) old_core old_joining few

-- a node that is there starts something
here_keeps : (p : SettingsValue) (s : System) (r : Traffic) (x : List ℕ) (start : Start) (node : NodeState) → s.node x ≡ Some node
    → starter p s x start ≡ Some node → Sound p s → HellosAreFew s r
    → HellosAreFew (after_start p s x start) (traffic_after p s r (Begins x start))
here_keeps p s r x start node at there sound few =
    let name : name_of node ≡ x = (sound.nodes.nodes x node at).name in
    subst (λ y. HellosAreFew (after_start p s y start) (traffic_after p s r (Begins y start))) name
    (starter_keeps p s r start node (subst (λ y. starter p s y start ≡ Some node) (sym name) there)
    (λ b. few.core (name_of node) node (ap s.node name ∙ at) b) (λ b. few.joining (name_of node) node (ap s.node name ∙ at) b) few)

start_keeps : (p : SettingsValue) (s : System) (r : Traffic) (x : List ℕ) (start : Start) → may_start p s x start → Sound p s
    → HellosAreFew s r → HellosAreFew (after_start p s x start) (traffic_after p s r (Begins x start))
start_keeps p s r x (Join via) may sound few =
    starter_keeps p s r (Join via) (joiner p x) refl
    (λ b. let none = few.fresh_core x may.fresh b in omega (arith, none))
    (λ b. let none = few.fresh_joining x may.fresh b in omega (arith, none)) few
start_keeps p s r x Abandon may sound few = here_keeps p s r x Abandon may.state may.is may.is sound few
start_keeps p s r x Leave may sound few = here_keeps p s r x Leave may.acts.state may.acts.is may.acts.is sound few
start_keeps p s r x (Publish object) may sound few =
    here_keeps p s r x (Publish object) may.acts.state may.acts.is may.acts.is sound few
start_keeps p s r x (Withdraw object) may sound few =
    here_keeps p s r x (Withdraw object) may.acts.state may.acts.is may.acts.is sound few
start_keeps p s r x (Find ticket object) may sound few =
    here_keeps p s r x (Find ticket object) may.acts.state may.acts.is may.acts.is sound few
start_keeps p s r x (Cast cast level word) may sound few =
    here_keeps p s r x (Cast cast level word) may.acts.state may.acts.is may.acts.is sound few

-- ---- moves, and runs

pub move_keeps_hellos : MoveKeepsHellos
move_keeps_hellos p s r (Begins x start) may sound few = start_keeps p s r x start may sound few
move_keeps_hellos p s r (Delivers number) may sound few =
    frame_keeps p s r number may.frame may.receiver.state sound few may.among may.receiver.is

pub few_are_once : FewAreOnce
few_are_once s r few = record {
  core = λ x b. core x b (s.node x) refl;
  joining = λ x b. joining x b (s.node x) refl;
}
  where
    core : (x b : List ℕ) (found : Option NodeState) → s.node x ≡ found → count_by (is_core_hello x b) r.sent ≤ 1
    core x b None is = let none = few.fresh_core x is b in omega (arith, none)
    core x b (Some node) is =
        let some = few.core x node is b in
        let most = core_most node.status node b in
        omega (arith, some, most)

    joining : (x b : List ℕ) (found : Option NodeState) → s.node x ≡ found → count_by (is_joining_hello x b) r.sent ≤ 1
    joining x b None is = let none = few.fresh_joining x is b in omega (arith, none)
    joining x b (Some node) is =
        let some = few.joining x node is b in
        let most = joining_most node.status node b in
        omega (arith, some, most)

pub hellos_at_rest : HellosAtRest
hellos_at_rest p members are = record {
  core = λ x node at b. omega arith;
  joining = λ x node at b. omega arith;
  fresh_core = λ x nobody b. omega arith;
  fresh_joining = λ x nobody b. omega arith;
}

run_from : (p : SettingsValue) (s : System) (r : Traffic) (moves : List Move) → Sound p s → HellosAreFew s r → may_run p s moves
    → HellosAreFew (after_moves p s moves) (traffic_of p s r moves)
run_from p s r [] sound few may = few
run_from p s r (move ∷ moves) sound few may =
    run_from p (moved p s move) (traffic_after p s r move) moves (move_keeps p s move may.0 sound)
    (move_keeps_hellos p s r move may.0 sound few) may.1

pub run_hellos_few : RunHellosFew
run_hellos_few p members moves are may =
    run_from p (system_at_rest p members) no_traffic moves (sound_at_rest p members are) (hellos_at_rest p members are) may
