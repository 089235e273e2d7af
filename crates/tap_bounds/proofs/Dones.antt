-- Each possible move keeps that few Dones are sent; so it holds at each moment of a run.
-- Cited above: run_dones_few
use Rattle.std.proofs.Common.{◌≡◌, ◌⊎◌, ℕ, nat_eq, ◌+◌, ◌≤◌, true, false, cond, List, [], ◌∷◌, Option, None, Some, arith, ap, refl, sym, subst, ◌∙◌, inl, inr}
use Rattle.std.specs.Prelude.{count_by}
use Rattle.std.specs.Cmp.Lexicographic.{pointwise}
use Rattle.std.proofs.lemmas.Bool.{and_parts, cases_Bool}
use Rattle.std.proofs.lemmas.Slice.Eq.{bytes_eq-Decides}
use Rattle.tap_name.specs.Settings.{SettingsValue}
use Rattle.tap_wire.specs.declared.frame.Body.{Body}
use Rattle.tap_wire.specs.declared.frame.Body.TheVariants.{Done}
use Rattle.tap_wire.specs.declared.frame.Frame.{Frame}
use Rattle.tap_rule.specs.Act.{act}
use Rattle.tap_rule.specs.Event.{Start}
use Rattle.tap_rule.specs.Event.Event.{Starts}
use Rattle.tap_rule.specs.Event.Start.{Join, Abandon, Publish, Withdraw, Find, Leave, Cast}
use Rattle.tap_rule.specs.RuleLaws.{frame_to}
use Rattle.tap_rule.specs.Node.{NodeState, joiner, name_of}
use Rattle.tap_rule.specs.Node.Status.{Joining}
use Rattle.tap_rule.specs.Strange.{is_strange}
use Rattle.tap_safety.specs.AtRest.{system_at_rest}
use Rattle.tap_safety.specs.Joins.{HasOneDone}
use Rattle.tap_safety.specs.Move.{Move, may_move, may_start}
use Rattle.tap_safety.specs.Move.Move.{Begins, Delivers}
use Rattle.tap_safety.specs.Moved.{moved, starter}
use Rattle.tap_safety.specs.Exchanges.{Ascend}
use Rattle.tap_safety.specs.System.{System, AmongFrames, IsJoiner}
use Rattle.tap_safety.proofs.Moved.{ascend_from, starts}
use Rattle.tap_moves.specs.ByRule.{taken_at}
use Rattle.tap_moves.specs.Delivered.{after_delivery, after_start}
use Rattle.tap_moves.specs.InvariantLaws.{IsDelivery}
use Rattle.tap_moves.proofs.InvariantMoves.{due, joins_here}
use Rattle.tap_moves.proofs.MovesMade.{by_rule, is_found}
use Rattle.tap_safety_moves.specs.SoundMoves.{after_moves, may_run}
use Rattle.tap_safety_moves.specs.Sound.{Sound}
use Rattle.tap_safety_moves.proofs.Members.{sound_at_rest}
use Rattle.tap_safety_moves.proofs.SoundMoves.{move_keeps}
use Rattle.tap_safety_moves.proofs.Delivered.{is_delivery}
use Rattle.tap_bounds.specs.Dones.{DonesAreFew, DonesAtRest, MoveKeepsDones, RunDonesFew, is_done_body, is_done_to}
use Rattle.tap_bounds.specs.FewSent.{traffic_of}
use Rattle.tap_bounds.specs.Taken.{AllAreKnown}
use Rattle.tap_bounds.specs.Traffic.{Traffic, frames_taken_by, no_traffic, traffic_after}
use Rattle.tap_bounds.proofs.Counting.{count-append, count-cons}
use Rattle.tap_bounds.proofs.DoneRules.{done_ends, frame_joins, start_joins}
use Rattle.tap_bounds.proofs.KnownTaken.{known_at_rest, move_keeps_known}

-- ---- the Dones under way

abbrev ways_to : List ℕ → List (ℕ × Frame) → ℕ
ways_to b frames = count_by (λ (f : ℕ × Frame). is_done_to b f.1) frames

done_is : (body : Body) → is_done_body body ≡ true → body ≡ Done
done_is Done is = refl
done_is other is = cc

-- such a frame, taken apart
done_frame : (b : List ℕ) (f : Frame) → is_done_to b f ≡ true → f ≡ record { from = f.from; to = b; body = Done }
done_frame b f is =
    let both = and_parts (is_done_body f.body) (pointwise nat_eq f.to b) is in
    let body = done_is f.body both.0 in
    let to = (bytes_eq-Decides f.to b).0 both.1 in
    ap (λ (t : List ℕ). record { from = f.from; to = t; body = f.body }) to
    ∙ ap (λ (d : Body). record { from = f.from; to = b; body = d }) body

-- one of them, if there are any
record IsDoneWay (b : List ℕ) (frames : List (ℕ × Frame)) : Type 0 where
  from : List ℕ
  number : ℕ
  among : AmongFrames number (record { from = from; to = b; body = Done }) frames

done_way : (b : List ℕ) (frames : List (ℕ × Frame)) → (ways_to b frames ≡ 0) ⊎ IsDoneWay b frames
done_way b [] = inl refl
done_way b (f ∷ fs) =
    elim (cases_Bool (is_done_to b f.1)) [
      | inl is ↦ inr (record { from = f.1.from; number = f.0; among = inl (refl, sym (done_frame b f.1 is)) })
      | inr other ↦ elim (done_way b fs) [
        | inl none ↦
            let first : cond {A = ℕ} (is_done_to b f.1) 1 0 ≡ 0 = rw other refl in
            let all = count-cons (λ (g : ℕ × Frame). is_done_to b g.1) f fs in
            inl (omega (arith, first, all, none))
        | inr way ↦ inr (record { from = way.from; number = way.number; among = inr way.among })
      ]
    ]

-- if each has one number, there is one at most
one_at_most : (b : List ℕ) (number low : ℕ) (frames : List (ℕ × Frame)) (high : ℕ) → Ascend low frames high
    → ((w : List ℕ) (m : ℕ) → AmongFrames m (record { from = w; to = b; body = Done }) frames → m ≡ number) → ways_to b frames ≤ 1
one_at_most b number low [] high ascend only = omega arith
one_at_most b number low (f ∷ fs) high (least, later) only =
    let all = count-cons (λ (g : ℕ × Frame). is_done_to b g.1) f fs in
    elim (cases_Bool (is_done_to b f.1)) [
      | inl is ↦
          let first : cond {A = ℕ} (is_done_to b f.1) 1 0 ≡ 1 = rw is refl in
          let here = only f.1.from f.0 (inl (refl, sym (done_frame b f.1 is))) in
          elim (done_way b fs) [
            | inl none ↦ omega (arith, all, first, none)
            | inr way ↦
                let there = only way.from way.number (inr way.among) in
                let more = ascend_from (f.0 + 1) fs high way.number (record { from = way.from; to = b; body = Done }) later way.among in
                absurd (omega (arith, here, there, more))
          ]
      | inr other ↦
          let first : cond {A = ℕ} (is_done_to b f.1) 1 0 ≡ 0 = rw other refl in
          let rest = one_at_most b number (f.0 + 1) fs high later (λ w m among. only w m (inr among)) in
          omega (arith, all, first, rest)
    ]

-- ---- what was taken

-- what is said of the Dones that were taken
record TakenAreFew (s : System) (r : Traffic) : Type 0 where
  once : (b : List ℕ) → count_by (is_done_to b) r.taken ≤ 1
  joining : (b : List ℕ) (node : NodeState) → s.node b ≡ Some node → node.status ≡ Joining → count_by (is_done_to b) r.taken ≡ 0
  fresh : (b : List ℕ) → s.node b ≡ None → count_by (is_done_to b) r.taken ≡ 0

-- of those that were sent one is under way at most, to a joiner, and then none was taken
sent_few : (p : SettingsValue) (s : System) (r : Traffic) → Sound p s → AllAreKnown s r → TakenAreFew s r → DonesAreFew s r
sent_few p s r sound known few = record {
  within = λ b. within b (done_way b s.frames);
  once = few.once;
  joining = few.joining;
  fresh = few.fresh;
}
  where
    of_joiner : (b : List ℕ) → IsJoiner s b → HasOneDone s b → count_by (is_done_to b) r.sent ≤ 1
    of_joiner b joins one =
        let all = known.each (is_done_to b) in
        let none = few.joining b joins.state joins.is joins.joining in
        let ways = one_at_most b one.number 0 s.frames s.next sound.invariant.basis.numbered.numbers one.only in
        omega (arith, all, none, ways)

    within : (b : List ℕ) → (ways_to b s.frames ≡ 0) ⊎ IsDoneWay b s.frames → count_by (is_done_to b) r.sent ≤ 1
    within b (inl none) =
        let all = known.each (is_done_to b) in
        let once = few.once b in
        omega (arith, all, none, once)
    within b (inr way) =
        let joins = sound.invariant.basis.of_joiners.dones way.from b (record { number = way.number; among = way.among }) in
        elim (sound.invariant.basis.ends_once.ends b joins) [
          | inl root ↦ absurd (root.1.none way.from (record { number = way.number; among = way.among }))
          | inr ended ↦ of_joiner b joins ended.1
        ]

-- ---- frames

module _ (p : SettingsValue) (s : System) (r : Traffic) (number : ℕ) (node : NodeState) (from : List ℕ) (body : Body)
    (is : IsDelivery p s number node from body) (few : DonesAreFew s r) where
  abbrev own : List ℕ
  own = name_of node

  abbrev s' : System
  s' = after_delivery p s number

  abbrev r' : Traffic
  r' = traffic_after p s r (Delivers number)

  abbrev frame : Frame
  frame = frame_to node from body

  others : (b : List ℕ) → (b ≡ own) ⊎ (s'.node b ≡ s.node b)
  others = (by_rule p s number node from body (due p s number node from body is)).at.others

  here : s'.node own ≡ Some (taken_at node from body).state
  here = (by_rule p s number node from body (due p s number node from body is)).at.is

  -- one more, if this is one
  taken_more : (b : List ℕ) → count_by (is_done_to b) r'.taken ≡ count_by (is_done_to b) r.taken + cond {A = ℕ} (is_done_to b frame) 1 0
  unfolding frames_taken_by
  taken_more b =
      let took : frames_taken_by s (Delivers number) ≡ frame ∷ [] =
      rw (is_found p s number node from body (due p s number node from body is)) refl in
      let all = count-append (is_done_to b) r.taken (frames_taken_by s (Delivers number)) in
      let one = ap (count_by (is_done_to b)) took in
      let first = count-cons (is_done_to b) frame [] in
      omega (arith, all, one, first)

  -- who joins joined, and who is no node was none
  joined : (b : List ℕ) (n : NodeState) → s'.node b ≡ Some n → n.status ≡ Joining
      → (m : NodeState) × (s.node b ≡ Some m) × (m.status ≡ Joining)
  joined b n at joins =
      elim (others b) [
        | inl same ↦
            let this : Some (taken_at node from body).state ≡ Some n = sym here ∙ ap s'.node (sym same) ∙ at in
            let state : (taken_at node from body).state ≡ n = cc in (
              node,
              ap s.node same ∙ is.at,
              frame_joins node frame (ap (λ (m : NodeState). m.status) state ∙ joins),
            )
        | inr stays ↦ (n, sym stays ∙ at, joins)
      ]

  was_none : (b : List ℕ) → s'.node b ≡ None → s.node b ≡ None
  was_none b nobody =
      elim (others b) [
        | inl same ↦
            let wrong : ◌≡◌ {A = Option NodeState} None (Some (taken_at node from body).state) = sym nobody ∙ ap s'.node same ∙ here in
            absurd (cc)
        | inr stays ↦ sym stays ∙ nobody
      ]

  -- another frame than a Done to this name
  none_more : (b : List ℕ) → is_done_to b frame ≡ false → count_by (is_done_to b) r'.taken ≡ count_by (is_done_to b) r.taken
  none_more b other =
      let more = taken_more b in
      let none : cond {A = ℕ} (is_done_to b frame) 1 0 ≡ 0 = rw other refl in
      omega (arith, more, none)

  -- a Done, to its receiver
  it_is : (b : List ℕ) → is_done_to b frame ≡ true → (own ≡ b) × (body ≡ Done)
  it_is b test =
      let both = and_parts (is_done_body body) (pointwise nat_eq own b) test in
      ((bytes_eq-Decides own b).0 both.1, done_is body both.0)

  receiver_joins : body ≡ Done → node.status ≡ Joining
  receiver_joins done =
      let among : AmongFrames number (record { from = from; to = own; body = Done }) s.frames =
      subst (λ (d : Body). AmongFrames number (frame_to node from d) s.frames) done is.among in
      joins_here s node (is.invariant.of_joiners.dones from own (record { number = number; among = among })) is.at

  no_more_joins : body ≡ Done → (taken_at node from body).state.status ≡ Joining → ⊥
  no_more_joins done joins =
      done_ends node from (receiver_joins done) (subst (λ (d : Body). is_strange node (frame_to node from d) ≡ false) done is.known)
      (subst (λ (d : Body). (taken_at node from d).state.status ≡ Joining) done joins)

  delivered_few : TakenAreFew s' r'
  delivered_few = record {
    once = λ b. elim (cases_Bool (is_done_to b frame)) [
      | inl test ↦
          let more = taken_more b in
          let one : cond {A = ℕ} (is_done_to b frame) 1 0 ≡ 1 = rw test refl in
          let it = it_is b test in
          let none = few.joining b node (ap s.node (sym it.0) ∙ is.at) (receiver_joins it.1) in
          omega (arith, more, one, none)
      | inr other ↦ let same = none_more b other in let before = few.once b in omega (arith, same, before)
    ];
    joining = λ b n at joins. elim (cases_Bool (is_done_to b frame)) [
      | inl test ↦
          let it = it_is b test in
          let this : Some (taken_at node from body).state ≡ Some n = sym here ∙ ap s'.node it.0 ∙ at in
          let state : (taken_at node from body).state ≡ n = cc in
          absurd (no_more_joins it.1 (ap (λ (m : NodeState). m.status) state ∙ joins))
      | inr other ↦
          let was = joined b n at joins in
          let same = none_more b other in
          let before = few.joining b was.0 was.1 was.2 in
          omega (arith, same, before)
    ];
    fresh = λ b nobody. elim (cases_Bool (is_done_to b frame)) [
      | inl test ↦
          let it = it_is b test in
          let wrong : ◌≡◌ {A = Option NodeState} None (Some node) = sym (was_none b nobody) ∙ ap s.node (sym it.0) ∙ is.at in
          absurd (cc)
      | inr other ↦
          let same = none_more b other in
          let before = few.fresh b (was_none b nobody) in
          omega (arith, same, before)
    ];
  }

frame_keeps : (p : SettingsValue) (s : System) (r : Traffic) (number : ℕ) (frame : Frame) (node : NodeState) → Sound p s
    → DonesAreFew s r → AmongFrames number frame s.frames → s.node frame.to ≡ Some node
    → TakenAreFew (after_delivery p s number) (traffic_after p s r (Delivers number))
frame_keeps p s r number frame node sound few among at =
    delivered_few p s r number node frame.from frame.body (is_delivery p s number frame node sound among at) few

-- ---- starts

module _ (p : SettingsValue) (s : System) (r : Traffic) (x : List ℕ) (start : Start) (node : NodeState)
    (there : starter p s x start ≡ Some node) (few : DonesAreFew s r)
    (joined_here : node.status ≡ Joining → count_by (is_done_to x) r.taken ≡ 0) where
  abbrev s'' : System
  s'' = after_start p s x start

  abbrev r'' : Traffic
  r'' = traffic_after p s r (Begins x start)

  same_taken : (b : List ℕ) → count_by (is_done_to b) r''.taken ≡ count_by (is_done_to b) r.taken
  unfolding frames_taken_by
  same_taken b = let all = count-append (is_done_to b) r.taken [] in omega (arith, all)

  started_few : TakenAreFew s'' r''
  started_few = record {
    once = λ b. let same = same_taken b in let before = few.once b in omega (arith, same, before);
    joining = λ b n at joins.
        let same = same_taken b in
        let done = (starts p s x start node there).done in
        elim (done.others b) [
          | inl it ↦
              let this : Some (act node (Starts start)).state ≡ Some n = sym done.is ∙ ap s''.node (sym it) ∙ at in
              let state : (act node (Starts start)).state ≡ n = cc in
              let before = joined_here (start_joins node start (ap (λ (m : NodeState). m.status) state ∙ joins)) in
              let here : count_by (is_done_to b) r.taken ≡ count_by (is_done_to x) r.taken =
              ap (λ c. count_by (is_done_to c) r.taken) it in
              omega (arith, same, before, here)
          | inr stays ↦ let before = few.joining b n (sym stays ∙ at) joins in omega (arith, same, before)
        ];
    fresh = λ b nobody.
        let same = same_taken b in
        let done = (starts p s x start node there).done in
        elim (done.others b) [
          | inl it ↦
              let wrong : ◌≡◌ {A = Option NodeState} None (Some (act node (Starts start)).state) =
              sym nobody ∙ ap s''.node it ∙ done.is in
              absurd (cc)
          | inr stays ↦ let before = few.fresh b (sym stays ∙ nobody) in omega (arith, same, before)
        ];
  }

start_keeps : (p : SettingsValue) (s : System) (r : Traffic) (x : List ℕ) (start : Start) → may_start p s x start → DonesAreFew s r
    → TakenAreFew (after_start p s x start) (traffic_after p s r (Begins x start))
start_keeps p s r x (Join via) may few =
    started_few p s r x (Join via) (joiner p x) refl few (λ joins. few.fresh x may.fresh)
start_keeps p s r x Abandon may few =
    started_few p s r x Abandon may.state may.is few (λ joins. few.joining x may.state may.is joins)
start_keeps p s r x Leave may few =
    started_few p s r x Leave may.acts.state may.acts.is few (λ joins. few.joining x may.acts.state may.acts.is joins)
start_keeps p s r x (Publish object) may few =
    started_few p s r x (Publish object) may.acts.state may.acts.is few (λ joins. few.joining x may.acts.state may.acts.is joins)
start_keeps p s r x (Withdraw object) may few =
    started_few p s r x (Withdraw object) may.acts.state may.acts.is few (λ joins. few.joining x may.acts.state may.acts.is joins)
start_keeps p s r x (Find ticket object) may few =
    started_few p s r x (Find ticket object) may.acts.state may.acts.is few (λ joins. few.joining x may.acts.state may.acts.is joins)
start_keeps p s r x (Cast cast level word) may few =
    started_few p s r x (Cast cast level word) may.acts.state may.acts.is few (λ joins. few.joining x may.acts.state may.acts.is joins)

-- ---- moves, and runs

taken_few : (p : SettingsValue) (s : System) (r : Traffic) (move : Move) → may_move p s move → Sound p s
    → DonesAreFew s r → TakenAreFew (moved p s move) (traffic_after p s r move)
taken_few p s r (Begins x start) may sound few = start_keeps p s r x start may few
taken_few p s r (Delivers number) may sound few =
    frame_keeps p s r number may.frame may.receiver.state sound few may.among may.receiver.is

pub move_keeps_dones : MoveKeepsDones
move_keeps_dones p s r move may sound known few =
    sent_few p (moved p s move) (traffic_after p s r move) (move_keeps p s move may sound) (move_keeps_known p s r move may sound known)
    (taken_few p s r move may sound few)

pub dones_at_rest : DonesAtRest
dones_at_rest p members are = record {
  within = λ b. omega arith;
  once = λ b. omega arith;
  joining = λ b node at joins. omega arith;
  fresh = λ b nobody. omega arith;
}

run_from : (p : SettingsValue) (s : System) (r : Traffic) (moves : List Move) → Sound p s → AllAreKnown s r → DonesAreFew s r
    → may_run p s moves → DonesAreFew (after_moves p s moves) (traffic_of p s r moves)
run_from p s r [] sound known few may = few
run_from p s r (move ∷ moves) sound known few may =
    run_from p (moved p s move) (traffic_after p s r move) moves (move_keeps p s move may.0 sound)
    (move_keeps_known p s r move may.0 sound known) (move_keeps_dones p s r move may.0 sound known few) may.1

pub run_dones_few : RunDonesFew
run_dones_few p members moves are may =
    run_from p (system_at_rest p members) no_traffic moves (sound_at_rest p members are) (known_at_rest p members are)
    (dones_at_rest p members are) may
