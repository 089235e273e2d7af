-- A scenario that starts nothing but joins, and has enough frames for them, never ends because more would be sent.
use Rattle.std.proofs.Common.{◌≡◌, ◌⊎◌, inl, inr, ℕ, ◌+◌, ◌≤◌, true, false, List, [], ◌∷◌, ◌++◌, filter, map, length, take, Option, None, Some, arith, refl, ap, sym, subst, ◌∙◌, append-nil, length-append}
use Rattle.std.specs.Prelude.{IfSome, slice_get}
use Rattle.std.specs.List.{filter_map}
use Rattle.std.proofs.lemmas.List.{map-append}
use Rattle.std.proofs.lemmas.List.Elements.{filter_map-append}
use Rattle.tap_name.specs.Settings.{SettingsValue}
use Rattle.tap_scenario.specs.Scenario.{ScenarioValue}
use Rattle.tap_scenario.specs.declared.step.Step.{Step}
use Rattle.tap_scenario.specs.declared.step.Step.TheVariants.{Abandon, Cast, Depart, Find, Join, Publish, Withdraw}
use Rattle.tap_wire.specs.Spelling.{spelling}
use Rattle.tap_log.specs.Counts.{sent_count}
use Rattle.tap_log.specs.Kinds.{is_carried}
use Rattle.tap_log.specs.MoreRecords.{at_most_one}
use Rattle.tap_log.specs.declared.record.Record.{Record}
use Rattle.tap_log.specs.declared.record.Record.TheVariants.{Step as StepRecord, Taken}
use Rattle.tap_log.specs.Log.{begun_steps}
use Rattle.tap_history.specs.Moments.{has_number, outstanding}
use Rattle.tap_history.specs.StepAsks.{actor_of, join_name}
use Rattle.tap_rule.specs.Act.{act}
use Rattle.tap_rule.specs.Event.{Start}
use Rattle.tap_rule.specs.Event.Event.{Starts}
use Rattle.tap_rule.specs.Event.Start.{Join as StartJoin}
use Rattle.tap_rule.specs.Node.{joiner}
use Rattle.tap_rule.specs.Sending.{by_receiver}
use Rattle.tap_rule.proofs.StartSteps.{seek_start_law}
use Rattle.tap_safety.specs.Move.{Move, may_move}
use Rattle.tap_safety.specs.Move.Move.{Begins, Delivers}
use Rattle.tap_safety.specs.System.{System}
use Rattle.tap_runs.specs.Course.{FollowStep, MayFollow, is_choice, move_of_group, system_of}
use Rattle.tap_runs.specs.Group.{start_at}
use Rattle.tap_runs.specs.Starts.{start_of_step}
use Rattle.tap_runs.proofs.Frames.{starting_moves, step_moves, taken_moves}
use Rattle.tap_runs.proofs.CourseGrows.{course_grows_holds}
use Rattle.tap_runs.proofs.Nodes.{start_in}
use Rattle.tap_runs.proofs.Within.{step_kind}
use Rattle.tap_lawful.specs.Next.{beginning_in, begun_count}
use Rattle.tap_lawful.proofs.Coming.{comes_may, coming, due_waits}
use Rattle.tap_lawful.proofs.BegunSteps.{played_steps}
use Rattle.tap_safe_runs.specs.Safe.{IsRun}
use Rattle.tap_safe_runs.proofs.Lawful.{lawful_logs_are_safe}
use Rattle.tap_safe_runs.proofs.Possible.{may_take}
use Rattle.tap_safe_runs.proofs.Safe.{runs_are_sound}
use Rattle.tap_bounds.specs.FewSent.{traffic_of}
use Rattle.tap_bounds.specs.Traffic.{Traffic, no_traffic, sent_by}
use Rattle.tap_bounds.specs.OfJoins.{JoinsAlone}
use Rattle.tap_bounds_runs.specs.Enough.{AsksForJoinsAlone, EndsFinished, HasEnoughFrames, NeverSpent, joined_by_steps}
use Rattle.tap_bounds_runs.specs.Joins.{AcceptsJoinsAlone, joined_in, most_of_joins, is_other_start}
use Rattle.tap_bounds_runs.specs.Traffic.{bytes_sent, moves_of, traffic_in}
use Rattle.tap_bounds_runs.proofs.Agreeing.{group_sends, run_agrees, sent_is, sent_one, sent_with, traffic_with}
use Rattle.tap_bounds_runs.proofs.JoinsBegun.{alone_begun, first_steps, joins_begun, joins_of_first, joins_with, most_grows, most_more, this_step}
use Rattle.tap_bounds_runs.proofs.JoinLogs.{alone_more, has_joins, joined_more}
use Rattle.tap_bounds_runs.proofs.RunMoves.{may_both, rest, run_goes, traffic_is}
use Rattle.tap_bounds_runs.proofs.Sum.{run_joins_send_few}

-- ---- the group of a step

-- a node that starts to join sends one frame
join_sends : (p : SettingsValue) (x via : List ℕ) → length (act (joiner p x) (Starts (StartJoin via))).sent ≡ 1
unfolding by_receiver
join_sends p x via = ap length (seek_start_law (joiner p x) via refl).completed.sent.all

-- its move sends nothing, or the step is a join and it sends one frame
abbrev SendsAtMostOne : SettingsValue → System → Step → Option Move → Type 0
SendsAtMostOne p s step move =
    (sent_with p s move ≡ []) ⊎ ((name : List ℕ) × (join_name step ≡ Some name) × (length (sent_with p s move) ≡ 1))

module _ (p : SettingsValue) (log : List Record) (s : System) where
  start_one : (step : Step) (name : List ℕ) (start : Start) → is_other_start step ≡ false → start_at log step ≡ Some (name, start)
      → SendsAtMostOne p s step (Some (Begins name start))
  unfolding actor_of start_of_step join_name sent_by
  start_one (Join x via) name start fits at =
      let what : StartJoin via ≡ start = ap (start_in (StartJoin via)) at in
      inr (x, refl, subst (λ w. length (sent_with p s (Some (Begins name w))) ≡ 1) what (join_sends p name via))
  start_one (Depart x) name start fits at = absurd (cc)
  start_one (Publish object server) name start fits at = absurd (cc)
  start_one (Withdraw object server) name start fits at = absurd (cc)
  start_one (Find object asker) name start fits at = absurd (cc)
  start_one (Abandon x) name start fits at = absurd (cc)
  start_one (Cast word prefix asker) name start fits at = absurd (cc)
  start_one step name start fits at = absurd (cc)

  step_one : (index : ℕ) (step : Step) (items : List Record) → is_other_start step ≡ false
      → FollowStep (is_choice step) p log s index step items → SendsAtMostOne p s step (move_of_group log (StepRecord index step ∷ items))
  step_one index step items fits follow =
      elim (step_kind p log s index step items follow) [
        | inl idle ↦ inl (ap (sent_with p s) (step_moves log index step items ∙ idle.still))
        | inr starting ↦
            subst (SendsAtMostOne p s step) (sym (starting_moves p log s index step items starting))
            (start_one step starting.name starting.start fits starting.at)
      ]

  group_one : (index : ℕ) (step : Step) (items : List Record) → is_other_start step ≡ false
      → MayFollow p log s (StepRecord index step ∷ items) → SendsAtMostOne p s step (move_of_group log (StepRecord index step ∷ items))
  unfolding MayFollow
  group_one index step items fits may = step_one index step items fits may

-- ---- a run

-- a run, whose steps are the scenario's first ones
module _ (s : ScenarioValue) (alone : AsksForJoinsAlone s) (enough : HasEnoughFrames s) (played : List Record)
    (run : IsRun (beginning_in s) played) (follows : begun_steps played ≡ take (begun_count played) s.steps)
    (within : sent_count played ≤ s.frames) where
  -- how many joins were accepted, and how many steps of the scenario are joins
  abbrev join_total : ℕ
  join_total = length (joined_in (moves_of played))

  abbrev step_total : ℕ
  step_total = length (joined_by_steps s)

  abbrev member_total : ℕ
  member_total = length s.members

  accepts_alone : AcceptsJoinsAlone played
  accepts_alone =
      alone_begun (is_carried played) played
      (subst (λ l. filter is_other_start l ≡ []) (sym follows)
      (first_steps (begun_count played) s.steps alone))

  moves_alone : JoinsAlone (moves_of played)
  moves_alone = (has_joins (beginning_in s) played run).alone accepts_alone

  -- no more were accepted than are among the steps that were begun
  joins_few : join_total ≤ length (filter_map join_name (take (begun_count played) s.steps))
  joins_few =
      let accepted = ap length (has_joins (beginning_in s) played run).joins in
      let begun = joins_begun (is_carried played) played in
      let first = ap (λ l. length (filter_map join_name l)) follows in
      omega (arith, accepted, begun, first)

  -- with a move that starts no join few frames are sent
  few_with : (move : Option Move)
      → ((one : Move) → move ≡ Some one → may_move s.settings (system_of played) one) → JoinsAlone (at_most_one move)
      → joined_in (at_most_one move) ≡ []
      → length (traffic_of s.settings (rest (beginning_in s)) no_traffic (moves_of played ++ at_most_one move)).sent
      ≤ most_of_joins s.settings join_total (member_total + join_total)
  few_with move may also none =
      let p = s.settings in
      let moves = moves_of played ++ at_most_one move in
      let members = course_grows_holds.members (beginning_in s) run.course.limits in
      let goes = run_goes (beginning_in s) played run in
      let few = run_joins_send_few p s.members moves members (may_both (beginning_in s) played goes move may)
      (alone_more (moves_of played) (at_most_one move) moves_alone also) in
      let joined : joined_in moves ≡ joined_in (moves_of played) =
      joined_more (moves_of played) (at_most_one move) ∙ ap (λ l. joined_in (moves_of played) ++ l) none
      ∙ append-nil (joined_in (moves_of played)) in
      subst (λ l. length (traffic_of p (rest (beginning_in s)) no_traffic moves).sent
      ≤ most_of_joins p (length l) (member_total + length l)) joined few

  -- ---- one more group

  module _ (group : List Record) (may : MayFollow s.settings played (system_of played) group) where
    -- it sends what its move sends
    sent_after : sent_count (played ++ group)
        ≡ length (traffic_in played).sent + length (sent_with s.settings (system_of played) (move_of_group played group))
    sent_after =
        let p = s.settings in
        let sent = (traffic_in played).sent in
        let more = sent_with p (system_of played) (move_of_group played group) in
        sent_is p (played ++ group) (sent ++ more)
        (filter_map-append bytes_sent played group
        ∙ ap (λ l. l ++ filter_map bytes_sent group) (run_agrees (beginning_in s) played run).sent
        ∙ ap (λ l. map (spelling p) sent ++ l) (group_sends p played (system_of played) group may)
        ∙ sym (map-append (spelling p) sent more))
        ∙ length-append sent more

    traffic_after : sent_count (played ++ group)
        ≡ length (traffic_of s.settings (rest (beginning_in s)) no_traffic (moves_of played ++ at_most_one (move_of_group played group))).sent
    traffic_after =
        let p = s.settings in
        let move = move_of_group played group in
        sent_after ∙ sym (length-append (traffic_in played).sent (sent_with p (system_of played) move))
        ∙ sym (ap length (sent_one p (system_of played) (traffic_in played) move))
        ∙ sym (ap (λ (r : Traffic). length r.sent) (traffic_with (beginning_in s) played run move))

  -- of a frame that is taken
  pub taken_few : (number : ℕ) (items : List Record) → MayFollow s.settings played (system_of played) (Taken number ∷ items)
      → has_number (outstanding played) number ≡ true → sent_count (played ++ Taken number ∷ items) ≤ s.frames
  taken_few number items may waits =
      let inv = (runs_are_sound (beginning_in s) played run).invariant.basis in
      let arrives = may_take (beginning_in s) played run.course run.going inv number waits in
      let moves : move_of_group played (Taken number ∷ items) ≡ Some (Delivers number) = taken_moves played number items in
      let few = few_with (Some (Delivers number))
      (λ one same. subst (λ (m : Option Move). IfSome m (may_move s.settings (system_of played))) same arrives)
      (tt, tt) refl in
      let all = traffic_after (Taken number ∷ items) may
      ∙ ap (λ m. length (traffic_of s.settings (rest (beginning_in s)) no_traffic (moves_of played ++ at_most_one m)).sent) moves in
      let joins = joins_few in
      let fewer = joins_of_first (begun_count played) s.steps in
      let grows = most_grows s.settings join_total (member_total + join_total) step_total (member_total + step_total)
      (omega (arith, joins, fewer)) (omega (arith, joins, fewer)) in
      omega (arith, all, few, grows, enough)

  -- of the step that is next
  module _ (index : ℕ) (step : Step) (items : List Record)
      (may : MayFollow s.settings played (system_of played) (StepRecord index step ∷ items))
      (next : slice_get s.steps (begun_count played) ≡ Some step) where
    abbrev begun : List Record
    begun = StepRecord index step ∷ items

    counted : sent_count played ≡ length (traffic_in played).sent
    counted = sent_is s.settings played (traffic_in played).sent (run_agrees (beginning_in s) played run).sent

    by_sent : SendsAtMostOne s.settings (system_of played) step (move_of_group played begun) → sent_count (played ++ begun) ≤ s.frames
    by_sent (inl nothing) =
        let all = sent_after begun may in
        let none = ap length nothing in
        let before = counted in
        omega (arith, all, none, before, within)
    by_sent (inr (name, joins, one)) =
        let all = sent_after begun may in
        let before = ap (λ (r : Traffic). length r.sent) (traffic_is (beginning_in s) played run.course) in
        let moves : length (traffic_of s.settings (rest (beginning_in s)) no_traffic (moves_of played ++ [])).sent
        ≡ length (traffic_of s.settings (rest (beginning_in s)) no_traffic (moves_of played)).sent =
        ap (λ l. length (traffic_of s.settings (rest (beginning_in s)) no_traffic l).sent) (append-nil (moves_of played)) in
        let few = few_with None (λ one wrong. absurd (cc)) tt refl in
        let joined = joins_few in
        let more = joins_with (begun_count played) s.steps step name next joins in
        let most = most_more s.settings join_total (member_total + join_total) in
        let grows = most_grows s.settings (join_total + 1) (member_total + join_total + 1) step_total (member_total + step_total)
        (omega (arith, joined, more)) (omega (arith, joined, more)) in
        omega (arith, all, before, moves, few, one, most, grows, enough)

    pub step_few : sent_count (played ++ begun) ≤ s.frames
    step_few =
        let fits = this_step (begun_count played) s.steps step alone next in
        by_sent (group_one s.settings played (system_of played) index step items fits may)

-- ---- a run that isn't carried

pub never_spent : NeverSpent
never_spent s played log valid alone enough is spent =
    let run = lawful_logs_are_safe.runs s played valid is in
    let follows = played_steps s played is in
    let may = comes_may s played spent.group spent.next in
    let over = spent.over in
    let p = s.settings in
    let May : List Record → Type 0 = λ g. MayFollow p played (system_of played) g in
    let few : sent_count (played ++ spent.group) ≤ s.frames =
    elim (coming s played spent.group spent.next) [
      | inl taken ↦
          subst (λ g. sent_count (played ++ g) ≤ s.frames) taken.is
          (taken_few s alone enough played run follows is.within taken.number _ (subst May (sym taken.is) may)
          (due_waits played taken.number taken.due))
      | inr begins ↦
          subst (λ g. sent_count (played ++ g) ≤ s.frames) begins.is
          (step_few s alone enough played run follows is.within (begun_count played + 1) begins.step _ (subst May (sym begins.is) may) begins.next)
    ] in
    absurd (omega (arith, over, few))

pub ends_finished : EndsFinished
ends_finished s log valid alone enough whole =
    elim whole.over [
      | inl finished ↦ record { played = whole.played; is_played = whole.is_played; finished = finished }
      | inr spent ↦ absurd (never_spent s whole.played log valid alone enough whole.is_played spent)
    ]
