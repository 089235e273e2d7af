-- The numbers of a course stay in range.
-- Cited above: numbers_in_range_holds
use Rattle.std.proofs.Common.{◌≡◌, inl, inr, ℕ, ◌+◌, ◌<◌, ◌≤◌, Bool, true, false, List, [], ◌∷◌, ◌++◌, length, Option, None, Some, refl, ap, sym, subst, ◌∙◌, arith}
use Rattle.std.specs.Prelude.{IfSome, nat_le, nat_lt, if◌then◌else◌}
use Rattle.std.specs.Cmp.{nat_cmp_is}
use Rattle.std.specs.Map.{keys_of}
use Rattle.std.specs.declared.cmp.Ordering.TheVariants.{Greater}
use Rattle.std.proofs.lemmas.Bool.{lt-ltb}
use Rattle.std.proofs.lemmas.List.Elements.{All-head, All-nil, All-tail}
use Rattle.tap_name.specs.Names.{has_name}
use Rattle.tap_name.specs.Settings.{SettingsValue}
use Rattle.tap_scenario.specs.declared.step.Step.{Step}
use Rattle.tap_scenario.specs.Scenario.{most_frames}
use Rattle.tap_cast.specs.Casts.{CastsValue, level_of_cast}
use Rattle.tap_pointer.specs.Pointers.{held_or_laid_count, is_held_or_laid}
use Rattle.tap_log.specs.declared.record.Record.{Record}
use Rattle.tap_log.specs.declared.record.Record.TheVariants.{Step as StepRecord, Taken}
use Rattle.tap_log.specs.Counts.{cast_count, sent_count, ticket_count}
use Rattle.tap_log.specs.Kinds.{asked_ticket, begun_cast, sent_number, step_of}
use Rattle.tap_log.specs.Log.{begun_steps}
use Rattle.tap_history.specs.Groups.{is_ended}
use Rattle.tap_history.proofs.Less.{filter_within}
use Rattle.tap_rule.specs.Node.{NodeState, member_at_rest}
use Rattle.tap_rule.specs.Event.Event.{Starts}
use Rattle.tap_safety.specs.AtRest.{system_at_rest}
use Rattle.tap_safety.specs.Move.{Move}
use Rattle.tap_safety.specs.Move.Move.{Begins, Delivers}
use Rattle.tap_safety.specs.Moved.{moved, numbered_frame, starter}
use Rattle.tap_safety.specs.System.{System}
use Rattle.tap_runs.specs.Beginning.{Beginning, begin_record}
use Rattle.tap_runs.specs.Course.{Follows, IsCourse, MayFollow, move_of_group, moved_by, system_of}
use Rattle.tap_runs.specs.Starts.{announced, next_cast}
use Rattle.tap_runs.proofs.Frames.{course_frames_holds, starting_moves, step_moves, taken_moves}
use Rattle.tap_runs.proofs.CourseGrows.{by_groups, grown_system, start_system}
use Rattle.tap_runs.proofs.Within.{IsIdle, IsStarting, step_kind}
use Rattle.tap_readable.specs.Range.{HasNotMetNext, HasNumbersLeft, IsInRange, steps_with_room}
use Rattle.tap_readable.specs.Ranges.{NumbersInRange}
use Rattle.tap_readable.proofs.RangeRules.{AreMetTo, IsCastTo, StartsCastTo}
use Rattle.tap_readable.proofs.RangeMoves.{HasCounted, HaveCounted, count_on, starting_counts, taking_counts}
use Rattle.tap_readable.proofs.RangeRecords.{numbered_start, one_step, quiet_asked, quiet_begun, started_asked, started_begun, started_one, step_asked, step_begun, taken_asked, taken_begun, told, told_more}

-- ---- one more group

-- Of the lookups that a group asks and the casts that it begins each has a step; and with them the nodes have counted no more.
pub record GroupCounts (p : SettingsValue) (log : List Record) (s : System) (group : List Record) : Type 0 where
  pub asked : told asked_ticket group ≤ told step_of group
  pub begun : told begun_cast group ≤ told step_of group
  pub counted : HaveCounted (cast_count log) (length (begun_steps log)) s
      → HaveCounted (cast_count log + told begun_cast group) (length (begun_steps log) + told step_of group)
      (moved_by p s (move_of_group log group))

module _ (p : SettingsValue) (log : List Record) (s : System) where
  abbrev Counted : ℕ → ℕ → Option Move → Type 0
  Counted casts steps move = HaveCounted (cast_count log + casts) (length (begun_steps log) + steps) (moved_by p s move)

  module _ (index : ℕ) (step : Step) (items : List Record) where
    abbrev step_group : List Record
    step_group = StepRecord index step ∷ items

    idle_counts : IsIdle log step items → GroupCounts p log s step_group
    idle_counts idle =
        let least = one_step index step items in
        let asks = step_asked index step items in
        let begins = step_begun index step items in
        let none = quiet_asked items idle.quiet in
        let nothing = quiet_begun items idle.quiet in
        record {
          asked = omega (arith, least, asks, none);
          begun = omega (arith, least, begins, nothing);
          counted = λ have.
              subst (Counted (told begun_cast step_group) (told step_of step_group)) (sym (step_moves log index step items ∙ idle.still))
              (count_on _ _ _ _ s (omega arith) (omega arith) have);
        }

    starting_group : IsStarting p log s step items → GroupCounts p log s step_group
    starting_group starting =
        let node = starter p s starting.name starting.start in
        let event = Starts starting.start in
        let least = one_step index step items in
        let asks : told asked_ticket step_group ≤ 1 =
        let same = step_asked index step items in
        let few = started_asked p log step starting.name node event in
        let are = ap (told asked_ticket) starting.are in omega (arith, same, few, are) in
        let begins : told begun_cast step_group ≡ told begun_cast (announced log step) =
        step_begun index step items ∙ ap (told begun_cast) starting.are ∙ started_begun p log step starting.name node event in
        let few = started_one p log step starting.name node event in
        let same = started_begun p log step starting.name node event in
        record {
          asked = omega (arith, least, asks);
          begun = omega (arith, least, begins, few, same);
          counted = λ have.
              let m = cast_count log + told begun_cast step_group in
              let steps = length (begun_steps log) in
              let up : StartsCastTo m starting.start =
              subst (λ begun. StartsCastTo (cast_count log + begun) starting.start) (sym begins)
              (numbered_start log starting.name starting.start step starting.at) in
              let more : HaveCounted m steps s = count_on _ _ m steps s (omega arith) (omega arith) have in
              subst (Counted (told begun_cast step_group) (told step_of step_group))
              (sym (starting_moves p log s index step items starting))
              (count_on _ _ _ _ (moved p s (Begins starting.name starting.start)) (omega arith) (omega (arith, least))
              (starting_counts p m steps s more starting.name starting.start up));
        }

  pub group_counts : (group : List Record) → MayFollow p log s group → GroupCounts p log s group
  unfolding MayFollow
  group_counts (StepRecord index step ∷ items) may =
      elim (step_kind p log s index step items may) [
        | inl idle ↦ idle_counts index step items idle
        | inr starting ↦ starting_group index step items starting
      ]
  group_counts (Taken number ∷ items) may =
      let group = Taken number ∷ items in
      let frame = numbered_frame number s.frames in
      let asks = ap (λ l. told asked_ticket (Taken number ∷ l)) may.are ∙ taken_asked p log s number frame in
      let begins = ap (λ l. told begun_cast (Taken number ∷ l)) may.are ∙ taken_begun p log s number frame in
      record {
        asked = omega (arith, asks);
        begun = omega (arith, begins);
        counted = λ have.
            subst (Counted (told begun_cast group) (told step_of group)) (sym (taken_moves log number items))
            (count_on _ _ _ _ (moved p s (Delivers number)) (omega arith) (omega arith)
            (taking_counts p _ _ s have number));
      }
  group_counts group may = absurd may

-- ---- a course

-- no more frames were sent than may be; each lookup and cast has a step; and the nodes have counted no more than that
record RunCounts (b : Beginning) (log : List Record) : Type 0 where
  sent : sent_count log ≤ b.frames
  asked : ticket_count log ≤ length (begun_steps log)
  begun : cast_count log ≤ length (begun_steps log)
  counted : HaveCounted (cast_count log) (length (begun_steps log)) (system_of log)

module _ (b : Beginning) where
  -- a member has counted nothing
  member_counts : (there : Bool) (x : List ℕ)
      → IfSome (if there then Some (member_at_rest b.settings b.members x) else None) (HasCounted 0 0 0 0)
  member_counts true x = record {
    sessions = omega arith;
    cast_sessions = omega arith;
    stamp = omega arith;
    pairs = omega arith;
    casts = All-nil (λ cast. cast ≤ 0);
  }
  member_counts false x = tt

  rest_counts : HaveCounted 0 0 (system_at_rest b.settings b.members)
  rest_counts = record {
    nodes = λ x. member_counts (has_name b.members x) x;
    copies = All-nil (λ f. IsCastTo 0 f.1.body);
    waiting = omega arith;
  }

  begin_counts : RunCounts b (begin_record b ∷ [])
  unfolding sent_number asked_ticket begun_cast
  begin_counts = record {
    sent = omega arith;
    asked = omega arith;
    begun = omega arith;
    counted = subst (HaveCounted 0 0) (sym (start_system b)) rest_counts;
  }

  counts_grow : (log group : List Record) → IsCourse b log → is_ended log ≡ false → Follows b log group → RunCounts b log
      → RunCounts b (log ++ group)
  counts_grow log group course going follows counts =
      let more = group_counts b.settings log (system_of log) group follows.may in
      let steps = told_more step_of log group in
      let asked = told_more asked_ticket log group in
      let begun = told_more begun_cast log group in
      record {
        sent = follows.within;
        asked = let was = counts.asked in let now = more.asked in omega (arith, was, now, steps, asked);
        begun = let was = counts.begun in let now = more.begun in omega (arith, was, now, steps, begun);
        counted =
            subst (HaveCounted (cast_count (log ++ group)) (length (begun_steps (log ++ group))))
            (sym (grown_system b log group course going follows))
            (count_on _ _ _ _ (moved_by b.settings (system_of log) (move_of_group log group)) (omega (arith, begun)) (omega (arith, steps))
            (more.counted counts.counted));
      }

  run_counts : (log : List Record) → IsCourse b log → is_ended log ≡ false → RunCounts b log
  run_counts = by_groups b (RunCounts b) counts_grow begin_counts

-- ---- the laws

few_frames : (digits : ℕ) → most_frames digits ≤ 500000
few_frames digits = by_test (nat_le digits 8)
  where
    by_test : (short : Bool) → (if short then 500000 else 100000) ≤ 500000
    by_test true = omega arith
    by_test false = omega arith

-- a cast above those that were met wasn't met
unmet_above : (n cast : ℕ) (casts : CastsValue) → AreMetTo n casts → n < cast → level_of_cast casts cast ≡ None
unmet_above n cast [] met above = refl
unmet_above n cast (one ∷ casts) met above =
    let up = All-head (λ other. other ≤ n) one.0 (keys_of casts) met in
    let order = sym (nat_cmp_is cast one.0 Greater (omega (arith, up, above))) in
    rw order (unmet_above n cast casts (All-tail (λ other. other ≤ n) one.0 (keys_of casts) met) above)

module _ (b : Beginning) (log : List Record) (course : IsCourse b log) (going : is_ended log ≡ false) where
  abbrev s : System
  s = system_of log

  counts : RunCounts b log
  counts = run_counts b log course going

  few_sent : s.next ≤ 500000
  few_sent =
      let next = (course_frames_holds b log course going).next in
      let sent = counts.sent in
      let most = course.limits.frames_to in
      let few = few_frames b.settings.digits in
      omega (arith, next, sent, most, few)

  abbrev Has : NodeState → Type 0
  Has = HasCounted (cast_count log) (length (begun_steps log)) s.next (length s.frames)

  in_range_by : (node : Option NodeState) → IfSome node Has → IfSome node IsInRange
  in_range_by None has = tt
  in_range_by (Some node) has =
      let few = few_sent in
      record {
        sessions = let least = has.sessions in omega (arith, least, few);
        cast_sessions = let least = has.cast_sessions in omega (arith, least, few);
        stamp = let least = has.stamp in omega (arith, least, few);
      }

  left_by : (node : Option NodeState) → length (begun_steps log) ≤ steps_with_room → IfSome node Has → IfSome node HasNumbersLeft
  left_by None steps has = tt
  left_by (Some node) steps has =
      let few = few_sent in
      let held = filter_within (λ e. is_held_or_laid e.1) node.pointers.pairs in
      let joins : nat_lt node.sessions.opened 500000 ≡ true =
      let least = has.sessions in lt-ltb node.sessions.opened 500000 (omega (arith, least, few)) in
      let casts : nat_lt node.cast_sessions.opened 500001 ≡ true =
      let least = has.cast_sessions in lt-ltb node.cast_sessions.opened 500001 (omega (arith, least, few)) in
      let stamp : nat_lt node.stamp 4000000000 ≡ true =
      let least = has.stamp in lt-ltb node.stamp 4000000000 (omega (arith, least, few)) in
      let pairs : nat_lt (held_or_laid_count node.pointers.pairs) 10000000 ≡ true =
      let least = has.pairs in
      lt-ltb (held_or_laid_count node.pointers.pairs) 10000000 (omega (arith, least, few, steps, held)) in
      rw (joins, casts, stamp, pairs) refl

  unmet_by : (node : Option NodeState) → IfSome node Has → IfSome node (HasNotMetNext log)
  unmet_by None has = tt
  unmet_by (Some node) has = unmet_above (cast_count log) (next_cast log) node.casts has.casts (omega arith)

pub numbers_in_range_holds : NumbersInRange
numbers_in_range_holds = record {
  sent = λ b log course going. (counts b log course going).sent;
  tickets = λ b log course going. (counts b log course going).asked;
  casts = λ b log course going. (counts b log course going).begun;
  in_range = λ b log course going name.
      in_range_by b log course going ((system_of log).node name) ((counts b log course going).counted.nodes name);
  left = λ b log course going steps name.
      left_by b log course going ((system_of log).node name) steps ((counts b log course going).counted.nodes name);
  unmet = λ b log course going name.
      unmet_by b log course going ((system_of log).node name) ((counts b log course going).counted.nodes name);
}
