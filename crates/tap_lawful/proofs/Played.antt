-- How the log of a run grows: group by group, and as a course.
-- Cited above: by_coming, by_next, played_course, played_more, played_starts, sent_count-append, sent_no_fewer, starts_with
use Rattle.std.proofs.Common.{◌≡◌, ℕ, ◌+◌, ◌≤◌, false, List, [], ◌∷◌, ◌++◌, length, take, Some, refl, ap, sym, subst, ◌∙◌, arith, append-nil, append_assoc, length-append}
use Rattle.std.specs.Prelude.{if◌then◌else◌}
use Rattle.std.specs.List.{filter_map}
use Rattle.std.proofs.lemmas.List.Elements.{filter_map-append}
use Rattle.tap_scenario.specs.Scenario.{IsScript, ScenarioValue}
use Rattle.tap_log.specs.declared.record.Record.{Record}
use Rattle.tap_log.specs.Counts.{sent_count}
use Rattle.tap_log.specs.Kinds.{sent_number}
use Rattle.tap_log.proofs.MoreRecords.{carried_alone}
use Rattle.tap_history.specs.Groups.{EachGroup, EachGroupFrom, beginning_of, ends_log, groups_of, is_ended, records_of}
use Rattle.tap_history.proofs.Ends.{log_in_groups_holds}
use Rattle.tap_history.proofs.Parts.{EachGroup-push, beginning_of-group, is_ended-append, log_is_groups}
use Rattle.tap_runs.specs.Beginning.{IsWithinLimits, begin_record}
use Rattle.tap_runs.specs.Course.{Follows, IsCourse, system_of}
use Rattle.tap_runs.proofs.CourseGrows.{starts_begun, starts_uncarried}
use Rattle.tap_runs.proofs.Within.{IsWhole, whole_group}
use Rattle.tap_lawful.specs.Next.{beginning_in, next_group}
use Rattle.tap_lawful.specs.Lawful.{ComesNext, IsPlayed, IsPlayedWith, NextGroup}
use Rattle.tap_lawful.proofs.Coming.{comes_follows, comes_may}

-- ---- the beginning

module _ (s : ScenarioValue) where
  start_alone : beginning_of (begin_record (beginning_in s) ∷ []) ≡ begin_record (beginning_in s) ∷ []
  start_alone = ap (λ c. take (if c then 2 else 1) (begin_record (beginning_in s) ∷ [])) (carried_alone (begin_record (beginning_in s)))

  no_groups : groups_of (begin_record (beginning_in s) ∷ []) ≡ []
  no_groups = log_in_groups_holds.none s.settings s.frames s.members

  -- whatever comes next
  pub starts_with : (coming : NextGroup) → IsPlayedWith coming s (begin_record (beginning_in s) ∷ [])
  unfolding ends_log sent_number
  starts_with coming = record {
    begins = start_alone;
    each = subst (EachGroupFrom (λ before group. coming before ≡ Some group) (beginning_of (begin_record (beginning_in s) ∷ []))) (sym no_groups) tt;
    within = omega arith;
    going = refl;
  }

  pub played_starts : IsPlayed s (begin_record (beginning_in s) ∷ [])
  played_starts = starts_with (next_group s)

-- ---- one more group

module _ (s : ScenarioValue) (log group : List Record) (played : IsPlayed s log) (comes : ComesNext s log group)
    (within : sent_count (log ++ group) ≤ s.frames) where
  whole : IsWhole log group
  whole = whole_group s.settings log (system_of log) group (starts_begun log (begin_record (beginning_in s)) played.begins)
      (starts_uncarried log (begin_record (beginning_in s)) played.begins) (comes_may s log group comes)

  more_with : (w : IsWhole log group) → ComesNext s log (w.first ∷ w.after) → sent_count (log ++ w.first ∷ w.after) ≤ s.frames
      → IsPlayed s (log ++ w.first ∷ w.after)
  more_with w comes_so within_so = record {
    begins = beginning_of-group log w.first w.after w.whole ∙ played.begins;
    each = EachGroup-push (ComesNext s) log w.first w.after w.whole played.going w.going played.each comes_so;
    within = within_so;
    going = is_ended-append log w.first w.after ∙ w.going;
  }

  pub played_more : IsPlayed s (log ++ group)
  played_more =
      subst (λ g. IsPlayed s (log ++ g)) (sym whole.is)
      (more_with whole (subst (ComesNext s log) whole.is comes) (subst (λ g. sent_count (log ++ g) ≤ s.frames) whole.is within))

-- ---- a course

pub sent_count-append : (log more : List Record) → sent_count (log ++ more) ≡ sent_count log + sent_count more
sent_count-append log more =
    ap length (filter_map-append sent_number log more) ∙ length-append (filter_map sent_number log) (filter_map sent_number more)

pub sent_no_fewer : (log more : List Record) → sent_count log ≤ sent_count (log ++ more)
sent_no_fewer log more = let all = sent_count-append log more in omega (arith, all)

module _ (s : ScenarioValue) where
  each_follows : (before : List Record) (groups : List (List Record)) → EachGroupFrom (ComesNext s) before groups
      → sent_count (before ++ records_of groups) ≤ s.frames → EachGroupFrom (Follows (beginning_in s)) before groups
  each_follows before [] each within = tt
  each_follows before (group ∷ groups) each within =
      let rest : sent_count ((before ++ group) ++ records_of groups) ≤ s.frames =
      subst (λ l. sent_count l ≤ s.frames) (sym (append_assoc before group (records_of groups))) within in
      let fewer = sent_no_fewer (before ++ group) (records_of groups) in (
        comes_follows s before group each.0 (omega (arith, rest, fewer)),
        each_follows (before ++ group) groups each.1 rest,
      )

  pub script_within : IsScript s → IsWithinLimits (beginning_in s)
  script_within valid = record {
    settings = valid.settings;
    frames_from = valid.frames_from;
    frames_to = valid.frames_to;
    members_from = valid.members_from;
    members_to = valid.members_to;
    names = valid.members;
    distinct = valid.distinct;
  }

  pub played_course : (log : List Record) → IsScript s → IsPlayed s log → IsCourse (beginning_in s) log
  played_course log valid played = record {
    limits = script_within valid;
    begins = played.begins;
    each = each_follows (beginning_of log) (groups_of log) played.each
        (subst (λ l. sent_count l ≤ s.frames) (sym (log_is_groups log played.going)) played.within);
  }

-- ---- what holds of each log of a run

module _ (s : ScenarioValue) (P : List Record → Type 0)
    (keeps : (log group : List Record) → P log → ComesNext s log group → P (log ++ group)) where
  after_groups : (log : List Record) (groups : List (List Record)) → EachGroupFrom (ComesNext s) log groups → P log
      → P (log ++ records_of groups)
  after_groups log [] each p = subst P (sym (append-nil log)) p
  after_groups log (group ∷ groups) each p =
      subst P (append_assoc log group (records_of groups)) (after_groups (log ++ group) groups each.1 (keeps log group p each.0))

  -- what holds of the beginning, and is kept by each group that comes next, holds of each log of a run
  pub by_coming : P (begin_record (beginning_in s) ∷ []) → (log : List Record) → IsPlayed s log → P log
  by_coming starts log played =
      subst P (log_is_groups log played.going)
      (after_groups (beginning_of log) (groups_of log) played.each (subst P (sym played.begins) starts))

-- the same by whatever comes next, if no more frames are sent than may be
module _ (coming : NextGroup) (frames : ℕ) (P : List Record → Type 0)
    (keeps : (log group : List Record) → P log → coming log ≡ Some group → sent_count (log ++ group) ≤ frames → P (log ++ group)) where
  abbrev Comes : List Record → List Record → Type 0
  Comes before group = coming before ≡ Some group

  after_next : (log : List Record) (groups : List (List Record)) → EachGroupFrom Comes log groups
      → sent_count (log ++ records_of groups) ≤ frames → P log → P (log ++ records_of groups)
  after_next log [] each within p = subst P (sym (append-nil log)) p
  after_next log (group ∷ groups) each within p =
      let same = append_assoc log group (records_of groups) in
      let rest : sent_count ((log ++ group) ++ records_of groups) ≤ frames = subst (λ l. sent_count l ≤ frames) (sym same) within in
      let fewer = sent_no_fewer (log ++ group) (records_of groups) in
      subst P same (after_next (log ++ group) groups each.1 rest (keeps log group p each.0 (omega (arith, rest, fewer))))

  -- what holds of the beginning, and is kept by each group that comes next, holds of the log
  pub by_next : (start log : List Record) → P start → beginning_of log ≡ start → EachGroup Comes log → sent_count log ≤ frames
      → is_ended log ≡ false → P log
  by_next start log starts begins each within going =
      let whole = log_is_groups log going in
      subst P whole
      (after_next (beginning_of log) (groups_of log) each (subst (λ l. sent_count l ≤ frames) (sym whole) within)
      (subst P (sym begins) starts))
