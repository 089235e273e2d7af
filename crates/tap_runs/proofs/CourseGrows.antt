-- One more group of a course.
-- Cited above: by_groups, course_grows_holds, grown, grown_going, grown_groups, grown_system, log_is, start_course, start_system, starts_begun,
-- starts_uncarried, whole
use Rattle.std.proofs.Common.{◌≡◌, ℕ, ◌≤◌, Bool, true, false, List, [], ◌∷◌, ◌++◌, length, take, refl, ap, sym, subst, ◌∙◌, arith, append-nil, append_assoc}
use Rattle.std.specs.Prelude.{drop, slice_get, if◌then◌else◌}
use Rattle.tap_name.specs.Name.{IsName}
use Rattle.tap_name.specs.Settings.{SettingsValue}
use Rattle.tap_name.proofs.Names.{among-All}
use Rattle.tap_log.specs.declared.record.Record.{Record}
use Rattle.tap_log.specs.declared.record.Record.TheVariants.{Step as StepRecord, Taken}
use Rattle.tap_log.specs.Kinds.{begins_group, is_carried}
use Rattle.tap_log.proofs.MoreRecords.{carried_alone, carried_none}
use Rattle.tap_history.specs.Groups.{EachGroupFrom, after_beginning, beginning_of, ends_log, groups_of, is_ended, records_of}
use Rattle.tap_history.specs.GroupLaws.{IsOpened}
use Rattle.tap_history.specs.Moments.{ends_before, is_moment}
use Rattle.tap_history.proofs.Ends.{holds_at_each_moment, log_in_groups_holds}
use Rattle.tap_history.proofs.Parts.{EachGroup-push, beginning_of-group, groups_of-group, is_ended-append, log_is_groups}
use Rattle.tap_safety.specs.System.{System}
use Rattle.tap_safety.specs.AtRest.{AreMembers, system_at_rest}
use Rattle.tap_runs.specs.Beginning.{Beginning, IsWithinLimits, begin_record}
use Rattle.tap_runs.specs.Course.{Follows, IsCourse, MayFollow, move_of_group, moved_by, system_after, system_from, system_of}
use Rattle.tap_runs.specs.CourseLaws.{CourseGrows}
use Rattle.tap_runs.proofs.Within.{IsWhole, whole_group}

-- ---- a log that begins with one record

pub starts_uncarried : (log : List Record) (item : Record) → beginning_of log ≡ item ∷ [] → is_carried log ≡ false
starts_uncarried [] item is = carried_none
starts_uncarried (first ∷ []) item is = carried_alone first
starts_uncarried (first ∷ next ∷ items) item is = one_alone (is_carried (first ∷ next ∷ items)) is
  where
    one_alone : (carried : Bool) → take (if carried then 2 else 1) (first ∷ next ∷ items) ≡ item ∷ [] → carried ≡ false
    one_alone true both = let two : 2 ≡ 1 = ap length both in absurd (omega (arith, two))
    one_alone false both = refl

pub starts_begun : (log : List Record) (item : Record) → beginning_of log ≡ item ∷ [] → 1 ≤ length log
starts_begun [] item is =
    let nothing : [] ≡ item ∷ [] = sym (ap (λ c. take (if c then 2 else 1) []) carried_none) ∙ is in
    let none : 0 ≡ 1 = ap length nothing in absurd (omega (arith, none))
starts_begun (first ∷ items) item is = omega arith

-- ---- the system after one more group

system_after-push : (p : SettingsValue) (before : List Record) (s : System) (groups : List (List Record)) (group : List Record)
    → system_after p before s (groups ++ group ∷ [])
    ≡ moved_by p (system_after p before s groups) (move_of_group (before ++ records_of groups) group)
system_after-push p before s [] group = ap (λ l. moved_by p s (move_of_group l group)) (sym (append-nil before))
system_after-push p before s (one ∷ groups) group =
    let next = moved_by p s (move_of_group before one) in
    system_after-push p (before ++ one) next groups group
    ∙ ap (λ l. moved_by p (system_after p (before ++ one) next groups) (move_of_group l group))
    (append_assoc before one (records_of groups))

system_from-begin : (b : Beginning) (groups : List (List Record))
    → system_from (begin_record b ∷ []) groups
    ≡ system_after b.settings (begin_record b ∷ []) (system_at_rest b.settings b.members) groups
unfolding system_from
system_from-begin b groups = refl

-- ---- one more group

pub log_is : (b : Beginning) (log : List Record) → IsCourse b log → is_ended log ≡ false
    → begin_record b ∷ [] ++ records_of (groups_of log) ≡ log
log_is b log course going = ap (λ l. l ++ records_of (groups_of log)) (sym course.begins) ∙ log_is_groups log going

module _ (b : Beginning) (log group : List Record) (course : IsCourse b log) (going : is_ended log ≡ false)
    (follows : Follows b log group) where
  pub whole : IsWhole log group
  whole = whole_group b.settings log (system_of log) group (starts_begun log (begin_record b) course.begins)
      (starts_uncarried log (begin_record b) course.begins) follows.may

  grown_with : (w : IsWhole log group) → Follows b log (w.first ∷ w.after) → IsCourse b (log ++ w.first ∷ w.after)
  grown_with w may = record {
    limits = course.limits;
    begins = beginning_of-group log w.first w.after w.whole ∙ course.begins;
    each = EachGroup-push (Follows b) log w.first w.after w.whole going w.going course.each may;
  }

  pub grown : IsCourse b (log ++ group)
  grown = subst (λ g. IsCourse b (log ++ g)) (sym whole.is) (grown_with whole (subst (Follows b log) whole.is follows))

  pub grown_going : is_ended (log ++ group) ≡ false
  grown_going =
      ap (λ g. is_ended (log ++ g)) whole.is ∙ is_ended-append log whole.first whole.after ∙ whole.going

  pub grown_groups : groups_of (log ++ group) ≡ groups_of log ++ group ∷ []
  grown_groups =
      ap (λ g. groups_of (log ++ g)) whole.is ∙ groups_of-group log whole.first whole.after whole.whole going whole.going
      ∙ ap (λ g. groups_of log ++ g ∷ []) (sym whole.is)

  grown_beginning : beginning_of (log ++ group) ≡ begin_record b ∷ []
  grown_beginning = grown.begins

  pub grown_system : system_of (log ++ group) ≡ moved_by b.settings (system_of log) (move_of_group log group)
  grown_system =
      let p = b.settings in
      let start = begin_record b ∷ [] in
      let rest = system_at_rest p b.members in
      ap (λ l. system_from l (groups_of (log ++ group))) grown_beginning
      ∙ ap (system_from start) grown_groups
      ∙ system_from-begin b (groups_of log ++ group ∷ [])
      ∙ system_after-push p start rest (groups_of log) group
      ∙ ap (λ l. moved_by p (system_after p start rest (groups_of log)) (move_of_group l group)) (log_is b log course going)
      ∙ ap (λ s. moved_by p s (move_of_group log group))
      (sym (ap (λ l. system_from l (groups_of log)) course.begins ∙ system_from-begin b (groups_of log)))

-- ---- the beginning alone

module _ (b : Beginning) where
  alone : beginning_of (begin_record b ∷ []) ≡ begin_record b ∷ []
  alone = ap (λ c. take (if c then 2 else 1) (begin_record b ∷ [])) (carried_alone (begin_record b))

  no_groups : groups_of (begin_record b ∷ []) ≡ []
  no_groups = log_in_groups_holds.none b.settings b.frames b.members

  pub start_course : IsWithinLimits b → IsCourse b (begin_record b ∷ [])
  start_course limits = record {
    limits = limits;
    begins = alone;
    each = subst (EachGroupFrom (Follows b) (beginning_of (begin_record b ∷ []))) (sym no_groups) tt;
  }

  pub start_system : system_of (begin_record b ∷ []) ≡ system_at_rest b.settings b.members
  start_system =
      ap (λ l. system_from l (groups_of (begin_record b ∷ []))) alone ∙ ap (system_from (begin_record b ∷ [])) no_groups
      ∙ system_from-begin b []

  start_members : IsWithinLimits b → AreMembers b.settings b.members
  start_members limits = record {
    limits = limits.settings;
    names = among-All (IsName b.settings) b.members limits.names;
    distinct = limits.distinct;
    some = λ none.
        let least = limits.members_from in
        let size : length b.members ≡ 0 = ap length none in absurd (omega (arith, least, size));
    few =
        let most : length b.members ≤ 64 = limits.members_to in
        let few : length b.members ≤ 256 = omega (arith, most) in few;
  }

  start_going : is_ended (begin_record b ∷ []) ≡ false
  unfolding ends_log
  start_going = refl

  -- what holds of the beginning, and is kept by each group that may follow, holds of each course
  module _ (P : List Record → Type 0)
      (keeps : (log group : List Record) → IsCourse b log → is_ended log ≡ false → Follows b log group → P log → P (log ++ group)) where
    after_groups : (log : List Record) (groups : List (List Record)) → IsCourse b log → is_ended log ≡ false
        → EachGroupFrom (Follows b) log groups → P log → P (log ++ records_of groups)
    after_groups log [] course going each p = subst P (sym (append-nil log)) p
    after_groups log (group ∷ groups) course going each p =
        subst P (append_assoc log group (records_of groups))
        (after_groups (log ++ group) groups (grown b log group course going each.0) (grown_going b log group course going each.0) each.1
        (keeps log group course going each.0 p))

    pub by_groups : P (begin_record b ∷ []) → (log : List Record) → IsCourse b log → is_ended log ≡ false → P log
    by_groups starts log course going =
        subst P (log_is b log course going)
        (after_groups (begin_record b ∷ []) (groups_of log) (start_course course.limits) start_going
        (subst (λ l. EachGroupFrom (Follows b) l (groups_of log)) course.begins course.each) starts)

-- ---- the moments of a course

-- a group that may follow begins with a record that begins groups
begins_first : (p : SettingsValue) (log : List Record) (s : System) (group rest : List Record) → MayFollow p log s group
    → ends_before false (slice_get (group ++ rest) 0) ≡ true
unfolding MayFollow begins_group
begins_first p log s (StepRecord index step ∷ items) rest may = refl
begins_first p log s (Taken number ∷ items) rest may = refl
begins_first p log s group rest may = absurd may

module _ (b : Beginning) (log : List Record) (course : IsCourse b log) (going : is_ended log ≡ false) where
  first_begins : (before : List Record) (groups : List (List Record)) → EachGroupFrom (Follows b) before groups
      → ends_before false (slice_get (records_of groups) 0) ≡ true
  first_begins before [] each = refl
  first_begins before (group ∷ groups) each = begins_first b.settings before (system_of before) group (records_of groups) each.0.may

  opened : IsOpened log
  opened =
      let uncarried = starts_uncarried log (begin_record b) course.begins in
      let later : after_beginning log ≡ records_of (groups_of log) =
      ap (λ c. drop (if c then 2 else 1) log) uncarried ∙ ap (drop 1) (sym (log_is b log course going)) in
      record {
        begun = starts_begun log (begin_record b) course.begins;
        next = ap (λ c. ends_before c (slice_get (after_beginning log) 0)) uncarried
            ∙ ap (λ l. ends_before false (slice_get l 0)) later
            ∙ first_begins (beginning_of log) (groups_of log) course.each;
      }

  at_moment : (m : ℕ) → is_moment log m ≡ true → IsCourse b (take m log) × (is_ended (take m log) ≡ false)
  at_moment m is =
      let Goes : List Record → Type 0 = λ l. IsCourse b l × (is_ended l ≡ false) in
      holds_at_each_moment Goes (Follows b)
      (λ before group goes follows.
      (grown b before group goes.0 goes.1 follows, grown_going b before group goes.0 goes.1 follows))
      log opened going (subst Goes (sym course.begins) (start_course b course.limits, start_going b)) course.each m is

pub course_grows_holds : CourseGrows
course_grows_holds = record {
  starts = start_course;
  at_rest = start_system;
  members = start_members;
  course = grown;
  going = grown_going;
  system = grown_system;
  moments = at_moment;
}
