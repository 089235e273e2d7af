-- What the log of a course says of its beginning, of its last group, and of how many frames were sent.
-- Cited above: course_begun, course_members, course_uncarried, members_more
use Rattle.std.proofs.Common.{◌≡◌, ◌⊎◌, inl, inr, ℕ, ◌≤◌, Bool, true, false, List, [], ◌∷◌, ◌++◌, length, take, All, None, Some, refl, ap, sym, subst, ◌∙◌, arith}
use Rattle.std.specs.Prelude.{if◌then◌else◌}
use Rattle.std.proofs.lemmas.List.Elements.{All-head, All-tail}
use Rattle.tap_name.specs.Settings.{SettingsValue}
use Rattle.tap_scenario.specs.declared.step.Step.{Step}
use Rattle.tap_log.specs.declared.record.Record.{Record}
use Rattle.tap_log.specs.declared.record.Record.TheVariants.{Begin, Step as StepRecord, Taken}
use Rattle.tap_log.specs.Counts.{sent_count}
use Rattle.tap_log.specs.Kinds.{begin_members, is_carried, sent_number, step_of}
use Rattle.tap_log.specs.Log.{last_of}
use Rattle.tap_history.specs.Core.{members_of}
use Rattle.tap_history.specs.Groups.{beginning_of, is_ended}
use Rattle.tap_history.specs.Refusals.{begin_settings}
use Rattle.tap_runs.specs.Beginning.{Beginning, begin_record}
use Rattle.tap_runs.specs.Course.{Follows, IsCourse, MayFollow, system_of}
use Rattle.tap_safety.specs.System.{System}
use Rattle.tap_runs.proofs.CourseGrows.{by_groups, starts_begun, starts_uncarried}
use Rattle.tap_runs.proofs.Nodes.{no_steps}
use Rattle.tap_runs.proofs.Within.{step_within, taken_within}

-- ---- the beginning

-- the first record is that of the beginning
first_is : (item : Record) (items : List Record) (b : Beginning) (carried : Bool)
    → take (if carried then 2 else 1) (item ∷ items) ≡ begin_record b ∷ [] → item ∷ [] ≡ begin_record b ∷ []
first_is item items b true both = ap (take 1) both
first_is item items b false one = one

-- it alone says the settings
begun_so : (items : List Record) (item : Record) → begin_settings (item ∷ items) ≡ begin_settings (item ∷ [])
unfolding begin_settings
begun_so items (Begin settings frames members) = refl
begun_so items item = refl

members_first : (log : List Record) (b : Beginning) → beginning_of log ≡ begin_record b ∷ [] → members_of log ≡ b.members
unfolding begin_members
members_first [] b is =
    let begun = starts_begun [] (begin_record b) is in
    absurd (omega (arith, begun))
members_first (item ∷ items) b is = ap members_of (first_is item items b (is_carried (item ∷ items)) is)

settings_first : (log : List Record) (b : Beginning) → beginning_of log ≡ begin_record b ∷ [] → begin_settings log ≡ Some b.settings
unfolding begin_settings
settings_first [] b is =
    let begun = starts_begun [] (begin_record b) is in
    absurd (omega (arith, begun))
settings_first (item ∷ items) b is =
    begun_so items item ∙ ap begin_settings (first_is item items b (is_carried (item ∷ items)) is)

module _ (b : Beginning) (log : List Record) (course : IsCourse b log) where
  pub course_members : members_of log ≡ b.members
  course_members = members_first log b course.begins

  pub course_settings : begin_settings log ≡ Some b.settings
  course_settings = settings_first log b course.begins

  pub course_begun : 1 ≤ length log
  course_begun = starts_begun log (begin_record b) course.begins

  pub course_uncarried : is_carried log ≡ false
  course_uncarried = starts_uncarried log (begin_record b) course.begins

pub members_more : (log more : List Record) → 1 ≤ length log → members_of (log ++ more) ≡ members_of log
members_more [] more begun = absurd (omega (arith, begun))
members_more (item ∷ items) more begun = refl

-- ---- how many frames were sent

module _ (b : Beginning) where
  none_sent : sent_count (begin_record b ∷ []) ≤ b.frames
  unfolding sent_number
  none_sent = omega arith

  pub sent_within : (log : List Record) → IsCourse b log → is_ended log ≡ false → sent_count log ≤ b.frames
  sent_within = by_groups b (λ log. sent_count log ≤ b.frames) (λ log group course going follows before. follows.within) none_sent

-- ---- the last group

-- the log is a course and one more group
pub record HasLastGroup (b : Beginning) (log : List Record) : Type 0 where
  pub before : List Record
  pub group : List Record
  pub course : IsCourse b before
  pub going : is_ended before ≡ false
  pub follows : Follows b before group
  pub is : log ≡ before ++ group

pub last_group : (b : Beginning) (log : List Record) → IsCourse b log → is_ended log ≡ false
    → (log ≡ begin_record b ∷ []) ⊎ HasLastGroup b log
last_group b = by_groups b (λ log. (log ≡ begin_record b ∷ []) ⊎ HasLastGroup b log)
    (λ log group course going follows before.
    inr (record { before = log; group = group; course = course; going = going; follows = follows; is = refl }))
    (inl refl)

-- the last one of records after others is the last one of all
pub last_of-append : (log : List Record) (first : Record) (after : List Record) → last_of (log ++ first ∷ after) ≡ last_of (first ∷ after)
last_of-append [] first after = refl
last_of-append (item ∷ []) first after = refl
last_of-append (item ∷ next ∷ items) first after = last_of-append (next ∷ items) first after

-- no step is the last one of records that begin none
no_last_step : (index : ℕ) (step : Step) (item : Record) (items : List Record) → All (λ i. step_of i ≡ None) (item ∷ items)
    → last_of (item ∷ items) ≡ Some (StepRecord index step) → ⊥
no_last_step index step item [] none is =
    let same : item ≡ StepRecord index step = cc in
    let wrong : None ≡ Some step = sym (All-head (λ i. step_of i ≡ None) item [] none) ∙ ap step_of same in
    cc
no_last_step index step item (next ∷ items) none is =
    no_last_step index step next items (All-tail (λ i. step_of i ≡ None) item (next ∷ items) none) is

-- a group whose last record is a step is that step alone
alone : (p : SettingsValue) (log : List Record) (s : System) (group : List Record) (index : ℕ) (step : Step) → MayFollow p log s group
    → last_of group ≡ Some (StepRecord index step) → group ≡ StepRecord index step ∷ []
unfolding MayFollow
alone p log s (StepRecord number first ∷ []) index step may is = let same : StepRecord number first ≡ StepRecord index step = cc in
    ap (λ i. i ∷ []) same
alone p log s (StepRecord number first ∷ item ∷ items) index step may is =
    absurd (no_last_step index step item items (no_steps (item ∷ items) (step_within p log s number first (item ∷ items) may)) is)
alone p log s (Taken number ∷ []) index step may is = let never : Taken number ≡ StepRecord index step = cc in absurd (cc)
alone p log s (Taken number ∷ item ∷ items) index step may is =
    absurd (no_last_step index step item items (no_steps (item ∷ items) (taken_within p log s number (item ∷ items) may)) is)
alone p log s group index step may is = absurd may

-- a course whose last record is a step
pub record EndsWithStep (b : Beginning) (log : List Record) (index : ℕ) (step : Step) : Type 0 where
  pub before : List Record
  pub course : IsCourse b before
  pub going : is_ended before ≡ false
  pub follows : Follows b before (StepRecord index step ∷ [])
  pub is : log ≡ before ++ StepRecord index step ∷ []

nonempty : (p : SettingsValue) (log : List Record) (s : System) → MayFollow p log s [] → ⊥
unfolding MayFollow
nonempty p log s may = may

last_in : (p : SettingsValue) (log : List Record) (s : System) (group : List Record) → MayFollow p log s group
    → last_of (log ++ group) ≡ last_of group
last_in p log s [] may = absurd (nonempty p log s may)
last_in p log s (first ∷ after) may = last_of-append log first after

pub last_step : (b : Beginning) (log : List Record) (index : ℕ) (step : Step) → IsCourse b log → is_ended log ≡ false
    → last_of log ≡ Some (StepRecord index step) → EndsWithStep b log index step
last_step b log index step course going is = elim (last_group b log course going) [
  | inl begin ↦
      let never : Some (begin_record b) ≡ Some (StepRecord index step) = ap last_of (sym begin) ∙ is in
      absurd (cc)
  | inr last ↦
      let s = system_of last.before in
      let at : last_of last.group ≡ Some (StepRecord index step) =
      sym (last_in b.settings last.before s last.group last.follows.may) ∙ ap last_of (sym last.is) ∙ is in
      let only = alone b.settings last.before s last.group index step last.follows.may at in
      record {
        before = last.before;
        course = last.course;
        going = last.going;
        follows = subst (Follows b last.before) only last.follows;
        is = last.is ∙ ap (λ g. last.before ++ g) only;
      }
]
