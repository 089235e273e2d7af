-- Two courses that begin and choose alike are one.
use Rattle.std.proofs.Common.{◌≡◌, ℕ, Bool, true, false, List, [], ◌∷◌, ◌++◌, map, refl, ap, sym, subst, ◌∙◌}
use Rattle.std.specs.Prelude.{if◌then◌else◌}
use Rattle.tap_name.specs.Settings.{SettingsValue}
use Rattle.tap_scenario.specs.declared.step.Step.{Step}
use Rattle.tap_log.specs.declared.record.Record.{Record}
use Rattle.tap_log.specs.declared.record.Record.TheVariants.{Step as StepRecord, Taken}
use Rattle.tap_history.specs.Groups.{EachGroupFrom, groups_of, records_of}
use Rattle.tap_safety.specs.System.{System}
use Rattle.tap_runs.specs.Beginning.{Beginning, begin_record}
use Rattle.tap_runs.specs.Course.{FollowStep, Follows, MayFollow, is_choice, system_of}
use Rattle.tap_runs.specs.CourseLaws.{OneCourse, choice_of}
use Rattle.tap_runs.proofs.CourseGrows.{log_is}

-- the first one of these records, and those after it
abbrev first_or : Record → List Record → Record
first_or other [] = other
first_or other (item ∷ items) = item

abbrev rest_of : List Record → List Record
rest_of [] = []
rest_of (item ∷ items) = items

chosen_first : (other first : Record) (items : List Record) → first_or other (choice_of (first ∷ items)) ≡ first
unfolding choice_of
chosen_first other (StepRecord index step) items = refl
chosen_first other first items = refl

module _ (p : SettingsValue) (log : List Record) (s : System) where
  same_items : (choice : Bool) (index : ℕ) (step : Step) (one other : List Record) → FollowStep choice p log s index step one
      → FollowStep choice p log s index step other → (if choice then one else []) ≡ (if choice then other else []) → one ≡ other
  same_items true index step one other follow follows same = same
  same_items false index step one other follow follows same = follow ∙ sym follows

  -- after one first record, and the same choice, the same follows
  same_rest : (first : Record) (one other : List Record) → MayFollow p log s (first ∷ one) → MayFollow p log s (first ∷ other)
      → choice_of (first ∷ one) ≡ choice_of (first ∷ other) → one ≡ other
  unfolding MayFollow choice_of
  same_rest (StepRecord index step) one other may also same =
      same_items (is_choice step) index step one other may also (ap rest_of same)
  same_rest (Taken number) one other may also same = may.are ∙ sym also.are
  same_rest first one other may also same = absurd may

  nothing_follows : MayFollow p log s [] → ⊥
  unfolding MayFollow
  nothing_follows may = may

  -- the log before a group and the choice of the group make the group
  pub same_group : (one other : List Record) → MayFollow p log s one → MayFollow p log s other → choice_of one ≡ choice_of other
      → one ≡ other
  same_group [] other may also same = absurd (nothing_follows may)
  same_group (first ∷ one) [] may also same = absurd (nothing_follows also)
  same_group (first ∷ one) (next ∷ other) may also same =
      let alike : first ≡ next = sym (chosen_first first first one) ∙ ap (first_or first) same ∙ chosen_first first next other in
      ap (λ l. first ∷ l)
      (same_rest first one other may (subst (λ f. MayFollow p log s (f ∷ other)) (sym alike) also)
      (same ∙ ap (λ f. choice_of (f ∷ other)) (sym alike)))
      ∙ ap (λ f. f ∷ other) alike

module _ (b : Beginning) where
  same_groups : (log : List Record) (ones others : List (List Record)) → EachGroupFrom (Follows b) log ones
      → EachGroupFrom (Follows b) log others → map choice_of ones ≡ map choice_of others → ones ≡ others
  same_groups log [] [] each also same = refl
  same_groups log [] (other ∷ others) each also same = absurd (cc)
  same_groups log (one ∷ ones) [] each also same = absurd (cc)
  same_groups log (one ∷ ones) (other ∷ others) each also same =
      let first : choice_of one ≡ choice_of other = cc in
      let rest : map choice_of ones ≡ map choice_of others = cc in
      let alike = same_group b.settings log (system_of log) one other each.0.may also.0.may first in
      ap (λ l. one ∷ l)
      (same_groups (log ++ one) ones others each.1 (subst (λ g. EachGroupFrom (Follows b) (log ++ g) others) (sym alike) also.1) rest)
      ∙ ap (λ g. g ∷ others) alike

pub one_course_holds : OneCourse
one_course_holds b one other course also going ends same =
    let from : List Record → Type 0 = λ l. EachGroupFrom (Follows b) l (groups_of one) in
    let onward : List Record → Type 0 = λ l. EachGroupFrom (Follows b) l (groups_of other) in
    let groups = same_groups b (begin_record b ∷ []) (groups_of one) (groups_of other) (subst from course.begins course.each)
    (subst onward also.begins also.each) same in
    sym (log_is b one course going) ∙ ap (λ g. begin_record b ∷ [] ++ records_of g) groups ∙ log_is b other also ends
