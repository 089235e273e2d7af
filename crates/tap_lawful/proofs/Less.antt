-- With each group less is left of a run.
-- Cited above: less_left
use Rattle.std.proofs.Common.{◌≡◌, inl, inr, ℕ, ◌+◌, ◌<◌, ◌≤◌, Bool, true, false, not, cond, List, [], ◌∷◌, ◌++◌, length, refl, ap, sym, subst, ◌∙◌, arith, length-append}
use Rattle.std.specs.Prelude.{◌||◌, nat_eq}
use Rattle.std.specs.List.{filter_map}
use Rattle.std.proofs.lemmas.Bool.{cases_Bool, eq-eqb, eqb-true}
use Rattle.std.proofs.lemmas.List.Elements.{filter-append, filter_map-append}
use Rattle.std.proofs.lemmas.Option.{slice_get_within}
use Rattle.tap_name.specs.Settings.{SettingsValue}
use Rattle.tap_scenario.specs.declared.step.Step.{Step}
use Rattle.tap_scenario.specs.Scenario.{ScenarioValue}
use Rattle.tap_log.specs.declared.record.Record.{Record}
use Rattle.tap_log.specs.Kinds.{sent_number, step_of, taken_number}
use Rattle.tap_log.specs.Counts.{sent_count}
use Rattle.tap_log.specs.Log.{begun_steps}
use Rattle.tap_history.specs.Moments.{has_number, numbers_less, outstanding}
use Rattle.tap_history.proofs.Less.{filter_within, less_by-more}
use Rattle.tap_lawful.specs.Next.{begun_count}
use Rattle.tap_runs.specs.Groups.{step_group, taken_group}
use Rattle.tap_lawful.specs.Lawful.{ComesNext}
use Rattle.tap_lawful.specs.PlayedLaws.{left_of}
use Rattle.tap_lawful.proofs.Coming.{coming, due_waits}
use Rattle.tap_lawful.proofs.Played.{sent_count-append}

-- ---- frames that are taken away

less_size : (numbers ended : List ℕ) → length (numbers_less numbers ended) ≤ length numbers
less_size numbers ended = filter_within (λ number. not (has_number ended number)) numbers

same_number : (number : ℕ) → nat_eq number number ≡ true
same_number number = eq-eqb number number refl

one_longer : (passes : Bool) (x : ℕ) (xs : List ℕ) → length (cond {A = List ℕ} passes (x ∷ xs) xs) ≤ length xs + 1
one_longer true x xs = omega arith
one_longer false x xs = omega arith

-- without a number that is one of them there are fewer
less_found : (numbers : List ℕ) (number : ℕ) (ended : List ℕ) → has_number numbers number ≡ true
    → length (numbers_less numbers (number ∷ ended)) < length numbers
less_found [] number ended is = absurd (cc)
less_found (first ∷ numbers) number ended is =
    let rest = numbers_less numbers (number ∷ ended) in
    elim (cases_Bool (nat_eq first number)) [
      | inl here ↦
          let alike : nat_eq number first ≡ true = ap (nat_eq number) (eqb-true first number here) ∙ same_number number in
          let gone : length (numbers_less (first ∷ numbers) (number ∷ ended)) ≡ length rest =
          ap (λ b. length (cond {A = List ℕ} (not (b || has_number ended first)) (first ∷ rest) rest)) alike in
          let few = less_size numbers (number ∷ ended) in omega (arith, gone, few)
      | inr apart ↦
          let found : has_number numbers number ≡ true = sym (ap (λ b. b || has_number numbers number) apart) ∙ is in
          let later = less_found numbers number ended found in
          let longer : length (numbers_less (first ∷ numbers) (number ∷ ended)) ≤ length rest + 1 =
          one_longer (not (has_number (number ∷ ended) first)) first rest in
          omega (arith, later, longer)
    ]

less-append : (xs ys ended : List ℕ) → numbers_less (xs ++ ys) ended ≡ numbers_less xs ended ++ numbers_less ys ended
less-append xs ys ended = filter-append (λ number. not (has_number ended number)) xs ys

-- those outstanding after more records: of the earlier ones those that aren't taken, and no more than are sent
outstanding_size : (log group : List Record)
    → length (outstanding (log ++ group)) ≤ length (numbers_less (outstanding log) (filter_map taken_number group)) + sent_count group
outstanding_size log group =
    let ended = filter_map taken_number log in
    let ends = filter_map taken_number group in
    let more = numbers_less (filter_map sent_number group) ended in
    let all : outstanding (log ++ group) ≡ numbers_less (outstanding log ++ more) ends =
    ap (λ l. numbers_less l (filter_map taken_number (log ++ group))) (filter_map-append sent_number log group)
    ∙ ap (numbers_less (filter_map sent_number log ++ filter_map sent_number group)) (filter_map-append taken_number log group)
    ∙ less_by-more nat_eq (filter_map sent_number log) (filter_map sent_number group) ended ends in
    let parts : numbers_less (outstanding log ++ more) ends ≡ numbers_less (outstanding log) ends ++ numbers_less more ends =
    less-append (outstanding log) more ends in
    let size = ap length (all ∙ parts) ∙ length-append (numbers_less (outstanding log) ends) (numbers_less more ends) in
    let few = less_size more ends in
    let fewer = less_size (filter_map sent_number group) ended in
    omega (arith, size, few, fewer)

-- ---- what a group counts

begun-append : (log group : List Record) → begun_count (log ++ group) ≡ begun_count log + begun_count group
begun-append log group = ap length (filter_map-append step_of log group) ∙ length-append (begun_steps log) (begun_steps group)

step_begins : (p : SettingsValue) (log : List Record) (index : ℕ) (step : Step) → 1 ≤ begun_count (step_group p log index step)
step_begins p log index step = omega arith

takes_it : (p : SettingsValue) (log : List Record) (number : ℕ) → (rest : List ℕ)
    × (filter_map taken_number (taken_group p log number) ≡ number ∷ rest)
unfolding taken_number
takes_it p log number = (_, refl)

-- ---- less is left

module _ (s : ScenarioValue) (log group : List Record) (within : sent_count (log ++ group) ≤ s.frames) where
  less_by_frame : length (numbers_less (outstanding log) (filter_map taken_number group)) < length (outstanding log)
      → left_of s (log ++ group) < left_of s log
  less_by_frame fewer =
      let begun = begun-append log group in
      let sent = sent_count-append log group in
      let size = outstanding_size log group in
      omega (arith, begun, sent, size, fewer, within)

  less_by_step : begun_count log < length s.steps → 1 ≤ begun_count group → left_of s (log ++ group) < left_of s log
  less_by_step some one =
      let begun = begun-append log group in
      let sent = sent_count-append log group in
      let size = outstanding_size log group in
      let few = less_size (outstanding log) (filter_map taken_number group) in
      omega (arith, some, one, begun, sent, size, few, within)

pub less_left : (s : ScenarioValue) (log group : List Record) → ComesNext s log group → sent_count (log ++ group) ≤ s.frames
    → left_of s (log ++ group) < left_of s log
less_left s log group comes within =
    let p = s.settings in
    elim (coming s log group comes) [
      | inl taken ↦
          let takes = takes_it p log taken.number in
          let of_group : filter_map taken_number group ≡ taken.number ∷ takes.0 = ap (filter_map taken_number) (sym taken.is) ∙ takes.1 in
          let fewer = less_found (outstanding log) taken.number takes.0 (due_waits log taken.number taken.due) in
          less_by_frame s log group within
          (subst (λ l. length (numbers_less (outstanding log) l) < length (outstanding log)) (sym of_group) fewer)
      | inr begun ↦
          less_by_step s log group within (slice_get_within s.steps (begun_count log) begun.step begun.next)
          (subst (λ g. 1 ≤ begun_count g) begun.is (step_begins p log (begun_count log + 1) begun.step))
    ]
