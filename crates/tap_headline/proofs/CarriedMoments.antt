-- The moments of the log of a carried run: those of the log before its end, and the end.
use Rattle.std.proofs.Common.{◌≡◌, ◌⊎◌, inl, inr, ℕ, zero, suc, ◌+◌, ◌≤◌, true, false, List, [], ◌∷◌, ◌++◌, length, take, None, refl, ap, sym, subst, ◌∙◌, arith, append_assoc, length-append}
use Rattle.std.specs.Prelude.{◌&&◌, ◌||◌, nat_eq, slice_get}
use Rattle.std.specs.List.{list_any}
use Rattle.std.proofs.Math.Seq.{take-length}
use Rattle.std.proofs.lemmas.Bool.{false≢true, le-leb, or_left, or_right}
use Rattle.std.proofs.lemmas.List.Folds.{list_any-append}
use Rattle.std.proofs.lemmas.Option.{slice_get_past}
use Rattle.tap_scenario.specs.declared.step.Step.{Step}
use Rattle.tap_scenario.specs.Scenario.{ScenarioValue}
use Rattle.tap_log.specs.declared.record.Record.{Record}
use Rattle.tap_log.specs.declared.record.Record.TheVariants.{Carrier, Finished, Spent, Step as StepRecord}
use Rattle.tap_log.specs.Counts.{sent_count}
use Rattle.tap_log.specs.Kinds.{begins_group, is_carried}
use Rattle.tap_log.specs.Reduced.{is_added, reduced}
use Rattle.tap_history.specs.Moments.{ends_before, is_moment}
use Rattle.tap_history.specs.Refusals.{first_refusal}
use Rattle.tap_history.proofs.Instants.{moment-within}
use Rattle.tap_history.proofs.OneMoreGroup.{moment_by}
use Rattle.tap_runs.specs.Beginning.{Beginning, begin_record}
use Rattle.tap_carried.specs.LogTurns.{beginning_records}
use Rattle.tap_carried.specs.ReducedRuns.{IsRunOfTurns}
use Rattle.tap_carried.proofs.TurnGroups.{reduced-append}
use Rattle.tap_carried.proofs.TurnsKept.{earlier_too, moment_cases}
use Rattle.tap_lawful.specs.CarriedDue.{carried_due, choice_after}
use Rattle.tap_lawful.specs.CarriedRuns.{CarriedComesNext, IsCarriedPlayed, IsCarriedScript}
use Rattle.tap_lawful.specs.Next.{beginning_in, begun_count}
use Rattle.tap_lawful.proofs.CarriedComing.{begun_head, carried_coming}
use Rattle.tap_lawful.proofs.CarriedReduction.{by_carried, run_more, run_starts, whole_next}
use Rattle.tap_headline.proofs.CarriedEnds.{cut_group, longer_group}
use Rattle.tap_headline.proofs.Departing.{HasLastGroup}
use Rattle.tap_headline.proofs.Openings.{IsOpening}

-- ---- the end of a log is a moment

-- a group has begun in the reduced log
abbrev pub HasBegun : List Record → Type 0
HasBegun log = list_any (begins_group false) (reduced log) ≡ true

-- so its end is a moment
pub begun_end : (log : List Record) → is_carried log ≡ false → list_any (begins_group false) log ≡ true → is_moment log (length log) ≡ true
begun_end log uncarried begun =
    let n = length log in
    ap (λ b. moment_by n b (is_carried log) (take n log) (ends_before (is_carried log) (slice_get log n))) (le-leb n n (omega arith))
    ∙ ap (λ c. moment_by n true c (take n log) (ends_before c (slice_get log n))) uncarried
    ∙ ap (λ l. moment_by n true false l (ends_before false (slice_get log n))) (take-length log)
    ∙ ap (λ o. moment_by n true false log (ends_before false o)) (slice_get_past log n (omega arith))
    ∙ ap (λ b. nat_eq n 1 || (b && true)) begun ∙ or_right (nat_eq n 1) true refl

-- more records keep it
pub begun_more : (log more : List Record) → HasBegun log → HasBegun (log ++ more)
begun_more log more begun =
    ap (list_any (begins_group false)) (reduced-append log more) ∙ list_any-append (begins_group false) (reduced log) (reduced more)
    ∙ or_left (list_any (begins_group false) (reduced log)) (list_any (begins_group false) (reduced more)) begun

pub step_begun : (log : List Record) (index : ℕ) (step : Step) (items : List Record) → HasBegun (log ++ StepRecord index step ∷ items)
unfolding is_added begins_group
step_begun log index step items =
    let more = StepRecord index step ∷ items in
    ap (list_any (begins_group false)) (reduced-append log more) ∙ list_any-append (begins_group false) (reduced log) (reduced more)
    ∙ or_right (list_any (begins_group false) (reduced log)) (list_any (begins_group false) (reduced more)) refl

-- ---- the last group of a carried run

-- the log of a carried run, which is its beginning, or has a last group, and then its reduced log has one
pub record IsSoFar (s : ScenarioValue) (log : List Record) : Type 0 where
  pub run : IsRunOfTurns true (beginning_in s) log
  pub grown : (log ≡ beginning_records true (beginning_in s)) ⊎ (HasLastGroup log × HasBegun log)

-- nothing is due at first
none_at_first : (b : Beginning) → carried_due (beginning_records true b) ≡ None
unfolding choice_after
none_at_first b = refl

module _ (s : ScenarioValue) (script : IsCarriedScript s) where
  abbrev start : List Record
  start = beginning_records true (beginning_in s)

  -- so the first group is that of a step
  pub first_step : (log group : List Record) → log ≡ start → CarriedComesNext s log group
      → (index : ℕ) × (step : Step) × (items : List Record) × (StepRecord index step ∷ items ≡ group)
  first_step log group is comes =
      let none : carried_due log ≡ None = ap carried_due is ∙ none_at_first (beginning_in s) in
      elim (carried_coming s log group comes) [
        | inl arrives ↦ let wrong = sym none ∙ arrives.due in absurd (cc)
        | inr (inl ticks) ↦ let wrong = sym none ∙ ticks.due in absurd (cc)
        | inr (inr begins) ↦
            let index = begun_count log + 1 in
            let head = begun_head s.settings log index begins.step (first_refusal log begins.step) in
            (index, begins.step, head.0, head.1 ∙ begins.is)
      ]

  first_begun : (log group : List Record) → log ≡ start → CarriedComesNext s log group → HasBegun (log ++ group)
  first_begun log group is comes =
      let first = first_step log group is comes in
      subst (λ g. HasBegun (log ++ g)) first.3 (step_begun log first.0 first.1 first.2)

  far_more : (log group : List Record) → IsSoFar s log → CarriedComesNext s log group → sent_count (log ++ group) ≤ s.frames
      → IsSoFar s (log ++ group)
  far_more log group far comes within =
      let w = whole_next s script log group far.run comes within in
      record {
        run = run_more s script log group far.run comes within;
        grown = inr (
          record { before = log; first = w.first; after = w.after; is = ap (λ g. log ++ g) w.is; group = w.whole },
          elim far.grown [ inl is ↦ first_begun log group is comes | inr grown ↦ begun_more log group grown.1 ],
        );
      }

  pub so_far : (log : List Record) → IsCarriedPlayed s log → IsSoFar s log
  so_far = by_carried s (IsSoFar s) far_more (record { run = run_starts s script; grown = inl refl })

-- ---- the moments of a log with its ending

-- a moment is one of the log, or the end
abbrev pub IsEarlierOrLast : List Record → List Record → ℕ → Type 0
IsEarlierOrLast log longer m = ((m ≤ length log) × (is_moment log m ≡ true)) ⊎ (m ≡ length longer)

-- how many steps were run, right after the beginning
module _ (b : Beginning) (steps : ℕ) where
  abbrev alone : List Record
  alone = begin_record b ∷ Carrier ∷ Finished steps ∷ []

  alone_moment : (m : ℕ) → is_moment alone m ≡ true → m ≡ 2
  unfolding is_carried begins_group
  alone_moment zero is = absurd (false≢true is)
  alone_moment (suc zero) is = absurd (false≢true is)
  alone_moment (suc (suc zero)) is = refl
  alone_moment (suc (suc (suc zero))) is = absurd (false≢true is)
  alone_moment (suc (suc (suc (suc m)))) is =
      let most = moment-within alone (suc (suc (suc (suc m)))) is in absurd (omega (arith, most))

  begun_moment : is_moment (beginning_records true b) 2 ≡ true
  unfolding is_carried begins_group
  begun_moment = refl

  pub begun_cases : (log : List Record) → log ≡ beginning_records true b → (m : ℕ) → is_moment (log ++ Finished steps ∷ []) m ≡ true
      → (m ≤ length log) × (is_moment log m ≡ true)
  begun_cases log is m moment =
      let two : m ≡ 2 = alone_moment m (ap (λ l. is_moment (l ++ Finished steps ∷ []) m) (sym is) ∙ moment) in
      let size : length log ≡ 2 = ap length is in
      (omega (arith, two, size), subst (λ k. is_moment log k ≡ true) (sym two) (subst (λ l. is_moment l 2 ≡ true) (sym is) begun_moment))

module _ (b : Beginning) (log : List Record) (run : IsRunOfTurns true b log) where
  pub finished_cases : (grows : HasLastGroup log) (steps m : ℕ) → is_moment (log ++ Finished steps ∷ []) m ≡ true
      → IsEarlierOrLast log (log ++ Finished steps ∷ []) m
  finished_cases grows steps m is =
      let before = grows.before in
      let more = grows.after ++ Finished steps ∷ [] in
      let longer : log ++ Finished steps ∷ [] ≡ before ++ grows.first ∷ more =
      ap (λ l. l ++ Finished steps ∷ []) grows.is ∙ append_assoc before (grows.first ∷ grows.after) (Finished steps ∷ []) in
      elim (moment_cases before grows.first more (longer_group b log run (inr grows) steps grows) m (subst (λ l. is_moment l m ≡ true) longer is)) [
        | inl earlier ↦
            let size = ap length grows.is ∙ length-append before (grows.first ∷ grows.after) in
            let le = earlier.0 in
            inl (
              (let within : m ≤ length log = omega (arith, size, le) in within),
              subst (λ l. is_moment l m ≡ true) (sym grows.is)
                  (earlier_too before grows.first grows.after grows.group m earlier.0 earlier.1),
            )
        | inr last ↦ inr (last ∙ sym (ap length longer))
      ]

  pub cut_moments : (first : Record) (limit : ℕ) → IsOpening first → (m : ℕ) → is_moment (log ++ first ∷ Spent limit ∷ []) m ≡ true
      → IsEarlierOrLast log (log ++ first ∷ Spent limit ∷ []) m
  cut_moments first limit opens m is = moment_cases log first (Spent limit ∷ []) (cut_group b log run first limit opens) m is
