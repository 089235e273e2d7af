-- What is said of lookups and their answers stays so once it stands after the log how its run has ended.
-- Cited above: answered_kept, disturbed_kept, ends_kept
use Rattle.std.proofs.Common.{◌≡◌, ◌⊎◌, inl, inr, ℕ, ◌<◌, ◌≤◌, true, false, List, ◌∷◌, ◌++◌, length, take, All, None, Some, arith, ap, sym, subst, ◌∙◌, length-append}
use Rattle.std.specs.Prelude.{nat_le, slice_get}
use Rattle.std.proofs.Math.Seq.{take-append_seam, take-length}
use Rattle.std.proofs.lemmas.Bool.{cases_Bool, cases_lt, le-leb, true≢false}
use Rattle.std.proofs.lemmas.List.{get_or_append_left, take-append-le}
use Rattle.std.proofs.lemmas.Option.{slice_get-get_or}
use Rattle.tap_name.specs.Settings.{SettingsValue}
use Rattle.tap_pointer.specs.Pointers.{pair_of}
use Rattle.tap_log.specs.Kinds.{is_carried}
use Rattle.tap_log.specs.declared.record.Record.{Record}
use Rattle.tap_log.specs.declared.record.Record.TheVariants.{Answered, Taken}
use Rattle.tap_history.specs.Moments.{ends_before, is_moment, is_rest}
use Rattle.tap_history.specs.Published.{has_pair, published_of}
use Rattle.tap_history.proofs.Instants.{moment-within}
use Rattle.tap_history.proofs.OneMoreGroup.{moment_by}
use Rattle.tap_runs.specs.Course.{system_of}
use Rattle.tap_runs.specs.Observed.{pair_line}
use Rattle.tap_pointer_runs.specs.AnsweredOnce.{LookupsAreAnswered, answers_under, asks_under, times_answered, times_asked}
use Rattle.tap_pointer_runs.specs.LookupAnswers.{was_asked}
use Rattle.tap_pointer_runs.specs.NoServer.{AnsweredNoneWereDisturbed, IsBusy, IsDisturbed, LookupsEndWithoutServer, WasDisturbed}
use Rattle.tap_pointer_runs.proofs.LookupsCounted.{all_unanswered_times, all_unasked_times, times-append}
use Rattle.tap_pointer_runs.proofs.LookupsGrow.{asked_grows}
use Rattle.tap_pointer_runs.proofs.Moments.{ends_longer}
use Rattle.tap_safe_runs.proofs.Splits.{all_at, parted_where}
use Rattle.tap_pointer_runs.proofs.Unanswered.{IsUnanswered, IsUnasked}

-- ---- each is answered once

-- With records that neither ask for a lookup nor answer one it stays so, if a rest was one before them.
pub answered_kept : (p : SettingsValue) (log ending : List Record) → All IsUnasked ending → All IsUnanswered ending
    → (is_rest (log ++ ending) ≡ true → is_rest log ≡ true) → LookupsAreAnswered p log → LookupsAreAnswered p (log ++ ending)
answered_kept p log ending unasked unanswered before are =
    let asks : (ticket : ℕ) → times_asked ticket (log ++ ending) ≡ times_asked ticket log = λ ticket.
    let all = times-append (asks_under ticket) log ending in
    let none = all_unasked_times ticket ending unasked in
    omega (arith, all, none) in
    let answers : (ticket : ℕ) → times_answered ticket (log ++ ending) ≡ times_answered ticket log = λ ticket.
    let all = times-append (answers_under ticket) log ending in
    let none = all_unanswered_times ticket ending unanswered in
    omega (arith, all, none) in
    record {
      asked = λ ticket. let same = asks ticket in let few = are.asked ticket in omega (arith, same, few);
      answered = λ ticket.
          let same = asks ticket in
          let then = answers ticket in
          let few = are.answered ticket in omega (arith, same, then, few);
      rest = λ rest ticket.
          let same = asks ticket in
          let then = answers ticket in
          let all = are.rest (before rest) ticket in omega (arith, same, then, all);
    }

-- ---- without a server

module _ (p : SettingsValue) (log ending : List Record) (uncarried : is_carried log ≡ false) (still : is_carried (log ++ ending) ≡ false)
    (none : All IsUnanswered ending) where
  abbrev longer : List Record
  longer = log ++ ending

  -- the moments before the end of the log are moments still, and no others are there
  same_moment : (m : ℕ) → m < length log → is_moment (log ++ ending) m ≡ is_moment log m
  same_moment m less =
      let size = length-append log ending in
      let within = le-leb m (length longer) (omega (arith, less, size)) ∙ sym (le-leb m (length log) (omega (arith, less))) in
      let there : slice_get longer m ≡ slice_get log m =
      slice_get-get_or longer m (Taken 0) (omega (arith, less, size)) ∙ ap Some (get_or_append_left log ending (Taken 0) m less)
      ∙ sym (slice_get-get_or log m (Taken 0) less) in
      ap (λ b. moment_by m b (is_carried longer) (take m longer) (ends_before (is_carried longer) (slice_get longer m))) within
      ∙ ap (λ c. moment_by m (nat_le m (length log)) c (take m longer) (ends_before c (slice_get longer m))) (still ∙ sym uncarried)
      ∙ ap (λ l. moment_by m (nat_le m (length log)) (is_carried log) l (ends_before (is_carried log) (slice_get longer m)))
      (take-append-le m log ending (omega (arith, less)))
      ∙ ap (λ o. moment_by m (nat_le m (length log)) (is_carried log) (take m log) (ends_before (is_carried log) o)) there

  -- an answer stands in the log, not in the ending
  record IsInLog (before : List Record) (ticket : ℕ) : Type 0 where
    middle : List Record
    is : log ≡ before ++ Answered ticket None ∷ middle
    inside : length before < length log

  in_log : (before after : List Record) (ticket : ℕ) → log ++ ending ≡ before ++ Answered ticket None ∷ after → IsInLog before ticket
  in_log before after ticket split =
      elim (parted_where log ending before (Answered ticket None ∷ after) split) [
        | inl later ↦ absurd (all_at IsUnanswered ending later.middle (Answered ticket None) after none later.back)
        | inr within ↦
            let back = within.back in
            let same : within.first ≡ Answered ticket None = cc in
            let is : log ≡ before ++ Answered ticket None ∷ within.middle = within.front ∙ ap (λ r. before ++ r ∷ within.middle) same in
            let size = ap length is ∙ length-append before (Answered ticket None ∷ within.middle) in
            record { middle = within.middle; is = is; inside = omega (arith, size) }
      ]

  pub ends_kept : LookupsEndWithoutServer p log → LookupsEndWithoutServer p (log ++ ending)
  ends_kept ends before after ticket object split asked =
      let there = in_log before after ticket split in
      let was = ends before there.middle ticket object there.is asked in
      let less : was.at < length log = let one = was.earlier in let two = there.inside in omega (arith, one, two) in
      record {
        at = was.at;
        moment = same_moment was.at less ∙ was.moment;
        earlier = was.earlier;
        ends = ends_longer log ending ticket object was.at (omega (arith, less)) was.ends;
      }

  -- the system and the published pairs are as before the ending, and its end is the one moment after the log
  module _ (system : system_of (log ++ ending) ≡ system_of log) (published : published_of (log ++ ending) ≡ published_of log)
      (end : is_moment (log ++ ending) (length (log ++ ending)) ≡ true)
      (last : (m : ℕ) → length log < m → is_moment (log ++ ending) m ≡ true → m ≡ length (log ++ ending)) where
    disturbed_as : (object : List ℕ) → IsDisturbed log object → IsDisturbed (log ++ ending) object
    disturbed_as object (inl server) =
        inl (λ name is. server name (sym (ap (λ pairs. has_pair pairs (pair_line (pair_of object name))) published) ∙ is))
    disturbed_as object (inr busy) = inr (subst IsBusy (sym system) busy)

    module _ (before : List Record) (ticket : ℕ) (object : List ℕ) (was : WasDisturbed log before ticket object) where
      -- at an earlier moment it was as before
      earlier : was.at < length log → WasDisturbed (log ++ ending) before ticket object
      earlier less =
          let same = sym (take-append-le was.at log ending (omega (arith, less))) in
          record {
            at = was.at;
            moment = same_moment was.at less ∙ was.moment;
            asked = subst (λ l. was_asked l ticket object ≡ true) same was.asked;
            until = λ other is below. was.until other (sym (same_moment other (omega (arith, less, below))) ∙ is) below;
            disturbed = subst (λ l. IsDisturbed l object) same was.disturbed;
          }

      -- at the end of the log it is so at the end of the log, or at that of the ending
      module _ (here : was.at ≡ length log) where
        asked : was_asked log ticket object ≡ true
        asked = subst (λ l. was_asked l ticket object ≡ true) (ap (λ m. take m log) here ∙ take-length log) was.asked

        disturbed : IsDisturbed log object
        disturbed = subst (λ l. IsDisturbed l object) (ap (λ m. take m log) here ∙ take-length log) was.disturbed

        before_it : (other : ℕ) → is_moment (log ++ ending) other ≡ true → other < length log → other ≤ length before
        before_it other is less =
            was.until other (sym (same_moment other less) ∙ is) (omega (arith, less, here))

        at_log : is_moment (log ++ ending) (length log) ≡ true → WasDisturbed (log ++ ending) before ticket object
        at_log moment =
            let same = sym (take-append_seam log ending) in
            record {
              at = length log;
              moment = moment;
              asked = subst (λ l. was_asked l ticket object ≡ true) same asked;
              until = before_it;
              disturbed = subst (λ l. IsDisturbed l object) same disturbed;
            }

        at_end : is_moment (log ++ ending) (length log) ≡ false → WasDisturbed (log ++ ending) before ticket object
        at_end apart =
            let same = sym (take-length longer) in
            record {
              at = length longer;
              moment = end;
              asked = subst (λ l. was_asked l ticket object ≡ true) same (asked_grows log ending ticket object asked);
              until = λ other is below. until_end other is below (cases_lt (length log) other) (cases_lt other (length log));
              disturbed = subst (λ l. IsDisturbed l object) same (disturbed_as object disturbed);
            }
          where
            until_end : (other : ℕ) → is_moment (log ++ ending) other ≡ true → other < length (log ++ ending)
                → (length log < other) ⊎ (other ≤ length log) → (other < length log) ⊎ (length log ≤ other) → other ≤ length before
            until_end other is below (inl past) place = let same = last other past is in absurd (omega (arith, same, below))
            until_end other is below (inr within) (inl less) = before_it other is less
            until_end other is below (inr within) (inr from) =
                let same : other ≡ length log = omega (arith, within, from) in
                absurd (true≢false (sym (subst (λ m. is_moment (log ++ ending) m ≡ true) same is) ∙ apart))

      disturbed_still : WasDisturbed (log ++ ending) before ticket object
      disturbed_still =
          let within = moment-within log was.at was.moment in
          elim (cases_lt was.at (length log)) [
            | inl less ↦ earlier less
            | inr from ↦
                let here : was.at ≡ length log = omega (arith, within, from) in
                elim (cases_Bool (is_moment (log ++ ending) (length log))) [
                  | inl moment ↦ at_log here moment
                  | inr apart ↦ at_end here apart
                ]
          ]

    pub disturbed_kept : AnsweredNoneWereDisturbed p log → AnsweredNoneWereDisturbed p (log ++ ending)
    disturbed_kept disturbed before after ticket object split asked =
        let there = in_log before after ticket split in
        disturbed_still before ticket object (disturbed before there.middle ticket object there.is asked)
