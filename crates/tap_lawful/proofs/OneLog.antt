-- A scenario has one log: of two one begins with the other.
-- Cited above: one_whole_with, played_compared, same_over
use Rattle.std.proofs.Common.{◌≡◌, ◌⊎◌, inl, inr, ◌<◌, ◌≤◌, List, [], ◌∷◌, ◌++◌, length, ap, sym, subst, ◌∙◌, arith, append-nil, append_assoc}
use Rattle.tap_scenario.specs.Scenario.{ScenarioValue}
use Rattle.tap_log.specs.declared.record.Record.{Record}
use Rattle.tap_log.specs.declared.record.Record.TheVariants.{Finished, Spent}
use Rattle.tap_log.specs.Counts.{sent_count}
use Rattle.tap_runs.specs.Beginning.{begin_record}
use Rattle.tap_lawful.specs.Next.{beginning_in, next_group}
use Rattle.tap_lawful.specs.Lawful.{IsLogWith, IsOverWith, IsPlayedWith, IsWholeLogWith, NextGroup, step_alone}
use Rattle.tap_lawful.specs.PlayedLaws.{BeginsWith, OneLog}
use Rattle.tap_lawful.proofs.Played.{sent_no_fewer}
use Rattle.tap_lawful.proofs.SameGroups.{Compared, GoesOn, begins_with, logs_compared}

module _ (coming : NextGroup) (s : ScenarioValue) where
  abbrev GoesAfter : List Record → List Record → Type 0
  GoesAfter = GoesOn coming

  pub played_compared : (one other : List Record) → IsPlayedWith coming s one → IsPlayedWith coming s other → Compared coming one other
  played_compared one other played also =
      logs_compared coming (begin_record (beginning_in s) ∷ []) one other played.begins also.begins played.going also.going
      played.each also.each

  -- a run that goes on isn't over
  pub not_over : (one other log : List Record) → IsPlayedWith coming s other → GoesAfter one other → IsOverWith coming s one log → ⊥
  not_over one other log also on (inl finished) = let both = sym finished.none ∙ on.comes in absurd (cc)
  not_over one other log also on (inr spent) =
      let same : spent.group ≡ on.group = let both = sym spent.next ∙ on.comes in cc in
      let over : s.frames < sent_count (one ++ on.group) = subst (λ g. s.frames < sent_count (one ++ g)) same spent.over in
      let fewer = sent_no_fewer (one ++ on.group) on.later in
      let within : sent_count ((one ++ on.group) ++ on.later) ≤ s.frames = subst (λ l. sent_count l ≤ s.frames) on.is also.within in
      absurd (omega (arith, over, fewer, within))

  pub same_over : (played one other : List Record) → IsOverWith coming s played one → IsOverWith coming s played other → one ≡ other
  same_over played one other (inl finished) (inl also) = finished.log_is ∙ sym also.log_is
  same_over played one other (inl finished) (inr spent) = let both = sym finished.none ∙ spent.next in absurd (cc)
  same_over played one other (inr spent) (inl finished) = let both = sym finished.none ∙ spent.next in absurd (cc)
  same_over played one other (inr spent) (inr also) =
      let same : spent.group ≡ also.group = let both = sym spent.next ∙ also.next in cc in
      spent.log_is ∙ ap (λ g. played ++ (step_alone g ++ Spent s.frames ∷ [])) same ∙ sym also.log_is

  same_begins : (first log : List Record) → first ≡ log → BeginsWith first log
  same_begins first log same = begins_with first [] log (sym same ∙ sym (append-nil first))

  abbrev pub Ending : List Record → List Record → Type 0
  Ending played log = (log ≡ played) ⊎ IsOverWith coming s played log

  -- each log begins with what was played before its ending
  pub ending_after : (played log : List Record) → Ending played log → (rest : List Record) × (log ≡ played ++ rest)
  ending_after played log (inl is) = ([], is ∙ sym (append-nil played))
  ending_after played log (inr (inl finished)) = (Finished (length s.steps) ∷ [], finished.log_is)
  ending_after played log (inr (inr spent)) = (step_alone spent.group ++ Spent s.frames ∷ [], spent.log_is)

  -- two logs of one run
  same_run : (played one other : List Record) → Ending played one → Ending played other → BeginsWith one other ⊎ BeginsWith other one
  same_run played one other (inl is) also =
      let after = ending_after played other also in
      inl (begins_with one after.0 other (after.1 ∙ ap (λ l. l ++ after.0) (sym is)))
  same_run played one other (inr over) (inl is) =
      let after = ending_after played one (inr over) in
      inr (begins_with other after.0 one (after.1 ∙ ap (λ l. l ++ after.0) (sym is)))
  same_run played one other (inr over) (inr also) = inl (same_begins one other (same_over played one other over also))

  -- the log of a run that goes on in the other one begins it
  goes_begins : (played also one other : List Record) → IsPlayedWith coming s also → GoesAfter played also → Ending played one → Ending also other
      → BeginsWith one other
  goes_begins played also one other is_played on (inl is) ending =
      let after = ending_after also other ending in
      let all : other ≡ one ++ (on.group ++ (on.later ++ after.0)) =
      after.1 ∙ ap (λ l. l ++ after.0) on.is
      ∙ append_assoc (played ++ on.group) on.later after.0
      ∙ append_assoc played on.group (on.later ++ after.0)
      ∙ ap (λ l. l ++ (on.group ++ (on.later ++ after.0))) (sym is) in
      begins_with one (on.group ++ (on.later ++ after.0)) other all
  goes_begins played also one other is_played on (inr over) ending = absurd (not_over played also one is_played on over)

  pub one_log_with : (one other : List Record) → IsLogWith coming s one → IsLogWith coming s other → BeginsWith one other ⊎ BeginsWith other one
  one_log_with one other log also =
      elim (played_compared log.played also.played log.is_played also.is_played) [
        | inl same ↦ same_run also.played one other (subst (λ l. Ending l one) same log.ending) also.ending
        | inr (inl on) ↦ inl (goes_begins log.played also.played one other also.is_played on log.ending also.ending)
        | inr (inr on) ↦ inr (goes_begins also.played log.played other one log.is_played on also.ending log.ending)
      ]

  pub one_whole_with : (one other : List Record) → IsWholeLogWith coming s one → IsWholeLogWith coming s other → one ≡ other
  one_whole_with one other log also =
      elim (played_compared log.played also.played log.is_played also.is_played) [
        | inl same ↦ same_over also.played one other (subst (λ l. IsOverWith coming s l one) same log.over) also.over
        | inr (inl on) ↦ absurd (not_over log.played also.played one also.is_played on log.over)
        | inr (inr on) ↦ absurd (not_over also.played log.played other log.is_played on also.over)
      ]

pub one_log_holds : OneLog
one_log_holds = record {
  first = λ s one other log also. one_log_with (next_group s) s one other log also;
  whole = λ s one other log also. one_whole_with (next_group s) s one other log also;
}
