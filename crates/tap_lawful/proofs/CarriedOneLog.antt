-- A scenario has one log of its carried runs: of two one begins with the other.
-- Cited above: one_carried_log_holds, played_compared, same_over
use Rattle.std.proofs.Common.{◌≡◌, ◌⊎◌, inl, inr, ℕ, ◌+◌, ◌<◌, ◌≤◌, true, List, [], ◌∷◌, ◌++◌, length, take, drop, Some, ap, sym, subst, ◌∙◌, arith, append-nil, append_assoc, length-append}
use Rattle.std.proofs.lemmas.Bool.{cases_lt}
use Rattle.std.proofs.lemmas.List.{length-take-le, take-append-drop, take-take}
use Rattle.tap_scenario.specs.Scenario.{ScenarioValue}
use Rattle.tap_log.specs.declared.record.Record.{Record}
use Rattle.tap_log.specs.declared.record.Record.TheVariants.{Finished, Spent}
use Rattle.tap_log.specs.Counts.{sent_count}
use Rattle.tap_carried.specs.LogTurns.{beginning_records}
use Rattle.tap_lawful.specs.CarriedLaws.{OneCarriedLog}
use Rattle.tap_lawful.specs.CarriedNext.{carried_next_group}
use Rattle.tap_lawful.specs.CarriedRuns.{IsCarriedCut, IsCarriedLogOf, IsCarriedOver, IsCarriedPlayed, IsWholeCarriedLogOf}
use Rattle.tap_lawful.specs.Next.{beginning_in}
use Rattle.tap_lawful.specs.PlayedLaws.{BeginsWith}
use Rattle.tap_lawful.proofs.Played.{sent_no_fewer}
use Rattle.tap_lawful.proofs.SameGroups.{Compared, GoesOn, begins_with, logs_compared}

-- of two fronts of a list one begins the other
module _ (played group : List Record) where
  shorter_front : (k n : ℕ) → k ≤ n → (rest : List Record) × (played ++ take n group ≡ (played ++ take k group) ++ rest)
  shorter_front k n fewer = (
    drop k (take n group),
    ap (λ l. played ++ l) (sym (take-append-drop k (take n group)) ∙ ap (λ l. l ++ drop k (take n group)) (take-take k n group fewer))
        ∙ sym (append_assoc played (take k group) (drop k (take n group))),
  )

  fronts : (one other : List Record) (k n : ℕ) → one ≡ played ++ take k group → other ≡ played ++ take n group
      → BeginsWith one other ⊎ BeginsWith other one
  fronts one other k n is also =
      elim (cases_lt k n) [
        | inl below ↦
            let more = shorter_front k n (omega (arith, below)) in
            inl (begins_with one more.0 other (also ∙ more.1 ∙ ap (λ l. l ++ more.0) (sym is)))
        | inr more_first ↦
            let more = shorter_front n k more_first in
            inr (begins_with other more.0 one (is ∙ more.1 ∙ ap (λ l. l ++ more.0) (sym also)))
      ]

module _ (s : ScenarioValue) where
  abbrev next : List Record → List Record → Type 0
  next = λ before group. carried_next_group s before ≡ Some group

  abbrev pub Ending : List Record → List Record → Type 0
  Ending played log = (log ≡ played) ⊎ (IsCarriedOver s played log ⊎ IsCarriedCut s played log)

  abbrev GoesAfter : List Record → List Record → Type 0
  GoesAfter = GoesOn (carried_next_group s)

  pub same_next : (played one other : List Record) → next played one → next played other → one ≡ other
  same_next played one other comes also = let both = sym comes ∙ also in cc

  pub played_compared : (one other : List Record) → IsCarriedPlayed s one → IsCarriedPlayed s other → Compared (carried_next_group s) one other
  played_compared one other played also =
      logs_compared (carried_next_group s) (beginning_records true (beginning_in s)) one other played.begins also.begins played.going also.going
      played.each also.each

  -- a run that goes on isn't over
  pub not_over : (one other log : List Record) → IsCarriedPlayed s other → GoesAfter one other → IsCarriedOver s one log → ⊥
  not_over one other log also on (inl finished) = let both = sym finished.none ∙ on.comes in absurd (cc)
  not_over one other log also on (inr spent) =
      let same : spent.group ≡ on.group = same_next one spent.group on.group spent.next on.comes in
      let over : s.frames < sent_count (one ++ on.group) = subst (λ g. s.frames < sent_count (one ++ g)) same spent.over in
      let fewer = sent_no_fewer (one ++ on.group) on.later in
      let within : sent_count ((one ++ on.group) ++ on.later) ≤ s.frames = subst (λ l. sent_count l ≤ s.frames) on.is also.within in
      absurd (omega (arith, over, fewer, within))

  pub same_over : (played one other : List Record) → IsCarriedOver s played one → IsCarriedOver s played other → one ≡ other
  same_over played one other (inl finished) (inl also) = finished.log_is ∙ sym also.log_is
  same_over played one other (inl finished) (inr spent) = let both = sym finished.none ∙ spent.next in absurd (cc)
  same_over played one other (inr spent) (inl finished) = let both = sym finished.none ∙ spent.next in absurd (cc)
  same_over played one other (inr spent) (inr also) =
      let same : spent.group ≡ also.group = same_next played spent.group also.group spent.next also.next in
      spent.log_is ∙ ap (λ g. played ++ (take 1 g ++ Spent s.frames ∷ [])) same ∙ sym also.log_is

  -- each log begins with what was played before its ending
  pub ending_after : (played log : List Record) → Ending played log → (rest : List Record) × (log ≡ played ++ rest)
  ending_after played log (inl is) = ([], is ∙ sym (append-nil played))
  ending_after played log (inr (inl (inl finished))) = (Finished (length s.steps) ∷ [], finished.log_is)
  ending_after played log (inr (inl (inr spent))) = (take 1 spent.group ++ Spent s.frames ∷ [], spent.log_is)
  ending_after played log (inr (inr cut)) = (take cut.kept cut.group, cut.log_is)

  -- a log that was cut begins the one that is over
  cut_over : (played one other : List Record) → IsCarriedCut s played one → IsCarriedOver s played other → BeginsWith one other
  cut_over played one other cut (inl finished) = let both = sym finished.none ∙ cut.next in absurd (cc)
  cut_over played one other cut (inr spent) =
      let same : cut.group ≡ spent.group = same_next played cut.group spent.group cut.next spent.next in
      let over : s.frames < sent_count (played ++ cut.group) = subst (λ g. s.frames < sent_count (played ++ g)) (sym same) spent.over in
      let front : take cut.kept cut.group ≡ take 1 spent.group = ap (λ k. take k cut.group) (cut.first over) ∙ ap (take 1) same in
      let first : one ≡ played ++ take 1 spent.group = cut.log_is ∙ ap (λ l. played ++ l) front in
      begins_with one (Spent s.frames ∷ []) other
      (spent.log_is ∙ sym (append_assoc played (take 1 spent.group) (Spent s.frames ∷ []))
      ∙ ap (λ l. l ++ Spent s.frames ∷ []) (sym first))

  -- two logs of one run
  same_run : (played one other : List Record) → Ending played one → Ending played other → BeginsWith one other ⊎ BeginsWith other one
  same_run played one other (inl is) also =
      let after = ending_after played other also in
      inl (begins_with one after.0 other (after.1 ∙ ap (λ l. l ++ after.0) (sym is)))
  same_run played one other (inr ended) (inl is) =
      let after = ending_after played one (inr ended) in
      inr (begins_with other after.0 one (after.1 ∙ ap (λ l. l ++ after.0) (sym is)))
  same_run played one other (inr (inl over)) (inr (inl also)) =
      inl (begins_with one [] other (sym (same_over played one other over also) ∙ sym (append-nil one)))
  same_run played one other (inr (inl over)) (inr (inr cut)) = inr (cut_over played other one cut over)
  same_run played one other (inr (inr cut)) (inr (inl over)) = inl (cut_over played one other cut over)
  same_run played one other (inr (inr cut)) (inr (inr also)) =
      let same : also.group ≡ cut.group = same_next played also.group cut.group also.next cut.next in
      fronts played cut.group one other cut.kept also.kept cut.log_is
      (also.log_is ∙ ap (λ g. played ++ take also.kept g) same)

  -- the log of a run that goes on in the other one begins it
  module _ (played also one other : List Record) (is_played : IsCarriedPlayed s also) (on : GoesAfter played also)
      (ending : Ending also other) where
    after : (rest : List Record) × (other ≡ played ++ (on.group ++ (on.later ++ rest)))
    after =
        let rest = ending_after also other ending in (
          rest.0,
          rest.1 ∙ ap (λ l. l ++ rest.0) on.is ∙ append_assoc (played ++ on.group) on.later rest.0
              ∙ append_assoc played on.group (on.later ++ rest.0),
        )

    goes_begins : Ending played one → BeginsWith one other
    goes_begins (inl is) =
        let rest = after in
        let more = on.group ++ (on.later ++ rest.0) in begins_with one more other (rest.1 ∙ ap (λ l. l ++ more) (sym is))
    goes_begins (inr (inl over)) = absurd (not_over played also one is_played on over)
    goes_begins (inr (inr cut)) =
        let rest = after in
        let same : cut.group ≡ on.group = same_next played cut.group on.group cut.next on.comes in
        let left = drop cut.kept on.group in
        let more = left ++ (on.later ++ rest.0) in
        let first : one ≡ played ++ take cut.kept on.group = cut.log_is ∙ ap (λ g. played ++ take cut.kept g) same in
        let parts : on.group ++ (on.later ++ rest.0) ≡ take cut.kept on.group ++ more =
        ap (λ l. l ++ (on.later ++ rest.0)) (sym (take-append-drop cut.kept on.group))
        ∙ append_assoc (take cut.kept on.group) left (on.later ++ rest.0) in
        begins_with one more other
        (rest.1 ∙ ap (λ l. played ++ l) parts ∙ sym (append_assoc played (take cut.kept on.group) more) ∙ ap (λ l. l ++ more) (sym first))

  pub one_begins : (one other : List Record) → IsCarriedLogOf s one → IsCarriedLogOf s other → BeginsWith one other ⊎ BeginsWith other one
  one_begins one other log also =
      elim (played_compared log.played also.played log.is_played also.is_played) [
        | inl same ↦ same_run also.played one other (subst (λ l. Ending l one) same log.ending) also.ending
        | inr (inl on) ↦ inl (goes_begins log.played also.played one other also.is_played on also.ending log.ending)
        | inr (inr on) ↦ inr (goes_begins also.played log.played other one log.is_played on log.ending also.ending)
      ]

  pub one_whole : (one other : List Record) → IsWholeCarriedLogOf s one → IsWholeCarriedLogOf s other → one ≡ other
  one_whole one other log also =
      elim (played_compared log.played also.played log.is_played also.is_played) [
        | inl same ↦ same_over also.played one other (subst (λ l. IsCarriedOver s l one) same log.over) also.over
        | inr (inl on) ↦ absurd (not_over log.played also.played one also.is_played on log.over)
        | inr (inr on) ↦ absurd (not_over also.played log.played other log.is_played on also.over)
      ]

  -- ---- a log that was cut

  module _ (played log : List Record) (is_played : IsCarriedPlayed s played) (cut : IsCarriedCut s played log) where
    cut_size : length log ≡ length played + cut.kept
    cut_size =
        ap length cut.log_is ∙ length-append played (take cut.kept cut.group)
        ∙ ap (λ n. length played + n) (length-take-le cut.kept cut.group (let few = cut.few in omega (arith, few)))

    -- it stops before a run that goes on does
    stops_before : (other : List Record) → GoesAfter played other → length log < length other
    stops_before other on =
        let same : cut.group ≡ on.group = same_next played cut.group on.group cut.next on.comes in
        let few = cut.few in
        let group = ap length same in
        let size = cut_size in
        let first = length-append (played ++ on.group) on.later in
        let whole = ap length on.is in
        let both = length-append played on.group in
        omega (arith, few, group, size, whole, first, both)

    not_played : IsCarriedPlayed s log → ⊥
    not_played other =
        let size = cut_size in
        let some = cut.some in
        elim (played_compared played log is_played other) [
          | inl same ↦ let none = ap length same in absurd (omega (arith, size, some, none))
          | inr (inl on) ↦ let less = stops_before log on in absurd (omega (arith, less))
          | inr (inr on) ↦
              let whole = ap length on.is in
              let first = length-append (log ++ on.group) on.later in
              let both = length-append log on.group in
              absurd (omega (arith, size, some, whole, first, both))
        ]

    -- if it were over
    over_here : IsCarriedOver s played log → ⊥
    over_here (inl finished) = let both = sym finished.none ∙ cut.next in absurd (cc)
    over_here (inr spent) =
        let same : spent.group ≡ cut.group = same_next played spent.group cut.group spent.next cut.next in
        let over : s.frames < sent_count (played ++ cut.group) = subst (λ g. s.frames < sent_count (played ++ g)) same spent.over in
        let one = cut.first over in
        let size = cut_size in
        let few = cut.few in
        let group = ap length same in
        let front = length-take-le 1 spent.group (let e : 1 ≤ length spent.group = omega (arith, few, group, one) in e) in
        let whole = ap length spent.log_is in
        let end = length-append played (take 1 spent.group ++ Spent s.frames ∷ []) in
        let last = length-append (take 1 spent.group) (Spent s.frames ∷ []) in
        absurd (omega (arith, size, one, front, whole, end, last))

    not_whole : IsWholeCarriedLogOf s log → ⊥
    not_whole other =
        elim (played_compared played other.played is_played other.is_played) [
          | inl same ↦ over_here (subst (λ l. IsCarriedOver s l log) (sym same) other.over)
          | inr (inl on) ↦
              let less = stops_before other.played on in
              let rest = ending_after other.played log (inr (inl other.over)) in
              let whole = ap length rest.1 in
              let size = length-append other.played rest.0 in
              absurd (omega (arith, less, whole, size))
          | inr (inr on) ↦ absurd (not_over other.played played log is_played on other.over)
        ]

    uncut : IsCarriedPlayed s log ⊎ IsWholeCarriedLogOf s log → ⊥
    uncut (inl other) = not_played other
    uncut (inr other) = not_whole other

pub one_carried_log_holds : OneCarriedLog
one_carried_log_holds = record { first = one_begins; whole = one_whole; uncut = uncut }
