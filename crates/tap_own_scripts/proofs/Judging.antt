-- What each answer of a judge rests on.
-- Cited above: judges_hold
use Rattle.std.proofs.Common.{◌≡◌, ◌⊎◌, inl, inr, ℕ, ◌+◌, ◌-◌, ◌<◌, ◌≤◌, true, false, List, [], ◌∷◌, ◌++◌, length, take, drop, Some, refl, ap, sym, subst, ◌∙◌, arith, append_assoc, length-append}
use Rattle.std.proofs.Math.Seq.{take-append_seam}
use Rattle.std.proofs.lemmas.Bool.{cases_lt, false≢true}
use Rattle.std.proofs.lemmas.List.{append_cancel_left, length-take-le, take_all}
use Rattle.tap_scenario.specs.Scenario.{IsScript, ScenarioValue}
use Rattle.tap_log.specs.declared.record.Record.{Record}
use Rattle.tap_log.specs.declared.record.Record.TheVariants.{Step as StepRecord, Arrived, Spent, Ticked}
use Rattle.tap_log.specs.Counts.{sent_count}
use Rattle.tap_log.specs.Kinds.{sent_number}
use Rattle.tap_history.specs.Refusals.{first_refusal}
use Rattle.tap_lawful.specs.CarriedRuns.{CarriedComesNext, IsCarriedCut, IsCarriedPlayed, IsCarriedSpent}
use Rattle.tap_lawful.specs.Next.{begun_count}
use Rattle.tap_lawful.specs.PlayedLaws.{BeginsWith}
use Rattle.tap_lawful.specs.Runs.{IsFinishedBy, IsLawful, IsPlayedBy, IsRunLog, IsRunSoFar, IsSpentBy, IsStoppedBy, IsWholeRunLog, comes_next}
use Rattle.tap_lawful.proofs.CarriedComing.{begun_head, carried_coming}
use Rattle.tap_lawful.proofs.Played.{sent_count-append}
use Rattle.tap_lawful.proofs.Runs.{runs_by_carrier, spent_log, stopped_log, whole_log}
use Rattle.tap_own_scripts.specs.Judging.{ComesOrSpends, DifferAt, IsUnlawful, Judges, StandsBetween}
use Rattle.tap_own_scripts.specs.Own.{own_script}
use Rattle.tap_own_scripts.specs.OwnLaws.{BeginsLawful}
use Rattle.tap_own_scripts.specs.Stops.{GroupComes}
use Rattle.tap_own_scripts.proofs.Fronts.{begins_front, begins_self, begins_through, front_of, same_front, size_of, taken_front}
use Rattle.tap_own_scripts.proofs.Logs.{so_far, stopped_by}
use Rattle.tap_own_scripts.proofs.OwnScripts.{own_scripts_hold}
use Rattle.tap_own_scripts.proofs.Stops.{logs_stop, not_over, same_next, same_over}

-- ---- what begins a lawful log

lawful_shorter : (one two : List Record) → BeginsWith one two → BeginsLawful two → BeginsLawful one
lawful_shorter one two begins lawful =
    record { log = lawful.log; lawful = lawful.lawful; begins = begins_through one two lawful.log begins lawful.begins }

lawful_self : (log : List Record) → IsLawful log → BeginsLawful log
lawful_self log lawful = record { log = log; lawful = lawful; begins = begins_self log }

-- ---- a log is refused at one record

-- so many begin a lawful log, and fewer don't
apart : (log : List Record) (k other : ℕ) → IsUnlawful log k → IsUnlawful log other → k < other → ⊥
apart log k other unlawful also less =
    elim unlawful.first [
      | inl none ↦ none (lawful_shorter (take k log) (take (other - 1) log) (taken_front k (other - 1) log (omega (arith, less))) also.before)
      | inr is ↦ elim also.first [
        | inl none ↦
            let past : take other log ≡ take (other - 1) log =
            take_all other log (omega (arith, is, less)) ∙ sym (take_all (other - 1) log (omega (arith, is, less))) in
            none (subst BeginsLawful (sym past) also.before)
        | inr same ↦ absurd (omega (arith, is, same, less))
      ]
    ]

one : (log : List Record) (k other : ℕ) → IsUnlawful log k → IsUnlawful log other → k ≡ other
one log k other unlawful also =
    elim (cases_lt k other) [
      | inl less ↦ absurd (apart log k other unlawful also less)
      | inr from ↦ elim (cases_lt other k) [
        | inl less ↦ absurd (apart log other k also unlawful less)
        | inr to ↦ omega (arith, from, to)
      ]
    ]

-- ---- beside a run of its own scenario

module _ (log : List Record) (valid : IsScript (own_script log)) where
  run_lawful : (run : List Record) → IsRunLog (own_script log) run → IsLawful run
  run_lawful run is = record { script = own_script log; valid = valid; run = is }

  -- if so many records begin no lawful log, and those before do, the log is refused there
  refused_at : (k : ℕ) → BeginsLawful (take k log) → (BeginsLawful (take (k + 1) log) → ⊥) → IsUnlawful log (k + 1)
  refused_at k before none = record {
    refused = λ lawful. none (lawful_shorter (take (k + 1) log) log (begins_front (k + 1) log) (lawful_self log lawful));
    from = omega arith;
    before = subst (λ n. BeginsLawful (take n log)) (let e : k ≡ k + 1 - 1 = omega arith in e) before;
    first = inl none;
  }

  differ : (run : List Record) (same : ℕ) → IsRunLog (own_script log) run → DifferAt run log same → IsUnlawful log (same + 1)
  differ run same is at =
      refused_at same
      (subst BeginsLawful (sym at.alike) (lawful_shorter (take same run) run (begins_front same run) (lawful_self run (run_lawful run is))))
      (λ lawful.
      let first = take (same + 1) log in
      let size : length first ≡ same + 1 = length-take-le (same + 1) log (let t = at.there in omega (arith, t)) in
      let carried = own_scripts_hold.carries first log (begins_front (same + 1) log) lawful in
      let there : take (same + 1) carried.log ≡ first = ap (λ n. take n carried.log) (sym size) ∙ carried.begins in
      let long = size_of first carried.log carried.begins in
      let here = at.here in
      elim (runs_by_carrier.first (own_script log) run carried.log is carried.run) [
        | inl begins ↦ at.apart (sym there ∙ same_front (same + 1) run carried.log begins (omega (arith, here)))
        | inr begins ↦ at.apart (sym there ∙ sym (same_front (same + 1) carried.log run begins (omega (arith, long, size))))
      ])

  goes_past : (run : List Record) → IsWholeRunLog (own_script log) run → BeginsWith run log → length run < length log
      → IsUnlawful log (length run + 1)
  goes_past run whole begins longer =
      let of : IsRunLog (own_script log) run = whole_log (own_script log).carrier (own_script log) run whole in
      refused_at (length run)
      (subst BeginsLawful (sym begins) (lawful_self run (run_lawful run of)))
      (λ lawful.
      let first = take (length run + 1) log in
      let size : length first ≡ length run + 1 = length-take-le (length run + 1) log (omega (arith, longer)) in
      let carried = own_scripts_hold.carries first log (begins_front (length run + 1) log) lawful in
      let fronts : BeginsWith run first =
      subst (λ l. BeginsWith l first) begins (taken_front (length run) (length run + 1) log (omega arith)) in
      let it : carried.log ≡ run =
      logs_stop.ended (own_script log) run carried.log whole carried.run (begins_through run first carried.log fronts carried.begins) in
      let long = size_of first carried.log carried.begins in
      let sizes = ap length it in
      absurd (omega (arith, long, size, sizes)))

-- ---- within what comes next

-- what comes next in a run makes a log of it
comes_log : (s : ScenarioValue) (before after : List Record) → IsScript s → IsRunSoFar s before → ComesOrSpends s before after → IsRunLog s after
comes_log s before after valid played (inl comes) =
    subst (IsRunLog s) (sym comes.is)
    (so_far s (before ++ comes.group) (runs_by_carrier.more s before comes.group valid played comes.comes comes.within))
comes_log s before after valid played (inr spent) =
    whole_log s.carrier s after (spent_log s.carrier s before after played spent)

-- a log of a run that isn't carried doesn't stop there
module _ (s : ScenarioValue) (before after log : List Record) (uncarried : s.carrier ≡ false) (played : IsRunSoFar s before)
    (between : StandsBetween before after log) where
  not_within : ComesOrSpends s before after → IsRunLog s log → ⊥
  not_within comes run =
      elim (logs_stop.stops s before log played run between.begins) [
        | inl stopped ↦ elim (stopped_by s.carrier s before log stopped) [
          | inl same ↦ let sizes = ap length same in let longer = between.longer in absurd (omega (arith, sizes, longer))
          | inr so ↦ false≢true (sym uncarried ∙ so.carried)
        ]
        | inr (inl past) ↦ past_end past.after past.comes past.begins comes
        | inr (inr over) ↦ over_end over comes
      ]
    where
      past_end : (other : List Record) → GroupComes s before other → BeginsWith other log → ComesOrSpends s before after → ⊥
      past_end other past begins (inl comes) =
          let group = same_next s.carrier s before past.group comes.group past.comes comes.comes in
          let same : other ≡ after = past.is ∙ ap (λ g. before ++ g) group ∙ sym comes.is in
          let sizes = ap length same in
          let size = size_of other log begins in
          let shorter = between.shorter in absurd (omega (arith, sizes, size, shorter))
      past_end other past begins (inr spent) = not_over s.carrier s before after past.group past.comes past.within (inr spent)

      over_end : IsFinishedBy s.carrier s before log ⊎ IsSpentBy s.carrier s before log → ComesOrSpends s before after → ⊥
      over_end over (inl comes) = not_over s.carrier s before log comes.group comes.comes comes.within over
      over_end over (inr spent) =
          let sizes = ap length (same_over s.carrier s before log after over (inr spent)) in
          let shorter = between.shorter in absurd (omega (arith, sizes, shorter))

within : (before after log : List Record) → IsScript (own_script log) → (own_script log).carrier ≡ false → IsRunSoFar (own_script log) before
    → ComesOrSpends (own_script log) before after → StandsBetween before after log → IsUnlawful log (length log + 1)
within before after log valid uncarried played comes between =
    let o = own_script log in
    let run = comes_log o before after valid played comes in
    record {
      refused = λ lawful. not_within o before after log uncarried played between comes (own_scripts_hold.own log lawful);
      from = omega arith;
      before = subst BeginsLawful (sym (take_all (length log + 1 - 1) log (omega arith)))
          (lawful_shorter log after between.goes_on (lawful_self after (run_lawful log valid after run)));
      first = inr refl;
    }

-- ---- a carried log may stop there

-- the first record of a group sends nothing
first_quiet : (s : ScenarioValue) (log : List Record) (first : Record) → CarriedComesNext s log (first ∷ []) → sent_count (first ∷ []) ≡ 0
unfolding sent_number
first_quiet s log first comes =
    elim (carried_coming s log (first ∷ []) comes) [
      | inl arrives ↦ quiet (Arrived arrives.line.number) _ arrives.is refl
      | inr (inl ticks) ↦ quiet Ticked _ ticks.is refl
      | inr (inr begun) ↦
          let index = begun_count log + 1 in
          let head = begun_head s.settings log index begun.step (first_refusal log begun.step) in
          quiet (StepRecord index begun.step) head.0 (head.1 ∙ begun.is) refl
    ]
  where
    quiet : (head : Record) (items : List Record) → head ∷ items ≡ first ∷ [] → sent_count (head ∷ []) ≡ 0 → sent_count (first ∷ []) ≡ 0
    quiet head items is none = let same : head ≡ first = cc in subst (λ item. sent_count (item ∷ []) ≡ 0) same none

-- so a group that sends too many frames has more records
over_long : (s : ScenarioValue) (before group : List Record) → IsCarriedPlayed s before → CarriedComesNext s before group
    → s.frames < sent_count (before ++ group) → 2 ≤ length group
over_long s before [] played comes over =
    let all = sent_count-append before [] in
    let within = played.within in absurd (omega (arith, all, within, over))
over_long s before (first ∷ []) played comes over =
    let all = sent_count-append before (first ∷ []) in
    let none = first_quiet s before first comes in
    let within = played.within in absurd (omega (arith, all, none, within, over))
over_long s before (first ∷ next ∷ group) played comes over = omega arith

module _ (s : ScenarioValue) (before after log : List Record) (played : IsCarriedPlayed s before) (between : StandsBetween before after log) where
  abbrev rest : List Record
  rest = drop (length before) log

  rest_is : log ≡ before ++ rest
  rest_is = front_of before log between.begins

  some_rest : 1 ≤ length rest
  some_rest =
      let size = ap length rest_is ∙ length-append before rest in
      let longer = between.longer in omega (arith, size, longer)

  -- the records that stand are the first ones of what would follow
  front_rest : (items : List Record) → after ≡ before ++ items → (rest ≡ take (length rest) items) × (length rest < length items)
  front_rest items is =
      let later = drop (length log) after in
      let whole : before ++ items ≡ before ++ (rest ++ later) =
      sym is ∙ front_of log after between.goes_on ∙ ap (λ l. l ++ later) rest_is ∙ append_assoc before rest later in
      let same : items ≡ rest ++ later = append_cancel_left before items (rest ++ later) whole in
      let size = ap length is ∙ length-append before items in
      let also = ap length rest_is ∙ length-append before rest in
      let shorter = between.shorter in (
        sym (ap (take (length rest)) same ∙ take-append_seam rest later),
        omega (arith, size, also, shorter),
      )

  cut_group : (group : List Record) → CarriedComesNext s before group → sent_count (before ++ group) ≤ s.frames → after ≡ before ++ group
      → IsCarriedCut s before log
  cut_group group comes within is =
      let front = front_rest group is in
      record {
        group = group;
        next = comes;
        kept = length rest;
        some = some_rest;
        few = front.1;
        first = λ over. absurd (omega (arith, over, within));
        log_is = rest_is ∙ ap (λ l. before ++ l) front.0;
      }

  cut_spent : IsCarriedSpent s before after → IsCarriedCut s before log
  cut_spent spent =
      let group = spent.group in
      let long = over_long s before group played spent.next spent.over in
      let first = length-take-le 1 group (let e : 1 ≤ length group = omega (arith, long) in e) in
      let front = front_rest (take 1 group ++ Spent s.frames ∷ []) spent.log_is in
      let size = length-append (take 1 group) (Spent s.frames ∷ []) in
      let short = front.1 in
      let some = some_rest in
      let one : length rest ≡ 1 = omega (arith, first, size, short, some) in
      let same : rest ≡ take 1 group =
      front.0 ∙ ap (λ n. take n (take 1 group ++ Spent s.frames ∷ [])) (one ∙ sym first)
      ∙ take-append_seam (take 1 group) (Spent s.frames ∷ []) in
      record {
        group = group;
        next = spent.next;
        kept = 1;
        some = omega arith;
        few = omega (arith, long);
        first = λ over. refl;
        log_is = rest_is ∙ ap (λ l. before ++ l) same;
      }

-- by the carrier
cut_by : (s : ScenarioValue) (before after log : List Record) → s.carrier ≡ true → IsRunSoFar s before → ComesOrSpends s before after
    → StandsBetween before after log → IsRunLog s log
cut_by s before after log carried played comes between =
    let is_played : IsPlayedBy true s before = subst (λ c. IsPlayedBy c s before) carried played in
    let stopped : IsCarriedCut s before log =
    elim comes [
      | inl group ↦
          cut_group s before after log is_played between group.group (subst (λ c. comes_next c s before ≡ Some group.group) carried group.comes)
          group.within group.is
      | inr spent ↦ cut_spent s before after log is_played between (subst (λ c. IsSpentBy c s before after) carried spent)
    ] in
    let so : IsStoppedBy true s before log = inr stopped in
    stopped_log s.carrier s before log played (subst (λ c. IsStoppedBy c s before log) (sym carried) so)

pub judges_hold : Judges
judges_hold = record {
  one = one;
  lawful = λ log valid is. run_lawful log valid log is;
  differ = λ run log same valid is at. differ log valid run same is at;
  goes_past = λ run log valid whole begins longer. goes_past log valid run whole begins longer;
  within = within;
  cut = λ before after log valid carried played comes between.
      run_lawful log valid log (cut_by (own_script log) before after log carried played comes between);
}
