-- That the verdict after a turn is right.
use Rattle.std.proofs.Common.{◌≡◌, ◌≢◌, inl, inr, ℕ, ◌+◌, ◌<◌, ◌≤◌, Bool, true, false, List, [], ◌∷◌, ◌++◌, length, take, Option, None, Some, refl, ap, sym, subst, ◌∙◌, arith, length-append}
use Rattle.std.specs.Prelude.{◌==◌, ◌&&◌}
use Rattle.std.proofs.lemmas.List.{take_all}
use Rattle.std.proofs.lemmas.Bool.{cases_Bool, cases_lt, eqb-true, eq-eqb}
use Rattle.tap_scenario.specs.Scenario.{IsScript}
use Rattle.tap_log.specs.declared.record.Record.{Record}
use Rattle.tap_log.specs.declared.record.Record.TheVariants.{Finished}
use Rattle.tap_log.specs.Counts.{sent_count}
use Rattle.tap_lawful.specs.PlayedLaws.{BeginsWith}
use Rattle.tap_lawful.specs.Runs.{IsLawful, IsRunLog, IsRunSoFar, next_records}
use Rattle.tap_lawful.proofs.Runs.{runs_by_carrier}
use Rattle.tap_lawful.proofs.SameGroups.{begins_with}
use Rattle.tap_replay.specs.declared.end.End.TheVariants.{Done, NoMemory as EndNoMemory, Spent}
use Rattle.tap_replay.specs.declared.end.Turned.{Turned}
use Rattle.tap_replay.specs.declared.end.Turned.TheVariants.{More, Over}
use Rattle.tap_own_scripts.specs.Judging.{ComesOrSpends, IsUnlawful, StandsBetween}
use Rattle.tap_own_scripts.specs.Own.{own_script}
use Rattle.tap_own_scripts.proofs.Fronts.{begins_self, same_front, size_of}
use Rattle.tap_own_scripts.proofs.Judging.{judges_hold}
use Rattle.tap_judge.specs.Comparing.{SameUntil, verdict_at, verdict_at_end, verdict_by}
use Rattle.tap_judge.specs.Verdict.{IsVerdictOn}
use Rattle.tap_judge.specs.declared.verdict.Verdict.{Verdict}
use Rattle.tap_judge.proofs.Leaving.{Leaves, left_log, left_whole, run_so_far}
use Rattle.tap_judge.proofs.Leaving.Leaves.{adds, adds_last, finishes, spends}

-- the log goes on after the run's, which goes on too
pub record GoesOn (log run : List Record) (given : Turned) : Type 0 where
  pub more : given ≡ More
  pub begins : BeginsWith run log
  pub longer : length run < length log

-- what no verdict says, and what one says
abbrev pub Says : List Record → List Record → Turned → Option Verdict → Type 0
Says log run given None = GoesOn log run given
Says log run given (Some verdict) = IsVerdictOn log verdict

pub less : (m n : ℕ) → m ≤ n → (m ≡ n → ⊥) → m < n
less m n le apart = elim (cases_lt m n) [ inl lt ↦ lt | inr ge ↦ absurd (apart (omega (arith, le, ge))) ]

not_eq : (m n : ℕ) → (m == n) ≡ false → m ≡ n → ⊥
not_eq m n is same = let wrong : true ≡ false = sym (eq-eqb m n same) ∙ is in cc

neq : (m n : ℕ) → (m ≡ n → ⊥) → (m == n) ≡ false
neq m n apart = elim (cases_Bool (m == n)) [ inl is ↦ absurd (apart (eqb-true m n is)) | inr other ↦ other ]

not_both : (a b : Bool) → ((a ≡ true) × (b ≡ true) → ⊥) → (a && b) ≡ false
not_both true true never = absurd (never (refl, refl))
not_both true false never = refl
not_both false b never = refl

-- Each turn that a log is judged by: the records before it are those of a run of the log's own scenario, and begin the log, which has more.
module _ (log : List Record) (valid : IsScript (own_script log)) (before run : List Record) (given : Turned)
    (played : IsRunSoFar (own_script log) before) (begins : BeginsWith before log) (more : length before < length log)
    (leaves : Leaves (own_script log).carrier (own_script log) before given run) where
  run_log : IsRunLog (own_script log) run
  run_log = left_log (own_script log) valid before run given played leaves

  -- the records of the run with the group that comes next
  played_more : (group : List Record) → next_records (own_script log) before ≡ Some group
      → sent_count (before ++ group) ≤ (own_script log).frames → IsRunSoFar (own_script log) (before ++ group)
  played_more group next within = runs_by_carrier.more (own_script log) before group valid played next within

  -- ---- the log begins the run's

  module _ (front : BeginsWith log run) where
    -- it is the run's
    at_all : length run ≡ length log → IsLawful log
    at_all size =
        let same : run ≡ log = sym (take_all (length log) run (omega (arith, size))) ∙ front in
        judges_hold.lawful log valid (subst (IsRunLog (own_script log)) same run_log)

    -- it stops within these records, which come next
    between : (after : List Record) → BeginsWith after run → length log < length after → StandsBetween before after log
    between after ends shorter = record {
      begins = begins;
      longer = more;
      goes_on = sym (same_front (length log) after run ends (omega (arith, shorter))) ∙ front;
      shorter = shorter;
    }

    -- or it is at the end of a group, or has all of the run
    data Stands : Type 0 where
      whole : length run ≡ length log → Stands
      stopped : (after : List Record) → ComesOrSpends (own_script log) before after → StandsBetween before after log → length log < length run
          → (given ≡ Over Done → length log + 1 < length run) → Stands
      unended : given ≡ Over Done → length run ≡ length log + 1 → IsRunSoFar (own_script log) log → Stands

    stands_by : Leaves (own_script log).carrier (own_script log) before given run → length log < length run → Stands
    stands_by (finishes finished done is) shorter =
        let size = ap length is ∙ length-append before (Finished (length (own_script log).steps) ∷ []) in
        absurd (omega (arith, size, shorter, more))
    stands_by (spends spent ends) shorter =
        stopped run (inr spent) (between run (begins_self run) shorter) shorter (λ done. let both = sym ends ∙ done in absurd (cc))
    stands_by (adds group next within goes is) shorter =
        stopped run (inl (record { group = group; comes = next; within = within; is = is })) (between run (begins_self run) shorter) shorter
        (λ done. let both = sym goes ∙ done in absurd (cc))
    stands_by (adds_last group next within finished done is) shorter =
        let middle = before ++ group in
        let size = ap length is ∙ length-append middle (Finished (length (own_script log).steps) ∷ []) in
        let ends : BeginsWith middle run = begins_with middle (Finished (length (own_script log).steps) ∷ []) run is in
        elim (cases_lt (length log) (length middle)) [
          | inl inside ↦
              stopped middle (inl (record { group = group; comes = next; within = within; is = refl })) (between middle ends inside) shorter
              (λ _. omega (arith, size, inside))
          | inr past ↦
              let even : length log ≡ length middle = omega (arith, past, size, shorter) in
              let same : middle ≡ log = sym ends ∙ ap (λ n. take n run) (sym even) ∙ front in
              unended done (omega (arith, size, even)) (subst (IsRunSoFar (own_script log)) same (played_more group next within))
        ]

    stands : Stands
    stands =
        let size = size_of log run front in
        elim (cases_lt (length log) (length run)) [
          | inl shorter ↦ stands_by leaves shorter
          | inr past ↦ whole (omega (arith, size, past))
        ]

    -- a carried log is lawful wherever it stops
    carried_lawful : (own_script log).carrier ≡ true → Stands → IsLawful log
    carried_lawful carried (whole even) = at_all even
    carried_lawful carried (stopped after comes stands shorter longer) = judges_hold.cut before after log valid carried played comes stands
    carried_lawful carried (unended done size so_far) = judges_hold.lawful log valid (run_so_far (own_script log) log so_far)

    -- another one where a group ends, also if the end of the run is left out
    plain_end : (done : Bool) → (done ≡ true → given ≡ Over Done) → (given ≡ Over Done → done ≡ true) → (own_script log).carrier ≡ false → Stands
        → IsVerdictOn log (verdict_at_end false done (length run) (length log))
    plain_end done told tells plain (whole even) =
        let is : (length run == length log) ≡ true = eq-eqb (length run) (length log) even in
        rw is (at_all even)
    plain_end done told tells plain (stopped after comes stands shorter longer) =
        let uneven : (length run == length log) ≡ false = neq (length run) (length log) (λ e. omega (arith, e, shorter)) in
        let never : (done && (length run == length log + 1)) ≡ false = not_both done (length run == length log + 1) (λ both.
        let past = longer (told both.0) in
        let even = eqb-true (length run) (length log + 1) both.1 in
        omega (arith, past, even)) in
        rw (uneven, never) (judges_hold.within before after log valid plain played comes stands)
    plain_end done told tells plain (unended is size so_far) =
        let uneven : (length run == length log) ≡ false = neq (length run) (length log) (λ e. omega (arith, e, size)) in
        let last : (length run == length log + 1) ≡ true = eq-eqb (length run) (length log + 1) size in
        rw (uneven, tells is, last) (judges_hold.lawful log valid (run_so_far (own_script log) log so_far))

    at_end : (done : Bool) → (done ≡ true → given ≡ Over Done) → (given ≡ Over Done → done ≡ true)
        → IsVerdictOn log (verdict_at_end (own_script log).carrier done (length run) (length log))
    at_end done told tells =
        elim (cases_Bool (own_script log).carrier) [
          | inl carried ↦ rw carried (carried_lawful carried stands)
          | inr plain ↦ rw plain (plain_end done told tells plain stands)
        ]

  -- ---- they differ, or the run is at its end

  module _ (same : ℕ) (until : SameUntil run log same) where
    all_begins : same ≡ length log → BeginsWith log run
    all_begins is =
        ap (λ n. take n run) (sym is) ∙ sym until.alike ∙ take_all same log (let from : length log ≤ same = omega (arith, is) in from)

    run_begins : same ≡ length run → BeginsWith run log
    run_begins is =
        ap (λ n. take n log) (sym is) ∙ until.alike ∙ take_all same run (let from : length run ≤ same = omega (arith, is) in from)

    run_shorter : same ≡ length run → (same ≡ length log → ⊥) → length run < length log
    run_shorter is other = subst (λ n. n < length log) is (less same (length log) until.there other)

    at_run : same ≡ length run → (same ≡ length log → ⊥) → given ≢ More → IsUnlawful log (same + 1)
    at_run is other over =
        subst (λ n. IsUnlawful log (n + 1)) (sym is)
        (judges_hold.goes_past run log valid (left_whole (own_script log) valid before run given played leaves over) (run_begins is)
        (run_shorter is other))

    at_apart : (same ≡ length log → ⊥) → (same ≡ length run → ⊥) → IsUnlawful log (same + 1)
    at_apart all run_end =
        let here : same < length run = less same (length run) until.here run_end in
        let there : same < length log = less same (length log) until.there all in
        judges_hold.differ run log same valid run_log
        (record { here = here; there = there; alike = until.alike; apart = until.apart here there })

    -- ---- by the tests

    says_at : (over done : Bool) → (over ≡ true → given ≢ More) → (over ≡ false → given ≡ More) → (done ≡ true → given ≡ Over Done)
        → (given ≡ Over Done → done ≡ true) → Says log run given (verdict_at (own_script log).carrier over done (length run) (length log) same)
    says_at over done ends goes told tells =
        elim (cases_Bool (same == length log)) [
          | inl all ↦ rw all (at_end (all_begins (eqb-true same (length log) all)) done told tells)
          | inr short ↦
              let short_is = not_eq same (length log) short in
              elim (cases_Bool (same == length run)) [
                | inl end ↦
                    let end_is : same ≡ length run = eqb-true same (length run) end in
                    elim (cases_Bool over) [
                      | inl is ↦ rw (short, end, is) (at_run end_is short_is (ends is))
                      | inr is ↦
                          rw (short, end, is) (record { more = goes is; begins = run_begins end_is; longer = run_shorter end_is short_is })
                    ]
                | inr apart ↦ rw (short, apart) (at_apart short_is (not_eq same (length run) apart))
              ]
        ]

-- the verdict after a turn is right
module _ (log : List Record) (valid : IsScript (own_script log)) (before run : List Record) (played : IsRunSoFar (own_script log) before)
    (begins : BeginsWith before log) (more : length before < length log) (same : ℕ) (until : SameUntil run log same) where
  pub says : (given : Turned) → (given ≢ Over EndNoMemory → Leaves (own_script log).carrier (own_script log) before given run)
      → Says log run given (verdict_by (own_script log).carrier given (length run) (length log) same)
  says More leaves =
      says_at log valid before run More played begins more (leaves (λ is. cc)) same until false false (λ is. absurd (cc)) (λ is. refl)
      (λ is. absurd (cc)) (λ is. absurd (cc))
  says (Over Done) leaves =
      says_at log valid before run (Over Done) played begins more (leaves (λ is. cc)) same until true true (λ is more. cc) (λ is. absurd (cc))
      (λ is. refl) (λ is. refl)
  says (Over Spent) leaves =
      says_at log valid before run (Over Spent) played begins more (leaves (λ is. cc)) same until true false (λ is more. cc) (λ is. absurd (cc))
      (λ is. absurd (cc)) (λ is. absurd (cc))
  says (Over EndNoMemory) leaves = tt
