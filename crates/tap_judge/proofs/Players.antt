-- The turns of a player by which a log is judged.
use Rattle.std.proofs.Common.{ℕ, ◌≡◌, ◌≢◌, ◌<◌, Bool, true, false, List, length, take, Option, None, Some, ap, sym, subst, ◌∙◌, arith}
use Rattle.std.specs.Prelude.{IfSome, MatchOption}
use Rattle.std.proofs.lemmas.List.{take_all}
use Rattle.tap_scenario.specs.Scenario.{IsScript, ScenarioValue}
use Rattle.tap_log.specs.declared.record.Record.{Record}
use Rattle.tap_engine.specs.World.{WorldValue, whole_log}
use Rattle.tap_carried.specs.LogTurns.{beginning_records}
use Rattle.tap_lawful.specs.Next.{beginning_in}
use Rattle.tap_lawful.specs.PlayedLaws.{BeginsWith}
use Rattle.tap_lawful.specs.Runs.{IsLawful, IsPlayedBy, IsRunSoFar}
use Rattle.tap_replay.specs.declared.end.End.TheVariants.{NoMemory as EndNoMemory}
use Rattle.tap_replay.specs.declared.end.Turned.{Turned}
use Rattle.tap_replay.specs.declared.end.Turned.TheVariants.{More, Over}
use Rattle.tap_replay.specs.Player.{PlayerValue}
use Rattle.tap_replay.specs.Runs.{GoesOnBy, HasPlayed, IsLeftBy, TakesTurn, TurnsBy}
use Rattle.tap_own_scripts.specs.Own.{own_script}
use Rattle.tap_own_scripts.proofs.Fronts.{size_of}
use Rattle.tap_shape.specs.Shape.{IsShape}
use Rattle.tap_judge.specs.Comparing.{SameUntil, verdict_by}
use Rattle.tap_judge.specs.Verdict.{IsVerdictOn}
use Rattle.tap_judge.specs.declared.verdict.Verdict.{Verdict}
use Rattle.tap_judge.proofs.Leaving.{Leaves, leaves, run_so_far}
use Rattle.tap_judge.proofs.Scripts.{own_begins}
use Rattle.tap_judge.proofs.Verdicts.{Says, less, says}

-- the log of a player whose run isn't over
so_far_by : (c : Bool) (s : ScenarioValue) (w : WorldValue) → GoesOnBy c s w → IsPlayedBy c s (whole_log w)
so_far_by true s w on = on.played
so_far_by false s w on = on.played

pub so_far : (s : ScenarioValue) (p : PlayerValue) → HasPlayed s p → p.over ≡ None → IsRunSoFar s (whole_log p.world)
so_far s p played none =
    so_far_by s.carrier s p.world
    (subst (λ over. MatchOption over (GoesOnBy s.carrier s p.world) (λ end. IsLeftBy s.carrier s end p.world)) none played)

-- its turn, which leaves something unless memory was refused
turned_so : (s : ScenarioValue) (p after : PlayerValue) (given : Turned) → TakesTurn s p given after → p.over ≡ None
    → TurnsBy s.carrier s (whole_log p.world) given (whole_log after.world)
turned_so s p after given turns none =
    subst (λ over. MatchOption over (TurnsBy s.carrier s (whole_log p.world) given (whole_log after.world))
    (λ end. (given ≡ Over end) × (after ≡ p))) none turns

left_so : (s : ScenarioValue) (p after : PlayerValue) (given : Turned) → TakesTurn s p given after → p.over ≡ None → given ≢ Over EndNoMemory
    → Leaves s.carrier s (whole_log p.world) given (whole_log after.world)
left_so s p after given turns none enough =
    leaves s (whole_log p.world) given (whole_log after.world) s.carrier (turned_so s p after given turns none) enough

-- the verdict after it
pub turn_says : (s : ScenarioValue) (log : List Record) → s ≡ own_script log → IsScript s → (p after : PlayerValue) (given : Turned)
    → HasPlayed s p → p.over ≡ None → TakesTurn s p given after → BeginsWith (whole_log p.world) log → length (whole_log p.world) < length log
    → (same : ℕ) → SameUntil (whole_log after.world) log same
    → Says log (whole_log after.world) given (verdict_by s.carrier given (length (whole_log after.world)) (length log) same)
turn_says s log own valid p after given played none turns begins more same until =
    let before = whole_log p.world in
    let run = whole_log after.world in
    subst (λ (x : ScenarioValue). Says log run given (verdict_by x.carrier given (length run) (length log) same)) (sym own)
    (says log (subst IsScript own valid) before run (subst (λ x. IsRunSoFar x before) own (so_far s p played none)) begins more same until given
    (λ enough. subst (λ (x : ScenarioValue). Leaves x.carrier x before given run) own (left_so s p after given turns none enough)))

-- what the player has begun with is lawful, if that is all
pub begun_lawful : (s : ScenarioValue) (log : List Record) → s ≡ own_script log → IsScript s → (p : PlayerValue) → HasPlayed s p → p.over ≡ None
    → BeginsWith (whole_log p.world) log → length (whole_log p.world) ≡ length log → IsLawful log
begun_lawful s log own valid p played none begins size =
    let same : whole_log p.world ≡ log = sym begins ∙ ap (λ n. take n log) size ∙ take_all (length log) log (omega arith) in
    record { script = s; valid = valid; run = run_so_far s log (subst (IsRunSoFar s) same (so_far s p played none)) }

-- what a verdict says, or that the log goes on
module _ (log run : List Record) (given : Turned) where
  pub said : (v : Option Verdict) → Says log run given v → IfSome v (IsVerdictOn log)
  said None goes = tt
  said (Some verdict) holds = holds

  pub unsaid : (v : Option Verdict) → v ≡ None → Says log run given v → (given ≡ More) × BeginsWith run log × (length run < length log)
  unsaid None is goes = (goes.more, goes.begins, goes.longer)
  unsaid (Some verdict) is holds = absurd (cc)

-- by what the code knows of both
pub same_verdict : (carried other : Bool) (given : Turned) (run size all count same : ℕ) → other ≡ carried → size ≡ run → count ≡ all
    → verdict_by carried given run all same ≡ verdict_by other given size count same
same_verdict carried other given run size all count same one two three =
    ap (λ x. verdict_by x given run all same) (sym one) ∙ ap (λ x. verdict_by other given x all same) (sym two)
    ∙ ap (λ x. verdict_by other given size x same) (sym three)

-- ---- before the first turn

pub begun_front : (s : ScenarioValue) (log : List Record) → s ≡ own_script log → IsShape log → (run : List Record)
    → run ≡ beginning_records s.carrier (beginning_in s) → BeginsWith run log
begun_front s log own shape run is =
    subst (λ l. BeginsWith l log) (sym is)
    (subst (λ (x : ScenarioValue). BeginsWith (beginning_records x.carrier (beginning_in x)) log) (sym own) (own_begins log shape))

pub more_left : (run log : List Record) → BeginsWith run log → (length run ≡ length log → ⊥) → length run < length log
more_left run log begins uneven = less (length run) (length log) (size_of run log begins) uneven
