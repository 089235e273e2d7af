-- The log of a run that has ended is lawful, and a scenario has one such run.
use Rattle.std.proofs.Common.{◌≡◌, ◌≢◌, inl, inr, true, false, List, [], ◌∷◌, ◌++◌, length, refl, ap, sym, ◌∙◌, append_assoc}
use Rattle.tap_scenario.specs.Scenario.{IsScript, ScenarioValue}
use Rattle.tap_log.specs.declared.record.Record.{Record}
use Rattle.tap_log.specs.declared.record.Record.TheVariants.{Spent as SpentRecord}
use Rattle.tap_engine.specs.Kinds.{is_finished}
use Rattle.tap_lawful.specs.Lawful.{step_alone, IsUncarriedFinished, IsUncarriedLogOf, IsUncarriedSpent, IsWholeUncarriedLogOf}
use Rattle.tap_lawful.specs.Runs.{IsLawful}
use Rattle.tap_lawful.proofs.OneLog.{one_whole_with}
use Rattle.tap_lawful.proofs.Runs.{lawful_plain}
use Rattle.tap_replay.specs.LawfulRuns.{AreOneRun, RunsAreLawful}
use Rattle.tap_replay.specs.Player.{HasEnded}
use Rattle.tap_replay.specs.declared.end.End.{End}
use Rattle.tap_replay.specs.declared.end.End.TheVariants.{Done, NoMemory, Spent}
use Rattle.tap_replay.proofs.Alike.{finished_so, spent_so}
use Rattle.tap_lawful.specs.Next.{uncarried_next_group}

whole_log : (s : ScenarioValue) (end : End) (log : List Record) → HasEnded s end log → end ≢ NoMemory → IsWholeUncarriedLogOf s log
whole_log s Done log ended short = record { played = ended.0; is_played = ended.1; over = inl ended.2 }
whole_log s Spent log ended short = record { played = ended.0; is_played = ended.1; over = inr ended.2 }
whole_log s NoMemory log ended short = absurd (short refl)

pub ended_log : (s : ScenarioValue) (end : End) (log : List Record) → HasEnded s end log → IsUncarriedLogOf s log
ended_log s Done log ended = record { played = ended.0; is_played = ended.1; ending = inr (inl ended.2) }
ended_log s Spent log ended = record { played = ended.0; is_played = ended.1; ending = inr (inr ended.2) }
ended_log s NoMemory log ended = record { played = log; is_played = ended; ending = inl refl }

lawful_log : (s : ScenarioValue) (end : End) (log : List Record) → IsScript s → s.carrier ≡ false → HasEnded s end log → IsLawful log
lawful_log s end log valid uncarried ended = lawful_plain s log valid uncarried (ended_log s end log ended)

-- ---- how the log ends says how the run has ended

done_finished : (s : ScenarioValue) (played log : List Record) → IsUncarriedFinished s played log → is_finished log ≡ true
done_finished s played log finished = ap is_finished finished.log_is ∙ finished_so played (length s.steps)

pub spent_unfinished : (s : ScenarioValue) (played log : List Record) → IsUncarriedSpent s played log → is_finished log ≡ false
spent_unfinished s played log spent =
    ap is_finished (spent.log_is ∙ sym (append_assoc played (step_alone spent.group) (SpentRecord s.frames ∷ [])))
    ∙ spent_so (played ++ step_alone spent.group) s.frames

apart : (one other : List Record) → one ≡ other → is_finished one ≡ true → is_finished other ≡ false → ⊥
apart one other same over on = let wrong : true ≡ false = sym over ∙ ap is_finished same ∙ on in cc

same_end : (s : ScenarioValue) (end other : End) (log more : List Record) → HasEnded s end log → HasEnded s other more
    → end ≢ NoMemory → other ≢ NoMemory → log ≡ more → end ≡ other
same_end s Done Done log more ended ends some enough same = refl
same_end s Done Spent log more ended ends some enough same =
    absurd (apart log more same (done_finished s ended.0 log ended.2) (spent_unfinished s ends.0 more ends.2))
same_end s Spent Done log more ended ends some enough same =
    absurd (apart more log (sym same) (done_finished s ends.0 more ends.2) (spent_unfinished s ended.0 log ended.2))
same_end s Spent Spent log more ended ends some enough same = refl
same_end s NoMemory other log more ended ends some enough same = absurd (some refl)
same_end s end NoMemory log more ended ends some enough same = absurd (enough refl)

one_run : (s : ScenarioValue) (end other : End) (log more : List Record) → HasEnded s end log → HasEnded s other more
    → end ≢ NoMemory → other ≢ NoMemory → AreOneRun end other log more
one_run s end other log more ended ends some enough =
    let same = one_whole_with (uncarried_next_group s) s log more (whole_log s end log ended some) (whole_log s other more ends enough) in
    record { end_is = same_end s end other log more ended ends some enough same; log_is = same }

pub runs_are_lawful : RunsAreLawful
runs_are_lawful = record { log = ended_log; whole = whole_log; lawful = lawful_log; one = one_run }
