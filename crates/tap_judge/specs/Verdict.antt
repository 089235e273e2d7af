-- What a verdict says of a log.
--
-- Rule: docs/FORMATS.md, "The judge".
use Rattle.std.specs.Prelude.{List}
use Rattle.tap_log.specs.declared.record.Record.{Record}
use Rattle.tap_lawful.specs.Runs.{IsLawful}
use Rattle.tap_own_scripts.specs.Judging.{IsUnlawful}
use Rattle.tap_judge.specs.declared.verdict.Verdict.{Verdict}
use Rattle.tap_judge.specs.declared.verdict.Verdict.TheVariants.{Lawful, NoMemory, Unlawful}

abbrev pub IsVerdictOn : List Record → Verdict → Type 0
IsVerdictOn log Lawful = IsLawful log
IsVerdictOn log (Unlawful k) = IsUnlawful log k
IsVerdictOn log NoMemory = Unit {0}
