-- The exit status of a program and its line for each way in which the judge's call ends.
--
-- Rule: docs/FORMATS.md, "The judge".
use Rattle.std.specs.Prelude.{ℕ, List, [], ◌++◌, codes, decimal}
use Rattle.tap_report.specs.declared.written.Written.{Written}
use Rattle.tap_report.specs.declared.written.Written.TheVariants.{All, Failed}
use Rattle.tap_judge.specs.declared.status.JudgeStatus.{JudgeStatus}
use Rattle.tap_judge.specs.declared.status.JudgeStatus.TheVariants.{Lawful, Unlawful, NotLog, TooLong, Usage, ReadFault, WriteFault, NoMemory}

abbrev pub judge_exit_code : JudgeStatus → ℕ
judge_exit_code (Lawful records) = 0
judge_exit_code ReadFault = 1
judge_exit_code Usage = 2
judge_exit_code (NotLog line) = 3
judge_exit_code TooLong = 3
judge_exit_code WriteFault = 4
judge_exit_code NoMemory = 6
judge_exit_code (Unlawful k) = 7

-- the one line that is written; none if there is no way to write it
abbrev pub line_of_status : JudgeStatus → List ℕ
line_of_status (Lawful records) = codes "lawful " ++ decimal records ++ codes " records\n"
line_of_status (Unlawful k) = codes "unlawful at record " ++ decimal k ++ codes "\n"
line_of_status (NotLog line) = codes "not a log at line " ++ decimal line ++ codes "\n"
line_of_status TooLong = codes "judge: text too long\n"
line_of_status Usage = codes "judge: usage: tapestry_judge\n"
line_of_status ReadFault = codes "judge: read fault\n"
line_of_status WriteFault = []
line_of_status NoMemory = codes "judge: no memory\n"

-- the status, by what it is without regard to writing, and by whether all was written
abbrev pub judge_status_with_writing : JudgeStatus → Written → JudgeStatus
judge_status_with_writing before All = before
judge_status_with_writing before Failed = WriteFault
