-- How the top call ends if its run ends so, and the exit status of a program for each way in which it ends.
use Rattle.std.specs.Prelude.{ℕ}
use Rattle.tap_replay.specs.declared.end.End.{End}
use Rattle.tap_replay.specs.declared.end.End.TheVariants as end
use Rattle.tap_top.specs.declared.status.Status.{Status}
use Rattle.tap_top.specs.declared.status.Status.TheVariants.{Done, Usage, TooLong, NotScenario, ReadFault, WriteFault, Spent, NoMemory}

abbrev pub status_of_end : End → Status
status_of_end end.Done = Done
status_of_end end.Spent = Spent
status_of_end end.NoMemory = NoMemory

abbrev pub exit_code : Status → ℕ
exit_code Done = 0
exit_code ReadFault = 1
exit_code Usage = 2
exit_code TooLong = 3
exit_code (NotScenario fault) = 3
exit_code WriteFault = 4
exit_code Spent = 5
exit_code NoMemory = 6
