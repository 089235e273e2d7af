-- The exit status of a program for each way in which the run of a node ends.
--
-- Rule: docs/NETWORK.md, "Exit statuses".
use Rattle.std.specs.Prelude.{ℕ}
use Rattle.tap_host.specs.declared.status.HostStatus.{HostStatus}
use Rattle.tap_host.specs.declared.status.HostStatus.TheVariants.{Done, ReadFault, Usage, TooLong, Cut, WriteFault, NoRoom, NoMemory}

abbrev pub host_exit_code : HostStatus → ℕ
host_exit_code Done = 0
host_exit_code ReadFault = 1
host_exit_code Usage = 2
host_exit_code TooLong = 3
host_exit_code Cut = 3
host_exit_code WriteFault = 4
host_exit_code NoRoom = 5
host_exit_code NoMemory = 6
