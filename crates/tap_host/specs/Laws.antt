-- What no line undoes.
--
-- Rule: docs/NETWORK.md, "What is proved, what is tested, and what is neither".
use Rattle.std.specs.Prelude.{◌≡◌, ℕ, true, List}
use Rattle.tap_name.specs.Name.{Name}
use Rattle.tap_host.specs.Host.{HostSeen, host_line}

-- A frame that was taken counts as taken after each further line. A packet whose frame was taken is only acknowledged (`at_number`), so of all
-- packets that carry it the node takes the first alone.
abbrev pub TakenStaysTaken : Type 0
TakenStaysTaken = (host : HostSeen) (number : ℕ) (text : List ℕ) (from : Name) (seq : ℕ) → host.taken from seq ≡ true
    → (host_line host number text).host.taken from seq ≡ true
