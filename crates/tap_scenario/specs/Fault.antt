-- readings one after the other, of which the first fault is the answer
use Rattle.std.specs.Prelude.{Result, Ok, Err}
use Rattle.tap_scenario.specs.declared.fault.Fault.{Fault}

-- what is read next, if there was no fault
infixl 10 ◌>>=◌
abbrev pub ◌>>=◌ : {A B : Type 0} → Result A Fault → (A → Result B Fault) → Result B Fault
(Ok value) >>= next = next value
(Err fault) >>= next = Err fault
