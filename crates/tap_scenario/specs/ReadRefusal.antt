-- how a reading is answered
use Rattle.std.specs.Prelude.{◌≡◌, Result, Ok, Err}
use Rattle.tap_scenario.specs.declared.fault.Fault.{Fault}
use Rattle.tap_scenario.specs.declared.fault.ReadRefusal.{ReadRefusal}
use Rattle.tap_scenario.specs.declared.fault.ReadRefusal.TheVariants.{Fault as Refused, NoMemory}

-- unless memory was refused, this is what refused the reading
abbrev pub TellsFault : {A : Type 0} → Result A Fault → ReadRefusal → Type 0
TellsFault read (Refused fault) = read ≡ Err fault
TellsFault read NoMemory = Unit {0}

-- unless memory was refused, what is answered is this value or this fault
abbrev pub AnswersUnlessMemory : {A : Type 0} → Result A Fault → Result A ReadRefusal → Type 0
AnswersUnlessMemory read (Ok value) = read ≡ Ok value
AnswersUnlessMemory read (Err (Refused fault)) = read ≡ Err fault
AnswersUnlessMemory read (Err NoMemory) = Unit {0}
