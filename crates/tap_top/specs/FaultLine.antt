-- the line that says why a run didn't end with `done`
use Rattle.std.specs.Prelude.{ℕ, List, [], ◌++◌, codes, decimal}
use Rattle.tap_scenario.specs.Key.{text_of_key}
use Rattle.tap_scenario.specs.declared.fault.Fault.{Fault}
use Rattle.tap_scenario.specs.declared.fault.Fault.TheVariants.{NotUtf8, NotToml, BadKey, BadValue, BadStep}
use Rattle.tap_top.specs.declared.status.Status.{Status}
use Rattle.tap_top.specs.declared.status.Status.TheVariants.{Done, Usage, TooLong, NotScenario, ReadFault, WriteFault, Spent, NoMemory}

-- what is wrong with a scenario's text
abbrev pub text_of_fault : Fault → List ℕ
text_of_fault NotUtf8 = codes "not UTF-8"
text_of_fault NotToml = codes "not TOML"
text_of_fault (BadKey key) = codes "bad key " ++ text_of_key key
text_of_fault (BadValue key) = codes "bad value " ++ text_of_key key
text_of_fault (BadStep index) = codes "bad step " ++ decimal index

-- the line of a status: none if there is nothing to say, or no way to say it
abbrev pub fault_line : Status → List ℕ
fault_line Done = []
fault_line Usage = codes "tapestry: usage: tapestry [--brief] [--make N] [--seed S]\n"
fault_line TooLong = codes "tapestry: text too long\n"
fault_line (NotScenario fault) = codes "tapestry: not a scenario: " ++ text_of_fault fault ++ codes "\n"
fault_line ReadFault = codes "tapestry: read fault\n"
fault_line WriteFault = []
fault_line Spent = []
fault_line NoMemory = codes "tapestry: no memory\n"
