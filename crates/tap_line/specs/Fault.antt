-- The words of faults, as they are read.
use Rattle.std.specs.Prelude.{ℕ, ◌^◌, List, [], ◌∷◌, codes, Option, option_map}
use Rattle.tap_scenario.specs.Step.{one_number}
use Rattle.tap_log.specs.declared.record.Record.TheVariants.{Garbled}
use Rattle.tap_wire.specs.declared.fault.WireFault.{WireFault}
use Rattle.tap_wire.specs.declared.fault.WireFault.TheVariants as fault
use Rattle.tap_line.specs.declared.line.Line.{Line}
use Rattle.tap_line.specs.declared.line.Line.TheVariants.{Whole}
use Rattle.tap_line.specs.declared.refusals.FaultKind.{FaultKind}
use Rattle.tap_line.specs.declared.refusals.FaultKind.TheVariants.{Short, Trailing, Bad}
use Rattle.tap_line.specs.declared.refusals.BadKind.{BadKind}
use Rattle.tap_line.specs.declared.refusals.BadKind.TheVariants.{Version, Kind, Length, Count, Digit, Body}
use Rattle.tap_line.specs.Front.{◌>>=◌, number, one_of}

-- the first words of faults
abbrev pub fault_kinds : List FaultKind
fault_kinds = Short ∷ Trailing ∷ Bad ∷ []

-- the first word of a fault
abbrev pub text_of_fault : FaultKind → List ℕ
text_of_fault Short = codes "short"
text_of_fault Trailing = codes "trailing"
text_of_fault Bad = codes "bad"

-- what may be bad
abbrev pub bad_kinds : List BadKind
bad_kinds = Version ∷ Kind ∷ Length ∷ Count ∷ Digit ∷ Body ∷ []

-- the word for what is bad
abbrev pub text_of_bad : BadKind → List ℕ
text_of_bad Version = codes "version"
text_of_bad Kind = codes "kind"
text_of_bad Length = codes "length"
text_of_bad Count = codes "count"
text_of_bad Digit = codes "digit"
text_of_bad Body = codes "body"

-- the fault of a bad part, with the number that the words are
abbrev pub bad_of_kind : BadKind → List (List ℕ) → Option WireFault
bad_of_kind Version words = option_map fault.BadVersion (one_number 256 words)
bad_of_kind Kind words = option_map fault.BadKind (one_number 256 words)
bad_of_kind Length words = option_map fault.BadLength (one_number (2 ^ 16) words)
bad_of_kind Count words = option_map fault.BadCount (one_number 256 words)
bad_of_kind Digit words = option_map fault.BadDigit (one_number (2 ^ 64) words)
bad_of_kind Body words = option_map fault.BadBody (one_number (2 ^ 64) words)

-- a fault that begins with `bad`, after that word
abbrev pub bad_of_words : List (List ℕ) → Option WireFault
bad_of_words = one_of text_of_bad bad_kinds >>= λ kind. bad_of_kind kind

-- the fault that begins so
abbrev pub fault_of_kind : FaultKind → List (List ℕ) → Option WireFault
fault_of_kind Short words = option_map fault.Short (one_number (2 ^ 64) words)
fault_of_kind Trailing words = option_map fault.Trailing (one_number (2 ^ 64) words)
fault_of_kind Bad words = bad_of_words words

-- the fault that the words are
abbrev pub fault_of_words : List (List ℕ) → Option WireFault
fault_of_words = one_of text_of_fault fault_kinds >>= λ kind. fault_of_kind kind

-- a damaged copy, after the first word
abbrev pub garbled_of_words : List (List ℕ) → Option Line
garbled_of_words = number (2 ^ 32) >>= λ damaged. λ words. option_map (λ why. Whole (Garbled damaged why)) (fault_of_words words)
