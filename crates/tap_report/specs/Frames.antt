-- the lines of frames and of packets
use Rattle.std.specs.Prelude.{ℕ, List, [], ◌∷◌, ◌++◌, slice_index_or, codes, Bool, true, false, Option, None, Some, Result, Ok, Err}
use Rattle.hex.specs.Hex.{encode_lower}
use Rattle.tap_name.specs.Settings.{SettingsValue}
use Rattle.tap_wire.specs.Reading.{head_of}
use Rattle.tap_wire.specs.declared.fault.HeadFault.{HeadFault}
use Rattle.tap_wire.specs.declared.fault.WireFault.{WireFault}
use Rattle.tap_wire.specs.declared.fault.WireFault.TheVariants.{Short, BadVersion, BadKind, BadLength, BadCount, Trailing, BadDigit, BadBody, NoMemory}
use Rattle.tap_wire.specs.declared.frame.Head.{Head}
use Rattle.tap_report.specs.Shapes.{name_after, number_after}

-- the words of the kinds of frames, each at the place of its code; no kind has the code 0
abbrev pub words_of_kinds : List (List ℕ)
words_of_kinds =
    [] ∷ codes "seek" ∷ codes "tell" ∷ codes "hello" ∷ codes "heard" ∷ codes "ack" ∷ codes "done" ∷ codes "release" ∷ codes "link"
    ∷ codes "lay" ∷ codes "find" ∷ codes "answer" ∷ codes "leave" ∷ codes "left" ∷ codes "gone" ∷ codes "forget" ∷ codes "cast"
    ∷ codes "castack" ∷ []

abbrev pub word_of_kind : ℕ → List ℕ
word_of_kind code = slice_index_or words_of_kinds code []

-- what the head of a frame says: the kind, the sender and the receiver
abbrev pub text_of_head : Result Head HeadFault → List ℕ
text_of_head (Ok head) = word_of_kind head.kind ++ name_after (codes " ") head.from ++ name_after (codes " ") head.to
text_of_head (Err fault) = []

-- the same, of bytes that are read with these settings
abbrev pub heading : Option SettingsValue → List ℕ → List ℕ
heading None bytes = []
heading (Some p) bytes = text_of_head (head_of p bytes)

-- the line of a frame that is sent, with its bytes in hexadecimal
abbrev pub sent_line : Option SettingsValue → ℕ → List ℕ → List ℕ
sent_line settings number bytes =
    number_after (codes "sent ") number ++ codes " " ++ heading settings bytes ++ codes " " ++ encode_lower bytes

-- the words of a fault; want of memory is never printed
abbrev pub words_of_fault : WireFault → List ℕ
words_of_fault (Short missing) = number_after (codes "short ") missing
words_of_fault (BadVersion version) = number_after (codes "bad version ") version
words_of_fault (BadKind kind) = number_after (codes "bad kind ") kind
words_of_fault (BadLength length) = number_after (codes "bad length ") length
words_of_fault (BadCount count) = number_after (codes "bad count ") count
words_of_fault (Trailing more) = number_after (codes "trailing ") more
words_of_fault (BadDigit place) = number_after (codes "bad digit ") place
words_of_fault (BadBody place) = number_after (codes "bad body ") place
words_of_fault NoMemory = []

-- the line of a damaged copy
abbrev pub garbled_line : ℕ → WireFault → List ℕ
garbled_line number fault = number_after (codes "garbled ") number ++ codes " " ++ words_of_fault fault

-- the line of a packet, which carries a frame or its acknowledgement
abbrev pub packet_word : Bool → List ℕ
packet_word false = codes " data "
packet_word true = codes " ack "

abbrev pub packet_line : ℕ → ℕ → Bool → List ℕ
packet_line packet frame ack = number_after (codes "packet ") packet ++ number_after (packet_word ack) frame
