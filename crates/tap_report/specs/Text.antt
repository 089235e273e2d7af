-- The text of a log: a line for each record, further lines after a beginning, a table and pointers, and the summary.
use Rattle.std.specs.Prelude.{◌≢◌, ℕ, ◌<◌, List, [], ◌∷◌, ◌++◌, length, codes, All, Bool, true, false, Option, None, Some, IsSome, IsSomeAnd, IsOk, if◌then◌else◌, fold}
use Rattle.std.specs.Option.{option_or}
use Rattle.tap_name.specs.Settings.{SettingsValue}
use Rattle.tap_wire.specs.Reading.{head_of}
use Rattle.tap_wire.specs.declared.fault.WireFault.TheVariants.{NoMemory}
use Rattle.tap_log.specs.declared.record.Record.{Record}
use Rattle.tap_log.specs.declared.record.Record.TheVariants.{Begin, Step, Sent, Taken, Core, Gone, Walked, RootOf, Asked, Answered, Published, Withdrawn, TableOf, PointersOf, Refused, Spent, Finished, Garbled, Abandoned, Carrier, Packet, Arrived, Ticked, Lost, RootsOf, CastFrom, Reached, Closed}
use Rattle.tap_report.specs.Shapes.{name_after, object_at, number_after, line}
use Rattle.tap_report.specs.Starts.{begin_line, member_lines, step_line}
use Rattle.tap_report.specs.Lookups.{walked_line, asked_line, answered_line, roots_line}
use Rattle.tap_report.specs.Tables.{table_line, link_lines, pointers_line, pointer_lines}
use Rattle.tap_report.specs.Frames.{sent_line, garbled_line, packet_line}
use Rattle.tap_report.specs.Casts.{cast_line, reached_line}
use Rattle.tap_report.specs.Refusal.{refused_line}
use Rattle.tap_report.specs.Summary.{ending, numbers_of}
use Rattle.tap_report.specs.declared.mode.Mode.{Mode}
use Rattle.tap_report.specs.declared.mode.Mode.TheVariants.{Long, Brief, Summary}

-- The line of a record, or its first one. The settings are those of the `Begin` before it.
abbrev pub line_of : Option SettingsValue → Record → List ℕ
line_of settings (Begin begun frames members) = begin_line begun frames
line_of settings (Step index step) = step_line index step
line_of settings (Sent number bytes) = sent_line settings number bytes
line_of settings (Taken number) = number_after (codes "taken ") number
line_of settings (Core name) = name_after (codes "core ") name
line_of settings (Gone name) = name_after (codes "gone ") name
line_of settings (Walked object path) = walked_line object path
line_of settings (RootOf object root) = object_at (codes "rooted ") object root
line_of settings (Asked ticket object asker) = asked_line ticket object asker
line_of settings (Answered ticket server) = answered_line ticket server
line_of settings (Published object server) = object_at (codes "published ") object server
line_of settings (Withdrawn object server) = object_at (codes "withdrawn ") object server
line_of settings (TableOf name status links) = table_line name status (length links)
line_of settings (PointersOf name pairs) = pointers_line name (length pairs)
line_of settings (Refused index refusal) = refused_line index refusal
line_of settings (Spent limit) = number_after (codes "spent ") limit
line_of settings (Finished steps) = number_after (codes "done ") steps
line_of settings (Garbled number fault) = garbled_line number fault
line_of settings (Abandoned name) = name_after (codes "abandoned ") name
line_of settings Carrier = codes "carrier"
line_of settings (Packet number frame ack) = packet_line number frame ack
line_of settings (Arrived packet) = number_after (codes "arrived ") packet
line_of settings Ticked = codes "ticked"
line_of settings (Lost packet) = number_after (codes "lost ") packet
line_of settings (RootsOf object asker roots) = roots_line object asker roots
line_of settings (CastFrom cast word level name) = cast_line cast word level name
line_of settings (Reached cast name) = reached_line cast name
line_of settings (Closed cast) = number_after (codes "closed ") cast

-- whether the lines of members are printed
abbrev pub members_in : Mode → List (List ℕ) → List ℕ
members_in Long members = member_lines members
members_in mode members = []

-- the further lines of a beginning, a table and pointers
abbrev pub further_lines : Mode → Record → List ℕ
further_lines mode (Begin begun frames members) = members_in mode members
further_lines mode (Step index step) = []
further_lines mode (Sent number bytes) = []
further_lines mode (Taken number) = []
further_lines mode (Core name) = []
further_lines mode (Gone name) = []
further_lines mode (Walked object path) = []
further_lines mode (RootOf object root) = []
further_lines mode (Asked ticket object asker) = []
further_lines mode (Answered ticket server) = []
further_lines mode (Published object server) = []
further_lines mode (Withdrawn object server) = []
further_lines mode (TableOf name status links) = link_lines links
further_lines mode (PointersOf name pairs) = pointer_lines pairs
further_lines mode (Refused index refusal) = []
further_lines mode (Spent limit) = []
further_lines mode (Finished steps) = []
further_lines mode (Garbled number fault) = []
further_lines mode (Abandoned name) = []
further_lines mode Carrier = []
further_lines mode (Packet number frame ack) = []
further_lines mode (Arrived packet) = []
further_lines mode Ticked = []
further_lines mode (Lost packet) = []
further_lines mode (RootsOf object asker roots) = []
further_lines mode (CastFrom cast word level name) = []
further_lines mode (Reached cast name) = []
further_lines mode (Closed cast) = []

-- the brief text leaves out these records
abbrev pub is_in_brief : Record → Bool
is_in_brief (Begin begun frames members) = true
is_in_brief (Step index step) = false
is_in_brief (Sent number bytes) = false
is_in_brief (Taken number) = false
is_in_brief (Core name) = true
is_in_brief (Gone name) = true
is_in_brief (Walked object path) = true
is_in_brief (RootOf object root) = true
is_in_brief (Asked ticket object asker) = true
is_in_brief (Answered ticket server) = true
is_in_brief (Published object server) = true
is_in_brief (Withdrawn object server) = true
is_in_brief (TableOf name status links) = true
is_in_brief (PointersOf name pairs) = true
is_in_brief (Refused index refusal) = true
is_in_brief (Spent limit) = true
is_in_brief (Finished steps) = true
is_in_brief (Garbled number fault) = true
is_in_brief (Abandoned name) = true
is_in_brief Carrier = true
is_in_brief (Packet number frame ack) = false
is_in_brief (Arrived packet) = false
is_in_brief Ticked = false
is_in_brief (Lost packet) = false
is_in_brief (RootsOf object asker roots) = true
is_in_brief (CastFrom cast word level name) = true
is_in_brief (Reached cast name) = true
is_in_brief (Closed cast) = true

-- whether a record has lines in the text
abbrev pub is_printed : Mode → Record → Bool
is_printed Long item = true
is_printed Brief item = is_in_brief item
is_printed Summary item = false

-- the text of a record
abbrev pub text_of_record : Mode → Option SettingsValue → Record → List ℕ
text_of_record mode settings item =
    if is_printed mode item then line (line_of settings item) ++ further_lines mode item else []

-- the settings with which a record begins a log
abbrev pub begun_settings : Record → Option SettingsValue
begun_settings (Begin begun frames members) = Some begun
begun_settings (Step index step) = None
begun_settings (Sent number bytes) = None
begun_settings (Taken number) = None
begun_settings (Core name) = None
begun_settings (Gone name) = None
begun_settings (Walked object path) = None
begun_settings (RootOf object root) = None
begun_settings (Asked ticket object asker) = None
begun_settings (Answered ticket server) = None
begun_settings (Published object server) = None
begun_settings (Withdrawn object server) = None
begun_settings (TableOf name status links) = None
begun_settings (PointersOf name pairs) = None
begun_settings (Refused index refusal) = None
begun_settings (Spent limit) = None
begun_settings (Finished steps) = None
begun_settings (Garbled number fault) = None
begun_settings (Abandoned name) = None
begun_settings Carrier = None
begun_settings (Packet number frame ack) = None
begun_settings (Arrived packet) = None
begun_settings Ticked = None
begun_settings (Lost packet) = None
begun_settings (RootsOf object asker roots) = None
begun_settings (CastFrom cast word level name) = None
begun_settings (Reached cast name) = None
begun_settings (Closed cast) = None

-- the settings of the `Begin` that was put, with one record more
abbrev pub settings_after : Option SettingsValue → Record → Option SettingsValue
settings_after settings item = option_or (begun_settings item) settings

-- the settings with which a record after these is printed: those of the last `Begin`
abbrev pub settings_so_far : List Record → Option SettingsValue
settings_so_far records = fold settings_after None records

-- the texts of records one after another, after a `Begin` with these settings
abbrev pub texts_after : Mode → Option SettingsValue → List Record → List ℕ
texts_after mode settings [] = []
texts_after mode settings (item ∷ items) = text_of_record mode settings item ++ texts_after mode (settings_after settings item) items

-- the text of a log: those of its records, and in the mode Summary its summary
abbrev pub text_of_log : Mode → List Record → List ℕ
text_of_log mode records = texts_after mode None records ++ ending mode (settings_so_far records) (numbers_of records)

-- What a record must meet to be printed, after a `Begin` with these settings: the head of a frame is read, a walk went
-- through some node, the digits of slots are below the base, and want of memory isn't a fault.
abbrev pub IsPrintable : Option SettingsValue → Record → Type 0
IsPrintable settings (Begin begun frames members) = Unit {0}
IsPrintable settings (Step index step) = Unit {0}
IsPrintable settings (Sent number bytes) = IsSomeAnd settings (λ p. IsOk (head_of p bytes))
IsPrintable settings (Taken number) = Unit {0}
IsPrintable settings (Core name) = Unit {0}
IsPrintable settings (Gone name) = Unit {0}
IsPrintable settings (Walked object path) = 0 < length path
IsPrintable settings (RootOf object root) = Unit {0}
IsPrintable settings (Asked ticket object asker) = Unit {0}
IsPrintable settings (Answered ticket server) = Unit {0}
IsPrintable settings (Published object server) = Unit {0}
IsPrintable settings (Withdrawn object server) = Unit {0}
IsPrintable settings (TableOf name status links) = IsSomeAnd settings (λ p. All (λ link. link.slot.digit < p.base) links)
IsPrintable settings (PointersOf name pairs) = Unit {0}
IsPrintable settings (Refused index refusal) = Unit {0}
IsPrintable settings (Spent limit) = Unit {0}
IsPrintable settings (Finished steps) = Unit {0}
IsPrintable settings (Garbled number fault) = fault ≢ NoMemory
IsPrintable settings (Abandoned name) = Unit {0}
IsPrintable settings Carrier = Unit {0}
IsPrintable settings (Packet number frame ack) = Unit {0}
IsPrintable settings (Arrived packet) = Unit {0}
IsPrintable settings Ticked = Unit {0}
IsPrintable settings (Lost packet) = Unit {0}
IsPrintable settings (RootsOf object asker roots) = Unit {0}
IsPrintable settings (CastFrom cast word level name) = Unit {0}
IsPrintable settings (Reached cast name) = Unit {0}
IsPrintable settings (Closed cast) = Unit {0}

-- each record is printable after those before it
abbrev pub ArePrintable : Option SettingsValue → List Record → Type 0
ArePrintable settings [] = Unit {0}
ArePrintable settings (item ∷ items) = IsPrintable settings item × ArePrintable (settings_after settings item) items

-- a record is a beginning
abbrev pub IsBegin : Record → Type 0
IsBegin item = IsSome (begun_settings item)

-- there is no record, or the first one is the only `Begin`
abbrev pub BeginsOnce : List Record → Type 0
BeginsOnce [] = Unit {0}
BeginsOnce (first ∷ rest) = IsBegin first × All (λ item. ¬ IsBegin item) rest

-- of records after others, with which the settings came to be these, only the first one of all is a `Begin`
abbrev pub BeginsAfter : Option SettingsValue → List Record → Type 0
BeginsAfter None items = BeginsOnce items
BeginsAfter (Some p) items = All (λ item. ¬ IsBegin item) items

-- what a log must meet to be printed
pub record IsPrintableLog (records : List Record) : Type 0 where
  pub begins : BeginsOnce records
  pub each : ArePrintable None records
