-- One line of the long text of a log: its text, and which lines there are.
use Rattle.std.specs.Prelude.{◌≡◌, ℕ, ◌-◌, ◌^◌, ◌<◌, ◌++◌, Bool, List, length, codes, All, Option, None, Some, IsOk}
use Rattle.tap_name.specs.Settings.{AreWithinLimits, SettingsValue}
use Rattle.tap_name.specs.Name.{IsName}
use Rattle.tap_name.specs.Word.{IsWord}
use Rattle.tap_scenario.specs.Step.{IsStep}
use Rattle.tap_wire.specs.Reading.{head_of}
use Rattle.tap_wire.specs.declared.fault.WireFault.{WireFault}
use Rattle.tap_wire.specs.declared.fault.WireFault.TheVariants as fault
use Rattle.tap_log.specs.declared.record.LinkLine.{LinkLine}
use Rattle.tap_log.specs.declared.record.Pair.{Pair}
use Rattle.tap_log.specs.declared.record.Refusal.{Refusal}
use Rattle.tap_log.specs.declared.record.Refusal.TheVariants as refusal
use Rattle.tap_log.specs.declared.record.Record.{Record}
use Rattle.tap_log.specs.declared.record.Record.TheVariants as item
use Rattle.tap_report.specs.Shapes.{name_after, number_after, two_names_after}
use Rattle.tap_report.specs.Starts.{begin_line}
use Rattle.tap_report.specs.Tables.{pointers_line, table_line, words_of_link}
use Rattle.tap_report.specs.Text.{line_of}
use Rattle.tap_name.specs.Digits.{text_of_digit}
use Rattle.std.specs.Prelude.{[], ◌∷◌}
use Rattle.tap_line.specs.declared.line.Beginning.{Beginning}
use Rattle.tap_line.specs.declared.line.Line.{Line}
use Rattle.tap_line.specs.declared.line.Line.TheVariants.{Whole, Begin, Member, Table, Link, Pointers, Pointer, End}

-- ---- the text of a line

-- the line of a link, without its end
abbrev pub link_line : LinkLine → List ℕ
link_line l =
    number_after (codes "link ") l.slot.level ++ codes " " ++ (text_of_digit l.slot.digit ∷ [])
    ++ name_after (codes " ") l.name ++ codes " " ++ words_of_link l.kind

-- the line of a pointer, without its end
abbrev pub pair_line : Pair → List ℕ
pair_line pair = two_names_after (codes "pointer ") pair.object (codes " ") pair.server

-- the one text of a line, without its line feed, after a beginning with these settings
abbrev pub text_of_line : SettingsValue → Line → List ℕ
text_of_line p (Whole entry) = line_of (Some p) entry
text_of_line p (Begin begun) = begin_line begun.settings begun.frames
text_of_line p (Member name) = name_after (codes "member ") name
text_of_line p (Table name status links) = table_line name status links
text_of_line p (Link link) = link_line link
text_of_line p (Pointers name pairs) = pointers_line name pairs
text_of_line p (Pointer pair) = pair_line pair
text_of_line p End = codes "tapestry: no memory"

-- ---- which lines there are

-- each of these is a byte
abbrev pub AreBytes : List ℕ → Type 0
AreBytes bytes = All (λ byte. byte < 256) bytes

-- the numbers and the name of a refusal
abbrev pub IsRefusal : SettingsValue → Refusal → Type 0
IsRefusal p refusal.NoSuchNode = Unit {0}
IsRefusal p refusal.NotCore = Unit {0}
IsRefusal p (refusal.Departing leaver) = IsName p leaver
IsRefusal p (refusal.NotAtRest outstanding) = outstanding < 2 ^ 32
IsRefusal p refusal.NameTaken = Unit {0}
IsRefusal p refusal.TooManyNodes = Unit {0}
IsRefusal p refusal.LastNode = Unit {0}
IsRefusal p refusal.AlreadyPublished = Unit {0}
IsRefusal p refusal.NotPublished = Unit {0}
IsRefusal p (refusal.NoSuchFlight count) = count < 2 ^ 32
IsRefusal p (refusal.NoSuchByte length) = length < 2 ^ 32
IsRefusal p refusal.Readable = Unit {0}
IsRefusal p refusal.NotJoining = Unit {0}
IsRefusal p refusal.AlreadyAbandoned = Unit {0}
IsRefusal p (refusal.TooManyPackets made) = made < 2 ^ 32
IsRefusal p refusal.NotInPrefix = Unit {0}

-- the number of a fault; want of memory is never printed
abbrev pub IsFault : WireFault → Type 0
IsFault (fault.Short missing) = missing < 2 ^ 64
IsFault (fault.BadVersion version) = version < 256
IsFault (fault.BadKind kind) = kind < 256
IsFault (fault.BadLength length) = length < 2 ^ 16
IsFault (fault.BadCount count) = count < 256
IsFault (fault.Trailing more) = more < 2 ^ 64
IsFault (fault.BadDigit place) = place < 2 ^ 64
IsFault (fault.BadBody place) = place < 2 ^ 64
IsFault fault.NoMemory = ⊥

-- a server, or none
abbrev pub IsServer : SettingsValue → Option (List ℕ) → Type 0
IsServer p None = Unit {0}
IsServer p (Some server) = IsName p server

-- the bytes of a frame whose head is read
pub record IsSent (p : SettingsValue) (bytes : List ℕ) : Type 0 where
  pub each : AreBytes bytes
  pub head : IsOk (head_of p bytes)

-- the nodes of a walk, of which there is one; their number is printed, and below 2^64
pub record IsPath (p : SettingsValue) (path : List (List ℕ)) : Type 0 where
  pub some : 0 < length path
  pub few : length path - 1 < 2 ^ 64
  pub names : All (IsName p) path

-- the roots of a root set, which are four
pub record AreRoots (p : SettingsValue) (roots : List (List ℕ)) : Type 0 where
  pub four : length roots ≡ 4
  pub names : All (IsName p) roots

-- A record that is printed as one line, of a run with these settings that is carried or not: its names are names of the settings, and its
-- numbers are within their types.
abbrev pub IsWhole : SettingsValue → Bool → Record → Type 0
IsWhole p carrier (item.Begin settings frames members) = ⊥
IsWhole p carrier (item.Step index step) = (index < 2 ^ 32) × IsStep p carrier step
IsWhole p carrier (item.Sent number bytes) = (number < 2 ^ 32) × IsSent p bytes
IsWhole p carrier (item.Taken number) = number < 2 ^ 32
IsWhole p carrier (item.Core name) = IsName p name
IsWhole p carrier (item.Gone name) = IsName p name
IsWhole p carrier (item.Walked object path) = IsName p object × IsPath p path
IsWhole p carrier (item.RootOf object root) = IsName p object × IsName p root
IsWhole p carrier (item.Asked ticket object asker) = (ticket < 2 ^ 32) × IsName p object × IsName p asker
IsWhole p carrier (item.Answered ticket server) = (ticket < 2 ^ 32) × IsServer p server
IsWhole p carrier (item.Published object server) = IsName p object × IsName p server
IsWhole p carrier (item.Withdrawn object server) = IsName p object × IsName p server
IsWhole p carrier (item.TableOf name status links) = ⊥
IsWhole p carrier (item.PointersOf name pairs) = ⊥
IsWhole p carrier (item.Refused index refusal) = (index < 2 ^ 32) × IsRefusal p refusal
IsWhole p carrier (item.Spent limit) = limit < 2 ^ 32
IsWhole p carrier (item.Finished steps) = steps < 2 ^ 32
IsWhole p carrier (item.Garbled number fault) = (number < 2 ^ 32) × IsFault fault
IsWhole p carrier (item.Abandoned name) = IsName p name
IsWhole p carrier item.Carrier = Unit {0}
IsWhole p carrier (item.Packet number frame ack) = (number < 2 ^ 32) × (frame < 2 ^ 32)
IsWhole p carrier (item.Arrived packet) = packet < 2 ^ 32
IsWhole p carrier item.Ticked = Unit {0}
IsWhole p carrier (item.Lost packet) = packet < 2 ^ 32
IsWhole p carrier (item.RootsOf object asker roots) = IsName p object × IsName p asker × AreRoots p roots
IsWhole p carrier (item.CastFrom cast word level name) = (cast < 2 ^ 32) × IsWord word × (level < 256) × IsName p name
IsWhole p carrier (item.Reached cast name) = (cast < 2 ^ 32) × IsName p name
IsWhole p carrier (item.Closed cast) = cast < 2 ^ 32

-- the first line of a beginning
pub record IsBeginning (begun : Beginning) : Type 0 where
  pub limits : AreWithinLimits begun.settings
  pub frames : begun.frames < 2 ^ 32

-- a link of a table
pub record IsLink (p : SettingsValue) (link : LinkLine) : Type 0 where
  pub level : link.slot.level < 256
  pub digit : link.slot.digit < p.base
  pub name : IsName p link.name

-- a line of the long text of a run with these settings that is carried or not
abbrev pub IsLine : SettingsValue → Bool → Line → Type 0
IsLine p carrier (Whole entry) = IsWhole p carrier entry
IsLine p carrier (Begin begun) = IsBeginning begun
IsLine p carrier (Member name) = IsName p name
IsLine p carrier (Table name status links) = IsName p name × (links < 2 ^ 64)
IsLine p carrier (Link link) = IsLink p link
IsLine p carrier (Pointers name pairs) = IsName p name × (pairs < 2 ^ 64)
IsLine p carrier (Pointer pair) = IsName p pair.object × IsName p pair.server
IsLine p carrier End = Unit {0}
