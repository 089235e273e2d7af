-- The way of a frame, and its sequence number: one more than its sender had sent to its receiver before.
use Rattle.std.specs.Prelude.{ℕ, ◌+◌, nat_eq, Bool, ◌&&◌, if◌then◌else◌, List, [], ◌∷◌, take, Option, None, Some}
use Rattle.std.specs.List.{filter_map, slice_index_or}
use Rattle.tap_name.specs.Settings.{SettingsValue}
use Rattle.tap_wire.specs.Names.{receiver_in, sender_in}
use Rattle.tap_log.specs.declared.record.Record.{Record}
use Rattle.tap_log.specs.declared.record.Record.TheVariants.{Sent}
use Rattle.tap_carry.specs.Names.{is_name}

-- the way of a frame: its sender and its receiver
pub record Way : Type 0 where
  pub from : List ℕ
  pub to : List ℕ

-- the way from one node to another
abbrev pub way_between : List ℕ → List ℕ → Way
way_between from to = record { from = from; to = to }

-- the way of the frame that a record sends, which its bytes tell
unfoldable pub sent_way : SettingsValue → Record → Option Way
sent_way settings (Sent number bytes) = Some (way_between (sender_in settings bytes) (receiver_in settings bytes))
sent_way settings other = None

-- the ways of the frames that were sent, in the order of their numbers
abbrev pub frame_ways : SettingsValue → List Record → List Way
frame_ways settings log = filter_map (sent_way settings) log

-- two ways are the same
abbrev pub is_way : Way → Way → Bool
is_way way other = is_name way.from other.from && is_name way.to other.to

-- how many of these are the same as this one
abbrev pub way_count : List Way → Way → ℕ
way_count [] way = 0
way_count (other ∷ others) way = (if is_way other way then 1 else 0) + way_count others way

-- in place of the way of a frame that wasn't sent
abbrev pub no_way : Way
no_way = way_between [] []

-- the way of the frame of this number
abbrev pub way_at : List Way → ℕ → Way
way_at ways frame = slice_index_or ways frame no_way

-- its sequence number
abbrev pub sequence_in : List Way → ℕ → ℕ
sequence_in ways frame = way_count (take frame ways) (way_at ways frame) + 1

-- the frame of this number goes this way, with this sequence number
abbrev pub has_sequence : List Way → Way → ℕ → ℕ → Bool
has_sequence ways way seq frame = is_way (way_at ways frame) way && nat_eq (sequence_in ways frame) seq
