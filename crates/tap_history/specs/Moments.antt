-- The moments of a log, and what is under way at one of them. A log at a moment is the list of the records up to it.
use Rattle.std.specs.Prelude.{ℕ, nat_eq, nat_le, Bool, true, false, not, ◌&&◌, ◌||◌, if◌then◌else◌, List, [], ◌∷◌, length, take, filter, slice_get, Option, None, Some}
use Rattle.std.specs.List.{filter_map, list_any}
use Rattle.tap_log.specs.declared.record.Record.{Record}
use Rattle.tap_log.specs.declared.record.Record.TheVariants.{Packet}
use Rattle.tap_log.specs.Kinds.{begins_group, is_carried, arrived_number, ended_number, packet_number, sent_number, taken_number}

-- how many records a log begins with: `Begin`, and `Carrier` if it is carried
abbrev pub beginning : List Record → ℕ
beginning log = (if is_carried log then 2 else 1)

-- a group begins with the record, or none is there
abbrev pub ends_before : Bool → Option Record → Bool
ends_before carried None = true
ends_before carried (Some next) = begins_group carried next

-- The first m records end a group: one has begun among them, and after them the next one begins, or the log ends.
abbrev pub is_group_end : List Record → ℕ → Bool
is_group_end log m = list_any (begins_group (is_carried log)) (take m log) && ends_before (is_carried log) (slice_get log m)

-- A moment is the end of the beginning, or of a group.
abbrev pub is_moment : List Record → ℕ → Bool
is_moment log m = nat_le m (length log) && (nat_eq m (beginning log) || is_group_end log m)

-- the number is among these
abbrev pub has_number : List ℕ → ℕ → Bool
has_number numbers number = list_any (λ other. nat_eq other number) numbers

-- the first numbers less the second ones
abbrev pub numbers_less : List ℕ → List ℕ → List ℕ
numbers_less numbers ended = filter (λ number. not (has_number ended number)) numbers

-- the frames that are outstanding, by their numbers: those that were sent, less those that were taken
abbrev pub outstanding : List Record → List ℕ
outstanding log = numbers_less (filter_map sent_number log) (filter_map taken_number log)

-- the packets that are under way, by their numbers: those that were made, less those that arrived or were lost
abbrev pub under_way : List Record → List ℕ
under_way log = numbers_less (filter_map packet_number log) (filter_map ended_number log)

-- the frame that a packet acknowledges, if this packet is among those that have arrived
unfoldable pub acknowledged_by : List ℕ → Record → Option ℕ
acknowledged_by arrived (Packet number frame ack) = (if ack && has_number arrived number then Some frame else None)
acknowledged_by arrived other = None

-- the frames that these packets acknowledge, by their numbers
abbrev pub acknowledged_by_all : List ℕ → List Record → List ℕ
acknowledged_by_all packets log = filter_map (acknowledged_by packets) log

-- the frames whose acknowledgement has arrived, by their numbers
abbrev pub acknowledged : List Record → List ℕ
acknowledged log = acknowledged_by_all (filter_map arrived_number log) log

-- the frames that await their acknowledgement, by their numbers: those that were sent, less those acknowledged
abbrev pub awaiting : List Record → List ℕ
awaiting log = numbers_less (filter_map sent_number log) (acknowledged log)

-- there is no number
abbrev pub is_none : List ℕ → Bool
is_none [] = true
is_none (number ∷ numbers) = false

-- no frame is outstanding
abbrev pub is_still : List Record → Bool
is_still log = is_none (outstanding log)

-- Rest: no frame is outstanding; in a carried log also no packet is under way and no frame awaits its acknowledgement.
abbrev pub is_rest : List Record → Bool
is_rest log = is_still log && (not (is_carried log) || (is_none (under_way log) && is_none (awaiting log)))
