-- A log is its beginning, its groups and its ending.
use Rattle.std.specs.Prelude.{ℕ, ◌+◌, Bool, true, false, ◌&&◌, if◌then◌else◌, List, [], ◌∷◌, ◌++◌, length, take, drop, slice_get, Option, None, Some}
use Rattle.tap_log.specs.declared.record.Record.{Record}
use Rattle.tap_log.specs.declared.record.Record.TheVariants.{Step as StepRecord, Spent, Finished, Arrived}
use Rattle.tap_log.specs.Kinds.{is_carried}
use Rattle.tap_history.specs.Moments.{beginning, ends_before}
use Rattle.tap_history.specs.StepAsks.{is_start}

-- the beginning: `Begin`, and `Carrier` if the log is carried
abbrev pub beginning_of : List Record → List Record
beginning_of log = take (beginning log) log

-- the records after the beginning
abbrev pub after_beginning : List Record → List Record
after_beginning log = drop (beginning log) log

-- the run has sent as many frames as it may
unfoldable pub is_spent : Record → Bool
is_spent (Spent limit) = true
is_spent other = false

-- no record follows this one
unfoldable pub ends_log : Record → Bool
ends_log (Spent limit) = true
ends_log (Finished steps) = true
ends_log other = false

-- A group that this record begins is cut short if `Spent` follows it: it is a start's, or that of a packet that arrives.
-- Every other record that begins a group may be a whole one.
unfoldable pub can_be_cut : Bool → Record → Bool
can_be_cut carried (StepRecord index step) = is_start step
can_be_cut carried (Arrived packet) = carried
can_be_cut carried other = false

-- the last one of the records ends the log
abbrev pub is_ended : List Record → Bool
is_ended [] = false
is_ended (item ∷ []) = ends_log item
is_ended (item ∷ next ∷ items) = is_ended (next ∷ items)

-- These records are an ending: `Finished`, or `Spent` with the beginning of the group that it cuts short, if it does.
abbrev pub is_ending : Bool → List Record → Bool
is_ending carried (last ∷ []) = ends_log last
is_ending carried (first ∷ last ∷ []) = can_be_cut carried first && is_spent last
is_ending carried other = false

-- the ending is longer with the record before it, if there is one
abbrev pub is_lengthened : Bool → Option Record → List Record → Bool
is_lengthened carried None last = false
is_lengthened carried (Some item) last = is_ending carried (item ∷ last)

-- the ending of the records, of which there may be none
abbrev pub ending_among : Bool → List Record → List Record
ending_among carried [] = []
ending_among carried (item ∷ items) = (if is_ending carried (item ∷ items) then item ∷ items else ending_among carried items)

-- the records without their ending
abbrev pub without_ending : Bool → List Record → List Record
without_ending carried [] = []
without_ending carried (item ∷ items) = (if is_ending carried (item ∷ items) then [] else item ∷ without_ending carried items)

-- a log's ending: none if the run goes on, or if memory ran out
abbrev pub ending_of : List Record → List Record
ending_of log = ending_among (is_carried log) (after_beginning log)

-- the record in front of these groups: alone if a group ends with it, else in the first one
abbrev pub with_record : Record → Bool → List (List Record) → List (List Record)
with_record item true groups = (item ∷ []) ∷ groups
with_record item false [] = (item ∷ []) ∷ []
with_record item false (group ∷ groups) = (item ∷ group) ∷ groups

-- the records parted in front of each that begins a group
abbrev pub parted : Bool → List Record → List (List Record)
parted carried [] = []
parted carried (item ∷ items) = with_record item (ends_before carried (slice_get items 0)) (parted carried items)

-- the groups of a log, in their order
abbrev pub groups_of : List Record → List (List Record)
groups_of log = parted (is_carried log) (without_ending (is_carried log) (after_beginning log))

-- the records of these groups, one after another
abbrev pub records_of : List (List Record) → List Record
records_of [] = []
records_of (group ∷ groups) = group ++ records_of groups

-- P holds of each group, given the log before it
abbrev pub EachGroupFrom : (List Record → List Record → Type 0) → List Record → List (List Record) → Type 0
EachGroupFrom P before [] = Unit {0}
EachGroupFrom P before (group ∷ groups) = P before group × EachGroupFrom P (before ++ group) groups

-- P holds of each group of a log, given the log before it
abbrev pub EachGroup : (List Record → List Record → Type 0) → List Record → Type 0
EachGroup P log = EachGroupFrom P (beginning_of log) (groups_of log)

-- the ends of the beginning, which has so many records, and of each group
abbrev pub ends_from : ℕ → List (List Record) → List ℕ
ends_from m [] = m ∷ []
ends_from m (group ∷ groups) = m ∷ ends_from (m + length group) groups

-- the moments of a log that has no ending
abbrev pub moments_of : List Record → List ℕ
moments_of log = ends_from (length (beginning_of log)) (groups_of log)
