-- Why a step is refused, by the log at the moment before it. Of several causes the first one counts.
use Rattle.std.specs.Prelude.{ℕ, nat_eq, nat_le, nat_lt, ◌==◌, ◌+◌, Bool, false, not, ◌&&◌, if◌then◌else◌, List, [], ◌∷◌, length, take, slice_set, Option, None, Some, is_ok}
use Rattle.std.specs.List.{starts_with}
use Rattle.std.specs.Option.{option_map, option_map_or}
use Rattle.tap_name.specs.Settings.{SettingsValue}
use Rattle.tap_scenario.specs.declared.step.Step.{Step}
use Rattle.tap_scenario.specs.declared.step.Step.TheVariants.{Garble, Cut, Tick, Repeat, Cast}
use Rattle.tap_wire.specs.Reading.{frame_of}
use Rattle.tap_log.specs.declared.record.Record.{Record}
use Rattle.tap_log.specs.declared.record.Record.TheVariants.{Begin}
use Rattle.tap_log.specs.declared.record.Refusal.{Refusal}
use Rattle.tap_log.specs.declared.record.Refusal.TheVariants.{NoSuchNode, NotCore, Departing, NotAtRest, NameTaken, TooManyNodes, LastNode, AlreadyPublished, NotPublished, NoSuchFlight, NoSuchByte, Readable, NotJoining, AlreadyAbandoned, TooManyPackets, NotInPrefix}
use Rattle.tap_history.specs.StepAsks.{abandon_name, asked_node, depart_name, flight_place, join_name, publish_pair, suits_departure, suits_joining, withdraw_pair}
use Rattle.tap_history.specs.Moments.{awaiting, outstanding}
use Rattle.tap_history.specs.Core.{abandoned_of, core_of, present_of}
use Rattle.tap_name.specs.Names.{has_name}
use Rattle.tap_history.specs.Departing.{departing_of}
use Rattle.tap_history.specs.Published.{has_pair, published_of}
use Rattle.tap_history.specs.Names.{name_count, names_of}
use Rattle.tap_history.specs.Flights.{bytes_at, flight_count}
use Rattle.tap_log.specs.Counts.{resent_count}

-- the refusal, if its cause holds
abbrev pub refused_if : Bool → Refusal → Option Refusal
refused_if cause refusal = (if cause then Some refusal else None)

-- the test of what there is; false if there is nothing
abbrev pub is_and : {X : Type 0} → Option X → (X → Bool) → Bool
is_and one test = option_map_or test one false

-- the settings of the beginning
unfoldable pub begin_settings : List Record → Option SettingsValue
begin_settings (Begin settings frames members ∷ items) = Some settings
begin_settings other = None

-- ---- the node that is asked

-- 1: no node of this name is present
unfoldable pub refuses_no_such_node : List Record → Step → Option Refusal
refuses_no_such_node log step = refused_if (is_and (asked_node step) (λ name. not (has_name (present_of log) name))) NoSuchNode

-- a node that is present and not core is joining
abbrev pub is_joining : List Record → List ℕ → Bool
is_joining log name = has_name (present_of log) name && not (has_name (core_of log) name)

-- 2: the node is joining
unfoldable pub refuses_not_core : List Record → Step → Option Refusal
refuses_not_core log step = refused_if (not (suits_joining step) && is_and (asked_node step) (is_joining log)) NotCore

-- ---- departures

-- the refusal of a step while this node departs
abbrev pub while_departing : Step → Option (List ℕ) → Option Refusal
while_departing step None = None
while_departing step (Some leaver) = refused_if (not (suits_departure step)) (Departing leaver)

-- 3: a node is departing
unfoldable pub refuses_departing : List Record → Step → Option Refusal
refuses_departing log step = while_departing step (departing_of log)

-- 4: frames are outstanding, when a node is to depart
unfoldable pub refuses_not_at_rest : List Record → Step → Option Refusal
refuses_not_at_rest log step =
    let frames = length (outstanding log) in refused_if (is_and (depart_name step) (λ name. nat_lt 0 frames)) (NotAtRest frames)

-- ---- joins

-- 5: a node of the new name was ever present
unfoldable pub refuses_name_taken : List Record → Step → Option Refusal
refuses_name_taken log step = refused_if (is_and (join_name step) (has_name (names_of log))) NameTaken

-- 6: 256 names were ever present
unfoldable pub refuses_too_many_nodes : List Record → Step → Option Refusal
refuses_too_many_nodes log step = refused_if (is_and (join_name step) (λ name. nat_le 256 (name_count log))) TooManyNodes

-- the node is the one core node
abbrev pub is_only_core : List Record → List ℕ → Bool
is_only_core log name = has_name (core_of log) name && (length (core_of log) == 1)

-- 7: the node that is to depart is the one core node
unfoldable pub refuses_last_node : List Record → Step → Option Refusal
refuses_last_node log step = refused_if (is_and (depart_name step) (is_only_core log)) LastNode

-- ---- published pairs

-- 8: the pair is published
unfoldable pub refuses_already_published : List Record → Step → Option Refusal
refuses_already_published log step = refused_if (is_and (publish_pair step) (has_pair (published_of log))) AlreadyPublished

-- 9: the pair isn't published
unfoldable pub refuses_not_published : List Record → Step → Option Refusal
refuses_not_published log step = refused_if (is_and (withdraw_pair step) (λ pair. not (has_pair (published_of log) pair))) NotPublished

-- ---- frames and packets

-- 10: nothing is at the place
unfoldable pub refuses_no_such_flight : List Record → Step → Option Refusal
refuses_no_such_flight log step =
    let flights = flight_count log in refused_if (is_and (flight_place step) (nat_le flights)) (NoSuchFlight flights)

-- the refusal, if this place isn't in the frame
abbrev pub unless_within : ℕ → Option (List ℕ) → Option Refusal
unless_within at None = None
unless_within at (Some bytes) = refused_if (nat_le (length bytes) at) (NoSuchByte (length bytes))

-- 11: the byte that is to be changed, or the first one that is to be cut off, isn't in the frame
unfoldable pub refuses_no_such_byte : List Record → Step → Option Refusal
refuses_no_such_byte log (Garble place at byte) = unless_within at (bytes_at log place)
refuses_no_such_byte log (Cut place bytes) = unless_within bytes (bytes_at log place)
refuses_no_such_byte log other = None

-- the bytes spell a frame
abbrev pub is_readable : Option SettingsValue → List ℕ → Bool
is_readable None bytes = false
is_readable (Some settings) bytes = is_ok (frame_of settings bytes)

-- the copy of a frame, if the step damages one
unfoldable pub damaged : List Record → Step → Option (List ℕ)
damaged log (Garble place at byte) = option_map (λ bytes. slice_set bytes at byte) (bytes_at log place)
damaged log (Cut place bytes) = option_map (take bytes) (bytes_at log place)
damaged log other = None

-- 12: the damaged copy is the spelling of a frame
unfoldable pub refuses_readable : List Record → Step → Option Refusal
refuses_readable log step = refused_if (is_and (damaged log step) (is_readable (begin_settings log))) Readable

-- ---- nodes that give up joining

-- 13: the node is core, or leaving
unfoldable pub refuses_not_joining : List Record → Step → Option Refusal
refuses_not_joining log step = refused_if (is_and (abandon_name step) (has_name (core_of log))) NotJoining

-- 14: the node was abandoned before
unfoldable pub refuses_already_abandoned : List Record → Step → Option Refusal
refuses_already_abandoned log step = refused_if (is_and (abandon_name step) (has_name (abandoned_of log))) AlreadyAbandoned

-- ---- packets made once more

-- the packets that a step would make once more: one for each frame that awaits, or one
unfoldable pub packets_of_step : List Record → Step → Option ℕ
packets_of_step log Tick = Some (length (awaiting log))
packets_of_step log (Repeat place) = Some 1
packets_of_step log other = None

-- 15: with those of this step, ticks and repeats would have made more than 100,000 packets
unfoldable pub refuses_too_many_packets : List Record → Step → Option Refusal
refuses_too_many_packets log step =
    let made = resent_count log in
    refused_if (is_and (packets_of_step log step) (λ more. nat_lt 100000 (made + more))) (TooManyPackets made)

-- ---- casts

-- 16: the name of the node that casts doesn't begin with the prefix
unfoldable pub refuses_not_in_prefix : List Record → Step → Option Refusal
refuses_not_in_prefix log (Cast word prefix asker) = refused_if (not (starts_with nat_eq asker prefix)) NotInPrefix
refuses_not_in_prefix log other = None

-- ---- the first one

-- the refusals of a step, in their order
abbrev pub refusals : List Record → Step → List (Option Refusal)
refusals log step =
    refuses_no_such_node log step
    ∷ refuses_not_core log step
    ∷ refuses_departing log step
    ∷ refuses_not_at_rest log step
    ∷ refuses_name_taken log step
    ∷ refuses_too_many_nodes log step
    ∷ refuses_last_node log step
    ∷ refuses_already_published log step
    ∷ refuses_not_published log step
    ∷ refuses_no_such_flight log step
    ∷ refuses_no_such_byte log step
    ∷ refuses_readable log step
    ∷ refuses_not_joining log step
    ∷ refuses_already_abandoned log step
    ∷ refuses_too_many_packets log step
    ∷ refuses_not_in_prefix log step
    ∷ []

-- the first one that there is
abbrev pub first_some : {X : Type 0} → List (Option X) → Option X
first_some [] = None
first_some (None ∷ others) = first_some others
first_some (Some x ∷ others) = Some x

-- why a step is refused after these records, if it is
abbrev pub first_refusal : List Record → Step → Option Refusal
first_refusal log step = first_some (refusals log step)
