-- Why a step is refused: the name that it tells is one of the settings, and the number is in range.
use Rattle.std.proofs.Common.{◌≡◌, ℕ, ◌+◌, ◌<◌, ◌≤◌, ◌^◌, Bool, true, false, List, [], ◌∷◌, length, take, slice_get, slice_set, All, Option, None, Some, refl, arith, length-set}
use Rattle.std.specs.Prelude.{IfSome, nat_eq, nat_le, nat_lt, if◌then◌else◌, not, ◌&&◌, option_and_then}
use Rattle.std.proofs.lemmas.Bool.{false≢true}
use Rattle.std.proofs.Math.Bool.{and-false}
use Rattle.std.specs.List.{filter_map, cons_option}
use Rattle.std.specs.Option.{option_map}
use Rattle.std.proofs.lemmas.List.{length-take}
use Rattle.std.proofs.lemmas.List.Elements.{All-cons, All-head, All-nil, All-set, All-tail, All-take}
use Rattle.tap_name.specs.Name.{IsName}
use Rattle.tap_name.specs.Settings.{AreWithinLimits, SettingsValue}
use Rattle.tap_scenario.specs.declared.step.Step.{Step}
use Rattle.tap_scenario.specs.declared.step.Step.TheVariants.{Garble, Cut, Tick, Repeat, Cast}
use Rattle.tap_scenario.specs.Step.{IsStep}
use Rattle.tap_log.specs.declared.record.Record.{Record}
use Rattle.tap_log.specs.declared.record.Record.TheVariants.{Begin, Sent}
use Rattle.tap_log.specs.declared.record.Refusal.{Refusal}
use Rattle.tap_log.specs.declared.record.Refusal.TheVariants.{NoSuchNode, NotCore, Departing, NotAtRest, NameTaken, TooManyNodes, LastNode, AlreadyPublished, NotPublished, NoSuchFlight, NoSuchByte, Readable, NotJoining, AlreadyAbandoned, TooManyPackets, NotInPrefix}
use Rattle.tap_log.specs.Counts.{packet_count, resends_after, resent_count, resent_from}
use Rattle.tap_log.specs.Kinds.{packet_number}
use Rattle.tap_log.specs.Frames.{bytes_of, sent_bytes}
use Rattle.tap_history.specs.Departing.{departing_of}
use Rattle.tap_history.specs.Flights.{bytes_at, flight_count}
use Rattle.tap_history.specs.Moments.{outstanding}
use Rattle.tap_history.specs.Refusals.{damaged, first_refusal, first_some, is_and, packets_of_step, refused_if, refuses_already_abandoned, refuses_already_published, refuses_departing, refuses_last_node, refuses_name_taken, refuses_no_such_byte, refuses_no_such_flight, refuses_no_such_node, refuses_not_at_rest, refuses_not_core, refuses_not_in_prefix, refuses_not_joining, refuses_not_published, refuses_readable, refuses_too_many_nodes, refuses_too_many_packets, unless_within, while_departing}
use Rattle.tap_history.specs.StepAsks.{suits_departure}
use Rattle.tap_line.specs.Line.{AreBytes, IsRefusal, IsSent}
use Rattle.tap_runs.specs.Course.{is_choice}
use Rattle.tap_lawful_shapes.proofs.Bytes.{sent_short}
use Rattle.tap_lawful_shapes.proofs.Near.{AreNear, IsNear}

-- ---- the bytes of frames that were sent

abbrev pub AreSentBytes : List ℕ → Type 0
AreSentBytes bytes = AreBytes bytes × (length bytes < 70000)

module _ (p : SettingsValue) (c : Bool) (limits : AreWithinLimits p) where
  sent_fits : (bytes : List ℕ) → IsSent p bytes → AreSentBytes bytes
  sent_fits bytes is = (is.each, sent_short p limits bytes is.each is.head)

  sent_data : (number : ℕ) (item : Record) → IsNear p c item → IfSome (sent_bytes number item) AreSentBytes
  unfolding sent_bytes IsNear
  sent_data number (Sent sent bytes) near = by_test (nat_eq sent number)
    where
      by_test : (b : Bool) → IfSome (if b then Some bytes else None) AreSentBytes
      by_test true = sent_fits bytes near
      by_test false = tt
  sent_data number other near = tt

  all_data : (number : ℕ) (items : List Record) → AreNear p c items → All AreSentBytes (filter_map (sent_bytes number) items)
  all_data number [] near = All-nil AreSentBytes
  all_data number (item ∷ items) near =
      by_one (sent_bytes number item) (sent_data number item (All-head (IsNear p c) item items near)) (filter_map (sent_bytes number) items)
      (all_data number items (All-tail (IsNear p c) item items near))
    where
      by_one : (one : Option (List ℕ)) → IfSome one AreSentBytes → (rest : List (List ℕ)) → All AreSentBytes rest
          → All AreSentBytes (cons_option one rest)
      by_one None is rest all = all
      by_one (Some bytes) is rest all = All-cons AreSentBytes bytes rest is all

  first_data : (all : List (List ℕ)) → All AreSentBytes all → IfSome (slice_get all 0) AreSentBytes
  first_data [] is = tt
  first_data (bytes ∷ all) is = All-head AreSentBytes bytes all is

  -- what is kept of frames after a beginning
  pub bytes_data : (settings : SettingsValue) (frames : ℕ) (members : List (List ℕ)) (later : List Record) (number : ℕ) → AreNear p c later
      → IfSome (bytes_of (Begin settings frames members ∷ later) number) AreSentBytes
  unfolding sent_bytes
  bytes_data settings frames members later number near =
      first_data (filter_map (sent_bytes number) later) (all_data number later near)

module _ (p : SettingsValue) (log : List Record) (kept : (number : ℕ) → IfSome (bytes_of log number) AreSentBytes) where
  pub place_data : (place : ℕ) → IfSome (bytes_at log place) AreSentBytes
  place_data place = by_number (slice_get (outstanding log) place)
    where
      by_number : (number : Option ℕ) → IfSome (option_and_then (bytes_of log) number) AreSentBytes
      by_number None = tt
      by_number (Some number) = kept number

  -- the bytes of a damaged copy
  abbrev pub HasByte : Step → Type 0
  HasByte (Garble place at byte) = byte < 256
  HasByte other = Unit {0}

  pub copy_data : (step : Step) → HasByte step → IfSome (damaged log step) AreSentBytes
  unfolding damaged
  copy_data (Garble place at byte) small = by_bytes (bytes_at log place) (place_data place)
    where
      by_bytes : (bytes : Option (List ℕ)) → IfSome bytes AreSentBytes → IfSome (option_map (λ b. slice_set b at byte) bytes) AreSentBytes
      by_bytes None is = tt
      by_bytes (Some bytes) is =
          let size = length-set bytes at byte in
          let few = is.1 in
          (All-set (λ b. b < 256) bytes at byte small is.0, omega (arith, size, few))
  copy_data (Cut place many) small = by_bytes (bytes_at log place) (place_data place)
    where
      by_bytes : (bytes : Option (List ℕ)) → IfSome bytes AreSentBytes → IfSome (option_map (take many) bytes) AreSentBytes
      by_bytes None is = tt
      by_bytes (Some bytes) is =
          let size = length-take many bytes in
          let few = is.1 in
          (All-take (λ b. b < 256) many bytes is.0, omega (arith, size, few))
  copy_data other small = tt

  -- ---- each cause

  refused_so : (cause : Bool) (refusal : Refusal) → IsRefusal p refusal → IfSome (refused_if cause refusal) (IsRefusal p)
  refused_so true refusal is = is
  refused_so false refusal is = tt

  module _ (few : length (outstanding log) < 2 ^ 32) (flights : flight_count log < 2 ^ 32)
      (departs : IfSome (departing_of log) (IsName p)) (step : Step) (packets : IfSome (refuses_too_many_packets log step) (IsRefusal p)) where
    departing_so : (leaver : Option (List ℕ)) → IfSome leaver (IsName p) → IfSome (while_departing step leaver) (IsRefusal p)
    departing_so None is = tt
    departing_so (Some leaver) is = refused_so (not (suits_departure step)) (Departing leaver) is

    within_so : (at : ℕ) (bytes : Option (List ℕ)) → IfSome bytes AreSentBytes → IfSome (unless_within at bytes) (IsRefusal p)
    within_so at None is = tt
    within_so at (Some bytes) is =
        let size = is.1 in refused_so (nat_le (length bytes) at) (NoSuchByte (length bytes)) (omega (arith, size))

    no_byte_so : (s : Step) → IfSome (refuses_no_such_byte log s) (IsRefusal p)
    unfolding refuses_no_such_byte
    no_byte_so (Garble place at byte) = within_so at (bytes_at log place) (place_data place)
    no_byte_so (Cut place bytes) = within_so bytes (bytes_at log place) (place_data place)
    no_byte_so other = tt

    not_in_prefix_so : (s : Step) → IfSome (refuses_not_in_prefix log s) (IsRefusal p)
    unfolding refuses_not_in_prefix
    not_in_prefix_so (Cast word prefix asker) = refused_so _ NotInPrefix tt
    not_in_prefix_so other = tt

    pub refusal_so : IfSome (first_refusal log step) (IsRefusal p)
    unfolding refuses_no_such_node refuses_not_core refuses_departing refuses_not_at_rest refuses_name_taken refuses_too_many_nodes refuses_last_node refuses_already_published refuses_not_published refuses_no_such_flight refuses_readable refuses_not_joining refuses_already_abandoned
    refusal_so =
        first (refuses_no_such_node log step) _ (refused_so _ NoSuchNode tt)
        (first (refuses_not_core log step) _ (refused_so _ NotCore tt)
        (first (refuses_departing log step) _ (departing_so (departing_of log) departs)
        (first (refuses_not_at_rest log step) _ (refused_so _ (NotAtRest (length (outstanding log))) few)
        (first (refuses_name_taken log step) _ (refused_so _ NameTaken tt)
        (first (refuses_too_many_nodes log step) _ (refused_so _ TooManyNodes tt)
        (first (refuses_last_node log step) _ (refused_so _ LastNode tt)
        (first (refuses_already_published log step) _ (refused_so _ AlreadyPublished tt)
        (first (refuses_not_published log step) _ (refused_so _ NotPublished tt)
        (first (refuses_no_such_flight log step) _ (refused_so _ (NoSuchFlight (flight_count log)) flights)
        (first (refuses_no_such_byte log step) _ (no_byte_so step)
        (first (refuses_readable log step) _ (refused_so _ Readable tt)
        (first (refuses_not_joining log step) _ (refused_so _ NotJoining tt)
        (first (refuses_already_abandoned log step) _ (refused_so _ AlreadyAbandoned tt)
        (first (refuses_too_many_packets log step) _ packets
        (first (refuses_not_in_prefix log step) [] (not_in_prefix_so step) tt)))))))))))))))
      where
        first : (one : Option Refusal) (others : List (Option Refusal)) → IfSome one (IsRefusal p) → IfSome (first_some others) (IsRefusal p)
            → IfSome (first_some (one ∷ others)) (IsRefusal p)
        first None others is rest = rest
        first (Some refusal) others is rest = is

-- ---- packets that are made once more

-- they are some of all packets
resent_some : (before : Bool) (items : List Record) → resent_from before items ≤ packet_count items
resent_some before [] = omega arith
resent_some before (item ∷ items) = by_number (packet_number item) refl (resent_some (resends_after before item) items)
  where
    fewer : (there : Bool) → (if there then 1 else 0) ≤ 1
    fewer true = omega arith
    fewer false = omega arith

    by_number : (number : Option ℕ) → packet_number item ≡ number
        → resent_from (resends_after before item) items ≤ packet_count items → resent_from before (item ∷ items) ≤ packet_count (item ∷ items)
    by_number None is rest = rw (is, and-false before) (omega (arith, rest))
    by_number (Some number) is rest = rw is (let one = fewer (before && true) in omega (arith, one, rest))

module _ (p : SettingsValue) (log : List Record) where
  pub packets_so : (step : Step) → packet_count log < 2 ^ 32 → IfSome (refuses_too_many_packets log step) (IsRefusal p)
  unfolding refuses_too_many_packets
  packets_so step few =
      let some = resent_some false log in
      by_cause (is_and (packets_of_step log step) (λ more. nat_lt 100000 (resent_count log + more))) (omega (arith, some, few))
    where
      by_cause : (cause : Bool) → resent_count log < 2 ^ 32 → IfSome (refused_if cause (TooManyPackets (resent_count log))) (IsRefusal p)
      by_cause true few = few
      by_cause false few = tt

  -- a step that makes no packets isn't refused for packets
  pub none_so : (step : Step) → packets_of_step log step ≡ None → IfSome (refuses_too_many_packets log step) (IsRefusal p)
  unfolding refuses_too_many_packets
  none_so step none = rw none tt

  -- a step of a scenario that isn't carried makes none, and only choices do
  pub none_uncarried : (step : Step) → IsStep p false step → packets_of_step log step ≡ None
  unfolding packets_of_step
  none_uncarried Tick is = absurd (false≢true is)
  none_uncarried (Repeat place) is = absurd (false≢true is.0)
  none_uncarried step is = refl

  pub none_unless_choice : (step : Step) → is_choice step ≡ false → packets_of_step log step ≡ None
  unfolding packets_of_step is_choice
  none_unless_choice Tick is = absurd (cc)
  none_unless_choice (Repeat place) is = absurd (cc)
  none_unless_choice step is = refl
