-- What is answered of a log from what is kept beside it.
use Rattle.std.proofs.Common.{◌≡◌, ℕ, zero, suc, ◌+◌, Bool, not, cond, nat_eq, List, [], ◌∷◌, length, All, Option, None, Some, refl, ap, sym, subst, ◌∙◌, arith}
use Rattle.std.specs.Prelude.{◌&&◌, ◌||◌, ◌==◌, if◌then◌else◌, nat_lt, option_and_then, option_map, position, slice_get, IfSome}
use Rattle.std.specs.List.{prefix_len}
use Rattle.std.proofs.lemmas.Bool.{ne_eqb}
use Rattle.std.proofs.lemmas.List.Elements.{All-head, All-tail}
use Rattle.tap_name.specs.Settings.{SettingsValue}
use Rattle.tap_outstanding.specs.declared.outstanding.Flight.{Flight}
use Rattle.tap_outstanding.specs.Outstanding.{OutstandingValue, frame_of_number, place_of_number}
use Rattle.tap_log.specs.declared.record.Record.{Record}
use Rattle.tap_log.specs.declared.record.Record.TheVariants.{Sent}
use Rattle.tap_log.specs.Frames.{bytes_of}
use Rattle.tap_history.specs.Departing.{departing_of}
use Rattle.tap_history.specs.Flights.{bytes_at, flight_count}
use Rattle.tap_history.specs.Moments.{awaiting, is_none, is_rest, is_still, outstanding, under_way}
use Rattle.tap_ledger.specs.declared.flights.OutstandingFrame.{OutstandingFrame}
use Rattle.tap_ledger.specs.Flights.{sent_payload}
use Rattle.tap_ledger.specs.KeptLedger.{AreFlights, IsFlight, IsKeepable, Leaves, flight_numbers}
use Rattle.tap_ledger.proofs.Conditions.{and_yes}
use Rattle.tap_ledger.proofs.Departing.{departing_is}
use Rattle.tap_ledger.proofs.Frames.{eq_swaps}

-- there are as many numbers as frames
numbers_length : (frames : List Flight) → length (flight_numbers frames) ≡ length frames
numbers_length [] = refl
numbers_length (f ∷ fs) = ap suc (numbers_length fs)

-- as many frames are kept as are outstanding
pub count_is : (log whole : List Record) (frames : OutstandingValue) → AreFlights log whole frames → length frames.frames ≡ length (outstanding log)
count_is log whole frames are = sym (numbers_length frames.frames) ∙ ap (λ l. length l) are.numbers

-- and they are all that a delivery may choose from
pub flight_count_is : (settings : SettingsValue) (log whole : List Record) (frames : OutstandingValue) → IsKeepable settings log
    → AreFlights log whole frames → length frames.frames ≡ flight_count log
flight_count_is settings log whole frames is are =
    count_is log whole frames are
    ∙ sym (ap (λ b. if b then length (under_way log) else length (outstanding log)) is.uncarried)

-- there is no frame exactly if there is no number
none_left : (frames : List Flight) → (length frames == 0) ≡ is_none (flight_numbers frames)
none_left [] = refl
none_left (f ∷ fs) = ne_eqb (length (f ∷ fs)) 0 (λ same. absurd (omega (arith, same)))

-- no frame is kept exactly if none is outstanding
pub still_is : (log whole : List Record) (frames : OutstandingValue) → AreFlights log whole frames → (length frames.frames == 0) ≡ is_still log
still_is log whole frames are = none_left frames.frames ∙ ap is_none are.numbers

-- who is departing, given whether no frame is outstanding
pub departing_by : (log whole : List Record) (frames : OutstandingValue) (leaver : Option (List ℕ)) (none : Bool) → AreFlights log whole frames
    → Leaves log leaver → none ≡ (length frames.frames == 0) → (if none then None else leaver) ≡ departing_of log
departing_by log whole frames leaver none are leaves is =
    ap (λ b. if b then None else leaver) (is ∙ still_is log whole frames are) ∙ departing_is log leaver leaves

-- no frame is kept exactly if the log is at rest
pub rest_is : (settings : SettingsValue) (log whole : List Record) (frames : OutstandingValue) → IsKeepable settings log
    → AreFlights log whole frames → (length frames.frames == 0) ≡ is_rest log
rest_is settings log whole frames is are =
    still_is log whole frames are ∙ and_yes (is_still log)
    ∙ sym (ap (λ b. is_still log && (not b || (is_none (under_way log) && is_none (awaiting log)))) is.uncarried)

-- the bytes that the record of a frame sends
abbrev pub record_bytes : List Record → Flight → Option (List ℕ)
record_bytes log f = option_and_then sent_payload (slice_get log f.record_place)

-- the record of a frame that is kept sends the bytes of its number
flight_bytes : (log whole : List Record) (f : Flight) → IsFlight log whole f → record_bytes whole f ≡ bytes_of log f.number
unfolding sent_payload
flight_bytes log whole f is = ap (option_and_then sent_payload) is.there ∙ sym is.are

-- so the records give the bytes of the frame at each place
bytes_from : (log whole : List Record) (frames : List Flight) (place : ℕ) → All (IsFlight log whole) frames
    → option_and_then (record_bytes whole) (slice_get frames place)
    ≡ option_and_then (bytes_of log) (slice_get (flight_numbers frames) place)
bytes_from log whole [] place are = refl
bytes_from log whole (f ∷ fs) zero are = flight_bytes log whole f (All-head (IsFlight log whole) f fs are)
bytes_from log whole (f ∷ fs) (suc place) are = bytes_from log whole fs place (All-tail (IsFlight log whole) f fs are)

-- the bytes of the outstanding frame at a place, by its record
pub bytes_is : (log whole : List Record) (frames : OutstandingValue) (place : ℕ) → AreFlights log whole frames
    → option_and_then (record_bytes whole) (slice_get frames.frames place) ≡ bytes_at log place
bytes_is log whole frames place are =
    bytes_from log whole frames.frames place are.each
    ∙ ap (λ l. option_and_then (bytes_of log) (slice_get l place)) are.numbers

-- ---- places

-- as many frames as numbers come before a number
prefix_numbers : (n : ℕ) (frames : List Flight)
    → prefix_len (λ f. not (f.number == n)) frames ≡ prefix_len (λ k. not (nat_eq n k)) (flight_numbers frames)
prefix_numbers n [] = refl
prefix_numbers n (f ∷ fs) =
    ap (λ b. cond {A = ℕ} (not b) (1 + prefix_len (λ g. not (g.number == n)) fs) 0) (eq_swaps f.number n)
    ∙ ap (λ m. cond {A = ℕ} (not (nat_eq n f.number)) (1 + m) 0) (prefix_numbers n fs)

abbrev place_within : ℕ → ℕ → Option ℕ
place_within at size = cond {A = Option ℕ} (nat_lt at size) (Some at) None

-- the place of a number among the outstanding ones, by the frames
pub place_is : (log whole : List Record) (frames : OutstandingValue) (n : ℕ) → AreFlights log whole frames
    → place_of_number frames.frames n ≡ position (nat_eq n) (outstanding log)
place_is log whole frames n are =
    ap (λ at. place_within at (length frames.frames)) (prefix_numbers n frames.frames)
    ∙ ap (place_within (prefix_len (λ k. not (nat_eq n k)) (flight_numbers frames.frames))) (sym (numbers_length frames.frames))
    ∙ ap (position (nat_eq n)) are.numbers

-- the frame of a number stands at its place
pub numbered_there : (log whole : List Record) (frames : OutstandingValue) (n place : ℕ) → AreFlights log whole frames
    → position (nat_eq n) (outstanding log) ≡ Some place → frame_of_number frames.frames n ≡ slice_get frames.frames place
numbered_there log whole frames n place are is =
    ap (option_and_then (slice_get frames.frames)) (place_is log whole frames n are ∙ is)

-- ---- frames

-- the record of a frame at a place of those that are kept is there
pub flight_there : (log whole : List Record) (frames : List Flight) (place : ℕ) (f : Flight) → All (IsFlight log whole) frames
    → Some f ≡ slice_get frames place → IsFlight log whole f
flight_there log whole [] place f are is = absurd (cc)
flight_there log whole (g ∷ gs) zero f are is =
    let same : g ≡ f = cc in
    subst (IsFlight log whole) same (All-head (IsFlight log whole) g gs are)
flight_there log whole (g ∷ gs) (suc place) f are is = flight_there log whole gs place f (All-tail (IsFlight log whole) g gs are) is

-- it sends these bytes
pub flight_sends : (log whole : List Record) (f : Flight) (is : IsFlight log whole f) → record_bytes whole f ≡ Some is.bytes
unfolding sent_payload
flight_sends log whole f is = ap (option_and_then sent_payload) is.there

-- the number of a frame that is given, if its bytes are
pub frame_number : (result : Option OutstandingFrame) (number : ℕ) (bytes : List ℕ) → IfSome result (λ f. f.number ≡ number)
    → option_map (λ f. f.bytes.now) result ≡ Some bytes → option_map (λ f. f.number) result ≡ Some number
frame_number None number bytes same is = absurd (cc)
frame_number (Some f) number bytes same is = ap Some same

-- and where its record stands
pub frame_there : (log : List Record) (flight : Flight) (result : Option OutstandingFrame) (bytes : List ℕ)
    → IfSome result (λ f. f.number ≡ flight.number) → IfSome result (λ f. f.record_place ≡ flight.record_place)
    → option_map (λ f. f.bytes.now) result ≡ Some bytes → slice_get log flight.record_place ≡ Some (Sent flight.number bytes)
    → IfSome result (λ f. slice_get log f.record_place ≡ Some (Sent f.number f.bytes.now))
frame_there log flight None bytes number place is there = tt
frame_there log flight (Some f) bytes number place is there =
    let same : bytes ≡ f.bytes.now = cc in
    ap (slice_get log) place ∙ there ∙ ap (λ n. Some (Sent n bytes)) (sym number) ∙ ap (λ b. Some (Sent f.number b)) same
