-- Which frames are outstanding after one more record.
use Rattle.std.proofs.Common.{◌≡◌, ℕ, zero, suc, ◌+◌, ◌<◌, ◌≤◌, Bool, true, false, not, nat_eq, List, [], ◌∷◌, ◌++◌, length, filter, get_or, All, AllPairs, Option, None, Some, refl, ap, sym, subst, ◌∙◌, arith, cond, append-nil}
use Rattle.std.specs.Prelude.{◌==◌, nat_lt, position, remove, slice_get, if◌then◌else◌}
use Rattle.std.specs.List.{filter_map, cons_option, prefix_len, range_with_len}
use Rattle.std.specs.Option.{option_map_or}
use Rattle.std.proofs.Common.{⊎_elim}
use Rattle.std.proofs.lemmas.Bool.{cases_eq, cases_lt, eqb-true, le-ltb, lt-ltb, ne_eqb, eq-eqb}
use Rattle.std.proofs.lemmas.List.Elements.{All-filter, All-head, All-push, All-tail}
use Rattle.std.proofs.lemmas.List.FromFn.{get_or-range_with_len, length-range_with_len}
use Rattle.tap_outstanding.specs.declared.outstanding.Flight.{Flight}
use Rattle.tap_outstanding.specs.Outstanding.{OutstandingValue, frame_with, place_of_number}
use Rattle.tap_log.specs.declared.record.Record.{Record}
use Rattle.tap_log.specs.declared.record.Record.TheVariants.{Sent, Taken}
use Rattle.tap_log.specs.Counts.{sent_count}
use Rattle.tap_log.specs.Frames.{bytes_of, sent_bytes}
use Rattle.tap_log.specs.Kinds.{sent_number, taken_number}
use Rattle.tap_log.specs.MoreRecords.{at_most_one, first_of_both}
use Rattle.tap_log.proofs.MoreRecords.{bytes_of-push, one_more_record_holds}
use Rattle.tap_history.specs.GroupLaws.{IsNumbered, NumbersOn}
use Rattle.tap_history.specs.Moments.{numbers_less, outstanding}
use Rattle.tap_history.proofs.Less.{less_by-none}
use Rattle.tap_history.proofs.Numbering.{outstanding-group}
use Rattle.tap_ledger.specs.Flights.{followed, taken_by_number}
use Rattle.tap_ledger.specs.KeptLedger.{AreFlights, IsFlight, flight_numbers}
use Rattle.tap_ledger.proofs.Conditions.{or_no}

-- ---- the first one that passes a test is taken out

-- none after one that passes the test passes it
abbrev AtMostOne : {X : Type 0} → (X → Bool) → List X → Type 0
AtMostOne test [] = Unit {0}
AtMostOne test (x ∷ xs) = (test x ≡ true → All (λ y. test y ≡ false) xs) × AtMostOne test xs

-- if none passes, all are kept
keeps_all : {X : Type 0} (test : X → Bool) (xs : List X) → All (λ x. test x ≡ false) xs → filter (λ x. not (test x)) xs ≡ xs
keeps_all test [] none = refl
keeps_all {X} test (x ∷ xs) none =
    ap (λ b. cond {A = List X} (not b) (x ∷ filter (λ y. not (test y)) xs) (filter (λ y. not (test y)) xs))
    (All-head (λ y. test y ≡ false) x xs none)
    ∙ ap (λ l. x ∷ l) (keeps_all test xs (All-tail (λ y. test y ≡ false) x xs none))

-- what is left once the element at this place is taken out, if there is one
abbrev left_at : {X : Type 0} → List X → ℕ → List X
left_at {X} xs n = option_map_or (remove xs) (cond {A = Option ℕ} (nat_lt n (length xs)) (Some n) None) xs

-- at a place within the list, that element goes
left_here : {X : Type 0} (xs : List X) (n : ℕ) → n < length xs → left_at xs n ≡ remove xs n
left_here {X} xs n within = ap (λ b. option_map_or (remove xs) (cond {A = Option ℕ} b (Some n) None) xs) (lt-ltb n (length xs) within)

-- at a place past the list, none goes
left_all : {X : Type 0} (xs : List X) (n : ℕ) → length xs ≤ n → left_at xs n ≡ xs
left_all {X} xs n past = ap (λ b. option_map_or (remove xs) (cond {A = Option ℕ} b (Some n) None) xs) (le-ltb n (length xs) past)

-- a place further on is a place among the others
left_later : {X : Type 0} (x : X) (xs : List X) (n : ℕ) → left_at (x ∷ xs) (1 + n) ≡ x ∷ left_at xs n
left_later {X} x xs n =
    let one : 1 + n ≡ suc n = omega arith in
    ⊎_elim
    (λ within. left_here (x ∷ xs) (1 + n) (omega (arith, within)) ∙ ap (remove (x ∷ xs)) one
    ∙ ap (λ l. x ∷ l) (sym (left_here xs n within)))
    (λ past. left_all (x ∷ xs) (1 + n) (omega (arith, past)) ∙ ap (λ l. x ∷ l) (sym (left_all xs n past)))
    (cases_lt n (length xs))

-- without the first that passes, those are left that do not pass, if at most one does
take_first : {X : Type 0} (test : X → Bool) (xs : List X) → AtMostOne test xs
    → option_map_or (remove xs) (position test xs) xs ≡ filter (λ x. not (test x)) xs
take_first test [] one = refl
take_first test (x ∷ xs) one = first_by test x xs one (test x) refl (take_first test xs one.1)
  where
    first_by : {X : Type 0} (test : X → Bool) (x : X) (xs : List X) → AtMostOne test (x ∷ xs) → (passes : Bool) → test x ≡ passes
        → left_at xs (prefix_len (λ y. not (test y)) xs) ≡ filter (λ y. not (test y)) xs
        → left_at (x ∷ xs) (prefix_len (λ y. not (test y)) (x ∷ xs)) ≡ filter (λ y. not (test y)) (x ∷ xs)
    first_by {X} test x xs one true is later =
        let rest = filter (λ y. not (test y)) xs in
        ap (λ b. left_at (x ∷ xs) (cond {A = ℕ} (not b) (1 + prefix_len (λ y. not (test y)) xs) 0)) is
        ∙ left_here (x ∷ xs) 0 (omega arith)
        ∙ sym (keeps_all test xs (one.0 is))
        ∙ sym (ap (λ b. cond {A = List X} (not b) (x ∷ rest) rest) is)
    first_by {X} test x xs one false is later =
        let rest = filter (λ y. not (test y)) xs in
        let n = prefix_len (λ y. not (test y)) xs in
        ap (λ b. left_at (x ∷ xs) (cond {A = ℕ} (not b) (1 + n) 0)) is
        ∙ left_later x xs n
        ∙ ap (λ l. x ∷ l) later
        ∙ sym (ap (λ b. cond {A = List X} (not b) (x ∷ rest) rest) is)

-- of frames that ascend, at most one has a number
ascending_one : (n : ℕ) (frames : List Flight) → AllPairs (λ a b. a.number < b.number) frames → AtMostOne (λ f. f.number == n) frames
ascending_one n [] ascending = tt
ascending_one n (x ∷ xs) ascending = (
  λ is. λ k d within. ne_eqb (get_or xs k d).number n
      (λ same. let before = ascending zero (suc k) d (omega arith) (omega arith) in
      absurd (omega (arith, before, same, eqb-true x.number n is))),
  ascending_one n xs (λ i j d lt within. ascending (suc i) (suc j) d (omega arith) (omega arith)),
)

-- a test of equality may be turned round
pub eq_swaps : (a b : ℕ) → nat_eq a b ≡ nat_eq b a
eq_swaps a b =
    ⊎_elim (λ same. ap (nat_eq a) (sym same) ∙ ap (λ c. nat_eq c a) same)
    (λ apart. ne_eqb a b apart ∙ sym (ne_eqb b a (λ same. apart (sym same)))) (cases_eq a b)

-- the numbers of frames of which the first one stays or goes
number_first : (keeps : Bool) (f : Flight) (fs : List Flight)
    → flight_numbers (cond {A = List Flight} keeps (f ∷ fs) fs) ≡ cond {A = List ℕ} keeps (f.number ∷ flight_numbers fs) (flight_numbers fs)
number_first true f fs = refl
number_first false f fs = refl

-- the numbers of the frames but one are the numbers but that one
numbers_left : (n : ℕ) (frames : List Flight)
    → flight_numbers (filter (λ f. not (f.number == n)) frames) ≡ numbers_less (flight_numbers frames) (n ∷ [])
numbers_left n [] = refl
numbers_left n (f ∷ fs) =
    let left = numbers_less (flight_numbers fs) (n ∷ []) in
    number_first (not (f.number == n)) f (filter (λ g. not (g.number == n)) fs)
    ∙ ap (λ l. cond {A = List ℕ} (not (f.number == n)) (f.number ∷ l) l) (numbers_left n fs)
    ∙ ap (λ b. cond {A = List ℕ} (not b) (f.number ∷ left) left) (eq_swaps f.number n ∙ sym (or_no (nat_eq n f.number)))

-- the numbers of the frames with one more
numbers_with : (frames : List Flight) (f : Flight) → flight_numbers (frames ++ f ∷ []) ≡ flight_numbers frames ++ f.number ∷ []
numbers_with [] f = refl
numbers_with (g ∷ gs) f = ap (λ l. g.number ∷ l) (numbers_with gs f)

-- ---- the records of frames

-- what stands at a place stays there when more comes after
pub get_more : {X : Type 0} (xs ys : List X) (i : ℕ) (x : X) → slice_get xs i ≡ Some x → slice_get (xs ++ ys) i ≡ Some x
get_more [] ys i x is = absurd (cc)
get_more (first ∷ xs) ys zero x is = is
get_more (first ∷ xs) ys (suc i) x is = get_more xs ys i x is

-- what comes last stands at the place of the length before
pub get_last : {X : Type 0} (xs : List X) (x : X) → slice_get (xs ++ x ∷ []) (length xs) ≡ Some x
get_last [] x = refl
get_last (first ∷ xs) x = get_last xs x

-- the first numbers from 0 are below their count
range_below : (count : ℕ) → All (λ n. n < count) (range_with_len 0 count)
range_below count k d within =
    let size = length-range_with_len 0 count in
    let is = get_or-range_with_len 0 count k d (omega (arith, size, within)) in omega (arith, is, size, within)

-- no record sends a number above all that were sent
none_sent : (n : ℕ) (log : List Record) → All (λ k. k < n) (filter_map sent_number log) → filter_map (sent_bytes n) log ≡ []
unfolding sent_number sent_bytes
none_sent n [] below = refl
none_sent n (Sent k bytes ∷ log) below =
    let others = filter_map sent_number log in
    let first = All-head (λ m. m < n) k others below in
    ap (λ b. cons_option (if b then Some bytes else None) (filter_map (sent_bytes n) log))
    (ne_eqb k n (λ same. absurd (omega (arith, same, first))))
    ∙ none_sent n log (All-tail (λ m. m < n) k others below)
none_sent n (item ∷ log) below = none_sent n log below

-- the number of the next frame has no bytes yet
bytes_none : (log : List Record) → IsNumbered log → bytes_of log (sent_count log) ≡ None
bytes_none log numbered =
    let n = sent_count log in
    let Below : List ℕ → Type 0 = λ l. All (λ k. k < n) l in
    ap (λ l. slice_get l 0) (none_sent n log (subst Below (sym numbered.sent) (range_below n)))

-- the record of a frame stays where it is, and the frame keeps its bytes
flight_stays : (log whole : List Record) (item : Record) (f : Flight) → IsFlight log whole f
    → IsFlight (log ++ item ∷ []) (whole ++ item ∷ []) f
flight_stays log whole item f is = record {
  bytes = is.bytes;
  there = get_more whole (item ∷ []) f.record_place (Sent f.number is.bytes) is.there;
  are = bytes_of-push log item f.number ∙ ap (λ o. first_of_both o (sent_bytes f.number item)) is.are;
}

-- so it is with each of them
flights_stay : (log whole : List Record) (item : Record) (frames : List Flight) → All (IsFlight log whole) frames
    → All (IsFlight (log ++ item ∷ []) (whole ++ item ∷ [])) frames
flights_stay log whole item frames are k d within = flight_stays log whole item (get_or frames k d) (are k d within)

-- a frame that numbers on has the number of the next one
next_number : (log : List Record) (n : ℕ) (bytes : List ℕ) → NumbersOn log (Sent n bytes ∷ []) → n ≡ sent_count log
unfolding sent_number
next_number log n bytes on =
    let d : ℕ = 0 in
    let one : get_or (n ∷ []) 0 d ≡ get_or (range_with_len (sent_count log) 1) 0 d = ap (λ l. get_or l 0 d) on.sent in
    let is = get_or-range_with_len (sent_count log) 1 0 d (omega arith) in
    one ∙ is ∙ (omega arith)

-- a record that sends a number has its bytes
sent_itself : (n : ℕ) (bytes : List ℕ) → sent_bytes n (Sent n bytes) ≡ Some bytes
unfolding sent_bytes
sent_itself n bytes = ap (λ b. if b then Some bytes else None) (eq-eqb n n refl)

-- the record of a new frame stands at the end
new_flight : (log whole : List Record) (n : ℕ) (bytes : List ℕ) → IsNumbered log → n ≡ sent_count log
    → IsFlight (log ++ Sent n bytes ∷ []) (whole ++ Sent n bytes ∷ []) (frame_with n (length whole))
new_flight log whole n bytes numbered is = record {
  bytes = bytes;
  there = get_last whole (Sent n bytes);
  are = bytes_of-push log (Sent n bytes) n
      ∙ ap (λ o. first_of_both o (sent_bytes n (Sent n bytes))) (ap (bytes_of log) is ∙ bytes_none log numbered)
      ∙ sent_itself n bytes;
}

-- ---- one more record

-- one more frame that is sent comes last
sent_push : (log whole : List Record) (frames : OutstandingValue) (n : ℕ) (bytes : List ℕ) → IsNumbered log → NumbersOn log (Sent n bytes ∷ [])
    → AreFlights log whole frames → AreFlights (log ++ Sent n bytes ∷ []) (whole ++ Sent n bytes ∷ []) (followed frames (length whole) (Sent n bytes))
unfolding followed sent_number taken_number
sent_push log whole frames n bytes numbered on are =
    let item = Sent n bytes in
    let next : n ≡ sent_count log = next_number log n bytes on in
    let number : n ≡ frames.sent = next ∙ sym are.sent in
    let New : ℕ → Type 0 = λ m. IsFlight (log ++ item ∷ []) (whole ++ item ∷ []) (frame_with m (length whole)) in
    record {
      sent = ap (λ m. m + 1) are.sent ∙ sym (one_more_record_holds.sent log item);
      numbers = numbers_with frames.frames (frame_with frames.sent (length whole))
          ∙ ap (λ l. l ++ frames.sent ∷ []) (are.numbers ∙ sym (less_by-none nat_eq (outstanding log)))
          ∙ ap (λ m. numbers_less (outstanding log) [] ++ m ∷ []) (sym number)
          ∙ sym (outstanding-group log (item ∷ []) numbered on);
      each = All-push (IsFlight (log ++ item ∷ []) (whole ++ item ∷ [])) frames.frames (frame_with frames.sent (length whole))
          (flights_stay log whole item frames.frames are.each) (subst New number (new_flight log whole n bytes numbered next));
    }

-- which frames are left when one is taken, or none
taken_frames : (frames : OutstandingValue) (n : ℕ) (place : Option ℕ)
    → (option_map_or (λ at. record frames { frames = remove frames.frames at }) place frames).frames
    ≡ option_map_or (remove frames.frames) place frames.frames
taken_frames frames n None = refl
taken_frames frames n (Some at) = refl

-- as many were sent as before
taken_sent : (frames : OutstandingValue) (place : Option ℕ)
    → (option_map_or (λ at. record frames { frames = remove frames.frames at }) place frames).sent ≡ frames.sent
taken_sent frames None = refl
taken_sent frames (Some at) = refl

-- one frame that is taken goes
taken_push : (log whole : List Record) (frames : OutstandingValue) (n : ℕ) → IsNumbered log → NumbersOn log (Taken n ∷ [])
    → AllPairs (λ a b. a.number < b.number) frames.frames
    → AreFlights log whole frames → AreFlights (log ++ Taken n ∷ []) (whole ++ Taken n ∷ []) (followed frames (length whole) (Taken n))
unfolding followed sent_number taken_number
taken_push log whole frames n numbered on ascending are =
    let item = Taken n in
    let new = log ++ item ∷ [] in
    let place = place_of_number frames.frames n in
    let left = filter (λ f. not (f.number == n)) frames.frames in
    let is : (taken_by_number frames n).frames ≡ left = taken_frames frames n place
    ∙ take_first (λ f. f.number == n) frames.frames (ascending_one n frames.frames ascending) in
    record {
      sent = taken_sent frames place ∙ are.sent ∙ sym (one_more_record_holds.sent log item ∙ (omega arith));
      numbers = ap flight_numbers is ∙ numbers_left n frames.frames
          ∙ ap (λ l. numbers_less l (n ∷ [])) are.numbers
          ∙ sym (append-nil (numbers_less (outstanding log) (n ∷ [])))
          ∙ sym (outstanding-group log (item ∷ []) numbered on);
      each = subst (All (IsFlight new (whole ++ item ∷ []))) (sym is) (All-filter (λ f. not (f.number == n)) (IsFlight new (whole ++ item ∷ [])) frames.frames
          (flights_stay log whole item frames.frames are.each));
    }

-- of any other record the frames stay
other_push : (log whole : List Record) (frames : OutstandingValue) (item : Record) → sent_number item ≡ None → taken_number item ≡ None
    → IsNumbered log → NumbersOn log (item ∷ []) → AreFlights log whole frames → AreFlights (log ++ item ∷ []) (whole ++ item ∷ []) frames
other_push log whole frames item no_sent no_taken numbered on are =
    let Numbers : Option ℕ → Option ℕ → List ℕ = λ t s. numbers_less (outstanding log) (at_most_one t) ++ at_most_one s in
    record {
      sent = are.sent
          ∙ sym (one_more_record_holds.sent log item ∙ ap (λ o. sent_count log + length (at_most_one o)) no_sent ∙ (omega arith));
      numbers = are.numbers ∙ sym (outstanding-group log (item ∷ []) numbered on
          ∙ ap (λ t. Numbers t (sent_number item)) no_taken
          ∙ ap (Numbers None) no_sent
          ∙ append-nil (numbers_less (outstanding log) [])
          ∙ less_by-none nat_eq (outstanding log));
      each = flights_stay log whole item frames.frames are.each;
    }

-- which frames are outstanding after one more record
pub flights_push : (log whole : List Record) (frames : OutstandingValue) (item : Record) → IsNumbered log → NumbersOn log (item ∷ [])
    → AllPairs (λ a b. a.number < b.number) frames.frames
    → AreFlights log whole frames → AreFlights (log ++ item ∷ []) (whole ++ item ∷ []) (followed frames (length whole) item)
unfolding followed sent_number taken_number
flights_push log whole frames (Sent n bytes) numbered on ascending are = sent_push log whole frames n bytes numbered on are
flights_push log whole frames (Taken n) numbered on ascending are = taken_push log whole frames n numbered on ascending are
flights_push log whole frames item numbered on ascending are = other_push log whole frames item refl refl numbered on are

-- a remark leaves them as they are
pub flights_remark : (log whole : List Record) (frames : OutstandingValue) (item : Record) → AreFlights log whole frames
    → AreFlights log (whole ++ item ∷ []) frames
flights_remark log whole frames item are = record {
  sent = are.sent;
  numbers = are.numbers;
  each = λ k d within. let is = are.each k d within in record {
    bytes = is.bytes;
    there = get_more whole (item ∷ []) (get_or frames.frames k d).record_place (Sent (get_or frames.frames k d).number is.bytes) is.there;
    are = is.are;
  };
}
