-- What sending, taking and asking for room keep of the fields, and what they make of the value.
use Rattle.std.proofs.Common.{◌≡◌, ℕ, ◌==◌, ◌+◌, ◌-◌, ◌≤◌, false, if◌then◌else◌, List, [], ◌∷◌, ◌++◌, length, get_or, set, Vec, Option, None, Some, refl, sym, ap, subst, ◌∙◌, inl, inr, arith, length-append}
use Rattle.std.specs.List.{sum, remove}
use Rattle.std.specs.Option.{SomeIff}
use Rattle.std.specs.Vec.{vec_len, vec_capacity}
use Rattle.std.proofs.lemmas.Bool.{eqb-false, cases_order}
use Rattle.std.proofs.lemmas.Bool.Decides.{eqb_tells}
use Rattle.std.proofs.lemmas.List.{length-set, get_or_past}
use Rattle.std.proofs.lemmas.List.Sums.{sum_by-set, sum_by_push}
use Rattle.tap_outstanding.specs.declared.outstanding.Flight.{Flight}
use Rattle.tap_outstanding.specs.Levels.{sum_before, vector_lists, IsTower, HaveRoom}
use Rattle.tap_outstanding.specs.Outstanding.{OutstandingValue, frame_with, flights_from}
use Rattle.tap_outstanding.specs.KeptMarks.{MarksAreKept, AreTakenBefore}
use Rattle.tap_outstanding.proofs.Sums.{sum-cleared, sum-pushed}
use Rattle.tap_outstanding.proofs.Towers.{marked, mark-within, same-tower}
use Rattle.tap_outstanding.proofs.Flights.{AreMarks, length-flights, flights-sent, flights-without, remove-past}

abbrev pub value_of : ℕ → List Flight → ℕ → OutstandingValue
value_of sent frames room = record { sent = sent; frames = frames; room = room }

module _ {A : Type 0} (records marks : Vec ℕ A) (sums : List (Vec ℕ A)) (count room : ℕ) (kept : MarksAreKept records marks sums count room) where
  -- as many places of records as marks, and as many frames as are counted
  pub kept-size : length records.items ≡ length marks.items
  kept-size =
      let long = records.ok.0 in
      let long' = marks.ok.0 in
      let size = kept.size in
      omega (arith, long, long', size)

  pub kept-count : count ≡ length (flights_from 0 records.items marks.items)
  kept-count = kept.counted ∙ sym (length-flights 0 records.items marks.items kept-size kept.tower.ones)

  pub kept-few : count ≤ vec_len records
  kept-few =
      let counted = kept.counted in
      let long = marks.ok.0 in
      let size = kept.size in
      omega (arith, counted, long, size, marked marks.items sums kept.tower)

  pub kept-sent : (records' marks' : Vec ℕ A) (sums' : List (Vec ℕ A)) → 1 ≤ room → IsTower marks'.items sums'
      → marks'.items ≡ marks.items ++ 1 ∷ [] → ((r : ℕ) → HaveRoom sums (r + 1) → HaveRoom sums' r)
      → vec_len marks' ≡ vec_len marks + 1 → vec_capacity marks' ≡ vec_capacity marks
      → vec_len records' ≡ vec_len records + 1 → vec_capacity records' ≡ vec_capacity records
      → MarksAreKept records' marks' sums' (count + 1) (room - 1)
  kept-sent records' marks' sums' some tower added rooms len_marks capacity_marks len capacity =
      let size = kept.size in
      let counted = kept.counted in
      let spare = kept.spare in
      let spare_marks = kept.spare_marks in
      let e : room ≡ room - 1 + 1 = omega arith in
      let more = ap (λ (xs : List ℕ). sum xs) added in
      record {
        tower = tower;
        size = omega (arith, size, len, len_marks);
        counted = omega (arith, more, counted, sum_by_push (λ (x : ℕ). x) marks.items 1);
        spare = omega (arith, len, capacity, spare, some);
        spare_marks = omega (arith, len_marks, capacity_marks, spare_marks, some);
        spares = rooms (room - 1) (subst (λ (r : ℕ). HaveRoom sums r) e kept.spares);
      }

  pub kept-taken : (marks' : Vec ℕ A) (sums' : List (Vec ℕ A)) (number : ℕ) → get_or marks.items number 0 ≡ 1
      → IsTower marks'.items sums' → marks'.items ≡ set marks.items number 0 → vec_len marks' ≡ vec_len marks
      → vec_capacity marks' ≡ vec_capacity marks → ((r : ℕ) → HaveRoom sums r → HaveRoom sums' r)
      → MarksAreKept records marks' sums' (count - 1) room
  kept-taken marks' sums' number mark tower lowered len capacity rooms =
      let size = kept.size in
      let counted = kept.counted in
      let spare_marks = kept.spare_marks in
      let less = ap (λ (xs : List ℕ). sum xs) lowered in
      let within = mark-within marks.items number mark in
      record {
        tower = tower;
        size = omega (arith, size, len);
        counted = omega (arith, less, counted, mark, sum_by-set (λ (x : ℕ). x) marks.items number 0 0 within);
        spare = kept.spare;
        spare_marks = omega (arith, len, capacity, spare_marks);
        spares = rooms room kept.spares;
      }

  -- what stands if room was asked for, and refused in the end
  pub kept-asked : (records' marks' : Vec ℕ A) (sums' : List (Vec ℕ A)) → vec_len records' ≡ vec_len records
      → vec_capacity records ≤ vec_capacity records' → marks'.items ≡ marks.items → vec_len marks' ≡ vec_len marks
      → vec_capacity marks ≤ vec_capacity marks' → vector_lists sums' ≡ vector_lists sums
      → ((r : ℕ) → HaveRoom sums r → HaveRoom sums' r) → MarksAreKept records' marks' sums' count room
  kept-asked records' marks' sums' len capacity first len_marks capacity_marks same rooms =
      let size = kept.size in
      let spare = kept.spare in
      let spare_marks = kept.spare_marks in
      record {
        tower = same-tower marks.items marks'.items sums sums' first same kept.tower;
        size = omega (arith, size, len, len_marks);
        counted = kept.counted ∙ ap (λ (xs : List ℕ). sum xs) (sym first);
        spare = omega (arith, len, capacity, spare);
        spare_marks = omega (arith, len_marks, capacity_marks, spare_marks);
        spares = rooms room kept.spares;
      }

  -- the value after a frame is sent, and after one is taken
  pub value-sent : (records' : Vec ℕ A) (marks' : List ℕ) (place left : ℕ) → records'.items ≡ records.items ++ place ∷ []
      → vec_len records' ≡ vec_len records + 1 → marks' ≡ marks.items ++ 1 ∷ []
      → value_of (vec_len records') (flights_from 0 records'.items marks') left
      ≡ value_of (vec_len records + 1) (flights_from 0 records.items marks.items ++ frame_with (vec_len records) place ∷ []) left
  value-sent records' marks' place left items len same =
      let long = records.ok.0 in
      let frames : flights_from 0 records'.items marks'
      ≡ flights_from 0 records.items marks.items ++ frame_with (vec_len records) place ∷ [] =
      ap (λ (xs : List ℕ). flights_from 0 xs marks') items
      ∙ ap (λ (ms : List ℕ). flights_from 0 (records.items ++ place ∷ []) ms) same
      ∙ flights-sent 0 (vec_len records) records.items marks.items place kept-size (omega (arith, long)) in
      ap (λ (n : ℕ). value_of n (flights_from 0 records'.items marks') left) len
      ∙ ap (λ (fs : List Flight). value_of (vec_len records + 1) fs left) frames

  pub value-taken : (marks' : List ℕ) (number place : ℕ) → marks' ≡ set marks.items number 0
      → get_or marks.items number 0 ≡ 1 → sum_before marks.items number ≡ place
      → value_of (vec_len records) (flights_from 0 records.items marks') room
      ≡ value_of (vec_len records) (remove (flights_from 0 records.items marks.items) place) room
  value-taken marks' number place same mark before =
      ap (λ (ms : List ℕ). value_of (vec_len records) (flights_from 0 records.items ms) room) same
      ∙ ap (λ (fs : List Flight). value_of (vec_len records) fs room)
      (flights-without number place records.items marks.items kept-size kept.tower.ones mark before)

-- nothing is taken from a place that is past the last one
pub value-same : (s : OutstandingValue) (place : ℕ) → length s.frames ≤ place → s ≡ record s { frames = remove s.frames place }
value-same s place le = ap (λ (fs : List Flight). value_of s.sent fs s.room) (sym (remove-past s.frames place le))

pub newest-of : (r : Option ℕ) (count n : ℕ) → count ≡ n → SomeIff r (1 ≤ count) (count - 1)
    → r ≡ (if n == 0 then None else Some (n - 1))
newest-of None count n is h = elim (eqb_tells n 0) [
  | inl (same, e) ↦ rw same refl
  | inr (other, ne) ↦ absurd (h (omega arith))
]
newest-of (Some x) count n is h = elim (eqb_tells n 0) [
  | inl (same, e) ↦ let low = h.0 in absurd (omega (arith, low))
  | inr (other, ne) ↦ let value : x ≡ n - 1 = omega (arith, h.1) in rw other (ap (λ (k : ℕ). Some k) value)
]

-- a mark that isn't 1 is 0
pub unmarked : (marks : List ℕ) (number : ℕ) → AreMarks marks → (get_or marks number 0 == 1) ≡ false → get_or marks number 0 ≡ 0
unmarked marks number are other =
    let ne = eqb-false (get_or marks number 0) 1 other in
    elim (cases_order number (length marks)) [
      | inl e ↦ get_or_past marks number 0 (omega arith)
      | inr (inl within) ↦ let most = are number 0 within in omega (arith, most, ne)
      | inr (inr past) ↦ get_or_past marks number 0 (omega arith)
    ]

-- before a number all frames stay taken, if one is sent, and if one is taken
pub taken-sent : (marks marks' : List ℕ) (low : ℕ) → marks' ≡ marks ++ 1 ∷ [] → AreTakenBefore marks low → AreTakenBefore marks' low
taken-sent marks marks' low is taken =
    let within = taken.within in
    let long = ap (λ (xs : List ℕ). length xs) is in
    record {
      within = omega (arith, within, long, length-append marks (1 ∷ []));
      none = ap (λ (xs : List ℕ). sum_before xs low) is ∙ sum-pushed marks (1 ∷ []) low within ∙ taken.none;
    }

pub taken-less : (marks marks' : List ℕ) (number low : ℕ) → marks' ≡ set marks number 0 → AreTakenBefore marks low
    → AreTakenBefore marks' low
taken-less marks marks' number low is taken =
    let within = taken.within in
    let none = taken.none in
    let long = ap (λ (xs : List ℕ). length xs) is in
    let sums = ap (λ (xs : List ℕ). sum_before xs low) is in
    record {
      within = omega (arith, within, long, length-set marks number 0);
      none = omega (arith, none, sums, sum-cleared marks number low);
    }

pub taken-further : (marks : List ℕ) (low next : ℕ) → next ≤ length marks → sum_before marks next ≡ sum_before marks low
    → AreTakenBefore marks low → AreTakenBefore marks next
taken-further marks low next within same taken = record { within = within; none = same ∙ taken.none }

pub taken-same : (marks marks' : List ℕ) (low : ℕ) → marks' ≡ marks → AreTakenBefore marks low → AreTakenBefore marks' low
taken-same marks marks' low is taken = subst (λ (xs : List ℕ). AreTakenBefore xs low) (sym is) taken
