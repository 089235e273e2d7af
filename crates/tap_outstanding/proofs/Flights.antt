-- The frames that places of records and marks stand for: their number, the frame at a place, the place of a number, and what stays if
-- one is taken and one is sent.
use Rattle.std.proofs.Common.{◌≡◌, ℕ, zero, suc, ◌==◌, ◌+◌, ◌<◌, ◌≤◌, true, false, nat_lt, List, [], ◌∷◌, ◌++◌, length, take, drop, get_or, set, All, AllPairs, None, Some, slice_get, refl, sym, ap, ◌∙◌, inl, inr, arith}
use Rattle.std.specs.List.{sum, position_or_len, remove}
use Rattle.std.proofs.lemmas.Bool.{ne_eqb, lt-ltb, le-ltb}
use Rattle.std.proofs.lemmas.Bool.Decides.{eqb_tells}
use Rattle.std.proofs.lemmas.List.{take_all, drop_all, append-nil}
use Rattle.std.proofs.lemmas.List.Sums.{sum_by_more_le}
use Rattle.tap_outstanding.specs.declared.outstanding.Flight.{Flight}
use Rattle.tap_outstanding.specs.Levels.{sum_before}
use Rattle.tap_outstanding.specs.Outstanding.{frame_with, flights_from, place_of_number, AreOutstanding}
use Rattle.tap_outstanding.proofs.Sums.{sum-cons}

-- marks are 1 or 0
abbrev pub AreMarks : List ℕ → Type 0
AreMarks marks = All (λ m. m ≤ 1) marks

later : (mark : ℕ) (marks : List ℕ) → AreMarks (mark ∷ marks) → AreMarks marks
later mark marks are k d within = are (suc k) d (omega arith)

-- of marks whose first is 1, and 0
marked-first : (mark k : ℕ) (marks : List ℕ) → AreMarks (suc mark ∷ marks)
    → sum_before (suc mark ∷ marks) (suc k) ≡ suc (sum_before marks k)
marked-first mark k marks are =
    let one : suc mark ≤ 1 = are 0 0 (omega arith) in
    omega (arith, sum-cons (suc mark) (take k marks))

unmarked-first : (k : ℕ) (marks : List ℕ) → sum_before (0 ∷ marks) (suc k) ≡ sum_before marks k
unmarked-first k marks = omega (arith, sum-cons 0 (take k marks))

pub length-flights : (n : ℕ) (places marks : List ℕ) → length places ≡ length marks → AreMarks marks
    → length (flights_from n places marks) ≡ sum marks
length-flights n [] [] size are = refl
length-flights n [] (mark ∷ marks) size are = absurd (omega arith)
length-flights n (place ∷ places) [] size are = absurd (omega arith)
length-flights n (place ∷ places) (zero ∷ marks) size are =
    omega (arith, length-flights (suc n) places marks (omega arith) (later 0 marks are), sum-cons 0 marks)
length-flights n (place ∷ places) (suc mark ∷ marks) size are =
    let one : suc mark ≤ 1 = are 0 0 (omega arith) in
    omega (arith, length-flights (suc n) places marks (omega arith) (later (suc mark) marks are), sum-cons (suc mark) marks)

pub frame-at : (n number k d : ℕ) (places marks : List ℕ) → length places ≡ length marks → AreMarks marks → number ≡ n + k
    → get_or marks k 0 ≡ 1
    → slice_get (flights_from n places marks) (sum_before marks k) ≡ Some (frame_with number (get_or places k d))
frame-at n number k d [] [] size are is mark = cc
frame-at n number k d [] (m ∷ marks) size are is mark = absurd (omega arith)
frame-at n number k d (place ∷ places) [] size are is mark = absurd (omega arith)
frame-at n number zero d (place ∷ places) (zero ∷ marks) size are is mark = cc
frame-at n number zero d (place ∷ places) (suc m ∷ marks) size are is mark =
    let e : n ≡ number = omega arith in ap (λ (x : ℕ). Some (frame_with x place)) e
frame-at n number (suc k) d (place ∷ places) (zero ∷ marks) size are is mark =
    ap (λ (i : ℕ). slice_get (flights_from (suc n) places marks) i) (unmarked-first k marks)
    ∙ frame-at (suc n) number k d places marks (omega arith) (later 0 marks are) (omega arith) mark
frame-at n number (suc k) d (place ∷ places) (suc m ∷ marks) size are is mark =
    ap (λ (i : ℕ). slice_get (frame_with n place ∷ flights_from (suc n) places marks) i) (marked-first m k marks are)
    ∙ frame-at (suc n) number k d places marks (omega arith) (later (suc m) marks are) (omega arith) mark

pub flights-taken : (n k : ℕ) (places marks : List ℕ) → length places ≡ length marks → AreMarks marks → get_or marks k 0 ≡ 1
    → flights_from n places (set marks k 0) ≡ remove (flights_from n places marks) (sum_before marks k)
flights-taken n k [] [] size are mark = cc
flights-taken n k [] (m ∷ marks) size are mark = absurd (omega arith)
flights-taken n k (place ∷ places) [] size are mark = absurd (omega arith)
flights-taken n zero (place ∷ places) (zero ∷ marks) size are mark = cc
flights-taken n zero (place ∷ places) (suc m ∷ marks) size are mark = refl
flights-taken n (suc k) (place ∷ places) (zero ∷ marks) size are mark =
    flights-taken (suc n) k places marks (omega arith) (later 0 marks are) mark
    ∙ ap (λ (i : ℕ). remove (flights_from (suc n) places marks) i) (sym (unmarked-first k marks))
flights-taken n (suc k) (place ∷ places) (suc m ∷ marks) size are mark =
    ap (λ (rest : List Flight). frame_with n place ∷ rest)
    (flights-taken (suc n) k places marks (omega arith) (later (suc m) marks are) mark)
    ∙ ap (λ (i : ℕ). remove (frame_with n place ∷ flights_from (suc n) places marks) i) (sym (marked-first m k marks are))

pub flights-sent : (n number : ℕ) (places marks : List ℕ) (place : ℕ) → length places ≡ length marks → number ≡ n + length places
    → flights_from n (places ++ place ∷ []) (marks ++ 1 ∷ []) ≡ flights_from n places marks ++ frame_with number place ∷ []
flights-sent n number [] [] place size is = let e : n ≡ number = omega arith in ap (λ (x : ℕ). frame_with x place ∷ []) e
flights-sent n number [] (m ∷ marks) place size is = absurd (omega arith)
flights-sent n number (p ∷ places) [] place size is = absurd (omega arith)
flights-sent n number (p ∷ places) (zero ∷ marks) place size is = flights-sent (suc n) number places marks place (omega arith) (omega arith)
flights-sent n number (p ∷ places) (suc m ∷ marks) place size is =
    ap (λ (rest : List Flight). frame_with n p ∷ rest) (flights-sent (suc n) number places marks place (omega arith) (omega arith))

-- each frame's number is within the range of the numbers
pub numbers-within : (n : ℕ) (places marks : List ℕ)
    → All (λ f. (n ≤ f.number) × (f.number < n + length places)) (flights_from n places marks)
numbers-within n [] marks k d within = absurd (omega arith)
numbers-within n (place ∷ places) [] k d within = absurd (omega arith)
numbers-within n (place ∷ places) (zero ∷ marks) k d within =
    let h = numbers-within (suc n) places marks k d within in (omega (arith, h.0), omega (arith, h.1))
numbers-within n (place ∷ places) (suc m ∷ marks) zero d within = (omega arith, omega arith)
numbers-within n (place ∷ places) (suc m ∷ marks) (suc k) d within =
    let h = numbers-within (suc n) places marks k d (omega arith) in (omega (arith, h.0), omega (arith, h.1))

numbers-ascend : (n : ℕ) (places marks : List ℕ) → AllPairs (λ a b. a.number < b.number) (flights_from n places marks)
numbers-ascend n [] marks i j d lt within = absurd (omega arith)
numbers-ascend n (place ∷ places) [] i j d lt within = absurd (omega arith)
numbers-ascend n (place ∷ places) (zero ∷ marks) i j d lt within = numbers-ascend (suc n) places marks i j d lt within
numbers-ascend n (place ∷ places) (suc m ∷ marks) zero zero d lt within = absurd (omega arith)
numbers-ascend n (place ∷ places) (suc m ∷ marks) zero (suc j) d lt within =
    let h = numbers-within (suc n) places marks j d (omega arith) in omega (arith, h.0)
numbers-ascend n (place ∷ places) (suc m ∷ marks) (suc i) zero d lt within = absurd (omega arith)
numbers-ascend n (place ∷ places) (suc m ∷ marks) (suc i) (suc j) d lt within =
    numbers-ascend (suc n) places marks i j d (omega arith) (omega arith)

pub flights-outstanding : (sent room : ℕ) (places marks : List ℕ) → length places ≡ sent
    → AreOutstanding (record { sent = sent; frames = flights_from 0 places marks; room = room })
flights-outstanding sent room places marks size = record {
  ascending = numbers-ascend 0 places marks;
  given = λ k d within. let h = numbers-within 0 places marks k d within in omega (arith, h.1);
}

-- the place of a number that is marked, and that another one has none
place-marked : (n number k : ℕ) (places marks : List ℕ) → length places ≡ length marks → AreMarks marks → number ≡ n + k
    → get_or marks k 0 ≡ 1 → position_or_len (λ f. f.number == number) (flights_from n places marks) ≡ sum_before marks k
place-marked n number k [] [] size are is mark = cc
place-marked n number k [] (m ∷ marks) size are is mark = absurd (omega arith)
place-marked n number k (place ∷ places) [] size are is mark = absurd (omega arith)
place-marked n number zero (place ∷ places) (zero ∷ marks) size are is mark = cc
place-marked n number zero (place ∷ places) (suc m ∷ marks) size are is mark = elim (eqb_tells n number) [
  | inl (same, e) ↦ rw same refl
  | inr (other, ne) ↦ absurd (ne (omega arith))
]
place-marked n number (suc k) (place ∷ places) (zero ∷ marks) size are is mark =
    place-marked (suc n) number k places marks (omega arith) (later 0 marks are) (omega arith) mark ∙ sym (unmarked-first k marks)
place-marked n number (suc k) (place ∷ places) (suc m ∷ marks) size are is mark =
    let other : (n == number) ≡ false = ne_eqb n number (λ e. absurd (omega arith)) in
    let rest = place-marked (suc n) number k places marks (omega arith) (later (suc m) marks are) (omega arith) mark in
    rw other (omega (arith, rest, marked-first m k marks are))

place-passed : (n number : ℕ) (places marks : List ℕ) → number < n
    → position_or_len (λ f. f.number == number) (flights_from n places marks) ≡ length (flights_from n places marks)
place-passed n number [] marks lt = refl
place-passed n number (place ∷ places) [] lt = refl
place-passed n number (place ∷ places) (zero ∷ marks) lt = place-passed (suc n) number places marks (omega arith)
place-passed n number (place ∷ places) (suc m ∷ marks) lt =
    let other : (n == number) ≡ false = ne_eqb n number (λ e. absurd (omega arith)) in
    rw other (omega (arith, place-passed (suc n) number places marks (omega arith)))

place-unmarked : (n number k : ℕ) (places marks : List ℕ) → number ≡ n + k → get_or marks k 0 ≡ 0
    → position_or_len (λ f. f.number == number) (flights_from n places marks) ≡ length (flights_from n places marks)
place-unmarked n number k [] marks is mark = refl
place-unmarked n number k (place ∷ places) [] is mark = refl
place-unmarked n number zero (place ∷ places) (zero ∷ marks) is mark = place-passed (suc n) number places marks (omega arith)
place-unmarked n number zero (place ∷ places) (suc m ∷ marks) is mark = cc
place-unmarked n number (suc k) (place ∷ places) (zero ∷ marks) is mark = place-unmarked (suc n) number k places marks (omega arith) mark
place-unmarked n number (suc k) (place ∷ places) (suc m ∷ marks) is mark =
    let other : (n == number) ≡ false = ne_eqb n number (λ e. absurd (omega arith)) in
    rw other (omega (arith, place-unmarked (suc n) number k places marks (omega arith) mark))

pub place-found : (number : ℕ) (places marks : List ℕ) → length places ≡ length marks → AreMarks marks → number < length marks
    → get_or marks number 0 ≡ 1 → place_of_number (flights_from 0 places marks) number ≡ Some (sum_before marks number)
place-found number places marks size are within mark =
    let at = place-marked 0 number number places marks size are (omega arith) mark in
    let more = sum_by_more_le (λ (x : ℕ). x) marks number 0 within in
    let long = length-flights 0 places marks size are in
    let inside : nat_lt (sum_before marks number) (length (flights_from 0 places marks)) ≡ true =
    lt-ltb _ _ (omega (arith, more, long, mark)) in
    rw (at, inside) refl

pub place-absent : (number : ℕ) (places marks : List ℕ) → get_or marks number 0 ≡ 0
    → place_of_number (flights_from 0 places marks) number ≡ None
place-absent number places marks mark =
    let at = place-unmarked 0 number number places marks (omega arith) mark in
    let outside : nat_lt (length (flights_from 0 places marks)) (length (flights_from 0 places marks)) ≡ false = le-ltb _ _ (omega arith) in
    rw (at, outside) refl

-- what is found by the number of a mark
pub frame-found : (number place d : ℕ) (places marks : List ℕ) → length places ≡ length marks → AreMarks marks
    → get_or marks number 0 ≡ 1 → sum_before marks number ≡ place
    → slice_get (flights_from 0 places marks) place ≡ Some (frame_with number (get_or places number d))
frame-found number place d places marks size are mark before =
    ap (λ (i : ℕ). slice_get (flights_from 0 places marks) i) (sym before)
    ∙ frame-at 0 number number d places marks size are (omega arith) mark

pub flights-without : (number place : ℕ) (places marks : List ℕ) → length places ≡ length marks → AreMarks marks
    → get_or marks number 0 ≡ 1 → sum_before marks number ≡ place
    → flights_from 0 places (set marks number 0) ≡ remove (flights_from 0 places marks) place
flights-without number place places marks size are mark before =
    flights-taken 0 number places marks size are mark ∙ ap (λ (i : ℕ). remove (flights_from 0 places marks) i) before

pub remove-past : {X : Type 0} (xs : List X) (i : ℕ) → length xs ≤ i → remove xs i ≡ xs
remove-past xs i le =
    let front : take i xs ≡ xs = take_all i xs le in
    let back : drop (suc i) xs ≡ [] = drop_all (suc i) xs (omega arith) in
    rw (front, back) (append-nil xs)
