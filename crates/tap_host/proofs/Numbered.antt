-- Frames that are kept by their numbers: what a number finds, and which stay.
use Rattle.std.proofs.Common.{◌≡◌, ℕ, zero, suc, ◌+◌, ◌<◌, ◌≤◌, Bool, true, false, cond, List, [], ◌∷◌, ◌++◌, drop, length, map, get_or, nat_eq, All, AllPairs, None, Some, Result, Ok, Err, refl, sym, subst, ap, ap₂, ◌∙◌, unwrap_or, inl, inr, arith}
use Rattle.std.specs.List.Sorted.{IsBinarySearchResult, IsNonDecreasingBy}
use Rattle.std.specs.Map.{lookup}
use Rattle.std.specs.Ordering.{nat_cmp, ordering_index}
use Rattle.std.specs.declared.cmp.Ordering.TheVariants.{Equal, Greater, Less}
use Rattle.std.proofs.lemmas.Bool.{cases_lt, eqb-true, eq-eqb}
use Rattle.std.proofs.lemmas.Bool.Decides.{nat_tests}
use Rattle.std.proofs.lemmas.List.{append-nil, drop_all}
use Rattle.std.proofs.lemmas.List.Elements.{All-head, All-tail}
use Rattle.std.proofs.lemmas.List.Kept.{AllPairs-cons}
use Rattle.tap_carry.specs.declared.outbox.Await.{Await}
use Rattle.tap_host.specs.Mail.{AreNumbered, Letter, frame_at, letter_in}

abbrev pub Frames : Type 0
Frames = List (ℕ × List ℕ)

abbrev pub Ascend : Frames → Type 0
Ascend frames = AllPairs (λ a b. a.0 < b.0) frames

above : (m n : ℕ) → m < n → nat_eq n m ≡ false
above m n less = grind (arith, nat_tests)

below : (m n : ℕ) → m < n → nat_eq m n ≡ false
below m n less = grind (arith, nat_tests)

-- ---- one more is kept

pub other_last : (frames : Frames) (number q : ℕ) (frame : List ℕ) → q < number
    → lookup (nat_eq q) (frames ++ (number, frame) ∷ []) ≡ lookup (nat_eq q) frames
other_last [] number q frame less = ap (λ t. cond t (Some frame) None) (below q number less)
other_last (f ∷ fs) number q frame less = ap (λ o. cond (nat_eq q f.0) (Some f.1) o) (other_last fs number q frame less)

pub own_last : (frames : Frames) (number : ℕ) (frame : List ℕ) → All (λ a. a.0 < number) frames
    → lookup (nat_eq number) (frames ++ (number, frame) ∷ []) ≡ Some frame
own_last [] number frame less = ap (λ t. cond t (Some frame) None) (eq-eqb number number refl)
own_last (f ∷ fs) number frame less =
    ap (λ t. cond t (Some f.1) (lookup (nat_eq number) (fs ++ (number, frame) ∷ [])))
    (above f.0 number (All-head (λ a. a.0 < number) f fs less))
    ∙ own_last fs number frame (All-tail (λ a. a.0 < number) f fs less)

-- ---- a search by halves

found_here : (frames : Frames) (at number : ℕ) (d : ℕ × List ℕ) → Ascend frames → at < length frames → (get_or frames at d).0 ≡ number
    → lookup (nat_eq number) frames ≡ Some (get_or frames at d).1
found_here [] at number d ascend within is = absurd (omega arith)
found_here (f ∷ fs) zero number d ascend within is =
    ap (λ t. cond t (Some f.1) (lookup (nat_eq number) fs)) (eq-eqb number f.0 (sym is))
found_here (f ∷ fs) (suc at) number d ascend within is =
    let less : f.0 < number = subst (λ n. f.0 < n) is (ascend 0 (suc at) d (omega arith) within) in
    ap (λ t. cond t (Some f.1) (lookup (nat_eq number) fs)) (above f.0 number less)
    ∙ found_here fs at number d (λ i j x lt inside. ascend (suc i) (suc j) x (omega arith) (omega arith)) (omega arith) is

found_nowhere : (frames : Frames) (number : ℕ) → All (λ f. nat_eq number f.0 ≡ false) frames → lookup (nat_eq number) frames ≡ None
found_nowhere [] number others = refl
found_nowhere (f ∷ fs) number others =
    ap (λ t. cond t (Some f.1) (lookup (nat_eq number) fs)) (All-head (λ f. nat_eq number f.0 ≡ false) f fs others)
    ∙ found_nowhere fs number (All-tail (λ f. nat_eq number f.0 ≡ false) f fs others)

equal_is : (a n : ℕ) → nat_cmp a n ≡ Equal → a ≡ n
equal_is a n e = grind (arith, nat_tests)

less_apart : (a n : ℕ) → nat_cmp a n ≡ Less → nat_eq n a ≡ false
less_apart a n e = grind (arith, nat_tests)

greater_apart : (a n : ℕ) → nat_cmp a n ≡ Greater → nat_eq n a ≡ false
greater_apart a n e = grind (arith, nat_tests)

rising : (a b n : ℕ) → a < b → ordering_index (nat_cmp a n) ≤ ordering_index (nat_cmp b n)
rising a b n h = grind (arith, nat_tests)

rises : (frames : Frames) (number : ℕ) → Ascend frames → IsNonDecreasingBy (λ y. ordering_index (nat_cmp y.0 number)) frames
rises frames number ascend i j d le lt =
    elim (cases_lt i j) [
      | inl below ↦ rising (get_or frames i d).0 (get_or frames j d).0 number (ascend i j d below lt)
      | inr at ↦ let same : i ≡ j = omega arith in rw same (omega arith)
    ]

abbrev Searched : Frames → ℕ → Result ℕ ℕ → Type 0
Searched frames number answer = IsBinarySearchResult (λ y. nat_cmp y.0 number) frames answer

pub at_place : (frames : Frames) (number at : ℕ) (d : ℕ × List ℕ) → Ascend frames → at < length frames → Searched frames number (Ok at)
    → (get_or frames at d).1 ≡ frame_at frames number
at_place frames number at d ascend within found =
    sym (ap (λ o. unwrap_or o []) (found_here frames at number d ascend within (equal_is (get_or frames at d).0 number (found d))))

pub at_none : (frames : Frames) (number at : ℕ) → Ascend frames → Searched frames number (Err at) → [] ≡ frame_at frames number
at_none frames number at ascend found =
    let parted = found (rises frames number ascend) in
    sym (ap (λ o. unwrap_or o []) (found_nowhere frames number (λ k d within. elim (cases_lt k at) [
      | inl under ↦ less_apart (get_or frames k d).0 number (parted.0 k d (omega arith) under)
      | inr over ↦ greater_apart (get_or frames k d).0 number (parted.1 k d over within)
    ])))

-- ---- those that await are kept

abbrev pub kept_frame : Frames → Await → ℕ × List ℕ
kept_frame frames item = (item.frame, frame_at frames item.frame)

abbrev pub kept_of : Frames → List Await → Frames
kept_of frames awaits = map (kept_frame frames) awaits

found_kept : (frames : Frames) (awaits : List Await) (k : ℕ) (d : Await) → k < length awaits
    → lookup (nat_eq (get_or awaits k d).frame) (kept_of frames awaits) ≡ Some (frame_at frames (get_or awaits k d).frame)
found_kept frames [] k d within = absurd (omega arith)
found_kept frames (a ∷ rest) zero d within =
    ap (λ t. cond t (Some (frame_at frames a.frame)) (lookup (nat_eq a.frame) (kept_of frames rest))) (eq-eqb a.frame a.frame refl)
found_kept frames (a ∷ rest) (suc k) d within = by (nat_eq (get_or rest k d).frame a.frame) refl (found_kept frames rest k d (omega arith))
  where
    by : (same : Bool) → nat_eq (get_or rest k d).frame a.frame ≡ same
        → lookup (nat_eq (get_or rest k d).frame) (kept_of frames rest) ≡ Some (frame_at frames (get_or rest k d).frame)
        → cond same (Some (frame_at frames a.frame)) (lookup (nat_eq (get_or rest k d).frame) (kept_of frames rest))
        ≡ Some (frame_at frames (get_or rest k d).frame)
    by true is later = ap (λ n. Some (frame_at frames n)) (sym (eqb-true (get_or rest k d).frame a.frame is))
    by false is later = later

letters_of_kept : (frames kept : Frames) (awaits : List Await)
    → All (λ a. lookup (nat_eq a.frame) kept ≡ Some (frame_at frames a.frame)) awaits
    → map (letter_in kept) awaits ≡ map (letter_in frames) awaits
letters_of_kept frames kept [] found = refl
letters_of_kept frames kept (a ∷ rest) found =
    ap₂ (λ (l : Letter) ls. l ∷ ls)
    (ap (λ o. record { to = a.to; seq = a.seq; frame = unwrap_or o [] })
    (All-head (λ a. lookup (nat_eq a.frame) kept ≡ Some (frame_at frames a.frame)) a rest found))
    (letters_of_kept frames kept rest (All-tail (λ a. lookup (nat_eq a.frame) kept ≡ Some (frame_at frames a.frame)) a rest found))

pub letters_kept : (frames : Frames) (awaits : List Await) → map (letter_in (kept_of frames awaits)) awaits ≡ map (letter_in frames) awaits
letters_kept frames awaits = letters_of_kept frames (kept_of frames awaits) awaits (found_kept frames awaits)

all_kept : (P : ℕ → Type 0) (frames : Frames) (awaits : List Await) → All (λ a. P a.frame) awaits → All (λ f. P f.0) (kept_of frames awaits)
all_kept P frames [] given k d within = absurd (omega arith)
all_kept P frames (a ∷ rest) given zero d within = given 0 a (omega arith)
all_kept P frames (a ∷ rest) given (suc k) d within =
    all_kept P frames rest (λ j x inside. given (suc j) x (omega arith)) k d (omega arith)

kept_ascend : (frames : Frames) (awaits : List Await) → AllPairs (λ a b. a.frame < b.frame) awaits → Ascend (kept_of frames awaits)
kept_ascend frames [] ascend = λ i j d lt within. absurd (omega arith)
kept_ascend frames (a ∷ rest) ascend =
    AllPairs-cons (λ a b. a.0 < b.0) (kept_frame frames a) (kept_of frames rest)
    (all_kept (λ n. a.frame < n) frames rest (λ k d within. ascend 0 (suc k) d (omega arith) (omega arith)))
    (kept_ascend frames rest (λ i j d lt within. ascend (suc i) (suc j) d (omega arith) (omega arith)))

pub numbered_kept : (frames : Frames) (awaits : List Await) (next : ℕ) → AllPairs (λ a b. a.frame < b.frame) awaits
    → All (λ a. a.frame < next) awaits → AreNumbered (kept_of frames awaits) next
numbered_kept frames awaits next ascend less = record {
  ascending = kept_ascend frames awaits ascend;
  below = all_kept (λ n. n < next) frames awaits less;
}

-- all of them were kept
pub all_are_kept : (frames kept : Frames) (items awaits : List Await) (at : ℕ)
    → kept ++ map (kept_frame frames) (drop at items) ≡ map (kept_frame frames) items → length items ≤ at → items ≡ awaits
    → kept ≡ kept_of frames awaits
all_are_kept frames kept items awaits at so_far past is =
    let none : drop at items ≡ [] = drop_all at items past in
    sym (append-nil kept) ∙ sym (ap (λ rest. kept ++ map (kept_frame frames) rest) none) ∙ so_far ∙ ap (map (kept_frame frames)) is
