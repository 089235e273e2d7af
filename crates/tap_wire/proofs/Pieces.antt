-- pieces of bytes at their places: read where they were written, and written as they are read
-- Cited above: name_taken
use Rattle.std.proofs.Common.{◌≡◌, ◌<◌, ◌≤◌, ◌^◌, ◌++◌, ◌+◌, ◌*◌, ◌-◌, ℕ, suc, Bool, true, false, cond, nat_lt, nat_le, List, [], ◌∷◌, length, take, drop, get_or, slice_index, All, Option, Some, None, Ok, arith, refl, ap, sym, subst, ◌∙◌, inl, inr}
use Rattle.std.specs.Bool.{OnTrue}
use Rattle.std.specs.List.{position, position_or_len}
use Rattle.std.specs.Ordering.{nat_cmp, ord_max}
use Rattle.std.proofs.lemmas.Bool.Decides.{nat_tests}
use Rattle.std.proofs.lemmas.Bool.{cases_lt, lt-ltb, le-ltb, lt-leb, leb-false, ltb-true}
use Rattle.std.proofs.lemmas.List.{drop-drop, drop-take, drop_at, take_at, take_all, take-take, get_or-drop, take-append-drop, length-take-le, length-drop}
use Rattle.std.proofs.lemmas.List.Elements.{All-from_get_or, All-drop, All-take}
use Rattle.std.proofs.lemmas.List.Sums.{position_or_len_is, fails_before_first}
use Rattle.std.proofs.Math.Seq.{drop-cons}
use Rattle.byteorder.specs.Endian.{big_bytes, big_number}
use Rattle.byteorder.specs.Numbers.{big_number-reads_back, big_from-take, big_from-lt, length-bytes_high_first}
use Rattle.tap_name.specs.Settings.{SettingsValue}
use Rattle.tap_name.specs.Name.{IsName}
use Rattle.tap_wire.specs.Fields.{number_at, digits_at, digits_unless}
use Rattle.tap_wire.proofs.Numbers.{are_small, writes_back}
use Rattle.tap_wire.proofs.ReadingSteps.{digits_ok}

-- ---- after a piece

pub past : (bytes : List ℕ) (place width : ℕ) (piece rest : List ℕ) → length piece ≡ width → drop place bytes ≡ piece ++ rest
    → drop (place + width) bytes ≡ rest
past bytes place width piece rest len here = sym (drop-drop width place bytes) ∙ ap (drop width) here ∙ drop_at piece rest width len

pub moved : (bytes rest : List ℕ) (here there : ℕ) → here ≡ there → drop here bytes ≡ rest → drop there bytes ≡ rest
moved bytes rest here there e is = subst (λ place. drop place bytes ≡ rest) e is

-- ---- bytes

pub byte_is : (bytes : List ℕ) (place b : ℕ) (rest : List ℕ) → drop place bytes ≡ b ∷ rest → slice_index bytes place ≡ b
byte_is bytes place b rest here =
    let same : place ≡ place + 0 = omega arith in
    ap (λ k. get_or bytes k 0) same ∙ sym (get_or-drop place bytes 0 0) ∙ ap (λ (xs : List ℕ). get_or xs 0 0) here

pub past_byte : (bytes : List ℕ) (place b : ℕ) (rest : List ℕ) → drop place bytes ≡ b ∷ rest → drop (place + 1) bytes ≡ rest
past_byte bytes place b rest here = past bytes place 1 (b ∷ []) rest refl here

pub byte_taken : (bytes : List ℕ) (place : ℕ) → place < length bytes → drop place bytes ≡ slice_index bytes place ∷ drop (place + 1) bytes
byte_taken bytes place within =
    let next : suc place ≡ place + 1 = omega arith in
    drop-cons bytes place 0 within ∙ ap (λ k. slice_index bytes place ∷ drop k bytes) next

-- ---- numbers

pub number_is : (bytes : List ℕ) (place width x : ℕ) (rest : List ℕ) → x < 256 ^ width → drop place bytes ≡ big_bytes width x ++ rest
    → number_at width place bytes ≡ x
number_is bytes place width x rest fits here = ap (big_number width) here ∙ big_number-reads_back width x rest fits

pub past_number : (bytes : List ℕ) (place width x : ℕ) (rest : List ℕ) → drop place bytes ≡ big_bytes width x ++ rest
    → drop (place + width) bytes ≡ rest
past_number bytes place width x rest here = past bytes place width (big_bytes width x) rest (length-bytes_high_first width x) here

pub number_taken : (bytes : List ℕ) (place width : ℕ) → All (λ b. b < 256) bytes → place + width ≤ length bytes
    → drop place bytes ≡ big_bytes width (number_at width place bytes) ++ drop (place + width) bytes
number_taken bytes place width all room =
    let rest = drop place bytes in
    let front = take width rest in
    let len : length front ≡ width = length-take-le width rest (omega (arith, length-drop place bytes)) in
    let front_small = All-take (λ b. b < 256) width rest (All-drop (λ b. b < 256) place bytes all) in
    let same : big_number width front ≡ big_number width rest = big_from-take 0 width width rest (omega arith) in
    let written : big_bytes width (big_number width rest) ≡ front = ap (big_bytes width) (sym same)
    ∙ writes_back width front len front_small in
    sym (take-append-drop width rest) ∙ ap (λ (xs : List ℕ). xs ++ drop width rest) (sym written)
    ∙ ap (λ (xs : List ℕ). big_bytes width (number_at width place bytes) ++ xs) (drop-drop width place bytes)

pub number_below : (bytes : List ℕ) (place width : ℕ) → All (λ b. b < 256) bytes → number_at width place bytes < 256 ^ width
number_below bytes place width all = big_from-lt 0 width (drop place bytes)
    (are_small (drop place bytes) (All-drop (λ b. b < 256) place bytes all))

-- ---- names

no_bad : (base : ℕ) (name : List ℕ) → All (λ d. d < base) name → position (λ d. nat_le base d) name ≡ None
no_bad base name below =
    let all : position_or_len (λ d. nat_le base d) name ≡ length name =
    position_or_len_is (λ d. nat_le base d) name (length name) 0 (omega arith) (λ k h. lt-leb base (get_or name k 0) (below k 0 h))
    (λ h. absurd (omega arith)) in
    ap (λ (n : ℕ). cond {A = Option ℕ} (nat_lt n (length name)) (Some n) None) all
    ∙ ap (λ (b : Bool). cond {A = Option ℕ} b (Some (length name)) None) (le-ltb (length name) (length name) (omega arith))

-- none is bad of digits that are known to be below the base
pub none_bad : (known : Bool) (base : ℕ) (digits : List ℕ) → known ≡ true → OnTrue known (All (λ d. d < base) digits)
    → position (λ d. nat_le base d) digits ≡ None
none_bad true base digits is all = no_bad base digits all
none_bad false base digits is all = absurd cc

-- the greater of two numbers is at least each
pub greater_of : (a b : ℕ) → (a ≤ ord_max nat_cmp a b) × (b ≤ ord_max nat_cmp a b)
greater_of a b = (grind (arith, nat_tests), grind (arith, nat_tests))

-- bytes that are known to be below the base: all of them, if the greatest is
pub below_greatest : (base greatest : ℕ) (bytes : List ℕ) (known : Bool) → known ≡ nat_lt greatest base → All (λ d. d ≤ greatest) bytes
    → OnTrue known (All (λ d. d < base) bytes)
below_greatest base greatest bytes true e all = let less = ltb-true greatest base (sym e) in λ k d h. omega (arith, all k d h, less)
below_greatest base greatest bytes false e all = tt

-- those from a later place on
pub below_from : (known : Bool) (base start place : ℕ) (bytes : List ℕ) → start ≤ place
    → OnTrue known (All (λ d. d < base) (take (length bytes - start) (drop start bytes)))
    → OnTrue known (All (λ d. d < base) (drop place bytes))
below_from true base start place bytes later all =
    let P : ℕ → Type 0 = λ d. d < base in
    let rest = take_all (length bytes - start) (drop start bytes) (omega (arith, length-drop start bytes)) in
    let same : drop (place - start) (drop start bytes) ≡ drop place bytes =
    drop-drop (place - start) start bytes ∙ ap (λ k. drop k bytes) (omega arith) in
    subst (All P) same (All-drop P (place - start) (drop start bytes) (subst (All P) rest all))
below_from false base start place bytes later all = tt

-- those of two names, one after the other
pub below_pair : (known : Bool) (base start end digits : ℕ) (bytes : List ℕ) → end ≡ start + 2 * digits
    → OnTrue known (All (λ d. d < base) (take (end - start) (drop start bytes)))
    → OnTrue known (All (λ d. d < base) (take digits (drop start bytes)))
    × OnTrue known (All (λ d. d < base) (take digits (drop (start + digits) bytes)))
below_pair true base start end digits bytes is all =
    let P : ℕ → Type 0 = λ d. d < base in
    let rest = drop start bytes in
    let both : take (end - start) rest ≡ take (digits + digits) rest = ap (λ k. take k rest) (omega arith) in
    let pair = subst (All P) both all in
    let first : take digits (take (digits + digits) rest) ≡ take digits rest = take-take digits (digits + digits) rest (omega arith) in
    let second : drop digits (take (digits + digits) rest) ≡ take digits (drop (start + digits) bytes) =
    drop-take digits digits rest ∙ ap (take digits) (drop-drop digits start bytes ∙ ap (λ k. drop k bytes) (omega arith)) in (
      subst (All P) first (All-take P digits (take (digits + digits) rest) pair),
      subst (All P) second (All-drop P digits (take (digits + digits) rest) pair),
    )
below_pair false base start end digits bytes is all = (tt, tt)

all_below : (base : ℕ) (name : List ℕ) → position (λ d. nat_le base d) name ≡ None → All (λ d. d < base) name
all_below base name none =
    let first = position_or_len (λ d. nat_le base d) name in
    elim (cases_lt first (length name)) [
      | inl within ↦ let test = lt-ltb first (length name) within in let bad = rw test at none in absurd cc
      | inr past ↦ All-from_get_or (λ d. d < base) name 0
          (λ i h. leb-false base (get_or name i 0) (fails_before_first (λ d. nat_le base d) name i 0 (omega arith)))
    ]

-- as many bytes as a name has, none of them bad, are one
pub are_name : (p : SettingsValue) (bytes : List ℕ) (place : ℕ) (digits : List ℕ) → digits ≡ take p.digits (drop place bytes)
    → place + p.digits ≤ length bytes → position (λ d. nat_le p.base d) digits ≡ None → IsName p digits
are_name p bytes place digits same room none = record {
  len = ap (λ (xs : List ℕ). length xs) same ∙ length-take-le p.digits (drop place bytes) (omega (arith, length-drop place bytes));
  below = all_below p.base digits none;
}

pub name_is : {E : Type 0} (bad : ℕ → E) (p : SettingsValue) (bytes : List ℕ) (place : ℕ) (name rest : List ℕ) → IsName p name
    → drop place bytes ≡ name ++ rest
    → digits_at bad p place bytes ≡ Ok name
name_is {E} bad p bytes place name rest is here =
    let fault : ℕ → E = λ at. bad (place + at) in
    let digits : take p.digits (drop place bytes) ≡ name = ap (take p.digits) here ∙ take_at name rest p.digits is.len in
    ap (λ (xs : List ℕ). digits_unless fault xs (position (λ d. nat_le p.base d) xs)) digits
    ∙ ap (digits_unless fault name) (no_bad p.base name is.below)

pub past_name : (p : SettingsValue) (bytes : List ℕ) (place : ℕ) (name rest : List ℕ) → IsName p name → drop place bytes ≡ name ++ rest
    → drop (place + p.digits) bytes ≡ rest
past_name p bytes place name rest is here = past bytes place p.digits name rest is.len here

pub name_taken : {E : Type 0} (bad : ℕ → E) (p : SettingsValue) (bytes : List ℕ) (place : ℕ) (name : List ℕ)
    → place + p.digits ≤ length bytes → digits_at bad p place bytes ≡ Ok name
    → (drop place bytes ≡ name ++ drop (place + p.digits) bytes) × IsName p name
name_taken bad p bytes place name room e =
    let rest = drop place bytes in
    let digits = take p.digits rest in
    let is = digits_ok (λ at. bad (place + at)) digits name (position (λ d. nat_le p.base d) digits) e in
    let len : length digits ≡ p.digits = length-take-le p.digits rest (omega (arith, length-drop place bytes)) in
    let written : rest ≡ name ++ drop (place + p.digits) bytes =
    sym (take-append-drop p.digits rest) ∙ ap (λ (xs : List ℕ). xs ++ drop p.digits rest) is.0
    ∙ ap (λ (xs : List ℕ). name ++ xs) (drop-drop p.digits place bytes) in
    let name_is : IsName p digits = record { len = len; below = all_below p.base digits is.1 } in
    (written, subst (IsName p) is.0 name_is)
