-- What `get_one` reads of a text, as functions of the text.
use Rattle.std.proofs.Common.{◌≡◌, ◌∙◌, ◌<◌, ◌≤◌, ◌^◌, ◌&&◌, ap, arith, refl, sym, subst, true, false, Bool, ℕ, List, [], ◌∷◌, length, Option, Some, None, Result, Ok, Err}
use Rattle.std.proofs.lemmas.Bool.{and_parts, le-leb, lt-ltb, ne_eqb}
use Rattle.std.proofs.lemmas.Fmt.{decimal_is_IsNumeral}
use Rattle.std.proofs.lemmas.Bool.Decides.{nat_tests}
use Rattle.std.specs.Prelude.{◌==◌, ◌≢◌, codes, decimal, nat_lt, unwrap_or}
use Rattle.std.proofs.lemmas.Slice.Eq.{bytes_eq-Decides}
use Rattle.std.specs.List.{list_all}
use Rattle.std.specs.Str.{bytes_eq}
use Rattle.std.specs.Str.Parse.{AllDigits, IsNumeral, ParsesUnsigned, ParsesBool, digits_value, without_leading_plus}
use Rattle.std.specs.Char.{digit_value}
use Rattle.clap.specs.ValueTests.{is_unsigned_in}
use Rattle.clap.specs.Words.{ReadsOne}
use Rattle.tap_words.specs.Words.{bool_of, number_in_text, number_of}

digits_back : (ds : List ℕ) → AllDigits 10 ds → list_all (λ d. nat_lt (digit_value d) 10) ds ≡ true
digits_back [] h = refl
digits_back (d ∷ ds) h = rw (lt-ltb (digit_value d) 10 h.0, digits_back ds h.1) refl

ltb_lt : (a b : ℕ) → nat_lt a b ≡ true → a < b
ltb_lt a b h = grind (arith, nat_tests)

digits_from : (ds : List ℕ) → list_all (λ d. nat_lt (digit_value d) 10) ds ≡ true → AllDigits 10 ds
digits_from [] h = tt
digits_from (d ∷ ds) h =
    let (here, more) = and_parts _ _ h in
    (ltb_lt (digit_value d) 10 here, digits_from ds more)

good : (t : List ℕ) → IsNumeral 10 (without_leading_plus t) → digits_value 10 (without_leading_plus t) < 2 ^ 64
    → number_in_text t ≡ Some (digits_value 10 (without_leading_plus t))
good t n lt = rw (lt-ltb 0 _ n.0, digits_back _ n.1, lt-ltb _ _ lt) refl

bad : (t : List ℕ) → ((IsNumeral 10 (without_leading_plus t) × (digits_value 10 (without_leading_plus t) < 2 ^ 64)) → ⊥)
    → None ≡ number_in_text t
bad t not_number = go _ refl
  where
    go : (b : Bool) → ((nat_lt 0 (length (without_leading_plus t)) && list_all (λ d. nat_lt (digit_value d) 10) (without_leading_plus t)) && nat_lt (digits_value 10 (without_leading_plus t)) (2 ^ 64)) ≡ b → None ≡ number_in_text t
    go false e = rw e refl
    go true e =
        let (front, last) = and_parts _ _ e in
        let (some, all) = and_parts _ _ front in
        absurd (not_number ((ltb_lt _ _ some, digits_from _ all), ltb_lt _ _ last))

reads : (E : Type 0) (G : List ℕ → Result ℕ E → Type 0) (t : List ℕ) (r : Option ℕ) → ReadsOne G t r
    → ((u : List ℕ) (x : Result ℕ E) → G u x → ParsesUnsigned 64 10 u x) → r ≡ number_in_text t
reads E G t (Some v) h only = let p = only t (Ok v) h in rw p.1 (sym (good t p.0.0 p.0.1))
reads E G t None h only = bad t (only t (Err h.0) h.1)

pub reads_number : (E : Type 0) (G : List ℕ → Result ℕ E → Type 0) (o : Option (List ℕ)) (r : Option ℕ)
    → (o ≡ None → r ≡ None) → ((u : List ℕ) → o ≡ Some u → ReadsOne G u r)
    → ((u : List ℕ) (x : Result ℕ E) → G u x → ParsesUnsigned 64 10 u x) → r ≡ number_of o
reads_number E G None r none some only = none refl
reads_number E G (Some t) r none some only = reads E G t r (some t refl) only

not_same : (s t : List ℕ) → s ≢ t → bytes_eq s t ≡ false
not_same s t h = go (bytes_eq s t) refl
  where
    go : (b : Bool) → bytes_eq s t ≡ b → bytes_eq s t ≡ false
    go false e = e
    go true e = absurd (h ((bytes_eq-Decides s t).0 e))

flag : (E : Type 0) (G : List ℕ → Result Bool E → Type 0) (t : List ℕ) (r : Option Bool) → ReadsOne G t r
    → ((u : List ℕ) (x : Result Bool E) → G u x → ParsesBool u x) → unwrap_or r false ≡ bool_of (Some t)
flag E G t (Some true) h only = rw (only t (Ok true) h) refl
flag E G t (Some false) h only = rw (only t (Ok false) h) refl
flag E G t None h only = sym (not_same t (codes "true") (only t (Err h.0) h.1).0)

pub reads_flag : (E : Type 0) (G : List ℕ → Result Bool E → Type 0) (o : Option (List ℕ)) (r : Option Bool)
    → (o ≡ None → r ≡ None) → ((u : List ℕ) → o ≡ Some u → ReadsOne G u r)
    → ((u : List ℕ) (x : Result Bool E) → G u x → ParsesBool u x) → unwrap_or r false ≡ bool_of o
reads_flag E G None r none some only = rw (none refl) refl
reads_flag E G (Some t) r none some only = flag E G t r (some t refl) only

-- ---- decimal texts

-- a digit is neither a plus sign nor a hyphen
digit_ne : (digit other : ℕ) → digit_value digit < 10 → 10 ≤ digit_value other → (digit == other) ≡ false
digit_ne digit other below above =
    ne_eqb digit other (λ same. let here : digit_value other < 10 = subst (λ b. digit_value b < 10) same below in absurd (omega arith))

-- a first byte that is no hyphen, and the others
pub record StartsPlainly (text : List ℕ) : Type 0 where
  pub first : ℕ
  pub rest : List ℕ
  pub is : text ≡ first ∷ rest
  pub plain : (first == 45) ≡ false

starts_plainly : (text : List ℕ) → IsNumeral 10 text → StartsPlainly text
starts_plainly [] numeral = absurd (omega (arith, numeral.0))
starts_plainly (first ∷ rest) numeral = record {
  first = first;
  rest = rest;
  is = refl;
  plain = digit_ne first 45 numeral.1.0 (omega arith);
}

pub decimal_starts : (n : ℕ) → n < 2 ^ 64 → StartsPlainly (decimal n)
decimal_starts n small = starts_plainly (decimal n) (decimal_is_IsNumeral n small).0

no_plus : (text : List ℕ) → IsNumeral 10 text → without_leading_plus text ≡ text
no_plus [] numeral = refl
no_plus (first ∷ rest) numeral = rw (digit_ne first 43 numeral.1.0 (omega arith)) refl

-- the number of a decimal text is read from it
pub number_in-decimal : (n : ℕ) → n < 2 ^ 64 → number_in_text (decimal n) ≡ Some n
number_in-decimal n small =
    let numeral = decimal_is_IsNumeral n small in
    let same = no_plus (decimal n) numeral.0 in
    good (decimal n) (rw same numeral.0) (rw (same, numeral.1) small) ∙ ap (λ text. Some (digits_value 10 text)) same ∙ ap Some numeral.1

-- and it is among those that the command takes
pub decimal_fits : (n : ℕ) → n < 2 ^ 64 → is_unsigned_in 0 18446744073709551615 (decimal n) ≡ true
decimal_fits n small =
    let numeral = decimal_is_IsNumeral n small in
    let same = no_plus (decimal n) numeral.0 in
    rw (same, lt-ltb 0 _ numeral.0.0, digits_back _ numeral.0.1, numeral.1, lt-ltb n (2 ^ 64) small, le-leb 0 n (omega arith), le-leb n 18446744073709551615 (omega arith)) refl
