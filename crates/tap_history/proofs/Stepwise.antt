-- The last of the numbers from 1 that pass a test, with one number more.
-- Cited above: last_passes
use Rattle.std.proofs.Common.{◌≡◌, ℕ, zero, suc, ◌+◌, Bool, true, false, List, [], ◌∷◌, ◌++◌, filter, Option, None, Some, refl, ap, sym, ◌∙◌, arith, append-nil, add-zero}
use Rattle.std.specs.Prelude.{unwrap_or, if◌then◌else◌}
use Rattle.std.specs.List.{last_or, range_with_len}
use Rattle.std.proofs.lemmas.List.Elements.{filter-append}

range_more : (a n : ℕ) → range_with_len a (suc n) ≡ range_with_len a n ++ (a + n) ∷ []
range_more a zero = ap (λ k. k ∷ []) (sym (add-zero a))
range_more a (suc n) =
    ap (λ l. a ∷ l) (range_more (a + 1) n) ∙ ap (λ k. a ∷ (range_with_len (a + 1) n ++ k ∷ []))
    (let e : (a + 1) + n ≡ a + suc n = omega arith in e)

last_push : (o : Option ℕ) (xs : List ℕ) (y : ℕ) → last_or o (xs ++ y ∷ []) ≡ Some y
last_push o [] y = refl
last_push o (x ∷ xs) y = last_push (Some x) xs y

filter_one : (p : ℕ → Bool) (b : Bool) (y : ℕ) → p y ≡ b → filter p (y ∷ []) ≡ (if b then y ∷ [] else [])
filter_one p b y is = ap (λ c. if c then y ∷ [] else []) is

pub passing_more : (p : ℕ → Bool) (n : ℕ) (b : Bool) → p (n + 1) ≡ b
    → filter p (range_with_len 1 (n + 1)) ≡ filter p (range_with_len 1 n) ++ (if b then (n + 1) ∷ [] else [])
passing_more p n b is =
    let next : range_with_len 1 (n + 1) ≡ range_with_len 1 n ++ (n + 1) ∷ [] =
    ap (range_with_len 1) (let e : n + 1 ≡ suc n = omega arith in e) ∙ range_more 1 n
    ∙ ap (λ k. range_with_len 1 n ++ k ∷ []) (let e : 1 + n ≡ n + 1 = omega arith in e) in
    ap (filter p) next ∙ filter-append p (range_with_len 1 n) ((n + 1) ∷ [])
    ∙ ap (λ l. filter p (range_with_len 1 n) ++ l) (filter_one p b (n + 1) is)

-- the next number passes: it is the last one
pub last_passes : (p : ℕ → Bool) (n last : ℕ) → p (n + 1) ≡ true → last ≡ n + 1
    → last ≡ unwrap_or (last_or None (filter p (range_with_len 1 (n + 1)))) 0
last_passes p n last passes is =
    is ∙ sym (ap (λ l. unwrap_or (last_or None l) 0) (passing_more p n true passes)
    ∙ ap (λ o. unwrap_or o 0) (last_push None (filter p (range_with_len 1 n)) (n + 1)))

-- it doesn't: the last one stays
pub last_stays : (p : ℕ → Bool) (n last : ℕ) → p (n + 1) ≡ false → last ≡ unwrap_or (last_or None (filter p (range_with_len 1 n))) 0
    → last ≡ unwrap_or (last_or None (filter p (range_with_len 1 (n + 1)))) 0
last_stays p n last fails is =
    is ∙ sym (ap (λ l. unwrap_or (last_or None l) 0) (passing_more p n false fails ∙ append-nil (filter p (range_with_len 1 n))))
