-- the slot of one name at another: what the two share, and where they differ
-- Cited above: fits_what_shares, same_slot, shares_what_fits
use Rattle.std.proofs.Common.{◌≡◌, inl, inr, ℕ, ◌<◌, ap, zero, suc, true, false, List, [], ◌∷◌, length, take, get_or, None, Some, nat_eq, arith, refl, sym, subst, ◌∙◌, eqb}
use Rattle.std.specs.List.{common_prefix_len}
use Rattle.std.proofs.lemmas.Bool.{cases_Bool, eqb-true, eq-eqb, eqb-false, ne_eqb}
use Rattle.std.proofs.lemmas.List.Sums.{common_prefix_len-le}
use Rattle.tap_name.specs.declared.slot.Slot.{Slot}
use Rattle.tap_name.specs.Settings.{SettingsValue}
use Rattle.tap_name.specs.Name.{IsName}
use Rattle.tap_name.specs.Slot.{Fits}

-- a slot is its level and its digit
pub same_slot : (a b : Slot) → a.level ≡ b.level → a.digit ≡ b.digit → a ≡ b
same_slot a b same_level same_digit =
    let at_level : ℕ → Slot = λ n. record { level = n; digit = a.digit } in
    let at_digit : ℕ → Slot = λ n. record { level = b.level; digit = n } in
    ap at_level same_level ∙ ap at_digit same_digit

-- what the digits after a longer prefix say
prefix_more : (x y : ℕ) (xs ys : List ℕ) → nat_eq x y ≡ true
    → common_prefix_len nat_eq (x ∷ xs) (y ∷ ys) ≡ suc (common_prefix_len nat_eq xs ys)
prefix_more x y xs ys same = rw same (omega arith)

prefix_none : (x y : ℕ) (xs ys : List ℕ) → nat_eq x y ≡ false → common_prefix_len nat_eq (x ∷ xs) (y ∷ ys) ≡ 0
prefix_none x y xs ys apart = rw apart refl

prefix_shared : (a b : List ℕ) → take (common_prefix_len nat_eq a b) a ≡ take (common_prefix_len nat_eq a b) b
prefix_shared [] ys = refl
prefix_shared (x ∷ xs) [] = refl
prefix_shared (x ∷ xs) (y ∷ ys) =
    elim (cases_Bool (nat_eq x y)) [
      | inl e ↦
          let rest = prefix_shared xs ys in
          let head : x ≡ y = eqb-true x y e in
          let shared : x ∷ take (common_prefix_len nat_eq xs ys) xs ≡ y ∷ take (common_prefix_len nat_eq xs ys) ys = cc in
          let P : ℕ → Type 0 = λ n. take n (x ∷ xs) ≡ take n (y ∷ ys) in
          subst P (sym (prefix_more x y xs ys e)) shared
      | inr e ↦ let P : ℕ → Type 0 = λ n. take n (x ∷ xs) ≡ take n (y ∷ ys) in subst P (sym (prefix_none x y xs ys e)) refl
    ]

prefix_differs : (a b : List ℕ) → length a ≡ length b → common_prefix_len nat_eq a b < length a
    → get_or a (common_prefix_len nat_eq a b) 0 ≡ get_or b (common_prefix_len nat_eq a b) 0 → ⊥
prefix_differs [] ys len within same = absurd (omega arith)
prefix_differs (x ∷ xs) [] len within same = absurd (omega arith)
prefix_differs (x ∷ xs) (y ∷ ys) len within same =
    let P : ℕ → Type 0 = λ n. get_or (x ∷ xs) n 0 ≡ get_or (y ∷ ys) n 0 in
    elim (cases_Bool (nat_eq x y)) [
      | inl e ↦
          let more = prefix_more x y xs ys e in
          prefix_differs xs ys (omega arith) (omega (arith, more)) (subst P more same)
      | inr e ↦ eqb-false x y e (subst P (prefix_none x y xs ys e) same)
    ]

-- the names share a level's digits and differ after them
prefix_is : (a b : List ℕ) (level : ℕ) → level < length a → level < length b → take level a ≡ take level b
    → (get_or a level 0 ≡ get_or b level 0 → ⊥)
    → common_prefix_len nat_eq a b ≡ level
prefix_is [] b level in_a in_b shared apart = absurd (omega arith)
prefix_is (x ∷ xs) [] level in_a in_b shared apart = absurd (omega arith)
prefix_is (x ∷ xs) (y ∷ ys) zero in_a in_b shared apart = let test : eqb x y ≡ false = ne_eqb x y apart in rw test refl
prefix_is (x ∷ xs) (y ∷ ys) (suc level) in_a in_b shared apart =
    let head : x ≡ y = cc in
    let tail : take level xs ≡ take level ys = cc in
    let test : eqb x y ≡ true = eq-eqb x y head in
    let rest = prefix_is xs ys level (omega arith) (omega arith) tail apart in
    rw test (omega (arith, rest))

-- what a name that fits a slot of another has in common with it
pub record Shares (p : SettingsValue) (a b : List ℕ) (slot : Slot) : Type 0 where
  pub inside : slot.level < p.digits
  pub prefix : take slot.level a ≡ take slot.level b
  pub digit : get_or b slot.level 0 ≡ slot.digit
  pub other : get_or a slot.level 0 ≡ slot.digit → ⊥

pub shares_what_fits : (p : SettingsValue) (a b : List ℕ) (slot : Slot) → IsName p a → IsName p b → Fits a b slot
    → Shares p a b slot
shares_what_fits p a b slot a_name b_name fits =
    let level = common_prefix_len nat_eq a b in
    elim (cases_Bool (eqb level (length a))) [
      | inl e ↦ let wrong : None ≡ Some slot = rw e at fits in cc
      | inr e ↦
          let is : Some (record { level = level; digit = get_or b level 0 }) ≡ Some slot = rw e at fits in
          let same : record { level = level; digit = get_or b level 0 } ≡ slot = cc in
          let apart = eqb-false level (length a) e in
          let most = common_prefix_len-le nat_eq a b in
          let inside : level < length a = omega (arith, apart, most.0) in
          let shares : Shares p a b (record { level = level; digit = get_or b level 0 }) = record {
            inside = omega (arith, inside, a_name.len);
            prefix = prefix_shared a b;
            digit = refl;
            other = prefix_differs a b (a_name.len ∙ sym b_name.len) inside;
          } in
          let P : Slot → Type 0 = λ s. Shares p a b s in subst P same shares
    ]

pub fits_what_shares : (p : SettingsValue) (a b : List ℕ) (level : ℕ) → IsName p a → IsName p b → level < p.digits
    → take level a ≡ take level b
    → (get_or a level 0 ≡ get_or b level 0 → ⊥) → Fits a b (record { level = level; digit = get_or b level 0 })
fits_what_shares p a b level a_name b_name inside shared apart =
    let is = prefix_is a b level (omega (arith, a_name.len)) (omega (arith, b_name.len)) shared apart in
    let test : eqb level (length a) ≡ false = ne_eqb level (length a) (λ e. omega (arith, a_name.len)) in
    rw (is, test) refl
