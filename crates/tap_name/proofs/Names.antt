-- sets of names, and names that share their first digits
-- Cited above: All-among, among-All, among-filter, among-filter_from, among-take, among_item, has_digit-from, has_digit-to, only_left, same_at,
-- same_tests, share_all, share_fewer, share_more
use Rattle.std.proofs.Common.{◌≡◌, inl, inr, ℕ, ◌+◌, ◌<◌, ◌≤◌, zero, suc, Bool, true, false, List, [], ◌∷◌, length, take, get_or, Some, filter, All, arith, ap, sym, refl, ◌∙◌, eqb, take_all}
use Rattle.std.proofs.lemmas.Bool.{cases_Bool, eqb-true, eq-eqb, true≢false}
use Rattle.std.proofs.lemmas.List.{take_more_same, take-take, get_or-take}
use Rattle.std.proofs.lemmas.List.Elements.{All-head, All-tail, All-nil, All-cons}
use Rattle.tap_name.specs.Settings.{SettingsValue}
use Rattle.tap_name.specs.Name.{IsName}
use Rattle.tap_name.specs.Root.{Among, has_digit, first_of}

-- two tests that pass together are one
pub same_tests : (a b : Bool) → (a ≡ true → b ≡ true) → (b ≡ true → a ≡ true) → a ≡ b
same_tests true b f g = sym (f refl)
same_tests false true f g = g refl
same_tests false false f g = refl

pub has_digit-from : (names : List (List ℕ)) (x : List ℕ) (level digit : ℕ) → Among x names → get_or x level 0 ≡ digit
    → has_digit names level digit ≡ true
has_digit-from [] x level digit among is = absurd among
has_digit-from (y ∷ ys) x level digit (inl e) is =
    let test : eqb (get_or y level 0) digit ≡ true = eq-eqb (get_or y level 0) digit (sym (ap (λ n. get_or n level 0) e) ∙ is) in
    rw test refl
has_digit-from (y ∷ ys) x level digit (inr h) is =
    elim (cases_Bool (eqb (get_or y level 0) digit)) [ inl e ↦ rw e refl | inr e ↦ rw e (has_digit-from ys x level digit h is) ]

pub has_digit-to : (names : List (List ℕ)) (level digit : ℕ) → has_digit names level digit ≡ true
    → (x : List ℕ) × Among x names × (get_or x level 0 ≡ digit)
has_digit-to [] level digit h = absurd (true≢false (sym h))
has_digit-to (y ∷ ys) level digit h =
    elim (cases_Bool (eqb (get_or y level 0) digit)) [
      | inl e ↦ (y, inl refl, eqb-true (get_or y level 0) digit e)
      | inr e ↦ let w = has_digit-to ys level digit (rw e at h) in (w.0, inr w.1, w.2)
    ]

pub among-filter : (p : List ℕ → Bool) (names : List (List ℕ)) (x : List ℕ) → Among x (filter p names)
    → Among x names × (p x ≡ true)
among-filter p [] x h = absurd h
among-filter p (y ∷ ys) x h =
    elim (cases_Bool (p y)) [
      | inl e ↦ elim (rw e at h) [ inl s ↦ (inl s, ap p s ∙ e) | inr r ↦ let w = among-filter p ys x r in (inr w.0, w.1) ]
      | inr e ↦ let w = among-filter p ys x (rw e at h) in (inr w.0, w.1)
    ]

pub among-filter_from : (p : List ℕ → Bool) (names : List (List ℕ)) (x : List ℕ) → Among x names → p x ≡ true
    → Among x (filter p names)
among-filter_from p [] x h t = absurd h
among-filter_from p (y ∷ ys) x (inl e) t = let s : p y ≡ true = ap p (sym e) ∙ t in rw s (inl e)
among-filter_from p (y ∷ ys) x (inr h) t =
    elim (cases_Bool (p y)) [ inl e ↦ rw e (inr (among-filter_from p ys x h t)) | inr e ↦ rw e (among-filter_from p ys x h t) ]

pub among-All : (P : List ℕ → Type 0) (names : List (List ℕ)) → All P names → (x : List ℕ) → Among x names → P x
among-All P [] all x among = absurd among
among-All P (y ∷ ys) all x (inl e) = rw e (All-head P y ys all)
among-All P (y ∷ ys) all x (inr h) = among-All P ys (All-tail P y ys all) x h

pub All-among : (P : List ℕ → Type 0) (names : List (List ℕ)) → ((x : List ℕ) → Among x names → P x) → All P names
All-among P [] each = All-nil P
All-among P (y ∷ ys) each = All-cons P y ys (each y (inl refl)) (All-among P ys (λ x among. each x (inr among)))

-- the only one that is left is the first one
pub only_left : (names : List (List ℕ)) (node : List ℕ) → Among node names → ((x : List ℕ) → Among x names → x ≡ node)
    → first_of names ≡ Some node
only_left [] node among same = absurd among
only_left (y ∷ ys) node among same = ap Some (same y (inl refl))

-- two names that share a level's digits and have one digit there share one more
pub share_more : (p : SettingsValue) (level : ℕ) (a b : List ℕ) → IsName p a → IsName p b → level < p.digits
    → take level a ≡ take level b
    → get_or a level 0 ≡ get_or b level 0 → take (level + 1) a ≡ take (level + 1) b
share_more p level a b a_name b_name inside prefix same =
    take_more_same a b level 0 (omega (arith, a_name.len)) (omega (arith, b_name.len)) prefix same

-- what shares some digits shares fewer
pub share_fewer : (few many : ℕ) (a b : List ℕ) → few ≤ many → take many a ≡ take many b → take few a ≡ take few b
share_fewer few many a b fewer e =
    let f : List ℕ → List ℕ = take few in sym (take-take few many a fewer) ∙ ap f e ∙ take-take few many b fewer

-- what shares some digits has each of them
pub same_at : (level many : ℕ) (a b : List ℕ) → level < many → take many a ≡ take many b
    → get_or a level 0 ≡ get_or b level 0
same_at level many a b inside e =
    sym (get_or-take many a level 0 inside) ∙ ap (λ n. get_or n level 0) e ∙ get_or-take many b level 0 inside

-- two names that share all digits are one
pub share_all : (p : SettingsValue) (level : ℕ) (a b : List ℕ) → IsName p a → IsName p b → p.digits ≤ level
    → take level a ≡ take level b → a ≡ b
share_all p level a b a_name b_name end e =
    sym (take_all level a (omega (arith, a_name.len))) ∙ e ∙ take_all level b (omega (arith, b_name.len))

pub among_item : (names : List (List ℕ)) (i : ℕ) (x : List ℕ) → i < length names → x ≡ get_or names i x → Among x names
among_item [] i x inside is = absurd (omega arith)
among_item (y ∷ ys) zero x inside is = inl is
among_item (y ∷ ys) (suc i) x inside is = inr (among_item ys i x (omega arith) is)

pub among-take : (n : ℕ) (names : List (List ℕ)) (x : List ℕ) → Among x (take n names) → Among x names
among-take zero names x h = absurd h
among-take (suc n) [] x h = absurd h
among-take (suc n) (y ∷ ys) x (inl e) = inl e
among-take (suc n) (y ∷ ys) x (inr h) = inr (among-take n ys x h)
