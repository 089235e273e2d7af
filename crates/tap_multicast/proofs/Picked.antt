-- What passes a test in a list, each element made into another: element by element, part by part, and by another test.
use Rattle.std.proofs.Common.{◌≡◌, ℕ, ◌+◌, zero, suc, Bool, true, false, Some, List, [], ◌∷◌, ◌++◌, drop, filter, map, slice_get, All, ap, refl, ◌∙◌, inl, inr}
use Rattle.std.specs.List.{flat_map}
use Rattle.std.proofs.lemmas.Bool.{cases_Bool}
use Rattle.std.proofs.lemmas.List.{map-append}
use Rattle.std.proofs.lemmas.List.Elements.{All-head, All-tail, filter-append}
use Rattle.tap_table.proofs.OneAdded.{drop_got}

module _ {X Y : Type 0} (make : X → Y) (passes : X → Bool) where
  abbrev pub picked : List X → List Y
  picked xs = map make (filter passes xs)

  pub picked-first : (xs : List X) (i : ℕ) (x : X) → slice_get xs i ≡ Some x → passes x ≡ true
      → picked (drop i xs) ≡ make x ∷ picked (drop (i + 1) xs)
  picked-first xs i x got passed = ap picked (drop_got xs i x got) ∙ rw passed refl

  pub passed_over : (xs : List X) (i : ℕ) (x : X) → slice_get xs i ≡ Some x → passes x ≡ false
      → picked (drop i xs) ≡ picked (drop (i + 1) xs)
  passed_over xs i x got failed = ap picked (drop_got xs i x got) ∙ rw failed refl

  -- what passes is picked
  pub picked-got : (xs : List X) (i : ℕ) (x : X) → slice_get xs i ≡ Some x → passes x ≡ true
      → (k : ℕ) × (slice_get (picked xs) k ≡ Some (make x))
  picked-got [] i x got passed = cc
  picked-got (y ∷ xs) zero x got passed =
      let same : y ≡ x = cc in
      let here : passes y ≡ true = ap passes same ∙ passed in
      (0, rw here (ap (λ z. Some (make z)) same))
  picked-got (y ∷ xs) (suc i) x got passed =
      let rest = picked-got xs i x got passed in
      elim (cases_Bool (passes y)) [
        | inl pass ↦ (suc rest.0, rw pass rest.1)
        | inr fail ↦ (rest.0, rw fail rest.1)
      ]

  picked-append : (xs ys : List X) → picked (xs ++ ys) ≡ picked xs ++ picked ys
  picked-append xs ys = ap (map make) (filter-append passes xs ys) ∙ map-append make (filter passes xs) (filter passes ys)

  pub picked-flat_map : {A : Type 0} (part : A → List X) (parts : List A)
      → picked (flat_map part parts) ≡ flat_map (λ a. picked (part a)) parts
  picked-flat_map part [] = refl
  picked-flat_map part (a ∷ parts) =
      picked-append (part a) (flat_map part parts) ∙ ap (λ l. picked (part a) ++ l) (picked-flat_map part parts)

-- a test that agrees on all elements, and makes the same of them, picks the same
module _ {X Y : Type 0} (make other_make : X → Y) (passes other_passes : X → Bool) where
  pub picked-same : (xs : List X) → All (λ x. passes x ≡ other_passes x) xs → All (λ x. make x ≡ other_make x) xs
      → picked make passes xs ≡ picked other_make other_passes xs
  picked-same [] agree same = refl
  picked-same (x ∷ xs) agree same =
      let rest = picked-same xs (All-tail (λ y. passes y ≡ other_passes y) x xs agree)
      (All-tail (λ y. make y ≡ other_make y) x xs same) in
      let test = All-head (λ y. passes y ≡ other_passes y) x xs agree in
      let made = All-head (λ y. make y ≡ other_make y) x xs same in
      elim (cases_Bool (other_passes x)) [
        | inl pass ↦ rw (test, pass, made) (ap (λ l. other_make x ∷ l) rest)
        | inr fail ↦ rw (test, fail) rest
      ]

-- parts that are the same make the same whole
pub flat_map-same : {A X : Type 0} (f g : A → List X) (parts : List A) → All (λ a. f a ≡ g a) parts
    → flat_map f parts ≡ flat_map g parts
flat_map-same f g [] same = refl
flat_map-same f g (a ∷ parts) same =
    rw (All-head (λ b. f b ≡ g b) a parts same) (ap (λ l. g a ++ l) (flat_map-same f g parts (All-tail (λ b. f b ≡ g b) a parts same)))
