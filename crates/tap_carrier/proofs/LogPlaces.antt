-- A log at the place of one of its records.
use Rattle.std.proofs.Common.{◌≡◌, ℕ, ◌+◌, ◌≤◌, List, [], ◌∷◌, ◌++◌, length, drop, take, Some, ap, sym, subst, ◌∙◌, arith, append-nil, append_assoc}
use Rattle.std.specs.Prelude.{slice_get}
use Rattle.std.proofs.lemmas.List.{drop_all, drop_more, drop-append-le, length-take-le, take-append-drop, take_more}
use Rattle.std.proofs.lemmas.Option.{get_or_from_slice_get, slice_get_within}
use Rattle.tap_log.specs.declared.record.Record.{Record}
use Rattle.tap_log.specs.Log.{EachFrom}

module _ {X : Type 0} (xs : List X) (i : ℕ) (x : X) (at : slice_get xs i ≡ Some x) where
  -- the elements up to this one
  pub take_one : take (i + 1) xs ≡ take i xs ++ x ∷ []
  take_one =
      take_more xs i x (slice_get_within xs i x at) ∙ ap (λ y. take i xs ++ y ∷ []) (get_or_from_slice_get xs i x x at)

  -- those before it, itself, and the others
  pub parted : xs ≡ take i xs ++ x ∷ drop (i + 1) xs
  parted =
      sym (take-append-drop i xs)
      ∙ ap (λ l. take i xs ++ l) (drop_more xs i x (slice_get_within xs i x at)
      ∙ ap (λ y. y ∷ drop (i + 1) xs) (get_or_from_slice_get xs i x x at))

  -- from an earlier place on there is one more
  pub drop_one : (from : ℕ) → from ≤ i → drop from (take (i + 1) xs) ≡ drop from (take i xs) ++ x ∷ []
  drop_one from early =
      let within = slice_get_within xs i x at in
      let long = length-take-le i xs (omega (arith, within)) in
      ap (drop from) take_one ∙ drop-append-le from (take i xs) (x ∷ []) (omega (arith, early, long))

  -- and in all it comes between those before it and the others
  pub drop_parted : (from : ℕ) → from ≤ i → drop from xs ≡ drop from (take i xs) ++ x ∷ drop (i + 1) xs
  drop_parted from early =
      let within = slice_get_within xs i x at in
      let long = length-take-le i xs (omega (arith, within)) in
      ap (drop from) parted ∙ drop-append-le from (take i xs) (x ∷ drop (i + 1) xs) (omega (arith, early, long))

-- from its end on there is nothing
pub drop_taken : {X : Type 0} (n : ℕ) (xs : List X) → n ≤ length xs → drop n (take n xs) ≡ []
drop_taken n xs within =
    let long = length-take-le n xs within in drop_all n (take n xs) (omega (arith, long))

-- ---- what holds of each record

pub each_first : (P : List Record → Record → Type 0) (before xs ys : List Record) → EachFrom P before (xs ++ ys) → EachFrom P before xs
each_first P before [] ys each = tt
each_first P before (x ∷ xs) ys each = (each.0, each_first P (before ++ x ∷ []) xs ys each.1)

pub each_later : (P : List Record → Record → Type 0) (before xs ys : List Record) → EachFrom P before (xs ++ ys)
    → EachFrom P (before ++ xs) ys
each_later P before [] ys each = subst (λ l. EachFrom P l ys) (sym (append-nil before)) each
each_later P before (x ∷ xs) ys each =
    subst (λ l. EachFrom P l ys) (append_assoc before (x ∷ []) xs) (each_later P (before ++ x ∷ []) xs ys each.1)
