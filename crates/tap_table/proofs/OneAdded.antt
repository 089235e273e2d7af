-- What one step of a loop adds to a list, and what is left to add.
-- Cited above: added, drop_got
use Rattle.std.proofs.Common.{◌≡◌, ℕ, ◌+◌, Some, List, [], ◌∷◌, ◌++◌, drop, slice_get, ap, sym, ◌∙◌}
use Rattle.std.proofs.lemmas.List.{append-nil, append_assoc, drop_more}
use Rattle.std.proofs.lemmas.Option.{get_or_from_slice_get, slice_get_within}

module _ {X : Type 0} where
  pub drop_got : (xs : List X) (i : ℕ) (x : X) → slice_get xs i ≡ Some x → drop i xs ≡ x ∷ drop (i + 1) xs
  drop_got xs i x got =
      drop_more xs i x (slice_get_within xs i x got) ∙ ap (λ y. y ∷ drop (i + 1) xs) (get_or_from_slice_get xs i x x got)

  -- some elements are added, and others are left
  pub added : (done front rest left whole : List X) → left ≡ front ++ rest → done ++ left ≡ whole → (done ++ front) ++ rest ≡ whole
  added done front rest left whole parts was = append_assoc done front rest ∙ ap (λ l. done ++ l) (sym parts) ∙ was

  -- nothing is left
  pub all_added : (done left whole : List X) → left ≡ [] → done ++ left ≡ whole → done ≡ whole
  all_added done left whole none was = sym (append-nil done) ∙ ap (λ l. done ++ l) (sym none) ∙ was
