-- One frame of a list is sent, and the others are left.
-- Cited above: all_sent, one_sent
use Rattle.std.proofs.Common.{◌≡◌, ℕ, ◌+◌, ◌<◌, ◌≤◌, List, [], ◌∷◌, ◌++◌, drop, get_or, length, ap, sym, ◌∙◌}
use Rattle.std.proofs.lemmas.List.{append-nil, append_assoc, drop_all, drop_more}
use Rattle.std.proofs.lemmas.List.Elements.{All-head, All-rest, All-same}
use Rattle.tap_name.specs.Settings.{SettingsValue}
use Rattle.tap_wire.specs.declared.frame.Frame.{Frame}
use Rattle.tap_wire.specs.Spelling.{IsFrame, spelling}
use Rattle.tap_node_common.specs.Spellings.{HaveSpellings, spelled}

-- the frames of a list of things, one for each
module _ {X : Type 0} (p : SettingsValue) (frame : X → Frame) (frames : List X → List Frame) (none : frames [] ≡ [])
    (first : (x : X) (xs : List X) → frames (x ∷ xs) ≡ frame x ∷ frames xs) where
  parts : (xs : List X) (i : ℕ) (x d : X) → i < length xs → x ≡ get_or xs i d
      → frames (drop i xs) ≡ frame x ∷ frames (drop (i + 1) xs)
  parts xs i x d within is =
      ap frames (drop_more xs i d within ∙ ap (λ y. y ∷ drop (i + 1) xs) (sym is)) ∙ first x (drop (i + 1) xs)

  -- the frame at a place has a spelling, and so have the later ones
  pub here_spelled : (xs : List X) (i : ℕ) (x d : X) → i < length xs → x ≡ get_or xs i d
      → HaveSpellings p (frames (drop i xs)) → IsFrame p (frame x)
  here_spelled xs i x d within is all =
      let rest = frames (drop (i + 1) xs) in
      All-head (IsFrame p) (frame x) rest (All-same (IsFrame p) (frame x ∷ rest) (frames (drop i xs)) (sym (parts xs i x d within is)) all)

  pub rest_spelled : (xs : List X) (i : ℕ) (x d : X) → i < length xs → x ≡ get_or xs i d
      → HaveSpellings p (frames (drop i xs)) → HaveSpellings p (frames (drop (i + 1) xs))
  rest_spelled xs i x d within is all =
      All-rest (IsFrame p) (frame x) (frames (drop (i + 1) xs)) (frames (drop i xs)) (parts xs i x d within is) all

  -- the frame at a place is sent
  pub one_sent : (xs : List X) (i : ℕ) (x d : X) (done whole : List (List ℕ)) → i < length xs → x ≡ get_or xs i d
      → done ++ spelled p (frames (drop i xs)) ≡ whole
      → (done ++ spelling p (frame x) ∷ []) ++ spelled p (frames (drop (i + 1) xs)) ≡ whole
  one_sent xs i x d done whole within is was =
      append_assoc done (spelling p (frame x) ∷ []) (spelled p (frames (drop (i + 1) xs)))
      ∙ ap (λ l. done ++ spelled p l) (sym (parts xs i x d within is)) ∙ was

  -- all are sent
  pub all_sent : (xs : List X) (i : ℕ) (done whole : List (List ℕ)) → length xs ≤ i → done ++ spelled p (frames (drop i xs)) ≡ whole
      → done ≡ whole
  all_sent xs i done whole past was =
      sym (append-nil done) ∙ ap (λ l. done ++ spelled p l) (sym (ap frames (drop_all i xs past) ∙ none)) ∙ was
