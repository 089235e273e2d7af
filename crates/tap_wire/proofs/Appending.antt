-- bytes written piece by piece, where there is room for all of them
use Rattle.std.proofs.Common.{◌≡◌, ◌<◌, ◌≤◌, ◌++◌, ◌+◌, ℕ, suc, List, [], ◌∷◌, length, take, drop, get_or, arith, ap, sym, subst, ◌∙◌, append_assoc, length-append}
use Rattle.std.specs.List.{flat_map}
use Rattle.std.proofs.lemmas.Grind.{flat_map-append}
use Rattle.std.proofs.lemmas.List.{take_more, append-nil, take_all}
use Rattle.std.proofs.lemmas.List.Concat.{flat_map-cons}
use Rattle.std.proofs.Math.Seq.{drop-cons}
use Rattle.byteorder.specs.Numbers.{length-bytes_high_first}
use Rattle.tap_wire.specs.Writing.{HasRoom, Puts}

-- how many bytes pieces have
pub ruleset sizes = (length-append, append_assoc, length-bytes_high_first)

-- one piece and then another are both of them
pub both : (a b c : List ℕ) (at mid end : ℕ) (x y : List ℕ) → Puts a at x b mid → Puts b mid y c end → Puts a at (x ++ y) c end
both a b c at mid end x y first second = record {
  items = second.items ∙ ap (λ (z : List ℕ). z ++ y) first.items ∙ append_assoc (take at a) x y;
  past = omega (arith, first.past, second.past, length-append x y);
  len = omega (arith, first.len, second.len);
}

-- ---- a piece for each element of a list

-- what is left is the piece of this element and then those of the others
next_piece : {X : Type 0} (f : X → List ℕ) (xs : List X) (i : ℕ) (x d : X) → i < length xs → x ≡ get_or xs i d
    → flat_map f (drop i xs) ≡ f x ++ flat_map f (drop (i + 1) xs)
next_piece f xs i x d within is =
    let next : suc i ≡ i + 1 = omega arith in
    ap (flat_map f) (drop-cons xs i d within) ∙ flat_map-cons f (get_or xs i d) (drop (suc i) xs)
    ∙ ap (λ y. f y ++ flat_map f (drop (suc i) xs)) (sym is) ∙ ap (λ k. f x ++ flat_map f (drop k xs)) next

-- room for what is left has room for this piece
pub piece_fits : {X : Type 0} (f : X → List ℕ) (xs : List X) (i : ℕ) (x d : X) (out : List ℕ) (at : ℕ) → i < length xs → x ≡ get_or xs i d
    → HasRoom out at (flat_map f (drop i xs)) → HasRoom out at (f x)
piece_fits f xs i x d out at within is room =
    omega (arith, ap (λ (z : List ℕ). length z) (next_piece f xs i x d within is), length-append (f x) (flat_map f (drop (i + 1) xs)), room)

-- and after this piece room for the others
pub others_fit : {X : Type 0} (f : X → List ℕ) (xs : List X) (i : ℕ) (x d : X) (now next : List ℕ) (at past : ℕ) → i < length xs
    → x ≡ get_or xs i d → HasRoom now at (flat_map f (drop i xs)) → Puts now at (f x) next past
    → HasRoom next past (flat_map f (drop (i + 1) xs))
others_fit f xs i x d now next at past within is room more =
    omega (
      arith,
      ap (λ (z : List ℕ). length z) (next_piece f xs i x d within is),
      length-append (f x) (flat_map f (drop (i + 1) xs)),
      room,
      more.past,
      more.len,
    )

-- one more piece is written
pub one_more : {X : Type 0} (f : X → List ℕ) (xs : List X) (i : ℕ) (x d : X) (old now next : List ℕ) (start at past : ℕ) → i < length xs
    → x ≡ get_or xs i d → Puts old start (flat_map f (take i xs)) now at → Puts now at (f x) next past
    → Puts old start (flat_map f (take (i + 1) xs)) next past
one_more f xs i x d old now next start at past within is so_far more =
    let joined : flat_map f (take i xs) ++ f x ≡ flat_map f (take (i + 1) xs) =
    ap (λ y. flat_map f (take i xs) ++ f y) is
    ∙ ap (λ (z : List ℕ). flat_map f (take i xs) ++ z) (sym (flat_map-cons f (get_or xs i d) [] ∙ append-nil (f (get_or xs i d))))
    ∙ sym (flat_map-append f (take i xs) (get_or xs i d ∷ [])) ∙ ap (flat_map f) (sym (take_more xs i d within)) in
    subst (λ z. Puts old start z next past) joined (both old now next start at past (flat_map f (take i xs)) (f x) so_far more)

-- in the end all pieces are written
pub all_added : {X : Type 0} (f : X → List ℕ) (xs : List X) (i : ℕ) (old now : List ℕ) (start at : ℕ) → length xs ≤ i
    → Puts old start (flat_map f (take i xs)) now at → Puts old start (flat_map f xs) now at
all_added f xs i old now start at past so_far = subst (λ ys. Puts old start (flat_map f ys) now at) (take_all i xs past) so_far

-- bytes that were written from the first place to the last are all there are
pub whole : (old bytes new : List ℕ) (end : ℕ) → length bytes ≡ length old → Puts old 0 bytes new end → new ≡ bytes
whole old bytes new end fills put = sym (take_all end new (omega (arith, put.past, put.len, fills))) ∙ put.items
