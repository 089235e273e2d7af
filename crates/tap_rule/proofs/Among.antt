-- What is among the elements of a list: of two lists, of a mapped one, and of words in order.
-- Cited above: all_among, among-by_receiver_from, among-either, among-first, among-inserted_from, among-map, among-map_from, among-second, among_all
use Rattle.std.proofs.Common.{◌≡◌, ◌⊎◌, List, [], ◌∷◌, ◌++◌, map, All, Bool, true, false, cond, ap, inl, inr, refl, subst, sym}
use Rattle.std.proofs.lemmas.List.Elements.{All-cons, All-head, All-nil, All-tail}
use Rattle.std.specs.Ordering.{is_gt}
use Rattle.tap_name.specs.Order.{name_cmp}
use Rattle.tap_table.specs.declared.tie.Tie.{Tie}
use Rattle.tap_rule.specs.Sending.{by_receiver, inserted_by_receiver}
use Rattle.tap_rule.specs.Sent.{IsAmong}

module _ {A : Type 0} where
  -- what is among the first or the second ones is among both
  pub among-first : (x : A) (xs ys : List A) → IsAmong x xs → IsAmong x (xs ++ ys)
  among-first x [] ys among = absurd among
  among-first x (z ∷ zs) ys (inl is) = inl is
  among-first x (z ∷ zs) ys (inr later) = inr (among-first x zs ys later)

  pub among-second : (x : A) (xs ys : List A) → IsAmong x ys → IsAmong x (xs ++ ys)
  among-second x [] ys among = among
  among-second x (z ∷ zs) ys among = inr (among-second x zs ys among)

  -- and back
  pub among-either : (x : A) (xs ys : List A) → IsAmong x (xs ++ ys) → IsAmong x xs ⊎ IsAmong x ys
  among-either x [] ys among = inr among
  among-either x (z ∷ zs) ys (inl is) = inl (inl is)
  among-either x (z ∷ zs) ys (inr later) =
      elim (among-either x zs ys later) [ inl first ↦ inl (inr first) | inr second ↦ inr second ]

-- what holds of each that is among a list holds of all of it, and the other way round
module _ {A : Type 0} (P : A → Type 0) where
  pub all_among : (xs : List A) → ((x : A) → IsAmong x xs → P x) → All P xs
  all_among [] each = All-nil P
  all_among (x ∷ xs) each = All-cons P x xs (each x (inl refl)) (all_among xs (λ y among. each y (inr among)))

  pub among_all : (xs : List A) → All P xs → (x : A) → IsAmong x xs → P x
  among_all [] all x among = absurd among
  among_all (y ∷ xs) all x (inl is) = subst P (sym is) (All-head P y xs all)
  among_all (y ∷ xs) all x (inr later) = among_all xs (All-tail P y xs all) x later

module _ {A B : Type 0} (f : A → B) where
  -- what comes of one of these is among what comes of all, and back
  pub among-map : (x : A) (xs : List A) → IsAmong x xs → IsAmong (f x) (map f xs)
  among-map x [] among = absurd among
  among-map x (y ∷ ys) (inl is) = inl (ap f is)
  among-map x (y ∷ ys) (inr later) = inr (among-map x ys later)

  pub among-map_from : (y : B) (xs : List A) → IsAmong y (map f xs) → (x : A) × IsAmong x xs × (y ≡ f x)
  among-map_from y [] among = absurd among
  among-map_from y (x ∷ xs) (inl is) = (x, inl refl, is)
  among-map_from y (x ∷ xs) (inr later) = let found = among-map_from y xs later in (found.0, inr found.1, found.2)

-- what is among words of which the first comes before or after another one
step_in : (x word first : Tie) (others rest : List Tie) (after : Bool) → ((x ≡ word) ⊎ IsAmong x others → IsAmong x rest)
    → (x ≡ word) ⊎ IsAmong x (first ∷ others) → IsAmong x (cond after (first ∷ rest) (word ∷ first ∷ others))
step_in x word first others rest true later (inl is) = inr (later (inl is))
step_in x word first others rest true later (inr (inl is)) = inl is
step_in x word first others rest true later (inr (inr among)) = inr (later (inr among))
step_in x word first others rest false later among = among

step_out : (x word first : Tie) (others rest : List Tie) (after : Bool) → (IsAmong x rest → (x ≡ word) ⊎ IsAmong x others)
    → IsAmong x (cond after (first ∷ rest) (word ∷ first ∷ others)) → (x ≡ word) ⊎ IsAmong x (first ∷ others)
step_out x word first others rest true later (inl is) = inr (inl is)
step_out x word first others rest true later (inr among) =
    elim (later among) [ inl is ↦ inl is | inr other ↦ inr (inr other) ]
step_out x word first others rest false later among = among

-- a word that is inserted is among the words then, and so are the others, and no more
pub among-inserted : (x word : Tie) (words : List Tie) → (x ≡ word) ⊎ IsAmong x words → IsAmong x (inserted_by_receiver word words)
unfolding inserted_by_receiver
among-inserted x word [] among = among
among-inserted x word (first ∷ others) among =
    step_in x word first others (inserted_by_receiver word others) (is_gt (name_cmp word.to first.to)) (among-inserted x word others) among

pub among-inserted_from : (x word : Tie) (words : List Tie) → IsAmong x (inserted_by_receiver word words) → (x ≡ word) ⊎ IsAmong x words
unfolding inserted_by_receiver
among-inserted_from x word [] among = among
among-inserted_from x word (first ∷ others) among =
    step_out x word first others (inserted_by_receiver word others) (is_gt (name_cmp word.to first.to))
    (among-inserted_from x word others) among

-- the words in order are the words
pub among-by_receiver : (x : Tie) (words : List Tie) → IsAmong x words → IsAmong x (by_receiver words)
unfolding by_receiver
among-by_receiver x [] among = among
among-by_receiver x (word ∷ words) (inl is) = among-inserted x word (by_receiver words) (inl is)
among-by_receiver x (word ∷ words) (inr later) =
    among-inserted x word (by_receiver words) (inr (among-by_receiver x words later))

pub among-by_receiver_from : (x : Tie) (words : List Tie) → IsAmong x (by_receiver words) → IsAmong x words
unfolding by_receiver
among-by_receiver_from x [] among = among
among-by_receiver_from x (word ∷ words) among =
    elim (among-inserted_from x word (by_receiver words) among) [
      | inl is ↦ inl is
      | inr later ↦ inr (among-by_receiver_from x words later)
    ]
