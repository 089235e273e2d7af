-- What is related in order in a flat list stays so if each of its parts is thinned.
use Rattle.std.proofs.Common.{suc, List, [], ◌∷◌, ◌++◌, All, AllPairs, arith}
use Rattle.std.specs.List.{flat_map}
use Rattle.std.proofs.lemmas.List.Elements.{All-append, All-cons, All-head, All-nil, All-tail, All-weaker}
use Rattle.std.proofs.lemmas.List.Kept.{AllPairs-cons}
use Rattle.tap_register.proofs.Lists.{AllPairs-append}

module _ {X : Type 0} where
  front : (P : X → Type 0) (xs ys : List X) → All P (xs ++ ys) → All P xs
  front P [] ys all = All-nil P
  front P (x ∷ xs) ys all = All-cons P x xs (All-head P x (xs ++ ys) all) (front P xs ys (All-tail P x (xs ++ ys) all))

  after : (P : X → Type 0) (xs ys : List X) → All P (xs ++ ys) → All P ys
  after P [] ys all = all
  after P (x ∷ xs) ys all = after P xs ys (All-tail P x (xs ++ ys) all)

  module _ (R : X → X → Type 0) where
    pub pairs-first : (x : X) (xs : List X) → AllPairs R (x ∷ xs) → All (R x) xs
    pairs-first x xs pairs k d within = pairs 0 (suc k) d (omega arith) (omega arith)

    pub pairs-rest : (x : X) (xs : List X) → AllPairs R (x ∷ xs) → AllPairs R xs
    pairs-rest x xs pairs i j d before within = pairs (suc i) (suc j) d (omega arith) (omega arith)

    pub pairs-nil : AllPairs R []
    pairs-nil i j d before within = absurd (omega arith)

    pairs-front : (xs ys : List X) → AllPairs R (xs ++ ys) → AllPairs R xs
    pairs-front [] ys pairs = pairs-nil
    pairs-front (x ∷ xs) ys pairs =
        AllPairs-cons R x xs (front (R x) xs ys (pairs-first x (xs ++ ys) pairs)) (pairs-front xs ys (pairs-rest x (xs ++ ys) pairs))

    pairs-after : (xs ys : List X) → AllPairs R (xs ++ ys) → AllPairs R ys
    pairs-after [] ys pairs = pairs
    pairs-after (x ∷ xs) ys pairs = pairs-after xs ys (pairs-rest x (xs ++ ys) pairs)

    pairs-across : (xs ys : List X) → AllPairs R (xs ++ ys) → All (λ x. All (R x) ys) xs
    pairs-across [] ys pairs = All-nil (λ x. All (R x) ys)
    pairs-across (x ∷ xs) ys pairs =
        All-cons (λ z. All (R z) ys) x xs (after (R x) xs ys (pairs-first x (xs ++ ys) pairs))
        (pairs-across xs ys (pairs-rest x (xs ++ ys) pairs))

-- each part of g is thinned from that of f: what holds of all of the one holds of all of the other, and so do pairs
module _ {A X : Type 0} (f g : A → List X) (all : (a : A) (P : X → Type 0) → All P (f a) → All P (g a)) where
  All-thinned : (P : X → Type 0) (parts : List A) → All P (flat_map f parts) → All P (flat_map g parts)
  All-thinned P [] whole = All-nil P
  All-thinned P (a ∷ parts) whole =
      All-append P (g a) (flat_map g parts) (all a P (front P (f a) (flat_map f parts) whole))
      (All-thinned P parts (after P (f a) (flat_map f parts) whole))

  pub AllPairs-thinned : (R : X → X → Type 0) → ((a : A) → AllPairs R (f a) → AllPairs R (g a)) → (parts : List A)
      → AllPairs R (flat_map f parts) → AllPairs R (flat_map g parts)
  AllPairs-thinned R pairs [] whole = pairs-nil R
  AllPairs-thinned R pairs (a ∷ parts) whole =
      let across = pairs-across R (f a) (flat_map f parts) whole in
      AllPairs-append R (g a) (flat_map g parts) (pairs a (pairs-front R (f a) (flat_map f parts) whole))
      (AllPairs-thinned R pairs parts (pairs-after R (f a) (flat_map f parts) whole))
      (all a (λ x. All (R x) (flat_map g parts))
      (All-weaker (λ x. All (R x) (flat_map f parts)) (λ x. All (R x) (flat_map g parts)) (λ x later. All-thinned (R x) parts later)
      (f a) across))
