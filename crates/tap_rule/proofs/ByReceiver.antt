-- The words of links by receiver: they are the same words, and ascend.
-- Cited above: by_receiver-permutation
use Rattle.std.proofs.Common.{◌≡◌, List, [], ◌∷◌, All, true, false, arith, sym, inl, inr}
use Rattle.std.specs.List.{AllPairs}
use Rattle.std.specs.List.Sorted.{IsPermutation}
use Rattle.std.specs.Ordering.{is_gt, ordering_reverse}
use Rattle.std.specs.declared.cmp.Ordering.{Ordering}
use Rattle.std.specs.declared.cmp.Ordering.TheVariants.{Less, Equal, Greater}
use Rattle.std.proofs.lemmas.Bool.{cases_Bool, true≢false}
use Rattle.std.proofs.lemmas.Cmp.{nat_list_cmp_total, upto}
use Rattle.std.proofs.lemmas.List.Elements.{All-cons, All-nil, All-weaker}
use Rattle.std.proofs.lemmas.List.Kept.{AllPairs-cons}
use Rattle.std.proofs.lemmas.List.Sorted.{All-permutation, IsPermutation-cons, IsPermutation-middle, IsPermutation-refl, IsPermutation-trans}
use Rattle.tap_name.specs.Order.{name_cmp}
use Rattle.tap_table.specs.declared.tie.Tie.{Tie}
use Rattle.tap_rule.specs.Sending.{by_receiver, inserted_by_receiver}

inserted-permutation : (word : Tie) (words : List Tie) → IsPermutation (word ∷ words) (inserted_by_receiver word words)
unfolding inserted_by_receiver
inserted-permutation word [] = IsPermutation-refl (word ∷ [])
inserted-permutation word (first ∷ others) =
    elim (cases_Bool (is_gt (name_cmp word.to first.to))) [
      | inl e ↦
          rw e (IsPermutation-trans (word ∷ first ∷ others) (first ∷ word ∷ others) (first ∷ inserted_by_receiver word others)
          (IsPermutation-middle (word ∷ []) first others)
          (IsPermutation-cons first (word ∷ others) (inserted_by_receiver word others) (inserted-permutation word others)))
      | inr e ↦ rw e (IsPermutation-refl (word ∷ first ∷ others))
    ]

-- the words by receiver are the same words
pub by_receiver-permutation : (words : List Tie) → IsPermutation words (by_receiver words)
unfolding by_receiver
by_receiver-permutation [] = IsPermutation-refl []
by_receiver-permutation (word ∷ words) =
    IsPermutation-trans (word ∷ words) (word ∷ by_receiver words) (inserted_by_receiver word (by_receiver words))
    (IsPermutation-cons word words (by_receiver words) (by_receiver-permutation words)) (inserted-permutation word (by_receiver words))

-- the receiver of one word isn't above that of another
abbrev IsUpTo : Tie → Tie → Type 0
IsUpTo a b = is_gt (name_cmp a.to b.to) ≡ false

-- no receiver is above a later one
abbrev AreRising : List Tie → Type 0
AreRising [] = Unit {0}
AreRising (first ∷ others) = All (IsUpTo first) others × AreRising others

-- of two orders that are the reverse of each other, one at most is above
not_both : (a b : Tie) → is_gt (name_cmp a.to b.to) ≡ true → IsUpTo b a
not_both a b above = elim (cases_Bool (is_gt (name_cmp b.to a.to))) [
  | inl over ↦ absurd (both (name_cmp a.to b.to) above (rw (nat_list_cmp_total.antisymm b.to a.to) at over))
  | inr up ↦ up
]
  where
    both : (order : Ordering) → is_gt order ≡ true → is_gt (ordering_reverse order) ≡ true → ⊥
    both Less above over = true≢false (sym above)
    both Equal above over = true≢false (sym above)
    both Greater above over = true≢false (sym over)

inserted-rising : (word : Tie) (words : List Tie) → AreRising words → AreRising (inserted_by_receiver word words)
unfolding inserted_by_receiver
inserted-rising word [] rising = (All-nil (IsUpTo word), tt)
inserted-rising word (first ∷ others) rising =
    elim (cases_Bool (is_gt (name_cmp word.to first.to))) [
      | inl e ↦
          rw e (
            All-permutation (IsUpTo first) (word ∷ others) (inserted_by_receiver word others) (inserted-permutation word others)
                (All-cons (IsUpTo first) word others (not_both word first e) rising.0),
            inserted-rising word others rising.1,
          )
      | inr e ↦
          rw e (
            All-cons (IsUpTo word) first others e
                (All-weaker (IsUpTo first) (IsUpTo word) (λ x up. upto nat_list_cmp_total word.to first.to x.to e up) others rising.0),
            rising,
          )
    ]

by_receiver-rising : (words : List Tie) → AreRising (by_receiver words)
unfolding by_receiver
by_receiver-rising [] = tt
by_receiver-rising (word ∷ words) = inserted-rising word (by_receiver words) (by_receiver-rising words)

all_pairs : (words : List Tie) → AreRising words → AllPairs IsUpTo words
all_pairs [] rising = λ i j d before within. absurd (omega (arith, within))
all_pairs (first ∷ others) rising = AllPairs-cons IsUpTo first others rising.0 (all_pairs others rising.1)

-- and no receiver is above a later one
pub by_receiver-ascending : (words : List Tie) → AllPairs (λ a b. is_gt (name_cmp a.to b.to) ≡ false) (by_receiver words)
by_receiver-ascending words = all_pairs (by_receiver words) (by_receiver-rising words)
