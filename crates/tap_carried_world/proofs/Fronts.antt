-- Fronts of a group, and what holds of each record of one.
use Rattle.std.proofs.Common.{◌≡◌, ℕ, ◌+◌, ◌≤◌, List, [], ◌∷◌, ◌++◌, length, take, All, ap, sym, subst, ◌∙◌, append-nil, append_assoc}
use Rattle.std.proofs.lemmas.List.{take-append-le}
use Rattle.std.proofs.lemmas.List.Elements.{All-cons, All-head, All-nil, All-tail}
use Rattle.std.proofs.Math.Seq.{take-append-add}
use Rattle.tap_log.specs.declared.record.Record.{Record}
use Rattle.tap_log.specs.Log.{EachFrom}

-- ---- each record of a front

module _ (P : List Record → Record → Type 0) where
  pub each_front : (before xs ys : List Record) → EachFrom P before (xs ++ ys) → EachFrom P before xs
  each_front before [] ys each = tt
  each_front before (x ∷ xs) ys each = (each.0, each_front (before ++ x ∷ []) xs ys each.1)

  pub each_rest : (before xs ys : List Record) → EachFrom P before (xs ++ ys) → EachFrom P (before ++ xs) ys
  each_rest before [] ys each = subst (λ l. EachFrom P l ys) (sym (append-nil before)) each
  each_rest before (x ∷ xs) ys each =
      subst (λ l. EachFrom P l ys) (append_assoc before (x ∷ []) xs) (each_rest (before ++ x ∷ []) xs ys each.1)

  pub each_more : (before xs ys : List Record) → EachFrom P before xs → EachFrom P (before ++ xs) ys → EachFrom P before (xs ++ ys)
  each_more before [] ys each more = subst (λ l. EachFrom P l ys) (append-nil before) more
  each_more before (x ∷ xs) ys each more = (
    each.0,
    each_more (before ++ x ∷ []) xs ys each.1 (subst (λ l. EachFrom P l ys) (sym (append_assoc before (x ∷ []) xs)) more),
  )

-- ---- a group that was cut

-- what stands of a group are its first records and some of those that follow
pub front_of : (group first items rest : List Record) (kept : ℕ) → group ≡ first ++ (items ++ rest) → kept ≤ length items
    → take (length first + kept) group ≡ first ++ take kept items
front_of group first items rest kept is few =
    ap (take (length first + kept)) is ∙ take-append-add first (items ++ rest) kept
    ∙ ap (λ l. first ++ l) (take-append-le kept items rest few)

-- ---- what holds of each element

pub all_front : {X : Type 0} (P : X → Type 0) (xs ys : List X) → All P (xs ++ ys) → All P xs
all_front P [] ys all = All-nil P
all_front P (x ∷ xs) ys all =
    All-cons P x xs (All-head P x (xs ++ ys) all) (all_front P xs ys (All-tail P x (xs ++ ys) all))
