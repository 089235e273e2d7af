-- What is known of a pair, before and after a change of it.
-- Cited above: All-found, pair_cmp-equal
use Rattle.std.proofs.Common.{◌≡◌, ℕ, ◌+◌, ◌≤◌, Bool, true, false, List, [], ◌∷◌, length, map, Option, None, Some, refl, sym, ap, ◌∙◌, arith, subst, if◌then◌else◌}
use Rattle.std.specs.BTreeMap.{insert_entry, is_at}
use Rattle.std.specs.Cmp.Lexicographic.{nat_list_cmp_total}
use Rattle.std.specs.List.{All}
use Rattle.std.specs.List.Sorted.{IsStrictlySortedBy}
use Rattle.std.specs.Map.{keys_of, lookup, set_value}
use Rattle.std.specs.Option.{IfNone, IfSome, IsSome, unwrap_or}
use Rattle.std.specs.Ordering.{is_eq}
use Rattle.std.specs.declared.cmp.Ordering.{Ordering}
use Rattle.std.specs.declared.cmp.Ordering.TheVariants.{Less, Equal, Greater}
use Rattle.std.proofs.lemmas.List.Elements.{All-cons, All-head, All-nil, All-tail}
use Rattle.tap_name.specs.Order.{name_cmp}
use Rattle.tap_name.proofs.Orders.{name_cmp-equal}
use Rattle.tap_register.proofs.Applied.{All-applied}
use Rattle.tap_register.proofs.Orderings.{is_equal}
use Rattle.tap_pointer.specs.declared.change.Change.{Change}
use Rattle.tap_pointer.specs.declared.pair.Pair.{Pair}
use Rattle.tap_pointer.specs.declared.hop.Hop.{Hop}
use Rattle.tap_pointer.specs.declared.state.PairState.{PairState}
use Rattle.tap_pointer.specs.declared.state.Pointer.{Pointer}
use Rattle.tap_pointer.specs.Pair.{pair_cmp, pair_cmp-total}
use Rattle.tap_pointer.specs.Pointers.{IsPairState, change_between, is_held_or_laid, nothing_known, held_or_laid_count, state_among, with_lay, with_laid, with_published}
use Rattle.tap_pointer.proofs.Entries.{All-put, count-put, one_if, put_in_place}

-- two pairs that compare as equal are one
pub pair_cmp-equal : (a b : Pair) → pair_cmp a b ≡ Equal → a ≡ b
pair_cmp-equal a b tied = by_object (name_cmp a.object b.object) refl
  where
    same : a.object ≡ b.object → a.server ≡ b.server → a ≡ b
    same objects servers =
        ap (λ object. record { object = object; server = a.server }) objects
        ∙ ap (λ server. record { object = b.object; server = server }) servers

    by_object : (order : Ordering) → name_cmp a.object b.object ≡ order → a ≡ b
    by_object Less is = let wrong : Less ≡ Equal = rw is at tied in absurd (cc)
    by_object Equal is =
        let servers : name_cmp a.server b.server ≡ Equal = rw is at tied in
        same (name_cmp-equal a.object b.object (ap is_eq is)) (name_cmp-equal a.server b.server (ap is_eq servers))
    by_object Greater is = let wrong : Greater ≡ Equal = rw is at tied in absurd (cc)

-- what holds of each pair holds of one that is found
pub All-found : (P : Pair × PairState → Type 0) (pair : Pair) (state : PairState) (pairs : List (Pair × PairState)) → All P pairs
    → lookup (is_at (pair_cmp pair)) pairs ≡ Some state → P (pair, state)
All-found P pair state [] all found = let wrong : None ≡ Some state = found in absurd (cc)
All-found P pair state (e ∷ pairs) all found =
    by_order (All-found P pair state pairs (All-tail P e pairs all)) (is_at (pair_cmp pair) e.0) refl
  where
    by_order : (lookup (is_at (pair_cmp pair)) pairs ≡ Some state → P (pair, state)) → (tied : Bool)
        → is_at (pair_cmp pair) e.0 ≡ tied → P (pair, state)
    by_order later true is =
        let same : e.0 ≡ pair = sym (pair_cmp-equal pair e.0 (is_equal (pair_cmp pair e.0) is)) in
        let here : Some e.1 ≡ Some state = rw is at found in
        let state_is : e.1 ≡ state = ap (λ s. unwrap_or s e.1) here in
        subst P (ap (λ p. (p, e.1)) same ∙ ap (λ s. (pair, s)) state_is) (All-head P e pairs all)
    by_order later false is = later (rw is at found)

module _ (owner : List ℕ) (pair : Pair) where
  -- nothing that is known is known as it should be
  pub nothing-known : IsPairState owner (pair, nothing_known)
  nothing-known = record {
    own = λ is. let wrong : false ≡ true = is in absurd (cc);
    levels_from = All-nil (λ r. 1 ≤ r.value.level);
    levels_to = All-nil (λ r. r.value.level ≤ length pair.object);
  }

  -- what is known of a pair among others is known as it should be
  pub known-among : (pairs : List (Pair × PairState)) → All (IsPairState owner) pairs → IsPairState owner (pair, state_among pairs pair)
  known-among pairs all = by_found (lookup (is_at (pair_cmp pair)) pairs) refl
    where
      by_found : (found : Option PairState) → lookup (is_at (pair_cmp pair)) pairs ≡ found
          → IsPairState owner (pair, unwrap_or found nothing_known)
      by_found None is = nothing-known
      by_found (Some state) is = All-found (IsPairState owner) pair state pairs all is

  module _ (state : PairState) (known : IsPairState owner (pair, state)) where
    pub known-published : pair.server ≡ owner → IsPairState owner (pair, with_published state true)
    known-published own = record { own = λ is. own; levels_from = known.levels_from; levels_to = known.levels_to }

    pub known-withdrawn : IsPairState owner (pair, with_published state false)
    known-withdrawn = record {
      own = λ is. let wrong : false ≡ true = is in absurd (cc);
      levels_from = known.levels_from;
      levels_to = known.levels_to;
    }

    pub known-laid : (hop : Option Hop) → IsPairState owner (pair, with_laid state hop)
    known-laid hop = record { own = known.own; levels_from = known.levels_from; levels_to = known.levels_to }

    pub known-with_lay : (from : List ℕ) (version : ℕ) (pointer : Pointer) → 1 ≤ pointer.level → pointer.level ≤ length pair.object
        → IsPairState owner (pair, with_lay state from version pointer)
    known-with_lay from version pointer least most = record {
      own = known.own;
      levels_from = All-applied name_cmp nat_list_cmp_total state.registers from version pointer (λ r. 1 ≤ r.value.level)
          known.levels_from least;
      levels_to = All-applied name_cmp nat_list_cmp_total state.registers from version pointer
          (λ r. r.value.level ≤ length pair.object) known.levels_to most;
    }

  -- the pairs are known as they should be after one of them was put in
  pub known-put : (pairs : List (Pair × PairState)) (state : PairState) → All (IsPairState owner) pairs → IsPairState owner (pair, state)
      → All (IsPairState owner) (insert_entry pair_cmp pairs pair state)
  known-put pairs state all known =
      All-put pair_cmp-total pair state (IsPairState owner)
      (λ other tied. subst (λ same. IsPairState owner (same, state)) (pair_cmp-equal pair other tied) known) pairs all

-- one for a pair that is held or laid, and none for another one
abbrev pub one_of : PairState → ℕ
one_of state = if is_held_or_laid state then 1 else 0

module _ (pairs : List (Pair × PairState)) (pair : Pair) where
  found_one : (found : Option PairState) → one_if is_held_or_laid found ≡ one_of (unwrap_or found nothing_known)
  found_one None = refl
  found_one (Some state) = refl

  -- how many pairs are held or laid after one of them was put in
  pub count-with_pair : (state : PairState) → IsStrictlySortedBy pair_cmp (keys_of pairs)
      → held_or_laid_count (insert_entry pair_cmp pairs pair state) + one_of (state_among pairs pair)
      ≡ held_or_laid_count pairs + one_of state
  count-with_pair state sorted =
      let counted = count-put pair_cmp-total is_held_or_laid pair state pairs sorted in
      let found = found_one (lookup (is_at (pair_cmp pair)) pairs) in
      omega (arith, counted, found)

-- a pair that is held or laid is counted
pub counted-among : (pairs : List (Pair × PairState)) (pair : Pair) → one_of (state_among pairs pair) ≤ held_or_laid_count pairs
counted-among [] pair = omega arith
counted-among (e ∷ pairs) pair = by_order (counted-among pairs pair) (is_at (pair_cmp pair) e.0) refl
  where
    more : (known : Bool) → is_held_or_laid e.1 ≡ known → held_or_laid_count (e ∷ pairs) ≡ one_of e.1 + held_or_laid_count pairs
    more true is = rw is (omega arith)
    more false is = rw is (omega arith)

    by_order : one_of (state_among pairs pair) ≤ held_or_laid_count pairs → (tied : Bool) → is_at (pair_cmp pair) e.0 ≡ tied
        → one_of (state_among (e ∷ pairs) pair) ≤ held_or_laid_count (e ∷ pairs)
    by_order later true is =
        let here : one_of (state_among (e ∷ pairs) pair) ≡ one_of e.1 = rw is refl in
        omega (arith, here, more (is_held_or_laid e.1) refl)
    by_order later false is =
        let there : one_of (state_among (e ∷ pairs) pair) ≡ one_of (state_among pairs pair) = rw is refl in
        omega (arith, there, later, more (is_held_or_laid e.1) refl)

-- no more pairs are held or laid than there are
pub count-most : (pairs : List (Pair × PairState)) → held_or_laid_count pairs ≤ length pairs
count-most [] = omega arith
count-most (e ∷ pairs) = by_state (count-most pairs) (is_held_or_laid e.1) refl
  where
    by_state : held_or_laid_count pairs ≤ length pairs → (known : Bool) → is_held_or_laid e.1 ≡ known
        → held_or_laid_count (e ∷ pairs) ≤ length (e ∷ pairs)
    by_state later true is = rw is (omega (arith, later))
    by_state later false is = rw is (omega (arith, later))

-- what is known of each pair is still as it should be after a change of each
pub known-map : (owner : List ℕ) (f : Pair × PairState → PairState)
    → ((e : Pair × PairState) → IsPairState owner e → IsPairState owner (e.0, f e))
    → (pairs : List (Pair × PairState)) → All (IsPairState owner) pairs → All (IsPairState owner) (map (λ e. (e.0, f e)) pairs)
known-map owner f keeps [] all = All-nil (IsPairState owner)
known-map owner f keeps (e ∷ pairs) all =
    All-cons (IsPairState owner) (e.0, f e) (map (λ e. (e.0, f e)) pairs) (keeps e (All-head (IsPairState owner) e pairs all))
    (known-map owner f keeps pairs (All-tail (IsPairState owner) e pairs all))

module _ (pairs : List (Pair × PairState)) (pair : Pair) (sorted : IsStrictlySortedBy pair_cmp (keys_of pairs)) where
  -- the state that a look-up finds, and that is written in its place
  pub found_state : (state : PairState) → lookup (is_at (pair_cmp pair)) pairs ≡ Some state → state_among pairs pair ≡ state
  found_state state found = ap (λ o. unwrap_or o nothing_known) found

  pub written_state : (state after : PairState) (new : List (Pair × PairState)) (f : PairState → PairState)
      → lookup (is_at (pair_cmp pair)) pairs ≡ Some state → new ≡ set_value (is_at (pair_cmp pair)) pairs after → after ≡ f state
      → new ≡ insert_entry pair_cmp pairs pair (f (state_among pairs pair))
  written_state state after new f found is after_is =
      is ∙ put_in_place pair_cmp-total pair after pairs sorted state found
      ∙ ap (insert_entry pair_cmp pairs pair) (after_is ∙ ap f (sym (found_state state found)))

  module _ (state : PairState) (change : Change) (is : change ≡ change_between (state_among pairs pair) state)
      (new : List (Pair × PairState)) (after : new ≡ insert_entry pair_cmp pairs pair state)
      (held_or_laid : ℕ) (counted : held_or_laid ≡ held_or_laid_count pairs) where
    was_one : (if change.was then 1 else 0) ≡ one_of (state_among pairs pair)
    was_one = ap (λ c. if c.was then 1 else 0) is

    is_one : (if change.is then 1 else 0) ≡ one_of state
    is_one = ap (λ c. if c.is then 1 else 0) is

    count_now : held_or_laid_count new + one_of (state_among pairs pair) ≡ held_or_laid_count pairs + one_of state
    count_now = ap (λ entries. held_or_laid_count entries + one_of (state_among pairs pair)) after ∙ count-with_pair pairs pair state sorted

    -- the count of the pairs that are held or laid, from before the change to after it
    pub count_from : (if change.was then 1 else 0) ≤ held_or_laid
    count_from = omega (arith, was_one, counted, counted-among pairs pair)

    pub count_to : (most : ℕ) → most ≡ length new → held_or_laid + (if change.is then 1 else 0) ≤ most + (if change.was then 1 else 0)
    count_to most all = omega (arith, was_one, is_one, counted, count_now, count-most new, all)

    pub count_put : (now : ℕ) → now + (if change.was then 1 else 0) ≡ held_or_laid + (if change.is then 1 else 0)
        → now ≡ held_or_laid_count new
    count_put now counted_now = omega (arith, was_one, is_one, counted, count_now, counted_now)

    pub put_keeps : (owner : List ℕ) (now : ℕ) → now + (if change.was then 1 else 0) ≡ held_or_laid + (if change.is then 1 else 0)
        → All (IsPairState owner) pairs → IsPairState owner (pair, state) → All (IsPairState owner) new × (now ≡ held_or_laid_count new)
    put_keeps owner now counted_now all known = (
      subst (All (IsPairState owner)) (sym after) (known-put owner pair pairs state all known),
      count_put now counted_now,
    )

-- what laying a known pair did: the change, and the pairs afterwards
pub record Lays (pairs new : List (Pair × PairState)) (pair : Pair) (hop : Option Hop) (change : Change) : Type 0 where
  pub is : change ≡ change_between (state_among pairs pair) (with_laid (state_among pairs pair) hop)
  pub after : new ≡ insert_entry pair_cmp pairs pair (with_laid (state_among pairs pair) hop)

pub lays_pair : (pairs new : List (Pair × PairState)) (pair : Pair) (hop : Option Hop) (laid : Option Change) (change : Change)
    → laid ≡ Some change
    → IfSome laid (λ r. r ≡ change_between (state_among pairs pair) (with_laid (state_among pairs pair) hop))
    → IfSome laid (λ r. new ≡ insert_entry pair_cmp pairs pair (with_laid (state_among pairs pair) hop))
    → Lays pairs new pair hop change
lays_pair pairs new pair hop laid change some is after = record {
  is = subst (λ o. IfSome o (λ r. r ≡ change_between (state_among pairs pair) (with_laid (state_among pairs pair) hop))) some is;
  after = subst (λ o. IfSome o (λ r. new ≡ insert_entry pair_cmp pairs pair (with_laid (state_among pairs pair) hop))) some after;
}

-- a pair that is found is changed
pub some_if_found : (found : Option PairState) (state : PairState) (change : Option Change) → found ≡ Some state
    → IfNone change (found ≡ None) → IsSome change
some_if_found found state None is absent = let wrong : None ≡ Some state = sym absent ∙ is in absurd (cc)
some_if_found found state (Some change) is absent = refl
