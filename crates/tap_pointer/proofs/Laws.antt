-- What each call leaves: what is known of every pair afterwards, and what pointers keep.
-- Cited above: are-all_withdrawn, are-lay_applied, are-none, are-published, are-reconciled, are-withdrawn, is_same, laid_sends_nothing,
-- lay_applied_lays_others, published_lays_others, put_lays_others, reconciled_is_laid, state_of-lay_applied, state_of-published, state_of-withdrawn,
-- withdrawn_lays_others, withdrawn_owner
use Rattle.std.proofs.Common.{◌≡◌, ℕ, ◌≤◌, Bool, true, false, List, [], ◌∷◌, length, map, Option, Some, refl, sym, ap, subst, ◌∙◌, inl, inr, if◌then◌else◌}
use Rattle.std.specs.BTreeMap.{insert_entry, is_at}
use Rattle.std.specs.List.{All}
use Rattle.std.specs.List.Sorted.{IsStrictlySortedBy}
use Rattle.std.specs.Map.{keys_of, lookup}
use Rattle.std.specs.Option.{unwrap_or}
use Rattle.std.specs.Ordering.{is_eq}
use Rattle.std.specs.declared.cmp.Ordering.{Ordering}
use Rattle.std.specs.declared.cmp.Ordering.TheVariants.{Less, Equal, Greater}
use Rattle.std.proofs.lemmas.Bool.{cases_Bool}
use Rattle.std.proofs.lemmas.List.Elements.{All-cons, All-head, All-nil, All-tail}
use Rattle.tap_table.specs.Table.{TableValue}
use Rattle.tap_pointer.specs.declared.pair.Pair.{Pair}
use Rattle.tap_pointer.specs.declared.state.PairState.{PairState}
use Rattle.tap_pointer.specs.declared.state.Pointer.{Pointer}
use Rattle.tap_pointer.specs.Pair.{pair_cmp, pair_cmp-total}
use Rattle.tap_pointer.specs.Pointers.{IsPairState, IsPointers, PointersValue, all_withdrawn, lay_applied, no_pointers, nothing_known, own_pair, published, owner_publishes, state_of, with_lay, with_laid, with_published, with_state, withdrawn}
use Rattle.tap_pointer.specs.Reconcile.{AreLaid, AreLaidBut, lays_numbered, reconcile_lays, reconciled, wanted_hop}
use Rattle.tap_pointer.proofs.Entries.{All-put, lookup-put, put_same, sorted-put}
use Rattle.tap_pointer.proofs.Known.{known-among, known-laid, known-map, known-put, known-published, known-with_lay, known-withdrawn, pair_cmp-equal}
use Rattle.tap_pointer.proofs.Layings.{all_laid, none_if_laid}

-- whether two pairs are one
abbrev pub is_same : Pair → Pair → Bool
is_same other pair = is_at (pair_cmp other) pair

-- the look-up law: a pair that was put in has its new state, and each other pair has what it had
pub state_of-with : (p : PointersValue) (pair : Pair) (state : PairState) (other : Pair)
    → state_of (with_state p pair state) other ≡ (if is_same other pair then state else state_of p other)
state_of-with p pair state other =
    ap (λ found. unwrap_or found nothing_known) (lookup-put pair_cmp-total pair state other p.pairs)
    ∙ either (is_same other pair) (lookup (is_at (pair_cmp other)) p.pairs)
  where
    either : (same : Bool) (found : Option PairState)
        → unwrap_or (if same then Some state else found) nothing_known ≡ (if same then state else unwrap_or found nothing_known)
    either true found = refl
    either false found = refl

pub state_of-published : (p : PointersValue) (object : List ℕ) (other : Pair)
    → state_of (published p object) other
    ≡ (if is_same other (own_pair p object) then with_published (state_of p (own_pair p object)) true else state_of p other)
state_of-published p object = state_of-with p (own_pair p object) (with_published (state_of p (own_pair p object)) true)

pub state_of-lay_applied : (p : PointersValue) (pair : Pair) (from : List ℕ) (version : ℕ) (pointer : Pointer) (other : Pair)
    → state_of (lay_applied p pair from version pointer) other
    ≡ (if is_same other pair then with_lay (state_of p pair) from version pointer else state_of p other)
state_of-lay_applied p pair from version pointer = state_of-with p pair (with_lay (state_of p pair) from version pointer)

-- a pair that compares as equal is the same, and so is what is known of it
same_state : (p : PointersValue) (pair other : Pair) → is_same other pair ≡ true → state_of p other ≡ state_of p pair
same_state p pair other same = ap (state_of p) (pair_cmp-equal other pair (equal (pair_cmp other pair) same))
  where
    equal : (order : Ordering) → is_eq order ≡ true → order ≡ Equal
    equal Less is = let wrong : false ≡ true = is in absurd (cc)
    equal Equal is = refl
    equal Greater is = let wrong : false ≡ true = is in absurd (cc)

pub state_of-withdrawn : (p : PointersValue) (object : List ℕ) (other : Pair)
    → state_of (withdrawn p object) other
    ≡ (if is_same other (own_pair p object) then with_published (state_of p (own_pair p object)) false else state_of p other)
state_of-withdrawn p object other =
    elim (cases_Bool (owner_publishes p object)) [
      | inl is ↦ rw is (state_of-with p (own_pair p object) (with_published (state_of p (own_pair p object)) false) other)
      | inr is_not ↦
          let own = own_pair p object in
          let stays : with_published (state_of p own) false ≡ state_of p own =
          ap (λ b. with_published (state_of p own) b) (sym is_not) in
          elim (cases_Bool (is_same other own)) [
            | inl same ↦ rw (is_not, same) (same_state p own other same ∙ sym stays)
            | inr apart ↦ rw (is_not, apart) refl
          ]
    ]

-- the owner stays when it withdraws an object
pub withdrawn_owner : (p : PointersValue) (object : List ℕ) → (withdrawn p object).owner ≡ p.owner
withdrawn_owner p object =
    elim (cases_Bool (owner_publishes p object)) [
      | inl is ↦ rw is refl
      | inr is_not ↦ rw is_not refl
    ]

-- withdrawing an object of whose pair something is known is putting it in as not published
pub withdrawn_put : (p : PointersValue) (object : List ℕ) → IsStrictlySortedBy pair_cmp (keys_of p.pairs)
    → lookup (is_at (pair_cmp (own_pair p object))) p.pairs ≡ Some (state_of p (own_pair p object))
    → with_state p (own_pair p object) (with_published (state_of p (own_pair p object)) false) ≡ withdrawn p object
withdrawn_put p object sorted found =
    elim (cases_Bool (owner_publishes p object)) [
      | inl is ↦ rw is refl
      | inr is_not ↦
          let own = own_pair p object in
          let stays : with_published (state_of p own) false ≡ state_of p own =
          ap (λ b. with_published (state_of p own) b) (sym is_not) in
          let same = put_same pair_cmp-total own (state_of p own) p.pairs sorted found in
          rw is_not (ap (with_state p own) stays ∙ ap (λ pairs. record p { pairs = pairs }) same)
    ]

-- after reconciling each pair is laid as wanted
pub reconciled_is_laid : (t : TableValue) (p : PointersValue) → AreLaid t (reconciled t p)
reconciled_is_laid t p = all_laid t p.pairs

-- if each pair is laid as wanted, reconciling sends nothing and changes nothing
pub laid_sends_nothing : (t : TableValue) (last : ℕ) (p : PointersValue) → AreLaid t p
    → (reconcile_lays t last p ≡ []) × (reconciled t p ≡ p)
laid_sends_nothing t last p laid =
    let nothing = none_if_laid t p.pairs laid in
    (ap (lays_numbered last) nothing.0, ap (λ pairs. record p { pairs = pairs }) nothing.1)

-- so reconciling twice sends nothing the second time
pub reconciling_twice : (t : TableValue) (last : ℕ) (p : PointersValue) → reconcile_lays t last (reconciled t p) ≡ []
reconciling_twice t last p = (laid_sends_nothing t last (reconciled t p) (reconciled_is_laid t p)).0

-- if each pair is laid as wanted, each but one is
pub laid_but_one : (t : TableValue) (pair : Pair) (p : PointersValue) → AreLaid t p → AreLaidBut t pair p
laid_but_one t pair p laid = each p.pairs laid
  where
    each : (pairs : List (Pair × PairState)) → All (λ e. e.1.laid ≡ wanted_hop t e) pairs
        → All (λ e. is_at (pair_cmp pair) e.0 ≡ false → e.1.laid ≡ wanted_hop t e) pairs
    each [] all = All-nil (λ e. is_at (pair_cmp pair) e.0 ≡ false → e.1.laid ≡ wanted_hop t e)
    each (e ∷ pairs) all =
        All-cons (λ e. is_at (pair_cmp pair) e.0 ≡ false → e.1.laid ≡ wanted_hop t e) e pairs
        (λ apart. All-head (λ e. e.1.laid ≡ wanted_hop t e) e pairs all)
        (each pairs (All-tail (λ e. e.1.laid ≡ wanted_hop t e) e pairs all))

-- if each pair is laid as wanted, each but one still is once that one was put in
pub put_lays_others : (t : TableValue) (pair : Pair) (state : PairState) (p : PointersValue) → AreLaid t p
    → AreLaidBut t pair (with_state p pair state)
put_lays_others t pair state p laid = each p.pairs laid
  where
    Unless : Pair × PairState → Type 0
    Unless e = is_at (pair_cmp pair) e.0 ≡ false → e.1.laid ≡ wanted_hop t e

    each : (pairs : List (Pair × PairState)) → All (λ e. e.1.laid ≡ wanted_hop t e) pairs
        → All Unless (insert_entry pair_cmp pairs pair state)
    each pairs all =
        All-put pair_cmp-total pair state Unless
        (λ other tied apart. let wrong : true ≡ false = sym (ap is_eq tied) ∙ apart in absurd (cc))
        pairs (laid_but_one t pair (record p { pairs = pairs }) all)

-- so it is after a step that publishes or withdraws an object, or takes a Lay, and changes no primary
pub published_lays_others : (t : TableValue) (object : List ℕ) (p : PointersValue) → AreLaid t p
    → AreLaidBut t (own_pair p object) (published p object)
published_lays_others t object p =
    put_lays_others t (own_pair p object) (with_published (state_of p (own_pair p object)) true) p

pub withdrawn_lays_others : (t : TableValue) (object : List ℕ) (p : PointersValue) → AreLaid t p
    → AreLaidBut t (own_pair p object) (withdrawn p object)
withdrawn_lays_others t object p laid =
    elim (cases_Bool (owner_publishes p object)) [
      | inl is ↦ rw is (put_lays_others t (own_pair p object) (with_published (state_of p (own_pair p object)) false) p laid)
      | inr is_not ↦ rw is_not (laid_but_one t (own_pair p object) p laid)
    ]

pub lay_applied_lays_others : (t : TableValue) (pair : Pair) (from : List ℕ) (version : ℕ) (pointer : Pointer) (p : PointersValue)
    → AreLaid t p → AreLaidBut t pair (lay_applied p pair from version pointer)
lay_applied_lays_others t pair from version pointer p =
    put_lays_others t pair (with_lay (state_of p pair) from version pointer) p

-- what pointers keep, after each call
module _ (p : PointersValue) (are : IsPointers p) where
  put : (pair : Pair) (state : PairState) → IsPairState p.owner (pair, state) → IsPointers (with_state p pair state)
  put pair state known = record {
    ascending = sorted-put pair_cmp-total pair state p.pairs are.ascending;
    known = known-put p.owner pair p.pairs state are.known known;
  }

  known_of : (pair : Pair) → IsPairState p.owner (pair, state_of p pair)
  known_of pair = known-among p.owner pair p.pairs are.known

  pub are-published : (object : List ℕ) → IsPointers (published p object)
  are-published object =
      let own = own_pair p object in
      put own (with_published (state_of p own) true) (known-published p.owner own (state_of p own) (known_of own) refl)

  pub are-withdrawn : (object : List ℕ) → IsPointers (withdrawn p object)
  are-withdrawn object =
      let own = own_pair p object in
      elim (cases_Bool (owner_publishes p object)) [
        | inl is ↦
            rw is (put own (with_published (state_of p own) false) (known-withdrawn p.owner own (state_of p own) (known_of own)))
        | inr is_not ↦ rw is_not are
      ]

  pub are-lay_applied : (pair : Pair) (from : List ℕ) (version : ℕ) (pointer : Pointer) → 1 ≤ pointer.level
      → pointer.level ≤ length pair.object → IsPointers (lay_applied p pair from version pointer)
  are-lay_applied pair from version pointer least most =
      put pair (with_lay (state_of p pair) from version pointer)
      (known-with_lay p.owner pair (state_of p pair) (known_of pair) from version pointer least most)

  -- a change of each state, which leaves the pairs
  change_all : (f : Pair × PairState → PairState) → ((e : Pair × PairState) → IsPairState p.owner e → IsPairState p.owner (e.0, f e))
      → IsPointers (record p { pairs = map (λ e. (e.0, f e)) p.pairs })
  change_all f keeps = record {
    ascending = subst (IsStrictlySortedBy pair_cmp) (sym (same_keys p.pairs)) are.ascending;
    known = known-map p.owner f keeps p.pairs are.known;
  }
    where
      same_keys : (pairs : List (Pair × PairState)) → keys_of (map (λ e. (e.0, f e)) pairs) ≡ keys_of pairs
      same_keys [] = refl
      same_keys (e ∷ pairs) = ap (λ keys. e.0 ∷ keys) (same_keys pairs)

  pub are-all_withdrawn : IsPointers (all_withdrawn p)
  are-all_withdrawn = change_all (λ e. with_published e.1 false) (λ e known. known-withdrawn p.owner e.0 e.1 known)

  pub are-reconciled : (t : TableValue) → IsPointers (reconciled t p)
  are-reconciled t =
      change_all (λ e. with_laid e.1 (wanted_hop t e)) (λ e known. known-laid p.owner e.0 e.1 known (wanted_hop t e))

pub are-none : (owner : List ℕ) → IsPointers (no_pointers owner)
unfolding IsStrictlySortedBy
are-none owner = record { ascending = tt; known = All-nil (IsPairState owner) }
