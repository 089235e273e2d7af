-- The entries of an ordered map after one of them was put in: what its key and the others find, and what stays.
-- Cited above: All-put, lookup-put, sorted-put
use Rattle.std.proofs.Common.{◌≡◌, ℕ, ◌+◌, Bool, false, List, [], ◌∷◌, length, filter, Option, None, Some, refl, sym, ap, ◌∙◌, inl, inr, arith, if◌then◌else◌}
use Rattle.std.specs.BTreeMap.{insert_entry, is_at}
use Rattle.std.specs.Cmp.{IsTotalOrder}
use Rattle.std.specs.List.{All, AllByRecursion}
use Rattle.std.specs.List.Sorted.{IsStrictlySortedBy}
use Rattle.std.specs.Map.{keys_of, lookup, set_value}
use Rattle.std.specs.Ordering.{is_eq, ordering_reverse}
use Rattle.std.specs.declared.cmp.Ordering.{Ordering}
use Rattle.std.specs.declared.cmp.Ordering.TheVariants.{Less, Equal, Greater}
use Rattle.std.proofs.lemmas.Bool.{cases_Bool}
use Rattle.std.proofs.lemmas.Cmp.{alike_right, tied_itself}
use Rattle.std.proofs.lemmas.List.Elements.{All-cons, All-head, All-nil, All-tail}
use Rattle.std.proofs.lemmas.Map.{lookup-none}
use Rattle.std.proofs.lemmas.Map.Entries.{none_below_head}
use Rattle.std.proofs.lemmas.Map.Keys.{sorted_tail}
use Rattle.std.proofs.lemmas.Map.Steps.{set_value_same}
use Rattle.tap_register.proofs.Orderings.{is_equal}

module _ {K X : Type 0} {R : K → K → Ordering} (total : IsTotalOrder R) (k : K) (v : X) where
  -- writing the value of a key that is there is putting it in
  pub put_in_place : (es : List (K × X)) → IsStrictlySortedBy R (keys_of es) → (was : X) → lookup (is_at (R k)) es ≡ Some was
      → set_value (is_at (R k)) es v ≡ insert_entry R es k v
  put_in_place [] sorted was found = let wrong : None ≡ Some was = found in absurd (cc)
  put_in_place (e ∷ es) sorted was found =
      by_order (put_in_place es (sorted_tail R e.0 (keys_of es) sorted) was) (R k e.0) refl
    where
      by_order : (lookup (is_at (R k)) es ≡ Some was → set_value (is_at (R k)) es v ≡ insert_entry R es k v)
          → (order : Ordering) → R k e.0 ≡ order → set_value (is_at (R k)) (e ∷ es) v ≡ insert_entry R (e ∷ es) k v
      by_order later Less is =
          let none = lookup-none (is_at (R k)) (e ∷ es) (none_below_head total k e es sorted is) in
          let wrong : None ≡ Some was = sym none ∙ found in absurd (cc)
      by_order later Equal is = rw is refl
      by_order later Greater is = rw is (ap (λ more. e ∷ more) (later (rw is at found)))

  -- putting in what is there changes nothing
  pub put_same : (es : List (K × X)) → IsStrictlySortedBy R (keys_of es) → lookup (is_at (R k)) es ≡ Some v → insert_entry R es k v ≡ es
  put_same es sorted found = sym (put_in_place es sorted v found) ∙ set_value_same (is_at (R k)) es v found

  -- the key finds the value, and other keys find what they did
  pub lookup-put : (other : K) (es : List (K × X)) → lookup (is_at (R other)) (insert_entry R es k v)
      ≡ (if is_eq (R other k) then Some v else lookup (is_at (R other)) es)
  lookup-put other [] = refl
  lookup-put other (e ∷ es) = by_order (lookup-put other es) (R k e.0) refl
    where
      rest : List (K × X)
      rest = insert_entry R es k v

      by_order : lookup (is_at (R other)) rest ≡ (if is_eq (R other k) then Some v else lookup (is_at (R other)) es)
          → (order : Ordering) → R k e.0 ≡ order → lookup (is_at (R other)) (insert_entry R (e ∷ es) k v)
          ≡ (if is_eq (R other k) then Some v else lookup (is_at (R other)) (e ∷ es))
      by_order later Less is = rw is refl
      by_order later Equal is =
          let alike : R other k ≡ R other e.0 = alike_right total k e.0 other is in
          elim (cases_Bool (is_eq (R other e.0))) [
            | inl tied ↦ rw (is, alike, tied) refl
            | inr apart ↦ rw (is, alike, apart) refl
          ]
      by_order later Greater is =
          elim (cases_Bool (is_eq (R other e.0))) [
            | inl tied ↦
                let swapped : R e.0 other ≡ Equal =
                total.antisymm e.0 other ∙ ap ordering_reverse (is_equal (R other e.0) tied) in
                let order : R k other ≡ Greater = sym (alike_right total e.0 other k swapped) ∙ is in
                let apart : is_eq (R other k) ≡ false = ap is_eq (total.antisymm other k ∙ ap ordering_reverse order) in
                rw (is, tied, apart) refl
            | inr apart ↦ rw (is, apart) later
          ]

  -- what holds of each entry still does, if it holds of the value at each key that is the same
  pub All-put : (P : K × X → Type 0) → ((other : K) → R k other ≡ Equal → P (other, v)) → (es : List (K × X)) → All P es
      → All P (insert_entry R es k v)
  All-put P new [] all = All-cons P (k, v) [] (new k (tied_itself total k)) (All-nil P)
  All-put P new (e ∷ es) all = by_order (All-put P new es (All-tail P e es all)) (R k e.0) refl
    where
      by_order : All P (insert_entry R es k v) → (order : Ordering) → R k e.0 ≡ order → All P (insert_entry R (e ∷ es) k v)
      by_order later Less is = rw is (All-cons P (k, v) (e ∷ es) (new k (tied_itself total k)) all)
      by_order later Equal is = rw is (All-cons P (e.0, v) es (new e.0 is) (All-tail P e es all))
      by_order later Greater is = rw is (All-cons P e (insert_entry R es k v) (All-head P e es all) later)

  -- a key above another one is above the first of the entries, wherever it is put
  first_stays : (low : K) → R low k ≡ Less → (es : List (K × X)) → AllByRecursion (λ key. R low key ≡ Less) (keys_of es)
      → AllByRecursion (λ key. R low key ≡ Less) (keys_of (insert_entry R es k v))
  first_stays low above [] all = (above, tt)
  first_stays low above (e ∷ es) all = by_order (first_stays low above es all.1) (R k e.0) refl
    where
      by_order : AllByRecursion (λ key. R low key ≡ Less) (keys_of (insert_entry R es k v)) → (order : Ordering) → R k e.0 ≡ order
          → AllByRecursion (λ key. R low key ≡ Less) (keys_of (insert_entry R (e ∷ es) k v))
      by_order later Less is = rw is (above, all)
      by_order later Equal is = rw is all
      by_order later Greater is = rw is (all.0, later)

  -- the keys still ascend
  pub sorted-put : (es : List (K × X)) → IsStrictlySortedBy R (keys_of es) → IsStrictlySortedBy R (keys_of (insert_entry R es k v))
  unfolding IsStrictlySortedBy
  sorted-put [] sorted = (tt, tt)
  sorted-put (e ∷ es) sorted = by_order (sorted-put es sorted.1) (R k e.0) refl
    where
      below_all : R k e.0 ≡ Less → (keys : List K) → AllByRecursion (λ key. R e.0 key ≡ Less) keys
          → AllByRecursion (λ key. R k key ≡ Less) keys
      below_all is [] all = tt
      below_all is (key ∷ keys) all = (total.trans k e.0 key is all.0, below_all is keys all.1)

      by_order : IsStrictlySortedBy R (keys_of (insert_entry R es k v)) → (order : Ordering) → R k e.0 ≡ order
          → IsStrictlySortedBy R (keys_of (insert_entry R (e ∷ es) k v))
      by_order later Less is = rw is ((is, below_all is (keys_of es) sorted.0), sorted)
      by_order later Equal is = rw is sorted
      by_order later Greater is =
          let above : R e.0 k ≡ Less = total.antisymm e.0 k ∙ ap ordering_reverse is in
          rw is (first_stays e.0 above es sorted.0, later)

-- one if a value passes, and none if it doesn't or there is no value
abbrev pub one_if : {X : Type 0} → (X → Bool) → Option X → ℕ
one_if p None = 0
one_if p (Some v) = if p v then 1 else 0

-- how many values pass, once a value was put in
pub count-put : {K X : Type 0} {R : K → K → Ordering} (total : IsTotalOrder R) (p : X → Bool) (k : K) (v : X) (es : List (K × X))
    → IsStrictlySortedBy R (keys_of es)
    → length (filter (λ e. p e.1) (insert_entry R es k v)) + one_if p (lookup (is_at (R k)) es)
    ≡ length (filter (λ e. p e.1) es) + one_if p (Some v)
count-put total p k v [] sorted =
    elim (cases_Bool (p v)) [
      | inl passes ↦ rw passes refl
      | inr fails ↦ rw fails refl
    ]
count-put {K} {X} {R} total p k v (e ∷ es) sorted =
    by_order (count-put total p k v es (sorted_tail R e.0 (keys_of es) sorted)) (R k e.0) refl
  where
    count : List (K × X) → ℕ
    count others = length (filter (λ e. p e.1) others)

    one_more : (x : K × X) (others : List (K × X)) → count (x ∷ others) ≡ one_if p (Some x.1) + count others
    one_more x others =
        elim (cases_Bool (p x.1)) [
          | inl passes ↦ rw passes (omega arith)
          | inr fails ↦ rw fails (omega arith)
        ]

    by_order : count (insert_entry R es k v) + one_if p (lookup (is_at (R k)) es) ≡ count es + one_if p (Some v)
        → (order : Ordering) → R k e.0 ≡ order
        → count (insert_entry R (e ∷ es) k v) + one_if p (lookup (is_at (R k)) (e ∷ es)) ≡ count (e ∷ es) + one_if p (Some v)
    by_order later Less is =
        let none = lookup-none (is_at (R k)) (e ∷ es) (none_below_head total k e es sorted is) in
        let gone : one_if p (lookup (is_at (R k)) (e ∷ es)) ≡ 0 = ap (one_if p) none in
        let put : count (insert_entry R (e ∷ es) k v) ≡ count ((k, v) ∷ e ∷ es) = rw is refl in
        omega (arith, gone, put, one_more (k, v) (e ∷ es))
    by_order later Equal is =
        let found : one_if p (lookup (is_at (R k)) (e ∷ es)) ≡ one_if p (Some e.1) = rw is refl in
        let put : count (insert_entry R (e ∷ es) k v) ≡ count ((e.0, v) ∷ es) = rw is refl in
        omega (arith, found, put, one_more (e.0, v) es, one_more e es)
    by_order later Greater is =
        let found : one_if p (lookup (is_at (R k)) (e ∷ es)) ≡ one_if p (lookup (is_at (R k)) es) = rw is refl in
        let put : count (insert_entry R (e ∷ es) k v) ≡ count (e ∷ insert_entry R es k v) = rw is refl in
        omega (arith, later, found, put, one_more e (insert_entry R es k v), one_more e es)
