-- How many links there are, and how many are settled, after each change of a link set.
use Rattle.std.proofs.Common.{◌≡◌, ℕ, ◌+◌, true, false, cond, List, [], ◌∷◌, length, filter, None, Some, arith, suc, refl, ◌∙◌, inl, inr}
use Rattle.std.specs.Cmp.{IsTotalOrder}
use Rattle.std.specs.List.{sum_by}
use Rattle.std.specs.Ordering.{is_eq, is_gt, is_lt}
use Rattle.std.specs.declared.cmp.Ordering.{Ordering}
use Rattle.std.specs.declared.cmp.Ordering.TheVariants.{Less, Equal, Greater}
use Rattle.std.proofs.lemmas.Bool.{cases_Bool}
use Rattle.std.proofs.lemmas.List.{length-map}
use Rattle.std.proofs.lemmas.List.Sums.{sum_by-append, sum_by-cons}
use Rattle.tap_link.specs.declared.kind.Kind.{Kind}
use Rattle.tap_link.specs.Entry.{LinkEntry}
use Rattle.tap_link.specs.LinkSet.{LinksAscend, kind_of, with_link, with_kind, without, settled_count, is_settled}
use Rattle.tap_link.proofs.Least.{tied_is, ascending_tail}
use Rattle.tap_link.proofs.Search.{AreAbove, above-without, above-with_kind}

module _ {K : Type 0} where
  -- a number for each link by its kind, added up
  abbrev pub kind_sum : (Kind → ℕ) → List (LinkEntry K) → ℕ
  kind_sum weight links = sum_by (λ e. weight e.kind) links

  kind_sum-cons : (weight : Kind → ℕ) (e : LinkEntry K) (es : List (LinkEntry K)) → kind_sum weight (e ∷ es) ≡ weight e.kind + kind_sum weight es
  kind_sum-cons weight e es = sum_by-cons (λ f. weight f.kind) e es

  kind_sum-ones : (links : List (LinkEntry K)) → kind_sum (λ _. 1) links ≡ length links
  kind_sum-ones [] = refl
  kind_sum-ones (e ∷ es) = rw kind_sum-cons (omega (arith, kind_sum-ones es))

module _ {K : Type 0} (cmp : K → K → Ordering) where
  one_side : (weight : Kind → ℕ) (e : LinkEntry K) (es : List (LinkEntry K)) (target : K) (r : Ordering) → cmp target e.target ≡ r
      → is_eq (cmp target e.target) ≡ false
      → kind_sum weight (filter (λ f. is_gt (cmp target f.target)) es) + kind_sum weight (filter (λ f. is_lt (cmp target f.target)) es)
      ≡ kind_sum weight es
      → kind_sum weight (filter (λ f. is_gt (cmp target f.target)) (e ∷ es))
      + kind_sum weight (filter (λ f. is_lt (cmp target f.target)) (e ∷ es))
      ≡ kind_sum weight (e ∷ es)
  one_side weight e es target Less is apart ih =
      rw (is, kind_sum-cons weight e (filter (λ f. is_lt (cmp target f.target)) es), kind_sum-cons weight e es) (omega arith)
  one_side weight e es target Equal is apart ih = let wrong : true ≡ false = rw is at apart in cc
  one_side weight e es target Greater is apart ih =
      rw (is, kind_sum-cons weight e (filter (λ f. is_gt (cmp target f.target)) es), kind_sum-cons weight e es) (omega arith)

  both_sides : (weight : Kind → ℕ) (links : List (LinkEntry K)) (target : K) → kind_of cmp links target ≡ None
      → kind_sum weight (filter (λ f. is_gt (cmp target f.target)) links)
      + kind_sum weight (filter (λ f. is_lt (cmp target f.target)) links)
      ≡ kind_sum weight links
  both_sides weight [] target absent = refl
  both_sides weight (e ∷ es) target absent =
      elim (cases_Bool (is_eq (cmp target e.target))) [
        | inl tied ↦ let wrong : Some e.kind ≡ None = rw tied at absent in cc
        | inr apart ↦
            let rest : kind_of cmp es target ≡ None = rw apart at absent in
            one_side weight e es target (cmp target e.target) refl apart (both_sides weight es target rest)
      ]

  -- a link more
  pub kind_sum-with_link : (weight : Kind → ℕ) (links : List (LinkEntry K)) (target : K) (kind : Kind) → kind_of cmp links target ≡ None
      → kind_sum weight (with_link cmp links target kind) ≡ weight kind + kind_sum weight links
  kind_sum-with_link weight links target kind absent =
      let lesser = filter (λ f. is_gt (cmp target f.target)) links in
      let greater = filter (λ f. is_lt (cmp target f.target)) links in
      let new : LinkEntry K = record { target = target; kind = kind } in
      rw (sum_by-append (λ f. weight f.kind) lesser (new ∷ greater), kind_sum-cons weight new greater)
      (omega (arith, both_sides weight links target absent))

  above_all : IsTotalOrder cmp → (e : LinkEntry K) (es : List (LinkEntry K)) (target : K) → LinksAscend cmp (e ∷ es)
      → is_eq (cmp target e.target) ≡ true → AreAbove cmp es target 0
  above_all o e es target ascending tied k d ge h =
      o.congr target e.target _ (tied_is (cmp target e.target) tied) ∙ ascending 0 (suc k) d (omega arith) (omega arith)

  -- a link less
  pub kind_sum-without : IsTotalOrder cmp → (weight : Kind → ℕ) (links : List (LinkEntry K)) (target : K) (kind : Kind)
      → LinksAscend cmp links → kind_of cmp links target ≡ Some kind
      → kind_sum weight (without cmp links target) + weight kind ≡ kind_sum weight links
  kind_sum-without o weight [] target kind ascending found = cc
  kind_sum-without o weight (e ∷ es) target kind ascending found =
      elim (cases_Bool (is_eq (cmp target e.target))) [
        | inl tied ↦
            let same : Some e.kind ≡ Some kind = rw tied at found in
            let same' : e.kind ≡ kind = cc in
            rw (tied, above-without cmp es target (above_all o e es target ascending tied), ← same', kind_sum-cons weight e es)
            (omega arith)
        | inr apart ↦
            let rest : kind_of cmp es target ≡ Some kind = rw apart at found in
            let ih = kind_sum-without o weight es target kind (ascending_tail cmp e es ascending) rest in
            rw (apart, kind_sum-cons weight e (without cmp es target), kind_sum-cons weight e es) (omega arith)
      ]

  -- a link of another kind
  pub kind_sum-with_kind : IsTotalOrder cmp → (weight : Kind → ℕ) (links : List (LinkEntry K)) (target : K) (old new : Kind)
      → LinksAscend cmp links → kind_of cmp links target ≡ Some old
      → kind_sum weight (with_kind cmp links target new) + weight old ≡ kind_sum weight links + weight new
  kind_sum-with_kind o weight [] target old new ascending found = cc
  kind_sum-with_kind o weight (e ∷ es) target old new ascending found =
      elim (cases_Bool (is_eq (cmp target e.target))) [
        | inl tied ↦
            let same : Some e.kind ≡ Some old = rw tied at found in
            let same' : e.kind ≡ old = cc in
            rw (
              tied,
              above-with_kind cmp es target new (above_all o e es target ascending tied),
              ← same',
              kind_sum-cons weight (record e { kind = new }) es,
              kind_sum-cons weight e es,
            ) (omega arith)
        | inr apart ↦
            let rest : kind_of cmp es target ≡ Some old = rw apart at found in
            let ih = kind_sum-with_kind o weight es target old new (ascending_tail cmp e es ascending) rest in
            rw (apart, kind_sum-cons weight e (with_kind cmp es target new), kind_sum-cons weight e es) (omega arith)
      ]

  pub settled_count-with_link : (links : List (LinkEntry K)) (target : K) (kind : Kind) → kind_of cmp links target ≡ None
      → settled_count (with_link cmp links target kind) ≡ cond {A = ℕ} (is_settled (Some kind)) 1 0 + settled_count links
  settled_count-with_link links target kind absent = kind_sum-with_link (λ k. cond (is_settled (Some k)) 1 0) links target kind absent

  pub settled_count-without : IsTotalOrder cmp → (links : List (LinkEntry K)) (target : K) (kind : Kind)
      → LinksAscend cmp links → kind_of cmp links target ≡ Some kind
      → settled_count (without cmp links target) + cond {A = ℕ} (is_settled (Some kind)) 1 0 ≡ settled_count links
  settled_count-without o links target kind ascending found =
      kind_sum-without o (λ k. cond (is_settled (Some k)) 1 0) links target kind ascending found

  pub settled_count-with_kind : IsTotalOrder cmp → (links : List (LinkEntry K)) (target : K) (old new : Kind)
      → LinksAscend cmp links → kind_of cmp links target ≡ Some old
      → settled_count (with_kind cmp links target new) + cond {A = ℕ} (is_settled (Some old)) 1 0
      ≡ settled_count links + cond {A = ℕ} (is_settled (Some new)) 1 0
  settled_count-with_kind o links target old new ascending found =
      kind_sum-with_kind o (λ k. cond (is_settled (Some k)) 1 0) links target old new ascending found

  pub length-with_link : (links : List (LinkEntry K)) (target : K) (kind : Kind) → kind_of cmp links target ≡ None
      → length (with_link cmp links target kind) ≡ 1 + length links
  length-with_link links target kind absent =
      omega (
        arith,
        kind_sum-ones links,
        kind_sum-ones (with_link cmp links target kind),
        kind_sum-with_link (λ _. 1) links target kind absent,
      )

  pub length-with_kind : (links : List (LinkEntry K)) (target : K) (kind : Kind) → length (with_kind cmp links target kind) ≡ length links
  length-with_kind links target kind = length-map links _

  pub length-without : IsTotalOrder cmp → (links : List (LinkEntry K)) (target : K) (kind : Kind)
      → LinksAscend cmp links → kind_of cmp links target ≡ Some kind → length (without cmp links target) + 1 ≡ length links
  length-without o links target kind ascending found =
      omega (
        arith,
        kind_sum-ones links,
        kind_sum-ones (without cmp links target),
        kind_sum-without o (λ _. 1) links target kind ascending found,
      )
