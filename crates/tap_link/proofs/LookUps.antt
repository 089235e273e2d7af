-- What a look-up gives after each change of a link set.
use Rattle.std.proofs.Common.{◌≡◌, Bool, true, false, not, List, [], ◌∷◌, filter, find, Option, None, Some, refl, sym, ap, ◌∙◌, inl, inr, if◌then◌else◌}
use Rattle.std.specs.Cmp.{IsTotalOrder}
use Rattle.std.specs.Option.{option_map, option_or}
use Rattle.std.specs.Ordering.{is_eq, is_gt, is_lt, ordering_reverse}
use Rattle.std.specs.declared.cmp.Ordering.{Ordering}
use Rattle.std.specs.declared.cmp.Ordering.TheVariants.{Less, Equal, Greater}
use Rattle.std.proofs.lemmas.Bool.{cases_Bool}
use Rattle.std.proofs.lemmas.Cmp.{alike_right}
use Rattle.std.proofs.lemmas.List.Folds.{find-append}
use Rattle.tap_link.specs.declared.kind.Kind.{Kind}
use Rattle.tap_link.specs.declared.kind.Kind.TheVariants.{Settled}
use Rattle.tap_link.specs.declared.kind.Released.{Released}
use Rattle.tap_link.specs.declared.kind.Released.TheVariants.{Settled as ReleasedSettled, Dropped, Nothing}
use Rattle.tap_link.specs.Entry.{LinkEntry}
use Rattle.tap_link.specs.LinkSet.{kind_of, with_link, with_kind, without, after_release}
use Rattle.tap_link.proofs.Least.{tied_is}

is_eq-reverse : (r : Ordering) → is_eq (ordering_reverse r) ≡ is_eq r
is_eq-reverse Less = refl
is_eq-reverse Equal = refl
is_eq-reverse Greater = refl

module _ {X : Type 0} where
  option_or-none : (found : Option X) → option_or found None ≡ found
  option_or-none None = refl
  option_or-none (Some x) = refl

  -- a filter that keeps all that the test finds
  find-filter_kept : (p q : X → Bool) → ((x : X) → p x ≡ true → q x ≡ true) → (xs : List X) → find p (filter q xs) ≡ find p xs
  find-filter_kept p q keeps [] = refl
  find-filter_kept p q keeps (x ∷ xs) =
      let ih = find-filter_kept p q keeps xs in
      elim (cases_Bool (p x)) [
        | inl found ↦ rw (keeps x found, found) refl
        | inr other ↦
            elim (cases_Bool (q x)) [
              | inl kept ↦ rw (kept, other) ih
              | inr lost ↦ rw (lost, other) ih
            ]
      ]

  -- a filter that loses all that the test finds
  find-filter_lost : (p q : X → Bool) → ((x : X) → p x ≡ true → q x ≡ false) → (xs : List X) → find p (filter q xs) ≡ None
  find-filter_lost p q loses [] = refl
  find-filter_lost p q loses (x ∷ xs) =
      let ih = find-filter_lost p q loses xs in
      elim (cases_Bool (q x)) [
        | inl kept ↦
            elim (cases_Bool (p x)) [
              | inl found ↦ let wrong = loses x found in cc
              | inr other ↦ rw (kept, other) ih
            ]
        | inr lost ↦ rw lost ih
      ]

module _ {K : Type 0} (cmp : K → K → Ordering) where
  abbrev names : K → LinkEntry K → Bool
  names target e = is_eq (cmp target e.target)

  -- where a link names one of two targets, it stands to the other as they stand to one another
  alike : IsTotalOrder cmp → (target other : K) (e : LinkEntry K) → names other e ≡ true → cmp target e.target ≡ cmp target other
  alike o target other e named = sym (alike_right o other e.target target (tied_is (cmp other e.target) named))

  -- a look-up sees equal targets as one
  pub kind_of-tied : IsTotalOrder cmp → (links : List (LinkEntry K)) (target other : K) → cmp other target ≡ Equal
      → kind_of cmp links other ≡ kind_of cmp links target
  kind_of-tied o [] target other tied = refl
  kind_of-tied o (e ∷ es) target other tied =
      let ih = kind_of-tied o es target other tied in
      rw (o.congr other target e.target tied) (elim (cases_Bool (is_eq (cmp target e.target))) [
        | inl found ↦ rw found refl
        | inr apart ↦ rw apart ih
      ])

  same_test : IsTotalOrder cmp → (target other : K) → is_eq (cmp target other) ≡ is_eq (cmp other target)
  same_test o target other = ap is_eq (o.antisymm target other) ∙ is_eq-reverse (cmp other target)

  pub kind_of-without : IsTotalOrder cmp → (links : List (LinkEntry K)) (target other : K)
      → kind_of cmp (without cmp links target) other ≡ (if is_eq (cmp other target) then None else kind_of cmp links other)
  kind_of-without o links target other =
      let test : (e : LinkEntry K) → names other e ≡ true → not (names target e) ≡ not (is_eq (cmp other target)) =
      λ e named. ap (λ r. not (is_eq r)) (alike o target other e named) ∙ ap not (same_test o target other) in
      elim (cases_Bool (is_eq (cmp other target))) [
        | inl tied ↦
            rw tied (ap (option_map (λ (e : LinkEntry K). e.kind))
            (find-filter_lost (names other) (λ e. not (names target e)) (λ e named. test e named ∙ ap not tied) links))
        | inr apart ↦
            rw apart (ap (option_map (λ (e : LinkEntry K). e.kind))
            (find-filter_kept (names other) (λ e. not (names target e)) (λ e named. test e named ∙ ap not apart) links))
      ]

  pub kind_of-with_kind : IsTotalOrder cmp → (links : List (LinkEntry K)) (target other : K) (kind : Kind)
      → kind_of cmp (with_kind cmp links target kind) other
      ≡ (if is_eq (cmp other target) then option_map (λ _. kind) (kind_of cmp links other) else kind_of cmp links other)
  kind_of-with_kind o [] target other kind =
      elim (cases_Bool (is_eq (cmp other target))) [ inl tied ↦ rw tied refl | inr apart ↦ rw apart refl ]
  kind_of-with_kind o (e ∷ es) target other kind =
      let ih = kind_of-with_kind o es target other kind in
      elim (cases_Bool (names other e)) [
        | inl named ↦
            let same : names target e ≡ is_eq (cmp other target) = ap is_eq (alike o target other e named) ∙ same_test o target other in
            elim (cases_Bool (is_eq (cmp other target))) [
              | inl tied ↦ rw (same ∙ tied, tied, named) refl
              | inr apart ↦ rw (same ∙ apart, apart, named) refl
            ]
        | inr unnamed ↦
            elim (cases_Bool (names target e)) [
              | inl named ↦ rw (named, unnamed) ih
              | inr neither ↦ rw (neither, unnamed) ih
            ]
      ]

  -- how the other target stands to the one that is added decides where it may be found
  found_among : IsTotalOrder cmp → (links : List (LinkEntry K)) (target other : K) (kind : Kind) (r : Ordering) → cmp target other ≡ r
      → kind_of cmp (with_link cmp links target kind) other ≡ (if is_eq (cmp other target) then Some kind else kind_of cmp links other)
  found_among o links target other kind Less is =
      let back : cmp other target ≡ Greater = o.antisymm other target ∙ ap ordering_reverse is in
      let lesser = find-filter_lost (names other) (λ e. is_gt (cmp target e.target))
      (λ e named. ap is_gt (alike o target other e named ∙ is)) links in
      let greater = find-filter_kept (names other) (λ e. is_lt (cmp target e.target))
      (λ e named. ap is_lt (alike o target other e named ∙ is)) links in
      rw (find-append (names other) (filter (λ e. is_gt (cmp target e.target)) links), lesser, back, greater) refl
  found_among o links target other kind Equal is =
      let back : cmp other target ≡ Equal = o.antisymm other target ∙ ap ordering_reverse is in
      let lesser = find-filter_lost (names other) (λ e. is_gt (cmp target e.target))
      (λ e named. ap is_gt (alike o target other e named ∙ is)) links in
      rw (find-append (names other) (filter (λ e. is_gt (cmp target e.target)) links), lesser, back) refl
  found_among o links target other kind Greater is =
      let back : cmp other target ≡ Less = o.antisymm other target ∙ ap ordering_reverse is in
      let lesser = find-filter_kept (names other) (λ e. is_gt (cmp target e.target))
      (λ e named. ap is_gt (alike o target other e named ∙ is)) links in
      let greater = find-filter_lost (names other) (λ e. is_lt (cmp target e.target))
      (λ e named. ap is_lt (alike o target other e named ∙ is)) links in
      rw (find-append (names other) (filter (λ e. is_gt (cmp target e.target)) links), lesser, back, greater, option_or-none) refl

  pub kind_of-with_link : IsTotalOrder cmp → (links : List (LinkEntry K)) (target other : K) (kind : Kind)
      → kind_of cmp (with_link cmp links target kind) other ≡ (if is_eq (cmp other target) then Some kind else kind_of cmp links other)
  kind_of-with_link o links target other kind = found_among o links target other kind (cmp target other) refl

  -- the kind of a link whose target's release was answered so, from its kind before
  abbrev pub kind_after : Released → Option Kind → Option Kind
  kind_after ReleasedSettled before = option_map (λ _. Settled) before
  kind_after Dropped before = None
  kind_after Nothing before = before

  pub kind_of-after_release : IsTotalOrder cmp → (links : List (LinkEntry K)) (target other : K) (answer : Released)
      → kind_of cmp (after_release cmp links target answer) other
      ≡ (if is_eq (cmp other target) then kind_after answer (kind_of cmp links other) else kind_of cmp links other)
  kind_of-after_release o links target other ReleasedSettled = kind_of-with_kind o links target other Settled
  kind_of-after_release o links target other Dropped = kind_of-without o links target other
  kind_of-after_release o links target other Nothing =
      elim (cases_Bool (is_eq (cmp other target))) [ inl tied ↦ rw tied refl | inr apart ↦ rw apart refl ]
