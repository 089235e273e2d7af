-- A frame isn't strange exactly if it is fit.
-- Cited above: fit_law
use Rattle.std.proofs.Common.{◌≡◌, ◌≢◌, ◌⊎◌, ◌==◌, ◌||◌, ℕ, ◌≤◌, Bool, List, [], ◌∷◌, Option, Some, None, true, false, not, is_some, nat_lt, length, arith, refl, sym, ap, subst, ◌∙◌, inl, inr}
use Rattle.std.specs.Prelude.{bytes_eq}
use Rattle.std.proofs.lemmas.List.Kept.{AllPairs-filter}
use Rattle.std.proofs.lemmas.Bool.{cases_Bool, eqb-false, le-ltb, ltb-false, or_parts, true≢false}
use Rattle.std.proofs.lemmas.Bool.Decides.{eqb_tells}
use Rattle.std.proofs.lemmas.Slice.Eq.{bytes_eq-Decides}
use Rattle.tap_name.specs.Names.{Among, AreDistinct, are_distinct, has_name}
use Rattle.tap_name.specs.Prefix.{lcp}
use Rattle.tap_name.proofs.Membership.{are_distinct-Decides, few_among, has_name-Decides}
use Rattle.tap_name.proofs.Sorted.{distinct-from_ascending}
use Rattle.tap_name.proofs.Names.{among-filter, among-filter_from}
use Rattle.tap_table.specs.Ties.{AreTies}
use Rattle.tap_table.proofs.Targets.{linked_is_target, target_is_linked, targets-ascending}
use Rattle.tap_link.specs.declared.kind.Kind.{Kind}
use Rattle.tap_link.specs.declared.kind.Kind.TheVariants.{Pin, Settled, Leaving}
use Rattle.tap_table.specs.ByName.{targets_by_name}
use Rattle.tap_depart.specs.Leaving.{names_but}
use Rattle.tap_wire.specs.declared.frame.Frame.{Frame}
use Rattle.tap_wire.specs.declared.frame.Body.{Body}
use Rattle.tap_wire.specs.declared.frame.Body.TheVariants.{Seek, Tell, Leave, Cast}
use Rattle.tap_rule.specs.Node.{NodeState, level_of, link_to, name_of}
use Rattle.tap_rule.specs.Strange.{is_leaving, is_no_pin, is_own_name, is_strange, is_strange_body, is_strange_seek, is_strange_tell, is_too_many, name_if, names_to_link, with_names}
use Rattle.tap_rule.specs.Fit.{CouldLink, IsFit, IsFitBody, IsFitSeek, IsFitTell, MayLink}
use Rattle.tap_rule.specs.RuleLaws.{FitLaw}
use Rattle.tap_rule.proofs.OneName.{not_own}

-- a level that isn't kept, and kinds of links
no_level : (level : Option ℕ) → is_some level ≡ false → level ≡ None
no_level None none = refl
no_level (Some l) none = absurd (true≢false none)

not_leaving : (kind : Option Kind) → is_leaving kind ≡ false → kind ≢ Some Leaving
not_leaving kind taken is = true≢false (sym (ap is_leaving is) ∙ taken)

stays : (kind : Option Kind) → kind ≢ Some Leaving → is_leaving kind ≡ false
stays None not = refl
stays (Some Pin) not = refl
stays (Some Settled) not = refl
stays (Some Leaving) not = absurd (not refl)

none_or_pin : (kind : Option Kind) → is_no_pin kind ≡ false → (kind ≡ None) ⊎ (kind ≡ Some Pin)
none_or_pin None pin = inl refl
none_or_pin (Some Pin) pin = inr refl
none_or_pin (Some Settled) pin = absurd (true≢false pin)
none_or_pin (Some Leaving) pin = absurd (true≢false pin)

is_pin : (kind : Option Kind) → (kind ≡ None) ⊎ (kind ≡ Some Pin) → is_no_pin kind ≡ false
is_pin kind (inl is) = ap is_no_pin is
is_pin kind (inr is) = ap is_no_pin is

is_not : (b : Bool) → not b ≡ true → b ≡ false
is_not true is = absurd (true≢false (sym is))
is_not false is = refl

-- numbers that aren't the same
not_same : (a b : ℕ) → a ≢ b → (a == b) ≡ false
not_same a b apart = elim (eqb_tells a b) [ inl both ↦ absurd (apart both.1) | inr both ↦ both.0 ]

module _ (node : NodeState) where
  other_name : (name : List ℕ) → is_own_name node name ≡ false → name ≢ name_of node
  other_name name taken is = true≢false (sym ((bytes_eq-Decides name (name_of node)).1 is) ∙ taken)

  not_its_own : (name : List ℕ) → name ≢ name_of node → is_own_name node name ≡ false
  not_its_own name apart = elim (cases_Bool (is_own_name node name)) [
    | inl own ↦ absurd (apart ((bytes_eq-Decides name (name_of node)).0 own))
    | inr other ↦ other
  ]

  -- a Seek, both ways
  seek_is_fit : (joiner : List ℕ) → is_strange_seek node joiner ≡ false → IsFitSeek node joiner
  seek_is_fit joiner taken =
      let covered = is_some (level_of node joiner) in
      let parts = or_parts (is_own_name node joiner || covered) (is_leaving (link_to node joiner)) taken in
      let first = or_parts (is_own_name node joiner) covered parts.0 in
      record {
        apart = other_name joiner first.0;
        uncovered = no_level (level_of node joiner) first.1;
        staying = not_leaving (link_to node joiner) parts.1;
      }

  fit_seek_is : (joiner : List ℕ) → IsFitSeek node joiner → is_strange_seek node joiner ≡ false
  fit_seek_is joiner fit = rw (not_its_own joiner fit.apart, fit.uncovered, stays (link_to node joiner) fit.staying) refl

  -- and a Tell
  tell_is_fit : (joiner : List ℕ) (prefix depth : ℕ) → is_strange_tell node joiner prefix depth ≡ false → IsFitTell node joiner prefix depth
  tell_is_fit joiner prefix depth taken =
      let own = is_own_name node joiner in
      let linked = is_no_pin (link_to node joiner) in
      let long = nat_lt (lcp (name_of node) joiner) prefix in
      let first = or_parts (own || linked || long) (depth == 65535) taken in
      let second = or_parts (own || linked) long first.0 in
      let third = or_parts own linked second.0 in
      record {
        apart = other_name joiner third.0;
        pin = none_or_pin (link_to node joiner) third.1;
        shared = ltb-false (lcp (name_of node) joiner) prefix second.1;
        depth = eqb-false depth 65535 first.1;
      }

  fit_tell_is : (joiner : List ℕ) (prefix depth : ℕ) → IsFitTell node joiner prefix depth → is_strange_tell node joiner prefix depth ≡ false
  fit_tell_is joiner prefix depth fit =
      rw (
        not_its_own joiner fit.apart,
        is_pin (link_to node joiner) fit.pin,
        le-ltb (lcp (name_of node) joiner) prefix fit.shared,
        not_same depth 65535 fit.depth,
      ) refl

  body_is_fit : (body : Body) → is_strange_body node body ≡ false → IsFitBody node body
  unfolding is_strange_body
  body_is_fit (Seek joiner) taken = seek_is_fit joiner taken
  body_is_fit (Tell joiner prefix level session depth watch) taken = tell_is_fit joiner prefix depth taken
  body_is_fit (Cast cast level session depth word) taken = eqb-false depth 65535 taken
  body_is_fit _ taken = tt

  fit_body_is : (body : Body) → IsFitBody node body → is_strange_body node body ≡ false
  unfolding is_strange_body
  fit_body_is (Seek joiner) fit = fit_seek_is joiner fit
  fit_body_is (Tell joiner prefix level session depth watch) fit = fit_tell_is joiner prefix depth fit
  fit_body_is (Cast cast level session depth word) fit = not_same depth 65535 fit
  fit_body_is _ fit = refl

-- names that are added to others are among both, and distinct if these are
among-with : (names others : List (List ℕ)) (x : List ℕ) → Among x (with_names names others) → Among x names ⊎ Among x others
among-with names [] x among = inl among
among-with names (name ∷ others) x among = elim (cases_Bool (has_name names name)) [
  | inl there ↦ elim (among-with names others x (rw there at among)) [ inl is ↦ inl is | inr later ↦ inr (inr later) ]
  | inr absent ↦ elim (among-with (name ∷ names) others x (rw absent at among)) [
    | inl is ↦ elim is [ inl first ↦ inr (inl first) | inr more ↦ inl more ]
    | inr later ↦ inr (inr later)
  ]
]

among-with_from : (names others : List (List ℕ)) (x : List ℕ) → Among x names ⊎ Among x others → Among x (with_names names others)
among-with_from names [] x (inl among) = among
among-with_from names [] x (inr none) = absurd none
among-with_from names (name ∷ others) x either = elim (cases_Bool (has_name names name)) [
  | inl there ↦
      let known : Among name names = (has_name-Decides names name).0 there in
      rw there (among-with_from names others x (elim either [
        | inl is ↦ inl is
        | inr added ↦ elim added [ inl same ↦ inl (subst (λ y. Among y names) (sym same) known) | inr later ↦ inr later ]
      ]))
  | inr absent ↦
      rw absent (among-with_from (name ∷ names) others x (elim either [
        | inl is ↦ inl (inr is)
        | inr added ↦ elim added [ inl same ↦ inl (inl same) | inr later ↦ inr later ]
      ]))
]

distinct-with : (names others : List (List ℕ)) → are_distinct names ≡ true → are_distinct (with_names names others) ≡ true
distinct-with names [] distinct = distinct
distinct-with names (name ∷ others) distinct = elim (cases_Bool (has_name names name)) [
  | inl there ↦ rw there (distinct-with names others distinct)
  | inr absent ↦
      let more : are_distinct (name ∷ names) ≡ true = rw (absent, distinct) refl in
      rw absent (distinct-with (name ∷ names) others more)
]

-- what a frame could link is among the names that it could
could_be_linked : (from : List ℕ) (body : Body) (name : List ℕ) → CouldLink from body name → Among name (names_to_link from body)
unfolding names_to_link
could_be_linked from (Seek joiner) name is = inl is
could_be_linked from (Tell joiner prefix level session depth watch) name is = inl is
could_be_linked from (Leave replacement) name is = rw is (inl refl)
could_be_linked from _ name is = is

can_be_linked : (from : List ℕ) (body : Body) (name : List ℕ) → Among name (names_to_link from body) → CouldLink from body name
unfolding names_to_link
can_be_linked from (Seek joiner) name among = elim among [ inl is ↦ is | inr none ↦ absurd none ]
can_be_linked from (Tell joiner prefix level session depth watch) name among = elim among [ inl is ↦ is | inr none ↦ absurd none ]
can_be_linked from (Leave replacement) name among = by_replacement replacement among
  where
    by_replacement : (given : Option (List ℕ)) → Among name (name_if given) → given ≡ Some name
    by_replacement None none = absurd none
    by_replacement (Some given) (inl is) = ap Some (sym is)
    by_replacement (Some given) (inr none) = absurd none
can_be_linked from _ name among = among

-- a link that is there has a kind
kind_there : (kind : Option Kind) → kind ≢ None → (k : Kind) × (kind ≡ Some k)
kind_there None some = absurd (some refl)
kind_there (Some k) some = (k, refl)

module _ (node : NodeState) (frame : Frame) (ties : AreTies node.ties) where
  -- the names that the node links to or could link to, and these but its own
  abbrev linked : List (List ℕ)
  linked = with_names (targets_by_name node.ties.table) (names_to_link frame.from frame.body)

  abbrev names : List (List ℕ)
  names = names_but linked (name_of node)

  may_link : (name : List ℕ) → Among name names → MayLink node frame name
  may_link name among =
      let parts = among-filter (λ other. not (bytes_eq other (name_of node))) linked name among in
      record {
        apart = other_name node name (is_not (bytes_eq name (name_of node)) parts.1);
        linked = elim (among-with (targets_by_name node.ties.table) (names_to_link frame.from frame.body) name parts.0) [
          | inl target ↦
              let kind = target_is_linked node.ties.table ties.table name target in
              inl (λ none. let both : Some kind.0 ≡ None = sym kind.1 ∙ none in absurd cc)
          | inr more ↦ inr (can_be_linked frame.from frame.body name more)
        ];
      }

  is_among : (name : List ℕ) → MayLink node frame name → Among name names
  is_among name may =
      let test : not (bytes_eq name (name_of node)) ≡ true = rw (not_its_own node name may.apart) refl in
      among-filter_from (λ other. not (bytes_eq other (name_of node))) linked name
      (among-with_from (targets_by_name node.ties.table) (names_to_link frame.from frame.body) name (elim may.linked [
        | inl some ↦
            let kind = kind_there (link_to node name) some in
            inl (linked_is_target node.ties.table ties.table name kind.0 kind.1)
        | inr could ↦ inr (could_be_linked frame.from frame.body name could)
      ])) test

  distinct : AreDistinct names
  distinct =
      let targets = (are_distinct-Decides (targets_by_name node.ties.table)).1
      (distinct-from_ascending (targets_by_name node.ties.table) (targets-ascending node.ties.table ties.table)) in
      AllPairs-filter (λ a b. a ≢ b) (λ other. not (bytes_eq other (name_of node))) linked
      ((are_distinct-Decides linked).0 (distinct-with (targets_by_name node.ties.table) (names_to_link frame.from frame.body) targets))

  to_fit : is_strange node frame ≡ false → IsFit node frame
  to_fit taken =
      let many = is_too_many node (names_to_link frame.from frame.body) in
      let outer = or_parts (is_own_name node frame.from || is_strange_body node frame.body) many taken in
      let inner = or_parts (is_own_name node frame.from) (is_strange_body node frame.body) outer.0 in
      record {
        from = not_own node frame taken;
        body = body_is_fit node frame.body inner.1;
        few = λ others apart may.
            let most : length names ≤ 255 = ltb-false 255 (length names) outer.1 in
            let fewer = few_among others names apart (λ name among. is_among name (may name among)) in omega (arith, most, fewer);
      }

  from_fit : IsFit node frame → is_strange node frame ≡ false
  from_fit fit =
      let own = not_its_own node frame.from fit.from in
      let body = fit_body_is node frame.body fit.body in
      let few : is_too_many node (names_to_link frame.from frame.body) ≡ false =
      le-ltb 255 (length names) (fit.few names distinct may_link) in
      rw (own, body, few) refl

pub fit_law : FitLaw
fit_law node frame ties = (to_fit node frame ties, from_fit node frame ties)
