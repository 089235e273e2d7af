-- Whom a cover tells: each target is a pin or a primary of the levels that are covered, or an introduced pin, and all of
-- these but the joiner are told, in ascending order.
-- Cited above: first_cover_tells, IsTarget, pin_told, primary_told, targets_are, targets_distinct
use Rattle.std.proofs.Common.{◌≡◌, ◌≢◌, ◌⊎◌, ◌||◌, ◌&&◌, ℕ, ◌+◌, ◌<◌, ◌≤◌, Bool, true, false, not, Option, None, Some, List, filter, map, nat_eq, slice_get, All, ap, refl, sym, ◌∙◌, inl, inr}
use Rattle.std.specs.Cmp.Lexicographic.{pointwise}
use Rattle.std.proofs.lemmas.Bool.{and_parts, cases_lt, le-leb, lt-ltb, not-true, not_from_false, or_cases, or_right}
use Rattle.std.proofs.lemmas.List.Elements.{All-map}
use Rattle.std.proofs.lemmas.Slice.Eq.{bytes_eq-Decides}
use Rattle.tap_name.specs.Name.{IsName}
use Rattle.tap_name.specs.Names.{AreDistinct}
use Rattle.tap_name.specs.Order.{AreAscending}
use Rattle.tap_name.specs.Prefix.{lcp}
use Rattle.tap_name.proofs.Prefixes.{lcp-is}
use Rattle.tap_name.proofs.Sorted.{distinct-from_ascending}
use Rattle.tap_link.specs.declared.kind.Kind.{Kind}
use Rattle.tap_link.specs.declared.kind.Kind.TheVariants.{Leaving, Pin, Settled}
use Rattle.tap_link.specs.Entry.{LinkEntry}
use Rattle.tap_link.specs.LinkSet.{is_pinned, least_settled}
use Rattle.tap_table.specs.ByName.{by_name}
use Rattle.tap_table.specs.Table.{IsTable, TableValue, kind_in, links_at}
use Rattle.tap_table.proofs.AtRest.{All-filtered}
use Rattle.tap_table.proofs.ByName.{by_name-ascending, by_name_is_found, found_by_name}
use Rattle.tap_table.proofs.Found.{link_to, linked_is_other}
use Rattle.tap_table.proofs.Primaries.{primary_near}
use Rattle.tap_multicast.specs.declared.cover.Cover.{Cover}
use Rattle.tap_multicast.specs.declared.target.Target.{Target}
use Rattle.tap_multicast.specs.Targets.{is_covered, is_introduced, is_primary, is_told, target_of, targets}
use Rattle.tap_multicast.proofs.Linked.{picked-ascend, primary_near-stands}
use Rattle.tap_multicast.proofs.Picked.{picked-got}

-- a node that a cover tells
pub record IsTarget (t : TableValue) (cover : Cover) (target : Target) : Type 0 where
  pub kind : Kind
  pub linked : kind_in t target.to ≡ Some kind
  pub other : target.to ≢ t.owner
  pub not_joiner : target.to ≢ cover.joiner
  pub level : target.level ≡ lcp t.owner target.to + 1
  -- it is a pin or the primary of a slot that is covered, or an introduced pin
  pub which : ((is_covered cover (lcp t.owner target.to) ≡ true) × ((kind ≡ Pin) ⊎ (primary_near t target.to ≡ Some target.to)))
      ⊎ ((is_introduced cover (lcp t.owner target.to) ≡ true) × (kind ≡ Pin))

pub pinned_kind : (kind : Kind) → is_pinned (Some kind) ≡ true → kind ≡ Pin
pinned_kind Pin is = refl
pinned_kind Settled is = cc
pinned_kind Leaving is = cc

pub primary_is : (primary : Option (List ℕ)) (name : List ℕ) → is_primary primary name ≡ true → primary ≡ Some name
primary_is None name is = cc
primary_is (Some first) name is = ap Some ((bytes_eq-Decides first name).0 is)

pub other_than : (a b : List ℕ) → not (pointwise nat_eq a b) ≡ true → b ≢ a
other_than a b differ same =
    let equal = (bytes_eq-Decides a b).1 (sym same) in
    let none : pointwise nat_eq a b ≡ false = not-true (pointwise nat_eq a b) differ in
    let wrong : true ≡ false = sym equal ∙ none in cc

pub differ : (a b : List ℕ) → b ≢ a → not (pointwise nat_eq a b) ≡ true
differ a b other = not_from_false (pointwise nat_eq a b) (apart (pointwise nat_eq a b) refl)
  where
    apart : (test : Bool) → pointwise nat_eq a b ≡ test → test ≡ false
    apart true is = absurd (other (sym ((bytes_eq-Decides a b).0 is)))
    apart false is = refl

module _ (t : TableValue) (valid : IsTable t) (cover : Cover) where
  found_told : (e : LinkEntry (List ℕ)) → kind_in t e.target ≡ Some e.kind → is_told t cover e ≡ true
      → IsTarget t cover (target_of t.owner e)
  found_told e found told =
      let level = lcp t.owner e.target in
      let pin = is_pinned (Some e.kind) in
      let primary = is_primary (primary_near t e.target) e.target in
      let parts = and_parts (not (pointwise nat_eq cover.joiner e.target))
      ((is_covered cover level && (pin || primary)) || (is_introduced cover level && pin)) told in
      record {
        kind = e.kind;
        linked = found;
        other = linked_is_other t valid e.target e.kind found;
        not_joiner = other_than cover.joiner e.target parts.0;
        level = refl;
        which = elim (or_cases (is_covered cover level && (pin || primary)) (is_introduced cover level && pin) parts.1) [
          | inl now ↦
              let both = and_parts (is_covered cover level) (pin || primary) now in
              inl (
                both.0,
                elim (or_cases pin primary both.1) [
                  | inl pinned ↦ inl (pinned_kind e.kind pinned)
                  | inr first ↦ inr (primary_is (primary_near t e.target) e.target first)
                ],
              )
          | inr introduced ↦
              let both = and_parts (is_introduced cover level) pin introduced in
              inr (both.0, pinned_kind e.kind both.1)
        ];
      }

  -- each target is one
  pub targets_are : All (IsTarget t cover) (targets t cover)
  targets_are =
      All-map (IsTarget t cover) (target_of t.owner) (filter (is_told t cover) (by_name t))
      (All-filtered (is_told t cover) (λ e. kind_in t e.target ≡ Some e.kind) (λ e. IsTarget t cover (target_of t.owner e)) (by_name t)
      (by_name_is_found t valid) found_told)

  -- the targets ascend by name, so no node is told twice
  pub targets_ascend : AreAscending (map (λ target. target.to) (targets t cover))
  targets_ascend =
      picked-ascend (target_of t.owner) (λ (target : Target). target.to) (λ e. refl) (is_told t cover) (by_name t)
      (by_name-ascending t valid)

  pub targets_distinct : AreDistinct (map (λ target. target.to) (targets t cover))
  targets_distinct = distinct-from_ascending (map (λ target. target.to) (targets t cover)) targets_ascend

  -- the name is told at its level
  abbrev pub IsTold : List ℕ → Type 0
  IsTold name = (k : ℕ) × (slice_get (targets t cover) k ≡ Some (record { to = name; level = lcp t.owner name + 1 }))

  link_told : (name : List ℕ) (kind : Kind) → kind_in t name ≡ Some kind → is_told t cover (link_to name kind) ≡ true → IsTold name
  link_told name kind found told =
      let link = found_by_name t valid name kind found in
      picked-got (target_of t.owner) (is_told t cover) (by_name t) link.0 (link_to name kind) link.1 told

  module _ (name : List ℕ) (not_joiner : name ≢ cover.joiner) where
    -- a pin of a level that is covered is told
    pub pin_told : kind_in t name ≡ Some Pin → is_covered cover (lcp t.owner name) ≡ true → IsTold name
    pin_told pinned now =
        link_told name Pin pinned
        (rw (differ cover.joiner name not_joiner, now) refl)

    -- and an introduced one
    pub introduced_told : kind_in t name ≡ Some Pin → is_introduced cover (lcp t.owner name) ≡ true → IsTold name
    introduced_told pinned now =
        link_told name Pin pinned
        (rw (differ cover.joiner name not_joiner, now) (or_right (is_covered cover (lcp t.owner name) && true) true refl))

    -- and the primary of a slot of a level that is covered, in which another name may stand too
    pub primary_told : (other : List ℕ) → IsName t.settings other → other ≢ t.owner → primary_near t other ≡ Some name
        → is_covered cover (lcp t.owner other) ≡ true
        → (k : ℕ) × (slice_get (targets t cover) k ≡ Some (record { to = name; level = lcp t.owner other + 1 }))
    primary_told other is_name apart is now =
        let stands = primary_near-stands t valid other name is_name apart is in
        let level : lcp t.owner name ≡ lcp t.owner other =
        lcp-is t.owner name ∙ ap (λ s. s.level) stands.1 ∙ sym (lcp-is t.owner other) in
        let primary : primary_near t name ≡ Some name = ap (λ s. least_settled (links_at t s)) stands.1 ∙ is in
        let first : is_primary (primary_near t name) name ≡ true = rw primary ((bytes_eq-Decides name name).1 refl) in
        let told = link_told name Settled stands.0 (rw (differ cover.joiner name not_joiner, level, now, first) refl) in
        (told.0, told.1 ∙ ap (λ l. Some (at l)) level)
      where
        at : ℕ → Target
        at level = record { to = name; level = level + 1 }

    -- a first cover tells each pin of the levels from the prefix on: it is covered or introduced
    pub first_cover_tells : kind_in t name ≡ Some Pin → cover.first ≡ true → cover.prefix ≤ lcp t.owner name
        → lcp t.owner name < cover.before → IsTold name
    first_cover_tells pinned first from within =
        let level = lcp t.owner name in
        elim (cases_lt level cover.level) [
          | inl below ↦ introduced_told pinned (rw (first, le-leb cover.prefix level from, lt-ltb level cover.level below) refl)
          | inr above ↦ pin_told pinned (rw (le-leb cover.level level above, lt-ltb level cover.before within) refl)
        ]
