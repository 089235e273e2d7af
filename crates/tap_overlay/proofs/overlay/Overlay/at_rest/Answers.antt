use Rattle.std.proofs.Common.{◌≡◌, ◌≤◌, ℕ, List, length, All, ap, arith, refl, subst, sym, ◌∙◌}
use Rattle.std.proofs.lemmas.List.Sorted.{All-permutation, length_permutation}
use Rattle.tap_name.specs.Distinct.{AreDistinct}
use Rattle.tap_name.specs.Name.{IsName}
use Rattle.tap_name.specs.Order.{sorted}
use Rattle.tap_name.proofs.Membership.{distinct-permutation}
use Rattle.tap_name.proofs.Sorted.{sorted-permutation}
use Rattle.tap_overlay.specs.Overlay.{member_at}
use Rattle.tap_overlay.proofs.AtRest.{rest_named, sorted_member}
use Rattle.tap_overlay.proofs.overlay.Overlay.at_rest.Goals as goal

pub members_at_rest-requires-clause-names : goal.members_at_rest-requires-clause-names
members_at_rest-requires-clause-names c =
    let members = c.args.members.now in
    let P : List ℕ → Type 0 = IsName c.args.settings.now in
    subst (All P) (sym c.in_ok-ascending.ensures) (All-permutation P members (sorted members) (sorted-permutation members) c.requires.names)

pub members_at_rest-requires-clause-distinct : goal.members_at_rest-requires-clause-distinct
members_at_rest-requires-clause-distinct c =
    let members = c.args.members.now in
    subst AreDistinct (sym c.in_ok-ascending.ensures)
    (distinct-permutation members (sorted members) (sorted-permutation members) c.requires.distinct)

pub members_at_rest-requires-clause-few : goal.members_at_rest-requires-clause-few
members_at_rest-requires-clause-few c =
    let members = c.args.members.now in
    let Few : List (List ℕ) → Type 0 = λ names. length names ≤ 256 in
    let few : Few (sorted members) =
    omega (arith, length_permutation members (sorted members) (sorted-permutation members), c.requires.few) in
    subst Few (sym c.in_ok-ascending.ensures) few

pub invariant_of-result : goal.invariant_of-result
invariant_of-result c = record {
  own = rest_named c.args.settings.now c.in_ok-ascending.ascending c.in_ok-nodes.nodes.entries c.in_ok-nodes.ensures.members;
  ascending = c.in_ok-nodes.ensures.ascending;
}

pub returns : goal.returns
returns c =
    let p = c.args.settings.now in
    record {
      settings_are = refl;
      nodes_are = λ name. c.in_ok-nodes.ensures.members name ∙ ap (λ (names : List (List ℕ)). member_at p names name) c.in_ok-ascending.ensures
          ∙ sorted_member p c.args.members.now name;
    }
