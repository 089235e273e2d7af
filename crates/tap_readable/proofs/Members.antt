-- The members with which an overlay begins speak of names, and have no more links than there are members.
use Rattle.std.proofs.Common.{◌≡◌, ℕ, ◌≤◌, List, length, None, Some, arith, refl, ap, sym, subst, ◌∙◌, inl, inr}
use Rattle.std.proofs.lemmas.Bool.{cases_Bool}
use Rattle.std.proofs.lemmas.List.Elements.{All-nil}
use Rattle.tap_name.specs.Names.{Among, has_name}
use Rattle.tap_name.specs.Settings.{SettingsValue}
use Rattle.tap_name.proofs.Membership.{few_among, has_name-Decides}
use Rattle.tap_name.proofs.Sorted.{distinct-from_ascending}
use Rattle.tap_link.specs.declared.kind.Kind.{Kind}
use Rattle.tap_link.specs.declared.kind.Kind.TheVariants.{Leaving as LeavingKind, Pin, Settled}
use Rattle.tap_table.specs.ByName.{targets_by_name}
use Rattle.tap_table.proofs.Targets.{target_is_linked, targets-ascending}
use Rattle.tap_rule.specs.KeptNode.{IsNode}
use Rattle.tap_rule.specs.Node.{NodeState, member_at_rest}
use Rattle.tap_rule.proofs.KeptNode.{member_law}
use Rattle.tap_safety.specs.AtRest.{AreMembers, system_at_rest}
use Rattle.tap_safety.specs.Invariant.{Basis}
use Rattle.tap_safety.specs.Soft.{IsSoft}
use Rattle.tap_safety.specs.System.{System, HasLink}
use Rattle.tap_safety.proofs.AtRest.{at_rest_law}
use Rattle.tap_moves.specs.KnownNames.{IsNamedPair, IsParent}
use Rattle.tap_readable.proofs.Typed.{IsTypedParent}
use Rattle.tap_readable.proofs.ReadableMoves.{IsReadable, IsReadableNode, Reads}

module _ (p : SettingsValue) (members : List (List ℕ)) (are : AreMembers p members) (few : length members ≤ 255) where
  abbrev s : System
  s = system_at_rest p members

  basis : Basis p s
  basis = (at_rest_law p members are).basis

  -- a node is a member
  node_is_member : (x : List ℕ) (node : NodeState) → s.node x ≡ Some node → Among x members × (node ≡ member_at_rest p members x)
  node_is_member x node is =
      elim (cases_Bool (has_name members x)) [
        | inl has ↦
            let one : Some (member_at_rest p members x) ≡ Some node = rw has at is in
            ((has_name-Decides members x).0 has, cc)
        | inr none ↦ let wrong : None ≡ Some node = rw none at is in absurd (cc)
      ]

  soft_is_member : (t : List ℕ) → IsSoft s t → Among t members
  soft_is_member t (inl joins) = (node_is_member t joins.state joins.is).0
  soft_is_member t (inr (inl core)) = (node_is_member t core.state core.is).0
  soft_is_member t (inr (inr ceased)) = (node_is_member t ceased.state ceased.is).0

  -- and so is whom it has a link to
  linked_is_member : (x t : List ℕ) (kind : Kind) → HasLink s x t kind → Among t members
  linked_is_member x t Pin link = soft_is_member t (basis.soft.pins x t link)
  linked_is_member x t Settled link = let core = basis.soft.settled x t link in (node_is_member t core.state core.is).0
  linked_is_member x t LeavingKind link = absurd (basis.departure.marked x t refl link)

  member_reads : (x : List ℕ) → Among x members → s.node x ≡ Some (member_at_rest p members x)
      → IsReadableNode p x (member_at_rest p members x)
  member_reads x among at =
      let node = member_at_rest p members x in
      let is : IsNode node = member_law p members x are.limits (are.names x among) are.names are.distinct in
      let targets = targets_by_name node.ties.table in
      let fewer = few_among targets members (distinct-from_ascending targets (targets-ascending node.ties.table is.ties.table))
      (λ t there.
      let found = target_is_linked node.ties.table is.ties.table t there in
      linked_is_member x t found.0 (record { state = node; is = at; link = found.1 })) in
      record {
        is_node = is;
        name = refl;
        settings = refl;
        names = record {
          parents = All-nil (λ s. IsParent p s.parent);
          cast_parents = All-nil (λ s. IsParent p s.parent);
          pairs = All-nil (IsNamedPair p);
          few = omega (arith, fewer, few);
        };
        typed = record { parents = All-nil (λ s. IsTypedParent s.parent); cast_parents = All-nil (λ s. IsTypedParent s.parent) };
      }

  pub members_read : IsReadable p s
  members_read = record {
    nodes = λ x node at.
        let found = node_is_member x node at in
        subst (λ n. IsReadableNode p x n) (sym found.1) (member_reads x found.0 (at ∙ ap Some found.1));
    frames = All-nil (Reads p);
  }
