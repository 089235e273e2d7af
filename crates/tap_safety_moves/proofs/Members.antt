-- The members with which an overlay begins have the whole invariant.
-- Cited above: node_is_member, sound_at_rest
use Rattle.std.proofs.Common.{◌≡◌, ℕ, ◌≤◌, List, ◌∷◌, length, None, Some, true, arith, refl, ap, sym, subst, ◌∙◌, inl, inr}
use Rattle.std.specs.Prelude.{not, ◌&&◌}
use Rattle.std.proofs.lemmas.Bool.{cases_Bool}
use Rattle.std.proofs.lemmas.List.Elements.{All-nil}
use Rattle.tap_name.specs.Names.{Among, AreDistinct, are_distinct, has_name}
use Rattle.tap_name.specs.Settings.{SettingsValue}
use Rattle.tap_name.proofs.Membership.{are_distinct-Decides, few_among, has_name-Decides, has_name-no}
use Rattle.tap_name.proofs.Sorted.{distinct-from_ascending}
use Rattle.tap_link.specs.declared.kind.Kind.{Kind}
use Rattle.tap_link.specs.declared.kind.Kind.TheVariants.{Leaving as LeavingKind, Pin, Settled}
use Rattle.tap_pointer.specs.Reconcile.{wanted_hop}
use Rattle.tap_table.specs.ByName.{targets_by_name}
use Rattle.tap_table.specs.Table.{IsTable, TableValue}
use Rattle.tap_table.proofs.Found.{linked_is_other}
use Rattle.tap_table.proofs.Targets.{target_is_linked, targets-ascending}
use Rattle.tap_rule.specs.Node.{NodeState, member_at_rest}
use Rattle.tap_rule.proofs.KeptNode.{member_law}
use Rattle.tap_safety.specs.AtRest.{AreMembers, system_at_rest}
use Rattle.tap_safety.specs.Invariant.{Basis}
use Rattle.tap_safety.specs.Seeking.{HasNode}
use Rattle.tap_safety.specs.Soft.{IsSoft}
use Rattle.tap_safety.specs.System.{System, HasLink}
use Rattle.tap_safety.proofs.AtRest.{at_rest_law}
use Rattle.tap_safety.proofs.FewSessions.{few_at_rest}
use Rattle.tap_moves.specs.KnownNames.{AreNodes, IsNamedPair, IsNodeOf, IsParent}
use Rattle.tap_moves.proofs.EndMoves.{askers_at_rest}
use Rattle.tap_safety_moves.specs.Sound.{SoundAtRest}

-- ---- the links of a node

-- distinct names, and one that isn't among them, are distinct
one_more_distinct : (x : List ℕ) (names : List (List ℕ)) → (Among x names → ⊥) → AreDistinct names → AreDistinct (x ∷ names)
one_more_distinct x names apart distinct =
    let new : not (has_name names x) ≡ true = (has_name-no names x).1 apart in
    let others : are_distinct names ≡ true = (are_distinct-Decides names).1 distinct in
    let all : not (has_name names x) && are_distinct names ≡ true = rw (new, others) refl in
    (are_distinct-Decides (x ∷ names)).0 all

-- a soft node is a node
soft_node : (s : System) (x : List ℕ) → IsSoft s x → HasNode s x
soft_node s x (inl joins) = record { state = joins.state; is = joins.is }
soft_node s x (inr (inl core)) = record { state = core.state; is = core.is }
soft_node s x (inr (inr ceased)) = record { state = ceased.state; is = ceased.is }

-- a node links to nodes while no link is marked
linked_node : (p : SettingsValue) (s : System) → Basis p s → ((x t : List ℕ) → HasLink s x t LeavingKind → ⊥) → (x t : List ℕ) (kind : Kind)
    → HasLink s x t kind → HasNode s t
linked_node p s inv unmarked x t Pin link = soft_node s t (inv.soft.pins x t link)
linked_node p s inv unmarked x t Settled link =
    let core = inv.soft.settled x t link in record { state = core.state; is = core.is }
linked_node p s inv unmarked x t LeavingKind link = absurd (unmarked x t link)

-- so its links are at most 255: it is a node itself, and there are at most 256
few_links : (p : SettingsValue) (s : System) → Basis p s → ((x t : List ℕ) → HasLink s x t LeavingKind → ⊥) → (x : List ℕ) (node : NodeState)
    → s.node x ≡ Some node → IsTable node.ties.table → node.ties.table.owner ≡ x → length (targets_by_name node.ties.table) ≤ 255
few_links p s inv unmarked x node at valid owner =
    let t : TableValue = node.ties.table in
    let targets = targets_by_name t in
    let apart : Among x targets → ⊥ = λ among.
    let found = target_is_linked t valid x among in linked_is_other t valid x found.0 found.1 (sym owner) in
    let distinct = one_more_distinct x targets apart (distinct-from_ascending targets (targets-ascending t valid)) in
    let fewer = few_among (x ∷ targets) inv.few.names distinct (each targets (λ y among. among)) in
    let most = inv.few.few in
    omega (arith, fewer, most)
  where
    each : (targets : List (List ℕ)) → ((y : List ℕ) → Among y targets → Among y (targets_by_name node.ties.table)) → (y : List ℕ)
        → Among y (x ∷ targets) → Among y inv.few.names
    each targets are y (inl same) = subst (λ z. Among z inv.few.names) (sym same) (inv.few.all x (record { state = node; is = at }))
    each targets are y (inr among) =
        let found = target_is_linked node.ties.table valid y (are y among) in
        inv.few.all y (linked_node p s inv unmarked x y found.0 (record { state = node; is = at; link = found.1 }))

-- ---- the members

-- a node of the members at rest is one of them
pub node_is_member : (p : SettingsValue) (members : List (List ℕ)) (x : List ℕ) (node : NodeState)
    → (system_at_rest p members).node x ≡ Some node → Among x members × (node ≡ member_at_rest p members x)
node_is_member p members x node is =
    elim (cases_Bool (has_name members x)) [
      | inl has ↦
          let one : Some (member_at_rest p members x) ≡ Some node = rw has at is in
          ((has_name-Decides members x).0 has, cc)
      | inr none ↦ let wrong : None ≡ Some node = rw none at is in absurd (cc)
    ]

member_is_node : (p : SettingsValue) (members : List (List ℕ)) (x : List ℕ) → AreMembers p members → Among x members
    → (system_at_rest p members).node x ≡ Some (member_at_rest p members x) → IsNodeOf p x (member_at_rest p members x)
member_is_node p members x are among at =
    let is = member_law p members x are.limits (are.names x among) are.names are.distinct in
    let inv = (at_rest_law p members are).basis in
    record {
      is_node = is;
      name = refl;
      settings = refl;
      knows = record {
        parents = All-nil (λ s. IsParent p s.parent);
        cast_parents = All-nil (λ s. IsParent p s.parent);
        pairs = All-nil (IsNamedPair p);
        few =
            few_links p (system_at_rest p members) inv (λ y t link. inv.departure.marked y t refl link) x (member_at_rest p members x) at
            is.ties.table refl;
      };
      laid = λ running. All-nil (λ e. e.1.laid ≡ wanted_hop (member_at_rest p members x).ties.table e);
    }

members_are_nodes : (p : SettingsValue) (members : List (List ℕ)) → AreMembers p members → AreNodes p (system_at_rest p members)
members_are_nodes p members are = record {
  nodes = λ x node at.
      let found = node_is_member p members x node at in
      let here = ap Some found.1 in
      subst (λ n. IsNodeOf p x n) (sym found.1) (member_is_node p members x are found.0 (at ∙ here));
}

pub sound_at_rest : SoundAtRest
sound_at_rest p members are = record {
  invariant = at_rest_law p members are;
  nodes = members_are_nodes p members are;
  askers = askers_at_rest p members are;
  few = few_at_rest p members are;
  shallow = record { each = λ number frame among. absurd among };
}
