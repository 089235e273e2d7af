-- A frame that isn't strange leaves a node no more links than it may have.
use Rattle.std.proofs.Common.{◌≡◌, ◌≢◌, ◌⊎◌, ℕ, ◌≤◌, if◌then◌else◌, List, [], ◌∷◌, length, Some, false, arith, refl, sym, subst, ◌∙◌, inl, inr}
use Rattle.std.specs.Prelude.{nat_eq, nat_lt}
use Rattle.std.specs.Cmp.Lexicographic.{pointwise}
use Rattle.std.proofs.lemmas.Bool.{cases_Bool, ltb-false}
use Rattle.std.proofs.lemmas.Slice.Eq.{bytes_eq-Decides}
use Rattle.tap_name.specs.Name.{IsName}
use Rattle.tap_name.specs.Names.{Among, has_name}
use Rattle.tap_name.proofs.Membership.{few_among, has_name-Decides}
use Rattle.tap_name.proofs.Sorted.{distinct-from_ascending}
use Rattle.tap_link.specs.declared.kind.Kind.{Kind}
use Rattle.tap_table.specs.ByName.{targets_by_name}
use Rattle.tap_table.specs.Table.{IsTable, TableValue, kind_in, pinned, rows}
use Rattle.tap_table.proofs.Found.{linked_is_other}
use Rattle.tap_table.proofs.KeptTable.{IsTable-pinned}
use Rattle.tap_table.proofs.LookUps.{kind_in-pinned}
use Rattle.tap_table.proofs.NewLinks.{pinned_rule_new}
use Rattle.tap_table.proofs.Targets.{linked_is_target, target_is_linked, targets-ascending}
use Rattle.tap_depart.specs.Leaving.{names_but}
use Rattle.tap_rule.specs.Strange.{with_names}
use Rattle.tap_node_common.proofs.Rows.{rows_by_name}

-- known names, and further ones, are among them together
among_known : (names known : List (List ℕ)) (x : List ℕ) → Among x known → Among x (with_names known names)
among_known [] known x among = among
among_known (name ∷ names) known x among =
    elim (cases_Bool (has_name known name)) [
      | inl there ↦ rw there (among_known names known x among)
      | inr absent ↦ rw absent (among_known names (name ∷ known) x (inr among))
    ]

among_new : (names known : List (List ℕ)) (x : List ℕ) → Among x names → Among x (with_names known names)
among_new [] known x among = absurd among
among_new (name ∷ names) known x (inl is) =
    elim (cases_Bool (has_name known name)) [
      | inl there ↦
          rw there (among_known names known x (subst (λ y. Among y known) (sym is) ((has_name-Decides known name).0 there)))
      | inr absent ↦ rw absent (among_known names (name ∷ known) x (inl is))
    ]
among_new (name ∷ names) known x (inr later) = among_new names (if has_name known name then known else name ∷ known) x later

pub among_but : (names : List (List ℕ)) (own x : List ℕ) → Among x names → x ≢ own → Among x (names_but names own)
among_but [] own x among apart = among
among_but (name ∷ names) own x (inl is) apart =
    elim (cases_Bool (pointwise nat_eq name own)) [
      | inl same ↦ absurd (apart (is ∙ (bytes_eq-Decides name own).0 same))
      | inr other ↦ rw other (inl is)
    ]
among_but (name ∷ names) own x (inr later) apart =
    elim (cases_Bool (pointwise nat_eq name own)) [
      | inl same ↦ rw same (among_but names own x later apart)
      | inr other ↦ rw other (inr (among_but names own x later apart))
    ]

-- a table whose links are those of another, or to some names, which together aren't too many
module _ (t u : TableValue) (of_u : IsTable u) (owner : u.owner ≡ t.owner) (names : List (List ℕ))
    (new : (x : List ℕ) (kind : Kind) → kind_in u x ≡ Some kind → Among x (targets_by_name t) ⊎ Among x names) where
  pub few_after : nat_lt 255 (length (names_but (with_names (targets_by_name t) names) t.owner)) ≡ false → length (rows u) ≤ 255
  few_after enough =
      let known = with_names (targets_by_name t) names in
      let all : (x : List ℕ) → Among x (targets_by_name u) → Among x (names_but known t.owner) = λ x among.
      let found = target_is_linked u of_u x among in
      let either : Among x known = elim (new x found.0 found.1) [
        | inl was ↦ among_known names (targets_by_name t) x was
        | inr named ↦ among_new names (targets_by_name t) x named
      ] in
      among_but known t.owner x either (λ is. linked_is_other u of_u x found.0 found.1 (is ∙ sym owner)) in
      let few = few_among (targets_by_name u) (names_but known t.owner)
      (distinct-from_ascending (targets_by_name u) (targets-ascending u of_u)) all in
      let limit = ltb-false 255 (length (names_but known t.owner)) enough in
      omega (arith, few, limit, rows_by_name u of_u)

-- after a pin
pub few-pinned : (t : TableValue) (name : List ℕ) → IsTable t → IsName t.settings name → name ≢ t.owner
    → nat_lt 255 (length (names_but (with_names (targets_by_name t) (name ∷ [])) t.owner)) ≡ false → length (rows (pinned t name)) ≤ 255
few-pinned t name valid is_name other enough =
    few_after t (pinned t name) (IsTable-pinned t name valid is_name other) refl (name ∷ [])
    (λ x kind is.
    elim (pinned_rule_new name x (kind_in t x) kind (sym (kind_in-pinned t name valid is_name other x) ∙ is)) [
      | inl was ↦ inl (linked_is_target t valid x kind was)
      | inr new ↦ inr (inl new.0)
    ])
    enough
