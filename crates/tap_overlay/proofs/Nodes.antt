-- Nodes by name, before and after one of them changes.
use Rattle.std.proofs.Common.{◌≡◌, inl, inr, ℕ, false, List, Some, sym, subst, ◌∙◌}
use Rattle.std.specs.Prelude.{◌≢◌, bytes_eq}
use Rattle.std.proofs.lemmas.Bool.{cases_Bool, true≢false}
use Rattle.std.proofs.lemmas.Slice.Eq.{bytes_eq-Decides}
use Rattle.tap_name.specs.Settings.{SettingsValue}
use Rattle.tap_node.specs.Node.{NodeValue}
use Rattle.indexmap.specs.IndexMap.{IndexMap, Updates}
use Rattle.tap_overlay.specs.Overlay.{ChangesOnly, HasNameAndSettings, HaveOwnNames, node_among}
use Rattle.tap_overlay.proofs.Found.{found_same}

-- names that differ aren't one
pub differ : (name other : List ℕ) → other ≢ name → bytes_eq name other ≡ false
differ name other apart =
    elim (cases_Bool (bytes_eq name other)) [
      | inl e ↦ absurd (apart (sym ((bytes_eq-Decides name other).0 e)))
      | inr e ↦ e
    ]

-- a map after one of its nodes has changed, or has come
pub changes_only : {S : Type 0} (before after : IndexMap (List ℕ) NodeValue S) (name : List ℕ) (node : NodeValue)
    → Updates bytes_eq before after name (Some node) → ChangesOnly before.entries after.entries name node
changes_only before after name node updates = record {
  here = sym (found_same after.entries name) ∙ updates.1;
  others = λ other apart.
      sym (found_same after.entries other) ∙ updates.2 other (differ name other apart) ∙ found_same before.entries other;
}

-- the node that has changed has its name and the settings, so each node still has its own
pub own_names : (p : SettingsValue) (before after : List (List ℕ × NodeValue)) (name : List ℕ) (node : NodeValue)
    → HaveOwnNames p before → ChangesOnly before after name node → HasNameAndSettings p name node → HaveOwnNames p after
own_names p before after name node own changes is other found there =
    elim (cases_Bool (bytes_eq other name)) [
      | inl e ↦
          let same : other ≡ name = (bytes_eq-Decides other name).0 e in
          let At : List ℕ → Type 0 = λ n. node_among after n ≡ Some found in
          let here : node_among after name ≡ Some found = subst At same there in
          let both : Some node ≡ Some found = sym changes.here ∙ here in
          let node_is : node ≡ found = cc in
          let Named : List ℕ → Type 0 = λ n. HasNameAndSettings p n found in
          let Of : NodeValue → Type 0 = λ n. HasNameAndSettings p name n in
          subst Named (sym same) (subst Of node_is is)
      | inr e ↦
          let apart : other ≢ name = λ same. true≢false (sym ((bytes_eq-Decides other name).1 same) ∙ e) in
          own other found (sym (changes.others other apart) ∙ there)
    ]
