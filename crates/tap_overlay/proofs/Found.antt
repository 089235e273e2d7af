-- A node is found by the hash of its name as by the order of names, and names that ascend and differ ascend strictly.
use Rattle.std.proofs.Common.{◌≡◌, inl, inr, ℕ, Bool, false, cond, List, [], ◌∷◌, refl, ap, sym, subst, ◌∙◌}
use Rattle.std.specs.Prelude.{bytes_eq}
use Rattle.std.specs.BTreeMap.{is_at}
use Rattle.std.specs.Cmp.Lexicographic.{nat_list_cmp_total, texts_ties}
use Rattle.std.specs.List.{IsDistinct, dedup, dedup_from}
use Rattle.std.specs.List.Sorted.{IsSorted, IsStrictlySortedBy}
use Rattle.std.specs.Map.{lookup}
use mathlib.Core.Path.{fun_ext}
use Rattle.std.proofs.lemmas.Bool.{cases_Bool, true≢false}
use Rattle.std.proofs.lemmas.List.Kept.{IsStrictlySortedBy-dedup}
use Rattle.std.proofs.lemmas.Map.Keys.{IsDistinct-head, IsDistinct-tail}
use Rattle.std.proofs.lemmas.Map.Text.{is_eq-slice_cmp}
use Rattle.std.proofs.lemmas.Slice.Eq.{bytes_eq-Decides}
use Rattle.tap_name.specs.Order.{name_cmp}
use Rattle.tap_node.specs.Node.{NodeValue}
use Rattle.tap_overlay.specs.Overlay.{node_among}

-- a name is equal to those to which it compares so
same_test : (name : List ℕ) → bytes_eq name ≡ is_at (name_cmp name)
same_test name = fun_ext (λ (other : List ℕ). sym (is_eq-slice_cmp name other))

-- the node of a name, by either test
pub found_same : (nodes : List (List ℕ × NodeValue)) (name : List ℕ) → lookup (bytes_eq name) nodes ≡ node_among nodes name
found_same nodes name = ap (λ (test : List ℕ → Bool). lookup test nodes) (same_test name)

-- names that differ do so in either order
reversed : (name other : List ℕ) → bytes_eq name other ≡ false → bytes_eq other name ≡ false
reversed name other apart =
    elim (cases_Bool (bytes_eq other name)) [
      | inl e ↦ absurd (true≢false (sym ((bytes_eq-Decides name other).1 (sym ((bytes_eq-Decides other name).0 e))) ∙ apart))
      | inr e ↦ e
    ]

-- names that differ are all kept
kept : (name : List ℕ) (names : List (List ℕ)) → IsDistinct bytes_eq (name ∷ names) → dedup_from bytes_eq name names ≡ name ∷ names
kept name [] distinct = refl
kept name (next ∷ names) distinct =
    let apart : bytes_eq name next ≡ false = (IsDistinct-head bytes_eq name (next ∷ names) distinct).0 in
    let turned : bytes_eq next name ≡ false = reversed name next apart in
    ap (λ (b : Bool). cond b (dedup_from bytes_eq name names) (name ∷ dedup_from bytes_eq next names)) turned
    ∙ ap (λ (l : List (List ℕ)). name ∷ l) (kept next names (IsDistinct-tail bytes_eq name (next ∷ names) distinct))

all_kept : (names : List (List ℕ)) → IsDistinct bytes_eq names → dedup bytes_eq names ≡ names
all_kept [] distinct = refl
all_kept (name ∷ names) distinct = kept name names distinct

-- names that ascend and differ ascend strictly
pub strictly : (names : List (List ℕ)) → IsSorted name_cmp names → IsDistinct bytes_eq names → IsStrictlySortedBy name_cmp names
strictly names ascending distinct =
    let Ascend : List (List ℕ) → Type 0 = λ l. IsStrictlySortedBy name_cmp l in
    subst Ascend (all_kept names distinct) (IsStrictlySortedBy-dedup nat_list_cmp_total texts_ties names ascending)
