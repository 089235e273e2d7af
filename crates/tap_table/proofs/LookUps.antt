-- The kind of every name after each change of a table: that of the name changes as in its slot's set, and others stay.
-- Cited above: by_rule, kind_in-forgotten, kind_in-marked, kind_in-offered, kind_in-pinned, kind_in-released, kind_in-removed, of_itself, of_others
use Rattle.std.proofs.Common.{◌≡◌, ◌≢◌, if◌then◌else◌, Option, List, [], ℕ, get_or, ap, refl, ◌∙◌, inl, inr}
use Rattle.std.specs.Ordering.{is_eq}
use Rattle.std.proofs.lemmas.Bool.{cases_eq}
use Rattle.std.proofs.lemmas.Cmp.{nat_list_cmp_total}
use Rattle.tap_name.specs.Name.{IsName}
use Rattle.tap_link.specs.declared.kind.Kind.{Kind}
use Rattle.tap_link.specs.LinkSet.{LinkSetValue, kind_of}
use Rattle.tap_link.specs.LinkSet.{pinned as set_pinned, offered as set_offered, released as set_released, forgotten as set_forgotten, marked as set_marked, removed as set_removed}
use Rattle.tap_link.proofs.TargetKinds.{kind_forgotten, kind_marked, kind_of-forgotten, kind_of-marked, kind_of-offered, kind_of-pinned, kind_of-released, kind_of-removed, kind_offered, kind_pinned, kind_released, kind_removed}
use Rattle.tap_table.specs.Table.{IsTable, TableValue, forgotten, has_room_near, kind_in, links_near, marked, name_cmp, near, offered, pinned, released, removed, with_near}
use Rattle.tap_table.proofs.Near.{apart_names, links_elsewhere, links_here, number_near, tied_itself}

-- the kind of one name by a rule, and those of others as they were
abbrev pub by_rule : List ℕ → List ℕ → (Option Kind → Option Kind) → Option Kind → Option Kind
by_rule name other rule kind = if is_eq (name_cmp other name) then rule kind else kind

module _ (t : TableValue) (name : List ℕ) (valid : IsTable t) (is_name : IsName t.settings name) (apart : name ≢ t.owner) where
  -- where the new set gives kinds by a rule, so does the table
  pub kind_in-with_near : (new : LinkSetValue (List ℕ)) (rule : Option Kind → Option Kind) (other : List ℕ)
      → kind_of name_cmp new.links other ≡ by_rule name other rule (kind_of name_cmp (links_near t name) other)
      → kind_in (with_near t name new) other ≡ by_rule name other rule (kind_in t other)
  kind_in-with_near new rule other is =
      elim (cases_eq (number_near t other) (number_near t name)) [
        | inl same ↦
            let now : links_near (with_near t name new) other ≡ new.links =
            ap (λ n. get_or (with_near t name new).slots n []) same ∙ links_here t name valid is_name apart new in
            let old : links_near t other ≡ links_near t name = ap (λ n. get_or t.slots n []) same in
            ap (λ l. kind_of name_cmp l other) now ∙ rw old is
        | inr ne ↦
            let now = links_elsewhere t name valid is_name apart new (number_near t other) ne in
            let differ = apart_names other name (λ e. ne (ap (number_near t) e)) in
            ap (λ l. kind_of name_cmp l other) now ∙ rw differ refl
      ]

  module _ (other : List ℕ) where
    pub kind_in-pinned : kind_in (pinned t name) other ≡ by_rule name other kind_pinned (kind_in t other)
    kind_in-pinned =
        kind_in-with_near (set_pinned name_cmp (near t name) name) kind_pinned other
        (kind_of-pinned name_cmp nat_list_cmp_total (near t name) name other)

    pub kind_in-offered : kind_in (offered t name) other
        ≡ by_rule name other (kind_offered (has_room_near t name)) (kind_in t other)
    kind_in-offered =
        kind_in-with_near (set_offered name_cmp (near t name) name) (kind_offered (has_room_near t name)) other
        (kind_of-offered name_cmp nat_list_cmp_total (near t name) name other)

    pub kind_in-released : kind_in (released t name) other
        ≡ by_rule name other (kind_released (has_room_near t name)) (kind_in t other)
    kind_in-released =
        kind_in-with_near (set_released name_cmp (near t name) name) (kind_released (has_room_near t name)) other
        (kind_of-released name_cmp nat_list_cmp_total (near t name) name other)

    pub kind_in-forgotten : kind_in (forgotten t name) other ≡ by_rule name other kind_forgotten (kind_in t other)
    kind_in-forgotten =
        kind_in-with_near (set_forgotten name_cmp (near t name) name) kind_forgotten other
        (kind_of-forgotten name_cmp nat_list_cmp_total (near t name) name other)

    pub kind_in-marked : kind_in (marked t name) other ≡ by_rule name other kind_marked (kind_in t other)
    kind_in-marked =
        kind_in-with_near (set_marked name_cmp (near t name) name) kind_marked other
        (kind_of-marked name_cmp nat_list_cmp_total (near t name) name other)

    pub kind_in-removed : kind_in (removed t name) other ≡ by_rule name other kind_removed (kind_in t other)
    kind_in-removed =
        kind_in-with_near (set_removed name_cmp (near t name) name) kind_removed other
        (kind_of-removed name_cmp nat_list_cmp_total (near t name) name other)

-- what a rule for one name says of that name, and of the others
pub of_itself : (name : List ℕ) (rule : Option Kind → Option Kind) (kind : Option Kind) → by_rule name name rule kind ≡ rule kind
of_itself name rule kind = rw (tied_itself name) refl

pub of_others : (name other : List ℕ) (rule : Option Kind → Option Kind) (kind : Option Kind) → other ≢ name
    → by_rule name other rule kind ≡ kind
of_others name other rule kind apart = rw (apart_names other name apart) refl
