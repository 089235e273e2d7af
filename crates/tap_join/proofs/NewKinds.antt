-- What pins and offers make of one kind and of the room of a slot.
use Rattle.std.proofs.Common.{◌≡◌, ◌≢◌, ◌⊎◌, ℕ, ◌≤◌, nat_lt, Bool, true, false, Option, None, Some, List, [], get_or, arith, ap, refl, ◌∙◌, inl, inr}
use Rattle.std.specs.Ordering.{is_eq}
use Rattle.std.proofs.lemmas.Bool.{cases_Bool, cases_eq, le-ltb, ltb-false}
use Rattle.std.proofs.lemmas.Cmp.{nat_list_cmp_total}
use Rattle.tap_name.specs.Name.{IsName}
use Rattle.tap_link.specs.declared.kind.Kind.{Kind}
use Rattle.tap_link.specs.declared.kind.Kind.TheVariants.{Pin, Settled}
use Rattle.tap_link.specs.LinkSet.{LinksAscend, LinkSetValue, settled_count}
use Rattle.tap_link.specs.LinkSet.{pinned as set_pinned, offered as set_offered}
use Rattle.tap_link.proofs.Sizes.{settled_count-offered, settled_count-pinned}
use Rattle.tap_link.proofs.TargetKinds.{kind_offered, kind_pinned}
use Rattle.tap_table.specs.Table.{IsTable, SlotLinks, TableValue, has_room_near, links_near, name_cmp, near, offered, pinned, with_near}
use Rattle.tap_table.proofs.LookUps.{by_rule}
use Rattle.tap_table.proofs.Near.{links_elsewhere, links_here, number_near}

-- after a pin there is a link; after an offer there is one, or there was no room
pub pinned_has : (found : Option Kind) → (kind : Kind) × (kind_pinned found ≡ Some kind)
pinned_has None = (Pin, refl)
pinned_has (Some kind) = (kind, refl)

pub offered_has : (found : Option Kind) (room : Bool) → ((kind : Kind) × (kind_offered room found ≡ Some kind)) ⊎ (room ≡ false)
offered_has None true = inl (Settled, refl)
offered_has None false = inr refl
offered_has (Some kind) room = inl (kind, refl)

module _ (name other : List ℕ) (rule : Option Kind → Option Kind) where
  -- a rule that keeps a kind keeps it for each name
  pub kept_by_rule : (kind : Kind) → rule (Some kind) ≡ Some kind → by_rule name other rule (Some kind) ≡ Some kind
  kept_by_rule kind keeps =
      elim (cases_Bool (is_eq (name_cmp other name))) [ inl tied ↦ rw tied keeps | inr apart ↦ rw apart refl ]

module _ (t : TableValue) (name : List ℕ) (valid : IsTable t) (is_name : IsName t.settings name) (apart : name ≢ t.owner)
    (other : List ℕ) (full : has_room_near t other ≡ false) where
  -- a slot without room has none where its set has no fewer settled links
  full_with_near : (new : LinkSetValue (List ℕ)) → settled_count (links_near t name) ≤ settled_count new.links
      → has_room_near (with_near t name new) other ≡ false
  full_with_near new more =
      let room : SlotLinks → Bool = λ links. nat_lt (settled_count links) t.settings.width in
      elim (cases_eq (number_near t other) (number_near t name)) [
        | inl same ↦
            let now = ap (λ n. get_or (with_near t name new).slots n []) same ∙ links_here t name valid is_name apart new in
            let old : links_near t other ≡ links_near t name = ap (λ n. get_or t.slots n []) same in
            let wide = ltb-false (settled_count (links_near t other)) t.settings.width full in
            let count = ap settled_count old in
            ap room now ∙ le-ltb (settled_count new.links) t.settings.width (omega (arith, wide, count, more))
        | inr ne ↦ ap room (links_elsewhere t name valid is_name apart new (number_near t other) ne) ∙ full
      ]

  ascending : LinksAscend name_cmp (links_near t name)
  ascending = (valid.sets (number_near t name)).ascending

  -- so pins and offers leave it without room
  pub full_after_pin : has_room_near (pinned t name) other ≡ false
  full_after_pin =
      let count = settled_count-pinned name_cmp nat_list_cmp_total (near t name) name ascending in
      full_with_near (set_pinned name_cmp (near t name) name) (omega (arith, count))

  pub full_after_offer : has_room_near (offered t name) other ≡ false
  full_after_offer =
      let count = settled_count-offered name_cmp nat_list_cmp_total (near t name) name ascending in
      full_with_near (set_offered name_cmp (near t name) name) (omega (arith, count))
