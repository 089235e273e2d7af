-- Each change of a table keeps what every table keeps.
-- Cited above: IsTable-forgotten, IsTable-marked, IsTable-pinned, IsTable-released, IsTable-removed
use Rattle.std.proofs.Common.{◌≡◌, ◌≢◌, ℕ, Bool, true, false, if◌then◌else◌, List, refl, subst, ◌&&◌}
use Rattle.std.specs.Option.{is_none}
use Rattle.std.proofs.lemmas.Cmp.{nat_list_cmp_total}
use Rattle.tap_name.specs.Name.{IsName}
use Rattle.tap_link.specs.declared.kind.Released.{Released}
use Rattle.tap_link.specs.declared.kind.Released.TheVariants.{Settled as ReleasedSettled, Dropped, Nothing}
use Rattle.tap_link.specs.declared.kind.Kind.TheVariants.{Pin, Settled, Leaving}
use Rattle.tap_link.specs.LinkSet.{IsLinkSet, LinkSetValue, after_release, has_room, is_pinned, is_settled, is_settled_or_leaving, kind_of, released_as, with_kind, with_link, without}
use Rattle.tap_link.specs.LinkSet.{pinned as set_pinned, offered as set_offered, released as set_released, forgotten as set_forgotten, marked as set_marked, removed as set_removed}
use Rattle.tap_link.proofs.Targets.{AllTargets, all_targets-with_kind, all_targets-with_link, all_targets-without}
use Rattle.tap_link.proofs.Valid.{valid-forgotten, valid-marked, valid-offered, valid-pinned, valid-released, valid-removed}
use Rattle.tap_table.specs.Table.{IsTable, SlotLinks, StandsIn, TableValue, forgotten, marked, name_cmp, near, offered, pinned, released, removed, with_near}
use Rattle.tap_table.proofs.Near.{IsTable-with_near, number_near}

-- what holds of both sets holds of the one that a test picks
picked : (Q : LinkSetValue (List ℕ) → Type 0) (test : Bool) (new old : LinkSetValue (List ℕ)) → Q new → Q old
    → Q (if test then new else old)
picked Q true new old holds before = holds
picked Q false new old holds before = before

module _ (set : LinkSetValue (List ℕ)) (name : List ℕ) where
  abbrev SameWidth : LinkSetValue (List ℕ) → Type 0
  SameWidth new = new.width ≡ set.width

  abbrev with : SlotLinks → LinkSetValue (List ℕ)
  with links = record set { links = links }

  -- the width stays
  pub width-pinned : SameWidth (set_pinned name_cmp set name)
  width-pinned =
      picked SameWidth (is_none (kind_of name_cmp set.links name)) (with (with_link name_cmp set.links name Pin)) set refl refl

  pub width-offered : SameWidth (set_offered name_cmp set name)
  width-offered =
      picked SameWidth (is_none (kind_of name_cmp set.links name) && has_room set) (with (with_link name_cmp set.links name Settled))
      set refl refl

  pub width-forgotten : SameWidth (set_forgotten name_cmp set name)
  width-forgotten =
      picked SameWidth (is_pinned (kind_of name_cmp set.links name)) (with (without name_cmp set.links name)) set refl refl

  pub width-marked : SameWidth (set_marked name_cmp set name)
  width-marked =
      picked SameWidth (is_settled (kind_of name_cmp set.links name)) (with (with_kind name_cmp set.links name Leaving)) set refl refl

  pub width-removed : SameWidth (set_removed name_cmp set name)
  width-removed =
      picked SameWidth (is_settled_or_leaving (kind_of name_cmp set.links name)) (with (without name_cmp set.links name)) set refl refl

  -- what holds of each target, and of the name, holds of each target after
  module _ (P : List ℕ → Type 0) (all : AllTargets name_cmp P set.links) where
    abbrev Holds : LinkSetValue (List ℕ) → Type 0
    Holds new = AllTargets name_cmp P new.links

    targets-pinned : P name → Holds (set_pinned name_cmp set name)
    targets-pinned here =
        picked Holds (is_none (kind_of name_cmp set.links name)) (with (with_link name_cmp set.links name Pin)) set
        (all_targets-with_link name_cmp P set.links name Pin all here) all

    targets-offered : P name → Holds (set_offered name_cmp set name)
    targets-offered here =
        picked Holds (is_none (kind_of name_cmp set.links name) && has_room set) (with (with_link name_cmp set.links name Settled)) set
        (all_targets-with_link name_cmp P set.links name Settled all here) all

    targets-after_release : (answer : Released) → AllTargets name_cmp P (after_release name_cmp set.links name answer)
    targets-after_release ReleasedSettled = all_targets-with_kind name_cmp P set.links name Settled all
    targets-after_release Dropped = all_targets-without name_cmp P set.links name all
    targets-after_release Nothing = all

    targets-released : Holds (set_released name_cmp set name)
    targets-released = targets-after_release (released_as (is_pinned (kind_of name_cmp set.links name)) (has_room set))

    targets-forgotten : Holds (set_forgotten name_cmp set name)
    targets-forgotten =
        picked Holds (is_pinned (kind_of name_cmp set.links name)) (with (without name_cmp set.links name)) set
        (all_targets-without name_cmp P set.links name all) all

    targets-marked : Holds (set_marked name_cmp set name)
    targets-marked =
        picked Holds (is_settled (kind_of name_cmp set.links name)) (with (with_kind name_cmp set.links name Leaving)) set
        (all_targets-with_kind name_cmp P set.links name Leaving all) all

    targets-removed : Holds (set_removed name_cmp set name)
    targets-removed =
        picked Holds (is_settled_or_leaving (kind_of name_cmp set.links name)) (with (without name_cmp set.links name)) set
        (all_targets-without name_cmp P set.links name all) all

module _ (t : TableValue) (name : List ℕ) (valid : IsTable t) (is_name : IsName t.settings name) (other : name ≢ t.owner) where
  abbrev Stands : List ℕ → Type 0
  Stands target = StandsIn t.settings t.owner (number_near t name) target

  stands_here : Stands name
  stands_here = record { is_name = is_name; place = refl }

  abbrev old : LinkSetValue (List ℕ)
  old = near t name

  old_valid : IsLinkSet name_cmp old
  old_valid = valid.sets (number_near t name)

  old_stands : AllTargets name_cmp Stands (near t name).links
  old_stands = valid.standing (number_near t name)

  kept_by : (new : LinkSetValue (List ℕ)) → IsLinkSet name_cmp new → new.width ≡ t.settings.width
      → AllTargets name_cmp Stands new.links → IsTable (with_near t name new)
  kept_by new set_is width stand =
      let IsSet : ℕ → Type 0 = λ w. IsLinkSet name_cmp (record { width = w; links = new.links }) in
      IsTable-with_near t name valid is_name other new (subst IsSet width set_is) stand

  pub IsTable-pinned : IsTable (pinned t name)
  IsTable-pinned =
      kept_by (set_pinned name_cmp old name) (valid-pinned name_cmp nat_list_cmp_total old name old_valid) (width-pinned old name)
      (targets-pinned old name Stands old_stands stands_here)

  pub IsTable-offered : IsTable (offered t name)
  IsTable-offered =
      kept_by (set_offered name_cmp old name) (valid-offered name_cmp nat_list_cmp_total old name old_valid) (width-offered old name)
      (targets-offered old name Stands old_stands stands_here)

  pub IsTable-released : IsTable (released t name)
  IsTable-released =
      kept_by (set_released name_cmp old name) (valid-released name_cmp nat_list_cmp_total old name old_valid) refl
      (targets-released old name Stands old_stands)

  pub IsTable-forgotten : IsTable (forgotten t name)
  IsTable-forgotten =
      kept_by (set_forgotten name_cmp old name) (valid-forgotten name_cmp nat_list_cmp_total old name old_valid)
      (width-forgotten old name) (targets-forgotten old name Stands old_stands)

  pub IsTable-marked : IsTable (marked t name)
  IsTable-marked =
      kept_by (set_marked name_cmp old name) (valid-marked name_cmp nat_list_cmp_total old name old_valid) (width-marked old name)
      (targets-marked old name Stands old_stands)

  pub IsTable-removed : IsTable (removed t name)
  IsTable-removed =
      kept_by (set_removed name_cmp old name) (valid-removed name_cmp nat_list_cmp_total old name old_valid) (width-removed old name)
      (targets-removed old name Stands old_stands)
