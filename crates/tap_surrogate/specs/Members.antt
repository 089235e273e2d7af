-- The tables at rest over a set of members.
use Rattle.std.specs.Prelude.{◌≡◌, ◌↔◌, ℕ, List, IsSomeAnd}
use Rattle.tap_name.specs.declared.slot.Slot.{Slot}
use Rattle.tap_name.specs.Settings.{SettingsValue}
use Rattle.tap_name.specs.Root.{Among}
use Rattle.tap_table.specs.Members.{AreLeastFitting, IsTableAtRest, settled_links}
use Rattle.tap_surrogate.specs.Tables.{Tables}
use Rattle.tap_surrogate.specs.Nodes.{Nodes, IsCore, core_links, links_in}

-- each slot of each member's table has the `width` least members that fit it
abbrev pub AreMembersTables : SettingsValue → List (List ℕ) → Tables → Type 0
AreMembersTables p members tables =
    (owner : List ℕ) (slot : Slot) → Among owner members
    → AreLeastFitting p.width owner slot members (tables owner slot)

-- The members of an overlay at rest: they alone are core, and each has its table at rest over all of them.
pub record AreMembersAtRest (p : SettingsValue) (members : List (List ℕ)) (nodes : Nodes) : Type 0 where
  pub core : (name : List ℕ) → IsCore nodes name ↔ Among name members
  pub tables : (member : List ℕ) → Among member members
      → IsSomeAnd (nodes.table_of member) (IsTableAtRest p member members)

-- Each slot of each member's table has links to the `width` least members that fit it, all of them settled.
pub record HaveLeastFitting (p : SettingsValue) (members : List (List ℕ)) (nodes : Nodes) : Type 0 where
  pub least : AreMembersTables p members (core_links nodes)
  pub settled : (owner : List ℕ) (slot : Slot) → Among owner members
      → links_in (nodes.table_of owner) slot ≡ settled_links (core_links nodes owner slot)
