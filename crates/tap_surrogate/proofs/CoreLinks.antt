-- the core nodes to which a node has links in a slot
use Rattle.std.proofs.Common.{◌≡◌, ℕ, ◌+◌, ◌<◌, Bool, true, false, Some, List, ◌∷◌, drop, slice_get, map, filter, ap, sym, refl, ◌∙◌}
use Rattle.std.proofs.lemmas.Bool.{lt-ltb}
use Rattle.std.proofs.lemmas.List.{drop_more}
use Rattle.std.proofs.lemmas.Option.{get_or_from_slice_get, slice_get_within}
use Rattle.tap_name.specs.declared.slot.Slot.{Slot}
use Rattle.tap_name.specs.Root.{first_of}
use Rattle.tap_table.specs.Table.{SlotLinks, TableValue, links_at}
use Rattle.tap_surrogate.specs.Nodes.{Nodes, core_links}
use Rattle.tap_surrogate.specs.Tables.{least_link}

-- the names from here on
from_here : (names : List (List ℕ)) (k : ℕ) (name : List ℕ) → slice_get names k ≡ Some name → drop k names ≡ name ∷ drop (k + 1) names
from_here names k name is =
    let here = get_or_from_slice_get names k name name is in
    drop_more names k name (slice_get_within names k name is) ∙ ap (λ x. x ∷ drop (k + 1) names) here

-- with none before it that passes, the first name that passes is this one
pub first_found : (passes : List ℕ → Bool) (names : List (List ℕ)) (k : ℕ) (name : List ℕ) (answer : Bool)
    → first_of (filter passes names) ≡ first_of (filter passes (drop k names)) → slice_get names k ≡ Some name
    → answer ≡ passes name → answer ≡ true → first_of (filter passes names) ≡ Some name
first_found passes names k name answer none_before is answers passed =
    let test : passes name ≡ true = sym answers ∙ passed in
    let here : first_of (filter passes (drop k names)) ≡ Some name = rw (from_here names k name is, test) refl in none_before ∙ here

-- or it comes later
pub first_comes_later : (passes : List ℕ → Bool) (names : List (List ℕ)) (k : ℕ) (name : List ℕ) (answer : Bool)
    → first_of (filter passes names) ≡ first_of (filter passes (drop k names)) → slice_get names k ≡ Some name
    → answer ≡ passes name → answer ≡ false → first_of (filter passes names) ≡ first_of (filter passes (drop (k + 1) names))
first_comes_later passes names k name answer none_before is answers failed =
    let test : passes name ≡ false = sym answers ∙ failed in
    let later : first_of (filter passes (drop k names)) ≡ first_of (filter passes (drop (k + 1) names)) =
    rw (from_here names k name is, test) refl in
    none_before ∙ later

-- the core links of a slot are the core targets that the slot of the table has
pub core_links_of : (nodes : Nodes) (table : TableValue) (node : List ℕ) (slot : Slot) (links : SlotLinks)
    → nodes.table_of node ≡ Some table
    → slot.digit < table.settings.base → links ≡ links_at table slot
    → filter nodes.core (map (λ e. e.target) links) ≡ core_links nodes node slot
core_links_of nodes table node slot links is below same =
    let test = lt-ltb slot.digit table.settings.base below in rw (is, test, same) refl

-- so the least link of a slot is the first core target there
pub least_link_of : (nodes : Nodes) (table : TableValue) (level digit : ℕ) (links : SlotLinks) → nodes.table_of table.owner ≡ Some table
    → digit < table.settings.base → links ≡ links_at table (record { level = level; digit = digit })
    → least_link (core_links nodes) table.owner level digit ≡ first_of (filter nodes.core (map (λ e. e.target) links))
least_link_of nodes table level digit links is below same =
    let slot : Slot = record { level = level; digit = digit } in
    ap first_of (sym (core_links_of nodes table table.owner slot links is below same))
