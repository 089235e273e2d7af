-- walks, level by level
use Rattle.std.proofs.Common.{◌≡◌, ◌==◌, ◌||◌, ℕ, ◌+◌, ◌<◌, Bool, true, false, List, ◌∷◌, get_or, None, Some, sym, refl, eqb}
use Rattle.std.specs.Option.{is_some}
use Rattle.std.proofs.lemmas.Bool.{eq-eqb}
use Rattle.tap_surrogate.specs.Tables.{Tables, least_link}
use Rattle.tap_surrogate.specs.Walk.{hop, walk_on}
use Rattle.tap_surrogate.proofs.Cyclic.{NonePassesBefore, first_cyclic_is}

-- a digit can be taken at a level: the node's own, or one with a link to a core node
abbrev pub leads : Tables → List ℕ → ℕ → ℕ → Bool
leads tables node level digit = get_or node level 0 == digit || is_some (least_link tables node level digit)

-- the walk stays where the node's own digit is the first one that leads on
pub own_is_taken : (base : ℕ) (tables : Tables) (node : List ℕ) (level wanted digit : ℕ) → wanted < base → digit < base
    → digit ≡ get_or node level 0
    → NonePassesBefore base (leads tables node level) wanted digit → None ≡ hop base tables node level wanted
own_is_taken base tables node level wanted digit wanted_below below own first =
    let test : eqb (get_or node level 0) digit ≡ true = eq-eqb (get_or node level 0) digit (sym own) in
    let passes : leads tables node level digit ≡ true = rw test refl in
    let taken = first_cyclic_is base (leads tables node level) wanted digit wanted_below below passes first in
    rw (taken, test) refl

-- else the walk hops to the least link of the first digit that leads on
pub link_is_taken : (base : ℕ) (tables : Tables) (node : List ℕ) (level wanted digit : ℕ) (to : List ℕ) → wanted < base
    → digit < base → eqb (get_or node level 0) digit ≡ false
    → least_link tables node level digit ≡ Some to → NonePassesBefore base (leads tables node level) wanted digit
    → Some to ≡ hop base tables node level wanted
link_is_taken base tables node level wanted digit to wanted_below below other link first =
    let passes : leads tables node level digit ≡ true = rw (other, link) refl in
    let taken = first_cyclic_is base (leads tables node level) wanted digit wanted_below below passes first in
    rw (taken, other, link) refl

pub does_not_lead : (tables : Tables) (node : List ℕ) (level digit : ℕ) → eqb (get_or node level 0) digit ≡ false
    → least_link tables node level digit ≡ None
    → leads tables node level digit ≡ false
does_not_lead tables node level digit other link = rw (other, link) refl

-- the rest of a walk that stays for a level
pub walk_on-stays : (base : ℕ) (tables : Tables) (node : List ℕ) (level wanted : ℕ) (more : List ℕ)
    → hop base tables node level wanted ≡ None
    → walk_on base tables node level (wanted ∷ more) ≡ walk_on base tables node (level + 1) more
walk_on-stays base tables node level wanted more is = rw is refl

-- the rest of a walk that hops
pub walk_on-hops : (base : ℕ) (tables : Tables) (node : List ℕ) (level wanted : ℕ) (more to : List ℕ)
    → hop base tables node level wanted ≡ Some to
    → walk_on base tables node level (wanted ∷ more) ≡ node ∷ walk_on base tables to (level + 1) more
walk_on-hops base tables node level wanted more to is = rw is refl
