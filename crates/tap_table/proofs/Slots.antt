-- The slots of a table, and what a change of one of them keeps.
-- Cited above: empty_is, empty_sets-are, number_back, number_inside, place_inside
use Rattle.std.proofs.Common.{◌≡◌, ◌≢◌, ℕ, ◌*◌, ◌<◌, zero, suc, List, [], ◌∷◌, replicate, length, get_or, map, nat_eq, arith, ap, sym, refl, ◌∙◌, inl, inr}
use Rattle.std.specs.List.{FoldsTo, common_prefix_len}
use Rattle.std.proofs.Math.Nat.{mul-le-mul_left}
use Rattle.std.proofs.lemmas.Bool.{cases_lt}
use Rattle.std.proofs.lemmas.Nat.{div-mul-add, mod-mul-add}
use Rattle.std.proofs.lemmas.List.{get_or-map, get_or_past, get_or-replicate, length-replicate}
use Rattle.std.proofs.lemmas.List.Elements.{All-nil, All-replicate}
use Rattle.std.proofs.lemmas.List.Sums.{common_prefix_len-le}
use Rattle.tap_name.specs.declared.slot.Slot.{Slot}
use Rattle.tap_name.specs.Name.{IsName}
use Rattle.tap_name.specs.Settings.{AreWithinLimits, SettingsValue}
use Rattle.tap_name.proofs.Prefix.{whole_prefix}
use Rattle.tap_name.proofs.Slots.{same_slot}
use Rattle.tap_link.specs.LinkSet.{LinkSetValue}
use Rattle.tap_table.specs.Table.{AreSets, SlotLinks, TableValue, StandsIn, empty_table, place_of, slot_number, slot_numbered, table_of}

-- a slot of the table has its number below the number of slots
pub number_inside : (p : SettingsValue) (slot : Slot) → slot.level < p.digits → slot.digit < p.base
    → slot_number p.base slot < p.base * p.digits
number_inside p slot level digit = omega (arith, mul-le-mul_left p.base level)

-- the slot of a number, from the number of the slot
pub number_back : (base : ℕ) (slot : Slot) → slot.digit < base → slot_numbered base (slot_number base slot) ≡ slot
number_back base slot below =
    let number = slot_number base slot in
    let level = div-mul-add slot.level base slot.digit below in
    let digit = mod-mul-add slot.level base slot.digit below in
    same_slot (slot_numbered base number) slot level digit

-- the slot of another name is one of the table
pub place_inside : (p : SettingsValue) (owner name : List ℕ) → IsName p owner → IsName p name → name ≢ owner
    → (common_prefix_len nat_eq owner name < p.digits) × (get_or name (common_prefix_len nat_eq owner name) 0 < p.base)
place_inside p owner name is_owner is_name other =
    let level = common_prefix_len nat_eq owner name in
    let within = common_prefix_len-le nat_eq owner name in
    let apart : level ≡ length owner → ⊥ = λ all. other (sym (whole_prefix owner name (is_owner.len ∙ sym is_name.len) all)) in
    let inside : level < p.digits = omega (arith, within.0, apart, is_owner.len) in
    (inside, is_name.below level 0 (omega (arith, is_name.len)))

pub target_inside : (p : SettingsValue) (owner name : List ℕ) → IsName p owner → IsName p name → name ≢ owner
    → slot_number p.base (place_of owner name) < p.base * p.digits
target_inside p owner name is_owner is_name other =
    let inside = place_inside p owner name is_owner is_name other in number_inside p (place_of owner name) inside.0 inside.1

-- the links of a slot are those of its set
pub links_of_set : (sets : List (LinkSetValue (List ℕ))) (number : ℕ) (d : LinkSetValue (List ℕ)) → number < length sets
    → get_or (map (λ s. s.links) sets) number [] ≡ (get_or sets number d).links
links_of_set sets number d within = get_or-map (λ s. s.links) sets number d [] within

-- the sets without links, as a table begins
abbrev pub empty_sets : ℕ → ℕ → List (LinkSetValue (List ℕ))
empty_sets width n = replicate n (record { width = width; links = [] })

empty_slots : (width n : ℕ) → map (λ s. s.links) (empty_sets width n) ≡ replicate n []
empty_slots width zero = refl
empty_slots width (suc n) = ap (λ l. [] ∷ l) (empty_slots width n)

pub empty_is : (p : SettingsValue) (owner : List ℕ) → table_of owner p (empty_sets p.width (p.base * p.digits)) ≡ empty_table p owner
empty_is p owner =
    let with : List SlotLinks → TableValue = λ slots. record { owner = owner; settings = p; slots = slots } in
    ap with (empty_slots p.width (p.base * p.digits))

no_links : (n k : ℕ) → get_or {A = SlotLinks} (replicate n []) k [] ≡ []
no_links n k =
    elim (cases_lt k n) [
      | inl inside ↦ get_or-replicate n k [] [] inside
      | inr past ↦ get_or_past (replicate n []) k [] (omega (arith, length-replicate {A = SlotLinks} n []))
    ]

pub empty_sets-are : (p : SettingsValue) (owner : List ℕ) → AreWithinLimits p → IsName p owner
    → AreSets owner p (empty_sets p.width (p.base * p.digits))
empty_sets-are p owner limits is_name =
    let count = p.base * p.digits in
    let slots = empty_slots p.width count in
    record {
      valid = record {
        limits = limits;
        owner = is_name;
        count = ap length slots ∙ length-replicate count [];
        standing = λ number. rw (slots, no_links count number) (All-nil (λ e. StandsIn p owner number e.target));
        sets = λ number. rw (slots, no_links count number) (record {
          ascending = λ i j d before within. absurd (omega arith);
          within_width = omega arith;
        });
      };
      widths = All-replicate (λ s. s.width ≡ p.width) count (record { width = p.width; links = [] }) refl;
    }

-- what calls made one after another are all the same, if each call makes the same of the same
pub made_alike : {F X : Type 0} (step : F → X → F → Type 0) (Is : F → Type 0) (x : X)
    → ((f : F) (y : X) (next : F) → Is f → step f y next → (y ≡ x) × Is next)
    → (ys : List X) (f last : F) → Is f → FoldsTo step f ys last → ys ≡ replicate (length ys) x
made_alike step Is x each [] f last is folds = refl
made_alike step Is x each (y ∷ ys) f last is folds =
    let made = each f y folds.0 is folds.1 in
    let rest = made_alike step Is x each ys folds.0 last made.1 folds.2 in
    λ i. made.0 i ∷ rest i
