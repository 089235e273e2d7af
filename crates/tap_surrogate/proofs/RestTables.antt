-- tables at rest over members have settled links to the least members that fit, and no hole
use Rattle.std.proofs.Common.{◌≡◌, inl, inr, ℕ, ◌*◌, ◌<◌, ◌≤◌, nat_lt, Bool, true, false, Option, None, Some, IsSomeAnd, List, [], ◌∷◌, length, take, map, filter, arith, sym, refl, ap, subst, ◌∙◌}
use Rattle.std.specs.List.{range_with_len}
use Rattle.std.specs.List.Sorted.{IsPermutation}
use Rattle.std.proofs.Math.Nat.{mul-le-mul_left}
use Rattle.std.proofs.Math.Seq.{take-nil}
use Rattle.std.proofs.lemmas.Bool.{cases_Bool, cases_lt, lt-ltb}
use Rattle.std.proofs.lemmas.Bool.Decides.{nat_tests}
use Rattle.std.proofs.lemmas.List.{get_or_past}
use Rattle.std.proofs.lemmas.List.FromFn.{get_or-map-range_with_len, length-map-range_with_len}
use Rattle.std.proofs.lemmas.List.Sorted.{All-permutation, IsPermutation-sym}
use Rattle.tap_name.specs.declared.slot.Slot.{Slot}
use Rattle.tap_name.specs.Name.{IsName}
use Rattle.tap_name.specs.Settings.{SettingsValue}
use Rattle.tap_name.specs.Slot.{slot_at}
use Rattle.tap_name.specs.Root.{Among, AreNames}
use Rattle.tap_name.proofs.Names.{among-All, All-among, among-filter, among-take}
use Rattle.tap_name.proofs.Slots.{shares_what_fits}
use Rattle.tap_table.specs.Members.{AreLeastFitting, IsTableAtRest, first_fitting, fitting, is_slot, settled_links, table_at_rest}
use Rattle.tap_table.specs.Table.{SlotLinks, TableValue, slot_number, slot_numbered}
use Rattle.tap_table.proofs.Least.{first_fitting_law_holds, is_slot-to}
use Rattle.tap_table.proofs.Slots.{number_back, number_inside}
use Rattle.tap_surrogate.specs.Nodes.{Nodes, core_links, links_in}
use Rattle.tap_surrogate.specs.Members.{AreMembersAtRest}
use Rattle.tap_surrogate.specs.WalkLaws.{LeastLaw, RestLaw}
use Rattle.tap_surrogate.proofs.AtRest.{least_leave_no_hole}

-- ---- one slot of one table

targets_of_settled : (targets : List (List ℕ)) → map (λ e. e.target) (settled_links targets) ≡ targets
targets_of_settled [] = refl
targets_of_settled (x ∷ xs) = ap (λ l. x ∷ l) (targets_of_settled xs)

all_pass : (passes : List ℕ → Bool) (names : List (List ℕ)) → ((x : List ℕ) → Among x names → passes x ≡ true)
    → filter passes names ≡ names
all_pass passes [] each = refl
all_pass passes (x ∷ xs) each =
    let here = each x (inl refl) in rw here (ap (λ l. x ∷ l) (all_pass passes xs (λ y among. each y (inr among))))

-- no name fits a slot that the settings haven't
none_fit : (p : SettingsValue) (owner : List ℕ) (slot : Slot) (names : List (List ℕ)) → IsName p owner → AreNames p names
    → ((slot.level < p.digits) × (slot.digit < p.base) → ⊥)
    → fitting owner slot names ≡ []
none_fit p owner slot [] is_owner are outside = refl
none_fit p owner slot (x ∷ xs) is_owner are outside =
    let more = none_fit p owner slot xs is_owner (λ y among. are y (inr among)) outside in
    elim (cases_Bool (is_slot slot (slot_at owner x))) [
      | inl fits ↦
          let is_x = are x (inl refl) in
          let shares = shares_what_fits p owner x slot is_owner is_x (is_slot-to slot (slot_at owner x) fits) in
          let within : slot.level < length x = omega (arith, shares.inside, is_x.len) in
          let digit : slot.digit < p.base = subst (λ d. d < p.base) shares.digit (is_x.below slot.level 0 within) in
          absurd (outside (shares.inside, digit))
      | inr other ↦ rw other more
    ]

none_first : (p : SettingsValue) (owner : List ℕ) (slot : Slot) (names : List (List ℕ)) → fitting owner slot names ≡ []
    → settled_links (first_fitting p owner slot names) ≡ []
none_first p owner slot names none = ap (λ l. settled_links (take p.width l)) none ∙ ap settled_links (take-nil {A = List ℕ} p.width)

-- a slot of a table at rest has settled links to the first names that fit it
links_at_rest : (p : SettingsValue) (owner : List ℕ) (slot : Slot) (names : List (List ℕ)) → IsName p owner → AreNames p names
    → links_in (Some (table_at_rest p owner names)) slot ≡ settled_links (first_fitting p owner slot names)
links_at_rest p owner slot names is_owner are =
    let of : ℕ → SlotLinks = λ number. settled_links (first_fitting p owner (slot_numbered p.base number) names) in
    let number = slot_number p.base slot in
    let count = p.base * p.digits in
    let none_there : ((slot.level < p.digits) × (slot.digit < p.base) → ⊥) → [] ≡ settled_links (first_fitting p owner slot names) =
    λ outside. sym (none_first p owner slot names (none_fit p owner slot names is_owner are outside)) in
    elim (cases_lt slot.digit p.base) [
      | inr past ↦
          let test : nat_lt slot.digit p.base ≡ false = grind (arith, nat_tests) in
          rw test (none_there (λ inside. omega (arith, inside.1, past)))
      | inl below ↦
          elim (cases_lt slot.level p.digits) [
            | inl inside ↦
                let number_below = number_inside p slot inside below in
                let found = get_or-map-range_with_len of 0 count number number [] number_below (omega arith) in
                let same = ap (λ s. settled_links (first_fitting p owner s names)) (number_back p.base slot below) in
                rw (lt-ltb slot.digit p.base below) (found ∙ same)
            | inr past ↦
                let many : count ≤ number = omega (arith, mul-le-mul_left p.base past) in
                let len = length-map-range_with_len of 0 count in
                let none = get_or_past (map of (range_with_len 0 count)) number [] (omega (arith, len, many)) in
                rw (lt-ltb slot.digit p.base below) (none ∙ none_there (λ inside. omega (arith, inside.0, past)))
          ]
    ]

-- ---- all members

pub some_table : (o : Option TableValue) (P : TableValue → Type 0) → IsSomeAnd o P → (table : TableValue) × (o ≡ Some table) × P table
some_table None P h = absurd h
some_table (Some table) P h = (table, refl, h)

-- a permutation has the same names
pub moved : (xs ys : List (List ℕ)) → IsPermutation xs ys → (x : List ℕ) → Among x ys → Among x xs
moved xs ys same =
    let P : List ℕ → Type 0 = λ x. Among x xs in
    among-All P ys (All-permutation P xs ys same (All-among P xs (λ x among. among)))

-- what a slot of a member's table has
record SlotAtRest (p : SettingsValue) (owner : List ℕ) (members : List (List ℕ)) (nodes : Nodes) (slot : Slot) : Type 0 where
  names : List (List ℕ)
  same : IsPermutation members names
  links : links_in (nodes.table_of owner) slot ≡ settled_links (first_fitting p owner slot names)
  core : core_links nodes owner slot ≡ first_fitting p owner slot names
  least : AreLeastFitting p.width owner slot names (first_fitting p owner slot names)

slot_at_rest : (p : SettingsValue) (members : List (List ℕ)) (nodes : Nodes) → AreNames p members → AreMembersAtRest p members nodes
    → (owner : List ℕ) (slot : Slot) → Among owner members → SlotAtRest p owner members nodes slot
slot_at_rest p members nodes valid rest owner slot among =
    let w = some_table (nodes.table_of owner) (IsTableAtRest p owner members) (rest.tables owner among) in
    let names = w.2.names in
    let first = first_fitting p owner slot names in
    let member : (x : List ℕ) → Among x names → Among x members = moved members names w.2.same in
    let has : nodes.table_of owner ≡ Some (table_at_rest p owner names) = w.1 ∙ ap Some w.2.is in
    let links = ap (λ o. links_in o slot) has ∙ links_at_rest p owner slot names (valid owner among) (λ x h. valid x (member x h)) in
    let fit = λ (name : List ℕ). is_slot slot (slot_at owner name) in
    let pass : (x : List ℕ) → Among x first → nodes.core x ≡ true = λ x h.
    (rest.core x).1 (member x (among-filter fit names x (among-take p.width (filter fit names) x h)).0) in
    let targets = λ (l : SlotLinks). map (λ e. e.target) l in
    record {
      names = names;
      same = w.2.same;
      links = links;
      core = ap (filter nodes.core) (ap targets links ∙ targets_of_settled first) ∙ all_pass nodes.core first pass;
      least = first_fitting_law_holds p.width owner slot names w.2.ascending;
    }

least_of_members : (width : ℕ) (owner : List ℕ) (slot : Slot) (members names links : List (List ℕ)) → IsPermutation members names
    → AreLeastFitting width owner slot names links → AreLeastFitting width owner slot members links
least_of_members width owner slot members names links same are =
    record {
      ascending = are.ascending;
      few = are.few;
      fitting = λ link h. let w = are.fitting link h in (moved members names same link w.0, w.1);
      least = λ member among fits. are.least member (moved names members (IsPermutation-sym members names same) member among) fits;
    }

pub least_law_holds : LeastLaw
least_law_holds p members nodes limits valid rest =
    record {
      least = λ owner slot among.
          let w = slot_at_rest p members nodes valid rest owner slot among in
          let P : List (List ℕ) → Type 0 = AreLeastFitting p.width owner slot members in
          subst P (sym w.core) (least_of_members p.width owner slot members w.names _ w.same w.least);
      settled = λ owner slot among.
          let w = slot_at_rest p members nodes valid rest owner slot among in w.links ∙ ap settled_links (sym w.core);
    }

pub rest_law_holds : RestLaw
rest_law_holds p members nodes limits valid rest =
    least_leave_no_hole p members (core_links nodes) limits valid (least_law_holds p members nodes limits valid rest).least
