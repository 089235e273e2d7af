-- a walk over tables without holes leads to the root
-- Cited above: walk_law_holds
use Rattle.std.proofs.Common.{◌≡◌, ◌==◌, ◌⊎◌, inl, inr, ℕ, ◌+◌, ◌<◌, ◌≤◌, suc, true, false, List, [], ◌∷◌, length, take, get_or, Option, None, Some, filter, All, arith, sym, refl, ◌∙◌, eqb}
use Rattle.std.specs.Option.{is_some}
use Rattle.std.specs.List.{last_or}
use Rattle.std.proofs.lemmas.Bool.{cases_Bool, or_cases, eqb-true, eq-eqb, eqb-false, true≢false}
use Rattle.std.proofs.lemmas.List.Elements.{All-head, All-tail}
use Rattle.tap_name.specs.declared.slot.Slot.{Slot}
use Rattle.tap_name.specs.Settings.{SettingsValue}
use Rattle.tap_name.specs.Cyclic.{first_cyclic}
use Rattle.tap_name.specs.Root.{Among, has_digit, narrowed, first_of}
use Rattle.tap_surrogate.specs.Tables.{Tables, least_link}
use Rattle.tap_surrogate.specs.HoleFree.{IsHoleFree}
use Rattle.tap_surrogate.specs.Walk.{walked_digit, hop, walk_on}
use Rattle.tap_surrogate.specs.WalkLaws.{WalkLaw}
use Rattle.tap_name.proofs.Cyclic.{first_cyclic-passes}
use Rattle.tap_surrogate.proofs.Cyclic.{first_from_agree}
use Rattle.tap_name.proofs.Names.{same_tests, has_digit-from, has_digit-to, among-filter, among-filter_from, only_left, share_more, share_fewer, same_at, share_all}
use Rattle.tap_name.proofs.Slots.{shares_what_fits, fits_what_shares}
use Rattle.tap_surrogate.proofs.Paths.{leads, walk_on-stays, walk_on-hops}

-- what has been narrowed at a level: the core nodes that share so many digits with the node where the walk stands
record AreLeft (core : List (List ℕ)) (node : List ℕ) (level : ℕ) (names : List (List ℕ)) : Type 0 where
  here : Among node core
  only : (x : List ℕ) → Among x names → Among x core × (take level node ≡ take level x)
  each : (x : List ℕ) → Among x core → take level node ≡ take level x → Among x names

filled_has_least : (links : List (List ℕ)) → (links ≡ [] → ⊥) → is_some (first_of links) ≡ true
filled_has_least [] filled = absurd (filled refl)
filled_has_least (x ∷ xs) filled = refl

least_is_link : (links : List (List ℕ)) → is_some (first_of links) ≡ true
    → (b : List ℕ) × (first_of links ≡ Some b) × Among b links
least_is_link [] h = absurd (true≢false (sym h))
least_is_link (x ∷ xs) h = (x, refl, inl refl)

-- the least link of a slot is to a core node that shares the level's digits and has the slot's after them
record Reaches (core : List (List ℕ)) (node : List ℕ) (level digit : ℕ) (to : List ℕ) : Type 0 where
  among : Among to core
  prefix : take level node ≡ take level to
  digit_is : get_or to level 0 ≡ digit

least_reaches : (p : SettingsValue) (core : List (List ℕ)) (tables : Tables) → IsHoleFree p core tables → (node : List ℕ)
    (level digit : ℕ) → Among node core
    → is_some (least_link tables node level digit) ≡ true
    → (to : List ℕ) × (least_link tables node level digit ≡ Some to) × Reaches core node level digit to
least_reaches p core tables free node level digit here full =
    let slot : Slot = record { level = level; digit = digit } in
    let w = least_is_link (tables node slot) full in
    let s = free.sound node w.0 slot here w.2 in
    let shares = shares_what_fits p node w.0 slot (free.names node here) (free.names w.0 s.1) s.0 in
    (w.0, w.1, record { among = s.1; prefix = shares.prefix; digit_is = shares.digit })

-- a digit leads on from the node exactly where some name that is left has it
same_digit : (p : SettingsValue) (core : List (List ℕ)) (tables : Tables) → IsHoleFree p core tables → (node : List ℕ)
    (level : ℕ) (names : List (List ℕ)) → level < p.digits
    → AreLeft core node level names → (digit : ℕ) → has_digit names level digit ≡ leads tables node level digit
same_digit p core tables free node level names inside left digit =
    same_tests (has_digit names level digit) (leads tables node level digit)
    (λ h.
    let w = has_digit-to names level digit h in
    let o = left.only w.0 w.1 in
    elim (cases_Bool (eqb (get_or node level 0) digit)) [
      | inl e ↦ rw e refl
      | inr e ↦
          let apart = eqb-false (get_or node level 0) digit e in
          let fits = fits_what_shares p node w.0 level (free.names node left.here) (free.names w.0 o.0) inside o.1
          (λ same. apart (same ∙ w.2)) in
          let full = filled_has_least _ (free.filled node w.0 (record { level = level; digit = get_or w.0 level 0 }) left.here o.0 fits) in
          rw e (rw w.2 at full)
    ])
    (λ h.
    elim (or_cases (eqb (get_or node level 0) digit) (is_some (least_link tables node level digit)) h) [
      | inl e ↦ has_digit-from names node level digit (left.each node left.here refl) (eqb-true (get_or node level 0) digit e)
      | inr e ↦
          let w = least_reaches p core tables free node level digit left.here e in
          has_digit-from names w.0 level digit (left.each w.0 w.2.among w.2.prefix) w.2.digit_is
    ])

-- after a level, those are left that share one more digit with the node where the walk stands next
left_more : (p : SettingsValue) (core : List (List ℕ)) (tables : Tables) → IsHoleFree p core tables → (node next : List ℕ)
    (level : ℕ) (names : List (List ℕ)) (digit : ℕ) → level < p.digits
    → AreLeft core node level names → Reaches core node level digit next
    → AreLeft core next (level + 1) (filter (λ x. get_or x level 0 == digit) names)
left_more p core tables free node next level names digit inside left reaches =
    let test = λ (x : List ℕ). get_or x level 0 == digit in
    record {
      here = reaches.among;
      only = λ x h.
          let w = among-filter test names x h in
          let o = left.only x w.0 in (
            o.0,
            share_more p level next x (free.names next reaches.among) (free.names x o.0) inside (sym reaches.prefix ∙ o.1)
                (reaches.digit_is ∙ sym (eqb-true (get_or x level 0) digit w.1)),
          );
      each = λ x h e.
          among-filter_from test names x (left.each x h (reaches.prefix ∙ share_fewer level (level + 1) next x (omega arith) e))
          (eq-eqb (get_or x level 0) digit (sym (same_at level (level + 1) next x (omega arith) e) ∙ reaches.digit_is));
    }

pub hop_other : (base : ℕ) (tables : Tables) (node : List ℕ) (level wanted : ℕ)
    → eqb (get_or node level 0) (walked_digit base tables node level wanted) ≡ false
    → hop base tables node level wanted ≡ least_link tables node level (walked_digit base tables node level wanted)
hop_other base tables node level wanted other = rw other refl

-- at a level the walk stays, by its own digit, or hops to a core node
taken_leads : (p : SettingsValue) (core : List (List ℕ)) (tables : Tables) → IsHoleFree p core tables → (node : List ℕ)
    (level wanted : ℕ) → level < p.digits → wanted < p.base → Among node core
    → let digit = walked_digit p.base tables node level wanted
    in (hop p.base tables node level wanted ≡ None) × Reaches core node level digit node
    ⊎ ((to : List ℕ) × (hop p.base tables node level wanted ≡ Some to) × Reaches core node level digit to)
taken_leads p core tables free node level wanted inside below here =
    let digit = walked_digit p.base tables node level wanted in
    let own = get_or node level 0 in
    let name = free.names node here in
    let own_below = name.below level 0 (omega (arith, name.len)) in
    let own_leads : leads tables node level own ≡ true = rw (eq-eqb own own refl) refl in
    let passes : leads tables node level digit ≡ true =
    first_cyclic-passes p.base (leads tables node level) own wanted own_below own_leads below in
    elim (cases_Bool (eqb own digit)) [
      | inl e ↦ inl (rw e refl, record { among = here; prefix = refl; digit_is = eqb-true own digit e })
      | inr e ↦
          let full : is_some (least_link tables node level digit) ≡ true = rw e at passes in
          let w = least_reaches p core tables free node level digit here full in
          inr (w.0, hop_other p.base tables node level wanted e ∙ w.1, w.2)
    ]

-- the rest of a walk, where the names are left that it can still reach
record Leads (core : List (List ℕ)) (node : List ℕ) (levels : ℕ) (end : Option (List ℕ)) (path : List (List ℕ)) : Type 0 where
  begins : first_of path ≡ Some node
  ends : (before : Option (List ℕ)) → last_or before path ≡ end
  few : length path ≤ levels + 1
  over_core : (x : List ℕ) → Among x path → Among x core

leads-stays : (core : List (List ℕ)) (node : List ℕ) (levels : ℕ) (end whole : Option (List ℕ))
    (rest path : List (List ℕ)) → path ≡ rest → whole ≡ end
    → Leads core node levels end rest → Leads core node (suc levels) whole path
leads-stays core node levels end whole rest path same same_end leads =
    rw (same, same_end) (record { begins = leads.begins; ends = leads.ends; few = omega (arith, leads.few); over_core = leads.over_core })

leads-hops : (core : List (List ℕ)) (node next : List ℕ) (levels : ℕ) (end whole : Option (List ℕ))
    (rest path : List (List ℕ)) → path ≡ node ∷ rest → whole ≡ end
    → Among node core → Leads core next levels end rest → Leads core node (suc levels) whole path
leads-hops core node next levels end whole rest path same same_end here leads =
    rw (same, same_end) (record {
      begins = refl;
      ends = λ before. leads.ends (Some node);
      few = omega (arith, leads.few);
      over_core = λ x h. elim h [ inl e ↦ rw e here | inr later ↦ leads.over_core x later ];
    })

-- the narrowing keeps those with the digit that the walk takes
narrowed-taken : (base : ℕ) (tables : Tables) (node : List ℕ) (level wanted : ℕ) (more : List ℕ) (names : List (List ℕ))
    → first_cyclic base (has_digit names level) wanted ≡ walked_digit base tables node level wanted
    → first_of (narrowed base level (wanted ∷ more) names)
    ≡ first_of (narrowed base (level + 1) more (filter (λ x. get_or x level 0 == walked_digit base tables node level wanted) names))
narrowed-taken base tables node level wanted more names agree = rw agree refl

leads_on : (p : SettingsValue) (core : List (List ℕ)) (tables : Tables) → IsHoleFree p core tables → (more : List ℕ)
    (node : List ℕ) (level : ℕ) (names : List (List ℕ))
    → level + length more ≡ p.digits → All (λ d. d < p.base) more → AreLeft core node level names
    → Leads core node (length more) (first_of (narrowed p.base level more names)) (walk_on p.base tables node level more)
leads_on p core tables free [] node level names len below left =
    let n = free.names node left.here in
    let alone = only_left names node (left.each node left.here refl)
    (λ x h.
    let o = left.only x h in
    sym (share_all p level node x n (free.names x o.0) (omega arith) o.1)) in
    record {
      begins = refl;
      ends = λ before. sym alone;
      few = omega arith;
      over_core =
          λ x h. elim h [ inl e ↦ rw e left.here | inr none ↦ absurd none ];
    }
leads_on p core tables free (wanted ∷ more) node level names len below left =
    let inside : level < p.digits = omega arith in
    let same = same_digit p core tables free node level names inside left in
    let wanted_below = All-head (λ d. d < p.base) wanted more below in
    let agree = first_from_agree p.base (has_digit names level) (leads tables node level) (λ d _. same d) p.base wanted wanted_below in
    let digit = walked_digit p.base tables node level wanted in
    elim (taken_leads p core tables free node level wanted inside wanted_below left.here) [
      | inl stays ↦
          leads-stays core node (length more) _ _ _ _ (walk_on-stays p.base tables node level wanted more stays.0)
          (narrowed-taken p.base tables node level wanted more names agree)
          (leads_on p core tables free more node (level + 1) (filter (λ x. get_or x level 0 == digit) names) (omega arith)
          (All-tail (λ d. d < p.base) wanted more below)
          (left_more p core tables free node node level names digit inside left stays.1))
      | inr hops ↦
          leads-hops core node hops.0 (length more) _ _ _ _ (walk_on-hops p.base tables node level wanted more hops.0 hops.1)
          (narrowed-taken p.base tables node level wanted more names agree) left.here
          (leads_on p core tables free more hops.0 (level + 1) (filter (λ x. get_or x level 0 == digit) names) (omega arith)
          (All-tail (λ d. d < p.base) wanted more below)
          (left_more p core tables free node hops.0 level names digit inside left hops.2))
    ]

pub walk_law_holds : WalkLaw
walk_law_holds p core tables free node object among name =
    let whole = leads_on p core tables free object node 0 core (omega (arith, name.len)) name.below
    (record { here = among; only = λ x h. (h, refl); each = λ x h e. h }) in
    record { begins = whole.begins; ends = whole.ends None; few_hops = omega (arith, whole.few, name.len); over_core = whole.over_core }
