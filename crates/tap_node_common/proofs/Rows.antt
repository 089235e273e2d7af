-- The targets by name are as many as the links of a table, and a table without links has none.
-- Cited above: rows_by_name
use Rattle.std.proofs.Common.{◌≡◌, ◌≢◌, ℕ, ◌+◌, ◌<◌, zero, suc, List, [], ◌∷◌, ◌++◌, length, get_or, map, replicate, ◌*◌, All, arith, refl, ap, subst, ◌∙◌}
use Rattle.std.specs.List.{enumerate_from, flat_map}
use Rattle.std.proofs.lemmas.Option.{slice_get-get_or}
use Rattle.std.proofs.lemmas.List.{get_or-map, length-map, map-append}
use Rattle.std.proofs.lemmas.List.Elements.{All-append, All-head, All-map, All-nil, All-tail}
use Rattle.std.proofs.lemmas.List.Kept.{AllPairs-cons}
use Rattle.tap_name.specs.declared.slot.Slot.{Slot}
use Rattle.tap_name.specs.Names.{Among, AreDistinct}
use Rattle.tap_name.specs.Order.{AreAscending}
use Rattle.tap_name.specs.Settings.{SettingsValue}
use Rattle.tap_name.proofs.Membership.{Contains-from_among, few_among}
use Rattle.tap_name.proofs.Sorted.{distinct-from_ascending}
use Rattle.tap_link.specs.Entry.{LinkEntry}
use Rattle.tap_link.specs.LinkSet.{LinksAscend}
use Rattle.tap_table.specs.ByName.{slots_by_name, targets_by_name, targets_of}
use Rattle.tap_table.proofs.Found.{kind_of_target}
use Rattle.tap_table.proofs.Targets.{few_by_name, linked_is_target}
use Rattle.tap_table.specs.Table.{IsTable, Row, SlotLinks, TableValue, empty_table, links_at, name_cmp, place_of, rows, rows_of, slot_number}

-- the targets of these slots, one after another
abbrev targets_from : List SlotLinks → List (List ℕ)
targets_from [] = []
targets_from (links ∷ slots) = map (λ e. e.target) links ++ targets_from slots

-- the links of each slot ascend
abbrev Ascend : List SlotLinks → Type 0
Ascend [] = Unit {0}
Ascend (links ∷ slots) = LinksAscend name_cmp links × Ascend slots

targets_ascend : (links : SlotLinks) → LinksAscend name_cmp links → AreAscending (map (λ e. e.target) links)
targets_ascend [] ascend i j d before within = absurd (omega arith)
targets_ascend (first ∷ links) ascend i j d before within =
    let all : SlotLinks = first ∷ links in
    let len = length-map all (λ (e : LinkEntry (List ℕ)). e.target) in
    let e : LinkEntry (List ℕ) = record first { target = d } in
    let at_i = get_or-map (λ (f : LinkEntry (List ℕ)). f.target) all i e d (omega arith) in
    let at_j = get_or-map (λ (f : LinkEntry (List ℕ)). f.target) all j e d (omega arith) in
    rw (at_i, at_j) (ascend i j e before (omega arith))

module _ (p : SettingsValue) (owner : List ℕ) where
  abbrev number_of : List ℕ → ℕ
  number_of x = slot_number p.base (place_of owner x)

  -- each target stands in the slot of its number
  abbrev Stand : ℕ → List SlotLinks → Type 0
  Stand n [] = Unit {0}
  Stand n (links ∷ slots) = (All (λ e. number_of e.target ≡ n) links) × Stand (n + 1) slots

  later : (slots : List SlotLinks) (n m : ℕ) → m < n → Stand n slots → All (λ x. m < number_of x) (targets_from slots)
  later [] n m less stand = All-nil (λ x. m < number_of x)
  later (links ∷ slots) n m less stand =
      All-append (λ x. m < number_of x) (map (λ e. e.target) links) (targets_from slots)
      (All-map (λ x. m < number_of x) (λ (e : LinkEntry (List ℕ)). e.target) links
      (λ k d within. let is = stand.0 k d within in rw is less))
      (later slots (n + 1) m (omega arith) stand.1)

  distinct_links : (links : SlotLinks) (others : List (List ℕ)) (n : ℕ) → LinksAscend name_cmp links
      → All (λ e. number_of e.target ≡ n) links → All (λ x. n < number_of x) others → AreDistinct others
      → AreDistinct (map (λ e. e.target) links ++ others)
  distinct_links [] others n ascend at above distinct = distinct
  distinct_links (e ∷ links) others n ascend at above distinct =
      let front : List (List ℕ) = map (λ f. f.target) links in
      let ascending = targets_ascend (e ∷ links) ascend in
      let apart = distinct-from_ascending (e.target ∷ front) ascending in
      let here : number_of e.target ≡ n = All-head (λ f. number_of f.target ≡ n) e links at in
      AllPairs-cons (λ x y. x ≢ y) e.target (front ++ others)
      (All-append (λ y. e.target ≢ y) front others
      (λ k d within. apart 0 (suc k) d (omega arith) (omega arith))
      (λ k d within same.
      let above_n : n < number_of (get_or others k d) = above k d within in
      let same_number : number_of e.target ≡ number_of (get_or others k d) = ap number_of same in
      absurd (omega arith)))
      (distinct_links links others n (λ i j d before within. ascend (suc i) (suc j) d (omega arith) (omega arith))
      (All-tail (λ f. number_of f.target ≡ n) e links at) above distinct)

  distinct_slots : (slots : List SlotLinks) (n : ℕ) → Ascend slots → Stand n slots → AreDistinct (targets_from slots)
  distinct_slots [] n ascend stand = λ i j d before within. absurd (omega arith)
  distinct_slots (links ∷ slots) n ascend stand =
      distinct_links links (targets_from slots) n ascend.0 stand.0 (later slots (n + 1) n (omega arith) stand.1)
      (distinct_slots slots (n + 1) ascend.1 stand.1)

  stand_from : (slots : List SlotLinks) (n : ℕ)
      → ((number : ℕ) → All (λ e. number_of e.target ≡ n + number) (get_or slots number [])) → Stand n slots
  stand_from [] n at = tt
  stand_from (links ∷ slots) n at = (
    λ k d within. let is = at 0 k d within in omega (arith, is),
    stand_from slots (n + 1) (λ number k d within. let is = at (suc number) k d within in omega (arith, is)),
  )

ascend_from : (slots : List SlotLinks) → ((number : ℕ) → LinksAscend name_cmp (get_or slots number [])) → Ascend slots
ascend_from [] each = tt
ascend_from (links ∷ slots) each = (each 0, ascend_from slots (λ number. each (suc number)))

-- the targets of the rows
row_targets : (base n : ℕ) (links : SlotLinks) → map (λ r. r.entry.target) (rows_of base (n, links)) ≡ map (λ e. e.target) links
row_targets base n [] = refl
row_targets base n (e ∷ links) = ap (λ l. e.target ∷ l) (row_targets base n links)

rows_targets : (base n : ℕ) (slots : List SlotLinks)
    → map (λ r. r.entry.target) (flat_map (rows_of base) (enumerate_from n slots)) ≡ targets_from slots
rows_targets base n [] = refl
rows_targets base n (links ∷ slots) =
    map-append (λ (r : Row). r.entry.target) (rows_of base (n, links)) (flat_map (rows_of base) (enumerate_from (n + 1) slots))
    ∙ ap (λ front. front ++ map (λ r. r.entry.target) (flat_map (rows_of base) (enumerate_from (n + 1) slots))) (row_targets base n links)
    ∙ ap (λ rest. map (λ e. e.target) links ++ rest) (rows_targets base (n + 1) slots)

-- what holds of the target of each link holds of all targets
all_from : (P : List ℕ → Type 0) (slots : List SlotLinks) → ((number : ℕ) → All (λ e. P e.target) (get_or slots number []))
    → All P (targets_from slots)
all_from P [] each = All-nil P
all_from P (links ∷ slots) each =
    All-append P (map (λ e. e.target) links) (targets_from slots)
    (All-map P (λ (e : LinkEntry (List ℕ)). e.target) links (each 0)) (all_from P slots (λ number. each (suc number)))

module _ (t : TableValue) (valid : IsTable t) where
  rows_distinct : AreDistinct (targets_from t.slots)
  rows_distinct =
      distinct_slots t.settings t.owner t.slots 0 (ascend_from t.slots (λ number. (valid.sets number).ascending))
      (stand_from t.settings t.owner t.slots 0 (λ number k d within.
      let stands = valid.standing number k d within in
      let place : number_of t.settings t.owner (get_or (get_or t.slots number []) k d).target ≡ number = stands.place in
      omega (arith, place)))

  -- the links are as many as the targets by name
  pub rows_by_name : length (rows t) ≡ length (targets_by_name t)
  rows_by_name =
      let linked : All (λ x. Among x (targets_by_name t)) (targets_from t.slots) =
      all_from (λ x. Among x (targets_by_name t)) t.slots (λ number k d within.
      let links = get_or t.slots number [] in
      let e = get_or links k d in
      let got = slice_get-get_or links k d within in
      linked_is_target t valid e.target e.kind (kind_of_target t valid number e k got)) in
      let few = few_among (targets_from t.slots) (targets_by_name t) rows_distinct (λ x among.
      let place = Contains-from_among (targets_from t.slots) x among in
      subst (λ y. Among y (targets_by_name t)) place.2 (linked place.0 x place.1)) in
      let many = few_by_name t valid in
      let len = length-map (rows t) (λ r. r.entry.target) in
      let same = ap length (rows_targets t.settings.base 0 t.slots) in
      omega (arith, few, many, len, same)

-- a table without links has neither rows nor targets
no_rows : (base n k : ℕ) → flat_map (rows_of base) (enumerate_from n (replicate k [])) ≡ []
no_rows base n zero = refl
no_rows base n (suc k) = no_rows base (n + 1) k

-- no slot of it has a link
no_links : (n number : ℕ) → get_or {A = SlotLinks} (replicate n []) number [] ≡ []
no_links zero number = refl
no_links (suc n) zero = refl
no_links (suc n) (suc number) = no_links n number

module _ (p : SettingsValue) (name : List ℕ) where
  none_linked : (slots : List Slot) → flat_map (links_at (empty_table p name)) slots ≡ []
  none_linked [] = refl
  none_linked (slot ∷ slots) =
      ap (λ front. front ++ flat_map (links_at (empty_table p name)) slots)
      (no_links (p.base * p.digits) (slot_number p.base slot)) ∙ none_linked slots

  pub length-empty_rows : length (rows (empty_table p name)) ≡ 0
  length-empty_rows = ap length (no_rows p.base 0 (p.base * p.digits))

  pub targets_by_name-empty : targets_by_name (empty_table p name) ≡ []
  targets_by_name-empty = ap targets_of (none_linked (slots_by_name p name))
