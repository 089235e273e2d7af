-- All links of a table, slot by slot.
use Rattle.std.proofs.Common.{◌≡◌, ℕ, ◌+◌, ◌<◌, ◌≤◌, zero, suc, None, Some, List, [], ◌∷◌, ◌++◌, length, get_or, slice_get, map, drop, arith, ap, sym, refl, ◌∙◌, length-append}
use Rattle.std.specs.List.{enumerate_from, flat_map, sum_by}
use Rattle.std.specs.Option.{option_map}
use Rattle.std.proofs.lemmas.List.{drop_all, drop_more, length-map}
use Rattle.std.proofs.lemmas.List.Sums.{sum_by-cons}
use Rattle.std.proofs.lemmas.Option.{slice_get-map, slice_get_past, slice_get_within}
use Rattle.tap_name.specs.Settings.{SettingsValue}
use Rattle.tap_link.specs.declared.kind.Kind.{Kind}
use Rattle.tap_link.specs.Entry.{LinkEntry}
use Rattle.tap_link.specs.LinkSet.{LinkSetValue}
use Rattle.tap_table.specs.Place.{IsPlace}
use Rattle.tap_table.specs.Row.{rows_left, rows_numbered}
use Rattle.tap_table.specs.Sets.{all_links}
use Rattle.tap_table.specs.Table.{Row, SlotLinks, TableValue, rows, rows_of, slot_numbered, table_of}
use Rattle.tap_table.proofs.Slots.{links_of_set}
use Rattle.tap_table.proofs.OneAdded.{drop_got}

module _ {X : Type 0} where
  pub slice_get_front : (xs ys : List X) (k : ℕ) → k < length xs → slice_get (xs ++ ys) k ≡ slice_get xs k
  slice_get_front [] ys k within = absurd (omega arith)
  slice_get_front (x ∷ xs) ys zero within = refl
  slice_get_front (x ∷ xs) ys (suc k) within = slice_get_front xs ys k (omega arith)

  pub slice_get_after : (xs ys : List X) (k less : ℕ) → less + length xs ≡ k → slice_get (xs ++ ys) k ≡ slice_get ys less
  slice_get_after [] ys k less is = ap (slice_get ys) (omega arith)
  slice_get_after (x ∷ xs) ys zero less is = absurd (omega arith)
  slice_get_after (x ∷ xs) ys (suc k) less is = slice_get_after xs ys k less (omega arith)

  pub got : (xs : List X) (k : ℕ) → k < length xs → (x : X) × (slice_get xs k ≡ Some x)
  got [] k within = absurd (omega arith)
  got (x ∷ xs) zero within = (x, refl)
  got (x ∷ xs) (suc k) within = got xs k (omega arith)

-- as many rows as links
pub length-rows : (base n : ℕ) (slots : List SlotLinks)
    → length (flat_map (rows_of base) (enumerate_from n slots)) ≡ sum_by (λ links. length links) slots
length-rows base n [] = refl
length-rows base n (links ∷ slots) =
    let more = flat_map (rows_of base) (enumerate_from (n + 1) slots) in
    let both = length-append (rows_of base (n, links)) more in
    let here : length (rows_of base (n, links)) ≡ length links = length-map links _ in
    let rest = length-rows base (n + 1) slots in
    let sum = sum_by-cons (λ (l : SlotLinks). length l) links slots in
    omega (arith, both, here, rest, sum)

-- as many as all sets have
pub length-rows_of_sets : (base n : ℕ) (sets : List (LinkSetValue (List ℕ)))
    → length (flat_map (rows_of base) (enumerate_from n (map (λ s. s.links) sets))) ≡ all_links sets
length-rows_of_sets base n [] = refl
length-rows_of_sets base n (s ∷ sets) =
    let more = flat_map (rows_of base) (enumerate_from (n + 1) (map (λ s. s.links) sets)) in
    let both = length-append (rows_of base (n, s.links)) more in
    let here : length (rows_of base (n, s.links)) ≡ length s.links = length-map s.links _ in
    let rest = length-rows_of_sets base (n + 1) sets in
    let sum = sum_by-cons (λ (s : LinkSetValue (List ℕ)). length s.links) s sets in
    omega (arith, both, here, rest, sum)

-- the rows from a slot on begin with those of the slot
rows_more : (base n : ℕ) (slots : List SlotLinks) → n < length slots
    → flat_map (rows_of base) (enumerate_from n (drop n slots))
    ≡ rows_of base (n, get_or slots n []) ++ flat_map (rows_of base) (enumerate_from (n + 1) (drop (n + 1) slots))
rows_more base n slots within = ap (λ l. flat_map (rows_of base) (enumerate_from n l)) (drop_more slots n [] within)

-- the link at a place among the rows from a slot on is this one of the whole table
abbrev pub IsRest : TableValue → ℕ → ℕ → ℕ → Type 0
IsRest t i n link = slice_get (flat_map (rows_of t.settings.base) (enumerate_from n (drop n t.slots))) link ≡ slice_get (rows t) i

length-rows_of : (base n : ℕ) (links : SlotLinks) → length (rows_of base (n, links)) ≡ length links
length-rows_of base n links = length-map links _

pub place_found : (t : TableValue) (i n link : ℕ) → n < length t.slots → link < length (get_or t.slots n []) → IsRest t i n link
    → IsPlace t i (record { number = n; link = link })
place_found t i n link within inside rest =
    let links = get_or t.slots n [] in
    let front = slice_get_front (rows_of t.settings.base (n, links))
    (flat_map (rows_of t.settings.base) (enumerate_from (n + 1) (drop (n + 1) t.slots))) link
    (omega (arith, inside, length-rows_of t.settings.base n links)) in
    record {
      slot = within;
      link = inside;
      same = sym rest ∙ ap (λ l. slice_get l link) (rows_more t.settings.base n t.slots within)
          ∙ front;
    }

pub place_later : (t : TableValue) (i n link less : ℕ) → n < length t.slots → less + length (get_or t.slots n []) ≡ link → IsRest t i n link
    → IsRest t i (n + 1) less
place_later t i n link less within is rest =
    let links = get_or t.slots n [] in
    let after = slice_get_after (rows_of t.settings.base (n, links))
    (flat_map (rows_of t.settings.base) (enumerate_from (n + 1) (drop (n + 1) t.slots))) link less
    (omega (arith, is, length-rows_of t.settings.base n links)) in
    sym after ∙ sym (ap (λ l. slice_get l link) (rows_more t.settings.base n t.slots within)) ∙ rest

pub place_within : (t : TableValue) (i n link : ℕ) → i < length (rows t) → IsRest t i n link → length t.slots ≤ n → ⊥
place_within t i n link within rest past =
    let row = got (rows t) i within in
    let none : drop n t.slots ≡ [] = drop_all n t.slots past in
    let nothing : slice_get (flat_map (rows_of t.settings.base) (enumerate_from n (drop n t.slots))) link
    ≡ None = rw none (slice_get_past [] link (omega arith)) in
    let wrong : None ≡ Some row.0 = sym nothing ∙ rest ∙ row.1 in
    cc

-- the slots of a table, from the sets that a loop goes over
pub slots_are : (t : TableValue) (owner : List ℕ) (p : SettingsValue) (items sets : List (LinkSetValue (List ℕ)))
    → table_of owner p items ≡ t → sets ≡ items
    → t.slots ≡ map (λ s. s.links) sets
slots_are t owner p items sets view same = sym (ap (λ u. u.slots) view) ∙ ap (map (λ s. s.links)) (sym same)

pub slots_len : (t : TableValue) (sets : List (LinkSetValue (List ℕ))) → t.slots ≡ map (λ s. s.links) sets → length t.slots ≡ length sets
slots_len t sets are = ap length are ∙ length-map sets (λ (s : LinkSetValue (List ℕ)). s.links)

pub slot_is : (t : TableValue) (sets : List (LinkSetValue (List ℕ))) (n : ℕ) (e : LinkSetValue (List ℕ)) → t.slots ≡ map (λ s. s.links) sets
    → n < length sets
    → e ≡ get_or sets n e → get_or t.slots n [] ≡ e.links
slot_is t sets n e are within is = ap (λ l. get_or l n []) are ∙ links_of_set sets n e within ∙ sym (ap (λ s. s.links) is)

-- the row of the link that stands at a place of a slot
pub row_of_link : (base number : ℕ) (slot_links links : SlotLinks) (link : ℕ) (target : List ℕ) (kind : Kind)
    → slot_links ≡ links → link < length slot_links
    → slice_get (map (λ e. e.target) links) link ≡ Some target → slice_get (map (λ e. e.kind) links) link ≡ Some kind
    → slice_get (rows_of base (number, slot_links)) link
    ≡ Some (record { slot = slot_numbered base number; entry = record { target = target; kind = kind } })
row_of_link base number slot_links links link target kind same within target_is kind_is =
    let e = got links link (rw same at within) in
    let here : slice_get slot_links link ≡ Some e.0 = ap (λ l. slice_get l link) same ∙ e.1 in
    let target_read = slice_get-map (λ e. e.target) links link ∙ ap (option_map (λ e. e.target)) e.1 in
    let kind_read = slice_get-map (λ e. e.kind) links link ∙ ap (option_map (λ e. e.kind)) e.1 in
    let same_target : Some e.0.target ≡ Some target = sym target_read ∙ target_is in
    let same_kind : Some e.0.kind ≡ Some kind = sym kind_read ∙ kind_is in
    let t_is : e.0.target ≡ target = cc in
    let k_is : e.0.kind ≡ kind = cc in
    let of_entry : LinkEntry (List ℕ) → Row = λ f. record { slot = slot_numbered base number; entry = f } in
    let with_target : List ℕ → LinkEntry (List ℕ) = λ n. record { target = n; kind = e.0.kind } in
    let with_kind : Kind → LinkEntry (List ℕ) = λ k. record { target = target; kind = k } in
    slice_get-map of_entry slot_links link ∙ ap (option_map of_entry) here
    ∙ ap (λ f. Some (of_entry f)) (ap with_target t_is ∙ ap with_kind k_is)

-- a row more of the slot from whose number on rows are left
pub left_first : (t : TableValue) (number link : ℕ) (row : Row) → number < length t.slots
    → slice_get (rows_numbered t number) link ≡ Some row → rows_left t number link ≡ row ∷ rows_left t number (link + 1)
left_first t number link row within is =
    let here = rows_numbered t number in
    let more = flat_map (rows_of t.settings.base) (enumerate_from (number + 1) (drop (number + 1) t.slots)) in
    let all = flat_map (rows_of t.settings.base) (enumerate_from number (drop number t.slots)) in
    let parts : all ≡ here ++ more = rows_more t.settings.base number t.slots within in
    drop_got all link row
    (ap (λ l. slice_get l link) parts ∙ slice_get_front here more link (slice_get_within here link row is) ∙ is)
