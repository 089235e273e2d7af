-- The notices of a departure, and whom the leaving node awaits.
-- Cited above: holders_on-ascending, still_awaited
use Rattle.std.proofs.Common.{◌≡◌, ◌≢◌, ◌↔◌, ℕ, Bool, true, false, not, Some, List, [], ◌∷◌, map, filter, slice_get, arith, ap, sym, refl, ◌∙◌, inl, inr}
use Rattle.std.specs.Prelude.{bytes_eq}
use Rattle.std.specs.Option.{option_map}
use Rattle.std.proofs.lemmas.Bool.{cases_Bool}
use Rattle.std.proofs.lemmas.List.{get_or-map, length-map}
use Rattle.std.proofs.lemmas.List.Kept.{AllPairs-filter}
use Rattle.std.proofs.lemmas.Option.{slice_get-map}
use Rattle.std.proofs.lemmas.Slice.Eq.{bytes_eq-Decides}
use Rattle.tap_name.specs.Names.{Among}
use Rattle.tap_name.specs.Order.{AreAscending, IsBelow}
use Rattle.tap_name.proofs.Names.{among-filter, among-filter_from}
use Rattle.tap_register.specs.declared.registers.Entry.{Entry}
use Rattle.tap_table.specs.Table.{TableValue}
use Rattle.tap_table.specs.Ties.{AreTies, TiesValue, holders_on}
use Rattle.tap_depart.specs.Leaving.{LeavingValue, left_by, names_but, notice_for, started_leaving}

abbrev Word : Type 0
Word = Entry (List ℕ) Bool

-- the holders that are on ascend
pub holders_on-ascending : (ties : TiesValue) → AreTies ties → AreAscending (holders_on ties)
holders_on-ascending ties are i j d before within =
    let words = filter (λ (w : Word). w.value) ties.holders in
    let len = length-map words (λ (w : Word). w.key) in
    let none : Word = record { key = d; version = 0; value = true } in
    let at_i = get_or-map (λ (w : Word). w.key) words i none d (omega arith) in
    let at_j = get_or-map (λ (w : Word). w.key) words j none d (omega arith) in
    let pairs = AllPairs-filter (λ (v w : Word). IsBelow v.key w.key) (λ (w : Word). w.value) ties.holders are.ascending in
    rw (at_i, at_j) (pairs i j none before (omega arith))

-- there is a notice for each holder that is on, in their order, once
notices_to : (t : TableValue) (holders : List (List ℕ)) → map (λ n. n.to) (map (notice_for t) holders) ≡ holders
notices_to t [] = refl
notices_to t (holder ∷ holders) = ap (λ l. holder ∷ l) (notices_to t holders)

pub notices_are_for : (ties : TiesValue) → map (λ n. n.to) (started_leaving ties).notices ≡ holders_on ties
notices_are_for ties = notices_to ties.table (holders_on ties)

pub notice_at : (ties : TiesValue) (i : ℕ) (holder : List ℕ) → slice_get (holders_on ties) i ≡ Some holder
    → slice_get (started_leaving ties).notices i ≡ Some (notice_for ties.table holder)
notice_at ties i holder got =
    slice_get-map (notice_for ties.table) (holders_on ties) i ∙ ap (option_map (notice_for ties.table)) got

-- after the answer of a holder, those are awaited that were, but for this one
pub still_awaited : (leaving : LeavingValue) (holder name : List ℕ)
    → Among name (left_by leaving holder).awaited ↔ (Among name leaving.awaited × (name ≢ holder))
still_awaited leaving holder name =
    let other : List ℕ → Bool = λ n. not (bytes_eq n holder) in
    let apart : other name ≡ true → name ≢ holder = λ passes same. let tied = (bytes_eq-Decides name holder).1 same in
    let wrong : false ≡ true = rw tied at passes in cc in
    let from : name ≢ holder → other name ≡ true = λ differs. elim (cases_Bool (bytes_eq name holder)) [
      | inl tied ↦ absurd (differs ((bytes_eq-Decides name holder).0 tied))
      | inr untied ↦ rw untied refl
    ] in (
      λ among. let parts = among-filter other leaving.awaited name among in (parts.0, apart parts.1),
      λ both. among-filter_from other leaving.awaited name both.0 (from both.1),
    )

-- an answer that isn't awaited changes nothing
all_others : (names : List (List ℕ)) (holder : List ℕ) → (Among holder names → ⊥) → names_but names holder ≡ names
all_others [] holder absent = refl
all_others (name ∷ names) holder absent =
    let untied : bytes_eq name holder ≡ false = elim (cases_Bool (bytes_eq name holder)) [
      | inl tied ↦ absurd (absent (inl (sym ((bytes_eq-Decides name holder).0 tied))))
      | inr is ↦ is
    ] in
    rw untied (ap (λ l. name ∷ l) (all_others names holder (λ later. absent (inr later))))

pub unawaited_changes_nothing : (leaving : LeavingValue) (holder : List ℕ) → (Among holder leaving.awaited → ⊥)
    → left_by leaving holder ≡ leaving
unawaited_changes_nothing leaving holder absent =
    let with_awaited : List (List ℕ) → LeavingValue = λ names. record leaving { awaited = names } in
    ap with_awaited (all_others leaving.awaited holder absent)

-- the awaited holders still ascend
pub awaited-ascending : (leaving : LeavingValue) (holder : List ℕ) → AreAscending leaving.awaited
    → AreAscending (left_by leaving holder).awaited
awaited-ascending leaving holder ascending = AllPairs-filter IsBelow (λ n. not (bytes_eq n holder)) leaving.awaited ascending

-- The departure is finished exactly at the last answer: after it nobody is awaited exactly if only its holder was.
no_others : (names : List (List ℕ)) (holder : List ℕ) → ((name : List ℕ) → Among name names → name ≡ holder) → names_but names holder ≡ []
no_others [] holder only = refl
no_others (name ∷ names) holder only =
    let tied : bytes_eq name holder ≡ true = (bytes_eq-Decides name holder).1 (only name (inl refl)) in
    rw tied (no_others names holder (λ other later. only other (inr later)))

pub finished_exactly : (leaving : LeavingValue) (holder : List ℕ)
    → ((left_by leaving holder).awaited ≡ []) ↔ ((name : List ℕ) → Among name leaving.awaited → name ≡ holder)
finished_exactly leaving holder =
    let alone : (left_by leaving holder).awaited ≡ [] → (name : List ℕ) → Among name leaving.awaited → name ≡ holder = λ none name among.
    elim (cases_Bool (bytes_eq name holder)) [
      | inl tied ↦ (bytes_eq-Decides name holder).0 tied
      | inr untied ↦
          let differs : name ≢ holder = λ same. let tied = (bytes_eq-Decides name holder).1 same in
          let wrong : true ≡ false = sym tied ∙ untied in cc in
          let still : Among name [] = rw none at ((still_awaited leaving holder name).1 (among, differs)) in absurd still
    ] in
    (alone, λ only. no_others leaving.awaited holder only)
