-- The level at which a pair is held, and the register that it comes from.
-- Cited above: held_at, held_below
use Rattle.std.proofs.Common.{◌≡◌, ◌⊎◌, ℕ, zero, suc, ◌≤◌, min, true, false, List, [], ◌∷◌, slice_get, Option, None, Some, refl, sym, ap, ◌∙◌, inl, inr, arith}
use Rattle.std.specs.Cmp.Lexicographic.{nat_list_cmp_total}
use Rattle.std.specs.List.{fold, list_any, reduce}
use Rattle.std.specs.Ordering.{is_eq}
use Rattle.std.proofs.lemmas.Bool.{cases_Bool}
use Rattle.std.proofs.lemmas.Cmp.{tied_itself}
use Rattle.tap_name.specs.Order.{name_cmp}
use Rattle.tap_register.specs.Registers.{IsAscending, entry_of}
use Rattle.tap_register.specs.declared.registers.Entry.{Entry}
use Rattle.tap_register.proofs.Places.{entry_at-found, found-entry_at}
use Rattle.tap_pointer.specs.declared.state.PairState.{PairState}
use Rattle.tap_pointer.specs.declared.state.Pointer.{Pointer}
use Rattle.tap_pointer.specs.Pointers.{is_held, level_held, levels_on}
use Rattle.tap_pointer.proofs.Levels.{no_level}

abbrev Registers : Type 0
Registers = List (Entry (List ℕ) Pointer)

-- ---- a register at a place

-- the least of some levels is one of them
fold_is : (first least : ℕ) (levels : List ℕ) → fold min first levels ≡ least
    → (least ≡ first) ⊎ ((k : ℕ) × (slice_get levels k ≡ Some least))
fold_is first least [] is = inl (sym is)
fold_is first least (level ∷ levels) is =
    elim (fold_is (min first level) least levels is) [
      | inl first_is ↦ elim (either first level) [
        | inl one ↦ inl (first_is ∙ one)
        | inr other ↦ inr (0, ap Some (sym (first_is ∙ other)))
      ]
      | inr later ↦ inr (suc later.0, later.1)
    ]
  where
    either : (a b : ℕ) → (min a b ≡ a) ⊎ (min a b ≡ b)
    either a b = grind arith

-- a register that is on, with this level
record IsOnAt (rs : Registers) (level : ℕ) : Type 0 where
  place : ℕ
  entry : Entry (List ℕ) Pointer
  is : slice_get rs place ≡ Some entry
  on : entry.value.on ≡ true
  level_is : entry.value.level ≡ level

later_on : (r : Entry (List ℕ) Pointer) (rs : Registers) (level : ℕ) → IsOnAt rs level → IsOnAt (r ∷ rs) level
later_on r rs level at = record { place = suc at.place; entry = at.entry; is = at.is; on = at.on; level_is = at.level_is }

-- each level of those that are on is that of one of them
level_on : (rs : Registers) (k level : ℕ) → slice_get (levels_on rs) k ≡ Some level → IsOnAt rs level
level_on [] k level got = cc
level_on (r ∷ rs) k level got =
    elim (cases_Bool r.value.on) [
      | inl on ↦ by_place (λ k got. level_on rs k level got) k (rw on at got) on
      | inr off ↦ later_on r rs level (level_on rs k level (rw off at got))
    ]
  where
    by_place : ((k : ℕ) → slice_get (levels_on rs) k ≡ Some level → IsOnAt rs level) → (k : ℕ)
        → slice_get (r.value.level ∷ levels_on rs) k ≡ Some level → r.value.on ≡ true → IsOnAt (r ∷ rs) level
    by_place later zero got on =
        let same : r.value.level ≡ level = cc in
        record { place = 0; entry = r; is = refl; on = on; level_is = same }
    by_place later (suc k) got on = later_on r rs level (later k got)

least_on : (rs : Registers) (level : ℕ) → reduce min (levels_on rs) ≡ Some level → IsOnAt rs level
least_on rs level is = by_levels (levels_on rs) refl is
  where
    by_levels : (levels : List ℕ) → levels_on rs ≡ levels → reduce min levels ≡ Some level → IsOnAt rs level
    by_levels [] at is = let wrong : ◌≡◌ {A = Option ℕ} None (Some level) = is in absurd (cc)
    by_levels (first ∷ levels) at is =
        let least : fold min first levels ≡ level = cc in
        elim (fold_is first level levels least) [
          | inl same ↦ level_on rs 0 level (ap (λ ls. slice_get ls 0) at ∙ ap Some (sym same))
          | inr later ↦ level_on rs (suc later.0) level (ap (λ ls. slice_get ls (suc later.0)) at ∙ later.1)
        ]

-- ---- the level of a pair

-- A pair that is held at a level: the node publishes it, at level 0, or the register of a sender is on, with this level.
pub record IsHeldBy (state : PairState) (level : ℕ) : Type 0 where
  pub entry : Entry (List ℕ) Pointer
  pub found : entry_of name_cmp state.registers entry.key ≡ Some entry
  pub on : entry.value.on ≡ true
  pub level_is : entry.value.level ≡ level

pub held_at : (state : PairState) (level : ℕ) → IsAscending name_cmp state.registers → level_held state ≡ Some level
    → ((state.published ≡ true) × (level ≡ 0)) ⊎ IsHeldBy state level
held_at state level ascending held =
    elim (cases_Bool state.published) [
      | inl published ↦
          let found : Some 0 ≡ Some level = rw published at held in
          let same : 0 ≡ level = cc in
          inl (published, sym same)
      | inr not_published ↦
          let at = least_on state.registers level (rw not_published at held) in
          inr (record {
            entry = at.entry;
            found =
                entry_at-found name_cmp nat_list_cmp_total state.registers at.entry.key at.place at.entry ascending at.is
                (ap is_eq (tied_itself nat_list_cmp_total at.entry.key));
            on = at.on;
            level_is = at.level_is;
          })
    ]

-- a pair of which a sender's register is on is held, at no higher level
fold_below : (first least : ℕ) (levels : List ℕ) → first ≤ least → fold min first levels ≤ least
fold_below first least [] below = below
fold_below first least (level ∷ levels) below = fold_below (min first level) least levels (omega (arith, below))

fold_reaches : (first : ℕ) (levels : List ℕ) (k level : ℕ) → slice_get levels k ≡ Some level → fold min first levels ≤ level
fold_reaches first [] k level got = cc
fold_reaches first (l ∷ levels) zero level got =
    let same : l ≡ level = cc in fold_below (min first l) level levels (omega (arith, same))
fold_reaches first (l ∷ levels) (suc k) level got = fold_reaches (min first l) levels k level got

-- the level of a register that is on is one of those
on_level : (rs : Registers) (k : ℕ) (entry : Entry (List ℕ) Pointer) → slice_get rs k ≡ Some entry → entry.value.on ≡ true
    → (i : ℕ) × (slice_get (levels_on rs) i ≡ Some entry.value.level)
on_level [] k entry got on = cc
on_level (r ∷ rs) zero entry got on =
    let same : r ≡ entry = cc in
    let here : r.value.on ≡ true = ap (λ (e : Entry (List ℕ) Pointer). e.value.on) same ∙ on in
    let level : Some r.value.level ≡ Some entry.value.level = ap (λ (e : Entry (List ℕ) Pointer). Some e.value.level) same in
    (0, rw here level)
on_level (r ∷ rs) (suc k) entry got on =
    let later = on_level rs k entry got on in
    elim (cases_Bool r.value.on) [
      | inl is ↦ (suc later.0, rw is later.1)
      | inr off ↦ (later.0, rw off later.1)
    ]

pub held_below : (state : PairState) (h : List ℕ) (entry : Entry (List ℕ) Pointer) → IsAscending name_cmp state.registers
    → entry_of name_cmp state.registers h ≡ Some entry → entry.value.on ≡ true
    → (level : ℕ) × (level_held state ≡ Some level) × (level ≤ entry.value.level)
held_below state h entry ascending found on =
    elim (cases_Bool state.published) [
      | inl published ↦ (0, rw published refl, omega arith)
      | inr not_published ↦
          let place = found-entry_at name_cmp nat_list_cmp_total state.registers h entry ascending found in
          let level = on_level state.registers place.0 entry place.1 on in
          let least = by_levels (levels_on state.registers) level.0 level.1 in
          (least.0, rw not_published least.1, least.2)
    ]
  where
    by_levels : (levels : List ℕ) (k : ℕ) → slice_get levels k ≡ Some entry.value.level
        → (level : ℕ) × (reduce min levels ≡ Some level) × (level ≤ entry.value.level)
    by_levels [] k got = cc
    by_levels (first ∷ levels) zero got =
        let same : first ≡ entry.value.level = cc in
        (fold min first levels, refl, fold_below first entry.value.level levels (omega (arith, same)))
    by_levels (first ∷ levels) (suc k) got = (fold min first levels, refl, fold_reaches first levels k entry.value.level got)

-- a pair is held if it has a level, and has a level if it is held
pub held_if_level : (state : PairState) (level : ℕ) → level_held state ≡ Some level → is_held state ≡ true
held_if_level state level is =
    elim (cases_Bool (is_held state)) [
      | inl held ↦ held
      | inr apart ↦ let wrong : ◌≡◌ {A = Option ℕ} None (Some level) = sym (no_level state apart) ∙ is in absurd (cc)
    ]

pub level_if_held : (state : PairState) → is_held state ≡ true → (level : ℕ) × (level_held state ≡ Some level)
level_if_held state held =
    elim (cases_Bool state.published) [
      | inl published ↦ (0, rw published refl)
      | inr not_published ↦
          let any : list_any (λ r. r.value.on) state.registers ≡ true = rw not_published at held in
          let least = some_on state.registers any in
          (least.0, rw not_published least.1)
    ]
  where
    some_level : (levels : List ℕ) (k level : ℕ) → slice_get levels k ≡ Some level → (least : ℕ) × (reduce min levels ≡ Some least)
    some_level [] k level got = cc
    some_level (first ∷ levels) k level got = (fold min first levels, refl)

    place_on : (rs : Registers) → list_any (λ r. r.value.on) rs ≡ true
        → (k : ℕ) × (entry : Entry (List ℕ) Pointer) × (slice_get rs k ≡ Some entry) × (entry.value.on ≡ true)
    place_on [] any = let wrong : false ≡ true = any in absurd (cc)
    place_on (r ∷ rs) any =
        elim (cases_Bool r.value.on) [
          | inl on ↦ (0, r, refl, on)
          | inr off ↦ let later = place_on rs (rw off at any) in (suc later.0, later.1, later.2, later.3)
        ]

    some_on : (rs : Registers) → list_any (λ r. r.value.on) rs ≡ true → (least : ℕ) × (reduce min (levels_on rs) ≡ Some least)
    some_on rs any =
        let place = place_on rs any in
        let level = on_level rs place.0 place.1 place.2 place.3 in
        some_level (levels_on rs) level.0 place.1.value.level level.1
