-- The level at which a pair is held: the least of the registers that are on.
-- Cited above: level_most, no_level
use Rattle.std.proofs.Common.{◌≡◌, ℕ, ◌≤◌, min, true, false, List, [], ◌∷◌, Option, None, Some, refl, sym, ap, ◌∙◌, inl, inr, arith}
use Rattle.std.specs.List.{All, fold, list_any, reduce}
use Rattle.std.specs.Option.{is_some, unwrap_or}
use Rattle.std.proofs.lemmas.Bool.{cases_Bool, or_left, or_parts}
use Rattle.std.proofs.lemmas.List.Elements.{All-head, All-tail}
use Rattle.tap_register.specs.declared.registers.Entry.{Entry}
use Rattle.tap_pointer.specs.declared.state.Pointer.{Pointer}
use Rattle.tap_pointer.specs.declared.state.PairState.{PairState}
use Rattle.tap_pointer.specs.Pointers.{is_held, is_held_or_laid, level_held, levels_on}

-- the least of a number, if there is one, and of these
abbrev pub least_with : Option ℕ → List ℕ → Option ℕ
least_with None levels = reduce min levels
least_with (Some least) levels = Some (fold min least levels)

pub least-nothing : (least : Option ℕ) → least_with least [] ≡ least
least-nothing None = refl
least-nothing (Some least) = refl

-- one more register: one that is on counts, another one doesn't
pub least-on : (least : Option ℕ) (r : Entry (List ℕ) Pointer) (rest : List (Entry (List ℕ) Pointer)) → r.value.on ≡ true
    → least_with (Some (min (unwrap_or least r.value.level) r.value.level)) (levels_on rest) ≡ least_with least (levels_on (r ∷ rest))
least-on None r rest on =
    let itself : min r.value.level r.value.level ≡ r.value.level = omega arith in
    rw (on, itself) refl
least-on (Some least) r rest on = rw on refl

pub least-off : (least : Option ℕ) (r : Entry (List ℕ) Pointer) (rest : List (Entry (List ℕ) Pointer)) → r.value.on ≡ false
    → least_with least (levels_on rest) ≡ least_with least (levels_on (r ∷ rest))
least-off least r rest off = rw off refl

-- without a register that is on there are no levels
pub none_on : (registers : List (Entry (List ℕ) Pointer)) → list_any (λ r. r.value.on) registers ≡ false → levels_on registers ≡ []
none_on [] off = refl
none_on (r ∷ rest) off =
    let parts = or_parts r.value.on (list_any (λ r. r.value.on) rest) off in
    rw parts.0 (none_on rest parts.1)

-- a pair that isn't held has no level
pub no_level : (state : PairState) → is_held state ≡ false → level_held state ≡ None
no_level state apart =
    let parts = or_parts state.published (list_any (λ r. r.value.on) state.registers) apart in
    rw parts.0 (ap (reduce min) (none_on state.registers parts.1))

-- the least is at most what each is
fold_most : (first most : ℕ) (levels : List ℕ) → first ≤ most → fold min first levels ≤ most
fold_most first most [] few = few
fold_most first most (level ∷ levels) few = fold_most (min first level) most levels (omega (arith, few))

least_most : (most : ℕ) (registers : List (Entry (List ℕ) Pointer)) (first : ℕ) → All (λ r. r.value.level ≤ most) registers
    → reduce min (levels_on registers) ≡ Some first → first ≤ most
least_most most [] first all is = let wrong : None ≡ Some first = is in absurd (cc)
least_most most (r ∷ rest) first all is =
    elim (cases_Bool r.value.on) [
      | inl on ↦
          let head : r.value.level ≤ most = All-head (λ r. r.value.level ≤ most) r rest all in
          let found : Some (fold min r.value.level (levels_on rest)) ≡ Some first = rw on at is in
          let same : fold min r.value.level (levels_on rest) ≡ first = cc in
          let few = fold_most r.value.level most (levels_on rest) head in
          omega (arith, same, few)
      | inr off ↦ least_most most rest first (All-tail (λ r. r.value.level ≤ most) r rest all) (rw off at is)
    ]

-- a pair is held at a level of at most what its registers have
pub level_most : (most : ℕ) (state : PairState) (level : ℕ) → All (λ r. r.value.level ≤ most) state.registers
    → level_held state ≡ Some level → level ≤ most
level_most most state level all is =
    elim (cases_Bool state.published) [
      | inl published ↦
          let found : Some 0 ≡ Some level = rw published at is in
          let same : 0 ≡ level = cc in
          omega (arith, same)
      | inr not_published ↦ least_most most state.registers level all (rw not_published at is)
    ]

-- a pair that has a level is held
pub held_at_level : (state : PairState) (level : ℕ) → level_held state ≡ Some level → is_held_or_laid state ≡ true
held_at_level state level is =
    elim (cases_Bool (is_held state)) [
      | inl held ↦ or_left (is_held state) (is_some state.laid) held
      | inr apart ↦ let wrong : None ≡ Some level = sym (no_level state apart) ∙ is in absurd (cc)
    ]
