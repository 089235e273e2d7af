-- After a change of primaries at one level alone, each pair whose way doesn't pass that level is laid as wanted, as it was.
-- Cited above: laid_beside
use Rattle.std.proofs.Common.{◌≡◌, ◌≢◌, ℕ, ◌+◌, ◌-◌, ◌<◌, ◌≤◌, ◌||◌, ◌&&◌, not, zero, suc, Bool, true, false, Option, None, Some, List, [], ◌∷◌, get_or, drop, arith, ap, eq-eqb, eqb-true, subst, sym, refl, ◌∙◌, inl, inr, eqb, is_some, nat_lt}
use Rattle.std.specs.List.{All}
use Rattle.std.proofs.lemmas.Bool.{cases_Bool, ltb-false, ltb-true, not-false, or_left}
use Rattle.std.proofs.lemmas.List.{get_or-drop}
use Rattle.std.proofs.lemmas.List.Elements.{All-drop, All-head, All-tail}
use Rattle.tap_name.specs.Cyclic.{first_from, next_digit}
use Rattle.tap_name.specs.Name.{IsName}
use Rattle.tap_name.proofs.Cyclic.{first_cyclic-below}
use Rattle.tap_name.proofs.Digits.{next_below}
use Rattle.tap_table.specs.declared.next.Next.{Next}
use Rattle.tap_table.specs.declared.next.Next.TheVariants.{Hop as HopTo, Root}
use Rattle.tap_table.specs.Next.{can_take, hop_to, next_from, primary_at, taken_digit}
use Rattle.tap_table.specs.Table.{TableValue}
use Rattle.tap_pointer.specs.declared.hop.Hop.{Hop}
use Rattle.tap_pointer.specs.declared.pair.Pair.{Pair}
use Rattle.tap_pointer.specs.declared.state.PairState.{PairState}
use Rattle.tap_pointer.specs.Pointers.{PointersValue, level_held}
use Rattle.tap_pointer.specs.Reconcile.{AreLaid, AreLaidBeside, has_own_digit, hop_from, hop_of, is_held_to, turns_off}

-- a hop goes on at the level after the one that it leaves
hop_level : (found : Option (List ℕ)) (level next : ℕ) (to : List ℕ) → hop_to found level ≡ HopTo to next → level ≡ next
hop_level None level next to is = cc
hop_level (Some name) level next to is = cc

-- a hop is above the level from which it was looked for
pub hop_above : (t : TableValue) (level : ℕ) (digits to : List ℕ) (next : ℕ) → next_from t level digits ≡ HopTo to next → level < next
hop_above t level [] to next is = let wrong : Root ≡ HopTo to next = is in absurd (cc)
hop_above t level (wanted ∷ more) to next is =
    elim (cases_Bool (eqb (get_or t.owner level 0) (taken_digit t level wanted))) [
      | inl own ↦
          let rest : next_from t (level + 1) more ≡ HopTo to next = rw own at is in
          let later = hop_above t (level + 1) more to next rest in
          omega (arith, later)
      | inr other ↦
          let here : hop_to (primary_at t level (taken_digit t level wanted)) (level + 1) ≡ HopTo to next = rw other at is in
          let level_is = hop_level (primary_at t level (taken_digit t level wanted)) (level + 1) next to here in
          omega (arith, level_is)
    ]

-- the hop of a next hop is the one to which a message goes
pub turned : (next : Next) (hop : Hop) → hop_of next ≡ Some hop → next ≡ HopTo hop.to hop.level
turned Root hop is = let wrong : None ≡ Some hop = is in absurd (cc)
turned (HopTo to level) hop is =
    let same : record { to = to; level = level } ≡ hop = cc in
    ap (λ h. HopTo h.to h.level) same

module _ (t u : TableValue) (owner : t.owner ≡ u.owner) (base : t.settings.base ≡ u.settings.base) (at : ℕ)
    (primaries : (level digit : ℕ) → level ≢ at → digit < u.settings.base → primary_at t level digit ≡ primary_at u level digit) where
  abbrev IsDigit : ℕ → Type 0
  IsDigit digit = digit < u.settings.base

  -- at each other level a message takes the same digit
  same_test : (level digit : ℕ) → level ≢ at → IsDigit digit → can_take t level digit ≡ can_take u level digit
  same_test level digit ne below =
      let own : List ℕ → Bool = λ name. eqb (get_or name level 0) digit || is_some (primary_at t level digit) in
      ap own owner ∙ ap (λ found. eqb (get_or u.owner level 0) digit || is_some found) (primaries level digit ne below)

  same_first : (level left digit : ℕ) → level ≢ at → IsDigit digit
      → first_from u.settings.base (can_take t level) left digit ≡ first_from u.settings.base (can_take u level) left digit
  same_first level zero digit ne below = refl
  same_first level (suc left) digit ne below =
      rw (
        same_test level digit ne below,
        same_first level left (next_digit u.settings.base digit) ne (next_below u.settings.base digit below),
      ) refl

  same_taken : (level wanted : ℕ) → level ≢ at → IsDigit wanted → taken_digit t level wanted ≡ taken_digit u level wanted
  same_taken level wanted ne below =
      ap (λ b. first_from b (can_take t level) b wanted) base ∙ same_first level u.settings.base wanted ne below

  taken_below : (level wanted : ℕ) → IsDigit wanted → IsDigit (taken_digit u level wanted)
  taken_below level wanted below = first_cyclic-below u.settings.base (can_take u level) wanted below

  same_own : (level : ℕ) → get_or t.owner level 0 ≡ get_or u.owner level 0
  same_own level = ap (λ name. get_or name level 0) owner

  -- from a level above it a message goes the same way
  above : (level : ℕ) (digits : List ℕ) → All IsDigit digits → at < level → next_from t level digits ≡ next_from u level digits
  above level [] all past = refl
  above level (wanted ∷ more) all past =
      let ne : level ≢ at = λ same. omega (arith, same, past) in
      let below = All-head IsDigit wanted more all in
      rw (
        same_taken level wanted ne below,
        same_own level,
        primaries level (taken_digit u level wanted) ne (taken_below level wanted below),
        above (level + 1) more (All-tail IsDigit wanted more all) (omega (arith, past)),
      ) refl

  -- a message that turns off below it does so still
  before : (level : ℕ) (digits to : List ℕ) (next : ℕ) → All IsDigit digits → next ≤ at → next_from t level digits ≡ HopTo to next
      → next_from u level digits ≡ HopTo to next
  before level [] to next all most is = is
  before level (wanted ∷ more) to next all most is =
      let past = hop_above t level (wanted ∷ more) to next is in
      let ne : level ≢ at = λ same. omega (arith, same, most, past) in
      let below = All-head IsDigit wanted more all in
      let taken = same_taken level wanted ne below in
      let own = same_own level in
      let alike : eqb (get_or u.owner level 0) (taken_digit u level wanted) ≡ eqb (get_or t.owner level 0) (taken_digit t level wanted) =
      ap (λ digit. eqb digit (taken_digit u level wanted)) (sym own) ∙ ap (eqb (get_or t.owner level 0)) (sym taken) in
      elim (cases_Bool (eqb (get_or t.owner level 0) (taken_digit t level wanted))) [
        | inl is_own ↦
            let rest : next_from t (level + 1) more ≡ HopTo to next = rw is_own at is in
            let own_there : eqb (get_or u.owner level 0) (taken_digit u level wanted) ≡ true = alike ∙ is_own in
            rw own_there (before (level + 1) more to next (All-tail IsDigit wanted more all) most rest)
        | inr other ↦
            let here : hop_to (primary_at t level (taken_digit t level wanted)) (level + 1) ≡ HopTo to next = rw other at is in
            let other_there : eqb (get_or u.owner level 0) (taken_digit u level wanted) ≡ false = alike ∙ other in
            let found : primary_at u level (taken_digit u level wanted) ≡ primary_at t level (taken_digit t level wanted) =
            sym (primaries level (taken_digit u level wanted) ne (taken_below level wanted below)) ∙ ap (primary_at t level) (sym taken) in
            rw other_there (ap (λ primary. hop_to primary (level + 1)) found ∙ here)
      ]

  -- the owner's own digit is taken at once, if the object has it
  first_taken : (base : ℕ) (test : ℕ → Bool) (left wanted : ℕ) → test wanted ≡ true → first_from base test left wanted ≡ wanted
  first_taken base test zero wanted takes = refl
  first_taken base test (suc left) wanted takes = rw takes refl

  own_here : (wanted : ℕ) (more : List ℕ) → All IsDigit more → wanted ≡ get_or u.owner at 0
      → next_from t at (wanted ∷ more) ≡ next_from u at (wanted ∷ more)
  own_here wanted more all own =
      let mine : eqb (get_or u.owner at 0) wanted ≡ true = eq-eqb (get_or u.owner at 0) wanted (sym own) in
      let was_mine : eqb (get_or t.owner at 0) wanted ≡ true = ap (λ name. eqb (get_or name at 0) wanted) owner ∙ mine in
      let taken = first_taken u.settings.base (can_take u at) u.settings.base wanted
      (or_left (eqb (get_or u.owner at 0) wanted) (is_some (primary_at u at wanted)) mine) in
      let was_taken = first_taken t.settings.base (can_take t at) t.settings.base wanted
      (or_left (eqb (get_or t.owner at 0) wanted) (is_some (primary_at t at wanted)) was_mine) in
      let stays : eqb (get_or u.owner at 0) (taken_digit u at wanted) ≡ true = ap (eqb (get_or u.owner at 0)) taken ∙ mine in
      let stayed : eqb (get_or t.owner at 0) (taken_digit t at wanted) ≡ true = ap (eqb (get_or t.owner at 0)) was_taken ∙ was_mine in
      rw (stays, stayed) (above (at + 1) more all (omega arith))

  -- so a message goes the same way if the object has this digit at the level
  own_there : (level : ℕ) (digits : List ℕ) (ahead : ℕ) → All IsDigit digits → at ≡ level + ahead
      → get_or digits ahead 0 ≡ get_or u.owner at 0 → next_from t level digits ≡ next_from u level digits
  own_there level [] ahead all place own = refl
  own_there level (wanted ∷ more) zero all place own =
      let here : at ≡ level = omega (arith, place) in
      subst (λ l. next_from t l (wanted ∷ more) ≡ next_from u l (wanted ∷ more)) here
      (own_here wanted more (All-tail IsDigit wanted more all) own)
  own_there level (wanted ∷ more) (suc ahead) all place own =
      let ne : level ≢ at = λ same. omega (arith, same, place) in
      let below = All-head IsDigit wanted more all in
      let further : at ≡ (level + 1) + ahead = omega (arith, place) in
      rw (
        same_taken level wanted ne below,
        same_own level,
        primaries level (taken_digit u level wanted) ne (taken_below level wanted below),
        own_there (level + 1) more ahead (All-tail IsDigit wanted more all) further own,
      ) refl

  -- so each pair whose way doesn't pass the level is wanted where it was, if it is laid as it was wanted
  module _ (object : List ℕ) (all : All IsDigit object) where
    turned_before : (held : ℕ) (laid : Option Hop) → turns_off at laid ≡ true → laid ≡ hop_from t object (Some held)
        → laid ≡ hop_from u object (Some held)
    turned_before held None turns is = let wrong : false ≡ true = turns in absurd (cc)
    turned_before held (Some hop) turns is =
        let below = ltb-true hop.level (at + 1) turns in
        let was = turned (next_from t held (drop held object)) hop (sym is) in
        ap hop_of (sym (before held (drop held object) hop.to hop.level (All-drop IsDigit held object all) (omega (arith, below)) was))

    held_so : (held : ℕ) (laid : Option Hop)
        → (is_held_to at (Some held) && not (turns_off at laid) && not (has_own_digit u.owner at object)) ≡ false
        → laid ≡ hop_from t object (Some held) → laid ≡ hop_from u object (Some held)
    held_so held laid off is =
        elim (cases_Bool (nat_lt held (at + 1))) [
          | inl low ↦
              elim (cases_Bool (turns_off at laid)) [
                | inl turns ↦ turned_before held laid turns is
                | inr past ↦
                    let under = ltb-true held (at + 1) low in
                    let owns : not (has_own_digit u.owner at object) ≡ false = rw (low, past) at off in
                    let own = eqb-true (get_or object at 0) (get_or u.owner at 0) (not-false (has_own_digit u.owner at object) owns) in
                    let place : at ≡ held + (at - held) = omega (arith, under) in
                    let digit : get_or (drop held object) (at - held) 0 ≡ get_or u.owner at 0 =
                    get_or-drop held object (at - held) 0 ∙ ap (λ k. get_or object k 0) (sym place) ∙ own in
                    is ∙ ap hop_of (own_there held (drop held object) (at - held) (All-drop IsDigit held object all) place digit)
              ]
          | inr high ↦
              let past = ltb-false held (at + 1) high in
              is ∙ ap hop_of (above held (drop held object) (All-drop IsDigit held object all) (omega (arith, past)))
        ]

    level_so : (held : Option ℕ) (laid : Option Hop)
        → (is_held_to at held && not (turns_off at laid) && not (has_own_digit u.owner at object)) ≡ false
        → laid ≡ hop_from t object held → laid ≡ hop_from u object held
    level_so None laid off is = is
    level_so (Some held) laid off is = held_so held laid off is

  pub laid_beside : (pointers : PointersValue) → All (λ e. IsName u.settings e.0.object) pointers.pairs → AreLaid t pointers
      → AreLaidBeside u at pointers
  laid_beside pointers names laid = λ k d within off.
      let e : Pair × PairState = get_or pointers.pairs k d in
      level_so e.0.object (names k d within).below (level_held e.1) e.1.laid off (laid k d within)
