-- The level below which no pair is held: what keeps it, and that no pair passes a level below it.
use Rattle.std.proofs.Common.{◌≡◌, ℕ, ◌+◌, ◌<◌, ◌≤◌, ◌&&◌, min, not, true, false, List, [], ◌∷◌, get_or, map, Option, None, Some, arith, refl, subst, sym, inl, inr, nat_lt}
use Rattle.std.specs.BTreeMap.{insert_entry, is_at}
use Rattle.std.specs.Cmp.Lexicographic.{nat_list_cmp_total}
use Rattle.std.specs.List.{All, fold, reduce}
use Rattle.std.specs.Map.{lookup}
use Rattle.std.specs.Option.{unwrap_or}
use Rattle.std.proofs.lemmas.Bool.{cases_Bool, ltb-true}
use Rattle.std.proofs.lemmas.List.Elements.{All-cons, All-head, All-nil, All-tail, All-weaker}
use Rattle.tap_name.specs.Order.{name_cmp}
use Rattle.tap_register.specs.declared.registers.Entry.{Entry}
use Rattle.tap_register.proofs.Applied.{All-applied}
use Rattle.tap_table.specs.Table.{TableValue}
use Rattle.tap_pointer.specs.declared.hop.Hop.{Hop}
use Rattle.tap_pointer.specs.declared.pair.Pair.{Pair}
use Rattle.tap_pointer.specs.declared.state.PairState.{PairState}
use Rattle.tap_pointer.specs.declared.state.Pointer.{Pointer}
use Rattle.tap_pointer.specs.Pair.{pair_cmp, pair_cmp-total}
use Rattle.tap_pointer.specs.Pointers.{IsHeldFrom, PointersValue, level_held, levels_on, nothing_known, state_among, with_laid, with_lay, with_published}
use Rattle.tap_pointer.specs.Reconcile.{AreLaid, AreLaidBeside, has_own_digit, is_held_to, passes, turns_off}
use Rattle.tap_pointer.proofs.Entries.{All-put}
use Rattle.tap_pointer.proofs.Known.{All-found, pair_cmp-equal}

abbrev Registers : Type 0
Registers = List (Entry (List ℕ) Pointer)

-- the least of levels isn't below what none of them is below
fold_least : (level first : ℕ) (registers : Registers) → level ≤ first → All (λ r. level ≤ r.value.level) registers
    → level ≤ fold min first (levels_on registers)
fold_least level first [] low all = low
fold_least level first (r ∷ rest) low all =
    let head : level ≤ r.value.level = All-head (λ r. level ≤ r.value.level) r rest all in
    let tail = All-tail (λ r. level ≤ r.value.level) r rest all in
    elim (cases_Bool r.value.on) [
      | inl on ↦ rw on (fold_least level (min first r.value.level) rest (omega (arith, low, head)) tail)
      | inr off ↦ rw off (fold_least level first rest low tail)
    ]

least_least : (level : ℕ) (registers : Registers) (first : ℕ) → All (λ r. level ≤ r.value.level) registers
    → reduce min (levels_on registers) ≡ Some first → level ≤ first
least_least level [] first all is = let wrong : None ≡ Some first = is in absurd (cc)
least_least level (r ∷ rest) first all is =
    let tail = All-tail (λ r. level ≤ r.value.level) r rest all in
    elim (cases_Bool r.value.on) [
      | inl on ↦
          let head : level ≤ r.value.level = All-head (λ r. level ≤ r.value.level) r rest all in
          let found : Some (fold min r.value.level (levels_on rest)) ≡ Some first = rw on at is in
          let same : fold min r.value.level (levels_on rest) ≡ first = cc in
          omega (arith, same, fold_least level r.value.level rest head tail)
      | inr off ↦ least_least level rest first tail (rw off at is)
    ]

-- a pair isn't held below the level
held_least : (level : ℕ) (e : Pair × PairState) → IsHeldFrom level e → (held : ℕ) → level_held e.1 ≡ Some held → level ≤ held
held_least level e from held is =
    elim (cases_Bool e.1.published) [
      | inl published ↦ let none : level ≡ 0 = from.own published in omega (arith, none)
      | inr not_published ↦ least_least level e.1.registers held from.registers (rw not_published at is)
    ]

-- so it doesn't pass a level below it
never_passes : (owner : List ℕ) (level least : ℕ) (e : Pair × PairState) → IsHeldFrom least e → level < least
    → passes owner level e ≡ false
never_passes owner level least e from below = by_held (level_held e.1) refl
  where
    by_held : (held : Option ℕ) → level_held e.1 ≡ held
        → (is_held_to level held && not (turns_off level e.1.laid) && not (has_own_digit owner level e.0.object)) ≡ false
    by_held None is = refl
    by_held (Some held) is =
        elim (cases_Bool (nat_lt held (level + 1))) [
          | inl low ↦
              let under = ltb-true held (level + 1) low in
              let least_is = held_least least e from held is in
              absurd (omega (arith, under, least_is, below))
          | inr high ↦ rw high refl
        ]

pub laid_below : (t : TableValue) (level least : ℕ) (pointers : PointersValue) → All (IsHeldFrom least) pointers.pairs → level < least
    → AreLaidBeside t level pointers → AreLaid t pointers
laid_below t level least pointers from below beside = λ k d within.
    let e : Pair × PairState = get_or pointers.pairs k d in
    beside k d within (never_passes t.owner level least e (from k d within) below)

module _ (level : ℕ) (pair : Pair) where
  -- nothing that is known is held nowhere
  from-nothing : IsHeldFrom level (pair, nothing_known)
  from-nothing = record {
    own = λ is. let wrong : false ≡ true = is in absurd (cc);
    registers = All-nil (λ r. level ≤ r.value.level);
  }

  pub from-among : (pairs : List (Pair × PairState)) → All (IsHeldFrom level) pairs → IsHeldFrom level (pair, state_among pairs pair)
  from-among pairs all = by_found (lookup (is_at (pair_cmp pair)) pairs) refl
    where
      by_found : (found : Option PairState) → lookup (is_at (pair_cmp pair)) pairs ≡ found
          → IsHeldFrom level (pair, unwrap_or found nothing_known)
      by_found None is = from-nothing
      by_found (Some state) is = All-found (IsHeldFrom level) pair state pairs all is

  module _ (state : PairState) (from : IsHeldFrom level (pair, state)) where
    pub from-published : level ≡ 0 → IsHeldFrom level (pair, with_published state true)
    from-published none = record { own = λ is. none; registers = from.registers }

    pub from-withdrawn : IsHeldFrom level (pair, with_published state false)
    from-withdrawn = record { own = λ is. let wrong : false ≡ true = is in absurd (cc); registers = from.registers }

    pub from-laid : (hop : Option Hop) → IsHeldFrom level (pair, with_laid state hop)
    from-laid hop = record { own = from.own; registers = from.registers }

    pub from-with_lay : (sender : List ℕ) (version : ℕ) (pointer : Pointer) → level ≤ pointer.level
        → IsHeldFrom level (pair, with_lay state sender version pointer)
    from-with_lay sender version pointer least = record {
      own = from.own;
      registers = All-applied name_cmp nat_list_cmp_total state.registers sender version pointer (λ r. level ≤ r.value.level)
          from.registers least;
    }

  -- no pair is held below it after one of them was put in that isn't
  pub from-put : (pairs new : List (Pair × PairState)) (state : PairState) → new ≡ insert_entry pair_cmp pairs pair state
      → All (IsHeldFrom level) pairs → IsHeldFrom level (pair, state) → All (IsHeldFrom level) new
  from-put pairs new state after all from =
      subst (All (IsHeldFrom level)) (sym after)
      (All-put pair_cmp-total pair state (IsHeldFrom level)
      (λ other tied. subst (λ same. IsHeldFrom level (same, state)) (pair_cmp-equal pair other tied) from) pairs all)

-- nor is one held below a lower level
pub from-lower : (level lower : ℕ) → lower ≤ level → (pairs : List (Pair × PairState)) → All (IsHeldFrom level) pairs
    → All (IsHeldFrom lower) pairs
from-lower level lower low pairs all =
    All-weaker (IsHeldFrom level) (IsHeldFrom lower)
    (λ e from. record {
      own = λ is. let none : level ≡ 0 = from.own is in omega (arith, none, low);
      registers = All-weaker (λ r. level ≤ r.value.level) (λ r. lower ≤ r.value.level)
          (λ r least. omega (arith, low, least)) e.1.registers from.registers;
    })
    pairs all

-- nor after a change of each pair
pub from-map : (level : ℕ) (f : Pair × PairState → PairState)
    → ((e : Pair × PairState) → IsHeldFrom level e → IsHeldFrom level (e.0, f e))
    → (pairs : List (Pair × PairState)) → All (IsHeldFrom level) pairs → All (IsHeldFrom level) (map (λ e. (e.0, f e)) pairs)
from-map level f keeps [] all = All-nil (IsHeldFrom level)
from-map level f keeps (e ∷ pairs) all =
    All-cons (IsHeldFrom level) (e.0, f e) (map (λ e. (e.0, f e)) pairs) (keeps e (All-head (IsHeldFrom level) e pairs all))
    (from-map level f keeps pairs (All-tail (IsHeldFrom level) e pairs all))
