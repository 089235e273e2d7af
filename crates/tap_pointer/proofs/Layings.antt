-- The Lays that it takes to have a pair laid as wanted: how many there are, and when there are none.
-- Cited above: no_layings, to_itself
use Rattle.std.proofs.Common.{◌≡◌, ℕ, ◌+◌, ◌*◌, ◌≤◌, Bool, true, false, ◌==◌, nat_eq, List, [], ◌∷◌, ◌++◌, length, map, Option, None, Some, refl, sym, ap, ◌∙◌, inl, inr, arith, append_assoc, length-append, eq-eqb}
use Rattle.std.specs.Cmp.Lexicographic.{pointwise}
use Rattle.std.specs.List.{All}
use Rattle.std.specs.Option.{is_some}
use Rattle.std.proofs.lemmas.Bool.{cases_Bool, or_parts, or_right}
use Rattle.std.proofs.lemmas.List.{nil_from_length}
use Rattle.std.proofs.lemmas.List.Elements.{All-cons, All-head, All-nil, All-tail}
use Rattle.tap_register.specs.Stamp.{HasGivenAtMost}
use Rattle.tap_table.specs.Table.{TableValue}
use Rattle.tap_pointer.specs.declared.hop.Hop.{Hop}
use Rattle.tap_pointer.specs.declared.lay.Lay.{Lay}
use Rattle.tap_pointer.specs.declared.laying.Laying.{Laying}
use Rattle.tap_pointer.specs.declared.pair.Pair.{Pair}
use Rattle.tap_pointer.specs.declared.state.PairState.{PairState}
use Rattle.tap_pointer.specs.Pointers.{is_held, is_held_or_laid, held_or_laid_count, with_laid}
use Rattle.tap_pointer.specs.Reconcile.{hop_from, is_to, laying_at, layings, layings_to_wanted, lays_numbered, told_off, told_on, wanted_hop, with_wanted}
use Rattle.tap_pointer.proofs.Levels.{no_level}

-- the numbers of more Lays follow those of the first
pub lays_numbered-append : (last : ℕ) (first second : List Laying)
    → lays_numbered last (first ++ second) ≡ lays_numbered last first ++ lays_numbered (last + length first) second
lays_numbered-append last [] second = let same : last + 0 ≡ last = omega arith in rw same refl
lays_numbered-append last (laying ∷ first) second =
    let after : (last + 1) + length first ≡ last + length (laying ∷ first) = omega arith in
    let rest = lays_numbered-append (last + 1) first second in
    ap (λ lays. lays_numbered last (laying ∷ []) ++ lays)
    (rest ∙ ap (λ n. lays_numbered (last + 1) first ++ lays_numbered n second) after)

pub length-lays_numbered : (last : ℕ) (layings : List Laying) → length (lays_numbered last layings) ≡ length layings
length-lays_numbered last [] = refl
length-lays_numbered last (laying ∷ layings) = let rest = length-lays_numbered (last + 1) layings in omega (arith, rest)

-- a hop is to its own node, at its own level
same_name : (name : List ℕ) → pointwise nat_eq name name ≡ true
same_name [] = refl
same_name (digit ∷ name) = let head : nat_eq digit digit ≡ true = eq-eqb digit digit refl in rw head (same_name name)

pub to_itself : (hop : Hop) → is_to hop hop ≡ true
to_itself hop = same_name hop.to

pub same_level : (hop : Hop) → (hop.level == hop.level) ≡ true
same_level hop = eq-eqb hop.level hop.level refl

-- a pair that is laid as wanted takes no Lay
pub no_layings : (pair : Pair) (hop : Option Hop) → layings pair hop hop ≡ []
no_layings pair None = refl
no_layings pair (Some hop) = rw (to_itself hop, same_level hop) refl

-- one hop takes at most one Lay, and a pair at most two
at_most_one : (pair : Pair) (on : Bool) (hop : Option Hop) → length (laying_at pair on hop) ≤ 1
at_most_one pair on None = omega arith
at_most_one pair on (Some hop) = omega arith

pub at_most_two : (pair : Pair) (laid wanted : Option Hop) → length (layings pair laid wanted) ≤ 2
at_most_two pair laid wanted =
    let off = laying_at pair false (told_off laid wanted) in
    let on = laying_at pair true (told_on laid wanted) in
    omega (arith, length-append off on, at_most_one pair false (told_off laid wanted), at_most_one pair true (told_on laid wanted))

module _ (t : TableValue) where
  -- a pair that is neither held nor laid takes no Lay
  pub none_if_unknown : (e : Pair × PairState) → is_held_or_laid e.1 ≡ false → layings e.0 e.1.laid (wanted_hop t e) ≡ []
  none_if_unknown e apart =
      let parts = or_parts (is_held e.1) (is_some e.1.laid) apart in
      let wanted : wanted_hop t e ≡ None = ap (hop_from t e.0.object) (no_level e.1 parts.0) in
      rw wanted (not_laid e.1.laid parts.1)
    where
      not_laid : (laid : Option Hop) → is_some laid ≡ false → layings e.0 laid None ≡ []
      not_laid None is = refl
      not_laid (Some hop) is = let wrong : true ≡ false = is in absurd (cc)

  -- a pair takes at most two Lays, and none if it is neither held nor laid
  pub few_here : (e : Pair × PairState) (rest : List (Pair × PairState))
      → length (layings e.0 e.1.laid (wanted_hop t e)) + 2 * held_or_laid_count rest ≤ 2 * held_or_laid_count (e ∷ rest)
  few_here e rest =
      elim (cases_Bool (is_held_or_laid e.1)) [
        | inl known ↦
            let more : held_or_laid_count (e ∷ rest) ≡ 1 + held_or_laid_count rest = rw known (omega arith) in
            omega (arith, more, at_most_two e.0 e.1.laid (wanted_hop t e))
        | inr unknown ↦
            let same : held_or_laid_count (e ∷ rest) ≡ held_or_laid_count rest = rw unknown refl in
            let none : length (layings e.0 e.1.laid (wanted_hop t e)) ≡ 0 = ap length (none_if_unknown e unknown) in
            omega (arith, same, none)
      ]

  -- all pairs take at most two Lays for each that is held or laid
  pub few_layings : (pairs : List (Pair × PairState)) → length (layings_to_wanted t pairs) ≤ 2 * held_or_laid_count pairs
  few_layings [] = omega arith
  few_layings (e ∷ pairs) =
      let both = length-append (layings e.0 e.1.laid (wanted_hop t e)) (layings_to_wanted t pairs) in
      omega (arith, both, few_here e pairs, few_layings pairs)

  -- where a pair is wanted doesn't depend on where it is laid: reconciled, each is laid as wanted
  pub all_laid : (pairs : List (Pair × PairState)) → All (λ e. e.1.laid ≡ wanted_hop t e) (map (with_wanted t) pairs)
  all_laid [] = All-nil (λ e. e.1.laid ≡ wanted_hop t e)
  all_laid (e ∷ pairs) =
      All-cons (λ e. e.1.laid ≡ wanted_hop t e) (with_wanted t e) (map (with_wanted t) pairs) refl (all_laid pairs)

  -- pairs that are laid as wanted take no Lay, and stay as they are
  pub laid_already : (e : Pair × PairState) → e.1.laid ≡ wanted_hop t e → layings e.0 e.1.laid (wanted_hop t e) ≡ []
  laid_already e laid = rw laid (no_layings e.0 (wanted_hop t e))

  pub stays : (e : Pair × PairState) → e.1.laid ≡ wanted_hop t e → with_wanted t e ≡ e
  stays e laid = ap (λ hop. (e.0, with_laid e.1 hop)) (sym laid)

  pub none_if_laid : (pairs : List (Pair × PairState)) → All (λ e. e.1.laid ≡ wanted_hop t e) pairs
      → (layings_to_wanted t pairs ≡ []) × (map (with_wanted t) pairs ≡ pairs)
  none_if_laid [] all = (refl, refl)
  none_if_laid (e ∷ pairs) all =
      let laid : e.1.laid ≡ wanted_hop t e = All-head (λ e. e.1.laid ≡ wanted_hop t e) e pairs all in
      let rest = none_if_laid pairs (All-tail (λ e. e.1.laid ≡ wanted_hop t e) e pairs all) in (
        rw (laid_already e laid) rest.0,
        ap (λ first. first ∷ map (with_wanted t) pairs) (stays e laid) ∙ ap (λ more. e ∷ more) rest.1,
      )

-- a pair takes at most one Lay to be laid nowhere, and none if it isn't laid
pub few_to_none_here : (e : Pair × PairState) (rest : List (Pair × PairState))
    → length (layings e.0 e.1.laid None) + held_or_laid_count rest ≤ held_or_laid_count (e ∷ rest)
few_to_none_here e rest = by_laid e.1.laid refl
  where
    known : (hop : Hop) → e.1.laid ≡ Some hop → is_held_or_laid e.1 ≡ true
    known hop is = or_right (is_held e.1) (is_some e.1.laid) (ap is_some is)

    at_least : (known : Bool) → is_held_or_laid e.1 ≡ known → held_or_laid_count rest ≤ held_or_laid_count (e ∷ rest)
    at_least true is = rw is (omega arith)
    at_least false is = rw is (omega arith)

    by_laid : (laid : Option Hop) → e.1.laid ≡ laid
        → length (layings e.0 e.1.laid None) + held_or_laid_count rest ≤ held_or_laid_count (e ∷ rest)
    by_laid None is =
        let none : length (layings e.0 e.1.laid None) ≡ 0 = rw is refl in
        omega (arith, none, at_least (is_held_or_laid e.1) refl)
    by_laid (Some hop) is =
        let one : length (layings e.0 e.1.laid None) ≡ 1 = rw is refl in
        let more : held_or_laid_count (e ∷ rest) ≡ 1 + held_or_laid_count rest = rw (known hop is) (omega arith) in
        omega (arith, one, more)

-- the Lays of one pair, and then those of the others
pub numbered_step : (lays all : List Lay) (last : ℕ) (here later : List Laying) → lays ++ lays_numbered last (here ++ later) ≡ all
    → (lays ++ lays_numbered last here) ++ lays_numbered (last + length here) later ≡ all
numbered_step lays all last here later is =
    append_assoc lays (lays_numbered last here) (lays_numbered (last + length here) later)
    ∙ ap (λ more. lays ++ more) (sym (lays_numbered-append last here later)) ∙ is

pub length_step : (lays : List Lay) (first last : ℕ) (here : List Laying) → last ≡ first + length lays
    → last + length here ≡ first + length (lays ++ lays_numbered last here)
length_step lays first last here is =
    omega (arith, is, length-append lays (lays_numbered last here), length-lays_numbered last here)

-- Some of the Lays are there, and those of one pair are next. `all` are those of all pairs.
module _ (lays : List Lay) (first last : ℕ) (here later all : List Laying)
    (is : lays ++ lays_numbered last (here ++ later) ≡ lays_numbered first all) (stamped : last ≡ first + length lays) where
  how_many : length lays + (length here + length later) ≡ length all
  how_many =
      let whole = ap length is in
      let parts = length-append lays (lays_numbered last (here ++ later)) in
      let left = length-lays_numbered last (here ++ later) in
      omega (arith, whole, parts, left, length-append here later, length-lays_numbered first all)

  -- so the numbers given by then, and of those for this pair some more, are at most as many as all
  pub given_on_the_way : (next : ℕ) → HasGivenAtMost (length here) last next → HasGivenAtMost (length all) first next
  given_on_the_way next given =
      record { forward = omega (arith, given.forward, stamped); few = omega (arith, given.few, stamped, how_many) }

  -- and there are none of this pair if there are none at all
  pub none_on_the_way : all ≡ [] → here ≡ []
  none_on_the_way none = let few : length all ≡ 0 = ap length none in nil_from_length here (omega (arith, few, how_many))
