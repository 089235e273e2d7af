-- a walk enters its nodes in turn
-- Cited above: entered_begins, entered_law_holds
use Rattle.std.proofs.Common.{◌≡◌, inl, inr, ℕ, ◌+◌, ◌≤◌, zero, suc, List, [], ◌∷◌, length, map, get_or, Option, None, Some, All, arith, ap, sym, refl, ◌∙◌, eqb}
use Rattle.std.specs.List.{AllAdjacentBelow}
use Rattle.std.proofs.lemmas.Bool.{cases_Bool}
use Rattle.std.proofs.lemmas.List.Elements.{All-cons, All-nil}
use Rattle.tap_name.specs.declared.slot.Slot.{Slot}
use Rattle.tap_name.specs.Prefix.{lcp}
use Rattle.tap_name.specs.Settings.{SettingsValue}
use Rattle.tap_name.specs.Root.{Among}
use Rattle.tap_surrogate.specs.Tables.{Tables, least_link}
use Rattle.tap_surrogate.specs.HoleFree.{IsHoleFree}
use Rattle.tap_surrogate.specs.Walk.{hop, walk_on, walked_digit}
use Rattle.tap_surrogate.specs.Entered.{Entered, IsEnteredAfter, entered_on}
use Rattle.tap_surrogate.specs.WalkLaws.{EnteredLaw}
use Rattle.tap_surrogate.proofs.Least.{first_among, place_where_it_fits}
use Rattle.tap_surrogate.proofs.Paths.{walk_on-hops, walk_on-stays}

-- the rest of a walk that stays for a level
pub entered_on-stays : (base : ℕ) (tables : Tables) (at : Entered) (level wanted : ℕ) (more : List ℕ)
    → hop base tables at.node level wanted ≡ None
    → entered_on base tables at level (wanted ∷ more) ≡ entered_on base tables at (level + 1) more
entered_on-stays base tables at level wanted more is = rw is refl

-- the rest of a walk that hops
pub entered_on-hops : (base : ℕ) (tables : Tables) (at : Entered) (level wanted : ℕ) (more to : List ℕ)
    → hop base tables at.node level wanted ≡ Some to
    → entered_on base tables at level (wanted ∷ more)
    ≡ at ∷ entered_on base tables (record { node = to; level = level + 1 }) (level + 1) more
entered_on-hops base tables at level wanted more to is = rw is refl

-- its nodes are those of the path
pub entered_on-nodes : (base : ℕ) (tables : Tables) (at : Entered) (level : ℕ) (digits : List ℕ)
    → map (λ e. e.node) (entered_on base tables at level digits) ≡ walk_on base tables at.node level digits
entered_on-nodes base tables at level [] = refl
entered_on-nodes base tables at level (wanted ∷ more) =
    by_hop (hop base tables at.node level wanted) refl (λ next. entered_on-nodes base tables next (level + 1) more)
  where
    by_hop : (to : Option (List ℕ)) → hop base tables at.node level wanted ≡ to
        → ((next : Entered)
        → map (λ e. e.node) (entered_on base tables next (level + 1) more) ≡ walk_on base tables next.node (level + 1) more)
        → map (λ e. e.node) (entered_on base tables at level (wanted ∷ more)) ≡ walk_on base tables at.node level (wanted ∷ more)
    by_hop None is later =
        ap (map (λ (e : Entered). e.node)) (entered_on-stays base tables at level wanted more is)
        ∙ later at ∙ sym (walk_on-stays base tables at.node level wanted more is)
    by_hop (Some to) is later =
        ap (map (λ (e : Entered). e.node)) (entered_on-hops base tables at level wanted more to is)
        ∙ ap (λ l. at.node ∷ l) (later (record { node = to; level = level + 1 }))
        ∙ sym (walk_on-hops base tables at.node level wanted more to is)

-- a hop leads to a core node that shares as many digits as the level says
record IsHopTarget (core : List (List ℕ)) (node : List ℕ) (level : ℕ) (to : List ℕ) : Type 0 where
  among : Among to core
  shares : lcp node to ≡ level

hop_target : (p : SettingsValue) (core : List (List ℕ)) (tables : Tables) → IsHoleFree p core tables → (node : List ℕ) (level wanted : ℕ)
    (to : List ℕ) → Among node core → hop p.base tables node level wanted ≡ Some to → IsHopTarget core node level to
unfolding lcp
hop_target p core tables free node level wanted to here is =
    let digit = walked_digit p.base tables node level wanted in
    let slot : Slot = record { level = level; digit = digit } in
    elim (cases_Bool (eqb (get_or node level 0) digit)) [
      | inl own ↦ let wrong : None ≡ Some to = rw own at is in cc
      | inr other ↦
          let link : least_link tables node level digit ≡ Some to = rw other at is in
          let sound = free.sound node to slot here (first_among (tables node slot) to link) in
          record { among = sound.1; shares = ap (λ (s : Slot). s.level) (place_where_it_fits node to slot sound.0) }
    ]

-- the first node is the one from which it goes on
pub entered_begins : (base : ℕ) (tables : Tables) (at : Entered) (level : ℕ) (digits : List ℕ)
    → (rest : List Entered) × (entered_on base tables at level digits ≡ at ∷ rest)
entered_begins base tables at level [] = ([], refl)
entered_begins base tables at level (wanted ∷ more) =
    by_hop (hop base tables at.node level wanted) refl (entered_begins base tables at (level + 1) more)
  where
    by_hop : (to : Option (List ℕ)) → hop base tables at.node level wanted ≡ to
        → (rest : List Entered) × (entered_on base tables at (level + 1) more ≡ at ∷ rest)
        → (rest : List Entered) × (entered_on base tables at level (wanted ∷ more) ≡ at ∷ rest)
    by_hop None is later = (later.0, entered_on-stays base tables at level wanted more is ∙ later.1)
    by_hop (Some to) is later = (_, entered_on-hops base tables at level wanted more to is)

-- these nodes are entered in turn, at no level above the most
record IsTurn (most : ℕ) (entered : List Entered) : Type 0 where
  in_turn : AllAdjacentBelow IsEnteredAfter entered (length entered)
  levels : All (λ e. e.level ≤ most) entered

adjacent-cons : (a b : Entered) (rest : List Entered) → IsEnteredAfter a b
    → AllAdjacentBelow IsEnteredAfter (b ∷ rest) (length (b ∷ rest))
    → AllAdjacentBelow IsEnteredAfter (a ∷ b ∷ rest) (length (a ∷ b ∷ rest))
adjacent-cons a b rest first later zero d h = first
adjacent-cons a b rest first later (suc k) d h =
    let next : suc k + 1 ≡ suc (k + 1) = omega arith in
    rw next (later k d (omega arith))

turn-cons : (at next : Entered) (most : ℕ) (rest later : List Entered) → IsEnteredAfter at next → at.level ≤ most
    → later ≡ next ∷ rest → IsTurn most later → IsTurn most (at ∷ later)
turn-cons at next most rest later after within begins turn =
    record {
      in_turn = rw begins (adjacent-cons at next rest after (rw begins at turn.in_turn));
      levels = All-cons (λ (e : Entered). e.level ≤ most) at later within turn.levels;
    }

turns : (p : SettingsValue) (core : List (List ℕ)) (tables : Tables) → IsHoleFree p core tables → (at : Entered) (level : ℕ)
    (digits : List ℕ) → Among at.node core → at.level ≤ level → level + length digits ≤ p.digits
    → IsTurn p.digits (entered_on p.base tables at level digits)
turns p core tables free at level [] here before within =
    record {
      in_turn = λ k d h. absurd (omega arith);
      levels = All-cons (λ (e : Entered). e.level ≤ p.digits) at [] (omega arith) (All-nil (λ (e : Entered). e.level ≤ p.digits));
    }
turns p core tables free at level (wanted ∷ more) here before within =
    by_hop (hop p.base tables at.node level wanted) refl
    (λ next among low. turns p core tables free next (level + 1) more among low (omega arith))
  where
    by_hop : (to : Option (List ℕ)) → hop p.base tables at.node level wanted ≡ to
        → ((next : Entered) → Among next.node core → next.level ≤ level + 1
        → IsTurn p.digits (entered_on p.base tables next (level + 1) more))
        → IsTurn p.digits (entered_on p.base tables at level (wanted ∷ more))
    by_hop None is later = rw (entered_on-stays p.base tables at level wanted more is) (later at here (omega arith))
    by_hop (Some to) is later =
        let next : Entered = record { node = to; level = level + 1 } in
        let hops = hop_target p core tables free at.node level wanted to here is in
        let begins = entered_begins p.base tables next (level + 1) more in
        let after : IsEnteredAfter at next = record { rises = omega arith; shares = omega (arith, hops.shares) } in
        rw (entered_on-hops p.base tables at level wanted more to is)
        (turn-cons at next p.digits begins.0 _ after (omega arith) begins.1 (later next hops.among (omega arith)))

pub entered_law_holds : EnteredLaw
entered_law_holds p core tables free node object among name =
    let start : Entered = record { node = node; level = 0 } in
    let turn = turns p core tables free start 0 object among (omega arith) (omega (arith, name.len)) in
    record {
      nodes = entered_on-nodes p.base tables start 0 object;
      in_turn = turn.in_turn;
      levels = turn.levels;
    }
