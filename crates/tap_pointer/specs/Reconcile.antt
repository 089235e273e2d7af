-- Where each pair is to be laid on to, and the Lays that this takes.
use Rattle.std.specs.Prelude.{◌≡◌, ℕ, ◌+◌, ◌<◌, nat_eq, nat_lt, ◌&&◌, ◌==◌, not, Bool, true, false, if◌then◌else◌, List, [], ◌∷◌, ◌++◌, length, map, drop, slice_index, All, Option, None, Some, IfSome}
use Rattle.std.specs.BTreeMap.{is_at}
use Rattle.std.specs.Cmp.Lexicographic.{pointwise}
use Rattle.std.specs.List.{flat_map}
use Rattle.tap_name.specs.Name.{IsName}
use Rattle.tap_name.specs.Settings.{SettingsValue}
use Rattle.tap_table.specs.declared.next.Next.{Next}
use Rattle.tap_table.specs.declared.next.Next.TheVariants.{Root, Hop as HopTo}
use Rattle.tap_table.specs.Next.{next_from}
use Rattle.tap_table.specs.Table.{TableValue}
use Rattle.tap_pointer.specs.declared.hop.Hop.{Hop}
use Rattle.tap_pointer.specs.declared.lay.Lay.{Lay}
use Rattle.tap_pointer.specs.declared.laying.Laying.{Laying}
use Rattle.tap_pointer.specs.declared.pair.Pair.{Pair}
use Rattle.tap_pointer.specs.declared.state.PairState.{PairState}
use Rattle.tap_pointer.specs.declared.state.Pointer.{Pointer}
use Rattle.tap_pointer.specs.declared.way.Turn.{Turn}
use Rattle.tap_pointer.specs.declared.way.Way.{Way}
use Rattle.tap_pointer.specs.Pair.{pair_cmp}
use Rattle.tap_pointer.specs.Pointers.{PointersValue, is_held_or_laid, level_held, pair_of, with_laid, with_lay}

-- the hop of a next hop; the root has none
abbrev pub hop_of : Next → Option Hop
hop_of Root = None
hop_of (HopTo to level) = Some (record { to = to; level = level })

-- where an object is to be laid on to that is held at a level, or isn't held
abbrev pub hop_from : TableValue → List ℕ → Option ℕ → Option Hop
hop_from t object None = None
hop_from t object (Some level) = hop_of (next_from t level (drop level object))

-- where a pair is to be laid on to: at the next hop from the level at which it is held
abbrev pub wanted_hop : TableValue → Pair × PairState → Option Hop
wanted_hop t (pair, state) = hop_from t pair.object (level_held state)

-- whether two hops are to one node, and whether they are the same
abbrev pub is_to : Hop → Hop → Bool
is_to a b = pointwise nat_eq a.to b.to

abbrev pub is_same_hop : Hop → Hop → Bool
is_same_hop a b = is_to a b && a.level == b.level

-- the hop that is told off: the laid one, if another node is wanted or none
abbrev pub told_off : Option Hop → Option Hop → Option Hop
told_off None wanted = None
told_off (Some laid) None = Some laid
told_off (Some laid) (Some wanted) = if is_to laid wanted then None else Some laid

-- the hop that is told on: the wanted one, if it isn't laid yet
abbrev pub told_on : Option Hop → Option Hop → Option Hop
told_on laid None = None
told_on None (Some wanted) = Some wanted
told_on (Some laid) (Some wanted) = if is_same_hop laid wanted then None else Some wanted

-- the Lay for a hop, if there is one
abbrev pub laying_at : Pair → Bool → Option Hop → List Laying
laying_at pair on None = []
laying_at pair on (Some hop) = record { pair = pair; hop = hop; on = on } ∷ []

-- what one pair takes to be laid as wanted: the hop that is told off, then the one that is told on
abbrev pub layings : Pair → Option Hop → Option Hop → List Laying
layings pair laid wanted = laying_at pair false (told_off laid wanted) ++ laying_at pair true (told_on laid wanted)

-- a Lay with this number
abbrev pub lay_numbered : ℕ → Laying → Lay
lay_numbered version l = record {
  to = l.hop.to;
  object = l.pair.object;
  server = l.pair.server;
  level = l.hop.level;
  version = version;
  on = l.on;
}

-- these Lays, with the numbers after this one
abbrev pub lays_numbered : ℕ → List Laying → List Lay
lays_numbered last [] = []
lays_numbered last (laying ∷ others) = lay_numbered (last + 1) laying ∷ lays_numbered (last + 1) others

-- what all pairs take, in their order, to be laid as wanted, and to be laid nowhere
abbrev pub layings_to_wanted : TableValue → List (Pair × PairState) → List Laying
layings_to_wanted t pairs = flat_map (λ e. layings e.0 e.1.laid (wanted_hop t e)) pairs

abbrev pub layings_to_none : List (Pair × PairState) → List Laying
layings_to_none pairs = flat_map (λ e. layings e.0 e.1.laid None) pairs

-- a pair laid as wanted
abbrev pub with_wanted : TableValue → Pair × PairState → Pair × PairState
with_wanted t e = (e.0, with_laid e.1 (wanted_hop t e))

-- where a Lay tells that its pair is laid: at its receiver, or nowhere
abbrev pub hop_told : Lay → Option Hop
hop_told lay = if lay.on then Some (record { to = lay.to; level = lay.level }) else None

-- the pairs once that of a Lay is laid as this tells, if it is among them, and once those of these Lays are, in their order
abbrev pub laid_by : List (Pair × PairState) → Lay → List (Pair × PairState)
laid_by [] lay = []
laid_by (e ∷ pairs) lay =
    if is_at (pair_cmp (pair_of lay.object lay.server)) e.0
    then (e.0, with_laid e.1 (hop_told lay)) ∷ pairs
    else e ∷ laid_by pairs lay

abbrev pub laid_by_all : List (Pair × PairState) → List Lay → List (Pair × PairState)
laid_by_all pairs [] = pairs
laid_by_all pairs (lay ∷ lays) = laid_by_all (laid_by pairs lay) lays

-- what is known of a pair once a Lay of it from a sender is taken, and it is then laid as wanted
abbrev pub relaid : TableValue → Pair → PairState → List ℕ → ℕ → Pointer → PairState
relaid t pair state from version pointer =
    let taken = with_lay state from version pointer in with_laid taken (wanted_hop t (pair, taken))

-- Reconciling: the Lays, with the numbers after this one, and the pointers afterwards.
abbrev pub reconcile_lays : TableValue → ℕ → PointersValue → List Lay
reconcile_lays t last p = lays_numbered last (layings_to_wanted t p.pairs)

abbrev pub reconciled : TableValue → PointersValue → PointersValue
reconciled t p = record p { pairs = map (with_wanted t) p.pairs }

-- Clearing: the Lays, with the numbers after this one, and the pointers afterwards.
abbrev pub clear_lays : ℕ → PointersValue → List Lay
clear_lays last p = lays_numbered last (layings_to_none p.pairs)

abbrev pub cleared : PointersValue → PointersValue
cleared p = record p { pairs = [] }

-- each pair is laid as wanted
abbrev pub AreLaid : TableValue → PointersValue → Type 0
AreLaid t p = All (λ e. e.1.laid ≡ wanted_hop t e) p.pairs

-- each pair but this one is
abbrev pub AreLaidBut : TableValue → Pair → PointersValue → Type 0
AreLaidBut t pair p = All (λ e. is_at (pair_cmp pair) e.0 ≡ false → e.1.laid ≡ wanted_hop t e) p.pairs

-- held at this level or a lower one
abbrev pub is_held_to : ℕ → Option ℕ → Bool
is_held_to level None = false
is_held_to level (Some held) = nat_lt held (level + 1)

-- laid on for a digit before the one at this level, so that the hop's own level is this one or a lower one
abbrev pub turns_off : ℕ → Option Hop → Bool
turns_off level None = false
turns_off level (Some hop) = nat_lt hop.level (level + 1)

-- the object has the owner's own digit at the level
abbrev pub has_own_digit : List ℕ → ℕ → List ℕ → Bool
has_own_digit owner level object = slice_index object level == slice_index owner level

-- The way of a pair passes a level if the pair is held at this level or a lower one, and isn't laid on before the digit at this level. If its
-- object has the owner's own digit there, this digit is taken whatever the primaries are, and the pair doesn't count.
abbrev pub passes : List ℕ → ℕ → Pair × PairState → Bool
passes owner level (pair, state) =
    is_held_to level (level_held state) && not (turns_off level state.laid) && not (has_own_digit owner level pair.object)

-- each pair but those whose way passes a level is laid as wanted
abbrev pub AreLaidBeside : TableValue → ℕ → PointersValue → Type 0
AreLaidBeside t level p = All (λ e. passes t.owner level e ≡ false → e.1.laid ≡ wanted_hop t e) p.pairs

-- objects turn off to a hop: each that is held at a level and has a digit there is to be laid on to it
abbrev pub TurnsTo : TableValue → Option Hop → Turn → Type 0
TurnsTo t hop turn =
    (object : List ℕ) → turn.level < length object → slice_index object turn.level ≡ turn.digit → hop ≡ hop_from t object (Some turn.level)

-- a way: the objects that turn off so go to its hop
abbrev pub IsWay : TableValue → Way → Type 0
IsWay t way = IfSome way.turn (TurnsTo t way.hop)

-- the pairs that may be laid elsewhere than wanted: all of them, or those whose way passes a level
abbrev pub may_be_apart : List ℕ → Option ℕ → Pair × PairState → Bool
may_be_apart owner None e = true
may_be_apart owner (Some level) e = passes owner level e

abbrev pub AreLaidUnlessApart : TableValue → Option ℕ → List (Pair × PairState) → Type 0
AreLaidUnlessApart t level pairs = All (λ e. may_be_apart t.owner level e ≡ false → e.1.laid ≡ wanted_hop t e) pairs

-- the object of each pair that is held or laid is a name of the settings
abbrev pub AreNamesHeld : SettingsValue → PointersValue → Type 0
AreNamesHeld p pointers = All (λ e. is_held_or_laid e.1 ≡ true → IsName p e.0.object) pointers.pairs
