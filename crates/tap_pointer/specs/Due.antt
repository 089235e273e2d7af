-- Which Lays are due: as a relation between a Lay, where its pair is laid, and where it is wanted.
use Rattle.std.specs.Prelude.{◌≡◌, Bool, true, false, Option, Some}
use Rattle.tap_table.specs.Table.{TableValue}
use Rattle.tap_pointer.specs.declared.hop.Hop.{Hop}
use Rattle.tap_pointer.specs.declared.lay.Lay.{Lay}
use Rattle.tap_pointer.specs.declared.pair.Pair.{Pair}
use Rattle.tap_pointer.specs.Pointers.{PointersValue, pair_of, state_of}
use Rattle.tap_pointer.specs.Reconcile.{told_off, told_on, wanted_hop}

-- where a pair is laid on to, and where it is to be
abbrev pub laid_at : PointersValue → Pair → Option Hop
laid_at p pair = (state_of p pair).laid

abbrev pub wanted_at : TableValue → PointersValue → Pair → Option Hop
wanted_at t p pair = wanted_hop t (pair, state_of p pair)

-- the hop that is due a Lay that is on, or one that is off
abbrev pub hop_due : Bool → Option Hop → Option Hop → Option Hop
hop_due true laid wanted = told_on laid wanted
hop_due false laid wanted = told_off laid wanted

-- the pair of a Lay, and the hop to which it is sent
abbrev pub pair_of_lay : Lay → Pair
pair_of_lay lay = pair_of lay.object lay.server

abbrev pub hop_of_lay : Lay → Hop
hop_of_lay lay = record { to = lay.to; level = lay.level }

-- a Lay is due, if pairs are laid and wanted so: it goes to where its pair is laid no more, or isn't laid yet
abbrev pub IsDue : (Pair → Option Hop) → (Pair → Option Hop) → Lay → Type 0
IsDue laid wanted lay = hop_due lay.on (laid (pair_of_lay lay)) (wanted (pair_of_lay lay)) ≡ Some (hop_of_lay lay)
