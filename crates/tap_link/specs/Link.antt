-- What a link of a set holds, seen as an entry.
use Rattle.std.specs.Prelude.{if◌then◌else◌}
use Rattle.tap_link.specs.declared.link.Held.{Held}
use Rattle.tap_link.specs.declared.link.Held.TheVariants.{Pin, Settled}
use Rattle.tap_link.specs.declared.kind.Kind.TheVariants.{Pin as PinKind, Settled as SettledKind, Leaving as LeavingKind}
use Rattle.tap_link.specs.Entry.{LinkEntry}

abbrev pub entry_held : {K : Type 0} → Held K → LinkEntry K
entry_held (Pin p) = record { target = p; kind = PinKind }
entry_held (Settled s) = record { target = s.target; kind = if s.leaving then LeavingKind else SettledKind }
