-- Bodies of one kind: a Seek, a Tell, a Lay, a Find and a Cast.
--
-- Rule: docs/FORMATS.md, "Frames".
use Rattle.tap_wire.specs.declared.frame.Body.{Body}
use Rattle.tap_wire.specs.declared.frame.Body.TheVariants.{Seek, Tell, Lay, Find, Cast}

abbrev pub IsSeekBody : Body → Type 0
IsSeekBody (Seek joiner) = Unit {0}
IsSeekBody other = ⊥

abbrev pub IsTellBody : Body → Type 0
IsTellBody (Tell joiner prefix level session depth watch) = Unit {0}
IsTellBody other = ⊥

abbrev pub IsLayBody : Body → Type 0
IsLayBody (Lay object server level version on) = Unit {0}
IsLayBody other = ⊥

abbrev pub IsFindBody : Body → Type 0
IsFindBody (Find ticket object asker level) = Unit {0}
IsFindBody other = ⊥

abbrev pub IsCastBody : Body → Type 0
IsCastBody (Cast cast level session depth word) = Unit {0}
IsCastBody other = ⊥
