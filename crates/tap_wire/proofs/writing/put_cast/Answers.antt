use Rattle.tap_wire.proofs.Appending.{both}
use Rattle.tap_wire.proofs.writing.put_cast.Goals as goal

pub returns : goal.returns
returns c = both _ _ _ _ _ _ _ _ (both _ _ _ _ _ _ _ _ (both _ _ _ _ _ _ _ _ (both _ _ _ _ _ _ _ _ c.put_u32-at.ensures c.put_byte-at.ensures)
    c.put_u32-at-2.ensures) c.put_u16-at.ensures) c.put_bytes.ensures
