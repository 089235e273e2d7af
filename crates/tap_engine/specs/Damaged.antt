-- The damaged copy of the bytes of a frame.
use Rattle.std.specs.Prelude.{ℕ, List, take, slice_set}
use Rattle.tap_engine.specs.declared.damage.Damage.{Damage}
use Rattle.tap_engine.specs.declared.damage.Damage.TheVariants.{Byte, Cut}

-- one byte is another, or only so many first bytes are there
abbrev pub copy_damaged : List ℕ → Damage → List ℕ
copy_damaged bytes (Byte at byte) = slice_set bytes at byte
copy_damaged bytes (Cut count) = take count bytes
