-- The room for the roots that a step asks for.
use Rattle.std.proofs.Common.{◌≡◌, ℕ, ◌+◌, ◌≤◌, Bool, true, false, Option, sym, ◌∙◌, arith}
use Rattle.std.specs.Prelude.{◌&&◌, nat_le}
use Rattle.std.proofs.lemmas.Bool.{le-leb, leb-true}
use Rattle.tap_log.specs.declared.record.Record.{Record}
use Rattle.tap_engine.specs.KeptEngine.{room_kept}
use Rattle.tap_engine.proofs.Keeping.{room_two}

-- there is room beside what is always kept
pub has_three : (tells : Bool) (spare : ℕ) (has : Bool) → has ≡ (tells && nat_le 3 spare) → has ≡ true → 3 ≤ spare
has_three true spare has is so = leb-true 3 spare (sym is ∙ so)
has_three false spare has is so = absurd (let never : false ≡ true = sym is ∙ so in cc)

-- and if there isn't, no roots are told, or the room is less
pub lacks_three : (tells : Bool) (spare : ℕ) (has : Bool) → has ≡ (tells && nat_le 3 spare) → has ≡ false → tells ≡ true → 3 ≤ spare → ⊥
lacks_three true spare has is so told three = let never : true ≡ false = sym (le-leb 3 spare three) ∙ sym is ∙ so in cc
lacks_three false spare has is so told three = cc

-- the roots leave the room that is always kept
pub leaves_room : (last : Option Record) (old new : ℕ) → 3 ≤ old → new + 1 ≡ old → room_kept last ≤ new
leaves_room last old new three less = let two = room_two last in omega (arith, two, three, less)
