use Rattle.std.proofs.Common.{sym, subst}
use Rattle.tap_engine.specs.declared.damage.Damage.TheVariants.{Byte, Cut}
use Rattle.tap_engine.specs.Working.{CopiesAt}
use Rattle.tap_engine.proofs.Damaging.{cut_copies, garble_copies}
use Rattle.tap_engine.proofs.damages.damage_of.Goals as goal

pub returns-in-Garble : goal.returns-in-Garble
returns-in-Garble c =
    let copy = c.in-Garble in
    subst (λ s. CopiesAt s (copy.place, Byte copy.at copy.byte)) (sym copy.is) (garble_copies copy.place copy.at copy.byte)

pub returns-in-Cut : goal.returns-in-Cut
returns-in-Cut c =
    let copy = c.in-Cut in
    subst (λ s. CopiesAt s (copy.place, Cut copy.bytes)) (sym copy.is) (cut_copies copy.place copy.bytes)
