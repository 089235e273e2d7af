use Rattle.std.proofs.Common.{arith, ap, length, length-take-le}
use Rattle.tap_name.specs.Packed.{halves}
use Rattle.tap_name.proofs.Packed.{even_digit, odd_digit}
use Rattle.tap_name.proofs.name.Name.digit.Goals as goal

pub returns-then-at-eq0-clause-value : goal.returns-then-at-eq0-clause-value
returns-then-at-eq0-clause-value c =
    let bytes = c.self.inside.pairs in
    let len = c.self.inside.len in
    let most = length-take-le len (halves bytes) (omega (arith, c.self.invariant.fits, c.self.invariant.all)) in
    let here = ap length c.self.view_is in
    rw (← c.self.view_is) (even_digit bytes len c.args.at c.self.invariant
    (omega (arith, most, here, c.self.invariant.fits, c.requires)) (omega (arith, c.if-at-eq0.true)))

pub returns-else-at-eq0-clause-value : goal.returns-else-at-eq0-clause-value
returns-else-at-eq0-clause-value c =
    let bytes = c.self.inside.pairs in
    let len = c.self.inside.len in
    let most = length-take-le len (halves bytes) (omega (arith, c.self.invariant.fits, c.self.invariant.all)) in
    let here = ap length c.self.view_is in
    rw (← c.self.view_is) (odd_digit bytes len c.args.at c.self.invariant
    (omega (arith, most, here, c.self.invariant.fits, c.requires)) (omega (arith, c.if-at-eq0.false)))
