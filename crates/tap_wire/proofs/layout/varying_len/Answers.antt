use Rattle.std.proofs.Common.{arith, ap}
use Rattle.tap_wire.specs.Layout.{varying_len}
use Rattle.tap_wire.proofs.Lengths.{short_enough}
use Rattle.tap_wire.proofs.layout.varying_len.Goals as goal

pub overflow_mul-result : goal.overflow_mul-result
overflow_mul-result c =
    omega (
      arith,
      short_enough c.args.settings.now c.args.body.now c.requires.valid c.requires.fields,
      ap (varying_len c.args.settings.now) c.in-Tell.is,
      c.len.ensures,
    )

pub returns-in-Tell-clause-most : goal.returns-in-Tell-clause-most
returns-in-Tell-clause-most c =
    omega (
      arith,
      short_enough c.args.settings.now c.args.body.now c.requires.valid c.requires.fields,
      ap (varying_len c.args.settings.now) c.in-Tell.is,
      c.len.ensures,
    )
