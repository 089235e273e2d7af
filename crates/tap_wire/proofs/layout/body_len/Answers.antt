use Rattle.std.proofs.Common.{arith, ap}
use Rattle.tap_wire.specs.Layout.{fixed_len}
use Rattle.tap_wire.proofs.Lengths.{length-body, short_enough}
use Rattle.tap_wire.proofs.layout.body_len.Goals as goal

pub overflow_add-result : goal.overflow_add-result
overflow_add-result c =
    let p = c.args.settings.now in
    omega (
      arith,
      short_enough p c.args.body.now c.fixed_len.ensures.valid c.requires,
      c.fixed_len.ensures.value,
      ap (fixed_len p) c.of.ensures,
      c.varying_len.ensures.value,
    )

pub returns-clause-bytes : goal.returns-clause-bytes
returns-clause-bytes c =
    let p = c.args.settings.now in
    omega (
      arith,
      length-body p c.args.body.now c.requires,
      c.fixed_len.ensures.value,
      ap (fixed_len p) c.of.ensures,
      c.varying_len.ensures.value,
    )

pub returns-clause-most : goal.returns-clause-most
returns-clause-most c =
    let p = c.args.settings.now in
    omega (
      arith,
      short_enough p c.args.body.now c.fixed_len.ensures.valid c.requires,
      c.fixed_len.ensures.value,
      ap (fixed_len p) c.of.ensures,
      c.varying_len.ensures.value,
    )
