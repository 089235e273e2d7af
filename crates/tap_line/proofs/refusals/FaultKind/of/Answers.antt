use Rattle.std.proofs.Common.{rules, arith, ◌≡◌, length, codes, refl}
use Rattle.tap_scenario.proofs.Bytes.{same_bytes}
use Rattle.tap_line.proofs.refusals.FaultKind.of.Goals as goal

pub returns-in-trailing : goal.returns-in-trailing
returns-in-trailing c =
    let len : length c.args.word.now ≡ 8 = omega (arith, c.in-trailing.len_at_least, c.in-trailing.len_below) in
    rw (same_bytes c.args.word.now (codes "trailing") len (search rules)) refl
