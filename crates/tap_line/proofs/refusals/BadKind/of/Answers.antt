use Rattle.std.proofs.Common.{rules, arith, ◌≡◌, length, codes, refl}
use Rattle.tap_scenario.proofs.Bytes.{same_bytes}
use Rattle.tap_line.proofs.refusals.BadKind.of.Goals as goal

pub returns-in-version : goal.returns-in-version
returns-in-version c =
    let len : length c.args.word.now ≡ 7 = omega (arith, c.in-version.len_at_least, c.in-version.len_below) in
    rw (same_bytes c.args.word.now (codes "version") len (search rules)) refl

pub returns-in-length : goal.returns-in-length
returns-in-length c =
    let len : length c.args.word.now ≡ 6 = omega (arith, c.in-length.len_at_least, c.in-length.len_below) in
    rw (same_bytes c.args.word.now (codes "length") len (search rules)) refl
