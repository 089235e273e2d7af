use Rattle.std.proofs.Common.{rules, arith, ◌≡◌, length, codes, refl}
use Rattle.tap_scenario.proofs.Bytes.{same_bytes}
use Rattle.tap_scenario.proofs.kind.SpreadKind.of.Goals as goal

pub returns-in-scatter : goal.returns-in-scatter
returns-in-scatter c =
    let len : length c.args.word.now ≡ 7 = omega (arith, c.in-scatter.len_at_least, c.in-scatter.len_below) in
    rw (same_bytes c.args.word.now (codes "scatter") len (search rules)) refl

pub returns-in-gather : goal.returns-in-gather
returns-in-gather c =
    let len : length c.args.word.now ≡ 6 = omega (arith, c.in-gather.len_at_least, c.in-gather.len_below) in
    rw (same_bytes c.args.word.now (codes "gather") len (search rules)) refl

pub returns-in-findall : goal.returns-in-findall
returns-in-findall c =
    let len : length c.args.word.now ≡ 7 = omega (arith, c.in-findall.len_at_least, c.in-findall.len_below) in
    rw (same_bytes c.args.word.now (codes "findall") len (search rules)) refl
