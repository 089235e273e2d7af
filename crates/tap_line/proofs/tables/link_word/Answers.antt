use Rattle.std.proofs.Common.{rules, arith, ◌≡◌, length, codes, refl}
use Rattle.tap_scenario.proofs.Bytes.{same_bytes}
use Rattle.tap_line.proofs.tables.link_word.Goals as goal

pub returns-in-settled : goal.returns-in-settled
returns-in-settled c =
    let len : length c.args.word.now ≡ 7 = omega (arith, c.in-settled.len_at_least, c.in-settled.len_below) in
    rw (same_bytes c.args.word.now (codes "settled") len (search rules)) refl

pub returns-in-leaving : goal.returns-in-leaving
returns-in-leaving c =
    let len : length c.args.word.now ≡ 7 = omega (arith, c.in-leaving.len_at_least, c.in-leaving.len_below) in
    rw (same_bytes c.args.word.now (codes "leaving") len (search rules)) refl
