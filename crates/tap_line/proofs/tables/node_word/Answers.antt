use Rattle.std.proofs.Common.{rules, arith, ◌≡◌, length, codes, refl}
use Rattle.tap_scenario.proofs.Bytes.{same_bytes}
use Rattle.tap_line.proofs.tables.node_word.Goals as goal

pub returns-in-joining : goal.returns-in-joining
returns-in-joining c =
    let len : length c.args.word.now ≡ 7 = omega (arith, c.in-joining.len_at_least, c.in-joining.len_below) in
    rw (same_bytes c.args.word.now (codes "joining") len (search rules)) refl

pub returns-in-leaving : goal.returns-in-leaving
returns-in-leaving c =
    let len : length c.args.word.now ≡ 7 = omega (arith, c.in-leaving.len_at_least, c.in-leaving.len_below) in
    rw (same_bytes c.args.word.now (codes "leaving") len (search rules)) refl
