use Rattle.std.proofs.Common.{rules, arith, ◌≡◌, length, codes, refl}
use Rattle.tap_scenario.proofs.Bytes.{same_bytes}
use Rattle.tap_scenario.proofs.kind.Kind.of.Goals as goal

pub returns-in-rootset : goal.returns-in-rootset
returns-in-rootset c =
    let len : length c.args.word.now ≡ 7 = omega (arith, c.in-rootset.len_at_least, c.in-rootset.len_below) in
    rw (same_bytes c.args.word.now (codes "rootset") len (search rules)) refl

pub returns-in-table : goal.returns-in-table
returns-in-table c =
    let len : length c.args.word.now ≡ 5 = omega (arith, c.in-table.len_at_least, c.in-table.len_below) in
    rw (same_bytes c.args.word.now (codes "table") len (search rules)) refl

pub returns-in-leave : goal.returns-in-leave
returns-in-leave c =
    let len : length c.args.word.now ≡ 5 = omega (arith, c.in-leave.len_at_least, c.in-leave.len_below) in
    rw (same_bytes c.args.word.now (codes "leave") len (search rules)) refl

pub returns-in-publish : goal.returns-in-publish
returns-in-publish c =
    let len : length c.args.word.now ≡ 7 = omega (arith, c.in-publish.len_at_least, c.in-publish.len_below) in
    rw (same_bytes c.args.word.now (codes "publish") len (search rules)) refl

pub returns-in-withdraw : goal.returns-in-withdraw
returns-in-withdraw c =
    let len : length c.args.word.now ≡ 8 = omega (arith, c.in-withdraw.len_at_least, c.in-withdraw.len_below) in
    rw (same_bytes c.args.word.now (codes "withdraw") len (search rules)) refl

pub returns-in-pointers : goal.returns-in-pointers
returns-in-pointers c =
    let len : length c.args.word.now ≡ 8 = omega (arith, c.in-pointers.len_at_least, c.in-pointers.len_below) in
    rw (same_bytes c.args.word.now (codes "pointers") len (search rules)) refl

pub returns-in-abandon : goal.returns-in-abandon
returns-in-abandon c =
    let len : length c.args.word.now ≡ 7 = omega (arith, c.in-abandon.len_at_least, c.in-abandon.len_below) in
    rw (same_bytes c.args.word.now (codes "abandon") len (search rules)) refl

pub returns-in-deliver : goal.returns-in-deliver
returns-in-deliver c =
    let len : length c.args.word.now ≡ 7 = omega (arith, c.in-deliver.len_at_least, c.in-deliver.len_below) in
    rw (same_bytes c.args.word.now (codes "deliver") len (search rules)) refl

pub returns-in-repeat : goal.returns-in-repeat
returns-in-repeat c =
    let len : length c.args.word.now ≡ 6 = omega (arith, c.in-repeat.len_at_least, c.in-repeat.len_below) in
    rw (same_bytes c.args.word.now (codes "repeat") len (search rules)) refl

pub returns-in-settle : goal.returns-in-settle
returns-in-settle c =
    let len : length c.args.word.now ≡ 6 = omega (arith, c.in-settle.len_at_least, c.in-settle.len_below) in
    rw (same_bytes c.args.word.now (codes "settle") len (search rules)) refl

pub returns-in-garble : goal.returns-in-garble
returns-in-garble c =
    let len : length c.args.word.now ≡ 6 = omega (arith, c.in-garble.len_at_least, c.in-garble.len_below) in
    rw (same_bytes c.args.word.now (codes "garble") len (search rules)) refl
