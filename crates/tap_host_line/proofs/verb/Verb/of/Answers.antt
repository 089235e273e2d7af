use Rattle.std.proofs.Common.{rules, arith, ◌≡◌, length, codes, refl}
use Rattle.tap_scenario.proofs.Bytes.{same_bytes}
use Rattle.tap_host_line.proofs.verb.Verb.of.Goals as goal

pub returns-in-packet : goal.returns-in-packet
returns-in-packet c =
    let len : length c.args.word.now ≡ 6 = omega (arith, c.in-packet.len_at_least, c.in-packet.len_below) in
    rw (same_bytes c.args.word.now (codes "packet") len (search rules)) refl

pub returns-in-members : goal.returns-in-members
returns-in-members c =
    let len : length c.args.word.now ≡ 7 = omega (arith, c.in-members.len_at_least, c.in-members.len_below) in
    rw (same_bytes c.args.word.now (codes "members") len (search rules)) refl

pub returns-in-abandon : goal.returns-in-abandon
returns-in-abandon c =
    let len : length c.args.word.now ≡ 7 = omega (arith, c.in-abandon.len_at_least, c.in-abandon.len_below) in
    rw (same_bytes c.args.word.now (codes "abandon") len (search rules)) refl

pub returns-in-publish : goal.returns-in-publish
returns-in-publish c =
    let len : length c.args.word.now ≡ 7 = omega (arith, c.in-publish.len_at_least, c.in-publish.len_below) in
    rw (same_bytes c.args.word.now (codes "publish") len (search rules)) refl

pub returns-in-withdraw : goal.returns-in-withdraw
returns-in-withdraw c =
    let len : length c.args.word.now ≡ 8 = omega (arith, c.in-withdraw.len_at_least, c.in-withdraw.len_below) in
    rw (same_bytes c.args.word.now (codes "withdraw") len (search rules)) refl

pub returns-in-leave : goal.returns-in-leave
returns-in-leave c =
    let len : length c.args.word.now ≡ 5 = omega (arith, c.in-leave.len_at_least, c.in-leave.len_below) in
    rw (same_bytes c.args.word.now (codes "leave") len (search rules)) refl

pub returns-in-status : goal.returns-in-status
returns-in-status c =
    let len : length c.args.word.now ≡ 6 = omega (arith, c.in-status.len_at_least, c.in-status.len_below) in
    rw (same_bytes c.args.word.now (codes "status") len (search rules)) refl
