use Rattle.std.proofs.Common.{rules, arith, ◌≡◌, length, codes, refl}
use Rattle.tap_scenario.proofs.Bytes.{same_bytes}
use Rattle.tap_line.proofs.kind.Kind.of.Goals as goal

pub returns-in-taken : goal.returns-in-taken
returns-in-taken c =
    let len : length c.args.word.now ≡ 5 = omega (arith, c.in-taken.len_at_least, c.in-taken.len_below) in
    rw (same_bytes c.args.word.now (codes "taken") len (search rules)) refl

pub returns-in-table : goal.returns-in-table
returns-in-table c =
    let len : length c.args.word.now ≡ 5 = omega (arith, c.in-table.len_at_least, c.in-table.len_below) in
    rw (same_bytes c.args.word.now (codes "table") len (search rules)) refl

pub returns-in-asked : goal.returns-in-asked
returns-in-asked c =
    let len : length c.args.word.now ≡ 5 = omega (arith, c.in-asked.len_at_least, c.in-asked.len_below) in
    rw (same_bytes c.args.word.now (codes "asked") len (search rules)) refl

pub returns-in-begin : goal.returns-in-begin
returns-in-begin c =
    let len : length c.args.word.now ≡ 5 = omega (arith, c.in-begin.len_at_least, c.in-begin.len_below) in
    rw (same_bytes c.args.word.now (codes "begin") len (search rules)) refl

pub returns-in-spent : goal.returns-in-spent
returns-in-spent c =
    let len : length c.args.word.now ≡ 5 = omega (arith, c.in-spent.len_at_least, c.in-spent.len_below) in
    rw (same_bytes c.args.word.now (codes "spent") len (search rules)) refl

pub returns-in-packet : goal.returns-in-packet
returns-in-packet c =
    let len : length c.args.word.now ≡ 6 = omega (arith, c.in-packet.len_at_least, c.in-packet.len_below) in
    rw (same_bytes c.args.word.now (codes "packet") len (search rules)) refl

pub returns-in-ticked : goal.returns-in-ticked
returns-in-ticked c =
    let len : length c.args.word.now ≡ 6 = omega (arith, c.in-ticked.len_at_least, c.in-ticked.len_below) in
    rw (same_bytes c.args.word.now (codes "ticked") len (search rules)) refl

pub returns-in-walked : goal.returns-in-walked
returns-in-walked c =
    let len : length c.args.word.now ≡ 6 = omega (arith, c.in-walked.len_at_least, c.in-walked.len_below) in
    rw (same_bytes c.args.word.now (codes "walked") len (search rules)) refl

pub returns-in-closed : goal.returns-in-closed
returns-in-closed c =
    let len : length c.args.word.now ≡ 6 = omega (arith, c.in-closed.len_at_least, c.in-closed.len_below) in
    rw (same_bytes c.args.word.now (codes "closed") len (search rules)) refl

pub returns-in-rooted : goal.returns-in-rooted
returns-in-rooted c =
    let len : length c.args.word.now ≡ 6 = omega (arith, c.in-rooted.len_at_least, c.in-rooted.len_below) in
    rw (same_bytes c.args.word.now (codes "rooted") len (search rules)) refl

pub returns-in-member : goal.returns-in-member
returns-in-member c =
    let len : length c.args.word.now ≡ 6 = omega (arith, c.in-member.len_at_least, c.in-member.len_below) in
    rw (same_bytes c.args.word.now (codes "member") len (search rules)) refl

pub returns-in-arrived : goal.returns-in-arrived
returns-in-arrived c =
    let len : length c.args.word.now ≡ 7 = omega (arith, c.in-arrived.len_at_least, c.in-arrived.len_below) in
    rw (same_bytes c.args.word.now (codes "arrived") len (search rules)) refl

pub returns-in-pointer : goal.returns-in-pointer
returns-in-pointer c =
    let len : length c.args.word.now ≡ 7 = omega (arith, c.in-pointer.len_at_least, c.in-pointer.len_below) in
    rw (same_bytes c.args.word.now (codes "pointer") len (search rules)) refl

pub returns-in-reached : goal.returns-in-reached
returns-in-reached c =
    let len : length c.args.word.now ≡ 7 = omega (arith, c.in-reached.len_at_least, c.in-reached.len_below) in
    rw (same_bytes c.args.word.now (codes "reached") len (search rules)) refl

pub returns-in-refused : goal.returns-in-refused
returns-in-refused c =
    let len : length c.args.word.now ≡ 7 = omega (arith, c.in-refused.len_at_least, c.in-refused.len_below) in
    rw (same_bytes c.args.word.now (codes "refused") len (search rules)) refl

pub returns-in-rootset : goal.returns-in-rootset
returns-in-rootset c =
    let len : length c.args.word.now ≡ 7 = omega (arith, c.in-rootset.len_at_least, c.in-rootset.len_below) in
    rw (same_bytes c.args.word.now (codes "rootset") len (search rules)) refl

pub returns-in-garbled : goal.returns-in-garbled
returns-in-garbled c =
    let len : length c.args.word.now ≡ 7 = omega (arith, c.in-garbled.len_at_least, c.in-garbled.len_below) in
    rw (same_bytes c.args.word.now (codes "garbled") len (search rules)) refl

pub returns-in-carrier : goal.returns-in-carrier
returns-in-carrier c =
    let len : length c.args.word.now ≡ 7 = omega (arith, c.in-carrier.len_at_least, c.in-carrier.len_below) in
    rw (same_bytes c.args.word.now (codes "carrier") len (search rules)) refl

pub returns-in-answered : goal.returns-in-answered
returns-in-answered c =
    let len : length c.args.word.now ≡ 8 = omega (arith, c.in-answered.len_at_least, c.in-answered.len_below) in
    rw (same_bytes c.args.word.now (codes "answered") len (search rules)) refl

pub returns-in-pointers : goal.returns-in-pointers
returns-in-pointers c =
    let len : length c.args.word.now ≡ 8 = omega (arith, c.in-pointers.len_at_least, c.in-pointers.len_below) in
    rw (same_bytes c.args.word.now (codes "pointers") len (search rules)) refl

pub returns-in-published : goal.returns-in-published
returns-in-published c =
    let len : length c.args.word.now ≡ 9 = omega (arith, c.in-published.len_at_least, c.in-published.len_below) in
    rw (same_bytes c.args.word.now (codes "published") len (search rules)) refl

pub returns-in-withdrawn : goal.returns-in-withdrawn
returns-in-withdrawn c =
    let len : length c.args.word.now ≡ 9 = omega (arith, c.in-withdrawn.len_at_least, c.in-withdrawn.len_below) in
    rw (same_bytes c.args.word.now (codes "withdrawn") len (search rules)) refl

pub returns-in-abandoned : goal.returns-in-abandoned
returns-in-abandoned c =
    let len : length c.args.word.now ≡ 9 = omega (arith, c.in-abandoned.len_at_least, c.in-abandoned.len_below) in
    rw (same_bytes c.args.word.now (codes "abandoned") len (search rules)) refl

pub returns-in-116 : goal.returns-in-116
returns-in-116 c =
    let len : length c.args.word.now ≡ 9 = omega (arith, c.in-116.len_at_least, c.in-116.len_below) in
    rw (same_bytes c.args.word.now (codes "tapestry:") len (search rules)) refl
