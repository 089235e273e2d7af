use Rattle.std.proofs.Common.{◌≡◌, ◌<◌, ◌+◌, ◌&&◌, not, eqb, true, false, length, slice_index, All, Some, arith, ap, sym, ◌∙◌}
use Rattle.tap_wire.specs.Fields.{number_at}
use Rattle.tap_wire.specs.Kind.{kind_of_code}
use Rattle.tap_wire.specs.Layout.{body_start, is_length, is_long, version_of}
use Rattle.tap_wire.specs.Names.{receiver_in, sender_in}
use Rattle.tap_wire.proofs.RightHeads.{head_right}
use Rattle.tap_wire.proofs.decoding.right_kind.Goals as goal

pub returns-clause-value : goal.returns-clause-value
returns-clause-value c =
    let p = c.args.settings.now in
    let bytes = c.args.bytes.now in
    let kind = c.in_ok-kind.kind in
    let version : slice_index bytes 0 ≡ version_of p = omega (arith, c.if-bytes-version_of.false, c.version_of.ensures) in
    let code : kind_of_code (slice_index bytes 1) ≡ Some kind = sym c.of_code.ensures ∙ c.in_ok-kind.was in
    let possible : is_length p kind (number_at 2 2 bytes) ≡ true =
    ap (is_length p kind) (sym c.u16_at-len.ensures) ∙ sym c.has_length.ensures ∙ c.if-not-has_length.false in
    let count : (is_long p && not (eqb (slice_index bytes 4) p.digits)) ≡ false =
    sym c.has_other_count.ensures ∙ c.if-has_other_count.false in
    let whole : length bytes ≡ body_start p + number_at 2 2 bytes =
    omega (arith, c.if-bytes-body_start.false, c.body_start.ensures.value, c.u16_at-len.ensures) in
    let sender : All (λ d. d < p.base) (sender_in p bytes) = rw c.head_len-head.ensures.value at c.if-not-are_names.ensures.sender in
    let receiver : All (λ d. d < p.base) (receiver_in p bytes) = rw c.head_len-head.ensures.value at c.if-not-are_names.ensures.receiver in
    head_right p bytes kind version code possible count whole sender receiver
