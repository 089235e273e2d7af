use Rattle.std.proofs.Common.{◌≡◌, ◌∙◌, length, ap, arith}
use Rattle.tap_salt.specs.Salt.{name_of_bytes}
use Rattle.tap_salt.proofs.Digests.{name_of_bytes-digits, name_of_bytes-is, sha1-length}
use Rattle.tap_salt.proofs.Halves.{halves-all, halves-more}
use Rattle.tap_salt.proofs.salts.digits_of.Goals as goal

pub loop-at-preserved : goal.loop-at-preserved
loop-at-preserved c =
    let twenty : length c.digest-digest.result ≡ 20 = ap length c.digest-digest.ensures ∙ sha1-length c.args.bytes.now in
    halves-more c.loop-at.digits c.digest-digest.result c.loop-at.at (omega (arith, twenty, c.loop-at-test.true)) twenty
    c.loop-at.invariant

is_name : (c : goal.After-loop-at) → c.loop-at.digits ≡ name_of_bytes c.args.bytes.now
is_name c =
    let twenty : length c.digest-digest.result ≡ 20 = ap length c.digest-digest.ensures ∙ sha1-length c.args.bytes.now in
    let end : c.loop-at.at ≡ 20 = omega (arith, c.loop-at-test.false, c.loop-at.auto.at-end) in
    halves-all c.loop-at.digits c.digest-digest.result c.loop-at.at end twenty c.loop-at.invariant
    ∙ name_of_bytes-is c.args.bytes.now c.digest-digest.result c.digest-digest.ensures

pub returns-clause-value : goal.returns-clause-value
returns-clause-value c = is_name c

pub returns-clause-digits : goal.returns-clause-digits
returns-clause-digits c = rw (is_name c) (name_of_bytes-digits c.args.bytes.now)
