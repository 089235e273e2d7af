use Rattle.std.proofs.Common.{◌≤◌, take, get_or, All, nat_lt, arith, refl, subst}
use Rattle.std.proofs.lemmas.List.{take_all}
use Rattle.std.proofs.lemmas.List.Elements.{All-more, All-weaker}
use Rattle.tap_wire.proofs.Pieces.{greater_of, below_greatest}
use Rattle.tap_wire.proofs.fields.are_below.Goals as goal

pub loop-byte-preserved : goal.loop-byte-preserved
loop-byte-preserved c =
    let bytes = c.args.bytes.now in
    let seen = c.loop-byte.byte-index in
    let now = c.max-greatest.result in
    let greater = greater_of c.loop-byte.greatest (get_or bytes seen 0) in
    let before = All-weaker (λ b. b ≤ c.loop-byte.greatest) (λ b. b ≤ now) (λ b h. omega (arith, h, c.max-greatest.ensures, greater.0))
    (take seen bytes) c.loop-byte.invariant in
    All-more (λ b. b ≤ now) bytes seen 0 (omega arith) before
    (omega (arith, c.max-greatest.ensures, greater.1))

pub returns : goal.returns
returns c =
    let bytes = c.args.bytes.now in
    let greatest = c.loop-byte.greatest in
    below_greatest c.args.bound greatest bytes (nat_lt greatest c.args.bound) refl
    (subst (All (λ b. b ≤ greatest)) (take_all c.loop-byte.byte-index bytes (omega arith)) c.loop-byte.invariant)
