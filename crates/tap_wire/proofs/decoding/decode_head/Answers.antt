use Rattle.std.proofs.Common.{◌<◌, All, arith, sym}
use Rattle.std.proofs.lemmas.List.Elements.{All-from_get_or}
use Rattle.tap_wire.proofs.Frames.{head_whole}
use Rattle.tap_wire.proofs.decoding.decode_head.Goals as goal

pub returns-clause-whole : goal.returns-clause-whole
returns-clause-whole c frame read =
    let all : All (λ b. b < 256) c.args.bytes.now = All-from_get_or (λ b. b < 256) c.args.bytes.now 0
    (λ i h. omega (arith, c.type_inv.bytes i)) in
    rw c.code.ensures.value
    (head_whole c.args.settings.now c.args.bytes.now c.in_ok-opening.opening frame c.opening_of.ensures.valid all
    (sym c.in_ok-opening.ensures.value) read)
