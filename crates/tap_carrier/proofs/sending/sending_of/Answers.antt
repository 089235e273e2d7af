use Rattle.std.proofs.Common.{◌≡◌, Ok, Some, ap, sym, ◌∙◌}
use Rattle.tap_wire.specs.Names.{receiver_in}
use Rattle.tap_wire.specs.Reading.{head_of}
use Rattle.tap_log.specs.Kinds.{sent_number}
use Rattle.tap_packets.specs.Sequence.{sent_way, way_between}
use Rattle.tap_carrier.proofs.ReadHeads.{names_of_head}
use Rattle.tap_carrier.proofs.sending.sending_of.Goals as goal

pub returns : goal.returns
unfolding sent_number sent_way
returns c =
    let p = c.args.settings.now in
    let bytes = c.in-Sent.bytes in
    let head = c.in-Ok.head in
    let is : head_of p bytes ≡ Ok head = ap (head_of p) (sym c.as_slice.ensures) ∙ sym c.in-Ok.ensures.value in
    let names = names_of_head p bytes head is in
    record {
      number = ap sent_number c.in-Sent.is;
      way = ap (sent_way p) c.in-Sent.is ∙ ap (λ from. Some (way_between from (receiver_in p bytes))) names.0
          ∙ ap (λ to. Some (way_between head.from to)) names.1;
    }
