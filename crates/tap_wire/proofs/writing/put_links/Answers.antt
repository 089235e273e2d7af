use Rattle.std.proofs.Common.{arith, subst}
use Rattle.std.specs.List.{flat_map}
use Rattle.tap_wire.specs.Spelling.{link_bytes}
use Rattle.tap_wire.specs.Writing.{Puts}
use Rattle.tap_wire.proofs.Appending.{piece_fits, others_fit, one_more, all_added}
use Rattle.tap_wire.proofs.writing.put_links.Goals as goal

pub put_offered-next-requires : goal.put_offered-next-requires
put_offered-next-requires c = piece_fits link_bytes c.as_slice-link-items.result.now c.loop-link.link-index c.link-item.result c.link-item.result
    c.loop-link.out c.loop-link.next (omega arith) c.link-item.is c.loop-link.invariant.room

pub loop-link-preserved : goal.loop-link-preserved
loop-link-preserved c = record {
  so_far = one_more link_bytes c.as_slice-link-items.result.now c.loop-link.link-index c.link-item.result c.link-item.result c.args.out.now
      c.loop-link.out c.put_offered-next.new.out c.args.at c.loop-link.next c.put_offered-next.result (omega arith) c.link-item.is c.loop-link.invariant.so_far c.put_offered-next.ensures;
  room = others_fit link_bytes c.as_slice-link-items.result.now c.loop-link.link-index c.link-item.result c.link-item.result
      c.loop-link.out c.put_offered-next.new.out c.loop-link.next c.put_offered-next.result (omega arith) c.link-item.is c.loop-link.invariant.room c.put_offered-next.ensures;
}

pub returns : goal.returns
returns c = subst (λ links. Puts c.args.out.now c.args.at (flat_map link_bytes links) c.loop-link.out c.loop-link.next) c.as_slice-link-items.ensures
    (all_added link_bytes c.as_slice-link-items.result.now c.loop-link.link-index c.args.out.now c.loop-link.out c.args.at c.loop-link.next (omega arith)
    c.loop-link.invariant.so_far)
