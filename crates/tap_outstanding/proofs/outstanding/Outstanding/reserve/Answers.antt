use Rattle.tap_outstanding.proofs.KeptMarks.{kept-asked, taken-same}
use Rattle.tap_outstanding.proofs.outstanding.Outstanding.reserve.Goals as goal

pub invariant_of-self-in_err-reserve-3 : goal.invariant_of-self-in_err-reserve-3
invariant_of-self-in_err-reserve-3 c =
    record {
      kept = kept-asked c.self.inside.records c.self.inside.marks c.self.inside.sums c.self.inside.count c.self.inside.room
          c.self.invariant.kept c.reserve.new.self c.reserve-then-self-more.new.self c.reserve-then-self-more-2.new.sums c.reserve.ensures.len
          c.reserve.ensures.capacity c.reserve-then-self-more.ensures.items c.reserve-then-self-more.ensures.len
          c.reserve-then-self-more.ensures.capacity c.reserve-then-self-more-2.ensures.same c.reserve-then-self-more-2.ensures.room;
      taken = taken-same c.self.inside.marks.items c.reserve-then-self-more.new.self.items c.self.inside.low
          c.reserve-then-self-more.ensures.items c.self.invariant.taken;
    }
