use Rattle.std.proofs.Common.{◌≤◌, ◌-◌, ap, arith}
use Rattle.tap_outstanding.specs.Outstanding.{OutstandingValue}
use Rattle.tap_outstanding.proofs.KeptMarks.{kept-few, kept-sent, taken-sent, value-sent}
use Rattle.tap_outstanding.proofs.outstanding.Outstanding.send_reserved.Goals as goal

pub overflow_add-self : goal.overflow_add-self
overflow_add-self c =
    let sent = ap (λ (s : OutstandingValue). s.sent) c.self.view_is in
    omega (arith, sent, kept-few c.self.inside.records c.self.inside.marks c.self.inside.sums c.self.inside.count c.self.inside.room c.self.invariant.kept)

pub invariant_of-self : goal.invariant_of-self
invariant_of-self c =
    let room = ap (λ (s : OutstandingValue). s.room) c.self.view_is in
    let some : 1 ≤ c.self.inside.room = omega arith in
    record {
      kept = kept-sent c.self.inside.records c.self.inside.marks c.self.inside.sums c.self.inside.count c.self.inside.room c.self.invariant.kept
          c.push_reserved.new.self c.raise.new.marks c.raise.new.sums some c.raise.ensures.tower c.raise.ensures.marks c.raise.ensures.rooms
          c.raise.ensures.len c.raise.ensures.capacity c.push_reserved.ensures.len c.push_reserved.ensures.capacity;
      taken = taken-sent c.self.inside.marks.items c.raise.new.marks.items c.self.inside.low c.raise.ensures.marks c.self.invariant.taken;
    }

pub returns-clause-after : goal.returns-clause-after
returns-clause-after c =
    rw (← c.self.view_is)
    (value-sent c.self.inside.records c.self.inside.marks c.self.inside.sums c.self.inside.count c.self.inside.room c.self.invariant.kept
    c.push_reserved.new.self c.raise.new.marks.items c.args.record_place (c.self.inside.room - 1) c.push_reserved.ensures.items
    c.push_reserved.ensures.len c.raise.ensures.marks)
