use Rattle.std.proofs.Common.{◌∙◌, ◌-◌, ◌++◌, ◌∷◌, [], None, arith, sym, ap}
use Rattle.tap_wire.specs.Fields.{slots_at}
use Rattle.tap_wire.proofs.Loops.{slots_go_on, slots_end, slots_done, from_the_start, is_read}
use Rattle.tap_wire.proofs.lists.check_slots.Goals as goal

pub loop-init : goal.loop-init
loop-init c =
    let count = c.args.count in
    record {
      reads = (
        [],
        from_the_start (slots_at c.args.settings.now c.args.prefix (count - 0) None c.args.start c.args.bytes.now)
            ∙ ap (λ n. slots_at c.args.settings.now c.args.prefix n None c.args.start c.args.bytes.now) (omega arith),
      );
      at = omega arith;
    }

pub loop-preserved : goal.loop-preserved
loop-preserved c =
    let p = c.args.settings.now in
    let front = c.loop.invariant.reads.0 in
    record {
      reads = (
        front ++ c.in-Ok.slot ∷ [],
        slots_go_on p c.args.prefix c.args.count c.loop.counter c.loop.before c.loop.place c.args.bytes.now
            front c.in-Ok.slot (slots_at p c.args.prefix c.args.count None c.args.start c.args.bytes.now) c.loop-test.true
            (sym c.watch_slot_at.ensures ∙ c.in-Ok.is) c.loop.invariant.reads.1,
      );
      at = omega (arith, c.loop.invariant.at);
    }

pub returns-in-Err-clause-err : goal.returns-in-Err-clause-err
returns-in-Err-clause-err c =
    let p = c.args.settings.now in
    slots_end p c.args.prefix c.args.count c.loop.counter c.loop.before c.loop.place c.args.bytes.now c.loop.invariant.reads.0
    c.in-Err.broken
    (slots_at p c.args.prefix c.args.count None c.args.start c.args.bytes.now) c.loop-test.true (sym c.watch_slot_at.ensures ∙ c.in-Err.is)
    c.loop.invariant.reads.1

pub returns-clause-ok : goal.returns-clause-ok
returns-clause-ok c =
    let p = c.args.settings.now in
    let front = c.loop.invariant.reads.0 in
    let read = slots_at p c.args.prefix c.args.count None c.args.start c.args.bytes.now in
    is_read read front (slots_done p c.args.prefix c.args.count c.loop.counter c.loop.before c.loop.place c.args.bytes.now front read
    c.loop-test.false c.loop.invariant.reads.1)
