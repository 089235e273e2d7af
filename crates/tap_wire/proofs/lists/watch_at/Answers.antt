use Rattle.std.proofs.Common.{◌∙◌, ◌/◌, ◌-◌, None, Ok, length, arith, ap, sym}
use Rattle.std.proofs.lemmas.Result.{err_from_is_err_and}
use Rattle.tap_wire.specs.Fields.{slots_at}
use Rattle.tap_wire.proofs.Loops.{slots_go_on, slots_end, slots_done, slots_ascend}
use Rattle.tap_wire.proofs.lists.watch_at.Goals as goal

pub returns-in_err-slot : goal.returns-in_err-slot
returns-in_err-slot c =
    let p = c.args.settings.now in
    let bytes = c.args.bytes.now in
    let count = (length bytes - c.args.start) / 2 in
    let made = err_from_is_err_and c.from_residual-in_err-slot.result c.from_residual-in_err-slot.ensures.1 in
    rw (made.1, made.2)
    (slots_end p c.args.prefix count c.loop.counter c.loop.before c.loop.place bytes c.loop.slots.items c.in_err-slot.field-0.0
    (slots_at p c.args.prefix count None c.args.start bytes) c.loop-test.true (sym c.in_err-slot.ensures) c.loop.invariant.reads)

pub loop-preserved : goal.loop-preserved
loop-preserved c =
    let p = c.args.settings.now in
    let bytes = c.args.bytes.now in
    let count = (length bytes - c.args.start) / 2 in
    record {
      reads = rw c.push_reserved.ensures.items
          (slots_go_on p c.args.prefix count c.loop.counter c.loop.before c.loop.place bytes c.loop.slots.items c.in_ok-slot.slot
          (slots_at p c.args.prefix count None c.args.start bytes) c.loop-test.true (sym c.in_ok-slot.ensures) c.loop.invariant.reads);
      at = omega (arith, c.loop.invariant.at);
      len = omega (arith, c.push_reserved.ensures.len, c.loop.invariant.len);
      room = omega (arith, c.push_reserved.ensures.capacity, c.loop.invariant.room);
    }

pub from_vec-requires : goal.from_vec-requires
from_vec-requires c =
    let p = c.args.settings.now in
    let bytes = c.args.bytes.now in
    let count = (length bytes - c.args.start) / 2 in
    slots_ascend p c.args.prefix c.args.start bytes c.loop.slots.items c.requires
    (slots_done p c.args.prefix count c.loop.counter c.loop.before c.loop.place bytes c.loop.slots.items
    (slots_at p c.args.prefix count None c.args.start bytes) c.loop-test.false c.loop.invariant.reads)

pub returns : goal.returns
returns c =
    let p = c.args.settings.now in
    let bytes = c.args.bytes.now in
    let count = (length bytes - c.args.start) / 2 in
    slots_done p c.args.prefix count c.loop.counter c.loop.before c.loop.place bytes c.loop.slots.items
    (slots_at p c.args.prefix count None c.args.start bytes) c.loop-test.false c.loop.invariant.reads
    ∙ ap Ok (sym c.from_vec.ensures)
