use Rattle.std.proofs.Common.{◌≡◌, ◌∙◌, ◌+◌, ◌*◌, ◌-◌, ◌++◌, ◌∷◌, [], None, arith, sym, ap}
use Rattle.std.specs.Option.{option_copied}
use Rattle.tap_name.specs.declared.slot.Offered.{Offered}
use Rattle.tap_wire.specs.Fields.{hello_links_at}
use Rattle.tap_wire.proofs.Loops.{links_go_on, links_end, links_done, one_more_fits, from_the_start, is_read, link_named}
use Rattle.tap_wire.proofs.lists.check_links.Goals as goal

pub settled_at-requires : goal.settled_at-requires
settled_at-requires c =
    omega (
      arith,
      c.link_len-size.ensures.value,
      c.loop.invariant.at,
      one_more_fits (c.args.settings.now.digits + 1) c.args.count c.loop.counter c.loop-test.true,
      ap (λ size. c.loop.counter * size) c.link_len-size.ensures.value,
    )

pub loop-init : goal.loop-init
loop-init c =
    let count = c.args.count in
    record {
      reads = (
        [],
        from_the_start (hello_links_at c.args.settings.now (count - 0) None c.args.start c.args.bytes.now)
            ∙ ap (λ n. hello_links_at c.args.settings.now n None c.args.start c.args.bytes.now) (omega arith),
      );
      at = omega arith;
    }

pub loop-preserved : goal.loop-preserved
loop-preserved c =
    let p = c.args.settings.now in
    let front = c.loop.invariant.reads.0 in
    let link : Offered = record { name = c.digits_at.result.now; settled = c.in_default.field-0 } in
    let next : c.loop.place + c.link_len-size.result ≡ c.loop.place + p.digits + 1 = omega (arith, c.link_len-size.ensures.value) in
    record {
      reads = (
        front ++ link ∷ [],
        links_go_on p c.args.count c.loop.counter (option_copied c.loop.before) c.loop.place
            (c.loop.place + c.link_len-size.result) c.args.bytes.now front link
            (hello_links_at p c.args.count None c.args.start c.args.bytes.now) c.loop-test.true next
            (link_named _ _ c.in_default.field-0 _ c.in_default.ensures.ok (sym c.digits_at.ensures)) c.loop.invariant.reads.1,
      );
      at = grind (arith, c.loop.invariant.at);
    }

pub returns-in-Err-clause-err : goal.returns-in-Err-clause-err
returns-in-Err-clause-err c =
    let p = c.args.settings.now in
    links_end p c.args.count c.loop.counter (option_copied c.loop.before) c.loop.place c.args.bytes.now c.loop.invariant.reads.0
    c.in-Err.broken
    (hello_links_at p c.args.count None c.args.start c.args.bytes.now) c.loop-test.true c.in-Err.ensures.err c.loop.invariant.reads.1

pub returns-clause-ok : goal.returns-clause-ok
returns-clause-ok c =
    let p = c.args.settings.now in
    let front = c.loop.invariant.reads.0 in
    let read = hello_links_at p c.args.count None c.args.start c.args.bytes.now in
    is_read read front (links_done p c.args.count c.loop.counter (option_copied c.loop.before) c.loop.place c.args.bytes.now front read
    c.loop-test.false c.loop.invariant.reads.1)
