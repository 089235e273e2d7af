use Rattle.std.proofs.Common.{◌≡◌, ◌∙◌, ◌+◌, ◌/◌, ◌-◌, ◌<◌, None, Ok, All, length, drop, arith, ap, sym, subst}
use Rattle.std.specs.Bool.{OnTrue}
use Rattle.std.specs.Option.{option_copied}
use Rattle.std.proofs.lemmas.Result.{err_from_is_err_and}
use Rattle.tap_name.specs.declared.slot.Offered.{Offered}
use Rattle.tap_wire.specs.Fields.{hello_links_at}
use Rattle.tap_wire.proofs.Loops.{links_go_on, links_end, links_done, link_named}
use Rattle.tap_wire.proofs.Pieces.{below_from}
use Rattle.tap_wire.proofs.lists.hello_links_at.Goals as goal

pub returns-in_err-settled : goal.returns-in_err-settled
returns-in_err-settled c =
    let p = c.args.settings.now in
    let bytes = c.args.bytes.now in
    let count = (length bytes - c.args.start) / c.link_len-size.result in
    let made = err_from_is_err_and c.from_residual-in_err-settled.result c.from_residual-in_err-settled.ensures.1 in
    rw (made.1, made.2)
    (ap (λ size. hello_links_at p ((length bytes - c.args.start) / size) None c.args.start bytes) (sym c.link_len-size.ensures.value)
    ∙ links_end p count c.loop.counter (option_copied c.loop.before) c.loop.place bytes c.loop.links.items c.in_err-settled.field-0.0
    (hello_links_at p count None c.args.start bytes) c.loop-test.true c.in_err-settled.ensures.err c.loop.invariant.reads)

pub settled_at-requires-clause-digits : goal.settled_at-requires-clause-digits
settled_at-requires-clause-digits c =
    let known = c.are_below-are_digits.result in
    let bytes = c.args.bytes.now in
    subst (λ base. OnTrue known (All (λ d. d < base) (drop c.loop.place bytes))) c.base.ensures.value
    (below_from known c.base.result c.args.start c.loop.place bytes (omega (arith, c.loop.invariant.at)) c.are_below-are_digits.ensures)

pub loop-preserved : goal.loop-preserved
loop-preserved c =
    let p = c.args.settings.now in
    let bytes = c.args.bytes.now in
    let count = (length bytes - c.args.start) / c.link_len-size.result in
    let link : Offered = record { name = c.digits_at-digits.result.now; settled = c.in_ok-settled.settled } in
    let next : c.loop.place + c.link_len-size.result ≡ c.loop.place + p.digits + 1 = omega (arith, c.link_len-size.ensures.value) in
    record {
      reads = rw (c.push_reserved.ensures.items, c.name_of-name.ensures)
          (links_go_on p count c.loop.counter (option_copied c.loop.before) c.loop.place (c.loop.place + c.link_len-size.result) bytes
          c.loop.links.items link (hello_links_at p count None c.args.start bytes) c.loop-test.true next
          (link_named _ _ c.in_ok-settled.settled _ c.in_ok-settled.ensures.ok (sym c.digits_at-digits.ensures)) c.loop.invariant.reads);
      at = omega (arith, c.loop.invariant.at);
      len = omega (arith, c.push_reserved.ensures.len, c.loop.invariant.len);
      room = omega (arith, c.push_reserved.ensures.capacity, c.loop.invariant.room);
    }

pub returns : goal.returns
returns c =
    let p = c.args.settings.now in
    let bytes = c.args.bytes.now in
    let count = (length bytes - c.args.start) / c.link_len-size.result in
    ap (λ size. hello_links_at p ((length bytes - c.args.start) / size) None c.args.start bytes) (sym c.link_len-size.ensures.value)
    ∙ links_done p count c.loop.counter (option_copied c.loop.before) c.loop.place bytes c.loop.links.items
    (hello_links_at p count None c.args.start bytes) c.loop-test.false c.loop.invariant.reads
    ∙ ap Ok (sym c.from_vec.ensures)
