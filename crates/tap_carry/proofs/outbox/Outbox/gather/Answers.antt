use Rattle.std.proofs.Common.{◌≡◌, List, ◌++◌, length, ap, sym, ◌∙◌, arith}
use Rattle.tap_carry.specs.declared.outbox.Await.{Await}
use Rattle.tap_carry.specs.OutboxKept.{awaits_of}
use Rattle.tap_carry.proofs.Awaits.{awaits-all}
use Rattle.tap_carry.proofs.outbox.Outbox.gather.Goals as goal

pub returns-then-len-clause-all : goal.returns-then-len-clause-all
returns-then-len-clause-all c =
    let sent = c.self.inside.sent.items in
    let ways = c.self.inside.ways.keys in
    let size : length (awaits_of sent ways) ≡ length sent =
    omega (arith, c.self.invariant.counted, c.len.ensures.len, c.len-2.ensures, c.if-len.true, c.self.inside.sent.ok.0) in
    rw (← c.self.view_is)
    (c.in_ok-extend_from_slice.ensures.items
    ∙ ap (λ (l : List Await). c.args.list.now.items ++ l) (c.deref.ensures.value ∙ sym (awaits-all ways sent size)))
