use Rattle.std.proofs.Common.{◌≡◌, ℕ, ◌+◌, ◌≤◌, true, not, ◌||◌, List, [], ◌∷◌, ◌++◌, length, inl, refl, ap, ◌∙◌, arith, if◌then◌else◌}
use Rattle.std.specs.List.{list_any}
use Rattle.tap_carry.specs.Names.{is_same}
use Rattle.tap_carry.specs.declared.outbox.Await.{Await}
use Rattle.tap_carry.specs.Outbox.{OutboxValue, await_with, is_await}
use Rattle.tap_carry.specs.OutboxKept.{IsOutbox, awaits_of}
use Rattle.tap_carry.proofs.Ways.{pair-updated}
use Rattle.tap_carry.proofs.Awaits.{awaits-sent, found-sent, not-among, on_err, outbox-asked, outbox-sent, value-asked}
use Rattle.tap_carry.proofs.outbox.Outbox.send.Goals as goal

-- memory was refused, and nothing changes
pub invariant_of-self : goal.invariant_of-self
invariant_of-self c =
    outbox-asked c.self.inside.sent.items c.self.inside.ways.keys c.self.inside.last.entries c.self.inside.next c.self.invariant
    c.self.inside.sent.items c.reserve.new.self.items c.self.inside.ways.keys c.self.inside.last.entries (inl refl) c.reserve.ensures.items refl refl

pub returns-in_err-reserve-clause-err : goal.returns-in_err-reserve-clause-err
returns-in_err-reserve-clause-err c = on_err c.from_residual.result
    (value-asked c.self.inside.sent.items c.self.inside.ways.keys c.self.inside.last.entries c.self.inside.next c.self.invariant
    c.self.inside.sent.items c.reserve.new.self.items c.self.inside.ways.keys c.self.inside.last.entries (inl refl) c.reserve.ensures.items refl refl
    ∙ c.self.view_is)

pub invariant_of-self-in_err-reserve-2 : goal.invariant_of-self-in_err-reserve-2
invariant_of-self-in_err-reserve-2 c =
    outbox-asked c.self.inside.sent.items c.self.inside.ways.keys c.self.inside.last.entries c.self.inside.next c.self.invariant
    c.self.inside.sent.items c.reserve.new.self.items c.reserve-2.new.self.keys c.self.inside.last.entries (inl refl) c.reserve.ensures.items
    c.reserve-2.ensures.keys refl

pub returns-in_err-reserve-2-clause-err : goal.returns-in_err-reserve-2-clause-err
returns-in_err-reserve-2-clause-err c = on_err c.from_residual-in_err-reserve-2.result
    (value-asked c.self.inside.sent.items c.self.inside.ways.keys c.self.inside.last.entries c.self.inside.next c.self.invariant
    c.self.inside.sent.items c.reserve.new.self.items c.reserve-2.new.self.keys c.self.inside.last.entries (inl refl) c.reserve.ensures.items
    c.reserve-2.ensures.keys refl ∙ c.self.view_is)

pub invariant_of-self-in_err-seq : goal.invariant_of-self-in_err-seq
invariant_of-self-in_err-seq c =
    outbox-asked c.self.inside.sent.items c.self.inside.ways.keys c.self.inside.last.entries c.self.inside.next c.self.invariant
    c.self.inside.sent.items c.reserve.new.self.items c.reserve-2.new.self.keys c.next_number.new.numbers.entries (inl refl)
    c.reserve.ensures.items c.reserve-2.ensures.keys c.in_err-seq.ensures.err

pub returns-in_err-seq-clause-err : goal.returns-in_err-seq-clause-err
returns-in_err-seq-clause-err c = on_err c.from_residual-in_err-seq.result
    (value-asked c.self.inside.sent.items c.self.inside.ways.keys c.self.inside.last.entries c.self.inside.next c.self.invariant
    c.self.inside.sent.items c.reserve.new.self.items c.reserve-2.new.self.keys c.next_number.new.numbers.entries (inl refl)
    c.reserve.ensures.items c.reserve-2.ensures.keys c.in_err-seq.ensures.err ∙ c.self.view_is)

-- the frame is sent
pub invariant_of-self-2 : goal.invariant_of-self-2
invariant_of-self-2 c =
    let next = ap (λ (o : OutboxValue). o.next) c.self.view_is in
    let above : c.self.inside.next ≤ c.args.frame = omega (arith, next, c.requires.above) in
    let asked : IsOutbox c.reserve.new.self.items c.reserve-2.new.self.keys c.self.inside.last.entries c.self.inside.next =
    outbox-asked c.self.inside.sent.items c.self.inside.ways.keys c.self.inside.last.entries c.self.inside.next c.self.invariant
    c.self.inside.sent.items c.reserve.new.self.items c.reserve-2.new.self.keys c.self.inside.last.entries (inl refl) c.reserve.ensures.items
    c.reserve-2.ensures.keys refl in
    let none = not-among c.reserve.new.self.items c.reserve-2.new.self.keys c.self.inside.last.entries c.self.inside.next asked c.args.to c.in_ok-seq.seq
    c.args.frame c.in_ok-seq.ensures.number in
    let added : c.in_ok-insert.field-0 ≡ true = c.in_ok-insert.ensures.added ∙ ap not none in
    let more : length c.insert.new.self.keys ≡ length c.reserve-2.new.self.keys + 1 =
    c.in_ok-insert.ensures.len ∙ ap (λ b. length c.reserve-2.new.self.keys + (if b then 1 else 0)) added in
    rw c.push_reserved.ensures.items
    (outbox-sent c.reserve.new.self.items c.reserve-2.new.self.keys c.self.inside.last.entries c.self.inside.next asked c.args.to c.in_ok-seq.seq
    c.args.frame c.in_ok-seq.ensures.number c.insert.new.self.keys
    (pair-updated c.reserve-2.new.self.keys c.insert.new.self.keys c.args.to c.in_ok-seq.seq true c.in_ok-insert.ensures.updates.0)
    c.next_number.new.numbers.entries c.in_ok-seq.ensures.after above c.requires.few more)

pub returns-clause-after : goal.returns-clause-after
returns-clause-after c =
    let asked : IsOutbox c.reserve.new.self.items c.reserve-2.new.self.keys c.self.inside.last.entries c.self.inside.next =
    outbox-asked c.self.inside.sent.items c.self.inside.ways.keys c.self.inside.last.entries c.self.inside.next c.self.invariant
    c.self.inside.sent.items c.reserve.new.self.items c.reserve-2.new.self.keys c.self.inside.last.entries (inl refl) c.reserve.ensures.items
    c.reserve-2.ensures.keys refl in
    let same = value-asked c.self.inside.sent.items c.self.inside.ways.keys c.self.inside.last.entries c.self.inside.next c.self.invariant
    c.self.inside.sent.items c.reserve.new.self.items c.reserve-2.new.self.keys c.self.inside.last.entries (inl refl) c.reserve.ensures.items
    c.reserve-2.ensures.keys refl in
    let more = awaits-sent c.reserve.new.self.items c.reserve-2.new.self.keys c.self.inside.last.entries c.self.inside.next asked c.args.to c.in_ok-seq.seq
    c.args.frame c.in_ok-seq.ensures.number c.insert.new.self.keys
    (pair-updated c.reserve-2.new.self.keys c.insert.new.self.keys c.args.to c.in_ok-seq.seq true c.in_ok-insert.ensures.updates.0) in
    rw (← c.self.view_is) (record {
      awaits = ap (λ (l : List Await). awaits_of l c.insert.new.self.keys) c.push_reserved.ensures.items
          ∙ more
          ∙ ap (λ (o : OutboxValue). o.awaits ++ await_with c.args.to c.in_ok-seq.seq c.args.frame ∷ []) same
          ∙ ap (λ (n : ℕ). awaits_of c.self.inside.sent.items c.self.inside.ways.keys ++ await_with c.args.to n c.args.frame ∷ []) c.in_ok-seq.ensures.number;
      last = λ x. c.in_ok-seq.ensures.after x;
      next = refl;
    })

pub returns-clause-look_up : goal.returns-clause-look_up
returns-clause-look_up c = λ x k.
    let asked : IsOutbox c.reserve.new.self.items c.reserve-2.new.self.keys c.self.inside.last.entries c.self.inside.next =
    outbox-asked c.self.inside.sent.items c.self.inside.ways.keys c.self.inside.last.entries c.self.inside.next c.self.invariant
    c.self.inside.sent.items c.reserve.new.self.items c.reserve-2.new.self.keys c.self.inside.last.entries (inl refl) c.reserve.ensures.items
    c.reserve-2.ensures.keys refl in
    let same = value-asked c.self.inside.sent.items c.self.inside.ways.keys c.self.inside.last.entries c.self.inside.next c.self.invariant
    c.self.inside.sent.items c.reserve.new.self.items c.reserve-2.new.self.keys c.self.inside.last.entries (inl refl) c.reserve.ensures.items
    c.reserve-2.ensures.keys refl in
    let more = awaits-sent c.reserve.new.self.items c.reserve-2.new.self.keys c.self.inside.last.entries c.self.inside.next asked c.args.to c.in_ok-seq.seq
    c.args.frame c.in_ok-seq.ensures.number c.insert.new.self.keys
    (pair-updated c.reserve-2.new.self.keys c.insert.new.self.keys c.args.to c.in_ok-seq.seq true c.in_ok-insert.ensures.updates.0) in
    rw (← c.self.view_is)
    (ap (λ (l : List Await). list_any (is_await x k) (awaits_of l c.insert.new.self.keys)) c.push_reserved.ensures.items
    ∙ ap (λ (l : List Await). list_any (is_await x k) l) more
    ∙ ap (λ (o : OutboxValue). list_any (is_await x k) (o.awaits ++ await_with c.args.to c.in_ok-seq.seq c.args.frame ∷ [])) same
    ∙ found-sent (awaits_of c.self.inside.sent.items c.self.inside.ways.keys) c.args.to c.in_ok-seq.seq c.args.frame x k
    ∙ ap (λ (n : ℕ). list_any (is_await x k) (awaits_of c.self.inside.sent.items c.self.inside.ways.keys) || is_same c.args.to n x k)
    c.in_ok-seq.ensures.number)
