use Rattle.std.proofs.Common.{◌≡◌, ℕ, ◌+◌, ◌<◌, true, false, Bool, not, List, if◌then◌else◌, refl, sym, ap, ◌∙◌, arith, cond}
use Rattle.tap_carry.specs.Names.{is_name, is_same, number_of}
use Rattle.tap_carry.specs.Inbox.{InboxValue, has_arrived, has_pair}
use Rattle.tap_carry.proofs.Ways.{number-updated, pair-updated}
use Rattle.tap_carry.proofs.Gaps.{arrives-again, arrives-beyond, arrives-next, beyond-arrived, fresh, gap-beyond, gap-next, reached-arrived}
use Rattle.tap_carry.proofs.inbox.Inbox.arrived.Goals as goal

-- the number has arrived
was_there : (c : goal.Then-seq-reached) → has_arrived c.args.self.now c.args.from c.args.seq ≡ true
was_there c =
    let box : InboxValue = record { reached = c.self.inside.reached.entries; beyond = c.self.inside.beyond.keys } in
    rw (← c.self.view_is)
    (reached-arrived box c.args.from c.args.seq c.requires (rw (← c.kept_in-kept.ensures.number) c.if-seq-reached.true))

pub returns-then-seq-reached-clause-first : goal.returns-then-seq-reached-clause-first
returns-then-seq-reached-clause-first c = ap not (sym (was_there c))

pub returns-then-seq-reached-clause-after : goal.returns-then-seq-reached-clause-after
returns-then-seq-reached-clause-after c = arrives-again c.args.self.now c.args.from c.args.seq (was_there c)

-- it lies beyond a gap
updates_of : (c : goal.In_ok-insert) → (x : List ℕ) (k : ℕ)
    → has_pair c.insert.new.self.keys x k ≡ cond (is_same c.args.from c.args.seq x k) true (has_pair c.self.inside.beyond.keys x k)
updates_of c = pair-updated c.self.inside.beyond.keys c.insert.new.self.keys c.args.from c.args.seq true c.in_ok-insert.ensures.updates.0

pub invariant_of-self-then-seq-reached-2 : goal.invariant_of-self-then-seq-reached-2
invariant_of-self-then-seq-reached-2 c =
    gap-beyond c.self.inside.reached.entries c.self.inside.beyond.keys c.insert.new.self.keys c.args.from c.args.seq c.self.invariant
    (rw (← c.kept_in-kept.ensures.number) c.if-seq-reached-2.true) c.ranges.seq.fits (updates_of c)

pub returns-then-seq-reached-2-clause-first : goal.returns-then-seq-reached-2-clause-first
returns-then-seq-reached-2-clause-first c =
    let above : number_of c.self.inside.reached.entries c.args.from < c.args.seq = omega (arith, c.kept_in-kept.ensures.number, c.if-seq-reached-2.true) in
    let box : InboxValue = record { reached = c.self.inside.reached.entries; beyond = c.self.inside.beyond.keys } in
    rw (← c.self.view_is, beyond-arrived box c.args.from c.args.seq above)
    c.in_ok-insert.ensures.added

pub returns-then-seq-reached-2-clause-after : goal.returns-then-seq-reached-2-clause-after
returns-then-seq-reached-2-clause-after c =
    let box : InboxValue = record { reached = c.self.inside.reached.entries; beyond = c.self.inside.beyond.keys } in
    let after : InboxValue = record { reached = c.self.inside.reached.entries; beyond = c.insert.new.self.keys } in
    rw (← c.self.view_is) (arrives-beyond box after c.args.from c.args.seq refl (updates_of c))

-- it is the next one
raised_of : (c : goal.After-raise) → (x : List ℕ)
    → number_of c.raise.new.reached.entries x ≡ (if is_name c.args.from x then c.pass-end.result else number_of c.self.inside.reached.entries x)
raised_of c x =
    c.raise.ensures x
    ∙ ap (λ (n : ℕ). if is_name c.args.from x then c.pass-end.result else n)
    (number-updated c.self.inside.reached.entries c.keep.new.numbers.entries c.args.from c.args.seq c.in_ok-keep.ensures.updates.0 x)
    ∙ twice (is_name c.args.from x) c.pass-end.result c.args.seq (number_of c.self.inside.reached.entries x)
  where
    twice : (b : Bool) (end seq n : ℕ) → (if b then end else (if b then seq else n)) ≡ (if b then end else n)
    twice true end seq n = refl
    twice false end seq n = refl

next_is : (c : goal.After-raise) → c.args.seq ≡ number_of c.self.inside.reached.entries c.args.from + 1
next_is c = omega (arith, c.kept_in-kept.ensures.number, c.if-seq-reached.false, c.if-seq-reached-2.false)

pub invariant_of-self-2 : goal.invariant_of-self-2
invariant_of-self-2 c =
    gap-next c.self.inside.reached.entries c.raise.new.reached.entries c.self.inside.beyond.keys c.pass-end.new.beyond.keys c.args.from c.args.seq c.pass-end.result
    c.pass-end.ensures.passed (next_is c) (raised_of c) c.self.invariant c.pass-end.ensures.gap

pub returns-clause-first : goal.returns-clause-first
returns-clause-first c = rw (← c.self.view_is)
    (sym (ap not (fresh (record { reached = c.self.inside.reached.entries; beyond = c.self.inside.beyond.keys }) c.args.from c.args.seq c.self.invariant (next_is c))))

pub returns-clause-after : goal.returns-clause-after
returns-clause-after c = rw (← c.self.view_is)
    (arrives-next c.self.inside.reached.entries c.raise.new.reached.entries c.self.inside.beyond.keys c.pass-end.new.beyond.keys c.args.from c.args.seq
    c.pass-end.result c.pass-end.ensures.passed (next_is c) (raised_of c))

pub returns-then-seq-reached-2-clause-answered : goal.returns-then-seq-reached-2-clause-answered
returns-then-seq-reached-2-clause-answered c = (returns-then-seq-reached-2-clause-first c, returns-then-seq-reached-2-clause-after c)

pub returns-clause-answered : goal.returns-clause-answered
returns-clause-answered c = (returns-clause-first c, returns-clause-after c)
