use Rattle.tap_register.specs.Registers.{IsAt, IsGap}
use Rattle.tap_register.proofs.Applied.{IsAscending-applied, applies_new, applies_newer, applies_stale}
use Rattle.tap_register.proofs.registers.Registers.apply.Goals as goal

pub invariant_of-self : goal.invariant_of-self
invariant_of-self g c =
    let cmp = g.K.Ord.cmp in
    let entries = c.self.inside.entries.items in
    let place : IsAt cmp entries c.args.key c.in-Ok.at = rw c.deref.ensures.value at c.in-Ok.ensures.found in
    let is = applies_newer cmp g.met.K.Ord.total entries c.args.key c.args.version c.args.value c.in-Ok.at c.index.result.now place
    c.index.ensures c.if-index-version.false in
    rw is.after (IsAscending-applied cmp g.met.K.Ord.total entries c.args.key c.args.version c.args.value c.self.invariant)

pub invariant_of-self-in-Err : goal.invariant_of-self-in-Err
invariant_of-self-in-Err g c =
    let cmp = g.K.Ord.cmp in
    let entries = c.self.inside.entries.items in
    let gap : IsGap cmp entries c.args.key c.in-Err.at = rw c.deref.ensures.value at c.in-Err.ensures.absent in
    let is = applies_new cmp g.met.K.Ord.total entries c.args.key c.args.version c.args.value c.in-Err.at gap in
    rw (c.in_ok-put_in-in-Err.ensures.items, is.after)
    (IsAscending-applied cmp g.met.K.Ord.total entries c.args.key c.args.version c.args.value c.self.invariant)

pub returns-then-index-version : goal.returns-then-index-version
returns-then-index-version g c =
    let cmp = g.K.Ord.cmp in
    let entries = c.self.inside.entries.items in
    let place : IsAt cmp entries c.args.key c.in-Ok.at = rw c.deref.ensures.value at c.in-Ok.ensures.found in
    let is = applies_stale cmp g.met.K.Ord.total entries c.args.key c.args.version c.args.value c.in-Ok.at c.index.result.now place
    c.index.ensures c.if-index-version.true in
    rw (← c.self.view_is) (record { answer = is.answer; after = is.after; look_up = is.look_up; same = tt; new_key = tt })

pub returns-else-index-version : goal.returns-else-index-version
returns-else-index-version g c =
    let cmp = g.K.Ord.cmp in
    let entries = c.self.inside.entries.items in
    let place : IsAt cmp entries c.args.key c.in-Ok.at = rw c.deref.ensures.value at c.in-Ok.ensures.found in
    let is = applies_newer cmp g.met.K.Ord.total entries c.args.key c.args.version c.args.value c.in-Ok.at c.index.result.now place
    c.index.ensures c.if-index-version.false in
    rw (← c.self.view_is) (record { answer = is.answer; after = is.after; look_up = is.look_up; same = tt; new_key = tt })

pub returns-in_ok-put_in-in-Err : goal.returns-in_ok-put_in-in-Err
returns-in_ok-put_in-in-Err g c =
    let cmp = g.K.Ord.cmp in
    let entries = c.self.inside.entries.items in
    let gap : IsGap cmp entries c.args.key c.in-Err.at = rw c.deref.ensures.value at c.in-Err.ensures.absent in
    let is = applies_new cmp g.met.K.Ord.total entries c.args.key c.args.version c.args.value c.in-Err.at gap in
    rw (← c.self.view_is, c.in_ok-put_in-in-Err.ensures.items)
    (record { answer = is.answer; after = is.after; look_up = is.look_up; same = tt; new_key = tt })
