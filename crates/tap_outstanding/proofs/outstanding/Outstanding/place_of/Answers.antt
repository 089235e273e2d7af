use Rattle.std.proofs.Common.{◌≡◌, ℕ, ◌==◌, Some, get_or, ap, sym, ◌∙◌}
use Rattle.std.proofs.lemmas.Bool.{eqb-true}
use Rattle.tap_outstanding.specs.Levels.{sum_before}
use Rattle.tap_outstanding.proofs.Towers.{mark-within}
use Rattle.tap_outstanding.proofs.Flights.{place-found, place-absent}
use Rattle.tap_outstanding.proofs.KeptMarks.{kept-size, unmarked}
use Rattle.tap_outstanding.proofs.outstanding.Outstanding.place_of.Goals as goal

pub returns-then-is_marked : goal.returns-then-is_marked
returns-then-is_marked c =
    let rank : c.rank.result ≡ sum_before c.self.inside.marks.items c.args.number = rw (← c.deref-then-is_marked.ensures.value) c.rank.ensures in
    let is : c.is_marked.result ≡ (get_or c.self.inside.marks.items c.args.number 0 == 1) =
    rw (← c.deref.ensures.value) c.is_marked.ensures in
    let mark : get_or c.self.inside.marks.items c.args.number 0 ≡ 1 =
    eqb-true (get_or c.self.inside.marks.items c.args.number 0) 1 (sym is ∙ c.if-is_marked.true) in
    rw (← c.self.view_is)
    (ap (λ (x : ℕ). Some x) rank
    ∙ sym (place-found c.args.number c.self.inside.records.items c.self.inside.marks.items
    (kept-size c.self.inside.records c.self.inside.marks c.self.inside.sums c.self.inside.count c.self.inside.room c.self.invariant.kept)
    c.self.invariant.kept.tower.ones (mark-within c.self.inside.marks.items c.args.number mark) mark))

pub returns-else-is_marked : goal.returns-else-is_marked
returns-else-is_marked c =
    let is : c.is_marked.result ≡ (get_or c.self.inside.marks.items c.args.number 0 == 1) =
    rw (← c.deref.ensures.value) c.is_marked.ensures in
    rw (← c.self.view_is)
    (sym (place-absent c.args.number c.self.inside.records.items c.self.inside.marks.items
    (unmarked c.self.inside.marks.items c.args.number c.self.invariant.kept.tower.ones
    (sym is ∙ c.if-is_marked.false))))
