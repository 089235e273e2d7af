use Rattle.std.proofs.Common.{◌≡◌, ℕ, ◌==◌, Some, get_or, slice_get, ap, sym, ◌∙◌, refl}
use Rattle.std.specs.Prelude.{option_and_then}
use Rattle.std.proofs.lemmas.Bool.{eqb-true}
use Rattle.tap_outstanding.specs.Levels.{sum_before}
use Rattle.tap_outstanding.specs.Outstanding.{flights_from, frame_with}
use Rattle.tap_outstanding.proofs.Towers.{mark-within}
use Rattle.tap_outstanding.proofs.Flights.{frame-found, place-found, place-absent}
use Rattle.tap_outstanding.proofs.KeptMarks.{kept-size, unmarked}
use Rattle.tap_outstanding.proofs.outstanding.Outstanding.frame_of.Goals as goal

pub returns-then-is_marked : goal.returns-then-is_marked
returns-then-is_marked c =
    let places = c.self.inside.records.items in
    let marks = c.self.inside.marks.items in
    let number = c.args.number in
    let size = kept-size c.self.inside.records c.self.inside.marks c.self.inside.sums c.self.inside.count c.self.inside.room c.self.invariant.kept in
    let ones = c.self.invariant.kept.tower.ones in
    let is : c.is_marked.result ≡ (get_or marks number 0 == 1) = rw (← c.deref.ensures.value) c.is_marked.ensures in
    let mark : get_or marks number 0 ≡ 1 = eqb-true (get_or marks number 0) 1 (sym is ∙ c.if-is_marked.true) in
    let flights = flights_from 0 places marks in
    rw (← c.self.view_is)
    (ap (λ (x : ℕ). Some (frame_with number x)) c.index.ensures
    ∙ sym (frame-found number (sum_before marks number) c.index.result.now places marks size ones mark refl)
    ∙ ap (option_and_then (slice_get flights)) (sym (place-found number places marks size ones (mark-within marks number mark) mark)))

pub returns-else-is_marked : goal.returns-else-is_marked
returns-else-is_marked c =
    let places = c.self.inside.records.items in
    let marks = c.self.inside.marks.items in
    let is : c.is_marked.result ≡ (get_or marks c.args.number 0 == 1) = rw (← c.deref.ensures.value) c.is_marked.ensures in
    rw (← c.self.view_is)
    (ap (option_and_then (slice_get (flights_from 0 places marks)))
    (sym (place-absent c.args.number places marks
    (unmarked marks c.args.number c.self.invariant.kept.tower.ones (sym is ∙ c.if-is_marked.false)))))
