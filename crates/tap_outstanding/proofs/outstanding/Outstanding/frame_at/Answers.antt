use Rattle.std.proofs.Common.{ℕ, ◌≤◌, ◌≡◌, length, get_or, Some, ap, sym, ◌∙◌, arith}
use Rattle.std.proofs.lemmas.Option.{slice_get_past}
use Rattle.tap_outstanding.specs.Levels.{sum_before}
use Rattle.tap_outstanding.specs.Outstanding.{frame_with, flights_from}
use Rattle.tap_outstanding.proofs.Flights.{frame-found}
use Rattle.tap_outstanding.proofs.KeptMarks.{kept-size, kept-count}
use Rattle.tap_outstanding.proofs.outstanding.Outstanding.frame_at.Goals as goal

pub returns-then-place-self : goal.returns-then-place-self
returns-then-place-self c =
    let mark : get_or c.self.inside.marks.items c.find_after-number.result 0 ≡ 1 =
    rw (← c.deref.ensures.value) c.find_after-number.ensures.mark in
    let before : sum_before c.self.inside.marks.items c.find_after-number.result ≡ c.args.place =
    rw (← c.deref.ensures.value) c.find_after-number.ensures.place in
    rw (← c.self.view_is)
    (ap (λ (x : ℕ). Some (frame_with c.find_after-number.result x)) c.index.ensures
    ∙ sym (frame-found c.find_after-number.result c.args.place c.index.result.now c.self.inside.records.items c.self.inside.marks.items
    (kept-size c.self.inside.records c.self.inside.marks c.self.inside.sums c.self.inside.count c.self.inside.room c.self.invariant.kept)
    c.self.invariant.kept.tower.ones mark before))

pub returns-else-place-self : goal.returns-else-place-self
returns-else-place-self c =
    let count = kept-count c.self.inside.records c.self.inside.marks c.self.inside.sums c.self.inside.count c.self.inside.room c.self.invariant.kept in
    let past : length (flights_from 0 c.self.inside.records.items c.self.inside.marks.items) ≤ c.args.place = omega arith in
    rw (← c.self.view_is)
    (sym (slice_get_past (flights_from 0 c.self.inside.records.items c.self.inside.marks.items) c.args.place past))
