use Rattle.std.proofs.Common.{◌≡◌, ℕ, ◌≤◌, length, get_or, Some, ap, sym, ◌∙◌, arith}
use Rattle.std.proofs.lemmas.Option.{slice_get_past}
use Rattle.tap_outstanding.specs.Levels.{sum_before}
use Rattle.tap_outstanding.specs.Outstanding.{OutstandingValue, frame_with, flights_from}
use Rattle.tap_outstanding.proofs.Flights.{frame-found}
use Rattle.tap_outstanding.proofs.KeptMarks.{kept-size, kept-count, kept-taken, taken-less, taken-further, value-taken, value-same}
use Rattle.tap_outstanding.proofs.outstanding.Outstanding.take.Goals as goal

pub returns-then-place-self-clause-frame : goal.returns-then-place-self-clause-frame
returns-then-place-self-clause-frame c =
    let count = kept-count c.self.inside.records c.self.inside.marks c.self.inside.sums c.self.inside.count c.self.inside.room c.self.invariant.kept in
    let past : length (flights_from 0 c.self.inside.records.items c.self.inside.marks.items) ≤ c.args.place = omega arith in
    rw (← c.self.view_is)
    (sym (slice_get_past (flights_from 0 c.self.inside.records.items c.self.inside.marks.items) c.args.place past))

pub returns-then-place-self-clause-after : goal.returns-then-place-self-clause-after
returns-then-place-self-clause-after c =
    let count = kept-count c.self.inside.records c.self.inside.marks c.self.inside.sums c.self.inside.count c.self.inside.room c.self.invariant.kept in
    let long = ap (λ (s : OutstandingValue). length s.frames) c.self.view_is in
    let past : length c.args.self.now.frames ≤ c.args.place = omega arith in
    value-same c.args.self.now c.args.place past

pub invariant_of-self : goal.invariant_of-self
invariant_of-self c =
    let mark : get_or c.self.inside.marks.items c.find_after-number.result 0 ≡ 1 =
    rw (← c.deref.ensures.value) c.find_after-number.ensures.mark in
    let within : c.next_mark-self-inside.result ≤ length c.lower.new.marks.items =
    rw (← c.deref-2.ensures.value) c.next_mark-self-inside.ensures.within in
    let none : sum_before c.lower.new.marks.items c.next_mark-self-inside.result ≡ sum_before c.lower.new.marks.items c.self.inside.low =
    rw (← c.deref-2.ensures.value) c.next_mark-self-inside.ensures.none in
    record {
      kept = kept-taken c.self.inside.records c.self.inside.marks c.self.inside.sums c.self.inside.count c.self.inside.room c.self.invariant.kept
          c.lower.new.marks c.lower.new.sums c.find_after-number.result mark c.lower.ensures.tower
          c.lower.ensures.marks c.lower.ensures.len c.lower.ensures.capacity c.lower.ensures.rooms;
      taken = taken-further c.lower.new.marks.items c.self.inside.low c.next_mark-self-inside.result within none
          (taken-less c.self.inside.marks.items c.lower.new.marks.items c.find_after-number.result c.self.inside.low
          c.lower.ensures.marks c.self.invariant.taken);
    }

pub returns-clause-frame : goal.returns-clause-frame
returns-clause-frame c =
    let mark : get_or c.self.inside.marks.items c.find_after-number.result 0 ≡ 1 =
    rw (← c.deref.ensures.value) c.find_after-number.ensures.mark in
    let before : sum_before c.self.inside.marks.items c.find_after-number.result ≡ c.args.place =
    rw (← c.deref.ensures.value) c.find_after-number.ensures.place in
    rw (← c.self.view_is)
    (ap (λ (x : ℕ). Some (frame_with c.find_after-number.result x)) c.index-record_place.ensures
    ∙ sym (frame-found c.find_after-number.result c.args.place c.index-record_place.result.now c.self.inside.records.items
    c.self.inside.marks.items
    (kept-size c.self.inside.records c.self.inside.marks c.self.inside.sums c.self.inside.count c.self.inside.room c.self.invariant.kept)
    c.self.invariant.kept.tower.ones mark before))

pub returns-clause-after : goal.returns-clause-after
returns-clause-after c =
    let mark : get_or c.self.inside.marks.items c.find_after-number.result 0 ≡ 1 =
    rw (← c.deref.ensures.value) c.find_after-number.ensures.mark in
    let before : sum_before c.self.inside.marks.items c.find_after-number.result ≡ c.args.place =
    rw (← c.deref.ensures.value) c.find_after-number.ensures.place in
    rw (← c.self.view_is)
    (value-taken c.self.inside.records c.self.inside.marks c.self.inside.sums c.self.inside.count c.self.inside.room c.self.invariant.kept
    c.lower.new.marks.items c.find_after-number.result c.args.place c.lower.ensures.marks mark before)
