use Rattle.std.proofs.Common.{◌≡◌, ℕ, ◌==◌, ◌≤◌, length, Option, is_some, get_or, refl, ap, sym, ◌∙◌}
use Rattle.std.specs.Option.{option_map_or}
use Rattle.std.specs.Vec.{vec_len}
use Rattle.std.proofs.lemmas.Bool.{eqb-true}
use Rattle.tap_outstanding.specs.Levels.{sum_before}
use Rattle.tap_outstanding.specs.Outstanding.{flights_from, taken_at_place}
use Rattle.tap_outstanding.proofs.Towers.{mark-within}
use Rattle.tap_outstanding.proofs.Flights.{place-found, place-absent}
use Rattle.tap_outstanding.proofs.KeptMarks.{kept-size, kept-taken, taken-further, taken-less, unmarked, value_of, value-taken}
use Rattle.tap_outstanding.proofs.outstanding.Outstanding.take_number.Goals as goal

pub returns-then-not-is_marked-clause-taken : goal.returns-then-not-is_marked-clause-taken
returns-then-not-is_marked-clause-taken c =
    let marks = c.self.inside.marks.items in
    let is : c.is_marked.result ≡ (get_or c.self.inside.marks.items c.args.number 0 == 1) =
    rw (← c.deref.ensures.value) c.is_marked.ensures in
    let absent = place-absent c.args.number c.self.inside.records.items marks
    (unmarked marks c.args.number c.self.invariant.kept.tower.ones
    (sym is ∙ c.if-not-is_marked.true)) in
    rw (← c.self.view_is) (ap (λ (o : Option ℕ). is_some o) (sym absent))

pub returns-then-not-is_marked-clause-after : goal.returns-then-not-is_marked-clause-after
returns-then-not-is_marked-clause-after c =
    let marks = c.self.inside.marks.items in
    let is : c.is_marked.result ≡ (get_or c.self.inside.marks.items c.args.number 0 == 1) =
    rw (← c.deref.ensures.value) c.is_marked.ensures in
    let absent = place-absent c.args.number c.self.inside.records.items marks
    (unmarked marks c.args.number c.self.invariant.kept.tower.ones
    (sym is ∙ c.if-not-is_marked.true)) in
    let v = value_of (vec_len c.self.inside.records) (flights_from 0 c.self.inside.records.items marks) c.self.inside.room in
    rw (← c.self.view_is) (ap (λ (o : Option ℕ). option_map_or (taken_at_place v) o v) (sym absent))

pub invariant_of-self : goal.invariant_of-self
invariant_of-self c =
    let marks = c.self.inside.marks.items in
    let is : c.is_marked.result ≡ (get_or c.self.inside.marks.items c.args.number 0 == 1) =
    rw (← c.deref.ensures.value) c.is_marked.ensures in
    let mark : get_or marks c.args.number 0 ≡ 1 =
    eqb-true (get_or marks c.args.number 0) 1 (sym is ∙ c.if-not-is_marked.false) in
    let within : c.next_mark-self-inside.result ≤ length c.lower.new.marks.items =
    rw (← c.deref-2.ensures.value) c.next_mark-self-inside.ensures.within in
    let none : sum_before c.lower.new.marks.items c.next_mark-self-inside.result ≡ sum_before c.lower.new.marks.items c.self.inside.low =
    rw (← c.deref-2.ensures.value) c.next_mark-self-inside.ensures.none in
    record {
      kept = kept-taken c.self.inside.records c.self.inside.marks c.self.inside.sums c.self.inside.count c.self.inside.room c.self.invariant.kept
          c.lower.new.marks c.lower.new.sums c.args.number mark c.lower.ensures.tower c.lower.ensures.marks c.lower.ensures.len
          c.lower.ensures.capacity c.lower.ensures.rooms;
      taken = taken-further c.lower.new.marks.items c.self.inside.low c.next_mark-self-inside.result
          within none
          (taken-less marks c.lower.new.marks.items c.args.number c.self.inside.low c.lower.ensures.marks c.self.invariant.taken);
    }

pub returns-clause-taken : goal.returns-clause-taken
returns-clause-taken c =
    let marks = c.self.inside.marks.items in
    let is : c.is_marked.result ≡ (get_or c.self.inside.marks.items c.args.number 0 == 1) =
    rw (← c.deref.ensures.value) c.is_marked.ensures in
    let mark : get_or marks c.args.number 0 ≡ 1 =
    eqb-true (get_or marks c.args.number 0) 1 (sym is ∙ c.if-not-is_marked.false) in
    let found = place-found c.args.number c.self.inside.records.items marks
    (kept-size c.self.inside.records c.self.inside.marks c.self.inside.sums c.self.inside.count c.self.inside.room c.self.invariant.kept)
    c.self.invariant.kept.tower.ones (mark-within marks c.args.number mark) mark in
    rw (← c.self.view_is) (ap (λ (o : Option ℕ). is_some o) (sym found))

pub returns-clause-after : goal.returns-clause-after
returns-clause-after c =
    let marks = c.self.inside.marks.items in
    let is : c.is_marked.result ≡ (get_or c.self.inside.marks.items c.args.number 0 == 1) =
    rw (← c.deref.ensures.value) c.is_marked.ensures in
    let mark : get_or marks c.args.number 0 ≡ 1 =
    eqb-true (get_or marks c.args.number 0) 1 (sym is ∙ c.if-not-is_marked.false) in
    let found = place-found c.args.number c.self.inside.records.items marks
    (kept-size c.self.inside.records c.self.inside.marks c.self.inside.sums c.self.inside.count c.self.inside.room c.self.invariant.kept)
    c.self.invariant.kept.tower.ones (mark-within marks c.args.number mark) mark in
    let v = value_of (vec_len c.self.inside.records) (flights_from 0 c.self.inside.records.items marks) c.self.inside.room in
    rw (← c.self.view_is)
    (value-taken c.self.inside.records c.self.inside.marks c.self.inside.sums c.self.inside.count c.self.inside.room c.self.invariant.kept
    c.lower.new.marks.items c.args.number (sum_before marks c.args.number) c.lower.ensures.marks mark refl
    ∙ ap (λ (o : Option ℕ). option_map_or (taken_at_place v) o v) (sym found))
