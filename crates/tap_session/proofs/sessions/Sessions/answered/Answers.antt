use Rattle.std.proofs.Common.{◌≡◌, ◌==◌, ◌-◌, ◌≤◌, true, false, None, Some, refl, sym, ◌∙◌, arith, eq-eqb}
use Rattle.std.specs.BTreeMap.{is_at}
use Rattle.std.specs.Ordering.{nat_cmp}
use Rattle.std.proofs.lemmas.Map.{keys-set_value}
use Rattle.std.proofs.lemmas.Map.Steps.{set_value_same}
use Rattle.std.proofs.lemmas.Map.Views.{All-map-remove_entry, All-values-set_value}
use Rattle.tap_session.specs.declared.sessions.Awaited.{Awaited}
use Rattle.tap_session.specs.declared.sessions.Answered.TheVariants.{Open, Closed, Unknown}
use Rattle.tap_session.specs.Session.{SessionsValue}
use Rattle.tap_session.specs.Awaited.{sessions_of}
use Rattle.tap_session.proofs.Entries.{are_sessions, awaited_at, session_of-sessions_of, after_answer-absent, after_answer-closed, after_answer-open, waits, not_last}
use Rattle.tap_session.proofs.Transitions.{answers}
use Rattle.tap_session.proofs.sessions.Sessions.answered.Goals as goal

-- no session of the number is open
pub returns-in_default : goal.returns-in_default
returns-in_default c =
    let entries = c.self.inside.awaited.entries in
    let s : SessionsValue = record { sessions = sessions_of entries; opened = c.self.inside.opened } in
    let are = are_sessions entries c.self.inside.opened c.get_mut.ensures.ordered c.self.invariant in
    let absent : awaited_at c.args.id entries ≡ None = sym c.in_default.ensures.value in
    let is = answers s are c.args.id (sessions_of entries) Unknown (rw (session_of-sessions_of entries c.args.id, absent) refl)
    (sym (after_answer-absent c.args.id entries absent)) in
    rw (← c.self.view_is, c.get_mut.follows.holds-at-none)
    (record { answer = is.answer; after = is.after; look_up = is.look_up; unknown = is.unknown })

-- further answers are awaited
pub invariant_of-self-then-awaited-gt1 : goal.invariant_of-self-then-awaited-gt1
invariant_of-self-then-awaited-gt1 c =
    let entries = c.self.inside.awaited.entries in
    let a = c.in-Some.awaited.now in
    let less : Awaited = record a { waiting = a.waiting - 1 } in
    rw (c.get_mut.follows.holds less).0 (record {
      given = rw (keys-set_value (is_at (nat_cmp c.args.id)) entries less) c.self.invariant.given;
      waiting = All-values-set_value (is_at (nat_cmp c.args.id)) (λ a. 1 ≤ a.waiting) entries less c.self.invariant.waiting (omega arith);
      few = c.self.invariant.few;
    })

pub returns-then-awaited-gt1 : goal.returns-then-awaited-gt1
returns-then-awaited-gt1 c =
    let entries = c.self.inside.awaited.entries in
    let s : SessionsValue = record { sessions = sessions_of entries; opened = c.self.inside.opened } in
    let are = are_sessions entries c.self.inside.opened c.get_mut.ensures.ordered c.self.invariant in
    let a = c.in-Some.awaited.now in
    let less : Awaited = record a { waiting = a.waiting - 1 } in
    let found : awaited_at c.args.id entries ≡ Some a = sym c.in-Some.ensures.value in
    let more : (a.waiting == 1) ≡ false = not_last a c.if-awaited-gt1.true in
    let is = answers s are c.args.id (sessions_of (c.get_mut.follows.lender less).entries) Open
    (rw (session_of-sessions_of entries c.args.id, found, more) refl)
    (rw (c.get_mut.follows.holds less).0 (after_answer-open c.args.id a entries c.get_mut.ensures.ordered found more)) in
    rw (← c.self.view_is) (record { answer = is.answer; after = is.after; look_up = is.look_up; unknown = is.unknown })

-- it was the last one
pub invariant_of-self-2 : goal.invariant_of-self-2
invariant_of-self-2 c =
    let entries = c.self.inside.awaited.entries in
    let a = c.in-Some.awaited.now in
    let found : awaited_at c.args.id entries ≡ Some a = sym c.in-Some.ensures.value in
    let unwritten : (c.get_mut.follows.lender a).entries ≡ entries = (c.get_mut.follows.holds a).0
    ∙ set_value_same (is_at (nat_cmp c.args.id)) entries a found in
    rw (c.remove.ensures.entries, unwritten) (record {
      given = All-map-remove_entry (is_at (nat_cmp c.args.id)) (λ e. e.0)
          (λ id. (1 ≤ id) × (id ≤ c.self.inside.opened)) entries c.self.invariant.given;
      waiting = All-map-remove_entry (is_at (nat_cmp c.args.id)) (λ e. e.1) (λ a. 1 ≤ a.waiting) entries c.self.invariant.waiting;
      few = c.self.invariant.few;
    })

pub returns : goal.returns
returns c =
    let entries = c.self.inside.awaited.entries in
    let s : SessionsValue = record { sessions = sessions_of entries; opened = c.self.inside.opened } in
    let are = are_sessions entries c.self.inside.opened c.get_mut.ensures.ordered c.self.invariant in
    let a = c.in-Some.awaited.now in
    let found : awaited_at c.args.id entries ≡ Some a = sym c.in-Some.ensures.value in
    let unwritten : (c.get_mut.follows.lender a).entries ≡ entries = (c.get_mut.follows.holds a).0
    ∙ set_value_same (is_at (nat_cmp c.args.id)) entries a found in
    let least : 1 ≤ a.waiting = waits c.args.id a entries c.self.invariant.waiting found in
    let last : (a.waiting == 1) ≡ true = eq-eqb a.waiting 1 (omega arith) in
    let is = answers s are c.args.id (sessions_of c.remove.new.self.entries) (Closed a.parent)
    (rw (session_of-sessions_of entries c.args.id, found, last) refl)
    (rw (c.remove.ensures.entries, unwritten) (after_answer-closed c.args.id a entries c.get_mut.ensures.ordered found last)) in
    rw (← c.self.view_is) (record { answer = is.answer; after = is.after; look_up = is.look_up; unknown = is.unknown })
