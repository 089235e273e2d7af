use Rattle.std.proofs.Common.{◌+◌, ◌<◌, ◌≤◌, [], ◌∷◌, refl, arith}
use Rattle.std.proofs.lemmas.List.{map-append}
use Rattle.std.specs.Ordering.{nat_cmp}
use Rattle.std.proofs.lemmas.Map.Views.{All-keys-insert_entry, All-values-insert_entry}
use Rattle.tap_session.specs.declared.sessions.Awaited.{Awaited}
use Rattle.tap_session.specs.Session.{SessionsValue}
use Rattle.tap_session.specs.Awaited.{session, sessions_of}
use Rattle.tap_session.proofs.Entries.{are_sessions, insert_entry-last}
use Rattle.tap_session.proofs.Transitions.{session_of-opened}
use Rattle.tap_session.proofs.sessions.Sessions.open.Goals as goal

pub invariant_of-self-2 : goal.invariant_of-self-2
invariant_of-self-2 c =
    let entries = c.self.inside.awaited.entries in
    let opened = c.self.inside.opened in
    let a : Awaited = record { parent = c.args.parent; depth = c.args.depth; waiting = c.args.waiting } in
    let room : opened < 500001 = rw (← c.self.view_is) at c.requires.room in
    rw c.in_ok-insert.ensures.entries (record {
      given = All-keys-insert_entry nat_cmp (opened + 1) a (λ id. (1 ≤ id) × (id ≤ opened + 1)) entries
          (λ k d h. let was = c.self.invariant.given k d h in (was.0, omega arith)) (omega arith, omega arith);
      waiting = All-values-insert_entry nat_cmp (opened + 1) a (λ a. 1 ≤ a.waiting) entries c.self.invariant.waiting c.requires.waits;
      few = omega arith;
    })

pub returns : goal.returns
returns c =
    let entries = c.self.inside.awaited.entries in
    let opened = c.self.inside.opened in
    let a : Awaited = record { parent = c.args.parent; depth = c.args.depth; waiting = c.args.waiting } in
    let s : SessionsValue = record { sessions = sessions_of entries; opened = opened } in
    let are = are_sessions entries opened c.insert.ensures.was_ordered c.self.invariant in
    rw (
      ← c.self.view_is,
      c.in_ok-insert.ensures.entries,
      insert_entry-last entries opened a c.self.invariant.given,
      map-append (λ e. session e.0 e.1) entries ((opened + 1, a) ∷ []),
    )
    (record {
      number = refl;
      after = refl;
      look_up = session_of-opened s are c.args.parent c.args.depth c.args.waiting;
      same = tt;
    })
