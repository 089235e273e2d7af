use Rattle.std.proofs.Common.{◌≡◌, ◌∙◌, ◌+◌, true, false, length, refl, sym, ap}
use Rattle.std.specs.Prelude.{nat_le}
use Rattle.tap_carry.specs.Outbox.{most_frames}
use Rattle.tap_host_line.specs.declared.why.Why.TheVariants as why
use Rattle.tap_host_line.specs.Texts.{text_of_begun}
use Rattle.tap_node.specs.Node.{has_room_left, node_status}
use Rattle.tap_node.specs.Outcome.{start_outcome}
use Rattle.tap_host.specs.Actor.{below_given, has_start, is_new, start_of}
use Rattle.tap_host.specs.Host.{with_node}
use Rattle.tap_host.specs.Intake.{has_taken}
use Rattle.tap_host.proofs.Kept.{runs_if, start_wants}
use Rattle.tap_host.proofs.Steps.{acted_host, after_full, after_turn, fills_as, refuses_as, seen_host, start_full, start_none, start_old, start_steps, turns_as, turn_answer}
use Rattle.tap_host.proofs.host.Host.start.Goals as goal

pub returns-then-not-has_start : goal.returns-then-not-has_start
returns-then-not-has_start c =
    let a = c.self.inside.actor in
    let m = c.self.inside.mail in
    let i0 = c.self.inside.intake in
    let b = c.self.inside.begun in
    let number = c.args.number in
    let start = c.args.start.now in
    let h = seen_host a m i0 b in
    let there : has_start (node_status c.self.inside.actor.node) c.args.start.now ≡ false = sym c.has_start.ensures ∙ c.if-not-has_start.true in
    rw (← c.self.view_is)
    (refuses_as c.refuse.result _ _ _ _ h number why.Status (start_none a m i0 b number start there) refl c.refuse.ensures)

pub returns-then-not-is_new : goal.returns-then-not-is_new
returns-then-not-is_new c =
    let a = c.self.inside.actor in
    let m = c.self.inside.mail in
    let i0 = c.self.inside.intake in
    let b = c.self.inside.begun in
    let number = c.args.number in
    let start = c.args.start.now in
    let h = seen_host a m i0 b in
    let there : has_start (node_status c.self.inside.actor.node) c.args.start.now ≡ true = sym c.has_start.ensures ∙ c.if-not-has_start.false in
    let new : is_new c.self.inside.actor.casts_below c.args.start.now ≡ false = sym c.is_new.ensures ∙ c.if-not-is_new.true in
    rw (← c.self.view_is)
    (refuses_as c.refuse-then-not-is_new.result _ _ _ _ h number why.Number (start_old a m i0 b number start there new) refl
    c.refuse-then-not-is_new.ensures)

pub returns-then-not-room : goal.returns-then-not-room
returns-then-not-room c =
    let a = c.self.inside.actor in
    let m = c.self.inside.mail in
    let i0 = c.self.inside.intake in
    let b = c.self.inside.begun in
    let number = c.args.number in
    let start = c.args.start.now in
    let h = seen_host a m i0 b in
    let there : has_start (node_status c.self.inside.actor.node) c.args.start.now ≡ true = sym c.has_start.ensures ∙ c.if-not-has_start.false in
    let new : is_new c.self.inside.actor.casts_below c.args.start.now ≡ true = sym c.is_new.ensures ∙ c.if-not-is_new.false in
    let room : has_room_left c.self.inside.actor.node ≡ false =
    ap has_room_left (sym c.node.ensures) ∙ sym c.room.ensures ∙ c.if-not-room.true in
    rw (← c.self.view_is)
    (fills_as c.full.result _ _ _ _ h number (start_full a m i0 b number start there new room) c.full.ensures)

pub only_memory-requires : goal.only_memory-requires
only_memory-requires c =
    let node = c.self.inside.actor.node in
    let there : has_start (node_status node) c.args.start.now ≡ true = sym c.has_start.ensures ∙ c.if-not-has_start.false in
    start_wants node c.begin.new.self.node (start_of c.args.start.now) c.begin.result c.in-Err.fault (runs_if node c.args.start.now there)
    c.begin.ensures.node c.in-Err.is

pub returns-then-not-has_room : goal.returns-then-not-has_room
returns-then-not-has_room c =
    let a = c.self.inside.actor in
    let m = c.self.inside.mail in
    let i0 = c.self.inside.intake in
    let b = c.self.inside.begun in
    let number = c.args.number in
    let start = c.args.start.now in
    let h = seen_host a m i0 b in
    let there : has_start (node_status c.self.inside.actor.node) c.args.start.now ≡ true = sym c.has_start.ensures ∙ c.if-not-has_start.false in
    let new : is_new c.self.inside.actor.casts_below c.args.start.now ≡ true = sym c.is_new.ensures ∙ c.if-not-is_new.false in
    let room : has_room_left c.self.inside.actor.node ≡ true =
    ap has_room_left (sym c.node.ensures) ∙ sym c.room.ensures ∙ c.if-not-room.false in
    let given = turn_answer (start_outcome a.node (start_of start)) a.node c.begin.new.self.node c.begin.result c.in-Ok.turn c.begin.ensures.node
    c.in-Ok.is in
    let numbers : nat_le (c.self.inside.mail.sent + length c.in-Ok.turn.sent) most_frames ≡ false =
    ap (λ n. nat_le (c.self.inside.mail.sent + n) most_frames) (sym c.len.ensures) ∙ sym c.has_room.ensures ∙ c.if-not-has_room.true in
    rw (← c.self.view_is)
    (fills_as c.full-then-not-has_room.result _ _ _ _ h number
    (start_steps a m i0 b number start there new room
    ∙ after_full h h number text_of_begun (start_outcome a.node (start_of start)) c.in-Ok.turn given.0 numbers)
    c.full-then-not-has_room.ensures)

pub returns : goal.returns
returns c =
    let a = c.self.inside.actor in
    let m = c.self.inside.mail in
    let i0 = c.self.inside.intake in
    let b = c.self.inside.begun in
    let number = c.args.number in
    let start = c.args.start.now in
    let h = seen_host a m i0 b in
    let there : has_start (node_status c.self.inside.actor.node) c.args.start.now ≡ true = sym c.has_start.ensures ∙ c.if-not-has_start.false in
    let new : is_new c.self.inside.actor.casts_below c.args.start.now ≡ true = sym c.is_new.ensures ∙ c.if-not-is_new.false in
    let room : has_room_left c.self.inside.actor.node ≡ true =
    ap has_room_left (sym c.node.ensures) ∙ sym c.room.ensures ∙ c.if-not-room.false in
    let given = turn_answer (start_outcome a.node (start_of start)) a.node c.begin.new.self.node c.begin.result c.in-Ok.turn c.begin.ensures.node
    c.in-Ok.is in
    let numbers : nat_le (c.self.inside.mail.sent + length c.in-Ok.turn.sent) most_frames ≡ true =
    ap (λ n. nat_le (c.self.inside.mail.sent + n) most_frames) (sym c.len.ensures) ∙ sym c.has_room.ensures ∙ c.if-not-has_room.false in
    let x = c.begin.new.self in
    let turn = c.in-Ok.turn in
    let below = c.begin.ensures.below ∙ ap (below_given a.casts_below) c.in-Ok.is in
    rw (← c.self.view_is)
    (turns_as c.turned.result _ _ _ _ (seen_host x m i0 b) (with_node h x.node turn) turn text_of_begun c.put_begun.new.out.items
    (start_steps a m i0 b number start there new room
    ∙ after_turn h h number text_of_begun (start_outcome a.node (start_of start)) x.node turn given.0 given.1 numbers)
    (acted_host a x m i0 i0 b (has_taken i0) turn below refl)
    c.in_ok-put_begun.ensures c.turned.ensures)
