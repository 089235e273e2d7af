use Rattle.std.proofs.Common.{arith}
use Rattle.tap_log.specs.Log.{last_of}
use Rattle.tap_engine.specs.Kinds.{tells_roots}
use Rattle.tap_engine.proofs.Roots.{has_three, lacks_three, leaves_room}
use Rattle.tap_engine.proofs.engine.Engine.remark.Goals as goal

pub remark_reserved-requires-clause-room : goal.remark_reserved-requires-clause-room
remark_reserved-requires-clause-room c =
    let three = has_three (tells_roots c.args.item) c.args.self.now.ledger.spare c.has_room_for.result c.has_room_for.ensures
    c.if-has_room_for.true in
    omega (arith, three)

pub returns-then-has_room_for-clause-room : goal.returns-then-has_room_for-clause-room
returns-then-has_room_for-clause-room c = λ _.
    let three = has_three (tells_roots c.args.item) c.args.self.now.ledger.spare c.has_room_for.result c.has_room_for.ensures
    c.if-has_room_for.true in
    leaves_room (last_of c.args.self.now.ledger.records) c.args.self.now.ledger.spare c.remark_reserved.new.self.spare three
    c.remark_reserved.ensures.spare

pub returns-in_err-remark-clause-roots : goal.returns-in_err-remark-clause-roots
returns-in_err-remark-clause-roots c = λ tells three.
    absurd (lacks_three (tells_roots c.args.item) c.args.self.now.ledger.spare c.has_room_for.result c.has_room_for.ensures
    c.if-has_room_for.false tells three)
