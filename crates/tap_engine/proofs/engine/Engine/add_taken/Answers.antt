use Rattle.std.proofs.Common.{◌≡◌, ◌+◌, List, [], ◌∷◌, ◌++◌, length, refl, ap, sym, subst, ◌∙◌, arith}
use Rattle.std.proofs.Math.Nat.{le-max_right}
use Rattle.tap_log.specs.declared.record.Record.{Record}
use Rattle.tap_log.specs.declared.record.Record.TheVariants.{Taken}
use Rattle.tap_log.specs.Counts.{sent_count}
use Rattle.tap_engine.specs.SeenTurns.{turn_records}
use Rattle.tap_ledger.specs.Added.{CanAdd}
use Rattle.tap_ledger.proofs.Adding.{can_first}
use Rattle.tap_engine.specs.declared.engine.Acted.{Acted}
use Rattle.tap_engine.specs.declared.engine.Engine.{Engine}
use Rattle.tap_engine.proofs.Counting.{group_may_be_added, logs_added, logs_spent, turn_added, turn_may_be_added}
use Rattle.tap_engine.proofs.engine.Engine.add_taken.Goals as goal

pub returns-then-is_too_many-clause-logs : goal.returns-then-is_too_many-clause-logs
returns-then-is_too_many-clause-logs c =
    let m = c.args.self.now in
    let acted : Acted = record { name = c.args.name.now; turn = record { sent = c.args.sent; news = c.args.news.now } } in
    let all : List Record = Taken c.args.number ∷ turn_records (sent_count m.ledger.records) acted.name acted.turn in
    let spent = c.spend.ensures in
    logs_spent m c.spend.new.self [] all (length acted.turn.sent) c.spend.result c.requires.can_add.counts c.requires.sent
    (sym c.is_too_many.ensures ∙ c.if-is_too_many.true) spent.answer spent.log spent.same

pub push_reserved-requires-clause-can_add : goal.push_reserved-requires-clause-can_add
push_reserved-requires-clause-can_add c =
    let m = c.args.self.now in
    let acted : Acted = record { name = c.args.name.now; turn = record { sent = c.args.sent; news = c.args.news.now } } in
    let taken : List Record = Taken c.args.number ∷ [] in
    let can = group_may_be_added m taken acted c.requires.can_add c.requires.sent (sym c.is_too_many.ensures ∙ c.if-is_too_many.false) in
    subst (λ l. CanAdd l taken) (sym c.reserve.ensures.records)
    (can_first m.ledger.records taken (turn_records (sent_count m.ledger.records) acted.name acted.turn) can)

pub push_turn-requires-clause-can_add : goal.push_turn-requires-clause-can_add
push_turn-requires-clause-can_add c =
    let m = c.args.self.now in
    let acted : Acted = record { name = c.args.name.now; turn = record { sent = c.args.sent; news = c.args.news.now } } in
    let taken : List Record = Taken c.args.number ∷ [] in
    let now : c.push_reserved.new.self.records ≡ m.ledger.records ++ taken =
    c.push_reserved.ensures.records ∙ ap (λ l. l ++ taken) c.reserve.ensures.records in
    subst (λ l. CanAdd l (turn_records (sent_count l) acted.name acted.turn)) (sym now)
    (turn_may_be_added m taken acted c.requires.can_add c.requires.sent (sym c.is_too_many.ensures ∙ c.if-is_too_many.false))

pub returns-clause-logs : goal.returns-clause-logs
returns-clause-logs c =
    let m = c.args.self.now in
    let acted : Acted = record { name = c.args.name.now; turn = record { sent = c.args.sent; news = c.args.news.now } } in
    let taken : List Record = Taken c.args.number ∷ [] in
    let after : Engine = record m { ledger = c.push_turn.new.ledger; overlay = c.give_back.new.self } in
    let now : c.push_reserved.new.self.records ≡ m.ledger.records ++ taken =
    c.push_reserved.ensures.records ∙ ap (λ l. l ++ taken) c.reserve.ensures.records in
    let room = c.in_ok-reserve.ensures.ok in
    let one = c.push_reserved.ensures.spare in
    let rest = c.push_turn.ensures.spare in
    let size = c.len.ensures in
    let most = le-max_right m.ledger.spare (c.len.result + 6) in
    logs_added m after [] (taken ++ turn_records (sent_count m.ledger.records) acted.name acted.turn) (length acted.turn.sent)
    c.requires.can_add.counts c.requires.sent (sym c.is_too_many.ensures ∙ c.if-is_too_many.false)
    (turn_added m taken acted c.requires.can_add c.push_reserved.new.self.records c.push_turn.new.ledger.records now c.push_turn.ensures.records)
    (omega (arith, room, most, one, rest, size)) (ap (λ o. record m { ledger = c.push_turn.new.ledger; overlay = o }) c.give_back.ensures)
