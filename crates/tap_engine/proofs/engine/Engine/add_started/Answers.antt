use Rattle.std.proofs.Common.{◌≡◌, ◌+◌, List, [], ◌∷◌, ◌++◌, length, ap, sym, subst, ◌∙◌, arith, append_assoc}
use Rattle.std.proofs.Math.Nat.{le-max_right}
use Rattle.tap_log.specs.declared.record.Record.{Record}
use Rattle.tap_log.specs.declared.record.Record.TheVariants.{Spent, Step as StepRecord}
use Rattle.tap_log.specs.Counts.{sent_count}
use Rattle.tap_engine.specs.SeenTurns.{turn_records}
use Rattle.tap_engine.specs.declared.engine.Engine.{Engine}
use Rattle.tap_log.specs.MoreRecords.{at_most_one}
use Rattle.tap_ledger.specs.Added.{CanAdd}
use Rattle.tap_ledger.proofs.Adding.{can_first, can_rest}
use Rattle.tap_engine.proofs.Counting.{group_may_be_added, logs_added, logs_spent, turn_added, turn_may_be_added}
use Rattle.tap_engine.proofs.engine.Engine.add_started.Goals as goal

pub returns-then-is_too_many-clause-logs : goal.returns-then-is_too_many-clause-logs
returns-then-is_too_many-clause-logs c =
    let m = c.args.self.now in
    let step : List Record = StepRecord c.args.index c.args.step.now ∷ [] in
    let acted = c.args.acted in
    let all = (StepRecord c.args.index c.args.step.now ∷ at_most_one c.args.item) ++ turn_records (sent_count m.ledger.records) acted.name acted.turn in
    let spent = c.spend.ensures in
    logs_spent m c.spend.new.self step all (length acted.turn.sent) c.spend.result c.requires.can_add.counts c.requires.sent
    (sym c.is_too_many.ensures ∙ c.if-is_too_many.true) spent.answer
    (spent.log ∙ ap (λ (p : Engine). p.ledger.records ++ Spent p.frames ∷ []) c.add_step.ensures.same
    ∙ ap (λ l. l ++ Spent m.frames ∷ []) c.add_step.ensures.log ∙ append_assoc m.ledger.records step (Spent m.frames ∷ []))
    (spent.same ∙ ap (λ (p : Engine). record p { ledger = c.spend.new.self.ledger }) c.add_step.ensures.same)

-- the log with the step, and then with what it announces
first_added : (log with_room with_step with_first step item : List Record) → with_room ≡ log → with_step ≡ with_room ++ step
    → with_first ≡ with_step ++ item → with_first ≡ log ++ (step ++ item)
first_added log with_room with_step with_first step item same begun added =
    added ∙ ap (λ l. l ++ item) (begun ∙ ap (λ l. l ++ step) same) ∙ append_assoc log step item

pub add_step-requires-2-clause-can_add : goal.add_step-requires-2-clause-can_add
add_step-requires-2-clause-can_add c =
    subst (λ l. CanAdd l (StepRecord c.args.index c.args.step.now ∷ [])) (sym c.reserve.ensures.records) c.requires.step

pub push_some-requires-clause-can_add : goal.push_some-requires-clause-can_add
push_some-requires-clause-can_add c =
    let m = c.args.self.now in
    let log = m.ledger.records in
    let acted = c.args.acted in
    let step : List Record = StepRecord c.args.index c.args.step.now ∷ [] in
    let item = at_most_one c.args.item in
    let can = group_may_be_added m (step ++ item) acted c.requires.can_add c.requires.sent (sym c.is_too_many.ensures ∙ c.if-is_too_many.false) in
    let first = can_first log (step ++ item) (turn_records (sent_count log) acted.name acted.turn) can in
    subst (λ l. CanAdd l item) (sym (c.add_step-2.ensures.log ∙ ap (λ l. l ++ step) c.reserve.ensures.records)) (can_rest log step item first)

pub push_turn-requires-clause-can_add : goal.push_turn-requires-clause-can_add
push_turn-requires-clause-can_add c =
    let m = c.args.self.now in
    let acted = c.args.acted in
    let step : List Record = StepRecord c.args.index c.args.step.now ∷ [] in
    let item = at_most_one c.args.item in
    let now = first_added m.ledger.records c.reserve.new.self.records c.add_step-2.new.self.ledger.records c.push_some.new.ledger.records step item
    c.reserve.ensures.records c.add_step-2.ensures.log c.push_some.ensures.records in
    subst (λ l. CanAdd l (turn_records (sent_count l) acted.name acted.turn)) (sym now)
    (turn_may_be_added m (step ++ item) acted c.requires.can_add c.requires.sent (sym c.is_too_many.ensures ∙ c.if-is_too_many.false))

pub returns-clause-logs : goal.returns-clause-logs
returns-clause-logs c =
    let m = c.args.self.now in
    let acted = c.args.acted in
    let step : List Record = StepRecord c.args.index c.args.step.now ∷ [] in
    let item = at_most_one c.args.item in
    let after : Engine = record c.add_step-2.new.self { ledger = c.push_turn.new.ledger } in
    let now = first_added m.ledger.records c.reserve.new.self.records c.add_step-2.new.self.ledger.records c.push_some.new.ledger.records step item
    c.reserve.ensures.records c.add_step-2.ensures.log c.push_some.ensures.records in
    let room = c.in_ok-reserve.ensures.ok in
    let one = c.add_step-2.ensures.spare in
    let two = c.push_some.ensures.spare in
    let rest = c.push_turn.ensures.spare in
    let size = c.len.ensures in
    let most = le-max_right m.ledger.spare (c.len.result + 7) in
    logs_added m after step ((step ++ item) ++ turn_records (sent_count m.ledger.records) acted.name acted.turn) (length acted.turn.sent)
    c.requires.can_add.counts c.requires.sent (sym c.is_too_many.ensures ∙ c.if-is_too_many.false)
    (turn_added m (step ++ item) acted c.requires.can_add c.push_some.new.ledger.records c.push_turn.new.ledger.records now c.push_turn.ensures.records)
    (omega (arith, room, most, one, two, rest, size))
    (ap (λ (p : Engine). record p { ledger = c.push_turn.new.ledger }) c.add_step-2.ensures.same)
