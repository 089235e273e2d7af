use Rattle.std.proofs.Common.{rules, inr, ◌∙◌}
use Rattle.std.proofs.lemmas.Fn.{filter_same}
use Rattle.tap_carry.specs.OutboxKept.{is_among}
use Rattle.tap_carry.proofs.Awaits.{none-awaits}
use Rattle.tap_carry.proofs.outbox.leave_out.Goals as goal

pub returns-then-is_empty : goal.returns-then-is_empty
returns-then-is_empty c =
    inr (c.clear.ensures.items ∙ none-awaits c.args.ways.now.keys c.args.sent.now.items (c.is_empty.ensures.0 c.if-is_empty.true))

pub returns-then-len : goal.returns-then-len
returns-then-len c =
    inr (filter_same _ (λ item. is_among c.args.ways.now.keys item) _ (λ x b f' k. search rules) _ _ c.retain.ensures.filtered)
