use Rattle.std.proofs.Common.{sym, ◌∙◌}
use Rattle.tap_node_common.proofs.Parents.{closed_parent}
use Rattle.tap_node_common.proofs.answers.take_answer.Goals as goal

pub answer-requires-clause-parent : goal.answer-requires-clause-parent
answer-requires-clause-parent c =
    closed_parent c.args.sender.now.settings c.args.sessions.now c.args.session c.in-Closed.parent c.requires.parents
    (sym c.answered.ensures.answer ∙ c.in-Closed.is)
