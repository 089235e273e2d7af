use Rattle.std.proofs.Common.{◌∙◌, ap₂}
use Rattle.std.proofs.lemmas.Result.{IfOk-weaker}
use Rattle.clap.specs.Words.{with_rule}
use Rattle.tap_words.specs.Command.{command_app}
use Rattle.tap_words.proofs.command.command.Goals as goal

pub returns : goal.returns
unfolding command_app
returns c =
    IfOk-weaker c.arg-3.result _ _
    (λ r h. h.shape c.seed_arg.ensures.local
    ∙ ap₂ with_rule (c.in_ok-arg-2.ensures.shape c.make_arg.ensures.local
    ∙ ap₂ with_rule (c.in_ok-arg.ensures.shape c.brief_arg.ensures.local
    ∙ ap₂ with_rule c.bare_command.ensures c.brief_arg.ensures.rule) c.make_arg.ensures.rule) c.seed_arg.ensures.rule)
    c.arg-3.ensures
