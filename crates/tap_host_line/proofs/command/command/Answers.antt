use Rattle.std.proofs.Common.{◌∙◌, ap₂}
use Rattle.std.proofs.lemmas.Result.{IfOk-weaker}
use Rattle.clap.specs.Words.{with_rule}
use Rattle.tap_host_line.specs.Command.{node_app}
use Rattle.tap_host_line.proofs.command.command.Goals as goal

pub returns : goal.returns
unfolding node_app
returns c =
    IfOk-weaker c.arg-5.result _ _
    (λ r h. h.shape c.option_arg-5.ensures.local
    ∙ ap₂ with_rule (c.in_ok-arg-4.ensures.shape c.option_arg-4.ensures.local
    ∙ ap₂ with_rule (c.in_ok-arg-3.ensures.shape c.option_arg-3.ensures.local
    ∙ ap₂ with_rule (c.in_ok-arg-2.ensures.shape c.option_arg-2.ensures.local
    ∙ ap₂ with_rule (c.in_ok-arg.ensures.shape c.option_arg.ensures.local
    ∙ ap₂ with_rule c.bare_command.ensures c.option_arg.ensures.rule) c.option_arg-2.ensures.rule) c.option_arg-3.ensures.rule)
    c.option_arg-4.ensures.rule) c.option_arg-5.ensures.rule)
    c.arg-5.ensures
