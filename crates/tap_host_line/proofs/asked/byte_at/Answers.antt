use Rattle.std.proofs.Common.{◌∙◌, ap}
use Rattle.clap.proofs.WalkLemmas.{first_value-rows}
use Rattle.clap.specs.Words.{found_of}
use Rattle.tap_scenario.specs.Step.{number_below}
use Rattle.tap_host_line.specs.Words.{byte_in}
use Rattle.tap_host_line.proofs.asked.byte_at.Goals as goal

pub returns-in_err-text : goal.returns-in_err-text
returns-in_err-text c =
    c.from_residual.ensures ∙ ap byte_in (c.in_err-text.ensures ∙ first_value-rows (found_of c.args.matches.now) c.args.id.now)

pub returns-in-Some : goal.returns-in-Some
returns-in-Some c =
    c.in-Some.ensures.value ∙ ap (number_below 256) c.as_bytes.ensures.value
    ∙ ap byte_in (c.in_ok-text.ensures ∙ first_value-rows (found_of c.args.matches.now) c.args.id.now)

pub returns-in-None : goal.returns-in-None
returns-in-None c =
    c.in-None.ensures.value ∙ ap (number_below 256) c.as_bytes.ensures.value
    ∙ ap byte_in (c.in_ok-text.ensures ∙ first_value-rows (found_of c.args.matches.now) c.args.id.now)
