use Rattle.std.proofs.Common.{◌∙◌, ap, codes}
use Rattle.std.specs.Option.{option_and_then}
use Rattle.std.specs.Result.{result_ok}
use Rattle.clap.proofs.WalkLemmas.{first_value-rows}
use Rattle.clap.specs.Words.{found_of}
use Rattle.tap_name.specs.Name.{name_of_text, name_of_word}
use Rattle.tap_host_line.proofs.asked.name_at.Goals as goal

pub returns-in_err-text-clause-value : goal.returns-in_err-text-clause-value
returns-in_err-text-clause-value c =
    c.from_residual.ensures
    ∙ ap (option_and_then (name_of_word c.args.settings.now)) (c.in_err-text.ensures ∙ first_value-rows (found_of c.args.matches.now) (codes "name"))

pub returns-clause-value : goal.returns-clause-value
returns-clause-value c =
    c.ok.ensures.value ∙ ap result_ok (c.read_name.ensures.value ∙ ap (name_of_text c.args.settings.now) c.as_bytes.ensures.value)
    ∙ ap (option_and_then (name_of_word c.args.settings.now)) (c.in_ok-text.ensures ∙ first_value-rows (found_of c.args.matches.now) (codes "name"))
