use Rattle.std.proofs.Common.{sym, arith, ◌∙◌}
use Rattle.tap_name.proofs.Texts.{name_of_text-exact}
use Rattle.tap_name.proofs.reading.read_name.Goals as goal

pub returns-clause-exact : goal.returns-clause-exact
returns-clause-exact c name =
    let both = name_of_text-exact c.args.settings.now c.args.text.now name (omega arith) in
    (λ read. both.0 (sym c.spelled.ensures.value ∙ read), λ is. c.spelled.ensures.value ∙ both.1 is)
