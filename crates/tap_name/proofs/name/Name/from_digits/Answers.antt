use Rattle.std.proofs.Common.{◌∙◌, sym}
use Rattle.tap_name.proofs.Texts.{name_of_digits-exact}
use Rattle.tap_name.proofs.name.Name.from_digits.Goals as goal

pub returns-clause-exact : goal.returns-clause-exact
returns-clause-exact c name =
    let both = name_of_digits-exact c.args.settings.now c.args.digits.now name in
    (λ read. both.0 (sym c.name_of.ensures.value ∙ read), λ is. c.name_of.ensures.value ∙ both.1 is)
