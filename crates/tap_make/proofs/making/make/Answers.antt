use Rattle.std.proofs.Common.{◌≡◌, ◌∙◌, ◌+◌, ap, arith, rules}
use Rattle.tap_make.specs.Draws.{DrawsValue}
use Rattle.tap_make.specs.Made.{made_settings}
use Rattle.tap_make.specs.MadeNames.{made_members}
use Rattle.tap_make.specs.MadeSteps.{made_steps}
use Rattle.tap_make.proofs.Limits.{made_of_parts, script_of_parts}
use Rattle.tap_make.proofs.Naming.{names_counted, place_is}
use Rattle.tap_make.proofs.making.make.Goals as goal

pub make_steps-requires : goal.make_steps-requires
make_steps-requires c =
    let seeded = ap (λ (d : DrawsValue). d.seed) c.new-draws.ensures in
    let counted = names_counted c.args.joins c.args.seed c.new-draws.result.seed c.in_ok-names.names seeded c.in_ok-names.ensures.names in
    let count = counted.0 in
    let none = ap (λ (d : DrawsValue). d.place) c.new-draws.ensures in
    let at = place_is c.new-draws.result c.draw.new.draws (48 + c.args.joins) c.in_ok-names.ensures.draws in
    record {
      joins = omega arith;
      seed = ap (λ (d : DrawsValue). d.seed) c.in_ok-names.ensures.draws ∙ seeded;
      names = counted.1;
      place = omega arith;
    }

pub from_lists-requires : goal.from_lists-requires
from_lists-requires c =
    let seeded = ap (λ (d : DrawsValue). d.seed) c.new-draws.ensures in
    let counted = names_counted c.args.joins c.args.seed c.new-draws.result.seed c.in_ok-names.names seeded c.in_ok-names.ensures.names in
    let settings : c.unwrap-settings.result ≡ made_settings = search rules in
    script_of_parts c.args.joins c.args.seed c.unwrap-settings.result c.in_ok-names.names.members c.in_ok-steps.steps c.requires.to settings
    (c.in_ok-names.ensures.names.members ∙ ap made_members seeded)
    (c.in_ok-steps.ensures ∙ ap (λ n. made_steps n c.args.seed) counted.0)

pub returns : goal.returns
returns c =
    let seeded = ap (λ (d : DrawsValue). d.seed) c.new-draws.ensures in
    let counted = names_counted c.args.joins c.args.seed c.new-draws.result.seed c.in_ok-names.names seeded c.in_ok-names.ensures.names in
    let settings : c.unwrap-settings.result ≡ made_settings = search rules in
    c.from_lists.ensures
    ∙ made_of_parts c.args.joins c.args.seed c.unwrap-settings.result c.in_ok-names.names.members c.in_ok-steps.steps settings
    (c.in_ok-names.ensures.names.members ∙ ap made_members seeded)
    (c.in_ok-steps.ensures ∙ ap (λ n. made_steps n c.args.seed) counted.0)
