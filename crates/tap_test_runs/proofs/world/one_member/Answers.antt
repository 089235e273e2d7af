use Rattle.std.proofs.Common.{◌≡◌, ◌∙◌, [], ◌∷◌, ◌++◌, ap}
use Rattle.tap_test_runs.proofs.Small.{one_begins}
use Rattle.tap_test_runs.proofs.world.one_member.Goals as goal

pub new-requires : goal.new-requires
new-requires g c =
    let member = c.name_of-member.result in
    let members : c.push.new.self ≡ member ∷ [] = (rw c.expect.ensures at c.push.ensures.ok) ∙ ap (λ l. l ++ member ∷ []) c.new-members.ensures in
    one_begins c.settings_of-settings.result c.args.frames member c.push.new.self c.settings_of-settings.ensures c.requires.from
    c.requires.to c.name_of-member.ensures members
