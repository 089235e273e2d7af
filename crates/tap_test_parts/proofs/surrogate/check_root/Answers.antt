use Rattle.tap_name.specs.Name.{IsName}
use Rattle.tap_name.proofs.Names.{among-All}
use Rattle.tap_test_parts.proofs.surrogate.check_root.Goals as goal

pub root_of-root-requires-clause-names : goal.root_of-root-requires-clause-names
root_of-root-requires-clause-names g c = among-All (IsName c.settings_of-settings.result) c.names_of-members.result c.names_of-members.ensures.names
