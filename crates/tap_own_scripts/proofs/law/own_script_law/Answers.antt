use Rattle.tap_own_scripts.proofs.OwnScripts.{own_scripts_hold}
use Rattle.tap_own_scripts.proofs.law.own_script_law.Goals as goal

pub returns : goal.returns
returns c = own_scripts_hold
