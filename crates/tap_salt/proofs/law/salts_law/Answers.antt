use Rattle.tap_salt.proofs.SaltLaws.{salts_are_names_holds, salts_have_roots_holds}
use Rattle.tap_salt.proofs.law.salts_law.Goals as goal

pub returns-clause-names : goal.returns-clause-names
returns-clause-names c = salts_are_names_holds

pub returns-clause-roots : goal.returns-clause-roots
returns-clause-roots c = salts_have_roots_holds
