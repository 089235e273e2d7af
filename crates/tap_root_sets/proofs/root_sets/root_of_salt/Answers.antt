use Rattle.std.proofs.Common.{◌≡◌, List, ℕ, Some, subst}
use Rattle.tap_name.specs.Root.{root}
use Rattle.tap_salt.specs.Salt.{salt_of}
use Rattle.tap_history.specs.Core.{core_of}
use Rattle.tap_root_sets.proofs.Walking.{asker_is_core, salt_is, walk_root}
use Rattle.tap_root_sets.proofs.root_sets.root_of_salt.Goals as goal

pub end_of_walk-requires-clause-from : goal.end_of_walk-requires-clause-from
end_of_walk-requires-clause-from c =
    asker_is_core c.args.world.now c.requires.nodes c.args.settings.now c.requires.may c.args.asker c.requires.core

pub returns : goal.returns
returns c =
    let w = c.args.world.now in
    let p = c.args.settings.now in
    let made = c.in-Some.salt in
    let same : made ≡ salt_of c.args.object.now c.args.number =
    salt_is p c.args.object.now c.args.number made c.requires.salted c.in-Some.ensures.value in
    subst (λ (name : List ℕ). root p.base (core_of w.log) name ≡ Some c.end_of_walk.result) same
    (walk_root w c.requires.nodes p c.requires.may c.args.asker c.requires.core made c.end_of_walk.result c.in-Some.ensures.valid c.end_of_walk.ensures)
