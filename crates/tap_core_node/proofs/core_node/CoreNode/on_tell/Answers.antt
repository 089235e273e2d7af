use Rattle.std.proofs.Common.{arith}
use Rattle.tap_rule.specs.FrameRules.{frame_at_core}
use Rattle.tap_core_node.specs.State.{core_state}
use Rattle.tap_core_node.proofs.Asked.{MayBeCovered, teller_parent, told_depth, told_may}
use Rattle.tap_core_node.proofs.core_node.CoreNode.on_tell.Goals as goal

pub pin_and_cover-requires-clause-name : goal.pin_and_cover-requires-clause-name
pin_and_cover-requires-clause-name c =
    let tell = c.in-Tell in
    let may : MayBeCovered (core_state c.args.self.now) tell.joiner tell.prefix tell.level tell.watch =
    told_may (core_state c.args.self.now) c.args.frame.now c.requires.may tell.joiner tell.prefix tell.level tell.session tell.depth
    tell.watch tell.is in
    may.is_name

pub pin_and_cover-requires-clause-other : goal.pin_and_cover-requires-clause-other
pin_and_cover-requires-clause-other c =
    let tell = c.in-Tell in
    let may : MayBeCovered (core_state c.args.self.now) tell.joiner tell.prefix tell.level tell.watch =
    told_may (core_state c.args.self.now) c.args.frame.now c.requires.may tell.joiner tell.prefix tell.level tell.session tell.depth
    tell.watch tell.is in
    may.other

pub pin_and_cover-requires-clause-fits : goal.pin_and_cover-requires-clause-fits
pin_and_cover-requires-clause-fits c =
    let tell = c.in-Tell in
    let may : MayBeCovered (core_state c.args.self.now) tell.joiner tell.prefix tell.level tell.watch =
    told_may (core_state c.args.self.now) c.args.frame.now c.requires.may tell.joiner tell.prefix tell.level tell.session tell.depth
    tell.watch tell.is in
    may.fits

pub pin_and_cover-requires-clause-slots : goal.pin_and_cover-requires-clause-slots
pin_and_cover-requires-clause-slots c =
    let tell = c.in-Tell in
    let may : MayBeCovered (core_state c.args.self.now) tell.joiner tell.prefix tell.level tell.watch =
    told_may (core_state c.args.self.now) c.args.frame.now c.requires.may tell.joiner tell.prefix tell.level tell.session tell.depth
    tell.watch tell.is in
    may.slots

pub pin_and_cover-requires-clause-few : goal.pin_and_cover-requires-clause-few
pin_and_cover-requires-clause-few c =
    let tell = c.in-Tell in
    let may : MayBeCovered (core_state c.args.self.now) tell.joiner tell.prefix tell.level tell.watch =
    told_may (core_state c.args.self.now) c.args.frame.now c.requires.may tell.joiner tell.prefix tell.level tell.session tell.depth
    tell.watch tell.is in
    may.few

pub pin_and_cover-requires-clause-parent : goal.pin_and_cover-requires-clause-parent
pin_and_cover-requires-clause-parent c =
    let tell = c.in-Tell in
    teller_parent (core_state c.args.self.now) c.args.frame.now c.requires.may tell.joiner tell.prefix tell.level tell.session tell.depth
    tell.watch tell.is

pub pin_and_cover-requires-clause-depth : goal.pin_and_cover-requires-clause-depth
pin_and_cover-requires-clause-depth c =
    let tell = c.in-Tell in
    told_depth (core_state c.args.self.now) c.args.frame.now c.requires.may tell.joiner tell.prefix tell.level tell.session tell.depth
    tell.watch tell.is (omega arith)

pub returns : goal.returns
unfolding frame_at_core
returns c = rw c.in-Tell.is c.pin_and_cover.ensures
