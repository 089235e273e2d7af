use Rattle.std.proofs.Common.{refl, sym, ◌∙◌}
use Rattle.std.proofs.lemmas.Result.{IfOk-weaker}
use Rattle.tap_rule.specs.FrameRules.{frame_at_core}
use Rattle.tap_rule.specs.Node.{NodeState}
use Rattle.tap_node_common.specs.declared.news.News.TheVariants.{Nothing}
use Rattle.tap_core_node.specs.State.{core_state}
use Rattle.tap_core_node.proofs.Asked.{MayBeCovered, next_named, seeker_apart, seeker_may, seeker_name, surrogate_within}
use Rattle.tap_core_node.proofs.Pins.{at_surrogate, sent_on}
use Rattle.tap_core_node.proofs.core_node.CoreNode.on_seek.Goals as goal

pub seek-requires-clause-name : goal.seek-requires-clause-name
seek-requires-clause-name c = seeker_name (core_state c.args.self.now) c.args.frame.now c.requires.may c.in-Seek.joiner c.in-Seek.is

pub seek-requires-clause-other : goal.seek-requires-clause-other
seek-requires-clause-other c = seeker_apart (core_state c.args.self.now) c.args.frame.now c.requires.may c.in-Seek.joiner c.in-Seek.is

pub send-requires-clause-to : goal.send-requires-clause-to
send-requires-clause-to c =
    rw c.sender.ensures.value (next_named (core_state c.args.self.now) c.args.frame.now c.requires.may c.in-Seek.joiner c.in-Seek.is
    c.in-Forward.next (sym c.seek.ensures ∙ c.in-Forward.is))

pub send-requires-clause-body : goal.send-requires-clause-body
send-requires-clause-body c =
    rw c.sender.ensures.value (seeker_name (core_state c.args.self.now) c.args.frame.now c.requires.may c.in-Seek.joiner c.in-Seek.is)

pub returns-in_ok-send-in-Forward : goal.returns-in_ok-send-in-Forward
unfolding frame_at_core
returns-in_ok-send-in-Forward c =
    let node : NodeState = core_state c.args.self.now in
    rw c.in-Seek.is (sent_on node c.requires.may.sound refl c.args.sent.now c.in-Seek.joiner
    (seeker_name node c.args.frame.now c.requires.may c.in-Seek.joiner c.in-Seek.is)
    (seeker_apart node c.args.frame.now c.requires.may c.in-Seek.joiner c.in-Seek.is) c.in-Forward.next _
    (sym c.seek.ensures ∙ c.in-Forward.is) (rw c.sender.ensures.value at c.in_ok-send-in-Forward.ensures))

pub full-requires-clause-is_name : goal.full-requires-clause-is_name
full-requires-clause-is_name c =
    let node : NodeState = core_state c.args.self.now in
    rw (c.settings-settings.ensures.value, c.table.ensures.value, c.ties.ensures)
    (seeker_name node c.args.frame.now c.requires.may c.in-Seek.joiner c.in-Seek.is)

pub full-requires-clause-within : goal.full-requires-clause-within
full-requires-clause-within c =
    let node : NodeState = core_state c.args.self.now in
    rw (c.settings-settings.ensures.value, c.table.ensures.value, c.ties.ensures)
    (surrogate_within node c.args.frame.now c.requires.may c.in-Seek.joiner c.in-Seek.is c.in-Surrogate.prefix
    (sym c.seek.ensures ∙ c.in-Surrogate.is))

pub pin_and_cover-requires-clause-name : goal.pin_and_cover-requires-clause-name
pin_and_cover-requires-clause-name c =
    let node : NodeState = core_state c.args.self.now in
    let full = rw (c.settings-settings.ensures.value, c.table.ensures.value, c.ties.ensures) at c.in_ok-watch-in-Surrogate.ensures.slots in
    let may : MayBeCovered node c.in-Seek.joiner c.in-Surrogate.prefix c.in-Surrogate.prefix c.in_ok-watch-in-Surrogate.watch =
    seeker_may node c.args.frame.now c.requires.may c.in-Seek.joiner c.in-Seek.is c.in-Surrogate.prefix
    (sym c.seek.ensures ∙ c.in-Surrogate.is) c.in_ok-watch-in-Surrogate.watch full in
    may.is_name

pub pin_and_cover-requires-clause-other : goal.pin_and_cover-requires-clause-other
pin_and_cover-requires-clause-other c =
    let node : NodeState = core_state c.args.self.now in
    let full = rw (c.settings-settings.ensures.value, c.table.ensures.value, c.ties.ensures) at c.in_ok-watch-in-Surrogate.ensures.slots in
    let may : MayBeCovered node c.in-Seek.joiner c.in-Surrogate.prefix c.in-Surrogate.prefix c.in_ok-watch-in-Surrogate.watch =
    seeker_may node c.args.frame.now c.requires.may c.in-Seek.joiner c.in-Seek.is c.in-Surrogate.prefix
    (sym c.seek.ensures ∙ c.in-Surrogate.is) c.in_ok-watch-in-Surrogate.watch full in
    may.other

pub pin_and_cover-requires-clause-fits : goal.pin_and_cover-requires-clause-fits
pin_and_cover-requires-clause-fits c =
    let node : NodeState = core_state c.args.self.now in
    let full = rw (c.settings-settings.ensures.value, c.table.ensures.value, c.ties.ensures) at c.in_ok-watch-in-Surrogate.ensures.slots in
    let may : MayBeCovered node c.in-Seek.joiner c.in-Surrogate.prefix c.in-Surrogate.prefix c.in_ok-watch-in-Surrogate.watch =
    seeker_may node c.args.frame.now c.requires.may c.in-Seek.joiner c.in-Seek.is c.in-Surrogate.prefix
    (sym c.seek.ensures ∙ c.in-Surrogate.is) c.in_ok-watch-in-Surrogate.watch full in
    may.fits

pub pin_and_cover-requires-clause-slots : goal.pin_and_cover-requires-clause-slots
pin_and_cover-requires-clause-slots c =
    let node : NodeState = core_state c.args.self.now in
    let full = rw (c.settings-settings.ensures.value, c.table.ensures.value, c.ties.ensures) at c.in_ok-watch-in-Surrogate.ensures.slots in
    let may : MayBeCovered node c.in-Seek.joiner c.in-Surrogate.prefix c.in-Surrogate.prefix c.in_ok-watch-in-Surrogate.watch =
    seeker_may node c.args.frame.now c.requires.may c.in-Seek.joiner c.in-Seek.is c.in-Surrogate.prefix
    (sym c.seek.ensures ∙ c.in-Surrogate.is) c.in_ok-watch-in-Surrogate.watch full in
    may.slots

pub pin_and_cover-requires-clause-few : goal.pin_and_cover-requires-clause-few
pin_and_cover-requires-clause-few c =
    let node : NodeState = core_state c.args.self.now in
    let full = rw (c.settings-settings.ensures.value, c.table.ensures.value, c.ties.ensures) at c.in_ok-watch-in-Surrogate.ensures.slots in
    let may : MayBeCovered node c.in-Seek.joiner c.in-Surrogate.prefix c.in-Surrogate.prefix c.in_ok-watch-in-Surrogate.watch =
    seeker_may node c.args.frame.now c.requires.may c.in-Seek.joiner c.in-Seek.is c.in-Surrogate.prefix
    (sym c.seek.ensures ∙ c.in-Surrogate.is) c.in_ok-watch-in-Surrogate.watch full in
    may.few

pub pin_and_cover-requires-clause-parent : goal.pin_and_cover-requires-clause-parent
pin_and_cover-requires-clause-parent c =
    let node : NodeState = core_state c.args.self.now in
    let full = rw (c.settings-settings.ensures.value, c.table.ensures.value, c.ties.ensures) at c.in_ok-watch-in-Surrogate.ensures.slots in
    let may : MayBeCovered node c.in-Seek.joiner c.in-Surrogate.prefix c.in-Surrogate.prefix c.in_ok-watch-in-Surrogate.watch =
    seeker_may node c.args.frame.now c.requires.may c.in-Seek.joiner c.in-Seek.is c.in-Surrogate.prefix
    (sym c.seek.ensures ∙ c.in-Surrogate.is) c.in_ok-watch-in-Surrogate.watch full in
    may.is_name

pub returns-in_ok-watch-in-Surrogate : goal.returns-in_ok-watch-in-Surrogate
unfolding frame_at_core
returns-in_ok-watch-in-Surrogate c =
    let node : NodeState = core_state c.args.self.now in
    let full = rw (c.settings-settings.ensures.value, c.table.ensures.value, c.ties.ensures) at c.in_ok-watch-in-Surrogate.ensures.slots in
    rw c.in-Seek.is (IfOk-weaker c.pin_and_cover.result _ _
    (λ _. at_surrogate node c.requires.may.sound refl c.args.sent.now c.in-Seek.joiner c.in-Surrogate.prefix c.in_ok-watch-in-Surrogate.watch
    (sym c.seek.ensures ∙ c.in-Surrogate.is) full _ _ Nothing)
    c.pin_and_cover.ensures)
