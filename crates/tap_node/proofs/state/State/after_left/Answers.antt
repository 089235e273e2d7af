use Rattle.std.proofs.Common.{◌≡◌, ◌==◌, ◌∙◌, false, length, refl, sym}
use Rattle.tap_depart.specs.Leaving.{names_but}
use Rattle.tap_rule.specs.Leaving.{finishes}
use Rattle.tap_rule.specs.Node.Status.{Gone as GoneStatus}
use Rattle.tap_node_common.specs.declared.news.News.TheVariants.{Gone as GoneNews, Nothing}
use Rattle.tap_node_common.specs.States.{ended_state}
use Rattle.tap_node_common.proofs.NumbersLeft.{hops-sound}
use Rattle.tap_leaving_node.specs.State.{leaving_state}
use Rattle.tap_node.specs.declared.state.State.TheVariants.{Gone}
use Rattle.tap_node.proofs.ByStatus.{left_elsewhere, left_from}
use Rattle.tap_node.proofs.Ends.{ends_as, left_finishes, left_stays, without}
use Rattle.tap_node.proofs.state.State.after_left.Goals as goal

pub returns-in_default : goal.returns-in_default
returns-in_default c =
    left_elsewhere c.args.sender.now.settings c.args.sender.now.name c.args.self c.requires.held.runs c.in_default.not-Leaving
    c.args.from c.args.sent.now

pub finish-requires-clause-hops : goal.finish-requires-clause-hops
finish-requires-clause-hops c =
    let sound = rw c.in-Leaving.is at c.requires.sound in
    rw c.on_left.ensures (hops-sound (leaving_state c.in-Leaving.node) sound)

pub returns-then-is_free : goal.returns-then-is_free
returns-then-is_free c =
    let p = c.args.sender.now.settings in
    let name = c.args.sender.now.name in
    let node = leaving_state c.in-Leaving.node in
    let held = rw c.in-Leaving.is at c.requires.held in
    let free = rw c.on_left.ensures at c.is_free.ensures in
    let steps = rw c.on_left.ensures at c.in_ok-finish.ensures in
    let sessions = c.in_ok-finish.field-0 in
    left_from p name c.args.self (Gone sessions) c.in-Leaving.node c.args.from c.args.sent.now c.finish.new.sent GoneNews
    c.in-Leaving.is refl
    (left_finishes node c.args.from c.args.sent.now (ended_state GoneStatus p name sessions) c.finish.new.sent GoneNews
    (sym free ∙ c.if-is_free.true)
    (ends_as GoneStatus p node.ties.table.settings name node.ties.table.owner sessions node (finishes (without node c.args.from c.args.sent.now))
    c.args.sent.now c.finish.new.sent GoneNews held.settings held.name
    (record { state = steps.state; frames = steps.frames; noted = steps.noted })))

pub returns : goal.returns
returns c =
    let p = c.args.sender.now.settings in
    let name = c.args.sender.now.name in
    let node = leaving_state c.in-Leaving.node in
    let sound = rw c.in-Leaving.is at c.requires.sound in
    let held = rw c.on_left.ensures at c.is_free.ensures in
    let more : (length (names_but node.awaited c.args.from) == 0) ≡ false = sym held ∙ c.if-is_free.false in
    rw c.on_left.ensures
    (left_from p name c.args.self _ c.in-Leaving.node c.args.from c.args.sent.now c.args.sent.now Nothing c.in-Leaving.is refl
    (left_stays node c.args.from c.args.sent.now tt sound.laid more))
