use Rattle.std.proofs.Common.{◌≡◌, true, false, Some, rules, refl, sym, subst}
use Rattle.tap_rule.specs.Ceasing.{ceases, takes_done}
use Rattle.tap_rule.specs.Node.Status.{Ceased as CeasedStatus}
use Rattle.tap_node_common.specs.declared.news.News.TheVariants.{Core as CoreNews, Gone as GoneNews}
use Rattle.tap_node_common.specs.StepsAs.{FollowsAs}
use Rattle.tap_joining_node.specs.State.{core_joined, joining_state}
use Rattle.tap_node.specs.declared.state.State.TheVariants.{Core, Ceased}
use Rattle.tap_node.proofs.ByStatus.{done_elsewhere, done_from}
use Rattle.tap_node.proofs.Ends.{done_ceases, done_joins, ends_as}
use Rattle.tap_node_common.specs.States.{ended_state}
use Rattle.tap_node.proofs.state.State.after_done.Goals as goal

pub returns-in_default : goal.returns-in_default
returns-in_default c = λ from.
    done_elsewhere c.args.sender.now.settings c.args.sender.now.name c.args.self c.requires.held.runs c.in_default.not-Joining from
    c.args.sent.now

pub returns-then-not-is_abandoned : goal.returns-then-not-is_abandoned
returns-then-not-is_abandoned c = λ from.
    let node = joining_state c.in-Joining.node in
    let sound = rw c.in-Joining.is at c.requires.sound in
    let kept : c.in-Joining.node.joining.abandoned ≡ false = search rules in
    done_from c.args.sender.now.settings c.args.sender.now.name c.args.self (Core c.core_of.result) c.in-Joining.node from c.args.sent.now
    c.become_core.new.sent CoreNews c.in-Joining.is refl
    (subst (λ s. FollowsAs node (Some (takes_done node)) s c.args.sent.now c.become_core.new.sent CoreNews) (sym c.core_of.ensures)
    (done_joins node (core_joined c.in_ok-joined.joined) c.args.sent.now c.become_core.new.sent CoreNews kept (sound.alone refl)
    c.in_ok-joined.ensures))

pub returns : goal.returns
returns c = λ from.
    let p = c.args.sender.now.settings in
    let name = c.args.sender.now.name in
    let node = joining_state c.in-Joining.node in
    let held = rw c.in-Joining.is at c.requires.held in
    let given_up : c.in-Joining.node.joining.abandoned ≡ true = search rules in
    let sessions = c.in_ok-cease.field-0 in
    done_from p name c.args.self (Ceased sessions) c.in-Joining.node from c.args.sent.now c.cease.new.sent GoneNews c.in-Joining.is refl
    (done_ceases node (ended_state CeasedStatus p name sessions) c.args.sent.now c.cease.new.sent GoneNews given_up
    (ends_as CeasedStatus p node.ties.table.settings name node.ties.table.owner sessions node (ceases node) c.args.sent.now
    c.cease.new.sent GoneNews held.settings held.name c.in_ok-cease.ensures))
