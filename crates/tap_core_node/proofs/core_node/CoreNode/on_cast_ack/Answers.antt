use Rattle.std.proofs.Common.{◌≡◌, false, refl, sym, ◌∙◌, inl, inr}
use Rattle.tap_rule.specs.Casts.{cast_news, cast_of, is_root, takes_cast_ack}
use Rattle.tap_rule.specs.Node.{NodeState, settings_of}
use Rattle.tap_node_common.specs.declared.news.News.TheVariants.{Nothing}
use Rattle.tap_node_common.specs.StepsAs.{news_seen}
use Rattle.tap_node_common.proofs.Parents.{closed_parent}
use Rattle.tap_core_node.specs.State.{core_state}
use Rattle.tap_core_node.proofs.CastSteps.{cast_closed, cast_open, cast_unknown, closed_given}
use Rattle.tap_core_node.proofs.Followed.{cast_answered_quiet, follows_quiet}
use Rattle.tap_core_node.proofs.core_node.CoreNode.on_cast_ack.Goals as goal

pub answer_cast-requires-clause-parent : goal.answer_cast-requires-clause-parent
answer_cast-requires-clause-parent c =
    let node : NodeState = core_state c.args.self.now in
    rw c.sender.ensures.value (closed_parent (settings_of node) node.cast_sessions c.args.session c.in-Closed.parent c.requires.sound.cast_parents
    (sym c.answered.ensures.answer ∙ c.in-Closed.is))

pub cast_of-cast-requires-clause-given : goal.cast_of-cast-requires-clause-given
cast_of-cast-requires-clause-given c =
    let node : NodeState = core_state c.args.self.now in
    (closed_given node.cast_sessions c.requires.sound.valid.cast_sessions c.args.session c.in-Closed.parent
    (sym c.answered.ensures.answer ∙ c.in-Closed.is)).0

pub cast_of-cast-requires-clause-within : goal.cast_of-cast-requires-clause-within
cast_of-cast-requires-clause-within c =
    let node : NodeState = core_state c.args.self.now in
    let given = closed_given node.cast_sessions c.requires.sound.valid.cast_sessions c.args.session c.in-Closed.parent
    (sym c.answered.ensures.answer ∙ c.in-Closed.is) in
    rw (c.as_slice.ensures.value, c.requires.sound.valid.cast_numbers) given.1

pub returns-in_ok-answer_cast-in-Closed : goal.returns-in_ok-answer_cast-in-Closed
returns-in_ok-answer_cast-in-Closed c =
    let node : NodeState = core_state c.args.self.now in
    let news : c.cast_news.result ≡ news_seen (cast_news (cast_of node c.args.session) false (is_root c.in-Closed.parent)) =
    rw (c.cast_of-cast.ensures, c.as_slice.ensures.value, c.is_root.ensures) at c.cast_news.ensures in
    rw news (follows_quiet node (takes_cast_ack node c.args.session) _ c.args.sent.now _ _
    (cast_answered_quiet node refl c.requires.sound.laid c.args.session)
    (cast_closed node c.args.session _ c.args.sent.now c.answered.ensures.after c.in-Closed.parent _
    (sym c.answered.ensures.answer ∙ c.in-Closed.is) (rw c.sender.ensures.value at c.in_ok-answer_cast-in-Closed.ensures)))

pub returns-in-Open : goal.returns-in-Open
returns-in-Open c =
    let node : NodeState = core_state c.args.self.now in
    rw c.requires.nothing (follows_quiet node (takes_cast_ack node c.args.session) _ c.args.sent.now c.args.sent.now Nothing
    (cast_answered_quiet node refl c.requires.sound.laid c.args.session)
    (elim c.in-Open.is [
      | inl goes_on ↦ cast_open node c.args.session _ c.args.sent.now c.answered.ensures.after (sym c.answered.ensures.answer ∙ goes_on)
      | inr unknown ↦
          cast_unknown node c.args.session _ c.args.sent.now c.answered.ensures.after (sym c.answered.ensures.answer ∙ unknown)
    ]))
