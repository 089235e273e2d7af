use Rattle.std.proofs.Common.{◌≡◌, refl, sym, ◌∙◌}
use Rattle.tap_rule.specs.Casts.{cast_news, casts, is_root}
use Rattle.tap_rule.specs.Node.{NodeState}
use Rattle.tap_node_common.specs.declared.news.News.TheVariants.{Nothing}
use Rattle.tap_node_common.specs.StepsAs.{news_seen}
use Rattle.tap_core_node.specs.Requests.{copied_with}
use Rattle.tap_core_node.specs.State.{core_state}
use Rattle.tap_core_node.proofs.CastSteps.{cast_again, cast_alone, cast_few, cast_goes_on, cast_levels, cast_names}
use Rattle.tap_core_node.proofs.Followed.{casts_quiet, follows_quiet}
use Rattle.tap_core_node.proofs.core_node.CoreNode.note_cast.Goals as goal

pub returns-then-is_empty : goal.returns-then-is_empty
returns-then-is_empty c =
    let node : NodeState = core_state c.args.self.now in
    let copy = copied_with c.args.copy.now c.args.word.now in
    let found = rw (c.table-table.ensures.value, c.ties.ensures) at c.in_ok-cast.ensures.turn in
    let news : c.cast_news.result ≡ news_seen (cast_news copy.cast c.in-Now.first (is_root copy.parent)) =
    rw c.is_root.ensures at c.cast_news.ensures in
    rw news (follows_quiet node (casts node copy) _ c.args.sent.now _ _ (casts_quiet node refl c.requires.sound.laid copy)
    (cast_alone node copy _ c.args.sent.now _ c.in_ok-cast.ensures.after c.in-Now.first c.in-Now.targets (sym found ∙ c.in-Now.is)
    (sym c.is_empty.ensures ∙ c.if-is_empty.true) (rw c.sender-then-is_empty.ensures.value at c.in_ok-answer_cast-in-Now.ensures)))

pub spread_cast-requires-clause-names : goal.spread_cast-requires-clause-names
spread_cast-requires-clause-names c =
    let node : NodeState = core_state c.args.self.now in
    let copy = copied_with c.args.copy.now c.args.word.now in
    let found = rw (c.table-table.ensures.value, c.ties.ensures) at c.in_ok-cast.ensures.turn in
    cast_names node.ties.table c.requires.sound.valid.ties.table node.casts copy.cast copy.level c.in-Now.first c.in-Now.targets
    (sym found ∙ c.in-Now.is)

pub spread_cast-requires-clause-levels : goal.spread_cast-requires-clause-levels
spread_cast-requires-clause-levels c =
    let node : NodeState = core_state c.args.self.now in
    let copy = copied_with c.args.copy.now c.args.word.now in
    let found = rw (c.table-table.ensures.value, c.ties.ensures) at c.in_ok-cast.ensures.turn in
    cast_levels node.ties.table c.requires.sound.valid.ties.table node.casts copy.cast copy.level c.in-Now.first c.in-Now.targets
    (sym found ∙ c.in-Now.is)

pub spread_cast-requires-clause-few : goal.spread_cast-requires-clause-few
spread_cast-requires-clause-few c =
    let node : NodeState = core_state c.args.self.now in
    let copy = copied_with c.args.copy.now c.args.word.now in
    let found = rw (c.table-table.ensures.value, c.ties.ensures) at c.in_ok-cast.ensures.turn in
    cast_few node.ties.table c.requires.sound.valid.ties.table node.casts copy.cast copy.level c.in-Now.first c.in-Now.targets
    (sym found ∙ c.in-Now.is) c.requires.sound.few

pub returns-in_ok-answer_cast-in-Already : goal.returns-in_ok-answer_cast-in-Already
returns-in_ok-answer_cast-in-Already c =
    let node : NodeState = core_state c.args.self.now in
    let copy = copied_with c.args.copy.now c.args.word.now in
    let found = rw (c.table-table.ensures.value, c.ties.ensures) at c.in_ok-cast.ensures.turn in
    rw c.requires.nothing (follows_quiet node (casts node copy) _ c.args.sent.now _ Nothing
    (casts_quiet node refl c.requires.sound.laid copy)
    (cast_again node copy _ c.args.sent.now _ c.in_ok-cast.ensures.after (sym found ∙ c.in-Already.is)
    (rw c.sender.ensures.value at c.in_ok-answer_cast-in-Already.ensures)))

pub returns-in_ok-spread_cast-in-Now : goal.returns-in_ok-spread_cast-in-Now
returns-in_ok-spread_cast-in-Now c =
    let node : NodeState = core_state c.args.self.now in
    let copy = copied_with c.args.copy.now c.args.word.now in
    let found = rw (c.table-table.ensures.value, c.ties.ensures) at c.in_ok-cast.ensures.turn in
    rw c.cast_news-in-Now.ensures (follows_quiet node (casts node copy) _ c.args.sent.now _ _
    (casts_quiet node refl c.requires.sound.laid copy)
    (cast_goes_on node copy c.cast.new.self c.args.sent.now _ c.in_ok-cast.ensures.after c.in-Now.first c.in-Now.targets _
    (sym found ∙ c.in-Now.is) (sym c.is_empty.ensures ∙ c.if-is_empty.false) c.in_ok-spread_cast-in-Now.ensures.after
    c.in_ok-spread_cast-in-Now.ensures.sent))
