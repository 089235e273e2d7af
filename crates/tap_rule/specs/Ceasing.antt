-- Joins that are given up, and what a node does that has ceased.
--
-- Giving a join up: `starts_abandon`. A Done: `takes_done`, then `becomes_core` or `ceases`. At a node that has ceased, a Tell:
-- `takes_tell_ceased`, and a Link: `takes_link_ceased`.
--
-- Rule: docs/PROTOCOL.md, "Giving a join up" and "Done" and "Tell" and "Link".
use Rattle.std.specs.Prelude.{Bool, true, if◌then◌else◌, [], ◌∷◌}
use Rattle.tap_name.specs.Name.{Name}
use Rattle.tap_session.specs.Session.{SessionNumber}
use Rattle.tap_table.specs.ByName.{targets_by_name}
use Rattle.tap_table.specs.Ties.{holders_on, off_ties}
use Rattle.tap_wire.specs.declared.frame.Body.TheVariants.{Ack, Forget}
use Rattle.tap_rule.specs.Node.{NodeState, ended}
use Rattle.tap_rule.specs.Node.Status.{Ceased}
use Rattle.tap_rule.specs.Event.News.{Gone as GoneNews}
use Rattle.tap_rule.specs.Reaction.{Reaction, message, sends, stays, to_each, with_news, with_words}
use Rattle.tap_rule.specs.Joining.{becomes_core}

-- the join of a joining node is given up: from now on it is abandoned, and it sends nothing
abbrev pub starts_abandon : NodeState → Reaction
starts_abandon node = stays (record node { abandoned = true })

-- Done, at an abandoned node: it has ceased; a word for each link that there is none any more, and then a Forget for each
-- holder that is on, both ascending
abbrev pub ceases : NodeState → Reaction
ceases node =
    with_news GoneNews
    (with_words (off_ties node.stamp (targets_by_name node.ties.table))
    (sends (ended Ceased node) (to_each Forget (holders_on node.ties))))

-- Done, at a joining node
abbrev pub takes_done : NodeState → Reaction
takes_done node = if node.abandoned then ceases node else becomes_core node

-- Tell, at a node that has ceased: it is answered
abbrev pub takes_tell_ceased : NodeState → Name → SessionNumber → Reaction
takes_tell_ceased node from session = sends node (message from (Ack session) ∷ [])

-- Link, at a node that has ceased: who says that it has a link is to forget it
abbrev pub takes_link_ceased : NodeState → Name → Bool → Reaction
takes_link_ceased node holder on = sends node (if on then message holder Forget ∷ [] else [])
