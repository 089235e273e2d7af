-- Departures: the start, Leave, Left and Gone.
--
-- The start: `starts_leave`, then `with_departure`, then `finishes_or_sends`. A Leave: `takes_leave`, then `leave_word`. A Left: `takes_left`,
-- then `finishes_or_sends`. A Gone: `takes_gone`.
--
-- Rule: docs/PROTOCOL.md, "The start of a departure" and "Leave" and "Left" and "Gone".
use Rattle.std.specs.Prelude.{◌==◌, ◌+◌, if◌then◌else◌, List, [], ◌∷◌, length, map, Option}
use Rattle.tap_name.specs.Name.{Name}
use Rattle.tap_table.specs.declared.tie.Tie.{Tie}
use Rattle.tap_table.specs.ByName.{targets_by_name}
use Rattle.tap_table.specs.Ties.{holders_on, off_ties, removed}
use Rattle.tap_depart.specs.declared.notice.Notice.{Notice}
use Rattle.tap_depart.specs.Leaving.{names_but, started_leaving}
use Rattle.tap_depart.specs.ToldLeave.{told_leave, told_leave_tells}
use Rattle.tap_pointer.specs.Pointers.{all_withdrawn}
use Rattle.tap_pointer.specs.Reconcile.{clear_lays}
use Rattle.tap_wire.specs.declared.frame.Body.TheVariants.{Leave, Left, Gone}
use Rattle.tap_join.specs.Hello.{words_of}
use Rattle.tap_rule.specs.Node.{NodeState, ended}
use Rattle.tap_rule.specs.Node.Status.{Leaving, Gone as GoneStatus}
use Rattle.tap_rule.specs.Event.News.{Gone as GoneNews}
use Rattle.tap_rule.specs.Reaction.{Message, Reaction, message, sends, stays, to_each, with_ties, with_words}

-- the words of a node that finishes: for each link, ascending, that there is none any more
abbrev pub last_words : NodeState → List Tie
last_words node = off_ties node.stamp (targets_by_name node.ties.table)

-- A node finishes: it is gone, says so to each holder that is on, ascending, and clears its pointers.
abbrev pub finishes : NodeState → Reaction
finishes node = record {
  state = ended GoneStatus node;
  words = last_words node;
  messages = to_each Gone (holders_on node.ties);
  lays = clear_lays (node.stamp + length (last_words node)) node.pointers;
  news = GoneNews;
}

-- the node once it leaves: all that it published is withdrawn, and it awaits its holders
abbrev pub with_departure : NodeState → NodeState
with_departure node = record node {
  status = Leaving;
  pointers = all_withdrawn node.pointers;
  awaited = (started_leaving node.ties).awaited;
}

-- the Leave of a notice
abbrev pub leave_for : Notice → Message
leave_for notice = message notice.to (Leave notice.replacement)

-- a node that awaits nobody finishes; if not, it sends these
abbrev pub finishes_or_sends : NodeState → List Message → Reaction
finishes_or_sends node messages = if length node.awaited == 0 then finishes node else sends node messages

-- a core node leaves: a Leave for each holder that is on, ascending; without holders it finishes at once
abbrev pub starts_leave : NodeState → Reaction
starts_leave node = finishes_or_sends (with_departure node) (map leave_for (started_leaving node.ties).notices)

-- Leave, at a core node: it marks the leaver, takes the replacement if its slot wants one, and answers
abbrev pub leave_word : NodeState → Name → Option Name → Option Tie
leave_word node from replacement = told_leave_tells node.ties node.stamp from replacement

abbrev pub takes_leave : NodeState → Name → Option Name → Reaction
takes_leave node from replacement =
    let word = leave_word node from replacement in
    with_words (words_of word) (sends (with_ties (told_leave node.ties from replacement) word node) (message from Left ∷ []))

-- Left, at a leaving node: the sender is awaited no more, and after the last one the node finishes
abbrev pub takes_left : NodeState → Name → Reaction
takes_left node from = finishes_or_sends (record node { awaited = names_but node.awaited from }) []

-- Gone, at a core node: its link to the sender is taken out, without a word
abbrev pub takes_gone : NodeState → Name → Reaction
takes_gone node from = stays (record node { ties = removed node.ties from })
