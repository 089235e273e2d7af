-- Links in both directions: Release, Link and Forget.
--
-- A Release: `takes_release`, then `release_word`. A Link: `takes_link_joining` at a joining node, and elsewhere `takes_link`, then
-- `release_answer`. A Forget: `takes_forget`.
--
-- Rule: docs/PROTOCOL.md, "Release" and "Link" and "Forget".
use Rattle.std.specs.Prelude.{◌&&◌, Bool, if◌then◌else◌, List, [], ◌∷◌, Option}
use Rattle.tap_name.specs.Name.{Name}
use Rattle.tap_name.specs.Order.{name_cmp}
use Rattle.tap_register.specs.Registers.{Version, is_newer}
use Rattle.tap_table.specs.declared.tie.Tie.{Tie}
use Rattle.tap_table.specs.Ties.{forgotten, held_word, release_tells, released}
use Rattle.tap_join.specs.Hello.{words_of}
use Rattle.tap_wire.specs.declared.frame.Body.TheVariants.{Release}
use Rattle.tap_rule.specs.Node.{NodeState}
use Rattle.tap_rule.specs.Reaction.{Message, Reaction, message, sends, stays, with_ties, with_words}

-- Release, at a joining or core node: a pin on the sender is settled if its slot has room, and else dropped, with a word
abbrev pub release_word : NodeState → Name → Option Tie
release_word node from = release_tells node.ties node.stamp from

abbrev pub takes_release : NodeState → Name → Reaction
takes_release node from =
    with_words (words_of (release_word node from)) (stays (with_ties (released node.ties from) (release_word node from) node))

-- the node once it has heard the word of a holder
abbrev pub with_word : NodeState → Name → Version → Bool → NodeState
with_word node holder version on = record node { ties = held_word node.ties holder version on }

-- the word is new, and says that there is a link
abbrev pub is_new_link : NodeState → Name → Version → Bool → Bool
is_new_link node holder version on = is_newer name_cmp node.ties.holders holder version && on

-- the Release for it, from a core or leaving node
abbrev pub release_answer : NodeState → Name → Version → Bool → List Message
release_answer node holder version on = if is_new_link node holder version on then message holder Release ∷ [] else []

-- Link, at a joining node
abbrev pub takes_link_joining : NodeState → Name → Version → Bool → Reaction
takes_link_joining node holder version on = stays (with_word node holder version on)

-- Link, at a core or leaving node: a new link is answered with a Release
abbrev pub takes_link : NodeState → Name → Version → Bool → Reaction
takes_link node holder version on =
    sends (with_word node holder version on) (release_answer node holder version on)

-- Forget, at a joining or core node: a pin on the sender is gone, without a word
abbrev pub takes_forget : NodeState → Name → Reaction
takes_forget node from = stays (record node { ties = forgotten node.ties from })
