-- A step that goes as a rule says: the state afterwards, the frames as bytes, and the news.
--
-- Rule: docs/PROTOCOL.md, "Steps of a node".
use Rattle.std.specs.Prelude.{◌≡◌, ℕ, List, ◌++◌, Option, None, Some}
use Rattle.tap_rule.specs.Node.{NodeState}
use Rattle.tap_rule.specs.Event.{News as RuleNews}
use Rattle.tap_rule.specs.Event.News.{Nothing, Core, Gone, Answered, Cast}
use Rattle.tap_rule.specs.Reaction.{Reaction}
use Rattle.tap_rule.specs.Act.{completed}
use Rattle.tap_node_common.specs.declared.news.News.{News}
use Rattle.tap_node_common.specs.declared.news.News.TheVariants as seen
use Rattle.tap_node_common.specs.Sender.{lay_bytes, message_bytes, node_sender, word_bytes}

-- the news as a caller sees it
abbrev pub news_seen : RuleNews → News
news_seen Nothing = seen.Nothing
news_seen Core = seen.Core
news_seen Gone = seen.Gone
news_seen (Answered ticket server) = seen.Answered ticket server
news_seen (Cast cast reached closed) = seen.Cast cast reached closed

-- the bytes of the frames of a reaction, in the order in which they are sent
abbrev pub frames_of_reaction : NodeState → Reaction → List (List ℕ)
frames_of_reaction node reaction =
    word_bytes (node_sender node) reaction.words
    ++ (message_bytes (node_sender node) reaction.messages ++ lay_bytes (node_sender node) reaction.lays)

-- the node is left so, these frames are added to those before, and the news is so
pub record StepsAs (node : NodeState) (reaction : Reaction) (after : NodeState) (before sent : List (List ℕ)) (news : News) : Type 0 where
  pub state : after ≡ reaction.state
  pub frames : sent ≡ before ++ frames_of_reaction node reaction
  pub noted : news ≡ news_seen reaction.news

-- nothing is done
pub record StaysAs (node after : NodeState) (before sent : List (List ℕ)) (news : News) : Type 0 where
  pub state : after ≡ node
  pub frames : sent ≡ before
  pub noted : news ≡ seen.Nothing

-- the node does as a rule says, if there is one, and then reconciles unless it has ended
abbrev pub FollowsAs : NodeState → Option Reaction → NodeState → List (List ℕ) → List (List ℕ) → News → Type 0
FollowsAs node None after before sent news = StaysAs node after before sent news
FollowsAs node (Some reaction) after before sent news =
    StepsAs node (completed reaction.state.status reaction) after before sent news
