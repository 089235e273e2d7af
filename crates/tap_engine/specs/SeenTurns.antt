-- What a log says of the turn that the code of a node gives: its news, and its frames as bytes.
--
-- Rule: docs/FORMATS.md, "The course of a run".
use Rattle.std.specs.Prelude.{ℕ, ◌+◌, List, [], ◌∷◌, ◌++◌}
use Rattle.tap_log.specs.declared.record.Record.{Record}
use Rattle.tap_log.specs.declared.record.Record.TheVariants.{Sent}
use Rattle.tap_rule.specs.Event.{News as RuleNews}
use Rattle.tap_rule.specs.Event.News.{Nothing, Core, Gone, Answered, Cast}
use Rattle.tap_node_common.specs.declared.news.News.{News}
use Rattle.tap_node_common.specs.declared.news.News.TheVariants as seen
use Rattle.tap_node.specs.declared.turn.Turn.{Turn}
use Rattle.tap_runs.specs.Acts.{news_after, news_before}

-- the news as the rule of a node has them
abbrev pub rule_news : News → RuleNews
rule_news seen.Nothing = Nothing
rule_news seen.Core = Core
rule_news seen.Gone = Gone
rule_news (seen.Answered ticket server) = Answered ticket server
rule_news (seen.Cast cast reached closed) = Cast cast reached closed

-- the news of the node of this name that stand before its frames, and those that stand after them
abbrev pub seen_before : List ℕ → News → List Record
seen_before name news = news_before name (rule_news news)

abbrev pub seen_after : News → List Record
seen_after news = news_after (rule_news news)

-- these frames as they are sent, numbered from this number on
abbrev pub bytes_records : ℕ → List (List ℕ) → List Record
bytes_records number [] = []
bytes_records number (bytes ∷ frames) = Sent number bytes ∷ bytes_records (number + 1) frames

-- what a log says of the turn of the node of this name, if so many frames were sent before
abbrev pub turn_records : ℕ → List ℕ → Turn → List Record
turn_records number name turn = seen_before name turn.news ++ (bytes_records number turn.sent ++ seen_after turn.news)
