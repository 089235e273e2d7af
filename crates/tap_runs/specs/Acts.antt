-- What a log says of what a node did: its news, and the frames that it sent.
--
-- Rule: docs/FORMATS.md, "The course of a run".
use Rattle.std.specs.Prelude.{ℕ, ◌+◌, Bool, true, false, List, [], ◌∷◌, ◌++◌}
use Rattle.tap_name.specs.Settings.{SettingsValue}
use Rattle.tap_wire.specs.declared.frame.Frame.{Frame}
use Rattle.tap_wire.specs.Spelling.{spelling}
use Rattle.tap_log.specs.declared.record.Record.{Record}
use Rattle.tap_log.specs.declared.record.Record.TheVariants.{Sent, Core, Gone, Answered, Reached, Closed}
use Rattle.tap_rule.specs.Event.{Acted, News}
use Rattle.tap_rule.specs.Event.News.{Nothing, Core as CoreNews, Gone as GoneNews, Answered as AnsweredNews, Cast as CastNews}

-- these frames as they are sent, numbered from this number on
abbrev pub sent_records : SettingsValue → ℕ → List Frame → List Record
sent_records p number [] = []
sent_records p number (frame ∷ frames) = Sent number (spelling p frame) ∷ sent_records p (number + 1) frames

-- a record, if it is to be there
abbrev pub if_so : Bool → Record → List Record
if_so true item = item ∷ []
if_so false item = []

-- the news of the node of this name that stand before its frames, and those that stand after them
unfoldable pub news_before : List ℕ → News → List Record
news_before name Nothing = []
news_before name CoreNews = Core name ∷ []
news_before name GoneNews = Gone name ∷ []
news_before name (AnsweredNews ticket server) = []
news_before name (CastNews cast reached closed) = if_so reached (Reached cast name)

unfoldable pub news_after : News → List Record
news_after Nothing = []
news_after CoreNews = []
news_after GoneNews = []
news_after (AnsweredNews ticket server) = Answered ticket server ∷ []
news_after (CastNews cast reached closed) = if_so closed (Closed cast)

-- what a log says of what the node of this name did, if so many frames were sent before
abbrev pub acted_records : SettingsValue → ℕ → List ℕ → Acted → List Record
acted_records p number name acted = news_before name acted.news ++ (sent_records p number acted.sent ++ news_after acted.news)
