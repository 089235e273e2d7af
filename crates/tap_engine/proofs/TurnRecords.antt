-- The records of the turn of a node are what a log says of what the node did.
use Rattle.std.proofs.Common.{◌≡◌, ℕ, ◌+◌, List, [], ◌∷◌, ◌++◌, map, refl, ap, ◌∙◌}
use Rattle.tap_name.specs.Settings.{SettingsValue}
use Rattle.tap_wire.specs.Spelling.{spelling}
use Rattle.tap_wire.specs.declared.frame.Frame.{Frame}
use Rattle.tap_log.specs.declared.record.Record.{Record}
use Rattle.tap_log.specs.declared.record.Record.TheVariants.{Sent}
use Rattle.tap_rule.specs.Event.{News}
use Rattle.tap_rule.specs.Event.News.{Nothing, Core, Gone, Answered, Cast}
use Rattle.tap_rule.specs.Node.{settings_of}
use Rattle.tap_node_common.specs.StepsAs.{news_seen}
use Rattle.tap_runs.specs.Acts.{news_after, news_before, sent_records}
use Rattle.tap_engine.specs.TurnRecords.{TurnsAreTold}
use Rattle.tap_engine.specs.SeenTurns.{bytes_records, rule_news, seen_after}

-- The bytes of frames, numbered, are the records of these frames.
bytes_are : (p : SettingsValue) (number : ℕ) (frames : List Frame) → bytes_records number (map (spelling p) frames) ≡ sent_records p number frames
bytes_are p number [] = refl
bytes_are p number (frame ∷ frames) = ap (λ l. Sent number (spelling p frame) ∷ l) (bytes_are p (number + 1) frames)

-- The news that a caller sees are those of the rule.
news_are : (news : News) → rule_news (news_seen news) ≡ news
news_are Nothing = refl
news_are Core = refl
news_are Gone = refl
news_are (Answered ticket server) = refl
news_are (Cast cast reached closed) = refl

-- The law.
pub turns_are_told : TurnsAreTold
turns_are_told node acted number name =
    let p = settings_of node in
    let seen = news_seen acted.news in
    let Tells : List Record → List Record → List Record → List Record = λ before frames after. before ++ (frames ++ after) in
    ap (λ l. Tells (news_before name (rule_news seen)) l (seen_after seen)) (bytes_are p number acted.sent)
    ∙ ap (λ n. Tells (news_before name n) (sent_records p number acted.sent) (news_after n)) (news_are acted.news)
