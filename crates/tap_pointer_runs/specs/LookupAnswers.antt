-- What the log of a run says of lookups.
--
-- Rule: docs/FORMATS.md, "The course of a run".
use Rattle.std.specs.Prelude.{◌≡◌, ◌&&◌, Bool, false, ℕ, nat_eq, List, ◌∷◌, ◌++◌, Option}
use Rattle.std.specs.Cmp.Lexicographic.{pointwise}
use Rattle.std.specs.List.{list_any}
use Rattle.tap_name.specs.Settings.{SettingsValue}
use Rattle.tap_log.specs.declared.record.Record.{Record}
use Rattle.tap_log.specs.declared.record.Record.TheVariants.{Answered, Asked}
use Rattle.tap_pointer_runs.specs.Paths.{was_published}
use Rattle.tap_runs.specs.Course.{system_of}
use Rattle.tap_pointer_moves.specs.LookupAnswers.{IsAnswerOf}
use Rattle.tap_pointer_moves.specs.Lookups.{LookupsGoToCore}

-- the record asks for this object under this ticket
abbrev pub asks_for : Record → ℕ → List ℕ → Bool
asks_for (Asked number name asker) ticket object = nat_eq number ticket && pointwise nat_eq name object
asks_for other ticket object = false

-- the log has asked for the object under the ticket
abbrev pub was_asked : List Record → ℕ → List ℕ → Bool
was_asked log ticket object = list_any (λ item. asks_for item ticket object) log

-- Each answer of the log is one of a lookup that it has asked before; and if it names a server, the log has published the pair of the
-- object that was asked for and this server before, be it withdrawn later or not.
abbrev pub AnswersWerePublished : SettingsValue → List Record → Type 0
AnswersWerePublished p log = (before after : List Record) (ticket : ℕ) (server : Option (List ℕ))
    → log ≡ before ++ Answered ticket server ∷ after → IsAnswerOf (was_asked before) (was_published before) ticket server

-- lookups under way go to core nodes in the system that the log has come to
abbrev pub LookupsGoToCoreIn : SettingsValue → List Record → Type 0
LookupsGoToCoreIn p log = LookupsGoToCore (system_of log)
