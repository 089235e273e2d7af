-- How often the log of a run asks for a lookup, and how often it answers it.
--
-- Rule: docs/FORMATS.md, "The course of a run".
use Rattle.std.specs.Prelude.{◌≡◌, ◌==◌, ℕ, ◌≤◌, Bool, true, false, List, count_by}
use Rattle.tap_name.specs.Settings.{SettingsValue}
use Rattle.tap_log.specs.declared.record.Record.{Record}
use Rattle.tap_log.specs.declared.record.Record.TheVariants.{Answered, Asked}
use Rattle.tap_history.specs.Moments.{is_rest}

-- the record asks for a lookup under this ticket, or answers it
unfoldable pub asks_under : ℕ → Record → Bool
asks_under ticket (Asked number object asker) = number == ticket
asks_under ticket item = false

unfoldable pub answers_under : ℕ → Record → Bool
answers_under ticket (Answered number server) = number == ticket
answers_under ticket item = false

-- how often the log does
abbrev pub times_asked : ℕ → List Record → ℕ
times_asked ticket log = count_by (asks_under ticket) log

abbrev pub times_answered : ℕ → List Record → ℕ
times_answered ticket log = count_by (answers_under ticket) log

-- The log asks for one lookup at most under a ticket, and answers it no more often than it asks for it. At rest it has answered it as often: each
-- lookup that was asked for is answered exactly once.
pub record LookupsAreAnswered (p : SettingsValue) (log : List Record) : Type 0 where
  pub asked : (ticket : ℕ) → times_asked ticket log ≤ 1
  pub answered : (ticket : ℕ) → times_answered ticket log ≤ times_asked ticket log
  pub rest : is_rest log ≡ true → (ticket : ℕ) → times_answered ticket log ≡ times_asked ticket log
