-- What the words of a command line have run, and what is printed of its log. The states of the source were `old` and are `new`.
use Rattle.std.specs.Prelude.{◌≡◌, ◌≤◌, if◌then◌else◌, is_some, IfSome, MatchOption}
use Rattle.tap_io.specs.AllBytes.{HasReadTooMany, HasReadUntilFault, HasReadWithoutFault}
use Rattle.tap_io.specs.Source.{SourceState}
use Rattle.tap_scenario.specs.Scenario.{ScenarioValue}
use Rattle.tap_make.specs.Made.{made}
use Rattle.tap_report.specs.declared.mode.Mode.{Mode}
use Rattle.tap_report.specs.declared.mode.Mode.TheVariants.{Long, Brief, Summary}
use Rattle.tap_words.specs.Words.{most_joins}
use Rattle.tap_words.specs.declared.asked.Asked.{Asked}
use Rattle.tap_top.specs.declared.status.Status.{Status}
use Rattle.tap_top.specs.declared.status.Status.TheVariants.{Done, Usage, TooLong, NotScenario, ReadFault, WriteFault, Spent, NoMemory}
use Rattle.tap_top.specs.Limits.{most_bytes}
use Rattle.tap_top.specs.Reading.{HasReadFault, HasReadScript}

-- what is printed: of a scenario that is made the summary, and else the brief or the long text
abbrev pub mode_of : Asked → Mode
mode_of asked = if is_some asked.make then Summary else (if asked.brief then Brief else Long)

-- a scenario that is to be made has a number of joins within its limits
abbrev pub AsksWithin : Asked → Type 0
AsksWithin asked = IfSome asked.make (λ joins. (1 ≤ joins) × (joins ≤ most_joins))

-- the scenario that is run: that which is made for so many joins from the seed, if one is to be made, when nothing is read; and else that
-- of which all bytes of the source are the text
abbrev pub IsWanted : Asked → SourceState → SourceState → ScenarioValue → Type 0
IsWanted asked old new script = MatchOption asked.make (HasReadScript old new script) (λ joins. (script ≡ made joins asked.seed) × (new ≡ old))

-- why no scenario was read; if one was read or nothing was tried, there is no such reason
abbrev pub IsUnread : SourceState → SourceState → Status → Type 0
IsUnread old new ReadFault = HasReadUntilFault most_bytes old new
IsUnread old new TooLong = HasReadTooMany most_bytes old new
IsUnread old new (NotScenario fault) = HasReadFault old new fault
IsUnread old new NoMemory = HasReadWithoutFault most_bytes old new
IsUnread old new Done = ⊥
IsUnread old new Usage = ⊥
IsUnread old new WriteFault = ⊥
IsUnread old new Spent = ⊥

-- why there is no scenario: one that is to be made wants memory alone, and nothing is read
abbrev pub IsNotHad : Asked → SourceState → SourceState → Status → Type 0
IsNotHad asked old new status = MatchOption asked.make (IsUnread old new status) (λ joins. (status ≡ NoMemory) × (new ≡ old))
