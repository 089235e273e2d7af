-- The shape of a log: what its records meet, so that its text can be read back.
use Rattle.std.specs.Prelude.{◌≡◌, ℕ, ◌≤◌, ◌<◌, ◌^◌, Bool, List, [], ◌∷◌, length, All}
use Rattle.tap_name.specs.Settings.{SettingsValue}
use Rattle.tap_name.specs.Name.{IsName}
use Rattle.tap_scenario.specs.Scenario.{IsScript, most_steps}
use Rattle.tap_log.specs.declared.record.LinkLine.{LinkLine}
use Rattle.tap_log.specs.declared.record.Pair.{Pair}
use Rattle.tap_log.specs.declared.record.Record.{Record}
use Rattle.tap_log.specs.declared.record.Record.TheVariants.{Begin, TableOf, PointersOf}
use Rattle.tap_log.specs.Kinds.{is_carried}
use Rattle.tap_log.specs.Log.{begun_steps}
use Rattle.tap_line.specs.Line.{IsLink, IsWhole}

-- ---- one record

-- the links of a table, whose number is printed
pub record AreLinks (p : SettingsValue) (links : List LinkLine) : Type 0 where
  pub few : length links < 2 ^ 64
  pub each : All (IsLink p) links

-- an object and a server of it
abbrev pub IsPair : SettingsValue → Pair → Type 0
IsPair p pair = IsName p pair.object × IsName p pair.server

-- the pairs that a node holds, whose number is printed
pub record ArePairs (p : SettingsValue) (pairs : List Pair) : Type 0 where
  pub few : length pairs < 2 ^ 64
  pub each : All (IsPair p) pairs

-- A record that may stand after the beginning of a log with these settings, which is carried or not: a table, pointers, or a record of one
-- line. No beginning is one.
unfoldable pub IsShaped : SettingsValue → Bool → Record → Type 0
IsShaped p carrier (TableOf name status links) = IsName p name × AreLinks p links
IsShaped p carrier (PointersOf name pairs) = IsName p name × ArePairs p pairs
IsShaped p carrier item = IsWhole p carrier item

-- ---- a log

-- The shape of a log: it begins as a scenario without steps does, each later record may stand there, and its steps aren't more than those of a
-- scenario may be.
pub record IsShape (log : List Record) : Type 0 where
  pub settings : SettingsValue
  pub frames : ℕ
  pub members : List (List ℕ)
  pub items : List Record
  pub is : log ≡ Begin settings frames members ∷ items
  pub valid : IsScript (record { settings = settings; frames = frames; carrier = is_carried log; members = members; steps = [] })
  pub few : length (begun_steps log) ≤ most_steps
  pub shaped : All (IsShaped settings (is_carried log)) items
