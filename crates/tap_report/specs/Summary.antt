-- The summary of a log: how many nodes are left, how many frames were sent, the most hops of a walk, and how many lookups were
-- answered with a server. Who is a member, which departures are accepted and how many frames were sent is said by `tap_log`.
use Rattle.std.specs.Prelude.{ℕ, ◌+◌, ◌-◌, max, List, [], ◌∷◌, ◌++◌, length, fold, count_by, cond, codes, bytes_eq, Bool, true, false, Option, None, Some}
use Rattle.std.specs.List.{filter_map, last_or}
use Rattle.tap_name.specs.Settings.{SettingsValue}
use Rattle.tap_log.specs.declared.record.Record.{Record}
use Rattle.tap_log.specs.declared.record.Record.TheVariants as rec
use Rattle.tap_log.specs.Kinds.{core_name}
use Rattle.tap_history.specs.Core.{departures_of, members_of}
use Rattle.tap_log.specs.Counts.{sent_count}
use Rattle.tap_report.specs.Shapes.{number_after, line}
use Rattle.tap_report.specs.declared.mode.Mode.{Mode}
use Rattle.tap_report.specs.declared.mode.Mode.TheVariants.{Summary}

-- ---- nodes

-- how many `Core` records there are
abbrev pub core_count : List Record → ℕ
core_count log = length (filter_map core_name log)

-- the departure that was accepted last
abbrev pub last_departure : List Record → Option (List ℕ)
last_departure log = last_or None (departures_of log)

-- whether a record says that this node is gone
abbrev pub is_gone : Option (List ℕ) → Record → Bool
is_gone (Some leaver) (rec.Gone name) = bytes_eq leaver name
is_gone leaver item = false

-- whether a record after these is the `Gone` of a departed node: of the one whose departure was accepted last before it
abbrev pub is_departed : List Record → Record → Bool
is_departed before item = is_gone (last_departure (before ++ item ∷ [])) item

-- how many of the second records, which stand after the first ones, are the `Gone` of a departed node
abbrev pub departed_after : List Record → List Record → ℕ
departed_after before [] = 0
departed_after before (item ∷ items) = cond (is_departed before item) 1 0 + departed_after (before ++ item ∷ []) items

-- how many records are the `Gone` of a departed node
abbrev pub departed_count : List Record → ℕ
departed_count log = departed_after [] log

-- the nodes that are left: the members and the `Core` records, less the `Gone` of departed nodes; 0 if that would be less
abbrev pub nodes_left : List Record → ℕ
nodes_left log = length (members_of log) + core_count log - departed_count log

-- ---- walks and lookups

-- the hops of a walk, which are the nodes of its path but the first one; 0 of another record
abbrev pub hops_in : Record → ℕ
hops_in (rec.Walked object path) = length path - 1
hops_in item = 0

-- the most hops of a walk; 0 if there is none
abbrev pub most_hops : List Record → ℕ
most_hops log = fold (λ most item. max most (hops_in item)) 0 log

-- whether a record answers a lookup with a server
abbrev pub finds_server : Record → Bool
finds_server (rec.Answered ticket (Some server)) = true
finds_server item = false

-- how many lookups were answered with a server
abbrev pub answered_count : List Record → ℕ
answered_count log = count_by finds_server log

-- ---- the four numbers

-- the numbers of the four lines
pub record Numbers : Type 0 where
  pub nodes : ℕ
  pub frames : ℕ
  pub hops : ℕ
  pub answered : ℕ

-- those of a log
abbrev pub numbers_of : List Record → Numbers
numbers_of log = record { nodes = nodes_left log; frames = sent_count log; hops = most_hops log; answered = answered_count log }

-- the four lines
abbrev pub summary_text : Numbers → List ℕ
summary_text n =
    line (number_after (codes "nodes ") n.nodes) ++ line (number_after (codes "frames ") n.frames)
    ++ line (number_after (codes "hops ") n.hops) ++ line (number_after (codes "answered ") n.answered)

-- what stands after the last record: in the mode Summary the summary, if there is a `Begin`
abbrev pub ending : Mode → Option SettingsValue → Numbers → List ℕ
ending Summary (Some settings) n = summary_text n
ending mode settings n = []
