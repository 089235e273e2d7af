-- Pointers in the words of the log of a run.
--
-- Rule: docs/FORMATS.md, "The course of a run".
use Rattle.std.specs.Prelude.{◌≡◌, ◌↔◌, Bool, true, ℕ, List}
use Rattle.std.specs.List.{filter_map}
use Rattle.tap_name.specs.Names.{Among}
use Rattle.tap_name.specs.Settings.{SettingsValue}
use Rattle.tap_pointer.specs.declared.pair.Pair.{Pair}
use Rattle.tap_log.specs.Kinds.{published_pair}
use Rattle.tap_log.specs.declared.record.Record.{Record}
use Rattle.tap_history.specs.Moments.{is_rest}
use Rattle.tap_history.specs.Published.{has_pair, published_of}
use Rattle.tap_surrogate.specs.Walk.{walk}
use Rattle.tap_runs.specs.Course.{system_of}
use Rattle.tap_runs.specs.Observed.{pair_line}
use Rattle.tap_safe_runs.specs.Moments.{tables_of}
use Rattle.tap_pointer_moves.specs.Ever.{AreOfPublished}
pub use Rattle.tap_pointer_moves.specs.Paths.{HoldsPair}
use Rattle.tap_pointer_moves.specs.Publications.{is_served}
use Rattle.tap_pointer_moves.specs.LaysTold.{PointersStand}

-- the pair is one of the published ones of the log
abbrev pub IsPublishedIn : List Record → Pair → Type 0
IsPublishedIn log pair = has_pair (published_of log) (pair_line pair) ≡ true

-- pointers stand in the system that the log has come to
abbrev pub PointersStandIn : SettingsValue → List Record → Type 0
PointersStandIn p log = PointersStand (system_of log)

-- Published: a pair is published in the log exactly if its server publishes its object
abbrev pub PublishedAreServed : SettingsValue → List Record → Type 0
PublishedAreServed p log = (pair : Pair) → has_pair (published_of log) (pair_line pair) ≡ is_served (system_of log) pair

-- the log publishes a pair, be it withdrawn later or not
abbrev pub was_published : List Record → Pair → Bool
was_published log pair = has_pair (filter_map published_pair log) (pair_line pair)

-- Ever: each pair that a node publishes, of which a register has a word, or of which a Lay is on its way, was published in the log
abbrev pub KnownWerePublished : SettingsValue → List Record → Type 0
KnownWerePublished p log = AreOfPublished (was_published log) (system_of log)

-- at rest a node holds a pair exactly if the pair is published in the log and the node is on the walk of its object from its server
abbrev pub PointersOnTheirPaths : SettingsValue → List Record → Type 0
PointersOnTheirPaths p log = is_rest log ≡ true → (x : List ℕ) (pair : Pair) → HoldsPair (system_of log) x pair
    ↔ (IsPublishedIn log pair × Among x (walk p.base (tables_of log) pair.server pair.object))
