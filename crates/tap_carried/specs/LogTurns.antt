-- Logs, carried or not, by their turns: what each group is, and what becomes of it in the reduced log.
--
-- Rule: docs/FORMATS.md, "Groups and moments".
use Rattle.std.specs.Prelude.{◌≡◌, ℕ, Bool, true, false, List, [], ◌∷◌, ◌++◌, All}
use Rattle.tap_scenario.specs.declared.step.Step.{Step}
use Rattle.tap_log.specs.declared.record.Record.{Record}
use Rattle.tap_log.specs.declared.record.Record.TheVariants.{Carrier, Step as StepRecord, Taken, Arrived, Ticked}
use Rattle.tap_log.specs.Kinds.{begins_group}
use Rattle.tap_log.specs.Reduced.{is_added}
use Rattle.tap_history.specs.StepAsks.{is_start}
use Rattle.tap_runs.specs.Beginning.{Beginning, begin_record}

-- ---- the records within a group

-- The reduced log keeps this record, and it begins no group, be the log carried or not.
pub record IsPlainRecord (item : Record) : Type 0 where
  pub kept : is_added item ≡ false
  pub uncarried : begins_group false item ≡ false
  pub carried : begins_group true item ≡ false

-- The reduced log leaves this record out, and it begins no group: a packet is made or lost, or the roots of salted names are told.
pub record IsAddedRecord (item : Record) : Type 0 where
  pub left_out : is_added item ≡ true
  pub carried : begins_group true item ≡ false

-- ---- turns

-- What a run does next, as one group of its log. Its plain records stand first, and after them those that are added:
--
-- - a step with this index, and what it comes to;
-- - a frame with this number is taken, in a carried log out of the packet with the first number, and its receiver acts;
-- - a packet with this number arrives, and no frame is taken out of it;
-- - a tick, at which frames are sent once more.
pub data Turn : Type 0 where
  Steps : ℕ → Step → List Record → List Record → Turn
  Takes : ℕ → ℕ → List Record → List Record → Turn
  Arrives : ℕ → List Record → Turn
  Ticks : List Record → Turn

-- in a carried log a frame is taken out of a packet that arrives
abbrev pub arrival : Bool → ℕ → List Record
arrival true packet = Arrived packet ∷ []
arrival false packet = []

-- the group of a turn, in a log that is carried or not
abbrev pub group_of_turn : Bool → Turn → List Record
group_of_turn carried (Steps index step items added) = StepRecord index step ∷ (items ++ added)
group_of_turn carried (Takes packet frame items added) = arrival carried packet ++ Taken frame ∷ (items ++ added)
group_of_turn carried (Arrives packet added) = Arrived packet ∷ added
group_of_turn carried (Ticks added) = Ticked ∷ added

-- what becomes of the turn in the reduced log: the same group without what is added, or nothing
abbrev pub reduced_group : Turn → List Record
reduced_group (Steps index step items added) = StepRecord index step ∷ items
reduced_group (Takes packet frame items added) = Taken frame ∷ items
reduced_group other = []

-- the plain records of a turn are plain
abbrev pub HasPlainRecords : Turn → Type 0
HasPlainRecords (Steps index step items added) = All IsPlainRecord items
HasPlainRecords (Takes packet frame items added) = All IsPlainRecord items
HasPlainRecords other = Unit {0}

-- The added records of a turn are added. A start of which nothing else is said has none, since they would accept it in the one log alone. Only
-- in a carried log packets arrive with no frame to be taken, and ticks come.
abbrev pub HasAddedRecords : Bool → Turn → Type 0
HasAddedRecords carried (Steps index step items added) = All IsAddedRecord added × (is_start step ≡ true → items ≡ [] → added ≡ [])
HasAddedRecords carried (Takes packet frame items added) = All IsAddedRecord added
HasAddedRecords carried (Arrives packet added) = All IsAddedRecord added × (carried ≡ true)
HasAddedRecords carried (Ticks added) = All IsAddedRecord added × (carried ≡ true)

-- this is a turn of a log that is carried or not
abbrev pub IsTurn : Bool → Turn → Type 0
IsTurn carried turn = HasPlainRecords turn × HasAddedRecords carried turn

-- ---- logs of turns

-- the records with which a log begins
abbrev pub beginning_records : Bool → Beginning → List Record
beginning_records true b = begin_record b ∷ Carrier ∷ []
beginning_records false b = begin_record b ∷ []

-- the log after these turns
abbrev pub log_after_turns : Bool → List Record → List Turn → List Record
log_after_turns carried log [] = log
log_after_turns carried log (turn ∷ turns) = log_after_turns carried (log ++ group_of_turn carried turn) turns

-- The log has its beginning, and then one group after the other, each of which is a turn: it doesn't say how a run has ended.
pub record IsLogOfTurns (carried : Bool) (log : List Record) : Type 0 where
  pub beginning : Beginning
  pub turns : List Turn
  pub are : All (IsTurn carried) turns
  pub is : log ≡ log_after_turns carried (beginning_records carried beginning) turns
