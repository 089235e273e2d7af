-- What the log of a run says of lookups that are answered without a server.
--
-- Rule: docs/FORMATS.md, "The course of a run".
use Rattle.std.specs.Prelude.{◌≡◌, ◌⊎◌, ℕ, ◌<◌, ◌≤◌, true, List, ◌∷◌, ◌++◌, drop, length, take, None}
use Rattle.tap_name.specs.Settings.{SettingsValue}
use Rattle.tap_pointer.specs.Pointers.{pair_of}
use Rattle.tap_scenario.specs.declared.step.Step.TheVariants.{Find}
use Rattle.tap_wire.specs.declared.frame.Body.{Body}
use Rattle.tap_log.specs.declared.record.Record.{Record}
use Rattle.tap_log.specs.declared.record.Record.TheVariants.{Answered, Asked, Step as StepRecord, Taken}
use Rattle.tap_history.specs.Moments.{is_moment}
use Rattle.tap_safety.specs.System.{System, IsUnderWay}
use Rattle.tap_runs.specs.Course.{system_of}
use Rattle.tap_pointer_runs.specs.Paths.{IsPublishedIn}
use Rattle.tap_pointer_moves.specs.NoServer.{EndsAt, EndsWith, IsLookup}
use Rattle.tap_pointer_runs.specs.LookupAnswers.{was_asked}

-- ---- the last node reached

-- what comes next after the log is that a node takes a Find of the lookup, and the lookup ends at this node
pub record EndsAsTaken (log later : List Record) (ticket : ℕ) (object : List ℕ) : Type 0 where
  pub number : ℕ
  pub items : List Record
  pub is : later ≡ Taken number ∷ items
  pub ends : EndsWith (system_of log) number ticket object

-- what comes next is that a node asks for the object, and the lookup ends at this node at once
pub record EndsAsAsked (log later : List Record) (ticket : ℕ) (object : List ℕ) : Type 0 where
  pub index : ℕ
  pub asker : List ℕ
  pub items : List Record
  pub is : later ≡ StepRecord index (Find object asker) ∷ Asked ticket object asker ∷ items
  pub ends : EndsAt (system_of log) asker object 0

-- at a moment of the log that isn't after these records, one of the two comes next
pub record HasEndedBy (log before : List Record) (ticket : ℕ) (object : List ℕ) : Type 0 where
  pub at : ℕ
  pub moment : is_moment log at ≡ true
  pub earlier : at ≤ length before
  pub ends : EndsAsTaken (take at log) (drop at log) ticket object ⊎ EndsAsAsked (take at log) (drop at log) ticket object

-- A lookup is answered without a server only if the last node that it has reached, by a Find or as its asker, held no pair of the object then,
-- and had no next hop for it.
abbrev pub LookupsEndWithoutServer : SettingsValue → List Record → Type 0
LookupsEndWithoutServer p log = (before after : List Record) (ticket : ℕ) (object : List ℕ) → log ≡ before ++ Answered ticket None ∷ after
    → was_asked before ticket object ≡ true → HasEndedBy log before ticket object

-- ---- what may have stood in its way

-- the log has no pair of the object as published
abbrev pub HasNoServer : List Record → List ℕ → Type 0
HasNoServer log object = (server : List ℕ) → IsPublishedIn log (pair_of object server) → ⊥

-- a frame is under way that is neither a Find nor an Answer
pub record IsBusy (s : System) : Type 0 where
  pub from : List ℕ
  pub to : List ℕ
  pub body : Body
  pub way : IsUnderWay s from to body
  pub other : IsLookup body → ⊥

-- the log has no such pair, or a frame is outstanding that is of no lookup
abbrev pub IsDisturbed : List Record → List ℕ → Type 0
IsDisturbed log object = HasNoServer log object ⊎ IsBusy (system_of log)

-- So it was at some moment of the log. The lookup had been asked for by then, and each earlier moment is before its answer, which comes after
-- these records.
pub record WasDisturbed (log before : List Record) (ticket : ℕ) (object : List ℕ) : Type 0 where
  pub at : ℕ
  pub moment : is_moment log at ≡ true
  pub asked : was_asked (take at log) ticket object ≡ true
  pub until : (other : ℕ) → is_moment log other ≡ true → other < at → other ≤ length before
  pub disturbed : IsDisturbed (take at log) object

-- A lookup is answered without a server only if at some moment, from the end of the group that asks for it to the end of the group that answers
-- it, no pair of its object was published, or a frame was outstanding that is of no lookup.
abbrev pub AnsweredNoneWereDisturbed : SettingsValue → List Record → Type 0
AnsweredNoneWereDisturbed p log = (before after : List Record) (ticket : ℕ) (object : List ℕ)
    → log ≡ before ++ Answered ticket None ∷ after → was_asked before ticket object ≡ true → WasDisturbed log before ticket object
