-- What a page gets of a run: the bytes that are printed, and the exit status.
use Rattle.std.specs.Prelude.{◌≡◌, ◌≤◌, ◌⊎◌, Bool, ℕ, List, [], ◌∷◌, codes, if◌then◌else◌, length, Option, None, Some, take}
use Rattle.tap_io.specs.Source.{SourceState}
use Rattle.tap_engine.specs.World.{WorldValue}
use Rattle.tap_words.specs.declared.asked.Asked.{Asked}
use Rattle.tap_top.specs.declared.status.Status.{Status}
use Rattle.tap_top.specs.declared.status.Status.TheVariants.{NoMemory, WriteFault}
use Rattle.tap_top.specs.AskedLog.{IsLogAsked}
use Rattle.tap_top.specs.Ending.{HasCauseOf, log_of, text_of_run}
use Rattle.tap_top.specs.Status.{exit_code}
use Rattle.tap_top.specs.Wanted.{mode_of}

-- the words of a command line that ask for the long or the brief text of a scenario
abbrev pub page_words : Bool → List (List ℕ)
page_words brief = if brief then codes "--brief" ∷ [] else []

-- what they ask for: that a scenario is read, and that text of its log is printed
abbrev pub page_asked : Bool → Asked
page_asked brief = record { brief = brief; make = None; seed = 1 }

-- a source of these bytes, of which none was read and no read has failed
abbrev pub source_of : List ℕ → SourceState
source_of text = record { left = Some text; faults = 0 }

-- these are some first bytes of a text
pub record IsFirstPartOf (text printed : List ℕ) : Type 0 where
  pub count : ℕ
  pub within : count ≤ length text
  pub bytes : printed ≡ take count text

-- The whole text was printed, and the exit status is that of a run that ends so; or only some first bytes of it were, and the exit status is
-- that of a failed write.
abbrev pub HasPrinted : List ℕ → List ℕ → Status → ℕ → Type 0
HasPrinted printed text before code =
    ((code ≡ exit_code before) × (printed ≡ text)) ⊎ ((code ≡ exit_code WriteFault) × IsFirstPartOf text printed)

-- The top call has run these bytes, and has ended for this cause; there is no log, or it is that of a run of the scenario that the bytes spell,
-- with the headline. The text of the log and the fault line were printed, or some first bytes of them.
pub record HasRunText (brief : Bool) (text printed : List ℕ) (code : ℕ) : Type 0 where
  pub before : Status
  pub world : Option WorldValue
  pub left : SourceState
  pub cause : HasCauseOf (page_asked brief) (source_of text) left world before
  pub headline : (log_of world ≡ []) ⊎ IsLogAsked (page_asked brief) (source_of text) left (log_of world)
  pub written : HasPrinted printed (text_of_run (mode_of (page_asked brief)) (log_of world) before) before code

-- memory was refused before the bytes were looked at, and nothing was printed
abbrev pub HasNotBegun : List ℕ → ℕ → Type 0
HasNotBegun printed code = (code ≡ exit_code NoMemory) × (printed ≡ [])

-- What is printed stands at the front of the room, and is no longer than it. The bytes were run, or memory was refused before.
pub record HasAnswered (brief : Bool) (text room : List ℕ) (len code : ℕ) : Type 0 where
  pub within : len ≤ length room
  pub answer : HasNotBegun (take len room) code ⊎ HasRunText brief text (take len room) code
