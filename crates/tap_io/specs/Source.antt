-- What contracts see of a source, and what a read does to it and to the buffer that it reads `into`.
use Rattle.std.specs.Prelude.{◌≡◌, ◌≤◌, ℕ, List, Option, length, take}
use Rattle.std.specs.Io.KnownBytes.{Consumes, Keeps, IsAtEnd}
use Rattle.tap_io.specs.Faults.{counted}
use Rattle.tap_io.specs.declared.source.Got.{Got}
use Rattle.tap_io.specs.declared.source.Got.TheVariants.{Got as GotBytes, End, Failed}

-- the bytes that are left, which are `None` if the source doesn't tell them, and how many faults there were
pub record SourceState : Type 0 where
  pub left : Option (List ℕ)
  pub faults : ℕ

-- the next n bytes came, and stand at the front of the buffer, and no fault was counted
pub record Gives (old new : SourceState) (into : List ℕ) (n : ℕ) : Type 0 where
  pub at_least_one : 1 ≤ n
  pub within : n ≤ length into
  pub bytes : Consumes old.left new.left (take n into)
  pub faults : new.faults ≡ old.faults

-- no byte was left, and no fault was counted
pub record Ends (old new : SourceState) : Type 0 where
  pub kept : Keeps old.left new.left
  pub at_end : IsAtEnd new.left
  pub faults : new.faults ≡ old.faults

-- the bytes are as they were, if they are told, and one fault was counted
pub record FailsToRead (old new : SourceState) : Type 0 where
  pub kept : Keeps old.left new.left
  pub counted : new.faults ≡ counted old.faults

-- what each answer says
abbrev pub ReadsAs : SourceState → SourceState → List ℕ → Got → Type 0
ReadsAs old new into (GotBytes n) = Gives old new into n
ReadsAs old new into End = Ends old new
ReadsAs old new into Failed = FailsToRead old new

-- The count of faults doesn't fall, and the answer says what else came about.
pub record Reads (old new : SourceState) (into : List ℕ) (got : Got) : Type 0 where
  pub later : old.faults ≤ new.faults
  pub answer : ReadsAs old new into got

-- the count of faults after an answer, of a source that counts each failed read and nothing else
abbrev pub faults_after : ℕ → Got → ℕ
faults_after faults (GotBytes n) = faults
faults_after faults End = faults
faults_after faults Failed = counted faults
