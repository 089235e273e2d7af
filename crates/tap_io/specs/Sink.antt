-- What contracts see of a sink, and what a write does to it.
use Rattle.std.specs.Prelude.{◌≡◌, ◌≤◌, ℕ, List, [], ◌∷◌, Option, length, take}
use Rattle.std.specs.Io.KnownBytes.{Appends}
use Rattle.tap_io.specs.Faults.{Fails, counted}
use Rattle.tap_io.specs.declared.sink.Took.{Took}
use Rattle.tap_io.specs.declared.sink.Took.TheVariants.{Took as TookBytes, Failed}

-- a sink to which another one writes by a borrow: the name of that borrow, and the bytes that it holds
pub record SinkBehind : Type 0 where
  pub name : ℕ
  pub held : Option (List ℕ)

-- The bytes that a sink holds, which are `None` if it doesn't tell them; how many faults there were; and the sinks behind
-- it, the nearest one first. By these a caller that lent a sink knows it after it was written to.
pub record SinkState : Type 0 where
  pub held : Option (List ℕ)
  pub faults : ℕ
  pub behind : List SinkBehind

-- known bytes stay, and some may be appended
abbrev pub Grows : Option (List ℕ) → Option (List ℕ) → Type 0
Grows old new = (more : List ℕ) × Appends old new more

-- the sinks are the same, and what each holds grows
abbrev pub EachGrows : List SinkBehind → List SinkBehind → Type 0
EachGrows [] [] = Unit {0}
EachGrows [] (y ∷ ys) = ⊥
EachGrows (x ∷ xs) [] = ⊥
EachGrows (x ∷ xs) (y ∷ ys) = (y.name ≡ x.name) × Grows x.held y.held × EachGrows xs ys

-- The state of a sink after some writes, whatever came of them: the count of faults doesn't fall, and the sinks behind it
-- are the same, and what they hold grows.
pub record IsAfterWrites (old new : SinkState) : Type 0 where
  pub later : old.faults ≤ new.faults
  pub behind : EachGrows old.behind new.behind

-- the first n bytes were appended, and no fault was counted
pub record Takes (old new : SinkState) (bytes : List ℕ) (n : ℕ) : Type 0 where
  pub at_least_one : 1 ≤ n
  pub within : n ≤ length bytes
  pub appends : Appends old.held new.held (take n bytes)
  pub faults : new.faults ≡ old.faults

-- what each answer says
abbrev pub WritesAs : SinkState → SinkState → List ℕ → Took → Type 0
WritesAs old new bytes (TookBytes n) = Takes old new bytes n
WritesAs old new bytes Failed = Fails old.held new.held old.faults new.faults

-- The sink goes on, and the answer says what else came about.
pub record Writes (old new : SinkState) (bytes : List ℕ) (took : Took) : Type 0 where
  pub follows : IsAfterWrites old new
  pub answer : WritesAs old new bytes took

-- the count of faults after an answer, of a sink that counts each failed write and nothing else
abbrev pub faults_after : ℕ → Took → ℕ
faults_after faults (TookBytes n) = faults
faults_after faults Failed = counted faults

-- Some first bytes of a text were appended, perhaps none and perhaps all: what a sink holds after several writes
-- of which the last may have failed.
pub record AppendsPrefixOf (old new : SinkState) (text : List ℕ) : Type 0 where
  pub count : ℕ
  pub within : count ≤ length text
  pub appends : Appends old.held new.held (take count text)
