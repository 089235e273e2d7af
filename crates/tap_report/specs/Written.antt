-- What writing a whole text does to a sink, whose states before and after it are `old` and `new`.
use Rattle.std.specs.Prelude.{◌≡◌, ℕ, List}
use Rattle.std.specs.Io.KnownBytes.{Appends}
use Rattle.tap_io.specs.Faults.{HasRisen}
use Rattle.tap_io.specs.Sink.{AppendsPrefixOf, IsAfterWrites, SinkState}
use Rattle.tap_report.specs.declared.written.Written.{Written}
use Rattle.tap_report.specs.declared.written.Written.TheVariants.{All, Failed}

-- all of the text was appended, and no fault was counted
pub record AppendsAll (old new : SinkState) (text : List ℕ) : Type 0 where
  pub appends : Appends old.held new.held text
  pub faults : new.faults ≡ old.faults

-- the first failure: some first bytes of the text were appended, and a fault was counted
pub record FirstFails (old new : SinkState) (text : List ℕ) : Type 0 where
  pub prefix : AppendsPrefixOf old new text
  pub risen : HasRisen old.faults new.faults

-- by whether all before it was written, and whether all is written now
abbrev pub WritesTextAs : SinkState → SinkState → List ℕ → Written → Written → Type 0
WritesTextAs old new text All All = AppendsAll old new text
WritesTextAs old new text All Failed = FirstFails old new text
WritesTextAs old new text Failed All = ⊥
WritesTextAs old new text Failed Failed = new ≡ old

-- The sink goes on: the text is appended whole, or the sink fails within it. Nothing is written after a failure.
pub record WritesText (old new : SinkState) (text : List ℕ) (so_far written : Written) : Type 0 where
  pub follows : IsAfterWrites old new
  pub answer : WritesTextAs old new text so_far written
