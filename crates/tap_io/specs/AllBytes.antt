-- What was read of a source up to its end, or until a limit, of which the state was `old` and is `new`.
use Rattle.std.specs.Prelude.{◌≡◌, ◌≤◌, ℕ, ◌+◌, List, length}
use Rattle.std.specs.Io.KnownBytes.{Consumes, IsAtEnd}
use Rattle.tap_io.specs.Faults.{counted}
use Rattle.tap_io.specs.Source.{SourceState}

-- Of the source no more bytes were read than so many.
pub record HasReadAtMost (most : ℕ) (old new : SourceState) : Type 0 where
  pub bytes : List ℕ
  pub within : length bytes ≤ most
  pub consumes : Consumes old.left new.left bytes

-- No more bytes of the source were read than so many, and then one read failed.
pub record HasReadUntilFault (most : ℕ) (old new : SourceState) : Type 0 where
  pub read : HasReadAtMost most old new
  pub counted : new.faults ≡ counted old.faults

-- No more bytes of the source were read than so many. No read failed.
pub record HasReadWithoutFault (most : ℕ) (old new : SourceState) : Type 0 where
  pub read : HasReadAtMost most old new
  pub faults : new.faults ≡ old.faults

-- These are all bytes of the source, and no more than so many. No read failed.
pub record HasReadAll (most : ℕ) (old new : SourceState) (bytes : List ℕ) : Type 0 where
  pub within : length bytes ≤ most
  pub consumes : Consumes old.left new.left bytes
  pub at_end : IsAtEnd new.left
  pub faults : new.faults ≡ old.faults

-- Of the source one byte more was read than so many. No read failed.
pub record HasReadTooMany (most : ℕ) (old new : SourceState) : Type 0 where
  pub bytes : List ℕ
  pub count : length bytes ≡ most + 1
  pub consumes : Consumes old.left new.left bytes
  pub faults : new.faults ≡ old.faults
