-- A sink that takes the bytes which are expected.
use Rattle.std.specs.Prelude.{ℕ, List, [], ◌∷◌, Some, take}
use Rattle.tap_io.specs.Sink.{SinkState}

-- the bytes that are expected, how many of them were taken, and how many writes have failed
pub record ExpectedValue : Type 0 where
  pub bytes : List ℕ
  pub taken : ℕ
  pub faults : ℕ

-- before the first write
abbrev pub expects : List ℕ → ExpectedValue
expects bytes = record { bytes = bytes; taken = 0; faults = 0 }

-- It holds what it has taken. Behind it stand the bytes that are expected, as a sink to which nothing is written: so whoever lent them knows
-- them again after it was written to.
abbrev pub expected_state : ExpectedValue → SinkState
expected_state e =
    record {
      held = Some (take e.taken e.bytes);
      faults = e.faults;
      behind = record { name = 0; held = Some e.bytes } ∷ [];
    }
