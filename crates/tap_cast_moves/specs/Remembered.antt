-- What is remembered of the casts of a system, beside its nodes and frames.
use Rattle.std.specs.Prelude.{ℕ, Bool, List, Option, None}
use Rattle.tap_safety.specs.Remembered.{OpenSession}

-- A cast that was started: its caster, and how many digits its prefix has; who was core when it was started, and begins with the prefix;
-- whom it has reached; and whether it is closed.
pub record CastRun : Type 0 where
  pub caster : List ℕ
  pub level : ℕ
  pub audience : List ℕ → Bool
  pub reached : List ℕ → Bool
  pub closed : Bool

-- the open session of casts of each node and number, and the cast of each number, if there is one
pub record CastMemory : Type 0 where
  pub session : List ℕ → ℕ → Option OpenSession
  pub cast : ℕ → Option CastRun

-- no cast was started
abbrev pub no_casts : CastMemory
no_casts = record { session = λ x k. None; cast = λ c. None }
