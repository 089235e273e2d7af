-- The calls of a source or a sink in memory.
use Rattle.std.specs.Prelude.{◌==◌, ℕ, Bool, if◌then◌else◌, List}
use Rattle.std.specs.List.{list_any}
use Rattle.tap_io.specs.Faults.{counted}

-- the numbers, counted from 1, of the calls that are to fail, how many calls there were, and how many faults
pub record CallsValue : Type 0 where
  pub fails : List ℕ
  pub made : ℕ
  pub faults : ℕ

-- before the first call
abbrev pub no_calls : List ℕ → CallsValue
no_calls fails = record { fails = fails; made = 0; faults = 0 }

-- whether the number of the next call is among those
abbrev pub is_next_to_fail : CallsValue → Bool
is_next_to_fail c = list_any (λ n. n == counted c.made) c.fails

-- after one more call, which failed or didn't
abbrev pub after_call : CallsValue → Bool → CallsValue
after_call c failed = record c { made = counted c.made; faults = (if failed then counted c.faults else c.faults) }
