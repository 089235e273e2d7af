-- What a settled link is seen as.
use Rattle.std.specs.Prelude.{Bool}

-- whom it names, and whether that node has said that it will leave
pub record SettledValue (K : Type 0) : Type 0 where
  pub target : K
  pub leaving : Bool
