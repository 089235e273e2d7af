-- What a test of an ordering means.
-- Cited above: is_equal, is_less
use Rattle.std.proofs.Common.{◌≡◌, true, refl}
use Rattle.std.specs.Ordering.{is_lt, is_eq, is_gt}
use Rattle.std.specs.declared.cmp.Ordering.{Ordering}
use Rattle.std.specs.declared.cmp.Ordering.TheVariants.{Less, Equal, Greater}

pub is_less : (r : Ordering) → is_lt r ≡ true → r ≡ Less
is_less Less pass = refl
is_less Equal pass = cc
is_less Greater pass = cc

pub is_equal : (r : Ordering) → is_eq r ≡ true → r ≡ Equal
is_equal Less pass = cc
is_equal Equal pass = refl
is_equal Greater pass = cc

pub is_greater : (r : Ordering) → is_gt r ≡ true → r ≡ Greater
is_greater Less pass = cc
is_greater Equal pass = cc
is_greater Greater pass = refl
