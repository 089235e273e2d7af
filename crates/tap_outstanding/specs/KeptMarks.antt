-- What the fields keep of the frames that are outstanding.
use Rattle.std.specs.Prelude.{◌≡◌, ℕ, ◌+◌, ◌≤◌, List, length, sum, vec_len, vec_capacity}
use Rattle.std.specs.declared.vec.Vec.{Vec}
use Rattle.tap_outstanding.specs.Levels.{IsTower, HaveRoom, sum_before}

-- there is a mark for the record of each frame that was sent, the marks of those that are outstanding are counted, and there is
-- room for so many more frames
pub record MarksAreKept {A : Type 0} (records marks : Vec ℕ A) (sums : List (Vec ℕ A)) (count room : ℕ) : Type 0 where
  pub tower : IsTower marks.items sums
  pub size : vec_len marks ≡ vec_len records
  pub counted : count ≡ sum marks.items
  pub spare : vec_len records + room ≤ vec_capacity records
  pub spare_marks : vec_len marks + room ≤ vec_capacity marks
  pub spares : HaveRoom sums room

-- no frame before this number is outstanding
pub record AreTakenBefore (marks : List ℕ) (low : ℕ) : Type 0 where
  pub within : low ≤ length marks
  pub none : sum_before marks low ≡ 0

-- all this, and no frame before a number is outstanding
pub record IsKeptFrom {A : Type 0} (records marks : Vec ℕ A) (sums : List (Vec ℕ A)) (count room low : ℕ) : Type 0 where
  pub kept : MarksAreKept records marks sums count room
  pub taken : AreTakenBefore marks.items low
