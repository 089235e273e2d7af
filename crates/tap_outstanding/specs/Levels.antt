-- Marks of numbers, 1 or 0, and sums of them, level by level: each count of a level is the sum of eight below it. A sum is there
-- once all eight are.
use Rattle.std.specs.Prelude.{◌≡◌, ℕ, ◌+◌, ◌*◌, ◌/◌, ◌<◌, ◌≤◌, zero, suc, List, [], length, take, map, sum, slice_index_or, All}
use Rattle.std.specs.declared.vec.Vec.{Vec}
use Rattle.std.specs.Vec.{vec_len, vec_capacity}

-- the sum of the counts before this place
abbrev pub sum_before : List ℕ → ℕ → ℕ
sum_before counts at = sum (take at counts)

-- each count of `upper` is the sum of the next eight of `lower`, of which fewer than eight are left over
pub record IsSummary (lower upper : List ℕ) : Type 0 where
  pub size : length upper ≡ length lower / 8
  pub sums : (at : ℕ) → at ≤ length upper → sum_before upper at ≡ sum_before lower (8 * at)

-- the lists of the vectors, lowest first
abbrev pub vector_lists : {A : Type 0} → List (Vec ℕ A) → List (List ℕ)
vector_lists vectors = map (λ v. v.items) vectors

-- the counts of one level, from 0, which is that of the marks
abbrev pub level : {A : Type 0} → List ℕ → List (Vec ℕ A) → ℕ → List ℕ
level marks sums zero = marks
level marks sums (suc j) = slice_index_or (vector_lists sums) j []

-- marks for at most 4,000,000,000 numbers, and ten levels of sums, each the summary of that below
pub record IsTower {A : Type 0} (marks : List ℕ) (sums : List (Vec ℕ A)) : Type 0 where
  pub height : length sums ≡ 10
  pub few : length marks ≤ 4000000000
  pub ones : All (λ m. m ≤ 1) marks
  pub summary : (j : ℕ) → j < 10 → IsSummary (level marks sums j) (level marks sums (suc j))

-- each vector takes so many more counts without memory
abbrev pub HaveRoom : {A : Type 0} → List (Vec ℕ A) → ℕ → Type 0
HaveRoom vectors room = All (λ v. vec_len v + room ≤ vec_capacity v) vectors

-- the place of a number's count in a level
abbrev pub count_at : ℕ → ℕ → ℕ
count_at number zero = number
count_at number (suc j) = count_at number j / 8
