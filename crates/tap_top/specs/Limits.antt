-- the most of what there may be
use Rattle.std.specs.Prelude.{ℕ}

-- how many bytes the text of a scenario may have
abbrev pub most_bytes : ℕ
most_bytes = 1048576
