-- the most of what there may be
use Rattle.std.specs.Prelude.{ℕ}

-- how many bytes the text of a log may have
abbrev pub most_log_bytes : ℕ
most_log_bytes = 33554432
