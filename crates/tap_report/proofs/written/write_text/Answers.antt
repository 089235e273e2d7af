use Rattle.std.proofs.Common.{refl}
use Rattle.tap_io.proofs.Following.{Follows-refl}
use Rattle.tap_report.proofs.written.write_text.Goals as goal

pub returns-in-Failed : goal.returns-in-Failed
returns-in-Failed g c = rw c.in-Failed.is (record { follows = Follows-refl _; answer = refl })
