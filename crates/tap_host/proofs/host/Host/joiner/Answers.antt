use Rattle.std.proofs.Common.{false}
use Rattle.tap_host.proofs.host.Host.joiner.Goals as goal

pub returns : goal.returns
returns c = λ i. record {
  actor = c.in_ok-joiner.ensures i;
  mail = c.new.ensures i;
  taken = λ from seq. c.new-2.ensures from seq i;
  begun = false;
}
