use Rattle.tap_packets.proofs.GroupsCome.{groups_follow_hold}
use Rattle.tap_packets.proofs.law.groups_law.Goals as goal

pub returns : goal.returns
returns c = groups_follow_hold
