-- What contracts see of a carrier: the boxes of all nodes and the net, whether the last step sends packets once more, and how many packets
-- such steps have made.
--
-- Rule: docs/PROTOCOL.md, "Packets".
use Rattle.std.specs.Prelude.{ℕ, Bool}
use Rattle.tap_boxes.specs.Boxes.{BoxesValue}

pub record CarrierValue : Type 0 where
  pub boxes : BoxesValue
  pub resending : Bool
  pub resent : ℕ
