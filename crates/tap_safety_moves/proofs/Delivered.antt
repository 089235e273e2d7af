-- A frame under way whose receiver is a node is a delivery: it isn't strange to it.
-- Cited above: is_delivery, is_to_receiver
use Rattle.std.proofs.Common.{◌≡◌, ℕ, false, Some, ap, sym, subst, ◌∙◌}
use Rattle.tap_name.specs.Settings.{SettingsValue}
use Rattle.tap_wire.specs.declared.frame.Frame.{Frame}
use Rattle.tap_rule.specs.RuleLaws.{frame_to}
use Rattle.tap_rule.specs.Node.{NodeState, name_of}
use Rattle.tap_rule.specs.Strange.{is_strange}
use Rattle.tap_safety.specs.System.{System, AmongFrames}
use Rattle.tap_moves.specs.InvariantLaws.{IsDelivery}
use Rattle.tap_safety_moves.specs.Sound.{Sound}
use Rattle.tap_safety_moves.proofs.Consequences.{none_is_strange}

module _ (p : SettingsValue) (s : System) (number : ℕ) (frame : Frame) (node : NodeState) (sound : Sound p s)
    (among : AmongFrames number frame s.frames) (at : s.node frame.to ≡ Some node) where
  pub receiver_name : name_of node ≡ frame.to
  receiver_name = (sound.nodes.nodes frame.to node at).name

  -- the frame, taken apart
  pub is_to_receiver : frame ≡ frame_to node frame.from frame.body
  is_to_receiver = ap (λ to. record { from = frame.from; to = to; body = frame.body }) (sym receiver_name)

  pub is_delivery : IsDelivery p s number node frame.from frame.body
  is_delivery = record {
    invariant = sound.invariant.basis;
    nodes = sound.nodes;
    among = subst (λ f. AmongFrames number f s.frames) is_to_receiver among;
    at = ap s.node receiver_name ∙ at;
    known = subst (λ f. is_strange node f ≡ false) is_to_receiver (none_is_strange p s number frame node sound among at);
  }
