-- A node stays sound at each step that it takes.
use Rattle.std.proofs.Common.{◌≡◌, Option, Some, None, false, refl}
use Rattle.std.specs.Prelude.{IfSome}
use Rattle.tap_wire.specs.declared.frame.Frame.{Frame}
use Rattle.tap_wire.specs.Spelling.{IsFrame}
use Rattle.tap_rule.specs.Node.{NodeState, settings_of}
use Rattle.tap_rule.specs.Event.{Start}
use Rattle.tap_rule.specs.Event.Event.{Starts, Takes}
use Rattle.tap_rule.specs.Event.Start.{Publish}
use Rattle.tap_rule.specs.Reaction.{Reaction}
use Rattle.tap_rule.specs.Strange.{is_strange}
use Rattle.tap_rule.specs.FrameRules.{rule_of_frame}
use Rattle.tap_rule.specs.StartRules.{rule_of_start}
use Rattle.tap_rule.specs.Act.{act, follows}
use Rattle.tap_rule.specs.KeptNode.{IsStart}
use Rattle.tap_rule.proofs.KeptNode.{kept_law, start_kept_law}
use Rattle.tap_rule.proofs.Laid.{laid_law}
use Rattle.tap_node_common.specs.SoundNode.{IsSoundNode}
use Rattle.tap_node.proofs.KeptSound.{KeepsSound, completed_sound, keeps_all, sound_from}
use Rattle.tap_rule.proofs.Cases.Cause.{Takes as TakesFrame, Starts as StartsOne}
use Rattle.tap_node.proofs.KeptRules.{StartsNamed, rule_sound}

module _ (node : NodeState) (sound : IsSoundNode node) where
  followed_sound : (rule : Option Reaction) → IfSome rule (λ r. KeepsSound node r.state) → KeepsSound node (follows node rule).state
  followed_sound None kept = keeps_all node sound _ refl refl refl refl refl
  followed_sound (Some r) kept = completed_sound node r r.state.status kept

  pub sound_frame : (frame : Frame) → IsFrame (settings_of node) frame → is_strange node frame ≡ false
      → IsSoundNode (act node (Takes frame)).state
  unfolding act
  sound_frame frame is taken =
      let keeps : KeepsSound node (act node (Takes frame)).state =
      rw taken (followed_sound (rule_of_frame node.status node frame.from frame.body)
      (rule_sound node sound (TakesFrame frame.from frame.body) (is.sender, is.body, taken))) in
      sound_from node (act node (Takes frame)).state (kept_law node frame sound.valid is) keeps (laid_law node (Takes frame) sound.laid)

  pub is_start : (begun : Start) → StartsNamed node sound begun → IsStart (settings_of node) begun
  is_start (Publish object) named = named
  is_start _ named = tt

  pub sound_start : (begun : Start) → StartsNamed node sound begun → IsSoundNode (act node (Starts begun)).state
  unfolding act
  sound_start begun named =
      let keeps : KeepsSound node (act node (Starts begun)).state =
      followed_sound (rule_of_start node.status node begun) (rule_sound node sound (StartsOne begun) named) in
      sound_from node (act node (Starts begun)).state (start_kept_law node begun sound.valid (is_start begun named)) keeps (laid_law node (Starts begun) sound.laid)
