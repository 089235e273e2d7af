-- Sessions and Tells aren't deep, since a node has few sessions of one joiner open.
use Rattle.std.proofs.Common.{arith, refl}
use Rattle.tap_wire.specs.declared.frame.Frame.{Frame}
use Rattle.tap_safety.specs.Frames.{tell_body}
use Rattle.tap_moves.proofs.Depths.{sessions_shallow}
use Rattle.tap_safety_moves.proofs.SoundMoves.{run_is_sound}
use Rattle.tap_bounds.specs.Depths.{RunIsNotDeep, SoundIsNotDeep}

pub sound_is_not_deep : SoundIsNotDeep
sound_is_not_deep p s sound = record {
  sessions = λ x k session is. sessions_shallow p s x k session sound.invariant.basis sound.nodes sound.few is;
  tells = λ from to fields watch way.
      let frame : Frame = record { from = from; to = to; body = tell_body fields watch } in
      let awaited = sound.invariant.basis.exact.frames way.number frame from fields.session way.among refl in
      let deeper = sound.invariant.basis.deeper.depth from to fields watch awaited.session way awaited.is in
      let most = sessions_shallow p s from fields.session awaited.session sound.invariant.basis sound.nodes sound.few awaited.is in
      omega (arith, deeper, most);
}

pub run_is_not_deep : RunIsNotDeep
run_is_not_deep p members moves are may = sound_is_not_deep p _ (run_is_sound p members moves are may)
