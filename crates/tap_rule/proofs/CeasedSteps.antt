-- What frames come to at a node that has ceased, and a Cast at a joining node.
use Rattle.std.proofs.Common.{◌≡◌, List, [], ◌∷◌, map, true, false, arith, refl, ◌∙◌}
use Rattle.std.proofs.lemmas.List.{append-nil}
use Rattle.tap_wire.specs.declared.frame.Body.TheVariants.{Link, Ack, Forget, Cast, CastAck}
use Rattle.tap_rule.specs.Node.{NodeState, name_of}
use Rattle.tap_rule.specs.Node.Status.{Ceased}
use Rattle.tap_rule.specs.Event.{Acted}
use Rattle.tap_rule.specs.Reaction.{Message, message, sends}
use Rattle.tap_rule.specs.Sending.{by_receiver, message_frame}
use Rattle.tap_rule.specs.Casts.{takes_cast_outside}
use Rattle.tap_rule.specs.Ceasing.{takes_link_ceased, takes_tell_ceased}
use Rattle.tap_rule.specs.FrameRules.{frame_at_ceased, frame_at_joining}
use Rattle.tap_rule.specs.CeasedSteps.{CeasedStep}
use Rattle.tap_rule.specs.RuleLaws.{CeasedCastLaw, CeasedLinkLaw, CeasedTellLaw, CeasedUnlinkLaw, IsCarriedOut, JoiningCastLaw, frame_to, tell_of}
use Rattle.tap_rule.proofs.CarriedOut.{frame_law}
use Rattle.tap_rule.proofs.Completed.{alike_by, completed_by}

-- a node that has ceased, and sends these
ceased_step : (node : NodeState) (messages : List Message) (acted : Acted) → node.status ≡ Ceased
    → IsCarriedOut node (sends node messages) acted → CeasedStep node messages acted
unfolding by_receiver
ceased_step node messages acted ceased carried =
    let said = carried.ended (λ runs. let no : ⊥ = rw ceased at runs in no) in
    record {
      state = said.state;
      sent = said.sent.all ∙ append-nil (map (message_frame (name_of node)) messages);
      news = carried.news;
      taken = carried.taken;
    }

pub ceased_tell_law : CeasedTellLaw
unfolding frame_at_ceased
ceased_tell_law node from tell watch at taken =
    ceased_step node (message from (Ack tell.session) ∷ []) _ at
    (frame_law node (frame_to node from (tell_of tell watch)) (takes_tell_ceased node from tell.session) taken (rw at refl))

pub ceased_link_law : CeasedLinkLaw
unfolding frame_at_ceased
ceased_link_law node from version at taken =
    ceased_step node (message from Forget ∷ []) _ at
    (frame_law node (frame_to node from (Link version true)) (takes_link_ceased node from true) taken (rw at refl))

pub ceased_unlink_law : CeasedUnlinkLaw
unfolding frame_at_ceased
ceased_unlink_law node from version at taken =
    ceased_step node [] _ at
    (frame_law node (frame_to node from (Link version false)) (takes_link_ceased node from false) taken (rw at refl))

pub ceased_cast_law : CeasedCastLaw
unfolding frame_at_ceased
ceased_cast_law node from cast level session depth word at taken =
    ceased_step node (message from (CastAck session) ∷ []) _ at
    (frame_law node (frame_to node from (Cast cast level session depth word)) (takes_cast_outside node from session) taken (rw at refl))

pub joining_cast_law : JoiningCastLaw
unfolding frame_at_joining
joining_cast_law node from cast level session depth word at taken =
    let frame = frame_to node from (Cast cast level session depth word) in
    let carried = frame_law node frame (takes_cast_outside node from session) taken (rw at refl) in
    record { alike = alike_by carried refl; completed = completed_by node _ _ carried (rw at tt) (omega arith) }
