-- A frame at a node that has ceased: what it does is its rule's, from the frames that it sends.
use Rattle.std.proofs.Common.{◌≡◌, ◌⊎◌, ℕ, Bool, if◌then◌else◌, List, [], ◌∷◌, ◌++◌, Some, refl, inl, inr}
use Rattle.tap_name.specs.Settings.{SettingsValue}
use Rattle.tap_name.specs.declared.slot.Slot.{Slot}
use Rattle.tap_session.specs.Session.{SessionsValue}
use Rattle.tap_session.specs.Sessions.{answer_to, answered_at, session_of}
use Rattle.tap_wire.specs.declared.frame.Body.{Body}
use Rattle.tap_wire.specs.declared.frame.Body.TheVariants.{Tell, Heard, Ack, Link, Cast, CastAck, Forget}
use Rattle.tap_rule.specs.Node.{NodeState}
use Rattle.tap_rule.specs.Node.Status.{Ceased}
use Rattle.tap_rule.specs.Answers.{answer_sends}
use Rattle.tap_rule.specs.Event.News.{Nothing as NothingNews}
use Rattle.tap_rule.specs.FrameRules.{frame_at_ceased}
use Rattle.tap_rule.specs.Reaction.{Message, message, sends}
use Rattle.tap_node_common.specs.declared.news.News.TheVariants.{Nothing}
use Rattle.tap_node_common.specs.Sender.{message_bytes, node_sender}
use Rattle.tap_node_common.specs.States.{ended_state}
use Rattle.tap_node_common.specs.StepsAs.{FollowsAs}
use Rattle.tap_node_common.proofs.ReactionSteps.{messages_step}

-- a frame at a node that has ceased, whose sessions are left so, and these frames are sent
module _ (p : SettingsValue) (name : List ℕ) (sessions left : SessionsValue) (from : List ℕ) (body : Body)
    (before sent : List (List ℕ)) where
  abbrev ceased : NodeState
  ceased = ended_state Ceased p name sessions

  abbrev TakesCeased : Type 0
  TakesCeased = FollowsAs ceased (frame_at_ceased ceased from body) (ended_state Ceased p name left) before sent Nothing

  abbrev Sends : List Message → Type 0
  Sends messages = sent ≡ before ++ message_bytes (node_sender ceased) messages

  -- its rule sends these messages, and leaves the sessions so
  answers : (after : SessionsValue) (messages : List Message)
      → frame_at_ceased ceased from body ≡ Some (sends (ended_state Ceased p name after) messages) → left ≡ after → Sends messages
      → TakesCeased
  answers after messages rule is added =
      rw (rule, is) (messages_step ceased (ended_state Ceased p name after) messages NothingNews before sent added)

  pub tell_ceased : (joiner : List ℕ) (prefix level session depth : ℕ) (watch : List Slot)
      → body ≡ Tell joiner prefix level session depth watch → left ≡ sessions → Sends (message from (Ack session) ∷ []) → TakesCeased
  unfolding frame_at_ceased
  tell_ceased joiner prefix level session depth watch is same added =
      answers sessions (message from (Ack session) ∷ []) (rw is refl) same added

  pub cast_ceased : (cast level session depth : ℕ) (word : List ℕ) → body ≡ Cast cast level session depth word
      → left ≡ sessions → Sends (message from (CastAck session) ∷ []) → TakesCeased
  unfolding frame_at_ceased
  cast_ceased cast level session depth word is same added =
      answers sessions (message from (CastAck session) ∷ []) (rw is refl) same added

  pub link_ceased : (version : ℕ) (on : Bool) → body ≡ Link version on → left ≡ sessions
      → Sends (if on then message from Forget ∷ [] else []) → TakesCeased
  unfolding frame_at_ceased
  link_ceased version on is same added = answers sessions (if on then message from Forget ∷ [] else []) (rw is refl) same added

  pub answer_ceased : (session : ℕ) → (body ≡ Heard session) ⊎ (body ≡ Ack session) → left ≡ answered_at sessions session
      → Sends (answer_sends (answer_to (session_of sessions.sessions session))) → TakesCeased
  unfolding frame_at_ceased
  answer_ceased session (inl is) closed added =
      answers (answered_at sessions session) (answer_sends (answer_to (session_of sessions.sessions session))) (rw is refl) closed added
  answer_ceased session (inr is) closed added =
      answers (answered_at sessions session) (answer_sends (answer_to (session_of sessions.sessions session))) (rw is refl) closed added
