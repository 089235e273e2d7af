-- What Heard and Ack change.
-- Cited above: ack_law, heard_law, other_number, same_number
use Rattle.std.proofs.Common.{◌≡◌, ◌==◌, ℕ, ◌<◌, [], ◌∷◌, Option, None, Some, true, false, arith, refl, sym, ap, subst, ◌∙◌, inl, inr, eqb-true, if◌then◌else◌}
use Rattle.std.specs.Option.{option_and_then}
use Rattle.std.proofs.lemmas.Bool.{cases_Bool}
use Rattle.std.proofs.lemmas.Bool.Decides.{eqb_tells}
use Rattle.tap_session.specs.Session.{Session, SessionsValue}
use Rattle.tap_session.specs.Sessions.{AreSessions, answer_to, session_of, with_answer}
use Rattle.tap_session.proofs.Transitions.{answered-unknown, session_of-answered}
use Rattle.tap_wire.specs.declared.frame.Body.TheVariants.{Heard, Ack, Done}
use Rattle.tap_rule.specs.Node.{NodeState, join_session_at}
use Rattle.tap_rule.specs.Event.{Acted}
use Rattle.tap_rule.specs.Reaction.{message}
use Rattle.tap_rule.specs.Answers.{answer_for, answer_sends, takes_heard_or_ack}
use Rattle.tap_rule.specs.FrameRules.{frame_at_ceased, frame_at_core, frame_at_joining}
use Rattle.tap_rule.specs.Sent.{IsAmong}
use Rattle.tap_rule.specs.Completed.{SendsAt}
use Rattle.tap_rule.specs.LinkSteps.{AnswerStep, IsNotLast}
use Rattle.tap_rule.specs.RuleLaws.{AnswerLaw, IsCarriedOut, frame_to}
use Rattle.tap_rule.proofs.CarriedOut.{frame_law}
use Rattle.tap_rule.proofs.Completed.{rest_by, sends_at}
use Rattle.tap_rule.proofs.OneName.{parent_told}

-- a number is itself
pub same_number : (n : ℕ) → (n == n) ≡ true
same_number n = elim (eqb_tells n n) [ inl both ↦ both.0 | inr both ↦ absurd (both.1 refl) ]

-- a number that isn't one isn't
pub other_number : (n : ℕ) → 1 < n → (n == 1) ≡ false
other_number n above = elim (eqb_tells n 1) [ inl both ↦ absurd (omega (arith, both.1)) | inr both ↦ both.0 ]

-- an answer that isn't a session's last is passed on to nobody
pub not_last : (found : Option Session) → IsNotLast found → answer_sends (answer_to found) ≡ []
not_last None waits = refl
not_last (Some s) waits = rw (other_number s.waiting waits) refl

module _ (node : NodeState) (session : ℕ) (acted : Acted) (are : AreSessions node.sessions) where
  whole : IsCarriedOut node (takes_heard_or_ack node session) acted
      → SendsAt node.status node (answer_sends (answer_to (join_session_at node session))) acted
  whole carried = sends_at node _ _ acted carried refl refl refl node.status refl

  answered_step : IsCarriedOut node (takes_heard_or_ack node session) acted → AnswerStep node session acted
  answered_step carried =
      let look : (number : ℕ) → join_session_at acted.state number
      ≡ (if session == number then option_and_then with_answer (join_session_at node session) else join_session_at node number) =
      λ number. ap (λ (s : SessionsValue). session_of s.sessions number) carried.sessions
      ∙ session_of-answered node.sessions are session number in
      let own : join_session_at acted.state session ≡ option_and_then with_answer (join_session_at node session) =
      look session ∙ rw (same_number session) refl in
      record {
        joins = record { status = carried.status; covers = carried.covers; greeted = carried.greeted; abandoned = carried.abandoned };
        ties = carried.ties;
        opened = ap (λ (s : SessionsValue). s.opened) carried.sessions;
        others = λ number. elim (cases_Bool (session == number)) [
          | inl same ↦ inl (sym (eqb-true session number same))
          | inr apart ↦ inr (look number ∙ rw apart refl)
        ];
        unknown = λ none. carried.sessions ∙ answered-unknown node.sessions are session none;
        goes_on = λ s is more. own ∙ rw (is, other_number s.waiting more) refl;
        closes = λ s is last. (
          own ∙ rw (is, last) refl,
          let among : IsAmong (answer_for s.parent) (answer_sends (answer_to (join_session_at node session))) = rw (is, last) (inl refl) in
              parent_told node s.parent acted.sent (carried.sent.named (answer_for s.parent) among),
        );
        sent = carried.sent;
        rest = rest_by carried refl refl refl refl;
        silent = λ waits. subst (λ m. SendsAt node.status node m acted) (not_last (join_session_at node session) waits) (whole carried);
        acks = λ s name number is last parent.
            let due : answer_sends (answer_to (join_session_at node session)) ≡ message name (Ack number) ∷ [] = rw (is, last, parent) refl
            in subst (λ m. SendsAt node.status node m acted) due (whole carried);
        is_done = λ s joiner is last parent.
            let due : answer_sends (answer_to (join_session_at node session)) ≡ message joiner Done ∷ [] = rw (is, last, parent) refl in
            subst (λ m. SendsAt node.status node m acted) due (whole carried);
      }

pub heard_law : AnswerLaw Heard
unfolding frame_at_joining frame_at_core frame_at_ceased
heard_law node from session are at taken =
    let frame = frame_to node from (Heard session) in
    answered_step node session _ are
    (frame_law node frame (takes_heard_or_ack node session) taken (elim at [
      | inl joining ↦ rw joining refl
      | inr other ↦ elim other [ inl core ↦ rw core refl | inr ceased ↦ rw ceased refl ]
    ]))

pub ack_law : AnswerLaw Ack
unfolding frame_at_joining frame_at_core frame_at_ceased
ack_law node from session are at taken =
    let frame = frame_to node from (Ack session) in
    answered_step node session _ are
    (frame_law node frame (takes_heard_or_ack node session) taken (elim at [
      | inl joining ↦ rw joining refl
      | inr other ↦ elim other [ inl core ↦ rw core refl | inr ceased ↦ rw ceased refl ]
    ]))
