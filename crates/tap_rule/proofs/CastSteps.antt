-- What Cast and CastAck change of the casts of a core node.
-- Cited above: cast_ack_law
use Rattle.std.proofs.Common.{◌≡◌, ◌==◌, ℕ, ◌+◌, Bool, List, [], ◌∷◌, Option, None, Some, false, arith, refl, sym, ap, ◌∙◌, inl, inr, eqb-true, if◌then◌else◌}
use Rattle.std.specs.Option.{option_and_then}
use Rattle.std.proofs.lemmas.Bool.{cases_Bool}
use Rattle.tap_session.specs.declared.parent.Parent.{Parent}
use Rattle.tap_session.specs.declared.parent.Parent.TheVariants.{Root, Node}
use Rattle.tap_session.specs.declared.sessions.Answered.{Answered}
use Rattle.tap_session.specs.declared.sessions.Answered.TheVariants.{Open, Closed, Unknown}
use Rattle.tap_session.specs.Session.{Session, SessionsValue}
use Rattle.tap_session.specs.Sessions.{AreSessions, answer_to, answered_at, session_of, with_answer}
use Rattle.tap_session.proofs.Transitions.{answered-unknown, session_of-answered}
use Rattle.tap_cast.specs.declared.casts.CastTurn.{CastTurn}
use Rattle.tap_cast.specs.declared.casts.CastTurn.TheVariants.{Already, Now}
use Rattle.tap_cast.specs.declared.target.CastTarget.{CastTarget}
use Rattle.tap_cast.specs.Casts.{turn_of}
use Rattle.tap_wire.specs.declared.frame.Body.TheVariants.{Cast, CastAck}
use Rattle.tap_rule.specs.Node.{IsRunning, NodeState, name_of}
use Rattle.tap_rule.specs.Event.{Acted, News}
use Rattle.tap_rule.specs.Event.News.{Nothing}
use Rattle.tap_rule.specs.Event.Start.{Cast as StartCast}
use Rattle.tap_rule.specs.Reaction.{Message, message, sends, with_news}
use Rattle.tap_rule.specs.Casts.{Copy, cast_answer, cast_for, cast_news, cast_of, casts, casts_as, is_root, takes_cast_ack, takes_cast_ack_as}
use Rattle.tap_rule.specs.FrameRules.{frame_at_core}
use Rattle.tap_rule.specs.Sending.{message_frame}
use Rattle.tap_rule.specs.Sent.{IsAmong}
use Rattle.tap_rule.specs.Completed.{IsCompleted}
use Rattle.tap_rule.specs.LinkSteps.{IsNotLast}
use Rattle.tap_rule.specs.CastSteps.{CastAckStep, CastStep, IsCastAnswered, IsOnlyAnswered, cast_session_at, copies_for}
use Rattle.tap_rule.specs.RuleLaws.{CastAckLaw, CastLaw, CastStartLaw, IsCarriedOut, frame_to}
use Rattle.tap_rule.proofs.Among.{among-map}
use Rattle.tap_rule.proofs.AnswerSteps.{other_number, same_number}
use Rattle.tap_rule.proofs.CarriedOut.{frame_law, start_law}
use Rattle.tap_rule.proofs.Completed.{completed_by}

-- an answer isn't both a session's last and not
not_closed : (found : Option Session) (parent : Parent) → IsNotLast found → answer_to found ≡ Closed parent → ⊥
not_closed None parent waits is = cc
not_closed (Some s) parent waits is = let both : Open ≡ Closed parent = rw (other_number s.waiting waits) at is in cc

module _ (node : NodeState) (acted : Acted) (runs : IsRunning node.status) where
  -- whatever its news, this is all that is sent
  noted : (messages : List Message) (news : News) → IsCompleted node node.pointers [] messages news acted
      → IsCompleted node node.pointers [] messages acted.news acted
  noted messages news whole =
      record { pointers = whole.pointers; stamp = whole.stamp; sent = whole.sent; news = refl; taken = whole.taken }

  only_answered : (parent : Parent) → IsCompleted node node.pointers [] (cast_answer parent) acted.news acted
      → IsOnlyAnswered node parent acted
  only_answered (Root name) whole = whole
  only_answered (Node name session) whole = whole

  -- a parent that is told what is said to it, with news
  told_by : (after : NodeState) (parent : Parent) (cast : ℕ) (reached : Bool)
      → IsCarriedOut node (with_news (cast_news cast reached (is_root parent)) (sends after (cast_answer parent))) acted
      → IsCastAnswered node parent cast reached acted
  told_by after (Root name) cast reached carried = carried.news
  told_by after (Node name session) cast reached carried =
      (carried.news, carried.sent.named (message name (CastAck session)) (inl refl))

  module _ (copy : Copy) where
    cast_as : (turn : CastTurn) → turn_of node.casts node.ties.table copy.cast copy.level ≡ turn
        → IsCarriedOut node (casts_as node copy turn) acted → CastStep node copy acted
    cast_as Already is carried = rw is (
      carried.casts,
      carried.cast_sessions,
      λ name session parent.
          let among : IsAmong (message name (CastAck session)) (cast_answer copy.parent) = rw parent (inl refl) in
          carried.sent.named (message name (CastAck session)) among,
      carried.cast_numbers,
      carried.news,
      only_answered copy.parent (noted _ _ (completed_by node _ acted carried runs (omega arith))),
    )
    cast_as (Now first []) is carried =
        rw is (
          carried.casts,
          (
            carried.cast_sessions,
            told_by _ copy.parent copy.cast first carried,
            carried.cast_numbers,
            only_answered copy.parent (noted _ _ (completed_by node _ acted carried runs (omega arith))),
          ),
        )
    cast_as (Now first (one ∷ others)) is carried =
        let number = node.cast_sessions.opened + 1 in
        let told : (target : CastTarget) → IsAmong target (one ∷ others)
        → IsAmong (message_frame (name_of node) (cast_for copy number target)) acted.sent =
        λ target among. carried.sent.named (cast_for copy number target)
        (among-map (cast_for copy number) target (one ∷ others) among) in
        rw is (
          carried.casts,
          (
            carried.cast_sessions,
            carried.cast_numbers,
            carried.news,
            told,
            noted (copies_for node copy (one ∷ others)) _ (completed_by node _ acted carried runs (omega arith)),
          ),
        )

  module _ (session : ℕ) (are : AreSessions node.cast_sessions) where
    abbrev answered : NodeState
    answered = record node { cast_sessions = answered_at node.cast_sessions session }

    -- what is kept of the sessions whatever the answer was
    sessions_after : acted.state.casts ≡ node.casts → acted.state.cast_sessions ≡ answered_at node.cast_sessions session
        → acted.state.cast_numbers ≡ node.cast_numbers
        → (IsNotLast (cast_session_at node session) → IsCompleted node node.pointers [] [] Nothing acted)
        → ((s : Session) → cast_session_at node session ≡ Some s → s.waiting ≡ 1
        → IsCastAnswered node s.parent (cast_of node session) false acted × IsOnlyAnswered node s.parent acted)
        → CastAckStep node session acted
    sessions_after casts sessions numbers silent passed_on =
        let look : (number : ℕ) → cast_session_at acted.state number
        ≡ (if session == number then option_and_then with_answer (cast_session_at node session) else cast_session_at node number) =
        λ number. ap (λ (s : SessionsValue). session_of s.sessions number) sessions
        ∙ session_of-answered node.cast_sessions are session number in
        let own : cast_session_at acted.state session ≡ option_and_then with_answer (cast_session_at node session) =
        look session ∙ rw (same_number session) refl in
        record {
          casts = casts;
          others = λ number. elim (cases_Bool (session == number)) [
            | inl same ↦ inl (sym (eqb-true session number same))
            | inr apart ↦ inr (look number ∙ rw apart refl)
          ];
          unknown = λ none. sessions ∙ answered-unknown node.cast_sessions are session none;
          goes_on = λ s is more. own ∙ rw (is, other_number s.waiting more) refl;
          closes = λ s is last. (own ∙ rw (is, last) refl, (passed_on s is last).0);
          opened = ap (λ (s : SessionsValue). s.opened) sessions;
          numbers = numbers;
          silent = silent;
          answers = λ s is last. (passed_on s is last).1;
        }

    ack_as : (answer : Answered) → answer_to (cast_session_at node session) ≡ answer
        → IsCarriedOut node (takes_cast_ack_as answered (cast_of node session) answer) acted → CastAckStep node session acted
    ack_as Open is carried =
        sessions_after carried.casts carried.cast_sessions carried.cast_numbers
        (λ waits. completed_by node _ acted carried runs (omega arith))
        (λ s at last. let closed : answer_to (cast_session_at node session) ≡ Closed s.parent = rw (at, last) refl in
        let both : Closed s.parent ≡ Open = sym closed ∙ is in absurd cc)
    ack_as (Closed parent) is carried =
        sessions_after carried.casts carried.cast_sessions carried.cast_numbers
        (λ waits. absurd (not_closed (cast_session_at node session) parent waits is))
        (λ s at last. let closed : answer_to (cast_session_at node session) ≡ Closed s.parent = rw (at, last) refl in
        let both : Closed s.parent ≡ Closed parent = sym closed ∙ is in let same : s.parent ≡ parent = cc in
        rw same (
          told_by _ parent (cast_of node session) false carried,
          only_answered parent (noted _ _ (completed_by node _ acted carried runs (omega arith))),
        ))
    ack_as Unknown is carried =
        sessions_after carried.casts carried.cast_sessions carried.cast_numbers
        (λ waits. completed_by node _ acted carried runs (omega arith))
        (λ s at last. let closed : answer_to (cast_session_at node session) ≡ Closed s.parent = rw (at, last) refl in
        let both : Closed s.parent ≡ Unknown = sym closed ∙ is in absurd cc)

pub cast_law : CastLaw
unfolding frame_at_core
cast_law node from cast level session depth word at taken =
    let copy : Copy = record { cast = cast; level = level; parent = Node from session; depth = depth; word = word } in
    cast_as node _ (rw at tt) copy (turn_of node.casts node.ties.table cast level) refl
    (frame_law node (frame_to node from (Cast cast level session depth word)) (casts node copy) taken (rw at refl))

pub cast_start_law : CastStartLaw
cast_start_law node cast level word at =
    let copy : Copy = record { cast = cast; level = level; parent = Root (name_of node); depth = 0; word = word } in
    cast_as node _ (rw at tt) copy (turn_of node.casts node.ties.table cast level) refl
    (start_law node (StartCast cast level word) (casts node copy) (rw at refl))

pub cast_ack_law : CastAckLaw
unfolding frame_at_core
cast_ack_law node from session are at taken =
    ack_as node _ (rw at tt) session are (answer_to (cast_session_at node session)) refl
    (frame_law node (frame_to node from (CastAck session)) (takes_cast_ack node session) taken (rw at refl))
