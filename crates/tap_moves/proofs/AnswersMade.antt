-- What is remembered of sessions once a node has taken an answer, or a frame of no session.
use Rattle.std.proofs.Common.{◌≡◌, ◌⊎◌, ℕ, ◌≤◌, length, arith, inl, inr, ap, ◌-◌, ◌<◌, List, [], ◌∷◌, Option, None, Some, if◌then◌else◌, refl, sym, subst, ◌∙◌}
use Rattle.std.specs.Prelude.{is_none}
use Rattle.std.proofs.lemmas.Bool.{cases_lt}
use Rattle.tap_session.specs.declared.parent.Parent.TheVariants.{Node, Root}
use Rattle.tap_session.specs.Session.{Session}
use Rattle.tap_session.specs.Sessions.{answer_to}
use Rattle.tap_wire.specs.declared.frame.Body.{Body}
use Rattle.tap_wire.specs.declared.frame.Body.TheVariants.{Ack, Heard}
use Rattle.tap_wire.specs.declared.frame.Frame.{Frame}
use Rattle.tap_rule.specs.Answers.{answer_for, answer_sends}
use Rattle.tap_rule.specs.Event.{Acted}
use Rattle.tap_rule.specs.RuleLaws.{AnswerLaw, frame_to}
use Rattle.tap_rule.specs.Node.{NodeState, Status, join_session_at, name_of}
use Rattle.tap_rule.specs.Node.Status.{Ceased, Core, Gone, Joining, Leaving}
use Rattle.tap_rule.specs.Reaction.{Message}
use Rattle.tap_rule.specs.Sent.{AreSent, IsAmong}
use Rattle.tap_rule.specs.LinkSteps.{AnswerStep}
use Rattle.tap_rule.proofs.AnswerSteps.{ack_law, heard_law, other_number}
use Rattle.tap_safety.specs.Bookkeeping.{holds_sessions}
use Rattle.tap_safety.specs.Counted.{AreCountedSo, kept_parent, parent_at}
use Rattle.tap_safety.specs.Remembered.{OpenSession, Token}
use Rattle.tap_safety.specs.Remembered.Token.{Way}
use Rattle.tap_safety.specs.Sessions.{AmongTokens, AreExact, Belongs, IsOpen, session_named}
use Rattle.tap_safety.specs.SessionSteps.{ClosesChild, ClosesRoot, HandsOn}
use Rattle.tap_safety.specs.System.{System, AmongFrames}
use Rattle.tap_safety.proofs.StepLaws.{closing_law, handing_on_law, last_answer_law}
use Rattle.tap_safety.specs.Turned.{closed_by}
use Rattle.tap_moves.specs.ByRule.{TakesByRule, taken_at}
use Rattle.tap_moves.specs.SessionsLaws.{AnswerClosesChild, AnswerClosesRoot, AnswerHandsOn, AnswerKeepsExact, BeforeTaking, IsLastAnswer, RemembersSessions, sent_at}
use Rattle.tap_moves.proofs.InSession.{answer_in, only_one, sent_in}
use Rattle.tap_moves.proofs.SessionsMade.{closes_child, closes_root, hands_on_as, node_parts}

-- what is sent, if the messages are these
sent_as : (own : List ℕ) (messages others : List Message) (sent : List Frame) → messages ≡ others → AreSent own [] messages sent
    → AreSent own [] others sent
sent_as own messages others sent same are = subst (λ ms. AreSent own [] ms sent) same are

-- what is sent in a session once the last answer has come is the parent's
sent_once : (node : NodeState) (k : ℕ) (a : Session) (acted : Acted) → AnswerStep node k acted → join_session_at node k ≡ Some a
    → a.waiting ≡ 1 → (f : Frame) (y : List ℕ) (n : ℕ) → IsAmong f acted.sent → Belongs f y n → a.parent ≡ Node y n
sent_once node k a acted step is last f y n among belongs =
    let answers : answer_sends (answer_to (join_session_at node k)) ≡ answer_for a.parent ∷ [] = rw (is, last) refl in
    let are = sent_as (name_of node) (answer_sends (answer_to (join_session_at node k))) (answer_for a.parent ∷ []) acted.sent answers
    step.sent in
    let found = sent_in (name_of node) [] (answer_for a.parent ∷ []) acted.sent are f y n among belongs in
    answer_in (name_of node) a.parent y n (rw (only_one found.0 (answer_for a.parent) found.1) at found.2)

-- and nothing is while others are awaited
sent_never : (node : NodeState) (k : ℕ) (a : Session) (acted : Acted) → AnswerStep node k acted → join_session_at node k ≡ Some a
    → 1 < a.waiting → (f : Frame) (y : List ℕ) (n : ℕ) → IsAmong f acted.sent → Belongs f y n → ⊥
sent_never node k a acted step is more f y n among belongs =
    let answers : answer_sends (answer_to (join_session_at node k)) ≡ [] = rw (is, other_number a.waiting more) refl in
    let are = sent_as (name_of node) (answer_sends (answer_to (join_session_at node k))) [] acted.sent answers step.sent in
    let found = sent_in (name_of node) [] [] acted.sent are f y n among belongs in
    found.1

-- a session that is found is still open, and one that isn't is closed
still_open : (found : Option Session) (k : ℕ) (a : Session) → found ≡ Some a → (if is_none found then Some k else None) ≡ None
still_open found k a is = rw is refl

now_closed : (found : Option Session) (k : ℕ) → found ≡ None → (if is_none found then Some k else None) ≡ Some k
now_closed found k is = rw is refl

module _ (body : ℕ → Body) (law : AnswerLaw body)
    (named : (k : ℕ) (from to : List ℕ) → ◌≡◌ {A = Option (List ℕ × ℕ)} (session_named (body k) from to) (Some (to, k)))
    (closes : (k : ℕ) (after : NodeState) → closed_by (body k) after ≡ (if is_none (join_session_at after k) then Some k else None)) where
  hands_on : AnswerHandsOn body
  hands_on s s' number node from k a before taken remembers at is more =
      let step = law node from k taken.is_node.sessions at taken.known in
      let after = (taken_at node from (body k)).state in
      let still = still_open (join_session_at after k) k (record a { waiting = a.waiting - 1 }) (step.goes_on a is more) in
      hands_on_as s s' number node from (body k) before taken remembers step.opened (name_of node) k (named k from (name_of node))
      (closes k after ∙ still)
      (λ f y n among belongs. absurd (sent_never node k a (taken_at node from (body k)) step is more f y n among belongs))

  closing_root : AnswerClosesRoot body
  closing_root s s' number node from k a joiner before taken remembers at is waits parent last top =
      let step = law node from k taken.is_node.sessions at taken.known in
      let after = (taken_at node from (body k)).state in
      closes_root s s' number node from (body k) before taken remembers step.opened k last (named k from (name_of node))
      (closes k after ∙ now_closed (join_session_at after k) k (step.closes a is waits).0) top
      (λ f y n among belongs. let wrong : Root joiner ≡ Node y n =
      sym parent ∙ sent_once node k a (taken_at node from (body k)) step is waits f y n among belongs in cc)

  closing_child : AnswerClosesChild body
  closing_child s s' number node from k a w m before taken remembers at is waits parent last above =
      let step = law node from k taken.is_node.sessions at taken.known in
      let after = (taken_at node from (body k)).state in
      closes_child s s' number node from (body k) before taken remembers step.opened k last (named k from (name_of node))
      (closes k after ∙ now_closed (join_session_at after k) k (step.closes a is waits).0) w m above
      (λ f y n among belongs. node_parts w y m n
      (sym parent ∙ sent_once node k a (taken_at node from (body k)) step is waits f y n among belongs))

pub heard_hands_on : AnswerHandsOn Heard
heard_hands_on = hands_on Heard heard_law (λ k from to. refl) (λ k after. refl)

pub ack_hands_on : AnswerHandsOn Ack
ack_hands_on = hands_on Ack ack_law (λ k from to. refl) (λ k after. refl)

pub heard_closes_root : AnswerClosesRoot Heard
heard_closes_root = closing_root Heard heard_law (λ k from to. refl) (λ k after. refl)

pub ack_closes_root : AnswerClosesRoot Ack
ack_closes_root = closing_root Ack ack_law (λ k from to. refl) (λ k after. refl)

pub heard_closes_child : AnswerClosesChild Heard
heard_closes_child = closing_child Heard heard_law (λ k from to. refl) (λ k after. refl)

pub ack_closes_child : AnswerClosesChild Ack
ack_closes_child = closing_child Ack ack_law (λ k from to. refl) (λ k after. refl)

-- ---- the answer of a session that is open and counted

-- of tokens of which there is one, each is that of this frame
one_token : (number : ℕ) (tokens : List Token) → length tokens ≡ 1 → AmongTokens (Way number) tokens → (token : Token)
    → AmongTokens token tokens → token ≡ Way number
one_token number [] one way token among = absurd among
one_token number (first ∷ []) one (inl is) token (inl same) = same ∙ sym is
one_token number (first ∷ []) one (inl is) token (inr none) = absurd none
one_token number (first ∷ []) one (inr none) token among = absurd none
one_token number (first ∷ second ∷ others) one way token among = absurd (omega (arith, one))

at_least_one : (tokens : List Token) (token : Token) → AmongTokens token tokens → 1 ≤ length tokens
at_least_one [] token among = absurd among
at_least_one (first ∷ others) token among = omega arith

-- who has sessions open takes answers
may_answer : (status : Status) → holds_sessions status → (status ≡ Joining) ⊎ ((status ≡ Core) ⊎ (status ≡ Ceased))
may_answer Joining holds = inl refl
may_answer Core holds = inr (inl refl)
may_answer Leaving holds = absurd holds
may_answer Gone holds = absurd holds
may_answer Ceased holds = inr (inr refl)

-- an answer that is taken: it isn't the last one that its session awaits, or it is, and closes the session
abbrev pub IsAnswered : System → System → ℕ → Frame → List ℕ → ℕ → List (ℕ × Frame) → Type 0
IsAnswered s s' number f own k sent = ((step : HandsOn s s' number f own k sent) × (1 < length step.before.awaits))
    ⊎ (((step : ClosesRoot s s' number f own k sent) × (length step.closes.session.awaits ≡ 1))
    ⊎ ((w : List ℕ) × (m : ℕ) × (step : ClosesChild s s' number f own k w m sent) × (length step.closes.session.awaits ≡ 1)))

abbrev pub AnswerIsTaken : (ℕ → Body) → Type 0
AnswerIsTaken body = (s s' : System) (number : ℕ) (node : NodeState) (from : List ℕ) (k : ℕ) → BeforeTaking s → AreCountedSo s
    → TakesByRule s s' number node from (body k) → RemembersSessions s s' number node from (body k)
    → AmongFrames number (frame_to node from (body k)) s.frames
    → ((node.status ≡ Joining) ⊎ ((node.status ≡ Core) ⊎ (node.status ≡ Ceased)))
    × IsAnswered s s' number (frame_to node from (body k)) (name_of node) k (sent_at s node from (body k))

module _ (body : ℕ → Body)
    (named : (k : ℕ) (from to : List ℕ) → ◌≡◌ {A = Option (List ℕ × ℕ)} (session_named (body k) from to) (Some (to, k)))
    (hands : AnswerHandsOn body) (root : AnswerClosesRoot body) (child : AnswerClosesChild body) where
  is_taken : AnswerIsTaken body
  is_taken s s' number node from k before counted taken remembers among =
      let own = name_of node in
      let frame = frame_to node from (body k) in
      let awaited = before.exact.frames number frame own k among (named k from own) in
      let kept = counted.kept own k awaited.session node awaited.is taken.at.was in
      let place = before.places.places own k awaited.session awaited.is in
      let status = may_answer node.status (held place.state node place.is taken.at.was place.holds) in
      let waits : kept.0.waiting ≡ length awaited.session.awaits = kept.2.waiting in
      let some = at_least_one awaited.session.awaits (Way number) awaited.among in (
        status,
        elim (cases_lt 1 (length awaited.session.awaits)) [
          | inl more ↦
              let step = hands s s' number node from k kept.0 before taken remembers status kept.1 (omega (arith, waits, more)) in
              inl (step, many awaited.session step.before awaited.is step.was more)
          | inr most ↦
              let one : length awaited.session.awaits ≡ 1 = omega (arith, some, most) in
              let last : IsLastAnswer s number node k = record {
                session = awaited.session;
                is = awaited.is;
                only = one_token number awaited.session.awaits one awaited.among;
              } in
              inr (by_parent last one kept.0 awaited.session.parent refl kept.1 (waits ∙ one) kept.2.parent status)
        ],
      )
    where
      held : (one other : NodeState) → s.node (name_of node) ≡ Some one → s.node (name_of node) ≡ Some other → holds_sessions one.status
          → holds_sessions other.status
      held one other is was holds = let same : one ≡ other = cc in rw (← same) holds

      many : (one other : OpenSession) → IsOpen s (name_of node) k one → IsOpen s (name_of node) k other → 1 < length one.awaits
          → 1 < length other.awaits
      many one other is was more = let same : one ≡ other = cc in rw (← same) more

      -- the session that is closed is the one that awaits this answer alone
      single : (one other : OpenSession) → IsOpen s (name_of node) k one → IsOpen s (name_of node) k other → length one.awaits ≡ 1
          → length other.awaits ≡ 1
      single one other is was awaits = let same : one ≡ other = cc in rw (← same) awaits

      by_parent : (last : IsLastAnswer s number node k) → length last.session.awaits ≡ 1 → (a : Session) (above : Option (List ℕ × ℕ))
          → last.session.parent ≡ above
          → join_session_at node k ≡ Some a → a.waiting ≡ 1 → a.parent ≡ kept_parent last.session
          → (node.status ≡ Joining) ⊎ ((node.status ≡ Core) ⊎ (node.status ≡ Ceased))
          → ((step : ClosesRoot s s' number (frame_to node from (body k)) (name_of node) k (sent_at s node from (body k)))
          × (length step.closes.session.awaits ≡ 1))
          ⊎ ((w : List ℕ) × (m : ℕ)
          × (step : ClosesChild s s' number (frame_to node from (body k)) (name_of node) k w m (sent_at s node from (body k)))
          × (length step.closes.session.awaits ≡ 1))
      by_parent last one a None top is waits parent status =
          let step = root s s' number node from k a last.session.joiner before taken remembers status is waits
          (parent ∙ ap (parent_at last.session.joiner) top) last top in
          inl (step, single last.session step.closes.session last.is step.closes.was one)
      by_parent last one a (Some (w, m)) above is waits parent status =
          let step = child s s' number node from k a w m before taken remembers status is waits
          (parent ∙ ap (parent_at last.session.joiner) above) last above in
          inr (w, m, step, single last.session step.closes.session last.is step.closes.was one)

pub heard_is_taken : AnswerIsTaken Heard
heard_is_taken = is_taken Heard (λ k from to. refl) heard_hands_on heard_closes_root heard_closes_child

pub ack_is_taken : AnswerIsTaken Ack
ack_is_taken = is_taken Ack (λ k from to. refl) ack_hands_on ack_closes_root ack_closes_child

-- in each case the sessions are exact
answered_exact : (s s' : System) (number : ℕ) (f : Frame) (own : List ℕ) (k : ℕ) (sent : List (ℕ × Frame))
    → IsAnswered s s' number f own k sent → AreExact s → AreExact s'
answered_exact s s' number f own k sent (inl hands) exact = handing_on_law s s' number f own k sent hands.0 exact
answered_exact s s' number f own k sent (inr (inl root)) exact = last_answer_law s s' number f own k sent root.0 exact
answered_exact s s' number f own k sent (inr (inr child)) exact =
    closing_law s s' number f own k child.0 child.1 sent child.2 exact

keeps_exact : (body : ℕ → Body) → AnswerIsTaken body → AnswerKeepsExact body
keeps_exact body taken_so s s' number node from k before counted taken remembers among =
    answered_exact s s' number (frame_to node from (body k)) (name_of node) k (sent_at s node from (body k))
    (taken_so s s' number node from k before counted taken remembers among).1 before.exact

pub heard_keeps_exact : AnswerKeepsExact Heard
heard_keeps_exact = keeps_exact Heard heard_is_taken

pub ack_keeps_exact : AnswerKeepsExact Ack
ack_keeps_exact = keeps_exact Ack ack_is_taken
