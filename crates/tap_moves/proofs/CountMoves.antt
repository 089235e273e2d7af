-- What is awaited after each delivered frame: each session awaits an answer, as many as its node waits for.
-- Cited above: frame_counts
use Rattle.std.proofs.Common.{◌≡◌, ◌⊎◌, ◌==◌, ℕ, ◌+◌, ◌-◌, ◌<◌, ◌≤◌, Bool, true, false, List, [], ◌∷◌, length, Some, if◌then◌else◌, arith, ap, refl, sym, subst, ◌∙◌, inl, inr}
use Rattle.std.proofs.lemmas.Bool.{eqb-true}
use Rattle.tap_name.specs.Settings.{SettingsValue}
use Rattle.tap_name.specs.declared.slot.Slot.{Slot}
use Rattle.tap_session.specs.declared.parent.Parent.{Parent}
use Rattle.tap_session.specs.declared.parent.Parent.TheVariants.{Node, Root}
use Rattle.tap_session.specs.Session.{Session, SessionsValue}
use Rattle.tap_session.specs.Sessions.{AreSessions, next_session, opened_with, session_of}
use Rattle.tap_session.proofs.Transitions.{session_of-opened}
use Rattle.tap_join.specs.Seek.{sought}
use Rattle.tap_join.specs.declared.sought.Sought.{Sought}
use Rattle.tap_join.specs.declared.sought.Sought.TheVariants.{Forward, Surrogate}
use Rattle.tap_wire.specs.declared.frame.Body.{Body}
use Rattle.tap_wire.specs.declared.frame.Body.TheVariants.{Ack, Heard, Seek}
use Rattle.tap_wire.specs.declared.frame.Frame.{Frame}
use Rattle.tap_wire.specs.declared.frame.TellFields.{TellFields}
use Rattle.tap_rule.specs.Event.{Acted}
use Rattle.tap_rule.specs.RuleLaws.{AnswerLaw, frame_to}
use Rattle.tap_rule.specs.Node.{NodeState, join_session_at, name_of}
use Rattle.tap_rule.specs.Node.Status.{Ceased, Core, Joining}
use Rattle.tap_rule.specs.Reaction.{message}
use Rattle.tap_rule.specs.LinkSteps.{AnswerStep}
use Rattle.tap_rule.proofs.AnswerSteps.{ack_law, heard_law, same_number}
use Rattle.tap_rule.proofs.JoinSteps.{hello_law}
use Rattle.tap_safety.specs.Bookkeeping.{SendsIn}
use Rattle.tap_safety.specs.Counted.{IsKeptSo, parent_at}
use Rattle.tap_safety.specs.CountSteps.{CountsDown}
use Rattle.tap_safety.specs.Frames.{HelloFields, hello_body, tell_body}
use Rattle.tap_safety.specs.Invariant.{Basis}
use Rattle.tap_safety.specs.Remembered.{OpenSession, Token}
use Rattle.tap_safety.specs.Remembered.Token.{Child, Way}
use Rattle.tap_safety.specs.Sessions.{AmongTokens, IsOpen, for_way, ways_of}
use Rattle.tap_safety.specs.SessionSteps.{ClosesChild, ClosesRoot, HandsOn}
use Rattle.tap_safety.specs.Exchanges.{ChangesAt}
use Rattle.tap_safety.specs.System.{System}
use Rattle.tap_safety.proofs.Apart.{ways_of-child}
use Rattle.tap_safety.proofs.CountedKept.{counted_answer, counted_answering, counted_closing, counted_last, counted_opening, counted_root, for_way-length}
use Rattle.tap_safety.proofs.SessionsKept.{ways_of-has}
use Rattle.tap_safety.proofs.StepLaws.{await_closing_law, await_handing_on_law, await_last_law, await_opening_law, await_root_law}
use Rattle.tap_safety.proofs.Said.{Said, said_of}
use Rattle.tap_safety.proofs.Said.Said.{IsAck, IsHeard, IsHello, IsSeek, IsTell}
use Rattle.tap_moves.specs.ByRule.{taken_at}
use Rattle.tap_moves.specs.Delivered.{after_delivery}
use Rattle.tap_moves.specs.InSession.{OpensOrAnswers}
use Rattle.tap_moves.specs.InvariantLaws.{IsDelivery, IsTakenThere}
use Rattle.tap_moves.specs.SessionMoves.{AwaitsAsMany, FrameCounts}
use Rattle.tap_moves.specs.SessionsLaws.{IsOutside, sent_at}
use Rattle.tap_moves.proofs.AnswersMade.{AnswerIsTaken, IsAnswered, ack_is_taken, heard_is_taken}
use Rattle.tap_moves.proofs.Counts.{ways_at, ways_count}
use Rattle.tap_moves.proofs.InSession.{ceased_answers, seek_opens, tell_in_session}
use Rattle.tap_moves.proofs.InvariantMoves.{before_taking, due, way}
use Rattle.tap_moves.proofs.MovesMade.{by_rule, remembers}
use Rattle.tap_moves.proofs.OutsideMade.{hello_hands_on}
use Rattle.tap_moves.proofs.SessionMoves.{outside_books}
use Rattle.tap_moves.proofs.SessionsMade.{hands_on, opens_child, opens_root}

-- ---- what is awaited

none_of : (tokens : List Token) → length tokens ≡ 0 → tokens ≡ []
none_of [] none = refl
none_of (token ∷ tokens) none = absurd (omega (arith, none))

some_of : (tokens : List Token) → 1 ≤ length tokens → tokens ≡ [] → ⊥
some_of [] some none = absurd (omega (arith, some))
some_of (token ∷ tokens) some none = cc

-- a frame that is awaited is sent
sends_in : (x : List ℕ) (k : ℕ) (sent : List (ℕ × Frame)) (tokens : List Token) → ways_of x k sent ≡ tokens → 1 ≤ length tokens
    → SendsIn sent x k
sends_in x k sent [] is some = absurd (omega (arith, some))
sends_in x k sent (Way m ∷ tokens) is some =
    let has = ways_of-has x k sent m (subst (AmongTokens (Way m)) (sym is) (inl refl)) in
    record { number = m; frame = has.frame; among = has.among; belongs = has.belongs }
sends_in x k sent (Child y l ∷ tokens) is some =
    absurd (ways_of-child x k sent y l (subst (AmongTokens (Child y l)) (sym is) (inl refl)))

-- a session that is handed on awaits as many more as are sent, and one less
handed_on : (s s' : System) (number : ℕ) (f : Frame) (w : List ℕ) (k : ℕ) (sent : List (ℕ × Frame))
    → (step : HandsOn s s' number f w k sent) → (p : SettingsValue) → Basis p s
    → (length (for_way number (ways_of w k sent) step.before.awaits) + 1 ≡ length (ways_of w k sent) + length step.before.awaits)
    × AmongTokens (Way number) step.before.awaits
handed_on s s' number f w k sent step p inv =
    let awaited = inv.exact.frames number f w k step.frames.taken step.belongs in
    let one = awaited.is in
    let other = step.was in
    let same : awaited.session ≡ step.before = cc in
    let among = subst (λ (o : OpenSession). AmongTokens (Way number) o.awaits) same awaited.among in
    (for_way-length number (ways_of w k sent) step.before.awaits (inv.awaited.apart w k step.before step.was) among, among)

some_awaited : (tokens : List Token) (token : Token) → AmongTokens token tokens → 1 ≤ length tokens
some_awaited [] token among = absurd among
some_awaited (first ∷ others) token among = omega arith

-- ---- the sessions of a node that opens one

opened_others : (old new : SessionsValue) (parent : Parent) (depth waiting : ℕ) → AreSessions old
    → new ≡ opened_with old parent depth waiting → (n : ℕ)
    → (n ≡ old.opened + 1) ⊎ (session_of new.sessions n ≡ session_of old.sessions n)
opened_others old new parent depth waiting are same n = by_number (old.opened + 1 == n) refl
  where
    found : session_of new.sessions n
        ≡ (if old.opened + 1 == n then Some (next_session old parent depth waiting) else session_of old.sessions n)
    found =
        ap (λ (o : SessionsValue). session_of o.sessions n) same ∙ session_of-opened old are parent depth waiting n

    by_number : (here : Bool) → (old.opened + 1 == n) ≡ here
        → (n ≡ old.opened + 1) ⊎ (session_of new.sessions n ≡ session_of old.sessions n)
    by_number true is = inl (sym (eqb-true (old.opened + 1) n is))
    by_number false is = inr (found ∙ rw is refl)

opened_here : (old new : SessionsValue) (parent : Parent) (depth waiting : ℕ) → AreSessions old
    → new ≡ opened_with old parent depth waiting
    → session_of new.sessions (old.opened + 1) ≡ Some (next_session old parent depth waiting)
opened_here old new parent depth waiting are same =
    ap (λ (o : SessionsValue). session_of o.sessions (old.opened + 1)) same
    ∙ session_of-opened old are parent depth waiting (old.opened + 1) ∙ rw (same_number (old.opened + 1)) refl

-- ---- by the kind of a frame

module _ (p : SettingsValue) (s : System) (number : ℕ) (node : NodeState) (from : List ℕ) where
  abbrev after : System
  after = after_delivery p s number

  abbrev own : List ℕ
  own = name_of node

  -- a frame that is answered at once, by a node that keeps its sessions
  answered_once : (body : Body) → IsDelivery p s number node from body → (w : List ℕ) (k : ℕ)
      → HandsOn s after number (frame_to node from body) w k (sent_at s node from body)
      → (taken_at node from body).state.sessions ≡ node.sessions → length (ways_of w k (sent_at s node from body)) ≡ 1
      → AwaitsAsMany after
  answered_once body is w k step same one =
      let inv = is.invariant in
      let acted = taken_at node from body in
      let sent = sent_at s node from body in
      let frame = frame_to node from body in
      let at = (by_rule p s number node from body (due p s number node from body is)).at in
      let handed = handed_on s after number frame w k sent step p inv in
      let some = some_awaited step.before.awaits (Way number) handed.1 in
      let long = handed.0 in
      record {
        await =
            await_handing_on_law s after number frame w k sent step
            (some_of (for_way number (ways_of w k sent) step.before.awaits) (omega (arith, one, some, long))) inv.await;
        counted =
            counted_answering s after number frame w k sent own node acted.state step at
            (λ n. ap (λ (o : SessionsValue). session_of o.sessions n) same) one inv.exact inv.awaited inv.counted;
      }

  -- a Tell for which a session is opened, or that is answered at once
  tell_counts : (tell : TellFields) (watch : List Slot) → IsDelivery p s number node from (tell_body tell watch)
      → OpensOrAnswers node (Node from tell.session) tell.depth (taken_at node from (tell_body tell watch)) → AwaitsAsMany after
  tell_counts tell watch is (inr answers) =
      let body = tell_body tell watch in
      let here = due p s number node from body is in
      answered_once body is from tell.session
      (hands_on s after number node from tell watch (before_taking p s is.invariant) (by_rule p s number node from body here)
      (remembers p s number node from body here) answers) answers.sessions (answers.one from tell.session s.next refl)
  tell_counts tell watch is (inl opens) =
      let inv = is.invariant in
      let body = tell_body tell watch in
      let here = due p s number node from body is in
      let frame = frame_to node from body in
      let acted = taken_at node from body in
      let sent = sent_at s node from body in
      let taken = by_rule p s number node from body here in
      let l = node.sessions.opened + 1 in
      let step = opens_child s after number node from tell watch (before_taking p s inv) taken (remembers p s number node from body here)
      opens in
      let old = here.is_node.sessions in
      let deep = inv.deeper.depth from own tell watch step.before (way p s number node from body is) step.parent_was in
      let count = opens.counted s.next in
      let some = opens.some in
      record {
        await =
            await_opening_law s after number frame from tell.session own l sent step inv.exact
            (sends_in own l sent (ways_of own l sent) refl (omega (arith, count, some))) inv.await;
        counted =
            counted_opening s after number frame from tell.session own l sent node acted.state
            (next_session node.sessions (Node from tell.session) tell.depth opens.waiting) step taken.at
            (opened_others node.sessions acted.state.sessions (Node from tell.session) tell.depth opens.waiting old opens.sessions)
            (opened_here node.sessions acted.state.sessions (Node from tell.session) tell.depth opens.waiting old opens.sessions)
            (record { parent = refl; depth = deep; waiting = sym count }) inv.exact inv.awaited inv.counted;
      }

  hello_counts : (hello : HelloFields) → IsDelivery p s number node from (hello_body hello) → node.status ≡ Joining
      → AwaitsAsMany after
  hello_counts hello is at =
      let body = hello_body hello in
      let here = due p s number node from body is in
      let step = hello_law node from hello at is.known in
      answered_once body is from hello.session
      (hello_hands_on s after number node from hello (before_taking p s is.invariant) (by_rule p s number node from body here)
      (remembers p s number node from body here) at) step.sessions
      (ways_count own from hello.session s.next _ (message from (Heard hello.session) ∷ []) _ (taken_at node from body).sent
      step.completed.sent (λ m among. elim among [ inl same ↦ rw same refl | inr none ↦ absurd none ]))

  -- a Seek at the surrogate
  seat_counts : (joiner : List ℕ) (prefix : ℕ) → IsDelivery p s number node from (Seek joiner) → node.status ≡ Core
      → sought node.ties.table joiner ≡ Surrogate prefix → AwaitsAsMany after
  seat_counts joiner prefix is at found =
      let inv = is.invariant in
      let body = Seek joiner in
      let here = due p s number node from body is in
      let frame = frame_to node from body in
      let acted = taken_at node from body in
      let sent = sent_at s node from body in
      let taken = by_rule p s number node from body here in
      let l = node.sessions.opened + 1 in
      let opens = seek_opens node from joiner prefix at is.known found in
      let seeker = inv.seekers.seeks from own joiner (way p s number node from body is) in
      let root = opens_root s after number node from joiner (before_taking p s inv) taken (remembers p s number node from body here) seeker
      opens in
      let step = root.0 in
      let old = here.is_node.sessions in
      let count = opens.counted s.next in
      let some = opens.some in
      record {
        await =
            await_root_law s after number frame own l sent step inv.exact
            (sends_in own l sent (ways_of own l sent) refl (omega (arith, count, some))) inv.await;
        counted =
            counted_root s after number frame own l sent node acted.state (next_session node.sessions (Root joiner) 0 opens.waiting) step
            taken.at (opened_others node.sessions acted.state.sessions (Root joiner) 0 opens.waiting old opens.sessions)
            (opened_here node.sessions acted.state.sessions (Root joiner) 0 opens.waiting old opens.sessions)
            (record {
              parent = sym (ap (λ above. parent_at step.root.joiner above) step.top ∙ ap (λ b. Root b) root.1);
              depth = sym step.deep;
              waiting = sym (ap length step.awaits ∙ count);
            })
            inv.counted;
      }

  -- an answer
  module _ (body : ℕ → Body) (k : ℕ) (is : IsDelivery p s number node from (body k))
      (step : AnswerStep node k (taken_at node from (body k))) where
    abbrev acted : Acted
    acted = taken_at node from (body k)

    abbrev frame : Frame
    frame = frame_to node from (body k)

    abbrev sent : List (ℕ × Frame)
    sent = sent_at s node from (body k)

    abbrev inv : Basis p s
    inv = is.invariant

    at_node : ChangesAt s after own node acted.state
    at_node = (by_rule p s number node from (body k) (due p s number node from (body k) is)).at

    -- the session as the node keeps it
    kept : (session : OpenSession) → IsOpen s own k session
        → (a : Session) × (join_session_at node k ≡ Some a) × IsKeptSo a session
    kept session was = inv.counted.kept own k session node was is.at

    goes_on : (hands : HandsOn s after number frame own k sent) → 1 < length hands.before.awaits → AwaitsAsMany after
    goes_on hands more =
        let a = kept hands.before hands.was in
        let waits = a.2.waiting in
        let many : 1 < a.0.waiting = omega (arith, waits, more) in
        let none = ways_at node.status node [] acted own k s.next (step.silent (rw a.1 many)) (λ m none. absurd none) in
        let long = (handed_on s after number frame own k sent hands p inv).0 in
        let down : CountsDown node acted.state k = record {
          old = a.0;
          was = a.1;
          now = record a.0 { waiting = a.0.waiting - 1 };
          is = step.goes_on a.0 a.1 many;
          parent = refl;
          depth = refl;
          waiting = omega (arith, many);
          others = step.others;
        } in
        record {
          await =
              await_handing_on_law s after number frame own k sent hands
              (some_of (for_way number (ways_of own k sent) hands.before.awaits) (omega (arith, none, more, long))) inv.await;
          counted =
              counted_answer s after number frame own k sent node acted.state hands at_node down (none_of (ways_of own k sent) none)
              inv.exact inv.awaited inv.counted;
        }

    ends_root : (root : ClosesRoot s after number frame own k sent) → length root.closes.session.awaits ≡ 1 → AwaitsAsMany after
    ends_root root one =
        let a = kept root.closes.session root.closes.was in
        let waits : a.0.waiting ≡ 1 = a.2.waiting ∙ one in
        record {
          await = await_last_law s after number frame own k sent root inv.await;
          counted =
              counted_last s after number frame own k sent node acted.state root at_node step.others (step.closes a.0 a.1 waits).0
              inv.counted;
        }

    ends_child : (w : List ℕ) (m : ℕ) → (child : ClosesChild s after number frame own k w m sent)
        → length child.closes.session.awaits ≡ 1 → AwaitsAsMany after
    ends_child w m child one =
        let a = kept child.closes.session child.closes.was in
        let waits : a.0.waiting ≡ 1 = a.2.waiting ∙ one in
        let parent : a.0.parent ≡ Node w m =
        a.2.parent ∙ ap (λ above. parent_at child.closes.session.joiner above) child.above in
        let count : length (ways_of w m sent) ≡ 1 =
        ways_at node.status node (message w (Ack m) ∷ []) acted w m s.next (step.acks a.0 w m a.1 waits parent)
        (λ n among. elim among [ inl same ↦ rw same refl | inr none ↦ absurd none ]) in
        record {
          await =
              await_closing_law s after number frame own k w m sent child inv.exact
              (sends_in w m sent (ways_of w m sent) refl (omega (arith, count))) inv.await;
          counted =
              counted_closing s after number frame own k w m sent node acted.state child at_node step.others
              (step.closes a.0 a.1 waits).0 count inv.exact inv.awaited inv.counted;
        }

    answered : IsAnswered s after number frame own k sent → AwaitsAsMany after
    answered (inl hands) = goes_on hands.0 hands.1
    answered (inr (inl root)) = ends_root root.0 root.1
    answered (inr (inr child)) = ends_child child.0 child.1 child.2 child.3

  answer_counts : (body : ℕ → Body) → AnswerLaw body → AnswerIsTaken body → (k : ℕ) → IsDelivery p s number node from (body k)
      → AwaitsAsMany after
  answer_counts body law taken_so k is =
      let here = due p s number node from (body k) is in
      let taken = by_rule p s number node from (body k) here in
      let found = taken_so s after number node from k (before_taking p s is.invariant) is.invariant.counted taken
      (remembers p s number node from (body k) here) is.among in
      answered body k is (law node from k taken.is_node.sessions found.0 is.known) found.1

  outside_counts : (body : Body) → IsDelivery p s number node from body → IsOutside node body → AwaitsAsMany after
  outside_counts body is outside =
      let books = outside_books p s number node from body is outside in record { await = books.await; counted = books.counted }

  seek_counts : (joiner : List ℕ) → IsDelivery p s number node from (Seek joiner) → node.status ≡ Core → (found : Sought)
      → sought node.ties.table joiner ≡ found → AwaitsAsMany after
  seek_counts joiner is at (Forward next) found = outside_counts (Seek joiner) is (next, found)
  seek_counts joiner is at (Surrogate prefix) found = seat_counts joiner prefix is at found

  tells_count : (tell : TellFields) (watch : List Slot) → IsDelivery p s number node from (tell_body tell watch)
      → (node.status ≡ Core) ⊎ ((node.status ≡ Joining) ⊎ (node.status ≡ Ceased)) → AwaitsAsMany after
  tells_count tell watch is (inl at) = tell_counts tell watch is (tell_in_session node from tell watch (inl at) is.known)
  tells_count tell watch is (inr (inl at)) = tell_counts tell watch is (tell_in_session node from tell watch (inr at) is.known)
  tells_count tell watch is (inr (inr at)) = tell_counts tell watch is (inr (ceased_answers node from tell watch at is.known))

pub frame_counts : FrameCounts
frame_counts p s number node from body is there = by_said body (said_of body) is there
  where
    by_said : (body : Body) → Said body → IsDelivery p s number node from body → IsTakenThere node body
        → AwaitsAsMany (after_delivery p s number)
    by_said _ (IsTell tell watch) is there = tells_count p s number node from tell watch is there
    by_said _ (IsHello hello) is there = hello_counts p s number node from hello is there
    by_said _ (IsHeard session) is there = answer_counts p s number node from Heard heard_law heard_is_taken session is
    by_said _ (IsAck session) is there = answer_counts p s number node from Ack ack_law ack_is_taken session is
    by_said _ (IsSeek joiner) is there = seek_counts p s number node from joiner is there (sought node.ties.table joiner) refl
    by_said body _ is there = outside_counts p s number node from body is there
