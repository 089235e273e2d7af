-- What each delivered frame does with the sessions of joins, and what the sessions keep by it.
-- Cited above: frame_awaits, frame_core, frame_names, frame_places, left_deeper
use Rattle.std.proofs.Common.{◌≡◌, ◌⊎◌, ℕ, ◌+◌, ◌≤◌, Bool, List, Option, None, Some, true, false, if◌then◌else◌, arith, ap, refl, sym, subst, ◌∙◌, inl, inr}
use Rattle.tap_name.specs.Settings.{SettingsValue}
use Rattle.tap_name.specs.declared.slot.Slot.{Slot}
use Rattle.tap_session.specs.declared.parent.Parent.TheVariants.{Node}
use Rattle.tap_session.specs.Session.{SessionsValue}
use Rattle.tap_session.specs.Sessions.{session_of}
use Rattle.tap_join.specs.Seek.{sought}
use Rattle.tap_join.specs.declared.sought.Sought.{Sought}
use Rattle.tap_join.specs.declared.sought.Sought.TheVariants.{Forward, Surrogate}
use Rattle.tap_wire.specs.declared.frame.Body.{Body}
use Rattle.tap_wire.specs.declared.frame.Body.TheVariants.{Ack, Done, Forget, Heard, Link, Release, Seek}
use Rattle.tap_wire.specs.declared.frame.Frame.{Frame}
use Rattle.tap_wire.specs.declared.frame.TellFields.{TellFields}
use Rattle.tap_rule.specs.Ceasing.{ceases, takes_tell_ceased}
use Rattle.tap_rule.specs.Act.{act}
use Rattle.tap_rule.specs.Event.{Acted, Start}
use Rattle.tap_rule.specs.Event.Event.{Starts, Takes}
use Rattle.tap_rule.specs.Event.Start.{Abandon, Cast, Find, Join, Leave, Publish, Withdraw}
use Rattle.tap_rule.specs.FrameRules.{frame_at_ceased, frame_at_core, frame_at_joining, frame_at_leaving, rule_of_frame}
use Rattle.tap_rule.specs.Joining.{becomes_core}
use Rattle.tap_rule.specs.JoinSteps.{SeeksAs}
use Rattle.tap_rule.specs.RuleLaws.{AnswerLaw, frame_to}
use Rattle.tap_rule.specs.Node.{NodeState, Status, joiner, name_of}
use Rattle.tap_rule.specs.Node.Status.{Ceased, Core, Gone, Joining, Leaving}
use Rattle.tap_rule.specs.Reaction.{Reaction}
use Rattle.tap_rule.specs.Strange.{is_strange}
use Rattle.tap_rule.proofs.AnswerSteps.{ack_law, heard_law}
use Rattle.tap_rule.proofs.CarriedOut.{frame_law, unruled_law}
use Rattle.tap_rule.proofs.CoverSteps.{seek_law, tell_law}
use Rattle.tap_rule.proofs.JoinSteps.{hello_law, meet_law}
use Rattle.tap_rule.proofs.OneName.{not_own}
use Rattle.tap_rule.proofs.QuietSteps.{quiet_law}
use Rattle.tap_safety.specs.Awaited.{AreAwaitedOnce}
use Rattle.tap_safety.specs.Bookkeeping.{HasPlace, HavePlaces, KeepsPlaces, TellsAreDeeper, holds_sessions}
use Rattle.tap_safety.specs.Frames.{HelloFields, hello_body, tell_body}
use Rattle.tap_safety.specs.Invariant.{Basis}
use Rattle.tap_safety.specs.Move.{may_start}
use Rattle.tap_safety.specs.Moved.{starter}
use Rattle.tap_safety.specs.Remembered.{OpenSession}
use Rattle.tap_safety.specs.Seeking.{HasNode}
use Rattle.tap_safety.specs.Spelled.{most_names}
use Rattle.tap_safety.specs.Sessions.{AreExact, IsOpen, ways_of}
use Rattle.tap_safety.specs.SessionSteps.{LeavesSessions, OpensChild, OpensRoot, child_of}
use Rattle.tap_safety.specs.Exchanges.{AreNumbered, Ascend, ChangesAt}
use Rattle.tap_safety.specs.System.{System, IsCoreNode, IsUnderWay}
use Rattle.tap_safety.specs.Turns.{Turns}
use Rattle.tap_safety.proofs.CountedKept.{counted_others}
use Rattle.tap_safety.proofs.Known.{core_kept, few_join, few_kept, names_kept}
use Rattle.tap_safety.proofs.Moved.{delivers, found, numbers_sent, numbers_taken, starts}
use Rattle.tap_safety.proofs.StepLaws.{await_others_law, awaited_closing_law, awaited_handing_on_law, awaited_last_law, awaited_opening_law, awaited_others_law, awaited_root_law, closing_turns_law, handing_on_turns_law, last_turns_law, numbers_new_law, opening_turns_law, places_law, root_turns_law}
use Rattle.tap_safety.proofs.Said.{Said, said_of}
use Rattle.tap_safety.proofs.Said.Said.{IsAck, IsHeard, IsHello, IsSeek, IsTell}
use Rattle.tap_moves.specs.ByRule.{taken_at}
use Rattle.tap_moves.specs.Delivered.{after_delivery, after_start}
use Rattle.tap_moves.specs.InSession.{OpensOrAnswers}
use Rattle.tap_moves.specs.InvariantLaws.{IsDelivery, IsTakenThere}
use Rattle.tap_moves.specs.SessionMoves.{AreNamed, FrameAwaits, FrameCore, FrameNames, FramePlaces, FrameSteps, GoesOnAs, IsLastOpened, IsOfAnother, IsOfKind, OutsideBooks, SessionStep, StartNames, StepsSessions}
use Rattle.tap_moves.specs.SessionMoves.SessionStep.{ClosesBelow, ClosesTop, Hands, LeavesAll, OpensBelow, OpensTop}
use Rattle.tap_moves.specs.SessionsLaws.{IsOutside, sent_at}
use Rattle.tap_moves.specs.KnownNames.{AreNodes, IsNamedStart}
use Rattle.tap_moves.proofs.AnswersMade.{AnswerIsTaken, IsAnswered, ack_is_taken, heard_is_taken}
use Rattle.tap_moves.proofs.InSession.{ceased_answers, one_place, seek_opens, tell_in_session}
use Rattle.tap_moves.proofs.InvariantMoves.{before_taking, due, name_at, of_node, seeker_not_core, told, told_name, way}
use Rattle.tap_moves.proofs.MovesMade.{by_rule, is_found, remembers}
use Rattle.tap_moves.proofs.OutsideMade.{hello_hands_on, outside_leaves}
use Rattle.tap_moves.proofs.PartsMade.{parts_kept, start_keeps_parts}
use Rattle.tap_moves.proofs.SessionsMade.{hands_on, opens_child, opens_root}

-- ---- a node goes on as it was

goes_on_same : (one other : Status) → other ≡ one → GoesOnAs one other
goes_on_same one other same =
    record { holds = subst holds_sessions (sym same); core = subst (λ n. (n ≡ Core) ⊎ (n ≡ Leaving)) (sym same) }

-- a joining node isn't core
joining_no_core : (status : Status) → status ≡ Joining → (status ≡ Core) ⊎ (status ≡ Leaving) → ⊥
joining_no_core status joins (inl core) = let wrong : Joining ≡ Core = sym joins ∙ core in absurd (cc)
joining_no_core status joins (inr leaving) = let wrong : Joining ≡ Leaving = sym joins ∙ leaving in absurd (cc)

-- a node is left so: it goes on as it was, with its sessions
record IsLeft (node after : NodeState) : Type 0 where
  status : GoesOnAs node.status after.status
  sessions : after.sessions ≡ node.sessions

-- so it is by a rule, if there is one
abbrev IsLeftBy : NodeState → Option Reaction → Type 0
IsLeftBy node None = Unit {0}
IsLeftBy node (Some r) = IsLeft node r.state

left_same : (node after : NodeState) → after.status ≡ node.status → after.sessions ≡ node.sessions → IsLeft node after
left_same node after status sessions = record { status = goes_on_same node.status after.status status; sessions = sessions }

left_by : (node : NodeState) (from : List ℕ) (body : Body) → is_strange node (frame_to node from body) ≡ false
    → IsLeftBy node (rule_of_frame node.status node from body) → IsLeft node (taken_at node from body).state
left_by node from body known left = step (rule_of_frame node.status node from body) refl left
  where
    step : (rule : Option Reaction) → rule_of_frame node.status node from body ≡ rule → IsLeftBy node rule
        → IsLeft node (taken_at node from body).state
    step None is left =
        let same = (unruled_law node (frame_to node from body) is).state in
        left_same node (taken_at node from body).state (ap (λ (n : NodeState). n.status) same) (ap (λ (n : NodeState). n.sessions) same)
    step (Some r) is left =
        let carried = frame_law node (frame_to node from body) r known is in
        record {
          status = subst (λ n. GoesOnAs node.status n) (sym carried.status) left.status;
          sessions = carried.sessions ∙ left.sessions;
        }

done_ends : (node : NodeState) (given_up : Bool) → node.status ≡ Joining
    → IsLeftBy node (Some (if given_up then ceases node else becomes_core node))
done_ends node true joins =
    record { status = record { holds = λ holds. tt; core = λ core. absurd (joining_no_core node.status joins core) }; sessions = refl }
done_ends node false joins = record { status = record { holds = λ holds. tt; core = λ core. inl refl }; sessions = refl }

done_left : (status : Status) (node : NodeState) (from : List ℕ) → node.status ≡ status
    → IsLeftBy node (rule_of_frame status node from Done)
unfolding frame_at_joining frame_at_core frame_at_leaving frame_at_ceased
done_left Joining node from at = done_ends node node.abandoned at
done_left Core node from at = tt
done_left Leaving node from at = tt
done_left Gone node from at = tt
done_left Ceased node from at = tt

release_left : (status : Status) (node : NodeState) (from : List ℕ) → IsLeftBy node (rule_of_frame status node from Release)
unfolding frame_at_joining frame_at_core frame_at_leaving frame_at_ceased
release_left Joining node from = left_same node _ refl refl
release_left Core node from = left_same node _ refl refl
release_left Leaving node from = tt
release_left Gone node from = tt
release_left Ceased node from = tt

forget_left : (status : Status) (node : NodeState) (from : List ℕ) → IsLeftBy node (rule_of_frame status node from Forget)
unfolding frame_at_joining frame_at_core frame_at_leaving frame_at_ceased
forget_left Joining node from = left_same node _ refl refl
forget_left Core node from = left_same node _ refl refl
forget_left Leaving node from = tt
forget_left Gone node from = tt
forget_left Ceased node from = tt

link_left : (status : Status) (node : NodeState) (from : List ℕ) (version : ℕ) (on : Bool)
    → IsLeftBy node (rule_of_frame status node from (Link version on))
unfolding frame_at_joining frame_at_core frame_at_leaving frame_at_ceased
link_left Joining node from version on = left_same node _ refl refl
link_left Core node from version on = left_same node _ refl refl
link_left Leaving node from version on = left_same node _ refl refl
link_left Gone node from version on = tt
link_left Ceased node from version on = left_same node _ refl refl

seek_left : (status : Status) (node : NodeState) (from joiner next : List ℕ) → sought node.ties.table joiner ≡ Forward next
    → IsLeftBy node (rule_of_frame status node from (Seek joiner))
unfolding frame_at_joining frame_at_core frame_at_leaving frame_at_ceased
seek_left Joining node from joiner next is = tt
seek_left Core node from joiner next is = rw is (left_same node _ refl refl)
seek_left Leaving node from joiner next is = tt
seek_left Gone node from joiner next is = tt
seek_left Ceased node from joiner next is = tt

outside_left : (node : NodeState) (from : List ℕ) (body : Body) → is_strange node (frame_to node from body) ≡ false
    → IsOutside node body → IsLeft node (taken_at node from body).state
outside_left node from Done known outside = left_by node from Done known (done_left node.status node from refl)
outside_left node from Release known outside = left_by node from Release known (release_left node.status node from)
outside_left node from Forget known outside = left_by node from Forget known (forget_left node.status node from)
outside_left node from (Link version on) known outside =
    left_by node from (Link version on) known (link_left node.status node from version on)
outside_left node from (Seek joiner) known outside =
    left_by node from (Seek joiner) known (seek_left node.status node from joiner outside.0 outside.1)
outside_left node from body known outside =
    let step = quiet_law node (frame_to node from body) outside in
    left_same node (taken_at node from body).state step.status step.sessions

-- ---- the kind of each step

-- an answer
answered_steps : (s s' : System) (number : ℕ) (f : Frame) (own : List ℕ) (k : ℕ) (before after : NodeState) (sent : List (ℕ × Frame))
    → GoesOnAs before.status after.status → after.sessions.opened ≡ before.sessions.opened → IsAnswered s s' number f own k sent
    → StepsSessions s s' number f before after sent
answered_steps s s' number f own k before after sent status same (inl hands) =
    record { kind = Hands own k; is = hands.0; last = tt; other = tt; status = status; opened = omega (arith, same) }
answered_steps s s' number f own k before after sent status same (inr (inl root)) =
    record { kind = ClosesTop own k; is = root.0; last = tt; other = tt; status = status; opened = omega (arith, same) }
answered_steps s s' number f own k before after sent status same (inr (inr child)) =
    record { kind = ClosesBelow own k child.0 child.1; is = child.2; last = tt; other = tt; status = status; opened = omega (arith, same) }

-- what is open at a place has one joiner
one_joiner : (s : System) (x : List ℕ) (k : ℕ) (one : OpenSession) {other : OpenSession} → IsOpen s x k one → IsOpen s x k other
    → one.joiner ≡ other.joiner
one_joiner s x k one {other = other} is there =
    let same : one ≡ other = cc in ap (λ (o : OpenSession). o.joiner) same

module _ (p : SettingsValue) (s : System) (number : ℕ) (node : NodeState) (from : List ℕ) where
  abbrev after : System
  after = after_delivery p s number

  -- the step of a frame with this body
  abbrev Steps : Body → Type 0
  Steps body =
      StepsSessions s after number (frame_to node from body) node (taken_at node from body).state (sent_at s node from body)

  -- a Tell, for which a session is opened, or which is answered at once
  tell_opens : (tell : TellFields) (watch : List Slot) → IsDelivery p s number node from (tell_body tell watch)
      → holds_sessions node.status → (taken_at node from (tell_body tell watch)).state.status ≡ node.status
      → OpensOrAnswers node (Node from tell.session) tell.depth (taken_at node from (tell_body tell watch))
      → Steps (tell_body tell watch)
  tell_opens tell watch is holds same (inl opens) =
      let body = tell_body tell watch in
      let here = due p s number node from body is in
      let now : (taken_at node from body).state.sessions.opened ≡ node.sessions.opened + 1 =
      ap (λ (o : SessionsValue). o.opened) opens.sessions in
      let made = opens_child s after number node from tell watch (before_taking p s is.invariant) (by_rule p s number node from body here)
      (remembers p s number node from body here) opens in
      record {
        kind = OpensBelow from tell.session (name_of node) (node.sessions.opened + 1);
        is = made;
        last = (refl, sym now, subst holds_sessions (sym same) holds, not_own node (frame_to node from body) is.known);
        other = λ o is_open own.
            let joiner = one_joiner after (name_of node) (node.sessions.opened + 1) o is_open made.child in
            let of = is.invariant.of_joiners.frames number (frame_to node from body) from tell.session made.before tell.joiner is.among refl
            made.parent_was refl in
            (told p s number node from tell watch is).apart (sym own ∙ joiner ∙ of);
        status = goes_on_same node.status (taken_at node from body).state.status same;
        opened = omega (arith, now);
      }
  tell_opens tell watch is holds same (inr answers) =
      let body = tell_body tell watch in
      let here = due p s number node from body is in
      let now : (taken_at node from body).state.sessions.opened ≡ node.sessions.opened =
      ap (λ (o : SessionsValue). o.opened) answers.sessions in
      record {
        kind = Hands from tell.session;
        is =
            hands_on s after number node from tell watch (before_taking p s is.invariant) (by_rule p s number node from body here)
            (remembers p s number node from body here) answers;
        last = tt;
        other = tt;
        status = goes_on_same node.status (taken_at node from body).state.status same;
        opened = omega (arith, now);
      }

  ceased_stays : (tell : TellFields) (watch : List Slot) → is_strange node (frame_to node from (tell_body tell watch)) ≡ false
      → node.status ≡ Ceased → (taken_at node from (tell_body tell watch)).state.status ≡ node.status
  unfolding frame_at_ceased
  ceased_stays tell watch known at =
      (frame_law node (frame_to node from (tell_body tell watch)) (takes_tell_ceased node from tell.session) known (rw at refl)).status

  tell_steps : (tell : TellFields) (watch : List Slot) → IsDelivery p s number node from (tell_body tell watch)
      → (node.status ≡ Core) ⊎ ((node.status ≡ Joining) ⊎ (node.status ≡ Ceased)) → Steps (tell_body tell watch)
  tell_steps tell watch is (inl at) =
      let ties = (due p s number node from (tell_body tell watch) is).is_node.ties in
      let step = tell_law node from tell watch ties (told_name p s number node from tell watch is) at is.known in
      tell_opens tell watch is (subst holds_sessions (sym at) tt) step.status
      (tell_in_session node from tell watch (inl at) is.known)
  tell_steps tell watch is (inr (inl at)) =
      let ties = (due p s number node from (tell_body tell watch) is).is_node.ties in
      let step = meet_law node from tell watch ties (told_name p s number node from tell watch is) at is.known in
      tell_opens tell watch is (subst holds_sessions (sym at) tt) step.status
      (tell_in_session node from tell watch (inr at) is.known)
  tell_steps tell watch is (inr (inr at)) =
      tell_opens tell watch is (subst holds_sessions (sym at) tt) (ceased_stays tell watch is.known at)
      (inr (ceased_answers node from tell watch at is.known))

  -- an answer
  answer_steps : (body : ℕ → Body) → AnswerLaw body → AnswerIsTaken body → (k : ℕ) → IsDelivery p s number node from (body k)
      → Steps (body k)
  answer_steps body law taken_so k is =
      let here = due p s number node from (body k) is in
      let taken = by_rule p s number node from (body k) here in
      let found = taken_so s after number node from k (before_taking p s is.invariant) is.invariant.counted taken
      (remembers p s number node from (body k) here) is.among in
      let step = law node from k taken.is_node.sessions found.0 is.known in
      answered_steps s after number (frame_to node from (body k)) (name_of node) k node (taken_at node from (body k)).state
      (sent_at s node from (body k)) (goes_on_same node.status (taken_at node from (body k)).state.status step.joins.status) step.opened
      found.1

  -- a Hello
  hello_steps : (hello : HelloFields) → IsDelivery p s number node from (hello_body hello) → node.status ≡ Joining
      → Steps (hello_body hello)
  hello_steps hello is at =
      let body = hello_body hello in
      let here = due p s number node from body is in
      let step = hello_law node from hello at is.known in
      let now : (taken_at node from body).state.sessions.opened ≡ node.sessions.opened =
      ap (λ (o : SessionsValue). o.opened) step.sessions in
      record {
        kind = Hands from hello.session;
        is =
            hello_hands_on s after number node from hello (before_taking p s is.invariant) (by_rule p s number node from body here)
            (remembers p s number node from body here) at;
        last = tt;
        other = tt;
        status = goes_on_same node.status (taken_at node from body).state.status step.joins.status;
        opened = omega (arith, now);
      }

  -- a frame of no session
  outside_steps : (body : Body) → IsDelivery p s number node from body → IsOutside node body → Steps body
  outside_steps body is outside =
      let here = due p s number node from body is in
      let left = outside_left node from body is.known outside in
      let same : (taken_at node from body).state.sessions.opened ≡ node.sessions.opened =
      ap (λ (o : SessionsValue). o.opened) left.sessions in
      record {
        kind = LeavesAll;
        is =
            outside_leaves s after number node from body (before_taking p s is.invariant) (by_rule p s number node from body here)
            (remembers p s number node from body here) outside;
        last = tt;
        other = tt;
        status = left.status;
        opened = omega (arith, same);
      }

  seated_status : (joiner : List ℕ) (acted : Acted) (prefix : ℕ) → SeeksAs node joiner acted (Surrogate prefix)
      → acted.state.status ≡ node.status
  seated_status joiner acted prefix step = step.status

  -- a Seek that goes on, or at the surrogate
  seek_steps : (joiner : List ℕ) → IsDelivery p s number node from (Seek joiner) → node.status ≡ Core → (found : Sought)
      → sought node.ties.table joiner ≡ found → Steps (Seek joiner)
  seek_steps joiner is at (Forward next) found = outside_steps (Seek joiner) is (next, found)
  seek_steps joiner is at (Surrogate prefix) found =
      let body = Seek joiner in
      let acted = taken_at node from body in
      let here = due p s number node from body is in
      let opens = seek_opens node from joiner prefix at is.known found in
      let seeker = is.invariant.seekers.seeks from (name_of node) joiner (way p s number node from body is) in
      let name = of_node p s number node from body is joiner (name_at p s is.nodes joiner seeker.state seeker.is) in
      let step = subst (SeeksAs node joiner acted) found (seek_law node from joiner here.is_node.ties name at is.known) in
      let same = seated_status joiner acted prefix step in
      let now : acted.state.sessions.opened ≡ node.sessions.opened + 1 = ap (λ (o : SessionsValue). o.opened) opens.sessions in
      let made = opens_root s after number node from joiner (before_taking p s is.invariant) (by_rule p s number node from body here)
      (remembers p s number node from body here) seeker opens in
      record {
        kind = OpensTop (name_of node) (node.sessions.opened + 1);
        is = made.0;
        last = (refl, sym now, subst holds_sessions (sym (same ∙ at)) tt);
        other = λ o is_open own.
            let root = one_joiner after (name_of node) (node.sessions.opened + 1) o is_open made.0.is in
            let core : IsCoreNode s (name_of node) = record { state = node; is = is.at; core = inl at } in
            seeker_not_core s joiner seeker (subst (IsCoreNode s) (sym own ∙ root ∙ made.1) core);
        status = goes_on_same node.status acted.state.status same;
        opened = omega (arith, now);
      }

pub frame_steps : FrameSteps
frame_steps p s number node from body is there = by_said body (said_of body) is there
  where
    by_said : (body : Body) → Said body → IsDelivery p s number node from body → IsTakenThere node body
        → StepsSessions s (after_delivery p s number) number (frame_to node from body) node (taken_at node from body).state (sent_at s node from body)
    by_said _ (IsTell tell watch) is there = tell_steps p s number node from tell watch is there
    by_said _ (IsHello hello) is there = hello_steps p s number node from hello is there
    by_said _ (IsHeard session) is there = answer_steps p s number node from Heard heard_law heard_is_taken session is
    by_said _ (IsAck session) is there = answer_steps p s number node from Ack ack_law ack_is_taken session is
    by_said _ (IsSeek joiner) is there = seek_steps p s number node from joiner is there (sought node.ties.table joiner) refl
    by_said body _ is there = outside_steps p s number node from body is there

-- ---- each answer once

module _ (s s' : System) (number : ℕ) (f : Frame) (sent : List (ℕ × Frame)) where
  kind_awaited : (kind : SessionStep) → IsOfKind kind s s' number f sent → Ascend s.next sent s'.next → AreExact s → AreNumbered s
      → AreAwaitedOnce s → AreAwaitedOnce s'
  kind_awaited (Hands w k) step new exact numbered once =
      awaited_handing_on_law s s' number f w k sent step new exact numbered once
  kind_awaited (OpensBelow w k x l) step new exact numbered once = awaited_opening_law s s' number f w k x l sent step new once
  kind_awaited (OpensTop x l) step new exact numbered once = awaited_root_law s s' number f x l sent step new once
  kind_awaited (ClosesBelow x k w m) step new exact numbered once =
      awaited_closing_law s s' number f x k w m sent step new exact numbered once
  kind_awaited (ClosesTop x k) step new exact numbered once = awaited_last_law s s' number f x k sent step once
  kind_awaited LeavesAll step new exact numbered once = awaited_others_law s s' step once

  -- the sessions turn, or none changes
  pub kind_turns : (kind : SessionStep) → IsOfKind kind s s' number f sent → AreExact s → Turns s s' sent ⊎ LeavesSessions s s'
  kind_turns (Hands w k) step exact = inl (handing_on_turns_law s s' number f w k sent step exact)
  kind_turns (OpensBelow w k x l) step exact = inl (opening_turns_law s s' number f w k x l sent step exact)
  kind_turns (OpensTop x l) step exact = inl (root_turns_law s s' number f x l sent step exact)
  kind_turns (ClosesBelow x k w m) step exact = inl (closing_turns_law s s' number f x k w m sent step exact)
  kind_turns (ClosesTop x k) step exact = inl (last_turns_law s s' number f x k sent step exact)
  kind_turns LeavesAll step exact = inr step

pub frame_awaits : FrameAwaits
frame_awaits p s number node from body is there =
    let s' = after_delivery p s number in
    let step = frame_steps p s number node from body is there in
    let taken = (by_rule p s number node from body (due p s number node from body is)).taken in
    kind_awaited s s' number (frame_to node from body) (sent_at s node from body) step.kind step.is
    (numbers_new_law s s' number (frame_to node from body) (taken_at node from body).sent taken) is.invariant.exact
    is.invariant.numbered is.invariant.awaited

-- ---- places

-- a session that was open isn't new
not_new : (s : System) (y w : List ℕ) (m k : ℕ) (o : OpenSession) → (y ≡ w) × (m ≡ k) → s.session w k ≡ Some o
    → s.session y m ≡ None → ⊥
not_new s y w m k o here was none =
    let there : s.session y m ≡ Some o = rw (here.0, here.1) was in
    let wrong : None ≡ Some o = sym none ∙ there in
    absurd (cc)

-- nor is one that is as before
not_changed : (s s' : System) (y : List ℕ) (m : ℕ) (o : OpenSession) → s'.session y m ≡ s.session y m → IsOpen s' y m o
    → s.session y m ≡ None → ⊥
not_changed s s' y m o same is none =
    let wrong : None ≡ Some o = sym none ∙ sym same ∙ is in
    absurd (cc)

module _ (s s' : System) (number : ℕ) (f : Frame) (before after : NodeState) (sent : List (ℕ × Frame))
    (at : ChangesAt s s' f.to before after) where
  -- a session that is opened below another
  placed_below : (w : List ℕ) (k : ℕ) (x : List ℕ) (l : ℕ) → (step : OpensChild s s' number f w k x l sent)
      → IsLastOpened (OpensBelow w k x l) f.to after → IsOfAnother (OpensBelow w k x l) s' f.to → (y : List ℕ) (m : ℕ)
      (o : OpenSession) → (y ≡ x) × (m ≡ l) → IsOpen s' y m o → HasPlace s' y m o
  placed_below w k x l step last other y m o here is =
      let own : y ≡ f.to = here.0 ∙ last.0 in
      let number_is : m ≡ after.sessions.opened = here.1 ∙ last.1 in
      let child : s'.session y m ≡ Some (child_of step.before w k (ways_of x l sent)) = rw (here.0, here.1) step.child in
      let same : o ≡ child_of step.before w k (ways_of x l sent) = cc in
      record {
        state = after;
        is = ap s'.node own ∙ at.is;
        holds = last.2;
        opened = omega (arith, number_is);
        other = λ mine. other o (rw (← here.0, ← here.1) is) (mine ∙ own);
        above = λ v n parent mine.
            let pair : ◌≡◌ {A = Option (List ℕ × ℕ)} (Some (w, k)) (Some (v, n)) =
            sym (ap (λ (c : OpenSession). c.parent) same) ∙ parent in
            last.3 ((one_place w v k n pair).0 ∙ mine ∙ own);
      }

  -- a root session
  placed_top : (x : List ℕ) (l : ℕ) → (step : OpensRoot s s' number f x l sent) → IsLastOpened (OpensTop x l) f.to after
      → IsOfAnother (OpensTop x l) s' f.to → (y : List ℕ) (m : ℕ) (o : OpenSession) → (y ≡ x) × (m ≡ l) → IsOpen s' y m o
      → HasPlace s' y m o
  placed_top x l step last other y m o here is =
      let own : y ≡ f.to = here.0 ∙ last.0 in
      let number_is : m ≡ after.sessions.opened = here.1 ∙ last.1 in
      let root : s'.session y m ≡ Some step.root = rw (here.0, here.1) step.is in
      let same : o ≡ step.root = cc in
      record {
        state = after;
        is = ap s'.node own ∙ at.is;
        holds = last.2;
        opened = omega (arith, number_is);
        other = λ mine. other o (rw (← here.0, ← here.1) is) (mine ∙ own);
        above = λ v n parent mine.
            let wrong : ◌≡◌ {A = Option (List ℕ × ℕ)} None (Some (v, n)) =
            sym step.top ∙ sym (ap (λ (c : OpenSession). c.parent) same) ∙ parent in
            absurd (cc);
      }

  new_places : (kind : SessionStep) → IsOfKind kind s s' number f sent → IsLastOpened kind f.to after → IsOfAnother kind s' f.to
      → (y : List ℕ) (m : ℕ) (o : OpenSession) → IsOpen s' y m o → s.session y m ≡ None → HasPlace s' y m o
  new_places (Hands w k) step last other y m o is none =
      elim (step.others y m) [
        | inl here ↦ absurd (not_new s y w m k step.before here step.was none)
        | inr same ↦ absurd (not_changed s s' y m o same is none)
      ]
  new_places (OpensBelow w k x l) step last other y m o is none =
      elim (step.others y m) [
        | inl here ↦ absurd (not_new s y w m k step.before here step.parent_was none)
        | inr (inl here) ↦ placed_below w k x l step last other y m o here is
        | inr (inr same) ↦ absurd (not_changed s s' y m o same is none)
      ]
  new_places (OpensTop x l) step last other y m o is none =
      elim (step.others y m) [
        | inl here ↦ placed_top x l step last other y m o here is
        | inr same ↦ absurd (not_changed s s' y m o same is none)
      ]
  new_places (ClosesBelow x k w n) step last other y m o is none =
      elim (step.others y m) [
        | inl here ↦ absurd (not_new s y x m k step.closes.session here step.closes.was none)
        | inr (inl here) ↦ absurd (not_new s y w m n step.before here step.parent_was none)
        | inr (inr same) ↦ absurd (not_changed s s' y m o same is none)
      ]
  new_places (ClosesTop x k) step last other y m o is none =
      elim (step.others y m) [
        | inl here ↦ absurd (not_new s y x m k step.closes.session here step.closes.was none)
        | inr same ↦ absurd (not_changed s s' y m o same is none)
      ]
  new_places LeavesAll step last other y m o is none = absurd (not_changed s s' y m o (step.sessions y m) is none)

  keeps_places : (step : StepsSessions s s' number f before after sent) → KeepsPlaces s s'
  keeps_places step = record {
    nodes = λ y k state is holds. elim (at.others y) [
      | inl here ↦
          let was : s.node y ≡ Some before = rw here at.was in
          let same : state ≡ before = cc in
          let mine : holds_sessions before.status = rw (← same) holds in
          let no_fewer : state.sessions.opened ≤ after.sessions.opened = rw same step.opened in
          (after, ap s'.node here ∙ at.is, step.status.holds mine, no_fewer)
      | inr other ↦ (state, other ∙ is, holds, omega arith)
    ];
    new = λ y m o is none. new_places step.kind step.is step.last step.other y m o is none;
  }

  -- if no session changes, each stays in its place
  left_places : LeavesSessions s s' → KeepsPlaces s s' → HavePlaces s → HavePlaces s'
  left_places leaves keeps have = record {
    places = λ y m o is.
        let place = have.places y m o (sym (leaves.sessions y m) ∙ is) in
        let now = keeps.nodes y m place.state place.is place.holds in
        let one = place.opened in
        let two = now.3 in
        record { state = now.0; is = now.1; holds = now.2; opened = omega arith; other = place.other; above = place.above };
  }

  steps_places : (step : StepsSessions s s' number f before after sent) → AreExact s → HavePlaces s → HavePlaces s'
  steps_places step exact have =
      elim (kind_turns s s' number f sent step.kind step.is exact) [
        | inl turns ↦ places_law s s' sent turns (keeps_places step) have
        | inr leaves ↦ left_places leaves (keeps_places step) have
      ]

pub frame_places : FramePlaces
frame_places p s number node from body is there =
    let taken = by_rule p s number node from body (due p s number node from body is) in
    steps_places s (after_delivery p s number) number (frame_to node from body) node (taken_at node from body).state
    (sent_at s node from body) taken.at (frame_steps p s number node from body is there) is.invariant.exact is.invariant.places

-- ---- a core node

core_stays : (s s' : System) (x : List ℕ) (before after : NodeState) → ChangesAt s s' x before after
    → GoesOnAs before.status after.status → IsCoreNode s x → IsCoreNode s' x
core_stays s s' x before after at goes core =
    let was = core.is in
    let here = at.was in
    let same : core.state ≡ before = cc in
    record { state = after; is = at.is; core = goes.core (subst (λ (n : NodeState). (n.status ≡ Core) ⊎ (n.status ≡ Leaving)) same core.core) }

pub frame_core : FrameCore
frame_core p s number node from body is there =
    let s' = after_delivery p s number in
    let here = due p s number node from body is in
    let frame = frame_to node from body in
    let acted = taken_at node from body in
    let step = delivers p s number frame node (is_found p s number node from body here) is.at in
    let goes = (frame_steps p s number node from body is there).status in
    core_kept s s' (name_of node) acted.state acted.sent step.done
    (inl (core_stays s s' (name_of node) node acted.state step.at goes)) is.invariant.has_core

-- ---- frames of no session

pub left_deeper : (s s' : System) → LeavesSessions s s' → TellsAreDeeper s → TellsAreDeeper s'
left_deeper s s' leaves deeper = record {
  depth = λ from to fields watch session way is.
      deeper.depth from to fields watch session (was from to fields watch way) (sym (leaves.sessions from fields.session) ∙ is);
  level = λ from to fields watch way. deeper.level from to fields watch (was from to fields watch way);
}
  where
    was : (from to : List ℕ) (fields : TellFields) (watch : List Slot) → IsUnderWay s' from to (tell_body fields watch)
        → IsUnderWay s from to (tell_body fields watch)
    was from to fields watch way = record {
      number = way.number;
      among =
          leaves.was way.number (record { from = from; to = to; body = tell_body fields watch }) from fields.session way.among refl;
    }

pub outside_books : OutsideBooks
outside_books p s number node from body is outside =
    let s' = after_delivery p s number in
    let taken = by_rule p s number node from body (due p s number node from body is) in
    let left = outside_left node from body is.known outside in
    let leaves = outside_leaves s s' number node from body (before_taking p s is.invariant) taken
    (remembers p s number node from body (due p s number node from body is)) outside in
    record {
      await = await_others_law s s' leaves is.invariant.await;
      counted =
          counted_others s s' (name_of node) node (taken_at node from body).state leaves taken.at
          (λ n. ap (λ (sessions : SessionsValue). session_of sessions.sessions n) left.sessions) is.invariant.counted;
      deeper = left_deeper s s' leaves is.invariant.deeper;
    }

-- ---- names

pub frame_names : FrameNames
frame_names p s number frame node inv nodes among at =
    let s' = after_delivery p s number in
    let acted = act node (Takes frame) in
    let step = delivers p s number frame node (found number frame 0 s.frames s.next inv.numbered.numbers among) at in
    let here : HasNode s frame.to = record { state = node; is = at } in
    record {
      names = names_kept p s s' frame.to acted.state acted.sent step.done (inv.names.each frame.to here) inv.names;
      few = few_kept s s' frame.to acted.state acted.sent most_names step.done here inv.few;
      spelled = (parts_kept p s number frame node nodes inv.spelled inv.numbered among at).1;
      numbered = numbers_taken s s' number frame acted.sent step.taken inv.numbered;
    }

-- a node that starts something, and one that starts to join
started_names : (p : SettingsValue) (s : System) (x : List ℕ) (start : Start) (node : NodeState) → starter p s x start ≡ Some node
    → s.node x ≡ Some node → Basis p s → AreNodes p s → may_start p s x start → IsNamedStart p start
    → AreNamed p (after_start p s x start)
started_names p s x start node is at inv nodes may named =
    let s' = after_start p s x start in
    let acted = act node (Starts start) in
    let step = starts p s x start node is in
    let here : HasNode s x = record { state = node; is = at } in
    record {
      names = names_kept p s s' x acted.state acted.sent step.done (inv.names.each x here) inv.names;
      few = few_kept s s' x acted.state acted.sent most_names step.done here inv.few;
      spelled = (start_keeps_parts p s x start nodes inv.spelled may named).1;
      numbered = numbers_sent s s' acted.sent step.sent inv.numbered;
    }

pub start_names : StartNames
start_names p s x (Join via) inv nodes may named =
    let s' = after_start p s x (Join via) in
    let acted = act (joiner p x) (Starts (Join via)) in
    let step = starts p s x (Join via) (joiner p x) refl in
    record {
      names = names_kept p s s' x acted.state acted.sent step.done may.name inv.names;
      few = few_join s s' x acted.state acted.sent 255 step.done may.room;
      spelled = (start_keeps_parts p s x (Join via) nodes inv.spelled may named).1;
      numbered = numbers_sent s s' acted.sent step.sent inv.numbered;
    }
start_names p s x Abandon inv nodes may named = started_names p s x Abandon may.state may.is may.is inv nodes may named
start_names p s x Leave inv nodes may named = started_names p s x Leave may.acts.state may.acts.is may.acts.is inv nodes may named
start_names p s x (Publish object) inv nodes may named =
    started_names p s x (Publish object) may.acts.state may.acts.is may.acts.is inv nodes may named
start_names p s x (Withdraw object) inv nodes may named =
    started_names p s x (Withdraw object) may.acts.state may.acts.is may.acts.is inv nodes may named
start_names p s x (Find ticket object) inv nodes may named =
    started_names p s x (Find ticket object) may.acts.state may.acts.is may.acts.is inv nodes may named
start_names p s x (Cast cast level word) inv nodes may named =
    started_names p s x (Cast cast level word) may.acts.state may.acts.is may.acts.is inv nodes may named
