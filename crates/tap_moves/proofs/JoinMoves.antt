-- Whose the sessions of joins are, and the one end of each join, after each frame that a rule takes, and after a start.
-- Cited above: frame_joins
use Rattle.std.proofs.Common.{◌≡◌, ◌⊎◌, ℕ, ◌+◌, Bool, true, false, List, [], ◌∷◌, length, if◌then◌else◌, Option, None, Some, arith, ap, refl, sym, subst, ◌∙◌, inl, inr}
use Rattle.tap_name.specs.Settings.{SettingsValue}
use Rattle.tap_name.specs.declared.slot.Slot.{Slot}
use Rattle.tap_session.specs.declared.parent.Parent.TheVariants.{Node, Root}
use Rattle.tap_session.specs.Session.{Session, SessionsValue}
use Rattle.tap_table.specs.ByName.{targets_by_name}
use Rattle.tap_table.specs.Ties.{holders_on, off_ties}
use Rattle.tap_table.specs.declared.tie.Tie.{Tie}
use Rattle.tap_join.specs.Seek.{sought}
use Rattle.tap_join.specs.declared.sought.Sought.{Sought}
use Rattle.tap_join.specs.declared.sought.Sought.TheVariants.{Forward, Surrogate}
use Rattle.tap_wire.specs.declared.frame.Body.{Body}
use Rattle.tap_wire.specs.declared.frame.Body.TheVariants.{Ack, Done, Forget, Heard, Link, Release, Seek}
use Rattle.tap_wire.specs.declared.frame.Frame.{Frame}
use Rattle.tap_wire.specs.declared.frame.TellFields.{TellFields}
use Rattle.tap_rule.specs.Ceasing.{takes_tell_ceased}
use Rattle.tap_rule.specs.Event.{Acted}
use Rattle.tap_rule.specs.FrameRules.{frame_at_ceased, frame_at_core, frame_at_joining, frame_at_leaving, rule_of_frame}
use Rattle.tap_rule.specs.JoinSteps.{SeeksAs}
use Rattle.tap_rule.specs.RuleLaws.{AnswerLaw, frame_to}
use Rattle.tap_rule.specs.Node.{NodeState, Status, join_session_at, joiner, name_of}
use Rattle.tap_rule.specs.Node.Status.{Ceased, Core, Gone, Joining, Leaving}
use Rattle.tap_rule.specs.QuietSteps.{IsQuiet}
use Rattle.tap_rule.specs.Links.{is_new_link}
use Rattle.tap_rule.specs.Reaction.{Message, Reaction, message, to_each}
use Rattle.tap_rule.specs.Sent.{AreSent, IsAmong}
use Rattle.tap_rule.specs.Strange.{is_strange}
use Rattle.tap_rule.proofs.Among.{among-map_from}
use Rattle.tap_rule.proofs.AnswerSteps.{ack_law, heard_law}
use Rattle.tap_rule.proofs.CarriedOut.{frame_law, unruled_law}
use Rattle.tap_rule.proofs.CoverSteps.{seek_law, tell_law}
use Rattle.tap_rule.proofs.JoinSteps.{done_law, hello_law, meet_law}
use Rattle.tap_rule.proofs.EndSteps.{cease_law}
use Rattle.tap_rule.proofs.QuietSteps.{quiet_law}
use Rattle.tap_safety.specs.Counted.{kept_parent, parent_at}
use Rattle.tap_safety.specs.Frames.{HelloFields, hello_body, tell_body}
use Rattle.tap_safety.specs.Joins.{AreAbout, AreOfJoiners, EndsOnce, JoinerIsNew, JoinersStay, NoDoneAmong, about}
use Rattle.tap_safety.specs.Moved.{moved, taking}
use Rattle.tap_safety.specs.Remembered.{OpenSession}
use Rattle.tap_safety.specs.Seeking.{IsSeeker}
use Rattle.tap_safety.specs.Sessions.{AreExact, Belongs, IsOpen}
use Rattle.tap_safety.specs.SessionSteps.{Exchanges, HandsOn, LeavesSessions}
use Rattle.tap_safety.specs.Exchanges.{ChangesAt, IsSent, numbered_from, with_at}
use Rattle.tap_safety.specs.StepLaws.{KeepsJoins}
use Rattle.tap_safety.specs.System.{System, AmongFrames, IsJoiner}
use Rattle.tap_safety.specs.Turned.{opened_by, surrogates_with}
use Rattle.tap_safety.proofs.JoinSteps.{done_was}
use Rattle.tap_safety.proofs.JoinsKept.{one_session}
use Rattle.tap_safety.proofs.Moved.{with_at-here, with_at-others}
use Rattle.tap_safety.proofs.SoftKept.{sent_each}
use Rattle.tap_safety.proofs.StepLaws.{joins_closing_law, joins_handing_on_law, joins_last_law, joins_opening_law, joins_root_law}
use Rattle.tap_safety.proofs.TellKeeps.{joiner_after, joiner_before}
use Rattle.tap_safety.proofs.Said.{Said, said_of}
use Rattle.tap_safety.proofs.Said.Said.{IsAck, IsDone, IsForget, IsHeard, IsHello, IsLink, IsRelease, IsSeek, IsTell}
use Rattle.tap_moves.specs.ByRule.{StartsNone, taken_at}
use Rattle.tap_moves.specs.Delivered.{IsArriving, after_delivery}
use Rattle.tap_moves.specs.InSession.{OpensNext, OpensOrAnswers}
use Rattle.tap_moves.specs.InvariantLaws.{IsDelivery, IsTakenThere}
use Rattle.tap_moves.specs.SessionsLaws.{IsOutside, sent_at}
use Rattle.tap_moves.proofs.AnswersMade.{AnswerIsTaken, IsAnswered, ack_is_taken, heard_is_taken}
use Rattle.tap_moves.proofs.Exchanged.{exchanges, sent_numbered}
use Rattle.tap_moves.proofs.InSession.{ceased_answers, seek_opens, tell_in_session}
use Rattle.tap_moves.proofs.InvariantMoves.{before_taking, due, name_at, of_node, told_name, way}
use Rattle.tap_moves.proofs.MovesMade.{by_rule, is_found, remembers, starts_none_as, tell_starts_none}
use Rattle.tap_moves.proofs.OutsideMade.{hello_hands_on, outside_leaves}
use Rattle.tap_moves.proofs.SessionsMade.{hands_on, opened_found, opens_child, opens_root}
use Rattle.tap_moves.specs.JoinMoves.{DonesStay, FrameJoins, HaveJoiners, JoinerEnds}
use Rattle.tap_moves.proofs.LeavesJoins.{joins_done_law, joins_others_law}
use Rattle.tap_moves.proofs.SentFor.{SendsFor, about_is, answer_for_none, answer_for_parent, done_of_nobody, hello_for_own, none_done, seek_for_joiner, sends_done, tell_for_joiner}

-- ---- joiners

-- the joiners stay if the node that changes keeps its status, and nobody is started
pub joiners_stay : (s s' : System) (x : List ℕ) (before after : NodeState) → ChangesAt s s' x before after
    → after.status ≡ before.status → StartsNone s s' → JoinersStay s s'
joiners_stay s s' x before after at status none = record {
  on = λ b joiner. joiner_after s s' x before after at status b (none b) joiner;
  was = λ b joiner. joiner_before s s' x before after at status b (none b) joiner;
  surrogates = λ b joiner. none b;
}

-- what is kept of both
have_joiners : (s s' : System) → AreOfJoiners s → EndsOnce s → KeepsJoins s s' → HaveJoiners s'
have_joiners s s' of once keeps = record { of_joiners = keeps.0 of; ends_once = keeps.1 once }

-- what is sent in one session is about its joiner
about_one : (s s' : System) (sent : List Frame) (b w : List ℕ) (k : ℕ) (session : OpenSession) → SendsFor b sent
    → IsOpen s' w k session → session.joiner ≡ b
    → ((m : ℕ) (g : Frame) (y : List ℕ) (n : ℕ) → AmongFrames m g (numbered_from s.next sent) → Belongs g y n → (y ≡ w) × (n ≡ k))
    → AreAbout s' (numbered_from s.next sent)
about_one s s' sent b w k session sends is joiner asks m f y n o c among belongs held of =
    let place = asks m f y n among belongs in
    let there : IsOpen s' y n session = rw (place.0, place.1) is in
    let same = one_session s' y n o session held there in
    let for_b = sends f.from f.to f.body (sent_numbered m f s.next sent among) in
    let mine = about_is b f.from f.to (said_of f.body) c for_b of in
    ap (λ (a : OpenSession). a.joiner) same ∙ joiner ∙ sym mine

-- ---- a session that awaits an answer in place of the frame

module _ (s s' : System) (number : ℕ) (f : Frame) (w : List ℕ) (k : ℕ) (sent : List Frame) (b : List ℕ)
    (step : HandsOn s s' number f w k (numbered_from s.next sent)) (exact : AreExact s) (stay : JoinersStay s s')
    (sends : SendsFor b sent) where
  -- if what is sent is about the joiner of the session
  handed_on : step.before.joiner ≡ b → KeepsJoins s s'
  handed_on joiner =
      joins_handing_on_law s s' number f w k (numbered_from s.next sent) step exact stay (none_done b s.next sent sends)
      (about_one s s' sent b w k _ sends step.is joiner step.asks)

module _ (p : SettingsValue) (s : System) (number : ℕ) (node : NodeState) (from : List ℕ) where
  abbrev after : System
  after = after_delivery p s number

  abbrev own : List ℕ
  own = name_of node

  -- the joiners stay
  stay_by : (body : Body) → IsDelivery p s number node from body → (taken_at node from body).state.status ≡ node.status
      → StartsNone s after → JoinersStay s after
  stay_by body is status none =
      joiners_stay s after own node (taken_at node from body).state
      (by_rule p s number node from body (due p s number node from body is)).at status none

  -- ---- a Tell

  -- the session of a Tell is of its joiner
  tell_of_joiner : (tell : TellFields) (watch : List Slot) → IsDelivery p s number node from (tell_body tell watch)
      → (session : OpenSession) → IsOpen s from tell.session session → session.joiner ≡ tell.joiner
  tell_of_joiner tell watch is session was =
      is.invariant.of_joiners.frames number (frame_to node from (tell_body tell watch)) from tell.session session tell.joiner is.among
      refl was refl

  tell_joins : (tell : TellFields) (watch : List Slot) → (is : IsDelivery p s number node from (tell_body tell watch))
      → (node.status ≡ Core) ⊎ ((node.status ≡ Joining) ⊎ (node.status ≡ Ceased))
      → (taken_at node from (tell_body tell watch)).state.status ≡ node.status
      → OpensOrAnswers node (Node from tell.session) tell.depth (taken_at node from (tell_body tell watch)) → KeepsJoins s after
  tell_joins tell watch is there status (inl opens) =
      let body = tell_body tell watch in
      let acted = taken_at node from body in
      let here = due p s number node from body is in
      let l = node.sessions.opened + 1 in
      let step = opens_child s after number node from tell watch (before_taking p s is.invariant) (by_rule p s number node from body here)
      (remembers p s number node from body here) opens in
      let sends = tell_for_joiner node from tell watch is.known there in
      joins_opening_law s after number (frame_to node from body) from tell.session own l (sent_at s node from body) step
      is.invariant.exact (stay_by body is status (tell_starts_none p s number node from tell watch here (inl opens)))
      (none_done tell.joiner s.next acted.sent sends)
      (about_one s after acted.sent tell.joiner own l _ sends step.child (tell_of_joiner tell watch is step.before step.parent_was)
      step.asks)
  tell_joins tell watch is there status (inr answers) =
      let body = tell_body tell watch in
      let acted = taken_at node from body in
      let here = due p s number node from body is in
      let step = hands_on s after number node from tell watch (before_taking p s is.invariant) (by_rule p s number node from body here)
      (remembers p s number node from body here) answers in
      handed_on s after number (frame_to node from body) from tell.session acted.sent tell.joiner step is.invariant.exact
      (stay_by body is status (tell_starts_none p s number node from tell watch here (inr answers)))
      (tell_for_joiner node from tell watch is.known there) (tell_of_joiner tell watch is step.before step.was)

  ceased_status : (tell : TellFields) (watch : List Slot) → is_strange node (frame_to node from (tell_body tell watch)) ≡ false
      → node.status ≡ Ceased → (taken_at node from (tell_body tell watch)).state.status ≡ node.status
  unfolding frame_at_ceased
  ceased_status tell watch known at =
      (frame_law node (frame_to node from (tell_body tell watch)) (takes_tell_ceased node from tell.session) known (rw at refl)).status

  tell_keeps : (tell : TellFields) (watch : List Slot) → IsDelivery p s number node from (tell_body tell watch)
      → (node.status ≡ Core) ⊎ ((node.status ≡ Joining) ⊎ (node.status ≡ Ceased)) → KeepsJoins s after
  tell_keeps tell watch is (inl at) =
      let here = due p s number node from (tell_body tell watch) is in
      let step = tell_law node from tell watch here.is_node.ties (told_name p s number node from tell watch is) at is.known in
      tell_joins tell watch is (inl at) step.status (tell_in_session node from tell watch (inl at) is.known)
  tell_keeps tell watch is (inr (inl at)) =
      let here = due p s number node from (tell_body tell watch) is in
      let step = meet_law node from tell watch here.is_node.ties (told_name p s number node from tell watch is) at is.known in
      tell_joins tell watch is (inr (inl at)) step.status (tell_in_session node from tell watch (inr at) is.known)
  tell_keeps tell watch is (inr (inr at)) =
      tell_joins tell watch is (inr (inr at)) (ceased_status tell watch is.known at)
      (inr (ceased_answers node from tell watch at is.known))

  -- ---- a Hello

  hello_keeps : (hello : HelloFields) → IsDelivery p s number node from (hello_body hello) → node.status ≡ Joining → KeepsJoins s after
  hello_keeps hello is at =
      let body = hello_body hello in
      let acted = taken_at node from body in
      let here = due p s number node from body is in
      let rule = hello_law node from hello at is.known in
      let step = hello_hands_on s after number node from hello (before_taking p s is.invariant) (by_rule p s number node from body here)
      (remembers p s number node from body here) at in
      handed_on s after number (frame_to node from body) from hello.session acted.sent own step is.invariant.exact
      (stay_by body is rule.joins.status
      (starts_none_as p s number node from body here (ap (λ (o : SessionsValue). o.opened) rule.sessions)))
      (hello_for_own node from hello at is.known)
      (is.invariant.of_joiners.frames number (frame_to node from body) from hello.session step.before own is.among refl step.was refl)

  -- ---- an answer

  -- what is sent is about nobody
  nobody_about : (sent : List Frame) → ((w to : List ℕ) (body : Body) → IsSent sent w to body → (c : List ℕ)
      → about (record { from = w; to = to; body = body }) ≡ Some c → ⊥) → AreAbout after (numbered_from s.next sent)
  nobody_about sent nobody m f x k session c among belongs held of =
      absurd (nobody f.from f.to f.body (sent_numbered m f s.next sent among) c of)

  module _ (body : ℕ → Body) (law : AnswerLaw body) (taken_so : AnswerIsTaken body) (k : ℕ)
      (is : IsDelivery p s number node from (body k)) where
    abbrev acted : Acted
    acted = taken_at node from (body k)

    -- the session of the node is counted as it is remembered
    counted_as : (session : OpenSession) → IsOpen s own k session → (a : Session) × (join_session_at node k ≡ Some a)
        × (a.waiting ≡ length session.awaits) × (a.parent ≡ kept_parent session)
    counted_as session held =
        let kept = is.invariant.counted.kept own k session node held is.at in (kept.0, kept.1, kept.2.waiting, kept.2.parent)

    answer_by : (status : (node.status ≡ Joining) ⊎ ((node.status ≡ Core) ⊎ (node.status ≡ Ceased)))
        → IsAnswered s after number (frame_to node from (body k)) own k (sent_at s node from (body k)) → KeepsJoins s after
    answer_by status answered =
        let here = due p s number node from (body k) is in
        let step = law node from k here.is_node.sessions status is.known in
        let stay = stay_by (body k) is step.joins.status (starts_none_as p s number node from (body k) here step.opened) in
        elim answered [
          | inl hands ↦
              let kept = counted_as hands.0.before hands.0.was in
              let more = hands.1 in
              let waits = kept.2 in
              handed_on s after number (frame_to node from (body k)) own k acted.sent hands.0.before.joiner hands.0 is.invariant.exact stay
              (answer_for_none hands.0.before.joiner node k kept.0 acted step kept.1 (omega (arith, more, waits))) refl
          | inr (inl root) ↦
              let kept = counted_as root.0.closes.session root.0.closes.was in
              let one = kept.2 ∙ root.1 in
              let parent = kept.3 ∙ ap (parent_at root.0.closes.session.joiner) root.0.top in
              joins_last_law s after number (frame_to node from (body k)) own k (sent_at s node from (body k)) root.0
              is.invariant.exact stay
              (sends_done node.status node root.0.closes.session.joiner acted s.next
              (step.is_done kept.0 root.0.closes.session.joiner kept.1 one parent))
              (nobody_about acted.sent (done_of_nobody node k kept.0 root.0.closes.session.joiner acted step kept.1 one parent))
          | inr (inr child) ↦
              let closes = child.2.closes in
              let kept = counted_as closes.session closes.was in
              let one = kept.2 ∙ child.3 in
              let parent = kept.3 ∙ ap (parent_at closes.session.joiner) child.2.above in
              let sends = answer_for_parent child.2.before.joiner node k kept.0 child.0 child.1 acted step kept.1 one parent in
              joins_closing_law s after number (frame_to node from (body k)) own k child.0 child.1 (sent_at s node from (body k)) child.2
              is.invariant.exact stay (none_done child.2.before.joiner s.next acted.sent sends)
              (about_one s after acted.sent child.2.before.joiner child.0 child.1 _ sends child.2.parent_is refl child.2.asks)
        ]

    answer_keeps : KeepsJoins s after
    answer_keeps =
        let here = due p s number node from (body k) is in
        let found = taken_so s after number node from k (before_taking p s is.invariant) is.invariant.counted
        (by_rule p s number node from (body k) here) (remembers p s number node from (body k) here) is.among in
        answer_by found.0 found.1

  -- ---- a Seek at the surrogate

  -- who seeks isn't started
  unstarted : (b : List ℕ) → IsSeeker s b → IsJoiner s b → ⊥
  unstarted b seeker joined =
      let waits = seeker.waits in
      let started = joined.started in
      let wrong : None ≡ Some joined.surrogate = cc in
      cc

  module _ (b : List ℕ) (prefix : ℕ) (is : IsDelivery p s number node from (Seek b)) (at : node.status ≡ Core)
      (found : sought node.ties.table b ≡ Surrogate prefix) (status : (taken_at node from (Seek b)).state.status ≡ node.status) where
    seeker : IsSeeker s b
    seeker = is.invariant.seekers.seeks from own b (way p s number node from (Seek b) is)

    opens : OpensNext node (Root b) 0 (taken_at node from (Seek b))
    opens = seek_opens node from b prefix at is.known found

    here : IsArriving s number node from (Seek b)
    here = due p s number node from (Seek b) is

    changes : ChangesAt s after own node (taken_at node from (Seek b)).state
    changes = (by_rule p s number node from (Seek b) here).at

    surrogates_after : (d : List ℕ) → after.surrogate d
        ≡ surrogates_with s.surrogate own (opened_by (taking s number (frame_to node from (Seek b)) node (taken_at node from (Seek b)))) d
    unfolding moved
    surrogates_after d = rw (is_found p s number node from (Seek b) here, is.at) refl

    surrogates_are : (d : List ℕ) → after.surrogate d ≡ with_at s.surrogate b (Some own) d
    surrogates_are d =
        surrogates_after d
        ∙ ap (λ (o : Option Session). surrogates_with s.surrogate own o d)
        (opened_found node.sessions (taken_at node from (Seek b)).state.sessions (Root b) 0 opens.waiting here.is_node.sessions
        opens.sessions)

    seated : after.surrogate b ≡ Some own
    seated = surrogates_are b ∙ with_at-here s.surrogate b (Some own)

    others : (d : List ℕ) → (d ≡ b) ⊎ (after.surrogate d ≡ s.surrogate d)
    others d = elim (with_at-others s.surrogate b (Some own) d) [
      | inl same ↦ inl same
      | inr stays ↦ inr (surrogates_are d ∙ stays)
    ]

    -- a seeker isn't the surrogate, which is core
    b_elsewhere : after.node b ≡ s.node b
    b_elsewhere = elim (changes.others b) [
      | inr same ↦ same
      | inl mine ↦
          let seeks = seeker.is in
          let there : s.node b ≡ Some node = ap s.node mine ∙ is.at in
          let same : seeker.state ≡ node = cc in
          let wrong : Joining ≡ Core = sym seeker.joining ∙ ap (λ (n : NodeState). n.status) same ∙ at in
          absurd (cc)
    ]

    joins_now : IsJoiner after b
    joins_now =
        record { state = seeker.state; is = b_elsewhere ∙ seeker.is; joining = seeker.joining; surrogate = own; started = seated }

    joiner_is_new : JoinerIsNew s after own b
    joiner_is_new = record {
      on = λ d joined. elim (others d) [
        | inl same ↦ subst (IsJoiner after) (sym same) joins_now
        | inr stays ↦ joiner_after s after own node (taken_at node from (Seek b)).state changes status d stays joined
      ];
      was = λ d joined. elim (others d) [
        | inl same ↦ inr same
        | inr stays ↦ inl (joiner_before s after own node (taken_at node from (Seek b)).state changes status d stays joined)
      ];
      surrogates = λ d joined. elim (others d) [
        | inl same ↦ absurd (unstarted b seeker (subst (IsJoiner s) same joined))
        | inr stays ↦ stays
      ];
      new = joins_now;
      fresh = unstarted b seeker;
      seated = seated;
    }

    seat_joins : HaveJoiners after
    seat_joins =
        let body = Seek b in
        let acted = taken_at node from body in
        let l = node.sessions.opened + 1 in
        let made = opens_root s after number node from b (before_taking p s is.invariant) (by_rule p s number node from body here)
        (remembers p s number node from body here) seeker opens in
        let step = made.0 in
        let sends = seek_for_joiner node from b prefix at is.known found in
        let law = joins_root_law s after number (frame_to node from body) own l (sent_at s node from body) step is.invariant.exact
        (subst (JoinerIsNew s after own) (sym made.1) joiner_is_new) (none_done b s.next acted.sent sends)
        (λ done. let wrong : Seek b ≡ Done = done in cc)
        (about_one s after acted.sent b own l step.root sends step.is made.1 step.asks) is.invariant.of_joiners in
        record { of_joiners = law.0; ends_once = law.1 is.invariant.ends_once }

-- ---- a frame of no session

-- a body that is no Done
abbrev pub IsNoDone : Body → Type 0
IsNoDone Done = ⊥
IsNoDone other = Unit {0}

-- the node keeps its status, its covers and whom it has greeted, opens no session, and sends no Done
pub record IsUnended (node : NodeState) (acted : Acted) : Type 0 where
  pub status : acted.state.status ≡ node.status
  pub opened : acted.state.sessions.opened ≡ node.sessions.opened
  pub covers : acted.state.covers ≡ node.covers
  pub greeted : acted.state.greeted ≡ node.greeted
  pub sent : (from to : List ℕ) (body : Body) → IsSent acted.sent from to body → IsNoDone body

-- so it is by a rule, if there is one
abbrev IsUnendedBy : NodeState → Option Reaction → Type 0
IsUnendedBy node None = Unit {0}
IsUnendedBy node (Some r) = (r.state.status ≡ node.status) × (r.state.sessions.opened ≡ node.sessions.opened)
    × (r.state.covers ≡ node.covers) × (r.state.greeted ≡ node.greeted) × ((m : Message) → IsAmong m r.messages → IsNoDone m.body)

pub no_done_sent : (own : List ℕ) (words : List Tie) (messages : List Message) (sent : List Frame) → AreSent own words messages sent
    → ((m : Message) → IsAmong m messages → IsNoDone m.body) → (from to : List ℕ) (body : Body) → IsSent sent from to body
    → IsNoDone body
no_done_sent own words messages sent are each =
    sent_each own words messages sent are (λ from to body. IsNoDone body) (λ to version on. tt)
    (λ to object server level version on. tt) each

unended_by : (node : NodeState) (from : List ℕ) (body : Body) → is_strange node (frame_to node from body) ≡ false
    → IsUnendedBy node (rule_of_frame node.status node from body) → IsUnended node (taken_at node from body)
unended_by node from body known by = step (rule_of_frame node.status node from body) refl by
  where
    step : (rule : Option Reaction) → rule_of_frame node.status node from body ≡ rule → IsUnendedBy node rule
        → IsUnended node (taken_at node from body)
    step None is by =
        let ignored = unruled_law node (frame_to node from body) is in
        record {
          status = ap (λ (n : NodeState). n.status) ignored.state;
          opened = ap (λ (n : NodeState). n.sessions.opened) ignored.state;
          covers = ap (λ (n : NodeState). n.covers) ignored.state;
          greeted = ap (λ (n : NodeState). n.greeted) ignored.state;
          sent = λ w to body among.
              let nothing : IsSent [] w to body = subst (λ sent. IsSent sent w to body) ignored.sent among in
              absurd nothing;
        }
    step (Some r) is by =
        let carried = frame_law node (frame_to node from body) r known is in
        record {
          status = carried.status ∙ by.0;
          opened = ap (λ (o : SessionsValue). o.opened) carried.sessions ∙ by.1;
          covers = carried.covers ∙ by.2;
          greeted = carried.greeted ∙ by.3;
          sent = no_done_sent (name_of node) r.words r.messages (taken_at node from body).sent carried.sent by.4;
        }

pub one_no_done : (to : List ℕ) (body : Body) → IsNoDone body → (m : Message) → IsAmong m (message to body ∷ []) → IsNoDone m.body
one_no_done to body none m (inl same) = subst (λ (n : Message). IsNoDone n.body) (sym same) none
one_no_done to body none m (inr never) = absurd never

if_no_done : (to : List ℕ) (body : Body) (test : Bool) → IsNoDone body → (m : Message)
    → IsAmong m (if test then message to body ∷ [] else []) → IsNoDone m.body
if_no_done to body true none m among = one_no_done to body none m among
if_no_done to body false none m among = absurd among

release_unended : (status : Status) (node : NodeState) (from : List ℕ) → IsUnendedBy node (rule_of_frame status node from Release)
unfolding frame_at_joining frame_at_core frame_at_leaving frame_at_ceased
release_unended Joining node from = (refl, refl, refl, refl, λ m among. absurd among)
release_unended Core node from = (refl, refl, refl, refl, λ m among. absurd among)
release_unended Leaving node from = tt
release_unended Gone node from = tt
release_unended Ceased node from = tt

forget_unended : (status : Status) (node : NodeState) (from : List ℕ) → IsUnendedBy node (rule_of_frame status node from Forget)
unfolding frame_at_joining frame_at_core frame_at_leaving frame_at_ceased
forget_unended Joining node from = (refl, refl, refl, refl, λ m among. absurd among)
forget_unended Core node from = (refl, refl, refl, refl, λ m among. absurd among)
forget_unended Leaving node from = tt
forget_unended Gone node from = tt
forget_unended Ceased node from = tt

link_unended : (status : Status) (node : NodeState) (from : List ℕ) (version : ℕ) (on : Bool)
    → IsUnendedBy node (rule_of_frame status node from (Link version on))
unfolding frame_at_joining frame_at_core frame_at_leaving frame_at_ceased
link_unended Joining node from version on = (refl, refl, refl, refl, λ m among. absurd among)
link_unended Core node from version on = (refl, refl, refl, refl, if_no_done from Release (is_new_link node from version on) tt)
link_unended Leaving node from version on = (refl, refl, refl, refl, if_no_done from Release (is_new_link node from version on) tt)
link_unended Gone node from version on = tt
link_unended Ceased node from version on = (refl, refl, refl, refl, if_no_done from Forget on tt)

seek_unended : (status : Status) (node : NodeState) (from b next : List ℕ) → sought node.ties.table b ≡ Forward next
    → IsUnendedBy node (rule_of_frame status node from (Seek b))
unfolding frame_at_joining frame_at_core frame_at_leaving frame_at_ceased
seek_unended Joining node from b next is = tt
seek_unended Core node from b next is = rw is (refl, refl, refl, refl, one_no_done next (Seek b) tt)
seek_unended Leaving node from b next is = tt
seek_unended Gone node from b next is = tt
seek_unended Ceased node from b next is = tt

pub quiet_no_done : (body : Body) → IsQuiet body → IsNoDone body
quiet_no_done Done quiet = absurd quiet
quiet_no_done _ quiet = tt

quiet_unended : (node : NodeState) (from : List ℕ) (body : Body) → IsQuiet body → IsUnended node (taken_at node from body)
quiet_unended node from body quiet =
    let step = quiet_law node (frame_to node from body) quiet in
    record {
      status = step.status;
      opened = ap (λ (o : SessionsValue). o.opened) step.sessions;
      covers = step.covers;
      greeted = step.greeted;
      sent = λ w to body among. quiet_no_done body (step.sent (record { from = w; to = to; body = body }) among);
    }

pub outside_unended : (node : NodeState) (from : List ℕ) (body : Body) → is_strange node (frame_to node from body) ≡ false
    → IsOutside node body → IsNoDone body → IsUnended node (taken_at node from body)
outside_unended node from Done known outside none = absurd none
outside_unended node from Release known outside none = unended_by node from Release known (release_unended node.status node from)
outside_unended node from Forget known outside none = unended_by node from Forget known (forget_unended node.status node from)
outside_unended node from (Link version on) known outside none =
    unended_by node from (Link version on) known (link_unended node.status node from version on)
outside_unended node from (Seek b) known outside none =
    unended_by node from (Seek b) known (seek_unended node.status node from b outside.0 outside.1)
outside_unended node from body known outside none = quiet_unended node from body outside

-- what ends a join sends no Done
none_to_each : (body : Body) (names : List (List ℕ)) → IsNoDone body → (m : Message) → IsAmong m (to_each body names) → IsNoDone m.body
none_to_each body names none m among =
    let found = among-map_from (λ name. message name body) m names among in
    subst (λ (n : Message). IsNoDone n.body) (sym found.2) none

-- the node of a joiner that takes its Done is a joiner no more, opens no session, and sends no Done
record HasEnded (node : NodeState) (acted : Acted) : Type 0 where
  status : acted.state.status ≡ Joining → ⊥
  opened : acted.state.sessions.opened ≡ node.sessions.opened
  sent : (from to : List ℕ) (body : Body) → IsSent acted.sent from to body → IsNoDone body

done_ended : (node : NodeState) (from : List ℕ) → node.status ≡ Joining → is_strange node (frame_to node from Done) ≡ false
    → (given_up : Bool) → node.abandoned ≡ given_up → HasEnded node (taken_at node from Done)
done_ended node from at known true given_up =
    let step = cease_law node from at given_up known in
    record {
      status = λ joins. let wrong : Ceased ≡ Joining = sym step.status ∙ joins in cc;
      opened = ap (λ (o : SessionsValue). o.opened) step.sessions;
      sent = no_done_sent (name_of node) (off_ties node.stamp (targets_by_name node.ties.table)) (to_each Forget (holders_on node.ties))
          (taken_at node from Done).sent step.sent (none_to_each Forget (holders_on node.ties) tt);
    }
done_ended node from at known false goes_on =
    let step = done_law node from at goes_on known in
    record {
      status = λ joins. let wrong : Core ≡ Joining = sym step.status ∙ joins in cc;
      opened = ap (λ (o : SessionsValue). o.opened) step.sessions;
      sent = no_done_sent (name_of node) [] (to_each Release (holders_on node.ties)) (taken_at node from Done).sent step.sent
          (none_to_each Release (holders_on node.ties) tt);
    }

pub none_among : (n : ℕ) (sent : List Frame) → ((from to : List ℕ) (body : Body) → IsSent sent from to body → IsNoDone body)
    → NoDoneAmong (numbered_from n sent)
none_among n sent none m w c among = none w c Done (sent_numbered m (record { from = w; to = c; body = Done }) n sent among)

seated_status : (node : NodeState) (b : List ℕ) (result : Acted) (prefix : ℕ) → SeeksAs node b result (Surrogate prefix)
    → result.state.status ≡ node.status
seated_status node b result prefix step = step.status

module _ (p : SettingsValue) (s : System) (number : ℕ) (node : NodeState) (from : List ℕ) where
  -- the frame goes, and what is sent comes
  swaps : (body : Body) → IsDelivery p s number node from body
      → Exchanges s (after p s number node from) number (frame_to node from body) (sent_at s node from body)
  swaps body is =
      let here = due p s number node from body is in
      exchanges s (after p s number node from) number (frame_to node from body) (taken_at node from body).sent
      (by_rule p s number node from body here).taken is.invariant.numbered

  leaves : (body : Body) → IsDelivery p s number node from body → IsOutside node body → LeavesSessions s (after p s number node from)
  leaves body is outside =
      let here = due p s number node from body is in
      outside_leaves s (after p s number node from) number node from body (before_taking p s is.invariant)
      (by_rule p s number node from body here) (remembers p s number node from body here) outside

  -- a Done that is on its way stays, if it isn't the frame
  pub dones_stay : (body : Body) → (is : IsDelivery p s number node from body) → (body ≡ Done → ⊥)
      → ((w to : List ℕ) (b : Body) → IsSent (taken_at node from body).sent w to b → IsNoDone b) → DonesStay s (after p s number node from)
  dones_stay body is other none =
      let swap = swaps body is in
      record {
        on = λ w b m among. elim (swap.still m (record { from = w; to = b; body = Done }) among) [
          | inr still ↦ still
          | inl it ↦
              let there : AmongFrames number (record { from = w; to = b; body = Done }) s.frames = rw (← it) among in
              let same = swap.was_one number (frame_to node from body) (record { from = w; to = b; body = Done }) swap.taken there in
              absurd (other (ap (λ (f : Frame). f.body) same))
        ];
        was =
            done_was s (after p s number node from) number (frame_to node from body) (sent_at s node from body) swap
            (none_among s.next (taken_at node from body).sent none);
      }

  outside_keeps : (body : Body) → IsDelivery p s number node from body → IsOutside node body → IsNoDone body → (body ≡ Done → ⊥)
      → KeepsJoins s (after p s number node from)
  outside_keeps body is outside none other =
      let unended = outside_unended node from body is.known outside none in
      let here = due p s number node from body is in
      joins_others_law s (after p s number node from) (leaves body is outside)
      (stay_by p s number node from body is unended.status (starts_none_as p s number node from body here unended.opened))
      (dones_stay body is other unended.sent)

  -- ---- a Done

  -- its receiver joins
  pub receiver_joins : IsDelivery p s number node from Done → node.status ≡ Joining
  receiver_joins is =
      let joins = is.invariant.of_joiners.dones from (name_of node) (way p s number node from Done is) in
      let one = joins.is in
      let other = is.at in
      let same : joins.state ≡ node = cc in
      sym (ap (λ (n : NodeState). n.status) same) ∙ joins.joining

  done_keeps : IsDelivery p s number node from Done → HaveJoiners (after p s number node from)
  done_keeps is =
      let s' = after p s number node from in
      let own = name_of node in
      let here = due p s number node from Done is in
      let taken = by_rule p s number node from Done here in
      let ended = done_ended node from (receiver_joins is) is.known node.abandoned refl in
      let none = starts_none_as p s number node from Done here ended.opened in
      let ends : JoinerEnds s s' own = record {
        on = λ d joins. elim (taken.at.others d) [
          | inl mine ↦ inl mine
          | inr same ↦ inr (record {
            state = joins.state;
            is = same ∙ joins.is;
            joining = joins.joining;
            surrogate = joins.surrogate;
            started = none d ∙ joins.started;
          })
        ];
        was = λ d joins. elim (taken.at.others d) [
          | inl mine ↦
              let there : s'.node d ≡ Some (taken_at node from Done).state = ap s'.node mine ∙ taken.at.is in
              let now = joins.is in
              let same : joins.state ≡ (taken_at node from Done).state = cc in
              absurd (ended.status (sym (ap (λ (n : NodeState). n.status) same) ∙ joins.joining))
          | inr same ↦ (
            record {
              state = joins.state;
              is = sym same ∙ joins.is;
              joining = joins.joining;
              surrogate = joins.surrogate;
              started = sym (none d) ∙ joins.started;
            },
            λ mine.
                let there : s'.node d ≡ Some (taken_at node from Done).state = ap s'.node mine ∙ taken.at.is in
                let now = joins.is in
                let same : joins.state ≡ (taken_at node from Done).state = cc in
                ended.status (sym (ap (λ (n : NodeState). n.status) same) ∙ joins.joining),
          )
        ];
        surrogates = λ d joins. none d;
      } in
      let law = joins_done_law s s' number (frame_to node from Done) (sent_at s node from Done) (leaves Done is tt) (swaps Done is) refl
      (none_among s.next (taken_at node from Done).sent ended.sent) ends is.invariant.exact is.invariant.of_joiners
      is.invariant.ends_once in
      record { of_joiners = law.0; ends_once = law.1 }

  from_keeps : (body : Body) → IsDelivery p s number node from body → KeepsJoins s (after p s number node from)
      → HaveJoiners (after p s number node from)
  from_keeps body is keeps =
      have_joiners s (after p s number node from) is.invariant.of_joiners is.invariant.ends_once keeps

  seek_joins : (b : List ℕ) → IsDelivery p s number node from (Seek b) → node.status ≡ Core → (found : Sought)
      → sought node.ties.table b ≡ found → HaveJoiners (after p s number node from)
  seek_joins b is at (Forward next) found =
      from_keeps (Seek b) is (outside_keeps (Seek b) is (next, found) tt (λ done. let wrong : Seek b ≡ Done = done in cc))
  seek_joins b is at (Surrogate prefix) found =
      let here = due p s number node from (Seek b) is in
      let seeker = is.invariant.seekers.seeks from (name_of node) b (way p s number node from (Seek b) is) in
      let name = of_node p s number node from (Seek b) is b (name_at p s is.nodes b seeker.state seeker.is) in
      let step = subst (SeeksAs node b (taken_at node from (Seek b))) found (seek_law node from b here.is_node.ties name at is.known) in
      seat_joins p s number node from b prefix is at found (seated_status node b (taken_at node from (Seek b)) prefix step)

pub frame_joins : FrameJoins
frame_joins p s number node from body is there = by_said body (said_of body) is there
  where
    by_said : (body : Body) → Said body → IsDelivery p s number node from body → IsTakenThere node body
        → HaveJoiners (after_delivery p s number)
    by_said _ (IsTell tell watch) is there =
        from_keeps p s number node from (tell_body tell watch) is (tell_keeps p s number node from tell watch is there)
    by_said _ (IsHello hello) is there =
        from_keeps p s number node from (hello_body hello) is (hello_keeps p s number node from hello is there)
    by_said _ (IsHeard session) is there =
        from_keeps p s number node from (Heard session) is (answer_keeps p s number node from Heard heard_law heard_is_taken session is)
    by_said _ (IsAck session) is there =
        from_keeps p s number node from (Ack session) is (answer_keeps p s number node from Ack ack_law ack_is_taken session is)
    by_said _ (IsSeek joiner) is there = seek_joins p s number node from joiner is there (sought node.ties.table joiner) refl
    by_said _ IsDone is there = done_keeps p s number node from is
    by_said _ IsRelease is there =
        from_keeps p s number node from Release is
        (outside_keeps p s number node from Release is there tt (λ done. let wrong : Release ≡ Done = done in cc))
    by_said _ IsForget is there =
        from_keeps p s number node from Forget is
        (outside_keeps p s number node from Forget is there tt (λ done. let wrong : Forget ≡ Done = done in cc))
    by_said _ (IsLink version on) is there =
        from_keeps p s number node from (Link version on) is
        (outside_keeps p s number node from (Link version on) is there tt (λ done. let wrong : Link version on ≡ Done = done in cc))
    by_said body _ is there =
        from_keeps p s number node from body is
        (outside_keeps p s number node from body is there (quiet_no_done body there) (λ done. subst IsQuiet done there))
