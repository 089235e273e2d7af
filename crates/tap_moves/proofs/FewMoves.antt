-- Each node has few sessions of one joiner open after each frame that a rule takes, and after a start.
-- Cited above: frame_few, start_few
use Rattle.std.proofs.Common.{◌≡◌, ◌⊎◌, ℕ, ◌+◌, ◌<◌, ◌≤◌, Bool, true, false, List, [], if◌then◌else◌, Option, None, Some, arith, ap, refl, sym, subst, ◌∙◌, inl, inr}
use Rattle.std.proofs.lemmas.Bool.{cases_lt}
use Rattle.tap_name.specs.Names.{has_name}
use Rattle.tap_name.specs.Settings.{SettingsValue}
use Rattle.tap_name.specs.declared.slot.Slot.{Slot}
use Rattle.tap_session.specs.declared.parent.Parent.TheVariants.{Node}
use Rattle.tap_session.specs.Session.{SessionsValue}
use Rattle.tap_multicast.specs.Covers.{level_kept}
use Rattle.tap_multicast.specs.declared.covers.Covered.TheVariants.{Already}
use Rattle.tap_multicast.proofs.KeptLevels.{kept_exactly}
use Rattle.tap_table.specs.Levels.{is_kept}
use Rattle.tap_join.specs.Seek.{sought}
use Rattle.tap_join.specs.declared.sought.Sought.{Sought}
use Rattle.tap_join.specs.declared.sought.Sought.TheVariants.{Forward, Surrogate}
use Rattle.tap_join.proofs.Seeking.{surrogate_is}
use Rattle.tap_wire.specs.declared.frame.Body.{Body}
use Rattle.tap_wire.specs.declared.frame.Body.TheVariants.{Ack, Done, Forget, Heard, Link, Release, Seek}
use Rattle.tap_wire.specs.declared.frame.Frame.{Frame}
use Rattle.tap_wire.specs.declared.frame.TellFields.{TellFields}
use Rattle.tap_rule.specs.Act.{act}
use Rattle.tap_rule.specs.Covering.{request_of}
use Rattle.tap_rule.specs.Event.{Acted, Start}
use Rattle.tap_rule.specs.Event.Event.{Starts}
use Rattle.tap_rule.specs.Event.Start.{Abandon, Cast, Find, Join, Leave, Publish, Withdraw}
use Rattle.tap_rule.specs.FrameRules.{frame_at_ceased}
use Rattle.tap_rule.specs.JoinSteps.{CoverStep, CoversAs, MeetStep}
use Rattle.tap_rule.specs.RuleLaws.{AnswerLaw, IsCarriedOut, frame_to}
use Rattle.tap_rule.specs.Ceasing.{takes_tell_ceased}
use Rattle.tap_rule.specs.Node.{NodeState, Status, joiner, level_of, name_of}
use Rattle.tap_rule.specs.Node.Status.{Ceased, Core, Gone, Joining, Leaving}
use Rattle.tap_rule.specs.QuietSteps.{IsQuietStart}
use Rattle.tap_rule.proofs.AnswerSteps.{ack_law, heard_law}
use Rattle.tap_rule.proofs.CarriedOut.{frame_law}
use Rattle.tap_rule.proofs.CoverSteps.{seek_fits, tell_law}
use Rattle.tap_rule.proofs.EndSteps.{cease_law}
use Rattle.tap_rule.proofs.JoinSteps.{done_law, hello_law, meet_law, tell_fits}
use Rattle.tap_rule.proofs.QuietSteps.{quiet_start_law}
use Rattle.tap_rule.proofs.StartSteps.{give_up_law}
use Rattle.tap_safety.specs.FewSessions.{IsOpenOf, MayHaveAsMany, SessionsAreFew, most_at, most_sessions_for}
use Rattle.tap_safety.specs.Frames.{HelloFields, hello_body, tell_body}
use Rattle.tap_safety.specs.Invariant.{Basis}
use Rattle.tap_safety.specs.Moved.{starter}
use Rattle.tap_safety.specs.Remembered.{OpenSession}
use Rattle.tap_safety.specs.Sessions.{AreExact, IsOpen, ways_of}
use Rattle.tap_safety.specs.SessionSteps.{HandsOn, LeavesSessions, OpensChild, OpensRoot, child_of, with_child}
use Rattle.tap_safety.specs.Exchanges.{ChangesAt}
use Rattle.tap_safety.specs.System.{System}
use Rattle.tap_safety.specs.TellStep.{CoversAnew}
use Rattle.tap_safety.specs.Turns.{Turns}
use Rattle.tap_safety.proofs.FewSessions.{few_sessions_kept, few_sessions_opened}
use Rattle.tap_safety.proofs.JoinsKept.{one_session}
use Rattle.tap_safety.proofs.Moved.{starts}
use Rattle.tap_safety.proofs.Rest.{rest_holds}
use Rattle.tap_safety.proofs.StepLaws.{closing_turns_law, handing_on_turns_law, last_turns_law}
use Rattle.tap_safety.proofs.Said.{Said, said_of}
use Rattle.tap_safety.proofs.Said.Said.{IsAck, IsDone, IsForget, IsHeard, IsHello, IsLink, IsRelease, IsSeek, IsTell}
use Rattle.tap_moves.specs.ByRule.{taken_at}
use Rattle.tap_moves.specs.Delivered.{after_delivery, after_start}
use Rattle.tap_moves.specs.InSession.{OpensOrAnswers}
use Rattle.tap_moves.specs.InvariantLaws.{IsDelivery, IsTakenThere}
use Rattle.tap_moves.specs.StepsMade.{IsAnew}
use Rattle.tap_moves.specs.SessionsLaws.{IsOutside, sent_at}
use Rattle.tap_moves.proofs.AnswersMade.{AnswerIsTaken, IsAnswered, ack_is_taken, heard_is_taken}
use Rattle.tap_moves.proofs.InSession.{ceased_answers, seek_opens, tell_in_session}
use Rattle.tap_moves.proofs.InvariantMoves.{before_taking, due, name_at, of_node, of_tell, told_name, way}
use Rattle.tap_moves.proofs.CoverMade.{covers_anew}
use Rattle.tap_moves.proofs.MovesMade.{by_rule, remembers}
use Rattle.tap_moves.proofs.Nearness.{name_inside}
use Rattle.tap_moves.proofs.OutsideMade.{hello_hands_on, outside_leaves}
use Rattle.tap_moves.proofs.SeekMade.{seek_covers}
use Rattle.tap_moves.proofs.SessionsMade.{hands_on, opens_child, opens_root}
use Rattle.tap_moves.specs.FewMoves.{FrameFew, StartFew}
use Rattle.tap_moves.proofs.JoinMoves.{IsNoDone, outside_unended, quiet_no_done, receiver_joins}

-- ---- how many a node may have

-- it may have as many of each joiner as before
abbrev pub NoFewer : SettingsValue → NodeState → NodeState → Type 0
NoFewer p before after = (b : List ℕ) → most_at p before b ≤ most_at p after b

-- if what is asked for is the same
pub same_most : (p : SettingsValue) (before after : NodeState) → after.status ≡ before.status → after.covers ≡ before.covers
    → after.greeted ≡ before.greeted → NoFewer p before after
same_most p before after status covers greeted b =
    let same : most_at p after b ≡ most_at p before b =
    ap (λ (st : Status). most_sessions_for p st (has_name after.greeted b) (level_kept after.covers b)) status
    ∙ ap (λ (names : List (List ℕ)). most_sessions_for p before.status (has_name names b) (level_kept after.covers b)) greeted
    ∙ ap (λ level. most_sessions_for p before.status (has_name before.greeted b) level)
    (ap (λ (c : List (List ℕ × ℕ)). level_kept c b) covers) in
    omega (arith, same)

pub as_many : (p : SettingsValue) (s s' : System) (own : List ℕ) (before after : NodeState) → ChangesAt s s' own before after
    → NoFewer p before after → MayHaveAsMany p s s'
as_many p s s' own before after at no_fewer x b now is =
    elim (at.others x) [
      | inl mine ↦
          let there : s'.node x ≡ Some after = ap s'.node mine ∙ at.is in
          let same : after ≡ now = cc in
          inr (before, ap s.node mine ∙ at.was, subst (λ (n : NodeState). most_at p before b ≤ most_at p n b) same (no_fewer b))
      | inr stays ↦ inr (now, sym stays ∙ is, omega arith)
    ]

-- what another core node may have, by its cover
core_most : (p : SettingsValue) (status : Status) (greeted : Bool) (level : Option ℕ) → status ≡ Core
    → most_sessions_for p status greeted level ≡ most_sessions_for p Core greeted level
core_most p status greeted level at = ap (λ (st : Status). most_sessions_for p st greeted level) at

-- ---- no session is opened

-- an open session was open, of the same joiner
abbrev OpensNone : System → System → Type 0
OpensNone s s' = (x b : List ℕ) (k : ℕ) → IsOpenOf s' x b k → IsOpenOf s x b k

left_none : (s s' : System) → LeavesSessions s s' → OpensNone s s'
left_none s s' leaves x b k of = record { session = of.session; is = sym (leaves.sessions x k) ∙ of.is; joiner = of.joiner }

-- of a step that turns the sessions
turned : (s s' : System) (number : ℕ) (sent : List (ℕ × Frame)) → Turns s s' sent
    → ((x : List ℕ) (k : ℕ) (o : OpenSession) → IsOpen s' x k o → s.session x k ≡ None → ⊥) → OpensNone s s'
turned s s' number sent turns no_new x b k of =
    elim (turns.origin x k of.session of.is) [
      | inl was ↦ record { session = was.old; is = was.is; joiner = sym was.joiner ∙ of.joiner }
      | inr new ↦ absurd (no_new x k of.session of.is new.none)
    ]

-- where a session was open, and where nothing changes, none is new
was_there : (s : System) (y w : List ℕ) (m k : ℕ) (o : OpenSession) → (y ≡ w) × (m ≡ k) → s.session w k ≡ Some o
    → s.session y m ≡ None → ⊥
was_there s y w m k o here was none =
    let there : s.session y m ≡ Some o = rw (here.0, here.1) was in
    let wrong : None ≡ Some o = sym none ∙ there in
    absurd (cc)

is_same : (s s' : System) (y : List ℕ) (m : ℕ) (o : OpenSession) → s'.session y m ≡ s.session y m → IsOpen s' y m o
    → s.session y m ≡ None → ⊥
is_same s s' y m o same is none =
    let wrong : None ≡ Some o = sym none ∙ sym same ∙ is in
    absurd (cc)

handed_none : (s s' : System) (number : ℕ) (f : Frame) (w : List ℕ) (k : ℕ) (sent : List (ℕ × Frame))
    → HandsOn s s' number f w k sent → AreExact s → OpensNone s s'
handed_none s s' number f w k sent step exact =
    turned s s' number sent (handing_on_turns_law s s' number f w k sent step exact) (λ y m o is none.
    elim (step.others y m) [
      | inl here ↦ was_there s y w m k step.before here step.was none
      | inr same ↦ is_same s s' y m o same is none
    ])

answered_none : (s s' : System) (number : ℕ) (f : Frame) (own : List ℕ) (k : ℕ) (sent : List (ℕ × Frame))
    → IsAnswered s s' number f own k sent → AreExact s → OpensNone s s'
answered_none s s' number f own k sent (inl hands) exact = handed_none s s' number f own k sent hands.0 exact
answered_none s s' number f own k sent (inr (inl root)) exact =
    turned s s' number sent (last_turns_law s s' number f own k sent root.0 exact) (λ y m o is none.
    elim (root.0.others y m) [
      | inl here ↦ was_there s y own m k root.0.closes.session here root.0.closes.was none
      | inr same ↦ is_same s s' y m o same is none
    ])
answered_none s s' number f own k sent (inr (inr child)) exact =
    turned s s' number sent (closing_turns_law s s' number f own k child.0 child.1 sent child.2 exact) (λ y m o is none.
    elim (child.2.others y m) [
      | inl here ↦ was_there s y own m k child.2.closes.session here child.2.closes.was none
      | inr (inl here) ↦ was_there s y child.0 m child.1 child.2.before here child.2.parent_was none
      | inr (inr same) ↦ is_same s s' y m o same is none
    ])

-- ---- one is opened

-- an open session was open, or is the one of b at x with this number
abbrev OpensOne : System → System → List ℕ → List ℕ → ℕ → Type 0
OpensOne s s' x b l = (y d : List ℕ) (k : ℕ) → IsOpenOf s' y d k → IsOpenOf s y d k ⊎ ((y ≡ x) × (d ≡ b) × (k ≡ l))

-- the one that awaited the frame goes on
child_one : (s s' : System) (number : ℕ) (f : Frame) (w : List ℕ) (k : ℕ) (x : List ℕ) (l : ℕ) (sent : List (ℕ × Frame)) (b : List ℕ)
    → (step : OpensChild s s' number f w k x l sent) → step.before.joiner ≡ b → OpensOne s s' x b l
child_one s s' number f w k x l sent b step joiner y d m of =
    elim (step.others y m) [
      | inl here ↦
          let there : IsOpen s' y m (with_child step.before number x l) = rw (here.0, here.1) step.parent_is in
          let same = one_session s' y m of.session (with_child step.before number x l) of.is there in
          inl (record {
            session = step.before;
            is = rw (here.0, here.1) step.parent_was;
            joiner = sym (ap (λ (o : OpenSession). o.joiner) same) ∙ of.joiner;
          })
      | inr (inl here) ↦
          let there : IsOpen s' y m (child_of step.before w k (ways_of x l sent)) = rw (here.0, here.1) step.child in
          let same = one_session s' y m of.session (child_of step.before w k (ways_of x l sent)) of.is there in
          inr (here.0, sym of.joiner ∙ ap (λ (o : OpenSession). o.joiner) same ∙ joiner, here.1)
      | inr (inr same) ↦ inl (record { session = of.session; is = sym same ∙ of.is; joiner = of.joiner })
    ]

root_one : (s s' : System) (number : ℕ) (f : Frame) (x : List ℕ) (l : ℕ) (sent : List (ℕ × Frame)) (b : List ℕ)
    → (step : OpensRoot s s' number f x l sent) → step.root.joiner ≡ b → OpensOne s s' x b l
root_one s s' number f x l sent b step joiner y d m of =
    elim (step.others y m) [
      | inl here ↦
          let there : IsOpen s' y m step.root = rw (here.0, here.1) step.is in
          let same = one_session s' y m of.session step.root of.is there in
          inr (here.0, sym of.joiner ∙ ap (λ (o : OpenSession). o.joiner) same ∙ joiner, here.1)
      | inr same ↦ inl (record { session = of.session; is = sym same ∙ of.is; joiner = of.joiner })
    ]

-- what the one that changes may have more
one_more : (p : SettingsValue) (s s' : System) (own : List ℕ) (before after : NodeState) (b : List ℕ) → ChangesAt s s' own before after
    → most_at p before b + 1 ≤ most_at p after b → (was now : NodeState) → s.node own ≡ Some was → s'.node own ≡ Some now
    → most_at p was b + 1 ≤ most_at p now b
one_more p s s' own before after b at more was now was_is is =
    let one = at.was in
    let other = at.is in
    let first : before ≡ was = cc in
    let second : after ≡ now = cc in
    subst (λ (n : NodeState). most_at p was b + 1 ≤ most_at p n b) second
    (subst (λ (n : NodeState). most_at p n b + 1 ≤ most_at p after b) first more)

-- ---- covers

-- a level that is anew, if there was one
more_by_cover : (p : SettingsValue) (greeted now_greeted : Bool) (kept : Option ℕ) (level : ℕ)
    → ((old : ℕ) → kept ≡ Some old → level < old) → level ≤ p.digits
    → most_sessions_for p Core greeted kept + 1 ≤ most_sessions_for p Core now_greeted (Some level)
more_by_cover p greeted now_greeted None level anew most = omega (arith, most)
more_by_cover p greeted now_greeted (Some old) level anew most = let less = anew old refl in omega (arith, most, less)

module _ (p : SettingsValue) (node after : NodeState) (b : List ℕ) (sent : List Frame) (own : List ℕ) (prefix level : ℕ)
    (at : node.status ≡ Core) (covers : CoversAnew node after sent own b prefix level) (most : level ≤ p.digits) where
  -- the node may have one more of the joiner that it covers anew, and as many of others
  one_more_covered : most_at p node b + 1 ≤ most_at p after b
  one_more_covered =
      let was = core_most p node.status (has_name node.greeted b) (level_kept node.covers b) at in
      let now : most_at p after b ≡ most_sessions_for p Core (has_name after.greeted b) (Some level) =
      core_most p after.status (has_name after.greeted b) (level_kept after.covers b) (covers.status ∙ at)
      ∙ ap (λ kept. most_sessions_for p Core (has_name after.greeted b) kept) covers.covered in
      let more = more_by_cover p (has_name node.greeted b) (has_name after.greeted b) (level_kept node.covers b) level covers.anew most in
      omega (arith, was, now, more)

  core_any : (greeted other : Bool) (kept : Option ℕ) → most_sessions_for p Core greeted kept ≡ most_sessions_for p Core other kept
  core_any greeted other None = refl
  core_any greeted other (Some level) = refl

  no_fewer_covered : NoFewer p node after
  no_fewer_covered d = elim (covers.covers d) [
    | inl same ↦
        let more = one_more_covered in
        subst (λ e. most_at p node e ≤ most_at p after e) (sym same) (omega (arith, more))
    | inr same ↦
        let was = core_most p node.status (has_name node.greeted d) (level_kept node.covers d) at in
        let now : most_at p after d ≡ most_sessions_for p Core (has_name after.greeted d) (level_kept node.covers d) =
        core_most p after.status (has_name after.greeted d) (level_kept after.covers d) (covers.status ∙ at)
        ∙ ap (λ kept. most_sessions_for p Core (has_name after.greeted d) kept) same in
        let any = core_any (has_name after.greeted d) (has_name node.greeted d) (level_kept node.covers d) in
        omega (arith, was, now, any)
  ]

-- ---- by the kind of a frame

module _ (p : SettingsValue) (s : System) (number : ℕ) (node : NodeState) (from : List ℕ) where
  abbrev after : System
  after = after_delivery p s number

  abbrev own : List ℕ
  own = name_of node

  changes : (body : Body) → IsDelivery p s number node from body → ChangesAt s after own node (taken_at node from body).state
  changes body is = (by_rule p s number node from body (due p s number node from body is)).at

  -- a step that opens no session
  few_none : (body : Body) → IsDelivery p s number node from body → OpensNone s after → NoFewer p node (taken_at node from body).state
      → SessionsAreFew p s → SessionsAreFew p after
  few_none body is none no_fewer few =
      few_sessions_kept p s after none (as_many p s after own node (taken_at node from body).state (changes body is) no_fewer) few

  -- one that opens one of b
  few_one : (body : Body) (b : List ℕ) (l : ℕ) → IsDelivery p s number node from body → OpensOne s after own b l
      → NoFewer p node (taken_at node from body).state
      → most_at p node b + 1 ≤ most_at p (taken_at node from body).state b → SessionsAreFew p s → SessionsAreFew p after
  few_one body b l is opens no_fewer more few =
      few_sessions_opened p s after own b l opens
      (as_many p s after own node (taken_at node from body).state (changes body is) no_fewer)
      (one_more p s after own node (taken_at node from body).state b (changes body is) more) few

  -- ---- a Tell

  module _ (tell : TellFields) (watch : List Slot) (is : IsDelivery p s number node from (tell_body tell watch)) where
    abbrev body : Body
    body = tell_body tell watch

    abbrev acted : Acted
    acted = taken_at node from body

    -- its session is of its joiner
    of_joiner : (session : OpenSession) → IsOpen s from tell.session session → session.joiner ≡ tell.joiner
    of_joiner session was =
        is.invariant.of_joiners.frames number (frame_to node from body) from tell.session session tell.joiner is.among refl was refl

    -- it opens one of its joiner, or none
    tell_few : OpensOrAnswers node (Node from tell.session) tell.depth acted → NoFewer p node acted.state
        → (acted.state.sessions.opened ≡ node.sessions.opened + 1 → most_at p node tell.joiner + 1 ≤ most_at p acted.state tell.joiner)
        → SessionsAreFew p s → SessionsAreFew p after
    tell_few (inl opens) no_fewer more few =
        let here = due p s number node from body is in
        let step = opens_child s after number node from tell watch (before_taking p s is.invariant) (by_rule p s number node from body here)
        (remembers p s number node from body here) opens in
        few_one body tell.joiner (node.sessions.opened + 1) is
        (child_one s after number (frame_to node from body) from tell.session own (node.sessions.opened + 1) (sent_at s node from body)
        tell.joiner step (of_joiner step.before step.parent_was))
        no_fewer (more (ap (λ (o : SessionsValue). o.opened) opens.sessions)) few
    tell_few (inr answers) no_fewer more few =
        let here = due p s number node from body is in
        let step = hands_on s after number node from tell watch (before_taking p s is.invariant) (by_rule p s number node from body here)
        (remembers p s number node from body here) answers in
        few_none body is
        (handed_none s after number (frame_to node from body) from tell.session (sent_at s node from body) step is.invariant.exact)
        no_fewer few

    -- at a core node that covers the joiner so already: no cover changes, and it opens none
    known_so : CoverStep node (request_of from tell watch) acted → is_kept (level_of node tell.joiner) tell.level ≡ true
        → CoversAs node (request_of from tell watch) acted Already
    known_so step kept = rw kept at step.covers

    core_few : node.status ≡ Core → CoverStep node (request_of from tell watch) acted → SessionsAreFew p s → SessionsAreFew p after
    core_few at step few = by_level (level_of node tell.joiner) refl
      where
        in_session : OpensOrAnswers node (Node from tell.session) tell.depth acted
        in_session = tell_in_session node from tell watch (inl at) is.known

        anew : IsAnew node tell.joiner tell.level → SessionsAreFew p after
        anew is_anew =
            let most = (of_tell p s number node from tell watch is at).most in
            let covers : CoversAnew node acted.state acted.sent own tell.joiner tell.prefix tell.level =
            covers_anew node (request_of from tell watch) acted (due p s number node from body is).is_node.ties
            (told_name p s number node from tell watch is) (tell_fits node from tell watch is.known) is_anew step in
            tell_few in_session
            (no_fewer_covered p node acted.state tell.joiner acted.sent own tell.prefix tell.level at covers most)
            (λ opened. one_more_covered p node acted.state tell.joiner acted.sent own tell.prefix tell.level at covers most) few

        known : (kept : ℕ) → level_of node tell.joiner ≡ Some kept → kept ≤ tell.level → SessionsAreFew p after
        known kept level most =
            let so = known_so step ((kept_exactly (level_of node tell.joiner) tell.level).1 (kept, level, most)) in
            let same = ap (λ (o : SessionsValue). o.opened) so.1 in
            tell_few in_session (same_most p node acted.state step.status so.0 step.greeted)
            (λ opened. absurd (omega (arith, opened, same))) few

        by_level : (level : Option ℕ) → level_of node tell.joiner ≡ level → SessionsAreFew p after
        by_level None none = anew (λ kept some. let wrong : None ≡ Some kept = sym none ∙ some in absurd (cc))
        by_level (Some kept) some = elim (cases_lt tell.level kept) [
          | inl less ↦
              anew (λ other is_other.
              let same : Some kept ≡ Some other = sym some ∙ is_other in
              let level : kept ≡ other = cc in
              omega (arith, less, level))
          | inr most ↦ known kept some most
        ]

    -- at a joining node, which greets the joiner now, or has greeted it
    joining_most : (greeted : Bool) (level : Option ℕ) (b : List ℕ) (n : NodeState) → n.status ≡ Joining → has_name n.greeted b ≡ greeted
        → most_at p n b ≡ (if greeted then 1 else 0)
    joining_most greeted level b n at is =
        ap (λ (st : Status). most_sessions_for p st (has_name n.greeted b) (level_kept n.covers b)) at
        ∙ ap (λ (known : Bool). if known then 1 else 0) is

    joining_few : node.status ≡ Joining → MeetStep node from tell acted → SessionsAreFew p s → SessionsAreFew p after
    joining_few at step few = by_greeted (has_name node.greeted tell.joiner) refl
      where
        by_greeted : (before : Bool) → has_name node.greeted tell.joiner ≡ before → SessionsAreFew p after
        by_greeted true before =
            let rest = step.greeted_before before in
            tell_few (tell_in_session node from tell watch (inr at) is.known)
            (same_most p node acted.state step.status step.covers rest.1)
            (λ opened. absurd (omega (arith, opened, ap (λ (o : SessionsValue). o.opened) rest.0))) few
        by_greeted false before =
            let greets = step.greets before in
            let was = joining_most false None tell.joiner node at before in
            let now = joining_most true None tell.joiner acted.state (step.status ∙ at) greets.1 in
            tell_few (tell_in_session node from tell watch (inr at) is.known) no_fewer (λ opened. omega (arith, was, now)) few
          where
            no_fewer : NoFewer p node acted.state
            no_fewer d = elim (step.greeted d) [
              | inl same ↦
                  let was = joining_most false None tell.joiner node at before in
                  subst (λ e. most_at p node e ≤ most_at p acted.state e) (sym same) (omega (arith, was))
              | inr same ↦
                  let was = joining_most (has_name node.greeted d) None d node at refl in
                  let now = joining_most (has_name node.greeted d) None d acted.state (step.status ∙ at) same in
                  omega (arith, was, now)
            ]

    -- at a node that has ceased
    ceased_few : node.status ≡ Ceased → IsCarriedOut node (takes_tell_ceased node from tell.session) acted → SessionsAreFew p s
        → SessionsAreFew p after
    ceased_few at carried few =
        let answers = ceased_answers node from tell watch at is.known in
        tell_few (inr answers) (same_most p node acted.state carried.status carried.covers carried.greeted)
        (λ opened. absurd (omega (arith, opened, ap (λ (o : SessionsValue). o.opened) answers.sessions))) few

    tell_keeps : (node.status ≡ Core) ⊎ ((node.status ≡ Joining) ⊎ (node.status ≡ Ceased)) → SessionsAreFew p s → SessionsAreFew p after
    unfolding frame_at_ceased
    tell_keeps (inl at) =
        core_few at (tell_law node from tell watch (due p s number node from body is).is_node.ties
        (told_name p s number node from tell watch is) at is.known)
    tell_keeps (inr (inl at)) =
        joining_few at (meet_law node from tell watch (due p s number node from body is).is_node.ties
        (told_name p s number node from tell watch is) at is.known)
    tell_keeps (inr (inr at)) = ceased_few at (frame_law node (frame_to node from body) _ is.known (rw at refl))

  -- ---- a Seek at the surrogate

  seat_few : (b : List ℕ) (prefix : ℕ) → IsDelivery p s number node from (Seek b) → node.status ≡ Core
      → sought node.ties.table b ≡ Surrogate prefix → SessionsAreFew p s → SessionsAreFew p after
  seat_few b prefix is at found few =
      let body = Seek b in
      let here = due p s number node from body is in
      let acted = taken_at node from body in
      let opens = seek_opens node from b prefix at is.known found in
      let seeker = is.invariant.seekers.seeks from own b (way p s number node from body is) in
      let name = of_node p s number node from body is b (name_at p s is.nodes b seeker.state seeker.is) in
      let made = opens_root s after number node from b (before_taking p s is.invariant) (by_rule p s number node from body here)
      (remembers p s number node from body here) seeker opens in
      let covers = seek_covers s after number node from b prefix (by_rule p s number node from body here) at name found in
      let fits = seek_fits node from b prefix is.known found in
      let near = (surrogate_is node.ties.table here.is_node.ties.table b name fits.apart prefix found).0 in
      let inside = name_inside node.ties.table here.is_node.ties.table b name fits.apart in
      let settings = ap (λ (q : SettingsValue). q.digits) (is.nodes.nodes own node is.at).settings in
      let most : prefix ≤ p.digits = omega (arith, near, inside, settings) in
      few_one body b (node.sessions.opened + 1) is
      (root_one s after number (frame_to node from body) own (node.sessions.opened + 1) (sent_at s node from body) b made.0 made.1)
      (no_fewer_covered p node acted.state b acted.sent own prefix prefix at covers most)
      (one_more_covered p node acted.state b acted.sent own prefix prefix at covers most) few

  -- ---- a Hello, an answer, and a frame of no session

  hello_few : (hello : HelloFields) → IsDelivery p s number node from (hello_body hello) → node.status ≡ Joining → SessionsAreFew p s
      → SessionsAreFew p after
  hello_few hello is at few =
      let body = hello_body hello in
      let here = due p s number node from body is in
      let rule = hello_law node from hello at is.known in
      let step = hello_hands_on s after number node from hello (before_taking p s is.invariant) (by_rule p s number node from body here)
      (remembers p s number node from body here) at in
      few_none body is
      (handed_none s after number (frame_to node from body) from hello.session (sent_at s node from body) step is.invariant.exact)
      (same_most p node (taken_at node from body).state rule.joins.status rule.joins.covers rule.joins.greeted) few

  answer_few : (body : ℕ → Body) → AnswerLaw body → AnswerIsTaken body → (k : ℕ) → IsDelivery p s number node from (body k)
      → SessionsAreFew p s → SessionsAreFew p after
  answer_few body law taken_so k is few =
      let here = due p s number node from (body k) is in
      let found = taken_so s after number node from k (before_taking p s is.invariant) is.invariant.counted
      (by_rule p s number node from (body k) here) (remembers p s number node from (body k) here) is.among in
      let step = law node from k here.is_node.sessions found.0 is.known in
      few_none (body k) is
      (answered_none s after number (frame_to node from (body k)) own k (sent_at s node from (body k)) found.1 is.invariant.exact)
      (same_most p node (taken_at node from (body k)).state step.joins.status step.joins.covers step.joins.greeted) few

  leaves : (body : Body) → IsDelivery p s number node from body → IsOutside node body → LeavesSessions s after
  leaves body is outside =
      let here = due p s number node from body is in
      outside_leaves s after number node from body (before_taking p s is.invariant) (by_rule p s number node from body here)
      (remembers p s number node from body here) outside

  outside_few : (body : Body) → IsDelivery p s number node from body → IsOutside node body → IsNoDone body → SessionsAreFew p s
      → SessionsAreFew p after
  outside_few body is outside none few =
      let unended = outside_unended node from body is.known outside none in
      few_none body is (left_none s after (leaves body is outside))
      (same_most p node (taken_at node from body).state unended.status unended.covers unended.greeted) few

  -- ---- a Done

  -- as a core node, or one that has ceased, it may have one of each
  one_of_each : (status : Status) (greeted : Bool) (level : Option ℕ) → (status ≡ Joining → ⊥) → 1 ≤ most_sessions_for p status greeted level
  one_of_each Joining greeted level apart = absurd (apart refl)
  one_of_each Core greeted None apart = omega arith
  one_of_each Core greeted (Some level) apart = omega arith
  one_of_each Leaving greeted None apart = omega arith
  one_of_each Leaving greeted (Some level) apart = omega arith
  one_of_each Gone greeted None apart = omega arith
  one_of_each Gone greeted (Some level) apart = omega arith
  one_of_each Ceased greeted None apart = omega arith
  one_of_each Ceased greeted (Some level) apart = omega arith

  at_most_one : (greeted : Bool) (level : Option ℕ) → most_sessions_for p Joining greeted level ≤ 1
  at_most_one true level = omega arith
  at_most_one false level = omega arith

  ended_no_fewer : (ended : NodeState) → node.status ≡ Joining → (ended.status ≡ Joining → ⊥) → NoFewer p node ended
  ended_no_fewer ended at apart b =
      let was = ap (λ (st : Status). most_sessions_for p st (has_name node.greeted b) (level_kept node.covers b)) at in
      let most = at_most_one (has_name node.greeted b) (level_kept node.covers b) in
      let one = one_of_each ended.status (has_name ended.greeted b) (level_kept ended.covers b) apart in
      omega (arith, was, most, one)

  done_no_fewer : (is : IsDelivery p s number node from Done) → (given_up : Bool) → node.abandoned ≡ given_up
      → NoFewer p node (taken_at node from Done).state
  done_no_fewer is true given_up =
      let at = receiver_joins p s number node from is in
      let step = cease_law node from at given_up is.known in
      ended_no_fewer (taken_at node from Done).state at (λ joins. let wrong : Ceased ≡ Joining = sym step.status ∙ joins in cc)
  done_no_fewer is false goes_on =
      let at = receiver_joins p s number node from is in
      let step = done_law node from at goes_on is.known in
      ended_no_fewer (taken_at node from Done).state at (λ joins. let wrong : Core ≡ Joining = sym step.status ∙ joins in cc)

  done_few : IsDelivery p s number node from Done → SessionsAreFew p s → SessionsAreFew p after
  done_few is few =
      few_none Done is (left_none s after (leaves Done is tt)) (done_no_fewer is node.abandoned refl) few

  seek_few : (b : List ℕ) → IsDelivery p s number node from (Seek b) → node.status ≡ Core → (found : Sought)
      → sought node.ties.table b ≡ found → SessionsAreFew p s → SessionsAreFew p after
  seek_few b is at (Forward next) found few = outside_few (Seek b) is (next, found) tt few
  seek_few b is at (Surrogate prefix) found few = seat_few b prefix is at found few

pub frame_few : FrameFew
frame_few p s number node from body is there few = by_said body (said_of body) is there few
  where
    by_said : (body : Body) → Said body → IsDelivery p s number node from body → IsTakenThere node body → SessionsAreFew p s
        → SessionsAreFew p (after_delivery p s number)
    by_said _ (IsTell tell watch) is there few = tell_keeps p s number node from tell watch is there few
    by_said _ (IsHello hello) is there few = hello_few p s number node from hello is there few
    by_said _ (IsHeard session) is there few = answer_few p s number node from Heard heard_law heard_is_taken session is few
    by_said _ (IsAck session) is there few = answer_few p s number node from Ack ack_law ack_is_taken session is few
    by_said _ (IsSeek joiner) is there few = seek_few p s number node from joiner is there (sought node.ties.table joiner) refl few
    by_said _ IsDone is there few = done_few p s number node from is few
    by_said _ IsRelease is there few = outside_few p s number node from Release is there tt few
    by_said _ IsForget is there few = outside_few p s number node from Forget is there tt few
    by_said _ (IsLink version on) is there few = outside_few p s number node from (Link version on) is there tt few
    by_said body _ is there few = outside_few p s number node from body is there (quiet_no_done body there) few

-- ---- starts

-- a node that is there starts something that leaves its status, its covers and whom it has greeted
there_few : (p : SettingsValue) (s : System) (x : List ℕ) (start : Start) (node : NodeState) → s.node x ≡ Some node
    → starter p s x start ≡ Some node → (act node (Starts start)).state.status ≡ node.status
    → (act node (Starts start)).state.covers ≡ node.covers → (act node (Starts start)).state.greeted ≡ node.greeted
    → SessionsAreFew p s → SessionsAreFew p (after_start p s x start)
there_few p s x start node at is status covers greeted few =
    let s' = after_start p s x start in
    let after = (act node (Starts start)).state in
    let step = starts p s x start node is in
    few_sessions_kept p s s'
    (λ y b k of. record { session = of.session; is = sym (step.session y k) ∙ of.is; joiner = of.joiner })
    (as_many p s s' x node after (record { was = at; is = step.done.is; others = step.done.others })
    (same_most p node after status covers greeted)) few

quiet_few : (p : SettingsValue) (s : System) (x : List ℕ) (start : Start) (node : NodeState) → s.node x ≡ Some node
    → starter p s x start ≡ Some node → IsQuietStart start → SessionsAreFew p s → SessionsAreFew p (after_start p s x start)
quiet_few p s x start node at is quiet few =
    let law = quiet_start_law node start quiet in
    there_few p s x start node at is law.status law.covers law.greeted few

-- a new name has no session
join_few : (p : SettingsValue) (s : System) (x via : List ℕ) → Basis p s → s.node x ≡ None → SessionsAreFew p s
    → SessionsAreFew p (after_start p s x (Join via))
join_few p s x via inv fresh few =
    let s' = after_start p s x (Join via) in
    let step = starts p s x (Join via) (joiner p x) refl in
    few_sessions_kept p s s'
    (λ y b k of. record { session = of.session; is = sym (step.session y k) ∙ of.is; joiner = of.joiner })
    (λ y b now is. elim (step.done.others y) [
      | inl mine ↦ inl (λ k of.
          let place = inv.places.places y k of.session (sym (step.session y k) ∙ of.is) in
          let there = place.is in
          let none : s.node y ≡ None = ap s.node mine ∙ fresh in
          let wrong : None ≡ Some place.state = sym none ∙ there in
          absurd (cc))
      | inr same ↦ inr (now, sym same ∙ is, omega arith)
    ]) few

-- a departure starts while no session is open
leave_few : (p : SettingsValue) (s : System) (x : List ℕ) (node : NodeState) → Basis p s → s.node x ≡ Some node → s.frames ≡ []
    → SessionsAreFew p s → SessionsAreFew p (after_start p s x Leave)
leave_few p s x node inv at rest few =
    let s' = after_start p s x Leave in
    let step = starts p s x Leave node at in
    let still = rest_holds p s inv rest in
    few_sessions_kept p s s'
    (λ y b k of. record { session = of.session; is = sym (step.session y k) ∙ of.is; joiner = of.joiner })
    (λ y b now is. inl (λ k of. still.sessions y k of.session (sym (step.session y k) ∙ of.is))) few

pub start_few : StartFew
start_few p s x (Join via) inv may few = join_few p s x via inv may.fresh few
start_few p s x Abandon inv may few =
    let law = give_up_law may.state may.joining in
    there_few p s x Abandon may.state may.is may.is law.status law.covers law.greeted few
start_few p s x Leave inv may few = leave_few p s x may.acts.state inv may.acts.is may.rest few
start_few p s x (Publish object) inv may few = quiet_few p s x (Publish object) may.acts.state may.acts.is may.acts.is tt few
start_few p s x (Withdraw object) inv may few = quiet_few p s x (Withdraw object) may.acts.state may.acts.is may.acts.is tt few
start_few p s x (Find ticket object) inv may few = quiet_few p s x (Find ticket object) may.acts.state may.acts.is may.acts.is tt few
start_few p s x (Cast cast level word) inv may few =
    quiet_few p s x (Cast cast level word) may.acts.state may.acts.is may.acts.is tt few
