-- What a Cast that is delivered does with the sessions of casts: it is answered at once, or a session is opened for it.
use Rattle.std.proofs.Common.{◌≡◌, ℕ, ◌+◌, ◌<◌, ◌≤◌, List, [], ◌∷◌, ◌++◌, length, map, Option, None, Some, arith, refl, sym, ap, subst, ◌∙◌}
use Rattle.std.proofs.lemmas.List.{length-map}
use Rattle.tap_name.specs.Settings.{SettingsValue}
use Rattle.tap_session.specs.declared.parent.Parent.TheVariants.{Node}
use Rattle.tap_session.specs.Session.{Session, SessionsValue}
use Rattle.tap_session.specs.Sessions.{opened_with}
use Rattle.tap_cast.specs.declared.target.CastTarget.{CastTarget}
use Rattle.tap_wire.specs.declared.frame.Body.{Body}
use Rattle.tap_wire.specs.declared.frame.Body.TheVariants.{Cast}
use Rattle.tap_wire.specs.declared.frame.Frame.{Frame}
use Rattle.tap_wire.specs.declared.frame.TellFields.{TellFields}
use Rattle.tap_rule.specs.Casts.{Copy, cast_for}
use Rattle.tap_rule.specs.Event.{Acted}
use Rattle.tap_rule.specs.KeptNode.{IsNode}
use Rattle.tap_rule.specs.RuleLaws.{IsCarriedOut, frame_to}
use Rattle.tap_rule.specs.Node.{NodeState, name_of}
use Rattle.tap_rule.specs.Reaction.{Reaction}
use Rattle.tap_rule.specs.Sent.{IsAmong}
use Rattle.tap_rule.proofs.OneName.{not_own}
use Rattle.tap_safety.specs.CountSteps.{SessionsStay}
use Rattle.tap_safety.specs.Remembered.{OpenSession}
use Rattle.tap_safety.specs.Remembered.Token.{Way}
use Rattle.tap_safety.specs.Sessions.{Awaits, IsOpen, ways_of}
use Rattle.tap_safety.specs.SessionSteps.{HandsOn, OpensChild, child_of}
use Rattle.tap_safety.specs.Exchanges.{AreNumbered, Ascend, ChangesAt}
use Rattle.tap_safety.specs.System.{System}
use Rattle.tap_safety.specs.Turned.{Taking}
use Rattle.tap_safety.proofs.StepLaws.{numbers_new_law}
use Rattle.tap_moves.specs.ByRule.{taken_at}
use Rattle.tap_moves.specs.Delivered.{after_delivery}
use Rattle.tap_moves.specs.InvariantLaws.{IsDelivery}
use Rattle.tap_moves.specs.SessionsLaws.{sent_at}
use Rattle.tap_moves.proofs.InvariantMoves.{due}
use Rattle.tap_moves.proofs.MovesMade.{by_rule}
use Rattle.tap_moves.proofs.SessionsMade.{none_opened}
use Rattle.tap_cast_moves.specs.Recalled.{recalled, seen_taking}
use Rattle.tap_cast_moves.specs.Remembered.{CastMemory}
use Rattle.tap_cast_moves.specs.SeenCasts.{cast_name, seen, seen_frame, seen_frames, seen_node}
use Rattle.tap_cast_moves.specs.CastSessions.{AreSessionsOf, CastSessions}
use Rattle.tap_safety.specs.Move.Move.{Delivers}
use Rattle.tap_cast_moves.proofs.AsideMade.{frames_swap, recalled_sessions}
use Rattle.tap_cast_moves.proofs.CastSent.{IsAnswer, answer_about, answer_asks, answer_counts, answer_deeper, answer_in, copies_about, copies_ask, copies_deeper, copies_in, opened_here, opened_now, opened_session, others_stay}
use Rattle.tap_cast_moves.proofs.Made.{awaited, hands_on, opens_child}
use Rattle.tap_cast_moves.proofs.Turning.{answered_parts, opened_parts}
use Rattle.tap_cast_moves.proofs.View.{among_seen, ascend_seen, changes_seen, exchanges_seen, numbered_seen, sends_in, session_seen, ways_by_rule}

-- what a delivery does, as casts are seen
module _ (p : SettingsValue) (s : System) (r : CastMemory) (number : ℕ) (node : NodeState) (from : List ℕ) (body : Body)
    (is : IsDelivery p s number node from body) where
  abbrev pub own_name : List ℕ
  own_name = name_of node

  abbrev pub later : System
  later = after_delivery p s number

  abbrev pub recall : CastMemory
  recall = recalled p s r (Delivers number)

  abbrev pub view : System
  view = seen s r

  abbrev pub later_view : System
  later_view = seen later recall

  abbrev pub did : Acted
  did = taken_at node from body

  abbrev pub seen_sent : List (ℕ × Frame)
  seen_sent = seen_frames (sent_at s node from body)

  abbrev pub taking_seen : Taking
  taking_seen = seen_taking s number (seen_frame (frame_to node from body)) node did

  pub node_changes : ChangesAt s later own_name node did.state
  node_changes = (by_rule p s number node from body (due p s number node from body is)).at

  pub seen_changes : ChangesAt view later_view own_name (seen_node node) (seen_node did.state)
  seen_changes = changes_seen s later r recall own_name node did.state node_changes

  pub seen_new : Ascend view.next seen_sent later_view.next
  seen_new =
      ascend_seen s.next (sent_at s node from body) later.next
      (numbers_new_law s later number (frame_to node from body) did.sent
      (by_rule p s number node from body (due p s number node from body is)).taken)

  pub seen_numbered : AreNumbered view
  seen_numbered = numbered_seen s r is.invariant.numbered

-- sessions that stay are seen as before
pub sessions_stay : (before after : NodeState) → after.cast_sessions ≡ before.cast_sessions → after.cast_numbers ≡ before.cast_numbers
    → SessionsStay (seen_node before) (seen_node after)
sessions_stay before after sessions numbers k = session_seen after k ∙ rw (sessions, numbers) refl ∙ sym (session_seen before k)

module _ (p : SettingsValue) (s : System) (r : CastMemory) (number : ℕ) (node : NodeState) (from : List ℕ)
    (cast level session depth : ℕ) (word : List ℕ) (is : IsDelivery p s number node from (Cast cast level session depth word))
    (sound : CastSessions p s r) where
  abbrev body : Body
  body = Cast cast level session depth word

  abbrev own : List ℕ
  own = name_of node

  abbrev s' : System
  s' = later p s r number node from body is

  abbrev r' : CastMemory
  r' = recall p s r number node from body is

  abbrev acted : Acted
  acted = taken_at node from body

  abbrev f : Frame
  f = seen_frame (frame_to node from body)

  abbrev t : Taking
  t = taking_seen p s r number node from body is

  abbrev sent : List (ℕ × Frame)
  sent = seen_sent p s r number node from body is

  pub waits : Awaits (seen s r) from session (Way number)
  waits = awaited (seen s r) (seen s' r') t (recalled_sessions p s r number node from body is)
      (exchanges_seen s s' r r' number (frame_to node from body) (sent_at s node from body) (frames_swap p s r number node from body is))
      sound.sessions.exact from session refl

  -- ---- it is answered at once

  module _ (rule : Reaction) (carried : IsCarriedOut node rule acted) (answer : IsAnswer rule.messages from session)
      (sessions : rule.state.cast_sessions ≡ node.cast_sessions) (numbers : rule.state.cast_numbers ≡ node.cast_numbers) where
    pub cast_hands : HandsOn (seen s r) (seen s' r') number f from session sent
    cast_hands =
        hands_on (seen s r) (seen s' r') t (recalled_sessions p s r number node from body is)
        (exchanges_seen s s' r r' number (frame_to node from body) (sent_at s node from body) (frames_swap p s r number node from body is))
        sound.sessions.exact from session refl refl
        (none_opened (seen_node node).sessions (seen_node acted.state).sessions
        (ap (λ (o : SessionsValue). o.opened) (carried.cast_sessions ∙ sessions)))
        (answer_asks own rule.messages from session answer rule.words s.next acted.sent carried.sent)

    pub cast_answered : AreSessionsOf (seen s' r')
    cast_answered =
        answered_parts (seen s r) (seen s' r') number f sent (seen_new p s r number node from body is)
        (seen_numbered p s r number node from body is) sound.sessions
        (answer_deeper own rule.messages from session answer rule.words s.next acted.sent carried.sent (seen s' r'))
        (answer_about own rule.messages from session answer rule.words s.next acted.sent carried.sent (seen s' r'))
        from session own (seen_node node) (seen_node acted.state) cast_hands (seen_changes p s r number node from body is)
        (sessions_stay node acted.state (carried.cast_sessions ∙ sessions) (carried.cast_numbers ∙ numbers))
        (ways_by_rule node rule acted from session s.next carried (answer_in own rule.messages from session answer)
        ∙ answer_counts own rule.messages from session answer)

  -- the session that awaited it is of the cast, and one less deep
  pub of_cast : (o : OpenSession) → IsOpen (seen s r) from session o → o.joiner ≡ cast_name cast
  of_cast o there =
      sound.sessions.of_casts.frames number f from session o (cast_name cast)
      (among_seen number (frame_to node from body) s.frames is.among) refl there refl

  pub one_less : (o : OpenSession) → IsOpen (seen s r) from session o → depth ≡ o.depth + 1
  one_less o there =
      let fields : TellFields = record { joiner = cast_name cast; prefix = 0; level = level; session = session; depth = depth } in
      sound.sessions.deeper.depth from own fields [] o
      (record { number = number; among = among_seen number (frame_to node from body) s.frames is.among }) there

  -- ---- a session is opened for it

  module _ (rule : Reaction) (carried : IsCarriedOut node rule acted) (targets : List CastTarget)
      (copies : rule.messages ≡ map (cast_for (record { cast = cast; level = level; parent = Node from session; depth = depth; word = word })
      (node.cast_sessions.opened + 1)) targets)
      (some : 1 ≤ length targets) (above : (target : CastTarget) → IsAmong target targets → 0 < target.level)
      (opens : rule.state.cast_sessions ≡ opened_with node.cast_sessions (Node from session) depth (length targets))
      (numbers : rule.state.cast_numbers ≡ node.cast_numbers ++ cast ∷ []) where
    abbrev copy : Copy
    copy = record { cast = cast; level = level; parent = Node from session; depth = depth; word = word }

    abbrev next : ℕ
    next = node.cast_sessions.opened + 1

    abbrev opened_so : acted.state.cast_sessions ≡ opened_with node.cast_sessions (Node from session) depth (length targets)
    opened_so = carried.cast_sessions ∙ opens

    abbrev numbers_so : acted.state.cast_numbers ≡ node.cast_numbers ++ cast ∷ []
    numbers_so = carried.cast_numbers ∙ numbers

    are_node : IsNode node
    are_node = (is.nodes.nodes own node is.at).is_node

    abbrev opened_now_is : Session
    opened_now_is =
        opened_session node acted.state (Node from session) depth (length targets) cast are_node.cast_sessions are_node.cast_numbers opened_so
        numbers_so

    -- the number is new
    none_next : r.session own next ≡ None
    none_next = by (r.session own next) refl
      where
        by : (found : Option OpenSession) → r.session own next ≡ found → r.session own next ≡ None
        by None none = none
        by (Some o) there =
            let place = sound.places own next o there in
            let at = is.at in
            let here = place.is in
            let same : place.state ≡ node = cc in
            let most : next ≤ node.cast_sessions.opened = subst (λ (n : NodeState). next ≤ n.cast_sessions.opened) same place.opened in
            absurd (omega (arith, most))

    pub cast_opens : OpensChild (seen s r) (seen s' r') number f from session own next sent
    unfolding waits
    cast_opens =
        opens_child (seen s r) (seen s' r') t (recalled_sessions p s r number node from body is)
        (exchanges_seen s s' r r' number (frame_to node from body) (sent_at s node from body) (frames_swap p s r number node from body is))
        sound.sessions.exact from session refl opened_now_is
        (opened_now node acted.state (Node from session) depth (length targets) cast are_node.cast_sessions are_node.cast_numbers opened_so
        numbers_so)
        refl (not_own node (frame_to node from body) is.known) none_next refl (of_cast waits.session waits.is) (one_less waits.session waits.is)
        (copies_ask own copy next targets rule.messages copies rule.words s.next acted.sent carried.sent)

    counts : length (ways_of own next sent) ≡ length targets
    counts =
        ways_by_rule node rule acted own next s.next carried (copies_in own copy next targets rule.messages copies)
        ∙ ap length copies ∙ length-map targets (cast_for copy next)

    pub cast_spread : AreSessionsOf (seen s' r')
    cast_spread =
        let child = child_of cast_opens.before from session (ways_of own next sent) in
        let joiner : child.joiner ≡ cast_name cast = of_cast cast_opens.before cast_opens.parent_was in
        let less = one_less cast_opens.before cast_opens.parent_was in
        let deep : child.depth ≡ depth = sym less in
        opened_parts (seen s r) (seen s' r') number f sent (seen_new p s r number node from body is)
        (seen_numbered p s r number node from body is) sound.sessions
        (copies_deeper own copy next targets rule.messages copies rule.words s.next acted.sent carried.sent (seen s' r') child
        cast_opens.child joiner deep above)
        (copies_about own copy next targets rule.messages copies rule.words s.next acted.sent carried.sent (seen s' r') child
        cast_opens.child joiner deep)
        from session own next (seen_node node) (seen_node acted.state) opened_now_is cast_opens
        (seen_changes p s r number node from body is)
        (others_stay node acted.state (Node from session) depth (length targets) cast are_node.cast_sessions are_node.cast_numbers opened_so
        numbers_so)
        (opened_here node acted.state (Node from session) depth (length targets) cast are_node.cast_sessions are_node.cast_numbers opened_so
        numbers_so)
        (record { parent = refl; depth = less; waiting = sym counts })
        (sends_in own next sent (ways_of own next sent) refl (omega (arith, some, counts)))
