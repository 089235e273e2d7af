-- The Tells that a node sends for a joiner: each is one deeper than the session that it opens, and at a level above the prefix.
-- Cited above: frame_deeper
use Rattle.std.proofs.Common.{◌≡◌, ◌==◌, ℕ, ◌+◌, ◌<◌, ◌≤◌, Bool, true, false, List, [], ◌∷◌, ◌++◌, length, map, cond, if◌then◌else◌, arith, ap, refl, sym, ◌∙◌, inl, inr}
use Rattle.std.proofs.lemmas.List.Elements.{All-nil}
use Rattle.tap_name.specs.Name.{IsName}
use Rattle.tap_name.specs.Prefix.{lcp}
use Rattle.tap_name.specs.Settings.{SettingsValue}
use Rattle.tap_name.specs.declared.slot.Offered.{Offered}
use Rattle.tap_name.specs.declared.slot.Slot.{Slot}
use Rattle.tap_name.proofs.Prefixes.{lcp-sym}
use Rattle.tap_session.specs.declared.parent.Parent.{Parent}
use Rattle.tap_session.specs.declared.parent.Parent.TheVariants.{Node, Root}
use Rattle.tap_table.specs.declared.tie.Tie.{Tie}
use Rattle.tap_table.specs.Levels.{is_kept}
use Rattle.tap_table.specs.Ties.{AreTies}
use Rattle.tap_multicast.specs.declared.covers.Covered.{Covered}
use Rattle.tap_multicast.specs.declared.covers.Covered.TheVariants.{Already, Now}
use Rattle.tap_multicast.specs.declared.target.Target.{Target}
use Rattle.tap_multicast.specs.Covers.{MayCover, MayWatch, cover_of}
use Rattle.tap_multicast.proofs.Regions.{targets_near}
use Rattle.tap_multicast.proofs.Telling.{IsTarget, targets_are}
use Rattle.tap_join.specs.Hello.{words_of}
use Rattle.tap_join.specs.Seek.{sought}
use Rattle.tap_join.specs.declared.sought.Sought.{Sought}
use Rattle.tap_join.specs.declared.sought.Sought.TheVariants.{Forward, Surrogate}
use Rattle.tap_join.proofs.Seeking.{surrogate_is}
use Rattle.tap_wire.specs.declared.frame.Body.{Body}
use Rattle.tap_wire.specs.declared.frame.Body.TheVariants.{Ack, Done, Heard, Seek, Tell}
use Rattle.tap_wire.specs.declared.frame.Frame.{Frame}
use Rattle.tap_wire.specs.declared.frame.TellFields.{TellFields}
use Rattle.tap_rule.specs.Answers.{answer_for, with_session}
use Rattle.tap_rule.specs.Covering.{Request, answers_awaited, covers_as, first_request, greeting, pins_and_covers, request_of, takes_seek, takes_tell, tell_for, with_level}
use Rattle.tap_rule.specs.Event.{Acted}
use Rattle.tap_rule.specs.FrameRules.{frame_at_core}
use Rattle.tap_rule.specs.JoinSteps.{found_for}
use Rattle.tap_rule.specs.RuleLaws.{IsCarriedOut, frame_to, tell_of}
use Rattle.tap_rule.specs.Node.{NodeState, level_of, name_of, settings_of}
use Rattle.tap_rule.specs.Node.Status.{Core}
use Rattle.tap_rule.specs.Reaction.{Message, Reaction, pin_word, sends, with_pin, with_words}
use Rattle.tap_rule.specs.Sending.{lay_frame, link_frame}
use Rattle.tap_rule.specs.Sent.{AreSent, IsAmong}
use Rattle.tap_rule.specs.Hellos.{core_hello}
use Rattle.tap_rule.proofs.Among.{among-either, among-map_from}
use Rattle.tap_rule.proofs.CarriedOut.{frame_law}
use Rattle.tap_rule.proofs.CoverSteps.{seek_fits}
use Rattle.tap_rule.proofs.JoinSteps.{IsTellFit, tell_fits}
use Rattle.tap_rule.proofs.OneName.{not_own}
use Rattle.tap_safety.specs.Bookkeeping.{SendsDeeper, TellsAreDeeper}
use Rattle.tap_safety.specs.Frames.{tell_body, hello_body}
use Rattle.tap_safety.specs.Remembered.{OpenSession}
use Rattle.tap_safety.specs.Sessions.{IsOpen, ways_of}
use Rattle.tap_safety.specs.SessionSteps.{child_of}
use Rattle.tap_safety.specs.Exchanges.{IsSent}
use Rattle.tap_safety.specs.System.{System, AmongFrames}
use Rattle.tap_safety.proofs.StepLaws.{depths_law, handing_on_turns_law, opening_turns_law, root_turns_law}
use Rattle.tap_safety.proofs.Said.{Said, said_of}
use Rattle.tap_safety.proofs.Said.Said.{IsAck, IsHeard, IsHello, IsSeek, IsTell}
use Rattle.tap_moves.specs.ByRule.{taken_at}
use Rattle.tap_moves.specs.CalmMoves.{FrameDeeper}
use Rattle.tap_moves.specs.Delivered.{after_delivery}
use Rattle.tap_moves.specs.InSession.{OpensOrAnswers}
use Rattle.tap_moves.specs.InvariantLaws.{IsDelivery, IsTakenThere}
use Rattle.tap_moves.specs.SessionsLaws.{sent_at}
use Rattle.tap_moves.proofs.CalmMoves.{calm_deeper, none_deeper}
use Rattle.tap_moves.proofs.CoverMade.{joiner_link, told_targets, with_joiner, with_joiner_is}
use Rattle.tap_moves.proofs.Exchanged.{sent_numbered}
use Rattle.tap_moves.proofs.Got.{among_all}
use Rattle.tap_moves.proofs.InSession.{only_one, seek_opens, tell_in_session}
use Rattle.tap_moves.proofs.InvariantMoves.{before_taking, due, name_at, of_node, of_tell, told_name, way}
use Rattle.tap_moves.proofs.MovesMade.{by_rule, remembers}
use Rattle.tap_moves.proofs.Nearness.{name_inside}
use Rattle.tap_moves.proofs.SessionMoves.{outside_books}
use Rattle.tap_moves.proofs.SessionsMade.{hands_on, node_parts, opens_child, opens_root}

-- ---- which Tells are sent

-- a Tell for one of these targets, in this session
record TellsFor (request : Request) (session : ℕ) (told : List Target) (fields : TellFields) : Type 0 where
  target : Target
  among : IsAmong target told
  prefix : fields.prefix ≡ request.prefix
  level : fields.level ≡ target.level
  session_is : fields.session ≡ session
  depth : fields.depth ≡ request.depth + 1

-- a Tell that is sent is one of the messages
sent_tell : (own : List ℕ) (words : List Tie) (messages : List Message) (sent : List Frame) → AreSent own words messages sent
    → (from to : List ℕ) (fields : TellFields) (watch : List Slot) → IsSent sent from to (tell_body fields watch)
    → (from ≡ own) × ((m : Message) × IsAmong m messages × (m.body ≡ tell_body fields watch))
sent_tell own words messages sent are from to fields watch among =
    elim (are.each (record { from = from; to = to; body = tell_body fields watch }) among) [
      | inl link ↦
          let wrong : tell_body fields watch ≡ (link_frame own link.word).body = ap (λ (f : Frame). f.body) link.is in absurd (cc)
      | inr (inl named) ↦ (
        ap (λ (f : Frame). f.from) named.is,
        (named.message, named.among, sym (ap (λ (f : Frame). f.body) named.is)),
      )
      | inr (inr lay) ↦
          let wrong : tell_body fields watch ≡ (lay_frame own lay.lay).body = ap (λ (f : Frame). f.body) lay.is in absurd (cc)
    ]

answer_no_tell : (parent : Parent) (fields : TellFields) (watch : List Slot) → (answer_for parent).body ≡ tell_body fields watch → ⊥
answer_no_tell (Root joiner) fields watch is = let wrong : Done ≡ tell_body fields watch = is in cc
answer_no_tell (Node name session) fields watch is = let wrong : Ack session ≡ tell_body fields watch = is in cc

greeting_no_tell : (request : Request) (session : ℕ) (first : Bool) (offer : List Offered) (m : Message) (fields : TellFields)
    (watch : List Slot) → IsAmong m (greeting request session first offer) → m.body ≡ tell_body fields watch → ⊥
greeting_no_tell request session true offer m fields watch (inl is) body =
    let wrong : core_hello session offer ≡ tell_body fields watch = ap (λ (n : Message). n.body) (sym is) ∙ body in cc
greeting_no_tell request session true offer m fields watch (inr none) body = none
greeting_no_tell request session false offer m fields watch none body = none

for_target : (request : Request) (session : ℕ) (left : List Slot) (target : Target) (told : List Target) (fields : TellFields)
    (watch : List Slot) → IsAmong target told → (tell_for request session left target).body ≡ tell_body fields watch
    → TellsFor request session told fields
for_target request session left target told fields watch among body =
    let is : Tell request.joiner request.prefix target.level session (request.depth + 1) left ≡ tell_body fields watch = body in
    record { target = target; among = among; prefix = cc; level = cc; session_is = cc; depth = cc }

spread_tell : (request : Request) (session : ℕ) (first : Bool) (offer : List Offered) (left : List Slot) (told : List Target) (m : Message)
    (fields : TellFields) (watch : List Slot)
    → IsAmong m (greeting request session first offer ++ map (tell_for request session left) told) → m.body ≡ tell_body fields watch
    → TellsFor request session told fields
spread_tell request session first offer left told m fields watch among body =
    elim (among-either m (greeting request session first offer) (map (tell_for request session left) told) among) [
      | inl hello ↦ absurd (greeting_no_tell request session first offer m fields watch hello body)
      | inr tell ↦
          let found = among-map_from (tell_for request session left) m told tell in
          for_target request session left found.0 told fields watch found.1 (ap (λ (n : Message). n.body) (sym found.2) ∙ body)
    ]

-- the Tell is for a target of what is found
abbrev IsOfFound : Request → ℕ → Covered → TellFields → Type 0
IsOfFound request session Already fields = ⊥
IsOfFound request session (Now first offer told left) fields = TellsFor request session told fields

module _ (node : NodeState) (request : Request) (words : List Tie) (acted : Acted) (from to : List ℕ) (fields : TellFields)
    (watch : List Slot) (among : IsSent acted.sent from to (tell_body fields watch)) where
  abbrev own : List ℕ
  own = name_of node

  abbrev session : ℕ
  session = node.sessions.opened + 1

  -- who answers at once tells nobody
  none_told : (state : NodeState) → IsCarriedOut node (with_words words (sends state (answer_for request.parent ∷ []))) acted → ⊥
  none_told state carried =
      let sent = sent_tell own words (answer_for request.parent ∷ []) acted.sent carried.sent from to fields watch among in
      let same = only_one sent.1.0 (answer_for request.parent) sent.1.1 in
      answer_no_tell request.parent fields watch (ap (λ (m : Message). m.body) (sym same) ∙ sent.1.2)

  module _ (first : Bool) (offer : List Offered) (told : List Target) (left : List Slot) where
    abbrev opening : Reaction
    opening =
        sends (with_session (with_level (with_pin node request.joiner) request) request.parent request.depth
        (answers_awaited first (length told)))
        (greeting request session first offer ++ map (tell_for request session left) told)

    spread_as : (none : Bool) → IsCarriedOut node (with_words words (cond none
        (sends (with_level (with_pin node request.joiner) request) (answer_for request.parent ∷ [])) opening)) acted
        → (from ≡ own) × TellsFor request session told fields
    spread_as true carried = absurd (none_told (with_level (with_pin node request.joiner) request) carried)
    spread_as false carried =
        let sent = sent_tell own words (greeting request session first offer ++ map (tell_for request session left) told) acted.sent
        carried.sent from to fields watch among in
        (sent.0, spread_tell request session first offer left told sent.1.0 fields watch sent.1.1 sent.1.2)

  told_as : (found : Covered) → IsCarriedOut node (with_words words (covers_as (with_pin node request.joiner) request found)) acted
      → (from ≡ own) × IsOfFound request session found fields
  told_as Already carried = absurd (none_told (with_pin node request.joiner) carried)
  told_as (Now first offer told left) carried = spread_as first offer told left (answers_awaited first (length told) == 0) carried

  -- the targets are those of the cover
  of_cover : (first : Bool) (offer : List Offered) (told : List Target) (left : List Slot) (kept : Bool)
      → IsOfFound request session (if kept then Already else Now first offer told left) fields → TellsFor request session told fields
  of_cover first offer told left true never = absurd never
  of_cover first offer told left false tells = tells

covers_tell : (node : NodeState) (request : Request) (acted : Acted) → IsCarriedOut node (pins_and_covers node request) acted
    → (from to : List ℕ) (fields : TellFields) (watch : List Slot) → IsSent acted.sent from to (tell_body fields watch)
    → (from ≡ name_of node) × TellsFor request (node.sessions.opened + 1) (told_targets node request) fields
covers_tell node request acted carried from to fields watch among =
    let words = words_of (pin_word node request.joiner) in
    let told = told_as node request words acted from to fields watch among (found_for node request) carried in (
      told.0,
      of_cover node request words acted from to fields watch among _ _ (told_targets node request) _
          (is_kept (level_of node request.joiner) request.level) told.1,
    )

-- ---- their levels

-- each target is told at a level above the prefix
above_prefix : (node : NodeState) (request : Request) (ties : AreTies node.ties) → IsName (settings_of node) request.joiner
    → IsTellFit node request.joiner → request.prefix ≤ request.level → request.prefix ≤ lcp (name_of node) request.joiner
    → request.level ≤ (settings_of node).digits → (target : Target) → IsAmong target (told_targets node request)
    → request.prefix < target.level
above_prefix node request ties name fits within shared most target among =
    let table = with_joiner node request.joiner ties name fits in
    let valid = with_joiner_is node request.joiner ties name fits in
    let cover = cover_of table (level_of node request.joiner) request.joiner request.prefix request.level in
    let may : MayCover table [] request.joiner request.prefix request.level = record {
      pinned = joiner_link node request.joiner ties name fits;
      within_level = within;
      shared = shared;
      within_digits = most;
      watched = All-nil (MayWatch (settings_of node).base request.prefix);
    } in
    let is = among_all (IsTarget table cover) (told_targets node request) (targets_are table valid cover) target among in
    (targets_near table valid [] request.joiner request.prefix request.level may (level_of node request.joiner) target is).above

-- ---- the frames that are sent

module _ (p : SettingsValue) (s : System) (number : ℕ) (node : NodeState) (from : List ℕ) where
  abbrev after : System
  after = after_delivery p s number

  -- what is sent for a request is deeper than the session that is opened for it
  sends_deeper : (body : Body) (request : Request) → IsCarriedOut node (pins_and_covers node request) (taken_at node from body)
      → ((session : OpenSession) → IsOpen after (name_of node) (node.sessions.opened + 1) session → session.depth ≡ request.depth)
      → ((target : Target) → IsAmong target (told_targets node request) → request.prefix < target.level)
      → SendsDeeper after (sent_at s node from body)
  sends_deeper body request carried deep above = record {
    depth = λ w t fields watch m session among is.
        let told = tells w t fields watch m among in
        let here : IsOpen after (name_of node) (node.sessions.opened + 1) session = rw (← told.0, ← told.1.session_is) is in
        told.1.depth ∙ ap (λ n. n + 1) (sym (deep session here));
    level = λ w t fields watch m among.
        let told = tells w t fields watch m among in
        let more = above told.1.target told.1.among in
        let prefix = told.1.prefix in
        let level = told.1.level in
        omega (arith, more, prefix, level);
  }
    where
      tells : (w t : List ℕ) (fields : TellFields) (watch : List Slot) (m : ℕ)
          → AmongFrames m (record { from = w; to = t; body = tell_body fields watch }) (sent_at s node from body)
          → (w ≡ name_of node) × TellsFor request (node.sessions.opened + 1) (told_targets node request) fields
      tells w t fields watch m among =
          covers_tell node request (taken_at node from body) carried w t fields watch
          (sent_numbered m (record { from = w; to = t; body = tell_body fields watch }) s.next (taken_at node from body).sent among)

  -- a Tell at a core node
  tell_deeper : (tell : TellFields) (watch : List Slot) → IsDelivery p s number node from (tell_body tell watch) → node.status ≡ Core
      → IsCarriedOut node (takes_tell node from tell watch) (taken_at node from (tell_body tell watch))
      → OpensOrAnswers node (Node from tell.session) tell.depth (taken_at node from (tell_body tell watch)) → TellsAreDeeper after
  tell_deeper tell watch is at carried (inl opens) =
      let inv = is.invariant in
      let body = tell_body tell watch in
      let here = due p s number node from body is in
      let l = node.sessions.opened + 1 in
      let step = opens_child s after number node from tell watch (before_taking p s inv) (by_rule p s number node from body here)
      (remembers p s number node from body here) opens in
      let deep = inv.deeper.depth from (name_of node) tell watch step.before (way p s number node from body is) step.parent_was in
      let child = step.child in
      let of = of_tell p s number node from tell watch is at in
      let settings = (is.nodes.nodes (name_of node) node is.at).settings in
      let reach = of.inside.reach in
      let swap = lcp-sym tell.joiner (name_of node) in
      let prefix = of.prefix_is in
      let above = of.above in
      depths_law s after (sent_at s node from body)
      (opening_turns_law s after number (frame_to node from body) from tell.session (name_of node) l (sent_at s node from body) step
      inv.exact)
      inv.exact
      (sends_deeper body (request_of from tell watch) carried
      (λ session is.
      let same : session ≡ child_of step.before from tell.session (ways_of (name_of node) l (sent_at s node from body)) = cc in
      ap (λ (o : OpenSession). o.depth) same ∙ sym deep)
      (above_prefix node (request_of from tell watch) here.is_node.ties (told_name p s number node from tell watch is)
      (tell_fits node from tell watch is.known) (omega (arith, above)) (omega (arith, reach, swap, prefix)) (rw settings of.most)))
      inv.deeper
  tell_deeper tell watch is at carried (inr answers) =
      let inv = is.invariant in
      let body = tell_body tell watch in
      let here = due p s number node from body is in
      let step = hands_on s after number node from tell watch (before_taking p s inv) (by_rule p s number node from body here)
      (remembers p s number node from body here) answers in
      depths_law s after (sent_at s node from body)
      (handing_on_turns_law s after number (frame_to node from body) from tell.session (sent_at s node from body) step inv.exact) inv.exact
      (none_deeper s after (taken_at node from body).sent (λ w t fields slots among.
      let told = covers_tell node (request_of from tell watch) (taken_at node from body) carried w t fields slots among in
      let parent = answers.sent (record { from = w; to = t; body = tell_body fields slots }) w fields.session among refl in
      not_own node (frame_to node from body) is.known (sym (node_parts from w tell.session fields.session parent).0 ∙ told.0)))
      inv.deeper

  -- a Seek at the surrogate
  seat_deeper : (joiner : List ℕ) (prefix : ℕ) → IsDelivery p s number node from (Seek joiner) → node.status ≡ Core
      → sought node.ties.table joiner ≡ Surrogate prefix
      → IsCarriedOut node (pins_and_covers node (first_request node joiner prefix)) (taken_at node from (Seek joiner))
      → TellsAreDeeper after
  seat_deeper joiner prefix is at found carried =
      let inv = is.invariant in
      let body = Seek joiner in
      let here = due p s number node from body is in
      let l = node.sessions.opened + 1 in
      let seeker = inv.seekers.seeks from (name_of node) joiner (way p s number node from body is) in
      let name = of_node p s number node from body is joiner (name_at p s is.nodes joiner seeker.state seeker.is) in
      let fits = seek_fits node from joiner prefix is.known found in
      let step = (opens_root s after number node from joiner (before_taking p s inv) (by_rule p s number node from body here)
      (remembers p s number node from body here) seeker (seek_opens node from joiner prefix at is.known found)).0 in
      let root = step.is in
      let shared = (surrogate_is node.ties.table here.is_node.ties.table joiner name fits.apart prefix found).0 in
      let inside = name_inside node.ties.table here.is_node.ties.table joiner name fits.apart in
      depths_law s after (sent_at s node from body)
      (root_turns_law s after number (frame_to node from body) (name_of node) l (sent_at s node from body) step inv.exact) inv.exact
      (sends_deeper body (first_request node joiner prefix) carried
      (λ session is. let same : session ≡ step.root = cc in ap (λ (o : OpenSession). o.depth) same ∙ step.deep)
      (above_prefix node (first_request node joiner prefix) here.is_node.ties name fits (omega arith) (omega (arith, shared))
      (omega (arith, shared, inside))))
      inv.deeper

  tell_goes : (tell : TellFields) (watch : List Slot) → IsDelivery p s number node from (tell_body tell watch) → node.status ≡ Core
      → TellsAreDeeper after
  unfolding frame_at_core
  tell_goes tell watch is at =
      tell_deeper tell watch is at
      (frame_law node (frame_to node from (tell_of tell watch)) (takes_tell node from tell watch) is.known (rw at refl))
      (tell_in_session node from tell watch (inl at) is.known)

  seek_goes : (joiner : List ℕ) → IsDelivery p s number node from (Seek joiner) → node.status ≡ Core → (found : Sought)
      → sought node.ties.table joiner ≡ found → TellsAreDeeper after
  unfolding frame_at_core
  seek_goes joiner is at (Forward next) found = (outside_books p s number node from (Seek joiner) is (next, found)).deeper
  seek_goes joiner is at (Surrogate prefix) found =
      let sought_on = frame_law node (frame_to node from (Seek joiner)) (takes_seek node joiner) is.known (rw at refl) in
      let carried : IsCarriedOut node (pins_and_covers node (first_request node joiner prefix)) (taken_at node from (Seek joiner)) =
      rw found at sought_on in
      seat_deeper joiner prefix is at found carried

pub frame_deeper : FrameDeeper
frame_deeper p s number node from body is there = by_said body (said_of body) is there
  where
    by_said : (body : Body) → Said body → IsDelivery p s number node from body → IsTakenThere node body
        → TellsAreDeeper (after_delivery p s number)
    by_said _ (IsTell tell watch) is there =
        elim there [
          | inl core ↦ tell_goes p s number node from tell watch is core
          | inr calm ↦ calm_deeper p s number node from (tell_body tell watch) is calm
        ]
    by_said _ (IsHello hello) is there = calm_deeper p s number node from (hello_body hello) is there
    by_said _ (IsHeard session) is there = calm_deeper p s number node from (Heard session) is there
    by_said _ (IsAck session) is there = calm_deeper p s number node from (Ack session) is there
    by_said _ (IsSeek joiner) is there = seek_goes p s number node from joiner is there (sought node.ties.table joiner) refl
    by_said body _ is there = (outside_books p s number node from body is there).deeper
