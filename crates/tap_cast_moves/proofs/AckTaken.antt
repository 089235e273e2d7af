-- The sessions of casts after a CastAck that is delivered: it isn't the last answer of its session, or closes it.
use Rattle.std.proofs.Common.{◌≡◌, ◌≢◌, ◌⊎◌, ◌==◌, ℕ, ◌-◌, ◌<◌, ◌≤◌, Bool, true, false, List, [], ◌∷◌, length, Option, None, Some, if◌then◌else◌, arith, refl, sym, ap, subst, ◌∙◌, inl, inr}
use Rattle.std.specs.Prelude.{is_none}
use Rattle.std.specs.Option.{option_map}
use Rattle.std.specs.List.{slice_index_or}
use Rattle.std.proofs.lemmas.Bool.{cases_lt}
use Rattle.tap_name.specs.Settings.{SettingsValue}
use Rattle.tap_session.specs.declared.parent.Parent.{Parent}
use Rattle.tap_session.specs.declared.parent.Parent.TheVariants.{Node, Root}
use Rattle.tap_session.specs.declared.sessions.Answered.{Answered}
use Rattle.tap_session.specs.declared.sessions.Answered.TheVariants.{Open, Closed, Unknown}
use Rattle.tap_session.specs.Session.{Session}
use Rattle.tap_session.specs.Sessions.{answer_to, answered_at, session_of}
use Rattle.tap_wire.specs.declared.frame.Body.TheVariants.{Cast, CastAck}
use Rattle.tap_wire.specs.declared.frame.Frame.{Frame}
use Rattle.tap_rule.specs.Casts.{cast_answer, cast_news, cast_of, is_root, takes_cast_ack, takes_cast_ack_as}
use Rattle.tap_rule.specs.CastSteps.{CastAckStep}
use Rattle.tap_rule.specs.Event.{Acted}
use Rattle.tap_rule.specs.FrameRules.{frame_at_core}
use Rattle.tap_rule.specs.KeptNode.{IsNode}
use Rattle.tap_rule.specs.RuleLaws.{IsCarriedOut, frame_to}
use Rattle.tap_rule.specs.Node.{NodeState, join_session_at, name_of}
use Rattle.tap_rule.specs.Node.Status.{Core}
use Rattle.tap_rule.specs.Reaction.{Reaction}
use Rattle.tap_rule.specs.Sent.{IsAmong}
use Rattle.tap_rule.proofs.AnswerSteps.{other_number}
use Rattle.tap_rule.proofs.CarriedOut.{frame_law}
use Rattle.tap_rule.proofs.CastSteps.{cast_ack_law}
use Rattle.tap_safety.specs.Counted.{kept_parent, parent_at}
use Rattle.tap_safety.specs.CountSteps.{CountsDown, OthersStay}
use Rattle.tap_safety.specs.Remembered.{OpenSession, Token}
use Rattle.tap_safety.specs.Remembered.Token.{Way}
use Rattle.tap_safety.specs.Sessions.{AmongTokens, Awaits, IsRootless, ways_of}
use Rattle.tap_safety.specs.SessionSteps.{ClosesChild, ClosesRoot, Exchanges, HandsOn}
use Rattle.tap_safety.specs.System.{System, AmongFrames}
use Rattle.tap_safety.specs.Turned.{Taking, closed_by}
use Rattle.tap_safety.specs.Turns.{Turns}
use Rattle.tap_safety.proofs.StepLaws.{closing_turns_law, handing_on_turns_law, last_turns_law}
use Rattle.tap_moves.specs.ByRule.{taken_at}
use Rattle.tap_moves.specs.InvariantLaws.{IsDelivery}
use Rattle.tap_moves.specs.SessionsLaws.{sent_at}
use Rattle.tap_moves.proofs.SessionsMade.{node_parts, none_opened}
use Rattle.tap_cast_moves.specs.Recalled.{runs_noted}
use Rattle.tap_cast_moves.specs.Remembered.{CastMemory, CastRun}
use Rattle.tap_cast_moves.specs.SeenCasts.{cast_name, seen, seen_frame, seen_node, seen_parent, seen_session}
use Rattle.tap_cast_moves.specs.CastSessions.{AreSessionsOf, CastSessions, HasCastPlace}
use Rattle.tap_cast_moves.proofs.AsideMade.{frames_swap, recalled_runs, recalled_sessions}
use Rattle.tap_cast_moves.proofs.CastMade.{later, node_changes, recall, seen_changes, seen_new, seen_numbered, seen_sent, taking_seen}
use Rattle.tap_cast_moves.proofs.CastPlaces.{RunGoesOn, StaysCasting, ends_on, places_on, run_goes_on, ways_on}
use Rattle.tap_cast_moves.proofs.CastSent.{IsAnswer, answer_about, answer_asks, answer_counts, answer_deeper, answer_in, nothing_about, nothing_asks, nothing_deeper}
use Rattle.tap_cast_moves.proofs.CastTaken.{IsSentCast, answer_no_cast, nothing_true, sent_cast}
use Rattle.tap_cast_moves.proofs.CastTurns.{ClosesRootOf, closing_keeps, closing_opens, hands_keeps, hands_opens, last_keeps, last_opens, last_rootless}
use Rattle.tap_cast_moves.proofs.Made.{AsksNone, IsLast, closes_child, closes_root, hands_on}
use Rattle.tap_cast_moves.proofs.Noted.{RunsBecome, runs_become}
use Rattle.tap_cast_moves.proofs.Turning.{closed_parts, counted_down_parts, last_parts}
use Rattle.tap_cast_moves.proofs.View.{among_seen, exchanges_seen, none_of, sends_in, session_seen, ways_by_rule}

-- ---- what is seen of a node's sessions

mapped_some : (node : NodeState) (found : Option Session) (kept : Session) → option_map (seen_session node) found ≡ Some kept
    → (a : Session) × (found ≡ Some a) × (kept ≡ seen_session node a)
mapped_some node None kept is = cc
mapped_some node (Some a) kept is = (a, refl, cc)

seen_look : (before after : NodeState) → after.cast_numbers ≡ before.cast_numbers → (n : ℕ)
    → session_of after.cast_sessions.sessions n ≡ session_of before.cast_sessions.sessions n
    → join_session_at (seen_node after) n ≡ join_session_at (seen_node before) n
seen_look before after numbers n same =
    session_seen after n ∙ ap (option_map (seen_session after)) same ∙ again (session_of before.cast_sessions.sessions n)
    ∙ sym (session_seen before n)
  where
    again : (found : Option Session) → option_map (seen_session after) found ≡ option_map (seen_session before) found
    again None = refl
    again (Some a) =
        ap (λ ns. Some (record a { parent = seen_parent (slice_index_or ns (a.id - 1) 0) a.parent })) numbers

still_open : (found : Option Session) (k : ℕ) (a : Session) → found ≡ Some a → (if is_none found then Some k else None) ≡ None
still_open found k a is = rw is refl

now_closed : (found : Option Session) (k : ℕ) → found ≡ None → (if is_none found then Some k else None) ≡ Some k
now_closed found k is = rw is refl

-- of tokens of which there is one, each is that of this frame
one_token : (number : ℕ) (tokens : List Token) → length tokens ≡ 1 → AmongTokens (Way number) tokens → (token : Token)
    → AmongTokens token tokens → token ≡ Way number
one_token number [] one way token among = absurd among
one_token number (first ∷ []) one (inl is) token (inl same) = same ∙ sym is
one_token number (first ∷ []) one (inl is) token (inr none) = absurd none
one_token number (first ∷ []) one (inr none) token among = absurd none
one_token number (first ∷ second ∷ others) one way token among = absurd (omega (arith, one))

at_least_one : (tokens : List Token) (token : Token) → AmongTokens token tokens → 1 ≤ length tokens
at_least_one [] token among = absurd among
at_least_one (first ∷ others) token among = omega arith

module _ (p : SettingsValue) (s : System) (r : CastMemory) (number : ℕ) (node : NodeState) (from : List ℕ) (k : ℕ)
    (is : IsDelivery p s number node from (CastAck k)) (sound : CastSessions p s r) where
  abbrev own : List ℕ
  own = name_of node

  abbrev s' : System
  s' = later p s r number node from (CastAck k) is

  abbrev r' : CastMemory
  r' = recall p s r number node from (CastAck k) is

  abbrev acted : Acted
  acted = taken_at node from (CastAck k)

  abbrev f : Frame
  f = seen_frame (frame_to node from (CastAck k))

  abbrev t : Taking
  t = taking_seen p s r number node from (CastAck k) is

  abbrev sent : List (ℕ × Frame)
  sent = seen_sent p s r number node from (CastAck k) is

  abbrev rule : Reaction
  rule = takes_cast_ack node k

  -- its cast
  abbrev pub ack_cast : ℕ
  ack_cast = cast_of node k

  waits : Awaits (seen s r) own k (Way number)
  waits = sound.sessions.exact.frames number f own k (among_seen number (frame_to node from (CastAck k)) s.frames is.among) refl

  place : HasCastPlace p s r own k waits.session
  place = sound.places own k waits.session waits.is

  at_place : place.state ≡ node
  at_place = let here = is.at in let there = place.is in cc

  pub ack_core : node.status ≡ Core
  ack_core = subst (λ (n : NodeState). n.status ≡ Core) at_place place.core

  -- a session of its cast is open, and the cast was started
  pub ack_open : (o : OpenSession) × (r.session own k ≡ Some o) × (o.joiner ≡ cast_name ack_cast)
  ack_open = (waits.session, waits.is, place.cast ∙ ap (λ (n : NodeState). cast_name (cast_of n k)) at_place)

  pub ack_started : (run : CastRun) × (r.cast ack_cast ≡ Some run)
  ack_started = (place.run, ap (λ (n : NodeState). r.cast (cast_of n k)) (sym at_place) ∙ place.started)

  are_node : IsNode node
  are_node = (is.nodes.nodes own node is.at).is_node

  pub ack_carried : IsCarriedOut node rule acted
  unfolding frame_at_core
  ack_carried = frame_law node (frame_to node from (CastAck k)) rule is.known (rw ack_core refl)

  pub ack : CastAckStep node k acted
  ack = cast_ack_law node from k are_node.cast_sessions ack_core is.known

  -- the session as the node keeps it
  record IsKeptHere : Type 0 where
    session : Session
    found : session_of node.cast_sessions.sessions k ≡ Some session
    parent : seen_parent (cast_of node session.id) session.parent ≡ kept_parent waits.session
    waiting : session.waiting ≡ length waits.session.awaits

  kept_here : IsKeptHere
  kept_here =
      let kept = sound.sessions.counted.kept own k waits.session (seen_node node) waits.is (ap (option_map seen_node) is.at) in
      let real = mapped_some node (session_of node.cast_sessions.sessions k) kept.0 (sym (session_seen node k) ∙ kept.1) in
      record {
        session = real.0;
        found = real.1;
        parent = ap (λ (a : Session). a.parent) (sym real.2) ∙ kept.2.parent;
        waiting = ap (λ (a : Session). a.waiting) (sym real.2) ∙ kept.2.waiting;
      }

  pub ack_becomes : (closed : Bool) → acted.news ≡ cast_news ack_cast false closed → RunsBecome r r' own ack_cast false closed
  ack_becomes closed news =
      runs_become r r' own ack_cast false closed
      (λ d. recalled_runs p s r number node from (CastAck k) is d ∙ ap (λ n. runs_noted r.cast own n d) news)

  swap : Exchanges (seen s r) (seen s' r') number f sent
  swap =
      exchanges_seen s s' r r' number (frame_to node from (CastAck k)) (sent_at s node from (CastAck k))
      (frames_swap p s r number node from (CastAck k) is)

  opens_none : (if (seen_node acted.state).sessions.opened == (seen_node node).sessions.opened then None
      else join_session_at (seen_node acted.state) (seen_node acted.state).sessions.opened) ≡ None
  opens_none = none_opened (seen_node node).sessions (seen_node acted.state).sessions ack.opened

  others : OthersStay (seen_node node) (seen_node acted.state) k
  others n = elim (ack.others n) [ inl here ↦ inl here | inr same ↦ inr (seen_look node acted.state ack.numbers n same) ]

  pub ack_stays : StaysCasting node acted.state
  ack_stays = record {
    status = ack_carried.status ∙ status_same (answer_to (session_of node.cast_sessions.sessions k));
    opened = let same = ack.opened in omega (arith, same);
    numbers = λ n low high. ap (λ ns. slice_index_or ns (n - 1) 0) ack.numbers;
  }
    where
      status_same : (answer : Answered)
          → (takes_cast_ack_as (record node { cast_sessions = answered_at node.cast_sessions k }) (cast_of node k) answer).state.status ≡ node.status
      status_same Open = refl
      status_same (Closed parent) = refl
      status_same Unknown = refl

  -- ---- what is sent

  -- as the answer says
  messages_as : (answer : Answered) → answer_to (session_of node.cast_sessions.sessions k) ≡ answer → rule.messages
      ≡ (takes_cast_ack_as (record node { cast_sessions = answered_at node.cast_sessions k }) (cast_of node k) answer).messages
  messages_as answer same =
      ap (λ a. (takes_cast_ack_as (record node { cast_sessions = answered_at node.cast_sessions k }) (cast_of node k) a).messages) same

  news_as : (answer : Answered) → answer_to (session_of node.cast_sessions.sessions k) ≡ answer → acted.news
      ≡ (takes_cast_ack_as (record node { cast_sessions = answered_at node.cast_sessions k }) (cast_of node k) answer).news
  news_as answer same =
      ack_carried.news
      ∙ ap (λ a. (takes_cast_ack_as (record node { cast_sessions = answered_at node.cast_sessions k }) (cast_of node k) a).news) same

  way_was : (m : ℕ) (w to : List ℕ) (c l n d : ℕ) (text : List ℕ)
      → AmongFrames m (record { from = w; to = to; body = Cast c l n d text }) s'.frames
      → AmongFrames m (record { from = w; to = to; body = Cast c l n d text }) s.frames
      ⊎ IsSentCast own rule.messages (record { from = w; to = to; body = Cast c l n d text })
  way_was m w to c l n d text among =
      elim ((frames_swap p s r number node from (CastAck k) is).was m (record { from = w; to = to; body = Cast c l n d text }) among) [
        | inl old ↦ inl old
        | inr new ↦ inr (sent_cast own rule s.next acted.sent ack_carried.sent m w to c l n d text new)
      ]

  -- no Cast is sent
  pub ack_way_was : (m : ℕ) (w to : List ℕ) (c l n d : ℕ) (text : List ℕ)
      → AmongFrames m (record { from = w; to = to; body = Cast c l n d text }) s'.frames
      → AmongFrames m (record { from = w; to = to; body = Cast c l n d text }) s.frames
  ack_way_was m w to c l n d text among =
      elim (way_was m w to c l n d text among) [
        | inl old ↦ old
        | inr new ↦ absurd (by (answer_to (session_of node.cast_sessions.sessions k)) refl new)
      ]
    where
      by_parent : (parent : Parent) → rule.messages ≡ cast_answer parent
          → IsSentCast own rule.messages (record { from = w; to = to; body = Cast c l n d text }) → ⊥
      by_parent (Root name) none new = subst (IsAmong new.message) none new.among
      by_parent (Node name session) answer new = answer_no_cast own rule.messages name session answer w to c l n d text new

      by : (answer : Answered) → answer_to (session_of node.cast_sessions.sessions k) ≡ answer
          → IsSentCast own rule.messages (record { from = w; to = to; body = Cast c l n d text }) → ⊥
      by Open same new = subst (IsAmong new.message) (messages_as Open same) new.among
      by (Closed parent) same new = by_parent parent (messages_as (Closed parent) same) new
      by Unknown same new = subst (IsAmong new.message) (messages_as Unknown same) new.among

  module _ (closed : Bool) (news : acted.news ≡ cast_news ack_cast false closed) where
    run_on : (d : ℕ) (run : CastRun) → r.cast d ≡ Some run → RunGoesOn r' d run
    run_on = run_goes_on r r' own ack_cast false closed (ack_becomes closed news)

    -- the sessions, once they have turned
    assembled : (turns : Turns (seen s r) (seen s' r') sent) → AreSessionsOf (seen s' r')
        → ((y : List ℕ) (m : ℕ) (o : OpenSession) → r'.session y m ≡ Some o → r.session y m ≡ None → ⊥)
        → ((d : ℕ) → (closed ≡ true → d ≡ ack_cast → ⊥) → ClosesRootOf (seen s r) (seen s' r') (cast_name d))
        → (closed ≡ true → IsRootless (seen s' r') (cast_name ack_cast)) → CastSessions p s' r'
    assembled turns parts none closes last = record {
      sessions = parts;
      places = places_on p s s' r r' own node acted.state (node_changes p s r number node from (CastAck k) is) ack_stays sound run_on
          sent turns (λ y m o there fresh. absurd (none y m o there fresh));
      ways = ways_on p s s' r r' own node acted.state (node_changes p s r number node from (CastAck k) is) ack_stays sound run_on
          (λ m w to c l n d text among. inl (ack_way_was m w to c l n d text among));
      ends = ends_on s s' r r' own ack_cast false closed (ack_becomes closed news) sent turns sound.ends closes
          (λ d y m o there fresh top joiner. none y m o there fresh) last;
    }

  -- ---- it isn't the last one

  module _ (more : 1 < length waits.session.awaits) where
    abbrev kept_many : 1 < kept_here.session.waiting
    kept_many = let same = kept_here.waiting in omega (arith, same, more)

    is_open : answer_to (session_of node.cast_sessions.sessions k) ≡ Open
    is_open = rw (kept_here.found, other_number kept_here.session.waiting kept_many) refl

    none_sent : rule.messages ≡ []
    none_sent = messages_as Open is_open

    asks_nothing : AsksNone t
    asks_nothing = nothing_asks own rule.messages none_sent rule.words s.next acted.sent ack_carried.sent

    goes_on : session_of acted.state.cast_sessions.sessions k
        ≡ Some (record kept_here.session { waiting = kept_here.session.waiting - 1 })
    goes_on = ack.goes_on kept_here.session kept_here.found kept_many

    seen_goes_on : join_session_at (seen_node acted.state) k
        ≡ Some (seen_session acted.state (record kept_here.session { waiting = kept_here.session.waiting - 1 }))
    seen_goes_on = session_seen acted.state k ∙ ap (option_map (seen_session acted.state)) goes_on

    hands : HandsOn (seen s r) (seen s' r') number f own k sent
    hands =
        hands_on (seen s r) (seen s' r') t (recalled_sessions p s r number node from (CastAck k) is) swap sound.sessions.exact own k refl
        (still_open (join_session_at (seen_node acted.state) k) k
        (seen_session acted.state (record kept_here.session { waiting = kept_here.session.waiting - 1 })) seen_goes_on)
        opens_none (λ m g y n among belongs. absurd (asks_nothing m g y n among belongs))

    down : CountsDown (seen_node node) (seen_node acted.state) k
    down = record {
      old = seen_session node kept_here.session;
      was = session_seen node k ∙ ap (option_map (seen_session node)) kept_here.found;
      now = seen_session acted.state (record kept_here.session { waiting = kept_here.session.waiting - 1 });
      is = seen_goes_on;
      parent = ap (λ ns. seen_parent (slice_index_or ns (kept_here.session.id - 1) 0) kept_here.session.parent) ack.numbers;
      depth = refl;
      waiting = omega (arith, kept_many);
      others = others;
    }

    ack_on : CastSessions p s' r'
    ack_on =
        let step = hands in
        let one = waits.is in
        let other = step.was in
        let same : waits.session ≡ step.before = cc in
        let all_more = subst (λ (o : OpenSession). 1 < length o.awaits) same more in
        let none = none_of (ways_of own k sent)
        (ways_by_rule node rule acted own k s.next ack_carried (λ m among. absurd (subst (IsAmong m) none_sent among)) ∙ ap length none_sent) in
        assembled false (news_as Open is_open) (handing_on_turns_law (seen s r) (seen s' r') number f own k sent step sound.sessions.exact)
        (counted_down_parts (seen s r) (seen s' r') number f sent (seen_new p s r number node from (CastAck k) is)
        (seen_numbered p s r number node from (CastAck k) is) sound.sessions (nothing_deeper (seen s' r') sent asks_nothing)
        (nothing_about (seen s' r') sent asks_nothing) own k (seen_node node) (seen_node acted.state) step
        (seen_changes p s r number node from (CastAck k) is) down none all_more)
        (λ y m o there fresh. hands_opens (seen s r) (seen s' r') number f sent own k y m o step there fresh)
        (λ d apart. hands_keeps (seen s r) (seen s' r') number f sent own k (cast_name d) step) nothing_true

  -- ---- it is the last one

  module _ (one : length waits.session.awaits ≡ 1) where
    abbrev kept_one : kept_here.session.waiting ≡ 1
    kept_one = kept_here.waiting ∙ one

    is_closed : answer_to (session_of node.cast_sessions.sessions k) ≡ Closed kept_here.session.parent
    is_closed = rw (kept_here.found, kept_one) refl

    last : IsLast (seen s r) t k
    last = record { session = waits.session; is = waits.is; only = one_token number waits.session.awaits one waits.among }

    gone : session_of acted.state.cast_sessions.sessions k ≡ None
    gone = (ack.closes kept_here.session kept_here.found kept_one).0

    seen_gone : join_session_at (seen_node acted.state) k ≡ None
    seen_gone = session_seen acted.state k ∙ ap (option_map (seen_session acted.state)) gone

    closes_it : closed_by f.body (seen_node acted.state) ≡ Some k
    closes_it = now_closed (join_session_at (seen_node acted.state) k) k seen_gone

    -- of a cast's root session
    module _ (name : List ℕ) (parent : kept_here.session.parent ≡ Root name) where
      top : waits.session.parent ≡ None
      top = by waits.session.parent refl
        where
          by : (above : Option (List ℕ × ℕ)) → waits.session.parent ≡ above → waits.session.parent ≡ None
          by None is_none = is_none
          by (Some (w, m)) above =
              let kept = kept_here.parent in
              let wrong : Root (cast_name (cast_of node kept_here.session.id)) ≡ Node w m =
              ap (seen_parent (cast_of node kept_here.session.id)) (sym parent) ∙ kept ∙ ap (parent_at waits.session.joiner) above in
              cc

      none_then : rule.messages ≡ []
      none_then = messages_as (Closed kept_here.session.parent) is_closed ∙ ap cast_answer parent

      asks_none : AsksNone t
      asks_none = nothing_asks own rule.messages none_then rule.words s.next acted.sent ack_carried.sent

      root_closes : ClosesRoot (seen s r) (seen s' r') number f own k sent
      unfolding last
      root_closes =
          closes_root (seen s r) (seen s' r') t (recalled_sessions p s r number node from (CastAck k) is) swap sound.sessions.exact k last
          refl closes_it opens_none top asks_none

      root_news : acted.news ≡ cast_news ack_cast false true
      root_news = news_as (Closed kept_here.session.parent) is_closed ∙ ap (λ up. cast_news (cast_of node k) false (is_root up)) parent

      joiner_is : root_closes.closes.session.joiner ≡ cast_name ack_cast
      joiner_is =
          let here = root_closes.closes.was in
          let there = waits.is in
          let same : root_closes.closes.session ≡ waits.session = cc in
          ap (λ (o : OpenSession). o.joiner) same ∙ place.cast ∙ ap (λ (n : NodeState). cast_name (cast_of n k)) at_place

      ack_closes_root : CastSessions p s' r'
      ack_closes_root =
          let step = root_closes in
          assembled true root_news (last_turns_law (seen s r) (seen s' r') number f own k sent step sound.sessions.exact)
          (last_parts (seen s r) (seen s' r') number f sent (seen_new p s r number node from (CastAck k) is)
          (seen_numbered p s r number node from (CastAck k) is) sound.sessions (nothing_deeper (seen s' r') sent asks_none)
          (nothing_about (seen s' r') sent asks_none) own k (seen_node node) (seen_node acted.state) step
          (seen_changes p s r number node from (CastAck k) is) others seen_gone)
          (λ y m o there fresh. last_opens (seen s r) (seen s' r') number f sent own k y m o step there fresh)
          (λ d apart. last_keeps (seen s r) (seen s' r') number f sent own k (cast_name d) step (λ same. apart refl (one_cast d
          (sym joiner_is ∙ same))))
          (λ done. subst (IsRootless (seen s' r')) joiner_is
          (last_rootless (seen s r) (seen s' r') number f sent own k step sound.sessions.exact))
        where
          one_cast : (d : ℕ) → cast_name ack_cast ≡ cast_name d → d ≡ ack_cast
          one_cast d same = cc

    -- of a session that answers another
    module _ (w : List ℕ) (m : ℕ) (parent : kept_here.session.parent ≡ Node w m) where
      up : waits.session.parent ≡ Some (w, m)
      up = by waits.session.parent refl
        where
          kept : Node w m ≡ kept_parent waits.session
          kept = ap (seen_parent (cast_of node kept_here.session.id)) (sym parent) ∙ kept_here.parent

          by : (above : Option (List ℕ × ℕ)) → waits.session.parent ≡ above → waits.session.parent ≡ Some (w, m)
          by None is_none = let wrong : Node w m ≡ Root waits.session.joiner = kept ∙ ap (parent_at waits.session.joiner) is_none in cc
          by (Some (y, n)) above =
              let same : Node w m ≡ Node y n = kept ∙ ap (parent_at waits.session.joiner) above in
              let parts = node_parts w y m n same in
              above ∙ ap (λ z. Some (z, n)) parts.0 ∙ ap (λ l. Some (w, l)) parts.1

      answers : IsAnswer rule.messages w m
      answers = messages_as (Closed kept_here.session.parent) is_closed ∙ ap cast_answer parent

      apart : w ≢ own
      apart = place.above w m up

      child_closes : ClosesChild (seen s r) (seen s' r') number f own k w m sent
      unfolding last
      child_closes =
          closes_child (seen s r) (seen s' r') t (recalled_sessions p s r number node from (CastAck k) is) swap sound.sessions.exact k last
          refl closes_it opens_none w m up apart (answer_asks own rule.messages w m answers rule.words s.next acted.sent ack_carried.sent)

      child_news : acted.news ≡ cast_news ack_cast false false
      child_news = news_as (Closed kept_here.session.parent) is_closed ∙ ap (λ above. cast_news (cast_of node k) false (is_root above)) parent

      ack_closes_child : CastSessions p s' r'
      ack_closes_child =
          let step = child_closes in
          let count : length (ways_of w m sent) ≡ 1 =
          ways_by_rule node rule acted w m s.next ack_carried (answer_in own rule.messages w m answers)
          ∙ answer_counts own rule.messages w m answers in
          assembled false child_news (closing_turns_law (seen s r) (seen s' r') number f own k w m sent step sound.sessions.exact)
          (closed_parts (seen s r) (seen s' r') number f sent (seen_new p s r number node from (CastAck k) is)
          (seen_numbered p s r number node from (CastAck k) is) sound.sessions
          (answer_deeper own rule.messages w m answers rule.words s.next acted.sent ack_carried.sent (seen s' r'))
          (answer_about own rule.messages w m answers rule.words s.next acted.sent ack_carried.sent (seen s' r')) own k w m (seen_node node)
          (seen_node acted.state) step (seen_changes p s r number node from (CastAck k) is) others seen_gone count
          (sends_in w m sent (ways_of w m sent) refl (omega (arith, count))))
          (λ y n o there fresh. closing_opens (seen s r) (seen s' r') number f sent own k w m y n o step there fresh)
          (λ d other. closing_keeps (seen s r) (seen s' r') number f sent own k w m (cast_name d) step) nothing_true

  -- ---- in whichever of these three cases

  -- whether its cast is closed by it
  pub record AckIsTaken : Type 0 where
    pub closed : Bool
    pub news : acted.news ≡ cast_news ack_cast false closed
    pub sessions : CastSessions p s' r'

  pub ack_is_taken : AckIsTaken
  ack_is_taken =
      elim (cases_lt 1 (length waits.session.awaits)) [
        | inl more ↦ record { closed = false; news = news_as Open (is_open more); sessions = ack_on more }
        | inr most ↦
            let some = at_least_one waits.session.awaits (Way number) waits.among in
            by_parent (omega (arith, some, most)) kept_here.session.parent refl
      ]
    where
      by_parent : length waits.session.awaits ≡ 1 → (parent : Parent) → kept_here.session.parent ≡ parent → AckIsTaken
      by_parent one (Root name) parent =
          record { closed = true; news = root_news one name parent; sessions = ack_closes_root one name parent }
      by_parent one (Node w m) parent =
          record { closed = false; news = child_news one w m parent; sessions = ack_closes_child one w m parent }
