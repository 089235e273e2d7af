-- The sessions of casts after a Cast that is delivered.
use Rattle.std.proofs.Common.{◌≡◌, ◌⊎◌, ℕ, ◌+◌, ◌-◌, ◌<◌, ◌≤◌, Bool, true, false, List, [], ◌∷◌, ◌++◌, length, map, Option, None, Some, arith, sym, ap, subst, ◌∙◌, inl, inr}
use Rattle.std.specs.List.{slice_index_or}
use Rattle.std.proofs.lemmas.Bool.{true≢false}
use Rattle.tap_name.specs.Prefix.{lcp}
use Rattle.tap_name.proofs.Prefixes.{lcp-least}
use Rattle.tap_name.specs.Settings.{SettingsValue}
use Rattle.tap_session.specs.declared.parent.Parent.TheVariants.{Node}
use Rattle.tap_session.specs.Sessions.{opened_with}
use Rattle.tap_cast.specs.declared.target.CastTarget.{CastTarget}
use Rattle.tap_cast.proofs.Casting.{IsTarget}
use Rattle.tap_wire.specs.declared.frame.Body.{Body}
use Rattle.tap_wire.specs.declared.frame.Body.TheVariants.{Cast, CastAck}
use Rattle.tap_wire.specs.declared.frame.Frame.{Frame}
use Rattle.tap_rule.specs.Casts.{Copy, cast_for, cast_news, cast_of}
use Rattle.tap_rule.specs.Event.{Acted}
use Rattle.tap_rule.specs.KeptNode.{IsNode}
use Rattle.tap_rule.specs.RuleLaws.{IsCarriedOut, frame_to}
use Rattle.tap_rule.specs.Node.{NodeState, name_of}
use Rattle.tap_rule.specs.Node.Status.{Core}
use Rattle.tap_rule.specs.Reaction.{Message, Reaction, message}
use Rattle.tap_rule.specs.Sending.{lay_frame, link_frame, message_frame}
use Rattle.tap_rule.specs.Sent.{AreSent, IsAmong}
use Rattle.tap_rule.proofs.Among.{among-map_from}
use Rattle.tap_rule.proofs.OneName.{not_own}
use Rattle.tap_safety.specs.Remembered.{OpenSession}
use Rattle.tap_safety.specs.Sessions.{ways_of}
use Rattle.tap_safety.specs.SessionSteps.{HandsOn, OpensChild, child_of}
use Rattle.tap_safety.specs.Exchanges.{numbered_from}
use Rattle.tap_safety.specs.System.{System, AmongFrames}
use Rattle.tap_safety.proofs.SessionsKept.{same_place}
use Rattle.tap_safety.proofs.StepLaws.{handing_on_turns_law, opening_turns_law}
use Rattle.tap_moves.specs.ByRule.{taken_at}
use Rattle.tap_moves.specs.InvariantLaws.{IsDelivery}
use Rattle.tap_moves.proofs.Exchanged.{sent_numbered}
use Rattle.tap_cast_moves.specs.Recalled.{runs_noted}
use Rattle.tap_cast_moves.specs.Remembered.{CastMemory, CastRun}
use Rattle.tap_cast_moves.specs.SeenCasts.{cast_name, seen, seen_frame}
use Rattle.tap_cast_moves.specs.CastSessions.{CastSessions, HasCastPlace, IsCastWay}
use Rattle.tap_cast_moves.proofs.AsideMade.{frames_swap, recalled_runs}
use Rattle.tap_cast_moves.proofs.CastMade.{cast_answered, cast_hands, cast_opens, cast_spread, later, node_changes, of_cast, one_less, recall, seen_sent}
use Rattle.tap_cast_moves.proofs.CastPlaces.{RunGoesOn, StaysCasting, ends_on, places_on, run_goes_on, ways_on}
use Rattle.tap_cast_moves.proofs.CastSent.{IsAnswer, cast_of_next, cast_of_stays}
use Rattle.tap_cast_moves.proofs.CastTurns.{child_keeps, child_opens, hands_keeps, hands_opens}
use Rattle.tap_cast_moves.proofs.Noted.{RunsBecome, runs_become}
use Rattle.tap_cast_moves.proofs.Targets.{TakesCasts}

-- ---- what is sent

-- a Cast that is sent is one of the messages
pub record IsSentCast (own : List ℕ) (messages : List Message) (f : Frame) : Type 0 where
  pub message : Message
  pub among : IsAmong message messages
  pub is : f ≡ message_frame own message

pub sent_cast : (own : List ℕ) (rule : Reaction) (next : ℕ) (sent : List Frame) → AreSent own rule.words rule.messages sent
    → (m : ℕ) (w to : List ℕ) (cast level session depth : ℕ) (word : List ℕ)
    → AmongFrames m (record { from = w; to = to; body = Cast cast level session depth word }) (numbered_from next sent)
    → IsSentCast own rule.messages (record { from = w; to = to; body = Cast cast level session depth word })
sent_cast own rule next sent are m w to cast level session depth word among =
    let f : Frame = record { from = w; to = to; body = Cast cast level session depth word } in
    elim (are.each f (sent_numbered m f next sent among)) [
      | inl link ↦
          let wrong : Cast cast level session depth word ≡ (link_frame own link.word).body = ap (λ (g : Frame). g.body) link.is in cc
      | inr (inl named) ↦ record { message = named.message; among = named.among; is = named.is }
      | inr (inr lay) ↦ let wrong : Cast cast level session depth word ≡ (lay_frame own lay.lay).body = ap (λ (g : Frame). g.body) lay.is in cc
    ]

-- none is, if only answers are sent
pub answer_no_cast : (own : List ℕ) (messages : List Message) (w : List ℕ) (k : ℕ) → IsAnswer messages w k → (v to : List ℕ)
    (cast level session depth : ℕ) (word : List ℕ)
    → IsSentCast own messages (record { from = v; to = to; body = Cast cast level session depth word }) → ⊥
answer_no_cast own messages w k answer v to cast level session depth word is =
    by (subst (IsAmong is.message) answer is.among)
  where
    by : IsAmong is.message (message w (CastAck k) ∷ []) → ⊥
    by (inl same) =
        let wrong : Cast cast level session depth word ≡ CastAck k =
        ap (λ (g : Frame). g.body) is.is ∙ ap (λ (m : Message). m.body) same in
        cc
    by (inr none) = absurd none

-- what one Cast says another says
pub cast_parts : (c e l n k m d b : ℕ) (text word : List ℕ) → Cast c l k d text ≡ Cast e n m b word → (c ≡ e) × (l ≡ n) × (d ≡ b)
cast_parts c e l n k m d b text word is = (cc, cc, cc)

pub nothing_true : {A : Type 0} → false ≡ true → A
nothing_true wrong = absurd (true≢false (sym wrong))

-- ---- a Cast that is delivered

module _ (p : SettingsValue) (s : System) (r : CastMemory) (number : ℕ) (node : NodeState) (from : List ℕ)
    (cast level session depth : ℕ) (word : List ℕ) (is : IsDelivery p s number node from (Cast cast level session depth word))
    (sound : CastSessions p s r) where
  abbrev body : Body
  body = Cast cast level session depth word

  abbrev own : List ℕ
  own = name_of node

  abbrev s' : System
  s' = later p s r number node from body is

  abbrev r' : CastMemory
  r' = recall p s r number node from body is

  abbrev acted : Acted
  acted = taken_at node from body

  abbrev f : Frame
  f = seen_frame (frame_to node from body)

  -- the Cast, as it came
  pub cast_way : IsCastWay p s r from own cast level depth
  cast_way = sound.ways number from own cast level session depth word is.among

  module _ (rule : Reaction) (carried : IsCarriedOut node rule acted) (first : Bool) (news : rule.news ≡ cast_news cast first false) where
    pub becomes : RunsBecome r r' own cast first false
    becomes =
        runs_become r r' own cast first false
        (λ d. recalled_runs p s r number node from body is d ∙ ap (λ n. runs_noted r.cast own n d) (carried.news ∙ news))

    pub run_on : (d : ℕ) (run : CastRun) → r.cast d ≡ Some run → RunGoesOn r' d run
    run_on = run_goes_on r r' own cast first false becomes

    -- a Cast under way was under way, or is one of the messages
    way_was : (m : ℕ) (w to : List ℕ) (c l k d : ℕ) (text : List ℕ)
        → AmongFrames m (record { from = w; to = to; body = Cast c l k d text }) s'.frames
        → AmongFrames m (record { from = w; to = to; body = Cast c l k d text }) s.frames
        ⊎ IsSentCast own rule.messages (record { from = w; to = to; body = Cast c l k d text })
    way_was m w to c l k d text among =
        elim ((frames_swap p s r number node from body is).was m (record { from = w; to = to; body = Cast c l k d text }) among) [
          | inl old ↦ inl old
          | inr new ↦ inr (sent_cast own rule s.next acted.sent carried.sent m w to c l k d text new)
        ]

    -- ---- answered at once

    module _ (status : rule.state.status ≡ node.status) (answer : IsAnswer rule.messages from session)
        (sessions : rule.state.cast_sessions ≡ node.cast_sessions) (numbers : rule.state.cast_numbers ≡ node.cast_numbers) where
      hands : HandsOn (seen s r) (seen s' r') number f from session (seen_sent p s r number node from body is)
      hands = cast_hands p s r number node from cast level session depth word is sound rule carried answer sessions numbers

      stays : StaysCasting node acted.state
      stays = record {
        status = carried.status ∙ status;
        opened = let same = carried.cast_sessions ∙ sessions in rw same (omega arith);
        numbers = λ k low high. ap (λ ns. slice_index_or ns (k - 1) 0) (carried.cast_numbers ∙ numbers);
      }

      pub answered_sessions : CastSessions p s' r'
      answered_sessions =
          let turns = handing_on_turns_law (seen s r) (seen s' r') number f from session (seen_sent p s r number node from body is) hands
          sound.sessions.exact in
          record {
            sessions = cast_answered p s r number node from cast level session depth word is sound rule carried answer sessions numbers;
            places = places_on p s s' r r' own node acted.state (node_changes p s r number node from body is) stays sound run_on
                (seen_sent p s r number node from body is) turns
                (λ y m o there none. absurd (hands_opens (seen s r) (seen s' r') number f (seen_sent p s r number node from body is)
                from session y m o hands there none));
            ways = ways_on p s s' r r' own node acted.state (node_changes p s r number node from body is) stays sound run_on
                (λ m w to c l k d text among. elim (way_was m w to c l k d text among) [
                  | inl old ↦ inl old
                  | inr new ↦ absurd (answer_no_cast own rule.messages from session answer w to c l k d text new)
                ]);
            ends = ends_on s s' r r' own cast first false becomes (seen_sent p s r number node from body is) turns sound.ends
                (λ d apart. hands_keeps (seen s r) (seen s' r') number f (seen_sent p s r number node from body is) from session
                (cast_name d) hands)
                (λ d y m o there none top joiner. hands_opens (seen s r) (seen s' r') number f
                (seen_sent p s r number node from body is) from session y m o hands there none)
                nothing_true;
          }

    -- ---- sent on

    module _ (core : node.status ≡ Core) (status : rule.state.status ≡ node.status) (to : ℕ) (within : to ≤ p.digits)
        (targets : List CastTarget)
        (are : (target : CastTarget) → IsAmong target targets → IsTarget node.ties.table level to target × TakesCasts s target.to)
        (copies : rule.messages ≡ map (cast_for (record { cast = cast; level = level; parent = Node from session; depth = depth; word = word })
        (node.cast_sessions.opened + 1)) targets)
        (some : 1 ≤ length targets)
        (opens : rule.state.cast_sessions ≡ opened_with node.cast_sessions (Node from session) depth (length targets))
        (numbers : rule.state.cast_numbers ≡ node.cast_numbers ++ cast ∷ []) where
      abbrev copy : Copy
      copy = record { cast = cast; level = level; parent = Node from session; depth = depth; word = word }

      abbrev next : ℕ
      next = node.cast_sessions.opened + 1

      are_node : IsNode node
      are_node = (is.nodes.nodes own node is.at).is_node

      above : (target : CastTarget) → IsAmong target targets → 0 < target.level
      above target among = let more = (are target among).0.above in omega (arith, more)

      step : OpensChild (seen s r) (seen s' r') number f from session own next (seen_sent p s r number node from body is)
      step = cast_opens p s r number node from cast level session depth word is sound rule carried targets copies some above opens numbers

      casting : StaysCasting node acted.state
      casting = record {
        status = carried.status ∙ status;
        opened = let same = carried.cast_sessions ∙ opens in rw same (omega arith);
        numbers = λ k low high. cast_of_stays node acted.state (cast ∷ []) k (carried.cast_numbers ∙ numbers) low
            (let counted = are_node.cast_numbers in omega (arith, counted, high));
      }

      run_now : RunGoesOn r' cast cast_way.run
      run_now = run_on cast cast_way.run cast_way.started

      new_place : (y : List ℕ) (m : ℕ) (o : OpenSession) → r'.session y m ≡ Some o → r.session y m ≡ None → HasCastPlace p s' r' y m o
      new_place y m o there none =
          let here = child_opens (seen s r) (seen s' r') number f (seen_sent p s r number node from body is) from session own next y m o step
          there none in
          subst (λ z. HasCastPlace p s' r' z m o) (sym here.0)
          (subst (λ k. HasCastPlace p s' r' own k o) (sym here.1) (at_next o (ap (λ z. r'.session z next) (sym here.0) ∙ ap (r'.session y) (sym here.1) ∙ there)))
        where
          number_is : cast_of acted.state next ≡ cast
          number_is =
              cast_of_next node acted.state (Node from session) depth (length targets) cast are_node.cast_sessions are_node.cast_numbers
              (carried.cast_sessions ∙ opens) (carried.cast_numbers ∙ numbers)

          at_next : (o : OpenSession) → r'.session own next ≡ Some o → HasCastPlace p s' r' own next o
          at_next o there =
              let child = step.child in
              let same : o ≡ child_of step.before from session (ways_of own next (seen_sent p s r number node from body is)) = cc in
              let parent : o.parent ≡ Some (from, session) = ap (λ (c : OpenSession). c.parent) same in
              let deep : o.depth ≡ step.before.depth + 1 = ap (λ (c : OpenSession). c.depth) same in
              let less = one_less p s r number node from cast level session depth word is sound step.before step.parent_was in
              let shallow = cast_way.shallow in
              let inside = cast_way.within in
              record {
                state = acted.state;
                is = (node_changes p s r number node from body is).is;
                core = carried.status ∙ status ∙ core;
                from = omega arith;
                opened = let now = carried.cast_sessions ∙ opens in rw now (omega arith);
                cast = ap (λ (c : OpenSession). c.joiner) same
                    ∙ of_cast p s r number node from cast level session depth word is sound step.before step.parent_was
                    ∙ ap cast_name (sym number_is);
                run = run_now.now;
                started = ap r'.cast number_is ∙ run_now.is;
                root = λ top. let wrong : ◌≡◌ {A = Option (List ℕ × ℕ)} None (Some (from, session)) = sym top ∙ parent in absurd (cc);
                above = λ w k up mine.
                    let pair : ◌≡◌ {A = Option (List ℕ × ℕ)} (Some (from, session)) (Some (w, k)) = sym parent ∙ up in
                    not_own node (frame_to node from body) is.known ((same_place from w session k pair).0 ∙ mine);
                shallow = omega (arith, deep, less, shallow, inside);
              }

      target_way : (target : CastTarget) → IsAmong target targets → IsCastWay p s' r' own target.to cast target.level (depth + 1)
      target_way target among =
          let is_target = (are target among).0 in
          let takes = (are target among).1 in
          let level_is = is_target.level in
          let higher = is_target.above in
          let most = is_target.within in
          let from_is = cast_way.from in
          let shallow = cast_way.shallow in
          let begins = lcp-least cast_way.run.caster own target.to cast_way.run.level cast_way.begins (omega (arith, level_is, higher, from_is)) in
          let same_level = run_now.level in
          record {
            state = takes.state;
            is = elim ((node_changes p s r number node from body is).others target.to) [
              | inl here ↦ absurd (is_target.other here)
              | inr same ↦ same ∙ takes.is
            ];
            takes = takes.takes;
            run = run_now.now;
            started = run_now.is;
            from = omega (arith, same_level, from_is, higher);
            within = omega (arith, most, within);
            begins = subst (λ c. run_now.now.level ≤ lcp c target.to) (sym run_now.caster) (omega (arith, same_level, begins));
            shallow = omega (arith, shallow, higher);
            level_is = sym level_is;
            sent_within = subst (λ c. run_now.now.level ≤ lcp c own) (sym run_now.caster)
                (let within_own = cast_way.begins in omega (arith, same_level, within_own));
          }

      sent_way : (m : ℕ) (w to : List ℕ) (c l k d : ℕ) (text : List ℕ)
          → IsSentCast own rule.messages (record { from = w; to = to; body = Cast c l k d text }) → IsCastWay p s' r' w to c l d
      sent_way m w to c l k d text is_sent =
          let found = among-map_from (cast_for copy next) is_sent.message targets (subst (IsAmong is_sent.message) copies is_sent.among) in
          let frame = is_sent.is ∙ ap (message_frame own) found.2 in
          let from_is : w ≡ own = ap (λ (g : Frame). g.from) frame in
          let to_is : to ≡ found.0.to = ap (λ (g : Frame). g.to) frame in
          let parts = cast_parts c cast l found.0.level k next d (depth + 1) text word (ap (λ (g : Frame). g.body) frame) in
          rw (from_is, to_is, parts.0, parts.1, parts.2) (target_way found.0 found.1)

      pub spread_sessions : CastSessions p s' r'
      spread_sessions =
          let turns = opening_turns_law (seen s r) (seen s' r') number f from session own next (seen_sent p s r number node from body is) step
          sound.sessions.exact in
          record {
            sessions = cast_spread p s r number node from cast level session depth word is sound rule carried targets copies some above opens
                numbers;
            places = places_on p s s' r r' own node acted.state (node_changes p s r number node from body is) casting sound run_on
                (seen_sent p s r number node from body is) turns new_place;
            ways = ways_on p s s' r r' own node acted.state (node_changes p s r number node from body is) casting sound run_on
                (λ m w to c l k d text among. elim (way_was m w to c l k d text among) [
                  | inl old ↦ inl old
                  | inr new ↦ inr (sent_way m w to c l k d text new)
                ]);
            ends = ends_on s s' r r' own cast first false becomes (seen_sent p s r number node from body is) turns sound.ends
                (λ d apart. child_keeps (seen s r) (seen s' r') number f (seen_sent p s r number node from body is) from session own next
                (cast_name d) step)
                (λ d y m o there none top joiner. no_root y m o there none top)
                nothing_true;
          }
        where
          no_root : (y : List ℕ) (m : ℕ) (o : OpenSession) → r'.session y m ≡ Some o → r.session y m ≡ None → o.parent ≡ None → ⊥
          no_root y m o there none top =
              let here = child_opens (seen s r) (seen s' r') number f (seen_sent p s r number node from body is) from session own next y m o
              step there none in
              let mine : r'.session own next ≡ Some o = ap (λ z. r'.session z next) (sym here.0) ∙ ap (r'.session y) (sym here.1) ∙ there in
              let child = step.child in
              let same : o ≡ child_of step.before from session (ways_of own next (seen_sent p s r number node from body is)) = cc in
              let wrong : ◌≡◌ {A = Option (List ℕ × ℕ)} None (Some (from, session)) =
              sym top ∙ ap (λ (c : OpenSession). c.parent) same in
              cc
