-- What a node sends in sessions of casts, as it is seen: an answer to a parent, and copies for targets; and the sessions that it opens.
use Rattle.std.proofs.Common.{◌≡◌, ◌⊎◌, ◌==◌, ℕ, ◌+◌, ◌<◌, ◌≤◌, ◌-◌, Bool, true, false, List, [], ◌∷◌, ◌++◌, length, map, Option, None, Some, if◌then◌else◌, arith, refl, sym, ap, subst, ◌∙◌, inl, inr, eqb-true}
use Rattle.std.specs.List.{slice_index_or}
use Rattle.std.specs.Option.{option_map}
use Rattle.std.proofs.lemmas.Bool.{cases_Bool}
use Rattle.std.proofs.lemmas.List.{get_or_append_left}
use Rattle.tap_name.specs.declared.slot.Slot.{Slot}
use Rattle.tap_session.specs.declared.parent.Parent.{Parent}
use Rattle.tap_session.specs.Session.{Session, SessionsValue}
use Rattle.tap_session.specs.Sessions.{AreSessions, next_session, opened_with, session_of}
use Rattle.tap_session.proofs.Transitions.{All-found, session_of-opened}
use Rattle.tap_table.specs.declared.tie.Tie.{Tie}
use Rattle.tap_cast.specs.declared.target.CastTarget.{CastTarget}
use Rattle.tap_wire.specs.declared.frame.Body.{Body}
use Rattle.tap_wire.specs.declared.frame.Body.TheVariants.{Ack, CastAck, Tell}
use Rattle.tap_wire.specs.declared.frame.Frame.{Frame}
use Rattle.tap_wire.specs.declared.frame.TellFields.{TellFields}
use Rattle.tap_rule.specs.Casts.{Copy, cast_for, cast_of}
use Rattle.tap_rule.specs.Node.{NodeState, join_session_at}
use Rattle.tap_rule.specs.Reaction.{Message, message}
use Rattle.tap_rule.specs.Sending.{message_frame}
use Rattle.tap_rule.specs.Sent.{AreSent, IsAmong}
use Rattle.tap_rule.proofs.Among.{among-map_from}
use Rattle.tap_rule.proofs.AnswerSteps.{same_number}
use Rattle.tap_rule.proofs.Said.{cast_of_law}
use Rattle.tap_safety.specs.Bookkeeping.{SendsDeeper}
use Rattle.tap_safety.specs.CountSteps.{OthersStay}
use Rattle.tap_safety.specs.Frames.{tell_body}
use Rattle.tap_safety.specs.Joins.{AreAbout, about}
use Rattle.tap_safety.specs.Remembered.{OpenSession}
use Rattle.tap_safety.specs.Sessions.{Belongs, IsOpen}
use Rattle.tap_safety.specs.Exchanges.{numbered_from}
use Rattle.tap_safety.specs.System.{System, AmongFrames}
use Rattle.tap_safety.proofs.SessionsKept.{same_place}
use Rattle.tap_cast_moves.specs.SeenCasts.{cast_name, seen_frame, seen_frames, seen_node, seen_parent, seen_session}
use Rattle.tap_cast_moves.proofs.View.{AreSeenIn, seen_message, session_seen}

-- ---- an answer to a parent

-- the one message, if there is one, is this answer
abbrev pub IsAnswer : List Message → List ℕ → ℕ → Type 0
IsAnswer messages w k = messages ≡ message w (CastAck k) ∷ []

module _ (own : List ℕ) (messages : List Message) (w : List ℕ) (k : ℕ) (answer : IsAnswer messages w k) where
  abbrev seen_answer : Frame
  seen_answer = seen_frame (message_frame own (message w (CastAck k)))

  answer_is : (m : Message) → IsAmong m messages → seen_frame (message_frame own m) ≡ seen_answer
  answer_is m among = by (subst (IsAmong m) answer among)
    where
      by : IsAmong m (message w (CastAck k) ∷ []) → seen_frame (message_frame own m) ≡ seen_answer
      by (inl is) = ap (λ n. seen_frame (message_frame own n)) is
      by (inr none) = absurd none

  pub answer_in : AreSeenIn own messages w k
  answer_in m among = subst (λ g. Belongs g w k) (sym (answer_is m among)) refl

  pub answer_counts : length messages ≡ 1
  answer_counts = ap length answer

  module _ (words : List Tie) (next : ℕ) (sent : List Frame) (are : AreSent own words messages sent) where
    sent_answer : (m : ℕ) (g : Frame) (y : List ℕ) (n : ℕ) → AmongFrames m g (seen_frames (numbered_from next sent)) → Belongs g y n
        → g ≡ seen_answer
    sent_answer m g y n among belongs =
        let found = seen_message own words messages next sent are m g y n among belongs in found.is ∙ answer_is found.message found.among

    pub answer_asks : (m : ℕ) (g : Frame) (y : List ℕ) (n : ℕ) → AmongFrames m g (seen_frames (numbered_from next sent)) → Belongs g y n
        → (y ≡ w) × (n ≡ k)
    answer_asks m g y n among belongs =
        let here : Belongs seen_answer y n = subst (λ h. Belongs h y n) (sent_answer m g y n among belongs) belongs in
        let same = same_place w y k n here in
        (sym same.0, sym same.1)

    pub answer_deeper : (v : System) → SendsDeeper v (seen_frames (numbered_from next sent))
    answer_deeper v = record {
      depth = λ from to fields watch m session among is. absurd (never from to fields watch m among);
      level = λ from to fields watch m among. absurd (never from to fields watch m among);
    }
      where
        never : (from to : List ℕ) (fields : TellFields) (watch : List Slot) (m : ℕ)
            → AmongFrames m (record { from = from; to = to; body = tell_body fields watch }) (seen_frames (numbered_from next sent)) → ⊥
        never from to fields watch m among =
            let is = sent_answer m (record { from = from; to = to; body = tell_body fields watch }) from fields.session among refl in
            let body : tell_body fields watch ≡ Ack k = ap (λ (f : Frame). f.body) is in
            cc

    pub answer_about : (v : System) → AreAbout v (seen_frames (numbered_from next sent))
    answer_about v m f x n session b among belongs is of =
        let same = sent_answer m f x n among belongs in
        let wrong : ◌≡◌ {A = Option (List ℕ)} None (Some b) = ap about (sym same) ∙ of in
        absurd (cc)

-- ---- nothing

pub nothing_asks : (own : List ℕ) (messages : List Message) → messages ≡ [] → (words : List Tie) (next : ℕ) (sent : List Frame)
    → AreSent own words messages sent → (m : ℕ) (g : Frame) (y : List ℕ) (n : ℕ) → AmongFrames m g (seen_frames (numbered_from next sent))
    → Belongs g y n → ⊥
nothing_asks own messages none words next sent are m g y n among belongs =
    let found = seen_message own words messages next sent are m g y n among belongs in
    subst (IsAmong found.message) none found.among

pub nothing_deeper : (v : System) (sent : List (ℕ × Frame)) → ((m : ℕ) (g : Frame) (y : List ℕ) (n : ℕ) → AmongFrames m g sent → Belongs g y n → ⊥)
    → SendsDeeper v sent
nothing_deeper v sent none = record {
  depth = λ from to fields watch m session among is.
      absurd (none m (record { from = from; to = to; body = tell_body fields watch }) from fields.session among refl);
  level = λ from to fields watch m among.
      absurd (none m (record { from = from; to = to; body = tell_body fields watch }) from fields.session among refl);
}

pub nothing_about : (v : System) (sent : List (ℕ × Frame)) → ((m : ℕ) (g : Frame) (y : List ℕ) (n : ℕ) → AmongFrames m g sent → Belongs g y n → ⊥)
    → AreAbout v sent
nothing_about v sent none m f x n session b among belongs is of = absurd (none m f x n among belongs)

-- ---- copies for targets

module _ (own : List ℕ) (copy : Copy) (l : ℕ) (targets : List CastTarget) (messages : List Message)
    (copies : messages ≡ map (cast_for copy l) targets) where
  -- the copy for a target, as it is seen
  abbrev seen_copy : CastTarget → Frame
  seen_copy target = seen_frame (message_frame own (cast_for copy l target))

  record IsCopy (g : Frame) : Type 0 where
    target : CastTarget
    among : IsAmong target targets
    is : g ≡ seen_copy target

  copy_is : (m : Message) → IsAmong m messages → IsCopy (seen_frame (message_frame own m))
  copy_is m among =
      let found = among-map_from (cast_for copy l) m targets (subst (IsAmong m) copies among) in
      record { target = found.0; among = found.1; is = ap (λ n. seen_frame (message_frame own n)) found.2 }

  pub copies_in : AreSeenIn own messages own l
  copies_in m among = let is = copy_is m among in subst (λ g. Belongs g own l) (sym is.is) refl

  module _ (words : List Tie) (next : ℕ) (sent : List Frame) (are : AreSent own words messages sent) where
    sent_copy : (m : ℕ) (g : Frame) (y : List ℕ) (n : ℕ) → AmongFrames m g (seen_frames (numbered_from next sent)) → Belongs g y n → IsCopy g
    sent_copy m g y n among belongs =
        let found = seen_message own words messages next sent are m g y n among belongs in
        let is = copy_is found.message found.among in
        record { target = is.target; among = is.among; is = found.is ∙ is.is }

    pub copies_ask : (m : ℕ) (g : Frame) (y : List ℕ) (n : ℕ) → AmongFrames m g (seen_frames (numbered_from next sent)) → Belongs g y n
        → (y ≡ own) × (n ≡ l)
    copies_ask m g y n among belongs =
        let is = sent_copy m g y n among belongs in
        let here : Belongs (seen_copy is.target) y n = subst (λ h. Belongs h y n) is.is belongs in
        let same = same_place own y l n here in
        (sym same.0, sym same.1)

    -- in a session that is of the cast, at this depth
    module _ (v : System) (o : OpenSession) (is : IsOpen v own l o) (joiner : o.joiner ≡ cast_name copy.cast) (deep : o.depth ≡ copy.depth) where
      one_open : (x : List ℕ) (k : ℕ) (other : OpenSession) → (x ≡ own) × (k ≡ l) → IsOpen v x k other → other ≡ o
      one_open x k other here there =
          let mine : IsOpen v own l other = ap (λ z. v.session z l) (sym here.0) ∙ ap (v.session x) (sym here.1) ∙ there in
          cc

      pub copies_deeper : ((target : CastTarget) → IsAmong target targets → 0 < target.level) → SendsDeeper v (seen_frames (numbered_from next sent))
      copies_deeper above = record {
        depth = λ from to fields watch m session among there.
            let g : Frame = record { from = from; to = to; body = tell_body fields watch } in
            let sent_as = sent_copy m g from fields.session among refl in
            let place = copies_ask m g from fields.session among refl in
            let same = one_open from fields.session session place there in
            let depth : fields.depth ≡ copy.depth + 1 =
            ap (depth_in fields.depth) (ap (λ (f : Frame). f.body) sent_as.is) in
            let was = ap (λ (s : OpenSession). s.depth) same in
            omega (arith, depth, was, deep);
        level = λ from to fields watch m among.
            let g : Frame = record { from = from; to = to; body = tell_body fields watch } in
            let sent_as = sent_copy m g from fields.session among refl in
            let body = ap (λ (f : Frame). f.body) sent_as.is in
            let prefix : fields.prefix ≡ 0 = ap (prefix_in fields.prefix) body in
            let level : fields.level ≡ sent_as.target.level = ap (level_in fields.level) body in
            let more = above sent_as.target sent_as.among in
            omega (arith, prefix, level, more);
      }
        where
          depth_in : ℕ → Body → ℕ
          depth_in other (Tell joiner prefix level session depth watch) = depth
          depth_in other _ = other

          prefix_in : ℕ → Body → ℕ
          prefix_in other (Tell joiner prefix level session depth watch) = prefix
          prefix_in other _ = other

          level_in : ℕ → Body → ℕ
          level_in other (Tell joiner prefix level session depth watch) = level
          level_in other _ = other

      pub copies_about : AreAbout v (seen_frames (numbered_from next sent))
      copies_about m f x k session b among belongs there of =
          let sent_as = sent_copy m f x k among belongs in
          let place = copies_ask m f x k among belongs in
          let same = one_open x k session place there in
          let name : ◌≡◌ {A = Option (List ℕ)} (Some (cast_name copy.cast)) (Some b) = ap about (sym sent_as.is) ∙ of in
          let named : cast_name copy.cast ≡ b = ap (name_in b) name in
          ap (λ (s : OpenSession). s.joiner) same ∙ joiner ∙ named
        where
          name_in : List ℕ → Option (List ℕ) → List ℕ
          name_in other None = other
          name_in other (Some name) = name

-- ---- the sessions of a node

-- the number of the cast of a session stays, if those of more sessions come
pub cast_of_stays : (before after : NodeState) (more : List ℕ) (k : ℕ) → after.cast_numbers ≡ before.cast_numbers ++ more → 1 ≤ k
    → k ≤ length before.cast_numbers → cast_of after k ≡ cast_of before k
cast_of_stays before after more k same from to = ap (λ numbers. slice_index_or numbers (k - 1) 0) same
    ∙ get_or_append_left before.cast_numbers more 0 (k - 1) (omega (arith, from, to))

module _ (node after : NodeState) (parent : Parent) (depth waiting cast : ℕ) (are : AreSessions node.cast_sessions)
    (counted : length node.cast_numbers ≡ node.cast_sessions.opened)
    (opens : after.cast_sessions ≡ opened_with node.cast_sessions parent depth waiting)
    (numbers : after.cast_numbers ≡ node.cast_numbers ++ cast ∷ []) where
  abbrev next : ℕ
  next = node.cast_sessions.opened + 1

  -- the session that is opened, as it is seen
  abbrev pub opened_session : Session
  opened_session = seen_session after (next_session node.cast_sessions parent depth waiting)

  pub cast_of_next : cast_of after next ≡ cast
  cast_of_next = ap (λ n. cast_of after (n + 1)) (sym counted) ∙ cast_of_law after node.cast_numbers [] cast numbers

  found_after : (n : ℕ) → session_of after.cast_sessions.sessions n
      ≡ (if next == n then Some (next_session node.cast_sessions parent depth waiting) else session_of node.cast_sessions.sessions n)
  found_after n = ap (λ (o : SessionsValue). session_of o.sessions n) opens ∙ session_of-opened node.cast_sessions are parent depth waiting n

  pub opened_here : join_session_at (seen_node after) next ≡ Some opened_session
  opened_here =
      session_seen after next ∙ ap (option_map (seen_session after)) (found_after next)
      ∙ rw (same_number next) refl

  -- a session of before is seen as before
  seen_same : (n : ℕ) (found : Option Session) → session_of node.cast_sessions.sessions n ≡ found
      → option_map (seen_session after) found ≡ option_map (seen_session node) found
  seen_same n None is = refl
  seen_same n (Some a) is =
      let given = (All-found (λ (a : Session). (1 ≤ a.id) × (a.id ≤ node.cast_sessions.opened)) node.cast_sessions.sessions n a are.given is).0 in
      let same = cast_of_stays node after (cast ∷ []) a.id numbers given.0 (omega (arith, given.1, counted)) in
      ap (λ c. Some (record a { parent = seen_parent c a.parent })) same

  pub others_stay : OthersStay (seen_node node) (seen_node after) next
  others_stay n = by (next == n) refl
    where
      by : (here : Bool) → (next == n) ≡ here
          → (n ≡ next) ⊎ (join_session_at (seen_node after) n ≡ join_session_at (seen_node node) n)
      by true here = inl (sym (eqb-true next n here))
      by false there = inr (
          session_seen after n ∙ ap (option_map (seen_session after)) (found_after n ∙ rw there refl)
          ∙ seen_same n (session_of node.cast_sessions.sessions n) refl ∙ sym (session_seen node n)
          )

  pub opened_now : (if (seen_node after).sessions.opened == (seen_node node).sessions.opened then None
      else join_session_at (seen_node after) (seen_node after).sessions.opened) ≡ Some opened_session
  opened_now =
      let count : after.cast_sessions.opened ≡ next = ap (λ (o : SessionsValue). o.opened) opens in
      rw count (rw (apart node.cast_sessions.opened) opened_here)
    where
      apart : (n : ℕ) → (n + 1 == n) ≡ false
      apart n = elim (cases_Bool (n + 1 == n)) [
        | inl same ↦ let wrong = eqb-true (n + 1) n same in absurd (omega (arith, wrong))
        | inr is ↦ is
      ]
