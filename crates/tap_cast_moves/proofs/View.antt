-- A system whose casts are seen as joins: its frames, its nodes, and how many of the frames that a step sends belong to a session.
-- Cited above: among_seen, session_seen
use Rattle.std.proofs.Common.{◌≡◌, ◌==◌, ℕ, ◌+◌, ◌≤◌, Bool, true, false, List, [], ◌∷◌, ◌++◌, length, map, if◌then◌else◌, arith, ap, refl, sym, subst, ◌∙◌, inl, inr}
use Rattle.std.specs.Option.{option_map}
use Rattle.std.specs.List.{sum_by}
use Rattle.std.proofs.lemmas.Bool.{cases_Bool}
use Rattle.std.proofs.lemmas.List.Sums.{sum_by-append, sum_by-cons}
use Rattle.tap_session.specs.Session.{Session}
use Rattle.tap_session.specs.Sessions.{session_of}
use Rattle.tap_table.specs.declared.tie.Tie.{Tie}
use Rattle.tap_pointer.specs.declared.lay.Lay.{Lay}
use Rattle.tap_wire.specs.declared.frame.Frame.{Frame}
use Rattle.tap_rule.specs.RuleLaws.{IsCarriedOut}
use Rattle.tap_rule.specs.Event.{Acted}
use Rattle.tap_rule.specs.Node.{IsRunning, NodeState, Status, join_session_at, name_of}
use Rattle.tap_rule.specs.Node.Status.{Ceased, Core, Gone, Joining, Leaving}
use Rattle.tap_rule.specs.Reaction.{Message, Reaction}
use Rattle.tap_rule.specs.Sending.{by_receiver, lay_frame, link_frame, message_frame}
use Rattle.tap_rule.specs.Sent.{AreSent, AreSentInOrder, IsAmong}
use Rattle.tap_safety.specs.Bookkeeping.{SendsIn}
use Rattle.tap_safety.specs.Remembered.{Token}
use Rattle.tap_safety.specs.Remembered.Token.{Child, Way}
use Rattle.tap_safety.specs.Sessions.{AmongTokens, Belongs, is_placed, session_named, ways_of}
use Rattle.tap_safety.specs.SessionSteps.{Exchanges}
use Rattle.tap_safety.specs.Exchanges.{AreNumbered, Ascend, ChangesAt, numbered_from}
use Rattle.tap_safety.specs.System.{System, AmongFrames}
use Rattle.tap_safety.proofs.Apart.{ways_of-child}
use Rattle.tap_safety.proofs.SessionsKept.{placed_at, ways_of-has}
use Rattle.tap_moves.proofs.Exchanged.{sent_numbered}
use Rattle.tap_cast_moves.specs.Remembered.{CastMemory}
use Rattle.tap_cast_moves.specs.SeenCasts.{seen, seen_frame, seen_frames, seen_node, seen_session}

-- ---- frames

pub among_seen : (m : ℕ) (f : Frame) (frames : List (ℕ × Frame)) → AmongFrames m f frames
    → AmongFrames m (seen_frame f) (seen_frames frames)
among_seen m f [] among = absurd among
among_seen m f (g ∷ gs) (inl is) = inl (is.0, ap seen_frame is.1)
among_seen m f (g ∷ gs) (inr later) = inr (among_seen m f gs later)

-- what is seen is a frame
pub record IsSeen (m : ℕ) (g : Frame) (frames : List (ℕ × Frame)) : Type 0 where
  pub frame : Frame
  pub among : AmongFrames m frame frames
  pub is : g ≡ seen_frame frame

pub seen_among : (m : ℕ) (g : Frame) (frames : List (ℕ × Frame)) → AmongFrames m g (seen_frames frames) → IsSeen m g frames
seen_among m g [] among = absurd among
seen_among m g (f ∷ fs) (inl is) = record { frame = f.1; among = inl (is.0, refl); is = is.1 }
seen_among m g (f ∷ fs) (inr later) =
    let rest = seen_among m g fs later in record { frame = rest.frame; among = inr rest.among; is = rest.is }

pub ascend_seen : (low : ℕ) (frames : List (ℕ × Frame)) (high : ℕ) → Ascend low frames high → Ascend low (seen_frames frames) high
ascend_seen low [] high are = are
ascend_seen low (f ∷ fs) high are = (are.0, ascend_seen (f.0 + 1) fs high are.1)

pub numbered_seen : (s : System) (r : CastMemory) → AreNumbered s → AreNumbered (seen s r)
numbered_seen s r are = record { numbers = ascend_seen 0 s.frames s.next are.numbers }

module _ (s s' : System) (r r' : CastMemory) where
  pub exchanges_seen : (number : ℕ) (f : Frame) (sent : List (ℕ × Frame)) → Exchanges s s' number f sent
      → Exchanges (seen s r) (seen s' r') number (seen_frame f) (seen_frames sent)
  exchanges_seen number f sent swap = record {
    taken = among_seen number f s.frames swap.taken;
    gone = λ g among. let found = seen_among number g s'.frames among in swap.gone found.frame found.among;
    still = λ m g among.
        let found = seen_among m g s.frames among in
        elim (swap.still m found.frame found.among) [
          | inl same ↦ inl same
          | inr on ↦ inr (subst (λ h. AmongFrames m h (seen_frames s'.frames)) (sym found.is) (among_seen m found.frame s'.frames on))
        ];
    was = λ m g among.
        let found = seen_among m g s'.frames among in
        elim (swap.was m found.frame found.among) [
          | inl old ↦ inl (subst (λ h. AmongFrames m h (seen_frames s.frames)) (sym found.is) (among_seen m found.frame s.frames old))
          | inr new ↦ inr (subst (λ h. AmongFrames m h (seen_frames sent)) (sym found.is) (among_seen m found.frame sent new))
        ];
    sends = λ m g among.
        let found = seen_among m g sent among in
        subst (λ h. AmongFrames m h (seen_frames s'.frames)) (sym found.is)
        (among_seen m found.frame s'.frames (swap.sends m found.frame found.among));
    was_one = λ m g other one two.
        let first = seen_among m g s.frames one in
        let second = seen_among m other s.frames two in
        first.is ∙ ap seen_frame (swap.was_one m first.frame second.frame first.among second.among) ∙ sym second.is;
    is_one = λ m g other one two.
        let first = seen_among m g s'.frames one in
        let second = seen_among m other s'.frames two in
        first.is ∙ ap seen_frame (swap.is_one m first.frame second.frame first.among second.among) ∙ sym second.is;
  }

  pub changes_seen : (x : List ℕ) (before after : NodeState) → ChangesAt s s' x before after
      → ChangesAt (seen s r) (seen s' r') x (seen_node before) (seen_node after)
  changes_seen x before after at = record {
    was = ap (option_map seen_node) at.was;
    is = ap (option_map seen_node) at.is;
    others = λ y. elim (at.others y) [ inl here ↦ inl here | inr same ↦ inr (ap (option_map seen_node) same) ];
  }

-- ---- sessions of a node

found_seen : (node : NodeState) (sessions : List Session) (k : ℕ)
    → session_of (map (seen_session node) sessions) k ≡ option_map (seen_session node) (session_of sessions k)
found_seen node [] k = refl
found_seen node (a ∷ sessions) k =
    elim (cases_Bool (k == a.id)) [ inl here ↦ rw here refl | inr there ↦ rw there (found_seen node sessions k) ]

pub session_seen : (node : NodeState) (k : ℕ)
    → join_session_at (seen_node node) k ≡ option_map (seen_session node) (session_of node.cast_sessions.sessions k)
session_seen node k = found_seen node node.cast_sessions.sessions k

-- ---- what is sent

-- what belongs to a session is one of the messages
pub record IsSeenMessage (own : List ℕ) (messages : List Message) (g : Frame) : Type 0 where
  pub message : Message
  pub among : IsAmong message messages
  pub is : g ≡ seen_frame (message_frame own message)

pub seen_message : (own : List ℕ) (words : List Tie) (messages : List Message) (next : ℕ) (sent : List Frame) → AreSent own words messages sent
    → (m : ℕ) (g : Frame) (y : List ℕ) (n : ℕ) → AmongFrames m g (seen_frames (numbered_from next sent)) → Belongs g y n
    → IsSeenMessage own messages g
seen_message own words messages next sent are m g y n among belongs =
    let found = seen_among m g (numbered_from next sent) among in
    let there = sent_numbered m found.frame next sent found.among in
    elim (are.each found.frame there) [
      | inl link ↦
          let none : Belongs (seen_frame (link_frame own link.word)) y n =
          subst (λ h. Belongs h y n) (found.is ∙ ap seen_frame link.is) belongs in
          absurd (cc)
      | inr (inl named) ↦ record { message = named.message; among = named.among; is = found.is ∙ ap seen_frame named.is }
      | inr (inr lay) ↦
          let none : Belongs (seen_frame (lay_frame own lay.lay)) y n =
          subst (λ h. Belongs h y n) (found.is ∙ ap seen_frame lay.is) belongs in
          absurd (cc)
    ]

-- one for a frame that is seen as of this session, and none for another
abbrev ones : List ℕ → ℕ → Frame → ℕ
ones x k f = if is_placed (session_named (seen_frame f).body f.from f.to) x k then 1 else 0

ways_sum : (x : List ℕ) (k n : ℕ) (sent : List Frame) → length (ways_of x k (seen_frames (numbered_from n sent))) ≡ sum_by (ones x k) sent
unfolding ways_of
ways_sum x k n [] = refl
ways_sum x k n (f ∷ fs) =
    let rest = ways_sum x k (n + 1) fs in
    let all = sum_by-cons (ones x k) f fs in
    let first = one_or_none (is_placed (session_named (seen_frame f).body f.from f.to) x k) (Way n)
    (ways_of x k (seen_frames (numbered_from (n + 1) fs))) in
    omega (arith, rest, all, first)
  where
    one_or_none : (here : Bool) (way : Token) (tokens : List Token)
        → length (if here then way ∷ tokens else tokens) ≡ (if here then 1 else 0) + length tokens
    one_or_none true way tokens = omega arith
    one_or_none false way tokens = omega arith

links_sum : (own x : List ℕ) (k : ℕ) (words : List Tie) → sum_by (ones x k) (map (link_frame own) words) ≡ 0
links_sum own x k [] = refl
links_sum own x k (word ∷ words) = links_sum own x k words

lays_sum : (own x : List ℕ) (k : ℕ) (lays : List Lay) → sum_by (ones x k) (map (lay_frame own) lays) ≡ 0
lays_sum own x k [] = refl
lays_sum own x k (lay ∷ lays) = lays_sum own x k lays

-- each of these is sent in the session
abbrev pub AreSeenIn : List ℕ → List Message → List ℕ → ℕ → Type 0
AreSeenIn own messages x k = (m : Message) → IsAmong m messages → Belongs (seen_frame (message_frame own m)) x k

messages_sum : (own x : List ℕ) (k : ℕ) (messages : List Message) → AreSeenIn own messages x k
    → sum_by (ones x k) (map (message_frame own) messages) ≡ length messages
messages_sum own x k [] are = refl
messages_sum own x k (m ∷ ms) are =
    let rest = messages_sum own x k ms (λ n among. are n (inr among)) in
    let f = seen_frame (message_frame own m) in
    let here = placed_at (session_named f.body f.from f.to) x k (are m (inl refl)) in
    let one : ones x k (message_frame own m) ≡ 1 = rw here refl in
    let all = sum_by-cons (ones x k) (message_frame own m) (map (message_frame own) ms) in
    omega (arith, rest, one, all)

ways_count : (own x : List ℕ) (k n : ℕ) (words : List Tie) (messages : List Message) (lays : List Lay) (sent : List Frame)
    → AreSentInOrder own words messages lays sent → AreSeenIn own messages x k
    → length (ways_of x k (seen_frames (numbered_from n sent))) ≡ length messages
ways_count own x k n words messages lays sent order are =
    let links = map (link_frame own) (by_receiver words) in
    let named = map (message_frame own) messages in
    let laid = map (lay_frame own) lays in
    let whole : length (ways_of x k (seen_frames (numbered_from n sent))) ≡ sum_by (ones x k) (links ++ (named ++ laid)) =
    ways_sum x k n sent ∙ ap (sum_by (ones x k)) order.all in
    let parts = sum_by-append (ones x k) links (named ++ laid) in
    let others = sum_by-append (ones x k) named laid in
    let no_link = links_sum own x k (by_receiver words) in
    let each = messages_sum own x k messages are in
    let no_lay = lays_sum own x k lays in
    omega (arith, whole, parts, others, no_link, each, no_lay)

-- as many as a rule says
pub ways_by_rule : (node : NodeState) (r : Reaction) (acted : Acted) (x : List ℕ) (k n : ℕ) → IsCarriedOut node r acted
    → AreSeenIn (name_of node) r.messages x k → length (ways_of x k (seen_frames (numbered_from n acted.sent))) ≡ length r.messages
ways_by_rule node r acted x k n carried are = by_status r.state.status refl
  where
    runs : IsRunning r.state.status → length (ways_of x k (seen_frames (numbered_from n acted.sent))) ≡ length r.messages
    runs running = ways_count (name_of node) x k n r.words r.messages _ acted.sent (carried.running running).sent are

    ended : (IsRunning r.state.status → ⊥) → length (ways_of x k (seen_frames (numbered_from n acted.sent))) ≡ length r.messages
    ended never = ways_count (name_of node) x k n r.words r.messages _ acted.sent (carried.ended never).sent are

    by_status : (status : Status) → r.state.status ≡ status → length (ways_of x k (seen_frames (numbered_from n acted.sent))) ≡ length r.messages
    by_status Joining is = runs (subst IsRunning (sym is) tt)
    by_status Core is = runs (subst IsRunning (sym is) tt)
    by_status Leaving is = runs (subst IsRunning (sym is) tt)
    by_status Gone is = ended (λ running. subst IsRunning is running)
    by_status Ceased is = ended (λ running. subst IsRunning is running)

-- a frame is sent in a session that awaits one of those sent
pub sends_in : (x : List ℕ) (k : ℕ) (sent : List (ℕ × Frame)) (tokens : List Token) → ways_of x k sent ≡ tokens → 1 ≤ length tokens
    → SendsIn sent x k
sends_in x k sent [] is some = absurd (omega (arith, some))
sends_in x k sent (Way m ∷ tokens) is some =
    let has = ways_of-has x k sent m (subst (AmongTokens (Way m)) (sym is) (inl refl)) in
    record { number = m; frame = has.frame; among = has.among; belongs = has.belongs }
sends_in x k sent (Child y l ∷ tokens) is some =
    absurd (ways_of-child x k sent y l (subst (AmongTokens (Child y l)) (sym is) (inl refl)))

pub none_of : (tokens : List Token) → length tokens ≡ 0 → tokens ≡ []
none_of [] none = refl
none_of (token ∷ tokens) none = absurd (omega (arith, none))
