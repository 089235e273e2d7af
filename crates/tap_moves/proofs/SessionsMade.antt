-- What is remembered of sessions once a node has taken a Tell, a Seek, a Hello or an answer.
-- Cited above: node_parts, none_opened, opened_found
use Rattle.std.proofs.Common.{◌≡◌, ◌≢◌, ◌⊎◌, ◌==◌, ℕ, ◌+◌, ◌≤◌, false, if◌then◌else◌, List, [], ◌∷◌, Option, None, Some, arith, ap, refl, sym, ◌∙◌, inl, inr}
use Rattle.std.proofs.lemmas.Bool.{cases_Bool, ne_eqb}
use Rattle.tap_session.specs.declared.parent.Parent.{Parent}
use Rattle.tap_session.specs.declared.parent.Parent.TheVariants.{Node, Root}
use Rattle.tap_session.specs.Session.{Session, SessionsValue}
use Rattle.tap_session.specs.Sessions.{AreSessions, next_session, opened_with, session_of}
use Rattle.tap_session.proofs.Transitions.{session_of-opened}
use Rattle.tap_wire.specs.declared.frame.Body.{Body}
use Rattle.tap_wire.specs.declared.frame.Body.TheVariants.{Seek}
use Rattle.tap_wire.specs.declared.frame.Frame.{Frame}
use Rattle.tap_rule.specs.Event.{Acted}
use Rattle.tap_rule.specs.Sent.{IsAmong}
use Rattle.tap_rule.specs.RuleLaws.{frame_to}
use Rattle.tap_rule.specs.Node.{NodeState, name_of}
use Rattle.tap_rule.proofs.AnswerSteps.{same_number}
use Rattle.tap_rule.proofs.OneName.{not_own}
use Rattle.tap_safety.specs.Bookkeeping.{HavePlaces}
use Rattle.tap_safety.specs.Frames.{tell_body}
use Rattle.tap_safety.specs.Remembered.{OpenSession, Token}
use Rattle.tap_safety.specs.Remembered.Token.{Child, Way}
use Rattle.tap_safety.specs.Sessions.{Awaits, Belongs, for_child, for_way, is_place, session_named, ways_of}
use Rattle.tap_safety.specs.SessionSteps.{Closes, ClosesChild, ClosesRoot, Exchanges, HandsOn, LeavesSessions, child_of, with_awaits}
use Rattle.tap_safety.specs.Seeking.{IsSeeker}
use Rattle.tap_safety.specs.System.{System, AmongFrames, IsJoiner, IsUnderWay}
use Rattle.tap_safety.specs.Moved.{taking}
use Rattle.tap_safety.specs.Turned.{Taking, awaits_changed, awaits_put, closed_by, opened_by, parent_in, passed_up, remembered_as, session_put, sessions_with}
use Rattle.tap_safety.proofs.Exchange.{is_place-here, is_place-same}
use Rattle.tap_moves.specs.ByRule.{TakesByRule, taken_at}
use Rattle.tap_moves.specs.SessionsLaws.{BeforeTaking, HandsOnByTell, IsLastAnswer, OpensChildByTell, OpensRootBySeek, RemembersSessions, sent_at}
use Rattle.tap_moves.proofs.Exchanged.{exchanges, sent_numbered}

-- ---- which session a step has opened

pub opened_found : (old new : SessionsValue) (parent : Parent) (depth waiting : ℕ) → AreSessions old
    → new ≡ opened_with old parent depth waiting
    → (if new.opened == old.opened then None else session_of new.sessions new.opened) ≡ Some (next_session old parent depth waiting)
opened_found old new parent depth waiting are same =
    let apart : (old.opened + 1 == old.opened) ≡ false = ne_eqb (old.opened + 1) old.opened (λ is. absurd (omega (arith, is))) in
    rw (same, apart) (session_of-opened old are parent depth waiting (old.opened + 1) ∙ rw (same_number (old.opened + 1)) refl)

pub none_opened : (old new : SessionsValue) → new.opened ≡ old.opened
    → (if new.opened == old.opened then None else session_of new.sessions new.opened) ≡ None
none_opened old new same = rw (same, same_number old.opened) refl

-- ---- sessions by place

put_here : (sessions : List ℕ → ℕ → Option OpenSession) (x : List ℕ) (k : ℕ) (session : Option OpenSession)
    → session_put sessions x k session x k ≡ session
put_here sessions x k session = rw (is_place-here x k x k refl refl) refl

put_other : (sessions : List ℕ → ℕ → Option OpenSession) (x : List ℕ) (k : ℕ) (session : Option OpenSession) (y : List ℕ) (m : ℕ)
    → ((y ≡ x) × (m ≡ k)) ⊎ (session_put sessions x k session y m ≡ sessions y m)
put_other sessions x k session y m =
    elim (cases_Bool (is_place x k y m)) [ inl here ↦ inl (is_place-same x k y m here) | inr there ↦ inr (rw there refl) ]

-- of another node's session nothing changes
put_apart : (sessions : List ℕ → ℕ → Option OpenSession) (x : List ℕ) (k : ℕ) (session : Option OpenSession) (y : List ℕ) (m : ℕ)
    → y ≢ x → session_put sessions x k session y m ≡ sessions y m
put_apart sessions x k session y m apart =
    elim (put_other sessions x k session y m) [ inl here ↦ absurd (apart here.0) | inr there ↦ there ]

-- what an open session awaits is changed
awaits_here : (sessions : List ℕ → ℕ → Option OpenSession) (w : List ℕ) (k : ℕ) (change : List Token → List Token) (o : OpenSession)
    → sessions w k ≡ Some o → awaits_put sessions w k change w k ≡ Some (record o { awaits = change o.awaits })
awaits_here sessions w k change o is = rw (is_place-here w k w k refl refl, is) refl

awaits_other : (sessions : List ℕ → ℕ → Option OpenSession) (w : List ℕ) (k : ℕ) (change : List Token → List Token) (y : List ℕ) (m : ℕ)
    → ((y ≡ w) × (m ≡ k)) ⊎ (awaits_put sessions w k change y m ≡ sessions y m)
awaits_other sessions w k change y m =
    put_other sessions w k (awaits_changed change (sessions w k)) y m

-- ---- the sessions of a step that opens one, and of one that opens none

module _ (sessions : List ℕ → ℕ → Option OpenSession) (t : Taking) where
  sessions_opened : (w : List ℕ) (k : ℕ) (session : Session) → session_named t.frame.body t.frame.from t.frame.to ≡ Some (w, k)
      → closed_by t.frame.body t.after ≡ None → opened_by t ≡ Some session → (y : List ℕ) (m : ℕ) → sessions_with sessions t y m
      ≡ session_put (awaits_put sessions w k (for_way t.number (Child t.frame.to session.id ∷ []))) t.frame.to session.id
      (Some (remembered_as t session)) y m
  sessions_opened w k session named closed opened y m = rw (named, closed, opened) refl

  sessions_root : (session : Session) → session_named t.frame.body t.frame.from t.frame.to ≡ None
      → closed_by t.frame.body t.after ≡ None → opened_by t ≡ Some session → (y : List ℕ) (m : ℕ)
      → sessions_with sessions t y m ≡ session_put sessions t.frame.to session.id (Some (remembered_as t session)) y m
  sessions_root session named closed opened y m = rw (named, closed, opened) refl

  sessions_handed : (w : List ℕ) (k : ℕ) → session_named t.frame.body t.frame.from t.frame.to ≡ Some (w, k)
      → closed_by t.frame.body t.after ≡ None → opened_by t ≡ None → (y : List ℕ) (m : ℕ) → sessions_with sessions t y m
      ≡ awaits_put sessions w k (for_way t.number (ways_of w k t.sent)) y m
  sessions_handed w k named closed opened y m = rw (named, closed, opened) refl

module _ (sessions : List ℕ → ℕ → Option OpenSession) (t : Taking) where
  sessions_left : session_named t.frame.body t.frame.from t.frame.to ≡ None → closed_by t.frame.body t.after ≡ None
      → opened_by t ≡ None → (y : List ℕ) (m : ℕ) → sessions_with sessions t y m ≡ sessions y m
  sessions_left named closed opened y m = rw (named, closed, opened) refl

  sessions_closed : (x : List ℕ) (k : ℕ) (above : Option (List ℕ × ℕ)) → session_named t.frame.body t.frame.from t.frame.to ≡ Some (x, k)
      → closed_by t.frame.body t.after ≡ Some k → opened_by t ≡ None
      → parent_in (awaits_put sessions x k (for_way t.number (ways_of x k t.sent)) t.frame.to k) ≡ above → (y : List ℕ) (m : ℕ)
      → sessions_with sessions t y m
      ≡ session_put (passed_up (awaits_put sessions x k (for_way t.number (ways_of x k t.sent))) t k above) t.frame.to k None y m
  sessions_closed x k above named closed opened parent y m = rw (named, closed, opened, parent) refl

-- a frame of no session belongs to none
unnamed : (f g : Frame) (y : List ℕ) (k : ℕ) → f ≡ g → session_named g.body g.from g.to ≡ None → Belongs f y k → ⊥
unnamed f g y k is none belongs =
    let wrong : ◌≡◌ {A = Option (List ℕ × ℕ)} None (Some (y, k)) =
    sym none ∙ ap (λ (h : Frame). session_named h.body h.from h.to) (sym is) ∙ belongs in
    absurd (cc)

at_number : (m n : ℕ) (g : Frame) (frames : List (ℕ × Frame)) → m ≡ n → AmongFrames m g frames → AmongFrames n g frames
at_number m n g frames same among = rw (← same) among

-- no session has the number that a node gives next
none_next : (s : System) (node : NodeState) → HavePlaces s → s.node (name_of node) ≡ Some node → (found : Option OpenSession)
    → s.session (name_of node) (node.sessions.opened + 1) ≡ found → s.session (name_of node) (node.sessions.opened + 1) ≡ None
none_next s node places at None is = is
none_next s node places at (Some session) is =
    let place = places.places (name_of node) (node.sessions.opened + 1) session is in
    let here = place.is in
    let same : place.state ≡ node = cc in
    let most : node.sessions.opened + 1 ≤ node.sessions.opened = rw same at place.opened in
    absurd (omega (arith, most))

-- a session that is remembered as opened for a Tell is a child of the one that awaited the Tell
child_is : (joiner w : List ℕ) (k depth : ℕ) (awaits : List Token) (before : OpenSession) → before.joiner ≡ joiner
    → depth ≡ before.depth + 1
    → ◌≡◌ {A = OpenSession} (record { joiner = joiner; parent = Some (w, k); depth = depth; awaits = awaits })
    (child_of before w k awaits)
child_is joiner w k depth awaits before same deep = rw (same, deep) refl

-- a parent that is another node's session
pub node_parts : (w y : List ℕ) (k n : ℕ) → Node w k ≡ Node y n → (y ≡ w) × (n ≡ k)
node_parts w y k n is = (cc, cc)

pub opens_child : OpensChildByTell
opens_child s s' number node from tell watch before taken remembers opens =
    let own = name_of node in
    let frame = frame_to node from (tell_body tell watch) in
    let acted = taken_at node from (tell_body tell watch) in
    let t = taking s number frame node acted in
    let swap = exchanges s s' number frame acted.sent taken.taken before.numbers in
    let awaited = before.exact.frames number frame from tell.session swap.taken refl in
    let apart : from ≢ own = not_own node frame taken.known in
    let session = next_session node.sessions (Node from tell.session) tell.depth opens.waiting in
    let opened : opened_by t ≡ Some session =
    opened_found node.sessions acted.state.sessions (Node from tell.session) tell.depth opens.waiting taken.is_node.sessions opens.sessions
    in
    let now = λ (y : List ℕ) (m : ℕ). remembers y m ∙ sessions_opened s.session t from tell.session session refl refl opened y m in
    let handed = awaits_put s.session from tell.session (for_way number (Child own (node.sessions.opened + 1) ∷ [])) in
    let way : IsUnderWay s from own (tell_body tell watch) = record { number = number; among = swap.taken } in
    let joiner = before.joiners.frames number frame from tell.session awaited.session tell.joiner swap.taken refl awaited.is refl in
    let deep = before.deeper.depth from own tell watch awaited.session way awaited.is in
    record {
      frames = swap;
      belongs = refl;
      before = awaited.session;
      parent_was = awaited.is;
      parent_is = now from tell.session
          ∙ put_apart handed own (node.sessions.opened + 1) (Some (remembered_as t session)) from tell.session apart
          ∙ awaits_here s.session from tell.session (for_way number (Child own (node.sessions.opened + 1) ∷ [])) awaited.session awaited.is;
      none = none_next s node before.places taken.at.was (s.session own (node.sessions.opened + 1)) refl;
      child = now own (node.sessions.opened + 1)
          ∙ put_here handed own (node.sessions.opened + 1) (Some (remembered_as t session))
          ∙ ap Some (child_is tell.joiner from tell.session tell.depth (ways_of own (node.sessions.opened + 1) t.sent) awaited.session
          joiner deep);
      others = λ y m. elim (put_other handed own (node.sessions.opened + 1) (Some (remembered_as t session)) y m) [
        | inl here ↦ inr (inl here)
        | inr there ↦ elim (awaits_other s.session from tell.session (for_way number (Child own (node.sessions.opened + 1) ∷ [])) y m) [
          | inl parent ↦ inl parent
          | inr other ↦ inr (inr (now y m ∙ there ∙ other))
        ]
      ];
      asks = λ m g y n among belongs. opens.sent g y n (sent_numbered m g s.next acted.sent among) belongs;
    }

-- A frame of a session that is answered at once, or is an answer that isn't the last one.
module _ (s s' : System) (number : ℕ) (node : NodeState) (from : List ℕ) (body : Body) (before : BeforeTaking s)
    (taken : TakesByRule s s' number node from body) (remembers : RemembersSessions s s' number node from body)
    (opened : (taken_at node from body).state.sessions.opened ≡ node.sessions.opened) where
  abbrev frame : Frame
  frame = frame_to node from body

  abbrev acted : Acted
  acted = taken_at node from body

  abbrev t : Taking
  t = taking s number frame node acted

  swap : Exchanges s s' number frame (sent_at s node from body)
  swap = exchanges s s' number frame acted.sent taken.taken before.numbers

  none_now : opened_by t ≡ None
  none_now = none_opened node.sessions acted.state.sessions opened

  module _ (w : List ℕ) (k : ℕ) (named : session_named body from (name_of node) ≡ Some (w, k)) where
    awaited : Awaits s w k (Way number)
    awaited = before.exact.frames number frame w k swap.taken named

    -- the session that awaited the frame, once it awaits what is sent in its place
    abbrev handed : List ℕ → ℕ → Option OpenSession
    handed = awaits_put s.session w k (for_way number (ways_of w k t.sent))

    handed_here : handed w k ≡ Some (with_awaits awaited.session (for_way number (ways_of w k t.sent) awaited.session.awaits))
    handed_here = awaits_here s.session w k (for_way number (ways_of w k t.sent)) awaited.session awaited.is

    handed_other : (y : List ℕ) (m : ℕ) → ((y ≡ w) × (m ≡ k)) ⊎ (handed y m ≡ s.session y m)
    handed_other = awaits_other s.session w k (for_way number (ways_of w k t.sent))

    pub hands_on_as : closed_by body acted.state ≡ None
        → ((f : Frame) (y : List ℕ) (n : ℕ) → IsAmong f acted.sent → Belongs f y n → (y ≡ w) × (n ≡ k))
        → HandsOn s s' number frame w k (sent_at s node from body)
    hands_on_as closed sent =
        let now = λ (y : List ℕ) (m : ℕ). remembers y m ∙ sessions_handed s.session t w k named closed none_now y m in
        record {
          frames = swap;
          belongs = named;
          before = awaited.session;
          was = awaited.is;
          is = now w k ∙ handed_here;
          others = λ y m. elim (handed_other y m) [ inl here ↦ inl here | inr there ↦ inr (now y m ∙ there) ];
          asks = λ m g y n among belongs. sent g y n (sent_numbered m g s.next acted.sent among) belongs;
        }

  -- a frame of no session, for which nothing is sent in one
  pub leaves_sessions : session_named body from (name_of node) ≡ None → closed_by body acted.state ≡ None
      → ((f : Frame) (y : List ℕ) (n : ℕ) → IsAmong f acted.sent → Belongs f y n → ⊥) → LeavesSessions s s'
  leaves_sessions named closed sent = record {
    sessions = λ y m. remembers y m ∙ sessions_left s.session t named closed none_now y m;
    still = λ m f y k among belongs. elim (swap.still m f among) [
      | inl same ↦
          let is = swap.was_one number f frame (at_number m number f s.frames same among) swap.taken in
          absurd (unnamed f frame y k is named belongs)
      | inr on ↦ on
    ];
    was = λ m f y k among belongs. elim (swap.was m f among) [
      | inl old ↦ old
      | inr comes ↦ absurd (sent f y k (sent_numbered m f s.next acted.sent comes) belongs)
    ];
    is_one = swap.is_one;
  }

  -- The last answer of a session: of the node's own, which it closes, and which is remembered as awaiting that answer alone.
  module _ (k : ℕ) (last : IsLastAnswer s number node k) (named : session_named body from (name_of node) ≡ Some (name_of node, k))
      (closed : closed_by body acted.state ≡ Some k) where
    abbrev own : List ℕ
    own = name_of node

    abbrev handed_own : List ℕ → ℕ → Option OpenSession
    handed_own = handed own k named

    awaited_is : (awaited own k named).session ≡ last.session
    awaited_is = let one = (awaited own k named).is in let other = last.is in cc

    parent_kept : parent_in (handed_own own k) ≡ last.session.parent
    parent_kept = ap parent_in (handed_here own k named) ∙ ap (λ (o : OpenSession). o.parent) awaited_is

    abbrev closes : s'.session own k ≡ None → Closes s s' own k number
    closes gone = record { session = last.session; was = last.is; only = last.only; gone = gone }

    pub closes_root : last.session.parent ≡ None
        → ((f : Frame) (y : List ℕ) (n : ℕ) → IsAmong f acted.sent → Belongs f y n → ⊥)
        → ClosesRoot s s' number frame own k (sent_at s node from body)
    closes_root top sent =
        let now = λ (y : List ℕ) (m : ℕ). remembers y m
        ∙ sessions_closed s.session t own k None named closed none_now (parent_kept ∙ top) y m in
        record {
          frames = swap;
          belongs = named;
          closes = closes (now own k ∙ put_here handed_own own k None);
          top = top;
          others = λ y n. elim (put_other handed_own own k None y n) [
            | inl here ↦ inl here
            | inr there ↦ elim (handed_other own k named y n) [ inl here ↦ inl here | inr stays ↦ inr (now y n ∙ there ∙ stays) ]
          ];
          asks = λ n g y l among belongs. sent g y l (sent_numbered n g s.next acted.sent among) belongs;
        }

    pub closes_child : (w : List ℕ) (m : ℕ) → last.session.parent ≡ Some (w, m)
        → ((f : Frame) (y : List ℕ) (n : ℕ) → IsAmong f acted.sent → Belongs f y n → (y ≡ w) × (n ≡ m))
        → ClosesChild s s' number frame own k w m (sent_at s node from body)
    closes_child w m above sent =
        let place = before.places.places own k last.session last.is in
        let apart : w ≢ own = place.above w m above in
        let parent = before.exact.parents own k last.session w m last.is above in
        let passed = awaits_put handed_own w m (for_child own k (ways_of w m t.sent)) in
        let now = λ (y : List ℕ) (n : ℕ). remembers y n
        ∙ sessions_closed s.session t own k (Some (w, m)) named closed none_now (parent_kept ∙ above) y n in
        let was : handed_own w m ≡ Some parent.parent = elim (handed_other own k named w m) [
          | inl here ↦ absurd (apart here.0)
          | inr stays ↦ stays ∙ parent.is
        ] in
        record {
          frames = swap;
          belongs = named;
          closes = closes (now own k ∙ put_here passed own k None);
          above = above;
          before = parent.parent;
          parent_was = parent.is;
          parent_is = now w m ∙ put_apart passed own k None w m apart
              ∙ awaits_here handed_own w m (for_child own k (ways_of w m t.sent)) parent.parent was;
          others = λ y n. elim (put_other passed own k None y n) [
            | inl here ↦ inl here
            | inr there ↦ elim (awaits_other handed_own w m (for_child own k (ways_of w m t.sent)) y n) [
              | inl up ↦ inr (inl up)
              | inr stays ↦ elim (handed_other own k named y n) [
                | inl here ↦ inl here
                | inr same ↦ inr (inr (now y n ∙ there ∙ stays ∙ same))
              ]
            ]
          ];
          asks = λ n g y l among belongs. sent g y l (sent_numbered n g s.next acted.sent among) belongs;
        }

pub hands_on : HandsOnByTell
hands_on s s' number node from tell watch before taken remembers answers =
    hands_on_as s s' number node from (tell_body tell watch) before taken remembers
    (ap (λ (o : SessionsValue). o.opened) answers.sessions) from tell.session refl refl
    (λ f y n among belongs. node_parts from y tell.session n (answers.sent f y n among belongs))

-- who seeks isn't started
not_started : (s : System) (b : List ℕ) → IsSeeker s b → IsJoiner s b → ⊥
not_started s b seeker joiner =
    let waits = seeker.waits in
    let started = joiner.started in
    let wrong : None ≡ Some joiner.surrogate = cc in
    cc

pub opens_root : OpensRootBySeek
opens_root s s' number node from joiner before taken remembers seeker opens =
    let own = name_of node in
    let frame = frame_to node from (Seek joiner) in
    let acted = taken_at node from (Seek joiner) in
    let t = taking s number frame node acted in
    let session = next_session node.sessions (Root joiner) 0 opens.waiting in
    let opened : opened_by t ≡ Some session =
    opened_found node.sessions acted.state.sessions (Root joiner) 0 opens.waiting taken.is_node.sessions opens.sessions in
    let now = λ (y : List ℕ) (m : ℕ). remembers y m ∙ sessions_root s.session t session refl refl opened y m in (
      record {
        frames = exchanges s s' number frame acted.sent taken.taken before.numbers;
        apart = λ y n belongs. let none : ◌≡◌ {A = Option (List ℕ × ℕ)} None (Some (y, n)) = belongs in absurd (cc);
        none = none_next s node before.places taken.at.was (s.session own (node.sessions.opened + 1)) refl;
        root = remembered_as t session;
        is = now own (node.sessions.opened + 1) ∙ put_here s.session own (node.sessions.opened + 1) (Some (remembered_as t session));
        top = refl;
        deep = refl;
        awaits = refl;
        rootless = record {
          none = λ x k session is same top.
              let joins = before.joiners.opened x k session is in
              not_started s joiner seeker (rw same at joins);
        };
        others = λ y m. elim (put_other s.session own (node.sessions.opened + 1) (Some (remembered_as t session)) y m) [
          | inl here ↦ inl here
          | inr there ↦ inr (now y m ∙ there)
        ];
        asks = λ m g y n among belongs. opens.sent g y n (sent_numbered m g s.next acted.sent among) belongs;
      },
      refl,
    )
