-- The sessions of joins once a node has started something: no session changes, and each node that is there keeps its own.
use Rattle.std.proofs.Common.{◌≡◌, ◌⊎◌, ℕ, ◌≤◌, List, None, Some, ap, refl, sym, subst, ◌∙◌, inl, inr}
use Rattle.tap_name.specs.Settings.{SettingsValue}
use Rattle.tap_session.specs.Session.{Session, SessionsValue}
use Rattle.tap_session.specs.Sessions.{session_of}
use Rattle.tap_wire.specs.declared.frame.Body.TheVariants.{Seek}
use Rattle.tap_wire.specs.declared.frame.Frame.{Frame}
use Rattle.tap_rule.specs.Act.{act}
use Rattle.tap_rule.specs.Event.{Start}
use Rattle.tap_rule.specs.Event.Event.{Starts}
use Rattle.tap_rule.specs.Event.Start.{Join}
use Rattle.tap_rule.specs.Node.{NodeState, Status, join_session_at, no_sessions}
use Rattle.tap_rule.specs.Node.Status.{Core, Leaving}
use Rattle.tap_safety.specs.Awaited.{AreAwaitedOnce}
use Rattle.tap_safety.specs.Bookkeeping.{HasCore, HavePlaces, holds_sessions}
use Rattle.tap_safety.specs.Counted.{IsKeptSo}
use Rattle.tap_safety.specs.Invariant.{Basis}
use Rattle.tap_safety.specs.Remembered.{OpenSession}
use Rattle.tap_safety.specs.SessionSteps.{LeavesSessions}
use Rattle.tap_safety.specs.Move.{may_start}
use Rattle.tap_safety.specs.Sessions.{Belongs, IsOpen, session_named}
use Rattle.tap_safety.specs.System.{System}
use Rattle.tap_safety.proofs.StartKeeps.{node_was}
use Rattle.tap_safety.proofs.StepLaws.{await_others_law, awaited_others_law}
use Rattle.tap_safety.proofs.TellKeeps.{node_after, node_before}
use Rattle.tap_safety.proofs.Said.{said_of}
use Rattle.tap_moves.specs.Delivered.{after_start}
use Rattle.tap_moves.specs.SessionMoves.{AreBooked}
use Rattle.tap_moves.proofs.OutsideMade.{quiet_none}
use Rattle.tap_moves.proofs.SessionMoves.{left_deeper}
use Rattle.tap_moves.proofs.StartMoves.{sent_aside}
use Rattle.tap_moves.specs.Starts.{IsNoDeparture, StartAwaits, StartBooks, StartCore, StartPlaces}
use Rattle.tap_moves.proofs.StartKinds.{StartsAlike, StartsAnew, alike_changes, anew_sent, anew_start, anew_there, by_kind, joined}

-- ---- what both kinds of starts do with sessions

-- a node of this name has this status and these sessions
record HasSessions (s : System) (y : List ℕ) (status : Status) (sessions : SessionsValue) : Type 0 where
  state : NodeState
  is : s.node y ≡ Some state
  status_is : state.status ≡ status
  sessions_are : state.sessions ≡ sessions

-- No session changes; a node that is there keeps its status and its sessions; and a new one has no session.
record KeepsSessions (s s' : System) : Type 0 where
  leaves : LeavesSessions s s'
  nodes : (y : List ℕ) (state : NodeState) → s.node y ≡ Some state → HasSessions s' y state.status state.sessions
  was : (y : List ℕ) (state : NodeState) → s'.node y ≡ Some state
      → HasSessions s y state.status state.sessions ⊎ (state.sessions ≡ no_sessions)

-- a session that a node keeps
at_sessions : (one other : NodeState) (k : ℕ) → one.sessions ≡ other.sessions → join_session_at one k ≡ join_session_at other k
at_sessions one other k same = ap (λ (sessions : SessionsValue). session_of sessions.sessions k) same

module _ (p : SettingsValue) (s s' : System) (keeps : KeepsSessions s s') (inv : Basis p s) where
  -- each session stays in its place
  places_kept : HavePlaces s'
  places_kept = record {
    places = λ y k session is.
        let place = inv.places.places y k session (sym (keeps.leaves.sessions y k) ∙ is) in
        let now = keeps.nodes y place.state place.is in
        record {
          state = now.state;
          is = now.is;
          holds = subst holds_sessions (sym now.status_is) place.holds;
          opened = subst (λ (sessions : SessionsValue). k ≤ sessions.opened) (sym now.sessions_are) place.opened;
          other = place.other;
          above = place.above;
        };
  }

  -- and stands at a node that keeps it
  kept_on : (y : List ℕ) (k : ℕ) (session : OpenSession) (state : NodeState) → IsOpen s' y k session → s'.node y ≡ Some state
      → (kept : Session) × (join_session_at state k ≡ Some kept) × IsKeptSo kept session
  kept_on y k session state is at =
      let old : IsOpen s y k session = sym (keeps.leaves.sessions y k) ∙ is in
      let place = inv.places.places y k session old in
      let now = keeps.nodes y place.state place.is in
      let here = now.is in
      let same : state ≡ now.state = cc in
      let sessions : state.sessions ≡ place.state.sessions = ap (λ (n : NodeState). n.sessions) same ∙ now.sessions_are in
      let kept = inv.counted.kept y k session place.state old place.is in
      (kept.0, at_sessions state place.state k sessions ∙ kept.1, kept.2)

  -- and what a node keeps is open
  open_on : (y : List ℕ) (k : ℕ) (state : NodeState) (kept : Session) → s'.node y ≡ Some state → join_session_at state k ≡ Some kept
      → (session : OpenSession) × IsOpen s' y k session
  open_on y k state kept at is =
      elim (keeps.was y state at) [
        | inl old ↦
            let session = inv.counted.open_at y k old.state kept old.is (at_sessions old.state state k old.sessions_are ∙ is) in
            (session.0, keeps.leaves.sessions y k ∙ session.1)
        | inr none ↦
            let nothing : join_session_at state k ≡ None = ap (λ (sessions : SessionsValue). session_of sessions.sessions k) none in
            let wrong : None ≡ Some kept = sym nothing ∙ is in
            absurd (cc)
      ]

  -- each awaits as many answers as before, and Tells are as deep as before
  books_kept : AreBooked s'
  books_kept = record {
    await = await_others_law s s' keeps.leaves inv.await;
    counted = record { kept = kept_on; open_at = open_on };
    deeper = left_deeper s s' keeps.leaves inv.deeper;
  }

  -- each answer is awaited once
  awaits_kept : AreAwaitedOnce s'
  awaits_kept = awaited_others_law s s' keeps.leaves inv.awaited

  -- a core node stays core
  core_kept : HasCore s'
  core_kept =
      let core = inv.has_core.core in
      let now = keeps.nodes inv.has_core.name core.state core.is in
      record {
        name = inv.has_core.name;
        core = record {
          state = now.state;
          is = now.is;
          core = subst (λ status. (status ≡ Core) ⊎ (status ≡ Leaving)) (sym now.status_is) core.core;
        };
      }

-- ---- a node stays what it is

-- what such a node sends belongs to no session, and it keeps those that it has
alike_sessions : (p : SettingsValue) (s : System) (x : List ℕ) (start : Start) (node : NodeState) → StartsAlike p s x start node
    → Basis p s → KeepsSessions s (after_start p s x start)
alike_sessions p s x start node is inv =
    let s' = after_start p s x start in
    let after = (act node (Starts start)).state in
    let at = alike_changes p s x start node is in
    record {
      leaves =
          sent_aside s s' (act node (Starts start)).sent is.step.sent inv.numbered is.step.session
          (λ f y k among belongs. quiet_none (said_of f.body) f.from f.to y k (is.alike.sent f among) belongs);
      nodes = λ y state there. elim (node_after s s' x node after at y state there) [
        | inl here ↦ record {
          state = after;
          is = here.2;
          status_is = is.alike.status ∙ sym (ap (λ (n : NodeState). n.status) here.1);
          sessions_are = is.alike.sessions ∙ sym (ap (λ (n : NodeState). n.sessions) here.1);
        }
        | inr same ↦ record { state = state; is = same; status_is = refl; sessions_are = refl }
      ];
      was = λ y state there. inl (elim (node_before s s' x node after at y state there) [
        | inl here ↦ record {
          state = node;
          is = here.2;
          status_is = sym (ap (λ (n : NodeState). n.status) here.1 ∙ is.alike.status);
          sessions_are = sym (ap (λ (n : NodeState). n.sessions) here.1 ∙ is.alike.sessions);
        }
        | inr same ↦ record { state = state; is = same; status_is = refl; sessions_are = refl }
      ]);
    }

-- ---- a new name starts to join

-- a Seek belongs to no session
seek_aside : (f : Frame) (x y : List ℕ) (k : ℕ) → f.body ≡ Seek x → Belongs f y k → ⊥
seek_aside f x y k is belongs =
    let wrong : session_named (Seek x) f.from f.to ≡ Some (y, k) = ap (λ body. session_named body f.from f.to) (sym is) ∙ belongs in cc

-- and a new node has no session
anew_sessions : (p : SettingsValue) (s : System) (x via : List ℕ) → StartsAnew p s x via → Basis p s
    → KeepsSessions s (after_start p s x (Join via))
anew_sessions p s x via is inv =
    let s' = after_start p s x (Join via) in
    record {
      leaves =
          sent_aside s s' (joined p x via).sent is.step.sent inv.numbered is.step.session
          (λ f y k among belongs. seek_aside f x y k (anew_sent p s x via is f.from f.to f.body among) belongs);
      nodes = λ y state there. record {
        state = state;
        is = anew_there p s x via is y state there ∙ there;
        status_is = refl;
        sessions_are = refl;
      };
      was = λ y state there. elim (node_was s s' x (anew_start p s x via is) y state there) [
        | inl new ↦ inr (ap (λ (n : NodeState). n.sessions) new.1 ∙ is.sessions)
        | inr old ↦ inl (record { state = state; is = old; status_is = refl; sessions_are = refl })
      ];
    }

-- ---- both

start_keeps_sessions : (p : SettingsValue) (s : System) (x : List ℕ) (start : Start) → Basis p s → may_start p s x start
    → IsNoDeparture start → KeepsSessions s (after_start p s x start)
start_keeps_sessions p s x start inv may stays =
    by_kind p s x start (λ after. KeepsSessions s after) inv may stays (λ via is. anew_sessions p s x via is inv)
    (λ node is. alike_sessions p s x start node is inv)

pub start_books : StartBooks
start_books p s x start inv may stays = books_kept p s (after_start p s x start) (start_keeps_sessions p s x start inv may stays) inv

pub start_awaits : StartAwaits
start_awaits p s x start inv may stays = awaits_kept p s (after_start p s x start) (start_keeps_sessions p s x start inv may stays) inv

pub start_places : StartPlaces
start_places p s x start inv may stays = places_kept p s (after_start p s x start) (start_keeps_sessions p s x start inv may stays) inv

pub start_core : StartCore
start_core p s x start inv may stays = core_kept p s (after_start p s x start) (start_keeps_sessions p s x start inv may stays) inv
