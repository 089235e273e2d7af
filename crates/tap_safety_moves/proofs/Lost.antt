-- A frame that its receiver ignores is as one that nobody takes; and what such a frame keeps of tables, of who is named, and of sessions.
use Rattle.std.proofs.Common.{◌≡◌, ◌⊎◌, ℕ, List, [], Option, None, Some, ap, refl, sym, subst, ◌∙◌, inl, inr}
use Rattle.tap_name.specs.Settings.{SettingsValue}
use Rattle.tap_name.specs.declared.slot.Slot.{Slot}
use Rattle.tap_link.specs.declared.kind.Kind.{Kind}
use Rattle.tap_session.specs.Session.{Session}
use Rattle.tap_wire.specs.declared.frame.Body.{Body}
use Rattle.tap_wire.specs.declared.frame.Body.TheVariants.{Ack, Done, Heard, Seek}
use Rattle.tap_wire.specs.declared.frame.Frame.{Frame}
use Rattle.tap_wire.specs.declared.frame.TellFields.{TellFields}
use Rattle.tap_rule.specs.Act.{act}
use Rattle.tap_rule.specs.Event.Event.{Takes}
use Rattle.tap_rule.specs.RuleLaws.{frame_to}
use Rattle.tap_rule.specs.Node.{NodeState, name_of}
use Rattle.tap_rule.specs.Sent.{AreSent}
use Rattle.tap_safety.specs.Bookkeeping.{AreStamped, EndedHaveNoLinks, HasCore, HavePlaces}
use Rattle.tap_safety.specs.Filled.{AreFilled}
use Rattle.tap_safety.specs.FrameSteps.{TakesFrame, TakesPlainly}
use Rattle.tap_safety.specs.Frames.{HelloFields, hello_body, tell_body}
use Rattle.tap_safety.specs.Joins.{JoinersStay}
use Rattle.tap_safety.specs.Move.Move.{Delivers}
use Rattle.tap_safety.specs.Moved.{HasDone, IsDelivered, IsLost, last_after, moved, numbered_frame, taking}
use Rattle.tap_safety.specs.Seeking.{AreOfSeekers, Seeking}
use Rattle.tap_safety.specs.SessionSteps.{Exchanges, LeavesSessions}
use Rattle.tap_safety.specs.Sessions.{Belongs, session_named}
use Rattle.tap_safety.specs.Soft.{AddsSoundLinks, NamesSoft}
use Rattle.tap_safety.specs.Exchanges.{ChangesAt, IsTaken}
use Rattle.tap_safety.specs.System.{System, AmongFrames, HasLink, IsUnderWay}
use Rattle.tap_safety.specs.Tells.{TellsAreSound}
use Rattle.tap_safety.specs.Ties.{link_in, link_of, status_in, status_of, word_frame}
use Rattle.tap_safety.specs.Turned.{Taking, closed_by, opened_by, sessions_with, surrogates_with}
use Rattle.tap_safety.proofs.Moved.{delivers, found}
use Rattle.tap_safety.proofs.StepLaws.{plain_law, seeking_frame_law, soft_plain_law, tells_frame_law}
use Rattle.tap_safety.proofs.Said.{Said, said_of}
use Rattle.tap_safety.proofs.Said.Said.{IsAck, IsHeard, IsHello, IsTell}
use Rattle.tap_moves.specs.ByRule.{taken_at}
use Rattle.tap_moves.specs.Delivered.{after_delivery}
use Rattle.tap_moves.proofs.Exchanged.{exchanges}
use Rattle.tap_moves.proofs.SessionsMade.{none_opened}
use Rattle.tap_moves.specs.JoinMoves.{DonesStay}
use Rattle.tap_safety_moves.specs.Ignored.{IgnoredIsLost, IgnoresFrame, MayIgnore}

-- ---- a frame that is ignored

-- such a frame is of no session, and closes none
ignored_named : (node : NodeState) {body : Body} → Said body → (from to : List ℕ) → MayIgnore node body
    → ◌≡◌ {A = Option (List ℕ × ℕ)} (session_named body from to) None
ignored_named node (IsTell tell watch) from to may = absurd may
ignored_named node (IsHello hello) from to may = absurd may
ignored_named node (IsHeard session) from to may = absurd may
ignored_named node (IsAck session) from to may = absurd may
ignored_named node _ from to may = refl

ignored_closes : (node : NodeState) (body : Body) (after : NodeState) → MayIgnore node body → closed_by body after ≡ None
ignored_closes node (Heard session) after may = absurd may
ignored_closes node (Ack session) after may = absurd may
ignored_closes node other after may = refl

-- if it is of no session, and opens and closes none, the sessions are left
sessions_left : (s : System) (t : Taking) → session_named t.frame.body t.frame.from t.frame.to ≡ None
    → closed_by t.frame.body t.after ≡ None → opened_by t ≡ None → (y : List ℕ) (m : ℕ) → sessions_with s.session t y m ≡ s.session y m
sessions_left s t named closed opened y m = rw (named, closed, opened) refl

-- what is remembered of surrogates and sessions after a delivery
module _ (p : SettingsValue) (s : System) (number : ℕ) (frame : Frame) (node : NodeState)
    (is : numbered_frame number s.frames ≡ Some frame) (at : s.node frame.to ≡ Some node) where
  sessions_after : (y : List ℕ) (k : ℕ) → (moved p s (Delivers number)).session y k
      ≡ sessions_with s.session (taking s number frame node (act node (Takes frame))) y k
  unfolding moved
  sessions_after y k = rw (is, at) refl

  surrogates_after : (b : List ℕ) → (moved p s (Delivers number)).surrogate b
      ≡ surrogates_with s.surrogate frame.to (opened_by (taking s number frame node (act node (Takes frame)))) b
  unfolding moved
  surrogates_after b = rw (is, at) refl

module _ (p : SettingsValue) (s : System) (number : ℕ) (node : NodeState) (from : List ℕ) (body : Body)
    (is : IgnoresFrame p s number node from body) where
  abbrev frame : Frame
  frame = frame_to node from body

  abbrev own : List ℕ
  own = name_of node

  abbrev after : System
  after = after_delivery p s number

  is_found : numbered_frame number s.frames ≡ Some frame
  is_found = found number frame 0 s.frames s.next is.invariant.numbered.numbers is.among

  step : IsDelivered p s number frame node
  step = delivers p s number frame node is_found is.at

  -- the node is left as it was, and sends nothing
  at : ChangesAt s after own node node
  at = subst (λ n. ChangesAt s after own node n) is.ignored.state step.at

  done : HasDone s after own node []
  done =
      subst (λ sent. HasDone s after own node sent) is.ignored.sent
      (subst (λ n. HasDone s after own n (taken_at node from body).sent) is.ignored.state step.done)

  none_opens : opened_by (taking s number frame node (taken_at node from body)) ≡ None
  none_opens =
      none_opened node.sessions (taken_at node from body).state.sessions
      (ap (λ (n : NodeState). n.sessions.opened) is.ignored.state)

  node_left : (x : List ℕ) → after.node x ≡ s.node x
  node_left x = elim (at.others x) [ inr same ↦ same | inl here ↦ rw here (at.is ∙ sym at.was) ]

  words_left : (x t : List ℕ) → after.last x t ≡ s.last x t
  unfolding last_after
  words_left x t = elim (done.others_words x t) [ inr same ↦ same | inl here ↦ rw here (done.words t) ]

  pub lost : IsLost p s number frame
  lost = record {
    taken = subst (λ sent. IsTaken s after number frame sent) is.ignored.sent step.taken;
    node = node_left;
    words = words_left;
    surrogate = λ b.
        surrogates_after p s number frame node is_found is.at b
        ∙ ap (λ (o : Option Session). surrogates_with s.surrogate own o b) none_opens;
    session = λ y k.
        sessions_after p s number frame node is_found is.at y k
        ∙ sessions_left s (taking s number frame node (taken_at node from body)) (ignored_named node (said_of body) from own is.may)
        (ignored_closes node body (taken_at node from body).state is.may) none_opens y k;
  }

pub ignored_is_lost : IgnoredIsLost
ignored_is_lost p s number node from body is = lost p s number node from body is

-- ---- what such a frame keeps

-- it is no Tell, no Hello and no Seek
no_tell : (node : NodeState) (body : Body) → MayIgnore node body → (tell : TellFields) (watch : List Slot) → body ≡ tell_body tell watch
    → ⊥
no_tell node body may tell watch is = let never : MayIgnore node (tell_body tell watch) = rw is at may in never

no_hello : (node : NodeState) (body : Body) → MayIgnore node body → (hello : HelloFields) → body ≡ hello_body hello → ⊥
no_hello node body may hello is = let never : MayIgnore node (hello_body hello) = rw is at may in never

no_seek : (node : NodeState) (body : Body) → MayIgnore node body → (x : List ℕ) → body ≡ Seek x → ⊥
no_seek node body may x is = let never : MayIgnore node (Seek x) = rw is at may in never

no_done : (node : NodeState) (body : Body) → MayIgnore node body → body ≡ Done → ⊥
no_done node body may is = let never : MayIgnore node Done = rw is at may in never

-- a frame of no session belongs to none
unnamed : (f g : Frame) (y : List ℕ) (k : ℕ) → f ≡ g → session_named g.body g.from g.to ≡ None → Belongs f y k → ⊥
unnamed f g y k is none belongs =
    let wrong : ◌≡◌ {A = Option (List ℕ × ℕ)} None (Some (y, k)) =
    sym none ∙ ap (λ (h : Frame). session_named h.body h.from h.to) (sym is) ∙ belongs in
    absurd (cc)

-- nothing is sent
pub nothing_sent : (x : List ℕ) → AreSent x [] [] []
nothing_sent x = record {
  each = λ frame among. absurd among;
  links = λ word among. absurd among;
  named = λ message among. absurd among;
}

module _ (p : SettingsValue) (s : System) (number : ℕ) (node : NodeState) (from : List ℕ) (body : Body)
    (is : IgnoresFrame p s number node from body) where
  abbrev pub gone : IsLost p s number (frame_to node from body)
  gone = lost p s number node from body is

  abbrev pub left : System
  left = after_delivery p s number

  -- it is taken plainly, by a node that keeps its links
  abbrev pub takes_frame : TakesFrame s left number (frame_to node from body)
  takes_frame = record {
    before = node;
    after = node;
    words = [];
    messages = [];
    sent = [];
    are = nothing_sent (name_of node);
    taken = gone.taken;
    at = record { was = is.at; is = gone.node (name_of node) ∙ is.at; others = λ y. inr (gone.node y) };
    stays = record { status = refl; covers = λ d. refl };
    surrogate = gone.surrogate;
  }

  pub adds_none : AddsSoundLinks left node node
  adds_none t kind link = inl link

  takes_plainly : TakesPlainly s left number (frame_to node from body)
  takes_plainly = record {
    step = takes_frame;
    links = λ t. refl;
    no_tell = no_tell node body is.may;
    no_hello = no_hello node body is.may;
  }

  pub lost_filled : AreFilled p s → AreFilled p left
  lost_filled filled = plain_law p s left number (frame_to node from body) takes_plainly filled

  pub lost_soft : NamesSoft left
  unfolding takes_plainly
  lost_soft = soft_plain_law s left number (frame_to node from body) takes_plainly (λ m among. absurd among) is.invariant.soft

  pub lost_seeking : Seeking left × AreOfSeekers left
  lost_seeking =
      let law = seeking_frame_law s left number (frame_to node from body) takes_frame (λ m among. absurd among) (no_seek node body is.may)
      adds_none in
      (law.0 is.invariant.seeking, law.1 is.invariant.seekers)

  pub lost_tells : TellsAreSound p left
  lost_tells = tells_frame_law p s left number (frame_to node from body) takes_frame (λ m among. absurd among) is.invariant.tells

  -- ---- frames and sessions

  swaps : Exchanges s left number (frame_to node from body) []
  swaps = exchanges s left number (frame_to node from body) [] gone.taken is.invariant.numbered

  pub frame_was : (m : ℕ) (f : Frame) → AmongFrames m f left.frames → AmongFrames m f s.frames
  frame_was m f among = elim (swaps.was m f among) [ inl old ↦ old | inr never ↦ absurd never ]

  -- a frame stays under way, unless it is the one that is lost
  pub frame_still : (m : ℕ) (f : Frame) → AmongFrames m f s.frames → (f ≡ frame_to node from body) ⊎ AmongFrames m f left.frames
  frame_still m f among =
      elim (swaps.still m f among) [
        | inr on ↦ inr on
        | inl same ↦ inl (swaps.was_one number f (frame_to node from body) (subst (λ n. AmongFrames n f s.frames) same among) swaps.taken)
      ]

  pub way_was : (w t : List ℕ) (b : Body) → IsUnderWay left w t b → IsUnderWay s w t b
  way_was w t b way = record { number = way.number; among = frame_was way.number (record { from = w; to = t; body = b }) way.among }

  pub way_still : (w t : List ℕ) (b : Body) → (b ≡ body → ⊥) → IsUnderWay s w t b → IsUnderWay left w t b
  way_still w t b apart way =
      elim (frame_still way.number (record { from = w; to = t; body = b }) way.among) [
        | inr on ↦ record { number = way.number; among = on }
        | inl same ↦ absurd (apart (ap (λ (f : Frame). f.body) same))
      ]

  pub leaves : LeavesSessions s left
  leaves = record {
    sessions = gone.session;
    still = λ m f y k among belongs. elim (frame_still m f among) [
      | inr on ↦ on
      | inl same ↦
          absurd (unnamed f (frame_to node from body) y k same (ignored_named node (said_of body) from (name_of node) is.may) belongs)
    ];
    was = λ m f y k among belongs. frame_was m f among;
    is_one = swaps.is_one;
  }

  pub dones : DonesStay s left
  dones = record {
    on = λ w b m among. elim (frame_still m (record { from = w; to = b; body = Done }) among) [
      | inr on ↦ on
      | inl same ↦ absurd (no_done node body is.may (sym (ap (λ (f : Frame). f.body) same)))
    ];
    was = λ w b m among. frame_was m (record { from = w; to = b; body = Done }) among;
  }

  pub joiners : JoinersStay s left
  joiners = record {
    on = λ b joins. record {
      state = joins.state;
      is = gone.node b ∙ joins.is;
      joining = joins.joining;
      surrogate = joins.surrogate;
      started = gone.surrogate b ∙ joins.started;
    };
    was = λ b joins. record {
      state = joins.state;
      is = sym (gone.node b) ∙ joins.is;
      joining = joins.joining;
      surrogate = joins.surrogate;
      started = sym (gone.surrogate b) ∙ joins.started;
    };
    surrogates = λ b joins. gone.surrogate b;
  }

  pub lost_places : HavePlaces left
  lost_places = record {
    places = λ y m o is_open.
        let place = is.invariant.places.places y m o (sym (gone.session y m) ∙ is_open) in
        record {
          state = place.state;
          is = gone.node y ∙ place.is;
          holds = place.holds;
          opened = place.opened;
          other = place.other;
          above = place.above;
        };
  }

  pub lost_core : HasCore left
  lost_core =
      let core = is.invariant.has_core.core in
      record {
        name = is.invariant.has_core.name;
        core = record { state = core.state; is = gone.node is.invariant.has_core.name ∙ core.is; core = core.core };
      }

  -- ---- links, statuses and stamps

  pub status_same : (x : List ℕ) → status_of left x ≡ status_of s x
  unfolding status_of
  status_same x = ap status_in (gone.node x)

  pub linked_same : (x t : List ℕ) → link_of left x t ≡ link_of s x t
  unfolding link_of
  linked_same x t = ap (λ node. link_in node t) (gone.node x)

  pub link_was : (x t : List ℕ) (kind : Kind) → HasLink left x t kind → HasLink s x t kind
  link_was x t kind link = record { state = link.state; is = sym (gone.node x) ∙ link.is; link = link.link }

  pub link_on : (x t : List ℕ) (kind : Kind) → HasLink s x t kind → HasLink left x t kind
  link_on x t kind link = record { state = link.state; is = gone.node x ∙ link.is; link = link.link }

  pub lost_ended : EndedHaveNoLinks left
  lost_ended = record {
    none = λ x t kind link.
        let was = is.invariant.ended.none x t kind (link_was x t kind link) in (
          λ ended. was.0 (sym (status_same x) ∙ ended),
          λ ceased. was.1 (sym (status_same x) ∙ ceased),
        );
  }

  pub lost_stamped : AreStamped left
  lost_stamped = record {
    once = λ x t word m n one two.
        is.invariant.stamped.once x t word m n (frame_was m (word_frame x t word) one) (frame_was n (word_frame x t word) two);
    stamp = λ x t word state there table last.
        is.invariant.stamped.stamp x t word state (sym (gone.node x) ∙ there) table (sym (gone.words x t) ∙ last);
  }
