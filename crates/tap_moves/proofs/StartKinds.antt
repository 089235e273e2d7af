-- A start that is no departure is of two kinds: a new name starts to join, or a node leaves joins and departures as they were.
use Rattle.std.proofs.Common.{◌≡◌, ◌⊎◌, ℕ, List, [], ◌∷◌, Option, None, Some, ap, refl, sym, subst, ◌∙◌, inl, inr}
use Rattle.std.proofs.lemmas.List.Elements.{All-nil}
use Rattle.tap_name.specs.Settings.{SettingsValue}
use Rattle.tap_link.specs.declared.kind.Kind.{Kind}
use Rattle.tap_multicast.specs.Covers.{level_kept}
use Rattle.tap_table.specs.Table.{kind_in}
use Rattle.tap_table.specs.Ties.{TiesValue}
use Rattle.tap_pointer.specs.Reconcile.{wanted_hop}
use Rattle.tap_wire.specs.declared.frame.Body.{Body}
use Rattle.tap_wire.specs.declared.frame.Body.TheVariants.{Seek}
use Rattle.tap_wire.specs.declared.frame.Frame.{Frame}
use Rattle.tap_rule.specs.Act.{act}
use Rattle.tap_rule.specs.Event.{Acted, Start}
use Rattle.tap_rule.specs.Event.Event.{Starts}
use Rattle.tap_rule.specs.Event.Start.{Abandon, Cast, Find, Join, Leave, Publish, Withdraw}
use Rattle.tap_rule.specs.Node.{NodeState, joiner, link_to, name_of, no_sessions}
use Rattle.tap_rule.specs.Node.Status.{Joining}
use Rattle.tap_rule.specs.QuietSteps.{IsQuiet, IsQuietStart}
use Rattle.tap_rule.specs.Reaction.{message}
use Rattle.tap_rule.specs.Sent.{AreSent, IsAmong}
use Rattle.tap_rule.proofs.EndSteps.{unlinked}
use Rattle.tap_rule.proofs.QuietSteps.{quiet_start_law}
use Rattle.tap_rule.proofs.StartSteps.{give_up_law, seek_start_law}
use Rattle.tap_safety.specs.FrameSteps.{StartsJoin}
use Rattle.tap_safety.specs.Invariant.{Basis}
use Rattle.tap_safety.specs.Move.{MayAct, MayGiveUp, MayJoin, may_start}
use Rattle.tap_safety.specs.Moved.{IsStarted, departing_by, departing_with, moved, starter, with_acted, with_begun}
use Rattle.tap_safety.specs.Remembered.{Leaver}
use Rattle.tap_safety.specs.SeekerSteps.{seek_frame}
use Rattle.tap_safety.specs.Exchanges.{ChangesAt, IsSent}
use Rattle.tap_safety.specs.System.{System, AmongFrames, HasLink, IsCoreNode, IsUnderWay}
use Rattle.tap_safety.specs.Ties.{status_in, status_of}
use Rattle.tap_safety.proofs.LinkKeeps.{status_seen}
use Rattle.tap_safety.proofs.Moved.{starts}
use Rattle.tap_safety.proofs.SoftSteps.{start_ways}
use Rattle.tap_safety.proofs.StartKeeps.{node_was}
use Rattle.tap_safety.proofs.TellKeeps.{links_same}
use Rattle.tap_moves.specs.Delivered.{after_start}
use Rattle.tap_moves.proofs.Exchanged.{in_either, in_first, sent_numbered}
use Rattle.tap_moves.proofs.SeekGoesOn.{one_sent}
use Rattle.tap_moves.proofs.Silent.{same_in}
use Rattle.tap_moves.proofs.StartMoves.{never_started}
use Rattle.tap_moves.specs.Starts.{IsNoDeparture}

-- ---- nobody departs

-- if nobody departs, nobody does until no frame is under way
departing_none : (frames : List (ℕ × Frame)) (departing : Option Leaver) → departing ≡ None → departing_with frames departing ≡ None
departing_none [] departing none = refl
departing_none (f ∷ fs) departing none = none

-- who departs stays, at a start that is no departure
same_departing : (node : NodeState) (x : List ℕ) (start : Start) (departing : Option Leaver) → IsNoDeparture start
    → departing_by node x start departing ≡ departing
same_departing node x (Join via) departing stays = refl
same_departing node x Abandon departing stays = refl
same_departing node x Leave departing stays = absurd stays
same_departing node x (Publish object) departing stays = refl
same_departing node x (Withdraw object) departing stays = refl
same_departing node x (Find ticket object) departing stays = refl
same_departing node x (Cast cast level word) departing stays = refl

-- so nobody departs after such a start
begun_none : (s : System) (x : List ℕ) (start : Start) (node : Option NodeState) → IsNoDeparture start → s.departing ≡ None
    → (with_begun s x start node).departing ≡ None
begun_none s x start None stays none = none
begun_none s x start (Some node) stays none =
    departing_none (with_acted s x (act node (Starts start))).frames (departing_by node x start s.departing)
    (same_departing node x start s.departing stays ∙ none)

started_none : (p : SettingsValue) (s : System) (x : List ℕ) (start : Start) → IsNoDeparture start → s.departing ≡ None
    → (after_start p s x start).departing ≡ None
unfolding moved
started_none p s x start stays none = begun_none s x start (starter p s x start) stays none

-- who gives a join up joins, so nobody departs
joining_none : (p : SettingsValue) (s : System) (x : List ℕ) → Basis p s → MayGiveUp s x → s.departing ≡ None
joining_none p s x inv may = by_leaver s.departing refl
  where
    by_leaver : (leaver : Option Leaver) → s.departing ≡ leaver → s.departing ≡ None
    by_leaver None is = is
    by_leaver (Some leaver) is =
        absurd ((inv.departure.during leaver is).joining x (status_seen s x may.state Joining may.is may.joining))

-- ---- a node that is there

-- Of joins and departures a node keeps all, but whether its join was given up; and what it sends is about pointers, lookups and casts.
pub record StaysAlike (node : NodeState) (acted : Acted) : Type 0 where
  pub status : acted.state.status ≡ node.status
  pub ties : acted.state.ties ≡ node.ties
  pub sessions : acted.state.sessions ≡ node.sessions
  pub covers : acted.state.covers ≡ node.covers
  pub sent : (frame : Frame) → IsAmong frame acted.sent → IsQuiet frame.body

-- A node that is there starts something at which it stays so, and nobody departs.
pub record StartsAlike (p : SettingsValue) (s : System) (x : List ℕ) (start : Start) (node : NodeState) : Type 0 where
  pub at : s.node x ≡ Some node
  pub step : IsStarted p s x start node
  pub alike : StaysAlike node (act node (Starts start))
  pub was_none : s.departing ≡ None
  pub none : (after_start p s x start).departing ≡ None

-- a publication, a withdrawal, a lookup or a cast is such a start
quiet_alike : (p : SettingsValue) (s : System) (x : List ℕ) (start : Start) → (may : MayAct s x)
    → starter p s x start ≡ Some may.state → IsQuietStart start → IsNoDeparture start → StartsAlike p s x start may.state
quiet_alike p s x start may is quiet stays =
    let law = quiet_start_law may.state start quiet in
    record {
      at = may.is;
      step = starts p s x start may.state is;
      alike = record { status = law.status; ties = law.ties; sessions = law.sessions; covers = law.covers; sent = law.sent };
      was_none = may.none_departs;
      none = started_none p s x start stays may.none_departs;
    }

-- what a node sends without a word and a message are Lays
lays_alone : (own : List ℕ) (sent : List Frame) → AreSent own [] [] sent → (frame : Frame) → IsAmong frame sent → IsQuiet frame.body
lays_alone own sent are frame among =
    elim (are.each frame among) [
      | inl link ↦ absurd link.among
      | inr (inl named) ↦ absurd named.among
      | inr (inr lay) ↦ subst (λ (f : Frame). IsQuiet f.body) (sym lay.is) tt
    ]

-- and so is the giving up of a join
gives_up_alike : (p : SettingsValue) (s : System) (x : List ℕ) → Basis p s → (may : MayGiveUp s x)
    → StartsAlike p s x Abandon may.state
gives_up_alike p s x inv may =
    let law = give_up_law may.state may.joining in
    let none = joining_none p s x inv may in
    record {
      at = may.is;
      step = starts p s x Abandon may.state may.is;
      alike = record {
        status = law.status;
        ties = law.ties;
        sessions = law.sessions;
        covers = law.covers;
        sent = lays_alone (name_of may.state) (act may.state (Starts Abandon)).sent law.sent;
      };
      was_none = none;
      none = started_none p s x Abandon tt none;
    }

-- ---- a new name

-- what a node does that starts to join by another
abbrev pub joined : SettingsValue → List ℕ → List ℕ → Acted
joined p x via = act (joiner p x) (Starts (Join via))

-- A new name starts to join by a core node, while nobody departs: it is a joining node without links, holders, sessions and covers, and
-- sends its Seek alone.
pub record StartsAnew (p : SettingsValue) (s : System) (x via : List ℕ) : Type 0 where
  pub fresh : s.node x ≡ None
  pub unstarted : s.surrogate x ≡ None
  pub core : IsCoreNode s via
  pub step : IsStarted p s x (Join via) (joiner p x)
  pub joining : (joined p x via).state.status ≡ Joining
  pub unlinked : (t : List ℕ) → link_to (joined p x via).state t ≡ None
  pub unheld : (joined p x via).state.ties.holders ≡ []
  pub sessions : (joined p x via).state.sessions ≡ no_sessions
  pub covers : (joined p x via).state.covers ≡ []
  pub are : AreSent x [] (message via (Seek x) ∷ []) (joined p x via).sent
  pub sent : (joined p x via).sent ≡ seek_frame x via ∷ []
  pub was_none : s.departing ≡ None
  pub none : (after_start p s x (Join via)).departing ≡ None

-- what a new name may start is such a start
starts_anew : (p : SettingsValue) (s : System) (x via : List ℕ) → Basis p s → MayJoin p s x via → StartsAnew p s x via
starts_anew p s x via inv may =
    let law = seek_start_law (joiner p x) via refl in
    record {
      fresh = may.fresh;
      unstarted = never_started p s x inv may.fresh;
      core = may.core;
      step = starts p s x (Join via) (joiner p x) refl;
      joining = law.joins.status;
      unlinked = λ t. ap (λ (ties : TiesValue). kind_in ties.table t) law.ties ∙ unlinked p x t;
      unheld = ap (λ (ties : TiesValue). ties.holders) law.ties;
      sessions = law.sessions;
      covers = law.joins.covers;
      are = law.sent;
      sent =
          one_sent (joiner p x) (message via (Seek x)) (joined p x via) law.completed
          (All-nil (λ e. e.1.laid ≡ wanted_hop (joined p x via).state.ties.table e));
      was_none = may.none_departs;
      none = started_none p s x (Join via) tt may.none_departs;
    }

-- ---- both kinds

-- what holds after a start of either kind holds after each start that is no departure
pub by_kind : (p : SettingsValue) (s : System) (x : List ℕ) (start : Start) (P : System → Type 0) → Basis p s → may_start p s x start
    → IsNoDeparture start → ((via : List ℕ) → StartsAnew p s x via → P (after_start p s x (Join via)))
    → ((node : NodeState) → StartsAlike p s x start node → P (after_start p s x start)) → P (after_start p s x start)
by_kind p s x (Join via) P inv may stays anew alike = anew via (starts_anew p s x via inv may)
by_kind p s x Abandon P inv may stays anew alike = alike may.state (gives_up_alike p s x inv may)
by_kind p s x Leave P inv may stays anew alike = absurd stays
by_kind p s x (Publish object) P inv may stays anew alike =
    alike may.acts.state (quiet_alike p s x (Publish object) may.acts may.acts.is tt tt)
by_kind p s x (Withdraw object) P inv may stays anew alike =
    alike may.acts.state (quiet_alike p s x (Withdraw object) may.acts may.acts.is tt tt)
by_kind p s x (Find ticket object) P inv may stays anew alike =
    alike may.acts.state (quiet_alike p s x (Find ticket object) may.acts may.acts.is tt tt)
by_kind p s x (Cast cast level word) P inv may stays anew alike =
    alike may.acts.state (quiet_alike p s x (Cast cast level word) may.acts may.acts.is tt tt)

-- ---- frames after a node has stayed so

module _ (p : SettingsValue) (s : System) (x : List ℕ) (start : Start) (node : NodeState) (is : StartsAlike p s x start node) where
  -- of the nodes that of x alone changes
  abbrev pub alike_changes : ChangesAt s (after_start p s x start) x node (act node (Starts start)).state
  alike_changes = record { was = is.at; is = is.step.done.is; others = is.step.done.others }

  -- and the other way round
  alike_back : ChangesAt (after_start p s x start) s x (act node (Starts start)).state node
  alike_back = record {
    was = is.step.done.is;
    is = is.at;
    others = λ y. elim (is.step.done.others y) [ inl here ↦ inl here | inr same ↦ inr (sym same) ];
  }

  -- its links stay, the status of each node, and so the links of each
  pub alike_links : (t : List ℕ) → link_to (act node (Starts start)).state t ≡ link_to node t
  alike_links t = ap (λ (ties : TiesValue). kind_in ties.table t) is.alike.ties

  pub alike_status : (y : List ℕ) → status_of (after_start p s x start) y ≡ status_of s y
  unfolding status_of
  alike_status y =
      same_in s (after_start p s x start) x node (act node (Starts start)).state alike_changes status_in
      (ap (λ status. Some status) is.alike.status) y

  pub alike_link_was : (y t : List ℕ) (kind : Kind) → HasLink (after_start p s x start) y t kind → HasLink s y t kind
  alike_link_was =
      links_same (after_start p s x start) s x (act node (Starts start)).state node alike_back (λ t. sym (alike_links t))

  -- a frame that is about something else was under way
  pub alike_way_was : (from to : List ℕ) (body : Body) → (IsQuiet body → ⊥) → IsUnderWay (after_start p s x start) from to body
      → IsUnderWay s from to body
  alike_way_was from to body apart way =
      elim (start_ways s (after_start p s x start) (act node (Starts start)).sent is.step.sent from to body way) [
        | inl old ↦ old
        | inr sends ↦ absurd (apart (is.alike.sent (record { from = from; to = to; body = body }) sends))
      ]

  -- and so was its number, which stays
  pub alike_among_was : (m : ℕ) (f : Frame) → (IsQuiet f.body → ⊥) → AmongFrames m f (after_start p s x start).frames
      → AmongFrames m f s.frames
  alike_among_was m f apart among =
      let sent = (act node (Starts start)).sent in
      elim (in_either m f s.frames _ (rw is.step.sent.after at among)) [
        | inl old ↦ old
        | inr comes ↦ absurd (apart (is.alike.sent f (sent_numbered m f s.next sent comes)))
      ]

  pub alike_among_on : (m : ℕ) (f : Frame) → AmongFrames m f s.frames → AmongFrames m f (after_start p s x start).frames
  alike_among_on m f among = rw is.step.sent.after (in_first m f s.frames _ among)

-- ---- frames and nodes after a new name has started to join

module _ (p : SettingsValue) (s : System) (x via : List ℕ) (is : StartsAnew p s x via) where
  -- it is a start of which the laws of steps speak
  abbrev pub anew_start : StartsJoin s (after_start p s x (Join via)) x
  anew_start = record {
    fresh = is.fresh;
    unstarted = is.unstarted;
    after = (joined p x via).state;
    words = [];
    messages = message via (Seek x) ∷ [];
    sent = (joined p x via).sent;
    are = is.are;
    has_sent = is.step.sent;
    is = is.step.done.is;
    others = is.step.done.others;
    joining = is.joining;
    links = is.unlinked;
    covers = λ d. ap (λ c. level_kept c d) is.covers;
    surrogate = is.step.surrogate;
  }

  -- what is sent is the Seek
  pub anew_sent : (from to : List ℕ) (body : Body) → IsSent (joined p x via).sent from to body → body ≡ Seek x
  anew_sent from to body sends = by_one (subst (IsAmong frame) is.sent sends)
    where
      frame : Frame
      frame = record { from = from; to = to; body = body }

      by_one : IsAmong frame (seek_frame x via ∷ []) → body ≡ Seek x
      by_one (inl same) = ap (λ (f : Frame). f.body) same
      by_one (inr none) = absurd none

  -- so a frame that is under way was, or is the Seek
  pub anew_ways : (from to : List ℕ) (body : Body) → IsUnderWay (after_start p s x (Join via)) from to body
      → IsUnderWay s from to body ⊎ (body ≡ Seek x)
  anew_ways from to body way =
      elim (start_ways s (after_start p s x (Join via)) (joined p x via).sent is.step.sent from to body way) [
        | inl old ↦ inl old
        | inr sends ↦ inr (anew_sent from to body sends)
      ]

  -- the new one has no link
  pub anew_link_was : (y t : List ℕ) (kind : Kind) → HasLink (after_start p s x (Join via)) y t kind → HasLink s y t kind
  anew_link_was y t kind link =
      elim (node_was s (after_start p s x (Join via)) x anew_start y link.state link.is) [
        | inr there ↦ record { state = link.state; is = there; link = link.link }
        | inl new ↦
            let none : link_to link.state t ≡ None = ap (λ (n : NodeState). link_to n t) new.1 ∙ is.unlinked t in
            let wrong : None ≡ Some kind = sym none ∙ link.link in
            absurd (cc)
      ]

  -- a node that was there is as it was
  pub anew_there : (y : List ℕ) (state : NodeState) → s.node y ≡ Some state → (after_start p s x (Join via)).node y ≡ s.node y
  anew_there y state at =
      elim (is.step.done.others y) [
        | inr same ↦ same
        | inl here ↦
            let none : s.node y ≡ None = ap s.node here ∙ is.fresh in
            let wrong : None ≡ Some state = sym none ∙ at in
            absurd (cc)
      ]
