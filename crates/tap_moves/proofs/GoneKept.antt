-- The Gone of a node that has left: whoever takes it has no link to that node any more.
use Rattle.std.proofs.Common.{◌≡◌, inl, inr, ℕ, true, List, [], ◌⊎◌, None, Some, refl, sym, ap, subst, ◌∙◌}
use Rattle.tap_link.specs.declared.kind.Kind.{Kind}
use Rattle.tap_link.specs.declared.kind.Kind.TheVariants.{Pin, Settled, Leaving as LeavingKind}
use Rattle.tap_wire.specs.declared.frame.Body.{Body}
use Rattle.tap_wire.specs.declared.frame.Body.TheVariants.{Forget, Gone, Leave, Left, Link, Release}
use Rattle.tap_wire.specs.declared.frame.Frame.{Frame}
use Rattle.tap_rule.specs.Node.{NodeState, link_to}
use Rattle.tap_rule.specs.Node.Status.{Core, Gone as GoneStatus, Leaving}
use Rattle.tap_rule.specs.Sent.{AreSent}
use Rattle.tap_safety.specs.Remembered.{Leaver}
use Rattle.tap_safety.specs.System.{System, AmongFrames, HasLink, IsCoreNode, IsUnderWay}
use Rattle.tap_safety.specs.Departing.{Departs, Departure, HasOther, HasReplaced, WhileDeparting, WhileLeaving}
use Rattle.tap_safety.specs.FrameSteps.{TakesFrame}
use Rattle.tap_safety.specs.Notices.{HasAnswered, HasOneNotice, IsAwaiting, IsBetween, IsGoneLeaver, Notices, UntilRest}
use Rattle.tap_safety.specs.Soft.{NamesSoft}
use Rattle.tap_safety.specs.Exchanges.{numbered_from}
use Rattle.tap_safety.specs.Ties.{link_of, status_of}
use Rattle.tap_safety.proofs.LinkKeeps.{some_state, status_seen}
use Rattle.tap_safety.proofs.NoticesKept.{gone_leaver_stays}
use Rattle.tap_safety.proofs.TellKeeps.{node_before}
use Rattle.tap_safety.proofs.UnderWay.{among_out, among_sent, among_was, still_under_way, taken_under_way, was_under_way}
use Rattle.tap_safety.proofs.WordsKept.{at_link, link_at}
use Rattle.tap_moves.specs.DepartingMoves.{DepartsInOrder}
use Rattle.tap_moves.proofs.Alike.{HaveAnswered, awaiting_leaves, awaits_on, awaits_was, core_on, core_was, fits_on, leaver_stays, leaving_on, link_apart, no_kind, one_kind, one_status, other_was, over_at_rest, replaced_on, status_same}
use Rattle.tap_moves.proofs.Aside.{IsAside, aside_may_be, aside_sent, no_release, some_name}
use Rattle.tap_name.specs.Settings.{SettingsValue}
use Rattle.tap_safety.specs.Bookkeeping.{EndedHaveNoLinks, HasCore}
use Rattle.tap_safety.specs.Frames.{hello_body}
use Rattle.tap_safety.specs.Parts.{HoleFree}
use Rattle.tap_moves.specs.PartMoves.{HaveTables}
use Rattle.tap_moves.proofs.NobodyJoins.{filled_now, holes_stay}

-- A Gone of n at x: x stays what it is, with whom it awaits; it has no link to n any more, and no other link changes; and it sends Lays
-- alone.
pub record TakesGone (s s' : System) (number : ℕ) (n x : List ℕ) : Type 0 where
  pub step : TakesFrame s s' number (record { from = n; to = x; body = Gone })
  pub awaited : step.after.awaited ≡ step.before.awaited
  pub unlinked : link_to step.after n ≡ None
  -- another core node of a slot was there before
  pub others : (t : List ℕ) → (t ≡ n) ⊎ (link_to step.after t ≡ link_to step.before t)
  pub sent : AreSent x [] [] step.sent

-- a Leave and a Left are no Gone
between_no_gone : (y a n x : List ℕ) (f : Frame) → IsBetween y a f → f ≡ record { from = n; to = x; body = Gone } → ⊥
between_no_gone y a n x f (inl leave) is =
    let wrong : Leave leave.0 ≡ Gone = ap (λ (g : Frame). g.body) (sym leave.1 ∙ is) in cc
between_no_gone y a n x f (inr left) is = let wrong : Left ≡ Gone = ap (λ (g : Frame). g.body) (sym left ∙ is) in cc

module _ (s s' : System) (number : ℕ) (n x : List ℕ) (takes : TakesGone s s' number n x) (rest : UntilRest s s') (leaver : Leaver)
    (departs : Departs s leaver) (departure : Departure s) (notices : Notices s) (soft : NamesSoft s) where
  abbrev frame : Frame
  frame = record { from = n; to = x; body = Gone }

  abbrev step : TakesFrame s s' number frame
  step = takes.step

  before : WhileDeparting s leaver
  before = departure.during leaver departs

  -- the sender is the leaver, and is gone
  sender_gone : IsGoneLeaver s n
  sender_gone = notices.gones n x (taken_under_way s s' number frame step.sent step.taken)

  n_gone : status_of s n ≡ Some GoneStatus
  n_gone = sender_gone.gone

  leaver_gone : status_of s leaver.name ≡ Some GoneStatus
  leaver_gone =
      let same : Some leaver ≡ Some sender_gone.leaver = sym departs ∙ sender_gone.departs in
      let one : leaver ≡ sender_gone.leaver = cc in
      ap (status_of s) (ap (λ (l : Leaver). l.name) one ∙ sender_gone.is) ∙ n_gone

  -- ---- what is under way

  -- what is under way was so, or is a Lay
  was_or_aside : (y t : List ℕ) (body : Body) → IsUnderWay s' y t body → IsUnderWay s y t body ⊎ IsAside leaver y t body
  was_or_aside y t body way =
      elim (was_under_way s s' number frame step.sent step.taken y t body way) [
        | inl old ↦ inl old
        | inr sends ↦ inr (aside_sent leaver x [] step.sent takes.sent (λ m among. absurd among) y t body sends)
      ]

  -- so what cannot be a Lay was under way
  way_was : (y t : List ℕ) (body : Body) → (IsAside leaver y t body → ⊥) → IsUnderWay s' y t body → IsUnderWay s y t body
  way_was y t body other way = elim (was_or_aside y t body way) [ inl old ↦ old | inr new ↦ absurd (other new) ]

  -- a Leave or a Left stays, and none comes
  between_still : (y a : List ℕ) (m : ℕ) (f : Frame) → IsBetween y a f → AmongFrames m f s.frames → AmongFrames m f s'.frames
  between_still y a m f between among =
      elim (among_out m number f frame step.taken.front step.taken.back (numbered_from s.next step.sent) (rw step.taken.before at among)) [
        | inl on ↦ rw step.taken.after on
        | inr is ↦ absurd (between_no_gone y a n x f between is.1)
      ]

  -- and each that is there was
  between_was : (y a : List ℕ) (m : ℕ) (f : Frame) → IsBetween y a f → AmongFrames m f s'.frames → AmongFrames m f s.frames
  between_was y a m f between among =
      elim (among_was m number f frame step.taken.front step.taken.back (numbered_from s.next step.sent) (rw step.taken.after at among)) [
        | inl old ↦ rw step.taken.before old
        | inr new ↦
            absurd (aside_no_between y a f between
            (aside_sent leaver x [] step.sent takes.sent (λ m among. absurd among) f.from f.to f.body
            (among_sent s.next step.sent m f new)))
      ]
    where
      aside_no_between : (y a : List ℕ) (f : Frame) → IsBetween y a f → IsAside leaver f.from f.to f.body → ⊥
      aside_no_between y a f (inl leave) aside =
          let never : ⊥ = subst (λ (g : Frame). IsAside leaver g.from g.to g.body) leave.1 aside in never
      aside_no_between y a f (inr left) aside =
          let never : ⊥ = subst (λ (g : Frame). IsAside leaver g.from g.to g.body) left aside in never

  -- ---- statuses and links

  -- each status is as before
  same : (y : List ℕ) → status_of s' y ≡ status_of s y
  same = status_same s s' x step.before step.after step.at step.stays.status

  -- no core node is gone
  core_apart : (t : List ℕ) → IsCoreNode s t → t ≡ n → ⊥
  core_apart t core is =
      elim core.core [
        | inl at ↦
            let wrong = one_status s t Core GoneStatus (status_seen s t core.state Core core.is at) (ap (status_of s) is ∙ n_gone) in cc
        | inr at ↦
            let wrong = one_status s t Leaving GoneStatus (status_seen s t core.state Leaving core.is at) (ap (status_of s) is ∙ n_gone) in cc
      ]

  -- no link is new
  link_was : (y t : List ℕ) (kind : Kind) → HasLink s' y t kind → HasLink s y t kind
  link_was y t kind link =
      elim (node_before s s' x step.before step.after step.at y link.state link.is) [
        | inr there ↦ record { state = link.state; is = there; link = link.link }
        | inl here ↦
            let now : link_to step.after t ≡ Some kind = ap (λ (m : NodeState). link_to m t) (sym here.1) ∙ link.link in
            elim (takes.others t) [
              | inr stays ↦ record { state = step.before; is = here.2; link = sym stays ∙ now }
              | inl gone ↦
                  let wrong : None ≡ Some kind = sym takes.unlinked ∙ ap (link_to step.after) (sym gone) ∙ now in cc
            ]
      ]

  -- a link stays, or is the one to the sender
  link_on : (y t : List ℕ) (kind : Kind) → HasLink s y t kind → ((y ≡ x) × (t ≡ n)) ⊎ HasLink s' y t kind
  link_on y t kind link =
      elim (link_apart s s' x step.before step.after step.at y t) [
        | inr stays ↦ inr (at_link s' y t kind (stays ∙ link_at s y t kind link))
        | inl here ↦ elim (takes.others t) [
          | inl gone ↦ inl (here, gone)
          | inr stays ↦
              let was : s.node x ≡ Some link.state = ap s.node (sym here) ∙ link.is in
              let state : step.before ≡ link.state = let at = step.at.was in cc in
              let now : link_to step.after t ≡ Some kind =
              stays ∙ ap (λ (m : NodeState). link_to m t) state ∙ link.link in
              inr (record { state = step.after; is = ap s'.node here ∙ step.at.is; link = now })
        ]
      ]

  -- a link to a node that isn't gone stays
  link_stays : (y t : List ℕ) (kind : Kind) → (t ≡ n → ⊥) → HasLink s y t kind → HasLink s' y t kind
  link_stays y t kind apart link = elim (link_on y t kind link) [ inl gone ↦ absurd (apart gone.1) | inr stays ↦ stays ]

  -- settled links stay
  settled_stays : (y t : List ℕ) → HasLink s y t Settled → HasLink s' y t Settled
  settled_stays y t link = link_stays y t Settled (core_apart t (soft.settled y t link)) link

  -- a slot that is filled stays so
  others : (a m : List ℕ) → HasOther s' a m → HasOther s a m
  others = other_was s s' x step.before step.after step.at step.stays.status

  still_replaced : (a m : List ℕ) → HasReplaced s a m → HasLink s' a m LeavingKind → HasReplaced s' a m
  still_replaced a m replaced marked = replaced_on s s' a m (others a m) marked (settled_stays a) replaced

  -- ---- the leaver

  -- a leaving node isn't the one that has gone
  leaving_apart : (y : List ℕ) → status_of s y ≡ Some Leaving → y ≡ n → ⊥
  leaving_apart y leaving is = let wrong = one_status s y Leaving GoneStatus leaving (ap (status_of s) is ∙ n_gone) in cc

  -- a leaving node goes on as before
  goes_on : (old new : NodeState) → new.awaited ≡ old.awaited → ((t : List ℕ) → link_to new t ≡ link_to old t)
      → WhileLeaving s leaver old → WhileLeaving s' leaver new
  goes_on old new awaited links = leaving_on s s' leaver old new awaited links (λ y kind link. link_was y leaver.name kind link)

  leaver_goes_on : (state : NodeState) → s'.node leaver.name ≡ Some state → state.status ≡ Leaving → WhileLeaving s' leaver state
  leaver_goes_on state is leaving =
      elim (node_before s s' x step.before step.after step.at leaver.name state is) [
        | inr there ↦ goes_on state state refl (λ t. refl) (before.goes state there leaving)
        | inl here ↦
            let was : step.before.status ≡ Leaving =
            sym step.stays.status ∙ ap (λ (m : NodeState). m.status) (sym here.1) ∙ leaving in
            let goes = before.goes step.before here.2 was in
            subst (WhileLeaving s' leaver) (sym here.1) (goes_on step.before step.after takes.awaited (links_stay goes here.2) goes)
      ]
    where
      -- its links are to core nodes
      links_stay : WhileLeaving s leaver step.before → s.node leaver.name ≡ Some step.before
          → (t : List ℕ) → link_to step.after t ≡ link_to step.before t
      links_stay goes at t =
          elim (takes.others t) [
            | inr stays ↦ stays
            | inl gone ↦
                let none : link_to step.before n ≡ None = no_kind (link_to step.before n) (λ kind has.
                let settled = goes.settled n kind has in
                let link : HasLink s leaver.name n Settled =
                record { state = step.before; is = at; link = has ∙ ap (λ k. Some k) settled } in
                core_apart n (soft.settled leaver.name n link) refl) in
                ap (link_to step.after) gone ∙ takes.unlinked ∙ sym none ∙ ap (link_to step.before) (sym gone)
          ]

  -- ---- while it goes on

  -- a holder of the leaver that has gone keeps its link, or takes the Gone
  still_gone : status_of s' leaver.name ≡ Some GoneStatus → (y : List ℕ) (kind : Kind) → HasLink s' y leaver.name kind
      → HasReplaced s' y leaver.name × IsUnderWay s' leaver.name y Gone
  still_gone gone y kind link =
      let was = link_was y leaver.name kind link in
      let both = before.gone (sym (same leaver.name) ∙ gone) y kind was in
      let marked = one_kind s y leaver.name kind LeavingKind was both.0.marked in (
        still_replaced y leaver.name both.0 (subst (HasLink s' y leaver.name) marked link),
        elim (still_under_way s s' number frame step.sent step.taken leaver.name y Gone both.1) [
          | inl way ↦ way
          | inr taken ↦
              let from : leaver.name ≡ n = ap (λ (f : Frame). f.from) taken in
              let to : y ≡ x = ap (λ (f : Frame). f.to) taken in
              absurd (unlinked_there y leaver.name kind to from link)
        ],
      )
    where
      unlinked_there : (y t : List ℕ) (kind : Kind) → y ≡ x → t ≡ n → HasLink s' y t kind → ⊥
      unlinked_there y t kind here gone link =
          let at : s'.node y ≡ Some step.after = ap s'.node here ∙ step.at.is in
          let is = link.is in
          let state : link.state ≡ step.after = cc in
          let wrong : None ≡ Some kind =
          sym takes.unlinked ∙ ap (link_to step.after) (sym gone) ∙ ap (λ (m : NodeState). link_to m t) (sym state) ∙ link.link in
          cc

  -- the departure goes on
  pub still_departing : WhileDeparting s' leaver
  still_departing = record {
    joining = λ y joining. before.joining y (sym (same y) ∙ joining);
    pins = λ y t pin. before.pins y t (link_was y t Pin pin);
    marked = λ y t marked. before.marked y t (link_was y t LeavingKind marked);
    leaving = λ y leaving. before.leaving y (sym (same y) ∙ leaving);
    frames = λ y t body way. elim (was_or_aside y t body way) [
      | inl old ↦ before.frames y t body old
      | inr new ↦ aside_may_be leaver y t body new
    ];
    ends = elim before.ends [
      | inl leaving ↦ inl (same leaver.name ∙ leaving)
      | inr gone ↦ inr (same leaver.name ∙ gone)
    ];
    goes = leaver_goes_on;
    gone = still_gone;
    leaves = λ y a replacement way.
        let was = before.leaves y a replacement (way_was y a (Leave replacement) (λ never. never) way) in
        (was.0, settled_stays a y was.1, fits_on s s' a y replacement (others a y) was.2);
    lefts = λ a y way.
        let old = way_was a y Left (λ never. never) way in
        let was = before.lefts a y old in
        let apart = leaving_apart y (awaiting_leaves s y a (notices.lefts a y old)) in
        (was.0, still_replaced a y was.1 (link_stays a y LeavingKind apart was.1.marked));
    quiet = λ y t version way. before.quiet y t version (way_was y t (Link version true) (λ never. never) way);
    releases = λ y t way. elim (was_or_aside y t Release way) [
      | inl old ↦ before.releases y t old
      | inr new ↦ new
    ];
    forgets = λ y t way. before.forgets y t (way_was y t Forget (λ never. never) way);
  }

  -- ---- once it is over

  module _ (over : s'.departing ≡ None) where
    -- no frame is under way then
    no_frame : s'.frames ≡ []
    no_frame = over_at_rest s s' rest leaver departs over

    -- so none is among them
    none_among : (m : ℕ) (f : Frame) → AmongFrames m f s'.frames → ⊥
    none_among m f among = let left : AmongFrames m f [] = subst (AmongFrames m f) no_frame among in left

    -- a leaving node would await an answer
    not_leaving : status_of s leaver.name ≡ Some Leaving → ⊥
    not_leaving leaving =
        let node = some_state s leaver.name Leaving leaving in
        let a = some_name node.0.awaited (before.goes node.0 node.1 node.2).some in
        let awaiting : IsAwaiting s leaver.name a.0 = record { state = node.0; is = node.1; leaving = node.2; awaits = a.1 } in
        let one = notices.one leaver.name a.0 awaiting in
        none_among one.number one.frame (between_still leaver.name a.0 one.number one.frame one.between one.among)

    -- nor is a link marked: a Gone would be under way
    nobody_marked : (y t : List ℕ) → HasLink s' y t LeavingKind → ⊥
    nobody_marked y t link =
        let to_leaver = subst (λ m. HasLink s' y m LeavingKind) (before.marked y t (link_was y t LeavingKind link)) link in
        elim before.ends [
          | inl leaving ↦ not_leaving leaving
          | inr gone ↦
              let way = (still_gone (same leaver.name ∙ gone) y LeavingKind to_leaver).1 in
              none_among way.number (record { from = leaver.name; to = y; body = Gone }) way.among
        ]

    -- and no node leaves
    nobody_leaves : (y : List ℕ) → status_of s' y ≡ Some Leaving → ⊥
    nobody_leaves y leaving =
        let was = sym (same y) ∙ leaving in
        not_leaving (subst (λ m. status_of s m ≡ Some Leaving) (before.leaving y was) was)

  -- ---- notices

  -- who awaits an answer does so yet
  on : (y a : List ℕ) → IsAwaiting s y a → IsAwaiting s' y a
  on = awaits_on s s' x step.before step.after step.at step.stays.status takes.awaited

  -- and of each that is awaited the one notice is there
  one_still : (y a : List ℕ) → IsAwaiting s' y a → HasOneNotice s' y a
  one_still y a awaiting =
      let one = notices.one y a (awaits_was s s' x step.before step.after step.at step.stays.status takes.awaited y a awaiting) in
      record {
        number = one.number;
        frame = one.frame;
        among = between_still y a one.number one.frame one.between one.among;
        between = one.between;
        only = λ m f among between. one.only m f (between_was y a m f between among) between;
      }

  -- a holder that has answered keeps its link, or has none any more, the leaver being gone
  answered_on : (a : List ℕ) → HasAnswered s a leaver.name → HasAnswered s' a leaver.name
  answered_on a (inl replaced) =
      elim (link_on a leaver.name LeavingKind replaced.marked) [
        | inr marked ↦ inl (still_replaced a leaver.name replaced marked)
        | inl gone ↦ inr (
          no_kind (link_of s' a leaver.name) (λ kind has.
              let link = at_link s' a leaver.name kind has in
              let at : s'.node a ≡ Some step.after = ap s'.node gone.0 ∙ step.at.is in
              let is = link.is in
              let state : link.state ≡ step.after = cc in
              let wrong : None ≡ Some kind =
              sym takes.unlinked ∙ ap (link_to step.after) (sym gone.1) ∙ ap (λ (m : NodeState). link_to m leaver.name) (sym state)
              ∙ link.link in
              cc),
          same leaver.name ∙ leaver_gone,
        )
      ]
  answered_on a (inr none) =
      inr (
        no_kind (link_of s' a leaver.name) (λ kind has.
            let was = link_at s a leaver.name kind (link_was a leaver.name kind (at_link s' a leaver.name kind has)) in
            let wrong : None ≡ Some kind = sym none.0 ∙ was in
            cc),
        same leaver.name ∙ leaver_gone,
      )

  -- who is awaited no more has answered
  answered : HaveAnswered s' leaver
  answered a holds none =
      answered_on a (notices.answered leaver a departs holds (λ awaiting. none (on leaver.name a awaiting)))

  -- whoever departs is the same
  same_leaver : (other : Leaver) → Departs s' other → leaver ≡ other
  same_leaver = leaver_stays s s' rest leaver departs

  -- the departure is in order after it
  pub gone_in_order : DepartsInOrder s'
  gone_in_order = record {
    departure = record {
      during = λ other departs'. subst (WhileDeparting s') (same_leaver other departs') still_departing;
      marked = λ y t over link. nobody_marked over y t link;
      leaving = λ y over leaving. nobody_leaves over y leaving;
    };
    notices = record {
      none = λ y t body over way notice. none_among over way.number (record { from = y; to = t; body = body }) way.among;
      leaves = λ y a replacement way. on y a (notices.leaves y a replacement (way_was y a (Leave replacement) (λ never. never) way));
      lefts = λ a y way. on y a (notices.lefts a y (way_was a y Left (λ never. never) way));
      one = one_still;
      gones = λ y t way. gone_leaver_stays s s' rest same y t way (notices.gones y t (way_was y t Gone (λ never. never) way));
      answered = λ other a departs' among none. subst (HaveAnswered s') (same_leaver other departs') answered a among none;
      words = λ other y t version departs' way.
          let old = notices.words leaver y t version departs (way_was y t (Link version true) (λ never. never) way) in
          (λ leaving. old.0 (sym (same t) ∙ leaving), λ ceased. old.1 (sym (same t) ∙ ceased));
    };
  }

  -- ---- tables

  -- each core node stays one
  on_core : (y : List ℕ) → IsCoreNode s y → IsCoreNode s' y
  on_core = core_on s s' x step.before step.after step.at step.stays.status

  -- no Release is sent
  release_was : (t y : List ℕ) → IsUnderWay s' t y Release → IsUnderWay s t y Release
  release_was t y now =
      elim (was_under_way s s' number frame step.sent step.taken t y Release now) [
        | inl old ↦ old
        | inr sends ↦ absurd (no_release x step.sent takes.sent t y sends)
      ]

  -- links are to whom they may be
  gone_soft : NamesSoft s'
  gone_soft = record {
    settled = λ y t link. on_core t (soft.settled y t (link_was y t Settled link));
    pins = λ y t pin. absurd (still_departing.pins y t pin);
    hellos = λ w b hello now. absurd (still_departing.frames w b (hello_body hello) now);
    releases = λ t y now. on_core t (soft.releases t y (release_was t y now));
    leaves = λ m y r now. on_core r (soft.leaves m y r (way_was m y (Leave (Some r)) (λ never. never) now));
  }

  -- and tables are as they are to be
  pub gone_tables : (p : SettingsValue) → HoleFree p s → HasCore s → EndedHaveNoLinks s → HaveTables p s'
  gone_tables p holes has ended = record {
    filled = filled_now p s' leaver still_departing
        (holes_stay p s s' (core_was s s' x step.before step.after step.at step.stays.status) on_core
        (λ y t kind core link. record { kind = kind; link = link_stays y t kind (core_apart t core) link }) holes);
    soft = gone_soft;
    has_core = record { name = has.name; core = on_core has.name has.core };
    ended = record {
      none = λ y t kind link.
          let was = ended.none y t kind (link_was y t kind link) in
          (λ gone. was.0 (sym (same y) ∙ gone), λ ceased. was.1 (sym (same y) ∙ ceased));
    };
  }
