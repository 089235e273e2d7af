-- A node starts to leave at rest: each of its holders is sent its notice, and is awaited.
use Rattle.std.proofs.Common.{◌≡◌, inl, inr, ℕ, true, List, [], ◌++◌, Option, None, Some, map, refl, sym, ap, subst, ◌∙◌}
use Rattle.tap_name.specs.Names.{Among}
use Rattle.tap_link.specs.declared.kind.Kind.{Kind}
use Rattle.tap_link.specs.declared.kind.Kind.TheVariants.{Pin, Settled, Leaving as LeavingKind}
use Rattle.tap_pointer.specs.declared.lay.Lay as lay
use Rattle.tap_wire.specs.declared.frame.Body.{Body}
use Rattle.tap_wire.specs.declared.frame.Body.TheVariants.{Forget, Gone, Lay, Leave, Left, Link, Release}
use Rattle.tap_wire.specs.declared.frame.Frame.{Frame}
use Rattle.tap_rule.specs.Node.{NodeState, Status, link_to}
use Rattle.tap_rule.specs.Node.Status.{Ceased as CeasedStatus, Core, Gone as GoneStatus, Joining, Leaving}
use Rattle.tap_rule.specs.Sending.{lay_frame}
use Rattle.tap_rule.specs.Sent.{IsAmong}
use Rattle.tap_rule.proofs.Among.{among-map_from}
use Rattle.tap_safety.specs.Remembered.{Leaver}
use Rattle.tap_safety.specs.System.{System, AmongFrames, HasLink, IsCoreNode, IsUnderWay}
use Rattle.tap_safety.specs.Departing.{Departs, FitsSlot, HasOther, WhileDeparting, WhileLeaving, may_be_then}
use Rattle.tap_safety.specs.Notices.{HasOneNotice, IsAwaiting, IsBetween}
use Rattle.tap_safety.specs.Rest.{Rest}
use Rattle.tap_safety.specs.Exchanges.{ChangesAt, HasSent, numbered_from}
use Rattle.tap_safety.specs.Ties.{link_in, link_of, status_of}
use Rattle.tap_safety.proofs.LinkKeeps.{some_state, status_seen}
use Rattle.tap_safety.proofs.UnderWay.{among_sent}
use Rattle.tap_safety.proofs.WordsKept.{at_link, link_at}
use Rattle.tap_moves.specs.DepartingMoves.{DepartsInOrder}
use Rattle.tap_moves.proofs.Alike.{HaveAnswered, awaiting_leaves, fits_on, one_status, status_apart}
use Rattle.tap_moves.proofs.LeaveKept.{lay_no_notice}
use Rattle.tap_moves.proofs.OneFrame.{AreApart, each_or_other, one_of_each}
use Rattle.tap_name.specs.Settings.{SettingsValue}
use Rattle.tap_safety.specs.Bookkeeping.{EndedHaveNoLinks, HasCore}
use Rattle.tap_safety.specs.Frames.{hello_body}
use Rattle.tap_safety.specs.Parts.{HoleFree}
use Rattle.tap_moves.specs.PartMoves.{HaveTables}
use Rattle.tap_moves.proofs.NobodyJoins.{filled_now, holes_stay}
use Rattle.tap_safety.specs.Soft.{NamesSoft}

-- the Leave of x to a holder, with the replacement for it
abbrev pub leave_frame : List ℕ → (List ℕ → Option (List ℕ)) → List ℕ → Frame
leave_frame x given a = record { from = x; to = a; body = Leave (given a) }

-- A core node starts to leave while no frame is under way: it leaves now, with its links, and awaits its holders, each of which has a
-- settled link to it, and is sent a Leave with what fits its slot. Nobody else has a link to it, and it sends nothing else but Lays.
pub record StartsLeaving (s s' : System) (leaver : Leaver) (before after : NodeState) (given : List ℕ → Option (List ℕ)) : Type 0 where
  pub at : ChangesAt s s' leaver.name before after
  pub rest : Rest s
  pub silent : s.frames ≡ []
  pub was : before.status ≡ Core
  pub is : after.status ≡ Leaving
  pub links : (t : List ℕ) → link_to after t ≡ link_to before t
  pub leaver_links : (t : List ℕ) → link_to after t ≡ leaver.links t
  pub awaited : after.awaited ≡ leaver.holders
  pub some : leaver.holders ≡ [] → ⊥
  pub apart : AreApart leaver.holders
  pub holds : (a : List ℕ) → Among a leaver.holders → HasLink s a leaver.name Settled
  pub fits : (a : List ℕ) → Among a leaver.holders → FitsSlot s a leaver.name (given a)
  pub linked : (y : List ℕ) (kind : Kind) → HasLink s y leaver.name kind → Among y leaver.holders
  pub sent : List Frame
  pub has_sent : HasSent s s' sent
  pub lays : List lay.Lay
  pub sent_is : sent ≡ map (leave_frame leaver.name given) leaver.holders ++ map (lay_frame leaver.name) lays
  pub departs : Departs s' leaver

-- what is sent: a Leave to a holder, or a Lay
abbrev IsNoticeOf : Leaver → (List ℕ → Option (List ℕ)) → List ℕ → List ℕ → Body → Type 0
IsNoticeOf leaver given from to (Leave replacement) = (from ≡ leaver.name) × Among to leaver.holders × (replacement ≡ given to)
IsNoticeOf leaver given from to (Lay object server level version on) = Unit {0}
IsNoticeOf leaver given from to _ = ⊥

-- such a frame may be under way while a node departs
notice_may_be : (leaver : Leaver) (given : List ℕ → Option (List ℕ)) (from to : List ℕ) (body : Body)
    → IsNoticeOf leaver given from to body → may_be_then body
notice_may_be leaver given from to (Leave replacement) notice = tt
notice_may_be leaver given from to (Lay object server level version on) notice = tt
notice_may_be leaver given from to _ notice = absurd notice

module _ (s s' : System) (leaver : Leaver) (before after : NodeState) (given : List ℕ → Option (List ℕ))
    (starts : StartsLeaving s s' leaver before after given) where
  abbrev own : List ℕ
  own = leaver.name

  leaves_now : status_of s' own ≡ Some Leaving
  leaves_now = status_seen s' own after Leaving starts.at.is starts.is

  -- ---- links and statuses

  link_same : (y t : List ℕ) → link_of s' y t ≡ link_of s y t
  unfolding link_of
  link_same y t =
      elim (starts.at.others y) [
        | inr stays ↦ ap (λ node. link_in node t) stays
        | inl here ↦
            let was : s.node y ≡ Some before = ap s.node here ∙ starts.at.was in
            let now : s'.node y ≡ Some after = ap s'.node here ∙ starts.at.is in
            ap (λ node. link_in node t) now ∙ starts.links t ∙ sym (ap (λ node. link_in node t) was)
      ]

  link_on : (y t : List ℕ) (kind : Kind) → HasLink s y t kind → HasLink s' y t kind
  link_on y t kind link = at_link s' y t kind (link_same y t ∙ link_at s y t kind link)

  link_was : (y t : List ℕ) (kind : Kind) → HasLink s' y t kind → HasLink s y t kind
  link_was y t kind link = at_link s y t kind (sym (link_same y t) ∙ link_at s' y t kind link)

  status_was : (y : List ℕ) (status : Status) → (status ≡ Leaving → ⊥) → status_of s' y ≡ Some status → status_of s y ≡ Some status
  status_was y status other now =
      elim (status_apart s s' own before after starts.at y) [
        | inr same ↦ sym same ∙ now
        | inl here ↦ absurd (other (one_status s' y status Leaving now (ap (status_of s') here ∙ leaves_now)))
      ]

  only_leaver : (y : List ℕ) → status_of s' y ≡ Some Leaving → y ≡ own
  only_leaver y now =
      elim (status_apart s s' own before after starts.at y) [
        | inl here ↦ here
        | inr same ↦ absurd (starts.rest.leaving y (sym same ∙ now))
      ]

  -- the leaver was core, and counts as core
  core_was : (y : List ℕ) → IsCoreNode s' y → IsCoreNode s y
  core_was y core =
      elim core.core [
        | inl is ↦
            let was = status_was y Core (λ wrong. cc) (status_seen s' y core.state Core core.is is) in
            let node = some_state s y Core was in
            record { state = node.0; is = node.1; core = inl node.2 }
        | inr is ↦
            let here = only_leaver y (status_seen s' y core.state Leaving core.is is) in
            record { state = before; is = ap s.node here ∙ starts.at.was; core = inl starts.was }
      ]

  others : (a : List ℕ) → HasOther s' a own → HasOther s a own
  others a that = record { other = that.other; core = core_was that.other that.core; apart = that.apart; near = that.near }

  -- ---- what is under way

  abbrev back : List Frame
  back = map (lay_frame own) starts.lays

  abbrev all : List Frame
  all = map (leave_frame own given) leaver.holders ++ back

  -- the frames under way are those that are sent
  frames_are : s'.frames ≡ numbered_from s.next all
  frames_are =
      starts.has_sent.after ∙ ap (λ fs. fs ++ numbered_from s.next starts.sent) starts.silent
      ∙ ap (numbered_from s.next) starts.sent_is

  sent_so : (m : ℕ) (f : Frame) → AmongFrames m f s'.frames → IsNoticeOf leaver given f.from f.to f.body
  sent_so m f now =
      let among = among_sent s.next all m f (subst (AmongFrames m f) frames_are now) in
      elim (each_or_other (leave_frame own given) leaver.holders back f among) [
        | inl found ↦
            subst (λ (g : Frame). IsNoticeOf leaver given g.from g.to g.body) (sym found.2) (refl, found.1, refl)
        | inr lays ↦
            let found = among-map_from (lay_frame own) f starts.lays lays in
            subst (λ (g : Frame). IsNoticeOf leaver given g.from g.to g.body) (sym found.2) tt
      ]

  way_so : (y t : List ℕ) (body : Body) → IsUnderWay s' y t body → IsNoticeOf leaver given y t body
  way_so y t body now = sent_so now.number (record { from = y; to = t; body = body }) now.among

  -- ---- who is awaited

  awaits_now : (a : List ℕ) → Among a leaver.holders → IsAwaiting s' own a
  awaits_now a holds = record {
    state = after;
    is = starts.at.is;
    leaving = starts.is;
    awaits = subst (Among a) (sym starts.awaited) holds;
  }

  awaited : (y a : List ℕ) → IsAwaiting s' y a → (y ≡ own) × Among a leaver.holders
  awaited y a waits =
      let here = only_leaver y (awaiting_leaves s' y a waits) in
      let now : s'.node own ≡ Some waits.state = ap s'.node (sym here) ∙ waits.is in
      let at = starts.at.is in
      let state : waits.state ≡ after = cc in
      (here, subst (Among a) (ap (λ (m : NodeState). m.awaited) state ∙ starts.awaited) waits.awaits)

  one_each : (a : List ℕ) → Among a leaver.holders → HasOneNotice s' own a
  one_each a holds =
      let one = one_of_each (leave_frame own given) a (IsBetween own a) back mine none_after s.next leaver.holders starts.apart holds in
      record {
        number = one.number;
        frame = leave_frame own given a;
        among = subst (AmongFrames one.number (leave_frame own given a)) (sym frames_are) one.among;
        between = inl (given a, refl);
        only = λ m f now between. one.only m f (subst (AmongFrames m f) frames_are now) between;
      }
    where
      mine : (b : List ℕ) → IsBetween own a (leave_frame own given b) → b ≡ a
      mine b (inl leave) = ap (λ (g : Frame). g.to) leave.1
      mine b (inr left) = let wrong : Leave (given b) ≡ Left = ap (λ (g : Frame). g.body) left in cc

      none_after : (g : Frame) → IsAmong g back → IsBetween own a g → ⊥
      none_after g later between =
          let found = among-map_from (lay_frame own) g starts.lays later in lay_no_notice own a own found.0 g between found.2

  -- ---- while it goes on

  leaver_goes_on : (state : NodeState) → s'.node own ≡ Some state → state.status ≡ Leaving → WhileLeaving s' leaver state
  leaver_goes_on state is leaving =
      let at = starts.at.is in
      let here : after ≡ state = cc in
      subst (WhileLeaving s' leaver) here (record {
        some = λ none. starts.some (sym starts.awaited ∙ none);
        holders = λ a among. subst (Among a) starts.awaited among;
        links = starts.leaver_links;
        settled = λ t kind link. settled_kind t kind (record { state = before; is = starts.at.was; link = sym (starts.links t) ∙ link });
        linked = λ y kind link. starts.linked y kind (link_was y own kind link);
      })
    where
      settled_kind : (t : List ℕ) (kind : Kind) → HasLink s own t kind → kind ≡ Settled
      settled_kind t Pin link = absurd (starts.rest.pins own t link)
      settled_kind t Settled link = refl
      settled_kind t LeavingKind link = absurd (starts.rest.marked own t link)

  pub still_departing : WhileDeparting s' leaver
  still_departing = record {
    joining = λ y now. starts.rest.joining y (status_was y Joining (λ wrong. cc) now);
    pins = λ y t pin. starts.rest.pins y t (link_was y t Pin pin);
    marked = λ y t marked. absurd (starts.rest.marked y t (link_was y t LeavingKind marked));
    leaving = only_leaver;
    frames = λ y t body now. notice_may_be leaver given y t body (way_so y t body now);
    ends = inl leaves_now;
    goes = leaver_goes_on;
    gone = λ gone y kind link. let wrong = one_status s' own GoneStatus Leaving gone leaves_now in cc;
    leaves = λ y a r now.
        let so = way_so y a (Leave r) now in
        let link = link_on a own Settled (starts.holds a so.1) in (
          so.0,
          subst (λ m. HasLink s' a m Settled) (sym so.0) link,
          subst (λ m. FitsSlot s' a m r) (sym so.0) (subst (FitsSlot s' a own) (sym so.2) (fits_on s s' a own (given a) (others a) (starts.fits a so.1))),
        );
    lefts = λ a y now. absurd (way_so a y Left now);
    quiet = λ y t version now. absurd (way_so y t (Link version true) now);
    releases = λ y t now. absurd (way_so y t Release now);
    forgets = λ y t now. way_so y t Forget now;
  }

  not_over : s'.departing ≡ None → ⊥
  not_over over = let wrong : None ≡ Some leaver = sym over ∙ starts.departs in cc

  same_leaver : (other : Leaver) → Departs s' other → leaver ≡ other
  same_leaver other departs' = let same : Some leaver ≡ Some other = sym starts.departs ∙ departs' in cc

  -- nobody has answered yet
  all_awaited : HaveAnswered s' leaver
  all_awaited a holds none = absurd (none (awaits_now a holds))

  pub starts_in_order : DepartsInOrder s'
  starts_in_order = record {
    departure = record {
      during = λ other departs'. subst (WhileDeparting s') (same_leaver other departs') still_departing;
      marked = λ y t over link. not_over over;
      leaving = λ y over leaving. not_over over;
    };
    notices = record {
      none = λ y t body over now notice. not_over over;
      leaves = λ y a r now.
          let so = way_so y a (Leave r) now in
          subst (λ m. IsAwaiting s' m a) (sym so.0) (awaits_now a so.1);
      lefts = λ a y now. absurd (way_so a y Left now);
      one = λ y a waits.
          let so = awaited y a waits in
          subst (λ m. HasOneNotice s' m a) (sym so.0) (one_each a so.1);
      gones = λ y t now. absurd (way_so y t Gone now);
      answered = λ other a departs' holds none. subst (HaveAnswered s') (same_leaver other departs') all_awaited a holds none;
      words = λ other y t version departs' now. absurd (way_so y t (Link version true) now);
    };
  }

  -- ---- tables

  on_core : (y : List ℕ) → IsCoreNode s y → IsCoreNode s' y
  on_core y core =
      elim (starts.at.others y) [
        | inr same ↦ record { state = core.state; is = same ∙ core.is; core = core.core }
        | inl here ↦ record { state = after; is = ap s'.node here ∙ starts.at.is; core = inr starts.is }
      ]

  starts_soft : NamesSoft s → ((a r : List ℕ) → given a ≡ Some r → IsCoreNode s r) → NamesSoft s'
  starts_soft soft cores = record {
    settled = λ y t link. on_core t (soft.settled y t (link_was y t Settled link));
    pins = λ y t pin. absurd (still_departing.pins y t pin);
    hellos = λ w b hello now. absurd (still_departing.frames w b (hello_body hello) now);
    releases = λ t y now. absurd (way_so t y Release now);
    leaves = λ m y r now. on_core r (cores y r (sym (way_so m y (Leave (Some r)) now).2));
  }

  pub starts_tables : (p : SettingsValue) → NamesSoft s → ((a r : List ℕ) → given a ≡ Some r → IsCoreNode s r) → HoleFree p s
      → HasCore s → EndedHaveNoLinks s → HaveTables p s'
  starts_tables p soft cores holes has ended = record {
    filled = filled_now p s' leaver still_departing
        (holes_stay p s s' core_was on_core (λ y t kind core link. record { kind = kind; link = link_on y t kind link }) holes);
    soft = starts_soft soft cores;
    has_core = record { name = has.name; core = on_core has.name has.core };
    ended = record {
      none = λ y t kind link.
          let was = ended.none y t kind (link_was y t kind link) in (
            λ gone. was.0 (status_was y GoneStatus (λ wrong. cc) gone),
            λ ceased. was.1 (status_was y CeasedStatus (λ wrong. cc) ceased),
          );
    };
  }
