-- A Left at a leaving node that awaits other answers yet: its sender is awaited no more.
use Rattle.std.proofs.Common.{◌≡◌, ◌≢◌, ◌↔◌, inl, inr, ℕ, true, List, [], ◌⊎◌, Option, None, Some, refl, sym, ap, subst, ◌∙◌}
use Rattle.tap_name.specs.Names.{Among}
use Rattle.tap_link.specs.declared.kind.Kind.{Kind}
use Rattle.tap_link.specs.declared.kind.Kind.TheVariants.{Pin, Settled, Leaving as LeavingKind}
use Rattle.tap_wire.specs.declared.frame.Body.{Body}
use Rattle.tap_wire.specs.declared.frame.Body.TheVariants.{Forget, Gone, Leave, Left, Link, Release}
use Rattle.tap_wire.specs.declared.frame.Frame.{Frame}
use Rattle.tap_rule.specs.Node.{NodeState}
use Rattle.tap_rule.specs.Node.Status.{Gone as GoneStatus, Leaving}
use Rattle.tap_rule.specs.Sent.{AreSent}
use Rattle.tap_safety.specs.Remembered.{Leaver}
use Rattle.tap_safety.specs.System.{System, AmongFrames, HasLink, IsCoreNode, IsUnderWay}
use Rattle.tap_safety.specs.Departing.{Departs, Departure, HasOther, HasReplaced, WhileDeparting, WhileLeaving}
use Rattle.tap_safety.specs.FrameSteps.{LinksStay, TakesFrame}
use Rattle.tap_safety.specs.Notices.{HasOneNotice, IsAwaiting, IsBetween, Notices, UntilRest}
use Rattle.tap_safety.specs.Exchanges.{AreNumbered}
use Rattle.tap_safety.specs.Ties.{link_in, link_of, status_of}
use Rattle.tap_safety.proofs.Exchanged.{exchanged}
use Rattle.tap_safety.proofs.LinkKeeps.{some_state}
use Rattle.tap_safety.proofs.NoticesKept.{gone_leaver_stays}
use Rattle.tap_safety.proofs.UnderWay.{among_sent, among_there, was_under_way}
use Rattle.tap_safety.proofs.WordsKept.{at_link, link_at}
use Rattle.tap_moves.proofs.Got.{same_name}
use Rattle.tap_moves.specs.DepartingMoves.{DepartsInOrder}
use Rattle.tap_moves.proofs.Alike.{HaveAnswered, awaiting_leaves, core_on, core_was, fits_on, leaver_stays, one_status, other_was, over_at_rest, replaced_on, status_same}
use Rattle.tap_moves.proofs.Aside.{IsAside, aside_may_be, aside_sent, no_release, some_name}
use Rattle.tap_name.specs.Settings.{SettingsValue}
use Rattle.tap_safety.specs.Bookkeeping.{EndedHaveNoLinks, HasCore}
use Rattle.tap_safety.specs.Frames.{hello_body}
use Rattle.tap_safety.specs.Parts.{HoleFree}
use Rattle.tap_moves.specs.PartMoves.{HaveTables}
use Rattle.tap_moves.proofs.NobodyJoins.{filled_now, holes_stay}
use Rattle.tap_safety.specs.Soft.{NamesSoft}

-- A Left of a at n: n stays what it is, with its links, and awaits whom it awaited but a, and somebody yet; and it sends Lays alone.
pub record TakesLeft (s s' : System) (number : ℕ) (a n : List ℕ) : Type 0 where
  pub step : TakesFrame s s' number (record { from = a; to = n; body = Left })
  pub links : LinksStay step.before step.after
  pub awaited : (b : List ℕ) → Among b step.after.awaited ↔ (Among b step.before.awaited × (b ≢ a))
  pub some : step.after.awaited ≡ [] → ⊥
  pub sent : AreSent n [] [] step.sent

module _ (s s' : System) (number : ℕ) (a n : List ℕ) (takes : TakesLeft s s' number a n) (rest : UntilRest s s') (leaver : Leaver)
    (departs : Departs s leaver) (departure : Departure s) (notices : Notices s) (numbers : AreNumbered s) where
  abbrev frame : Frame
  frame = record { from = a; to = n; body = Left }

  abbrev step : TakesFrame s s' number frame
  step = takes.step

  before : WhileDeparting s leaver
  before = departure.during leaver departs

  among : AmongFrames number frame s.frames
  among = rw step.taken.before (among_there number frame step.taken.front step.taken.back)

  way : IsUnderWay s a n Left
  way = record { number = number; among = among }

  awaiting : IsAwaiting s n a
  awaiting = notices.lefts a n way

  n_leaves : status_of s n ≡ Some Leaving
  n_leaves = awaiting_leaves s n a awaiting

  is_leaver : n ≡ leaver.name
  is_leaver = (before.lefts a n way).0

  replaced : HasReplaced s a n
  replaced = (before.lefts a n way).1

  same : (y : List ℕ) → status_of s' y ≡ status_of s y
  same = status_same s s' n step.before step.after step.at step.stays.status

  -- ---- links

  link_same : (y t : List ℕ) → link_of s' y t ≡ link_of s y t
  unfolding link_of
  link_same y t =
      elim (step.at.others y) [
        | inr stays ↦ ap (λ node. link_in node t) stays
        | inl here ↦
            let was : s.node y ≡ Some step.before = ap s.node here ∙ step.at.was in
            let now : s'.node y ≡ Some step.after = ap s'.node here ∙ step.at.is in
            ap (λ node. link_in node t) now ∙ takes.links t ∙ sym (ap (λ node. link_in node t) was)
      ]

  link_on : (y t : List ℕ) (kind : Kind) → HasLink s y t kind → HasLink s' y t kind
  link_on y t kind link = at_link s' y t kind (link_same y t ∙ link_at s y t kind link)

  link_was : (y t : List ℕ) (kind : Kind) → HasLink s' y t kind → HasLink s y t kind
  link_was y t kind link = at_link s y t kind (sym (link_same y t) ∙ link_at s' y t kind link)

  others : (b m : List ℕ) → HasOther s' b m → HasOther s b m
  others = other_was s s' n step.before step.after step.at step.stays.status

  still_replaced : (b m : List ℕ) → HasReplaced s b m → HasReplaced s' b m
  still_replaced b m was =
      replaced_on s s' b m (others b m) (link_on b m LeavingKind was.marked) (λ to link. link_on b to Settled link) was

  -- ---- what is under way

  none_aside : (y t : List ℕ) (body : Body) → IsUnderWay s' y t body → IsUnderWay s y t body ⊎ IsAside leaver y t body
  none_aside y t body now =
      elim (was_under_way s s' number frame step.sent step.taken y t body now) [
        | inl old ↦ inl old
        | inr sends ↦ inr (aside_sent leaver n [] step.sent takes.sent (λ m among. absurd among) y t body sends)
      ]

  way_was : (y t : List ℕ) (body : Body) → (IsAside leaver y t body → ⊥) → IsUnderWay s' y t body → IsUnderWay s y t body
  way_was y t body other now = elim (none_aside y t body now) [ inl old ↦ old | inr new ↦ absurd (other new) ]

  was_one : (m : ℕ) (f : Frame) → IsBetween n a f → AmongFrames m f s.frames → m ≡ number
  was_one m f between old =
      let one = notices.one n a awaiting in
      one.only m f old between ∙ sym (one.only number frame among (inr refl))

  is_gone : (f : Frame) → AmongFrames number f s'.frames → ⊥
  is_gone = (exchanged s s' number frame step.sent step.taken numbers).gone

  aside_no_between : (y b : List ℕ) (f : Frame) → IsBetween y b f → IsAside leaver f.from f.to f.body → ⊥
  aside_no_between y b f (inl leave) aside =
      let never : ⊥ = subst (λ (g : Frame). IsAside leaver g.from g.to g.body) leave.1 aside in never
  aside_no_between y b f (inr left) aside =
      let never : ⊥ = subst (λ (g : Frame). IsAside leaver g.from g.to g.body) left aside in never

  between_was : (y b : List ℕ) (m : ℕ) (f : Frame) → IsBetween y b f → AmongFrames m f s'.frames → AmongFrames m f s.frames
  between_was y b m f between now =
      elim ((exchanged s s' number frame step.sent step.taken numbers).was m f now) [
        | inl old ↦ old
        | inr new ↦
            absurd (aside_no_between y b f between
            (aside_sent leaver n [] step.sent takes.sent (λ k among. absurd among) f.from f.to f.body
            (among_sent s.next step.sent m f new)))
      ]

  -- no notice between the two is left
  none_left : (m : ℕ) (f : Frame) → IsBetween n a f → AmongFrames m f s'.frames → ⊥
  none_left m f between now =
      is_gone f (subst (λ k. AmongFrames k f s'.frames) (was_one m f between (between_was n a m f between now)) now)

  -- of another holder it stays
  between_still : (b : List ℕ) → b ≢ a → (m : ℕ) (f : Frame) → IsBetween n b f → AmongFrames m f s.frames → AmongFrames m f s'.frames
  between_still b other m f between old =
      elim ((exchanged s s' number frame step.sent step.taken numbers).still m f old) [
        | inr stays ↦ stays
        | inl taken ↦
            let mine = subst (λ k. AmongFrames k f s.frames) taken old in
            absurd (apart f between ((exchanged s s' number frame step.sent step.taken numbers).was_one number f frame mine among))
      ]
    where
      apart : (g : Frame) → IsBetween n b g → g ≡ frame → ⊥
      apart g (inl leave) is = let wrong : Leave leave.0 ≡ Left = ap (λ (h : Frame). h.body) (sym leave.1 ∙ is) in cc
      apart g (inr left) is = other (ap (λ (h : Frame). h.from) (sym left ∙ is))

  -- ---- who is awaited

  only_leaver : (y : List ℕ) → status_of s y ≡ Some Leaving → y ≡ n
  only_leaver y leaving = before.leaving y leaving ∙ sym is_leaver

  on : (y b : List ℕ) → b ≢ a → IsAwaiting s y b → IsAwaiting s' y b
  on y b other waits =
      let here : y ≡ n = only_leaver y (awaiting_leaves s y b waits) in
      let was : s.node n ≡ Some waits.state = ap s.node (sym here) ∙ waits.is in
      let at = step.at.was in
      let state : step.before ≡ waits.state = cc in
      let old : Among b step.before.awaited = subst (λ (m : NodeState). Among b m.awaited) (sym state) waits.awaits in
      record {
        state = step.after;
        is = ap s'.node here ∙ step.at.is;
        leaving = step.stays.status ∙ ap (λ (m : NodeState). m.status) state ∙ waits.leaving;
        awaits = (takes.awaited b).1 (old, other);
      }

  was : (y b : List ℕ) → IsAwaiting s' y b → IsAwaiting s y b × (b ≢ a) × (y ≡ n)
  was y b waits =
      let here : y ≡ n = only_leaver y (sym (same y) ∙ awaiting_leaves s' y b waits) in
      let now : s'.node n ≡ Some waits.state = ap s'.node (sym here) ∙ waits.is in
      let at = step.at.is in
      let state : step.after ≡ waits.state = cc in
      let new : Among b step.after.awaited = subst (λ (m : NodeState). Among b m.awaited) (sym state) waits.awaits in
      let old = (takes.awaited b).0 new in (
        record {
          state = step.before;
          is = ap s.node here ∙ step.at.was;
          leaving = sym step.stays.status ∙ ap (λ (m : NodeState). m.status) state ∙ waits.leaving;
          awaits = old.0;
        },
        old.1,
        here,
      )

  -- ---- the leaver

  leaver_goes_on : (state : NodeState) → s'.node leaver.name ≡ Some state → state.status ≡ Leaving → WhileLeaving s' leaver state
  leaver_goes_on state is leaving =
      let at : s'.node leaver.name ≡ Some step.after = ap s'.node (sym is_leaver) ∙ step.at.is in
      let here : step.after ≡ state = cc in
      let old : s.node leaver.name ≡ Some step.before = ap s.node (sym is_leaver) ∙ step.at.was in
      let left : step.before.status ≡ Leaving = sym step.stays.status ∙ ap (λ (m : NodeState). m.status) here ∙ leaving in
      let goes = before.goes step.before old left in
      subst (WhileLeaving s' leaver) here (record {
        some = takes.some;
        holders = λ b among. goes.holders b ((takes.awaited b).0 among).0;
        links = λ t. takes.links t ∙ goes.links t;
        settled = λ t kind link. goes.settled t kind (sym (takes.links t) ∙ link);
        linked = λ y kind link. goes.linked y kind (link_was y leaver.name kind link);
      })

  leaves_on : status_of s' leaver.name ≡ Some Leaving
  leaves_on = same leaver.name ∙ ap (status_of s) (sym is_leaver) ∙ n_leaves

  pub still_departing : WhileDeparting s' leaver
  still_departing = record {
    joining = λ y joining. before.joining y (sym (same y) ∙ joining);
    pins = λ y t pin. before.pins y t (link_was y t Pin pin);
    marked = λ y t marked. before.marked y t (link_was y t LeavingKind marked);
    leaving = λ y leaving. before.leaving y (sym (same y) ∙ leaving);
    frames = λ y t body now. elim (none_aside y t body now) [
      | inl old ↦ before.frames y t body old
      | inr new ↦ aside_may_be leaver y t body new
    ];
    ends = inl leaves_on;
    goes = leaver_goes_on;
    gone = λ gone y kind link. let wrong = one_status s' leaver.name GoneStatus Leaving gone leaves_on in cc;
    leaves = λ y b r now.
        let so = before.leaves y b r (way_was y b (Leave r) (λ never. never) now) in
        (so.0, link_on b y Settled so.1, fits_on s s' b y r (others b y) so.2);
    lefts = λ b y now.
        let so = before.lefts b y (way_was b y Left (λ never. never) now) in
        (so.0, still_replaced b y so.1);
    quiet = λ y t version now. before.quiet y t version (way_was y t (Link version true) (λ never. never) now);
    releases = λ y t now. elim (none_aside y t Release now) [
      | inl old ↦ before.releases y t old
      | inr new ↦ new
    ];
    forgets = λ y t now. before.forgets y t (way_was y t Forget (λ never. never) now);
  }

  -- somebody is awaited yet, of whom a notice is under way
  goes_on : s'.departing ≡ None → ⊥
  goes_on over =
      let b = some_name step.after.awaited takes.some in
      let old = (takes.awaited b.0).0 b.1 in
      let left = some_state s n Leaving n_leaves in
      let waits : IsAwaiting s n b.0 = record {
        state = step.before;
        is = step.at.was;
        leaving = (let one = left.1 in let two = step.at.was in let state : step.before ≡ left.0 = cc in
            ap (λ (m : NodeState). m.status) state ∙ left.2);
        awaits = old.0;
      } in
      let one = notices.one n b.0 waits in
      let stays = between_still b.0 old.1 one.number one.frame one.between one.among in
      let nothing : AmongFrames one.number one.frame [] =
      subst (AmongFrames one.number one.frame) (over_at_rest s s' rest leaver departs over) stays in nothing

  one_each : (y b : List ℕ) → IsAwaiting s' y b → HasOneNotice s' y b
  one_each y b now =
      let old = was y b now in
      let waits : IsAwaiting s n b = subst (λ m. IsAwaiting s m b) old.2 old.0 in
      let one = notices.one n b waits in
      subst (λ m. HasOneNotice s' m b) (sym old.2) (record {
        number = one.number;
        frame = one.frame;
        among = between_still b old.1 one.number one.frame one.between one.among;
        between = one.between;
        only = λ m f there between. one.only m f (between_was n b m f between there) between;
      })

  -- who answers now has its slot filled, and the others as before
  answered : HaveAnswered s' leaver
  answered b holds none =
      elim (same_name b a) [
        | inl here ↦
            inl (subst (HasReplaced s' b) is_leaver (subst (λ c. HasReplaced s' c n) (sym here) (still_replaced a n replaced)))
        | inr other ↦ elim (notices.answered leaver b departs holds (λ waits. none (on leaver.name b other waits))) [
          | inl filled ↦ inl (still_replaced b leaver.name filled)
          | inr unlinked ↦ inr (link_same b leaver.name ∙ unlinked.0, same leaver.name ∙ unlinked.1)
        ]
      ]

  same_leaver : (other : Leaver) → Departs s' other → leaver ≡ other
  same_leaver = leaver_stays s s' rest leaver departs

  -- no notice of who answers is left
  leave_on : (y b : List ℕ) (r : Option (List ℕ)) → IsUnderWay s' y b (Leave r) → IsAwaiting s' y b
  leave_on y b r now =
      let old = notices.leaves y b r (way_was y b (Leave r) (λ never. never) now) in
      let to : y ≡ n = only_leaver y (awaiting_leaves s y b old) in
      let f : Frame = record { from = n; to = b; body = Leave r } in
      let there : AmongFrames now.number f s'.frames =
      subst (λ m. AmongFrames now.number (record { from = m; to = b; body = Leave r }) s'.frames) to now.among in
      on y b (λ here. none_left now.number f
      (inl (r, ap (λ c. record { from = n; to = c; body = Leave r }) here)) there) old

  left_on : (b y : List ℕ) → IsUnderWay s' b y Left → IsAwaiting s' y b
  left_on b y now =
      let old = notices.lefts b y (way_was b y Left (λ never. never) now) in
      let to : y ≡ n = only_leaver y (awaiting_leaves s y b old) in
      let f : Frame = record { from = b; to = n; body = Left } in
      let there : AmongFrames now.number f s'.frames =
      subst (λ m. AmongFrames now.number (record { from = b; to = m; body = Left }) s'.frames) to now.among in
      on y b (λ here. none_left now.number f (inr (ap (λ c. record { from = c; to = n; body = Left }) here)) there) old

  pub left_in_order : DepartsInOrder s'
  left_in_order = record {
    departure = record {
      during = λ other departs'. subst (WhileDeparting s') (same_leaver other departs') still_departing;
      marked = λ y t over link. goes_on over;
      leaving = λ y over leaving. goes_on over;
    };
    notices = record {
      none = λ y t body over now notice. goes_on over;
      leaves = leave_on;
      lefts = left_on;
      one = one_each;
      gones = λ y t now. gone_leaver_stays s s' rest same y t now (notices.gones y t (way_was y t Gone (λ never. never) now));
      answered = λ other b departs' mine none. subst (HaveAnswered s') (same_leaver other departs') answered b mine none;
      words = λ other y t version departs' now.
          let old = notices.words leaver y t version departs (way_was y t (Link version true) (λ never. never) now) in
          (λ leaving. old.0 (sym (same t) ∙ leaving), λ ceased. old.1 (sym (same t) ∙ ceased));
    };
  }

  -- ---- tables

  on_core : (y : List ℕ) → IsCoreNode s y → IsCoreNode s' y
  on_core = core_on s s' n step.before step.after step.at step.stays.status

  release_was : (t y : List ℕ) → IsUnderWay s' t y Release → IsUnderWay s t y Release
  release_was t y now =
      elim (was_under_way s s' number frame step.sent step.taken t y Release now) [
        | inl old ↦ old
        | inr sends ↦ absurd (no_release n step.sent takes.sent t y sends)
      ]

  left_soft : NamesSoft s → NamesSoft s'
  left_soft soft = record {
    settled = λ y t link. on_core t (soft.settled y t (link_was y t Settled link));
    pins = λ y t pin. absurd (still_departing.pins y t pin);
    hellos = λ w b hello now. absurd (still_departing.frames w b (hello_body hello) now);
    releases = λ t y now. on_core t (soft.releases t y (release_was t y now));
    leaves = λ m y r now. on_core r (soft.leaves m y r (way_was m y (Leave (Some r)) (λ never. never) now));
  }

  pub left_tables : (p : SettingsValue) → NamesSoft s → HoleFree p s → HasCore s → EndedHaveNoLinks s → HaveTables p s'
  left_tables p soft holes has ended = record {
    filled = filled_now p s' leaver still_departing
        (holes_stay p s s' (core_was s s' n step.before step.after step.at step.stays.status) on_core
        (λ y t kind core link. record { kind = kind; link = link_on y t kind link }) holes);
    soft = left_soft soft;
    has_core = record { name = has.name; core = on_core has.name has.core };
    ended = record {
      none = λ y t kind link.
          let was = ended.none y t kind (link_was y t kind link) in
          (λ gone. was.0 (sym (same y) ∙ gone), λ ceased. was.1 (sym (same y) ∙ ceased));
    };
  }
