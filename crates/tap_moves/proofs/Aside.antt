-- What a frame keeps of a departure whose taker keeps its links and whom it awaits, and sends nothing that the departure is about.
use Rattle.std.proofs.Common.{◌≡◌, inl, inr, ℕ, true, List, [], ◌∷◌, ◌⊎◌, None, Some, refl, sym, ap, subst, ◌∙◌}
use Rattle.tap_name.specs.Names.{Among}
use Rattle.tap_link.specs.declared.kind.Kind.{Kind}
use Rattle.tap_link.specs.declared.kind.Kind.TheVariants.{Settled, Leaving as LeavingKind}
use Rattle.tap_wire.specs.declared.frame.Body.{Body}
use Rattle.tap_wire.specs.declared.frame.Body.TheVariants.{Forget, Gone, Lay, Leave, Left, Link, Release}
use Rattle.tap_wire.specs.declared.frame.Frame.{Frame}
use Rattle.tap_rule.specs.Node.{NodeState}
use Rattle.tap_rule.specs.Node.Status.{Gone as GoneStatus, Leaving}
use Rattle.tap_rule.specs.Reaction.{Message}
use Rattle.tap_rule.specs.Sent.{AreSent, IsAmong}
use Rattle.tap_safety.specs.Remembered.{Leaver}
use Rattle.tap_safety.specs.System.{System, AmongFrames, HasLink, IsUnderWay}
use Rattle.tap_safety.specs.Departing.{Departs, Departure, HasOther, HasReplaced, WhileDeparting, WhileLeaving, may_be_then}
use Rattle.tap_safety.specs.FrameSteps.{LinksStay, TakesFrame}
use Rattle.tap_safety.specs.Notices.{IsAwaiting, IsBetween, IsNotice, LeavesNotices, Notices, UntilRest}
use Rattle.tap_safety.specs.Exchanges.{IsSent}
use Rattle.tap_safety.specs.Ties.{status_of}
use Rattle.tap_safety.proofs.LinkKeeps.{some_state}
use Rattle.tap_safety.proofs.NoticesKept.{frame_leaves_law, notices_step_law}
use Rattle.tap_safety.proofs.TellKeeps.{node_before}
use Rattle.tap_safety.proofs.UnderWay.{was_under_way}
use Rattle.tap_safety.proofs.WordsKept.{at_link, link_at}
use Rattle.tap_moves.specs.DepartingMoves.{DepartsInOrder}
use Rattle.tap_moves.proofs.Alike.{fits_on, leaver_stays, leaving_on, other_was, over_at_rest, replaced_on}

-- ---- what is sent

-- a Lay, or a Release between two nodes neither of which leaves
abbrev pub IsAside : Leaver → List ℕ → List ℕ → Body → Type 0
IsAside leaver from to Release = (to ≡ leaver.name → ⊥) × (from ≡ leaver.name → ⊥)
IsAside leaver from to (Lay object server level version on) = Unit {0}
IsAside leaver from to _ = ⊥

-- such a frame may be under way then, and is no notice
pub aside_may_be : (leaver : Leaver) (from to : List ℕ) (body : Body) → IsAside leaver from to body → may_be_then body
aside_may_be leaver from to Release aside = tt
aside_may_be leaver from to (Lay object server level version on) aside = tt
aside_may_be leaver from to _ aside = absurd aside

pub aside_no_notice : (leaver : Leaver) (from to : List ℕ) (body : Body) → IsAside leaver from to body → IsNotice body → ⊥
aside_no_notice leaver from to Release aside notice = notice
aside_no_notice leaver from to (Lay object server level version on) aside notice = notice
aside_no_notice leaver from to _ aside notice = aside

-- no message is another
abbrev pub AreAside : Leaver → List ℕ → List Message → Type 0
AreAside leaver x messages = (m : Message) → IsAmong m messages → IsAside leaver x m.to m.body

-- then no frame is, if no word is sent
pub aside_sent : (leaver : Leaver) (x : List ℕ) (messages : List Message) (sent : List Frame) → AreSent x [] messages sent
    → AreAside leaver x messages → (from to : List ℕ) (body : Body) → IsSent sent from to body → IsAside leaver from to body
aside_sent leaver x messages sent are aside from to body among =
    elim (are.each (record { from = from; to = to; body = body }) among) [
      | inl link ↦ absurd link.among
      | inr (inl named) ↦
          subst (λ (f : Frame). IsAside leaver f.from f.to f.body) (sym named.is) (aside named.message named.among)
      | inr (inr lay) ↦ subst (λ (f : Frame). IsAside leaver f.from f.to f.body) (sym lay.is) tt
    ]

-- no Release is sent, if Lays alone are
pub no_release : (x : List ℕ) (sent : List Frame) → AreSent x [] [] sent → (from to : List ℕ) → IsSent sent from to Release → ⊥
no_release x sent are from to among =
    elim (are.each (record { from = from; to = to; body = Release }) among) [
      | inl link ↦ absurd link.among
      | inr (inl named) ↦ absurd named.among
      | inr (inr lay) ↦ let wrong = ap (λ (f : Frame). f.body) lay.is in cc
    ]

-- ---- a frame that is taken so

-- A frame that is no notice. Its taker keeps its links and whom it awaits; it sends no word, and such messages alone.
pub record TakesAside (s s' : System) (number : ℕ) (frame : Frame) (leaver : Leaver) : Type 0 where
  pub step : TakesFrame s s' number frame
  pub links : LinksStay step.before step.after
  pub awaited : step.after.awaited ≡ step.before.awaited
  pub taken : IsNotice frame.body → ⊥
  pub words : step.words ≡ []
  pub messages : AreAside leaver frame.to step.messages

-- some name is among these, if there are any
pub some_name : (names : List (List ℕ)) → (names ≡ [] → ⊥) → (a : List ℕ) × Among a names
some_name [] some = absurd (some refl)
some_name (a ∷ others) some = (a, inl refl)

-- a Leave and a Left are notices
pub between_notice : (x a : List ℕ) (f : Frame) → IsBetween x a f → IsNotice f.body
between_notice x a f (inl leave) = rw leave.1 tt
between_notice x a f (inr left) = rw left tt

module _ (s s' : System) (number : ℕ) (frame : Frame) (leaver : Leaver) (aside : TakesAside s s' number frame leaver)
    (rest : UntilRest s s') (departs : Departs s leaver) (departure : Departure s) (notices : Notices s) where
  abbrev step : TakesFrame s s' number frame
  step = aside.step

  before : WhileDeparting s leaver
  before = departure.during leaver departs

  -- no notice comes or goes
  leaves : LeavesNotices s s'
  leaves =
      frame_leaves_law s s' number frame step (record {
        until_rest = rest;
        links = aside.links;
        awaited = aside.awaited;
        taken = aside.taken;
        messages = λ m among. aside_no_notice leaver frame.to m.to m.body (aside.messages m among);
        words = λ m among version is.
            let wrong : IsAside leaver frame.to m.to (Link version true) =
            subst (IsAside leaver frame.to m.to) is (aside.messages m among) in wrong;
        off = λ tie among. let none : IsAmong tie [] = subst (IsAmong tie) aside.words among in absurd none;
      })

  -- ---- what is under way

  -- what is under way was so, or is aside
  was_or_aside : (x t : List ℕ) (body : Body) → IsUnderWay s' x t body → IsUnderWay s x t body ⊎ IsAside leaver x t body
  was_or_aside x t body way =
      elim (was_under_way s s' number frame step.sent step.taken x t body way) [
        | inl old ↦ inl old
        | inr sends ↦
            inr (aside_sent leaver frame.to step.messages step.sent
            (subst (λ words. AreSent frame.to words step.messages step.sent) aside.words step.are) aside.messages x t body sends)
      ]

  -- so what cannot be aside was under way
  way_was : (x t : List ℕ) (body : Body) → (IsAside leaver x t body → ⊥) → IsUnderWay s' x t body → IsUnderWay s x t body
  way_was x t body other way = elim (was_or_aside x t body way) [ inl old ↦ old | inr new ↦ absurd (other new) ]

  -- a notice stays
  notice_on : (x t : List ℕ) (body : Body) → IsNotice body → IsUnderWay s x t body → IsUnderWay s' x t body
  notice_on x t body notice way =
      record { number = way.number; among = leaves.still way.number (record { from = x; to = t; body = body }) notice way.among }

  -- ---- links and statuses

  -- links are as they were
  link_was : (x t : List ℕ) (kind : Kind) → HasLink s' x t kind → HasLink s x t kind
  link_was x t kind link = at_link s x t kind (sym (leaves.links leaver x t departs) ∙ link_at s' x t kind link)

  link_on : (x t : List ℕ) (kind : Kind) → HasLink s x t kind → HasLink s' x t kind
  link_on x t kind link = at_link s' x t kind (leaves.links leaver x t departs ∙ link_at s x t kind link)

  -- another core node of a slot was there before
  others : (a n : List ℕ) → HasOther s' a n → HasOther s a n
  others = other_was s s' frame.to step.before step.after step.at step.stays.status

  still_replaced : (a n : List ℕ) → HasReplaced s a n → HasReplaced s' a n
  still_replaced a n replaced =
      replaced_on s s' a n (others a n) (link_on a n LeavingKind replaced.marked) (λ to link. link_on a to Settled link) replaced

  -- ---- the leaver

  -- a leaving node goes on as before
  goes_on : (old new : NodeState) → new.awaited ≡ old.awaited → LinksStay old new → WhileLeaving s leaver old
      → WhileLeaving s' leaver new
  goes_on old new awaited links = leaving_on s s' leaver old new awaited links (λ y kind link. link_was y leaver.name kind link)

  leaver_goes_on : (state : NodeState) → s'.node leaver.name ≡ Some state → state.status ≡ Leaving → WhileLeaving s' leaver state
  leaver_goes_on state is leaving =
      elim (node_before s s' frame.to step.before step.after step.at leaver.name state is) [
        | inl here ↦
            let same = here.1 in
            let status = step.stays.status in
            let was : step.before.status ≡ Leaving = cc in
            subst (WhileLeaving s' leaver) (sym same)
            (goes_on step.before step.after aside.awaited aside.links (before.goes step.before here.2 was))
        | inr there ↦ goes_on state state refl (λ t. refl) (before.goes state there leaving)
      ]

  -- ---- while it goes on

  still_departing : WhileDeparting s' leaver
  still_departing = record {
    joining = λ x joining. before.joining x (sym (leaves.status x) ∙ joining);
    pins = λ x t pin. before.pins x t (link_was x t _ pin);
    marked = λ x t marked. before.marked x t (link_was x t LeavingKind marked);
    leaving = λ x leaving. before.leaving x (sym (leaves.status x) ∙ leaving);
    frames = λ x t body way. elim (was_or_aside x t body way) [
      | inl old ↦ before.frames x t body old
      | inr new ↦ aside_may_be leaver x t body new
    ];
    ends = elim before.ends [
      | inl leaving ↦ inl (leaves.status leaver.name ∙ leaving)
      | inr gone ↦ inr (leaves.status leaver.name ∙ gone)
    ];
    goes = leaver_goes_on;
    gone = λ gone y kind link.
        let was = before.gone (sym (leaves.status leaver.name) ∙ gone) y kind (link_was y leaver.name kind link) in
        (still_replaced y leaver.name was.0, notice_on leaver.name y Gone tt was.1);
    leaves = λ x a replacement way.
        let was = before.leaves x a replacement (way_was x a (Leave replacement) (λ never. never) way) in
        (was.0, link_on a x Settled was.1, fits_on s s' a x replacement (others a x) was.2);
    lefts = λ a x way.
        let was = before.lefts a x (way_was a x Left (λ never. never) way) in
        (was.0, still_replaced a x was.1);
    quiet = λ x t version way. before.quiet x t version (way_was x t (Link version true) (λ never. never) way);
    releases = λ x t way. elim (was_or_aside x t Release way) [
      | inl old ↦ before.releases x t old
      | inr new ↦ new
    ];
    forgets = λ x t way. before.forgets x t (way_was x t Forget (λ never. never) way);
  }

  -- ---- once it is over

  module _ (over : s'.departing ≡ None) where
    -- no frame is under way then
    no_frame : s'.frames ≡ []
    no_frame = over_at_rest s s' rest leaver departs over

    -- the step was the last one, and it took no notice: so there was none
    no_notice : (m : ℕ) (f : Frame) → IsNotice f.body → AmongFrames m f s.frames → ⊥
    no_notice m f notice among =
        let left : AmongFrames m f [] = subst (AmongFrames m f) no_frame (leaves.still m f notice among) in left

    -- a leaving node would await an answer, for which a notice would be under way
    not_leaving : status_of s leaver.name ≡ Some Leaving → ⊥
    not_leaving leaving =
        let node = some_state s leaver.name Leaving leaving in
        let a = some_name node.0.awaited (before.goes node.0 node.1 node.2).some in
        let awaiting : IsAwaiting s leaver.name a.0 = record { state = node.0; is = node.1; leaving = node.2; awaits = a.1 } in
        let one = notices.one leaver.name a.0 awaiting in
        no_notice one.number one.frame (between_notice leaver.name a.0 one.frame one.between) one.among

    -- and of a node that is gone a Gone would be, to whoever had a link to it
    not_linked : status_of s leaver.name ≡ Some GoneStatus → (y : List ℕ) (kind : Kind) → HasLink s y leaver.name kind → ⊥
    not_linked gone y kind link =
        let way = (before.gone gone y kind link).1 in
        no_notice way.number (record { from = leaver.name; to = y; body = Gone }) tt way.among

    nobody_marked : (x t : List ℕ) → HasLink s' x t LeavingKind → ⊥
    nobody_marked x t link =
        let was = link_was x t LeavingKind link in
        let to_leaver = subst (λ n. HasLink s x n LeavingKind) (before.marked x t was) was in
        elim before.ends [ inl leaving ↦ not_leaving leaving | inr gone ↦ not_linked gone x LeavingKind to_leaver ]

    nobody_leaves : (x : List ℕ) → status_of s' x ≡ Some Leaving → ⊥
    nobody_leaves x leaving =
        let was = sym (leaves.status x) ∙ leaving in
        not_leaving (subst (λ n. status_of s n ≡ Some Leaving) (before.leaving x was) was)

  -- the departure is in order after it
  pub in_order : DepartsInOrder s'
  in_order = record {
    departure = record {
      during = λ other departs'.
          subst (WhileDeparting s') (leaver_stays s s' rest leaver departs other departs') still_departing;
      marked = λ x t over link. nobody_marked over x t link;
      leaving = λ x over leaving. nobody_leaves over x leaving;
    };
    notices = notices_step_law s s' leaves notices;
  }
