-- What is said of notices is kept by a step that takes none and sends none.
-- Cited above: frame_leaves_law, gone_leaver_stays, notices_step_law, until_rest_law
use Rattle.std.proofs.Common.{◌≡◌, inl, inr, ℕ, true, List, [], ◌∷◌, ◌⊎◌, Option, None, Some, refl, sym, ap, ◌∙◌}
use Rattle.std.proofs.lemmas.Bool.{true≢false}
use Rattle.tap_link.specs.declared.kind.Kind.{Kind}
use Rattle.tap_link.specs.declared.kind.Kind.TheVariants.{Settled, Leaving as LeavingKind}
use Rattle.tap_wire.specs.declared.frame.Body.{Body}
use Rattle.tap_wire.specs.declared.frame.Body.TheVariants.{Gone, Leave, Left, Link}
use Rattle.tap_wire.specs.declared.frame.Frame.{Frame}
use Rattle.tap_rule.specs.Act.{act}
use Rattle.tap_rule.specs.Event.Event.{Takes}
use Rattle.tap_rule.specs.Node.{NodeState}
use Rattle.tap_rule.specs.Node.Status.{Core, Leaving}
use Rattle.tap_rule.specs.Sending.{lay_frame}
use Rattle.tap_safety.specs.Remembered.{Leaver}
use Rattle.tap_safety.specs.System.{System, AmongFrames, HasLink, IsCoreNode, IsUnderWay}
use Rattle.tap_safety.specs.Departing.{Departs, HasReplaced}
use Rattle.tap_safety.specs.FrameSteps.{TakesFrame}
use Rattle.tap_safety.specs.KnownLaws.{DepartsUntilRest, FrameLeavesNotices, NoticesKeptBySteps}
use Rattle.tap_safety.specs.Moved.{delivered, departing_with, moved, numbered_frame, received, with_taken, without_number}
use Rattle.tap_safety.specs.Notices.{HasOneNotice, IsAwaiting, IsBetween, IsGoneLeaver, IsNotice, IsNoticeless, LeavesNotices, Notices, UntilRest}
use Rattle.tap_safety.specs.Exchanges.{IsSent, numbered_from}
use Rattle.tap_safety.specs.Ties.{link_in, link_of, status_in, status_of}
use Rattle.tap_safety.proofs.SoftKept.{sent_each}
use Rattle.tap_safety.proofs.LinkKeeps.{some_state, status_seen}
use Rattle.tap_safety.proofs.TellKeeps.{node_after, node_before}
use Rattle.tap_safety.proofs.UnderWay.{among_out, among_sent, among_was, was_under_way}
use Rattle.tap_safety.proofs.WordsKept.{at_link, link_at}

-- ---- who departs

departing_so : (frames : List (ℕ × Frame)) (departing : Option Leaver)
    → (departing_with frames departing ≡ None → (departing ≡ None) ⊎ (frames ≡ []))
    × ((leaver : Leaver) → departing_with frames departing ≡ Some leaver → departing ≡ Some leaver)
departing_so [] departing = (λ none. inr refl, λ leaver is. let no : None ≡ Some leaver = is in cc)
departing_so (f ∷ fs) departing = (λ none. inl none, λ leaver is. is)

delivered_so : (s : System) (number : ℕ) (frame : Option Frame) → UntilRest s (delivered s number frame)
delivered_so s number None = (λ none. inl none, λ leaver is. is)
delivered_so s number (Some frame) = by (s.node frame.to)
  where
    by : (node : Option NodeState) → UntilRest s (received s number frame node)
    by None = departing_so (without_number s number).frames s.departing
    by (Some node) = departing_so (with_taken s number frame node (act node (Takes frame))).frames s.departing

pub until_rest_law : DepartsUntilRest
unfolding moved
until_rest_law p s number = delivered_so s number (numbered_frame number s.frames)

-- whoever departs does so yet, while a frame is under way
pub departs_on : (s s' : System) → UntilRest s s' → (leaver : Leaver) → Departs s leaver → (m : ℕ) (f : Frame)
    → AmongFrames m f s'.frames → Departs s' leaver
departs_on s s' rest leaver departs m f among = by s'.departing refl
  where
    by : (departing : Option Leaver) → s'.departing ≡ departing → Departs s' leaver
    by None none =
        elim (rest.0 none) [
          | inl before ↦ let no : None ≡ Some leaver = sym before ∙ departs in cc
          | inr empty ↦ absurd (rw empty at among)
        ]
    by (Some other) is = is ∙ (sym (rest.1 other is) ∙ departs)

-- so whoever was the leaver, and gone, is so yet while its Gone is under way, if statuses stay
pub gone_leaver_stays : (s s' : System) → UntilRest s s' → ((y : List ℕ) → status_of s' y ≡ status_of s y) → (x t : List ℕ)
    → IsUnderWay s' x t Gone → IsGoneLeaver s x → IsGoneLeaver s' x
gone_leaver_stays s s' rest same x t way was = record {
  leaver = was.leaver;
  departs = departs_on s s' rest was.leaver was.departs way.number (record { from = x; to = t; body = Gone }) way.among;
  is = was.is;
  gone = same x ∙ was.gone;
}

-- ---- notices

between_notice : (x a : List ℕ) (f : Frame) → IsBetween x a f → IsNotice f.body
between_notice x a f (inl leave) = rw leave.1 tt
between_notice x a f (inr left) = rw left tt

module _ (s s' : System) (step : LeavesNotices s s') (notices : Notices s) where
  way_was : (x t : List ℕ) (body : Body) → IsNotice body → IsUnderWay s' x t body → IsUnderWay s x t body
  way_was x t body is way =
      record { number = way.number; among = step.was way.number (record { from = x; to = t; body = body }) is way.among }

  none_left : (x t : List ℕ) (body : Body) → s'.departing ≡ None → IsUnderWay s' x t body → IsNotice body → ⊥
  none_left x t body none way is =
      elim (step.until_rest.0 none) [
        | inl before ↦ notices.none x t body before (way_was x t body is way) is
        | inr rest ↦ rw rest at way.among
      ]

  was_core : (x : List ℕ) → IsCoreNode s' x → IsCoreNode s x
  was_core x core =
      elim core.core [
        | inl is ↦
            let node = some_state s x Core (sym (step.status x) ∙ status_seen s' x core.state Core core.is is) in
            record { state = node.0; is = node.1; core = inl node.2 }
        | inr is ↦
            let node = some_state s x Leaving (sym (step.status x) ∙ status_seen s' x core.state Leaving core.is is) in
            record { state = node.0; is = node.1; core = inr node.2 }
      ]

  link_stays : (leaver : Leaver) (x t : List ℕ) (kind : Kind) → Departs s leaver → HasLink s x t kind → HasLink s' x t kind
  link_stays leaver x t kind departs link = at_link s' x t kind (step.links leaver x t departs ∙ link_at s x t kind link)

  -- a slot that is filled stays so
  still_replaced : (leaver : Leaver) (a n : List ℕ) → Departs s leaver → HasReplaced s a n → HasReplaced s' a n
  still_replaced leaver a n departs replaced = record {
    marked = link_stays leaver a n LeavingKind departs replaced.marked;
    filled = λ other.
        let core = was_core other.other other.core in
        let by = replaced.filled (record { other = other.other; core = core; apart = other.apart; near = other.near }) in
        (by.0, link_stays leaver a by.0 Settled departs by.1, by.2);
  }

  pub one_kept : (x a : List ℕ) → IsAwaiting s' x a → HasOneNotice s' x a
  one_kept x a awaiting =
      let one = notices.one x a (step.awaited x a awaiting) in
      record {
        number = one.number;
        frame = one.frame;
        among = step.still one.number one.frame (between_notice x a one.frame one.between) one.among;
        between = one.between;
        only = λ m f among between. one.only m f (step.was m f (between_notice x a f between) among) between;
      }

  pub notices_stay : Notices s'
  notices_stay = record {
    none = none_left;
    leaves = λ x a replacement way.
        step.awaits x a (notices.leaves x a replacement (way_was x a (Leave replacement) tt way));
    lefts = λ a x way. step.awaits x a (notices.lefts a x (way_was a x Left tt way));
    one = one_kept;
    gones = λ x t way.
        gone_leaver_stays s s' step.until_rest step.status x t way (notices.gones x t (way_was x t Gone tt way));
    answered = λ leaver a departs among none.
        let before = step.until_rest.1 leaver departs in
        elim (notices.answered leaver a before among (λ awaiting. none (step.awaits leaver.name a awaiting))) [
          | inl replaced ↦ inl (still_replaced leaver a leaver.name before replaced)
          | inr unlinked ↦ inr (step.links leaver a leaver.name before ∙ unlinked.0, step.status leaver.name ∙ unlinked.1)
        ];
    words = λ leaver x t version departs way.
        elim (step.words x t version way) [
          | inr new ↦ new
          | inl old ↦
              let so = notices.words leaver x t version (step.until_rest.1 leaver departs) old in
              (λ leaving. so.0 (sym (step.status t) ∙ leaving), λ ceased. so.1 (sym (step.status t) ∙ ceased))
        ];
  }

pub notices_step_law : NoticesKeptBySteps
notices_step_law s s' step notices = notices_stay s s' step notices

-- ---- a frame

module _ (s s' : System) (number : ℕ) (frame : Frame) (step : TakesFrame s s' number frame)
    (quiet : IsNoticeless s s' number frame step) where
  awaits_on : (x a : List ℕ) → IsAwaiting s x a → IsAwaiting s' x a
  awaits_on x a awaiting =
      elim (node_after s s' frame.to step.before step.after step.at x awaiting.state awaiting.is) [
        | inr there ↦ record { state = awaiting.state; is = there; leaving = awaiting.leaving; awaits = awaiting.awaits }
        | inl here ↦
            let same = here.1 in
            let status = step.stays.status in
            let leaving = awaiting.leaving in
            record { state = step.after; is = here.2; leaving = cc; awaits = rw (quiet.awaited, ← same) awaiting.awaits }
      ]

  awaits_was : (x a : List ℕ) → IsAwaiting s' x a → IsAwaiting s x a
  awaits_was x a awaiting =
      elim (node_before s s' frame.to step.before step.after step.at x awaiting.state awaiting.is) [
        | inr there ↦ record { state = awaiting.state; is = there; leaving = awaiting.leaving; awaits = awaiting.awaits }
        | inl here ↦
            let same = here.1 in
            let status = step.stays.status in
            let leaving = awaiting.leaving in
            record { state = step.before; is = here.2; leaving = cc; awaits = rw (← quiet.awaited, ← same) awaiting.awaits }
      ]

  notice_still : (m : ℕ) (f : Frame) → IsNotice f.body → AmongFrames m f s.frames → AmongFrames m f s'.frames
  notice_still m f is among =
      elim (among_out m number f frame step.taken.front step.taken.back (numbered_from s.next step.sent) (rw step.taken.before at among)) [
        | inl on ↦ rw step.taken.after on
        | inr same ↦ absurd (quiet.taken (rw (← same.1) is))
      ]

  notice_was : (m : ℕ) (f : Frame) → IsNotice f.body → AmongFrames m f s'.frames → AmongFrames m f s.frames
  notice_was m f is among =
      elim (among_was m number f frame step.taken.front step.taken.back (numbered_from s.next step.sent) (rw step.taken.after at among)) [
        | inl old ↦ rw step.taken.before old
        | inr new ↦
            absurd (sent_each frame.to step.words step.messages step.sent step.are (λ from to body. IsNotice body → ⊥)
            (λ to version on wrong. wrong) (λ to object server level version on wrong. wrong) quiet.messages f.from f.to f.body
            (among_sent s.next step.sent m f new) is)
      ]

  status_same : (y : List ℕ) → status_of s' y ≡ status_of s y
  unfolding status_of
  status_same y =
      elim (step.at.others y) [
        | inr same ↦ ap status_in same
        | inl here ↦
            let was : s.node y ≡ Some step.before = rw here step.at.was in
            let now : s'.node y ≡ Some step.after = rw here step.at.is in
            ap status_in now ∙ (ap (λ status. Some status) step.stays.status ∙ sym (ap status_in was))
      ]

  links_same : (y t : List ℕ) → link_of s' y t ≡ link_of s y t
  unfolding link_of
  links_same y t =
      elim (step.at.others y) [
        | inr same ↦ ap (λ node. link_in node t) same
        | inl here ↦
            let was : s.node y ≡ Some step.before = rw here step.at.was in
            let now : s'.node y ≡ Some step.after = rw here step.at.is in
            ap (λ node. link_in node t) now ∙ (quiet.links t ∙ sym (ap (λ node. link_in node t) was))
      ]

  -- no word of a new link comes
  no_new_link : (x t : List ℕ) (version : ℕ) → IsSent step.sent x t (Link version true) → ⊥
  no_new_link x t version sends =
      elim (step.are.each (record { from = x; to = t; body = Link version true }) sends) [
        | inl link ↦
            let body : Link version true ≡ Link link.word.version link.word.on = ap (λ f. f.body) link.is in
            let on : true ≡ link.word.on = cc in
            true≢false (on ∙ quiet.off link.word link.among)
        | inr (inl named) ↦ quiet.words named.message named.among version (sym (ap (λ f. f.body) named.is))
        | inr (inr lay) ↦
            let wrong : Link version true ≡ (lay_frame frame.to lay.lay).body = ap (λ f. f.body) lay.is in cc
      ]

  frame_leaves : LeavesNotices s s'
  frame_leaves = record {
    until_rest = quiet.until_rest;
    awaits = awaits_on;
    awaited = awaits_was;
    still = notice_still;
    was = notice_was;
    status = status_same;
    links = λ leaver a t departs. links_same a t;
    words = λ x t version way.
        elim (was_under_way s s' number frame step.sent step.taken x t (Link version true) way) [
          | inl old ↦ inl old
          | inr sends ↦ absurd (no_new_link x t version sends)
        ];
  }

pub frame_leaves_law : FrameLeavesNotices
frame_leaves_law s s' number frame step quiet = frame_leaves s s' number frame step quiet
