-- What a step keeps of departures while nobody departs.
-- Cited above: frame_peace_law, notices_law, peace_kept
use Rattle.std.proofs.Common.{◌≡◌, inl, inr, ℕ, List, [], ◌∷◌, Option, None, Some, refl, sym, ◌∙◌}
use Rattle.tap_link.specs.declared.kind.Kind.TheVariants.{Leaving as LeavingKind}
use Rattle.tap_wire.specs.declared.frame.Body.{Body}
use Rattle.tap_wire.specs.declared.frame.Body.TheVariants.{Gone, Leave, Left}
use Rattle.tap_wire.specs.declared.frame.Frame.{Frame}
use Rattle.tap_rule.specs.Node.{NodeState}
use Rattle.tap_rule.specs.Node.Status.{Leaving}
use Rattle.tap_safety.specs.Remembered.{Leaver}
use Rattle.tap_safety.specs.System.{System, HasLink, IsUnderWay}
use Rattle.tap_safety.specs.Departing.{Departure}
use Rattle.tap_safety.specs.FrameSteps.{TakesFrame}
use Rattle.tap_rule.specs.Act.{act}
use Rattle.tap_rule.specs.Event.Event.{Takes}
use Rattle.tap_safety.specs.Moved.{delivered, departing_with, moved, numbered_frame, received, with_taken, without_number}
use Rattle.tap_safety.specs.Notices.{AreNoNotices, IsAtPeace, IsAwaiting, IsNotice, Notices}
use Rattle.tap_safety.specs.Soft.{AddsSoundLinks}
use Rattle.tap_safety.specs.Ties.{status_of}
use Rattle.tap_safety.specs.KnownLaws.{FrameIsAtPeace, NoticesKeptAtPeace, PeaceIsKept}
use Rattle.tap_safety.proofs.LinkKeeps.{some_state, status_seen}
use Rattle.tap_safety.proofs.SoftKept.{sent_each}
use Rattle.tap_safety.proofs.SoftSteps.{links_sound}
use Rattle.tap_safety.proofs.TellKeeps.{node_before}
use Rattle.tap_safety.proofs.UnderWay.{was_under_way}

-- ---- a delivery

departing_none : (frames : List (ℕ × Frame)) (departing : Option Leaver) → departing ≡ None → departing_with frames departing ≡ None
departing_none [] departing none = refl
departing_none (f ∷ fs) departing none = none

delivered_none : (s : System) (number : ℕ) (frame : Option Frame) → s.departing ≡ None → (delivered s number frame).departing ≡ None
delivered_none s number None none = none
delivered_none s number (Some frame) none = by (s.node frame.to)
  where
    by : (node : Option NodeState) → (received s number frame node).departing ≡ None
    by None = departing_none (without_number s number).frames s.departing none
    by (Some node) = departing_none (with_taken s number frame node (act node (Takes frame))).frames s.departing none

pub peace_kept : PeaceIsKept
unfolding moved
peace_kept p s number none = delivered_none s number (numbered_frame number s.frames) none

-- ---- notices

module _ (s s' : System) (peace : IsAtPeace s s') (notices : Notices s) where
  no_notice : (x t : List ℕ) (body : Body) → IsUnderWay s' x t body → IsNotice body → ⊥
  no_notice x t body way is = notices.none x t body peace.was (peace.ways x t body way is) is

  nobody_awaits : (x a : List ℕ) → IsAwaiting s' x a → ⊥
  nobody_awaits x a awaiting =
      peace.leaving x (status_seen s' x awaiting.state Leaving awaiting.is awaiting.leaving)

  nobody_departs : (leaver : Leaver) → s'.departing ≡ Some leaver → ⊥
  nobody_departs leaver departs = let no : None ≡ Some leaver = sym peace.is ∙ departs in cc

  pub notices_kept : Notices s'
  notices_kept = record {
    none = λ x t body none way is. no_notice x t body way is;
    leaves = λ x a replacement way. absurd (no_notice x a (Leave replacement) way tt);
    lefts = λ a x way. absurd (no_notice a x Left way tt);
    one = λ x a awaiting. absurd (nobody_awaits x a awaiting);
    gones = λ x t way. absurd (no_notice x t Gone way tt);
    answered = λ leaver a departs among none. absurd (nobody_departs leaver departs);
    words = λ leaver x t version departs way. absurd (nobody_departs leaver departs);
  }

pub notices_law : NoticesKeptAtPeace
notices_law s s' peace notices = notices_kept s s' peace notices

-- ---- a frame

module _ (s s' : System) (number : ℕ) (frame : Frame) (step : TakesFrame s s' number frame) (none : AreNoNotices step.messages)
    (sound : AddsSoundLinks s' step.before step.after) (was : s.departing ≡ None) (is : s'.departing ≡ None) (departure : Departure s) where
  nobody_leaves : (x : List ℕ) → status_of s' x ≡ Some Leaving → ⊥
  nobody_leaves x leaving =
      let node = some_state s' x Leaving leaving in
      elim (node_before s s' frame.to step.before step.after step.at x node.0 node.1) [
        | inl here ↦
            let same = here.1 in
            let status = step.stays.status in
            let leaves = node.2 in
            let old : step.before.status ≡ Leaving = cc in
            departure.leaving x was (status_seen s x step.before Leaving here.2 old)
        | inr there ↦ departure.leaving x was (status_seen s x node.0 Leaving there node.2)
      ]

  no_notice_comes : (x t : List ℕ) (body : Body) → IsUnderWay s' x t body → IsNotice body → IsUnderWay s x t body
  no_notice_comes x t body way notice =
      elim (was_under_way s s' number frame step.sent step.taken x t body way) [
        | inl old ↦ old
        | inr sends ↦
            absurd (sent_each frame.to step.words step.messages step.sent step.are (λ from to body. IsNotice body → ⊥)
            (λ to version on wrong. wrong) (λ to object server level version on wrong. wrong) none x t body sends notice)
      ]

  frame_peace : IsAtPeace s s'
  frame_peace = record { was = was; is = is; leaving = nobody_leaves; ways = no_notice_comes }

  nobody_marked : (x t : List ℕ) → HasLink s' x t LeavingKind → ⊥
  nobody_marked x t link =
      elim (links_sound s s' frame.to step.before step.after step.at sound x t LeavingKind link) [
        | inl old ↦ departure.marked x t was old
        | inr wrong ↦ wrong
      ]

  frame_departure : Departure s'
  frame_departure = record {
    during = λ leaver departs. let no : None ≡ Some leaver = sym is ∙ departs in cc;
    marked = λ x t none link. nobody_marked x t link;
    leaving = λ x none leaving. nobody_leaves x leaving;
  }

pub frame_peace_law : FrameIsAtPeace
frame_peace_law s s' number frame step none sound was is departure =
    (frame_peace s s' number frame step none sound was is departure, frame_departure s s' number frame step none sound was is departure)
