-- Departures and their notices after each frame that is no notice, from the invariant.
-- Cited above: frame_in_order
use Rattle.std.proofs.Common.{◌≡◌, inl, inr, ℕ, true, List, [], ◌⊎◌, Option, None, Some, refl, subst}
use Rattle.std.proofs.lemmas.Bool.{cases_Bool}
use Rattle.tap_name.specs.Settings.{SettingsValue}
use Rattle.tap_name.specs.declared.slot.Slot.{Slot}
use Rattle.tap_wire.specs.declared.frame.Body.{Body}
use Rattle.tap_wire.specs.declared.frame.Body.TheVariants.{Done, Forget, Gone, Lay, Leave, Left, Link, Release, Seek}
use Rattle.tap_wire.specs.declared.frame.TellFields.{TellFields}
use Rattle.tap_rule.specs.FrameRules.{frame_at_ceased, frame_at_core, frame_at_joining, frame_at_leaving, rule_of_frame}
use Rattle.tap_rule.specs.RuleLaws.{frame_to}
use Rattle.tap_rule.specs.Node.{NodeState, Status, link_to, name_of}
use Rattle.tap_rule.specs.Node.Status.{Ceased, Core, Gone as GoneStatus, Joining, Leaving}
use Rattle.tap_rule.proofs.CarriedOut.{unruled_law}
use Rattle.tap_safety.specs.Departing.{Departs}
use Rattle.tap_safety.specs.Notices.{IsNotice}
use Rattle.tap_safety.specs.Remembered.{Leaver}
use Rattle.tap_safety.specs.Exchanges.{IsSent}
use Rattle.tap_safety.specs.System.{System}
use Rattle.tap_safety.proofs.NoticesKept.{until_rest_law}
use Rattle.tap_safety.proofs.Peace.{peace_kept}
use Rattle.tap_safety.proofs.Said.{Said, said_of}
use Rattle.tap_safety.proofs.Said.Said.{IsDone, IsForget, IsGone, IsHello, IsLeave, IsLeft, IsRelease, IsSeek, IsTell}
use Rattle.tap_safety.specs.Frames.{HelloFields, hello_body, tell_body}
use Rattle.tap_moves.specs.ByRule.{taken_at}
use Rattle.tap_moves.specs.CalmMoves.{IsPeaceful}
use Rattle.tap_moves.specs.Delivered.{after_delivery}
use Rattle.tap_moves.specs.InvariantLaws.{IsDelivery, IsFilledThere}
use Rattle.tap_moves.proofs.InvariantMoves.{due, way}
use Rattle.tap_moves.proofs.MovesMade.{by_rule}
use Rattle.tap_moves.proofs.CoverMoves.{taken_peaceful}
use Rattle.tap_moves.proofs.CoverPeace.{is_peaceful}
use Rattle.tap_moves.proofs.GivenUp.{given_up_peaceful}
use Rattle.tap_moves.specs.DepartingMoves.{DepartsInOrder, FrameDeparting, FrameInOrder}
use Rattle.tap_moves.proofs.Aside.{TakesAside, in_order}
use Rattle.tap_moves.proofs.AsideMade.{lay_taken, link_taken, release_taken}

-- ---- while a node departs

-- what may be under way then and is no notice is taken aside of the departure
departing_aside : (p : SettingsValue) (s : System) (number : ℕ) (node : NodeState) (from : List ℕ) (body : Body)
    → IsDelivery p s number node from body → (IsNotice body → ⊥) → (leaver : Leaver) → Departs s leaver
    → TakesAside s (after_delivery p s number) number (frame_to node from body) leaver
departing_aside p s number node from (Link version on) is other leaver departs =
    link_taken p s number node from leaver departs version on is
departing_aside p s number node from (Lay object server level version on) is other leaver departs =
    lay_taken p s number node from leaver departs object server level version on is
departing_aside p s number node from Release is other leaver departs = release_taken p s number node from leaver departs is
departing_aside p s number node from Forget is other leaver departs =
    absurd ((is.invariant.departure.during leaver departs).forgets from (name_of node) (way p s number node from Forget is))
departing_aside p s number node from (Leave replacement) is other leaver departs = absurd (other tt)
departing_aside p s number node from Left is other leaver departs = absurd (other tt)
departing_aside p s number node from Gone is other leaver departs = absurd (other tt)
departing_aside p s number node from body is other leaver departs =
    absurd ((is.invariant.departure.during leaver departs).frames from (name_of node) body (way p s number node from body is))

-- so the departure is in order after it
pub frame_departing : FrameDeparting
frame_departing p s number node from body is other leaver departs =
    in_order s (after_delivery p s number) number (frame_to node from body) leaver
    (departing_aside p s number node from body is other leaver departs) (until_rest_law p s number) departs is.invariant.departure
    is.invariant.notices

-- ---- while nobody departs

-- a frame of which there is no rule changes nothing
lost_peaceful : (p : SettingsValue) (s : System) (number : ℕ) (node : NodeState) (from : List ℕ) (body : Body)
    → IsDelivery p s number node from body → rule_of_frame node.status node from body ≡ None → s.departing ≡ None
    → IsPeaceful (after_delivery p s number)
lost_peaceful p s number node from body is unruled none =
    let s' = after_delivery p s number in
    let acted = taken_at node from body in
    let by = by_rule p s number node from body (due p s number node from body is) in
    let ignored = unruled_law node (frame_to node from body) unruled in
    is_peaceful s s' number (frame_to node from body) acted.sent by.taken (name_of node) node acted.state by.at
    (λ w t b sends notice. let nothing : IsSent [] w t b = subst (λ sent. IsSent sent w t b) ignored.sent sends in nothing)
    (λ leaves. subst (λ (n : NodeState). n.status ≡ Leaving) ignored.state leaves)
    (λ t kind link. inl (subst (λ (n : NodeState). link_to n t ≡ Some kind) ignored.state link)) none (peace_kept p s number none)
    is.invariant.departure is.invariant.notices

-- a rule takes it, or it is the Done of a join that was given up, or there is no rule for it
abbrev HasItsPart : NodeState → List ℕ → Body → Type 0
HasItsPart node from body =
    IsFilledThere node body
    ⊎ (((body ≡ Done) × (node.abandoned ≡ true)) ⊎ (rule_of_frame node.status node from body ≡ None))

-- by the status of the receiver: a Tell, a Seek and a Hello
tell_part : (status : Status) (node : NodeState) (from : List ℕ) (tell : TellFields) (watch : List Slot)
    → ((status ≡ Core) ⊎ ((status ≡ Joining) ⊎ (status ≡ Ceased)))
    ⊎ (rule_of_frame status node from (tell_body tell watch) ≡ None)
unfolding frame_at_joining frame_at_core frame_at_leaving frame_at_ceased
tell_part Core node from tell watch = inl (inl refl)
tell_part Joining node from tell watch = inl (inr (inl refl))
tell_part Ceased node from tell watch = inl (inr (inr refl))
tell_part Leaving node from tell watch = inr refl
tell_part GoneStatus node from tell watch = inr refl

seek_part : (status : Status) (node : NodeState) (from joiner : List ℕ)
    → (status ≡ Core) ⊎ (rule_of_frame status node from (Seek joiner) ≡ None)
unfolding frame_at_joining frame_at_core frame_at_leaving frame_at_ceased
seek_part Core node from joiner = inl refl
seek_part Joining node from joiner = inr refl
seek_part Ceased node from joiner = inr refl
seek_part Leaving node from joiner = inr refl
seek_part GoneStatus node from joiner = inr refl

hello_part : (status : Status) (node : NodeState) (from : List ℕ) (hello : HelloFields)
    → (status ≡ Joining) ⊎ (rule_of_frame status node from (hello_body hello) ≡ None)
unfolding frame_at_joining frame_at_core frame_at_leaving frame_at_ceased
hello_part Joining node from hello = inl refl
hello_part Core node from hello = inr refl
hello_part Ceased node from hello = inr refl
hello_part Leaving node from hello = inr refl
hello_part GoneStatus node from hello = inr refl

-- a Release and a Forget alike
freeing_part : (status : Status) (node : NodeState) (from : List ℕ) → ((status ≡ Joining) ⊎ (status ≡ Core))
    ⊎ ((rule_of_frame status node from Release ≡ None) × (rule_of_frame status node from Forget ≡ None))
unfolding frame_at_joining frame_at_core frame_at_leaving frame_at_ceased
freeing_part Joining node from = inl (inl refl)
freeing_part Core node from = inl (inr refl)
freeing_part Ceased node from = inr (refl, refl)
freeing_part Leaving node from = inr (refl, refl)
freeing_part GoneStatus node from = inr (refl, refl)

-- each frame that is no notice is one of these
has_part : (node : NodeState) (from : List ℕ) {body : Body} → Said body → (IsNotice body → ⊥) → HasItsPart node from body
has_part node from (IsTell tell watch) other =
    elim (tell_part node.status node from tell watch) [ inl taken ↦ inl taken | inr lost ↦ inr (inr lost) ]
has_part node from (IsSeek joiner) other =
    elim (seek_part node.status node from joiner) [ inl taken ↦ inl taken | inr lost ↦ inr (inr lost) ]
has_part node from (IsHello hello) other =
    elim (hello_part node.status node from hello) [ inl taken ↦ inl taken | inr lost ↦ inr (inr lost) ]
has_part node from IsDone other =
    elim (cases_Bool node.abandoned) [ inl given_up ↦ inr (inl (refl, given_up)) | inr goes_on ↦ inl goes_on ]
has_part node from IsRelease other =
    elim (freeing_part node.status node from) [ inl taken ↦ inl taken | inr lost ↦ inr (inr lost.0) ]
has_part node from IsForget other =
    elim (freeing_part node.status node from) [ inl taken ↦ inl taken | inr lost ↦ inr (inr lost.1) ]
has_part node from (IsLeave replacement) other = absurd (other tt)
has_part node from IsLeft other = absurd (other tt)
has_part node from IsGone other = absurd (other tt)
has_part node from _ other = inl tt

-- the Done of a join that was given up
given_up_order : (p : SettingsValue) (s : System) (number : ℕ) (node : NodeState) (from : List ℕ) (body : Body)
    → IsDelivery p s number node from body → body ≡ Done → node.abandoned ≡ true → IsPeaceful (after_delivery p s number)
given_up_order p s number node from body is ends given_up =
    given_up_peaceful p s number node from
    (record { delivery = subst (IsDelivery p s number node from) ends is; given_up = given_up })

-- after each of these nobody departs
peaceful : (p : SettingsValue) (s : System) (number : ℕ) (node : NodeState) (from : List ℕ) (body : Body)
    → IsDelivery p s number node from body → s.departing ≡ None → HasItsPart node from body → IsPeaceful (after_delivery p s number)
peaceful p s number node from body is none (inl there) = taken_peaceful p s number node from body is there none
peaceful p s number node from body is none (inr (inl ends)) = given_up_order p s number node from body is ends.0 ends.1
peaceful p s number node from body is none (inr (inr lost)) = lost_peaceful p s number node from body is lost none

-- ---- whether or not a node departs

-- so departures are in order after each frame that is no notice
pub frame_in_order : FrameInOrder
frame_in_order p s number node from body is other = by s.departing refl
  where
    by : (departing : Option Leaver) → s.departing ≡ departing → DepartsInOrder (after_delivery p s number)
    by None none =
        let still = peaceful p s number node from body is none (has_part node from (said_of body) other) in
        record { departure = still.departure; notices = still.notices }
    by (Some leaver) departs = frame_departing p s number node from body is other leaver departs
