-- While nobody departs: a node that takes a frame, sends no notice and doesn't begin to leave keeps it so.
use Rattle.std.proofs.Common.{◌≡◌, inl, inr, ℕ, List, None, Some, sym, ◌∙◌}
use Rattle.tap_link.specs.declared.kind.Kind.TheVariants.{Leaving as LeavingKind}
use Rattle.tap_wire.specs.declared.frame.Body.{Body}
use Rattle.tap_wire.specs.declared.frame.Frame.{Frame}
use Rattle.tap_rule.specs.Node.{NodeState}
use Rattle.tap_rule.specs.Node.Status.{Leaving}
use Rattle.tap_safety.specs.Departing.{Departure}
use Rattle.tap_safety.specs.Notices.{IsAtPeace, IsNotice, Notices}
use Rattle.tap_safety.specs.Soft.{AddsSoundLinks}
use Rattle.tap_safety.specs.Exchanges.{ChangesAt, IsSent, IsTaken}
use Rattle.tap_safety.specs.System.{System, HasLink, IsUnderWay}
use Rattle.tap_safety.specs.Ties.{status_of}
use Rattle.tap_safety.proofs.LinkKeeps.{some_state, status_seen}
use Rattle.tap_safety.proofs.Peace.{notices_law}
use Rattle.tap_safety.proofs.SoftSteps.{links_sound}
use Rattle.tap_safety.proofs.TellKeeps.{node_before}
use Rattle.tap_safety.proofs.UnderWay.{was_under_way}
use Rattle.tap_moves.specs.CalmMoves.{IsPeaceful}

module _ (s s' : System) (number : ℕ) (frame : Frame) (sent : List Frame) (taken : IsTaken s s' number frame sent) (x : List ℕ)
    (before after : NodeState) (at : ChangesAt s s' x before after)
    (none : (from to : List ℕ) (body : Body) → IsSent sent from to body → IsNotice body → ⊥)
    (stays : after.status ≡ Leaving → before.status ≡ Leaving) (sound : AddsSoundLinks s' before after) (was : s.departing ≡ None)
    (is : s'.departing ≡ None) (departure : Departure s) where
  nobody_leaves : (y : List ℕ) → status_of s' y ≡ Some Leaving → ⊥
  nobody_leaves y leaving =
      let node = some_state s' y Leaving leaving in
      elim (node_before s s' x before after at y node.0 node.1) [
        | inl here ↦
            let same = here.1 in
            let leaves = node.2 in
            let now : after.status ≡ Leaving = cc in
            departure.leaving y was (status_seen s y before Leaving here.2 (stays now))
        | inr there ↦ departure.leaving y was (status_seen s y node.0 Leaving there node.2)
      ]

  no_notice_comes : (y t : List ℕ) (body : Body) → IsUnderWay s' y t body → IsNotice body → IsUnderWay s y t body
  no_notice_comes y t body way notice =
      elim (was_under_way s s' number frame sent taken y t body way) [
        | inl old ↦ old
        | inr sends ↦ absurd (none y t body sends notice)
      ]

  nobody_marked : (y t : List ℕ) → HasLink s' y t LeavingKind → ⊥
  nobody_marked y t link =
      elim (links_sound s s' x before after at sound y t LeavingKind link) [
        | inl old ↦ departure.marked y t was old
        | inr never ↦ never
      ]

  at_peace : IsAtPeace s s'
  at_peace = record { was = was; is = is; leaving = nobody_leaves; ways = no_notice_comes }

  departure_kept : Departure s'
  departure_kept = record {
    during = λ leaver departs. let no : None ≡ Some leaver = sym is ∙ departs in cc;
    marked = λ y t none link. nobody_marked y t link;
    leaving = λ y none leaving. nobody_leaves y leaving;
  }

  pub is_peaceful : Notices s → IsPeaceful s'
  is_peaceful notices = record { none = is; departure = departure_kept; notices = notices_law s s' at_peace notices }
