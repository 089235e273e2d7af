-- Nobody departs, and no notice is under way, once a node has started something but a departure.
use Rattle.std.proofs.Common.{◌≡◌, ℕ, List, None, Some, ap, sym, subst, ◌∙◌, inl, inr}
use Rattle.tap_name.specs.Settings.{SettingsValue}
use Rattle.tap_link.specs.declared.kind.Kind.TheVariants.{Leaving as LeavingKind}
use Rattle.tap_wire.specs.declared.frame.Body.{Body}
use Rattle.tap_wire.specs.declared.frame.Body.TheVariants.{Gone, Leave, Left, Seek}
use Rattle.tap_rule.specs.Event.{Start}
use Rattle.tap_rule.specs.Event.Start.{Join}
use Rattle.tap_rule.specs.Node.{NodeState}
use Rattle.tap_rule.specs.Node.Status.{Joining, Leaving}
use Rattle.tap_rule.specs.QuietSteps.{IsQuiet}
use Rattle.tap_safety.specs.Invariant.{Basis}
use Rattle.tap_safety.specs.Notices.{IsAtPeace, IsNotice}
use Rattle.tap_safety.specs.System.{System, HasLink, IsUnderWay}
use Rattle.tap_safety.specs.Ties.{status_of}
use Rattle.tap_safety.proofs.LinkKeeps.{some_state, status_seen}
use Rattle.tap_safety.proofs.Peace.{notices_law}
use Rattle.tap_safety.proofs.StartKeeps.{node_was}
use Rattle.tap_moves.specs.CalmMoves.{IsPeaceful}
use Rattle.tap_moves.specs.Delivered.{after_start}
use Rattle.tap_moves.specs.Starts.{StartPeaceful}
use Rattle.tap_moves.proofs.StartKinds.{StartsAlike, StartsAnew, alike_link_was, alike_status, alike_way_was, anew_link_was, anew_start, anew_ways, by_kind}

-- after a step while nobody departs, if no link is marked then
at_peace : (p : SettingsValue) (s s' : System) → IsAtPeace s s' → ((y t : List ℕ) → HasLink s' y t LeavingKind → ⊥) → Basis p s
    → IsPeaceful s'
at_peace p s s' peace unmarked inv = record {
  none = peace.is;
  departure = record {
    during = λ leaver departs. let wrong : None ≡ Some leaver = sym peace.is ∙ departs in absurd (cc);
    marked = λ y t none link. unmarked y t link;
    leaving = λ y none leaving. peace.leaving y leaving;
  };
  notices = notices_law s s' peace inv.notices;
}

-- no notice is about pointers, lookups or casts
quiet_no_notice : (body : Body) → IsNotice body → IsQuiet body → ⊥
quiet_no_notice (Leave replacement) notice quiet = quiet
quiet_no_notice Left notice quiet = quiet
quiet_no_notice Gone notice quiet = quiet
quiet_no_notice _ notice quiet = absurd notice

-- a node stays what it is
alike_peace : (p : SettingsValue) (s : System) (x : List ℕ) (start : Start) (node : NodeState) → StartsAlike p s x start node
    → Basis p s → IsPeaceful (after_start p s x start)
alike_peace p s x start node is inv =
    at_peace p s (after_start p s x start) (record {
      was = is.was_none;
      is = is.none;
      leaving = λ y leaving. inv.departure.leaving y is.was_none (sym (alike_status p s x start node is y) ∙ leaving);
      ways = λ from to body way notice. alike_way_was p s x start node is from to body (quiet_no_notice body notice) way;
    })
    (λ y t link. inv.departure.marked y t is.was_none (alike_link_was p s x start node is y t LeavingKind link)) inv

-- a new name starts to join
module _ (p : SettingsValue) (s : System) (x via : List ℕ) (is : StartsAnew p s x via) (inv : Basis p s) where
  abbrev begun : System
  begun = after_start p s x (Join via)

  -- the new node joins, so it doesn't leave
  nobody_leaves : (y : List ℕ) → status_of begun y ≡ Some Leaving → ⊥
  nobody_leaves y leaving =
      let state = some_state begun y Leaving leaving in
      elim (node_was s begun x (anew_start p s x via is) y state.0 state.1) [
        | inr there ↦ inv.departure.leaving y is.was_none (status_seen s y state.0 Leaving there state.2)
        | inl new ↦
            let status : state.0.status ≡ Joining = ap (λ (n : NodeState). n.status) new.1 ∙ is.joining in
            let wrong : Joining ≡ Leaving = sym status ∙ state.2 in
            absurd (cc)
      ]

  -- and a Seek is no notice
  notice_was : (from to : List ℕ) (body : Body) → IsUnderWay begun from to body → IsNotice body → IsUnderWay s from to body
  notice_was from to body way notice =
      elim (anew_ways p s x via is from to body way) [
        | inl old ↦ old
        | inr seek ↦ let never : IsNotice (Seek x) = subst IsNotice seek notice in absurd never
      ]

  anew_peace : IsPeaceful begun
  anew_peace =
      at_peace p s begun (record { was = is.was_none; is = is.none; leaving = nobody_leaves; ways = notice_was })
      (λ y t link. inv.departure.marked y t is.was_none (anew_link_was p s x via is y t LeavingKind link)) inv

pub start_peaceful : StartPeaceful
start_peaceful p s x start inv may stays =
    by_kind p s x start (λ after. IsPeaceful after) inv may stays (λ via is. anew_peace p s x via is inv)
    (λ node is. alike_peace p s x start node is inv)
