-- Who is named stays core or soft once a node has started something.
use Rattle.std.proofs.Common.{ℕ, List, ◌⊎◌, sym, ◌∙◌, inl, inr}
use Rattle.tap_name.specs.Settings.{SettingsValue}
use Rattle.tap_wire.specs.declared.frame.Body.{Body}
use Rattle.tap_wire.specs.declared.frame.Body.TheVariants.{Seek}
use Rattle.tap_rule.specs.Act.{act}
use Rattle.tap_rule.specs.Event.{Acted, Start}
use Rattle.tap_rule.specs.Event.Event.{Starts}
use Rattle.tap_rule.specs.Event.Start.{Join}
use Rattle.tap_rule.specs.Node.{NodeState}
use Rattle.tap_rule.specs.QuietSteps.{IsQuiet}
use Rattle.tap_rule.specs.Reaction.{message}
use Rattle.tap_safety.specs.Soft.{IsSoundBody, NamesSoft}
use Rattle.tap_safety.specs.System.{System, IsUnderWay}
use Rattle.tap_safety.proofs.SoftKept.{one_sound, soft_kept}
use Rattle.tap_safety.proofs.SoftSteps.{links_sound, softs_same, start_ways}
use Rattle.tap_safety.proofs.StepLaws.{soft_join_law}
use Rattle.tap_safety.proofs.TellKeeps.{core_kept}
use Rattle.tap_safety.proofs.Said.{Said, said_of}
use Rattle.tap_safety.proofs.Said.Said.{IsHello, IsLeave, IsRelease}
use Rattle.tap_moves.specs.Delivered.{after_start}
use Rattle.tap_moves.specs.Starts.{StartSoft}
use Rattle.tap_moves.proofs.StartKinds.{StartsAlike, StartsAnew, alike_changes, alike_links, anew_start, by_kind}

-- what is about pointers, lookups and casts says nobody to be core
quiet_sound : (s : System) (from to : List ℕ) {body : Body} → Said body → IsQuiet body → IsSoundBody s from to body
quiet_sound s from to (IsHello hello) quiet = absurd quiet
quiet_sound s from to IsRelease quiet = absurd quiet
quiet_sound s from to (IsLeave replacement) quiet = absurd quiet
quiet_sound s from to _ quiet = tt

module _ (p : SettingsValue) (s : System) (x : List ℕ) (start : Start) (node : NodeState) (is : StartsAlike p s x start node) where
  abbrev after : System
  after = after_start p s x start

  abbrev acted : Acted
  acted = act node (Starts start)

  -- what is under way was, or may be said
  sound_ways : (from to : List ℕ) (body : Body) → IsUnderWay after from to body → IsUnderWay s from to body ⊎ IsSoundBody after from to body
  sound_ways from to body way =
      elim (start_ways s after acted.sent is.step.sent from to body way) [
        | inl old ↦ inl old
        | inr sends ↦ inr (quiet_sound after from to (said_of body) (is.alike.sent (record { from = from; to = to; body = body }) sends))
      ]

  alike_soft : NamesSoft s → NamesSoft after
  alike_soft soft =
      let at = alike_changes p s x start node is in
      soft_kept s after (core_kept s after x node acted.state at is.alike.status)
      (softs_same s after x node acted.state at is.alike.status is.step.surrogate)
      (links_sound s after x node acted.state at (λ t kind now. inl (sym (alike_links p s x start node is t) ∙ now))) sound_ways soft

-- a new name starts to join
anew_soft : (p : SettingsValue) (s : System) (x via : List ℕ) → StartsAnew p s x via → NamesSoft s
    → NamesSoft (after_start p s x (Join via))
anew_soft p s x via is soft =
    let after = after_start p s x (Join via) in
    soft_join_law s after x (anew_start p s x via is) (one_sound after x (message via (Seek x)) tt) soft

pub start_soft : StartSoft
start_soft p s x start inv may stays =
    by_kind p s x start (λ after. NamesSoft after) inv may stays (λ via is. anew_soft p s x via is inv.soft)
    (λ node is. alike_soft p s x start node is inv.soft)
