-- The frames that a move sends have spellings.
use Rattle.std.proofs.Common.{◌≡◌, inl, inr, ℕ, ◌+◌, List, [], ◌∷◌, ◌++◌, All, Some, refl, subst}
use Rattle.std.proofs.lemmas.List.Elements.{All-cons, All-nil}
use Rattle.tap_name.specs.Settings.{SettingsValue}
use Rattle.tap_wire.specs.declared.frame.Frame.{Frame}
use Rattle.tap_wire.specs.Spelling.{IsFrame}
use Rattle.tap_rule.specs.Node.{NodeState}
use Rattle.tap_rule.specs.Event.{Start}
use Rattle.tap_rule.specs.Event.Event.{Starts, Takes}
use Rattle.tap_rule.specs.Act.{act}
use Rattle.tap_safety.specs.Move.Move.{Begins, Delivers}
use Rattle.tap_safety.specs.Moved.{delivered, moved, numbered_frame, received, starter, with_begun, without_number}
use Rattle.tap_safety.specs.Spelled.{AreSpelled}
use Rattle.tap_safety.specs.Exchanges.{numbered_from}
use Rattle.tap_safety.specs.System.{AmongFrames, System}

numbered_spelled : (p : SettingsValue) (next : ℕ) (sent : List Frame)
    → ((number : ℕ) (f : Frame) → AmongFrames number f (numbered_from next sent) → IsFrame p f) → All (IsFrame p) sent
numbered_spelled p next [] spelled = All-nil (IsFrame p)
numbered_spelled p next (frame ∷ sent) spelled =
    All-cons (IsFrame p) frame sent (spelled next frame (inl (refl, refl)))
    (numbered_spelled p (next + 1) sent (λ number f among. spelled number f (inr among)))

later_spelled : (p : SettingsValue) (frames : List (ℕ × Frame)) (next : ℕ) (sent : List Frame)
    → ((number : ℕ) (f : Frame) → AmongFrames number f (frames ++ numbered_from next sent) → IsFrame p f) → All (IsFrame p) sent
later_spelled p [] next sent spelled = numbered_spelled p next sent spelled
later_spelled p (f ∷ frames) next sent spelled = later_spelled p frames next sent (λ number g among. spelled number g (inr among))

module _ (p : SettingsValue) (s : System) where
  pub start_spelled : (name : List ℕ) (start : Start) (node : NodeState) → starter p s name start ≡ Some node
      → AreSpelled p (moved p s (Begins name start)) → All (IsFrame p) (act node (Starts start)).sent
  unfolding moved
  start_spelled name start node is spelled =
      let so : AreSpelled p (with_begun s name start (Some node)) = subst (λ n. AreSpelled p (with_begun s name start n)) is spelled in
      later_spelled p s.frames s.next (act node (Starts start)).sent so.each

  pub taken_spelled : (number : ℕ) (frame : Frame) (node : NodeState) → numbered_frame number s.frames ≡ Some frame → s.node frame.to ≡ Some node
      → AreSpelled p (moved p s (Delivers number)) → All (IsFrame p) (act node (Takes frame)).sent
  unfolding moved
  taken_spelled number frame node is there spelled =
      let first : AreSpelled p (received s number frame (s.node frame.to)) = subst (λ f. AreSpelled p (delivered s number f)) is spelled in
      let so : AreSpelled p (received s number frame (Some node)) = subst (λ n. AreSpelled p (received s number frame n)) there first in
      later_spelled p (without_number s number).frames s.next (act node (Takes frame)).sent so.each
