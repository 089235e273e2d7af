-- What is so while no frame is under way.
use Rattle.std.specs.Prelude.{◌≡◌, ◌↔◌, ℕ, List, [], Some}
use Rattle.tap_name.specs.Settings.{SettingsValue}
use Rattle.tap_link.specs.declared.kind.Kind.TheVariants.{Leaving as LeavingKind}
use Rattle.tap_rule.specs.Node.Status.{Core, Joining, Leaving}
use Rattle.tap_safety.specs.Remembered.{OpenSession}
use Rattle.tap_safety.specs.System.{System, HasLink}
use Rattle.tap_safety.specs.Sessions.{IsOpen}
use Rattle.tap_safety.specs.Regions.{Has, Pins}
use Rattle.tap_safety.specs.Ceased.{IsRegistered}
use Rattle.tap_safety.specs.Ties.{status_of}
use Rattle.tap_safety.specs.Invariant.{Basis}

-- No session is open, nobody joins and nobody leaves, and some node is core; no link is a pin or marked; and of two nodes, the second one
-- core, the first is a holder that is on exactly if it has a link to the second.
pub record Rest (s : System) : Type 0 where
  pub sessions : (x : List ℕ) (k : ℕ) (session : OpenSession) → IsOpen s x k session → ⊥
  pub joining : (x : List ℕ) → status_of s x ≡ Some Joining → ⊥
  pub leaving : (x : List ℕ) → status_of s x ≡ Some Leaving → ⊥
  pub core : (x : List ℕ) × (status_of s x ≡ Some Core)
  pub pins : (x t : List ℕ) → Pins s x t → ⊥
  pub marked : (x t : List ℕ) → HasLink s x t LeavingKind → ⊥
  pub holders : (x t : List ℕ) → status_of s t ≡ Some Core → Has s x t ↔ IsRegistered s x t

abbrev pub RestHolds : Type 0
RestHolds = (p : SettingsValue) (s : System) → Basis p s → s.frames ≡ [] → Rest s
