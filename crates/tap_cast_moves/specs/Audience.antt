-- The audience of a cast; and all that is kept of casts.
use Rattle.std.specs.Prelude.{◌≡◌, ℕ, ◌≤◌, true, false, List, Some}
use Rattle.tap_name.specs.Prefix.{lcp}
use Rattle.tap_name.specs.Settings.{SettingsValue}
use Rattle.tap_safety.specs.System.{System, IsCoreNode}
use Rattle.tap_cast_moves.specs.Cover.{CastCover}
use Rattle.tap_cast_moves.specs.KeptCasts.{CastsKept}
use Rattle.tap_cast_moves.specs.Remembered.{CastMemory, CastRun}
use Rattle.tap_cast_moves.specs.CastSessions.{CastSessions}

-- until a cast is closed its audience is core, and then the cast has reached all of it; it begins with the prefix, and the caster is of it
pub record IsAudience (s : System) (run : CastRun) : Type 0 where
  pub core : run.closed ≡ false → (e : List ℕ) → run.audience e ≡ true → IsCoreNode s e
  pub reached : run.closed ≡ true → (e : List ℕ) → run.audience e ≡ true → run.reached e ≡ true
  pub begins : (e : List ℕ) → run.audience e ≡ true → run.level ≤ lcp run.caster e
  pub caster : run.audience run.caster ≡ true

-- Audience: so it is of each cast.
pub record CastAudience (s : System) (r : CastMemory) : Type 0 where
  pub each : (cast : ℕ) (run : CastRun) → r.cast cast ≡ Some run → IsAudience s run

-- All of it: Sessions of casts, Kept, Cast cover and Audience.
pub record CastsAreSound (p : SettingsValue) (s : System) (r : CastMemory) : Type 0 where
  pub sessions : CastSessions p s r
  pub kept : CastsKept p s r
  pub cover : CastCover s r
  pub audience : CastAudience s r
