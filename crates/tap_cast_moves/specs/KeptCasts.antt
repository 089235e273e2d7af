-- Which nodes keep a cast: those that it has reached.
use Rattle.std.specs.Prelude.{◌≡◌, ℕ, ◌≤◌, true, List, None, Some}
use Rattle.tap_name.specs.Prefix.{lcp}
use Rattle.tap_name.specs.Settings.{SettingsValue}
use Rattle.tap_cast.specs.Casts.{level_of_cast}
use Rattle.tap_rule.specs.Node.{NodeState}
use Rattle.tap_rule.specs.Node.Status.{Joining}
use Rattle.tap_safety.specs.System.{System}
use Rattle.tap_cast_moves.specs.Recalled.{is_core_status}
use Rattle.tap_cast_moves.specs.Remembered.{CastMemory, CastRun}

-- a cast that a node keeps at this level has reached it; the node begins with the prefix, and the level is from the prefix's length on to the
-- digits
pub record IsKeptCast (p : SettingsValue) (r : CastMemory) (x : List ℕ) (cast level : ℕ) : Type 0 where
  pub run : CastRun
  pub started : r.cast cast ≡ Some run
  pub reached : run.reached x ≡ true
  pub from : run.level ≤ level
  pub within : level ≤ p.digits
  pub begins : run.level ≤ lcp run.caster x

-- there is a node of this name, and it isn't joining
pub record JoinsNoMore (s : System) (x : List ℕ) : Type 0 where
  pub state : NodeState
  pub is : s.node x ≡ Some state
  pub over : state.status ≡ Joining → ⊥

-- Kept: a core node keeps a cast exactly if the cast has reached it, and so; its caster keeps it at the prefix's length; no other node keeps
-- any; and a cast reaches its caster, and no node that joins.
pub record CastsKept (p : SettingsValue) (s : System) (r : CastMemory) : Type 0 where
  pub kept : (x : List ℕ) (state : NodeState) (cast level : ℕ) → s.node x ≡ Some state → level_of_cast state.casts cast ≡ Some level
      → IsKeptCast p r x cast level
  pub core : (x : List ℕ) (state : NodeState) (cast level : ℕ) → s.node x ≡ Some state → level_of_cast state.casts cast ≡ Some level
      → is_core_status state.status ≡ true
  pub reached : (x : List ℕ) (state : NodeState) (cast : ℕ) (run : CastRun) → s.node x ≡ Some state → is_core_status state.status ≡ true
      → r.cast cast ≡ Some run → run.reached x ≡ true → level_of_cast state.casts cast ≡ None → ⊥
  pub caster : (state : NodeState) (cast : ℕ) (run : CastRun) → r.cast cast ≡ Some run → s.node run.caster ≡ Some state
      → is_core_status state.status ≡ true → level_of_cast state.casts cast ≡ Some run.level
  pub itself : (cast : ℕ) (run : CastRun) → r.cast cast ≡ Some run → run.reached run.caster ≡ true
  pub names : (x : List ℕ) (cast : ℕ) (run : CastRun) → r.cast cast ≡ Some run → run.reached x ≡ true → JoinsNoMore s x
