-- The sessions that are remembered are those that the nodes keep.
use Rattle.std.specs.Prelude.{◌≡◌, ℕ, List, length, Option, None, Some}
use Rattle.tap_session.specs.declared.parent.Parent.{Parent}
use Rattle.tap_session.specs.declared.parent.Parent.TheVariants.{Root, Node}
use Rattle.tap_session.specs.Session.{Session}
use Rattle.tap_rule.specs.Node.{NodeState, join_session_at}
use Rattle.tap_safety.specs.Remembered.{OpenSession}
use Rattle.tap_safety.specs.System.{System}
use Rattle.tap_safety.specs.Sessions.{IsOpen}

-- the parent that a node keeps for such a session
abbrev pub parent_at : List ℕ → Option (List ℕ × ℕ) → Parent
parent_at joiner None = Root joiner
parent_at joiner (Some (w, k)) = Node w k

abbrev pub kept_parent : OpenSession → Parent
kept_parent session = parent_at session.joiner session.parent

-- a node keeps a session so: it waits for as many answers as are awaited
pub record IsKeptSo (kept : Session) (session : OpenSession) : Type 0 where
  pub parent : kept.parent ≡ kept_parent session
  pub depth : kept.depth ≡ session.depth
  pub waiting : kept.waiting ≡ length session.awaits

pub record AreCountedSo (s : System) : Type 0 where
  pub kept : (x : List ℕ) (k : ℕ) (session : OpenSession) (state : NodeState) → IsOpen s x k session → s.node x ≡ Some state
      → (kept : Session) × (join_session_at state k ≡ Some kept) × IsKeptSo kept session
  pub open_at : (x : List ℕ) (k : ℕ) (state : NodeState) (kept : Session) → s.node x ≡ Some state → join_session_at state k ≡ Some kept
      → (session : OpenSession) × IsOpen s x k session
