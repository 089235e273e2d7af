-- How many sessions of one joiner a node has open at most, beside the invariant.
use Rattle.std.specs.Prelude.{◌≡◌, ℕ, ◌+◌, ◌-◌, ◌≤◌, Bool, if◌then◌else◌, List, ◌⊎◌, length, Option, None, Some}
use Rattle.tap_name.specs.Names.{has_name}
use Rattle.tap_name.specs.Settings.{SettingsValue}
use Rattle.tap_rule.specs.Node.{NodeState, Status, level_kept}
use Rattle.tap_rule.specs.Node.Status.{Joining}
use Rattle.tap_rule.specs.Sent.{IsAmong}
use Rattle.tap_safety.specs.AtRest.{AreMembers, system_at_rest}
use Rattle.tap_safety.specs.Remembered.{OpenSession}
use Rattle.tap_safety.specs.Sessions.{IsOpen}
use Rattle.tap_safety.specs.System.{System}

-- a joining node opens one once it has greeted the joiner; another has one, or one for each level from that of its cover on, and one more
abbrev pub most_sessions_for : SettingsValue → Status → Bool → Option ℕ → ℕ
most_sessions_for p Joining greeted level = if greeted then 1 else 0
most_sessions_for p other greeted None = 1
most_sessions_for p other greeted (Some level) = p.digits + 1 - level + 1

abbrev pub most_at : SettingsValue → NodeState → List ℕ → ℕ
most_at p node b = most_sessions_for p node.status (has_name node.greeted b) (level_kept node.covers b)

-- a session of the joiner b is open at x, with this number
pub record IsOpenOf (s : System) (x b : List ℕ) (k : ℕ) : Type 0 where
  pub session : OpenSession
  pub is : IsOpen s x k session
  pub joiner : session.joiner ≡ b

-- the open sessions of the joiner b at x are at most so many
pub record HasFewSessions (s : System) (x b : List ℕ) (most : ℕ) : Type 0 where
  pub numbers : List ℕ
  pub few : length numbers ≤ most
  pub all : (k : ℕ) → IsOpenOf s x b k → IsAmong k numbers

-- each node has few sessions of each joiner
pub record SessionsAreFew (p : SettingsValue) (s : System) : Type 0 where
  pub each : (x b : List ℕ) (node : NodeState) → s.node x ≡ Some node → HasFewSessions s x b (most_at p node b)

abbrev pub FewSessionsAtRest : Type 0
FewSessionsAtRest = (p : SettingsValue) (members : List (List ℕ)) → AreMembers p members → SessionsAreFew p (system_at_rest p members)

-- of each joiner a node has no session open, or it was a node before, and may have as many as then
abbrev pub MayHaveAsMany : SettingsValue → System → System → Type 0
MayHaveAsMany p s s' = (x b : List ℕ) (now : NodeState) → s'.node x ≡ Some now
    → ((k : ℕ) → IsOpenOf s' x b k → ⊥) ⊎ ((was : NodeState) × (s.node x ≡ Some was) × (most_at p was b ≤ most_at p now b))

-- a step that opens no session keeps them few
abbrev pub FewSessionsKept : Type 0
FewSessionsKept = (p : SettingsValue) (s s' : System) → ((x b : List ℕ) (k : ℕ) → IsOpenOf s' x b k → IsOpenOf s x b k)
    → MayHaveAsMany p s s' → SessionsAreFew p s → SessionsAreFew p s'

-- and so does one that opens a session of b at x, with this number, if x may then have one more
abbrev pub FewSessionsKeptByOpening : Type 0
FewSessionsKeptByOpening = (p : SettingsValue) (s s' : System) (x b : List ℕ) (l : ℕ)
    → ((y d : List ℕ) (k : ℕ) → IsOpenOf s' y d k → IsOpenOf s y d k ⊎ ((y ≡ x) × (d ≡ b) × (k ≡ l))) → MayHaveAsMany p s s'
    → ((was now : NodeState) → s.node x ≡ Some was → s'.node x ≡ Some now → most_at p was b + 1 ≤ most_at p now b)
    → SessionsAreFew p s → SessionsAreFew p s'
