-- Pointers, and what was said of them: the greatest word that a node has said to another of a pair tells whether it has laid the pair there.
use Rattle.std.specs.Prelude.{◌≡◌, ◌⊎◌, ℕ, ◌≤◌, true, false, List, [], Some}
use Rattle.tap_name.specs.Order.{name_cmp}
use Rattle.tap_register.specs.Registers.{IsAscending}
use Rattle.tap_pointer.specs.declared.hop.Hop.{Hop}
use Rattle.tap_pointer.specs.declared.pair.Pair.{Pair}
use Rattle.tap_pointer.specs.Pointers.{state_of}
use Rattle.tap_rule.specs.Node.{IsRunning, NodeState, Status}
use Rattle.tap_rule.specs.Node.Status.{Joining, Core, Leaving, Gone, Ceased}
use Rattle.tap_safety.specs.Seeking.{HasNode}
use Rattle.tap_safety.specs.System.{System}
use Rattle.tap_safety.specs.Ties.{IsOnWay, hears_words, status_of}
use Rattle.tap_pointer_moves.specs.Said.{IsLastLay, IsLaySaid, LayWord, laid_of, lay_word_frame}

-- a hop to this node, at this level
abbrev pub hop_at : List ℕ → ℕ → Hop
hop_at to level = record { to = to; level = level }

-- x has said to t that the pair is laid there, at this level, and nothing since
pub record IsToldOn (s : System) (x t : List ℕ) (pair : Pair) (level : ℕ) : Type 0 where
  pub word : LayWord
  pub last : IsLastLay s x t pair word
  pub on : word.on ≡ true
  pub level_is : word.level ≡ level

-- x has said to t that the pair isn't laid there, and nothing since
pub record IsToldOff (s : System) (x t : List ℕ) (pair : Pair) : Type 0 where
  pub word : LayWord
  pub last : IsLastLay s x t pair word
  pub off : word.on ≡ false

-- x has said nothing to t of the pair that is on its way or kept
abbrev pub IsUntold : System → List ℕ → List ℕ → Pair → Type 0
IsUntold s x t pair = (word : LayWord) → IsLaySaid s x t pair word → ⊥

-- Laid and Off, of a t that hears words: if x has laid a pair at t, its last word of the pair to t is that it has, at that level; if it
-- hasn't, or is no node any more, its last word is that it hasn't, or it has said none.
pub record AreTold (s : System) : Type 0 where
  pub laid : (x t : List ℕ) (pair : Pair) (level : ℕ) → hears_words (status_of s t) → laid_of s x pair ≡ Some (hop_at t level)
      → IsToldOn s x t pair level
  pub off : (x t : List ℕ) (pair : Pair) → hears_words (status_of s t) → ((level : ℕ) → laid_of s x pair ≡ Some (hop_at t level) → ⊥)
      → IsUntold s x t pair ⊎ IsToldOff s x t pair

-- Versions: who has said a word is, or was, a node; no two words of x to t of one pair have one version; and while x runs none is above its
-- stamp.
pub record AreLaysStamped (s : System) : Type 0 where
  pub known : (x t : List ℕ) (pair : Pair) (word : LayWord) → IsLaySaid s x t pair word → HasNode s x
  pub once : (x t : List ℕ) (pair : Pair) (one other : LayWord) → IsLaySaid s x t pair one → IsLaySaid s x t pair other
      → one.version ≡ other.version → one ≡ other
  pub stamp : (x t : List ℕ) (pair : Pair) (word : LayWord) (node : NodeState) → s.node x ≡ Some node → IsRunning node.status
      → IsLaySaid s x t pair word → word.version ≤ node.stamp

-- a node with this status is core, or was
abbrev pub IsSeasoned : Status → Type 0
IsSeasoned Joining = ⊥
IsSeasoned Core = Unit {0}
IsSeasoned Leaving = Unit {0}
IsSeasoned Gone = Unit {0}
IsSeasoned Ceased = ⊥

-- there is a node of this name that is core, or was
pub record IsSeasonedNode (s : System) (x : List ℕ) : Type 0 where
  pub state : NodeState
  pub is : s.node x ≡ Some state
  pub seasoned : IsSeasoned state.status

-- Ends: a Lay under way goes to a node that is core, or was
pub record HaveLayEnds (s : System) : Type 0 where
  pub ends : (x t : List ℕ) (pair : Pair) (word : LayWord) → IsOnWay s (lay_word_frame x t pair word) → IsSeasonedNode s t

-- a node with this status has no pointers
abbrev pub HasNoPointers : Status → Type 0
HasNoPointers Joining = Unit {0}
HasNoPointers Core = ⊥
HasNoPointers Leaving = ⊥
HasNoPointers Gone = Unit {0}
HasNoPointers Ceased = Unit {0}

-- Nothing: a joining node, and one that has ended, knows nothing of any pair: it publishes none, has no register, and has laid none
pub record KnowNothing (s : System) : Type 0 where
  pub nothing : (x : List ℕ) (node : NodeState) → s.node x ≡ Some node → HasNoPointers node.status → node.pointers.pairs ≡ []

-- a node that leaves publishes nothing
pub record LeaversPublishNothing (s : System) : Type 0 where
  pub unpublished : (x : List ℕ) (node : NodeState) (pair : Pair) → s.node x ≡ Some node → node.status ≡ Leaving
      → (state_of node.pointers pair).published ≡ false

-- the registers of each pair ascend by sender, so that each sender has one
pub record RegistersAscend (s : System) : Type 0 where
  pub ascending : (x : List ℕ) (node : NodeState) (pair : Pair) → s.node x ≡ Some node
      → IsAscending name_cmp (state_of node.pointers pair).registers

-- What is so of pointers beside the invariant of joins: these parts.
pub record PointersStand (s : System) : Type 0 where
  pub nothing : KnowNothing s
  pub told : AreTold s
  pub stamped : AreLaysStamped s
  pub ends : HaveLayEnds s
  pub registers : RegistersAscend s
  pub leavers : LeaversPublishNothing s
