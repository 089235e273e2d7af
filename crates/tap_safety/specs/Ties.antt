-- Links in both directions: the last word of each node to each other one, and where it stands.
use Rattle.std.specs.Prelude.{◌≡◌, ℕ, ◌<◌, ◌≤◌, Bool, true, false, List, ◌⊎◌, Option, None, Some}
use Rattle.tap_register.specs.declared.registers.Entry.{Entry}
use Rattle.tap_link.specs.declared.kind.Kind.{Kind}
use Rattle.tap_link.specs.declared.kind.Kind.TheVariants.{Pin}
use Rattle.tap_wire.specs.declared.frame.Frame.{Frame}
use Rattle.tap_wire.specs.declared.frame.Body.TheVariants.{Link, Release}
use Rattle.tap_rule.specs.Node.{NodeState, Status, link_to, word_of}
use Rattle.tap_rule.specs.Node.Status.{Joining, Core, Leaving, Gone, Ceased}
use Rattle.tap_safety.specs.Remembered.{TieWord}
use Rattle.tap_safety.specs.System.{System, IsUnderWay}

abbrev pub status_in : Option NodeState → Option Status
status_in None = None
status_in (Some node) = Some node.status

abbrev pub link_in : Option NodeState → List ℕ → Option Kind
link_in None t = None
link_in (Some node) t = link_to node t

-- the word that a register's entry keeps
abbrev pub tie_word_kept : Option (Entry (List ℕ) Bool) → Option TieWord
tie_word_kept None = None
tie_word_kept (Some e) = Some (record { version = e.version; on = e.value })

abbrev pub register_in : Option NodeState → List ℕ → Option TieWord
register_in None x = None
register_in (Some node) x = tie_word_kept (word_of node x)

-- Of a name: the status of its node; the kind of its link to another; and what its register of holders has of another; each if
-- there is one.
unfoldable pub status_of : System → List ℕ → Option Status
status_of s x = status_in (s.node x)

unfoldable pub link_of : System → List ℕ → List ℕ → Option Kind
link_of s x t = link_in (s.node x) t

unfoldable pub register_of : System → List ℕ → List ℕ → Option TieWord
register_of s t x = register_in (s.node t) x

-- a node with this status hears words: it is neither gone nor ceased
abbrev pub hears_words : Option Status → Type 0
hears_words None = ⊥
hears_words (Some Joining) = Unit
hears_words (Some Core) = Unit
hears_words (Some Leaving) = Unit
hears_words (Some Gone) = ⊥
hears_words (Some Ceased) = ⊥

abbrev pub word_frame : List ℕ → List ℕ → TieWord → Frame
word_frame x t word = record { from = x; to = t; body = Link word.version word.on }

abbrev pub release_frame : List ℕ → List ℕ → Frame
release_frame t x = record { from = t; to = x; body = Release }

-- the frame is under way
abbrev pub IsOnWay : System → Frame → Type 0
IsOnWay s frame = IsUnderWay s frame.from frame.to frame.body

-- the word of x to t stands: it is on its way, or in the register of t
abbrev pub Stands : System → List ℕ → List ℕ → TieWord → Type 0
Stands s x t word = IsOnWay s (word_frame x t word) ⊎ (register_of s t x ≡ Some word)

-- x has sent t a word, the last one says this, and it stands
pub record LastIs (s : System) (x t : List ℕ) (on : Bool) : Type 0 where
  pub last : TieWord
  pub is : s.last x t ≡ Some last
  pub on_is : last.on ≡ on
  pub stands : Stands s x t last

-- Of x and a t that hears words: if x has a link to t, its last word is that it has, and stands; if it has none but has sent t a word, its
-- last word is that it has none, and stands. If x pins a core node t, its last word or t's Release is on its way.
pub record TiesAreTold (s : System) : Type 0 where
  pub linked : (x t : List ℕ) (kind : Kind) → hears_words (status_of s t) → link_of s x t ≡ Some kind → LastIs s x t true
  pub dropped : (x t : List ℕ) (word : TieWord) → hears_words (status_of s t) → link_of s x t ≡ None → s.last x t ≡ Some word
      → LastIs s x t false
  pub pinned : (x t : List ℕ) → status_of s t ≡ Some Core → link_of s x t ≡ Some Pin
      → ((word : TieWord) × (s.last x t ≡ Some word) × IsOnWay s (word_frame x t word)) ⊎ IsOnWay s (release_frame t x)

-- x has sent t a word; this one is not above the last one, and is the last one if it has its version
pub record IsNoNewer (s : System) (x t : List ℕ) (word : TieWord) : Type 0 where
  pub last : TieWord
  pub is : s.last x t ≡ Some last
  pub most : word.version ≤ last.version
  pub same : word.version ≡ last.version → word ≡ last

-- no word on its way or in a register is above the last one of its sender, and the last one isn't both on its way and in the register
pub record Versions (s : System) : Type 0 where
  pub ways : (x t : List ℕ) (word : TieWord) → IsOnWay s (word_frame x t word) → IsNoNewer s x t word
  pub registers : (x t : List ℕ) (word : TieWord) → register_of s t x ≡ Some word → IsNoNewer s x t word
  pub once : (x t : List ℕ) (word kept : TieWord) → s.last x t ≡ Some word → IsOnWay s (word_frame x t word)
      → register_of s t x ≡ Some kept → kept.version < word.version

-- a version is newer than what the register has
abbrev pub IsNewer : ℕ → Option TieWord → Type 0
IsNewer version None = Unit
IsNewer version (Some word) = word.version < version

-- t takes a word of x: of what is known only its register of x changes, to the newer of the two words. The frame goes, and no other;
-- nothing comes but a Release to x, and that comes if the word is new and says that there is a link, from a core node.
pub record TakesLink (s s' : System) (x t : List ℕ) (word : TieWord) : Type 0 where
  pub status : (y : List ℕ) → status_of s' y ≡ status_of s y
  pub links : (y u : List ℕ) → link_of s' y u ≡ link_of s y u
  pub last : (y u : List ℕ) → s'.last y u ≡ s.last y u
  pub taken : IsOnWay s (word_frame x t word)
  pub still : (f : Frame) → IsOnWay s f → (f ≡ word_frame x t word) ⊎ IsOnWay s' f
  pub was : (f : Frame) → IsOnWay s' f → IsOnWay s f ⊎ (f ≡ release_frame t x)
  pub left : IsOnWay s' (word_frame x t word) → ⊥
  pub registers : (u y : List ℕ) → ((u ≡ t) × (y ≡ x)) ⊎ (register_of s' u y ≡ register_of s u y)
  pub new : IsNewer word.version (register_of s t x) → register_of s' t x ≡ Some word
  pub old : (kept : TieWord) → register_of s t x ≡ Some kept → word.version ≤ kept.version → register_of s' t x ≡ Some kept
  pub answers : IsNewer word.version (register_of s t x) → word.on ≡ true → status_of s t ≡ Some Core
      → IsOnWay s' (release_frame t x)
