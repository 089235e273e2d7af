-- A node changes links, and says so.
use Rattle.std.specs.Prelude.{◌≡◌, ℕ, ◌<◌, Bool, true, false, List, ◌⊎◌, None, Some}
use Rattle.tap_link.specs.declared.kind.Kind.{Kind}
use Rattle.tap_link.specs.declared.kind.Kind.TheVariants.{Pin}
use Rattle.tap_table.specs.declared.tie.Tie.{Tie}
use Rattle.tap_wire.specs.declared.frame.Frame.{Frame}
use Rattle.tap_rule.specs.Node.{NodeState, link_to, word_of}
use Rattle.tap_rule.specs.Node.Status.{Ceased as CeasedStatus}
use Rattle.tap_rule.specs.Reaction.{Message}
use Rattle.tap_rule.specs.Sent.{IsAmong}
use Rattle.tap_wire.specs.declared.frame.Body.TheVariants.{Forget, Link, Release}
use Rattle.tap_safety.specs.Remembered.{TieWord}
use Rattle.tap_safety.specs.System.{System, IsUnderWay}
use Rattle.tap_safety.specs.Ties.{IsOnWay, link_of, register_of, release_frame, status_of, word_frame}

-- x says to t, with a newer word than before, whether it now has a link to it
pub record IsSaid (s s' : System) (x t : List ℕ) : Type 0 where
  pub word : TieWord
  pub last : s'.last x t ≡ Some word
  pub way : IsOnWay s' (word_frame x t word)
  pub on : (kind : Kind) → link_of s' x t ≡ Some kind → word.on ≡ true
  pub off : link_of s' x t ≡ None → word.on ≡ false
  pub newer : (old : TieWord) → s.last x t ≡ Some old → old.version < word.version

-- A step changes at most links of x, and says so of each: no other link, no register and no status changes; no word that is under way
-- goes, and none comes but what x says; and no Release goes, but one to x of a node that it doesn't pin then.
pub record SaysWords (s s' : System) (x : List ℕ) : Type 0 where
  pub status : (y : List ℕ) → status_of s' y ≡ status_of s y
  pub registers : (t y : List ℕ) → register_of s' t y ≡ register_of s t y
  pub others : (y t : List ℕ) → (y ≡ x) ⊎ ((link_of s' y t ≡ link_of s y t) × (s'.last y t ≡ s.last y t))
  pub mine : (t : List ℕ) → ((link_of s' x t ≡ link_of s x t) × (s'.last x t ≡ s.last x t)) ⊎ IsSaid s s' x t
  pub still : (y t : List ℕ) (word : TieWord) → IsOnWay s (word_frame y t word) → IsOnWay s' (word_frame y t word)
  pub was : (y t : List ℕ) (word : TieWord) → IsOnWay s' (word_frame y t word)
      → IsOnWay s (word_frame y t word) ⊎ ((y ≡ x) × ((is : IsSaid s s' x t) × (is.word ≡ word)))
  pub releases : (t y : List ℕ) → IsOnWay s (release_frame t y)
      → IsOnWay s' (release_frame t y) ⊎ ((y ≡ x) × (link_of s' y t ≡ Some Pin → ⊥))

-- and of the pins that it keeps on a node that has ceased a Forget still comes
pub record KeepsForgets (s s' : System) (x : List ℕ) : Type 0 where
  pub still : (n y : List ℕ) → IsUnderWay s n y Forget → IsUnderWay s' n y Forget ⊎ ((y ≡ x) × (link_of s' y n ≡ Some Pin → ⊥))
  pub was : (n y : List ℕ) → IsUnderWay s' n y Forget → IsUnderWay s n y Forget ⊎ (status_of s' n ≡ Some CeasedStatus)

-- Of a node and the words that it sends: a link that changes has its word, which says whether it is there, with a number that the node's
-- stamp had not yet given; there is one word at most to each name; and its register stays.
pub record SaysLinks (before after : NodeState) (words : List Tie) : Type 0 where
  pub unsaid : (t : List ℕ) → ((word : Tie) → IsAmong word words → word.to ≡ t → ⊥) → link_to after t ≡ link_to before t
  pub on : (word : Tie) → IsAmong word words → (kind : Kind) → link_to after word.to ≡ Some kind → word.on ≡ true
  pub off : (word : Tie) → IsAmong word words → link_to after word.to ≡ None → word.on ≡ false
  pub newer : (word : Tie) → IsAmong word words → before.stamp < word.version
  pub once : (one two : Tie) → IsAmong one words → IsAmong two words → one.to ≡ two.to → one ≡ two
  pub register : (holder : List ℕ) → word_of after holder ≡ word_of before holder

-- of a frame that is taken and the messages that are sent: no Link and no Forget is among them, and if it is a Release or a Forget, the
-- node doesn't pin its sender any more
pub record SaysNoMore (frame : Frame) (after : NodeState) (messages : List Message) : Type 0 where
  pub link : (version : ℕ) (on : Bool) → frame.body ≡ Link version on → ⊥
  pub release : frame.body ≡ Release → link_to after frame.from ≡ Some Pin → ⊥
  pub forget : frame.body ≡ Forget → link_to after frame.from ≡ Some Pin → ⊥
  pub no_link : (m : Message) → IsAmong m messages → (version : ℕ) (on : Bool) → m.body ≡ Link version on → ⊥
  pub no_forget : (m : Message) → IsAmong m messages → m.body ≡ Forget → ⊥
