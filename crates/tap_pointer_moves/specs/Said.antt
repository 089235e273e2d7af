-- What nodes have said to one another of pairs, and where they have laid them.
use Rattle.std.specs.Prelude.{◌≡◌, ◌⊎◌, ℕ, ◌<◌, Bool, List, Option, None, Some}
use Rattle.tap_name.specs.Order.{name_cmp}
use Rattle.tap_register.specs.Registers.{entry_of}
use Rattle.tap_register.specs.declared.registers.Entry.{Entry}
use Rattle.tap_pointer.specs.declared.hop.Hop.{Hop}
use Rattle.tap_pointer.specs.declared.pair.Pair.{Pair}
use Rattle.tap_pointer.specs.declared.state.Pointer.{Pointer}
use Rattle.tap_pointer.specs.Due.{laid_at}
use Rattle.tap_pointer.specs.Pointers.{PointersValue, state_of}
use Rattle.tap_wire.specs.declared.frame.Body.TheVariants.{Lay}
use Rattle.tap_wire.specs.declared.frame.Frame.{Frame}
use Rattle.tap_rule.specs.Node.{NodeState}
use Rattle.tap_safety.specs.System.{System}
use Rattle.tap_safety.specs.Ties.{IsOnWay}

-- what a Lay says of its pair: its version, the level, and whether the pair is laid at its receiver
pub record LayWord : Type 0 where
  pub version : ℕ
  pub level : ℕ
  pub on : Bool

-- the frame by which x says this to t of a pair
abbrev pub lay_word_frame : List ℕ → List ℕ → Pair → LayWord → Frame
lay_word_frame x t pair word =
    record { from = x; to = t; body = Lay pair.object pair.server word.level word.version word.on }

-- the word that the entry of a register keeps
abbrev pub word_in_entry : Option (Entry (List ℕ) Pointer) → Option LayWord
word_in_entry None = None
word_in_entry (Some e) = Some (record { version = e.version; level = e.value.level; on = e.value.on })

-- what the register of a pair and a sender keeps
abbrev pub lay_word_kept : PointersValue → Pair → List ℕ → Option LayWord
lay_word_kept p pair x = word_in_entry (entry_of name_cmp (state_of p pair).registers x)

abbrev pub word_kept_in : Option NodeState → Pair → List ℕ → Option LayWord
word_kept_in None pair x = None
word_kept_in (Some node) pair x = lay_word_kept node.pointers pair x

abbrev pub laid_in : Option NodeState → Pair → Option Hop
laid_in None pair = None
laid_in (Some node) pair = laid_at node.pointers pair

-- Of a node: what its register of a pair and a sender keeps, and where it has laid a pair; each if there is one.
unfoldable pub pointer_register_of : System → List ℕ → Pair → List ℕ → Option LayWord
pointer_register_of s t pair x = word_kept_in (s.node t) pair x

unfoldable pub laid_of : System → List ℕ → Pair → Option Hop
laid_of s x pair = laid_in (s.node x) pair

-- x has said this to t of a pair: it is on its way, or in the register of t
abbrev pub IsLaySaid : System → List ℕ → List ℕ → Pair → LayWord → Type 0
IsLaySaid s x t pair word = IsOnWay s (lay_word_frame x t pair word) ⊎ (pointer_register_of s t pair x ≡ Some word)

-- and no other word of x to t of this pair is as high
pub record IsLastLay (s : System) (x t : List ℕ) (pair : Pair) (word : LayWord) : Type 0 where
  pub said : IsLaySaid s x t pair word
  pub last : (other : LayWord) → IsLaySaid s x t pair other → (other ≡ word) ⊎ (other.version < word.version)
