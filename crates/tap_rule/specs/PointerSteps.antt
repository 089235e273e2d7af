-- What the steps about pointers and lookups change: Lay, Find and Answer, and the starts of publications and lookups.
use Rattle.std.specs.Prelude.{◌≡◌, ℕ, Bool, List, [], ◌∷◌, drop, Option, None, Some}
use Rattle.tap_table.specs.declared.next.Next.TheVariants.{Root, Hop}
use Rattle.tap_table.specs.Next.{next_from}
use Rattle.tap_pointer.specs.declared.pair.Pair.{Pair}
use Rattle.tap_pointer.specs.Pointers.{PointersValue, lay_applied, pointer_at, server_for}
use Rattle.tap_wire.specs.declared.frame.Body.TheVariants.{Find, Answer}
use Rattle.tap_rule.specs.Node.{NodeState, name_of}
use Rattle.tap_rule.specs.Event.{Acted}
use Rattle.tap_rule.specs.Event.News.{Nothing, Answered}
use Rattle.tap_rule.specs.Reaction.{message}
use Rattle.tap_rule.specs.Completed.{IsCompleted}
use Rattle.tap_rule.specs.LinkSteps.{AllAlike}

-- A step that changes the pointers alone, to these, which are then laid as wanted: the start of a publication, and of a withdrawal.
pub record PointersStep (node : NodeState) (pointers : PointersValue) (acted : Acted) : Type 0 where
  pub alike : AllAlike node acted.state
  pub completed : IsCompleted node pointers [] [] Nothing acted

-- Lay, from a sender: the register of the pair and the sender takes it
abbrev pub LayStep : NodeState → List ℕ → Pair → ℕ → ℕ → Bool → Acted → Type 0
LayStep node from pair level version on acted =
    PointersStep node (lay_applied node.pointers pair from version (pointer_at level on)) acted

-- Find: with a server the asker is sent an Answer; without one the Find goes on, and at the root the Answer has none
pub record FindStep (node : NodeState) (ticket : ℕ) (object asker : List ℕ) (level : ℕ) (acted : Acted) : Type 0 where
  pub alike : AllAlike node acted.state
  pub served : (server : List ℕ) → server_for node.pointers object ≡ Some server
      → IsCompleted node node.pointers [] (message asker (Answer ticket (Some server)) ∷ []) Nothing acted
  pub goes_on : (to : List ℕ) (next : ℕ) → server_for node.pointers object ≡ None
      → next_from node.ties.table level (drop level object) ≡ Hop to next
      → IsCompleted node node.pointers [] (message to (Find ticket object asker next) ∷ []) Nothing acted
  pub at_root : server_for node.pointers object ≡ None → next_from node.ties.table level (drop level object) ≡ Root
      → IsCompleted node node.pointers [] (message asker (Answer ticket None) ∷ []) Nothing acted

-- the start of a lookup: with a server it is answered at once; without one a Find goes on, and at the root it is answered with none
pub record LookupStep (node : NodeState) (ticket : ℕ) (object : List ℕ) (acted : Acted) : Type 0 where
  pub alike : AllAlike node acted.state
  pub served : (server : List ℕ) → server_for node.pointers object ≡ Some server
      → IsCompleted node node.pointers [] [] (Answered ticket (Some server)) acted
  pub goes_on : (to : List ℕ) (next : ℕ) → server_for node.pointers object ≡ None
      → next_from node.ties.table 0 object ≡ Hop to next
      → IsCompleted node node.pointers [] (message to (Find ticket object (name_of node) next) ∷ []) Nothing acted
  pub at_root : server_for node.pointers object ≡ None → next_from node.ties.table 0 object ≡ Root
      → IsCompleted node node.pointers [] [] (Answered ticket None) acted

-- Answer: the lookup is answered
pub record FoundStep (node : NodeState) (ticket : ℕ) (server : Option (List ℕ)) (acted : Acted) : Type 0 where
  pub alike : AllAlike node acted.state
  pub completed : IsCompleted node node.pointers [] [] (Answered ticket server) acted
