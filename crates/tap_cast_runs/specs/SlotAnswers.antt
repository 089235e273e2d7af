-- What is remembered of watch lists, beside the nodes and frames of a system.
use Rattle.std.specs.Prelude.{◌≡◌, ◌⊎◌, ℕ, Bool, if◌then◌else◌, List, [], ◌∷◌, ◌++◌, Option, None, Some, is_some}
use Rattle.tap_name.specs.Slot.{slot_at}
use Rattle.tap_name.specs.declared.slot.Slot.{Slot}
use Rattle.tap_link.specs.LinkSet.{least_settled}
use Rattle.tap_table.specs.Members.{is_slot}
use Rattle.tap_table.specs.Table.{TableValue, links_at}

-- ---- answers

-- a node answered a slot of a joiner with this name; and the primary that it had in the slot then, if it had one
pub record Answer : Type 0 where
  pub joiner : List ℕ
  pub slot : Slot
  pub answerer : List ℕ
  pub primary : Option (List ℕ)
  pub named : List ℕ

-- the node answered by itself, or by its primary
abbrev pub IsOwnOrPrimary : Answer → Type 0
IsOwnOrPrimary answer = (answer.named ≡ answer.answerer) ⊎ (answer.primary ≡ Some answer.named)

-- the name with which the owner of a table answers a slot, if it does: its own, if it stands there, or else that of its primary there
abbrev pub answer_with : TableValue → List ℕ → Slot → Option (List ℕ)
answer_with t joiner slot = if is_slot slot (slot_at joiner t.owner) then Some t.owner else least_settled (links_at t slot)

-- the answer of the owner of a table with this name
abbrev pub answer_of : TableValue → List ℕ → Slot → List ℕ → Answer
answer_of t joiner slot named =
    record { joiner = joiner; slot = slot; answerer = t.owner; primary = least_settled (links_at t slot); named = named }

abbrev pub answer_as : TableValue → List ℕ → Slot → Option (List ℕ) → List Answer
answer_as t joiner slot None = []
answer_as t joiner slot (Some named) = answer_of t joiner slot named ∷ []

-- the answers that the owner of a table gives to these slots
unfoldable pub answers_for : TableValue → List ℕ → List Slot → List Answer
answers_for t joiner [] = []
answers_for t joiner (slot ∷ slots) = answer_as t joiner slot (answer_with t joiner slot) ++ answers_for t joiner slots

-- ---- covers

-- A node covered a joiner with this prefix first: its table then, and the chain of Tells that led to it, from the node itself back to the
-- joiner's surrogate.
pub record FirstCover : Type 0 where
  pub joiner : List ℕ
  pub prefix : ℕ
  pub table : TableValue
  pub chain : List (List ℕ)

-- the slot had a primary in that table
abbrev pub had_primary : FirstCover → Slot → Bool
had_primary cover slot = is_some (least_settled (links_at cover.table slot))

-- ---- what is remembered

-- the answers; the chain of the session of a node and a number, from the node back to the surrogate; and the first covers
pub record WatchMemory : Type 0 where
  pub answers : List Answer
  pub chain : List ℕ → ℕ → List (List ℕ)
  pub covers : List FirstCover

-- nothing was answered, and nobody covered
abbrev pub none_answered : WatchMemory
none_answered = record { answers = []; chain = λ x k. []; covers = [] }
