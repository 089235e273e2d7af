-- Which frames a step sends: by what is among them, as proofs about many nodes ask, and in order.
use Rattle.std.specs.Prelude.{◌≡◌, ◌⊎◌, ℕ, false, List, [], ◌∷◌, ◌++◌, map, AllPairs}
use Rattle.std.specs.List.Sorted.{IsPermutation}
use Rattle.std.specs.Ordering.{is_gt}
use Rattle.tap_name.specs.Order.{name_cmp}
use Rattle.tap_table.specs.declared.tie.Tie.{Tie}
use Rattle.tap_pointer.specs.declared.lay.Lay.{Lay}
use Rattle.tap_wire.specs.declared.frame.Frame.{Frame}
use Rattle.tap_rule.specs.Reaction.{Message}
use Rattle.tap_rule.specs.Sending.{by_receiver, lay_frame, link_frame, message_frame}

module _ {A : Type 0} where
  -- this is one of these; of names, what `Among` of `tap_name` says
  abbrev pub IsAmong : A → List A → Type 0
  IsAmong x [] = ⊥
  IsAmong x (y ∷ ys) = (x ≡ y) ⊎ IsAmong x ys

-- the frame of one of these words
pub record IsLink (from : List ℕ) (words : List Tie) (frame : Frame) : Type 0 where
  pub word : Tie
  pub among : IsAmong word words
  pub is : frame ≡ link_frame from word

-- the frame of one of these messages
pub record IsNamed (from : List ℕ) (messages : List Message) (frame : Frame) : Type 0 where
  pub message : Message
  pub among : IsAmong message messages
  pub is : frame ≡ message_frame from message

-- the frame of a Lay
pub record IsLay (from : List ℕ) (frame : Frame) : Type 0 where
  pub lay : Lay
  pub is : frame ≡ lay_frame from lay

-- what is sent is the frames of these words and of these messages, and of Lays
pub record AreSent (from : List ℕ) (words : List Tie) (messages : List Message) (sent : List Frame) : Type 0 where
  pub each : (frame : Frame) → IsAmong frame sent → IsLink from words frame ⊎ (IsNamed from messages frame ⊎ IsLay from frame)
  pub links : (word : Tie) → IsAmong word words → IsAmong (link_frame from word) sent
  pub named : (message : Message) → IsAmong message messages → IsAmong (message_frame from message) sent

-- What is sent, in order: first the Links of these words, ascending by receiver, then the frames of these messages, and then
-- those of these Lays. The words by receiver are these words, each as often, and no receiver is above a later one.
pub record AreSentInOrder (from : List ℕ) (words : List Tie) (messages : List Message) (lays : List Lay) (sent : List Frame) : Type 0 where
  pub all : sent ≡ map (link_frame from) (by_receiver words) ++ (map (message_frame from) messages ++ map (lay_frame from) lays)
  pub same : IsPermutation words (by_receiver words)
  pub ascending : AllPairs (λ a b. is_gt (name_cmp a.to b.to) ≡ false) (by_receiver words)
