-- What a rule for the link to one name says of all, whom a parent is told by, and that a frame is from another node.
-- Cited above: not_own, others_stay, parent_told
use Rattle.std.proofs.Common.{◌≡◌, ◌≢◌, ◌⊎◌, ℕ, List, Option, true, false, refl, sym, ◌∙◌, inl, inr}
use Rattle.std.specs.Ordering.{is_eq}
use Rattle.std.proofs.lemmas.Bool.{cases_Bool, true≢false}
use Rattle.std.proofs.lemmas.Slice.Eq.{bytes_eq-Decides}
use Rattle.tap_name.specs.Order.{name_cmp}
use Rattle.tap_link.specs.declared.kind.Kind.{Kind}
use Rattle.tap_table.proofs.LookUps.{by_rule}
use Rattle.tap_table.proofs.Near.{tied_names}
use Rattle.tap_session.specs.declared.parent.Parent.{Parent}
use Rattle.tap_session.specs.declared.parent.Parent.TheVariants.{Root, Node}
use Rattle.tap_wire.specs.declared.frame.Frame.{Frame}
use Rattle.tap_rule.specs.Node.{NodeState, name_of}
use Rattle.tap_rule.specs.Answers.{answer_for}
use Rattle.tap_rule.specs.Sending.{message_frame}
use Rattle.tap_rule.specs.Sent.{IsAmong}
use Rattle.tap_rule.specs.LinkSteps.{IsParentTold}
use Rattle.tap_rule.specs.Strange.{is_own_name, is_strange}

-- a name is the rule's own, or nothing changes
pub others_stay : (from name : List ℕ) (rule : Option Kind → Option Kind) (now was : Option Kind) → now ≡ by_rule from name rule was
    → (name ≡ from) ⊎ (now ≡ was)
others_stay from name rule now was is = elim (cases_Bool (is_eq (name_cmp name from))) [
  | inl tied ↦ inl (tied_names name from tied)
  | inr apart ↦ inr (is ∙ rw apart refl)
]

-- an answer for a parent is the one that it is told
pub parent_told : (node : NodeState) (parent : Parent) (sent : List Frame)
    → IsAmong (message_frame (name_of node) (answer_for parent)) sent → IsParentTold node parent sent
parent_told node (Root joiner) sent among = among
parent_told node (Node name session) sent among = among

-- a frame that isn't strange is from another node
pub not_own : (node : NodeState) (frame : Frame) → is_strange node frame ≡ false → frame.from ≢ name_of node
not_own node frame taken is =
    let own : is_own_name node frame.from ≡ true = (bytes_eq-Decides frame.from (name_of node)).1 is in
    let strange : is_strange node frame ≡ true = rw own refl in
    true≢false (sym strange ∙ taken)
