-- Each pair of a node is laid as wanted after each step, if it was before.
-- Cited above: laid_law
use Rattle.std.proofs.Common.{◌≡◌, ℕ, Bool, cond, List, Option, Some, None, true, false, refl}
use Rattle.tap_pointer.specs.Reconcile.{AreLaid}
use Rattle.tap_pointer.proofs.Laws.{reconciled_is_laid}
use Rattle.tap_wire.specs.declared.frame.Frame.{Frame}
use Rattle.tap_rule.specs.Node.{IsRunning, NodeState, Status, name_of}
use Rattle.tap_rule.specs.Node.Status.{Joining, Core, Leaving, Gone, Ceased}
use Rattle.tap_rule.specs.Event.Event.{Starts, Takes}
use Rattle.tap_rule.specs.Reaction.{Reaction}
use Rattle.tap_rule.specs.Strange.{is_strange}
use Rattle.tap_rule.specs.FrameRules.{rule_of_frame}
use Rattle.tap_rule.specs.StartRules.{rule_of_start}
use Rattle.tap_rule.specs.Act.{act, carried_out, completed, follows, refuses}
use Rattle.tap_rule.specs.RuleLaws.{LaidLaw}

-- the pairs of a node are laid as wanted
abbrev IsLaid : NodeState → Type 0
IsLaid node = AreLaid node.ties.table node.pointers

-- a step that is completed, by the status of the node at its end
completed_laid : (from : List ℕ) (r : Reaction) (status : Status) → r.state.status ≡ status
    → IsRunning (carried_out from (completed status r)).state.status → IsLaid (carried_out from (completed status r)).state
completed_laid from r Joining is running = reconciled_is_laid r.state.ties.table r.state.pointers
completed_laid from r Core is running = reconciled_is_laid r.state.ties.table r.state.pointers
completed_laid from r Leaving is running = reconciled_is_laid r.state.ties.table r.state.pointers
completed_laid from r Gone is running = let ended : ⊥ = rw is at running in absurd ended
completed_laid from r Ceased is running = let ended : ⊥ = rw is at running in absurd ended

followed_laid : (node : NodeState) (rule : Option Reaction) → IsLaid node → IsRunning (follows node rule).state.status
    → IsLaid (follows node rule).state
followed_laid node None laid running = laid
followed_laid node (Some r) laid running = completed_laid (name_of node) r r.state.status refl running

taken_laid : (node : NodeState) (frame : Frame) (strange : Bool) → IsLaid node
    → IsRunning (cond strange (refuses node) (follows node (rule_of_frame node.status node frame.from frame.body))).state.status
    → IsLaid (cond strange (refuses node) (follows node (rule_of_frame node.status node frame.from frame.body))).state
taken_laid node frame true laid running = laid
taken_laid node frame false laid running = followed_laid node (rule_of_frame node.status node frame.from frame.body) laid running

pub laid_law : LaidLaw
unfolding act
laid_law node (Starts start) laid running = followed_laid node (rule_of_start node.status node start) laid running
laid_law node (Takes frame) laid running = taken_laid node frame (is_strange node frame) laid running
