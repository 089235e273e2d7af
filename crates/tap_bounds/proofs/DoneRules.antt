-- Who joins after a step joined before it; and who takes its Done joins no more.
use Rattle.std.proofs.Common.{◌≡◌, List, ℕ, Bool, true, false, refl, sym, ◌∙◌}
use Rattle.tap_wire.specs.declared.frame.Body.TheVariants.{Done}
use Rattle.tap_wire.specs.declared.frame.Frame.{Frame}
use Rattle.tap_rule.specs.Act.{act}
use Rattle.tap_rule.specs.Event.{Acted, Start}
use Rattle.tap_rule.specs.Event.Event.{Starts, Takes}
use Rattle.tap_rule.specs.RuleLaws.{IsCarriedOut, frame_to}
use Rattle.tap_rule.specs.Node.{NodeState, Status}
use Rattle.tap_rule.specs.Node.Status.{Ceased, Core, Joining}
use Rattle.tap_rule.specs.Reaction.{Reaction}
use Rattle.tap_rule.specs.Strange.{is_strange}
use Rattle.tap_rule.proofs.Cases.{Cause, RuleCase}
use Rattle.tap_rule.proofs.Cases.RuleCase.{HasCeased, IsCoreNow, IsGoneNow, TellsHolders}
use Rattle.tap_rule.proofs.EachAct.{each_start, each_take}
use Rattle.tap_rule.proofs.EndSteps.{cease_law}
use Rattle.tap_rule.proofs.JoinSteps.{done_law}
use Rattle.tap_moves.specs.ByRule.{taken_at}

-- a node that joins after a rule joined before it
case_joins : (node : NodeState) {status : Status} {cause : Cause} {r : Reaction} → RuleCase node status cause r → node.status ≡ status
    → r.state.status ≡ Joining → node.status ≡ Joining
case_joins node (IsCoreNow keeps_on) at joins = at
case_joins node (HasCeased given_up) at joins = at
case_joins node (TellsHolders some) at joins = cc
case_joins node (IsGoneNow parting none) at joins = cc
case_joins node _ at joins = joins

-- ---- steps

module _ (node : NodeState) where
  abbrev JoinedBefore : Acted → Type 0
  JoinedBefore acted = acted.state.status ≡ Joining → node.status ≡ Joining

  carried : {cause : Cause} (r : Reaction) (acted : Acted) → RuleCase node node.status cause r → IsCarriedOut node r acted → JoinedBefore acted
  carried r acted case done joins = case_joins node case refl (sym done.status ∙ joins)

  pub frame_joins : (frame : Frame) → JoinedBefore (act node (Takes frame))
  frame_joins frame = each_take node JoinedBefore (λ joins. joins) frame (λ joins. joins) (λ fits. carried)

  pub start_joins : (start : Start) → JoinedBefore (act node (Starts start))
  start_joins start = each_start node JoinedBefore (λ joins. joins) start carried

-- ---- a Done

pub done_ends : (node : NodeState) (from : List ℕ) → node.status ≡ Joining → is_strange node (frame_to node from Done) ≡ false
    → (taken_at node from Done).state.status ≡ Joining → ⊥
done_ends node from at known joins = by node.abandoned refl
  where
    by : (given_up : Bool) → node.abandoned ≡ given_up → ⊥
    by true is = let wrong : Ceased ≡ Joining = sym (cease_law node from at is known).status ∙ joins in cc
    by false is = let wrong : Core ≡ Joining = sym (done_law node from at is known).status ∙ joins in cc
