-- What becomes of a node's status: who has been core joins no more and doesn't cease, and who joins has joined before.
use Rattle.std.proofs.Common.{◌≡◌, ◌⊎◌, ℕ, false, List, refl, sym, subst, inl, inr}
use Rattle.tap_wire.specs.declared.frame.Body.{Body}
use Rattle.tap_rule.specs.Act.{act}
use Rattle.tap_rule.specs.Event.{Start}
use Rattle.tap_rule.specs.Event.Event.{Starts}
use Rattle.tap_rule.specs.Event.Start.{Abandon, Cast as StartCast, Find as StartFind, Join, Leave as StartLeave, Publish, Withdraw}
use Rattle.tap_rule.specs.RuleLaws.{frame_to}
use Rattle.tap_rule.specs.Node.{NodeState, Status}
use Rattle.tap_rule.specs.Node.Status.{Ceased, Core, Gone, Joining, Leaving}
use Rattle.tap_rule.specs.Strange.{is_strange}
use Rattle.tap_rule.proofs.QuietSteps.{quiet_law, quiet_start_law}
use Rattle.tap_moves.specs.ByRule.{taken_at}
use Rattle.tap_cast_moves.proofs.AsideRules.{IsAside, IsAsideState}
use Rattle.tap_cast_moves.proofs.AsideMade.{aside_frame, aside_start, leave_start}
use Rattle.tap_cast_runs.specs.Had.{was_core}
use Rattle.tap_safety.proofs.Said.{Said, said_of}
use Rattle.tap_safety.proofs.Said.Said.{IsCast, IsCastAck}

pub record FollowsOn (before after : Status) : Type 0 where
  pub stays : was_core before → was_core after
  pub joins : after ≡ Joining → before ≡ Joining

same : (before after : Status) → after ≡ before → FollowsOn before after
same before after is =
    subst (FollowsOn before) (sym is) (record { stays = λ core. core; joins = λ joins. joins })

-- from one status to another
from_to : (before after b a : Status) → before ≡ b → after ≡ a → FollowsOn b a → FollowsOn before after
from_to before after b a was is follows = subst (λ x. FollowsOn x after) (sym was) (subst (FollowsOn b) (sym is) follows)

joins_core : FollowsOn Joining Core
joins_core = record { stays = λ never. absurd never; joins = λ is. let wrong : Core ≡ Joining = is in absurd (cc) }

joins_ceased : FollowsOn Joining Ceased
joins_ceased = record { stays = λ never. absurd never; joins = λ is. let wrong : Ceased ≡ Joining = is in absurd (cc) }

leaving_gone : FollowsOn Leaving Gone
leaving_gone = record { stays = λ core. tt; joins = λ is. let wrong : Gone ≡ Joining = is in absurd (cc) }

core_leaving : FollowsOn Core Leaving
core_leaving = record { stays = λ core. tt; joins = λ is. let wrong : Leaving ≡ Joining = is in absurd (cc) }

core_gone : FollowsOn Core Gone
core_gone = record { stays = λ core. tt; joins = λ is. let wrong : Gone ≡ Joining = is in absurd (cc) }

of_state : (before after : NodeState) → IsAsideState before after → FollowsOn before.status after.status
of_state before after (inl goes) =
    elim goes.goes [
      | inl is ↦ same before.status after.status is
      | inr joined ↦ from_to before.status after.status Joining Core joined.0 joined.1 joins_core
    ]
of_state before after (inr ends) =
    elim ends.ends [
      | inl ceases ↦ from_to before.status after.status Joining Ceased ceases.0 ceases.1 joins_ceased
      | inr leaves ↦ from_to before.status after.status Leaving Gone leaves.0 leaves.1 leaving_gone
    ]

cast_or_not : (body : Body) → Said body
    → IsAside body ⊎ ((node : NodeState) (from : List ℕ) → (taken_at node from body).state.status ≡ node.status)
cast_or_not body IsCast = inr (λ node from. (quiet_law node (frame_to node from body) tt).status)
cast_or_not body (IsCastAck session) = inr (λ node from. (quiet_law node (frame_to node from body) tt).status)
cast_or_not _ _ = inl tt

pub frame_follows : (node : NodeState) (from : List ℕ) (body : Body) → is_strange node (frame_to node from body) ≡ false
    → FollowsOn node.status (taken_at node from body).state.status
frame_follows node from body known =
    elim (cast_or_not body (said_of body)) [
      | inl aside ↦ of_state node (taken_at node from body).state (aside_frame node from body known aside).1
      | inr stays ↦ same node.status (taken_at node from body).state.status (stays node from)
    ]

pub start_follows : (node : NodeState) (start : Start) → (start ≡ StartLeave → node.status ≡ Core)
    → FollowsOn node.status (act node (Starts start)).state.status
start_follows node (StartCast cast level word) core =
    same node.status (act node (Starts (StartCast cast level word))).state.status
    (quiet_start_law node (StartCast cast level word) tt).status
start_follows node StartLeave core =
    let at = core refl in
    elim (leave_start node at).1.leaves [
      | inl leaves ↦ from_to node.status (act node (Starts StartLeave)).state.status Core Leaving at leaves.1 core_leaving
      | inr gone ↦ from_to node.status (act node (Starts StartLeave)).state.status Core Gone at gone.1 core_gone
    ]
start_follows node (Join via) core = of_state node (act node (Starts (Join via))).state (aside_start node (Join via) tt).1
start_follows node Abandon core = of_state node (act node (Starts Abandon)).state (aside_start node Abandon tt).1
start_follows node (Publish object) core =
    of_state node (act node (Starts (Publish object))).state (aside_start node (Publish object) tt).1
start_follows node (Withdraw object) core =
    of_state node (act node (Starts (Withdraw object))).state (aside_start node (Withdraw object) tt).1
start_follows node (StartFind ticket object) core =
    of_state node (act node (Starts (StartFind ticket object))).state (aside_start node (StartFind ticket object) tt).1
