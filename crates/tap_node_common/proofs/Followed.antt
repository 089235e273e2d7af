-- What a node does at a frame or a start, from the step of its rule.
-- Cited above: asks_alone, finds_alone, follows_alone, follows_quietly, follows_rule, LeavesAlone
use Rattle.std.proofs.Common.{◌≡◌, ℕ, List, [], Option, None, Some, refl, sym, subst}
use Rattle.tap_table.specs.declared.next.Next.{Next}
use Rattle.tap_table.specs.declared.next.Next.TheVariants.{Root, Hop}
use Rattle.tap_pointer.specs.Pointers.{server_for}
use Rattle.tap_pointer.specs.Reconcile.{AreLaid}
use Rattle.tap_rule.specs.Act.{completed}
use Rattle.tap_rule.specs.Node.{IsRunning, NodeState, Status}
use Rattle.tap_rule.specs.Node.Status.{Joining, Core, Leaving, Gone, Ceased}
use Rattle.tap_rule.specs.Pointers.{next_hop, reconciles, starts_find, starts_find_on, starts_find_with, takes_find, takes_find_on, takes_find_with}
use Rattle.tap_rule.specs.Reaction.{Reaction}
use Rattle.tap_node_common.specs.declared.news.News.{News}
use Rattle.tap_node_common.specs.StepsAs.{FollowsAs, StepsAs}
use Rattle.tap_node_common.proofs.QuietStep.{quiet_step}

module _ (node : NodeState) (r : Reaction) (after : NodeState) (before sent : List (List ℕ)) (news : News) where
  -- a rule that doesn't end the node, which then reconciles
  pub follows_rule : IsRunning r.state.status → StepsAs node (reconciles r) after before sent news
      → FollowsAs node (Some r) after before sent news
  follows_rule running steps = by_status r.state.status running
    where
      by_status : (status : Status) → IsRunning status → StepsAs node (completed status r) after before sent news
      by_status Joining runs = steps
      by_status Core runs = steps
      by_status Leaving runs = steps
      by_status Gone runs = absurd runs
      by_status Ceased runs = absurd runs

  -- and one to which reconciling adds nothing
  pub follows_quietly : IsRunning r.state.status → r.lays ≡ [] → AreLaid r.state.ties.table r.state.pointers
      → StepsAs node r after before sent news → FollowsAs node (Some r) after before sent news
  follows_quietly running none laid steps = follows_rule running (quiet_step node r after before sent news none laid steps)

-- a rule leaves the node as it is, without Lays, and so does a lookup that goes through, and one that starts
pub record LeavesAlone (node : NodeState) (r : Reaction) : Type 0 where
  pub state : r.state ≡ node
  pub lays : r.lays ≡ []

module _ (node : NodeState) (ticket : ℕ) (object : List ℕ) where
  module _ (asker : List ℕ) (level : ℕ) where
    finds_on_alone : (next : Next) → LeavesAlone node (takes_find_on node ticket object asker next)
    finds_on_alone Root = record { state = refl; lays = refl }
    finds_on_alone (Hop to next) = record { state = refl; lays = refl }

    finds_with_alone : (server : Option (List ℕ)) → LeavesAlone node (takes_find_with node ticket object asker level server)
    finds_with_alone None = finds_on_alone (next_hop node object level)
    finds_with_alone (Some server) = record { state = refl; lays = refl }

    pub finds_alone : LeavesAlone node (takes_find node ticket object asker level)
    finds_alone = finds_with_alone (server_for node.pointers object)

  asks_on_alone : (next : Next) → LeavesAlone node (starts_find_on node ticket object next)
  asks_on_alone Root = record { state = refl; lays = refl }
  asks_on_alone (Hop to next) = record { state = refl; lays = refl }

  asks_with_alone : (server : Option (List ℕ)) → LeavesAlone node (starts_find_with node ticket object server)
  asks_with_alone None = asks_on_alone (next_hop node object 0)
  asks_with_alone (Some server) = record { state = refl; lays = refl }

  pub asks_alone : LeavesAlone node (starts_find node ticket object)
  asks_alone = asks_with_alone (server_for node.pointers object)

-- such a rule at a node whose pairs are laid as wanted
pub follows_alone : (node : NodeState) (r : Reaction) (after : NodeState) (before sent : List (List ℕ)) (news : News)
    → IsRunning node.status → AreLaid node.ties.table node.pointers → LeavesAlone node r → StepsAs node r after before sent news
    → FollowsAs node (Some r) after before sent news
follows_alone node r after before sent news running laid alone steps =
    let runs : IsRunning r.state.status = subst (λ (s : NodeState). IsRunning s.status) (sym alone.state) running in
    let still : AreLaid r.state.ties.table r.state.pointers =
    subst (λ (s : NodeState). AreLaid s.ties.table s.pointers) (sym alone.state) laid in
    follows_quietly node r after before sent news runs alone.lays still steps
