-- The starts of a node, from the steps of its parts.
use Rattle.std.proofs.Common.{◌≡◌, ℕ, List, Some, refl, subst}
use Rattle.tap_session.specs.declared.parent.Parent.TheVariants.{Root}
use Rattle.tap_pointer.specs.Reconcile.{AreLaid}
use Rattle.tap_rule.specs.Node.{IsRunning, NodeState, name_of}
use Rattle.tap_rule.specs.Ceasing.{starts_abandon}
use Rattle.tap_rule.specs.Event.News.{Nothing as NothingNews}
use Rattle.tap_rule.specs.Joining.{starts_join}
use Rattle.tap_rule.specs.Casts.{Copy, casts, starts_cast}
use Rattle.tap_node_common.specs.declared.news.News.{News}
use Rattle.tap_node_common.specs.declared.news.News.TheVariants.{Nothing}
use Rattle.tap_node_common.specs.StepsAs.{FollowsAs, StepsAs}
use Rattle.tap_node_common.proofs.Followed.{follows_quietly}
use Rattle.tap_node_common.proofs.ReactionSteps.{silent_step}

-- the start of a cast is that of a copy whose root is the node
pub cast_starts : (node after : NodeState) (copy : Copy) (before sent : List (List ℕ)) (news : News)
    → copy.parent ≡ Root (name_of node) → copy.depth ≡ 0 → FollowsAs node (Some (casts node copy)) after before sent news
    → FollowsAs node (Some (starts_cast node copy.cast copy.level copy.word)) after before sent news
cast_starts node after copy before sent news root depth follows =
    let begun : Copy = record copy { parent = Root (name_of node); depth = 0 } in
    let same : copy ≡ begun = rw (root, depth) refl in
    subst (λ k. FollowsAs node (Some (casts node k)) after before sent news) same follows

-- a join that is given up, and one that starts, at a node whose pairs are laid as wanted
module _ (node : NodeState) (running : IsRunning node.status) (laid : AreLaid node.ties.table node.pointers) where
  pub gives_up_follows : (next : NodeState) (sent : List (List ℕ)) → next ≡ (starts_abandon node).state
      → FollowsAs node (Some (starts_abandon node)) next sent sent Nothing
  gives_up_follows next sent is =
      rw is (follows_quietly node (starts_abandon node) (starts_abandon node).state sent sent Nothing running refl laid
      (silent_step node (starts_abandon node).state NothingNews sent))

  pub join_follows : (via : List ℕ) (before sent : List (List ℕ)) (news : News) → StepsAs node (starts_join node via) node before sent news
      → FollowsAs node (Some (starts_join node via)) node before sent news
  join_follows via before sent news steps = follows_quietly node (starts_join node via) node before sent news running refl laid steps
