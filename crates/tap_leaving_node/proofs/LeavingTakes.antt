-- What a leaving node does at a frame, from the step of the frame's rule. A Link, a Find or an Answer leaves each pair laid as wanted,
-- so that reconciling adds nothing to it.
use Rattle.std.proofs.Common.{◌≡◌, ℕ, Bool, List, Option, refl}
use Rattle.tap_pointer.specs.Pointers.{pair_of}
use Rattle.tap_pointer.specs.Reconcile.{AreLaid}
use Rattle.tap_wire.specs.declared.frame.Body.TheVariants.{Link, Lay, Find, Answer}
use Rattle.tap_wire.specs.declared.frame.Frame.{Frame}
use Rattle.tap_rule.specs.Event.News.{Answered as AnsweredNews}
use Rattle.tap_rule.specs.FrameRules.{frame_at_leaving}
use Rattle.tap_rule.specs.Links.{takes_link}
use Rattle.tap_rule.specs.Node.{IsRunning, NodeState}
use Rattle.tap_rule.specs.Pointers.{reconciles, takes_answer, takes_find, takes_lay}
use Rattle.tap_rule.specs.Reaction.{Reaction}
use Rattle.tap_node_common.specs.declared.news.News.{News}
use Rattle.tap_node_common.specs.declared.news.News.TheVariants.{Answered}
use Rattle.tap_node_common.specs.StepsAs.{FollowsAs, StepsAs}
use Rattle.tap_node_common.proofs.Followed.{finds_alone, follows_alone, follows_quietly, follows_rule}
use Rattle.tap_node_common.proofs.ReactionSteps.{silent_step}

module _ (node : NodeState) (runs : IsRunning node.status) (frame : Frame) where
  module _ (after : NodeState) (before sent : List (List ℕ)) (news : News) where
    abbrev Steps : Reaction → Type 0
    Steps r = StepsAs node r after before sent news

    abbrev Follows : Type 0
    Follows = FollowsAs node (frame_at_leaving node frame.from frame.body) after before sent news

    pub lay_follows : (object server : List ℕ) (level version : ℕ) (on : Bool) → frame.body ≡ Lay object server level version on
        → Steps (reconciles (takes_lay node frame.from (pair_of object server) level version on)) → Follows
    unfolding frame_at_leaving
    lay_follows object server level version on is steps =
        rw is (follows_rule node (takes_lay node frame.from (pair_of object server) level version on) after before sent news runs steps)

    pub link_follows : AreLaid node.ties.table node.pointers → (version : ℕ) (on : Bool) → frame.body ≡ Link version on
        → Steps (takes_link node frame.from version on) → Follows
    unfolding frame_at_leaving
    link_follows laid version on is steps =
        rw is (follows_quietly node (takes_link node frame.from version on) after before sent news runs refl laid steps)

    pub find_follows : AreLaid node.ties.table node.pointers → (ticket : ℕ) (object asker : List ℕ) (level : ℕ)
        → frame.body ≡ Find ticket object asker level → Steps (takes_find node ticket object asker level) → Follows
    unfolding frame_at_leaving
    find_follows laid ticket object asker level is steps =
        rw is
        (follows_alone node (takes_find node ticket object asker level) after before sent news runs laid
        (finds_alone node ticket object asker level) steps)

  -- an Answer is noted, and nothing else happens
  pub answer_follows : AreLaid node.ties.table node.pointers → (before : List (List ℕ)) (ticket : ℕ) (server : Option (List ℕ))
      → frame.body ≡ Answer ticket server
      → FollowsAs node (frame_at_leaving node frame.from frame.body) node before before (Answered ticket server)
  unfolding frame_at_leaving
  answer_follows laid before ticket server is =
      rw is
      (follows_quietly node (takes_answer node ticket server) node before before (Answered ticket server) runs refl laid
      (silent_step node node (AnsweredNews ticket server) before))
