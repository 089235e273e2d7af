-- What a core node does for a joiner, from the frames that were added.
use Rattle.std.proofs.Common.{◌≡◌, ◌≢◌, ℕ, List, [], ◌∷◌, ◌++◌, Some, refl}
use Rattle.tap_name.specs.declared.slot.Slot.{Slot}
use Rattle.tap_name.specs.Name.{IsName}
use Rattle.tap_session.specs.declared.parent.Parent.TheVariants.{Root}
use Rattle.tap_watch.specs.Level.{full_slots}
use Rattle.tap_table.specs.Ties.{TiesValue, pinned, stamp_after}
use Rattle.tap_join.specs.declared.sought.Sought.TheVariants.{Forward, Surrogate}
use Rattle.tap_join.specs.Hello.{words_of}
use Rattle.tap_join.specs.Seek.{sought}
use Rattle.tap_wire.specs.declared.frame.Body.TheVariants.{Seek}
use Rattle.tap_rule.specs.Covering.{Request, covers, pins_and_covers, takes_seek}
use Rattle.tap_rule.specs.Event.News.{Nothing as NothingNews}
use Rattle.tap_rule.specs.Node.{NodeState, name_of, settings_of}
use Rattle.tap_rule.specs.Node.Status.{Core}
use Rattle.tap_rule.specs.Reaction.{message, pin_word, with_pin}
use Rattle.tap_node_common.specs.declared.news.News.{News}
use Rattle.tap_node_common.specs.declared.news.News.TheVariants.{Nothing}
use Rattle.tap_node_common.specs.Sender.{message_bytes, node_sender, word_bytes}
use Rattle.tap_node_common.specs.SoundNode.{IsSoundNode}
use Rattle.tap_node_common.specs.StepsAs.{FollowsAs, StepsAs}
use Rattle.tap_node_common.proofs.ReactionSteps.{messages_step}
use Rattle.tap_core_node.proofs.Followed.{follows_quiet, pins_and_covers_quiet, seeks_quiet}
use Rattle.tap_core_node.proofs.Spreads.{covers_no_words, words_first}

module _ (node : NodeState) (sound : IsSoundNode node) (core : node.status ≡ Core) (before : List (List ℕ)) where
  -- a joiner that is pinned, and then covered
  pub pinned_and_covered : (request : Request) → IsName (settings_of node) request.joiner → request.joiner ≢ name_of node
      → (ties : TiesValue) (stamp : ℕ) (after : NodeState) (added sent : List (List ℕ)) → ties ≡ pinned node.ties request.joiner
      → stamp ≡ stamp_after node.stamp (pin_word node request.joiner)
      → added ≡ before ++ word_bytes (node_sender node) (words_of (pin_word node request.joiner))
      → StepsAs (record node { ties = ties; stamp = stamp }) (covers (record node { ties = ties; stamp = stamp }) request) after added sent
      Nothing
      → FollowsAs node (Some (pins_and_covers node request)) after before sent Nothing
  pinned_and_covered request is_name other ties stamp after added sent same numbered words steps =
      let pin : NodeState = with_pin node request.joiner in
      let words_sent : List (List ℕ) = before ++ word_bytes (node_sender node) (words_of (pin_word node request.joiner)) in
      let all : StepsAs pin (covers pin request) after words_sent sent Nothing =
      rw (same, numbered, words) at steps in
      follows_quiet node (pins_and_covers node request) after before sent Nothing
      (pins_and_covers_quiet node sound core request is_name other)
      (words_first node pin (words_of (pin_word node request.joiner)) (covers pin request) after before sent Nothing refl
      (covers_no_words pin request) all)

  module _ (joiner : List ℕ) where
    -- one that seeks, which is sent on
    pub sent_on : IsName (settings_of node) joiner → joiner ≢ name_of node → (next : List ℕ) (sent : List (List ℕ))
        → sought node.ties.table joiner ≡ Forward next
        → sent ≡ before ++ message_bytes (node_sender node) (message next (Seek joiner) ∷ [])
        → FollowsAs node (Some (takes_seek node joiner)) node before sent Nothing
    sent_on is_name other next sent is sends =
        follows_quiet node (takes_seek node joiner) node before sent Nothing (seeks_quiet node sound core joiner is_name other)
        (rw is (messages_step node node (message next (Seek joiner) ∷ []) NothingNews before sent sends))

    -- or whose surrogate the node is
    abbrev as_surrogate : ℕ → List Slot → Request
    as_surrogate prefix watch = record {
      joiner = joiner;
      prefix = prefix;
      level = prefix;
      watch = watch;
      parent = Root joiner;
      depth = 0;
    }

    pub at_surrogate : (prefix : ℕ) (watch : List Slot) → sought node.ties.table joiner ≡ Surrogate prefix
        → watch ≡ full_slots (settings_of node) joiner prefix → (after : NodeState) (sent : List (List ℕ)) (news : News)
        → FollowsAs node (Some (pins_and_covers node (as_surrogate prefix watch))) after before sent news
        → FollowsAs node (Some (takes_seek node joiner)) after before sent news
    at_surrogate prefix watch is full after sent news follows_as = rw is (rw full at follows_as)
