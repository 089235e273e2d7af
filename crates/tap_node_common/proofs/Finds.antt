-- Finds and lookups, by what is held of the object, and by the next hop.
use Rattle.std.proofs.Common.{◌≡◌, ℕ, drop, List, [], ◌∷◌, ◌++◌, Option, None, Some, sym, ap, ◌∙◌}
use Rattle.tap_table.specs.declared.next.Next.TheVariants.{Root, Hop}
use Rattle.tap_table.specs.Next.{next_from}
use Rattle.tap_table.specs.Table.{TableValue}
use Rattle.tap_pointer.specs.Pointers.{PointersValue, server_for}
use Rattle.tap_wire.specs.declared.frame.Body.TheVariants.{Answer, Find}
use Rattle.tap_rule.specs.Event.News.{Answered as AnsweredNews, Nothing as NothingNews}
use Rattle.tap_rule.specs.Node.{NodeState}
use Rattle.tap_rule.specs.Pointers.{starts_find, takes_find}
use Rattle.tap_rule.specs.Reaction.{Message, message}
use Rattle.tap_node_common.specs.declared.news.News.TheVariants.{Answered, Nothing}
use Rattle.tap_node_common.specs.Pointing.{EachStepsAs}
use Rattle.tap_node_common.specs.Sender.{message_bytes, sender_of}
use Rattle.tap_node_common.proofs.ReactionSteps.{messages_step, silent_step}

module _ (t : TableValue) (pointers : PointersValue) (before : List (List ℕ)) (ticket : ℕ) (object : List ℕ) where
  -- what is held of the object by a node with these pointers, and its next hop
  held_by : (node : NodeState) → node.pointers ≡ pointers → (server : Option (List ℕ)) → server_for pointers object ≡ server
      → server_for node.pointers object ≡ server
  held_by node same server is = ap (λ (p : PointersValue). server_for p object) same ∙ is

  module _ (asker : List ℕ) (level : ℕ) (sent : List (List ℕ)) where
    answered : (server : Option (List ℕ)) → Message
    answered server = message asker (Answer ticket server)

    -- the bytes of a message are those of each node with the table
    by_node : (node : NodeState) → node.ties.table ≡ t → (m : Message) → sent ≡ before ++ message_bytes (sender_of t) (m ∷ [])
        → sent ≡ before ++ message_bytes (sender_of node.ties.table) (m ∷ [])
    by_node node table m is = is ∙ ap (λ (u : TableValue). before ++ message_bytes (sender_of u) (m ∷ [])) (sym table)

    pub find_served : (server : List ℕ) → server_for pointers object ≡ Some server
        → sent ≡ before ++ message_bytes (sender_of t) (message asker (Answer ticket (Some server)) ∷ [])
        → EachStepsAs t pointers (λ node. takes_find node ticket object asker level) before sent Nothing
    find_served server held is node table same =
        let m = message asker (Answer ticket (Some server)) in
        rw (held_by node same (Some server) held)
        (messages_step node node (m ∷ []) NothingNews before sent (by_node node table m is))

    pub find_at_root : server_for pointers object ≡ None → next_from t level (drop level object) ≡ Root
        → sent ≡ before ++ message_bytes (sender_of t) (message asker (Answer ticket None) ∷ [])
        → EachStepsAs t pointers (λ node. takes_find node ticket object asker level) before sent Nothing
    find_at_root none root is node table same =
        let m = message asker (Answer ticket None) in
        let hop : next_from node.ties.table level (drop level object) ≡ Root =
        ap (λ (u : TableValue). next_from u level (drop level object)) table ∙ root in
        rw (held_by node same None none, hop)
        (messages_step node node (m ∷ []) NothingNews before sent (by_node node table m is))

    pub find_goes_on : (to : List ℕ) (next : ℕ) → server_for pointers object ≡ None
        → next_from t level (drop level object) ≡ Hop to next
        → sent ≡ before ++ message_bytes (sender_of t) (message to (Find ticket object asker next) ∷ [])
        → EachStepsAs t pointers (λ node. takes_find node ticket object asker level) before sent Nothing
    find_goes_on to next none hops is node table same =
        let m = message to (Find ticket object asker next) in
        let hop : next_from node.ties.table level (drop level object) ≡ Hop to next =
        ap (λ (u : TableValue). next_from u level (drop level object)) table ∙ hops in
        rw (held_by node same None none, hop)
        (messages_step node node (m ∷ []) NothingNews before sent (by_node node table m is))

  pub ask_served : (server : List ℕ) → server_for pointers object ≡ Some server
      → EachStepsAs t pointers (λ node. starts_find node ticket object) before before (Answered ticket (Some server))
  ask_served server held node table same =
      rw (held_by node same (Some server) held) (silent_step node node (AnsweredNews ticket (Some server)) before)

  pub ask_at_root : server_for pointers object ≡ None → next_from t 0 object ≡ Root
      → EachStepsAs t pointers (λ node. starts_find node ticket object) before before (Answered ticket None)
  ask_at_root none root node table same =
      let hop : next_from node.ties.table 0 object ≡ Root = ap (λ (u : TableValue). next_from u 0 object) table ∙ root in
      rw (held_by node same None none, hop) (silent_step node node (AnsweredNews ticket None) before)

  pub ask_goes_on : (to : List ℕ) (next : ℕ) (sent : List (List ℕ)) → server_for pointers object ≡ None
      → next_from t 0 object ≡ Hop to next
      → sent ≡ before ++ message_bytes (sender_of t) (message to (Find ticket object t.owner next) ∷ [])
      → EachStepsAs t pointers (λ node. starts_find node ticket object) before sent Nothing
  ask_goes_on to next sent none hops is node table same =
      let goes_on : TableValue → List Message = λ u. message to (Find ticket object u.owner next) ∷ [] in
      let hop : next_from node.ties.table 0 object ≡ Hop to next = ap (λ (u : TableValue). next_from u 0 object) table ∙ hops in
      let frames : sent ≡ before ++ message_bytes (sender_of node.ties.table) (goes_on node.ties.table) =
      is ∙ ap (λ (u : TableValue). before ++ message_bytes (sender_of u) (goes_on u)) (sym table) in
      rw (held_by node same None none, hop) (messages_step node node (goes_on node.ties.table) NothingNews before sent frames)
