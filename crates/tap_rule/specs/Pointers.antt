-- Pointers and lookups: publications, Lay, Find and Answer.
--
-- A publication: `starts_publish`, and a withdrawal: `starts_withdraw`. A Lay: `takes_lay`. A lookup: `starts_find`, then `starts_find_with`, `starts_find_on`
-- and `next_hop`. A Find: `takes_find`, then `takes_find_with`, `takes_find_on` and `next_hop`. An Answer: `takes_answer`. The end of a step:
-- `reconciles`.
--
-- Rule: docs/PROTOCOL.md, "Publication and withdrawal" and "Lay" and "Find" and "Answer".
use Rattle.std.specs.Prelude.{◌+◌, Bool, List, [], ◌∷◌, drop, length, Option, None, Some}
use Rattle.tap_name.specs.Name.{Name}
use Rattle.tap_name.specs.Prefix.{Level}
use Rattle.tap_register.specs.Registers.{Version}
use Rattle.tap_table.specs.declared.next.Next.{Next}
use Rattle.tap_table.specs.declared.next.Next.TheVariants.{Root, Hop}
use Rattle.tap_table.specs.Next.{next_from}
use Rattle.tap_pointer.specs.Pair.{Object}
use Rattle.tap_pointer.specs.declared.lay.Lay.{Lay}
use Rattle.tap_pointer.specs.declared.pair.Pair.{Pair}
use Rattle.tap_pointer.specs.Pointers.{lay_applied, pointer_at, published, server_for, withdrawn}
use Rattle.tap_pointer.specs.Reconcile.{reconcile_lays, reconciled}
use Rattle.tap_wire.specs.declared.frame.Body.TheVariants.{Find, Answer}
use Rattle.tap_rule.specs.Node.{NodeState, name_of}
use Rattle.tap_rule.specs.Event.{Ticket}
use Rattle.tap_rule.specs.Event.News.{Answered}
use Rattle.tap_rule.specs.Reaction.{Reaction, message, sends, stays, with_news}

-- a core node publishes an object, and withdraws it
abbrev pub starts_publish : NodeState → Object → Reaction
starts_publish node object = stays (record node { pointers = published node.pointers object })

abbrev pub starts_withdraw : NodeState → Object → Reaction
starts_withdraw node object = stays (record node { pointers = withdrawn node.pointers object })

-- Lay, at a core or leaving node: the register of the pair and the sender takes it
abbrev pub takes_lay : NodeState → Name → Pair → Level → Version → Bool → Reaction
takes_lay node from pair level version on =
    stays (record node { pointers = lay_applied node.pointers pair from version (pointer_at level on) })

-- where a message to an object goes next that has come to this level
abbrev pub next_hop : NodeState → Object → Level → Next
next_hop node object level = next_from node.ties.table level (drop level object)

-- the lookup of a ticket is answered
abbrev pub takes_answer : NodeState → Ticket → Option Name → Reaction
takes_answer node ticket server = with_news (Answered ticket server) (stays node)

-- A lookup at its asker: with a server it is answered at once. Without one it goes on, and at the root it is answered with
-- none.
abbrev pub starts_find_on : NodeState → Ticket → Object → Next → Reaction
starts_find_on node ticket object Root = takes_answer node ticket None
starts_find_on node ticket object (Hop to level) = sends node (message to (Find ticket object (name_of node) level) ∷ [])

abbrev pub starts_find_with : NodeState → Ticket → Object → Option Name → Reaction
starts_find_with node ticket object (Some server) = takes_answer node ticket (Some server)
starts_find_with node ticket object None = starts_find_on node ticket object (next_hop node object 0)

abbrev pub starts_find : NodeState → Ticket → Object → Reaction
starts_find node ticket object = starts_find_with node ticket object (server_for node.pointers object)

-- Find, at a core or leaving node: with a server the asker is sent an Answer. Without one the Find goes on, and at the root
-- the Answer has none.
abbrev pub takes_find_on : NodeState → Ticket → Object → Name → Next → Reaction
takes_find_on node ticket object asker Root = sends node (message asker (Answer ticket None) ∷ [])
takes_find_on node ticket object asker (Hop to level) = sends node (message to (Find ticket object asker level) ∷ [])

abbrev pub takes_find_with : NodeState → Ticket → Object → Name → Level → Option Name → Reaction
takes_find_with node ticket object asker level (Some server) = sends node (message asker (Answer ticket (Some server)) ∷ [])
takes_find_with node ticket object asker level None = takes_find_on node ticket object asker (next_hop node object level)

abbrev pub takes_find : NodeState → Ticket → Object → Name → Level → Reaction
takes_find node ticket object asker level = takes_find_with node ticket object asker level (server_for node.pointers object)

-- the Lays that reconciling takes, and the node with its pointers reconciled
abbrev pub lays_due : NodeState → List Lay
lays_due node = reconcile_lays node.ties.table node.stamp node.pointers

abbrev pub with_reconciled : NodeState → NodeState
with_reconciled node = record node {
  pointers = reconciled node.ties.table node.pointers;
  stamp = node.stamp + length (lays_due node);
}

-- the end of a step of a node that hasn't ended: its pointers are reconciled
abbrev pub reconciles : Reaction → Reaction
reconciles reaction = record reaction { state = with_reconciled reaction.state; lays = lays_due reaction.state }
