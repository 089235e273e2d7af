-- What the steps change at which a node leaves or ends, and those of its holders: Done after a join was given up, Leave, Left, Gone.
use Rattle.std.specs.Prelude.{◌≡◌, ◌≢◌, ◌⊎◌, ℕ, ◌+◌, true, false, List, [], ◌∷◌, length, Option, None}
use Rattle.tap_link.specs.LinkSet.{is_settled_or_leaving}
use Rattle.tap_table.specs.declared.tie.Tie.{Tie}
use Rattle.tap_table.specs.ByName.{targets_by_name}
use Rattle.tap_table.specs.Ties.{holders_on, off_ties}
use Rattle.tap_depart.specs.Leaving.{names_but}
use Rattle.tap_depart.specs.ToldLeave.{told_leave, told_leave_tells}
use Rattle.tap_join.specs.Hello.{words_of}
use Rattle.tap_pointer.specs.declared.lay.Lay.{Lay}
use Rattle.tap_pointer.specs.Pointers.{no_pointers}
use Rattle.tap_pointer.specs.Reconcile.{clear_lays}
use Rattle.tap_wire.specs.declared.frame.Body.{Body}
use Rattle.tap_wire.specs.declared.frame.Body.TheVariants.{Left, Gone}
use Rattle.tap_rule.specs.Node.{NodeState, Status, link_to, name_of, settings_of}
use Rattle.tap_rule.specs.Node.Status.{Gone as GoneStatus}
use Rattle.tap_rule.specs.Event.{Acted}
use Rattle.tap_rule.specs.Event.News.{Nothing, Gone as GoneNews}
use Rattle.tap_rule.specs.Reaction.{message, to_each}
use Rattle.tap_rule.specs.Leaving.{leave_word}
use Rattle.tap_rule.specs.Sent.{AreSent, AreSentInOrder}
use Rattle.tap_rule.specs.Completed.{CastsAlike, IsCompleted, RestAlike}
use Rattle.tap_rule.specs.LinkSteps.{JoinsAlike}

-- of what a node kept that has ended, its name, the settings and its sessions are left: all else is empty
pub record IsEmptied (before after : NodeState) : Type 0 where
  pub name : name_of after ≡ name_of before
  pub settings : settings_of after ≡ settings_of before
  pub stamp : after.stamp ≡ 0
  pub covers : after.covers ≡ []
  pub greeted : after.greeted ≡ []
  pub abandoned : after.abandoned ≡ false
  pub pointers : after.pointers ≡ no_pointers (name_of before)
  pub awaited : after.awaited ≡ []
  pub casts : after.casts ≡ []
  pub cast_sessions : after.cast_sessions ≡ record { sessions = []; opened = 0 }
  pub cast_numbers : after.cast_numbers ≡ []

-- the words of a node that ends, for each link
abbrev pub words_at_end : NodeState → List Tie
words_at_end node = off_ties node.stamp (targets_by_name node.ties.table)

-- and the Lays that clear its pointers, if it has left in order
abbrev pub lays_at_end : Status → NodeState → List Lay
lays_at_end GoneStatus node = clear_lays (node.stamp + length (words_at_end node)) node.pointers
lays_at_end _ node = []

-- A node ends, with this status: it has no link and no holder any more, says so of each link, and sends each holder this.
pub record EndStep (node : NodeState) (end : Status) (farewell : Body) (acted : Acted) : Type 0 where
  pub status : acted.state.status ≡ end
  pub unlinked : (name : List ℕ) → link_to acted.state name ≡ None
  pub unheld : acted.state.ties.holders ≡ []
  pub sessions : acted.state.sessions ≡ node.sessions
  pub news : acted.news ≡ GoneNews
  pub sent : AreSent (name_of node) (off_ties node.stamp (targets_by_name node.ties.table)) (to_each farewell (holders_on node.ties))
      acted.sent
  pub emptied : IsEmptied node acted.state
  pub in_order : AreSentInOrder (name_of node) (words_at_end node) (to_each farewell (holders_on node.ties)) (lays_at_end end node)
      acted.sent
  pub taken : acted.strange ≡ false

-- Leave, at a core node: its ties are those after the notice, and it answers
pub record LeaveStep (node : NodeState) (from : List ℕ) (replacement : Option (List ℕ)) (acted : Acted) : Type 0 where
  pub joins : JoinsAlike node acted.state
  pub sessions : acted.state.sessions ≡ node.sessions
  pub ties : acted.state.ties ≡ told_leave node.ties from replacement
  pub sent : AreSent (name_of node) (words_of (leave_word node from replacement)) (message from Left ∷ []) acted.sent
  pub rest : RestAlike node acted.state
  pub completed : IsCompleted node node.pointers (words_of (told_leave_tells node.ties node.stamp from replacement))
      (message from Left ∷ []) Nothing acted

-- Left, at a leaving node: the sender is awaited no more; the node stays as it is while it awaits others, and else it ends
pub record LeftStep (node : NodeState) (from : List ℕ) (acted : Acted) : Type 0 where
  pub waits : length (names_but node.awaited from) ≢ 0
      → JoinsAlike node acted.state × (acted.state.ties ≡ node.ties) × (acted.state.sessions ≡ node.sessions)
      × (acted.state.awaited ≡ names_but node.awaited from) × AreSent (name_of node) [] [] acted.sent
      × CastsAlike node acted.state × IsCompleted node node.pointers [] [] Nothing acted
  pub finishes : length (names_but node.awaited from) ≡ 0 → EndStep node GoneStatus Gone acted

-- Gone, at a core node: its link to the sender is taken out, if that isn't a pin, and nothing else changes
pub record GoneStep (node : NodeState) (from : List ℕ) (acted : Acted) : Type 0 where
  pub joins : JoinsAlike node acted.state
  pub sessions : acted.state.sessions ≡ node.sessions
  pub holders : acted.state.ties.holders ≡ node.ties.holders
  pub others : (name : List ℕ) → (name ≡ from) ⊎ (link_to acted.state name ≡ link_to node name)
  pub removed : is_settled_or_leaving (link_to node from) ≡ true → link_to acted.state from ≡ None
  pub kept : is_settled_or_leaving (link_to node from) ≡ false → link_to acted.state from ≡ link_to node from
  pub sent : AreSent (name_of node) [] [] acted.sent
  pub rest : RestAlike node acted.state
  pub completed : IsCompleted node node.pointers [] [] Nothing acted
