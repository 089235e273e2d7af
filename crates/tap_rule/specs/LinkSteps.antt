-- What the steps of a node change, by look-ups: as proofs about many nodes take them.
use Rattle.std.specs.Prelude.{◌≡◌, ◌⊎◌, ℕ, ◌+◌, ◌-◌, ◌<◌, Bool, true, false, List, [], ◌∷◌, Option, None, Some}
use Rattle.tap_register.specs.Registers.{newest, supersedes}
use Rattle.tap_link.specs.declared.kind.Kind.TheVariants.{Pin, Settled}
use Rattle.tap_link.specs.LinkSet.{is_pinned}
use Rattle.tap_session.specs.declared.parent.Parent.{Parent}
use Rattle.tap_session.specs.declared.parent.Parent.TheVariants.{Root, Node}
use Rattle.tap_session.specs.Session.{Session}
use Rattle.tap_session.specs.Sessions.{answer_to}
use Rattle.tap_table.specs.declared.tie.Tie.{Tie}
use Rattle.tap_table.specs.Table.{has_room_near}
use Rattle.tap_table.specs.Ties.{release_tells}
use Rattle.tap_join.specs.Hello.{words_of}
use Rattle.tap_wire.specs.declared.frame.Frame.{Frame}
use Rattle.tap_wire.specs.declared.frame.Body.TheVariants.{Ack, Done, Release}
use Rattle.tap_rule.specs.Node.{NodeState, link_to, name_of, join_session_at, word_of}
use Rattle.tap_rule.specs.Node.Status.{Joining, Core, Leaving}
use Rattle.tap_rule.specs.Event.{Acted}
use Rattle.tap_rule.specs.Event.News.{Nothing}
use Rattle.tap_rule.specs.Reaction.{message}
use Rattle.tap_rule.specs.Answers.{answer_sends}
use Rattle.tap_rule.specs.Links.{release_word}
use Rattle.tap_rule.specs.Sending.{link_frame, message_frame}
use Rattle.tap_rule.specs.Sent.{AreSent, IsAmong}
use Rattle.tap_rule.specs.Completed.{IsCompleted, RestAlike, SendsAt}

-- it joins as before: its status, its covers, whom it has greeted, and whether its join was given up
pub record JoinsAlike (before after : NodeState) : Type 0 where
  pub status : after.status ≡ before.status
  pub covers : after.covers ≡ before.covers
  pub greeted : after.greeted ≡ before.greeted
  pub abandoned : after.abandoned ≡ before.abandoned

-- all stays but the pointers and the stamp
pub record AllAlike (before after : NodeState) : Type 0 where
  pub joins : JoinsAlike before after
  pub ties : after.ties ≡ before.ties
  pub sessions : after.sessions ≡ before.sessions
  pub rest : RestAlike before after

-- Release, from a node: only the link to it may change, if that is a pin
pub record ReleaseStep (node : NodeState) (from : List ℕ) (acted : Acted) : Type 0 where
  pub joins : JoinsAlike node acted.state
  pub sessions : acted.state.sessions ≡ node.sessions
  pub holders : acted.state.ties.holders ≡ node.ties.holders
  pub others : (name : List ℕ) → (name ≡ from) ⊎ (link_to acted.state name ≡ link_to node name)
  pub unpinned : is_pinned (link_to node from) ≡ false → link_to acted.state from ≡ link_to node from
  pub settles : link_to node from ≡ Some Pin → has_room_near node.ties.table from ≡ true → link_to acted.state from ≡ Some Settled
  pub drops : link_to node from ≡ Some Pin → has_room_near node.ties.table from ≡ false
      → (link_to acted.state from ≡ None)
      × IsAmong (link_frame (name_of node) (record { to = from; version = node.stamp + 1; on = false })) acted.sent
  pub sent : AreSent (name_of node) (words_of (release_word node from)) [] acted.sent
  pub rest : RestAlike node acted.state
  pub completed : IsCompleted node node.pointers (words_of (release_tells node.ties node.stamp from)) [] Nothing acted

-- Forget, from a node: a pin on it is gone, and nothing else changes
pub record ForgetStep (node : NodeState) (from : List ℕ) (acted : Acted) : Type 0 where
  pub joins : JoinsAlike node acted.state
  pub sessions : acted.state.sessions ≡ node.sessions
  pub holders : acted.state.ties.holders ≡ node.ties.holders
  pub others : (name : List ℕ) → (name ≡ from) ⊎ (link_to acted.state name ≡ link_to node name)
  pub unpinned : is_pinned (link_to node from) ≡ false → link_to acted.state from ≡ link_to node from
  pub forgets : link_to node from ≡ Some Pin → link_to acted.state from ≡ None
  pub sent : AreSent (name_of node) [] [] acted.sent
  pub rest : RestAlike node acted.state
  pub completed : IsCompleted node node.pointers [] [] Nothing acted

-- Link, from a holder: only its word may change, and a new word that there is a link is answered by a core or leaving node
pub record LinkStep (node : NodeState) (holder : List ℕ) (version : ℕ) (on : Bool) (acted : Acted) : Type 0 where
  pub joins : JoinsAlike node acted.state
  pub sessions : acted.state.sessions ≡ node.sessions
  pub table : acted.state.ties.table ≡ node.ties.table
  pub others : (name : List ℕ) → (name ≡ holder) ⊎ (word_of acted.state name ≡ word_of node name)
  pub word : word_of acted.state holder ≡ Some (newest (word_of node holder) (record { key = holder; version = version; value = on }))
  pub answers : (node.status ≡ Core) ⊎ (node.status ≡ Leaving) → supersedes version (word_of node holder) ≡ true → on ≡ true
      → IsAmong (message_frame (name_of node) (message holder Release)) acted.sent
  pub silent : (node.status ≡ Joining) ⊎ ((supersedes version (word_of node holder) ≡ false) ⊎ (on ≡ false))
      → AreSent (name_of node) [] [] acted.sent
  pub rest : RestAlike node acted.state
  pub answers_alone : (node.status ≡ Core) ⊎ (node.status ≡ Leaving) → supersedes version (word_of node holder) ≡ true → on ≡ true
      → IsCompleted node node.pointers [] (message holder Release ∷ []) Nothing acted
  pub completed : (node.status ≡ Joining) ⊎ ((supersedes version (word_of node holder) ≡ false) ⊎ (on ≡ false))
      → IsCompleted node node.pointers [] [] Nothing acted

-- the parent of a session is answered: a session of another node by an Ack, and at the root the joiner by its Done
abbrev pub IsParentTold : NodeState → Parent → List Frame → Type 0
IsParentTold node (Root joiner) sent = IsAmong (message_frame (name_of node) (message joiner Done)) sent
IsParentTold node (Node name session) sent = IsAmong (message_frame (name_of node) (message name (Ack session))) sent

-- and these words, this answer and Lays are all that is sent, by a node that hasn't ended
abbrev pub IsParentAnswered : NodeState → List Tie → Parent → Acted → Type 0
IsParentAnswered node words (Root joiner) acted = IsCompleted node node.pointers words (message joiner Done ∷ []) Nothing acted
IsParentAnswered node words (Node name session) acted =
    IsCompleted node node.pointers words (message name (Ack session) ∷ []) Nothing acted

-- an answer to this session leaves others to wait for, or there is no such session
abbrev pub IsNotLast : Option Session → Type 0
IsNotLast None = Unit {0}
IsNotLast (Some s) = 1 < s.waiting

-- Heard or Ack, in a session: only this one may change, and its last answer is passed on
pub record AnswerStep (node : NodeState) (session : ℕ) (acted : Acted) : Type 0 where
  pub joins : JoinsAlike node acted.state
  pub ties : acted.state.ties ≡ node.ties
  pub opened : acted.state.sessions.opened ≡ node.sessions.opened
  pub others : (number : ℕ) → (number ≡ session) ⊎ (join_session_at acted.state number ≡ join_session_at node number)
  pub unknown : join_session_at node session ≡ None → acted.state.sessions ≡ node.sessions
  pub goes_on : (s : Session) → join_session_at node session ≡ Some s → 1 < s.waiting
      → join_session_at acted.state session ≡ Some (record s { waiting = s.waiting - 1 })
  pub closes : (s : Session) → join_session_at node session ≡ Some s → s.waiting ≡ 1
      → (join_session_at acted.state session ≡ None) × IsParentTold node s.parent acted.sent
  pub sent : AreSent (name_of node) [] (answer_sends (answer_to (join_session_at node session))) acted.sent
  pub rest : RestAlike node acted.state
  pub silent : IsNotLast (join_session_at node session) → SendsAt node.status node [] acted
  pub acks : (s : Session) (name : List ℕ) (number : ℕ) → join_session_at node session ≡ Some s → s.waiting ≡ 1
      → s.parent ≡ Node name number → SendsAt node.status node (message name (Ack number) ∷ []) acted
  pub is_done : (s : Session) (joiner : List ℕ) → join_session_at node session ≡ Some s → s.waiting ≡ 1 → s.parent ≡ Root joiner
      → SendsAt node.status node (message joiner Done ∷ []) acted
