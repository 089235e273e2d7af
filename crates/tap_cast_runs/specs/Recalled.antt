-- What is remembered of watch lists after a move.
use Rattle.std.specs.Prelude.{ℕ, ◌+◌, Bool, true, false, if◌then◌else◌, List, [], ◌∷◌, ◌++◌, Option, None, Some}
use Rattle.std.specs.Option.{is_none}
use Rattle.tap_session.specs.declared.parent.Parent.{Parent}
use Rattle.tap_session.specs.declared.parent.Parent.TheVariants.{Node, Root}
use Rattle.tap_table.specs.Table.{TableValue}
use Rattle.tap_table.specs.Ties.{pinned}
use Rattle.tap_join.specs.Seek.{sought}
use Rattle.tap_join.specs.declared.sought.Sought.{Sought}
use Rattle.tap_join.specs.declared.sought.Sought.TheVariants.{Forward, Surrogate}
use Rattle.tap_wire.specs.declared.frame.Body.{Body}
use Rattle.tap_wire.specs.declared.frame.Body.TheVariants.{Seek, Tell}
use Rattle.tap_wire.specs.declared.frame.Frame.{Frame}
use Rattle.tap_rule.specs.Covering.{Request, first_request, request_of}
use Rattle.tap_rule.specs.Node.{NodeState, Status, level_of, name_of}
use Rattle.tap_rule.specs.Node.Status.{Core}
use Rattle.tap_safety.specs.Move.{Move}
use Rattle.tap_safety.specs.Move.Move.{Begins, Delivers}
use Rattle.tap_safety.specs.Moved.{numbered_frame}
use Rattle.tap_safety.specs.Sessions.{is_place}
use Rattle.tap_safety.specs.System.{System}
use Rattle.tap_cast_runs.specs.SlotAnswers.{WatchMemory, answers_for}

-- ---- which frames have a node cover a joiner

abbrev pub asked_by_seek : NodeState → List ℕ → Sought → Option Request
asked_by_seek node joiner (Forward next) = None
asked_by_seek node joiner (Surrogate prefix) = Some (first_request node joiner prefix)

-- what a core node is asked to cover by a frame: by a Tell, and by a Seek of a joiner whose surrogate it is
abbrev pub asked_at_core : NodeState → List ℕ → Body → Option Request
asked_at_core node from (Seek joiner) = asked_by_seek node joiner (sought node.ties.table joiner)
asked_at_core node from (Tell joiner prefix level session depth watch) =
    Some (request_of from
    (record { joiner = joiner; prefix = prefix; level = level; session = session; depth = depth }) watch)
asked_at_core node from other = None

-- no other node is
abbrev pub asked_at : Status → NodeState → List ℕ → Body → Option Request
asked_at Core node from body = asked_at_core node from body
asked_at other node from body = None

abbrev pub asked : NodeState → List ℕ → Body → Option Request
asked node from body = asked_at node.status node from body

-- ---- a cover

-- the table by which a node covers the joiner, which it has pinned
abbrev pub table_for : NodeState → Request → TableValue
table_for node request = (pinned node.ties request.joiner).table

abbrev pub chain_above : WatchMemory → Parent → List (List ℕ)
chain_above r (Root joiner) = []
chain_above r (Node name session) = r.chain name session

-- the chain that led to the cover of a node
abbrev pub chain_to : WatchMemory → NodeState → Request → List (List ℕ)
chain_to r node request = name_of node ∷ chain_above r request.parent

-- in this place stands this chain
abbrev pub chain_put : (List ℕ → ℕ → List (List ℕ)) → List ℕ → ℕ → List (List ℕ) → List ℕ → ℕ → List (List ℕ)
chain_put chains x k chain y m = if is_place x k y m then chain else chains y m

-- the node covers the joiner first: it answers slots of the watch
abbrev pub recalled_first : WatchMemory → NodeState → Request → Bool → WatchMemory
recalled_first r node request false = r
recalled_first r node request true = record r {
  answers = answers_for (table_for node request) request.joiner request.watch ++ r.answers;
  covers = record {
    joiner = request.joiner;
    prefix = request.prefix;
    table = table_for node request;
    chain = chain_to r node request;
  } ∷ r.covers;
}

-- and, whether or not it is the first, the session that it opens for it has the chain that led to it
abbrev pub recalled_cover : WatchMemory → NodeState → Request → WatchMemory
recalled_cover r node request = record (recalled_first r node request (is_none (level_of node request.joiner))) {
  chain = chain_put r.chain (name_of node) (node.sessions.opened + 1) (chain_to r node request);
}

abbrev pub recalled_asked : WatchMemory → NodeState → Option Request → WatchMemory
recalled_asked r node None = r
recalled_asked r node (Some request) = recalled_cover r node request

-- ---- moves

abbrev pub recalled_at : WatchMemory → Frame → Option NodeState → WatchMemory
recalled_at r frame None = r
recalled_at r frame (Some node) = recalled_asked r node (asked node frame.from frame.body)

abbrev pub watch_recalled_frame : System → WatchMemory → Option Frame → WatchMemory
watch_recalled_frame s r None = r
watch_recalled_frame s r (Some frame) = recalled_at r frame (s.node frame.to)

-- what is remembered after a move
unfoldable pub watch_recalled : System → WatchMemory → Move → WatchMemory
watch_recalled s r (Begins x start) = r
watch_recalled s r (Delivers number) = watch_recalled_frame s r (numbered_frame number s.frames)
