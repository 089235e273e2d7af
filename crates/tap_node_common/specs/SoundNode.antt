-- What each node keeps that takes steps, so that its parts may do what a rule asks, and each frame has a spelling.
--
-- Rule: docs/PROTOCOL.md, "Nodes".
use Rattle.std.specs.Prelude.{◌≡◌, ℕ, ◌≤◌, ◌&&◌, nat_lt, Bool, true, false, [], length, All, IfSome}
use Rattle.tap_name.specs.Name.{IsName}
use Rattle.tap_name.specs.Settings.{SettingsValue}
use Rattle.tap_session.specs.declared.parent.Parent.{Parent}
use Rattle.tap_session.specs.declared.parent.Parent.TheVariants.{Root, Node}
use Rattle.tap_session.specs.Session.{SessionsValue, most_sessions}
use Rattle.tap_table.specs.Table.{rows}
use Rattle.tap_pointer.specs.Pointers.{PointersValue, held_or_laid_count}
use Rattle.tap_pointer.specs.Reconcile.{AreLaid}
use Rattle.tap_rule.specs.KeptNode.{IsNode}
use Rattle.tap_rule.specs.Node.{NodeState, Status, settings_of}
use Rattle.tap_rule.specs.Node.Status.{Joining, Core, Leaving, Gone, Ceased}
use Rattle.tap_rule.specs.Strange.{is_strange, most_links_kept}
use Rattle.tap_wire.specs.declared.frame.Frame.{Frame}
use Rattle.tap_wire.specs.Spelling.{IsFrame, IsLevel}

-- whoever asked is a name, and its session has a number
abbrev pub IsParent : SettingsValue → Parent → Type 0
IsParent p (Root joiner) = IsName p joiner
IsParent p (Node name session) = IsName p name × (1 ≤ session)

abbrev pub HaveParents : SettingsValue → SessionsValue → Type 0
HaveParents p sessions = All (λ s. IsParent p s.parent) sessions.sessions

-- the object and the server of each pair are names
abbrev pub PairsHaveNames : SettingsValue → PointersValue → Type 0
PairsHaveNames p pointers = All (λ e. IsName p e.0.object × IsName p e.0.server) pointers.pairs

-- each pair that is laid on is so to a name, which goes on at a level
abbrev pub AreNamedHops : SettingsValue → PointersValue → Type 0
AreNamedHops p pointers = All (λ e. IfSome e.1.laid (λ hop. IsName p hop.to × IsLevel p hop.level)) pointers.pairs

-- what stays above the sessions of joins that a node opened, above the last number of its stamp, and above the pairs that it holds
-- or has laid, before a step
abbrev pub join_sessions_limit : ℕ
join_sessions_limit = 500000

abbrev pub stamp_limit : ℕ
stamp_limit = 4000000000

abbrev pub pairs_limit : ℕ
pairs_limit = 10000000

-- numbers are left for a step: all these are below their limits, and one more session of casts may be opened
abbrev pub has_numbers_left : NodeState → Bool
has_numbers_left node =
    nat_lt node.sessions.opened join_sessions_limit && nat_lt node.cast_sessions.opened most_sessions && nat_lt node.stamp stamp_limit
    && nat_lt (held_or_laid_count node.pointers.pairs) pairs_limit

-- a node that may know of pairs
abbrev pub knows_pairs : Status → Bool
knows_pairs Joining = false
knows_pairs Core = true
knows_pairs Leaving = true
knows_pairs Gone = false
knows_pairs Ceased = false

-- a node that keeps the rule's order with its pairs laid, and that knows of no more links, pairs and parents than frames can say
pub record IsSoundNode (node : NodeState) : Type 0 where
  pub valid : IsNode node
  -- each pair is laid as wanted
  pub laid : AreLaid node.ties.table node.pointers
  pub pairs : PairsHaveNames (settings_of node) node.pointers
  -- a node that joins or has ended knows of none
  pub alone : knows_pairs node.status ≡ false → node.pointers.pairs ≡ []
  pub few : length (rows node.ties.table) ≤ most_links_kept
  pub parents : HaveParents (settings_of node) node.sessions
  pub cast_parents : HaveParents (settings_of node) node.cast_sessions

-- a node may take a frame: it is sound and has numbers left, and the frame is one, not strange to it
pub record MayTake (node : NodeState) (frame : Frame) : Type 0 where
  pub sound : IsSoundNode node
  pub room : has_numbers_left node ≡ true
  pub is_frame : IsFrame (settings_of node) frame
  pub taken : is_strange node frame ≡ false
