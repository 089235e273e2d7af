-- What a node keeps.
--
-- Rule: docs/PROTOCOL.md, "Nodes".
use Rattle.std.specs.Prelude.{ℕ, Bool, false, List, [], Option}
use Rattle.tap_name.specs.Name.{Name}
use Rattle.tap_name.specs.Prefix.{Level}
use Rattle.tap_name.specs.Order.{name_cmp}
use Rattle.tap_name.specs.Settings.{SettingsValue}
use Rattle.tap_register.specs.declared.registers.Entry.{Entry}
use Rattle.tap_register.specs.Registers.{entry_of}
use Rattle.tap_link.specs.declared.kind.Kind.{Kind}
use Rattle.tap_table.specs.Table.{kind_in}
use Rattle.tap_table.specs.Ties.{TiesValue}
use Rattle.tap_table.specs.Members.{ties_at_rest}
use Rattle.tap_session.specs.Session.{Session, SessionNumber, SessionsValue}
use Rattle.tap_session.specs.Sessions.{session_of}
use Rattle.tap_multicast.specs.Covers.{CoversValue}
use Rattle.tap_join.specs.Joining.{started_joining}
use Rattle.tap_pointer.specs.Pointers.{PointersValue, no_pointers}
use Rattle.tap_cast.specs.Casts.{CastNumber, CastsValue}
-- passed on to those who look at a node's parts through its state alone
pub use Rattle.tap_multicast.specs.Covers.{level_kept}
pub use Rattle.tap_join.specs.Hello.{hello_names}
pub use Rattle.tap_cast.specs.Casts.{level_of_cast}

-- what a node is: it joins, takes full part, leaves in order, has left, or has given up its join
pub data Status : Type 0 where
  Joining : Status
  Core : Status
  Leaving : Status
  Gone : Status
  Ceased : Status

-- a node that hasn't ended
abbrev pub IsRunning : Status → Type 0
IsRunning Joining = Unit {0}
IsRunning Core = Unit {0}
IsRunning Leaving = Unit {0}
IsRunning Gone = ⊥
IsRunning Ceased = ⊥

-- The state of a node, whatever its status. A node that has ended keeps its name and its sessions, and the rest is empty.
pub record NodeState : Type 0 where
  pub status : Status
  -- its table, and the register of its holders
  pub ties : TiesValue
  -- the last number that its stamp gave
  pub stamp : ℕ
  -- its sessions of joins
  pub sessions : SessionsValue
  -- the joiners that it covers, each with its level
  pub covers : CoversValue
  -- while it joins: the joiners that it has greeted, and whether its join was given up
  pub greeted : List Name
  pub abandoned : Bool
  -- its publications, its pointer registers, and where it has laid pointers
  pub pointers : PointersValue
  -- while it leaves: the holders whose answer it awaits
  pub awaited : List Name
  -- the casts that it has met, each with its level
  pub casts : CastsValue
  -- its sessions of casts, and the casts of all that were opened, in the order of their numbers
  pub cast_sessions : SessionsValue
  pub cast_numbers : List CastNumber

-- its name, and the settings
abbrev pub name_of : NodeState → Name
name_of node = node.ties.table.owner

abbrev pub settings_of : NodeState → SettingsValue
settings_of node = node.ties.table.settings

-- Look-ups: the kind of its link to a name; the level at which it covers a joiner; the newest word of a holder; and the open
-- session of a number; each if there is one.
abbrev pub link_to : NodeState → Name → Option Kind
link_to node name = kind_in node.ties.table name

abbrev pub level_of : NodeState → Name → Option Level
level_of node joiner = level_kept node.covers joiner

abbrev pub word_of : NodeState → Name → Option (Entry Name Bool)
word_of node holder = entry_of name_cmp node.ties.holders holder

abbrev pub join_session_at : NodeState → SessionNumber → Option Session
join_session_at node number = session_of node.sessions.sessions number

-- no session was opened
abbrev pub no_sessions : SessionsValue
no_sessions = record { sessions = []; opened = 0 }

-- a node of this name that starts to join: it knows nobody
abbrev pub joiner : SettingsValue → Name → NodeState
joiner p name = record {
  status = Joining;
  ties = (started_joining p name).ties;
  stamp = 0;
  sessions = no_sessions;
  covers = [];
  greeted = [];
  abandoned = false;
  pointers = no_pointers name;
  awaited = [];
  casts = [];
  cast_sessions = no_sessions;
  cast_numbers = [];
}

-- a member of this name, one of those with which an overlay begins: a core node with its ties at rest
abbrev pub member_at_rest : SettingsValue → List Name → Name → NodeState
member_at_rest p members name = record (joiner p name) { status = Core; ties = ties_at_rest p name members }

-- a node that has ended, with this status: of what it kept its name and its sessions are left
abbrev pub ended : Status → NodeState → NodeState
ended status node = record (joiner (settings_of node) (name_of node)) { status = status; sessions = node.sessions }
