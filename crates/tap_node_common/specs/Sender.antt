-- Who sends the frames of a step, and these frames as bytes.
--
-- Rule: docs/PROTOCOL.md, "Steps of a node".
use Rattle.std.specs.Prelude.{ℕ, List, map}
use Rattle.tap_name.specs.Name.{IsName}
use Rattle.tap_name.specs.Settings.{SettingsValue}
use Rattle.tap_pointer.specs.declared.lay.Lay.{Lay}
use Rattle.tap_table.specs.declared.tie.Tie.{Tie}
use Rattle.tap_table.specs.Table.{TableValue}
use Rattle.tap_rule.specs.Node.{NodeState, name_of, settings_of}
use Rattle.tap_rule.specs.Reaction.{Message}
use Rattle.tap_rule.specs.Sending.{by_receiver, lay_frame, link_frame, message_frame}
use Rattle.tap_node_common.specs.Spellings.{spelled}
use Rattle.tap_wire.specs.Spelling.{IsLevel}
use Rattle.tap_node_common.specs.declared.sender.Sender.{Sender}

-- the owner of a table, and a node
abbrev pub sender_of : TableValue → Sender
sender_of t = record { settings = t.settings; name = t.owner }

abbrev pub node_sender : NodeState → Sender
node_sender node = record { settings = settings_of node; name = name_of node }

-- the bytes of the Links of these words, ascending by receiver; of these messages; and of these Lays
abbrev pub word_bytes : Sender → List Tie → List (List ℕ)
word_bytes sender words = spelled sender.settings (map (link_frame sender.name) (by_receiver words))

abbrev pub message_bytes : Sender → List Message → List (List ℕ)
message_bytes sender messages = spelled sender.settings (map (message_frame sender.name) messages)

abbrev pub lay_bytes : Sender → List Lay → List (List ℕ)
lay_bytes sender lays = spelled sender.settings (map (lay_frame sender.name) lays)

-- a Lay whose receiver, object and server are names, and whose level is one
pub record IsLayOf (p : SettingsValue) (l : Lay) : Type 0 where
  pub to : IsName p l.to
  pub object : IsName p l.object
  pub server : IsName p l.server
  pub level : IsLevel p l.level
