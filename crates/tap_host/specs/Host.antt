-- What a line does with a node under a carrier, and which lines it brings.
--
-- A line: `host_line`, then `host_step`, then what stands there for its kind. A start and a packet go on with `after_step`.
--
-- Rule: docs/NETWORK.md, "Lines".
use Rattle.std.specs.Prelude.{◌≡◌, ℕ, ◌+◌, ◌||◌, nat_le, not, Bool, true, false, if◌then◌else◌, List, [], ◌++◌, length, Option, None, Some, unwrap_or, Result, Ok, Err, codes}
use Rattle.tap_name.specs.Name.{Name}
use Rattle.tap_name.specs.Names.{has_name}
use Rattle.tap_name.specs.Settings.{SettingsValue}
use Rattle.tap_table.specs.Table.{TableValue, rows}
use Rattle.tap_pointer.specs.Pointers.{PointersValue, held_or_laid_count, pairs_held}
use Rattle.tap_wire.specs.declared.fault.HeadFault.{HeadFault}
use Rattle.tap_wire.specs.declared.frame.Head.{Head}
use Rattle.tap_wire.specs.Reading.{head_of}
use Rattle.tap_rule.specs.Node.{member_at_rest, name_of, settings_of}
use Rattle.tap_node.specs.declared.fault.NodeFault.{NodeFault}
use Rattle.tap_node.specs.declared.fault.NodeFault.TheVariants as fault
use Rattle.tap_node.specs.declared.status.NodeStatus.{NodeStatus}
use Rattle.tap_node.specs.declared.status.NodeStatus.TheVariants.{Joining, Core, Leaving, Gone, Ceased, Ended}
use Rattle.tap_node.specs.declared.turn.Turn.{Turn}
use Rattle.tap_node.specs.Node.{NodeValue, has_room_left, holders_lent, node_status, pointers_lent, running, table_lent}
use Rattle.tap_node.specs.Outcome.{Outcome, start_outcome, take_outcome}
use Rattle.tap_carry.specs.Names.{is_name, is_same}
use Rattle.tap_carry.specs.Outbox.{most_frames}
use Rattle.tap_host_line.specs.declared.line.Line.{Line}
use Rattle.tap_host_line.specs.declared.line.Line.TheVariants.{Members, Packet, Ack, Start, Tick, Status}
use Rattle.tap_host_line.specs.declared.line.Start.{Start as StartLine}
use Rattle.tap_host_line.specs.declared.why.Why.{Why}
use Rattle.tap_host_line.specs.declared.why.Why.TheVariants as why
use Rattle.tap_host_line.specs.Line.{node_line_of_text}
use Rattle.tap_host_line.specs.Texts.{text_of_ack, text_of_begun, text_of_count, text_of_news, text_of_refused, text_of_status}
use Rattle.tap_host.specs.declared.host.Going.{Going}
use Rattle.tap_host.specs.declared.host.Going.TheVariants.{On, Full}
use Rattle.tap_host.specs.Actor.{ActorValue, below_after, has_start, is_new, start_of}
use Rattle.tap_host.specs.Intake.{IntakeValue, has_taken}
use Rattle.tap_host.specs.Mail.{MailSeen, MailValue, empty_mail, mail_acked, mail_seen, posts, text_of_letters}

-- what is kept: the node, its letters, which frames it has taken, and whether it has begun
pub record HostValue : Type 0 where
  pub actor : ActorValue
  pub mail : MailValue
  pub intake : IntakeValue
  pub begun : Bool

-- what a line sees of it
pub record HostSeen : Type 0 where
  pub actor : ActorValue
  pub mail : MailSeen
  pub taken : Name → ℕ → Bool
  pub begun : Bool

abbrev pub host_seen : HostValue → HostSeen
host_seen host = record { actor = host.actor; mail = mail_seen host.mail; taken = has_taken host.intake; begun = host.begun }

abbrev pub host_node : HostSeen → NodeValue
host_node host = host.actor.node

abbrev pub host_settings : HostSeen → SettingsValue
host_settings host = settings_of (host_node host).state

-- a node that has sent and taken nothing
abbrev pub new_host : NodeValue → HostSeen
new_host node = record {
  actor = record { node = node; casts_below = 0 };
  mail = empty_mail;
  taken = λ from seq. false;
  begun = false;
}

-- what a line leaves, the lines that it brings, and whether the next line is taken
pub record Stepped : Type 0 where
  pub host : HostSeen
  pub text : List ℕ
  pub going : Going

abbrev pub host_goes_on : HostSeen → List ℕ → Stepped
host_goes_on host text = record { host = host; text = text; going = On }

-- the line of this number isn't taken, and changes nothing
abbrev pub refused : HostSeen → ℕ → Why → Stepped
refused host number because = host_goes_on host (text_of_refused number because)

-- there is no room for a step
abbrev pub full : HostSeen → ℕ → Stepped
full host number = record { host = host; text = text_of_refused number why.Room; going = Full }

-- ---- a step of the node

-- after this text the news of a step are printed, and then its frames sent
abbrev pub turned : HostSeen → Turn → List ℕ → Stepped
turned host turn front =
    let posted = posts (host_settings host) (host.mail, front ++ text_of_news turn.news) turn.sent in
    host_goes_on (record host { mail = posted.0; begun = true }) posted.1

-- the node has taken a step with this news, and is this now
abbrev pub with_node : HostSeen → NodeValue → Turn → HostSeen
with_node host node turn =
    record host { actor = record { node = node; casts_below = below_after host.actor.casts_below turn.news } }

-- why a packet isn't taken that a node refuses
abbrev pub why_of : NodeFault → Why
why_of (fault.Wire cause) = why.Damaged
why_of (fault.NotMine name) = why.Foreign
why_of fault.Strange = why.Strange
why_of fault.NoMemory = why.Room
why_of fault.Ended = why.Room

-- What comes of a step, of which the node gives this answer and is then this: a refusal leaves all as it was. The frames that are sent need
-- numbers.
abbrev pub after_node_answer : HostSeen → HostSeen → ℕ → List ℕ → NodeValue → Result Turn NodeFault → Stepped
after_node_answer before host number front node (Ok turn) =
    if nat_le (host.mail.sent + length turn.sent) most_frames then turned (with_node host node turn) turn front else full before number
after_node_answer before host number front node (Err cause) = refused before number (why_of cause)

abbrev pub after_step : HostSeen → HostSeen → ℕ → List ℕ → Outcome → Stepped
after_step before host number front outcome = after_node_answer before host number front outcome.node outcome.answer

-- ---- lines

-- the node begins as one of these members
abbrev pub at_members : HostSeen → ℕ → List Name → Stepped
at_members host number names =
    if host.begun then refused host number why.Late
    else if not (has_name names (name_of (host_node host).state)) then refused host number why.Stranger
    else host_goes_on (record host {
      actor = record {
        node = running (member_at_rest (host_settings host) names (name_of (host_node host).state));
        casts_below = 0;
      };
      begun = true;
    }) text_of_begun

-- the node begins a start
abbrev pub at_start : HostSeen → ℕ → StartLine → Stepped
at_start host number begun =
    if not (has_start (node_status (host_node host)) begun) then refused host number why.Status
    else if not (is_new host.actor.casts_below begun) then refused host number why.Number
    else if not (has_room_left (host_node host)) then full host number
    else after_step host host number text_of_begun (start_outcome (host_node host) (start_of begun))

-- the frame of this number is taken
abbrev pub with_frame_taken : HostSeen → Name → ℕ → HostSeen
with_frame_taken host from seq = record host { taken = λ x k. host.taken x k || is_same from seq x k }

-- a packet from the sender of its frame: a frame that was taken is acknowledged again, and another one is taken
abbrev pub at_number : HostSeen → ℕ → Name → ℕ → List ℕ → Stepped
at_number host number from seq frame =
    if host.taken from seq then host_goes_on host (text_of_ack from seq)
    else if not (has_room_left (host_node host)) then full host number
    else after_step host (with_frame_taken host from seq) number (text_of_ack from seq) (take_outcome (host_node host) frame)

-- the number of a frame was entered that hadn't been taken before
abbrev pub IsEntered : HostSeen → HostSeen → Name → ℕ → Type 0
IsEntered before host from seq = (before.taken from seq ≡ false) × (host ≡ with_frame_taken before from seq)

-- a packet by the head of its frame
abbrev pub at_head : HostSeen → ℕ → Name → ℕ → List ℕ → Result Head HeadFault → Stepped
at_head host number from seq frame (Ok head) =
    if is_name head.from from then at_number host number from seq frame else refused host number why.Foreign
at_head host number from seq frame (Err cause) = refused host number why.Damaged

-- how many links and pairs there are, and pairs that are held or laid; a node without a table has none, and no holders
abbrev pub link_count : Option TableValue → ℕ
link_count None = 0
link_count (Some table) = length (rows table)

abbrev pub pair_count : Option PointersValue → ℕ
pair_count None = 0
pair_count (Some pointers) = length (pairs_held pointers)

abbrev pub span_count : Option PointersValue → ℕ
span_count None = 0
span_count (Some pointers) = held_or_laid_count pointers.pairs

-- the word of a status
abbrev pub status_word : NodeStatus → List ℕ
status_word Joining = codes "joining"
status_word Core = codes "core"
status_word Leaving = codes "leaving"
status_word Gone = codes "gone"
status_word Ceased = codes "ceased"
status_word Ended = codes "ended"

-- the status of a node
abbrev pub text_of_host : HostSeen → List ℕ
text_of_host host =
    text_of_status (status_word (node_status (host_node host)))
    ++ text_of_count (codes "links") (link_count (table_lent (host_node host)))
    ++ text_of_count (codes "holders") (unwrap_or (holders_lent (host_node host)) 0)
    ++ text_of_count (codes "pairs") (pair_count (pointers_lent (host_node host)))
    ++ text_of_count (codes "sessions") (length (host_node host).state.sessions.sessions)
    ++ text_of_count (codes "span") (span_count (pointers_lent (host_node host)))
    ++ text_of_count (codes "awaits") (length host.mail.letters)

-- what a line does that is one
abbrev pub step_of_line : HostSeen → ℕ → Line → Stepped
step_of_line host number (Members names) = at_members host number names
step_of_line host number (Packet from seq frame) = at_head host number from seq frame (head_of (host_settings host) frame)
step_of_line host number (Ack from seq) = host_goes_on (record host { mail = mail_acked host.mail from seq }) []
step_of_line host number (Start begun) = at_start host number begun
step_of_line host number Tick = host_goes_on host (text_of_letters host.mail.letters)
step_of_line host number Status = host_goes_on host (text_of_host host)

-- and what one does, by its number, that may be none
abbrev pub host_step : HostSeen → ℕ → Option Line → Stepped
host_step host number None = refused host number why.Line
host_step host number (Some line) = step_of_line host number line

-- the step of a text
abbrev pub host_line : HostSeen → ℕ → List ℕ → Stepped
host_line host number text = host_step host number (node_line_of_text (host_settings host) text)

-- ---- what a call does

-- It adds the text of a step at the end, answers whether the next line is taken, and if it is, leaves what the step leaves.
pub record TakesStep (step : Stepped) (new : HostSeen) (before after : List ℕ) (answer : Going) : Type 0 where
  pub text : after ≡ before ++ step.text
  pub going : answer ≡ step.going
  pub host : step.going ≡ On → new ≡ step.host
