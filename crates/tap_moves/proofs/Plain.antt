-- Frames that leave a node what it is, with its links and covers.
-- Cited above: plain_alike
use Rattle.std.proofs.Common.{◌≡◌, ℕ, Bool, List, [], ◌∷◌, Option, None, Some, false, ap, refl, sym, subst, ◌∙◌}
use Rattle.tap_session.specs.Session.{SessionsValue}
use Rattle.tap_multicast.specs.Covers.{level_kept}
use Rattle.tap_table.specs.declared.tie.Tie.{Tie}
use Rattle.tap_table.specs.Table.{TableValue, kind_in}
use Rattle.tap_table.specs.Ties.{TiesValue}
use Rattle.tap_join.specs.Seek.{sought}
use Rattle.tap_join.specs.declared.sought.Sought.TheVariants.{Forward}
use Rattle.tap_wire.specs.declared.frame.Body.{Body}
use Rattle.tap_wire.specs.declared.frame.Body.TheVariants.{Ack, Heard, Link, Seek}
use Rattle.tap_rule.specs.Act.{act}
use Rattle.tap_rule.specs.Event.{Start}
use Rattle.tap_rule.specs.Event.Event.{Starts}
use Rattle.tap_rule.specs.Event.Start.{Abandon, Join}
use Rattle.tap_rule.specs.FrameRules.{frame_at_ceased, frame_at_core, frame_at_joining, frame_at_leaving, rule_of_frame}
use Rattle.tap_rule.specs.RuleLaws.{frame_to}
use Rattle.tap_rule.specs.Node.{NodeState, Status, joiner, name_of}
use Rattle.tap_rule.specs.Node.Status.{Ceased, Core, Gone, Joining, Leaving}
use Rattle.tap_rule.specs.QuietSteps.{IsQuiet}
use Rattle.tap_rule.specs.Reaction.{Message, Reaction, message}
use Rattle.tap_rule.specs.Sent.{AreSent}
use Rattle.tap_rule.specs.StartRules.{rule_of_start}
use Rattle.tap_rule.specs.Strange.{is_strange}
use Rattle.tap_rule.proofs.CarriedOut.{frame_law, start_law, unruled_law}
use Rattle.tap_rule.proofs.EndSteps.{unlinked}
use Rattle.tap_rule.proofs.QuietSteps.{quiet_law, quiet_start_law}
use Rattle.tap_rule.proofs.StartSteps.{give_up_law, seek_start_law}
use Rattle.tap_name.specs.declared.slot.Slot.{Slot}
use Rattle.tap_wire.specs.declared.frame.TellFields.{TellFields}
use Rattle.tap_safety.specs.Frames.{HelloFields, hello_body, tell_body}
use Rattle.tap_safety.specs.FrameSteps.{StartsPlainly, TakesFrame}
use Rattle.tap_safety.specs.System.{System}
use Rattle.tap_moves.specs.ByRule.{StartsByRule, StartsNone, TakesByRule, taken_at}
use Rattle.tap_moves.specs.FrameLaws.{GivingUpIsMade, IsPlain, JoinIsMade, PlainIsMade, QuietStartIsMade, messages_by, words_by}

-- the node is what it was, with its covers and its table, and has opened no session
pub record IsAlike (before after : NodeState) : Type 0 where
  pub status : after.status ≡ before.status
  pub covers : after.covers ≡ before.covers
  pub table : after.ties.table ≡ before.ties.table
  pub opened : after.sessions.opened ≡ before.sessions.opened

-- a rule, if there is one, leaves it so
abbrev pub LeavesAlike : NodeState → Option Reaction → Type 0
LeavesAlike node None = Unit {0}
LeavesAlike node (Some reaction) = IsAlike node reaction.state

-- so does the step
pub alike_by : (node : NodeState) (from : List ℕ) (body : Body) → is_strange node (frame_to node from body) ≡ false
    → LeavesAlike node (rule_of_frame node.status node from body) → IsAlike node (taken_at node from body).state
alike_by node from body known leaves = step (rule_of_frame node.status node from body) refl leaves
  where
    step : (rule : Option Reaction) → rule_of_frame node.status node from body ≡ rule → LeavesAlike node rule
        → IsAlike node (taken_at node from body).state
    step None is alike =
        let ignored = unruled_law node (frame_to node from body) is in
        record {
          status = ap (λ (n : NodeState). n.status) ignored.state;
          covers = ap (λ (n : NodeState). n.covers) ignored.state;
          table = ap (λ (n : NodeState). n.ties.table) ignored.state;
          opened = ap (λ (n : NodeState). n.sessions.opened) ignored.state;
        }
    step (Some reaction) is alike =
        let carried = frame_law node (frame_to node from body) reaction known is in
        record {
          status = carried.status ∙ alike.status;
          covers = carried.covers ∙ alike.covers;
          table = ap (λ (t : TiesValue). t.table) carried.ties ∙ alike.table;
          opened = ap (λ (s : SessionsValue). s.opened) carried.sessions ∙ alike.opened;
        }

answer_rule : (status : Status) (node : NodeState) (from : List ℕ) (session : ℕ)
    → LeavesAlike node (rule_of_frame status node from (Heard session)) × LeavesAlike node (rule_of_frame status node from (Ack session))
unfolding frame_at_joining frame_at_core frame_at_leaving frame_at_ceased
answer_rule Joining node from session = (
  record { status = refl; covers = refl; table = refl; opened = refl },
  record { status = refl; covers = refl; table = refl; opened = refl },
)
answer_rule Core node from session = (
  record { status = refl; covers = refl; table = refl; opened = refl },
  record { status = refl; covers = refl; table = refl; opened = refl },
)
answer_rule Leaving node from session = (tt, tt)
answer_rule Gone node from session = (tt, tt)
answer_rule Ceased node from session = (
  record { status = refl; covers = refl; table = refl; opened = refl },
  record { status = refl; covers = refl; table = refl; opened = refl },
)

link_rule : (status : Status) (node : NodeState) (from : List ℕ) (version : ℕ) (on : Bool)
    → LeavesAlike node (rule_of_frame status node from (Link version on))
unfolding frame_at_joining frame_at_core frame_at_leaving frame_at_ceased
link_rule Joining node from version on = record { status = refl; covers = refl; table = refl; opened = refl }
link_rule Core node from version on = record { status = refl; covers = refl; table = refl; opened = refl }
link_rule Leaving node from version on = record { status = refl; covers = refl; table = refl; opened = refl }
link_rule Gone node from version on = tt
link_rule Ceased node from version on = record { status = refl; covers = refl; table = refl; opened = refl }

seek_rule : (status : Status) (node : NodeState) (from joiner next : List ℕ) → sought node.ties.table joiner ≡ Forward next
    → LeavesAlike node (rule_of_frame status node from (Seek joiner))
unfolding frame_at_joining frame_at_core frame_at_leaving frame_at_ceased
seek_rule Joining node from joiner next is = tt
seek_rule Core node from joiner next is = rw is (record { status = refl; covers = refl; table = refl; opened = refl })
seek_rule Leaving node from joiner next is = tt
seek_rule Gone node from joiner next is = tt
seek_rule Ceased node from joiner next is = tt

quiet_alike : (node : NodeState) (from : List ℕ) (body : Body) → IsQuiet body → IsAlike node (taken_at node from body).state
quiet_alike node from body quiet =
    let step = quiet_law node (frame_to node from body) quiet in
    record {
      status = step.status;
      covers = step.covers;
      table = ap (λ (t : TiesValue). t.table) step.ties;
      opened = ap (λ (s : SessionsValue). s.opened) step.sessions;
    }

-- a step that leaves the node's status and covers
abbrev pub takes_frame : (s s' : System) (number : ℕ) (node : NodeState) (from : List ℕ) (body : Body)
    → TakesByRule s s' number node from body → StartsNone s s' → (taken_at node from body).state.status ≡ node.status
    → (taken_at node from body).state.covers ≡ node.covers → (words : List Tie) (messages : List Message)
    → AreSent (name_of node) words messages (taken_at node from body).sent
    → TakesFrame s s' number (frame_to node from body)
takes_frame s s' number node from body taken surrogates status covers words messages are = record {
  before = node;
  after = (taken_at node from body).state;
  words = words;
  messages = messages;
  sent = (taken_at node from body).sent;
  are = are;
  taken = taken.taken;
  at = taken.at;
  stays = record { status = status; covers = λ d. ap (λ c. level_kept c d) covers };
  surrogate = surrogates;
}

-- nothing is sent
nothing_sent : (own : List ℕ) → AreSent own [] [] []
nothing_sent own = record {
  each = λ frame among. absurd among;
  links = λ word among. absurd among;
  named = λ message among. absurd among;
}

-- what is sent is what the rule says, if there is one
pub rule_sends : (node : NodeState) (from : List ℕ) (body : Body) → is_strange node (frame_to node from body) ≡ false
    → AreSent (name_of node) (words_by (rule_of_frame node.status node from body)) (messages_by (rule_of_frame node.status node from body))
    (taken_at node from body).sent
rule_sends node from body known = step (rule_of_frame node.status node from body) refl
  where
    step : (rule : Option Reaction) → rule_of_frame node.status node from body ≡ rule
        → AreSent (name_of node) (words_by rule) (messages_by rule) (taken_at node from body).sent
    step None is =
        let ignored = unruled_law node (frame_to node from body) is in
        subst (AreSent (name_of node) [] []) (sym ignored.sent) (nothing_sent (name_of node))
    step (Some reaction) is = (frame_law node (frame_to node from body) reaction known is).sent

-- a start of which no rule speaks sends nothing
start_ignored : (node : NodeState) (start : Start) → rule_of_start node.status node start ≡ None → (act node (Starts start)).sent ≡ []
unfolding act
start_ignored node start none = rw none refl

start_sends : (node : NodeState) (start : Start) → AreSent (name_of node) (words_by (rule_of_start node.status node start))
    (messages_by (rule_of_start node.status node start)) (act node (Starts start)).sent
start_sends node start = step (rule_of_start node.status node start) refl
  where
    step : (rule : Option Reaction) → rule_of_start node.status node start ≡ rule
        → AreSent (name_of node) (words_by rule) (messages_by rule) (act node (Starts start)).sent
    step None is = subst (AreSent (name_of node) [] []) (sym (start_ignored node start is)) (nothing_sent (name_of node))
    step (Some reaction) is = (start_law node start reaction is).sent

pub plain_alike : (node : NodeState) (from : List ℕ) (body : Body) → is_strange node (frame_to node from body) ≡ false → IsPlain node body
    → IsAlike node (taken_at node from body).state
plain_alike node from (Heard session) known plain =
    alike_by node from (Heard session) known (answer_rule node.status node from session).0
plain_alike node from (Ack session) known plain = alike_by node from (Ack session) known (answer_rule node.status node from session).1
plain_alike node from (Link version on) known plain =
    alike_by node from (Link version on) known (link_rule node.status node from version on)
plain_alike node from (Seek joiner) known plain =
    alike_by node from (Seek joiner) known (seek_rule node.status node from joiner plain.0 plain.1)
plain_alike node from body known plain = quiet_alike node from body plain

no_tell : (node : NodeState) (body : Body) → IsPlain node body → (tell : TellFields) (watch : List Slot) → body ≡ tell_body tell watch → ⊥
no_tell node body plain tell watch is = let never : IsPlain node (tell_body tell watch) = rw is at plain in never

no_hello : (node : NodeState) (body : Body) → IsPlain node body → (hello : HelloFields) → body ≡ hello_body hello → ⊥
no_hello node body plain hello is = let never : IsPlain node (hello_body hello) = rw is at plain in never

pub plain_is_made : PlainIsMade
plain_is_made s s' number node from body taken surrogates plain =
    let alike = plain_alike node from body taken.known plain in
    let rule = rule_of_frame node.status node from body in (
      record {
        step =
            takes_frame s s' number node from body taken surrogates alike.status alike.covers (words_by rule) (messages_by rule)
            (rule_sends node from body taken.known);
        links = λ t. ap (λ (table : TableValue). kind_in table t) alike.table;
        no_tell = no_tell node body plain;
        no_hello = no_hello node body plain;
      },
      refl,
    )

-- ---- starts

abbrev starts_plainly : (s s' : System) (node : NodeState) (start : Start) → StartsByRule s s' node start → StartsNone s s'
    → IsAlike node (act node (Starts start)).state → (words : List Tie) (messages : List Message)
    → AreSent (name_of node) words messages (act node (Starts start)).sent → StartsPlainly s s' (name_of node)
starts_plainly s s' node start starts surrogates alike words messages are = record {
  before = node;
  after = (act node (Starts start)).state;
  words = words;
  messages = messages;
  sent = (act node (Starts start)).sent;
  are = are;
  has_sent = starts.has_sent;
  at = starts.at;
  stays = record { status = alike.status; covers = λ d. ap (λ c. level_kept c d) alike.covers };
  links = λ t. ap (λ (table : TableValue). kind_in table t) alike.table;
  surrogate = surrogates;
}

pub quiet_start_is_made : QuietStartIsMade
quiet_start_is_made s s' node start starts surrogates quiet =
    let step = quiet_start_law node start quiet in
    let rule = rule_of_start node.status node start in
    let alike : IsAlike node (act node (Starts start)).state = record {
      status = step.status;
      covers = step.covers;
      table = ap (λ (t : TiesValue). t.table) step.ties;
      opened = ap (λ (o : SessionsValue). o.opened) step.sessions;
    } in
    (starts_plainly s s' node start starts surrogates alike (words_by rule) (messages_by rule) (start_sends node start), refl)

pub giving_up_is_made : GivingUpIsMade
giving_up_is_made s s' node starts surrogates at =
    let step = give_up_law node at in
    let alike : IsAlike node (act node (Starts Abandon)).state = record {
      status = step.status;
      covers = step.covers;
      table = ap (λ (t : TiesValue). t.table) step.ties;
      opened = ap (λ (o : SessionsValue). o.opened) step.sessions;
    } in
    (starts_plainly s s' node Abandon starts surrogates alike [] [] step.sent, refl)

pub join_is_made : JoinIsMade
join_is_made p s s' x via begins surrogates =
    let step = seek_start_law (joiner p x) via refl in
    record {
      fresh = begins.fresh;
      unstarted = begins.unstarted;
      after = (act (joiner p x) (Starts (Join via))).state;
      words = [];
      messages = message via (Seek x) ∷ [];
      are = step.sent;
      sent = (act (joiner p x) (Starts (Join via))).sent;
      has_sent = begins.has_sent;
      is = begins.is;
      others = begins.others;
      joining = step.joins.status;
      links = λ t. ap (λ (ties : TiesValue). kind_in ties.table t) step.ties ∙ unlinked p x t;
      covers = λ d. ap (λ c. level_kept c d) step.joins.covers;
      surrogate = surrogates;
    }
