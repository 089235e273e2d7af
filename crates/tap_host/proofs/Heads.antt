-- A packet whose sender stands where a frame has its sender: what the node does with it, whether its head is right or not.
use Rattle.std.proofs.Common.{◌≡◌, ◌∙◌, ℕ, Bool, true, false, cond, List, drop, take, Result, Ok, Err, refl, sym, ap, subst}
use Rattle.std.specs.Prelude.{IfOk}
use Rattle.tap_name.specs.Settings.{SettingsValue}
use Rattle.tap_wire.specs.declared.fault.HeadFault.{HeadFault}
use Rattle.tap_wire.specs.declared.fault.HeadFault.TheVariants.{BadDigit}
use Rattle.tap_wire.specs.declared.fault.WireFault.{WireFault}
use Rattle.tap_wire.specs.declared.frame.Frame.{Frame}
use Rattle.tap_wire.specs.declared.frame.Head.{Head}
use Rattle.tap_wire.specs.Fault.{fault_of_head}
use Rattle.tap_wire.specs.Fields.{◌>>=◌, digits_at}
use Rattle.tap_wire.specs.Layout.{head_len}
use Rattle.tap_wire.specs.Names.{sender_in}
use Rattle.tap_wire.specs.Reading.{frame_of, head_of, in_frame, opening_of}
use Rattle.tap_wire.proofs.Openings.{opening_parts}
use Rattle.tap_wire.proofs.ReadingSteps.{bind_ok, digits_ok}
use Rattle.tap_rule.specs.Node.{settings_of}
use Rattle.tap_node.specs.declared.fault.NodeFault.TheVariants.{Ended, Wire}
use Rattle.tap_node.specs.Node.{NodeValue, has_room_left}
use Rattle.tap_node.specs.Outcome.{at_read, refused_by, take_outcome}
use Rattle.tap_carry.specs.Names.{is_name}
use Rattle.tap_host_line.specs.Texts.{text_of_ack}
use Rattle.tap_host_line.specs.declared.why.Why.TheVariants as why
use Rattle.tap_host.specs.declared.host.Going.{Going}
use Rattle.tap_host.specs.Actor.{ActorValue}
use Rattle.tap_host.specs.Host.{HostSeen, TakesStep, at_head, at_number, host_settings, refused, with_frame_taken}
use Rattle.tap_host.specs.Intake.{IntakeValue, has_taken}
use Rattle.tap_host.specs.Mail.{MailValue}
use Rattle.tap_host.proofs.Steps.{after_fault, number_steps, seen_host, stepped}
use Rattle.tap_host.proofs.Ways.{name-itself}

name_in : (p : SettingsValue) (bytes : List ℕ) (place : ℕ) (name : List ℕ) → digits_at BadDigit p place bytes ≡ Ok name
    → take p.digits (drop place bytes) ≡ name
name_in p bytes place name is = (digits_ok _ (take p.digits (drop place bytes)) name _ is).0

-- the head that is read has the sender in place
sender_of_head : (p : SettingsValue) (bytes : List ℕ) (head : Head) → head_of p bytes ≡ Ok head → sender_in p bytes ≡ head.from
sender_of_head p bytes head is =
    let o = bind_ok (opening_of p bytes) _ head is in
    let sender = name_in p bytes (head_len p) o.0.sender (opening_parts p bytes o.0 o.1).sender in
    cc (sender, o.2)

-- bytes without a right head are no frame
refused_so : {X Y : Type 0} (head : X → Head) (body : X → Result Y WireFault) (opened : Result X HeadFault) (fault : HeadFault)
    → ◌≡◌ {A = Result Head HeadFault} (opened >>= λ x. Ok (head x)) (Err fault) → (in_frame fault_of_head opened >>= body) ≡ Err (fault_of_head fault)
refused_so head body (Ok x) fault is = absurd cc
refused_so head body (Err cause) fault is = let same : cause ≡ fault = cc in ap (λ c. Err (fault_of_head c)) same

frame_refused : (p : SettingsValue) (bytes : List ℕ) (fault : HeadFault) → head_of p bytes ≡ Err fault
    → frame_of p bytes ≡ Err (fault_of_head fault)
frame_refused p bytes fault is = refused_so _ _ (opening_of p bytes) fault is

-- and a node refuses them
read_refused : (node : NodeValue) (read : Result Frame WireFault) (fault : WireFault) → read ≡ Err fault → (at_read node read).answer ≡ Err (Wire fault)
read_refused node read fault is = ap (λ (r : Result Frame WireFault). (at_read node r).answer) is

running_takes : (node : NodeValue) (bytes : List ℕ) → node.ended ≡ false
    → (take_outcome node bytes).answer ≡ (at_read node (frame_of (settings_of node.state) bytes)).answer
running_takes node bytes runs =
    ap (λ (b : Bool). (cond b (refused_by node Ended) (at_read node (frame_of (settings_of node.state) bytes))).answer) runs

headless : (node : NodeValue) (bytes : List ℕ) (fault : HeadFault) → node.ended ≡ false → head_of (settings_of node.state) bytes ≡ Err fault
    → (take_outcome node bytes).answer ≡ Err (Wire (fault_of_head fault))
headless node bytes fault runs is =
    running_takes node bytes runs
    ∙ read_refused node (frame_of (settings_of node.state) bytes) (fault_of_head fault) (frame_refused (settings_of node.state) bytes fault is)

module _ (a : ActorValue) (m : MailValue) (i : IntakeValue) (begun : Bool) (number : ℕ) (from : List ℕ) (seq : ℕ) (frame : List ℕ)
    (taken : has_taken i from seq ≡ false) (room : has_room_left a.node ≡ true) (runs : a.node.ended ≡ false)
    (stands : sender_in (settings_of a.node.state) frame ≡ from) where
  abbrev h : HostSeen
  h = seen_host a m i begun

  by_head : (read : Result Head HeadFault) → head_of (settings_of a.node.state) frame ≡ read
      → at_head h number from seq frame read ≡ stepped a m i begun number from seq frame
  by_head (Ok head) is =
      let sender : head.from ≡ from = sym (sender_of_head (settings_of a.node.state) frame head is) ∙ stands in
      let same : is_name head.from from ≡ true = subst (λ name. is_name name from ≡ true) (sym sender) (name-itself from) in
      ap (λ b. cond b (at_number h number from seq frame) (refused h number why.Foreign)) same
      ∙ number_steps a m i begun number from seq frame taken room
  by_head (Err fault) is =
      sym (after_fault h (with_frame_taken h from seq) number (text_of_ack from seq) (take_outcome a.node frame) (Wire (fault_of_head fault))
      (headless a.node frame fault runs is))

  -- the node takes a step as if the head had been read before
  pub head_steps : at_head h number from seq frame (head_of (settings_of a.node.state) frame) ≡ stepped a m i begun number from seq frame
  head_steps = by_head (head_of (settings_of a.node.state) frame) refl

-- a packet by the head of its frame, to the same node
pub same_head : {E : Type 0} (answer : Result Going E) (here there now : HostSeen) (number : ℕ) (from : List ℕ) (seq : ℕ) (frame before after : List ℕ)
    → here ≡ there → IfOk answer (TakesStep (at_head here number from seq frame (head_of (host_settings here) frame)) now before after)
    → IfOk answer (TakesStep (at_head there number from seq frame (head_of (host_settings there) frame)) now before after)
same_head answer here there now number from seq frame before after same given =
    subst (λ (h : HostSeen). IfOk answer (TakesStep (at_head h number from seq frame (head_of (host_settings h) frame)) now before after)) same given
