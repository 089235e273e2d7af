-- A node that is handed bytes: why it takes no step if they aren't read, and when memory may be wanted for them.
use Rattle.std.proofs.Common.{◌≡◌, ◌≢◌, ℕ, ◌||◌, Bool, true, false, List, Result, Ok, Err, IsOk, IsTrue, refl, sym, ap, subst, ◌∙◌}
use Rattle.std.specs.Prelude.{IsOkAnd}
use Rattle.tap_wire.specs.declared.fault.WireFault.{WireFault}
use Rattle.tap_wire.specs.declared.fault.WireFault.TheVariants as wire
use Rattle.tap_wire.specs.declared.frame.Frame.{Frame}
use Rattle.tap_wire.specs.declared.kind.Kind.TheVariants.{Cast}
use Rattle.tap_wire.specs.Kind.{has_list, kind_of}
use Rattle.tap_wire.specs.Reading.{WantsMemory, frame_of}
use Rattle.tap_rule.specs.Node.{settings_of}
use Rattle.tap_rule.specs.Strange.{is_own_name, is_strange}
use Rattle.tap_node.specs.declared.fault.NodeFault.{NodeFault}
use Rattle.tap_node.specs.declared.fault.NodeFault.TheVariants as fault
use Rattle.tap_node.specs.declared.turn.Turn.{Turn}
use Rattle.tap_node.specs.Node.{NodeValue}
use Rattle.tap_node.specs.Outcome.{AnswersAs, IsFaultOf, MayWant, is_taken, refused_by, take_outcome}

-- a frame that is the node's own and isn't strange is taken
pub taken : (node : NodeValue) (frame : Frame) → is_own_name node.state frame.to ≡ true → is_strange node.state frame ≡ false
    → IsTrue (is_taken node.state frame)
unfolding is_taken
taken node frame own usual = rw (own, usual) refl

module _ (node : NodeValue) (bytes : List ℕ) (runs : node.ended ≡ false) where
  abbrev IsWanted : Frame → Type 0
  IsWanted frame = IsTrue (has_list (kind_of frame.body) || is_taken node.state frame)

  -- it is taken, if it is a Cast
  abbrev IsTakenCast : Frame → Type 0
  IsTakenCast frame = kind_of frame.body ≡ Cast → IsTrue (is_taken node.state frame)

  -- of a frame with a list, and of one that is taken
  of_list : (frame : Frame) → IsTrue (has_list (kind_of frame.body)) → IsWanted frame
  of_list frame list = listed (has_list (kind_of frame.body)) list
    where
      listed : (b : Bool) → IsTrue b → IsTrue (b || is_taken node.state frame)
      listed true list = refl
      listed false list = cc

  of_taken : (frame : Frame) → IsTrue (is_taken node.state frame) → IsWanted frame
  of_taken frame is = either (has_list (kind_of frame.body))
    where
      either : (b : Bool) → IsTrue (b || is_taken node.state frame)
      either true = refl
      either false = is

  pub wants_taken : (frame : Frame) → frame_of (settings_of node.state) bytes ≡ Ok frame → IsTrue (is_taken node.state frame)
      → MayWant node bytes
  wants_taken frame read is =
      record {
        runs = runs;
        read = rw read refl;
        wanted = subst (λ r. IsOkAnd r IsWanted) (sym read) (of_taken frame is);
        letters = subst (λ r. IsOkAnd r IsTakenCast) (sym read) (λ _. is);
      }

  read_wanted : (read : Result Frame WireFault) → WantsMemory read → IsOkAnd read IsWanted
  read_wanted (Ok frame) list = of_list frame list
  read_wanted (Err cause) list = absurd list

  -- what isn't a Cast
  read_other : (read : Result Frame WireFault) → IsOkAnd read (λ frame. kind_of frame.body ≢ Cast) → IsOkAnd read IsTakenCast
  read_other (Ok frame) other = λ cast. absurd (other cast)
  read_other (Err cause) other = absurd other

  read_ok : (read : Result Frame WireFault) → WantsMemory read → IsOk read
  read_ok (Ok frame) list = refl
  read_ok (Err cause) list = absurd list

  pub wants_read : WantsMemory (frame_of (settings_of node.state) bytes)
      → IsOkAnd (frame_of (settings_of node.state) bytes) (λ frame. kind_of frame.body ≢ Cast) → MayWant node bytes
  wants_read list other = record {
    runs = runs;
    read = read_ok (frame_of (settings_of node.state) bytes) list;
    wanted = read_wanted (frame_of (settings_of node.state) bytes) list;
    letters = read_other (frame_of (settings_of node.state) bytes) other;
  }

-- the cause of want of memory, and of each other fault
pub wanting_cause : (cause : WireFault) (found : NodeFault) → IsFaultOf cause found → found ≡ fault.NoMemory → cause ≡ wire.NoMemory
wanting_cause (wire.Short n) found is wants = let wrong : fault.Wire (wire.Short n) ≡ fault.NoMemory = sym (is.other (λ e. cc)) ∙ wants in cc
wanting_cause (wire.BadVersion n) found is wants = let wrong : fault.Wire (wire.BadVersion n) ≡ fault.NoMemory = sym (is.other (λ e. cc)) ∙ wants in cc
wanting_cause (wire.BadKind n) found is wants = let wrong : fault.Wire (wire.BadKind n) ≡ fault.NoMemory = sym (is.other (λ e. cc)) ∙ wants in cc
wanting_cause (wire.BadLength n) found is wants = let wrong : fault.Wire (wire.BadLength n) ≡ fault.NoMemory = sym (is.other (λ e. cc)) ∙ wants in cc
wanting_cause (wire.BadCount n) found is wants = let wrong : fault.Wire (wire.BadCount n) ≡ fault.NoMemory = sym (is.other (λ e. cc)) ∙ wants in cc
wanting_cause (wire.Trailing n) found is wants = let wrong : fault.Wire (wire.Trailing n) ≡ fault.NoMemory = sym (is.other (λ e. cc)) ∙ wants in cc
wanting_cause (wire.BadDigit n) found is wants = let wrong : fault.Wire (wire.BadDigit n) ≡ fault.NoMemory = sym (is.other (λ e. cc)) ∙ wants in cc
wanting_cause (wire.BadBody n) found is wants = let wrong : fault.Wire (wire.BadBody n) ≡ fault.NoMemory = sym (is.other (λ e. cc)) ∙ wants in cc
wanting_cause wire.NoMemory found is wants = refl

-- bytes that aren't read, at a node that takes steps
pub unread : (node : NodeValue) (bytes : List ℕ) (cause : WireFault) (found : NodeFault) (given : Result Turn NodeFault) (after : NodeValue)
    → node.ended ≡ false → IsFaultOf cause found → (cause ≢ wire.NoMemory → frame_of (settings_of node.state) bytes ≡ Err cause)
    → given ≡ Err found → AnswersAs (refused_by node found) node given after → AnswersAs (take_outcome node bytes) node given after
unread node bytes cause found given after runs is read refused answers =
    let other : given ≢ Err fault.NoMemory → take_outcome node bytes ≡ refused_by node found = λ ok.
    let known : cause ≢ wire.NoMemory = λ e. ok (refused ∙ ap Err (is.memory e)) in
    rw (runs, read known, is.other known) refl in
    record {
      answer = λ ok. answers.answer ok ∙ ap (λ o. o.answer) (sym (other ok));
      node = λ ok. answers.node ok ∙ ap (λ o. o.node) (sym (other ok));
      runs = answers.runs;
      ended = answers.ended;
      name = answers.name;
      settings = answers.settings;
    }
