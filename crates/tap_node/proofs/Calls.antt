-- A frame and a start at a node: what the call answers, and that the node stays sound.
use Rattle.std.proofs.Common.{◌≡◌, ℕ, ◌||◌, true, false, if◌then◌else◌, List, [], Result, Err, IsTrue, refl, sym, ap, subst, ◌∙◌}
use Rattle.std.specs.Prelude.{IfOk}
use Rattle.std.proofs.lemmas.Result.{IfOk-weaker}
use Rattle.tap_name.specs.Settings.{SettingsValue}
use Rattle.tap_wire.specs.declared.frame.Frame.{Frame}
use Rattle.tap_wire.specs.Spelling.{IsFrame}
use Rattle.tap_rule.specs.Node.{NodeState, settings_of}
use Rattle.tap_rule.specs.Event.{Acted, Start}
use Rattle.tap_rule.specs.Event.Event.{Starts, Takes}
use Rattle.tap_rule.specs.Strange.{is_own_name, is_strange}
use Rattle.tap_rule.specs.Act.{act}
use Rattle.tap_rule.specs.KeptNode.{KeepsNode}
use Rattle.tap_rule.proofs.KeptNode.{kept_law, start_kept_law}
use Rattle.tap_node_common.specs.declared.memory.NoMemory.{NoMemory}
use Rattle.tap_node_common.specs.declared.news.News.{News}
use Rattle.tap_node_common.specs.SoundNode.{IsSoundNode, MayTake, has_numbers_left}
use Rattle.tap_node.specs.declared.fault.NodeFault.{NodeFault}
use Rattle.tap_node.specs.declared.fault.NodeFault.TheVariants as fault
use Rattle.tap_node.specs.declared.state.State.{State}
use Rattle.tap_node.specs.declared.turn.Turn.{Turn}
use Rattle.tap_node.specs.Node.{NodeValue, has_room_left}
use Rattle.tap_node.specs.Outcome.{AnswersAs, acted_as, at_frame, refused_by, start_outcome}
use Rattle.tap_node.specs.SeenNode.{FollowsFrom, IsHeldBy, IsKeptFor, StartsFrom, node_value, state_held}
use Rattle.tap_node.proofs.Answering.{HasActed, IsTurned, refuses_as, step_answers, step_keeps}
use Rattle.tap_node.proofs.Followed.{followed_frame, followed_start}
use Rattle.tap_node.proofs.KeptRules.{StartsNamed}
use Rattle.tap_node.proofs.KeptSteps.{is_start, sound_frame, sound_start}

-- a node that takes no steps refuses each start
pub start_refused : (node : NodeValue) (begun : Start) → node.ended ≡ true
    → AnswersAs (start_outcome node begun) node (Err fault.Ended) node
start_refused node begun ended = refuses_as (start_outcome node begun) node fault.Ended (λ wrong. cc) (rw ended refl)

-- a frame for another node is refused, and so is one that is strange
pub other_refused : (node : NodeValue) (frame : Frame) → is_own_name node.state frame.to ≡ false
    → AnswersAs (at_frame node frame) node (Err (fault.NotMine frame.to)) node
other_refused node frame other =
    refuses_as (at_frame node frame) node (fault.NotMine frame.to) (λ wrong. cc) (rw other refl)

pub strange_refused : (node : NodeValue) (frame : Frame) → is_own_name node.state frame.to ≡ true → is_strange node.state frame ≡ true
    → AnswersAs (at_frame node frame) node (Err fault.Strange) node
strange_refused node frame own strange =
    refuses_as (at_frame node frame) node fault.Strange (λ wrong. cc) (rw (own, strange) refl)

-- a frame that is read, and isn't strange to the node, may be taken
pub may_take : (p : SettingsValue) (name : List ℕ) (state : State) → IsKeptFor p name (node_value p name state) → (node : NodeValue)
    → node_value p name state ≡ node → (frame : Frame) → node.ended ≡ false → IsTrue (has_room_left node)
    → IsFrame (settings_of node.state) frame → is_strange node.state frame ≡ false → MayTake (state_held p name state) frame
may_take p name state kept node is frame runs room is_frame usual =
    let steps : (node_value p name state).ended ≡ false = ap (λ (n : NodeValue). n.ended) is ∙ runs in
    let left : (node.ended || has_numbers_left node.state) ≡ true = room in
    let numbers : has_numbers_left node.state ≡ true = rw runs at left in
    record {
      sound = kept.sound steps;
      room = ap (λ (n : NodeValue). has_numbers_left n.state) is ∙ numbers;
      is_frame = subst (λ (n : NodeValue). IsFrame (settings_of n.state) frame) (sym is) is_frame;
      taken = ap (λ (n : NodeValue). is_strange n.state frame) is ∙ usual;
    }

module _ (p : SettingsValue) (name : List ℕ) (before : State) (kept : IsKeptFor p name (node_value p name before))
    (runs : (node_value p name before).ended ≡ false) where
  abbrev node : NodeState
  node = state_held p name before

  -- it may take steps
  pub held : IsHeldBy p name before
  held = record { runs = runs; is_name = kept.is_name; name = kept.name; settings = kept.settings }

  pub sound : IsSoundNode node
  sound = kept.sound runs

  module _ (middle after : State) (sent : List (List ℕ)) (news : Result News NoMemory) (answer : Result Turn NodeFault)
      (turned : IsTurned middle after sent news answer) where
    module _ (begun : Start) (named : StartsNamed node sound begun)
        (starts : IfOk news (λ n. StartsFrom p name before middle begun [] sent n)) where
      abbrev acted_start : Acted
      acted_start = act node (Starts begun)

      kept_start : KeepsNode node acted_start.state
      kept_start = start_kept_law node begun sound.valid (is_start node sound begun named)

      has_started : IfOk news (λ n. HasActed p name before middle acted_start sent n)
      has_started =
          IfOk-weaker news (λ n. StartsFrom p name before middle begun [] sent n) (λ n. HasActed p name before middle acted_start sent n)
          (λ n steps. record { runs = steps.runs; acted = followed_start node (state_held p name middle) sent n begun steps.follows })
          starts

      pub start_answers : AnswersAs (start_outcome (node_value p name before) begun) (node_value p name before) answer
          (node_value p name after)
      start_answers =
          subst (λ e. AnswersAs (if e then refused_by (node_value p name before) fault.Ended else acted_as node acted_start)
          (node_value p name before) answer (node_value p name after)) (sym runs)
          (step_answers p name before held acted_start kept_start middle after sent news answer has_started turned)

      pub start_keeps : IsKeptFor p name (node_value p name after)
      start_keeps =
          step_keeps p name before held acted_start kept_start middle after sent news answer (sound_start node sound begun named)
          has_started turned

    module _ (frame : Frame) (is_frame : IsFrame (settings_of node) frame) (own : is_own_name node frame.to ≡ true)
        (usual : is_strange node frame ≡ false)
        (follows : IfOk news (λ n. FollowsFrom p name before middle frame.from frame.body [] sent n)) where
      abbrev acted_frame : Acted
      acted_frame = act node (Takes frame)

      kept_frame : KeepsNode node acted_frame.state
      kept_frame = kept_law node frame sound.valid is_frame

      has_taken : IfOk news (λ n. HasActed p name before middle acted_frame sent n)
      has_taken =
          IfOk-weaker news (λ n. FollowsFrom p name before middle frame.from frame.body [] sent n)
          (λ n. HasActed p name before middle acted_frame sent n)
          (λ n steps. record { runs = steps.runs; acted = followed_frame node (state_held p name middle) sent n frame usual steps.follows })
          follows

      pub frame_answers : AnswersAs (at_frame (node_value p name before) frame) (node_value p name before) answer (node_value p name after)
      frame_answers =
          let taken = step_answers p name before held acted_frame kept_frame middle after sent news answer has_taken turned in
          rw (own, usual) taken

      pub frame_keeps : IsKeptFor p name (node_value p name after)
      frame_keeps =
          step_keeps p name before held acted_frame kept_frame middle after sent news answer
          (sound_frame node sound frame is_frame usual) has_taken turned
