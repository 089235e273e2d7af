-- A start at a node that takes steps, with the sender and the list of frames of the call.
use Rattle.std.proofs.Common.{◌≡◌, ℕ, false, List, [], Result, sym, ap, subst, ◌∙◌}
use Rattle.std.specs.Prelude.{IfOk}
use Rattle.tap_name.specs.Settings.{SettingsValue}
use Rattle.tap_rule.specs.Node.{name_of, settings_of}
use Rattle.tap_rule.specs.Event.{Start}
use Rattle.tap_node_common.specs.declared.memory.NoMemory.{NoMemory}
use Rattle.tap_node_common.specs.declared.news.News.{News}
use Rattle.tap_node_common.specs.declared.sender.Sender.{Sender}
use Rattle.tap_node_common.specs.Sender.{node_sender}
use Rattle.tap_node_common.specs.SoundNode.{IsSoundNode}
use Rattle.tap_node.specs.declared.fault.NodeFault.{NodeFault}
use Rattle.tap_node.specs.declared.state.State.{State}
use Rattle.tap_node.specs.declared.turn.Turn.{Turn}
use Rattle.tap_node.specs.Node.{NodeValue}
use Rattle.tap_node.specs.Outcome.{AnswersAs, start_outcome}
use Rattle.tap_node.specs.SeenNode.{IsKeptFor, StartsFrom, node_value, state_held}
use Rattle.tap_node.proofs.Answering.{IsTurned}
use Rattle.tap_node.proofs.Calls.{start_answers, start_keeps}
use Rattle.tap_node.proofs.KeptRules.{StartsNamed}

module _ (p : SettingsValue) (name : List ℕ) (before : State) (kept : IsKeptFor p name (node_value p name before)) (node : NodeValue)
    (is : node_value p name before ≡ node) (runs : node.ended ≡ false) where
  steps : (node_value p name before).ended ≡ false
  steps = ap (λ (n : NodeValue). n.ended) is ∙ runs

  module _ (sender : Sender) (sends : sender ≡ node_sender node.state) (begun : Start)
      (named : (sound : IsSoundNode node.state) → StartsNamed node.state sound begun) (none : List (List ℕ)) (empty : none ≡ [])
      (middle after : State) (sent : List (List ℕ)) (news : Result News NoMemory)
      (starts : IfOk news (λ n. StartsFrom sender.settings sender.name before middle begun none sent n))
      (answer : Result Turn NodeFault) (turned : IsTurned middle after sent news answer) where
    settings : sender.settings ≡ p
    settings = ap (λ (s : Sender). s.settings) sends ∙ ap (λ (n : NodeValue). settings_of n.state) (sym is) ∙ kept.settings

    own : sender.name ≡ name
    own = ap (λ (s : Sender). s.name) sends ∙ ap (λ (n : NodeValue). name_of n.state) (sym is) ∙ kept.name

    names : StartsNamed (state_held p name before) (kept.sound steps) begun
    names =
        subst (λ (n : NodeValue). (sound : IsSoundNode n.state) → StartsNamed n.state sound begun) (sym is) named (kept.sound steps)

    begins : IfOk news (λ n. StartsFrom p name before middle begun [] sent n)
    begins = rw (settings, own, empty) at starts

    pub begun_answers : AnswersAs (start_outcome node begun) node answer (node_value p name after)
    begun_answers = rw (← is) (start_answers p name before kept steps middle after sent news answer turned begun names begins)

    pub begun_keeps : IsKeptFor p name (node_value p name after)
    begun_keeps = start_keeps p name before kept steps middle after sent news answer turned begun names begins
