-- What a call of a node answers and how it leaves the node, from a step or a refusal.
use Rattle.std.proofs.Common.{◌≡◌, ◌≢◌, ℕ, true, false, List, Result, Ok, Err, refl, sym, ap, ◌∙◌}
use Rattle.std.specs.Prelude.{IfOk, OnOk, OnErr}
use Rattle.std.proofs.lemmas.Bool.{true≢false}
use Rattle.tap_name.specs.Name.{IsName}
use Rattle.tap_name.specs.Settings.{SettingsValue}
use Rattle.tap_rule.specs.Node.{NodeState, name_of, settings_of}
use Rattle.tap_rule.specs.Event.{Acted}
use Rattle.tap_rule.specs.KeptNode.{KeepsNode}
use Rattle.tap_node_common.specs.declared.memory.NoMemory.{NoMemory}
use Rattle.tap_node_common.specs.declared.news.News.{News}
use Rattle.tap_node_common.specs.SoundNode.{IsSoundNode}
use Rattle.tap_node.specs.declared.fault.NodeFault.{NodeFault}
use Rattle.tap_node.specs.declared.fault.NodeFault.TheVariants as fault
use Rattle.tap_node.specs.declared.state.State.{State}
use Rattle.tap_node.specs.declared.turn.Turn.{Turn}
use Rattle.tap_node.specs.Node.{NodeValue, running}
use Rattle.tap_node.specs.Outcome.{AnswersAs, Outcome, acted_as, refused_by}
use Rattle.tap_node.specs.SeenNode.{IsEnded, IsHeldBy, IsKeptFor, node_value, state_held}
use Rattle.tap_node.proofs.Followed.{IsActed, turn_with}

-- an answer that refuses for another cause isn't want of memory
other_cause : (cause : NodeFault) → cause ≢ fault.NoMemory → (given : Result Turn NodeFault) → given ≡ Err cause
    → given ≡ Err fault.NoMemory → ⊥
other_cause cause other given is wrong = other cc

-- a refusal for another cause than want of memory
pub refuses_as : (outcome : Outcome) (node : NodeValue) (cause : NodeFault) → cause ≢ fault.NoMemory → outcome ≡ refused_by node cause
    → AnswersAs outcome node (Err cause) node
refuses_as outcome node cause other is =
    record {
      answer = λ _. rw is refl;
      node = λ _. rw is refl;
      runs = λ e. absurd (other_cause cause other (Err cause) refl e);
      ended = λ e. absurd (other_cause cause other (Err cause) refl e);
      name = refl;
      settings = refl;
    }

-- a node that takes steps, of this state
running_is : (node : NodeValue) (state : NodeState) → node.ended ≡ false → node.state ≡ state → node ≡ running state
running_is node state runs is =
    ap (λ e. record node { ended = e }) runs ∙ ap running is

-- a node of this state that takes steps has acted so, with these frames and this news
pub record HasActed (p : SettingsValue) (name : List ℕ) (before after : State) (does : Acted) (sent : List (List ℕ)) (news : News) : Type 0 where
  pub runs : (node_value p name after).ended ≡ false
  pub acted : IsActed (state_held p name before) does (state_held p name after) sent news

-- a node that has ended keeps its name
pub ended_keeps : (p : SettingsValue) (name : List ℕ) → IsName p name → (state : State) → IsEnded state
    → IsKeptFor p name (node_value p name state)
ended_keeps p name is_name state ends =
    rw ends.is (record { is_name = is_name; name = refl; settings = refl; sound = λ no. absurd (true≢false no) })

-- what a call answers of a step: its turn, or that memory was refused, which ends the node
pub record IsTurned (middle after : State) (sent : List (List ℕ)) (news : Result News NoMemory) (answer : Result Turn NodeFault) : Type 0 where
  pub made : IfOk news (λ n. answer ≡ Ok (turn_with sent n))
  pub same : OnOk news (after ≡ middle)
  pub refused : OnErr news (answer ≡ Err fault.NoMemory)
  pub ends : OnErr news (IsEnded after)

module _ (p : SettingsValue) (name : List ℕ) (before : State) (held : IsHeldBy p name before) (acted : Acted)
    (kept : KeepsNode (state_held p name before) acted.state) where
  -- the node of a step that was taken
  after_is : (middle after : State) (sent : List (List ℕ)) (news : News) → after ≡ middle → HasActed p name before middle acted sent news
      → node_value p name after ≡ running acted.state
  after_is middle after sent news is has =
      ap (node_value p name) is ∙ running_is (node_value p name middle) acted.state has.runs has.acted.state

  taken : (after : NodeValue) (answer : Result Turn NodeFault) (turn : Turn) → after ≡ running acted.state → answer ≡ Ok turn
      → Ok turn ≡ (acted_as (state_held p name before) acted).answer
      → AnswersAs (acted_as (state_held p name before) acted) (node_value p name before) answer after
  taken after answer turn is ok made =
      let no : (e : answer ≡ Err fault.NoMemory) → ⊥ = λ e. let wrong : Ok turn ≡ Err fault.NoMemory = sym ok ∙ e in cc in
      record {
        answer = λ _. ok ∙ made;
        node = λ _. is;
        runs = λ e. absurd (no e);
        ended = λ e. absurd (no e);
        name = ap (λ (n : NodeValue). name_of n.state) is ∙ kept.name;
        settings = ap (λ (n : NodeValue). settings_of n.state) is ∙ kept.settings;
      }

  stopped : (after : State) (answer : Result Turn NodeFault) → answer ≡ Err fault.NoMemory → IsEnded after
      → AnswersAs (acted_as (state_held p name before) acted) (node_value p name before) answer (node_value p name after)
  stopped after answer refused ends = record {
    answer = λ other. absurd (other refused);
    node = λ other. absurd (other refused);
    runs = λ _. held.runs;
    ended = λ _. rw ends.is refl;
    name = rw ends.is (sym held.name);
    settings = rw ends.is (sym held.settings);
  }

  -- what a step answers, and what it keeps
  pub step_answers : (middle after : State) (sent : List (List ℕ)) (news : Result News NoMemory) (answer : Result Turn NodeFault)
      → IfOk news (λ n. HasActed p name before middle acted sent n) → IsTurned middle after sent news answer
      → AnswersAs (acted_as (state_held p name before) acted) (node_value p name before) answer (node_value p name after)
  step_answers middle after sent (Ok news) answer has turned =
      taken (node_value p name after) answer (turn_with sent news) (after_is middle after sent news turned.same has) turned.made
      (ap Ok has.acted.turn)
  step_answers middle after sent (Err refused) answer has turned = stopped after answer turned.refused turned.ends

  sound_held : IsSoundNode acted.state → (node : NodeValue) → node ≡ running acted.state → IsKeptFor p name node
  sound_held sound node is = record {
    is_name = held.is_name;
    name = ap (λ (n : NodeValue). name_of n.state) is ∙ kept.name ∙ held.name;
    settings = ap (λ (n : NodeValue). settings_of n.state) is ∙ kept.settings ∙ held.settings;
    sound = λ _. rw is sound;
  }

  pub step_keeps : (middle after : State) (sent : List (List ℕ)) (news : Result News NoMemory) (answer : Result Turn NodeFault)
      → IsSoundNode acted.state → IfOk news (λ n. HasActed p name before middle acted sent n) → IsTurned middle after sent news answer
      → IsKeptFor p name (node_value p name after)
  step_keeps middle after sent (Ok news) answer sound has turned =
      sound_held sound (node_value p name after) (after_is middle after sent news turned.same has)
  step_keeps middle after sent (Err refused) answer sound has turned = ended_keeps p name held.is_name after turned.ends
