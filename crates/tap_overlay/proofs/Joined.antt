-- A node that has come and has started its join.
use Rattle.std.proofs.Common.{◌≡◌, ℕ, List, Some, Result, Ok, Err, refl, ap, sym, subst, ◌∙◌}
use Rattle.std.specs.Prelude.{◌≢◌, OnErr, OnOk, bytes_eq}
use Rattle.std.specs.List.Sorted.{IsSorted}
use Rattle.std.specs.Map.{keys_of}
use Rattle.tap_name.specs.Order.{name_cmp}
use Rattle.tap_name.specs.Settings.{SettingsValue}
use Rattle.tap_rule.specs.Node.{joiner, name_of, settings_of}
use Rattle.tap_rule.specs.Event.Start.{Join}
use Rattle.tap_node.specs.declared.fault.NodeFault.{NodeFault}
use Rattle.tap_node.specs.declared.fault.NodeFault.TheVariants.{NoMemory}
use Rattle.tap_node.specs.declared.turn.Turn.{Turn}
use Rattle.tap_node.specs.Node.{NodeValue, running}
use Rattle.tap_node.specs.Outcome.{AnswersAs, start_outcome, turn_made}
use Rattle.indexmap.specs.IndexMap.{IndexMap, Updates}
use Rattle.tap_overlay.specs.Overlay.{AreNodesOf, ChangesOnly, HasNameAndSettings}
use Rattle.tap_overlay.specs.Step.{HasJoined, joined}
use Rattle.tap_overlay.proofs.Nodes.{changes_only, own_names}

-- want of memory is the one refusal of a join
module _ (p : SettingsValue) (name via : List ℕ) (node is : NodeValue) (given : Result Turn NodeFault)
    (new : node ≡ running (joiner p name)) (answers : AnswersAs (start_outcome node (Join via)) node given is) where
  no_other : (fault : NodeFault) → fault ≢ NoMemory → given ≡ Err fault → ⊥
  no_other fault other refused =
      let served : given ≢ Err NoMemory = λ short. let same : Err fault ≡ Err NoMemory = sym refused ∙ short in other (cc) in
      let never : Err fault ≡ Ok (turn_made (joiner p name) (joined p name via)) =
      sym refused ∙ answers.answer served ∙ ap (λ (n : NodeValue). (start_outcome n (Join via)).answer) new in
      cc

  pub only_want : (fault : NodeFault) → given ≡ Err fault → fault ≡ NoMemory
  only_want NoMemory refused = refl
  only_want fault refused = absurd (no_other fault (λ same. cc) refused)

-- answers that are one
one_turn : (given : Result Turn NodeFault) (a b : Turn) → given ≡ Ok a → given ≡ Ok b → a ≡ b
one_turn given a b first second = cc

module _ {S : Type 0} (p : SettingsValue) (name via : List ℕ) (before after : IndexMap (List ℕ) NodeValue S) (node is : NodeValue)
    (given : Result Turn NodeFault) (turn : Turn) (new : node ≡ running (joiner p name))
    (answers : AnswersAs (start_outcome node (Join via)) node given is) (given_is : given ≡ Ok turn) where
  -- memory wasn't refused
  served : given ≢ Err NoMemory
  served wrong = let never : Ok turn ≡ Err NoMemory = sym given_is ∙ wrong in absurd (cc)

  turn_is : turn ≡ turn_made (joiner p name) (joined p name via)
  turn_is =
      one_turn given turn (turn_made (joiner p name) (joined p name via)) given_is
      (answers.answer served ∙ ap (λ (n : NodeValue). (start_outcome n (Join via)).answer) new)

  node_is : is ≡ running (joined p name via).state
  node_is = answers.node served ∙ ap (λ (n : NodeValue). (start_outcome n (Join via)).node) new

  -- it is there, its join started
  pub has_joined : Updates bytes_eq before after name (Some is)
      → HasJoined p name via before.entries after.entries turn
  has_joined updates =
      let Of : NodeValue → Type 0 = λ n. ChangesOnly before.entries after.entries name n in
      record { turn_is = turn_is; changes = subst Of node_is (changes_only before after name is updates) }

  named : HasNameAndSettings p name is
  named = record {
    name_is = answers.name ∙ ap (λ (n : NodeValue). name_of n.state) new;
    settings_are = answers.settings ∙ ap (λ (n : NodeValue). settings_of n.state) new;
  }

  -- the nodes still ascend, each under its own name, whether it has come or not
  pub inserted_named : {T E : Type 0} (inserted : Result T E) → OnOk inserted (Updates bytes_eq before after name (Some is))
      → OnOk inserted (IsSorted name_cmp (keys_of before.entries) → IsSorted name_cmp (keys_of after.entries))
      → OnErr inserted (after.entries ≡ before.entries) → AreNodesOf p before.entries → AreNodesOf p after.entries
  inserted_named (Ok old) updates sorted same nodes = record {
    own = own_names p before.entries after.entries name is nodes.own (changes_only before after name is updates) named;
    ascending = sorted nodes.ascending;
  }
  inserted_named (Err refused) updates sorted same nodes =
      let Of : List (List ℕ × NodeValue) → Type 0 = λ l. AreNodesOf p l in subst Of (sym same) nodes
