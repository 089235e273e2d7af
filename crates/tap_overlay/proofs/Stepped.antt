-- A call at the node of a name: what the node answers, and what becomes of the nodes.
-- Cited above: of_found
use Rattle.std.proofs.Common.{◌≡◌, ℕ, Bool, true, false, List, Option, None, Some, Result, Err, ap, refl, sym, subst, ◌∙◌}
use Rattle.std.specs.Option.{IfSome, is_some, option_copied}
use denote.Ref.{Bor}
use Rattle.std.specs.Prelude.{bytes_eq}
use Rattle.std.specs.List.Sorted.{IsSorted}
use Rattle.std.specs.Map.{lookup, set_value}
use Rattle.indexmap.specs.IndexMap.{IndexMap, WritesThrough}
use Rattle.std.proofs.lemmas.Bool.{true≢false}
use Rattle.std.proofs.lemmas.Map.Steps.{set_value_same}
use Rattle.tap_name.specs.Order.{name_cmp}
use Rattle.tap_name.specs.Settings.{SettingsValue}
use Rattle.tap_node.specs.declared.fault.NodeFault.{NodeFault}
use Rattle.tap_node.specs.declared.turn.Turn.{Turn}
use Rattle.tap_node.specs.Node.{NodeValue, has_room_left}
use Rattle.tap_node.specs.Outcome.{AnswersAs, Outcome}
use Rattle.tap_overlay.specs.declared.fault.OverlayFault.{OverlayFault}
use Rattle.tap_overlay.specs.declared.fault.OverlayFault.TheVariants.{NoNode, NoRoom}
use Rattle.tap_overlay.specs.Overlay.{AreNodesOf, HasNameAndSettings, HaveOwnNames, node_among}
use Rattle.tap_overlay.specs.declared.start.Start.{Start}
use Rattle.tap_overlay.specs.Start.{MayStart}
use Rattle.tap_overlay.specs.Step.{HasStepped, IfRoom, NodeHasAnswered, StepsAt, answer_given}
use Rattle.tap_overlay.proofs.Found.{found_same}
use Rattle.tap_overlay.proofs.Nodes.{changes_only, own_names}

-- without room the node is left as it was
pub without_room : (outcome : Outcome) (node : NodeValue) → has_room_left node ≡ false → IfRoom outcome node node (Err NoRoom)
without_room outcome node full = record {
  full = λ _. record { given_is = refl; same = refl };
  free = λ free. absurd (true≢false (sym free ∙ full));
}

-- with room it answers
pub with_room : (outcome : Outcome) (node is : NodeValue) (answer : Result Turn NodeFault) → has_room_left node ≡ true
    → AnswersAs outcome node answer is → IfRoom outcome node is (answer_given answer)
with_room outcome node is answer free answers = record {
  full = λ full. absurd (true≢false (sym free ∙ full));
  free = λ _. record { answer = answer; given_is = refl; answers = answers };
}

-- without a node of the name nothing changes
pub without_node : {S : Type 0} (outcome : NodeValue → Outcome) (before after : IndexMap (List ℕ) NodeValue S) (name : List ℕ)
    → lookup (bytes_eq name) before.entries ≡ None → after ≡ before
    → StepsAt outcome before.entries after.entries name (Err NoNode)
without_node {S} outcome before after name none same = record {
  absent = λ _. record { given_is = refl; same = ap (λ (m : IndexMap (List ℕ) NodeValue S). m.entries) same };
  there = λ node there. let wrong : None ≡ Some node = sym none ∙ (found_same before.entries name ∙ there) in absurd (cc);
}

-- the node of the name has answered, and has been written back
pub with_node : {S : Type 0} (outcome : NodeValue → Outcome) (before after : IndexMap (List ℕ) NodeValue S) (name : List ℕ)
    (node is : NodeValue) (given : Result Turn OverlayFault) → lookup (bytes_eq name) before.entries ≡ Some node
    → WritesThrough bytes_eq (bytes_eq name) before is after → IfRoom (outcome node) node is given
    → StepsAt outcome before.entries after.entries name given
with_node outcome before after name node is given there written step = record {
  absent = λ none. let wrong : None ≡ Some node = sym none ∙ (sym (found_same before.entries name) ∙ there) in absurd (cc);
  there = λ other found.
      let both : Some node ≡ Some other = sym there ∙ (found_same before.entries name ∙ found) in
      let same : node ≡ other = cc in
      let test : List ℕ → Bool = bytes_eq name in
      let Of : NodeValue → Type 0 = λ n. HasStepped (outcome n) before.entries after.entries name n given in
      subst Of same (record {
        is = is;
        step = step;
        changes = changes_only before after name is (written.3 (ap is_some there));
        names = written.1;
        same = λ as_before. written.0 ∙ ap (set_value test before.entries) as_before ∙ set_value_same test before.entries node there;
      });
}

-- a node that has answered has its name and the settings still
stays_named : (p : SettingsValue) (name : List ℕ) (outcome : Outcome) (node is : NodeValue) (given : Result Turn OverlayFault)
    → IfRoom outcome node is given → HasNameAndSettings p name node → HasNameAndSettings p name is
stays_named p name outcome node is given step named = by_room (has_room_left node) refl
  where
    by_room : (room : Bool) → has_room_left node ≡ room → HasNameAndSettings p name is
    by_room false full = let Of : NodeValue → Type 0 = λ n. HasNameAndSettings p name n in subst Of (sym (step.full full).same) named
    by_room true free =
        let answered : NodeHasAnswered outcome node is given = step.free free in
        record {
          name_is = answered.answers.name ∙ named.name_is;
          settings_are = answered.answers.settings ∙ named.settings_are;
        }

-- after a call each node has its own name
own_stays : (p : SettingsValue) (outcome : NodeValue → Outcome) (before after : List (List ℕ × NodeValue)) (name : List ℕ)
    (given : Result Turn OverlayFault) (node : NodeValue) → HaveOwnNames p before → node_among before name ≡ Some node
    → HasStepped (outcome node) before after name node given → HaveOwnNames p after
own_stays p outcome before after name given node own there stepped =
    let named : HasNameAndSettings p name stepped.is =
    stays_named p name (outcome node) node stepped.is given stepped.step (own name node there) in
    own_names p before after name stepped.is own stepped.changes named

-- after a call the nodes still ascend, each under its own name
pub steps_named : (p : SettingsValue) (outcome : NodeValue → Outcome) (before after : List (List ℕ × NodeValue)) (name : List ℕ)
    (given : Result Turn OverlayFault) → AreNodesOf p before → StepsAt outcome before after name given → AreNodesOf p after
steps_named p outcome before after name given nodes steps = by_node (node_among before name) refl
  where
    by_node : (found : Option NodeValue) → node_among before name ≡ found → AreNodesOf p after
    by_node None none =
        let Of : List (List ℕ × NodeValue) → Type 0 = λ l. AreNodesOf p l in subst Of (sym (steps.absent none).same) nodes
    by_node (Some node) there =
        let stepped : HasStepped (outcome node) before after name node given = steps.there node there in
        let Ascend : List (List ℕ) → Type 0 = λ names. IsSorted name_cmp names in
        record {
          own = own_stays p outcome before after name given node nodes.own there stepped;
          ascending = subst Ascend (sym stepped.names) nodes.ascending;
        }

-- what holds of a node that is found holds of the node of the name
pub of_found : (P : NodeValue → Type 0) (nodes : List (List ℕ × NodeValue)) (name : List ℕ) (node other : NodeValue)
    → node_among nodes name ≡ Some node → P node → node_among nodes name ≡ Some other → P other
of_found P nodes name node other there holds found =
    let both : Some node ≡ Some other = sym there ∙ found in
    let same : node ≡ other = cc in
    subst P same holds

-- what a node may start with its own settings
pub may_start : (own p : SettingsValue) (start : Start) (node : NodeValue) → own ≡ p → MayStart p start node → MayStart own start node
may_start own p start node same may = let May : SettingsValue → Type 0 = λ q. MayStart q start node in subst May (sym same) may

-- a node that is lent has its name and the settings
pub lent_named : (p : SettingsValue) (nodes : List (List ℕ × NodeValue)) (name : List ℕ) (lent : Option (Bor NodeValue))
    → AreNodesOf p nodes → option_copied lent ≡ lookup (bytes_eq name) nodes → IfSome lent (λ node. HasNameAndSettings p name node.now)
lent_named p nodes name None of is = tt
lent_named p nodes name (Some node) of is = of.own name node.now (sym (found_same nodes name) ∙ sym is)
