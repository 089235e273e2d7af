-- What the nodes say of an observation that isn't refused.
use Rattle.std.proofs.Common.{◌≡◌, ◌≢◌, ◌⊎◌, inl, inr, ℕ, zero, suc, Bool, true, false, not, List, [], ◌∷◌, get_or, Option, None, Some, is_some, refl, ap, sym, ◌∙◌}
use Rattle.std.specs.Prelude.{◌&&◌, option_and_then}
use Rattle.std.specs.Option.{option_map}
use Rattle.tap_name.specs.Names.{AreNames, has_name}
use Rattle.tap_name.specs.Root.{root}
use Rattle.tap_name.proofs.Membership.{has_name-Decides}
use Rattle.tap_name.proofs.Names.{among-All}
use Rattle.tap_name.specs.Name.{IsName}
use Rattle.tap_scenario.specs.declared.step.Step.{Step}
use Rattle.tap_scenario.specs.declared.step.Step.TheVariants.{Pointers, Root, Table, Walk}
use Rattle.tap_log.specs.declared.record.Record.{Record}
use Rattle.tap_log.specs.declared.record.Refusal.{Refusal}
use Rattle.tap_log.specs.declared.record.Refusal.TheVariants.{NotCore}
use Rattle.tap_log.specs.declared.record.Record.TheVariants.{RootOf, Walked}
use Rattle.tap_history.specs.Core.{core_of, present_of}
use Rattle.tap_history.specs.Names.{names_of}
use Rattle.tap_history.specs.Refusals.{first_refusal, first_some, is_joining, refusals, refuses_not_core}
use Rattle.tap_history.specs.StepAsks.{asked_node, suits_joining}
use Rattle.tap_rule.specs.Node.{NodeState, Status}
use Rattle.tap_rule.specs.Node.Status.{Joining, Core, Leaving, Gone, Ceased}
use Rattle.tap_surrogate.specs.Nodes.{IsCore, core_links}
use Rattle.tap_surrogate.specs.Walk.{walk}
use Rattle.tap_node.specs.Node.{NodeValue, is_linked, running}
use Rattle.tap_safety.specs.System.{System}
use Rattle.tap_runs.specs.Course.{system_of}
use Rattle.tap_runs.specs.CourseLaws.{is_present_node}
use Rattle.tap_runs.specs.Observed.{counts_as_core, has_ended, is_core_node, observed, pointers_record, table_record}
use Rattle.tap_runs.proofs.Nodes.{asked_is_present, cause_fails, first_none}
use Rattle.tap_safe_runs.specs.Safe.{IsRun}
use Rattle.tap_safe_runs.proofs.Safe.{runs_are_sound}
use Rattle.tap_overlay.specs.Overlay.{node_at, nodes_lent}
use Rattle.tap_overlay.proofs.Systems.{same_walks}
use Rattle.tap_engine.specs.KeptEngine.{AreReady}
use Rattle.tap_engine.specs.declared.engine.Engine.{Engine}
use Rattle.tap_engine.proofs.Keeping.{on, seen}
use Rattle.tap_engine.proofs.NamedSteps.{all_named}
use Rattle.tap_engine.proofs.Starting.{agrees}

-- ---- the node that is asked

-- none of the refusals is there
pub none_at : (refusals : List (Option Refusal)) (i : ℕ) → first_some refusals ≡ None → get_or refusals i None ≡ None
none_at [] i none = refl
none_at (refusal ∷ others) zero none = (first_none refusal others none).0
none_at (refusal ∷ others) (suc i) none = none_at others i (first_none refusal others none).1

-- who is present and doesn't join is core
core_if : (present core : Bool) → present ≡ true → (present && not core) ≡ false → core ≡ true
core_if true true there joins = refl
core_if true false there joins = absurd (cc)
core_if false core there joins = absurd (cc)

-- who is asked for a walk is core
asker_is_core : (log : List Record) (object asker : List ℕ) → first_refusal log (Walk object asker) ≡ None
    → has_name (core_of log) asker ≡ true
unfolding refuses_not_core asked_node suits_joining
asker_is_core log object asker accepted =
    let none : refuses_not_core log (Walk object asker) ≡ None = none_at (refusals log (Walk object asker)) 1 accepted in
    let joins : is_joining log asker ≡ false = cause_fails (is_joining log asker) NotCore none in
    core_if (has_name (present_of log) asker) (has_name (core_of log) asker)
    (asked_is_present log (Walk object asker) asker accepted refl) joins

-- a node that is present has a table and pointers
present_linked : (status : Status) → not (has_ended status) ≡ true → is_linked status ≡ true
present_linked Joining present = refl
present_linked Core present = refl
present_linked Leaving present = refl
present_linked Gone present = present
present_linked Ceased present = present

present_so : (found : Option NodeState) (node : NodeState) → found ≡ Some node → is_present_node found ≡ true
    → is_linked node.status ≡ true
present_so found node at present = present_linked node.status (ap is_present_node (sym at) ∙ present)

-- who is asked for a table or for pairs
pub asks_table : (name : List ℕ) → asked_node (Table name) ≡ Some name
unfolding asked_node
asks_table name = refl

pub asks_pairs : (name : List ℕ) → asked_node (Pointers name) ≡ Some name
unfolding asked_node
asks_pairs name = refl

-- a node that is core, or leaves, counts as core
core_counts : (found : Option NodeState) (node : NodeState) → found ≡ Some node → (node.status ≡ Core) ⊎ (node.status ≡ Leaving)
    → is_core_node found ≡ true
core_counts found node at core =
    ap is_core_node at ∙ elim core [
      | inl is ↦ ap counts_as_core is
      | inr is ↦ ap counts_as_core is
    ]

-- a core node is there
core_there : (found : Option NodeState) → is_core_node found ≡ true → is_some found ≡ true
core_there None is = absurd (cc)
core_there (Some node) is = refl

-- ---- nodes that are lent

-- the node of a name that is lent, of one of the nodes of the system
record IsLent (found : Option NodeState) (node : NodeValue) : Type 0 where
  state : NodeState
  at : found ≡ Some state
  is : node ≡ running state

lent_so : (found : Option NodeState) (node : NodeValue) → option_map running found ≡ Some node → IsLent found node
lent_so None node is = absurd (cc)
lent_so (Some state) node is = let same : running state ≡ node = cc in record { state = state; at = refl; is = sym same }

-- a node that is present is lent
present_lent : (found : Option NodeState) → is_present_node found ≡ true → is_some (option_map running found) ≡ true
present_lent None present = absurd (cc)
present_lent (Some node) present = refl

module _ (m : Engine) (ready : AreReady m) where
  abbrev log : List Record
  log = m.ledger.records

  abbrev s : System
  s = system_of log

  nodes_are : (name : List ℕ) → node_at m.overlay name ≡ option_map running (s.node name)
  nodes_are name = (ready.kept.go_on refl).nodes.nodes_are name

  -- the state of a node that is lent is that of the system
  pub lent_state : (name : List ℕ) (node : NodeValue) → node_at m.overlay name ≡ Some node → s.node name ≡ Some node.state
  lent_state name node at =
      let lent = lent_so (s.node name) node (sym (nodes_are name) ∙ at) in
      lent.at ∙ ap (λ (n : NodeValue). Some n.state) (sym lent.is)

  -- it takes steps
  pub lent_runs : (name : List ℕ) (node : NodeValue) → node_at m.overlay name ≡ Some node → node.ended ≡ false
  lent_runs name node at = ap (λ (n : NodeValue). n.ended) (lent_so (s.node name) node (sym (nodes_are name) ∙ at)).is

  module _ (step : Step) (name : List ℕ) (asks : asked_node step ≡ Some name) (accepted : first_refusal log step ≡ None) where
    -- the node that an accepted step asks is present
    asked_present : is_present_node (s.node name) ≡ true
    asked_present = sym ((agrees m ready).present name) ∙ asked_is_present log step name accepted asks

    -- so it is there
    pub asked_there : is_some (node_at m.overlay name) ≡ true
    asked_there = ap is_some (nodes_are name) ∙ present_lent (s.node name) asked_present

    -- and has a table and pointers
    pub asked_linked : (node : NodeValue) → node_at m.overlay name ≡ Some node → is_linked node.state.status ≡ true
    asked_linked node at = present_so (s.node name) node.state (lent_state name node at) asked_present

  -- ---- walks

  -- the node that a walk starts from is core
  pub walks_from : (object asker : List ℕ) → first_refusal log (Walk object asker) ≡ None → IsCore (nodes_lent m.overlay) asker
  walks_from object asker accepted =
      ap (λ nodes. nodes.core asker) (same_walks s m.overlay (ready.kept.go_on refl).nodes)
      ∙ sym ((agrees m ready).core asker) ∙ asker_is_core log object asker accepted

  -- the walk is that of the system
  pub walked_so : (object asker : List ℕ) (path : List (List ℕ))
      → path ≡ walk m.overlay.settings.base (core_links (nodes_lent m.overlay)) asker object
      → Some (Walked object path) ≡ observed m.settings log s (Walk object asker)
  unfolding observed
  walked_so object asker path is =
      ap (λ l. Some (Walked object l))
      (is ∙ ap (λ p. walk p.base (core_links (nodes_lent m.overlay)) asker object) ready.kept.settings
      ∙ ap (λ nodes. walk m.settings.base (core_links nodes) asker object) (same_walks s m.overlay (ready.kept.go_on refl).nodes))

  -- ---- roots, tables and pairs

  pub rooted_so : (object : List ℕ) (item : Option Record) → item ≡ option_map (RootOf object) (root m.settings.base (core_of log) object)
      → item ≡ observed m.settings log s (Root object)
  unfolding observed
  rooted_so object item is = is

  pub tabled_so : (name : List ℕ) (node : NodeValue) (item : Option Record) → node_at m.overlay name ≡ Some node
      → item ≡ table_record name node.state → item ≡ observed m.settings log s (Table name)
  unfolding observed
  tabled_so name node item at is = is ∙ sym (ap (option_and_then (table_record name)) (lent_state name node at))

  pub held_so : (name : List ℕ) (node : NodeValue) (item : Option Record) → node_at m.overlay name ≡ Some node
      → item ≡ Some (pointers_record name node.state) → item ≡ observed m.settings log s (Pointers name)
  unfolding observed
  held_so name node item at is = is ∙ sym (ap (option_map (pointers_record name)) (lent_state name node at))

  -- ---- names

  -- there is a core node
  pub some_core : core_of log ≢ []
  some_core = λ none.
      let goes = on m ready in
      let run : IsRun (seen m).beginning log = record { course = goes.course; going = goes.going; steps = ready.kept.named } in
      let has = (runs_are_sound (seen m).beginning log run).invariant.basis.has_core in
      let is : has_name (core_of log) has.name ≡ true =
      (agrees m ready).core has.name ∙ core_counts (s.node has.name) has.core.state has.core.is has.core.core in
      let never : false ≡ true = ap (λ l. has_name l has.name) (sym none) ∙ is in
      absurd (cc)

  -- each core node was ever present
  core_ever : (x : List ℕ) → has_name (core_of log) x ≡ true → has_name (names_of log) x ≡ true
  core_ever x is =
      let agree = agrees m ready in
      agree.ever x ∙ core_there (s.node x) (sym (agree.core x) ∙ is)

  -- the core nodes are names
  pub core_named : AreNames m.settings (core_of log)
  core_named = λ x among.
      let goes = on m ready in
      let all = all_named m.settings log goes.course.limits.names ready.kept.named in
      among-All (IsName m.settings) (names_of log) all x
      ((has_name-Decides (names_of log) x).0 (core_ever x ((has_name-Decides (core_of log) x).1 among)))
