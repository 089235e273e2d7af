-- Which node there is, by what a log says of a name.
use Rattle.std.proofs.Common.{◌≡◌, ◌⊎◌, inl, inr, ℕ, true, false, List, Option, None, Some, refl, ap, sym, ◌∙◌}
use Rattle.std.specs.Prelude.{is_some}
use Rattle.std.specs.Option.{option_map}
use Rattle.tap_rule.specs.Node.{NodeState, Status}
use Rattle.tap_rule.specs.Node.Status.{Ceased, Core, Gone, Joining, Leaving}
use Rattle.tap_safety.specs.Remembered.{Leaver}
use Rattle.tap_safety.specs.System.{System, IsCoreNode}
use Rattle.tap_runs.specs.CourseLaws.{is_present_node}
use Rattle.tap_runs.specs.Observed.{counts_as_core, is_core_node}

-- who wasn't ever there is no node
pub no_node : (node : Option NodeState) → is_some node ≡ false → node ≡ None
no_node None none = refl
no_node (Some node) none = absurd (cc)

-- a node of this status counts as core
is_core_status : (status : Status) → counts_as_core status ≡ true → (status ≡ Core) ⊎ (status ≡ Leaving)
is_core_status Joining is = absurd (cc)
is_core_status Core is = inl refl
is_core_status Leaving is = inr refl
is_core_status Gone is = absurd (cc)
is_core_status Ceased is = absurd (cc)

-- there is a core node, as the log says
pub core_there : (s : System) (x : List ℕ) → is_core_node (s.node x) ≡ true → IsCoreNode s x
core_there s x is = by_node (s.node x) refl
  where
    by_node : (node : Option NodeState) → s.node x ≡ node → IsCoreNode s x
    by_node None there = let wrong : false ≡ true = sym (ap is_core_node there) ∙ is in absurd (cc)
    by_node (Some node) there =
        record { state = node; is = there; core = is_core_status node.status (sym (ap is_core_node there) ∙ is) }

-- a core node is said to be core
pub core_said : (s : System) (x : List ℕ) → IsCoreNode s x → is_core_node (s.node x) ≡ true
core_said s x core = ap is_core_node core.is ∙ counts core.state.status core.core
  where
    counts : (status : Status) → (status ≡ Core) ⊎ (status ≡ Leaving) → counts_as_core status ≡ true
    counts status (inl core) = ap counts_as_core core
    counts status (inr leaving) = ap counts_as_core leaving

-- a joining node of this name
pub record IsJoiningNode (s : System) (x : List ℕ) : Type 0 where
  pub state : NodeState
  pub is : s.node x ≡ Some state
  pub joining : state.status ≡ Joining

-- who is present and isn't core joins
pub joining_there : (s : System) (x : List ℕ) → is_present_node (s.node x) ≡ true → is_core_node (s.node x) ≡ false → IsJoiningNode s x
joining_there s x present core = by_node (s.node x) refl
  where
    by_status : (node : NodeState) → s.node x ≡ Some node → (status : Status) → node.status ≡ status → IsJoiningNode s x
    by_status node there Joining is = record { state = node; is = there; joining = is }
    by_status node there Core is =
        let wrong : true ≡ false = sym (ap is_core_node there ∙ ap counts_as_core is) ∙ core in absurd (cc)
    by_status node there Leaving is =
        let wrong : true ≡ false = sym (ap is_core_node there ∙ ap counts_as_core is) ∙ core in absurd (cc)
    by_status node there Gone is =
        let wrong : false ≡ true = sym (ap is_present_node there ∙ rw is refl) ∙ present in absurd (cc)
    by_status node there Ceased is =
        let wrong : false ≡ true = sym (ap is_present_node there ∙ rw is refl) ∙ present in absurd (cc)

    by_node : (node : Option NodeState) → s.node x ≡ node → IsJoiningNode s x
    by_node None there = let wrong : false ≡ true = sym (ap is_present_node there) ∙ present in absurd (cc)
    by_node (Some node) there = by_status node there node.status refl

-- without a name there is nobody who departs
pub no_leaver : (leaver : Option Leaver) → None ≡ option_map (λ l. l.name) leaver → leaver ≡ None
no_leaver None none = refl
no_leaver (Some leaver) none = absurd (cc)
