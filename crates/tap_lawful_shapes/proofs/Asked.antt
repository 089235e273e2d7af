-- Who is core, and the roots of the core nodes.
use Rattle.std.proofs.Common.{◌≡◌, inl, ℕ, ◌+◌, Bool, true, false, not, List, [], ◌∷◌, None, Some, refl, sym, ap, ◌∙◌}
use Rattle.std.specs.Prelude.{◌&&◌, drop}
use Rattle.tap_name.specs.Names.{Among, first_of, has_name}
use Rattle.tap_name.specs.Root.{names_kept, narrowed}
use Rattle.tap_name.proofs.Membership.{has_name-Decides}
use Rattle.tap_name.proofs.Names.{among-filter}
use Rattle.tap_scenario.specs.declared.step.Step.{Step}
use Rattle.tap_log.specs.declared.record.Record.{Record}
use Rattle.tap_log.specs.declared.record.Refusal.TheVariants.{NotCore}
use Rattle.tap_history.specs.Core.{core_of, present_of}
use Rattle.tap_history.specs.Refusals.{first_refusal, is_and, is_joining, refusals, refuses_no_such_node, refuses_not_core}
use Rattle.tap_history.specs.StepAsks.{asked_node, suits_joining}
use Rattle.tap_runs.proofs.Nodes.{asked_is_present, cause_fails, first_none}

-- who is present and doesn't join is core
core_if : (present core : Bool) → present ≡ true → (present && not core) ≡ false → core ≡ true
core_if true true there joins = refl
core_if true false there joins = absurd (cc)
core_if false core there joins = absurd (cc)

-- the node that is asked is core, if a joining one can't answer and the step isn't refused
pub asked_is_core : (log : List Record) (step : Step) (name : List ℕ) → asked_node step ≡ Some name → suits_joining step ≡ false
    → first_refusal log step ≡ None → Among name (core_of log)
unfolding refuses_not_core
asked_is_core log step name asked suits accepted =
    let later = (first_none (refuses_no_such_node log step) (drop 1 (refusals log step)) accepted).1 in
    let none : refuses_not_core log step ≡ None = (first_none (refuses_not_core log step) (drop 2 (refusals log step)) later).0 in
    let fails = cause_fails (not (suits_joining step) && is_and (asked_node step) (is_joining log)) NotCore none in
    let joins : is_joining log name ≡ false =
    sym (ap (λ b. not b && is_and (asked_node step) (is_joining log)) suits ∙ ap (λ o. is_and o (is_joining log)) asked) ∙ fails in
    (has_name-Decides (core_of log) name).0
    (core_if (has_name (present_of log) name) (has_name (core_of log) name) (asked_is_present log step name accepted asked) joins)

-- the first of these names is one of them, and so is one that is left as they are narrowed: so a root over names is one of them
pub first_among : (names : List (List ℕ)) (x : List ℕ) → first_of names ≡ Some x → Among x names
first_among [] x is = absurd (cc)
first_among (y ∷ names) x is = let same : y ≡ x = cc in inl (sym same)

pub among_narrowed : (base level : ℕ) (wanted : List ℕ) (names : List (List ℕ)) (x : List ℕ) → Among x (narrowed base level wanted names)
    → Among x names
among_narrowed base level [] names x among = among
among_narrowed base level (digit ∷ wanted) names x among =
    let kept = among_narrowed base (level + 1) wanted (names_kept base level digit names) x among in
    (among-filter _ names x kept).0
