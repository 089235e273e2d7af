use Rattle.std.proofs.Common.{◌≡◌, Bool, true, false, sym, refl, ◌∙◌}
use Rattle.std.specs.Prelude.{if◌then◌else◌}
use Rattle.std.proofs.lemmas.Bool.{true≢false}
use Rattle.tap_rule.specs.Node.{Status}
use Rattle.tap_rule.specs.Node.Status.{Joining, Core, Leaving, Gone, Ceased}
use Rattle.tap_node.specs.declared.status.NodeStatus.TheVariants as seen
use Rattle.tap_node.specs.Node.{node_status, status_seen}
use Rattle.tap_overlay.specs.Start.{IsCoreOrEnded}
use Rattle.tap_overlay.proofs.Stepped.{of_found}
use Rattle.tap_test_runs.proofs.overlay.is_running_core.Goals as goal

-- a node that is seen as core is core, if it takes steps
is_seen : (ended : Bool) (status : Status) → (if ended then seen.Ended else status_seen status) ≡ seen.Core → ended ≡ false
    → status ≡ Core
is_seen true status is runs = absurd (true≢false runs)
is_seen false Joining is runs = let never : seen.Joining ≡ seen.Core = is in absurd (cc)
is_seen false Core is runs = refl
is_seen false Leaving is runs = let never : seen.Leaving ≡ seen.Core = is in absurd (cc)
is_seen false Gone is runs = let never : seen.Gone ≡ seen.Core = is in absurd (cc)
is_seen false Ceased is runs = let never : seen.Ceased ≡ seen.Core = is in absurd (cc)

pub returns-in-Some : goal.returns-in-Some
returns-in-Some c = λ core other found.
    let node = c.in-Some.node.now in
    let is : node_status node ≡ seen.Core = sym c.status.ensures ∙ c.is_core.ensures.0 core in
    of_found IsCoreOrEnded c.args.overlay.now.nodes c.args.name.now node other (sym c.in-Some.ensures.value)
    (is_seen node.ended node.state.status is) found
