-- Steps after which each pair is laid as wanted already: reconciling then adds nothing.
use Rattle.std.proofs.Common.{◌≡◌, ℕ, ◌+◌, List, [], length, sym, ap, subst, ◌∙◌, add-zero}
use Rattle.tap_pointer.specs.declared.lay.Lay.{Lay}
use Rattle.tap_pointer.specs.Pointers.{PointersValue}
use Rattle.tap_pointer.specs.Reconcile.{AreLaid, reconciled}
use Rattle.tap_pointer.proofs.Laws.{laid_sends_nothing}
use Rattle.tap_rule.specs.Node.{NodeState}
use Rattle.tap_rule.specs.Reaction.{Reaction}
use Rattle.tap_rule.specs.Pointers.{reconciles}
use Rattle.tap_node_common.specs.declared.news.News.{News}
use Rattle.tap_node_common.specs.StepsAs.{StepsAs}

-- what reconciling leaves if it adds these Lays and leaves these pointers
abbrev left_with : Reaction → PointersValue → List Lay → Reaction
left_with r pointers lays =
    record r { state = record r.state { pointers = pointers; stamp = r.state.stamp + length lays }; lays = lays }

-- a reaction without Lays, after which each pair is laid as wanted, is not changed by reconciling
pub reconciled_already : (r : Reaction) → r.lays ≡ [] → AreLaid r.state.ties.table r.state.pointers → reconciles r ≡ r
reconciled_already r none laid =
    let nothing = laid_sends_nothing r.state.ties.table r.state.stamp r.state.pointers laid in
    ap (λ lays. left_with r (reconciled r.state.ties.table r.state.pointers) lays) nothing.0
    ∙ ap (λ pointers. left_with r pointers []) nothing.1
    ∙ ap (λ n. record r { state = record r.state { stamp = n }; lays = [] }) (add-zero r.state.stamp)
    ∙ ap (λ (lays : List Lay). record r { lays = lays }) (sym none)

pub quiet_step : (node : NodeState) (r : Reaction) (after : NodeState) (before sent : List (List ℕ)) (news : News) → r.lays ≡ []
    → AreLaid r.state.ties.table r.state.pointers → StepsAs node r after before sent news
    → StepsAs node (reconciles r) after before sent news
quiet_step node r after before sent news none laid steps =
    subst (λ s. StepsAs node s after before sent news) (sym (reconciled_already r none laid)) steps
