use Rattle.std.proofs.Common.{◌≡◌, ◌<◌, ◌≤◌, ℕ, Some, List, [], ◌∷◌, drop, All, arith, ap, sym, subst, ◌∙◌}
use Rattle.std.proofs.lemmas.List.Elements.{All-drop}
use Rattle.tap_surrogate.specs.Nodes.{IsCore, IsTableOf, core_links}
use Rattle.tap_surrogate.specs.Walk.{walk_on}
use Rattle.tap_surrogate.proofs.EmptyLevels.{ends_where_empty}
use Rattle.tap_surrogate.proofs.walk.Walk.after_hop.Goals as goal

pub returns-then-not-may_have_links_from : goal.returns-then-not-may_have_links_from
returns-then-not-may_have_links_from g c =
    let p = g.T.Tables.parameters c.args.tables.now in
    let nodes = g.T.Tables.nodes c.args.tables.now in
    let walk = c.args.self.now in
    let table = c.in-Some.table.now in
    let level = c.loop-level.level in
    let left = drop level walk.object in
    let node : c.self.inside.node ≡ walk.node = ap (λ w. w.node) c.self.view_is in
    let of_node : IsTableOf p c.self.inside.node table =
    c.in-Some.ensures.core (subst (IsCore nodes) (sym node) c.requires.core) in
    let owner : table.owner ≡ walk.node = of_node.owner_is ∙ node in
    let base : table.settings.base ≡ p.base = ap (λ q. q.base) of_node.settings_are in
    let is : nodes.table_of table.owner ≡ Some table = ap nodes.table_of of_node.owner_is ∙ sym c.in-Some.ensures.table in
    let Below : ℕ → Type 0 = λ b. All (λ d. d < b) left in
    let below = subst Below (sym base) (All-drop (λ d. d < p.base) level walk.object c.requires.object.below) in
    let none = c.may_have_links_from.ensures c.if-not-may_have_links_from.true in
    let Ends : ℕ → List ℕ → Type 0 = λ b n. walk_on b (core_links nodes) n level left ≡ n ∷ [] in
    let OfBase : ℕ → Type 0 = λ b. Ends b table.owner in
    let ends = ends_where_empty nodes table is c.settings.ensures.valid level none left level (omega arith) below in
    c.loop-level.invariant ∙ subst (Ends p.base) owner (subst OfBase base ends)
