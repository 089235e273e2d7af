-- An overlay with the nodes of a system: at rest, as a walk reads it, and after a change.
-- Cited above: rest_nodes, same_changes, same_walks
use Rattle.std.proofs.Common.{◌≡◌, ℕ, Bool, true, false, List, Option, None, Some, ap, refl, sym, subst, ◌∙◌}
use Rattle.std.specs.Prelude.{◌≢◌, bytes_eq, if◌then◌else◌, option_and_then}
use Rattle.std.specs.Option.{option_map}
use mathlib.Core.Path.{fun_ext}
use Rattle.std.proofs.lemmas.Bool.{true≢false}
use Rattle.std.proofs.lemmas.Slice.Eq.{bytes_eq-Decides}
use Rattle.tap_name.specs.Names.{has_name}
use Rattle.tap_name.specs.Settings.{SettingsValue}
use Rattle.tap_table.specs.Table.{TableValue}
use Rattle.tap_surrogate.specs.Nodes.{Nodes}
use Rattle.tap_log.specs.declared.record.NodeWord.{NodeWord}
use Rattle.tap_rule.specs.Node.{NodeState, Status, member_at_rest}
use Rattle.tap_rule.specs.Node.Status.{Joining, Core, Leaving, Gone, Ceased}
use Rattle.tap_node.specs.Node.{is_linked, running, status_seen, table_lent}
use Rattle.tap_safety.specs.AtRest.{system_at_rest}
use Rattle.tap_safety.specs.Exchanges.{with_at}
use Rattle.tap_safety.specs.System.{System}
use Rattle.tap_runs.specs.Observed.{counts_as_core, is_core_node as is_core_state, nodes_of, table_of_node, word_of_status}
use Rattle.tap_overlay.specs.Overlay.{ChangesOnly, IsAtRest, OverlayValue, is_core_node_status, is_core_value, node_among, node_at, nodes_lent}
use Rattle.tap_overlay.specs.Law.{HasNodesOf}

-- ---- at rest

of_member : (state : NodeState) (member : Bool)
    → (if member then Some (running state) else None) ≡ option_map running (if member then Some state else None)
of_member state true = refl
of_member state false = refl

pub rest_nodes : (p : SettingsValue) (members : List (List ℕ)) (o : OverlayValue) → IsAtRest p members o
    → HasNodesOf (system_at_rest p members) o
rest_nodes p members o rest = record {
  nodes_are = λ name. rest.nodes_are name ∙ of_member (member_at_rest p members name) (has_name members name);
}

-- ---- walks

same_table : (status : Status) (table : TableValue)
    → (if is_linked status then Some table else None) ≡ option_map (λ (word : NodeWord). table) (word_of_status status)
same_table Joining table = refl
same_table Core table = refl
same_table Leaving table = refl
same_table Gone table = refl
same_table Ceased table = refl

same_core : (status : Status) → is_core_node_status (status_seen status) ≡ counts_as_core status
same_core Joining = refl
same_core Core = refl
same_core Leaving = refl
same_core Gone = refl
same_core Ceased = refl

table_read : (found : Option NodeState)
    → option_and_then table_lent (option_map running found) ≡ option_and_then table_of_node found
table_read None = refl
table_read (Some node) = same_table node.status node.ties.table

core_read : (found : Option NodeState) → is_core_value (option_map running found) ≡ is_core_state found
core_read None = refl
core_read (Some node) = same_core node.status

abbrev nodes_with : (List ℕ → Option TableValue) → (List ℕ → Bool) → Nodes
nodes_with tables core = record { table_of = tables; core = core }

pub same_walks : (s : System) (o : OverlayValue) → HasNodesOf s o → nodes_lent o ≡ nodes_of s
same_walks s o has =
    let tables : (nodes_lent o).table_of ≡ (nodes_of s).table_of =
    fun_ext (λ (name : List ℕ). ap (option_and_then table_lent) (has.nodes_are name) ∙ table_read (s.node name)) in
    let cores : (nodes_lent o).core ≡ (nodes_of s).core =
    fun_ext (λ (name : List ℕ). ap is_core_value (has.nodes_are name) ∙ core_read (s.node name)) in
    ap (λ (t : List ℕ → Option TableValue). nodes_with t (nodes_lent o).core) tables
    ∙ ap (λ (c : List ℕ → Bool). nodes_with (nodes_of s).table_of c) cores

-- ---- changes

pub same_changes : (s s' : System) (before after : OverlayValue) (name : List ℕ) (state : NodeState) → HasNodesOf s before
    → ChangesOnly before.nodes after.nodes name (running state)
    → ((other : List ℕ) → s'.node other ≡ with_at s.node name (Some state) other) → HasNodesOf s' after
same_changes s s' before after name state has changes same = record { nodes_are = λ other. by_name other (bytes_eq other name) refl }
  where
    by_name : (other : List ℕ) (is : Bool) → bytes_eq other name ≡ is → node_at after other ≡ option_map running (s'.node other)
    by_name other true e =
        let At : List ℕ → Type 0 = λ n. node_among after.nodes n ≡ Some (running state) in
        let here : node_at after other ≡ Some (running state) = subst At (sym ((bytes_eq-Decides other name).0 e)) changes.here in
        let there : s'.node other ≡ Some state =
        same other ∙ ap (λ (b : Bool). if b then Some state else s.node other) e in
        here ∙ sym (ap (option_map running) there)
    by_name other false e =
        let apart : other ≢ name = λ one. true≢false (sym ((bytes_eq-Decides other name).1 one) ∙ e) in
        let there : s'.node other ≡ s.node other =
        same other ∙ ap (λ (b : Bool). if b then Some state else s.node other) e in
        changes.others other apart ∙ has.nodes_are other ∙ sym (ap (option_map running) there)
