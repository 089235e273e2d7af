-- Where a walk ends, step by step; and that walks over the nodes of a world end at roots.
use Rattle.std.proofs.Common.{◌≡◌, ℕ, ◌+◌, Bool, true, false, List, [], ◌∷◌, drop, Option, None, Some, refl, ap, sym, subst, ◌∙◌}
use Rattle.std.specs.Prelude.{if◌then◌else◌, is_some, option_and_then, unwrap_or}
use Rattle.std.specs.Option.{option_map}
use mathlib.Core.Path.{fun_ext}
use Rattle.tap_name.specs.Name.{IsName}
use Rattle.tap_name.specs.Names.{Among}
use Rattle.tap_name.specs.Root.{root}
use Rattle.tap_name.specs.Settings.{SettingsValue}
use Rattle.tap_name.proofs.Membership.{has_name-Decides}
use Rattle.tap_table.specs.Table.{TableValue}
use Rattle.tap_salt.specs.Salt.{if_salted, is_salted, salt_of}
use Rattle.tap_surrogate.specs.Nodes.{IsCore, Nodes, core_links}
use Rattle.tap_surrogate.specs.Standing.{WalkValue, path_left}
use Rattle.tap_surrogate.specs.Step1.{IsWalkHop}
use Rattle.tap_surrogate.specs.Tables.{Tables}
use Rattle.tap_surrogate.specs.Walk.{hop, walk, walk_end, walk_on}
use Rattle.tap_log.specs.declared.record.NodeWord.{NodeWord}
use Rattle.tap_history.specs.Core.{core_of}
use Rattle.tap_rule.specs.Node.{NodeState, Status}
use Rattle.tap_rule.specs.Node.Status.{Joining, Core, Leaving, Gone, Ceased}
use Rattle.tap_node.specs.Node.{is_linked, running, status_seen, table_lent}
use Rattle.tap_runs.specs.Course.{system_of}
use Rattle.tap_runs.specs.Observed.{counts_as_core, is_core_node, nodes_of, table_of_node, word_of_status}
use Rattle.tap_overlay.specs.Overlay.{is_core_node_status, is_core_value}
use Rattle.tap_runs.proofs.Departing.{course_nodes_holds}
use Rattle.tap_safe_runs.proofs.Moments.{walks_end}
use Rattle.tap_engine.specs.KeptEngine.{world_nodes_lent}
use Rattle.tap_engine.specs.World.{HasNodesOfLog, WorldValue}
use Rattle.tap_root_sets.specs.AskedRoots.{MayAsk}

-- ---- where a walk ends

record Starts (path : List (List ℕ)) : Type 0 where
  first : List ℕ
  rest : List (List ℕ)
  is : path ≡ first ∷ rest

starts_if : (hops : Bool) (node : List ℕ) (path : List (List ℕ)) → Starts path → Starts (if hops then node ∷ path else path)
starts_if true node path starts = record { first = node; rest = path; is = refl }
starts_if false node path starts = starts

walk_starts : (base : ℕ) (tables : Tables) (node : List ℕ) (level : ℕ) (digits : List ℕ) → Starts (walk_on base tables node level digits)
walk_starts base tables node level [] = record { first = node; rest = []; is = refl }
walk_starts base tables node level (wanted ∷ more) =
    let to = hop base tables node level wanted in
    starts_if (is_some to) node (walk_on base tables (unwrap_or to node) (level + 1) more)
    (walk_starts base tables (unwrap_or to node) (level + 1) more)

later_end : (node : List ℕ) (path : List (List ℕ)) → Starts path → walk_end (node ∷ path) ≡ walk_end path
later_end node path starts = ap (λ l. walk_end (node ∷ l)) starts.is ∙ sym (ap walk_end starts.is)

-- a hop doesn't change it
pub hop_keeps : (p : SettingsValue) (nodes : Nodes) (before after : WalkValue) (end : Option (List ℕ)) → IsWalkHop p nodes before after
    → walk_end (path_left p.base (core_links nodes) before) ≡ end → walk_end (path_left p.base (core_links nodes) after) ≡ end
hop_keeps p nodes before after end hops is =
    let tables = core_links nodes in
    let rest = path_left p.base tables after in
    let starts = walk_starts p.base tables after.node after.level (drop after.level after.object) in
    sym (later_end before.node rest starts) ∙ sym (ap walk_end hops.passes) ∙ is

-- ---- the nodes of a world

same_table : (status : Status) (table : TableValue)
    → (if is_linked status then Some table else None) ≡ option_map (λ (word : NodeWord). table) (word_of_status status)
same_table Joining table = refl
same_table Core table = refl
same_table Leaving table = refl
same_table Gone table = refl
same_table Ceased table = refl

same_core : (status : Status) → is_core_node_status (status_seen status) ≡ counts_as_core status
same_core Joining = refl
same_core Core = refl
same_core Leaving = refl
same_core Gone = refl
same_core Ceased = refl

table_read : (found : Option NodeState) → option_and_then table_lent (option_map running found) ≡ option_and_then table_of_node found
table_read None = refl
table_read (Some node) = same_table node.status node.ties.table

core_read : (found : Option NodeState) → is_core_value (option_map running found) ≡ is_core_node found
core_read None = refl
core_read (Some node) = same_core node.status

abbrev nodes_with : (List ℕ → Option TableValue) → (List ℕ → Bool) → Nodes
nodes_with tables core = record { table_of = tables; core = core }

module _ (w : WorldValue) (has : HasNodesOfLog w) where
  -- a walk reads them as those of the system
  pub nodes_are : world_nodes_lent w ≡ nodes_of (system_of w.log)
  nodes_are =
      let s = system_of w.log in
      let tables : (world_nodes_lent w).table_of ≡ (nodes_of s).table_of =
      fun_ext (λ (name : List ℕ). ap (option_and_then table_lent) (has name) ∙ table_read (s.node name)) in
      let cores : (world_nodes_lent w).core ≡ (nodes_of s).core =
      fun_ext (λ (name : List ℕ). ap is_core_value (has name) ∙ core_read (s.node name)) in
      ap (λ (t : List ℕ → Option TableValue). nodes_with t (world_nodes_lent w).core) tables
      ∙ ap (λ (c : List ℕ → Bool). nodes_with (nodes_of s).table_of c) cores

  module _ (p : SettingsValue) (may : MayAsk p w) (asker : List ℕ) (among : Among asker (core_of w.log)) where
    pub asker_is_core : IsCore (world_nodes_lent w) asker
    asker_is_core =
        ap (λ (n : Nodes). n.core asker) nodes_are ∙ sym ((course_nodes_holds w.beginning w.log may.run.course may.run.going).core asker)
        ∙ (has_name-Decides (core_of w.log) asker).1 among

    -- a walk from a core node ends at the root
    pub walk_root : (object found : List ℕ) → IsName p object
        → walk_end (walk w.beginning.settings.base (core_links (world_nodes_lent w)) asker object) ≡ Some found
        → root p.base (core_of w.log) object ≡ Some found
    walk_root object found name is =
        let own = subst (λ q. IsName q object) (sym may.settings) name in
        let leads = walks_end w.beginning w.log may.run asker object among own in
        ap (λ (q : SettingsValue). root q.base (core_of w.log) object) (sym may.settings)
        ∙ sym leads.ends
        ∙ sym (ap (λ (n : Nodes). walk_end (walk w.beginning.settings.base (core_links n) asker object)) nodes_are)
        ∙ is

-- ---- salts

-- the salt that is made, where names are as long as a digest
pub salt_is : (p : SettingsValue) (object : List ℕ) (number : ℕ) (salt : List ℕ) → is_salted p ≡ true → Some salt ≡ if_salted p (salt_of object number)
    → salt ≡ salt_of object number
salt_is p object number salt salted is =
    let same : Some salt ≡ Some (salt_of object number) =
    is ∙ ap (λ (b : Bool). if b then Some (salt_of object number) else None) salted in
    cc
