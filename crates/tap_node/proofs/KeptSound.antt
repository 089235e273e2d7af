-- What each step of a node keeps, so that it stays sound.
use Rattle.std.proofs.Common.{◌≡◌, ◌≢◌, ℕ, zero, suc, ◌+◌, ◌*◌, ◌≤◌, replicate, [], length, map, true, false, arith, refl, sym, ap, ◌∙◌}
use Rattle.std.specs.List.{enumerate_from, flat_map}
use Rattle.std.proofs.lemmas.Bool.{true≢false}
use Rattle.std.proofs.lemmas.List.Elements.{All-nil}
use Rattle.tap_name.specs.Name.{IsName}
use Rattle.tap_table.specs.Table.{rows, rows_of}
use Rattle.tap_pointer.specs.Pointers.{PointersValue}
use Rattle.tap_pointer.specs.Reconcile.{AreLaid, with_wanted, wanted_hop}
use Rattle.tap_rule.specs.Node.{IsRunning, NodeState, Status, ended, name_of, settings_of}
use Rattle.tap_rule.specs.Node.Status.{Joining, Core, Leaving, Gone as GoneStatus, Ceased}
use Rattle.tap_rule.specs.Reaction.{Reaction}
use Rattle.tap_rule.specs.Pointers.{with_reconciled}
use Rattle.tap_rule.specs.Act.{carried_out, completed}
use Rattle.tap_rule.specs.KeptNode.{KeepsNode}
use Rattle.tap_node_common.proofs.Pairs.{named-reconciled}
use Rattle.tap_node_common.specs.SoundNode.{HaveParents, IsParent, IsSoundNode, PairsHaveNames, knows_pairs}

-- what a node keeps beside being one, with each pair laid as wanted
pub record KeepsSound (node after : NodeState) : Type 0 where
  pub pairs : PairsHaveNames (settings_of node) after.pointers
  pub alone : knows_pairs after.status ≡ false → after.pointers.pairs ≡ []
  pub few : length (rows after.ties.table) ≤ 255
  pub parents : HaveParents (settings_of node) after.sessions
  pub cast_parents : HaveParents (settings_of node) after.cast_sessions

-- what a rule keeps, it keeps once it is completed
reconciled_sound : (node : NodeState) (r : Reaction) → KeepsSound node r.state → KeepsSound node (with_reconciled r.state)
reconciled_sound node r kept = record {
  pairs = named-reconciled (settings_of node) r.state.pointers r.state.ties.table kept.pairs;
  alone = λ none. ap (map (with_wanted r.state.ties.table)) (kept.alone none);
  few = kept.few;
  parents = kept.parents;
  cast_parents = kept.cast_parents;
}

pub completed_sound : (node : NodeState) (r : Reaction) (status : Status) → KeepsSound node r.state
    → KeepsSound node (carried_out (name_of node) (completed status r)).state
completed_sound node r Joining kept = reconciled_sound node r kept
completed_sound node r Core kept = reconciled_sound node r kept
completed_sound node r Leaving kept = reconciled_sound node r kept
completed_sound node r GoneStatus kept = kept
completed_sound node r Ceased kept = kept

-- a node that is one, of which each pair is laid as wanted while it runs, and that keeps these, is sound
laid_by_status : (node : NodeState) (status : Status) → node.status ≡ status
    → (knows_pairs node.status ≡ false → node.pointers.pairs ≡ [])
    → (IsRunning node.status → AreLaid node.ties.table node.pointers) → AreLaid node.ties.table node.pointers
laid_by_status node Joining is alone laid = laid (rw is tt)
laid_by_status node Core is alone laid = laid (rw is tt)
laid_by_status node Leaving is alone laid = laid (rw is tt)
laid_by_status node GoneStatus is alone laid =
    let none = alone (rw is refl) in rw none (All-nil (λ e. e.1.laid ≡ wanted_hop node.ties.table e))
laid_by_status node Ceased is alone laid =
    let none = alone (rw is refl) in rw none (All-nil (λ e. e.1.laid ≡ wanted_hop node.ties.table e))

pub sound_from : (node after : NodeState) → KeepsNode node after → KeepsSound node after
    → (IsRunning after.status → AreLaid after.ties.table after.pointers) → IsSoundNode after
sound_from node after kept keeps laid = record {
  valid = kept.node;
  laid = laid_by_status after after.status refl keeps.alone laid;
  pairs = rw kept.settings keeps.pairs;
  alone = keeps.alone;
  few = keeps.few;
  parents = rw kept.settings keeps.parents;
  cast_parents = rw kept.settings keeps.cast_parents;
}

-- a table without links has no rows
pub no_rows : (base n k : ℕ) → flat_map (rows_of base) (enumerate_from n (replicate k [])) ≡ []
no_rows base n zero = refl
no_rows base n (suc k) = no_rows base (n + 1) k

module _ (node : NodeState) (sound : IsSoundNode node) where
  -- a step that leaves the pointers and the status
  pub keeps : (after : NodeState) → after.pointers ≡ node.pointers → after.status ≡ node.status → length (rows after.ties.table) ≤ 255
      → HaveParents (settings_of node) after.sessions → HaveParents (settings_of node) after.cast_sessions → KeepsSound node after
  keeps after pointers status few parents casts = record {
    pairs = rw pointers sound.pairs;
    alone = λ none. ap (λ (p : PointersValue). p.pairs) pointers ∙ sound.alone (ap knows_pairs (sym status) ∙ none);
    few = few;
    parents = parents;
    cast_parents = casts;
  }

  -- one that leaves its links too, and one that leaves all sessions
  pub keeps_links : (after : NodeState) → after.pointers ≡ node.pointers → after.status ≡ node.status
      → after.ties.table ≡ node.ties.table → HaveParents (settings_of node) after.sessions
      → HaveParents (settings_of node) after.cast_sessions → KeepsSound node after
  keeps_links after pointers status table parents casts = keeps after pointers status (rw table sound.few) parents casts

  pub keeps_all : (after : NodeState) → after.pointers ≡ node.pointers → after.status ≡ node.status
      → after.ties.table ≡ node.ties.table → after.sessions ≡ node.sessions → after.cast_sessions ≡ node.cast_sessions
      → KeepsSound node after
  keeps_all after pointers status table sessions casts =
      keeps_links after pointers status table (rw sessions sound.parents) (rw casts sound.cast_parents)

  -- a node that has ended
  pub keeps_ended : (status : Status) → KeepsSound node (ended status node)
  keeps_ended status = record {
    pairs = All-nil (λ e. IsName (settings_of node) e.0.object × IsName (settings_of node) e.0.server);
    alone = λ none. refl;
    few = let none = ap length (no_rows (settings_of node).base 0 ((settings_of node).base * (settings_of node).digits)) in omega (arith, none);
    parents = sound.parents;
    cast_parents = All-nil (λ s. IsParent (settings_of node) s.parent);
  }

  -- one of a core node that leaves all but the pointers
  pub keeps_pointers : (after : NodeState) → PairsHaveNames (settings_of node) after.pointers
      → knows_pairs after.status ≡ true → after.ties.table ≡ node.ties.table → after.sessions ≡ node.sessions
      → after.cast_sessions ≡ node.cast_sessions → KeepsSound node after
  keeps_pointers after pairs knows table sessions casts = record {
    pairs = pairs;
    alone = λ none. absurd (true≢false (sym knows ∙ none));
    few = rw table sound.few;
    parents = rw sessions sound.parents;
    cast_parents = rw casts sound.cast_parents;
  }
