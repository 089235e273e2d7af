-- What a run says of walks and roots.
use Rattle.std.proofs.Common.{◌≡◌, ◌⊎◌, inl, inr, ℕ, List, [], ◌∷◌, Option, None, Some, refl, ap, sym, ◌∙◌}
use Rattle.std.specs.Prelude.{drop}
use Rattle.std.specs.Option.{option_map}
use Rattle.tap_name.specs.Name.{IsName}
use Rattle.tap_name.specs.Names.{Among, first_of}
use Rattle.tap_name.specs.Root.{root}
use Rattle.tap_name.proofs.Membership.{has_name-Decides}
use Rattle.tap_scenario.specs.declared.step.Step.{Step}
use Rattle.tap_scenario.specs.declared.step.Step.TheVariants.{Root, Walk}
use Rattle.tap_log.specs.declared.record.Record.{Record}
use Rattle.tap_log.specs.declared.record.Record.TheVariants.{RootOf, Step as StepRecord}
use Rattle.tap_log.specs.declared.record.Refusal.{Refusal}
use Rattle.tap_log.specs.MoreRecords.{at_most_one}
use Rattle.tap_history.specs.Core.{core_of}
use Rattle.tap_history.specs.Refusals.{damaged, first_refusal, first_some, packets_of_step, refusals, refuses_already_abandoned, refuses_already_published, refuses_departing, refuses_last_node, refuses_name_taken, refuses_no_such_byte, refuses_no_such_flight, refuses_no_such_node, refuses_not_at_rest, refuses_not_core, refuses_not_in_prefix, refuses_not_joining, refuses_not_published, refuses_readable, refuses_too_many_nodes, refuses_too_many_packets, while_departing}
use Rattle.tap_history.specs.Departing.{departing_of}
use Rattle.tap_history.specs.StepAsks.{abandon_name, asked_node, depart_name, flight_place, join_name, publish_pair, suits_departure, suits_joining, withdraw_pair}
use Rattle.tap_surrogate.specs.Walk.{walk_end}
use Rattle.tap_safety.specs.Bookkeeping.{HasCore}
use Rattle.tap_runs.specs.Beginning.{Beginning}
use Rattle.tap_runs.specs.Course.{Follows, IsRefused, MayFollow, is_choice, system_of}
use Rattle.tap_runs.specs.Group.{accepted_records, records_unless}
use Rattle.tap_runs.specs.Observed.{observed}
use Rattle.tap_safe_runs.specs.Printed.{IsTheRoot, IsWalkToRoot, RootsAreFound, WalksAreToRoots}
use Rattle.tap_safe_runs.specs.Safe.{IsRun}
use Rattle.tap_safe_runs.proofs.Accepted.{asked_is_core}
use Rattle.tap_safe_runs.proofs.Moments.{core_names, sound, walks_end}

-- ---- walks

module _ (b : Beginning) (log : List Record) (index : ℕ) (object from : List ℕ) (items : List Record) (run : IsRun b log)
    (name : IsName b.settings object) where
  abbrev walks : Step
  walks = Walk object from

  -- the asker of an accepted walk is core
  from_core : first_refusal log walks ≡ None → Among from (core_of log)
  unfolding asked_node suits_joining
  from_core accepted = (has_name-Decides (core_of log) from).0 (asked_is_core log walks accepted from refl refl)

  -- a walk is refused, or told
  walk_kind : (refusal : Option Refusal) → first_refusal log walks ≡ refusal
      → items ≡ records_unless b.settings log (system_of log) index walks refusal
      → IsRefused index items ⊎ IsWalkToRoot b.settings log object from items
  unfolding accepted_records observed
  walk_kind (Some refusal) is are = inl (record { refusal = refusal; is = are })
  walk_kind None is are = inr (record {
    path = _;
    is = are;
    core = from_core is;
    leads = walks_end b log run from object (from_core is) name;
  })

  -- what follows the step of a walk
  walk_follows : Follows b log (StepRecord index walks ∷ items) → IsRefused index items ⊎ IsWalkToRoot b.settings log object from items
  unfolding MayFollow is_choice
  walk_follows follows = walk_kind (first_refusal log walks) refl follows.may

pub walks_are_to_roots : WalksAreToRoots
walks_are_to_roots b log index object from items run name follows = walk_follows b log index object from items run name follows

-- ---- roots

-- a list that isn't empty has an end
record HasEnd (path : List (List ℕ)) : Type 0 where
  end : List ℕ
  is : walk_end path ≡ Some end

-- a list with a first name has an end
end_from : (x : List ℕ) (path : List (List ℕ)) → HasEnd (x ∷ path)
end_from x [] = record { end = x; is = refl }
end_from x (y ∷ path) = let rest = end_from y path in record { end = rest.end; is = rest.is }

-- and so has one whose first name is there
end_of : (path : List (List ℕ)) (x : List ℕ) → first_of path ≡ Some x → HasEnd path
end_of [] x first = absurd (cc)
end_of (y ∷ path) x first = end_from y path

module _ (b : Beginning) (log : List Record) (index : ℕ) (object : List ℕ) (items : List Record) (run : IsRun b log)
    (name : IsName b.settings object) where
  -- some node is core, and its walk ends at the root
  root_there : (found : Option (List ℕ)) → root b.settings.base (core_of log) object ≡ found
      → items ≡ at_most_one (option_map (RootOf object) found) → IsTheRoot b.settings log object items
  root_there (Some found) is are = record { found = found; is = are; root = is }
  root_there None is are =
      let core : HasCore (system_of log) = (sound b log run).invariant.basis.has_core in
      let among = (core_names b log run core.name).1 core.core in
      let leads = walks_end b log run core.name object among name in
      let end = end_of _ core.name leads.begins in
      let wrong : Some end.end ≡ None = sym end.is ∙ leads.ends ∙ is in
      absurd (cc)

  -- a root may be asked for whoever departs
  nobody_hinders : (leaver : Option (List ℕ)) → while_departing (Root object) leaver ≡ None
  unfolding suits_departure
  nobody_hinders None = refl
  nobody_hinders (Some leaver) = refl

  -- a step that asks for a root has no cause to be refused
  root_accepted : first_refusal log (Root object) ≡ None
  unfolding refuses_no_such_node refuses_not_core refuses_departing refuses_not_at_rest refuses_name_taken refuses_too_many_nodes refuses_last_node refuses_already_published refuses_not_published refuses_no_such_flight refuses_no_such_byte refuses_readable refuses_not_joining refuses_already_abandoned refuses_too_many_packets refuses_not_in_prefix asked_node join_name depart_name publish_pair withdraw_pair flight_place suits_joining abandon_name damaged packets_of_step
  root_accepted =
      let step = Root object in
      ap (λ r. first_some (refuses_no_such_node log step ∷ refuses_not_core log step ∷ r ∷ drop 3 (refusals log step)))
      (nobody_hinders (departing_of log))

  -- what follows the step that asks for a root
  root_follows : Follows b log (StepRecord index (Root object) ∷ items) → IsTheRoot b.settings log object items
  unfolding MayFollow is_choice accepted_records observed
  root_follows follows =
      root_there (root b.settings.base (core_of log) object) refl
      (follows.may ∙ ap (records_unless b.settings log (system_of log) index (Root object)) root_accepted)

pub roots_are_found : RootsAreFound
roots_are_found b log index object items run name follows = root_follows b log index object items run name follows
