-- What an accepted step shows: no cause of a refusal holds.
use Rattle.std.proofs.Common.{◌≡◌, ℕ, zero, suc, ◌≤◌, Bool, true, false, not, List, [], ◌∷◌, length, get_or, Option, None, Some, refl, ap, sym, ◌∙◌, arith}
use Rattle.std.specs.Prelude.{◌&&◌, nat_le, nat_lt}
use Rattle.std.proofs.lemmas.Bool.{leb-false, ltb-false}
use Rattle.tap_name.specs.Names.{has_name}
use Rattle.tap_scenario.specs.declared.step.Step.{Step}
use Rattle.tap_log.specs.declared.record.Record.{Record}
use Rattle.tap_log.specs.declared.record.Refusal.{Refusal}
use Rattle.tap_log.specs.declared.record.Refusal.TheVariants.{AlreadyAbandoned, Departing, LastNode, NameTaken, NotAtRest, NotCore, NotJoining, TooManyNodes}
use Rattle.tap_history.specs.Core.{abandoned_of, core_of, present_of}
use Rattle.tap_history.specs.Departing.{departing_of}
use Rattle.tap_history.specs.Moments.{outstanding}
use Rattle.tap_history.specs.Names.{name_count, names_of}
use Rattle.tap_history.specs.Refusals.{first_refusal, first_some, is_and, is_joining, is_only_core, refusals, refused_if, refuses_already_abandoned, refuses_departing, refuses_last_node, refuses_name_taken, refuses_not_at_rest, refuses_not_core, refuses_not_joining, refuses_too_many_nodes, while_departing}
use Rattle.tap_history.specs.StepAsks.{abandon_name, asked_node, depart_name, join_name, suits_departure, suits_joining}
use Rattle.tap_runs.proofs.Nodes.{asked_is_present, cause_fails, first_none}

-- none of the refusals is there
none_at : (refusals : List (Option Refusal)) (i : ℕ) → first_some refusals ≡ None → get_or refusals i None ≡ None
none_at [] i none = refl
none_at (refusal ∷ others) zero none = (first_none refusal others none).0
none_at (refusal ∷ others) (suc i) none = none_at others i (first_none refusal others none).1

-- who is present and doesn't join is core
core_if : (present core : Bool) → present ≡ true → (present && not core) ≡ false → core ≡ true
core_if true true there joins = refl
core_if true false there joins = absurd (cc)
core_if false core there joins = absurd (cc)

-- what isn't above nothing is nothing
not_above_zero : (n : ℕ) → nat_lt 0 n ≡ false → n ≡ 0
not_above_zero n none = let least = ltb-false 0 n none in omega (arith, least)

-- fewer than 256 are 255 at most
has_room_for : (n : ℕ) → nat_le 256 n ≡ false → n ≤ 255
has_room_for n none = let less = leb-false 256 n none in omega (arith, less)

module _ (log : List Record) (step : Step) (accepted : first_refusal log step ≡ None) where
  -- none of the step's refusals is there
  no_refusal : (i : ℕ) → get_or (refusals log step) i None ≡ None
  no_refusal i = none_at (refusals log step) i accepted

  -- the node that is asked is core, if a joining one can't answer
  pub asked_is_core : (name : List ℕ) → asked_node step ≡ Some name → suits_joining step ≡ false → has_name (core_of log) name ≡ true
  unfolding refuses_not_core
  asked_is_core name asked suits =
      let none : refuses_not_core log step ≡ None = no_refusal 1 in
      let fails = cause_fails (not (suits_joining step) && is_and (asked_node step) (is_joining log)) NotCore none in
      let joins : is_joining log name ≡ false =
      sym (ap (λ b. not b && is_and (asked_node step) (is_joining log)) suits ∙ ap (λ o. is_and o (is_joining log)) asked) ∙ fails in
      core_if (has_name (present_of log) name) (has_name (core_of log) name) (asked_is_present log step name accepted asked) joins

  -- nobody departs, if the step can't be run then
  pub nobody_departs : suits_departure step ≡ false → departing_of log ≡ None
  unfolding refuses_departing
  nobody_departs suits = by_leaver (departing_of log) refl
    where
      by_leaver : (leaver : Option (List ℕ)) → departing_of log ≡ leaver → departing_of log ≡ None
      by_leaver None is = is
      by_leaver (Some leaver) is =
          let none : refuses_departing log step ≡ None = no_refusal 2 in
          let some : refused_if (not (suits_departure step)) (Departing leaver) ≡ None = sym (ap (while_departing step) is) ∙ none in
          let fails = cause_fails (not (suits_departure step)) (Departing leaver) some in
          let wrong : true ≡ false = sym (ap not suits) ∙ fails in absurd (cc)

  -- a departure starts at rest, of a core node that isn't the only one
  module _ (name : List ℕ) (departs : depart_name step ≡ Some name) where
    -- no frame is outstanding
    pub departs_at_rest : length (outstanding log) ≡ 0
    unfolding refuses_not_at_rest
    departs_at_rest =
        let frames = length (outstanding log) in
        let none : refuses_not_at_rest log step ≡ None = no_refusal 3 in
        let fails = cause_fails (is_and (depart_name step) (λ x. nat_lt 0 frames)) (NotAtRest frames) none in
        not_above_zero frames (sym (ap (λ o. is_and o (λ x. nat_lt 0 frames)) departs) ∙ fails)

    -- it isn't the one core node
    pub others_stay : is_only_core log name ≡ false
    unfolding refuses_last_node
    others_stay =
        let none : refuses_last_node log step ≡ None = no_refusal 6 in
        let fails = cause_fails (is_and (depart_name step) (is_only_core log)) LastNode none in
        sym (ap (λ o. is_and o (is_only_core log)) departs) ∙ fails

  -- a name that joins is new, and one more has room
  module _ (name : List ℕ) (joins : join_name step ≡ Some name) where
    -- no node of this name was ever present
    pub joins_anew : has_name (names_of log) name ≡ false
    unfolding refuses_name_taken
    joins_anew =
        let none : refuses_name_taken log step ≡ None = no_refusal 4 in
        let fails = cause_fails (is_and (join_name step) (has_name (names_of log))) NameTaken none in
        sym (ap (λ o. is_and o (has_name (names_of log))) joins) ∙ fails

    -- at most 255 names were ever present
    pub has_room : name_count log ≤ 255
    unfolding refuses_too_many_nodes
    has_room =
        let none : refuses_too_many_nodes log step ≡ None = no_refusal 5 in
        let fails = cause_fails (is_and (join_name step) (λ x. nat_le 256 (name_count log))) TooManyNodes none in
        has_room_for (name_count log) (sym (ap (λ o. is_and o (λ x. nat_le 256 (name_count log))) joins) ∙ fails)

  -- who gives its join up isn't core, and hasn't given it up before
  module _ (name : List ℕ) (gives_up : abandon_name step ≡ Some name) where
    -- it isn't core
    pub gives_up_joining : has_name (core_of log) name ≡ false
    unfolding refuses_not_joining
    gives_up_joining =
        let none : refuses_not_joining log step ≡ None = no_refusal 12 in
        let fails = cause_fails (is_and (abandon_name step) (has_name (core_of log))) NotJoining none in
        sym (ap (λ o. is_and o (has_name (core_of log))) gives_up) ∙ fails

    -- it wasn't to give up before
    pub gives_up_once : has_name (abandoned_of log) name ≡ false
    unfolding refuses_already_abandoned
    gives_up_once =
        let none : refuses_already_abandoned log step ≡ None = no_refusal 13 in
        let fails = cause_fails (is_and (abandon_name step) (has_name (abandoned_of log))) AlreadyAbandoned none in
        sym (ap (λ o. is_and o (has_name (abandoned_of log))) gives_up) ∙ fails
