-- A step that starts or observes something is refused alike after a log of turns and after its reduced log.
use Rattle.std.proofs.Common.{Bool, ◌≡◌, ◌+◌, true, not, List, [], ◌∷◌, length, drop, Option, None, Some, refl, ap, sym, ◌∙◌}
use Rattle.std.specs.Prelude.{nat_le, nat_lt, ◌&&◌, ◌==◌}
use Rattle.std.proofs.lemmas.Bool.{false≢true}
use Rattle.tap_name.specs.Names.{has_name}
use Rattle.tap_scenario.specs.declared.step.Step.{Step}
use Rattle.tap_scenario.specs.declared.step.Step.TheVariants.{Cast, Deliver, Garble, Cut, Tick, Lose, Repeat}
use Rattle.tap_log.specs.declared.record.Record.{Record}
use Rattle.tap_log.specs.declared.record.Refusal.{Refusal}
use Rattle.tap_log.specs.declared.record.Refusal.TheVariants.{NoSuchNode, NotCore, NotAtRest, NameTaken, TooManyNodes, LastNode, AlreadyPublished, NotPublished, NoSuchFlight, Readable, NotJoining, AlreadyAbandoned, TooManyPackets}
use Rattle.tap_log.specs.Counts.{resent_count}
use Rattle.tap_log.specs.Reduced.{reduced}
use Rattle.tap_history.specs.Core.{core_of, present_of}
use Rattle.tap_history.specs.Flights.{flight_count}
use Rattle.tap_history.specs.Published.{has_pair}
use Rattle.tap_history.specs.Refusals.{begin_settings, damaged, first_refusal, first_some, is_and, is_readable, packets_of_step, refusals, refused_if, refuses_already_abandoned, refuses_already_published, refuses_departing, refuses_last_node, refuses_name_taken, refuses_no_such_byte, refuses_no_such_flight, refuses_no_such_node, refuses_not_at_rest, refuses_not_core, refuses_not_in_prefix, refuses_not_joining, refuses_not_published, refuses_readable, refuses_too_many_nodes, refuses_too_many_packets, while_departing}
use Rattle.tap_history.specs.StepAsks.{abandon_name, asked_node, depart_name, flight_place, join_name, publish_pair, suits_joining, withdraw_pair}
use Rattle.tap_carried.specs.ReducedLogs.{starts_or_observes}
use Rattle.tap_carried.proofs.SameNodes.{SaysAlike, abandoned_are, core_is, names_are, present_is, published_is}
use Rattle.tap_carried.proofs.SameTold.{reduced_outstanding}

-- a start or an observation has no place, damages no copy, and makes no packets
no_flight : (step : Step) → starts_or_observes step ≡ true → flight_place step ≡ None
unfolding starts_or_observes flight_place
no_flight (Deliver place) is = absurd (false≢true is)
no_flight (Garble place at byte) is = absurd (false≢true is)
no_flight (Cut place bytes) is = absurd (false≢true is)
no_flight (Lose place) is = absurd (false≢true is)
no_flight (Repeat place) is = absurd (false≢true is)
no_flight step is = refl

no_byte : (log : List Record) (step : Step) → starts_or_observes step ≡ true → refuses_no_such_byte log step ≡ None
unfolding starts_or_observes refuses_no_such_byte
no_byte log (Garble place at byte) is = absurd (false≢true is)
no_byte log (Cut place bytes) is = absurd (false≢true is)
no_byte log step is = refl

no_copy : (log : List Record) (step : Step) → starts_or_observes step ≡ true → damaged log step ≡ None
unfolding starts_or_observes damaged
no_copy log (Garble place at byte) is = absurd (false≢true is)
no_copy log (Cut place bytes) is = absurd (false≢true is)
no_copy log step is = refl

no_packets : (log : List Record) (step : Step) → starts_or_observes step ≡ true → packets_of_step log step ≡ None
unfolding starts_or_observes packets_of_step
no_packets log Tick is = absurd (false≢true is)
no_packets log (Repeat place) is = absurd (false≢true is)
no_packets log step is = refl

by_prefix : (log other : List Record) (step : Step) → refuses_not_in_prefix log step ≡ refuses_not_in_prefix other step
unfolding refuses_not_in_prefix
by_prefix log other (Cast word prefix asker) = refl
by_prefix log other step = refl

first_same : (one other : Option Refusal) (rest others : List (Option Refusal)) → one ≡ other → first_some rest ≡ first_some others
    → first_some (one ∷ rest) ≡ first_some (other ∷ others)
first_same one other rest others same next = ap (λ o. first_some (o ∷ rest)) same ∙ by_one other
  where
    by_one : (o : Option Refusal) → first_some (o ∷ rest) ≡ first_some (o ∷ others)
    by_one None = next
    by_one (Some refusal) = refl

module _ (c : Bool) (log : List Record) (kept : SaysAlike c log) (step : Step) (is : starts_or_observes step ≡ true) where
  abbrev less : List Record
  less = reduced log

  node_same : refuses_no_such_node less step ≡ refuses_no_such_node log step
  unfolding refuses_no_such_node
  node_same = ap (λ l. refused_if (is_and (asked_node step) (λ name. not (has_name l name))) NoSuchNode) (present_is c log kept)

  core_same : refuses_not_core less step ≡ refuses_not_core log step
  unfolding refuses_not_core
  core_same =
      ap (λ l. refused_if (not (suits_joining step) && is_and (asked_node step) (λ name. has_name l name && not (has_name (core_of less) name))) NotCore)
      (present_is c log kept)
      ∙ ap (λ l. refused_if (not (suits_joining step) && is_and (asked_node step) (λ name. has_name (present_of log) name && not (has_name l name))) NotCore)
      (core_is c log kept)

  departing_same : refuses_departing less step ≡ refuses_departing log step
  unfolding refuses_departing
  departing_same = ap (while_departing step) kept.departing

  rest_same : refuses_not_at_rest less step ≡ refuses_not_at_rest log step
  unfolding refuses_not_at_rest
  rest_same = ap (λ l. refused_if (is_and (depart_name step) (λ name. nat_lt 0 (length l))) (NotAtRest (length l))) (reduced_outstanding log)

  taken_same : refuses_name_taken less step ≡ refuses_name_taken log step
  unfolding refuses_name_taken
  taken_same = ap (λ l. refused_if (is_and (join_name step) (has_name l)) NameTaken) (names_are c log kept)

  many_same : refuses_too_many_nodes less step ≡ refuses_too_many_nodes log step
  unfolding refuses_too_many_nodes
  many_same = ap (λ l. refused_if (is_and (join_name step) (λ name. nat_le 256 (length l))) TooManyNodes) (names_are c log kept)

  last_same : refuses_last_node less step ≡ refuses_last_node log step
  unfolding refuses_last_node
  last_same = ap (λ l. refused_if (is_and (depart_name step) (λ name. has_name l name && (length l == 1))) LastNode) (core_is c log kept)

  published_same : refuses_already_published less step ≡ refuses_already_published log step
  unfolding refuses_already_published
  published_same = ap (λ l. refused_if (is_and (publish_pair step) (has_pair l)) AlreadyPublished) (published_is c log kept)

  withdrawn_same : refuses_not_published less step ≡ refuses_not_published log step
  unfolding refuses_not_published
  withdrawn_same = ap (λ l. refused_if (is_and (withdraw_pair step) (λ pair. not (has_pair l pair))) NotPublished) (published_is c log kept)

  no_flight_in : (l : List Record) → refuses_no_such_flight l step ≡ None
  unfolding refuses_no_such_flight
  no_flight_in l = ap (λ o. refused_if (is_and o (nat_le (flight_count l))) (NoSuchFlight (flight_count l))) (no_flight step is)

  no_copy_in : (l : List Record) → refuses_readable l step ≡ None
  unfolding refuses_readable
  no_copy_in l = ap (λ o. refused_if (is_and o (is_readable (begin_settings l))) Readable) (no_copy l step is)

  joining_same : refuses_not_joining less step ≡ refuses_not_joining log step
  unfolding refuses_not_joining
  joining_same = ap (λ l. refused_if (is_and (abandon_name step) (has_name l)) NotJoining) (core_is c log kept)

  abandoned_same : refuses_already_abandoned less step ≡ refuses_already_abandoned log step
  unfolding refuses_already_abandoned
  abandoned_same = ap (λ l. refused_if (is_and (abandon_name step) (has_name l)) AlreadyAbandoned) (abandoned_are c log kept)

  no_packets_in : (l : List Record) → refuses_too_many_packets l step ≡ None
  unfolding refuses_too_many_packets
  no_packets_in l =
      ap (λ o. refused_if (is_and o (λ more. nat_lt 100000 (resent_count l + more))) (TooManyPackets (resent_count l))) (no_packets l step is)

  pub refusal_same : first_refusal less step ≡ first_refusal log step
  refusal_same =
      first_same _ _ (drop 1 (refusals less step)) (drop 1 (refusals log step)) node_same
      (first_same _ _ (drop 2 (refusals less step)) (drop 2 (refusals log step)) core_same
      (first_same _ _ (drop 3 (refusals less step)) (drop 3 (refusals log step)) departing_same
      (first_same _ _ (drop 4 (refusals less step)) (drop 4 (refusals log step)) rest_same
      (first_same _ _ (drop 5 (refusals less step)) (drop 5 (refusals log step)) taken_same
      (first_same _ _ (drop 6 (refusals less step)) (drop 6 (refusals log step)) many_same
      (first_same _ _ (drop 7 (refusals less step)) (drop 7 (refusals log step)) last_same
      (first_same _ _ (drop 8 (refusals less step)) (drop 8 (refusals log step)) published_same
      (first_same _ _ (drop 9 (refusals less step)) (drop 9 (refusals log step)) withdrawn_same
      (first_same _ _ (drop 10 (refusals less step)) (drop 10 (refusals log step)) (no_flight_in less ∙ sym (no_flight_in log))
      (first_same _ _ (drop 11 (refusals less step)) (drop 11 (refusals log step)) (no_byte less step is ∙ sym (no_byte log step is))
      (first_same _ _ (drop 12 (refusals less step)) (drop 12 (refusals log step)) (no_copy_in less ∙ sym (no_copy_in log))
      (first_same _ _ (drop 13 (refusals less step)) (drop 13 (refusals log step)) joining_same
      (first_same _ _ (drop 14 (refusals less step)) (drop 14 (refusals log step)) abandoned_same
      (first_same _ _ (drop 15 (refusals less step)) (drop 15 (refusals log step)) (no_packets_in less ∙ sym (no_packets_in log))
      (first_same _ _ [] [] (by_prefix less log step) refl)))))))))))))))
