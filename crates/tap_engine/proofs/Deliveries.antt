-- Why the place of a delivery is refused.
use Rattle.std.proofs.Common.{◌≡◌, ℕ, false, nat_le, List, [], ◌∷◌, length, Option, None, Some, refl, ap, ◌∙◌}
use Rattle.std.specs.Prelude.{if◌then◌else◌}
use Rattle.tap_scenario.specs.declared.step.Step.TheVariants.{Deliver}
use Rattle.tap_log.specs.declared.record.Record.{Record}
use Rattle.tap_log.specs.declared.record.Refusal.{Refusal}
use Rattle.tap_log.specs.declared.record.Refusal.TheVariants.{NoSuchFlight}
use Rattle.tap_log.specs.Kinds.{is_carried}
use Rattle.tap_history.specs.Departing.{departing_of}
use Rattle.tap_history.specs.Moments.{outstanding, under_way}
use Rattle.tap_history.specs.Refusals.{damaged, first_some, packets_of_step, refused_if, refuses_already_abandoned, refuses_already_published, refuses_departing, refuses_last_node, refuses_name_taken, refuses_no_such_byte, refuses_no_such_flight, refuses_no_such_node, refuses_not_at_rest, refuses_not_core, refuses_not_in_prefix, refuses_not_joining, refuses_not_published, refuses_readable, refuses_too_many_nodes, refuses_too_many_packets, while_departing}
use Rattle.tap_history.specs.StepAsks.{abandon_name, asked_node, depart_name, flight_place, join_name, publish_pair, suits_departure, suits_joining, withdraw_pair}
use Rattle.tap_engine.specs.Growth.{DeliveriesRefused, place_refused}

-- ---- places

skip : (first : Option Refusal) (others : List (Option Refusal)) → first ≡ None → first_some (first ∷ others) ≡ first_some others
skip None others none = refl
skip (Some refusal) others none = absurd (cc)

only : (first : Option Refusal) (others : List (Option Refusal)) → first_some others ≡ None → first_some (first ∷ others) ≡ first
only None others none = none
only (Some refusal) others none = refl

module _ (log : List Record) (place : ℕ) where
  no_node : refuses_no_such_node log (Deliver place) ≡ None
  unfolding refuses_no_such_node asked_node
  no_node = refl

  no_core : refuses_not_core log (Deliver place) ≡ None
  unfolding refuses_not_core asked_node suits_joining
  no_core = refl

  while : (leaver : Option (List ℕ)) → while_departing (Deliver place) leaver ≡ None
  unfolding suits_departure
  while None = refl
  while (Some name) = refl

  no_departing : refuses_departing log (Deliver place) ≡ None
  unfolding refuses_departing
  no_departing = while (departing_of log)

  no_rest : refuses_not_at_rest log (Deliver place) ≡ None
  unfolding refuses_not_at_rest depart_name
  no_rest = refl

  no_taken : refuses_name_taken log (Deliver place) ≡ None
  unfolding refuses_name_taken join_name
  no_taken = refl

  no_many : refuses_too_many_nodes log (Deliver place) ≡ None
  unfolding refuses_too_many_nodes join_name
  no_many = refl

  no_last : refuses_last_node log (Deliver place) ≡ None
  unfolding refuses_last_node depart_name
  no_last = refl

  no_published : refuses_already_published log (Deliver place) ≡ None
  unfolding refuses_already_published publish_pair
  no_published = refl

  no_withdrawn : refuses_not_published log (Deliver place) ≡ None
  unfolding refuses_not_published withdraw_pair
  no_withdrawn = refl

  no_byte : refuses_no_such_byte log (Deliver place) ≡ None
  unfolding refuses_no_such_byte
  no_byte = refl

  no_readable : refuses_readable log (Deliver place) ≡ None
  unfolding refuses_readable damaged
  no_readable = refl

  no_joining : refuses_not_joining log (Deliver place) ≡ None
  unfolding refuses_not_joining abandon_name
  no_joining = refl

  no_abandoned : refuses_already_abandoned log (Deliver place) ≡ None
  unfolding refuses_already_abandoned abandon_name
  no_abandoned = refl

  no_packets : refuses_too_many_packets log (Deliver place) ≡ None
  unfolding refuses_too_many_packets packets_of_step
  no_packets = refl

  no_prefix : refuses_not_in_prefix log (Deliver place) ≡ None
  unfolding refuses_not_in_prefix
  no_prefix = refl

  later : first_some (refuses_no_such_byte log (Deliver place) ∷ refuses_readable log (Deliver place)
      ∷ refuses_not_joining log (Deliver place) ∷ refuses_already_abandoned log (Deliver place)
      ∷ refuses_too_many_packets log (Deliver place) ∷ refuses_not_in_prefix log (Deliver place) ∷ []) ≡ None
  later =
      skip _ _ no_byte ∙ skip _ _ no_readable ∙ skip _ _ no_joining ∙ skip _ _ no_abandoned ∙ skip _ _ no_packets ∙ skip _ _ no_prefix

  flight : is_carried log ≡ false → refuses_no_such_flight log (Deliver place) ≡ place_refused (length (outstanding log)) place
  unfolding refuses_no_such_flight flight_place
  flight uncarried =
      ap (λ c. let count = if c then length (under_way log) else length (outstanding log) in
      refused_if (nat_le count place) (NoSuchFlight count)) uncarried

pub deliveries_refused : DeliveriesRefused
deliveries_refused log place uncarried =
    skip _ _ (no_node log place) ∙ skip _ _ (no_core log place) ∙ skip _ _ (no_departing log place) ∙ skip _ _ (no_rest log place)
    ∙ skip _ _ (no_taken log place) ∙ skip _ _ (no_many log place) ∙ skip _ _ (no_last log place) ∙ skip _ _ (no_published log place)
    ∙ skip _ _ (no_withdrawn log place) ∙ only _ _ (later log place) ∙ flight log place uncarried
