-- Why a step that chooses frames is refused: a settle never is, and a `deliver` only if no frame is at its place.
-- Cited above: deliver_refusal, mixed_accepted, newest_accepted, settle_accepted
use Rattle.std.proofs.Common.{◌≡◌, ℕ, ◌+◌, Bool, true, false, not, List, [], ◌∷◌, length, Option, None, Some, refl, ap, ◌∙◌}
use Rattle.std.specs.Prelude.{◌&&◌, nat_le, nat_lt, if◌then◌else◌}
use Rattle.tap_name.specs.Names.{has_name}
use Rattle.tap_scenario.specs.declared.step.Step.{Step}
use Rattle.tap_scenario.specs.declared.step.Step.TheVariants.{Deliver, Settle, SettleNewest, SettleMixed}
use Rattle.tap_log.specs.declared.record.Record.{Record}
use Rattle.tap_log.specs.declared.record.Refusal.{Refusal}
use Rattle.tap_log.specs.declared.record.Refusal.TheVariants.{NoSuchNode, NotCore, Departing, NotAtRest, NameTaken, TooManyNodes, LastNode, AlreadyPublished, NotPublished, NoSuchFlight, Readable, NotJoining, AlreadyAbandoned, TooManyPackets}
use Rattle.tap_log.specs.Counts.{resent_count}
use Rattle.tap_log.specs.Kinds.{is_carried}
use Rattle.tap_history.specs.Core.{abandoned_of, core_of, present_of}
use Rattle.tap_history.specs.Departing.{departing_of}
use Rattle.tap_history.specs.Moments.{outstanding, under_way}
use Rattle.tap_history.specs.Names.{name_count, names_of}
use Rattle.tap_history.specs.Published.{has_pair, published_of}
use Rattle.tap_history.specs.Refusals.{begin_settings, damaged, first_refusal, first_some, is_and, is_joining, is_only_core, is_readable, packets_of_step, refused_if, refuses_already_abandoned, refuses_already_published, refuses_departing, refuses_last_node, refuses_name_taken, refuses_no_such_byte, refuses_no_such_flight, refuses_no_such_node, refuses_not_at_rest, refuses_not_core, refuses_not_in_prefix, refuses_not_joining, refuses_not_published, refuses_readable, refuses_too_many_nodes, refuses_too_many_packets, while_departing}
use Rattle.tap_history.specs.StepAsks.{abandon_name, asked_node, depart_name, flight_place, join_name, publish_pair, suits_departure, suits_joining, withdraw_pair}

-- the step asks for no node and no pair, and may be run while a node departs
record AsksNothing (step : Step) : Type 0 where
  asked : asked_node step ≡ None
  suits : suits_departure step ≡ true
  departs : depart_name step ≡ None
  joins : join_name step ≡ None
  publishes : publish_pair step ≡ None
  withdraws : withdraw_pair step ≡ None
  abandons : abandon_name step ≡ None

-- it makes no copy and no packet, and casts nothing
record MakesNothing (step : Step) : Type 0 where
  bytes : (log : List Record) → refuses_no_such_byte log step ≡ None
  copies : (log : List Record) → damaged log step ≡ None
  packets : (log : List Record) → packets_of_step log step ≡ None
  prefix : (log : List Record) → refuses_not_in_prefix log step ≡ None

record IsFree (step : Step) : Type 0 where
  asks : AsksNothing step
  makes : MakesNothing step

skip : (one : Option Refusal) (others : List (Option Refusal)) → one ≡ None → first_some (one ∷ others) ≡ first_some others
skip one others none = ap (λ o. first_some (o ∷ others)) none

only : (one : Option Refusal) (others : List (Option Refusal)) → first_some others ≡ None → first_some (one ∷ others) ≡ one
only None others none = none
only (Some refusal) others none = refl

and_false : (b : Bool) → (b && false) ≡ false
and_false true = refl
and_false false = refl

module _ (log : List Record) (step : Step) (free : IsFree step) where
  no_node : refuses_no_such_node log step ≡ None
  unfolding refuses_no_such_node
  no_node = ap (λ o. refused_if (is_and o (λ name. not (has_name (present_of log) name))) NoSuchNode) free.asks.asked

  no_core : refuses_not_core log step ≡ None
  unfolding refuses_not_core
  no_core =
      ap (λ o. refused_if (not (suits_joining step) && is_and o (is_joining log)) NotCore) free.asks.asked
      ∙ ap (λ b. refused_if b NotCore) (and_false (not (suits_joining step)))

  suits_all : (leaver : Option (List ℕ)) → while_departing step leaver ≡ None
  suits_all None = refl
  suits_all (Some leaver) = ap (λ b. refused_if (not b) (Departing leaver)) free.asks.suits

  no_departing : refuses_departing log step ≡ None
  unfolding refuses_departing
  no_departing = suits_all (departing_of log)

  no_rest : refuses_not_at_rest log step ≡ None
  unfolding refuses_not_at_rest
  no_rest =
      ap (λ o. refused_if (is_and o (λ name. nat_lt 0 (length (outstanding log)))) (NotAtRest (length (outstanding log)))) free.asks.departs

  no_taken : refuses_name_taken log step ≡ None
  unfolding refuses_name_taken
  no_taken = ap (λ o. refused_if (is_and o (has_name (names_of log))) NameTaken) free.asks.joins

  no_many : refuses_too_many_nodes log step ≡ None
  unfolding refuses_too_many_nodes
  no_many = ap (λ o. refused_if (is_and o (λ name. nat_le 256 (name_count log))) TooManyNodes) free.asks.joins

  no_last : refuses_last_node log step ≡ None
  unfolding refuses_last_node
  no_last = ap (λ o. refused_if (is_and o (is_only_core log)) LastNode) free.asks.departs

  no_published : refuses_already_published log step ≡ None
  unfolding refuses_already_published
  no_published = ap (λ o. refused_if (is_and o (has_pair (published_of log))) AlreadyPublished) free.asks.publishes

  no_withdrawn : refuses_not_published log step ≡ None
  unfolding refuses_not_published
  no_withdrawn = ap (λ o. refused_if (is_and o (λ pair. not (has_pair (published_of log) pair))) NotPublished) free.asks.withdraws

  no_readable : refuses_readable log step ≡ None
  unfolding refuses_readable
  no_readable = ap (λ o. refused_if (is_and o (is_readable (begin_settings log))) Readable) (free.makes.copies log)

  no_joining : refuses_not_joining log step ≡ None
  unfolding refuses_not_joining
  no_joining = ap (λ o. refused_if (is_and o (has_name (core_of log))) NotJoining) free.asks.abandons

  no_abandoned : refuses_already_abandoned log step ≡ None
  unfolding refuses_already_abandoned
  no_abandoned = ap (λ o. refused_if (is_and o (has_name (abandoned_of log))) AlreadyAbandoned) free.asks.abandons

  no_packets : refuses_too_many_packets log step ≡ None
  unfolding refuses_too_many_packets
  no_packets =
      ap (λ o. refused_if (is_and o (λ more. nat_lt 100000 (resent_count log + more))) (TooManyPackets (resent_count log)))
      (free.makes.packets log)

  later : first_some (refuses_no_such_byte log step ∷ refuses_readable log step ∷ refuses_not_joining log step
      ∷ refuses_already_abandoned log step ∷ refuses_too_many_packets log step ∷ refuses_not_in_prefix log step ∷ []) ≡ None
  later =
      skip _ _ (free.makes.bytes log) ∙ skip _ _ no_readable ∙ skip _ _ no_joining ∙ skip _ _ no_abandoned ∙ skip _ _ no_packets
      ∙ skip _ _ (free.makes.prefix log)

  -- it is refused only for want of a frame at its place
  free_refusal : first_refusal log step ≡ refuses_no_such_flight log step
  free_refusal =
      skip _ _ no_node ∙ skip _ _ no_core ∙ skip _ _ no_departing ∙ skip _ _ no_rest ∙ skip _ _ no_taken ∙ skip _ _ no_many
      ∙ skip _ _ no_last ∙ skip _ _ no_published ∙ skip _ _ no_withdrawn ∙ only _ _ later

-- ---- the steps that choose frames

module _ (place seed : ℕ) where
  deliver_asks : AsksNothing (Deliver place)
  unfolding asked_node suits_departure depart_name join_name publish_pair withdraw_pair abandon_name
  deliver_asks = record {
    asked = refl;
    suits = refl;
    departs = refl;
    joins = refl;
    publishes = refl;
    withdraws = refl;
    abandons = refl;
  }

  deliver_makes : MakesNothing (Deliver place)
  unfolding refuses_no_such_byte damaged packets_of_step refuses_not_in_prefix
  deliver_makes = record { bytes = λ log. refl; copies = λ log. refl; packets = λ log. refl; prefix = λ log. refl }

  deliver_free : IsFree (Deliver place)
  deliver_free = record { asks = deliver_asks; makes = deliver_makes }

  settle_asks : AsksNothing Settle
  unfolding asked_node suits_departure depart_name join_name publish_pair withdraw_pair abandon_name
  settle_asks = record {
    asked = refl;
    suits = refl;
    departs = refl;
    joins = refl;
    publishes = refl;
    withdraws = refl;
    abandons = refl;
  }

  settle_makes : MakesNothing Settle
  unfolding refuses_no_such_byte damaged packets_of_step refuses_not_in_prefix
  settle_makes = record { bytes = λ log. refl; copies = λ log. refl; packets = λ log. refl; prefix = λ log. refl }

  settle_free : IsFree Settle
  settle_free = record { asks = settle_asks; makes = settle_makes }

  newest_asks : AsksNothing SettleNewest
  unfolding asked_node suits_departure depart_name join_name publish_pair withdraw_pair abandon_name
  newest_asks = record {
    asked = refl;
    suits = refl;
    departs = refl;
    joins = refl;
    publishes = refl;
    withdraws = refl;
    abandons = refl;
  }

  newest_makes : MakesNothing SettleNewest
  unfolding refuses_no_such_byte damaged packets_of_step refuses_not_in_prefix
  newest_makes = record { bytes = λ log. refl; copies = λ log. refl; packets = λ log. refl; prefix = λ log. refl }

  newest_free : IsFree SettleNewest
  newest_free = record { asks = newest_asks; makes = newest_makes }

  mixed_asks : AsksNothing (SettleMixed seed)
  unfolding asked_node suits_departure depart_name join_name publish_pair withdraw_pair abandon_name
  mixed_asks = record {
    asked = refl;
    suits = refl;
    departs = refl;
    joins = refl;
    publishes = refl;
    withdraws = refl;
    abandons = refl;
  }

  mixed_makes : MakesNothing (SettleMixed seed)
  unfolding refuses_no_such_byte damaged packets_of_step refuses_not_in_prefix
  mixed_makes = record { bytes = λ log. refl; copies = λ log. refl; packets = λ log. refl; prefix = λ log. refl }

  mixed_free : IsFree (SettleMixed seed)
  mixed_free = record { asks = mixed_asks; makes = mixed_makes }

module _ (log : List Record) where
  -- a `deliver` is refused exactly if no frame is at its place
  pub deliver_refusal : (place : ℕ) → is_carried log ≡ false → first_refusal log (Deliver place)
      ≡ refused_if (nat_le (length (outstanding log)) place) (NoSuchFlight (length (outstanding log)))
  unfolding refuses_no_such_flight flight_place
  deliver_refusal place uncarried =
      free_refusal log (Deliver place) (deliver_free place 0)
      ∙ ap (λ c. let count = if c then length (under_way log) else length (outstanding log) in
      refused_if (nat_le count place) (NoSuchFlight count)) uncarried

  -- a settle never is
  pub settle_accepted : first_refusal log Settle ≡ None
  unfolding refuses_no_such_flight flight_place
  settle_accepted = free_refusal log Settle (settle_free 0 0)

  pub newest_accepted : first_refusal log SettleNewest ≡ None
  unfolding refuses_no_such_flight flight_place
  newest_accepted = free_refusal log SettleNewest (newest_free 0 0)

  pub mixed_accepted : (seed : ℕ) → first_refusal log (SettleMixed seed) ≡ None
  unfolding refuses_no_such_flight flight_place
  mixed_accepted seed = free_refusal log (SettleMixed seed) (mixed_free 0 seed)
