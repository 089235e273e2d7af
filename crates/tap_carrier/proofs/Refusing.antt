-- Why a choice is refused in a carried log: no packet is at its place, or else it would make too many packets once more.
-- Cited above: AreCounted, lose_refusal, mixed_refusal, more_refusal, newest_refusal, place_refusal, repeat_refusal, settle_refusal
use Rattle.std.proofs.Common.{◌≡◌, ◌≢◌, ℕ, ◌+◌, nat_le, nat_lt, true, List, [], ◌∷◌, length, Option, None, Some, refl, ap, sym, ◌∙◌}
use Rattle.std.specs.Prelude.{IsTrue, not, if◌then◌else◌}
use Rattle.std.proofs.lemmas.List.{length-map}
use Rattle.tap_name.specs.Settings.{SettingsValue}
use Rattle.tap_scenario.specs.Step.{asks_no_roots}
use Rattle.tap_scenario.specs.declared.step.Step.{Step}
use Rattle.tap_scenario.specs.declared.step.Step.TheVariants.{Deliver, Lose, Repeat, Settle, SettleMixed, SettleNewest, Tick}
use Rattle.tap_log.specs.declared.record.Record.{Record}
use Rattle.tap_log.specs.declared.record.Refusal.{Refusal}
use Rattle.tap_log.specs.declared.record.Refusal.TheVariants.{Departing, NoSuchFlight, TooManyPackets}
use Rattle.tap_log.specs.Counts.{resent_count}
use Rattle.tap_log.specs.Kinds.{is_carried}
use Rattle.tap_log.specs.MoreRecords.{first_of_both}
use Rattle.tap_history.specs.Departing.{departing_of}
use Rattle.tap_history.specs.Moments.{awaiting, outstanding, under_way}
use Rattle.tap_history.specs.Refusals.{damaged, first_refusal, first_some, is_and, packets_of_step, refused_if, refuses_already_abandoned, refuses_already_published, refuses_departing, refuses_last_node, refuses_name_taken, refuses_no_such_byte, refuses_no_such_flight, refuses_no_such_node, refuses_not_at_rest, refuses_not_core, refuses_not_in_prefix, refuses_not_joining, refuses_not_published, refuses_readable, refuses_too_many_nodes, refuses_too_many_packets, while_departing}
use Rattle.tap_history.specs.StepAsks.{abandon_name, asked_node, depart_name, flight_place, join_name, publish_pair, suits_departure, suits_joining, withdraw_pair}
use Rattle.tap_packets.specs.Matching.{numbered_along}
use Rattle.tap_packets.specs.Packets.{PacketLine, lines_under_way}
use Rattle.tap_packets.specs.Sequence.{frame_ways}
use Rattle.tap_packets.proofs.GroupsCome.{groups_follow_hold}
use Rattle.tap_runs.specs.Course.{is_choice}
use Rattle.tap_carrier.specs.Carrier.{CarrierValue}
use Rattle.tap_carrier.specs.Kept.{KeepsLog}

-- ---- the two refusals of a choice

-- the tenth and the fifteenth refusal, if there is no other
tenth_or_fifteenth : {X : Type 0} (third tenth fifteenth : Option X) → third ≡ None
    → first_some (None ∷ None ∷ third ∷ None ∷ None ∷ None ∷ None ∷ None ∷ None ∷ tenth ∷ None ∷ None ∷ None ∷ None ∷ fifteenth ∷ None ∷ [])
    ≡ first_of_both tenth fifteenth
tenth_or_fifteenth (Some x) tenth fifteenth none = absurd cc
tenth_or_fifteenth None (Some x) fifteenth none = refl
tenth_or_fifteenth None None (Some x) none = refl
tenth_or_fifteenth None None None none = refl

alone : {X : Type 0} (one : Option X) → first_of_both one None ≡ one
alone None = refl
alone (Some x) = refl

-- a step that can be run while a node departs isn't refused for a departure
suits_all : (step : Step) (leaver : Option (List ℕ)) → suits_departure step ≡ true → while_departing step leaver ≡ None
suits_all step None suits = refl
suits_all step (Some leaver) suits = ap (λ b. refused_if (not b) (Departing leaver)) suits

not_departing : (log : List Record) (step : Step) → suits_departure step ≡ true → refuses_departing log step ≡ None
unfolding refuses_departing
not_departing log step suits = suits_all step (departing_of log) suits

-- the refusals of a choice
abbrev place_or_more : List Record → Step → Option Refusal
place_or_more log step = first_of_both (refuses_no_such_flight log step) (refuses_too_many_packets log step)

module _ (log : List Record) where
  two : (step : Step) → suits_departure step ≡ true
      → first_some (None ∷ None ∷ refuses_departing log step ∷ None ∷ None ∷ None ∷ None ∷ None ∷ None ∷ refuses_no_such_flight log step
      ∷ None ∷ None ∷ None ∷ None ∷ refuses_too_many_packets log step ∷ None ∷ []) ≡ place_or_more log step
  two step suits =
      tenth_or_fifteenth (refuses_departing log step) (refuses_no_such_flight log step) (refuses_too_many_packets log step)
      (not_departing log step suits)

  of_deliver : (place : ℕ) → first_refusal log (Deliver place) ≡ place_or_more log (Deliver place)
  unfolding refuses_no_such_node refuses_not_core refuses_not_at_rest refuses_name_taken refuses_too_many_nodes refuses_last_node refuses_already_published refuses_not_published refuses_no_such_byte refuses_readable refuses_not_joining refuses_already_abandoned refuses_not_in_prefix asked_node join_name depart_name publish_pair withdraw_pair suits_joining suits_departure abandon_name damaged
  of_deliver place = two (Deliver place) refl

  of_lose : (place : ℕ) → first_refusal log (Lose place) ≡ place_or_more log (Lose place)
  unfolding refuses_no_such_node refuses_not_core refuses_not_at_rest refuses_name_taken refuses_too_many_nodes refuses_last_node refuses_already_published refuses_not_published refuses_no_such_byte refuses_readable refuses_not_joining refuses_already_abandoned refuses_not_in_prefix asked_node join_name depart_name publish_pair withdraw_pair suits_joining suits_departure abandon_name damaged
  of_lose place = two (Lose place) refl

  of_repeat : (place : ℕ) → first_refusal log (Repeat place) ≡ place_or_more log (Repeat place)
  unfolding refuses_no_such_node refuses_not_core refuses_not_at_rest refuses_name_taken refuses_too_many_nodes refuses_last_node refuses_already_published refuses_not_published refuses_no_such_byte refuses_readable refuses_not_joining refuses_already_abandoned refuses_not_in_prefix asked_node join_name depart_name publish_pair withdraw_pair suits_joining suits_departure abandon_name damaged
  of_repeat place = two (Repeat place) refl

  of_tick : first_refusal log Tick ≡ place_or_more log Tick
  unfolding refuses_no_such_node refuses_not_core refuses_not_at_rest refuses_name_taken refuses_too_many_nodes refuses_last_node refuses_already_published refuses_not_published refuses_no_such_byte refuses_readable refuses_not_joining refuses_already_abandoned refuses_not_in_prefix asked_node join_name depart_name publish_pair withdraw_pair suits_joining suits_departure abandon_name damaged
  of_tick = two Tick refl

  of_settle : first_refusal log Settle ≡ place_or_more log Settle
  unfolding refuses_no_such_node refuses_not_core refuses_not_at_rest refuses_name_taken refuses_too_many_nodes refuses_last_node refuses_already_published refuses_not_published refuses_no_such_byte refuses_readable refuses_not_joining refuses_already_abandoned refuses_not_in_prefix asked_node join_name depart_name publish_pair withdraw_pair suits_joining suits_departure abandon_name damaged
  of_settle = two Settle refl

  of_newest : first_refusal log SettleNewest ≡ place_or_more log SettleNewest
  unfolding refuses_no_such_node refuses_not_core refuses_not_at_rest refuses_name_taken refuses_too_many_nodes refuses_last_node refuses_already_published refuses_not_published refuses_no_such_byte refuses_readable refuses_not_joining refuses_already_abandoned refuses_not_in_prefix asked_node join_name depart_name publish_pair withdraw_pair suits_joining suits_departure abandon_name damaged
  of_newest = two SettleNewest refl

  of_mixed : (seed : ℕ) → first_refusal log (SettleMixed seed) ≡ place_or_more log (SettleMixed seed)
  unfolding refuses_no_such_node refuses_not_core refuses_not_at_rest refuses_name_taken refuses_too_many_nodes refuses_last_node refuses_already_published refuses_not_published refuses_no_such_byte refuses_readable refuses_not_joining refuses_already_abandoned refuses_not_in_prefix asked_node join_name depart_name publish_pair withdraw_pair suits_joining suits_departure abandon_name damaged
  of_mixed seed = two (SettleMixed seed) refl

-- ---- what they are

-- the refusal of a place at which no packet is, and that of so many more packets
abbrev pub place_refusal : ℕ → ℕ → Option Refusal
place_refusal count place = refused_if (nat_le count place) (NoSuchFlight count)

abbrev pub more_refusal : ℕ → ℕ → Option Refusal
more_refusal resent more = refused_if (nat_lt 100000 (resent + more)) (TooManyPackets resent)

-- so many packets are under way, and so many were made once more, as the carried log says
pub record AreCounted (log : List Record) (count resent : ℕ) : Type 0 where
  pub carried : is_carried log ≡ true
  pub flights : length (under_way log) ≡ count
  pub more : resent_count log ≡ resent

module _ (log : List Record) (count resent : ℕ) (are : AreCounted log count resent) where
  at_place : (step : Step) (place : ℕ) → flight_place step ≡ Some place → refuses_no_such_flight log step ≡ place_refusal count place
  unfolding refuses_no_such_flight
  at_place step place is =
      ap (λ o. let flights = if is_carried log then length (under_way log) else length (outstanding log) in
      refused_if (is_and o (nat_le flights)) (NoSuchFlight flights)) is
      ∙ ap (λ c. let flights = if c then length (under_way log) else length (outstanding log) in
      refused_if (nat_le flights place) (NoSuchFlight flights)) are.carried
      ∙ ap (λ flights. place_refusal flights place) are.flights

  no_place : (step : Step) → flight_place step ≡ None → refuses_no_such_flight log step ≡ None
  unfolding refuses_no_such_flight
  no_place step is =
      ap (λ o. let flights = if is_carried log then length (under_way log) else length (outstanding log) in
      refused_if (is_and o (nat_le flights)) (NoSuchFlight flights)) is

  with_more : (step : Step) (more : ℕ) → packets_of_step log step ≡ Some more → refuses_too_many_packets log step ≡ more_refusal resent more
  unfolding refuses_too_many_packets
  with_more step more is =
      ap (λ o. refused_if (is_and o (λ n. nat_lt 100000 (resent_count log + n))) (TooManyPackets (resent_count log))) is
      ∙ ap (λ made. more_refusal made more) are.more

  no_more : (step : Step) → packets_of_step log step ≡ None → refuses_too_many_packets log step ≡ None
  unfolding refuses_too_many_packets
  no_more step is =
      ap (λ o. refused_if (is_and o (λ n. nat_lt 100000 (resent_count log + n))) (TooManyPackets (resent_count log))) is

  -- of a step without a place
  placeless : (step : Step) → flight_place step ≡ None → place_or_more log step ≡ refuses_too_many_packets log step
  placeless step is = ap (λ o. first_of_both o (refuses_too_many_packets log step)) (no_place step is)

  -- and of one that makes no packet once more
  once : (step : Step) → packets_of_step log step ≡ None → place_or_more log step ≡ refuses_no_such_flight log step
  once step is = ap (first_of_both (refuses_no_such_flight log step)) (no_more step is) ∙ alone (refuses_no_such_flight log step)

  pub deliver_refusal : (place : ℕ) → first_refusal log (Deliver place) ≡ place_refusal count place
  unfolding flight_place packets_of_step
  deliver_refusal place = of_deliver log place ∙ once (Deliver place) refl ∙ at_place (Deliver place) place refl

  pub lose_refusal : (place : ℕ) → first_refusal log (Lose place) ≡ place_refusal count place
  unfolding flight_place packets_of_step
  lose_refusal place = of_lose log place ∙ once (Lose place) refl ∙ at_place (Lose place) place refl

  pub repeat_refusal : (place : ℕ) → first_refusal log (Repeat place) ≡ first_of_both (place_refusal count place) (more_refusal resent 1)
  unfolding flight_place packets_of_step
  repeat_refusal place =
      of_repeat log place
      ∙ ap (λ o. first_of_both o (refuses_too_many_packets log (Repeat place))) (at_place (Repeat place) place refl)
      ∙ ap (first_of_both (place_refusal count place)) (with_more (Repeat place) 1 refl)

  pub tick_refusal : first_refusal log Tick ≡ more_refusal resent (length (awaiting log))
  unfolding flight_place packets_of_step
  tick_refusal = of_tick log ∙ placeless Tick refl ∙ with_more Tick (length (awaiting log)) refl

  pub settle_refusal : first_refusal log Settle ≡ None
  unfolding flight_place packets_of_step
  settle_refusal = of_settle log ∙ placeless Settle refl ∙ no_more Settle refl

  pub newest_refusal : first_refusal log SettleNewest ≡ None
  unfolding flight_place packets_of_step
  newest_refusal = of_newest log ∙ placeless SettleNewest refl ∙ no_more SettleNewest refl

  pub mixed_refusal : (seed : ℕ) → first_refusal log (SettleMixed seed) ≡ None
  unfolding flight_place packets_of_step
  mixed_refusal seed = of_mixed log seed ∙ placeless (SettleMixed seed) refl ∙ no_more (SettleMixed seed) refl

  -- a settle
  pub settles : (step : Step) → is_choice step ≡ true → IsTrue (asks_no_roots step) → ((place : ℕ) → step ≢ Deliver place) → step ≢ Tick
      → ((place : ℕ) → step ≢ Lose place) → ((place : ℕ) → step ≢ Repeat place) → None ≡ first_refusal log step
  unfolding is_choice asks_no_roots
  settles (Deliver place) choice played no_deliver no_tick no_lose no_repeat = absurd (no_deliver place refl)
  settles Settle choice played no_deliver no_tick no_lose no_repeat = sym settle_refusal
  settles SettleNewest choice played no_deliver no_tick no_lose no_repeat = sym newest_refusal
  settles (SettleMixed seed) choice played no_deliver no_tick no_lose no_repeat = sym (mixed_refusal seed)
  settles Tick choice played no_deliver no_tick no_lose no_repeat = absurd (no_tick refl)
  settles (Lose place) choice played no_deliver no_tick no_lose no_repeat = absurd (no_lose place refl)
  settles (Repeat place) choice played no_deliver no_tick no_lose no_repeat = absurd (no_repeat place refl)
  settles step choice played no_deliver no_tick no_lose no_repeat = absurd cc

-- ---- as a carrier counts

pub counted : (p : SettingsValue) (log : List Record) (c : CarrierValue) → KeepsLog p log c → is_carried log ≡ true
    → AreCounted log (length c.boxes.net.packets) c.resent
counted p log c keeps carried = record {
  carried = carried;
  flights = ap length (groups_follow_hold.under_way log) ∙ length-map (lines_under_way log) (λ (line : PacketLine). line.number)
      ∙ sym (ap length keeps.boxes.net.packets ∙ length-map (lines_under_way log) (numbered_along (frame_ways p log)));
  more = sym keeps.resent;
}

-- the first one, if there is one
pub first_if_some : {X : Type 0} (one other : Option X) → one ≢ None → one ≡ first_of_both one other
first_if_some None other some = absurd (some refl)
first_if_some (Some x) other some = refl
