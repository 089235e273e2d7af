-- When a choice is refused, and that a packet is at its place if it isn't.
use Rattle.std.proofs.Common.{◌≡◌, ℕ, ◌<◌, Bool, false, true, List, length, Option, None, Some, IsTrue, refl, ap, sym, ◌∙◌}
use Rattle.std.specs.Prelude.{nat_le}
use Rattle.std.proofs.lemmas.Bool.{false≢true, leb-false}
use Rattle.std.proofs.lemmas.List.{length-map}
use Rattle.std.proofs.lemmas.Option.{none-some}
use Rattle.tap_scenario.specs.Step.{asks_no_roots}
use Rattle.tap_scenario.specs.declared.step.Step.{Step}
use Rattle.tap_scenario.specs.declared.step.Step.TheVariants.{Deliver, Lose, Repeat, RootSet, Settle, SettleMixed, SettleNewest, Tick}
use Rattle.tap_log.specs.declared.record.Record.{Record}
use Rattle.tap_log.specs.declared.record.Refusal.{Refusal}
use Rattle.tap_log.specs.declared.record.Refusal.TheVariants.{NoSuchFlight}
use Rattle.tap_log.specs.Counts.{resent_count}
use Rattle.tap_log.specs.Kinds.{is_carried}
use Rattle.tap_log.specs.MoreRecords.{first_of_both}
use Rattle.tap_history.specs.Refusals.{first_refusal, refused_if}
use Rattle.tap_packets.specs.Packets.{PacketLine, lines_under_way}
use Rattle.tap_packets.proofs.GroupsCome.{groups_follow_hold}
use Rattle.tap_runs.specs.Course.{is_choice}
use Rattle.tap_engine.specs.Kinds.{may_be_refused}
use Rattle.tap_carrier.proofs.Refusing.{AreCounted, lose_refusal, mixed_refusal, more_refusal, newest_refusal, place_refusal, repeat_refusal, settle_refusal}

-- ---- refusals

-- a settle is never refused
pub refusable : (log : List Record) (step : Step) (refusal : Refusal) (count resent : ℕ) → AreCounted log count resent → is_choice step ≡ true
    → IsTrue (asks_no_roots step) → first_refusal log step ≡ Some refusal → may_be_refused step ≡ true
unfolding is_choice asks_no_roots may_be_refused
refusable log (Deliver place) refusal count resent are chooses played refused = refl
refusable log Tick refusal count resent are chooses played refused = refl
refusable log (Lose place) refusal count resent are chooses played refused = refl
refusable log (Repeat place) refusal count resent are chooses played refused = refl
refusable log Settle refusal count resent are chooses played refused =
    absurd (none-some refusal (sym (settle_refusal log count resent are) ∙ refused))
refusable log SettleNewest refusal count resent are chooses played refused =
    absurd (none-some refusal (sym (newest_refusal log count resent are) ∙ refused))
refusable log (SettleMixed seed) refusal count resent are chooses played refused =
    absurd (none-some refusal (sym (mixed_refusal log count resent are seed) ∙ refused))
refusable log (RootSet object asker) refusal count resent are chooses played refused = absurd (cc)
refusable log step refusal count resent are chooses played refused = absurd (false≢true chooses)

-- a packet is at a place that isn't refused
place_there : (count place : ℕ) → place_refusal count place ≡ None → place < count
place_there count place none = by (nat_le count place) refl none
  where
    by : (past : Bool) → nat_le count place ≡ past → refused_if past (NoSuchFlight count) ≡ None → place < count
    by true is none = absurd (none-some (NoSuchFlight count) (sym none))
    by false is none = leb-false count place is

first_none : (one other : Option Refusal) → first_of_both one other ≡ None → one ≡ None
first_none None other none = refl
first_none (Some refusal) other none = none

module _ (log : List Record) (carried : is_carried log ≡ true) where
  pub counted : AreCounted log (length (lines_under_way log)) (resent_count log)
  counted = record {
    carried = carried;
    flights = ap length (groups_follow_hold.under_way log) ∙ length-map (lines_under_way log) (λ (line : PacketLine). line.number);
    more = refl;
  }

  pub lose_there : (place : ℕ) → first_refusal log (Lose place) ≡ None → place < length (lines_under_way log)
  lose_there place accepted =
      place_there (length (lines_under_way log)) place
      (sym (lose_refusal log (length (lines_under_way log)) (resent_count log) counted place) ∙ accepted)

  pub repeat_there : (place : ℕ) → first_refusal log (Repeat place) ≡ None → place < length (lines_under_way log)
  repeat_there place accepted =
      let count = length (lines_under_way log) in
      place_there count place
      (first_none (place_refusal count place) (more_refusal (resent_count log) 1)
      (sym (repeat_refusal log count (resent_count log) counted place) ∙ accepted))
