-- A frame that is sent is quiet after a record by which no node is to join or to depart.
use Rattle.std.proofs.Common.{◌≡◌, ℕ, ◌<◌, false, true, not, List, [], ◌∷◌, Option, ap, sym, ◌∙◌, arith}
use Rattle.std.specs.Prelude.{option_and_then}
use Rattle.tap_outstanding.specs.Outstanding.{OutstandingValue, sent_with}
use Rattle.tap_log.specs.declared.record.Record.{Record}
use Rattle.tap_log.specs.declared.record.Record.TheVariants.{Sent}
use Rattle.tap_log.specs.Counts.{sent_count}
use Rattle.tap_log.specs.Kinds.{begins_group, sent_number}
use Rattle.tap_log.proofs.MoreRecords.{one_more_record_holds}
use Rattle.tap_history.specs.StepAsks.{depart_name}
use Rattle.tap_ledger.specs.Added.{CanAdd, most_ledger_frames}
use Rattle.tap_ledger.specs.Flights.{followed}
use Rattle.tap_ledger.specs.KeptLedger.{leaver_next}
use Rattle.tap_ledger.specs.NameLists.{accepted_after}
use Rattle.tap_ledger.specs.Quiet.{is_moving_step, is_quiet, tells_more}
use Rattle.tap_ledger.proofs.Staying.{TellsNothing, quiet_tells}

sent_quiet : (last : Option Record) (number : ℕ) (bytes : List ℕ) → is_moving_step last ≡ false → is_quiet last (Sent number bytes) ≡ true
unfolding tells_more
sent_quiet last number bytes still = ap (λ b. not b) still

-- it tells of nothing else
pub sent_tells : (last : Option Record) (number : ℕ) (bytes : List ℕ) → is_moving_step last ≡ false → TellsNothing last (Sent number bytes)
sent_tells last number bytes still = quiet_tells last (Sent number bytes) (sent_quiet last number bytes still)

-- it is outstanding
pub sent_follows : (frames new : OutstandingValue) (place record_place number : ℕ) (bytes : List ℕ) → new ≡ sent_with frames place
    → place ≡ record_place → new ≡ followed frames record_place (Sent number bytes)
unfolding followed
sent_follows frames new place record_place number bytes is at = is ∙ ap (sent_with frames) at

-- who departs stays
pub sent_leaves : (last : Option Record) (number : ℕ) (bytes : List ℕ) (departing leaver : Option (List ℕ))
    → TellsNothing last (Sent number bytes)
    → leaver ≡ leaver_next (begins_group false (Sent number bytes)) departing
    (option_and_then depart_name (accepted_after last (Sent number bytes))) leaver
unfolding begins_group
sent_leaves last number bytes departing leaver tells = sym (ap (λ d. leaver_next false departing d leaver) tells.nobody.departs)

-- before it may be sent, fewer were sent than may be
pub few_sent : (log : List Record) (number : ℕ) (bytes : List ℕ) → CanAdd log (Sent number bytes ∷ []) → sent_count log < most_ledger_frames
unfolding sent_number
few_sent log number bytes can =
    let within = can.within in
    omega (arith, within, one_more_record_holds.sent log (Sent number bytes))
