-- What a reporter keeps of the records that were put, to make their summary from: it is known of all of them, and changes with
-- each one more.
use Rattle.std.specs.Prelude.{ℕ, ◌+◌, ◌-◌, ◌≤◌, max, List, length, fold, cond, is_some, Bool, true, false, Option, None, Some, if◌then◌else◌}
use Rattle.std.specs.Option.{option_or}
use Rattle.tap_log.specs.declared.record.Record.{Record}
use Rattle.tap_log.specs.declared.record.Record.TheVariants as rec
use Rattle.tap_log.specs.Kinds.{accepts, begin_members, core_name, sent_number}
use Rattle.tap_history.specs.StepAsks.{depart_name}
use Rattle.tap_history.specs.Core.{members_of}
use Rattle.tap_log.specs.Counts.{sent_count}
use Rattle.tap_log.specs.Log.{last_of}
use Rattle.tap_report.specs.Summary.{Numbers, answered_count, core_count, departed_count, finds_server, hops_in, is_gone, last_departure, most_hops}
use Rattle.tap_report.specs.declared.departures.Departures.{Departures}
use Rattle.tap_report.specs.declared.opening.Opening.{Opening}
use Rattle.tap_report.specs.declared.opening.Opening.TheVariants.{Nothing, Begun, Carried, Plain}
use Rattle.tap_report.specs.declared.tally.Tally.{Tally}

-- ---- the first two records

-- how a log opens, with one record more
abbrev pub opening_after : Opening → Record → Opening
opening_after Nothing (rec.Begin settings frames members) = Begun
opening_after Nothing item = Plain
opening_after Begun rec.Carrier = Carried
opening_after Begun item = Plain
opening_after Carried item = Carried
opening_after Plain item = Plain

-- how a log opens
abbrev pub log_opening : List Record → Opening
log_opening log = fold opening_after Nothing log

-- whether a log that opens so is carried
abbrev pub opens_carried : Opening → Bool
opens_carried Carried = true
opens_carried opening = false

-- the number of members, with one record more: that of the first record stays
abbrev pub members_after : Opening → ℕ → Record → ℕ
members_after Nothing members item = length (begin_members item)
members_after opening members item = members

-- ---- departures

-- the departure that a record asks for
abbrev pub departure_asked_by : Record → Option (List ℕ)
departure_asked_by (rec.Step index step) = depart_name step
departure_asked_by item = None

-- the departure that the last record asks for, if there is one
abbrev pub asked_last : Option Record → Option (List ℕ)
asked_last None = None
asked_last (Some item) = departure_asked_by item

-- the departure that was accepted last, with one record more
abbrev pub departure_accepted_after : Bool → Departures → Record → Option (List ℕ)
departure_accepted_after carried d item = if accepts carried item then option_or d.asked d.accepted else d.accepted

-- what is known of departures
abbrev pub departures_known : List Record → Departures
departures_known log = record { asked = asked_last (last_of log); accepted = last_departure log; gone = departed_count log }

-- the same, with one record more, in a log that is carried or not
abbrev pub departures_after : Bool → Departures → Record → Departures
departures_after carried d item = record {
  asked = departure_asked_by item;
  accepted = departure_accepted_after carried d item;
  gone = d.gone + cond (is_gone (departure_accepted_after carried d item) item) 1 0;
}

-- ---- all that is kept

-- whether a record says that a node becomes core
abbrev pub is_core_record : Record → Bool
is_core_record item = is_some (core_name item)

-- whether a record says that a frame is sent
abbrev pub is_sent : Record → Bool
is_sent item = is_some (sent_number item)

-- what is kept of a log
abbrev pub tally_of : List Record → Tally
tally_of log = record {
  opening = log_opening log;
  members = length (members_of log);
  core = core_count log;
  departures = departures_known log;
  frames = sent_count log;
  hops = most_hops log;
  answered = answered_count log;
}

-- the same, with one record more
abbrev pub tally_after : Tally → Record → Tally
tally_after t item = record {
  opening = opening_after t.opening item;
  members = members_after t.opening t.members item;
  core = t.core + cond (is_core_record item) 1 0;
  departures = departures_after (opens_carried t.opening) t.departures item;
  frames = t.frames + cond (is_sent item) 1 0;
  hops = max t.hops (hops_in item);
  answered = t.answered + cond (finds_server item) 1 0;
}

-- the numbers of the summary
abbrev pub numbers_in : Tally → Numbers
numbers_in t = record { nodes = t.members + t.core - t.departures.gone; frames = t.frames; hops = t.hops; answered = t.answered }

-- none of its counts of records is above this number
pub record CountsWithin (most : ℕ) (t : Tally) : Type 0 where
  pub core : t.core ≤ most
  pub gone : t.departures.gone ≤ most
  pub frames : t.frames ≤ most
  pub answered : t.answered ≤ most
