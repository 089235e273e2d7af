-- A log of turns and its reduced log agree.
-- Cited above: log_agrees, logs_agree, rest_too
use Rattle.std.proofs.Common.{Bool, ◌≡◌, true, not, List, length, ap, ◌∙◌}
use Rattle.std.specs.Prelude.{◌&&◌, ◌||◌}
use Rattle.std.proofs.lemmas.Bool.{and_parts}
use Rattle.tap_log.specs.declared.record.Record.{Record}
use Rattle.tap_log.specs.Kinds.{asked_ticket, begun_cast, is_carried, sent_number, step_of}
use Rattle.tap_log.specs.Reduced.{reduced}
use Rattle.tap_history.specs.Moments.{awaiting, is_none, is_rest, is_still, under_way}
use Rattle.tap_carried.specs.ReducedLogs.{AgreesWithReduced, LogsAgree}
use Rattle.tap_carried.proofs.BeginningKept.{log_kept}
use Rattle.tap_carried.proofs.SameNodes.{SaysAlike, abandoned_are, ceased_is, core_is, gone_is, names_are, present_is, published_is, starts_are}
use Rattle.tap_carried.proofs.SameRefusals.{refusal_same}
use Rattle.tap_carried.proofs.SameTold.{kept_asked, kept_casts, kept_sent, kept_steps, reduced_bytes, reduced_outstanding, reduced_still, reduced_tells}
use Rattle.tap_carried.proofs.TurnGroups.{turn_reduced}
use Rattle.tap_carried.proofs.TurnsKept.{IsKept, front_is}

pub log_agrees : (c : Bool) (log : List Record) → SaysAlike c log → AgreesWithReduced log
log_agrees c log kept = record {
  outstanding = reduced_outstanding log;
  bytes = reduced_bytes log;
  sent = ap length (reduced_tells sent_number kept_sent log);
  tickets = ap length (reduced_tells asked_ticket kept_asked log);
  casts = ap length (reduced_tells begun_cast kept_casts log);
  steps = reduced_tells step_of kept_steps log;
  core = core_is c log kept;
  present = present_is c log kept;
  names = names_are c log kept;
  gone = gone_is c log kept;
  abandoned = abandoned_are c log kept;
  ceased = ceased_is c log kept;
  published = published_is c log kept;
  departing = kept.departing;
  starts = starts_are c log kept;
  refusals = refusal_same c log kept;
}

pub rest_too : (c : Bool) (log : List Record) → SaysAlike c log → is_rest log ≡ true → is_rest (reduced log) ≡ true
rest_too c log kept is =
    let still = (and_parts (is_still log) (not (is_carried log) || (is_none (under_way log) && is_none (awaiting log))) is).0 in
    ap (λ d. is_still (reduced log) && (not d || (is_none (under_way (reduced log)) && is_none (awaiting (reduced log))))) kept.uncarried
    ∙ ap (λ b. b && true) (reduced_still log ∙ still)

kept_alike : (c : Bool) (log : List Record) → IsKept c log → SaysAlike c log
kept_alike c log kept = record {
  carried = kept.carried;
  uncarried = kept.uncarried;
  members = kept.members;
  starts = kept.starts;
  departing = kept.departing;
}

pub logs_agree : LogsAgree
logs_agree = record {
  groups = turn_reduced;
  moments = λ c log m is. (log_kept c log is).moments m;
  from = λ c log kept is. (log_kept c log is).from kept;
  front = front_is;
  at = λ c log m is. (log_kept c log is).at m;
  rest = λ c log is. rest_too c log (kept_alike c log (log_kept c log is));
  agree = λ c log is. log_agrees c log (kept_alike c log (log_kept c log is));
}
