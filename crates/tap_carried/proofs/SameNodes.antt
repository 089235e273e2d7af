-- Who takes part, and what is published, is the same in a log of turns and in its reduced log.
-- Cited above: SaysAlike
use Rattle.std.proofs.Common.{Bool, false, ◌≡◌, List, [], ◌++◌, filter, fold, ap, sym, ◌∙◌}
use Rattle.std.specs.List.{filter_map}
use Rattle.tap_name.specs.Names.{has_name, names_without}
use Rattle.tap_log.specs.declared.record.Record.{Record}
use Rattle.tap_log.specs.Kinds.{abandoned_name, core_name, gone_name, is_carried}
use Rattle.tap_log.specs.Reduced.{reduced}
use Rattle.tap_history.specs.Core.{abandoned_of, ceased_of, accepted_steps, core_of, departures_of, gone_of, joins_of, members_of, present_of}
use Rattle.tap_history.specs.Departing.{departing_of}
use Rattle.tap_history.specs.Names.{names_of, with_name}
use Rattle.tap_history.specs.Published.{published_of, unwithdrawn_pairs, without_servers}
use Rattle.tap_history.specs.StepAsks.{depart_name, is_start, join_name}
use Rattle.tap_carried.proofs.SameTold.{kept_abandoned, kept_core, kept_gone, reduced_pairs, reduced_tells}
use Rattle.tap_carried.proofs.SameStarts.{starts_depart, starts_in, starts_join}

-- What is asked of a log, carried or not, and its reduced log, so that they agree: of both the same members, accepted starts and departure.
pub record SaysAlike (c : Bool) (log : List Record) : Type 0 where
  pub carried : is_carried log ≡ c
  pub uncarried : is_carried (reduced log) ≡ false
  pub members : members_of (reduced log) ≡ members_of log
  pub starts : starts_in c log ≡ starts_in false (reduced log)
  pub departing : departing_of (reduced log) ≡ departing_of log

module _ (c : Bool) (log : List Record) (kept : SaysAlike c log) where
  pub starts_are : filter is_start (accepted_steps (reduced log)) ≡ filter is_start (accepted_steps log)
  starts_are =
      ap (λ d. starts_in d (reduced log)) kept.uncarried ∙ sym kept.starts ∙ sym (ap (λ d. starts_in d log) kept.carried)

  members_are : members_of (reduced log) ≡ members_of log
  members_are = kept.members

  pub gone_is : gone_of (reduced log) ≡ gone_of log
  gone_is = reduced_tells gone_name kept_gone log

  joins_are : joins_of (reduced log) ≡ joins_of log
  joins_are =
      sym (starts_join (accepted_steps (reduced log))) ∙ ap (filter_map join_name) starts_are ∙ starts_join (accepted_steps log)

  departures_are : departures_of (reduced log) ≡ departures_of log
  departures_are =
      sym (starts_depart (accepted_steps (reduced log))) ∙ ap (filter_map depart_name) starts_are ∙ starts_depart (accepted_steps log)

  pub abandoned_are : abandoned_of (reduced log) ≡ abandoned_of log
  abandoned_are = reduced_tells abandoned_name kept_abandoned log

  came_is : members_of (reduced log) ++ joins_of (reduced log) ≡ members_of log ++ joins_of log
  came_is = ap (λ l. l ++ joins_of (reduced log)) members_are ∙ ap (λ l. members_of log ++ l) joins_are

  pub core_is : core_of (reduced log) ≡ core_of log
  core_is =
      ap (λ l. names_without (l ++ filter_map core_name (reduced log)) (gone_of (reduced log))) members_are
      ∙ ap (λ l. names_without (members_of log ++ l) (gone_of (reduced log))) (reduced_tells core_name kept_core log)
      ∙ ap (names_without (members_of log ++ filter_map core_name log)) gone_is

  pub present_is : present_of (reduced log) ≡ present_of log
  present_is =
      ap (λ l. names_without l (gone_of (reduced log))) came_is ∙ ap (names_without (members_of log ++ joins_of log)) gone_is

  pub names_are : names_of (reduced log) ≡ names_of log
  names_are = ap (fold with_name []) came_is

  pub ceased_is : ceased_of (reduced log) ≡ ceased_of log
  ceased_is =
      ap (λ l. filter (has_name l) (abandoned_of (reduced log))) gone_is ∙ ap (filter (has_name (gone_of log))) abandoned_are

  pub published_is : published_of (reduced log) ≡ published_of log
  published_is =
      ap (λ l. without_servers l (unwithdrawn_pairs (reduced log))) departures_are ∙ ap (without_servers (departures_of log)) (reduced_pairs log)
