-- What holds of each log of turns and its reduced log: it holds of the beginning, and each turn keeps it.
-- Cited above: log_kept, none_departs
use Rattle.std.proofs.Common.{Bool, ◌≡◌, ℕ, zero, suc, true, false, List, [], ◌∷◌, take, drop, filter, All, None, refl, ap, sym, ◌∙◌, subst, arith}
use Rattle.std.specs.List.{filter_map, last_or}
use Rattle.std.proofs.lemmas.Bool.{false≢true}
use Rattle.std.proofs.lemmas.List.Elements.{All-cons, All-drop, All-nil}
use Rattle.tap_log.specs.declared.record.Record.{Record}
use Rattle.tap_log.specs.declared.record.Record.TheVariants.{Carrier}
use Rattle.tap_log.specs.Kinds.{begins_group, is_carried, step_of}
use Rattle.tap_log.specs.Reduced.{is_added, reduced}
use Rattle.tap_history.specs.Departing.{departing_of, last_still}
use Rattle.tap_history.specs.Moments.{is_moment}
use Rattle.tap_history.specs.StepAsks.{depart_name, is_start}
use Rattle.tap_history.proofs.Instants.{moment-within}
use Rattle.tap_runs.specs.Beginning.{Beginning, begin_record}
use Rattle.tap_carried.specs.LogTurns.{IsLogOfTurns, IsTurn, beginning_records}
use Rattle.tap_carried.specs.ReducedLogs.{kept_count}
use Rattle.tap_carried.proofs.SameStarts.{none_accepted}
use Rattle.tap_carried.proofs.TurnsKept.{IsKept, turns_kept}

module _ (b : Beginning) where
  abbrev alone : List Record
  alone = begin_record b ∷ []

  abbrev with_carrier : List Record
  with_carrier = begin_record b ∷ Carrier ∷ []

  beginning_log : (c : Bool) → IsLogOfTurns c (beginning_records c b)
  beginning_log c = record { beginning = b; turns = []; are = All-nil (IsTurn c); is = refl }

  no_steps : All (λ item. step_of item ≡ None) with_carrier
  no_steps =
      All-cons (λ item. step_of item ≡ None) (begin_record b) (Carrier ∷ []) refl
      (All-cons (λ item. step_of item ≡ None) Carrier [] refl (All-nil (λ item. step_of item ≡ None)))

  pub none_departs : (log : List Record) → All (λ item. step_of item ≡ None) log → departing_of log ≡ None
  none_departs log none =
      ap (λ l. last_or None (filter_map depart_name l))
      (none_accepted (is_carried log) (drop (last_still log) log) (All-drop (λ item. step_of item ≡ None) (last_still log) log none))

  alone_departure : departing_of alone ≡ None
  alone_departure =
      none_departs alone (All-cons (λ item. step_of item ≡ None) (begin_record b) [] refl (All-nil (λ item. step_of item ≡ None)))

  -- the only moments are their ends
  carrier_moment : (m : ℕ) → is_moment with_carrier m ≡ true → m ≡ 2
  unfolding is_carried begins_group
  carrier_moment zero is = absurd (false≢true is)
  carrier_moment (suc zero) is = absurd (false≢true is)
  carrier_moment (suc (suc zero)) is = refl
  carrier_moment (suc (suc (suc m))) is =
      let most = moment-within with_carrier (suc (suc (suc m))) is in absurd (omega (arith, most))

  alone_moment : (m : ℕ) → is_moment alone m ≡ true → m ≡ 1
  unfolding is_carried begins_group
  alone_moment zero is = absurd (false≢true is)
  alone_moment (suc zero) is = refl
  alone_moment (suc (suc m)) is = let most = moment-within alone (suc (suc m)) is in absurd (omega (arith, most))

  pub beginning_kept : (c : Bool) → IsKept c (beginning_records c b)
  unfolding is_added is_carried begins_group
  beginning_kept true = record {
    log_is = beginning_log true;
    begun = omega arith;
    carried = refl;
    members = refl;
    reduced_begun = omega arith;
    uncarried = refl;
    starts = ap (filter is_start) (none_accepted true with_carrier no_steps);
    departing = alone_departure ∙ sym (none_departs with_carrier no_steps);
    still = λ is. none_departs with_carrier no_steps;
    whole = refl;
    moments = λ m is. subst (λ k. is_moment (reduced with_carrier) (kept_count with_carrier k) ≡ true) (sym (carrier_moment m is)) refl;
    from = λ count is. record { m = 2; moment = refl; is = sym (alone_moment count is) };
    at = λ m is. subst (λ k. IsLogOfTurns true (take k with_carrier)) (sym (carrier_moment m is)) (beginning_log true);
  }
  beginning_kept false = record {
    log_is = beginning_log false;
    begun = omega arith;
    carried = refl;
    members = refl;
    reduced_begun = omega arith;
    uncarried = refl;
    starts = refl;
    departing = refl;
    still = λ is. alone_departure;
    whole = refl;
    moments = λ m is. subst (λ k. is_moment (reduced alone) (kept_count alone k) ≡ true) (sym (alone_moment m is)) refl;
    from = λ count is. record { m = 1; moment = refl; is = sym (alone_moment count is) };
    at = λ m is. subst (λ k. IsLogOfTurns false (take k alone)) (sym (alone_moment m is)) (beginning_log false);
  }

pub log_kept : (c : Bool) (log : List Record) → IsLogOfTurns c log → IsKept c log
log_kept c log is =
    subst (IsKept c) (sym is.is) (turns_kept c (beginning_records c is.beginning) is.turns (beginning_kept is.beginning c) is.are)
