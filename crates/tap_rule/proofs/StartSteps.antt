-- What the starts of joins and departures change.
-- Cited above: give_up_law, leave_start_law, seek_start_law
use Rattle.std.proofs.Common.{◌≡◌, ◌==◌, ◌+◌, Bool, cond, List, length, map, None, true, false, arith, refl, ap, eqb-true}
use Rattle.std.proofs.lemmas.Bool.{eqb-false}
use Rattle.std.proofs.lemmas.List.Folds.{flat_map-map}
use Rattle.tap_table.specs.Ties.{holders_on}
use Rattle.tap_depart.specs.Leaving.{started_leaving}
use Rattle.tap_pointer.specs.declared.pair.Pair.{Pair}
use Rattle.tap_pointer.specs.declared.state.PairState.{PairState}
use Rattle.tap_pointer.specs.Pointers.{with_published}
use Rattle.tap_pointer.specs.Reconcile.{layings, layings_to_none, lays_numbered}
use Rattle.tap_wire.specs.declared.frame.Body.TheVariants.{Gone}
use Rattle.tap_rule.specs.Node.{NodeState}
use Rattle.tap_rule.specs.Node.Status.{Gone as GoneStatus}
use Rattle.tap_rule.specs.Event.{Acted}
use Rattle.tap_rule.specs.Event.Start.{Join, Abandon, Leave}
use Rattle.tap_rule.specs.Reaction.{sends}
use Rattle.tap_rule.specs.Joining.{starts_join}
use Rattle.tap_rule.specs.Ceasing.{starts_abandon}
use Rattle.tap_rule.specs.Leaving.{finishes, leave_for, starts_leave, with_departure}
use Rattle.tap_rule.specs.EndSteps.{words_at_end}
use Rattle.tap_rule.specs.StartSteps.{LeaveStartStep}
use Rattle.tap_rule.specs.RuleLaws.{GiveUpLaw, IsCarriedOut, LeaveStartLaw, SeekStartLaw}
use Rattle.tap_rule.proofs.CarriedOut.{start_law}
use Rattle.tap_rule.proofs.Completed.{casts_by, completed_by, rest_by}
use Rattle.tap_rule.proofs.EndSteps.{end_step}

pub seek_start_law : SeekStartLaw
seek_start_law node via at =
    let carried = start_law node (Join via) (starts_join node via) (rw at refl) in
    record {
      joins = record { status = carried.status; covers = carried.covers; greeted = carried.greeted; abandoned = carried.abandoned };
      ties = carried.ties;
      sessions = carried.sessions;
      sent = carried.sent;
      rest = rest_by carried refl refl refl refl;
      completed = completed_by node _ _ carried (rw at tt) (omega arith);
    }

pub give_up_law : GiveUpLaw
give_up_law node at =
    let carried = start_law node Abandon (starts_abandon node) (rw at refl) in
    record {
      abandoned = carried.abandoned;
      status = carried.status;
      ties = carried.ties;
      sessions = carried.sessions;
      covers = carried.covers;
      greeted = carried.greeted;
      sent = carried.sent;
      rest = rest_by carried refl refl refl refl;
      completed = completed_by node _ _ carried (rw at tt) (omega arith);
    }

-- what is laid stays so when all is withdrawn, and so do the Lays that clear it
clearing_withdrawn : (pairs : List (Pair × PairState))
    → layings_to_none (map (λ e. (e.0, with_published e.1 false)) pairs) ≡ layings_to_none pairs
clearing_withdrawn pairs = flat_map-map (λ e. layings e.0 e.1.laid None) (λ e. (e.0, with_published e.1 false)) pairs

module _ (node : NodeState) (acted : Acted) where
  leaves_as : (alone : Bool) → (length (holders_on node.ties) == 0) ≡ alone
      → IsCarriedOut node (cond alone (finishes (with_departure node))
      (sends (with_departure node) (map leave_for (started_leaving node.ties).notices))) acted
      → LeaveStartStep node acted
  leaves_as true is carried = record {
    waits = λ some. absurd (some (eqb-true (length (holders_on node.ties)) 0 is));
    finishes = λ none.
        end_step node GoneStatus Gone _ acted (λ runs. runs)
        (ap (lays_numbered (node.stamp + length (words_at_end node))) (clearing_withdrawn node.pointers.pairs)) carried;
  }
  leaves_as false is carried = record {
    waits = λ some. (
      carried.status,
      carried.ties,
      carried.sessions,
      carried.awaited,
      carried.sent,
      carried.covers,
      carried.greeted,
      carried.abandoned,
      casts_by carried refl refl refl,
      completed_by node _ acted carried tt (omega arith),
    );
    finishes = λ none. absurd (eqb-false (length (holders_on node.ties)) 0 is none);
  }

pub leave_start_law : LeaveStartLaw
leave_start_law node at =
    leaves_as node _ (length (holders_on node.ties) == 0) refl (start_law node Leave (starts_leave node) (rw at refl))
