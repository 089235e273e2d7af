-- A carried run is one of moves that may come, so it ends, makes few packets, and has few groups.
-- Cited above: carried_groups_move, groups_grow
use Rattle.std.proofs.Common.{◌≡◌, inl, inr, ℕ, ◌+◌, ◌*◌, ◌<◌, ◌≤◌, true, List, [], ◌∷◌, ◌++◌, length, refl, ap, sym, subst, ◌∙◌, length-append}
use Rattle.std.proofs.lemmas.Option.{slice_get_within}
use Rattle.tap_scenario.specs.Scenario.{ScenarioValue}
use Rattle.tap_log.specs.declared.record.Record.{Record}
use Rattle.tap_log.specs.Counts.{packet_count, sent_count}
use Rattle.tap_log.specs.Log.{EachRecord}
use Rattle.tap_history.specs.Groups.{groups_of}
use Rattle.tap_history.specs.Moments.{has_number, outstanding}
use Rattle.tap_history.specs.Refusals.{first_refusal}
use Rattle.tap_history.proofs.Ends.{log_in_groups_holds}
use Rattle.tap_history.proofs.Parts.{groups_of-group}
use Rattle.tap_packets.specs.Bounds.{MayMove, MayMoves, clock_of, counts_of, measure, most_made}
use Rattle.tap_packets.specs.Groups.{AreCarrierMoves, CarrierMove, group_of, log_after}
use Rattle.tap_packets.specs.Groups.CarrierMove.{Ticks}
use Rattle.tap_packets.specs.MayCome.{MayCome}
use Rattle.tap_packets.proofs.GroupsCome.{groups_follow_hold}
use Rattle.tap_packets.proofs.RunsEnd.{moves_cost_holds, runs_end_holds}
use Rattle.tap_carried.specs.LogTurns.{beginning_records}
use Rattle.tap_carried.specs.ReducedRuns.{IsRunOfTurns}
use Rattle.tap_carried.proofs.ReducedRuns.{runs_reduce}
use Rattle.tap_lawful.specs.CarriedDue.Due.{ArrivalDue}
use Rattle.tap_lawful.specs.CarriedLaws.{CarriedGroupsMove, IsNextMove}
use Rattle.tap_lawful.specs.CarriedRuns.{CarriedComesNext, IsCarriedPlayed, IsCarriedScript}
use Rattle.tap_lawful.specs.Next.{beginning_in, begun_count}
use Rattle.tap_lawful.proofs.CarriedChoosing.{arrival_due, calm_after, due_back}
use Rattle.tap_lawful.proofs.CarriedComing.{carried_coming}
use Rattle.tap_lawful.proofs.CarriedMoves.{IsMoveGroup, arrival_move, begun_move}
use Rattle.tap_lawful.proofs.CarriedReduction.{by_carried, run_more, run_starts, whole_next}
use Rattle.tap_lawful.proofs.CarriedTicks.{TicksRight, tick_allowed, ticks_kept, ticks_start}
use Rattle.tap_lawful.proofs.CarriedWhole.{IsCarriedWhole, going_on}

-- ---- moves, one after another

moves_push : (steps most : ℕ) (log : List Record) (moves : List CarrierMove) (move : CarrierMove) → MayMoves steps most log moves
    → MayMove steps most (log_after log moves) move → MayMoves steps most log (moves ++ move ∷ [])
moves_push steps most log [] move may next = (next, tt)
moves_push steps most log (first ∷ moves) move may next =
    (may.0, moves_push steps most (log ++ group_of log first) moves move may.1 next)

after_push : (log : List Record) (moves : List CarrierMove) (move : CarrierMove)
    → log_after log (moves ++ move ∷ []) ≡ log_after log moves ++ group_of (log_after log moves) move
after_push log [] move = refl
after_push log (first ∷ moves) move = after_push (log ++ group_of log first) moves move

are_moves : (steps most : ℕ) (log : List Record) (moves : List CarrierMove) → MayMoves steps most log moves → AreCarrierMoves log moves
are_moves steps most log [] may = tt
are_moves steps most log (first ∷ moves) may = (may.0.is, are_moves steps most (log ++ group_of log first) moves may.1)

module _ (s : ScenarioValue) (script : IsCarriedScript s) where
  abbrev steps : ℕ
  steps = length s.steps

  abbrev start : List Record
  start = beginning_records true (beginning_in s)

  -- what holds of the log of a carried run so far
  pub record CarriedSoFar (log : List Record) : Type 0 where
    pub run : IsRunOfTurns true (beginning_in s) log
    pub right : TicksRight log
    pub moves : List CarrierMove
    pub may : MayMoves steps s.frames start moves
    pub is : log ≡ log_after start moves
    pub count : length (groups_of log) ≡ length moves

  move_next : (log group : List Record) → IsRunOfTurns true (beginning_in s) log → TicksRight log → CarriedComesNext s log group
      → IsMoveGroup steps log group
  move_next log group run right comes =
      elim (carried_coming s log group comes) [
        | inl arrives ↦
            let line = arrives.line in
            let due = due_back log (ArrivalDue line) arrives.due in
            let found = arrival_due log line due in
            arrival_move s log run line found.0 line.ack (has_number (outstanding log) line.frame) group refl refl arrives.is
            (λ records. calm_after log due.step due.is found.1)
        | inr (inl ticks) ↦ record {
          move = Ticks;
          is = ticks.is;
          moves = tt;
          allowed = tick_allowed log (groups_follow_hold.under_way log) ticks.due right;
        }
        | inr (inr begins) ↦
            begun_move s log run (begun_count log + 1) group (slice_get_within s.steps (begun_count log) begins.step begins.next)
            begins.step (first_refusal log begins.step) refl begins.is
      ]

  next_is : (log group : List Record) → CarriedSoFar log → CarriedComesNext s log group → sent_count (log ++ group) ≤ s.frames
      → IsNextMove s log group
  next_is log group far comes within =
      let next = move_next log group far.run far.right comes in
      record {
        move = next.move;
        is = next.is;
        may = record {
          is = next.moves;
          allowed = next.allowed;
          within = subst (λ g. sent_count (log ++ g) ≤ s.frames) (sym next.is) within;
        };
      }

  -- there is one more group
  pub groups_grow : (log group : List Record) → IsRunOfTurns true (beginning_in s) log → IsCarriedWhole log group
      → length (groups_of (log ++ group)) ≡ length (groups_of log) + 1
  groups_grow log group run w =
      let going = going_on log (runs_reduce.run true (beginning_in s) log run).going in
      ap (λ g. length (groups_of (log ++ g))) w.is
      ∙ ap length (groups_of-group log w.first w.after w.whole going w.going)
      ∙ length-append (groups_of log) ((w.first ∷ w.after) ∷ [])

  far_more : (log group : List Record) → CarriedSoFar log → CarriedComesNext s log group → sent_count (log ++ group) ≤ s.frames
      → CarriedSoFar (log ++ group)
  far_more log group far comes within =
      let next = next_is log group far comes within in
      let move = next.move in
      let follows : List Record → Type 0 = λ l. MayMove steps s.frames l move in
      let w = whole_next s script log group far.run comes within in
      record {
        run = run_more s script log group far.run comes within;
        right = ticks_kept s log group w comes;
        moves = far.moves ++ move ∷ [];
        may = moves_push steps s.frames start far.moves move far.may (subst follows far.is next.may);
        is = ap (λ g. log ++ g) (sym next.is) ∙ ap (λ l. l ++ group_of l move) far.is ∙ sym (after_push start far.moves move);
        count = groups_grow log group far.run w ∙ ap (λ n. n + 1) far.count ∙ sym (length-append far.moves (move ∷ []));
      }

  far_starts : CarriedSoFar start
  far_starts = record {
    run = run_starts s script;
    right = ticks_start (beginning_in s);
    moves = [];
    may = tt;
    is = refl;
    count = ap length (log_in_groups_holds.none_carried s.settings s.frames s.members);
  }

  pub carried_so_far : (log : List Record) → IsCarriedPlayed s log → CarriedSoFar log
  carried_so_far = by_carried s CarriedSoFar far_more far_starts

  pub next_move : (log group : List Record) → IsCarriedPlayed s log → CarriedComesNext s log group → sent_count (log ++ group) ≤ s.frames
      → IsNextMove s log group
  next_move log group played = next_is log group (carried_so_far log played)

  pub records_come : (log : List Record) → IsCarriedPlayed s log → EachRecord MayCome log
  records_come log played =
      let far = carried_so_far log played in
      let first = groups_follow_hold.beginning s.settings s.frames s.members in
      subst (EachRecord MayCome) (sym far.is) (groups_follow_hold.all start far.moves first (are_moves steps s.frames start far.moves far.may))

  pub measure_falls : (log group : List Record) → IsCarriedPlayed s log → CarriedComesNext s log group → sent_count (log ++ group) ≤ s.frames
      → measure s.frames (clock_of steps (log ++ group)) (counts_of (log ++ group)) < measure s.frames (clock_of steps log) (counts_of log)
  measure_falls log group played comes within =
      let next = next_move log group played comes within in
      let move = next.move in
      let kept = groups_follow_hold.kept log (records_come log played) in
      let longer = log ++ group_of log move in
      let turn = runs_end_holds.turns steps log move next.may.is next.may.allowed in
      let falls = (moves_cost_holds.falls s.frames log move (clock_of steps log) (clock_of steps longer) (counts_of log) (counts_of longer)
      (moves_cost_holds.effects log move kept next.may.is) turn next.may.within).falls in
      subst (λ g. measure s.frames (clock_of steps (log ++ g)) (counts_of (log ++ g)) < measure s.frames (clock_of steps log) (counts_of log))
      next.is falls

  pub few_packets : (log : List Record) → IsCarriedPlayed s log → packet_count log ≤ most_made s.frames steps
  few_packets log played =
      let far = carried_so_far log played in
      subst (λ l. packet_count l ≤ most_made s.frames steps) (sym far.is) (runs_end_holds.few s.settings s.members steps s.frames far.moves far.may)

  pub few_groups : (log : List Record) → IsCarriedPlayed s log → length (groups_of log) ≤ 2 * steps + 2 * packet_count log
  few_groups log played =
      let far = carried_so_far log played in
      let bound = runs_end_holds.groups s.settings s.members steps s.frames far.moves far.may in
      subst (λ n. n ≤ 2 * steps + 2 * packet_count log) (sym far.count)
      (subst (λ l. length far.moves ≤ 2 * steps + 2 * packet_count l) (sym far.is) bound)

pub carried_groups_move : CarriedGroupsMove
carried_groups_move = record {
  next = λ s log group script. next_move s script log group;
  records = λ s log script. records_come s script log;
  falls = λ s log group script. measure_falls s script log group;
  packets = λ s log script. few_packets s script log;
  groups = λ s log script. few_groups s script log;
}
