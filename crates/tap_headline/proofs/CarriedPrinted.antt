-- The log of a carried run can be printed, and has few records.
use Rattle.std.proofs.Common.{◌≡◌, inl, inr, ℕ, ◌+◌, ◌*◌, ◌≤◌, true, List, [], ◌∷◌, ◌++◌, length, take, All, refl, ap, sym, subst, ◌∙◌, arith, append_assoc, append-nil, length-append}
use Rattle.std.proofs.lemmas.Bool.{cases_lt}
use Rattle.std.proofs.lemmas.List.{length-take-le}
use Rattle.std.proofs.lemmas.List.Elements.{All-append, All-cons, All-nil, All-take, All-weaker}
use Rattle.tap_name.specs.Settings.{SettingsValue}
use Rattle.tap_scenario.specs.Scenario.{ScenarioValue}
use Rattle.tap_log.specs.declared.record.Record.{Record}
use Rattle.tap_log.specs.declared.record.Record.TheVariants.{Arrived, Carrier, Finished, Spent, Step as StepRecord, Taken, Ticked}
use Rattle.tap_log.specs.Counts.{packet_count, sent_count}
use Rattle.tap_log.specs.Reduced.{reduced}
use Rattle.tap_log.proofs.MoreRecords.{packet_count-append}
use Rattle.tap_history.specs.Groups.{groups_of}
use Rattle.tap_runs.specs.Beginning.{Beginning}
use Rattle.tap_runs.specs.Named.{HaveNames}
use Rattle.tap_carried.specs.LogTurns.{IsAddedRecord, Turn, beginning_records, group_of_turn, reduced_group}
use Rattle.tap_carried.specs.LogTurns.Turn.{Arrives, Steps, Takes, Ticks}
use Rattle.tap_carried.specs.ReducedRuns.{IsRunOfTurns, TurnFollows}
use Rattle.tap_carried.proofs.ReducedRuns.{runs_reduce}
use Rattle.tap_carried.proofs.TurnGroups.{reduced-append, turn_reduced}
use Rattle.tap_lawful.specs.CarriedRuns.{CarriedComesNext, IsCarriedCut, IsCarriedLogOf, IsCarriedPlayed, IsCarriedScript, IsCarriedSpent}
use Rattle.tap_lawful.specs.Next.{beginning_in}
use Rattle.tap_lawful.proofs.CarriedGrowth.{carried_more}
use Rattle.tap_lawful.proofs.CarriedReduction.{by_carried, carried_run, run_more, run_starts, script_steps, whole_next}
use Rattle.tap_lawful.proofs.CarriedRunMoves.{carried_groups_move, groups_grow}
use Rattle.tap_lawful.proofs.CarriedTurns.{IsTurnGroup, added_of, turn_of_group}
use Rattle.tap_lawful.proofs.CarriedWhole.{is_turn}
use Rattle.tap_lawful.proofs.Played.{sent_count-append}
use Rattle.tap_safe_runs.proofs.Safe.{steps_after}
use Rattle.tap_headline.specs.Printable.{CanBePrinted}
use Rattle.tap_headline.proofs.CarriedEnds.{kept, reduced_run}
use Rattle.tap_headline.proofs.Groups.{group_told}
use Rattle.tap_headline.proofs.Openings.{opening_of, opening_prints}
use Rattle.tap_headline.proofs.Printable.{AreLater, frames_few, later_with, one_end, two_end}
use Rattle.tap_headline.proofs.PrintedRecords.{AreTold, CanPrint, added_prints}

-- ---- records one after another

-- each of the records can be printed, and beside those of frames and packets there are at most so many
record AreCarriedTold (p : SettingsValue) (most : ℕ) (items : List Record) : Type 0 where
  print : All (CanPrint p) items
  few : length items ≤ most + (sent_count items + packet_count items)

module _ (p : SettingsValue) where
  one_told : (item : Record) → CanPrint p item → AreCarriedTold p 1 (item ∷ [])
  one_told item can = record { print = All-cons (CanPrint p) item [] can (All-nil (CanPrint p)); few = omega arith }

  more_told : (most more : ℕ) (items : List Record) → most ≤ more → AreCarriedTold p most items → AreCarriedTold p more items
  more_told most more items le told = let few = told.few in record { print = told.print; few = omega (arith, few, le) }

  both_told : (most more : ℕ) (items others : List Record) → AreCarriedTold p most items → AreCarriedTold p more others
      → AreCarriedTold p (most + more) (items ++ others)
  both_told most more items others first second =
      let one = first.few in
      let two = second.few in
      let size = length-append items others in
      let sent = sent_count-append items others in
      let made = packet_count-append items others in
      record { print = All-append (CanPrint p) items others first.print second.print; few = omega (arith, one, two, size, sent, made) }

  plain_told : (most : ℕ) (items : List Record) → AreTold p most items → AreCarriedTold p most items
  plain_told most items told = let few = told.few in record { print = told.print; few = omega (arith, few) }

  -- what is added are packets, but for one record
  added_told : (added : List Record) → All IsAddedRecord added → length added ≤ 1 + packet_count added → AreCarriedTold p 1 added
  added_told added left_out few = record {
    print = All-weaker IsAddedRecord (CanPrint p) (λ item is. added_prints p item is.left_out) added left_out;
    few = omega (arith, few);
  }

-- ---- a group of a carried run

module _ (b : Beginning) (log : List Record) (run : IsRunOfTurns true b log) where
  abbrev p : SettingsValue
  p = b.settings

  arrived_told : (packet : ℕ) → AreCarriedTold p 1 (Arrived packet ∷ [])
  arrived_told packet = one_told p (Arrived packet) (tt, λ h. cc)

  turn_told : (turn : Turn) → TurnFollows true b log turn → HaveNames p (reduced_group turn)
      → length (added_of turn) ≤ 1 + packet_count (added_of turn) → AreCarriedTold p 6 (group_of_turn true turn)
  turn_told (Steps index step items added) follows names few =
      let told = plain_told p 4 (StepRecord index step ∷ items)
      (group_told b (reduced log) (reduced_run b log run) (StepRecord index step ∷ items) names follows.0.0) in
      more_told p 5 6 (StepRecord index step ∷ (items ++ added)) (omega arith)
      (both_told p 4 1 (StepRecord index step ∷ items) added told (added_told p added follows.1.0 few))
  turn_told (Takes packet frame items added) follows names few =
      let told = plain_told p 4 (Taken frame ∷ items)
      (group_told b (reduced log) (reduced_run b log run) (Taken frame ∷ items) names follows.0) in
      both_told p 1 5 (Arrived packet ∷ []) (Taken frame ∷ (items ++ added)) (arrived_told packet)
      (both_told p 4 1 (Taken frame ∷ items) added told (added_told p added follows.1 few))
  turn_told (Arrives packet added) follows names few =
      more_told p 2 6 (Arrived packet ∷ added) (omega arith)
      (both_told p 1 1 (Arrived packet ∷ []) added (arrived_told packet) (added_told p added follows.1.0 few))
  turn_told (Ticks added) follows names few =
      more_told p 2 6 (Ticked ∷ added) (omega arith)
      (both_told p 1 1 (Ticked ∷ []) added (one_told p Ticked (tt, λ h. cc)) (added_told p added follows.1.0 few))

  -- its steps have names of the settings, as those of the longer log have
  names_of_turn : (group : List Record) (next : IsTurnGroup true b log group) → IsRunOfTurns true b (log ++ group)
      → HaveNames p (reduced_group next.turn)
  names_of_turn group next longer =
      let reduces : reduced group ≡ reduced_group next.turn =
      ap reduced (sym next.is) ∙ turn_reduced true next.turn (is_turn true b log next.turn (kept b log run) next.follows) in
      let all : HaveNames p (reduced log ++ reduced group) =
      subst (HaveNames p) (reduced-append log group) (runs_reduce.run true b (log ++ group) longer).steps in
      subst (HaveNames p) reduces (steps_after p (reduced log) (reduced group) all)

  next_told : (group : List Record) → IsTurnGroup true b log group → IsRunOfTurns true b (log ++ group) → AreCarriedTold p 6 group
  next_told group next longer =
      subst (AreCarriedTold p 6) next.is (turn_told next.turn next.follows (names_of_turn group next longer) next.few)

-- ---- the log of a carried run

module _ (s : ScenarioValue) (script : IsCarriedScript s) where
  abbrev start : List Record
  start = beginning_records true (beginning_in s)

  -- the records after its beginning
  record IsToldSoFar (log : List Record) : Type 0 where
    run : IsRunOfTurns true (beginning_in s) log
    later : List Record
    is : log ≡ start ++ later
    told : AreCarriedTold s.settings (6 * length (groups_of log)) later

  coming_told : (log group : List Record) → IsRunOfTurns true (beginning_in s) log → CarriedComesNext s log group
      → sent_count (log ++ group) ≤ s.frames → AreCarriedTold s.settings 6 group
  coming_told log group run comes within =
      next_told (beginning_in s) log run group (turn_of_group s log run s.frames group (script_steps s script) comes within)
      (run_more s script log group run comes within)

  told_more : (log group : List Record) → IsToldSoFar log → CarriedComesNext s log group → sent_count (log ++ group) ≤ s.frames
      → IsToldSoFar (log ++ group)
  told_more log group far comes within =
      let count = length (groups_of log) in
      let more = groups_grow s script log group far.run (whole_next s script log group far.run comes within) in
      let size : 6 * count + 6 ≡ 6 * length (groups_of (log ++ group)) = omega (arith, more) in
      record {
        run = run_more s script log group far.run comes within;
        later = far.later ++ group;
        is = ap (λ l. l ++ group) far.is ∙ append_assoc start far.later group;
        told = subst (λ n. AreCarriedTold s.settings n (far.later ++ group)) size
            (both_told s.settings (6 * count) 6 far.later group far.told (coming_told log group far.run comes within));
      }

  told_starts : IsToldSoFar start
  told_starts = record {
    run = run_starts s script;
    later = [];
    is = refl;
    told = record { print = All-nil (CanPrint s.settings); few = omega arith };
  }

  told_so_far : (log : List Record) → IsCarriedPlayed s log → IsToldSoFar log
  told_so_far = by_carried s IsToldSoFar told_more told_starts

  played_later : (log : List Record) → IsCarriedPlayed s log → AreLater s log
  played_later log played =
      let far = told_so_far log played in
      let few = far.told.few in
      let parts_sent = ap sent_count far.is ∙ sent_count-append start far.later in
      let parts_made = ap packet_count far.is ∙ packet_count-append start far.later in
      let groups = carried_groups_move.groups s log script played in
      let packets = carried_groups_move.packets s log script played in
      let within = played.within in
      let steps = script.valid.steps_to in
      let frames = script.valid.frames_to in
      let limit = frames_few s.settings.digits in
      record {
        later = Carrier ∷ far.later;
        is = far.is;
        print = All-cons (CanPrint s.settings) Carrier far.later (tt, λ h. cc) far.told.print;
        few = omega (arith, few, parts_sent, parts_made, groups, packets, within, steps, frames, limit);
      }

  -- ---- how it has ended

  stopped_printed : (played log : List Record) → IsCarriedPlayed s played → IsCarriedCut s played log → CanBePrinted log
  stopped_printed played log is_played cut =
      let P = CanPrint s.settings in
      let parts = played_later played is_played in
      let group = cut.group in
      subst CanBePrinted (sym cut.log_is) (
      elim (cases_lt s.frames (sent_count (played ++ group))) [
        | inl over ↦
            let opening = opening_of s played group cut.next in
            let front : take cut.kept group ≡ opening.first ∷ [] = ap (λ k. take k group) (cut.first over) ∙ ap (take 1) (sym opening.is) in
            subst (λ l. CanBePrinted (played ++ l)) (sym front)
            (one_end s played opening.first parts (opening_prints s.settings opening.first opening.opens))
        | inr within ↦
            let told = coming_told played group (carried_run s script played is_played) cut.next within in
            let few = told.few in
            let longer = carried_more s played group script is_played cut.next within in
            let packets = carried_groups_move.packets s (played ++ group) script longer in
            let parts_sent = sent_count-append played group in
            let parts_made = packet_count-append played group in
            let size = cut.few in
            let shorter = length-take-le cut.kept group (let size = cut.few in omega (arith, size)) in
            let steps = script.valid.steps_to in
            let frames = script.valid.frames_to in
            let limit = frames_few s.settings.digits in
            later_with s played (take cut.kept group) parts (All-take P cut.kept group told.print)
            (omega (arith, few, packets, parts_sent, parts_made, shorter, within, steps, frames, limit))
      ]
      )

  spent_printed : (played log : List Record) → IsCarriedPlayed s played → IsCarriedSpent s played log → CanBePrinted log
  spent_printed played log is_played spent =
      let opening = opening_of s played spent.group spent.next in
      let one : take 1 spent.group ≡ opening.first ∷ [] = ap (take 1) (sym opening.is) in
      subst CanBePrinted (sym (spent.log_is ∙ ap (λ l. played ++ (l ++ Spent s.frames ∷ [])) one))
      (two_end s played opening.first (Spent s.frames) (played_later played is_played)
      (opening_prints s.settings opening.first opening.opens) (tt, λ h. cc))

  pub carried_printed : (log : List Record) → IsCarriedLogOf s log → CanBePrinted log
  carried_printed log of =
      let parts = played_later of.played of.is_played in
      elim of.ending [
        | inl same ↦
            subst CanBePrinted (append-nil of.played ∙ sym same)
            (later_with s of.played [] parts (All-nil (CanPrint s.settings)) (omega arith))
        | inr (inl (inl finished)) ↦
            subst CanBePrinted (sym finished.log_is) (one_end s of.played (Finished (length s.steps)) parts (tt, λ h. cc))
        | inr (inl (inr spent)) ↦ spent_printed of.played log of.is_played spent
        | inr (inr cut) ↦ stopped_printed of.played log of.is_played cut
      ]
