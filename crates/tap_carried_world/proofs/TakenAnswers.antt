-- What a world answers that takes the frame, and what then becomes of its packets.
use Rattle.std.proofs.Common.{◌≡◌, ◌≢◌, ℕ, ◌+◌, ◌≤◌, Bool, false, true, List, [], ◌∷◌, ◌++◌, length, take, Some, Result, Ok, Err, refl, ap, sym, subst, ◌∙◌, arith, append-nil, append_assoc, length-append}
use Rattle.std.specs.Prelude.{if◌then◌else◌, slice_get}
use Rattle.std.proofs.lemmas.Bool.{leb-false, leb-true}
use Rattle.std.proofs.Math.Seq.{take-append-add}
use Rattle.tap_scenario.specs.Scenario.{ScenarioValue}
use Rattle.tap_log.specs.declared.record.Record.{Record}
use Rattle.tap_log.specs.declared.record.Record.TheVariants.{Spent as SpentRecord, Taken}
use Rattle.tap_log.specs.Counts.{sent_count}
use Rattle.tap_log.specs.Reduced.{reduced}
use Rattle.tap_history.specs.Moments.{outstanding}
use Rattle.tap_ledger.specs.Woven.{RemarksWithin}
use Rattle.tap_runs.specs.Groups.{taken_group}
use Rattle.tap_engine.specs.Kinds.{is_finished}
use Rattle.tap_engine.specs.Outcome.{MayGoOn, WorldAnswersAs, WorldOutcome, adds, deliver_outcome, is_within, spends, takes_number, world_stays}
use Rattle.tap_engine.specs.World.{WorldValue, whole_log}
use Rattle.tap_engine.specs.declared.stop.Stop.{Stop}
use Rattle.tap_engine.specs.declared.stop.Stop.TheVariants.{Ended, NoMemory, Refused, Spent}
use Rattle.tap_engine.proofs.WholeLogs.{TakeIsAdded, take_added, take_spent, take_unrefused, whole_short}
use Rattle.tap_carrier.specs.Carrier.{CarrierValue}
use Rattle.tap_carrier.specs.Kept.{KeepsLog}
use Rattle.tap_carrier.specs.Sending.{IsToCarry, RemarksAll, packets_since}
use Rattle.tap_carried_world.specs.Taking.{CanTake, IsToTake, TakesFrame, records_of_taking}
use Rattle.tap_carried_world.proofs.KeepsOn.{keeps_taking}
use Rattle.tap_carried_world.proofs.RunLogs.{Laws}
use Rattle.tap_carried_world.proofs.Taking.{items, node_comes, node_group, node_takes, packets, records_are, sent_whole, take_carries, taken_same, taken_since, whole_kept, within_taking}
use Rattle.tap_carried_world.proofs.Worlds.{goes_on_with, taken_log}

-- a group that is added, or says `Spent`, doesn't say that the world had been stopped
never_ended : (w : WorldValue) (first group : List Record) (few : Bool)
    → (if few then adds w group else spends w first).answer ≢ Err Ended
never_ended w first group true = λ same. cc
never_ended w first group false = λ same. cc

module _ (laws : Laws) (s : ScenarioValue) (w : WorldValue) (frame : ℕ) (can : CanTake s w frame) (c : CarrierValue)
    (to_take : IsToTake s w frame c) (plain : reduced (whole_log w) ≡ w.log) (on : MayGoOn w) (runs : w.stopped ≡ false)
    (within : RemarksWithin w.log w.added) (place : ℕ) (there : slice_get (outstanding w.log) place ≡ Some frame) where
  abbrev records : List Record
  records = records_of_taking s (whole_log w) frame

  -- the records of the node
  abbrev node : List Record
  node = node_group laws s w frame can to_take.waits plain

  abbrev more : List Record
  more = packets laws s w frame can to_take.waits plain

  records_is : records ≡ node ++ more
  records_is = records_are laws s w frame can to_take.waits plain

  frames_is : sent_count (whole_log w ++ records) ≡ sent_count (can.played ++ node)
  frames_is = sent_whole laws s w frame can to_take.waits plain

  -- ---- it isn't taken

  deliver_goes : (given : Result (Unit {0}) Stop) (v : WorldValue) → WorldAnswersAs (deliver_outcome w place) w given v → given ≢ Err NoMemory
      → given ≢ Err Ended
  deliver_goes given v answers enough ended =
      let group = taken_group w.beginning.settings w.log frame in
      never_ended w [] group (is_within w.beginning w.log group)
      (sym (ap (λ (o : WorldOutcome). o.answer)
      (ap (λ b. if b then world_stays w Ended else takes_number w (slice_get (outstanding w.log) place)) runs ∙ ap (takes_number w) there))
      ∙ sym (answers.answer enough) ∙ ended)

  pub deliver_stops : (stop : Stop) (v : WorldValue) (d : CarrierValue) → WorldAnswersAs (deliver_outcome w place) w (Err stop) v
      → TakesFrame s frame w (Err stop) v d
  deliver_stops Spent v d answers =
      let spent = take_spent w place frame there v within answers in
      let many = leb-false _ _ (sym (within_taking laws s w frame can to_take.waits plain) ∙ spent.many) in
      let same = frames_is in
      record {
        over = omega (arith, many, same);
        log = spent.whole ∙ ap (λ b. whole_log w ++ SpentRecord b.frames ∷ []) can.beginning;
        left = record { beginning = answers.beginning; noted = spent.refused ∙ on.noted };
        stopped = spent.stopped;
      }
  deliver_stops NoMemory v d answers = record {
    kept = 0;
    few = omega arith;
    none = λ over. refl;
    log = whole_short (deliver_outcome w place) w v (Err NoMemory) answers refl ∙ sym (append-nil (whole_log w));
    left = record { beginning = answers.beginning; noted = (answers.memory refl).refused ∙ on.noted };
  }
  deliver_stops (Refused refusal) v d answers = absurd (take_unrefused w place frame there v refusal answers)
  deliver_stops Ended v d answers = deliver_goes (Err Ended) v answers (λ same. cc) refl

  -- ---- it is taken

  module _ (v : WorldValue) (answers : WorldAnswersAs (deliver_outcome w place) w (Ok tt) v) where
    pub taken_so : TakeIsAdded w frame v
    taken_so = take_added w place frame there v within answers

    log_is : whole_log v ≡ whole_log w ++ node
    log_is = taken_so.whole ∙ ap (λ g. whole_log w ++ g) (taken_same laws s w frame can to_take.waits plain)

    few : sent_count (can.played ++ node) ≤ s.frames
    few = leb-true _ _ (sym (within_taking laws s w frame can to_take.waits plain) ∙ taken_so.few)

    pub goes_after : MayGoOn v
    goes_after =
        goes_on_with w v (Taken frame) (items laws s w frame can to_take.waits plain)
        (taken_log w v place frame there answers taken_so ∙ ap (λ g. w.log ++ g) (taken_same laws s w frame can to_take.waits plain))
        (node_takes laws s w frame can to_take.waits plain).going (taken_so.refused ∙ on.noted)

    pub to_carry_on : IsToCarry s.settings (length (whole_log w)) v c
    to_carry_on =
        take_carries laws s w frame can to_take.waits plain few v c log_is
        (keeps_taking s.settings (whole_log w) (whole_log w) (items laws s w frame can to_take.waits plain)
        (whole_kept laws s w frame can to_take.waits plain few) frame to_take.inboxes c (node_takes laws s w frame can to_take.waits plain)
        (node_comes laws s w frame can to_take.waits plain few) to_take.arrived to_take.keeps)

    -- its packets were made, or not all of them
    pub carried_takes : (given : Result (Unit {0}) Stop) (u : WorldValue) (d : CarrierValue)
        → RemarksAll (packets_since (length (whole_log w)) v) (KeepsLog s.settings (whole_log u) d) v given u → TakesFrame s frame w given u d
    carried_takes given u d made =
        by given
        (subst (λ l. RemarksAll l (KeepsLog s.settings (whole_log u) d) v given u)
        (taken_since laws s w frame can to_take.waits plain few v log_is) made)
      where
        by : (given : Result (Unit {0}) Stop) → RemarksAll more (KeepsLog s.settings (whole_log u) d) v given u → TakesFrame s frame w given u d
        by (Ok done) all =
            let whole : whole_log u ≡ whole_log w ++ records =
            all.0.log ∙ ap (λ l. l ++ more) log_is ∙ append_assoc (whole_log w) node more ∙ ap (λ l. whole_log w ++ l) (sym records_is) in
            let sent = few in
            let same = frames_is in
            let is = ap sent_count whole in
            record {
              log = whole;
              within = omega (arith, sent, same, is);
              left = record { beginning = all.0.beginning ∙ answers.beginning; noted = all.0.refused ∙ taken_so.refused ∙ on.noted };
              runs = all.0.stopped ∙ taken_so.goes_on;
              unfinished = ap is_finished all.0.plain ∙ goes_after.unfinished;
              keeps = all.1;
            }
        by (Err NoMemory) short =
            let fewer = short.few in
            let size = ap length records_is ∙ length-append node more in
            let sent = few in
            let same = frames_is in
            record {
              kept = length node + short.kept;
              few = omega (arith, fewer, size);
              none = λ over. absurd (omega (arith, over, sent, same));
              log =
                  short.log ∙ ap (λ l. l ++ take short.kept more) log_is ∙ append_assoc (whole_log w) node (take short.kept more)
                  ∙ ap (λ l. whole_log w ++ l)
                  (sym (take-append-add node more short.kept) ∙ ap (take (length node + short.kept)) (sym records_is));
              left = record { beginning = short.beginning ∙ answers.beginning; noted = short.refused ∙ taken_so.refused ∙ on.noted };
            }
        by (Err Spent) never = absurd never
        by (Err Ended) never = never
        by (Err (Refused refusal)) never = never
