-- A start or an observation: its group is added, or it is refused, or it would send too many frames.
use Rattle.std.proofs.Common.{◌≡◌, ◌≢◌, ℕ, ◌≤◌, false, List, [], ◌∷◌, ◌++◌, length, take, All, None, Some, Result, Ok, Err, refl, ap, sym, subst, ◌∙◌, arith, append-nil, append_assoc, length-append}
use Rattle.std.specs.Prelude.{if◌then◌else◌}
use Rattle.tap_scenario.specs.Scenario.{ScenarioValue}
use Rattle.tap_scenario.specs.declared.step.Step.{Step}
use Rattle.tap_log.specs.declared.record.Record.{Record}
use Rattle.tap_log.specs.declared.record.Record.TheVariants.{Refused as RefusedRecord, Spent as SpentRecord, Step as StepRecord}
use Rattle.tap_log.specs.declared.record.Refusal.{Refusal}
use Rattle.tap_log.specs.Counts.{packet_count, resends, sent_count}
use Rattle.tap_log.specs.Kinds.{sent_number}
use Rattle.tap_log.specs.Log.{EachFrom}
use Rattle.tap_log.specs.Reduced.{reduced}
use Rattle.tap_log.proofs.MoreRecords.{sent_count-append}
use Rattle.tap_history.specs.Refusals.{first_refusal}
use Rattle.tap_history.specs.StepAsks.{actor_of}
use Rattle.tap_ledger.specs.Woven.{RemarksWithin}
use Rattle.tap_packets.specs.Groups.{data_lines, data_packets}
use Rattle.tap_packets.specs.MayCome.{KeepsPackets, MayCome}
use Rattle.tap_packets.specs.Packets.{frames_sent}
use Rattle.tap_packets.proofs.OneRecord.{kept-one}
use Rattle.tap_packets.proofs.RecordsCome.{next-step}
use Rattle.tap_runs.specs.Groups.{step_group}
use Rattle.tap_engine.specs.Outcome.{MayGoOn, WorldAnswersAs, adds, is_within, note_outcome, step_outcome, world_stays}
use Rattle.tap_engine.specs.World.{WorldValue, whole_log}
use Rattle.tap_engine.specs.declared.stop.Stop.{Stop}
use Rattle.tap_engine.specs.declared.stop.Stop.TheVariants.{Ended, NoMemory, Refused, Spent}
use Rattle.tap_engine.proofs.WholeLogs.{RecordsAreAdded, StepIsAdded, StepIsRefused, StepIsSpent, note_added, step_added, step_refused, step_spent, whole_short}
use Rattle.tap_lawful.specs.CarriedNext.{carried_next_group, reduced_step_records}
use Rattle.tap_carrier.specs.Carrier.{CarrierValue}
use Rattle.tap_carrier.specs.Kept.{Keeps, KeepsLog}
use Rattle.tap_carrier.specs.Sending.{HasHead, IsToCarry, RemarksAll, packets_since}
use Rattle.tap_carrier.proofs.KeptCarrier.{keeps_plain, keeps_refused, keeps_step}
use Rattle.tap_carried_world.specs.Adds.{AddsNext, HasAdded, HasLacked, HasSpent}
use Rattle.tap_carried_world.specs.Comes.{BeginsNext}
use Rattle.tap_carried_world.specs.Value.{CarriesRun}
use Rattle.tap_carried_world.proofs.Adding.{has_added, has_spent, lacks_all, lacks_some}
use Rattle.tap_carried_world.proofs.Carrying.{packets_are, to_carry}
use Rattle.tap_carried_world.proofs.Chosen.{refusal_comes, refused_plain, within_after}
use Rattle.tap_carried_world.proofs.Fronts.{all_front, each_front}
use Rattle.tap_carried_world.proofs.KeepsOn.{keeps_start, plain_records}
use Rattle.tap_carried_world.proofs.NextGroups.{acted_next, refused_next}
use Rattle.tap_carried_world.proofs.NodeRecords.{IsPlainGroup, observation_sends_none, sent_with_packets, step_is_plain, step_sends}
use Rattle.tap_carried_world.proofs.RunLogs.{Laws, few_frames, few_packets, front_comes, group_comes, heads_longer, packets_kept, turns_kept}
use Rattle.tap_carried_world.proofs.Worlds.{IsActing, few_sent, goes_on_with, many_sent, refused_alike, started_log, step_unended}

module _ (laws : Laws) (s : ScenarioValue) (w : WorldValue) (c : CarrierValue) (of : CarriesRun s w c) (index : ℕ) (step : Step)
    (next : BeginsNext s w index step) (acting : IsActing step) (plain : reduced (whole_log w) ≡ w.log) where
  abbrev log : List Record
  log = whole_log w

  -- what the step comes to, and the packets that are made for it
  abbrev pub step_items : List Record
  step_items = reduced_step_records s.settings log index step

  abbrev pub step_records_of : List Record
  step_records_of = StepRecord index step ∷ step_items

  abbrev pub step_packets : List Record
  step_packets = data_packets log (frames_sent step_items)

  -- it is the group of the world
  pub group_same : step_group w.beginning.settings w.log index step ≡ step_records_of
  group_same =
      ap (λ b. step_group b.settings w.log index step) of.goes_on.beginning ∙ ap (λ l. step_group s.settings l index step) (sym plain)

  -- ---- it is refused

  unsent : (refusal : Refusal) → sent_count (StepRecord index step ∷ RefusedRecord index refusal ∷ []) ≡ 0
  unfolding sent_number
  unsent refusal = refl

  pub refused_adds : (refusal : Refusal) (v u : WorldValue) (d : CarrierValue) → StepIsRefused w index step refusal v
      → v.beginning ≡ w.beginning → RecordsAreAdded v (RefusedRecord index refusal ∷ []) None u → u.beginning ≡ v.beginning
      → KeepsLog s.settings (log ++ StepRecord index step ∷ RefusedRecord index refusal ∷ []) d → HasAdded s w u d
  refused_adds refusal v u d refused begins noted stays keeps =
      let group : List Record = StepRecord index step ∷ RefusedRecord index refusal ∷ [] in
      let is = sym (refused_alike laws s of.script w of.goes_on plain step acting.alike) ∙ refused.refused_for in
      let few = of.goes_on.played.within in
      let sent = sent_count-append log group in
      let none = unsent refusal in
      has_added laws s w c of group u d (refused_next s log index step next.none next.step_is next.index_is refusal is)
      (omega (arith, few, sent, none))
      (noted.whole ∙ ap (λ l. l ++ RefusedRecord index refusal ∷ []) refused.whole
      ∙ append_assoc log (StepRecord index step ∷ []) (RefusedRecord index refusal ∷ []))
      (record { beginning = stays ∙ begins; noted = noted.left; unstopped = noted.goes_on }) keeps

  -- ---- it is accepted

  accepted_is : first_refusal w.log step ≡ None → carried_next_group s log ≡ Some (step_records_of ++ step_packets)
  accepted_is accepted =
      acted_next s log index step next.none next.step_is next.index_is acting.acts
      (sym (refused_alike laws s of.script w of.goes_on plain step acting.alike) ∙ accepted)

  -- as many frames are sent with the packets
  as_many : sent_count (log ++ (step_records_of ++ step_packets)) ≡ sent_count (log ++ step_records_of)
  as_many = sent_with_packets log step_records_of (data_lines (packet_count log) (frames_sent step_items))

  pub spent_adds : (v : WorldValue) → StepIsSpent w index step v → v.beginning ≡ w.beginning → HasSpent s w v
  spent_adds v spent begins =
      let many = many_sent laws s of.script w of.goes_on plain step_records_of (ap (λ g. is_within w.beginning w.log g) (sym group_same) ∙ spent.many) in
      let same = as_many in
      has_spent s w v (step_records_of ++ step_packets) (accepted_is spent.accepted) (omega (arith, many, same))
      (spent.whole ∙ ap (λ b. log ++ StepRecord index step ∷ SpentRecord b.frames ∷ []) of.goes_on.beginning)
      (record { beginning = begins; noted = spent.refused ∙ of.goes_on.noted }) spent.stopped

  pub lacking_adds : (v : WorldValue) → whole_log v ≡ log → v.beginning ≡ w.beginning → v.refused ≡ w.refused → HasLacked s w v
  lacking_adds v same begins refused = lacks_all s w v same (record { beginning = begins; noted = refused ∙ of.goes_on.noted })

  -- it isn't added, but for a refusal
  pub step_stops : (stop : Stop) (v : WorldValue) (d : CarrierValue) → RemarksWithin w.log w.added
      → WorldAnswersAs (step_outcome w index step) w (Err stop) v → ((refusal : Refusal) → stop ≢ Refused refusal) → AddsNext s w (Err stop) v d
  step_stops Spent v d within answers other = spent_adds v (step_spent w index step v within answers) answers.beginning
  step_stops NoMemory v d within answers other =
      lacking_adds v (whole_short (step_outcome w index step) w v (Err NoMemory) answers refl) answers.beginning (answers.memory refl).refused
  step_stops Ended v d within answers other = step_unended w v index step of.goes_on.unstopped answers
  step_stops (Refused refusal) v d within answers other = other refusal refl

  module _ (v : WorldValue) (added : StepIsAdded w index step v) (begins : v.beginning ≡ w.beginning) where
    pub whole_is : whole_log v ≡ log ++ step_records_of
    whole_is = added.whole ∙ ap (λ g. log ++ g) group_same

    few : sent_count (log ++ step_records_of) ≤ s.frames
    few = few_sent laws s of.script w of.goes_on plain step_records_of (ap (λ g. is_within w.beginning w.log g) (sym group_same) ∙ added.few)

    few_all : sent_count (log ++ (step_records_of ++ step_packets)) ≤ s.frames
    few_all = let same = as_many in let sent = few in omega (arith, same, sent)

    pub all_next : carried_next_group s log ≡ Some (step_records_of ++ step_packets)
    all_next = accepted_is added.accepted

    pub node_does : IsPlainGroup (StepRecord index step) step_items
    node_does = step_is_plain s.settings log (turns_kept laws s of.script log of.goes_on.played) index step acting.acts

    -- each record of it may come
    pub items_come : EachFrom MayCome log step_records_of
    items_come =
        each_front MayCome log step_records_of step_packets
        (group_comes laws s of.script log of.goes_on.played (step_records_of ++ step_packets) all_next few_all)

    pub carries : (d : CarrierValue) → Keeps s.settings log (log ++ step_records_of) d → All (HasHead s.settings) (log ++ step_records_of)
        → IsToCarry s.settings (length log) v d
    carries d keeps heads =
        let sent = few in
        let most = few_frames s of.script in
        to_carry v log step_records_of whole_is node_does.none s.settings d keeps
        (front_comes laws s of.script log of.goes_on.played step_records_of items_come) heads (omega (arith, sent, most))
        (few_packets laws s of.script log of.goes_on.played)

    pub keeps_begun : KeepsPackets log
    keeps_begun = packets_kept laws s of.script log of.goes_on.played

    -- the carrier keeps all that the log says but outboxes
    pub keeps_items : Keeps s.settings log (log ++ step_records_of) (record c { resending = resends step })
    keeps_items = keeps_start s.settings log log step_items keeps_begun index step c node_does items_come of.keeps

    pub start_heads : All (HasHead s.settings) (log ++ step_records_of)
    start_heads =
        let all = heads_longer laws s of.script log of.goes_on.played (step_records_of ++ step_packets) all_next few_all in
        all_front (HasHead s.settings) (log ++ step_records_of) step_packets
        (subst (All (HasHead s.settings)) (sym (append_assoc log step_records_of step_packets)) all)

    -- an observation has no packets
    pub observed_adds : actor_of step ≡ None → HasAdded s w v (record c { resending = resends step })
    observed_adds sees =
        let d : CarrierValue = record c { resending = resends step } in
        let none = observation_sends_none s.settings log (turns_kept laws s of.script log of.goes_on.played) index step sees acting.acts in
        let alone : step_records_of ++ step_packets ≡ step_records_of =
        ap (λ l. step_records_of ++ data_packets log l) none ∙ append-nil step_records_of in
        has_added laws s w c of step_records_of v d (all_next ∙ ap Some alone) few whole_is
        (record { beginning = begins; noted = added.refused ∙ of.goes_on.noted; unstopped = added.goes_on })
        (keeps_plain s.settings log (log ++ step_records_of) step_records_of d keeps_begun items_come
        (plain_records step_records_of (step_sends index step step_items ∙ none) node_does.none.ended) keeps_items)

    since_is : packets_since (length log) v ≡ step_packets
    since_is =
        packets_are v log step_records_of whole_is node_does.none ∙ ap (data_packets log) (step_sends index step step_items)

    -- its packets were made, or not all of them
    pub carried_adds : (given : Result (Unit {0}) Stop) (u : WorldValue) (d : CarrierValue)
        → RemarksAll (packets_since (length log) v) (KeepsLog s.settings (whole_log u) d) v given u → AddsNext s w given u d
    carried_adds given u d made = by given (subst (λ l. RemarksAll l (KeepsLog s.settings (whole_log u) d) v given u) since_is made)
      where
        log_is : (more : List Record) → whole_log u ≡ whole_log v ++ more → whole_log u ≡ (log ++ step_records_of) ++ more
        log_is more is = is ∙ ap (λ l. l ++ more) whole_is

        by : (given : Result (Unit {0}) Stop) → RemarksAll step_packets (KeepsLog s.settings (whole_log u) d) v given u
            → AddsNext s w given u d
        by (Ok done) all =
            let whole = log_is step_packets all.0.log ∙ append_assoc log step_records_of step_packets in
            has_added laws s w c of (step_records_of ++ step_packets) u d all_next few_all whole
            (record {
              beginning = all.0.beginning ∙ begins;
              noted = all.0.refused ∙ added.refused ∙ of.goes_on.noted;
              unstopped = all.0.stopped ∙ added.goes_on;
            })
            (subst (λ l. KeepsLog s.settings l d) whole all.1)
        by (Err NoMemory) short =
            let fewer = short.few in
            let size = length-append step_records_of step_packets in
            let within = few_all in
            lacks_some s w u (step_records_of ++ step_packets) step_records_of step_packets [] short.kept all_next
            (ap (λ l. step_records_of ++ l) (sym (append-nil step_packets))) (omega (arith, fewer)) (omega (arith, fewer, size))
            (λ over. absurd (omega (arith, over, within)))
            (log_is (take short.kept step_packets) short.log)
            (record { beginning = short.beginning ∙ begins; noted = short.refused ∙ added.refused ∙ of.goes_on.noted })
        by (Err Spent) never = absurd never
        by (Err Ended) never = never
        by (Err (Refused refusal)) never = never

-- ---- by the answers of the calls

module _ (laws : Laws) (s : ScenarioValue) (w : WorldValue) (c : CarrierValue) (of : CarriesRun s w c) (index : ℕ) (step : Step)
    (next : BeginsNext s w index step) (acting : IsActing step) (plain : reduced (whole_log w) ≡ w.log) where
  noted_ok : (v u : WorldValue) (refusal : Refusal) (given : Result (Unit {0}) Stop) → v.stopped ≡ false
      → WorldAnswersAs (note_outcome v index refusal) v given u → given ≢ Err NoMemory → given ≡ Ok tt
  noted_ok v u refusal given runs answers enough =
      answers.answer enough
      ∙ ap (λ b. (if b then world_stays v Ended else record (adds v (RefusedRecord index refusal ∷ [])) { refused = None }).answer) runs

  -- the refusal of a step is noted
  pub refused_call : (refusal : Refusal) (v u : WorldValue) (d : CarrierValue) → d ≡ record c { resending = resends step }
      → RemarksWithin w.log w.added → WorldAnswersAs (step_outcome w index step) w (Err (Refused refusal)) v
      → (given : Result (Unit {0}) Stop) → WorldAnswersAs (note_outcome v index refusal) v given u → given ≢ Err NoMemory
      → AddsNext s w given u d
  refused_call refusal v u d begun within answers given noted enough =
      let e : CarrierValue = record c { resending = resends step } in
      let refused = step_refused w index step v within refusal answers in
      let ok = noted_ok v u refusal given refused.goes_on noted enough in
      let log = whole_log w in
      let kept = packets_kept laws s of.script log of.goes_on.played in
      let both : List Record = StepRecord index step ∷ RefusedRecord index refusal ∷ [] in
      let after = log ++ StepRecord index step ∷ [] in
      let keeps = subst (λ l. Keeps s.settings log l e) (append_assoc log (StepRecord index step ∷ []) (RefusedRecord index refusal ∷ []))
      (keeps_refused s.settings log after index refusal e (kept-one log (StepRecord index step) kept (next-step log index step))
      (keeps_step s.settings log log index step c kept of.keeps)) in
      let added = note_added v u (within_after w v within index step refusal answers refused) index refusal
      (subst (λ r. WorldAnswersAs (note_outcome v index refusal) v r u) ok noted) in
      subst (λ x. AddsNext s w given u x) (sym begun)
      (subst (λ r. AddsNext s w r u e) (sym ok)
      (refused_adds laws s w c of index step next acting plain refusal v u e refused answers.beginning added noted.beginning
      (keeps_plain s.settings log (log ++ both) both e kept (next-step log index step, (refusal_comes after index refusal, tt))
      (refused_plain index step refusal) keeps)))

  -- what an observation sees is added
  pub observed_call : (v : WorldValue) (d : CarrierValue) → d ≡ record c { resending = resends step } → RemarksWithin w.log w.added
      → WorldAnswersAs (step_outcome w index step) w (Ok tt) v → actor_of step ≡ None → HasAdded s w v d
  observed_call v d begun within answers sees =
      subst (HasAdded s w v) (sym begun)
      (observed_adds laws s w c of index step next acting plain v (step_added w index step v within answers) answers.beginning sees)

  module _ (v : WorldValue) (within : RemarksWithin w.log w.added) (answers : WorldAnswersAs (step_outcome w index step) w (Ok tt) v) where
    added : StepIsAdded w index step v
    added = step_added w index step v within answers

    -- after a start the world goes on
    pub started_goes : MayGoOn v
    started_goes =
        goes_on_with w v (StepRecord index step) (step_items laws s w c of index step next acting plain)
        (started_log w v index step answers added ∙ ap (λ g. w.log ++ g) (group_same laws s w c of index step next acting plain))
        (node_does laws s w c of index step next acting plain v added answers.beginning).going (added.refused ∙ of.goes_on.noted)

    pub started_carries : (d : CarrierValue) → d ≡ record c { resending = resends step } → IsToCarry s.settings (length (whole_log w)) v d
    started_carries d begun =
        subst (IsToCarry s.settings (length (whole_log w)) v) (sym begun)
        (carries laws s w c of index step next acting plain v added answers.beginning (record c { resending = resends step })
        (keeps_items laws s w c of index step next acting plain v added answers.beginning)
        (start_heads laws s w c of index step next acting plain v added answers.beginning))

    pub started_call : (given : Result (Unit {0}) Stop) (u : WorldValue) (d : CarrierValue)
        → RemarksAll (packets_since (length (whole_log w)) v) (KeepsLog s.settings (whole_log u) d) v given u → AddsNext s w given u d
    started_call = carried_adds laws s w c of index step next acting plain v added answers.beginning
