-- A choice adds its group: the step alone, or with its refusal, or with the packet that is lost or made once more.
use Rattle.std.proofs.Common.{◌≡◌, ◌≢◌, inr, ℕ, ◌≤◌, false, true, List, [], ◌∷◌, ◌++◌, length, take, None, Some, Result, Ok, Err, IsTrue, refl, ap, sym, subst, ◌∙◌, arith, append-nil, append_assoc, length-append}
use Rattle.std.specs.Prelude.{if◌then◌else◌, slice_get}
use Rattle.tap_scenario.specs.Scenario.{ScenarioValue}
use Rattle.tap_scenario.specs.Step.{asks_no_roots}
use Rattle.tap_scenario.specs.declared.step.Step.{Step}
use Rattle.tap_scenario.specs.declared.step.Step.TheVariants.{Lose, Repeat}
use Rattle.tap_log.specs.declared.record.Record.{Record}
use Rattle.tap_log.specs.declared.record.Record.TheVariants.{Lost, Refused as RefusedRecord, Step as StepRecord}
use Rattle.tap_log.specs.declared.record.Refusal.{Refusal}
use Rattle.tap_log.specs.Counts.{resends, sent_count}
use Rattle.tap_log.specs.Kinds.{arrived_number, ended_number, is_carried, sent_number, taken_number}
use Rattle.tap_log.specs.Log.{EachFrom, last_of}
use Rattle.tap_log.proofs.MoreRecords.{last_of-push, sent_count-append}
use Rattle.tap_history.specs.Refusals.{first_refusal}
use Rattle.tap_ledger.specs.Woven.{RemarksWithin}
use Rattle.tap_packets.specs.Groups.{copied_line}
use Rattle.tap_packets.specs.Matching.{packet_along}
use Rattle.tap_packets.specs.MayCome.{KeepsPackets, MayBeMade, MayCome}
use Rattle.tap_packets.specs.Packets.{PacketLine, lines_under_way, made_packet, packet_record}
use Rattle.tap_packets.specs.Sequence.{frame_ways}
use Rattle.tap_packets.proofs.OneRecord.{ArePlain, kept-one, ways-one}
use Rattle.tap_packets.proofs.RecordsCome.{next-step}
use Rattle.tap_runs.specs.Course.{is_choice}
use Rattle.tap_engine.specs.Outcome.{MayNote, WorldAnswersAs, WorldOutcome, adds, mark_outcome, step_outcome, world_stays}
use Rattle.tap_engine.specs.World.{WorldValue, whole_log}
use Rattle.tap_engine.specs.declared.stop.Stop.{Stop}
use Rattle.tap_engine.specs.declared.stop.Stop.TheVariants.{Ended, NoMemory, Refused, Spent}
use Rattle.tap_engine.proofs.WholeLogs.{RecordsAreAdded, StepIsRefused, whole_short}
use Rattle.tap_lawful.specs.CarriedNext.{carried_next_group, choice_group}
use Rattle.tap_carrier.specs.Carrier.{CarrierValue}
use Rattle.tap_carrier.specs.Kept.{Keeps}
use Rattle.tap_carrier.specs.Sending.{FallsShort, HasDropped, HasPut, RemarksAll, put_record}
use Rattle.tap_carrier.proofs.KeptCarrier.{keeps_lost, keeps_plain, keeps_put, keeps_refused, keeps_step}
use Rattle.tap_carried_world.specs.Adds.{AddsNext, HasAdded}
use Rattle.tap_carried_world.specs.Comes.{BeginsNext}
use Rattle.tap_carried_world.specs.Value.{CarriesRun}
use Rattle.tap_carried_world.proofs.Adding.{has_added, lacks_all, lacks_front}
use Rattle.tap_carried_world.proofs.Choices.{counted, refusable}
use Rattle.tap_carried_world.proofs.NextGroups.{choice_next, lose_chosen, refused_next, repeat_chosen}
use Rattle.tap_carried_world.proofs.RunLogs.{Laws, group_comes, packets_kept}
use Rattle.tap_carried_world.proofs.Worlds.{refused_log, went_not_short}

-- ---- a step that is added alone

module _ (w : WorldValue) (index : ℕ) (step : Step) (runs : w.stopped ≡ false) where
  marks : mark_outcome w index step ≡ adds w (StepRecord index step ∷ [])
  marks = ap (λ b. if b then world_stays w Ended else adds w (StepRecord index step ∷ [])) runs

  pub marked_log : (v : WorldValue) → WorldAnswersAs (mark_outcome w index step) w (Ok tt) v → v.log ≡ w.log ++ StepRecord index step ∷ []
  marked_log v answers = answers.log went_not_short ∙ ap (λ (o : WorldOutcome). o.log) marks

  -- it isn't added only for want of memory
  marked_not : (stop : Stop) (v : WorldValue) → WorldAnswersAs (mark_outcome w index step) w (Err stop) v
      → ◌≢◌ {A = Result (Unit {0}) Stop} (Err stop) (Err NoMemory) → ⊥
  marked_not stop v answers enough =
      let never : ◌≡◌ {A = Result (Unit {0}) Stop} (Err stop) (Ok tt) = answers.answer enough ∙ ap (λ (o : WorldOutcome). o.answer) marks in cc

-- the refusal of a choice may be noted
pub may_note : (log : List Record) (carried : is_carried log ≡ true) (w v : WorldValue) (index : ℕ) (step : Step) (refusal : Refusal)
    → is_choice step ≡ true → IsTrue (asks_no_roots step) → first_refusal log step ≡ Some refusal → v.log ≡ w.log ++ StepRecord index step ∷ []
    → MayNote v index refusal
may_note log carried w v index step refusal chooses played refused log_is = record {
  step = step;
  last = ap last_of log_is ∙ last_of-push w.log (StepRecord index step);
  may = inr (refusable log step refusal _ _ (counted log carried) chooses played refused);
}

-- the remarks stand within one more record too
pub within_more : (w v : WorldValue) (item : Record) → v.log ≡ w.log ++ item ∷ [] → v.added ≡ w.added → RemarksWithin w.log w.added
    → RemarksWithin v.log v.added
within_more w v item log added within =
    let size = ap length log ∙ length-append w.log (item ∷ []) in
    subst (λ a. RemarksWithin v.log a) (sym added) (λ k d few. let one = within k d few in omega (arith, one, size))

pub within_after : (w v : WorldValue) → RemarksWithin w.log w.added → (index : ℕ) (step : Step) (refusal : Refusal)
    → WorldAnswersAs (step_outcome w index step) w (Err (Refused refusal)) v → StepIsRefused w index step refusal v → RemarksWithin v.log v.added
within_after w v within index step refusal answers refused =
    within_more w v (StepRecord index step) (refused_log w v index step refusal answers refused) answers.added within

-- ---- what a choice adds

step_unsent : (index : ℕ) (step : Step) (items : List Record) → sent_count items ≡ 0 → sent_count (StepRecord index step ∷ items) ≡ 0
unfolding sent_number
step_unsent index step items none = none

refusal_unsent : (index : ℕ) (refusal : Refusal) → sent_count (RefusedRecord index refusal ∷ []) ≡ 0
unfolding sent_number
refusal_unsent index refusal = refl

loss_unsent : (number : ℕ) → sent_count (Lost number ∷ []) ≡ 0
unfolding sent_number
loss_unsent number = refl

packet_unsent : (line : PacketLine) → sent_count (packet_record line ∷ []) ≡ 0
unfolding sent_number
packet_unsent line = refl

step_alone_plain : (index : ℕ) (step : Step) → ArePlain (StepRecord index step ∷ [])
unfolding sent_number arrived_number
step_alone_plain index step = ((refl, refl), tt)

pub refused_plain : (index : ℕ) (step : Step) (refusal : Refusal) → ArePlain (StepRecord index step ∷ RefusedRecord index refusal ∷ [])
unfolding sent_number arrived_number
refused_plain index step refusal = ((refl, refl), ((refl, refl), tt))

lost_plain : (index number : ℕ) (step : Step) → ArePlain (StepRecord index step ∷ Lost number ∷ [])
unfolding sent_number arrived_number
lost_plain index number step = ((refl, refl), ((refl, refl), tt))

made_plain : (index : ℕ) (step : Step) (line : PacketLine) → ArePlain (StepRecord index step ∷ packet_record line ∷ [])
unfolding sent_number arrived_number
made_plain index step line = ((refl, refl), ((refl, refl), tt))

pub refusal_comes : (log : List Record) (index : ℕ) (refusal : Refusal) → MayCome log (RefusedRecord index refusal)
unfolding sent_number taken_number made_packet ended_number
refusal_comes log index refusal = record { sends = tt; takes = tt; makes = tt; ends = tt }

step_sends_nothing : (index : ℕ) (step : Step) → sent_number (StepRecord index step) ≡ None
unfolding sent_number
step_sends_nothing index step = refl

made_of : (log : List Record) (line : PacketLine) → MayCome log (packet_record line) → MayBeMade log line
unfolding made_packet
made_of log line comes = comes.makes

-- one remark that isn't added
pub none_stands : (item : Record) (w v : WorldValue) → FallsShort (item ∷ []) w v → whole_log v ≡ whole_log w
none_stands item w v short =
    let few = short.few in
    let none : short.kept ≡ 0 = omega (arith, few) in
    short.log ∙ ap (λ k. whole_log w ++ take k (item ∷ [])) none ∙ append-nil (whole_log w)

module _ (laws : Laws) (s : ScenarioValue) (w : WorldValue) (c : CarrierValue) (of : CarriesRun s w c) (index : ℕ) (step : Step)
    (next : BeginsNext s w index step) (chooses : is_choice step ≡ true) where
  abbrev log : List Record
  log = whole_log w

  abbrev begun : List Record
  begun = log ++ StepRecord index step ∷ []

  abbrev pub begun_carrier : CarrierValue
  begun_carrier = record c { resending = resends step }

  kept : KeepsPackets log
  kept = packets_kept laws s of.script log of.goes_on.played

  kept_begun : KeepsPackets begun
  kept_begun = kept-one log (StepRecord index step) kept (next-step log index step)

  keeps_begun : Keeps s.settings log begun begun_carrier
  keeps_begun = keeps_step s.settings log log index step c kept of.keeps

  few : (items : List Record) → sent_count items ≡ 0 → sent_count (log ++ StepRecord index step ∷ items) ≤ s.frames
  few items none =
      let within = of.goes_on.played.within in
      let all = sent_count-append log (StepRecord index step ∷ items) in
      let unsent = step_unsent index step items none in
      omega (arith, within, all, unsent)

  -- memory was refused before the step
  pub mark_lacks : (stop : Stop) (v : WorldValue) (d : CarrierValue) → WorldAnswersAs (mark_outcome w index step) w (Err stop) v
      → AddsNext s w (Err stop) v d
  mark_lacks NoMemory v d answers =
      lacks_all s w v (whole_short (mark_outcome w index step) w v (Err NoMemory) answers refl)
      (record { beginning = answers.beginning; noted = (answers.memory refl).refused ∙ of.goes_on.noted })
  mark_lacks Spent v d answers = absurd (marked_not w index step of.goes_on.unstopped Spent v answers (λ same. cc))
  mark_lacks Ended v d answers = marked_not w index step of.goes_on.unstopped Ended v answers (λ same. cc)
  mark_lacks (Refused refusal) v d answers = marked_not w index step of.goes_on.unstopped (Refused refusal) v answers (λ same. cc)

  -- ---- it is refused

  pub refused_choice_adds : (refusal : Refusal) (v u : WorldValue) → first_refusal log step ≡ Some refusal
      → RecordsAreAdded w (StepRecord index step ∷ []) w.refused v → v.beginning ≡ w.beginning
      → RecordsAreAdded v (RefusedRecord index refusal ∷ []) None u → u.beginning ≡ v.beginning → HasAdded s w u begun_carrier
  refused_choice_adds refusal v u is marked begins noted stays =
      let items : List Record = StepRecord index step ∷ RefusedRecord index refusal ∷ [] in
      let whole = append_assoc log (StepRecord index step ∷ []) (RefusedRecord index refusal ∷ []) in
      has_added laws s w c of items u begun_carrier (refused_next s log index step next.none next.step_is next.index_is refusal is)
      (few (RefusedRecord index refusal ∷ []) (refusal_unsent index refusal))
      (noted.whole ∙ ap (λ l. l ++ RefusedRecord index refusal ∷ []) marked.whole ∙ whole)
      (record { beginning = stays ∙ begins; noted = noted.left; unstopped = noted.goes_on })
      (keeps_plain s.settings log (log ++ items) items begun_carrier kept
      (next-step log index step, (refusal_comes begun index refusal, tt)) (refused_plain index step refusal)
      (subst (λ l. Keeps s.settings log l begun_carrier) whole
      (keeps_refused s.settings log begun index refusal begun_carrier kept_begun keeps_begun)))

  -- ---- it is accepted

  module _ (accepted : first_refusal log step ≡ None) (v : WorldValue)
      (marked : RecordsAreAdded w (StepRecord index step ∷ []) w.refused v) (begins : v.beginning ≡ w.beginning) where
    -- nothing more is added
    pub alone_adds : choice_group s.settings log index step ≡ StepRecord index step ∷ [] → HasAdded s w v begun_carrier
    alone_adds alone =
        has_added laws s w c of (StepRecord index step ∷ []) v begun_carrier
        (choice_next s log index step next.none next.step_is next.index_is chooses accepted ∙ ap Some alone) (few [] refl) marked.whole
        (record { beginning = begins; noted = marked.left ∙ of.goes_on.noted; unstopped = marked.goes_on })
        (keeps_plain s.settings log begun (StepRecord index step ∷ []) begun_carrier kept (next-step log index step, tt)
        (step_alone_plain index step) keeps_begun)

    -- one remark is added, or none
    module _ (item : Record) (is : choice_group s.settings log index step ≡ StepRecord index step ∷ item ∷ []) (unsent : sent_count (item ∷ []) ≡ 0) where
      abbrev group : List Record
      group = StepRecord index step ∷ item ∷ []

      comes : carried_next_group s log ≡ Some group
      comes = choice_next s log index step next.none next.step_is next.index_is chooses accepted ∙ ap Some is

      within : sent_count (log ++ group) ≤ s.frames
      within = few (item ∷ []) unsent

      follow : EachFrom MayCome log group
      follow = group_comes laws s of.script log of.goes_on.played group comes within

      pub one_adds : (IsThen : Type 0) (given : Result (Unit {0}) Stop) (u : WorldValue) (d : CarrierValue) → ArePlain group
          → (MayCome begun item → IsThen → Keeps s.settings log (begun ++ item ∷ []) d)
          → RemarksAll (item ∷ []) IsThen v given u → AddsNext s w given u d
      one_adds IsThen (Ok done) u d plain so all =
          let whole = append_assoc log (StepRecord index step ∷ []) (item ∷ []) in
          has_added laws s w c of group u d comes within (all.0.log ∙ ap (λ l. l ++ item ∷ []) marked.whole ∙ whole)
          (record {
            beginning = all.0.beginning ∙ begins;
            noted = all.0.refused ∙ marked.left ∙ of.goes_on.noted;
            unstopped = all.0.stopped ∙ marked.goes_on;
          })
          (keeps_plain s.settings log (log ++ group) group d kept follow plain
          (subst (λ l. Keeps s.settings log l d) whole (so follow.1.0 all.1)))
      one_adds IsThen (Err NoMemory) u d plain so short =
          let sent = within in
          lacks_front s w u group 1 comes (omega arith) (λ over. absurd (omega (arith, over, sent)))
          (none_stands item v u short ∙ marked.whole)
          (record { beginning = short.beginning ∙ begins; noted = short.refused ∙ marked.left ∙ of.goes_on.noted })
      one_adds IsThen (Err Spent) u d plain so never = absurd never
      one_adds IsThen (Err Ended) u d plain so never = never
      one_adds IsThen (Err (Refused refusal)) u d plain so never = never

-- ---- a packet is lost, or made once more

module _ (laws : Laws) (s : ScenarioValue) (w : WorldValue) (c : CarrierValue) (of : CarriesRun s w c) (index place : ℕ) (v : WorldValue)
    (line : PacketLine) (at : slice_get (lines_under_way (whole_log w)) place ≡ Some line) where
  pub lose_adds : (next : BeginsNext s w index (Lose place)) (chooses : is_choice (Lose place) ≡ true)
      → first_refusal (whole_log w) (Lose place) ≡ None → RecordsAreAdded w (StepRecord index (Lose place) ∷ []) w.refused v
      → v.beginning ≡ w.beginning → (given : Result (Unit {0}) Stop) (u : WorldValue) (d : CarrierValue)
      → RemarksAll (Lost line.number ∷ []) (HasDropped line.number (begun_carrier laws s w c of index (Lose place) next chooses) d) v given u
      → AddsNext s w given u d
  lose_adds next chooses accepted marked begins given u d =
      let log = whole_log w in
      let begun = begun_carrier laws s w c of index (Lose place) next chooses in
      one_adds laws s w c of index (Lose place) next chooses accepted v marked begins (Lost line.number)
      (lose_chosen s.settings log index place line at) (loss_unsent line.number) (HasDropped line.number begun d) given u d
      (lost_plain index line.number (Lose place))
      (λ comes gone.
      keeps_lost s.settings log (log ++ StepRecord index (Lose place) ∷ []) line.number begun d
      (kept_begun laws s w c of index (Lose place) next chooses) comes gone (keeps_begun laws s w c of index (Lose place) next chooses))

  -- the packet that is made
  abbrev copy : PacketLine
  copy = copied_line (whole_log w) line

  pub repeat_adds : (next : BeginsNext s w index (Repeat place)) (chooses : is_choice (Repeat place) ≡ true)
      → first_refusal (whole_log w) (Repeat place) ≡ None → RecordsAreAdded w (StepRecord index (Repeat place) ∷ []) w.refused v
      → v.beginning ≡ w.beginning → (given : Result (Unit {0}) Stop) (u : WorldValue) (d : CarrierValue)
      → (let begun = begun_carrier laws s w c of index (Repeat place) next chooses in
      let packet = packet_along (frame_ways s.settings (whole_log w)) line in
      RemarksAll (put_record begun packet ∷ []) (HasPut packet begun d) v given u)
      → AddsNext s w given u d
  repeat_adds next chooses accepted marked begins given u d made =
      let log = whole_log w in
      let step = Repeat place in
      let begun = begun_carrier laws s w c of index step next chooses in
      let packet = packet_along (frame_ways s.settings log) line in
      let ways = ways-one s.settings log (StepRecord index step) (step_sends_nothing index step) in
      let record_is : put_record begun packet ≡ packet_record copy =
      ap (λ n. packet_record (record { number = n; frame = line.frame; ack = line.ack })) of.keeps.boxes.net.made in
      one_adds laws s w c of index step next chooses accepted v marked begins (packet_record copy)
      (repeat_chosen s.settings log index place line at) (packet_unsent copy) (HasPut packet begun d) given u d (made_plain index step copy)
      (λ comes put.
      keeps_put s.settings log (log ++ StepRecord index step ∷ []) copy begun d (kept_begun laws s w c of index step next chooses)
      (made_of (log ++ StepRecord index step ∷ []) copy comes)
      (subst (λ ws. HasPut (packet_along ws copy) begun d) (sym ways) put) (keeps_begun laws s w c of index step next chooses))
      (subst (λ item. RemarksAll (item ∷ []) (HasPut packet begun d) v given u) record_is made)
