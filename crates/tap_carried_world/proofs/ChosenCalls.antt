-- What a choice adds, by the answers of the calls.
use Rattle.std.proofs.Common.{◌≡◌, ◌≢◌, ℕ, ◌<◌, false, true, List, [], ◌∷◌, ◌++◌, length, None, Some, Result, Ok, Err, refl, ap, sym, subst, ◌∙◌, arith}
use Rattle.std.specs.Prelude.{IsTrue, if◌then◌else◌, slice_get}
use Rattle.tap_name.specs.Settings.{SettingsValue}
use Rattle.tap_scenario.specs.Scenario.{ScenarioValue}
use Rattle.tap_scenario.specs.Step.{asks_no_roots}
use Rattle.tap_scenario.specs.declared.step.Step.{Step}
use Rattle.tap_scenario.specs.declared.step.Step.TheVariants.{Lose, Repeat, RootSet}
use Rattle.tap_log.specs.declared.record.Record.{Record}
use Rattle.tap_log.specs.declared.record.Record.TheVariants.{Lost, Refused as RefusedRecord, Step as StepRecord}
use Rattle.tap_log.specs.declared.record.Refusal.{Refusal}
use Rattle.tap_log.specs.Counts.{resends}
use Rattle.tap_log.specs.Kinds.{is_carried}
use Rattle.tap_history.specs.Groups.{ends_log, is_ended}
use Rattle.tap_history.specs.Refusals.{first_refusal}
use Rattle.tap_carry.specs.declared.net.Numbered.{Numbered}
use Rattle.tap_carry.specs.Net.{most_packets}
use Rattle.tap_ledger.specs.Woven.{RemarksWithin}
use Rattle.tap_packets.specs.Matching.{packet_along}
use Rattle.tap_packets.specs.Sequence.{frame_ways}
use Rattle.tap_runs.specs.Course.{is_choice}
use Rattle.tap_engine.specs.Outcome.{MayGoOn, WorldAnswersAs, adds, mark_outcome, note_outcome, world_stays}
use Rattle.tap_engine.specs.World.{WorldValue, whole_log}
use Rattle.tap_engine.specs.declared.stop.Stop.{Stop}
use Rattle.tap_engine.specs.declared.stop.Stop.TheVariants.{Ended, NoMemory}
use Rattle.tap_engine.proofs.WholeLogs.{RecordsAreAdded, mark_added, note_added}
use Rattle.tap_lawful.specs.CarriedNext.{choice_group}
use Rattle.tap_carrier.specs.Carrier.{CarrierValue}
use Rattle.tap_carrier.specs.Sending.{HasDropped, HasPut, RemarksAll, put_record}
use Rattle.tap_carried_world.specs.Adds.{AddsNext, HasAdded}
use Rattle.tap_carried_world.specs.Comes.{BeginsNext}
use Rattle.tap_carried_world.specs.Value.{CarriesRun}
use Rattle.tap_carried_world.proofs.Choices.{lose_there, repeat_there}
use Rattle.tap_carried_world.proofs.Chosen.{alone_adds, lose_adds, marked_log, refused_choice_adds, repeat_adds, within_more}
use Rattle.tap_carried_world.proofs.PacketPlaces.{IsAtPlace, in_net, packet_there, place_in_net}
use Rattle.tap_carried_world.proofs.RunLogs.{Laws, few_packets, turns_kept}
use Rattle.tap_carried_world.proofs.Worlds.{goes_on_with}

step_going : (index : ℕ) (step : Step) → is_ended (StepRecord index step ∷ []) ≡ false
unfolding ends_log
step_going index step = refl

module _ (laws : Laws) (s : ScenarioValue) (w : WorldValue) (c : CarrierValue) (of : CarriesRun s w c) (index : ℕ) (step : Step)
    (next : BeginsNext s w index step) (chooses : is_choice step ≡ true) (v : WorldValue) (within : RemarksWithin w.log w.added)
    (answers : WorldAnswersAs (mark_outcome w index step) w (Ok tt) v) where
  marked : RecordsAreAdded w (StepRecord index step ∷ []) w.refused v
  marked = mark_added w v within index step answers

  begins : v.beginning ≡ w.beginning
  begins = answers.beginning

  pub log_is : v.log ≡ w.log ++ StepRecord index step ∷ []
  log_is = marked_log w index step of.goes_on.unstopped v answers

  pub carried_is : is_carried (whole_log w) ≡ true
  carried_is = (turns_kept laws s of.script (whole_log w) of.goes_on.played).carried

  pub choice_goes : MayGoOn v
  choice_goes = goes_on_with w v (StepRecord index step) [] log_is (step_going index step) (marked.left ∙ of.goes_on.noted)

  pub choice_runs : v.stopped ≡ false
  choice_runs = marked.goes_on

  -- its refusal is noted
  pub noted_choice : (refusal : Refusal) (u : WorldValue) (d : CarrierValue) → d ≡ record c { resending = resends step }
      → first_refusal (whole_log w) step ≡ Some refusal → (given : Result (Unit {0}) Stop)
      → WorldAnswersAs (note_outcome v index refusal) v given u → given ≢ Err NoMemory → AddsNext s w given u d
  noted_choice refusal u d begun is given noted enough =
      let ok : given ≡ Ok tt = noted.answer enough
      ∙ ap (λ b. (if b then world_stays v Ended else record (adds v (RefusedRecord index refusal ∷ [])) { refused = None }).answer) marked.goes_on in
      let added = note_added v u (within_more w v (StepRecord index step) log_is answers.added within) index refusal
      (subst (λ r. WorldAnswersAs (note_outcome v index refusal) v r u) ok noted) in
      subst (λ r. AddsNext s w r u d) (sym ok)
      (subst (HasAdded s w u) (sym begun)
      (refused_choice_adds laws s w c of index step next chooses refusal v u is marked begins added noted.beginning))

  -- nothing more is added
  pub plain_choice : (d : CarrierValue) → d ≡ record c { resending = resends step } → first_refusal (whole_log w) step ≡ None
      → choice_group s.settings (whole_log w) index step ≡ StepRecord index step ∷ [] → HasAdded s w v d
  plain_choice d begun accepted alone =
      subst (HasAdded s w v) (sym begun) (alone_adds laws s w c of index step next chooses accepted v marked begins alone)

-- the step loses or repeats a packet
module _ (laws : Laws) (s : ScenarioValue) (w : WorldValue) (c : CarrierValue) (of : CarriesRun s w c) (index place : ℕ) (v : WorldValue)
    (d : CarrierValue) where
  lost_line : (step : Step) → step ≡ Lose place → first_refusal (whole_log w) step ≡ None → IsAtPlace (whole_log w) place
  lost_line step is accepted =
      packet_there (whole_log w) place
      (lose_there (whole_log w) (turns_kept laws s of.script (whole_log w) of.goes_on.played).carried place
      (ap (first_refusal (whole_log w)) (sym is) ∙ accepted))

  repeated_line : (step : Step) → step ≡ Repeat place → first_refusal (whole_log w) step ≡ None → IsAtPlace (whole_log w) place
  repeated_line step is accepted =
      packet_there (whole_log w) place
      (repeat_there (whole_log w) (turns_kept laws s of.script (whole_log w) of.goes_on.played).carried place
      (ap (first_refusal (whole_log w)) (sym is) ∙ accepted))

  there_in : (step : Step) → d ≡ record c { resending = resends step } → IsAtPlace (whole_log w) place → place < length d.boxes.net.packets
  there_in step begun found =
      subst (λ (x : CarrierValue). place < length x.boxes.net.packets) (sym begun)
      (place_in_net s.settings (whole_log w) c.boxes.net of.keeps.boxes.net place found.line found.at)

  pub lose_place : (step : Step) → step ≡ Lose place → first_refusal (whole_log w) step ≡ None → d ≡ record c { resending = resends step }
      → place < length d.boxes.net.packets
  lose_place step is accepted begun = there_in step begun (lost_line step is accepted)

  pub repeat_place : (step : Step) → step ≡ Repeat place → first_refusal (whole_log w) step ≡ None → d ≡ record c { resending = resends step }
      → place < length d.boxes.net.packets
  repeat_place step is accepted begun = there_in step begun (repeated_line step is accepted)

  pub repeat_room : (step : Step) → d ≡ record c { resending = resends step } → d.boxes.net.made < most_packets
  repeat_room step begun =
      let made = ap (λ (x : CarrierValue). x.boxes.net.made) begun ∙ of.keeps.boxes.net.made in
      let few = few_packets laws s of.script (whole_log w) of.goes_on.played in
      omega (arith, made, few)

  module _ (within : RemarksWithin w.log w.added) (given : Result (Unit {0}) Stop) (u : WorldValue) (e : CarrierValue) where
    lose_so : BeginsNext s w index (Lose place) → is_choice (Lose place) ≡ true → first_refusal (whole_log w) (Lose place) ≡ None
        → WorldAnswersAs (mark_outcome w index (Lose place)) w (Ok tt) v → d ≡ record c { resending = resends (Lose place) }
        → ((there : Numbered) → slice_get d.boxes.net.packets place ≡ Some there
        → RemarksAll (Lost there.number ∷ []) (HasDropped there.number d e) v given u) → AddsNext s w given u e
    lose_so next chooses accepted answers begun made =
        let found = lost_line (Lose place) refl accepted in
        let net = in_net s.settings (whole_log w) c.boxes.net of.keeps.boxes.net place found.line found.at in
        let at = ap (λ (x : CarrierValue). slice_get x.boxes.net.packets place) begun ∙ net in
        lose_adds laws s w c of index place v found.line found.at next chooses accepted (mark_added w v within index (Lose place) answers)
        answers.beginning given u e
        (subst (λ x. RemarksAll (Lost found.line.number ∷ []) (HasDropped found.line.number x e) v given u) begun (made _ at))

    pub lose_call : (step : Step) → step ≡ Lose place → BeginsNext s w index step → is_choice step ≡ true
        → first_refusal (whole_log w) step ≡ None → WorldAnswersAs (mark_outcome w index step) w (Ok tt) v
        → d ≡ record c { resending = resends step }
        → ((there : Numbered) → slice_get d.boxes.net.packets place ≡ Some there
        → RemarksAll (Lost there.number ∷ []) (HasDropped there.number d e) v given u) → AddsNext s w given u e
    lose_call step is next chooses accepted answers begun made =
        lose_so (subst (BeginsNext s w index) is next) (subst (λ x. is_choice x ≡ true) is chooses)
        (subst (λ x. first_refusal (whole_log w) x ≡ None) is accepted)
        (subst (λ x. WorldAnswersAs (mark_outcome w index x) w (Ok tt) v) is answers)
        (subst (λ x. d ≡ record c { resending = resends x }) is begun) made

    repeat_so : BeginsNext s w index (Repeat place) → is_choice (Repeat place) ≡ true → first_refusal (whole_log w) (Repeat place) ≡ None
        → WorldAnswersAs (mark_outcome w index (Repeat place)) w (Ok tt) v → d ≡ record c { resending = resends (Repeat place) }
        → ((there : Numbered) → slice_get d.boxes.net.packets place ≡ Some there
        → RemarksAll (put_record d there.packet ∷ []) (HasPut there.packet d e) v given u) → AddsNext s w given u e
    repeat_so next chooses accepted answers begun made =
        let found = repeated_line (Repeat place) refl accepted in
        let net = in_net s.settings (whole_log w) c.boxes.net of.keeps.boxes.net place found.line found.at in
        let at = ap (λ (x : CarrierValue). slice_get x.boxes.net.packets place) begun ∙ net in
        let packet = packet_along (frame_ways s.settings (whole_log w)) found.line in
        repeat_adds laws s w c of index place v found.line found.at next chooses accepted (mark_added w v within index (Repeat place) answers)
        answers.beginning given u e
        (subst (λ x. RemarksAll (put_record x packet ∷ []) (HasPut packet x e) v given u) begun (made _ at))

    pub repeat_call : (step : Step) → step ≡ Repeat place → BeginsNext s w index step → is_choice step ≡ true
        → first_refusal (whole_log w) step ≡ None → WorldAnswersAs (mark_outcome w index step) w (Ok tt) v
        → d ≡ record c { resending = resends step }
        → ((there : Numbered) → slice_get d.boxes.net.packets place ≡ Some there
        → RemarksAll (put_record d there.packet ∷ []) (HasPut there.packet d e) v given u) → AddsNext s w given u e
    repeat_call step is next chooses accepted answers begun made =
        repeat_so (subst (BeginsNext s w index) is next) (subst (λ x. is_choice x ≡ true) is chooses)
        (subst (λ x. first_refusal (whole_log w) x ≡ None) is accepted)
        (subst (λ x. WorldAnswersAs (mark_outcome w index x) w (Ok tt) v) is answers)
        (subst (λ x. d ≡ record c { resending = resends x }) is begun) made

-- a choice that neither loses nor repeats a packet, and asks for no roots
pub alone_group : (p : SettingsValue) (log : List Record) (index : ℕ) (step : Step) → IsTrue (asks_no_roots step) → ((place : ℕ) → step ≢ Lose place)
    → ((place : ℕ) → step ≢ Repeat place) → choice_group p log index step ≡ StepRecord index step ∷ []
unfolding choice_group asks_no_roots
alone_group p log index (Lose place) played loses repeats = absurd (loses place refl)
alone_group p log index (Repeat place) played loses repeats = absurd (repeats place refl)
alone_group p log index (RootSet object asker) played loses repeats = absurd (cc)
alone_group p log index step played loses repeats = refl
