-- A root set adds its group: the step, with the roots that it tells or with its refusal.
use Rattle.std.proofs.Common.{◌≡◌, ℕ, ◌+◌, ◌≤◌, true, List, [], ◌∷◌, ◌++◌, Option, None, Some, Result, Ok, Err, refl, ap, sym, subst, ◌∙◌, arith, append_assoc}
use Rattle.std.specs.Option.{option_map}
use Rattle.tap_name.specs.Settings.{SettingsValue}
use Rattle.tap_salt.specs.Salt.{is_salted}
use Rattle.tap_scenario.specs.Scenario.{ScenarioValue}
use Rattle.tap_scenario.specs.declared.step.Step.{Step}
use Rattle.tap_scenario.specs.declared.step.Step.TheVariants.{RootSet}
use Rattle.tap_log.specs.declared.record.Record.{Record}
use Rattle.tap_log.specs.declared.record.Record.TheVariants.{Refused as RefusedRecord, RootsOf, Step as StepRecord}
use Rattle.tap_log.specs.declared.record.Refusal.{Refusal}
use Rattle.tap_log.specs.Counts.{resends, sent_count}
use Rattle.tap_log.specs.Kinds.{arrived_number, ended_number, sent_number, taken_number}
use Rattle.tap_log.specs.Reduced.{reduced}
use Rattle.tap_log.proofs.MoreRecords.{sent_count-append}
use Rattle.tap_history.specs.Refusals.{first_refusal}
use Rattle.tap_packets.specs.MayCome.{KeepsPackets, MayCome}
use Rattle.tap_packets.specs.Packets.{made_packet}
use Rattle.tap_packets.proofs.OneRecord.{ArePlain, kept-one}
use Rattle.tap_packets.proofs.RecordsCome.{next-step}
use Rattle.tap_engine.specs.World.{WorldValue, whole_log}
use Rattle.tap_engine.specs.declared.stop.Stop.{Stop}
use Rattle.tap_engine.specs.declared.stop.Stop.TheVariants.{Ended, NoMemory, Refused, Spent}
use Rattle.tap_runs.specs.Course.{is_choice}
use Rattle.tap_lawful.specs.CarriedNext.{begun_group, carried_group_after, carried_next_group, choice_group, group_unless}
use Rattle.tap_lawful.specs.Next.{beginning_in, begun_count}
use Rattle.tap_lawful.specs.RootSets.{roots_record}
use Rattle.tap_lawful.proofs.CarriedTurns.{root_set_salted}
use Rattle.tap_safe_runs.specs.Safe.{IsRun}
use Rattle.tap_root_sets.specs.AskedRoots.{AnswersRootSet, HasAddedRoots, MayAsk}
use Rattle.tap_carrier.specs.Carrier.{CarrierValue}
use Rattle.tap_carrier.specs.Kept.{Keeps}
use Rattle.tap_carrier.proofs.KeptCarrier.{keeps_acted, keeps_plain, keeps_refused, keeps_step}
use Rattle.tap_carried_world.specs.Adds.{AddsNext, HasAdded}
use Rattle.tap_carried_world.specs.Comes.{BeginsNext}
use Rattle.tap_carried_world.specs.Value.{CarriesRun}
use Rattle.tap_carried_world.proofs.Adding.{StillGoes, has_added, lacks_all}
use Rattle.tap_carried_world.proofs.Chosen.{refusal_comes, refused_plain}
use Rattle.tap_carried_world.proofs.RunLogs.{Laws, agrees, next_of_scenario, packets_kept}

-- the step with this record after it is told by no packet and sends no frame
record IsTold (log : List Record) (index : ℕ) (step : Step) (item : Record) : Type 0 where
  pub comes : MayCome (log ++ StepRecord index step ∷ []) item
  pub plain : ArePlain (StepRecord index step ∷ item ∷ [])
  pub unsent : sent_count (StepRecord index step ∷ item ∷ []) ≡ 0

roots_told : (log : List Record) (index : ℕ) (step : Step) (object asker : List ℕ) (roots : List (List ℕ))
    → IsTold log index step (RootsOf object asker roots)
unfolding sent_number taken_number made_packet ended_number arrived_number
roots_told log index step object asker roots = record {
  comes = record { sends = tt; takes = tt; makes = tt; ends = tt };
  plain = ((refl, refl), ((refl, refl), tt));
  unsent = refl;
}

refusal_told : (log : List Record) (index : ℕ) (step : Step) (refusal : Refusal) → IsTold log index step (RefusedRecord index refusal)
unfolding sent_number
refusal_told log index step refusal = record {
  comes = refusal_comes (log ++ StepRecord index step ∷ []) index refusal;
  plain = refused_plain index step refusal;
  unsent = refl;
}

-- they leave a carrier as it is
roots_kept : (p : SettingsValue) (sent log : List Record) (object asker : List ℕ) (roots : List (List ℕ)) (c : CarrierValue) → KeepsPackets log
    → MayCome log (RootsOf object asker roots) → Keeps p sent log c → Keeps p sent (log ++ RootsOf object asker roots ∷ []) c
unfolding taken_number made_packet ended_number
roots_kept p sent log object asker roots c kept comes keeps =
    keeps_acted p sent log (RootsOf object asker roots ∷ []) c kept (comes, tt) refl refl refl refl keeps

module _ (laws : Laws) (s : ScenarioValue) (w : WorldValue) (c : CarrierValue) (of : CarriesRun s w c) (index : ℕ) (object asker : List ℕ)
    (next : BeginsNext s w index (RootSet object asker)) where
  abbrev log : List Record
  log = whole_log w

  abbrev asks : Step
  asks = RootSet object asker

  abbrev begun : List Record
  begun = log ++ StepRecord index asks ∷ []

  abbrev begun_carrier : CarrierValue
  begun_carrier = record c { resending = resends asks }

  abbrev group_by : Option Refusal → List Record
  group_by refusal = group_unless s.settings log index asks refusal

  comes : (refusal : Option Refusal) → first_refusal log asks ≡ refusal → carried_next_group s log ≡ Some (group_by refusal)
  comes refusal is =
      ap (carried_group_after s log) next.none ∙ ap (option_map (begun_group s.settings log (begun_count log + 1))) next.step_is
      ∙ ap (λ i. Some (begun_group s.settings log i asks)) (sym next.index_is)
      ∙ ap (λ r. Some (group_by r)) is

  kept : KeepsPackets log
  kept = packets_kept laws s of.script log of.goes_on.played

  kept_begun : KeepsPackets begun
  kept_begun = kept-one log (StepRecord index asks) kept (next-step log index asks)

  keeps_begun : Keeps s.settings log begun begun_carrier
  keeps_begun = keeps_step s.settings log log index asks c kept of.keeps

  few : (group : List Record) → sent_count group ≡ 0 → sent_count (log ++ group) ≤ s.frames
  few group none =
      let within = of.goes_on.played.within in
      let all = sent_count-append log group in
      omega (arith, within, all, none)

  -- one record stands after the step, and the world goes on
  added_with : (item : Record) (v : WorldValue) → IsTold log index asks item
      → carried_next_group s log ≡ Some (StepRecord index asks ∷ item ∷ []) → whole_log v ≡ log ++ StepRecord index asks ∷ item ∷ []
      → StillGoes w v → Keeps s.settings log (begun ++ item ∷ []) begun_carrier → HasAdded s w v begun_carrier
  added_with item v told is whole goes keeps =
      let group : List Record = StepRecord index asks ∷ item ∷ [] in
      has_added laws s w c of group v begun_carrier is (few group told.unsent) whole goes
      (keeps_plain s.settings log (log ++ group) group begun_carrier kept (next-step log index asks, (told.comes, tt)) told.plain
      (subst (λ l. Keeps s.settings log l begun_carrier) (append_assoc log (StepRecord index asks ∷ []) (item ∷ [])) keeps))

  still_goes : (v : WorldValue) → HasAddedRoots s.settings index object asker w v → StillGoes w v
  still_goes v added = record { beginning = added.left.beginning; noted = added.left.noted; unstopped = added.runs }

  -- by whether it is refused
  added_by : (refusal : Option Refusal) (v : WorldValue) → first_refusal log asks ≡ refusal
      → HasAddedRoots s.settings index object asker w v → HasAdded s w v begun_carrier
  unfolding is_choice choice_group
  added_by (Some refusal) v is added =
      added_with (RefusedRecord index refusal) v (refusal_told log index asks refusal) (comes (Some refusal) is)
      (added.whole ∙ ap (λ r. log ++ group_by r) is) (still_goes v added)
      (keeps_refused s.settings log begun index refusal begun_carrier kept_begun keeps_begun)
  added_by None v is added =
      let roots : Record = roots_record s.settings log object asker in
      let told : IsTold log index asks roots = roots_told log index asks object asker _ in
      added_with roots v told (comes None is)
      (added.whole ∙ ap (λ r. log ++ group_by r) is) (still_goes v added)
      (roots_kept s.settings log begun object asker _ begun_carrier kept_begun told.comes keeps_begun)

  -- by the answer
  pub root_set_adds : (given : Result (Unit {0}) Stop) (v : WorldValue) (d : CarrierValue) → d ≡ begun_carrier
      → AnswersRootSet s.settings index object asker w given v → AddsNext s w given v d
  root_set_adds (Ok tt) v d begins answers =
      subst (HasAdded s w v) (sym begins) (added_by (first_refusal log asks) v refl answers)
  root_set_adds (Err NoMemory) v d begins answers =
      lacks_all s w v answers.whole (record { beginning = answers.left.beginning; noted = answers.left.noted })
  root_set_adds (Err Spent) v d begins never = absurd never
  root_set_adds (Err Ended) v d begins never = never
  root_set_adds (Err (Refused refusal)) v d begins never = never

  -- names are as long as a digest
  pub is_salted_so : is_salted s.settings ≡ true
  is_salted_so =
      root_set_salted s.settings true object asker (next_of_scenario laws s of.script log of.goes_on.played asks next.step_is)

-- the world may be asked
pub may_ask : (laws : Laws) (s : ScenarioValue) (w : WorldValue) (c : CarrierValue) → CarriesRun s w c → reduced (whole_log w) ≡ w.log
    → MayAsk s.settings w
may_ask laws s w c of plain =
    let less = laws.reduce.reduces s (whole_log w) of.script of.goes_on.played in
    let run : IsRun (beginning_in s) (reduced (whole_log w)) = record { course = less.course; going = less.going; steps = less.steps } in
    record {
      run = subst (λ b. IsRun b w.log) (sym of.goes_on.beginning) (subst (IsRun (beginning_in s)) plain run);
      settings = ap (λ b. b.settings) of.goes_on.beginning;
      agrees = agrees laws s of.script (whole_log w) of.goes_on.played;
      runs = of.goes_on.unstopped;
    }
