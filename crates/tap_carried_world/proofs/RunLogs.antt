-- What the laws of carried runs say of a log: it agrees with its reduced log, each record may come, and few packets were made.
use Rattle.std.proofs.Common.{◌≡◌, ℕ, ◌≤◌, Bool, true, false, not, cond, List, [], ◌∷◌, ◌++◌, All, None, Some, refl, ap, sym, subst, ◌∙◌, arith}
use Rattle.std.specs.Prelude.{if◌then◌else◌, nat_le}
use Rattle.std.specs.List.{cons_option, filter_map, range_with_len}
use Rattle.std.proofs.lemmas.Bool.{false≢true}
use Rattle.std.proofs.lemmas.List.Elements.{All-get_or}
use Rattle.std.proofs.lemmas.Option.{get_or_from_slice_get, slice_get_within}
use Rattle.tap_scenario.specs.Scenario.{ScenarioValue}
use Rattle.tap_scenario.specs.Step.{IsStep}
use Rattle.tap_scenario.specs.declared.step.Step.{Step}
use Rattle.tap_log.specs.declared.record.Record.{Record}
use Rattle.tap_log.specs.declared.record.Record.TheVariants.{Step as StepRecord}
use Rattle.tap_log.specs.Counts.{packet_count, sent_count}
use Rattle.tap_log.specs.Log.{EachFrom, EachRecord, begun_steps}
use Rattle.tap_log.specs.Reduced.{is_added, reduced}
use Rattle.tap_history.specs.Groups.{is_ended}
use Rattle.tap_packets.specs.MayCome.{KeepsPackets, MayCome}
use Rattle.tap_packets.proofs.GroupsCome.{groups_follow_hold}
use Rattle.tap_carried.specs.LogTurns.{IsLogOfTurns, beginning_records}
use Rattle.tap_carried.specs.ReducedLogs.{AgreesWithReduced}
use Rattle.tap_carried.proofs.BeginningKept.{log_kept}
use Rattle.tap_carried.proofs.ReducedLogs.{logs_agree}
use Rattle.tap_carried.proofs.ReducedRuns.{runs_reduce}
use Rattle.tap_carried.proofs.TurnsKept.{IsKept}
use Rattle.tap_lawful.specs.CarriedLaws.{CarriedGroupsMove, CarriedRunsReduce}
use Rattle.tap_lawful.specs.CarriedNext.{carried_next_group}
use Rattle.tap_lawful.specs.CarriedRuns.{IsCarriedPlayed, IsCarriedScript}
use Rattle.tap_lawful.specs.Next.{beginning_in, begun_count, next_step}
use Rattle.tap_lawful.specs.PlayedLaws.{index_of}
use Rattle.tap_carrier.specs.Sending.{HasHead}
use Rattle.tap_carried_world.proofs.Fronts.{each_more}

-- what the laws of carried runs say, as far as the calls rest on them
pub record Laws : Type 0 where
  pub reduce : CarriedRunsReduce
  pub moves : CarriedGroupsMove
  pub starts : (s : ScenarioValue) → IsCarriedPlayed s (beginning_records true (beginning_in s))
  pub more : (s : ScenarioValue) (log group : List Record) → IsCarriedScript s → IsCarriedPlayed s log
      → carried_next_group s log ≡ Some group → sent_count (log ++ group) ≤ s.frames → IsCarriedPlayed s (log ++ group)
  pub indices : (s : ScenarioValue) (log : List Record) → IsCarriedScript s → IsCarriedPlayed s log
      → filter_map index_of log ≡ range_with_len 1 (begun_count log)
  pub all : (s : ScenarioValue) (log : List Record) → IsCarriedScript s → IsCarriedPlayed s log → carried_next_group s log ≡ None
      → begun_steps log ≡ s.steps
  pub heads : (s : ScenarioValue) (log : List Record) → IsCarriedScript s → IsCarriedPlayed s log → All (HasHead s.settings) log

-- what a carrier adds begins no step
none_begins : (item : Record) → is_added item ≡ true → index_of item ≡ None
unfolding is_added index_of
none_begins (StepRecord index step) is = absurd (false≢true is)
none_begins item is = refl

left_out : (added : Bool) (item : Record) (rest : List Record) (numbers : List ℕ) → (added ≡ true → index_of item ≡ None)
    → filter_map index_of rest ≡ numbers
    → filter_map index_of (cond {A = List Record} (not added) (item ∷ rest) rest) ≡ cons_option (index_of item) numbers
left_out true item rest numbers none is = is ∙ ap (λ o. cons_option o numbers) (sym (none refl))
left_out false item rest numbers none is = ap (cons_option (index_of item)) is

indices_plain : (log : List Record) → filter_map index_of (reduced log) ≡ filter_map index_of log
indices_plain [] = refl
indices_plain (item ∷ items) =
    left_out (is_added item) item (reduced items) (filter_map index_of items) (none_begins item) (indices_plain items)

-- at most 500,000 frames may be sent
few_of : (short : Bool) → (if short then 500000 else 100000) ≤ 500000
few_of true = omega arith
few_of false = omega arith

pub few_frames : (s : ScenarioValue) → IsCarriedScript s → s.frames ≤ 500000
few_frames s script =
    let most = few_of (nat_le s.settings.digits 8) in
    let within = script.valid.frames_to in
    omega (arith, most, within)

module _ (laws : Laws) (s : ScenarioValue) (script : IsCarriedScript s) (log : List Record) (played : IsCarriedPlayed s log) where
  pub is_turns : IsLogOfTurns true log
  is_turns = runs_reduce.turns true (beginning_in s) log (laws.reduce.run s log script played)

  pub agrees : AgreesWithReduced log
  agrees = logs_agree.agree true log is_turns

  pub turns_kept : IsKept true log
  turns_kept = log_kept true log is_turns

  pub records_come : EachRecord MayCome log
  records_come = laws.moves.records s log script played

  pub packets_kept : KeepsPackets log
  packets_kept = groups_follow_hold.kept log records_come

  -- its reduced log hasn't ended either
  pub plain_goes_on : is_ended (reduced log) ≡ false
  plain_goes_on = (laws.reduce.reduces s log script played).going

  pub few_packets : packet_count log ≤ 1220000
  few_packets =
      let frames = few_frames s script in
      let steps = script.valid.steps_to in
      let made = laws.moves.packets s log script played in
      omega (arith, frames, steps, made)

  -- its steps are numbered from 1, and so are those of its reduced log
  pub plain_indices : filter_map index_of (reduced log) ≡ range_with_len 1 (begun_count log)
  plain_indices = indices_plain log ∙ laws.indices s log script played

  -- the step that begins next is one of the scenario
  pub next_of_scenario : (step : Step) → next_step s log ≡ Some step → IsStep s.settings true step
  next_of_scenario step next =
      let n = begun_count log in
      let all : All (IsStep s.settings true) s.steps = subst (λ c. All (IsStep s.settings c) s.steps) script.carried script.valid.steps in
      subst (IsStep s.settings true) (get_or_from_slice_get s.steps n step step next)
      (All-get_or (IsStep s.settings true) s.steps n step (slice_get_within s.steps n step next) all)

  module _ (group : List Record) (next : carried_next_group s log ≡ Some group) (within : sent_count (log ++ group) ≤ s.frames) where
    -- with the group that comes next it is that of a run again
    pub longer : IsCarriedPlayed s (log ++ group)
    longer = laws.more s log group script played next within

    -- each record of this may come
    pub group_comes : EachFrom MayCome log group
    group_comes =
        let move = laws.moves.next s log group script played next within in
        subst (EachFrom MayCome log) move.is (groups_follow_hold.moves log move.move packets_kept move.may.is)

    -- the head of each frame is read
    pub heads_longer : All (HasHead s.settings) (log ++ group)
    heads_longer = laws.heads s (log ++ group) script longer

  pub front_comes : (items : List Record) → EachFrom MayCome log items → EachRecord MayCome (log ++ items)
  front_comes items come = each_more MayCome [] log items records_come come
