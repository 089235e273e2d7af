-- A carried run begins, and ends once all steps were run.
use Rattle.std.proofs.Common.{◌≡◌, ◌≢◌, ℕ, Bool, false, true, List, [], ◌∷◌, ◌++◌, length, take, None, Result, Ok, Err, refl, ap, sym, subst, ◌∙◌}
use Rattle.std.specs.Prelude.{if◌then◌else◌}
use Rattle.tap_scenario.specs.Scenario.{IsScript, ScenarioValue}
use Rattle.tap_log.specs.declared.record.Record.{Record}
use Rattle.tap_log.specs.declared.record.Record.TheVariants.{Carrier as CarrierRecord, Finished}
use Rattle.tap_log.specs.Kinds.{is_carried}
use Rattle.tap_log.specs.Log.{begun_steps}
use Rattle.tap_log.specs.Reduced.{reduced}
use Rattle.tap_history.specs.Groups.{beginning_of}
use Rattle.tap_ledger.specs.Woven.{woven}
use Rattle.tap_ledger.proofs.Woven.{woven_nothing}
use Rattle.tap_runs.specs.Beginning.{Beginning, begin_record}
use Rattle.tap_carried.specs.LogTurns.{beginning_records}
use Rattle.tap_engine.specs.Kinds.{finishes_run, is_finished}
use Rattle.tap_engine.specs.Outcome.{MayGoOn, WorldAnswersAs, adds, finish_outcome, world_stays}
use Rattle.tap_engine.specs.World.{HasBegun, WorldValue, whole_log}
use Rattle.tap_engine.specs.declared.stop.Stop.{Stop}
use Rattle.tap_engine.specs.declared.stop.Stop.TheVariants.{Ended, NoMemory}
use Rattle.tap_engine.proofs.WholeLogs.{RecordsAreAdded}
use Rattle.tap_lawful.specs.CarriedNext.{carried_next_group}
use Rattle.tap_lawful.specs.CarriedRuns.{IsCarriedFinished, IsCarriedPlayed}
use Rattle.tap_lawful.specs.Next.{beginning_in, begun_count}
use Rattle.tap_carrier.specs.Carrier.{CarrierValue}
use Rattle.tap_carrier.specs.Kept.{KeepsLog}
use Rattle.tap_carrier.specs.Sending.{HasRemarked}
use Rattle.tap_carried_world.specs.Value.{CarriesRun}
use Rattle.tap_carried_world.proofs.RunLogs.{Laws, agrees}

-- ---- the beginning

-- a log that begins as a carried one does is carried
pub carried_by : (log : List Record) (first second : Record) → beginning_of log ≡ first ∷ second ∷ [] → is_carried log ≡ true
carried_by log first second is = by (is_carried log) refl is
  where
    one_alone : (items : List Record) → take 1 items ≡ first ∷ second ∷ [] → ⊥
    one_alone [] same = cc
    one_alone (item ∷ items) same = cc

    by : (carried : Bool) → is_carried log ≡ carried → take (if carried then 2 else 1) log ≡ first ∷ second ∷ [] → is_carried log ≡ true
    by true so same = so
    by false so same = absurd (one_alone log same)

begin_goes_on : (b : Beginning) → is_finished (begin_record b ∷ []) ≡ false
unfolding finishes_run
begin_goes_on b = refl

module _ (b : Beginning) (w : WorldValue) (begun : HasBegun b w) where
  -- the world may go on
  pub begun_may : MayGoOn w
  begun_may = record { noted = begun.refused; unfinished = ap is_finished begun.log ∙ begin_goes_on b }

  whole_begun : whole_log w ≡ begin_record b ∷ []
  whole_begun = ap (woven w.log) begun.added ∙ woven_nothing w.log ∙ begun.log

  module _ (laws : Laws) (s : ScenarioValue) (valid : IsScript s) (carried : s.carrier ≡ true) (settings : b.settings ≡ s.settings)
      (frames : b.frames ≡ s.frames) (members : b.members ≡ s.members) (v : WorldValue) (remarked : HasRemarked (CarrierRecord ∷ []) w v) where
    same : b ≡ beginning_in s
    same =
        ap (λ p. record { settings = p; frames = b.frames; members = b.members }) settings
        ∙ ap (λ n. record { settings = s.settings; frames = n; members = b.members }) frames
        ∙ ap (λ names. record { settings = s.settings; frames = s.frames; members = names }) members

    pub begun_log : whole_log v ≡ beginning_records true (beginning_in s)
    begun_log = remarked.log ∙ ap (λ l. l ++ CarrierRecord ∷ []) whole_begun ∙ ap (λ x. begin_record x ∷ CarrierRecord ∷ []) same

    pub begins_run : (c : CarrierValue) → KeepsLog b.settings (whole_log v) c → CarriesRun s v c
    begins_run c keeps = record {
      script = record { valid = valid; carried = carried };
      goes_on = record {
        played = subst (IsCarriedPlayed s) (sym begun_log) (laws.starts s);
        beginning = remarked.beginning ∙ begun.beginning ∙ same;
        noted = remarked.refused ∙ begun.refused;
        unstopped = remarked.stopped ∙ begun.goes_on;
      };
      keeps = subst (λ p. KeepsLog p (whole_log v) c) settings keeps;
    }

-- ---- all steps were run

module _ (laws : Laws) (s : ScenarioValue) (w : WorldValue) (c : CarrierValue) (of : CarriesRun s w c) (steps : ℕ)
    (count : steps ≡ begun_count (whole_log w)) where
  pub all_begun : reduced (whole_log w) ≡ w.log → steps ≡ length (begun_steps w.log)
  all_begun plain =
      count ∙ ap length (sym (agrees laws s of.script (whole_log w) of.goes_on.played).steps) ∙ ap (λ l. length (begun_steps l)) plain

  pub finish_answers : (given : Result (Unit {0}) Stop) (v : WorldValue) → WorldAnswersAs (finish_outcome w steps) w given v
      → given ≢ Err NoMemory → given ≡ Ok tt
  finish_answers given v answers enough =
      answers.answer enough
      ∙ ap (λ b. (if b then world_stays w Ended else adds w (Finished steps ∷ [])).answer) of.goes_on.unstopped

  pub finished_log : carried_next_group s (whole_log w) ≡ None → (v : WorldValue) → RecordsAreAdded w (Finished steps ∷ []) w.refused v
      → IsCarriedFinished s (whole_log w) (whole_log v)
  finished_log none v added = record {
    none = none;
    log_is = added.whole
        ∙ ap (λ n. whole_log w ++ Finished n ∷ []) (count ∙ ap length (laws.all s (whole_log w) of.script of.goes_on.played none));
  }
