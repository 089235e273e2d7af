-- The headline of the log of a world, by that of the run which it is up to its last moment.
-- Cited above: kept_headline, kept_holders
use Rattle.std.proofs.Common.{Bool, List, [], ◌∷◌, length, Option, sym, subst}
use Rattle.tap_log.specs.declared.record.Record.{Record}
use Rattle.tap_log.specs.declared.record.Record.TheVariants.{Finished, Spent, Step as StepRecord}
use Rattle.tap_log.specs.declared.record.Refusal.{Refusal}
use Rattle.tap_log.specs.Log.{begun_steps}
use Rattle.tap_runs.specs.Named.{HaveNames}
use Rattle.tap_safe_runs.specs.Safe.{IsRun}
use Rattle.tap_safe_runs.proofs.Safe.{steps_before}
use Rattle.tap_headline.specs.Headline.{HasHeadline}
use Rattle.tap_headline.proofs.Ended.{may_cut, may_finish, may_refuse, may_spend}
use Rattle.tap_headline.proofs.Headline.{ended_logs_have_headline}
use Rattle.tap_engine.specs.WorldHeadline.{WorldHasHeadline}
use Rattle.tap_engine.specs.Holders.{HoldersAreExactAtRest}
use Rattle.tap_engine.specs.KeptEngine.{AreKept, world_value}
use Rattle.tap_engine.specs.World.{WorldValue}
use Rattle.tap_engine.specs.WorldLog.{IsWorldLog}
use Rattle.tap_engine.specs.declared.engine.Engine.{Engine}
use Rattle.tap_engine.proofs.Endings.{asks_no_more, by_ending}

module _ (w : WorldValue) (is : IsWorldLog w) (named : HaveNames w.beginning.settings w.log) where
  run : IsRun w.beginning is.course
  run =
      let m = asks_no_more w is in
      record {
        course = is.is_course;
        going = is.open_end;
        steps = steps_before w.beginning.settings is.course m.more (subst (HaveNames w.beginning.settings) m.is named);
      }

  pub headline_of_world : WorldHasHeadline w
  headline_of_world =
      let b = w.beginning in
      let course = is.course in
      let law = ended_logs_have_headline in
      let of : List Record → Type 0 = HasHeadline b.settings in
      let steps = length (begun_steps course) in
      by_ending b course w.log (of w.log)
      (λ same. subst of (sym same) (law.going b course run))
      (λ end. subst of (sym end) (law.ended b course (Finished steps ∷ []) run (may_finish course steps)))
      (λ refusal pending. subst of (sym pending.log_is)
      (law.ended b course (StepRecord pending.index pending.step ∷ []) run
      (may_refuse course pending.index pending.step refusal pending.refused)))
      (λ taken. subst of (sym taken.log_is) (law.ended b course (Spent b.frames ∷ []) run (may_spend course b.frames)))
      (λ started. subst of (sym started.log_is)
      (law.ended b course (StepRecord started.index started.step ∷ Spent b.frames ∷ []) run
      (may_cut course started.index started.step b.frames)))
      w.stopped w.refused is.gone_to

-- at rest it says who holds a link
pub exact_holders : (w : WorldValue) → WorldHasHeadline w → HoldersAreExactAtRest w.log
exact_holders w headline = λ m moment rest holder target core_holder core. (headline.safe.rest m moment rest).left.holders holder target core

-- so the log of an engine has it
pub kept_headline : (engine : Engine) (refused : Option Refusal) (stopped : Bool) → AreKept engine refused stopped
    → WorldHasHeadline (world_value engine refused stopped)
kept_headline engine refused stopped kept = headline_of_world (world_value engine refused stopped) kept.log kept.named

-- and it says who holds a link at each rest
pub kept_holders : (engine : Engine) (refused : Option Refusal) (stopped : Bool) → AreKept engine refused stopped
    → HoldersAreExactAtRest engine.ledger.records
kept_holders engine refused stopped kept =
    exact_holders (world_value engine refused stopped) (kept_headline engine refused stopped kept)
