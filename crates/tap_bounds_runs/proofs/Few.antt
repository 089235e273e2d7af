-- What is said of the frames of joins holds at each moment of a run.
use Rattle.std.proofs.Common.{List, take, sym, subst}
use Rattle.tap_log.specs.declared.record.Record.{Record}
use Rattle.tap_safety.specs.AtRest.{AreMembers}
use Rattle.tap_safety.specs.System.{System}
use Rattle.tap_runs.specs.Beginning.{Beginning}
use Rattle.tap_runs.specs.Course.{system_of}
use Rattle.tap_runs.proofs.CourseGrows.{course_grows_holds}
use Rattle.tap_safety_moves.specs.SoundMoves.{after_moves}
use Rattle.tap_lawful.specs.Next.{beginning_in}
use Rattle.tap_safe_runs.specs.SafeLogs.{OfLawfulLogs}
use Rattle.tap_safe_runs.specs.Moments.{AtEachMoment}
use Rattle.tap_safe_runs.specs.Safe.{IsRun}
use Rattle.tap_safe_runs.proofs.Lawful.{lawful_logs_are_safe}
use Rattle.tap_safe_runs.proofs.Safe.{run_at_moment}
use Rattle.tap_bounds.specs.Acks.{AcksAreFew}
use Rattle.tap_bounds.specs.Dones.{DonesAreFew}
use Rattle.tap_bounds.specs.Few.{FewAreSent}
use Rattle.tap_bounds.specs.Hellos.{HellosAreFew}
use Rattle.tap_bounds.specs.FewSent.{traffic_of}
use Rattle.tap_bounds.specs.Taken.{AllAreKnown}
use Rattle.tap_bounds.specs.Tells.{TellsAreFew}
use Rattle.tap_bounds.specs.Traffic.{Traffic, no_traffic}
use Rattle.tap_bounds.proofs.AckMoves.{run_acks_few}
use Rattle.tap_bounds.proofs.Dones.{run_dones_few}
use Rattle.tap_bounds.proofs.HelloMoves.{run_hellos_few}
use Rattle.tap_bounds.proofs.FewSent.{run_sends_few}
use Rattle.tap_bounds.proofs.KnownTaken.{run_knows_all}
use Rattle.tap_bounds.proofs.TellMoves.{run_tells_few}
use Rattle.tap_bounds_runs.specs.Few.{FramesAreFew, FramesAreKnown}
use Rattle.tap_bounds_runs.specs.Traffic.{moves_of, traffic_in}
use Rattle.tap_bounds_runs.proofs.Agreeing.{run_agrees}
use Rattle.tap_bounds_runs.proofs.RunMoves.{rest, run_goes, traffic_is}

module _ (b : Beginning) (log : List Record) (run : IsRun b log) where
  members : AreMembers b.settings b.members
  members = course_grows_holds.members b run.course.limits

  -- what holds after the moves of the log, and of their traffic, holds of the log
  by_moves : (Holds : System → Traffic → Type 0)
      → Holds (after_moves b.settings (rest b) (moves_of log)) (traffic_of b.settings (rest b) no_traffic (moves_of log))
      → Holds (system_of log) (traffic_in log)
  by_moves Holds holds =
      subst (λ s. Holds s (traffic_in log)) (sym (run_goes b log run).system)
      (subst (Holds (after_moves b.settings (rest b) (moves_of log))) (sym (traffic_is b log run.course)) holds)

  pub run_few : FramesAreFew b.settings log
  run_few =
      let may = (run_goes b log run).may in
      record {
        few = by_moves (FewAreSent b.settings) (run_sends_few b.settings b.members (moves_of log) members may);
        tells = by_moves TellsAreFew (run_tells_few b.settings b.members (moves_of log) members may);
        acks = by_moves AcksAreFew (run_acks_few b.settings b.members (moves_of log) members may);
        hellos = by_moves HellosAreFew (run_hellos_few b.settings b.members (moves_of log) members may);
        dones = by_moves DonesAreFew (run_dones_few b.settings b.members (moves_of log) members may);
      }

  pub run_known : FramesAreKnown b.settings log
  run_known = record {
    agrees = run_agrees b log run;
    all = by_moves AllAreKnown (run_knows_all b.settings b.members (moves_of log) members (run_goes b log run).may);
  }

-- ---- each moment, and lawful logs

pub known_at : AtEachMoment FramesAreKnown
known_at b log m run is = run_known b (take m log) (run_at_moment b log m run is)

pub lawful_known : OfLawfulLogs FramesAreKnown
lawful_known s log valid played m is = known_at (beginning_in s) log m (lawful_logs_are_safe.runs s log valid played) is

pub few_at : AtEachMoment FramesAreFew
few_at b log m run is = run_few b (take m log) (run_at_moment b log m run is)

pub lawful_few : OfLawfulLogs FramesAreFew
lawful_few s log valid played m is = few_at (beginning_in s) log m (lawful_logs_are_safe.runs s log valid played) is
