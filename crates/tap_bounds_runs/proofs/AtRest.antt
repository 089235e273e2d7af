-- A lookup and a publication that are accepted at a rest of a run, and no other start after them, send few frames.
-- Cited above: lookups_at, publications_at
use Rattle.std.proofs.Common.{◌≡◌, ℕ, true, false, List, [], ◌∷◌, length, take, Option, Some, arith, refl, ap, sym, subst, ◌∙◌}
use Rattle.std.specs.Prelude.{◌&&◌, ◌||◌, not}
use Rattle.std.proofs.lemmas.Bool.{and_parts}
use Rattle.tap_scenario.specs.declared.step.Step.{Step}
use Rattle.tap_scenario.specs.declared.step.Step.TheVariants.{Find, Publish}
use Rattle.tap_wire.specs.declared.frame.Frame.{Frame}
use Rattle.tap_log.specs.Counts.{sent_count}
use Rattle.tap_log.specs.Kinds.{accepts, begins_group, is_carried, sent_number}
use Rattle.tap_log.specs.declared.record.Record.{Record}
use Rattle.tap_log.specs.declared.record.Record.TheVariants.{Asked, Published}
use Rattle.tap_history.specs.Moments.{awaiting, is_none, is_rest, is_still, under_way}
use Rattle.tap_history.specs.StepAsks.{actor_of}
use Rattle.tap_rule.specs.Event.{Start}
use Rattle.tap_rule.specs.Event.Start.{Find as StartFind, Publish as StartPublish}
use Rattle.tap_safety.specs.Move.Move.{Begins}
use Rattle.tap_runs.specs.Beginning.{Beginning}
use Rattle.tap_runs.specs.Course.{system_of}
use Rattle.tap_runs.specs.Group.{start_at}
use Rattle.tap_runs.specs.CourseLaws.{frame_numbers}
use Rattle.tap_runs.specs.Starts.{next_ticket, start_of_step}
use Rattle.tap_runs.proofs.Frames.{course_frames_holds}
use Rattle.tap_runs.proofs.Nodes.{name_at, start_in}
use Rattle.tap_safety_moves.specs.SoundMoves.{may_run}
use Rattle.tap_lawful.specs.Next.{beginning_in}
use Rattle.tap_safe_runs.specs.SafeLogs.{OfLawfulLogs}
use Rattle.tap_safe_runs.specs.Moments.{AtEachMoment}
use Rattle.tap_safe_runs.specs.Safe.{IsRun}
use Rattle.tap_safe_runs.proofs.Lawful.{lawful_logs_are_safe}
use Rattle.tap_safe_runs.proofs.Safe.{run_at_moment, runs_are_sound}
use Rattle.tap_pointer_runs.proofs.Runs.{run_grown}
use Rattle.tap_bounds.specs.FewSent.{traffic_of}
use Rattle.tap_bounds.specs.Traffic.{no_traffic}
use Rattle.tap_bounds.proofs.Lookups.{lookup_sends_few}
use Rattle.tap_bounds.proofs.Publications.{publication_sends_few}
use Rattle.tap_bounds_runs.specs.AtRest.{LookupsAtRestSendFew, PublicationsAtRestSendFew}
use Rattle.tap_bounds_runs.proofs.Since.{IsStartAlone, Since, run_since}

-- ---- a rest

no_frames : (frames : List (ℕ × Frame)) → is_none (frame_numbers frames) ≡ true → frames ≡ []
no_frames [] none = refl
no_frames (f ∷ frames) none = let wrong : false ≡ true = none in absurd (cc)

run_rests : (b : Beginning) (log : List Record) → IsRun b log → is_rest log ≡ true → (system_of log).frames ≡ []
run_rests b log run rest =
    let still = (and_parts (is_still log) (not (is_carried log) || (is_none (under_way log) && is_none (awaiting log))) rest).0 in
    let frames = course_frames_holds b log run.course run.going in
    no_frames (system_of log).frames (ap is_none frames.numbers ∙ still)

-- ---- the start, and what was sent since

module _ (b : Beginning) (log before after : List Record) (step : Step) (since : Since b before step after (system_of log))
    (alone : IsStartAlone before step since.moves) (name : List ℕ) (start : Start) (at : start_at before step ≡ Some (name, start)) where
  moves_are : since.moves ≡ Begins name start ∷ alone.later
  moves_are =
      let same : ◌≡◌ {A = Option (List ℕ × Start)} (Some (alone.name, alone.start)) (Some (name, start)) = sym alone.at ∙ at in
      let names : alone.name ≡ name = ap name_at same in
      let starts : alone.start ≡ start = ap (start_in start) same in
      alone.are ∙ ap (λ x. Begins x alone.start ∷ alone.later) names ∙ ap (λ w. Begins name w ∷ alone.later) starts

  may_so : may_run b.settings (system_of before) (Begins name start ∷ alone.later)
  may_so = subst (may_run b.settings (system_of before)) moves_are since.may

  sent_so : sent_count after
      ≡ length (traffic_of b.settings (system_of before) no_traffic (Begins name start ∷ alone.later)).sent
  sent_so = since.sent ∙ ap (λ moves. length (traffic_of b.settings (system_of before) no_traffic moves).sent) moves_are

module _ (b : Beginning) (log : List Record) (run : IsRun b log) where
  run_lookups : LookupsAtRestSendFew b.settings log
  unfolding accepts begins_group actor_of start_of_step sent_number
  run_lookups before after ticket object asker asked none =
      let step = Find object asker in
      let said = Asked ticket object asker in
      let since = run_since b log run before asked.index step (said ∷ after) asked.is in
      let alone = since.alone said after refl refl refl none in
      let start = StartFind (next_ticket before) object in
      let few = lookup_sends_few b.settings (system_of before) asker object (next_ticket before) alone.later
      (runs_are_sound b before since.run) (run_rests b before since.run asked.rest)
      (may_so b log before (said ∷ after) step since alone asker start refl) alone.delivers in
      let sent : sent_count after
      ≡ length (traffic_of b.settings (system_of before) no_traffic (Begins asker start ∷ alone.later)).sent =
      sent_so b log before (said ∷ after) step since alone asker start refl in
      omega (arith, few, sent)

  run_publications : PublicationsAtRestSendFew b.settings log
  unfolding accepts begins_group actor_of start_of_step sent_number
  run_publications before after object server published none =
      let step = Publish object server in
      let said = Published object server in
      let since = run_since b log run before published.index step (said ∷ after) published.is in
      let alone = since.alone said after refl refl refl none in
      let start = StartPublish object in
      let few = publication_sends_few b.settings (system_of before) server object alone.later (runs_are_sound b before since.run)
      (run_grown b before since.run).stand (run_rests b before since.run published.rest)
      (may_so b log before (said ∷ after) step since alone server start refl) alone.delivers in
      let sent : sent_count after
      ≡ length (traffic_of b.settings (system_of before) no_traffic (Begins server start ∷ alone.later)).sent =
      sent_so b log before (said ∷ after) step since alone server start refl in
      omega (arith, few, sent)

-- ---- each moment, and lawful logs

pub lookups_at : AtEachMoment LookupsAtRestSendFew
lookups_at b log m run is = run_lookups b (take m log) (run_at_moment b log m run is)

pub lawful_lookups : OfLawfulLogs LookupsAtRestSendFew
lawful_lookups s log valid played m is = lookups_at (beginning_in s) log m (lawful_logs_are_safe.runs s log valid played) is

pub publications_at : AtEachMoment PublicationsAtRestSendFew
publications_at b log m run is = run_publications b (take m log) (run_at_moment b log m run is)

pub lawful_publications : OfLawfulLogs PublicationsAtRestSendFew
lawful_publications s log valid played m is = publications_at (beginning_in s) log m (lawful_logs_are_safe.runs s log valid played) is
