-- At each moment of a run its nodes have the whole invariant, and each frame that was taken was received; and so it stays with the ending of
-- the log.
use Rattle.std.proofs.Common.{ℕ, List, [], ◌∷◌, ◌++◌, take, sym, subst}
use Rattle.tap_name.specs.Settings.{SettingsValue}
use Rattle.tap_scenario.specs.declared.step.Step.{Step}
use Rattle.tap_log.specs.declared.record.Record.{Record}
use Rattle.tap_log.specs.declared.record.Record.TheVariants.{Step as StepRecord, Taken}
use Rattle.tap_history.specs.Groups.{EachGroupFrom, beginning_of, groups_of}
use Rattle.tap_safety_moves.specs.Sound.{Sound}
use Rattle.tap_safe_runs.specs.Each.{IsRight}
use Rattle.tap_safe_runs.specs.Moments.{AtEachMoment}
use Rattle.tap_safe_runs.proofs.Each.{groups_are_right}
use Rattle.tap_safe_runs.proofs.Safe.{runs_are_sound, runs_grow}
use Rattle.tap_headline.specs.HasInvariant.{FramesAreReceivedIn, HasInvariant, IsTakenRight}
use Rattle.tap_headline.proofs.KeptByEnds.{IsKept, each_group}

-- ---- the invariant

pub invariant_at : AtEachMoment HasInvariant
invariant_at b log m run is = runs_are_sound b (take m log) (runs_grow.moments b log m run is)

pub invariant_stays : IsKept HasInvariant
invariant_stays b log ending ended moment sound = subst (Sound b.settings) (sym ended.same.system) sound

-- ---- frames that are taken

taken_right : (p : SettingsValue) (before group : List Record) → IsRight p before group → IsTakenRight p before group
unfolding IsRight IsTakenRight
taken_right p before (Taken number ∷ items) right = right
taken_right p before other right = tt

each_taken_right : (p : SettingsValue) (before : List Record) (groups : List (List Record)) → EachGroupFrom (IsRight p) before groups
    → EachGroupFrom (IsTakenRight p) before groups
each_taken_right p before [] right = tt
each_taken_right p before (group ∷ groups) right =
    (taken_right p before group right.0, each_taken_right p (before ++ group) groups right.1)

pub received_at : AtEachMoment FramesAreReceivedIn
received_at b log m run is =
    let right = groups_are_right b (take m log) (runs_grow.moments b log m run is) in
    each_taken_right b.settings (beginning_of (take m log)) (groups_of (take m log)) right

takes_none : (p : SettingsValue) (log : List Record) (index : ℕ) (step : Step) → IsTakenRight p log (StepRecord index step ∷ [])
unfolding IsTakenRight
takes_none p log index step = tt

pub received_stay : IsKept FramesAreReceivedIn
received_stay b log ending ended moment received =
    each_group b log ending ended (IsTakenRight b.settings) (IsTakenRight b.settings) (λ before group right. right)
    (takes_none b.settings log) received
