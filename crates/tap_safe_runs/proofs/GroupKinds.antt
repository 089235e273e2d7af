-- The groups that may follow a log: of a step that moves nothing, of a start, and of a frame that is taken.
-- Cited above: group_kind, IsIdleGroup, IsKnownGroup, IsStartGroup, IsTakenGroup, run_kind, run_moves
use Rattle.std.proofs.Common.{◌≡◌, ◌⊎◌, inl, inr, ℕ, List, ◌∷◌, ◌++◌, All, Option, None, Some, refl, ap, ◌∙◌}
use Rattle.tap_name.specs.Settings.{SettingsValue}
use Rattle.tap_scenario.specs.declared.step.Step.{Step}
use Rattle.tap_log.specs.Kinds.{asked_ticket}
use Rattle.tap_log.specs.declared.record.Record.{Record}
use Rattle.tap_log.specs.declared.record.Record.TheVariants.{Step as StepRecord, Taken}
use Rattle.tap_safety.specs.Move.{MayArrive, Move, may_move, may_start}
use Rattle.tap_safety.specs.Move.Move.{Begins, Delivers}
use Rattle.tap_safety.specs.Moved.{numbered_frame}
use Rattle.tap_safety.specs.System.{System}
use Rattle.tap_runs.specs.Beginning.{Beginning}
use Rattle.tap_runs.specs.Course.{Follows, MayFollow, move_of_group, moved_by, system_of}
use Rattle.tap_runs.specs.Group.{received_records}
use Rattle.tap_runs.specs.Named.{HaveNames}
use Rattle.tap_runs.proofs.Frames.{starting_moves, step_moves, taken_moves}
use Rattle.tap_runs.proofs.CourseGrows.{grown_system}
use Rattle.tap_runs.proofs.Nodes.{HasNoStep, no_steps}
use Rattle.tap_runs.proofs.Within.{IsIdle, IsStarting, step_kind, step_within, taken_within}
use Rattle.tap_safe_runs.specs.Safe.{IsRun}
use Rattle.tap_safe_runs.proofs.Possible.{group_may_move}
use Rattle.tap_safe_runs.proofs.Safe.{runs_are_sound}

module _ (p : SettingsValue) (log : List Record) (s : System) (group : List Record) where
  -- a step that moves nothing, and asks for no lookup
  pub record IsIdleGroup : Type 0 where
    pub index : ℕ
    pub step : Step
    pub items : List Record
    pub is : group ≡ StepRecord index step ∷ items
    pub steps : All HasNoStep items
    pub idle : IsIdle log step items
    pub asks : All (λ item. asked_ticket item ≡ None) items
    pub still : move_of_group log group ≡ None

  -- a start
  pub record IsStartGroup : Type 0 where
    pub index : ℕ
    pub step : Step
    pub items : List Record
    pub is : group ≡ StepRecord index step ∷ items
    pub steps : All HasNoStep items
    pub starting : IsStarting p log s step items
    pub may : may_start p s starting.name starting.start
    pub moves : move_of_group log group ≡ Some (Begins starting.name starting.start)

  -- a frame that is taken
  pub record IsTakenGroup : Type 0 where
    pub number : ℕ
    pub items : List Record
    pub is : group ≡ Taken number ∷ items
    pub steps : All HasNoStep items
    pub are : items ≡ received_records p log s (numbered_frame number s.frames)
    pub may : MayArrive s number
    pub moves : move_of_group log group ≡ Some (Delivers number)

  abbrev pub IsKnownGroup : Type 0
  IsKnownGroup = IsIdleGroup ⊎ (IsStartGroup ⊎ IsTakenGroup)

pub group_kind : (p : SettingsValue) (log : List Record) (s : System) (group : List Record) → MayFollow p log s group
    → ((move : Move) → move_of_group log group ≡ Some move → may_move p s move) → IsKnownGroup p log s group
unfolding MayFollow
group_kind p log s (StepRecord index step ∷ items) may possible =
    let steps = no_steps items (step_within p log s index step items may) in
    elim (step_kind p log s index step items may) [
      | inl idle ↦
          inl (record {
            index = index;
            step = step;
            items = items;
            is = refl;
            steps = steps;
            idle = idle;
            asks = λ k d within. (idle.quiet k d within).asked;
            still = step_moves log index step items ∙ idle.still;
          })
      | inr starting ↦
          let moves = starting_moves p log s index step items starting in
          inr (inl (record {
            index = index;
            step = step;
            items = items;
            is = refl;
            steps = steps;
            starting = starting;
            may = possible (Begins starting.name starting.start) moves;
            moves = moves;
          }))
    ]
group_kind p log s (Taken number ∷ items) may possible =
    let moves = taken_moves log number items in
    inr (inr (record {
      number = number;
      items = items;
      is = refl;
      steps = no_steps items (taken_within p log s number items may);
      are = may.are;
      may = possible (Delivers number) moves;
      moves = moves;
    }))
group_kind p log s group may possible = absurd may

-- ---- one more group of a run

-- of which kind it is, and what it makes of the system
module _ (b : Beginning) (log group : List Record) (run : IsRun b log) (follows : Follows b log group) where
  pub run_kind : HaveNames b.settings group → IsKnownGroup b.settings log (system_of log) group
  run_kind names =
      group_kind b.settings log (system_of log) group follows.may (λ move is.
      group_may_move b log group move run.course run.going (runs_are_sound b log run).invariant.basis follows names is)

  pub run_moves : (move : Option Move) → move_of_group log group ≡ move → system_of (log ++ group) ≡ moved_by b.settings (system_of log) move
  run_moves move is = grown_system b log group run.course run.going follows ∙ ap (moved_by b.settings (system_of log)) is
