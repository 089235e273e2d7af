-- The records of a group of a run can be printed, and beside those of frames there are at most four.
use Rattle.std.proofs.Common.{◌≡◌, inl, inr, ℕ, ◌+◌, ◌<◌, Bool, true, false, List, [], ◌∷◌, ◌++◌, All, Option, None, Some, refl, ap, subst, ◌∙◌, arith}
use Rattle.std.proofs.lemmas.List.Elements.{All-cons, All-nil}
use Rattle.tap_name.specs.Root.{root}
use Rattle.tap_name.specs.Settings.{AreWithinLimits, SettingsValue}
use Rattle.tap_surrogate.specs.Nodes.{core_links}
use Rattle.tap_wire.specs.declared.frame.Frame.{Frame}
use Rattle.tap_wire.specs.Spelling.{IsFrame}
use Rattle.tap_scenario.specs.declared.step.Step.{Step}
use Rattle.tap_scenario.specs.declared.step.Step.TheVariants.{Walk, Root, Table, Pointers, Garble, Cut}
use Rattle.tap_log.specs.declared.record.Record.{Record}
use Rattle.tap_log.specs.declared.record.Record.TheVariants.{Step as StepRecord, Taken}
use Rattle.tap_log.specs.declared.record.Refusal.{Refusal}
use Rattle.tap_history.specs.Core.{core_of}
use Rattle.tap_history.specs.Refusals.{first_refusal}
use Rattle.tap_rule.specs.Node.{NodeState, settings_of}
use Rattle.tap_rule.specs.Event.{Start}
use Rattle.tap_rule.specs.Event.Event.{Starts, Takes}
use Rattle.tap_rule.specs.Act.{act}
use Rattle.tap_safety.specs.Move.Move.{Begins, Delivers}
use Rattle.tap_safety.specs.Moved.{delivered, moved, numbered_frame, received, starter, with_begun, without_number}
use Rattle.tap_safety.specs.Spelled.{AreSpelled}
use Rattle.tap_safety.specs.Exchanges.{numbered_from}
use Rattle.tap_safety.specs.System.{AmongFrames, System}
use Rattle.tap_runs.specs.Beginning.{Beginning}
use Rattle.tap_runs.specs.Course.{FollowStep, FollowTaken, Follows, MayFollow, is_choice, move_of_group, move_of_start, moved_by, system_of}
use Rattle.tap_runs.specs.Group.{accepted_records, received_records, records_of_act, records_unless, start_at, started_records}
use Rattle.tap_runs.specs.Observed.{nodes_of, observed}
use Rattle.tap_runs.specs.Starts.{announced}
use Rattle.tap_runs.proofs.Frames.{step_moves, taken_moves}
use Rattle.tap_runs.proofs.CourseGrows.{grown_system}
use Rattle.tap_runs.specs.Named.{HaveNames}
use Rattle.tap_safe_runs.specs.Safe.{IsRun}
use Rattle.tap_safe_runs.proofs.Safe.{run_more, runs_are_sound}
use Rattle.tap_headline.proofs.PrintedRecords.{AreTold, act_told, announced_told, both_told, damage_told, more_told, none_told, one_told, pointers_told, root_told, same_told, table_told, walked_told}

-- ---- the frames that a move sends have spellings

numbered_spelled : (p : SettingsValue) (next : ℕ) (sent : List Frame)
    → ((number : ℕ) (f : Frame) → AmongFrames number f (numbered_from next sent) → IsFrame p f) → All (IsFrame p) sent
numbered_spelled p next [] spelled = All-nil (IsFrame p)
numbered_spelled p next (frame ∷ sent) spelled =
    All-cons (IsFrame p) frame sent (spelled next frame (inl (refl, refl)))
    (numbered_spelled p (next + 1) sent (λ number f among. spelled number f (inr among)))

later_spelled : (p : SettingsValue) (frames : List (ℕ × Frame)) (next : ℕ) (sent : List Frame)
    → ((number : ℕ) (f : Frame) → AmongFrames number f (frames ++ numbered_from next sent) → IsFrame p f) → All (IsFrame p) sent
later_spelled p [] next sent spelled = numbered_spelled p next sent spelled
later_spelled p (f ∷ frames) next sent spelled = later_spelled p frames next sent (λ number g among. spelled number g (inr among))

module _ (p : SettingsValue) (s : System) where
  start_spelled : (name : List ℕ) (start : Start) (node : NodeState) → starter p s name start ≡ Some node
      → AreSpelled p (moved p s (Begins name start)) → All (IsFrame p) (act node (Starts start)).sent
  unfolding moved
  start_spelled name start node is spelled =
      let so : AreSpelled p (with_begun s name start (Some node)) = subst (λ n. AreSpelled p (with_begun s name start n)) is spelled in
      later_spelled p s.frames s.next (act node (Starts start)).sent so.each

  taken_spelled : (number : ℕ) (frame : Frame) (node : NodeState) → numbered_frame number s.frames ≡ Some frame → s.node frame.to ≡ Some node
      → AreSpelled p (moved p s (Delivers number)) → All (IsFrame p) (act node (Takes frame)).sent
  unfolding moved
  taken_spelled number frame node is there spelled =
      let first : AreSpelled p (received s number frame (s.node frame.to)) = subst (λ f. AreSpelled p (delivered s number f)) is spelled in
      let so : AreSpelled p (received s number frame (Some node)) = subst (λ n. AreSpelled p (received s number frame n)) there first in
      later_spelled p (without_number s number).frames s.next (act node (Takes frame)).sent so.each

-- ---- what follows a step

module _ (p : SettingsValue) (before : List Record) (s : System) (limits : AreWithinLimits p)
    (own : (name : List ℕ) (node : NodeState) → s.node name ≡ Some node → settings_of node ≡ p) where
  -- what is sent by the node that a step has start something has spellings
  abbrev SendsSpelled : Step → Type 0
  SendsSpelled step = (name : List ℕ) (start : Start) (node : NodeState) → start_at before step ≡ Some (name, start)
      → starter p s name start ≡ Some node → All (IsFrame p) (act node (Starts start)).sent

  started_told : (step : Step) (start : Option (List ℕ × Start)) → start_at before step ≡ start → SendsSpelled step
      → AreTold p 3 (started_records p before s step start)
  started_told step None at sends = more_told p 0 3 [] (omega arith) (none_told p)
  started_told step (Some (name, start)) at sends =
      both_told p 1 2 (announced before step) (records_of_act p before name (starter p s name start) (Starts start))
      (announced_told p limits before step)
      (act_told p limits before name (starter p s name start) (Starts start) (λ node is. sends name start node at is))

  some_digits : 0 < p.base
  some_digits = let from = limits.base_from in omega (arith, from)

  accepted_told : (step : Step) → SendsSpelled step → AreTold p 3 (accepted_records p before s step)
  unfolding accepted_records observed
  accepted_told (Walk object asker) sends = more_told p 1 3 _ (omega arith) (walked_told p object asker (core_links (nodes_of s)))
  accepted_told (Root object) sends = more_told p 1 3 _ (omega arith) (root_told p object (root p.base (core_of before) object))
  accepted_told (Table name) sends = more_told p 1 3 _ (omega arith) (table_told p name (s.node name) some_digits (own name))
  accepted_told (Pointers name) sends = more_told p 1 3 _ (omega arith) (pointers_told p name (s.node name))
  accepted_told (Garble place at byte) sends = more_told p 1 3 _ (omega arith) (damage_told p before (Garble place at byte))
  accepted_told (Cut place bytes) sends = more_told p 1 3 _ (omega arith) (damage_told p before (Cut place bytes))
  accepted_told step sends = started_told step (start_at before step) refl sends

  unless_told : (index : ℕ) (step : Step) (refusal : Option Refusal) → first_refusal before step ≡ refusal
      → (first_refusal before step ≡ None → SendsSpelled step) → AreTold p 3 (records_unless p before s index step refusal)
  unless_told index step (Some refusal) is sends = more_told p 1 3 _ (omega arith) (one_told p _ (tt, λ h. cc))
  unless_told index step None is sends = accepted_told step (sends is)

  follow_told : (choice : Bool) (index : ℕ) (step : Step) (items : List Record) → FollowStep choice p before s index step items
      → (first_refusal before step ≡ None → SendsSpelled step) → AreTold p 3 items
  follow_told true index step items (inl none) sends = same_told p 3 [] items none (more_told p 0 3 [] (omega arith) (none_told p))
  follow_told true index step items (inr refused) sends =
      same_told p 3 _ items refused.is (more_told p 1 3 _ (omega arith) (one_told p _ (tt, λ h. cc)))
  follow_told false index step items are sends = same_told p 3 _ items are (unless_told index step (first_refusal before step) refl sends)

  received_told : (number : ℕ) (frame : Option Frame) → numbered_frame number s.frames ≡ frame → AreSpelled p (moved p s (Delivers number))
      → AreTold p 2 (received_records p before s frame)
  received_told number None is spelled = more_told p 0 2 [] (omega arith) (none_told p)
  received_told number (Some frame) is spelled =
      act_told p limits before frame.to (s.node frame.to) (Takes frame) (λ node there. taken_spelled p s number frame node is there spelled)

-- ---- a group of a run

module _ (b : Beginning) (before : List Record) (run : IsRun b before) where
  -- the frames under way after a group have spellings
  after_spelled : (group : List Record) → HaveNames b.settings group → Follows b before group
      → AreSpelled b.settings (moved_by b.settings (system_of before) (move_of_group before group))
  after_spelled group steps follows =
      let sound = runs_are_sound b (before ++ group) (run_more b before group run follows steps) in
      subst (AreSpelled b.settings) (grown_system b before group run.course run.going follows) sound.invariant.basis.spelled

  own : (name : List ℕ) (node : NodeState) → (system_of before).node name ≡ Some node → settings_of node ≡ b.settings
  own name node is = let of = (runs_are_sound b before run).nodes.nodes name node is in of.settings

  begun_by : (index : ℕ) (step : Step) (items : List Record) (name : List ℕ) (start : Start) → first_refusal before step ≡ None
      → start_at before step ≡ Some (name, start) → move_of_group before (StepRecord index step ∷ items) ≡ Some (Begins name start)
  begun_by index step items name start accepted at =
      step_moves before index step items ∙ ap (λ r. move_of_start r (start_at before step)) accepted ∙ ap (move_of_start None) at

  step_told : (index : ℕ) (step : Step) (items : List Record) → HaveNames b.settings (StepRecord index step ∷ items)
      → Follows b before (StepRecord index step ∷ items)
      → FollowStep (is_choice step) b.settings before (system_of before) index step items → AreTold b.settings 3 items
  step_told index step items steps follows may =
      let p = b.settings in
      let s = system_of before in
      let spelled = after_spelled (StepRecord index step ∷ items) steps follows in
      follow_told p before s run.course.limits.settings own (is_choice step) index step items may
      (λ accepted name start node at is.
      start_spelled p s name start node is
      (subst (λ m. AreSpelled p (moved_by p s m)) (begun_by index step items name start accepted at) spelled))

  taken_told : (number : ℕ) (items : List Record) → HaveNames b.settings (Taken number ∷ items) → Follows b before (Taken number ∷ items)
      → FollowTaken b.settings before (system_of before) number items → AreTold b.settings 2 items
  taken_told number items steps follows may =
      let p = b.settings in
      let s = system_of before in
      let spelled = after_spelled (Taken number ∷ items) steps follows in
      same_told p 2 _ items may.are
      (received_told p before s run.course.limits.settings own number (numbered_frame number s.frames) refl
      (subst (λ m. AreSpelled p (moved_by p s m)) (taken_moves before number items) spelled))

  pub group_told : (group : List Record) → HaveNames b.settings group → Follows b before group → AreTold b.settings 4 group
  unfolding MayFollow
  group_told (StepRecord index step ∷ items) steps follows =
      both_told b.settings 1 3 (StepRecord index step ∷ []) items (one_told b.settings _ (tt, λ h. cc))
      (step_told index step items steps follows follows.may)
  group_told (Taken number ∷ items) steps follows =
      more_told b.settings 3 4 (Taken number ∷ items) (omega arith)
      (both_told b.settings 1 2 (Taken number ∷ []) items (one_told b.settings _ (tt, λ h. cc))
      (taken_told number items steps follows follows.may))
  group_told group steps follows = absurd follows.may
