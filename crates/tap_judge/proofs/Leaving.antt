-- What a turn of a player leaves, by whether the run is carried.
use Rattle.std.proofs.Common.{◌≡◌, ◌≢◌, inl, inr, ◌<◌, ◌≤◌, Bool, true, false, List, [], ◌∷◌, ◌++◌, length, take, Option, None, Some, refl, sym, subst}
use Rattle.std.specs.Prelude.{nat_le, if◌then◌else◌}
use Rattle.std.proofs.lemmas.Bool.{cases_lt, le-leb, lt-leb}
use Rattle.tap_scenario.specs.Scenario.{IsScript, ScenarioValue}
use Rattle.tap_log.specs.declared.record.Record.{Record}
use Rattle.tap_log.specs.declared.record.Record.TheVariants.{Finished, Spent as SpentRecord}
use Rattle.tap_log.specs.Counts.{sent_count}
use Rattle.tap_lawful.specs.CarriedNext.{carried_next_group}
use Rattle.tap_lawful.specs.Lawful.{NextGroup, step_alone}
use Rattle.tap_lawful.specs.Next.{uncarried_next_group}
use Rattle.tap_lawful.specs.Runs.{IsFinishedBy, IsLogBy, IsPlayedBy, IsRunLog, IsRunSoFar, IsSpentBy, IsWholeRunLog, comes_next}
use Rattle.tap_lawful.proofs.Runs.{finished_log, runs_by_carrier, spent_log, whole_log}
use Rattle.tap_replay.specs.CarriedTurn.{carried_outcome_by, carried_turn_outcome}
use Rattle.tap_replay.specs.Runs.{TurnsBy}
use Rattle.tap_replay.specs.Turn.{TurnOutcome, outcome_by, turn_outcome, unless_finished}
use Rattle.tap_replay.specs.declared.end.End.TheVariants.{Done, NoMemory, Spent}
use Rattle.tap_replay.specs.declared.end.Turned.{Turned}
use Rattle.tap_replay.specs.declared.end.Turned.TheVariants.{More, Over}

-- ---- the outcome, by what comes next and what stands of a group that would send too many frames

abbrev outcome_with : NextGroup → (List Record → List Record) → ScenarioValue → List Record → Option (List Record) → TurnOutcome
outcome_with coming alone s log (Some group) =
    if nat_le (sent_count (log ++ group)) s.frames then unless_finished s (log ++ group) (coming (log ++ group))
    else record { answer = Over Spent; log = log ++ (alone group ++ SpentRecord s.frames ∷ []) }
outcome_with coming alone s log None = unless_finished s log None

-- all steps were run; too many frames would be sent; or the group that comes next was added, and is the last one or not
data LeavesWith (coming : NextGroup) (alone : List Record → List Record) (s : ScenarioValue) (before : List Record) (given : Turned) (after : List Record) : Type 0 where
  finishes : coming before ≡ None → given ≡ Over Done → after ≡ before ++ Finished (length s.steps) ∷ []
      → LeavesWith coming alone s before given after
  spends : (group : List Record) → coming before ≡ Some group → s.frames < sent_count (before ++ group) → given ≡ Over Spent
      → after ≡ before ++ (alone group ++ SpentRecord s.frames ∷ []) → LeavesWith coming alone s before given after
  adds : (group : List Record) → coming before ≡ Some group → sent_count (before ++ group) ≤ s.frames → given ≡ More → after ≡ before ++ group
      → LeavesWith coming alone s before given after
  adds_last : (group : List Record) → coming before ≡ Some group → sent_count (before ++ group) ≤ s.frames → coming (before ++ group) ≡ None
      → given ≡ Over Done → after ≡ (before ++ group) ++ Finished (length s.steps) ∷ [] → LeavesWith coming alone s before given after

module _ (coming : NextGroup) (alone : List Record → List Record) (s : ScenarioValue) (log : List Record) where
  outcome : TurnOutcome
  outcome = outcome_with coming alone s log (coming log)

  abbrev Left : TurnOutcome → Type 0
  Left o = LeavesWith coming alone s log o.answer o.log

  by_last : (group : List Record) → coming log ≡ Some group → sent_count (log ++ group) ≤ s.frames → (last : Option (List Record))
      → coming (log ++ group) ≡ last → Left (unless_finished s (log ++ group) last)
  by_last group next within None none = adds_last group next within none refl refl
  by_last group next within (Some later) some = adds group next within refl refl

  by_group : (group : List Record) → coming log ≡ Some group → Left (outcome_with coming alone s log (Some group))
  by_group group next =
      let last = unless_finished s (log ++ group) (coming (log ++ group)) in
      let over : TurnOutcome = record { answer = Over Spent; log = log ++ (alone group ++ SpentRecord s.frames ∷ []) } in
      elim (cases_lt s.frames (sent_count (log ++ group))) [
        | inl past ↦
            subst (λ b. Left (if b then last else over)) (sym (lt-leb (sent_count (log ++ group)) s.frames past))
            (spends group next past refl refl)
        | inr within ↦
            subst (λ b. Left (if b then last else over)) (sym (le-leb (sent_count (log ++ group)) s.frames within))
            (by_last group next within (coming (log ++ group)) refl)
      ]

  by_next : (next : Option (List Record)) → coming log ≡ next → Left (outcome_with coming alone s log next)
  by_next None none = finishes none refl refl
  by_next (Some group) next = by_group group next

  leaves_with : Left (outcome_with coming alone s log (coming log))
  leaves_with = by_next (coming log) refl

plain_same : (s : ScenarioValue) (log : List Record) (next : Option (List Record))
    → outcome_with (uncarried_next_group s) step_alone s log next ≡ outcome_by s log next
plain_same s log None = refl
plain_same s log (Some group) = refl

carried_same : (s : ScenarioValue) (log : List Record) (next : Option (List Record))
    → outcome_with (carried_next_group s) (take 1) s log next ≡ carried_outcome_by s log next
carried_same s log None = refl
carried_same s log (Some group) = refl

-- ---- by the carrier

pub data Leaves (c : Bool) (s : ScenarioValue) (before : List Record) (given : Turned) (after : List Record) : Type 0 where
  finishes : IsFinishedBy c s before after → given ≡ Over Done → after ≡ before ++ Finished (length s.steps) ∷ [] → Leaves c s before given after
  spends : IsSpentBy c s before after → given ≡ Over Spent → Leaves c s before given after
  adds : (group : List Record) → comes_next c s before ≡ Some group → sent_count (before ++ group) ≤ s.frames → given ≡ More
      → after ≡ before ++ group → Leaves c s before given after
  adds_last : (group : List Record) → comes_next c s before ≡ Some group → sent_count (before ++ group) ≤ s.frames
      → IsFinishedBy c s (before ++ group) after → given ≡ Over Done → after ≡ (before ++ group) ++ Finished (length s.steps) ∷ []
      → Leaves c s before given after

module _ (s : ScenarioValue) (before : List Record) (given : Turned) (after : List Record) where
  plain_leaves : LeavesWith (uncarried_next_group s) step_alone s before given after → Leaves false s before given after
  plain_leaves (finishes none done is) = finishes (record { none = none; log_is = is }) done is
  plain_leaves (spends group next past spent is) = spends (record { group = group; next = next; over = past; log_is = is }) spent
  plain_leaves (adds group next within more is) = adds group next within more is
  plain_leaves (adds_last group next within none done is) =
      adds_last group next within (record { none = none; log_is = is }) done is

  carried_leaves : LeavesWith (carried_next_group s) (take 1) s before given after → Leaves true s before given after
  carried_leaves (finishes none done is) = finishes (record { none = none; log_is = is }) done is
  carried_leaves (spends group next past spent is) = spends (record { group = group; next = next; over = past; log_is = is }) spent
  carried_leaves (adds group next within more is) = adds group next within more is
  carried_leaves (adds_last group next within none done is) =
      adds_last group next within (record { none = none; log_is = is }) done is

  pub leaves : (c : Bool) → TurnsBy c s before given after → given ≢ Over NoMemory → Leaves c s before given after
  leaves true turns enough =
      let o = carried_turn_outcome s before in
      let left : LeavesWith (carried_next_group s) (take 1) s before o.answer o.log =
      subst (λ (x : TurnOutcome). LeavesWith (carried_next_group s) (take 1) s before x.answer x.log)
      (carried_same s before (carried_next_group s before)) (leaves_with (carried_next_group s) (take 1) s before) in
      carried_leaves
      (subst (λ x. LeavesWith (carried_next_group s) (take 1) s before x after) (sym (turns.answer enough))
      (subst (λ x. LeavesWith (carried_next_group s) (take 1) s before o.answer x) (sym (turns.log enough)) left))
  leaves false turns enough =
      let o = turn_outcome s before in
      let left : LeavesWith (uncarried_next_group s) step_alone s before o.answer o.log =
      subst (λ (x : TurnOutcome). LeavesWith (uncarried_next_group s) step_alone s before x.answer x.log)
      (plain_same s before (uncarried_next_group s before)) (leaves_with (uncarried_next_group s) step_alone s before) in
      plain_leaves
      (subst (λ x. LeavesWith (uncarried_next_group s) step_alone s before x after) (sym (turns.answer enough))
      (subst (λ x. LeavesWith (uncarried_next_group s) step_alone s before o.answer x) (sym (turns.log enough)) left))

-- ---- it is the log of a run

so_far : (c : Bool) (s : ScenarioValue) (log : List Record) → IsPlayedBy c s log → IsLogBy c s log
so_far true s log played = record { played = log; is_played = played; ending = inl refl }
so_far false s log played = record { played = log; is_played = played; ending = inl refl }

-- a log so far is that of a run
pub run_so_far : (s : ScenarioValue) (log : List Record) → IsRunSoFar s log → IsRunLog s log
run_so_far s log played = so_far s.carrier s log played

module _ (s : ScenarioValue) (valid : IsScript s) (before after : List Record) (given : Turned) (played : IsRunSoFar s before) where
  -- a run that is over has left its whole log
  pub left_whole : Leaves s.carrier s before given after → given ≢ More → IsWholeRunLog s after
  left_whole (finishes finished done is) over = finished_log s.carrier s before after played finished
  left_whole (spends spent is) over = spent_log s.carrier s before after played spent
  left_whole (adds group next within more is) over = absurd (over more)
  left_whole (adds_last group next within finished done is) over =
      finished_log s.carrier s (before ++ group) after (runs_by_carrier.more s before group valid played next within) finished

  pub left_log : Leaves s.carrier s before given after → IsRunLog s after
  left_log (adds group next within more is) =
      run_so_far s after (subst (IsRunSoFar s) (sym is) (runs_by_carrier.more s before group valid played next within))
  left_log (finishes finished done is) = whole_log s.carrier s after (finished_log s.carrier s before after played finished)
  left_log (spends spent is) = whole_log s.carrier s after (spent_log s.carrier s before after played spent)
  left_log (adds_last group next within finished done is) =
      whole_log s.carrier s after
      (finished_log s.carrier s (before ++ group) after (runs_by_carrier.more s before group valid played next within) finished)
