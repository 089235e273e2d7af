-- What a group of a run accepts: the join that its move starts, if it starts one.
use Rattle.std.proofs.Common.{◌≡◌, ◌⊎◌, inl, inr, ℕ, Bool, true, false, List, [], ◌∷◌, ◌++◌, filter, length, All, Option, None, Some, refl, ap, sym, subst, ◌∙◌, append-nil}
use Rattle.std.specs.Prelude.{fold, if◌then◌else◌}
use Rattle.std.specs.List.{cons_option, filter_map}
use Rattle.std.proofs.lemmas.List.Elements.{All-cons}
use Rattle.tap_name.specs.Settings.{SettingsValue}
use Rattle.tap_scenario.specs.declared.step.Step.{Step}
use Rattle.tap_scenario.specs.declared.step.Step.TheVariants.{Abandon, Cast, Depart, Find, Join, Publish, Withdraw}
use Rattle.tap_log.specs.Kinds.{accepts}
use Rattle.tap_log.specs.MoreRecords.{at_most_one}
use Rattle.tap_log.specs.declared.record.Record.{Record}
use Rattle.tap_log.specs.declared.record.Record.TheVariants.{Step as StepRecord, Taken}
use Rattle.tap_history.specs.Core.{accepted_in, accepted_step}
use Rattle.tap_history.specs.Names.{names_of, with_name}
use Rattle.tap_history.specs.Refusals.{first_refusal}
use Rattle.tap_history.specs.StepAsks.{actor_of, join_name}
use Rattle.tap_rule.specs.Event.{Start}
use Rattle.tap_rule.specs.Event.Start.{Abandon as StartAbandon, Cast as StartCast, Find as StartFind, Join as StartJoin, Leave as StartLeave, Publish as StartPublish, Withdraw as StartWithdraw}
use Rattle.tap_safety.specs.Move.{Move, may_move}
use Rattle.tap_safety.specs.Move.Move.{Begins, Delivers}
use Rattle.tap_safety.specs.System.{System}
use Rattle.tap_runs.specs.Course.{MayFollow, move_of_group}
use Rattle.tap_runs.specs.Group.{start_at}
use Rattle.tap_runs.specs.Starts.{next_cast, next_ticket, start_of_step}
use Rattle.tap_runs.proofs.Frames.{starting_moves, step_moves, taken_moves}
use Rattle.tap_runs.proofs.Nodes.{HasNoStep, joiner_is_new, name_at, no_steps, none_accepted, none_named, start_in, taken_no_step}
use Rattle.tap_runs.proofs.Within.{IsIdle, IsStarting, is_accepted, step_kind, step_within, taken_within}
use Rattle.tap_safe_runs.proofs.Starting.{starting_accepted}
use Rattle.tap_bounds.specs.OfJoins.{IsJoin, JoinsAlone}
use Rattle.tap_bounds_runs.specs.Joins.{joined_by, joined_in, is_other_start}

-- ---- a step that starts something

-- The step names who joins, if its start is a join; if it starts nothing else it is one; and who joins is new.
record StartsSo (log : List Record) (step : Step) (name : List ℕ) (start : Start) : Type 0 where
  joins : cons_option (join_name step) [] ≡ joined_in (Begins name start ∷ [])
  alone : filter is_other_start (step ∷ []) ≡ [] → IsJoin start
  names : fold with_name (names_of log) (joined_in (Begins name start ∷ [])) ≡ names_of log ++ joined_in (Begins name start ∷ [])

module _ (log : List Record) (name : List ℕ) where
  join_so : (via : List ℕ) → first_refusal log (Join name via) ≡ None → StartsSo log (Join name via) name (StartJoin via)
  unfolding join_name
  join_so via accepted = record {
    joins = refl;
    alone = λ none. tt;
    names = ap (λ b. if b then names_of log else names_of log ++ name ∷ []) (joiner_is_new log name via accepted);
  }

  other_so : (step : Step) (start : Start) → join_name step ≡ None → joined_by (Begins name start) ≡ None → is_other_start step ≡ true
      → StartsSo log step name start
  other_so step start none not_joined other =
      let nobody : joined_in (Begins name start ∷ []) ≡ [] = ap at_most_one not_joined in
      record {
        joins = ap at_most_one none ∙ sym nobody;
        alone = λ empty. let wrong : step ∷ [] ≡ [] = rw other at empty in absurd (cc);
        names = ap (fold with_name (names_of log)) nobody ∙ sym (ap (λ l. names_of log ++ l) nobody ∙ append-nil (names_of log));
      }

  starts_so : (step : Step) (start : Start) → first_refusal log step ≡ None → start_at log step ≡ Some (name, start)
      → StartsSo log step name start
  unfolding actor_of start_of_step join_name
  starts_so (Join x via) start accepted at =
      let same : x ≡ name = ap name_at at in
      let what : StartJoin via ≡ start = ap (start_in (StartJoin via)) at in
      subst (λ w. StartsSo log (Join x via) name w) what
      (subst (λ y. StartsSo log (Join y via) name (StartJoin via)) (sym same)
      (join_so via (subst (λ y. first_refusal log (Join y via) ≡ None) same accepted)))
  starts_so (Depart x) start accepted at =
      let what : StartLeave ≡ start = ap (start_in StartLeave) at in
      subst (λ w. StartsSo log (Depart x) name w) what (other_so (Depart x) StartLeave refl refl refl)
  starts_so (Publish object server) start accepted at =
      let what : StartPublish object ≡ start = ap (start_in (StartPublish object)) at in
      subst (λ w. StartsSo log (Publish object server) name w) what (other_so (Publish object server) (StartPublish object) refl refl refl)
  starts_so (Withdraw object server) start accepted at =
      let what : StartWithdraw object ≡ start = ap (start_in (StartWithdraw object)) at in
      subst (λ w. StartsSo log (Withdraw object server) name w) what (other_so (Withdraw object server) (StartWithdraw object) refl refl refl)
  starts_so (Find object asker) start accepted at =
      let what : StartFind (next_ticket log) object ≡ start = ap (start_in StartLeave) at in
      subst (λ w. StartsSo log (Find object asker) name w) what
      (other_so (Find object asker) (StartFind (next_ticket log) object) refl refl refl)
  starts_so (Abandon x) start accepted at =
      let what : StartAbandon ≡ start = ap (start_in StartAbandon) at in
      subst (λ w. StartsSo log (Abandon x) name w) what (other_so (Abandon x) StartAbandon refl refl refl)
  starts_so (Cast word prefix asker) start accepted at =
      let made = StartCast (next_cast log) (length prefix) word in
      let what : made ≡ start = ap (start_in StartLeave) at in
      subst (λ w. StartsSo log (Cast word prefix asker) name w) what (other_so (Cast word prefix asker) made refl refl refl)
  starts_so step start accepted at = absurd (cc)

-- ---- a group

-- the step that a group begins is the one that it accepts, if it accepts one
accepted_first : (index : ℕ) (step : Step) (items : List Record) → All HasNoStep items
    → accepted_in false (StepRecord index step ∷ items) ≡ (if is_accepted items then step ∷ [] else [])
unfolding accepted_step
accepted_first index step [] none = refl
accepted_first index step (next ∷ items) none =
    ap (cons_option (accepted_step false (StepRecord index step, next))) (none_accepted (next ∷ items) none) ∙ by_test (accepts false next)
  where
    by_test : (accepted : Bool) → cons_option (if accepted then Some step else None) [] ≡ (if accepted then step ∷ [] else [])
    by_test true = refl
    by_test false = refl

-- The group accepts the join that its move starts, if it starts one; if it accepts no other start, its move is none; and who joins is new.
pub record Accepts (log group : List Record) (move : Option Move) : Type 0 where
  pub joins : filter_map join_name (accepted_in false group) ≡ joined_in (at_most_one move)
  pub alone : filter is_other_start (accepted_in false group) ≡ [] → JoinsAlone (at_most_one move)
  pub names : fold with_name (names_of log) (joined_in (at_most_one move)) ≡ names_of log ++ joined_in (at_most_one move)

-- who starts nothing doesn't join
no_actor : (step : Step) → actor_of step ≡ None → join_name step ≡ None
unfolding actor_of join_name
no_actor (Join name via) none = absurd (cc)
no_actor step none = refl

module _ (p : SettingsValue) (log : List Record) (s : System) where
  quiet_accepts : (group : List Record) (move : Option Move) → joined_in (at_most_one move) ≡ [] → JoinsAlone (at_most_one move)
      → filter_map join_name (accepted_in false group) ≡ [] → Accepts log group move
  quiet_accepts group move nobody alone joins = record {
    joins = joins ∙ sym nobody;
    alone = λ none. alone;
    names = ap (fold with_name (names_of log)) nobody ∙ sym (ap (λ l. names_of log ++ l) nobody ∙ append-nil (names_of log));
  }

  idle_accepts : (index : ℕ) (step : Step) (items : List Record) → All HasNoStep items → IsIdle log step items
      → Accepts log (StepRecord index step ∷ items) (move_of_group log (StepRecord index step ∷ items))
  idle_accepts index step items none idle =
      let plain : (is_accepted items ≡ false) ⊎ (join_name step ≡ None) =
      elim idle.plain [ inl refused ↦ inl refused | inr nobody ↦ inr (no_actor step nobody) ] in
      subst (Accepts log (StepRecord index step ∷ items)) (sym (step_moves log index step items ∙ idle.still))
      (quiet_accepts (StepRecord index step ∷ items) None refl tt (none_named join_name index step items none plain))

  start_accepts : (index : ℕ) (step : Step) (items : List Record) → All HasNoStep items → (starting : IsStarting p log s step items)
      → may_move p s (Begins starting.name starting.start)
      → Accepts log (StepRecord index step ∷ items) (move_of_group log (StepRecord index step ∷ items))
  start_accepts index step items none starting may =
      let so = starts_so log starting.name step starting.start starting.accepted starting.at in
      let accepted : accepted_in false (StepRecord index step ∷ items) ≡ step ∷ [] =
      accepted_first index step items none
      ∙ ap (λ b. if b then step ∷ [] else []) (starting_accepted p log s step items starting may) in
      subst (Accepts log (StepRecord index step ∷ items)) (sym (starting_moves p log s index step items starting)) (record {
        joins = ap (filter_map join_name) accepted ∙ so.joins;
        alone = λ alone. (so.alone (sym (ap (filter is_other_start) accepted) ∙ alone), tt);
        names = so.names;
      })

  pub group_accepts : (group : List Record) → MayFollow p log s group
      → ((move : Move) → move_of_group log group ≡ Some move → may_move p s move) → Accepts log group (move_of_group log group)
  unfolding MayFollow
  group_accepts (StepRecord index step ∷ items) may possible =
      let none = no_steps items (step_within p log s index step items may) in
      elim (step_kind p log s index step items may) [
        | inl idle ↦ idle_accepts index step items none idle
        | inr starting ↦
            start_accepts index step items none starting
            (possible (Begins starting.name starting.start) (starting_moves p log s index step items starting))
      ]
  group_accepts (Taken number ∷ items) may possible =
      let none = no_steps items (taken_within p log s number items may) in
      subst (Accepts log (Taken number ∷ items)) (sym (taken_moves log number items))
      (quiet_accepts (Taken number ∷ items) (Some (Delivers number)) refl (tt, tt)
      (ap (filter_map join_name)
      (none_accepted (Taken number ∷ items) (All-cons HasNoStep (Taken number) items (taken_no_step number) none))))
  group_accepts group may possible = absurd may
