-- In each run whoever departs leaves or is gone, and is gone at rest.
use Rattle.std.proofs.Common.{◌≡◌, ◌⊎◌, inl, inr, ℕ, Bool, true, false, not, List, [], ◌∷◌, ◌++◌, take, All, Some, refl, ap, sym, subst, ◌∙◌, append-nil}
use Rattle.std.specs.Prelude.{◌||◌, bytes_eq}
use Rattle.std.proofs.lemmas.List.Elements.{All-cons, All-head, All-nil, filter_map-append}
use Rattle.std.proofs.lemmas.List.Folds.{list_any-append}
use Rattle.tap_name.specs.Names.{has_name}
use Rattle.tap_name.specs.Settings.{SettingsValue}
use Rattle.tap_scenario.specs.declared.step.Step.{Step}
use Rattle.tap_scenario.specs.declared.step.Step.TheVariants.{Depart}
use Rattle.tap_log.specs.declared.record.Record.{Record}
use Rattle.tap_log.specs.declared.record.Record.TheVariants.{Refused, Spent, Step as StepRecord, Taken}
use Rattle.tap_log.specs.Kinds.{accepts, begins_group, gone_name}
use Rattle.tap_log.specs.Log.{last_of}
use Rattle.tap_history.specs.Core.{gone_of}
use Rattle.tap_history.specs.Groups.{is_ended}
use Rattle.tap_history.specs.Moments.{is_rest}
use Rattle.tap_history.specs.StepAsks.{actor_of, is_start}
use Rattle.tap_rule.specs.Act.{act}
use Rattle.tap_rule.specs.Event.{Start}
use Rattle.tap_rule.specs.Event.Event.{Starts}
use Rattle.tap_rule.specs.Event.Start.{Leave}
use Rattle.tap_rule.specs.Node.Status.{Leaving}
use Rattle.tap_safety.specs.Move.{MayLeave, may_start}
use Rattle.tap_safety.specs.Move.Move.{Begins}
use Rattle.tap_safety.specs.Moved.{moved}
use Rattle.tap_safety.specs.System.{System}
use Rattle.tap_safety.proofs.LinkKeeps.{status_seen}
use Rattle.tap_safety.proofs.Moved.{starts}
use Rattle.tap_runs.specs.Beginning.{Beginning, begin_record}
use Rattle.tap_runs.specs.Course.{Follows, IsCourse, system_of}
use Rattle.tap_runs.specs.CourseLaws.{is_ended_node}
use Rattle.tap_runs.specs.Group.{start_at}
use Rattle.tap_runs.specs.Named.{HaveNames}
use Rattle.tap_runs.specs.Observed.{has_ended}
use Rattle.tap_runs.specs.Starts.{start_of_step}
use Rattle.tap_runs.proofs.CourseGrows.{by_groups}
use Rattle.tap_runs.proofs.Nodes.{HasNoStep, name_at, start_in}
use Rattle.tap_runs.proofs.Within.{IsIdle, IsQuiet, is_accepted}
use Rattle.tap_safe_runs.specs.Leavers.{LeaversAreGone, took_effect}
use Rattle.tap_safe_runs.specs.Moments.{AtEachMoment}
use Rattle.tap_safe_runs.specs.Safe.{IsRun}
use Rattle.tap_safe_runs.proofs.Departed.{IsDeparted, leaving_departed, stays_departed}
use Rattle.tap_safe_runs.proofs.GroupKinds.{IsStartGroup, run_kind, run_moves}
use Rattle.tap_safe_runs.proofs.Moments.{left, nodes, rests_without_frames}
use Rattle.tap_safe_runs.proofs.NeverAlone.{HasNoStartLast, last_of-append, no_start_last}
use Rattle.tap_safe_runs.proofs.Safe.{run_at_moment, steps_after, steps_before}
use Rattle.tap_safe_runs.proofs.Splits.{no_step_among, parted_where}

-- ---- where a log has a departure

-- the log has a departure after these records, which took effect
record IsDeparture (log before : List Record) (index : ℕ) (name : List ℕ) (after : List Record) : Type 0 where
  is : log ≡ before ++ StepRecord index (Depart name) ∷ after
  effect : took_effect after ≡ true

-- of a longer log: it is one of the log, or the records after the log have it
record IsOfLog (log more before : List Record) (index : ℕ) (name : List ℕ) (after : List Record) : Type 0 where
  middle : List Record
  here : IsDeparture log before index name middle
  all : after ≡ middle ++ more

record IsOfRest (log more before : List Record) (index : ℕ) (name : List ℕ) (after : List Record) : Type 0 where
  middle : List Record
  front : before ≡ log ++ middle
  here : IsDeparture more middle index name after

effect_front : (item : Record) (items more : List Record) → took_effect (item ∷ (items ++ more)) ≡ took_effect (item ∷ items)
unfolding took_effect
effect_front (Refused index refusal) items more = refl
effect_front (Spent limit) items more = refl
effect_front item items more = refl

departs_starts : (name : List ℕ) → is_start (Depart name) ≡ true
unfolding actor_of
departs_starts name = refl

module _ (log more : List Record) (alone : HasNoStartLast log) (before : List Record) (index : ℕ) (name : List ℕ) where
  -- a departure of the log isn't its last record
  of_log : (middle after : List Record) → log ≡ before ++ StepRecord index (Depart name) ∷ middle → after ≡ middle ++ more
      → took_effect after ≡ true → IsOfLog log more before index name after
  of_log [] after is all effect =
      let last : last_of log ≡ Some (StepRecord index (Depart name)) =
      ap last_of is ∙ last_of-append before (StepRecord index (Depart name)) [] in
      let wrong : false ≡ true = sym (alone index (Depart name) last) ∙ departs_starts name in
      absurd (cc)
  of_log (item ∷ items) after is all effect = record {
    middle = item ∷ items;
    here = record { is = is; effect = sym (effect_front item items more) ∙ sym (ap took_effect all) ∙ effect };
    all = all;
  }

  departure_where : (after : List Record) → IsDeparture (log ++ more) before index name after
      → IsOfLog log more before index name after ⊎ IsOfRest log more before index name after
  departure_where after has =
      elim (parted_where log more before (StepRecord index (Depart name) ∷ after) has.is) [
        | inl past ↦
            inr (record { middle = past.middle; front = past.front; here = record { is = past.back; effect = has.effect } })
        | inr within ↦
            let first : within.first ≡ StepRecord index (Depart name) = cc in
            let rest : after ≡ within.middle ++ more = cc in
            inl (of_log within.middle after (within.front ∙ ap (λ item. before ++ item ∷ within.middle) first) rest has.effect)
      ]

-- records of which only the first one may be a step have a departure there alone
record IsFirst (first : Record) (items before : List Record) (index : ℕ) (name : List ℕ) (after : List Record) : Type 0 where
  none : before ≡ []
  step : first ≡ StepRecord index (Depart name)
  rest : items ≡ after

departs_first : (first : Record) (items before : List Record) (index : ℕ) (name : List ℕ) (after : List Record) → All HasNoStep items
    → first ∷ items ≡ before ++ StepRecord index (Depart name) ∷ after → IsFirst first items before index name after
departs_first first items [] index name after steps is = record { none = refl; step = cc; rest = cc }
departs_first first items (b ∷ bs) index name after steps is =
    let later : items ≡ bs ++ StepRecord index (Depart name) ∷ after = cc in
    absurd (no_step_among items bs index (Depart name) after steps later)

-- ---- the group of a departure

-- what may follow a step within its group accepts it, if it took effect
accepted_effect : (items : List Record) → All IsQuiet items → took_effect items ≡ true → is_accepted items ≡ true
unfolding took_effect accepts begins_group
accepted_effect [] quiet effect = cc
accepted_effect (Refused index refusal ∷ items) quiet effect = absurd (cc)
accepted_effect (Spent limit ∷ items) quiet effect = absurd (cc)
accepted_effect (item ∷ items) quiet effect = ap not (All-head IsQuiet item items quiet).within.0

-- a departure that took effect isn't idle
departs_idle : (log : List Record) (name : List ℕ) (items : List Record) → IsIdle log (Depart name) items → took_effect items ≡ true → ⊥
unfolding actor_of
departs_idle log name items idle effect =
    elim idle.plain [
      | inl not_accepted ↦ let wrong : false ≡ true = sym not_accepted ∙ accepted_effect items idle.quiet effect in cc
      | inr none ↦ cc
    ]

-- the start of the step
departs_at : (log : List Record) (x name : List ℕ) (start : Start) → start_at log (Depart x) ≡ Some (name, start)
    → (x ≡ name) × (Leave ≡ start)
unfolding actor_of start_of_step
departs_at log x name start at = (ap name_at at, ap (start_in Leave) at)

-- ---- each departure of a run

-- before it the node wasn't gone, and now it leaves or has ended
record HasDepartedSince (before : List Record) (s : System) (name : List ℕ) : Type 0 where
  wasnt : has_name (gone_of before) name ≡ false
  now : IsDeparted s name

-- so it is of each departure of the log that took effect
abbrev HaveDeparted : List Record → System → Type 0
HaveDeparted log s = (before : List Record) (index : ℕ) (name : List ℕ) (after : List Record) → IsDeparture log before index name after
    → HasDepartedSince before s name

module _ (b : Beginning) (log group : List Record) (run : IsRun b log) (follows : Follows b log group)
    (names : HaveNames b.settings group) where
  abbrev p : SettingsValue
  p = b.settings

  abbrev s : System
  s = system_of log

  -- who starts to leave is core before, and then leaves or is gone
  module _ (name : List ℕ) (may : MayLeave s name) where
    not_gone : has_name (gone_of log) name ≡ false
    not_gone = (nodes b log run).gone name ∙ ap is_ended_node may.acts.is ∙ ap has_ended may.acts.core

    now_departed : IsDeparted (moved p s (Begins name Leave)) name
    now_departed =
        let node = may.acts.state in
        record {
          state = (act node (Starts Leave)).state;
          is = (starts p s name Leave node may.acts.is).done.is;
          so = leaving_departed node may.acts.core;
        }

  started_leaver : (start : IsStartGroup p log s group) (name : List ℕ) → start.step ≡ Depart name
      → HasDepartedSince log (system_of (log ++ group)) name
  started_leaver start name is =
      let what = start.starting in
      let at : start_at log (Depart name) ≡ Some (what.name, what.start) = sym (ap (start_at log) is) ∙ what.at in
      let both = departs_at log name what.name what.start at in
      let mine : may_start p s name Leave =
      subst (λ x. may_start p s x Leave) (sym both.0) (subst (may_start p s what.name) (sym both.1) start.may) in
      let begins : Begins what.name what.start ≡ Begins name Leave =
      ap (Begins what.name) (sym both.1) ∙ ap (λ x. Begins x Leave) (sym both.0) in
      let moves = start.moves ∙ ap Some begins in
      record {
        wasnt = not_gone name mine;
        now =
            subst (λ (t : System). IsDeparted t name) (sym (run_moves b log group run follows (Some (Begins name Leave)) moves))
            (now_departed name mine);
      }

  -- the departure with which the group begins
  module _ (before : List Record) (index : ℕ) (name : List ℕ) (after : List Record) (here : IsDeparture group before index name after) where
    first_of : (first : Record) (items : List Record) → group ≡ first ∷ items → All HasNoStep items
        → IsFirst first items before index name after
    first_of first items is steps = departs_first first items before index name after steps (sym is ∙ here.is)

    group_leaver : HasDepartedSince (log ++ before) (system_of (log ++ group)) name
    group_leaver =
        elim (run_kind b log group run follows names) [
          | inl idle ↦
              let first = first_of (StepRecord idle.index idle.step) idle.items idle.is idle.steps in
              let step : idle.step ≡ Depart name = cc in
              let effect = ap took_effect first.rest ∙ here.effect in
              absurd (departs_idle log name idle.items (subst (λ st. IsIdle log st idle.items) step idle.idle) effect)
          | inr (inl start) ↦
              let first = first_of (StepRecord start.index start.step) start.items start.is start.steps in
              let step : start.step ≡ Depart name = cc in
              let front : log ≡ log ++ before = sym (append-nil log) ∙ ap (λ l. log ++ l) (sym first.none) in
              subst (λ l. HasDepartedSince l (system_of (log ++ group)) name) front (started_leaver start name step)
          | inr (inr taken) ↦
              let first = first_of (Taken taken.number) taken.items taken.is taken.steps in
              let wrong : Taken taken.number ≡ StepRecord index (Depart name) = first.step in
              absurd (cc)
        ]

  leavers_more : HaveDeparted log s → HaveDeparted (log ++ group) (system_of (log ++ group))
  leavers_more have before index name after has =
      elim (departure_where log group (no_start_last b log run) before index name after has) [
        | inl old ↦
            let leaver = have before index name old.middle old.here in
            record { wasnt = leaver.wasnt; now = stays_departed b log group run follows names name leaver.now }
        | inr new ↦
            subst (λ l. HasDepartedSince l (system_of (log ++ group)) name) (sym new.front) (group_leaver new.middle index name after new.here)
      ]

module _ (b : Beginning) where
  -- if the steps have names of the settings, so it is
  abbrev HaveDepartedIf : List Record → Type 0
  HaveDepartedIf log = HaveNames b.settings log → HaveDeparted log (system_of log)

  leavers_grow : (log group : List Record) → IsCourse b log → is_ended log ≡ false → Follows b log group → HaveDepartedIf log
      → HaveDepartedIf (log ++ group)
  leavers_grow log group course going follows have names =
      let before = steps_before b.settings log group names in
      leavers_more b log group (record { course = course; going = going; steps = before }) follows (steps_after b.settings log group names)
      (have before)

  leavers_begin : HaveDepartedIf (begin_record b ∷ [])
  leavers_begin names before index name after has =
      let first = departs_first (begin_record b) [] before index name after (All-nil HasNoStep) has.is in
      let wrong : begin_record b ≡ StepRecord index (Depart name) = first.step in
      absurd (cc)

  have_departed : (log : List Record) → IsRun b log → HaveDeparted log (system_of log)
  have_departed log run = by_groups b HaveDepartedIf leavers_grow leavers_begin log run.course run.going run.steps

-- ---- at rest

or_second : (one other : Bool) → one ≡ false → (one || other) ≡ true → other ≡ true
or_second true other none is = absurd (cc)
or_second false other none is = is

step_gone : (index : ℕ) (step : Step) (items : List Record) → gone_of (StepRecord index step ∷ items) ≡ gone_of items
unfolding gone_name
step_gone index step items = refl

module _ (b : Beginning) (log : List Record) (run : IsRun b log) where
  -- the `Gone` of who wasn't gone before the step stands after it
  gone_after : (before : List Record) (index : ℕ) (name : List ℕ) (after : List Record) → log ≡ before ++ StepRecord index (Depart name) ∷ after
      → has_name (gone_of before) name ≡ false → has_name (gone_of log) name ≡ true → has_name (gone_of after) name ≡ true
  gone_after before index name after is wasnt gone =
      let step = StepRecord index (Depart name) in
      let both : has_name (gone_of log) name ≡ (has_name (gone_of before) name || has_name (gone_of after) name) =
      ap (λ l. has_name (gone_of l) name) is
      ∙ ap (λ l. has_name l name) (filter_map-append gone_name before (step ∷ after))
      ∙ list_any-append (λ other. bytes_eq other name) (gone_of before) (gone_of (step ∷ after))
      ∙ ap (λ l. has_name (gone_of before) name || has_name l name) (step_gone index (Depart name) after) in
      or_second (has_name (gone_of before) name) (has_name (gone_of after) name) wasnt (sym both ∙ gone)

  pub leavers_are_gone : LeaversAreGone b.settings log
  leavers_are_gone rest name after has =
      let s = system_of log in
      let leaver = have_departed b log run has.before has.index name after (record { is = has.is; effect = has.effect }) in
      let node = leaver.now.state in
      let ended : has_ended node.status ≡ true = elim leaver.now.so [
        | inl leaves ↦
            absurd ((left b log run (rests_without_frames b log run rest)).leaving name (status_seen s name node Leaving leaver.now.is leaves))
        | inr ended ↦ ended
      ] in
      gone_after has.before has.index name after has.is leaver.wasnt ((nodes b log run).gone name ∙ ap is_ended_node leaver.now.is ∙ ended)

-- the law: at a moment a run is a run
pub leavers_at : AtEachMoment LeaversAreGone
leavers_at b log m run is = leavers_are_gone b (take m log) (run_at_moment b log m run is)

-- ---- what ends a run

-- no departure that took effect is among these records
abbrev pub HasNoDeparture : List Record → Type 0
HasNoDeparture items = (before : List Record) (index : ℕ) (name : List ℕ) (after : List Record)
    → items ≡ before ++ StepRecord index (Depart name) ∷ after → took_effect after ≡ true → ⊥

-- none of a record after which nothing takes effect
none_departs : (first : Record) (items : List Record) → All HasNoStep items → took_effect items ≡ false → HasNoDeparture (first ∷ items)
none_departs first items steps none before index name after is effect =
    let same = (departs_first first items before index name after steps is).rest in
    let wrong : false ≡ true = sym none ∙ ap took_effect same ∙ effect in cc

-- nor of one record alone, or of a step and that the run is spent
pub one_departs_none : (item : Record) → HasNoDeparture (item ∷ [])
unfolding took_effect
one_departs_none item = none_departs item [] (All-nil HasNoStep) refl

pub cut_departs_none : (index : ℕ) (step : Step) (limit : ℕ) → HasNoDeparture (StepRecord index step ∷ Spent limit ∷ [])
unfolding took_effect
cut_departs_none index step limit =
    none_departs (StepRecord index step) (Spent limit ∷ []) (All-cons HasNoStep (Spent limit) [] refl (All-nil HasNoStep)) refl

-- so it is with an ending without a departure, if the log ended with no start
pub leavers_stay : (p : SettingsValue) (log ending : List Record) → HasNoStartLast log → HasNoDeparture ending
    → (is_rest (log ++ ending) ≡ true → is_rest log ≡ true) → LeaversAreGone p log → LeaversAreGone p (log ++ ending)
leavers_stay p log ending alone none rests gone rest name after has =
    elim (departure_where log ending alone has.before has.index name after (record { is = has.is; effect = has.effect })) [
      | inl old ↦
          let before : has_name (gone_of old.middle) name ≡ true =
          gone (rests rest) name old.middle (record { before = has.before; index = has.index; is = old.here.is; effect = old.here.effect }) in
          ap (λ l. has_name (gone_of l) name) old.all
          ∙ ap (λ l. has_name l name) (filter_map-append gone_name old.middle ending)
          ∙ list_any-append (λ other. bytes_eq other name) (gone_of old.middle) (gone_of ending)
          ∙ ap (λ b. b || has_name (gone_of ending) name) before
      | inr new ↦ absurd (none new.middle has.index name after new.here.is new.here.effect)
    ]
