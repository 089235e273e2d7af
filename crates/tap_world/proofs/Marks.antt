-- What the calls add that only note something: a choice, a refusal, and the end of all steps.
use Rattle.std.proofs.Common.{◌≡◌, ℕ, ◌+◌, ◌≤◌, true, false, List, [], ◌∷◌, ◌++◌, length, length-append, All, Option, None, Some, is_some, refl, ap, sym, subst, ◌∙◌, arith}
use Rattle.std.specs.Option.{option_map, option_map_or, option_zip}
use Rattle.std.proofs.lemmas.List.Elements.{All-cons, All-nil}
use Rattle.tap_name.specs.Names.{has_name}
use Rattle.tap_name.specs.Settings.{SettingsValue}
use Rattle.tap_scenario.specs.declared.step.Step.{Step}
use Rattle.tap_scenario.specs.declared.step.Step.TheVariants.{Deliver, Settle, SettleNewest, SettleMixed, Tick, Lose, Repeat, RootSet}
use Rattle.tap_log.specs.declared.record.Record.{Record}
use Rattle.tap_log.specs.declared.record.Record.TheVariants.{Finished, Refused, Step as StepRecord}
use Rattle.tap_log.specs.declared.record.Refusal.{Refusal}
use Rattle.tap_log.specs.Counts.{sent_count}
use Rattle.tap_log.specs.Kinds.{begins_group, step_of}
use Rattle.tap_log.specs.Log.{begun_steps, last_of}
use Rattle.tap_log.proofs.MoreRecords.{last_of-push, sent_count-append}
use Rattle.tap_history.specs.GroupLaws.{IsGroup}
use Rattle.tap_history.specs.Groups.{ends_log, is_ended}
use Rattle.tap_history.specs.Names.{names_of}
use Rattle.tap_history.specs.Refusals.{first_refusal}
use Rattle.tap_history.specs.StepAsks.{actor_of}
use Rattle.tap_node.specs.Node.{running}
use Rattle.tap_runs.specs.Beginning.{Beginning}
use Rattle.tap_runs.specs.Course.{Follows, IsCourse, is_choice, move_of_group, move_of_start, moved_by, system_of}
use Rattle.tap_runs.specs.Group.{start_at}
use Rattle.tap_runs.specs.Starts.{start_of_step}
use Rattle.tap_runs.proofs.Frames.{step_moves}
use Rattle.tap_runs.proofs.CourseGrows.{grown_system}
use Rattle.tap_runs.proofs.Within.{is_group}
use Rattle.tap_ledger.specs.Added.{CanAdd, most_ledger_frames}
use Rattle.tap_overlay.specs.Law.{HasNodesOf}
use Rattle.tap_overlay.specs.Overlay.{node_at}
use Rattle.tap_engine.specs.KeptEngine.{AreKept, AreReady, room_kept, room_of_record, room_of_roots, world_value}
use Rattle.tap_engine.specs.Kinds.{finishes_run, is_finished}
use Rattle.tap_engine.specs.Growth.{left_by_outcome}
use Rattle.tap_engine.specs.Outcome.{IsNextIndex, MayNote, adds}
use Rattle.tap_engine.specs.WorldLog.{IsWorldLog}
use Rattle.tap_engine.specs.declared.engine.Engine.{Engine}
use Rattle.tap_engine.proofs.Addable.{limit_fits, refused_fits}
use Rattle.tap_engine.proofs.Courses.{course_begun, course_uncarried}
use Rattle.tap_engine.proofs.StandingAlone.{refused_names, system_group}
use Rattle.tap_engine.proofs.Keeping.{HasGrown, as_log, end_same, grown_log, grown_named, kept_same, on, same_beginning, seen}
use Rattle.tap_runs.proofs.StepNames.{choice_has_names}
use Rattle.tap_engine.proofs.Leading.{kept_group}
use Rattle.tap_engine.proofs.NamedSteps.{step_named, unbegun_named}
use Rattle.tap_engine.proofs.AddedGroups.{choice_may, clash, follows_within, silent_within}
use Rattle.tap_engine.proofs.WorldLogs.{IsNoted, finish_log, mark_log, note_log, noted}
use Rattle.tap_world.proofs.Remarks.{no_roots, refused_begins}

-- ---- a choice

-- a choice is nobody's start
choice_at_none : (step : Step) → is_choice step ≡ true → actor_of step ≡ None
unfolding is_choice actor_of
choice_at_none (Deliver place) is = refl
choice_at_none Settle is = refl
choice_at_none SettleNewest is = refl
choice_at_none (SettleMixed seed) is = refl
choice_at_none Tick is = refl
choice_at_none (Lose place) is = refl
choice_at_none (Repeat place) is = refl
choice_at_none (RootSet object asker) is = refl
choice_at_none step is = absurd (cc)

nobody_starts : (refusal : Option Refusal) → move_of_start refusal None ≡ None
nobody_starts None = refl
nobody_starts (Some refusal) = refl

-- so the system stays
choice_stays : (p : SettingsValue) (log : List Record) (index : ℕ) (step : Step) (items : List Record) → is_choice step ≡ true
    → moved_by p (system_of log) (move_of_group log (StepRecord index step ∷ items)) ≡ system_of log
choice_stays p log index step items choice =
    ap (moved_by p (system_of log)) (step_moves log index step items
    ∙ ap (λ actor. move_of_start (first_refusal log step) (option_zip actor (start_of_step log step))) (choice_at_none step choice)
    ∙ nobody_starts (first_refusal log step))

module _ (before after : Engine) (ready : AreReady before) (index : ℕ) (step : Step) (next : IsNextIndex (seen before) index)
    (choice : is_choice step ≡ true) (grows : HasGrown before after (StepRecord index step ∷ []))
    (overlay : after.overlay ≡ before.overlay) (three : 3 ≤ after.ledger.spare) where
  mark_follows : Follows (seen before).beginning before.ledger.records (StepRecord index step ∷ [])
  mark_follows =
      let goes = on before ready in
      let b = (seen before).beginning in
      let log = before.ledger.records in
      follows_within b log (StepRecord index step ∷ []) (choice_may b log index step choice)
      (silent_within b log goes.course goes.going index step [] refl)

  -- the step alone is added
  pub marked_kept : AreKept after None false
  marked_kept =
      let log = before.ledger.records in
      let stays = choice_stays before.settings log index step [] choice in
      kept_group before after (StepRecord index step) [] ready grows mark_follows
      (subst (λ s. HasNodesOf s after.overlay) (sym stays) (subst (HasNodesOf (system_of log)) (sym overlay) (ready.kept.go_on refl).nodes))
      (ap (λ o. o.settings) overlay) three
      (step_named before.settings index step [] (choice_has_names before.settings step choice)
      (All-nil (λ item. step_of item ≡ None)))
      (mark_log (seen before) (seen before).nodes (on before ready) index step next choice)

-- ---- the end of all steps

-- a record that begins no step, alone
no_step : (item : Record) → step_of item ≡ None → All (λ item. step_of item ≡ None) (item ∷ [])
no_step item none = All-cons (λ item. step_of item ≡ None) item [] none (All-nil (λ item. step_of item ≡ None))

finished_so : (log : List Record) (steps : ℕ) → is_finished (log ++ Finished steps ∷ []) ≡ true
unfolding finishes_run
finished_so log steps = ap (λ last. option_map_or finishes_run last false) (last_of-push log (Finished steps))

module _ (before after : Engine) (ready : AreReady before) (steps : ℕ) (all : steps ≡ length (begun_steps before.ledger.records))
    (grows : HasGrown before after (Finished steps ∷ [])) (overlay : after.overlay ≡ before.overlay) where
  -- `Finished` is added
  pub finished_kept : AreKept after None false
  finished_kept =
      let goes = on before ready in
      let log = before.ledger.records in
      kept_same before after (Finished steps ∷ []) None ready grows (end_same (seen before).beginning log steps goes.course goes.going)
      (unbegun_named before.settings (Finished steps ∷ []) (no_step (Finished steps) refl)) overlay
      (λ unfinished. absurd (clash (is_finished after.ledger.records) (ap is_finished grows.log ∙ finished_so log steps) unfinished))
      (grown_log before after (Finished steps ∷ []) None false ready grows (finish_log (seen before) (seen before).nodes goes steps all))

-- ---- a refusal that is noted

step_goes_on : (index : ℕ) (step : Step) (items : List Record) → is_ended (StepRecord index step ∷ []) ≡ false
unfolding ends_log
step_goes_on index step items = refl

step_group_is : (b : Beginning) (log : List Record) (index : ℕ) (step : Step) → IsCourse b log → IsGroup log (StepRecord index step) []
unfolding begins_group
step_group_is b log index step course =
    is_group log (StepRecord index step) [] (course_begun b log course) (course_uncarried b log course) refl (All-nil _)

-- with the refusal after the step the system is what it was after the step alone
module _ (b : Beginning) (log : List Record) (index : ℕ) (refusal : Refusal) (n : IsNoted b log index refusal) where
  after_step : system_of log ≡ moved_by b.settings (system_of n.before) (move_of_start (first_refusal n.before n.step) (start_at n.before n.step))
  after_step =
      ap system_of n.log_is
      ∙ system_group b n.before n.course_before n.going_before (StepRecord index n.step) [] (step_group_is b n.before index n.step n.course_before)
      (step_goes_on index n.step [])
      ∙ ap (moved_by b.settings (system_of n.before)) (step_moves n.before index n.step [])

  pub noted_system : system_of (log ++ Refused index refusal ∷ []) ≡ system_of log
  noted_system =
      let group = StepRecord index n.step ∷ Refused index refusal ∷ [] in
      ap system_of n.whole_is ∙ grown_system b n.before group n.course_before n.going_before n.follows
      ∙ ap (moved_by b.settings (system_of n.before)) (step_moves n.before index n.step (Refused index refusal ∷ [])) ∙ sym after_step

  noted_begun : 1 ≤ length log
  noted_begun =
      let size = ap length n.log_is ∙ length-append n.before (StepRecord index n.step ∷ []) in
      omega (arith, size)

  -- no more were sent than may be
  noted_sent : sent_count log ≤ most_ledger_frames
  noted_sent =
      let within = n.follows.within in
      let whole = ap sent_count n.whole_is in
      let all = sent_count-append log (Refused index refusal ∷ []) in
      let few = limit_fits b n.course_before.limits in
      omega (arith, within, whole, all, few)

  pub noted_fits : CanAdd log (Refused index refusal ∷ [])
  noted_fits = refused_fits log index refusal noted_sent

room_of_step : (index : ℕ) (step : Step) → room_of_record (StepRecord index step) ≡ 2
unfolding room_of_record
room_of_step index step = refl

room_of_refused : (index : ℕ) (refusal : Refusal) → room_of_record (Refused index refusal) ≡ 1
unfolding room_of_record
room_of_refused index refusal = refl

unfinished_step : (index : ℕ) (step : Step) → finishes_run (StepRecord index step) ≡ false
unfolding finishes_run
unfinished_step index step = refl

module _ (before : Engine) (refused : Option Refusal) (kept : AreKept before refused false) (index : ℕ) (refusal : Refusal)
    (may : MayNote (world_value before refused false) index refusal) where
  abbrev is_noted : IsNoted (seen before).beginning before.ledger.records index refusal
  is_noted = noted (world_value before refused false) index refusal kept.log may refl

  pub note_fits : CanAdd before.ledger.records (Refused index refusal ∷ [])
  note_fits = noted_fits (seen before).beginning before.ledger.records index refusal is_noted

  -- after a step there is room for two records
  pub note_room : 2 ≤ before.ledger.spare
  note_room =
      let going : is_finished before.ledger.records ≡ false =
      ap (λ last. option_map_or finishes_run last false) may.last ∙ unfinished_step index may.step in
      let room = (kept.go_on refl).room going in
      let two = ap room_kept may.last ∙ room_of_step index may.step in
      omega (arith, room, two)

  module _ (after : Engine) (grows : HasGrown before after (Refused index refusal ∷ [])) (overlay : after.overlay ≡ before.overlay)
      (one : 1 ≤ after.ledger.spare) where
    noted_log : IsWorldLog (world_value after None false)
    noted_log =
        let w = world_value before refused false in
        as_log (left_by_outcome w (record (adds w (Refused index refusal ∷ [])) { refused = None }) w.nodes) (world_value after None false)
        (same_beginning before after (Refused index refusal ∷ [])
        (noted_begun (seen before).beginning before.ledger.records index refusal is_noted) grows)
        grows.log refl refl (note_log w w.nodes index refusal kept.log may refl)

    names : names_of after.ledger.records ≡ names_of before.ledger.records
    names = ap names_of grows.log ∙ refused_names before.ledger.records index refusal

    system : system_of after.ledger.records ≡ system_of before.ledger.records
    system = ap system_of grows.log ∙ noted_system (seen before).beginning before.ledger.records index refusal is_noted

    last_room : room_kept (last_of after.ledger.records) + room_of_roots after.ledger.records after.ledger.added ≡ 1
    last_room =
        let last : last_of after.ledger.records ≡ Some (Refused index refusal) =
        ap last_of grows.log ∙ last_of-push before.ledger.records (Refused index refusal) in
        let kept = ap room_kept last ∙ room_of_refused index refusal in
        let roots = no_roots after.ledger.records after.ledger.added (Refused index refusal) last (refused_begins index refusal) in
        omega (arith, kept, roots)

    -- no refusal is left that isn't noted
    pub noted_kept : AreKept after None false
    noted_kept =
        let goes = kept.go_on refl in
        record {
          log = noted_log;
          named = grown_named before after (Refused index refusal ∷ []) grows
              (unbegun_named before.settings (Refused index refusal ∷ []) (no_step (Refused index refusal) refl)) kept.named;
          settings = ap (λ o. o.settings) overlay ∙ kept.settings ∙ sym grows.settings;
          present = λ name is. ap (λ o. is_some (node_at o name)) overlay ∙ kept.present name (sym (ap (λ l. has_name l name) names) ∙ is);
          go_on = λ runs. record {
            nodes = record {
              nodes_are = λ name.
                  ap (λ o. node_at o name) overlay ∙ goes.nodes.nodes_are name ∙ sym (ap (λ s. option_map running (s.node name)) system);
            };
            ever = λ name. ap (λ l. has_name l name) names ∙ goes.ever name ∙ sym (ap (λ s. is_some (s.node name)) system);
            room = λ unfinished. let few = last_room in omega (arith, few, one);
          };
        }
