-- Where each call leads: the group that it has added, and the nodes then.
-- Cited above: kept_group
use Rattle.std.proofs.Common.{◌≡◌, ◌≢◌, ◌⊎◌, inl, inr, ℕ, ◌<◌, ◌≤◌, Bool, true, false, List, [], ◌∷◌, ◌++◌, slice_get, All, Option, None, Some, Result, Ok, Err, refl, ap, sym, subst, ◌∙◌, arith, append-nil, append_assoc}
use Rattle.std.specs.Prelude.{if◌then◌else◌}
use Rattle.std.specs.Option.{option_zip}
use Rattle.std.proofs.lemmas.List.Elements.{All-cons, All-nil}
use Rattle.tap_name.specs.Settings.{SettingsValue}
use Rattle.tap_scenario.specs.declared.step.Step.{Step}
use Rattle.tap_scenario.specs.Step.{IsStep}
use Rattle.tap_scenario.specs.declared.step.Step.TheVariants.{Walk, Root, Table, Pointers, Garble, Cut}
use Rattle.tap_wire.specs.declared.frame.Frame.{Frame}
use Rattle.tap_log.specs.declared.record.Record.{Record}
use Rattle.tap_log.specs.declared.record.Record.TheVariants.{Spent, Step as StepRecord, Taken}
use Rattle.tap_log.specs.declared.record.Refusal.{Refusal}
use Rattle.tap_log.specs.Counts.{sent_count}
use Rattle.tap_log.specs.Kinds.{step_of}
use Rattle.tap_log.specs.MoreRecords.{at_most_one}
use Rattle.tap_history.specs.Groups.{is_ended}
use Rattle.tap_history.specs.Moments.{has_number, outstanding}
use Rattle.tap_history.specs.Names.{names_of}
use Rattle.tap_history.specs.Refusals.{first_refusal}
use Rattle.tap_history.specs.StepAsks.{actor_of, is_start}
use Rattle.tap_rule.specs.Act.{act}
use Rattle.tap_rule.specs.Event.{Event, Start as Begun}
use Rattle.tap_rule.specs.Event.Event.{Starts, Takes}
use Rattle.tap_rule.specs.Event.Start.{Join as StartJoin, Abandon as StartAbandon, Publish as StartPublish, Withdraw as StartWithdraw, Find as StartFind, Leave as StartLeave, Cast as StartCast}
use Rattle.tap_rule.specs.Node.{NodeState, joiner, settings_of}
use Rattle.tap_node.specs.Node.{running}
use Rattle.tap_safety.specs.Move.{Move}
use Rattle.tap_safety.specs.Move.Move.{Begins, Delivers}
use Rattle.tap_safety.specs.Moved.{moved, numbered_frame, starter}
use Rattle.tap_safety.specs.Exchanges.{with_at}
use Rattle.tap_safety.specs.System.{System}
use Rattle.tap_runs.specs.Acts.{acted_records}
use Rattle.tap_runs.specs.Beginning.{Beginning}
use Rattle.tap_runs.specs.Course.{FollowStep, Follows, IsCourse, MayFollow, is_choice, move_of_group, move_of_start, moved_by, system_of}
use Rattle.tap_runs.specs.Damage.{damage_record}
use Rattle.tap_runs.specs.Group.{accepted_records, received_records, records_of_act, records_unless, start_at, step_records, taken_records}
use Rattle.tap_runs.specs.Observed.{observed}
use Rattle.tap_runs.specs.Starts.{announced, start_of_step}
use Rattle.tap_runs.proofs.Frames.{step_moves, taken_moves}
use Rattle.tap_runs.proofs.CourseGrows.{grown, grown_going, grown_system}
use Rattle.tap_runs.proofs.Nodes.{name_at, no_steps, start_in}
use Rattle.tap_runs.proofs.Within.{IsStarting, Within, step_kind, step_within, taken_within}
use Rattle.tap_overlay.specs.Law.{HasNodesOf}
use Rattle.tap_overlay.specs.Overlay.{ChangesOnly, OverlayValue}
use Rattle.tap_overlay.proofs.Systems.{same_changes}
use Rattle.tap_engine.specs.KeptEngine.{AreKept, AreReady, LeadsTo}
use Rattle.tap_runs.specs.Named.{HasNames, HaveNames}
use Rattle.tap_engine.specs.Kinds.{damages, is_finished, last_index, observes}
use Rattle.tap_engine.specs.Growth.{left_by_outcome}
use Rattle.tap_engine.specs.Outcome.{IsNextIndex, WorldOutcome, adds, adds_within, is_within, spends, takes_number, unless_refused}
use Rattle.tap_runs.specs.Groups.{step_group, taken_group}
use Rattle.tap_engine.specs.SeenTurns.{turn_records}
use Rattle.tap_engine.specs.Working.{HasActed, HasBegunAt, HasHeeded, HasTakenAt, LogsAs, StillHas}
use Rattle.tap_engine.specs.World.{WorldValue}
use Rattle.tap_engine.specs.WorldLog.{IsWorldLog}
use Rattle.tap_engine.specs.declared.engine.Acted.{Acted}
use Rattle.tap_engine.specs.declared.engine.Engine.{Engine}
use Rattle.tap_engine.specs.declared.stop.Stop.{Stop}
use Rattle.tap_engine.specs.declared.stop.Stop.TheVariants.{NoMemory, Refused}
use Rattle.tap_engine.proofs.StandingAlone.{spent_names, step_names}
use Rattle.tap_engine.proofs.Keeping.{HasGrown, as_log, begun, course_goes_on, done, grown_log, grown_named, kept_same, kept_short, kept_stopped, on, room_three, same_beginning, seen, there}
use Rattle.tap_engine.proofs.Indices.{indices_stay}
use Rattle.tap_runs.proofs.StepNames.{step_has_names}
use Rattle.tap_engine.proofs.NamedSteps.{nothing_named, spent_named, step_named, unbegun_named}
use Rattle.tap_engine.proofs.AddedGroups.{at_none, follows_within, no_choice, number_there, quiet_within, step_may, taken_may}
use Rattle.tap_engine.proofs.Taking.{sound}
use Rattle.tap_engine.proofs.TurnRecords.{turns_are_told}
use Rattle.tap_engine.proofs.WorldLogs.{adds_log, over_log, takes_over, within_log}

-- ---- a whole group

-- an engine that has added a whole group keeps what a world keeps
pub kept_group : (before after : Engine) (first : Record) (items : List Record) → (ready : AreReady before)
    → HasGrown before after (first ∷ items) → (follows : Follows (seen before).beginning before.ledger.records (first ∷ items))
    → HasNodesOf (moved_by before.settings (system_of before.ledger.records) (move_of_group before.ledger.records (first ∷ items))) after.overlay
    → after.overlay.settings ≡ before.overlay.settings
    → 3 ≤ after.ledger.spare → HaveNames before.settings (first ∷ items)
    → IsWorldLog (left_by_outcome (seen before) (adds (seen before) (first ∷ items)) (seen before).nodes) → AreKept after None false
kept_group before after first items ready grows follows nodes settings three named log =
    let b = (seen before).beginning in
    let goes = on before ready in
    let was = before.ledger.records in
    let course = subst (IsCourse b) (sym grows.log) (grown b was (first ∷ items) goes.course goes.going follows) in
    let going = ap is_ended grows.log ∙ grown_going b was (first ∷ items) goes.course goes.going follows in
    let system : system_of after.ledger.records ≡ moved_by before.settings (system_of was) (move_of_group was (first ∷ items)) =
    ap system_of grows.log ∙ grown_system b was (first ∷ items) goes.course goes.going follows in
    let go_on = course_goes_on after b course going (subst (λ s. HasNodesOf s after.overlay) (sym system) nodes) three in
    record {
      log = grown_log before after (first ∷ items) None false ready grows log;
      named = grown_named before after (first ∷ items) grows named ready.kept.named;
      settings = settings ∙ ready.kept.settings ∙ sym grows.settings;
      present = there after.ledger.records after.overlay go_on.ever go_on.nodes;
      go_on = λ runs. go_on;
    }

-- ---- an engine with more room

-- an engine whose log has more room is ready as it was
pub still_ready : (before after : Engine) → AreReady before → after.settings ≡ before.settings → after.frames ≡ before.frames
    → after.ledger.records ≡ before.ledger.records → after.overlay ≡ before.overlay
    → 3 ≤ after.ledger.spare → AreReady after
still_ready before after ready settings frames log overlay three =
    let same = append-nil before.ledger.records in
    let grows : HasGrown before after [] = record { settings = settings; frames = frames; log = log ∙ sym same } in
    record {
      kept = kept_same before after [] None ready grows (record { names = ap names_of same; system = ap system_of same })
          (nothing_named before.settings) overlay (λ unfinished. let few = room_three after.ledger.records after.ledger.added in omega (arith, few, three))
          (as_log (seen before) (seen after) (same_beginning before after [] (begun before ready) grows) log refl refl ready.kept.log);
      unfinished = ap is_finished log ∙ ready.unfinished;
    }

-- ---- an observation, or a damaged copy

quiet_moves : (p : SettingsValue) (s : System) (log : List Record) (index : ℕ) (step : Step) (items : List Record) → actor_of step ≡ None
    → first_refusal log step ≡ None → moved_by p s (move_of_group log (StepRecord index step ∷ items)) ≡ s
quiet_moves p s log index step items none accepted =
    ap (moved_by p s) (step_moves log index step items ∙ ap (λ r. move_of_start r (start_at log step)) accepted
    ∙ ap (λ actor. move_of_start None (option_zip actor (start_of_step log step))) none)

within_items : (b : Beginning) (log : List Record) (index : ℕ) (step : Step) → is_choice step ≡ false
    → All Within (step_records b.settings log (system_of log) index step)
within_items b log index step unchosen =
    let items = step_records b.settings log (system_of log) index step in
    step_within b.settings log (system_of log) index step items
    (subst (λ c. FollowStep c b.settings log (system_of log) index step items) (sym unchosen) refl)

module _ (before after : Engine) (index : ℕ) (step : Step) (ready : AreReady before) (next : IsNextIndex (seen before) index)
    (kind : (observes step ≡ true) ⊎ (damages step ≡ true)) (accepted : first_refusal before.ledger.records step ≡ None)
    (grows : HasGrown before after (step_group before.settings before.ledger.records index step))
    (overlay : after.overlay ≡ before.overlay) (three : 3 ≤ after.ledger.spare)
    (named : HasNames before.settings step) where
  abbrev log : List Record
  log = before.ledger.records

  abbrev items : List Record
  items = step_records before.settings log (system_of log) index step

  quiet_follows : Follows (seen before).beginning log (StepRecord index step ∷ items)
  quiet_follows =
      let goes = on before ready in
      follows_within (seen before).beginning log (StepRecord index step ∷ items)
      (step_may (seen before).beginning log index step (no_choice step (inr kind)))
      (quiet_within (seen before).beginning log goes.course goes.going index step kind)

  quiet_kept : AreKept after None false
  quiet_kept =
      let goes = on before ready in
      let unchosen = no_choice step (inr kind) in
      let stays = quiet_moves before.settings (system_of log) log index step items (at_none step kind) accepted in
      kept_group before after (StepRecord index step) items ready grows quiet_follows
      (subst (λ s. HasNodesOf s after.overlay) (sym stays) (subst (HasNodesOf (system_of log)) (sym overlay) (ready.kept.go_on refl).nodes))
      (ap (λ o. o.settings) overlay) three
      (step_named before.settings index step items named
      (no_steps items (within_items (seen before).beginning log index step unchosen)))
      (within_log (seen before) (seen before).nodes goes index step next unchosen
      (quiet_within (seen before).beginning log goes.course goes.going index step kind))

  pub quiet_leads : LeadsTo (unless_refused (seen before) index step (first_refusal log step)) before (Ok tt) after
  quiet_leads =
      let goes = on before ready in
      let w = seen before in
      let group = step_group w.beginning.settings log index step in
      let is : unless_refused w index step (first_refusal log step) ≡ adds w group =
      ap (unless_refused w index step) accepted
      ∙ ap (λ within. if within then adds w group else spends w (StepRecord index step ∷ []))
      (quiet_within w.beginning log goes.course goes.going index step kind) in
      subst (λ o. LeadsTo o before (Ok tt) after) (sym is)
      (done (adds w group) before (Ok tt) after (λ never. cc) refl grows.log quiet_kept (λ _ _. overlay) grows.settings grows.frames)

-- what an observation and a damaged copy add
pub sees_group : (b : Beginning) (log : List Record) (index : ℕ) (step : Step) → observes step ≡ true → first_refusal log step ≡ None
    → StepRecord index step ∷ at_most_one (observed b.settings log (system_of log) step) ≡ step_group b.settings log index step
unfolding observes accepted_records
sees_group b log index (Walk object asker) is accepted =
    ap (λ l. StepRecord index (Walk object asker) ∷ l)
    (sym (ap (records_unless b.settings log (system_of log) index (Walk object asker)) accepted))
sees_group b log index (Root object) is accepted =
    ap (λ l. StepRecord index (Root object) ∷ l) (sym (ap (records_unless b.settings log (system_of log) index (Root object)) accepted))
sees_group b log index (Table name) is accepted =
    ap (λ l. StepRecord index (Table name) ∷ l) (sym (ap (records_unless b.settings log (system_of log) index (Table name)) accepted))
sees_group b log index (Pointers name) is accepted =
    ap (λ l. StepRecord index (Pointers name) ∷ l) (sym (ap (records_unless b.settings log (system_of log) index (Pointers name)) accepted))
sees_group b log index step is accepted = absurd (cc)

pub copies_group : (b : Beginning) (log : List Record) (index : ℕ) (step : Step) → damages step ≡ true → first_refusal log step ≡ None
    → StepRecord index step ∷ at_most_one (damage_record b.settings log step) ≡ step_group b.settings log index step
unfolding damages accepted_records
copies_group b log index (Garble place at byte) is accepted =
    ap (λ l. StepRecord index (Garble place at byte) ∷ l)
    (sym (ap (records_unless b.settings log (system_of log) index (Garble place at byte)) accepted))
copies_group b log index (Cut place bytes) is accepted =
    ap (λ l. StepRecord index (Cut place bytes) ∷ l) (sym (ap (records_unless b.settings log (system_of log) index (Cut place bytes)) accepted))
copies_group b log index step is accepted = absurd (cc)

-- ---- what the node of a name has done

-- the nodes are those of the system after the move, if in both this node has done so
pub nodes_after : (s s' : System) (before after : OverlayValue) (name : List ℕ) (state : NodeState) → HasNodesOf s before
    → ((other : List ℕ) → s'.node other ≡ with_at s.node name (Some state) other) → ChangesOnly before.nodes after.nodes name (running state)
    → HasNodesOf s' after
nodes_after s s' before after name state has same changes = same_changes s s' before after name state has changes same

-- its turn is told as the rule has it
pub told : (before after : OverlayValue) (name : List ℕ) (node : NodeState) (event : Event) (acted : Acted) (p : SettingsValue) (number : ℕ)
    → HasActed before after name node event acted → settings_of node ≡ p
    → turn_records number acted.name acted.turn ≡ acted_records p number name (act node event)
told before after name node event acted p number has settings =
    ap (λ n. turn_records number n acted.turn) has.name_is ∙ ap (turn_records number name) has.turn_is
    ∙ turns_are_told node (act node event) number name ∙ ap (λ q. acted_records q number name (act node event)) settings

-- a group is added, or it would send too many frames: that is no refusal
never_refused : (w : WorldValue) (first all : List Record) (given : Result (Unit {0}) Stop) (refusal : Refusal)
    → (given ≢ Err NoMemory → given ≡ (adds_within w first all).answer) → given ≡ Err (Refused refusal) → ⊥
never_refused w first all given refusal answer is =
    by_within (is_within w.beginning w.log all) (answer (λ none. let both = sym is ∙ none in cc))
  where
    by_within : (within : Bool) → given ≡ (if within then adds w all else spends w first).answer → ⊥
    by_within true at = let both = sym is ∙ at in cc
    by_within false at = let both = sym is ∙ at in cc

-- an engine that begins so leads where the other leads
pub lead_from : (of : SettingsValue → ℕ → List Record → WorldOutcome) (before now after : Engine) (given : Result (Unit {0}) Stop)
    → now.settings ≡ before.settings → now.frames ≡ before.frames → now.ledger.records ≡ before.ledger.records → now.overlay ≡ before.overlay
    → LeadsTo (of now.settings now.frames now.ledger.records) now given after
    → LeadsTo (of before.settings before.frames before.ledger.records) before given after
lead_from of before now after given settings frames log overlay leads =
    let is : of now.settings now.frames now.ledger.records ≡ of before.settings before.frames before.ledger.records =
    ap (λ p. of p now.frames now.ledger.records) settings ∙ ap (λ f. of before.settings f now.ledger.records) frames
    ∙ ap (of before.settings before.frames) log in
    let same = subst (λ o. LeadsTo o now given after) is leads in
    record {
      answer = same.answer;
      log = same.log;
      kept = same.kept;
      same = λ none. same.same none ∙ log;
      short = same.short;
      nodes = λ refusal is. same.nodes refusal is ∙ overlay;
      settings = same.settings ∙ settings;
      frames = same.frames ∙ frames;
    }

-- ---- a start

-- the group, or its first records and `Spent`
abbrev either : WorldValue → List Record → List Record → Bool → WorldOutcome
either w first all within = if within then adds w all else spends w first

-- a step alone and `Spent` add no name
step_spent_names : (log : List Record) (index : ℕ) (step : Step) (limit : ℕ)
    → names_of (log ++ StepRecord index step ∷ Spent limit ∷ []) ≡ names_of log
step_spent_names log index step limit =
    ap names_of (sym (append_assoc log (StepRecord index step ∷ []) (Spent limit ∷ [])))
    ∙ spent_names (log ++ StepRecord index step ∷ []) limit ∙ step_names log index step

no_spent_step : (limit : ℕ) → All (λ item. step_of item ≡ None) (Spent limit ∷ [])
no_spent_step limit = All-cons (λ item. step_of item ≡ None) (Spent limit) [] refl (All-nil (λ item. step_of item ≡ None))

module _ (m : Engine) (ready : AreReady m) (index : ℕ) (step : Step) (next : IsNextIndex (seen m) index) (starts : is_start step ≡ true)
    (accepted : first_refusal m.ledger.records step ≡ None) (names : IsStep m.settings false step) where
  abbrev was : List Record
  was = m.ledger.records

  abbrev s : System
  s = system_of was

  abbrev p : SettingsValue
  p = m.settings

  abbrev b : Beginning
  b = (seen m).beginning

  abbrev start_items : List Record
  start_items = step_records p was s index step

  abbrev group : List Record
  group = StepRecord index step ∷ start_items

  unchosen : is_choice step ≡ false
  unchosen = no_choice step (inl starts)

  module _ (name : List ℕ) (start : Begun) (node : NodeState) (at : start_at was step ≡ Some (name, start))
      (begins : starter p s name start ≡ Some node) where
    node_settings : (begun_start : Begun) → starter p s name begun_start ≡ Some node → settings_of node ≡ p
    node_settings (StartJoin via) is = let same : joiner p name ≡ node = cc in ap settings_of (sym same)
    node_settings StartAbandon is = ((sound m ready).nodes name node is).settings_are
    node_settings (StartPublish object) is = ((sound m ready).nodes name node is).settings_are
    node_settings (StartWithdraw object) is = ((sound m ready).nodes name node is).settings_are
    node_settings (StartFind ticket object) is = ((sound m ready).nodes name node is).settings_are
    node_settings StartLeave is = ((sound m ready).nodes name node is).settings_are
    node_settings (StartCast cast level word) is = ((sound m ready).nodes name node is).settings_are

    start_moves : move_of_group was group ≡ Some (Begins name start)
    start_moves =
        step_moves was index step start_items ∙ ap (λ r. move_of_start r (start_at was step)) accepted ∙ ap (move_of_start None) at

    of_starting : IsStarting p was s step start_items
        → start_items ≡ announced was step ++ acted_records p (sent_count was) name (act node (Starts start))
    of_starting starting =
        let pair : ◌≡◌ {A = Option (List ℕ × Begun)} (Some (starting.name, starting.start)) (Some (name, start)) = sym starting.at ∙ at in
        starting.are
        ∙ ap (λ x. announced was step ++ records_of_act p was x (starter p s x starting.start) (Starts starting.start)) (ap name_at pair)
        ∙ ap (λ t. announced was step ++ records_of_act p was name (starter p s name t) (Starts t)) (ap (start_in start) pair)
        ∙ ap (λ n. announced was step ++ records_of_act p was name n (Starts start)) begins

    items_are : start_items ≡ announced was step ++ acted_records p (sent_count was) name (act node (Starts start))
    items_are =
        elim (step_kind p was s index step start_items
        (subst (λ c. FollowStep c p was s index step start_items) (sym unchosen) refl)) [
          | inl idle ↦
              let wrong : ◌≡◌ {A = Option Move} None (Some (Begins name start)) =
              sym idle.still ∙ ap (λ r. move_of_start r (start_at was step)) accepted ∙ ap (move_of_start None) at in
              absurd (cc)
          | inr starting ↦ of_starting starting
        ]

    start_node : (other : List ℕ) → (moved p s (Begins name start)).node other ≡ with_at s.node name (Some (act node (Starts start)).state) other
    unfolding moved
    start_node other = rw begins refl

  -- what was made of the group and of the nodes
  module _ (o : OverlayValue) (acted : Acted) (has : HasBegunAt m (record m { overlay = o }) step acted) (still : StillHas m.overlay o) where
    started_group : StepRecord index step ∷ (announced was step ++ turn_records (sent_count was) acted.name acted.turn) ≡ group
    started_group =
        ap (λ l. StepRecord index step ∷ (announced was step ++ l))
        (told m.overlay o has.name has.node (Starts has.start) acted p (sent_count was) has.acts
        (node_settings has.name has.start has.node has.at has.was has.start has.was))
        ∙ ap (λ l. StepRecord index step ∷ l) (sym (items_are has.name has.start has.node has.at has.was))

    started_nodes : HasNodesOf (moved_by p s (move_of_group was group)) o
    started_nodes =
        subst (λ move. HasNodesOf (moved_by p s move) o) (sym (start_moves has.name has.start has.node has.at has.was))
        (same_changes s (moved p s (Begins has.name has.start)) m.overlay o has.name (act has.node (Starts has.start)).state
        (ready.kept.go_on refl).nodes has.acts.changes (start_node has.name has.start has.node has.at has.was))

    module _ (after : Engine) (settings : after.settings ≡ m.settings) (frames : after.frames ≡ m.frames) (overlay : after.overlay ≡ o) where
      started_still : StillHas m.overlay after.overlay
      started_still = subst (StillHas m.overlay) (sym overlay) still

      started_kept : after.ledger.records ≡ was ++ group → is_within b was group ≡ true → 3 ≤ after.ledger.spare → AreKept after None false
      started_kept log within three =
          let goes = on m ready in
          kept_group m after (StepRecord index step) start_items ready (record { settings = settings; frames = frames; log = log })
          (follows_within b was group (step_may b was index step unchosen) within)
          (subst (HasNodesOf (moved_by p s (move_of_group was group))) (sym overlay) started_nodes)
          (ap (λ x. x.settings) overlay ∙ still.settings) three
          (step_named p index step start_items (step_has_names m.settings step names) (no_steps start_items (within_items b was index step unchosen)))
          (within_log (seen m) (seen m).nodes goes index step next unchosen within)

      started_spent : after.ledger.records ≡ was ++ StepRecord index step ∷ Spent m.frames ∷ [] → is_within b was group ≡ false
          → AreKept after None true
      started_spent log over =
          let goes = on m ready in
          let more = StepRecord index step ∷ Spent m.frames ∷ [] in
          let grows : HasGrown m after more = record { settings = settings; frames = frames; log = log } in
          kept_stopped m after more ready grows (step_spent_names was index step m.frames)
          started_still (step_named p index step (Spent m.frames ∷ []) (step_has_names m.settings step names) (no_spent_step m.frames))
          (grown_log m after more None true ready grows
          (over_log (seen m) (seen m).nodes goes index step next starts accepted over))

      started_leads : (given : Result (Unit {0}) Stop)
          → LogsAs (adds_within (seen m) (StepRecord index step ∷ []) group) (record m { overlay = o }) given after
          → LeadsTo (unless_refused (seen m) index step (first_refusal was step)) m given after
      started_leads given logs =
          let outcome = adds_within (seen m) (StepRecord index step ∷ []) group in
          let is : unless_refused (seen m) index step (first_refusal was step) ≡ outcome = ap (unless_refused (seen m) index step) accepted in
          subst (λ x. LeadsTo x m given after) (sym is) (record {
            answer = logs.answer;
            log = logs.log;
            kept = λ other. by_within other (is_within b was group) refl (logs.answer other) (logs.log other);
            same = logs.short;
            short = λ none. kept_short m after ready settings frames (logs.short none) started_still;
            nodes = λ refusal is. absurd (never_refused (seen m) (StepRecord index step ∷ []) group given refusal logs.answer is);
            settings = settings;
            frames = frames;
          })
        where
          by_within : given ≢ Err NoMemory → (within : Bool) → is_within b was group ≡ within
              → given ≡ (either (seen m) (StepRecord index step ∷ []) group (is_within b was group)).answer → after.ledger.records ≡ (either (seen m) (StepRecord index step ∷ []) group (is_within b was group)).log
              → AreKept after (either (seen m) (StepRecord index step ∷ []) group (is_within b was group)).refused (either (seen m) (StepRecord index step ∷ []) group (is_within b was group)).stopped
          by_within other true at answer log =
              let ok : given ≡ Ok tt = answer ∙ ap (λ w. (either (seen m) (StepRecord index step ∷ []) group w).answer) at in
              subst (λ w. AreKept after (either (seen m) (StepRecord index step ∷ []) group w).refused (either (seen m) (StepRecord index step ∷ []) group w).stopped) (sym at)
              (started_kept (log ∙ ap (λ w. (either (seen m) (StepRecord index step ∷ []) group w).log) at) at (logs.room ok))
          by_within other false at answer log =
              subst (λ w. AreKept after (either (seen m) (StepRecord index step ∷ []) group w).refused (either (seen m) (StepRecord index step ∷ []) group w).stopped) (sym at)
              (started_spent (log ∙ ap (λ w. (either (seen m) (StepRecord index step ∷ []) group w).log) at) at)

-- the start leads so, from this engine on
abbrev StartLeads : Engine → Engine → ℕ → Step → Acted → List Record → Result (Unit {0}) Stop → Engine → Type 0
StartLeads m after index step acted first given x = HasBegunAt m x step acted → StillHas m.overlay x.overlay
    → LogsAs (adds_within (seen x) (StepRecord index step ∷ []) (first ++ turn_records (sent_count x.ledger.records) acted.name acted.turn))
    x given after
    → LeadsTo (unless_refused (seen m) index step (first_refusal m.ledger.records step)) m given after

-- an accepted start, whose node has started it
pub start_leads : (m n after : Engine) (ready : AreReady m) (index : ℕ) (step : Step) (next : IsNextIndex (seen m) index)
    (starts : is_start step ≡ true) (accepted : first_refusal m.ledger.records step ≡ None) (names : IsStep m.settings false step)
    (acted : Acted) (first : List Record) (given : Result (Unit {0}) Stop) → n ≡ record m { overlay = n.overlay } → HasBegunAt m n step acted → StillHas m.overlay n.overlay
    → first ≡ StepRecord index step ∷ announced m.ledger.records step
    → LogsAs (adds_within (seen n) (StepRecord index step ∷ []) (first ++ turn_records (sent_count n.ledger.records) acted.name acted.turn))
    n given after
    → LeadsTo (unless_refused (seen m) index step (first_refusal m.ledger.records step)) m given after
start_leads m n after ready index step next starts accepted names acted first given same has still first_is logs =
    subst (StartLeads m after index step acted first given) (sym same) from_record has still logs
  where
    from_record : StartLeads m after index step acted first given (record m { overlay = n.overlay })
    from_record has still logs =
        let o = n.overlay in
        let all : first ++ turn_records (sent_count m.ledger.records) acted.name acted.turn ≡ group m ready index step next starts accepted names =
        ap (λ l. l ++ turn_records (sent_count m.ledger.records) acted.name acted.turn) first_is
        ∙ started_group m ready index step next starts accepted names o acted has still in
        started_leads m ready index step next starts accepted names o acted has still after (ap (λ q. q.settings) logs.same)
        (ap (λ q. q.frames) logs.same) (ap (λ q. q.overlay) logs.same) given
        (subst (λ g. LogsAs (adds_within (seen m) (StepRecord index step ∷ []) g) (record m { overlay = o }) given after) all logs)

-- ---- a frame that is taken

-- an outstanding frame
module _ (m : Engine) (ready : AreReady m) (number : ℕ) (waits : has_number (outstanding m.ledger.records) number ≡ true) (frame : Frame)
    (is : numbered_frame number (system_of m.ledger.records).frames ≡ Some frame) where
  abbrev taken_was : List Record
  taken_was = m.ledger.records

  abbrev taken_s : System
  taken_s = system_of taken_was

  abbrev taken_b : Beginning
  taken_b = (seen m).beginning

  abbrev taking : List Record
  taking = taken_group taken_b.settings taken_was number

  taking_within : All Within (taken_records m.settings taken_was taken_s number)
  taking_within = taken_within m.settings taken_was taken_s number (taken_records m.settings taken_was taken_s number)
      (record { waits = waits; are = refl })

  taking_moves : move_of_group taken_was taking ≡ Some (Delivers number)
  taking_moves = taken_moves taken_was number (taken_records m.settings taken_was taken_s number)

  -- an engine that has added the group
  taking_kept : (after : Engine) → HasGrown m after taking → HasNodesOf (moved m.settings taken_s (Delivers number)) after.overlay
      → after.overlay.settings ≡ m.overlay.settings
      → is_within taken_b taken_was taking ≡ true → 3 ≤ after.ledger.spare → AreKept after None false
  taking_kept after grows nodes settings within three =
      let goes = on m ready in
      let items = taken_records m.settings taken_was taken_s number in
      let follows = follows_within taken_b taken_was taking (taken_may taken_b taken_was number waits) within in
      kept_group m after (Taken number) items ready grows follows
      (subst (λ move. HasNodesOf (moved_by m.settings taken_s move) after.overlay) (sym taking_moves) nodes) settings
      three
      (unbegun_named m.settings taking (All-cons (λ item. step_of item ≡ None) (Taken number) items refl (no_steps items taking_within)))
      (adds_log (seen m) (seen m).nodes goes taking follows
      (indices_stay taken_was taking (All-cons (λ item. step_of item ≡ None) (Taken number) items refl (no_steps items taking_within)) goes.indices))

  -- or would have sent too many frames
  taking_spent : (after : Engine) → HasGrown m after (Spent m.frames ∷ []) → StillHas m.overlay after.overlay
      → is_within taken_b taken_was taking ≡ false → AreKept after None true
  taking_spent after grows still over =
      kept_stopped m after (Spent m.frames ∷ []) ready grows (spent_names taken_was m.frames) still
      (spent_named m.settings m.frames)
      (grown_log m after (Spent m.frames ∷ []) None true ready grows
      (takes_over (seen m) (seen m).nodes (on m ready) number waits over))

  -- the receiver has heeded it
  module _ (o : OverlayValue) (acted : Acted) (has : HasHeeded m (record m { overlay = o }) frame acted) where
    heeded_items : taken_records m.settings taken_was taken_s number
        ≡ acted_records m.settings (sent_count taken_was) frame.to (act has.node (Takes frame))
    heeded_items =
        ap (received_records m.settings taken_was taken_s) is
        ∙ ap (λ n. records_of_act m.settings taken_was frame.to n (Takes frame)) has.was

    pub heeded_group : Taken number ∷ turn_records (sent_count taken_was) acted.name acted.turn ≡ taking
    heeded_group =
        ap (λ l. Taken number ∷ l)
        (told m.overlay o frame.to has.node (Takes frame) acted m.settings (sent_count taken_was) has.acts
        ((sound m ready).nodes frame.to has.node has.was).settings_are ∙ sym heeded_items)

    heeded_node : (other : List ℕ)
        → (moved m.settings taken_s (Delivers number)).node other ≡ with_at taken_s.node frame.to (Some (act has.node (Takes frame)).state) other
    unfolding moved
    heeded_node other = rw (is, has.was) refl

    heeded_nodes : HasNodesOf (moved m.settings taken_s (Delivers number)) o
    heeded_nodes =
        same_changes taken_s (moved m.settings taken_s (Delivers number)) m.overlay o frame.to (act has.node (Takes frame)).state
        (ready.kept.go_on refl).nodes has.acts.changes heeded_node

    module _ (after : Engine) (settings : after.settings ≡ m.settings) (frames : after.frames ≡ m.frames) (overlay : after.overlay ≡ o)
        (still : StillHas m.overlay o) where
      pub heeded_leads : (given : Result (Unit {0}) Stop) → LogsAs (adds_within (seen m) [] taking) (record m { overlay = o }) given after
          → LeadsTo (adds_within (seen m) [] taking) m given after
      heeded_leads given logs = record {
        answer = logs.answer;
        log = logs.log;
        kept = λ other. by_within (is_within taken_b taken_was taking) refl (logs.answer other) (logs.log other);
        same = logs.short;
        short = λ none. kept_short m after ready settings frames (logs.short none) (subst (StillHas m.overlay) (sym overlay) still);
        nodes = λ refusal is. absurd (never_refused (seen m) [] taking given refusal logs.answer is);
        settings = settings;
        frames = frames;
      }
        where
          by_within : (within : Bool) → is_within taken_b taken_was taking ≡ within
              → given ≡ (either (seen m) [] taking (is_within taken_b taken_was taking)).answer
              → after.ledger.records ≡ (either (seen m) [] taking (is_within taken_b taken_was taking)).log
              → AreKept after (either (seen m) [] taking (is_within taken_b taken_was taking)).refused (either (seen m) [] taking (is_within taken_b taken_was taking)).stopped
          by_within true at answer log =
              let ok : given ≡ Ok tt = answer ∙ ap (λ w. (either (seen m) [] taking w).answer) at in
              subst (λ w. AreKept after (either (seen m) [] taking w).refused (either (seen m) [] taking w).stopped) (sym at)
              (taking_kept after (record { settings = settings; frames = frames; log = log ∙ ap (λ w. (either (seen m) [] taking w).log) at })
              (subst (HasNodesOf (moved m.settings taken_s (Delivers number))) (sym overlay) heeded_nodes)
              (ap (λ x. x.settings) overlay ∙ still.settings) at (logs.room ok))
          by_within false at answer log =
              subst (λ w. AreKept after (either (seen m) [] taking w).refused (either (seen m) [] taking w).stopped) (sym at)
              (taking_spent after (record { settings = settings; frames = frames; log = log ∙ ap (λ w. (either (seen m) [] taking w).log) at })
              (subst (StillHas m.overlay) (sym overlay) still) at)

-- ---- a delivery

-- the frame at a place, by its number
numbered_so : (m n : Engine) (place number : ℕ) (acted : Acted) (t : HasTakenAt m n place acted)
    → slice_get (outstanding m.ledger.records) place ≡ Some number
    → numbered_frame number (system_of m.ledger.records).frames ≡ Some t.frame
numbered_so m n place number acted t at =
    let both : Some t.number ≡ Some number = sym t.at ∙ at in
    let same : t.number ≡ number = cc in
    ap (λ k. numbered_frame k (system_of m.ledger.records).frames) (sym same) ∙ t.is

module _ (m n : Engine) (ready : AreReady m) (place number : ℕ) (at : slice_get (outstanding m.ledger.records) place ≡ Some number)
    (same : n ≡ record m { overlay = n.overlay }) (acted : Acted) (t : HasTakenAt m n place acted) where
  delivered_waits : has_number (outstanding m.ledger.records) number ≡ true
  delivered_waits = number_there (outstanding m.ledger.records) place number at

  heeded_so : HasHeeded m (record m { overlay = n.overlay }) t.frame acted
  heeded_so = record { node = t.heeded.node; was = t.heeded.was; fits = t.heeded.fits; acts = t.heeded.acts }

  delivered_group : Taken number ∷ turn_records (sent_count m.ledger.records) acted.name acted.turn
      ≡ taken_group m.settings m.ledger.records number
  delivered_group =
      heeded_group m ready number delivered_waits t.frame (numbered_so m n place number acted t at) n.overlay acted heeded_so

  pub delivered_may : MayFollow m.settings m.ledger.records (system_of m.ledger.records)
      (Taken number ∷ turn_records (sent_count m.ledger.records) acted.name acted.turn)
  delivered_may =
      subst (MayFollow m.settings m.ledger.records (system_of m.ledger.records)) (sym delivered_group)
      (taken_may (seen m).beginning m.ledger.records number delivered_waits)

  pub taken_leads : (after : Engine) (given : Result (Unit {0}) Stop) → StillHas m.overlay n.overlay
      → LogsAs (adds_within (seen n) [] (Taken number ∷ turn_records (sent_count n.ledger.records) acted.name acted.turn)) n given after
      → LeadsTo (takes_number (seen m) (slice_get (outstanding m.ledger.records) place)) m given after
  taken_leads after given still logs =
      let by_record : LogsAs (adds_within (seen m) [] (Taken number ∷ turn_records (sent_count m.ledger.records) acted.name acted.turn))
      (record m { overlay = n.overlay }) given after =
      subst (λ x. LogsAs (adds_within (seen x) [] (Taken number ∷ turn_records (sent_count x.ledger.records) acted.name acted.turn)) x given after)
      same logs in
      let by_group = subst (λ g. LogsAs (adds_within (seen m) [] g) (record m { overlay = n.overlay }) given after) delivered_group by_record in
      subst (λ x. LeadsTo (takes_number (seen m) x) m given after) (sym at)
      (heeded_leads m ready number delivered_waits t.frame (numbered_so m n place number acted t at) n.overlay acted heeded_so after
      (ap (λ q. q.settings) by_group.same) (ap (λ q. q.frames) by_group.same) (ap (λ q. q.overlay) by_group.same) still given by_group)

-- ---- a start, from the room that it has made

-- an engine that has only made room is ready
pub reserved_ready : (m n : Engine) → AreReady m → n ≡ record m { ledger = n.ledger } → n.ledger.records ≡ m.ledger.records
    → 4 ≤ n.ledger.spare → AreReady n
reserved_ready m n ready same log four =
    still_ready m n ready (ap (λ (q : Engine). q.settings) same) (ap (λ (q : Engine). q.frames) same) log (ap (λ (q : Engine). q.overlay) same) (omega (arith, four))

pub next_still : (m n : Engine) (index : ℕ) → n.ledger.records ≡ m.ledger.records → IsNextIndex (seen m) index → IsNextIndex (seen n) index
next_still m n index log next = record {
  above = subst (λ l. last_index l < index) (sym log) next.above;
  most = next.most;
}

-- the group of a start may follow
pub start_may : (m n : Engine) (ready : AreReady m) (index : ℕ) (step : Step) (next : IsNextIndex (seen m) index)
    (starts : is_start step ≡ true) (accepted : first_refusal m.ledger.records step ≡ None) (names : IsStep m.settings false step)
    (acted : Acted) (first : List Record) → HasBegunAt m n step acted → StillHas m.overlay n.overlay → first ≡ StepRecord index step ∷ announced m.ledger.records step
    → MayFollow m.settings m.ledger.records (system_of m.ledger.records)
    (first ++ turn_records (sent_count m.ledger.records) acted.name acted.turn)
start_may m n ready index step next starts accepted names acted first has still first_is =
    let has_so : HasBegunAt m (record m { overlay = n.overlay }) step acted =
    record { name = has.name; start = has.start; node = has.node; at = has.at; was = has.was; acts = has.acts } in
    let all = ap (λ l. l ++ turn_records (sent_count m.ledger.records) acted.name acted.turn) first_is
    ∙ started_group m ready index step next starts accepted names n.overlay acted has_so still in
    subst (MayFollow m.settings m.ledger.records (system_of m.ledger.records)) (sym all)
    (step_may (seen m).beginning m.ledger.records index step (no_choice step (inl starts)))
