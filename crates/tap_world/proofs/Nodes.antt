-- The nodes of a world that goes on are those of the system that its log has come to; and of one that has just begun.
use Rattle.std.proofs.Common.{◌≡◌, inl, inr, ℕ, ◌≤◌, Bool, true, false, List, [], ◌∷◌, ◌++◌, length, length-append, append-nil, Option, None, Some, Bor, IfSome, is_some, refl, ap, sym, subst, ◌∙◌, arith}
use Rattle.std.specs.Prelude.{if◌then◌else◌}
use Rattle.std.specs.Option.{option_copied, option_map}
use Rattle.std.proofs.lemmas.List.Elements.{All-nil, filter_map-append}
use Rattle.tap_name.specs.Names.{has_name}
use Rattle.tap_name.specs.Settings.{SettingsValue}
use Rattle.tap_log.specs.declared.record.Record.{Record}
use Rattle.tap_log.specs.declared.record.Record.TheVariants.{Finished, Step as StepRecord}
use Rattle.tap_log.specs.declared.record.Refusal.{Refusal}
use Rattle.tap_log.specs.Kinds.{step_of}
use Rattle.tap_log.specs.Log.{begun_steps, last_of}
use Rattle.tap_history.specs.Core.{members_of}
use Rattle.tap_history.specs.Groups.{ends_log, is_ended}
use Rattle.tap_history.specs.Names.{names_of}
use Rattle.tap_rule.specs.Node.{NodeState}
use Rattle.tap_node.specs.Node.{NodeValue, has_room_left, running}
use Rattle.tap_node_common.specs.SoundNode.{has_numbers_left}
use Rattle.tap_safety.specs.AtRest.{system_at_rest}
use Rattle.tap_runs.specs.Beginning.{Beginning, IsWithinLimits, begin_record}
use Rattle.tap_runs.specs.Course.{IsCourse, system_of}
use Rattle.tap_runs.proofs.Departing.{course_nodes_holds}
use Rattle.tap_runs.proofs.CourseGrows.{start_course, start_system}
use Rattle.tap_readable.specs.Range.{HasNumbersLeft, IsInRange, steps_with_room}
use Rattle.tap_readable.proofs.RangeCourses.{numbers_in_range_holds}
use Rattle.tap_overlay.specs.Law.{HasNodesOf}
use Rattle.tap_overlay.specs.Overlay.{IsAtRest, node_at}
use Rattle.tap_overlay.proofs.Systems.{rest_nodes}
use Rattle.tap_runs.specs.Named.{HasNames, HaveNames}
use Rattle.tap_engine.specs.KeptEngine.{AreKept, EngineGoesOn, room_kept, room_of_record, world_value}
use Rattle.tap_engine.specs.World.{HasBegun, HasNodesOfLog, WorldValue, node_of, nodes_running}
use Rattle.tap_engine.specs.WorldLog.{HasCome, HasGoneTo, IsCourseOrFinished, IsWorldLog}
use Rattle.tap_engine.specs.declared.engine.Engine.{Engine}
use Rattle.tap_engine.proofs.Courses.{course_members}
use Rattle.tap_engine.proofs.StandingAlone.{end_system, pending_system}
use Rattle.tap_engine.proofs.Indices.{few_steps}
use Rattle.tap_engine.proofs.Keeping.{seen, there}
use Rattle.tap_engine.proofs.WorldLogs.{world_log_grows}
use Rattle.tap_world.proofs.Remarks.{beginning_begins, no_roots}

-- ---- which nodes there are

none_runs : (node : Option NodeState) → is_some node ≡ false → option_map running node ≡ None
none_runs None is = refl
none_runs (Some node) is = cc

module _ (engine : Engine) (refused : Option Refusal) (kept : AreKept engine refused false) where
  abbrev log : List Record
  log = engine.ledger.records

  -- the node of a name is that of the system
  pub node_runs : (name : List ℕ) → node_of (world_value engine refused false) name ≡ nodes_running (system_of log) name
  node_runs name = by_ever (has_name (names_of log) name) refl
    where
      goes : EngineGoesOn engine
      goes = kept.go_on refl

      by_ever : (ever : Bool) → has_name (names_of log) name ≡ ever
          → (if ever then node_at engine.overlay name else None) ≡ nodes_running (system_of log) name
      by_ever true at = goes.nodes.nodes_are name
      by_ever false at = sym (none_runs ((system_of log).node name) (sym (goes.ever name) ∙ at))

-- so unless a world was stopped, its nodes are those of the system that its log has come to
pub kept_nodes : (engine : Engine) (refused : Option Refusal) (stopped : Bool) → AreKept engine refused stopped → stopped ≡ false
    → HasNodesOfLog (world_value engine refused stopped)
kept_nodes engine refused false kept runs = node_runs engine refused kept
kept_nodes engine refused true kept runs = absurd (cc)

-- ---- their room

-- the log is a course and more, and its system is that of the course
record IsMore (b : Beginning) (log : List Record) : Type 0 where
  course : List Record
  more : List Record
  is_course : IsCourse b course
  going : is_ended course ≡ false
  log_is : log ≡ course ++ more
  system_is : system_of log ≡ system_of course

module _ (b : Beginning) (course log : List Record) (is : IsCourse b course) (going : is_ended course ≡ false) where
  of_finished : IsCourseOrFinished course log → IsMore b log
  of_finished (inl same) = record {
    course = course;
    more = [];
    is_course = is;
    going = going;
    log_is = same ∙ sym (append-nil course);
    system_is = ap system_of same;
  }
  of_finished (inr finished) = record {
    course = course;
    more = Finished (length (begun_steps course)) ∷ [];
    is_course = is;
    going = going;
    log_is = finished;
    system_is = ap system_of finished ∙ end_system b course is going (length (begun_steps course));
  }

  of_come : (refused : Option Refusal) → HasCome course refused log → IsMore b log
  of_come None come = of_finished come
  of_come (Some refusal) pending = record {
    course = course;
    more = StepRecord pending.index pending.step ∷ [];
    is_course = is;
    going = going;
    log_is = pending.log_is;
    system_is = ap system_of pending.log_is ∙ pending_system b course is going pending.index pending.step refusal pending.refused;
  }

-- each node of a world that goes on has numbers left for one more step, and its numbers are in range
record HasNumbers (node : NodeState) : Type 0 where
  left : has_numbers_left node ≡ true
  in_range : IsInRange node

numbers_of : (w : WorldValue) → IsWorldLog w → w.stopped ≡ false → (name : List ℕ) (node : NodeState)
    → (system_of w.log).node name ≡ Some node → HasNumbers node
numbers_of w is runs name node at =
    let come : HasCome is.course w.refused w.log = subst (λ s. HasGoneTo w.beginning s w.refused is.course w.log) runs is.gone_to in
    let m = of_come w.beginning is.course w.log is.is_course is.open_end w.refused come in
    let size = ap (λ l. length (begun_steps l)) m.log_is ∙ ap length (filter_map-append step_of m.course m.more)
    ∙ length-append (begun_steps m.course) (begun_steps m.more) in
    let few = few_steps w.log is.indices in
    let room : length (begun_steps m.course) ≤ steps_with_room = omega (arith, size, few) in
    let found : (system_of m.course).node name ≡ Some node = sym (ap (λ s. s.node name) m.system_is) ∙ at in
    record {
      left = subst (λ f. IfSome f HasNumbersLeft) found (numbers_in_range_holds.left w.beginning m.course m.is_course m.going room name);
      in_range = subst (λ f. IfSome f IsInRange) found (numbers_in_range_holds.in_range w.beginning m.course m.is_course m.going name);
    }

module _ (engine : Engine) (refused : Option Refusal) (kept : AreKept engine refused false) (name : List ℕ) where
  node_numbers : (node : NodeValue) → node_of (world_value engine refused false) name ≡ Some node
      → (has_room_left node ≡ true) × IsInRange node.state
  node_numbers node at =
      by_node ((system_of engine.ledger.records).node name) refl (sym (node_runs engine refused kept name) ∙ at)
    where
      by_node : (found : Option NodeState) → (system_of engine.ledger.records).node name ≡ found → option_map running found ≡ Some node
          → (has_room_left node ≡ true) × IsInRange node.state
      by_node None is none = cc
      by_node (Some state) is some =
          let same : running state ≡ node = cc in
          let has = numbers_of (world_value engine refused false) kept.log refl name state is in
          (ap has_room_left (sym same) ∙ has.left, subst (λ (n : NodeValue). IsInRange n.state) same has.in_range)

  -- so it has room for one
  pub room_left : (node : NodeValue) → node_of (world_value engine refused false) name ≡ Some node → has_room_left node ≡ true
  room_left node at = (node_numbers node at).0

  pub in_range : (node : NodeValue) → node_of (world_value engine refused false) name ≡ Some node → IsInRange node.state
  in_range node at = (node_numbers node at).1

-- what holds of each such node holds of one that is lent
pub lent_each : (Holds : NodeValue → Type 0) (lent : Option (Bor NodeValue)) (found : Option NodeValue) → option_copied lent ≡ found
    → ((node : NodeValue) → found ≡ Some node → Holds node) → IfSome lent (λ node. Holds node.now)
lent_each Holds None found is each = tt
lent_each Holds (Some node) found is each = each node.now (sym is)

-- ---- a world that has just begun

begin_room : (b : Beginning) → room_kept (last_of (begin_record b ∷ [])) ≡ 1
unfolding room_of_record
begin_room b = refl

begin_named : (p : SettingsValue) (b : Beginning) → HaveNames p (begin_record b ∷ [])
begin_named p b = All-nil (HasNames p)

begin_goes_on : (b : Beginning) → is_ended (begin_record b ∷ []) ≡ false
unfolding ends_log
begin_goes_on b = refl

module _ (b : Beginning) (limits : IsWithinLimits b) (engine : Engine) (settings : engine.settings ≡ b.settings) (frames : engine.frames ≡ b.frames)
    (log_is : engine.ledger.records ≡ begin_record b ∷ []) (rest : IsAtRest b.settings b.members engine.overlay)
    (added_is : engine.ledger.added ≡ []) (one : 1 ≤ engine.ledger.spare) where
  begun_course : IsCourse b engine.ledger.records
  begun_course = subst (IsCourse b) (sym log_is) (start_course b limits)

  begun_going : is_ended engine.ledger.records ≡ false
  begun_going = ap is_ended log_is ∙ begin_goes_on b

  begun_nodes : HasNodesOf (system_of engine.ledger.records) engine.overlay
  begun_nodes =
      subst (λ s. HasNodesOf s engine.overlay) (sym (ap system_of log_is ∙ start_system b)) (rest_nodes b.settings b.members engine.overlay rest)

  begun_goes : EngineGoesOn engine
  begun_goes = record {
    nodes = begun_nodes;
    ever = (course_nodes_holds b engine.ledger.records begun_course begun_going).ever;
    room = λ unfinished.
        let few = ap (λ l. room_kept (last_of l)) log_is ∙ begin_room b in
        let none = no_roots engine.ledger.records engine.ledger.added (begin_record b) (ap last_of log_is) (beginning_begins b) in
        omega (arith, few, none, one);
  }

  begun_is : (seen engine).beginning ≡ b
  begun_is =
      ap (λ p. record { settings = p; frames = engine.frames; members = members_of engine.ledger.records }) settings
      ∙ ap (λ f. record { settings = b.settings; frames = f; members = members_of engine.ledger.records }) frames
      ∙ ap (λ m. record { settings = b.settings; frames = b.frames; members = m }) (course_members b engine.ledger.records begun_course)

  -- each member is there at rest, and nobody else
  begun_node : (name : List ℕ) → node_of (seen engine) name ≡ nodes_running (system_at_rest b.settings b.members) name
  begun_node name =
      by_ever (has_name (names_of engine.ledger.records) name) refl
    where
      system : (system_of engine.ledger.records).node name ≡ (system_at_rest b.settings b.members).node name
      system = ap (λ s. s.node name) (ap system_of log_is ∙ start_system b)

      by_ever : (ever : Bool) → has_name (names_of engine.ledger.records) name ≡ ever
          → (if ever then node_at engine.overlay name else None) ≡ nodes_running (system_at_rest b.settings b.members) name
      by_ever true at = begun_nodes.nodes_are name ∙ ap (option_map running) system
      by_ever false at =
          sym (ap (option_map running) (sym system) ∙ none_runs ((system_of engine.ledger.records).node name) (sym (begun_goes.ever name) ∙ at))

  pub has_begun : HasBegun b (seen engine)
  has_begun = record { beginning = begun_is; log = log_is; added = added_is; refused = refl; goes_on = refl; members = begun_node }

  pub begun_kept : AreKept engine None false
  begun_kept = record {
    log = world_log_grows.begins b (seen engine) limits has_begun;
    named = subst (HaveNames engine.settings) (sym log_is) (begin_named engine.settings b);
    settings = rest.settings_are ∙ sym settings;
    present = there engine.ledger.records engine.overlay begun_goes.ever begun_nodes;
    go_on = λ runs. begun_goes;
  }
