-- What a world keeps, once a step stands alone after its log, the log has its end, or memory was refused.
-- Cited above: all_still, as_log, begun, end_same, grown_log, grown_named, HasGrown, kept_same, kept_short, on, same_beginning, seen, there
use Rattle.std.proofs.Common.{◌≡◌, ◌≢◌, ℕ, ◌+◌, ◌≤◌, Bool, true, false, List, [], ◌∷◌, ◌++◌, length, append-nil, Option, None, Some, Result, Err, is_some, refl, ap, sym, subst, ◌∙◌, arith}
use Rattle.std.specs.Prelude.{if◌then◌else◌}
use Rattle.std.specs.Option.{option_map}
use Rattle.std.proofs.lemmas.List.Elements.{All-nil}
use Rattle.tap_name.specs.Names.{has_name}
use Rattle.tap_scenario.specs.declared.step.Step.{Step}
use Rattle.tap_log.specs.declared.record.Record.{Record}
use Rattle.tap_log.specs.declared.record.Record.TheVariants.{Finished, Step as StepRecord}
use Rattle.tap_log.specs.declared.record.Refusal.{Refusal}
use Rattle.tap_log.specs.Kinds.{step_of}
use Rattle.tap_log.specs.Log.{last_of}
use Rattle.tap_history.specs.Core.{members_of}
use Rattle.tap_history.specs.Groups.{is_ended}
use Rattle.tap_history.specs.Names.{names_of}
use Rattle.tap_history.specs.Refusals.{first_refusal}
use Rattle.tap_rule.specs.Node.{NodeState}
use Rattle.tap_node.specs.Node.{running}
use Rattle.tap_runs.specs.Beginning.{Beginning}
use Rattle.tap_runs.specs.Course.{IsCourse, is_choice, system_of}
use Rattle.tap_runs.proofs.Departing.{course_nodes_holds}
use Rattle.tap_ledger.specs.Woven.{Remark}
use Rattle.tap_overlay.specs.Law.{HasNodesOf}
use Rattle.tap_overlay.specs.Overlay.{OverlayValue, node_at}
use Rattle.tap_engine.specs.KeptEngine.{AreKept, AreReady, EngineGoesOn, LeadsTo, room_kept, room_of_record, room_of_roots, world_value}
use Rattle.tap_runs.specs.Named.{HasNames, HaveNames}
use Rattle.tap_engine.specs.Kinds.{awaits_roots, is_finished}
use Rattle.tap_engine.specs.Growth.{left_by_outcome}
use Rattle.tap_engine.specs.Outcome.{IsNextIndex, WorldOutcome, adds, refuses_step}
use Rattle.tap_engine.specs.Working.{StillHas}
use Rattle.tap_engine.specs.World.{WorldValue}
use Rattle.tap_engine.specs.WorldLog.{HasGoneTo, HasIndices, IsWorldLog}
use Rattle.tap_engine.specs.declared.engine.Engine.{Engine}
use Rattle.tap_engine.specs.declared.stop.Stop.{Stop}
use Rattle.tap_engine.specs.declared.stop.Stop.TheVariants.{NoMemory, Refused}
use Rattle.tap_engine.proofs.Courses.{course_begun, members_more}
use Rattle.tap_engine.proofs.StandingAlone.{end_names, end_system, pending_system, step_names}
use Rattle.tap_engine.proofs.NamedSteps.{named_more, nothing_named, step_named}
use Rattle.tap_engine.proofs.WorldLogs.{IsAtCourse, goes_on, refuses_log, short_log}

-- ---- an engine that is ready

abbrev pub seen : Engine → WorldValue
seen engine = world_value engine None false

pub on : (engine : Engine) → AreReady engine → IsAtCourse (seen engine)
on engine ready = goes_on (seen engine) ready.kept.log (record { noted = refl; unfinished = ready.unfinished }) refl

pub begun : (engine : Engine) → AreReady engine → 1 ≤ length engine.ledger.records
begun engine ready = course_begun (seen engine).beginning engine.ledger.records (on engine ready).course

-- ---- another world with the same log

pub as_log : (w v : WorldValue) → v.beginning ≡ w.beginning → v.log ≡ w.log → v.refused ≡ w.refused → v.stopped ≡ w.stopped
    → IsWorldLog w → IsWorldLog v
as_log w v begins log refused stopped is = record {
  course = is.course;
  is_course = subst (λ b. IsCourse b is.course) (sym begins) is.is_course;
  open_end = is.open_end;
  gone_to =
      subst (λ b. HasGoneTo b v.stopped v.refused is.course v.log) (sym begins)
      (subst (λ s. HasGoneTo w.beginning s v.refused is.course v.log) (sym stopped)
      (subst (λ r. HasGoneTo w.beginning w.stopped r is.course v.log) (sym refused)
      (subst (λ l. HasGoneTo w.beginning w.stopped w.refused is.course l) (sym log) is.gone_to)));
  indices = subst HasIndices (sym log) is.indices;
}

-- the engines have the same beginning, and these records more
pub record HasGrown (before after : Engine) (more : List Record) : Type 0 where
  pub settings : after.settings ≡ before.settings
  pub frames : after.frames ≡ before.frames
  pub log : after.ledger.records ≡ before.ledger.records ++ more

pub same_beginning : (before after : Engine) (more : List Record) → 1 ≤ length before.ledger.records → HasGrown before after more
    → (seen after).beginning ≡ (seen before).beginning
same_beginning before after more first grown =
    let members : members_of after.ledger.records ≡ members_of before.ledger.records =
    ap members_of grown.log ∙ members_more before.ledger.records more first in
    ap (λ p. record { settings = p; frames = after.frames; members = members_of after.ledger.records }) grown.settings
    ∙ ap (λ f. record { settings = before.settings; frames = f; members = members_of after.ledger.records }) grown.frames
    ∙ ap (λ m. record { settings = before.settings; frames = before.frames; members = m }) members

-- the log of an outcome is that of the engine
pub grown_log : (before after : Engine) (more : List Record) (refused : Option Refusal) (stopped : Bool) → AreReady before
    → HasGrown before after more
    → IsWorldLog (left_by_outcome (seen before) (record (adds (seen before) more) { refused = refused; stopped = stopped }) (seen before).nodes)
    → IsWorldLog (world_value after refused stopped)
grown_log before after more refused stopped ready grown is =
    as_log (left_by_outcome (seen before) (record (adds (seen before) more) { refused = refused; stopped = stopped }) (seen before).nodes)
    (world_value after refused stopped) (same_beginning before after more (begun before ready) grown) grown.log refl refl is

-- ---- nodes and names

some_running : (node : Option NodeState) → is_some (option_map running node) ≡ is_some node
some_running None = refl
some_running (Some node) = refl

-- each name that was ever present has a node, if the nodes are those of the system
pub there : (log : List Record) (o : OverlayValue) → ((name : List ℕ) → has_name (names_of log) name ≡ is_some ((system_of log).node name))
    → HasNodesOf (system_of log) o → (name : List ℕ) → has_name (names_of log) name ≡ true → is_some (node_at o name) ≡ true
there log o ever nodes name is =
    ap is_some (nodes.nodes_are name) ∙ some_running ((system_of log).node name) ∙ sym (ever name) ∙ is

pub room_two : (last : Option Record) → room_kept last ≤ 2
unfolding room_of_record
room_two None = omega arith
room_two (Some (StepRecord index step)) = omega arith
room_two (Some item) = omega arith

one_at_most : (asks : Bool) → (if asks then 1 else 0) ≤ 1
one_at_most true = omega arith
one_at_most false = omega arith

-- what is always kept is room for three records at most
pub room_three : (log : List Record) (added : List Remark) → room_kept (last_of log) + room_of_roots log added ≤ 3
room_three log added =
    let last = room_two (last_of log) in
    let roots = one_at_most (awaits_roots log added) in
    omega (arith, last, roots)

-- an engine whose log is a course goes on, if its nodes are those of its system and there is room for three more records
pub course_goes_on : (engine : Engine) (b : Beginning) → IsCourse b engine.ledger.records → is_ended engine.ledger.records ≡ false
    → HasNodesOf (system_of engine.ledger.records) engine.overlay → 3 ≤ engine.ledger.spare → EngineGoesOn engine
course_goes_on engine b course going nodes three = record {
  nodes = nodes;
  ever = (course_nodes_holds b engine.ledger.records course going).ever;
  room = λ unfinished. let few = room_three engine.ledger.records engine.ledger.added in omega (arith, few, three);
}

-- the names of the steps of a longer log are of the settings, if those of the further records are
pub grown_named : (before after : Engine) (more : List Record) → HasGrown before after more → HaveNames before.settings more
    → HaveNames before.settings before.ledger.records → HaveNames after.settings after.ledger.records
grown_named before after more grown theirs named =
    subst (λ p. HaveNames p after.ledger.records) (sym grown.settings)
    (subst (HaveNames before.settings) (sym grown.log) (named_more before.settings before.ledger.records more theirs named))

-- ---- a log that says the same of names and nodes

pub record SaysSame (log more : List Record) : Type 0 where
  pub names : names_of (log ++ more) ≡ names_of log
  pub system : system_of (log ++ more) ≡ system_of log

pending_same : (b : Beginning) (log : List Record) (index : ℕ) (step : Step) (refusal : Refusal) → IsCourse b log
    → is_ended log ≡ false → first_refusal log step ≡ Some refusal → SaysSame log (StepRecord index step ∷ [])
pending_same b log index step refusal course going is = record {
  names = step_names log index step;
  system = pending_system b log course going index step refusal is;
}

pub end_same : (b : Beginning) (log : List Record) (steps : ℕ) → IsCourse b log → is_ended log ≡ false
    → SaysSame log (Finished steps ∷ [])
end_same b log steps course going = record {
  names = end_names b log course going steps;
  system = end_system b log course going steps;
}

-- an engine with the same nodes, whose log says the same, keeps what it kept
pub kept_same : (before after : Engine) (more : List Record) (refused : Option Refusal) → AreReady before → HasGrown before after more
    → SaysSame before.ledger.records more → HaveNames before.settings more → after.overlay ≡ before.overlay
    → (is_finished after.ledger.records ≡ false
    → room_kept (last_of after.ledger.records) + room_of_roots after.ledger.records after.ledger.added ≤ after.ledger.spare)
    → IsWorldLog (world_value after refused false) → AreKept after refused false
kept_same before after more refused ready grown same named overlay room log =
    let was = ready.kept in
    let on_before = was.go_on refl in
    let names : names_of after.ledger.records ≡ names_of before.ledger.records = ap names_of grown.log ∙ same.names in
    let system : system_of after.ledger.records ≡ system_of before.ledger.records = ap system_of grown.log ∙ same.system in
    record {
      log = log;
      named = grown_named before after more grown named was.named;
      settings = ap (λ o. o.settings) overlay ∙ was.settings ∙ sym grown.settings;
      present = λ name is.
          ap (λ o. is_some (node_at o name)) overlay ∙ was.present name (sym (ap (λ l. has_name l name) names) ∙ is);
      go_on = λ runs. record {
        nodes = record {
          nodes_are = λ name.
              ap (λ o. node_at o name) overlay ∙ on_before.nodes.nodes_are name ∙ sym (ap (λ s. option_map running (s.node name)) system);
        };
        ever = λ name. ap (λ l. has_name l name) names ∙ on_before.ever name ∙ sym (ap (λ s. is_some (s.node name)) system);
        room = room;
      };
    }

-- ---- a step that is refused

pub kept_pending : (before after : Engine) (index : ℕ) (step : Step) (refusal : Refusal) → (ready : AreReady before)
    → HasGrown before after (StepRecord index step ∷ []) → after.overlay ≡ before.overlay
    → 3 ≤ after.ledger.spare → IsNextIndex (seen before) index → first_refusal before.ledger.records step ≡ Some refusal
    → is_choice step ≡ false → HasNames before.settings step → AreKept after (Some refusal) false
kept_pending before after index step refusal ready grown overlay three next is unchosen named =
    let goes = on before ready in
    let more = StepRecord index step ∷ [] in
    kept_same before after more (Some refusal) ready grown
    (pending_same (seen before).beginning before.ledger.records index step refusal goes.course goes.going is)
    (step_named before.settings index step [] named (All-nil (λ item. step_of item ≡ None)))
    overlay (λ unfinished. let few = room_three after.ledger.records after.ledger.added in omega (arith, few, three))
    (grown_log before after more (Some refusal) false ready grown
    (refuses_log (seen before) (seen before).nodes goes index step next refusal is unchosen))

-- ---- a world that is stopped

pub kept_stopped : (before after : Engine) (more : List Record) → AreReady before → HasGrown before after more
    → names_of (before.ledger.records ++ more) ≡ names_of before.ledger.records
    → StillHas before.overlay after.overlay → HaveNames before.settings more
    → IsWorldLog (world_value after None true) → AreKept after None true
kept_stopped before after more ready grown names still named log =
    let was = ready.kept in
    record {
      log = log;
      named = grown_named before after more grown named was.named;
      settings = still.settings ∙ was.settings ∙ sym grown.settings;
      present = λ name is.
          still.there name (was.present name (sym (ap (λ l. has_name (names_of l) name) grown.log ∙ ap (λ l. has_name l name) names) ∙ is));
      go_on = λ runs. absurd (cc);
    }

-- ---- want of memory

none_more : (before after : Engine) → after.settings ≡ before.settings → after.frames ≡ before.frames
    → after.ledger.records ≡ before.ledger.records → HasGrown before after []
none_more before after settings frames log =
    record { settings = settings; frames = frames; log = log ∙ sym (append-nil before.ledger.records) }

pub kept_short : (before after : Engine) → AreReady before → after.settings ≡ before.settings → after.frames ≡ before.frames
    → after.ledger.records ≡ before.ledger.records → StillHas before.overlay after.overlay
    → AreKept after None true
kept_short before after ready settings frames log still =
    let same = sym (append-nil before.ledger.records) in
    let grown = none_more before after settings frames log in
    kept_stopped before after [] ready grown (ap names_of (sym same)) still
    (nothing_named before.settings)
    (as_log (record (seen before) { stopped = true }) (world_value after None true)
    (same_beginning before after [] (begun before ready) grown) log refl refl (short_log (seen before) (seen before).nodes (on before ready)))

pub all_still : (o o' : OverlayValue) → o' ≡ o → StillHas o o'
all_still o o' same = record {
  settings = ap (λ x. x.settings) same;
  there = λ name is. ap (λ x. is_some (node_at x name)) same ∙ is;
}

-- ---- how a call goes

-- a call that was not refused memory
pub done : (outcome : WorldOutcome) (before : Engine) (given : Result (Unit {0}) Stop) (after : Engine) → given ≢ Err NoMemory
    → given ≡ outcome.answer → after.ledger.records ≡ outcome.log → AreKept after outcome.refused outcome.stopped
    → ((refusal : Refusal) → given ≡ Err (Refused refusal) → after.overlay ≡ before.overlay)
    → after.settings ≡ before.settings → after.frames ≡ before.frames → LeadsTo outcome before given after
done outcome before given after other answer log kept nodes settings frames = record {
  answer = λ _. answer;
  log = λ _. log;
  kept = λ _. kept;
  same = λ none. absurd (other none);
  short = λ none. absurd (other none);
  nodes = nodes;
  settings = settings;
  frames = frames;
}

-- and one that was
pub wanting : (outcome : WorldOutcome) (before after : Engine) → AreReady before → after.settings ≡ before.settings → after.frames ≡ before.frames
    → after.ledger.records ≡ before.ledger.records → StillHas before.overlay after.overlay
    → LeadsTo outcome before (Err NoMemory) after
wanting outcome before after ready settings frames log still = record {
  answer = λ other. absurd (other refl);
  log = λ other. absurd (other refl);
  kept = λ other. absurd (other refl);
  same = λ _. log;
  short = λ _. kept_short before after ready settings frames log still;
  nodes = λ refusal is. absurd (cc);
  settings = settings;
  frames = frames;
}

-- a step that is refused
pub refused_leads : (before after : Engine) (index : ℕ) (step : Step) (refusal : Refusal) → (ready : AreReady before)
    → HasGrown before after (StepRecord index step ∷ []) → after.overlay ≡ before.overlay
    → 3 ≤ after.ledger.spare → IsNextIndex (seen before) index → first_refusal before.ledger.records step ≡ Some refusal
    → is_choice step ≡ false → HasNames before.settings step
    → LeadsTo (refuses_step (seen before) index step refusal) before (Err (Refused refusal)) after
refused_leads before after index step refusal ready grown overlay three next is unchosen named =
    done (refuses_step (seen before) index step refusal) before (Err (Refused refusal)) after (λ never. cc) refl grown.log
    (kept_pending before after index step refusal ready grown overlay three next is unchosen named) (λ _ _. overlay) grown.settings
    grown.frames
