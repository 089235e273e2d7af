-- What holds at each moment of a run: no table has a hole, walks lead to the root, and at rest all is core.
-- Cited above: core_names, no_hole, walks_end
use Rattle.std.proofs.Common.{◌≡◌, inl, inr, ℕ, true, false, not, List, [], ◌∷◌, ◌++◌, take, Option, None, Some, refl, ap, sym, subst, ◌∙◌}
use Rattle.std.specs.Prelude.{◌&&◌, ◌||◌}
use Rattle.std.specs.Option.{option_map}
use Rattle.std.proofs.lemmas.Bool.{and_parts}
use Rattle.tap_name.specs.Names.{Among, has_name}
use Rattle.tap_name.specs.Settings.{SettingsValue}
use Rattle.tap_name.proofs.Membership.{has_name-Decides}
use Rattle.tap_session.specs.Session.{Session}
use Rattle.tap_wire.specs.declared.frame.Frame.{Frame}
use Rattle.tap_log.specs.declared.record.Record.{Record}
use Rattle.tap_log.specs.Kinds.{is_carried}
use Rattle.tap_history.specs.Core.{abandoned_of, core_of, gone_of}
use Rattle.tap_history.specs.Groups.{is_ended}
use Rattle.tap_history.specs.Moments.{awaiting, is_none, is_rest, is_still, under_way}
use Rattle.tap_rule.specs.Event.{Start}
use Rattle.tap_rule.specs.Node.{NodeState, Status, join_session_at}
use Rattle.tap_rule.specs.Node.Status.{Ceased, Core, Gone, Joining, Leaving}
use Rattle.tap_safety.specs.Move.{Move}
use Rattle.tap_safety.specs.Move.Move.{Begins, Delivers}
use Rattle.tap_safety.specs.Moved.{delivered, departing_with, moved, numbered_frame, received, starter, with_begun}
use Rattle.tap_safety.specs.Remembered.{Leaver}
use Rattle.tap_safety.specs.Rest.{Rest}
use Rattle.tap_safety.specs.System.{System}
use Rattle.tap_safety.proofs.LinkKeeps.{status_seen}
use Rattle.tap_runs.specs.Beginning.{Beginning}
use Rattle.tap_runs.specs.Course.{Follows, IsCourse, move_of_group, moved_by, system_of}
use Rattle.tap_runs.specs.CourseLaws.{NodesAgree, frame_numbers, is_ended_node, is_present_node}
use Rattle.tap_runs.specs.Observed.{counts_as_core, has_ended, is_core_node}
use Rattle.tap_runs.proofs.Departing.{course_nodes_holds}
use Rattle.tap_runs.proofs.Frames.{course_frames_holds}
use Rattle.tap_runs.proofs.CourseGrows.{by_groups, grown_system, start_system}
use Rattle.tap_safety_moves.specs.Sound.{Sound}
use Rattle.tap_safety_moves.specs.Walks.{AreCoreNames}
use Rattle.tap_safety_moves.proofs.Consequences.{nothing_is_left}
use Rattle.tap_safety_moves.proofs.Walks.{tables_hole_free, walks_lead}
use Rattle.tap_safe_runs.specs.Moments.{AtEachMoment, HasCoreNodes, HasNoHole, IsAllCore, RestIsAllCore, WalksEndAtRoots}
use Rattle.tap_safe_runs.specs.Safe.{IsRun}
use Rattle.tap_safe_runs.proofs.Groups.{is_told}
use Rattle.tap_safe_runs.proofs.Safe.{runs_are_sound, run_at_moment}
use Rattle.tap_safe_runs.proofs.There.{core_said, core_there}

-- ---- who departs, at rest

-- nobody departs while no frame is under way
abbrev RestsAlone : System → Type 0
RestsAlone s = s.frames ≡ [] → s.departing ≡ None

-- whoever departs does so until no frame is under way
until_none : (frames : List (ℕ × Frame)) (leaver : Option Leaver) → frames ≡ [] → departing_with frames leaver ≡ None
until_none frames leaver none = ap (λ l. departing_with l leaver) none

module _ (p : SettingsValue) (s : System) (alone : RestsAlone s) where
  -- after a start
  begins_alone : (x : List ℕ) (start : Start) (node : Option NodeState) → RestsAlone (with_begun s x start node)
  begins_alone x start None = alone
  begins_alone x start (Some node) = λ none. until_none (with_begun s x start (Some node)).frames _ none

  -- after a frame, whether or not its receiver is a node
  receives_alone : (number : ℕ) (frame : Frame) (node : Option NodeState) → RestsAlone (received s number frame node)
  receives_alone number frame None = λ none. until_none (received s number frame None).frames _ none
  receives_alone number frame (Some node) = λ none. until_none (received s number frame (Some node)).frames _ none

  -- after a frame, if there is one
  delivers_alone : (number : ℕ) (frame : Option Frame) → RestsAlone (delivered s number frame)
  delivers_alone number None = alone
  delivers_alone number (Some frame) = receives_alone number frame (s.node frame.to)

  -- after each move
  moves_alone : (move : Move) → RestsAlone (moved p s move)
  unfolding moved
  moves_alone (Begins x start) = begins_alone x start (starter p s x start)
  moves_alone (Delivers number) = delivers_alone number (numbered_frame number s.frames)

  -- after a group, whether or not it makes a move
  group_alone : (move : Option Move) → RestsAlone (moved_by p s move)
  group_alone None = alone
  group_alone (Some move) = moves_alone move

module _ (b : Beginning) where
  -- one more group of a course
  alone_grows : (log group : List Record) → IsCourse b log → is_ended log ≡ false → Follows b log group → RestsAlone (system_of log)
      → RestsAlone (system_of (log ++ group))
  alone_grows log group course going follows alone =
      subst RestsAlone (sym (grown_system b log group course going follows))
      (group_alone b.settings (system_of log) alone (move_of_group log group))

  -- so it is in each course
  rests_alone : (log : List Record) → IsCourse b log → is_ended log ≡ false → RestsAlone (system_of log)
  rests_alone = by_groups b (λ log. RestsAlone (system_of log)) alone_grows (subst RestsAlone (sym (start_system b)) (λ none. refl))

-- ---- a run

-- without numbers there are no frames
no_frames : (frames : List (ℕ × Frame)) → is_none (frame_numbers frames) ≡ true → frames ≡ []
no_frames [] none = refl
no_frames (f ∷ frames) none = absurd (cc)

module _ (b : Beginning) (log : List Record) (run : IsRun b log) where
  abbrev pub p : SettingsValue
  p = b.settings

  abbrev pub s : System
  s = system_of log

  -- its system has the whole invariant
  pub sound : Sound p s
  sound = runs_are_sound b log run

  -- log and system agree on nodes
  pub nodes : NodesAgree log s
  nodes = course_nodes_holds b log run.course run.going

  -- the core names of the log are those of the core nodes
  pub core_names : AreCoreNames s (core_of log)
  core_names x = (
    λ among. core_there s x (sym (nodes.core x) ∙ (has_name-Decides (core_of log) x).1 among),
    λ core. (has_name-Decides (core_of log) x).0 (nodes.core x ∙ core_said s x core),
  )

  -- there is a core node, so a core name
  pub some_core : HasCoreNodes p log
  some_core none =
      let has = sound.invariant.basis.has_core in
      subst (Among has.name) none ((core_names has.name).1 has.core)

  -- no table has a hole
  pub no_hole : HasNoHole p log
  no_hole = tables_hole_free p s (core_of log) sound core_names

  -- each walk leads to the root
  pub walks_end : WalksEndAtRoots p log
  walks_end from object among name = walks_lead p s (core_of log) from object sound core_names among name

  -- while no frame is under way
  module _ (none : s.frames ≡ []) where
    -- nothing of joins and departures is left
    pub left : Rest s
    left = nothing_is_left p s sound none

    -- who is present is core, as nobody joins
    present_is_core : (x : List ℕ) → is_present_node (s.node x) ≡ is_core_node (s.node x)
    present_is_core x = by_node (s.node x) refl
      where
        by_status : (node : NodeState) → s.node x ≡ Some node → (status : Status) → node.status ≡ status
            → not (has_ended node.status) ≡ counts_as_core node.status
        by_status node there Joining is = absurd (left.joining x (status_seen s x node Joining there is))
        by_status node there Core is = rw is refl
        by_status node there Leaving is = rw is refl
        by_status node there Gone is = rw is refl
        by_status node there Ceased is = rw is refl

        by_node : (node : Option NodeState) → s.node x ≡ node → is_present_node node ≡ is_core_node node
        by_node None there = refl
        by_node (Some node) there = by_status node there node.status refl

    -- no node keeps a session, as each that is kept is open
    no_session : (x : List ℕ) (node : NodeState) (k : ℕ) → s.node x ≡ Some node → join_session_at node k ≡ None
    no_session x node k at = by_session (join_session_at node k) refl
      where
        by_session : (kept : Option Session) → join_session_at node k ≡ kept → kept ≡ None
        by_session None is = refl
        by_session (Some kept) is =
            let opened = sound.invariant.basis.counted.open_at x k node kept at is in absurd (left.sessions x k opened.0 opened.1)

    -- who was to give its join up has ended, as nobody joins
    given_up_gone : (x : List ℕ) → has_name (abandoned_of log) x ≡ true → has_name (gone_of log) x ≡ true
    given_up_gone x said =
        let given = (is_told b log run.course run.going).given_up x said in
        nodes.gone x ∙ ap is_ended_node given.is ∙ elim given.so [
          | inl ended ↦ ended
          | inr joins ↦ absurd (left.joining x (status_seen s x given.state Joining given.is joins.0))
        ]

    -- all of it together
    all_core : IsAllCore log s
    all_core = record {
      joined = λ x. nodes.present x ∙ present_is_core x ∙ sym (nodes.core x);
      given_up = given_up_gone;
      departing =
          nodes.departing
          ∙ ap (λ (leaver : Option Leaver). option_map (λ l. l.name) leaver) (rests_alone b log run.course run.going none);
      sessions = no_session;
      left = left;
    }

  -- at rest no frame is under way
  pub rests_without_frames : is_rest log ≡ true → s.frames ≡ []
  rests_without_frames rest =
      let still = (and_parts (is_still log) (not (is_carried log) || (is_none (under_way log) && is_none (awaiting log))) rest).0 in
      let frames = course_frames_holds b log run.course run.going in
      no_frames s.frames (ap is_none frames.numbers ∙ still)

  pub rest_is_all_core : RestIsAllCore p log
  rest_is_all_core rest = all_core (rests_without_frames rest)

-- ---- each moment

-- the laws: at a moment a run is a run
pub core_nodes_at : AtEachMoment HasCoreNodes
core_nodes_at b log m run is = some_core b (take m log) (run_at_moment b log m run is)

pub no_hole_at : AtEachMoment HasNoHole
no_hole_at b log m run is = no_hole b (take m log) (run_at_moment b log m run is)

pub walks_end_at : AtEachMoment WalksEndAtRoots
walks_end_at b log m run is = walks_end b (take m log) (run_at_moment b log m run is)

pub all_core_at : AtEachMoment RestIsAllCore
all_core_at b log m run is = rest_is_all_core b (take m log) (run_at_moment b log m run is)
