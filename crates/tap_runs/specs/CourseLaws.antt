-- The laws of courses: what one more group makes of a course and its system, and what both say of frames and nodes.
use Rattle.std.specs.Prelude.{◌≡◌, ℕ, Bool, true, false, not, List, [], ◌∷◌, ◌++◌, map, take, All, Option, None, Some, is_some, if◌then◌else◌}
use Rattle.std.specs.Option.{option_map}
use Rattle.tap_name.specs.Names.{has_name}
use Rattle.tap_name.specs.Settings.{SettingsValue}
use Rattle.tap_wire.specs.declared.frame.Frame.{Frame}
use Rattle.tap_wire.specs.Spelling.{spelling}
use Rattle.tap_log.specs.declared.record.Record.{Record}
use Rattle.tap_log.specs.declared.record.Record.TheVariants.{Step as StepRecord}
use Rattle.tap_log.specs.Counts.{sent_count}
use Rattle.tap_log.specs.Frames.{bytes_of}
use Rattle.tap_history.specs.Core.{core_of, gone_of, present_of}
use Rattle.tap_history.specs.Departing.{departing_of}
use Rattle.tap_history.specs.Groups.{groups_of, is_ended}
use Rattle.tap_history.specs.Names.{names_of}
use Rattle.tap_history.specs.Refusals.{is_joining}
use Rattle.tap_rule.specs.Node.{NodeState}
use Rattle.tap_history.specs.Moments.{is_moment, outstanding}
use Rattle.tap_safety.specs.System.{System}
use Rattle.tap_safety.specs.AtRest.{AreMembers, system_at_rest}
use Rattle.tap_runs.specs.Beginning.{Beginning, IsWithinLimits, begin_record}
use Rattle.tap_runs.specs.Course.{Follows, IsCourse, is_choice, move_of_group, moved_by, system_of}
use Rattle.tap_runs.specs.Observed.{has_ended, is_core_node, is_joining_status}

-- ---- one more group

-- A beginning within the limits is a course, of a system at rest, and an overlay may begin with its members. With one more group that
-- may follow, a course that hasn't ended is a course that hasn't ended, and its system is the one before, after the group's move. At
-- each of its moments it is such a course too.
pub record CourseGrows : Type 0 where
  pub starts : (b : Beginning) → IsWithinLimits b → IsCourse b (begin_record b ∷ [])
  pub at_rest : (b : Beginning) → system_of (begin_record b ∷ []) ≡ system_at_rest b.settings b.members
  pub members : (b : Beginning) → IsWithinLimits b → AreMembers b.settings b.members
  pub course : (b : Beginning) (log group : List Record) → IsCourse b log → is_ended log ≡ false → Follows b log group
      → IsCourse b (log ++ group)
  pub going : (b : Beginning) (log group : List Record) → IsCourse b log → is_ended log ≡ false → Follows b log group
      → is_ended (log ++ group) ≡ false
  pub system : (b : Beginning) (log group : List Record) → IsCourse b log → is_ended log ≡ false → Follows b log group
      → system_of (log ++ group) ≡ moved_by b.settings (system_of log) (move_of_group log group)
  pub moments : (b : Beginning) (log : List Record) → IsCourse b log → is_ended log ≡ false → (m : ℕ) → is_moment log m ≡ true
      → IsCourse b (take m log) × (is_ended (take m log) ≡ false)

-- ---- frames

-- the numbers of these frames
abbrev pub frame_numbers : List (ℕ × Frame) → List ℕ
frame_numbers frames = map (λ f. f.0) frames

-- the log has the frame's bytes under its number
abbrev pub HasBytes : SettingsValue → List Record → ℕ × Frame → Type 0
HasBytes p log f = bytes_of log f.0 ≡ Some (spelling p f.1)

-- The frames under way are those outstanding in the log, in order, each with the bytes that its `Sent` has; and the next one is
-- numbered by how many were sent.
pub record FramesAgree (p : SettingsValue) (log : List Record) (s : System) : Type 0 where
  pub numbers : frame_numbers s.frames ≡ outstanding log
  pub bytes : All (HasBytes p log) s.frames
  pub next : s.next ≡ sent_count log

abbrev pub CourseFrames : Type 0
CourseFrames = (b : Beginning) (log : List Record) → IsCourse b log → is_ended log ≡ false → FramesAgree b.settings log (system_of log)

-- ---- nodes

-- the node takes part, it has ended, and it is joining; none of it if there is no node
abbrev pub is_present_node : Option NodeState → Bool
is_present_node None = false
is_present_node (Some node) = not (has_ended node.status)

abbrev pub is_ended_node : Option NodeState → Bool
is_ended_node None = false
is_ended_node (Some node) = has_ended node.status

abbrev pub is_joining_node : Option NodeState → Bool
is_joining_node None = false
is_joining_node (Some node) = is_joining_status node.status

-- Who is core, who is present, who is gone, who was ever there and who is joining is the same in the log and in the system, and so
-- is who departs.
pub record NodesAgree (log : List Record) (s : System) : Type 0 where
  pub core : (x : List ℕ) → has_name (core_of log) x ≡ is_core_node (s.node x)
  pub present : (x : List ℕ) → has_name (present_of log) x ≡ is_present_node (s.node x)
  pub gone : (x : List ℕ) → has_name (gone_of log) x ≡ is_ended_node (s.node x)
  pub ever : (x : List ℕ) → has_name (names_of log) x ≡ is_some (s.node x)
  pub joining : (x : List ℕ) → is_joining log x ≡ is_joining_node (s.node x)
  pub departing : departing_of log ≡ option_map (λ leaver. leaver.name) s.departing

abbrev pub CourseNodes : Type 0
CourseNodes = (b : Beginning) (log : List Record) → IsCourse b log → is_ended log ≡ false → NodesAgree log (system_of log)

-- ---- one course for the same choices

-- what a group chooses: its first record, and if that is of a step which only chooses, also whether it is refused
unfoldable pub choice_of : List Record → List Record
choice_of (StepRecord index step ∷ items) = StepRecord index step ∷ (if is_choice step then items else [])
choice_of (item ∷ items) = item ∷ []
choice_of [] = []

-- two courses that haven't ended, and begin and choose alike, are one
abbrev pub OneCourse : Type 0
OneCourse = (b : Beginning) (one other : List Record) → IsCourse b one → IsCourse b other → is_ended one ≡ false → is_ended other ≡ false
    → map choice_of (groups_of one) ≡ map choice_of (groups_of other) → one ≡ other
