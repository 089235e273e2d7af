-- What courses say of their nodes and frames.
use Rattle.std.proofs.Common.{◌≡◌, ℕ, ◌<◌, ◌≤◌, ◌^◌, true, false, List, length, All, Option, None, Some, IfSome, Ok, subst, arith}
use Rattle.tap_cast.specs.Casts.{level_of_cast}
use Rattle.tap_wire.specs.Reading.{frame_of}
use Rattle.tap_wire.specs.Spelling.{spelling}
use Rattle.tap_log.specs.declared.record.Record.{Record}
use Rattle.tap_log.specs.Counts.{cast_count, ticket_count}
use Rattle.tap_log.specs.Log.{begun_steps}
use Rattle.tap_history.specs.Groups.{is_ended}
use Rattle.tap_rule.specs.Node.{NodeState, name_of, settings_of}
use Rattle.tap_node_common.specs.SoundNode.{has_numbers_left}
use Rattle.tap_runs.specs.Beginning.{Beginning}
use Rattle.tap_runs.specs.Course.{IsCourse, system_of}
use Rattle.tap_runs.specs.Starts.{next_cast}
use Rattle.tap_readable.specs.Range.{HasNotMetNext, HasNumbersLeft, steps_with_room}
use Rattle.tap_readable.proofs.RangeCourses.{numbers_in_range_holds}
use Rattle.tap_readable.proofs.ReadableCourses.{courses_are_readable}
use Rattle.tap_runs.specs.Named.{HaveNames}
use Rattle.tap_readable.specs.Readable.{IsOwn}
use Rattle.tap_engine.specs.Kinds.{most_index}

-- this node of the system has numbers left for one more step, hasn't met the cast that begins next, and has its name and the settings
pub record IsSoundAt (b : Beginning) (log : List Record) (name : List ℕ) (node : NodeState) : Type 0 where
  pub left : has_numbers_left node ≡ true
  pub unmet : level_of_cast node.casts (next_cast log) ≡ None
  pub name_is : name_of node ≡ name
  pub settings_are : settings_of node ≡ b.settings

-- so is each node of the system of a course; each frame under way is read from its bytes; and lookups and casts are no more than steps
pub record IsSound (b : Beginning) (log : List Record) : Type 0 where
  pub nodes : (name : List ℕ) (node : NodeState) → (system_of log).node name ≡ Some node → IsSoundAt b log name node
  pub frames : All (λ f. frame_of b.settings (spelling b.settings f.1) ≡ Ok f.1) (system_of log).frames
  pub tickets : ticket_count log ≤ length (begun_steps log)
  pub casts : cast_count log ≤ length (begun_steps log)

if_some : (P : NodeState → Type 0) (found : Option NodeState) (node : NodeState) → IfSome found P → found ≡ Some node → P node
if_some P found node is at = subst (λ o. IfSome o P) at is

pub course_is_sound : (b : Beginning) (log : List Record) → IsCourse b log → is_ended log ≡ false
    → HaveNames b.settings log → length (begun_steps log) ≤ most_index → IsSound b log
course_is_sound b log course going named few =
    let ranges = numbers_in_range_holds in
    let readable = courses_are_readable in
    record {
      nodes = λ name node at. record {
        left = if_some HasNumbersLeft ((system_of log).node name) node
            (ranges.left b log course going (let room : length (begun_steps log) ≤ steps_with_room = omega (arith, few) in room) name) at;
        unmet = if_some (HasNotMetNext log) ((system_of log).node name) node (ranges.unmet b log course going name) at;
        name_is = (if_some (IsOwn b name) ((system_of log).node name) node (readable.own b log course going name) at).name_is;
        settings_are = (if_some (IsOwn b name) ((system_of log).node name) node (readable.own b log course going name) at).settings_are;
      };
      frames = readable.read b log course going named (let below : length (begun_steps log) < 2 ^ 32 = omega (arith, few) in below);
      tickets = ranges.tickets b log course going;
      casts = ranges.casts b log course going;
    }
