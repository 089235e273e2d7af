-- Of a course: each node has its own name, and each frame under way is read back from its bytes.
-- Cited above: courses_are_readable
use Rattle.std.proofs.Common.{◌≡◌, inl, inr, ℕ, ◌+◌, ◌<◌, ◌≤◌, ◌^◌, Bool, true, false, List, ◌∷◌, ◌++◌, length, get_or, All, Option, Some, sym, subst, ◌∙◌, arith}
use Rattle.std.specs.Prelude.{IfSome, nat_le, if◌then◌else◌}
use Rattle.std.proofs.lemmas.List.Elements.{All-head, filter_map-append}
use Rattle.tap_name.specs.Name.{IsName}
use Rattle.tap_name.specs.Settings.{SettingsValue}
use Rattle.tap_scenario.specs.declared.step.Step.{Step}
use Rattle.tap_scenario.specs.declared.step.Step.TheVariants.{Join, Depart, Publish, Withdraw, Find, Abandon, Cast}
use Rattle.tap_scenario.specs.Scenario.{most_frames}
use Rattle.tap_wire.specs.declared.frame.Frame.{Frame}
use Rattle.tap_wire.proofs.Frames.{reads_back}
use Rattle.tap_log.specs.declared.record.Record.{Record}
use Rattle.tap_log.specs.declared.record.Record.TheVariants.{Step as StepRecord, Taken}
use Rattle.tap_log.specs.Kinds.{step_of}
use Rattle.tap_log.specs.Log.{begun_steps}
use Rattle.tap_history.specs.Groups.{is_ended}
use Rattle.tap_history.specs.StepAsks.{actor_of}
use Rattle.tap_rule.specs.Act.{act}
use Rattle.tap_rule.specs.Event.{Acted, Start}
use Rattle.tap_rule.specs.Event.Event.{Starts, Takes}
use Rattle.tap_rule.specs.Event.Start.{Join as StartJoin, Abandon as StartAbandon, Publish as StartPublish, Withdraw as StartWithdraw, Find as StartFind, Leave as StartLeave, Cast as StartCast}
use Rattle.tap_rule.specs.Node.{NodeState, joiner}
use Rattle.tap_safety.specs.Move.{Move}
use Rattle.tap_safety.specs.Move.Move.{Begins, Delivers}
use Rattle.tap_safety.specs.Moved.{moved, numbered_frame, starter}
use Rattle.tap_safety.specs.System.{System}
use Rattle.tap_safety.proofs.Moved.{delivers, starts}
use Rattle.tap_runs.specs.Named.{HasNames, HaveNames}
use Rattle.tap_runs.specs.Beginning.{Beginning}
use Rattle.tap_runs.specs.Course.{Follows, IsCourse, MayFollow, move_of_group, moved_by, system_of}
use Rattle.tap_runs.specs.Group.{start_at}
use Rattle.tap_runs.specs.Starts.{next_cast, next_ticket, start_of_step}
use Rattle.tap_runs.proofs.Frames.{course_frames_holds, starting_moves, step_moves, taken_moves}
use Rattle.tap_runs.proofs.CourseGrows.{by_groups, course_grows_holds, grown_system, start_system}
use Rattle.tap_runs.proofs.Within.{IsStarting, step_kind}
use Rattle.tap_readable.specs.Range.{IsInRange}
use Rattle.tap_readable.proofs.RangeCourses.{numbers_in_range_holds}
use Rattle.tap_readable.proofs.RangeRecords.{one_step, told_more}
use Rattle.tap_readable.specs.Readable.{CoursesAreReadable, IsReadBack}
use Rattle.tap_readable.proofs.TypedRules.{IsTypedStart}
use Rattle.tap_readable.proofs.Members.{members_read}
use Rattle.tap_readable.proofs.Own.{course_own}
use Rattle.tap_readable.proofs.ReadableMoves.{All-after, All-before, BringsNames, HasRoomFor, IsReadable, starting_reads, taking_reads}

-- ---- what a step has its node start

-- the node is a name, what it starts brings names, and its number fits
record Brings (p : SettingsValue) (name : List ℕ) (start : Start) : Type 0 where
  is_name : IsName p name
  names : BringsNames p start
  typed : IsTypedStart start

module _ (p : SettingsValue) (log : List Record) (tickets : next_ticket log < 2 ^ 32) (casts : next_cast log < 2 ^ 32) where
  -- however it is named
  same_start : (x name : List ℕ) (first start : Start) → ◌≡◌ {A = Option (List ℕ × Start)} (Some (x, first)) (Some (name, start))
      → Brings p x first → Brings p name start
  same_start x name first start at brings =
      subst (λ (both : Option (List ℕ × Start)). IfSome both (λ one. Brings p one.0 one.1)) at brings

  start_brings : (step : Step) (name : List ℕ) (start : Start) → HasNames p step → start_at log step ≡ Some (name, start)
      → Brings p name start
  unfolding actor_of start_of_step
  start_brings (Join x via) name start names at =
      same_start x name (StartJoin via) start at (record { is_name = names.0; names = names.1; typed = tt })
  start_brings (Depart x) name start names at =
      same_start x name StartLeave start at (record { is_name = names; names = tt; typed = tt })
  start_brings (Publish object x) name start names at =
      same_start x name (StartPublish object) start at (record { is_name = names.1; names = names.0; typed = tt })
  start_brings (Withdraw object x) name start names at =
      same_start x name (StartWithdraw object) start at (record { is_name = names.1; names = tt; typed = tt })
  start_brings (Find object x) name start names at =
      same_start x name (StartFind (next_ticket log) object) start at (record { is_name = names.1; names = names.0; typed = tickets })
  start_brings (Abandon x) name start names at =
      same_start x name StartAbandon start at (record { is_name = names; names = tt; typed = tt })
  start_brings (Cast word prefix x) name start names at =
      same_start x name (StartCast (next_cast log) (length prefix) word) start at
      (record { is_name = names.2; names = names.0; typed = casts })
  start_brings step name start names at = absurd (cc)

-- ---- numbers

few_frames : (digits : ℕ) → most_frames digits ≤ 500000
few_frames digits = by_test (nat_le digits 8)
  where
    by_test : (short : Bool) → (if short then 500000 else 100000) ≤ 500000
    by_test true = omega arith
    by_test false = omega arith

-- a node whose numbers are in range has room for what it sends, if no more frames were sent than may be
range_has_room : (node : NodeState) (acted : Acted) (before after : ℕ) → IsInRange node → after ≡ before + length acted.sent
    → after ≤ 500000 → HasRoomFor node acted
range_has_room node acted before after range next few =
    let sessions : node.sessions.opened ≤ 500000 = range.sessions in
    let casts : node.cast_sessions.opened ≤ 500001 = range.cast_sessions in
    let stamp : node.stamp < 3000000 = range.stamp in
    record { sessions = omega (arith, sessions); cast_sessions = omega (arith, casts); stamp = omega (arith, stamp, next, few) }

-- who starts to join has numbers in range
joiner_in_range : (p : SettingsValue) (x : List ℕ) → IsInRange (joiner p x)
joiner_in_range p x = record { sessions = omega arith; cast_sessions = omega arith; stamp = omega arith }

-- ---- one more group

module _ (b : Beginning) (log group : List Record) (course : IsCourse b log) (going : is_ended log ≡ false) (follows : Follows b log group)
  where
    abbrev p : SettingsValue
    p = b.settings

    abbrev s : System
    s = system_of log

    -- no more frames are sent than may be
    sent_few : (moved_by p s (move_of_group log group)).next ≤ 500000
    sent_few =
        let more = course_grows_holds.course b log group course going follows in
        let on = course_grows_holds.going b log group course going follows in
        let count = (course_frames_holds b (log ++ group) more on).next in
        let within = follows.within in
        let most = course.limits.frames_to in
        let few = few_frames b.settings.digits in
        subst (λ (t : System). t.next ≤ 500000) (grown_system b log group course going follows) (omega (arith, count, within, most, few))

    move_few : (move : Option Move) → move_of_group log group ≡ move → (moved_by p s move).next ≤ 500000
    move_few move is = subst (λ m. (moved_by p s m).next ≤ 500000) is sent_few

    -- a node of the system has its numbers in range
    in_range : (x : List ℕ) (node : NodeState) → s.node x ≡ Some node → IsInRange node
    in_range x node at = subst (λ o. IfSome o IsInRange) at (numbers_in_range_holds.in_range b log course going x)

    -- who takes a frame has room, and who starts something
    room_to_take : (number : ℕ) → move_of_group log group ≡ Some (Delivers number) → (frame : Frame) (node : NodeState)
        → numbered_frame number s.frames ≡ Some frame → s.node frame.to ≡ Some node → HasRoomFor node (act node (Takes frame))
    room_to_take number is frame node found at =
        range_has_room node (act node (Takes frame)) s.next (moved p s (Delivers number)).next (in_range frame.to node at)
        (delivers p s number frame node found at).taken.next (move_few (Some (Delivers number)) is)

    starter_in_range : (x : List ℕ) (start : Start) (node : NodeState) → starter p s x start ≡ Some node → IsInRange node
    starter_in_range x (StartJoin via) node is =
        let same : joiner p x ≡ node = cc in subst IsInRange same (joiner_in_range p x)
    starter_in_range x _ node is = in_range x node is

    room_to_start : (x : List ℕ) (start : Start) → move_of_group log group ≡ Some (Begins x start) → (node : NodeState)
        → starter p s x start ≡ Some node → HasRoomFor node (act node (Starts start))
    room_to_start x start is node at =
        range_has_room node (act node (Starts start)) s.next (moved p s (Begins x start)).next (starter_in_range x start node at)
        (starts p s x start node at).sent.next (move_few (Some (Begins x start)) is)

-- the group keeps it that nodes speak of names and frames are read back
module _ (b : Beginning) (log : List Record) (course : IsCourse b log) (going : is_ended log ≡ false)
    (reads : IsReadable b.settings (system_of log)) where
  starting_group : (index : ℕ) (step : Step) (items : List Record) → Follows b log (StepRecord index step ∷ items) → HasNames b.settings step
      → length (begun_steps log) + 1 < 2 ^ 32 → IsStarting b.settings log (system_of log) step items
      → IsReadable b.settings (moved_by b.settings (system_of log) (move_of_group log (StepRecord index step ∷ items)))
  starting_group index step items follows names few starting =
      let is = starting_moves b.settings log (system_of log) index step items starting in
      let tickets = numbers_in_range_holds.tickets b log course going in
      let casts = numbers_in_range_holds.casts b log course going in
      let brings = start_brings b.settings log (omega (arith, few, tickets)) (omega (arith, few, casts)) step starting.name starting.start names
      starting.at in
      subst (λ m. IsReadable b.settings (moved_by b.settings (system_of log) m)) (sym is)
      (starting_reads b.settings (system_of log) reads starting.name starting.start course.limits.settings brings.is_name brings.names
      brings.typed (room_to_start b log (StepRecord index step ∷ items) course going follows starting.name starting.start is))

  by_group : (group : List Record) → Follows b log group → MayFollow b.settings log (system_of log) group
      → HaveNames b.settings group → length (begun_steps log) + length (begun_steps group) < 2 ^ 32
      → IsReadable b.settings (moved_by b.settings (system_of log) (move_of_group log group))
  unfolding MayFollow
  by_group (StepRecord index step ∷ items) follows may steps few =
      elim (step_kind b.settings log (system_of log) index step items may) [
        | inl idle ↦
            subst (λ m. IsReadable b.settings (moved_by b.settings (system_of log) m))
            (sym (step_moves log index step items ∙ idle.still)) reads
        | inr starting ↦
            let one = one_step index step items in
            starting_group index step items follows (All-head (HasNames b.settings) step (begun_steps items) steps)
            (omega (arith, few, one)) starting
      ]
  by_group (Taken number ∷ items) follows may steps few =
      let is = taken_moves log number items in
      subst (λ m. IsReadable b.settings (moved_by b.settings (system_of log) m)) (sym is)
      (taking_reads b.settings (system_of log) reads number (room_to_take b log (Taken number ∷ items) course going follows number is))
  by_group group follows may steps few = absurd may

-- ---- a course

module _ (b : Beginning) where
  -- the steps have names of the settings, and aren't too many
  abbrev ReadsIf : List Record → Type 0
  ReadsIf log = HaveNames b.settings log → length (begun_steps log) < 2 ^ 32 → IsReadable b.settings (system_of log)

  reads_on : (log group : List Record) → IsCourse b log → is_ended log ≡ false → Follows b log group → ReadsIf log → ReadsIf (log ++ group)
  reads_on log group course going follows reads steps few =
      let both = subst (All (HasNames b.settings)) (filter_map-append step_of log group) steps in
      let count = told_more step_of log group in
      subst (IsReadable b.settings) (sym (grown_system b log group course going follows))
      (by_group b log course going
      (reads (All-before (HasNames b.settings) (begun_steps log) (begun_steps group) both) (omega (arith, count, few)))
      group follows follows.may (All-after (HasNames b.settings) (begun_steps log) (begun_steps group) both) (omega (arith, count, few)))

  pub course_reads : (log : List Record) → IsCourse b log → is_ended log ≡ false → ReadsIf log
  course_reads log course going =
      let members = course_grows_holds.members b course.limits in
      let most : length b.members ≤ 64 = course.limits.members_to in
      by_groups b ReadsIf reads_on
      (λ steps few. subst (IsReadable b.settings) (sym (start_system b))
      (members_read b.settings b.members members (omega (arith, most))))
      log course going

  -- so each frame under way is read back
  pub course_reads_back : (log : List Record) → IsCourse b log → is_ended log ≡ false → HaveNames b.settings log
      → length (begun_steps log) < 2 ^ 32 → All (IsReadBack b.settings) (system_of log).frames
  course_reads_back log course going steps few =
      let all = (course_reads log course going steps few).frames in
      λ k d within.
      let one = all k d within in
      reads_back b.settings (get_or (system_of log).frames k d).1 course.limits.settings one.spelled one.typed

-- ---- the laws

pub courses_are_readable : CoursesAreReadable
courses_are_readable = record { own = course_own; read = course_reads_back }
