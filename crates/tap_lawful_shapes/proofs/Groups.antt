-- The records of a group of a run without roots have their shape, but for some numbers.
use Rattle.std.proofs.Common.{◌≡◌, ◌⊎◌, inl, inr, ℕ, zero, suc, ◌+◌, ◌<◌, ◌≤◌, ◌^◌, Bool, true, false, List, [], ◌∷◌, ◌++◌, length, slice_get, All, Option, None, Some, refl, sym, subst, ap, ◌∙◌, arith}
use Rattle.std.specs.Prelude.{IfSome, Result, Ok, Err, nat_le, not, if◌then◌else◌, option_and_then}
use Rattle.std.specs.List.{filter_map, range_with_len}
use Rattle.std.specs.Option.{option_map}
use Rattle.std.proofs.lemmas.List.Elements.{All-cons, All-nil, All-filter}
use Rattle.tap_name.specs.Name.{IsName}
use Rattle.tap_name.specs.Names.{Among, first_of}
use Rattle.tap_name.specs.Root.{root}
use Rattle.tap_name.specs.Settings.{AreWithinLimits, SettingsValue}
use Rattle.tap_name.proofs.Names.{All-among}
use Rattle.tap_surrogate.specs.Nodes.{core_links}
use Rattle.tap_surrogate.specs.Walk.{hops, walk}
use Rattle.tap_wire.specs.declared.fault.WireFault.{WireFault}
use Rattle.tap_wire.specs.declared.frame.Frame.{Frame}
use Rattle.tap_wire.specs.Reading.{frame_of}
use Rattle.tap_wire.specs.Spelling.{IsFrame}
use Rattle.tap_scenario.specs.Scenario.{most_frames}
use Rattle.tap_scenario.specs.Step.{IsStep}
use Rattle.tap_scenario.specs.declared.step.Step.{Step}
use Rattle.tap_scenario.specs.declared.step.Step.TheVariants.{Join, Depart, Publish, Withdraw, Find, Walk, Root, Table, Pointers, Garble, Cut, Abandon, Cast}
use Rattle.tap_log.specs.declared.record.Record.{Record}
use Rattle.tap_log.specs.declared.record.Record.TheVariants.{Step as StepRecord, Taken, Refused, Garbled, Published, Withdrawn, Asked, Abandoned, CastFrom, RootOf, Walked}
use Rattle.tap_log.specs.declared.record.Refusal.{Refusal}
use Rattle.tap_log.specs.Counts.{sent_count}
use Rattle.tap_log.specs.Frames.{bytes_of}
use Rattle.tap_log.specs.Kinds.{sent_number, taken_number}
use Rattle.tap_log.specs.MoreRecords.{at_most_one}
use Rattle.tap_log.specs.Log.{begun_steps}
use Rattle.tap_line.specs.Line.{IsFault, IsPath, IsRefusal}
use Rattle.tap_shape.specs.Shape.{IsShaped}
use Rattle.tap_history.specs.Core.{core_of}
use Rattle.tap_history.specs.Departing.{departing_of}
use Rattle.tap_history.specs.Flights.{flight_count}
use Rattle.tap_history.specs.Moments.{has_number, outstanding}
use Rattle.tap_history.specs.Refusals.{damaged, first_refusal, refuses_too_many_packets}
use Rattle.tap_history.specs.StepAsks.{actor_of, asked_node, flight_place, suits_joining}
use Rattle.tap_history.proofs.Less.{filter_within}
use Rattle.tap_rule.specs.Node.{NodeState}
use Rattle.tap_rule.specs.Node.Status.{Gone as GoneStatus, Leaving as LeavingStatus}
use Rattle.tap_rule.specs.Event.{Start}
use Rattle.tap_rule.specs.Event.Event.{Starts, Takes}
use Rattle.tap_rule.specs.Act.{act}
use Rattle.tap_safety.specs.Move.Move.{Delivers}
use Rattle.tap_safety.specs.Moved.{moved, numbered_frame, starter}
use Rattle.tap_safety.specs.Remembered.{Leaver}
use Rattle.tap_safety.specs.Spelled.{AreSpelled}
use Rattle.tap_safety.specs.System.{System}
use Rattle.tap_safety.specs.Ties.{status_in, status_of}
use Rattle.tap_moves.specs.KnownNames.{IsNodeOf}
use Rattle.tap_runs.specs.Beginning.{Beginning, begin_record}
use Rattle.tap_runs.specs.Course.{Follows, move_of_group, move_of_start, moved_by, system_of}
use Rattle.tap_runs.specs.Damage.{copied_number, damage_record, fault_in, fault_of_copy, garbled}
use Rattle.tap_runs.specs.Group.{accepted_records, received_records, records_of_act, records_unless, start_at, started_records, step_records, taken_records}
use Rattle.tap_runs.specs.Groups.{step_group, taken_group}
use Rattle.tap_runs.specs.Observed.{nodes_of, observed, pointers_record, table_record}
use Rattle.tap_runs.specs.Starts.{announced, next_cast, next_ticket, start_of_step}
use Rattle.tap_runs.proofs.Departing.{course_nodes_holds}
use Rattle.tap_runs.proofs.Frames.{frames_kept, step_moves, taken_moves}
use Rattle.tap_runs.proofs.CourseGrows.{grown_system, starts_uncarried}
use Rattle.tap_readable.specs.Range.{HasNumbersLeft}
use Rattle.tap_readable.proofs.RangeCourses.{numbers_in_range_holds}
use Rattle.tap_safe_runs.specs.Safe.{IsRun}
use Rattle.tap_safe_runs.proofs.Moments.{no_hole, walks_end}
use Rattle.tap_safe_runs.proofs.Safe.{runs_are_sound}
use Rattle.tap_lawful_shapes.proofs.Asked.{among_narrowed, asked_is_core, first_among}
use Rattle.tap_lawful_shapes.proofs.Bytes.{All-at}
use Rattle.tap_lawful_shapes.proofs.Faults.{faults_in_range}
use Rattle.tap_lawful_shapes.proofs.Near.{AreNear, IsNear, act_near, both_near, none_near, one_near}
use Rattle.tap_lawful_shapes.proofs.Refused.{AreSentBytes, HasByte, bytes_data, copy_data, refusal_so}
use Rattle.tap_lawful_shapes.proofs.Seen.{node_named, pointers_near, table_near}
use Rattle.tap_lawful_shapes.proofs.Spelled.{start_spelled, taken_spelled}

pub few_frames : (digits : ℕ) → most_frames digits ≤ 500000
few_frames digits = by_test (nat_le digits 8)
  where
    by_test : (short : Bool) → (if short then 500000 else 100000) ≤ 500000
    by_test true = omega arith
    by_test false = omega arith

some_path : (path : List (List ℕ)) (x : List ℕ) → first_of path ≡ Some x → 0 < length path
some_path [] x is = absurd (cc)
some_path (y ∷ path) x is = omega arith

pub numbers_below : (n from most : ℕ) → from + n ≤ most → All (λ number. number < most) (range_with_len from n)
numbers_below zero from most within = All-nil (λ number. number < most)
numbers_below (suc n) from most within =
    All-cons (λ number. number < most) from (range_with_len (from + 1) n) (omega (arith, within)) (numbers_below n (from + 1) most (omega (arith, within)))

-- numbers of 32 bits
abbrev pub IsLow : ℕ → Type 0
IsLow n = n < 2 ^ 32

-- A run, as far as its log has come: its records have their shape but for some numbers, and it has no more steps than a scenario may have.
pub record IsNearRun (b : Beginning) (c : Bool) (log : List Record) : Type 0 where
  pub run : IsRun b log
  pub later : List Record
  pub is : log ≡ begin_record b ∷ later
  pub near : AreNear b.settings c later
  pub steps : length (begun_steps log) ≤ 10000

-- ---- the numbers of a run

module _ (b : Beginning) (log : List Record) (run : IsRun b log) where
  pub sent_few : sent_count log ≤ 500000
  sent_few =
      let few = numbers_in_range_holds.sent b log run.course run.going in
      let most = run.course.limits.frames_to in
      let all = few_frames b.settings.digits in
      omega (arith, few, most, all)

  pub outstanding_few : length (outstanding log) ≤ 500000
  outstanding_few =
      let few = filter_within (λ number. not (has_number (filter_map taken_number log) number)) (filter_map sent_number log) in
      let all = sent_few in
      omega (arith, few, all)

  flights_few : flight_count log ≤ 500000
  flights_few = rw (starts_uncarried log (begin_record b) run.course.begins) outstanding_few

  sent_below : All (λ number. number < sent_count log) (filter_map sent_number log)
  sent_below =
      let kept = (frames_kept b log run.course run.going).log_is in
      subst (All (λ number. number < sent_count log)) (sym kept.sent) (numbers_below (sent_count log) 0 (sent_count log) (omega arith))

  place_below : (place : ℕ) → IfSome (slice_get (outstanding log) place) IsLow
  place_below place =
      let few = sent_few in
      All-at IsLow (outstanding log) place
      (All-filter (λ number. not (has_number (filter_map taken_number log) number)) IsLow (filter_map sent_number log)
      (λ k d within. let one = sent_below k d within in omega (arith, one, few)))

  pub limits : AreWithinLimits b.settings
  limits = run.course.limits.settings

-- ---- a run

module _ (b : Beginning) (c : Bool) (before : List Record) (far : IsNearRun b c before) where
  abbrev p : SettingsValue
  p = b.settings

  abbrev s : System
  s = system_of before

  abbrev run : IsRun b before
  run = far.run

  node_of : (x : List ℕ) (node : NodeState) → s.node x ≡ Some node → IsNodeOf p x node
  node_of = (runs_are_sound b before run).nodes.nodes

  named : (x : List ℕ) (node : NodeState) → s.node x ≡ Some node → IsName p x
  named x node at = node_named p c x node (node_of x node at)

  core_named : (x : List ℕ) → Among x (core_of before) → IsName p x
  core_named = (no_hole b before run).names

  tickets_few : IsLow (next_ticket before)
  tickets_few = let few = numbers_in_range_holds.tickets b before run.course run.going in let steps = far.steps in omega (arith, few, steps)

  casts_few : IsLow (next_cast before)
  casts_few = let few = numbers_in_range_holds.casts b before run.course run.going in let steps = far.steps in omega (arith, few, steps)

  -- ---- who departs

  leaver_named : (leaver : Option Leaver) → s.departing ≡ leaver → IfSome (option_map (λ l. l.name) leaver) (IsName p)
  unfolding status_of
  leaver_named None departs = tt
  leaver_named (Some leaver) departs =
      let ends = ((runs_are_sound b before run).invariant.basis.departure.during leaver departs).ends in
      by_node (s.node leaver.name) refl ends
    where
      by_node : (node : Option NodeState) → s.node leaver.name ≡ node
          → (status_in node ≡ Some LeavingStatus) ⊎ (status_in node ≡ Some GoneStatus) → IsName p leaver.name
      by_node None at (inl wrong) = absurd (cc)
      by_node None at (inr wrong) = absurd (cc)
      by_node (Some node) at ends = named leaver.name node at

  pub departs : IfSome (departing_of before) (IsName p)
  departs =
      subst (λ o. IfSome o (IsName p)) (sym (course_nodes_holds b before run.course run.going).departing) (leaver_named s.departing refl)

  -- ---- refusals and damaged copies

  pub kept_bytes : (number : ℕ) → IfSome (bytes_of before number) AreSentBytes
  kept_bytes number =
      subst (λ l. IfSome (bytes_of l number) AreSentBytes) (sym far.is)
      (bytes_data p c (limits b before run) b.settings b.frames b.members far.later number far.near)

  pub refused_near : (step : Step) → IfSome (refuses_too_many_packets before step) (IsRefusal p) → IfSome (first_refusal before step) (IsRefusal p)
  refused_near step packets =
      let few = outstanding_few b before run in
      let flights = flights_few b before run in
      refusal_so p before kept_bytes (omega (arith, few)) (omega (arith, flights)) departs step packets

  copy_fault : (copy : Option (List ℕ)) → IfSome copy AreSentBytes → (fault : WireFault)
      → option_and_then (λ bytes. fault_in (frame_of p bytes)) copy ≡ Some fault → IsFault fault
  copy_fault None are fault at = absurd (cc)
  copy_fault (Some bytes) are fault at = by_reading (frame_of p bytes) refl at
    where
      by_reading : (r : Result Frame WireFault) → frame_of p bytes ≡ r → fault_in r ≡ Some fault → IsFault fault
      by_reading (Ok frame) read at = absurd (cc)
      by_reading (Err e) read at =
          let same : e ≡ fault = cc in
          let few = are.1 in subst IsFault same (faults_in_range p bytes e (limits b before run) are.0 (omega (arith, few)) read)

  garbled_near : (number : Option ℕ) (fault : Option WireFault) → IfSome number IsLow → ((f : WireFault) → fault ≡ Some f → IsFault f)
      → AreNear p c (at_most_one (garbled number fault))
  unfolding IsNear IsShaped
  garbled_near None fault low right = none_near p c
  garbled_near (Some number) None low right = none_near p c
  garbled_near (Some number) (Some fault) low right = one_near p c (Garbled number fault) (low, right fault refl)

  copied_below : (place : Option ℕ) → IfSome (option_and_then (slice_get (outstanding before)) place) IsLow
  copied_below None = tt
  copied_below (Some place) = place_below b before run place

  damage_near : (step : Step) → HasByte p before kept_bytes step → AreNear p c (at_most_one (damage_record p before step))
  damage_near step byte =
      garbled_near (copied_number before step) (fault_of_copy p before step) (copied_below (flight_place step))
      (λ f at. copy_fault (damaged before step) (copy_data p before kept_bytes step byte) f at)

  -- ---- starts

  announced_near : (step : Step) → IsStep p c step → AreNear p c (announced before step)
  unfolding announced IsNear IsShaped
  announced_near (Publish object server) named = one_near p c (Published object server) named
  announced_near (Withdraw object server) named = one_near p c (Withdrawn object server) named
  announced_near (Find object asker) named = one_near p c (Asked (next_ticket before) object asker) (tickets_few, named.0, named.1)
  announced_near (Abandon name) named = one_near p c (Abandoned name) named
  announced_near (Cast word prefix asker) named =
      let few = named.1.few in
      let most = (limits b before run).digits_to in
      one_near p c (CastFrom (next_cast before) word (length prefix) asker) (casts_few, named.0, omega (arith, few, most), named.2)
  announced_near step named = none_near p c

  -- the node at which a step starts something has a name of the settings
  same_actor : (x name : List ℕ) (first start : Start) → ◌≡◌ {A = Option (List ℕ × Start)} (Some (x, first)) (Some (name, start)) → IsName p x
      → IsName p name
  same_actor x name first start at x_is = subst (λ (o : Option (List ℕ × Start)). IfSome o (λ both. IsName p both.0)) at x_is

  actor_named : (step : Step) (name : List ℕ) (start : Start) → IsStep p c step → start_at before step ≡ Some (name, start) → IsName p name
  unfolding actor_of start_of_step
  actor_named (Join x via) name start fit at = same_actor x name _ start at fit.0
  actor_named (Depart x) name start fit at = same_actor x name _ start at fit
  actor_named (Publish object x) name start fit at = same_actor x name _ start at fit.1
  actor_named (Withdraw object x) name start fit at = same_actor x name _ start at fit.1
  actor_named (Find object x) name start fit at = same_actor x name _ start at fit.1
  actor_named (Abandon x) name start fit at = same_actor x name _ start at fit
  actor_named (Cast word prefix x) name start fit at = same_actor x name _ start at fit.2
  actor_named step name start fit at = absurd (cc)

  abbrev SendsSpelled : Step → Type 0
  SendsSpelled step = (name : List ℕ) (start : Start) (node : NodeState) → start_at before step ≡ Some (name, start)
      → starter p s name start ≡ Some node → All (IsFrame p) (act node (Starts start)).sent

  started_near : (step : Step) (start : Option (List ℕ × Start)) → start_at before step ≡ start → IsStep p c step → SendsSpelled step
      → AreNear p c (started_records p before s step start)
  started_near step None at step_is sends = none_near p c
  started_near step (Some (name, start)) at step_is sends =
      both_near p c (announced before step) (records_of_act p before name (starter p s name start) (Starts start))
      (announced_near step step_is)
      (act_near p c (limits b before run) before name (starter p s name start) (Starts start)
      (λ node there. (actor_named step name start step_is at, sends name start node at there)))

  -- ---- what a step sees

  table_seen : (name : List ℕ) (node : Option NodeState) → s.node name ≡ node → IsName p name
      → AreNear p c (at_most_one (option_and_then (table_record name) node))
  table_seen name None at is = none_near p c
  table_seen name (Some node) at is = table_near p c name node (node_of name node at) name is

  pointers_seen : (name : List ℕ) (node : Option NodeState) → s.node name ≡ node → IsName p name
      → AreNear p c (at_most_one (option_map (pointers_record name) node))
  pointers_seen name None at is = none_near p c
  pointers_seen name (Some node) at is =
      let few = far.steps in
      let left = subst (λ o. IfSome o HasNumbersLeft) at (numbers_in_range_holds.left b before run.course run.going (omega (arith, few)) name) in
      pointers_near p c name node (node_of name node at) name is left

  walk_near : (object asker : List ℕ) → IsName p object → first_refusal before (Walk object asker) ≡ None
      → AreNear p c (Walked object (walk p.base (core_links (nodes_of s)) asker object) ∷ [])
  unfolding IsNear IsShaped asked_node suits_joining
  walk_near object asker object_is accepted =
      let path = walk p.base (core_links (nodes_of s)) asker object in
      let leads = walks_end b before run asker object (asked_is_core before (Walk object asker) asker refl refl accepted) object_is in
      let few : hops path ≤ p.digits = leads.few_hops in
      let most = (limits b before run).digits_to in
      let is : IsPath p path = record {
        some = some_path path asker leads.begins;
        few = omega (arith, few, most);
        names = All-among (IsName p) path (λ x among. core_named x (leads.over_core x among));
      } in
      one_near p c (Walked object path) (object_is, is)

  root_near : (object : List ℕ) (found : Option (List ℕ)) → IsName p object → root p.base (core_of before) object ≡ found
      → AreNear p c (at_most_one (option_map (RootOf object) found))
  unfolding IsNear IsShaped
  root_near object None object_is at = none_near p c
  root_near object (Some found) object_is at =
      one_near p c (RootOf object found)
      (object_is, core_named found (among_narrowed p.base 0 object (core_of before) found (first_among _ found at)))

  accepted_near : (step : Step) → IsStep p c step → SendsSpelled step → first_refusal before step ≡ None → AreNear p c (accepted_records p before s step)
  unfolding accepted_records observed
  accepted_near (Walk object asker) fit sends accepted = walk_near object asker fit.0 accepted
  accepted_near (Root object) fit sends accepted = root_near object (root p.base (core_of before) object) fit refl
  accepted_near (Table name) fit sends accepted = table_seen name (s.node name) refl fit
  accepted_near (Pointers name) fit sends accepted = pointers_seen name (s.node name) refl fit
  accepted_near (Garble place at byte) fit sends accepted = damage_near (Garble place at byte) fit.3
  accepted_near (Cut place bytes) fit sends accepted = damage_near (Cut place bytes) tt
  accepted_near step fit sends accepted = started_near step (start_at before step) refl fit sends

  unless_near : (index : ℕ) (step : Step) (refusal : Option Refusal) → IsLow index → IfSome refusal (IsRefusal p)
      → (refusal ≡ None → AreNear p c (accepted_records p before s step)) → AreNear p c (records_unless p before s index step refusal)
  unfolding IsNear IsShaped
  unless_near index step (Some refusal) number right accepted = one_near p c (Refused index refusal) (number, right)
  unless_near index step None number right accepted = accepted refl

  -- ---- whole groups

  -- the frames under way after a group have spellings
  after_spelled : (group : List Record) → Follows b before group → IsRun b (before ++ group)
      → AreSpelled p (moved_by p s (move_of_group before group))
  after_spelled group follows after =
      let sound = runs_are_sound b (before ++ group) after in
      subst (AreSpelled p) (grown_system b before group run.course run.going follows) sound.invariant.basis.spelled

  -- what a step comes to
  pub step_near : (index : ℕ) (step : Step) → IsLow index → IsStep p c step → IfSome (refuses_too_many_packets before step) (IsRefusal p)
      → Follows b before (step_group p before index step) → IsRun b (before ++ step_group p before index step)
      → AreNear p c (step_records p before s index step)
  step_near index step number fit packets follows after =
      let items = step_records p before s index step in
      let spelled = after_spelled (StepRecord index step ∷ items) follows after in
      unless_near index step (first_refusal before step) number (refused_near step packets)
      (λ accepted. accepted_near step fit
      (λ name start node at there.
      start_spelled p s name start node there
      (subst (λ m. AreSpelled p (moved_by p s m))
      (step_moves before index step items ∙ ap (λ r. move_of_start r (start_at before step)) accepted ∙ ap (move_of_start None) at) spelled))
      accepted)

  -- what the receiver of a frame does
  received_near : (number : ℕ) (frame : Option Frame) → numbered_frame number s.frames ≡ frame → AreSpelled p (moved p s (Delivers number))
      → AreNear p c (received_records p before s frame)
  received_near number None at spelled = none_near p c
  received_near number (Some frame) at spelled =
      act_near p c (limits b before run) before frame.to (s.node frame.to) (Takes frame)
      (λ node there. (named frame.to node there, taken_spelled p s number frame node at there spelled))

  pub taken_near : (number : ℕ) → Follows b before (taken_group p before number) → IsRun b (before ++ taken_group p before number)
      → AreNear p c (taken_records p before s number)
  taken_near number follows after =
      let items = taken_records p before s number in
      let spelled = after_spelled (Taken number ∷ items) follows after in
      received_near number (numbered_frame number s.frames) refl
      (subst (λ m. AreSpelled p (moved_by p s m)) (taken_moves before number items) spelled)
