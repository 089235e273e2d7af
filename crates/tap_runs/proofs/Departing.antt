-- Who departs is the same in the log of a course and in its system.
-- Cited above: course_nodes_holds
use Rattle.std.proofs.Common.{◌≡◌, ◌⊎◌, inl, inr, ℕ, ◌≤◌, true, false, not, List, [], ◌∷◌, ◌++◌, length, All, Option, None, Some, refl, ap, sym, subst, ◌∙◌, arith, ltb-false}
use Rattle.std.specs.Prelude.{◌&&◌, drop, nat_lt, if◌then◌else◌}
use Rattle.std.proofs.lemmas.List.Elements.{All-cons}
use Rattle.std.specs.List.{cons_option, filter_map, last_or}
use Rattle.std.specs.Option.{option_map}
use Rattle.tap_name.specs.Names.{has_name}
use Rattle.tap_name.specs.Settings.{SettingsValue}
use Rattle.tap_scenario.specs.declared.step.Step.{Step}
use Rattle.tap_scenario.specs.declared.step.Step.TheVariants.{Join, Depart, Publish, Withdraw, Find, Abandon, Cast}
use Rattle.tap_wire.specs.declared.frame.Frame.{Frame}
use Rattle.tap_log.specs.declared.record.Record.{Record}
use Rattle.tap_log.specs.declared.record.Record.TheVariants.{Step as StepRecord, Taken}
use Rattle.tap_log.specs.declared.record.Refusal.TheVariants.{NotAtRest}
use Rattle.tap_log.specs.Counts.{sent_count}
use Rattle.tap_log.specs.Kinds.{is_carried}
use Rattle.tap_history.specs.Core.{accepted_in, core_of}
use Rattle.tap_history.specs.Departing.{departing_of}
use Rattle.tap_history.specs.Groups.{is_ended}
use Rattle.tap_history.specs.GroupLaws.{IsGroup}
use Rattle.tap_history.specs.Moments.{is_none, is_still, outstanding}
use Rattle.tap_history.specs.Refusals.{first_refusal, refusals, refuses_departing, refuses_no_such_node, refuses_not_at_rest, refuses_not_core}
use Rattle.tap_history.specs.StepAsks.{actor_of, depart_name}
use Rattle.tap_history.proofs.RecordChanges.{record_changes_hold}
use Rattle.tap_history.proofs.OneMoreGroup.{one_more_group_holds}
use Rattle.tap_rule.specs.Node.{NodeState, Status, joiner}
use Rattle.tap_rule.specs.Node.Status.{Joining, Core, Leaving, Gone, Ceased}
use Rattle.tap_rule.specs.Event.{Acted, Start}
use Rattle.tap_rule.specs.Event.Event.{Starts}
use Rattle.tap_rule.specs.Event.Start.{Join as StartJoin, Abandon as StartAbandon, Publish as StartPublish, Withdraw as StartWithdraw, Leave as StartLeave}
use Rattle.tap_rule.specs.Act.{act}
use Rattle.tap_safety.specs.Move.{Move}
use Rattle.tap_safety.specs.Move.Move.{Begins, Delivers}
use Rattle.tap_safety.specs.Moved.{delivered, departing_by, departing_with, moved, numbered_frame, received, starter}
use Rattle.tap_safety.specs.Remembered.{Leaver}
use Rattle.tap_safety.specs.Exchanges.{numbered_from}
use Rattle.tap_safety.specs.System.{System}
use Rattle.tap_safety.proofs.Moved.{starts}
use Rattle.tap_safety.specs.AtRest.{system_at_rest}
use Rattle.tap_runs.specs.Beginning.{Beginning, begin_record}
use Rattle.tap_runs.specs.Starts.{announced, start_of_step}
use Rattle.tap_runs.specs.Acts.{acted_records}
use Rattle.tap_runs.specs.Group.{records_of_act, start_at}
use Rattle.tap_runs.specs.Course.{Follows, IsCourse, MayFollow, move_of_group, moved_by, system_of}
use Rattle.tap_runs.specs.Observed.{counts_as_core, has_ended, is_core_node, is_joining_status}
use Rattle.tap_runs.specs.CourseLaws.{CourseNodes, frame_numbers, is_joining_node, is_present_node}
use Rattle.tap_runs.proofs.Within.{IsIdle, IsStarting, Within, is_accepted, is_group, step_kind, step_within, taken_within}
use Rattle.tap_runs.proofs.CourseGrows.{by_groups, grown, grown_going, grown_system, start_system, starts_begun, starts_uncarried}
use Rattle.tap_runs.proofs.Frames.{course_frames_holds, starting_moves, step_moves, taken_moves}
use Rattle.tap_runs.proofs.Nodes.{Agree, HasNoStep, acted_accepted, cause_fails, first_none, named_in_group, no_steps, nodes_agree, none_accepted, name_at, none_named, start_in, starts_of, step_begins, taken_begins, taken_no_step}

abbrev name_of_leaver : Option Leaver → Option (List ℕ)
name_of_leaver leaver = option_map (λ l. l.name) leaver

-- the same node departs, and none does at rest
pub record SameDeparts (log : List Record) (s : System) : Type 0 where
  pub departing : departing_of log ≡ name_of_leaver s.departing
  pub at_rest : s.frames ≡ [] → s.departing ≡ None

-- ---- one more group

-- who departs after a group that leaves these frames under way
abbrev departs_after : List (ℕ × Frame) → Option (List ℕ) → Option (List ℕ)
departs_after frames departing = if is_none (frame_numbers frames) then None else departing

module _ (log : List Record) (first : Record) (after : List Record) (group : IsGroup log first after) (uncarried : is_carried log ≡ false)
    (s' : System) (frames : frame_numbers s'.frames ≡ outstanding (log ++ first ∷ after)) (names : List (List ℕ))
    (named : filter_map depart_name (accepted_in false (first ∷ after)) ≡ names) where
  departs : departing_of (log ++ first ∷ after) ≡ departs_after s'.frames (last_or (departing_of log) names)
  departs =
      one_more_group_holds.departing log first after group
      ∙ ap (λ c. if is_still (log ++ first ∷ after) then None
      else last_or (departing_of log) (filter_map depart_name (accepted_in c (first ∷ after))))
      uncarried
      ∙ ap (λ l. if is_still (log ++ first ∷ after) then None else last_or (departing_of log) l) named
      ∙ ap (λ l. if is_none l then None else last_or (departing_of log) names) (sym frames)

departs_with : (frames : List (ℕ × Frame)) (leaver : Option Leaver)
    → departs_after frames (name_of_leaver leaver) ≡ name_of_leaver (departing_with frames leaver)
departs_with [] leaver = refl
departs_with (f ∷ fs) leaver = refl

-- the system stays
stays_same : (frames : List (ℕ × Frame)) (leaver : Option Leaver) → (frames ≡ [] → leaver ≡ None)
    → departs_after frames (name_of_leaver leaver) ≡ name_of_leaver leaver
stays_same [] leaver rest = sym (ap name_of_leaver (rest refl))
stays_same (f ∷ fs) leaver rest = refl

with_none : (frames : List (ℕ × Frame)) (leaver : Option Leaver) → frames ≡ [] → departing_with frames leaver ≡ None
with_none frames leaver none = ap (λ l. departing_with l leaver) none

no_departure : (step : Step) → actor_of step ≡ None → depart_name step ≡ None
unfolding actor_of depart_name
no_departure (Depart name) none = absurd (cc)
no_departure step none = refl

no_numbers : (frames : List (ℕ × Frame)) → length (frame_numbers frames) ≡ 0 → frames ≡ []
no_numbers [] none = refl
no_numbers (f ∷ fs) none = absurd (omega (arith, none))

-- a departure is accepted at rest
departs_at_rest : (log : List Record) (name : List ℕ) → first_refusal log (Depart name) ≡ None → length (outstanding log) ≡ 0
unfolding refuses_not_at_rest depart_name
departs_at_rest log name accepted =
    let step = Depart name in
    let frames = length (outstanding log) in
    let one = (first_none (refuses_no_such_node log step) (drop 1 (refusals log step)) accepted).1 in
    let two = (first_none (refuses_not_core log step) (drop 2 (refusals log step)) one).1 in
    let three = (first_none (refuses_departing log step) (drop 3 (refusals log step)) two).1 in
    no_frames frames
    (cause_fails (nat_lt 0 frames) (NotAtRest frames) (first_none (refuses_not_at_rest log step) (drop 4 (refusals log step)) three).0)
  where
    no_frames : (n : ℕ) → nat_lt 0 n ≡ false → n ≡ 0
    no_frames n none = let least = ltb-false 0 n none in omega (arith, least)

-- ---- a start

module _ (p : SettingsValue) (s : System) (name : List ℕ) (start : Start) (node : NodeState)
    (begins : starter p s name start ≡ Some node) where
  abbrev begun : System
  begun = moved p s (Begins name start)

  departing_begun : begun.departing ≡ departing_with begun.frames (departing_by node name start s.departing)
  unfolding moved
  departing_begun = rw begins refl

-- who departs after a frame is taken, whether or not its receiver is a node
received_departing : (p : SettingsValue) (s : System) (number : ℕ) (frame : Frame) → numbered_frame number s.frames ≡ Some frame
    → (moved p s (Delivers number)).departing ≡ departing_with (moved p s (Delivers number)).frames s.departing
unfolding moved
received_departing p s number frame is =
    subst (λ f. (delivered s number f).departing ≡ departing_with (delivered s number f).frames s.departing) (sym is)
    (by_node (s.node frame.to))
  where
    by_node : (node : Option NodeState)
        → (received s number frame node).departing ≡ departing_with (received s number frame node).frames s.departing
    by_node None = refl
    by_node (Some node) = refl

nothing_received : (p : SettingsValue) (s : System) (number : ℕ) → numbered_frame number s.frames ≡ None → moved p s (Delivers number) ≡ s
unfolding moved
nothing_received p s number is = rw is refl

-- what starts is a departure, or has no part in one
module _ (log : List Record) (name : List ℕ) (start : Start) where
  no_part : (x : List ℕ) (first : Start) → ◌≡◌ {A = Option (List ℕ × Start)} (Some (x, first)) (Some (name, start))
      → ((node : NodeState) (leaver : Option Leaver) → departing_by node name first leaver ≡ leaver)
      → (node : NodeState) (leaver : Option Leaver) → departing_by node name start leaver ≡ leaver
  no_part x first at none node leaver = ap (λ w. departing_by node name w leaver) (sym (ap (start_in first) at)) ∙ none node leaver

  departs_or_not : (step : Step) → start_at log step ≡ Some (name, start)
      → ((step ≡ Depart name) × (start ≡ StartLeave))
      ⊎ ((depart_name step ≡ None) × ((node : NodeState) (leaver : Option Leaver) → departing_by node name start leaver ≡ leaver))
  unfolding actor_of start_of_step depart_name
  departs_or_not (Depart node) at = inl (ap (λ x. Depart x) (ap name_at at), sym (ap (start_in StartLeave) at))
  departs_or_not (Join newcomer via) at = inr (refl, no_part newcomer (StartJoin via) at (λ node leaver. refl))
  departs_or_not (Publish object server) at = inr (refl, no_part server (StartPublish object) at (λ node leaver. refl))
  departs_or_not (Withdraw object server) at = inr (refl, no_part server (StartWithdraw object) at (λ node leaver. refl))
  departs_or_not (Find object asker) at = inr (refl, no_part asker _ at (λ node leaver. refl))
  departs_or_not (Abandon node) at = inr (refl, no_part node StartAbandon at (λ node leaver. refl))
  departs_or_not (Cast word prefix asker) at = inr (refl, no_part asker _ at (λ node leaver. refl))
  departs_or_not step at = absurd (cc)

module _ (p : SettingsValue) (log : List Record) (s : System) (uncarried : is_carried log ≡ false) (index : ℕ) (step : Step)
    (items : List Record) (group : IsGroup log (StepRecord index step) items) (none : All HasNoStep items)
    (starting : IsStarting p log s step items) (node : NodeState)
    (begins : starter p s starting.name starting.start ≡ Some node) (was : SameDeparts log s)
    (before : frame_numbers s.frames ≡ outstanding log) where
  abbrev name : List ℕ
  name = starting.name

  abbrev s' : System
  s' = moved p s (Begins starting.name starting.start)

  now : s'.departing ≡ departing_with s'.frames (departing_by node name starting.start s.departing)
  now = departing_begun p s name starting.start node begins

  module _ (after : frame_numbers s'.frames ≡ outstanding (log ++ StepRecord index step ∷ items)) where
    other_departs : depart_name step ≡ None → ((leaver : Option Leaver) → departing_by node name starting.start leaver ≡ leaver)
        → departing_of (log ++ StepRecord index step ∷ items) ≡ name_of_leaver s'.departing
    other_departs plain same =
        departs log (StepRecord index step) items group uncarried s' after [] (none_named depart_name index step items none (inr plain))
        ∙ ap (departs_after s'.frames) was.departing ∙ departs_with s'.frames s.departing
        ∙ sym (ap name_of_leaver (now ∙ ap (departing_with s'.frames) (same s.departing)))

    -- a departure
    module _ (leaves : step ≡ Depart name) (leave : starting.start ≡ StartLeave) where
      abbrev acted : Acted
      acted = act node (Starts starting.start)

      frames_are : s'.frames ≡ numbered_from s.next acted.sent
      frames_are =
          let rest = departs_at_rest log name (ap (first_refusal log) (sym leaves) ∙ starting.accepted) in
          let frames = no_numbers s.frames (ap length before ∙ rest) in
          (starts p s name starting.start node begins).sent.after ∙ ap (λ l. l ++ numbered_from s.next acted.sent) frames

      items_are : items ≡ acted_records p (sent_count log) name acted
      unfolding announced
      items_are =
          starting.are
          ∙ ap (λ st. announced log st ++ records_of_act p log name (starter p s name starting.start) (Starts starting.start)) leaves
          ∙ ap (λ n. records_of_act p log name n (Starts starting.start)) begins

      silent_departs : s'.frames ≡ [] → departing_of (log ++ StepRecord index step ∷ items) ≡ name_of_leaver s'.departing
      silent_departs empty =
          departs log (StepRecord index step) items group uncarried s' after _ refl
          ∙ ap (λ l. departs_after l
          (last_or (departing_of log) (filter_map depart_name (accepted_in false (StepRecord index step ∷ items))))) empty
          ∙ sym (ap name_of_leaver (now ∙ with_none s'.frames (departing_by node name starting.start s.departing) empty))

      named : is_accepted items ≡ true → filter_map depart_name (accepted_in false (StepRecord index step ∷ items)) ≡ name ∷ []
      unfolding depart_name
      named accepted =
          named_in_group depart_name index step items none
          ∙ ap (λ b. if b then cons_option (depart_name step) [] else []) accepted
          ∙ ap (λ st. cons_option (depart_name st) []) leaves

      loud_departs : (frame : Frame) (frames : List Frame) → acted.sent ≡ frame ∷ frames
          → departing_of (log ++ StepRecord index step ∷ items) ≡ name_of_leaver s'.departing
      loud_departs frame frames sends =
          let accepted : is_accepted items ≡ true =
          ap is_accepted items_are ∙ acted_accepted p (sent_count log) name acted frame frames sends in
          departs log (StepRecord index step) items group uncarried s' after (name ∷ []) (named accepted)
          ∙ departs_with s'.frames (departing_by node name StartLeave s.departing)
          ∙ sym (ap name_of_leaver (now ∙ ap (λ w. departing_with s'.frames (departing_by node name w s.departing)) leave))

      leaver_departs : (sent : List Frame) → acted.sent ≡ sent
          → departing_of (log ++ StepRecord index step ∷ items) ≡ name_of_leaver s'.departing
      leaver_departs [] sends = silent_departs (frames_are ∙ ap (numbered_from s.next) sends)
      leaver_departs (frame ∷ frames) sends = loud_departs frame frames sends

    start_departs : SameDeparts (log ++ StepRecord index step ∷ items) s'
    start_departs = record {
      departing = elim (departs_or_not log name starting.start step starting.at) [
        | inl leaves ↦ leaver_departs leaves.0 leaves.1 (act node (Starts starting.start)).sent refl
        | inr other ↦ other_departs other.0 (other.1 node)
      ];
      at_rest = λ empty. now ∙ with_none s'.frames (departing_by node name starting.start s.departing) empty;
    }

-- ---- a group that may follow

module _ (p : SettingsValue) (log : List Record) (s : System) (begun : 1 ≤ length log) (uncarried : is_carried log ≡ false)
    (agree : Agree log s) (was : SameDeparts log s) (before : frame_numbers s.frames ≡ outstanding log) where
  idle_departs : (index : ℕ) (step : Step) (items : List Record) → All Within items → IsIdle log step items
      → frame_numbers s.frames ≡ outstanding (log ++ StepRecord index step ∷ items)
      → SameDeparts (log ++ StepRecord index step ∷ items) s
  idle_departs index step items within idle after =
      let plain : (is_accepted items ≡ false) ⊎ (depart_name step ≡ None) =
      elim (idle.plain) [ inl not_accepted ↦ inl not_accepted | inr none ↦ inr (no_departure step none) ] in
      let group = is_group log (StepRecord index step) items begun uncarried (step_begins index step) within in
      record {
        departing =
            departs log (StepRecord index step) items group uncarried s after []
            (none_named depart_name index step items (no_steps items within) plain)
            ∙ ap (departs_after s.frames) was.departing ∙ stays_same s.frames s.departing was.at_rest;
        at_rest = was.at_rest;
      }

  starting_departs : (index : ℕ) (step : Step) (items : List Record) → All Within items → (starting : IsStarting p log s step items)
      → frame_numbers (moved p s (Begins starting.name starting.start)).frames ≡ outstanding (log ++ StepRecord index step ∷ items)
      → SameDeparts (log ++ StepRecord index step ∷ items) (moved p s (Begins starting.name starting.start))
  starting_departs index step items within starting after =
      let group = is_group log (StepRecord index step) items begun uncarried (step_begins index step) within in
      let none = no_steps items within in
      elim (starts_of p log s agree step starting.name starting.start starting.accepted starting.at) [
        | inl new ↦
            start_departs p log s uncarried index step items group none starting (joiner p starting.name)
            (ap (starter p s starting.name) new.start_is) was before after
        | inr there ↦
            start_departs p log s uncarried index step items group none starting there.node there.starts was before after
      ]

  module _ (number : ℕ) (items : List Record) (within : All Within items)
      (after : frame_numbers (moved p s (Delivers number)).frames ≡ outstanding (log ++ Taken number ∷ items)) where
    abbrev left : System
    left = moved p s (Delivers number)

    departs_now : departing_of (log ++ Taken number ∷ items) ≡ departs_after left.frames (name_of_leaver s.departing)
    departs_now =
        let group = is_group log (Taken number) items begun uncarried (taken_begins number) within in
        let named = ap (filter_map depart_name)
        (none_accepted (Taken number ∷ items) (All-cons HasNoStep (Taken number) items (taken_no_step number) (no_steps items within))) in
        departs log (Taken number) items group uncarried left after [] named ∙ ap (departs_after left.frames) was.departing

    taken_departs : (frame : Option Frame) → numbered_frame number s.frames ≡ frame → SameDeparts (log ++ Taken number ∷ items) left
    taken_departs None is =
        let stays = nothing_received p s number is in
        record {
          departing =
              departs_now ∙ ap (λ t. departs_after t.frames (name_of_leaver s.departing)) stays
              ∙ stays_same s.frames s.departing was.at_rest ∙ sym (ap (λ t. name_of_leaver t.departing) stays);
          at_rest = λ empty. ap (λ t. t.departing) stays ∙ was.at_rest (sym (ap (λ t. t.frames) stays) ∙ empty);
        }
    taken_departs (Some frame) is =
        let now = received_departing p s number frame is in
        record {
          departing = departs_now ∙ departs_with left.frames s.departing ∙ sym (ap name_of_leaver now);
          at_rest = λ empty. now ∙ with_none left.frames s.departing empty;
        }

  departs_step : (group : List Record) → MayFollow p log s group
      → frame_numbers (moved_by p s (move_of_group log group)).frames ≡ outstanding (log ++ group)
      → SameDeparts (log ++ group) (moved_by p s (move_of_group log group))
  unfolding MayFollow
  departs_step (StepRecord index step ∷ items) may after =
      let within = step_within p log s index step items may in
      let group = StepRecord index step ∷ items in
      let Frames : Option Move → Type 0 = λ m. frame_numbers (moved_by p s m).frames ≡ outstanding (log ++ group) in
      let Departs : Option Move → Type 0 = λ m. SameDeparts (log ++ group) (moved_by p s m) in
      elim (step_kind p log s index step items may) [
        | inl idle ↦
            let still = step_moves log index step items ∙ idle.still in
            subst Departs (sym still) (idle_departs index step items within idle (subst Frames still after))
        | inr starting ↦
            let moves = starting_moves p log s index step items starting in
            subst Departs (sym moves) (starting_departs index step items within starting (subst Frames moves after))
      ]
  departs_step (Taken number ∷ items) may after =
      let within = taken_within p log s number items may in
      let group = Taken number ∷ items in
      let Frames : Option Move → Type 0 = λ m. frame_numbers (moved_by p s m).frames ≡ outstanding (log ++ group) in
      let Departs : Option Move → Type 0 = λ m. SameDeparts (log ++ group) (moved_by p s m) in
      let moves = taken_moves log number items in
      subst Departs (sym moves)
      (taken_departs number items within (subst Frames moves after) (numbered_frame number s.frames) refl)
  departs_step group may after = absurd may

-- ---- the nodes of a course

module _ (b : Beginning) where
  departs_begin : SameDeparts (begin_record b ∷ []) (system_at_rest b.settings b.members)
  departs_begin = record {
    departing = (record_changes_hold.begins b.settings b.frames b.members).departing;
    at_rest = λ empty. refl;
  }

  departs_grow : (log group : List Record) → IsCourse b log → is_ended log ≡ false → Follows b log group
      → SameDeparts log (system_of log) → SameDeparts (log ++ group) (system_of (log ++ group))
  departs_grow log group course going follows was =
      let grows = grown_system b log group course going follows in
      let after =
      course_frames_holds b (log ++ group) (grown b log group course going follows) (grown_going b log group course going follows) in
      subst (SameDeparts (log ++ group)) (sym grows)
      (departs_step b.settings log (system_of log) (starts_begun log (begin_record b) course.begins)
      (starts_uncarried log (begin_record b) course.begins) (nodes_agree b log course going) was
      (course_frames_holds b log course going).numbers group follows.may
      (ap (λ s. frame_numbers s.frames) (sym grows) ∙ after.numbers))

  same_departs : (log : List Record) → IsCourse b log → is_ended log ≡ false → SameDeparts log (system_of log)
  same_departs = by_groups b (λ log. SameDeparts log (system_of log)) departs_grow
      (subst (SameDeparts (begin_record b ∷ [])) (sym (start_system b)) departs_begin)

joins_if : (node : Option NodeState) → (is_present_node node && not (is_core_node node)) ≡ is_joining_node node
joins_if None = refl
joins_if (Some node) = by_status node.status
  where
    by_status : (status : Status) → (not (has_ended status) && not (counts_as_core status)) ≡ is_joining_status status
    by_status Joining = refl
    by_status Core = refl
    by_status Leaving = refl
    by_status Gone = refl
    by_status Ceased = refl

pub course_nodes_holds : CourseNodes
course_nodes_holds b log course going =
    let agree = nodes_agree b log course going in
    let s = system_of log in
    record {
      core = agree.core;
      present = agree.present;
      gone = agree.gone;
      ever = agree.ever;
      joining = λ x.
          ap (λ there. there && not (has_name (core_of log) x)) (agree.present x)
          ∙ ap (λ core. is_present_node (s.node x) && not core) (agree.core x) ∙ joins_if (s.node x);
      departing = (same_departs b log course going).departing;
    }
