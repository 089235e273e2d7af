-- What a log says of its system and its names, once a step stands alone after it, a refusal, or how the run has ended.
-- Cited above: end_system, pending_system, refused_names, system_group
use Rattle.std.proofs.Common.{◌≡◌, ℕ, ◌≤◌, Bool, true, false, List, [], ◌∷◌, ◌++◌, length, take, Option, None, Some, refl, ap, sym, ◌∙◌, arith, append-nil, append_assoc}
use Rattle.std.specs.Prelude.{◌&&◌, fold, if◌then◌else◌}
use Rattle.std.specs.List.{cons_option, filter_map}
use Rattle.std.proofs.lemmas.List.Elements.{All-nil}
use Rattle.tap_name.specs.Settings.{SettingsValue}
use Rattle.tap_scenario.specs.declared.step.Step.{Step}
use Rattle.tap_scenario.specs.declared.step.Step.TheVariants.{Join}
use Rattle.tap_log.specs.declared.record.Record.{Record}
use Rattle.tap_log.specs.declared.record.Record.TheVariants.{Carrier, Finished, Refused, Spent, Step as StepRecord}
use Rattle.tap_log.specs.declared.record.Refusal.{Refusal}
use Rattle.tap_log.specs.Kinds.{accepts, begin_members, begins_group, is_carried, step_of}
use Rattle.tap_log.specs.MoreRecords.{at_most_one}
use Rattle.tap_log.specs.Log.{last_of}
use Rattle.tap_log.proofs.MoreRecords.{is_carried-push}
use Rattle.tap_history.specs.Core.{accepted_step}
use Rattle.tap_history.specs.GroupLaws.{IsGroup}
use Rattle.tap_history.specs.Groups.{after_beginning, beginning_of, can_be_cut, ends_log, groups_of, is_ended, is_ending, is_lengthened, is_spent, records_of}
use Rattle.tap_history.specs.Names.{names_of, with_name}
use Rattle.tap_history.specs.RecordLaws.{accepted_next}
use Rattle.tap_history.specs.Refusals.{first_refusal}
use Rattle.tap_history.specs.StepAsks.{actor_of, join_name}
use Rattle.tap_history.proofs.RecordChanges.{names_of-push}
use Rattle.tap_history.proofs.Parts.{beginning_of-group, groups_of-ended, groups_of-group}
use Rattle.tap_rule.specs.Act.{act}
use Rattle.tap_rule.specs.Event.Event.{Starts}
use Rattle.tap_rule.specs.Event.Start.{Join as StartJoin}
use Rattle.tap_rule.specs.Node.{joiner}
use Rattle.tap_rule.specs.Sending.{by_receiver}
use Rattle.tap_rule.proofs.StartSteps.{seek_start_law}
use Rattle.tap_safety.specs.AtRest.{system_at_rest}
use Rattle.tap_safety.specs.System.{System}
use Rattle.tap_log.specs.Counts.{sent_count}
use Rattle.tap_runs.specs.Acts.{acted_records}
use Rattle.tap_runs.specs.Beginning.{Beginning, begin_record}
use Rattle.tap_runs.specs.Course.{IsCourse, MayFollow, is_choice, move_of_group, move_of_start, moved_by, system_after, system_from, system_of}
use Rattle.tap_runs.specs.Group.{accepted_records, records_unless, start_at}
use Rattle.tap_runs.specs.Starts.{announced, start_of_step}
use Rattle.tap_runs.proofs.Frames.{step_moves}
use Rattle.tap_runs.proofs.CourseGrows.{log_is}
use Rattle.tap_runs.proofs.Nodes.{acted_accepted}
use Rattle.tap_runs.proofs.Within.{is_accepted, is_group}
use Rattle.tap_engine.proofs.Courses.{course_begun, course_uncarried, last_step}

-- ---- the system after a group, whether or not it may follow

after_push : (p : SettingsValue) (before : List Record) (s : System) (groups : List (List Record)) (group : List Record)
    → system_after p before s (groups ++ group ∷ [])
    ≡ moved_by p (system_after p before s groups) (move_of_group (before ++ records_of groups) group)
after_push p before s [] group = ap (λ l. moved_by p s (move_of_group l group)) (sym (append-nil before))
after_push p before s (one ∷ groups) group =
    let next = moved_by p s (move_of_group before one) in
    after_push p (before ++ one) next groups group
    ∙ ap (λ l. moved_by p (system_after p (before ++ one) next groups) (move_of_group l group))
    (append_assoc before one (records_of groups))

from_begin : (b : Beginning) (groups : List (List Record))
    → system_from (begin_record b ∷ []) groups ≡ system_after b.settings (begin_record b ∷ []) (system_at_rest b.settings b.members) groups
unfolding system_from
from_begin b groups = refl

module _ (b : Beginning) (log : List Record) (course : IsCourse b log) (going : is_ended log ≡ false) where
  begin_then : system_of log ≡ system_after b.settings (begin_record b ∷ []) (system_at_rest b.settings b.members) (groups_of log)
  begin_then = ap (λ l. system_from l (groups_of log)) course.begins ∙ from_begin b (groups_of log)

  pub system_group : (first : Record) (after : List Record) → IsGroup log first after → is_ended (first ∷ after) ≡ false
      → system_of (log ++ first ∷ after) ≡ moved_by b.settings (system_of log) (move_of_group log (first ∷ after))
  system_group first after group whole =
      let p = b.settings in
      let start = begin_record b ∷ [] in
      let rest = system_at_rest p b.members in
      let all = first ∷ after in
      ap (λ l. system_from l (groups_of (log ++ all))) (beginning_of-group log first after group ∙ course.begins)
      ∙ ap (system_from start) (groups_of-group log first after group going whole)
      ∙ from_begin b (groups_of log ++ all ∷ [])
      ∙ after_push p start rest (groups_of log) all
      ∙ ap (λ l. moved_by p (system_after p start rest (groups_of log)) (move_of_group l all)) (log_is b log course going)
      ∙ ap (λ s. moved_by p s (move_of_group log all)) (sym begin_then)

  step_group_is : (index : ℕ) (step : Step) → IsGroup log (StepRecord index step) []
  unfolding begins_group
  step_group_is index step =
      is_group log (StepRecord index step) [] (course_begun b log course) (course_uncarried b log course) refl
      (All-nil _)

  step_goes_on : (index : ℕ) (step : Step) → is_ended (StepRecord index step ∷ []) ≡ false
  unfolding ends_log
  step_goes_on index step = refl

  -- a step that is refused, and isn't followed by its refusal yet, leaves the system
  pub pending_system : (index : ℕ) (step : Step) (refusal : Refusal) → first_refusal log step ≡ Some refusal
      → system_of (log ++ StepRecord index step ∷ []) ≡ system_of log
  pending_system index step refusal is =
      system_group (StepRecord index step) [] (step_group_is index step) (step_goes_on index step)
      ∙ ap (moved_by b.settings (system_of log))
      (step_moves log index step [] ∙ ap (λ r. move_of_start r (start_at log step)) is)

  -- ---- the end of all steps

  end_carried : (steps : ℕ) → is_carried (log ++ Finished steps ∷ []) ≡ is_carried log
  end_carried steps = is_carried-push log (Finished steps) (λ same. let never : Finished steps ≡ Carrier = same in cc)

  first_stays : (items : List Record) (item : Record) → 1 ≤ length items → take 1 (items ++ item ∷ []) ≡ take 1 items
  first_stays [] item begun = absurd (omega (arith, begun))
  first_stays (first ∷ items) item begun = refl

  end_beginning : (steps : ℕ) → beginning_of (log ++ Finished steps ∷ []) ≡ beginning_of log
  end_beginning steps =
      let uncarried = course_uncarried b log course in
      ap (λ c. take (if c then 2 else 1) (log ++ Finished steps ∷ [])) (end_carried steps ∙ uncarried)
      ∙ first_stays log (Finished steps) (course_begun b log course)
      ∙ sym (ap (λ c. take (if c then 2 else 1) log) uncarried)

  end_is : (steps : ℕ) (carried : Bool) → is_ending carried (Finished steps ∷ []) ≡ true
  unfolding ends_log
  end_is steps carried = refl

  end_alone : (steps : ℕ) (carried : Bool) (last : Option Record) → is_lengthened carried last (Finished steps ∷ []) ≡ false
  unfolding is_spent
  end_alone steps carried None = refl
  end_alone steps carried (Some item) = never (can_be_cut carried item)
    where
      never : (cut : Bool) → (cut && false) ≡ false
      never true = refl
      never false = refl

  end_groups : (steps : ℕ) → groups_of (log ++ Finished steps ∷ []) ≡ groups_of log
  end_groups steps =
      let c = is_carried log in
      (groups_of-ended log (Finished steps) [] (course_begun b log course) going (end_is steps c)
      (end_alone steps c (last_of (after_beginning log)))).0

  pub end_system : (steps : ℕ) → system_of (log ++ Finished steps ∷ []) ≡ system_of log
  end_system steps =
      ap (λ l. system_from l (groups_of (log ++ Finished steps ∷ []))) (end_beginning steps) ∙ ap (system_from (beginning_of log)) (end_groups steps)

-- ---- the names that were ever present

-- a record that accepts no step adds no name
none_accepted : (carried : Bool) (last : Option Record) (item : Record) → accepts carried item ≡ false → accepted_next carried last item ≡ []
unfolding accepted_step
none_accepted carried None item is = refl
none_accepted carried (Some last) item is = ap (λ b. at_most_one (if b then step_of last else None)) is

pub names_stay : (log : List Record) (item : Record) → begin_members item ≡ [] → accepts (is_carried log) item ≡ false
    → names_of (log ++ item ∷ []) ≡ names_of log
names_stay log item none is =
    names_of-push log item none
    ∙ ap (λ l. fold with_name (names_of log) (filter_map join_name l)) (none_accepted (is_carried log) (last_of log) item is)

pub step_names : (log : List Record) (index : ℕ) (step : Step) → names_of (log ++ StepRecord index step ∷ []) ≡ names_of log
unfolding accepts begins_group begin_members
step_names log index step = names_stay log (StepRecord index step) refl refl

pub refused_names : (log : List Record) (index : ℕ) (refusal : Refusal) → names_of (log ++ Refused index refusal ∷ []) ≡ names_of log
unfolding accepts begin_members
refused_names log index refusal = names_stay log (Refused index refusal) refl refl

pub spent_names : (log : List Record) (limit : ℕ) → names_of (log ++ Spent limit ∷ []) ≡ names_of log
unfolding accepts begin_members
spent_names log limit = names_stay log (Spent limit) refl refl

-- a join that isn't refused is accepted: the one that joins sends a frame
join_sends : (p : SettingsValue) (number : ℕ) (name via : List ℕ)
    → is_accepted (acted_records p number name (act (joiner p name) (Starts (StartJoin via)))) ≡ true
unfolding by_receiver
join_sends p number name via =
    acted_accepted p number name (act (joiner p name) (Starts (StartJoin via))) _ _ (seek_start_law (joiner p name) via refl).completed.sent.all

module _ (p : SettingsValue) (log : List Record) (s : System) (index : ℕ) (name via : List ℕ) where
  join_records : accepted_records p log s (Join name via) ≡ acted_records p (sent_count log) name (act (joiner p name) (Starts (StartJoin via)))
  unfolding accepted_records actor_of start_of_step announced
  join_records = refl

  never_alone : (refusal : Option Refusal) → [] ≡ records_unless p log s index (Join name via) refusal → ⊥
  never_alone (Some refusal) none = let wrong : [] ≡ Refused index refusal ∷ [] = none in absurd (cc)
  never_alone None none =
      let wrong : false ≡ true =
      ap is_accepted (none ∙ join_records) ∙ join_sends p (sent_count log) name via in
      absurd (cc)

-- no join stands alone in a group
unjoined : (p : SettingsValue) (log : List Record) (s : System) (index : ℕ) (step : Step)
    → MayFollow p log s (StepRecord index step ∷ []) → join_name step ≡ None
unfolding MayFollow join_name is_choice
unjoined p log s index (Join name via) may = absurd (never_alone p log s index name via (first_refusal log (Join name via)) may)
unjoined p log s index step may = refl

-- the end of all steps accepts no join
module _ (b : Beginning) (log : List Record) (course : IsCourse b log) (going : is_ended log ≡ false) (steps : ℕ) where
  names_by : (last : Record) → last_of log ≡ Some last
      → filter_map join_name (at_most_one (accepted_step (is_carried log) (last, Finished steps))) ≡ []
  unfolding accepted_step accepts begins_group
  names_by (StepRecord index step) is =
      let ends = last_step b log index step course going is in
      ap (λ n. cons_option n []) (unjoined b.settings ends.before (system_of ends.before) index step ends.follows.may)
  names_by last is = refl

  named_by : (last : Option Record) → last_of log ≡ last → filter_map join_name (accepted_next (is_carried log) last (Finished steps)) ≡ []
  named_by None is = refl
  named_by (Some last) is = names_by last is

  pub end_names : names_of (log ++ Finished steps ∷ []) ≡ names_of log
  unfolding begin_members
  end_names = names_of-push log (Finished steps) refl ∙ ap (fold with_name (names_of log)) (named_by (last_of log) refl)
