-- A log to which is added how its run has ended, or a step that is refused, says of nodes and frames what it said before.
-- Cited above: cut_carried, cut_says, cut_system, finished_groups, finished_is_carried, finished_says, finished_system, IsOpen, no_start_after,
-- nothing_moves, open_after_step, refused_system, run_is_open, same_beginning, SaysTheSame, spent_groups, spent_is_carried, spent_says, spent_system,
-- start_groups, starts_no_join, step_groups, step_is_carried, step_says
use Rattle.std.proofs.Common.{◌≡◌, ℕ, ◌≤◌, Bool, true, false, List, [], ◌∷◌, ◌++◌, length, take, Option, None, Some, refl, ap, sym, subst, ◌∙◌, arith, append-nil, append_assoc}
use Rattle.std.specs.Prelude.{◌&&◌, drop, is_some, if◌then◌else◌}
use Rattle.std.specs.List.{cons_option, filter_map}
use Rattle.std.specs.Option.{option_zip}
use Rattle.std.proofs.lemmas.List.{take-append-le}
use Rattle.std.proofs.lemmas.List.Elements.{All-nil}
use Rattle.tap_name.specs.Settings.{SettingsValue}
use Rattle.tap_scenario.specs.declared.step.Step.{Step}
use Rattle.tap_scenario.specs.declared.step.Step.TheVariants.{Join}
use Rattle.tap_log.specs.declared.record.Record.{Record}
use Rattle.tap_log.specs.declared.record.Record.TheVariants.{Carrier, Finished, Spent, Step as StepRecord}
use Rattle.tap_log.specs.declared.record.Refusal.{Refusal}
use Rattle.tap_log.specs.Kinds.{abandoned_name, accepts, begins_group, gone_name, is_carried, sent_number, step_of, taken_number}
use Rattle.tap_log.specs.MoreRecords.{at_most_one}
use Rattle.tap_log.specs.Log.{last_of}
use Rattle.tap_log.proofs.MoreRecords.{filter_map-same, is_carried-push, last_of-push}
use Rattle.tap_history.specs.Core.{abandoned_of, accepted_step, core_of, gone_of, present_of}
use Rattle.tap_history.specs.GroupLaws.{IsGroup}
use Rattle.tap_history.specs.Groups.{after_beginning, beginning_of, can_be_cut, ends_log, groups_of, is_ended, is_ending, is_lengthened, is_spent, records_of}
use Rattle.tap_history.specs.Moments.{numbers_less, outstanding}
use Rattle.tap_history.specs.RecordLaws.{accepted_by, accepted_next}
use Rattle.tap_history.specs.Refusals.{first_refusal}
use Rattle.tap_history.specs.StepAsks.{actor_of, is_start, join_name}
use Rattle.tap_history.proofs.RecordChanges.{core_of-left, leaves_nodes, present_of-left}
use Rattle.tap_history.proofs.Parts.{beginning_of-group, groups_of-ended, groups_of-group, is_ended-append}
use Rattle.tap_rule.specs.Event.{Start}
use Rattle.tap_safety.specs.AtRest.{system_at_rest}
use Rattle.tap_safety.specs.System.{System}
use Rattle.tap_runs.specs.Beginning.{Beginning, begin_record}
use Rattle.tap_runs.specs.Course.{move_of_group, move_of_start, moved_by, system_after, system_from, system_of}
use Rattle.tap_runs.specs.Group.{start_at}
use Rattle.tap_runs.specs.Starts.{start_of_step}
use Rattle.tap_runs.proofs.Frames.{step_moves}
use Rattle.tap_runs.proofs.CourseGrows.{log_is, starts_begun, starts_uncarried}
use Rattle.tap_runs.proofs.Within.{is_group}
use Rattle.tap_safe_runs.specs.Safe.{IsRun}
use Rattle.tap_safe_runs.proofs.NeverAlone.{HasNoStartLast}

-- ---- nodes and frames

-- the longer log says of who takes part, and of what is outstanding, what the log says
pub record SaysTheSame (log longer : List Record) : Type 0 where
  pub core : core_of longer ≡ core_of log
  pub present : present_of longer ≡ present_of log
  pub abandoned : abandoned_of longer ≡ abandoned_of log
  pub gone : gone_of longer ≡ gone_of log
  pub frames : outstanding longer ≡ outstanding log

pub says_again : (log longer longest : List Record) → SaysTheSame log longer → SaysTheSame longer longest → SaysTheSame log longest
says_again log longer longest one other = record {
  core = other.core ∙ one.core;
  present = other.present ∙ one.present;
  abandoned = other.abandoned ∙ one.abandoned;
  gone = other.gone ∙ one.gone;
  frames = other.frames ∙ one.frames;
}

-- such a record tells of no node and of no frame
record IsSilent (item : Record) : Type 0 where
  leaves : leaves_nodes item ≡ true
  abandoned : abandoned_name item ≡ None
  gone : gone_name item ≡ None
  sent : sent_number item ≡ None
  taken : taken_number item ≡ None

step_silent : (index : ℕ) (step : Step) → IsSilent (StepRecord index step)
unfolding abandoned_name gone_name sent_number taken_number
step_silent index step = record { leaves = refl; abandoned = refl; gone = refl; sent = refl; taken = refl }

spent_silent : (limit : ℕ) → IsSilent (Spent limit)
unfolding abandoned_name gone_name sent_number taken_number
spent_silent limit = record { leaves = refl; abandoned = refl; gone = refl; sent = refl; taken = refl }

finished_silent : (steps : ℕ) → IsSilent (Finished steps)
unfolding abandoned_name gone_name sent_number taken_number
finished_silent steps = record { leaves = refl; abandoned = refl; gone = refl; sent = refl; taken = refl }

silent_says : (log : List Record) (item : Record) → IsSilent item → filter_map join_name (accepted_by log item) ≡ []
    → SaysTheSame log (log ++ item ∷ [])
silent_says log item silent joins = record {
  core = core_of-left log item silent.leaves;
  present = present_of-left log item silent.leaves joins;
  abandoned = filter_map-same abandoned_name log item silent.abandoned;
  gone = filter_map-same gone_name log item silent.gone;
  frames =
      ap (λ l. numbers_less l (filter_map taken_number (log ++ item ∷ []))) (filter_map-same sent_number log item silent.sent)
      ∙ ap (numbers_less (filter_map sent_number log)) (filter_map-same taken_number log item silent.taken);
}

-- a record that accepts no step lets nobody join
none_joins : (carried : Bool) (last : Option Record) (item : Record) → accepts carried item ≡ false
    → filter_map join_name (accepted_next carried last item) ≡ []
unfolding accepted_step
none_joins carried None item is = refl
none_joins carried (Some last) item is = ap (λ b. filter_map join_name (at_most_one (if b then step_of last else None))) is

pub step_says : (log : List Record) (index : ℕ) (step : Step) → SaysTheSame log (log ++ StepRecord index step ∷ [])
unfolding accepts begins_group
step_says log index step =
    silent_says log (StepRecord index step) (step_silent index step)
    (none_joins (is_carried log) (last_of log) (StepRecord index step) refl)

pub spent_says : (log : List Record) (limit : ℕ) → SaysTheSame log (log ++ Spent limit ∷ [])
unfolding accepts
spent_says log limit =
    silent_says log (Spent limit) (spent_silent limit) (none_joins (is_carried log) (last_of log) (Spent limit) refl)

pub cut_says : (log : List Record) (index : ℕ) (step : Step) (limit : ℕ)
    → SaysTheSame log (log ++ StepRecord index step ∷ Spent limit ∷ [])
cut_says log index step limit =
    let begun = log ++ StepRecord index step ∷ [] in
    subst (SaysTheSame log) (append_assoc log (StepRecord index step ∷ []) (Spent limit ∷ []))
    (says_again log begun (begun ++ Spent limit ∷ []) (step_says log index step) (spent_says begun limit))

-- who starts nothing doesn't join
pub starts_no_join : (step : Step) → is_start step ≡ false → join_name step ≡ None
unfolding actor_of join_name
starts_no_join (Join name via) none = absurd (cc)
starts_no_join step none = refl

-- how many steps were run accepts no join, if no start stands alone before it
finished_joins : (carried : Bool) (log : List Record) (last : Option Record) (steps : ℕ) → HasNoStartLast log → last_of log ≡ last
    → filter_map join_name (accepted_next carried last (Finished steps)) ≡ []
unfolding accepted_step accepts begins_group
finished_joins carried log None steps alone is = refl
finished_joins carried log (Some (StepRecord index step)) steps alone is =
    ap (λ name. cons_option name []) (starts_no_join step (alone index step is))
finished_joins carried log (Some last) steps alone is = refl

pub finished_says : (log : List Record) (steps : ℕ) → HasNoStartLast log → SaysTheSame log (log ++ Finished steps ∷ [])
finished_says log steps alone =
    silent_says log (Finished steps) (finished_silent steps)
    (finished_joins (is_carried log) log (last_of log) steps alone refl)

-- ---- the system

-- the beginning is the same
pub same_beginning : (log ending : List Record) → 1 ≤ length log → is_carried log ≡ false → is_carried (log ++ ending) ≡ false
    → beginning_of (log ++ ending) ≡ beginning_of log
same_beginning log ending begun uncarried still =
    ap (λ c. take (if c then 2 else 1) (log ++ ending)) still ∙ take-append-le 1 log ending begun
    ∙ sym (ap (λ c. take (if c then 2 else 1) log) uncarried)

-- with the same groups after it the system is the same
same_groups : (log ending : List Record) → 1 ≤ length log → is_carried log ≡ false → is_carried (log ++ ending) ≡ false
    → groups_of (log ++ ending) ≡ groups_of log → system_of (log ++ ending) ≡ system_of log
same_groups log ending begun uncarried still groups =
    ap (λ l. system_from l (groups_of (log ++ ending))) (same_beginning log ending begun uncarried still)
    ∙ ap (system_from (beginning_of log)) groups

finished_ends : (steps : ℕ) → is_ending false (Finished steps ∷ []) ≡ true
unfolding ends_log
finished_ends steps = refl

finished_alone : (steps : ℕ) (last : Option Record) → is_lengthened false last (Finished steps ∷ []) ≡ false
unfolding is_spent
finished_alone steps None = refl
finished_alone steps (Some item) = never (can_be_cut false item)
  where
    never : (cut : Bool) → (cut && false) ≡ false
    never true = refl
    never false = refl

spent_ends : (limit : ℕ) → is_ending false (Spent limit ∷ []) ≡ true
unfolding ends_log
spent_ends limit = refl

-- what is spent isn't that of a start, if none stands before it
spent_alone : (limit : ℕ) (last : Option Record) → ((index : ℕ) (step : Step) → last ≡ Some (StepRecord index step) → is_start step ≡ false)
    → is_lengthened false last (Spent limit ∷ []) ≡ false
unfolding is_spent can_be_cut
spent_alone limit None alone = refl
spent_alone limit (Some (StepRecord index step)) alone = ap (λ b. b && true) (alone index step refl)
spent_alone limit (Some item) alone = refl

last_after_first : (log : List Record) (last : Record) → last_of (drop 1 log) ≡ Some last → last_of log ≡ Some last
last_after_first [] last is = is
last_after_first (first ∷ []) last is = absurd (cc)
last_after_first (first ∷ next ∷ items) last is = is

cut_ends : (index : ℕ) (step : Step) (limit : ℕ) → is_start step ≡ true → is_ending false (StepRecord index step ∷ Spent limit ∷ []) ≡ true
unfolding is_spent can_be_cut
cut_ends index step limit starts = ap (λ b. b && true) starts

cut_alone : (index : ℕ) (step : Step) (limit : ℕ) (last : Option Record)
    → is_lengthened false last (StepRecord index step ∷ Spent limit ∷ []) ≡ false
cut_alone index step limit None = refl
cut_alone index step limit (Some item) = refl

pub spent_is_carried : (log : List Record) (limit : ℕ) → is_carried (log ++ Spent limit ∷ []) ≡ is_carried log
spent_is_carried log limit = is_carried-push log (Spent limit) (λ same. let never : Spent limit ≡ Carrier = same in cc)

pub step_is_carried : (log : List Record) (index : ℕ) (step : Step) → is_carried (log ++ StepRecord index step ∷ []) ≡ is_carried log
step_is_carried log index step =
    is_carried-push log (StepRecord index step) (λ same. let never : StepRecord index step ≡ Carrier = same in cc)

pub finished_is_carried : (log : List Record) (steps : ℕ) → is_carried (log ++ Finished steps ∷ []) ≡ is_carried log
finished_is_carried log steps = is_carried-push log (Finished steps) (λ same. let never : Finished steps ≡ Carrier = same in cc)

-- what a log is to which an ending may be added: it has begun, isn't carried and hasn't ended
pub record IsOpen (log : List Record) : Type 0 where
  pub begun : 1 ≤ length log
  pub uncarried : is_carried log ≡ false
  pub going : is_ended log ≡ false

module _ (log : List Record) (is_open : IsOpen log) where
  endings_of : (ending : List Record) → is_ending false ending ≡ true → is_ending (is_carried log) ending ≡ true
  endings_of ending is = ap (λ c. is_ending c ending) is_open.uncarried ∙ is

  lengthened_of : (ending : List Record) → is_lengthened false (last_of (drop 1 log)) ending ≡ false
      → is_lengthened (is_carried log) (last_of (after_beginning log)) ending ≡ false
  lengthened_of ending is =
      ap (λ c. is_lengthened c (last_of (drop (if c then 2 else 1) log)) ending) is_open.uncarried ∙ is

  pub finished_groups : (steps : ℕ) → groups_of (log ++ Finished steps ∷ []) ≡ groups_of log
  finished_groups steps =
      let ending = Finished steps ∷ [] in
      (groups_of-ended log (Finished steps) [] is_open.begun is_open.going (endings_of ending (finished_ends steps))
      (lengthened_of ending (finished_alone steps (last_of (drop 1 log))))).0

  pub finished_system : (steps : ℕ) → system_of (log ++ Finished steps ∷ []) ≡ system_of log
  finished_system steps =
      same_groups log (Finished steps ∷ []) is_open.begun is_open.uncarried (finished_is_carried log steps ∙ is_open.uncarried)
      (finished_groups steps)

  pub spent_groups : (limit : ℕ) → HasNoStartLast log → groups_of (log ++ Spent limit ∷ []) ≡ groups_of log
  spent_groups limit alone =
      let ending = Spent limit ∷ [] in
      (groups_of-ended log (Spent limit) [] is_open.begun is_open.going (endings_of ending (spent_ends limit))
      (lengthened_of ending (spent_alone limit (last_of (drop 1 log))
      (λ index step is. alone index step (last_after_first log (StepRecord index step) is))))).0

  pub spent_system : (limit : ℕ) → HasNoStartLast log → system_of (log ++ Spent limit ∷ []) ≡ system_of log
  spent_system limit alone =
      same_groups log (Spent limit ∷ []) is_open.begun is_open.uncarried (spent_is_carried log limit ∙ is_open.uncarried)
      (spent_groups limit alone)

  pub cut_carried : (index : ℕ) (step : Step) (limit : ℕ) → is_carried (log ++ StepRecord index step ∷ Spent limit ∷ []) ≡ false
  cut_carried index step limit =
      ap is_carried (sym (append_assoc log (StepRecord index step ∷ []) (Spent limit ∷ [])))
      ∙ spent_is_carried (log ++ StepRecord index step ∷ []) limit ∙ step_is_carried log index step ∙ is_open.uncarried

  -- of a start what is spent cuts the group short, and there is no more of it
  pub start_groups : (index : ℕ) (step : Step) (limit : ℕ) → is_start step ≡ true
      → groups_of (log ++ StepRecord index step ∷ Spent limit ∷ []) ≡ groups_of log
  start_groups index step limit starts =
      let ending = StepRecord index step ∷ Spent limit ∷ [] in
      (groups_of-ended log (StepRecord index step) (Spent limit ∷ []) is_open.begun is_open.going
      (endings_of ending (cut_ends index step limit starts))
      (lengthened_of ending (cut_alone index step limit (last_of (drop 1 log))))).0

  pub start_system : (index : ℕ) (step : Step) (limit : ℕ) → is_start step ≡ true
      → system_of (log ++ StepRecord index step ∷ Spent limit ∷ []) ≡ system_of log
  start_system index step limit starts =
      same_groups log (StepRecord index step ∷ Spent limit ∷ []) is_open.begun is_open.uncarried (cut_carried index step limit)
      (start_groups index step limit starts)

  pub step_group_is : (index : ℕ) (step : Step) → IsGroup log (StepRecord index step) []
  unfolding begins_group
  step_group_is index step =
      is_group log (StepRecord index step) [] is_open.begun is_open.uncarried refl (All-nil _)

  step_goes_on : (index : ℕ) (step : Step) → is_ended (StepRecord index step ∷ []) ≡ false
  unfolding ends_log
  step_goes_on index step = refl

  -- a step alone is one more group
  pub step_groups : (index : ℕ) (step : Step)
      → groups_of (log ++ StepRecord index step ∷ []) ≡ groups_of log ++ (StepRecord index step ∷ []) ∷ []
  step_groups index step =
      groups_of-group log (StepRecord index step) [] (step_group_is index step) is_open.going (step_goes_on index step)

  pub open_after_step : (index : ℕ) (step : Step) → IsOpen (log ++ StepRecord index step ∷ [])
  open_after_step index step = record {
    begun = longer log;
    uncarried = step_is_carried log index step ∙ is_open.uncarried;
    going = is_ended-append log (StepRecord index step) [] ∙ step_goes_on index step;
  }
    where
      longer : (l : List Record) → 1 ≤ length (l ++ StepRecord index step ∷ [])
      longer [] = omega arith
      longer (item ∷ items) = omega arith

-- ---- the system after a step alone

after_push : (p : SettingsValue) (before : List Record) (s : System) (groups : List (List Record)) (group : List Record)
    → system_after p before s (groups ++ group ∷ [])
    ≡ moved_by p (system_after p before s groups) (move_of_group (before ++ records_of groups) group)
after_push p before s [] group = ap (λ l. moved_by p s (move_of_group l group)) (sym (append-nil before))
after_push p before s (one ∷ groups) group =
    let next = moved_by p s (move_of_group before one) in
    after_push p (before ++ one) next groups group
    ∙ ap (λ l. moved_by p (system_after p (before ++ one) next groups) (move_of_group l group))
    (append_assoc before one (records_of groups))

from_begin : (b : Beginning) (groups : List (List Record))
    → system_from (begin_record b ∷ []) groups ≡ system_after b.settings (begin_record b ∷ []) (system_at_rest b.settings b.members) groups
unfolding system_from
from_begin b groups = refl

-- a step that is no start moves nothing
pub nothing_moves : (log : List Record) (step : Step) → is_start step ≡ false → move_of_start (first_refusal log step) (start_at log step) ≡ None
nothing_moves log step starts = by_refusal (first_refusal log step) (actor_of step) (start_of_step log step) starts
  where
    by_refusal : (refusal : Option Refusal) (actor : Option (List ℕ)) (start : Option Start) → is_some actor ≡ false
        → move_of_start refusal (option_zip actor start) ≡ None
    by_refusal (Some refusal) actor start none = refl
    by_refusal None None start none = refl
    by_refusal None (Some name) start none = absurd (cc)

-- nor does a start stand last after it
pub no_start_after : (log : List Record) (index : ℕ) (step : Step) → is_start step ≡ false
    → HasNoStartLast (log ++ StepRecord index step ∷ [])
no_start_after log index step none other next at =
    let both : Some (StepRecord index step) ≡ Some (StepRecord other next) = sym (last_of-push log (StepRecord index step)) ∙ at in
    let same : step ≡ next = cc in sym (ap is_start same) ∙ none

module _ (b : Beginning) (log : List Record) (run : IsRun b log) where
  pub run_is_open : IsOpen log
  run_is_open = record {
    begun = starts_begun log (begin_record b) run.course.begins;
    uncarried = starts_uncarried log (begin_record b) run.course.begins;
    going = run.going;
  }

  begin_then : system_of log ≡ system_after b.settings (begin_record b ∷ []) (system_at_rest b.settings b.members) (groups_of log)
  begin_then = ap (λ l. system_from l (groups_of log)) run.course.begins ∙ from_begin b (groups_of log)

  -- a step alone that moves nothing leaves the system
  pub step_system : (index : ℕ) (step : Step) → move_of_start (first_refusal log step) (start_at log step) ≡ None
      → system_of (log ++ StepRecord index step ∷ []) ≡ system_of log
  step_system index step still =
      let p = b.settings in
      let start = begin_record b ∷ [] in
      let rest = system_at_rest p b.members in
      let first = StepRecord index step in
      let group = step_group_is log run_is_open index step in
      ap (λ l. system_from l (groups_of (log ++ first ∷ []))) (beginning_of-group log first [] group ∙ run.course.begins)
      ∙ ap (system_from start) (step_groups log run_is_open index step)
      ∙ from_begin b (groups_of log ++ (first ∷ []) ∷ [])
      ∙ after_push p start rest (groups_of log) (first ∷ [])
      ∙ ap (λ l. moved_by p (system_after p start rest (groups_of log)) (move_of_group l (first ∷ []))) (log_is b log run.course run.going)
      ∙ ap (λ s. moved_by p s (move_of_group log (first ∷ []))) (sym begin_then)
      ∙ ap (moved_by p (system_of log)) (step_moves log index step [] ∙ still)

  pub refused_system : (index : ℕ) (step : Step) (refusal : Refusal) → first_refusal log step ≡ Some refusal
      → system_of (log ++ StepRecord index step ∷ []) ≡ system_of log
  refused_system index step refusal is = step_system index step (ap (λ r. move_of_start r (start_at log step)) is)

  -- so does a step with which too many frames would be sent
  pub cut_system : (index : ℕ) (step : Step) (limit : ℕ) → system_of (log ++ StepRecord index step ∷ Spent limit ∷ []) ≡ system_of log
  cut_system index step limit = by_start (is_start step) refl
    where
      by_start : (starts : Bool) → is_start step ≡ starts
          → system_of (log ++ StepRecord index step ∷ Spent limit ∷ []) ≡ system_of log
      by_start true is = start_system log run_is_open index step limit is
      by_start false is =
          let begun = log ++ StepRecord index step ∷ [] in
          ap system_of (sym (append_assoc log (StepRecord index step ∷ []) (Spent limit ∷ [])))
          ∙ spent_system begun (open_after_step log run_is_open index step) limit (no_start_after log index step is)
          ∙ step_system index step (nothing_moves log step is)
