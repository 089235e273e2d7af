-- The log of a run, carried or not: what was played, and how it goes on to its end.
use Rattle.std.proofs.Common.{◌≡◌, ◌⊎◌, inl, inr, ◌<◌, ◌≤◌, Bool, true, false, List, [], ◌∷◌, ◌++◌, length, take, None, Some, refl, ap, sym, subst, ◌∙◌, arith}
use Rattle.std.specs.Prelude.{if◌then◌else◌}
use Rattle.tap_scenario.specs.Scenario.{IsScript, ScenarioValue}
use Rattle.tap_log.specs.declared.record.Record.{Record}
use Rattle.tap_log.specs.declared.record.Record.TheVariants.{Finished, Spent}
use Rattle.tap_log.specs.Counts.{sent_count}
use Rattle.tap_log.specs.Kinds.{is_carried}
use Rattle.tap_log.proofs.MoreRecords.{carried_none, carried_third}
use Rattle.tap_history.specs.Groups.{beginning_of}
use Rattle.tap_runs.specs.Beginning.{Beginning, begin_record}
use Rattle.tap_runs.proofs.CourseGrows.{starts_uncarried}
use Rattle.tap_carried.specs.LogTurns.{beginning_records}
use Rattle.tap_lawful.specs.CarriedNext.{carried_next_group}
use Rattle.tap_lawful.specs.CarriedRuns.{IsCarriedCut}
use Rattle.tap_lawful.specs.Lawful.{step_alone}
use Rattle.tap_lawful.specs.Next.{beginning_in, uncarried_next_group}
use Rattle.tap_lawful.specs.Runs.{BeginsAsScenario, IsFinishedBy, IsLogBy, IsPlayedBy, IsRunLog, IsRunSoFar, IsSpentBy, IsStoppedBy, comes_next, next_records}
use Rattle.tap_lawful.proofs.Played.{by_next}
use Rattle.tap_lawful.proofs.Runs.{runs_by_carrier, stopped_log}

-- ---- what holds of each log of a run

module _ (s : ScenarioValue) (P : List Record → Type 0) where
  by_groups : (c : Bool)
      → ((log group : List Record) → P log → comes_next c s log ≡ Some group → sent_count (log ++ group) ≤ s.frames → P (log ++ group))
      → P (beginning_records c (beginning_in s)) → (log : List Record) → IsPlayedBy c s log → P log
  by_groups true keeps starts log played =
      by_next (carried_next_group s) s.frames P keeps (beginning_records true (beginning_in s)) log starts played.begins played.each
      played.within played.going
  by_groups false keeps starts log played =
      by_next (uncarried_next_group s) s.frames P keeps (beginning_records false (beginning_in s)) log starts played.begins played.each
      played.within played.going

module _ (s : ScenarioValue) (valid : IsScript s) (P : List Record → Type 0)
    (keeps : (log group : List Record) → IsRunSoFar s log → P log → next_records s log ≡ Some group → sent_count (log ++ group) ≤ s.frames
    → P (log ++ group)) where
  record Played (log : List Record) : Type 0 where
    run : IsRunSoFar s log
    holds : P log

  played_more : (log group : List Record) → Played log → next_records s log ≡ Some group → sent_count (log ++ group) ≤ s.frames
      → Played (log ++ group)
  played_more log group before comes within = record {
    run = runs_by_carrier.more s log group valid before.run comes within;
    holds = keeps log group before.run before.holds comes within;
  }

  -- what holds of the beginning, and is kept by each group that comes next, holds of each log of a run
  pub by_runs : P (beginning_records s.carrier (beginning_in s)) → (log : List Record) → IsRunSoFar s log → P log
  by_runs starts log played =
      let start : Played (beginning_records s.carrier (beginning_in s)) = record { run = runs_by_carrier.starts s; holds = starts } in
      (by_groups s Played s.carrier played_more start log played).holds

-- ---- how a run ends

-- what stands of a group that would send too many frames
abbrev pub kept_of : Bool → List Record → List Record
kept_of true group = take 1 group
kept_of false group = step_alone group

-- too many frames would be sent, carried or not
pub record SpentSo (c : Bool) (s : ScenarioValue) (played log : List Record) : Type 0 where
  pub group : List Record
  pub next : comes_next c s played ≡ Some group
  pub over : s.frames < sent_count (played ++ group)
  pub log_is : log ≡ played ++ (kept_of c group ++ Spent s.frames ∷ [])

pub spent_by : (c : Bool) (s : ScenarioValue) (played log : List Record) → IsSpentBy c s played log → SpentSo c s played log
spent_by true s played log spent = record { group = spent.group; next = spent.next; over = spent.over; log_is = spent.log_is }
spent_by false s played log spent = record { group = spent.group; next = spent.next; over = spent.over; log_is = spent.log_is }

pub spent_back : (c : Bool) (s : ScenarioValue) (played log : List Record) → SpentSo c s played log → IsSpentBy c s played log
spent_back true s played log spent = record { group = spent.group; next = spent.next; over = spent.over; log_is = spent.log_is }
spent_back false s played log spent = record { group = spent.group; next = spent.next; over = spent.over; log_is = spent.log_is }

-- the log was cut within the group that comes next, as one of a carried run may be
pub record CutSo (c : Bool) (s : ScenarioValue) (played log : List Record) : Type 0 where
  pub carried : c ≡ true
  pub cut : IsCarriedCut s played log

pub stopped_by : (c : Bool) (s : ScenarioValue) (played log : List Record) → IsStoppedBy c s played log → (log ≡ played) ⊎ CutSo c s played log
stopped_by true s played log (inl same) = inl same
stopped_by true s played log (inr cut) = inr (record { carried = refl; cut = cut })
stopped_by false s played log same = inl same

stopped_same : (c : Bool) (s : ScenarioValue) (log : List Record) → IsStoppedBy c s log log
stopped_same true s log = inl refl
stopped_same false s log = refl

-- the log of a run that isn't over is one
pub so_far : (s : ScenarioValue) (log : List Record) → IsRunSoFar s log → IsRunLog s log
so_far s log played = stopped_log s.carrier s log log played (stopped_same s.carrier s log)

pub cut_next : (c : Bool) (s : ScenarioValue) (played log : List Record) (so : CutSo c s played log) → comes_next c s played ≡ Some so.cut.group
cut_next c s played log so = subst (λ d. comes_next d s played ≡ Some so.cut.group) (sym so.carried) so.cut.next

-- all steps were run, carried or not
pub record FinishedSo (c : Bool) (s : ScenarioValue) (played log : List Record) : Type 0 where
  pub none : comes_next c s played ≡ None
  pub log_is : log ≡ played ++ Finished (length s.steps) ∷ []

pub finished_by : (c : Bool) (s : ScenarioValue) (played log : List Record) → IsFinishedBy c s played log → FinishedSo c s played log
finished_by true s played log finished = record { none = finished.none; log_is = finished.log_is }
finished_by false s played log finished = record { none = finished.none; log_is = finished.log_is }

-- however it ends
abbrev pub EndsBy : Bool → ScenarioValue → List Record → List Record → Type 0
EndsBy c s played log = IsStoppedBy c s played log ⊎ (IsFinishedBy c s played log ⊎ IsSpentBy c s played log)

pub record LogSo (s : ScenarioValue) (log : List Record) : Type 0 where
  pub played : List Record
  pub is_played : IsRunSoFar s played
  pub ends : EndsBy s.carrier s played log

ends_so : (c : Bool) (s : ScenarioValue) (log : List Record) → IsLogBy c s log
    → (played : List Record) × IsPlayedBy c s played × EndsBy c s played log
ends_so true s log of = (
  of.played,
  of.is_played,
  elim of.ending [
    | inl same ↦ inl (inl same)
    | inr (inl (inl finished)) ↦ inr (inl finished)
    | inr (inl (inr spent)) ↦ inr (inr spent)
    | inr (inr cut) ↦ inl (inr cut)
  ],
)
ends_so false s log of = (
  of.played,
  of.is_played,
  elim of.ending [
    | inl same ↦ inl same
    | inr (inl finished) ↦ inr (inl finished)
    | inr (inr spent) ↦ inr (inr spent)
  ],
)

pub log_so : (s : ScenarioValue) (log : List Record) → IsRunLog s log → LogSo s log
log_so s log of = let so = ends_so s.carrier s log of in record { played = so.0; is_played = so.1; ends = so.2 }

-- ---- whether it is carried

one_beginning : (first : Record) (items : List Record) (c : Bool) (b : Beginning)
    → take (if c then 2 else 1) (first ∷ items) ≡ beginning_records true b → c ≡ true
one_beginning first items true b is = refl
one_beginning first items false b is = let sizes = ap length is in absurd (omega (arith, sizes))

pub begun_carried : (c : Bool) (b : Beginning) (log : List Record) → beginning_of log ≡ beginning_records c b → is_carried log ≡ c
begun_carried false b log begins = starts_uncarried log (begin_record b) begins
begun_carried true b [] begins =
    let none : [] ≡ beginning_records true b = sym (ap (λ c. take {A = Record} (if c then 2 else 1) []) carried_none) ∙ begins in
    let sizes = ap length none in absurd (omega (arith, sizes))
begun_carried true b (first ∷ items) begins = one_beginning first items (is_carried (first ∷ items)) b begins

-- the first two records say whether a log is carried
pub carrier_of : (s : ScenarioValue) (log front rest after : List Record) → BeginsAsScenario s log → log ≡ front ++ rest → 2 ≤ length front
    → is_carried (front ++ after) ≡ s.carrier
carrier_of s log [] rest after begins is few = absurd (omega (arith, few))
carrier_of s log (first ∷ []) rest after begins is few = absurd (omega (arith, few))
carrier_of s log (first ∷ next ∷ items) rest after begins is few =
    carried_third first next (items ++ after) (items ++ rest) ∙ ap is_carried (sym is)
    ∙ begun_carried s.carrier (beginning_in s) log begins
