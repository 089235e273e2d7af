-- The runs of a scenario, carried or not: each law by its carrier.
-- Cited above: finished_log, lawful_carried, lawful_plain, runs_by_carrier, same_beginnings, spent_log, stopped_log, whole_log
use Rattle.std.proofs.Common.{◌≡◌, ◌≢◌, ◌⊎◌, inl, inr, ◌<◌, ◌≤◌, Bool, true, false, List, [], ◌∷◌, ◌++◌, length, take, None, Some, refl, ap, sym, subst, ◌∙◌, arith, append_assoc, append-nil}
use Rattle.std.specs.Prelude.{if◌then◌else◌}
use Rattle.std.proofs.lemmas.List.{take-append-le}
use Rattle.tap_scenario.specs.Scenario.{IsScript, ScenarioValue}
use Rattle.tap_log.specs.declared.record.Record.{Record}
use Rattle.tap_log.specs.declared.record.Record.TheVariants.{Begin, Carrier, Finished, Spent, Step as StepRecord}
use Rattle.tap_log.specs.Counts.{sent_count}
use Rattle.tap_log.specs.Kinds.{is_carried}
use Rattle.tap_log.specs.Log.{begun_steps}
use Rattle.tap_log.proofs.MoreRecords.{is_carried-push}
use Rattle.tap_history.specs.Groups.{beginning_of, groups_of, records_of}
use Rattle.tap_history.proofs.Parts.{log_is_groups}
use Rattle.tap_runs.specs.Beginning.{Beginning, begin_record}
use Rattle.tap_runs.proofs.CourseGrows.{starts_begun, starts_uncarried}
use Rattle.tap_carried.specs.LogTurns.{beginning_records}
use Rattle.tap_lawful.specs.CarriedRuns.{IsCarriedLogOf, IsCarriedScript}
use Rattle.tap_lawful.specs.Lawful.{IsOverWith, IsUncarriedLogOf, NextGroup, step_alone}
use Rattle.tap_lawful.specs.Next.{beginning_in, begun_count, uncarried_next_group}
use Rattle.tap_lawful.specs.PlayedLaws.{BeginsAlike, BeginsWith}
use Rattle.tap_lawful.specs.RunLaws.{RunsByCarrier, left_to_run}
use Rattle.tap_lawful.specs.Runs.{IsFinishedBy, IsLawful, IsLogBy, IsPlayedBy, IsSpentBy, IsStoppedBy, IsWholeLogBy, comes_next}
use Rattle.tap_lawful.proofs.CarriedAlike.{carried_alike}
use Rattle.tap_lawful.proofs.CarriedGrowth.{carried_all, carried_more, carried_starts, carried_steps}
use Rattle.tap_lawful.proofs.CarriedOneLog.{ending_after, one_carried_log_holds}
use Rattle.tap_lawful.proofs.CarriedRunMoves.{carried_groups_move}
use Rattle.tap_lawful.proofs.OneLog.{one_log_with, one_whole_with}
use Rattle.tap_lawful.proofs.Played.{starts_with}
use Rattle.tap_lawful.proofs.UncarriedLogs.{uncarried_alike, uncarried_all, uncarried_less, uncarried_more, uncarried_steps}

-- ---- how a log begins

-- whatever follows `Begin` and `Carrier`
carried_beginning : (b : Beginning) (more : List Record) → beginning_of (beginning_records true b ++ more) ≡ beginning_records true b
unfolding is_carried
carried_beginning b more = refl

carried_begins : (s : ScenarioValue) (log : List Record) → IsCarriedLogOf s log → beginning_of log ≡ beginning_records true (beginning_in s)
carried_begins s log of =
    let b = beginning_in s in
    let rest = ending_after s of.played log of.ending in
    let groups = records_of (groups_of of.played) in
    let played : of.played ≡ beginning_records true b ++ groups =
    sym (log_is_groups of.played of.is_played.going) ∙ ap (λ l. l ++ groups) of.is_played.begins in
    let all : log ≡ beginning_records true b ++ (groups ++ rest.0) =
    rest.1 ∙ ap (λ l. l ++ rest.0) played ∙ append_assoc (beginning_records true b) groups rest.0 in
    ap beginning_of all ∙ carried_beginning b (groups ++ rest.0)

-- the log isn't carried, and begins with this record alone
record BeginsAlone (log : List Record) (item : Record) : Type 0 where
  begins : beginning_of log ≡ item ∷ []
  uncarried : is_carried log ≡ false

alone_push : (log : List Record) (first item : Record) → item ≢ Carrier → BeginsAlone log first → BeginsAlone (log ++ item ∷ []) first
alone_push log first item other alone =
    let still : is_carried (log ++ item ∷ []) ≡ false = is_carried-push log item other ∙ alone.uncarried in
    record {
      begins =
          ap (λ c. take (if c then 2 else 1) (log ++ item ∷ [])) still
          ∙ take-append-le 1 log (item ∷ []) (starts_begun log first alone.begins)
          ∙ sym (ap (λ c. take (if c then 2 else 1) log) alone.uncarried) ∙ alone.begins;
      uncarried = still;
    }

-- what stands of a group that would send too many frames
alone_group : (log group : List Record) (first : Record) → BeginsAlone log first → BeginsAlone (log ++ step_alone group) first
unfolding step_alone
alone_group log [] first alone = subst (λ l. BeginsAlone l first) (sym (append-nil log)) alone
alone_group log (StepRecord index step ∷ items) first alone =
    alone_push log first (StepRecord index step) (λ same. let never : StepRecord index step ≡ Carrier = same in cc) alone
alone_group log (item ∷ items) first alone = subst (λ l. BeginsAlone l first) (sym (append-nil log)) alone

over_alone : (coming : NextGroup) (s : ScenarioValue) (played log : List Record) (first : Record) → BeginsAlone played first
    → IsOverWith coming s played log
    → BeginsAlone log first
over_alone coming s played log first alone (inl finished) =
    let last = Finished (length s.steps) in
    subst (λ l. BeginsAlone l first) (sym finished.log_is)
    (alone_push played first last (λ same. let never : Finished (length s.steps) ≡ Carrier = same in cc) alone)
over_alone coming s played log first alone (inr spent) =
    let group = step_alone spent.group in
    let last = Spent s.frames in
    subst (λ l. BeginsAlone l first) (append_assoc played group (last ∷ []) ∙ sym spent.log_is)
    (alone_push (played ++ group) first last (λ same. let never : Spent s.frames ≡ Carrier = same in cc)
    (alone_group played spent.group first alone))

plain_begins : (s : ScenarioValue) (log : List Record) → IsUncarriedLogOf s log → beginning_of log ≡ begin_record (beginning_in s) ∷ []
plain_begins s log of =
    let first = begin_record (beginning_in s) in
    let alone : BeginsAlone of.played first =
    record { begins = of.is_played.begins; uncarried = starts_uncarried of.played first of.is_played.begins } in
    elim of.ending [
      | inl same ↦ ap beginning_of same ∙ of.is_played.begins
      | inr over ↦ (over_alone (uncarried_next_group s) s of.played log first alone over).begins
    ]

-- ---- by the carrier

module _ (s : ScenarioValue) where
  starts_by : (c : Bool) → IsPlayedBy c s (beginning_records c (beginning_in s))
  starts_by true = carried_starts s
  starts_by false = starts_with s (uncarried_next_group s)

  more_by : (c : Bool) (log group : List Record) → s.carrier ≡ c → IsScript s → IsPlayedBy c s log → comes_next c s log ≡ Some group
      → sent_count (log ++ group) ≤ s.frames → IsPlayedBy c s (log ++ group)
  more_by true log group is valid played comes within =
      carried_more s log group (record { valid = valid; carried = is }) played comes within
  more_by false log group is valid played comes within = uncarried_more s valid log group played comes within

  less_by : (c : Bool) (log group : List Record) → s.carrier ≡ c → IsScript s → IsPlayedBy c s log → comes_next c s log ≡ Some group
      → sent_count (log ++ group) ≤ s.frames → left_to_run c s (log ++ group) < left_to_run c s log
  less_by true log group is valid played comes within =
      carried_groups_move.falls s log group (record { valid = valid; carried = is }) played comes within
  less_by false log group is valid played comes within = uncarried_less s valid log group played comes within

  steps_by : (c : Bool) (log : List Record) → s.carrier ≡ c → IsScript s → IsPlayedBy c s log
      → begun_steps log ≡ take (begun_count log) s.steps
  steps_by true log is valid played = carried_steps s log (record { valid = valid; carried = is }) played
  steps_by false log is valid played = uncarried_steps s valid log played

  all_by : (c : Bool) (log : List Record) → s.carrier ≡ c → IsScript s → IsPlayedBy c s log → comes_next c s log ≡ None
      → begun_steps log ≡ s.steps
  all_by true log is valid played none = carried_all s log (record { valid = valid; carried = is }) played none
  all_by false log is valid played none = uncarried_all s valid log played none

  alike_by : (c : Bool) (other : ScenarioValue) (log : List Record) → IsPlayedBy c s log → BeginsAlike s other log → IsPlayedBy c other log
  alike_by true other log played alike = carried_alike s other log played alike
  alike_by false other log played alike = uncarried_alike s other log played alike

  begins_by : (c : Bool) (log : List Record) → IsLogBy c s log → beginning_of log ≡ beginning_records c (beginning_in s)
  begins_by true log of = carried_begins s log of
  begins_by false log of = plain_begins s log of

  first_by : (c : Bool) (one other : List Record) → IsLogBy c s one → IsLogBy c s other → BeginsWith one other ⊎ BeginsWith other one
  first_by true one other of also = one_carried_log_holds.first s one other of also
  first_by false one other of also = one_log_with (uncarried_next_group s) s one other of also

  whole_by : (c : Bool) (one other : List Record) → IsWholeLogBy c s one → IsWholeLogBy c s other → one ≡ other
  whole_by true one other of also = one_carried_log_holds.whole s one other of also
  whole_by false one other of also = one_whole_with (uncarried_next_group s) s one other of also

pub runs_by_carrier : RunsByCarrier
runs_by_carrier = record {
  starts = λ s. starts_by s s.carrier;
  more = λ s log group valid played comes within. more_by s s.carrier log group refl valid played comes within;
  less = λ s log group valid played comes within. less_by s s.carrier log group refl valid played comes within;
  steps = λ s log valid played. steps_by s s.carrier log refl valid played;
  all = λ s log valid played none. all_by s s.carrier log refl valid played none;
  alike = λ s other log same played alike. subst (λ c. IsPlayedBy c other log) (sym same) (alike_by s s.carrier other log played alike);
  begins = λ s log of. begins_by s s.carrier log of;
  first = λ s one other of also. first_by s s.carrier one other of also;
  whole = λ s one other of also. whole_by s s.carrier one other of also;
}

-- two scenarios with which one log begins are carried alike, and begin alike
abbrev first_begun : Beginning → List Record → Beginning
first_begun b (Begin settings frames members ∷ items) = record { settings = settings; frames = frames; members = members }
first_begun b other = b

pub same_beginnings : (c d : Bool) (b e : Beginning) → beginning_records c b ≡ beginning_records d e → (d ≡ c) × (e ≡ b)
same_beginnings true true b e is = (refl, sym (ap (first_begun b) is))
same_beginnings true false b e is = let wrong = ap length is in absurd (omega (arith, wrong))
same_beginnings false true b e is = let wrong = ap length is in absurd (omega (arith, wrong))
same_beginnings false false b e is = (refl, sym (ap (first_begun b) is))

-- ---- how a run ends

pub finished_log : (c : Bool) (s : ScenarioValue) (played log : List Record) → IsPlayedBy c s played → IsFinishedBy c s played log
    → IsWholeLogBy c s log
finished_log true s played log is over = record { played = played; is_played = is; over = inl over }
finished_log false s played log is over = record { played = played; is_played = is; over = inl over }

pub spent_log : (c : Bool) (s : ScenarioValue) (played log : List Record) → IsPlayedBy c s played → IsSpentBy c s played log
    → IsWholeLogBy c s log
spent_log true s played log is over = record { played = played; is_played = is; over = inr over }
spent_log false s played log is over = record { played = played; is_played = is; over = inr over }

pub stopped_log : (c : Bool) (s : ScenarioValue) (played log : List Record) → IsPlayedBy c s played → IsStoppedBy c s played log
    → IsLogBy c s log
stopped_log true s played log is (inl same) = record { played = played; is_played = is; ending = inl same }
stopped_log true s played log is (inr cut) = record { played = played; is_played = is; ending = inr (inr cut) }
stopped_log false s played log is same = record { played = played; is_played = is; ending = inl same }

-- a whole log is one
pub whole_log : (c : Bool) (s : ScenarioValue) (log : List Record) → IsWholeLogBy c s log → IsLogBy c s log
whole_log true s log whole = record { played = whole.played; is_played = whole.is_played; ending = inr (inl whole.over) }
whole_log false s log whole = record { played = whole.played; is_played = whole.is_played; ending = inr whole.over }

-- ---- lawful logs

pub lawful_plain : (s : ScenarioValue) (log : List Record) → IsScript s → s.carrier ≡ false → IsUncarriedLogOf s log → IsLawful log
lawful_plain s log valid uncarried of = record { script = s; valid = valid; run = subst (λ c. IsLogBy c s log) (sym uncarried) of }

pub lawful_carried : (s : ScenarioValue) (log : List Record) → IsCarriedScript s → IsCarriedLogOf s log → IsLawful log
lawful_carried s log script of =
    record { script = s; valid = script.valid; run = subst (λ c. IsLogBy c s log) (sym script.carried) of }
