-- A run of a scenario is one of each other scenario by which a player may turn.
use Rattle.std.proofs.Common.{◌≡◌, inl, inr, ℕ, zero, suc, ◌+◌, ◌<◌, ◌≤◌, Bool, true, false, List, [], ◌∷◌, ◌++◌, length, take, Option, None, Some, refl, ap, sym, subst, ◌∙◌, arith, append-nil}
use Rattle.std.specs.Prelude.{if◌then◌else◌, slice_get}
use Rattle.std.specs.Option.{option_map, option_map_or}
use Rattle.std.proofs.lemmas.List.Elements.{filter_map-append}
use Rattle.tap_scenario.specs.declared.step.Step.{Step}
use Rattle.tap_scenario.specs.Scenario.{ScenarioValue, IsScript}
use Rattle.tap_log.specs.declared.record.Record.{Record}
use Rattle.tap_log.specs.declared.record.Record.TheVariants.{Begin, Finished, Spent as SpentRecord, Step as StepRecord}
use Rattle.tap_log.specs.Counts.{sent_count}
use Rattle.tap_log.specs.Kinds.{is_carried, step_of}
use Rattle.tap_log.specs.Log.{begun_steps}
use Rattle.tap_log.proofs.MoreRecords.{filter_map-same, last_of-push}
use Rattle.tap_history.specs.Groups.{beginning_of}
use Rattle.tap_runs.specs.Beginning.{Beginning, begin_record}
use Rattle.tap_runs.specs.Course.{system_of}
use Rattle.tap_runs.specs.Group.{step_records}
use Rattle.tap_runs.proofs.CourseGrows.{starts_begun}
use Rattle.tap_engine.specs.Kinds.{finishes_run, is_finished}
use Rattle.tap_engine.specs.World.{WorldValue, whole_log}
use Rattle.tap_carried.specs.LogTurns.{beginning_records}
use Rattle.tap_lawful.specs.Due.{number_due}
use Rattle.tap_lawful.specs.Next.{beginning_in, begun_count, group_after, next_group, uncarried_next_group}
use Rattle.tap_runs.specs.Groups.{step_group, taken_group}
use Rattle.tap_lawful.specs.Lawful.{step_alone, ComesNext, IsUncarriedFinished, IsUncarriedPlayed, IsUncarriedSpent, UncarriedComesNext}
use Rattle.tap_lawful.specs.PlayedLaws.{BeginsAlike}
use Rattle.tap_lawful.proofs.Alike.{at_of_take}
use Rattle.tap_lawful.proofs.Coming.{BeginsNext, TakesDue, coming}
use Rattle.tap_replay.specs.Player.{HasEnded, IsLeft, MayTurn}
use Rattle.tap_replay.specs.Run.{IsRunOf, WorldGoesOn}
use Rattle.tap_replay.specs.declared.end.End.{End}
use Rattle.tap_replay.specs.declared.end.End.TheVariants.{Done, NoMemory, Spent}
use Rattle.tap_replay.specs.declared.run.Run.{Run}
use Rattle.tap_log.specs.Reduced.{reduced}
use Rattle.tap_lawful.specs.RootSets.{with_roots}
use Rattle.tap_lawful.proofs.Uncarried.{uncarried_coming}
use Rattle.tap_lawful.proofs.UncarriedLogs.{alone_same, same_steps, uncarried_alike, uncarried_all}

-- ---- lists

-- the first ones of the first ones
pub take_first : {X : Type 0} (n : ℕ) (xs ys zs : List X) → take n xs ≡ ys ++ zs → take (length ys) xs ≡ ys
take_first n xs [] zs is = refl
take_first zero xs (y ∷ ys) zs is = absurd (cc)
take_first (suc n) [] (y ∷ ys) zs is = absurd (cc)
take_first (suc n) (x ∷ xs) (y ∷ ys) zs is =
    let same : x ≡ y = cc in
    let rest : take n xs ≡ ys ++ zs = cc in
    ap (λ l. x ∷ l) (take_first n xs ys zs rest) ∙ ap (λ z. z ∷ ys) same

-- ---- with what a log begins

abbrev first_or : Record → List Record → Record
first_or other [] = other
first_or other (item ∷ items) = item

first_of_two : (other : Record) (carried : Bool) (log : List Record)
    → first_or other (take (if carried then 2 else 1) log) ≡ first_or other log
first_of_two other true [] = refl
first_of_two other true (item ∷ items) = refl
first_of_two other false [] = refl
first_of_two other false (item ∷ items) = refl

first_begins : (other item : Record) (log : List Record) → beginning_of log ≡ item ∷ [] → first_or other log ≡ item
first_begins other item log is = sym (first_of_two other (is_carried log) log) ∙ ap (first_or other) is

first_more : (other : Record) (log rest : List Record) → 1 ≤ length log → first_or other (log ++ rest) ≡ first_or other log
first_more other [] rest some = absurd (omega (arith, some))
first_more other (item ∷ items) rest some = refl

abbrev begun_with : Beginning → Record → Beginning
begun_with other (Begin settings frames members) = record { settings = settings; frames = frames; members = members }
begun_with other item = other

-- ---- another scenario by which a player may turn

-- a step that stands alone has begun
alone_begins : (p : ScenarioValue) (log group : List Record) (limit : ℕ) → (begun : BeginsNext p log group)
    → begun_steps (step_alone group ++ SpentRecord limit ∷ []) ≡ begun.step ∷ []
unfolding step_alone
alone_begins p log group limit begun =
    subst (λ g. begun_steps (step_alone g ++ SpentRecord limit ∷ []) ≡ begun.step ∷ []) begun.is
    (first_begun (begun_count log + 1) begun.step
    (step_records p.settings log (system_of log) (begun_count log + 1) begun.step))
  where
    first_begun : (index : ℕ) (step : Step) (items : List Record)
        → begun_steps (step_alone (StepRecord index step ∷ items) ++ SpentRecord limit ∷ []) ≡ step ∷ []
    first_begun index step items = refl

-- a player may turn by the scenario, if that isn't carried
pub record MayTurnPlain (s : ScenarioValue) (log : List Record) : Type 0 where
  pub begins : beginning_of log ≡ begin_record (beginning_in s) ∷ []
  pub steps : begun_steps log ≡ take (begun_count log) s.steps
  pub all : is_finished log ≡ true → begun_steps log ≡ s.steps

pub plain_may : (s : ScenarioValue) (log : List Record) → s.carrier ≡ false → MayTurn s log → MayTurnPlain s log
plain_may s log uncarried may = record {
  begins = may.begins ∙ ap (λ c. beginning_records c (beginning_in s)) uncarried;
  steps = may.steps;
  all = may.all;
}

module _ (s other : ScenarioValue) (log played rest : List Record) (is : log ≡ played ++ rest) (was : IsUncarriedPlayed s played)
    (may : MayTurnPlain other log) where
  all_steps : take (begun_count log) other.steps ≡ begun_steps played ++ begun_steps rest
  all_steps = sym may.steps ∙ ap begun_steps is ∙ filter_map-append step_of played rest

  begins_so : begin_record (beginning_in other) ≡ begin_record (beginning_in s)
  begins_so =
      let first = begin_record (beginning_in s) in
      sym (first_begins first (begin_record (beginning_in other)) log may.begins) ∙ ap (first_or first) is
      ∙ first_more first played rest (starts_begun played first was.begins) ∙ first_begins first first played was.begins

  pub alike : BeginsAlike s other played
  alike = record {
    beginning = ap (begun_with (beginning_in s)) begins_so;
    steps = take_first (begun_count log) other.steps (begun_steps played) (begun_steps rest) all_steps;
  }

  pub other_played : IsUncarriedPlayed other played
  other_played = uncarried_alike s other played was alike

  settings_same : other.settings ≡ s.settings
  settings_same = ap (λ b. b.settings) alike.beginning

  frames_same : other.frames ≡ s.frames
  frames_same = ap (λ b. b.frames) alike.beginning

  abbrev less : List Record
  less = reduced played

  -- the frame that is due is the same
  taken_alike : (plain : List Record) → TakesDue s less plain → ComesNext other less plain
  taken_alike plain taken =
      ap (group_after other less) taken.due ∙ ap (λ p. Some (taken_group p less taken.number)) settings_same ∙ ap Some taken.is

  -- so is the next step, if it was begun
  begun_alike : (plain : List Record) (step : Step) (steps : List Step) → (begun : BeginsNext s less plain)
      → begun_steps rest ≡ step ∷ steps → begun.step ≡ step → ComesNext other less plain
  begun_alike plain step steps begun first same =
      let index = begun_count less + 1 in
      let all : take (begun_count log) other.steps ≡ begun_steps less ++ step ∷ steps =
      all_steps ∙ ap (λ l. l ++ begun_steps rest) (sym (same_steps played)) ∙ ap (λ l. begun_steps less ++ l) first in
      let at : slice_get other.steps (begun_count less) ≡ Some step = at_of_take (begun_count log) other.steps (begun_steps less) steps step all in
      ap (group_after other less) begun.none ∙ ap (option_map (step_group other.settings less index)) (at ∙ ap Some (sym same))
      ∙ ap (λ p. Some (step_group p less index begun.step)) settings_same ∙ ap Some begun.is

  -- so is the group that comes next, if what stands of it was begun
  next_alike : (group : List Record) (limit : ℕ) → UncarriedComesNext s played group → rest ≡ step_alone group ++ SpentRecord limit ∷ []
      → UncarriedComesNext other played group
  next_alike group limit comes stands =
      let next = uncarried_coming s played group comes in
      let alone : rest ≡ step_alone next.plain ++ SpentRecord limit ∷ [] =
      stands ∙ ap (λ g. step_alone g ++ SpentRecord limit ∷ []) (sym next.is)
      ∙ ap (λ l. l ++ SpentRecord limit ∷ []) (alone_same s.settings played next.plain) in
      let also : ComesNext other less next.plain =
      elim (coming s less next.plain next.comes) [
        | inl taken ↦ taken_alike next.plain taken
        | inr begun ↦
            begun_alike next.plain begun.step [] begun (ap begun_steps alone ∙ alone_begins s less next.plain limit begun) refl
      ] in
      ap (option_map (with_roots other.settings played)) also ∙ ap (λ p. Some (with_roots p played next.plain)) settings_same
      ∙ ap (λ g. Some g) next.is

-- ---- a run that goes on

module _ (s other : ScenarioValue) (log : List Record) (played : IsUncarriedPlayed s log) (may : MayTurnPlain other log) where
  still : IsUncarriedPlayed other log
  still = other_played s other log log [] (sym (append-nil log)) played may

  pub goes_on_alike : (w : WorldValue) → whole_log w ≡ log → WorldGoesOn s w → WorldGoesOn other w
  goes_on_alike w is on = record {
    played = subst (IsUncarriedPlayed other) (sym is) still;
    plain = on.plain;
    beginning = on.beginning ∙ sym (alike s other log log [] (sym (append-nil log)) played may).beginning;
    noted = on.noted;
    unstopped = on.unstopped;
  }

pub run_alike : (s other : ScenarioValue) (run : Run) → IsScript other → IsRunOf s run → MayTurnPlain other (whole_log run.world)
    → IsRunOf other run
run_alike s other run also of may = record {
  valid = also;
  goes_on = goes_on_alike s other (whole_log run.world) of.goes_on.played may run.world refl of.goes_on;
  begun = of.begun;
  choice = of.choice;
}

-- ---- a run that has ended

spent_alike : (s other : ScenarioValue) (log played : List Record) → IsUncarriedPlayed s played → (spent : IsUncarriedSpent s played log)
    → MayTurnPlain other log → HasEnded other Spent log
spent_alike s other log played was spent may =
    let rest = step_alone spent.group ++ SpentRecord s.frames ∷ [] in
    let frames = frames_same s other log played rest spent.log_is was may in (
      played,
      other_played s other log played rest spent.log_is was may,
      record {
        group = spent.group;
        next = next_alike s other log played rest spent.log_is was may spent.group s.frames spent.next refl;
        over = subst (λ n. n < sent_count (played ++ spent.group)) (sym frames) spent.over;
        log_is = spent.log_is ∙ ap (λ n. played ++ (step_alone spent.group ++ SpentRecord n ∷ [])) (sym frames);
      },
    )

pub finished_so : (played : List Record) (steps : ℕ) → is_finished (played ++ Finished steps ∷ []) ≡ true
unfolding finishes_run
finished_so played steps = ap (λ last. option_map_or finishes_run last false) (last_of-push played (Finished steps))

-- a log that ends with `Spent` has no `Finished`
pub spent_so : (log : List Record) (limit : ℕ) → is_finished (log ++ SpentRecord limit ∷ []) ≡ false
unfolding finishes_run
spent_so log limit = ap (λ last. option_map_or finishes_run last false) (last_of-push log (SpentRecord limit))

-- which group comes next is said by the settings and the steps
next_group_alike : (s other : ScenarioValue) (log : List Record) → other.settings ≡ s.settings → other.steps ≡ s.steps
    → uncarried_next_group other log ≡ uncarried_next_group s log
next_group_alike s other log settings steps =
    ap (option_map (with_roots other.settings log)) (by_due (number_due (reduced log)))
    ∙ ap (λ p. option_map (with_roots p log) (next_group s (reduced log))) settings
  where
    by_due : (due : Option ℕ) → group_after other (reduced log) due ≡ group_after s (reduced log) due
    by_due (Some number) = ap (λ p. Some (taken_group p (reduced log) number)) settings
    by_due None =
        let less = reduced log in
        ap (λ p. option_map (step_group p less (begun_count less + 1)) (slice_get other.steps (begun_count less))) settings
        ∙ ap (λ all. option_map (step_group s.settings less (begun_count less + 1)) (slice_get all (begun_count less))) steps

-- a scenario by which a player may turn after the last step has the same steps
finished_alike : (s other : ScenarioValue) (log played : List Record) → IsScript s → IsUncarriedPlayed s played → IsUncarriedFinished s played log
    → MayTurnPlain other log → HasEnded other Done log
finished_alike s other log played valid was finished may =
    let rest : List Record = Finished (length s.steps) ∷ [] in
    let beginning = (alike s other log played rest finished.log_is was may).beginning in
    let settings : other.settings ≡ s.settings = ap (λ (b : Beginning). b.settings) beginning in
    let steps : other.steps ≡ s.steps =
    sym (may.all (ap is_finished finished.log_is ∙ finished_so played (length s.steps))) ∙ ap begun_steps finished.log_is
    ∙ filter_map-same step_of played (Finished (length s.steps)) refl ∙ uncarried_all s valid played was finished.none in (
      played,
      other_played s other log played rest finished.log_is was may,
      record {
        none = next_group_alike s other played settings steps ∙ finished.none;
        log_is = finished.log_is ∙ ap (λ (all : List Step). played ++ Finished (length all) ∷ []) (sym steps);
      },
    )

ended_alike : (s other : ScenarioValue) (end : End) (log : List Record) → IsScript s → HasEnded s end log → MayTurnPlain other log
    → HasEnded other end log
ended_alike s other Done log valid ended may = finished_alike s other log ended.0 valid ended.1 ended.2 may
ended_alike s other Spent log valid ended may = spent_alike s other log ended.0 ended.1 ended.2 may
ended_alike s other NoMemory log valid ended may = still s other log ended may

-- ---- what such a run leaves

-- both begin alike
begin_alike : (s other : ScenarioValue) (end : End) (log : List Record) → HasEnded s end log → MayTurnPlain other log
    → beginning_in other ≡ beginning_in s
begin_alike s other Done log ended may =
    (alike s other log ended.0 (Finished (length s.steps) ∷ []) ended.2.log_is ended.1 may).beginning
begin_alike s other Spent log ended may =
    (alike s other log ended.0 (step_alone ended.2.group ++ SpentRecord s.frames ∷ []) ended.2.log_is ended.1 may).beginning
begin_alike s other NoMemory log ended may = (alike s other log log [] (sym (append-nil log)) ended may).beginning

pub left_alike : (s other : ScenarioValue) (end : End) (w : WorldValue) → IsScript s → IsLeft s end w → MayTurnPlain other (whole_log w)
    → IsLeft other end w
left_alike s other end w valid left may = record {
  ended = ended_alike s other end (whole_log w) valid left.ended may;
  beginning = left.beginning ∙ sym (begin_alike s other end (whole_log w) left.ended may);
  noted = left.noted;
  spent = left.spent;
  done = left.done;
  nodes = left.nodes;
}
