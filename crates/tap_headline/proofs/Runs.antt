-- What holds of each log of a run, carried or not.
-- Cited above: carried_heads, run_logs_are_printed, run_logs_end_so, run_logs_follow, run_logs_have_headline
use Rattle.std.proofs.Common.{◌≡◌, inl, inr, suc, ◌-◌, Bool, true, false, List, [], ◌∷◌, ◌++◌, length, take, drop, All, Some, refl, ap, sym, subst, ◌∙◌, arith}
use Rattle.std.specs.List.{cons_option}
use Rattle.std.proofs.lemmas.Bool.{cases_lt}
use Rattle.std.proofs.lemmas.List.{take-append-drop}
use Rattle.std.proofs.lemmas.List.Elements.{All-cons, All-head, All-nil, All-tail, All-take}
use Rattle.tap_name.specs.Settings.{SettingsValue}
use Rattle.tap_scenario.specs.Scenario.{IsScript, ScenarioValue}
use Rattle.tap_log.specs.declared.record.Record.{Record}
use Rattle.tap_log.specs.declared.record.Record.TheVariants.{Finished, Sent, Spent}
use Rattle.tap_log.specs.Counts.{sent_count}
use Rattle.tap_log.specs.Kinds.{begins_group, step_of}
use Rattle.tap_log.specs.Log.{begun_steps, last_of}
use Rattle.tap_log.specs.Reduced.{reduced}
use Rattle.tap_history.specs.Groups.{is_ended}
use Rattle.tap_history.specs.Moments.{beginning}
use Rattle.tap_report.specs.Text.{ArePrintable, IsBegin, IsPrintable}
use Rattle.tap_report.proofs.TextLemmas.{same_settings}
use Rattle.tap_runs.specs.Beginning.{Beginning, begin_record}
use Rattle.tap_carried.specs.LogTurns.{beginning_records}
use Rattle.tap_lawful.specs.CarriedRuns.{IsCarriedCut, IsCarriedLogOf, IsCarriedPlayed, IsCarriedScript, IsCarriedSpent}
use Rattle.tap_lawful.specs.Lawful.{step_alone}
use Rattle.tap_lawful.specs.Next.{beginning_in}
use Rattle.tap_lawful.specs.Runs.{IsFinishedBy, IsLogBy, IsPlayedBy, IsRunLog, IsSpentBy}
use Rattle.tap_lawful.proofs.CarriedGrowth.{carried_all, carried_steps, within_none}
use Rattle.tap_lawful.proofs.CarriedReduction.{carried_run, whole_next}
use Rattle.tap_lawful.proofs.CarriedWhole.{after_alone}
use Rattle.tap_lawful.proofs.Runs.{runs_by_carrier}
use Rattle.tap_lawful.proofs.UncarriedLogs.{same_steps, uncarried_all, uncarried_runs_reduce}
use Rattle.tap_headline.specs.LastRecord.{HasAllSteps}
use Rattle.tap_headline.specs.Printable.{CanBePrinted}
use Rattle.tap_headline.specs.Runs.{HasReadHead, HeadlineBy, RunLogsArePrinted, RunLogsEndSo, RunLogsFollow, RunLogsHaveHeadline}
use Rattle.tap_headline.proofs.CarriedHeadline.{carried_logs_have_headline}
use Rattle.tap_headline.proofs.CarriedPrinted.{carried_printed}
use Rattle.tap_headline.proofs.LastRecord.{all_steps, spent_last}
use Rattle.tap_headline.proofs.Openings.{HasOpening, opening_of}
use Rattle.tap_headline.proofs.Printable.{uncarried_printed}
use Rattle.tap_headline.proofs.Scripts.{StepsFollow, logs_follow_scripts, no_more_steps, one_more_step}
use Rattle.tap_headline.proofs.UncarriedHeadline.{uncarried_logs_have_headline}

-- ---- the headline

headline_by : (c : Bool) (s : ScenarioValue) (log : List Record) → s.carrier ≡ c → IsScript s → IsLogBy c s log → HeadlineBy c s log
headline_by true s log is valid of = carried_logs_have_headline s log (record { valid = valid; carried = is }) of
headline_by false s log is valid of = uncarried_logs_have_headline s log valid of

pub run_logs_have_headline : RunLogsHaveHeadline
run_logs_have_headline s log valid of = headline_by s.carrier s log refl valid of

-- ---- the steps of a carried log

module _ (s : ScenarioValue) (script : IsCarriedScript s) (played : List Record) (is_played : IsCarriedPlayed s played) where
  follow : StepsFollow s played
  follow = carried_steps s played script is_played

  -- with the first record of the next group, after which no step begins
  opening_follows : (group : List Record) (opening : HasOpening s played group) (after : List Record) → begun_steps after ≡ []
      → StepsFollow s (played ++ opening.first ∷ after)
  opening_follows group opening after none =
      let first : begun_steps (opening.first ∷ after) ≡ begun_steps (opening.first ∷ []) = ap (cons_option (step_of opening.first)) none in
      elim opening.steps [
        | inl no_step ↦ no_more_steps s played (opening.first ∷ after) follow (first ∙ no_step)
        | inr begins ↦ one_more_step s played (opening.first ∷ after) begins.step follow (first ∙ begins.is) begins.next
      ]

  spent_follows : (log : List Record) → IsCarriedSpent s played log → StepsFollow s log
  spent_follows log spent =
      let opening = opening_of s played spent.group spent.next in
      let one : take 1 spent.group ≡ opening.first ∷ [] = ap (take 1) (sym opening.is) in
      subst (StepsFollow s) (sym (spent.log_is ∙ ap (λ l. played ++ (l ++ Spent s.frames ∷ [])) one))
      (opening_follows spent.group opening (Spent s.frames ∷ []) refl)

  stopped_follows : (log : List Record) → IsCarriedCut s played log → StepsFollow s log
  stopped_follows log cut =
      let group = cut.group in
      let o = opening_of s played group cut.next in
      elim (cases_lt s.frames (sent_count (played ++ group))) [
        | inl over ↦
            subst (StepsFollow s)
            (sym (cut.log_is ∙ ap (λ k. played ++ take k group) (cut.first over) ∙ ap (λ l. played ++ l) (ap (take 1) (sym o.is))))
            (opening_follows group o [] refl)
        | inr within ↦
            let w = whole_next s script played group (carried_run s script played is_played) cut.next within in
            let rest = take (cut.kept - 1) o.items in
            let alone = All-take (λ item. begins_group true item ≡ false) (cut.kept - 1) o.items (after_alone played group o.first o.items w o.is) in
            subst (StepsFollow s)
            (sym (cut.log_is ∙ ap (λ g. played ++ take cut.kept g) (sym o.is)
            ∙ ap (λ k. played ++ take k (o.first ∷ o.items)) (let some = cut.some in let e : cut.kept ≡ suc (cut.kept - 1) = omega (arith, some) in e)))
            (opening_follows group o rest (within_none rest alone).steps_are)
      ]

  finished_follows : StepsFollow s (played ++ Finished (length s.steps) ∷ [])
  finished_follows = no_more_steps s played (Finished (length s.steps) ∷ []) follow refl

carried_follows : (s : ScenarioValue) (log : List Record) → IsCarriedScript s → IsCarriedLogOf s log → StepsFollow s log
carried_follows s log script of =
    elim of.ending [
      | inl same ↦ subst (StepsFollow s) (sym same) (follow s script of.played of.is_played)
      | inr (inl (inl finished)) ↦ subst (StepsFollow s) (sym finished.log_is) (finished_follows s script of.played of.is_played)
      | inr (inl (inr spent)) ↦ spent_follows s script of.played of.is_played log spent
      | inr (inr cut) ↦ stopped_follows s script of.played of.is_played log cut
    ]

steps_by : (c : Bool) (s : ScenarioValue) (log : List Record) → s.carrier ≡ c → IsScript s → IsLogBy c s log → StepsFollow s log
steps_by true s log is valid of = carried_follows s log (record { valid = valid; carried = is }) of
steps_by false s log is valid of =
    subst (λ l. l ≡ take (length l) s.steps) (same_steps log) (logs_follow_scripts s (reduced log) (uncarried_runs_reduce.ended s log valid of)).steps

pub run_logs_follow : RunLogsFollow
run_logs_follow s log valid of =
    let rest = drop (beginning log) log in
    record {
      begins = (rest, sym (take-append-drop (beginning log) log) ∙ ap (λ l. l ++ rest) (runs_by_carrier.begins s log of));
      steps = steps_by s.carrier s log refl valid of;
    }

-- ---- how a run ends

going_by : (c : Bool) (s : ScenarioValue) (log : List Record) → IsPlayedBy c s log → is_ended log ≡ false
going_by true s log played = played.going
going_by false s log played = played.going

finished_by : (c : Bool) (s : ScenarioValue) (played log : List Record) → s.carrier ≡ c → IsScript s → IsPlayedBy c s played
    → IsFinishedBy c s played log → HasAllSteps s log
finished_by true s played log is valid of over =
    subst (HasAllSteps s) (sym over.log_is) (all_steps s played (carried_all s played (record { valid = valid; carried = is }) of over.none))
finished_by false s played log is valid of over =
    subst (HasAllSteps s) (sym over.log_is) (all_steps s played (uncarried_all s valid played of over.none))

spent_by : (c : Bool) (s : ScenarioValue) (played log : List Record) → IsSpentBy c s played log → last_of log ≡ Some (Spent s.frames)
spent_by true s played log over = ap last_of over.log_is ∙ spent_last played (take 1 over.group) s.frames
spent_by false s played log over = ap last_of over.log_is ∙ spent_last played (step_alone over.group) s.frames

pub run_logs_end_so : RunLogsEndSo
run_logs_end_so = record {
  going = λ s log played. going_by s.carrier s log played;
  finished = λ s played log valid is over. finished_by s.carrier s played log refl valid is over;
  spent = λ s played log is over. spent_by s.carrier s played log over;
}

-- ---- the text

printed_by : (c : Bool) (s : ScenarioValue) (log : List Record) → s.carrier ≡ c → IsScript s → IsLogBy c s log → CanBePrinted log
printed_by true s log is valid of = carried_printed s (record { valid = valid; carried = is }) log of
printed_by false s log is valid of = uncarried_printed s log valid of

head_read : (p : SettingsValue) (item : Record) → IsPrintable (Some p) item → HasReadHead p item
head_read p (Sent number bytes) is = is
head_read p item is = tt

heads_read : (p : SettingsValue) (items : List Record) → All (λ item. ¬ IsBegin item) items → ArePrintable (Some p) items → All (HasReadHead p) items
heads_read p [] none can = All-nil (HasReadHead p)
heads_read p (item ∷ items) none can =
    let here = All-head (λ other. ¬ IsBegin other) item items none in
    All-cons (HasReadHead p) item items (head_read p item can.0)
    (heads_read p items (All-tail (λ other. ¬ IsBegin other) item items none)
    (subst (λ settings. ArePrintable settings items) (same_settings (Some p) item here) can.1))

begin_first : (c : Bool) (b : Beginning) (rest : List Record) → (more : List Record) × (beginning_records c b ++ rest ≡ begin_record b ∷ more)
begin_first true b rest = (_, refl)
begin_first false b rest = (_, refl)

begun_heads : (b : Beginning) (more : List Record) → CanBePrinted (begin_record b ∷ more) → All (HasReadHead b.settings) (begin_record b ∷ more)
begun_heads b more can =
    All-cons (HasReadHead b.settings) (begin_record b) more tt
    (heads_read b.settings more can.printable.begins.1 can.printable.each.1)

run_heads : (s : ScenarioValue) (log : List Record) → IsScript s → IsRunLog s log → All (HasReadHead s.settings) log
run_heads s log valid of =
    let b = beginning_in s in
    let begins = (run_logs_follow s log valid of).begins in
    let first = begin_first s.carrier b begins.0 in
    let is : log ≡ begin_record b ∷ first.0 = begins.1 ∙ first.1 in
    subst (All (HasReadHead s.settings)) (sym is) (begun_heads b first.0 (subst CanBePrinted is (printed_by s.carrier s log refl valid of)))

-- so in the log of a carried run
pub carried_heads : (s : ScenarioValue) (log : List Record) → IsCarriedScript s → IsCarriedLogOf s log → All (HasReadHead s.settings) log
carried_heads s log script of = run_heads s log script.valid (subst (λ c. IsLogBy c s log) (sym script.carried) of)

pub run_logs_are_printed : RunLogsArePrinted
run_logs_are_printed = record {
  printed = λ s log valid of. printed_by s.carrier s log refl valid of;
  heads = run_heads;
}
