-- The log of a run can be printed, and has few records.
use Rattle.std.proofs.Common.{◌≡◌, inl, inr, ℕ, ◌+◌, ◌*◌, ◌<◌, ◌≤◌, Bool, true, false, not, cond, List, [], ◌∷◌, ◌++◌, length, All, Some, refl, ap, sym, subst, ◌∙◌, arith, append_assoc, append-nil, length-append}
use Rattle.std.proofs.lemmas.Bool.{cases_Bool}
use Rattle.std.specs.Prelude.{nat_le}
use Rattle.std.proofs.lemmas.List.Elements.{All-append, All-cons, All-head, All-nil, All-tail}
use Rattle.tap_name.specs.Settings.{SettingsValue}
use Rattle.tap_scenario.specs.Scenario.{IsScript, ScenarioValue, most_frames}
use Rattle.tap_log.specs.declared.record.Record.{Record}
use Rattle.tap_log.specs.declared.record.Record.TheVariants.{Step as StepRecord, Spent, Finished}
use Rattle.tap_log.specs.Counts.{sent_count}
use Rattle.tap_log.specs.Kinds.{sent_number, taken_number}
use Rattle.tap_log.specs.Reduced.{is_added, reduced}
use Rattle.tap_history.specs.Groups.{EachGroupFrom, groups_of, records_of}
use Rattle.tap_history.proofs.Parts.{log_is_groups}
use Rattle.tap_report.specs.Text.{ArePrintable}
use Rattle.tap_report.proofs.TextLemmas.{same_settings}
use Rattle.tap_runs.specs.Beginning.{Beginning, begin_record}
use Rattle.tap_runs.specs.Course.{Follows}
use Rattle.tap_runs.proofs.CourseGrows.{log_is}
use Rattle.tap_lawful.specs.Next.{beginning_in, next_group, uncarried_next_group}
use Rattle.tap_lawful.specs.Lawful.{ComesNext, IsLogWith, IsPlayed, IsPlayedWith, IsUncarriedLogOf, IsUncarriedPlayed, NextGroup, step_alone}
use Rattle.tap_lawful.specs.PlayedLaws.{left_of}
use Rattle.tap_lawful.proofs.Less.{less_left}
use Rattle.tap_lawful.proofs.Played.{sent_count-append, sent_no_fewer}
use Rattle.tap_lawful.proofs.Uncarried.{uncarried_far}
use Rattle.tap_runs.specs.Named.{HaveNames}
use Rattle.tap_safe_runs.specs.Safe.{IsRun}
use Rattle.tap_safe_runs.proofs.Lawful.{lawful_logs_are_safe}
use Rattle.tap_safe_runs.proofs.Safe.{run_begins, run_more, steps_after, steps_before}
use Rattle.tap_headline.specs.Printable.{CanBePrinted, LogsCanBePrinted}
use Rattle.tap_headline.proofs.PrintedRecords.{AreTold, CanPrint, added_prints, both_told, more_told, none_told}
use Rattle.tap_headline.proofs.Groups.{group_told}

-- ---- the records of all groups

groups_told : (b : Beginning) (before : List Record) (groups : List (List Record)) → IsRun b before → HaveNames b.settings (records_of groups)
    → EachGroupFrom (Follows b) before groups → AreTold b.settings (4 * length groups) (records_of groups)
groups_told b before [] run steps each = none_told b.settings
groups_told b before (group ∷ groups) run steps each =
    let first = steps_before b.settings group (records_of groups) steps in
    let later = steps_after b.settings group (records_of groups) steps in
    let rest = groups_told b (before ++ group) groups (run_more b before group run each.0 first) later each.1 in
    more_told b.settings (4 + 4 * length groups) (4 * length (group ∷ groups)) (group ++ records_of groups) (omega arith)
    (both_told b.settings 4 (4 * length groups) group (records_of groups) (group_told b before run group first each.0) rest)

-- the records after the beginning of a run
run_told : (b : Beginning) (log : List Record) → IsRun b log → AreTold b.settings (4 * length (groups_of log)) (records_of (groups_of log))
run_told b log run =
    let groups = groups_of log in
    let start = begin_record b ∷ [] in
    let all : HaveNames b.settings (start ++ records_of groups) =
    subst (HaveNames b.settings) (sym (log_is b log run.course run.going)) run.steps in
    groups_told b start groups (run_begins b run.course.limits) (steps_after b.settings start (records_of groups) all)
    (subst (λ l. EachGroupFrom (Follows b) l groups) run.course.begins run.course.each)

-- ---- how many groups there are

groups_left : (s : ScenarioValue) (before : List Record) (groups : List (List Record)) → EachGroupFrom (ComesNext s) before groups
    → sent_count (before ++ records_of groups) ≤ s.frames → length groups ≤ left_of s before
groups_left s before [] each within = omega arith
groups_left s before (group ∷ groups) each within =
    let rest : sent_count ((before ++ group) ++ records_of groups) ≤ s.frames =
    subst (λ l. sent_count l ≤ s.frames) (sym (append_assoc before group (records_of groups))) within in
    let fewer = sent_no_fewer (before ++ group) (records_of groups) in
    let less = less_left s before group each.0 (omega (arith, rest, fewer)) in
    let later = groups_left s (before ++ group) groups each.1 rest in
    omega (arith, less, later)

-- so many groups a run has at most, and so many frames
left_at_first : (s : ScenarioValue) → left_of s (begin_record (beginning_in s) ∷ []) ≤ length s.steps + 2 * s.frames
unfolding sent_number taken_number
left_at_first s = omega arith

pub frames_few : (digits : ℕ) → most_frames digits ≤ 500000
frames_few digits =
    elim (cases_Bool (nat_le digits 8)) [
      | inl few ↦ rw few (omega arith)
      | inr many ↦ rw many (omega arith)
    ]

-- ---- the log of a run that isn't over

-- the records after `Begin`, of which there are fewer than fifty million
pub record AreLater (s : ScenarioValue) (log : List Record) : Type 0 where
  pub later : List Record
  pub is : log ≡ begin_record (beginning_in s) ∷ later
  pub print : All (CanPrint s.settings) later
  pub few : length later < 50000000

-- of a log in which no roots are told there are fewer
record ArePlainLater (s : ScenarioValue) (log : List Record) : Type 0 where
  parts : AreLater s log
  few : length log ≤ 20000000

played_later : (s : ScenarioValue) (log : List Record) → IsScript s → IsPlayed s log → ArePlainLater s log
played_later s log valid played =
    let run = lawful_logs_are_safe.runs s log valid played in
    let groups = groups_of log in
    let told = run_told (beginning_in s) log run in
    let is : begin_record (beginning_in s) ∷ records_of groups ≡ log = log_is (beginning_in s) log run.course run.going in
    let each = subst (λ l. EachGroupFrom (ComesNext s) l groups) played.begins played.each in
    let sent : sent_count (begin_record (beginning_in s) ∷ records_of groups) ≤ s.frames =
    subst (λ l. sent_count l ≤ s.frames) (sym is) played.within in
    let many = groups_left s (begin_record (beginning_in s) ∷ []) groups each sent in
    let first = left_at_first s in
    let own = sent_no_fewer_after (begin_record (beginning_in s)) (records_of groups) in
    let size = told.few in
    let steps = valid.steps_to in
    let frames = valid.frames_to in
    let limit = frames_few s.settings.digits in
    let count : length (records_of groups) < 20000000 = omega (arith, many, first, own, size, sent, steps, frames, limit) in
    record {
      parts = record { later = records_of groups; is = sym is; print = told.print; few = omega (arith, count) };
      few = let whole = ap length (sym is) in omega (arith, count, whole);
    }
  where
    sent_no_fewer_after : (item : Record) (items : List Record) → sent_count items ≤ sent_count (item ∷ items)
    sent_no_fewer_after item items =
        let all = sent_count-append (item ∷ []) items in omega (arith, all)

-- ---- how a run ends

pub later_with : (s : ScenarioValue) (played end : List Record) → AreLater s played → All (CanPrint s.settings) end → length end ≤ 2000000
    → CanBePrinted (played ++ end)
later_with s played end parts print short =
    let p = s.settings in
    let start = begin_record (beginning_in s) in
    let all = parts.later ++ end in
    let size = length-append parts.later end in
    let few = parts.few in
    let prints : All (CanPrint p) all = All-append (CanPrint p) parts.later end parts.print print in
    subst (λ l. CanBePrinted (l ++ end)) (sym parts.is) (record {
      printable = record { begins = (refl, λ k d within. (prints k d within).1); each = (tt, are_printable p all prints) };
      few = omega (arith, size, few, short);
    })
  where
    are_printable : (p : SettingsValue) (items : List Record) → All (CanPrint p) items → ArePrintable (Some p) items
    are_printable p [] all = tt
    are_printable p (item ∷ items) all =
        let first = All-head (CanPrint p) item items all in (
          first.0,
          subst (λ settings. ArePrintable settings items) (sym (same_settings (Some p) item first.1))
              (are_printable p items (All-tail (CanPrint p) item items all)),
        )

pub one_end : (s : ScenarioValue) (played : List Record) (last : Record) → AreLater s played → CanPrint s.settings last
    → CanBePrinted (played ++ last ∷ [])
one_end s played last parts can =
    let P = CanPrint s.settings in later_with s played (last ∷ []) parts (All-cons P last [] can (All-nil P)) (omega arith)

pub two_end : (s : ScenarioValue) (played : List Record) (first last : Record) → AreLater s played → CanPrint s.settings first
    → CanPrint s.settings last → CanBePrinted (played ++ first ∷ last ∷ [])
two_end s played first last parts can other =
    let P = CanPrint s.settings in
    later_with s played (first ∷ last ∷ []) parts (All-cons P first (last ∷ []) can (All-cons P last [] other (All-nil P))) (omega arith)

-- what stands of a group that would send too many frames
spent_printed : (s : ScenarioValue) (played : List Record) → AreLater s played → (group : List Record)
    → CanBePrinted (played ++ (step_alone group ++ Spent s.frames ∷ []))
unfolding step_alone
spent_printed s played parts [] = one_end s played (Spent s.frames) parts (tt, λ h. cc)
spent_printed s played parts (StepRecord index step ∷ items) =
    two_end s played (StepRecord index step) (Spent s.frames) parts (tt, λ h. cc) (tt, λ h. cc)
spent_printed s played parts (item ∷ items) = one_end s played (Spent s.frames) parts (tt, λ h. cc)

-- by whatever comes next
logs_printed : (coming : NextGroup) (s : ScenarioValue) (log : List Record)
    → ((played : List Record) → IsPlayedWith coming s played → AreLater s played) → IsLogWith coming s log → CanBePrinted log
logs_printed coming s log later run =
    let parts = later run.played run.is_played in
    elim run.ending [
      | inl same ↦
          subst CanBePrinted (append-nil run.played ∙ sym same)
          (later_with s run.played [] parts (All-nil (CanPrint s.settings)) (omega arith))
      | inr over ↦ elim over [
        | inl finished ↦
            subst CanBePrinted (sym finished.log_is) (one_end s run.played (Finished (length s.steps)) parts (tt, λ h. cc))
        | inr spent ↦ subst CanBePrinted (sym spent.log_is) (spent_printed s run.played parts spent.group)
      ]
    ]

pub logs_can_be_printed : LogsCanBePrinted
logs_can_be_printed s log valid run = logs_printed (next_group s) s log (λ played is. (played_later s played valid is).parts) run

-- ---- with the roots of salted names

-- what holds of each record of the reduced log, and of those that it leaves out, holds of all
one_kept : (P : Record → Type 0) → ((item : Record) → is_added item ≡ true → P item) → (item : Record) (items : List Record) (left_out : Bool)
    → is_added item ≡ left_out → (All P (reduced items) → All P items)
    → All P (cond {A = List Record} (not left_out) (item ∷ reduced items) (reduced items)) → All P (item ∷ items)
one_kept P added item items true is rest all = All-cons P item items (added item is) (rest all)
one_kept P added item items false is rest all =
    All-cons P item items (All-head P item (reduced items) all) (rest (All-tail P item (reduced items) all))

each_kept : (P : Record → Type 0) → ((item : Record) → is_added item ≡ true → P item) → (items : List Record) → All P (reduced items) → All P items
each_kept P added [] all = All-nil P
each_kept P added (item ∷ items) all = one_kept P added item items (is_added item) refl (each_kept P added items) all

begin_kept : (b : Beginning) (items : List Record) → reduced (begin_record b ∷ items) ≡ begin_record b ∷ reduced items
unfolding is_added
begin_kept b items = refl

same_tail : (x y : Record) (xs ys : List Record) → x ∷ xs ≡ y ∷ ys → xs ≡ ys
same_tail x y xs ys is = cc

uncarried_later : (s : ScenarioValue) (log : List Record) → IsScript s → IsUncarriedPlayed s log → AreLater s log
uncarried_later s log valid played =
    let far = uncarried_far s valid log played in
    let plain = played_later s (reduced log) valid far.plain in
    let first = begin_record (beginning_in s) in
    let rest = records_of (groups_of log) in
    let is : log ≡ first ∷ rest = sym (log_is_groups log played.going) ∙ ap (λ l. l ++ rest) played.begins in
    let less : reduced rest ≡ plain.parts.later =
    same_tail first first (reduced rest) plain.parts.later
    (sym (begin_kept (beginning_in s) rest) ∙ ap reduced (sym is) ∙ plain.parts.is) in
    let half = far.few in
    let few = plain.few in
    let size = ap length is in
    record {
      later = rest;
      is = is;
      print = each_kept (CanPrint s.settings) (added_prints s.settings) rest (subst (All (CanPrint s.settings)) (sym less) plain.parts.print);
      few = omega (arith, half, few, size);
    }

pub uncarried_printed : (s : ScenarioValue) (log : List Record) → IsScript s → IsUncarriedLogOf s log → CanBePrinted log
uncarried_printed s log valid run = logs_printed (uncarried_next_group s) s log (λ played is. uncarried_later s played valid is) run
