-- Why the top call ends as it does, and what follows of its log.
use Rattle.std.proofs.Common.{◌≡◌, ◌≢◌, ◌⊎◌, inl, inr, Bool, true, false, List, [], ◌∷◌, length, Option, None, Some, refl, ap, sym, subst, ◌∙◌, ℕ}
use Rattle.std.specs.Prelude.{◌↔◌, IfSome, IsSome, IsTrue, MatchOption}
use Rattle.tap_io.specs.AllBytes.{HasReadTooMany}
use Rattle.tap_io.specs.Source.{SourceState}
use Rattle.tap_scenario.specs.Scenario.{IsScript, ScenarioValue}
use Rattle.tap_scenario.specs.declared.fault.Fault.{Fault}
use Rattle.tap_log.specs.declared.record.Record.{Record}
use Rattle.tap_log.specs.declared.record.Record.TheVariants.{Spent as SpentRecord, Finished}
use Rattle.tap_log.specs.Log.{last_of}
use Rattle.tap_history.specs.Groups.{ends_log, is_ended, is_spent}
use Rattle.tap_make.specs.Made.{made}
use Rattle.tap_engine.specs.Kinds.{finishes_run, is_finished}
use Rattle.tap_engine.specs.World.{HasNodesOfLog, WorldValue, whole_log}
use Rattle.tap_lawful.specs.Runs.{IsLawful, IsRunLog}
use Rattle.tap_headline.proofs.Runs.{run_logs_are_printed, run_logs_end_so, run_logs_follow, run_logs_have_headline}
use Rattle.tap_replay.specs.Runs.{LeavesWorld as RunLeaves}
use Rattle.tap_replay.specs.declared.end.End.{End}
use Rattle.tap_replay.specs.declared.end.End.TheVariants as end
use Rattle.tap_report.specs.Text.{IsPrintableLog}
use Rattle.tap_words.specs.declared.asked.Asked.{Asked}
use Rattle.tap_top.specs.declared.status.Status.{Status}
use Rattle.tap_top.specs.declared.status.Status.TheVariants.{Done, Usage, TooLong, NotScenario, ReadFault, WriteFault, Spent, NoMemory}
use Rattle.tap_top.specs.Ending.{HasCause, HasCauseOf, HasRun, HasRunAs, HasRunOf, LeavesWorld, log_of}
use Rattle.tap_top.specs.AskedLog.{HasRunAll, HasRunShort, IsLogAsked, ends_spent}
use Rattle.tap_bounds_runs.proofs.CarriedEnough.{runs_are_never_spent}
use Rattle.tap_top.specs.Limits.{most_bytes}
use Rattle.tap_top.specs.Reading.{HasReadFault, HasReadScript}
use Rattle.tap_top.specs.Status.{status_of_end}
use Rattle.tap_top.specs.Wanted.{IsNotHad, IsUnread, IsWanted}
use Rattle.tap_top.proofs.Consumed.{script_read}
use Rattle.tap_replay.proofs.Left.{left_done, left_going, left_log, left_spent}
use Rattle.tap_replay.proofs.ByCarrier.{left_nodes}
use Rattle.tap_replay.proofs.Running.{unfinished}

-- ---- causes

pub run_as : (s : ScenarioValue) (e : End) (world : WorldValue) → RunLeaves s e world → HasRunAs s (status_of_end e) world
run_as s end.Done world left = left
run_as s end.Spent world left = left
run_as s end.NoMemory world left = left

-- memory may be refused once a scenario was had
memory_alone : (asked : Asked) (old new : SourceState) (s : ScenarioValue) → IsWanted asked old new s → IsNotHad asked old new NoMemory
memory_alone asked old new s wanted = by_make asked.make wanted
  where
    by_make : (make : Option ℕ) → MatchOption make (HasReadScript old new s) (λ joins. (s ≡ made joins asked.seed) × (new ≡ old))
        → MatchOption make (IsUnread old new NoMemory) (λ joins. (NoMemory ≡ NoMemory) × (new ≡ old))
    by_make None read = script_read old new s read
    by_make (Some joins) is = (refl, is.1)

-- a run that was had
pub cause_of_run : (asked : Asked) (old new : SourceState) (s : ScenarioValue) (world : Option WorldValue) (status : Status) → IsScript s
    → IsWanted asked old new s → HasRunOf s status world → HasCauseOf asked old new world status
cause_of_run asked old new s None status valid wanted memory =
    subst (IsNotHad asked old new) (sym memory) (memory_alone asked old new s wanted)
cause_of_run asked old new s (Some world) status valid wanted run =
    record { script = s; valid = valid; wanted = wanted; ended = run }

-- a world is left by a run, and none if no scenario was had
pub leaves_some : (s : ScenarioValue) (status : Status) (played world : WorldValue) → HasRunAs s status played
    → LeavesWorld status (Some world)
leaves_some s Done played world run = refl
leaves_some s Spent played world run = refl
leaves_some s NoMemory played world run = tt
leaves_some s other played world run = absurd run

unread_leaves : (old new : SourceState) (status : Status) → IsUnread old new status → LeavesWorld status None
unread_leaves old new Done unread = absurd unread
unread_leaves old new Spent unread = absurd unread
unread_leaves old new NoMemory unread = tt
unread_leaves old new other unread = refl

pub leaves_none : (asked : Asked) (old new : SourceState) (status : Status) → IsNotHad asked old new status → LeavesWorld status None
leaves_none asked old new status not_had = by_make asked.make not_had
  where
    by_make : (make : Option ℕ) → MatchOption make (IsUnread old new status) (λ joins. (status ≡ NoMemory) × (new ≡ old))
        → LeavesWorld status None
    by_make None unread = unread_leaves old new status unread
    by_make (Some joins) refused = subst (λ s. LeavesWorld s None) (sym refused.0) tt

-- ---- the same, status by status

-- a scenario that wasn't had was to be read, unless memory was refused
not_had_unread : (asked : Asked) (old new : SourceState) (status : Status) → IsNotHad asked old new status → status ≢ NoMemory
    → IsUnread old new status
not_had_unread asked old new status not_had enough = by_make asked.make not_had
  where
    by_make : (make : Option ℕ) → MatchOption make (IsUnread old new status) (λ joins. (status ≡ NoMemory) × (new ≡ old))
        → IsUnread old new status
    by_make None unread = unread
    by_make (Some joins) refused = absurd (enough refused.0)

-- a run that has left this world
pub record HasLeft (asked : Asked) (old new : SourceState) (world : Option WorldValue) (status : Status) : Type 0 where
  pub left : WorldValue
  pub is : world ≡ Some left
  pub run : HasRun asked old new status left

-- words that are refused, or memory
refused_so : (status : Status) → ((status ≡ Usage) ⊎ (status ≡ NoMemory)) → status ≢ Usage → status ≢ NoMemory → ⊥
refused_so status (inl usage) first second = first usage
refused_so status (inr memory) first second = second memory

module _ (asked : Asked) (old new : SourceState) where
  ran_or_unread : (world : Option WorldValue) (status : Status) → HasCauseOf asked old new world status → status ≢ NoMemory
      → IsUnread old new status ⊎ HasLeft asked old new world status
  ran_or_unread None status cause enough = inl (not_had_unread asked old new status cause enough)
  ran_or_unread (Some world) status cause enough = inr (record { left = world; is = refl; run = cause })

  never_usage : (world : Option WorldValue) → HasCauseOf asked old new world Usage → ⊥
  never_usage world cause = elim (ran_or_unread world Usage cause (λ is. cc)) [ inl never ↦ never | inr ran ↦ ran.run.ended ]

  never_writing : (world : Option WorldValue) → HasCauseOf asked old new world WriteFault → ⊥
  never_writing world cause = elim (ran_or_unread world WriteFault cause (λ is. cc)) [ inl never ↦ never | inr ran ↦ ran.run.ended ]

  all_run : (world : Option WorldValue) → HasCauseOf asked old new world Done → HasRunAll asked old new world
  all_run world cause = elim (ran_or_unread world Done cause (λ is. cc)) [
    | inl never ↦ absurd never
    | inr ran ↦
        let run = ran.run in
        let ended = left_done run.script run.valid ran.left run.ended in
        record {
          script = run.script;
          valid = run.valid;
          wanted = run.wanted;
          left = ran.left;
          world_is = ran.is;
          run = run.ended;
          steps = run_logs_end_so.finished run.script ended.0 (whole_log ran.left) run.valid ended.1 ended.2;
        }
  ]

  short_run : (world : Option WorldValue) → HasCauseOf asked old new world Spent → HasRunShort asked old new world
  short_run world cause = elim (ran_or_unread world Spent cause (λ is. cc)) [
    | inl never ↦ absurd never
    | inr ran ↦
        let run = ran.run in
        let ended = left_spent run.script run.valid ran.left run.ended in
        record {
          script = run.script;
          valid = run.valid;
          wanted = run.wanted;
          left = ran.left;
          world_is = ran.is;
          run = run.ended;
          short = λ alone enough. runs_are_never_spent run.script ended.0 (whole_log ran.left) run.valid alone enough ended.1 ended.2;
        }
  ]

module _ (asked : Option Asked) (old new : SourceState) (world : Option WorldValue) where
  pub usage_refused : HasCause asked old new world Usage → asked ≡ None
  usage_refused cause = by_words asked refl cause
    where
      by_words : (words : Option Asked) → asked ≡ words → HasCause words old new world Usage → asked ≡ None
      by_words None is cause = is
      by_words (Some a) is cause = absurd (never_usage a old new world cause)

  pub refused_usage : (status : Status) → HasCause asked old new world status → asked ≡ None → status ≢ NoMemory → status ≡ Usage
  refused_usage status cause none memory =
      let so : HasCause None old new world status = subst (λ a. HasCause a old new world status) none cause in
      elim so.2 [
        | inl usage ↦ usage
        | inr wants ↦ absurd (memory wants)
      ]

pub done_ran : (asked : Option Asked) (old new : SourceState) (world : Option WorldValue) → HasCause asked old new world Done
    → IfSome asked (λ a. HasRunAll a old new world)
done_ran None old new world cause = absurd (refused_so Done cause.2 (λ is. cc) (λ is. cc))
done_ran (Some asked) old new world cause = all_run asked old new world cause

pub spent_ran : (asked : Option Asked) (old new : SourceState) (world : Option WorldValue) → HasCause asked old new world Spent
    → IfSome asked (λ a. HasRunShort a old new world)
spent_ran None old new world cause = absurd (refused_so Spent cause.2 (λ is. cc) (λ is. cc))
spent_ran (Some asked) old new world cause = short_run asked old new world cause

-- once all steps were run, the nodes of the world that is left are those of the system that its log has come to
pub done_nodes : (asked : Option Asked) (old new : SourceState) (world : Option WorldValue) → HasCause asked old new world Done
    → IfSome world HasNodesOfLog
done_nodes asked old new None cause = tt
done_nodes None old new (Some world) cause = absurd (refused_so Done cause.2 (λ is. cc) (λ is. cc))
done_nodes (Some asked) old new (Some world) cause = left_nodes cause.script.carrier cause.script end.Done world cause.ended refl

pub read_too_many : (asked : Option Asked) (old new : SourceState) (world : Option WorldValue) → HasCause asked old new world TooLong
    → HasReadTooMany most_bytes old new
read_too_many None old new world cause = absurd (refused_so TooLong cause.2 (λ is. cc) (λ is. cc))
read_too_many (Some asked) old new world cause =
    elim (ran_or_unread asked old new world TooLong cause (λ is. cc)) [ inl unread ↦ unread | inr ran ↦ absurd ran.run.ended ]

pub read_no_scenario : (asked : Option Asked) (old new : SourceState) (world : Option WorldValue) (fault : Fault)
    → HasCause asked old new world (NotScenario fault) → HasReadFault old new fault
read_no_scenario None old new world fault cause = absurd (refused_so (NotScenario fault) cause.2 (λ is. cc) (λ is. cc))
read_no_scenario (Some asked) old new world fault cause =
    elim (ran_or_unread asked old new world (NotScenario fault) cause (λ is. cc)) [ inl unread ↦ unread | inr ran ↦ absurd ran.run.ended ]

-- writing is no cause
pub never_write_fault : (asked : Option Asked) (old new : SourceState) (world : Option WorldValue) (status : Status)
    → HasCause asked old new world status → status ≢ WriteFault
never_write_fault None old new world status cause = λ is.
    refused_so WriteFault (subst (λ s. (s ≡ Usage) ⊎ (s ≡ NoMemory)) is cause.2) (λ h. cc) (λ h. cc)
never_write_fault (Some asked) old new world status cause = λ is.
    never_writing asked old new world (subst (HasCauseOf asked old new world) is cause)

-- a scenario that is to be made is made without the source
made_untouched : (asked : Asked) (old new : SourceState) (world : Option WorldValue) (status : Status) → HasCauseOf asked old new world status
    → IsSome asked.make → new ≡ old
made_untouched asked old new None status not_had some = by_make asked.make some not_had
  where
    by_make : (make : Option ℕ) → IsSome make → MatchOption make (IsUnread old new status) (λ joins. (status ≡ NoMemory) × (new ≡ old))
        → new ≡ old
    by_make None some unread = absurd (cc)
    by_make (Some joins) some refused = refused.1
made_untouched asked old new (Some world) status run some = by_make asked.make some run.wanted
  where
    by_make : (make : Option ℕ) → IsSome make
        → MatchOption make (HasReadScript old new run.script) (λ joins. (run.script ≡ made joins asked.seed) × (new ≡ old)) → new ≡ old
    by_make None some read = absurd (cc)
    by_make (Some joins) some wanted = wanted.1

pub source_untouched : (asked : Option Asked) (old new : SourceState) (world : Option WorldValue) (status : Status)
    → HasCause asked old new world status → MatchOption asked (new ≡ old) (λ a. IsSome a.make → new ≡ old)
source_untouched None old new world status cause = cause.1
source_untouched (Some asked) old new world status cause = made_untouched asked old new world status cause

-- ---- the log

run_log : (s : ScenarioValue) (status : Status) (world : WorldValue) → IsScript s → HasRunAs s status world → IsRunLog s (whole_log world)
run_log s Done world valid left = left_log s valid world end.Done left
run_log s Spent world valid left = left_log s valid world end.Spent left
run_log s NoMemory world valid left = left_log s valid world end.NoMemory left
run_log s other world valid left = absurd left

-- what a run leaves has the headline
run_asked : (asked : Asked) (old new : SourceState) (status : Status) (world : WorldValue) → HasRun asked old new status world
    → IsLogAsked asked old new (whole_log world)
run_asked asked old new status world ran =
    let log = whole_log world in
    let run = run_log ran.script status world ran.valid ran.ended in
    record {
      script = ran.script;
      valid = ran.valid;
      wanted = ran.wanted;
      run = run;
      follows = run_logs_follow ran.script log ran.valid run;
      headline = run_logs_have_headline ran.script log ran.valid run;
    }

-- there is no log, or it is that of a run
caused_log : (asked : Asked) (old new : SourceState) (world : Option WorldValue) (status : Status) → HasCauseOf asked old new world status
    → (log_of world ≡ []) ⊎ IsLogAsked asked old new (log_of world)
caused_log asked old new None status cause = inl refl
caused_log asked old new (Some world) status cause = inr (run_asked asked old new status world cause)

abbrev pub IsNoneOrRun : Option Asked → SourceState → SourceState → List Record → Type 0
IsNoneOrRun asked old new log = (log ≡ []) ⊎ IfSome asked (λ a. IsLogAsked a old new log)

-- the headline
pub log_asked : (asked : Option Asked) (old new : SourceState) (world : Option WorldValue) (status : Status)
    → HasCause asked old new world status → IsNoneOrRun asked old new (log_of world)
log_asked None old new world status cause = inl (ap log_of cause.0)
log_asked (Some asked) old new world status cause = caused_log asked old new world status cause

-- so it is lawful
pub log_lawful : (asked : Option Asked) (old new : SourceState) (world : Option WorldValue) (status : Status)
    → HasCause asked old new world status → (log_of world ≡ []) ⊎ IsLawful (log_of world)
log_lawful None old new world status cause = inl (ap log_of cause.0)
log_lawful (Some asked) old new world status cause =
    elim (caused_log asked old new world status cause) [
      | inl none ↦ inl none
      | inr run ↦ inr (record { script = run.script; valid = run.valid; run = run.run })
    ]

-- its log can be printed
pub log_prints : (asked : Option Asked) (old new : SourceState) (world : Option WorldValue) (status : Status)
    → HasCause asked old new world status → IsPrintableLog (log_of world)
log_prints None old new world status cause =
    subst IsPrintableLog (sym (ap log_of cause.0)) (record { begins = tt; each = tt })
log_prints (Some asked) old new world status cause =
    elim (caused_log asked old new world status cause) [
      | inl none ↦ subst IsPrintableLog (sym none) (record { begins = tt; each = tt })
      | inr run ↦ (run_logs_are_printed.printed run.script (log_of world) run.valid run.run).printable
    ]

-- ---- the last record

spent_none : (item : Record) → ends_log item ≡ false → is_spent item ≡ false
unfolding ends_log is_spent
spent_none (SpentRecord limit) none = absurd (cc)
spent_none item none = refl

not_spent : (log : List Record) → is_ended log ≡ false → ends_spent log ≡ false
not_spent [] going = refl
not_spent (item ∷ []) going = spent_none item going
not_spent (item ∷ next ∷ items) going = not_spent (next ∷ items) going

-- which of the two ends a log has, if it has one
pub record HasLast (log : List Record) (finished spent : Bool) : Type 0 where
  pub finished_is : is_finished log ≡ finished
  pub spent_is : ends_spent log ≡ spent

last_finished : (log : List Record) (steps : ℕ) → last_of log ≡ Some (Finished steps) → HasLast log true false
unfolding finishes_run is_spent
last_finished log steps is = record { finished_is = rw is refl; spent_is = rw is refl }

last_spent : (log : List Record) (limit : ℕ) → last_of log ≡ Some (SpentRecord limit) → HasLast log false true
unfolding finishes_run is_spent
last_spent log limit is = record { finished_is = rw is refl; spent_is = rw is refl }

last_none : (log : List Record) → is_ended log ≡ false → HasLast log false false
last_none log going = record { finished_is = unfinished log going; spent_is = not_spent log going }

-- whether a status is that of a run of which all steps were run, or which would have sent too many frames
abbrev pub is_done : Status → Bool
is_done Done = true
is_done other = false

abbrev pub stopped_spent : Status → Bool
stopped_spent Spent = true
stopped_spent other = false

-- no log has no end, and comes with neither status
none_last : (asked : Asked) (old new : SourceState) (status : Status) → IsNotHad asked old new status
    → HasLast [] (is_done status) (stopped_spent status)
none_last asked old new Done not_had = absurd (not_had_unread asked old new Done not_had (λ is. cc))
none_last asked old new Spent not_had = absurd (not_had_unread asked old new Spent not_had (λ is. cc))
none_last asked old new NoMemory not_had = last_none [] refl
none_last asked old new Usage not_had = last_none [] refl
none_last asked old new WriteFault not_had = last_none [] refl
none_last asked old new (NotScenario fault) not_had = last_none [] refl
none_last asked old new TooLong not_had = last_none [] refl
none_last asked old new ReadFault not_had = last_none [] refl

-- that of a run has the end that the status says
run_last : (s : ScenarioValue) (status : Status) (world : WorldValue) → IsScript s → HasRunAs s status world
    → HasLast (whole_log world) (is_done status) (stopped_spent status)
run_last s Done world valid left =
    let ended = left_done s valid world left in
    last_finished (whole_log world) (length s.steps) (run_logs_end_so.finished s ended.0 (whole_log world) valid ended.1 ended.2).last
run_last s Spent world valid left =
    let ended = left_spent s valid world left in
    last_spent (whole_log world) s.frames (run_logs_end_so.spent s ended.0 (whole_log world) ended.1 ended.2)
run_last s NoMemory world valid left = last_none (whole_log world) (left_going s valid world left)
run_last s other world valid left = absurd left

caused_last : (asked : Asked) (old new : SourceState) (world : Option WorldValue) (status : Status) → HasCauseOf asked old new world status
    → HasLast (log_of world) (is_done status) (stopped_spent status)
caused_last asked old new None status cause = none_last asked old new status cause
caused_last asked old new (Some world) status cause = run_last cause.script status world cause.valid cause.ended

pub log_last : (asked : Option Asked) (old new : SourceState) (world : Option WorldValue) (status : Status) → HasCause asked old new world status
    → HasLast (log_of world) (is_done status) (stopped_spent status)
log_last None old new world status cause =
    let empty : HasLast (log_of world) false false =
    subst (λ w. HasLast (log_of w) false false) (sym cause.0) (last_none [] refl) in
    elim cause.2 [
      | inl usage ↦ subst (λ s. HasLast (log_of world) (is_done s) (stopped_spent s)) (sym usage) empty
      | inr memory ↦ subst (λ s. HasLast (log_of world) (is_done s) (stopped_spent s)) (sym memory) empty
    ]
log_last (Some asked) old new world status cause = caused_last asked old new world status cause

done_is : (status : Status) → is_done status ≡ true → status ≡ Done
done_is Done is = refl
done_is other is = absurd (cc)

spent_is : (status : Status) → stopped_spent status ≡ true → status ≡ Spent
spent_is Spent is = refl
spent_is other is = absurd (cc)

-- the log ends with `Finished` exactly if the status is `Done`, and with `Spent` exactly if it is `Spent`
pub done_exactly : (status : Status) (log : List Record) → HasLast log (is_done status) (stopped_spent status)
    → (status ≡ Done) ↔ IsTrue (is_finished log)
done_exactly status log last = (
  λ is. last.finished_is ∙ ap is_done is,
  λ ends. done_is status (sym last.finished_is ∙ ends),
)

pub spent_exactly : (status : Status) (log : List Record) → HasLast log (is_done status) (stopped_spent status)
    → (status ≡ Spent) ↔ IsTrue (ends_spent log)
spent_exactly status log last = (
  λ is. last.spent_is ∙ ap stopped_spent is,
  λ ends. spent_is status (sym last.spent_is ∙ ends),
)
