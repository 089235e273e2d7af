-- Once how a carried run has ended stands after its log, this and its reduced log say the same still.
use Rattle.std.proofs.Common.{◌≡◌, ◌⊎◌, inl, inr, ℕ, Bool, true, false, List, [], ◌∷◌, ◌++◌, filter, All, Option, None, refl, ap, sym, ◌∙◌, append-nil, append_assoc}
use Rattle.std.specs.Prelude.{if◌then◌else◌}
use Rattle.std.specs.List.{cons_option, filter_map, last_or}
use Rattle.std.proofs.lemmas.List.{append_cancel_left}
use Rattle.std.proofs.lemmas.List.Elements.{All-append, All-cons, All-nil, filter_map-append}
use Rattle.tap_log.specs.declared.record.Record.{Record}
use Rattle.tap_log.specs.declared.record.Record.TheVariants.{Carrier, Finished, Spent}
use Rattle.tap_log.specs.Kinds.{accepts, begins_group, is_carried, sent_number, taken_number}
use Rattle.tap_log.specs.Reduced.{is_added, reduced}
use Rattle.tap_log.proofs.MoreRecords.{filter_map-same, is_carried-push}
use Rattle.tap_history.specs.Core.{accepted_in, accepted_step, accepted_steps}
use Rattle.tap_history.specs.Departing.{departing_of}
use Rattle.tap_history.specs.GroupLaws.{IsGroup}
use Rattle.tap_history.specs.Moments.{is_none, is_still, numbers_less, outstanding}
use Rattle.tap_history.specs.RecordLaws.{accepted_by}
use Rattle.tap_history.specs.StepAsks.{depart_name, is_start}
use Rattle.tap_history.proofs.OneMoreGroup.{accepted_in-group, is_carried-group, one_more_group_holds}
use Rattle.tap_history.proofs.RecordChanges.{accepted_steps-push}
use Rattle.tap_runs.specs.Beginning.{Beginning, begin_record}
use Rattle.tap_carried.specs.LogTurns.{beginning_records}
use Rattle.tap_carried.specs.ReducedRuns.{IsRunOfTurns}
use Rattle.tap_carried.proofs.BeginningKept.{none_departs}
use Rattle.tap_carried.proofs.SameNodes.{SaysAlike}
use Rattle.tap_carried.proofs.SameStarts.{HasNoStep}
use Rattle.tap_carried.proofs.TurnsKept.{IsKept}
use Rattle.tap_safe_runs.specs.Safe.{IsRun}
use Rattle.tap_safe_runs.proofs.NeverAlone.{HasNoStartLast}
use Rattle.tap_headline.specs.Endings.{MayEnd}
use Rattle.tap_headline.proofs.Departing.{HasLastGroup}
use Rattle.tap_headline.proofs.EachMoment.{ended_alike, run_alone, run_kept, run_reduced}
use Rattle.tap_headline.proofs.Ended.{may_finish}
use Rattle.tap_headline.proofs.Openings.{IsOpening, opening_begins, opening_ends, opening_sends, opening_takes}
use Rattle.tap_headline.proofs.Starts.{IsIdle, finished_idle, idle_starts, names_no_departure}

-- ---- what stands at the end

finished_within : (carried : Bool) (steps : ℕ) → begins_group carried (Finished steps) ≡ false
unfolding begins_group
finished_within carried steps = refl

spent_within : (carried : Bool) (limit : ℕ) → begins_group carried (Spent limit) ≡ false
unfolding begins_group
spent_within carried limit = refl

-- a group that is cut short accepts nothing
none_cut : (carried : Bool) (first : Record) (limit : ℕ) → accepted_in carried (first ∷ Spent limit ∷ []) ≡ []
unfolding accepted_step accepts
none_cut carried first limit = refl

pub spent_tells : (limit : ℕ) → (sent_number (Spent limit) ≡ None) × (taken_number (Spent limit) ≡ None)
unfolding sent_number taken_number
spent_tells limit = (refl, refl)

pub finished_tells : (steps : ℕ) → (sent_number (Finished steps) ≡ None) × (taken_number (Finished steps) ≡ None)
unfolding sent_number taken_number
finished_tells steps = (refl, refl)

-- two records that tell nothing of a kind
pub two_tell : {Y : Type 0} (h : Record → Option Y) (log : List Record) (one other : Record) → h one ≡ None → h other ≡ None
    → filter_map h (log ++ one ∷ other ∷ []) ≡ filter_map h log
two_tell h log one other first second =
    filter_map-append h log (one ∷ other ∷ [])
    ∙ ap (λ o. filter_map h log ++ cons_option o (filter_map h (other ∷ []))) first
    ∙ ap (λ o. filter_map h log ++ cons_option o []) second ∙ append-nil (filter_map h log)

-- nobody departs at rest
never_still : (still : Bool) (leaver : Option (List ℕ)) → (still ≡ true → leaver ≡ None) → (if still then None else leaver) ≡ leaver
never_still true leaver none = sym (none refl)
never_still false leaver none = refl

-- ---- a carried run

-- the log is its beginning, or has a last group
abbrev pub IsBegunOrGrown : Beginning → List Record → Type 0
IsBegunOrGrown b log = (log ≡ beginning_records true b) ⊎ HasLastGroup log

module _ (b : Beginning) (log : List Record) (run : IsRunOfTurns true b log) where
  pub kept : IsKept true log
  kept = run_kept true b log run

  pub reduced_run : IsRun b (reduced log)
  reduced_run = run_reduced true b log run

  alone : HasNoStartLast log
  alone = run_alone true b log run

  -- ---- too many frames would be sent

  module _ (first : Record) (limit : ℕ) (opens : IsOpening first) where
    abbrev cut : List Record
    cut = first ∷ Spent limit ∷ []

    pub cut_group : IsGroup log first (Spent limit ∷ [])
    cut_group = record {
      begun = kept.begun;
      begins = ap (λ d. begins_group d first) kept.carried ∙ opening_begins first opens;
      alone = All-cons (λ item. begins_group (is_carried log) item ≡ false) (Spent limit) [] (spent_within (is_carried log) limit)
          (All-nil (λ item. begins_group (is_carried log) item ≡ false));
    }

    cut_carried : is_carried (log ++ cut) ≡ true
    cut_carried = is_carried-group true log first (Spent limit ∷ []) (opening_begins first opens) ∙ kept.carried

    cut_starts : filter is_start (accepted_steps (log ++ cut)) ≡ filter is_start (accepted_steps log)
    cut_starts =
        ap (λ d. filter is_start (accepted_in d (log ++ cut))) cut_carried
        ∙ ap (filter is_start) (accepted_in-group true log first (Spent limit ∷ []) (opening_begins first opens))
        ∙ ap (λ l. filter is_start (accepted_in true log ++ l)) (none_cut true first limit)
        ∙ ap (filter is_start) (append-nil (accepted_in true log)) ∙ ap (λ d. filter is_start (accepted_in d log)) (sym kept.carried)

    pub cut_frames : outstanding (log ++ cut) ≡ outstanding log
    cut_frames =
        ap (λ l. numbers_less l (filter_map taken_number (log ++ cut)))
        (two_tell sent_number log first (Spent limit) (opening_sends first opens) (spent_tells limit).0)
        ∙ ap (numbers_less (filter_map sent_number log))
        (two_tell taken_number log first (Spent limit) (opening_takes first opens) (spent_tells limit).1)

    cut_departs : departing_of (log ++ cut) ≡ departing_of log
    cut_departs =
        one_more_group_holds.departing log first (Spent limit ∷ []) cut_group
        ∙ ap (λ l. if is_none l then None else last_or (departing_of log) (filter_map depart_name (accepted_in (is_carried log) cut))) cut_frames
        ∙ ap (λ l. if is_still log then None else last_or (departing_of log) (filter_map depart_name l)) (none_cut (is_carried log) first limit)
        ∙ never_still (is_still log) (departing_of log) kept.still

    pub cut_alike : SaysAlike true (log ++ cut)
    cut_alike = ended_alike true b log run cut (opening_ends (reduced log) first limit opens) cut_carried cut_starts cut_departs

  -- ---- all steps were run

  module _ (grown : IsBegunOrGrown b log) (steps : ℕ) where
    abbrev last : Record
    last = Finished steps

    finished_carried : is_carried (log ++ last ∷ []) ≡ true
    finished_carried = is_carried-push log last (λ same. let never : Finished steps ≡ Carrier = same in cc) ∙ kept.carried

    idle : IsIdle log last
    idle = finished_idle log steps alone

    pub finished_frames : outstanding (log ++ last ∷ []) ≡ outstanding log
    finished_frames =
        ap (λ l. numbers_less l (filter_map taken_number (log ++ last ∷ []))) (filter_map-same sent_number log last (finished_tells steps).0)
        ∙ ap (numbers_less (filter_map sent_number log)) (filter_map-same taken_number log last (finished_tells steps).1)

    begun_departs : log ≡ beginning_records true b → departing_of (log ++ last ∷ []) ≡ departing_of log
    begun_departs is =
        let P : Record → Type 0 = HasNoStep in
        let none : All P (begin_record b ∷ Carrier ∷ []) = All-cons P (begin_record b) (Carrier ∷ []) refl (All-cons P Carrier [] refl (All-nil P)) in
        let more : All P (begin_record b ∷ Carrier ∷ last ∷ []) =
        All-cons P (begin_record b) (Carrier ∷ last ∷ []) refl (All-cons P Carrier (last ∷ []) refl (All-cons P last [] refl (All-nil P))) in
        ap (λ l. departing_of (l ++ last ∷ [])) is ∙ none_departs b (begin_record b ∷ Carrier ∷ last ∷ []) more
        ∙ sym (ap departing_of is ∙ none_departs b (begin_record b ∷ Carrier ∷ []) none)

    module _ (grows : HasLastGroup log) where
      abbrev before : List Record
      before = grows.before

      abbrev more : List Record
      more = grows.after ++ last ∷ []

      abbrev whole : List Record
      whole = before ++ grows.first ∷ grows.after

      longer_is : log ++ last ∷ [] ≡ before ++ grows.first ∷ more
      longer_is = ap (λ l. l ++ last ∷ []) grows.is ∙ append_assoc before (grows.first ∷ grows.after) (last ∷ [])

      pub longer_group : IsGroup before grows.first more
      longer_group = record {
        begun = grows.group.begun;
        begins = grows.group.begins;
        alone =
            All-append (λ other. begins_group (is_carried before) other ≡ false) grows.after (last ∷ []) grows.group.alone
            (All-cons (λ other. begins_group (is_carried before) other ≡ false) last [] (finished_within (is_carried before) steps)
            (All-nil (λ other. begins_group (is_carried before) other ≡ false)));
      }

      as_before : is_carried log ≡ is_carried before
      as_before = ap is_carried grows.is ∙ is_carried-group (is_carried before) before grows.first grows.after grows.group.begins

      -- the group accepts no more but what the last record does
      accepted_more : accepted_in (is_carried before) (grows.first ∷ more)
          ≡ accepted_in (is_carried before) (grows.first ∷ grows.after) ++ accepted_by log last
      accepted_more =
          let c = is_carried before in
          let front = accepted_in c before in
          let old = accepted_in c (grows.first ∷ grows.after) in
          let here : accepted_steps log ≡ front ++ old =
          ap (λ l. accepted_in (is_carried log) l) grows.is ∙ ap (λ d. accepted_in d whole) as_before
          ∙ accepted_in-group c before grows.first grows.after grows.group.begins in
          let there : accepted_steps (log ++ last ∷ []) ≡ front ++ accepted_in c (grows.first ∷ more) =
          ap (λ d. accepted_in d (log ++ last ∷ [])) (finished_carried ∙ sym kept.carried ∙ as_before)
          ∙ ap (accepted_in c) longer_is ∙ accepted_in-group c before grows.first more grows.group.begins in
          append_cancel_left front (accepted_in c (grows.first ∷ more)) (old ++ accepted_by log last)
          (sym there ∙ accepted_steps-push log last ∙ ap (λ l. l ++ accepted_by log last) here ∙ append_assoc front old (accepted_by log last))

      departures : filter_map depart_name (accepted_in (is_carried before) (grows.first ∷ more))
          ≡ filter_map depart_name (accepted_in (is_carried before) (grows.first ∷ grows.after))
      departures =
          let old = accepted_in (is_carried before) (grows.first ∷ grows.after) in
          ap (filter_map depart_name) accepted_more ∙ filter_map-append depart_name old (accepted_by log last)
          ∙ ap (λ l. filter_map depart_name old ++ l) (names_no_departure (accepted_by log last) idle.starts)
          ∙ append-nil (filter_map depart_name old)

      grown_departs : departing_of (log ++ last ∷ []) ≡ departing_of log
      grown_departs =
          ap departing_of longer_is ∙ one_more_group_holds.departing before grows.first more longer_group
          ∙ ap (λ l. if is_none l then None else last_or (departing_of before)
          (filter_map depart_name (accepted_in (is_carried before) (grows.first ∷ more)))) (ap outstanding (sym longer_is) ∙ finished_frames)
          ∙ ap (λ l. if is_still log then None else last_or (departing_of before) l) departures
          ∙ ap (λ l. if is_still l then None else last_or (departing_of before)
          (filter_map depart_name (accepted_in (is_carried before) (grows.first ∷ grows.after)))) grows.is
          ∙ sym (one_more_group_holds.departing before grows.first grows.after grows.group) ∙ ap departing_of (sym grows.is)

    finished_departs : departing_of (log ++ last ∷ []) ≡ departing_of log
    finished_departs = elim grown [ inl begun ↦ begun_departs begun | inr grows ↦ grown_departs grows ]

    pub finished_ends : MayEnd (reduced log) (reduced (last ∷ []))
    unfolding is_added
    finished_ends = may_finish (reduced log) steps

    pub finished_alike : SaysAlike true (log ++ last ∷ [])
    finished_alike = ended_alike true b log run (last ∷ []) finished_ends finished_carried (idle_starts log last idle) finished_departs
