-- What a log and its reduced log keep with each turn: moments correspond, and who departs is the same.
-- Cited above: earlier_too, IsKept, moment_cases
use Rattle.std.proofs.Common.{Bool, ◌≡◌, ◌⊎◌, inl, inr, ℕ, ◌≤◌, true, false, List, [], ◌∷◌, ◌++◌, length, take, drop, filter, All, None, refl, ap, sym, ◌∙◌, subst, append-nil, arith, length-append}
use Rattle.std.specs.Prelude.{if◌then◌else◌}
use Rattle.std.specs.List.{filter_map, last_or}
use Rattle.std.proofs.lemmas.Bool.{cases_Bool, cases_lt, false≢true}
use Rattle.std.proofs.lemmas.List.{take-append-drop, take-append-le, take_all}
use Rattle.std.proofs.lemmas.List.Elements.{All-append, All-cons, All-head, All-nil, All-tail, filter-append}
use Rattle.tap_log.specs.declared.record.Record.{Record}
use Rattle.tap_log.specs.Kinds.{begins_group, is_carried}
use Rattle.tap_log.specs.Reduced.{reduced}
use Rattle.tap_history.specs.Core.{accepted_in, members_of}
use Rattle.tap_history.specs.Departing.{departing_of}
use Rattle.tap_history.specs.GroupLaws.{IsGroup, departing_after}
use Rattle.tap_history.specs.Moments.{is_moment, is_still}
use Rattle.tap_history.specs.StepAsks.{depart_name, is_start}
use Rattle.tap_history.proofs.Instants.{moment-within}
use Rattle.tap_history.proofs.OneMoreGroup.{accepted_in-group, is_carried-group, one_more_group_holds}
use Rattle.tap_carried.specs.ReducedLogs.{IsFromMoment, kept_count}
use Rattle.tap_carried.specs.LogTurns.{IsLogOfTurns, IsTurn, Turn, beginning_records, group_of_turn, log_after_turns}
use Rattle.tap_carried.proofs.TurnGroups.{reduced-append, turn_group}
use Rattle.tap_carried.proofs.SameStarts.{starts_depart, starts_in}
use Rattle.tap_carried.proofs.SameTold.{reduced_still}

-- the reduced log of a first part begins the whole one
pub front_is : (log : List Record) (m : ℕ) → reduced (take m log) ≡ take (kept_count log m) (reduced log)
front_is log m =
    let whole = sym (ap reduced (take-append-drop m log)) ∙ reduced-append (take m log) (drop m log) in
    let front = reduced (take m log) in
    sym (ap (take (length front)) whole ∙ take-append-le (length front) front (reduced (drop m log)) (omega arith)
    ∙ take_all (length front) front (omega arith))

kept_within : (log : List Record) (m : ℕ) → kept_count log m ≤ length (reduced log)
kept_within log m =
    let whole = ap length (sym (ap reduced (take-append-drop m log)) ∙ reduced-append (take m log) (drop m log)) in
    let both = length-append (reduced (take m log)) (reduced (drop m log)) in
    omega (arith, whole, both)

-- what holds of a log of turns and its reduced log, and is kept by each turn
pub record IsKept (c : Bool) (log : List Record) : Type 0 where
  pub log_is : IsLogOfTurns c log
  pub begun : 1 ≤ length log
  pub carried : is_carried log ≡ c
  pub members : members_of (reduced log) ≡ members_of log
  pub reduced_begun : 1 ≤ length (reduced log)
  pub uncarried : is_carried (reduced log) ≡ false
  pub starts : starts_in c log ≡ starts_in false (reduced log)
  pub departing : departing_of (reduced log) ≡ departing_of log
  pub still : is_still log ≡ true → departing_of log ≡ None
  pub whole : is_moment (reduced log) (length (reduced log)) ≡ true
  pub moments : (m : ℕ) → is_moment log m ≡ true → is_moment (reduced log) (kept_count log m) ≡ true
  pub from : (count : ℕ) → is_moment (reduced log) count ≡ true → IsFromMoment log count
  pub at : (m : ℕ) → is_moment log m ≡ true → IsLogOfTurns c (take m log)

-- ---- one more turn

log_after_turns-push : (c : Bool) (log : List Record) (turns : List Turn) (turn : Turn)
    → log_after_turns c log (turns ++ turn ∷ []) ≡ log_after_turns c log turns ++ group_of_turn c turn
log_after_turns-push c log [] turn = refl
log_after_turns-push c log (first ∷ turns) turn = log_after_turns-push c (log ++ group_of_turn c first) turns turn

members-append : (log more : List Record) → 1 ≤ length log → members_of (log ++ more) ≡ members_of log
members-append [] more begun = absurd (omega (arith, begun))
members-append (item ∷ items) more begun = refl

one_more : (c : Bool) (log : List Record) (turn : Turn) → IsLogOfTurns c log → IsTurn c turn → IsLogOfTurns c (log ++ group_of_turn c turn)
one_more c log turn is one = record {
  beginning = is.beginning;
  turns = is.turns ++ turn ∷ [];
  are = All-append (IsTurn c) is.turns (turn ∷ []) is.are (All-cons (IsTurn c) turn [] one (All-nil (IsTurn c)));
  is = ap (λ l. l ++ group_of_turn c turn) is.is ∙ sym (log_after_turns-push c (beginning_records c is.beginning) is.turns turn);
}

-- how a moment stands to the end of what was before
module _ (log : List Record) (first : Record) (after : List Record) (group : IsGroup log first after) where
  abbrev longer : List Record
  longer = log ++ first ∷ after

  pub moment_cases : (m : ℕ) → is_moment longer m ≡ true → ((m ≤ length log) × (is_moment log m ≡ true)) ⊎ (m ≡ length longer)
  moment_cases m is = elim (cases_lt (length log) m) [
    | inr up_to ↦ inl (up_to, sym (one_more_group_holds.earlier log first after group m up_to) ∙ is)
    | inl later ↦ elim (cases_lt m (length longer)) [
      | inl inside ↦ absurd (false≢true (sym (one_more_group_holds.within log first after group m later inside) ∙ is))
      | inr past ↦ let most = moment-within longer m is in inr (omega (arith, past, most))
    ]
  ]

  pub earlier_too : (m : ℕ) → m ≤ length log → is_moment log m ≡ true → is_moment longer m ≡ true
  earlier_too m up_to is = one_more_group_holds.earlier log first after group m up_to ∙ is

  taken_of : (m : ℕ) → m ≤ length log → take m longer ≡ take m log
  taken_of m up_to = take-append-le m log (first ∷ after) up_to

  all_taken : take (length longer) longer ≡ longer
  all_taken = take_all (length longer) longer (omega arith)

-- ---- a group of which the reduced log has a group

module _ (c : Bool) (log : List Record) (kept : IsKept c log) (first : Record) (after : List Record) (begins : begins_group c first ≡ true)
    (alone : All (λ item. begins_group c item ≡ false) after) (log_is : IsLogOfTurns c (log ++ first ∷ after)) where
  abbrev more : List Record
  more = log ++ first ∷ after

  group : IsGroup log first after
  group = record {
    begun = kept.begun;
    begins = subst (λ d. begins_group d first ≡ true) (sym kept.carried) begins;
    alone = subst (λ d. All (λ item. begins_group d item ≡ false) after) (sym kept.carried) alone;
  }

  still_carried : is_carried more ≡ c
  still_carried = is_carried-group c log first after begins ∙ kept.carried

  at_moment : (m : ℕ) → is_moment more m ≡ true → IsLogOfTurns c (take m more)
  at_moment m is = elim (moment_cases log first after group m is) [
    | inl before ↦ subst (IsLogOfTurns c) (sym (taken_of log first after group m before.0)) (kept.at m before.1)
    | inr end ↦ subst (IsLogOfTurns c) (sym (ap (λ k. take k more) end ∙ all_taken log first after group)) log_is
  ]

  departs : departing_of more ≡ departing_after log (first ∷ after)
  departs = one_more_group_holds.departing log first after group

  begun_more : 1 ≤ length more
  begun_more = let size = length-append log (first ∷ after) in omega (arith, size)

  -- the reduced log has a group too
  module _ (to : Record) (to_after : List Record) (reduces : reduced (first ∷ after) ≡ to ∷ to_after)
      (to_begins : begins_group false to ≡ true) (to_alone : All (λ item. begins_group false item ≡ false) to_after)
      (same_starts : starts_in c (first ∷ after) ≡ starts_in false (to ∷ to_after)) where
    to_group : IsGroup (reduced log) to to_after
    to_group = record {
      begun = kept.reduced_begun;
      begins = subst (λ d. begins_group d to ≡ true) (sym kept.uncarried) to_begins;
      alone = subst (λ d. All (λ item. begins_group d item ≡ false) to_after) (sym kept.uncarried) to_alone;
    }

    whole_is : reduced more ≡ reduced log ++ to ∷ to_after
    whole_is = reduced-append log (first ∷ after) ∙ ap (λ l. reduced log ++ l) reduces

    to_whole : is_moment (reduced more) (length (reduced more)) ≡ true
    to_whole = subst (λ l. is_moment l (length l) ≡ true) (sym whole_is) (one_more_group_holds.end (reduced log) to to_after to_group)

    to_moments : (m : ℕ) → is_moment more m ≡ true → is_moment (reduced more) (kept_count more m) ≡ true
    to_moments m is = elim (moment_cases log first after group m is) [
      | inl before ↦
          let count = kept_count log m in
          let same : kept_count more m ≡ count = ap (λ l. length (reduced l)) (taken_of log first after group m before.0) in
          subst (λ k. is_moment (reduced more) k ≡ true) (sym same)
          (subst (λ l. is_moment l count ≡ true) (sym whole_is)
          (earlier_too (reduced log) to to_after to_group count (kept_within log m) (kept.moments m before.1)))
      | inr end ↦
          subst (λ k. is_moment (reduced more) k ≡ true)
          (sym (ap (λ l. length (reduced l)) (ap (λ k. take k more) end ∙ all_taken log first after group))) to_whole
    ]

    to_back : (count : ℕ) → is_moment (reduced more) count ≡ true → IsFromMoment more count
    to_back count is =
        elim (moment_cases (reduced log) to to_after to_group count (subst (λ l. is_moment l count ≡ true) whole_is is)) [
          | inl before ↦
              let old = kept.from count before.1 in
              let within = moment-within log old.m old.moment in
              record {
                m = old.m;
                moment = earlier_too log first after group old.m within old.moment;
                is = ap (λ l. length (reduced l)) (taken_of log first after group old.m within) ∙ old.is;
              }
          | inr end ↦
              record {
                m = length more;
                moment = one_more_group_holds.end log first after group;
                is = ap (λ l. length (reduced l)) (all_taken log first after group) ∙ ap length whole_is ∙ sym end;
              }
        ]

    more_starts : starts_in c more ≡ starts_in false (reduced more)
    more_starts =
        ap (filter is_start) (accepted_in-group c log first after begins)
        ∙ filter-append is_start (accepted_in c log) (accepted_in c (first ∷ after)) ∙ ap (λ l. l ++ starts_in c (first ∷ after)) kept.starts
        ∙ ap (λ l. starts_in false (reduced log) ++ l) same_starts
        ∙ sym (filter-append is_start (accepted_in false (reduced log)) (accepted_in false (to ∷ to_after)))
        ∙ sym (ap (filter is_start) (accepted_in-group false (reduced log) to to_after to_begins))
        ∙ sym (ap (starts_in false) whole_is)

    to_departs : departing_of (reduced more) ≡ departing_after (reduced log) (to ∷ to_after)
    to_departs = ap departing_of whole_is ∙ one_more_group_holds.departing (reduced log) to to_after to_group

    same_departs : departing_of (reduced more) ≡ departing_of more
    same_departs =
        let was : is_still (reduced log ++ to ∷ to_after) ≡ is_still more = ap is_still (sym whole_is) ∙ reduced_still more in
        let leavers : filter_map depart_name (accepted_in (is_carried (reduced log)) (to ∷ to_after))
        ≡ filter_map depart_name (accepted_in (is_carried log) (first ∷ after)) =
        ap (λ d. filter_map depart_name (accepted_in d (to ∷ to_after))) kept.uncarried
        ∙ sym (starts_depart (accepted_in false (to ∷ to_after))) ∙ ap (filter_map depart_name) (sym same_starts)
        ∙ starts_depart (accepted_in c (first ∷ after))
        ∙ sym (ap (λ d. filter_map depart_name (accepted_in d (first ∷ after))) kept.carried) in
        to_departs
        ∙ ap (λ b. if b then None else last_or (departing_of (reduced log)) (filter_map depart_name (accepted_in (is_carried (reduced log)) (to ∷ to_after)))) was
        ∙ ap (λ o. if is_still more then None else last_or o (filter_map depart_name (accepted_in (is_carried (reduced log)) (to ∷ to_after)))) kept.departing
        ∙ ap (λ l. if is_still more then None else last_or (departing_of log) l) leavers
        ∙ sym departs

    kept_group : IsKept c more
    kept_group = record {
      log_is = log_is;
      begun = begun_more;
      carried = still_carried;
      members =
          ap members_of whole_is ∙ members-append (reduced log) (to ∷ to_after) kept.reduced_begun ∙ kept.members
          ∙ sym (members-append log (first ∷ after) kept.begun);
      reduced_begun = let size = ap length whole_is ∙ length-append (reduced log) (to ∷ to_after) in omega (arith, size);
      uncarried = ap is_carried whole_is ∙ is_carried-group false (reduced log) to to_after to_begins ∙ kept.uncarried;
      starts = more_starts;
      departing = same_departs;
      still = λ is. departs ∙ ap (λ b. if b then None else last_or (departing_of log) (filter_map depart_name (accepted_in (is_carried log) (first ∷ after)))) is;
      whole = to_whole;
      moments = to_moments;
      from = to_back;
      at = at_moment;
    }

  -- the reduced log has nothing of it
  module _ (reduces : reduced (first ∷ after) ≡ []) (none : accepted_in c (first ∷ after) ≡ []) where
    same_is : reduced more ≡ reduced log
    same_is = reduced-append log (first ∷ after) ∙ ap (λ l. reduced log ++ l) reduces ∙ append-nil (reduced log)

    same_still : is_still more ≡ is_still log
    same_still = sym (reduced_still more) ∙ ap is_still same_is ∙ reduced_still log

    lost_whole : is_moment (reduced more) (length (reduced more)) ≡ true
    lost_whole = subst (λ l. is_moment l (length l) ≡ true) (sym same_is) kept.whole

    lost_moments : (m : ℕ) → is_moment more m ≡ true → is_moment (reduced more) (kept_count more m) ≡ true
    lost_moments m is = elim (moment_cases log first after group m is) [
      | inl before ↦
          let count = kept_count log m in
          let same : kept_count more m ≡ count = ap (λ l. length (reduced l)) (taken_of log first after group m before.0) in
          subst (λ k. is_moment (reduced more) k ≡ true) (sym same)
          (subst (λ l. is_moment l count ≡ true) (sym same_is) (kept.moments m before.1))
      | inr end ↦
          subst (λ k. is_moment (reduced more) k ≡ true)
          (sym (ap (λ l. length (reduced l)) (ap (λ k. take k more) end ∙ all_taken log first after group))) lost_whole
    ]

    lost_back : (count : ℕ) → is_moment (reduced more) count ≡ true → IsFromMoment more count
    lost_back count is =
        let old = kept.from count (subst (λ l. is_moment l count ≡ true) same_is is) in
        let within = moment-within log old.m old.moment in
        record {
          m = old.m;
          moment = earlier_too log first after group old.m within old.moment;
          is = ap (λ l. length (reduced l)) (taken_of log first after group old.m within) ∙ old.is;
        }

    lost_starts : starts_in c more ≡ starts_in false (reduced more)
    lost_starts =
        ap (filter is_start) (accepted_in-group c log first after begins)
        ∙ filter-append is_start (accepted_in c log) (accepted_in c (first ∷ after))
        ∙ ap (λ l. starts_in c log ++ filter is_start l) none ∙ append-nil (starts_in c log) ∙ kept.starts ∙ sym (ap (starts_in false) same_is)

    -- whoever departed before departs, unless no frame is outstanding
    after_is : departing_of more ≡ (if is_still log then None else departing_of log)
    after_is =
        departs
        ∙ ap (λ b. if b then None else last_or (departing_of log) (filter_map depart_name (accepted_in (is_carried log) (first ∷ after)))) same_still
        ∙ ap (λ d. if is_still log then None else last_or (departing_of log) (filter_map depart_name (accepted_in d (first ∷ after)))) kept.carried
        ∙ ap (λ l. if is_still log then None else last_or (departing_of log) (filter_map depart_name l)) none

    lost_same : departing_of more ≡ departing_of log
    lost_same = elim (cases_Bool (is_still log)) [
      | inl rests ↦ after_is ∙ ap (λ b. if b then None else departing_of log) rests ∙ sym (kept.still rests)
      | inr moves ↦ after_is ∙ ap (λ b. if b then None else departing_of log) moves
    ]

    lost_group : IsKept c more
    lost_group = record {
      log_is = log_is;
      begun = begun_more;
      carried = still_carried;
      members = ap members_of same_is ∙ kept.members ∙ sym (members-append log (first ∷ after) kept.begun);
      reduced_begun = let size = ap length same_is in let some = kept.reduced_begun in omega (arith, size, some);
      uncarried = ap is_carried same_is ∙ kept.uncarried;
      starts = lost_starts;
      departing = ap departing_of same_is ∙ kept.departing ∙ sym lost_same;
      still = λ is. lost_same ∙ kept.still (sym same_still ∙ is);
      whole = lost_whole;
      moments = lost_moments;
      from = lost_back;
      at = at_moment;
    }

-- ---- each turn

pub turn_kept : (c : Bool) (log : List Record) (turn : Turn) → IsKept c log → IsTurn c turn → IsKept c (log ++ group_of_turn c turn)
turn_kept c log turn kept is = elim (turn_group c turn is) [
  | inl g ↦
      let next = subst (λ l. IsLogOfTurns c (log ++ l)) g.is (one_more c log turn kept.log_is is) in
      subst (λ l. IsKept c (log ++ l)) (sym g.is)
      (kept_group c log kept g.first g.after g.begins g.alone next g.reduced_first g.reduced_after (sym (ap reduced g.is) ∙ g.reduces)
      g.reduced_begins g.reduced_alone (sym (ap (starts_in c) g.is) ∙ g.starts))
  | inr g ↦
      let next = subst (λ l. IsLogOfTurns c (log ++ l)) g.is (one_more c log turn kept.log_is is) in
      subst (λ l. IsKept c (log ++ l)) (sym g.is)
      (lost_group c log kept g.first g.after g.begins g.alone next (sym (ap reduced g.is) ∙ g.reduces)
      (sym (ap (accepted_in c) g.is) ∙ g.accepts_none))
]

pub turns_kept : (c : Bool) (log : List Record) (turns : List Turn) → IsKept c log → All (IsTurn c) turns → IsKept c (log_after_turns c log turns)
turns_kept c log [] kept all = kept
turns_kept c log (turn ∷ turns) kept all =
    turns_kept c (log ++ group_of_turn c turn) turns (turn_kept c log turn kept (All-head (IsTurn c) turn turns all))
    (All-tail (IsTurn c) turn turns all)
