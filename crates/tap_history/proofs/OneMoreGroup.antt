-- Which node is departing, once one more group has ended.
-- Cited above: accepted_in-group, carried_first, departs, is_carried-group, is_moment-earlier, is_moment-end, is_moment-within, moment_by,
-- one_more_group_holds
use Rattle.std.proofs.Common.{◌≡◌, ℕ, zero, suc, ◌+◌, ◌-◌, ◌<◌, ◌≤◌, Bool, true, false, not, List, [], ◌∷◌, ◌++◌, length, take, drop, get_or, filter, All, Option, None, Some, ◌⊎◌, inl, inr, refl, ap, sym, subst, ◌∙◌, arith, append-nil, length-append}
use Rattle.std.specs.Prelude.{◌&&◌, ◌||◌, nat_eq, nat_le, slice_get, unwrap_or, if◌then◌else◌}
use Rattle.std.specs.List.{filter_map, cons_option, last_or, list_any, range_with_len}
use Rattle.std.proofs.Math.Bool.{or-true}
use Rattle.std.proofs.Math.Seq.{drop-length, take-length}
use Rattle.std.proofs.lemmas.Bool.{le-leb, ne_eqb}
use Rattle.std.proofs.lemmas.List.{drop-append-le, take-append-le}
use Rattle.std.proofs.lemmas.List.Elements.{All-head, All-tail, filter_map-append}
use Rattle.std.proofs.lemmas.List.Folds.{list_any-append}
use Rattle.std.proofs.lemmas.Option.{slice_get_cases, slice_get_past}
use Rattle.tap_log.specs.declared.record.Record.{Record}
use Rattle.tap_log.specs.declared.record.Record.TheVariants.{Begin, Carrier, Refused, Spent}
use Rattle.tap_log.specs.Kinds.{accepts, begins_group, is_carried, step_of}
use Rattle.tap_history.specs.StepAsks.{depart_name}
use Rattle.tap_history.specs.Moments.{beginning, ends_before, is_moment, is_still}
use Rattle.tap_history.specs.Core.{accepted_in, accepted_step}
use Rattle.tap_history.specs.Departing.{departing_of, is_still_moment, last_still, still_moments}
use Rattle.tap_history.specs.GroupLaws.{IsGroup, OneMoreGroup, departing_after}
use Rattle.tap_log.proofs.MoreRecords.{carried_alone, carried_none, carried_third}
use Rattle.tap_history.proofs.RecordChanges.{one_before}
use Rattle.tap_history.proofs.Stepwise.{last_passes, last_stays, passing_more}

-- ---- places of a longer list

slice_get-front : {X : Type 0} (xs ys : List X) (m : ℕ) → m < length xs → slice_get (xs ++ ys) m ≡ slice_get xs m
slice_get-front [] ys m within = absurd (omega arith)
slice_get-front (x ∷ xs) ys zero within = refl
slice_get-front (x ∷ xs) ys (suc m) within = slice_get-front xs ys m (omega arith)

slice_get-after : {X : Type 0} (xs ys : List X) (m i : ℕ) → i + length xs ≡ m → slice_get (xs ++ ys) m ≡ slice_get ys i
slice_get-after [] ys m i is = ap (slice_get ys) (omega arith)
slice_get-after (x ∷ xs) ys zero i is = absurd (omega arith)
slice_get-after (x ∷ xs) ys (suc m) i is = slice_get-after xs ys m i (omega arith)

last_or-append : {X : Type 0} (o : Option X) (xs ys : List X) → last_or o (xs ++ ys) ≡ last_or (last_or o xs) ys
last_or-append o [] ys = refl
last_or-append o (x ∷ xs) ys = last_or-append (Some x) xs ys

-- ---- the log is carried as before

pub carried_first : (carried : Bool) (first : Record) (after : List Record) → begins_group carried first ≡ true
    → is_carried (first ∷ after) ≡ false
unfolding is_carried begins_group
carried_first carried (Begin settings frames members) after begins = absurd (cc)
carried_first carried first after begins = refl

carried_next : (carried : Bool) (item first : Record) (after : List Record) → begins_group carried first ≡ true
    → is_carried (item ∷ first ∷ after) ≡ false
unfolding is_carried begins_group
carried_next carried (Begin settings frames members) Carrier after begins = absurd (cc)
carried_next carried (Begin settings frames members) first after begins = refl
carried_next carried item first after begins = refl

pub is_carried-group : (carried : Bool) (log : List Record) (first : Record) (after : List Record) → begins_group carried first ≡ true
    → is_carried (log ++ first ∷ after) ≡ is_carried log
is_carried-group carried [] first after begins = carried_first carried first after begins ∙ sym carried_none
is_carried-group carried (item ∷ []) first after begins = carried_next carried item first after begins ∙ sym (carried_alone item)
is_carried-group carried (item ∷ next ∷ items) first after begins = carried_third item next (items ++ first ∷ after) items

-- ---- departures

accepts-not : (carried : Bool) (item : Record) → begins_group carried item ≡ true → accepts carried item ≡ false
unfolding accepts
accepts-not carried (Refused index refusal) begins = refl
accepts-not carried (Spent limit) begins = refl
accepts-not carried item begins = ap not begins

accepted_step-none : (carried : Bool) (item first : Record) → begins_group carried first ≡ true → accepted_step carried (item, first) ≡ None
unfolding accepted_step
accepted_step-none carried item first begins = ap (λ b. if b then step_of item else None) (accepts-not carried first begins)

pub accepted_in-group : (carried : Bool) (log : List Record) (first : Record) (after : List Record) → begins_group carried first ≡ true
    → accepted_in carried (log ++ first ∷ after) ≡ accepted_in carried log ++ accepted_in carried (first ∷ after)
accepted_in-group carried [] first after begins = refl
accepted_in-group carried (item ∷ []) first after begins =
    ap (λ o. cons_option o (accepted_in carried (first ∷ after))) (accepted_step-none carried item first begins)
accepted_in-group carried (item ∷ next ∷ items) first after begins =
    ap (λ l. cons_option (accepted_step carried (item, next)) l) (accepted_in-group carried (next ∷ items) first after begins)
    ∙ one_before (accepted_step carried (item, next)) (accepted_in carried (next ∷ items)) (accepted_in carried (first ∷ after))

-- ---- moments at which no frame is outstanding

filter-same : (p q : ℕ → Bool) (n : ℕ) → ((m : ℕ) → m ≤ n → p m ≡ q m) → filter p (range_with_len 1 n) ≡ filter q (range_with_len 1 n)
filter-same p q zero same = refl
filter-same p q (suc n) same =
    let next : n + 1 ≡ suc n = omega arith in
    let Same : ℕ → Type 0 = λ k. filter p (range_with_len 1 k) ≡ filter q (range_with_len 1 k) in
    let here = same (suc n) (omega arith) in
    subst Same next
    (passing_more p n (q (n + 1)) (subst (λ k. p k ≡ q k) (sym next) here)
    ∙ ap (λ l. l ++ (if q (n + 1) then (n + 1) ∷ [] else [])) (filter-same p q n (λ m le. same m (omega (arith, le))))
    ∙ sym (passing_more q n (q (n + 1)) refl))

ends_before-alone : (carried : Bool) (after : List Record) (i : ℕ) → All (λ item. begins_group carried item ≡ false) after
    → i < length after
    → ends_before carried (slice_get after i) ≡ false
ends_before-alone carried [] i alone within = absurd (omega arith)
ends_before-alone carried (item ∷ items) zero alone within = All-head (λ other. begins_group carried other ≡ false) item items alone
ends_before-alone carried (item ∷ items) (suc i) alone within =
    ends_before-alone carried items i (All-tail (λ other. begins_group carried other ≡ false) item items alone) (omega arith)

none_after : (a b c d : Bool) → b ≡ false → d ≡ false → (a && (b || (c && d))) ≡ false
none_after true true c d begins ends = begins
none_after true false true d begins ends = ends
none_after true false false d begins ends = refl
none_after false b c d begins ends = refl

end_here : (a b c d : Bool) → a ≡ true → c ≡ true → d ≡ true → (a && (b || (c && d))) ≡ true
end_here true b true true within begun ends = or-true b
end_here true b true false within begun ends = absurd (cc)
end_here true b false d within begun ends = absurd (cc)
end_here false b c d within begun ends = absurd (cc)

pub carried_size : (log : List Record) → is_carried log ≡ true → 2 ≤ length log
unfolding is_carried
carried_size (Begin settings frames members ∷ Carrier ∷ items) is = omega arith
carried_size log is = absurd (cc)

pub beginning_size : (carried : Bool) (size : ℕ) → (carried ≡ true → 2 ≤ size) → 1 ≤ size → (if carried then 2 else 1) ≤ size
beginning_size true size carries begun = carries refl
beginning_size false size carries begun = begun

-- Whether a place is a moment: by the place, whether the log is carried, the records before it, and whether a group ends there.
abbrev pub moment_by : ℕ → Bool → Bool → List Record → Bool → Bool
moment_by m within carried before ends = within && (nat_eq m (if carried then 2 else 1) || (list_any (begins_group carried) before && ends))

module _ (log : List Record) (first : Record) (after : List Record) (group : IsGroup log first after) where
  abbrev pub whole : List Record
  whole = log ++ first ∷ after

  carried : is_carried whole ≡ is_carried log
  carried = is_carried-group (is_carried log) log first after group.begins

  size : length whole ≡ length log + length after + 1
  size = let both = length-append log (first ∷ after) in omega (arith, both)

  -- whether after the first m records a group begins or the log ends
  ends : (m : ℕ) → m ≤ length log → ends_before (is_carried log) (slice_get whole m) ≡ ends_before (is_carried log) (slice_get log m)
  ends m le = by_cases (slice_get_cases log m).1
    where
      by_cases : ((x : Record) × (m < length log) × (slice_get log m ≡ Some x) × (get_or log m x ≡ x))
          ⊎ ((length log ≤ m) × (slice_get log m ≡ None))
          → ends_before (is_carried log) (slice_get whole m) ≡ ends_before (is_carried log) (slice_get log m)
      by_cases (inl here) = ap (ends_before (is_carried log)) (slice_get-front log (first ∷ after) m here.1)
      by_cases (inr past) =
          ap (ends_before (is_carried log)) (slice_get-after log (first ∷ after) m 0 (omega (arith, le, past.0)))
          ∙ group.begins ∙ sym (ap (ends_before (is_carried log)) past.1)

  pub is_moment-earlier : (m : ℕ) → m ≤ length log → is_moment whole m ≡ is_moment log m
  is_moment-earlier m le =
      let longer : m ≤ length whole = omega (arith, le, size) in
      let within = le-leb m (length whole) longer ∙ sym (le-leb m (length log) le) in
      ap (λ b. moment_by m b (is_carried whole) (take m whole) (ends_before (is_carried whole) (slice_get whole m))) within
      ∙ ap (λ c. moment_by m (nat_le m (length log)) c (take m whole) (ends_before c (slice_get whole m))) carried
      ∙ ap (λ l. moment_by m (nat_le m (length log)) (is_carried log) l (ends_before (is_carried log) (slice_get whole m)))
      (take-append-le m log (first ∷ after) le)
      ∙ ap (moment_by m (nat_le m (length log)) (is_carried log) (take m log)) (ends m le)

  is_moment-inside : (i : ℕ) → i < length after → is_moment whole (length log + i + 1) ≡ false
  is_moment-inside i inside =
      let m = length log + i + 1 in
      let least = beginning_size (is_carried log) (length log) (carried_size log) group.begun in
      ap (λ c. moment_by m (nat_le m (length whole)) c (take m whole) (ends_before c (slice_get whole m))) carried
      ∙ none_after (nat_le m (length whole)) (nat_eq m (beginning log)) (list_any (begins_group (is_carried log)) (take m whole))
      (ends_before (is_carried log) (slice_get whole m))
      (ne_eqb m (beginning log) (λ is. absurd (omega (arith, least, is))))
      (ap (ends_before (is_carried log)) (slice_get-after log (first ∷ after) m (suc i) (omega arith))
      ∙ ends_before-alone (is_carried log) after i group.alone inside)

  pub is_moment-within : (m : ℕ) → length log < m → m < length whole → is_moment whole m ≡ false
  is_moment-within m above below =
      subst (λ k. is_moment whole k ≡ false) (let e : length log + (m - length log - 1) + 1 ≡ m = omega (arith, above) in e)
      (is_moment-inside (m - length log - 1) (omega (arith, above, below, size)))

  begun : list_any (begins_group (is_carried log)) whole ≡ true
  begun =
      let c = is_carried log in
      list_any-append (begins_group c) log (first ∷ after)
      ∙ ap (λ b. list_any (begins_group c) log || (b || list_any (begins_group c) after)) group.begins
      ∙ or-true (list_any (begins_group c) log)

  pub is_moment-end : is_moment whole (length whole) ≡ true
  is_moment-end =
      let m = length whole in
      ap (λ c. moment_by m (nat_le m m) c (take m whole) (ends_before c (slice_get whole m))) carried
      ∙ ap (λ l. moment_by m (nat_le m m) (is_carried log) l (ends_before (is_carried log) (slice_get whole m))) (take-length whole)
      ∙ end_here (nat_le m m) (nat_eq m (beginning log)) (list_any (begins_group (is_carried log)) whole)
      (ends_before (is_carried log) (slice_get whole m))
      (le-leb m m (omega arith)) begun (ap (ends_before (is_carried log)) (slice_get_past whole m (omega arith)))

  -- ---- the last moment at which no frame is outstanding

  is_still_moment-earlier : (m : ℕ) → m ≤ length log → is_still_moment whole m ≡ is_still_moment log m
  is_still_moment-earlier m le =
      ap (λ b. b && is_still (take m whole)) (is_moment-earlier m le)
      ∙ ap (λ l. is_moment log m && is_still l) (take-append-le m log (first ∷ after) le)

  is_still_moment-inside : (i : ℕ) → i < length after → is_still_moment whole (length log + i + 1) ≡ false
  is_still_moment-inside i inside = ap (λ b. b && is_still (take (length log + i + 1) whole)) (is_moment-inside i inside)

  is_still_moment-end : is_still_moment whole (length whole) ≡ is_still whole
  is_still_moment-end = ap (λ b. b && is_still (take (length whole) whole)) is_moment-end ∙ ap is_still (take-length whole)

  still_moments-within : (k : ℕ) → k ≤ length after → filter (is_still_moment whole) (range_with_len 1 (length log + k))
      ≡ still_moments log
  still_moments-within zero le =
      ap (λ n. filter (is_still_moment whole) (range_with_len 1 n)) (let e : length log + 0 ≡ length log = omega arith in e)
      ∙ filter-same (is_still_moment whole) (is_still_moment log) (length log) is_still_moment-earlier
  still_moments-within (suc k) le =
      ap (λ n. filter (is_still_moment whole) (range_with_len 1 n)) (let e : length log + suc k ≡ length log + k + 1 = omega arith in e)
      ∙ passing_more (is_still_moment whole) (length log + k) false (is_still_moment-inside k (omega (arith, le)))
      ∙ append-nil (filter (is_still_moment whole) (range_with_len 1 (length log + k)))
      ∙ still_moments-within k (omega (arith, le))

  at_end : (b : Bool) → is_still whole ≡ b → is_still_moment whole (length log + length after + 1) ≡ b
  at_end b is = subst (λ n. is_still_moment whole n ≡ b) size (is_still_moment-end ∙ is)

  abbrev pub last_among : ℕ → ℕ
  last_among n = unwrap_or (last_or None (filter (is_still_moment whole) (range_with_len 1 n))) 0

  last_still-end : is_still whole ≡ true → length whole ≡ last_still whole
  last_still-end still =
      subst (λ n. length whole ≡ last_among n) (sym size)
      (last_passes (is_still_moment whole) (length log + length after) (length whole) (at_end true still) size)

  last_still-stays : is_still whole ≡ false → last_still log ≡ last_still whole
  last_still-stays still =
      subst (λ n. last_still log ≡ last_among n) (sym size)
      (last_stays (is_still_moment whole) (length log + length after) (last_still log) (at_end false still)
      (sym (ap (λ l. unwrap_or (last_or None l) 0) (still_moments-within (length after) (omega arith)))))

last_within : (p : ℕ → Bool) (n : ℕ) → unwrap_or (last_or None (filter p (range_with_len 1 n))) 0 ≤ n
last_within p zero = omega arith
last_within p (suc n) = subst Within (let e : n + 1 ≡ suc n = omega arith in e) (one_more (last_within p n) (p (n + 1)) refl)
  where
    Within : ℕ → Type 0
    Within k = unwrap_or (last_or None (filter p (range_with_len 1 k))) 0 ≤ k

    one_more : unwrap_or (last_or None (filter p (range_with_len 1 n))) 0 ≤ n → (b : Bool) → p (n + 1) ≡ b → Within (n + 1)
    one_more so_far true is = let e = last_passes p n (n + 1) is refl in omega (arith, e)
    one_more so_far false is = let e = last_stays p n (unwrap_or (last_or None (filter p (range_with_len 1 n))) 0) is refl in
        omega (arith, e, so_far)

-- ---- the law

abbrev pub departs : Bool → List Record → Option (List ℕ)
departs carried log = last_or None (filter_map depart_name (accepted_in carried log))

departing_of-still : (log : List Record) → length log ≡ last_still log → departing_of log ≡ None
departing_of-still log is = ap (λ k. departs (is_carried log) (drop k log)) (sym is) ∙ ap (departs (is_carried log)) (drop-length log)

departing_of-stays : (log : List Record) (first : Record) (after : List Record) → IsGroup log first after
    → last_still log ≡ last_still (log ++ first ∷ after)
    → departing_of (log ++ first ∷ after) ≡ last_or (departing_of log)
    (filter_map depart_name (accepted_in (is_carried log) (first ∷ after)))
departing_of-stays log first after group stays =
    let whole = log ++ first ∷ after in
    let carried = is_carried log in
    let since = drop (last_still log) log in
    ap (λ c. departs c (drop (last_still whole) whole)) (is_carried-group carried log first after group.begins)
    ∙ ap (λ k. departs carried (drop k whole)) (sym stays)
    ∙ ap (departs carried) (drop-append-le (last_still log) log (first ∷ after) (last_within (is_still_moment log) (length log)))
    ∙ ap (λ l. last_or None (filter_map depart_name l)) (accepted_in-group carried since first after group.begins)
    ∙ ap (last_or None) (filter_map-append depart_name (accepted_in carried since) (accepted_in carried (first ∷ after)))
    ∙ last_or-append None (filter_map depart_name (accepted_in carried since))
    (filter_map depart_name (accepted_in carried (first ∷ after)))

departing_of-group : (log : List Record) (first : Record) (after : List Record) → IsGroup log first after
    → departing_of (log ++ first ∷ after) ≡ departing_after log (first ∷ after)
departing_of-group log first after group = by_stillness (is_still (log ++ first ∷ after)) refl
  where
    by_stillness : (still : Bool) → is_still (log ++ first ∷ after) ≡ still
        → departing_of (log ++ first ∷ after)
        ≡ (if still then None else last_or (departing_of log) (filter_map depart_name (accepted_in (is_carried log) (first ∷ after))))
    by_stillness true is = departing_of-still (log ++ first ∷ after) (last_still-end log first after group is)
    by_stillness false is = departing_of-stays log first after group (last_still-stays log first after group is)

pub one_more_group_holds : OneMoreGroup
one_more_group_holds =
    record { earlier = is_moment-earlier; within = is_moment-within; end = is_moment-end; departing = departing_of-group }
