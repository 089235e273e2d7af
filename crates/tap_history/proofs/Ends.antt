-- The moments of a log are the ends of its beginning and of its groups.
-- Cited above: holds_at_each_moment, log_in_groups_holds
use Rattle.std.proofs.Common.{◌≡◌, ℕ, zero, suc, ◌+◌, ◌<◌, ◌≤◌, Bool, true, false, List, [], ◌∷◌, ◌++◌, length, take, All, ◌⊎◌, inl, inr, refl, ap, sym, subst, ◌∙◌, arith, append-nil, append_assoc, length-append, length-take}
use Rattle.std.specs.Prelude.{◌&&◌, ◌||◌, nat_eq, nat_le, slice_get, if◌then◌else◌}
use Rattle.std.specs.List.{list_any}
use Rattle.std.proofs.Math.Seq.{take-append_seam}
use Rattle.std.proofs.lemmas.Bool.{cases_lt, eq-eqb, eqb-true, le-leb, lt-leb, ne_eqb}
use Rattle.std.proofs.lemmas.List.Elements.{All-cons}
use Rattle.tap_name.specs.Settings.{SettingsValue}
use Rattle.tap_log.specs.declared.record.Record.{Record}
use Rattle.tap_log.specs.declared.record.Record.TheVariants.{Begin, Carrier}
use Rattle.tap_log.specs.Kinds.{begins_group, is_carried}
use Rattle.tap_history.specs.Moments.{beginning, ends_before, has_number, is_group_end, is_moment}
use Rattle.tap_history.specs.Groups.{EachGroup, EachGroupFrom, after_beginning, beginning_of, ends_from, groups_of, is_ended, moments_of, parted, records_of, with_record}
use Rattle.tap_history.specs.GroupLaws.{IsGroup, IsOpened, LogInGroups}
use Rattle.tap_log.proofs.MoreRecords.{carried_alone, carried_third}
use Rattle.tap_history.proofs.OneMoreGroup.{beginning_size, carried_size, is_carried-group, is_moment-earlier, is_moment-end, is_moment-within}
use Rattle.tap_history.proofs.Parts.{groups_of-ended, is_ended-drop, log_is_groups, log_is_parts, without_ending-all, groups_of-group}

-- ---- what the parts of records are

-- the records are one group: only the first one begins one
abbrev pub IsPart : Bool → List Record → Type 0
IsPart carried [] = ⊥
IsPart carried (first ∷ after) = (begins_group carried first ≡ true) × All (λ item. begins_group carried item ≡ false) after

abbrev pub AreParts : Bool → List (List Record) → Type 0
AreParts carried [] = Unit {0}
AreParts carried (group ∷ groups) = IsPart carried group × AreParts carried groups

-- groups, but that the first record, which is this one, may not begin one
abbrev pub FollowFirst : Bool → Record → List (List Record) → Type 0
FollowFirst carried first [] = ⊥
FollowFirst carried first ([] ∷ groups) = ⊥
FollowFirst carried first ((item ∷ after) ∷ groups) =
    (item ≡ first) × All (λ other. begins_group carried other ≡ false) after × AreParts carried groups

are_parts : (carried : Bool) (first : Record) (groups : List (List Record)) → FollowFirst carried first groups
    → begins_group carried first ≡ true → AreParts carried groups
are_parts carried first [] follow begins = absurd follow
are_parts carried first ([] ∷ groups) follow begins = absurd follow
are_parts carried first ((item ∷ after) ∷ groups) follow begins =
    ((ap (begins_group carried) follow.0 ∙ begins, follow.1), follow.2)

none_follow : (carried : Bool) → All (λ other. begins_group carried other ≡ false) []
none_follow carried = λ k d within. absurd (omega (arith, within))

follow_with : (carried : Bool) (first next : Record) (ends : Bool) (groups : List (List Record)) → begins_group carried next ≡ ends
    → FollowFirst carried next groups → FollowFirst carried first (with_record first ends groups)
follow_with carried first next true groups begins follow = (refl, none_follow carried, are_parts carried next groups follow begins)
follow_with carried first next false [] begins follow = absurd follow
follow_with carried first next false ([] ∷ groups) begins follow = absurd follow
follow_with carried first next false ((item ∷ after) ∷ groups) begins follow = (
  refl,
  All-cons (λ other. begins_group carried other ≡ false) item after (ap (begins_group carried) follow.0 ∙ begins) follow.1,
  follow.2,
)

parted-follow : (carried : Bool) (first : Record) (items : List Record) → FollowFirst carried first (parted carried (first ∷ items))
parted-follow carried first [] = (refl, none_follow carried, tt)
parted-follow carried first (next ∷ items) =
    follow_with carried first next (begins_group carried next) (parted carried (next ∷ items)) refl (parted-follow carried next items)

-- the parts of records are groups, if the first record begins one
pub parted-parts : (carried : Bool) (items : List Record) → ends_before carried (slice_get items 0) ≡ true
    → AreParts carried (parted carried items)
parted-parts carried [] begins = tt
parted-parts carried (first ∷ items) begins =
    are_parts carried first (parted carried (first ∷ items)) (parted-follow carried first items) begins

-- ---- moments of a log with more groups

group_of_part : (before : List Record) (first : Record) (after : List Record) → 1 ≤ length before
    → IsPart (is_carried before) (first ∷ after) → IsGroup before first after
group_of_part before first after begun part = record { begun = begun; begins = part.0; alone = part.1 }

longer : (before : List Record) (first : Record) (after : List Record)
    → length (before ++ first ∷ after) ≡ length before + length (first ∷ after)
longer before first after = length-append before (first ∷ after)

later_parts : (before : List Record) (first : Record) (after : List Record) (groups : List (List Record))
    → IsPart (is_carried before) (first ∷ after) → AreParts (is_carried before) groups
    → AreParts (is_carried (before ++ first ∷ after)) groups
later_parts before first after groups part parts =
    subst (λ c. AreParts c groups) (sym (is_carried-group (is_carried before) before first after part.0)) parts

is_moment-stays : (before : List Record) (groups : List (List Record)) → 1 ≤ length before → AreParts (is_carried before) groups
    → (m : ℕ) → m ≤ length before → is_moment (before ++ records_of groups) m ≡ is_moment before m
is_moment-stays before [] begun parts m within = ap (λ l. is_moment l m) (append-nil before)
is_moment-stays before ([] ∷ groups) begun parts m within = absurd parts.0
is_moment-stays before ((first ∷ after) ∷ groups) begun parts m within =
    let whole = before ++ first ∷ after in
    let size = longer before first after in
    ap (λ l. is_moment l m) (sym (append_assoc before (first ∷ after) (records_of groups)))
    ∙ is_moment-stays whole groups (omega (arith, size, begun)) (later_parts before first after groups parts.0 parts.1) m
    (omega (arith, size, within))
    ∙ is_moment-earlier before first after (group_of_part before first after begun parts.0) m within

ends_above : (m n : ℕ) (groups : List (List Record)) → m < n → has_number (ends_from n groups) m ≡ false
ends_above m n [] below = ap (λ b. b || false) (ne_eqb n m (λ is. absurd (omega (arith, is, below))))
ends_above m n (group ∷ groups) below =
    ap (λ b. b || has_number (ends_from (n + length group) groups) m) (ne_eqb n m (λ is. absurd (omega (arith, is, below))))
    ∙ ends_above m (n + length group) groups (omega arith)

past_end : (log : List Record) (m : ℕ) → length log < m → is_moment log m ≡ false
past_end log m past = ap (λ b. b && (nat_eq m (beginning log) || is_group_end log m)) (lt-leb m (length log) past)

ends_alone : (before : List Record) (m : ℕ) → is_moment before (length before) ≡ true → length before ≤ m
    → is_moment before m ≡ (nat_eq (length before) m || false)
ends_alone before m ends from = by_place (cases_lt (length before) m)
  where
    by_place : (length before < m) ⊎ (m ≤ length before) → is_moment before m ≡ (nat_eq (length before) m || false)
    by_place (inl past) =
        past_end before m past ∙ sym (ap (λ b. b || false) (ne_eqb (length before) m (λ is. absurd (omega (arith, is, past)))))
    by_place (inr within) =
        let here : length before ≡ m = omega (arith, from, within) in
        subst (λ k. is_moment before k ≡ true) here ends ∙ sym (ap (λ b. b || false) (eq-eqb (length before) m here))

-- the moments after a group, one by one: its own end, none within the next group, and those from its end on
ends_step : (before : List Record) (first : Record) (after : List Record) (groups : List (List Record)) → IsGroup before first after
    → AreParts (is_carried (before ++ first ∷ after)) groups → is_moment before (length before) ≡ true → (m : ℕ) → length before ≤ m
    → (length (before ++ first ∷ after) ≤ m → is_moment ((before ++ first ∷ after) ++ records_of groups) m
    ≡ has_number (ends_from (length (before ++ first ∷ after)) groups) m)
    → is_moment ((before ++ first ∷ after) ++ records_of groups) m
    ≡ (nat_eq (length before) m || has_number (ends_from (length (before ++ first ∷ after)) groups) m)
ends_step before first after groups group parts ends m from later =
    by_place (cases_lt (length before) m) (cases_lt m (length (before ++ first ∷ after)))
  where
    size : length (before ++ first ∷ after) ≡ length before + length (first ∷ after)
    size = longer before first after

    stays : m ≤ length (before ++ first ∷ after)
        → is_moment ((before ++ first ∷ after) ++ records_of groups) m ≡ is_moment (before ++ first ∷ after) m
    stays within = is_moment-stays (before ++ first ∷ after) groups (omega (arith, size, group.begun)) parts m within

    by_place : (length before < m) ⊎ (m ≤ length before)
        → (m < length (before ++ first ∷ after)) ⊎ (length (before ++ first ∷ after) ≤ m)
        → is_moment ((before ++ first ∷ after) ++ records_of groups) m
        ≡ (nat_eq (length before) m || has_number (ends_from (length (before ++ first ∷ after)) groups) m)
    by_place (inl above) (inl below) =
        stays (omega (arith, below)) ∙ is_moment-within before first after group m above below
        ∙ sym (ap (λ b. b || has_number (ends_from (length (before ++ first ∷ after)) groups) m)
        (ne_eqb (length before) m (λ is. absurd (omega (arith, is, above))))
        ∙ ends_above m (length (before ++ first ∷ after)) groups below)
    by_place (inl above) (inr past) =
        later past ∙ sym (ap (λ b. b || has_number (ends_from (length (before ++ first ∷ after)) groups) m)
        (ne_eqb (length before) m (λ is. absurd (omega (arith, is, above)))))
    by_place (inr within) place =
        let here : length before ≡ m = omega (arith, from, within) in
        stays (omega (arith, size, within)) ∙ is_moment-earlier before first after group m within
        ∙ subst (λ k. is_moment before k ≡ true) here ends
        ∙ sym (ap (λ b. b || has_number (ends_from (length (before ++ first ∷ after)) groups) m) (eq-eqb (length before) m here))

is_moment-ends : (before : List Record) (groups : List (List Record)) → 1 ≤ length before → is_moment before (length before) ≡ true
    → AreParts (is_carried before) groups → (m : ℕ) → length before ≤ m
    → is_moment (before ++ records_of groups) m ≡ has_number (ends_from (length before) groups) m
is_moment-ends before [] begun ends parts m from = ap (λ l. is_moment l m) (append-nil before) ∙ ends_alone before m ends from
is_moment-ends before ([] ∷ groups) begun ends parts m from = absurd parts.0
is_moment-ends before ((first ∷ after) ∷ groups) begun ends parts m from =
    let whole = before ++ first ∷ after in
    let size = longer before first after in
    let group = group_of_part before first after begun parts.0 in
    let others = later_parts before first after groups parts.0 parts.1 in
    ap (λ l. is_moment l m) (sym (append_assoc before (first ∷ after) (records_of groups)))
    ∙ ends_step before first after groups group others ends m from
    (is_moment-ends whole groups (omega (arith, size, begun)) (is_moment-end before first after group) others m)
    ∙ ap (λ n. nat_eq (length before) m || has_number (ends_from n groups) m) size

-- ---- the beginning

empty_beginning : is_carried (beginning_of []) ≡ is_carried []
unfolding is_carried
empty_beginning = refl

carried_beginning : (log : List Record) → is_carried (beginning_of log) ≡ is_carried log
carried_beginning [] = empty_beginning
carried_beginning (first ∷ []) = ap (λ c. is_carried (take (if c then 2 else 1) (first ∷ []))) (carried_alone first)
carried_beginning (first ∷ next ∷ items) = by_carrier (is_carried (first ∷ next ∷ items)) refl
  where
    by_carrier : (c : Bool) → is_carried (first ∷ next ∷ items) ≡ c → is_carried (take (if c then 2 else 1) (first ∷ next ∷ items)) ≡ c
    by_carrier true is = carried_third first next [] items ∙ is
    by_carrier false is = carried_alone first

beginning_within : (log : List Record) → 1 ≤ length log → beginning log ≤ length log
beginning_within log begun = beginning_size (is_carried log) (length log) (carried_size log) begun

beginning_length : (log : List Record) → 1 ≤ length log → length (beginning_of log) ≡ beginning log
beginning_length log begun =
    let within = beginning_within log begun in
    let size = length-take (beginning log) log in omega (arith, size, within)

or_ends : (a b c : Bool) → a ≡ true → b ≡ true → (a && (b || c)) ≡ true
or_ends true true c within is = refl
or_ends true false c within is = absurd (cc)
or_ends false b c within is = absurd (cc)

-- the beginning ends with a moment
beginning_moment : (log : List Record) → 1 ≤ length log → is_moment (beginning_of log) (length (beginning_of log)) ≡ true
beginning_moment log begun =
    let all = beginning_of log in
    let n = length all in
    let size : n ≡ beginning all = beginning_length log begun ∙ ap (λ c. if c then 2 else 1) (sym (carried_beginning log)) in
    or_ends (nat_le n n) (nat_eq n (beginning all)) (is_group_end all n) (le-leb n n (omega arith)) (eq-eqb n (beginning all) size)

none_begun : (carried : Bool) (log : List Record) (m : ℕ) → m < (if is_carried log then 2 else 1)
    → list_any (begins_group carried) (take m log) ≡ false
unfolding is_carried begins_group
none_begun carried log zero before = refl
none_begun carried (Begin settings frames members ∷ Carrier ∷ items) (suc zero) before = refl
none_begun carried (Begin settings frames members ∷ Carrier ∷ items) (suc (suc m)) before = absurd (omega arith)
none_begun carried log (suc m) before = absurd (omega arith)

neither : (a b c d : Bool) → b ≡ false → c ≡ false → (a && (b || (c && d))) ≡ false
neither true true c d not_here none = absurd (cc)
neither true false true d not_here none = absurd (cc)
neither true false false d not_here none = refl
neither false b c d not_here none = refl

-- no moment is within the beginning
before_beginning : (log : List Record) (m : ℕ) → m < beginning log → is_moment log m ≡ false
before_beginning log m before =
    neither (nat_le m (length log)) (nat_eq m (beginning log)) (list_any (begins_group (is_carried log)) (take m log))
    (ends_before (is_carried log) (slice_get log m)) (ne_eqb m (beginning log) (λ is. absurd (omega (arith, is, before))))
    (none_begun (is_carried log) log m before)

-- ---- the law

groups_are_parts : (log : List Record) → IsOpened log → is_ended log ≡ false → AreParts (is_carried log) (groups_of log)
groups_are_parts log opened going =
    let c = is_carried log in
    subst (λ l. AreParts c (parted c l)) (sym (without_ending-all c (after_beginning log) (is_ended-drop (beginning log) log going)))
    (parted-parts c (after_beginning log) opened.next)

pub moments_are_ends : (log : List Record) → IsOpened log → is_ended log ≡ false
    → (m : ℕ) → is_moment log m ≡ has_number (moments_of log) m
moments_are_ends log opened going m = by_place (cases_lt m (length (beginning_of log)))
  where
    size : length (beginning_of log) ≡ beginning log
    size = beginning_length log opened.begun

    parts : AreParts (is_carried (beginning_of log)) (groups_of log)
    parts = subst (λ c. AreParts c (groups_of log)) (sym (carried_beginning log)) (groups_are_parts log opened going)

    by_place : (m < length (beginning_of log)) ⊎ (length (beginning_of log) ≤ m) → is_moment log m ≡ has_number (moments_of log) m
    by_place (inl before) =
        before_beginning log m (omega (arith, before, size))
        ∙ sym (ends_above m (length (beginning_of log)) (groups_of log) before)
    by_place (inr from) =
        ap (λ l. is_moment l m) (sym (log_is_groups log going))
        ∙ is_moment-ends (beginning_of log) (groups_of log) (omega (arith, size, beginning_least)) (beginning_moment log opened.begun)
        parts m from
      where
        least : (c : Bool) → 1 ≤ (if c then 2 else 1)
        least true = omega arith
        least false = omega arith

        beginning_least : 1 ≤ beginning log
        beginning_least = least (is_carried log)

-- ---- what each group keeps holds at each moment

held_from : (Q : List Record → Type 0) (P : List Record → List Record → Type 0)
    → ((before group : List Record) → Q before → P before group → Q (before ++ group))
    → (before : List Record) (groups : List (List Record)) → Q before → EachGroupFrom P before groups
    → (m : ℕ) → has_number (ends_from (length before) groups) m ≡ true → Q (take m (before ++ records_of groups))
held_from Q P keeps before [] here each m is = by_test (nat_eq (length before) m) refl
  where
    by_test : (b : Bool) → nat_eq (length before) m ≡ b → Q (take m (before ++ []))
    by_test true same =
        subst Q (sym (ap (λ k. take k (before ++ [])) (sym (eqb-true (length before) m same)) ∙ take-append_seam before [])) here
    by_test false other = absurd (cc (ap (λ b. b || false) other))
held_from Q P keeps before (group ∷ groups) here each m is =
    by_test (held_from Q P keeps (before ++ group) groups (keeps before group here each.0) each.1 m) (nat_eq (length before) m) refl
  where
    Rest : Type 0
    Rest = has_number (ends_from (length (before ++ group)) groups) m ≡ true → Q (take m ((before ++ group) ++ records_of groups))

    by_test : Rest → (b : Bool) → nat_eq (length before) m ≡ b → Q (take m (before ++ (group ++ records_of groups)))
    by_test later true same =
        subst Q (sym (ap (λ k. take k (before ++ (group ++ records_of groups))) (sym (eqb-true (length before) m same))
        ∙ take-append_seam before (group ++ records_of groups))) here
    by_test later false other =
        subst (λ l. Q (take m l)) (append_assoc before group (records_of groups))
        (later (ap (λ n. has_number (ends_from n groups) m) (length-append before group)
        ∙ sym (ap (λ b. b || has_number (ends_from (length before + length group) groups) m) other) ∙ is))

-- what holds of the beginning, and is kept by each group, holds at each moment
pub holds_at_each_moment : (Q : List Record → Type 0) (P : List Record → List Record → Type 0)
    → ((before group : List Record) → Q before → P before group → Q (before ++ group))
    → (log : List Record) → IsOpened log → is_ended log ≡ false → Q (beginning_of log) → EachGroup P log
    → (m : ℕ) → is_moment log m ≡ true → Q (take m log)
holds_at_each_moment Q P keeps log opened going here each m is =
    subst (λ l. Q (take m l)) (log_is_groups log going)
    (held_from Q P keeps (beginning_of log) (groups_of log) here each m (sym (moments_are_ends log opened going m) ∙ is))

-- ---- the law of a log in groups

groups_of-begin : (settings : SettingsValue) (frames : ℕ) (members : List (List ℕ)) → groups_of (Begin settings frames members ∷ []) ≡ []
unfolding is_carried
groups_of-begin settings frames members = refl

groups_of-carried : (settings : SettingsValue) (frames : ℕ) (members : List (List ℕ))
    → groups_of (Begin settings frames members ∷ Carrier ∷ []) ≡ []
unfolding is_carried
groups_of-carried settings frames members = refl

pub log_in_groups_holds : LogInGroups
log_in_groups_holds =
    record {
      whole = log_is_parts;
      none = groups_of-begin;
      none_carried = groups_of-carried;
      more = groups_of-group;
      ended = groups_of-ended;
      moments = moments_are_ends;
    }
