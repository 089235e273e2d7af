-- A log is its beginning, its groups and its ending.
-- Cited above: beginning_of-group, EachGroup-push, groups_of-ended, groups_of-group, is_ended-append, log_is_groups
use Rattle.std.proofs.Common.{◌≡◌, ◌≢◌, ℕ, zero, suc, ◌≤◌, Bool, true, false, List, [], ◌∷◌, ◌++◌, length, take, drop, All, refl, ap, sym, subst, ◌∙◌, arith, append-nil, append_assoc}
use Rattle.std.specs.Prelude.{◌&&◌, slice_get, if◌then◌else◌}
use Rattle.std.proofs.lemmas.Bool.{true≢false}
use Rattle.std.proofs.lemmas.List.{append_cancel_right, drop-append-le, take-append-drop, take-append-le}
use Rattle.std.proofs.lemmas.List.Elements.{All-head, All-tail}
use Rattle.tap_log.specs.declared.record.Record.{Record}
use Rattle.tap_log.specs.declared.record.Record.TheVariants.{Carrier, Spent}
use Rattle.tap_log.specs.Kinds.{begins_group, is_carried}
use Rattle.tap_history.specs.Moments.{beginning, ends_before}
use Rattle.tap_log.specs.Log.{last_of}
use Rattle.tap_history.specs.Groups.{EachGroup, EachGroupFrom, after_beginning, beginning_of, can_be_cut, ending_of, ends_log, groups_of, is_ended, is_ending, is_lengthened, is_spent, parted, records_of, with_record, without_ending, ending_among}
use Rattle.tap_history.specs.GroupLaws.{IsGroup}
use Rattle.tap_log.proofs.MoreRecords.{carried_alone, carried_second, carried_third}
use Rattle.tap_history.proofs.OneMoreGroup.{beginning_size, carried_size, is_carried-group}

-- ---- the ending

ended_here : (ends : Bool) (item : Record) (items kept last : List Record) → kept ++ last ≡ items
    → (if ends then [] else item ∷ kept) ++ (if ends then item ∷ items else last) ≡ item ∷ items
ended_here true item items kept last is = refl
ended_here false item items kept last is = ap (λ l. item ∷ l) is

-- the records are those without their ending, and the ending
pub without_ending-whole : (carried : Bool) (items : List Record) → without_ending carried items ++ ending_among carried items ≡ items
without_ending-whole carried [] = refl
without_ending-whole carried (item ∷ items) =
    ended_here (is_ending carried (item ∷ items)) item items (without_ending carried items) (ending_among carried items)
    (without_ending-whole carried items)

not_spent : (item : Record) → ends_log item ≡ false → is_spent item ≡ false
unfolding ends_log is_spent
not_spent (Spent limit) is = is
not_spent item is = refl

and_false : (a b : Bool) → b ≡ false → (a && b) ≡ false
and_false true b is = is
and_false false b is = refl

-- records whose last one doesn't end the log have no ending
pub ending-none : (carried : Bool) (items : List Record) → is_ended items ≡ false → ending_among carried items ≡ []
ending-none carried [] is = refl
ending-none carried (item ∷ []) is = ap (λ b. if b then item ∷ [] else []) is
ending-none carried (item ∷ last ∷ []) is =
    ap (λ b. if b then item ∷ last ∷ [] else ending_among carried (last ∷ []))
    (and_false (can_be_cut carried item) (is_spent last) (not_spent last is))
    ∙ ending-none carried (last ∷ []) is
ending-none carried (item ∷ next ∷ other ∷ items) is = ending-none carried (next ∷ other ∷ items) is

pub without_ending-all : (carried : Bool) (items : List Record) → is_ended items ≡ false → without_ending carried items ≡ items
without_ending-all carried items is =
    sym (append-nil (without_ending carried items)) ∙ ap (λ l. without_ending carried items ++ l) (sym (ending-none carried items is))
    ∙ without_ending-whole carried items

is_ended-tail : (item : Record) (items : List Record) → is_ended (item ∷ items) ≡ false → is_ended items ≡ false
is_ended-tail item [] is = refl
is_ended-tail item (next ∷ items) is = is

pub is_ended-drop : (n : ℕ) (items : List Record) → is_ended items ≡ false → is_ended (drop n items) ≡ false
is_ended-drop zero items is = is
is_ended-drop (suc n) [] is = refl
is_ended-drop (suc n) (item ∷ items) is = is_ended-drop n items (is_ended-tail item items is)

-- the last one of more records is that of the later ones
pub is_ended-append : (items : List Record) (first : Record) (after : List Record)
    → is_ended (items ++ first ∷ after) ≡ is_ended (first ∷ after)
is_ended-append [] first after = refl
is_ended-append (item ∷ []) first after = refl
is_ended-append (item ∷ next ∷ items) first after = is_ended-append (next ∷ items) first after

-- ---- the groups

records_of-with : (item : Record) (ends : Bool) (groups : List (List Record))
    → records_of (with_record item ends groups) ≡ item ∷ records_of groups
records_of-with item true groups = refl
records_of-with item false [] = refl
records_of-with item false (group ∷ groups) = refl

-- no record is lost by parting them
pub records_of-parted : (carried : Bool) (items : List Record) → records_of (parted carried items) ≡ items
records_of-parted carried [] = refl
records_of-parted carried (item ∷ items) =
    records_of-with item (ends_before carried (slice_get items 0)) (parted carried items)
    ∙ ap (λ l. item ∷ l) (records_of-parted carried items)

pub records_of-append : (groups : List (List Record)) (group : List Record)
    → records_of (groups ++ group ∷ []) ≡ records_of groups ++ group
records_of-append [] group = append-nil group
records_of-append (one ∷ groups) group =
    ap (λ l. one ++ l) (records_of-append groups group) ∙ sym (append_assoc one (records_of groups) group)

-- the beginning, the groups and the ending are the log
pub log_is_parts : (log : List Record) → beginning_of log ++ (records_of (groups_of log) ++ ending_of log) ≡ log
log_is_parts log =
    let carried = is_carried log in
    ap (λ l. beginning_of log ++ (l ++ ending_of log)) (records_of-parted carried (without_ending carried (after_beginning log)))
    ∙ ap (λ l. beginning_of log ++ l) (without_ending-whole carried (after_beginning log))
    ∙ take-append-drop (beginning log) log

-- records of which only the first one begins a group are one group, if what follows begins another one or is nothing
pub parted-group : (carried : Bool) (first : Record) (after rest : List Record) → All (λ item. begins_group carried item ≡ false) after
    → ends_before carried (slice_get rest 0) ≡ true
    → parted carried (first ∷ (after ++ rest)) ≡ (first ∷ after) ∷ parted carried rest
parted-group carried first [] rest alone ends = ap (λ b. with_record first b (parted carried rest)) ends
parted-group carried first (next ∷ after) rest alone ends =
    ap (λ b. with_record first b (parted carried (next ∷ (after ++ rest))))
    (All-head (λ item. begins_group carried item ≡ false) next after alone)
    ∙ ap (with_record first false)
    (parted-group carried next after rest (All-tail (λ item. begins_group carried item ≡ false) next after alone) ends)

with_record-append : (item next : Record) (ends others : Bool) (groups : List (List Record)) (group : List Record)
    → with_record item ends (with_record next others groups ++ group ∷ [])
    ≡ with_record item ends (with_record next others groups) ++ group ∷ []
with_record-append item next true others groups group = refl
with_record-append item next false true groups group = refl
with_record-append item next false false [] group = refl
with_record-append item next false false (one ∷ groups) group = refl

-- one more group is parted from the records before it
pub parted-append : (carried : Bool) (items : List Record) (first : Record) (after : List Record) → begins_group carried first ≡ true
    → All (λ item. begins_group carried item ≡ false) after
    → parted carried (items ++ first ∷ after) ≡ parted carried items ++ (first ∷ after) ∷ []
parted-append carried [] first after begins alone =
    ap (λ l. parted carried (first ∷ l)) (sym (append-nil after)) ∙ parted-group carried first after [] alone refl
parted-append carried (item ∷ []) first after begins alone =
    ap (λ b. with_record item b (parted carried (first ∷ after))) begins
    ∙ ap (λ l. (item ∷ []) ∷ l) (parted-append carried [] first after begins alone)
parted-append carried (item ∷ next ∷ items) first after begins alone =
    let ends = begins_group carried next in
    ap (with_record item ends) (parted-append carried (next ∷ items) first after begins alone)
    ∙ with_record-append item next ends (ends_before carried (slice_get items 0)) (parted carried items) (first ∷ after)

-- ---- one more group of a log

module _ (log : List Record) (first : Record) (after : List Record) (group : IsGroup log first after) where
  begins_within : beginning log ≤ length log
  begins_within = beginning_size (is_carried log) (length log) (carried_size log) group.begun

  carried_as_before : is_carried (log ++ first ∷ after) ≡ is_carried log
  carried_as_before = is_carried-group (is_carried log) log first after group.begins

  -- the beginning stays
  pub beginning_of-group : beginning_of (log ++ first ∷ after) ≡ beginning_of log
  beginning_of-group =
      ap (λ c. take (if c then 2 else 1) (log ++ first ∷ after)) carried_as_before
      ∙ take-append-le (beginning log) log (first ∷ after) begins_within

  pub after_beginning-group : after_beginning (log ++ first ∷ after) ≡ after_beginning log ++ first ∷ after
  after_beginning-group =
      ap (λ c. drop (if c then 2 else 1) (log ++ first ∷ after)) carried_as_before
      ∙ drop-append-le (beginning log) log (first ∷ after) begins_within

  -- a whole group is the last one of the longer log, which has no ending
  pub groups_of-group : is_ended log ≡ false → is_ended (first ∷ after) ≡ false
      → groups_of (log ++ first ∷ after) ≡ groups_of log ++ (first ∷ after) ∷ []
  groups_of-group going whole =
      let c = is_carried log in
      let old = after_beginning log in
      ap (λ b. parted b (without_ending b (after_beginning (log ++ first ∷ after)))) carried_as_before
      ∙ ap (λ l. parted c (without_ending c l)) after_beginning-group
      ∙ ap (parted c) (without_ending-all c (old ++ first ∷ after) (is_ended-append old first after ∙ whole))
      ∙ parted-append c old first after group.begins group.alone
      ∙ ap (λ l. parted c l ++ (first ∷ after) ∷ []) (sym (without_ending-all c old (is_ended-drop (beginning log) log going)))

-- a log without an ending is its beginning and its groups
pub log_is_groups : (log : List Record) → is_ended log ≡ false → beginning_of log ++ records_of (groups_of log) ≡ log
log_is_groups log going =
    let none = ending-none (is_carried log) (after_beginning log) (is_ended-drop (beginning log) log going) in
    ap (λ l. beginning_of log ++ l) (sym (append-nil (records_of (groups_of log))))
    ∙ ap (λ l. beginning_of log ++ (records_of (groups_of log) ++ l)) (sym none)
    ∙ log_is_parts log

-- ---- what holds of each group

EachGroupFrom-push : (P : List Record → List Record → Type 0) (before : List Record) (groups : List (List Record)) (group : List Record)
    → EachGroupFrom P before groups → P (before ++ records_of groups) group → EachGroupFrom P before (groups ++ group ∷ [])
EachGroupFrom-push P before [] group each p = let Q : List Record → Type 0 = λ b. P b group in (subst Q (append-nil before) p, tt)
EachGroupFrom-push P before (one ∷ groups) group each p =
    let Q : List Record → Type 0 = λ b. P b group in
    (each.0, EachGroupFrom-push P (before ++ one) groups group each.1 (subst Q (sym (append_assoc before one (records_of groups))) p))

EachGroupFrom-earlier : (P : List Record → List Record → Type 0) (before : List Record) (groups : List (List Record)) (group : List Record)
    → EachGroupFrom P before (groups ++ group ∷ []) → EachGroupFrom P before groups
EachGroupFrom-earlier P before [] group each = tt
EachGroupFrom-earlier P before (one ∷ groups) group each = (each.0, EachGroupFrom-earlier P (before ++ one) groups group each.1)

EachGroupFrom-latest : (P : List Record → List Record → Type 0) (before : List Record) (groups : List (List Record)) (group : List Record)
    → EachGroupFrom P before (groups ++ group ∷ []) → P (before ++ records_of groups) group
EachGroupFrom-latest P before [] group each =
    let Q : List Record → Type 0 = λ b. P b group in subst Q (sym (append-nil before)) each.0
EachGroupFrom-latest P before (one ∷ groups) group each =
    let Q : List Record → Type 0 = λ b. P b group in
    subst Q (append_assoc before one (records_of groups)) (EachGroupFrom-latest P (before ++ one) groups group each.1)

-- what holds of each group of a log, and of one more, holds of each group of the longer log
pub EachGroup-push : (P : List Record → List Record → Type 0) (log : List Record) (first : Record) (after : List Record)
    → IsGroup log first after → is_ended log ≡ false → is_ended (first ∷ after) ≡ false
    → EachGroup P log → P log (first ∷ after) → EachGroup P (log ++ first ∷ after)
EachGroup-push P log first after group going whole each p =
    let Q : List Record → Type 0 = λ b. P b (first ∷ after) in
    let Each : List Record → List (List Record) → Type 0 = λ b groups. EachGroupFrom P b groups in
    subst (λ b. Each b (groups_of (log ++ first ∷ after))) (sym (beginning_of-group log first after group))
    (subst (Each (beginning_of log)) (sym (groups_of-group log first after group going whole))
    (EachGroupFrom-push P (beginning_of log) (groups_of log) (first ∷ after) each (subst Q (sym (log_is_groups log going)) p)))

-- and what holds of each group of the longer log holds of each before the last one, and of that one
pub EachGroup-earlier : (P : List Record → List Record → Type 0) (log : List Record) (first : Record) (after : List Record)
    → IsGroup log first after → is_ended log ≡ false → is_ended (first ∷ after) ≡ false
    → EachGroup P (log ++ first ∷ after) → EachGroup P log × P log (first ∷ after)
EachGroup-earlier P log first after group going whole each =
    let Q : List Record → Type 0 = λ b. P b (first ∷ after) in
    let Each : List Record → List (List Record) → Type 0 = λ b groups. EachGroupFrom P b groups in
    let all : EachGroupFrom P (beginning_of log) (groups_of log ++ (first ∷ after) ∷ []) =
    subst (Each (beginning_of log)) (groups_of-group log first after group going whole)
    (subst (λ b. Each b (groups_of (log ++ first ∷ after))) (beginning_of-group log first after group) each) in (
      EachGroupFrom-earlier P (beginning_of log) (groups_of log) (first ∷ after) all,
      subst Q (log_is_groups log going) (EachGroupFrom-latest P (beginning_of log) (groups_of log) (first ∷ after) all),
    )

-- ---- a log that has ended

never_longer : (carried : Bool) (item next : Record) (items : List Record) (first : Record) (after : List Record)
    → is_ending carried (item ∷ next ∷ (items ++ first ∷ after)) ≡ false
never_longer carried item next [] first after = refl
never_longer carried item next (other ∷ items) first after = refl

-- the records end with an ending, which the record before it doesn't make longer
pub ending-last : (carried : Bool) (items : List Record) (first : Record) (after : List Record) → is_ending carried (first ∷ after) ≡ true
    → is_lengthened carried (last_of items) (first ∷ after) ≡ false → ending_among carried (items ++ first ∷ after) ≡ first ∷ after
ending-last carried [] first after is alone = ap (λ b. if b then first ∷ after else ending_among carried after) is
ending-last carried (item ∷ []) first after is alone =
    ap (λ b. if b then item ∷ first ∷ after else ending_among carried (first ∷ after)) alone
    ∙ ap (λ b. if b then first ∷ after else ending_among carried after) is
ending-last carried (item ∷ next ∷ items) first after is alone =
    ap (λ b. if b then item ∷ next ∷ (items ++ first ∷ after) else ending_among carried (next ∷ (items ++ first ∷ after)))
    (never_longer carried item next items first after)
    ∙ ending-last carried (next ∷ items) first after is alone

without_ending-last : (carried : Bool) (items : List Record) (first : Record) (after : List Record)
    → ending_among carried (items ++ first ∷ after) ≡ first ∷ after → without_ending carried (items ++ first ∷ after) ≡ items
without_ending-last carried items first after is =
    let all = items ++ first ∷ after in
    append_cancel_right (without_ending carried all) items (first ∷ after)
    (ap (λ l. without_ending carried all ++ l) (sym is) ∙ without_ending-whole carried all)

carrier_goes_on : (carried : Bool) (after : List Record) → is_ending carried (Carrier ∷ after) ≡ false
unfolding ends_log can_be_cut
carrier_goes_on carried [] = refl
carrier_goes_on carried (last ∷ []) = refl
carrier_goes_on carried (last ∷ other ∷ items) = refl

is_carried-after : (log : List Record) (first : Record) (after : List Record) → 1 ≤ length log → first ≢ Carrier
    → is_carried (log ++ first ∷ after) ≡ is_carried log
is_carried-after [] first after begun other = absurd (omega (arith, begun))
is_carried-after (item ∷ []) first after begun other =
    carried_third item first after [] ∙ carried_second item first other ∙ sym (carried_alone item)
is_carried-after (item ∷ next ∷ items) first after begun other = carried_third item next (items ++ first ∷ after) items

-- an ending leaves the groups as they were
pub groups_of-ended : (log : List Record) (first : Record) (after : List Record) → 1 ≤ length log → is_ended log ≡ false
    → is_ending (is_carried log) (first ∷ after) ≡ true
    → is_lengthened (is_carried log) (last_of (after_beginning log)) (first ∷ after) ≡ false
    → (groups_of (log ++ first ∷ after) ≡ groups_of log) × (ending_of (log ++ first ∷ after) ≡ first ∷ after)
groups_of-ended log first after begun going is alone =
    let c = is_carried log in
    let old = after_beginning log in
    let other : first ≢ Carrier = λ same. absurd (true≢false (sym is ∙ ap (λ x. is_ending c (x ∷ after)) same ∙ carrier_goes_on c after)) in
    let carried = is_carried-after log first after begun other in
    let within = beginning_size c (length log) (carried_size log) begun in
    let later : after_beginning (log ++ first ∷ after) ≡ old ++ first ∷ after =
    ap (λ b. drop (if b then 2 else 1) (log ++ first ∷ after)) carried ∙ drop-append-le (beginning log) log (first ∷ after) within in
    let last = ending-last c old first after is alone in (
      ap (λ b. parted b (without_ending b (after_beginning (log ++ first ∷ after)))) carried
          ∙ ap (λ l. parted c (without_ending c l)) later
          ∙ ap (parted c) (without_ending-last c old first after last)
          ∙ ap (parted c) (sym (without_ending-all c old (is_ended-drop (beginning log) log going))),
      ap (λ b. ending_among b (after_beginning (log ++ first ∷ after))) carried ∙ ap (ending_among c) later ∙ last,
    )
