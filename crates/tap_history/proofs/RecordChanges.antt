-- What one more record at the end of a log changes.
-- Cited above: accepted_steps-push, core_of-left, core_of-push, core_of-same, leaves_nodes, names_of-push, one_before, present_of-left,
-- present_of-push, published_of-push, record_changes_hold
use Rattle.std.proofs.Common.{◌≡◌, ℕ, ◌+◌, Bool, true, false, List, [], ◌∷◌, ◌++◌, length, filter, not, nat_eq, Option, None, Some, refl, ap, sym, ◌∙◌, append_assoc, append-nil, length-append, cond}
use Rattle.std.specs.Prelude.{option_and_then, slice_get, fold, ◌||◌, if◌then◌else◌}
use Rattle.std.specs.List.{filter_map, cons_option}
use Rattle.std.specs.Cmp.Lexicographic.{pointwise}
use Rattle.std.proofs.lemmas.List.Elements.{filter_map-append, filter-append}
use Rattle.std.proofs.lemmas.List.Folds.{list_any-append}
use Rattle.std.proofs.lemmas.List.Sums.{fold-append}
use Rattle.tap_name.specs.Settings.{SettingsValue}
use Rattle.tap_scenario.specs.declared.step.Step.{Step}
use Rattle.tap_log.specs.declared.record.Pair.{Pair}
use Rattle.tap_log.specs.declared.record.Record.{Record}
use Rattle.tap_log.specs.declared.record.Record.TheVariants.{Begin, Carrier, Core, Gone}
use Rattle.tap_log.specs.Kinds.{abandoned_name, accepts, begin_members, begins_group, core_name, ended_number, gone_name, is_carried, packet_number, published_pair, sent_number, taken_number, withdrawn_pair}
use Rattle.tap_history.specs.StepAsks.{depart_name, join_name}
use Rattle.tap_log.specs.Log.{last_of}
use Rattle.tap_history.specs.Moments.{numbers_less, outstanding, under_way}
use Rattle.tap_history.specs.Core.{abandoned_of, accepted_in, accepted_step, accepted_steps, ceased_of, core_of, departures_of, gone_of, present_of, joins_of, members_of}
use Rattle.tap_name.specs.Names.{has_name, names_without}
use Rattle.tap_history.specs.Published.{has_pair, pairs_less, published_of, same_pair, unwithdrawn_pair, unwithdrawn_pairs, without_servers}
use Rattle.tap_history.specs.Names.{join_count, names_of, with_name}
use Rattle.tap_history.specs.RecordLaws.{IsNewLog, RecordChanges, accepted_by, accepted_next}
use Rattle.tap_log.specs.MoreRecords.{at_most_one, first_of_both}
use Rattle.tap_log.specs.Frames.{bytes_of, sent_bytes}
use Rattle.tap_log.proofs.MoreRecords.{carried_third, is_carried-push, bytes_of-push, filter_map-push}
use Rattle.tap_history.specs.Flights.{bytes_at}
use Rattle.tap_history.proofs.Acknowledging.{awaiting-arrived, awaiting-push}
use Rattle.tap_history.proofs.Less.{filter-swaps, filter-twice, less_by-more, less_by-none, not_or}

pub one_before : {X : Type 0} (one : Option X) (xs ys : List X) → cons_option one (xs ++ ys) ≡ cons_option one xs ++ ys
one_before None xs ys = refl
one_before (Some x) xs ys = refl

-- ---- the beginning

members_of-push : (log : List Record) (item : Record) → begin_members item ≡ [] → members_of (log ++ item ∷ []) ≡ members_of log
members_of-push [] item none = none
members_of-push (first ∷ items) item none = refl

-- ---- accepted steps

accepted_in-push : (carried : Bool) (log : List Record) (item : Record)
    → accepted_in carried (log ++ item ∷ []) ≡ accepted_in carried log ++ accepted_next carried (last_of log) item
accepted_in-push carried [] item = refl
accepted_in-push carried (first ∷ []) item = refl
accepted_in-push carried (first ∷ next ∷ items) item =
    ap (λ l. cons_option (accepted_step carried (first, next)) l) (accepted_in-push carried (next ∷ items) item)
    ∙ one_before (accepted_step carried (first, next)) (accepted_in carried (next ∷ items))
    (accepted_next carried (last_of (next ∷ items)) item)

-- a `Carrier` after the first record accepts its step, be the log carried by it or not
carrier_accepts : (one other : Bool) (first : Record) → accepted_step one (first, Carrier) ≡ accepted_step other (first, Carrier)
unfolding accepted_step accepts begins_group
carrier_accepts one other first = refl

pub accepted_steps-push : (log : List Record) (item : Record)
    → accepted_steps (log ++ item ∷ []) ≡ accepted_steps log ++ accepted_by log item
accepted_steps-push [] Carrier = refl
accepted_steps-push (first ∷ []) Carrier = ap at_most_one
    (carrier_accepts (is_carried (first ∷ Carrier ∷ [])) (is_carried (first ∷ [])) first)
accepted_steps-push (first ∷ next ∷ items) Carrier =
    ap (λ b. accepted_in b (first ∷ next ∷ (items ++ Carrier ∷ []))) (carried_third first next (items ++ Carrier ∷ []) items)
    ∙ accepted_in-push (is_carried (first ∷ next ∷ items)) (first ∷ next ∷ items) Carrier
accepted_steps-push log item =
    ap (λ b. accepted_in b (log ++ item ∷ [])) (is_carried-push log item (λ h. cc)) ∙ accepted_in-push (is_carried log) log item

named-push : (h : Step → Option (List ℕ)) (log : List Record) (item : Record)
    → filter_map h (accepted_steps (log ++ item ∷ [])) ≡ filter_map h (accepted_steps log) ++ filter_map h (accepted_by log item)
named-push h log item =
    ap (filter_map h) (accepted_steps-push log item) ∙ filter_map-append h (accepted_steps log) (accepted_by log item)

-- ---- those who take part

pub core_of-first : (item : Record) → gone_name item ≡ None → core_name item ≡ None → core_of (item ∷ []) ≡ begin_members item
core_of-first item stays none =
    ap (λ o. names_without (begin_members item ++ at_most_one (core_name item)) (at_most_one o)) stays
    ∙ ap (λ o. names_without (begin_members item ++ at_most_one o) []) none
    ∙ less_by-none (pointwise nat_eq) (begin_members item ++ []) ∙ append-nil (begin_members item)

pub came-push : (came named new gone ended : List (List ℕ)) (all all_gone : List (List ℕ)) → all ≡ (came ++ named) ++ new
    → all_gone ≡ gone ++ ended
    → names_without all all_gone ≡ names_without (names_without (came ++ named) gone ++ names_without new gone) ended
came-push came named new gone ended all all_gone is is_gone =
    ap (λ l. names_without l all_gone) is ∙ ap (λ l. names_without ((came ++ named) ++ new) l) is_gone
    ∙ less_by-more (pointwise nat_eq) (came ++ named) new gone ended

pub core_of-push : (log : List Record) (item : Record) → begin_members item ≡ []
    → core_of (log ++ item ∷ []) ≡ names_without (core_of log ++ names_without (at_most_one (core_name item)) (gone_of log))
    (at_most_one (gone_name item))
core_of-push log item none =
    came-push (members_of log) (filter_map core_name log) (at_most_one (core_name item)) (gone_of log) (at_most_one (gone_name item))
    (members_of (log ++ item ∷ []) ++ filter_map core_name (log ++ item ∷ [])) (gone_of (log ++ item ∷ []))
    (ap (λ l. l ++ filter_map core_name (log ++ item ∷ [])) (members_of-push log item none)
    ∙ ap (λ l. members_of log ++ l) (filter_map-push core_name log item)
    ∙ sym (append_assoc (members_of log) (filter_map core_name log) (at_most_one (core_name item))))
    (filter_map-push gone_name log item)

-- the beginning gives its members
pub core_of-begin : (settings : SettingsValue) (frames : ℕ) (members : List (List ℕ))
    → core_of (Begin settings frames members ∷ []) ≡ members
unfolding begin_members core_name gone_name
core_of-begin settings frames members = core_of-first (Begin settings frames members) refl refl

-- a record that tells of no core node changes nothing
pub core_of-same : (log : List Record) (item : Record) → begin_members item ≡ [] → core_name item ≡ None → gone_name item ≡ None
    → core_of (log ++ item ∷ []) ≡ core_of log
core_of-same log item none no_core stays =
    core_of-push log item none
    ∙ ap (λ o. names_without (core_of log ++ names_without (at_most_one o) (gone_of log)) (at_most_one (gone_name item))) no_core
    ∙ ap (λ o. names_without (core_of log ++ []) (at_most_one o)) stays
    ∙ less_by-none (pointwise nat_eq) (core_of log ++ []) ∙ append-nil (core_of log)

-- a record that makes no node core and takes none away
abbrev pub leaves_nodes : Record → Bool
leaves_nodes (Begin settings frames members) = false
leaves_nodes (Core name) = false
leaves_nodes (Gone name) = false
leaves_nodes item = true

no_members : (item : Record) → leaves_nodes item ≡ true → begin_members item ≡ []
unfolding begin_members
no_members (Begin settings frames members) is = absurd (cc)
no_members item is = refl

no_core : (item : Record) → leaves_nodes item ≡ true → core_name item ≡ None
unfolding core_name
no_core (Core name) is = absurd (cc)
no_core item is = refl

no_gone : (item : Record) → leaves_nodes item ≡ true → gone_name item ≡ None
unfolding gone_name
no_gone (Gone name) is = absurd (cc)
no_gone item is = refl

pub core_of-left : (log : List Record) (item : Record) → leaves_nodes item ≡ true → core_of (log ++ item ∷ []) ≡ core_of log
core_of-left log item leaves = core_of-same log item (no_members item leaves) (no_core item leaves) (no_gone item leaves)

pub present_of-push : (log : List Record) (item : Record) → begin_members item ≡ []
    → present_of (log ++ item ∷ [])
    ≡ names_without (present_of log ++ names_without (filter_map join_name (accepted_by log item)) (gone_of log))
    (at_most_one (gone_name item))
present_of-push log item none =
    came-push (members_of log) (joins_of log) (filter_map join_name (accepted_by log item)) (gone_of log) (at_most_one (gone_name item))
    (members_of (log ++ item ∷ []) ++ joins_of (log ++ item ∷ [])) (gone_of (log ++ item ∷ []))
    (ap (λ l. l ++ joins_of (log ++ item ∷ [])) (members_of-push log item none)
    ∙ ap (λ l. members_of log ++ l) (named-push join_name log item)
    ∙ sym (append_assoc (members_of log) (joins_of log) (filter_map join_name (accepted_by log item))))
    (filter_map-push gone_name log item)

-- a record that takes no node away, and with which nobody's join is accepted, changes nothing
pub present_of-left : (log : List Record) (item : Record) → leaves_nodes item ≡ true → filter_map join_name (accepted_by log item) ≡ []
    → present_of (log ++ item ∷ []) ≡ present_of log
present_of-left log item leaves none =
    present_of-push log item (no_members item leaves)
    ∙ ap (λ l. names_without (present_of log ++ names_without l (gone_of log)) (at_most_one (gone_name item))) none
    ∙ ap (λ o. names_without (present_of log ++ []) (at_most_one o)) (no_gone item leaves)
    ∙ less_by-none (pointwise nat_eq) (present_of log ++ []) ∙ append-nil (present_of log)

ceased_of-push : (log : List Record) (item : Record)
    → ceased_of (log ++ item ∷ []) ≡ filter (has_name (gone_of log ++ at_most_one (gone_name item)))
    (abandoned_of log ++ at_most_one (abandoned_name item))
ceased_of-push log item =
    ap (λ l. filter (has_name l) (abandoned_of (log ++ item ∷ []))) (filter_map-push gone_name log item)
    ∙ ap (filter (has_name (gone_of log ++ at_most_one (gone_name item)))) (filter_map-push abandoned_name log item)

-- ---- frames and packets

numbers-push : (h k : Record → Option ℕ) (log : List Record) (item : Record)
    → numbers_less (filter_map h (log ++ item ∷ [])) (filter_map k (log ++ item ∷ []))
    ≡ numbers_less (numbers_less (filter_map h log) (filter_map k log) ++ numbers_less (at_most_one (h item)) (filter_map k log))
    (at_most_one (k item))
numbers-push h k log item =
    ap (λ l. numbers_less l (filter_map k (log ++ item ∷ []))) (filter_map-push h log item)
    ∙ ap (λ l. numbers_less (filter_map h log ++ at_most_one (h item)) l) (filter_map-push k log item)
    ∙ less_by-more nat_eq (filter_map h log) (at_most_one (h item)) (filter_map k log) (at_most_one (k item))

pub outstanding-push : (log : List Record) (item : Record)
    → outstanding (log ++ item ∷ [])
    ≡ numbers_less (outstanding log ++ numbers_less (at_most_one (sent_number item)) (filter_map taken_number log))
    (at_most_one (taken_number item))
outstanding-push log item = numbers-push sent_number taken_number log item

and_then-same : {X Y : Type 0} (h k : X → Option Y) (one : Option X) → ((x : X) → h x ≡ k x)
    → option_and_then h one ≡ option_and_then k one
and_then-same h k None same = refl
and_then-same h k (Some x) same = same x

-- the bytes of a frame at a place, if the frames there and the bytes of each are those
pub bytes_at-by : (log : List Record) (frames : List ℕ) (bytes : ℕ → Option (List ℕ)) (place : ℕ) → outstanding log ≡ frames
    → ((number : ℕ) → bytes_of log number ≡ bytes number)
    → bytes_at log place ≡ option_and_then bytes (slice_get frames place)
bytes_at-by log frames bytes place is each =
    ap (λ l. option_and_then (bytes_of log) (slice_get l place)) is ∙ and_then-same (bytes_of log) bytes (slice_get frames place) each

pub under_way-push : (log : List Record) (item : Record)
    → under_way (log ++ item ∷ [])
    ≡ numbers_less (under_way log ++ numbers_less (at_most_one (packet_number item)) (filter_map ended_number log))
    (at_most_one (ended_number item))
under_way-push log item = numbers-push packet_number ended_number log item

-- ---- published pairs

pub pair_cases : (a b : Bool) (pair : Pair) (pairs ended : List Pair) → has_pair ended pair ≡ b
    → cons_option (if a || b then None else Some pair) (pairs_less pairs ended)
    ≡ pairs_less (cons_option (if a then None else Some pair) pairs) ended
pair_cases true b pair pairs ended is = refl
pair_cases false true pair pairs ended is = sym (ap
    (λ c. cond {A = List Pair} (not c) (pair ∷ pairs_less pairs ended) (pairs_less pairs ended)) is)
pair_cases false false pair pairs ended is = sym (ap
    (λ c. cond {A = List Pair} (not c) (pair ∷ pairs_less pairs ended) (pairs_less pairs ended)) is)

pair_here : (later : List Record) (item : Record) (published : Option Pair) (pairs : List Pair)
    → cons_option (unwithdrawn_pair published (later ++ item ∷ [])) (pairs_less pairs (at_most_one (withdrawn_pair item)))
    ≡ pairs_less (cons_option (unwithdrawn_pair published later) pairs) (at_most_one (withdrawn_pair item))
pair_here later item None pairs = refl
pair_here later item (Some pair) pairs =
    let ended = at_most_one (withdrawn_pair item) in
    let both = ap (λ l. has_pair l pair) (filter_map-push withdrawn_pair later item)
    ∙ list_any-append (λ other. same_pair other pair) (filter_map withdrawn_pair later) ended in
    ap (λ b. cons_option (if b then None else Some pair) (pairs_less pairs ended)) both
    ∙ pair_cases (has_pair (filter_map withdrawn_pair later) pair) (has_pair ended pair) pair pairs ended refl

alone : (published : Option Pair) → cons_option (unwithdrawn_pair published []) [] ≡ at_most_one published
alone None = refl
alone (Some pair) = refl

unwithdrawn_pairs-push : (log : List Record) (item : Record)
    → unwithdrawn_pairs (log ++ item ∷ [])
    ≡ pairs_less (unwithdrawn_pairs log) (at_most_one (withdrawn_pair item)) ++ at_most_one (published_pair item)
unwithdrawn_pairs-push [] item = alone (published_pair item)
unwithdrawn_pairs-push (first ∷ items) item =
    let ended = at_most_one (withdrawn_pair item) in
    ap (cons_option (unwithdrawn_pair (published_pair first) (items ++ item ∷ []))) (unwithdrawn_pairs-push items item)
    ∙ one_before (unwithdrawn_pair (published_pair first) (items ++ item ∷ [])) (pairs_less (unwithdrawn_pairs items) ended)
    (at_most_one (published_pair item))
    ∙ ap (λ l. l ++ at_most_one (published_pair item)) (pair_here items item (published_pair first) (unwithdrawn_pairs items))

pub servers-more : (servers more : List (List ℕ)) (pairs : List Pair)
    → without_servers (servers ++ more) pairs ≡ without_servers more (without_servers servers pairs)
servers-more servers more pairs =
    filter-twice (λ pair. not (has_name servers pair.server)) (λ pair. not (has_name more pair.server))
    (λ pair. not (has_name (servers ++ more) pair.server))
    (λ pair. ap not (list_any-append (λ other. pointwise nat_eq other pair.server) servers more)
    ∙ not_or (has_name servers pair.server) (has_name more pair.server)) pairs

pub published_of-push : (log : List Record) (item : Record)
    → published_of (log ++ item ∷ []) ≡ without_servers (filter_map depart_name (accepted_by log item))
    (pairs_less (published_of log) (at_most_one (withdrawn_pair item))
    ++ without_servers (departures_of log) (at_most_one (published_pair item)))
published_of-push log item =
    let gone = departures_of log in
    let more = filter_map depart_name (accepted_by log item) in
    let ended = at_most_one (withdrawn_pair item) in
    let new = at_most_one (published_pair item) in
    ap (λ l. without_servers l (unwithdrawn_pairs (log ++ item ∷ []))) (named-push depart_name log item)
    ∙ ap (without_servers (gone ++ more)) (unwithdrawn_pairs-push log item)
    ∙ servers-more gone more (pairs_less (unwithdrawn_pairs log) ended ++ new)
    ∙ ap (without_servers more) (filter-append (λ pair. not (has_name gone pair.server)) (pairs_less (unwithdrawn_pairs log) ended) new)
    ∙ ap (λ l. without_servers more (l ++ without_servers gone new))
    (filter-swaps (λ pair. not (has_name gone pair.server)) (λ pair. not (has_pair ended pair)) (unwithdrawn_pairs log))

-- ---- counts

pub join_count-push : (log : List Record) (item : Record)
    → join_count (log ++ item ∷ []) ≡ join_count log + length (filter_map join_name (accepted_by log item))
join_count-push log item = ap length (named-push join_name log item)
    ∙ length-append (joins_of log) (filter_map join_name (accepted_by log item))

pub names_of-push : (log : List Record) (item : Record) → begin_members item ≡ []
    → names_of (log ++ item ∷ []) ≡ fold with_name (names_of log) (filter_map join_name (accepted_by log item))
names_of-push log item none =
    let new = filter_map join_name (accepted_by log item) in
    ap (λ l. fold with_name [] (l ++ joins_of (log ++ item ∷ []))) (members_of-push log item none)
    ∙ ap (λ l. fold with_name [] (members_of log ++ l)) (named-push join_name log item)
    ∙ ap (fold with_name []) (sym (append_assoc (members_of log) (joins_of log) new))
    ∙ fold-append with_name [] (members_of log ++ joins_of log) new

-- ---- the beginning alone

all_names : (names : List (List ℕ)) → names_without (names ++ []) [] ≡ names
all_names names = less_by-none (pointwise nat_eq) (names ++ []) ∙ append-nil names

begins_new : (settings : SettingsValue) (frames : ℕ) (members : List (List ℕ)) → IsNewLog members (Begin settings frames members ∷ [])
unfolding is_carried begin_members core_name gone_name published_pair withdrawn_pair sent_number taken_number
begins_new settings frames members =
    record {
      accepted = refl;
      core = all_names members;
      present = all_names members;
      published = refl;
      departing = refl;
      names = ap (fold with_name []) (append-nil members);
    }

begins_carried : (settings : SettingsValue) (frames : ℕ) (members : List (List ℕ))
    → IsNewLog members (Begin settings frames members ∷ Carrier ∷ [])
unfolding is_carried begins_group accepts accepted_step begin_members core_name gone_name published_pair withdrawn_pair sent_number
    taken_number
begins_carried settings frames members =
    record {
      accepted = refl;
      core = all_names members;
      present = all_names members;
      published = refl;
      departing = refl;
      names = ap (fold with_name []) (append-nil members);
    }

-- ---- the law

pub record_changes_hold : RecordChanges
record_changes_hold =
    record {
      begins = begins_new;
      begins_carried = begins_carried;
      accepted = accepted_steps-push;
      core = core_of-push;
      present = present_of-push;
      abandoned = filter_map-push abandoned_name;
      ceased = ceased_of-push;
      frames = outstanding-push;
      places = λ log item place. bytes_at-by (log ++ item ∷ []) _ (λ number. first_of_both (bytes_of log number) (sent_bytes number item))
          place (outstanding-push log item) (λ number. bytes_of-push log item number);
      packets = under_way-push;
      awaits = awaiting-push;
      arrives = awaiting-arrived;
      published = published_of-push;
      joins = join_count-push;
      names = names_of-push;
    }
