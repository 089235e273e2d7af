-- The names of a world's log are names of its settings.
-- Cited above: nothing_named, step_named, unbegun_named
use Rattle.std.proofs.Common.{◌≡◌, ℕ, Bool, true, false, List, [], ◌∷◌, ◌++◌, All, Option, None, Some, IfSome, sym, subst}
use Rattle.std.specs.Prelude.{if◌then◌else◌, fold}
use Rattle.std.specs.List.{cons_option, filter_map}
use Rattle.std.proofs.lemmas.List.Elements.{All-append, All-cons, All-head, All-nil, All-tail, filter_map-append}
use Rattle.tap_name.specs.Name.{IsName}
use Rattle.tap_name.specs.Names.{has_name}
use Rattle.tap_name.specs.Settings.{SettingsValue}
use Rattle.tap_scenario.specs.declared.step.Step.{Step}
use Rattle.tap_scenario.specs.declared.step.Step.TheVariants.{Cut, Garble, Join}
use Rattle.tap_log.specs.declared.record.Record.{Record}
use Rattle.tap_log.specs.declared.record.Record.TheVariants.{Spent, Step as StepRecord}
use Rattle.tap_log.specs.Kinds.{accepts, is_carried, step_of}
use Rattle.tap_log.specs.Log.{begun_steps}
use Rattle.tap_history.specs.Core.{accepted_in, accepted_step, accepted_steps, joins_of, members_of}
use Rattle.tap_history.specs.Names.{names_of, with_name}
use Rattle.tap_history.specs.StepAsks.{join_name}
use Rattle.tap_runs.proofs.Frames.{none_of}
use Rattle.tap_engine.specs.Kinds.{damages}
use Rattle.tap_runs.specs.Named.{HasNames, HaveNames}

-- ---- one more group

-- the names of the steps of a longer log are of the settings, if those of the further records are
pub named_more : (p : SettingsValue) (log more : List Record) → HaveNames p more → HaveNames p log → HaveNames p (log ++ more)
named_more p log more theirs named =
    subst (All (HasNames p)) (sym (filter_map-append step_of log more))
    (All-append (HasNames p) (begun_steps log) (begun_steps more) named theirs)

-- records that begin no step name none
pub unbegun_named : (p : SettingsValue) (more : List Record) → All (λ item. step_of item ≡ None) more → HaveNames p more
unbegun_named p more none =
    subst (All (HasNames p)) (sym (none_of step_of more none)) (All-nil (HasNames p))

pub nothing_named : (p : SettingsValue) → HaveNames p []
nothing_named p = All-nil (HasNames p)

pub spent_named : (p : SettingsValue) (limit : ℕ) → HaveNames p (Spent limit ∷ [])
spent_named p limit = All-nil (HasNames p)

-- a step, and records that begin none
pub step_named : (p : SettingsValue) (index : ℕ) (step : Step) (items : List Record) → HasNames p step
    → All (λ item. step_of item ≡ None) items → HaveNames p (StepRecord index step ∷ items)
step_named p index step items is none =
    All-cons (HasNames p) step (begun_steps items) is (unbegun_named p items none)

-- one that damages a copy names nothing
pub damaging_names : (p : SettingsValue) (step : Step) → damages step ≡ true → HasNames p step
unfolding damages
damaging_names p (Garble place at byte) is = tt
damaging_names p (Cut place bytes) is = tt
damaging_names p step is = absurd (cc)

-- ---- the names of a log

-- what holds of each that there may be
one_all : {X : Type 0} (P : X → Type 0) (one : Option X) (others : List X) → IfSome one P → All P others → All P (cons_option one others)
one_all P None others is all = all
one_all P (Some x) others is all = All-cons P x others is all

first_one : {X : Type 0} (P : X → Type 0) (one : Option X) (others : List X) → All P (cons_option one others) → IfSome one P
first_one P None others all = tt
first_one P (Some x) others all = All-head P x others all

other_ones : {X : Type 0} (P : X → Type 0) (one : Option X) (others : List X) → All P (cons_option one others) → All P others
other_ones P None others all = all
other_ones P (Some x) others all = All-tail P x others all

-- of the steps that have begun some are accepted
accepted_so : (P : Step → Type 0) (accepted : Bool) (step : Option Step) → IfSome step P → IfSome (if accepted then step else None) P
accepted_so P true step is = is
accepted_so P false step is = tt

accepted_all : (P : Step → Type 0) (carried : Bool) (log : List Record) → All P (begun_steps log) → All P (accepted_in carried log)
unfolding accepted_step
accepted_all P carried [] begun = All-nil P
accepted_all P carried (first ∷ []) begun = All-nil P
accepted_all P carried (first ∷ next ∷ items) begun =
    one_all P (accepted_step carried (first, next)) (accepted_in carried (next ∷ items))
    (accepted_so P (accepts carried next) (step_of first) (first_one P (step_of first) (begun_steps (next ∷ items)) begun))
    (accepted_all P carried (next ∷ items) (other_ones P (step_of first) (begun_steps (next ∷ items)) begun))

-- the names that join are names
join_is_name : (p : SettingsValue) (step : Step) → HasNames p step → IfSome (join_name step) (IsName p)
unfolding join_name
join_is_name p (Join name via) named = named.0
join_is_name p step named = tt

joins_all : (p : SettingsValue) (steps : List Step) → All (HasNames p) steps → All (IsName p) (filter_map join_name steps)
joins_all p [] named = All-nil (IsName p)
joins_all p (step ∷ steps) named =
    one_all (IsName p) (join_name step) (filter_map join_name steps)
    (join_is_name p step (All-head (HasNames p) step steps named))
    (joins_all p steps (All-tail (HasNames p) step steps named))

-- and with one more, if it is new
with_all : (p : SettingsValue) (known : Bool) (names : List (List ℕ)) (name : List ℕ) → IsName p name → All (IsName p) names
    → All (IsName p) (if known then names else names ++ name ∷ [])
with_all p true names name is all = all
with_all p false names name is all =
    All-append (IsName p) names (name ∷ []) all (All-cons (IsName p) name [] is (All-nil (IsName p)))

each_all : (p : SettingsValue) (names others : List (List ℕ)) → All (IsName p) names → All (IsName p) others
    → All (IsName p) (fold with_name names others)
each_all p names [] all more = all
each_all p names (other ∷ others) all more =
    each_all p (with_name names other) others
    (with_all p (has_name names other) names other (All-head (IsName p) other others more) all)
    (All-tail (IsName p) other others more)

-- the names that were ever present are of the settings, if the members and the names of the steps are
pub all_named : (p : SettingsValue) (log : List Record) → All (IsName p) (members_of log) → HaveNames p log
    → All (IsName p) (names_of log)
all_named p log members named =
    each_all p [] (members_of log ++ joins_of log) (All-nil (IsName p))
    (All-append (IsName p) (members_of log) (joins_of log) members
    (joins_all p (accepted_steps log) (accepted_all (HasNames p) (is_carried log) log named)))
