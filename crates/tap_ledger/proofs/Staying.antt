-- A quiet record leaves all that is kept beside the frames as it is: it tells of no name and no pair, and is not counted.
use Rattle.std.proofs.Common.{◌≡◌, ℕ, ◌+◌, Bool, true, false, not, List, [], ◌++◌, length, Option, None, Some, refl, ap, sym, ◌∙◌, arith, append-nil}
use Rattle.std.specs.Prelude.{if◌then◌else◌, option_and_then, fold}
use Rattle.tap_scenario.specs.declared.step.Step.{Step}
use Rattle.tap_scenario.specs.declared.step.Step.TheVariants.{Join, Depart}
use Rattle.tap_log.specs.declared.record.Record.{Record}
use Rattle.tap_log.specs.declared.record.Record.TheVariants.{Step as StepRecord, Taken, Core, Gone, Abandoned, Published, Withdrawn, Asked, CastFrom}
use Rattle.tap_log.specs.Kinds.{abandoned_name, accepts, asked_ticket, begins_group, begun_cast, core_name, gone_name, published_pair, step_of, withdrawn_pair}
use Rattle.tap_log.specs.MoreRecords.{at_most_one}
use Rattle.tap_history.specs.Core.{accepted_step}
use Rattle.tap_history.specs.Names.{with_name}
use Rattle.tap_history.specs.StepAsks.{depart_name, join_name}
use Rattle.tap_ledger.specs.NameLists.{NameLists, accepted_after, lists_after, names_changed}
use Rattle.tap_ledger.specs.KeptLedger.{leaver_next}
use Rattle.tap_ledger.specs.Quiet.{is_coming_or_going, is_moving_step, is_quiet, is_request, moves_node, tells_more, tells_of_request}
use Rattle.tap_ledger.proofs.Accepted.{make_lists}
use Rattle.tap_ledger.proofs.Conditions.{both_left, both_right}
use Rattle.tap_ledger.proofs.Less.{without_none}

-- what a record that tells of nothing more tells

no_core : (item : Record) → tells_more item ≡ false → core_name item ≡ None
unfolding tells_more core_name
no_core (Core name) quiet = absurd (cc)
no_core item quiet = refl

no_gone : (item : Record) → tells_more item ≡ false → gone_name item ≡ None
unfolding tells_more gone_name
no_gone (Gone name) quiet = absurd (cc)
no_gone item quiet = refl

no_abandoned : (item : Record) → tells_more item ≡ false → abandoned_name item ≡ None
unfolding tells_more abandoned_name
no_abandoned (Abandoned name) quiet = absurd (cc)
no_abandoned item quiet = refl

no_published : (item : Record) → tells_more item ≡ false → published_pair item ≡ None
unfolding tells_more published_pair
no_published (Published object server) quiet = absurd (cc)
no_published item quiet = refl

no_withdrawn : (item : Record) → tells_more item ≡ false → withdrawn_pair item ≡ None
unfolding tells_more withdrawn_pair
no_withdrawn (Withdrawn object server) quiet = absurd (cc)
no_withdrawn item quiet = refl

no_asked : (item : Record) → tells_more item ≡ false → asked_ticket item ≡ None
unfolding tells_more asked_ticket
no_asked (Asked ticket object asker) quiet = absurd (cc)
no_asked item quiet = refl

no_cast : (item : Record) → tells_more item ≡ false → begun_cast item ≡ None
unfolding tells_more begun_cast
no_cast (CastFrom cast word level name) quiet = absurd (cc)
no_cast item quiet = refl

-- ---- the step that it accepts

no_join : (step : Step) → is_coming_or_going step ≡ false → join_name step ≡ None
unfolding is_coming_or_going join_name
no_join (Join name via) quiet = absurd (cc)
no_join step quiet = refl

no_departure : (step : Step) → is_coming_or_going step ≡ false → depart_name step ≡ None
unfolding is_coming_or_going depart_name
no_departure (Depart name) quiet = absurd (cc)
no_departure step quiet = refl

-- nothing is named by a step that may be there, if none is named by it
none_if : {X : Type 0} (h : Step → Option X) (accepts : Bool) (step : Option Step) → option_and_then h step ≡ None
    → option_and_then h (if accepts then step else None) ≡ None
none_if h true step none = none
none_if h false step none = refl

-- the record's step names nothing, if a step that moves no node names none
none_of : {X : Type 0} (h : Step → Option X) → ((step : Step) → is_coming_or_going step ≡ false → h step ≡ None)
    → (item : Record) → moves_node item ≡ false → option_and_then h (step_of item) ≡ None
none_of h none (StepRecord index step) quiet = none step quiet
none_of h none item quiet = refl

not_true : (b : Bool) → not b ≡ true → b ≡ false
not_true true is = absurd (cc)
not_true false is = refl

-- nor does the step that is accepted
none_accepted : {X : Type 0} (h : Step → Option X) → ((step : Step) → is_coming_or_going step ≡ false → h step ≡ None)
    → (last : Option Record) (item : Record) → is_moving_step last ≡ false → option_and_then h (accepted_after last item) ≡ None
unfolding accepted_step
none_accepted h none None item still = refl
none_accepted h none (Some last) item still = none_if h (accepts false item) (step_of last) (none_of h none last still)

-- ---- what is kept

-- the record tells of no node that comes or goes, and accepts no step by which one does
pub record NamesNobody (last : Option Record) (item : Record) : Type 0 where
  pub core : core_name item ≡ None
  pub gone : gone_name item ≡ None
  pub abandoned : abandoned_name item ≡ None
  pub joins : option_and_then join_name (accepted_after last item) ≡ None
  pub departs : option_and_then depart_name (accepted_after last item) ≡ None

-- what a quiet record tells, and the step that it accepts
pub record TellsNothing (last : Option Record) (item : Record) : Type 0 where
  pub nobody : NamesNobody last item
  pub published : published_pair item ≡ None
  pub withdrawn : withdrawn_pair item ≡ None
  pub asked : asked_ticket item ≡ None
  pub begun : begun_cast item ≡ None

pub quiet_tells : (last : Option Record) (item : Record) → is_quiet last item ≡ true → TellsNothing last item
quiet_tells last item quiet =
    let tells = not_true (tells_more item) (both_left (not (tells_more item)) _ quiet) in
    let still = not_true (is_moving_step last) (both_right (not (tells_more item)) _ quiet) in
    record {
      nobody = record {
        core = no_core item tells;
        gone = no_gone item tells;
        abandoned = no_abandoned item tells;
        joins = none_accepted join_name no_join last item still;
        departs = none_accepted depart_name no_departure last item still;
      };
      published = no_published item tells;
      withdrawn = no_withdrawn item tells;
      asked = no_asked item tells;
      begun = no_cast item tells;
    }

-- ---- requests

request_core : (item : Record) → tells_of_request item ≡ true → core_name item ≡ None
unfolding tells_of_request core_name
request_core (Core name) tells = absurd (cc)
request_core item tells = refl

request_gone : (item : Record) → tells_of_request item ≡ true → gone_name item ≡ None
unfolding tells_of_request gone_name
request_gone (Gone name) tells = absurd (cc)
request_gone item tells = refl

request_abandoned : (item : Record) → tells_of_request item ≡ true → abandoned_name item ≡ None
unfolding tells_of_request abandoned_name
request_abandoned (Abandoned name) tells = absurd (cc)
request_abandoned item tells = refl

request_begins : (item : Record) → tells_of_request item ≡ true → begins_group false item ≡ false
unfolding tells_of_request begins_group
request_begins (StepRecord index step) tells = absurd (cc)
request_begins (Taken number) tells = absurd (cc)
request_begins item tells = refl

-- what the record of a request leaves as it is
pub record TellsOfRequest (last : Option Record) (item : Record) : Type 0 where
  pub nobody : NamesNobody last item
  pub begins : begins_group false item ≡ false

pub request_tells : (last : Option Record) (item : Record) → is_request last item ≡ true → TellsOfRequest last item
request_tells last item request =
    let tells = both_left (tells_of_request item) _ request in
    let still = not_true (is_moving_step last) (both_right (tells_of_request item) _ request) in
    record {
      nobody = record {
        core = request_core item tells;
        gone = request_gone item tells;
        abandoned = request_abandoned item tells;
        joins = none_accepted join_name no_join last item still;
        departs = none_accepted depart_name no_departure last item still;
      };
      begins = request_begins item tells;
    }

-- who departs stays
pub request_leaves : (last : Option Record) (item : Record) (departing leaver : Option (List ℕ)) → TellsOfRequest last item
    → leaver ≡ leaver_next (begins_group false item) departing (option_and_then depart_name (accepted_after last item)) leaver
request_leaves last item departing leaver tells =
    sym (ap (λ b. leaver_next b departing (option_and_then depart_name (accepted_after last item)) leaver) tells.begins
    ∙ ap (λ d. leaver_next false departing d leaver) tells.nobody.departs)

-- ---- the lists

-- nobody comes and nobody goes
changed_none : (names gone : List (List ℕ)) (came goes : Option (List ℕ)) → came ≡ None → goes ≡ None
    → names ≡ names_changed names came gone goes
changed_none names gone came goes no_came no_goes =
    sym (ap (λ o. names_changed names o gone goes) no_came ∙ ap (names_changed names None gone) no_goes
    ∙ sym (without_none (names ++ [])) ∙ append-nil names)

-- none is added
more_none : (names : List (List ℕ)) (one : Option (List ℕ)) → one ≡ None → names ≡ names ++ at_most_one one
more_none names one none = sym (ap (λ o. names ++ at_most_one o) none ∙ append-nil names)

-- nor if it is new
new_none : (names : List (List ℕ)) (one : Option (List ℕ)) → one ≡ None → names ≡ fold with_name names (at_most_one one)
new_none names one none = sym (ap (λ o. fold with_name names (at_most_one o)) none)

-- the lists stay
pub lists_stay : (r : NameLists) (last : Option Record) (item : Record) → NamesNobody last item
    → r ≡ lists_after r (accepted_after last item) item
unfolding make_lists
lists_stay r last item tells =
    let step = accepted_after last item in
    let after = lists_after r step item in
    ap (λ l. make_lists l r.present r.names r.gone r.abandoned r.departed)
    (changed_none r.core r.gone (core_name item) (gone_name item) tells.core tells.gone)
    ∙ ap (λ l. make_lists after.core l r.names r.gone r.abandoned r.departed)
    (changed_none r.present r.gone (option_and_then join_name step) (gone_name item) tells.joins tells.gone)
    ∙ ap (λ l. make_lists after.core after.present l r.gone r.abandoned r.departed)
    (new_none r.names (option_and_then join_name step) tells.joins)
    ∙ ap (λ l. make_lists after.core after.present after.names l r.abandoned r.departed) (more_none r.gone (gone_name item) tells.gone)
    ∙ ap (λ l. make_lists after.core after.present after.names after.gone l r.departed)
    (more_none r.abandoned (abandoned_name item) tells.abandoned)
    ∙ ap (λ l. make_lists after.core after.present after.names after.gone after.abandoned l)
    (more_none r.departed (option_and_then depart_name step) tells.departs)

-- none is counted
pub count_stays : {X : Type 0} (count : ℕ) (one : Option X) → one ≡ None → count ≡ count + length (at_most_one one)
count_stays count one none = omega (arith, ap (λ o. length (at_most_one o)) none)
