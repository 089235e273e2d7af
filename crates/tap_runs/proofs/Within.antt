-- What follows the first record of a group begins no other one, and doesn't end the log.
-- Cited above: is_accepted, is_group, IsIdle, IsQuiet, IsStarting, IsWhole, step_kind, step_within, taken_within, whole_group, Within
use Rattle.std.proofs.Common.{◌≡◌, ◌⊎◌, inl, inr, ℕ, ◌+◌, ◌≤◌, Bool, true, false, List, [], ◌∷◌, ◌++◌, length, get_or, All, Option, None, Some, refl, ap, sym, subst, ◌∙◌}
use Rattle.std.proofs.lemmas.List.Elements.{All-append, All-cons, All-head, All-nil, All-tail}
use Rattle.tap_name.specs.Settings.{SettingsValue}
use Rattle.tap_name.specs.Root.{root}
use Rattle.tap_scenario.specs.declared.step.Step.{Step}
use Rattle.tap_scenario.specs.declared.step.Step.TheVariants.{Publish, Withdraw, Find, Abandon, Cast, Walk, Root, Table, Pointers, Garble, Cut, Deliver, Settle, SettleNewest, SettleMixed, Tick, Lose, Repeat, RootSet}
use Rattle.std.specs.Option.{option_map, option_zip}
use Rattle.std.specs.Prelude.{map, option_and_then}
use Rattle.tap_wire.specs.declared.fault.WireFault.{WireFault}
use Rattle.tap_wire.specs.declared.frame.Frame.{Frame}
use Rattle.tap_log.specs.declared.record.NodeWord.{NodeWord}
use Rattle.tap_log.specs.declared.record.Record.{Record}
use Rattle.tap_log.specs.declared.record.Record.TheVariants.{Step as StepRecord, Taken, Refused, Walked, RootOf, TableOf, Reached, Closed}
use Rattle.tap_log.specs.declared.record.Refusal.{Refusal}
use Rattle.tap_log.specs.Kinds.{accepts, asked_ticket, begins_group, begun_cast, core_name, gone_name, is_carried, sent_number, taken_number}
use Rattle.tap_log.specs.MoreRecords.{at_most_one}
use Rattle.tap_history.specs.Core.{core_of}
use Rattle.tap_history.specs.GroupLaws.{IsGroup}
use Rattle.tap_history.specs.Groups.{ends_log, is_ended}
use Rattle.tap_history.specs.Refusals.{first_refusal}
use Rattle.tap_history.specs.StepAsks.{actor_of}
use Rattle.tap_log.specs.declared.record.LinkLine.{LinkLine}
use Rattle.tap_table.specs.Table.{rows}
use Rattle.tap_surrogate.specs.Nodes.{core_links}
use Rattle.tap_surrogate.specs.Walk.{walk}
use Rattle.tap_rule.specs.Node.{NodeState}
use Rattle.tap_rule.specs.Event.{Acted, Event, News, Start}
use Rattle.tap_rule.specs.Event.News.{Nothing, Core as CoreNews, Gone as GoneNews, Answered as AnsweredNews, Cast as CastNews}
use Rattle.tap_rule.specs.Act.{act}
use Rattle.tap_safety.specs.Moved.{numbered_frame, starter}
use Rattle.tap_rule.specs.Event.Event.{Starts, Takes}
use Rattle.tap_safety.specs.System.{System}
use Rattle.tap_log.specs.Counts.{sent_count}
use Rattle.tap_runs.specs.Starts.{announced, start_of_step}
use Rattle.tap_runs.specs.Acts.{acted_records, if_so, news_after, news_before, sent_records}
use Rattle.tap_runs.specs.Observed.{link_line, nodes_of, observed, pointers_record, table_record, word_of_status}
use Rattle.tap_runs.specs.Damage.{copied_number, fault_of_copy, garbled}
use Rattle.tap_runs.specs.Group.{accepted_records, received_records, records_of_act, records_unless, start_at, started_records}
use Rattle.tap_runs.specs.Course.{FollowStep, FollowTaken, IsRefused, MayFollow, is_choice, move_of_start}

-- this record stands within a group
abbrev pub Within : Record → Type 0
Within item = (begins_group false item ≡ false) × (ends_log item ≡ false)

one : (item : Record) → Within item → All Within (item ∷ [])
one item within = All-cons Within item [] within (All-nil Within)

-- ---- what a node does

sent_within : (p : SettingsValue) (number : ℕ) (frames : List Frame) → All Within (sent_records p number frames)
unfolding begins_group ends_log
sent_within p number [] = All-nil Within
sent_within p number (frame ∷ frames) =
    All-cons Within _ (sent_records p (number + 1) frames) (refl, refl) (sent_within p (number + 1) frames)

so_within : (there : Bool) (item : Record) → Within item → All Within (if_so there item)
so_within true item within = one item within
so_within false item within = All-nil Within

before_within : (name : List ℕ) (news : News) → All Within (news_before name news)
unfolding begins_group ends_log news_before
before_within name Nothing = All-nil Within
before_within name CoreNews = one _ (refl, refl)
before_within name GoneNews = one _ (refl, refl)
before_within name (AnsweredNews ticket server) = All-nil Within
before_within name (CastNews cast reached closed) = so_within reached (Reached cast name) (refl, refl)

after_within : (news : News) → All Within (news_after news)
unfolding begins_group ends_log news_after
after_within Nothing = All-nil Within
after_within CoreNews = All-nil Within
after_within GoneNews = All-nil Within
after_within (AnsweredNews ticket server) = one _ (refl, refl)
after_within (CastNews cast reached closed) = so_within closed (Closed cast) (refl, refl)

acted_within : (p : SettingsValue) (number : ℕ) (name : List ℕ) (acted : Acted) → All Within (acted_records p number name acted)
acted_within p number name acted =
    All-append Within (news_before name acted.news) (sent_records p number acted.sent ++ news_after acted.news)
    (before_within name acted.news)
    (All-append Within (sent_records p number acted.sent) (news_after acted.news) (sent_within p number acted.sent)
    (after_within acted.news))

act_within : (p : SettingsValue) (before : List Record) (name : List ℕ) (node : Option NodeState) (event : Event)
    → All Within (records_of_act p before name node event)
act_within p before name None event = All-nil Within
act_within p before name (Some node) event = acted_within p (sent_count before) name (act node event)

-- ---- what is said of a start first

announced_within : (before : List Record) (step : Step) → All Within (announced before step)
unfolding begins_group ends_log announced
announced_within before (Publish object server) = one _ (refl, refl)
announced_within before (Withdraw object server) = one _ (refl, refl)
announced_within before (Find object asker) = one _ (refl, refl)
announced_within before (Abandon name) = one _ (refl, refl)
announced_within before (Cast word prefix asker) = one _ (refl, refl)
announced_within before step = All-nil Within

-- ---- what is only seen or refused

-- such a record tells of no frame, no lookup, no cast and no node, and stands within a group
pub record IsQuiet (item : Record) : Type 0 where
  pub within : Within item
  pub sent : sent_number item ≡ None
  pub taken : taken_number item ≡ None
  pub asked : asked_ticket item ≡ None
  pub cast : begun_cast item ≡ None
  pub core : core_name item ≡ None
  pub gone : gone_name item ≡ None

pub quiet_within : (items : List Record) → All IsQuiet items → All Within items
quiet_within items quiet = λ k d within. (quiet k d within).within

no_quiet : All IsQuiet []
no_quiet = All-nil IsQuiet

one_quiet : (item : Record) → IsQuiet item → All IsQuiet (item ∷ [])
one_quiet item quiet = All-cons IsQuiet item [] quiet no_quiet

root_quiet : (object : List ℕ) (name : Option (List ℕ)) → All IsQuiet (at_most_one (option_map (RootOf object) name))
unfolding begins_group ends_log sent_number taken_number asked_ticket begun_cast core_name gone_name
root_quiet object None = no_quiet
root_quiet object (Some name) =
    one_quiet _ (record { within = (refl, refl); sent = refl; taken = refl; asked = refl; cast = refl; core = refl; gone = refl })

pointers_quiet : (name : List ℕ) (node : Option NodeState) → All IsQuiet (at_most_one (option_map (pointers_record name) node))
unfolding begins_group ends_log sent_number taken_number asked_ticket begun_cast core_name gone_name
pointers_quiet name None = no_quiet
pointers_quiet name (Some node) =
    one_quiet _ (record { within = (refl, refl); sent = refl; taken = refl; asked = refl; cast = refl; core = refl; gone = refl })

worded_quiet : (name : List ℕ) (links : List LinkLine) (word : Option NodeWord)
    → All IsQuiet (at_most_one (option_map (λ w. TableOf name w links) word))
unfolding begins_group ends_log sent_number taken_number asked_ticket begun_cast core_name gone_name
worded_quiet name links None = no_quiet
worded_quiet name links (Some word) =
    one_quiet _ (record { within = (refl, refl); sent = refl; taken = refl; asked = refl; cast = refl; core = refl; gone = refl })

table_quiet : (name : List ℕ) (node : Option NodeState) → All IsQuiet (at_most_one (option_and_then (table_record name) node))
table_quiet name None = no_quiet
table_quiet name (Some node) = worded_quiet name (map link_line (rows node.ties.table)) (word_of_status node.status)

damage_quiet : (number : Option ℕ) (fault : Option WireFault) → All IsQuiet (at_most_one (garbled number fault))
unfolding begins_group ends_log sent_number taken_number asked_ticket begun_cast core_name gone_name
damage_quiet None fault = no_quiet
damage_quiet (Some number) None = no_quiet
damage_quiet (Some number) (Some fault) =
    one_quiet _ (record { within = (refl, refl); sent = refl; taken = refl; asked = refl; cast = refl; core = refl; gone = refl })

walk_quiet : (object : List ℕ) (path : List (List ℕ)) → IsQuiet (Walked object path)
unfolding begins_group ends_log sent_number taken_number asked_ticket begun_cast core_name gone_name
walk_quiet object path =
    record { within = (refl, refl); sent = refl; taken = refl; asked = refl; cast = refl; core = refl; gone = refl }

refused_quiet : (index : ℕ) (refusal : Refusal) → IsQuiet (Refused index refusal)
unfolding begins_group ends_log sent_number taken_number asked_ticket begun_cast core_name gone_name
refused_quiet index refusal =
    record { within = (refl, refl); sent = refl; taken = refl; asked = refl; cast = refl; core = refl; gone = refl }

-- ---- what follows a `Step`

-- these records, after a `Step`, accept it
abbrev pub is_accepted : List Record → Bool
is_accepted [] = false
is_accepted (item ∷ items) = accepts false item

-- what follows tells of nothing but what is seen or refused, and the step moves nothing
pub record IsIdle (log : List Record) (step : Step) (items : List Record) : Type 0 where
  pub quiet : All IsQuiet items
  pub still : move_of_start (first_refusal log step) (start_at log step) ≡ None
  pub plain : (is_accepted items ≡ false) ⊎ (actor_of step ≡ None)

-- the step is accepted, and has a node start something
pub record IsStarting (p : SettingsValue) (log : List Record) (s : System) (step : Step) (items : List Record) : Type 0 where
  pub name : List ℕ
  pub start : Start
  pub accepted : first_refusal log step ≡ None
  pub at : start_at log step ≡ Some (name, start)
  pub are : items ≡ announced log step ++ records_of_act p log name (starter p s name start) (Starts start)

refused_unaccepted : (index : ℕ) (refusal : Refusal) → is_accepted (Refused index refusal ∷ []) ≡ false
unfolding accepts
refused_unaccepted index refusal = refl

moves_nothing : (refusal : Option Refusal) (start : Option (List ℕ × Start)) → start ≡ None → move_of_start refusal start ≡ None
moves_nothing (Some refusal) start none = refl
moves_nothing None start none = ap (move_of_start None) none

choice_starts_nothing : (log : List Record) (step : Step) → is_choice step ≡ true → start_at log step ≡ None
unfolding is_choice actor_of start_of_step
choice_starts_nothing log (Deliver place) choice = refl
choice_starts_nothing log Settle choice = refl
choice_starts_nothing log SettleNewest choice = refl
choice_starts_nothing log (SettleMixed seed) choice = refl
choice_starts_nothing log Tick choice = refl
choice_starts_nothing log (Lose place) choice = refl
choice_starts_nothing log (Repeat place) choice = refl
choice_starts_nothing log (RootSet object asker) choice = refl
choice_starts_nothing log step choice = absurd (cc)

-- an accepted step only sees something, or has a node start something
accepted_kind : (p : SettingsValue) (log : List Record) (s : System) (step : Step)
    → (All IsQuiet (accepted_records p log s step) × (actor_of step ≡ None))
    ⊎ (accepted_records p log s step ≡ started_records p log s step (start_at log step))
unfolding accepted_records observed actor_of
accepted_kind p log s (Walk object asker) =
    inl (one_quiet _ (walk_quiet object (walk p.base (core_links (nodes_of s)) asker object)), refl)
accepted_kind p log s (Root object) = inl (root_quiet object (root p.base (core_of log) object), refl)
accepted_kind p log s (Table name) = inl (table_quiet name (s.node name), refl)
accepted_kind p log s (Pointers name) = inl (pointers_quiet name (s.node name), refl)
accepted_kind p log s (Garble place at byte) =
    inl (damage_quiet (copied_number log (Garble place at byte)) (fault_of_copy p log (Garble place at byte)), refl)
accepted_kind p log s (Cut place bytes) =
    inl (damage_quiet (copied_number log (Cut place bytes)) (fault_of_copy p log (Cut place bytes)), refl)
accepted_kind p log s step = inr refl

module _ (p : SettingsValue) (log : List Record) (s : System) (index : ℕ) (step : Step) (items : List Record) where
  started_kind : (start : Option (List ℕ × Start)) → first_refusal log step ≡ None → start_at log step ≡ start
      → items ≡ started_records p log s step start → IsIdle log step items ⊎ IsStarting p log s step items
  started_kind None accepted at are = inl (record {
    quiet = subst (All IsQuiet) (sym are) no_quiet;
    still = moves_nothing (first_refusal log step) (start_at log step) at;
    plain = inl (ap is_accepted are);
  })
  started_kind (Some (name, start)) accepted at are =
      inr (record { name = name; start = start; accepted = accepted; at = at; are = are })

  unless_kind : (refusal : Option Refusal) → first_refusal log step ≡ refusal → items ≡ records_unless p log s index step refusal
      → IsIdle log step items ⊎ IsStarting p log s step items
  unless_kind (Some refusal) is are = inl (record {
    quiet = subst (All IsQuiet) (sym are) (one_quiet _ (refused_quiet index refusal));
    still = ap (λ r. move_of_start r (start_at log step)) is;
    plain = inl (ap is_accepted are ∙ refused_unaccepted index refusal);
  })
  unless_kind None is are =
      elim (accepted_kind p log s step) [
        | inl idle ↦ inl (record {
          quiet = subst (All IsQuiet) (sym are) idle.0;
          still = moves_nothing (first_refusal log step) (start_at log step)
              (ap (λ actor. option_zip actor (start_of_step log step)) idle.1);
          plain = inr idle.1;
        })
        | inr started ↦ started_kind (start_at log step) is refl (are ∙ started)
      ]

  choice_kind : is_choice step ≡ true → (items ≡ []) ⊎ IsRefused index items → IsIdle log step items
  choice_kind choice (inl none) = record {
    quiet = subst (All IsQuiet) (sym none) no_quiet;
    still = moves_nothing (first_refusal log step) (start_at log step) (choice_starts_nothing log step choice);
    plain = inl (ap is_accepted none);
  }
  choice_kind choice (inr refused) = record {
    quiet = subst (All IsQuiet) (sym refused.is) (one_quiet _ (refused_quiet index refused.refusal));
    still = moves_nothing (first_refusal log step) (start_at log step) (choice_starts_nothing log step choice);
    plain = inl (ap is_accepted refused.is ∙ refused_unaccepted index refused.refusal);
  }

  follow_kind : (choice : Bool) → is_choice step ≡ choice → FollowStep choice p log s index step items
      → IsIdle log step items ⊎ IsStarting p log s step items
  follow_kind true choice follow = inl (choice_kind choice follow)
  follow_kind false choice follow = unless_kind (first_refusal log step) refl follow

  -- a step that may be followed by these is idle, or starts something
  pub step_kind : FollowStep (is_choice step) p log s index step items → IsIdle log step items ⊎ IsStarting p log s step items
  step_kind follow = follow_kind (is_choice step) refl follow

  pub step_within : FollowStep (is_choice step) p log s index step items → All Within items
  step_within follow =
      elim (step_kind follow) [
        | inl idle ↦ quiet_within items idle.quiet
        | inr starting ↦
            subst (All Within) (sym starting.are)
            (All-append Within (announced log step)
            (records_of_act p log starting.name (starter p s starting.name starting.start) (Starts starting.start))
            (announced_within log step)
            (act_within p log starting.name (starter p s starting.name starting.start) (Starts starting.start)))
      ]

-- ---- what follows a `Taken`

received_within : (p : SettingsValue) (before : List Record) (s : System) (frame : Option Frame)
    → All Within (received_records p before s frame)
received_within p before s None = All-nil Within
received_within p before s (Some frame) = act_within p before frame.to (s.node frame.to) (Takes frame)

pub taken_within : (p : SettingsValue) (before : List Record) (s : System) (number : ℕ) (items : List Record)
    → FollowTaken p before s number items → All Within items
taken_within p before s number items follow =
    subst (All Within) (sym follow.are) (received_within p before s (numbered_frame number s.frames))

-- ---- a whole group

-- this is one whole group of the log, and doesn't end it
pub record IsWhole (log group : List Record) : Type 0 where
  pub first : Record
  pub after : List Record
  pub is : group ≡ first ∷ after
  pub whole : IsGroup log first after
  pub going : is_ended (first ∷ after) ≡ false

going_with : (first : Record) (after : List Record) → ends_log first ≡ false → All Within after → is_ended (first ∷ after) ≡ false
going_with first [] going all = going
going_with first (next ∷ after) going all =
    going_with next after (All-head Within next after all).1 (All-tail Within next after all)

-- records within a group follow its first one
pub is_group : (log : List Record) (first : Record) (after : List Record) → 1 ≤ length log → is_carried log ≡ false
    → begins_group false first ≡ true → All Within after → IsGroup log first after
is_group log first after begun uncarried begins all = record {
  begun = begun;
  begins = ap (λ c. begins_group c first) uncarried ∙ begins;
  alone = λ k d within. ap (λ c. begins_group c (get_or after k d)) uncarried ∙ (all k d within).0;
}

whole_with : (log : List Record) (first : Record) (after : List Record) → 1 ≤ length log → is_carried log ≡ false
    → begins_group false first ≡ true → ends_log first ≡ false → All Within after → IsWhole log (first ∷ after)
whole_with log first after begun uncarried begins going all = record {
  first = first;
  after = after;
  is = refl;
  whole = is_group log first after begun uncarried begins all;
  going = going_with first after going all;
}

-- a group that may follow is a whole one
pub whole_group : (p : SettingsValue) (log : List Record) (s : System) (group : List Record) → 1 ≤ length log → is_carried log ≡ false
    → MayFollow p log s group → IsWhole log group
unfolding MayFollow begins_group ends_log
whole_group p log s (StepRecord index step ∷ items) begun uncarried may =
    whole_with log (StepRecord index step) items begun uncarried refl refl (step_within p log s index step items may)
whole_group p log s (Taken number ∷ items) begun uncarried may =
    whole_with log (Taken number) items begun uncarried refl refl
    (taken_within p log s number items may)
whole_group p log s group begun uncarried may = absurd may
