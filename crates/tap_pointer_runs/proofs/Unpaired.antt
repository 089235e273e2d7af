-- Which records of a group publish or withdraw pairs, and who leaves with it.
use Rattle.std.proofs.Common.{◌≡◌, ◌⊎◌, inl, inr, ℕ, ◌+◌, Bool, true, false, List, [], ◌∷◌, ◌++◌, map, All, Option, None, Some, refl, ap, sym, subst, ◌∙◌}
use Rattle.std.specs.List.{cons_option, filter_map}
use Rattle.std.specs.Option.{option_map}
use Rattle.std.specs.Prelude.{option_and_then}
use Rattle.std.proofs.lemmas.List.Elements.{All-append, All-cons, All-head, All-nil, All-tail}
use Rattle.tap_name.specs.Root.{root}
use Rattle.tap_name.specs.Settings.{SettingsValue}
use Rattle.tap_table.specs.Table.{rows}
use Rattle.tap_scenario.specs.declared.step.Step.{Step}
use Rattle.tap_scenario.specs.declared.step.Step.TheVariants.{Cut, Garble, Pointers, Root, Table, Walk}
use Rattle.tap_surrogate.specs.Nodes.{core_links}
use Rattle.tap_surrogate.specs.Walk.{walk}
use Rattle.tap_wire.specs.declared.fault.WireFault.{WireFault}
use Rattle.tap_wire.specs.declared.frame.Frame.{Frame}
use Rattle.tap_log.specs.Kinds.{published_pair, withdrawn_pair}
use Rattle.tap_log.specs.MoreRecords.{at_most_one}
use Rattle.tap_log.specs.declared.record.LinkLine.{LinkLine}
use Rattle.tap_log.specs.declared.record.NodeWord.{NodeWord}
use Rattle.tap_log.specs.declared.record.Record.{Record}
use Rattle.tap_log.specs.declared.record.Record.TheVariants.{Closed, Reached, Refused, RootOf, TableOf, Walked}
use Rattle.tap_log.specs.declared.record.Refusal.{Refusal}
use Rattle.tap_history.specs.Core.{core_of}
use Rattle.tap_history.specs.Published.{unwithdrawn_pair, unwithdrawn_pairs}
use Rattle.tap_history.specs.Refusals.{first_refusal}
use Rattle.tap_rule.specs.Event.{Acted, Event, News, Start}
use Rattle.tap_rule.specs.Event.News.{Answered as AnsweredNews, Cast as CastNews, Core as CoreNews, Gone as GoneNews, Nothing}
use Rattle.tap_rule.specs.Node.{NodeState}
use Rattle.tap_rule.specs.Act.{act}
use Rattle.tap_safety.specs.System.{System}
use Rattle.tap_runs.specs.Acts.{acted_records, if_so, news_after, news_before, sent_records}
use Rattle.tap_runs.specs.Course.{FollowStep, IsRefused, is_choice}
use Rattle.tap_runs.specs.Damage.{copied_number, fault_of_copy, garbled}
use Rattle.tap_runs.specs.Group.{accepted_records, records_of_act, records_unless, start_at, started_records}
use Rattle.tap_runs.specs.Observed.{link_line, nodes_of, observed, pointers_record, table_record, word_of_status}
use Rattle.tap_log.specs.Counts.{sent_count}

-- a record publishes no pair, and withdraws none
abbrev pub IsUnpaired : Record → Type 0
IsUnpaired item = (published_pair item ≡ None) × (withdrawn_pair item ≡ None)

none_paired : All IsUnpaired []
none_paired = All-nil IsUnpaired

one_unpaired : (item : Record) → IsUnpaired item → All IsUnpaired (item ∷ [])
one_unpaired item is = All-cons IsUnpaired item [] is none_paired

-- such records withdraw no pair, and leave none published
pub none_withdrawn : (items : List Record) → All IsUnpaired items → filter_map withdrawn_pair items ≡ []
none_withdrawn [] all = refl
none_withdrawn (item ∷ items) all =
    ap (λ one. cons_option one (filter_map withdrawn_pair items)) (All-head IsUnpaired item items all).1
    ∙ none_withdrawn items (All-tail IsUnpaired item items all)

pub none_published : (items : List Record) → All IsUnpaired items → unwithdrawn_pairs items ≡ []
none_published [] all = refl
none_published (item ∷ items) all =
    ap (λ one. cons_option (unwithdrawn_pair one items) (unwithdrawn_pairs items)) (All-head IsUnpaired item items all).0
    ∙ none_published items (All-tail IsUnpaired item items all)

-- ---- what a node does

so_unpaired : (there : Bool) (item : Record) → IsUnpaired item → All IsUnpaired (if_so there item)
so_unpaired true item is = one_unpaired item is
so_unpaired false item is = none_paired

before_unpaired : (name : List ℕ) (news : News) → All IsUnpaired (news_before name news)
unfolding published_pair withdrawn_pair news_before
before_unpaired name Nothing = none_paired
before_unpaired name CoreNews = one_unpaired _ (refl, refl)
before_unpaired name GoneNews = one_unpaired _ (refl, refl)
before_unpaired name (AnsweredNews ticket server) = none_paired
before_unpaired name (CastNews cast reached closed) = so_unpaired reached (Reached cast name) (refl, refl)

after_unpaired : (news : News) → All IsUnpaired (news_after news)
unfolding published_pair withdrawn_pair news_after
after_unpaired Nothing = none_paired
after_unpaired CoreNews = none_paired
after_unpaired GoneNews = none_paired
after_unpaired (AnsweredNews ticket server) = one_unpaired _ (refl, refl)
after_unpaired (CastNews cast reached closed) = so_unpaired closed (Closed cast) (refl, refl)

sent_unpaired : (p : SettingsValue) (number : ℕ) (frames : List Frame) → All IsUnpaired (sent_records p number frames)
unfolding published_pair withdrawn_pair
sent_unpaired p number [] = none_paired
sent_unpaired p number (frame ∷ frames) =
    All-cons IsUnpaired _ (sent_records p (number + 1) frames) (refl, refl) (sent_unpaired p (number + 1) frames)

pub acted_unpaired : (p : SettingsValue) (number : ℕ) (name : List ℕ) (acted : Acted) → All IsUnpaired (acted_records p number name acted)
acted_unpaired p number name acted =
    All-append IsUnpaired (news_before name acted.news) (sent_records p number acted.sent ++ news_after acted.news)
    (before_unpaired name acted.news)
    (All-append IsUnpaired (sent_records p number acted.sent) (news_after acted.news) (sent_unpaired p number acted.sent)
    (after_unpaired acted.news))

pub act_unpaired : (p : SettingsValue) (before : List Record) (name : List ℕ) (node : Option NodeState) (event : Event)
    → All IsUnpaired (records_of_act p before name node event)
act_unpaired p before name None event = none_paired
act_unpaired p before name (Some node) event = acted_unpaired p (sent_count before) name (act node event)

-- ---- what is only seen or refused

refused_unpaired : (index : ℕ) (refusal : Refusal) → IsUnpaired (Refused index refusal)
unfolding published_pair withdrawn_pair
refused_unpaired index refusal = (refl, refl)

root_unpaired : (object : List ℕ) (name : Option (List ℕ)) → All IsUnpaired (at_most_one (option_map (RootOf object) name))
unfolding published_pair withdrawn_pair
root_unpaired object None = none_paired
root_unpaired object (Some name) = one_unpaired _ (refl, refl)

pointers_unpaired : (name : List ℕ) (node : Option NodeState) → All IsUnpaired (at_most_one (option_map (pointers_record name) node))
unfolding published_pair withdrawn_pair
pointers_unpaired name None = none_paired
pointers_unpaired name (Some node) = one_unpaired _ (refl, refl)

worded_unpaired : (name : List ℕ) (links : List LinkLine) (word : Option NodeWord)
    → All IsUnpaired (at_most_one (option_map (λ w. TableOf name w links) word))
unfolding published_pair withdrawn_pair
worded_unpaired name links None = none_paired
worded_unpaired name links (Some word) = one_unpaired _ (refl, refl)

table_unpaired : (name : List ℕ) (node : Option NodeState) → All IsUnpaired (at_most_one (option_and_then (table_record name) node))
table_unpaired name None = none_paired
table_unpaired name (Some node) = worded_unpaired name (map link_line (rows node.ties.table)) (word_of_status node.status)

damage_unpaired : (number : Option ℕ) (fault : Option WireFault) → All IsUnpaired (at_most_one (garbled number fault))
unfolding published_pair withdrawn_pair
damage_unpaired None fault = none_paired
damage_unpaired (Some number) None = none_paired
damage_unpaired (Some number) (Some fault) = one_unpaired _ (refl, refl)

walk_unpaired : (object : List ℕ) (path : List (List ℕ)) → IsUnpaired (Walked object path)
unfolding published_pair withdrawn_pair
walk_unpaired object path = (refl, refl)

-- ---- what follows a step

-- an accepted step sees something, or starts something
accepted_unpaired : (p : SettingsValue) (log : List Record) (s : System) (step : Step)
    → All IsUnpaired (accepted_records p log s step)
    ⊎ (accepted_records p log s step ≡ started_records p log s step (start_at log step))
unfolding accepted_records observed
accepted_unpaired p log s (Walk object asker) =
    inl (one_unpaired _ (walk_unpaired object (walk p.base (core_links (nodes_of s)) asker object)))
accepted_unpaired p log s (Root object) = inl (root_unpaired object (root p.base (core_of log) object))
accepted_unpaired p log s (Table name) = inl (table_unpaired name (s.node name))
accepted_unpaired p log s (Pointers name) = inl (pointers_unpaired name (s.node name))
accepted_unpaired p log s (Garble place at byte) =
    inl (damage_unpaired (copied_number log (Garble place at byte)) (fault_of_copy p log (Garble place at byte)))
accepted_unpaired p log s (Cut place bytes) =
    inl (damage_unpaired (copied_number log (Cut place bytes)) (fault_of_copy p log (Cut place bytes)))
accepted_unpaired p log s step = inr refl

-- the step is accepted, and starts something
abbrev pub StartsSome : List Record → Step → Type 0
StartsSome log step = (first_refusal log step ≡ None) × ((what : List ℕ × Start) × (start_at log step ≡ Some what))

module _ (p : SettingsValue) (log : List Record) (s : System) (index : ℕ) (step : Step) (items : List Record) where
  started_unpaired : (start : Option (List ℕ × Start)) → first_refusal log step ≡ None → start_at log step ≡ start
      → items ≡ started_records p log s step start → All IsUnpaired items ⊎ StartsSome log step
  started_unpaired None accepted at are = inl (subst (All IsUnpaired) (sym are) none_paired)
  started_unpaired (Some what) accepted at are = inr (accepted, (what, at))

  unless_unpaired : (refusal : Option Refusal) → first_refusal log step ≡ refusal → items ≡ records_unless p log s index step refusal
      → All IsUnpaired items ⊎ StartsSome log step
  unless_unpaired (Some refusal) is are =
      inl (subst (All IsUnpaired) (sym are) (one_unpaired (Refused index refusal) (refused_unpaired index refusal)))
  unless_unpaired None is are =
      elim (accepted_unpaired p log s step) [
        | inl seen ↦ inl (subst (All IsUnpaired) (sym are) seen)
        | inr started ↦ started_unpaired (start_at log step) is refl (are ∙ started)
      ]

  choice_unpaired : (items ≡ []) ⊎ IsRefused index items → All IsUnpaired items
  choice_unpaired (inl none) = subst (All IsUnpaired) (sym none) none_paired
  choice_unpaired (inr refused) =
      subst (All IsUnpaired) (sym refused.is)
      (one_unpaired (Refused index refused.refusal) (refused_unpaired index refused.refusal))

  -- what follows it publishes and withdraws nothing, or the step starts something
  pub follow_unpaired : (choice : Bool) → is_choice step ≡ choice → FollowStep choice p log s index step items
      → All IsUnpaired items ⊎ StartsSome log step
  follow_unpaired true choice follow = inl (choice_unpaired follow)
  follow_unpaired false choice follow = unless_unpaired (first_refusal log step) refl follow
