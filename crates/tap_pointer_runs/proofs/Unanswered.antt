-- Which records of a group answer no lookup.
-- Cited above: IsUnanswered, IsUnasked
use Rattle.std.proofs.Common.{◌≡◌, ◌⊎◌, inl, inr, ℕ, Bool, true, false, List, [], ◌∷◌, map, All, Option, None, Some, refl, sym, subst, ◌∙◌}
use Rattle.std.specs.Option.{option_map}
use Rattle.std.specs.Prelude.{option_and_then}
use Rattle.std.proofs.lemmas.List.Elements.{All-cons, All-nil}
use Rattle.tap_name.specs.Root.{root}
use Rattle.tap_name.specs.Settings.{SettingsValue}
use Rattle.tap_table.specs.Table.{rows}
use Rattle.tap_scenario.specs.declared.step.Step.{Step}
use Rattle.tap_scenario.specs.declared.step.Step.TheVariants.{Abandon, Cast, Cut, Find, Garble, Pointers, Publish, Root, Table, Walk, Withdraw}
use Rattle.tap_surrogate.specs.Nodes.{core_links}
use Rattle.tap_surrogate.specs.Walk.{walk}
use Rattle.tap_wire.specs.declared.fault.WireFault.{WireFault}
use Rattle.tap_log.specs.MoreRecords.{at_most_one}
use Rattle.tap_log.specs.declared.record.LinkLine.{LinkLine}
use Rattle.tap_log.specs.declared.record.NodeWord.{NodeWord}
use Rattle.tap_log.specs.declared.record.Record.{Record}
use Rattle.tap_log.specs.declared.record.Record.TheVariants.{Answered, Asked, Refused, RootOf, Step as StepRecord, TableOf, Walked}
use Rattle.tap_log.specs.declared.record.Refusal.{Refusal}
use Rattle.tap_history.specs.Core.{core_of}
use Rattle.tap_history.specs.Refusals.{first_refusal}
use Rattle.tap_rule.specs.Event.{Start}
use Rattle.tap_rule.specs.Node.{NodeState}
use Rattle.tap_safety.specs.System.{System}
use Rattle.tap_runs.specs.Starts.{announced}
use Rattle.tap_runs.specs.Course.{FollowStep, IsRefused, MayFollow, is_choice}
use Rattle.tap_runs.specs.Damage.{copied_number, fault_of_copy, garbled}
use Rattle.tap_runs.specs.Group.{accepted_records, records_unless, start_at, started_records}
use Rattle.tap_runs.specs.Observed.{link_line, nodes_of, observed, pointers_record, table_record, word_of_status}
use Rattle.tap_safe_runs.proofs.GroupKinds.{IsIdleGroup}
use Rattle.tap_pointer_runs.proofs.Runs.{idle_starts_none}
use Rattle.tap_pointer_runs.proofs.Unpaired.{StartsSome}

-- a record answers no lookup
abbrev pub IsUnanswered : Record → Type 0
IsUnanswered (Answered ticket server) = ⊥
IsUnanswered other = Unit {0}

-- a record asks for no lookup
abbrev pub IsUnasked : Record → Type 0
IsUnasked (Asked ticket object asker) = ⊥
IsUnasked other = Unit {0}

none_unanswered : All IsUnanswered []
none_unanswered = All-nil IsUnanswered

pub one_unanswered : (item : Record) → IsUnanswered item → All IsUnanswered (item ∷ [])
one_unanswered item is = All-cons IsUnanswered item [] is none_unanswered

-- what is said of a start first answers none
pub announced_unanswered : (log : List Record) (step : Step) → All IsUnanswered (announced log step)
unfolding announced
announced_unanswered log (Publish object server) = one_unanswered _ tt
announced_unanswered log (Withdraw object server) = one_unanswered _ tt
announced_unanswered log (Find object asker) = one_unanswered _ tt
announced_unanswered log (Abandon name) = one_unanswered _ tt
announced_unanswered log (Cast word prefix asker) = one_unanswered _ tt
announced_unanswered log step = none_unanswered

-- ---- what is only seen or refused

refused_unanswered : (index : ℕ) (refusal : Refusal) → IsUnanswered (Refused index refusal)
refused_unanswered index refusal = tt

root_unanswered : (object : List ℕ) (name : Option (List ℕ)) → All IsUnanswered (at_most_one (option_map (RootOf object) name))
root_unanswered object None = none_unanswered
root_unanswered object (Some name) = one_unanswered _ tt

pointers_unanswered : (name : List ℕ) (node : Option NodeState) → All IsUnanswered (at_most_one (option_map (pointers_record name) node))
pointers_unanswered name None = none_unanswered
pointers_unanswered name (Some node) = one_unanswered _ tt

worded_unanswered : (name : List ℕ) (links : List LinkLine) (word : Option NodeWord)
    → All IsUnanswered (at_most_one (option_map (λ w. TableOf name w links) word))
worded_unanswered name links None = none_unanswered
worded_unanswered name links (Some word) = one_unanswered _ tt

table_unanswered : (name : List ℕ) (node : Option NodeState) → All IsUnanswered (at_most_one (option_and_then (table_record name) node))
table_unanswered name None = none_unanswered
table_unanswered name (Some node) = worded_unanswered name (map link_line (rows node.ties.table)) (word_of_status node.status)

damage_unanswered : (number : Option ℕ) (fault : Option WireFault) → All IsUnanswered (at_most_one (garbled number fault))
damage_unanswered None fault = none_unanswered
damage_unanswered (Some number) None = none_unanswered
damage_unanswered (Some number) (Some fault) = one_unanswered _ tt

walk_unanswered : (object : List ℕ) (path : List (List ℕ)) → IsUnanswered (Walked object path)
walk_unanswered object path = tt

-- ---- what follows a step

-- an accepted step sees something, or starts something
accepted_unanswered : (p : SettingsValue) (log : List Record) (s : System) (step : Step)
    → All IsUnanswered (accepted_records p log s step)
    ⊎ (accepted_records p log s step ≡ started_records p log s step (start_at log step))
unfolding accepted_records observed
accepted_unanswered p log s (Walk object asker) =
    inl (one_unanswered _ (walk_unanswered object (walk p.base (core_links (nodes_of s)) asker object)))
accepted_unanswered p log s (Root object) = inl (root_unanswered object (root p.base (core_of log) object))
accepted_unanswered p log s (Table name) = inl (table_unanswered name (s.node name))
accepted_unanswered p log s (Pointers name) = inl (pointers_unanswered name (s.node name))
accepted_unanswered p log s (Garble place at byte) =
    inl (damage_unanswered (copied_number log (Garble place at byte)) (fault_of_copy p log (Garble place at byte)))
accepted_unanswered p log s (Cut place bytes) =
    inl (damage_unanswered (copied_number log (Cut place bytes)) (fault_of_copy p log (Cut place bytes)))
accepted_unanswered p log s step = inr refl

module _ (p : SettingsValue) (log : List Record) (s : System) (index : ℕ) (step : Step) (items : List Record) where
  started_unanswered : (start : Option (List ℕ × Start)) → first_refusal log step ≡ None → start_at log step ≡ start
      → items ≡ started_records p log s step start → All IsUnanswered items ⊎ StartsSome log step
  started_unanswered None accepted at are = inl (subst (All IsUnanswered) (sym are) none_unanswered)
  started_unanswered (Some what) accepted at are = inr (accepted, (what, at))

  unless_unanswered : (refusal : Option Refusal) → first_refusal log step ≡ refusal → items ≡ records_unless p log s index step refusal
      → All IsUnanswered items ⊎ StartsSome log step
  unless_unanswered (Some refusal) is are =
      inl (subst (All IsUnanswered) (sym are) (one_unanswered (Refused index refusal) (refused_unanswered index refusal)))
  unless_unanswered None is are =
      elim (accepted_unanswered p log s step) [
        | inl seen ↦ inl (subst (All IsUnanswered) (sym are) seen)
        | inr started ↦ started_unanswered (start_at log step) is refl (are ∙ started)
      ]

  choice_unanswered : (items ≡ []) ⊎ IsRefused index items → All IsUnanswered items
  choice_unanswered (inl none) = subst (All IsUnanswered) (sym none) none_unanswered
  choice_unanswered (inr refused) =
      subst (All IsUnanswered) (sym refused.is)
      (one_unanswered (Refused index refused.refusal) (refused_unanswered index refused.refusal))

  -- what follows it answers no lookup, or the step starts something
  pub follow_unanswered : (choice : Bool) → is_choice step ≡ choice → FollowStep choice p log s index step items
      → All IsUnanswered items ⊎ StartsSome log step
  follow_unanswered true choice follow = inl (choice_unanswered follow)
  follow_unanswered false choice follow = unless_unanswered (first_refusal log step) refl follow

-- ---- the group of a step that moves nothing

pub idle_unanswered : (p : SettingsValue) (log : List Record) (s : System) (group : List Record) → (idle : IsIdleGroup p log s group)
    → MayFollow p log s group → All IsUnanswered idle.items
unfolding MayFollow
idle_unanswered p log s group idle may =
    let follow : MayFollow p log s (StepRecord idle.index idle.step ∷ idle.items) = subst (MayFollow p log s) idle.is may in
    elim (follow_unanswered p log s idle.index idle.step idle.items (is_choice idle.step) refl follow) [
      | inl none ↦ none
      | inr starts ↦ absurd (idle_starts_none log idle.step idle.items idle.idle starts)
    ]
