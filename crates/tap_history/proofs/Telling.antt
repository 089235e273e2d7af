-- What one more whole group of records changes.
-- Cited above: core_of-group, names_of-group, present_of-group, published_of-group
use Rattle.std.proofs.Common.{◌≡◌, ℕ, ◌≤◌, not, List, [], ◌∷◌, ◌++◌, length, Option, None, Some, refl, ap, sym, ◌∙◌, arith, append_assoc}
use Rattle.std.specs.Prelude.{fold, if◌then◌else◌}
use Rattle.std.specs.List.{filter_map, cons_option}
use Rattle.std.proofs.lemmas.List.Elements.{filter_map-append, filter-append}
use Rattle.std.proofs.lemmas.List.Folds.{list_any-append}
use Rattle.std.proofs.lemmas.List.Sums.{fold-append}
use Rattle.tap_scenario.specs.declared.step.Step.{Step}
use Rattle.tap_log.specs.declared.record.Pair.{Pair}
use Rattle.tap_log.specs.declared.record.Record.{Record}
use Rattle.tap_log.specs.Kinds.{abandoned_name, core_name, gone_name, is_carried, published_pair, withdrawn_pair}
use Rattle.tap_history.specs.StepAsks.{depart_name, join_name}
use Rattle.tap_history.specs.Core.{accepted_in, accepted_steps, core_of, departures_of, gone_of, present_of, joins_of, members_of}
use Rattle.tap_name.specs.Names.{has_name, names_without}
use Rattle.tap_history.specs.Published.{has_pair, pairs_less, published_of, same_pair, unwithdrawn_pair, unwithdrawn_pairs, without_servers}
use Rattle.tap_history.specs.Names.{names_of, with_name}
use Rattle.tap_history.specs.GroupLaws.{GroupChanges, IsGroup, accepted_of}
use Rattle.tap_history.proofs.RecordChanges.{came-push, one_before, pair_cases, servers-more}
use Rattle.tap_history.proofs.Numbering.{awaiting-group, ceased-group, numbered-group, outstanding-group, packets_numbered-group, places-group, under_way-group}
use Rattle.tap_history.proofs.Less.{filter-swaps}
use Rattle.tap_history.proofs.OneMoreGroup.{accepted_in-group, is_carried-group}

-- ---- pairs

-- a pair that is published stays so if no record withdraws it
pair_before : (later more : List Record) (published : Option Pair) (pairs : List Pair)
    → cons_option (unwithdrawn_pair published (later ++ more)) (pairs_less pairs (filter_map withdrawn_pair more))
    ≡ pairs_less (cons_option (unwithdrawn_pair published later) pairs) (filter_map withdrawn_pair more)
pair_before later more None pairs = refl
pair_before later more (Some pair) pairs =
    let ended = filter_map withdrawn_pair more in
    let both = ap (λ l. has_pair l pair) (filter_map-append withdrawn_pair later more)
    ∙ list_any-append (λ other. same_pair other pair) (filter_map withdrawn_pair later) ended in
    ap (λ b. cons_option (if b then None else Some pair) (pairs_less pairs ended)) both
    ∙ pair_cases (has_pair (filter_map withdrawn_pair later) pair) (has_pair ended pair) pair pairs ended refl

pub unwithdrawn_pairs-append : (log more : List Record)
    → unwithdrawn_pairs (log ++ more) ≡ pairs_less (unwithdrawn_pairs log) (filter_map withdrawn_pair more) ++ unwithdrawn_pairs more
unwithdrawn_pairs-append [] more = refl
unwithdrawn_pairs-append (first ∷ items) more =
    let ended = filter_map withdrawn_pair more in
    ap (cons_option (unwithdrawn_pair (published_pair first) (items ++ more))) (unwithdrawn_pairs-append items more)
    ∙ one_before (unwithdrawn_pair (published_pair first) (items ++ more)) (pairs_less (unwithdrawn_pairs items) ended)
    (unwithdrawn_pairs more)
    ∙ ap (λ l. l ++ unwithdrawn_pairs more) (pair_before items more (published_pair first) (unwithdrawn_pairs items))

-- ---- a group

module _ (log : List Record) (first : Record) (after : List Record) (group : IsGroup log first after) where
  abbrev pub whole : List Record
  whole = log ++ first ∷ after

  accepted_steps-group : accepted_steps whole ≡ accepted_steps log ++ accepted_of log (first ∷ after)
  accepted_steps-group =
      ap (λ c. accepted_in c whole) (is_carried-group (is_carried log) log first after group.begins)
      ∙ accepted_in-group (is_carried log) log first after group.begins

  named-group : (h : Step → Option (List ℕ))
      → filter_map h (accepted_steps whole) ≡ filter_map h (accepted_steps log) ++ filter_map h (accepted_of log (first ∷ after))
  named-group h =
      ap (filter_map h) accepted_steps-group ∙ filter_map-append h (accepted_steps log) (accepted_of log (first ∷ after))

  members_of-group : members_of whole ≡ members_of log
  members_of-group = members_first log group.begun
    where
      members_first : (items : List Record) → 1 ≤ length items → members_of (items ++ first ∷ after) ≡ members_of items
      members_first [] begun = absurd (omega (arith, begun))
      members_first (item ∷ items) begun = refl

  pub core_of-group : core_of whole
      ≡ names_without (core_of log ++ names_without (filter_map core_name (first ∷ after)) (gone_of log)) (gone_of (first ∷ after))
  core_of-group =
      came-push (members_of log) (filter_map core_name log) (filter_map core_name (first ∷ after)) (gone_of log) (gone_of (first ∷ after))
      (members_of whole ++ filter_map core_name whole) (gone_of whole)
      (ap (λ l. l ++ filter_map core_name whole) members_of-group
      ∙ ap (λ l. members_of log ++ l) (filter_map-append core_name log (first ∷ after))
      ∙ sym (append_assoc (members_of log) (filter_map core_name log) (filter_map core_name (first ∷ after))))
      (filter_map-append gone_name log (first ∷ after))

  pub present_of-group : present_of whole
      ≡ names_without (present_of log ++ names_without (filter_map join_name (accepted_of log (first ∷ after))) (gone_of log))
      (gone_of (first ∷ after))
  present_of-group =
      let new = filter_map join_name (accepted_of log (first ∷ after)) in
      came-push (members_of log) (joins_of log) new (gone_of log) (gone_of (first ∷ after))
      (members_of whole ++ joins_of whole) (gone_of whole)
      (ap (λ l. l ++ joins_of whole) members_of-group ∙ ap (λ l. members_of log ++ l) (named-group join_name)
      ∙ sym (append_assoc (members_of log) (joins_of log) new))
      (filter_map-append gone_name log (first ∷ after))

  pub names_of-group : names_of whole ≡ fold with_name (names_of log) (filter_map join_name (accepted_of log (first ∷ after)))
  names_of-group =
      let new = filter_map join_name (accepted_of log (first ∷ after)) in
      ap (λ l. fold with_name [] (l ++ joins_of whole)) members_of-group
      ∙ ap (λ l. fold with_name [] (members_of log ++ l)) (named-group join_name)
      ∙ ap (fold with_name []) (sym (append_assoc (members_of log) (joins_of log) new))
      ∙ fold-append with_name [] (members_of log ++ joins_of log) new

  pub published_of-group : published_of whole ≡ without_servers (filter_map depart_name (accepted_of log (first ∷ after)))
      (pairs_less (published_of log) (filter_map withdrawn_pair (first ∷ after))
      ++ without_servers (departures_of log) (unwithdrawn_pairs (first ∷ after)))
  published_of-group =
      let gone = departures_of log in
      let more = filter_map depart_name (accepted_of log (first ∷ after)) in
      let ended = filter_map withdrawn_pair (first ∷ after) in
      let new = unwithdrawn_pairs (first ∷ after) in
      ap (λ l. without_servers l (unwithdrawn_pairs whole)) (named-group depart_name)
      ∙ ap (without_servers (gone ++ more)) (unwithdrawn_pairs-append log (first ∷ after))
      ∙ servers-more gone more (pairs_less (unwithdrawn_pairs log) ended ++ new)
      ∙ ap (without_servers more) (filter-append (λ pair. not (has_name gone pair.server)) (pairs_less (unwithdrawn_pairs log) ended) new)
      ∙ ap (λ l. without_servers more (l ++ without_servers gone new))
      (filter-swaps (λ pair. not (has_name gone pair.server)) (λ pair. not (has_pair ended pair)) (unwithdrawn_pairs log))

pub group_changes_holds : GroupChanges
group_changes_holds =
    record {
      core = core_of-group;
      present = present_of-group;
      names = names_of-group;
      published = published_of-group;
      frames = outstanding-group;
      places = places-group;
      abandoned = λ log group. filter_map-append abandoned_name log group;
      ceased = ceased-group;
      packets = under_way-group;
      awaits = awaiting-group;
      packets_numbered = packets_numbered-group;
      numbered = numbered-group;
    }
