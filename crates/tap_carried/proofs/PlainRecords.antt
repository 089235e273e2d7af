-- The records of a group that may follow a log that isn't carried are plain.
-- Cited above: step_plain, taken_plain
use Rattle.std.proofs.Common.{◌≡◌, inl, inr, ℕ, ◌+◌, ◌≤◌, Bool, true, false, List, [], ◌∷◌, ◌++◌, length, map, All, Option, None, Some, refl, sym, subst}
use Rattle.std.specs.Prelude.{option_and_then}
use Rattle.std.specs.Option.{option_map}
use Rattle.std.proofs.lemmas.Bool.{false≢true}
use Rattle.std.proofs.lemmas.List.Elements.{All-append, All-cons, All-nil}
use Rattle.tap_name.specs.Root.{root}
use Rattle.tap_name.specs.Settings.{SettingsValue}
use Rattle.tap_wire.specs.declared.fault.WireFault.{WireFault}
use Rattle.tap_wire.specs.declared.frame.Frame.{Frame}
use Rattle.tap_scenario.specs.declared.step.Step.{Step}
use Rattle.tap_scenario.specs.declared.step.Step.TheVariants.{Publish, Withdraw, Find, Walk, Root, Table, Pointers, Garble, Cut, Abandon, Cast}
use Rattle.tap_log.specs.declared.record.NodeWord.{NodeWord}
use Rattle.tap_log.specs.declared.record.Record.{Record}
use Rattle.tap_log.specs.declared.record.Record.TheVariants.{Arrived, RootOf, Step as StepRecord, TableOf, Taken, Ticked}
use Rattle.tap_log.specs.declared.record.Refusal.{Refusal}
use Rattle.tap_log.specs.Counts.{sent_count}
use Rattle.tap_log.specs.Kinds.{begins_group, is_carried}
use Rattle.tap_log.specs.MoreRecords.{at_most_one}
use Rattle.tap_log.specs.Reduced.{is_added}
use Rattle.tap_history.specs.Core.{core_of}
use Rattle.tap_history.specs.Refusals.{first_refusal}
use Rattle.tap_rule.specs.Act.{act}
use Rattle.tap_rule.specs.Event.{Event, News, Start}
use Rattle.tap_rule.specs.Event.Event.{Starts, Takes}
use Rattle.tap_rule.specs.Event.News.{Nothing, Core as IsCore, Gone as IsGone, Answered as IsAnswered, Cast as IsCast}
use Rattle.tap_rule.specs.Node.{NodeState}
use Rattle.tap_safety.specs.Moved.{numbered_frame, starter}
use Rattle.tap_safety.specs.System.{System}
use Rattle.tap_runs.specs.Acts.{if_so, news_after, news_before, sent_records}
use Rattle.tap_runs.specs.Course.{FollowStep, MayFollow, is_choice}
use Rattle.tap_runs.specs.Damage.{copied_number, fault_of_copy, garbled}
use Rattle.tap_runs.specs.Group.{accepted_records, received_records, records_of_act, records_unless, start_at, started_records}
use Rattle.tap_runs.specs.Observed.{link_line, observed, pointers_record, table_record, word_of_status}
use Rattle.tap_runs.specs.Starts.{announced}
use Rattle.tap_table.specs.Table.{rows}
use Rattle.tap_runs.proofs.Within.{whole_group}
use Rattle.tap_carried.specs.LogTurns.{IsPlainRecord}

-- the reduced log keeps the record
abbrev IsKept : Record → Type 0
IsKept item = is_added item ≡ false

abbrev AreKept : List Record → Type 0
AreKept items = All IsKept items

none_here : AreKept []
none_here = All-nil IsKept

one_here : (item : Record) → IsKept item → AreKept (item ∷ [])
one_here item is = All-cons IsKept item [] is (All-nil IsKept)

sent_kept : (p : SettingsValue) (number : ℕ) (frames : List Frame) → AreKept (sent_records p number frames)
unfolding is_added
sent_kept p number [] = none_here
sent_kept p number (frame ∷ frames) = All-cons IsKept _ (sent_records p (number + 1) frames) refl (sent_kept p (number + 1) frames)

so_kept : (there : Bool) (item : Record) → IsKept item → AreKept (if_so there item)
so_kept true item is = one_here item is
so_kept false item is = none_here

before_kept : (name : List ℕ) (news : News) → AreKept (news_before name news)
unfolding news_before is_added
before_kept name Nothing = none_here
before_kept name IsCore = one_here _ refl
before_kept name IsGone = one_here _ refl
before_kept name (IsAnswered ticket server) = none_here
before_kept name (IsCast cast reached closed) = so_kept reached _ refl

after_kept : (news : News) → AreKept (news_after news)
unfolding news_after is_added
after_kept Nothing = none_here
after_kept IsCore = none_here
after_kept IsGone = none_here
after_kept (IsAnswered ticket server) = one_here _ refl
after_kept (IsCast cast reached closed) = so_kept closed _ refl

act_kept : (p : SettingsValue) (before : List Record) (name : List ℕ) (node : Option NodeState) (event : Event)
    → AreKept (records_of_act p before name node event)
act_kept p before name None event = none_here
act_kept p before name (Some node) event =
    let acted = act node event in
    let sent = sent_records p (sent_count before) acted.sent in
    All-append IsKept (news_before name acted.news) (sent ++ news_after acted.news) (before_kept name acted.news)
    (All-append IsKept sent (news_after acted.news) (sent_kept p (sent_count before) acted.sent) (after_kept acted.news))

announced_kept : (before : List Record) (step : Step) → AreKept (announced before step)
unfolding announced is_added
announced_kept before (Publish object server) = one_here _ refl
announced_kept before (Withdraw object server) = one_here _ refl
announced_kept before (Find object asker) = one_here _ refl
announced_kept before (Abandon name) = one_here _ refl
announced_kept before (Cast word prefix asker) = one_here _ refl
announced_kept before step = none_here

module _ (p : SettingsValue) (before : List Record) (s : System) where
  started_kept : (step : Step) (start : Option (List ℕ × Start)) → AreKept (started_records p before s step start)
  started_kept step None = none_here
  started_kept step (Some (name, start)) =
      All-append IsKept (announced before step) (records_of_act p before name (starter p s name start) (Starts start)) (announced_kept before step)
      (act_kept p before name (starter p s name start) (Starts start))

  root_kept : (object : List ℕ) (found : Option (List ℕ)) → AreKept (at_most_one (option_map (RootOf object) found))
  unfolding is_added
  root_kept object None = none_here
  root_kept object (Some name) = one_here (RootOf object name) refl

  word_kept : (name : List ℕ) (node : NodeState) (word : Option NodeWord)
      → AreKept (at_most_one (option_map (λ w. TableOf name w (map link_line (rows node.ties.table))) word))
  unfolding is_added
  word_kept name node None = none_here
  word_kept name node (Some word) = one_here _ refl

  table_kept : (name : List ℕ) (node : Option NodeState) → AreKept (at_most_one (option_and_then (table_record name) node))
  table_kept name None = none_here
  table_kept name (Some node) = word_kept name node (word_of_status node.status)

  pointers_kept : (name : List ℕ) (node : Option NodeState) → AreKept (at_most_one (option_map (pointers_record name) node))
  unfolding is_added
  pointers_kept name None = none_here
  pointers_kept name (Some node) = one_here (pointers_record name node) refl

  damage_kept : (number : Option ℕ) (fault : Option WireFault) → AreKept (at_most_one (garbled number fault))
  unfolding is_added
  damage_kept None fault = none_here
  damage_kept (Some number) None = none_here
  damage_kept (Some number) (Some fault) = one_here _ refl

  accepted_kept : (step : Step) → AreKept (accepted_records p before s step)
  unfolding accepted_records observed is_added
  accepted_kept (Walk object asker) = one_here _ refl
  accepted_kept (Root object) = root_kept object (root p.base (core_of before) object)
  accepted_kept (Table name) = table_kept name (s.node name)
  accepted_kept (Pointers name) = pointers_kept name (s.node name)
  accepted_kept (Garble place at byte) = damage_kept (copied_number before (Garble place at byte)) (fault_of_copy p before (Garble place at byte))
  accepted_kept (Cut place bytes) = damage_kept (copied_number before (Cut place bytes)) (fault_of_copy p before (Cut place bytes))
  accepted_kept step = started_kept step (start_at before step)

  unless_kept : (index : ℕ) (step : Step) (refusal : Option Refusal) → AreKept (records_unless p before s index step refusal)
  unfolding is_added
  unless_kept index step (Some refusal) = one_here _ refl
  unless_kept index step None = accepted_kept step

  follow_kept : (choice : Bool) (index : ℕ) (step : Step) (items : List Record) → FollowStep choice p before s index step items → AreKept items
  unfolding is_added
  follow_kept true index step items (inl none) = subst AreKept (sym none) none_here
  follow_kept true index step items (inr refused) = subst AreKept (sym refused.is) (one_here _ refl)
  follow_kept false index step items are = subst AreKept (sym are) (unless_kept index step (first_refusal before step))

  received_kept : (frame : Option Frame) → AreKept (received_records p before s frame)
  received_kept None = none_here
  received_kept (Some frame) = act_kept p before frame.to (s.node frame.to) (Takes frame)

-- ---- so they are plain

carried_too : (item : Record) → is_added item ≡ false → begins_group false item ≡ false → begins_group true item ≡ false
unfolding is_added begins_group
carried_too (StepRecord index step) kept alone = absurd (false≢true (sym alone))
carried_too (Taken number) kept alone = refl
carried_too (Arrived packet) kept alone = absurd (false≢true (sym kept))
carried_too Ticked kept alone = absurd (false≢true (sym kept))
carried_too item kept alone = refl

both_plain : (items : List Record) → AreKept items → All (λ item. begins_group false item ≡ false) items → All IsPlainRecord items
both_plain items kept alone = λ k d within.
    let one = kept k d within in let other = alone k d within in
    record { kept = one; uncarried = other; carried = carried_too _ one other }

module _ (p : SettingsValue) (log : List Record) (s : System) (begun : 1 ≤ length log) (uncarried : is_carried log ≡ false) where
  alone_in : (first : Record) (items : List Record) → MayFollow p log s (first ∷ items) → All (λ item. begins_group false item ≡ false) items
  alone_in first items may =
      let w = whole_group p log s (first ∷ items) begun uncarried may in
      let same : items ≡ w.after = cc in
      subst (All (λ item. begins_group false item ≡ false)) (sym same)
      (subst (λ c. All (λ item. begins_group c item ≡ false) w.after) uncarried w.whole.alone)

  pub step_plain : (index : ℕ) (step : Step) (items : List Record) → MayFollow p log s (StepRecord index step ∷ items) → All IsPlainRecord items
  unfolding MayFollow
  step_plain index step items may =
      both_plain items (follow_kept p log s (is_choice step) index step items may) (alone_in (StepRecord index step) items may)

  pub taken_plain : (number : ℕ) (items : List Record) → MayFollow p log s (Taken number ∷ items) → All IsPlainRecord items
  unfolding MayFollow
  taken_plain number items may =
      both_plain items (subst AreKept (sym may.are) (received_kept p log s (numbered_frame number s.frames))) (alone_in (Taken number) items may)
