-- What the records of a group tell of nodes that become core, and of joins that are given up.
-- Cited above: core_started, core_step, core_taken
use Rattle.std.proofs.Common.{◌≡◌, ◌⊎◌, inl, inr, ℕ, ◌+◌, Bool, true, false, List, [], ◌∷◌, ◌++◌, length, Option, None, Some, refl, ap, sym, ◌∙◌, append-nil}
use Rattle.std.specs.Prelude.{◌||◌, bytes_eq}
use Rattle.std.specs.List.{cons_option, filter_map}
use Rattle.std.specs.Option.{option_map}
use Rattle.std.proofs.lemmas.List.Elements.{filter_map-append}
use Rattle.std.proofs.lemmas.List.Folds.{list_any-append}
use Rattle.tap_name.specs.Names.{has_name}
use Rattle.tap_name.specs.Root.{root}
use Rattle.tap_name.specs.Settings.{SettingsValue}
use Rattle.tap_name.proofs.Membership.{has_name-Decides}
use Rattle.tap_scenario.specs.declared.step.Step.{Step}
use Rattle.tap_scenario.specs.declared.step.Step.TheVariants.{Join, Depart, Publish, Withdraw, Find, Abandon, Cast, Walk, Root, Table, Pointers, Garble, Cut}
use Rattle.tap_wire.specs.declared.fault.WireFault.{WireFault}
use Rattle.tap_wire.specs.declared.frame.Frame.{Frame}
use Rattle.tap_log.specs.declared.record.Record.{Record}
use Rattle.tap_log.specs.declared.record.Record.TheVariants.{Step as StepRecord, Taken, Refused, RootOf, TableOf}
use Rattle.tap_log.specs.declared.record.Refusal.{Refusal}
use Rattle.tap_log.specs.declared.record.NodeWord.{NodeWord}
use Rattle.tap_log.specs.declared.record.LinkLine.{LinkLine}
use Rattle.tap_log.specs.Kinds.{abandoned_name, core_name}
use Rattle.tap_log.specs.MoreRecords.{at_most_one}
use Rattle.tap_history.specs.Core.{abandoned_of, core_of}
use Rattle.tap_history.specs.Refusals.{first_refusal}
use Rattle.tap_history.specs.StepAsks.{actor_of}
use Rattle.tap_table.specs.Table.{rows}
use Rattle.tap_rule.specs.Event.{Acted, News, Start}
use Rattle.tap_rule.specs.Event.News.{Nothing, Core as CoreNews, Gone as GoneNews, Answered as AnsweredNews, Cast as CastNews}
use Rattle.tap_rule.specs.Event.Start.{Join as StartJoin, Abandon as StartAbandon, Publish as StartPublish, Withdraw as StartWithdraw, Find as StartFind, Leave as StartLeave, Cast as StartCast}
use Rattle.tap_rule.specs.Node.{NodeState}
use Rattle.tap_safety.specs.System.{System}
use Rattle.tap_runs.specs.Acts.{acted_records, news_after, news_before, sent_records}
use Rattle.tap_runs.specs.Course.{FollowStep, is_choice, move_of_start}
use Rattle.tap_runs.specs.Damage.{copied_number, fault_of_copy, garbled}
use Rattle.tap_runs.specs.Group.{accepted_records, records_unless, start_at, started_records}
use Rattle.tap_runs.specs.Observed.{link_line, observed, pointers_record, table_record, word_of_status}
use Rattle.tap_runs.specs.Starts.{announced, next_cast, next_ticket, start_of_step}
use Rattle.tap_runs.proofs.Nodes.{core_announced, name_at, one_if, start_in}
use Rattle.tap_runs.proofs.Status.{tells_core}
use Rattle.tap_safe_runs.proofs.GivenUp.{GivesUp}
use Rattle.std.specs.Prelude.{map, option_and_then}

-- of three parts that tell nothing after the first one, the first one tells all
first_tells : (h : Record → Option (List ℕ)) (a b c : List Record) → filter_map h b ≡ [] → filter_map h c ≡ []
    → filter_map h (a ++ (b ++ c)) ≡ filter_map h a
first_tells h a b c one other =
    filter_map-append h a (b ++ c) ∙ ap (λ l. filter_map h a ++ l) (filter_map-append h b c)
    ∙ ap (λ l. filter_map h a ++ (l ++ filter_map h c)) one ∙ ap (λ l. filter_map h a ++ l) other
    ∙ append-nil (filter_map h a)

-- ---- nodes that become core

-- the news before its frames
core_before : (name : List ℕ) (news : News) → filter_map core_name (news_before name news) ≡ one_if (tells_core news) name
unfolding news_before core_name
core_before name Nothing = refl
core_before name CoreNews = refl
core_before name GoneNews = refl
core_before name (AnsweredNews ticket server) = refl
core_before name (CastNews cast true closed) = refl
core_before name (CastNews cast false closed) = refl

-- the news after them
core_later : (news : News) → filter_map core_name (news_after news) ≡ []
unfolding news_after core_name
core_later Nothing = refl
core_later CoreNews = refl
core_later GoneNews = refl
core_later (AnsweredNews ticket server) = refl
core_later (CastNews cast reached true) = refl
core_later (CastNews cast reached false) = refl

-- its frames
core_sent : (p : SettingsValue) (number : ℕ) (frames : List Frame) → filter_map core_name (sent_records p number frames) ≡ []
unfolding core_name
core_sent p number [] = refl
core_sent p number (frame ∷ frames) = core_sent p (number + 1) frames

-- all that is said of what a node did
core_acted : (p : SettingsValue) (number : ℕ) (name : List ℕ) (acted : Acted)
    → filter_map core_name (acted_records p number name acted) ≡ one_if (tells_core acted.news) name
core_acted p number name acted =
    first_tells core_name (news_before name acted.news) (sent_records p number acted.sent) (news_after acted.news)
    (core_sent p number acted.sent) (core_later acted.news)
    ∙ core_before name acted.news

-- the step itself tells of no node
pub core_step : (index : ℕ) (step : Step) (items : List Record)
    → filter_map core_name (StepRecord index step ∷ items) ≡ filter_map core_name items
unfolding core_name
core_step index step items = refl

-- of a start the log tells that its node has become core, if it has, and of no other node
pub core_started : (p : SettingsValue) (log : List Record) (index : ℕ) (step : Step) (number : ℕ) (name : List ℕ) (acted : Acted)
    → filter_map core_name (StepRecord index step ∷ (announced log step ++ acted_records p number name acted))
    ≡ one_if (tells_core acted.news) name
core_started p log index step number name acted =
    let records = acted_records p number name acted in
    core_step index step (announced log step ++ records) ∙ filter_map-append core_name (announced log step) records
    ∙ ap (λ l. l ++ filter_map core_name records) (core_announced log step) ∙ core_acted p number name acted

-- and so of a frame that is taken
pub core_taken : (p : SettingsValue) (taken number : ℕ) (name : List ℕ) (acted : Acted)
    → filter_map core_name (Taken taken ∷ acted_records p number name acted) ≡ one_if (tells_core acted.news) name
unfolding core_name
core_taken p taken number name acted = core_acted p number name acted

-- and nothing of a frame that is taken by nobody
pub core_alone : (taken : ℕ) → filter_map core_name (Taken taken ∷ []) ≡ []
unfolding core_name
core_alone taken = refl

-- ---- joins that are given up

-- the news before its frames
given_before : (name : List ℕ) (news : News) → abandoned_of (news_before name news) ≡ []
unfolding news_before abandoned_name
given_before name Nothing = refl
given_before name CoreNews = refl
given_before name GoneNews = refl
given_before name (AnsweredNews ticket server) = refl
given_before name (CastNews cast true closed) = refl
given_before name (CastNews cast false closed) = refl

-- the news after them
given_later : (news : News) → abandoned_of (news_after news) ≡ []
unfolding news_after abandoned_name
given_later Nothing = refl
given_later CoreNews = refl
given_later GoneNews = refl
given_later (AnsweredNews ticket server) = refl
given_later (CastNews cast reached true) = refl
given_later (CastNews cast reached false) = refl

-- its frames
given_sent : (p : SettingsValue) (number : ℕ) (frames : List Frame) → abandoned_of (sent_records p number frames) ≡ []
unfolding abandoned_name
given_sent p number [] = refl
given_sent p number (frame ∷ frames) = given_sent p (number + 1) frames

-- all that is said of what a node did
given_acted : (p : SettingsValue) (number : ℕ) (name : List ℕ) (acted : Acted) → abandoned_of (acted_records p number name acted) ≡ []
given_acted p number name acted =
    first_tells abandoned_name (news_before name acted.news) (sent_records p number acted.sent) (news_after acted.news)
    (given_sent p number acted.sent) (given_later acted.news)
    ∙ given_before name acted.news

-- the step itself tells of no join
given_step : (index : ℕ) (step : Step) (items : List Record) → abandoned_of (StepRecord index step ∷ items) ≡ abandoned_of items
unfolding abandoned_name
given_step index step items = refl

-- of a start the log tells that a join is given up as it is announced, and not later
pub given_started : (p : SettingsValue) (log : List Record) (index : ℕ) (step : Step) (number : ℕ) (name : List ℕ) (acted : Acted)
    → abandoned_of (StepRecord index step ∷ (announced log step ++ acted_records p number name acted)) ≡ abandoned_of (announced log step)
given_started p log index step number name acted =
    let records = acted_records p number name acted in
    given_step index step (announced log step ++ records) ∙ filter_map-append abandoned_name (announced log step) records
    ∙ ap (λ l. abandoned_of (announced log step) ++ l) (given_acted p number name acted) ∙ append-nil (abandoned_of (announced log step))

-- of a frame that is taken it tells nothing of this
pub given_taken : (p : SettingsValue) (taken number : ℕ) (name : List ℕ) (acted : Acted)
    → abandoned_of (Taken taken ∷ acted_records p number name acted) ≡ []
unfolding abandoned_name
given_taken p taken number name acted = given_acted p number name acted

-- nor of one that is taken by nobody
pub given_alone : (taken : ℕ) → abandoned_of (Taken taken ∷ []) ≡ []
unfolding abandoned_name
given_alone taken = refl

-- the step of a start by which a join is given up
pub giving_up : (log : List Record) (step : Step) (name : List ℕ) (start : Start) → start_at log step ≡ Some (name, start) → GivesUp start
    → step ≡ Abandon name
unfolding actor_of start_of_step
giving_up log (Join newcomer via) name start at is = let wrong : StartJoin via ≡ start = ap (start_in start) at in absurd (cc)
giving_up log (Depart node) name start at is = let wrong : StartLeave ≡ start = ap (start_in start) at in absurd (cc)
giving_up log (Publish object server) name start at is = let wrong : StartPublish object ≡ start = ap (start_in start) at in absurd (cc)
giving_up log (Withdraw object server) name start at is = let wrong : StartWithdraw object ≡ start = ap (start_in start) at in absurd (cc)
giving_up log (Find object asker) name start at is =
    let wrong : StartFind (next_ticket log) object ≡ start = ap (start_in start) at in absurd (cc)
giving_up log (Abandon node) name start at is = ap Abandon (ap name_at at)
giving_up log (Cast word prefix asker) name start at is =
    let wrong : StartCast (next_cast log) (length prefix) word ≡ start = ap (start_in start) at in absurd (cc)
giving_up log step name start at is = absurd (cc)

-- and the start of that step
pub abandons : (log : List Record) (x name : List ℕ) (start : Start) → start_at log (Abandon x) ≡ Some (name, start)
    → (x ≡ name) × (StartAbandon ≡ start)
unfolding actor_of start_of_step
abandons log x name start at = (ap name_at at, ap (start_in StartAbandon) at)

-- it is announced
pub given_announced : (log : List Record) (name : List ℕ) → has_name (abandoned_of (announced log (Abandon name))) name ≡ true
unfolding announced abandoned_name
given_announced log name = (has_name-Decides (name ∷ []) name).1 (inl refl)

-- and no other step announces one
pub announced_given : (log : List Record) (step : Step) (x : List ℕ) → has_name (abandoned_of (announced log step)) x ≡ true
    → step ≡ Abandon x
unfolding announced abandoned_name
announced_given log (Publish object server) x is = absurd (cc)
announced_given log (Withdraw object server) x is = absurd (cc)
announced_given log (Find object asker) x is = absurd (cc)
announced_given log (Abandon name) x is =
    elim ((has_name-Decides (name ∷ []) x).0 is) [ inl same ↦ ap Abandon (sym same) | inr never ↦ absurd never ]
announced_given log (Cast word prefix asker) x is = absurd (cc)
announced_given log step x is = absurd (cc)

-- ---- steps that start nothing

-- one record that tells of no join, or none
none_mapped : {Y : Type 0} (f : Y → Record) → ((y : Y) → abandoned_name (f y) ≡ None) → (one : Option Y)
    → abandoned_of (at_most_one (option_map f one)) ≡ []
none_mapped f none None = refl
none_mapped f none (Some y) = ap (λ name. cons_option name []) (none y)

-- a table, of a node that has one
worded_silent : (name : List ℕ) (links : List LinkLine) (word : Option NodeWord)
    → abandoned_of (at_most_one (option_map (λ w. TableOf name w links) word)) ≡ []
unfolding abandoned_name
worded_silent name links None = refl
worded_silent name links (Some word) = refl

-- a table, of a node that may be there
table_silent : (name : List ℕ) (node : Option NodeState) → abandoned_of (at_most_one (option_and_then (table_record name) node)) ≡ []
table_silent name None = refl
table_silent name (Some node) = worded_silent name (map link_line (rows node.ties.table)) (word_of_status node.status)

-- a damaged copy
damage_silent : (number : Option ℕ) (fault : Option WireFault) → abandoned_of (at_most_one (garbled number fault)) ≡ []
unfolding abandoned_name
damage_silent None fault = refl
damage_silent (Some number) None = refl
damage_silent (Some number) (Some fault) = refl

-- a refusal
refused_silent : (index : ℕ) (refusal : Refusal) → abandoned_of (Refused index refusal ∷ []) ≡ []
unfolding abandoned_name
refused_silent index refusal = refl

-- an observation and a damaged copy tell of no join
accepted_silent : (p : SettingsValue) (log : List Record) (s : System) (step : Step) → start_at log step ≡ None
    → abandoned_of (accepted_records p log s step) ≡ []
unfolding accepted_records observed abandoned_name
accepted_silent p log s (Walk object asker) none = refl
accepted_silent p log s (Root object) none = none_mapped (RootOf object) (λ name. refl) (root p.base (core_of log) object)
accepted_silent p log s (Table name) none = table_silent name (s.node name)
accepted_silent p log s (Pointers name) none = none_mapped (pointers_record name) (λ node. refl) (s.node name)
accepted_silent p log s (Garble place at byte) none =
    damage_silent (copied_number log (Garble place at byte)) (fault_of_copy p log (Garble place at byte))
accepted_silent p log s (Cut place bytes) none = damage_silent (copied_number log (Cut place bytes)) (fault_of_copy p log (Cut place bytes))
accepted_silent p log s step none = ap (λ start. abandoned_of (started_records p log s step start)) none

-- a step that isn't refused, and moves nothing, starts nothing
no_start : (start : Option (List ℕ × Start)) → move_of_start None start ≡ None → start ≡ None
no_start None none = refl
no_start (Some (name, start)) none = absurd (cc)

module _ (p : SettingsValue) (log : List Record) (s : System) (index : ℕ) (step : Step) (items : List Record)
    (still : move_of_start (first_refusal log step) (start_at log step) ≡ None) where
  -- a step that is refused or not
  unless_silent : (refusal : Option Refusal) → first_refusal log step ≡ refusal → items ≡ records_unless p log s index step refusal
      → abandoned_of items ≡ []
  unless_silent (Some refusal) is are = ap abandoned_of are ∙ refused_silent index refusal
  unless_silent None is are =
      let nothing : move_of_start None (start_at log step) ≡ None = sym (ap (λ r. move_of_start r (start_at log step)) is) ∙ still in
      ap abandoned_of are ∙ accepted_silent p log s step (no_start (start_at log step) nothing)

  -- a step that is a choice or not
  by_choice : (choice : Bool) → FollowStep choice p log s index step items → abandoned_of items ≡ []
  by_choice true (inl none) = ap abandoned_of none
  by_choice true (inr refused) = ap abandoned_of refused.is ∙ refused_silent index refused.refusal
  by_choice false are = unless_silent (first_refusal log step) refl are

  -- a step that moves nothing tells of no join
  pub given_idle : FollowStep (is_choice step) p log s index step items → abandoned_of (StepRecord index step ∷ items) ≡ []
  given_idle follow = given_step index step items ∙ by_choice (is_choice step) follow

-- ---- what a longer log tells

-- of two tests one passes if the second does
or_true : (b : Bool) → (b || true) ≡ true
or_true true = refl
or_true false = refl

-- if one of two tests passes, it is the first or the second
or_parts : (one other : Bool) → (one || other) ≡ true → (one ≡ true) ⊎ (other ≡ true)
or_parts true other is = inl refl
or_parts false other is = inr is

module _ (log group : List Record) (x : List ℕ) where
  -- a longer log says of those of the log, and of those of what follows
  both_said : has_name (abandoned_of (log ++ group)) x ≡ (has_name (abandoned_of log) x || has_name (abandoned_of group) x)
  both_said =
      ap (λ l. has_name l x) (filter_map-append abandoned_name log group)
      ∙ list_any-append (λ other. bytes_eq other x) (abandoned_of log) (abandoned_of group)

  -- so of those of the log
  pub said_before : has_name (abandoned_of log) x ≡ true → has_name (abandoned_of (log ++ group)) x ≡ true
  said_before is = both_said ∙ ap (λ b. b || has_name (abandoned_of group) x) is

  -- and of those of what follows
  pub said_now : has_name (abandoned_of group) x ≡ true → has_name (abandoned_of (log ++ group)) x ≡ true
  said_now is = both_said ∙ ap (λ b. has_name (abandoned_of log) x || b) is ∙ or_true (has_name (abandoned_of log) x)

  -- and of no others
  pub said_where : has_name (abandoned_of (log ++ group)) x ≡ true
      → (has_name (abandoned_of log) x ≡ true) ⊎ (has_name (abandoned_of group) x ≡ true)
  said_where is = or_parts (has_name (abandoned_of log) x) (has_name (abandoned_of group) x) (sym both_said ∙ is)
