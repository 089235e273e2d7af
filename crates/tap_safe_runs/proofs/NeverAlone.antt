-- No start stands alone in a group: its refusal stands after it, or what is said of it first, or what its node does. So a run doesn't end
-- with the step of a start.
-- Cited above: HasNoStartLast, no_start_last
use Rattle.std.proofs.Common.{◌≡◌, ◌≢◌, inl, inr, ℕ, Bool, true, false, List, [], ◌∷◌, ◌++◌, length, All, Option, None, Some, refl, ap, sym, subst, ◌∙◌}
use Rattle.std.specs.Prelude.{map}
use Rattle.std.proofs.lemmas.Bool.{cases_eq}
use Rattle.std.proofs.lemmas.List.Elements.{All-head, All-tail}
use Rattle.tap_name.specs.Settings.{SettingsValue}
use Rattle.tap_scenario.specs.declared.step.Step.{Step}
use Rattle.tap_scenario.specs.declared.step.Step.TheVariants.{Join, Depart, Publish, Withdraw, Find, Abandon, Cast, Deliver, Settle, SettleNewest, SettleMixed, Tick, Lose, Repeat, RootSet}
use Rattle.tap_table.specs.Table.{TableValue}
use Rattle.tap_table.specs.Ties.{holders_on}
use Rattle.tap_depart.specs.Leaving.{notice_for}
use Rattle.tap_wire.specs.declared.frame.Frame.{Frame}
use Rattle.tap_log.specs.declared.record.Record.{Record}
use Rattle.tap_log.specs.declared.record.Record.TheVariants.{Step as StepRecord, Taken}
use Rattle.tap_log.specs.declared.record.Refusal.{Refusal}
use Rattle.tap_log.specs.Counts.{sent_count}
use Rattle.tap_log.specs.Kinds.{accepts, begins_group}
use Rattle.tap_log.specs.Log.{last_of}
use Rattle.tap_history.specs.Groups.{is_ended}
use Rattle.tap_history.specs.Refusals.{first_refusal}
use Rattle.tap_history.specs.StepAsks.{actor_of, is_start}
use Rattle.tap_rule.specs.Act.{act}
use Rattle.tap_rule.specs.Event.{Acted}
use Rattle.tap_rule.specs.Event.Event.{Starts}
use Rattle.tap_rule.specs.Event.News.{Gone as GoneNews}
use Rattle.tap_rule.specs.Event.Start.{Join as StartJoin, Leave as StartLeave}
use Rattle.tap_rule.specs.Leaving.{leave_for}
use Rattle.tap_rule.specs.Node.{NodeState, joiner}
use Rattle.tap_rule.specs.Node.Status.{Core}
use Rattle.tap_rule.specs.Sending.{by_receiver, link_frame, message_frame}
use Rattle.tap_rule.proofs.StartSteps.{leave_start_law, seek_start_law}
use Rattle.tap_safety.specs.Move.{MayLeave}
use Rattle.tap_safety.specs.Move.Move.{Begins}
use Rattle.tap_safety.specs.System.{System}
use Rattle.tap_runs.specs.Acts.{acted_records, news_after, news_before, sent_records}
use Rattle.tap_runs.specs.Beginning.{Beginning, begin_record}
use Rattle.tap_runs.specs.Course.{FollowStep, Follows, IsCourse, MayFollow, is_choice, move_of_group, move_of_start, system_of}
use Rattle.tap_runs.specs.Group.{accepted_records, records_of_act, records_unless, start_at}
use Rattle.tap_runs.specs.Named.{HaveNames}
use Rattle.tap_runs.specs.Starts.{announced, start_of_step}
use Rattle.tap_runs.proofs.Frames.{step_moves}
use Rattle.tap_runs.proofs.CourseGrows.{by_groups}
use Rattle.tap_runs.proofs.Nodes.{acted_accepted, step_begins}
use Rattle.tap_runs.proofs.Within.{Within, is_accepted, step_within, taken_within}
use Rattle.tap_safe_runs.specs.Safe.{IsRun}
use Rattle.tap_safe_runs.proofs.Possible.{group_may_move}
use Rattle.tap_safe_runs.proofs.Safe.{runs_are_sound, steps_after, steps_before}

-- ---- what a node does as it joins or leaves

-- a join sends a frame
join_told : (p : SettingsValue) (number : ℕ) (name via : List ℕ)
    → is_accepted (acted_records p number name (act (joiner p name) (Starts (StartJoin via)))) ≡ true
unfolding by_receiver
join_told p number name via =
    acted_accepted p number name (act (joiner p name) (Starts (StartJoin via))) _ _ (seek_start_law (joiner p name) via refl).completed.sent.all

-- whoever is gone is told to be
gone_first : (name : List ℕ) (items : List Record) → is_accepted (news_before name GoneNews ++ items) ≡ true
unfolding news_before accepts begins_group
gone_first name items = refl

gone_told : (p : SettingsValue) (number : ℕ) (name : List ℕ) (acted : Acted) → acted.news ≡ GoneNews
    → is_accepted (acted_records p number name acted) ≡ true
gone_told p number name acted is =
    ap (λ news. is_accepted (news_before name news ++ (sent_records p number acted.sent ++ news_after news))) is
    ∙ gone_first name (sent_records p number acted.sent ++ news_after GoneNews)

-- a notice to a holder is a frame
notices_told : (p : SettingsValue) (number : ℕ) (name from : List ℕ) (acted : Acted) (table : TableValue) (holders : List (List ℕ))
    (others : List Frame) → length holders ≢ 0
    → acted.sent ≡ map (link_frame from) (by_receiver []) ++ (map (message_frame from) (map leave_for (map (notice_for table) holders)) ++ others)
    → is_accepted (acted_records p number name acted) ≡ true
unfolding by_receiver
notices_told p number name from acted table [] others some is = absurd (some refl)
notices_told p number name from acted table (holder ∷ holders) others some is = acted_accepted p number name acted _ _ is

-- a core node that leaves is gone at once, or gives notice
leave_told : (p : SettingsValue) (number : ℕ) (name : List ℕ) (node : NodeState) → node.status ≡ Core
    → is_accepted (acted_records p number name (act node (Starts StartLeave))) ≡ true
leave_told p number name node core =
    let law = leave_start_law node core in
    let acted = act node (Starts StartLeave) in
    elim (cases_eq (length (holders_on node.ties)) 0) [
      | inl none ↦ gone_told p number name acted (law.finishes none).news
      | inr some ↦
          notices_told p number name _ acted node.ties.table (holders_on node.ties) _ some (law.waits some).9.sent.all
    ]

-- ---- the group of a start

no_choice : (step : Step) → is_start step ≡ true → is_choice step ≡ false
unfolding is_choice actor_of
no_choice (Deliver place) starts = absurd (cc)
no_choice Settle starts = absurd (cc)
no_choice SettleNewest starts = absurd (cc)
no_choice (SettleMixed seed) starts = absurd (cc)
no_choice Tick starts = absurd (cc)
no_choice (Lose place) starts = absurd (cc)
no_choice (Repeat place) starts = absurd (cc)
no_choice (RootSet object asker) starts = absurd (cc)
no_choice step starts = refl

module _ (b : Beginning) (log : List Record) (run : IsRun b log) (index : ℕ) where
  abbrev p : SettingsValue
  p = b.settings

  abbrev s : System
  s = system_of log

  -- the step alone may follow
  abbrev MayStandAlone : Step → Type 0
  MayStandAlone step = Follows b log (StepRecord index step ∷ []) × HaveNames p (StepRecord index step ∷ [])

  -- who departs is core
  may_leave : (name : List ℕ) → MayStandAlone (Depart name) → first_refusal log (Depart name) ≡ None → MayLeave s name
  unfolding actor_of start_of_step
  may_leave name may accepted =
      let group = StepRecord index (Depart name) ∷ [] in
      let moves : move_of_group log group ≡ Some (Begins name StartLeave) =
      step_moves log index (Depart name) [] ∙ ap (λ r. move_of_start r (start_at log (Depart name))) accepted in
      group_may_move b log group (Begins name StartLeave) run.course run.going (runs_are_sound b log run).invariant.basis may.0 may.1 moves

  -- a record accepts a start that isn't refused
  start_told : (step : Step) → is_start step ≡ true → MayStandAlone step → first_refusal log step ≡ None
      → is_accepted (accepted_records p log s step) ≡ true
  unfolding accepted_records actor_of start_of_step announced accepts begins_group
  start_told (Join name via) starts may accepted = join_told p (sent_count log) name via
  start_told (Depart name) starts may accepted =
      let leave = may_leave name may accepted in
      ap (λ node. is_accepted (records_of_act p log name node (Starts StartLeave))) leave.acts.is
      ∙ leave_told p (sent_count log) name leave.acts.state leave.acts.core
  start_told (Publish object server) starts may accepted = refl
  start_told (Withdraw object server) starts may accepted = refl
  start_told (Find object asker) starts may accepted = refl
  start_told (Abandon name) starts may accepted = refl
  start_told (Cast word prefix asker) starts may accepted = refl
  start_told step starts may accepted = absurd (cc)

  -- so something stands after it
  something : (step : Step) → is_start step ≡ true → MayStandAlone step → (refusal : Option Refusal) → first_refusal log step ≡ refusal
      → [] ≡ records_unless p log s index step refusal → ⊥
  something step starts may (Some refusal) is none = cc
  something step starts may None is none =
      let wrong : false ≡ true = ap is_accepted none ∙ start_told step starts may is in cc

  follows_alone : (step : Step) → is_choice step ≡ false → MayFollow p log s (StepRecord index step ∷ [])
      → [] ≡ records_unless p log s index step (first_refusal log step)
  unfolding MayFollow
  follows_alone step plain may = subst (λ choice. FollowStep choice p log s index step []) plain may

  pub never_alone : (step : Step) → MayStandAlone step → is_start step ≡ false
  never_alone step may = by_start (is_start step) refl
    where
      by_start : (starts : Bool) → is_start step ≡ starts → is_start step ≡ false
      by_start true is =
          absurd (something step is may (first_refusal log step) refl (follows_alone step (no_choice step is) may.0.may))
      by_start false is = is

-- ---- the last record of a run

-- no step is the last one of records within a group
last_within : (index : ℕ) (step : Step) (item : Record) (items : List Record) → All Within (item ∷ items)
    → last_of (item ∷ items) ≡ Some (StepRecord index step) → ⊥
last_within index step item [] within is =
    let same : item ≡ StepRecord index step = cc in
    let wrong : false ≡ true =
    sym (All-head Within item [] within).0 ∙ ap (begins_group false) same ∙ step_begins index step in
    cc
last_within index step item (next ∷ items) within is =
    last_within index step next items (All-tail Within item (next ∷ items) within) is

pub last_of-append : (log : List Record) (first : Record) (after : List Record) → last_of (log ++ first ∷ after) ≡ last_of (first ∷ after)
last_of-append [] first after = refl
last_of-append (item ∷ []) first after = refl
last_of-append (item ∷ next ∷ items) first after = last_of-append (next ∷ items) first after

-- the last record isn't the step of a start
abbrev pub HasNoStartLast : List Record → Type 0
HasNoStartLast log = (index : ℕ) (step : Step) → last_of log ≡ Some (StepRecord index step) → is_start step ≡ false

module _ (b : Beginning) where
  last_in_group : (log group : List Record) → IsRun b log → HaveNames b.settings group → Follows b log group
      → MayFollow b.settings log (system_of log) group → HasNoStartLast (log ++ group)
  unfolding MayFollow
  last_in_group log (StepRecord number first ∷ []) run names follows may index step is =
      let same : StepRecord number first ≡ StepRecord index step =
      (let one : Some (StepRecord number first) ≡ Some (StepRecord index step) =
      sym (last_of-append log (StepRecord number first) []) ∙ is in cc) in
      let steps : first ≡ step = cc in
      sym (ap is_start steps) ∙ never_alone b log run number first (follows, names)
  last_in_group log (StepRecord number first ∷ item ∷ items) run names follows may index step is =
      absurd (last_within index step item items
      (step_within b.settings log (system_of log) number first (item ∷ items) may)
      (sym (last_of-append log (StepRecord number first) (item ∷ items)) ∙ is))
  last_in_group log (Taken number ∷ []) run names follows may index step is =
      let one : Some (Taken number) ≡ Some (StepRecord index step) = sym (last_of-append log (Taken number) []) ∙ is in
      absurd (cc)
  last_in_group log (Taken number ∷ item ∷ items) run names follows may index step is =
      absurd (last_within index step item items
      (taken_within b.settings log (system_of log) number (item ∷ items) may)
      (sym (last_of-append log (Taken number) (item ∷ items)) ∙ is))
  last_in_group log group run names follows may index step is = absurd may

  -- if the steps have names of the settings, so it is
  abbrev EndsSo : List Record → Type 0
  EndsSo log = HaveNames b.settings log → HasNoStartLast log

  last_grows : (log group : List Record) → IsCourse b log → is_ended log ≡ false → Follows b log group → EndsSo log → EndsSo (log ++ group)
  last_grows log group course going follows before names =
      let run : IsRun b log = record { course = course; going = going; steps = steps_before b.settings log group names } in
      last_in_group log group run (steps_after b.settings log group names) follows follows.may

  begins_so : EndsSo (begin_record b ∷ [])
  begins_so names index step is = absurd (cc)

  pub no_start_last : (log : List Record) → IsRun b log → HasNoStartLast log
  no_start_last log run = by_groups b EndsSo last_grows begins_so log run.course run.going run.steps
