-- A start that is accepted: the records after its step accept it.
-- Cited above: leave_accepted, start_group_accepts, starting_accepted, starts_is_start
use Rattle.std.proofs.Common.{◌≡◌, inl, ℕ, true, false, List, [], ◌∷◌, ◌++◌, length, Option, None, Some, arith, refl, ap, sym, subst, ◌∙◌}
use Rattle.std.specs.Option.{is_some, option_zip}
use Rattle.tap_name.specs.Settings.{SettingsValue}
use Rattle.tap_table.specs.Ties.{holders_on}
use Rattle.tap_depart.specs.Leaving.{notice_for, started_leaving}
use Rattle.tap_scenario.specs.declared.step.Step.{Step}
use Rattle.tap_scenario.specs.declared.step.Step.TheVariants.{Abandon, Cast, Depart, Find, Join, Publish, Withdraw}
use Rattle.tap_wire.specs.declared.frame.Body.TheVariants.{Leave}
use Rattle.tap_log.specs.Counts.{sent_count}
use Rattle.tap_log.specs.Kinds.{accepts, begins_group}
use Rattle.tap_log.specs.declared.record.Record.{Record}
use Rattle.tap_log.specs.declared.record.Record.TheVariants.{Step as StepRecord}
use Rattle.tap_history.specs.StepAsks.{actor_of, is_start}
use Rattle.tap_rule.specs.Act.{act}
use Rattle.tap_rule.specs.Event.{Acted, Start}
use Rattle.tap_rule.specs.Event.Event.{Starts}
use Rattle.tap_rule.specs.Event.News.{Gone as GoneNews}
use Rattle.tap_rule.specs.Event.Start.{Join as StartJoin, Leave as StartLeave}
use Rattle.tap_rule.specs.Node.{NodeState, joiner}
use Rattle.tap_rule.specs.Node.Status.{Core}
use Rattle.tap_rule.specs.Reaction.{message}
use Rattle.tap_rule.specs.Sent.{IsAmong}
use Rattle.tap_rule.proofs.Among.{among-map}
use Rattle.tap_rule.proofs.StartSteps.{leave_start_law}
use Rattle.tap_safety.specs.Move.{may_start}
use Rattle.tap_safety.specs.Moved.{starter}
use Rattle.tap_safety.specs.System.{System}
use Rattle.tap_runs.specs.Acts.{acted_records, news_after, news_before, sent_records}
use Rattle.tap_runs.specs.Group.{records_of_act, start_at}
use Rattle.tap_runs.specs.Starts.{announced, start_of_step}
use Rattle.tap_runs.proofs.Nodes.{acted_accepted, join_accepted, start_in}
use Rattle.tap_runs.proofs.Within.{IsStarting, is_accepted}
use Rattle.tap_safe_runs.specs.Accepting.{AcceptNoStart}
use Rattle.tap_safe_runs.proofs.GroupKinds.{IsStartGroup}
use Rattle.tap_safe_runs.proofs.Splits.{start_accepted}

-- ---- a departure is accepted

some_first : {A : Type 0} (x : A) (xs : List A) → IsAmong x xs → (y : A) × (ys : List A) × (xs ≡ y ∷ ys)
some_first x [] among = absurd among
some_first x (y ∷ ys) among = (y, ys, refl)

gone_accepted : (p : SettingsValue) (number : ℕ) (name : List ℕ) (acted : Acted) → acted.news ≡ GoneNews
    → is_accepted (acted_records p number name acted) ≡ true
unfolding news_before accepts begins_group
gone_accepted p number name acted gone =
    ap (λ news. is_accepted (news_before name news ++ (sent_records p number acted.sent ++ news_after news))) gone

pub leave_accepted : (p : SettingsValue) (number : ℕ) (name : List ℕ) (node : NodeState) → node.status ≡ Core
    → is_accepted (acted_records p number name (act node (Starts StartLeave))) ≡ true
leave_accepted p number name node core = by_holders (holders_on node.ties) refl
  where
    by_holders : (holders : List (List ℕ)) → holders_on node.ties ≡ holders
        → is_accepted (acted_records p number name (act node (Starts StartLeave))) ≡ true
    by_holders [] none =
        gone_accepted p number name (act node (Starts StartLeave)) ((leave_start_law node core).finishes (ap length none)).news
    by_holders (h ∷ hs) some =
        let first : IsAmong h (holders_on node.ties) = subst (IsAmong h) (sym some) (inl refl) in
        let notice = among-map (notice_for node.ties.table) h (holders_on node.ties) first in
        let said = among-map (λ n. message n.to (Leave n.replacement)) (notice_for node.ties.table h)
        (started_leaving node.ties).notices notice in
        let waits = (leave_start_law node core).waits (λ none.
        let more : length (h ∷ hs) ≡ 0 = ap length (sym some) ∙ none in omega (arith, more)) in
        let sent = waits.4.named (message h (Leave (notice_for node.ties.table h).replacement)) said in
        let list = some_first _ (act node (Starts StartLeave)).sent sent in
        acted_accepted p number name (act node (Starts StartLeave)) list.0 list.1 list.2

-- ---- each start

-- an actor that starts something is there
pub starts_is_start : (log : List Record) (step : Step) (what : List ℕ × Start) → start_at log step ≡ Some what → is_start step ≡ true
starts_is_start log step what at = by_actor (actor_of step) refl
  where
    by_actor : (actor : Option (List ℕ)) → actor_of step ≡ actor → is_start step ≡ true
    by_actor None none =
        let wrong : None ≡ Some what = sym (ap (λ a. option_zip a (start_of_step log step)) none) ∙ at in absurd (cc)
    by_actor (Some name) some = ap is_some some

module _ (p : SettingsValue) (log : List Record) (s : System) (name : List ℕ) (start : Start) (may : may_start p s name start) where
  abbrev done : List Record
  done = records_of_act p log name (starter p s name start) (Starts start)

  accepted_start : (step : Step) → start_at log step ≡ Some (name, start) → is_accepted (announced log step ++ done) ≡ true
  unfolding actor_of start_of_step announced accepts begins_group
  accepted_start (Join newcomer via) at =
      let is : StartJoin via ≡ start = ap (start_in (StartJoin via)) at in
      let there : starter p s name start ≡ Some (joiner p name) = ap (starter p s name) (sym is) in
      ap (λ node. is_accepted (records_of_act p log name node (Starts start))) there
      ∙ ap (λ w. is_accepted (records_of_act p log name (Some (joiner p name)) (Starts w))) (sym is)
      ∙ join_accepted p (sent_count log) name via
  accepted_start (Depart node) at =
      let is : StartLeave ≡ start = ap (start_in StartLeave) at in
      let leaves = subst (may_start p s name) (sym is) may in
      let there : starter p s name start ≡ Some leaves.acts.state = ap (starter p s name) (sym is) ∙ leaves.acts.is in
      ap (λ one. is_accepted (records_of_act p log name one (Starts start))) there
      ∙ ap (λ w. is_accepted (records_of_act p log name (Some leaves.acts.state) (Starts w))) (sym is)
      ∙ leave_accepted p (sent_count log) name leaves.acts.state leaves.acts.core
  accepted_start (Publish object server) at = refl
  accepted_start (Withdraw object server) at = refl
  accepted_start (Find object asker) at = refl
  accepted_start (Abandon node) at = refl
  accepted_start (Cast word prefix asker) at = refl
  accepted_start step at = absurd (cc)

pub starting_accepted : (p : SettingsValue) (log : List Record) (s : System) (step : Step) (items : List Record)
    → (starting : IsStarting p log s step items) → may_start p s starting.name starting.start → is_accepted items ≡ true
starting_accepted p log s step items starting may =
    ap is_accepted starting.are ∙ accepted_start p log s starting.name starting.start may step starting.at

-- so the group of a start accepts one
pub start_group_accepts : (p : SettingsValue) (log : List Record) (s : System) (group : List Record) → IsStartGroup p log s group
    → AcceptNoStart group → ⊥
start_group_accepts p log s group start none =
    by_items start.items (starting_accepted p log s start.step start.items start.starting start.may)
    (starts_is_start log start.step (start.starting.name, start.starting.start) start.starting.at) (subst AcceptNoStart start.is none)
  where
    by_items : (items : List Record) → is_accepted items ≡ true → is_start start.step ≡ true
        → AcceptNoStart (StepRecord start.index start.step ∷ items) → ⊥
    by_items [] accepted starts mine = let wrong : false ≡ true = accepted in cc
    by_items (next ∷ items) accepted starts mine = start_accepted start.index start.step next items starts accepted mine
