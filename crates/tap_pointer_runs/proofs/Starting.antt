-- What a start begins with: the first record after its step is no answer.
use Rattle.std.proofs.Common.{◌≡◌, ℕ, List, [], ◌∷◌, ◌++◌, All, Option, None, Some, arith, ap, sym, subst, ◌∙◌}
use Rattle.std.proofs.lemmas.List.Elements.{All-head}
use Rattle.tap_name.specs.Settings.{SettingsValue}
use Rattle.tap_scenario.specs.declared.step.Step.{Step}
use Rattle.tap_scenario.specs.declared.step.Step.TheVariants.{Abandon, Cast, Depart, Find, Join, Publish, Withdraw}
use Rattle.tap_log.specs.Counts.{sent_count}
use Rattle.tap_log.specs.declared.record.Record.{Record}
use Rattle.tap_log.specs.declared.record.Record.TheVariants.{Answered}
use Rattle.tap_history.specs.StepAsks.{actor_of}
use Rattle.tap_rule.specs.Act.{act}
use Rattle.tap_rule.specs.Event.{Start}
use Rattle.tap_rule.specs.Event.Event.{Starts}
use Rattle.tap_rule.specs.Event.Start.{Find as StartFind, Join as StartJoin, Leave as StartLeave}
use Rattle.tap_rule.specs.Node.{NodeState}
use Rattle.tap_safety.specs.Moved.{starter}
use Rattle.tap_safety.specs.System.{System}
use Rattle.tap_runs.specs.Group.{records_of_act, start_at}
use Rattle.tap_runs.specs.Starts.{announced, start_of_step}
use Rattle.tap_runs.proofs.Nodes.{start_in}
use Rattle.tap_runs.proofs.Within.{IsStarting}
use Rattle.tap_pointer_moves.proofs.LookupActs.{start_acts}
use Rattle.tap_pointer_moves.proofs.LookupRules.{AnsweredAtOnce, AskNotes}
use Rattle.tap_pointer_runs.proofs.Unanswered.{IsUnanswered}
use Rattle.tap_pointer_runs.proofs.LookupsGrow.{acted_unanswered}

module _ (p : SettingsValue) (log : List Record) (s : System) (name : List ℕ) (start : Start) where
  abbrev done : List Record
  done = records_of_act p log name (starter p s name start) (Starts start)

  -- what a node does at another start than a lookup answers none
  unanswered_node : (node : Option NodeState) → ((ticket : ℕ) (object : List ℕ) → start ≡ StartFind ticket object → ⊥)
      → All IsUnanswered (records_of_act p log name node (Starts start))
  unanswered_node None other = λ k d inside. absurd (omega arith)
  unanswered_node (Some node) other =
      acted_unanswered p (sent_count log) name (act node (Starts start)) (λ ticket server is.
      let once : AnsweredAtOnce node start ticket server = subst (AskNotes node start) is (start_acts node start).news in
      other ticket once.object once.is)

  no_answer_first : (items : List Record) → All IsUnanswered items → (ticket : ℕ) (server : Option (List ℕ)) (rest : List Record)
      → items ≡ Answered ticket server ∷ rest → ⊥
  no_answer_first [] none ticket server rest is = cc
  no_answer_first (item ∷ items) none ticket server rest is =
      let here : item ≡ Answered ticket server = cc in
      subst IsUnanswered here (All-head IsUnanswered item items none)

  -- the first of the records that follow the step is no answer
  abbrev BeginsUnanswered : List Record → Type 0
  BeginsUnanswered items = (ticket : ℕ) (server : Option (List ℕ)) (rest : List Record) → items ≡ Answered ticket server ∷ rest → ⊥

  unanswered_first : (step : Step) → start_at log step ≡ Some (name, start) → BeginsUnanswered (announced log step ++ done)
  unfolding actor_of start_of_step announced
  unanswered_first (Join newcomer via) at =
      let is : StartJoin via ≡ start = ap (start_in (StartJoin via)) at in
      no_answer_first done (unanswered_node (starter p s name start) (λ ticket object finds.
      let wrong : StartJoin via ≡ StartFind ticket object = is ∙ finds in cc))
  unanswered_first (Depart node) at =
      let is : StartLeave ≡ start = ap (start_in StartLeave) at in
      no_answer_first done (unanswered_node (starter p s name start) (λ ticket object finds.
      let wrong : StartLeave ≡ StartFind ticket object = is ∙ finds in cc))
  unanswered_first (Publish object server) at = λ ticket answer rest is. cc
  unanswered_first (Withdraw object server) at = λ ticket answer rest is. cc
  unanswered_first (Find object asker) at = λ ticket answer rest is. cc
  unanswered_first (Abandon node) at = λ ticket answer rest is. cc
  unanswered_first (Cast word prefix asker) at = λ ticket answer rest is. cc
  unanswered_first step at = absurd (cc)

pub starting_unanswered : (p : SettingsValue) (log : List Record) (s : System) (step : Step) (items : List Record)
    → IsStarting p log s step items → (ticket : ℕ) (server : Option (List ℕ)) (rest : List Record)
    → items ≡ Answered ticket server ∷ rest → ⊥
starting_unanswered p log s step items starting ticket server rest is =
    unanswered_first p log s starting.name starting.start step starting.at ticket server rest (sym starting.are ∙ is)
