-- How an observation and a damaged copy go: refused, for want of memory, or with a whole group, which sends nothing.
use Rattle.std.proofs.Common.{◌≡◌, ◌⊎◌, inr, ℕ, ◌≤◌, true, List, [], ◌∷◌, ◌++◌, Option, None, Some, Result, Ok, Err, ap, sym, subst, ◌∙◌}
use Rattle.tap_scenario.specs.declared.step.Step.{Step}
use Rattle.tap_log.specs.declared.record.Record.{Record}
use Rattle.tap_log.specs.declared.record.Record.TheVariants.{Step as StepRecord}
use Rattle.tap_log.specs.declared.record.Refusal.{Refusal}
use Rattle.tap_log.specs.MoreRecords.{at_most_one}
use Rattle.tap_history.specs.Refusals.{first_refusal}
use Rattle.tap_runs.specs.Course.{system_of}
use Rattle.tap_runs.specs.Damage.{damage_record}
use Rattle.tap_runs.specs.Named.{HasNames}
use Rattle.tap_runs.specs.Observed.{observed}
use Rattle.tap_ledger.specs.Added.{CanAdd}
use Rattle.tap_engine.specs.KeptEngine.{AreReady, LeadsTo}
use Rattle.tap_engine.specs.Kinds.{damages, observes}
use Rattle.tap_engine.specs.Outcome.{IsNextIndex, unless_refused}
use Rattle.tap_runs.specs.Groups.{step_group}
use Rattle.tap_engine.specs.declared.engine.Engine.{Engine}
use Rattle.tap_engine.specs.declared.stop.Stop.{Stop}
use Rattle.tap_engine.specs.declared.stop.Stop.TheVariants.{NoMemory, Refused}
use Rattle.tap_engine.proofs.Addable.{group_fits, step_fits}
use Rattle.tap_engine.proofs.Counting.{few_sent_most}
use Rattle.tap_engine.proofs.Keeping.{all_still, on, refused_leads, seen, wanting}
use Rattle.tap_engine.proofs.Leading.{copies_group, quiet_leads, sees_group}
use Rattle.tap_engine.proofs.AddedGroups.{follows_within, no_choice, quiet_within, step_may}

-- an engine whose log alone has changed twice has changed in its log alone
pub log_alone : (m n after : Engine) → n ≡ record m { ledger = n.ledger } → after ≡ record n { ledger = after.ledger }
    → after ≡ record m { ledger = after.ledger }
log_alone m n after same then = then ∙ ap (λ (q : Engine). record q { ledger = after.ledger }) same

-- and so has one that is as it was then
pub same_alone : (m n after : Engine) → after ≡ n → n ≡ record m { ledger = n.ledger } → after ≡ record m { ledger = after.ledger }
same_alone m n after still same = still ∙ same ∙ ap (λ (q : Engine). record m { ledger = q.ledger }) (sym still)

-- the group of such a step
abbrev pub group_at : Engine → ℕ → Step → List Record
group_at m index step = step_group m.settings m.ledger.records index step

-- is the step, and what it sees of the nodes of an engine that has only made room
pub seen_group : (m n : Engine) (index : ℕ) (step : Step) (item : Option Record) (group : List Record) → n ≡ record m { ledger = n.ledger }
    → n.ledger.records ≡ m.ledger.records → observes step ≡ true → first_refusal m.ledger.records step ≡ None
    → item ≡ observed n.settings n.ledger.records (system_of n.ledger.records) step → group ≡ StepRecord index step ∷ at_most_one item
    → group ≡ group_at m index step
seen_group m n index step item group same log kind accepted is grows =
    grows
    ∙ ap (λ i. StepRecord index step ∷ at_most_one i)
    (is ∙ ap (λ l. observed n.settings l (system_of l) step) log
    ∙ ap (λ (q : Engine). observed q.settings m.ledger.records (system_of m.ledger.records) step) same)
    ∙ sees_group (seen m).beginning m.ledger.records index step kind accepted

-- or why the copy is no frame
pub copied_group : (m n : Engine) (index : ℕ) (step : Step) (item : Option Record) (group : List Record) → n ≡ record m { ledger = n.ledger }
    → n.ledger.records ≡ m.ledger.records → damages step ≡ true → first_refusal m.ledger.records step ≡ None
    → item ≡ damage_record n.settings n.ledger.records step → group ≡ StepRecord index step ∷ at_most_one item
    → group ≡ group_at m index step
copied_group m n index step item group same log kind accepted is grows =
    grows
    ∙ ap (λ i. StepRecord index step ∷ at_most_one i)
    (is ∙ ap (λ l. damage_record n.settings l step) log ∙ ap (λ (q : Engine). damage_record q.settings m.ledger.records step) same)
    ∙ copies_group (seen m).beginning m.ledger.records index step kind accepted

module _ (m : Engine) (ready : AreReady m) (index : ℕ) (step : Step) where
  -- the step alone may be added
  pub alone_fits : (n : Engine) → n.ledger.records ≡ m.ledger.records → CanAdd n.ledger.records (StepRecord index step ∷ [])
  alone_fits n log =
      subst (λ l. CanAdd l (StepRecord index step ∷ [])) (sym log)
      (step_fits m.ledger.records index step (few_sent_most m ready))

  -- and so may its group
  pub quiet_fits : (n : Engine) (group : List Record) → n.ledger.records ≡ m.ledger.records
      → (observes step ≡ true) ⊎ (damages step ≡ true) → group ≡ group_at m index step → CanAdd n.ledger.records group
  quiet_fits n group log kind is =
      let goes = on m ready in
      let b = (seen m).beginning in
      let all = step_group b.settings m.ledger.records index step in
      let fits = group_fits b m.ledger.records all goes.course goes.going
      (follows_within b m.ledger.records all (step_may b m.ledger.records index step (no_choice step (inr kind)))
      (quiet_within b m.ledger.records goes.course goes.going index step kind)) in
      subst (λ l. CanAdd l group) (sym log) (subst (CanAdd m.ledger.records) (sym is) fits)

  -- such a call leads so
  abbrev pub Leads : Result (Unit {0}) Stop → Engine → Type 0
  Leads given after = LeadsTo (unless_refused (seen m) index step (first_refusal m.ledger.records step)) m given after

  -- memory was refused, and the log stays
  pub short_leads : (after : Engine) → after ≡ record m { ledger = after.ledger } → after.ledger.records ≡ m.ledger.records
      → Leads (Err NoMemory) after
  short_leads after same log =
      wanting (unless_refused (seen m) index step (first_refusal m.ledger.records step)) m after ready
      (ap (λ (q : Engine). q.settings) same) (ap (λ (q : Engine). q.frames) same) log
      (all_still m.overlay after.overlay (ap (λ (q : Engine). q.overlay) same))

  module _ (next : IsNextIndex (seen m) index) (kind : (observes step ≡ true) ⊎ (damages step ≡ true)) (named : HasNames m.settings step)
      (after : Engine) (same : after ≡ record m { ledger = after.ledger }) (three : 3 ≤ after.ledger.spare) where
    -- the step is refused, and is added alone
    pub quiet_refused : (refusal : Refusal) → first_refusal m.ledger.records step ≡ Some refusal
        → after.ledger.records ≡ m.ledger.records ++ StepRecord index step ∷ [] → Leads (Err (Refused refusal)) after
    quiet_refused refusal is log =
        subst (λ r. LeadsTo (unless_refused (seen m) index step r) m (Err (Refused refusal)) after) (sym is)
        (refused_leads m after index step refusal ready
        (record { settings = ap (λ (q : Engine). q.settings) same; frames = ap (λ (q : Engine). q.frames) same; log = log })
        (ap (λ (q : Engine). q.overlay) same) three next is (no_choice step (inr kind)) named)

    -- its group is added
    pub quiet_whole : (group : List Record) → first_refusal m.ledger.records step ≡ None → group ≡ group_at m index step
        → after.ledger.records ≡ m.ledger.records ++ group → Leads (Ok tt) after
    quiet_whole group accepted is log =
        quiet_leads m after index step ready next kind accepted
        (record {
          settings = ap (λ (q : Engine). q.settings) same;
          frames = ap (λ (q : Engine). q.frames) same;
          log = log ∙ ap (λ g. m.ledger.records ++ g) is;
        })
        (ap (λ (q : Engine). q.overlay) same) three named
