use Rattle.std.proofs.Common.{◌≡◌, inl, ℕ, false, Some, None, List, [], ◌∷◌, ◌++◌, Err, ap, sym, subst, ◌∙◌, arith}
use Rattle.std.proofs.lemmas.Result.{err_from_is_err_and}
use Rattle.tap_name.specs.Settings.{SettingsValue}
use Rattle.tap_scenario.specs.Step.{IsStep}
use Rattle.tap_log.specs.declared.record.Record.{Record}
use Rattle.tap_log.specs.declared.record.Record.TheVariants.{Spent, Step as StepRecord}
use Rattle.tap_log.specs.Counts.{sent_count}
use Rattle.tap_log.specs.MoreRecords.{at_most_one}
use Rattle.tap_history.specs.Core.{members_of}
use Rattle.tap_history.specs.Refusals.{first_refusal}
use Rattle.tap_ledger.specs.Added.{CanAdd}
use Rattle.tap_engine.specs.KeptEngine.{LeadsTo}
use Rattle.tap_engine.specs.Outcome.{WorldOutcome, unless_refused}
use Rattle.tap_engine.specs.Working.{StillHas}
use Rattle.tap_engine.specs.declared.engine.Engine.{Engine}
use Rattle.tap_engine.specs.declared.stop.Stop.TheVariants.{Refused}
use Rattle.tap_engine.proofs.Addable.{spent_fits, step_fits, step_sent}
use Rattle.tap_engine.proofs.Counting.{can_add_turn, few_sent, few_sent_most, started_sent}
use Rattle.tap_engine.proofs.Keeping.{refused_leads, seen, wanting}
use Rattle.tap_engine.proofs.Leading.{lead_from, next_still, reserved_ready, start_leads, start_may}
use Rattle.tap_runs.proofs.StepNames.{step_has_names}
use Rattle.tap_engine.proofs.QuietGroups.{short_leads}
use Rattle.tap_engine.proofs.AddedGroups.{no_choice}
use Rattle.tap_engine.proofs.engine.Engine.start.Goals as goal

pub returns-in_err-refusal-clause-leads : goal.returns-in_err-refusal-clause-leads
returns-in_err-refusal-clause-leads c =
    let made = err_from_is_err_and c.from_residual.result c.from_residual.ensures.1 in
    rw (made.1, made.2)
    (short_leads c.args.self.now c.requires.ready c.args.index c.args.step.now c.refusal_of.new.self c.refusal_of.ensures.same
    c.refusal_of.ensures.log)

pub add_step-requires-clause-can_add : goal.add_step-requires-clause-can_add
add_step-requires-clause-can_add c =
    let m = c.args.self.now in
    subst (λ l. CanAdd l (StepRecord c.args.index c.args.step.now ∷ [])) (sym c.refusal_of.ensures.log)
    (step_fits m.ledger.records c.args.index c.args.step.now (few_sent_most m c.requires.ready))

pub returns-in-Some-clause-leads : goal.returns-in-Some-clause-leads
returns-in-Some-clause-leads c =
    let m = c.args.self.now in
    let after = c.add_step.new.self in
    let same = c.add_step.ensures.same in
    let was = c.refusal_of.ensures.same in
    let step = c.args.step.now in
    let is : first_refusal m.ledger.records step ≡ Some c.in-Some.refusal = sym c.in_ok-refusal.ensures.refusal ∙ c.in-Some.is in
    subst (λ r. LeadsTo (unless_refused (seen m) c.args.index step r) m (Err (Refused c.in-Some.refusal)) after) (sym is)
    (refused_leads m after c.args.index step c.in-Some.refusal c.requires.ready
    (record {
      settings = ap (λ (q : Engine). q.settings) same ∙ ap (λ (q : Engine). q.settings) was;
      frames = ap (λ (q : Engine). q.frames) same ∙ ap (λ (q : Engine). q.frames) was;
      log = c.add_step.ensures.log ∙ ap (λ l. l ++ StepRecord c.args.index step ∷ []) c.refusal_of.ensures.log;
    })
    (ap (λ (q : Engine). q.overlay) same ∙ ap (λ (q : Engine). q.overlay) was)
    (omega (arith, c.add_step.ensures.spare, c.in_ok-refusal.ensures.room)) c.requires.next is (no_choice step (inl c.requires.kind)) (step_has_names m.settings step c.requires.names))

pub announced-requires-clause-ready : goal.announced-requires-clause-ready
announced-requires-clause-ready c =
    reserved_ready c.args.self.now c.refusal_of.new.self c.requires.ready c.refusal_of.ensures.same c.refusal_of.ensures.log
    c.in_ok-refusal.ensures.room

pub returns-in_err-item-clause-leads : goal.returns-in_err-item-clause-leads
returns-in_err-item-clause-leads c =
    let made = err_from_is_err_and c.from_residual-in_err-item.result c.from_residual-in_err-item.ensures.1 in
    rw (made.1, made.2)
    (short_leads c.args.self.now c.requires.ready c.args.index c.args.step.now c.refusal_of.new.self c.refusal_of.ensures.same
    c.refusal_of.ensures.log)

pub begin-requires-clause-ready : goal.begin-requires-clause-ready
begin-requires-clause-ready c =
    reserved_ready c.args.self.now c.refusal_of.new.self c.requires.ready c.refusal_of.ensures.same c.refusal_of.ensures.log
    c.in_ok-refusal.ensures.room

pub returns-in_err-acted-clause-leads : goal.returns-in_err-acted-clause-leads
returns-in_err-acted-clause-leads c =
    let m = c.args.self.now in
    let n = c.begin.new.self in
    let was = c.refusal_of.ensures.same in
    let same = c.begin.ensures.same in
    let made = err_from_is_err_and c.from_residual-in_err-acted.result c.from_residual-in_err-acted.ensures.1 in
    rw (made.1, made.2)
    (wanting (unless_refused (seen m) c.args.index c.args.step.now (first_refusal m.ledger.records c.args.step.now)) m n c.requires.ready
    (ap (λ (q : Engine). q.settings) same ∙ ap (λ (q : Engine). q.settings) was)
    (ap (λ (q : Engine). q.frames) same ∙ ap (λ (q : Engine). q.frames) was)
    (ap (λ (q : Engine). q.ledger.records) same ∙ c.refusal_of.ensures.log)
    (subst (λ o. StillHas o n.overlay) (ap (λ (q : Engine). q.overlay) was) c.begin.ensures.still))

pub add_started-requires-clause-sent : goal.add_started-requires-clause-sent
add_started-requires-clause-sent c =
    let was = c.refusal_of.ensures.same in
    let same = c.begin.ensures.same in
    let records = ap (λ (q : Engine). sent_count q.ledger.records) same ∙ ap sent_count c.refusal_of.ensures.log in
    let frames = ap (λ (q : Engine). q.frames) same ∙ ap (λ (q : Engine). q.frames) was in
    let few = few_sent c.args.self.now c.requires.ready in
    omega (arith, records, frames, few)

pub add_started-requires-clause-step : goal.add_started-requires-clause-step
add_started-requires-clause-step c =
    let m = c.args.self.now in
    subst (λ l. CanAdd l (StepRecord c.args.index c.args.step.now ∷ []))
    (sym (ap (λ (q : Engine). q.ledger.records) c.begin.ensures.same ∙ c.refusal_of.ensures.log))
    (step_fits m.ledger.records c.args.index c.args.step.now (few_sent_most m c.requires.ready))

pub add_started-requires-clause-spent : goal.add_started-requires-clause-spent
add_started-requires-clause-spent c =
    let m = c.args.self.now in
    let step : List Record = StepRecord c.args.index c.args.step.now ∷ [] in
    let few = few_sent_most m c.requires.ready in
    let none = step_sent m.ledger.records c.args.index c.args.step.now in
    subst (λ l. CanAdd (l ++ step) (Spent c.begin.new.self.frames ∷ []))
    (sym (ap (λ (q : Engine). q.ledger.records) c.begin.ensures.same ∙ c.refusal_of.ensures.log))
    (spent_fits (m.ledger.records ++ step) c.begin.new.self.frames (omega (arith, few, none)))

pub add_started-requires-clause-can_add : goal.add_started-requires-clause-can_add
add_started-requires-clause-can_add c =
    let m = c.args.self.now in
    let n = c.refusal_of.new.self in
    let q = c.begin.new.self in
    let step = c.args.step.now in
    let log = c.refusal_of.ensures.log in
    let ready = reserved_ready m n c.requires.ready c.refusal_of.ensures.same log c.in_ok-refusal.ensures.room in
    let next = next_still m n c.args.index log c.requires.next in
    let names : IsStep n.settings false step =
    subst (λ p. IsStep p false step) (sym (ap (λ (q : Engine). q.settings) c.refusal_of.ensures.same)) c.requires.names in
    let accepted : first_refusal n.ledger.records step ≡ None =
    ap (λ l. first_refusal l step) log ∙ sym c.in_ok-refusal.ensures.refusal ∙ c.in_default.is in
    let first : List Record = StepRecord c.args.index step ∷ at_most_one c.in_ok-item.item in
    let first_is = ap (λ l. StepRecord c.args.index step ∷ l) c.in_ok-item.ensures in
    let same = c.begin.ensures.same in
    can_add_turn n q first c.in_ok-acted.acted ready (ap (λ (x : Engine). x.settings) same) (ap (λ (x : Engine). x.frames) same)
    (ap (λ (x : Engine). x.ledger.records) same) (started_sent n.ledger.records c.args.index step first first_is)
    (start_may n q ready c.args.index step next c.requires.kind accepted names c.in_ok-acted.acted first c.in_ok-acted.ensures.begun
    c.begin.ensures.still first_is)

pub returns-clause-leads : goal.returns-clause-leads
returns-clause-leads c =
    let m = c.args.self.now in
    let n = c.refusal_of.new.self in
    let q = c.begin.new.self in
    let step = c.args.step.now in
    let log = c.refusal_of.ensures.log in
    let ready = reserved_ready m n c.requires.ready c.refusal_of.ensures.same log c.in_ok-refusal.ensures.room in
    let next = next_still m n c.args.index log c.requires.next in
    let names : IsStep n.settings false step =
    subst (λ p. IsStep p false step) (sym (ap (λ (q : Engine). q.settings) c.refusal_of.ensures.same)) c.requires.names in
    let accepted : first_refusal n.ledger.records step ≡ None =
    ap (λ l. first_refusal l step) log ∙ sym c.in_ok-refusal.ensures.refusal ∙ c.in_default.is in
    let first : List Record = StepRecord c.args.index step ∷ at_most_one c.in_ok-item.item in
    let first_is = ap (λ l. StepRecord c.args.index step ∷ l) c.in_ok-item.ensures in
    let of : SettingsValue → ℕ → List Record → WorldOutcome = λ p f l. unless_refused (record {
      beginning = record { settings = p; frames = f; members = members_of l };
      log = l;
      added = [];
      refused = None;
      stopped = false;
      nodes = [];
    }) c.args.index step (first_refusal l step) in
    lead_from of m n c.add_started.new.self c.add_started.result (ap (λ (x : Engine). x.settings) c.refusal_of.ensures.same)
    (ap (λ (x : Engine). x.frames) c.refusal_of.ensures.same) log (ap (λ (x : Engine). x.overlay) c.refusal_of.ensures.same)
    (start_leads n q c.add_started.new.self ready c.args.index step next c.requires.kind accepted names c.in_ok-acted.acted first
    c.add_started.result c.begin.ensures.same c.in_ok-acted.ensures.begun c.begin.ensures.still first_is c.add_started.ensures.logs)
