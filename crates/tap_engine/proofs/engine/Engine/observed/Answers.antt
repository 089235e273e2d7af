use Rattle.std.proofs.Common.{◌≡◌, None, Some, ap, sym, subst, ◌∙◌}
use Rattle.std.specs.Option.{option_map}
use Rattle.tap_name.specs.Root.{root}
use Rattle.tap_scenario.specs.declared.step.Step.TheVariants.{Pointers, Table}
use Rattle.tap_log.specs.declared.record.Record.{Record}
use Rattle.tap_log.specs.declared.record.Record.TheVariants.{RootOf}
use Rattle.tap_history.specs.Core.{core_of}
use Rattle.tap_history.specs.Refusals.{first_refusal}
use Rattle.tap_runs.specs.Course.{system_of}
use Rattle.tap_runs.specs.Observed.{observed}
use Rattle.tap_engine.proofs.Seeing.{asked_linked, asked_there, asks_pairs, asks_table, core_named, held_so, lent_runs, rooted_so, some_core, tabled_so, walked_so, walks_from}
use Rattle.tap_engine.proofs.Taking.{if_ok}
use Rattle.tap_engine.proofs.engine.Engine.observed.Goals as goal

pub walk_path-requires-clause-from : goal.walk_path-requires-clause-from
walk_path-requires-clause-from c =
    let m = c.args.self.now in
    walks_from m c.requires.ready c.in-Walk.object c.in-Walk.asker
    (subst (λ s. first_refusal m.ledger.records s ≡ None) c.in-Walk.is c.requires.accepted)

pub root-requires-clause-core : goal.root-requires-clause-core
root-requires-clause-core c = core_named c.args.self.now c.requires.ready

pub root-requires-clause-some : goal.root-requires-clause-some
root-requires-clause-some c = some_core c.args.self.now c.requires.ready

pub asked-requires : goal.asked-requires
asked-requires c =
    let m = c.args.self.now in
    let name = c.in-Table.name in
    asked_there m c.requires.ready (Table name) name (asks_table name)
    (subst (λ s. first_refusal m.ledger.records s ≡ None) c.in-Table.is c.requires.accepted)

pub asked-requires-in-Pointers : goal.asked-requires-in-Pointers
asked-requires-in-Pointers c =
    let m = c.args.self.now in
    let name = c.in-Pointers.name in
    asked_there m c.requires.ready (Pointers name) name (asks_pairs name)
    (subst (λ s. first_refusal m.ledger.records s ≡ None) c.in-Pointers.is c.requires.accepted)

pub table_record-requires-clause-runs : goal.table_record-requires-clause-runs
table_record-requires-clause-runs c = lent_runs c.args.self.now c.requires.ready c.in-Table.name c.asked.result.now c.asked.ensures

pub table_record-requires-clause-linked : goal.table_record-requires-clause-linked
table_record-requires-clause-linked c =
    let m = c.args.self.now in
    let name = c.in-Table.name in
    asked_linked m c.requires.ready (Table name) name (asks_table name)
    (subst (λ s. first_refusal m.ledger.records s ≡ None) c.in-Table.is c.requires.accepted) c.asked.result.now c.asked.ensures

pub pointers_record-requires-clause-runs : goal.pointers_record-requires-clause-runs
pointers_record-requires-clause-runs c =
    lent_runs c.args.self.now c.requires.ready c.in-Pointers.name c.asked-in-Pointers.result.now c.asked-in-Pointers.ensures

pub pointers_record-requires-clause-linked : goal.pointers_record-requires-clause-linked
pointers_record-requires-clause-linked c =
    let m = c.args.self.now in
    let name = c.in-Pointers.name in
    asked_linked m c.requires.ready (Pointers name) name (asks_pairs name)
    (subst (λ s. first_refusal m.ledger.records s ≡ None) c.in-Pointers.is c.requires.accepted) c.asked-in-Pointers.result.now
    c.asked-in-Pointers.ensures

pub returns-in_ok-walk_path-in-Walk : goal.returns-in_ok-walk_path-in-Walk
returns-in_ok-walk_path-in-Walk c =
    let m = c.args.self.now in
    walked_so m c.requires.ready c.in-Walk.object c.in-Walk.asker c.in_ok-walk_path-in-Walk.field-0 c.in_ok-walk_path-in-Walk.ensures
    ∙ ap (observed m.settings m.ledger.records (system_of m.ledger.records)) (sym c.in-Walk.is)

pub returns-in-Root : goal.returns-in-Root
returns-in-Root c =
    let m = c.args.self.now in
    let object = c.in-Root.object in
    if_ok (λ (item : Record). Some item ≡ option_map (RootOf object) (root m.settings.base (core_of m.ledger.records) object))
    (λ item. Some item ≡ observed m.settings m.ledger.records (system_of m.ledger.records) c.args.step.now)
    (λ item is. rooted_so m c.requires.ready object (Some item) is
    ∙ ap (observed m.settings m.ledger.records (system_of m.ledger.records)) (sym c.in-Root.is))
    c.root.result c.root.ensures

pub returns-in_ok-table_record-in-Table : goal.returns-in_ok-table_record-in-Table
returns-in_ok-table_record-in-Table c =
    let m = c.args.self.now in
    tabled_so m c.requires.ready c.in-Table.name c.asked.result.now (Some c.in_ok-table_record-in-Table.field-0) c.asked.ensures
    c.in_ok-table_record-in-Table.ensures
    ∙ ap (observed m.settings m.ledger.records (system_of m.ledger.records)) (sym c.in-Table.is)

pub returns-in_ok-pointers_record-in-Pointers : goal.returns-in_ok-pointers_record-in-Pointers
returns-in_ok-pointers_record-in-Pointers c =
    let m = c.args.self.now in
    held_so m c.requires.ready c.in-Pointers.name c.asked-in-Pointers.result.now (Some c.in_ok-pointers_record-in-Pointers.field-0)
    c.asked-in-Pointers.ensures (ap (λ i. Some i) c.in_ok-pointers_record-in-Pointers.ensures)
    ∙ ap (observed m.settings m.ledger.records (system_of m.ledger.records)) (sym c.in-Pointers.is)
