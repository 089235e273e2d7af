use Rattle.std.proofs.Common.{◌∙◌, ap, refl, arith, None, false}
use Rattle.tap_runs.specs.Beginning.{Beginning}
use Rattle.tap_ledger.specs.Ledger.{LedgerValue}
use Rattle.tap_engine.specs.declared.engine.Engine.{Engine}
use Rattle.tap_world.proofs.Nodes.{begun_kept, has_begun}
use Rattle.tap_engine.proofs.HeadlineOfWorld.{kept_headline}
use Rattle.tap_world.proofs.world.World.new.Goals as goal

pub invariant_of-result : goal.invariant_of-result
invariant_of-result c =
    let b : Beginning = record { settings = c.args.settings.now; frames = c.args.frames; members = c.args.members.now } in
    begun_kept b c.requires _ refl refl (c.in_ok-reserve.ensures.records ∙ ap (λ (l : LedgerValue). l.records) c.in_ok-ledger.ensures)
    c.in_ok-overlay.ensures (c.in_ok-reserve.ensures.added ∙ ap (λ (l : LedgerValue). l.added) c.in_ok-ledger.ensures) (omega (arith, c.in_ok-reserve.ensures.ok))

pub returns-clause-begun : goal.returns-clause-begun
returns-clause-begun c =
    let b : Beginning = record { settings = c.args.settings.now; frames = c.args.frames; members = c.args.members.now } in
    let engine : Engine = record {
      alloc = c.args.alloc;
      settings = c.args.settings.now;
      frames = c.args.frames;
      ledger = c.reserve.new.self;
      overlay = c.in_ok-overlay.overlay;
    } in
    has_begun b c.requires engine refl refl (c.in_ok-reserve.ensures.records ∙ ap (λ (l : LedgerValue). l.records) c.in_ok-ledger.ensures)
    c.in_ok-overlay.ensures (c.in_ok-reserve.ensures.added ∙ ap (λ (l : LedgerValue). l.added) c.in_ok-ledger.ensures) (omega (arith, c.in_ok-reserve.ensures.ok))

pub returns-clause-headline : goal.returns-clause-headline
returns-clause-headline c =
    let b : Beginning = record { settings = c.args.settings.now; frames = c.args.frames; members = c.args.members.now } in
    let engine : Engine = record {
      alloc = c.args.alloc;
      settings = c.args.settings.now;
      frames = c.args.frames;
      ledger = c.reserve.new.self;
      overlay = c.in_ok-overlay.overlay;
    } in
    kept_headline engine None false
    (begun_kept b c.requires engine refl refl (c.in_ok-reserve.ensures.records ∙ ap (λ (l : LedgerValue). l.records) c.in_ok-ledger.ensures)
    c.in_ok-overlay.ensures (c.in_ok-reserve.ensures.added ∙ ap (λ (l : LedgerValue). l.added) c.in_ok-ledger.ensures) (omega (arith, c.in_ok-reserve.ensures.ok)))
