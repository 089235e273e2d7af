use Rattle.std.proofs.Common.{◌≡◌, true, sym, ◌∙◌}
use Rattle.tap_test_runs.proofs.Lasts.{may_note}
use Rattle.tap_test_runs.proofs.world.note.Goals as goal

pub note-requires : goal.note-requires
note-requires g c =
    let ends : c.ends_with_step.result ≡ true = search in
    may_note c.args.index c.expect-refusal.result c.args.world.now (c.ends_with_step.ensures ends)
    (sym c.refused.ensures ∙ c.expect-refusal.ensures)
