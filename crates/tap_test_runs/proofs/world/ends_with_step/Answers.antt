use Rattle.std.proofs.Common.{◌-◌, ◌∙◌, length, ap, sym}
use Rattle.std.specs.Prelude.{option_and_then, slice_get}
use Rattle.tap_ledger.proofs.Accepted.{last_at}
use Rattle.tap_engine.specs.Kinds.{begun_index}
use Rattle.tap_log.specs.Log.{last_of}
use Rattle.tap_test_runs.proofs.Lasts.{last_step}
use Rattle.tap_test_runs.proofs.world.ends_with_step.Goals as goal

pub returns-in-Some : goal.returns-in-Some
returns-in-Some c = λ so.
    let whole = c.log.result.now.records in
    let last = c.in-Some.ensures.value ∙ ap (λ l. slice_get l (length l - 1)) c.as_slice.ensures ∙ last_at whole in
    ap (λ l. option_and_then begun_index (last_of l)) (sym c.log.ensures.reduced)
    ∙ last_step whole c.args.index (ap (option_and_then begun_index) (sym last) ∙ sym c.begun_index.ensures ∙ c.is_index.ensures so)
