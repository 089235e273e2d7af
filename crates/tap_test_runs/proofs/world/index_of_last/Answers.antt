use Rattle.std.proofs.Common.{◌∙◌, None, ap, sym}
use Rattle.std.specs.Prelude.{unwrap_or}
use Rattle.std.specs.List.{last_or}
use Rattle.tap_engine.specs.Kinds.{last_index}
use Rattle.tap_test_runs.proofs.Lasts.{begun_plain}
use Rattle.tap_test_runs.proofs.world.index_of_last.Goals as goal

pub returns : goal.returns
returns c =
    c.last_index.ensures ∙ ap last_index c.as_slice.ensures
    ∙ sym (ap (λ l. unwrap_or (last_or None l) 0) (begun_plain c.log.result.now.records)) ∙ ap last_index c.log.ensures.reduced
