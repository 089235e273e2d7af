use Rattle.std.proofs.Common.{◌≡◌, ◌∙◌, Bool, true, false, not, ap, sym, refl}
use Rattle.std.specs.Prelude.{IsTrue}
use Rattle.std.specs.List.{list_any}
use Rattle.tap_engine.specs.Kinds.{finishes_run, is_finished}
use Rattle.tap_test_runs.proofs.Lasts.{unfinished_plain}
use Rattle.tap_test_runs.proofs.world.is_over.Goals as goal

none : (found : Bool) → IsTrue (not found) → found ≡ false
none true so = absurd (cc)
none false so = refl

pub returns : goal.returns
returns c = λ so.
    let whole = c.log.result.now.records in
    let found : list_any finishes_run whole ≡ false =
    ap (list_any finishes_run) (sym c.as_slice.ensures) ∙ sym c.has_finished.ensures ∙ none c.has_finished.result so in
    ap is_finished (sym c.log.ensures.reduced) ∙ unfinished_plain whole found
