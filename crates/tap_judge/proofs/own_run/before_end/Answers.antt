use Rattle.std.proofs.Common.{rules, tests, ◌∙◌, ap, take}
use Rattle.std.proofs.lemmas.Iterator.{YieldsList-from_slice}
use Rattle.std.proofs.lemmas.Iterator.Consumers.{count_from_yields_List}
use Rattle.std.proofs.lemmas.Iterator.Search.{YieldsList-from_take_while}
use Rattle.std.proofs.lemmas.List.Folds.{length-prefix_len}
use Rattle.tap_own_scripts.specs.Own.{goes_on}
use Rattle.tap_judge.proofs.own_run.before_end.Goals as goal

pub returns : goal.returns
returns c =
    ap (λ n. take n c.args.items.now)
    (count_from_yields_List c.take_while.result _ c.count-count.ensures.ran
    (YieldsList-from_take_while _ goes_on (YieldsList-from_slice c.args.items.now (cc)) c.take_while.ensures.closure c.take_while.ensures.done
    (λ x b q k. search (rules, tests)))
    ∙ length-prefix_len goes_on c.args.items.now)
