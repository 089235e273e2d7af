use Rattle.std.proofs.Common.{◌&&◌, ◌∙◌, ap, arith, get_or, nat_lt, sym, take_all}
use Rattle.std.specs.List.{list_all}
use Rattle.std.proofs.lemmas.List.Folds.{list_all_more}
use Rattle.tap_name.proofs.reading.are_below.Goals as goal

pub loop-at-preserved : goal.loop-at-preserved
loop-at-preserved c =
    let digits = c.args.digits.now in
    let at = c.loop-at.at in
    let base = c.args.base in
    c.both-good.ensures ∙ ap (λ before. before && nat_lt (get_or digits at 0) base) c.loop-at.invariant
    ∙ sym (list_all_more (λ digit. nat_lt digit base) digits at 0 (omega arith))

pub returns : goal.returns
returns c =
    c.loop-at.invariant ∙ ap (list_all (λ digit. nat_lt digit c.args.base)) (take_all c.loop-at.at c.args.digits.now (omega arith))
