use Rattle.std.proofs.Common.{◌∙◌, ap, sym}
use Rattle.std.specs.Result.{result_ok}
use Rattle.tap_line.specs.Front.{names_before}
use Rattle.tap_line.proofs.Gathered.{after_names, names_next}
use Rattle.tap_line.proofs.paths.take_names.Goals as goal

pub loop-word-preserved : goal.loop-word-preserved
loop-word-preserved c =
    let p = c.args.settings.now in
    let stop = c.args.stop.now in
    let names = c.loop-word.names in
    let left = c.next.new.self in
    let other = sym c.is_same.ensures ∙ c.if-is_same.false in
    let read = ap result_ok (sym c.read_name.ensures.value ∙ c.in-Ok.is) in
    c.loop-word.invariant ∙ ap (λ words. after_names names (names_before p stop words)) c.in-Some.ensures
    ∙ names_next p stop c.in-Some.word.now c.in-Ok.name names left other read
    ∙ ap (λ all. after_names all (names_before p stop left)) (sym c.in_ok-push-in-Ok.ensures.ok)
