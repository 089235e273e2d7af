use Rattle.std.proofs.Common.{arith}
use Rattle.tap_judge.proofs.Causes.{few_records}
use Rattle.tap_judge.proofs.top.judge_each_line.Goals as goal

pub judge-requires-clause-few : goal.judge-requires-clause-few
judge-requires-clause-few c = few_records c.args.bytes.items c.in-Ok.log.records c.requires.few c.in-Ok.ensures.log

pub overflow_cast-result : goal.overflow_cast-result
overflow_cast-result c =
    let few = few_records c.args.bytes.items c.in-Ok.log.records c.requires.few c.in-Ok.ensures.log in
    let size = c.len.ensures in
    omega (arith, few, size)
