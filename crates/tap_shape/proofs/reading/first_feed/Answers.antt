use Rattle.std.proofs.Common.{subst}
use Rattle.memchr.specs.Find.{TakesFirst}
use Rattle.tap_shape.proofs.Feeds.{first_inside, first_of_all}
use Rattle.tap_shape.proofs.reading.first_feed.Goals as goal

pub returns-clause-first : goal.returns-clause-first
returns-clause-first c =
    first_of_all c.args.text.now c.next.new.self c.next.result
    (subst (λ l. TakesFirst l c.next.result c.next.new.self) c.memchr_iter.ensures.value c.next.ensures.steps)

pub returns-clause-inside : goal.returns-clause-inside
returns-clause-inside c =
    first_inside c.args.text.now c.next.result
    (first_of_all c.args.text.now c.next.new.self c.next.result
    (subst (λ l. TakesFirst l c.next.result c.next.new.self) c.memchr_iter.ensures.value c.next.ensures.steps))
