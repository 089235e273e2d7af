use Rattle.std.proofs.Common.{sym}
use Rattle.tap_link.proofs.Search.{found_as, absent-kind_of}
use Rattle.tap_link.proofs.set.LinkSet.kind_of.Goals as goal

pub returns-in-Ok-clause-kind : goal.returns-in-Ok-clause-kind
returns-in-Ok-clause-kind g c =
    rw (← c.self.view_is) (sym (found_as g.K.Ord.cmp c.self.inside.places c.args.target c.in-Ok.at c.link_at.result.now c.kind.result
    c.in-Ok.ensures.found c.link_at.ensures c.kind.ensures))

pub returns-in-Err-clause-kind : goal.returns-in-Err-clause-kind
returns-in-Err-clause-kind g c =
    rw (← c.self.view_is) (sym (absent-kind_of g.K.Ord.cmp c.self.inside.places c.args.target c.in-Err.field-0 c.in-Err.ensures.absent))
