use Rattle.std.proofs.Common.{rules}
use Rattle.tap_register.proofs.Places.{search_by_key, place_of_search, gap_of_search}
use Rattle.tap_register.proofs.registers.search.Goals as goal

pub returns-clause-found : goal.returns-clause-found
returns-clause-found g c =
    let cmp = g.K.Ord.cmp in
    let answer = c.binary_search_by in
    place_of_search cmp g.met.K.Ord.total c.args.entries.now c.args.key.now answer.result c.requires answer.ensures.bound
    (search_by_key cmp g.met.K.Ord.total c.args.entries.now c.args.key.now answer.result answer.ensures.position
    (λ a r f called. search rules))

pub returns-clause-absent : goal.returns-clause-absent
returns-clause-absent g c =
    let cmp = g.K.Ord.cmp in
    let answer = c.binary_search_by in
    gap_of_search cmp g.met.K.Ord.total c.args.entries.now c.args.key.now answer.result c.requires answer.ensures.bound
    (search_by_key cmp g.met.K.Ord.total c.args.entries.now c.args.key.now answer.result answer.ensures.position
    (λ a r f called. search rules))
