use Rattle.std.proofs.Common.{◌≡◌, ◌≤◌, arith}
use Rattle.std.specs.declared.cmp.Ordering.TheVariants.{Less, Equal, Greater}
use Rattle.tap_link.proofs.Search.{above_from, below_after, found_here}
use Rattle.tap_link.proofs.places.Places.search.Goals as goal

pub loop-low-preserved-in-Less : goal.loop-low-preserved-in-Less
loop-low-preserved-in-Less g c =
    let less : g.K.Ord.cmp c.args.target.now c.link_at.result.now.target ≡ Less = cc in
    record {
      ordered = omega arith;
      within = omega (arith, c.loop-low.invariant.within);
      below = c.loop-low.invariant.below;
      above = above_from g.K.Ord.cmp g.met.K.Ord.total c.args.self.now c.args.target.now _ c.link_at.result.now c.requires
          c.link_at.ensures less;
    }

pub returns-in-Equal-clause-found : goal.returns-in-Equal-clause-found
returns-in-Equal-clause-found g c =
    let same : g.K.Ord.cmp c.args.target.now c.link_at.result.now.target ≡ Equal = cc in
    found_here g.K.Ord.cmp g.met.K.Ord.total c.args.self.now c.args.target.now _ c.link_at.result.now c.requires c.link_at.ensures same

pub loop-low-preserved : goal.loop-low-preserved
loop-low-preserved g c =
    let greater : g.K.Ord.cmp c.args.target.now c.link_at.result.now.target ≡ Greater = cc in
    record {
      ordered = omega (arith, c.loop-low-test.true);
      within = c.loop-low.invariant.within;
      below = below_after g.K.Ord.cmp g.met.K.Ord.total c.args.self.now c.args.target.now _ c.link_at.result.now c.requires
          c.link_at.ensures greater;
      above = c.loop-low.invariant.above;
    }

pub returns-clause-absent : goal.returns-clause-absent
returns-clause-absent g c =
    let end : c.loop-low.high ≤ c.loop-low.low = c.loop-low-test.false in
    record {
      within = omega (arith, c.loop-low.invariant.ordered, c.loop-low.invariant.within);
      below = c.loop-low.invariant.below;
      above = λ k d ge h. c.loop-low.invariant.above k d (omega arith) h;
    }
