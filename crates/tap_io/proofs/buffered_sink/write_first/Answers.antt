use Rattle.std.proofs.Common.{◌∙◌, refl, arith}
use Rattle.std.proofs.KnownBytes.{Appends-kept, Appends-nil}
use Rattle.tap_io.proofs.Following.{Follows-refl, Follows-trans}
use Rattle.tap_io.proofs.Writing.{next_write}
use Rattle.tap_io.proofs.buffered_sink.write_first.Goals as goal

pub loop-count-preserved : goal.loop-count-preserved
loop-count-preserved g c =
    let so_far = c.loop-count.invariant in
    let took = c.in-Took.ensures.answer in
    record {
      within = omega (arith, took.within);
      appends = next_write _ _ _ c.args.bytes.now c.loop-count.count c.in-Took.n so_far.appends took.appends (omega (arith, took.within));
      follows = Follows-trans _ _ _ so_far.follows c.in-Took.ensures.follows;
      faults = took.faults ∙ so_far.faults;
    }

pub loop-count-init : goal.loop-count-init
loop-count-init g c =
    let state = g.K.Sink.state c.args.sink.now in
    record { within = omega arith; appends = Appends-nil state.held; follows = Follows-refl state; faults = refl }

pub returns-in-Failed : goal.returns-in-Failed
returns-in-Failed g c =
    let so_far = c.loop-count.invariant in
    let failed = c.in-Failed.ensures.answer in
    record {
      within = so_far.within;
      appends = Appends-kept _ _ _ _ so_far.appends failed.kept;
      follows = Follows-trans _ _ _ so_far.follows c.in-Failed.ensures.follows;
      whole = λ all. absurd (omega arith);
      short = λ h k. failed.risen (omega arith);
    }
