use Rattle.std.proofs.Common.{◌++◌, ◌∙◌, arith, length-append, length-take-le, take}
use Rattle.std.proofs.lemmas.List.{length-take}
use Rattle.std.proofs.KnownBytes.{Consumes-trans}
use Rattle.tap_io.proofs.all_bytes.read_all.Goals as goal

pub returns-then-n-most-clause-too_long : goal.returns-then-n-most-clause-too_long
returns-then-n-most-clause-too_long g c = λ _.
    let so_far = c.loop-bytes.invariant in
    let got = c.in-Got.ensures.answer in
    let piece = take c.in-Got.n c.read.new.into in
    record {
      bytes = c.loop-bytes.bytes.items ++ piece;
      count = omega (
        arith,
        got.within,
        length-append c.loop-bytes.bytes.items piece,
        length-take-le c.in-Got.n c.read.new.into got.within,
        length-take c.min-wanted.result c.loop-bytes.piece,
      );
      consumes = Consumes-trans _ _ _ _ _ so_far.consumes got.bytes;
      faults = got.faults ∙ so_far.faults;
    }

pub returns-in_err-extend_from_slice-in-Got-clause-no_memory : goal.returns-in_err-extend_from_slice-in-Got-clause-no_memory
returns-in_err-extend_from_slice-in-Got-clause-no_memory g c = λ _.
    let so_far = c.loop-bytes.invariant in
    let got = c.in-Got.ensures.answer in
    let piece = take c.in-Got.n c.read.new.into in
    record {
      read = record {
        bytes = c.loop-bytes.bytes.items ++ piece;
        within = omega (
          arith,
          got.within,
          so_far.within,
          length-append c.loop-bytes.bytes.items piece,
          length-take-le c.in-Got.n c.read.new.into got.within,
        );
        consumes = Consumes-trans _ _ _ _ _ so_far.consumes got.bytes;
      };
      faults = got.faults ∙ so_far.faults;
    }
