-- The bytes that came are the next ones.
use Rattle.std.proofs.Common.{◌≡◌, ◌≤◌, ◌+◌, ap, sym, ◌∙◌, take, drop, length, arith, rules, length-append}
use Rattle.tap_io.proofs.Reading.{slice_range-from, length-copied, read_then_rest}
use Rattle.tap_io.proofs.memory_source.MemorySourceSource.read.Goals as goal

pub returns-clause-reads : goal.returns-clause-reads
returns-clause-reads c =
    let bytes = c.self.inside.bytes.items in
    let at = c.self.inside.at in
    let n = c.min-n.result in
    let copy = c.copy_from_slice.new.self in
    let behind = drop n c.args.into.now in
    let within : at + n ≤ length bytes = omega arith in
    let is : copy ≡ take n (drop at bytes) = cc (c.copy_from_slice.ensures.after, c.deref.ensures.value, slice_range-from bytes at n) in
    let len = length-copied bytes copy at n is within in
    record {
      later = omega (arith, ap (λ s. s.calls.faults) c.self.view_is, c.count.ensures.later);
      answer = record {
        at_least_one = omega arith;
        within = omega (arith, length-append copy behind);
        bytes = sym (ap (λ s. s.left) c.self.view_is) ∙ read_then_rest bytes copy behind at n is within;
        faults = search rules;
      };
    }
