use Rattle.std.proofs.Common.{◌+◌, ◌++◌, List, ℕ, length, arith, ap, ◌∙◌}
use Rattle.tap_link.specs.LinkSet.{LinkSetValue}
use Rattle.tap_table.specs.Table.{links_at}
use Rattle.tap_table.specs.ByName.{targets_of}
use Rattle.tap_table.specs.Ties.{off_ties}
use Rattle.tap_table.proofs.LinksByName.{links_in}
use Rattle.tap_table.proofs.Stepping.{from_digit, slot_of_range}
use Rattle.tap_table.proofs.LinksByName.{numbers_left, targets_in_slots, words_left}
use Rattle.tap_table.proofs.off.push_range.Goals as goal

pub push_links-requires : goal.push_links-requires
push_links-requires c =
    let t = c.args.table.now in
    let range = c.args.range in
    let digit = c.loop-digit.digit in
    let here = targets_of (links_at t (slot_of_range range digit)) in
    let rest = targets_of (links_in t (from_digit range (digit + 1))) in
    let slot = ap (λ (s : LinkSetValue (List ℕ)). length (targets_of s.links)) c.slot.ensures in
    let numbers = numbers_left c.loop-digit.stamp here rest (targets_of (links_in t (from_digit range digit)))
    (targets_in_slots t range digit c.loop-digit-test.true) (c.args.stamp.now + length (targets_of (links_in t range)))
    c.loop-digit.invariant.0 in
    omega (arith, slot, numbers, c.requires.numbers)

pub loop-digit-preserved : goal.loop-digit-preserved
loop-digit-preserved c =
    let t = c.args.table.now in
    let range = c.args.range in
    let digit = c.loop-digit.digit in
    let stamp = c.loop-digit.stamp in
    let here = targets_of (links_at t (slot_of_range range digit)) in
    let rest = targets_of (links_in t (from_digit range (digit + 1))) in
    let left = targets_of (links_in t (from_digit range digit)) in
    let all = targets_of (links_in t range) in
    let parts = targets_in_slots t range digit c.loop-digit-test.true in
    let slot = ap (λ (s : LinkSetValue (List ℕ)). targets_of s.links) c.slot.ensures in
    let stamped = c.in_ok-push_links.ensures.stamped ∙ ap (λ names. stamp + length names) slot in
    let pushed = c.in_ok-push_links.ensures.value ∙ ap (λ names. c.loop-digit.words.items ++ off_ties stamp names) slot in (
      rw stamped (numbers_left stamp here rest left parts (c.args.stamp.now + length all) c.loop-digit.invariant.0),
      rw (pushed, stamped) (words_left stamp here rest left parts c.loop-digit.words.items
          (c.args.words.now.items ++ off_ties c.args.stamp.now all) c.loop-digit.invariant.1),
      omega (arith, stamped, c.loop-digit.invariant.2),
    )

-- memory was refused on the way
pub returns-in_err-push_links-clause-given : goal.returns-in_err-push_links-clause-given
returns-in_err-push_links-clause-given c =
    let t = c.args.table.now in
    let range = c.args.range in
    let digit = c.loop-digit.digit in
    let here = targets_of (links_at t (slot_of_range range digit)) in
    let rest = targets_of (links_in t (from_digit range (digit + 1))) in
    let slot = ap (λ (s : LinkSetValue (List ℕ)). length (targets_of s.links)) c.slot.ensures in
    let numbers = numbers_left c.loop-digit.stamp here rest (targets_of (links_in t (from_digit range digit)))
    (targets_in_slots t range digit c.loop-digit-test.true) (c.args.stamp.now + length (targets_of (links_in t range)))
    c.loop-digit.invariant.0 in
    let given = c.push_links.ensures.given in
    record {
      forward = omega (arith, given.forward, c.loop-digit.invariant.2);
      few = omega (arith, given.few, slot, numbers);
    }
