use borrow.Rule.Slice.PartMut.{same_len_mid}
use Rattle.std.proofs.Common.{◌≡◌, ◌∙◌, ℕ, List, ◌+◌, ◌-◌, ◌*◌, ◌++◌, ap, arith, drop, take}
use Rattle.tap_name.specs.Packed.{joined}
use Rattle.tap_host_line.proofs.Hexes.{next_joined}
use Rattle.tap_host_line.proofs.hexadecimal.put_blocks.Goals as goal

pub loop-block-preserved : goal.loop-block-preserved
loop-block-preserved c =
    let was = c.loop-block.invariant in
    let from : ℕ = 32 * c.loop-block.block in
    let width : ℕ = from + 32 - from in
    let values : List ℕ = c.args.values.now in
    let places : List ℕ = c.loop-block.places in
    let block : List ℕ = c.put_joined.new.pairs in
    let two : 2 * from + 64 - 2 * from ≡ 64 = omega arith in
    let next : 32 * (c.loop-block.block + 1) ≡ from + 32 = omega arith in
    let twice : 2 * from + 64 ≡ 2 * (32 * (c.loop-block.block + 1)) = omega arith in
    record {
      room = same_len_mid from width places block c.put_joined.auto.pairs ∙ was.room;
      put = ap (λ n. take n (take from places ++ (block ++ drop width (drop from places)))) next
          ∙ next_joined values places block (drop width (drop from places)) from (omega (arith, was.room)) (omega (arith, was.room))
          (omega (arith, c.put_joined.auto.pairs, was.room)) was.put
          (c.put_joined.ensures ∙ ap (λ n. joined (take n (drop (2 * from) values))) two)
          ∙ ap (λ n. joined (take n values)) twice;
    }
