use Rattle.std.proofs.Common.{◌≡◌, ℕ, ◌+◌, ◌*◌, ◌<◌, get_or, take, arith}
use Rattle.tap_name.specs.Packed.{halves}
use Rattle.tap_name.proofs.Heads.{sixteen_digits}
use Rattle.tap_name.proofs.Packed.{pair_in_place}
use Rattle.tap_name.proofs.name.Name.head.Goals as goal

pub returns-clause-value : goal.returns-clause-value
returns-clause-value c =
    let bytes = c.self.inside.pairs in
    let digits = take c.self.inside.len (halves bytes) in
    let at : (i : ℕ) → i < 20 → get_or bytes i 0 ≡ get_or digits (2 * i) 0 * 16 + get_or digits (2 * i + 1) 0 =
    λ i within. pair_in_place bytes c.self.inside.len i c.self.invariant within in
    rw (← c.self.view_is) (omega (
      arith,
      c.from_be_bytes.ensures,
      sixteen_digits digits,
      at 0 (omega arith),
      at 1 (omega arith),
      at 2 (omega arith),
      at 3 (omega arith),
      at 4 (omega arith),
      at 5 (omega arith),
      at 6 (omega arith),
      at 7 (omega arith),
    ))
