use Rattle.std.proofs.Common.{◌≡◌, ℕ, ◌+◌, ◌*◌, ◌/◌, ◌^◌, zero, suc, ap, sym, ◌∙◌, arith}
use Rattle.std.proofs.lemmas.Nat.{pow-add}
use Rattle.std.proofs.Math.Nat.{div-div-eq-div-mul}
use Rattle.tap_outstanding.specs.Levels.{count_at}
use Rattle.tap_outstanding.proofs.levels.start_of.Goals as goal

-- a shift by three bits for each level
shifted : (number height : ℕ) → number / 2 ^ (3 * height) ≡ count_at number height
shifted number zero = omega arith
shifted number (suc j) =
    let bits : 3 * suc j ≡ 3 * j + 3 = omega arith in
    let power : 2 ^ (3 * suc j) ≡ 2 ^ (3 * j) * 8 = ap (λ k. 2 ^ k) bits ∙ pow-add 2 (3 * j) 3 in
    ap (λ k. number / k) power ∙ sym (div-div-eq-div-mul number (2 ^ (3 * j)) 8) ∙ ap (λ at. at / 8) (shifted number j)

pub returns-clause-at : goal.returns-clause-at
returns-clause-at c = shifted c.args.low c.min-height.result
