use Rattle.std.proofs.Common.{◌≡◌, ◌∙◌, ℕ, List, ◌-◌, ◌*◌, ◌/◌, ap, arith, drop, length, length-drop, map, take, take_all}
use Rattle.std.proofs.lemmas.Bool.{OnTrue_at, OnTrue_from}
use Rattle.tap_name.specs.Digits.{digit_of_text}
use Rattle.tap_host_line.proofs.Hexes.{digits_twice}
use Rattle.tap_host_line.proofs.hexadecimal.take_all_digits.Goals as goal

at_end : (text values : List ℕ) → values ≡ map digit_of_text (take (length text - (length text - 32)) (drop (length text - 32) text))
    → values ≡ map digit_of_text (drop (length text - 32) text)
at_end text values is =
    let from : ℕ = length text - 32 in
    is ∙ ap (map digit_of_text) (take_all (length text - from) (drop from text) (omega (arith, length-drop from text)))

pub returns-then-are_first-clause-values : goal.returns-then-are_first-clause-values
returns-then-are_first-clause-values c =
    let text : List ℕ = c.args.text.now in
    let size : ℕ = length text in
    let first : List ℕ = c.take_digits-are_first.new.values in
    let last : List ℕ = c.take_digits-are_last.new.values in
    let are_first : first ≡ map digit_of_text (take (size / 32 * 32) text) =
    OnTrue_at c.if-are_first.true c.take_digits-are_first.ensures.values in
    OnTrue_from c.take_digits-are_last.result _ (λ are_last.
    digits_twice text first (drop (size / 32 * 32) c.args.values.now) last (size / 32 * 32) (size - 32) (omega arith) (omega arith) are_first
    (at_end text last (OnTrue_at are_last c.take_digits-are_last.ensures.values)))
