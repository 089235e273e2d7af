use Rattle.std.proofs.Common.{◌≡◌, ◌≤◌, Ok, ℕ, List, ◌∙◌, ◌+◌, ◌-◌, ◌/◌, ◌++◌, ap, arith, length, sym, take, take_all}
use Rattle.std.proofs.lemmas.List.{take-append-le}
use Rattle.tap_host_line.proofs.Hexes.{few_taken}
use Rattle.tap_host_line.proofs.hexadecimal.put_few.Goals as goal

first_places : (places others : List ℕ) (len : ℕ) → length places ≡ len → take len (places ++ others) ≡ places
first_places places others len is =
    let within : len ≤ length places = omega (arith, is) in
    take-append-le len places others within ∙ take_all len places (omega (arith, is))

pub returns : goal.returns
returns c =
    few_taken c.args.count ((c.args.count + 32 - 1) / 32) c.args.text.now c.take_all_digits.new.values _ c.requires.len (omega arith)
    c.if-not-take_all_digits.ensures.values c.if-not-take_all_digits.ensures.all
    ∙ ap Ok (sym (c.truncate.ensures.items ∙ ap (take c.args.count)
    (first_places c.put_blocks.new.places _ c.resize.new.self.len (c.put_blocks.ensures.len ∙ sym c.in_ok-resize.ensures.len)
    ∙ c.put_blocks.ensures.value)))
