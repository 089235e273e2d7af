use Rattle.std.proofs.Common.{◌∙◌, ◌++◌, ℕ, List, ap, arith, length, take}
use Rattle.tap_name.specs.Name.{text_of_name}
use Rattle.tap_host_line.proofs.Rooms.{put_after}
use Rattle.tap_host_line.proofs.room.print_name.Goals as goal

pub returns-clause-text : goal.returns-clause-text
returns-clause-text c =
    let digits = c.as_slice-digits.result.now in
    let same = c.as_slice-digits.ensures.value ∙ c.digits-digits.ensures in
    let few = ap (λ (list : List ℕ). length list) c.as_slice-digits.ensures.value in
    put_after c.args.room.now c.print_few_digits.new.text _ c.args.at (length digits) (omega arith)
    (omega (arith, few, c.as_slice-digits.ensures.len))
    ∙ ap (λ (text : List ℕ). take c.args.at c.args.room.now ++ text) (c.print_few_digits.ensures ∙ ap text_of_name same)
