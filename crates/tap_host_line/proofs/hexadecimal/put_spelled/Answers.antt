use Rattle.std.proofs.Common.{◌<◌, ◌∙◌, All, Ok, ap, subst, sym}
use Rattle.tap_name.specs.Packed.{joined}
use Rattle.tap_host_line.proofs.Hexes.{digits_read}
use Rattle.tap_host_line.proofs.hexadecimal.put_spelled.Goals as goal

pub returns : goal.returns
returns c =
    let same = c.if-not-take_digits.ensures.values in
    let all = subst (All (λ value. value < 16)) same c.if-not-take_digits.ensures.all in
    digits_read _ c.args.text.now c.requires.places all
    ∙ ap Ok (sym (c.put_joined.ensures ∙ ap joined same))
