use Rattle.std.proofs.Common.{◌<◌, ◌∙◌, List, ℕ, length, take, ap}
use Rattle.std.proofs.Math.Seq.{take-append_seam}
use Rattle.tap_name.specs.Padded.{IsPadded-padded, padded}
use Rattle.tap_name.proofs.Packed.{holds, kept}
use Rattle.tap_name.proofs.name.Name.of.Goals as goal

pub invariant_of-result : goal.invariant_of-result
invariant_of-result c =
    let digits = c.args.digits.now in
    let is = IsPadded-padded 40 (λ d. d < 16) digits c.requires.few c.requires.digits in
    kept c.joined.result (padded 40 digits) (length digits)
    (holds c.joined.result (padded 40 digits) (length digits) c.joined.ensures is) is

pub returns : goal.returns
returns c =
    let digits = c.args.digits.now in
    let is = IsPadded-padded 40 (λ d. d < 16) digits c.requires.few c.requires.digits in
    ap (λ (places : List ℕ). take (length digits) places)
    (holds c.joined.result (padded 40 digits) (length digits) c.joined.ensures is) ∙ take-append_seam digits _
