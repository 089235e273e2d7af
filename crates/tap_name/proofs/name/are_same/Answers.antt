use Rattle.std.proofs.Common.{◌≡◌, ◌∙◌, ℕ, ◌<◌, take, arith, ap, sym, subst}
use Rattle.tap_name.specs.Padded.{IsPadded}
use Rattle.tap_name.specs.Packed.{halves}
use Rattle.tap_name.proofs.Packed.{same_kept}
use Rattle.tap_name.proofs.name.are_same.Goals as goal

pub returns : goal.returns
returns c =
    let mine = c.mine.inside.pairs in
    let theirs = c.theirs.inside.pairs in
    let len : c.theirs.inside.len ≡ c.mine.inside.len = omega (arith, c.if-mine-theirs.false) in
    let padded = subst (λ (n : ℕ). IsPadded 40 (λ d. d < 16) (halves theirs) n) len c.theirs.invariant in
    c.are_same_bytes.ensures
    ∙ same_kept mine theirs c.mine.inside.len c.args.mine.now c.args.theirs.now c.mine.invariant padded c.mine.view_is
    (ap (λ (n : ℕ). take n (halves theirs)) (sym len) ∙ c.theirs.view_is)
