use Rattle.std.proofs.Common.{◌≡◌, ◌-◌, ◌<◌, ◌++◌, ◌∙◌, ℕ, List, length, drop, replicate, ap}
use Rattle.std.proofs.lemmas.List.{drop-replicate}
use Rattle.std.proofs.lemmas.List.Elements.{All-same}
use Rattle.tap_name.specs.Packed.{joined}
use Rattle.tap_name.specs.Padded.{IsPadded-padded, padded}
use Rattle.tap_name.proofs.Halves.{joined-eight}
use Rattle.tap_name.proofs.Packed.{all_digits}
use Rattle.tap_name.proofs.name.joined.Goals as goal

-- digits in the first places, and zeros after them
placed : (digits front : List ℕ) → front ≡ digits → front ++ drop (length digits) (replicate 40 0) ≡ padded 40 digits
placed digits front same =
    let zeros : drop (length digits) (replicate 40 0) ≡ replicate (40 - length digits) 0 = drop-replicate {X = ℕ} (length digits) 40 0 in
    λ i. same i ++ zeros i

pub put_joined-requires-2-clause-digits : goal.put_joined-requires-2-clause-digits
put_joined-requires-2-clause-digits c =
    let digits = c.args.digits.now in
    let is = IsPadded-padded 40 (λ d. d < 16) digits c.requires.few c.requires.digits in
    All-same (λ d. d < 16) _ (padded 40 digits) (placed digits c.copy_from_slice.new.self c.copy_from_slice.ensures.after)
    (all_digits (padded 40 digits) (length digits) is)

pub returns-then-digits-eq-USUAL_DIGITS : goal.returns-then-digits-eq-USUAL_DIGITS
returns-then-digits-eq-USUAL_DIGITS c =
    ap (λ (bytes : List ℕ). bytes ++ replicate 16 0) c.put_joined.ensures
    ∙ joined-eight c.args.digits.now c.if-digits-eq-USUAL_DIGITS.true

pub returns : goal.returns
returns c =
    c.put_joined-2.ensures ∙ ap joined (placed c.args.digits.now c.copy_from_slice.new.self c.copy_from_slice.ensures.after)
