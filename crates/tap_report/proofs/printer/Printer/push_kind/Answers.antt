use Rattle.std.proofs.Common.{◌≡◌, ◌<◌, ◌≤◌, ℕ, zero, suc, [], length, arith, refl}
use Rattle.std.proofs.Math.ListN.{get_or-eq_default}
use Rattle.tap_report.specs.Frames.{word_of_kind, words_of_kinds}
use Rattle.tap_report.proofs.PrintsLemmas.{Waits-none}
use Rattle.tap_report.proofs.printer.Printer.push_kind.Goals as goal

-- no kind has the code 0, or one above 17
no_word : (code : ℕ) → (0 < code → 18 ≤ code) → word_of_kind code ≡ []
no_word zero above = refl
no_word (suc before) above =
    let len : length words_of_kinds ≡ 18 = refl in
    let past : length words_of_kinds ≤ suc before = omega (arith, len, above (omega arith)) in
    get_or-eq_default words_of_kinds [] {n = suc before} past

pub returns-in_default-clause-text : goal.returns-in_default-clause-text
returns-in_default-clause-text c = rw (no_word c.args.code (λ positive. omega arith)) (Waits-none _)
