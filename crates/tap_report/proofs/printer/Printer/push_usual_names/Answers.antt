use Rattle.std.proofs.Common.{◌≡◌, ◌∙◌, ℕ, List, ap, arith, drop, length-drop, take}
use Rattle.std.proofs.lemmas.List.{drop-map, take-map, take_all}
use Rattle.tap_name.specs.Digits.{text_of_digit}
use Rattle.tap_name.specs.Name.{text_of_name}
use Rattle.tap_report.proofs.PrintsLemmas.{Waits-then}
use Rattle.tap_report.proofs.printer.Printer.push_usual_names.Goals as goal

pub returns-clause-text : goal.returns-clause-text
returns-clause-text c =
    let names = c.args.names.now in
    let text : List ℕ = c.usual_text-text.result in
    let first : take 8 text ≡ text_of_name (take 8 names) = ap (take 8) c.usual_text-text.ensures ∙ take-map text_of_digit 8 names in
    let rest : take 8 (drop 8 names) ≡ drop 8 names = take_all 8 (drop 8 names) (omega (arith, c.requires.both, length-drop 8 names)) in
    let second : take 8 (drop 8 text) ≡ text_of_name (drop 8 names) =
    ap (λ l. take 8 (drop 8 l)) c.usual_text-text.ensures ∙ ap (take 8) (drop-map text_of_digit 8 names)
    ∙ take-map text_of_digit 8 (drop 8 names) ∙ ap text_of_name rest in
    let one = Waits-then c.push.ensures.text (rw first at c.push-2.ensures.text) in
    let two = Waits-then c.push-3.ensures.text (rw second at c.push-4.ensures.text) in
    Waits-then one two
