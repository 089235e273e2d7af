use Rattle.std.proofs.Common.{rules, ◌≡◌, ◌+◌, ◌∙◌, ℕ, List, None, Some, Ok, true, ap, sym}
use Rattle.toml.specs.Data.{as_str}
use Rattle.toml.specs.View.{view, items_view}
use Rattle.tap_scenario.specs.Document.{numbered_steps, steps_from}
use Rattle.tap_scenario.specs.Value.{are_strings}
use Rattle.tap_scenario.proofs.Arrays.{text_at}
use Rattle.tap_scenario.proofs.Scripts.{steps_from-more}
use Rattle.tap_scenario.proofs.document.read_steps.Goals as goal
use Rattle.tap_scenario.proofs.document.read_steps.Goals.{in-Some+in_ok-read_string, in_default}

pub loop-at-preserved : goal.loop-at-preserved
loop-at-preserved c =
    let p = c.args.settings.now in
    let carrier = c.args.carrier in
    let at = c.loop-at.at in
    let before = c.loop-at.steps.items in
    let values = c.in_ok-strings.strings.now in
    let strings : are_strings (items_view values) ≡ true = c.in_ok-strings.ensures.strings in
    let found = text_at values at c.index-strings-at.result strings c.loop-at-test.true c.index-strings-at.is in
    elim c.match-as_str.branch [
      | in-Some+in_ok-read_string w ↦
          let there : as_str (view c.index-strings-at.result) ≡ Some w.in-Some.text.now = search rules in
          let text : found.0 ≡ w.in-Some.text.now = cc (found.1, there) in
          let read : numbered_steps p carrier (at + 1) before found.0 ≡ Ok c.match-as_str.steps.items =
          rw (text, w.steps-is) (search rules) in
          record {
            few = rw w.steps-is w.in_ok-read_string.ensures.few;
            steps = sym (steps_from-more p carrier (at + 1) before found.0 _ c.match-as_str.steps.items read)
                ∙ ap (λ (texts : List (List ℕ)). steps_from p carrier (at + 1) before texts) (sym found.2)
                ∙ c.loop-at.invariant.steps;
          }
      | in_default w ↦ absurd (let none : None ≡ Some found.0 = w.in_default.ensures ∙ found.1 in cc)
    ]
