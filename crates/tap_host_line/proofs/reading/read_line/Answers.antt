use Rattle.std.proofs.Common.{◌∙◌, ap, sym}
use Rattle.std.specs.Option.{option_and_then}
use Rattle.std.proofs.lemmas.Result.{IfOk-weaker}
use Rattle.tap_host_line.specs.declared.verb.Verb.{Verb}
use Rattle.tap_host_line.specs.Line.{node_line_of_all, node_line_of_text, node_line_of_words}
use Rattle.tap_host_line.proofs.reading.read_line.Goals as goal

pub returns-in_default-clause-value : goal.returns-in_default-clause-value
unfolding node_line_of_text
returns-in_default-clause-value c = ap (node_line_of_all c.args.settings.now) (sym (sym c.of-words.ensures ∙ c.in_default.ensures.0))

pub returns-in-Some-of-clause-value : goal.returns-in-Some-of-clause-value
unfolding node_line_of_text
returns-in-Some-of-clause-value c =
    IfOk-weaker c.line_of.result _ _
    (λ line h. h
    ∙ ap (option_and_then (λ (verb : Verb). node_line_of_words c.args.settings.now verb c.next.new.self)) c.in-Some-of.ensures
    ∙ ap (node_line_of_all c.args.settings.now) (sym (sym c.of-words.ensures ∙ c.in-Some.ensures)))
    c.line_of.ensures.value

pub returns-in-None-clause-value : goal.returns-in-None-clause-value
unfolding node_line_of_text
returns-in-None-clause-value c =
    ap (option_and_then (λ (verb : Verb). node_line_of_words c.args.settings.now verb c.next.new.self)) c.in-None.ensures
    ∙ ap (node_line_of_all c.args.settings.now) (sym (sym c.of-words.ensures ∙ c.in-Some.ensures))
