use Rattle.std.proofs.Common.{◌≡◌, ◌∙◌, ap, subst, map}
use Rattle.std.proofs.lemmas.Result.{IfOk-weaker}
use Rattle.std.specs.String.{string_bytes}
use Rattle.clap.specs.Words.{App, FailsBy, app_of, fault_of, is_simple, is_simple_and_free, matches_of}
use Rattle.tap_host_line.specs.Command.{faults_of_node_words, node_app}
use Rattle.tap_host_line.proofs.Known.{is_free_here, is_simple_here}
use Rattle.tap_host_line.proofs.command.matches.Goals as goal

pub returns-clause-ok : goal.returns-clause-ok
returns-clause-ok c =
    let same : app_of c.in_ok-command.field-0 ≡ node_app = c.in_ok-command.ensures in
    IfOk-weaker c.try_get_matches_from.result _ _
    (λ m h. (h (ap is_simple same ∙ is_simple_here)).0 ∙ ap (λ (a : App). matches_of a (map string_bytes c.args.words.now)) same)
    c.try_get_matches_from.ensures.matches

pub returns-clause-faults : goal.returns-clause-faults
unfolding faults_of_node_words
returns-clause-faults c =
    let same : app_of c.in_ok-command.field-0 ≡ node_app = c.in_ok-command.ensures in
    subst (λ (a : App). FailsBy (fault_of a (map string_bytes c.args.words.now)) c.try_get_matches_from.result) same
    (c.try_get_matches_from.ensures.kinds (ap is_simple_and_free same ∙ is_free_here))
