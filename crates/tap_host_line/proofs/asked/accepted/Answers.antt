use Rattle.std.proofs.Common.{◌≡◌, ◌∙◌, List, None, [], ap, inl, inr, map, ◌∷◌, refl}
use Rattle.std.specs.Prelude.{◌≢◌}
use Rattle.std.specs.String.{string_bytes}
use Rattle.clap.specs.Words.{HasKind, Kinds, Row, Text, kind_of, matches_of}
use Rattle.clap.specs.declared.error.Error.{Error}
use Rattle.clap.specs.declared.error.ErrorKind.TheVariants.{OutOfMemory}
use Rattle.tap_host_line.specs.Command.{faults_of_node_words, node_app}
use Rattle.tap_host_line.specs.Words.{members_file_by, members_file_in_rows, node_asked_by, node_asked_in_rows, node_asked_unless}
use Rattle.tap_host_line.proofs.asked.accepted.Goals as goal

accepted : (words : List Text) (rows : List Row) → faults_of_node_words words ≡ [] → rows ≡ matches_of node_app words → node_asked_in_rows rows ≡ node_asked_by words
unfolding node_asked_by
accepted words rows none same = rw (none, same) refl

refused_by : (kinds : Kinds) (rows : List Row) (e : Error) → HasKind kinds e → kind_of e ≢ OutOfMemory → node_asked_unless kinds rows ≡ None
refused_by [] rows e (inl memory) other = absurd (other memory)
refused_by [] rows e (inr h) other = absurd h
refused_by (kind ∷ kinds) rows e h other = refl

refused : (words : List Text) (e : Error) → HasKind (faults_of_node_words words) e → kind_of e ≢ OutOfMemory → node_asked_by words ≡ None
unfolding node_asked_by
refused words e h other = refused_by (faults_of_node_words words) (matches_of node_app words) e h other

pub returns-in-Ok-clause-asked : goal.returns-in-Ok-clause-asked
returns-in-Ok-clause-asked c = accepted (map string_bytes c.args.words.now) _ c.in-Ok.ensures.faults c.in-Ok.ensures.ok

pub returns-in-Ok-clause-members : goal.returns-in-Ok-clause-members
unfolding members_file_by
returns-in-Ok-clause-members c = ap members_file_in_rows c.in-Ok.ensures.ok

pub returns : goal.returns
returns c = record {
  asked = tt;
  members = tt;
  refused = λ _.
      refused (map string_bytes c.args.words.now) c.in-Err.error c.in-Err.ensures.faults
      (λ e. c.in_default.not-OutOfMemory (c.kind.ensures ∙ e));
}
