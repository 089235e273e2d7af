use Rattle.tap_pointer_moves.proofs.LookupAnswers.{lookups_stay_of, no_lookups_at_rest, noted_answers_are_of}
use Rattle.tap_pointer_moves.proofs.law.answers_law.Goals as goal

pub returns-clause-members : goal.returns-clause-members
returns-clause-members c = no_lookups_at_rest

pub returns-clause-moves : goal.returns-clause-moves
returns-clause-moves c = lookups_stay_of

pub returns-clause-noted : goal.returns-clause-noted
returns-clause-noted c = noted_answers_are_of
