use Rattle.tap_safety.proofs.CountedKept.{counted_answer, counted_answering, counted_closing, counted_last, counted_opening, counted_others, counted_root}
use Rattle.tap_safety.proofs.law.counts_law.Goals as goal

pub returns-clause-answering : goal.returns-clause-answering
returns-clause-answering c = counted_answering

pub returns-clause-answer : goal.returns-clause-answer
returns-clause-answer c = counted_answer

pub returns-clause-opened : goal.returns-clause-opened
returns-clause-opened c = counted_opening

pub returns-clause-seated : goal.returns-clause-seated
returns-clause-seated c = counted_root

pub returns-clause-closed : goal.returns-clause-closed
returns-clause-closed c = counted_closing

pub returns-clause-last : goal.returns-clause-last
returns-clause-last c = counted_last

pub returns-clause-others : goal.returns-clause-others
returns-clause-others c = counted_others
