use Rattle.tap_pointer_moves.proofs.Ever.{ever_at_rest, ever_kept, held_was_published, laid_was_published}
use Rattle.tap_pointer_moves.proofs.law.ever_published_law.Goals as goal

pub returns-clause-members : goal.returns-clause-members
returns-clause-members c = ever_at_rest

pub returns-clause-moves : goal.returns-clause-moves
returns-clause-moves c = ever_kept

pub returns-clause-held : goal.returns-clause-held
returns-clause-held c = held_was_published

pub returns-clause-laid : goal.returns-clause-laid
returns-clause-laid c = laid_was_published
