use Rattle.tap_pointer_moves.proofs.Alone.{lookup_begins_alone, lookup_goes_on_alone}
use Rattle.tap_pointer_moves.proofs.law.alone_law.Goals as goal

pub returns-clause-starts : goal.returns-clause-starts
returns-clause-starts c = lookup_begins_alone

pub returns-clause-frames : goal.returns-clause-frames
returns-clause-frames c = lookup_goes_on_alone
