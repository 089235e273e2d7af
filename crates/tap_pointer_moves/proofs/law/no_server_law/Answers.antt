use Rattle.tap_pointer_moves.proofs.NoServer.{none_comes_from_ends, none_is_noted_at_ends}
use Rattle.tap_pointer_moves.proofs.law.no_server_law.Goals as goal

pub returns-clause-frames : goal.returns-clause-frames
returns-clause-frames c = none_comes_from_ends

pub returns-clause-starts : goal.returns-clause-starts
returns-clause-starts c = none_is_noted_at_ends
