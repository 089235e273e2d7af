use Rattle.tap_pointer_moves.proofs.LookupFrames.{lookups_go_on, no_lookup_frames_at_rest}
use Rattle.tap_pointer_moves.proofs.law.going_on_law.Goals as goal

pub returns-clause-members : goal.returns-clause-members
returns-clause-members c = no_lookup_frames_at_rest

pub returns-clause-moves : goal.returns-clause-moves
returns-clause-moves c = lookups_go_on
