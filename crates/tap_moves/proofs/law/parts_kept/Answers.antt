use Rattle.tap_moves.proofs.PartsMade.{move_keeps_parts, parts_kept, start_keeps_parts}
use Rattle.tap_moves.proofs.law.parts_kept.Goals as goal

pub returns-clause-frames : goal.returns-clause-frames
returns-clause-frames c = parts_kept

pub returns-clause-starts : goal.returns-clause-starts
returns-clause-starts c = start_keeps_parts

pub returns-clause-moves : goal.returns-clause-moves
returns-clause-moves c = move_keeps_parts
