use Rattle.std.proofs.Common.{◌+◌, length, subst}
use Rattle.tap_io.specs.Sink.{Writes}
use Rattle.tap_io.specs.declared.sink.Took.TheVariants.{Took as TookBytes}
use Rattle.tap_judge.specs.Expected.{expected_state}
use Rattle.tap_judge.proofs.Expecting.{takes_piece}
use Rattle.tap_judge.proofs.expected.ExpectedSink.write.Goals as goal

pub returns-then-begins_with : goal.returns-then-begins_with
returns-then-begins_with c =
    let e = c.self.inside in
    let piece = c.args.bytes.now in
    subst
    (λ was. Writes (expected_state was) (expected_state (record { bytes = e.bytes.now; taken = e.taken + length piece; faults = e.faults })) piece
    (TookBytes (length piece)))
    c.self.view_is
    (takes_piece e.bytes.now piece e.taken e.faults _ c.self.invariant c.requires (c.begins_with.ensures c.if-begins_with.true))
