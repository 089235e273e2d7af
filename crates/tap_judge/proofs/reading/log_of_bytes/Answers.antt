use Rattle.tap_judge.proofs.reading.log_of_bytes.Goals as goal

pub returns-in-Err-NotLog-clause-cause : goal.returns-in-Err-NotLog-clause-cause
returns-in-Err-NotLog-clause-cause c =
    rw c.as_slice.ensures.value at (c.in-Err-NotLog.ensures.not_log c.in-Err-NotLog.line (cc))
