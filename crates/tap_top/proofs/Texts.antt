-- texts that are written
use Rattle.std.proofs.Common.{◌≡◌, inl, inr, ℕ, List, [], ◌++◌, Option, None, refl, ap, sym, subst, ◌∙◌}
use Rattle.tap_io.specs.Sink.{SinkState}
use Rattle.tap_engine.specs.World.{WorldValue}
use Rattle.tap_report.specs.Text.{text_of_log}
use Rattle.tap_report.specs.Written.{WritesText}
use Rattle.tap_report.specs.declared.mode.Mode.{Mode}
use Rattle.tap_report.specs.declared.mode.Mode.TheVariants.{Long, Brief, Summary}
use Rattle.tap_report.specs.declared.written.Written.{Written}
use Rattle.tap_report.specs.declared.written.Written.TheVariants.{All, Failed}
use Rattle.tap_top.specs.declared.status.Status.{Status}
use Rattle.tap_top.specs.Ending.{HasWritten, log_of, text_of_run, with_writing}
use Rattle.tap_top.specs.FaultLine.{fault_line}

pub WritesText-same : {old new : SinkState} {first second : Written} (text other : List ℕ) → text ≡ other
    → WritesText old new text first second → WritesText old new other first second
WritesText-same {old = old} {new = new} {first = first} {second = second} text other same writes =
    let P : List ℕ → Type 0 = λ l. WritesText old new l first second in subst P same writes

-- all was written, or a write failed
pub HasWritten-from_text : (old new : SinkState) (text : List ℕ) (before : Status) (written : Written)
    → WritesText old new text All written → HasWritten old new text before (with_writing before written)
HasWritten-from_text old new text before All w = inl (refl, w.answer)
HasWritten-from_text old new text before Failed w = inr (refl, w.answer)

-- an empty log has no text
no_text : (mode : Mode) → text_of_log mode [] ≡ []
no_text Long = refl
no_text Brief = refl
no_text Summary = refl

-- without a world the fault line is the whole text
pub HasWritten-alone : (old new : SinkState) (mode : Mode) (world : Option WorldValue) (before status : Status) → world ≡ None
    → HasWritten old new (fault_line before) before status → HasWritten old new (text_of_run mode (log_of world) before) before status
HasWritten-alone old new mode world before status none written =
    let same : fault_line before ≡ text_of_run mode (log_of world) before =
    sym (ap (λ w. text_of_run mode (log_of w) before) none ∙ ap (λ text. text ++ fault_line before) (no_text mode)) in
    subst (λ text. HasWritten old new text before status) same written
