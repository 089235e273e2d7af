-- What the sink behind a buffered one holds, after a text and a flush.
use Rattle.std.proofs.Common.{ℕ, List, [], length, sym, subst, ◌∙◌, arith}
use Rattle.std.proofs.KnownBytes.{Appends-kept, append_known-moved}
use Rattle.std.proofs.Math.Seq.{take-length}
use Rattle.std.specs.Io.KnownBytes.{Appends, append_known}
use Rattle.tap_io.specs.BufferedSink.{Flushes, state_over}
use Rattle.tap_io.specs.Sink.{SinkState}
use Rattle.tap_io.specs.declared.buffered_sink.Flushed.TheVariants.{All as AllFlushed, Failed as FlushFailed}
use Rattle.tap_io.proofs.Buffering.{all_passed_on, first_part}
use Rattle.tap_io.proofs.Following.{Follows-trans, Grows-trans}
use Rattle.tap_report.specs.Written.{WritesText}
use Rattle.tap_report.specs.declared.written.Written.TheVariants.{All, Failed}

-- A write failed: the sink behind holds a first part.
pub text_cut : (first now : SinkState) (name name_now : ℕ) (waiting text : List ℕ)
    → WritesText (state_over first name []) (state_over now name_now waiting) text All Failed → WritesText first now text All Failed
text_cut first now name name_now waiting text w =
    let prefix = w.answer.prefix in
    record {
      follows = record { later = w.follows.later; behind = w.follows.behind.2 };
      answer = record {
        prefix = first_part first now waiting text prefix.count w.follows.behind.1 prefix.within prefix.appends;
        risen = w.answer.risen;
      };
    }

-- All was written, and then passed on.
pub text_flushed : (first old new : SinkState) (name name_now : ℕ) (was is text : List ℕ)
    → WritesText (state_over first name []) (state_over old name_now was) text All All → Flushes old new was is AllFlushed
    → WritesText first new text All All
text_flushed first old new name name_now was is text w f =
    record {
      follows = Follows-trans first old new (record { later = w.follows.later; behind = w.follows.behind.2 }) f.follows;
      answer = record {
        appends = all_passed_on first old new was text w.follows.behind.1 w.answer.appends f.answer.1;
        faults = f.answer.2 ∙ w.answer.faults;
      };
    }

-- All was written, and the flush failed: the sink behind holds a first part.
pub text_kept_back : (first old new : SinkState) (name name_now : ℕ) (was is text : List ℕ)
    → WritesText (state_over first name []) (state_over old name_now was) text All All → Flushes old new was is FlushFailed
    → WritesText first new text All Failed
text_kept_back first old new name name_now was is text w f =
    let front = f.answer.0 in
    let grows = Grows-trans first.held old.held new.held w.follows.behind.1 (front, f.answer.1) in
    let same = append_known-moved old.held new.held front is was f.answer.1 (sym f.answer.2) in
    let all = Appends-kept (append_known first.held []) (append_known old.held was) (append_known new.held is) text w.answer.appends same in
    let taken = subst (Appends (append_known first.held []) (append_known new.held is)) (sym (take-length text)) all in
    record {
      follows = Follows-trans first old new (record { later = w.follows.later; behind = w.follows.behind.2 }) f.follows;
      answer = record {
        prefix = first_part first new is text (length text) grows (omega arith) taken;
        risen = λ h. f.answer.3 (omega (arith, w.answer.faults));
      };
    }
