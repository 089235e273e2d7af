use Rattle.tap_top.proofs.Flushing.{text_cut, text_flushed, text_kept_back}
use Rattle.tap_top.proofs.printing.flush_after.Goals as goal

pub returns-in-Failed-clause-written : goal.returns-in-Failed-clause-written
returns-in-Failed-clause-written g c = λ first name all writes.
    text_cut first (g.K.Sink.state c.args.text.now.inner.now) name c.args.text.now.inner.ghost_name c.args.text.now.waiting.items all
    (rw c.in-Failed.is at writes)

pub returns-in-All-flush-clause-written : goal.returns-in-All-flush-clause-written
returns-in-All-flush-clause-written g c = λ first name all writes.
    text_flushed first (g.K.Sink.state c.args.text.now.inner.now) (g.K.Sink.state c.flush.new.self.inner.now) name
    c.args.text.now.inner.ghost_name c.args.text.now.waiting.items c.flush.new.self.waiting.items all
    (rw c.in-All.is at writes) (rw c.in-All-flush.is at c.flush.ensures.flushes)

pub returns-in-Failed-flush-clause-written : goal.returns-in-Failed-flush-clause-written
returns-in-Failed-flush-clause-written g c = λ first name all writes.
    text_kept_back first (g.K.Sink.state c.args.text.now.inner.now) (g.K.Sink.state c.flush.new.self.inner.now) name
    c.args.text.now.inner.ghost_name c.args.text.now.waiting.items c.flush.new.self.waiting.items all
    (rw c.in-All.is at writes) (rw c.in-Failed-flush.is at c.flush.ensures.flushes)
