-- What a sink holds after several writes, one after another.
-- Cited above: Appends-AppendsPrefixOf, AppendsPrefixOf-append, failed_write, next_write
use Rattle.std.proofs.Common.{◌≡◌, ◌≤◌, ℕ, ◌+◌, ◌-◌, List, ◌++◌, length, take, drop, Option, length-append, take-add, arith, sym, subst}
use Rattle.std.proofs.KnownBytes.{Appends-trans, Appends-kept}
use Rattle.std.proofs.Math.Seq.{take-append-add}
use Rattle.std.proofs.lemmas.List.{take-take, take-append-le}
use Rattle.std.specs.Prelude.{slice_range}
use Rattle.std.specs.Io.KnownBytes.{Appends, Keeps}
use Rattle.tap_io.specs.Sink.{AppendsPrefixOf, SinkState}

-- Of a text, m bytes were appended, and then the first n bytes of the rest.
pub next_write : (old mid new : Option (List ℕ)) (text : List ℕ) (m n : ℕ)
    → Appends old mid (take m text) → Appends mid new (take n (slice_range text m (length text)))
    → n ≤ length text - m → Appends old new (take (m + n) text)
next_write old mid new text m n first next within =
    let rest : take n (slice_range text m (length text)) ≡ take n (drop m text) =
    take-take n (length text - m) (drop m text) within in
    subst (Appends old new) (sym (take-add m n text))
    (Appends-trans old mid new _ _ first (subst (Appends mid new) rest next))

-- Of a text, m bytes were appended, and the next write failed.
pub failed_write : (old mid new : SinkState) (text : List ℕ) (m : ℕ) → m ≤ length text
    → Appends old.held mid.held (take m text) → Keeps mid.held new.held → AppendsPrefixOf old new text
failed_write old mid new text m within first kept =
    record { count = m; within = within; appends = Appends-kept old.held mid.held new.held (take m text) first kept }

-- The first bytes of a text are first bytes of a longer one.
pub AppendsPrefixOf-append : (old new : SinkState) (text more : List ℕ)
    → AppendsPrefixOf old new text → AppendsPrefixOf old new (text ++ more)
AppendsPrefixOf-append old new text more p =
    let same : take p.count text ≡ take p.count (text ++ more) = sym (take-append-le p.count text more p.within) in
    record {
      count = p.count;
      within = omega (arith, length-append text more, p.within);
      appends = subst (Appends old.held new.held) same p.appends;
    }

-- A whole text was appended, and then the first bytes of another.
pub Appends-AppendsPrefixOf : (old mid new : SinkState) (text more : List ℕ)
    → Appends old.held mid.held text → AppendsPrefixOf mid new more → AppendsPrefixOf old new (text ++ more)
Appends-AppendsPrefixOf old mid new text more first p =
    record {
      count = length text + p.count;
      within = omega (arith, length-append text more, p.within);
      appends =
          subst (Appends old.held new.held) (sym (take-append-add text more p.count))
          (Appends-trans old.held mid.held new.held _ _ first p.appends);
    }
