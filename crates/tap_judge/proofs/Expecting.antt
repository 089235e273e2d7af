-- What a sink takes that expects bytes, and what it then has taken.
use Rattle.std.proofs.Common.{◌≡◌, ◌<◌, ◌≤◌, ◌-◌, ℕ, ◌+◌, List, [], ◌++◌, length, take, drop, Some, refl, ap, sym, ◌∙◌, arith, append-nil, length-drop, take-add}
use Rattle.std.specs.Prelude.{slice_range}
use Rattle.std.proofs.Math.Seq.{take-append_seam, take-length}
use Rattle.std.proofs.lemmas.List.{take_all}
use Rattle.tap_io.specs.Sink.{Grows, Writes}
use Rattle.tap_io.specs.declared.sink.Took.TheVariants.{Took as TookBytes}
use Rattle.tap_report.specs.Written.{WritesText}
use Rattle.tap_report.specs.declared.written.Written.{Written}
use Rattle.tap_report.specs.declared.written.Written.TheVariants.{All, Failed}
use Rattle.tap_judge.specs.Expected.{ExpectedValue, expected_state, expects}

-- so many bytes taken, and so many writes failed
abbrev expected : List ℕ → ℕ → ℕ → ExpectedValue
expected bytes taken faults = record { bytes = bytes; taken = taken; faults = faults }

-- a piece with which the bytes go on is taken
pub takes_piece : (bytes piece : List ℕ) (taken faults : ℕ) (rest : List ℕ) → taken ≤ length bytes → 0 < length piece
    → slice_range bytes taken (length bytes) ≡ piece ++ rest
    → Writes (expected_state (expected bytes taken faults)) (expected_state (expected bytes (taken + length piece) faults)) piece
    (TookBytes (length piece))
takes_piece bytes piece taken faults rest within some goes =
    let size = length-drop taken bytes in
    let left : drop taken bytes ≡ piece ++ rest =
    sym (take_all (length bytes - taken) (drop taken bytes) (omega (arith, size))) ∙ goes in
    record {
      follows = record { later = omega arith; behind = (refl, ([], sym (append-nil bytes)), tt) };
      answer = record {
        at_least_one = some;
        within = omega arith;
        appends = take-add taken (length piece) bytes
            ∙ ap (λ l. take taken bytes ++ l) (ap (take (length piece)) left ∙ take-append_seam piece rest ∙ sym (take-length piece));
        faults = refl;
      };
    }

-- the bytes that were expected are the first of those that are
grown : (bytes now : List ℕ) → Grows (Some bytes) (Some now) → take (length bytes) now ≡ bytes
grown bytes now grows = ap (take (length bytes)) grows.1 ∙ take-append_seam bytes grows.0

-- A text of which all was written is what was expected, if as many bytes were taken.
pub all_taken : (bytes text : List ℕ) (e : ExpectedValue) (written : Written)
    → WritesText (expected_state (expects bytes)) (expected_state e) text All written → e.faults ≡ 0 → e.taken ≡ length bytes → text ≡ bytes
all_taken bytes text e All writes none size =
    let held : take e.taken e.bytes ≡ text = writes.answer.appends in
    sym held ∙ ap (λ n. take n e.bytes) size ∙ grown bytes e.bytes writes.follows.behind.1
all_taken bytes text e Failed writes none size =
    let risen = writes.answer.risen in
    let greatest = risen (omega (arith, none)) in
    absurd (omega (arith, none, greatest))
