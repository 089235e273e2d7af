-- texts that are the same, byte by byte
use Rattle.std.proofs.Common.{◌≡◌, ℕ, ◌≤◌, true, bytes_eq, List, length, take, arith, sym, ◌∙◌}
use Rattle.std.proofs.lemmas.List.{take_all}
use Rattle.std.proofs.lemmas.Slice.Eq.{bytes_eq-Decides}

-- if all bytes are the same, the texts are
pub all_same : (one other : List ℕ) (at : ℕ) → length one ≤ at → length one ≡ length other → take at one ≡ take at other
    → true ≡ bytes_eq one other
all_same one other at end long front =
    let same = sym (take_all at one end) ∙ front ∙ take_all at other (omega (arith, end, long)) in
    sym ((bytes_eq-Decides one other).1 same)
