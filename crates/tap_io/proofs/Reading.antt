-- What comes of a source.
use Rattle.std.proofs.Common.{◌≡◌, ◌≤◌, ℕ, ◌+◌, List, [], ◌++◌, length, take, drop, Option, None, Some, ◌⊎◌, inl, inr, refl, ap, sym, ◌∙◌, subst, arith, take-append-drop, length-append, length-take-le, length-drop}
use Rattle.std.specs.Prelude.{slice_range}
use Rattle.std.specs.Io.KnownBytes.{Consumes}
use Rattle.std.proofs.lemmas.List.{drop-drop, take-append-le, take_all}
use Rattle.tap_io.specs.Source.{Reads, SourceState}
use Rattle.tap_io.specs.declared.source.Got.{Got}
use Rattle.tap_io.specs.declared.source.Got.TheVariants.{Got as GotBytes, End, Failed}

-- the n bytes from a place on
pub slice_range-from : (bytes : List ℕ) (at n : ℕ) → slice_range bytes at (at + n) ≡ take n (drop at bytes)
slice_range-from bytes at n = ap (λ m. take m (drop at bytes)) (omega arith)

-- n bytes were copied from a place on
pub length-copied : (bytes copy : List ℕ) (at n : ℕ) → copy ≡ take n (drop at bytes) → at + n ≤ length bytes
    → length copy ≡ n
length-copied bytes copy at n is within =
    ap length is ∙ length-take-le n (drop at bytes) (omega (arith, length-drop at bytes))

-- What was left before a read is what stands at the front of the buffer, and then what is left.
pub read_then_rest : (bytes copy behind : List ℕ) (at n : ℕ) → copy ≡ take n (drop at bytes) → at + n ≤ length bytes
    → drop at bytes ≡ take n (copy ++ behind) ++ drop (at + n) bytes
read_then_rest bytes copy behind at n is within =
    let len = length-copied bytes copy at n is within in
    let front : take n (copy ++ behind) ≡ take n (drop at bytes) =
    take-append-le n copy behind (omega arith) ∙ take_all n copy (omega arith) ∙ is in
    rw (front, ← drop-drop n at bytes) (sym (take-append-drop n (drop at bytes)))

-- no byte comes where none is left
none_given : (new : Option (List ℕ)) (into : List ℕ) (n : ℕ) → Consumes (Some []) new (take n into) → 1 ≤ n → n ≤ length into → ⊥
none_given None into n bytes some within = bytes
none_given (Some ys) into n bytes some within =
    omega (arith, ap length bytes, length-append (take n into) ys, length-take-le n into within)

-- Where the bytes are told and none is left, a read answers the end, or it fails.
pub ends_where_none_left : (old new : SourceState) (into : List ℕ) (got : Got) → old.left ≡ Some []
    → Reads old new into got → (got ≡ End) ⊎ (got ≡ Failed)
ends_where_none_left old new into (GotBytes n) none r =
    let bytes = subst (λ left. Consumes left new.left (take n into)) none r.answer.bytes in
    absurd (none_given new.left into n bytes r.answer.at_least_one r.answer.within)
ends_where_none_left old new into End none r = inl refl
ends_where_none_left old new into Failed none r = inr refl
