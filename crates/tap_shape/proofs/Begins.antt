-- Whether a text begins with a word.
use Rattle.std.proofs.Common.{◌≡◌, ◌≢◌, inl, inr, ℕ, ◌<◌, true, false, List, length, take, get_or, ap, sym, ◌∙◌, arith}
use Rattle.std.proofs.lemmas.Bool.{cases_Bool}
use Rattle.std.proofs.lemmas.List.{get_or-take, take_all}
use Rattle.std.proofs.lemmas.Slice.Eq.{bytes_eq-Decides}
use Rattle.tap_shape.specs.Opening.{begins_with}

-- not if they differ at a place
pub differs : (text word : List ℕ) (at : ℕ) → at < length word → get_or text at 0 ≢ get_or word at 0 → false ≡ begins_with text word
differs text word at inside other =
    elim (cases_Bool (begins_with text word)) [
      | inl begins ↦
          let same : take (length word) text ≡ word = (bytes_eq-Decides (take (length word) text) word).0 begins in
          absurd (other (sym (get_or-take (length word) text at 0 inside) ∙ ap (λ l. get_or l at 0) same))
      | inr is ↦ sym is
    ]

-- but if all places of the word are the same
pub same_front : (text word : List ℕ) (at : ℕ) → at ≡ length word → take at text ≡ take at word → true ≡ begins_with text word
same_front text word at end front =
    let same : take (length word) text ≡ word =
    ap (λ n. take n text) (sym end) ∙ front ∙ take_all at word (omega (arith, end)) in
    sym ((bytes_eq-Decides (take (length word) text) word).1 same)
