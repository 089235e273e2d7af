-- The line at which bytes show that they are no log is one.
-- Cited above: one_refused
use Rattle.std.proofs.Common.{◌≡◌, inl, inr, ℕ, zero, suc, ◌+◌, ◌-◌, ◌<◌, ◌≤◌, ◌==◌, cond, List, [], ◌∷◌, ◌++◌, refl, ap, sym, subst, ◌∙◌, arith, append_assoc}
use Rattle.std.proofs.lemmas.Bool.{cases_Bool, cases_lt}
use Rattle.tap_shape.specs.Text.{BeginsText, IsNotLog, IsTextOf, first_lines, line_count}
use Rattle.tap_shape.proofs.Texts.{count-cons}

-- fewer lines stand in front of more
record Front (xs ys : List ℕ) : Type 0 where
  rest : List ℕ
  is : ys ≡ xs ++ rest

lines_front : (k n : ℕ) (bytes : List ℕ) → k ≤ n → Front (first_lines k bytes) (first_lines n bytes)
lines_front k n [] le = record { rest = []; is = refl }
lines_front zero n (byte ∷ bytes) le = record { rest = first_lines n (byte ∷ bytes); is = refl }
lines_front (suc k) zero (byte ∷ bytes) le = absurd (omega arith)
lines_front (suc k) (suc n) (byte ∷ bytes) le =
    elim (cases_Bool (byte == 10)) [
      | inl feed ↦ let more = lines_front k n bytes (omega arith) in record { rest = more.rest; is = rw feed (ap (λ l. byte ∷ l) more.is) }
      | inr other ↦
          let more = lines_front (suc k) (suc n) bytes le in record { rest = more.rest; is = rw other (ap (λ l. byte ∷ l) more.is) }
    ]

-- past the last line stands all
all_lines : (n : ℕ) (bytes : List ℕ) → line_count bytes < n → first_lines n bytes ≡ bytes
all_lines n [] more = refl
all_lines zero (byte ∷ bytes) more = absurd (omega arith)
all_lines (suc n) (byte ∷ bytes) more =
    elim (cases_Bool (byte == 10)) [
      | inl feed ↦
          let size : line_count (byte ∷ bytes) ≡ 1 + line_count bytes = count-cons byte bytes ∙ ap (λ b. cond b 1 0 + line_count bytes) feed in
          rw feed (ap (λ l. byte ∷ l) (all_lines n bytes (omega (arith, size, more))))
      | inr other ↦
          let size : line_count (byte ∷ bytes) ≡ 0 + line_count bytes = count-cons byte bytes ∙ ap (λ b. cond b 1 0 + line_count bytes) other in
          rw other (ap (λ l. byte ∷ l) (all_lines (suc n) bytes (omega (arith, size, more))))
    ]

begins_shorter : (k n : ℕ) (bytes : List ℕ) → k ≤ n → BeginsText (first_lines n bytes) → BeginsText (first_lines k bytes)
begins_shorter k n bytes le begins =
    let front = lines_front k n bytes le in
    let whole : first_lines n bytes ++ begins.rest ≡ first_lines k bytes ++ (front.rest ++ begins.rest) =
    ap (λ l. l ++ begins.rest) front.is ∙ append_assoc (first_lines k bytes) front.rest begins.rest in
    record { rest = front.rest ++ begins.rest; log = begins.log; is = subst (λ b. IsTextOf b begins.log) whole begins.is }

not_before : (bytes : List ℕ) (k other : ℕ) → IsNotLog bytes k → IsNotLog bytes other → k < other → ⊥
not_before bytes k other not also less =
    elim not.first [
      | inl none ↦ none (begins_shorter k (other - 1) bytes (omega (arith, less)) also.before)
      | inr is ↦ elim also.first [
        | inl none ↦
            let all = all_lines other bytes (omega (arith, is, less)) in
            let most = all_lines (other - 1) bytes (omega (arith, is, less)) in
            none (subst BeginsText (most ∙ sym all) also.before)
        | inr same ↦ absurd (omega (arith, is, same, less))
      ]
    ]

-- bytes are refused by one line
pub one_refused : (bytes : List ℕ) (k other : ℕ) → IsNotLog bytes k → IsNotLog bytes other → k ≡ other
one_refused bytes k other not also =
    elim (cases_lt k other) [
      | inl less ↦ absurd (not_before bytes k other not also less)
      | inr from ↦ elim (cases_lt other k) [ inl less ↦ absurd (not_before bytes other k also not less) | inr to ↦ omega (arith, from, to) ]
    ]

-- it is one of them, or the next after them
pub at_most_next : (bytes : List ℕ) (k : ℕ) → IsNotLog bytes k → k ≤ line_count bytes + 1
at_most_next bytes k not =
    elim (cases_lt (line_count bytes + 1) k) [
      | inl far ↦ elim not.first [
        | inl none ↦
            let all = all_lines k bytes (omega (arith, far)) in
            let most = all_lines (k - 1) bytes (omega (arith, far)) in
            absurd (none (subst BeginsText (most ∙ sym all) not.before))
        | inr is ↦ omega (arith, is)
      ]
      | inr to ↦ to
    ]
