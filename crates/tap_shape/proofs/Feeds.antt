-- Where the first line feed of a text stands, and how many there are.
use Rattle.std.proofs.Common.{◌≡◌, ◌==◌, ℕ, zero, suc, ◌+◌, ◌-◌, ◌<◌, ◌≤◌, true, false, arith, List, [], ◌∷◌, ◌++◌, length, take, drop, get_or, length-drop, length-take, take-append-drop, cond, Option, None, Some, refl, ap, sym, subst, ◌∙◌, inl, inr, zero-add, IfSome}
use Rattle.std.proofs.lemmas.Bool.{cases_Bool, cases_lt, eqb-true}
use Rattle.std.proofs.lemmas.List.{drop_more, get_or-take, take_all}
use Rattle.std.proofs.lemmas.List.Elements.{All-from_get_or}
use Rattle.std.proofs.lemmas.List.Sums.{sum_by-take-drop}
use Rattle.memchr.specs.Find.{IsFirstByte, NoneBefore, Nowhere, Passes, TakesFirst, is_byte, places, places_from}
use Rattle.tap_line.specs.Laws.{HasNoFeed}
use Rattle.tap_shape.specs.Text.{line_count}

-- ---- the first of all places

module _ (text : List ℕ) where
  -- a place, or a later one
  or_later : (P : ℕ → Type 0) (i k : ℕ) → i ≤ k → (P i → ⊥) → (i + 1 ≤ k → P k → ⊥) → P k → ⊥
  or_later P i k low here later there =
      elim (cases_lt i k) [
        | inl less ↦ later (omega arith) there
        | inr least ↦ let same : k ≡ i = omega arith in here (subst P same there)
      ]

  not_here : (i : ℕ) → (get_or text i 0 == 10) ≡ false → Passes (is_byte 10) text i → ⊥
  not_here i other here = let wrong : false ≡ true = sym other ∙ here in cc

  none_passes : (i n : ℕ) → places_from (is_byte 10) text i n ≡ [] → Nowhere (Passes (is_byte 10) text) i (i + n)
  unfolding places_from
  none_passes i zero is = λ k low high here. absurd (omega arith)
  none_passes i (suc n) is =
      elim (cases_Bool (get_or text i 0 == 10)) [
        | inl here ↦ let wrong : i ∷ places_from (is_byte 10) text (i + 1) n ≡ [] = rw here at is in absurd (cc)
        | inr other ↦
            let later = none_passes (i + 1) n (rw other at is) in
            λ k low high. or_later (Passes (is_byte 10) text) i k low (not_here i other) (λ more. later k more (omega arith))
      ]

  first_passes : (i n at : ℕ) (rest : List ℕ) → places_from (is_byte 10) text i n ≡ at ∷ rest
      → NoneBefore (Passes (is_byte 10) text) i (i + n) at × Passes (is_byte 10) text at
  unfolding places_from
  first_passes i zero at rest is = absurd (cc)
  first_passes i (suc n) at rest is =
      elim (cases_Bool (get_or text i 0 == 10)) [
        | inl here ↦
            let first : i ∷ places_from (is_byte 10) text (i + 1) n ≡ at ∷ rest = rw here at is in
            let same : i ≡ at = cc in (
              record { low = omega arith; high = omega arith; before = λ k low high there. absurd (omega arith) },
              subst (Passes (is_byte 10) text) same here,
            )
        | inr other ↦
            let later = first_passes (i + 1) n at rest (rw other at is) in
            let low = later.0.low in
            let high = later.0.high in (
              record {
                low = omega (arith, low);
                high = omega (arith, high);
                before = λ k least less.
                    or_later (Passes (is_byte 10) text) i k least (not_here i other) (λ more. later.0.before k more less);
              },
              later.1,
            )
      ]

  all_places : places (is_byte 10) text ≡ places_from (is_byte 10) text 0 (length text)
  all_places = let all : length text - 0 ≡ length text = omega arith in ap (places_from (is_byte 10) text 0) all

  -- what is taken first of all places is the first one
  pub first_of_all : (rest : List ℕ) (found : Option ℕ) → TakesFirst (places (is_byte 10) text) found rest → IsFirstByte (is_byte 10) text found
  first_of_all rest None takes =
      subst (Nowhere (Passes (is_byte 10) text) 0) (zero-add (length text)) (none_passes 0 (length text) (sym all_places ∙ takes.0))
  first_of_all rest (Some at) takes =
      subst (λ n. NoneBefore (Passes (is_byte 10) text) 0 n at × Passes (is_byte 10) text at) (zero-add (length text))
      (first_passes 0 (length text) at rest (sym all_places ∙ takes))

-- it stands in the text
pub first_inside : (text : List ℕ) (found : Option ℕ) → IsFirstByte (is_byte 10) text found → IfSome found (λ at. at < length text)
first_inside text None first = tt
first_inside text (Some at) first = first.0.high

-- ---- where a text is parted

-- the text is parted at its first line feed
pub record PartedAt (text : List ℕ) (at : ℕ) : Type 0 where
  pub is : text ≡ take at text ++ 10 ∷ drop (at + 1) text
  pub none : HasNoFeed (take at text)

no_byte : (text : List ℕ) (at k : ℕ) → Nowhere (Passes (is_byte 10) text) 0 at → k < at → (get_or text k 0 == 10) ≡ false
no_byte text at k nowhere less =
    elim (cases_Bool (get_or text k 0 == 10)) [
      | inl here ↦ absurd (nowhere k (omega arith) less here)
      | inr other ↦ other
    ]

-- none stands there if none is found
no_feed : (text : List ℕ) → Nowhere (Passes (is_byte 10) text) 0 (length text) → HasNoFeed text
no_feed text nowhere =
    All-from_get_or (λ byte. (byte == 10) ≡ false) text 0 (λ k inside. no_byte text (length text) k nowhere inside)

feed_at : (text : List ℕ) (at : ℕ) → at < length text → Passes (is_byte 10) text at → Nowhere (Passes (is_byte 10) text) 0 at
    → PartedAt text at
feed_at text at inside here nowhere =
    let byte : get_or text at 0 ≡ 10 = eqb-true (get_or text at 0) 10 here in
    record {
      is = sym (take-append-drop at text) ∙ ap (λ l. take at text ++ l) (drop_more text at 0 inside)
          ∙ ap (λ b. take at text ++ b ∷ drop (at + 1) text) byte;
      none = All-from_get_or (λ b. (b == 10) ≡ false) (take at text) 0 (λ k within.
          let size = length-take at text in
          let less : k < at = omega (arith, within, size) in
          ap (λ b. b == 10) (get_or-take at text k 0 less) ∙ no_byte text at k nowhere less);
    }

-- what is found is the first one
pub feed_found : (text : List ℕ) (found : Option ℕ) (at : ℕ) → IsFirstByte (is_byte 10) text found → found ≡ Some at → PartedAt text at
feed_found text None at first is = absurd (cc)
feed_found text (Some place) at first is =
    let same : place ≡ at = cc in
    subst (PartedAt text) same (feed_at text place first.0.high first.1 first.0.before)

-- if nothing is found, there is none
pub no_feed_unless : (text : List ℕ) (found : Option ℕ) → IsFirstByte (is_byte 10) text found → ((at : ℕ) → found ≡ Some at → ⊥)
    → HasNoFeed text
no_feed_unless text None first never = no_feed text first
no_feed_unless text (Some at) first never = absurd (never at refl)

-- ---- how many there are

-- those of a first piece and those after it are all
pub count_split : (rest : List ℕ) (count piece all n : ℕ) → n ≤ length rest → count + line_count rest ≡ all → piece ≡ line_count (take n rest)
    → count + piece + line_count (take (length rest - n) (drop n rest)) ≡ all
count_split rest count piece all n few is first =
    let whole : line_count (take n rest) + line_count (drop n rest) ≡ line_count rest = sum_by-take-drop (λ byte. cond (byte == 10) 1 0) rest n in
    let size : length (drop n rest) ≡ length rest - n = length-drop n rest in
    let tail : line_count (take (length rest - n) (drop n rest)) ≡ line_count (drop n rest) =
    ap line_count (take_all (length rest - n) (drop n rest) (omega (arith, size))) in
    omega (arith, whole, tail, is, first)
