-- Texts with a line feed after each: how bytes are parted into them, their first ones, and their number.
use Rattle.std.proofs.Common.{◌≡◌, ℕ, suc, ◌+◌, ◌==◌, cond, true, false, List, [], ◌∷◌, ◌++◌, length, refl, ap, sym, subst, ◌∙◌, arith, append_assoc}
use Rattle.std.specs.Prelude.{if◌then◌else◌}
use Rattle.std.specs.List.{AllByRecursion}
use Rattle.std.proofs.lemmas.List.Elements.{All-head, All-tail}
use Rattle.std.proofs.lemmas.List.Sums.{sum_by-cons}
use Rattle.tap_line.specs.Laws.{HasNoFeed}
use Rattle.tap_shape.specs.Text.{first_lines, line_count}

-- texts one after another, each with a line feed
abbrev pub fed : List (List ℕ) → List ℕ
fed [] = []
fed (text ∷ texts) = text ++ 10 ∷ fed texts

-- no text has a line feed of its own
abbrev pub AreUnfed : List (List ℕ) → Type 0
AreUnfed texts = AllByRecursion HasNoFeed texts

pub fed-append : (ts us : List (List ℕ)) → fed (ts ++ us) ≡ fed ts ++ fed us
fed-append [] us = refl
fed-append (t ∷ ts) us = ap (λ l. t ++ 10 ∷ l) (fed-append ts us) ∙ sym (append_assoc t (10 ∷ fed ts) (fed us))

-- one more text, taken from what is left
pub fed-more : (ts : List (List ℕ)) (text rest : List ℕ) → fed ts ++ (text ++ 10 ∷ rest) ≡ fed (ts ++ text ∷ []) ++ rest
fed-more ts text rest =
    sym (ap (λ l. l ++ rest) (fed-append ts (text ∷ [])) ∙ append_assoc (fed ts) (text ++ 10 ∷ []) rest
    ∙ ap (λ l. fed ts ++ l) (append_assoc text (10 ∷ []) rest))

pub unfed-append : (ts us : List (List ℕ)) → AreUnfed ts → AreUnfed us → AreUnfed (ts ++ us)
unfed-append [] us all also = also
unfed-append (t ∷ ts) us all also = (all.0, unfed-append ts us all.1 also)

-- ---- bytes are parted at line feeds in one way

abbrev Unfed : ℕ → Type 0
Unfed byte = (byte == 10) ≡ false

never : (byte : ℕ) → Unfed byte → byte ≡ 10 → ⊥
never byte unfed is = let wrong : true ≡ false = sym (ap (λ b. b == 10) is) ∙ unfed in cc

parts : (xs ys more others : List ℕ) → HasNoFeed xs → HasNoFeed ys → xs ++ 10 ∷ more ≡ ys ++ 10 ∷ others → (xs ≡ ys) × (more ≡ others)
parts [] [] more others none also is = (refl, cc)
parts [] (y ∷ ys) more others none also is = absurd (never y (All-head Unfed y ys also) cc)
parts (x ∷ xs) [] more others none also is = absurd (never x (All-head Unfed x xs none) cc)
parts (x ∷ xs) (y ∷ ys) more others none also is =
    let first : x ≡ y = cc in
    let later : xs ++ 10 ∷ more ≡ ys ++ 10 ∷ others = cc in
    let rest = parts xs ys more others (All-tail Unfed x xs none) (All-tail Unfed y ys also) later in
    (ap (λ l. x ∷ l) rest.0 ∙ ap (λ b. b ∷ ys) first, rest.1)

no_feed_there : (xs ys : List ℕ) → HasNoFeed (xs ++ 10 ∷ ys) → ⊥
no_feed_there [] ys none = never 10 (All-head Unfed 10 ys none) refl
no_feed_there (x ∷ xs) ys none = no_feed_there xs ys (All-tail Unfed x (xs ++ 10 ∷ ys) none)

nothing : (xs ys : List ℕ) → [] ≡ xs ++ 10 ∷ ys → ⊥
nothing [] ys is = cc
nothing (x ∷ xs) ys is = cc

-- the texts that come after these and the next one
pub record NextText (ts us : List (List ℕ)) (text : List ℕ) : Type 0 where
  pub later : List (List ℕ)
  pub are : us ≡ ts ++ text ∷ later

-- bytes that begin with these texts and one more have it as their next one
pub next_text : (ts us : List (List ℕ)) (text more : List ℕ) → AreUnfed ts → AreUnfed us → HasNoFeed text
    → fed us ≡ fed ts ++ (text ++ 10 ∷ more) → NextText ts us text
next_text [] [] text more fit also none is = absurd (nothing text more is)
next_text [] (u ∷ us) text more fit also none is =
    let both = parts u text (fed us) more also.0 none is in
    record { later = us; are = ap (λ t. t ∷ us) both.0 }
next_text (t ∷ ts) [] text more fit also none is =
    absurd (nothing t (fed ts ++ (text ++ 10 ∷ more)) (is ∙ append_assoc t (10 ∷ fed ts) (text ++ 10 ∷ more)))
next_text (t ∷ ts) (u ∷ us) text more fit also none is =
    let both = parts u t (fed us) (fed ts ++ (text ++ 10 ∷ more)) also.0 fit.0 (is ∙ append_assoc t (10 ∷ fed ts) (text ++ 10 ∷ more)) in
    let rest = next_text ts us text more fit.1 also.1 none both.1 in
    record { later = rest.later; are = ap (λ l. u ∷ l) rest.are ∙ ap (λ t. t ∷ (ts ++ text ∷ rest.later)) both.0 }

-- bytes that are these texts and a rest without line feed are these texts
pub no_more : (ts us : List (List ℕ)) (rest : List ℕ) → AreUnfed ts → AreUnfed us → HasNoFeed rest → fed us ≡ fed ts ++ rest
    → (us ≡ ts) × (rest ≡ [])
no_more [] [] rest fit also none is = (refl, sym is)
no_more [] (u ∷ us) rest fit also none is = absurd (no_feed_there u (fed us) (subst HasNoFeed (sym is) none))
no_more (t ∷ ts) [] rest fit also none is = absurd (nothing t (fed ts ++ rest) (is ∙ append_assoc t (10 ∷ fed ts) rest))
no_more (t ∷ ts) (u ∷ us) rest fit also none is =
    let both = parts u t (fed us) (fed ts ++ rest) also.0 fit.0 (is ∙ append_assoc t (10 ∷ fed ts) rest) in
    let later = no_more ts us rest fit.1 also.1 none both.1 in
    (ap (λ l. u ∷ l) later.0 ∙ ap (λ t. t ∷ ts) both.0, later.1)

-- ---- the first lines, and how many there are

first_of : (count : ℕ) (text more : List ℕ) → HasNoFeed text → first_lines (suc count) (text ++ 10 ∷ more) ≡ text ++ 10 ∷ first_lines count more
first_of count [] more none = refl
first_of count (byte ∷ text) more none =
    ap (λ b. byte ∷ first_lines (if b then count else suc count) (text ++ 10 ∷ more)) (All-head Unfed byte text none)
    ∙ ap (λ l. byte ∷ l) (first_of count text more (All-tail Unfed byte text none))

no_lines : (bytes : List ℕ) → first_lines 0 bytes ≡ []
no_lines [] = refl
no_lines (byte ∷ bytes) = refl

-- as many lines as there are texts are these texts
pub first_lines_are : (ts : List (List ℕ)) (rest : List ℕ) → AreUnfed ts → first_lines (length ts) (fed ts ++ rest) ≡ fed ts
first_lines_are [] rest fit = no_lines rest
first_lines_are (t ∷ ts) rest fit =
    ap (first_lines (length (t ∷ ts))) (append_assoc t (10 ∷ fed ts) rest) ∙ first_of (length ts) t (fed ts ++ rest) fit.0
    ∙ ap (λ l. t ++ 10 ∷ l) (first_lines_are ts rest fit.1)

-- and with one more
pub first_and_next : (ts : List (List ℕ)) (text rest : List ℕ) → AreUnfed ts → HasNoFeed text
    → first_lines (suc (length ts)) (fed ts ++ (text ++ 10 ∷ rest)) ≡ fed ts ++ (text ++ 10 ∷ [])
first_and_next [] text rest fit none = first_of 0 text rest none ∙ ap (λ l. text ++ 10 ∷ l) (no_lines rest)
first_and_next (t ∷ ts) text rest fit none =
    ap (first_lines (suc (length (t ∷ ts)))) (append_assoc t (10 ∷ fed ts) (text ++ 10 ∷ rest))
    ∙ first_of (suc (length ts)) t (fed ts ++ (text ++ 10 ∷ rest)) fit.0 ∙ ap (λ l. t ++ 10 ∷ l) (first_and_next ts text rest fit.1 none)
    ∙ sym (append_assoc t (10 ∷ fed ts) (text ++ 10 ∷ []))

pub count-cons : (byte : ℕ) (bytes : List ℕ) → line_count (byte ∷ bytes) ≡ cond (byte == 10) 1 0 + line_count bytes
count-cons byte bytes = sum_by-cons (λ b. cond (b == 10) 1 0) byte bytes

pub count_none : (rest : List ℕ) → HasNoFeed rest → line_count rest ≡ 0
count_none [] none = refl
count_none (byte ∷ rest) none =
    count-cons byte rest ∙ ap (λ b. cond b 1 0 + line_count rest) (All-head Unfed byte rest none)
    ∙ (let later = count_none rest (All-tail Unfed byte rest none) in omega (arith, later))

pub count_of : (text more : List ℕ) → HasNoFeed text → line_count (text ++ 10 ∷ more) ≡ 1 + line_count more
count_of [] more none = count-cons 10 more
count_of (byte ∷ text) more none =
    count-cons byte (text ++ 10 ∷ more) ∙ ap (λ b. cond b 1 0 + line_count (text ++ 10 ∷ more)) (All-head Unfed byte text none)
    ∙ (let later = count_of text more (All-tail Unfed byte text none) in omega (arith, later))

-- there are as many lines as texts
pub count_texts : (ts : List (List ℕ)) (rest : List ℕ) → AreUnfed ts → HasNoFeed rest → line_count (fed ts ++ rest) ≡ length ts
count_texts [] rest fit none = count_none rest none
count_texts (t ∷ ts) rest fit none =
    let one = ap line_count (append_assoc t (10 ∷ fed ts) rest) ∙ count_of t (fed ts ++ rest) fit.0 in
    let more = count_texts ts rest fit.1 none in
    omega (arith, one, more)
