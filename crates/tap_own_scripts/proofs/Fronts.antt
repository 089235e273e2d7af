-- Fronts of lists, and where one ends.
-- Cited above: begins_self, same_front, size_of
use Rattle.std.proofs.Common.{◌≡◌, ◌⊎◌, inl, inr, ℕ, ◌≤◌, List, [], ◌∷◌, ◌++◌, length, take, drop, All, refl, ap, sym, subst, ◌∙◌, arith, append_assoc, length-append}
use Rattle.std.proofs.Math.Seq.{take-append_seam, take-length}
use Rattle.std.proofs.lemmas.Bool.{cases_lt}
use Rattle.std.proofs.lemmas.List.{length-take-le, take-append-drop, take-append-le, take_all}
use Rattle.std.proofs.lemmas.List.Elements.{All-take}
use Rattle.tap_log.specs.declared.record.Record.{Record}
use Rattle.tap_lawful.specs.PlayedLaws.{BeginsWith}
use Rattle.tap_lawful.proofs.SameGroups.{begins_with}

-- ---- where the front of two lists ends

-- in the first one
pub record Before (xs front : List Record) : Type 0 where
  pub rest : List Record
  pub is : xs ≡ front ++ rest

-- or within the second
pub record Past (xs ys front rest : List Record) : Type 0 where
  pub next : Record
  pub more : List Record
  pub front_is : front ≡ xs ++ next ∷ more
  pub ys_are : ys ≡ next ∷ (more ++ rest)

pub front_ends : (xs ys front rest : List Record) → xs ++ ys ≡ front ++ rest → Before xs front ⊎ Past xs ys front rest
front_ends xs ys [] rest is = inl (record { rest = xs; is = refl })
front_ends [] ys (item ∷ front) rest is = inr (record { next = item; more = front; front_is = refl; ys_are = is })
front_ends (x ∷ xs) ys (item ∷ front) rest is =
    let same : x ≡ item = cc in
    let later : xs ++ ys ≡ front ++ rest = cc in
    elim (front_ends xs ys front rest later) [
      | inl before ↦ inl (record { rest = before.rest; is = ap (λ l. x ∷ l) before.is ∙ ap (λ y. y ∷ (front ++ before.rest)) same })
      | inr past ↦ inr (record {
        next = past.next;
        more = past.more;
        front_is = ap (λ l. item ∷ l) past.front_is ∙ ap (λ y. y ∷ (xs ++ past.next ∷ past.more)) (sym same);
        ys_are = past.ys_are;
      })
    ]

-- what holds of each element holds of each of a front
pub all_front : {X : Type 0} (P : X → Type 0) (xs ys : List X) → All P (xs ++ ys) → All P xs
all_front P xs ys all = subst (All P) (take-append_seam xs ys) (All-take P (length xs) (xs ++ ys) all)

-- ---- fronts of logs

pub front_of : (front log : List Record) → BeginsWith front log → log ≡ front ++ drop (length front) log
front_of front log begins = sym (take-append-drop (length front) log) ∙ ap (λ l. l ++ drop (length front) log) begins

pub size_of : (front log : List Record) → BeginsWith front log → length front ≤ length log
size_of front log begins =
    let size = ap length (front_of front log begins) ∙ length-append front (drop (length front) log) in omega (arith, size)

pub begins_front : (k : ℕ) (log : List Record) → BeginsWith (take k log) log
begins_front k log = begins_with (take k log) (drop k log) log (sym (take-append-drop k log))

pub begins_self : (log : List Record) → BeginsWith log log
begins_self log = take-length log

pub begins_through : (one two three : List Record) → BeginsWith one two → BeginsWith two three → BeginsWith one three
begins_through one two three first second =
    let later = drop (length one) two in
    let last = drop (length two) three in
    begins_with one (later ++ last) three
    (front_of two three second ∙ ap (λ l. l ++ last) (front_of one two first) ∙ append_assoc one later last)

-- what is taken of a log is taken of each that it begins
pub same_front : (k : ℕ) (front log : List Record) → BeginsWith front log → k ≤ length front → take k log ≡ take k front
same_front k front log begins within =
    ap (take k) (front_of front log begins) ∙ take-append-le k front (drop (length front) log) within

pub taken_front : (k n : ℕ) (log : List Record) → k ≤ n → BeginsWith (take k log) (take n log)
taken_front k n log within =
    elim (cases_lt (length log) k) [
      | inl past ↦
          subst (λ l. BeginsWith l (take n log)) (sym (take_all k log (omega (arith, past))))
          (subst (BeginsWith log) (sym (take_all n log (omega (arith, past, within)))) (begins_self log))
      | inr inside ↦
          let size = length-take-le k log inside in
          elim (cases_lt (length log) n) [
            | inl past ↦ subst (BeginsWith (take k log)) (sym (take_all n log (omega (arith, past)))) (begins_front k log)
            | inr there ↦
                let whole = length-take-le n log there in
                ap (λ m. take m (take n log)) size ∙ sym (same_front k (take n log) log (begins_front n log) (omega (arith, whole, within)))
          ]
    ]
