-- Towers of levels: what their sums tell, and where the counts of a number stand.
use Rattle.std.proofs.Common.{◌≡◌, ℕ, zero, suc, ◌+◌, ◌*◌, ◌/◌, ◌<◌, ◌≤◌, List, [], ◌∷◌, length, get_or, set, Vec, refl, sym, ap, subst, ◌∙◌, inl, inr, arith}
use Rattle.std.specs.List.{sum}
use Rattle.std.proofs.lemmas.Bool.{cases_order}
use Rattle.std.proofs.lemmas.List.{get_or_past, get_or-map, get_or-set_same, get_or-set_other, length-map, map-set}
use Rattle.std.proofs.lemmas.List.Sums.{sum_by-le, sum_by-take-le, sum_by_more}
use Rattle.tap_outstanding.specs.Levels.{IsSummary, vector_lists, level, IsTower, count_at}
use Rattle.tap_outstanding.proofs.Sums.{sum-monotone, sum-all}

-- what a count stands for is at most the count above it, if there is one
pub summary-count : (lower upper : List ℕ) (at : ℕ) → IsSummary lower upper → at / 8 < length upper
    → get_or lower at 0 ≤ get_or upper (at / 8) 0
summary-count lower upper at s block =
    let size : length upper ≡ length lower / 8 = s.size in
    let within : at < length lower = omega arith in
    omega (
      arith,
      s.sums (at / 8) (omega arith),
      s.sums (at / 8 + 1) (omega arith),
      sum_by_more (λ (x : ℕ). x) upper (at / 8) 0 block,
      sum_by_more (λ (x : ℕ). x) lower at 0 within,
      sum-monotone lower (8 * (at / 8)) at (omega arith),
      sum-monotone lower (at + 1) (8 * (at / 8 + 1)) (omega arith),
    )

module _ {A : Type 0} (marks : List ℕ) (sums : List (Vec ℕ A)) where
  pub level-of : (j : ℕ) (d : Vec ℕ A) → j < length sums → level marks sums (suc j) ≡ (get_or sums j d).items
  level-of j d within = get_or-map (λ (v : Vec ℕ A). v.items) sums j d [] within

  pub level-past : (j : ℕ) → length sums ≤ j → level marks sums (suc j) ≡ []
  level-past j past = get_or_past (vector_lists sums) j [] (simp length-map past)

  pub level-set_same : (m : ℕ) (w : Vec ℕ A) → m < length sums → level marks (set sums m w) (suc m) ≡ w.items
  level-set_same m w within =
      let same = map-set (λ (v : Vec ℕ A). v.items) sums m w in
      let long : m < length (vector_lists sums) = simp length-map within in
      ap (λ (xs : List (List ℕ)). get_or xs m []) same ∙ get_or-set_same (vector_lists sums) m w.items [] long

  pub level-set_next : (m : ℕ) (w : Vec ℕ A) → m < length sums → level marks (set sums m w) (m + 1) ≡ w.items
  level-set_next m w within =
      let e : suc m ≡ m + 1 = omega arith in
      subst (λ (n : ℕ). level marks (set sums m w) n ≡ w.items) e (level-set_same m w within)

  pub level-set_other : (m j : ℕ) (w : Vec ℕ A) → (j ≡ m → ⊥) → level marks (set sums m w) (suc j) ≡ level marks sums (suc j)
  level-set_other m j w other =
      let same = map-set (λ (v : Vec ℕ A). v.items) sums m w in
      ap (λ (xs : List (List ℕ)). get_or xs j []) same ∙ get_or-set_other (vector_lists sums) m j w.items [] other

-- no level has more than the marks, as far as each is the summary of that below
pub totals : {A : Type 0} (marks : List ℕ) (sums : List (Vec ℕ A)) (m : ℕ)
    → ((j : ℕ) → j < m → IsSummary (level marks sums j) (level marks sums (suc j))) → (j : ℕ) → j ≤ m
    → sum (level marks sums j) ≤ sum marks
totals marks sums m summary zero le = omega arith
totals marks sums m summary (suc j) le =
    let s = summary j (omega arith) in
    let end = length (level marks sums (suc j)) in
    omega (
      arith,
      totals marks sums m summary j (omega arith),
      s.sums end (omega arith),
      sum-all (level marks sums (suc j)) end (omega arith),
      sum_by-take-le (λ (x : ℕ). x) (level marks sums j) (8 * end),
    )

-- a vector that is as it was has the counts that it had
pub level-same : {A : Type 0} (marks marks' : List ℕ) (start now : List (Vec ℕ A)) (j : ℕ) → length now ≡ length start → j < length start
    → ((d : Vec ℕ A) → get_or now j d ≡ get_or start j d) → level marks' now (suc j) ≡ level marks start (suc j)
level-same marks marks' [] now j size within same = absurd (omega arith)
level-same {A = A} marks marks' (v ∷ vs) now j size within same =
    level-of marks' now j v (omega arith) ∙ ap (λ (w : Vec ℕ A). w.items) (same v) ∙ sym (level-of marks (v ∷ vs) j v within)

module _ {A : Type 0} (marks : List ℕ) (sums : List (Vec ℕ A)) (tower : IsTower marks sums) where
  pub level-size : (j : ℕ) → j < 10 → length (level marks sums (suc j)) ≡ length (level marks sums j) / 8
  level-size j lt = (tower.summary j lt).size

  pub marked : sum marks ≤ length marks
  marked = let h = sum_by-le (λ (x : ℕ). x) 1 marks tower.ones in omega (arith, h)

  pub few : (j : ℕ) → j < 11 → sum (level marks sums j) ≤ 4000000000
  few j lt = omega (arith, totals marks sums 10 tower.summary j (omega arith), marked, tower.few)

  pub top : length (level marks sums 10) < 8
  top =
      omega (
        arith,
        level-size 0 (omega arith),
        level-size 1 (omega arith),
        level-size 2 (omega arith),
        level-size 3 (omega arith),
        level-size 4 (omega arith),
        level-size 5 (omega arith),
        level-size 6 (omega arith),
        level-size 7 (omega arith),
        level-size 8 (omega arith),
        level-size 9 (omega arith),
        tower.few,
      )

  -- a number whose eight isn't whole in one level has no count in those above
  pub index-past : (number j k : ℕ) → j ≤ k → k < 11 → length (level marks sums j) ≤ count_at number j
      → length (level marks sums k) ≤ count_at number k
  index-past number j zero le lt past = let e : j ≡ 0 = omega arith in subst (λ (i : ℕ). length (level marks sums i) ≤ count_at number i) e past
  index-past number j (suc k) le lt past = elim (cases_order j (suc k)) [
    | inl e ↦ subst (λ (i : ℕ). length (level marks sums i) ≤ count_at number i) e past
    | inr (inl before) ↦ omega (arith, level-size k (omega arith), index-past number j k (omega arith) (omega arith) past)
    | inr (inr after) ↦ absurd (omega arith)
  ]

  pub index-count : (number j : ℕ) → 1 ≤ get_or marks number 0 → j < 11 → count_at number j < length (level marks sums j)
      → 1 ≤ get_or (level marks sums j) (count_at number j) 0
  index-count number zero some lt within = some
  index-count number (suc j) some lt within =
      let size = level-size j (omega arith) in
      let under = index-count number j some (omega arith) (omega arith) in
      let more = summary-count (level marks sums j) (level marks sums (suc j)) (count_at number j) (tower.summary j (omega arith)) within in
      omega (arith, under, more)

-- what a mark is, if there is one
pub mark-within : (xs : List ℕ) (at : ℕ) → get_or xs at 0 ≡ 1 → at < length xs
mark-within [] at mark = absurd (omega arith)
mark-within (x ∷ xs) zero mark = omega arith
mark-within (x ∷ xs) (suc at) mark = omega (arith, mark-within xs at mark)

pub along : (a b c d : List ℕ) → a ≡ c → b ≡ d → IsSummary c d → IsSummary a b
along a b c d e f s = rw (e, f) s

pub same-level : {A : Type 0} (marks : List ℕ) (old new : List (Vec ℕ A)) → vector_lists new ≡ vector_lists old → (j : ℕ)
    → level marks new j ≡ level marks old j
same-level marks old new same zero = refl
same-level marks old new same (suc j) = ap (λ (xs : List (List ℕ)). get_or xs j []) same

-- the same sums make the same tower
pub same-tower : {A : Type 0} (marks marks' : List ℕ) (old new : List (Vec ℕ A)) → marks' ≡ marks → vector_lists new ≡ vector_lists old
    → IsTower marks old → IsTower marks' new
same-tower {A = A} marks marks' old new first same tower =
    let each : (j : ℕ) → level marks new j ≡ level marks old j = same-level marks old new same in
    let long : length (vector_lists new) ≡ length (vector_lists old) = ap length same in
    let height = tower.height in
    subst (λ (ms : List ℕ). IsTower ms new) (sym first) (record {
      height = omega (arith, length-map new (λ (v : Vec ℕ A). v.items), length-map old (λ (v : Vec ℕ A). v.items), long);
      few = tower.few;
      ones = tower.ones;
      summary = λ j lt. along _ _ _ _ (each j) (each (suc j)) (tower.summary j lt);
    })
