-- One less at a number's count in each level that has one keeps a tower.
use Rattle.std.proofs.Common.{◌≡◌, ℕ, zero, suc, ◌+◌, ◌*◌, ◌/◌, ◌-◌, ◌<◌, ◌≤◌, List, [], length, get_or, set, Vec, All, refl, sym, ap, subst, ◌∙◌, inl, inr, arith}
use Rattle.std.specs.Vec.{vec_len, vec_capacity}
use Rattle.std.proofs.lemmas.Bool.{cases_order}
use Rattle.std.proofs.lemmas.List.{get_or-set_other, length-set, set_past}
use Rattle.std.proofs.lemmas.List.Elements.{All-set}
use Rattle.tap_outstanding.specs.Levels.{IsSummary, level, IsTower, HaveRoom, count_at}
use Rattle.tap_outstanding.proofs.Sums.{below, below-lt, below-ge, sum-lowered}
use Rattle.tap_outstanding.proofs.Towers.{summary-count, level-of, level-set_same, level-set_other, level-same, along, index-past, index-count}

-- a place is below another among the blocks of eight exactly if it is below the first of that block
below-blocks : (at i : ℕ) → below (at / 8) i ≡ below at (8 * i)
below-blocks at i = elim (cases_order at (8 * i)) [
  | inl e ↦ below-ge (at / 8) i (omega arith) ∙ sym (below-ge at (8 * i) (omega arith))
  | inr (inl lt) ↦ below-lt (at / 8) i (omega arith) ∙ sym (below-lt at (8 * i) lt)
  | inr (inr gt) ↦ below-ge (at / 8) i (omega arith) ∙ sym (below-ge at (8 * i) (omega arith))
]

-- one less at a place, if there is one
abbrev pub one_less : List ℕ → ℕ → List ℕ
one_less counts at = set counts at (get_or counts at 0 - 1)

-- a count that is within a whole eight is lowered with the sum of it
summary-within : (lower upper : List ℕ) (at : ℕ) → IsSummary lower upper → at / 8 < length upper → 1 ≤ get_or lower at 0
    → IsSummary (one_less lower at) (one_less upper (at / 8))
summary-within lower upper at s block some =
    let size : length upper ≡ length lower / 8 = s.size in
    let within : at < length lower = omega arith in
    let above : 1 ≤ get_or upper (at / 8) 0 = omega (arith, summary-count lower upper at s block) in
    record {
      size = simp length-set size;
      sums = λ i le. omega (
        arith,
        s.sums i (simp length-set at le),
        sum-lowered lower at (8 * i) within some,
        sum-lowered upper (at / 8) i block above,
        below-blocks at i,
      );
    }

-- and one that isn't, without
summary-beyond : (lower upper : List ℕ) (at : ℕ) → IsSummary lower upper → length upper ≤ at / 8 → at < length lower
    → 1 ≤ get_or lower at 0 → IsSummary (one_less lower at) upper
summary-beyond lower upper at s beyond within some =
    let size : length upper ≡ length lower / 8 = s.size in
    record {
      size = simp length-set size;
      sums = λ i le. omega (
        arith,
        s.sums i le,
        sum-lowered lower at (8 * i) within some,
        below-ge at (8 * i) (omega arith),
      );
    }

summary-lowered : (lower upper : List ℕ) (at : ℕ) → IsSummary lower upper → (at < length lower → 1 ≤ get_or lower at 0)
    → IsSummary (one_less lower at) (one_less upper (at / 8))
summary-lowered lower upper at s some = elim (cases_order (at / 8) (length upper)) [
  | inl e ↦ beyond (omega arith)
  | inr (inl block) ↦ let size = s.size in summary-within lower upper at s block (some (omega arith))
  | inr (inr past) ↦ beyond (omega arith)
]
  where
    beyond : length upper ≤ at / 8 → IsSummary (one_less lower at) (one_less upper (at / 8))
    beyond le =
        let same : one_less upper (at / 8) ≡ upper = set_past upper (at / 8) (get_or upper (at / 8) 0 - 1) le in
        elim (cases_order at (length lower)) [
          | inl e ↦ along _ _ _ _ (set_past lower at (get_or lower at 0 - 1) (omega arith)) same s
          | inr (inl within) ↦ along _ _ _ _ refl same (summary-beyond lower upper at s le within (some within))
          | inr (inr past) ↦ along _ _ _ _ (set_past lower at (get_or lower at 0 - 1) (omega arith)) same s
        ]

-- a loop over the sums, after a mark was taken away, that has lowered those of the first `m` levels
pub record IsLoweredUpTo {A : Type 0} (start now : List (Vec ℕ A)) (number m at : ℕ) : Type 0 where
  pub place : at ≡ count_at number (suc m)
  pub size : length now ≡ length start
  pub done : (j : ℕ) → j < m → level [] now (suc j) ≡ one_less (level [] start (suc j)) (count_at number (suc j))
  pub rest : (j : ℕ) (d : Vec ℕ A) → m ≤ j → get_or now j d ≡ get_or start j d
  pub room : (room : ℕ) → HaveRoom start room → HaveRoom now room

module _ {A : Type 0} (start : List (Vec ℕ A)) (number : ℕ) where
  pub nothing-lowered : IsLoweredUpTo start start number 0 (number / 8)
  nothing-lowered = record {
    place = refl;
    size = refl;
    done = λ j lt. absurd (omega arith);
    rest = λ j d le. refl;
    room = λ room have. have;
  }

  -- the level that comes next is as it was
  pub next-level : (now : List (Vec ℕ A)) (m at : ℕ) (d : Vec ℕ A) → IsLoweredUpTo start now number m at → m < length now
      → level [] start (suc m) ≡ (get_or now m d).items
  next-level now m at d s within =
      let size = s.size in
      level-of [] start m d (omega arith) ∙ ap (λ (v : Vec ℕ A). v.items) (sym (s.rest m d (omega arith)))

  pub one-more-lowered : (now : List (Vec ℕ A)) (m at : ℕ) (d w : Vec ℕ A) → IsLoweredUpTo start now number m at
      → m < length now → w.items ≡ one_less (get_or now m d).items at → vec_len w ≡ vec_len (get_or now m d)
      → vec_capacity w ≡ vec_capacity (get_or now m d) → IsLoweredUpTo start (set now m w) number (m + 1) (at / 8)
  one-more-lowered now m at d w s within items len capacity =
      let e : suc m ≡ m + 1 = omega arith in
      let was = next-level now m at d s within in
      let size = s.size in
      let place = s.place in
      let same = s.rest m d (omega arith) in
      subst (λ (n : ℕ). IsLoweredUpTo start (set now m w) number n (at / 8)) e (record {
        place = ap (λ (n : ℕ). n / 8) place;
        size = length-set now m w ∙ size;
        done = λ j lt. elim (cases_order j m) [
          | inl here ↦ subst (λ (k : ℕ). level [] (set now m w) (suc k) ≡ one_less (level [] start (suc k)) (count_at number (suc k))) (sym here)
              (level-set_same [] now m w within ∙ items ∙ ap (λ (xs : List ℕ). one_less xs at) (sym was)
              ∙ ap (λ (k : ℕ). one_less (level [] start (suc m)) k) place)
          | inr (inl before) ↦ level-set_other [] now m j w (λ here. absurd (omega arith)) ∙ s.done j before
          | inr (inr after) ↦ absurd (omega arith)
        ];
        rest = λ j e' le. get_or-set_other now m j w e' (λ here. absurd (omega arith)) ∙ s.rest j e' (omega arith);
        room = λ room have.
            let h = have m d (omega arith) in
            let there = subst (λ (v : Vec ℕ A). vec_len v + room ≤ vec_capacity v) (sym same) h in
            All-set (λ (v : Vec ℕ A). vec_len v + room ≤ vec_capacity v) now m w (omega (arith, there, len, capacity)) (s.room room have);
      })

module _ {A : Type 0} (marks : List ℕ) (start now : List (Vec ℕ A)) (number m at : ℕ) (tower : IsTower marks start)
    (mark : get_or marks number 0 ≡ 1) (s : IsLoweredUpTo start now number m at) where
  some-at : (j : ℕ) → j < 11 → count_at number j < length (level marks start j) → 1 ≤ get_or (level marks start j) (count_at number j) 0
  some-at j lt within = index-count marks start tower number j (omega arith) lt within

  -- each level is lowered, be it that a level has no count of the number or that all are done
  lowered-at : (m < 10 → length (level marks start (suc m)) ≤ at) → (j : ℕ) → j < 10
      → level [] now (suc j) ≡ one_less (level marks start (suc j)) (count_at number (suc j))
  lowered-at past j lt = elim (cases_order j m) [
    | inl here ↦ unchanged (omega arith)
    | inr (inl before) ↦ s.done j before
    | inr (inr after) ↦ unchanged (omega arith)
  ]
    where
      unchanged : m ≤ j → level [] now (suc j) ≡ one_less (level marks start (suc j)) (count_at number (suc j))
      unchanged le =
          let height = tower.height in
          let place = s.place in
          let first = past (omega arith) in
          let beyond = index-past marks start tower number (suc m) (suc j) (omega arith) (omega arith) (omega arith) in
          level-same marks [] start now j s.size (omega arith) (λ d. s.rest j d (omega arith))
          ∙ sym (set_past (level marks start (suc j)) (count_at number (suc j)) (get_or (level marks start (suc j)) (count_at number (suc j)) 0 - 1) beyond)

  lowered-each : (marks' : List ℕ) → marks' ≡ set marks number 0 → (m < 10 → length (level marks start (suc m)) ≤ at) → (j : ℕ) → j < 11
      → level marks' now j ≡ one_less (level marks start j) (count_at number j)
  lowered-each marks' is past zero lt = let none : 0 ≡ get_or marks number 0 - 1 = omega arith in is ∙ ap (λ (x : ℕ). set marks number x) none
  lowered-each marks' is past (suc j) lt = lowered-at past j (omega arith)

  pub lowered-tower : (marks' : List ℕ) → marks' ≡ set marks number 0 → (m < 10 → length (level marks start (suc m)) ≤ at) → IsTower marks' now
  lowered-tower marks' is past = record {
    height = s.size ∙ tower.height;
    few = omega (arith, ap (λ (xs : List ℕ). length xs) is, length-set marks number 0, tower.few);
    ones = subst (λ (xs : List ℕ). All (λ x. x ≤ 1) xs) (sym is) (All-set (λ x. x ≤ 1) marks number 0 (omega arith) tower.ones);
    summary = λ j lt. along _ _ _ _ (lowered-each marks' is past j (omega arith)) (lowered-each marks' is past (suc j) (omega arith))
        (summary-lowered (level marks start j) (level marks start (suc j)) (count_at number j) (tower.summary j lt) (some-at j (omega arith)));
  }

module _ {A : Type 0} (marks : List ℕ) (start now : List (Vec ℕ A)) (number m at : ℕ) (tower : IsTower marks start)
    (s : IsLoweredUpTo start now number m at) (d : Vec ℕ A) (within : m < length now) where
  pub lower-some : get_or marks number 0 ≡ 1 → at < length (get_or now m d).items → 1 ≤ get_or (get_or now m d).items at 0
  lower-some mark inside =
      let size = s.size in
      let height = tower.height in
      let place = s.place in
      let was = next-level start number now m at d s within in
      let some : 1 ≤ get_or marks number 0 = omega arith in
      let long = ap (λ (xs : List ℕ). length xs) was in
      let here = ap (λ (xs : List ℕ). get_or xs at 0) was in
      let there = ap (λ (k : ℕ). get_or (level marks start (suc m)) k 0) place in
      omega (arith, here, there, index-count marks start tower number (suc m) some (omega arith) (omega arith))

  pub lower-past : length (get_or now m d).items ≤ at → length (level marks start (suc m)) ≤ at
  lower-past past =
      let long = ap (λ (xs : List ℕ). length xs) (next-level start number now m at d s within) in
      omega (arith, long)
