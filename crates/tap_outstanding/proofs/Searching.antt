-- What the loops that search for a mark, and that count those before one, keep.
use Rattle.std.proofs.Common.{◌≡◌, ℕ, zero, suc, ◌+◌, ◌*◌, ◌/◌, ◌-◌, ◌<◌, ◌≤◌, List, length, get_or, Vec, sym, ap, subst, ◌∙◌, inl, inr, arith}
use Rattle.std.specs.List.{sum}
use Rattle.std.proofs.lemmas.Bool.{cases_order}
use Rattle.std.proofs.lemmas.List.Sums.{sum_by-take-le}
use Rattle.tap_outstanding.specs.Levels.{sum_before, level, IsTower, count_at}
use Rattle.tap_outstanding.proofs.Sums.{sum-nothing, sum-monotone}
use Rattle.tap_outstanding.proofs.Towers.{level-of, level-past, level-size, few, top}

-- where a search for a place goes on in level `j`
pub record IsSpot {A : Type 0} (marks : List ℕ) (sums : List (Vec ℕ A)) (place j at left : ℕ) : Type 0 where
  pub within : at ≤ length (level marks sums j)
  pub reached : sum_before (level marks sums j) at + left ≡ place

-- a loop that has counted what stands before a number, but for the counts before `at` of level `m + 1`
pub record IsRanked {A : Type 0} (marks : List ℕ) (sums : List (Vec ℕ A)) (number m at place : ℕ) : Type 0 where
  pub counted : sum_before (level marks sums (suc m)) at + place ≡ sum_before marks number
  pub within : m < 10 → at ≤ length (level marks sums (suc m))

module _ {A : Type 0} (marks : List ℕ) (sums : List (Vec ℕ A)) (tower : IsTower marks sums) where
  -- where no mark stands before a number, nothing is counted before its place in a level
  low-within : (low j : ℕ) → low ≤ length marks → j ≤ 10 → count_at low j ≤ length (level marks sums j)
  low-within low zero inside le = inside
  low-within low (suc j) inside le =
      let size = level-size marks sums tower j (omega arith) in
      omega (arith, size, low-within low j inside (omega arith))

  low-none : (low j : ℕ) → low ≤ length marks → sum_before marks low ≡ 0 → j ≤ 10 → sum_before (level marks sums j) (count_at low j) ≡ 0
  low-none low zero inside none le = none
  low-none low (suc j) inside none le =
      let within = low-within low (suc j) inside le in
      let up = (tower.summary j (omega arith)).sums (count_at low (suc j)) within in
      let under = sum-monotone (level marks sums j) (8 * count_at low (suc j)) (count_at low j) (omega arith) in
      omega (arith, up, under, low-none low j inside none (omega arith))

  pub spot-first : (low place j at : ℕ) → low ≤ length marks → sum_before marks low ≡ 0 → j ≤ 10 → at ≡ count_at low j
      → IsSpot marks sums place j at place
  spot-first low place j at inside none le is =
      let here = ap (λ (i : ℕ). sum_before (level marks sums j) i) is in
      record {
        within = omega (arith, is, low-within low j inside le);
        reached = omega (arith, here, low-none low j inside none le);
      }

  pub spot-within : (place height at left : ℕ) (d : Vec ℕ A) → height ≤ 10 → 0 < height → IsSpot marks sums place height at left
      → at ≤ length (get_or sums (height - 1) d).items
  spot-within place zero at left d le pos spot = absurd (omega arith)
  spot-within place (suc i) at left d le pos spot =
      let height = tower.height in
      let e : suc i - 1 ≡ i = omega arith in
      subst (λ (k : ℕ). at ≤ length (get_or sums k d).items) (sym e)
      (subst (λ (xs : List ℕ). at ≤ length xs) (level-of marks sums i d (omega arith)) spot.within)

  pub spot-next : (place height at left at' left' : ℕ) (d : Vec ℕ A) → height ≤ 10 → 0 < height → IsSpot marks sums place height at left
      → at' ≤ length (get_or sums (height - 1) d).items
      → sum_before (get_or sums (height - 1) d).items at' + left' ≡ sum_before (get_or sums (height - 1) d).items at + left
      → IsSpot marks sums place (height - 1) (at' * 8) left'
  spot-next place zero at left at' left' d le pos spot within reached = absurd (omega arith)
  spot-next place (suc i) at left at' left' d le pos spot within reached =
      let height = tower.height in
      let e : suc i - 1 ≡ i = omega arith in
      let here : (get_or sums (suc i - 1) d).items ≡ level marks sums (suc i) =
      ap (λ (k : ℕ). (get_or sums k d).items) e ∙ sym (level-of marks sums i d (omega arith)) in
      let long = ap (λ (xs : List ℕ). length xs) here in
      let there = ap (λ (xs : List ℕ). sum_before xs at') here in
      let from = ap (λ (xs : List ℕ). sum_before xs at) here in
      let size = level-size marks sums tower i (omega arith) in
      let was = spot.reached in
      let inside : at' ≤ length (level marks sums (suc i)) = omega arith in
      let down = (tower.summary i (omega arith)).sums at' inside in
      let turn : at' * 8 ≡ 8 * at' = omega arith in
      let same = ap (λ (k : ℕ). sum_before (level marks sums i) k) turn in
      subst (λ (k : ℕ). IsSpot marks sums place k (at' * 8) left') (sym e) (record {
        within = omega arith;
        reached = omega (arith, reached, there, from, was, down, same);
      })

  pub rank-first : (number place : ℕ) → number < length marks → sum_before marks (8 * (number / 8)) + place ≡ sum_before marks number
      → IsRanked marks sums number 0 (number / 8) place
  rank-first number place within counted =
      let size = level-size marks sums tower 0 (omega arith) in
      let down = (tower.summary 0 (omega arith)).sums (number / 8) (omega arith) in
      record {
        counted = omega (arith, counted, down);
        within = λ lt. omega arith;
      }

  pub rank-fits : (m : ℕ) (d : Vec ℕ A) → m < 10 → sum (get_or sums m d).items < 4294967296
  rank-fits m d lt =
      let height = tower.height in
      omega (arith, ap (λ (xs : List ℕ). sum xs) (level-of marks sums m d (omega arith)), few marks sums tower (suc m) (omega arith))

  pub rank-add : (number m at place part : ℕ) (d : Vec ℕ A) → m < 10 → IsRanked marks sums number m at place
      → sum_before (get_or sums m d).items (8 * (at / 8)) + part ≡ sum_before (get_or sums m d).items at → place + part < 4294967296
  rank-add number m at place part d lt ranked between =
      let height = tower.height in
      let counted = ranked.counted in
      let here = ap (λ (xs : List ℕ). sum_before xs at) (level-of marks sums m d (omega arith)) in
      let most = sum_by-take-le (λ (x : ℕ). x) marks number in
      let all = few marks sums tower 0 (omega arith) in
      omega (arith, between, here, most, all, counted)

  pub rank-within : (number m at place : ℕ) (d : Vec ℕ A) → m < 10 → IsRanked marks sums number m at place
      → at ≤ length (get_or sums m d).items
  rank-within number m at place d lt ranked =
      let height = tower.height in
      let within = ranked.within lt in
      subst (λ (xs : List ℕ). at ≤ length xs) (level-of marks sums m d (omega arith)) within

  rank-step : (number m at place part : ℕ) → m < 10 → IsRanked marks sums number m at place
      → sum_before (level marks sums (suc m)) (8 * (at / 8)) + part ≡ sum_before (level marks sums (suc m)) at
      → IsRanked marks sums number (suc m) (at / 8) (place + part)
  rank-step number m at place part lt ranked between =
      let within = ranked.within lt in
      let so_far = ranked.counted in
      elim (cases_order m 9) [
        | inl is ↦ at_top is within so_far
        | inr (inl under) ↦
            let size = level-size marks sums tower (suc m) (omega arith) in
            record {
              counted = omega (arith, so_far, between, (tower.summary (suc m) (omega arith)).sums (at / 8) (omega arith));
              within = λ lt'. omega arith;
            }
        | inr (inr over) ↦ absurd (omega arith)
      ]
    where
      at_top : m ≡ 9 → at ≤ length (level marks sums (suc m))
          → sum_before (level marks sums (suc m)) at + place ≡ sum_before marks number
          → IsRanked marks sums number (suc m) (at / 8) (place + part)
      at_top is within so_far =
          let short : length (level marks sums (suc m)) < 8 =
          subst (λ (k : ℕ). length (level marks sums (suc k)) < 8) (sym is) (top marks sums tower) in
          let height = tower.height in
          let none = level-past marks sums (suc m) (omega arith) in
          let empty : sum_before (level marks sums (suc (suc m))) (at / 8) ≡ 0 =
          ap (λ (xs : List ℕ). sum_before xs (at / 8)) none ∙ sum-nothing (at / 8) in
          let low = sum-monotone (level marks sums (suc m)) (8 * (at / 8)) 0 (omega arith) in
          record {
            counted = omega (arith, so_far, between, empty, low);
            within = λ lt'. absurd (omega arith);
          }

  pub rank-next : (number m at place part : ℕ) (d : Vec ℕ A) → m < 10 → IsRanked marks sums number m at place
      → sum_before (get_or sums m d).items (8 * (at / 8)) + part ≡ sum_before (get_or sums m d).items at
      → IsRanked marks sums number (m + 1) (at / 8) (place + part)
  rank-next number m at place part d lt ranked between =
      let height = tower.height in
      let e : suc m ≡ m + 1 = omega arith in
      subst (λ (n : ℕ). IsRanked marks sums number n (at / 8) (place + part)) e
      (rank-step number m at place part lt ranked
      (subst (λ (xs : List ℕ). sum_before xs (8 * (at / 8)) + part ≡ sum_before xs at) (sym (level-of marks sums m d (omega arith))) between))

  -- how the search ends
  pub rank-end : (number m at place : ℕ) → m ≡ 10 → IsRanked marks sums number m at place → place ≡ sum_before marks number
  rank-end number m at place end ranked =
      let height = tower.height in
      let none = level-past marks sums m (omega arith) in
      let empty : sum_before (level marks sums (suc m)) at ≡ 0 = ap (λ (xs : List ℕ). sum_before xs at) none ∙ sum-nothing at in
      let counted = ranked.counted in
      omega (arith, empty, counted)
