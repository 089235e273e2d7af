-- One more mark, and the sums of the eights that it makes whole, keep a tower.
use Rattle.std.proofs.Common.{◌≡◌, ℕ, zero, suc, ◌+◌, ◌*◌, ◌/◌, ◌%◌, ◌-◌, ◌<◌, ◌≤◌, List, [], ◌∷◌, ◌++◌, length, get_or, set, Vec, All, refl, sym, ap, subst, ◌∙◌, inl, inr, arith, length-append}
use Rattle.std.specs.List.{sum}
use Rattle.std.specs.Vec.{vec_len, vec_capacity}
use Rattle.std.proofs.lemmas.Bool.{cases_order}
use Rattle.std.proofs.lemmas.List.{get_or-set_other, length-set}
use Rattle.std.proofs.lemmas.List.Elements.{All-push, All-set}
use Rattle.std.proofs.lemmas.List.Sums.{sum_by_push}
use Rattle.tap_outstanding.specs.Levels.{sum_before, IsSummary, level, IsTower, HaveRoom}
use Rattle.tap_outstanding.proofs.Sums.{sum-all, sum-pushed}
use Rattle.tap_outstanding.proofs.Towers.{level-of, level-set_same, level-set_other, level-same, along, totals, marked}

-- an eight that isn't whole has no sum yet
summary-left : (lower upper : List ℕ) (count : ℕ) → IsSummary lower upper → (length (lower ++ count ∷ []) % 8 ≡ 0 → ⊥)
    → IsSummary (lower ++ count ∷ []) upper
summary-left lower upper count s left =
    let size : length upper ≡ length lower / 8 = s.size in
    let long = length-append lower (count ∷ []) in
    let more : length (lower ++ count ∷ []) ≡ length lower + 1 = omega arith in
    let same : length lower / 8 ≡ length (lower ++ count ∷ []) / 8 = omega (arith, left) in
    record {
      size = omega arith;
      sums = λ at within. omega (arith, s.sums at within, sum-pushed lower (count ∷ []) (8 * at) (omega arith));
    }

-- and one that is whole has one
summary-whole : (lower upper : List ℕ) (count added : ℕ) → IsSummary lower upper
    → length (lower ++ count ∷ []) % 8 ≡ 0
    → sum_before (lower ++ count ∷ []) (length (lower ++ count ∷ []) - 8) + added ≡ sum (lower ++ count ∷ [])
    → IsSummary (lower ++ count ∷ []) (upper ++ added ∷ [])
summary-whole lower upper count added s whole adds =
    let size : length upper ≡ length lower / 8 = s.size in
    let long = length-append lower (count ∷ []) in
    let more : length (lower ++ count ∷ []) ≡ length lower + 1 = omega arith in
    let long' = length-append upper (added ∷ []) in
    let more' : length (upper ++ added ∷ []) ≡ length upper + 1 = omega arith in
    record {
      size = omega arith;
      sums = λ at within. elim (cases_order at (length upper + 1)) [
        | inl e ↦ at_end at e size more more'
        | inr (inl before) ↦ omega (
          arith,
          s.sums at (omega arith),
          sum-pushed lower (count ∷ []) (8 * at) (omega arith),
          sum-pushed upper (added ∷ []) at (omega arith),
        )
        | inr (inr after) ↦ absurd (omega arith)
      ];
    }
  where
    at_end : (at : ℕ) → at ≡ length upper + 1 → length upper ≡ length lower / 8 → length (lower ++ count ∷ []) ≡ length lower + 1
        → length (upper ++ added ∷ []) ≡ length upper + 1
        → sum_before (upper ++ added ∷ []) at ≡ sum_before (lower ++ count ∷ []) (8 * at)
    at_end at e size more more' =
        let last : 8 * length upper ≡ length (lower ++ count ∷ []) - 8 = omega arith in
        let front = ap (λ (i : ℕ). sum_before (lower ++ count ∷ []) i) last in
        omega (
          arith,
          front,
          adds,
          s.sums (length upper) (omega arith),
          sum-pushed lower (count ∷ []) (8 * length upper) (omega arith),
          sum-all upper (length upper) (omega arith),
          sum_by_push (λ (x : ℕ). x) upper added,
          sum-all (upper ++ added ∷ []) at (omega arith),
          sum-all (lower ++ count ∷ []) (8 * at) (omega arith),
        )

-- a loop over the sums, after a mark was added, that has added a count to each of the first `m` levels of them; `count` is the last
-- one, and `before` what its level was before
pub record IsGrownUpTo {A : Type 0} (marks : List ℕ) (start now : List (Vec ℕ A)) (m : ℕ) : Type 0 where
  pub count : ℕ
  pub before : List ℕ
  pub size : length now ≡ length start
  pub grown : level marks now m ≡ before ++ count ∷ []
  pub summed : m < 10 → IsSummary before (level marks start (suc m))
  pub done : (j : ℕ) → j < m → IsSummary (level marks now j) (level marks now (suc j))
  pub rest : (k : ℕ) (d : Vec ℕ A) → m ≤ k → get_or now k d ≡ get_or start k d
  pub room : (room : ℕ) → HaveRoom start (room + 1) → HaveRoom now room

-- the last eight of these counts are whole, and this is their sum
pub record IsWhole (counts : List ℕ) (added : ℕ) : Type 0 where
  pub whole : length counts % 8 ≡ 0
  pub adds : sum_before counts (length counts - 8) + added ≡ sum counts

pub whole-sum : (counts items : List ℕ) (end added : ℕ) → items ≡ counts → end ≡ length counts → end % 8 ≡ 0
    → sum_before items (end - 8) + added ≡ sum_before items end → IsWhole counts added
whole-sum counts items end added is long whole adds =
    let front = ap (λ (xs : List ℕ). sum_before xs (end - 8)) is in
    let all = ap (λ (xs : List ℕ). sum_before xs end) is in
    let there = ap (λ (n : ℕ). sum_before counts (n - 8)) long in
    record {
      whole = rw (← long) whole;
      adds = omega (arith, front, all, there, adds, sum-all counts end (omega arith));
    }

module _ {A : Type 0} (marks marks' : List ℕ) (start : List (Vec ℕ A)) (tower : IsTower marks start) where
  pub mark-added : marks' ≡ marks ++ 1 ∷ [] → IsGrownUpTo marks' start start 0
  mark-added is = record {
    count = 1;
    before = marks;
    size = refl;
    grown = is;
    summed = λ lt. tower.summary 0 lt;
    done = λ j lt. absurd (omega arith);
    rest = λ k d le. refl;
    room = λ room have k d within. let h = have k d within in omega (arith, h);
  }

  -- the level that comes next is as it was
  pub next-sums : (now : List (Vec ℕ A)) (m : ℕ) (d : Vec ℕ A) → IsGrownUpTo marks' start now m → m < length now
      → level marks start (suc m) ≡ (get_or now m d).items
  next-sums now m d s within =
      let size = s.size in
      level-of marks start m d (omega arith) ∙ ap (λ (v : Vec ℕ A). v.items) (sym (s.rest m d (omega arith)))

  -- the summary of a level to which a count was added, after its sum was added if it was whole
  summary-next : (now : List (Vec ℕ A)) (m added : ℕ) → IsGrownUpTo marks' start now m → m < 10
      → IsWhole (level marks' now m) added → IsSummary (level marks' now m) (level marks start (suc m) ++ added ∷ [])
  summary-next now m added s lt w =
      let count : ℕ = s.count in
      let before : List ℕ = s.before in
      let grown = s.grown in
      let whole : length (before ++ count ∷ []) % 8 ≡ 0 = subst (λ (xs : List ℕ). length xs % 8 ≡ 0) grown w.whole in
      let adds : sum_before (before ++ count ∷ []) (length (before ++ count ∷ []) - 8) + added ≡ sum (before ++ count ∷ []) =
      subst (λ (xs : List ℕ). sum_before xs (length xs - 8) + added ≡ sum xs) grown w.adds in
      subst (λ (xs : List ℕ). IsSummary xs (level marks start (suc m) ++ added ∷ [])) (sym grown)
      (summary-whole before (level marks start (suc m)) count added (s.summed lt) whole adds)

  level-below : (now : List (Vec ℕ A)) (m j : ℕ) (w : Vec ℕ A) → j ≤ m → level marks' (set now m w) j ≡ level marks' now j
  level-below now m zero w le = refl
  level-below now m (suc j) w le = level-set_other marks' now m j w (λ here. absurd (omega arith))

  pub one-more-grown : (now : List (Vec ℕ A)) (m added : ℕ) (d w : Vec ℕ A) → IsGrownUpTo marks' start now m
      → m < length now → IsWhole (level marks' now m) added → w.items ≡ (get_or now m d).items ++ added ∷ []
      → vec_len w ≡ vec_len (get_or now m d) + 1 → vec_capacity w ≡ vec_capacity (get_or now m d)
      → IsGrownUpTo marks' start (set now m w) (m + 1)
  one-more-grown now m added d w s within whole items len capacity =
      let e : suc m ≡ m + 1 = omega arith in
      let size = s.size in
      let height = tower.height in
      let same = s.rest m d (omega arith) in
      let was = next-sums now m d s within in
      let above : level marks' (set now m w) (suc m) ≡ level marks start (suc m) ++ added ∷ [] =
      level-set_same marks' now m w within ∙ items ∙ ap (λ (xs : List ℕ). xs ++ added ∷ []) (sym was) in
      subst (λ (n : ℕ). IsGrownUpTo marks' start (set now m w) n) e (record {
        count = added;
        before = level marks start (suc m);
        size = length-set now m w ∙ size;
        grown = above;
        summed = λ lt. tower.summary (suc m) lt;
        done = λ j lt. elim (cases_order j m) [
          | inl here ↦ subst (λ (k : ℕ). IsSummary (level marks' (set now m w) k) (level marks' (set now m w) (suc k))) (sym here)
              (along _ _ _ _ (level-below now m m w (omega arith)) above (summary-next now m added s (omega arith) whole))
          | inr (inl before) ↦ along _ _ _ _ (level-below now m j w (omega arith)) (level-below now m (suc j) w (omega arith)) (s.done j before)
          | inr (inr after) ↦ absurd (omega arith)
        ];
        rest = λ j e' le. get_or-set_other now m j w e' (λ here. absurd (omega arith)) ∙ s.rest j e' (omega arith);
        room = λ room have.
            let h = have m d (omega arith) in
            let there = subst (λ (v : Vec ℕ A). vec_len v + (room + 1) ≤ vec_capacity v) (sym same) h in
            All-set (λ (v : Vec ℕ A). vec_len v + room ≤ vec_capacity v) now m w (omega (arith, there, len, capacity)) (s.room room have);
      })

  -- there is a summary for each level at the end, be it that the last eight isn't whole or that all levels are done
  module _ (now : List (Vec ℕ A)) (m : ℕ) (s : IsGrownUpTo marks' start now m) where
    level-above : (j : ℕ) → m < j → j < 11 → level marks' now j ≡ level marks start j
    level-above zero lt le = absurd (omega arith)
    level-above (suc j) lt le =
        let height = tower.height in
        level-same marks marks' start now j s.size (omega arith) (λ d. s.rest j d (omega arith))

    summary-last : m < 10 → (length (level marks' now m) % 8 ≡ 0 → ⊥)
        → IsSummary (level marks' now m) (level marks' now (suc m))
    summary-last lt left =
        let count : ℕ = s.count in
        let before : List ℕ = s.before in
        let grown = s.grown in
        let left' : length (before ++ count ∷ []) % 8 ≡ 0 → ⊥ = subst (λ (xs : List ℕ). length xs % 8 ≡ 0 → ⊥) grown left in
        along _ _ _ _ grown (level-above (suc m) (omega arith) (omega arith))
        (summary-left before (level marks start (suc m)) count (s.summed lt) left')

    pub grown-fits : marks' ≡ marks ++ 1 ∷ [] → length marks < 4000000000 → sum (level marks' now m) < 4294967296
    grown-fits is small =
        omega (
          arith,
          totals marks' now m s.done m (omega arith),
          ap (λ (xs : List ℕ). sum xs) is,
          sum_by_push (λ (x : ℕ). x) marks 1,
          marked marks start tower,
        )

    pub grown-tower : marks' ≡ marks ++ 1 ∷ [] → length marks < 4000000000
        → (m < 10 → length (level marks' now m) % 8 ≡ 0 → ⊥) → IsTower marks' now
    grown-tower is small left = record {
      height = s.size ∙ tower.height;
      few = omega (arith, ap (λ (xs : List ℕ). length xs) is, length-append marks (1 ∷ []));
      ones = subst (λ (xs : List ℕ). All (λ x. x ≤ 1) xs) (sym is) (All-push (λ x. x ≤ 1) marks 1 tower.ones (omega arith));
      summary = λ j lt. elim (cases_order j m) [
        | inl here ↦ subst (λ (k : ℕ). IsSummary (level marks' now k) (level marks' now (suc k))) (sym here)
            (summary-last (omega arith) (left (omega arith)))
        | inr (inl before) ↦ s.done j before
        | inr (inr after) ↦ along _ _ _ _ (level-above j after (omega arith)) (level-above (suc j) (omega arith) (omega arith)) (tower.summary j lt)
      ];
    }
