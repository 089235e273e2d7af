-- A log says once whom a cast has reached, and once that it is closed.
use Rattle.std.proofs.Common.{◌≡◌, inl, inr, ◌==◌, ℕ, nat_eq, ◌+◌, Bool, true, false, if◌then◌else◌, List, Option, None, Some, arith, refl, ap, sym, subst, ◌∙◌, eqb-true}
use Rattle.std.specs.Prelude.{◌&&◌, ◌||◌}
use Rattle.std.specs.Cmp.Lexicographic.{pointwise}
use Rattle.std.specs.Option.{option_map}
use Rattle.std.proofs.lemmas.Bool.{and_parts, cases_Bool, true≢false}
use Rattle.std.proofs.lemmas.Slice.Eq.{bytes_eq-Decides}
use Rattle.tap_rule.proofs.AnswerSteps.{same_number}
use Rattle.tap_rule.specs.Event.{News}
use Rattle.tap_rule.specs.Event.News.{Nothing, Core as CoreNews, Gone as GoneNews, Answered as AnsweredNews, Cast as CastNews}
use Rattle.tap_safety.specs.System.{System}
use Rattle.tap_cast_moves.specs.News.{NewsAreTrue}
use Rattle.tap_cast_moves.specs.Recalled.{run_marked, runs_noted}
use Rattle.tap_cast_moves.specs.Remembered.{CastMemory, CastRun}
use Rattle.tap_cast_runs.specs.ReachedOnce.{is_closed, is_reached}
use Rattle.tap_cast_runs.proofs.Plain.{closes, reaches}

abbrev pub one_if : Bool → ℕ
one_if is = if is then 1 else 0

-- of two that aren't both so, as many are so as one of them
either_one : (a b : Bool) → (a ≡ true → b ≡ true → ⊥) → ◌≡◌ {A = ℕ} (one_if (a || b)) (one_if b + one_if a)
either_one true true apart = absurd (apart refl refl)
either_one true false apart = omega arith
either_one false true apart = omega arith
either_one false false apart = omega arith

and_none : (a : Bool) → (a && false) ≡ false
and_none true = refl
and_none false = refl

and_all : (a : Bool) → (a && true) ≡ a
and_all true = refl
and_all false = refl

reached_some : (found : Option CastRun) (x : List ℕ) → is_reached found x ≡ true → (run : CastRun) × (found ≡ Some run) × (run.reached x ≡ true)
reached_some None x is = absurd (true≢false (sym is))
reached_some (Some run) x is = (run, refl, is)

closed_some : (found : Option CastRun) → is_closed found ≡ true → (run : CastRun) × (found ≡ Some run) × (run.closed ≡ true)
closed_some None is = absurd (true≢false (sym is))
closed_some (Some run) is = (run, refl, is)

-- what the news of a move add
module _ (s : System) (r r' : CastMemory) (runs : ℕ → Option CastRun) (y : List ℕ) (news : News)
    (noted : (d : ℕ) → r'.cast d ≡ runs_noted runs y news d)
    (reached_same : (d : ℕ) (x : List ℕ) → is_reached (runs d) x ≡ is_reached (r.cast d) x)
    (closed_same : (d : ℕ) → is_closed (runs d) ≡ is_closed (r.cast d)) (are_true : NewsAreTrue s r r' y news) where
  -- of another cast nothing
  other_reached : (c : ℕ) (x : List ℕ) → runs_noted runs y news c ≡ runs c → ◌≡◌ {A = ℕ} (one_if (is_reached (r'.cast c) x)) (one_if (is_reached (r.cast c) x) + 0)
  other_reached c x same =
      let here : is_reached (r'.cast c) x ≡ is_reached (r.cast c) x =
      ap (λ o. is_reached o x) (noted c ∙ same) ∙ reached_same c x in
      let one = ap one_if here in
      omega (arith, one)

  other_closed : (c : ℕ) → runs_noted runs y news c ≡ runs c → ◌≡◌ {A = ℕ} (one_if (is_closed (r'.cast c))) (one_if (is_closed (r.cast c)) + 0)
  other_closed c same =
      let here : is_closed (r'.cast c) ≡ is_closed (r.cast c) = ap is_closed (noted c ∙ same) ∙ closed_same c in
      let one = ap one_if here in
      omega (arith, one)

  module _ (cast : ℕ) (reached closed : Bool) (is : news ≡ CastNews cast reached closed) where
    marked : r'.cast cast ≡ option_map (run_marked y reached closed) (runs cast)
    marked = noted cast ∙ ap (λ n. runs_noted runs y n cast) is ∙ here
      where
        here : runs_noted runs y (CastNews cast reached closed) cast ≡ option_map (run_marked y reached closed) (runs cast)
        here = rw (same_number cast) refl

    -- the cast was started
    found : (run : CastRun) × (runs cast ≡ Some run) × (r'.cast cast ≡ Some (run_marked y reached closed run))
    found = by (runs cast) refl
      where
        by : (old : Option CastRun) → runs cast ≡ old
            → (run : CastRun) × (runs cast ≡ Some run) × (r'.cast cast ≡ Some (run_marked y reached closed run))
        by None none =
            let told = are_true cast reached closed is in
            let nothing : r'.cast cast ≡ None = marked ∙ ap (option_map (run_marked y reached closed)) none in
            let wrong : ◌≡◌ {A = Option CastRun} None (Some told.now) = sym nothing ∙ told.started in
            absurd (cc)
        by (Some run) there = (run, there, marked ∙ ap (option_map (run_marked y reached closed)) there)

    here_reached : (x : List ℕ) → ◌≡◌ {A = ℕ} (one_if (is_reached (r'.cast cast) x))
        (one_if (is_reached (r.cast cast) x) + one_if (reached && pointwise nat_eq x y))
    here_reached x =
        let run = found.0 in
        let now : is_reached (r'.cast cast) x ≡ ((reached && pointwise nat_eq x y) || run.reached x) = ap (λ o. is_reached o x) found.2 in
        let old : is_reached (r.cast cast) x ≡ run.reached x = sym (reached_same cast x) ∙ ap (λ o. is_reached o x) found.1 in
        let sum = either_one (reached && pointwise nat_eq x y) (run.reached x) (λ new before.
        let parts = and_parts reached (pointwise nat_eq x y) new in
        let name = (bytes_eq-Decides x y).0 parts.1 in
        let had = reached_some (r.cast cast) x (old ∙ before) in
        (are_true cast reached closed is).anew parts.0 had.0 had.1 (subst (λ z. had.0.reached z ≡ true) name had.2)) in
        let first = ap one_if now in
        let second = ap one_if old in
        omega (arith, sum, first, second)

    here_closed : ◌≡◌ {A = ℕ} (one_if (is_closed (r'.cast cast))) (one_if (is_closed (r.cast cast)) + one_if closed)
    here_closed =
        let run = found.0 in
        let now : is_closed (r'.cast cast) ≡ (closed || run.closed) = ap is_closed found.2 in
        let old : is_closed (r.cast cast) ≡ run.closed = sym (closed_same cast) ∙ ap is_closed found.1 in
        let sum = either_one closed run.closed (λ new before.
        let had = closed_some (r.cast cast) (old ∙ before) in
        (are_true cast reached closed is).open_before new had.0 had.1 had.2) in
        let first = ap one_if now in
        let second = ap one_if old in
        omega (arith, sum, first, second)

  -- of whatever news
  pub reached_grows : (c : ℕ) (x : List ℕ) → ◌≡◌ {A = ℕ} (one_if (is_reached (r'.cast c) x))
      (one_if (is_reached (r.cast c) x) + one_if (reaches c x y news))
  reached_grows c x = by news refl
    where
      by : (told : News) → news ≡ told → ◌≡◌ {A = ℕ} (one_if (is_reached (r'.cast c) x))
          (one_if (is_reached (r.cast c) x) + one_if (reaches c x y news))
      by Nothing is = rw is (other_reached c x (ap (λ n. runs_noted runs y n c) is))
      by CoreNews is = rw is (other_reached c x (ap (λ n. runs_noted runs y n c) is))
      by GoneNews is = rw is (other_reached c x (ap (λ n. runs_noted runs y n c) is))
      by (AnsweredNews ticket server) is = rw is (other_reached c x (ap (λ n. runs_noted runs y n c) is))
      by (CastNews cast reached closed) is = elim (cases_Bool (c == cast)) [
        | inl same ↦
            let here = here_reached cast reached closed is x in
            let it : c ≡ cast = eqb-true c cast same in
            let told : reaches cast x y news ≡ (reached && pointwise nat_eq x y) =
            ap (reaches cast x y) is ∙ ap (λ b. reached && (b && pointwise nat_eq x y)) (same_number cast) in
            let one = ap one_if told in
            subst (λ k. ◌≡◌ {A = ℕ} (one_if (is_reached (r'.cast k) x))
            (one_if (is_reached (r.cast k) x) + one_if (reaches k x y news))) (sym it) (omega (arith, here, one))
        | inr other ↦
            let here = other_reached c x (ap (λ n. runs_noted runs y n c) is ∙ rw other refl) in
            let told : reaches c x y news ≡ false =
            ap (reaches c x y) is ∙ ap (λ b. reached && (b && pointwise nat_eq x y)) other ∙ and_none reached in
            let one = ap one_if told in
            omega (arith, here, one)
      ]

  pub closed_grows : (c : ℕ) → ◌≡◌ {A = ℕ} (one_if (is_closed (r'.cast c))) (one_if (is_closed (r.cast c)) + one_if (closes c news))
  closed_grows c = by news refl
    where
      by : (told : News) → news ≡ told → ◌≡◌ {A = ℕ} (one_if (is_closed (r'.cast c)))
          (one_if (is_closed (r.cast c)) + one_if (closes c news))
      by Nothing is = rw is (other_closed c (ap (λ n. runs_noted runs y n c) is))
      by CoreNews is = rw is (other_closed c (ap (λ n. runs_noted runs y n c) is))
      by GoneNews is = rw is (other_closed c (ap (λ n. runs_noted runs y n c) is))
      by (AnsweredNews ticket server) is = rw is (other_closed c (ap (λ n. runs_noted runs y n c) is))
      by (CastNews cast reached closed) is = elim (cases_Bool (c == cast)) [
        | inl same ↦
            let here = here_closed cast reached closed is in
            let it : c ≡ cast = eqb-true c cast same in
            let told : closes cast news ≡ closed =
            ap (closes cast) is ∙ ap (λ b. closed && b) (same_number cast) ∙ and_all closed in
            let one = ap one_if told in
            subst (λ k. ◌≡◌ {A = ℕ} (one_if (is_closed (r'.cast k))) (one_if (is_closed (r.cast k)) + one_if (closes k news))) (sym it)
            (omega (arith, here, one))
        | inr other ↦
            let here = other_closed c (ap (λ n. runs_noted runs y n c) is ∙ rw other refl) in
            let told : closes c news ≡ false = ap (closes c) is ∙ ap (λ b. closed && b) other ∙ and_none closed in
            let one = ap one_if told in
            omega (arith, here, one)
      ]
