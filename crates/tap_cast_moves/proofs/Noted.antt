-- What is remembered of casts after the news of a node.
use Rattle.std.proofs.Common.{◌≡◌, ◌⊎◌, ◌==◌, ℕ, nat_eq, true, false, Bool, List, Option, None, Some, if◌then◌else◌, refl, sym, ap, subst, ◌∙◌, inl, inr, eqb-true}
use Rattle.std.specs.Prelude.{◌||◌, ◌&&◌}
use Rattle.std.specs.Cmp.Lexicographic.{pointwise}
use Rattle.std.specs.Option.{option_map}
use Rattle.std.proofs.lemmas.Bool.{cases_Bool, true≢false}
use Rattle.std.proofs.lemmas.Slice.Eq.{bytes_eq-Decides}
use Rattle.tap_rule.specs.Casts.{cast_news}
use Rattle.tap_rule.proofs.AnswerSteps.{same_number}
use Rattle.tap_cast_moves.specs.Recalled.{run_marked, runs_noted}
use Rattle.tap_cast_moves.specs.Remembered.{CastMemory, CastRun}

-- a cast d, once the cast c has reached x or is closed: of another one nothing changes
pub record RunBecomes (x : List ℕ) (c : ℕ) (first closed : Bool) (d : ℕ) (run now : CastRun) : Type 0 where
  pub caster : now.caster ≡ run.caster
  pub level : now.level ≡ run.level
  pub audience : now.audience ≡ run.audience
  pub reached_on : (y : List ℕ) → run.reached y ≡ true → now.reached y ≡ true
  pub reached_was : (y : List ℕ) → now.reached y ≡ true → (run.reached y ≡ true) ⊎ ((first ≡ true) × (d ≡ c) × (y ≡ x))
  pub reached_new : first ≡ true → d ≡ c → now.reached x ≡ true
  pub closed_on : run.closed ≡ true → now.closed ≡ true
  pub closed_was : now.closed ≡ true → (run.closed ≡ true) ⊎ ((closed ≡ true) × (d ≡ c))
  pub closed_new : closed ≡ true → d ≡ c → now.closed ≡ true

becomes_same : (x : List ℕ) (c : ℕ) (first closed : Bool) (d : ℕ) (run : CastRun) → (d ≡ c → ⊥) → RunBecomes x c first closed d run run
becomes_same x c first closed d run apart = record {
  caster = refl;
  level = refl;
  audience = refl;
  reached_on = λ y is. is;
  reached_was = λ y is. inl is;
  reached_new = λ is same. absurd (apart same);
  closed_on = λ is. is;
  closed_was = λ is. inl is;
  closed_new = λ is same. absurd (apart same);
}

or_on : (a b : Bool) → b ≡ true → (a || b) ≡ true
or_on true b is = refl
or_on false b is = is

or_was : (a b : Bool) → (a || b) ≡ true → (b ≡ true) ⊎ (a ≡ true)
or_was true b is = inr refl
or_was false b is = inl is

or_new : (a b : Bool) → a ≡ true → (a || b) ≡ true
or_new true b is = refl
or_new false b is = cc

and_was : (a b : Bool) → (a && b) ≡ true → (a ≡ true) × (b ≡ true)
and_was true b is = (refl, is)
and_was false b is = cc

and_new : (a b : Bool) → a ≡ true → b ≡ true → (a && b) ≡ true
and_new true b is that = that
and_new false b is that = cc

becomes_marked : (x : List ℕ) (c : ℕ) (first closed : Bool) (run : CastRun) → RunBecomes x c first closed c run (run_marked x first closed run)
becomes_marked x c first closed run = record {
  caster = refl;
  level = refl;
  audience = refl;
  reached_on = λ y is. or_on (first && pointwise nat_eq y x) (run.reached y) is;
  reached_was = λ y is. elim (or_was (first && pointwise nat_eq y x) (run.reached y) is) [
    | inl old ↦ inl old
    | inr new ↦ let parts = and_was first (pointwise nat_eq y x) new in inr (parts.0, refl, (bytes_eq-Decides y x).0 parts.1)
  ];
  reached_new = λ is same. or_new (first && pointwise nat_eq x x) (run.reached x)
      (and_new first (pointwise nat_eq x x) is ((bytes_eq-Decides x x).1 refl));
  closed_on = λ is. or_on closed run.closed is;
  closed_was = λ is. elim (or_was closed run.closed is) [ inl old ↦ inl old | inr new ↦ inr (new, refl) ];
  closed_new = λ is same. or_new closed run.closed is;
}

becomes_at : (x : List ℕ) (c : ℕ) (first closed : Bool) (d : ℕ) (run now : CastRun) → d ≡ c → now ≡ run_marked x first closed run
    → RunBecomes x c first closed d run now
becomes_at x c first closed d run now same is =
    subst (λ e. RunBecomes x c first closed e run now) (sym same)
    (subst (λ n. RunBecomes x c first closed c run n) (sym is) (becomes_marked x c first closed run))

-- what a cast has become
pub record HasBecome (runs : ℕ → Option CastRun) (x : List ℕ) (c : ℕ) (first closed : Bool) (d : ℕ) (now : CastRun) : Type 0 where
  pub run : CastRun
  pub was : runs d ≡ Some run
  pub becomes : RunBecomes x c first closed d run now

-- what a cast becomes
pub record WillBecome (runs : ℕ → Option CastRun) (x : List ℕ) (c : ℕ) (first closed : Bool) (d : ℕ) (run : CastRun) : Type 0 where
  pub now : CastRun
  pub is : runs d ≡ Some now
  pub becomes : RunBecomes x c first closed d run now

abbrev put_is : (ℕ → Option CastRun) → List ℕ → ℕ → Bool → Bool → ℕ → Option CastRun
put_is runs x c first closed d = if d == c then option_map (run_marked x first closed) (runs c) else runs d

marked_none : (x : List ℕ) (found : Option CastRun) → option_map (run_marked x false false) found ≡ found
marked_none x None = refl
marked_none x (Some run) = refl

-- the news say so, also if they say nothing
noted_is : (runs : ℕ → Option CastRun) (x : List ℕ) (c : ℕ) (first closed : Bool) (d : ℕ)
    → runs_noted runs x (cast_news c first closed) d ≡ put_is runs x c first closed d
noted_is runs x c true closed d = refl
noted_is runs x c false true d = refl
noted_is runs x c false false d =
    elim (cases_Bool (d == c)) [
      | inl here ↦ rw here (ap runs (eqb-true d c here) ∙ sym (marked_none x (runs c)))
      | inr there ↦ rw there refl
    ]

mapped_was : (f : CastRun → CastRun) (found : Option CastRun) (now : CastRun) → option_map f found ≡ Some now
    → (run : CastRun) × (found ≡ Some run) × (now ≡ f run)
mapped_was f None now is = cc
mapped_was f (Some run) now is = (run, refl, cc)

module _ (runs : ℕ → Option CastRun) (x : List ℕ) (c : ℕ) (first closed : Bool) where
  pub noted_was : (d : ℕ) (now : CastRun) → runs_noted runs x (cast_news c first closed) d ≡ Some now → HasBecome runs x c first closed d now
  noted_was d now is = by (d == c) refl
    where
      found : put_is runs x c first closed d ≡ Some now
      found = sym (noted_is runs x c first closed d) ∙ is

      by : (here : Bool) → (d == c) ≡ here → HasBecome runs x c first closed d now
      by true here =
          let same = eqb-true d c here in
          let old = mapped_was (run_marked x first closed) (runs c) now (rw here at found) in
          record { run = old.0; was = ap runs same ∙ old.1; becomes = becomes_at x c first closed d old.0 now same old.2 }
      by false there = record {
        run = now;
        was = rw there at found;
        becomes = becomes_same x c first closed d now
            (λ same. true≢false (sym (same_number c) ∙ ap (λ n. n == c) (sym same) ∙ there));
      }

  pub noted_on : (d : ℕ) (run : CastRun) → runs d ≡ Some run
      → WillBecome (runs_noted runs x (cast_news c first closed)) x c first closed d run
  noted_on d run is = by (d == c) refl
    where
      by : (here : Bool) → (d == c) ≡ here → WillBecome (runs_noted runs x (cast_news c first closed)) x c first closed d run
      by true here =
          let same = eqb-true d c here in
          let there : runs c ≡ Some run = ap runs (sym same) ∙ is in
          record {
            now = run_marked x first closed run;
            is = noted_is runs x c first closed d ∙ rw (here, there) refl;
            becomes = becomes_at x c first closed d run (run_marked x first closed run) same refl;
          }
      by false there = record {
        now = run;
        is = noted_is runs x c first closed d ∙ rw there is;
        becomes = becomes_same x c first closed d run
            (λ same. true≢false (sym (same_number c) ∙ ap (λ n. n == c) (sym same) ∙ there));
      }

-- what is remembered before and after, of casts
pub record RunsBecome (r r' : CastMemory) (x : List ℕ) (c : ℕ) (first closed : Bool) : Type 0 where
  pub was : (d : ℕ) (now : CastRun) → r'.cast d ≡ Some now → HasBecome r.cast x c first closed d now
  pub on : (d : ℕ) (run : CastRun) → r.cast d ≡ Some run → WillBecome r'.cast x c first closed d run

pub runs_become : (r r' : CastMemory) (x : List ℕ) (c : ℕ) (first closed : Bool)
    → ((d : ℕ) → r'.cast d ≡ runs_noted r.cast x (cast_news c first closed) d) → RunsBecome r r' x c first closed
runs_become r r' x c first closed are = record {
  was = λ d now is. noted_was r.cast x c first closed d now (sym (are d) ∙ is);
  on = λ d run is.
      let becomes = noted_on r.cast x c first closed d run is in
      record { now = becomes.now; is = are d ∙ becomes.is; becomes = becomes.becomes };
}
