-- Each node has few sessions of one joiner open.
-- Cited above: few_at_rest, few_sessions_kept, few_sessions_opened
use Rattle.std.proofs.Common.{◌≡◌, inl, inr, ℕ, ◌+◌, ◌≤◌, List, [], ◌∷◌, ◌⊎◌, Option, None, Some, arith, sym, ◌∙◌}
use Rattle.std.proofs.lemmas.Bool.{cases_Bool, true≢false}
use Rattle.std.proofs.lemmas.Slice.Eq.{bytes_eq-Decides}
use Rattle.std.specs.Prelude.{bytes_eq}
use Rattle.tap_rule.specs.Node.{NodeState}
use Rattle.tap_safety.specs.FewSessions.{FewSessionsAtRest, FewSessionsKept, FewSessionsKeptByOpening, HasFewSessions, IsOpenOf, most_at}
use Rattle.tap_safety.specs.Remembered.{OpenSession}
use Rattle.tap_safety.specs.System.{System}

pub few_at_rest : FewSessionsAtRest
few_at_rest p members are = record {
  each = λ x b node is. record {
    numbers = [];
    few = omega arith;
    all = λ k of. let no : ◌≡◌ {A = Option OpenSession} None (Some of.session) = of.is in cc;
  };
}

has_none : (s : System) (x b : List ℕ) (most : ℕ) → ((k : ℕ) → IsOpenOf s x b k → ⊥) → HasFewSessions s x b most
has_none s x b most none = record { numbers = []; few = omega arith; all = λ k of. absurd (none k of) }

pub few_sessions_kept : FewSessionsKept
few_sessions_kept p s s' were as_many few = record {
  each = λ x b now is.
      elim (as_many x b now is) [
        | inl none ↦ has_none s' x b (most_at p now b) none
        | inr before ↦
            let old = few.each x b before.0 before.1 in
            let less = old.few in
            let more = before.2 in
            record { numbers = old.numbers; few = omega arith; all = λ k of. old.all k (were x b k of) }
      ];
}

pub few_sessions_opened : FewSessionsKeptByOpening
few_sessions_opened p s s' x b l comes as_many more few = record { each = each }
  where
    there : (y d : List ℕ) → ((y ≡ x) × (d ≡ b)) ⊎ (y ≡ x → d ≡ b → ⊥)
    there y d =
        elim (cases_Bool (bytes_eq y x)) [
          | inr apart ↦ inr (λ same other. true≢false (sym ((bytes_eq-Decides y x).1 same) ∙ apart))
          | inl here ↦
              elim (cases_Bool (bytes_eq d b)) [
                | inl mine ↦ inl ((bytes_eq-Decides y x).0 here, (bytes_eq-Decides d b).0 mine)
                | inr apart ↦ inr (λ same other. true≢false (sym ((bytes_eq-Decides d b).1 other) ∙ apart))
              ]
        ]

    -- x may have one more of b
    rises : (y d : List ℕ) (was now : NodeState) → y ≡ x → d ≡ b → s.node y ≡ Some was → s'.node y ≡ Some now
        → most_at p was d + 1 ≤ most_at p now d
    rises y d was now same other was_is is = rw other (more was now (rw same at was_is) (rw same at is))

    each : (y d : List ℕ) (now : NodeState) → s'.node y ≡ Some now → HasFewSessions s' y d (most_at p now d)
    each y d now is =
        elim (as_many y d now is) [
          | inl none ↦ has_none s' y d (most_at p now d) none
          | inr before ↦
              let old = few.each y d before.0 before.1 in
              let less = old.few in
              let enough = before.2 in
              elim (there y d) [
                | inl here ↦
                    let one = rises y d before.0 now here.0 here.1 before.1 is in
                    record {
                      numbers = l ∷ old.numbers;
                      few = omega arith;
                      all = λ k of. elim (comes y d k of) [ inl was ↦ inr (old.all k was) | inr new ↦ inl new.2 ];
                    }
                | inr apart ↦ record {
                  numbers = old.numbers;
                  few = omega arith;
                  all = λ k of. elim (comes y d k of) [ inl was ↦ old.all k was | inr new ↦ absurd (apart new.0 new.1) ];
                }
              ]
        ]
