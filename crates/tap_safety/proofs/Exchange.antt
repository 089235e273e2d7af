-- What a session awaits after other tokens have come in place of a frame or of a session.
-- Cited above: is_place-here, is_place-same
use Rattle.std.proofs.Common.{◌≡◌, inl, inr, ℕ, true, false, List, [], ◌∷◌, ◌++◌, ◌⊎◌, sym, ap, ◌∙◌, eqb}
use Rattle.std.proofs.lemmas.Bool.{and_from, and_parts, cases_Bool, eq-eqb, eqb-false, eqb-true, ne_eqb, true≢false}
use Rattle.std.proofs.lemmas.Slice.Eq.{bytes_eq-Decides}
use Rattle.std.specs.Prelude.{bytes_eq}
use Rattle.tap_safety.specs.Remembered.{Token}
use Rattle.tap_safety.specs.Remembered.Token.{Way, Child}
use Rattle.tap_safety.specs.Sessions.{AmongTokens, for_child, for_way, is_place}

pub tokens_left : (token : Token) (one two : List Token) → AmongTokens token one → AmongTokens token (one ++ two)
tokens_left token [] two among = absurd among
tokens_left token (first ∷ others) two (inl is) = inl is
tokens_left token (first ∷ others) two (inr later) = inr (tokens_left token others two later)

pub tokens_right : (token : Token) (one two : List Token) → AmongTokens token two → AmongTokens token (one ++ two)
tokens_right token [] two among = among
tokens_right token (first ∷ others) two among = inr (tokens_right token others two among)

pub tokens_either : (token : Token) (one two : List Token) → AmongTokens token (one ++ two)
    → AmongTokens token one ⊎ AmongTokens token two
tokens_either token [] two among = inr among
tokens_either token (first ∷ others) two (inl is) = inl (inl is)
tokens_either token (first ∷ others) two (inr later) =
    elim (tokens_either token others two later) [ inl one ↦ inl (inr one) | inr two ↦ inr two ]

-- ---- in place of a frame

-- other tokens stay
pub for_way-stays : (number : ℕ) (new tokens : List Token) (token : Token) → (token ≡ Way number → ⊥) → AmongTokens token tokens
    → AmongTokens token (for_way number new tokens)
unfolding for_way
for_way-stays number new [] token apart among = among
for_way-stays number new (Way other ∷ tokens) token apart (inl is) =
    let test : eqb other number ≡ false = ne_eqb other number (λ same. apart (is ∙ ap (λ n. Way n) same)) in rw test (inl is)
for_way-stays number new (Way other ∷ tokens) token apart (inr later) =
    elim (cases_Bool (eqb other number)) [
      | inl here ↦ rw here (tokens_right token new (for_way number new tokens) (for_way-stays number new tokens token apart later))
      | inr there ↦ rw there (inr (for_way-stays number new tokens token apart later))
    ]
for_way-stays number new (Child y l ∷ tokens) token apart (inl is) = inl is
for_way-stays number new (Child y l ∷ tokens) token apart (inr later) = inr (for_way-stays number new tokens token apart later)

-- the new ones are there
pub for_way-new : (number : ℕ) (new tokens : List Token) (token : Token) → AmongTokens (Way number) tokens → AmongTokens token new
    → AmongTokens token (for_way number new tokens)
unfolding for_way
for_way-new number new [] token among comes = absurd among
for_way-new number new (Way other ∷ tokens) token (inl is) comes =
    let test : eqb other number ≡ true = eq-eqb other number (cc) in
    rw test (tokens_left token new (for_way number new tokens) comes)
for_way-new number new (Way other ∷ tokens) token (inr later) comes =
    tokens_right token _ (for_way number new tokens) (for_way-new number new tokens token later comes)
for_way-new number new (Child y l ∷ tokens) token (inl is) comes = cc
for_way-new number new (Child y l ∷ tokens) token (inr later) comes = inr (for_way-new number new tokens token later comes)

-- and there is nothing else
pub for_way-was : (number : ℕ) (new tokens : List Token) (token : Token) → AmongTokens token (for_way number new tokens)
    → AmongTokens token new ⊎ ((token ≡ Way number → ⊥) × AmongTokens token tokens)
unfolding for_way
for_way-was number new [] token among = absurd among
for_way-was number new (Way other ∷ tokens) token among =
    elim (cases_Bool (eqb other number)) [
      | inl here ↦
          elim (tokens_either token new (for_way number new tokens) (rw here at among)) [
            | inl comes ↦ inl comes
            | inr later ↦
                elim (for_way-was number new tokens token later) [ inl comes ↦ inl comes | inr was ↦ inr (was.0, inr was.1) ]
          ]
      | inr there ↦
          let parts : (token ≡ Way other) ⊎ AmongTokens token (for_way number new tokens) = rw there at among in
          elim parts [
            | inl is ↦ inr (λ same. eqb-false other number there (let both : Way other ≡ Way number = sym is ∙ same in cc), inl is)
            | inr later ↦
                elim (for_way-was number new tokens token later) [ inl comes ↦ inl comes | inr was ↦ inr (was.0, inr was.1) ]
          ]
    ]
for_way-was number new (Child y l ∷ tokens) token (inl is) = inr (λ same. let both : Child y l ≡ Way number = sym is ∙ same in cc, inl is)
for_way-was number new (Child y l ∷ tokens) token (inr later) =
    elim (for_way-was number new tokens token later) [ inl comes ↦ inl comes | inr was ↦ inr (was.0, inr was.1) ]

-- ---- in place of a session

pub is_place-same : (x : List ℕ) (k : ℕ) (y : List ℕ) (m : ℕ) → is_place x k y m ≡ true → (y ≡ x) × (m ≡ k)
is_place-same x k y m is =
    let both = and_parts (bytes_eq y x) (eqb m k) is in ((bytes_eq-Decides y x).0 both.0, eqb-true m k both.1)

pub is_place-here : (x : List ℕ) (k : ℕ) (y : List ℕ) (m : ℕ) → y ≡ x → m ≡ k → is_place x k y m ≡ true
is_place-here x k y m node number =
    and_from (bytes_eq y x) (eqb m k) ((bytes_eq-Decides y x).1 node) (eq-eqb m k number)

pub for_child-stays : (x : List ℕ) (k : ℕ) (new tokens : List Token) (token : Token) → (token ≡ Child x k → ⊥)
    → AmongTokens token tokens → AmongTokens token (for_child x k new tokens)
unfolding for_child
for_child-stays x k new [] token apart among = among
for_child-stays x k new (Way other ∷ tokens) token apart (inl is) = inl is
for_child-stays x k new (Way other ∷ tokens) token apart (inr later) = inr (for_child-stays x k new tokens token apart later)
for_child-stays x k new (Child y m ∷ tokens) token apart among =
    elim (cases_Bool (is_place x k y m)) [
      | inl here ↦
          let same = is_place-same x k y m here in
          elim among [
            | inl is ↦ absurd (apart (rw (← same.0, ← same.1) is))
            | inr later ↦ rw here (tokens_right token new (for_child x k new tokens) (for_child-stays x k new tokens token apart later))
          ]
      | inr there ↦
          elim among [
            | inl is ↦ rw there (inl is)
            | inr later ↦ rw there (inr (for_child-stays x k new tokens token apart later))
          ]
    ]

pub for_child-new : (x : List ℕ) (k : ℕ) (new tokens : List Token) (token : Token) → AmongTokens (Child x k) tokens
    → AmongTokens token new → AmongTokens token (for_child x k new tokens)
unfolding for_child
for_child-new x k new [] token among comes = absurd among
for_child-new x k new (Way other ∷ tokens) token (inl is) comes = cc
for_child-new x k new (Way other ∷ tokens) token (inr later) comes = inr (for_child-new x k new tokens token later comes)
for_child-new x k new (Child y m ∷ tokens) token (inl is) comes =
    let test : is_place x k y m ≡ true = is_place-here x k y m (cc) (cc) in
    rw test (tokens_left token new (for_child x k new tokens) comes)
for_child-new x k new (Child y m ∷ tokens) token (inr later) comes =
    tokens_right token _ (for_child x k new tokens) (for_child-new x k new tokens token later comes)

pub for_child-was : (x : List ℕ) (k : ℕ) (new tokens : List Token) (token : Token) → AmongTokens token (for_child x k new tokens)
    → AmongTokens token new ⊎ ((token ≡ Child x k → ⊥) × AmongTokens token tokens)
unfolding for_child
for_child-was x k new [] token among = absurd among
for_child-was x k new (Way other ∷ tokens) token (inl is) = inr (λ same. let both : Way other ≡ Child x k = sym is ∙ same in cc, inl is)
for_child-was x k new (Way other ∷ tokens) token (inr later) =
    elim (for_child-was x k new tokens token later) [ inl comes ↦ inl comes | inr was ↦ inr (was.0, inr was.1) ]
for_child-was x k new (Child y m ∷ tokens) token among =
    elim (cases_Bool (is_place x k y m)) [
      | inl here ↦
          elim (tokens_either token new (for_child x k new tokens) (rw here at among)) [
            | inl comes ↦ inl comes
            | inr later ↦
                elim (for_child-was x k new tokens token later) [ inl comes ↦ inl comes | inr was ↦ inr (was.0, inr was.1) ]
          ]
      | inr there ↦
          let parts : (token ≡ Child y m) ⊎ AmongTokens token (for_child x k new tokens) = rw there at among in
          elim parts [
            | inl is ↦ inr (
              λ same. true≢false (sym (is_place-here x k y m (let both : Child y m ≡ Child x k = sym is ∙ same in cc)
                  (let both : Child y m ≡ Child x k = sym is ∙ same in cc)) ∙ there),
              inl is,
            )
            | inr later ↦
                elim (for_child-was x k new tokens token later) [ inl comes ↦ inl comes | inr was ↦ inr (was.0, inr was.1) ]
          ]
    ]
