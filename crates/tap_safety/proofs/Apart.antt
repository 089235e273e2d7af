-- The answers that a session awaits differ, also after others have come in place of one.
-- Cited above: ways_of-child
use Rattle.std.proofs.Common.{◌≡◌, inl, inr, ℕ, ◌+◌, List, [], ◌∷◌, ◌++◌, ◌⊎◌, arith, sym, ap, eqb}
use Rattle.std.proofs.lemmas.Bool.{cases_Bool, eqb-true}
use Rattle.tap_wire.specs.declared.frame.Frame.{Frame}
use Rattle.tap_safety.specs.Remembered.{Token}
use Rattle.tap_safety.specs.Remembered.Token.{Way, Child}
use Rattle.tap_safety.specs.Exchanges.{Ascend}
use Rattle.tap_safety.specs.Sessions.{AmongTokens, for_child, for_way, is_place, is_placed, session_named, ways_of}
use Rattle.tap_safety.specs.Awaited.{AreApart}
use Rattle.tap_safety.proofs.Exchange.{for_child-was, for_way-was, is_place-same, tokens_either}
use Rattle.tap_safety.proofs.Moved.{ascend_from}
use Rattle.tap_safety.proofs.SessionsKept.{ways_of-has}

-- no token is both here and there
abbrev pub AreDisjoint : List Token → List Token → Type 0
AreDisjoint new tokens = (token : Token) → AmongTokens token new → AmongTokens token tokens → ⊥

append_apart : (one two : List Token) → AreApart one → AreApart two → AreDisjoint one two → AreApart (one ++ two)
append_apart [] two first second disjoint = second
append_apart (token ∷ others) two (fresh, first) second disjoint = (
  λ among. elim (tokens_either token others two among) [ inl here ↦ fresh here | inr there ↦ disjoint token (inl refl_token) there ],
  append_apart others two first second (λ t here there. disjoint t (inr here) there),
)
  where
    refl_token : token ≡ token
    refl_token = cc

-- ---- in place of a frame

-- a frame that isn't awaited is replaced by nothing
pub for_way-none : (number : ℕ) (new tokens : List Token) → (AmongTokens (Way number) tokens → ⊥) → for_way number new tokens ≡ tokens
unfolding for_way
for_way-none number new [] none = cc
for_way-none number new (Way other ∷ tokens) none =
    elim (cases_Bool (eqb other number)) [
      | inl here ↦ absurd (none (inl (ap (λ n. Way n) (sym (eqb-true other number here)))))
      | inr there ↦ rw there (ap (λ rest. Way other ∷ rest) (for_way-none number new tokens (λ later. none (inr later))))
    ]
for_way-none number new (Child y l ∷ tokens) none =
    ap (λ rest. Child y l ∷ rest) (for_way-none number new tokens (λ later. none (inr later)))

not_there : (number : ℕ) (new tokens : List Token) (token : Token) → (AmongTokens token tokens → ⊥) → (AmongTokens token new → ⊥)
    → AmongTokens token (for_way number new tokens) → ⊥
not_there number new tokens token old fresh among =
    elim (for_way-was number new tokens token among) [ inl comes ↦ fresh comes | inr was ↦ old was.1 ]

pub for_way-apart : (number : ℕ) (new tokens : List Token) → AreApart tokens → AreApart new → AreDisjoint new tokens
    → AreApart (for_way number new tokens)
unfolding for_way
for_way-apart number new [] apart fresh disjoint = apart
for_way-apart number new (Way other ∷ tokens) (first, apart) fresh disjoint =
    let later : AreDisjoint new tokens = λ t here there. disjoint t here (inr there) in
    elim (cases_Bool (eqb other number)) [
      | inl here ↦
          let place = eqb-true other number here in
          let gone : AmongTokens (Way number) tokens → ⊥ = λ among. first (rw place among) in
          let rest = for_way-none number new tokens gone in
          rw (here, rest) (append_apart new tokens fresh apart later)
      | inr there ↦
          let rest = for_way-apart number new tokens apart fresh later in
          let none : AmongTokens (Way other) (for_way number new tokens) → ⊥ =
          λ among. not_there number new tokens (Way other) first (λ comes. disjoint (Way other) comes (inl cc)) among in
          rw there (none, rest)
    ]
for_way-apart number new (Child y l ∷ tokens) (first, apart) fresh disjoint = (
  λ among. not_there number new tokens (Child y l) first (λ comes. disjoint (Child y l) comes (inl cc)) among,
  for_way-apart number new tokens apart fresh (λ t here there. disjoint t here (inr there)),
)

-- ---- in place of a session

pub for_child-none : (x : List ℕ) (k : ℕ) (new tokens : List Token) → (AmongTokens (Child x k) tokens → ⊥)
    → for_child x k new tokens ≡ tokens
unfolding for_child
for_child-none x k new [] none = cc
for_child-none x k new (Way number ∷ tokens) none =
    ap (λ rest. Way number ∷ rest) (for_child-none x k new tokens (λ later. none (inr later)))
for_child-none x k new (Child y m ∷ tokens) none =
    elim (cases_Bool (is_place x k y m)) [
      | inl here ↦ let same = is_place-same x k y m here in absurd (none (inl (rw (same.0, same.1) cc)))
      | inr there ↦ rw there (ap (λ rest. Child y m ∷ rest) (for_child-none x k new tokens (λ later. none (inr later))))
    ]

not_passed : (x : List ℕ) (k : ℕ) (new tokens : List Token) (token : Token) → (AmongTokens token tokens → ⊥)
    → (AmongTokens token new → ⊥) → AmongTokens token (for_child x k new tokens) → ⊥
not_passed x k new tokens token old fresh among =
    elim (for_child-was x k new tokens token among) [ inl comes ↦ fresh comes | inr was ↦ old was.1 ]

pub for_child-apart : (x : List ℕ) (k : ℕ) (new tokens : List Token) → AreApart tokens → AreApart new → AreDisjoint new tokens
    → AreApart (for_child x k new tokens)
unfolding for_child
for_child-apart x k new [] apart fresh disjoint = apart
for_child-apart x k new (Way number ∷ tokens) (first, apart) fresh disjoint = (
  λ among. not_passed x k new tokens (Way number) first (λ comes. disjoint (Way number) comes (inl cc)) among,
  for_child-apart x k new tokens apart fresh (λ t here there. disjoint t here (inr there)),
)
for_child-apart x k new (Child y m ∷ tokens) (first, apart) fresh disjoint =
    let later : AreDisjoint new tokens = λ t here there. disjoint t here (inr there) in
    elim (cases_Bool (is_place x k y m)) [
      | inl here ↦
          let same = is_place-same x k y m here in
          let gone : AmongTokens (Child x k) tokens → ⊥ = λ among. first (rw (same.0, same.1) among) in
          let rest = for_child-none x k new tokens gone in
          rw (here, rest) (append_apart new tokens fresh apart later)
      | inr there ↦
          let rest = for_child-apart x k new tokens apart fresh later in
          let none : AmongTokens (Child y m) (for_child x k new tokens) → ⊥ =
          λ among. not_passed x k new tokens (Child y m) first (λ comes. disjoint (Child y m) comes (inl cc)) among in
          rw there (none, rest)
    ]

-- ---- the tokens of frames

-- frames with ascending numbers have tokens that differ
pub ways_of-apart : (x : List ℕ) (k low high : ℕ) (fs : List (ℕ × Frame)) → Ascend low fs high → AreApart (ways_of x k fs)
unfolding ways_of
ways_of-apart x k low high [] ascend = tt
ways_of-apart x k low high (f ∷ fs) (least, later) =
    let rest = ways_of-apart x k (f.0 + 1) high fs later in
    elim (cases_Bool (is_placed (session_named f.1.body f.1.from f.1.to) x k)) [
      | inl here ↦
          let none : AmongTokens (Way f.0) (ways_of x k fs) → ⊥ =
          λ among. let has = ways_of-has x k fs f.0 among in
          let more = ascend_from (f.0 + 1) fs high f.0 has.frame later has.among in absurd (omega arith) in
          rw here (none, rest)
      | inr apart ↦ rw apart rest
    ]

-- and none of them is that of a session
pub ways_of-child : (x : List ℕ) (k : ℕ) (fs : List (ℕ × Frame)) (y : List ℕ) (l : ℕ) → AmongTokens (Child y l) (ways_of x k fs) → ⊥
unfolding ways_of
ways_of-child x k [] y l among = among
ways_of-child x k (f ∷ fs) y l among =
    elim (cases_Bool (is_placed (session_named f.1.body f.1.from f.1.to) x k)) [
      | inl here ↦
          let parts : (Child y l ≡ Way f.0) ⊎ AmongTokens (Child y l) (ways_of x k fs) = rw here at among in
          elim parts [ inl is ↦ let wrong : Child y l ≡ Way f.0 = is in cc | inr later ↦ ways_of-child x k fs y l later ]
      | inr apart ↦ ways_of-child x k fs y l (rw apart at among)
    ]
