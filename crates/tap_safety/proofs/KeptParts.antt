-- what a step leaves as it was, and what follows for the words and parts of the invariant
-- Cited above: AddsNone, Keeps, TakesNoTell
use Rattle.std.proofs.Common.{◌≡◌, inl, inr, ℕ, ◌<◌, ◌≤◌, List, ◌⊎◌, arith}
use Rattle.tap_name.specs.Settings.{SettingsValue}
use Rattle.tap_name.specs.Prefix.{lcp}
use Rattle.tap_safety.specs.System.{System, IsCoreNode, IsJoiner, IsTold, HelloNames}
use Rattle.tap_safety.specs.Regions.{prefix_of, Pins, Has, IsGiven, HaveMet, IsServed}
use Rattle.tap_safety.specs.Parts.{IsMet, Low, HasNear, HoleFree}

-- there is a joiner of this name before and after
pub record StaysJoiner (s s' : System) (b : List ℕ) : Type 0 where
  pub was : IsJoiner s b
  pub is : IsJoiner s' b

-- Core nodes stay, and their slots stay filled; a joiner keeps what pins it, what it is given and its prefix.
pub record Keeps (s s' : System) : Type 0 where
  pub cores : (x : List ℕ) → IsCoreNode s x → IsCoreNode s' x
  pub pins : (x b : List ℕ) → StaysJoiner s s' b → IsCoreNode s' x ⊎ IsJoiner s' x → Pins s x b → Pins s' x b
  pub has : (x b : List ℕ) → StaysJoiner s s' b → StaysJoiner s s' x → Has s x b → Has s' x b
  pub given : (b e : List ℕ) → StaysJoiner s s' b → IsGiven s b e → IsGiven s' b e
  pub filled : (x e : List ℕ) → IsCoreNode s x → IsCoreNode s e → HasNear s x e → HasNear s' x e
  pub prefix : (b : List ℕ) → StaysJoiner s s' b → prefix_of s' b ≡ prefix_of s b
  -- a Hello to a joiner stays under way, or the joiner has what it named
  pub named : (w b x : List ℕ) → StaysJoiner s s' b → StaysJoiner s s' x → HelloNames s w b x → Has s' b x ⊎ HelloNames s' w b x

-- there are no other core nodes and joiners than before
pub record AddsNone (s s' : System) : Type 0 where
  pub cores : (x : List ℕ) → IsCoreNode s' x → IsCoreNode s x
  pub joiners : (b : List ℕ) → IsJoiner s' b → IsJoiner s b

-- of the Tells under way only one of b to x at a level is taken, and where x is a joiner it has b then
pub record TakesOne (s s' : System) (x b : List ℕ) (level : ℕ) : Type 0 where
  pub told : (d t : List ℕ) (k : ℕ) → IsTold s d t k → IsTold s' d t k ⊎ ((d ≡ b) × (t ≡ x) × (k ≡ level))
  pub joiner : IsJoiner s x → Has s' x b

pub record TakesNoTell (s s' : System) : Type 0 where
  pub told : (d t : List ℕ) (k : ℕ) → IsTold s d t k → IsTold s' d t k

-- what is served above a number is served above a lower one
pub served_above : (s : System) (b e : List ℕ) (c d : ℕ) → d ≤ c → IsServed s b e c → IsServed s b e d
served_above s b e c d low (inl met) = inl met
served_above s b e c d low (inr r) =
    let high = r.higher in
    inr (record { to = r.to; level = r.level; told = r.told; core = r.core; higher = omega arith; shared = r.shared })

pub met_kept : (s s' : System) (b e : List ℕ) → Keeps s s' → StaysJoiner s s' b → IsCoreNode s' e → HaveMet s b e → HaveMet s' b e
met_kept s s' b e keeps joiner core met =
    record { pin = keeps.pins e b joiner (inl core) met.pin; given = keeps.given b e joiner met.given }

-- who was served is served, unless by the Tell that is taken
pub served_kept : (s s' : System) (x b : List ℕ) (level : ℕ) → Keeps s s' → TakesOne s s' x b level
    → (d e : List ℕ) (c : ℕ) → StaysJoiner s s' d → IsCoreNode s' e → IsServed s d e c
    → IsServed s' d e c ⊎ ((d ≡ b) × (c < level) × (level ≤ lcp x e))
served_kept s s' x b level keeps takes d e c joiner core (inl met) = inl (inl (met_kept s s' d e keeps joiner core met))
served_kept s s' x b level keeps takes d e c joiner core (inr r) =
    elim (takes.told d r.to r.level r.told) [
      | inl still ↦ inl (inr (record {
        to = r.to;
        level = r.level;
        told = still;
        core = keeps.cores r.to r.core;
        higher = r.higher;
        shared = r.shared;
      }))
      | inr is ↦
          let high = r.higher in
          let same = is.2 in
          let shared : r.level ≤ lcp x e = rw is.1 at r.shared in
          inr (is.0, omega arith, omega arith)
    ]

-- who was met is met
pub met_stays : (s s' : System) (x b : List ℕ) (level : ℕ) → Keeps s s' → TakesOne s s' x b level
    → (w d y : List ℕ) → StaysJoiner s s' d → StaysJoiner s s' y → IsMet s w d y → IsMet s' w d y
met_stays s s' x b level keeps takes w d y joiner other is =
    record {
      met = elim is.met [
        | inl has ↦ inl (keeps.has y d joiner other has)
        | inr more ↦
            elim more [
              | inl named ↦ elim (keeps.named w y d other joiner named) [ inl has ↦ inl has | inr still ↦ inr (inl still) ]
              | inr told ↦
                  elim (takes.told d y told.0 told.1) [
                    | inl still ↦ inr (inr (told.0, still, told.2))
                    | inr same ↦ let has : Has s' x b = takes.joiner (rw same.1 at other.was) in inl (rw (same.0, same.1) has)
                  ]
            ]
      ];
    }

pub low_kept : (s s' : System) → Keeps s s' → AddsNone s s' → Low s → Low s'
low_kept s s' keeps none low =
    record {
      given = λ a b joiner core near.
          let stays : StaysJoiner s s' a = record { was = none.joiners a joiner; is = joiner } in
          let reach : lcp a b ≤ prefix_of s a = rw (keeps.prefix a stays) at near in
          keeps.given a b stays (low.given a b (none.joiners a joiner) (none.cores b core) reach);
    }

pub hole_free_kept : (p : SettingsValue) (s s' : System) → Keeps s s' → AddsNone s s' → HoleFree p s → HoleFree p s'
hole_free_kept p s s' keeps none free =
    record {
      filled = λ x e core other apart.
          let one = none.cores x core in
          let two = none.cores e other in
          keeps.filled x e one two (free.filled x e one two apart);
    }
