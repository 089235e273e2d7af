-- A step that makes no node core, starts no joiner and adds no cover and no pin of a core node keeps what is about tables without holes.
-- Cited above: AddsNoCover, filled_calm, still_told
use Rattle.std.proofs.Common.{◌≡◌, inl, inr, ℕ, List, [], ap}
use Rattle.std.specs.Option.{unwrap_or}
use Rattle.tap_name.specs.Prefix.{lcp}
use Rattle.tap_name.specs.Settings.{SettingsValue}
use Rattle.tap_safety.specs.System.{System, CoversAt, IsCoreNode, IsJoiner}
use Rattle.tap_safety.specs.Regions.{IsIn, IsReached, Pins, prefix_of, surrogate_of}
use Rattle.tap_safety.specs.Parts.{Cover, Covered, CoversAndPins, IsClaim, IsMet, Meet}
use Rattle.tap_safety.specs.Filled.{AreFilled}
use Rattle.tap_safety.proofs.KeptParts.{AddsNone, Keeps, StaysJoiner, TakesNoTell, TakesOne, hole_free_kept, low_kept, met_kept, met_stays}

-- covers stay, no core node has a new pin, and surrogates stay
pub record AddsNoCover (s s' : System) : Type 0 where
  pub kept : (x b : List ℕ) (level : ℕ) → IsCoreNode s x → CoversAt s x b level → CoversAt s' x b level
  pub was : (x b : List ℕ) (level : ℕ) → CoversAt s' x b level → CoversAt s x b level
  pub pins : (x e : List ℕ) → IsCoreNode s x → Pins s' x e → Pins s x e
  pub surrogate : (b : List ℕ) → s'.surrogate b ≡ s.surrogate b

-- who was reached or met still is
pub record StillTold (s s' : System) : Type 0 where
  pub reached : (b e : List ℕ) (above : ℕ) → IsReached s b e above → IsReached s' b e above
  pub met : (w d y : List ℕ) → StaysJoiner s s' d → StaysJoiner s s' y → IsMet s w d y → IsMet s' w d y

-- if no Tell is taken
pub still_told : (s s' : System) → Keeps s s' → TakesNoTell s s' → StillTold s s'
still_told s s' keeps none = record { reached = reached; met = met }
  where
    reached : (b e : List ℕ) (above : ℕ) → IsReached s b e above → IsReached s' b e above
    reached b e above r = record {
      to = r.to;
      level = r.level;
      told = none.told b r.to r.level r.told;
      core = keeps.cores r.to r.core;
      higher = r.higher;
      shared = r.shared;
    }

    met : (w d y : List ℕ) → StaysJoiner s s' d → StaysJoiner s s' y → IsMet s w d y → IsMet s' w d y
    met w d y joiner other is = record {
      met = elim is.met [
        | inl has ↦ inl (keeps.has y d joiner other has)
        | inr more ↦
            elim more [
              | inl named ↦ elim (keeps.named w y d other joiner named) [ inl has ↦ inl has | inr still ↦ inr (inl still) ]
              | inr told ↦ inr (inr (told.0, none.told d y told.0 told.1, told.2))
            ]
      ];
    }

-- and if one is taken, by a node that isn't core
pub still_told_but : (s s' : System) (x b : List ℕ) (level : ℕ) → Keeps s s' → TakesOne s s' x b level → (IsCoreNode s x → ⊥)
    → StillTold s s'
still_told_but s s' x b level keeps takes apart = record { reached = reached; met = met_stays s s' x b level keeps takes }
  where
    reached : (d e : List ℕ) (above : ℕ) → IsReached s d e above → IsReached s' d e above
    reached d e above r =
        elim (takes.told d r.to r.level r.told) [
          | inl still ↦ record {
            to = r.to;
            level = r.level;
            told = still;
            core = keeps.cores r.to r.core;
            higher = r.higher;
            shared = r.shared;
          }
          | inr is ↦ absurd (apart (rw is.1 at r.core))
        ]

module _ (p : SettingsValue) (s s' : System) (keeps : Keeps s s') (none : AddsNone s s') (calm : AddsNoCover s s') where
  surrogate_same : (b : List ℕ) → surrogate_of s' b ≡ surrogate_of s b
  surrogate_same b = ap (λ surrogate. unwrap_or surrogate []) (calm.surrogate b)

  prefix_same : (b : List ℕ) → prefix_of s' b ≡ prefix_of s b
  prefix_same b = ap (λ surrogate. lcp surrogate b) (surrogate_same b)

  stays : (b : List ℕ) → IsJoiner s' b → StaysJoiner s s' b
  stays b joiner = record { was = none.joiners b joiner; is = joiner }

  in_was : (b x : List ℕ) → IsIn s' b x → IsIn s b x
  in_was b x inside = record { reach = rw (prefix_same b) at inside.reach }

  pub covered_calm : Covered p s → Covered p s'
  covered_calm covered = record {
    each = λ w b level core joiner covers.
        let is = covered.each w b level (none.cores w core) (none.joiners b joiner) (calm.was w b level covers) in
        record {
          inside = record { reach = rw (prefix_same b) is.inside.reach };
          pin = keeps.pins w b (stays b joiner) (inl core) is.pin;
          from = rw (prefix_same b) is.from;
          to = is.to;
          given = keeps.given b w (stays b joiner) is.given;
        };
    surrogate = λ b joiner.
        let is = covered.surrogate b (none.joiners b joiner) in
        rw (surrogate_same b)
        (keeps.cores (surrogate_of s b) is.0, calm.kept (surrogate_of s b) b (prefix_of s b) is.0 is.1);
    joiners = λ x b level joiner covers. covered.joiners x b level (none.joiners x joiner) (calm.was x b level covers);
  }

  pair_was : (w b e : List ℕ) → CoversAndPins s' w b e → CoversAndPins s w b e
  pair_was w b e pair = record {
    core = none.cores w pair.core;
    joiner = none.joiners b pair.joiner;
    other = none.joiners e pair.other;
    apart = pair.apart;
    in_first = in_was b w pair.in_first;
    in_second = in_was e w pair.in_second;
    level = pair.level;
    covers = calm.was w b pair.level pair.covers;
    pin = calm.pins w e (none.cores w pair.core) pair.pin;
  }

  pub meet_calm : ((w d y : List ℕ) → StaysJoiner s s' d → StaysJoiner s s' y → IsMet s w d y → IsMet s' w d y) → Meet s → Meet s'
  meet_calm met meet = record {
    first = λ w b e pair inside.
        met w b e (stays b pair.joiner) (stays e pair.other) (meet.first w b e (pair_was w b e pair) (in_was b e inside));
    second = λ w b e pair inside.
        met w e b (stays e pair.other) (stays b pair.joiner) (meet.second w b e (pair_was w b e pair) (in_was e b inside));
  }

  cover_calm : StillTold s s' → Cover p s → Cover p s'
  cover_calm told cover = record {
    served = λ w b e level claim.
        let was : IsClaim p s w b e level = record {
          core = none.cores w claim.core;
          joiner = none.joiners b claim.joiner;
          covers = calm.was w b level claim.covers;
          other = none.cores e claim.other;
          reach = claim.reach;
          apart = claim.apart;
        } in
        elim (cover.served w b e level was) [
          | inl met ↦ inl (met_kept s s' b e keeps (stays b claim.joiner) claim.other met)
          | inr reached ↦ inr (told.reached b e (lcp w e) reached)
        ];
  }

  pub filled_calm : StillTold s s' → AreFilled p s → AreFilled p s'
  filled_calm told filled = record {
    covered = covered_calm filled.covered;
    meet = meet_calm told.met filled.meet;
    cover = cover_calm told filled.cover;
    low = low_kept s s' keeps none filled.low;
    hole_free = hole_free_kept p s s' keeps none filled.hole_free;
  }
