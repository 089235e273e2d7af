-- Cover is kept by any step that takes at most one Tell, if its taker serves whom the Tell served.
use Rattle.std.proofs.Common.{◌≡◌, inl, inr, ℕ, ◌<◌, ◌≤◌, List, ◌⊎◌, arith}
use Rattle.std.proofs.lemmas.Bool.{cases_lt}
use Rattle.tap_name.specs.Settings.{SettingsValue}
use Rattle.tap_name.specs.Name.{IsName}
use Rattle.tap_name.specs.Prefix.{lcp}
use Rattle.tap_safety.specs.System.{System, IsCoreNode, CoversAt}
use Rattle.tap_safety.specs.Regions.{HaveMet, IsServed}
use Rattle.tap_safety.specs.Parts.{Covered, IsClaim, Cover}
use Rattle.tap_safety.proofs.Names.{lcp_whole}
use Rattle.tap_safety.proofs.KeptParts.{Keeps, AddsNone, StaysJoiner, TakesOne, served_above, served_kept}

module _ (p : SettingsValue) (s s' : System) (x b : List ℕ) (level : ℕ) (kept : Keeps s s') (none : AddsNone s s')
    (takes : TakesOne s s' x b level) (names : (y : List ℕ) → IsCoreNode s y → IsName p y) (core_x : IsCoreNode s x)
    (cover : Cover p s) where
  -- mine: what the taker's level reaches is served; met: so is the taker; covers: no other cover is new
  pub cover_step : ((e : List ℕ) → IsCoreNode s e → level ≤ lcp x e → lcp x e < p.digits → StaysJoiner s s' b → IsServed s' b e (lcp x e))
      → (StaysJoiner s s' b → HaveMet s' b x)
      → ((v d : List ℕ) (m : ℕ) → CoversAt s' v d m → CoversAt s v d m ⊎ ((v ≡ x) × (d ≡ b) × (m ≡ level)))
      → Cover p s'
  cover_step mine met covers = record { served = served }
    where
      old : (v d e : List ℕ) (m : ℕ) → IsCoreNode s e → StaysJoiner s s' d → IsClaim p s v d e m → IsServed s' d e (lcp v e)
      old v d e m core joiner claim =
          elim (served_kept s s' x b level kept takes d e (lcp v e) joiner (kept.cores e core) (cover.served v d e m claim)) [
            | inl served ↦ served
            | inr taken ↦
                let now : StaysJoiner s s' b = rw taken.0 at joiner in
                let high = taken.1 in
                let shared = taken.2 in
                rw taken.0 (elim (cases_lt (lcp x e) p.digits) [
                  | inl apart ↦ served_above s' b e (lcp x e) (lcp v e) (omega arith) (mine e core shared apart now)
                  | inr same ↦ let here : x ≡ e = lcp_whole p x e (names x core_x) (names e core) same in rw (← here) (inl (met now))
                ])
          ]

      served : (v d e : List ℕ) (m : ℕ) → IsClaim p s' v d e m → IsServed s' d e (lcp v e)
      served v d e m claim =
          let core = none.cores e claim.other in
          let joiner : StaysJoiner s s' d = record { was = none.joiners d claim.joiner; is = claim.joiner } in
          elim (covers v d m claim.covers) [
            | inl was ↦
                let before : IsClaim p s v d e m = record {
                  core = none.cores v claim.core;
                  joiner = joiner.was;
                  covers = was;
                  other = core;
                  reach = claim.reach;
                  apart = claim.apart;
                } in
                old v d e m core joiner before
            | inr new ↦
                let reach = claim.reach in
                let low : level ≤ lcp x e = rw (← new.0, ← new.2) reach in
                let apart : lcp x e < p.digits = rw (← new.0) claim.apart in
                rw (new.0, new.1) (mine e core low apart (rw new.1 at joiner))
          ]

  -- the case Already: x covers b at no higher level, and nothing else changes
  pub cover_already : Covered p s → (c : ℕ) → CoversAt s x b c → c ≤ level
      → ((v d : List ℕ) (m : ℕ) → CoversAt s' v d m → CoversAt s v d m) → Cover p s'
  cover_already covered c covers low same = cover_step mine met (λ v d m now. inl (same v d m now))
    where
      mine : (e : List ℕ) → IsCoreNode s e → level ≤ lcp x e → lcp x e < p.digits → StaysJoiner s s' b → IsServed s' b e (lcp x e)
      mine e core reach apart joiner =
          let claim : IsClaim p s x b e c =
          record { core = core_x; joiner = joiner.was; covers = covers; other = core; reach = omega arith; apart = apart } in
          elim (served_kept s s' x b level kept takes b e (lcp x e) joiner (kept.cores e core) (cover.served x b e c claim)) [
            | inl served ↦ served
            | inr taken ↦ let high = taken.1 in absurd (omega arith)
          ]

      met : StaysJoiner s s' b → HaveMet s' b x
      met joiner =
          let is = covered.each x b c core_x joiner.was covers in
          record { pin = kept.pins x b joiner (inl (kept.cores x core_x)) is.pin; given = kept.given b x joiner is.given }
