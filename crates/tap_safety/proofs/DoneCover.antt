-- Done at a joiner keeps Cover and Low.
use Rattle.std.proofs.Common.{◌≡◌, inl, inr, ℕ, ◌+◌, ◌<◌, ◌≤◌, List, ◌⊎◌, arith, sym}
use Rattle.std.proofs.lemmas.Bool.{cases_lt}
use Rattle.tap_name.specs.Prefix.{lcp}
use Rattle.tap_name.specs.Settings.{SettingsValue}
use Rattle.tap_name.proofs.Prefixes.{lcp-least, lcp-sym, lcp-triangle}
use Rattle.tap_link.specs.declared.kind.Kind.TheVariants.{Pin}
use Rattle.tap_safety.specs.System.{System, IsCoreNode, IsJoiner, CoversAt, IsTold}
use Rattle.tap_safety.specs.Regions.{surrogate_of, prefix_of, IsIn, Knows, IsGiven, IsReached, HaveMet, IsServed}
use Rattle.tap_safety.specs.Parts.{CoverIs, IsMet, CoversAndPins, IsClaim, Cover, Low}
use Rattle.tap_safety.specs.DoneStep.{TakesDone, NothingOnWay, BeforeDone}
use Rattle.tap_safety.proofs.Names.{lcp_itself, lcp_whole}
use Rattle.tap_safety.proofs.KeptParts.{Keeps, StaysJoiner, met_kept}
use Rattle.tap_safety.proofs.CoverKept.{core_or_joiner}
use Rattle.tap_safety.proofs.DoneKept.{in_region, now_core, core_cases, joiner_was, link_on, covers_was, told_on, knows_on, keeps}

-- a Tell of b is on its way to e, above what e shares with v, or the two have met
abbrev pub TellOrMet : System → System → List ℕ → List ℕ → List ℕ → Type 0
TellOrMet s s' v b e = ((level : ℕ) × IsTold s b e level × (lcp v e < level)) ⊎ HaveMet s' b e

module _ (p : SettingsValue) (s s' : System) (number : ℕ) (w e : List ℕ) (before : BeforeDone p s) (quiet : NothingOnWay s e)
    (step : TakesDone s s' number w e) where
  kept : Keeps s s'
  kept = keeps s s' number w e step

  told : (b x : List ℕ) (level : ℕ) → IsTold s b x level → IsTold s' b x level
  told = told_on s s' number w e step

  knows : (b y : List ℕ) → Knows s b y → Knows s' b y
  knows = knows_on s s' number w e step

  new_core : IsCoreNode s' e
  new_core = now_core s s' number w e step

  abbrev at : List ℕ
  at = surrogate_of s e

  surrogate : IsCoreNode s at × CoversAt s at e (prefix_of s e)
  surrogate = before.covered.surrogate e quiet.joiner

  -- the new core node isn't a joiner that is left
  apart_from : (b : List ℕ) → StaysJoiner s s' b → b ≡ e → ⊥
  apart_from b joiner same = core_or_joiner s' b (rw same new_core) joiner.is

  -- and shares fewer digits with one than it has
  below_all : (b : List ℕ) → StaysJoiner s s' b → lcp b e < lcp e e
  below_all b joiner =
      let all = lcp_itself p e (before.joiner_names e quiet.joiner) in
      elim (cases_lt (lcp b e) p.digits) [
        | inl below ↦ omega arith
        | inr same ↦
            let is = lcp_whole p b e (before.joiner_names b joiner.was) (before.joiner_names e quiet.joiner) same in
            absurd (apart_from b joiner is)
      ]

  -- b knows e, if a node that pins both has made them known to each other
  told_of : (v b : List ℕ) → IsMet s v e b → Knows s b e
  told_of v b is =
      elim is.met [
        | inl has ↦ record { known = inl has }
        | inr more ↦ elim more [
          | inl named ↦ record { known = inr (v, named) }
          | inr told ↦ absurd (quiet.tells b told.0 told.1)
        ]
      ]

  -- what b is given serves for e too, if it is of the slot of a node that is nearer to e
  given_near : (b v : List ℕ) → IsGiven s b v → lcp b v ≡ lcp b e → lcp b e < lcp e v → IsGiven s' b e
  given_near b v given level nearer =
      let near = given.near in
      let shares = lcp-least e v given.by (lcp b e + 1) (omega arith) (omega arith) in
      record { by = given.by; core = kept.cores given.by given.core; near = omega arith; knows = knows b given.by given.knows }

  -- a node of both regions has made the two known to each other, or a Tell to e is still on its way
  meeting : (v b : List ℕ) → StaysJoiner s s' b → IsIn s e v → IsMet s v b e → (IsIn s e b → IsMet s v e b) → IsGiven s b v
      → TellOrMet s s' v b e
  meeting v b joiner inside one two given =
      elim one.met [
        | inr more ↦ elim more [ inl named ↦ absurd (quiet.hellos v b named) | inr told ↦ inl told ]
        | inl has ↦ inr (record { pin = link_on s s' number w e step e b Pin (before.pinned e b joiner.was has); given = slot })
      ]
    where
      slot : IsGiven s' b e
      slot =
          elim (cases_lt (lcp b e) (prefix_of s e)) [
            | inr near ↦
                let known = told_of v b (two (record { reach = near })) in
                record { by = e; core = new_core; near = below_all b joiner; knows = knows b e known }
            | inl far ↦
                let reach = inside.reach in
                let turned = lcp-sym e v in
                let sides = lcp-triangle b e v in
                let level : lcp b v ≡ lcp b e = sides.below (omega arith) in
                given_near b v given level (omega arith)
          ]

  -- the new core node is served
  module _ (v b : List ℕ) (level : ℕ) (core : IsCoreNode s v) (joiner : StaysJoiner s s' b) (other : b ≡ e → ⊥)
      (covers : CoversAt s v b level) (reach : level ≤ lcp v e) (apart : lcp v e < p.digits) where
    covered : CoverIs p s v b level
    covered = before.covered.each v b level core joiner.was covers

    in_b : IsIn s b e
    in_b =
        let one = covered.inside in
        let two = covered.from in
        let three = one.reach in
        let back = lcp-sym e v in
        record { reach = lcp-least e v b (prefix_of s b) (omega arith) (omega arith) }

    -- a Tell to e serves it
    ends : (u : List ℕ) → lcp v e ≤ lcp u e → TellOrMet s s' u b e → IsServed s' b e (lcp v e)
    ends u low (inr met) = inl met
    ends u low (inl way) =
        let sound = before.sound b e way.0 joiner.was way.1 in
        let is = sound.level_is in
        let within = sound.apart in
        let high = way.2 in
        let all = lcp_itself p e (before.joiner_names e quiet.joiner) in
        inr (record { to = e; level = way.0; told = told b e way.0 way.1; core = new_core; higher = omega arith; shared = omega arith })

    -- u covers b and stands in the region of e
    direct : (u : List ℕ) (c : ℕ) → IsCoreNode s u → CoversAt s u b c → IsIn s e u → lcp v e ≤ lcp u e → IsServed s' b e (lcp v e)
    direct u c core_u covers_u inside low =
        let cover = before.covered.each u b c core_u joiner.was covers_u in
        let pin = (in_region p s e before quiet u core_u inside).0 in
        let pair : CoversAndPins s u b e = record {
          core = core_u;
          joiner = joiner.was;
          other = quiet.joiner;
          apart = other;
          in_first = cover.inside;
          in_second = inside;
          level = c;
          covers = covers_u;
          pin = pin;
        } in
        ends u low (meeting u b joiner inside (before.meet.first u b e pair in_b) (before.meet.second u b e pair) cover.given)

    -- the surrogate of e has met b
    by_surrogate : HaveMet s b at → lcp v e < prefix_of s e → lcp v at ≡ lcp v e → IsServed s' b e (lcp v e)
    by_surrogate met far same =
        let cover = before.covered.each at e (prefix_of s e) surrogate.0 quiet.joiner surrogate.1 in
        let one = covered.inside.reach in
        let two = covered.from in
        let back = lcp-sym v at in
        let inside : IsIn s b at = record { reach = lcp-least at v b (prefix_of s b) (omega arith) (omega arith) } in
        let pair : CoversAndPins s at e b = record {
          core = surrogate.0;
          joiner = quiet.joiner;
          other = joiner.was;
          apart = λ same. other (sym same);
          in_first = cover.inside;
          in_second = inside;
          level = prefix_of s e;
          covers = surrogate.1;
          pin = met.pin;
        } in
        ends at (omega arith)
        (meeting at b joiner cover.inside (before.meet.second at e b pair in_b) (before.meet.first at e b pair) met.given)

    -- a Tell that the surrogate of e is served by serves e, or its sender stands in the region of e
    by_tell : IsReached s b at (lcp v at) → lcp v e < prefix_of s e → lcp v at ≡ lcp v e → IsServed s' b e (lcp v e)
    by_tell reached far same =
        let high = reached.higher in
        let shared = reached.shared in
        elim (cases_lt (prefix_of s e) reached.level) [
          | inr low ↦
              inr (record {
                to = reached.to;
                level = reached.level;
                told = told b reached.to reached.level reached.told;
                core = kept.cores reached.to reached.core;
                higher = omega arith;
                shared = lcp-least reached.to at e reached.level (omega arith) (omega arith);
              })
          | inl up ↦
              let sound = before.sound b reached.to reached.level joiner.was reached.told in
              let is = sound.level_is in
              let one = lcp-least reached.to at e (prefix_of s e) (omega arith) (omega arith) in
              let two = lcp-least sound.from reached.to e (prefix_of s e) (omega arith) (omega arith) in
              direct sound.from sound.cover sound.core sound.covers (record { reach = two }) (omega arith)
        ]

    serves_new : IsServed s' b e (lcp v e)
    serves_new =
        elim (cases_lt (lcp v e) (prefix_of s e)) [
          | inr near ↦ direct v level core covers (record { reach = near }) (omega arith)
          | inl far ↦
              let turned = lcp-sym e at in
              let sides = lcp-triangle v e at in
              let same : lcp v at ≡ lcp v e = sides.below (omega arith) in
              let claim : IsClaim p s v b at level =
              record { core = core; joiner = joiner.was; covers = covers; other = surrogate.0; reach = omega arith; apart = omega arith } in
              elim (before.cover.served v b at level claim) [
                | inl met ↦ by_surrogate met far same
                | inr reached ↦ by_tell reached far same
              ]
        ]

  pub cover_kept : Cover p s'
  cover_kept = record { served = served }
    where
      served : (v b f : List ℕ) (level : ℕ) → IsClaim p s' v b f level → IsServed s' b f (lcp v f)
      served v b f level claim =
          let was = joiner_was s s' number w e step b claim.joiner in
          let joiner : StaysJoiner s s' b = record { was = was.0; is = claim.joiner } in
          let covers = covers_was s s' number w e step v b level claim.covers in
          elim (core_cases s s' number w e step v claim.core) [
            | inr new ↦ absurd (before.covered.joiners v b level (rw new quiet.joiner) covers)
            | inl core ↦
                elim (core_cases s s' number w e step f claim.other) [
                  | inr new ↦
                      let reach : level ≤ lcp v e = rw new at claim.reach in
                      let apart : lcp v e < p.digits = rw new at claim.apart in
                      rw new (serves_new v b level core joiner was.1 covers reach apart)
                  | inl other ↦
                      let old : IsClaim p s v b f level =
                      record { core = core; joiner = was.0; covers = covers; other = other; reach = claim.reach; apart = claim.apart } in
                      elim (before.cover.served v b f level old) [
                        | inl met ↦ inl (met_kept s s' b f kept joiner claim.other met)
                        | inr reached ↦ inr (record {
                          to = reached.to;
                          level = reached.level;
                          told = told b reached.to reached.level reached.told;
                          core = kept.cores reached.to reached.core;
                          higher = reached.higher;
                          shared = reached.shared;
                        })
                      ]
                ]
          ]

  -- the slot of the new core node is given to a joiner of whose prefix it has as much
  new_given : (a : List ℕ) → StaysJoiner s s' a → (a ≡ e → ⊥) → lcp a e ≤ prefix_of s a → IsGiven s' a e
  new_given a joiner other low =
      let back = lcp-sym a e in
      let turned = lcp-sym e at in
      elim (cases_lt (lcp a e) (prefix_of s e)) [
        | inl far ↦
            let sides = lcp-triangle a e at in
            let same : lcp a at ≡ lcp a e = sides.below (omega arith) in
            given_near a at (before.low.given a at joiner.was surrogate.0 (omega arith)) same (omega arith)
        | inr near ↦
            let by = surrogate_of s a in
            let own = before.covered.surrogate a joiner.was in
            let inside : IsIn s e by = record { reach = lcp-least by a e (prefix_of s e) (omega arith) (omega arith) } in
            let pair : CoversAndPins s by a e = record {
              core = own.0;
              joiner = joiner.was;
              other = quiet.joiner;
              apart = other;
              in_first = record { reach = omega arith };
              in_second = inside;
              level = prefix_of s a;
              covers = own.1;
              pin = (in_region p s e before quiet by own.0 inside).0;
            } in
            let known = told_of by a (before.meet.second by a e pair (record { reach = near })) in
            record { by = e; core = new_core; near = below_all a joiner; knows = knows a e known }
      ]

  pub low_kept : Low s'
  low_kept = record { given = given }
    where
      given : (a f : List ℕ) → IsJoiner s' a → IsCoreNode s' f → lcp a f ≤ prefix_of s' a → IsGiven s' a f
      given a f joiner core near =
          let was = joiner_was s s' number w e step a joiner in
          let stays : StaysJoiner s s' a = record { was = was.0; is = joiner } in
          let low : lcp a f ≤ prefix_of s a = rw (kept.prefix a stays) at near in
          elim (core_cases s s' number w e step f core) [
            | inl old ↦ kept.given a f stays (before.low.given a f was.0 old low)
            | inr is ↦ let same : lcp a e ≤ prefix_of s a = rw is at low in rw is (new_given a stays was.1 same)
          ]
