-- Covered and Meet are kept by a Tell that is taken anew at a core node.
use Rattle.std.proofs.Common.{◌≡◌, inl, inr, ℕ, ◌+◌, ◌≤◌, List, [], ◌⊎◌, Option, None, Some, arith, refl, sym, subst, ap, ◌∙◌}
use Rattle.std.specs.Option.{unwrap_or}
use Rattle.tap_name.specs.declared.slot.Slot.{Slot}
use Rattle.tap_name.specs.Prefix.{lcp}
use Rattle.tap_name.specs.Settings.{SettingsValue}
use Rattle.tap_name.proofs.Prefixes.{lcp-least, lcp-sym}
use Rattle.tap_link.specs.declared.kind.Kind.{Kind}
use Rattle.tap_link.specs.declared.kind.Kind.TheVariants.{Pin}
use Rattle.tap_rule.specs.Node.{level_kept, link_to}
use Rattle.tap_wire.specs.declared.frame.Frame.{Frame}
use Rattle.tap_wire.specs.declared.frame.TellFields.{TellFields}
use Rattle.tap_safety.specs.Frames.{hello_body, tell_body}
use Rattle.tap_safety.specs.System.{System, IsCoreNode, IsJoiner, HasLink, CoversAt}
use Rattle.tap_safety.specs.Regions.{surrogate_of, prefix_of, IsIn, Pins}
use Rattle.tap_safety.specs.Parts.{CoverIs, Covered, IsMet, CoversAndPins, Meet}
use Rattle.tap_safety.specs.TellStep.{TakesTell, BeforeTell, IsTellOf}
use Rattle.tap_safety.proofs.UnderWay.{sent_under_way}
use Rattle.tap_safety.proofs.KeptParts.{Keeps, AddsNone, StaysJoiner, met_stays}
use Rattle.tap_safety.proofs.TellKeeps.{node_before, node_after, keeps, takes_one, adds_none}
use Rattle.tap_safety.proofs.CoverKept.{met, tells_way, covers_cases, core_or_joiner}

-- who is in a region was in it
was_in : (s s' : System) (b x : List ℕ) → Keeps s s' → StaysJoiner s s' b → IsIn s' b x → IsIn s b x
was_in s s' b x keeps joiner inside = record { reach = rw (keeps.prefix b joiner) at inside.reach }

still_in : (s s' : System) (b x : List ℕ) → Keeps s s' → StaysJoiner s s' b → IsIn s b x → IsIn s' b x
still_in s s' b x keeps joiner inside = record { reach = rw (keeps.prefix b joiner) inside.reach }

module _ (s s' : System) (number : ℕ) (w x : List ℕ) (tell : TellFields) (watch : List Slot)
    (step : TakesTell s s' number w x tell watch) where
  abbrev taken_tell : Frame
  taken_tell = record { from = w; to = x; body = tell_body tell watch }

  kept : Keeps s s'
  kept = keeps s s' number w x tell watch step

  none : AddsNone s s'
  none = adds_none s s' number w x tell watch step

  cases : (v b : List ℕ) (level : ℕ) → CoversAt s' v b level → CoversAt s v b level ⊎ ((v ≡ x) × (b ≡ tell.joiner) × (level ≡ tell.level))
  cases = covers_cases s s' number w x tell watch step

  -- a link of after the step was there, or is to the joiner
  links_cases : (v t : List ℕ) (kind : Kind) → HasLink s' v t kind → HasLink s v t kind ⊎ ((v ≡ x) × (t ≡ tell.joiner))
  links_cases v t kind link =
      elim (node_before s s' x step.before step.after step.at v link.state link.is) [
        | inr there ↦ inl (record { state = link.state; is = there; link = link.link })
        | inl here ↦
            let now : link_to step.after t ≡ Some kind = rw (← here.1) link.link in
            elim (step.covers.links t) [
              | inr same ↦ inl (record { state = step.before; is = here.2; link = sym same ∙ now })
              | inl joiner ↦ inr (here.0, joiner)
            ]
      ]

  module _ (p : SettingsValue) (before : BeforeTell p s) (is : IsTellOf p s x tell.joiner tell.prefix tell.level) where
    -- each cover of after the step is as Covered has it
    each : (v b : List ℕ) (level : ℕ) → IsCoreNode s' v → IsJoiner s' b → CoversAt s' v b level → CoverIs p s' v b level
    each v b level core joiner covers =
        let stays : StaysJoiner s s' b = record { was = none.joiners b joiner; is = joiner } in
        elim (cases v b level covers) [
          | inl old ↦
              let c = before.covered.each v b level (none.cores v core) (none.joiners b joiner) old in
              record {
                inside = still_in s s' b v kept stays c.inside;
                pin = kept.pins v b stays (inl core) c.pin;
                from = rw (kept.prefix b stays) c.from;
                to = c.to;
                given = kept.given b v stays c.given;
              }
          | inr new ↦
              let now : IsJoiner s' tell.joiner = rw new.1 at joiner in
              let stay : StaysJoiner s s' tell.joiner = record { was = is.joiner; is = now } in
              let both = met s s' number w x tell watch step p before is stay (level_kept step.before.covers tell.joiner) refl in
              let above = is.above in
              let prefix = is.prefix_is in
              let from : prefix_of s' tell.joiner ≤ tell.level = rw (kept.prefix tell.joiner stay, ← prefix) (omega arith) in
              rw (new.0, new.1, new.2) (record {
                inside = still_in s s' tell.joiner x kept stay is.inside;
                pin = both.pin;
                from = from;
                to = is.most;
                given = both.given;
              })
        ]

    -- the cover of a joiner by its surrogate stays
    own_cover : (b : List ℕ) → IsJoiner s b → CoversAt s' (surrogate_of s b) b (prefix_of s b)
    own_cover b joiner =
        let old = (before.covered.surrogate b joiner).1 in
        elim (node_after s s' x step.before step.after step.at (surrogate_of s b) old.state old.is) [
          | inr there ↦ record { state = old.state; is = there; cover = old.cover }
          | inl here ↦
              let was : level_kept step.before.covers b ≡ Some (prefix_of s b) = rw (← here.1) old.cover in
              elim (step.covers.covers b) [
                | inr same ↦ record { state = step.after; is = here.2; cover = same ∙ was }
                | inl joins ↦
                    let low = step.covers.anew (prefix_of s b) (ap (level_kept step.before.covers) (sym joins) ∙ was) in
                    let prefix = is.prefix_is in
                    let above = is.above in
                    let same : prefix_of s b ≡ prefix_of s tell.joiner = ap (prefix_of s) joins in
                    absurd (omega arith)
              ]
        ]

    surrogate : (b : List ℕ) → IsJoiner s' b → IsCoreNode s' (surrogate_of s' b) × CoversAt s' (surrogate_of s' b) b (prefix_of s' b)
    surrogate b joiner =
        let was = none.joiners b joiner in
        let core = kept.cores (surrogate_of s b) (before.covered.surrogate b was).0 in
        let P : List ℕ → Type 0 = λ y. IsCoreNode s' y × CoversAt s' y b (lcp y b) in
        let same : surrogate_of s' b ≡ surrogate_of s b = ap (λ o. unwrap_or o []) (step.surrogate b) in
        subst P (sym same) (core, own_cover b was)

    pub covered_kept : Covered p s'
    covered_kept = record { each = each; surrogate = surrogate; joiners = joiners }
      where
        joiners : (v b : List ℕ) (level : ℕ) → IsJoiner s' v → CoversAt s' v b level → ⊥
        joiners v b level joiner covers =
            elim (cases v b level covers) [
              | inl old ↦ before.covered.joiners v b level (none.joiners v joiner) old
              | inr new ↦ core_or_joiner s v (rw new.0 is.core) (none.joiners v joiner)
            ]

    -- what is to hold of two joiners of which a node covers one and pins the other
    abbrev AreMet : List ℕ → List ℕ → List ℕ → Type 0
    AreMet v d f = (IsIn s' d f → IsMet s' v d f) × (IsIn s' f d → IsMet s' v f d)

    -- if the cover is first, each pin that the node had meets the joiner
    fresh : level_kept step.before.covers tell.joiner ≡ None → (e : List ℕ) → Pins s x e → (e ≡ tell.joiner → ⊥)
        → (IsIn s tell.joiner e → IsMet s' x tell.joiner e) × IsMet s' x e tell.joiner
    fresh first e pin other =
        let was = step.at.was in
        let at = pin.is in
        let same : pin.state ≡ step.before = cc in
        let link : link_to step.before e ≡ Some Pin = rw (← same) pin.link in
        let hello = step.covers.greets first in
        let way = sent_under_way s s' number taken_tell step.sent step.taken x tell.joiner (hello_body hello.fields) hello.sends in (
          λ inside.
              let one = is.inside.reach in
              let two = inside.reach in
              let prefix = is.prefix_is in
              let back = lcp-sym tell.joiner e in
              let reach : tell.prefix ≤ lcp x e = lcp-least x tell.joiner e tell.prefix (omega arith) (omega arith) in
              let tells = step.covers.introduces first e link other reach in
              record { met = inr (inr (lcp x e + 1, tells_way s s' number w x tell watch step e tells, omega arith)) },
          record { met = inr (inl (record { fields = hello.fields; way = way; named = inl (hello.pins e link other) })) },
        )

    module _ (meet : Meet s) (v d f : List ℕ) (pair : CoversAndPins s' v d f) where
      first_stays : StaysJoiner s s' d
      first_stays = record { was = none.joiners d pair.joiner; is = pair.joiner }

      other_stays : StaysJoiner s s' f
      other_stays = record { was = none.joiners f pair.other; is = pair.other }

      -- both were so before
      old : (level : ℕ) → CoversAt s v d level → Pins s v f → AreMet v d f
      old level covers pin =
          let was : CoversAndPins s v d f = record {
            core = none.cores v pair.core;
            joiner = first_stays.was;
            other = other_stays.was;
            apart = pair.apart;
            in_first = was_in s s' d v kept first_stays pair.in_first;
            in_second = was_in s s' f v kept other_stays pair.in_second;
            level = level;
            covers = covers;
            pin = pin;
          } in
          let stays = met_stays s s' x tell.joiner tell.level kept (takes_one s s' number w x tell watch step) in (
            λ inside. stays v d f first_stays other_stays (meet.first v d f was (was_in s s' d f kept first_stays inside)),
            λ inside. stays v f d other_stays first_stays (meet.second v d f was (was_in s s' f d kept other_stays inside)),
          )

      -- the node covers the joiner anew
      covers_it : v ≡ x → d ≡ tell.joiner → Pins s v f → (c : Option ℕ) → level_kept step.before.covers tell.joiner ≡ c → AreMet v d f
      covers_it here joins pin None was =
          let both = fresh was f (rw here at pin) (λ same. pair.apart (joins ∙ sym same)) in (
            λ inside.
                let near : IsIn s tell.joiner f = rw joins at (was_in s s' d f kept first_stays inside) in
                rw (here, joins) (both.0 near),
            λ inside. rw (here, joins) both.1,
          )
      covers_it here joins pin (Some c) was =
          old c (record { state = step.before; is = rw here step.at.was; cover = rw joins was }) pin

      -- the node pins the joiner
      pins : v ≡ x → f ≡ tell.joiner → CoversAt s v d pair.level → (c : Option ℕ) → level_kept step.before.covers tell.joiner ≡ c
          → AreMet v d f
      pins here joins covers None was =
          let pin = (before.covered.each v d pair.level (none.cores v pair.core) first_stays.was covers).pin in
          let both = fresh was d (rw here at pin) (λ same. pair.apart (same ∙ sym joins)) in (
            λ inside. rw (here, joins) both.1,
            λ inside.
                let near : IsIn s tell.joiner d = rw joins at (was_in s s' f d kept other_stays inside) in
                rw (here, joins) (both.0 near),
          )
      pins here joins covers (Some c) was =
          let mine : CoversAt s v f c = record { state = step.before; is = rw here step.at.was; cover = rw joins was } in
          old pair.level covers (before.covered.each v f c (none.cores v pair.core) other_stays.was mine).pin

      pair_met : AreMet v d f
      pair_met =
          elim (cases v d pair.level pair.covers) [
            | inl covers ↦
                elim (links_cases v f Pin pair.pin) [
                  | inl pin ↦ old pair.level covers pin
                  | inr new ↦ pins new.0 new.1 covers (level_kept step.before.covers tell.joiner) refl
                ]
            | inr new ↦
                elim (links_cases v f Pin pair.pin) [
                  | inl pin ↦ covers_it new.0 new.1 pin (level_kept step.before.covers tell.joiner) refl
                  | inr also ↦ absurd (pair.apart (new.1 ∙ sym also.1))
                ]
          ]

    pub meet_kept : Meet s → Meet s'
    meet_kept meet = record { first = λ v d f pair. (pair_met meet v d f pair).0; second = λ v d f pair. (pair_met meet v d f pair).1 }
