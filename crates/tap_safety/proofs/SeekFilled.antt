-- A Seek at the surrogate keeps tables without holes, and what leads to them.
use Rattle.std.proofs.Common.{◌≡◌, inl, inr, ℕ, ◌+◌, ◌<◌, ◌≤◌, List, [], ◌⊎◌, Option, None, Some, arith, refl, sym, ap, ◌∙◌}
use Rattle.std.specs.Option.{unwrap_or}
use Rattle.tap_name.specs.Prefix.{lcp}
use Rattle.tap_name.specs.Settings.{SettingsValue}
use Rattle.tap_name.proofs.Prefixes.{lcp-least, lcp-sym, lcp-triangle}
use Rattle.tap_link.specs.declared.kind.Kind.{Kind}
use Rattle.tap_link.specs.declared.kind.Kind.TheVariants.{Pin, Settled, Leaving as LeavingKind}
use Rattle.tap_rule.specs.Node.{level_kept, link_to}
use Rattle.tap_wire.specs.declared.frame.Body.TheVariants.{Seek}
use Rattle.tap_wire.specs.declared.frame.Frame.{Frame}
use Rattle.tap_safety.specs.Frames.{hello_body, tell_body}
use Rattle.tap_safety.specs.System.{System, CoversAt, HasLink, HelloNames, IsCoreNode, IsJoiner, IsTold}
use Rattle.tap_safety.specs.Regions.{IsGiven, IsIn, IsReached, IsServed, Pins, prefix_of, surrogate_of}
use Rattle.tap_safety.specs.Parts.{Cover, CoverIs, Covered, CoversAndPins, HasNear, HoleFree, IsClaim, IsMet, Low, Meet}
use Rattle.tap_safety.specs.Filled.{AreFilled}
use Rattle.tap_safety.specs.TellStep.{IsNewlyCovered, Tells}
use Rattle.tap_safety.specs.SeekStep.{BeforeSeat, BeforeSeek, SeatsJoiner}
use Rattle.tap_safety.proofs.Calm.{StillTold, still_told}
use Rattle.tap_safety.proofs.CoverKept.{core_or_joiner, serves_near}
use Rattle.tap_safety.proofs.FrameKeeps.{core_not, link_on}
use Rattle.tap_safety.proofs.KeepsNear.{keeps_near}
use Rattle.tap_safety.proofs.KeptParts.{Keeps, StaysJoiner, TakesNoTell, met_kept}
use Rattle.tap_safety.proofs.Names.{lcp_itself}
use Rattle.tap_safety.proofs.SeekLow.{low_new}
use Rattle.tap_safety.proofs.TellKeeps.{core_kept, core_was, joiner_before, node_after, node_before}
use Rattle.tap_safety.proofs.UnderWay.{named_still, sent_under_way, told_still}

module _ (p : SettingsValue) (s s' : System) (number : ℕ) (w x b : List ℕ) (step : SeatsJoiner p s s' number w x b)
    (before : BeforeSeat p s x b) (filled : AreFilled p s) where
  abbrev seek : Frame
  seek = record { from = w; to = x; body = Seek b }

  -- ---- who is who

  cores : (y : List ℕ) → IsCoreNode s y → IsCoreNode s' y
  cores = core_kept s s' x step.before step.after step.at step.covers.status

  cores_were : (y : List ℕ) → IsCoreNode s' y → IsCoreNode s y
  cores_were = core_was s s' x step.before step.after step.at step.covers.status

  not_core : IsCoreNode s b → ⊥
  not_core = core_not s b before.seeker.state before.seeker.is (inl before.seeker.joining)

  -- a joiner of before isn't b
  old_apart : (d : List ℕ) → IsJoiner s d → d ≡ b → ⊥
  old_apart d joiner same =
      let waits : s.surrogate d ≡ None = rw same before.seeker.waits in
      let no : None ≡ Some joiner.surrogate = sym waits ∙ joiner.started in
      cc

  surrogate_old : (d : List ℕ) → IsJoiner s d → s'.surrogate d ≡ s.surrogate d
  surrogate_old d joiner = elim (step.others d) [ inl same ↦ absurd (old_apart d joiner same) | inr stays ↦ stays ]

  joiner_cases : (d : List ℕ) → IsJoiner s' d → IsJoiner s d ⊎ (d ≡ b)
  joiner_cases d joiner =
      elim (step.others d) [
        | inl same ↦ inr same
        | inr stays ↦ inl (joiner_before s s' x step.before step.after step.at step.covers.status d stays joiner)
      ]

  stays : (d : List ℕ) → IsJoiner s' d → IsJoiner s d → StaysJoiner s s' d
  stays d now was = record { was = was; is = now }

  surrogate_new : surrogate_of s' b ≡ x
  surrogate_new = ap (λ surrogate. unwrap_or surrogate []) step.seated

  prefix_new : prefix_of s' b ≡ lcp x b
  prefix_new = ap (λ surrogate. lcp surrogate b) surrogate_new

  surrogate_is : (d : List ℕ) → IsJoiner s d → surrogate_of s' d ≡ surrogate_of s d
  surrogate_is d joiner = ap (λ surrogate. unwrap_or surrogate []) (surrogate_old d joiner)

  prefix_is : (d : List ℕ) → IsJoiner s d → prefix_of s' d ≡ prefix_of s d
  prefix_is d joiner = ap (λ surrogate. lcp surrogate d) (surrogate_is d joiner)

  in_was : (d y : List ℕ) → IsJoiner s d → IsIn s' d y → IsIn s d y
  in_was d y joiner inside = record { reach = rw (prefix_is d joiner) at inside.reach }

  -- ---- links and covers

  no_link : (y : List ℕ) (kind : Kind) → HasLink s y b kind → ⊥
  no_link y kind link = before.unknown.linked y (record { kind = kind; link = link })

  link_stays : (z : List ℕ) (kind : Kind) → link_to step.before z ≡ Some kind → link_to step.after z ≡ Some kind
  link_stays z kind old =
      elim (step.covers.links z) [
        | inr same ↦ same ∙ old
        | inl here ↦
            let mine : link_to step.before b ≡ Some kind = sym (ap (λ v. link_to step.before v) here) ∙ old in
            absurd (no_link x kind (record { state = step.before; is = step.at.was; link = mine }))
      ]

  link_kept : (y z : List ℕ) (kind : Kind) → HasLink s y z kind → HasLink s' y z kind
  link_kept y z kind link = link_on s s' x step.before step.after step.at y z kind (link_stays z kind) link

  -- a link after the step was there, or is the new pin
  link_cases : (y z : List ℕ) (kind : Kind) → HasLink s' y z kind → HasLink s y z kind ⊎ ((y ≡ x) × (z ≡ b))
  link_cases y z kind link =
      elim (node_before s s' x step.before step.after step.at y link.state link.is) [
        | inr there ↦ inl (record { state = link.state; is = there; link = link.link })
        | inl here ↦
            let now : link_to step.after z ≡ Some kind = rw (← here.1) link.link in
            elim (step.covers.links z) [
              | inl new ↦ inr (here.0, new)
              | inr same ↦ inl (record { state = step.before; is = here.2; link = sym same ∙ now })
            ]
      ]

  -- a cover after the step was there, or is the new one
  cover_cases : (y d : List ℕ) (level : ℕ) → CoversAt s' y d level → CoversAt s y d level ⊎ ((y ≡ x) × (d ≡ b) × (level ≡ lcp x b))
  cover_cases y d level covers =
      elim (node_before s s' x step.before step.after step.at y covers.state covers.is) [
        | inr there ↦ inl (record { state = covers.state; is = there; cover = covers.cover })
        | inl here ↦
            let now : level_kept step.after.covers d ≡ Some level = rw (← here.1) covers.cover in
            elim (step.covers.covers d) [
              | inr same ↦ inl (record { state = step.before; is = here.2; cover = sym same ∙ now })
              | inl new ↦
                  let mine : level_kept step.after.covers b ≡ Some level =
                  sym (ap (λ v. level_kept step.after.covers v) new) ∙ now in
                  let both : Some level ≡ Some (lcp x b) = sym mine ∙ step.covers.covered in
                  let is : level ≡ lcp x b = cc in
                  inr (here.0, new, is)
            ]
      ]

  cover_kept : (y d : List ℕ) (level : ℕ) → IsJoiner s d → CoversAt s y d level → CoversAt s' y d level
  cover_kept y d level joiner covers =
      elim (node_after s s' x step.before step.after step.at y covers.state covers.is) [
        | inr there ↦ record { state = covers.state; is = there; cover = covers.cover }
        | inl here ↦
            let old : level_kept step.before.covers d ≡ Some level = rw (← here.1) covers.cover in
            elim (step.covers.covers d) [
              | inl same ↦ absurd (old_apart d joiner same)
              | inr same ↦ record { state = step.after; is = here.2; cover = same ∙ old }
            ]
      ]

  -- the cover is the first
  first_at : (c : Option ℕ) → level_kept step.before.covers b ≡ c → level_kept step.before.covers b ≡ None
  first_at None is = is
  first_at (Some c) is = absurd (before.unknown.covered x c (record { state = step.before; is = step.at.was; cover = is }))

  first : level_kept step.before.covers b ≡ None
  first = first_at (level_kept step.before.covers b) refl

  new_cover : CoversAt s' x b (lcp x b)
  new_cover = record { state = step.after; is = step.at.is; cover = step.covers.covered }

  new_pin : Pins s' x b
  new_pin = record { state = step.after; is = step.at.is; link = step.covers.pinned }

  -- ---- what stays of the other joiners

  named_kept : (v d z : List ℕ) → HelloNames s v d z → HelloNames s' v d z
  named_kept = named_still s s' number seek step.sent step.taken (λ hello is. let wrong : hello_body hello ≡ Seek b = is in cc)

  no_tell : TakesNoTell s s'
  no_tell = record {
    told = λ d t k told.
        elim (told_still s s' number seek step.sent step.taken d t k told) [
          | inl still ↦ still
          | inr is ↦ let wrong : tell_body told.fields told.watch ≡ Seek b = is.0 in cc
        ];
  }

  keeps : Keeps s s'
  keeps =
      keeps_near s s' cores (λ y d kind joiner link. link_kept y d kind link)
      (λ y z core has.
      record {
        to = z;
        core = cores z core;
        has = record { kind = has.kind; link = link_kept y z has.kind has.link };
        same = inl refl;
      })
      (λ v d z named. inl (named_kept v d z named)) (λ d joiner. surrogate_old d joiner.was)

  told : StillTold s s'
  told = still_told s s' keeps no_tell

  -- ---- Covered

  given_new : IsGiven s' b x
  given_new =
      let all = lcp_itself p x (before.names x before.core) in
      let apart = step.greets.apart in
      let back = lcp-sym x b in
      record {
        by = x;
        core = cores x before.core;
        near = omega arith;
        knows = record {
          known = inr (x, record { fields = step.greets.hello; way = step.greets.way; named = inr (refl, step.greets.is_core) });
        };
      }

  cover_is_old : (y d : List ℕ) (level : ℕ) → IsCoreNode s' y → IsJoiner s' d → IsJoiner s d → CoversAt s y d level
      → CoverIs p s' y d level
  cover_is_old y d level core now joiner covers =
      let is = filled.covered.each y d level (cores_were y core) joiner covers in
      let stay = stays d now joiner in
      record {
        inside = record { reach = rw (prefix_is d joiner) is.inside.reach };
        pin = keeps.pins y d stay (inl core) is.pin;
        from = rw (prefix_is d joiner) is.from;
        to = is.to;
        given = keeps.given d y stay is.given;
      }

  cover_is_new : CoverIs p s' x b (lcp x b)
  cover_is_new =
      let apart = step.greets.apart in
      let same = prefix_new in
      record {
        inside = record { reach = rw prefix_new (omega arith) };
        pin = new_pin;
        from = rw prefix_new (omega arith);
        to = omega arith;
        given = given_new;
      }

  no_old_cover : (y d : List ℕ) (level : ℕ) → d ≡ b → CoversAt s y d level → ⊥
  no_old_cover y d level same covers = before.unknown.covered y level (rw same at covers)

  covered_seat : Covered p s'
  covered_seat = record {
    each = λ y d level core joiner covers.
        elim (cover_cases y d level covers) [
          | inr new ↦ rw (new.0, new.1, new.2) cover_is_new
          | inl old ↦
              elim (joiner_cases d joiner) [
                | inl was ↦ cover_is_old y d level core joiner was old
                | inr same ↦ absurd (no_old_cover y d level same old)
              ]
        ];
    surrogate = λ d joiner.
        elim (joiner_cases d joiner) [
          | inl was ↦
              let is = filled.covered.surrogate d was in
              rw (surrogate_is d was)
              (cores (surrogate_of s d) is.0, cover_kept (surrogate_of s d) d (prefix_of s d) was is.1)
          | inr same ↦ rw same (rw surrogate_new (cores x before.core, new_cover))
        ];
    joiners = λ y d level joiner covers.
        elim (cover_cases y d level covers) [
          | inr new ↦ core_or_joiner s' y (rw new.0 (cores x before.core)) joiner
          | inl old ↦
              elim (joiner_cases y joiner) [
                | inl was ↦ filled.covered.joiners y d level was old
                | inr same ↦ before.idle d level (rw same at old)
              ]
        ];
  }

  -- ---- Meet

  tells_way : (t : List ℕ) → Tells step.sent x b t → IsTold s' b t (lcp x t + 1)
  tells_way t tells = record {
    from = x;
    fields = tells.fields;
    watch = tells.watch;
    way = sent_under_way s s' number seek step.sent step.taken x t (tell_body tells.fields tells.watch) tells.sends;
    joiner = tells.joiner;
    level_is = tells.level;
  }

  -- each joiner that x pinned meets the new one
  fresh : (e : List ℕ) → IsJoiner s e → Pins s x e → (IsIn s' b e → IsMet s' x b e) × IsMet s' x e b
  fresh e joiner pin =
      let was = step.at.was in
      let at = pin.is in
      let same : pin.state ≡ step.before = cc in
      let link : link_to step.before e ≡ Some Pin = rw (← same) pin.link in
      let other = old_apart e joiner in
      let greets = step.greets.was in
      let node : step.greets.before ≡ step.before = cc in
      let pinned : link_to step.greets.before e ≡ Some Pin = rw node link in (
        λ inside.
            let two : lcp x b ≤ lcp e b = rw prefix_new at inside.reach in
            let back = lcp-sym b e in
            let reach : lcp x b ≤ lcp x e = lcp-least x b e (lcp x b) (omega arith) (omega arith) in
            let tells = step.covers.introduces first e link other reach in
            record { met = inr (inr (lcp x e + 1, tells_way e tells, omega arith)) },
        record {
          met = inr (inl (record {
            fields = step.greets.hello;
            way = step.greets.way;
            named = inl (step.greets.pins e pinned other);
          }));
        },
      )

  abbrev AreMet : List ℕ → List ℕ → List ℕ → Type 0
  AreMet v d f = (IsIn s' d f → IsMet s' v d f) × (IsIn s' f d → IsMet s' v f d)

  module _ (v d f : List ℕ) (pair : CoversAndPins s' v d f) where
    -- both are joiners of before
    both_old : IsJoiner s d → IsJoiner s f → AreMet v d f
    both_old one two =
        elim (cover_cases v d pair.level pair.covers) [
          | inr new ↦ absurd (old_apart d one new.1)
          | inl covers ↦
              elim (link_cases v f Pin pair.pin) [
                | inr new ↦ absurd (old_apart f two new.1)
                | inl pin ↦
                    let was : CoversAndPins s v d f = record {
                      core = cores_were v pair.core;
                      joiner = one;
                      other = two;
                      apart = pair.apart;
                      in_first = in_was d v one pair.in_first;
                      in_second = in_was f v two pair.in_second;
                      level = pair.level;
                      covers = covers;
                      pin = pin;
                    } in
                    let first_stays = stays d pair.joiner one in
                    let other_stays = stays f pair.other two in (
                      λ inside. told.met v d f first_stays other_stays (filled.meet.first v d f was (in_was d f one inside)),
                      λ inside. told.met v f d other_stays first_stays (filled.meet.second v d f was (in_was f d two inside)),
                    )
              ]
        ]

    -- the first one is new
    first_new : d ≡ b → IsJoiner s f → AreMet v d f
    first_new same two =
        elim (cover_cases v d pair.level pair.covers) [
          | inl old ↦ absurd (no_old_cover v d pair.level same old)
          | inr new ↦
              elim (link_cases v f Pin pair.pin) [
                | inr also ↦ absurd (old_apart f two also.1)
                | inl pin ↦
                    let both = fresh f two (rw new.0 at pin) in (
                      λ inside. let near : IsIn s' b f = rw same at inside in rw (new.0, same) (both.0 near),
                      λ inside. rw (new.0, same) both.1,
                    )
              ]
        ]

    -- the other one is new
    other_new : IsJoiner s d → f ≡ b → AreMet v d f
    other_new one same =
        elim (cover_cases v d pair.level pair.covers) [
          | inr new ↦ absurd (old_apart d one new.1)
          | inl covers ↦
              elim (link_cases v f Pin pair.pin) [
                | inl old ↦ absurd (no_link v Pin (rw same at old))
                | inr new ↦
                    let pin = (filled.covered.each v d pair.level (cores_were v pair.core) one covers).pin in
                    let both = fresh d one (rw new.0 at pin) in (
                      λ inside. rw (new.0, same) both.1,
                      λ inside. let near : IsIn s' b d = rw same at inside in rw (new.0, same) (both.0 near),
                    )
              ]
        ]

    pair_met : AreMet v d f
    pair_met =
        elim (joiner_cases d pair.joiner) [
          | inl one ↦ elim (joiner_cases f pair.other) [ inl two ↦ both_old one two | inr same ↦ other_new one same ]
          | inr same ↦
              elim (joiner_cases f pair.other) [
                | inl two ↦ first_new same two
                | inr also ↦ absurd (pair.apart (same ∙ sym also))
              ]
        ]

  meet_seat : Meet s'
  meet_seat = record { first = λ v d f pair. (pair_met v d f pair).0; second = λ v d f pair. (pair_met v d f pair).1 }

  -- ---- Cover

  -- a core node of a level that the cover reaches will be told of the new joiner
  newly : (e : List ℕ) → IsCoreNode s e → lcp x b ≤ lcp x e → lcp x e < p.digits → IsReached s' b e (lcp x e)
  newly e core reach apart =
      let near = filled.hole_free.filled x e before.core core apart in
      let sides = lcp-triangle x e near.to in
      let close = near.near in
      let level : lcp x near.to ≡ lcp x e = omega (arith, sides.below) in
      let reaches : IsNewlyCovered step.before x b (lcp x b) near.to = record {
        from = omega arith;
        to = λ kept_at at. let no : None ≡ Some kept_at = sym first ∙ at in cc;
      } in
      by_kind near level reaches near.kind refl
    where
      by_kind : (near : HasNear s x e) → lcp x near.to ≡ lcp x e → IsNewlyCovered step.before x b (lcp x b) near.to
          → (kind : Kind) → near.kind ≡ kind
          → IsReached s' b e (lcp x e)
      by_kind near level reaches Pin kind =
          let here = step.at.was in
          let at = near.link.is in
          let same : near.link.state ≡ step.before = cc in
          let pin : link_to step.before near.to ≡ Some Pin = rw (← same, ← kind) near.link.link in
          let other : near.to ≡ b → ⊥ = λ joins. not_core (rw joins at near.core) in
          let tells = tells_way near.to (step.covers.pins near.to pin other reaches) in
          serves_near s' x b e near.to (lcp x near.to + 1) tells (cores near.to near.core) refl near.near
      by_kind near level reaches Settled kind =
          let here = step.at.was in
          let at = near.link.is in
          let same : near.link.state ≡ step.before = cc in
          let settled : link_to step.before near.to ≡ Some Settled = rw (← same, ← kind) near.link.link in
          let one = step.covers.primaries near.to settled reaches in
          let primary = one.primary in
          let is_core : IsCoreNode s primary =
          before.settled.settled x primary (record { state = step.before; is = step.at.was; link = one.settled }) in
          let two = near.near in
          let three = one.near in
          let four = lcp-least e near.to primary (lcp x e + 1) (omega arith) (omega arith) in
          serves_near s' x b e primary (lcp x primary + 1) (tells_way primary one.tells) (cores primary is_core)
          (refl {a = lcp x primary + 1}) (omega arith)
      by_kind near level reaches LeavingKind kind =
          let link : HasLink s x near.to LeavingKind = rw kind at near.link in
          absurd (before.unmarked x near.to link)

  cover_old : (v d e : List ℕ) (level : ℕ) → IsJoiner s' d → IsJoiner s d → CoversAt s v d level → IsClaim p s' v d e level
      → IsServed s' d e (lcp v e)
  cover_old v d e level now joiner covers claim =
      let was : IsClaim p s v d e level = record {
        core = cores_were v claim.core;
        joiner = joiner;
        covers = covers;
        other = cores_were e claim.other;
        reach = claim.reach;
        apart = claim.apart;
      } in
      elim (filled.cover.served v d e level was) [
        | inl met ↦ inl (met_kept s s' d e keeps (stays d now joiner) claim.other met)
        | inr reached ↦ inr (told.reached d e (lcp v e) reached)
      ]

  cover_seat : Cover p s'
  cover_seat = record {
    served = λ v d e level claim.
        elim (cover_cases v d level claim.covers) [
          | inl old ↦
              elim (joiner_cases d claim.joiner) [
                | inl was ↦ cover_old v d e level claim.joiner was old claim
                | inr same ↦ absurd (no_old_cover v d level same old)
              ]
          | inr new ↦
              let reach : lcp x b ≤ lcp x e = rw (← new.2, ← new.0) claim.reach in
              let apart : lcp x e < p.digits = rw (← new.0) claim.apart in
              rw (new.0, new.1) (inr (newly e (cores_were e claim.other) reach apart))
        ];
  }

  -- ---- Low and Hole-free

  low_seat : Low s'
  low_seat = record {
    given = λ d e joiner core low.
        elim (joiner_cases d joiner) [
          | inl was ↦
              let near : lcp d e ≤ prefix_of s d = rw (prefix_is d was) at low in
              keeps.given d e (stays d joiner was) (filled.low.given d e was (cores_were e core) near)
          | inr same ↦
              let mine : lcp b e ≤ prefix_of s' b = rw same at low in
              let near : lcp b e ≤ lcp x b = rw prefix_new at mine in
              rw same (low_new p s s' x b before_seek before.core not_core step.greets e (cores_were e core) near)
        ];
  }
    where
      before_seek : BeforeSeek p s
      before_seek = record {
        names = before.names;
        settled = before.settled;
        unmarked = before.unmarked;
        hole_free = filled.hole_free;
      }

  hole_free_seat : HoleFree p s'
  hole_free_seat = record {
    filled = λ y e core other apart.
        let one = cores_were y core in
        let two = cores_were e other in
        keeps.filled y e one two (filled.hole_free.filled y e one two apart);
  }

  pub filled_seat : AreFilled p s'
  filled_seat = record { covered = covered_seat; meet = meet_seat; cover = cover_seat; low = low_seat; hole_free = hole_free_seat }
