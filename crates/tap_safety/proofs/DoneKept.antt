-- Done at a joiner keeps tables without holes, and what leads to them.
use Rattle.std.proofs.Common.{◌≡◌, inl, inr, ℕ, ◌+◌, ◌<◌, List, ◌⊎◌, arith, sym, ◌∙◌}
use Rattle.std.proofs.lemmas.Bool.{cases_lt}
use Rattle.tap_name.specs.Prefix.{lcp}
use Rattle.tap_name.specs.Settings.{SettingsValue}
use Rattle.tap_name.proofs.Prefixes.{lcp-least, lcp-sym, lcp-triangle}
use Rattle.tap_link.specs.declared.kind.Kind.{Kind}
use Rattle.tap_link.specs.declared.kind.Kind.TheVariants.{Pin}
use Rattle.tap_wire.specs.declared.frame.Body.TheVariants.{Done}
use Rattle.tap_wire.specs.declared.frame.Frame.{Frame}
use Rattle.tap_rule.specs.Node.Status.{Core, Joining}
use Rattle.tap_safety.specs.Frames.{hello_body, tell_body}
use Rattle.tap_safety.specs.System.{System, IsCoreNode, IsJoiner, HasLink, CoversAt, IsTold, HelloNames}
use Rattle.tap_safety.specs.Regions.{surrogate_of, prefix_of, IsIn, Knows, Pins, IsGiven}
use Rattle.tap_safety.specs.Parts.{IsClaim, HasNear, HoleFree}
use Rattle.tap_safety.specs.DoneStep.{TakesDone, NothingOnWay, BeforeDone}
use Rattle.tap_safety.proofs.Names.{lcp_itself, lcp_whole, lcp_most}
use Rattle.tap_safety.proofs.UnderWay.{named_still, told_still}
use Rattle.tap_safety.proofs.KeepsAll.{keeps_all, knows_kept, near_kept}
use Rattle.tap_safety.proofs.KeptParts.{Keeps}
use Rattle.tap_safety.proofs.TellKeeps.{covers_same, links_same, node_after, node_before}
use Rattle.tap_safety.proofs.CoverKept.{core_or_joiner}

-- what a Done leaves
module _ (s s' : System) (number : ℕ) (w e : List ℕ) (step : TakesDone s s' number w e) where
  abbrev taken_done : Frame
  taken_done = record { from = w; to = e; body = Done }

  pub core_on : (y : List ℕ) → IsCoreNode s y → IsCoreNode s' y
  core_on y core =
      elim (node_after s s' e step.before step.after step.at y core.state core.is) [
        | inl here ↦ record { state = step.after; is = here.2; core = inl step.is }
        | inr there ↦ record { state = core.state; is = there; core = core.core }
      ]

  pub now_core : IsCoreNode s' e
  now_core = record { state = step.after; is = step.at.is; core = inl step.is }

  pub core_cases : (y : List ℕ) → IsCoreNode s' y → IsCoreNode s y ⊎ (y ≡ e)
  core_cases y core =
      elim (node_before s s' e step.before step.after step.at y core.state core.is) [
        | inl here ↦ inr here.0
        | inr there ↦ inl (record { state = core.state; is = there; core = core.core })
      ]

  pub joiner_was : (y : List ℕ) → IsJoiner s' y → IsJoiner s y × (y ≡ e → ⊥)
  joiner_was y joiner = (
    elim (node_before s s' e step.before step.after step.at y joiner.state joiner.is) [
      | inl here ↦
          let joining = joiner.joining in
          let same = here.1 in
          let core = step.is in
          let no : Core ≡ Joining = cc in cc
      | inr there ↦ record {
        state = joiner.state;
        is = there;
        joining = joiner.joining;
        surrogate = joiner.surrogate;
        started = sym (step.surrogate y) ∙ joiner.started;
      }
    ],
    λ same. core_or_joiner s' y (rw same now_core) joiner,
  )

  pub link_on : (y z : List ℕ) (kind : Kind) → HasLink s y z kind → HasLink s' y z kind
  link_on = links_same s s' e step.before step.after step.at step.links

  pub covers_was : (y b : List ℕ) (level : ℕ) → CoversAt s' y b level → CoversAt s y b level
  covers_was = covers_same s s' e step.before step.after step.at step.covers

  pub told_on : (b x : List ℕ) (level : ℕ) → IsTold s b x level → IsTold s' b x level
  told_on b x level told =
      elim (told_still s s' number taken_done step.sent step.taken b x level told) [
        | inl still ↦ still
        | inr is ↦ let no : tell_body told.fields told.watch ≡ Done = is.0 in cc
      ]

  named_on : (v b x : List ℕ) → HelloNames s v b x → HelloNames s' v b x
  named_on = named_still s s' number taken_done step.sent step.taken (λ fields is. let no : hello_body fields ≡ Done = is in cc)

  pub knows_on : (b y : List ℕ) → Knows s b y → Knows s' b y
  knows_on = knows_kept s s' core_on link_on named_on step.surrogate

  pub near_on : (x y : List ℕ) → HasNear s x y → HasNear s' x y
  near_on = near_kept s s' core_on link_on named_on step.surrogate

  pub keeps : Keeps s s'
  keeps = keeps_all s s' core_on link_on named_on step.surrogate

module _ (p : SettingsValue) (s : System) (e : List ℕ) (before : BeforeDone p s) (quiet : NothingOnWay s e) where
  -- where no Hello is on its way, what a joiner is given stands in its table
  table_has : (x : List ℕ) → IsGiven s e x → HasNear s e x
  table_has x given =
      elim given.knows.known [
        | inl has ↦ record { to = given.by; core = given.core; near = given.near; kind = has.kind; link = has.link }
        | inr named ↦ absurd (quiet.hellos named.0 given.by named.1)
      ]

  -- a core node of the region of a quiet joiner pins it, and stands in a filled slot of its table
  pub in_region : (v : List ℕ) → IsCoreNode s v → IsIn s e v → Pins s v e × HasNear s e v
  in_region v core inside =
      let at = surrogate_of s e in
      let surrogate = before.covered.surrogate e quiet.joiner in
      elim (cases_lt (lcp at v) p.digits) [
        | inl apart ↦
            let region = inside.reach in
            let back = lcp-sym v e in
            let reach = lcp-least at e v (prefix_of s e) (omega arith) (omega arith) in
            let claim : IsClaim p s at e v (prefix_of s e) =
            record { core = surrogate.0; joiner = quiet.joiner; covers = surrogate.1; other = core; reach = reach; apart = apart } in
            elim (before.cover.served at e v (prefix_of s e) claim) [
              | inl met ↦ (met.pin, table_has v met.given)
              | inr reached ↦ absurd (quiet.tells reached.to reached.level reached.told)
            ]
        | inr same ↦
            let is : at ≡ v = lcp_whole p at v (before.core_names at surrogate.0) (before.core_names v core) same in
            let cover = before.covered.each at e (prefix_of s e) surrogate.0 quiet.joiner surrogate.1 in
            rw (← is) (cover.pin, table_has at cover.given)
      ]

  -- a core node outside the region has a core link in the joiner's slot, and the joiner has one in its slot
  pub out_of_region : (v : List ℕ) → IsCoreNode s v → lcp v e < prefix_of s e → HasNear s v e × HasNear s e v
  out_of_region v core outside =
      let at = surrogate_of s e in
      let surrogate = before.covered.surrogate e quiet.joiner in
      let back = lcp-sym e at in
      let sides = lcp-triangle v e at in
      let level : lcp v at ≡ lcp v e = sides.below (omega arith) in
      let most = lcp_most p at e (before.core_names at surrogate.0) in
      let filled = before.hole_free.filled v at core surrogate.0 (omega arith) in
      let one = filled.near in
      let near = lcp-least e at filled.to (lcp v e + 1) (omega arith) (omega arith) in
      let turned = lcp-sym v e in
      let given = before.low.given e v quiet.joiner core (omega arith) in (
        record { to = filled.to; core = filled.core; near = omega arith; kind = filled.kind; link = filled.link },
        table_has v given,
      )

  module _ (s' : System) (number : ℕ) (w : List ℕ) (step : TakesDone s s' number w e) where
    -- the new core node's slot is filled at each other one, and each other one's at it
    both : (v : List ℕ) → IsCoreNode s v → HasNear s' v e × HasNear s' e v
    both v core =
        elim (cases_lt (lcp v e) (prefix_of s e)) [
          | inl outside ↦
              let two = out_of_region v core outside in
              (near_on s s' number w e step v e two.0, near_on s s' number w e step e v two.1)
          | inr inside ↦
              let two = in_region v core (record { reach = inside }) in
              let all = lcp_itself p e (before.joiner_names e quiet.joiner) in
              elim (cases_lt (lcp v e) p.digits) [
                | inl apart ↦
                    let pin = link_on s s' number w e step v e Pin two.0 in
                    let here = now_core s s' number w e step in
                    (record { to = e; core = here; near = omega arith; kind = Pin; link = pin }, near_on s s' number w e step e v two.1)
                | inr same ↦
                    let is : v ≡ e = lcp_whole p v e (before.core_names v core) (before.joiner_names e quiet.joiner) same in
                    absurd (core_or_joiner s e (rw is at core) quiet.joiner)
              ]
        ]

    -- Hole-free is kept
    pub hole_free_kept : HoleFree p s'
    hole_free_kept = record { filled = filled }
      where
        filled : (x y : List ℕ) → IsCoreNode s' x → IsCoreNode s' y → lcp x y < p.digits → HasNear s' x y
        filled x y one two apart =
            elim (core_cases s s' number w e step x one) [
              | inl old ↦
                  elim (core_cases s s' number w e step y two) [
                    | inl other ↦ near_on s s' number w e step x y (before.hole_free.filled x y old other apart)
                    | inr new ↦ rw new (both x old).0
                  ]
              | inr new ↦
                  elim (core_cases s s' number w e step y two) [
                    | inl other ↦ rw new (both y other).1
                    | inr also ↦
                        let all = lcp_itself p e (before.joiner_names e quiet.joiner) in
                        let at : lcp e e < p.digits = rw (new, also) at apart in absurd (omega arith)
                  ]
            ]
