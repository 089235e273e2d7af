-- What a step at one node leaves as it was, and what a Tell leaves that is taken anew at a core node.
-- Cited above: core_kept, covers_same, joiner_after, joiner_before, links_same, node_after, node_before
use Rattle.std.proofs.Common.{◌≡◌, inl, inr, ℕ, List, ◌⊎◌, None, Some, sym, ◌∙◌}
use Rattle.tap_name.specs.declared.slot.Slot.{Slot}
use Rattle.tap_link.specs.declared.kind.Kind.{Kind}
use Rattle.tap_link.specs.declared.kind.Kind.TheVariants.{Pin}
use Rattle.tap_rule.specs.Node.{NodeState, level_kept, link_to}
use Rattle.tap_wire.specs.declared.frame.Frame.{Frame}
use Rattle.tap_wire.specs.declared.frame.TellFields.{TellFields}
use Rattle.tap_safety.specs.Frames.{hello_body, tell_body}
use Rattle.tap_safety.specs.System.{System, CoversAt, HasLink, IsCoreNode, IsJoiner, HelloNames, IsTold}
use Rattle.tap_safety.specs.Exchanges.{ChangesAt, IsTaken}
use Rattle.tap_safety.specs.TellStep.{TakesTell}
use Rattle.tap_safety.proofs.UnderWay.{named_still, told_still}
use Rattle.tap_safety.proofs.KeepsAll.{keeps_all}
use Rattle.tap_safety.proofs.KeptParts.{Keeps, AddsNone, TakesOne}

-- the node of a name after the step, from the one before
pub node_after : (s s' : System) (x : List ℕ) (before after : NodeState) → ChangesAt s s' x before after
    → (y : List ℕ) (state : NodeState) → s.node y ≡ Some state
    → ((y ≡ x) × (state ≡ before) × (s'.node y ≡ Some after)) ⊎ (s'.node y ≡ Some state)
node_after s s' x before after at y state is =
    elim (at.others y) [
      | inl here ↦
          let was : s.node y ≡ Some before = rw here at.was in
          let same : state ≡ before = cc in
          inl (here, same, rw here at.is)
      | inr there ↦ inr (there ∙ is)
    ]

-- and the one before, from the one after
pub node_before : (s s' : System) (x : List ℕ) (before after : NodeState) → ChangesAt s s' x before after
    → (y : List ℕ) (state : NodeState) → s'.node y ≡ Some state
    → ((y ≡ x) × (state ≡ after) × (s.node y ≡ Some before)) ⊎ (s.node y ≡ Some state)
node_before s s' x before after at y state is =
    elim (at.others y) [
      | inl here ↦
          let was : s'.node y ≡ Some after = rw here at.is in
          let same : state ≡ after = cc in
          inl (here, same, rw here at.was)
      | inr there ↦ inr (sym there ∙ is)
    ]

module _ (s s' : System) (x : List ℕ) (before after : NodeState) (at : ChangesAt s s' x before after)
    (status : after.status ≡ before.status) where
  -- where its status stays, core nodes and joiners are those of before
  pub core_kept : (y : List ℕ) → IsCoreNode s y → IsCoreNode s' y
  core_kept y core =
      elim (node_after s s' x before after at y core.state core.is) [
        | inl here ↦
            let same = here.1 in
            record { state = after; is = here.2; core = elim core.core [ inl is ↦ inl (cc) | inr leaving ↦ inr (cc) ] }
        | inr there ↦ record { state = core.state; is = there; core = core.core }
      ]

  pub core_was : (y : List ℕ) → IsCoreNode s' y → IsCoreNode s y
  core_was y core =
      elim (node_before s s' x before after at y core.state core.is) [
        | inl here ↦
            let same = here.1 in
            record { state = before; is = here.2; core = elim core.core [ inl is ↦ inl (cc) | inr leaving ↦ inr (cc) ] }
        | inr there ↦ record { state = core.state; is = there; core = core.core }
      ]

  -- one whose surrogate stays was a joiner, if it is one
  pub joiner_before : (y : List ℕ) → s'.surrogate y ≡ s.surrogate y → IsJoiner s' y → IsJoiner s y
  joiner_before y surrogate joiner =
      let started = sym surrogate ∙ joiner.started in
      elim (node_before s s' x before after at y joiner.state joiner.is) [
        | inl here ↦
            let same = here.1 in
            let joining = joiner.joining in
            record { state = before; is = here.2; joining = cc; surrogate = joiner.surrogate; started = started }
        | inr there ↦
            record { state = joiner.state; is = there; joining = joiner.joining; surrogate = joiner.surrogate; started = started }
      ]

  -- and is one, if it was
  pub joiner_after : (y : List ℕ) → s'.surrogate y ≡ s.surrogate y → IsJoiner s y → IsJoiner s' y
  joiner_after y surrogate joiner =
      let started = surrogate ∙ joiner.started in
      elim (node_after s s' x before after at y joiner.state joiner.is) [
        | inl here ↦
            let same = here.1 in
            let joining = joiner.joining in
            record { state = after; is = here.2; joining = cc; surrogate = joiner.surrogate; started = started }
        | inr there ↦
            record { state = joiner.state; is = there; joining = joiner.joining; surrogate = joiner.surrogate; started = started }
      ]

  pub joiner_was : ((b : List ℕ) → s'.surrogate b ≡ s.surrogate b) → (y : List ℕ) → IsJoiner s' y → IsJoiner s y
  joiner_was surrogate y = joiner_before y (surrogate y)

module _ (s s' : System) (x : List ℕ) (before after : NodeState) (at : ChangesAt s s' x before after) where
  -- where its links stay, all links do
  pub links_same : ((t : List ℕ) → link_to after t ≡ link_to before t) → (y z : List ℕ) (kind : Kind) → HasLink s y z kind
      → HasLink s' y z kind
  links_same same y z kind link =
      elim (node_after s s' x before after at y link.state link.is) [
        | inl here ↦
            let old : link_to before z ≡ Some kind = rw (← here.1) link.link in
            record { state = after; is = here.2; link = same z ∙ old }
        | inr there ↦ record { state = link.state; is = there; link = link.link }
      ]

  -- where its covers stay, no cover is new
  pub covers_same : ((b : List ℕ) → level_kept after.covers b ≡ level_kept before.covers b) → (y b : List ℕ) (level : ℕ)
      → CoversAt s' y b level → CoversAt s y b level
  covers_same same y b level covers =
      elim (node_before s s' x before after at y covers.state covers.is) [
        | inl here ↦
            let now : level_kept after.covers b ≡ Some level = rw (← here.1) covers.cover in
            record { state = before; is = here.2; cover = sym (same b) ∙ now }
        | inr there ↦ record { state = covers.state; is = there; cover = covers.cover }
      ]

-- of the Tells under way the one is taken
pub told_but_one : (s s' : System) (number : ℕ) (w x : List ℕ) (tell : TellFields) (watch : List Slot) (sent : List Frame)
    → IsTaken s s' number (record { from = w; to = x; body = tell_body tell watch }) sent
    → (d t : List ℕ) (k : ℕ) → IsTold s d t k → IsTold s' d t k ⊎ ((d ≡ tell.joiner) × (t ≡ x) × (k ≡ tell.level))
told_but_one s s' number w x tell watch sent taken d t k told =
    elim (told_still s s' number (record { from = w; to = x; body = tell_body tell watch }) sent taken d t k told) [
      | inl still ↦ inl still
      | inr is ↦
          let body : tell_body told.fields told.watch ≡ tell_body tell watch = is.0 in
          let joiner : told.fields.joiner ≡ tell.joiner = cc in
          let level : told.fields.level ≡ tell.level = cc in
          inr (sym told.joiner ∙ joiner, is.1, sym told.level_is ∙ level)
    ]

module _ (s s' : System) (number : ℕ) (w x : List ℕ) (tell : TellFields) (watch : List Slot)
    (step : TakesTell s s' number w x tell watch) where
  abbrev taken_tell : Frame
  taken_tell = record { from = w; to = x; body = tell_body tell watch }

  pub link_kept : (y z : List ℕ) (kind : Kind) → HasLink s y z kind → HasLink s' y z kind
  link_kept y z kind link =
      elim (node_after s s' x step.before step.after step.at y link.state link.is) [
        | inl here ↦
            let same = here.1 in
            let old : link_to step.before z ≡ Some kind = rw (← same) link.link in
            elim (step.covers.links z) [
              | inl joiner ↦
                  let pinned = step.covers.pinned in
                  elim step.covers.linked [
                    | inl none ↦ let no : None ≡ Some kind = cc in cc
                    | inr pin ↦
                        let is : kind ≡ Pin = cc in
                        record { state = step.after; is = here.2; link = cc }
                  ]
              | inr kept ↦ record { state = step.after; is = here.2; link = kept ∙ old }
            ]
        | inr there ↦ record { state = link.state; is = there; link = link.link }
      ]

  named_kept : (v b z : List ℕ) → HelloNames s v b z → HelloNames s' v b z
  named_kept =
      named_still s s' number taken_tell step.sent step.taken (λ fields is. let no : hello_body fields ≡ tell_body tell watch = is in cc)

  cores : (y : List ℕ) → IsCoreNode s y → IsCoreNode s' y
  cores = core_kept s s' x step.before step.after step.at step.covers.status

  pub keeps : Keeps s s'
  keeps = keeps_all s s' cores link_kept named_kept step.surrogate

  pub adds_none : AddsNone s s'
  adds_none = record {
    cores = core_was s s' x step.before step.after step.at step.covers.status;
    joiners = joiner_was s s' x step.before step.after step.at step.covers.status step.surrogate;
  }

  pub takes_one : TakesOne s s' x tell.joiner tell.level
  takes_one = record {
    told = told_but_one s s' number w x tell watch step.sent step.taken;
    joiner = λ joiner. record { kind = Pin; link = record { state = step.after; is = step.at.is; link = step.covers.pinned } };
  }
