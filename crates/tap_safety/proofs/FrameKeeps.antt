-- What the steps at one node keep that make no node core, start no joiner and change no cover.
-- Cited above: core_not, covers_on, frame_cores, joiner_not_ceased, one_state
use Rattle.std.proofs.Common.{◌≡◌, inl, inr, ℕ, List, ◌⊎◌, None, Some, sym, ap, ◌∙◌}
use Rattle.tap_name.specs.Settings.{SettingsValue}
use Rattle.tap_name.specs.declared.slot.Slot.{Slot}
use Rattle.tap_link.specs.declared.kind.Kind.{Kind}
use Rattle.tap_link.specs.declared.kind.Kind.TheVariants.{Pin}
use Rattle.tap_rule.specs.Node.{NodeState, level_kept, link_to}
use Rattle.tap_wire.specs.declared.frame.Frame.{Frame}
use Rattle.tap_wire.specs.declared.frame.TellFields.{TellFields}
use Rattle.tap_rule.specs.Node.Status.{Joining, Core, Leaving, Ceased as CeasedStatus}
use Rattle.tap_safety.specs.Frames.{HelloFields, hello_body, tell_body}
use Rattle.tap_safety.specs.System.{System, CoversAt, HasLink, HelloNames, IsCoreNode, IsJoiner}
use Rattle.tap_safety.specs.Regions.{Pins}
use Rattle.tap_safety.specs.Exchanges.{ChangesAt}
use Rattle.tap_safety.specs.FrameSteps.{TakesFrame, TakesPlainly, TakesTellCeased, TakesTellJoining}
use Rattle.tap_safety.specs.Filled.{AreFilled}
use Rattle.tap_safety.proofs.Calm.{AddsNoCover, filled_calm, still_told, still_told_but}
use Rattle.tap_safety.proofs.KeepsAll.{keeps_all}
use Rattle.tap_safety.proofs.KeptParts.{AddsNone, Keeps, TakesNoTell, TakesOne}
use Rattle.tap_safety.proofs.TellKeeps.{
  core_kept,
  core_was,
  covers_same,
  joiner_was,
  links_same,
  node_after,
  node_before,
  told_but_one,
}
use Rattle.tap_safety.proofs.UnderWay.{named_still, told_still}

-- ---- statuses

-- a node has one status
pub one_state : (s : System) (x : List ℕ) (a b : NodeState) → s.node x ≡ Some a → s.node x ≡ Some b → a ≡ b
one_state s x a b one two = cc

pub core_not : (s : System) (x : List ℕ) (state : NodeState) → s.node x ≡ Some state → (state.status ≡ Joining) ⊎ (state.status ≡ CeasedStatus)
    → IsCoreNode s x → ⊥
core_not s x state is status core =
    let same = one_state s x state core.state is core.is in
    let at : state.status ≡ core.state.status = ap (λ n. n.status) same in
    elim core.core [
      | inl is_core ↦ elim status [
        | inl joining ↦ let no : Joining ≡ Core = sym joining ∙ at ∙ is_core in cc
        | inr ceased ↦ let no : CeasedStatus ≡ Core = sym ceased ∙ at ∙ is_core in cc
      ]
      | inr leaving ↦ elim status [
        | inl joining ↦ let no : Joining ≡ Leaving = sym joining ∙ at ∙ leaving in cc
        | inr ceased ↦ let no : CeasedStatus ≡ Leaving = sym ceased ∙ at ∙ leaving in cc
      ]
    ]

pub joiner_not_ceased : (s : System) (x : List ℕ) (state : NodeState) → s.node x ≡ Some state → state.status ≡ CeasedStatus
    → IsJoiner s x → ⊥
joiner_not_ceased s x state is ceased joiner =
    let same = one_state s x state joiner.state is joiner.is in
    let at : state.status ≡ joiner.state.status = ap (λ n. n.status) same in
    let no : CeasedStatus ≡ Joining = sym ceased ∙ at ∙ joiner.joining in
    cc

-- ---- what all of them keep

module _ (s s' : System) (x : List ℕ) (before after : NodeState) (at : ChangesAt s s' x before after) where
  -- covers and pins, from those after to those before
  pub covers_on : ((d : List ℕ) → level_kept after.covers d ≡ level_kept before.covers d) → (y d : List ℕ) (level : ℕ)
      → CoversAt s y d level → CoversAt s' y d level
  covers_on same y d level covers =
      elim (node_after s s' x before after at y covers.state covers.is) [
        | inl here ↦
            let old : level_kept before.covers d ≡ Some level = rw (← here.1) covers.cover in
            record { state = after; is = here.2; cover = same d ∙ old }
        | inr there ↦ record { state = covers.state; is = there; cover = covers.cover }
      ]

  pub pins_back : ((t : List ℕ) → link_to after t ≡ Some Pin → link_to before t ≡ Some Pin) → (y e : List ℕ) → Pins s' y e → Pins s y e
  pins_back back y e pin =
      elim (node_before s s' x before after at y pin.state pin.is) [
        | inl here ↦
            let now : link_to after e ≡ Some Pin = rw (← here.1) pin.link in
            record { state = before; is = here.2; link = back e now }
        | inr there ↦ record { state = pin.state; is = there; link = pin.link }
      ]

  -- a node that isn't core pins as it will: no core node has a new pin
  pub pins_elsewhere : (IsCoreNode s x → ⊥) → (y e : List ℕ) → IsCoreNode s y → Pins s' y e → Pins s y e
  pins_elsewhere apart y e core pin =
      elim (node_before s s' x before after at y pin.state pin.is) [
        | inl here ↦ absurd (apart (rw here.0 at core))
        | inr there ↦ record { state = pin.state; is = there; link = pin.link }
      ]

  -- a link after the step, from one before, if the node keeps it
  pub link_on : (y z : List ℕ) (kind : Kind) → (link_to before z ≡ Some kind → link_to after z ≡ Some kind) → HasLink s y z kind
      → HasLink s' y z kind
  link_on y z kind kept link =
      elim (node_after s s' x before after at y link.state link.is) [
        | inl here ↦
            let old : link_to before z ≡ Some kind = rw (← here.1) link.link in
            record { state = after; is = here.2; link = kept old }
        | inr there ↦ record { state = link.state; is = there; link = link.link }
      ]

module _ (s s' : System) (number : ℕ) (frame : Frame) (step : TakesFrame s s' number frame) where
  pub frame_cores : (y : List ℕ) → IsCoreNode s y → IsCoreNode s' y
  frame_cores = core_kept s s' frame.to step.before step.after step.at step.stays.status

  pub frame_adds_none : AddsNone s s'
  frame_adds_none = record {
    cores = core_was s s' frame.to step.before step.after step.at step.stays.status;
    joiners = joiner_was s s' frame.to step.before step.after step.at step.stays.status step.surrogate;
  }

  pub frame_adds_no_cover : ((y e : List ℕ) → IsCoreNode s y → Pins s' y e → Pins s y e) → AddsNoCover s s'
  frame_adds_no_cover pins = record {
    kept = λ y d level core covers. covers_on s s' frame.to step.before step.after step.at step.stays.covers y d level covers;
    was = covers_same s s' frame.to step.before step.after step.at step.stays.covers;
    pins = pins;
    surrogate = step.surrogate;
  }

  -- no Tell goes but one that is taken
  pub frame_no_tell : ((tell : TellFields) (watch : List Slot) → frame.body ≡ tell_body tell watch → ⊥) → TakesNoTell s s'
  frame_no_tell apart = record {
    told = λ d t k told.
        elim (told_still s s' number frame step.sent step.taken d t k told) [
          | inl still ↦ still
          | inr is ↦ absurd (apart told.fields told.watch (sym is.0))
        ];
  }

  pub frame_no_hello : ((hello : HelloFields) → frame.body ≡ hello_body hello → ⊥) → (v b z : List ℕ) → HelloNames s v b z
      → HelloNames s' v b z
  frame_no_hello apart = named_still s s' number frame step.sent step.taken (λ fields is. apart fields (sym is))

-- ---- a frame that is no Tell and no Hello, with links as before

module _ (s s' : System) (number : ℕ) (frame : Frame) (plain : TakesPlainly s s' number frame) where
  pub plain_keeps : Keeps s s'
  plain_keeps =
      keeps_all s s' (frame_cores s s' number frame plain.step)
      (links_same s s' frame.to plain.step.before plain.step.after plain.step.at plain.links)
      (frame_no_hello s s' number frame plain.step plain.no_hello)
      plain.step.surrogate

  pub plain_filled : (p : SettingsValue) → AreFilled p s → AreFilled p s'
  plain_filled p filled =
      filled_calm p s s' plain_keeps (frame_adds_none s s' number frame plain.step)
      (frame_adds_no_cover s s' number frame plain.step (λ y e core pin.
      pins_back s s' frame.to plain.step.before plain.step.after plain.step.at (λ t is. sym (plain.links t) ∙ is) y e pin))
      (still_told s s' plain_keeps (frame_no_tell s s' number frame plain.step plain.no_tell)) filled

-- ---- Tells at nodes that aren't core

module _ (s s' : System) (number : ℕ) (w x : List ℕ) (tell : TellFields) (watch : List Slot)
    (ceased : TakesTellCeased s s' number w x tell watch) where
  abbrev ceased_tell : Frame
  ceased_tell = record { from = w; to = x; body = tell_body tell watch }

  pub ceased_keeps : Keeps s s'
  ceased_keeps =
      keeps_all s s' (frame_cores s s' number ceased_tell ceased.step)
      (links_same s s' x ceased.step.before ceased.step.after ceased.step.at ceased.links)
      (frame_no_hello s s' number ceased_tell ceased.step (λ hello is. let no : tell_body tell watch ≡ hello_body hello = is in cc))
      ceased.step.surrogate

  not_core_there : IsCoreNode s x → ⊥
  not_core_there = core_not s x ceased.step.before ceased.step.at.was (inr ceased.ceased)

  takes_there : TakesOne s s' x tell.joiner tell.level
  takes_there = record {
    told = told_but_one s s' number w x tell watch ceased.step.sent ceased.step.taken;
    joiner = λ joiner. absurd (joiner_not_ceased s x ceased.step.before ceased.step.at.was ceased.ceased joiner);
  }

  pub ceased_filled : (p : SettingsValue) → AreFilled p s → AreFilled p s'
  ceased_filled p filled =
      filled_calm p s s' ceased_keeps (frame_adds_none s s' number ceased_tell ceased.step)
      (frame_adds_no_cover s s' number ceased_tell ceased.step
      (pins_elsewhere s s' x ceased.step.before ceased.step.after ceased.step.at not_core_there))
      (still_told_but s s' x tell.joiner tell.level ceased_keeps takes_there not_core_there) filled

module _ (s s' : System) (number : ℕ) (w x : List ℕ) (tell : TellFields) (watch : List Slot)
    (joining : TakesTellJoining s s' number w x tell watch) where
  abbrev joining_tell : Frame
  joining_tell = record { from = w; to = x; body = tell_body tell watch }

  -- no link goes
  pub joining_link : (t : List ℕ) (kind : Kind) → link_to joining.step.before t ≡ Some kind → link_to joining.step.after t ≡ Some kind
  joining_link t kind was =
      elim (joining.links t) [
        | inr same ↦ same ∙ was
        | inl here ↦
            let old : link_to joining.step.before tell.joiner ≡ Some kind = rw here at was in
            let now : link_to joining.step.after t ≡ Some Pin = rw here joining.pinned in
            elim joining.linked [
              | inl none ↦ let no : None ≡ Some kind = sym none ∙ old in cc
              | inr pin ↦ let same : Some Pin ≡ Some kind = sym pin ∙ old in now ∙ same
            ]
      ]

  pub joining_keeps : Keeps s s'
  joining_keeps =
      keeps_all s s' (frame_cores s s' number joining_tell joining.step)
      (λ y z kind link. link_on s s' x joining.step.before joining.step.after joining.step.at y z kind (joining_link z kind) link)
      (frame_no_hello s s' number joining_tell joining.step (λ hello is. let no : tell_body tell watch ≡ hello_body hello = is in cc))
      joining.step.surrogate

  not_core_here : IsCoreNode s x → ⊥
  not_core_here = core_not s x joining.step.before joining.step.at.was (inl joining.joining)

  takes_here : TakesOne s s' x tell.joiner tell.level
  takes_here = record {
    told = told_but_one s s' number w x tell watch joining.step.sent joining.step.taken;
    joiner = λ joiner.
        record { kind = Pin; link = record { state = joining.step.after; is = joining.step.at.is; link = joining.pinned } };
  }

  pub joining_filled : (p : SettingsValue) → AreFilled p s → AreFilled p s'
  joining_filled p filled =
      filled_calm p s s' joining_keeps (frame_adds_none s s' number joining_tell joining.step)
      (frame_adds_no_cover s s' number joining_tell joining.step
      (pins_elsewhere s s' x joining.step.before joining.step.after joining.step.at not_core_here))
      (still_told_but s s' x tell.joiner tell.level joining_keeps takes_here not_core_here) filled
