-- The surrogate's Hello gives its joiner each slot up to the prefix.
use Rattle.std.proofs.Common.{◌≡◌, inl, inr, ℕ, ◌+◌, ◌<◌, ◌≤◌, List, Some, arith, refl}
use Rattle.std.proofs.lemmas.Bool.{cases_lt}
use Rattle.tap_name.specs.Prefix.{lcp}
use Rattle.tap_name.specs.Settings.{SettingsValue}
use Rattle.tap_name.proofs.Prefixes.{lcp-least, lcp-sym, lcp-triangle}
use Rattle.tap_link.specs.declared.kind.Kind.{Kind}
use Rattle.tap_link.specs.declared.kind.Kind.TheVariants.{Pin, Settled, Leaving as LeavingKind}
use Rattle.tap_rule.specs.Node.{link_to}
use Rattle.tap_safety.specs.System.{System, IsCoreNode, HasLink, AmongOffered}
use Rattle.tap_safety.specs.Regions.{IsGiven}
use Rattle.tap_safety.specs.Parts.{HasNear}
use Rattle.tap_safety.specs.SeekStep.{IsGreeted, BeforeSeek}

module _ (p : SettingsValue) (s s' : System) (x b : List ℕ) (before : BeforeSeek p s) (core : IsCoreNode s x) (joins : IsCoreNode s b → ⊥)
    (greeted : IsGreeted p s s' x b) where
  -- what the Hello offers is given
  offered_given : (f t : List ℕ) → AmongOffered t greeted.hello.links → IsCoreNode s t → lcp b f < lcp f t → IsGiven s' b f
  offered_given f t among core_t near = record {
    by = t;
    core = greeted.cores t core_t;
    near = near;
    knows = record { known = inr (x, record { fields = greeted.hello; way = greeted.way; named = inl among }) };
  }

  -- and so is the surrogate itself
  itself_given : (f : List ℕ) → lcp b f < lcp f x → IsGiven s' b f
  itself_given f near = record {
    by = x;
    core = greeted.cores x core;
    near = near;
    knows = record { known = inr (x, record { fields = greeted.hello; way = greeted.way; named = inr (refl, greeted.is_core) }) };
  }

  -- what fills the slot of f at the surrogate is offered, or its slot's primary is
  by_kind : (f : List ℕ) → lcp b f ≤ lcp x b → (filled : HasNear s x f) → lcp x f ≡ lcp b f → filled.link.state ≡ greeted.before
      → (kind : Kind) → filled.kind ≡ kind → IsGiven s' b f
  by_kind f low filled level same Pin kind =
      let pin : link_to greeted.before filled.to ≡ Some Pin = rw (← same, ← kind) filled.link.link in
      let near = filled.near in
      let apart : filled.to ≡ b → ⊥ = λ is. joins (rw is at filled.core) in
      offered_given f filled.to (greeted.pins filled.to pin apart) filled.core (omega arith)
  by_kind f low filled level same Settled kind =
      let settled : link_to greeted.before filled.to ≡ Some Settled = rw (← same, ← kind) filled.link.link in
      let near = filled.near in
      let sides = lcp-triangle x f filled.to in
      let stands : lcp x filled.to ≡ lcp x f = sides.below near in
      let first = greeted.primaries filled.to settled (omega arith) in
      let primary = first.primary in
      let is_core : IsCoreNode s primary =
      before.settled.settled x primary (record { state = greeted.before; is = greeted.was; link = first.settled }) in
      let two = first.near in
      let three = lcp-least f filled.to primary (lcp b f + 1) (omega arith) (omega arith) in
      offered_given f primary first.offered is_core (omega arith)
  by_kind f low filled level same LeavingKind kind =
      let link : HasLink s x filled.to LeavingKind = rw kind at filled.link in
      absurd (before.unmarked x filled.to link)

  pub low_new : (f : List ℕ) → IsCoreNode s f → lcp b f ≤ lcp x b → IsGiven s' b f
  low_new f other low =
      let back = lcp-sym x b in
      let turned = lcp-sym x f in
      let sides = lcp-triangle x b f in
      elim (cases_lt (lcp b f) (lcp f x)) [
        | inl mine ↦ itself_given f mine
        | inr far ↦
            let least = lcp-least x b f (lcp b f) (omega arith) (omega arith) in
            let level : lcp x f ≡ lcp b f = omega arith in
            let apart = greeted.apart in
            let filled = before.hole_free.filled x f core other (omega arith) in
            let was = greeted.was in
            let at = filled.link.is in
            let same : filled.link.state ≡ greeted.before = cc in
            by_kind f low filled level same filled.kind refl
      ]
