-- What starts keep that leave a node what it is, and the start of a join.
-- Cited above: join_cores, node_was, old_node, way_stays
use Rattle.std.proofs.Common.{◌≡◌, inl, inr, ℕ, List, ◌⊎◌, None, Some, sym, ◌∙◌}
use Rattle.tap_name.specs.Settings.{SettingsValue}
use Rattle.tap_link.specs.declared.kind.Kind.{Kind}
use Rattle.tap_link.specs.declared.kind.Kind.TheVariants.{Pin}
use Rattle.tap_rule.specs.Node.{NodeState, level_kept, link_to}
use Rattle.tap_wire.specs.declared.frame.Body.{Body}
use Rattle.tap_wire.specs.declared.frame.Frame.{Frame}
use Rattle.tap_rule.specs.Node.Status.{Joining, Core, Leaving}
use Rattle.tap_safety.specs.System.{System, CoversAt, HasLink, HelloNames, IsCoreNode, IsJoiner, IsUnderWay}
use Rattle.tap_safety.specs.Regions.{Pins}
use Rattle.tap_safety.specs.Exchanges.{HasSent, numbered_from}
use Rattle.tap_safety.specs.FrameSteps.{StartsJoin, StartsPlainly}
use Rattle.tap_safety.specs.Filled.{AreFilled}
use Rattle.tap_safety.proofs.Calm.{filled_calm, still_told}
use Rattle.tap_safety.proofs.FrameKeeps.{covers_on, pins_back}
use Rattle.tap_safety.proofs.KeepsAll.{keeps_all}
use Rattle.tap_safety.proofs.KeptParts.{Keeps, TakesNoTell}
use Rattle.tap_safety.proofs.TellKeeps.{core_kept, core_was, covers_same, joiner_was, links_same}
use Rattle.tap_safety.proofs.UnderWay.{among_left, told_by}

-- no frame goes
module _ (s s' : System) (sent : List Frame) (has : HasSent s s' sent) where
  pub way_stays : (from to : List ℕ) (body : Body) → IsUnderWay s from to body → IsUnderWay s' from to body
  way_stays from to body way = record {
    number = way.number;
    among = rw has.after
        (among_left way.number (record { from = from; to = to; body = body }) s.frames (numbered_from s.next sent) way.among);
  }

  pub named_stays : (v b z : List ℕ) → HelloNames s v b z → HelloNames s' v b z
  named_stays v b z named = record { fields = named.fields; way = way_stays v b _ named.way; named = named.named }

  pub told_stays : TakesNoTell s s'
  told_stays = record {
    told = λ d t k told. told_by s s' d t k told (way_stays told.from t _ told.way);
  }

module _ (s s' : System) (x : List ℕ) (start : StartsPlainly s s' x) where
  pub start_keeps : Keeps s s'
  start_keeps =
      keeps_all s s' (core_kept s s' x start.before start.after start.at start.stays.status)
      (links_same s s' x start.before start.after start.at start.links)
      (named_stays s s' start.sent start.has_sent)
      start.surrogate

  pub start_filled : (p : SettingsValue) → AreFilled p s → AreFilled p s'
  start_filled p filled =
      filled_calm p s s' start_keeps
      (record {
        cores = core_was s s' x start.before start.after start.at start.stays.status;
        joiners = joiner_was s s' x start.before start.after start.at start.stays.status start.surrogate;
      })
      (record {
        kept = λ y d level core covers. covers_on s s' x start.before start.after start.at start.stays.covers y d level covers;
        was = covers_same s s' x start.before start.after start.at start.stays.covers;
        pins = λ y e core pin. pins_back s s' x start.before start.after start.at (λ t is. sym (start.links t) ∙ is) y e pin;
        surrogate = start.surrogate;
      })
      (still_told s s' start_keeps (told_stays s s' start.sent start.has_sent)) filled

module _ (s s' : System) (x : List ℕ) (start : StartsJoin s s' x) where
  -- a node that was there is as it was
  pub old_node : (y : List ℕ) (state : NodeState) → s.node y ≡ Some state → s'.node y ≡ Some state
  old_node y state is =
      elim (start.others y) [
        | inr same ↦ same ∙ is
        | inl here ↦ let fresh : s.node y ≡ None = rw here start.fresh in let no : None ≡ Some state = sym fresh ∙ is in cc
      ]

  -- a node is the new one, or was there
  pub node_was : (y : List ℕ) (state : NodeState) → s'.node y ≡ Some state → ((y ≡ x) × (state ≡ start.after)) ⊎ (s.node y ≡ Some state)
  node_was y state is =
      elim (start.others y) [
        | inr same ↦ inr (sym same ∙ is)
        | inl here ↦
            let now : s'.node y ≡ Some start.after = rw here start.is in
            let same : state ≡ start.after = cc in
            inl (here, same)
      ]

  pub join_cores : (y : List ℕ) → IsCoreNode s y → IsCoreNode s' y
  join_cores y core = record { state = core.state; is = old_node y core.state core.is; core = core.core }

  join_links : (y z : List ℕ) (kind : Kind) → HasLink s y z kind → HasLink s' y z kind
  join_links y z kind link = record { state = link.state; is = old_node y link.state link.is; link = link.link }

  join_core_was : (y : List ℕ) → IsCoreNode s' y → IsCoreNode s y
  join_core_was y core =
      elim (node_was y core.state core.is) [
        | inr there ↦ record { state = core.state; is = there; core = core.core }
        | inl new ↦
            let joining : core.state.status ≡ Joining = rw new.1 start.joining in
            elim core.core [
              | inl is ↦ let no : Joining ≡ Core = sym joining ∙ is in cc
              | inr leaving ↦ let no : Joining ≡ Leaving = sym joining ∙ leaving in cc
            ]
      ]

  join_joiner_was : (y : List ℕ) → IsJoiner s' y → IsJoiner s y
  join_joiner_was y joiner =
      let started : s.surrogate y ≡ Some joiner.surrogate = sym (start.surrogate y) ∙ joiner.started in
      elim (node_was y joiner.state joiner.is) [
        | inr there ↦
            record { state = joiner.state; is = there; joining = joiner.joining; surrogate = joiner.surrogate; started = started }
        | inl new ↦
            let none : s.surrogate y ≡ None = rw new.0 start.unstarted in
            let no : None ≡ Some joiner.surrogate = sym none ∙ started in
            cc
      ]

  pub join_covers_was : (y b : List ℕ) (level : ℕ) → CoversAt s' y b level → CoversAt s y b level
  join_covers_was y b level covers =
      elim (node_was y covers.state covers.is) [
        | inr there ↦ record { state = covers.state; is = there; cover = covers.cover }
        | inl new ↦
            let none : level_kept covers.state.covers b ≡ None = rw new.1 (start.covers b) in
            let no : None ≡ Some level = sym none ∙ covers.cover in
            cc
      ]

  join_pins_was : (y e : List ℕ) → Pins s' y e → Pins s y e
  join_pins_was y e pin =
      elim (node_was y pin.state pin.is) [
        | inr there ↦ record { state = pin.state; is = there; link = pin.link }
        | inl new ↦
            let none : link_to pin.state e ≡ None = rw new.1 (start.links e) in
            let no : None ≡ Some Pin = sym none ∙ pin.link in
            cc
      ]

  pub join_keeps : Keeps s s'
  join_keeps = keeps_all s s' join_cores join_links (named_stays s s' start.sent start.has_sent) start.surrogate

  pub join_filled : (p : SettingsValue) → AreFilled p s → AreFilled p s'
  join_filled p filled =
      filled_calm p s s' join_keeps (record { cores = join_core_was; joiners = join_joiner_was })
      (record {
        kept = λ y b level core covers.
            record { state = covers.state; is = old_node y covers.state covers.is; cover = covers.cover };
        was = join_covers_was;
        pins = λ y e core pin. join_pins_was y e pin;
        surrogate = start.surrogate;
      })
      (still_told s s' join_keeps (told_stays s s' start.sent start.has_sent)) filled
