-- Which frames are taken so while a node departs: a Link, a Lay, and a Release; and whatever there is no rule for.
use Rattle.std.proofs.Common.{◌≡◌, ◌&&◌, inl, inr, ℕ, Bool, true, false, List, [], ◌∷◌, if◌then◌else◌, Option, None, Some, ap, refl, sym, subst, ◌∙◌}
use Rattle.tap_name.specs.Name.{IsName}
use Rattle.tap_name.specs.Settings.{SettingsValue}
use Rattle.tap_link.specs.declared.kind.Kind.{Kind}
use Rattle.tap_link.specs.declared.kind.Kind.TheVariants.{Leaving as LeavingKind, Pin, Settled}
use Rattle.tap_link.specs.LinkSet.{is_pinned}
use Rattle.tap_session.specs.Session.{SessionsValue}
use Rattle.tap_table.specs.Table.{TableValue, kind_in}
use Rattle.tap_table.specs.Ties.{AreTies, TiesValue}
use Rattle.tap_wire.specs.declared.frame.Body.{Body}
use Rattle.tap_wire.specs.declared.frame.Body.TheVariants.{Forget, Lay, Link, Release}
use Rattle.tap_join.specs.Hello.{words_of}
use Rattle.tap_rule.specs.FrameRules.{frame_at_ceased, frame_at_core, frame_at_joining, frame_at_leaving, rule_of_frame}
use Rattle.tap_rule.specs.RuleLaws.{frame_to}
use Rattle.tap_rule.specs.Links.{is_new_link, release_word}
use Rattle.tap_rule.specs.Node.{NodeState, Status, link_to, name_of, settings_of}
use Rattle.tap_rule.specs.Node.Status.{Ceased, Core, Gone, Joining, Leaving}
use Rattle.tap_rule.specs.Reaction.{Message, Reaction, message}
use Rattle.tap_rule.specs.Sent.{AreSent}
use Rattle.tap_rule.specs.Strange.{is_strange}
use Rattle.tap_rule.proofs.CarriedOut.{frame_law, unruled_law}
use Rattle.tap_rule.proofs.LinkSteps.{release_law}
use Rattle.tap_safety.specs.Departing.{Departs}
use Rattle.tap_safety.specs.Notices.{IsNotice}
use Rattle.tap_safety.specs.Remembered.{Leaver}
use Rattle.tap_safety.specs.System.{System, IsUnderWay}
use Rattle.tap_safety.proofs.LinkKeeps.{status_seen}
use Rattle.tap_moves.specs.ByRule.{taken_at}
use Rattle.tap_moves.specs.Delivered.{after_delivery}
use Rattle.tap_moves.specs.InvariantLaws.{IsDelivery}
use Rattle.tap_moves.proofs.InvariantMoves.{due, sender_name, way}
use Rattle.tap_moves.proofs.MovesMade.{by_rule, starts_none_as}
use Rattle.tap_moves.proofs.Plain.{takes_frame}
use Rattle.tap_moves.proofs.Aside.{AreAside, IsAside, TakesAside}

-- ---- by the rule

-- The rule leaves the node what it is, with its covers, its table and whom it awaits; it opens no session, says no word, and names such
-- messages alone.
record IsAsideBy (leaver : Leaver) (node : NodeState) (r : Reaction) : Type 0 where
  status : r.state.status ≡ node.status
  covers : r.state.covers ≡ node.covers
  table : r.state.ties.table ≡ node.ties.table
  awaited : r.state.awaited ≡ node.awaited
  opened : r.state.sessions.opened ≡ node.sessions.opened
  words : r.words ≡ []
  messages : AreAside leaver (name_of node) r.messages

-- so does a rule, if there is one
abbrev AsideBy : Leaver → NodeState → Option Reaction → Type 0
AsideBy leaver node None = Unit {0}
AsideBy leaver node (Some r) = IsAsideBy leaver node r

-- of no messages each is aside
none_aside : (leaver : Leaver) (x : List ℕ) → AreAside leaver x []
none_aside leaver x m among = absurd among

-- nothing is sent
pub nothing_sent : (own : List ℕ) → AreSent own [] [] []
nothing_sent own = record {
  each = λ frame among. absurd among;
  links = λ word among. absurd among;
  named = λ message among. absurd among;
}

-- and so does the step
record ActsAside (leaver : Leaver) (node : NodeState) (from : List ℕ) (body : Body) : Type 0 where
  status : (taken_at node from body).state.status ≡ node.status
  covers : (taken_at node from body).state.covers ≡ node.covers
  links : (t : List ℕ) → link_to (taken_at node from body).state t ≡ link_to node t
  awaited : (taken_at node from body).state.awaited ≡ node.awaited
  opened : (taken_at node from body).state.sessions.opened ≡ node.sessions.opened
  messages : List Message
  are : AreSent (name_of node) [] messages (taken_at node from body).sent
  aside : AreAside leaver (name_of node) messages

module _ (p : SettingsValue) (s : System) (number : ℕ) (node : NodeState) (from : List ℕ) (body : Body)
    (is : IsDelivery p s number node from body) (leaver : Leaver) where
  -- a step that a rule makes so, or of which there is none
  acts_by : AsideBy leaver node (rule_of_frame node.status node from body) → ActsAside leaver node from body
  acts_by = step (rule_of_frame node.status node from body) refl
    where
      step : (rule : Option Reaction) → rule_of_frame node.status node from body ≡ rule → AsideBy leaver node rule
          → ActsAside leaver node from body
      step None same aside =
          let ignored = unruled_law node (frame_to node from body) same in
          record {
            status = ap (λ (n : NodeState). n.status) ignored.state;
            covers = ap (λ (n : NodeState). n.covers) ignored.state;
            links = λ t. ap (λ (n : NodeState). link_to n t) ignored.state;
            awaited = ap (λ (n : NodeState). n.awaited) ignored.state;
            opened = ap (λ (n : NodeState). n.sessions.opened) ignored.state;
            messages = [];
            are = subst (AreSent (name_of node) [] []) (sym ignored.sent) (nothing_sent (name_of node));
            aside = none_aside leaver (name_of node);
          }
      step (Some r) same aside =
          let carried = frame_law node (frame_to node from body) r is.known same in
          record {
            status = carried.status ∙ aside.status;
            covers = carried.covers ∙ aside.covers;
            links = λ t. ap (λ (ties : TiesValue). kind_in ties.table t) carried.ties
                ∙ ap (λ (table : TableValue). kind_in table t) aside.table;
            awaited = carried.awaited ∙ aside.awaited;
            opened = ap (λ (o : SessionsValue). o.opened) carried.sessions ∙ aside.opened;
            messages = r.messages;
            are = subst (λ words. AreSent (name_of node) words r.messages (taken_at node from body).sent) aside.words carried.sent;
            aside = aside.messages;
          }

  -- and it is a frame that is taken so
  takes_aside : (IsNotice body → ⊥) → ActsAside leaver node from body
      → TakesAside s (after_delivery p s number) number (frame_to node from body) leaver
  takes_aside other acts =
      let here = due p s number node from body is in
      record {
        step =
            takes_frame s (after_delivery p s number) number node from body (by_rule p s number node from body here)
            (starts_none_as p s number node from body here acts.opened) acts.status acts.covers [] acts.messages acts.are;
        links = acts.links;
        awaited = acts.awaited;
        taken = other;
        words = refl;
        messages = acts.aside;
      }

-- ---- Link

-- a Release for a new link, between two others
if_aside : (leaver : Leaver) (x to : List ℕ) (test : Bool) → (to ≡ leaver.name → ⊥) × (x ≡ leaver.name → ⊥)
    → AreAside leaver x (if test then message to Release ∷ [] else [])
if_aside leaver x to true apart m (inl same) = subst (λ (n : Message). IsAside leaver x n.to n.body) (sym same) apart
if_aside leaver x to true apart m (inr never) = absurd never
if_aside leaver x to false apart m among = absurd among

-- none for a link that has gone
off_aside : (leaver : Leaver) (x to : List ℕ) (new : Bool) → AreAside leaver x (if new && false then message to Release ∷ [] else [])
off_aside leaver x to true m among = absurd among
off_aside leaver x to false m among = absurd among

-- neither the node nor the sender of a word of a link leaves, and the node hasn't ceased
abbrev IsApart : Leaver → NodeState → List ℕ → Type 0
IsApart leaver node from = (from ≡ leaver.name → ⊥) × (name_of node ≡ leaver.name → ⊥) × (node.status ≡ Ceased → ⊥)

-- what a core or leaving node answers a word
answer_aside : (leaver : Leaver) (node : NodeState) (from : List ℕ) (version : ℕ) (on : Bool) → (on ≡ true → IsApart leaver node from)
    → AreAside leaver (name_of node) (if is_new_link node from version on then message from Release ∷ [] else [])
answer_aside leaver node from version true apart =
    let both = apart refl in
    if_aside leaver (name_of node) from (is_new_link node from version true) (both.0, both.1)
answer_aside leaver node from version false apart = off_aside leaver (name_of node) from _

-- and what a node that has ceased does
forget_aside : (leaver : Leaver) (node : NodeState) (from : List ℕ) (on : Bool) → node.status ≡ Ceased
    → (on ≡ true → IsApart leaver node from) → AreAside leaver (name_of node) (if on then message from Forget ∷ [] else [])
forget_aside leaver node from true at apart m among = absurd ((apart refl).2 at)
forget_aside leaver node from false at apart m among = absurd among

-- the rule of a Link
link_aside : (status : Status) (leaver : Leaver) (node : NodeState) (from : List ℕ) (version : ℕ) (on : Bool) → node.status ≡ status
    → (on ≡ true → IsApart leaver node from) → AsideBy leaver node (rule_of_frame status node from (Link version on))
unfolding frame_at_joining frame_at_core frame_at_leaving frame_at_ceased
link_aside Joining leaver node from version on at apart = record {
  status = refl;
  covers = refl;
  table = refl;
  awaited = refl;
  opened = refl;
  words = refl;
  messages = none_aside leaver (name_of node);
}
link_aside Core leaver node from version on at apart = record {
  status = refl;
  covers = refl;
  table = refl;
  awaited = refl;
  opened = refl;
  words = refl;
  messages = answer_aside leaver node from version on apart;
}
link_aside Leaving leaver node from version on at apart = record {
  status = refl;
  covers = refl;
  table = refl;
  awaited = refl;
  opened = refl;
  words = refl;
  messages = answer_aside leaver node from version on apart;
}
link_aside Gone leaver node from version on at apart = tt
link_aside Ceased leaver node from version on at apart = record {
  status = refl;
  covers = refl;
  table = refl;
  awaited = refl;
  opened = refl;
  words = refl;
  messages = forget_aside leaver node from on at apart;
}

-- ---- Lay

-- the rule of a Lay
lay_aside : (status : Status) (leaver : Leaver) (node : NodeState) (from object server : List ℕ) (level version : ℕ) (on : Bool)
    → AsideBy leaver node (rule_of_frame status node from (Lay object server level version on))
unfolding frame_at_joining frame_at_core frame_at_leaving frame_at_ceased
lay_aside Joining leaver node from object server level version on = tt
lay_aside Core leaver node from object server level version on = record {
  status = refl;
  covers = refl;
  table = refl;
  awaited = refl;
  opened = refl;
  words = refl;
  messages = none_aside leaver (name_of node);
}
lay_aside Leaving leaver node from object server level version on = record {
  status = refl;
  covers = refl;
  table = refl;
  awaited = refl;
  opened = refl;
  words = refl;
  messages = none_aside leaver (name_of node);
}
lay_aside Gone leaver node from object server level version on = tt
lay_aside Ceased leaver node from object server level version on = tt

-- ---- Release

-- what is no pin
not_pinned : (kind : Option Kind) → (kind ≡ Some Pin → ⊥) → is_pinned kind ≡ false
not_pinned None none = refl
not_pinned (Some Pin) none = absurd (none refl)
not_pinned (Some Settled) none = refl
not_pinned (Some LeavingKind) none = refl

-- without a pin on its sender it changes nothing
release_aside : (leaver : Leaver) (node : NodeState) (from : List ℕ) → (name : IsName (settings_of node) from)
    → (ties : AreTies node.ties) → node.status ≡ Core → is_strange node (frame_to node from Release) ≡ false
    → is_pinned (link_to node from) ≡ false → ActsAside leaver node from Release
release_aside leaver node from name ties at known unpinned =
    let step = release_law node from ties name (inr at) known in
    let silent : words_of (release_word node from) ≡ [] = rw unpinned refl in
    record {
      status = step.joins.status;
      covers = step.joins.covers;
      links = λ t. elim (step.others t) [
        | inr same ↦ same
        | inl here ↦
            subst (λ u. link_to (taken_at node from Release).state u ≡ link_to node u) (sym here) (step.unpinned unpinned)
      ];
      awaited = step.rest.awaited;
      opened = ap (λ (o : SessionsValue). o.opened) step.sessions;
      messages = [];
      are = subst (λ words. AreSent (name_of node) words [] (taken_at node from Release).sent) silent step.sent;
      aside = none_aside leaver (name_of node);
    }

-- a node that neither joins nor is core has no rule for a Release
release_unruled : (status : Status) (leaver : Leaver) (node : NodeState) (from : List ℕ) → (status ≡ Joining → ⊥) → (status ≡ Core → ⊥)
    → AsideBy leaver node (rule_of_frame status node from Release)
unfolding frame_at_joining frame_at_core frame_at_leaving frame_at_ceased
release_unruled Joining leaver node from joins core = absurd (joins refl)
release_unruled Core leaver node from joins core = absurd (core refl)
release_unruled Leaving leaver node from joins core = tt
release_unruled Gone leaver node from joins core = tt
release_unruled Ceased leaver node from joins core = tt

-- ---- while a node departs

module _ (p : SettingsValue) (s : System) (number : ℕ) (node : NodeState) (from : List ℕ) (leaver : Leaver)
    (departs : Departs s leaver) where
  abbrev after : System
  after = after_delivery p s number

  pub link_taken : (version : ℕ) (on : Bool) → IsDelivery p s number node from (Link version on)
      → TakesAside s after number (frame_to node from (Link version on)) leaver
  link_taken version on is =
      takes_aside p s number node from (Link version on) is leaver (λ never. never)
      (acts_by p s number node from (Link version on) is leaver (link_aside node.status leaver node from version on refl apart))
    where
      apart : on ≡ true → IsApart leaver node from
      apart is_on =
          let here = way p s number node from (Link version on) is in
          let word = subst (λ o. IsUnderWay s from (name_of node) (Link version o)) is_on here in
          let quiet = (is.invariant.departure.during leaver departs).quiet from (name_of node) version word in
          let heard = is.invariant.notices.words leaver from (name_of node) version departs word in
          (quiet.1, quiet.0, λ ceased. heard.1 (status_seen s (name_of node) node Ceased is.at ceased))

  pub lay_taken : (object server : List ℕ) (level version : ℕ) (on : Bool)
      → IsDelivery p s number node from (Lay object server level version on)
      → TakesAside s after number (frame_to node from (Lay object server level version on)) leaver
  lay_taken object server level version on is =
      let body = Lay object server level version on in
      takes_aside p s number node from body is leaver (λ never. never)
      (acts_by p s number node from body is leaver (lay_aside node.status leaver node from object server level version on))

  pub release_taken : IsDelivery p s number node from Release → TakesAside s after number (frame_to node from Release) leaver
  release_taken is = takes_aside p s number node from Release is leaver (λ never. never) (by node.status refl)
    where
      not_joining : node.status ≡ Joining → ⊥
      not_joining at =
          (is.invariant.departure.during leaver departs).joining (name_of node) (status_seen s (name_of node) node Joining is.at at)

      unruled : (node.status ≡ Core → ⊥) → ActsAside leaver node from Release
      unruled not_core =
          acts_by p s number node from Release is leaver (release_unruled node.status leaver node from not_joining not_core)

      by : (status : Status) → node.status ≡ status → ActsAside leaver node from Release
      by Core at =
          let ties = (due p s number node from Release is).is_node.ties in
          let pins = (is.invariant.departure.during leaver departs).pins (name_of node) from in
          release_aside leaver node from (sender_name p s number node from Release is) ties at is.known
          (not_pinned (link_to node from) (λ pin. pins (record { state = node; is = is.at; link = pin })))
      by Joining at = absurd (not_joining at)
      by Leaving at = unruled (λ core. let wrong : Leaving ≡ Core = sym at ∙ core in cc)
      by Gone at = unruled (λ core. let wrong : Gone ≡ Core = sym at ∙ core in cc)
      by Ceased at = unruled (λ core. let wrong : Ceased ≡ Core = sym at ∙ core in cc)
