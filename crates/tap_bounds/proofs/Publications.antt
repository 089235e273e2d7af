-- A publication that starts at rest has one frame under way at most: a Lay that goes up from level to level, to nodes that don't hold its
-- pair.
-- Cited above: publication_sends_few
use Rattle.std.proofs.Common.{◌≡◌, ◌⊎◌, ℕ, ◌+◌, ◌-◌, ◌≤◌, ◌<◌, Bool, true, false, List, [], ◌++◌, drop, Option, None, Some, arith, ap, refl, sym, subst, ◌∙◌, inl, inr}
use Rattle.std.proofs.lemmas.Bool.{cases_Bool}
use Rattle.tap_name.specs.Name.{IsName}
use Rattle.tap_name.specs.Prefix.{lcp}
use Rattle.tap_name.specs.Settings.{SettingsValue}
use Rattle.tap_name.proofs.Prefixes.{lcp-itself, lcp-triangle}
use Rattle.tap_table.specs.Next.{IsHop, next_from}
use Rattle.tap_table.specs.Table.{TableValue}
use Rattle.tap_table.specs.declared.next.Next.{Next}
use Rattle.tap_table.specs.declared.next.Next.TheVariants.{Hop as HopTo, Root as AtRoot}
use Rattle.tap_table.proofs.Hops.{hop_exactly, hop_is}
use Rattle.tap_pointer.specs.declared.hop.Hop.{Hop}
use Rattle.tap_pointer.specs.declared.pair.Pair.{Pair}
use Rattle.tap_pointer.specs.declared.state.PairState.{PairState}
use Rattle.tap_pointer.specs.Pointers.{is_held, level_held, own_pair, pair_of, pointer_at, state_of, with_lay, with_published, with_state}
use Rattle.tap_pointer.specs.Reconcile.{AreLaid, hop_from, hop_of, wanted_hop}
use Rattle.tap_pointer.proofs.Levels.{no_level}
use Rattle.tap_wire.specs.declared.frame.Body.{Body}
use Rattle.tap_wire.specs.declared.frame.Body.TheVariants.{Lay}
use Rattle.tap_wire.specs.declared.frame.Frame.{Frame}
use Rattle.tap_rule.specs.Act.{act}
use Rattle.tap_rule.specs.Event.{Acted}
use Rattle.tap_rule.specs.Event.Event.{Starts}
use Rattle.tap_rule.specs.Event.Start.{Publish}
use Rattle.tap_rule.specs.FrameRules.{frame_at_ceased, frame_at_joining, rule_of_frame}
use Rattle.tap_rule.specs.RuleLaws.{frame_to}
use Rattle.tap_rule.specs.Node.{IsRunning, NodeState, Status, name_of}
use Rattle.tap_rule.specs.Node.Status.{Ceased, Core, Gone, Joining, Leaving}
use Rattle.tap_rule.specs.PointerSteps.{PointersStep}
use Rattle.tap_rule.proofs.CarriedOut.{unruled_law}
use Rattle.tap_rule.proofs.PointerSteps.{lay_law, publish_law}
use Rattle.tap_safety.specs.Move.{MayActOn}
use Rattle.tap_safety.specs.Move.Move.{Begins, Delivers}
use Rattle.tap_safety.specs.Moved.{moved}
use Rattle.tap_safety.specs.Exchanges.{numbered_from}
use Rattle.tap_safety.specs.System.{System}
use Rattle.tap_safety.proofs.Moved.{starts}
use Rattle.tap_moves.specs.ByRule.{taken_at}
use Rattle.tap_moves.specs.Delivered.{after_delivery, after_start}
use Rattle.tap_moves.specs.InvariantLaws.{IsDelivery}
use Rattle.tap_moves.specs.KnownNames.{IsNodeOf}
use Rattle.tap_moves.proofs.InvariantMoves.{due}
use Rattle.tap_moves.proofs.MovesMade.{by_rule}
use Rattle.tap_safety_moves.specs.Sound.{Sound}
use Rattle.tap_safety_moves.proofs.SoundMoves.{move_keeps}
use Rattle.tap_pointer_moves.specs.Paths.{HoldsPair}
use Rattle.tap_pointer_moves.specs.LaysTold.{PointersStand}
use Rattle.tap_pointer_moves.proofs.PointersKept.{pointers_kept}
use Rattle.tap_pointer_moves.proofs.Paths.{pointers_on_paths}
use Rattle.tap_pointer_moves.proofs.Wanted.{laid_as_wanted}
use Rattle.tap_bounds.specs.Publications.{PublicationSendsFew}
use Rattle.tap_bounds.specs.Traffic.{no_traffic, sent_by, traffic_after}
use Rattle.tap_bounds.proofs.OneWay.{MoveLeft, SendsLeft, deliveries_left, move_left, sends_none, sends_one}
use Rattle.tap_bounds.proofs.PairLays.{lay_level, lay_on, none_if_wanted, one_if_wanted}

-- ---- who holds a pair

-- whoever holds the pair shares fewer digits with this name
abbrev pub AreBelow : System → Pair → List ℕ → ℕ → Type 0
AreBelow s pair to level = (y : List ℕ) → HoldsPair s y pair → lcp y to < level

-- so it is of the next node, if the one before it comes to hold the pair
module _ (own to : List ℕ) (level next : ℕ) (above : level < next) (shared : lcp own to + 1 ≡ next) where
  beyond : (y : List ℕ) → lcp y own < level → lcp y to < next
  beyond y below =
      let sides = lcp-triangle y own to in
      let same = sides.below (omega (arith, below, above, shared)) in
      omega (arith, same, below, above)

  pub goes_beyond : (s s' : System) (pair : Pair) → ((y : List ℕ) → (y ≡ own) ⊎ (s'.node y ≡ s.node y)) → AreBelow s pair own level
      → AreBelow s' pair to next
  goes_beyond s s' pair others below y holds =
      elim (others y) [
        | inl same ↦ subst (λ z. lcp z to < next) (sym same) (omega (arith, shared))
        | inr stays ↦ beyond y (below y (record { state = holds.state; is = sym stays ∙ holds.is; held = holds.held }))
      ]

-- ---- how many frames may follow

-- after a Lay of this pair at a level at most as many are sent as there are levels above it
abbrev pub BodyLeaves : ℕ → Pair → System → ℕ → List ℕ → Body → Type 0
BodyLeaves digits pair s most to (Lay object server level version on) =
    (pair_of object server ≡ pair) × (digits ≤ level + most) × AreBelow s pair to level
BodyLeaves digits pair s most to other = ⊥

abbrev pub LayLeaves : ℕ → Pair → System → ℕ → Frame → Type 0
LayLeaves digits pair s most f = BodyLeaves digits pair s most f.to f.body

-- ---- a node comes to hold the pair

-- it has held it nowhere, and holds it at this level now, if at any: it lays it on once at most, at a higher level
module _ (p : SettingsValue) (s s' : System) (pair : Pair) (node : NodeState) (state : PairState) (acted : Acted) (level most : ℕ)
    (of : IsNodeOf p (name_of node) node) (runs : IsRunning node.status)
    (step : PointersStep node (with_state node.pointers pair state) acted) (nowhere : state.laid ≡ None)
    (held : (l : ℕ) → level_held state ≡ Some l → l ≡ level) (named : IsName p pair.object) (inside : level ≤ p.digits)
    (room : p.digits ≤ level + most) (others : (y : List ℕ) → (y ≡ name_of node) ⊎ (s'.node y ≡ s.node y))
    (below : AreBelow s pair (name_of node) level) where
  abbrev t : TableValue
  t = node.ties.table

  next_is : (next : Next) (hop : Hop) → hop_of next ≡ Some hop → next ≡ HopTo hop.to hop.level
  next_is AtRoot hop is = let wrong : ◌≡◌ {A = Option Hop} None (Some hop) = is in cc
  next_is (HopTo to l) hop is =
      let same : record { to = to; level = l } ≡ hop = cc in
      ap (λ (h : Hop). HopTo h.to h.level) same

  hop_at : (hop : Hop) → next_from t level (drop level pair.object) ≡ HopTo hop.to hop.level → IsHop t level hop.to hop.level
  hop_at hop found =
      let name = subst (λ (q : SettingsValue). IsName q pair.object) (sym of.settings) named in
      let long = named.len in
      hop_is t pair.object hop.to hop.level level of.is_node.ties.table name
      ((hop_exactly t pair.object hop.to hop.level level (omega (arith, inside, long))).0 found)

  wanted_at : (hop : Hop) → (found : Option ℕ) → level_held state ≡ found → hop_from t pair.object found ≡ Some hop
      → IsHop t level hop.to hop.level
  wanted_at hop None is wanted = let wrong : ◌≡◌ {A = Option Hop} None (Some hop) = wanted in absurd (cc)
  wanted_at hop (Some l) is wanted =
      hop_at hop (subst (λ k. next_from t k (drop k pair.object) ≡ HopTo hop.to hop.level) (held l is)
      (next_is (next_from t l (drop l pair.object)) hop wanted))

  by_wanted : (wanted : Option Hop) → wanted_hop t (pair, state) ≡ wanted → SendsLeft (LayLeaves p.digits pair s') most acted.sent
  by_wanted None is =
      sends_none (LayLeaves p.digits pair s') most acted.sent
      (none_if_wanted node pair state acted step of.is_node.pointers.ascending (of.laid runs) (nowhere ∙ sym is))
  by_wanted (Some hop) is =
      let hops = wanted_at hop (level_held state) refl is in
      let above = hops.above in
      let within : hop.level ≤ p.digits = subst (λ (q : SettingsValue). hop.level ≤ q.digits) of.settings hops.within in
      sends_one (LayLeaves p.digits pair s') most (most - 1)
      (lay_on node pair state acted step of.is_node.pointers.ascending (of.laid runs) hop) acted.sent
      (one_if_wanted node pair state acted step of.is_node.pointers.ascending (of.laid runs) hop nowhere is)
      (omega (arith, room, above, within)) (
        refl,
        omega (arith, room, above, within),
        goes_beyond (name_of node) hop.to level hop.level above hops.shared s s' pair others below,
      )

  pub lays_once : SendsLeft (LayLeaves p.digits pair s') most acted.sent
  lays_once = by_wanted (wanted_hop t (pair, state)) refl

-- ---- a Lay

-- a pair that isn't held is laid nowhere
laid_nowhere : (node : NodeState) (pair : Pair) → AreLaid node.ties.table node.pointers
    → is_held (state_of node.pointers pair) ≡ false → (state_of node.pointers pair).laid ≡ None
laid_nowhere node pair laid apart =
    laid_as_wanted node.pointers pair node.ties.table laid
    ∙ ap (hop_from node.ties.table pair.object) (no_level (state_of node.pointers pair) apart)

module _ (p : SettingsValue) (s : System) (number most : ℕ) (node : NodeState) (from object server : List ℕ) (level version : ℕ) (on : Bool)
    (is : IsDelivery p s number node from (Lay object server level version on)) (stand : PointersStand s)
    (room : p.digits ≤ level + most) (below : AreBelow s (pair_of object server) (name_of node) level) where
  abbrev s' : System
  s' = after_delivery p s number

  abbrev body : Body
  body = Lay object server level version on

  abbrev pair : Pair
  pair = pair_of object server

  abbrev Sends : Type 0
  Sends = SendsLeft (LayLeaves p.digits pair s') most (taken_at node from body).sent

  of : IsNodeOf p (name_of node) node
  of = is.nodes.nodes (name_of node) node is.at

  unruled : rule_of_frame node.status node from body ≡ None → Sends
  unruled none =
      sends_none (LayLeaves p.digits pair s') most (taken_at node from body).sent (unruled_law node (frame_to node from body) none).sent

  -- its receiver doesn't hold the pair
  apart : level ≤ p.digits → is_held (state_of node.pointers pair) ≡ false
  apart inside =
      elim (cases_Bool (is_held (state_of node.pointers pair))) [
        | inr none ↦ none
        | inl held ↦
            let less = below (name_of node) (record { state = node; is = is.at; held = held }) in
            let whole = lcp-itself (name_of node) in
            let long = of.is_node.ties.table.owner.len in
            let settings : node.ties.table.settings.digits ≡ p.digits = ap (λ (q : SettingsValue). q.digits) of.settings in
            absurd (omega (arith, less, whole, long, settings, inside))
      ]

  late : (node.status ≡ Core) ⊎ (node.status ≡ Leaving) → IsRunning node.status → Sends
  late at runs =
      let spelled = (is.invariant.spelled.each number (frame_to node from body) is.among).body in
      let not_held = apart spelled.2.1 in
      lays_once p s s' pair node (with_lay (state_of node.pointers pair) from version (pointer_at level on)) (taken_at node from body) level
      most of runs (lay_law node from object server level version on at is.known) (laid_nowhere node pair (of.laid runs) not_held)
      (lay_level (state_of node.pointers pair) from version level on (stand.registers.ascending (name_of node) node pair is.at) not_held)
      spelled.0 spelled.2.1 room (by_rule p s number node from body (due p s number node from body is)).at.others below

  lay_sends : (status : Status) → node.status ≡ status → Sends
  unfolding frame_at_joining frame_at_ceased
  lay_sends Core at = late (inl at) (rw at tt)
  lay_sends Leaving at = late (inr at) (rw at tt)
  lay_sends Joining at = unruled (rw at refl)
  lay_sends Gone at = unruled (rw at refl)
  lay_sends Ceased at = unruled (rw at refl)

frame_sends : (p : SettingsValue) (this : Pair) (s : System) (number most : ℕ) (node : NodeState) (from : List ℕ) (body : Body)
    → PointersStand s → IsDelivery p s number node from body → BodyLeaves p.digits this s most (name_of node) body
    → SendsLeft (LayLeaves p.digits this (after_delivery p s number)) most (taken_at node from body).sent
frame_sends p this s number most node from (Lay object server level version on) stand is leaves =
    subst (λ q. SendsLeft (LayLeaves p.digits q (after_delivery p s number)) most
    (taken_at node from (Lay object server level version on)).sent) leaves.0
    (lay_sends p s number most node from object server level version on is stand leaves.1
    (subst (λ q. AreBelow s q (name_of node) level) (sym leaves.0) leaves.2) node.status refl)
frame_sends p this s number most node from other stand is leaves = absurd leaves

-- ---- the start

module _ (p : SettingsValue) (s : System) (x object : List ℕ) (may : MayActOn p s x object) (sound : Sound p s) (stand : PointersStand s)
    (rest : s.frames ≡ []) where
  abbrev node : NodeState
  node = may.acts.state

  abbrev acted : Acted
  acted = act node (Starts (Publish object))

  abbrev s1 : System
  s1 = after_start p s x (Publish object)

  -- the pair that it publishes
  abbrev pub mine : Pair
  mine = own_pair node.pointers object

  abbrev state : PairState
  state = state_of node.pointers mine

  abbrev Left : Type 0
  Left = SendsLeft (LayLeaves p.digits mine s1) p.digits acted.sent

  name : name_of node ≡ x
  name = (sound.nodes.nodes x node may.acts.is).name

  node_of : IsNodeOf p (name_of node) node
  node_of = sound.nodes.nodes (name_of node) node (ap s.node name ∙ may.acts.is)

  runs : IsRunning node.status
  runs = subst IsRunning (sym may.acts.core) tt

  step : PointersStep node (with_state node.pointers mine (with_published state true)) acted
  step = publish_law node object may.acts.core

  -- if it doesn't publish it yet, nobody holds the pair
  nobody : state.published ≡ false → (y : List ℕ) → HoldsPair s y mine → ⊥
  nobody unpublished y holds =
      let is = ((pointers_on_paths p s y mine sound stand rest).0 holds).0 in
      let owner : mine.server ≡ x = node_of.is_node.owner ∙ name in
      let here : Some is.state ≡ Some node = sym is.is ∙ ap s.node owner ∙ may.acts.is in
      let same : is.state ≡ node = cc in
      let wrong : true ≡ false =
      sym is.published ∙ ap (λ (n : NodeState). (state_of n.pointers mine).published) same ∙ unpublished in
      cc

  not_held : state.published ≡ false → is_held state ≡ false
  not_held unpublished =
      elim (cases_Bool (is_held state)) [
        | inr none ↦ none
        | inl held ↦ absurd (nobody unpublished x (record { state = node; is = may.acts.is; held = held }))
      ]

  begins : (was : Bool) → state.published ≡ was → Left
  begins true is =
      let same : with_published state true ≡ state = ap (λ (b : Bool). with_published state b) (sym is) in
      let laid : state.laid ≡ wanted_hop node.ties.table (mine, state) =
      laid_as_wanted node.pointers mine node.ties.table (node_of.laid runs) in
      sends_none (LayLeaves p.digits mine s1) p.digits acted.sent
      (none_if_wanted node mine (with_published state true) acted step node_of.is_node.pointers.ascending (node_of.laid runs)
      (laid ∙ ap (λ (st : PairState). wanted_hop node.ties.table (mine, st)) (sym same)))
  begins false is =
      lays_once p s s1 mine node (with_published state true) acted 0 p.digits node_of runs step
      (laid_nowhere node mine (node_of.laid runs) (not_held is))
      (λ l at. let same : 0 ≡ l = cc in sym same) may.name (omega arith) (omega arith)
      (λ y. elim ((starts p s x (Publish object) node may.acts.is).done.others y) [
        | inl here ↦ inl (here ∙ sym name)
        | inr stays ↦ inr stays
      ])
      (λ y holds. absurd (nobody is y holds))

  start_sent : sent_by p s (Begins x (Publish object)) ≡ acted.sent
  unfolding sent_by
  start_sent = let here = may.acts.is in rw here refl

  pub start_left : MoveLeft (LayLeaves p.digits mine s1) p.digits s1 (sent_by p s (Begins x (Publish object)))
  start_left =
      let after = (starts p s x (Publish object) node may.acts.is).sent.after in
      subst (MoveLeft (LayLeaves p.digits mine s1) p.digits s1) (sym start_sent)
      (move_left (LayLeaves p.digits mine s1) p.digits s.next s1 acted.sent
      (after ∙ ap (λ (fs : List (ℕ × Frame)). fs ++ numbered_from s.next acted.sent) rest) (begins state.published refl))

-- ---- all that follows

pub publication_sends_few : PublicationSendsFew
publication_sends_few p s x object moves sound stand rest may are =
    let pair = mine p s x object may.0 sound stand rest in
    let now = start_left p s x object may.0 sound stand rest in
    let later = deliveries_left p PointersStand (λ other. LayLeaves p.digits pair other)
    (λ other number may sound stand. pointers_kept p other (Delivers number) may sound stand)
    (λ other number most node from body sound stand is leaves. frame_sends p pair other number most node from body stand is leaves)
    (moved p s (Begins x (Publish object))) (traffic_after p s no_traffic (Begins x (Publish object))) now.after moves
    (move_keeps p s (Begins x (Publish object)) may.0 sound) (pointers_kept p s (Begins x (Publish object)) may.0 sound stand)
    now.left may.1 are in
    let few = now.few in
    omega (arith, later, few)
