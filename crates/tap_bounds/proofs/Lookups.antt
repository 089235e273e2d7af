-- A lookup that starts at rest has one frame under way at most: a Find that goes up from level to level, and then its Answer.
-- Cited above: lookup_sends_few
use Rattle.std.proofs.Common.{◌≡◌, ◌⊎◌, ℕ, ◌+◌, ◌-◌, ◌≤◌, ◌<◌, List, [], ◌++◌, drop, map, Option, None, Some, arith, ap, refl, sym, subst, ◌∙◌, inl, inr}
use Rattle.tap_name.specs.Name.{IsName}
use Rattle.tap_name.specs.Settings.{SettingsValue}
use Rattle.tap_table.specs.Next.{next_from}
use Rattle.tap_table.specs.declared.next.Next.{Next}
use Rattle.tap_table.specs.declared.next.Next.TheVariants.{Hop, Root}
use Rattle.tap_table.specs.Ties.{TiesValue}
use Rattle.tap_table.proofs.Hops.{hop_exactly, hop_is}
use Rattle.tap_pointer.specs.declared.lay.Lay.{Lay}
use Rattle.tap_pointer.specs.Pointers.{server_for}
use Rattle.tap_pointer.specs.Reconcile.{AreLaid}
use Rattle.tap_pointer.proofs.Laws.{laid_sends_nothing}
use Rattle.tap_wire.specs.declared.frame.Body.{Body}
use Rattle.tap_wire.specs.declared.frame.Body.TheVariants.{Answer, Find}
use Rattle.tap_wire.specs.declared.frame.Frame.{Frame}
use Rattle.tap_rule.specs.Act.{act}
use Rattle.tap_rule.specs.Completed.{IsCompleted, lays_after}
use Rattle.tap_rule.specs.Event.{Acted, News}
use Rattle.tap_rule.specs.Event.Event.{Starts}
use Rattle.tap_rule.specs.Event.Start.{Find as StartFind}
use Rattle.tap_rule.specs.FrameRules.{frame_at_ceased, frame_at_joining, rule_of_frame}
use Rattle.tap_rule.specs.RuleLaws.{frame_to}
use Rattle.tap_rule.specs.Node.{IsRunning, NodeState, Status, name_of}
use Rattle.tap_rule.specs.Node.Status.{Ceased, Core, Gone, Joining, Leaving}
use Rattle.tap_rule.specs.PointerSteps.{FindStep, LookupStep}
use Rattle.tap_rule.specs.Reaction.{message}
use Rattle.tap_rule.specs.Sending.{by_receiver, lay_frame, message_frame}
use Rattle.tap_rule.proofs.CarriedOut.{unruled_law}
use Rattle.tap_rule.proofs.PointerSteps.{find_law, found_law, lookup_law}
use Rattle.tap_safety.specs.Move.{MayActOn}
use Rattle.tap_safety.specs.Move.Move.{Begins}
use Rattle.tap_safety.specs.Moved.{moved}
use Rattle.tap_safety.specs.Exchanges.{numbered_from}
use Rattle.tap_safety.specs.System.{System}
use Rattle.tap_safety.proofs.Moved.{starts}
use Rattle.tap_moves.specs.ByRule.{taken_at}
use Rattle.tap_moves.specs.Delivered.{after_start}
use Rattle.tap_moves.specs.InvariantLaws.{IsDelivery}
use Rattle.tap_moves.proofs.SeekGoesOn.{one_sent}
use Rattle.tap_safety_moves.specs.Sound.{Sound}
use Rattle.tap_safety_moves.proofs.SoundMoves.{move_keeps}
use Rattle.tap_bounds.specs.FewLookups.{LookupSendsFew}
use Rattle.tap_bounds.specs.Traffic.{no_traffic, sent_by, traffic_after}
use Rattle.tap_bounds.proofs.OneWay.{MoveLeft, SendsLeft, deliveries_left, move_left, sends_none, sends_one}

-- ---- how many frames may follow

-- after such a frame at most so many are sent: after a Find at a level as many as there are levels above it, and its Answer
abbrev pub Leaves : ℕ → ℕ → Body → Type 0
Leaves digits most (Find ticket object asker level) = digits + 1 ≤ level + most
Leaves digits most (Answer ticket server) = Unit {0}
Leaves digits most other = ⊥

abbrev FrameLeaves : ℕ → ℕ → Frame → Type 0
FrameLeaves digits most f = Leaves digits most f.body

-- a step without words and messages, whose pointers are laid as wanted, sends nothing
none_sent : (node : NodeState) (news : News) (acted : Acted) → IsCompleted node node.pointers [] [] news acted
    → AreLaid acted.state.ties.table node.pointers → acted.sent ≡ []
unfolding by_receiver
none_sent node news acted completed laid =
    let none : lays_after node node.pointers [] acted ≡ [] =
    (laid_sends_nothing acted.state.ties.table (node.stamp + 0) node.pointers laid).0 in
    completed.sent.all ∙ ap (λ (lays : List Lay). map (lay_frame (name_of node)) lays) none

-- ---- a hop goes up

module _ (p : SettingsValue) (node : NodeState) (object to : List ℕ) (level next : ℕ) where
  hop_above : IsName p object → level ≤ p.digits → (settings : node.ties.table.settings ≡ p)
      → Rattle.tap_table.specs.Table.IsTable node.ties.table → next_from node.ties.table level (drop level object) ≡ Hop to next → level < next
  hop_above named inside settings valid found =
      let name = subst (λ (q : SettingsValue). IsName q object) (sym settings) named in
      let long = named.len in
      (hop_is node.ties.table object to next level valid name
      ((hop_exactly node.ties.table object to next level (omega (arith, inside, long))).0 found)).above

-- ---- Find and Answer

module _ (p : SettingsValue) (s : System) (number most : ℕ) (node : NodeState) (from : List ℕ) where
  -- a rule that isn't there
  unruled : (body : Body) → rule_of_frame node.status node from body ≡ None → SendsLeft (FrameLeaves p.digits) most (taken_at node from body).sent
  unruled body none =
      sends_none (FrameLeaves p.digits) most (taken_at node from body).sent (unruled_law node (frame_to node from body) none).sent

  module _ (ticket : ℕ) (object asker : List ℕ) (level : ℕ)
      (is : IsDelivery p s number node from (Find ticket object asker level)) (room : p.digits + 1 ≤ level + most) where
    abbrev acted : Acted
    acted = taken_at node from (Find ticket object asker level)

    find_late : (node.status ≡ Core) ⊎ (node.status ≡ Leaving) → IsRunning node.status → SendsLeft (FrameLeaves p.digits) most acted.sent
    find_late at runs =
        let step = find_law node from ticket object asker level at is.known in
        let of = is.nodes.nodes (name_of node) node is.at in
        let laid = subst (λ (ties : TiesValue). AreLaid ties.table node.pointers) (sym step.alike.ties) (of.laid runs) in
        let body = (is.invariant.spelled.each number (frame_to node from (Find ticket object asker level)) is.among).body in
        by_server step laid body.0 body.2.1 (server_for node.pointers object) refl
      where
        by_next : FindStep node ticket object asker level acted → AreLaid acted.state.ties.table node.pointers → IsName p object
            → level ≤ p.digits → server_for node.pointers object ≡ None → (next : Next)
            → next_from node.ties.table level (drop level object) ≡ next → SendsLeft (FrameLeaves p.digits) most acted.sent
        by_next step laid named inside none Root found =
            sends_one (FrameLeaves p.digits) most 0 (message_frame (name_of node) (message asker (Answer ticket None))) acted.sent
            (one_sent node (message asker (Answer ticket None)) acted (step.at_root none found) laid) (omega (arith, room, inside)) tt
        by_next step laid named inside none (Hop to next) found =
            let of = is.nodes.nodes (name_of node) node is.at in
            let above = hop_above p node object to level next named inside of.settings of.is_node.ties.table found in
            sends_one (FrameLeaves p.digits) most (most - 1) (message_frame (name_of node) (message to (Find ticket object asker next))) acted.sent
            (one_sent node (message to (Find ticket object asker next)) acted (step.goes_on to next none found) laid)
            (omega (arith, room, inside)) (omega (arith, room, inside, above))

        by_server : FindStep node ticket object asker level acted → AreLaid acted.state.ties.table node.pointers → IsName p object
            → level ≤ p.digits → (server : Option (List ℕ)) → server_for node.pointers object ≡ server
            → SendsLeft (FrameLeaves p.digits) most acted.sent
        by_server step laid named inside (Some server) held =
            sends_one (FrameLeaves p.digits) most 0 (message_frame (name_of node) (message asker (Answer ticket (Some server)))) acted.sent
            (one_sent node (message asker (Answer ticket (Some server))) acted (step.served server held) laid)
            (omega (arith, room, inside)) tt
        by_server step laid named inside None none =
            by_next step laid named inside none (next_from node.ties.table level (drop level object)) refl

    find_sends : (status : Status) → node.status ≡ status → SendsLeft (FrameLeaves p.digits) most acted.sent
    unfolding frame_at_joining frame_at_ceased
    find_sends Core at = find_late (inl at) (rw at tt)
    find_sends Leaving at = find_late (inr at) (rw at tt)
    find_sends Joining at = unruled (Find ticket object asker level) (rw at refl)
    find_sends Gone at = unruled (Find ticket object asker level) (rw at refl)
    find_sends Ceased at = unruled (Find ticket object asker level) (rw at refl)

  module _ (ticket : ℕ) (server : Option (List ℕ)) (is : IsDelivery p s number node from (Answer ticket server)) where
    answer_late : (node.status ≡ Core) ⊎ (node.status ≡ Leaving) → IsRunning node.status
        → SendsLeft (FrameLeaves p.digits) most (taken_at node from (Answer ticket server)).sent
    answer_late at runs =
        let step = found_law node from ticket server at is.known in
        let of = is.nodes.nodes (name_of node) node is.at in
        sends_none (FrameLeaves p.digits) most (taken_at node from (Answer ticket server)).sent
        (none_sent node _ (taken_at node from (Answer ticket server)) step.completed
        (subst (λ (ties : TiesValue). AreLaid ties.table node.pointers) (sym step.alike.ties) (of.laid runs)))

    answer_sends : (status : Status) → node.status ≡ status → SendsLeft (FrameLeaves p.digits) most (taken_at node from (Answer ticket server)).sent
    unfolding frame_at_joining frame_at_ceased
    answer_sends Core at = answer_late (inl at) (rw at tt)
    answer_sends Leaving at = answer_late (inr at) (rw at tt)
    answer_sends Joining at = unruled (Answer ticket server) (rw at refl)
    answer_sends Gone at = unruled (Answer ticket server) (rw at refl)
    answer_sends Ceased at = unruled (Answer ticket server) (rw at refl)

  pub frame_sends : (body : Body) → Leaves p.digits most body → IsDelivery p s number node from body
      → SendsLeft (FrameLeaves p.digits) most (taken_at node from body).sent
  frame_sends (Find ticket object asker level) room is = find_sends ticket object asker level is room node.status refl
  frame_sends (Answer ticket server) room is = answer_sends ticket server is node.status refl
  frame_sends other room is = absurd room

-- ---- the start

module _ (p : SettingsValue) (s : System) (x object : List ℕ) (ticket : ℕ) (may : MayActOn p s x object) (sound : Sound p s) where
  abbrev asker : NodeState
  asker = may.acts.state

  abbrev asks : Acted
  asks = act asker (Starts (StartFind ticket object))

  asked : LookupStep asker ticket object asks → AreLaid asks.state.ties.table asker.pointers → SendsLeft (FrameLeaves p.digits) (p.digits + 1) asks.sent
  asked step laid = by_server (server_for asker.pointers object) refl
    where
      by_next : server_for asker.pointers object ≡ None → (next : Next) → next_from asker.ties.table 0 object ≡ next
          → SendsLeft (FrameLeaves p.digits) (p.digits + 1) asks.sent
      by_next none Root found =
          sends_none (FrameLeaves p.digits) (p.digits + 1) asks.sent (none_sent asker _ asks (step.at_root none found) laid)
      by_next none (Hop to next) found =
          let of = sound.nodes.nodes x asker may.acts.is in
          let above = hop_above p asker object to 0 next may.name (omega arith) of.settings of.is_node.ties.table found in
          sends_one (FrameLeaves p.digits) (p.digits + 1) p.digits (message_frame (name_of asker) (message to (Find ticket object (name_of asker) next)))
          asks.sent (one_sent asker (message to (Find ticket object (name_of asker) next)) asks (step.goes_on to next none found) laid)
          (omega arith) (omega (arith, above))

      by_server : (server : Option (List ℕ)) → server_for asker.pointers object ≡ server → SendsLeft (FrameLeaves p.digits) (p.digits + 1) asks.sent
      by_server (Some server) held =
          sends_none (FrameLeaves p.digits) (p.digits + 1) asks.sent (none_sent asker _ asks (step.served server held) laid)
      by_server None none = by_next none (next_from asker.ties.table 0 object) refl

  start_sent : sent_by p s (Begins x (StartFind ticket object)) ≡ asks.sent
  unfolding sent_by
  start_sent = let here = may.acts.is in rw here refl

  pub start_left : s.frames ≡ []
      → MoveLeft (FrameLeaves p.digits) (p.digits + 1) (after_start p s x (StartFind ticket object)) (sent_by p s (Begins x (StartFind ticket object)))
  start_left rest =
      let step = lookup_law asker ticket object may.acts.core in
      let of = sound.nodes.nodes x asker may.acts.is in
      let laid = subst (λ (ties : TiesValue). AreLaid ties.table asker.pointers) (sym step.alike.ties)
      (of.laid (subst IsRunning (sym may.acts.core) tt)) in
      let after = (starts p s x (StartFind ticket object) asker may.acts.is).sent.after in
      subst (MoveLeft (FrameLeaves p.digits) (p.digits + 1) (after_start p s x (StartFind ticket object))) (sym start_sent)
      (move_left (FrameLeaves p.digits) (p.digits + 1) s.next (after_start p s x (StartFind ticket object)) asks.sent
      (after ∙ ap (λ (fs : List (ℕ × Frame)). fs ++ numbered_from s.next asks.sent) rest) (asked step laid))

-- ---- all that follows

pub lookup_sends_few : LookupSendsFew
lookup_sends_few p s x object ticket moves sound rest may are =
    let now = start_left p s x object ticket may.0 sound rest in
    let later = deliveries_left p (λ other. Unit {0}) (λ other. FrameLeaves p.digits) (λ s number may sound holds. tt)
    (λ s number most node from body sound holds is leaves. frame_sends p s number most node from body leaves is)
    (moved p s (Begins x (StartFind ticket object))) (traffic_after p s no_traffic (Begins x (StartFind ticket object))) now.after moves
    (move_keeps p s (Begins x (StartFind ticket object)) may.0 sound) tt now.left may.1 are in
    let few = now.few in
    omega (arith, later, few)
