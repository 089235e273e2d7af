-- After each frame that a rule takes, but the Done of a join that was given up, a node that has ended has no link.
-- Cited above: frame_ended
use Rattle.std.proofs.Common.{◌≡◌, ◌⊎◌, ℕ, List, Some, ap, refl, sym, subst, ◌∙◌, inl, inr}
use Rattle.tap_name.specs.Settings.{SettingsValue}
use Rattle.tap_name.specs.declared.slot.Slot.{Slot}
use Rattle.tap_link.specs.declared.kind.Kind.{Kind}
use Rattle.tap_table.specs.Table.{TableValue, kind_in}
use Rattle.tap_table.specs.Ties.{TiesValue}
use Rattle.tap_join.specs.Seek.{sought}
use Rattle.tap_join.specs.declared.sought.Sought.{Sought}
use Rattle.tap_join.specs.declared.sought.Sought.TheVariants.{Forward, Surrogate}
use Rattle.tap_wire.specs.declared.frame.Body.{Body}
use Rattle.tap_wire.specs.declared.frame.Body.TheVariants.{Done, Forget, Release, Seek}
use Rattle.tap_wire.specs.declared.frame.TellFields.{TellFields}
use Rattle.tap_rule.specs.Ceasing.{takes_tell_ceased}
use Rattle.tap_rule.specs.Event.{Acted}
use Rattle.tap_rule.specs.FrameRules.{frame_at_ceased}
use Rattle.tap_rule.specs.JoinSteps.{SeeksAs}
use Rattle.tap_rule.specs.RuleLaws.{frame_to}
use Rattle.tap_rule.specs.Node.{NodeState, Status, link_to, name_of}
use Rattle.tap_rule.specs.Node.Status.{Ceased, Core, Gone, Joining}
use Rattle.tap_rule.proofs.CarriedOut.{frame_law}
use Rattle.tap_rule.proofs.CoverSteps.{seek_law, tell_law}
use Rattle.tap_rule.proofs.JoinSteps.{done_law, hello_law, meet_law}
use Rattle.tap_rule.proofs.LinkSteps.{forget_law, release_law}
use Rattle.tap_safety.specs.Bookkeeping.{EndedHaveNoLinks}
use Rattle.tap_safety.specs.Frames.{tell_body, hello_body}
use Rattle.tap_safety.specs.System.{System}
use Rattle.tap_safety.specs.Ties.{status_of}
use Rattle.tap_safety.proofs.Known.{ended_kept}
use Rattle.tap_safety.proofs.Moved.{delivers, found}
use Rattle.tap_safety.proofs.Said.{Said, said_of}
use Rattle.tap_safety.proofs.Said.Said.{IsDone, IsForget, IsHello, IsRelease, IsSeek, IsTell}
use Rattle.tap_moves.specs.ByRule.{taken_at}
use Rattle.tap_moves.specs.Delivered.{after_delivery}
use Rattle.tap_moves.specs.FrameLaws.{IsPlain}
use Rattle.tap_moves.specs.InvariantLaws.{FrameEnded, IsDelivery, IsFilledThere}
use Rattle.tap_moves.proofs.InvariantMoves.{due, joins_here, name_at, of_node, sender_name, told_name, way}
use Rattle.tap_moves.proofs.Plain.{plain_alike}

-- a node that hasn't ended, by its status
lives_on : (status other : Status) → status ≡ other → (other ≡ Joining) ⊎ (other ≡ Core) → (status ≡ Gone → ⊥) × (status ≡ Ceased → ⊥)
lives_on status other same (inl at) = (
  λ gone. let wrong : Joining ≡ Gone = sym at ∙ sym same ∙ gone in absurd (cc),
  λ ceased. let wrong : Joining ≡ Ceased = sym at ∙ sym same ∙ ceased in absurd (cc),
)
lives_on status other same (inr at) = (
  λ gone. let wrong : Core ≡ Gone = sym at ∙ sym same ∙ gone in absurd (cc),
  λ ceased. let wrong : Core ≡ Ceased = sym at ∙ sym same ∙ ceased in absurd (cc),
)

module _ (p : SettingsValue) (s : System) (number : ℕ) (node : NodeState) (from : List ℕ) where
  abbrev after : System
  after = after_delivery p s number

  -- the taker has no link, if it has ended
  ends_bare : (body : Body) → IsDelivery p s number node from body
      → ((t : List ℕ) (kind : Kind) → link_to (taken_at node from body).state t ≡ Some kind
      → ((taken_at node from body).state.status ≡ Gone → ⊥) × ((taken_at node from body).state.status ≡ Ceased → ⊥))
      → EndedHaveNoLinks after
  ends_bare body is none =
      let frame = frame_to node from body in
      let step = delivers p s number frame node (found number frame 0 s.frames s.next is.invariant.numbered.numbers is.among) is.at in
      ended_kept s after (name_of node) (taken_at node from body).state (taken_at node from body).sent step.done none is.invariant.ended

  -- who goes on has not
  goes_on : (body : Body) → IsDelivery p s number node from body → (taken_at node from body).state.status ≡ node.status
      → (node.status ≡ Joining) ⊎ (node.status ≡ Core) → EndedHaveNoLinks after
  goes_on body is same at =
      ends_bare body is (λ t kind link. lives_on (taken_at node from body).state.status node.status same at)

  -- who stays what it is has no link that it had not
  stays_so : (body : Body) → IsDelivery p s number node from body → (taken_at node from body).state.status ≡ node.status
      → (taken_at node from body).state.ties.table ≡ node.ties.table → EndedHaveNoLinks after
  unfolding status_of
  stays_so body is same table =
      ends_bare body is (λ t kind link.
      let had = sym (ap (λ (now : TableValue). kind_in now t) table) ∙ link in
      let never = is.invariant.ended.none (name_of node) t kind (record { state = node; is = is.at; link = had }) in (
        λ gone. never.0 (rw is.at (ap Some (sym same ∙ gone))),
        λ ceased. never.1 (rw is.at (ap Some (sym same ∙ ceased))),
      ))

  plain_ended : (body : Body) → IsDelivery p s number node from body → IsPlain node body → EndedHaveNoLinks after
  plain_ended body is plain =
      let alike = plain_alike node from body is.known plain in stays_so body is alike.status alike.table

  tell_ended : (tell : TellFields) (watch : List Slot) → IsDelivery p s number node from (tell_body tell watch)
      → (node.status ≡ Core) ⊎ ((node.status ≡ Joining) ⊎ (node.status ≡ Ceased)) → EndedHaveNoLinks after
  unfolding frame_at_ceased
  tell_ended tell watch is (inl at) =
      let ties = (due p s number node from (tell_body tell watch) is).is_node.ties in
      let step = tell_law node from tell watch ties (told_name p s number node from tell watch is) at is.known in
      goes_on (tell_body tell watch) is step.status (inr at)
  tell_ended tell watch is (inr (inl at)) =
      let ties = (due p s number node from (tell_body tell watch) is).is_node.ties in
      let step = meet_law node from tell watch ties (told_name p s number node from tell watch is) at is.known in
      goes_on (tell_body tell watch) is step.status (inl at)
  tell_ended tell watch is (inr (inr at)) =
      let frame = frame_to node from (tell_body tell watch) in
      let carried = frame_law node frame (takes_tell_ceased node from tell.session) is.known (rw at refl) in
      stays_so (tell_body tell watch) is carried.status (ap (λ (ties : TiesValue). ties.table) carried.ties)

  seated_status : (joiner : List ℕ) (acted : Acted) (prefix : ℕ) → SeeksAs node joiner acted (Surrogate prefix)
      → acted.state.status ≡ node.status
  seated_status joiner acted prefix step = step.status

  seek_ended : (joiner : List ℕ) → IsDelivery p s number node from (Seek joiner) → node.status ≡ Core → (to : Sought)
      → sought node.ties.table joiner ≡ to → EndedHaveNoLinks after
  seek_ended joiner is at (Forward next) to = plain_ended (Seek joiner) is (next, to)
  seek_ended joiner is at (Surrogate prefix) to =
      let seeker = is.invariant.seekers.seeks from (name_of node) joiner (way p s number node from (Seek joiner) is) in
      let name = of_node p s number node from (Seek joiner) is joiner (name_at p s is.nodes joiner seeker.state seeker.is) in
      let ties = (due p s number node from (Seek joiner) is).is_node.ties in
      let acted = taken_at node from (Seek joiner) in
      let step = subst (SeeksAs node joiner acted) to (seek_law node from joiner ties name at is.known) in
      goes_on (Seek joiner) is (seated_status joiner acted prefix step) (inr at)

pub frame_ended : FrameEnded
frame_ended p s number node from body is there = by_said body (said_of body) is there
  where
    by_said : (body : Body) → Said body → IsDelivery p s number node from body → IsFilledThere node body
        → EndedHaveNoLinks (after_delivery p s number)
    by_said _ (IsTell tell watch) is there = tell_ended p s number node from tell watch is there
    by_said _ (IsHello hello) is there =
        goes_on p s number node from (hello_body hello) is (hello_law node from hello there is.known).joins.status
        (inl there)
    by_said _ (IsSeek joiner) is there = seek_ended p s number node from joiner is there (sought node.ties.table joiner) refl
    by_said _ IsRelease is there =
        let here = due p s number node from Release is in
        goes_on p s number node from Release is
        (release_law node from here.is_node.ties (sender_name p s number node from Release is) there is.known).joins.status there
    by_said _ IsForget is there =
        let here = due p s number node from Forget is in
        goes_on p s number node from Forget is
        (forget_law node from here.is_node.ties (sender_name p s number node from Forget is) there is.known).joins.status there
    by_said _ IsDone is there =
        let joiner = is.invariant.of_joiners.dones from (name_of node) (way p s number node from Done is) in
        let step = done_law node from (joins_here s node joiner is.at) there is.known in
        ends_bare p s number node from Done is (λ t kind link. lives_on (taken_at node from Done).state.status Core step.status (inr refl))
    by_said body _ is there = plain_ended p s number node from body is there
