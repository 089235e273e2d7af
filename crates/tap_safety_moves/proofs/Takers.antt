-- Who takes a frame that is under way: the status of its receiver, by its kind.
use Rattle.std.proofs.Common.{◌≡◌, ◌⊎◌, ℕ, List, Option, None, Some, ap, refl, subst, sym, ◌∙◌, inl, inr}
use Rattle.tap_name.specs.Settings.{SettingsValue}
use Rattle.tap_name.specs.declared.slot.Slot.{Slot}
use Rattle.tap_link.specs.declared.kind.Kind.TheVariants.{Settled}
use Rattle.tap_session.specs.Session.{Session}
use Rattle.tap_wire.specs.declared.frame.Body.{Body}
use Rattle.tap_wire.specs.declared.frame.Body.TheVariants.{Done, Forget, Leave, Left, Release, Seek}
use Rattle.tap_wire.specs.declared.frame.Frame.{Frame}
use Rattle.tap_wire.specs.declared.frame.TellFields.{TellFields}
use Rattle.tap_rule.specs.RuleLaws.{frame_to}
use Rattle.tap_rule.specs.Node.{NodeState, Status, join_session_at, name_of}
use Rattle.tap_rule.specs.Node.Status.{Ceased as CeasedStatus, Core, Gone, Joining, Leaving}
use Rattle.tap_safety.specs.Bookkeeping.{holds_sessions}
use Rattle.tap_safety.specs.Departing.{may_be_then}
use Rattle.tap_safety.specs.Frames.{HelloFields, hello_body, tell_body}
use Rattle.tap_safety.specs.Remembered.{Leaver}
use Rattle.tap_safety.specs.Sessions.{Belongs}
use Rattle.tap_safety.specs.Soft.{IsCeased, IsSoft}
use Rattle.tap_safety.specs.System.{System, AmongFrames, IsCoreNode, IsJoiner, IsUnderWay}
use Rattle.tap_safety.specs.Ties.{status_of}
use Rattle.tap_safety.proofs.LinkKeeps.{status_seen}
use Rattle.tap_moves.proofs.InvariantMoves.{joins_here}
use Rattle.tap_moves.specs.PinsRule.{IsEndedStatus}
use Rattle.tap_safety_moves.specs.Arrivals.{Arrives}

-- ---- statuses

-- a node that isn't leaving joins, is core, or has ended
not_leaving : (status : Status) → (status ≡ Leaving → ⊥) → ((status ≡ Joining) ⊎ (status ≡ Core)) ⊎ IsEndedStatus status
not_leaving Joining stays = inl (inl refl)
not_leaving Core stays = inl (inr refl)
not_leaving Leaving stays = absurd (stays refl)
not_leaving Gone stays = inr (inl refl)
not_leaving CeasedStatus stays = inr (inr refl)

-- a node that neither joins nor leaves, and hasn't ended, is core
only_core : (status : Status) → (status ≡ Joining → ⊥) → (status ≡ Leaving → ⊥) → (IsEndedStatus status → ⊥) → status ≡ Core
only_core Joining joins leaves over = absurd (joins refl)
only_core Core joins leaves over = refl
only_core Leaving joins leaves over = absurd (leaves refl)
only_core Gone joins leaves over = absurd (over (inl refl))
only_core CeasedStatus joins leaves over = absurd (over (inr refl))

-- who may have sessions open joins, is core or has ceased
holding : (status : Status) → holds_sessions status → (status ≡ Joining) ⊎ ((status ≡ Core) ⊎ (status ≡ CeasedStatus))
holding Joining holds = inl refl
holding Core holds = inr (inl refl)
holding Leaving holds = absurd holds
holding Gone holds = absurd holds
holding CeasedStatus holds = inr (inr refl)

-- who is core or leaving, and isn't leaving, is core
stays_core : (status : Status) → (status ≡ Leaving → ⊥) → (status ≡ Core) ⊎ (status ≡ Leaving) → status ≡ Core
stays_core status stays (inl core) = core
stays_core status stays (inr leaves) = absurd (stays leaves)

-- ---- a frame and its receiver

module _ (p : SettingsValue) (s : System) (number : ℕ) (node : NodeState) (from : List ℕ) (body : Body)
    (is : Arrives p s number node from body) where
  pub way : IsUnderWay s from (name_of node) body
  way = record { number = number; among = is.among }

  -- the status that the system has for its name
  seen : (status : Status) → node.status ≡ status → status_of s (name_of node) ≡ Some status
  seen status so = status_seen s (name_of node) node status is.at so

  core_here : IsCoreNode s (name_of node) → (node.status ≡ Core) ⊎ (node.status ≡ Leaving)
  core_here core =
      let there = core.is in
      let here = is.at in
      let same : core.state ≡ node = cc in
      subst (λ (n : NodeState). (n.status ≡ Core) ⊎ (n.status ≡ Leaving)) same core.core

  ceased_here : IsCeased s (name_of node) → node.status ≡ CeasedStatus
  ceased_here ceased =
      let there = ceased.is in
      let here = is.at in
      let same : ceased.state ≡ node = cc in
      subst (λ (n : NodeState). n.status ≡ CeasedStatus) same ceased.ceased

  -- nobody departs while such a frame is under way, so the node isn't leaving
  module _ (never : may_be_then body → ⊥) where
    pub none_departs : s.departing ≡ None
    none_departs = by_departing s.departing refl
      where
        by_departing : (departing : Option Leaver) → s.departing ≡ departing → s.departing ≡ None
        by_departing None none = none
        by_departing (Some leaver) departs =
            absurd (never ((is.invariant.departure.during leaver departs).frames from (name_of node) body way))

    stays : node.status ≡ Leaving → ⊥
    stays leaves = is.invariant.departure.leaving (name_of node) none_departs (seen Leaving leaves)

    core_stays : IsCoreNode s (name_of node) → node.status ≡ Core
    core_stays core = stays_core node.status stays (core_here core)

    soft_stays : IsSoft s (name_of node) → (node.status ≡ Core) ⊎ ((node.status ≡ Joining) ⊎ (node.status ≡ CeasedStatus))
    soft_stays (inl joiner) = inr (inl (joins_here s node joiner is.at))
    soft_stays (inr (inl core)) = inl (core_stays core)
    soft_stays (inr (inr ceased)) = inr (inr (ceased_here ceased))

  -- the session of the node to which the frame belongs is kept there, by a node that may have sessions open
  module _ (session : ℕ) (belongs : Belongs (frame_to node from body) (name_of node) session) where
    pub kept_session : (kept : Session) × (join_session_at node session ≡ Some kept)
    kept_session =
        let awaited = is.invariant.exact.frames number (frame_to node from body) (name_of node) session is.among belongs in
        let kept = is.invariant.counted.kept (name_of node) session awaited.session node awaited.is is.at in
        (kept.0, kept.1)

    pub session_taker : (node.status ≡ Joining) ⊎ ((node.status ≡ Core) ⊎ (node.status ≡ CeasedStatus))
    session_taker =
        let awaited = is.invariant.exact.frames number (frame_to node from body) (name_of node) session is.among belongs in
        let place = is.invariant.places.places (name_of node) session awaited.session awaited.is in
        let there = place.is in
        let here = is.at in
        let same : place.state ≡ node = cc in
        holding node.status (subst (λ (n : NodeState). holds_sessions n.status) same place.holds)

-- ---- by kind

module _ (p : SettingsValue) (s : System) (number : ℕ) (node : NodeState) (from : List ℕ) where
  -- of a seeker there is one Seek, and it goes to a core node
  pub seek_taker : (joiner : List ℕ) → Arrives p s number node from (Seek joiner) → node.status ≡ Core
  seek_taker joiner is =
      let frame = frame_to node from (Seek joiner) in
      let seeker = is.invariant.seekers.seeks from (name_of node) joiner (way p s number node from (Seek joiner) is) in
      let one = is.invariant.seeking.seeks joiner seeker in
      let its : Frame = record { from = one.from; to = one.to; body = Seek joiner } in
      let again : AmongFrames number its s.frames =
      subst (λ m. AmongFrames m its s.frames) (sym (one.only from (name_of node) number is.among)) one.among in
      let same : its ≡ frame = is.invariant.exact.numbers number its frame again is.among in
      core_stays p s number node from (Seek joiner) is (λ never. never)
      (subst (IsCoreNode s) (ap (λ (f : Frame). f.to) same) one.core)

  pub tell_taker : (tell : TellFields) (watch : List Slot) → Arrives p s number node from (tell_body tell watch)
      → (node.status ≡ Core) ⊎ ((node.status ≡ Joining) ⊎ (node.status ≡ CeasedStatus))
  tell_taker tell watch is =
      let body = tell_body tell watch in
      soft_stays p s number node from body is (λ never. never)
      (is.invariant.tells.each from (name_of node) tell watch (way p s number node from body is)).soft

  -- a Hello is about its receiver, whose session is of a joiner
  pub hello_taker : (hello : HelloFields) → Arrives p s number node from (hello_body hello) → node.status ≡ Joining
  hello_taker hello is =
      let frame = frame_to node from (hello_body hello) in
      let awaited = is.invariant.exact.frames number frame from hello.session is.among refl in
      let joiners = is.invariant.of_joiners in
      let about = joiners.frames number frame from hello.session awaited.session (name_of node) is.among refl awaited.is refl in
      joins_here s node (subst (IsJoiner s) about (joiners.opened from hello.session awaited.session awaited.is)) is.at

  pub done_taker : Arrives p s number node from Done → node.status ≡ Joining
  done_taker is =
      joins_here s node (is.invariant.of_joiners.dones from (name_of node) (way p s number node from Done is)) is.at

  -- neither of the two words that end a pin comes to a leaver
  pub release_taker : Arrives p s number node from Release → ((node.status ≡ Joining) ⊎ (node.status ≡ Core)) ⊎ IsEndedStatus node.status
  release_taker is = not_leaving node.status (by_departing s.departing refl)
    where
      by_departing : (departing : Option Leaver) → s.departing ≡ departing → node.status ≡ Leaving → ⊥
      by_departing None none leaves =
          is.invariant.departure.leaving (name_of node) none (seen p s number node from Release is Leaving leaves)
      by_departing (Some leaver) departs leaves =
          let during = is.invariant.departure.during leaver departs in
          let leaver_is = during.leaving (name_of node) (seen p s number node from Release is Leaving leaves) in
          (during.releases from (name_of node) (way p s number node from Release is)).0 leaver_is

  pub forget_taker : Arrives p s number node from Forget → ((node.status ≡ Joining) ⊎ (node.status ≡ Core)) ⊎ IsEndedStatus node.status
  forget_taker is = not_leaving node.status (by_departing s.departing refl)
    where
      by_departing : (departing : Option Leaver) → s.departing ≡ departing → node.status ≡ Leaving → ⊥
      by_departing None none leaves =
          is.invariant.departure.leaving (name_of node) none (seen p s number node from Forget is Leaving leaves)
      by_departing (Some leaver) departs leaves =
          (is.invariant.departure.during leaver departs).forgets from (name_of node) (way p s number node from Forget is)

  -- a Leave comes to another node with a link to the leaver, while nobody joins
  pub leave_taker : (replacement : Option (List ℕ)) → Arrives p s number node from (Leave replacement) → node.status ≡ Core
  leave_taker replacement is = by_departing s.departing refl
    where
      body : Body
      body = Leave replacement

      here : IsUnderWay s from (name_of node) body
      here = way p s number node from body is

      at : (status : Status) → node.status ≡ status → status_of s (name_of node) ≡ Some status
      at = seen p s number node from body is

      by_departing : (departing : Option Leaver) → s.departing ≡ departing → node.status ≡ Core
      by_departing None none = absurd (is.invariant.notices.none from (name_of node) body none here tt)
      by_departing (Some leaver) departs =
          let during = is.invariant.departure.during leaver departs in
          let leave = during.leaves from (name_of node) replacement here in
          let ended = is.invariant.ended.none (name_of node) from Settled leave.1 in
          only_core node.status (λ joins. during.joining (name_of node) (at Joining joins))
          (λ leaves.
          is.invariant.ends.apart number (frame_to node from body) is.among
          (leave.0 ∙ sym (during.leaving (name_of node) (at Leaving leaves))))
          (λ over. elim over [ inl gone ↦ ended.0 (at Gone gone) | inr ceased ↦ ended.1 (at CeasedStatus ceased) ])

  -- a Left comes to a node that leaves
  pub left_taker : Arrives p s number node from Left → node.status ≡ Leaving
  left_taker is =
      let awaits = is.invariant.notices.lefts from (name_of node) (way p s number node from Left is) in
      let there = awaits.is in
      let here = is.at in
      let same : awaits.state ≡ node = cc in
      subst (λ (n : NodeState). n.status ≡ Leaving) same awaits.leaving
