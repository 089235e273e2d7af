-- Tables, sessions, seekers and Tells after each notice, and once a node has started to leave.
use Rattle.std.proofs.Common.{◌≡◌, inl, inr, ℕ, List, [], length, Option, None, Some, refl, sym, ap, ◌∙◌}
use Rattle.std.proofs.lemmas.Bool.{cases_eq}
use Rattle.tap_name.specs.Prefix.{lcp}
use Rattle.tap_name.specs.Settings.{SettingsValue}
use Rattle.tap_link.specs.declared.kind.Kind.TheVariants.{Leaving as LeavingKind}
use Rattle.tap_session.specs.Session.{Session, SessionsValue}
use Rattle.tap_session.specs.Sessions.{session_of}
use Rattle.tap_multicast.specs.Covers.{CoversValue, level_kept}
use Rattle.tap_table.specs.Ties.{holders_on}
use Rattle.tap_depart.specs.Leaving.{names_but}
use Rattle.tap_depart.specs.Replacement.{replacement_for}
use Rattle.tap_depart.proofs.Replacements.{least_above_is}
use Rattle.tap_wire.specs.declared.frame.Body.{Body}
use Rattle.tap_wire.specs.declared.frame.Body.TheVariants.{Gone, Leave, Left}
use Rattle.tap_rule.specs.Act.{act}
use Rattle.tap_rule.specs.Event.Event.{Starts}
use Rattle.tap_rule.specs.Event.Start.{Leave as StartLeave}
use Rattle.tap_rule.specs.RuleLaws.{frame_to}
use Rattle.tap_rule.specs.Node.{NodeState, Status, join_session_at, name_of}
use Rattle.tap_rule.specs.Node.Status.{Ceased, Core, Gone as GoneStatus, Joining, Leaving}
use Rattle.tap_rule.proofs.CarriedOut.{unruled_law}
use Rattle.tap_rule.proofs.EndSteps.{gone_law, leave_law}
use Rattle.tap_safety.specs.Departing.{WhileDeparting}
use Rattle.tap_safety.specs.Filled.{AreFilled}
use Rattle.tap_safety.specs.Invariant.{Basis, Invariant}
use Rattle.tap_safety.specs.Joins.{AreOfJoiners}
use Rattle.tap_safety.specs.Move.{MayLeave}
use Rattle.tap_safety.specs.Notices.{IsNotice}
use Rattle.tap_safety.specs.Remembered.{Leaver}
use Rattle.tap_safety.specs.Seeking.{HasNode}
use Rattle.tap_safety.specs.Exchanges.{AreNumbered, ChangesAt}
use Rattle.tap_safety.specs.System.{System, CoversAt, HasLink, IsCoreNode, IsJoiner}
use Rattle.tap_safety.proofs.LinkKeeps.{status_seen}
use Rattle.tap_safety.proofs.Moved.{numbers_sent, numbers_taken}
use Rattle.tap_safety.proofs.NoticesKept.{until_rest_law}
use Rattle.tap_safety.proofs.Rest.{rest_holds}
use Rattle.tap_safety.proofs.TellKeeps.{node_before}
use Rattle.tap_moves.specs.ByRule.{taken_at}
use Rattle.tap_moves.specs.CalmMoves.{AreSought}
use Rattle.tap_moves.specs.Delivered.{after_delivery, after_start}
use Rattle.tap_moves.specs.InvariantLaws.{IsDelivery}
use Rattle.tap_moves.specs.KnownNames.{AreNodes}
use Rattle.tap_moves.proofs.InvariantMoves.{due, sender_name}
use Rattle.tap_moves.proofs.MovesMade.{by_rule}
use Rattle.tap_moves.proofs.NoticeMoves.{notice_joins}
use Rattle.tap_moves.proofs.StartMoves.{start_joins}
use Rattle.tap_moves.specs.PartMoves.{HaveSessions, HaveTables, LeavingSeeks, LeavingSessions, LeavingTables, NoticeSeeks, NoticeSessions, NoticeTables}
use Rattle.tap_moves.proofs.GoneKept.{gone_tables, still_departing as gone_departing}
use Rattle.tap_moves.proofs.HasLeft.{has_left_tables, still_departing as left_departing}
use Rattle.tap_moves.proofs.LeaveKept.{leave_tables, still_departing as leave_departing}
use Rattle.tap_moves.proofs.LeftKept.{left_tables, still_departing as waits_departing}
use Rattle.tap_moves.proofs.NobodyJoins.{no_joiner, sessions_now, sought_now}
use Rattle.tap_moves.proofs.DepartureMoves.{gone_taken, gone_unruled, is_core_or_not, leave_core, leave_taken, left_during, left_end, left_has_left, left_said, left_step, left_waits, sender_apart, who_departs}
use Rattle.tap_moves.proofs.StartKept.{starts_tables, still_departing as starts_departing}
use Rattle.tap_moves.proofs.LeaveStarts.{changes, ends as leaver_ends, has_left, law, leaver_of, starts_leaving, step as leaver_step, ties as leaver_ties}

-- ---- what the node keeps of sessions and covers

-- it has the sessions of joins that it had, and no other cover
record IsHeld (node after : NodeState) : Type 0 where
  sessions : after.sessions ≡ node.sessions
  covers : (b : List ℕ) (level : ℕ) → level_kept after.covers b ≡ Some level → level_kept node.covers b ≡ Some level

-- if both are as they were
held_so : (node after : NodeState) → after.sessions ≡ node.sessions → after.covers ≡ node.covers → IsHeld node after
held_so node after sessions covers =
    record { sessions = sessions; covers = λ b level kept. ap (λ c. level_kept c b) (sym covers) ∙ kept }

-- a node that has ended covers nobody
held_ended : (node after : NodeState) → after.sessions ≡ node.sessions → after.covers ≡ [] → IsHeld node after
held_ended node after sessions covers = record {
  sessions = sessions;
  covers = λ b level kept.
      let wrong : None ≡ Some level = ap (λ (c : CoversValue). level_kept c b) (sym covers) ∙ kept in cc;
}

-- ---- a step while somebody departs

module _ (p : SettingsValue) (s s' : System) (x : List ℕ) (node after : NodeState) (inv : Basis p s) (at : ChangesAt s s' x node after)
    (held : IsHeld node after) (nobody : (y : List ℕ) → IsJoiner s y → ⊥) (leaver : Leaver) (during : WhileDeparting s' leaver) where
  -- no node keeps a session, since it would be a joiner's
  none_kept : (y : List ℕ) (k : ℕ) (state : NodeState) (session : Session) → s'.node y ≡ Some state
      → join_session_at state k ≡ Some session → ⊥
  none_kept y k state session is has =
      elim (node_before s s' x node after at y state is) [
        | inr there ↦
            let opened = inv.counted.open_at y k state session there has in
            nobody opened.0.joiner (inv.of_joiners.opened y k opened.0 opened.1)
        | inl here ↦
            let was : join_session_at node k ≡ Some session =
            ap (λ (o : SessionsValue). session_of o.sessions k) (sym held.sessions)
            ∙ ap (λ (n : NodeState). join_session_at n k) (sym here.1) ∙ has in
            let opened = inv.counted.open_at y k node session here.2 was in
            nobody opened.0.joiner (inv.of_joiners.opened y k opened.0 opened.1)
      ]

  sessions_after : AreNumbered s' → AreOfJoiners s' → HaveSessions s'
  sessions_after numbers joiners = sessions_now p s' leaver during numbers joiners none_kept

  node_on : (b : List ℕ) → HasNode s b → HasNode s' b
  node_on b has =
      elim (at.others b) [
        | inl here ↦ record { state = after; is = ap s'.node here ∙ at.is }
        | inr same ↦ record { state = has.state; is = same ∙ has.is }
      ]

  cover_was : (y b : List ℕ) (level : ℕ) → CoversAt s' y b level → CoversAt s y b level
  cover_was y b level covers =
      elim (node_before s s' x node after at y covers.state covers.is) [
        | inr there ↦ record { state = covers.state; is = there; cover = covers.cover }
        | inl here ↦ record {
          state = node;
          is = here.2;
          cover = held.covers b level (ap (λ (n : NodeState). level_kept n.covers b) (sym here.1) ∙ covers.cover);
        }
      ]

  sought_after : AreSought p s'
  sought_after =
      sought_now p s' leaver during
      (λ y b level covers. node_on b (inv.seeking.covers y b level (cover_was y b level covers)))

-- ---- by notices

module _ (p : SettingsValue) (s : System) (number : ℕ) (node : NodeState) (from : List ℕ) where
  abbrev after : System
  after = after_delivery p s number

  -- a Gone
  module _ (is : IsDelivery p s number node from Gone) where
    gone_held : IsHeld node (taken_at node from Gone).state
    gone_held = elim (is_core_or_not node.status) [
      | inl at ↦
          let ties = (due p s number node from Gone is).is_node.ties in
          let step = gone_law node from ties (sender_name p s number node from Gone is) at is.known in
          held_so node (taken_at node from Gone).state step.sessions step.joins.covers
      | inr other ↦
          let ignored = unruled_law node (frame_to node from Gone) (gone_unruled node.status node from other) in
          held_so node (taken_at node from Gone).state (ap (λ (n : NodeState). n.sessions) ignored.state)
          (ap (λ (n : NodeState). n.covers) ignored.state)
    ]

    gone_during : (leaver : Leaver) × WhileDeparting after leaver
    gone_during =
        let who = who_departs p s number node from Gone is tt in
        let inv = is.invariant in (
          who.0,
          gone_departing s after number from (name_of node) (gone_taken p s number node from is) (until_rest_law p s number) who.0
              who.1 inv.departure inv.notices inv.soft,
        )

    gone_have : AreFilled p s → HaveTables p after
    gone_have filled =
        let who = who_departs p s number node from Gone is tt in
        let inv = is.invariant in
        gone_tables s after number from (name_of node) (gone_taken p s number node from is) (until_rest_law p s number) who.0 who.1
        inv.departure inv.notices inv.soft p filled.hole_free inv.has_core inv.ended

  -- a Leave
  module _ (replacement : Option (List ℕ)) (is : IsDelivery p s number node from (Leave replacement)) where
    leave_held : IsHeld node (taken_at node from (Leave replacement)).state
    leave_held =
        let step = leave_law node from replacement (leave_core p s number node from replacement is) is.known in
        held_so node (taken_at node from (Leave replacement)).state step.sessions step.joins.covers

    leave_during : (leaver : Leaver) × WhileDeparting after leaver
    leave_during =
        let who = who_departs p s number node from (Leave replacement) is tt in
        let inv = is.invariant in (
          who.0,
          leave_departing s after number from (name_of node) replacement (leave_taken p s number node from replacement is)
              (until_rest_law p s number) who.0 who.1 inv.departure inv.notices inv.soft inv.numbered inv.ends,
        )

    leave_have : AreFilled p s → HaveTables p after
    leave_have filled =
        let who = who_departs p s number node from (Leave replacement) is tt in
        let inv = is.invariant in
        leave_tables s after number from (name_of node) replacement (leave_taken p s number node from replacement is)
        (until_rest_law p s number) who.0 who.1 inv.departure inv.notices inv.soft inv.numbered inv.ends p filled.hole_free
        inv.has_core inv.ended

  -- a Left
  module _ (is : IsDelivery p s number node from Left) where
    left_held : IsHeld node (taken_at node from Left).state
    left_held = elim (cases_eq (length (names_but node.awaited from)) 0) [
      | inl last ↦
          let end = left_end p s number node from is last in
          held_ended node (taken_at node from Left).state end.sessions end.emptied.covers
      | inr others ↦
          let step = (left_step p s number node from is).waits others in
          held_so node (taken_at node from Left).state step.2 step.0.covers
    ]

    left_goes : (leaver : Leaver) × WhileDeparting after leaver
    left_goes =
        let who = who_departs p s number node from Left is tt in
        let inv = is.invariant in
        elim (cases_eq (length (names_but node.awaited from)) 0) [
          | inl last ↦
              (who.0, left_departing s after who.0 node (taken_at node from Left).state (left_has_left p s number node from is last))
          | inr others ↦ (
            who.0,
            waits_departing s after number from (name_of node) (left_waits p s number node from is others)
                (until_rest_law p s number) who.0 who.1 inv.departure inv.notices inv.numbered,
          )
        ]

    -- whoever answers is core: its link to the leaver is marked
    sender_core : IsCoreNode s from
    sender_core =
        let link = (left_said p s number node from is).1.marked in
        by link link.state.status refl
      where
        by : (link : HasLink s from (name_of node) LeavingKind) → (status : Status) → link.state.status ≡ status → IsCoreNode s from
        by link Core at = record { state = link.state; is = link.is; core = inl at }
        by link Joining at =
            absurd ((left_during p s number node from is).joining from (status_seen s from link.state Joining link.is at))
        by link Leaving at =
            let here = (left_during p s number node from is).leaving from (status_seen s from link.state Leaving link.is at) in
            absurd (sender_apart p s number node from Left is tt (here ∙ sym (left_said p s number node from is).0))
        by link GoneStatus at =
            absurd ((is.invariant.ended.none from (name_of node) LeavingKind link).0 (status_seen s from link.state GoneStatus link.is at))
        by link Ceased at =
            absurd ((is.invariant.ended.none from (name_of node) LeavingKind link).1 (status_seen s from link.state Ceased link.is at))

    left_have : AreFilled p s → HaveTables p after
    left_have filled =
        let who = who_departs p s number node from Left is tt in
        let inv = is.invariant in
        elim (cases_eq (length (names_but node.awaited from)) 0) [
          | inl last ↦
              has_left_tables s after who.0 node (taken_at node from Left).state (left_has_left p s number node from is last) p from
              (λ here. sender_apart p s number node from Left is tt (here ∙ sym (left_said p s number node from is).0)) sender_core
              inv.soft filled.hole_free inv.ended
          | inr others ↦
              left_tables s after number from (name_of node) (left_waits p s number node from is others) (until_rest_law p s number) who.0
              who.1 inv.departure inv.notices inv.numbered p inv.soft filled.hole_free inv.has_core inv.ended
        ]

-- after each notice the node keeps these
notice_held : (p : SettingsValue) (s : System) (number : ℕ) (node : NodeState) (from : List ℕ) (body : Body)
    → IsDelivery p s number node from body → IsNotice body → IsHeld node (taken_at node from body).state
notice_held p s number node from (Leave replacement) is notice = leave_held p s number node from replacement is
notice_held p s number node from Left is notice = left_held p s number node from is
notice_held p s number node from Gone is notice = gone_held p s number node from is
notice_held p s number node from _ is notice = absurd notice

-- what is so while a node departs is so after a notice, also if it was the last frame under way
pub notice_during : (p : SettingsValue) (s : System) (number : ℕ) (node : NodeState) (from : List ℕ) (body : Body)
    → IsDelivery p s number node from body → IsNotice body → (leaver : Leaver) × WhileDeparting (after_delivery p s number) leaver
notice_during p s number node from (Leave replacement) is notice = leave_during p s number node from replacement is
notice_during p s number node from Left is notice = left_goes p s number node from is
notice_during p s number node from Gone is notice = gone_during p s number node from is
notice_during p s number node from _ is notice = absurd notice

-- nobody joined before a notice
nobody_before : (p : SettingsValue) (s : System) (number : ℕ) (node : NodeState) (from : List ℕ) (body : Body)
    → IsDelivery p s number node from body → IsNotice body → (b : List ℕ) → IsJoiner s b → ⊥
nobody_before p s number node from body is notice =
    let who = who_departs p s number node from body is notice in
    no_joiner p s who.0 (is.invariant.departure.during who.0 who.1)

-- ---- the laws

pub notice_tables : NoticeTables
notice_tables p s number node from (Leave replacement) is filled notice = leave_have p s number node from replacement is filled
notice_tables p s number node from Left is filled notice = left_have p s number node from is filled
notice_tables p s number node from Gone is filled notice = gone_have p s number node from is filled
notice_tables p s number node from _ is filled notice = absurd notice

pub notice_sessions : NoticeSessions
notice_sessions p s number node from body is notice =
    let s' = after_delivery p s number in
    let made = by_rule p s number node from body (due p s number node from body is) in
    let during = notice_during p s number node from body is notice in
    sessions_after p s s' (name_of node) node (taken_at node from body).state is.invariant made.at
    (notice_held p s number node from body is notice) (nobody_before p s number node from body is notice) during.0 during.1
    (numbers_taken s s' number (frame_to node from body) (taken_at node from body).sent made.taken is.invariant.numbered)
    (notice_joins p s number node from body is notice).of_joiners

pub notice_seeks : NoticeSeeks
notice_seeks p s number node from body is notice =
    let s' = after_delivery p s number in
    let made = by_rule p s number node from body (due p s number node from body is) in
    let during = notice_during p s number node from body is notice in
    sought_after p s s' (name_of node) node (taken_at node from body).state is.invariant made.at
    (notice_held p s number node from body is notice) (nobody_before p s number node from body is notice) during.0 during.1

-- ---- by the start of a departure

module _ (p : SettingsValue) (s : System) (x : List ℕ) (inv : Invariant p s) (nodes : AreNodes p s) (may : MayLeave s x) where
  abbrev leaving : NodeState
  leaving = may.acts.state

  abbrev left : System
  left = after_start p s x StartLeave

  abbrev left_state : NodeState
  left_state = (act leaving (Starts StartLeave)).state

  starts_held : IsHeld leaving left_state
  starts_held = elim (cases_eq (length (holders_on leaving.ties)) 0) [
    | inl none ↦
        let end = leaver_ends p s x inv nodes may none in
        held_ended leaving left_state end.sessions end.emptied.covers
    | inr some ↦
        let waits = (law p s x inv nodes may).waits some in
        held_so leaving left_state waits.2 waits.5
  ]

  starts_during : WhileDeparting left (leaver_of x leaving)
  starts_during = elim (cases_eq (length (holders_on leaving.ties)) 0) [
    | inl none ↦ left_departing s left (leaver_of x leaving) leaving left_state (has_left p s x inv nodes may none)
    | inr some ↦
        starts_departing s left (leaver_of x leaving) leaving left_state (replacement_for leaving.ties.table)
        (starts_leaving p s x inv nodes may some)
  ]

  -- a replacement is a settled link of the leaver
  given_core : (a r : List ℕ) → replacement_for leaving.ties.table a ≡ Some r → IsCoreNode s r
  given_core a r given =
      let ties = leaver_ties p s x inv nodes may in
      let least = least_above_is leaving.ties.table ties.table (lcp a (name_of leaving)) r given in
      inv.basis.soft.settled x r (record { state = leaving; is = may.acts.is; link = least.settled })

  starts_have : HaveTables p left
  starts_have = elim (cases_eq (length (holders_on leaving.ties)) 0) [
    | inl none ↦
        has_left_tables s left (leaver_of x leaving) leaving left_state (has_left p s x inv nodes may none) p may.other may.apart may.stays
        inv.basis.soft inv.filled.hole_free inv.basis.ended
    | inr some ↦
        starts_tables s left (leaver_of x leaving) leaving left_state (replacement_for leaving.ties.table)
        (starts_leaving p s x inv nodes may some) p inv.basis.soft given_core inv.filled.hole_free inv.basis.has_core inv.basis.ended
  ]

  -- nobody joins at rest
  nobody_then : (b : List ℕ) → IsJoiner s b → ⊥
  nobody_then b joiner =
      (rest_holds p s inv.basis may.rest).joining b (status_seen s b joiner.state Joining joiner.is joiner.joining)

  starts_sessions : HaveSessions left
  starts_sessions =
      let step = leaver_step p s x inv nodes may in
      sessions_after p s left x leaving left_state inv.basis (changes p s x inv nodes may) starts_held nobody_then (leaver_of x leaving)
      starts_during (numbers_sent s left (act leaving (Starts StartLeave)).sent step.sent inv.basis.numbered)
      (start_joins p s x StartLeave inv.basis may).of_joiners

  starts_sought : AreSought p left
  starts_sought =
      sought_after p s left x leaving left_state inv.basis (changes p s x inv nodes may) starts_held nobody_then (leaver_of x leaving)
      starts_during

-- and it is so after the start of a departure, also if the node ends at once
pub leaving_during : (p : SettingsValue) (s : System) (x : List ℕ) (inv : Invariant p s) (nodes : AreNodes p s) (may : MayLeave s x)
    → WhileDeparting (after_start p s x StartLeave) (leaver_of x may.acts.state)
leaving_during p s x inv nodes may = starts_during p s x inv nodes may

pub leaving_tables : LeavingTables
leaving_tables p s x inv nodes may = starts_have p s x inv nodes may

pub leaving_sessions : LeavingSessions
leaving_sessions p s x inv nodes may = starts_sessions p s x inv nodes may

pub leaving_seeks : LeavingSeeks
leaving_seeks p s x inv nodes may = starts_sought p s x inv nodes may
