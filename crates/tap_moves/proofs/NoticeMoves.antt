-- What the notices of a departure keep of the sessions of joins: they belong to none, and end no join.
-- Cited above: notice_few
use Rattle.std.proofs.Common.{◌≡◌, ◌⊎◌, ◌==◌, ℕ, Bool, true, false, cond, List, [], length, Option, None, Some, arith, ap, refl, sym, subst, ◌∙◌, inl, inr}
use Rattle.tap_name.specs.Settings.{SettingsValue}
use Rattle.tap_session.specs.Session.{SessionsValue}
use Rattle.tap_depart.specs.Leaving.{names_but}
use Rattle.tap_table.specs.Ties.{holders_on}
use Rattle.tap_wire.specs.declared.frame.Body.{Body}
use Rattle.tap_wire.specs.declared.frame.Body.TheVariants.{Ack, Done, Gone, Heard, Leave, Left}
use Rattle.tap_wire.specs.declared.frame.Frame.{Frame}
use Rattle.tap_rule.specs.FrameRules.{frame_at_ceased, frame_at_core, frame_at_joining, frame_at_leaving, rule_of_frame}
use Rattle.tap_rule.specs.RuleLaws.{frame_to}
use Rattle.tap_rule.specs.Leaving.{finishes}
use Rattle.tap_rule.specs.Event.{Acted}
use Rattle.tap_rule.specs.Node.{NodeState, Status, name_of}
use Rattle.tap_rule.specs.Node.Status.{Ceased, Core, Gone as GoneStatus, Joining, Leaving}
use Rattle.tap_rule.specs.Reaction.{Message, Reaction, message, sends, to_each}
use Rattle.tap_rule.specs.Sent.{IsAmong}
use Rattle.tap_rule.specs.Strange.{is_strange}
use Rattle.tap_rule.proofs.Among.{among-map_from}
use Rattle.tap_rule.proofs.CarriedOut.{frame_law, unruled_law}
use Rattle.tap_safety.specs.Bookkeeping.{holds_sessions}
use Rattle.tap_safety.specs.FewSessions.{SessionsAreFew}
use Rattle.tap_safety.specs.Joins.{JoinersStay}
use Rattle.tap_safety.specs.Notices.{IsNotice}
use Rattle.tap_safety.specs.SessionSteps.{LeavesSessions}
use Rattle.tap_safety.specs.Sessions.{Belongs, session_named}
use Rattle.tap_safety.specs.Exchanges.{IsSent}
use Rattle.tap_safety.specs.System.{System}
use Rattle.tap_safety.specs.Turned.{closed_by}
use Rattle.tap_safety.proofs.FewSessions.{few_sessions_kept}
use Rattle.tap_safety.proofs.Said.{Said, said_of}
use Rattle.tap_safety.proofs.Said.Said.{IsAck, IsHeard, IsHello, IsTell}
use Rattle.tap_moves.specs.ByRule.{taken_at}
use Rattle.tap_moves.specs.Delivered.{after_delivery}
use Rattle.tap_moves.specs.InvariantLaws.{IsDelivery}
use Rattle.tap_moves.proofs.InSession.{sent_in}
use Rattle.tap_moves.proofs.InvariantMoves.{before_taking, due}
use Rattle.tap_moves.proofs.MovesMade.{by_rule, remembers, starts_none_as}
use Rattle.tap_moves.proofs.SessionsMade.{leaves_sessions}
use Rattle.tap_moves.specs.FewMoves.{NoticeFew}
use Rattle.tap_moves.specs.JoinMoves.{HaveJoiners, NoticeJoins}
use Rattle.tap_moves.proofs.FewMoves.{as_many, same_most}
use Rattle.tap_moves.proofs.JoinMoves.{IsNoDone, dones_stay, joiners_stay, no_done_sent}
use Rattle.tap_moves.proofs.LeavesJoins.{joins_others_law}

-- a notice is of no session, closes none, and is no Done
notice_named : {body : Body} → Said body → (from to : List ℕ) → IsNotice body → ◌≡◌ {A = Option (List ℕ × ℕ)} (session_named body from to) None
notice_named (IsTell tell watch) from to is = absurd is
notice_named (IsHello hello) from to is = absurd is
notice_named (IsHeard session) from to is = absurd is
notice_named (IsAck session) from to is = absurd is
notice_named _ from to is = refl

notice_closes : (body : Body) (after : NodeState) → IsNotice body → closed_by body after ≡ None
notice_closes (Heard session) after is = absurd is
notice_closes (Ack session) after is = absurd is
notice_closes other after is = refl

notice_no_done : (body : Body) → IsNotice body → IsNoDone body
notice_no_done Done is = absurd is
notice_no_done _ is = tt

-- it leaves the node what it is, but that a leaving one may be gone then; and it has notices sent alone
record IsHeeded (node after : NodeState) : Type 0 where
  status : ((after.status ≡ node.status) × (after.covers ≡ node.covers) × (after.greeted ≡ node.greeted))
      ⊎ ((node.status ≡ Leaving) × (after.status ≡ GoneStatus))
  opened : after.sessions.opened ≡ node.sessions.opened

abbrev HeedsBy : NodeState → Option Reaction → Type 0
HeedsBy node None = Unit {0}
HeedsBy node (Some r) = IsHeeded node r.state × ((m : Message) → IsAmong m r.messages → IsNotice m.body)

as_it_was : (node after : NodeState) → after.status ≡ node.status → after.covers ≡ node.covers → after.greeted ≡ node.greeted
    → after.sessions.opened ≡ node.sessions.opened → IsHeeded node after
as_it_was node after status covers greeted opened = record { status = inl (status, covers, greeted); opened = opened }

leave_heeds : (status : Status) (node : NodeState) (from : List ℕ) (replacement : Option (List ℕ))
    → HeedsBy node (rule_of_frame status node from (Leave replacement))
unfolding frame_at_joining frame_at_core frame_at_leaving frame_at_ceased
leave_heeds Joining node from replacement = tt
leave_heeds Core node from replacement = (
  as_it_was node _ refl refl refl refl,
  λ m among. elim among [ inl same ↦ subst (λ (n : Message). IsNotice n.body) (sym same) tt | inr never ↦ absurd never ],
)
leave_heeds Leaving node from replacement = tt
leave_heeds GoneStatus node from replacement = tt
leave_heeds Ceased node from replacement = tt

gone_heeds : (status : Status) (node : NodeState) (from : List ℕ) → HeedsBy node (rule_of_frame status node from Gone)
unfolding frame_at_joining frame_at_core frame_at_leaving frame_at_ceased
gone_heeds Joining node from = tt
gone_heeds Core node from = (as_it_was node _ refl refl refl refl, λ m among. absurd among)
gone_heeds Leaving node from = tt
gone_heeds GoneStatus node from = tt
gone_heeds Ceased node from = tt

farewells : (names : List (List ℕ)) (m : Message) → IsAmong m (to_each Gone names) → IsNotice m.body
farewells names m among =
    let found = among-map_from (λ name. message name Gone) m names among in
    subst (λ (n : Message). IsNotice n.body) (sym found.2) tt

left_as : (node after : NodeState) (last : Bool) → node.status ≡ Leaving → after.status ≡ node.status → after.covers ≡ node.covers
    → after.greeted ≡ node.greeted → after.sessions ≡ node.sessions
    → HeedsBy node (Some (cond last (finishes after) (sends after [])))
left_as node after true at status covers greeted sessions =
    (record { status = inr (at, refl); opened = ap (λ (o : SessionsValue). o.opened) sessions }, farewells (holders_on after.ties))
left_as node after false at status covers greeted sessions =
    (as_it_was node after status covers greeted (ap (λ (o : SessionsValue). o.opened) sessions), λ m among. absurd among)

left_heeds : (status : Status) (node : NodeState) (from : List ℕ) → node.status ≡ status
    → HeedsBy node (rule_of_frame status node from Left)
unfolding frame_at_joining frame_at_core frame_at_leaving frame_at_ceased
left_heeds Joining node from at = tt
left_heeds Core node from at = tt
left_heeds Leaving node from at =
    left_as node (record node { awaited = names_but node.awaited from }) (length (names_but node.awaited from) == 0) at refl refl refl refl
left_heeds GoneStatus node from at = tt
left_heeds Ceased node from at = tt

notice_heeds : (node : NodeState) (from : List ℕ) (body : Body) → IsNotice body → HeedsBy node (rule_of_frame node.status node from body)
notice_heeds node from (Leave replacement) is = leave_heeds node.status node from replacement
notice_heeds node from Left is = left_heeds node.status node from refl
notice_heeds node from Gone is = gone_heeds node.status node from
notice_heeds node from _ is = absurd is

-- so it is after the step
record TakesNotice (node : NodeState) (acted : Acted) : Type 0 where
  state : IsHeeded node acted.state
  aside : (f : Frame) (y : List ℕ) (k : ℕ) → IsAmong f acted.sent → Belongs f y k → ⊥
  sent : (from to : List ℕ) (body : Body) → IsSent acted.sent from to body → IsNoDone body

takes_notice : (node : NodeState) (from : List ℕ) (body : Body) → is_strange node (frame_to node from body) ≡ false → IsNotice body
    → TakesNotice node (taken_at node from body)
takes_notice node from body known is = step (rule_of_frame node.status node from body) refl (notice_heeds node from body is)
  where
    step : (rule : Option Reaction) → rule_of_frame node.status node from body ≡ rule → HeedsBy node rule
        → TakesNotice node (taken_at node from body)
    step None same by =
        let ignored = unruled_law node (frame_to node from body) same in
        record {
          state = subst (IsHeeded node) (sym ignored.state) (as_it_was node node refl refl refl refl);
          aside = λ f y k among belongs. let nothing : IsAmong f [] = rw ignored.sent at among in absurd nothing;
          sent = λ w to b among. let nothing : IsSent [] w to b = subst (λ sent. IsSent sent w to b) ignored.sent among in absurd nothing;
        }
    step (Some r) same by =
        let carried = frame_law node (frame_to node from body) r known same in
        record {
          state = record {
            status = elim by.0.status [
              | inl stays ↦ inl (carried.status ∙ stays.0, carried.covers ∙ stays.1, carried.greeted ∙ stays.2)
              | inr goes ↦ inr (goes.0, carried.status ∙ goes.1)
            ];
            opened = ap (λ (o : SessionsValue). o.opened) carried.sessions ∙ by.0.opened;
          };
          aside = λ f y k among belongs.
              let found = sent_in (name_of node) r.words r.messages (taken_at node from body).sent carried.sent f y k among belongs in
              let none = notice_named (said_of found.0.body) (name_of node) found.0.to (by.1 found.0 found.1) in
              let wrong : ◌≡◌ {A = Option (List ℕ × ℕ)} None (Some (y, k)) = sym none ∙ found.2 in
              absurd (cc);
          sent =
              no_done_sent (name_of node) r.words r.messages (taken_at node from body).sent carried.sent
              (λ m among. notice_no_done m.body (by.1 m among));
        }

module _ (p : SettingsValue) (s : System) (number : ℕ) (node : NodeState) (from : List ℕ) (body : Body)
    (is : IsDelivery p s number node from body) (notice : IsNotice body) where
  abbrev after : System
  after = after_delivery p s number

  taken : TakesNotice node (taken_at node from body)
  taken = takes_notice node from body is.known notice

  leaves : LeavesSessions s after
  leaves =
      let here = due p s number node from body is in
      leaves_sessions s after number node from body (before_taking p s is.invariant) (by_rule p s number node from body here)
      (remembers p s number node from body here) taken.state.opened (notice_named (said_of body) from (name_of node) notice)
      (notice_closes body (taken_at node from body).state notice) taken.aside

  -- a leaving node, and one that is gone, is no joiner
  stay : JoinersStay s after
  stay =
      let here = due p s number node from body is in
      let at = (by_rule p s number node from body here).at in
      let none = starts_none_as p s number node from body here taken.state.opened in
      elim taken.state.status [
        | inl same ↦ joiners_stay s after (name_of node) node (taken_at node from body).state at same.0 none
        | inr ends ↦ record {
          on = λ b joins. elim (at.others b) [
            | inl mine ↦
                let was = joins.is in
                let there : s.node b ≡ Some node = ap s.node mine ∙ at.was in
                let same : joins.state ≡ node = cc in
                let wrong : Joining ≡ Leaving = sym joins.joining ∙ ap (λ (n : NodeState). n.status) same ∙ ends.0 in
                absurd (cc)
            | inr same ↦ record {
              state = joins.state;
              is = same ∙ joins.is;
              joining = joins.joining;
              surrogate = joins.surrogate;
              started = none b ∙ joins.started;
            }
          ];
          was = λ b joins. elim (at.others b) [
            | inl mine ↦
                let now = joins.is in
                let there : after.node b ≡ Some (taken_at node from body).state = ap after.node mine ∙ at.is in
                let same : joins.state ≡ (taken_at node from body).state = cc in
                let wrong : Joining ≡ GoneStatus = sym joins.joining ∙ ap (λ (n : NodeState). n.status) same ∙ ends.1 in
                absurd (cc)
            | inr same ↦ record {
              state = joins.state;
              is = sym same ∙ joins.is;
              joining = joins.joining;
              surrogate = joins.surrogate;
              started = sym (none b) ∙ joins.started;
            }
          ];
          surrogates = λ b joins. none b;
        }
      ]

  joins : HaveJoiners after
  joins =
      let keeps = joins_others_law s after leaves stay
      (dones_stay p s number node from body is (λ done. subst IsNotice done notice) taken.sent) in
      record { of_joiners = keeps.0 is.invariant.of_joiners; ends_once = keeps.1 is.invariant.ends_once }

  -- a leaving node has no session open
  few : SessionsAreFew p s → SessionsAreFew p after
  few before =
      let here = due p s number node from body is in
      let at = (by_rule p s number node from body here).at in
      few_sessions_kept p s after
      (λ y b k of. record { session = of.session; is = sym (leaves.sessions y k) ∙ of.is; joiner = of.joiner })
      (elim taken.state.status [
        | inl same ↦
            as_many p s after (name_of node) node (taken_at node from body).state at
            (same_most p node (taken_at node from body).state same.0 same.1 same.2)
        | inr ends ↦
            λ y b now there. elim (at.others y) [
              | inl mine ↦ inl (λ k of.
                  let place = is.invariant.places.places y k of.session (sym (leaves.sessions y k) ∙ of.is) in
                  let was = place.is in
                  let mine_is : s.node y ≡ Some node = ap s.node mine ∙ at.was in
                  let same : place.state ≡ node = cc in
                  subst holds_sessions (ap (λ (n : NodeState). n.status) same ∙ ends.0) place.holds)
              | inr stays ↦ inr (now, sym stays ∙ there, omega arith)
            ]
      ]) before

pub notice_joins : NoticeJoins
notice_joins p s number node from body is notice = joins p s number node from body is notice

pub notice_few : NoticeFew
notice_few p s number node from body is notice before = few p s number node from body is notice before
