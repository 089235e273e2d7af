-- Whose the sessions of joins are, and the one end of each join, once a node has started something.
use Rattle.std.proofs.Common.{◌≡◌, ℕ, List, [], ◌∷◌, length, map, Option, None, Some, ap, refl, sym, subst, ◌∙◌, inl, inr}
use Rattle.std.proofs.lemmas.Bool.{cases_eq}
use Rattle.tap_name.specs.Settings.{SettingsValue}
use Rattle.tap_wire.specs.declared.frame.Body.{Body}
use Rattle.tap_depart.specs.Leaving.{started_leaving}
use Rattle.tap_depart.specs.declared.notice.Notice.{Notice}
use Rattle.tap_table.specs.ByName.{targets_by_name}
use Rattle.tap_table.specs.Ties.{holders_on, off_ties}
use Rattle.tap_wire.specs.declared.frame.Body.TheVariants.{Done, Gone, Seek}
use Rattle.tap_wire.specs.declared.frame.Frame.{Frame}
use Rattle.tap_rule.specs.Act.{act}
use Rattle.tap_rule.specs.Event.{Acted, Start}
use Rattle.tap_rule.specs.Event.Event.{Starts}
use Rattle.tap_rule.specs.Event.Start.{Abandon, Cast, Find, Join, Leave, Publish, Withdraw}
use Rattle.tap_rule.specs.Leaving.{leave_for}
use Rattle.tap_rule.specs.Node.{NodeState, joiner, name_of}
use Rattle.tap_rule.specs.Node.Status.{Core, Gone as GoneStatus, Joining, Leaving}
use Rattle.tap_rule.specs.QuietSteps.{IsQuietStart}
use Rattle.tap_rule.specs.Reaction.{Message, message, to_each}
use Rattle.tap_rule.specs.Sending.{message_frame}
use Rattle.tap_rule.specs.Sent.{IsAmong}
use Rattle.tap_rule.proofs.Among.{among-map_from}
use Rattle.tap_rule.proofs.QuietSteps.{quiet_start_law}
use Rattle.tap_rule.proofs.StartSteps.{give_up_law, leave_start_law, seek_start_law}
use Rattle.tap_safety.specs.Invariant.{Basis}
use Rattle.tap_safety.specs.Joins.{JoinersStay}
use Rattle.tap_safety.specs.Moved.{starter}
use Rattle.tap_safety.specs.Sessions.{Belongs}
use Rattle.tap_safety.specs.SessionSteps.{LeavesSessions}
use Rattle.tap_safety.specs.Exchanges.{AreNumbered, HasSent, IsSent, numbered_from}
use Rattle.tap_safety.specs.System.{System}
use Rattle.tap_safety.proofs.Moved.{ascend_one, numbers_sent, starts}
use Rattle.tap_safety.proofs.Said.{said_of}
use Rattle.tap_moves.specs.Delivered.{after_start}
use Rattle.tap_moves.proofs.Exchanged.{in_either, in_first, sent_numbered}
use Rattle.tap_moves.proofs.InSession.{sent_in}
use Rattle.tap_moves.proofs.OutsideMade.{quiet_none, seek_none}
use Rattle.tap_moves.specs.JoinMoves.{DonesStay, HaveJoiners, StartJoins}
use Rattle.tap_moves.proofs.JoinMoves.{IsNoDone, joiners_stay, no_done_sent, none_among, one_no_done, quiet_no_done}
use Rattle.tap_moves.proofs.LeavesJoins.{joins_others_law}

-- what comes belongs to no session: the sessions are left alone
pub sent_aside : (s s' : System) (sent : List Frame) → HasSent s s' sent → AreNumbered s
    → ((y : List ℕ) (k : ℕ) → s'.session y k ≡ s.session y k)
    → ((f : Frame) (y : List ℕ) (k : ℕ) → IsAmong f sent → Belongs f y k → ⊥) → LeavesSessions s s'
sent_aside s s' sent has are sessions none =
    let numbers = numbers_sent s s' sent has are in
    record {
      sessions = sessions;
      still = λ m f y k among belongs. rw has.after (in_first m f s.frames (numbered_from s.next sent) among);
      was = λ m f y k among belongs. elim (in_either m f s.frames (numbered_from s.next sent) (rw has.after at among)) [
        | inl old ↦ old
        | inr comes ↦ absurd (none f y k (sent_numbered m f s.next sent comes) belongs)
      ];
      is_one = λ m g other one two. ascend_one 0 s'.frames s'.next m g other numbers.numbers one two;
    }

-- the Dones stay if none is sent
sent_no_done : (s s' : System) (sent : List Frame) → HasSent s s' sent
    → ((from to : List ℕ) (body : Body) → IsSent sent from to body → IsNoDone body) → DonesStay s s'
sent_no_done s s' sent has none = record {
  on = λ w b m among.
      rw has.after (in_first m (record { from = w; to = b; body = Done }) s.frames (numbered_from s.next sent) among);
  was = λ w b m among.
      elim (in_either m (record { from = w; to = b; body = Done }) s.frames (numbered_from s.next sent) (rw has.after at among)) [
        | inl old ↦ old
        | inr comes ↦ absurd (none_among s.next sent none m w b comes)
      ];
}

-- a start that leaves sessions, joiners and Dones
started_joins : (s s' : System) (sent : List Frame) → HasSent s s' sent → AreNumbered s
    → ((y : List ℕ) (k : ℕ) → s'.session y k ≡ s.session y k)
    → ((f : Frame) (y : List ℕ) (k : ℕ) → IsAmong f sent → Belongs f y k → ⊥)
    → ((from to : List ℕ) (body : Body) → IsSent sent from to body → IsNoDone body) → JoinersStay s s' → HaveJoiners s → HaveJoiners s'
started_joins s s' sent has are sessions aside none stay have =
    let keeps = joins_others_law s s' (sent_aside s s' sent has are sessions aside) stay (sent_no_done s s' sent has none) in
    record { of_joiners = keeps.0 have.of_joiners; ends_once = keeps.1 have.ends_once }

have_of : (p : SettingsValue) (s : System) → Basis p s → HaveJoiners s
have_of p s inv = record { of_joiners = inv.of_joiners; ends_once = inv.ends_once }

-- a node that is there starts something, and keeps its status
there_joins : (p : SettingsValue) (s : System) (x : List ℕ) (start : Start) (node : NodeState) → Basis p s → s.node x ≡ Some node
    → starter p s x start ≡ Some node → (act node (Starts start)).state.status ≡ node.status
    → ((f : Frame) (y : List ℕ) (k : ℕ) → IsAmong f (act node (Starts start)).sent → Belongs f y k → ⊥)
    → ((from to : List ℕ) (body : Body) → IsSent (act node (Starts start)).sent from to body → IsNoDone body)
    → HaveJoiners (after_start p s x start)
there_joins p s x start node inv at is status aside none =
    let s' = after_start p s x start in
    let step = starts p s x start node is in
    started_joins s s' (act node (Starts start)).sent step.sent inv.numbered step.session aside none
    (joiners_stay s s' x node (act node (Starts start)).state (record { was = at; is = step.done.is; others = step.done.others }) status
    step.surrogate) (have_of p s inv)

quiet_joins : (p : SettingsValue) (s : System) (x : List ℕ) (start : Start) (node : NodeState) → Basis p s → s.node x ≡ Some node
    → starter p s x start ≡ Some node → IsQuietStart start → HaveJoiners (after_start p s x start)
quiet_joins p s x start node inv at is quiet =
    let law = quiet_start_law node start quiet in
    there_joins p s x start node inv at is law.status
    (λ f y k among belongs. quiet_none (said_of f.body) f.from f.to y k (law.sent f among) belongs)
    (λ w to body among. quiet_no_done body (law.sent (record { from = w; to = to; body = body }) among))

abandon_joins : (p : SettingsValue) (s : System) (x : List ℕ) (node : NodeState) → Basis p s → s.node x ≡ Some node
    → (act node (Starts Abandon)).state.status ≡ node.status
    → ((f : Frame) (y : List ℕ) (k : ℕ) → IsAmong f (act node (Starts Abandon)).sent → Belongs f y k → ⊥)
    → ((from to : List ℕ) (body : Body) → IsSent (act node (Starts Abandon)).sent from to body → IsNoDone body)
    → HaveJoiners (after_start p s x Abandon)
abandon_joins p s x node inv at status aside none = there_joins p s x Abandon node inv at at status aside none

-- a new name joins
join_joins : (p : SettingsValue) (s : System) (x via : List ℕ) → Basis p s → s.node x ≡ None → s.surrogate x ≡ None
    → HaveJoiners (after_start p s x (Join via))
join_joins p s x via inv fresh unstarted =
    let s' = after_start p s x (Join via) in
    let acted = act (joiner p x) (Starts (Join via)) in
    let step = starts p s x (Join via) (joiner p x) refl in
    let law = seek_start_law (joiner p x) via refl in
    let stay : JoinersStay s s' = record {
      on = λ b joins. elim (step.done.others b) [
        | inl mine ↦
            let was = joins.is in
            let none : s.node b ≡ None = ap s.node mine ∙ fresh in
            let wrong : None ≡ Some joins.state = sym none ∙ was in
            absurd (cc)
        | inr same ↦ record {
          state = joins.state;
          is = same ∙ joins.is;
          joining = joins.joining;
          surrogate = joins.surrogate;
          started = step.surrogate b ∙ joins.started;
        }
      ];
      was = λ b joins. elim (step.done.others b) [
        | inl mine ↦
            let none : s'.surrogate b ≡ None = step.surrogate b ∙ ap s.surrogate mine ∙ unstarted in
            let was = joins.started in
            let wrong : None ≡ Some joins.surrogate = sym none ∙ was in
            absurd (cc)
        | inr same ↦ record {
          state = joins.state;
          is = sym same ∙ joins.is;
          joining = joins.joining;
          surrogate = joins.surrogate;
          started = sym (step.surrogate b) ∙ joins.started;
        }
      ];
      surrogates = λ b joins. step.surrogate b;
    } in
    started_joins s s' acted.sent step.sent inv.numbered step.session
    (λ f y k among belongs.
    let found = sent_in x [] (message via (Seek x) ∷ []) acted.sent law.sent f y k among belongs in
    seek_none x via x found.0 y k found.1 found.2)
    (no_done_sent x [] (message via (Seek x) ∷ []) acted.sent law.sent (one_no_done via (Seek x) tt)) stay (have_of p s inv)

-- whoever isn't there was never started
pub never_started : (p : SettingsValue) (s : System) (x : List ℕ) → Basis p s → s.node x ≡ None → s.surrogate x ≡ None
never_started p s x inv fresh = by_surrogate (s.surrogate x) refl
  where
    by_surrogate : (found : Option (List ℕ)) → s.surrogate x ≡ found → s.surrogate x ≡ None
    by_surrogate None none = none
    by_surrogate (Some y) some =
        let there = inv.ends.surrogates x y some in
        let is = there.is in
        let wrong : None ≡ Some there.state = sym fresh ∙ is in
        absurd (cc)

-- a notice, and what a node says that has left, are of no session, and no Done
notice_aside : (own : List ℕ) (notices : List Notice) (m : Message) (y : List ℕ) (k : ℕ) → IsAmong m (map leave_for notices)
    → Belongs (message_frame own m) y k → ⊥
notice_aside own notices m y k among belongs =
    let found = among-map_from leave_for m notices among in
    let wrong : Belongs (message_frame own (leave_for found.0)) y k = rw found.2 at belongs in
    absurd (cc)

notice_no_done : (notices : List Notice) (m : Message) → IsAmong m (map leave_for notices) → IsNoDone m.body
notice_no_done notices m among =
    let found = among-map_from leave_for m notices among in
    subst (λ (n : Message). IsNoDone n.body) (sym found.2) tt

farewell_aside : (own : List ℕ) (names : List (List ℕ)) (m : Message) (y : List ℕ) (k : ℕ) → IsAmong m (to_each Gone names)
    → Belongs (message_frame own m) y k → ⊥
farewell_aside own names m y k among belongs =
    let found = among-map_from (λ name. message name Gone) m names among in
    let wrong : Belongs (message_frame own (message found.0 Gone)) y k = rw found.2 at belongs in
    absurd (cc)

farewell_no_done : (names : List (List ℕ)) (m : Message) → IsAmong m (to_each Gone names) → IsNoDone m.body
farewell_no_done names m among =
    let found = among-map_from (λ name. message name Gone) m names among in
    subst (λ (n : Message). IsNoDone n.body) (sym found.2) tt

-- who departs was core, and is no joiner then
record HasDeparted (node : NodeState) (acted : Acted) : Type 0 where
  status : acted.state.status ≡ Joining → ⊥
  aside : (f : Frame) (y : List ℕ) (k : ℕ) → IsAmong f acted.sent → Belongs f y k → ⊥
  sent : (from to : List ℕ) (body : Body) → IsSent acted.sent from to body → IsNoDone body

departs : (node : NodeState) → node.status ≡ Core → HasDeparted node (act node (Starts Leave))
departs node at =
    let step = leave_start_law node at in
    let own = name_of node in
    let sent = (act node (Starts Leave)).sent in
    let holders = holders_on node.ties in
    elim (cases_eq (length holders) 0) [
      | inl none ↦
          let ends = step.finishes none in
          let words = off_ties node.stamp (targets_by_name node.ties.table) in
          record {
            status = λ joins. let wrong : GoneStatus ≡ Joining = sym ends.status ∙ joins in cc;
            aside = λ f y k among belongs.
                let found = sent_in own words (to_each Gone holders) sent ends.sent f y k among belongs in
                farewell_aside own holders found.0 y k found.1 found.2;
            sent = no_done_sent own words (to_each Gone holders) sent ends.sent (farewell_no_done holders);
          }
      | inr some ↦
          let waits = step.waits some in
          let notices = (started_leaving node.ties).notices in
          record {
            status = λ joins. let wrong : Leaving ≡ Joining = sym waits.0 ∙ joins in cc;
            aside = λ f y k among belongs.
                let found = sent_in own [] (map leave_for notices) sent waits.4 f y k among belongs in
                notice_aside own notices found.0 y k found.1 found.2;
            sent = no_done_sent own [] (map leave_for notices) sent waits.4 (notice_no_done notices);
          }
    ]

leave_joins : (p : SettingsValue) (s : System) (x : List ℕ) (node : NodeState) → Basis p s → s.node x ≡ Some node
    → node.status ≡ Core → HaveJoiners (after_start p s x Leave)
leave_joins p s x node inv at core =
    let s' = after_start p s x Leave in
    let acted = act node (Starts Leave) in
    let step = starts p s x Leave node at in
    let left = departs node core in
    let stay : JoinersStay s s' = record {
      on = λ b joins. elim (step.done.others b) [
        | inl mine ↦
            let was = joins.is in
            let there : s.node b ≡ Some node = ap s.node mine ∙ at in
            let same : joins.state ≡ node = cc in
            let wrong : Joining ≡ Core = sym joins.joining ∙ ap (λ (n : NodeState). n.status) same ∙ core in
            absurd (cc)
        | inr same ↦ record {
          state = joins.state;
          is = same ∙ joins.is;
          joining = joins.joining;
          surrogate = joins.surrogate;
          started = step.surrogate b ∙ joins.started;
        }
      ];
      was = λ b joins. elim (step.done.others b) [
        | inl mine ↦
            let now = joins.is in
            let there : s'.node b ≡ Some acted.state = ap s'.node mine ∙ step.done.is in
            let same : joins.state ≡ acted.state = cc in
            absurd (left.status (sym (ap (λ (n : NodeState). n.status) same) ∙ joins.joining))
        | inr same ↦ record {
          state = joins.state;
          is = sym same ∙ joins.is;
          joining = joins.joining;
          surrogate = joins.surrogate;
          started = sym (step.surrogate b) ∙ joins.started;
        }
      ];
      surrogates = λ b joins. step.surrogate b;
    } in
    started_joins s s' acted.sent step.sent inv.numbered step.session left.aside left.sent stay (have_of p s inv)

pub start_joins : StartJoins
start_joins p s x (Join via) inv may = join_joins p s x via inv may.fresh (never_started p s x inv may.fresh)
start_joins p s x Abandon inv may =
    let law = give_up_law may.state may.joining in
    let own = may.state.ties.table.owner in
    abandon_joins p s x may.state inv may.is law.status
    (λ f y k among belongs. absurd (sent_in own [] [] (act may.state (Starts Abandon)).sent law.sent f y k among belongs).1)
    (no_done_sent own [] [] (act may.state (Starts Abandon)).sent law.sent (λ m among. absurd among))
start_joins p s x Leave inv may = leave_joins p s x may.acts.state inv may.acts.is may.acts.core
start_joins p s x (Publish object) inv may =
    quiet_joins p s x (Publish object) may.acts.state inv may.acts.is may.acts.is tt
start_joins p s x (Withdraw object) inv may =
    quiet_joins p s x (Withdraw object) may.acts.state inv may.acts.is may.acts.is tt
start_joins p s x (Find ticket object) inv may =
    quiet_joins p s x (Find ticket object) may.acts.state inv may.acts.is may.acts.is tt
start_joins p s x (Cast cast level word) inv may =
    quiet_joins p s x (Cast cast level word) may.acts.state inv may.acts.is may.acts.is tt
