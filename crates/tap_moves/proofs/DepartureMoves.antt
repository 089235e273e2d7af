-- Departures and their notices after each notice, from the invariant.
use Rattle.std.proofs.Common.{◌≡◌, ◌≢◌, inl, inr, ℕ, ◌<◌, true, false, List, [], ◌∷◌, ◌⊎◌, length, Option, None, Some, refl, sym, ap, subst, ◌∙◌}
use Rattle.std.proofs.lemmas.Bool.{cases_eq}
use Rattle.tap_name.specs.Name.{IsName}
use Rattle.tap_name.specs.Names.{Among}
use Rattle.tap_name.specs.Prefix.{lcp}
use Rattle.tap_name.specs.Settings.{SettingsValue}
use Rattle.tap_link.specs.declared.kind.Kind.{Kind}
use Rattle.tap_link.specs.declared.kind.Kind.TheVariants.{Pin, Settled, Leaving as LeavingKind}
use Rattle.tap_session.specs.Session.{SessionsValue}
use Rattle.tap_table.specs.ByName.{targets_by_name}
use Rattle.tap_table.specs.Ties.{TiesValue, holders_on}
use Rattle.tap_table.specs.Table.{kind_in}
use Rattle.tap_depart.specs.Leaving.{LeavingValue, names_but}
use Rattle.tap_depart.proofs.Departures.{still_awaited}
use Rattle.tap_join.specs.Hello.{words_of}
use Rattle.tap_wire.specs.declared.frame.Body.{Body}
use Rattle.tap_wire.specs.declared.frame.Body.TheVariants.{Forget, Gone, Leave, Left, Link, Release}
use Rattle.tap_wire.specs.declared.frame.Frame.{Frame}
use Rattle.tap_rule.specs.Completed.{lays_after}
use Rattle.tap_rule.specs.EndSteps.{EndStep, LeftStep, words_at_end}
use Rattle.tap_rule.specs.FrameRules.{frame_at_ceased, frame_at_core, frame_at_joining, frame_at_leaving, rule_of_frame}
use Rattle.tap_rule.specs.RuleLaws.{frame_to}
use Rattle.tap_rule.specs.Leaving.{leave_word}
use Rattle.tap_rule.specs.Event.{Acted}
use Rattle.tap_rule.specs.Node.{NodeState, Status, link_to, name_of, settings_of}
use Rattle.tap_rule.specs.Node.Status.{Ceased, Core, Gone as GoneStatus, Joining, Leaving}
use Rattle.tap_rule.specs.Reaction.{message, to_each}
use Rattle.tap_rule.specs.Sent.{AreSent}
use Rattle.tap_rule.proofs.CarriedOut.{unruled_law}
use Rattle.tap_rule.proofs.EndSteps.{gone_law, leave_law, left_law}
use Rattle.tap_safety.specs.Departing.{Departs, FitsSlot, HasReplaced, WhileDeparting}
use Rattle.tap_safety.specs.Notices.{IsAwaiting, IsBetween, IsNotice}
use Rattle.tap_safety.specs.Remembered.{Leaver}
use Rattle.tap_safety.specs.Exchanges.{ChangesAt}
use Rattle.tap_safety.specs.System.{System, AmongFrames, HasLink, IsUnderWay}
use Rattle.tap_safety.specs.Ties.{hears_words, status_of}
use Rattle.tap_safety.proofs.Exchanged.{exchanged}
use Rattle.tap_safety.proofs.LinkKeeps.{status_seen}
use Rattle.tap_safety.proofs.NoticesKept.{until_rest_law}
use Rattle.tap_safety.proofs.UnderWay.{among_sent, sent_under_way, was_under_way}
use Rattle.tap_safety.proofs.WordsKept.{link_at}
use Rattle.tap_moves.specs.ByRule.{TakesByRule, taken_at}
use Rattle.tap_moves.specs.Delivered.{after_delivery}
use Rattle.tap_moves.specs.InvariantLaws.{IsDelivery}
use Rattle.tap_moves.proofs.Got.{same_name}
use Rattle.tap_moves.proofs.InvariantMoves.{core_name, due, of_node, sender_name, way}
use Rattle.tap_moves.proofs.MovesMade.{by_rule, starts_none_as}
use Rattle.tap_moves.proofs.Plain.{takes_frame}
use Rattle.tap_moves.specs.DepartingMoves.{DepartsInOrder}
use Rattle.tap_moves.specs.NoticeMoves.{NoticeInOrder}
use Rattle.tap_moves.proofs.Alike.{no_kind, one_status}
use Rattle.tap_moves.proofs.AsideMade.{nothing_sent}
use Rattle.tap_moves.proofs.GoneKept.{TakesGone, gone_in_order}
use Rattle.tap_moves.proofs.HasLeft.{HasLeft, IsFarewell, IsLeftOver, has_left_in_order}
use Rattle.tap_moves.proofs.Holders.{farewell_sent, gone_sent, registered_holds}
use Rattle.tap_moves.proofs.LeaveKept.{TakesLeave, leave_in_order}
use Rattle.tap_moves.proofs.LeaveMade.{HeedsLeave, heeds_leave}
use Rattle.tap_moves.proofs.LeftKept.{TakesLeft, left_in_order}

-- ---- what is known of each notice

module _ (p : SettingsValue) (s : System) (number : ℕ) (node : NodeState) (from : List ℕ) (body : Body)
    (is : IsDelivery p s number node from body) (notice : IsNotice body) where
  -- somebody departs
  pub who_departs : (leaver : Leaver) × Departs s leaver
  who_departs = by s.departing refl
    where
      by : (departing : Option Leaver) → s.departing ≡ departing → (leaver : Leaver) × Departs s leaver
      by None none =
          absurd (is.invariant.notices.none from (name_of node) body none (way p s number node from body is) notice)
      by (Some leaver) departs = (leaver, departs)

  abbrev leaver : Leaver
  leaver = who_departs.0

  pub during : WhileDeparting s leaver
  during = is.invariant.departure.during leaver who_departs.1

  -- its sender is another node
  pub sender_apart : from ≢ name_of node
  sender_apart same = is.invariant.ends.apart number (frame_to node from body) is.among same

module _ (p : SettingsValue) (s : System) (number : ℕ) (node : NodeState) (from : List ℕ) (body : Body)
    (is : IsDelivery p s number node from body) (notice : IsNotice body) where
  abbrev own : List ℕ
  own = name_of node

  -- a node with a link is core, if it isn't the leaver
  linked_core : (t : List ℕ) (kind : Kind) → link_to node t ≡ Some kind
      → (own ≡ (who_departs p s number node from body is notice).0.name → ⊥)
      → node.status ≡ Core
  linked_core t kind link other = by node.status refl
    where
      has : HasLink s own t kind
      has = record { state = node; is = is.at; link = link }

      by : (status : Status) → node.status ≡ status → node.status ≡ Core
      by Core at = at
      by Joining at = absurd ((during p s number node from body is notice).joining own (status_seen s own node Joining is.at at))
      by Leaving at = absurd (other ((during p s number node from body is notice).leaving own (status_seen s own node Leaving is.at at)))
      by GoneStatus at = absurd ((is.invariant.ended.none own t kind has).0 (status_seen s own node GoneStatus is.at at))
      by Ceased at = absurd ((is.invariant.ended.none own t kind has).1 (status_seen s own node Ceased is.at at))

-- ---- Gone

-- only a core node has a rule for a Gone
pub gone_unruled : (status : Status) (node : NodeState) (from : List ℕ) → (status ≡ Core → ⊥)
    → rule_of_frame status node from Gone ≡ None
unfolding frame_at_joining frame_at_core frame_at_leaving frame_at_ceased
gone_unruled Joining node from other = refl
gone_unruled Core node from other = absurd (other refl)
gone_unruled Leaving node from other = refl
gone_unruled GoneStatus node from other = refl
gone_unruled Ceased node from other = refl

-- a node is core, or isn't
pub is_core_or_not : (status : Status) → (status ≡ Core) ⊎ (status ≡ Core → ⊥)
is_core_or_not Core = inl refl
is_core_or_not Joining = inr (λ wrong. cc)
is_core_or_not Leaving = inr (λ wrong. cc)
is_core_or_not GoneStatus = inr (λ wrong. cc)
is_core_or_not Ceased = inr (λ wrong. cc)

module _ (p : SettingsValue) (s : System) (number : ℕ) (node : NodeState) (from : List ℕ)
    (is : IsDelivery p s number node from Gone) where
  abbrev pub gone_acted : Acted
  gone_acted = taken_at node from Gone

  pub from_gone : status_of s from ≡ Some GoneStatus
  from_gone = (is.invariant.notices.gones from (name_of node) (way p s number node from Gone is)).gone

  -- whoever has a link to a node that has left is core
  pub gone_linked : (kind : Kind) → link_to node from ≡ Some kind → node.status ≡ Core
  gone_linked Pin link =
      absurd ((during p s number node from Gone is tt).pins (name_of node) from (record { state = node; is = is.at; link = link }))
  gone_linked Settled link =
      let core = is.invariant.soft.settled (name_of node) from (record { state = node; is = is.at; link = link }) in
      elim core.core [
        | inl at ↦ (let wrong = one_status s from Core GoneStatus (status_seen s from core.state Core core.is at) from_gone in cc)
        | inr at ↦ (let wrong = one_status s from Leaving GoneStatus (status_seen s from core.state Leaving core.is at) from_gone in cc)
      ]
  gone_linked LeavingKind link =
      let to_leaver = (during p s number node from Gone is tt).marked (name_of node) from
      (record { state = node; is = is.at; link = link }) in
      linked_core p s number node from Gone is tt from LeavingKind link
      (λ here. sender_apart p s number node from Gone is tt (to_leaver ∙ sym here))

  gone_takes : (gone_acted.state.status ≡ node.status) → (gone_acted.state.covers ≡ node.covers)
      → gone_acted.state.sessions.opened ≡ node.sessions.opened → gone_acted.state.awaited ≡ node.awaited
      → link_to gone_acted.state from ≡ None → ((t : List ℕ) → (t ≡ from) ⊎ (link_to gone_acted.state t ≡ link_to node t))
      → AreSent (name_of node) [] [] gone_acted.sent → TakesGone s (after_delivery p s number) number from (name_of node)
  gone_takes status covers opened awaited unlinked others sent =
      let here = due p s number node from Gone is in
      record {
        step =
            takes_frame s (after_delivery p s number) number node from Gone (by_rule p s number node from Gone here)
            (starts_none_as p s number node from Gone here opened) status covers [] [] sent;
        awaited = awaited;
        unlinked = unlinked;
        others = others;
        sent = sent;
      }

  gone_at_core : node.status ≡ Core → TakesGone s (after_delivery p s number) number from (name_of node)
  gone_at_core at =
      let ties = (due p s number node from Gone is).is_node.ties in
      let step = gone_law node from ties (sender_name p s number node from Gone is) at is.known in
      gone_takes step.joins.status step.joins.covers (ap (λ (o : SessionsValue). o.opened) step.sessions) step.rest.awaited
      (by_kind (link_to node from) refl) step.others step.sent
    where
      by_kind : (found : Option Kind) → link_to node from ≡ found → link_to gone_acted.state from ≡ None
      by_kind None none =
          let ties = (due p s number node from Gone is).is_node.ties in
          let step = gone_law node from ties (sender_name p s number node from Gone is) at is.known in
          step.kept (rw none refl) ∙ none
      by_kind (Some Pin) link =
          absurd ((during p s number node from Gone is tt).pins (name_of node) from (record { state = node; is = is.at; link = link }))
      by_kind (Some Settled) link =
          let ties = (due p s number node from Gone is).is_node.ties in
          let step = gone_law node from ties (sender_name p s number node from Gone is) at is.known in
          step.removed (rw link refl)
      by_kind (Some LeavingKind) link =
          let ties = (due p s number node from Gone is).is_node.ties in
          let step = gone_law node from ties (sender_name p s number node from Gone is) at is.known in
          step.removed (rw link refl)

  gone_elsewhere : (node.status ≡ Core → ⊥) → TakesGone s (after_delivery p s number) number from (name_of node)
  gone_elsewhere other =
      let ignored = unruled_law node (frame_to node from Gone) (gone_unruled node.status node from other) in
      gone_takes (ap (λ (n : NodeState). n.status) ignored.state) (ap (λ (n : NodeState). n.covers) ignored.state)
      (ap (λ (n : NodeState). n.sessions.opened) ignored.state) (ap (λ (n : NodeState). n.awaited) ignored.state)
      (ap (λ (n : NodeState). link_to n from) ignored.state ∙ no_kind (link_to node from) (λ kind has. other (gone_linked kind has)))
      (λ t. inr (ap (λ (n : NodeState). link_to n t) ignored.state))
      (subst (AreSent (name_of node) [] []) (sym ignored.sent) (nothing_sent (name_of node)))

  pub gone_taken : TakesGone s (after_delivery p s number) number from (name_of node)
  gone_taken = elim (is_core_or_not node.status) [ inl at ↦ gone_at_core at | inr other ↦ gone_elsewhere other ]

  gone_order : DepartsInOrder (after_delivery p s number)
  gone_order =
      let who = who_departs p s number node from Gone is tt in
      gone_in_order s (after_delivery p s number) number from (name_of node) gone_taken (until_rest_law p s number) who.0 who.1
      is.invariant.departure is.invariant.notices is.invariant.soft

-- ---- Leave

module _ (p : SettingsValue) (s : System) (number : ℕ) (node : NodeState) (from : List ℕ) (replacement : Option (List ℕ))
    (is : IsDelivery p s number node from (Leave replacement)) where
  abbrev leave_body : Body
  leave_body = Leave replacement

  leave_said : (from ≡ (who_departs p s number node from leave_body is tt).0.name) × HasLink s (name_of node) from Settled
      × FitsSlot s (name_of node) from replacement
  leave_said =
      (during p s number node from leave_body is tt).leaves from (name_of node) replacement (way p s number node from leave_body is)

  pub leave_link : link_to node from ≡ Some Settled
  leave_link =
      let has = leave_said.1 in
      let one = has.is in
      let two = is.at in
      let state : has.state ≡ node = cc in
      ap (λ (n : NodeState). link_to n from) (sym state) ∙ has.link

  pub leave_core : node.status ≡ Core
  leave_core =
      linked_core p s number node from leave_body is tt from Settled leave_link
      (λ here. sender_apart p s number node from leave_body is tt (leave_said.0 ∙ sym here))

  leave_fits : (r : List ℕ) → replacement ≡ Some r → (r ≡ from → ⊥) × (lcp (name_of node) from < lcp from r)
  leave_fits r given = subst (FitsSlot s (name_of node) from) given leave_said.2

  -- the link to the replacement, if there is one, is settled
  leave_kinds : (r : List ℕ) (kind : Kind) → replacement ≡ Some r → link_to node r ≡ Some kind → kind ≡ Settled
  leave_kinds r Pin given link =
      absurd ((during p s number node from leave_body is tt).pins (name_of node) r (record { state = node; is = is.at; link = link }))
  leave_kinds r Settled given link = refl
  leave_kinds r LeavingKind given link =
      let to_leaver = (during p s number node from leave_body is tt).marked (name_of node) r
      (record { state = node; is = is.at; link = link }) in
      absurd ((leave_fits r given).0 (to_leaver ∙ sym leave_said.0))

  -- the replacement is core, so it has a name
  pub leave_name : (r : List ℕ) → replacement ≡ Some r → IsName (settings_of node) r
  leave_name r given =
      let core = is.invariant.soft.leaves from (name_of node) r
      (subst (λ o. IsUnderWay s from (name_of node) (Leave o)) given (way p s number node from leave_body is)) in
      of_node p s number node from leave_body is r (core_name p s is.nodes r core)

  pub leave_heeds : HeedsLeave node (taken_at node from leave_body).state from replacement (words_of (leave_word node from replacement))
  leave_heeds =
      let ties = (due p s number node from leave_body is).is_node.ties in
      let step = leave_law node from replacement leave_core is.known in
      heeds_leave node (taken_at node from leave_body).state from replacement ties (sender_name p s number node from leave_body is)
      (sender_apart p s number node from leave_body is tt) leave_name leave_link leave_fits leave_kinds step.ties

  pub leave_taken : TakesLeave s (after_delivery p s number) number from (name_of node) replacement
  leave_taken =
      let here = due p s number node from leave_body is in
      let step = leave_law node from replacement leave_core is.known in
      let acted = taken_at node from leave_body in
      record {
        step =
            takes_frame s (after_delivery p s number) number node from leave_body (by_rule p s number node from leave_body here)
            (starts_none_as p s number node from leave_body here (ap (λ (o : SessionsValue). o.opened) step.sessions)) step.joins.status
            step.joins.covers (words_of (leave_word node from replacement)) (message from Left ∷ []) step.sent;
        name = refl;
        awaited = step.rest.awaited;
        heeds = leave_heeds;
        lays = lays_after node node.pointers (words_of (leave_word node from replacement)) acted;
        are = step.sent;
        in_order = step.completed.sent;
      }

  leave_order : DepartsInOrder (after_delivery p s number)
  leave_order =
      let who = who_departs p s number node from leave_body is tt in
      let inv = is.invariant in
      leave_in_order s (after_delivery p s number) number from (name_of node) replacement leave_taken (until_rest_law p s number) who.0
      who.1 inv.departure inv.notices inv.soft inv.numbered inv.ends

-- ---- Left

module _ (p : SettingsValue) (s : System) (number : ℕ) (node : NodeState) (from : List ℕ) (is : IsDelivery p s number node from Left) where
  abbrev pub left_leaver : Leaver
  left_leaver = (who_departs p s number node from Left is tt).0

  abbrev pub left_acted : Acted
  left_acted = taken_at node from Left

  abbrev pub left_after : System
  left_after = after_delivery p s number

  pub left_during : WhileDeparting s left_leaver
  left_during = during p s number node from Left is tt

  pub left_awaits : IsAwaiting s (name_of node) from
  left_awaits = is.invariant.notices.lefts from (name_of node) (way p s number node from Left is)

  left_state : left_awaits.state ≡ node
  left_state = let one = left_awaits.is in let two = is.at in cc

  pub left_leaving : node.status ≡ Leaving
  left_leaving = ap (λ (n : NodeState). n.status) (sym left_state) ∙ left_awaits.leaving

  pub left_said : (name_of node ≡ left_leaver.name) × HasReplaced s from (name_of node)
  left_said = left_during.lefts from (name_of node) (way p s number node from Left is)

  pub left_step : LeftStep node from left_acted
  left_step = left_law node from left_leaving is.known

  left_made : TakesByRule s left_after number node from Left
  left_made = by_rule p s number node from Left (due p s number node from Left is)

  -- others are awaited yet
  pub left_waits : length (names_but node.awaited from) ≢ 0 → TakesLeft s left_after number from (name_of node)
  left_waits others =
      let here = due p s number node from Left is in
      let step = left_step.waits others in
      let leaving : LeavingValue = record { ties = node.ties; notices = []; awaited = node.awaited } in
      record {
        step =
            takes_frame s left_after number node from Left left_made
            (starts_none_as p s number node from Left here (ap (λ (o : SessionsValue). o.opened) step.2)) step.0.status step.0.covers [] []
            step.4;
        links = λ t. ap (λ (ties : TiesValue). kind_in ties.table t) step.1;
        awaited = λ b. (
          λ among. (still_awaited leaving from b).0 (subst (Among b) step.3 among),
          λ both. subst (Among b) (sym step.3) ((still_awaited leaving from b).1 both),
        );
        some = λ none. others (ap length (sym step.3 ∙ none));
        sent = step.4;
      }

  left_goes_on : length (names_but node.awaited from) ≢ 0 → DepartsInOrder left_after
  left_goes_on others =
      let inv = is.invariant in
      left_in_order s left_after number from (name_of node) (left_waits others) (until_rest_law p s number) left_leaver
      (who_departs p s number node from Left is tt).1 inv.departure inv.notices inv.numbered

  -- or it was the last one
  module _ (last : length (names_but node.awaited from) ≡ 0) where
    pub left_end : EndStep node GoneStatus Gone left_acted
    left_end = left_step.finishes last

    -- what it sends at its end
    pub end_sent : AreSent left_leaver.name (words_at_end node) (to_each Gone (holders_on node.ties)) left_acted.sent
    end_sent =
        subst (λ x. AreSent x (words_at_end node) (to_each Gone (holders_on node.ties)) left_acted.sent) left_said.0 left_end.sent

    -- nobody else is awaited
    alone : (y b : List ℕ) → y ≡ name_of node → IsAwaiting s y b → b ≡ from
    alone y b here waits = elim (same_name b from) [
      | inl same ↦ same
      | inr other ↦
          let leaving : LeavingValue = record { ties = node.ties; notices = []; awaited = node.awaited } in
          let one = waits.is in
          let two : s.node y ≡ Some node = ap s.node here ∙ is.at in
          let state : waits.state ≡ node = cc in
          let mine : Among b node.awaited = subst (λ (n : NodeState). Among b n.awaited) state waits.awaits in
          let left = (still_awaited leaving from b).1 (mine, other) in
          absurd (none_left (names_but node.awaited from) last b left)
    ]
      where
        none_left : (names : List (List ℕ)) → length names ≡ 0 → (c : List ℕ) → Among c names → ⊥
        none_left [] none c among = among
        none_left (d ∷ names) none c among = cc

    -- the leaver isn't gone before
    not_gone : (y : List ℕ) → y ≡ left_leaver.name → status_of s y ≡ Some GoneStatus → ⊥
    not_gone y here gone =
        let own = status_seen s (name_of node) node Leaving is.at left_leaving in
        let wrong = one_status s y GoneStatus Leaving gone (ap (status_of s) (here ∙ sym left_said.0) ∙ own) in cc

    -- so each holder has its slot filled
    answered_all : (a : List ℕ) → Among a left_leaver.holders → HasReplaced s a left_leaver.name
    answered_all a holds = elim (same_name a from) [
      | inl same ↦ subst (HasReplaced s a) left_said.0 (subst (λ b. HasReplaced s b (name_of node)) (sym same) left_said.1)
      | inr other ↦
          let departs = (who_departs p s number node from Left is tt).1 in
          elim (is.invariant.notices.answered left_leaver a departs holds
          (λ waits. other (alone left_leaver.name a (sym left_said.0) waits))) [
            | inl replaced ↦ replaced
            | inr unlinked ↦ absurd (not_gone left_leaver.name refl unlinked.1)
          ]
    ]

    -- whoever has a link to the leaver was a holder, and is one yet
    linked_holds : (y : List ℕ) (kind : Kind) → HasLink s y left_leaver.name kind → Among y left_leaver.holders
    linked_holds y kind link =
        let at : s.node left_leaver.name ≡ Some node = ap s.node (sym left_said.0) ∙ is.at in
        (left_during.goes node at left_leaving).linked y kind link

    filled_all : (y : List ℕ) (kind : Kind) → HasLink s y left_leaver.name kind → HasReplaced s y left_leaver.name
    filled_all y kind link = answered_all y (linked_holds y kind link)

    -- its word stands in the register, since no new word is under way to the leaver
    holder_on : (y : List ℕ) (kind : Kind) → HasLink s y left_leaver.name kind → Among y (holders_on node.ties)
    holder_on y kind link =
        let own = name_of node in
        let ties = (due p s number node from Left is).is_node.ties in
        let hears : hears_words (status_of s own) =
        subst hears_words (sym (status_seen s own node Leaving is.at left_leaving)) tt in
        let mine = subst (λ n. HasLink s y n kind) (sym left_said.0) link in
        let said = is.invariant.ties.linked y own kind hears (link_at s y own kind mine) in
        elim said.stands [
          | inl comes ↦
              let word = subst (λ on. IsUnderWay s y own (Link said.last.version on)) said.on_is comes in
              absurd ((left_during.quiet y own said.last.version word).0 left_said.0)
          | inr stood ↦
              registered_holds s own node ties is.at y (record { word = said.last; on = said.on_is; is = stood })
        ]

    told_all : (y : List ℕ) (kind : Kind) → HasLink s y left_leaver.name kind → IsUnderWay left_after left_leaver.name y Gone
    told_all y kind link =
        sent_under_way s left_after number (frame_to node from Left) left_acted.sent left_made.taken left_leaver.name y Gone
        (gone_sent left_leaver node.stamp (targets_by_name node.ties.table) (holders_on node.ties) left_acted.sent end_sent y
        (holder_on y kind link))

    -- the one notice that was left is the one that is taken
    none_left_over : (m : ℕ) (f : Frame) → IsBetween (name_of node) from f → AmongFrames m f s.frames → AmongFrames m f left_after.frames
        → ⊥
    none_left_over m f between old now =
        let one = is.invariant.notices.one (name_of node) from left_awaits in
        let place = one.only m f old between ∙ sym (one.only number (frame_to node from Left) is.among (inr refl)) in
        let goes = exchanged s left_after number (frame_to node from Left) left_acted.sent left_made.taken is.invariant.numbered in
        goes.gone f (subst (λ k. AmongFrames k f left_after.frames) place now)

    -- a frame that stays is none of the notices that go before the end
    left_over : (y t : List ℕ) (body : Body) (m : ℕ) → AmongFrames m (record { from = y; to = t; body = body }) s.frames
        → AmongFrames m (record { from = y; to = t; body = body }) left_after.frames → IsLeftOver s left_leaver y t body
    left_over y t (Leave r) m old now =
        let waits = is.invariant.notices.leaves y t r (record { number = m; among = old }) in
        let here : y ≡ name_of node =
        (left_during.leaves y t r (record { number = m; among = old })).0 ∙ sym left_said.0 in
        let to = alone y t here waits in
        none_left_over m (record { from = y; to = t; body = Leave r })
        (inl (
          r,
          ap (λ z. record { from = z; to = t; body = Leave r }) here
              ∙ ap (λ z. record { from = name_of node; to = z; body = Leave r }) to,
        )) old now
    left_over y t Left m old now =
        let waits = is.invariant.notices.lefts y t (record { number = m; among = old }) in
        let here : t ≡ name_of node = (left_during.lefts y t (record { number = m; among = old })).0 ∙ sym left_said.0 in
        let to = alone t y here waits in
        none_left_over m (record { from = y; to = t; body = Left })
        (inr (ap (λ z. record { from = z; to = t; body = Left }) to
        ∙ ap (λ z. record { from = from; to = z; body = Left }) here)) old now
    left_over y t Forget m old now = left_during.forgets y t (record { number = m; among = old })
    left_over y t Gone m old now =
        let sender = is.invariant.notices.gones y t (record { number = m; among = old }) in
        let departs = (who_departs p s number node from Left is tt).1 in
        let same : Some left_leaver ≡ Some sender.leaver = sym departs ∙ sender.departs in
        let one : left_leaver ≡ sender.leaver = cc in
        not_gone y (sym sender.is ∙ ap (λ (l : Leaver). l.name) (sym one)) sender.gone
    left_over y t (Link version true) m old now =
        let quiet = left_during.quiet y t version (record { number = m; among = old }) in
        let heard = is.invariant.notices.words left_leaver y t version (who_departs p s number node from Left is tt).1
        (record { number = m; among = old }) in
        (quiet.0, quiet.1, heard.1)
    left_over y t (Link version false) m old now = tt
    left_over y t Release m old now = left_during.releases y t (record { number = m; among = old })
    left_over y t other m old now = left_during.frames y t other (record { number = m; among = old })

    frames_left : (y t : List ℕ) (body : Body) → IsUnderWay left_after y t body
        → IsLeftOver s left_leaver y t body ⊎ IsFarewell left_leaver y t body
    frames_left y t body now =
        let f : Frame = record { from = y; to = t; body = body } in
        let goes = exchanged s left_after number (frame_to node from Left) left_acted.sent left_made.taken is.invariant.numbered in
        elim (goes.was now.number f now.among) [
          | inl old ↦ inl (left_over y t body now.number old now.among)
          | inr new ↦
              inr (farewell_sent left_leaver node.stamp (targets_by_name node.ties.table) (holders_on node.ties) left_acted.sent end_sent
              y t body (among_sent s.next left_acted.sent now.number f new))
        ]

    -- no Release is sent
    releases_left : (t y : List ℕ) → IsUnderWay left_after t y Release → IsUnderWay s t y Release
    releases_left t y now =
        elim (was_under_way s left_after number (frame_to node from Left) left_acted.sent left_made.taken t y Release now) [
          | inl old ↦ old
          | inr sends ↦
              let never : IsFarewell left_leaver t y Release =
              farewell_sent left_leaver node.stamp (targets_by_name node.ties.table) (holders_on node.ties) left_acted.sent end_sent t y
              Release sends in absurd never
        ]

    pub left_has_left : HasLeft s left_after left_leaver node left_acted.state
    left_has_left =
        let rest = until_rest_law p s number in
        let departs = (who_departs p s number node from Left is tt).1 in
        record {
          at = subst (λ x. ChangesAt s left_after x node left_acted.state) left_said.0 left_made.at;
          status = left_end.status;
          unlinked = left_end.unlinked;
          joining = left_during.joining;
          pins = left_during.pins;
          marked = left_during.marked;
          leaving = left_during.leaving;
          filled = filled_all;
          told = told_all;
          answered = answered_all;
          frames = frames_left;
          releases = releases_left;
          departs = λ other departs'.
              let same : Some left_leaver ≡ Some other = sym departs ∙ rest.1 other departs' in cc;
          over = λ over. elim (rest.0 over) [
            | inl none ↦ let wrong : Some left_leaver ≡ None = sym departs ∙ none in cc
            | inr none ↦ none
          ];
        }

    left_ends : DepartsInOrder left_after
    left_ends = has_left_in_order s left_after left_leaver node left_acted.state left_has_left

  left_order : DepartsInOrder left_after
  left_order = elim (cases_eq (length (names_but node.awaited from)) 0) [
    | inl last ↦ left_ends last
    | inr others ↦ left_goes_on others
  ]

-- ---- each notice

-- departures are in order after each notice
pub notice_in_order : NoticeInOrder
notice_in_order p s number node from (Leave replacement) is notice = leave_order p s number node from replacement is
notice_in_order p s number node from Left is notice = left_order p s number node from is
notice_in_order p s number node from Gone is notice = gone_order p s number node from is
notice_in_order p s number node from _ is notice = absurd notice
