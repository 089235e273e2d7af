-- Stamps after each notice, and once a node has started to leave.
use Rattle.std.proofs.Common.{◌≡◌, ◌≢◌, inl, inr, ℕ, ◌+◌, Bool, true, List, [], ◌∷◌, length, map, Option, None, Some, arith, refl, sym, ap, subst, ◌∙◌}
use Rattle.std.proofs.lemmas.Bool.{cases_eq}
use Rattle.tap_name.specs.Settings.{SettingsValue}
use Rattle.tap_table.specs.declared.tie.Tie.{Tie}
use Rattle.tap_table.specs.ByName.{targets_by_name}
use Rattle.tap_table.specs.Ties.{TiesValue, holders_on, marked, stamp_after}
use Rattle.tap_depart.specs.Leaving.{names_but, started_leaving}
use Rattle.tap_depart.specs.ToldLeave.{offer_tells_if, taken_in}
use Rattle.tap_join.specs.Hello.{words_of}
use Rattle.tap_wire.specs.declared.frame.Body.{Body}
use Rattle.tap_wire.specs.declared.frame.Body.TheVariants.{Gone, Leave, Left, Link}
use Rattle.tap_wire.specs.declared.frame.Frame.{Frame}
use Rattle.tap_rule.specs.Act.{act}
use Rattle.tap_rule.specs.EndSteps.{EndStep, lays_at_end, words_at_end}
use Rattle.tap_rule.specs.Event.{Acted}
use Rattle.tap_rule.specs.Event.Event.{Starts}
use Rattle.tap_rule.specs.Event.Start.{Leave as StartLeave}
use Rattle.tap_rule.specs.FrameRules.{frame_at_core, rule_of_frame}
use Rattle.tap_rule.specs.RuleLaws.{frame_to}
use Rattle.tap_rule.specs.Leaving.{leave_for, takes_leave}
use Rattle.tap_rule.specs.Node.{NodeState, name_of}
use Rattle.tap_rule.specs.Node.Status.{Gone as GoneStatus}
use Rattle.tap_rule.specs.Reaction.{Message, message, to_each}
use Rattle.tap_rule.specs.Sending.{lay_frame}
use Rattle.tap_rule.specs.Sent.{AreSent, IsAmong}
use Rattle.tap_rule.proofs.Among.{among-map_from}
use Rattle.tap_rule.proofs.CarriedOut.{frame_law, unruled_law}
use Rattle.tap_rule.proofs.EndSteps.{gone_law}
use Rattle.tap_safety.specs.Bookkeeping.{AreStamped, has_table}
use Rattle.tap_safety.specs.Invariant.{Invariant}
use Rattle.tap_safety.specs.KnownLaws.{LinksAreOnce, Stamps}
use Rattle.tap_safety.specs.Move.{MayLeave}
use Rattle.tap_safety.specs.Exchanges.{IsSent}
use Rattle.tap_safety.specs.System.{System}
use Rattle.tap_safety.proofs.Known.{stamps_frame, stamps_start}
use Rattle.tap_moves.specs.ByRule.{taken_at}
use Rattle.tap_moves.specs.Delivered.{after_delivery, after_start}
use Rattle.tap_moves.specs.InvariantLaws.{IsDelivery}
use Rattle.tap_moves.specs.KnownNames.{AreNodes}
use Rattle.tap_moves.proofs.InvariantMoves.{due, sender_name}
use Rattle.tap_moves.proofs.GivenUp.{off_numbered}
use Rattle.tap_moves.proofs.Stamped.{AreNewWords, NoLinks, in_order_once, none_new, numbered_new, one_new, rule_stamps, silent_stamps}
use Rattle.tap_moves.proofs.WordsAnew.{changes_at, has_done, is_taken}
use Rattle.tap_moves.specs.PartMoves.{LeavingStamped, NoticeStamped}
use Rattle.tap_moves.proofs.DepartureMoves.{gone_unruled, is_core_or_not, leave_core, left_end, left_leaving, left_step}
use Rattle.tap_moves.proofs.LeaveStarts.{changes, ends as leaver_ends, law, own as leaver_own, step as leaver_step}

-- ---- what is sent

-- no Link is sent, if no word is, and no message is one
pub no_links : (x : List ℕ) (messages : List Message) (sent : List Frame) → AreSent x [] messages sent
    → ((m : Message) → IsAmong m messages → (version : ℕ) (on : Bool) → m.body ≡ Link version on → ⊥) → NoLinks sent
no_links x messages sent are none frame among version on is =
    elim (are.each frame among) [
      | inl link ↦ link.among
      | inr (inl named) ↦ none named.message named.among version on (sym (ap (λ (f : Frame). f.body) named.is) ∙ is)
      | inr (inr lay) ↦ let wrong : (lay_frame x lay.lay).body ≡ Link version on = sym (ap (λ (f : Frame). f.body) lay.is) ∙ is in cc
    ]

-- then none stands twice
none_once : (sent : List Frame) → NoLinks sent → LinksAreOnce sent
none_once [] none = tt
none_once (frame ∷ frames) none =
    (λ version on is among. none frame (inl refl) version on is, none_once frames (λ f later. none f (inr later)))

-- of no messages none is a Link
pub no_message : (m : Message) → IsAmong m [] → (version : ℕ) (on : Bool) → m.body ≡ Link version on → ⊥
no_message m among version on is = among

-- a Gone is none
pub farewell_no_link : (names : List (List ℕ)) (m : Message) → IsAmong m (to_each Gone names) → (version : ℕ) (on : Bool)
    → m.body ≡ Link version on → ⊥
farewell_no_link names m among version on is =
    let found = among-map_from (λ name. message name Gone) m names among in
    let wrong : Gone ≡ Link version on = ap (λ (n : Message). n.body) (sym found.2) ∙ is in cc

-- ---- a node that ends

-- Of a node with a table that is gone then: its words have the numbers after its stamp's, in order.
end_stamps : (node : NodeState) (acted : Acted) → EndStep node GoneStatus Gone acted → has_table node.status
    → Stamps node acted.state (name_of node) acted.sent
end_stamps node acted end table = record {
  table = λ now. let never : has_table GoneStatus = subst has_table end.status now in absurd never;
  from = λ w t version on sends. ((said w t version on sends).0, table);
  new = λ w t version on sends.
      let word = said w t version on sends in
      let above = (new.each word.1.0 word.1.1).0 in
      let same = word.1.2 in
      omega (arith, above, same);
  given = λ now w t version on sends. let never : has_table GoneStatus = subst has_table end.status now in absurd never;
  once =
      in_order_once (name_of node) (words_at_end node) (to_each Gone (holders_on node.ties)) (lays_at_end GoneStatus node) acted.sent
      end.in_order new.apart (farewell_no_link (holders_on node.ties));
}
  where
    new : AreNewWords node.stamp (node.stamp + length (words_at_end node)) (words_at_end node)
    new = numbered_new node.stamp (words_at_end node) (off_numbered node.stamp (targets_by_name node.ties.table))

    -- a Link that is sent is a word
    said : (w t : List ℕ) (version : ℕ) (on : Bool) → IsSent acted.sent w t (Link version on)
        → (w ≡ name_of node) × ((word : Tie) × IsAmong word (words_at_end node) × (version ≡ word.version))
    said w t version on sends =
        elim (end.sent.each (record { from = w; to = t; body = Link version on }) sends) [
          | inl link ↦
              let body : Link version on ≡ Link link.word.version link.word.on = ap (λ (f : Frame). f.body) link.is in
              let same : version ≡ link.word.version = cc in
              (ap (λ (f : Frame). f.from) link.is, (link.word, link.among, same))
          | inr (inl named) ↦
              absurd (farewell_no_link (holders_on node.ties) named.message named.among version on
              (sym (ap (λ (f : Frame). f.body) named.is)))
          | inr (inr lay) ↦ let wrong = ap (λ (f : Frame). f.body) lay.is in absurd (cc)
        ]

-- ---- notices

-- the word for a replacement has the next number
leave_new : (ties : TiesValue) (stamp : ℕ) (taken : Option (List ℕ))
    → AreNewWords stamp (stamp_after stamp (offer_tells_if ties stamp taken)) (words_of (offer_tells_if ties stamp taken))
leave_new ties stamp None = none_new stamp
leave_new ties stamp (Some name) = one_new _ name stamp true

-- and a Left is none
pub left_no_link : (from : List ℕ) (m : Message) → IsAmong m (message from Left ∷ []) → (version : ℕ) (on : Bool)
    → m.body ≡ Link version on → ⊥
left_no_link from m (inl same) version on is =
    let wrong : Left ≡ Link version on = ap (λ (n : Message). n.body) (sym same) ∙ is in cc
left_no_link from m (inr never) version on is = never

module _ (p : SettingsValue) (s : System) (number : ℕ) (node : NodeState) (from : List ℕ) (body : Body)
    (is : IsDelivery p s number node from body) where
  stamped_by : Stamps node (taken_at node from body).state (name_of node) (taken_at node from body).sent
      → AreStamped (after_delivery p s number)
  stamped_by stamps =
      stamps_frame s (after_delivery p s number) number (frame_to node from body) (name_of node) node (taken_at node from body).state
      (taken_at node from body).sent (is_taken p s number node from body is) (changes_at p s number node from body is)
      (has_done p s number node from body is) stamps is.invariant.versions is.invariant.stamped

module _ (p : SettingsValue) (s : System) (number : ℕ) (node : NodeState) (from : List ℕ) where
  leave_stamped : (replacement : Option (List ℕ)) → IsDelivery p s number node from (Leave replacement)
      → AreStamped (after_delivery p s number)
  unfolding frame_at_core
  leave_stamped replacement is =
      let at = leave_core p s number node from replacement is in
      let rule = takes_leave node from replacement in
      let frame = frame_to node from (Leave replacement) in
      let has : rule_of_frame node.status node from (Leave replacement) ≡ Some rule = rw at refl in
      let carried = frame_law node frame rule is.known has in
      let after = marked node.ties from in
      let table : has_table node.status = subst has_table (sym at) tt in
      stamped_by p s number node from (Leave replacement) is
      (rule_stamps node rule (taken_at node from (Leave replacement)) carried (record {
        words = leave_new after node.stamp (taken_in after from replacement);
        messages = left_no_link from;
        table = λ now. table;
        speaks = λ word among. table;
      }))

  gone_stamped : IsDelivery p s number node from Gone → AreStamped (after_delivery p s number)
  gone_stamped is =
      let acted = taken_at node from Gone in
      elim (is_core_or_not node.status) [
        | inl at ↦
            let ties = (due p s number node from Gone is).is_node.ties in
            let step = gone_law node from ties (sender_name p s number node from Gone is) at is.known in
            let stamp = step.completed.stamp in
            stamped_by p s number node from Gone is
            (silent_stamps node acted (name_of node) step.joins.status (omega (arith, stamp))
            (no_links (name_of node) [] acted.sent step.sent no_message))
        | inr other ↦
            let ignored = unruled_law node (frame_to node from Gone) (gone_unruled node.status node from other) in
            let stamp : acted.state.stamp ≡ node.stamp = ap (λ (n : NodeState). n.stamp) ignored.state in
            stamped_by p s number node from Gone is
            (silent_stamps node acted (name_of node) (ap (λ (n : NodeState). n.status) ignored.state) (omega (arith, stamp))
            (λ frame among version on same.
            let never : IsAmong frame [] = subst (λ sent. IsAmong frame sent) ignored.sent among in never))
      ]

  left_stamped : IsDelivery p s number node from Left → AreStamped (after_delivery p s number)
  left_stamped is =
      let acted = taken_at node from Left in
      elim (cases_eq (length (names_but node.awaited from)) 0) [
        | inl last ↦
            stamped_by p s number node from Left is
            (end_stamps node acted (left_end p s number node from is last)
            (subst has_table (sym (left_leaving p s number node from is)) tt))
        | inr others ↦
            let step = (left_step p s number node from is).waits others in
            let stamp = step.6.stamp in
            stamped_by p s number node from Left is
            (silent_stamps node acted (name_of node) step.0.status (omega (arith, stamp))
            (no_links (name_of node) [] acted.sent step.4 no_message))
      ]

pub notice_stamped : NoticeStamped
notice_stamped p s number node from (Leave replacement) is notice = leave_stamped p s number node from replacement is
notice_stamped p s number node from Left is notice = left_stamped p s number node from is
notice_stamped p s number node from Gone is notice = gone_stamped p s number node from is
notice_stamped p s number node from _ is notice = absurd notice

-- ---- the start of a departure

module _ (p : SettingsValue) (s : System) (x : List ℕ) (inv : Invariant p s) (nodes : AreNodes p s) (may : MayLeave s x) where
  abbrev node : NodeState
  node = may.acts.state

  abbrev acted : Acted
  acted = act node (Starts StartLeave)

  table : has_table node.status
  table = subst has_table (sym may.acts.core) tt

  -- a Leave is no Link
  pub leave_no_link : (m : Message) → IsAmong m (map leave_for (started_leaving node.ties).notices) → (version : ℕ) (on : Bool)
      → m.body ≡ Link version on → ⊥
  leave_no_link m among version on is =
      let found = among-map_from leave_for m (started_leaving node.ties).notices among in
      let wrong : (leave_for found.0).body ≡ Link version on = ap (λ (n : Message). n.body) (sym found.2) ∙ is in cc

  starts_stamps : Stamps node acted.state x acted.sent
  starts_stamps = elim (cases_eq (length (holders_on node.ties)) 0) [
    | inl none ↦
        subst (λ own. Stamps node acted.state own acted.sent) (leaver_own p s x inv nodes may)
        (end_stamps node acted (leaver_ends p s x inv nodes may none) table)
    | inr some ↦ waiting_stamps some
  ]
    where
      waiting_stamps : length (holders_on node.ties) ≢ 0 → Stamps node acted.state x acted.sent
      waiting_stamps some =
          let waits = (law p s x inv nodes may).waits some in
          let stamp = waits.9.stamp in
          let none = no_links (name_of node) (map leave_for (started_leaving node.ties).notices) acted.sent waits.4 leave_no_link in
          record {
            table = λ now. (table, omega (arith, stamp));
            from = λ w t version on sends. absurd (none (record { from = w; to = t; body = Link version on }) sends version on refl);
            new = λ w t version on sends. absurd (none (record { from = w; to = t; body = Link version on }) sends version on refl);
            given = λ now w t version on sends.
                absurd (none (record { from = w; to = t; body = Link version on }) sends version on refl);
            once = none_once acted.sent none;
          }

  starts_stamped : AreStamped (after_start p s x StartLeave)
  starts_stamped =
      let step = leaver_step p s x inv nodes may in
      stamps_start s (after_start p s x StartLeave) x node acted.state acted.sent step.sent (changes p s x inv nodes may) step.done
      starts_stamps inv.basis.versions inv.basis.stamped

pub leaving_stamped : LeavingStamped
leaving_stamped p s x inv nodes may = starts_stamped p s x inv nodes may
