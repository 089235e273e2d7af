-- The stamps of nodes are no less than their words' versions after each frame that a rule takes.
-- Cited above: taken_stamped
use Rattle.std.proofs.Common.{◌≡◌, ◌==◌, ◌&&◌, ℕ, ◌+◌, Bool, true, false, cond, if◌then◌else◌, List, [], ◌∷◌, ◌++◌, map, length, Option, None, Some, is_none, not, arith, ap, refl, sym, subst, inl, inr}
use Rattle.tap_name.specs.Names.{has_name}
use Rattle.tap_name.specs.Settings.{SettingsValue}
use Rattle.tap_name.specs.declared.slot.Offered.{Offered}
use Rattle.tap_name.specs.declared.slot.Slot.{Slot}
use Rattle.tap_session.specs.declared.parent.Parent.{Parent}
use Rattle.tap_session.specs.declared.parent.Parent.TheVariants.{Node, Root}
use Rattle.tap_session.specs.declared.sessions.Answered.{Answered}
use Rattle.tap_session.specs.declared.sessions.Answered.TheVariants.{Closed, Open, Unknown}
use Rattle.tap_session.specs.Sessions.{answer_to}
use Rattle.tap_table.specs.Ties.{holders_on}
use Rattle.tap_multicast.specs.declared.covers.Covered.{Covered}
use Rattle.tap_multicast.specs.declared.covers.Covered.TheVariants.{Already, Now}
use Rattle.tap_multicast.specs.declared.target.Target.{Target}
use Rattle.tap_join.proofs.TellsNew.{TellsNew, hello_tells_new}
use Rattle.tap_join.specs.Hello.{after_hello}
use Rattle.tap_join.specs.Seek.{sought}
use Rattle.tap_join.specs.declared.sought.Sought.{Sought}
use Rattle.tap_join.specs.declared.sought.Sought.TheVariants.{Forward, Surrogate}
use Rattle.tap_wire.specs.declared.frame.Body.{Body}
use Rattle.tap_wire.specs.declared.frame.Body.TheVariants.{Ack, Done, Forget, Heard, Link, Release, Seek}
use Rattle.tap_wire.specs.declared.frame.TellFields.{TellFields}
use Rattle.tap_rule.specs.Answers.{answer_for, answer_sends, takes_heard_or_ack, with_session}
use Rattle.tap_rule.specs.Ceasing.{takes_link_ceased, takes_tell_ceased}
use Rattle.tap_rule.specs.Covering.{Request, answers_awaited, covers_as, first_request, greeting, pins_and_covers, request_of, takes_seek, tell_for, with_level}
use Rattle.tap_rule.specs.FrameRules.{frame_at_ceased, frame_at_core, frame_at_joining, frame_at_leaving, rule_of_frame}
use Rattle.tap_rule.specs.JoinSteps.{found_for}
use Rattle.tap_rule.specs.Joining.{hello_words, takes_tell_joining, welcomes}
use Rattle.tap_rule.specs.RuleLaws.{frame_to}
use Rattle.tap_rule.specs.Links.{is_new_link, takes_forget, takes_link, takes_link_joining, takes_release}
use Rattle.tap_rule.specs.Node.{NodeState, Status, join_session_at, link_to, name_of, settings_of}
use Rattle.tap_rule.specs.Node.Status.{Ceased as CeasedStatus, Core, Gone, Joining, Leaving}
use Rattle.tap_rule.specs.QuietSteps.{IsQuiet}
use Rattle.tap_rule.specs.Reaction.{Message, Reaction, message, sends, to_each, with_pin}
use Rattle.tap_rule.specs.Sent.{IsAmong}
use Rattle.tap_rule.specs.Strange.{is_strange}
use Rattle.tap_rule.specs.Hellos.{joining_hello}
use Rattle.tap_rule.proofs.Among.{among-map_from}
use Rattle.tap_rule.proofs.CarriedOut.{frame_law, unruled_law}
use Rattle.tap_rule.proofs.QuietSteps.{quiet_law}
use Rattle.tap_table.specs.Table.{has_room_near}
use Rattle.tap_link.specs.LinkSet.{is_pinned}
use Rattle.tap_safety.specs.Bookkeeping.{AreStamped, has_table}
use Rattle.tap_safety.specs.Frames.{HelloFields, hello_body, tell_body}
use Rattle.tap_safety.specs.KnownLaws.{Stamps}
use Rattle.tap_safety.specs.System.{System}
use Rattle.tap_safety.proofs.Known.{stamps_frame}
use Rattle.tap_safety.proofs.Said.{Said, said_of}
use Rattle.tap_safety.proofs.Said.Said.{IsAck, IsDone, IsForget, IsHeard, IsHello, IsLink, IsRelease, IsSeek, IsTell}
use Rattle.tap_moves.specs.ByRule.{taken_at}
use Rattle.tap_moves.specs.Delivered.{after_delivery}
use Rattle.tap_moves.specs.InvariantLaws.{IsDelivery, IsFilledThere}
use Rattle.tap_moves.proofs.InvariantMoves.{due, hello_names_are, joins_here, sender_name}
use Rattle.tap_moves.specs.WordMoves.{TakenStamped}
use Rattle.tap_moves.proofs.CoverMoves.{done_joiner}
use Rattle.tap_moves.proofs.CoverSent.{covers_say}
use Rattle.tap_moves.proofs.Stamped.{AreNewWords, IsStampedRule, none_new, numbered_new, one_new, rule_stamps, silent_stamps}
use Rattle.tap_moves.proofs.WordsAnew.{changes_at, has_done, is_taken}

-- ---- rules

-- a body that is no Link
abbrev IsNoLink : Body → Type 0
IsNoLink (Link version on) = ⊥
IsNoLink _ = Unit {0}

no_links : (messages : List Message) → ((m : Message) → IsAmong m messages → IsNoLink m.body) → (m : Message) → IsAmong m messages
    → (version : ℕ) (on : Bool) → m.body ≡ Link version on → ⊥
no_links messages each m among version on is =
    let never : IsNoLink (Link version on) = subst IsNoLink is (each m among) in never

one_no_link : (to : List ℕ) (body : Body) → IsNoLink body → (m : Message) → IsAmong m (message to body ∷ []) → IsNoLink m.body
one_no_link to body none m (inl is) = subst (λ (n : Message). IsNoLink n.body) (sym is) none
one_no_link to body none m (inr never) = absurd never

if_no_link : (test : Bool) (to : List ℕ) (body : Body) → IsNoLink body → (m : Message)
    → IsAmong m (if test then message to body ∷ [] else []) → IsNoLink m.body
if_no_link true to body none m among = one_no_link to body none m among
if_no_link false to body none m among = absurd among

-- a rule that keeps the status and the stamp, and has no words
wordless : (node : NodeState) (r : Reaction) → r.state.status ≡ node.status → r.state.stamp ≡ node.stamp → r.words ≡ []
    → ((m : Message) → IsAmong m r.messages → IsNoLink m.body) → IsStampedRule node r
wordless node r status stamp words each = record {
  words =
      subst (λ now. AreNewWords node.stamp now r.words) (sym stamp)
      (subst (λ list. AreNewWords node.stamp node.stamp list) (sym words) (none_new node.stamp));
  messages = no_links r.messages each;
  table = λ table. subst has_table status table;
  speaks = λ word among. let never : IsAmong word [] = subst (λ list. IsAmong word list) words among in absurd never;
}

answer_no_link : (answer : Answered) (m : Message) → IsAmong m (answer_sends answer) → IsNoLink m.body
answer_no_link Open m among = absurd among
answer_no_link Unknown m among = absurd among
answer_no_link (Closed (Root joiner)) m among = one_no_link joiner Done tt m among
answer_no_link (Closed (Node name session)) m among = one_no_link name (Ack session) tt m among

parent_no_link : (parent : Parent) → IsNoLink (answer_for parent).body
parent_no_link (Root joiner) = tt
parent_no_link (Node name session) = tt

answered_stamped : (node : NodeState) (session : ℕ) → IsStampedRule node (takes_heard_or_ack node session)
answered_stamped node session =
    wordless node (takes_heard_or_ack node session) refl refl refl (answer_no_link (answer_to (join_session_at node session)))

-- a rule, if there is one
abbrev IsStampedSo : NodeState → Option Reaction → Type 0
IsStampedSo node None = Unit {0}
IsStampedSo node (Some r) = IsStampedRule node r

heard_stamped : (status : Status) (node : NodeState) (from : List ℕ) (session : ℕ)
    → IsStampedSo node (rule_of_frame status node from (Heard session))
unfolding frame_at_joining frame_at_core frame_at_leaving frame_at_ceased
heard_stamped Joining node from session = answered_stamped node session
heard_stamped Core node from session = answered_stamped node session
heard_stamped Leaving node from session = tt
heard_stamped Gone node from session = tt
heard_stamped CeasedStatus node from session = answered_stamped node session

ack_stamped : (status : Status) (node : NodeState) (from : List ℕ) (session : ℕ)
    → IsStampedSo node (rule_of_frame status node from (Ack session))
unfolding frame_at_joining frame_at_core frame_at_leaving frame_at_ceased
ack_stamped Joining node from session = answered_stamped node session
ack_stamped Core node from session = answered_stamped node session
ack_stamped Leaving node from session = tt
ack_stamped Gone node from session = tt
ack_stamped CeasedStatus node from session = answered_stamped node session

link_stamped : (status : Status) (node : NodeState) (from : List ℕ) (version : ℕ) (on : Bool)
    → IsStampedSo node (rule_of_frame status node from (Link version on))
unfolding frame_at_joining frame_at_core frame_at_leaving frame_at_ceased
link_stamped Joining node from version on = wordless node (takes_link_joining node from version on) refl refl refl (λ m among. absurd among)
link_stamped Core node from version on =
    wordless node (takes_link node from version on) refl refl refl (if_no_link (is_new_link node from version on) from Release tt)
link_stamped Leaving node from version on =
    wordless node (takes_link node from version on) refl refl refl (if_no_link (is_new_link node from version on) from Release tt)
link_stamped Gone node from version on = tt
link_stamped CeasedStatus node from version on = wordless node (takes_link_ceased node from on) refl refl refl (if_no_link on from Forget tt)

forget_stamped : (status : Status) (node : NodeState) (from : List ℕ) → IsStampedSo node (rule_of_frame status node from Forget)
unfolding frame_at_joining frame_at_core frame_at_leaving frame_at_ceased
forget_stamped Joining node from = wordless node (takes_forget node from) refl refl refl (λ m among. absurd among)
forget_stamped Core node from = wordless node (takes_forget node from) refl refl refl (λ m among. absurd among)
forget_stamped Leaving node from = tt
forget_stamped Gone node from = tt
forget_stamped CeasedStatus node from = tt

-- a Release, at a node that has a table
released_stamped : (node : NodeState) (from : List ℕ) → has_table node.status → IsStampedRule node (takes_release node from)
released_stamped node from table = record {
  words = one_new (is_pinned (link_to node from) && not (has_room_near node.ties.table from)) from node.stamp false;
  messages = λ m among. absurd among;
  table = λ now. table;
  speaks = λ word among. table;
}

release_stamped : (status : Status) (node : NodeState) (from : List ℕ) → node.status ≡ status
    → IsStampedSo node (rule_of_frame status node from Release)
unfolding frame_at_joining frame_at_core frame_at_leaving frame_at_ceased
release_stamped Joining node from at = released_stamped node from (rw at tt)
release_stamped Core node from at = released_stamped node from (rw at tt)
release_stamped Leaving node from at = tt
release_stamped Gone node from at = tt
release_stamped CeasedStatus node from at = tt

-- ---- covers

-- a node that covers a joiner, once it has pinned it, keeps the status and the stamp
module _ (node : NodeState) (request : Request) where
  module _ (first : Bool) (offer : List Offered) (told : List Target) (left : List Slot) where
    abbrev opening : Reaction
    opening =
        sends (with_session (with_level (with_pin node request.joiner) request) request.parent request.depth
        (answers_awaited first (length told)))
        (greeting request (node.sessions.opened + 1) first offer ++ map (tell_for request (node.sessions.opened + 1) left) told)

    spread_keeps : (none : Bool) → ((cond none
        (sends (with_level (with_pin node request.joiner) request) (answer_for request.parent ∷ [])) opening).state.stamp
        ≡ (with_pin node request.joiner).stamp)
        × ((cond none
        (sends (with_level (with_pin node request.joiner) request) (answer_for request.parent ∷ [])) opening).state.status
        ≡ node.status)
    spread_keeps true = (refl, refl)
    spread_keeps false = (refl, refl)

  found_keeps : (found : Covered)
      → ((covers_as (with_pin node request.joiner) request found).state.stamp ≡ (with_pin node request.joiner).stamp)
      × ((covers_as (with_pin node request.joiner) request found).state.status ≡ node.status)
  found_keeps Already = (refl, refl)
  found_keeps (Now first offer told left) = spread_keeps first offer told left (answers_awaited first (length told) == 0)

  cover_stamped : has_table node.status → IsStampedRule node (pins_and_covers node request)
  cover_stamped table =
      let keeps = found_keeps (found_for node request) in
      record {
        words =
            subst (λ now. AreNewWords node.stamp now (pins_and_covers node request).words) (sym keeps.0)
            (one_new (is_none (link_to node request.joiner)) request.joiner node.stamp true);
        messages = no_links (pins_and_covers node request).messages
            (covers_say (λ (m : Message). IsNoLink m.body) node request (parent_no_link request.parent) (λ first. tt)
            (λ left target among. tt));
        table = λ now. table;
        speaks = λ word among. table;
      }

-- a joining node that meets a joiner
meets_keeps : (node : NodeState) (from : List ℕ) (tell : TellFields) (greeted : Bool)
    → ((cond greeted (sends (with_pin node tell.joiner) (message from (Ack tell.session) ∷ []))
    (welcomes (with_pin node tell.joiner) from tell)).state.stamp ≡ (with_pin node tell.joiner).stamp)
    × ((m : Message) → IsAmong m (cond greeted (sends (with_pin node tell.joiner) (message from (Ack tell.session) ∷ []))
    (welcomes (with_pin node tell.joiner) from tell)).messages → IsNoLink m.body)
meets_keeps node from tell true = (refl, one_no_link from (Ack tell.session) tt)
meets_keeps node from tell false = (refl, one_no_link tell.joiner (joining_hello (node.sessions.opened + 1)) tt)

meets_stamped : (node : NodeState) (from : List ℕ) (tell : TellFields) → has_table node.status → IsStampedRule node (takes_tell_joining node from tell)
meets_stamped node from tell table =
    let keeps = meets_keeps node from tell (has_name node.greeted tell.joiner) in
    record {
      words =
          subst (λ now. AreNewWords node.stamp now (takes_tell_joining node from tell).words) (sym keeps.0)
          (one_new (is_none (link_to node tell.joiner)) tell.joiner node.stamp true);
      messages = no_links (takes_tell_joining node from tell).messages keeps.1;
      table = λ now. table;
      speaks = λ word among. table;
    }

tell_stamped : (status : Status) (node : NodeState) (from : List ℕ) (tell : TellFields) (watch : List Slot) → node.status ≡ status
    → IsStampedSo node (rule_of_frame status node from (tell_body tell watch))
unfolding frame_at_joining frame_at_core frame_at_leaving frame_at_ceased
tell_stamped Joining node from tell watch at = meets_stamped node from tell (rw at tt)
tell_stamped Core node from tell watch at = cover_stamped node (request_of from tell watch) (rw at tt)
tell_stamped Leaving node from tell watch at = tt
tell_stamped Gone node from tell watch at = tt
tell_stamped CeasedStatus node from tell watch at =
    wordless node (takes_tell_ceased node from tell.session) refl refl refl (one_no_link from (Ack tell.session) tt)

seeks_stamped : (node : NodeState) (joiner : List ℕ) → has_table node.status → (found : Sought) → sought node.ties.table joiner ≡ found
    → IsStampedRule node (takes_seek node joiner)
seeks_stamped node joiner table (Forward next) is =
    rw is (wordless node (sends node (message next (Seek joiner) ∷ [])) refl refl refl (one_no_link next (Seek joiner) tt))
seeks_stamped node joiner table (Surrogate prefix) is = rw is (cover_stamped node (first_request node joiner prefix) table)

seek_stamped : (status : Status) (node : NodeState) (from joiner : List ℕ) → node.status ≡ status
    → IsStampedSo node (rule_of_frame status node from (Seek joiner))
unfolding frame_at_joining frame_at_core frame_at_leaving frame_at_ceased
seek_stamped Joining node from joiner at = tt
seek_stamped Core node from joiner at = seeks_stamped node joiner (rw at tt) (sought node.ties.table joiner) refl
seek_stamped Leaving node from joiner at = tt
seek_stamped Gone node from joiner at = tt
seek_stamped CeasedStatus node from joiner at = tt

-- ---- a Hello and a Done

hello_stamped : (status : Status) (node : NodeState) (from : List ℕ) (hello : HelloFields) → status ≡ Joining → node.status ≡ Joining
    → TellsNew node.ties (after_hello node.ties from hello.is_core hello.links) node.stamp (hello_words node from hello.is_core hello.links)
    → IsStampedSo node (rule_of_frame status node from (hello_body hello))
unfolding frame_at_joining frame_at_core frame_at_leaving frame_at_ceased
hello_stamped Joining node from hello is at tells = record {
  words = numbered_new node.stamp (hello_words node from hello.is_core hello.links) (λ i word got. (tells.numbered i word got).0);
  messages = no_links (message from (Heard hello.session) ∷ []) (one_no_link from (Heard hello.session) tt);
  table = λ now. rw at tt;
  speaks = λ word among. rw at tt;
}
hello_stamped Core node from hello is at tells = absurd (cc)
hello_stamped Leaving node from hello is at tells = absurd (cc)
hello_stamped Gone node from hello is at tells = absurd (cc)
hello_stamped CeasedStatus node from hello is at tells = absurd (cc)

releases_no_link : (names : List (List ℕ)) (m : Message) → IsAmong m (to_each Release names) → IsNoLink m.body
releases_no_link names m among =
    let found = among-map_from (λ name. message name Release) m names among in
    subst (λ (n : Message). IsNoLink n.body) (sym found.2) tt

done_stamped : (status : Status) (node : NodeState) (from : List ℕ) → status ≡ Joining → node.status ≡ Joining → node.abandoned ≡ false
    → IsStampedSo node (rule_of_frame status node from Done)
unfolding frame_at_joining frame_at_core frame_at_leaving frame_at_ceased
done_stamped Joining node from is at joined = rw joined (record {
  words = none_new node.stamp;
  messages = no_links (to_each Release (holders_on node.ties)) (releases_no_link (holders_on node.ties));
  table = λ now. rw at tt;
  speaks = λ word among. absurd among;
})
done_stamped Core node from is at joined = absurd (cc)
done_stamped Leaving node from is at joined = absurd (cc)
done_stamped Gone node from is at joined = absurd (cc)
done_stamped CeasedStatus node from is at joined = absurd (cc)

-- ---- by a delivery

-- the step of a rule, if there is one, stamps its words
stamps_by : (node : NodeState) (from : List ℕ) (body : Body) → is_strange node (frame_to node from body) ≡ false
    → IsStampedSo node (rule_of_frame node.status node from body)
    → Stamps node (taken_at node from body).state (name_of node) (taken_at node from body).sent
stamps_by node from body known stamped = step (rule_of_frame node.status node from body) refl stamped
  where
    step : (rule : Option Reaction) → rule_of_frame node.status node from body ≡ rule → IsStampedSo node rule
        → Stamps node (taken_at node from body).state (name_of node) (taken_at node from body).sent
    step None is stamped =
        let ignored = unruled_law node (frame_to node from body) is in
        let stamp : (taken_at node from body).state.stamp ≡ node.stamp = ap (λ (n : NodeState). n.stamp) ignored.state in
        silent_stamps node (taken_at node from body) (name_of node) (ap (λ (n : NodeState). n.status) ignored.state) (omega (arith, stamp))
        (λ frame among version on same.
        let never : IsAmong frame [] = subst (λ sent. IsAmong frame sent) ignored.sent among in never)
    step (Some r) is stamped = rule_stamps node r (taken_at node from body) (frame_law node (frame_to node from body) r known is) stamped

module _ (p : SettingsValue) (s : System) (number : ℕ) (node : NodeState) (from : List ℕ) (body : Body)
    (is : IsDelivery p s number node from body) where
  stamped_after : Stamps node (taken_at node from body).state (name_of node) (taken_at node from body).sent
      → AreStamped (after_delivery p s number)
  stamped_after stamps =
      stamps_frame s (after_delivery p s number) number (frame_to node from body) (name_of node) node (taken_at node from body).state
      (taken_at node from body).sent (is_taken p s number node from body is) (changes_at p s number node from body is)
      (has_done p s number node from body is) stamps is.invariant.versions is.invariant.stamped

  rule_after : IsStampedSo node (rule_of_frame node.status node from body) → AreStamped (after_delivery p s number)
  rule_after stamped = stamped_after (stamps_by node from body is.known stamped)

  quiet_after : IsQuiet body → AreStamped (after_delivery p s number)
  quiet_after quiet =
      let step = quiet_law node (frame_to node from body) quiet in
      stamped_after (silent_stamps node (taken_at node from body) (name_of node) step.status step.stamp (λ frame among version on same.
      let never : IsQuiet (Link version on) = subst IsQuiet same (step.sent frame among) in never))

pub taken_stamped : TakenStamped
taken_stamped p s number node from body is there = by_said body (said_of body) is there
  where
    by_said : (body : Body) → Said body → IsDelivery p s number node from body → IsFilledThere node body
        → AreStamped (after_delivery p s number)
    by_said _ (IsTell tell watch) is there =
        rule_after p s number node from (tell_body tell watch) is (tell_stamped node.status node from tell watch refl)
    by_said _ (IsHello hello) is there =
        let ties = (due p s number node from (hello_body hello) is).is_node.ties in
        rule_after p s number node from (hello_body hello) is
        (hello_stamped node.status node from hello there there
        (hello_tells_new (settings_of node) (name_of node) node.ties node.stamp from hello.is_core hello.links (ties, refl, refl)
        (sender_name p s number node from (hello_body hello) is) (hello_names_are p s number node from hello is)))
    by_said _ (IsSeek joiner) is there = rule_after p s number node from (Seek joiner) is (seek_stamped node.status node from joiner refl)
    by_said _ IsDone is there =
        let joins = joins_here s node (done_joiner p s number node from is there) is.at in
        rule_after p s number node from Done is (done_stamped node.status node from joins joins there)
    by_said _ IsRelease is there = rule_after p s number node from Release is (release_stamped node.status node from refl)
    by_said _ IsForget is there = rule_after p s number node from Forget is (forget_stamped node.status node from)
    by_said _ (IsHeard session) is there = rule_after p s number node from (Heard session) is (heard_stamped node.status node from session)
    by_said _ (IsAck session) is there = rule_after p s number node from (Ack session) is (ack_stamped node.status node from session)
    by_said _ (IsLink version on) is there =
        rule_after p s number node from (Link version on) is (link_stamped node.status node from version on)
    by_said body _ is there = quiet_after p s number node from body is there
