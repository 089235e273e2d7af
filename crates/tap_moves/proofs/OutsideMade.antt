-- Frames of no session leave the sessions as they are, and a Hello is answered in its own.
use Rattle.std.proofs.Common.{◌≡◌, ℕ, Bool, List, [], ◌∷◌, Option, None, Some, true, false, if◌then◌else◌, ap, refl, sym, ◌∙◌}
use Rattle.tap_session.specs.Session.{SessionsValue}
use Rattle.tap_table.specs.Ties.{holders_on}
use Rattle.tap_join.specs.Seek.{sought}
use Rattle.tap_join.specs.declared.sought.Sought.TheVariants.{Forward}
use Rattle.tap_wire.specs.declared.frame.Body.{Body}
use Rattle.tap_wire.specs.declared.frame.Body.TheVariants.{Done, Forget, Heard, Link, Release, Seek}
use Rattle.tap_wire.specs.declared.frame.Frame.{Frame}
use Rattle.tap_rule.specs.Ceasing.{ceases}
use Rattle.tap_rule.specs.FrameRules.{frame_at_ceased, frame_at_core, frame_at_joining, frame_at_leaving, rule_of_frame}
use Rattle.tap_rule.specs.Joining.{becomes_core, hello_words}
use Rattle.tap_rule.specs.RuleLaws.{frame_to}
use Rattle.tap_rule.specs.Links.{is_new_link}
use Rattle.tap_rule.specs.Node.{NodeState, Status, name_of}
use Rattle.tap_rule.specs.Node.Status.{Ceased, Core, Gone, Joining, Leaving}
use Rattle.tap_rule.specs.QuietSteps.{IsQuiet}
use Rattle.tap_rule.specs.Reaction.{Message, Reaction, message, to_each}
use Rattle.tap_rule.specs.Sending.{message_frame}
use Rattle.tap_rule.specs.Sent.{IsAmong}
use Rattle.tap_rule.specs.Strange.{is_strange}
use Rattle.tap_rule.proofs.Among.{among-map_from}
use Rattle.tap_rule.proofs.CarriedOut.{frame_law, unruled_law}
use Rattle.tap_rule.proofs.JoinSteps.{hello_law}
use Rattle.tap_rule.proofs.QuietSteps.{quiet_law}
use Rattle.tap_safety.specs.Frames.{hello_body}
use Rattle.tap_safety.specs.Sessions.{Belongs, session_named}
use Rattle.tap_safety.specs.Turned.{closed_by}
use Rattle.tap_safety.proofs.Said.{Said, said_of}
use Rattle.tap_safety.proofs.Said.Said.{IsAck, IsHeard, IsHello, IsTell}
use Rattle.tap_moves.specs.ByRule.{taken_at}
use Rattle.tap_moves.specs.SessionsLaws.{HandsOnByHello, IsOutside, OutsideLeavesSessions}
use Rattle.tap_moves.proofs.InSession.{one_place, only_one, sent_in}
use Rattle.tap_moves.proofs.SessionsMade.{hands_on_as, leaves_sessions}

-- no session is opened, and nothing is sent in one
pub record IsAside (node : NodeState) (opened : ℕ) (sent : List Frame) : Type 0 where
  pub opened_same : opened ≡ node.sessions.opened
  pub sent_none : (f : Frame) (y : List ℕ) (k : ℕ) → IsAmong f sent → Belongs f y k → ⊥

-- so it is by a rule, if there is one
abbrev IsAsideBy : NodeState → Option Reaction → Type 0
IsAsideBy node None = Unit {0}
IsAsideBy node (Some r) = (r.state.sessions.opened ≡ node.sessions.opened)
    × ((m : Message) (y : List ℕ) (k : ℕ) → IsAmong m r.messages → Belongs (message_frame (name_of node) m) y k → ⊥)

aside_by : (node : NodeState) (from : List ℕ) (body : Body) → is_strange node (frame_to node from body) ≡ false
    → IsAsideBy node (rule_of_frame node.status node from body)
    → IsAside node (taken_at node from body).state.sessions.opened (taken_at node from body).sent
aside_by node from body known aside = step (rule_of_frame node.status node from body) refl aside
  where
    step : (rule : Option Reaction) → rule_of_frame node.status node from body ≡ rule → IsAsideBy node rule
        → IsAside node (taken_at node from body).state.sessions.opened (taken_at node from body).sent
    step None is aside =
        let ignored = unruled_law node (frame_to node from body) is in
        record {
          opened_same = ap (λ (n : NodeState). n.sessions.opened) ignored.state;
          sent_none = λ f y k among belongs. let nothing : IsAmong f [] = rw ignored.sent at among in absurd nothing;
        }
    step (Some r) is aside =
        let carried = frame_law node (frame_to node from body) r known is in
        record {
          opened_same = ap (λ (o : SessionsValue). o.opened) carried.sessions ∙ aside.0;
          sent_none = λ f y k among belongs.
              let found = sent_in (name_of node) r.words r.messages (taken_at node from body).sent carried.sent f y k among belongs in
              aside.1 found.0 y k found.1 found.2;
        }

-- messages of one kind to some names
none_to_each : (own : List ℕ) (body : Body) → ((to y : List ℕ) (k : ℕ) → Belongs (message_frame own (message to body)) y k → ⊥)
    → (names : List (List ℕ)) (m : Message) (y : List ℕ) (k : ℕ) → IsAmong m (to_each body names) → Belongs (message_frame own m) y k → ⊥
none_to_each own body none names m y k among belongs =
    let found = among-map_from (λ name. message name body) m names among in none found.0 y k (rw found.2 at belongs)

-- or one, or none
none_if : (own : List ℕ) (body : Body) → ((to y : List ℕ) (k : ℕ) → Belongs (message_frame own (message to body)) y k → ⊥)
    → (to : List ℕ) (test : Bool) (m : Message) (y : List ℕ) (k : ℕ) → IsAmong m (if test then message to body ∷ [] else [])
    → Belongs (message_frame own m) y k → ⊥
none_if own body none to true m y k among belongs = none to y k (rw (only_one m (message to body) among) at belongs)
none_if own body none to false m y k among belongs = among

release_none : (own to y : List ℕ) (k : ℕ) → Belongs (message_frame own (message to Release)) y k → ⊥
release_none own to y k belongs = absurd (cc)

forget_none : (own to y : List ℕ) (k : ℕ) → Belongs (message_frame own (message to Forget)) y k → ⊥
forget_none own to y k belongs = absurd (cc)

done_aside : (node : NodeState) (given_up : Bool) → IsAsideBy node (Some (if given_up then ceases node else becomes_core node))
done_aside node true = (refl, none_to_each (name_of node) Forget (forget_none (name_of node)) (holders_on node.ties))
done_aside node false = (refl, none_to_each (name_of node) Release (release_none (name_of node)) (holders_on node.ties))

done_rule : (status : Status) (node : NodeState) (from : List ℕ) → IsAsideBy node (rule_of_frame status node from Done)
unfolding frame_at_joining frame_at_core frame_at_leaving frame_at_ceased
done_rule Joining node from = done_aside node node.abandoned
done_rule Core node from = tt
done_rule Leaving node from = tt
done_rule Gone node from = tt
done_rule Ceased node from = tt

release_rule : (status : Status) (node : NodeState) (from : List ℕ) → IsAsideBy node (rule_of_frame status node from Release)
unfolding frame_at_joining frame_at_core frame_at_leaving frame_at_ceased
release_rule Joining node from = (refl, λ m y k none belongs. none)
release_rule Core node from = (refl, λ m y k none belongs. none)
release_rule Leaving node from = tt
release_rule Gone node from = tt
release_rule Ceased node from = tt

forget_rule : (status : Status) (node : NodeState) (from : List ℕ) → IsAsideBy node (rule_of_frame status node from Forget)
unfolding frame_at_joining frame_at_core frame_at_leaving frame_at_ceased
forget_rule Joining node from = (refl, λ m y k none belongs. none)
forget_rule Core node from = (refl, λ m y k none belongs. none)
forget_rule Leaving node from = tt
forget_rule Gone node from = tt
forget_rule Ceased node from = tt

link_rule : (status : Status) (node : NodeState) (from : List ℕ) (version : ℕ) (on : Bool)
    → IsAsideBy node (rule_of_frame status node from (Link version on))
unfolding frame_at_joining frame_at_core frame_at_leaving frame_at_ceased
link_rule Joining node from version on = (refl, λ m y k none belongs. none)
link_rule Core node from version on =
    (refl, none_if (name_of node) Release (release_none (name_of node)) from (is_new_link node from version on))
link_rule Leaving node from version on =
    (refl, none_if (name_of node) Release (release_none (name_of node)) from (is_new_link node from version on))
link_rule Gone node from version on = tt
link_rule Ceased node from version on = (refl, none_if (name_of node) Forget (forget_none (name_of node)) from on)

pub seek_none : (own next joiner : List ℕ) (m : Message) (y : List ℕ) (k : ℕ) → IsAmong m (message next (Seek joiner) ∷ [])
    → Belongs (message_frame own m) y k → ⊥
seek_none own next joiner m y k among belongs =
    let here : Belongs (message_frame own (message next (Seek joiner))) y k =
    rw (only_one m (message next (Seek joiner)) among) at belongs in
    absurd (cc)

seek_rule : (status : Status) (node : NodeState) (from joiner next : List ℕ) → sought node.ties.table joiner ≡ Forward next
    → IsAsideBy node (rule_of_frame status node from (Seek joiner))
unfolding frame_at_joining frame_at_core frame_at_leaving frame_at_ceased
seek_rule Joining node from joiner next is = tt
seek_rule Core node from joiner next is = rw is (refl, seek_none (name_of node) next joiner)
seek_rule Leaving node from joiner next is = tt
seek_rule Gone node from joiner next is = tt
seek_rule Ceased node from joiner next is = tt

-- frames of pointers and casts belong to no session of a join
pub quiet_none : {body : Body} → Said body → (from to y : List ℕ) (k : ℕ) → IsQuiet body
    → ◌≡◌ {A = Option (List ℕ × ℕ)} (session_named body from to) (Some (y, k)) → ⊥
quiet_none (IsTell tell watch) from to y k quiet belongs = absurd quiet
quiet_none (IsHello hello) from to y k quiet belongs = absurd quiet
quiet_none (IsHeard session) from to y k quiet belongs = absurd quiet
quiet_none (IsAck session) from to y k quiet belongs = absurd quiet
quiet_none _ from to y k quiet belongs = absurd (cc)

quiet_aside : (node : NodeState) (from : List ℕ) (body : Body) → IsQuiet body
    → IsAside node (taken_at node from body).state.sessions.opened (taken_at node from body).sent
quiet_aside node from body quiet =
    let step = quiet_law node (frame_to node from body) quiet in
    record {
      opened_same = ap (λ (o : SessionsValue). o.opened) step.sessions;
      sent_none = λ f y k among belongs. quiet_none (said_of f.body) f.from f.to y k (step.sent f among) belongs;
    }

pub outside_aside : (node : NodeState) (from : List ℕ) (body : Body) → is_strange node (frame_to node from body) ≡ false → IsOutside node body
    → IsAside node (taken_at node from body).state.sessions.opened (taken_at node from body).sent
outside_aside node from Done known outside = aside_by node from Done known (done_rule node.status node from)
outside_aside node from Release known outside = aside_by node from Release known (release_rule node.status node from)
outside_aside node from Forget known outside = aside_by node from Forget known (forget_rule node.status node from)
outside_aside node from (Link version on) known outside =
    aside_by node from (Link version on) known (link_rule node.status node from version on)
outside_aside node from (Seek joiner) known outside =
    aside_by node from (Seek joiner) known (seek_rule node.status node from joiner outside.0 outside.1)
outside_aside node from body known outside = quiet_aside node from body outside

-- such a frame names no session, and closes none
outside_named : (node : NodeState) {body : Body} → Said body → (from to : List ℕ) → IsOutside node body
    → (◌≡◌ {A = Option (List ℕ × ℕ)} (session_named body from to) None) × ((after : NodeState) → closed_by body after ≡ None)
outside_named node (IsTell tell watch) from to outside = absurd outside
outside_named node (IsHello hello) from to outside = absurd outside
outside_named node (IsHeard session) from to outside = absurd outside
outside_named node (IsAck session) from to outside = absurd outside
outside_named node _ from to outside = (refl, λ after. refl)

pub outside_leaves : OutsideLeavesSessions
outside_leaves s s' number node from body before taken remembers outside =
    let aside = outside_aside node from body taken.known outside in
    let named = outside_named node (said_of body) from (name_of node) outside in
    leaves_sessions s s' number node from body before taken remembers aside.opened_same named.0
    (named.1 (taken_at node from body).state) aside.sent_none

pub hello_hands_on : HandsOnByHello
hello_hands_on s s' number node from hello before taken remembers at =
    let step = hello_law node from hello at taken.known in
    let acted = taken_at node from (hello_body hello) in
    hands_on_as s s' number node from (hello_body hello) before taken remembers
    (ap (λ (o : SessionsValue). o.opened) step.sessions) from hello.session refl refl
    (λ f y n among belongs.
    let found = sent_in (name_of node) (hello_words node from hello.is_core hello.links)
    (message from (Heard hello.session) ∷ []) acted.sent step.sent f y n among belongs in
    let is : Belongs (message_frame (name_of node) (message from (Heard hello.session))) y n =
    rw (only_one found.0 (message from (Heard hello.session)) found.1) at found.2 in
    let same = one_place from y hello.session n is in
    (sym same.0, sym same.1))
