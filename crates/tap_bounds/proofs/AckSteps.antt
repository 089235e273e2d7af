-- How many Acks a Seek and a Tell bring, with the sessions that they open.
use Rattle.std.proofs.Common.{◌≡◌, ◌==◌, ℕ, ◌+◌, Bool, true, false, cond, if◌then◌else◌, List, [], ◌∷◌, length, map, arith, ap, refl}
use Rattle.std.proofs.lemmas.List.Elements.{All-append, All-cons, All-map, All-nil}
use Rattle.tap_name.specs.Names.{has_name}
use Rattle.tap_name.specs.declared.slot.Offered.{Offered}
use Rattle.tap_session.specs.declared.parent.Parent.{Parent}
use Rattle.tap_session.specs.declared.parent.Parent.TheVariants.{Node}
use Rattle.tap_session.specs.Sessions.{next_session}
use Rattle.tap_multicast.specs.declared.covers.Covered.{Covered}
use Rattle.tap_multicast.specs.declared.covers.Covered.TheVariants.{Already, Now}
use Rattle.tap_multicast.specs.Covers.{covered}
use Rattle.tap_join.specs.Hello.{words_of}
use Rattle.tap_join.specs.declared.sought.Sought.{Sought}
use Rattle.tap_join.specs.declared.sought.Sought.TheVariants.{Forward, Surrogate}
use Rattle.tap_wire.specs.declared.frame.Body.TheVariants.{Ack, Seek}
use Rattle.tap_wire.specs.declared.frame.TellFields.{TellFields}
use Rattle.tap_rule.specs.Answers.{answer_for, next_number, with_session}
use Rattle.tap_rule.specs.Ceasing.{takes_tell_ceased}
use Rattle.tap_rule.specs.Covering.{Request, answers_awaited, covers_as, first_request, greeting, pins_and_covers, takes_seek_as, tell_for, with_level}
use Rattle.tap_rule.specs.Joining.{takes_tell_joining, welcomes}
use Rattle.tap_rule.specs.Node.{NodeState}
use Rattle.tap_rule.specs.Reaction.{Message, message, pin_word, sends, with_pin, with_words}
use Rattle.tap_rule.specs.Hellos.{core_hello, joining_hello}
use Rattle.tap_bounds.specs.Acks.{is_below_node, is_below_parent}
use Rattle.tap_bounds.proofs.Counting.{count-append, count-cons}
use Rattle.tap_bounds.proofs.AckRules.{AreUnacked, FewAcks, IsUnacked, below, none_acked, one_for, same_acks}

-- how many Acks are due to a parent: one to another node, and none to a joiner
abbrev pub acks_due : Parent → ℕ
acks_due parent = cond (is_below_parent parent) 1 0

module _ (node : NodeState) where
  -- a session more is open, and no Ack is sent
  opened_acks : (before : NodeState) (parent : Parent) (depth waiting : ℕ) (words : _) (told : List Message) → before.sessions ≡ node.sessions
      → AreUnacked told → FewAcks node (acks_due parent) (with_words words (sends (with_session before parent depth waiting) told))
  opened_acks before parent depth waiting words told same plain = record {
    few =
        let none = none_acked told plain in
        let more = count-append is_below_node before.sessions.sessions (next_session before.sessions parent depth waiting ∷ []) in
        let new = count-cons is_below_node (next_session before.sessions parent depth waiting) [] in
        let alike = ap (λ (s : Rattle.tap_session.specs.Session.SessionsValue). below s.sessions) same in
        omega (arith, none, more, new, alike);
  }

  -- the parent is answered, and no session opens
  alone_acks : (before : NodeState) (parent : Parent) (words : _) → before.sessions ≡ node.sessions
      → FewAcks node (acks_due parent) (with_words words (sends before (answer_for parent ∷ [])))
  alone_acks before parent words same = record {
    few =
        let one = one_for parent in
        let alike = ap (λ (s : Rattle.tap_session.specs.Session.SessionsValue). below s.sessions) same in
        omega (arith, one, alike);
  }

  module _ (request : Request) where
    greeting_plain : (session : ℕ) (first : Bool) (offer : List Offered) → AreUnacked (greeting request session first offer)
    greeting_plain session true offer =
        All-cons (λ m. IsUnacked m.body) (message request.joiner (core_hello session offer)) [] tt (All-nil (λ m. IsUnacked m.body))
    greeting_plain session false offer = All-nil (λ m. IsUnacked m.body)

    spreading : (told : List Message) (waiting : ℕ) (at_once : Bool) → AreUnacked told → FewAcks node (acks_due request.parent)
        (with_words (words_of (pin_word node request.joiner)) (cond at_once
        (sends (with_level (with_pin node request.joiner) request) (answer_for request.parent ∷ []))
        (sends (with_session (with_level (with_pin node request.joiner) request) request.parent request.depth waiting) told)))
    spreading told waiting true plain = alone_acks (with_level (with_pin node request.joiner) request) request.parent _ refl
    spreading told waiting false plain =
        opened_acks (with_level (with_pin node request.joiner) request) request.parent request.depth waiting _ told refl plain

    covering : (found : Covered) → FewAcks node (acks_due request.parent)
        (with_words (words_of (pin_word node request.joiner)) (covers_as (with_pin node request.joiner) request found))
    covering Already = alone_acks (with_pin node request.joiner) request.parent _ refl
    covering (Now first offer targets left) =
        let session = node.sessions.opened + 1 in
        spreading _ (answers_awaited first (length targets)) (answers_awaited first (length targets) == 0)
        (All-append (λ m. IsUnacked m.body) (greeting request session first offer) (map (tell_for request session left) targets)
        (greeting_plain session first offer)
        (All-map (λ m. IsUnacked m.body) (tell_for request session left) targets (λ k d within. tt)))

    pub pins_acks : FewAcks node (acks_due request.parent) (pins_and_covers node request)
    pins_acks = covering (covered node.covers (with_pin node request.joiner).ties.table request.watch request.joiner request.prefix
        request.level)

  pub seeks_acks : (joiner : List ℕ) (found : Sought) → FewAcks node 0 (takes_seek_as node joiner found)
  seeks_acks joiner (Forward next) =
      same_acks node (takes_seek_as node joiner (Forward next)) refl
      (All-cons (λ m. IsUnacked m.body) (message next (Seek joiner)) [] tt (All-nil (λ m. IsUnacked m.body)))
  seeks_acks joiner (Surrogate prefix) = pins_acks (first_request node joiner prefix)

  module _ (from : List ℕ) (tell : TellFields) where
    by_before : (before : Bool) → FewAcks node 1 (with_words (words_of (pin_word node tell.joiner)) (if before
        then sends (with_pin node tell.joiner) (message from (Ack tell.session) ∷ [])
        else welcomes (with_pin node tell.joiner) from tell))
    by_before true = alone_acks (with_pin node tell.joiner) (Node from tell.session) _ refl
    by_before false =
        opened_acks (Rattle.tap_rule.specs.Joining.with_greeting (with_pin node tell.joiner) tell.joiner) (Node from tell.session) tell.depth 1 _
        (message tell.joiner (joining_hello (next_number (with_pin node tell.joiner))) ∷ []) refl
        (All-cons (λ m. IsUnacked m.body) (message tell.joiner (joining_hello (next_number (with_pin node tell.joiner)))) [] tt
        (All-nil (λ m. IsUnacked m.body)))

    pub meets_acks : FewAcks node 1 (takes_tell_joining node from tell)
    meets_acks = by_before (has_name node.greeted tell.joiner)

    pub ceased_acks : FewAcks node 1 (takes_tell_ceased node from tell.session)
    ceased_acks = record { few = omega arith }
