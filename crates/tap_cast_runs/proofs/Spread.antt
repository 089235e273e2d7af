-- What a node tells that covers a joiner: each slot of the watch is in the watch that goes on, or is answered by the node.
use Rattle.std.proofs.Common.{◌≡◌, ◌⊎◌, ◌==◌, ℕ, zero, suc, ◌+◌, Bool, true, false, cond, List, [], ◌∷◌, ◌++◌, length, map, Contains, Option, None, Some, if◌then◌else◌, arith, ap, refl, sym, subst, ◌∙◌, inl, inr}
use Rattle.std.specs.Prelude.{is_some}
use Rattle.std.specs.Option.{is_none}
use Rattle.std.proofs.lemmas.Bool.{cases_Bool, true≢false}
use Rattle.tap_name.specs.Slot.{slot_at}
use Rattle.tap_name.specs.declared.slot.Offered.{Offered}
use Rattle.tap_name.specs.declared.slot.Slot.{Slot}
use Rattle.tap_link.specs.LinkSet.{least_settled}
use Rattle.tap_session.specs.declared.parent.Parent.{Parent}
use Rattle.tap_session.specs.declared.parent.Parent.TheVariants.{Node, Root}
use Rattle.tap_table.specs.declared.tie.Tie.{Tie}
use Rattle.tap_table.specs.Levels.{is_kept}
use Rattle.tap_table.specs.Members.{is_slot}
use Rattle.tap_table.specs.Table.{IsTable, TableValue, links_at}
use Rattle.tap_multicast.specs.declared.covers.Covered.{Covered}
use Rattle.tap_multicast.specs.declared.covers.Covered.TheVariants.{Already, Now}
use Rattle.tap_multicast.specs.declared.target.Target.{Target}
use Rattle.tap_multicast.specs.Covers.{cover_of}
use Rattle.tap_multicast.specs.Offer.{answers, left}
use Rattle.tap_multicast.proofs.Offers.{all_left, left_exactly}
use Rattle.tap_join.specs.Hello.{words_of}
use Rattle.tap_wire.specs.declared.frame.Body.TheVariants.{Ack, Done, Tell}
use Rattle.tap_wire.specs.declared.frame.Frame.{Frame}
use Rattle.tap_wire.specs.declared.frame.TellFields.{TellFields}
use Rattle.tap_rule.specs.Answers.{answer_for, with_session}
use Rattle.tap_rule.specs.Covering.{Request, answers_awaited, covers_as, greeting, pins_and_covers, tell_for, with_level}
use Rattle.tap_rule.specs.Event.{Acted}
use Rattle.tap_rule.specs.JoinSteps.{found_for}
use Rattle.tap_rule.specs.RuleLaws.{IsCarriedOut}
use Rattle.tap_rule.specs.Node.{NodeState, level_of, name_of}
use Rattle.tap_rule.specs.Reaction.{Message, Reaction, pin_word, sends, with_pin, with_words}
use Rattle.tap_rule.specs.Sending.{lay_frame, link_frame}
use Rattle.tap_rule.specs.Sent.{AreSent, IsAmong}
use Rattle.tap_rule.specs.Hellos.{core_hello}
use Rattle.tap_rule.proofs.Among.{among-either, among-map_from}
use Rattle.tap_safety.specs.Frames.{tell_body}
use Rattle.tap_safety.specs.Exchanges.{IsSent}
use Rattle.tap_moves.proofs.InSession.{only_one}
use Rattle.tap_cast_runs.specs.SlotAnswers.{Answer, answer_as, answer_of, answer_with, answers_for}
use Rattle.tap_cast_runs.specs.Recalled.{table_for}

-- ---- which Tells are sent

-- a Tell of the joiner of the request, in this session, with this watch
record TellsSo (request : Request) (session : ℕ) (left : List Slot) (fields : TellFields) (watch : List Slot) : Type 0 where
  joiner : fields.joiner ≡ request.joiner
  prefix : fields.prefix ≡ request.prefix
  session_is : fields.session ≡ session
  watch_is : watch ≡ left

-- a Tell that is sent is one of the messages
sent_tell : (own : List ℕ) (words : List Tie) (messages : List Message) (sent : List Frame) → AreSent own words messages sent
    → (from to : List ℕ) (fields : TellFields) (watch : List Slot) → IsSent sent from to (tell_body fields watch)
    → (from ≡ own) × ((m : Message) × IsAmong m messages × (m.body ≡ tell_body fields watch))
sent_tell own words messages sent are from to fields watch among =
    elim (are.each (record { from = from; to = to; body = tell_body fields watch }) among) [
      | inl link ↦
          let wrong : tell_body fields watch ≡ (link_frame own link.word).body = ap (λ (f : Frame). f.body) link.is in absurd (cc)
      | inr (inl named) ↦ (
        ap (λ (f : Frame). f.from) named.is,
        (named.message, named.among, sym (ap (λ (f : Frame). f.body) named.is)),
      )
      | inr (inr lay) ↦
          let wrong : tell_body fields watch ≡ (lay_frame own lay.lay).body = ap (λ (f : Frame). f.body) lay.is in absurd (cc)
    ]

answer_no_tell : (parent : Parent) (fields : TellFields) (watch : List Slot) → (answer_for parent).body ≡ tell_body fields watch → ⊥
answer_no_tell (Root joiner) fields watch is = let wrong : Done ≡ tell_body fields watch = is in cc
answer_no_tell (Node name session) fields watch is = let wrong : Ack session ≡ tell_body fields watch = is in cc

greeting_no_tell : (request : Request) (session : ℕ) (first : Bool) (offer : List Offered) (m : Message) (fields : TellFields)
    (watch : List Slot) → IsAmong m (greeting request session first offer) → m.body ≡ tell_body fields watch → ⊥
greeting_no_tell request session true offer m fields watch (inl is) body =
    let wrong : core_hello session offer ≡ tell_body fields watch = ap (λ (n : Message). n.body) (sym is) ∙ body in cc
greeting_no_tell request session true offer m fields watch (inr none) body = none
greeting_no_tell request session false offer m fields watch none body = none

spread_tell : (request : Request) (session : ℕ) (first : Bool) (offer : List Offered) (left : List Slot) (told : List Target) (m : Message)
    (fields : TellFields) (watch : List Slot)
    → IsAmong m (greeting request session first offer ++ map (tell_for request session left) told) → m.body ≡ tell_body fields watch
    → TellsSo request session left fields watch
spread_tell request session first offer left told m fields watch among body =
    elim (among-either m (greeting request session first offer) (map (tell_for request session left) told) among) [
      | inl hello ↦ absurd (greeting_no_tell request session first offer m fields watch hello body)
      | inr tell ↦
          let found = among-map_from (tell_for request session left) m told tell in
          let is : Tell request.joiner request.prefix found.0.level session (request.depth + 1) left ≡ tell_body fields watch =
          ap (λ (n : Message). n.body) (sym found.2) ∙ body in
          record { joiner = cc; prefix = cc; session_is = cc; watch_is = cc }
    ]

-- the Tell is one of what is found
abbrev IsOfFound : Request → ℕ → Covered → TellFields → List Slot → Type 0
IsOfFound request session Already fields watch = ⊥
IsOfFound request session (Now first offer told left) fields watch = TellsSo request session left fields watch

module _ (node : NodeState) (request : Request) (acted : Acted) (from to : List ℕ) (fields : TellFields)
    (watch : List Slot) (among : IsSent acted.sent from to (tell_body fields watch)) where
  abbrev own : List ℕ
  own = name_of node

  abbrev session : ℕ
  session = node.sessions.opened + 1

  abbrev words : List Tie
  words = words_of (pin_word node request.joiner)

  -- who answers at once tells nobody
  none_told : (state : NodeState) → IsCarriedOut node (with_words words (sends state (answer_for request.parent ∷ []))) acted → ⊥
  none_told state carried =
      let sent = sent_tell own words (answer_for request.parent ∷ []) acted.sent carried.sent from to fields watch among in
      let same = only_one sent.1.0 (answer_for request.parent) sent.1.1 in
      answer_no_tell request.parent fields watch (ap (λ (m : Message). m.body) (sym same) ∙ sent.1.2)

  module _ (first : Bool) (offer : List Offered) (told : List Target) (left : List Slot) where
    abbrev opening : Reaction
    opening =
        sends (with_session (with_level (with_pin node request.joiner) request) request.parent request.depth
        (answers_awaited first (length told)))
        (greeting request session first offer ++ map (tell_for request session left) told)

    spread_as : (none : Bool) → IsCarriedOut node (with_words words (cond none
        (sends (with_level (with_pin node request.joiner) request) (answer_for request.parent ∷ [])) opening)) acted
        → (from ≡ own) × TellsSo request session left fields watch
    spread_as true carried = absurd (none_told (with_level (with_pin node request.joiner) request) carried)
    spread_as false carried =
        let sent = sent_tell own words (greeting request session first offer ++ map (tell_for request session left) told) acted.sent
        carried.sent from to fields watch among in
        (sent.0, spread_tell request session first offer left told sent.1.0 fields watch sent.1.1 sent.1.2)

  told_as : (found : Covered) → IsCarriedOut node (with_words words (covers_as (with_pin node request.joiner) request found)) acted
      → (from ≡ own) × IsOfFound request session found fields watch
  told_as Already carried = absurd (none_told (with_pin node request.joiner) carried)
  told_as (Now first offer told left) carried = spread_as first offer told left (answers_awaited first (length told) == 0) carried

  -- the watch is what the cover leaves
  of_cover : (first : Bool) (offer : List Offered) (told : List Target) (left : List Slot) (kept : Bool)
      → IsOfFound request session (if kept then Already else Now first offer told left) fields watch
      → TellsSo request session left fields watch
  of_cover first offer told left true never = absurd never
  of_cover first offer told left false tells = tells

-- the watch that such a cover leaves
abbrev pub left_by : NodeState → Request → List Slot
left_by node request =
    left (table_for node request) request.watch
    (cover_of (table_for node request) (level_of node request.joiner) request.joiner request.prefix request.level)

-- a Tell that a node sends that covers a joiner
pub record TellsOn (node : NodeState) (request : Request) (from : List ℕ) (fields : TellFields) (watch : List Slot) : Type 0 where
  pub from_is : from ≡ name_of node
  pub joiner : fields.joiner ≡ request.joiner
  pub prefix : fields.prefix ≡ request.prefix
  pub session_is : fields.session ≡ node.sessions.opened + 1
  pub watch_is : watch ≡ left_by node request

pub covers_tell : (node : NodeState) (request : Request) (acted : Acted) → IsCarriedOut node (pins_and_covers node request) acted
    → (from to : List ℕ) (fields : TellFields) (watch : List Slot) → IsSent acted.sent from to (tell_body fields watch)
    → TellsOn node request from fields watch
covers_tell node request acted carried from to fields watch among =
    let told = told_as node request acted from to fields watch among (found_for node request) carried in
    let tells = of_cover node request acted from to fields watch among _ _ _
    (left_by node request) (is_kept (level_of node request.joiner) request.level) told.1 in
    record {
      from_is = told.0;
      joiner = tells.joiner;
      prefix = tells.prefix;
      session_is = tells.session_is;
      watch_is = tells.watch_is;
    }

-- ---- answers

pub among_left : {A : Type 0} (x : A) (xs ys : List A) → IsAmong x xs → IsAmong x (xs ++ ys)
among_left x [] ys among = absurd among
among_left x (y ∷ xs) ys (inl is) = inl is
among_left x (y ∷ xs) ys (inr later) = inr (among_left x xs ys later)

pub among_right : {A : Type 0} (x : A) (xs ys : List A) → IsAmong x ys → IsAmong x (xs ++ ys)
among_right x [] ys among = among
among_right x (y ∷ xs) ys among = inr (among_right x xs ys among)

module _ (t : TableValue) (joiner : List ℕ) where
  -- who answers a slot answers it with a name
  pub answers_with : (slot : Slot) → answers t joiner slot ≡ true → (named : List ℕ) × (answer_with t joiner slot ≡ Some named)
  answers_with slot answered =
      elim (cases_Bool (is_slot slot (slot_at joiner t.owner))) [
        | inl own ↦ (t.owner, rw own refl)
        | inr other ↦
            let primary : is_some (least_settled (links_at t slot)) ≡ true = rw other at answered in
            by (least_settled (links_at t slot)) refl primary other
      ]
    where
      by : (first : Option (List ℕ)) → least_settled (links_at t slot) ≡ first → is_some (least_settled (links_at t slot)) ≡ true
          → is_slot slot (slot_at joiner t.owner) ≡ false → (named : List ℕ) × (answer_with t joiner slot ≡ Some named)
      by None is some other =
          let none : is_some (least_settled (links_at t slot)) ≡ false = ap is_some is in
          absurd (true≢false (sym some ∙ none))
      by (Some named) is some other = (named, rw other is)

  -- and so each such slot of a watch has its answer
  pub answered_among : (watch : List Slot) (slot : Slot) (named : List ℕ) → Contains watch slot → answer_with t joiner slot ≡ Some named
      → IsAmong (answer_of t joiner slot named) (answers_for t joiner watch)
  unfolding answers_for
  answered_among [] slot named (k, within, is) with_name = absurd (omega arith)
  answered_among (first ∷ rest) slot named (zero, within, is) with_name =
      let there : answer_with t joiner first ≡ Some named = ap (answer_with t joiner) is ∙ with_name in
      among_left (answer_of t joiner slot named) (answer_as t joiner first (answer_with t joiner first)) (answers_for t joiner rest)
      (rw there (inl (ap (λ s. answer_of t joiner s named) (sym is))))
  answered_among (first ∷ rest) slot named (suc k, within, is) with_name =
      among_right (answer_of t joiner slot named) (answer_as t joiner first (answer_with t joiner first))
      (answers_for t joiner rest) (answered_among rest slot named (k, omega arith, is) with_name)

-- a slot of the watch stays in it, or the cover is the first, and answers it
pub left_or_answered : (node : NodeState) (request : Request) → IsTable (table_for node request) → (slot : Slot)
    → Contains request.watch slot → Contains (left_by node request) slot
    ⊎ ((is_none (level_of node request.joiner) ≡ true) × (answers (table_for node request) request.joiner slot ≡ true))
left_or_answered node request valid slot there =
    let t = table_for node request in
    let cover = cover_of t (level_of node request.joiner) request.joiner request.prefix request.level in
    elim (cases_Bool (is_none (level_of node request.joiner))) [
      | inl first ↦ elim (cases_Bool (answers t request.joiner slot)) [
        | inl answered ↦ inr (first, answered)
        | inr not_answered ↦ inl ((left_exactly t valid request.watch cover first slot).1 (there, not_answered))
      ]
      | inr again ↦ inl (subst (λ slots. Contains slots slot) (sym (all_left t request.watch cover again)) there)
    ]

-- and what is left was in it
pub left_within : (node : NodeState) (request : Request) → IsTable (table_for node request) → (slot : Slot)
    → Contains (left_by node request) slot → Contains request.watch slot
left_within node request valid slot there =
    let t = table_for node request in
    let cover = cover_of t (level_of node request.joiner) request.joiner request.prefix request.level in
    elim (cases_Bool (is_none (level_of node request.joiner))) [
      | inl first ↦ ((left_exactly t valid request.watch cover first slot).0 there).0
      | inr again ↦ subst (λ slots. Contains slots slot) (all_left t request.watch cover again) there
    ]

-- ---- which answers a node gives

-- an answer is for a slot of the watch, with the name that the table gives
pub record IsGiven (t : TableValue) (joiner : List ℕ) (watch : List Slot) (answer : Answer) : Type 0 where
  pub slot : Slot
  pub there : Contains watch slot
  pub named : List ℕ
  pub with_name : answer_with t joiner slot ≡ Some named
  pub is : answer ≡ answer_of t joiner slot named

given_first : (t : TableValue) (joiner : List ℕ) (watch : List Slot) (first : Slot) (answer : Answer) (found : Option (List ℕ))
    → answer_with t joiner first ≡ found → IsAmong answer (answer_as t joiner first found)
    → IsGiven t joiner (first ∷ watch) answer
given_first t joiner watch first answer None is among = absurd among
given_first t joiner watch first answer (Some named) is (inl same) =
    record { slot = first; there = (0, omega arith, refl); named = named; with_name = is; is = same }
given_first t joiner watch first answer (Some named) is (inr none) = absurd none

pub given : (t : TableValue) (joiner : List ℕ) (watch : List Slot) (answer : Answer) → IsAmong answer (answers_for t joiner watch)
    → IsGiven t joiner watch answer
unfolding answers_for
given t joiner [] answer among = absurd among
given t joiner (first ∷ watch) answer among =
    elim (among-either answer (answer_as t joiner first (answer_with t joiner first)) (answers_for t joiner watch) among) [
      | inl here ↦ given_first t joiner watch first answer (answer_with t joiner first) refl here
      | inr later ↦
          let rest = given t joiner watch answer later in
          record {
            slot = rest.slot;
            there = (suc rest.there.0, omega (arith, rest.there.1), rest.there.2);
            named = rest.named;
            with_name = rest.with_name;
            is = rest.is;
          }
    ]

-- it is the node's own name, or that of the primary
pub own_or_primary : (t : TableValue) (joiner : List ℕ) (slot : Slot) (named : List ℕ) → answer_with t joiner slot ≡ Some named
    → ((named ≡ t.owner) × (is_slot slot (slot_at joiner t.owner) ≡ true)) ⊎ (least_settled (links_at t slot) ≡ Some named)
own_or_primary t joiner slot named is =
    elim (cases_Bool (is_slot slot (slot_at joiner t.owner))) [
      | inl own ↦ let both : Some t.owner ≡ Some named = rw own at is in let same : t.owner ≡ named = cc in inl (sym same, own)
      | inr other ↦ let primary : least_settled (links_at t slot) ≡ Some named = rw other at is in inr primary
    ]
