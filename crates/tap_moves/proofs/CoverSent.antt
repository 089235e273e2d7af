-- What a node sends when it covers a joiner: words, Lays, an answer, a Hello to the joiner, and a Tell for each target.
use Rattle.std.proofs.Common.{◌≡◌, ◌==◌, ℕ, ◌+◌, Bool, true, false, List, [], ◌∷◌, ◌++◌, length, map, cond, if◌then◌else◌, refl, sym, subst, inl, inr}
use Rattle.std.specs.Option.{is_none}
use Rattle.tap_name.specs.declared.slot.Offered.{Offered}
use Rattle.tap_name.specs.declared.slot.Slot.{Slot}
use Rattle.tap_table.specs.Levels.{is_kept}
use Rattle.tap_table.specs.Ties.{pinned}
use Rattle.tap_multicast.specs.declared.covers.Covered.{Covered}
use Rattle.tap_multicast.specs.declared.covers.Covered.TheVariants.{Already, Now}
use Rattle.tap_multicast.specs.declared.target.Target.{Target}
use Rattle.tap_multicast.specs.Covers.{cover_of}
use Rattle.tap_multicast.specs.Offer.{left}
use Rattle.tap_join.specs.Hello.{words_of}
use Rattle.tap_wire.specs.declared.frame.Body.{Body}
use Rattle.tap_wire.specs.declared.frame.Body.TheVariants.{Lay, Link}
use Rattle.tap_rule.specs.Answers.{answer_for, with_session}
use Rattle.tap_rule.specs.Covering.{Request, answers_awaited, covers_as, greeting, pins_and_covers, tell_for, with_level}
use Rattle.tap_rule.specs.Event.{Acted}
use Rattle.tap_rule.specs.JoinSteps.{found_for}
use Rattle.tap_rule.specs.RuleLaws.{IsCarriedOut}
use Rattle.tap_rule.specs.Node.{NodeState, level_of, name_of}
use Rattle.tap_rule.specs.Reaction.{Message, Reaction, message, pin_word, sends, with_pin}
use Rattle.tap_rule.specs.Sent.{IsAmong}
use Rattle.tap_rule.specs.Hellos.{core_hello}
use Rattle.tap_rule.proofs.Among.{among-either, among-map_from}
use Rattle.tap_safety.specs.Exchanges.{IsSent}
use Rattle.tap_safety.proofs.SoftKept.{only_message, sent_each}
use Rattle.tap_moves.proofs.CoverMade.{hello_made, told_targets}

-- ---- the messages

-- what holds of the Hello to a joiner holds of what greets it
greeting_so : (Q : Message → Type 0) (request : Request) (session : ℕ) (first : Bool) (offer : List Offered)
    → (first ≡ true → Q (message request.joiner (core_hello session offer))) → (m : Message)
    → IsAmong m (greeting request session first offer) → Q m
greeting_so Q request session true offer hello m (inl is) = subst Q (sym is) (hello refl)
greeting_so Q request session true offer hello m (inr none) = absurd none
greeting_so Q request session false offer hello m none = absurd none

-- and what holds of each Tell of these targets, too, of all that spreads a joiner
spread_so : (Q : Message → Type 0) (request : Request) (session : ℕ) (first : Bool) (offer : List Offered) (left : List Slot)
    (told : List Target) → (first ≡ true → Q (message request.joiner (core_hello session offer)))
    → ((target : Target) → IsAmong target told → Q (tell_for request session left target)) → (m : Message)
    → IsAmong m (greeting request session first offer ++ map (tell_for request session left) told) → Q m
spread_so Q request session first offer left told hello tells m among =
    elim (among-either m (greeting request session first offer) (map (tell_for request session left) told) among) [
      | inl greets ↦ greeting_so Q request session first offer hello m greets
      | inr tell ↦
          let found = among-map_from (tell_for request session left) m told tell in
          subst Q (sym found.2) (tells found.0 found.1)
    ]

module _ (Q : Message → Type 0) (node : NodeState) (request : Request) (answer : Q (answer_for request.parent)) where
  abbrev session : ℕ
  session = node.sessions.opened + 1

  -- what holds of the Hello and of each Tell that a cover comes to
  abbrev IsSoFor : Covered → Type 0
  IsSoFor Already = Unit {0}
  IsSoFor (Now first offer told left) =
      (first ≡ true → Q (message request.joiner (core_hello session offer)))
      × ((target : Target) → IsAmong target told → Q (tell_for request session left target))

  -- who answers at once sends nothing else
  answer_so : (m : Message) → IsAmong m (answer_for request.parent ∷ []) → Q m
  answer_so m among = subst Q (sym (only_message m (answer_for request.parent) among)) answer

  module _ (first : Bool) (offer : List Offered) (told : List Target) (left : List Slot)
      (so : IsSoFor (Now first offer told left)) where
    abbrev opening : Reaction
    opening =
        sends (with_session (with_level (with_pin node request.joiner) request) request.parent request.depth
        (answers_awaited first (length told)))
        (greeting request session first offer ++ map (tell_for request session left) told)

    spread_as : (none : Bool) (m : Message) → IsAmong m (cond none
        (sends (with_level (with_pin node request.joiner) request) (answer_for request.parent ∷ [])) opening).messages → Q m
    spread_as true m among = answer_so m among
    spread_as false m among = spread_so Q request session first offer left told so.0 so.1 m among

  found_so : (found : Covered) → IsSoFor found → (m : Message)
      → IsAmong m (covers_as (with_pin node request.joiner) request found).messages → Q m
  found_so Already so m among = answer_so m among
  found_so (Now first offer told left) so m among =
      spread_as first offer told left so (answers_awaited first (length told) == 0) m among

  if_so : (first : Bool) (offer : List Offered) (told : List Target) (left : List Slot) (kept : Bool)
      → IsSoFor (Now first offer told left) → IsSoFor (if kept then Already else Now first offer told left)
  if_so first offer told left true so = tt
  if_so first offer told left false so = so

-- the watch that is left after a cover
abbrev left_after : NodeState → Request → List Slot
left_after node request =
    left (pinned node.ties request.joiner).table request.watch
    (cover_of (pinned node.ties request.joiner).table (level_of node request.joiner) request.joiner request.prefix request.level)

-- what holds of the answer, the Hello and each Tell holds of all messages
pub covers_say : (Q : Message → Type 0) (node : NodeState) (request : Request) → Q (answer_for request.parent)
    → (is_none (level_of node request.joiner) ≡ true
    → Q (message request.joiner (core_hello (node.sessions.opened + 1) (hello_made node request).links)))
    → ((left : List Slot) (target : Target) → IsAmong target (told_targets node request)
    → Q (tell_for request (node.sessions.opened + 1) left target))
    → (m : Message) → IsAmong m (pins_and_covers node request).messages → Q m
covers_say Q node request answer hello tells =
    found_so Q node request answer (found_for node request)
    (if_so Q node request answer (is_none (level_of node request.joiner)) (hello_made node request).links (told_targets node request)
    (left_after node request) (is_kept (level_of node request.joiner) request.level) (hello, tells (left_after node request)))

-- ---- the frames

-- what holds of words, Lays, the answer, the Hello and each Tell holds of all that is sent
pub covers_send : (P : List ℕ → List ℕ → Body → Type 0) (node : NodeState) (request : Request) (acted : Acted)
    → IsCarriedOut node (pins_and_covers node request) acted
    → ((to : List ℕ) (version : ℕ) (on : Bool) → P (name_of node) to (Link version on))
    → ((to object server : List ℕ) (level version : ℕ) (on : Bool) → P (name_of node) to (Lay object server level version on))
    → P (name_of node) (answer_for request.parent).to (answer_for request.parent).body
    → (is_none (level_of node request.joiner) ≡ true
    → P (name_of node) request.joiner (core_hello (node.sessions.opened + 1) (hello_made node request).links))
    → ((left : List Slot) (target : Target) → IsAmong target (told_targets node request)
    → P (name_of node) target.to (tell_for request (node.sessions.opened + 1) left target).body)
    → (from to : List ℕ) (body : Body) → IsSent acted.sent from to body → P from to body
covers_send P node request acted carried links lays answers hello tells =
    sent_each (name_of node) (words_of (pin_word node request.joiner)) (pins_and_covers node request).messages acted.sent carried.sent P
    links lays (covers_say (λ (m : Message). P (name_of node) m.to m.body) node request answers hello tells)
