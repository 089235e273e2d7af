-- The steps of casts, from the frames that were added.
use Rattle.std.proofs.Common.{◌≡◌, ◌==◌, ℕ, ◌+◌, ◌<◌, ◌≤◌, Bool, true, false, List, [], ◌∷◌, ◌++◌, length, map, filter, Option, None, Some, All, arith, refl, ap, subst, ◌∙◌, eqb-true, inl, inr}
use Rattle.std.specs.List.{flat_map}
use Rattle.std.specs.Option.{is_none}
use Rattle.std.proofs.lemmas.Bool.{cases_Bool, true≢false}
use Rattle.std.proofs.lemmas.List.{length-append, length-map}
use Rattle.std.proofs.lemmas.List.Elements.{All-map}
use Rattle.tap_name.specs.declared.slot.Slot.{Slot}
use Rattle.tap_name.specs.Name.{IsName}
use Rattle.tap_name.specs.Word.{IsWord}
use Rattle.tap_link.specs.Entry.{LinkEntry}
use Rattle.tap_link.specs.LinkSet.{is_pinned, least_settled}
use Rattle.tap_session.specs.declared.parent.Parent.{Parent}
use Rattle.tap_session.specs.declared.sessions.Answered.TheVariants.{Open, Closed, Unknown}
use Rattle.tap_session.specs.Session.{Session, SessionsValue}
use Rattle.tap_session.specs.Sessions.{AreSessions, answer_to, answered_at, session_of}
use Rattle.tap_session.proofs.Transitions.{All-found}
use Rattle.tap_table.specs.ByName.{by_name, slots_by_name}
use Rattle.tap_table.specs.Levels.{is_between, is_kept, sent_from}
use Rattle.tap_table.specs.Table.{IsTable, SlotLinks, TableValue, links_at, rows}
use Rattle.tap_table.proofs.Targets.{few_by_name}
use Rattle.tap_cast.specs.declared.casts.CastTurn.{CastTurn}
use Rattle.tap_cast.specs.declared.casts.CastTurn.TheVariants.{Already, Now}
use Rattle.tap_cast.specs.declared.target.CastTarget.{CastTarget}
use Rattle.tap_cast.specs.Casts.{CastsValue, level_of_cast, turn_of, with_cast}
use Rattle.tap_cast.specs.Targets.{cast_targets, primary_or_pins, targets_between, told_at}
use Rattle.tap_cast.proofs.Casting.{targets_are}
use Rattle.tap_wire.specs.Spelling.{IsBody, IsLevel}
use Rattle.tap_node_common.specs.declared.cast_fields.CastFields.{CastFields}
use Rattle.tap_node_common.specs.Spellings.{HaveSpellings}
use Rattle.tap_node_common.specs.Targets.{cast_to}
use Rattle.tap_rule.specs.Event.News.{Nothing as NothingNews}
use Rattle.tap_rule.specs.Node.{NodeState}
use Rattle.tap_rule.specs.Reaction.{Message}
use Rattle.tap_rule.specs.Casts.{Copy, cast_answer, cast_for, cast_news, cast_of, casts, is_root, next_cast_session, takes_cast_ack, with_cast_session}
use Rattle.tap_rule.specs.Sending.{message_frame}
use Rattle.tap_node_common.specs.declared.news.News.TheVariants.{Nothing}
use Rattle.tap_node_common.specs.declared.sender.Sender.{Sender}
use Rattle.tap_node_common.specs.Sender.{message_bytes, node_sender}
use Rattle.tap_node_common.specs.StepsAs.{StepsAs, news_seen}
use Rattle.tap_node_common.proofs.Sending.{messages_spelled}
use Rattle.tap_node_common.proofs.ReactionSteps.{messages_step, silent_step}
use Rattle.tap_core_node.proofs.Covers.{few_filtered, shared_within}

-- the Casts of a copy keep the rules of their fields
pub casts_spelled : (sender : Sender) → IsName sender.settings sender.name → (fields : CastFields) (targets : List CastTarget)
    → 1 ≤ fields.session → IsWord fields.word → All (λ target. IsName sender.settings target.to) targets
    → All (λ target. IsLevel sender.settings target.level) targets
    → HaveSpellings sender.settings (map (message_frame sender.name) (map (cast_to fields) targets))
casts_spelled sender own fields targets session word names levels =
    messages_spelled sender own (map (cast_to fields) targets)
    (All-map (λ (m : Message). IsName sender.settings m.to) (cast_to fields) targets names)
    (All-map (λ (m : Message). IsBody sender.settings m.body) (cast_to fields) targets
    (λ k d inside. (levels k d inside, session, word)))

-- a copy of a cast that is kept already changes nothing
already_kept : (kept : CastsValue) (t : TableValue) (cast level : ℕ) → turn_of kept t cast level ≡ Already
    → with_cast kept cast level ≡ kept
already_kept kept t cast level is =
    elim (cases_Bool (is_kept (level_of_cast kept cast) level)) [
      | inl was ↦ rw was refl
      | inr anew ↦
          let levels = sent_from t.settings.digits (level_of_cast kept cast) in
          let wrong : Now (is_none (level_of_cast kept cast)) (cast_targets t level levels) ≡ Already = rw anew at is in cc
    ]

module _ (node : NodeState) (copy : Copy) (kept : CastsValue) (before sent : List (List ℕ))
    (same : kept ≡ with_cast node.casts copy.cast copy.level) where
  abbrev turn : CastTurn
  turn = turn_of node.casts node.ties.table copy.cast copy.level

  -- a copy of a cast that is there already
  pub cast_again : turn ≡ Already → sent ≡ before ++ message_bytes (node_sender node) (cast_answer copy.parent)
      → StepsAs node (casts node copy) (record node { casts = kept }) before sent Nothing
  cast_again is sends =
      let stays : kept ≡ node.casts = same ∙ already_kept node.casts node.ties.table copy.cast copy.level is in
      rw (is, stays) (messages_step node node (cast_answer copy.parent) NothingNews before sent sends)

  -- one that has no targets
  pub cast_alone : (first : Bool) (targets : List CastTarget) → turn ≡ Now first targets → (length targets == 0) ≡ true
      → sent ≡ before ++ message_bytes (node_sender node) (cast_answer copy.parent)
      → StepsAs node (casts node copy) (record node { casts = kept }) before sent
      (news_seen (cast_news copy.cast first (is_root copy.parent)))
  cast_alone first [] is none sends =
      rw (is, same) (messages_step node (record node { casts = with_cast node.casts copy.cast copy.level }) (cast_answer copy.parent)
      (cast_news copy.cast first (is_root copy.parent)) before sent sends)
  cast_alone first (target ∷ targets) is none sends = absurd (omega (arith, eqb-true (length (target ∷ targets)) 0 none))

  -- and one that goes on
  pub cast_goes_on : (first : Bool) (targets : List CastTarget) (after : NodeState) → turn ≡ Now first targets
      → (length targets == 0) ≡ false → after ≡ with_cast_session (record node { casts = kept }) copy (length targets)
      → sent ≡ before ++ message_bytes (node_sender node) (map (cast_for copy (next_cast_session node)) targets)
      → StepsAs node (casts node copy) after before sent (news_seen (cast_news copy.cast first false))
  cast_goes_on first [] after is some opened sends = absurd (true≢false some)
  cast_goes_on first (target ∷ targets) after is some opened sends =
      rw (is, opened, same) (messages_step node
      (with_cast_session (record node { casts = with_cast node.casts copy.cast copy.level }) copy (length (target ∷ targets)))
      (map (cast_for copy (next_cast_session node)) (target ∷ targets)) (cast_news copy.cast first false) before sent sends)

-- a session that closes was given its number
closed_session : (found : Option Session) (parent : Parent) → answer_to found ≡ Closed parent → (s : Session) × (found ≡ Some s)
closed_session None parent closed = cc
closed_session (Some s) parent closed = (s, refl)

pub closed_given : (s : SessionsValue) → AreSessions s → (id : ℕ) (parent : Parent) → answer_to (session_of s.sessions id) ≡ Closed parent
    → (1 ≤ id) × (id ≤ s.opened)
closed_given s are id parent closed =
    let found = closed_session (session_of s.sessions id) parent closed in
    let given = All-found (λ a. (1 ≤ a.id) × (a.id ≤ s.opened)) s.sessions id found.0 are.given found.1 in
    (subst (λ n. 1 ≤ n) given.1 given.0.0, subst (λ n. n ≤ s.opened) given.1 given.0.1)

-- an answer in a session of casts: the last one, another one, and one in no session
module _ (node : NodeState) (session : ℕ) (sessions : SessionsValue) (before : List (List ℕ))
    (same : sessions ≡ answered_at node.cast_sessions session) where
  pub cast_closed : (parent : Parent) (sent : List (List ℕ)) → answer_to (session_of node.cast_sessions.sessions session) ≡ Closed parent
      → sent ≡ before ++ message_bytes (node_sender node) (cast_answer parent)
      → StepsAs node (takes_cast_ack node session) (record node { cast_sessions = sessions }) before sent
      (news_seen (cast_news (cast_of node session) false (is_root parent)))
  cast_closed parent sent is sends =
      rw (is, same) (messages_step node (record node { cast_sessions = answered_at node.cast_sessions session }) (cast_answer parent)
      (cast_news (cast_of node session) false (is_root parent)) before sent sends)

  pub cast_open : answer_to (session_of node.cast_sessions.sessions session) ≡ Open
      → StepsAs node (takes_cast_ack node session) (record node { cast_sessions = sessions }) before before Nothing
  cast_open is =
      rw (is, same) (silent_step node (record node { cast_sessions = answered_at node.cast_sessions session }) NothingNews before)

  pub cast_unknown : answer_to (session_of node.cast_sessions.sessions session) ≡ Unknown
      → StepsAs node (takes_cast_ack node session) (record node { cast_sessions = sessions }) before before Nothing
  cast_unknown is =
      rw (is, same) (silent_step node (record node { cast_sessions = answered_at node.cast_sessions session }) NothingNews before)

-- a slot has no more targets than links
few_in_slot : (links : SlotLinks) (primary : Option (List ℕ)) → least_settled links ≡ primary
    → length (primary_or_pins primary links) ≤ length links
few_in_slot links None is =
    let some = few_filtered (λ (e : LinkEntry (List ℕ)). is_pinned (Some e.kind)) links in
    let len = length-map (filter (λ (e : LinkEntry (List ℕ)). is_pinned (Some e.kind)) links) (λ (e : LinkEntry (List ℕ)). e.target) in
    omega (arith, some, len)
few_in_slot [] (Some primary) is = cc
few_in_slot (e ∷ links) (Some primary) is = omega arith

module _ (t : TableValue) (from to : ℕ) where
  few_here : (slot : Slot) → length (targets_between t from to slot) ≤ length (links_at t slot)
  few_here slot =
      let links = links_at t slot in
      elim (cases_Bool (is_between from to slot.level)) [
        | inl here ↦
            let some = few_in_slot links (least_settled links) refl in
            let len = length-map (primary_or_pins (least_settled links) links) (told_at (slot.level + 1)) in
            rw here (omega (arith, some, len))
        | inr elsewhere ↦ rw elsewhere (omega arith)
      ]

  few_in_slots : (slots : List Slot) → length (flat_map (targets_between t from to) slots) ≤ length (flat_map (links_at t) slots)
  few_in_slots [] = omega arith
  few_in_slots (slot ∷ slots) =
      let here = few_here slot in
      let rest = few_in_slots slots in
      let targets = length-append (targets_between t from to slot) (flat_map (targets_between t from to) slots) in
      let links = length-append (links_at t slot) (flat_map (links_at t) slots) in
      omega (arith, here, rest, targets, links)

  -- so a cast has no more than the table has links
  few_cast_targets : length (cast_targets t from to) ≤ length (by_name t)
  few_cast_targets = few_in_slots (slots_by_name t.settings t.owner)

-- the targets of a cast that goes on
module _ (t : TableValue) (valid : IsTable t) (kept : CastsValue) (cast level : ℕ) (first : Bool) (targets : List CastTarget)
    (is : turn_of kept t cast level ≡ Now first targets) where
  targets_is : targets ≡ cast_targets t level (sent_from t.settings.digits (level_of_cast kept cast))
  targets_is =
      elim (cases_Bool (is_kept (level_of_cast kept cast) level)) [
        | inl was ↦ let wrong : Already ≡ Now first targets = rw was at is in cc
        | inr anew ↦
            let levels = sent_from t.settings.digits (level_of_cast kept cast) in
            let same : Now (is_none (level_of_cast kept cast)) (cast_targets t level levels) ≡ Now first targets = rw anew at is in
            cc
      ]

  pub cast_names : All (λ target. IsName t.settings target.to) targets
  cast_names =
      rw targets_is (λ k d within. (targets_are t valid level (sent_from t.settings.digits (level_of_cast kept cast)) k d within).is_name)

  pub cast_levels : All (λ target. IsLevel t.settings target.level) targets
  cast_levels =
      rw targets_is (λ k d within.
      let told = targets_are t valid level (sent_from t.settings.digits (level_of_cast kept cast)) k d within in
      let inside = shared_within t valid _ told.is_name told.other in
      let at = told.level in
      (omega (arith, at), omega (arith, at, inside)))

  pub cast_few : length (rows t) ≤ 255 → length targets < 4294967295
  cast_few few =
      let same = ap length targets_is in
      let some = few_cast_targets t level (sent_from t.settings.digits (level_of_cast kept cast)) in
      let links = length-map (by_name t) (λ (e : LinkEntry (List ℕ)). e.target) in
      let all = few_by_name t valid in
      omega (arith, few, same, some, links, all)
