-- The steps of covering a joiner, from the frames that were added.
use Rattle.std.proofs.Common.{◌≡◌, ◌≢◌, ◌==◌, ℕ, ◌<◌, ◌≤◌, Bool, true, false, List, [], ◌∷◌, ◌++◌, length, map, All, refl, sym, ap, ◌∙◌, append_assoc, eqb-true, inl, inr}
use Rattle.std.proofs.lemmas.Bool.{cases_Bool}
use Rattle.std.proofs.lemmas.List.{map-append}
use Rattle.std.proofs.lemmas.List.Elements.{All-map}
use Rattle.tap_name.specs.declared.slot.Offered.{Offered}
use Rattle.tap_name.specs.declared.slot.Slot.{Slot}
use Rattle.tap_name.specs.Name.{IsName}
use Rattle.tap_session.specs.Session.{SessionsValue}
use Rattle.tap_session.specs.Sessions.{opened_with}
use Rattle.tap_table.specs.declared.tie.Tie.{Tie}
use Rattle.tap_multicast.specs.declared.covers.Covered.{Covered}
use Rattle.tap_multicast.specs.declared.covers.Covered.TheVariants.{Already, Now}
use Rattle.tap_multicast.specs.declared.target.Target.{Target}
use Rattle.tap_multicast.specs.Covers.{CoversValue, covered, with_cover}
use Rattle.tap_wire.specs.declared.frame.TellFields.{TellFields}
use Rattle.tap_wire.specs.Spelling.{AreSlots, IsBody, spelling}
use Rattle.tap_node_common.specs.Spellings.{HaveSpellings, spelled}
use Rattle.tap_node_common.specs.Targets.{tell_to}
use Rattle.tap_rule.specs.Event.News.{Nothing as NothingNews}
use Rattle.tap_rule.specs.Node.{NodeState}
use Rattle.tap_rule.specs.Reaction.{Message, Reaction, with_words}
use Rattle.tap_rule.specs.Answers.{answer_for, next_number, with_session}
use Rattle.tap_rule.specs.Covering.{Request, answers_awaited, covers, covers_as, greeting, spreads, tell_for, with_level}
use Rattle.tap_rule.specs.Sending.{message_frame}
use Rattle.tap_node_common.specs.declared.news.News.{News}
use Rattle.tap_node_common.specs.declared.news.News.TheVariants.{Nothing}
use Rattle.tap_node_common.specs.declared.sender.Sender.{Sender}
use Rattle.tap_node_common.specs.Sender.{lay_bytes, message_bytes, node_sender, word_bytes}
use Rattle.tap_node_common.specs.StepsAs.{StepsAs}
use Rattle.tap_node_common.proofs.Sending.{messages_spelled}
use Rattle.tap_node_common.proofs.ReactionSteps.{messages_step, no_words}
use Rattle.tap_core_node.proofs.Covers.{already_same}

-- a number that isn't 0 is tested so
pub not_zero : (n : ℕ) → n ≢ 0 → (n == 0) ≡ false
not_zero n some = elim (cases_Bool (n == 0)) [ inl none ↦ absurd (some (eqb-true n 0 none)) | inr is ↦ is ]

-- messages after others
bytes_after : (sender : Sender) (first second : List Message)
    → message_bytes sender (first ++ second) ≡ message_bytes sender first ++ message_bytes sender second
bytes_after sender first second =
    ap (spelled sender.settings) (map-append (message_frame sender.name) first second)
    ∙ map-append (spelling sender.settings) (map (message_frame sender.name) first) (map (message_frame sender.name) second)

-- the Tells of a cover keep the rules of their fields
pub tells_spelled : (sender : Sender) → IsName sender.settings sender.name → (fields : TellFields) (watch : List Slot)
    (targets : List Target) → IsName sender.settings fields.joiner → fields.prefix < sender.settings.digits → 1 ≤ fields.session
    → AreSlots sender.settings fields.prefix watch → All (λ target. IsName sender.settings target.to) targets
    → All (λ target. fields.prefix < target.level) targets → All (λ target. target.level ≤ sender.settings.digits) targets
    → HaveSpellings sender.settings (map (message_frame sender.name) (map (tell_to fields watch) targets))
tells_spelled sender own fields watch targets joiner prefix session slots names above within =
    messages_spelled sender own (map (tell_to fields watch) targets)
    (All-map (λ (m : Message). IsName sender.settings m.to) (tell_to fields watch) targets names)
    (All-map (λ (m : Message). IsBody sender.settings m.body) (tell_to fields watch) targets
    (λ k d inside. record {
      joiner_is = joiner;
      prefix_below = prefix;
      level_above = above k d inside;
      level_most = within k d inside;
      session_least = session;
      slots = slots;
    }))

module _ (node : NodeState) (request : Request) (first : Bool) (offer : List Offered) (targets : List Target) (left : List Slot)
    (before : List (List ℕ)) where
  -- a cover that waits for nobody
  pub spread_alone : (sent : List (List ℕ)) → (answers_awaited first (length targets) == 0) ≡ true
      → sent ≡ before ++ message_bytes (node_sender node) (answer_for request.parent ∷ [])
      → StepsAs node (spreads node request first offer targets left) node before sent Nothing
  spread_alone sent none is = rw none (messages_step node node (answer_for request.parent ∷ []) NothingNews before sent is)

  -- one that waits for answers
  pub spread_told : (sessions : SessionsValue) (greeted sent : List (List ℕ)) → (answers_awaited first (length targets) == 0) ≡ false
      → sessions ≡ opened_with node.sessions request.parent request.depth (answers_awaited first (length targets))
      → greeted ≡ before ++ message_bytes (node_sender node) (greeting request (next_number node) first offer)
      → sent ≡ greeted ++ message_bytes (node_sender node) (map (tell_for request (next_number node) left) targets)
      → StepsAs node (spreads node request first offer targets left) (record node { sessions = sessions }) before sent Nothing
  spread_told sessions greeted sent some opened hello told =
      let greets = greeting request (next_number node) first offer in
      let tells = map (tell_for request (next_number node) left) targets in
      let after : NodeState = with_session node request.parent request.depth (answers_awaited first (length targets)) in
      let all : sent ≡ before ++ message_bytes (node_sender node) (greets ++ tells) =
      told ∙ ap (λ b. b ++ message_bytes (node_sender node) tells) hello
      ∙ append_assoc before (message_bytes (node_sender node) greets) (message_bytes (node_sender node) tells)
      ∙ ap (λ b. before ++ b) (sym (bytes_after (node_sender node) greets tells)) in
      rw (some, opened) (messages_step node after (greets ++ tells) NothingNews before sent all)

module _ (node : NodeState) (request : Request) (before : List (List ℕ)) where
  abbrev found : Covered
  found = covered node.covers node.ties.table request.watch request.joiner request.prefix request.level

  -- a joiner that is covered already
  pub covered_before : (kept : CoversValue) (sent : List (List ℕ)) → found ≡ Already
      → kept ≡ with_cover node.covers request.joiner request.level
      → sent ≡ before ++ message_bytes (node_sender node) (answer_for request.parent ∷ [])
      → StepsAs node (covers node request) (record node { covers = kept }) before sent Nothing
  covered_before kept sent is same sends =
      let stays : kept ≡ node.covers =
      same ∙ already_same node.covers node.ties.table request.watch request.joiner request.prefix request.level is in
      rw (is, stays) (messages_step node node (answer_for request.parent ∷ []) NothingNews before sent sends)

  -- one that is covered now
  pub covered_now : (kept : CoversValue) (after : NodeState) (sent : List (List ℕ)) (first : Bool) (offer : List Offered)
      (targets : List Target) (left : List Slot) → found ≡ Now first offer targets left
      → kept ≡ with_cover node.covers request.joiner request.level
      → StepsAs (record node { covers = kept }) (spreads (record node { covers = kept }) request first offer targets left) after before
      sent Nothing
      → StepsAs node (covers node request) after before sent Nothing
  covered_now kept after sent first offer targets left is same steps =
      let all : StepsAs (with_level node request) (spreads (with_level node request) request first offer targets left) after before sent
      Nothing = rw same at steps in
      rw is (record { state = all.state; frames = all.frames; noted = all.noted })

-- the frames of words come first
pub words_first : (node middle : NodeState) (words : List Tie) (r : Reaction) (after : NodeState) (before sent : List (List ℕ))
    (news : News) → node_sender middle ≡ node_sender node → r.words ≡ []
    → StepsAs middle r after (before ++ word_bytes (node_sender node) words) sent news
    → StepsAs node (with_words words r) after before sent news
words_first node middle words r after before sent news same none steps = record {
  state = steps.state;
  frames =
      steps.frames
      ∙ ap (λ (s : Sender). (before ++ first) ++ (word_bytes s r.words ++ (message_bytes s r.messages ++ lay_bytes s r.lays))) same
      ∙ ap (λ w. (before ++ first) ++ (word_bytes (node_sender node) w ++ rest)) none
      ∙ ap (λ w. (before ++ first) ++ (w ++ rest)) (no_words node)
      ∙ append_assoc before first rest;
  noted = steps.noted;
}
  where
    first : List (List ℕ)
    first = word_bytes (node_sender node) words

    rest : List (List ℕ)
    rest = message_bytes (node_sender node) r.messages ++ lay_bytes (node_sender node) r.lays

-- covering takes no words
module _ (node : NodeState) (request : Request) where
  spreads_no_words : (after : NodeState) (first : Bool) (offer : List Offered) (targets : List Target) (left : List Slot)
      → (spreads after request first offer targets left).words ≡ []
  spreads_no_words after first offer targets left =
      elim (cases_Bool (answers_awaited first (length targets) == 0)) [ inl none ↦ rw none refl | inr some ↦ rw some refl ]

  covers_as_no_words : (found : Covered) → (covers_as node request found).words ≡ []
  covers_as_no_words Already = refl
  covers_as_no_words (Now first offer targets left) = spreads_no_words (with_level node request) first offer targets left

  pub covers_no_words : (covers node request).words ≡ []
  covers_no_words =
      covers_as_no_words (covered node.covers node.ties.table request.watch request.joiner request.prefix request.level)
