-- What is said of links stands after each frame that a rule takes.
-- Cited above: taken_words
use Rattle.std.proofs.Common.{◌≡◌, ◌⊎◌, ◌&&◌, ℕ, ◌+◌, Bool, true, false, not, if◌then◌else◌, List, [], ◌∷◌, Option, None, Some, is_none, ap, refl, sym, subst, ◌∙◌, inl, inr}
use Rattle.std.proofs.lemmas.Bool.{cases_Bool, true≢false}
use Rattle.tap_name.specs.Order.{name_cmp}
use Rattle.tap_name.specs.Settings.{SettingsValue}
use Rattle.tap_name.specs.declared.slot.Slot.{Slot}
use Rattle.tap_link.specs.declared.kind.Kind.{Kind}
use Rattle.tap_link.specs.declared.kind.Kind.TheVariants.{Leaving as LeavingKind, Pin, Settled}
use Rattle.tap_link.specs.LinkSet.{is_pinned}
use Rattle.tap_register.specs.Registers.{entry_of}
use Rattle.tap_session.specs.declared.parent.Parent.TheVariants.{Node, Root}
use Rattle.tap_session.specs.declared.sessions.Answered.{Answered}
use Rattle.tap_session.specs.declared.sessions.Answered.TheVariants.{Closed, Open, Unknown}
use Rattle.tap_session.specs.Sessions.{answer_to}
use Rattle.tap_table.specs.Table.{has_room_near}
use Rattle.tap_table.specs.Ties.{tie_where}
use Rattle.tap_table.specs.declared.tie.Tie.{Tie}
use Rattle.tap_join.specs.Hello.{words_of}
use Rattle.tap_join.specs.Seek.{sought}
use Rattle.tap_join.specs.declared.sought.Sought.{Sought}
use Rattle.tap_join.specs.declared.sought.Sought.TheVariants.{Forward, Surrogate}
use Rattle.tap_wire.specs.declared.frame.Body.{Body}
use Rattle.tap_wire.specs.declared.frame.Body.TheVariants.{Ack, Done, Forget, Heard, Link, Release, Seek}
use Rattle.tap_wire.specs.declared.frame.Frame.{Frame}
use Rattle.tap_wire.specs.declared.frame.TellFields.{TellFields}
use Rattle.tap_wire.specs.Kind.{kind_of}
use Rattle.tap_rule.specs.Answers.{answer_sends, takes_heard_or_ack}
use Rattle.tap_rule.specs.Ceasing.{takes_link_ceased}
use Rattle.tap_rule.specs.Covering.{first_request, request_of}
use Rattle.tap_rule.specs.Event.{Acted}
use Rattle.tap_rule.specs.FrameRules.{frame_at_ceased, frame_at_core, frame_at_joining, frame_at_leaving, rule_of_frame}
use Rattle.tap_rule.specs.JoinSteps.{CoverStep, SeekStep}
use Rattle.tap_rule.specs.RuleLaws.{frame_to}
use Rattle.tap_rule.specs.Links.{release_word}
use Rattle.tap_rule.specs.Node.{IsRunning, NodeState, Status, join_session_at, link_to, name_of}
use Rattle.tap_rule.specs.Node.Status.{Ceased as CeasedStatus, Core, Gone, Joining, Leaving}
use Rattle.tap_rule.specs.QuietSteps.{IsQuiet}
use Rattle.tap_rule.specs.Reaction.{Message, Reaction, message}
use Rattle.tap_rule.specs.Sent.{AreSent, IsAmong}
use Rattle.tap_rule.specs.LinkSteps.{ForgetStep, ReleaseStep}
use Rattle.tap_rule.specs.Strange.{is_strange}
use Rattle.tap_rule.proofs.CarriedOut.{frame_law, unruled_law}
use Rattle.tap_rule.proofs.CoverSteps.{seek_fits, seek_law}
use Rattle.tap_rule.proofs.JoinSteps.{tell_fits}
use Rattle.tap_rule.proofs.LinkSteps.{forget_law, release_law}
use Rattle.tap_rule.proofs.QuietSteps.{quiet_law}
use Rattle.tap_safety.specs.Bookkeeping.{has_table}
use Rattle.tap_safety.specs.Frames.{tell_body, hello_body}
use Rattle.tap_safety.specs.Remembered.{TieWord}
use Rattle.tap_safety.specs.Exchanges.{IsSent}
use Rattle.tap_safety.specs.System.{System}
use Rattle.tap_safety.specs.Ties.{hears_words}
use Rattle.tap_safety.proofs.LinkKeeps.{status_at}
use Rattle.tap_safety.proofs.Said.{Said, said_of}
use Rattle.tap_safety.proofs.Said.Said.{IsAck, IsDone, IsForget, IsHeard, IsHello, IsLink, IsRelease, IsSeek, IsTell}
use Rattle.tap_moves.specs.ByRule.{taken_at}
use Rattle.tap_moves.specs.Delivered.{after_delivery}
use Rattle.tap_moves.specs.InvariantLaws.{IsDelivery, IsFilledThere}
use Rattle.tap_moves.specs.TiesLaws.{WordsStand}
use Rattle.tap_moves.proofs.InvariantMoves.{due, frame_says, joins_here, link_ties, sender_name, way}
use Rattle.tap_moves.proofs.LinkMade.{link_is_made}
use Rattle.tap_moves.proofs.MovesMade.{by_rule}
use Rattle.tap_moves.proofs.WordsMade.{IsAside, quiet_aside}
use Rattle.tap_moves.specs.WordMoves.{TakenWords}
use Rattle.tap_moves.proofs.CoverMoves.{done_joiner, done_step, seek_carried, seek_name, tell_carried, tell_step}
use Rattle.tap_moves.proofs.Freed.{FreesPin, IsLayBody, freed_stand}
use Rattle.tap_moves.proofs.LinkEnds.{TakesUnheard, heard_ceased, unheard_stand}
use Rattle.tap_moves.proofs.Silent.{IsNoWord, SaysNothing, silent_stand}
use Rattle.tap_moves.proofs.WordsAnew.{changes_at, cover_stand, done_stand, has_done, is_taken, one_said, said_stand, stood}

-- ---- what is sent without words

no_word_sent : (own : List ℕ) (messages : List Message) (sent : List Frame) → AreSent own [] messages sent
    → ((m : Message) → IsAmong m messages → IsNoWord m.body) → (w t : List ℕ) (body : Body) → IsSent sent w t body → IsNoWord body
no_word_sent own messages sent are each w t body sends =
    elim (are.each (record { from = w; to = t; body = body }) sends) [
      | inl link ↦ absurd link.among
      | inr (inl named) ↦ subst IsNoWord (sym (ap (λ (f : Frame). f.body) named.is)) (each named.message named.among)
      | inr (inr lay) ↦ subst IsNoWord (sym (ap (λ (f : Frame). f.body) lay.is)) tt
    ]

lays_sent : (own : List ℕ) (sent : List Frame) → AreSent own [] [] sent → (w t : List ℕ) (body : Body) → IsSent sent w t body
    → IsLayBody body
lays_sent own sent are w t body sends =
    elim (are.each (record { from = w; to = t; body = body }) sends) [
      | inl link ↦ absurd link.among
      | inr (inl named) ↦ absurd named.among
      | inr (inr lay) ↦ subst IsLayBody (sym (ap (λ (f : Frame). f.body) lay.is)) tt
    ]

-- a rule, if there is one, keeps the status and the ties, and sends no word
record IsSilentRule (node : NodeState) (r : Reaction) : Type 0 where
  status : r.state.status ≡ node.status
  ties : r.state.ties ≡ node.ties
  words : r.words ≡ []
  messages : (m : Message) → IsAmong m r.messages → IsNoWord m.body

abbrev LeavesTies : NodeState → Option Reaction → Type 0
LeavesTies node None = Unit {0}
LeavesTies node (Some r) = IsSilentRule node r

silent_by : (node : NodeState) (from : List ℕ) (body : Body) → is_strange node (frame_to node from body) ≡ false
    → LeavesTies node (rule_of_frame node.status node from body) → SaysNothing node (taken_at node from body)
silent_by node from body known leaves = step (rule_of_frame node.status node from body) refl leaves
  where
    step : (rule : Option Reaction) → rule_of_frame node.status node from body ≡ rule → LeavesTies node rule
        → SaysNothing node (taken_at node from body)
    step None is silent =
        let ignored = unruled_law node (frame_to node from body) is in
        record {
          status = ap (λ (n : NodeState). n.status) ignored.state;
          ties = ap (λ (n : NodeState). n.ties) ignored.state;
          no_word = λ w t b sends. let never : IsSent [] w t b = subst (λ sent. IsSent sent w t b) ignored.sent sends in absurd never;
        }
    step (Some r) is silent =
        let carried = frame_law node (frame_to node from body) r known is in
        record {
          status = carried.status ∙ silent.status;
          ties = carried.ties ∙ silent.ties;
          no_word =
              no_word_sent (name_of node) r.messages (taken_at node from body).sent
              (subst (λ words. AreSent (name_of node) words r.messages (taken_at node from body).sent) silent.words carried.sent)
              silent.messages;
        }

one_no_word : (to : List ℕ) (body : Body) → IsNoWord body → (m : Message) → IsAmong m (message to body ∷ []) → IsNoWord m.body
one_no_word to body none m (inl is) = subst (λ (n : Message). IsNoWord n.body) (sym is) none
one_no_word to body none m (inr never) = absurd never

answer_no_word : (answer : Answered) (m : Message) → IsAmong m (answer_sends answer) → IsNoWord m.body
answer_no_word Open m among = absurd among
answer_no_word Unknown m among = absurd among
answer_no_word (Closed (Root joiner)) m among = one_no_word joiner Done tt m among
answer_no_word (Closed (Node name session)) m among = one_no_word name (Ack session) tt m among

answered_silent : (node : NodeState) (session : ℕ) → IsSilentRule node (takes_heard_or_ack node session)
answered_silent node session = record {
  status = refl;
  ties = refl;
  words = refl;
  messages = answer_no_word (answer_to (join_session_at node session));
}

heard_silent : (status : Status) (node : NodeState) (from : List ℕ) (session : ℕ)
    → LeavesTies node (rule_of_frame status node from (Heard session))
unfolding frame_at_joining frame_at_core frame_at_leaving frame_at_ceased
heard_silent Joining node from session = answered_silent node session
heard_silent Core node from session = answered_silent node session
heard_silent Leaving node from session = tt
heard_silent Gone node from session = tt
heard_silent CeasedStatus node from session = answered_silent node session

ack_silent : (status : Status) (node : NodeState) (from : List ℕ) (session : ℕ)
    → LeavesTies node (rule_of_frame status node from (Ack session))
unfolding frame_at_joining frame_at_core frame_at_leaving frame_at_ceased
ack_silent Joining node from session = answered_silent node session
ack_silent Core node from session = answered_silent node session
ack_silent Leaving node from session = tt
ack_silent Gone node from session = tt
ack_silent CeasedStatus node from session = answered_silent node session

ceased_silent : (status : Status) (node : NodeState) (from : List ℕ) (tell : TellFields) (watch : List Slot) → status ≡ CeasedStatus
    → LeavesTies node (rule_of_frame status node from (tell_body tell watch))
unfolding frame_at_joining frame_at_core frame_at_leaving frame_at_ceased
ceased_silent Joining node from tell watch at = absurd (cc)
ceased_silent Core node from tell watch at = absurd (cc)
ceased_silent Leaving node from tell watch at = absurd (cc)
ceased_silent Gone node from tell watch at = absurd (cc)
ceased_silent CeasedStatus node from tell watch at = record {
  status = refl;
  ties = refl;
  words = refl;
  messages = one_no_word from (Ack tell.session) tt;
}

quiet_no_word : (body : Body) → IsQuiet body → IsNoWord body
quiet_no_word (Link version on) quiet = absurd quiet
quiet_no_word Forget quiet = absurd quiet
quiet_no_word _ quiet = tt

quiet_silent : (node : NodeState) (from : List ℕ) (body : Body) → IsQuiet body → SaysNothing node (taken_at node from body)
quiet_silent node from body quiet =
    let step = quiet_law node (frame_to node from body) quiet in
    record {
      status = step.status;
      ties = step.ties;
      no_word = λ w t b sends. quiet_no_word b (step.sent (record { from = w; to = t; body = b }) sends);
    }

-- ---- by a delivery

module _ (p : SettingsValue) (s : System) (number : ℕ) (node : NodeState) (from : List ℕ) where
  abbrev after : System
  after = after_delivery p s number

  silent_words : (body : Body) → IsDelivery p s number node from body → SaysNothing node (taken_at node from body) → IsAside body
      → WordsStand after
  silent_words body is silent aside =
      silent_stand s after number (frame_to node from body) node (taken_at node from body) (is_taken p s number node from body is)
      (changes_at p s number node from body is) (has_done p s number node from body is) silent aside
      (stood p s number node from body is)

  -- ---- a Link

  heard_words : (word : TieWord) → IsDelivery p s number node from (Link word.version word.on) → hears_words (Some node.status)
      → IsRunning node.status → WordsStand after
  heard_words word is hears runs =
      let body = Link word.version word.on in
      let here = due p s number node from body is in
      let done = has_done p s number node from body is in
      let both = link_ties p s number node from word is hears in
      let step = link_is_made s after number node from word (by_rule p s number node from body here)
      (record { own = done.words; others = done.others_words }) is.invariant.numbered is.invariant.stamped hears
      ((is.nodes.nodes (name_of node) node is.at).laid runs) in
      record {
        ties = both.0;
        versions = both.1;
        ceased =
            heard_ceased s after from (name_of node) word step (subst hears_words (sym (status_at s (name_of node) node is.at)) hears)
            both.0 is.invariant.ceased;
      }

  gone_takes : (word : TieWord) → IsDelivery p s number node from (Link word.version word.on) → node.status ≡ Gone
      → TakesUnheard (frame_to node from (Link word.version word.on)) node (taken_at node from (Link word.version word.on)) word
  gone_takes word is at =
      let ignored = unruled_law node (frame_to node from (Link word.version word.on)) (rw at refl) in
      record {
        body = refl;
        unheard = λ hears. let never : hears_words (Some Gone) = rw at at hears in never;
        status = ap (λ (n : NodeState). n.status) ignored.state;
        ties = ap (λ (n : NodeState). n.ties) ignored.state;
        no_link = λ w t version on sends.
            let never : IsSent [] w t (Link version on) = subst (λ sent. IsSent sent w t (Link version on)) ignored.sent sends in never;
        forgets = λ ended on. let wrong : Gone ≡ CeasedStatus = sym at ∙ ended in absurd (cc);
        forgotten = λ w t sends.
            let never : IsSent [] w t Forget = subst (λ sent. IsSent sent w t Forget) ignored.sent sends in absurd never;
      }

  if_forgets : (on : Bool) (m : Message) → IsAmong m (if on then message from Forget ∷ [] else []) → m.body ≡ Forget
  if_forgets true m (inl is) = ap (λ (n : Message). n.body) is
  if_forgets true m (inr never) = absurd never
  if_forgets false m among = absurd among

  forgets_if : (on : Bool) → on ≡ true → IsAmong (message from Forget) (if on then message from Forget ∷ [] else [])
  forgets_if true is = inl refl
  forgets_if false is = absurd (true≢false (sym is))

  ceased_takes : (word : TieWord) → IsDelivery p s number node from (Link word.version word.on) → node.status ≡ CeasedStatus
      → TakesUnheard (frame_to node from (Link word.version word.on)) node (taken_at node from (Link word.version word.on)) word
  unfolding frame_at_ceased
  ceased_takes word is at =
      let carried = frame_law node (frame_to node from (Link word.version word.on)) (takes_link_ceased node from word.on) is.known
      (rw at refl) in
      record {
        body = refl;
        unheard = λ hears. let never : hears_words (Some CeasedStatus) = rw at at hears in never;
        status = carried.status;
        ties = carried.ties;
        no_link = λ w t version on sends.
            elim (carried.sent.each (record { from = w; to = t; body = Link version on }) sends) [
              | inl link ↦ absurd link.among
              | inr (inl named) ↦
                  let wrong : Link version on ≡ Forget =
                  ap (λ (f : Frame). f.body) named.is ∙ if_forgets word.on named.message named.among in cc
              | inr (inr lay) ↦ let wrong = ap (λ (f : Frame). f.body) lay.is in cc
            ];
        forgets = λ ended on. carried.sent.named (message from Forget) (forgets_if word.on on);
        forgotten = λ w t sends.
            elim (carried.sent.each (record { from = w; to = t; body = Forget }) sends) [
              | inl link ↦ absurd link.among
              | inr (inl named) ↦ (ap (λ (f : Frame). f.from) named.is, at)
              | inr (inr lay) ↦ let wrong = ap (λ (f : Frame). f.body) lay.is in absurd (cc)
            ];
      }

  unheard_words : (word : TieWord) → (is : IsDelivery p s number node from (Link word.version word.on))
      → TakesUnheard (frame_to node from (Link word.version word.on)) node (taken_at node from (Link word.version word.on)) word
      → WordsStand after
  unheard_words word is step =
      let body = Link word.version word.on in
      unheard_stand s after number (frame_to node from body) node (taken_at node from body) (is_taken p s number node from body is)
      (changes_at p s number node from body is) (has_done p s number node from body is) word step (stood p s number node from body is)

  link_words : (word : TieWord) → IsDelivery p s number node from (Link word.version word.on) → (status : Status) → node.status ≡ status
      → WordsStand after
  link_words word is Joining at = heard_words word is (rw at tt) (rw at tt)
  link_words word is Core at = heard_words word is (rw at tt) (rw at tt)
  link_words word is Leaving at = heard_words word is (rw at tt) (rw at tt)
  link_words word is Gone at = unheard_words word is (gone_takes word is at)
  link_words word is CeasedStatus at = unheard_words word is (ceased_takes word is at)

  -- ---- a Release and a Forget

  freed_words : (body : Body) (is : IsDelivery p s number node from body)
      → FreesPin s (frame_to node from body) node (taken_at node from body) → WordsStand after
  freed_words body is step =
      freed_stand s after number (frame_to node from body) node (taken_at node from body) (is_taken p s number node from body is)
      (changes_at p s number node from body is) (has_done p s number node from body is) step (stood p s number node from body is)

  -- who was no pin isn't one
  no_pin_then : (acted : Acted) → is_pinned (link_to node from) ≡ false → link_to acted.state from ≡ link_to node from
      → link_to acted.state from ≡ Some Pin → ⊥
  no_pin_then acted none stays pin =
      let was : link_to node from ≡ Some Pin = sym stays ∙ pin in true≢false (sym (ap is_pinned was) ∙ none)

  -- the word of a Release, if it makes the node drop the pin
  abbrev drop_word : Tie
  drop_word = record { to = from; version = node.stamp + 1; on = false }

  release_says : (drops : Bool) → (is_pinned (link_to node from) && not (has_room_near node.ties.table from)) ≡ drops
      → words_of (release_word node from) ≡ words_of (tie_where drops from (node.stamp + 1) false)
  release_says drops test = ap (λ told. words_of (tie_where told from (node.stamp + 1) false)) test

  pinned_some : (kind : Option Kind) → is_pinned kind ≡ true → kind ≡ Some Pin
  pinned_some None pin = absurd (true≢false (sym pin))
  pinned_some (Some Pin) pin = refl
  pinned_some (Some Settled) pin = absurd (true≢false (sym pin))
  pinned_some (Some LeavingKind) pin = absurd (true≢false (sym pin))

  early_table : (node.status ≡ Joining) ⊎ (node.status ≡ Core) → has_table node.status
  early_table (inl at) = rw at tt
  early_table (inr at) = rw at tt

  module _ (is : IsDelivery p s number node from Release) (at : (node.status ≡ Joining) ⊎ (node.status ≡ Core))
      (step : ReleaseStep node from (taken_at node from Release)) where
    abbrev freed : Acted
    freed = taken_at node from Release

    -- no word is sent
    no_drop : (is_pinned (link_to node from) && not (has_room_near node.ties.table from)) ≡ false
        → AreSent (name_of node) [] [] freed.sent
    no_drop test = subst (λ words. AreSent (name_of node) words [] freed.sent) (release_says false test) step.sent

    -- the sender was no pin, or is settled
    keeps_link : (is_pinned (link_to node from) && not (has_room_near node.ties.table from)) ≡ false
        → (link_to freed.state from ≡ Some Pin → ⊥) → is_none (link_to freed.state from) ≡ is_none (link_to node from)
        → WordsStand after
    keeps_link test unpinned same =
        freed_words Release is (record {
          frees = tt;
          status = step.joins.status;
          register = λ holder. ap (λ h. entry_of name_cmp h holder) step.holders;
          others = step.others;
          unpinned = unpinned;
          same = λ hears. same;
          lays = lays_sent (name_of node) freed.sent (no_drop test);
        })

    drops_link : is_pinned (link_to node from) ≡ true → has_room_near node.ties.table from ≡ false → WordsStand after
    drops_link pin full =
        let test : (is_pinned (link_to node from) && not (has_room_near node.ties.table from)) ≡ true =
        ap (λ b. b && not (has_room_near node.ties.table from)) pin ∙ ap (λ b. true && not b) full in
        let gone = (step.drops (pinned_some (link_to node from) pin) full).0 in
        said_stand p s number node from Release is (drop_word ∷ []) []
        (subst (λ words. AreSent (name_of node) words [] freed.sent) (release_says true test) step.sent)
        (one_said node freed.state from false step.others
        (λ kind link. let wrong : None ≡ Some kind = sym gone ∙ link in absurd (cc)) (λ none. refl)
        (λ holder. ap (λ h. entry_of name_cmp h holder) step.holders))
        (record {
          link = λ version on same. let wrong : Release ≡ Link version on = same in cc;
          release = λ same link. let wrong : None ≡ Some Pin = sym gone ∙ link in cc;
          forget = λ same link. let wrong : Release ≡ Forget = same in cc;
          no_link = λ m among. absurd among;
          no_forget = λ m among. absurd among;
        })
        (early_table at) step.joins.status

    release_words : WordsStand after
    release_words =
        elim (cases_Bool (is_pinned (link_to node from))) [
          | inr none ↦
              keeps_link (ap (λ b. b && not (has_room_near node.ties.table from)) none)
              (no_pin_then freed none (step.unpinned none)) (ap is_none (step.unpinned none))
          | inl pin ↦ elim (cases_Bool (has_room_near node.ties.table from)) [
            | inr full ↦ drops_link pin full
            | inl room ↦
                let was = pinned_some (link_to node from) pin in
                let settled = step.settles was room in
                keeps_link
                (ap (λ b. b && not (has_room_near node.ties.table from)) pin ∙ ap (λ b. true && not b) room)
                (λ still. let wrong : Some Settled ≡ Some Pin = sym settled ∙ still in cc)
                (ap is_none settled ∙ sym (ap is_none was))
          ]
        ]

  forget_words : (is : IsDelivery p s number node from Forget) → ForgetStep node from (taken_at node from Forget) → WordsStand after
  forget_words is step =
      let ended = is.invariant.ceased.forgets from (name_of node) (way p s number node from Forget is) in
      let freed = taken_at node from Forget in
      freed_words Forget is (record {
        frees = tt;
        status = step.joins.status;
        register = λ holder. ap (λ h. entry_of name_cmp h holder) step.holders;
        others = step.others;
        unpinned = λ pin. elim (cases_Bool (is_pinned (link_to node from))) [
          | inr none ↦ no_pin_then freed none (step.unpinned none) pin
          | inl was ↦
              let wrong : None ≡ Some Pin = sym (step.forgets (pinned_some (link_to node from) was)) ∙ pin in cc
        ];
        same = λ hears. let never : ⊥ = subst hears_words ended hears in absurd never;
        lays = lays_sent (name_of node) freed.sent step.sent;
      })

  -- ---- covers, and a Done

  tell_words : (tell : TellFields) (watch : List Slot) → IsDelivery p s number node from (tell_body tell watch)
      → (node.status ≡ Core) ⊎ ((node.status ≡ Joining) ⊎ (node.status ≡ CeasedStatus)) → WordsStand after
  tell_words tell watch is (inl at) =
      cover_stand p s number node from (tell_body tell watch) is (request_of from tell watch)
      (tell_carried p s number node from tell watch is at) (tell_step p s number node from tell watch is at)
      (tell_fits node from tell watch is.known) at tt
  tell_words tell watch is (inr (inl at)) = frame_says p s number node from (tell_body tell watch) is (inl at)
  tell_words tell watch is (inr (inr at)) =
      silent_words (tell_body tell watch) is
      (silent_by node from (tell_body tell watch) is.known (ceased_silent node.status node from tell watch at)) tt

  seek_words : (joiner : List ℕ) → IsDelivery p s number node from (Seek joiner) → node.status ≡ Core → (found : Sought)
      → sought node.ties.table joiner ≡ found → WordsStand after
  seek_words joiner is at (Forward next) found = frame_says p s number node from (Seek joiner) is (at, (next, found))
  seek_words joiner is at (Surrogate prefix) found =
      let ties = (due p s number node from (Seek joiner) is).is_node.ties in
      let name = seek_name p s number node from joiner is at prefix found in
      let sought_on : SeekStep node joiner (taken_at node from (Seek joiner)) = seek_law node from joiner ties name at is.known in
      let step : CoverStep node (first_request node joiner prefix) (taken_at node from (Seek joiner)) = rw found at sought_on in
      cover_stand p s number node from (Seek joiner) is (first_request node joiner prefix)
      (seek_carried p s number node from joiner is at prefix found) step (seek_fits node from joiner prefix is.known found) at tt

  done_words : IsDelivery p s number node from Done → node.abandoned ≡ false → WordsStand after
  done_words is joined =
      let joiner = done_joiner p s number node from is joined in
      done_stand p s number node from is (joins_here s node joiner is.at) (done_step p s number node from is joined)

pub taken_words : TakenWords
taken_words p s number node from body is there = by_said body (said_of body) is there
  where
    by_said : (body : Body) → Said body → IsDelivery p s number node from body → IsFilledThere node body
        → WordsStand (after_delivery p s number)
    by_said _ (IsTell tell watch) is there = tell_words p s number node from tell watch is there
    by_said _ (IsHello hello) is there = frame_says p s number node from (hello_body hello) is there
    by_said _ (IsSeek joiner) is there = seek_words p s number node from joiner is there (sought node.ties.table joiner) refl
    by_said _ IsDone is there = done_words p s number node from is there
    by_said _ IsRelease is there =
        let here = due p s number node from Release is in
        release_words p s number node from is there
        (release_law node from here.is_node.ties (sender_name p s number node from Release is) there is.known)
    by_said _ IsForget is there =
        let here = due p s number node from Forget is in
        forget_words p s number node from is
        (forget_law node from here.is_node.ties (sender_name p s number node from Forget is) there is.known)
    by_said _ (IsHeard session) is there =
        silent_words p s number node from (Heard session) is
        (silent_by node from (Heard session) is.known (heard_silent node.status node from session)) tt
    by_said _ (IsAck session) is there =
        silent_words p s number node from (Ack session) is
        (silent_by node from (Ack session) is.known (ack_silent node.status node from session)) tt
    by_said _ (IsLink version on) is there =
        let word : TieWord = record { version = version; on = on } in
        link_words p s number node from word is node.status refl
    by_said body _ is there = silent_words p s number node from body is (quiet_silent node from body there) (quiet_aside (kind_of body) there)
