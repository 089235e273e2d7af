-- A frame whose taker says of each link that it changes: what is said stands, once it is delivered.
use Rattle.std.proofs.Common.{◌≡◌, ◌⊎◌, ℕ, zero, suc, ◌+◌, true, List, [], ◌∷◌, Option, None, Some, is_none, slice_get, All, arith, ap, refl, sym, subst, ◌∙◌, inl, inr}
use Rattle.std.proofs.lemmas.Bool.{cases_lt}
use Rattle.tap_name.specs.Name.{IsName}
use Rattle.tap_name.specs.Order.{name_cmp}
use Rattle.tap_name.specs.Settings.{SettingsValue}
use Rattle.tap_name.specs.declared.slot.Slot.{Slot}
use Rattle.tap_link.specs.declared.kind.Kind.{Kind}
use Rattle.tap_link.specs.declared.kind.Kind.TheVariants.{Pin}
use Rattle.tap_register.specs.Registers.{entry_of}
use Rattle.tap_session.specs.declared.parent.Parent.TheVariants.{Node, Root}
use Rattle.tap_session.specs.declared.sessions.Answered.{Answered}
use Rattle.tap_session.specs.declared.sessions.Answered.TheVariants.{Closed, Open, Unknown}
use Rattle.tap_session.specs.Session.{SessionsValue}
use Rattle.tap_session.specs.Sessions.{answer_to}
use Rattle.tap_table.specs.Levels.{is_kept}
use Rattle.tap_table.specs.Table.{kind_in}
use Rattle.tap_table.specs.Ties.{AreTies, TiesValue, tie_where}
use Rattle.tap_table.specs.declared.tie.Tie.{Tie}
use Rattle.tap_join.specs.Hello.{after_hello, hello_names, hello_tells, words_of}
use Rattle.tap_join.proofs.Hellos.{hello_links_stay, holders_stay}
use Rattle.tap_join.proofs.TellsNew.{TellsNew, hello_tells_new}
use Rattle.tap_join.specs.Seek.{sought}
use Rattle.tap_join.specs.declared.sought.Sought.TheVariants.{Forward}
use Rattle.tap_wire.specs.declared.frame.Body.{Body}
use Rattle.tap_wire.specs.declared.frame.Body.TheVariants.{Ack, Done, Forget, Heard, Link, Release, Seek}
use Rattle.tap_wire.specs.declared.frame.Frame.{Frame}
use Rattle.tap_wire.specs.declared.frame.TellFields.{TellFields}
use Rattle.tap_wire.specs.declared.kind.Kind.{Kind as FrameKind}
use Rattle.tap_wire.specs.declared.kind.Kind.TheVariants as kind
use Rattle.tap_wire.specs.Kind.{kind_of}
use Rattle.tap_rule.specs.Answers.{answer_sends}
use Rattle.tap_rule.specs.FrameRules.{frame_at_core, rule_of_frame}
use Rattle.tap_rule.specs.RuleLaws.{AnswerLaw, frame_to}
use Rattle.tap_rule.specs.Node.{NodeState, Status, join_session_at, level_of, link_to, name_of, settings_of}
use Rattle.tap_rule.specs.Node.Status.{Ceased as CeasedStatus, Core, Joining}
use Rattle.tap_rule.specs.QuietSteps.{IsQuiet, IsQuietKind}
use Rattle.tap_rule.specs.Reaction.{Message, message, pin_word, sends, with_pin, with_words}
use Rattle.tap_rule.specs.Sending.{link_frame, message_frame}
use Rattle.tap_rule.specs.Sent.{AreSent, IsAmong}
use Rattle.tap_rule.specs.Hellos.{joining_hello}
use Rattle.tap_rule.proofs.CarriedOut.{frame_law}
use Rattle.tap_rule.proofs.CoverSteps.{tell_law}
use Rattle.tap_rule.proofs.JoinSteps.{hello_law, meet_law, tell_fits}
use Rattle.tap_rule.proofs.QuietSteps.{quiet_law}
use Rattle.tap_safety.specs.Bookkeeping.{AreStamped, has_table}
use Rattle.tap_safety.specs.Frames.{HelloFields, hello_body, tell_body}
use Rattle.tap_safety.specs.System.{System}
use Rattle.tap_safety.specs.WordSteps.{SaysLinks, SaysNoMore}
use Rattle.tap_safety.proofs.Moved.{delivers}
use Rattle.tap_safety.proofs.StepLaws.{ceased_words_law, ties_words_law, versions_words_law, words_said_law}
use Rattle.tap_moves.specs.ByRule.{StartsNone, taken_at}
use Rattle.tap_moves.specs.Delivered.{IsArriving, after_delivery}
use Rattle.tap_moves.specs.FrameLaws.{messages_by, words_by}
use Rattle.tap_moves.specs.TiesLaws.{WordsStand}
use Rattle.tap_moves.proofs.CoverMade.{none_or_pin}
use Rattle.tap_moves.proofs.FramesMade.{meets_sent}
use Rattle.tap_moves.proofs.Got.{among_got}
use Rattle.tap_moves.proofs.InSession.{tell_in_session}
use Rattle.tap_moves.proofs.MovesMade.{by_rule, is_found, starts_none_as, tell_starts_none}
use Rattle.tap_moves.proofs.Plain.{rule_sends, takes_frame}

-- ---- what is said of links

-- no link changes, and nothing is said
stays_said : (before after : NodeState) → after.ties ≡ before.ties → SaysLinks before after []
stays_said before after ties = record {
  unsaid = λ t none. ap (λ (u : TiesValue). kind_in u.table t) ties;
  on = λ word among. absurd among;
  off = λ word among. absurd among;
  newer = λ word among. absurd among;
  once = λ one two among. absurd among;
  register = λ holder. ap (λ (u : TiesValue). entry_of name_cmp u.holders holder) ties;
}

-- a name is pinned, and told so if it was not linked before
pin_said : (before after : NodeState) (name : List ℕ) → ((link_to before name ≡ None) ⊎ (link_to before name ≡ Some Pin))
    → link_to after name ≡ Some Pin → ((t : List ℕ) → (t ≡ name) ⊎ (link_to after t ≡ link_to before t))
    → after.ties.holders ≡ before.ties.holders
    → SaysLinks before after (words_of (tie_where (is_none (link_to before name)) name (before.stamp + 1) true))
pin_said before after name (inl none) pinned others holders = rw none (record {
  unsaid = λ t silent. elim (others t) [
    | inl same ↦ absurd (silent (record { to = name; version = before.stamp + 1; on = true }) (inl refl) (sym same))
    | inr stays ↦ stays
  ];
  on = λ word among kind link. elim among [ inl is ↦ ap (λ (w : Tie). w.on) is | inr never ↦ absurd never ];
  off = λ word among gone. elim among [
    | inl is ↦
        let to : word.to ≡ name = ap (λ (w : Tie). w.to) is in
        let wrong : None ≡ Some Pin = sym gone ∙ ap (link_to after) to ∙ pinned in
        absurd (cc)
    | inr never ↦ absurd never
  ];
  newer = λ word among. elim among [
    | inl is ↦ let version : word.version ≡ before.stamp + 1 = ap (λ (w : Tie). w.version) is in omega (arith, version)
    | inr never ↦ absurd never
  ];
  once = λ one two first second same. elim first [
    | inl is ↦ elim second [ inl also ↦ is ∙ sym also | inr never ↦ absurd never ]
    | inr never ↦ absurd never
  ];
  register = λ holder. ap (λ h. entry_of name_cmp h holder) holders;
})
pin_said before after name (inr pin) pinned others holders = rw pin (record {
  unsaid = λ t silent. elim (others t) [
    | inl same ↦ ap (link_to after) same ∙ pinned ∙ sym pin ∙ ap (link_to before) (sym same)
    | inr stays ↦ stays
  ];
  on = λ word among. absurd among;
  off = λ word among. absurd among;
  newer = λ word among. absurd among;
  once = λ one two among. absurd among;
  register = λ holder. ap (λ h. entry_of name_cmp h holder) holders;
})

-- what is among a list stands at a place of it
got_among : {A : Type 0} (x : A) (xs : List A) → IsAmong x xs → (k : ℕ) × (slice_get xs k ≡ Some x)
got_among x [] among = absurd among
got_among x (y ∷ ys) (inl is) = (zero, ap Some (sym is))
got_among x (y ∷ ys) (inr later) = let rest = got_among x ys later in (suc rest.0, rest.1)

-- a kind stays, if none comes without a word
kind_stays : (was now : Option Kind) → ((kind : Kind) → was ≡ Some kind → now ≡ Some kind) → ((kind : Kind) → was ≡ None → now ≡ Some kind → ⊥)
    → now ≡ was
kind_stays (Some kind) now kept new = kept kind refl
kind_stays None None kept new = refl
kind_stays None (Some kind) kept new = absurd (new kind refl refl)

-- the names of a Hello are linked, and told so if they weren't before
hello_said : (before after : NodeState) (from : List ℕ) (hello : HelloFields) → AreTies before.ties → IsName (settings_of before) from
    → All (λ link. IsName (settings_of before) link.name) hello.links → after.ties ≡ after_hello before.ties from hello.is_core hello.links
    → SaysLinks before after (hello_tells before.ties before.stamp from hello.is_core hello.links)
hello_said before after from hello ties sender names is =
    let p = settings_of before in
    let told = hello_tells before.ties before.stamp from hello.is_core hello.links in
    let tells : TellsNew before.ties (after_hello before.ties from hello.is_core hello.links) before.stamp told =
    hello_tells_new p (name_of before) before.ties before.stamp from hello.is_core hello.links (ties, refl, refl) sender names in
    let kept = hello_links_stay p (name_of before) before.ties (ties, refl, refl) from hello.is_core hello.links sender names in
    let now : (t : List ℕ) → link_to after t ≡ kind_in (after_hello before.ties from hello.is_core hello.links).table t =
    λ t. ap (λ (u : TiesValue). kind_in u.table t) is in
    record {
      unsaid = λ t silent.
          kind_stays (link_to before t) (link_to after t) (λ kind was. now t ∙ kept t kind was)
          (λ kind none link.
          let word = tells.each t none (kind, sym (now t) ∙ link) in
          silent word.1 (among_got word.1 told word.0 word.2) word.3);
      on = λ word among kind link. let at = got_among word told among in (tells.numbered at.0 word at.1).1;
      off = λ word among gone.
          let at = got_among word told among in
          let has = (tells.newly at.0 word at.1).1 in
          let wrong : None ≡ Some has.0 = sym gone ∙ now word.to ∙ has.1 in
          absurd (cc);
      newer = λ word among.
          let at = got_among word told among in
          let version = (tells.numbered at.0 word at.1).0 in
          omega (arith, version);
      once = λ one two first second same. by_order one two (got_among one told first) (got_among two told second) same tells;
      register = λ holder.
          ap (λ (u : TiesValue). entry_of name_cmp u.holders holder) is
          ∙ ap (λ h. entry_of name_cmp h holder) (holders_stay (hello_names from hello.is_core hello.links) before.ties);
    }
  where
    told_here : List Tie
    told_here = hello_tells before.ties before.stamp from hello.is_core hello.links

    by_order : (one two : Tie) → (k : ℕ) × (slice_get told_here k ≡ Some one) → (k : ℕ) × (slice_get told_here k ≡ Some two)
        → one.to ≡ two.to → TellsNew before.ties (after_hello before.ties from hello.is_core hello.links) before.stamp told_here → one ≡ two
    by_order one two at other same tells =
        elim (cases_lt at.0 other.0) [
          | inl less ↦ absurd (tells.once at.0 other.0 one two less at.1 other.1 same)
          | inr most ↦ elim (cases_lt other.0 at.0) [
            | inl less ↦ absurd (tells.once other.0 at.0 two one less other.1 at.1 (sym same))
            | inr least ↦
                let place : at.0 ≡ other.0 = omega (arith, most, least) in
                let both : Some one ≡ Some two = sym at.1 ∙ ap (slice_get told_here) place ∙ other.1 in
                cc
          ]
        ]

-- ---- what isn't sent

-- a body that is no Link, Release or Forget
abbrev pub IsAsideKind : FrameKind → Type 0
IsAsideKind kind.Link = ⊥
IsAsideKind kind.Release = ⊥
IsAsideKind kind.Forget = ⊥
IsAsideKind other = Unit {0}

abbrev pub IsAside : Body → Type 0
IsAside body = IsAsideKind (kind_of body)

says_no_more : (frame : Frame) (after : NodeState) (messages : List Message) → IsAside frame.body
    → ((m : Message) → IsAmong m messages → IsAside m.body) → SaysNoMore frame after messages
says_no_more frame after messages aside each = record {
  link = λ version on is. let never : IsAside (Link version on) = subst IsAside is aside in never;
  release = λ is pin. let never : IsAside Release = subst IsAside is aside in never;
  forget = λ is pin. let never : IsAside Forget = subst IsAside is aside in never;
  no_link = λ m among version on is. let never : IsAside (Link version on) = subst IsAside is (each m among) in never;
  no_forget = λ m among is. let never : IsAside Forget = subst IsAside is (each m among) in never;
}

pub quiet_aside : (kind : FrameKind) → IsQuietKind kind → IsAsideKind kind
quiet_aside kind.Link quiet = absurd quiet
quiet_aside kind.Release quiet = absurd quiet
quiet_aside kind.Forget quiet = absurd quiet
quiet_aside _ quiet = tt

one_aside : (m one : Message) → IsAside one.body → IsAmong m (one ∷ []) → IsAside m.body
one_aside m one aside (inl is) = subst (λ (n : Message). IsAside n.body) (sym is) aside
one_aside m one aside (inr never) = absurd never

answer_aside : (answer : Answered) (m : Message) → IsAmong m (answer_sends answer) → IsAside m.body
answer_aside Open m among = absurd among
answer_aside Unknown m among = absurd among
answer_aside (Closed (Root joiner)) m among = one_aside m (message joiner Done) tt among
answer_aside (Closed (Node name session)) m among = one_aside m (message name (Ack session)) tt among

-- an early node has a table
early_table : (status : Status) → (status ≡ Joining) ⊎ (status ≡ Core) → has_table status
early_table status (inl at) = rw at tt
early_table status (inr at) = rw at tt

-- what a core node does at a Tell of a joiner that it covers so already
known_rule : (node : NodeState) (from : List ℕ) (tell : TellFields) (watch : List Slot) → node.status ≡ Core
    → is_kept (level_of node tell.joiner) tell.level ≡ true → rule_of_frame node.status node from (tell_body tell watch)
    ≡ Some (with_words (words_of (pin_word node tell.joiner))
    (sends (with_pin node tell.joiner) (message from (Ack tell.session) ∷ [])))
unfolding frame_at_core
known_rule node from tell watch at test = rw (at, test) refl

-- ---- by the kind of a frame

module _ (p : SettingsValue) (s : System) (number : ℕ) (node : NodeState) (from : List ℕ) where
  abbrev after : System
  after = after_delivery p s number

  words_kept : (body : Body) → IsArriving s number node from body → (words : List Tie) (messages : List Message)
      → StartsNone s after → (taken_at node from body).state.status ≡ node.status
      → (taken_at node from body).state.covers ≡ node.covers → AreSent (name_of node) words messages (taken_at node from body).sent
      → SaysLinks node (taken_at node from body).state words
      → SaysNoMore (frame_to node from body) (taken_at node from body).state messages → has_table node.status → AreStamped s
      → WordsStand s → WordsStand after
  words_kept body due words messages none status covers are says no_more table stamped stand =
      let frame = frame_to node from body in
      let step = takes_frame s after number node from body (by_rule p s number node from body due) none status covers words messages are in
      let done = (delivers p s number frame node (is_found p s number node from body due) due.at).done in
      let said = words_said_law s after number frame step done says no_more stamped table in
      record {
        ties = ties_words_law s after (name_of node) said.0 stand.ties;
        versions = versions_words_law s after (name_of node) said.0 stand.versions;
        ceased = ceased_words_law s after (name_of node) said.0 said.1 stand.ceased;
      }

  pub hello_words_kept : (hello : HelloFields) → IsArriving s number node from (hello_body hello) → node.status ≡ Joining
      → IsName (settings_of node) from → All (λ link. IsName (settings_of node) link.name) hello.links → AreStamped s → WordsStand s
      → WordsStand after
  hello_words_kept hello due at sender names stamped stand =
      let step = hello_law node from hello at due.known in
      let state = (taken_at node from (hello_body hello)).state in
      let none = starts_none_as p s number node from (hello_body hello) due (ap (λ (o : SessionsValue). o.opened) step.sessions) in
      words_kept (hello_body hello) due (hello_tells node.ties node.stamp from hello.is_core hello.links)
      (message from (Heard hello.session) ∷ []) none step.joins.status step.joins.covers step.sent
      (hello_said node state from hello due.is_node.ties sender names step.ties)
      (says_no_more (frame_to node from (hello_body hello)) state (message from (Heard hello.session) ∷ []) tt (λ m among.
      one_aside m (message from (Heard hello.session)) tt among))
      (rw at tt) stamped stand

  pub answer_words_kept : (body : ℕ → Body) (k : ℕ) → IsAside (body k) → AnswerLaw body → (due : IsArriving s number node from (body k))
      → (node.status ≡ Joining) ⊎ (node.status ≡ Core) → AreStamped s → WordsStand s → WordsStand after
  answer_words_kept body k aside law due at stamped stand =
      let step = law node from k due.is_node.sessions (early at) due.known in
      let state = (taken_at node from (body k)).state in
      let messages = answer_sends (answer_to (join_session_at node k)) in
      words_kept (body k) due [] messages (starts_none_as p s number node from (body k) due step.opened) step.joins.status step.joins.covers
      step.sent (stays_said node state step.ties)
      (says_no_more (frame_to node from (body k)) state messages aside (answer_aside (answer_to (join_session_at node k))))
      (early_table node.status at) stamped stand
    where
      early : (node.status ≡ Joining) ⊎ (node.status ≡ Core)
          → (node.status ≡ Joining) ⊎ ((node.status ≡ Core) ⊎ (node.status ≡ CeasedStatus))
      early (inl joining) = inl joining
      early (inr core) = inr (inl core)

  pub quiet_words_kept : (body : Body) (quiet : IsQuiet body) → IsArriving s number node from body → has_table node.status → AreStamped s
      → WordsStand s → WordsStand after
  quiet_words_kept body quiet due table stamped stand =
      let step = quiet_law node (frame_to node from body) quiet in
      let acted = taken_at node from body in
      let words = words_by (rule_of_frame node.status node from body) in
      let messages = messages_by (rule_of_frame node.status node from body) in
      let sent = rule_sends node from body due.known in
      let silent : (word : Tie) → IsAmong word words → ⊥ = λ word among. step.sent (link_frame (name_of node) word) (sent.links word among) in
      words_kept body due words messages (starts_none_as p s number node from body due (ap (λ (o : SessionsValue). o.opened) step.sessions)) step.status
      step.covers sent
      (record {
        unsaid = λ t none. ap (λ (u : TiesValue). kind_in u.table t) step.ties;
        on = λ word among. absurd (silent word among);
        off = λ word among. absurd (silent word among);
        newer = λ word among. absurd (silent word among);
        once = λ one two among. absurd (silent one among);
        register = λ holder. ap (λ (u : TiesValue). entry_of name_cmp u.holders holder) step.ties;
      })
      (says_no_more (frame_to node from body) acted.state messages (quiet_aside (kind_of body) quiet) (λ m among.
      quiet_aside (kind_of m.body) (step.sent (message_frame (name_of node) m) (sent.named m among))))
      table stamped stand

  pub seek_words_kept : (joiner next : List ℕ) → IsArriving s number node from (Seek joiner) → node.status ≡ Core
      → sought node.ties.table joiner ≡ Forward next → AreStamped s → WordsStand s → WordsStand after
  unfolding frame_at_core
  seek_words_kept joiner next due at found stamped stand =
      let frame = frame_to node from (Seek joiner) in
      let carried = frame_law node frame (sends node (message next (Seek joiner) ∷ [])) due.known (rw (at, found) refl) in
      let state = (taken_at node from (Seek joiner)).state in
      words_kept (Seek joiner) due [] (message next (Seek joiner) ∷ [])
      (starts_none_as p s number node from (Seek joiner) due (ap (λ (o : SessionsValue). o.opened) carried.sessions)) carried.status carried.covers
      carried.sent (stays_said node state carried.ties)
      (says_no_more frame state (message next (Seek joiner) ∷ []) tt (λ m among. one_aside m (message next (Seek joiner)) tt among))
      (rw at tt) stamped stand

  pub tell_words_kept : (tell : TellFields) (watch : List Slot) → IsArriving s number node from (tell_body tell watch) → node.status ≡ Joining
      → IsName (settings_of node) tell.joiner → AreStamped s → WordsStand s → WordsStand after
  tell_words_kept tell watch due at name stamped stand =
      let step = meet_law node from tell watch due.is_node.ties name at due.known in
      let state = (taken_at node from (tell_body tell watch)).state in
      let linked = none_or_pin (link_to node tell.joiner) (tell_fits node from tell watch due.known).pin in
      let none = tell_starts_none p s number node from tell watch due (tell_in_session node from tell watch (inr at) due.known) in
      let sent = meets_sent node from tell watch due.known at in
      words_kept (tell_body tell watch) due (words_of (pin_word node tell.joiner)) sent.messages none step.status step.covers sent.are
      (pin_said node state tell.joiner linked step.pins.pinned step.pins.others step.pins.holders)
      (says_no_more (frame_to node from (tell_body tell watch)) state sent.messages tt (λ m among.
      elim sent.answers [
        | inl acks ↦ one_aside m (message from (Ack tell.session)) tt (subst (IsAmong m) acks among)
        | inr greets ↦ one_aside m (message tell.joiner (joining_hello greets.0)) tt (subst (IsAmong m) greets.1 among)
      ]))
      (rw at tt) stamped stand

  -- a Tell at a core node that covers the joiner so already
  pub known_words_kept : (tell : TellFields) (watch : List Slot) → IsArriving s number node from (tell_body tell watch)
      → node.status ≡ Core → IsName (settings_of node) tell.joiner → is_kept (level_of node tell.joiner) tell.level ≡ true → AreStamped s
      → WordsStand s → WordsStand after
  known_words_kept tell watch due at name test stamped stand =
      let frame = frame_to node from (tell_body tell watch) in
      let words = words_of (pin_word node tell.joiner) in
      let messages = message from (Ack tell.session) ∷ [] in
      let carried = frame_law node frame (with_words words (sends (with_pin node tell.joiner) messages)) due.known
      (known_rule node from tell watch at test) in
      let step = tell_law node from tell watch due.is_node.ties name at due.known in
      let state = (taken_at node from (tell_body tell watch)).state in
      let linked = none_or_pin (link_to node tell.joiner) (tell_fits node from tell watch due.known).pin in
      let none = tell_starts_none p s number node from tell watch due (tell_in_session node from tell watch (inl at) due.known) in
      words_kept (tell_body tell watch) due words messages none carried.status carried.covers carried.sent
      (pin_said node state tell.joiner linked step.pins.pinned step.pins.others step.pins.holders)
      (says_no_more frame state messages tt (λ m among. one_aside m (message from (Ack tell.session)) tt among))
      (rw at tt) stamped stand
