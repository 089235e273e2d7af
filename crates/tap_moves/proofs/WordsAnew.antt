-- A Tell at a core node, a Seek at the surrogate and a Done: what is said of links stands.
-- Cited above: among_names
use Rattle.std.proofs.Common.{◌≡◌, ◌⊎◌, ℕ, ◌+◌, Bool, true, false, List, [], ◌∷◌, Option, None, Some, is_none, arith, ap, refl, sym, subst, ◌∙◌, inl, inr}
use Rattle.tap_name.specs.Names.{Among}
use Rattle.tap_name.specs.Order.{name_cmp}
use Rattle.tap_name.specs.Settings.{SettingsValue}
use Rattle.tap_link.specs.declared.kind.Kind.{Kind}
use Rattle.tap_link.specs.declared.kind.Kind.TheVariants.{Pin}
use Rattle.tap_register.specs.Registers.{entry_of}
use Rattle.tap_register.specs.declared.registers.Entry.{Entry}
use Rattle.tap_session.specs.declared.parent.Parent.{Parent}
use Rattle.tap_session.specs.declared.parent.Parent.TheVariants.{Node, Root}
use Rattle.tap_table.specs.Table.{kind_in}
use Rattle.tap_table.specs.Ties.{TiesValue, holders_on, says_on, tie_where}
use Rattle.tap_table.specs.declared.tie.Tie.{Tie}
use Rattle.tap_table.proofs.HoldersFound.{on_exactly}
use Rattle.tap_join.specs.Hello.{words_of}
use Rattle.tap_wire.specs.declared.frame.Body.{Body}
use Rattle.tap_wire.specs.declared.frame.Body.TheVariants.{Done, Forget, Link, Release}
use Rattle.tap_wire.specs.declared.frame.Frame.{Frame}
use Rattle.tap_rule.specs.Answers.{answer_for}
use Rattle.tap_rule.specs.Covering.{Request, pins_and_covers}
use Rattle.tap_rule.specs.Event.{Acted}
use Rattle.tap_rule.specs.JoinSteps.{CoverStep, DoneStep}
use Rattle.tap_rule.specs.RuleLaws.{IsCarriedOut, frame_to}
use Rattle.tap_rule.specs.Node.{NodeState, link_to, name_of, word_of}
use Rattle.tap_rule.specs.Node.Status.{Ceased as CeasedStatus, Core, Joining}
use Rattle.tap_rule.specs.Reaction.{Message, message, pin_word, to_each}
use Rattle.tap_rule.specs.Sent.{AreSent, IsAmong}
use Rattle.tap_rule.proofs.Among.{among-map, among-map_from}
use Rattle.tap_rule.proofs.JoinSteps.{IsTellFit}
use Rattle.tap_safety.specs.Bookkeeping.{has_table}
use Rattle.tap_safety.specs.Ceased.{Ceased, CoreOrJoining}
use Rattle.tap_safety.specs.Moved.{HasDone}
use Rattle.tap_safety.specs.Remembered.{TieWord}
use Rattle.tap_safety.specs.Exchanges.{ChangesAt, IsTaken}
use Rattle.tap_safety.specs.System.{System}
use Rattle.tap_safety.specs.Ties.{IsOnWay, LastIs, TiesAreTold, hears_words, link_of, register_in, register_of, release_frame, status_of, tie_word_kept, word_frame}
use Rattle.tap_safety.specs.WordSteps.{SaysLinks, SaysNoMore}
use Rattle.tap_safety.proofs.Moved.{delivers}
use Rattle.tap_safety.proofs.UnderWay.{sent_under_way}
use Rattle.tap_moves.specs.ByRule.{taken_at}
use Rattle.tap_moves.specs.Delivered.{after_delivery}
use Rattle.tap_moves.specs.InvariantLaws.{IsDelivery}
use Rattle.tap_moves.specs.TiesLaws.{WordsStand}
use Rattle.tap_moves.proofs.CoverMade.{none_or_pin}
use Rattle.tap_moves.proofs.InvariantMoves.{due}
use Rattle.tap_moves.proofs.MovesMade.{by_rule, is_found}
use Rattle.tap_moves.proofs.WordsMade.{IsAside}
use Rattle.tap_moves.proofs.AsBefore.{as_before, ceased_back, last_back, link_seen, pins_there, stand_now, stand_there, status_cases, status_now, status_then, versions_back, way_back}
use Rattle.tap_moves.proofs.CoverSent.{covers_say}
use Rattle.tap_moves.proofs.LinkEnds.{joining_said}
use Rattle.tap_moves.proofs.Silent.{IsNoWord}

-- ---- words of a node

-- no link changes, and nothing is said
pub stays_said : (before after : NodeState) → after.ties ≡ before.ties → SaysLinks before after []
stays_said before after ties = record {
  unsaid = λ t none. ap (λ (u : TiesValue). kind_in u.table t) ties;
  on = λ word among. absurd among;
  off = λ word among. absurd among;
  newer = λ word among. absurd among;
  once = λ one two among. absurd among;
  register = λ holder. ap (λ (u : TiesValue). entry_of name_cmp u.holders holder) ties;
}

-- the one link that changes has its word
pub one_said : (before after : NodeState) (name : List ℕ) (on : Bool)
    → ((t : List ℕ) → (t ≡ name) ⊎ (link_to after t ≡ link_to before t))
    → ((kind : Kind) → link_to after name ≡ Some kind → on ≡ true) → (link_to after name ≡ None → on ≡ false)
    → ((holder : List ℕ) → word_of after holder ≡ word_of before holder)
    → SaysLinks before after (record { to = name; version = before.stamp + 1; on = on } ∷ [])
one_said before after name on others linked dropped register = record {
  unsaid = λ t silent. elim (others t) [
    | inl same ↦ absurd (silent (record { to = name; version = before.stamp + 1; on = on }) (inl refl) (sym same))
    | inr stays ↦ stays
  ];
  on = λ word among kind link. elim among [
    | inl is ↦
        ap (λ (w : Tie). w.on) is ∙ linked kind (ap (λ v. link_to after v) (sym (ap (λ (w : Tie). w.to) is)) ∙ link)
    | inr never ↦ absurd never
  ];
  off = λ word among gone. elim among [
    | inl is ↦ ap (λ (w : Tie). w.on) is ∙ dropped (ap (λ v. link_to after v) (sym (ap (λ (w : Tie). w.to) is)) ∙ gone)
    | inr never ↦ absurd never
  ];
  newer = λ word among. elim among [
    | inl is ↦ let version : word.version ≡ before.stamp + 1 = ap (λ (w : Tie). w.version) is in omega (arith, version)
    | inr never ↦ absurd never
  ];
  once = λ one two first second same. elim first [
    | inl is ↦ elim second [ inl also ↦ is ∙ sym also | inr never ↦ absurd never ]
    | inr never ↦ absurd never
  ];
  register = register;
}

-- a name is pinned, and told so if it was not linked before
pub pin_said : (before after : NodeState) (name : List ℕ) → ((link_to before name ≡ None) ⊎ (link_to before name ≡ Some Pin))
    → link_to after name ≡ Some Pin → ((t : List ℕ) → (t ≡ name) ⊎ (link_to after t ≡ link_to before t))
    → after.ties.holders ≡ before.ties.holders
    → SaysLinks before after (words_of (tie_where (is_none (link_to before name)) name (before.stamp + 1) true))
pin_said before after name (inl none) pinned others holders =
    rw none (one_said before after name true others (λ kind link. refl)
    (λ gone. let wrong : None ≡ Some Pin = sym gone ∙ pinned in absurd (cc))
    (λ holder. ap (λ h. entry_of name_cmp h holder) holders))
pin_said before after name (inr pin) pinned others holders = rw pin (record {
  unsaid = λ t silent. elim (others t) [
    | inl same ↦ ap (link_to after) same ∙ pinned ∙ sym pin ∙ ap (link_to before) (sym same)
    | inr stays ↦ stays
  ];
  on = λ word among. absurd among;
  off = λ word among. absurd among;
  newer = λ word among. absurd among;
  once = λ one two among. absurd among;
  register = λ holder. ap (λ h. entry_of name_cmp h holder) holders;
})

-- ---- what isn't sent

pub no_more_said : (frame : Frame) (after : NodeState) (messages : List Message) → IsAside frame.body
    → ((m : Message) → IsAmong m messages → IsNoWord m.body) → SaysNoMore frame after messages
no_more_said frame after messages aside each = record {
  link = λ version on is. let never : IsAside (Link version on) = subst IsAside is aside in never;
  release = λ is pin. let never : IsAside Release = subst IsAside is aside in never;
  forget = λ is pin. let never : IsAside Forget = subst IsAside is aside in never;
  no_link = λ m among version on is. let never : IsNoWord (Link version on) = subst IsNoWord is (each m among) in never;
  no_forget = λ m among is. let never : IsNoWord Forget = subst IsNoWord is (each m among) in never;
}

answer_no_word : (parent : Parent) → IsNoWord (answer_for parent).body
answer_no_word (Root joiner) = tt
answer_no_word (Node name session) = tt

-- ---- by a delivery

module _ (p : SettingsValue) (s : System) (number : ℕ) (node : NodeState) (from : List ℕ) (body : Body)
    (is : IsDelivery p s number node from body) where
  abbrev after : System
  after = after_delivery p s number

  abbrev acted : Acted
  acted = taken_at node from body

  pub has_done : HasDone s after (name_of node) acted.state acted.sent
  has_done =
      let here = due p s number node from body is in
      (delivers p s number (frame_to node from body) node (is_found p s number node from body here) here.at).done

  pub is_taken : IsTaken s after number (frame_to node from body) acted.sent
  is_taken = (by_rule p s number node from body (due p s number node from body is)).taken

  pub changes_at : ChangesAt s after (name_of node) node acted.state
  changes_at = (by_rule p s number node from body (due p s number node from body is)).at

  pub stood : WordsStand s
  stood = record { ties = is.invariant.ties; versions = is.invariant.versions; ceased = is.invariant.ceased }

  -- a frame whose taker says of each link that it changes, and stays what it is
  pub said_stand : (words : List Tie) (messages : List Message) → AreSent (name_of node) words messages acted.sent
      → SaysLinks node acted.state words → SaysNoMore (frame_to node from body) acted.state messages → has_table node.status
      → acted.state.status ≡ node.status → WordsStand after
  said_stand words messages are says no_more table status =
      let frame = frame_to node from body in
      stand_now s after number frame node acted.state acted.sent is_taken changes_at has_done status
      (stand_there s after number frame node acted.state acted.sent is_taken changes_at has_done words messages are says no_more
      is.invariant.stamped table stood)

  -- a cover
  pub cover_stand : (request : Request) → IsCarriedOut node (pins_and_covers node request) acted → CoverStep node request acted
      → IsTellFit node request.joiner → node.status ≡ Core → IsAside body → WordsStand after
  cover_stand request carried step fits at aside =
      let words = words_of (pin_word node request.joiner) in
      let messages = (pins_and_covers node request).messages in
      let linked = none_or_pin (link_to node request.joiner) fits.pin in
      said_stand words messages carried.sent
      (pin_said node acted.state request.joiner linked step.pins.pinned step.pins.others step.pins.holders)
      (no_more_said (frame_to node from body) acted.state messages aside
      (covers_say (λ (m : Message). IsNoWord m.body) node request (answer_no_word request.parent) (λ first. tt)
      (λ left target among. tt)))
      (rw at tt) step.status

-- ---- a Done

-- a name that is among names is one of these
pub among_names : (x : List ℕ) (names : List (List ℕ)) → Among x names → IsAmong x names
among_names x [] among = absurd among
among_names x (y ∷ ys) (inl is) = inl is
among_names x (y ∷ ys) (inr later) = inr (among_names x ys later)

module _ (p : SettingsValue) (s : System) (number : ℕ) (node : NodeState) (from : List ℕ) (is : IsDelivery p s number node from Done)
    (at : node.status ≡ Joining) (step : DoneStep node (taken_at node from Done)) where
  abbrev done_after : System
  done_after = after_delivery p s number

  abbrev done_acted : Acted
  done_acted = taken_at node from Done

  abbrev done_frame : Frame
  done_frame = frame_to node from Done

  abbrev own : List ℕ
  own = name_of node

  abbrev releases : List Message
  releases = to_each Release (holders_on node.ties)

  -- the system with the node still joining
  abbrev joins_yet : System
  joins_yet =
      as_before s done_after number done_frame node done_acted.state done_acted.sent (is_taken p s number node from Done is)
      (changes_at p s number node from Done is) (has_done p s number node from Done is)

  release_no_word : (m : Message) → IsAmong m releases → IsNoWord m.body
  release_no_word m among =
      let found = among-map_from (λ name. message name Release) m (holders_on node.ties) among in
      subst (λ (n : Message). IsNoWord n.body) (sym found.2) tt

  yet_stand : WordsStand joins_yet
  yet_stand =
      stand_there s done_after number done_frame node done_acted.state done_acted.sent (is_taken p s number node from Done is)
      (changes_at p s number node from Done is) (has_done p s number node from Done is) [] releases step.sent
      (stays_said node done_acted.state step.ties)
      (no_more_said done_frame done_acted.state releases tt release_no_word) is.invariant.stamped (rw at tt)
      (stood p s number node from Done is)

  status_yet : (y : List ℕ) → (y ≡ own) ⊎ (status_of joins_yet y ≡ status_of done_after y)
  status_yet =
      status_cases s done_after number done_frame node done_acted.state done_acted.sent (is_taken p s number node from Done is)
      (changes_at p s number node from Done is) (has_done p s number node from Done is)

  joins_then : status_of joins_yet own ≡ Some Joining
  joins_then =
      status_then s done_after number done_frame node done_acted.state done_acted.sent (is_taken p s number node from Done is)
      (changes_at p s number node from Done is) (has_done p s number node from Done is) ∙ ap (λ status. Some status) at

  core_now : status_of done_after own ≡ Some Core
  core_now =
      status_now s done_after number done_frame node done_acted.state done_acted.sent (is_taken p s number node from Done is)
      (changes_at p s number node from Done is) (has_done p s number node from Done is) ∙ ap (λ status. Some status) step.status

  hears_yet : (t : List ℕ) → hears_words (status_of done_after t) → hears_words (status_of joins_yet t)
  hears_yet t hears =
      elim (status_yet t) [
        | inr same ↦ subst hears_words (sym same) hears
        | inl here ↦ subst hears_words (sym (ap (status_of joins_yet) here ∙ joins_then)) tt
      ]

  link_yet : (y t : List ℕ) → link_of joins_yet y t ≡ link_of done_after y t
  link_yet =
      link_seen s done_after number done_frame node done_acted.state done_acted.sent (is_taken p s number node from Done is)
      (changes_at p s number node from Done is) (has_done p s number node from Done is)

  last_now : (x t : List ℕ) (on : Bool) → LastIs joins_yet x t on → LastIs done_after x t on
  last_now =
      last_back s done_after number done_frame node done_acted.state done_acted.sent (is_taken p s number node from Done is)
      (changes_at p s number node from Done is) (has_done p s number node from Done is)

  way_now : (f : Frame) → IsOnWay joins_yet f → IsOnWay done_after f
  way_now =
      way_back s done_after number done_frame node done_acted.state done_acted.sent (is_taken p s number node from Done is)
      (changes_at p s number node from Done is) (has_done p s number node from Done is)

  -- a word that the register keeps is of a holder
  holder_of : (x : List ℕ) (word : TieWord) → register_of done_after own x ≡ Some word → word.on ≡ true
      → says_on (word_of node x) ≡ true
  unfolding register_of
  holder_of x word stood on =
      by (word_of node x)
      (ap tie_word_kept (sym (ap (λ (u : TiesValue). entry_of name_cmp u.holders x) step.ties))
      ∙ sym (ap (λ state. register_in state x) (changes_at p s number node from Done is).is) ∙ stood)
    where
      by : (entry : Option (Entry (List ℕ) Bool)) → tie_word_kept entry ≡ Some word → says_on entry ≡ true
      by None kept = let no : None ≡ Some word = kept in absurd (cc)
      by (Some entry) kept =
          let same : Some (record { version = entry.version; on = entry.value }) ≡ Some word = kept in
          let on_is : entry.value ≡ word.on = cc in
          on_is ∙ on

  -- and it is sent a Release
  released : (x : List ℕ) → says_on (word_of node x) ≡ true → IsOnWay done_after (release_frame own x)
  released x on =
      let ties = (due p s number node from Done is).is_node.ties in
      let among = (on_exactly node.ties ties x).1 on in
      let mine = among-map (λ name. message name Release) x (holders_on node.ties) (among_names x (holders_on node.ties) among) in
      sent_under_way s done_after number done_frame done_acted.sent (is_taken p s number node from Done is) own x Release
      (step.sent.named (message x Release) mine)

  -- who pins it has said so, or is released
  pinned_now : (x : List ℕ) → (last : LastIs done_after x own true)
      → ((word : TieWord) × (done_after.last x own ≡ Some word) × IsOnWay done_after (word_frame x own word))
      ⊎ IsOnWay done_after (release_frame own x)
  pinned_now x last =
      elim last.stands [
        | inl way ↦ inl (last.last, last.is, way)
        | inr stood ↦ inr (released x (holder_of x last.last stood last.on_is))
      ]

  done_ties : TiesAreTold done_after
  done_ties =
      let ties = yet_stand.ties in
      record {
        linked = λ x t kind hears link. last_now x t true (ties.linked x t kind (hears_yet t hears) (link_yet x t ∙ link));
        dropped = λ x t word hears none last.
            last_now x t false (ties.dropped x t word (hears_yet t hears) (link_yet x t ∙ none) last);
        pinned = λ x t core pin. elim (status_yet t) [
          | inr same ↦ elim (ties.pinned x t (same ∙ core) (link_yet x t ∙ pin)) [
            | inl said ↦ inl (said.0, said.1, way_now (word_frame x t said.0) said.2)
            | inr free ↦ inr (way_now (release_frame t x) free)
          ]
          | inl here ↦
              let heard : hears_words (status_of joins_yet own) = subst hears_words (sym joins_then) tt in
              let link : link_of joins_yet x own ≡ Some Pin = link_yet x own ∙ ap (link_of done_after x) (sym here) ∙ pin in
              subst (λ z. ((word : TieWord) × (done_after.last x z ≡ Some word) × IsOnWay done_after (word_frame x z word))
              ⊎ IsOnWay done_after (release_frame z x)) (sym here)
              (pinned_now x (last_now x own true (ties.linked x own Pin heard link)))
        ];
      }

  -- a node that is core or joins was, and one that has ceased had
  either_yet : (x : List ℕ) → CoreOrJoining done_after x → CoreOrJoining joins_yet x
  either_yet x either =
      elim (status_yet x) [
        | inl here ↦ inr (ap (status_of joins_yet) here ∙ joins_then)
        | inr same ↦ elim either [ inl core ↦ inl (same ∙ core) | inr joins ↦ inr (same ∙ joins) ]
      ]

  ended_yet : (n : List ℕ) → status_of done_after n ≡ Some CeasedStatus → status_of joins_yet n ≡ Some CeasedStatus
  ended_yet n ended =
      elim (status_yet n) [
        | inr same ↦ same ∙ ended
        | inl here ↦
            let wrong : Some Core ≡ Some CeasedStatus = sym core_now ∙ ap (status_of done_after) (sym here) ∙ ended in absurd (cc)
      ]

  ended_now : (n : List ℕ) → status_of joins_yet n ≡ Some CeasedStatus → status_of done_after n ≡ Some CeasedStatus
  ended_now n ended =
      elim (status_yet n) [
        | inr same ↦ sym same ∙ ended
        | inl here ↦
            let wrong : Some Joining ≡ Some CeasedStatus = sym joins_then ∙ ap (status_of joins_yet) (sym here) ∙ ended in absurd (cc)
      ]

  done_ceased : Ceased done_after
  done_ceased =
      let ceased = yet_stand.ceased in
      record {
        joining = λ x n either pin joins. joining_said done_after done_ties x n pin joins;
        ceased = λ x n either pin ended.
            ceased_back s done_after number done_frame node done_acted.state done_acted.sent (is_taken p s number node from Done is)
            (changes_at p s number node from Done is) (has_done p s number node from Done is) x n
            (ceased.ceased x n (either_yet x either)
            (pins_there s done_after number done_frame node done_acted.state done_acted.sent (is_taken p s number node from Done is)
            (changes_at p s number node from Done is) (has_done p s number node from Done is) x n pin) (ended_yet n ended));
        forgets = λ n x way. ended_now n (ceased.forgets n x (record { number = way.number; among = way.among }));
      }

  pub done_stand : WordsStand done_after
  done_stand = record {
    ties = done_ties;
    versions =
        versions_back s done_after number done_frame node done_acted.state done_acted.sent (is_taken p s number node from Done is)
        (changes_at p s number node from Done is) (has_done p s number node from Done is) yet_stand.versions;
    ceased = done_ceased;
  }
