-- What is said of links stands once a node has started something: no word is said and none is taken.
use Rattle.std.proofs.Common.{◌≡◌, ◌⊎◌, ℕ, Bool, true, false, List, None, Some, ap, sym, subst, ◌∙◌, inl, inr}
use Rattle.tap_name.specs.Order.{name_cmp}
use Rattle.tap_name.specs.Settings.{SettingsValue}
use Rattle.tap_register.specs.Registers.{entry_of}
use Rattle.tap_link.specs.declared.kind.Kind.{Kind}
use Rattle.tap_link.specs.declared.kind.Kind.TheVariants.{Leaving as LeavingKind, Pin, Settled}
use Rattle.tap_table.specs.Ties.{TiesValue}
use Rattle.tap_wire.specs.declared.frame.Body.{Body}
use Rattle.tap_wire.specs.declared.frame.Body.TheVariants.{Forget, Link, Release, Seek}
use Rattle.tap_wire.specs.declared.frame.Frame.{Frame}
use Rattle.tap_rule.specs.Act.{act}
use Rattle.tap_rule.specs.Event.{Acted, Start}
use Rattle.tap_rule.specs.Event.Event.{Starts}
use Rattle.tap_rule.specs.Event.Start.{Join}
use Rattle.tap_rule.specs.Node.{NodeState}
use Rattle.tap_rule.specs.Node.Status.{Ceased as CeasedStatus, Core, Joining}
use Rattle.tap_rule.specs.QuietSteps.{IsQuiet}
use Rattle.tap_safety.specs.Ceased.{CoreOrJoining, IsRegistered, SaysSo}
use Rattle.tap_safety.specs.Invariant.{Basis}
use Rattle.tap_safety.specs.Moved.{HasDone}
use Rattle.tap_safety.specs.Remembered.{TieWord}
use Rattle.tap_safety.specs.Seeking.{HasNode}
use Rattle.tap_safety.specs.Soft.{IsSoft}
use Rattle.tap_safety.specs.Exchanges.{IsSent}
use Rattle.tap_safety.specs.System.{System, HasLink, IsUnderWay}
use Rattle.tap_safety.specs.Ties.{IsNoNewer, IsOnWay, LastIs, Versions, hears_words, link_in, link_of, register_in, register_of, release_frame, status_in, status_of, tie_word_kept, word_frame}
use Rattle.tap_safety.specs.WordSteps.{KeepsForgets, SaysWords}
use Rattle.tap_safety.specs.Regions.{Pins}
use Rattle.tap_safety.proofs.LinkKeeps.{some_state}
use Rattle.tap_safety.proofs.StartKeeps.{way_stays}
use Rattle.tap_safety.proofs.StepLaws.{ceased_words_law, ties_words_law, versions_words_law}
use Rattle.tap_safety.proofs.WordsKept.{at_link, link_at}
use Rattle.tap_moves.specs.Delivered.{after_start}
use Rattle.tap_moves.specs.TiesLaws.{WordsStand}
use Rattle.tap_moves.proofs.Silent.{IsNoWord, last_stays, same_in}
use Rattle.tap_moves.specs.Starts.{StartWords}
use Rattle.tap_moves.proofs.StartKinds.{StartsAlike, StartsAnew, alike_changes, alike_links, alike_status, alike_way_was, anew_link_was, anew_sent, anew_there, anew_ways, by_kind, joined}

-- the last words stay, if none is sent
last_same : (s s' : System) (x : List ℕ) (after : NodeState) (sent : List Frame) → HasDone s s' x after sent
    → ((from to : List ℕ) (body : Body) → IsSent sent from to body → IsNoWord body) → (y t : List ℕ) → s'.last y t ≡ s.last y t
last_same s s' x after sent done no_word y t =
    elim (done.others_words y t) [
      | inr same ↦ same
      | inl here ↦
          subst (λ z. s'.last z t ≡ s.last z t) (sym here) (done.words t ∙ last_stays sent t (s.last x t) no_word)
    ]

-- ---- a node stays what it is

-- what is about pointers, lookups and casts says no word
quiet_no_word : (body : Body) → IsQuiet body → IsNoWord body
quiet_no_word (Link version on) quiet = absurd quiet
quiet_no_word Forget quiet = absurd quiet
quiet_no_word _ quiet = tt

module _ (p : SettingsValue) (s : System) (x : List ℕ) (start : Start) (node : NodeState) (is : StartsAlike p s x start node) where
  abbrev after : System
  after = after_start p s x start

  abbrev acted : Acted
  acted = act node (Starts start)

  -- links, registers and last words stay
  links_are : (y t : List ℕ) → link_of after y t ≡ link_of s y t
  unfolding link_of
  links_are y t =
      same_in s after x node acted.state (alike_changes p s x start node is) (λ n. link_in n t) (alike_links p s x start node is t) y

  registers_are : (t y : List ℕ) → register_of after t y ≡ register_of s t y
  unfolding register_of
  registers_are t y =
      same_in s after x node acted.state (alike_changes p s x start node is) (λ n. register_in n y)
      (ap (λ (ties : TiesValue). tie_word_kept (entry_of name_cmp ties.holders y)) is.alike.ties) t

  last_are : (y t : List ℕ) → after.last y t ≡ s.last y t
  last_are =
      last_same s after x acted.state acted.sent is.step.done
      (λ from to body sends. quiet_no_word body (is.alike.sent (record { from = from; to = to; body = body }) sends))

  -- each frame stays under way
  alike_stays : (from to : List ℕ) (body : Body) → IsUnderWay s from to body → IsUnderWay after from to body
  alike_stays = way_stays s after acted.sent is.step.sent

  -- so it is a step that says of each link that it changes: of none
  says_words : SaysWords s after x
  says_words = record {
    status = alike_status p s x start node is;
    registers = registers_are;
    others = λ y t. inr (links_are y t, last_are y t);
    mine = λ t. inl (links_are x t, last_are x t);
    still = λ y t word way. alike_stays y t (Link word.version word.on) way;
    was = λ y t word way. inl (alike_way_was p s x start node is y t (Link word.version word.on) (λ never. never) way);
    releases = λ t y way. inl (alike_stays t y Release way);
  }

  keeps_forgets : KeepsForgets s after x
  keeps_forgets = record {
    still = λ n y way. inl (alike_stays n y Forget way);
    was = λ n y way. inl (alike_way_was p s x start node is n y Forget (λ never. never) way);
  }

  alike_words : Basis p s → WordsStand after
  alike_words inv = record {
    ties = ties_words_law s after x says_words inv.ties;
    versions = versions_words_law s after x says_words inv.versions;
    ceased = ceased_words_law s after x says_words keeps_forgets inv.ceased;
  }

-- ---- a new name starts to join

-- a soft node is there, and so is whom a node has a link to while nobody departs
soft_there : (s : System) (y : List ℕ) → IsSoft s y → HasNode s y
soft_there s y (inl joiner) = record { state = joiner.state; is = joiner.is }
soft_there s y (inr (inl core)) = record { state = core.state; is = core.is }
soft_there s y (inr (inr ceased)) = record { state = ceased.state; is = ceased.is }

linked_there : (p : SettingsValue) (s : System) → Basis p s → s.departing ≡ None → (y t : List ℕ) (kind : Kind) → HasLink s y t kind
    → HasNode s t
linked_there p s inv none y t Pin link = soft_there s t (inv.soft.pins y t link)
linked_there p s inv none y t Settled link = soft_there s t (inr (inl (inv.soft.settled y t link)))
linked_there p s inv none y t LeavingKind link = absurd (inv.departure.marked y t none link)

module _ (p : SettingsValue) (s : System) (x via : List ℕ) (is : StartsAnew p s x via) (inv : Basis p s) where
  abbrev begun : System
  begun = after_start p s x (Join via)

  -- what is seen of a node that was there
  there : (y : List ℕ) → HasNode s y → begun.node y ≡ s.node y
  there y node = anew_there p s x via is y node.state node.is

  status_there : (y : List ℕ) → HasNode s y → status_of begun y ≡ status_of s y
  unfolding status_of
  status_there y node = ap status_in (there y node)

  link_there : (y t : List ℕ) → HasNode s y → link_of begun y t ≡ link_of s y t
  unfolding link_of
  link_there y t node = ap (λ n. link_in n t) (there y node)

  register_there : (t y : List ℕ) → HasNode s t → register_of begun t y ≡ register_of s t y
  unfolding register_of
  register_there t y node = ap (λ n. register_in n y) (there t node)

  -- the new one has no link, and nobody has one to it
  link_was : (y t : List ℕ) (kind : Kind) → link_of begun y t ≡ Some kind → HasLink s y t kind
  link_was y t kind link = anew_link_was p s x via is y t kind (at_link begun y t kind link)

  has_there : (y t : List ℕ) (kind : Kind) → HasLink s y t kind → HasNode s t
  has_there = linked_there p s inv is.was_none

  -- and its register has nobody
  register_was : (t y : List ℕ) (word : TieWord) → register_of begun t y ≡ Some word → register_of s t y ≡ Some word
  unfolding register_of
  register_was t y word kept =
      elim (is.step.done.others t) [
        | inr same ↦ sym (ap (λ n. register_in n y) same) ∙ kept
        | inl here ↦
            let empty : register_in (begun.node t) y ≡ None =
            ap (λ n. register_in n y) (ap begun.node here ∙ is.step.done.is)
            ∙ ap (λ holders. tie_word_kept (entry_of name_cmp holders y)) is.unheld in
            let wrong : None ≡ Some word = sym empty ∙ kept in
            absurd (cc)
      ]

  -- it says no word, and no frame goes
  anew_last : (y t : List ℕ) → begun.last y t ≡ s.last y t
  anew_last =
      last_same s begun x (joined p x via).state (joined p x via).sent is.step.done
      (λ from to body sends. subst IsNoWord (sym (anew_sent p s x via is from to body sends)) tt)

  anew_stays : (from to : List ℕ) (body : Body) → IsUnderWay s from to body → IsUnderWay begun from to body
  anew_stays = way_stays s begun (joined p x via).sent is.step.sent

  -- a frame that is no Seek was under way
  anew_was : (from to : List ℕ) (body : Body) → (body ≡ Seek x → ⊥) → IsUnderWay begun from to body → IsUnderWay s from to body
  anew_was from to body apart way =
      elim (anew_ways p s x via is from to body way) [ inl old ↦ old | inr seek ↦ absurd (apart seek) ]

  word_was : (y t : List ℕ) (word : TieWord) → IsOnWay begun (word_frame y t word) → IsOnWay s (word_frame y t word)
  word_was y t word way =
      anew_was y t (Link word.version word.on) (λ seek. let wrong : Link word.version word.on ≡ Seek x = seek in cc) way

  -- ---- the ties

  -- the last word to a node that was there stands
  last_on : (y t : List ℕ) (on : Bool) → HasNode s t → LastIs s y t on → LastIs begun y t on
  last_on y t on node old = record {
    last = old.last;
    is = anew_last y t ∙ old.is;
    on_is = old.on_is;
    stands = elim old.stands [
      | inl way ↦ inl (anew_stays y t (Link old.last.version old.last.on) way)
      | inr kept ↦ inr (register_there t y node ∙ kept)
    ];
  }

  linked : (y t : List ℕ) (kind : Kind) → hears_words (status_of begun t) → link_of begun y t ≡ Some kind → LastIs begun y t true
  linked y t kind hears link =
      let had = link_was y t kind link in
      let node = has_there y t kind had in
      last_on y t true node
      (inv.ties.linked y t kind (subst hears_words (status_there t node) hears) (link_at s y t kind had))

  dropped : (y t : List ℕ) (word : TieWord) → hears_words (status_of begun t) → link_of begun y t ≡ None → begun.last y t ≡ Some word
      → LastIs begun y t false
  dropped y t word hears link last =
      let said : s.last y t ≡ Some word = sym (anew_last y t) ∙ last in
      let from = inv.ends.senders y t word said in
      let to = inv.ends.receivers y t word said in
      last_on y t false to
      (inv.ties.dropped y t word (subst hears_words (status_there t to) hears) (sym (link_there y t from) ∙ link) said)

  pinned : (y t : List ℕ) → status_of begun t ≡ Some Core → link_of begun y t ≡ Some Pin
      → ((word : TieWord) × (begun.last y t ≡ Some word) × IsOnWay begun (word_frame y t word)) ⊎ IsOnWay begun (release_frame t y)
  pinned y t core link =
      let had = link_was y t Pin link in
      let node = has_there y t Pin had in
      elim (inv.ties.pinned y t (sym (status_there t node) ∙ core) (link_at s y t Pin had)) [
        | inl said ↦ inl (said.0, anew_last y t ∙ said.1, anew_stays y t (Link said.0.version said.0.on) said.2)
        | inr released ↦ inr (anew_stays t y Release released)
      ]

  -- no word is above the last one
  no_newer : (y t : List ℕ) (word : TieWord) → IsNoNewer s y t word → IsNoNewer begun y t word
  no_newer y t word old = record { last = old.last; is = anew_last y t ∙ old.is; most = old.most; same = old.same }

  anew_versions : Versions begun
  anew_versions = record {
    ways = λ y t word way. no_newer y t word (inv.versions.ways y t word (word_was y t word way));
    registers = λ y t word kept. no_newer y t word (inv.versions.registers y t word (register_was t y word kept));
    once = λ y t word kept last way stood.
        inv.versions.once y t word kept (sym (anew_last y t) ∙ last) (word_was y t word way) (register_was t y kept stood);
  }

  -- ---- pins on nodes that join or have ceased

  -- who pins another was there, and core or joining if it is so now
  who_was : (y n : List ℕ) → HasLink s y n Pin → CoreOrJoining begun y → CoreOrJoining s y
  who_was y n pin who =
      let same = status_there y (record { state = pin.state; is = pin.is }) in
      elim who [ inl core ↦ inl (sym same ∙ core) | inr joins ↦ inr (sym same ∙ joins) ]

  -- a word on its way stays on its way
  says_on : (y n : List ℕ) → SaysSo s y n → SaysSo begun y n
  says_on y n said =
      record { word = said.word; on = said.on; way = anew_stays y n (Link said.word.version said.word.on) said.way }

  pin_was : (y n : List ℕ) → Pins begun y n → HasLink s y n Pin
  pin_was y n pin = anew_link_was p s x via is y n Pin pin

  joining_on : (y n : List ℕ) → CoreOrJoining begun y → Pins begun y n → status_of begun n ≡ Some Joining
      → IsRegistered begun y n ⊎ SaysSo begun y n
  joining_on y n who pin joins =
      let had = pin_was y n pin in
      let node = has_there y n Pin had in
      elim (inv.ceased.joining y n (who_was y n had who) had (sym (status_there n node) ∙ joins)) [
        | inl kept ↦ inl (record { word = kept.word; on = kept.on; is = register_there n y node ∙ kept.is })
        | inr said ↦ inr (says_on y n said)
      ]

  ceased_on : (y n : List ℕ) → CoreOrJoining begun y → Pins begun y n → status_of begun n ≡ Some CeasedStatus
      → SaysSo begun y n ⊎ IsUnderWay begun n y Forget
  ceased_on y n who pin ceased =
      let had = pin_was y n pin in
      let node = has_there y n Pin had in
      elim (inv.ceased.ceased y n (who_was y n had who) had (sym (status_there n node) ∙ ceased)) [
        | inl said ↦ inl (says_on y n said)
        | inr forget ↦ inr (anew_stays n y Forget forget)
      ]

  forgets_on : (n y : List ℕ) → IsUnderWay begun n y Forget → status_of begun n ≡ Some CeasedStatus
  forgets_on n y way =
      let ceased = inv.ceased.forgets n y (anew_was n y Forget (λ seek. let wrong : Forget ≡ Seek x = seek in cc) way) in
      let state = some_state s n CeasedStatus ceased in
      status_there n (record { state = state.0; is = state.1 }) ∙ ceased

  anew_words : WordsStand begun
  anew_words = record {
    ties = record { linked = linked; dropped = dropped; pinned = pinned };
    versions = anew_versions;
    ceased = record { joining = joining_on; ceased = ceased_on; forgets = forgets_on };
  }

pub start_words : StartWords
start_words p s x start inv may stays =
    by_kind p s x start (λ after. WordsStand after) inv may stays (λ via is. anew_words p s x via is inv)
    (λ node is. alike_words p s x start node is inv)
