-- A Link that a node takes by its rule.
use Rattle.std.proofs.Common.{◌≡◌, ◌⊎◌, ℕ, ◌≤◌, Bool, true, false, if◌then◌else◌, List, [], ◌∷◌, ◌++◌, map, Option, None, Some, arith, ap, refl, sym, ◌∙◌, inl, inr}
use Rattle.std.specs.Option.{option_map}
use Rattle.std.specs.Prelude.{bytes_eq}
use Rattle.std.proofs.lemmas.Bool.{lt-ltb, le-ltb}
use Rattle.tap_register.specs.declared.registers.Entry.{Entry}
use Rattle.tap_register.specs.Registers.{newest, supersedes}
use Rattle.tap_table.specs.Table.{kind_in}
use Rattle.tap_table.specs.Table.{TableValue}
use Rattle.tap_pointer.specs.Reconcile.{AreLaid}
use Rattle.tap_pointer.proofs.Laws.{laid_sends_nothing}
use Rattle.tap_wire.specs.declared.frame.Body.{Body}
use Rattle.tap_wire.specs.declared.frame.Body.TheVariants.{Link, Release}
use Rattle.tap_wire.specs.declared.frame.Frame.{Frame}
use Rattle.tap_rule.specs.Act.{act, completed}
use Rattle.tap_rule.specs.Event.{Acted}
use Rattle.tap_rule.specs.FrameRules.{frame_at_core, frame_at_joining, frame_at_leaving, rule_of_frame}
use Rattle.tap_rule.specs.RuleLaws.{IsRunning, frame_to}
use Rattle.tap_rule.specs.Links.{is_new_link, release_answer, takes_link, takes_link_joining}
use Rattle.tap_rule.specs.Node.{NodeState, Status, link_to, name_of, word_of}
use Rattle.tap_rule.specs.Node.Status.{Ceased, Core, Gone, Joining, Leaving}
use Rattle.tap_rule.specs.Reaction.{Reaction, message}
use Rattle.tap_rule.specs.Sending.{by_receiver, frames_of, lay_frame, link_frame, message_frame}
use Rattle.tap_rule.specs.Sent.{IsAmong, IsLink, IsNamed}
use Rattle.tap_rule.specs.LinkSteps.{LinkStep}
use Rattle.tap_rule.specs.Strange.{is_strange}
use Rattle.tap_rule.proofs.Among.{among-by_receiver_from, among-either, among-map_from}
use Rattle.tap_rule.proofs.LinkSteps.{link_law}
use Rattle.tap_safety.specs.Moved.{last_after, word_after}
use Rattle.tap_safety.specs.Remembered.{TieWord}
use Rattle.tap_safety.specs.System.{System, AmongFrames}
use Rattle.tap_safety.specs.Bookkeeping.{AreStamped}
use Rattle.tap_safety.specs.SessionSteps.{Exchanges}
use Rattle.tap_safety.specs.Exchanges.{AreNumbered, ChangesAt, numbered_from}
use Rattle.tap_safety.specs.Ties.{IsNewer, IsOnWay, TakesLink, hears_words, link_in, link_of, register_in, register_of, release_frame, status_in, status_of, word_frame}
use Rattle.tap_safety.proofs.UnderWay.{sent_under_way}
use Rattle.tap_moves.specs.ByRule.{TakesByRule, taken_at}
use Rattle.tap_moves.specs.TiesLaws.{LinkIsMade, RemembersWords}
use Rattle.tap_moves.proofs.Exchanged.{exchanges, sent_numbered}
use Rattle.tap_moves.proofs.Got.{sent_among}

-- ---- a step after which each pair is laid as wanted sends no Lay

sent_without_lays : (own : List ℕ) (r : Reaction) → r.lays ≡ [] → (f : Frame) → IsAmong f (frames_of own r)
    → IsLink own r.words f ⊎ IsNamed own r.messages f
sent_without_lays own r none f among =
    let links : List Frame = map (link_frame own) (by_receiver r.words) in
    let named : List Frame = map (message_frame own) r.messages in
    let lays : List Frame = map (lay_frame own) r.lays in
    elim (among-either f links (named ++ lays) among) [
      | inl link ↦
          let found = among-map_from (link_frame own) f (by_receiver r.words) link in
          inl (record { word = found.0; among = among-by_receiver_from found.0 r.words found.1; is = found.2 })
      | inr later ↦ elim (among-either f named lays later) [
        | inl message ↦
            let found = among-map_from (message_frame own) f r.messages message in
            inr (record { message = found.0; among = found.1; is = found.2 })
        | inr lay ↦ let nothing : IsAmong f (map (lay_frame own) []) = rw none at lay in absurd nothing
      ]
    ]

completed_lays : (status : Status) (r : Reaction) → IsRunning status → AreLaid r.state.ties.table r.state.pointers
    → (completed status r).lays ≡ []
completed_lays Joining r running laid = (laid_sends_nothing r.state.ties.table r.state.stamp r.state.pointers laid).0
completed_lays Core r running laid = (laid_sends_nothing r.state.ties.table r.state.stamp r.state.pointers laid).0
completed_lays Leaving r running laid = (laid_sends_nothing r.state.ties.table r.state.stamp r.state.pointers laid).0
completed_lays Gone r running laid = absurd running
completed_lays Ceased r running laid = absurd running

completed_sends : (own : List ℕ) (status : Status) (r : Reaction) → IsRunning status → (f : Frame)
    → IsLink own (completed status r).words f ⊎ IsNamed own (completed status r).messages f
    → IsLink own r.words f ⊎ IsNamed own r.messages f
completed_sends own Joining r running f among = among
completed_sends own Core r running f among = among
completed_sends own Leaving r running f among = among
completed_sends own Gone r running f among = absurd running
completed_sends own Ceased r running f among = absurd running

pub sends_no_lay : (node : NodeState) (from : List ℕ) (body : Body) (r : Reaction) → is_strange node (frame_to node from body) ≡ false
    → rule_of_frame node.status node from body ≡ Some r → IsRunning r.state.status → AreLaid r.state.ties.table r.state.pointers
    → (f : Frame) → IsAmong f (taken_at node from body).sent → IsLink (name_of node) r.words f ⊎ IsNamed (name_of node) r.messages f
unfolding act
sends_no_lay node from body r known rule running laid f among =
    let here : IsAmong f (frames_of (name_of node) (completed r.state.status r)) = rw (known, rule) at among in
    completed_sends (name_of node) r.state.status r running f
    (sent_without_lays (name_of node) (completed r.state.status r) (completed_lays r.state.status r running laid) f here)

-- ---- what a Link sends

-- one of these
no_link : (own : List ℕ) (f : Frame) → IsLink own [] f → ⊥
no_link own f link = link.among

released : (own from : List ℕ) (new : Bool) (f : Frame) → IsNamed own (if new then message from Release ∷ [] else []) f
    → f ≡ release_frame own from
released own from true f named =
    elim named.among [ inl is ↦ named.is ∙ ap (message_frame own) is | inr none ↦ absurd none ]
released own from false f named = absurd named.among

answered : (node : NodeState) (from : List ℕ) (version : ℕ) (on : Bool) (f : Frame)
    → IsLink (name_of node) [] f ⊎ IsNamed (name_of node) (release_answer node from version on) f → f ≡ release_frame (name_of node) from
answered node from version on f (inl link) = absurd (no_link (name_of node) f link)
answered node from version on f (inr named) = released (name_of node) from (is_new_link node from version on) f named

unanswered : (own from : List ℕ) (f : Frame) → IsLink own [] f ⊎ IsNamed own [] f → f ≡ release_frame own from
unanswered own from f (inl link) = absurd (no_link own f link)
unanswered own from f (inr named) = absurd named.among

release_by : (node : NodeState) (from : List ℕ) (version : ℕ) (on : Bool)
    → is_strange node (frame_to node from (Link version on)) ≡ false → AreLaid node.ties.table node.pointers → (f : Frame)
    → IsAmong f (taken_at node from (Link version on)).sent → (status : Status) → node.status ≡ status → hears_words (Some status)
    → f ≡ release_frame (name_of node) from
unfolding frame_at_joining frame_at_core frame_at_leaving
release_by node from version on known laid f among Joining at heard =
    unanswered (name_of node) from f
    (sends_no_lay node from (Link version on) (takes_link_joining node from version on) known (rw at refl) (rw at tt) laid f among)
release_by node from version on known laid f among Core at heard =
    answered node from version on f
    (sends_no_lay node from (Link version on) (takes_link node from version on) known (rw at refl) (rw at tt) laid f among)
release_by node from version on known laid f among Leaving at heard =
    answered node from version on f
    (sends_no_lay node from (Link version on) (takes_link node from version on) known (rw at refl) (rw at tt) laid f among)
release_by node from version on known laid f among Gone at heard = absurd heard
release_by node from version on known laid f among Ceased at heard = absurd heard

-- who sends Releases alone says nothing of its links
last_same : (own from : List ℕ) (sent : List Frame) (t : List ℕ) (before : Option TieWord)
    → ((f : Frame) → IsAmong f sent → f ≡ release_frame own from) → last_after sent t before ≡ before
unfolding last_after
last_same own from [] t before each = refl
last_same own from (frame ∷ frames) t before each =
    let is : frame ≡ release_frame own from = each frame (inl refl) in
    let stays : word_after frame.body before ≡ before = ap (λ (f : Frame). word_after f.body before) is in
    let same : (if bytes_eq t frame.to then word_after frame.body before else before) ≡ before =
    either_way (bytes_eq t frame.to) (word_after frame.body before) before stays in
    ap (last_after frames t) same ∙ last_same own from frames t before (λ f among. each f (inr among))
  where
    either_way : (test : Bool) (one other : Option TieWord) → one ≡ other → (if test then one else other) ≡ other
    either_way true one other same = same
    either_way false one other same = refl

-- ---- registers

abbrev entry_word : Entry (List ℕ) Bool → TieWord
entry_word e = record { version = e.version; on = e.value }

newest_new : (old : Option (Entry (List ℕ) Bool)) (e : Entry (List ℕ) Bool) → IsNewer e.version (option_map entry_word old)
    → newest old e ≡ e
newest_new None e newer = refl
newest_new (Some c) e newer = rw (lt-ltb c.version e.version newer) refl

newest_old : (old : Option (Entry (List ℕ) Bool)) (e : Entry (List ℕ) Bool) (kept : TieWord) → option_map entry_word old ≡ Some kept
    → e.version ≤ kept.version → option_map entry_word (Some (newest old e)) ≡ Some kept
newest_old None e kept is most = cc
newest_old (Some c) e kept is most =
    let same : entry_word c ≡ kept = cc in
    let version : c.version ≡ kept.version = ap (λ (w : TieWord). w.version) same in
    rw (le-ltb c.version e.version (omega (arith, version, most))) is

newer_is : (old : Option (Entry (List ℕ) Bool)) (version : ℕ) → IsNewer version (option_map entry_word old)
    → supersedes version old ≡ true
newer_is None version newer = refl
newer_is (Some c) version newer = lt-ltb c.version version newer

-- ---- what is read of a node, if only one changes

module _ (s s' : System) (x : List ℕ) (before after : NodeState) (at : ChangesAt s s' x before after) where
  pub read_same : {A : Type 0} (read : Option NodeState → A) → read (Some after) ≡ read (Some before) → (y : List ℕ)
      → read (s'.node y) ≡ read (s.node y)
  read_same read same y =
      elim (at.others y) [
        | inl here ↦
            ap (λ n. read (s'.node n)) here ∙ ap read at.is ∙ same ∙ sym (ap read at.was) ∙ ap (λ n. read (s.node n)) (sym here)
        | inr there ↦ ap read there
      ]

  status_same : after.status ≡ before.status → (y : List ℕ) → status_of s' y ≡ status_of s y
  unfolding status_of
  status_same same y = read_same status_in (ap Some same) y

  links_same : ((t : List ℕ) → link_to after t ≡ link_to before t) → (y u : List ℕ) → link_of s' y u ≡ link_of s y u
  unfolding link_of
  links_same same y u = read_same (λ n. link_in n u) (same u) y

  registers_same : (holder : List ℕ) → ((name : List ℕ) → (name ≡ holder) ⊎ (word_of after name ≡ word_of before name))
      → (u y : List ℕ) → ((u ≡ x) × (y ≡ holder)) ⊎ (register_of s' u y ≡ register_of s u y)
  unfolding register_of
  registers_same holder words u y =
      elim (at.others u) [
        | inl here ↦ elim (words y) [
          | inl same ↦ inl (here, same)
          | inr stays ↦ inr (read_same (λ n. register_in n y) (ap (option_map entry_word) stays) u)
        ]
        | inr there ↦ inr (ap (λ n. register_in n y) there)
      ]

  register_was : (name : List ℕ) → register_of s x name ≡ option_map entry_word (word_of before name)
  unfolding register_of
  register_was name = ap (λ n. register_in n name) at.was

  register_is : (name : List ℕ) → register_of s' x name ≡ option_map entry_word (word_of after name)
  unfolding register_of
  register_is name = ap (λ n. register_in n name) at.is

  status_was : status_of s x ≡ Some before.status
  unfolding status_of
  status_was = ap status_in at.was

-- who hears words may take a Link
hearing : (status : Status) → hears_words (Some status) → (status ≡ Joining) ⊎ ((status ≡ Core) ⊎ (status ≡ Leaving))
hearing Joining heard = inl refl
hearing Core heard = inr (inl refl)
hearing Leaving heard = inr (inr refl)
hearing Gone heard = absurd heard
hearing Ceased heard = absurd heard

module _ (s s' : System) (number : ℕ) (node : NodeState) (from : List ℕ) (word : TieWord)
    (taken : TakesByRule s s' number node from (Link word.version word.on)) (remembers : RemembersWords s s' node from word)
    (numbers : AreNumbered s) (stamped : AreStamped s) (heard : hears_words (Some node.status))
    (laid : AreLaid node.ties.table node.pointers) where
  abbrev own : List ℕ
  own = name_of node

  abbrev acted : Acted
  acted = taken_at node from (Link word.version word.on)

  abbrev entry : Entry (List ℕ) Bool
  entry = record { key = from; version = word.version; value = word.on }

  step : LinkStep node from word.version word.on acted
  step = link_law node from word.version word.on (hearing node.status heard) taken.known

  swap : Exchanges s s' number (word_frame from own word) (numbered_from s.next acted.sent)
  swap = exchanges s s' number (word_frame from own word) acted.sent taken.taken numbers

  released_alone : (f : Frame) → IsAmong f acted.sent → f ≡ release_frame own from
  released_alone f among = release_by node from word.version word.on taken.known laid f among node.status refl heard

  last : (y u : List ℕ) → s'.last y u ≡ s.last y u
  last y u =
      elim (remembers.others y u) [
        | inl here ↦
            ap (λ n. s'.last n u) here ∙ remembers.own u ∙ last_same own from acted.sent u (s.last own u) released_alone
            ∙ ap (λ n. s.last n u) (sym here)
        | inr there ↦ there
      ]

  still : (f : Frame) → IsOnWay s f → (f ≡ word_frame from own word) ⊎ IsOnWay s' f
  still f way =
      elim (swap.still way.number f way.among) [
        | inl same ↦
            let there = at_number way.number number f s.frames same way.among in
            inl (swap.was_one number f (word_frame from own word) there swap.taken)
        | inr on ↦ inr (record { number = way.number; among = on })
      ]
    where
      at_number : (m n : ℕ) (g : Frame) (frames : List (ℕ × Frame)) → m ≡ n → AmongFrames m g frames → AmongFrames n g frames
      at_number m n g frames same among = rw (← same) among

  was : (f : Frame) → IsOnWay s' f → IsOnWay s f ⊎ (f ≡ release_frame own from)
  was f way =
      elim (swap.was way.number f way.among) [
        | inl old ↦ inl (record { number = way.number; among = old })
        | inr comes ↦ inr (released_alone f (sent_numbered way.number f s.next acted.sent comes))
      ]

  left : IsOnWay s' (word_frame from own word) → ⊥
  left way =
      elim (swap.was way.number (word_frame from own word) way.among) [
        | inl old ↦
            let same = stamped.once from own word way.number number old swap.taken in
            swap.gone (word_frame from own word) (rw same at way.among)
        | inr comes ↦
            let frame = word_frame from own word in
            let is = released_alone frame (sent_numbered way.number frame s.next acted.sent comes) in
            let body : Link word.version word.on ≡ Release = ap (λ (f : Frame). f.body) is in
            cc
      ]

  new : IsNewer word.version (register_of s own from) → register_of s' own from ≡ Some word
  new newer =
      let old : IsNewer word.version (option_map entry_word (word_of node from)) =
      rw (register_was s s' own node acted.state taken.at from) at newer in
      register_is s s' own node acted.state taken.at from ∙ ap (option_map entry_word) step.word
      ∙ ap (λ e. option_map entry_word (Some e)) (newest_new (word_of node from) entry old)

  old : (kept : TieWord) → register_of s own from ≡ Some kept → word.version ≤ kept.version → register_of s' own from ≡ Some kept
  old kept is most =
      register_is s s' own node acted.state taken.at from ∙ ap (option_map entry_word) step.word
      ∙ newest_old (word_of node from) entry kept (sym (register_was s s' own node acted.state taken.at from) ∙ is) most

  answers : IsNewer word.version (register_of s own from) → word.on ≡ true → status_of s own ≡ Some Core
      → IsOnWay s' (release_frame own from)
  answers newer on core =
      let newer_entry : IsNewer word.version (option_map entry_word (word_of node from)) =
      rw (register_was s s' own node acted.state taken.at from) at newer in
      let both : Some node.status ≡ Some Core = sym (status_was s s' own node acted.state taken.at) ∙ core in
      let at : node.status ≡ Core = cc in
      sent_under_way s s' number (word_frame from own word) acted.sent taken.taken own from Release
      (sent_among own from Release acted.sent (step.answers (inl at) (newer_is (word_of node from) word.version newer_entry) on))

  pub link_taken : TakesLink s s' from own word
  link_taken = record {
    status = status_same s s' own node acted.state taken.at step.joins.status;
    links = links_same s s' own node acted.state taken.at (λ t. ap (λ (table : TableValue). kind_in table t) step.table);
    last = last;
    taken = record { number = number; among = swap.taken };
    still = still;
    was = was;
    left = left;
    registers = registers_same s s' own node acted.state taken.at from step.others;
    new = new;
    old = old;
    answers = answers;
  }

pub link_is_made : LinkIsMade
link_is_made s s' number node from word taken remembers numbers stamped heard laid =
    link_taken s s' number node from word taken remembers numbers stamped heard laid
