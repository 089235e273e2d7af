-- A node that takes a frame, or starts something, says of each link that comes or goes so: what it sends are words in its stamp's numbers.
use Rattle.std.proofs.Common.{◌≡◌, ◌⊎◌, inl, inr, ℕ, ◌<◌, ◌≤◌, Bool, true, false, List, None, Some, is_none, arith, refl, sym, ap, subst, ◌∙◌}
use Rattle.tap_link.specs.declared.kind.Kind.{Kind}
use Rattle.tap_table.specs.declared.tie.Tie.{Tie}
use Rattle.tap_wire.specs.declared.frame.Body.{Body}
use Rattle.tap_wire.specs.declared.frame.Body.TheVariants.{Link}
use Rattle.tap_wire.specs.declared.frame.Frame.{Frame}
use Rattle.tap_rule.specs.Node.{NodeState, link_to, word_of}
use Rattle.tap_rule.specs.Reaction.{Message}
use Rattle.tap_rule.specs.Sent.{AreSent, IsAmong}
use Rattle.tap_safety.specs.Moved.{HasDone}
use Rattle.tap_safety.specs.Remembered.{TieWord}
use Rattle.tap_safety.specs.Exchanges.{ChangesAt, IsSent}
use Rattle.tap_safety.specs.System.{System, IsUnderWay}
use Rattle.tap_safety.specs.Ties.{IsOnWay, hears_words, link_in, link_of, register_in, register_of, status_of, tie_word_kept, word_frame}
use Rattle.tap_safety.specs.WordSteps.{IsSaid}
use Rattle.tap_safety.proofs.FrameWords.{last_cases}
use Rattle.tap_moves.proofs.WordsKept.{IsUnsaid, SaysEnough}

-- Of a node and its words: each says whether there is a link then, with a number that the stamp had not given, and there is one to each
-- name at most; of a name that hears words, and is told nothing, it has a link exactly if it had one; and its register has no word that it
-- had not.
pub record TellsLinks (s' : System) (before after : NodeState) (words : List Tie) : Type 0 where
  pub on : (word : Tie) → IsAmong word words → (kind : Kind) → link_to after word.to ≡ Some kind → word.on ≡ true
  pub off : (word : Tie) → IsAmong word words → link_to after word.to ≡ None → word.on ≡ false
  pub newer : (word : Tie) → IsAmong word words → before.stamp < word.version
  pub once : (one two : Tie) → IsAmong one words → IsAmong two words → one.to ≡ two.to → one ≡ two
  pub unsaid : (t : List ℕ) → hears_words (status_of s' t) → ((word : Tie) → IsAmong word words → word.to ≡ t → ⊥)
      → is_none (link_to after t) ≡ is_none (link_to before t)
  pub register : (holder : List ℕ) (word : TieWord) → tie_word_kept (word_of after holder) ≡ Some word
      → tie_word_kept (word_of before holder) ≡ Some word

-- a word of a node to t, as it is sent
record IsSaidTo (own : List ℕ) (words : List Tie) (y t : List ℕ) (word : TieWord) : Type 0 where
  from : y ≡ own
  tie : Tie
  among : IsAmong tie words
  to : t ≡ tie.to
  version : word.version ≡ tie.version
  on : word.on ≡ tie.on

-- words with one version and one meaning are one
same_word : (one two : TieWord) → one.version ≡ two.version → one.on ≡ two.on → one ≡ two
same_word one two version on =
    let by_version : ℕ → TieWord = λ n. record { version = n; on = one.on } in
    let by_on : Bool → TieWord = λ b. record { version = two.version; on = b } in
    ap by_version version ∙ ap by_on on

module _ (s s' : System) (x : List ℕ) (before after : NodeState) (words : List Tie) (messages : List Message) (sent : List Frame)
    (are : AreSent x words messages sent)
    (no_link : (m : Message) → IsAmong m messages → (version : ℕ) (on : Bool) → m.body ≡ Link version on → ⊥)
    (at : ChangesAt s s' x before after) (done : HasDone s s' x after sent) (tells : TellsLinks s' before after words)
    (stamp : (t : List ℕ) (old : TieWord) → s.last x t ≡ Some old → old.version ≤ before.stamp)
    (hears : (t : List ℕ) → hears_words (status_of s' t) → hears_words (status_of s t))
    (registers : (y : List ℕ) → hears_words (status_of s' x) → register_of s' x y ≡ register_of s x y)
    (word_still : (y t : List ℕ) (word : TieWord) → IsOnWay s (word_frame y t word) → IsOnWay s' (word_frame y t word))
    (word_was : (y t : List ℕ) (word : TieWord) → IsOnWay s' (word_frame y t word)
    → IsOnWay s (word_frame y t word) ⊎ IsSent sent y t (Link word.version word.on))
    (sent_way : (y t : List ℕ) (body : Body) → IsSent sent y t body → IsUnderWay s' y t body) where
  -- ---- look-ups

  link_there : (y t : List ℕ) → (y ≡ x) ⊎ (link_of s' y t ≡ link_of s y t)
  unfolding link_of
  link_there y t = elim (at.others y) [ inl here ↦ inl here | inr same ↦ inr (ap (λ node. link_in node t) same) ]

  link_now : (t : List ℕ) → link_of s' x t ≡ link_to after t
  unfolding link_of
  link_now t = ap (λ node. link_in node t) at.is

  link_was : (t : List ℕ) → link_of s x t ≡ link_to before t
  unfolding link_of
  link_was t = ap (λ node. link_in node t) at.was

  register_there : (t y : List ℕ) → (t ≡ x) ⊎ (register_of s' t y ≡ register_of s t y)
  unfolding register_of
  register_there t y = elim (at.others t) [ inl here ↦ inl here | inr same ↦ inr (ap (λ node. register_in node y) same) ]

  register_now : (y : List ℕ) → register_of s' x y ≡ tie_word_kept (word_of after y)
  unfolding register_of
  register_now y = ap (λ node. register_in node y) at.is

  register_was : (y : List ℕ) → register_of s x y ≡ tie_word_kept (word_of before y)
  unfolding register_of
  register_was y = ap (λ node. register_in node y) at.was

  -- ---- what is said

  -- a Link that is sent is one of the words
  said_to : (y t : List ℕ) (word : TieWord) → IsSent sent y t (Link word.version word.on) → IsSaidTo x words y t word
  said_to y t word sends =
      elim (are.each (record { from = y; to = t; body = Link word.version word.on }) sends) [
        | inl link ↦
            let body : Link word.version word.on ≡ Link link.word.version link.word.on = ap (λ (f : Frame). f.body) link.is in
            let version : word.version ≡ link.word.version = cc in
            let on : word.on ≡ link.word.on = cc in
            record {
              from = ap (λ (f : Frame). f.from) link.is;
              tie = link.word;
              among = link.among;
              to = ap (λ (f : Frame). f.to) link.is;
              version = version;
              on = on;
            }
        | inr (inl named) ↦
            absurd (no_link named.message named.among word.version word.on (sym (ap (λ (f : Frame). f.body) named.is)))
        | inr (inr lay) ↦ let wrong = ap (λ (f : Frame). f.body) lay.is in absurd (cc)
      ]

  -- and each of them is sent
  sent_of : (t : List ℕ) (word : TieWord) → IsSaidTo x words x t word → IsSent sent x t (Link word.version word.on)
  sent_of t word said =
      let there = are.links said.tie said.among in
      rw (said.to, said.version, said.on) there

  -- to each name one
  said_once : (t : List ℕ) (one two : TieWord) → IsSaidTo x words x t one → IsSaidTo x words x t two → one ≡ two
  said_once t one two first second =
      let tie : first.tie ≡ second.tie = tells.once first.tie second.tie first.among second.among (sym first.to ∙ second.to) in
      same_word one two (first.version ∙ ap (λ (w : Tie). w.version) tie ∙ sym second.version)
      (first.on ∙ ap (λ (w : Tie). w.on) tie ∙ sym second.on)

  -- whoever says it is the node itself
  own_said : (y t : List ℕ) (word : TieWord) → IsSaidTo x words y t word → IsSaidTo x words x t word
  own_said y t word said = record {
    from = refl;
    tie = said.tie;
    among = said.among;
    to = said.to;
    version = said.version;
    on = said.on;
  }

  -- the last word is the one before, if none is said, or the one that is said
  last_now : (t : List ℕ) → ((s'.last x t ≡ s.last x t) × ((word : TieWord) → IsSaidTo x words x t word → ⊥))
      ⊎ ((word : TieWord) × (s'.last x t ≡ Some word) × IsSaidTo x words x t word)
  last_now t =
      elim (last_cases sent t (s.last x t)) [
        | inl none ↦ inl (done.words t ∙ none.0, λ word said. none.1 x word.version word.on (sent_of t word said))
        | inr some ↦
            inr (some.0, done.words t ∙ some.1, own_said some.2.from t some.0 (said_to some.2.from t some.0 some.2.among))
      ]

  -- a word that is said says so
  is_said : (t : List ℕ) (word : TieWord) → s'.last x t ≡ Some word → IsSaidTo x words x t word → IsSaid s s' x t
  is_said t word last said = record {
    word = word;
    last = last;
    way = sent_way x t (Link word.version word.on) (sent_of t word said);
    on = λ kind link.
        said.on ∙ tells.on said.tie said.among kind (ap (link_to after) (sym said.to) ∙ sym (link_now t) ∙ link);
    off = λ none. said.on ∙ tells.off said.tie said.among (ap (link_to after) (sym said.to) ∙ sym (link_now t) ∙ none);
    newer = λ old was.
        let least = stamp t old was in
        let above = tells.newer said.tie said.among in
        let version = said.version in
        omega (arith, least, above, version);
  }

  -- of each name that hears words it says so, or nothing has changed
  here : (t : List ℕ) → hears_words (status_of s' t) → IsUnsaid s s' x t ⊎ IsSaid s s' x t
  here t hearing =
      elim (last_now t) [
        | inr said ↦ inr (is_said t said.0 said.1 said.2)
        | inl stays ↦
            let silent : (word : Tie) → IsAmong word words → word.to ≡ t → ⊥ = λ tie among to.
            stays.1 (record { version = tie.version; on = tie.on })
            (record { from = refl; tie = tie; among = among; to = sym to; version = refl; on = refl }) in
            inl (record {
              link = ap is_none (link_now t) ∙ tells.unsaid t hearing silent ∙ ap is_none (sym (link_was t));
              last = stays.0;
            })
      ]

  -- its last word is as before, or is said
  last_here : (t : List ℕ) → (s'.last x t ≡ s.last x t) ⊎ IsSaid s s' x t
  last_here t = elim (last_now t) [ inl stays ↦ inl stays.0 | inr said ↦ inr (is_said t said.0 said.1 said.2) ]

  -- a word that is sent is the one that is said
  was_here : (t : List ℕ) (word : TieWord) → IsSaidTo x words x t word → (is : IsSaid s s' x t) × (is.word ≡ word)
  unfolding is_said
  was_here t word said =
      elim (last_now t) [
        | inl stays ↦ absurd (stays.1 word said)
        | inr now ↦ (is_said t now.0 now.1 now.2, said_once t now.0 word now.2 said)
      ]

  -- no register has a new word
  kept_here : (t y : List ℕ) (word : TieWord) → register_of s' t y ≡ Some word → register_of s t y ≡ Some word
  kept_here t y word stood =
      elim (register_there t y) [
        | inr same ↦ sym same ∙ stood
        | inl there ↦
            let now = sym (register_now y) ∙ ap (λ z. register_of s' z y) (sym there) ∙ stood in
            ap (λ z. register_of s z y) there ∙ register_was y ∙ tells.register y word now
      ]

  -- so what is said is enough
  pub says_enough : SaysEnough s s'
  says_enough = record {
    hears = hears;
    registers = λ t y hearing. elim (register_there t y) [
      | inr same ↦ same
      | inl there ↦
          let mine = registers y (subst (λ z. hears_words (status_of s' z)) there hearing) in
          subst (λ z. register_of s' z y ≡ register_of s z y) (sym there) mine
    ];
    kept = kept_here;
    links = λ y t hearing. elim (link_there y t) [
      | inl there ↦ subst (λ z. IsUnsaid s s' z t ⊎ IsSaid s s' z t) (sym there) (here t hearing)
      | inr same ↦ elim (done.others_words y t) [
        | inl there ↦ subst (λ z. IsUnsaid s s' z t ⊎ IsSaid s s' z t) (sym there) (here t hearing)
        | inr words ↦ inl (record { link = ap is_none same; last = words })
      ]
    ];
    lasts = λ y t. elim (done.others_words y t) [
      | inr same ↦ inl same
      | inl there ↦ subst (λ z. (s'.last z t ≡ s.last z t) ⊎ IsSaid s s' z t) (sym there) (last_here t)
    ];
    still = word_still;
    was = λ y t word way. elim (word_was y t word way) [
      | inl old ↦ inl old
      | inr sends ↦
          let said = said_to y t word sends in
          inr (subst (λ z. (is : IsSaid s s' z t) × (is.word ≡ word)) (sym said.from) (was_here t word (own_said y t word said)))
    ];
  }
