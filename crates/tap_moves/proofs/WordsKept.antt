-- What is said of links while no link is a pin: the last words stand after a step that says so of each link that comes or goes, if who is
-- told hears words.
use Rattle.std.proofs.Common.{◌≡◌, ◌⊎◌, inl, inr, ℕ, ◌<◌, Bool, true, false, List, Option, None, Some, is_none, arith, refl, sym, ap, ◌∙◌}
use Rattle.std.proofs.lemmas.Bool.{true≢false}
use Rattle.tap_link.specs.declared.kind.Kind.{Kind}
use Rattle.tap_link.specs.declared.kind.Kind.TheVariants.{Pin}
use Rattle.tap_safety.specs.Remembered.{Leaver, TieWord}
use Rattle.tap_safety.specs.Departing.{WhileDeparting}
use Rattle.tap_safety.specs.System.{System}
use Rattle.tap_safety.specs.Ties.{IsNoNewer, IsOnWay, LastIs, Stands, TiesAreTold, Versions, hears_words, link_of, register_of, status_of, word_frame}
use Rattle.tap_safety.specs.WordSteps.{IsSaid}
use Rattle.tap_safety.proofs.WordsKept.{at_link}
use Rattle.tap_moves.specs.TiesLaws.{WordsStand}

-- y has a link to t exactly if it had one, and has said nothing to it
pub record IsUnsaid (s s' : System) (y t : List ℕ) : Type 0 where
  pub link : is_none (link_of s' y t) ≡ is_none (link_of s y t)
  pub last : s'.last y t ≡ s.last y t

-- Who hears words did so before, with its register, and a register has no other words. Of each node and another that hears words, it has
-- said whether it has a link, or nothing has changed. No word that is under way goes, and none comes but what is said.
pub record SaysEnough (s s' : System) : Type 0 where
  pub hears : (t : List ℕ) → hears_words (status_of s' t) → hears_words (status_of s t)
  pub registers : (t y : List ℕ) → hears_words (status_of s' t) → register_of s' t y ≡ register_of s t y
  pub kept : (t y : List ℕ) (word : TieWord) → register_of s' t y ≡ Some word → register_of s t y ≡ Some word
  pub links : (y t : List ℕ) → hears_words (status_of s' t) → IsUnsaid s s' y t ⊎ IsSaid s s' y t
  pub lasts : (y t : List ℕ) → (s'.last y t ≡ s.last y t) ⊎ IsSaid s s' y t
  pub still : (y t : List ℕ) (word : TieWord) → IsOnWay s (word_frame y t word) → IsOnWay s' (word_frame y t word)
  pub was : (y t : List ℕ) (word : TieWord) → IsOnWay s' (word_frame y t word)
      → IsOnWay s (word_frame y t word) ⊎ ((is : IsSaid s s' y t) × (is.word ≡ word))

-- what isn't none is some
some_kind : (kind : Option Kind) → is_none kind ≡ false → (k : Kind) × (kind ≡ Some k)
some_kind None some = absurd (true≢false some)
some_kind (Some k) some = (k, refl)

-- and what is none is none
none_kind : (kind : Option Kind) → is_none kind ≡ true → kind ≡ None
none_kind None none = refl
none_kind (Some k) none = absurd (true≢false (sym none))

module _ (s s' : System) (says : SaysEnough s s') where
  -- a word that stands does so yet
  stands_on : (y t : List ℕ) (word : TieWord) → hears_words (status_of s' t) → Stands s y t word → Stands s' y t word
  stands_on y t word hears (inl way) = inl (says.still y t word way)
  stands_on y t word hears (inr stood) = inr (says.registers t y hears ∙ stood)

  -- so the last word says the same, if it is the same
  last_on : (y t : List ℕ) (on : Bool) → hears_words (status_of s' t) → s'.last y t ≡ s.last y t → LastIs s y t on → LastIs s' y t on
  last_on y t on hears same l =
      record { last = l.last; is = same ∙ l.is; on_is = l.on_is; stands = stands_on y t l.last hears l.stands }

  -- and a word that is said stands
  said_now : (y t : List ℕ) (on : Bool) → (said : IsSaid s s' y t) → said.word.on ≡ on → LastIs s' y t on
  said_now y t on said is = record { last = said.word; is = said.last; on_is = is; stands = inl said.way }

  -- whoever has a link has said so
  linked_on : (y t : List ℕ) (kind : Kind) → TiesAreTold s → hears_words (status_of s' t) → link_of s' y t ≡ Some kind → LastIs s' y t true
  linked_on y t kind ties hears link =
      elim (says.links y t hears) [
        | inr said ↦ said_now y t true said (said.on kind link)
        | inl unsaid ↦
            let had = some_kind (link_of s y t) (sym unsaid.link ∙ ap is_none link) in
            last_on y t true hears unsaid.last (ties.linked y t had.0 (says.hears t hears) had.1)
      ]

  -- and whoever has none has said that
  dropped_on : (y t : List ℕ) (word : TieWord) → TiesAreTold s → hears_words (status_of s' t) → link_of s' y t ≡ None → s'.last y t ≡ Some word
      → LastIs s' y t false
  dropped_on y t word ties hears none last =
      elim (says.links y t hears) [
        | inr said ↦ said_now y t false said (said.off none)
        | inl unsaid ↦
            let had = none_kind (link_of s y t) (sym unsaid.link ∙ ap is_none none) in
            last_on y t false hears unsaid.last (ties.dropped y t word (says.hears t hears) had (sym unsaid.last ∙ last))
      ]

  -- a word that is said is newer than what was no newer than the last one
  within_on : (y t : List ℕ) (word : TieWord) → IsNoNewer s y t word → IsNoNewer s' y t word
  within_on y t word old =
      elim (says.lasts y t) [
        | inl same ↦ record { last = old.last; is = same ∙ old.is; most = old.most; same = old.same }
        | inr said ↦
            let newer = said.newer old.last old.is in
            let most = old.most in
            record {
              last = said.word;
              is = said.last;
              most = omega (arith, newer, most);
              same = λ level. absurd (omega (arith, newer, most, level));
            }
      ]

  -- no word under way is above the last one
  ways_on : (y t : List ℕ) (word : TieWord) → Versions s → IsOnWay s' (word_frame y t word) → IsNoNewer s' y t word
  ways_on y t word versions way =
      elim (says.was y t word way) [
        | inl old ↦ within_on y t word (versions.ways y t word old)
        | inr said ↦
            record { last = word; is = said.0.last ∙ ap (λ w. Some w) said.1; most = omega arith; same = λ level. refl }
      ]

  -- a register's word is below one that is said
  below_said : (y t : List ℕ) (word kept : TieWord) → Versions s → (said : IsSaid s s' y t) → said.word ≡ word
      → register_of s t y ≡ Some kept → kept.version < word.version
  below_said y t word kept versions said same stood =
      let old = versions.registers y t kept stood in
      let newer = said.newer old.last old.is in
      let most = old.most in
      let level : said.word.version ≡ word.version = ap (λ (w : TieWord). w.version) same in
      omega (arith, newer, most, level)

  -- and the last one is above that of a register, if it is under way
  once_on : (y t : List ℕ) (word kept : TieWord) → Versions s → s'.last y t ≡ Some word → IsOnWay s' (word_frame y t word)
      → register_of s' t y ≡ Some kept → kept.version < word.version
  once_on y t word kept versions last way stood =
      let had = says.kept t y kept stood in
      elim (says.was y t word way) [
        | inr said ↦ below_said y t word kept versions said.0 said.1 had
        | inl old ↦ elim (says.lasts y t) [
          | inl same ↦ versions.once y t word kept (sym same ∙ last) old had
          | inr said ↦
              let both : Some said.word ≡ Some word = sym said.last ∙ last in
              let same : said.word ≡ word = cc in
              below_said y t word kept versions said same had
        ]
      ]

  -- without pins, and with no Forget under way, that is all that is said of links
  pub enough_stand : (leaver : Leaver) → WhileDeparting s' leaver → TiesAreTold s → Versions s → WordsStand s'
  enough_stand leaver during ties versions = record {
    ties = record {
      linked = λ y t kind hears link. linked_on y t kind ties hears link;
      dropped = λ y t word hears none last. dropped_on y t word ties hears none last;
      pinned = λ y t core pin. absurd (during.pins y t (at_link s' y t Pin pin));
    };
    versions = record {
      ways = λ y t word way. ways_on y t word versions way;
      registers = λ y t word stood. within_on y t word (versions.registers y t word (says.kept t y word stood));
      once = λ y t word kept last way stood. once_on y t word kept versions last way stood;
    };
    ceased = record {
      joining = λ y n either pin joins. absurd (during.pins y n pin);
      ceased = λ y n either pin ended. absurd (during.pins y n pin);
      forgets = λ n y way. absurd (during.forgets n y way);
    };
  }
