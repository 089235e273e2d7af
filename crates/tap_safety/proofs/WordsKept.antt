-- Ties, their versions and what is said to nodes that join or have ceased are kept by a step that says of each link that it changes.
-- Cited above: at_link, link_at
use Rattle.std.proofs.Common.{◌≡◌, inl, inr, ℕ, ◌<◌, Bool, true, false, List, ◌⊎◌, Option, None, Some, arith, refl, sym, ap, ◌∙◌}
use Rattle.tap_link.specs.declared.kind.Kind.{Kind}
use Rattle.tap_link.specs.declared.kind.Kind.TheVariants.{Pin}
use Rattle.tap_rule.specs.Node.{NodeState}
use Rattle.tap_rule.specs.Node.Status.{Core}
use Rattle.tap_safety.specs.Remembered.{TieWord}
use Rattle.tap_safety.specs.System.{System, HasLink}
use Rattle.tap_safety.specs.Regions.{Pins}
use Rattle.tap_safety.specs.Ceased.{Ceased, CoreOrJoining, IsRegistered, SaysSo}
use Rattle.tap_safety.specs.Ties.{
  IsNoNewer,
  IsOnWay,
  LastIs,
  Stands,
  TiesAreTold,
  Versions,
  hears_words,
  link_in,
  link_of,
  register_of,
  release_frame,
  status_of,
  word_frame,
}
use Rattle.tap_safety.specs.WordSteps.{IsSaid, KeepsForgets, SaysWords}

-- a link, as a look-up
pub link_at : (s : System) (x t : List ℕ) (kind : Kind) → HasLink s x t kind → link_of s x t ≡ Some kind
unfolding link_of
link_at s x t kind link =
    let by : Option NodeState → Option Kind = λ node. link_in node t in ap by link.is ∙ link.link

-- and back
pub at_link : (s : System) (x t : List ℕ) (kind : Kind) → link_of s x t ≡ Some kind → HasLink s x t kind
unfolding link_of
at_link s x t kind is = by (s.node x) refl is
  where
    by : (node : Option NodeState) → s.node x ≡ node → link_in node t ≡ Some kind → HasLink s x t kind
    by None at has = let no : None ≡ Some kind = has in cc
    by (Some state) at has = record { state = state; is = at; link = has }

module _ (s s' : System) (x : List ℕ) (step : SaysWords s s' x) where
  stands : (y t : List ℕ) (word : TieWord) → Stands s y t word → Stands s' y t word
  stands y t word (inl way) = inl (step.still y t word way)
  stands y t word (inr stood) = inr (step.registers t y ∙ stood)

  last_kept : (y t : List ℕ) (on : Bool) → s'.last y t ≡ s.last y t → LastIs s y t on → LastIs s' y t on
  last_kept y t on same l =
      record { last = l.last; is = same ∙ l.is; on_is = l.on_is; stands = stands y t l.last l.stands }

  said : (t : List ℕ) (on : Bool) → (is : IsSaid s s' x t) → is.word.on ≡ on → LastIs s' x t on
  said t on is so = record { last = is.word; is = is.last; on_is = so; stands = inl is.way }

  heard : (t : List ℕ) → hears_words (status_of s' t) → hears_words (status_of s t)
  heard t hearing = rw step.status at hearing

  module _ (ties : TiesAreTold s) where
    linked : (y t : List ℕ) (kind : Kind) → hears_words (status_of s' t) → link_of s' y t ≡ Some kind → LastIs s' y t true
    linked y t kind hearing link =
        elim (step.others y t) [
          | inr same ↦ last_kept y t true same.1 (ties.linked y t kind (heard t hearing) (sym same.0 ∙ link))
          | inl here ↦
              let mine : link_of s' x t ≡ Some kind = rw (← here) link in
              rw here (elim (step.mine t) [
                | inl same ↦ last_kept x t true same.1 (ties.linked x t kind (heard t hearing) (sym same.0 ∙ mine))
                | inr is ↦ said t true is (is.on kind mine)
              ])
        ]

    dropped : (y t : List ℕ) (word : TieWord) → hears_words (status_of s' t) → link_of s' y t ≡ None → s'.last y t ≡ Some word
        → LastIs s' y t false
    dropped y t word hearing link last =
        elim (step.others y t) [
          | inr same ↦
              last_kept y t false same.1 (ties.dropped y t word (heard t hearing) (sym same.0 ∙ link) (sym same.1 ∙ last))
          | inl here ↦
              let mine : link_of s' x t ≡ None = rw (← here) link in
              let top : s'.last x t ≡ Some word = rw (← here) last in
              rw here (elim (step.mine t) [
                | inl same ↦
                    last_kept x t false same.1 (ties.dropped x t word (heard t hearing) (sym same.0 ∙ mine) (sym same.1 ∙ top))
                | inr is ↦ said t false is (is.off mine)
              ])
        ]

    pinned_as : (y t : List ℕ) → s'.last y t ≡ s.last y t → link_of s' y t ≡ Some Pin → status_of s t ≡ Some Core
        → link_of s y t ≡ Some Pin
        → ((word : TieWord) × (s'.last y t ≡ Some word) × IsOnWay s' (word_frame y t word)) ⊎ IsOnWay s' (release_frame t y)
    pinned_as y t same now core link =
        elim (ties.pinned y t core link) [
          | inl way ↦ inl (way.0, same ∙ way.1, step.still y t way.0 way.2)
          | inr back ↦ elim (step.releases t y back) [ inl still ↦ inr still | inr gone ↦ absurd (gone.1 now) ]
        ]

    pinned : (y t : List ℕ) → status_of s' t ≡ Some Core → link_of s' y t ≡ Some Pin
        → ((word : TieWord) × (s'.last y t ≡ Some word) × IsOnWay s' (word_frame y t word)) ⊎ IsOnWay s' (release_frame t y)
    pinned y t core link =
        let was : status_of s t ≡ Some Core = sym (step.status t) ∙ core in
        elim (step.others y t) [
          | inr same ↦ pinned_as y t same.1 link was (sym same.0 ∙ link)
          | inl here ↦
              let mine : link_of s' x t ≡ Some Pin = rw (← here) link in
              rw here (elim (step.mine t) [
                | inl same ↦ pinned_as x t same.1 mine was (sym same.0 ∙ mine)
                | inr is ↦ inl (is.word, is.last, is.way)
              ])
        ]

    pub words_ties : TiesAreTold s'
    words_ties = record { linked = linked; dropped = dropped; pinned = pinned }

  module _ (versions : Versions s) where
    no_newer : (y t : List ℕ) (word : TieWord) → IsNoNewer s y t word → IsNoNewer s' y t word
    no_newer y t word old =
        elim (step.others y t) [
          | inr same ↦ record { last = old.last; is = same.1 ∙ old.is; most = old.most; same = old.same }
          | inl here ↦
              let mine : IsNoNewer s x t word = rw (← here) old in
              rw here (elim (step.mine t) [
                | inl same ↦ record { last = mine.last; is = same.1 ∙ mine.is; most = mine.most; same = mine.same }
                | inr is ↦
                    let less = is.newer mine.last mine.is in
                    let most = mine.most in
                    record { last = is.word; is = is.last; most = omega arith; same = λ even. absurd (omega arith) }
              ])
        ]

    ways : (y t : List ℕ) (word : TieWord) → IsOnWay s' (word_frame y t word) → IsNoNewer s' y t word
    ways y t word way =
        elim (step.was y t word way) [
          | inl old ↦ no_newer y t word (versions.ways y t word old)
          | inr says ↦
              let is = says.1 in
              let last : s'.last y t ≡ Some word = rw (says.0, ← is.1) is.0.last in
              record { last = word; is = last; most = omega arith; same = λ even. refl }
        ]

    registers : (y t : List ℕ) (word : TieWord) → register_of s' t y ≡ Some word → IsNoNewer s' y t word
    registers y t word is = no_newer y t word (versions.registers y t word (sym (step.registers t y) ∙ is))

    -- what stands in a register is older than what has just been said
    below_said : (t : List ℕ) (word kept : TieWord) → (is : IsSaid s s' x t) → s'.last x t ≡ Some word → register_of s t x ≡ Some kept
        → kept.version < word.version
    below_said t word kept is last stood =
        let old = versions.registers x t kept stood in
        let less = is.newer old.last old.is in
        let most = old.most in
        let top = is.last in
        let same : is.word ≡ word = cc in
        let low : kept.version < is.word.version = omega arith in
        rw same at low

    once_mine : (t : List ℕ) (word kept : TieWord) → s'.last x t ≡ Some word → IsOnWay s (word_frame x t word)
        → register_of s t x ≡ Some kept → kept.version < word.version
    once_mine t word kept last way stood =
        elim (step.mine t) [
          | inl same ↦ versions.once x t word kept (sym same.1 ∙ last) way stood
          | inr is ↦ below_said t word kept is last stood
        ]

    once : (y t : List ℕ) (word kept : TieWord) → s'.last y t ≡ Some word → IsOnWay s' (word_frame y t word)
        → register_of s' t y ≡ Some kept → kept.version < word.version
    once y t word kept last way is =
        let stood : register_of s t y ≡ Some kept = sym (step.registers t y) ∙ is in
        elim (step.was y t word way) [
          | inr says ↦
              let mine : s'.last x t ≡ Some word = rw (← says.0) last in
              let there : register_of s t x ≡ Some kept = rw (← says.0) stood in
              below_said t word kept says.1.0 mine there
          | inl old ↦
              elim (step.others y t) [
                | inr same ↦ versions.once y t word kept (sym same.1 ∙ last) old stood
                | inl here ↦ once_mine t word kept (rw (← here) last) (rw (← here) old) (rw (← here) stood)
              ]
        ]

    pub words_versions : Versions s'
    words_versions = record { ways = ways; registers = registers; once = once }

  -- what is said to nodes that join or have ceased
  module _ (forgets : KeepsForgets s s' x) where
    ends : (y : List ℕ) → CoreOrJoining s' y → CoreOrJoining s y
    ends y (inl core) = inl (sym (step.status y) ∙ core)
    ends y (inr joining) = inr (sym (step.status y) ∙ joining)

    says_on : (y n : List ℕ) → SaysSo s y n → SaysSo s' y n
    says_on y n says = record { word = says.word; on = says.on; way = step.still y n says.word says.way }

    registered_on : (y n : List ℕ) → IsRegistered s y n → IsRegistered s' y n
    registered_on y n is = record { word = is.word; on = is.on; is = step.registers n y ∙ is.is }

    -- a pin was there, or is said
    pin_was : (y n : List ℕ) → Pins s' y n → Pins s y n ⊎ SaysSo s' y n
    pin_was y n pin =
        let link = link_at s' y n Pin pin in
        elim (step.others y n) [
          | inr same ↦ inl (at_link s y n Pin (sym same.0 ∙ link))
          | inl here ↦
              let mine : link_of s' x n ≡ Some Pin = rw (← here) link in
              rw here (elim (step.mine n) [
                | inl same ↦ inl (at_link s x n Pin (sym same.0 ∙ mine))
                | inr is ↦ inr (record { word = is.word; on = is.on Pin mine; way = is.way })
              ])
        ]

    pub words_ceased : Ceased s → Ceased s'
    words_ceased ceased = record {
      joining = λ y n core pin status.
          elim (pin_was y n pin) [
            | inr says ↦ inr says
            | inl old ↦
                elim (ceased.joining y n (ends y core) old (sym (step.status n) ∙ status)) [
                  | inl is ↦ inl (registered_on y n is)
                  | inr says ↦ inr (says_on y n says)
                ]
          ];
      ceased = λ y n core pin status.
          elim (pin_was y n pin) [
            | inr says ↦ inl says
            | inl old ↦
                elim (ceased.ceased y n (ends y core) old (sym (step.status n) ∙ status)) [
                  | inl says ↦ inl (says_on y n says)
                  | inr forget ↦
                      elim (forgets.still n y forget) [
                        | inl still ↦ inr still
                        | inr gone ↦ absurd (gone.1 (link_at s' y n Pin pin))
                      ]
                ]
          ];
      forgets = λ n y way.
          elim (forgets.was n y way) [ inl old ↦ step.status n ∙ ceased.forgets n y old | inr is ↦ is ];
    }
