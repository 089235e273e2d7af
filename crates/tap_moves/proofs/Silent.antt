-- A frame that is no word, whose taker keeps its status and its ties and sends no word: what is said of links stands.
use Rattle.std.proofs.Common.{◌≡◌, ℕ, List, Option, Some, ap, sym, subst, ◌∙◌, inl, inr}
use Rattle.tap_register.specs.Registers.{entry_of}
use Rattle.tap_name.specs.Order.{name_cmp}
use Rattle.tap_table.specs.Table.{kind_in}
use Rattle.tap_table.specs.Ties.{TiesValue}
use Rattle.tap_wire.specs.declared.frame.Body.{Body}
use Rattle.tap_wire.specs.declared.frame.Body.TheVariants.{Forget, Link, Release}
use Rattle.tap_wire.specs.declared.frame.Frame.{Frame}
use Rattle.tap_rule.specs.Event.{Acted}
use Rattle.tap_rule.specs.Node.{NodeState}
use Rattle.tap_safety.specs.Moved.{HasDone, last_after}
use Rattle.tap_safety.specs.Remembered.{TieWord}
use Rattle.tap_safety.specs.Exchanges.{ChangesAt, IsSent, IsTaken}
use Rattle.tap_safety.specs.System.{System}
use Rattle.tap_safety.specs.Ties.{link_in, link_of, register_in, register_of, status_in, status_of, tie_word_kept}
use Rattle.tap_safety.specs.WordSteps.{KeepsForgets, SaysWords}
use Rattle.tap_safety.proofs.FrameWords.{last_cases}
use Rattle.tap_safety.proofs.StepLaws.{ceased_words_law, ties_words_law, versions_words_law}
use Rattle.tap_safety.proofs.UnderWay.{still_under_way, was_under_way}
use Rattle.tap_moves.specs.TiesLaws.{WordsStand}
use Rattle.tap_moves.proofs.WordsMade.{IsAside}

-- a body that is no Link and no Forget
abbrev pub IsNoWord : Body → Type 0
IsNoWord (Link version on) = ⊥
IsNoWord Forget = ⊥
IsNoWord _ = Unit {0}

-- the node keeps its status and its ties, and sends no such word
pub record SaysNothing (before : NodeState) (acted : Acted) : Type 0 where
  pub status : acted.state.status ≡ before.status
  pub ties : acted.state.ties ≡ before.ties
  pub no_word : (from to : List ℕ) (body : Body) → IsSent acted.sent from to body → IsNoWord body

-- what a look-up gives is the same, if it gives the same of the node that changes
pub same_in : {A : Type 0} (s s' : System) (x : List ℕ) (before after : NodeState) → ChangesAt s s' x before after
    → (f : Option NodeState → A) → f (Some after) ≡ f (Some before) → (y : List ℕ) → f (s'.node y) ≡ f (s.node y)
same_in s s' x before after at f same y =
    elim (at.others y) [
      | inr stays ↦ ap f stays
      | inl here ↦ subst (λ z. f (s'.node z) ≡ f (s.node z)) (sym here) (ap f at.is ∙ same ∙ sym (ap f at.was))
    ]

-- the last word stays, if none is sent
pub last_stays : (sent : List Frame) (t : List ℕ) (before : Option TieWord)
    → ((from to : List ℕ) (body : Body) → IsSent sent from to body → IsNoWord body) → last_after sent t before ≡ before
last_stays sent t before no_word =
    elim (last_cases sent t before) [
      | inl none ↦ none.0
      | inr some ↦
          let word = some.0 in
          absurd (no_word some.2.from t (Link word.version word.on) some.2.among)
    ]

module _ (s s' : System) (number : ℕ) (frame : Frame) (before : NodeState) (acted : Acted) (taken : IsTaken s s' number frame acted.sent)
    (at : ChangesAt s s' frame.to before acted.state) (done : HasDone s s' frame.to acted.state acted.sent)
    (silent : SaysNothing before acted) (aside : IsAside frame.body) where
  status_same : (y : List ℕ) → status_of s' y ≡ status_of s y
  unfolding status_of
  status_same y = same_in s s' frame.to before acted.state at status_in (ap (λ status. Some status) silent.status) y

  register_same : (t y : List ℕ) → register_of s' t y ≡ register_of s t y
  unfolding register_of
  register_same t y =
      same_in s s' frame.to before acted.state at (λ node. register_in node y)
      (ap (λ (u : TiesValue). tie_word_kept (entry_of name_cmp u.holders y)) silent.ties) t

  link_same : (y t : List ℕ) → link_of s' y t ≡ link_of s y t
  unfolding link_of
  link_same y t =
      same_in s s' frame.to before acted.state at (λ node. link_in node t)
      (ap (λ (u : TiesValue). kind_in u.table t) silent.ties) y

  last_same : (y t : List ℕ) → s'.last y t ≡ s.last y t
  last_same y t =
      elim (done.others_words y t) [
        | inr same ↦ same
        | inl here ↦
            subst (λ z. s'.last z t ≡ s.last z t) (sym here)
            (done.words t ∙ last_stays acted.sent t (s.last frame.to t) silent.no_word)
      ]

  -- the frame isn't one of these
  not_taken : (from to : List ℕ) (body : Body) → (IsAside body → ⊥) → record { from = from; to = to; body = body } ≡ frame → ⊥
  not_taken from to body never is = never (subst IsAside (sym (ap (λ (f : Frame). f.body) is)) aside)

  silent_says : SaysWords s s' frame.to
  silent_says = record {
    status = status_same;
    registers = register_same;
    others = λ y t. inr (link_same y t, last_same y t);
    mine = λ t. inl (link_same frame.to t, last_same frame.to t);
    still = λ y t word way.
        elim (still_under_way s s' number frame acted.sent taken y t (Link word.version word.on) way) [
          | inl on ↦ on
          | inr is ↦ absurd (not_taken y t (Link word.version word.on) (λ never. never) is)
        ];
    was = λ y t word way.
        elim (was_under_way s s' number frame acted.sent taken y t (Link word.version word.on) way) [
          | inl old ↦ inl old
          | inr sends ↦ absurd (silent.no_word y t (Link word.version word.on) sends)
        ];
    releases = λ t y way.
        elim (still_under_way s s' number frame acted.sent taken t y Release way) [
          | inl on ↦ inl on
          | inr is ↦ absurd (not_taken t y Release (λ never. never) is)
        ];
  }

  silent_forgets : KeepsForgets s s' frame.to
  silent_forgets = record {
    still = λ n y way.
        elim (still_under_way s s' number frame acted.sent taken n y Forget way) [
          | inl on ↦ inl on
          | inr is ↦ absurd (not_taken n y Forget (λ never. never) is)
        ];
    was = λ n y way.
        elim (was_under_way s s' number frame acted.sent taken n y Forget way) [
          | inl old ↦ inl old
          | inr sends ↦ absurd (silent.no_word n y Forget sends)
        ];
  }

  pub silent_stand : WordsStand s → WordsStand s'
  silent_stand stand = record {
    ties = ties_words_law s s' frame.to silent_says stand.ties;
    versions = versions_words_law s s' frame.to silent_says stand.versions;
    ceased = ceased_words_law s s' frame.to silent_says silent_forgets stand.ceased;
  }
