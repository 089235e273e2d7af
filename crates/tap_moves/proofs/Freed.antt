-- A Release or a Forget whose taker then has no pin on its sender, and says nothing: what is said of links stands. A Release settles the
-- pin, so that there is a link as before; and who sends a Forget has ceased, and hears no words.
use Rattle.std.proofs.Common.{◌≡◌, ◌⊎◌, ℕ, Bool, true, false, List, Option, None, Some, is_none, ap, refl, sym, subst, ◌∙◌, inl, inr}
use Rattle.std.proofs.lemmas.Bool.{true≢false}
use Rattle.tap_link.specs.declared.kind.Kind.{Kind}
use Rattle.tap_link.specs.declared.kind.Kind.TheVariants.{Pin}
use Rattle.tap_wire.specs.declared.frame.Body.{Body}
use Rattle.tap_wire.specs.declared.frame.Body.TheVariants.{Forget, Lay, Link, Release}
use Rattle.tap_wire.specs.declared.frame.Frame.{Frame}
use Rattle.tap_rule.specs.Event.{Acted}
use Rattle.tap_rule.specs.Node.{NodeState, link_to, word_of}
use Rattle.tap_safety.specs.Ceased.{Ceased, CoreOrJoining, SaysSo}
use Rattle.tap_safety.specs.Moved.{HasDone}
use Rattle.tap_safety.specs.Remembered.{TieWord}
use Rattle.tap_safety.specs.Exchanges.{ChangesAt, IsSent, IsTaken}
use Rattle.tap_safety.specs.System.{System, IsUnderWay}
use Rattle.tap_safety.specs.Ties.{IsNoNewer, IsOnWay, LastIs, Stands, TiesAreTold, Versions, hears_words, link_in, link_of, register_in, register_of, status_in, status_of, tie_word_kept, word_frame}
use Rattle.tap_safety.specs.Regions.{Pins}
use Rattle.tap_safety.proofs.UnderWay.{still_under_way, was_under_way}
use Rattle.tap_safety.proofs.WordsKept.{at_link, link_at}
use Rattle.tap_moves.specs.TiesLaws.{WordsStand}
use Rattle.tap_moves.proofs.Silent.{IsNoWord, last_stays, same_in}

-- a Release or a Forget
abbrev pub Frees : Body → Type 0
Frees Release = Unit {0}
Frees Forget = Unit {0}
Frees _ = ⊥

-- a Lay
abbrev pub IsLayBody : Body → Type 0
IsLayBody (Lay object server level version on) = Unit {0}
IsLayBody _ = ⊥

lay_no_word : (body : Body) → IsLayBody body → IsNoWord body
lay_no_word (Link version on) lay = absurd lay
lay_no_word Forget lay = absurd lay
lay_no_word _ lay = tt

-- what isn't none is some
some_of : (kind : Option Kind) → is_none kind ≡ false → (k : Kind) × (kind ≡ Some k)
some_of None some = absurd (true≢false some)
some_of (Some k) some = (k, refl)

none_of : (kind : Option Kind) → is_none kind ≡ true → kind ≡ None
none_of None none = refl
none_of (Some k) none = absurd (true≢false (sym none))

-- The taker keeps its status and its holders, and its links but that to the sender, on which it then has no pin; if the sender hears words,
-- it has a link to it exactly if it had one; and it sends Lays alone.
pub record FreesPin (s : System) (frame : Frame) (before : NodeState) (acted : Acted) : Type 0 where
  pub frees : Frees frame.body
  pub status : acted.state.status ≡ before.status
  pub register : (holder : List ℕ) → word_of acted.state holder ≡ word_of before holder
  pub others : (u : List ℕ) → (u ≡ frame.from) ⊎ (link_to acted.state u ≡ link_to before u)
  pub unpinned : link_to acted.state frame.from ≡ Some Pin → ⊥
  pub same : hears_words (status_of s frame.from)
      → is_none (link_to acted.state frame.from) ≡ is_none (link_to before frame.from)
  pub lays : (from to : List ℕ) (body : Body) → IsSent acted.sent from to body → IsLayBody body

module _ (s s' : System) (number : ℕ) (frame : Frame) (before : NodeState) (acted : Acted) (taken : IsTaken s s' number frame acted.sent)
    (at : ChangesAt s s' frame.to before acted.state) (done : HasDone s s' frame.to acted.state acted.sent)
    (step : FreesPin s frame before acted) where
  status_same : (y : List ℕ) → status_of s' y ≡ status_of s y
  unfolding status_of
  status_same y = same_in s s' frame.to before acted.state at status_in (ap (λ status. Some status) step.status) y

  register_same : (t y : List ℕ) → register_of s' t y ≡ register_of s t y
  unfolding register_of
  register_same t y =
      same_in s s' frame.to before acted.state at (λ node. register_in node y) (ap tie_word_kept (step.register y)) t

  last_same : (y t : List ℕ) → s'.last y t ≡ s.last y t
  last_same y t =
      elim (done.others_words y t) [
        | inr same ↦ same
        | inl here ↦
            subst (λ z. s'.last z t ≡ s.last z t) (sym here)
            (done.words t ∙ last_stays acted.sent t (s.last frame.to t) (λ w u body sends. lay_no_word body (step.lays w u body sends)))
      ]

  link_here : (t : List ℕ) → link_of s' frame.to t ≡ link_to acted.state t
  unfolding link_of
  link_here t = ap (λ node. link_in node t) at.is

  link_was : (t : List ℕ) → link_of s frame.to t ≡ link_to before t
  unfolding link_of
  link_was t = ap (λ node. link_in node t) at.was

  -- each link is the same, but that of the taker to the sender
  link_cases : (y u : List ℕ) → ((y ≡ frame.to) × (u ≡ frame.from)) ⊎ (link_of s' y u ≡ link_of s y u)
  unfolding link_of
  link_cases y u =
      elim (at.others y) [
        | inr same ↦ inr (ap (λ node. link_in node u) same)
        | inl here ↦ elim (step.others u) [
          | inl sender ↦ inl (here, sender)
          | inr same ↦
              inr (subst (λ z. link_in (s'.node z) u ≡ link_in (s.node z) u) (sym here)
              (ap (λ node. link_in node u) at.is ∙ same ∙ sym (ap (λ node. link_in node u) at.was)))
        ]
      ]

  -- what isn't the frame stays
  word_still : (y t : List ℕ) (word : TieWord) → IsOnWay s (word_frame y t word) → IsOnWay s' (word_frame y t word)
  word_still y t word way =
      elim (still_under_way s s' number frame acted.sent taken y t (Link word.version word.on) way) [
        | inl on ↦ on
        | inr is ↦
            let never : Frees (Link word.version word.on) = subst Frees (sym (ap (λ (f : Frame). f.body) is)) step.frees in
            absurd never
      ]

  word_was : (y t : List ℕ) (word : TieWord) → IsOnWay s' (word_frame y t word) → IsOnWay s (word_frame y t word)
  word_was y t word way =
      elim (was_under_way s s' number frame acted.sent taken y t (Link word.version word.on) way) [
        | inl old ↦ old
        | inr sends ↦ absurd (step.lays y t (Link word.version word.on) sends)
      ]

  -- a pin isn't that on the sender
  pin_apart : (y u : List ℕ) → link_of s' y u ≡ Some Pin → y ≡ frame.to → u ≡ frame.from → ⊥
  pin_apart y u pin here sender =
      step.unpinned
      (sym (link_here frame.from) ∙ ap (λ z. link_of s' z frame.from) (sym here) ∙ ap (λ z. link_of s' y z) (sym sender) ∙ pin)

  pin_was : (y u : List ℕ) → link_of s' y u ≡ Some Pin → link_of s y u ≡ Some Pin
  pin_was y u pin =
      elim (link_cases y u) [
        | inl at_sender ↦ absurd (pin_apart y u pin at_sender.0 at_sender.1)
        | inr same ↦ sym same ∙ pin
      ]

  -- a Release or a Forget of which a pin is left isn't the frame
  free_still : (u y : List ℕ) (body : Body) → link_of s' y u ≡ Some Pin → IsUnderWay s u y body → IsUnderWay s' u y body
  free_still u y body pin way =
      elim (still_under_way s s' number frame acted.sent taken u y body way) [
        | inl on ↦ on
        | inr is ↦ absurd (pin_apart y u pin (ap (λ (f : Frame). f.to) is) (ap (λ (f : Frame). f.from) is))
      ]

  hears_was : (t : List ℕ) → hears_words (status_of s' t) → hears_words (status_of s t)
  hears_was t hears = subst hears_words (status_same t) hears

  stands_still : (y t : List ℕ) (word : TieWord) → Stands s y t word → Stands s' y t word
  stands_still y t word (inl way) = inl (word_still y t word way)
  stands_still y t word (inr stood) = inr (register_same t y ∙ stood)

  last_still : (y t : List ℕ) (on : Bool) → LastIs s y t on → LastIs s' y t on
  last_still y t on l = record {
    last = l.last;
    is = last_same y t ∙ l.is;
    on_is = l.on_is;
    stands = stands_still y t l.last l.stands;
  }

  -- who hears words and is linked was; and who isn't wasn't
  some_was : (y t : List ℕ) (kind : Kind) → hears_words (status_of s t) → link_of s' y t ≡ Some kind → (k : Kind) × (link_of s y t ≡ Some k)
  some_was y t kind hears link =
      elim (link_cases y t) [
        | inr same ↦ (kind, sym same ∙ link)
        | inl here ↦
            let sender : hears_words (status_of s frame.from) = subst (λ z. hears_words (status_of s z)) here.1 hears in
            let now : link_to acted.state frame.from ≡ Some kind =
            sym (link_here frame.from) ∙ ap (λ z. link_of s' z frame.from) (sym here.0) ∙ ap (λ z. link_of s' y z) (sym here.1) ∙ link in
            let had = some_of (link_to before frame.from) (sym (step.same sender) ∙ ap is_none now) in (
              had.0,
              ap (λ z. link_of s z t) here.0 ∙ ap (λ z. link_of s frame.to z) here.1 ∙ link_was frame.from ∙ had.1,
            )
      ]

  none_was : (y t : List ℕ) → hears_words (status_of s t) → link_of s' y t ≡ None → link_of s y t ≡ None
  none_was y t hears none =
      elim (link_cases y t) [
        | inr same ↦ sym same ∙ none
        | inl here ↦
            let sender : hears_words (status_of s frame.from) = subst (λ z. hears_words (status_of s z)) here.1 hears in
            let now : link_to acted.state frame.from ≡ None =
            sym (link_here frame.from) ∙ ap (λ z. link_of s' z frame.from) (sym here.0) ∙ ap (λ z. link_of s' y z) (sym here.1) ∙ none in
            let had = none_of (link_to before frame.from) (sym (step.same sender) ∙ ap is_none now) in
            ap (λ z. link_of s z t) here.0 ∙ ap (λ z. link_of s frame.to z) here.1 ∙ link_was frame.from ∙ had
      ]

  freed_ties : TiesAreTold s → TiesAreTold s'
  freed_ties ties = record {
    linked = λ y t kind hears link.
        let had = some_was y t kind (hears_was t hears) link in
        last_still y t true (ties.linked y t had.0 (hears_was t hears) had.1);
    dropped = λ y t word hears none last.
        last_still y t false
        (ties.dropped y t word (hears_was t hears) (none_was y t (hears_was t hears) none) (sym (last_same y t) ∙ last));
    pinned = λ y t core pin. elim (ties.pinned y t (sym (status_same t) ∙ core) (pin_was y t pin)) [
      | inl said ↦ inl (said.0, last_same y t ∙ said.1, word_still y t said.0 said.2)
      | inr released ↦ inr (free_still t y Release pin released)
    ];
  }

  within_still : (y t : List ℕ) (word : TieWord) → IsNoNewer s y t word → IsNoNewer s' y t word
  within_still y t word is = record { last = is.last; is = last_same y t ∙ is.is; most = is.most; same = is.same }

  freed_versions : Versions s → Versions s'
  freed_versions versions = record {
    ways = λ y t word way. within_still y t word (versions.ways y t word (word_was y t word way));
    registers = λ y t word is. within_still y t word (versions.registers y t word (sym (register_same t y) ∙ is));
    once = λ y t word kept last way is.
        versions.once y t word kept (sym (last_same y t) ∙ last) (word_was y t word way) (sym (register_same t y) ∙ is);
  }

  either_was : (y : List ℕ) → CoreOrJoining s' y → CoreOrJoining s y
  either_was y (inl core) = inl (sym (status_same y) ∙ core)
  either_was y (inr joins) = inr (sym (status_same y) ∙ joins)

  freed_pin : (y t : List ℕ) → Pins s' y t → Pins s y t
  freed_pin y t pin = at_link s y t Pin (pin_was y t (link_at s' y t Pin pin))

  says_still : (y n : List ℕ) → SaysSo s y n → SaysSo s' y n
  says_still y n says = record { word = says.word; on = says.on; way = word_still y n says.word says.way }

  freed_ceased : Ceased s → Ceased s'
  freed_ceased ceased = record {
    joining = λ y n either pin joins.
        elim (ceased.joining y n (either_was y either) (freed_pin y n pin) (sym (status_same n) ∙ joins)) [
          | inl registered ↦
              inl (record { word = registered.word; on = registered.on; is = register_same n y ∙ registered.is })
          | inr says ↦ inr (says_still y n says)
        ];
    ceased = λ y n either pin ended.
        elim (ceased.ceased y n (either_was y either) (freed_pin y n pin) (sym (status_same n) ∙ ended)) [
          | inl says ↦ inl (says_still y n says)
          | inr way ↦ inr (free_still n y Forget (link_at s' y n Pin pin) way)
        ];
    forgets = λ n y way.
        elim (was_under_way s s' number frame acted.sent taken n y Forget way) [
          | inl old ↦ status_same n ∙ ceased.forgets n y old
          | inr sends ↦ absurd (step.lays n y Forget sends)
        ];
  }

  pub freed_stand : WordsStand s → WordsStand s'
  freed_stand stand =
      record { ties = freed_ties stand.ties; versions = freed_versions stand.versions; ceased = freed_ceased stand.ceased }
