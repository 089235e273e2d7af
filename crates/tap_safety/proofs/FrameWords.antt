-- A frame whose taker says of each link that it changes: what is then said of links and stands.
-- Cited above: last_cases
use Rattle.std.proofs.Common.{◌≡◌, inl, inr, ℕ, Bool, List, [], ◌∷◌, ◌⊎◌, Option, None, Some, arith, refl, sym, ap, ◌∙◌}
use Rattle.std.proofs.lemmas.Bool.{cases_Bool, true≢false}
use Rattle.std.proofs.lemmas.Slice.Eq.{bytes_eq-Decides}
use Rattle.std.specs.Prelude.{bytes_eq}
use Rattle.tap_link.specs.declared.kind.Kind.{Kind}
use Rattle.tap_link.specs.declared.kind.Kind.TheVariants.{Pin}
use Rattle.tap_table.specs.declared.tie.Tie.{Tie}
use Rattle.tap_wire.specs.declared.frame.Body.{Body}
use Rattle.tap_wire.specs.declared.frame.Body.TheVariants.{Forget, Link, Release}
use Rattle.tap_wire.specs.declared.frame.Frame.{Frame}
use Rattle.tap_rule.specs.Node.{link_to}
use Rattle.tap_rule.specs.Sent.{IsAmong}
use Rattle.tap_safety.specs.Remembered.{TieWord}
use Rattle.tap_safety.specs.System.{System}
use Rattle.tap_safety.specs.Exchanges.{IsSent}
use Rattle.tap_safety.specs.Moved.{HasDone, last_after, word_after}
use Rattle.tap_safety.specs.Bookkeeping.{AreStamped, has_table}
use Rattle.tap_safety.specs.FrameSteps.{TakesFrame}
use Rattle.tap_safety.specs.Ties.{IsOnWay, link_in, link_of, register_in, register_of, status_in, status_of, tie_word_kept, word_frame}
use Rattle.tap_safety.specs.WordSteps.{IsSaid, KeepsForgets, SaysLinks, SaysNoMore, SaysWords}
use Rattle.tap_safety.proofs.UnderWay.{sent_under_way, still_under_way, was_under_way}

-- ---- the last word after frames are sent

-- a body is a word, or changes none
word_or : (body : Body) (before : Option TieWord) → ((version : ℕ) × (on : Bool) × (body ≡ Link version on))
    ⊎ ((word_after body before ≡ before) × ((version : ℕ) (on : Bool) → body ≡ Link version on → ⊥))
word_or (Link version on) before = inl (version, on, refl)
word_or other before = inr (refl, λ version on is. cc)

-- a Link to t is among these
pub record HasLinkTo (sent : List Frame) (t : List ℕ) (word : TieWord) : Type 0 where
  pub from : List ℕ
  pub among : IsAmong (record { from = from; to = t; body = Link word.version word.on }) sent

-- none is
abbrev pub NoLinkTo : List Frame → List ℕ → Type 0
NoLinkTo sent t =
    (from : List ℕ) (version : ℕ) (on : Bool) → IsAmong (record { from = from; to = t; body = Link version on }) sent → ⊥

pub last_cases : (sent : List Frame) (t : List ℕ) (before : Option TieWord) → ((last_after sent t before ≡ before) × NoLinkTo sent t)
    ⊎ ((word : TieWord) × (last_after sent t before ≡ Some word) × HasLinkTo sent t word)
unfolding last_after
last_cases [] t before = inl (refl, λ from version on among. absurd among)
last_cases (f ∷ fs) t before =
    elim (cases_Bool (bytes_eq t f.to)) [
      | inr apart ↦
          rw apart (elim (last_cases fs t before) [
            | inr later ↦ inr (later.0, later.1, record { from = later.2.from; among = inr later.2.among })
            | inl none ↦ inl (
              none.0,
              λ from version on among.
                  elim among [
                    | inl is ↦
                        let to : t ≡ f.to = ap (λ f. f.to) is in
                        true≢false (sym ((bytes_eq-Decides t f.to).1 to) ∙ apart)
                    | inr later ↦ none.1 from version on later
                  ],
            )
          ])
      | inl here ↦
          let to : t ≡ f.to = (bytes_eq-Decides t f.to).0 here in
          rw here (elim (last_cases fs t (word_after f.body before)) [
            | inr later ↦ inr (later.0, later.1, record { from = later.2.from; among = inr later.2.among })
            | inl none ↦
                elim (word_or f.body before) [
                  | inl says ↦
                      let word : TieWord = record { version = says.0; on = says.1 } in
                      let said : word_after f.body before ≡ Some word = ap (λ body. word_after body before) says.2 in
                      inr (word, none.0 ∙ said, record { from = f.from; among = inl (whole f t word (sym to) says.2) })
                  | inr same ↦ inl (
                    none.0 ∙ same.0,
                    λ from version on among.
                        elim among [
                          | inl is ↦ same.1 version on (sym (ap (λ f. f.body) is))
                          | inr later ↦ none.1 from version on later
                        ],
                  )
                ]
          ])
    ]
  where
    whole : (f : Frame) (t : List ℕ) (word : TieWord) → f.to ≡ t → f.body ≡ Link word.version word.on
        → record { from = f.from; to = t; body = Link word.version word.on } ≡ f
    whole f t word to body =
        let by_to : List ℕ → Frame = λ u. record { from = f.from; to = u; body = f.body } in
        let by_body : Body → Frame = λ b. record { from = f.from; to = t; body = b } in
        sym (ap by_to to ∙ ap by_body body)

-- a Link that is sent is one of these
same_sent : (sent : List Frame) (x t u : List ℕ) (one two : ℕ) (on off : Bool) → t ≡ u → one ≡ two → on ≡ off
    → IsAmong (record { from = x; to = t; body = Link one on }) sent → IsSent sent x u (Link two off)
same_sent sent x t u one two on off to version says among = rw (← to, ← version, ← says) among

same_word : (one two : TieWord) → one.version ≡ two.version → one.on ≡ two.on → one ≡ two
same_word one two version on =
    let by_version : ℕ → TieWord = λ n. record { version = n; on = one.on } in
    let by_on : Bool → TieWord = λ b. record { version = two.version; on = b } in
    ap by_version version ∙ ap by_on on

-- y is x, and says this word to t
record IsWordOf (x : List ℕ) (words : List Tie) (y t : List ℕ) (word : TieWord) : Type 0 where
  from : y ≡ x
  tie : Tie
  among : IsAmong tie words
  to : t ≡ tie.to
  version : word.version ≡ tie.version
  on : word.on ≡ tie.on

module _ (s s' : System) (number : ℕ) (frame : Frame) (step : TakesFrame s s' number frame)
    (done : HasDone s s' frame.to step.after step.sent) (says : SaysLinks step.before step.after step.words)
    (no_more : SaysNoMore frame step.after step.messages) (stamped : AreStamped s) (table : has_table step.before.status) where
  -- ---- look-ups

  link_here : (t : List ℕ) → link_of s' frame.to t ≡ link_to step.after t
  unfolding link_of
  link_here t = ap (λ node. link_in node t) step.at.is

  link_was : (t : List ℕ) → link_of s frame.to t ≡ link_to step.before t
  unfolding link_of
  link_was t = ap (λ node. link_in node t) step.at.was

  link_there : (y t : List ℕ) → s'.node y ≡ s.node y → link_of s' y t ≡ link_of s y t
  unfolding link_of
  link_there y t same = ap (λ node. link_in node t) same

  status_same : (y : List ℕ) → status_of s' y ≡ status_of s y
  unfolding status_of
  status_same y =
      elim (step.at.others y) [
        | inr same ↦ ap status_in same
        | inl here ↦
            let now : status_in (s'.node frame.to) ≡ Some step.after.status = ap status_in step.at.is in
            let was : status_in (s.node frame.to) ≡ Some step.before.status = ap status_in step.at.was in
            let stays : Some step.after.status ≡ Some step.before.status = ap (λ status. Some status) step.stays.status in
            let both : status_in (s'.node frame.to) ≡ status_in (s.node frame.to) = now ∙ stays ∙ sym was in
            rw here both
      ]

  register_same : (t y : List ℕ) → register_of s' t y ≡ register_of s t y
  unfolding register_of
  register_same t y =
      elim (step.at.others t) [
        | inr same ↦ ap (λ node. register_in node y) same
        | inl here ↦
            let now : register_in (s'.node frame.to) y ≡ register_in (Some step.after) y = ap (λ node. register_in node y) step.at.is in
            let was : register_in (s.node frame.to) y ≡ register_in (Some step.before) y = ap (λ node. register_in node y) step.at.was in
            let stays : register_in (Some step.after) y ≡ register_in (Some step.before) y =
            ap tie_word_kept (says.register y) in
            let both : register_in (s'.node frame.to) y ≡ register_in (s.node frame.to) y = now ∙ stays ∙ sym was in
            rw here both
      ]

  -- ---- what is sent

  abbrev IsOneOf : List ℕ → List ℕ → TieWord → Type 0
  IsOneOf y t word = IsWordOf frame.to step.words y t word

  -- a Link that is sent is one of the words
  from_words : (y t : List ℕ) (word : TieWord) → IsSent step.sent y t (Link word.version word.on) → IsOneOf y t word
  from_words y t word sends =
      elim (step.are.each (record { from = y; to = t; body = Link word.version word.on }) sends) [
        | inl link ↦
            let body : Link word.version word.on ≡ Link link.word.version link.word.on = ap (λ f. f.body) link.is in
            let version : word.version ≡ link.word.version = cc in
            let on : word.on ≡ link.word.on = cc in
            record {
              from = ap (λ f. f.from) link.is;
              tie = link.word;
              among = link.among;
              to = ap (λ f. f.to) link.is;
              version = version;
              on = on;
            }
        | inr more ↦
            elim more [
              | inl named ↦
                  let body : Link word.version word.on ≡ named.message.body = ap (λ f. f.body) named.is in
                  absurd (no_more.no_link named.message named.among word.version word.on (sym body))
              | inr lay ↦
                  let body = ap (λ f. f.body) lay.is in cc
            ]
      ]

  -- a word that is under way was, or is one of these
  word_was : (y t : List ℕ) (word : TieWord) → IsOnWay s' (word_frame y t word) → IsOnWay s (word_frame y t word)
      ⊎ IsOneOf y t word
  word_was y t word way =
      elim (was_under_way s s' number frame step.sent step.taken y t (Link word.version word.on) way) [
        | inl old ↦ inl old
        | inr sends ↦ inr (from_words y t word sends)
      ]

  -- the word of a tie is sent, so it is the last one to its name, and no other is
  last_here : (t : List ℕ) → s'.last frame.to t ≡ last_after step.sent t (s.last frame.to t)
  last_here t = done.words t

  -- what is said to t
  said_to : (t : List ℕ) → (word : TieWord) → s'.last frame.to t ≡ Some word → (one : IsOneOf frame.to t word) → IsSaid s s' frame.to t
  said_to t word last one = record {
    word = word;
    last = last;
    way = sent_under_way s s' number frame step.sent step.taken frame.to t (Link word.version word.on) (tie_sent t word one);
    on = λ kind link.
        one.on ∙ says.on one.tie one.among kind (link_of_tie t word one (Some kind) (sym (link_here t) ∙ link));
    off = λ none. one.on ∙ says.off one.tie one.among (link_of_tie t word one None (sym (link_here t) ∙ none));
    newer = λ old was.
        let stamp = stamped.stamp frame.to t old step.before step.at.was table was in
        let above = says.newer one.tie one.among in
        let version = one.version in
        omega arith;
  }
    where
      -- its link is that of the tie's name
      link_of_tie : (t : List ℕ) (word : TieWord) (one : IsOneOf frame.to t word) (kind : Option Kind) → link_to step.after t ≡ kind
          → link_to step.after one.tie.to ≡ kind
      link_of_tie t word one kind is = sym (ap (λ u. link_to step.after u) one.to) ∙ is

      tie_sent : (t : List ℕ) (word : TieWord) (one : IsOneOf frame.to t word) → IsSent step.sent frame.to t (Link word.version word.on)
      tie_sent t word one =
          let there = step.are.links one.tie one.among in
          same_sent step.sent frame.to one.tie.to t one.tie.version word.version one.tie.on word.on (sym one.to) (sym one.version)
          (sym one.on) there

  -- each link is as it was, or said
  mine : (t : List ℕ) → ((link_of s' frame.to t ≡ link_of s frame.to t) × (s'.last frame.to t ≡ s.last frame.to t))
      ⊎ IsSaid s s' frame.to t
  mine t =
      elim (last_cases step.sent t (s.last frame.to t)) [
        | inl none ↦
            let stays = says.unsaid t (λ tie among to. none.1 frame.to tie.version tie.on
            (same_sent step.sent frame.to tie.to t tie.version tie.version tie.on tie.on to refl refl (step.are.links tie among))) in
            inl (link_here t ∙ stays ∙ sym (link_was t), last_here t ∙ none.0)
        | inr some ↦
            let one = from_words some.2.from t some.0 some.2.among in
            let here : IsOneOf frame.to t some.0 = record {
              from = refl;
              tie = one.tie;
              among = one.among;
              to = one.to;
              version = one.version;
              on = one.on;
            } in
            inr (said_to t some.0 (last_here t ∙ some.1) here)
      ]

  -- a word that is sent is the last one to its name
  is_last : (t : List ℕ) (word : TieWord) → IsOneOf frame.to t word → (is : IsSaid s s' frame.to t) × (is.word ≡ word)
  unfolding said_to
  is_last t word one =
      elim (last_cases step.sent t (s.last frame.to t)) [
        | inl none ↦
            absurd (none.1 frame.to one.tie.version one.tie.on
            (same_sent step.sent frame.to one.tie.to t one.tie.version one.tie.version one.tie.on one.tie.on (sym one.to) refl refl
            (step.are.links one.tie one.among)))
        | inr some ↦
            let other = from_words some.2.from t some.0 some.2.among in
            let tie : other.tie ≡ one.tie = says.once other.tie one.tie other.among one.among (sym other.to ∙ one.to) in
            let version : some.0.version ≡ word.version = other.version ∙ ap (λ tie. tie.version) tie ∙ sym one.version in
            let on : some.0.on ≡ word.on = other.on ∙ ap (λ tie. tie.on) tie ∙ sym one.on in
            let same : some.0 ≡ word = same_word some.0 word version on in
            let last : s'.last frame.to t ≡ Some word = last_here t ∙ some.1 ∙ ap (λ word. Some word) same in
            (said_to t word last one, refl)
      ]

  pub frame_says : SaysWords s s' frame.to
  frame_says = record {
    status = status_same;
    registers = register_same;
    others = λ y t.
        elim (step.at.others y) [
          | inl here ↦ inl here
          | inr same ↦
              elim (done.others_words y t) [
                | inl here ↦ inl here
                | inr last ↦ inr (link_there y t same, last)
              ]
        ];
    mine = mine;
    still = λ y t word way.
        elim (still_under_way s s' number frame step.sent step.taken y t (Link word.version word.on) way) [
          | inl on ↦ on
          | inr is ↦ absurd (no_more.link word.version word.on (sym (ap (λ f. f.body) is)))
        ];
    was = λ y t word way.
        elim (word_was y t word way) [
          | inl old ↦ inl old
          | inr one ↦
              let here : IsOneOf frame.to t word = record {
                from = refl;
                tie = one.tie;
                among = one.among;
                to = one.to;
                version = one.version;
                on = one.on;
              } in
              inr (one.from, is_last t word here)
        ];
    releases = λ t y way.
        elim (still_under_way s s' number frame step.sent step.taken t y Release way) [
          | inl on ↦ inl on
          | inr is ↦ inr (sym_to y is, λ pin. no_more.release (sym (ap (λ f. f.body) is)) (pin_at t y is pin))
        ];
  }
    where
      sym_to : (y : List ℕ) → {t : List ℕ} → record { from = t; to = y; body = Release } ≡ frame → y ≡ frame.to
      sym_to y is = ap (λ f. f.to) is

      pin_at : (t y : List ℕ) → record { from = t; to = y; body = Release } ≡ frame → link_of s' y t ≡ Some Pin
          → link_to step.after frame.from ≡ Some Pin
      pin_at t y is pin =
          let from : t ≡ frame.from = ap (λ f. f.from) is in
          let to : y ≡ frame.to = ap (λ f. f.to) is in
          let here : link_of s' frame.to frame.from ≡ Some Pin = rw (← from, ← to) pin in
          sym (link_here frame.from) ∙ here

  pub frame_forgets : KeepsForgets s s' frame.to
  frame_forgets = record {
    still = λ n y way.
        elim (still_under_way s s' number frame step.sent step.taken n y Forget way) [
          | inl on ↦ inl on
          | inr is ↦ inr (ap (λ f. f.to) is, λ pin. no_more.forget (sym (ap (λ f. f.body) is)) (pin_at n y is pin))
        ];
    was = λ n y way.
        elim (was_under_way s s' number frame step.sent step.taken n y Forget way) [
          | inl old ↦ inl old
          | inr sends ↦ absurd (no_forget n y sends)
        ];
  }
    where
      pin_at : (n y : List ℕ) → record { from = n; to = y; body = Forget } ≡ frame → link_of s' y n ≡ Some Pin
          → link_to step.after frame.from ≡ Some Pin
      pin_at n y is pin =
          let from : n ≡ frame.from = ap (λ f. f.from) is in
          let to : y ≡ frame.to = ap (λ f. f.to) is in
          let here : link_of s' frame.to frame.from ≡ Some Pin = rw (← from, ← to) pin in
          sym (link_here frame.from) ∙ here

      no_forget : (n y : List ℕ) → IsSent step.sent n y Forget → ⊥
      no_forget n y sends =
          elim (step.are.each (record { from = n; to = y; body = Forget }) sends) [
            | inl link ↦ let body = ap (λ f. f.body) link.is in cc
            | inr more ↦
                elim more [
                  | inl named ↦ no_more.no_forget named.message named.among (sym (ap (λ f. f.body) named.is))
                  | inr lay ↦ let body = ap (λ f. f.body) lay.is in cc
                ]
          ]
