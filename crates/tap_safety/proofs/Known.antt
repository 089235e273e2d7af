-- What the frames, the names and the stamps of a system keep, whatever the kind of step.
-- Cited above: core_kept, ended_kept, ends_frame, ends_start, few_join, few_kept, names_kept, stamps_frame, stamps_join, stamps_start
use Rattle.std.proofs.Common.{◌≡◌, inl, inr, ℕ, ◌+◌, ◌≤◌, List, [], ◌∷◌, ◌⊎◌, Bool, Option, None, Some, arith, sym, ap, ◌∙◌}
use Rattle.tap_name.specs.Settings.{SettingsValue}
use Rattle.tap_wire.specs.declared.frame.Body.TheVariants.{Link}
use Rattle.tap_wire.specs.declared.frame.Frame.{Frame}
use Rattle.tap_rule.specs.Node.{NodeState, Status}
use Rattle.tap_rule.specs.Node.Status.{Ceased, Gone}
use Rattle.tap_safety.specs.Remembered.{TieWord}
use Rattle.tap_safety.specs.System.{System, AmongFrames, IsCoreNode}
use Rattle.tap_safety.specs.Bookkeeping.{AreStamped, HaveEnds, has_table}
use Rattle.tap_safety.specs.Moved.{HasDone, last_after}
use Rattle.tap_safety.specs.Seeking.{HasNode}
use Rattle.tap_safety.specs.Spelled.{AreSpelled, SendsSpelled}
use Rattle.tap_safety.specs.Exchanges.{ChangesAt, HasSent, IsSent, IsTaken, numbered_from}
use Rattle.tap_safety.specs.Ties.{Versions, status_of, word_frame}
use Rattle.tap_safety.specs.KnownLaws.{
  CoreKept,
  EndedKept,
  EndsKeptByFrame,
  EndsKeptByStart,
  FewKept,
  FewKeptByJoin,
  LinksAreOnce,
  NamesKept,
  SeatsNodes,
  SendsAway,
  SpelledKeptByFrame,
  SpelledKeptByStart,
  Stamps,
  StampsKeptByFrame,
  StampsKeptByJoin,
  StampsKeptByStart,
}
use Rattle.tap_safety.proofs.LinkKeeps.{status_at}
use Rattle.tap_safety.proofs.FrameWords.{last_cases}
use Rattle.tap_safety.proofs.UnderWay.{among_either, among_sent, among_was}

-- ---- nodes

module _ (s s' : System) (x : List ℕ) (after : NodeState) (sent : List Frame) (done : HasDone s s' x after sent) where
  done_node : (y : List ℕ) → HasNode s y → HasNode s' y
  done_node y node =
      elim (done.others y) [
        | inl here ↦ record { state = after; is = rw here done.is }
        | inr same ↦ record { state = node.state; is = same ∙ node.is }
      ]

  done_was : (y : List ℕ) → HasNode s' y → (y ≡ x) ⊎ HasNode s y
  done_was y node =
      elim (done.others y) [ inl here ↦ inl here | inr same ↦ inr (record { state = node.state; is = sym same ∙ node.is }) ]

pub names_kept : NamesKept
names_kept p s s' x after sent done name names = record {
  each = λ y node. elim (done_was s s' x after sent done y node) [ inl here ↦ rw here name | inr old ↦ names.each y old ];
}

pub few_kept : FewKept
few_kept s s' x after sent most done node few = record {
  names = few.names;
  few = few.few;
  all = λ y now. elim (done_was s s' x after sent done y now) [ inl here ↦ rw here (few.all x node) | inr old ↦ few.all y old ];
}

pub few_join : FewKeptByJoin
few_join s s' x after sent most done few =
    let less = few.few in
    record {
      names = x ∷ few.names;
      few = omega arith;
      all = λ y now. elim (done_was s s' x after sent done y now) [ inl here ↦ inl here | inr old ↦ inr (few.all y old) ];
    }

pub core_kept : CoreKept
core_kept s s' x after sent done stays has =
    elim stays [
      | inl mine ↦
          elim (core_on has.name has.core) [
            | inl here ↦ record { name = x; core = mine (rw here at has.core) }
            | inr core ↦ record { name = has.name; core = core }
          ]
      | inr other ↦
          elim (core_on other.0 other.1) [ inl here ↦ absurd (other.2 here) | inr core ↦ record { name = other.0; core = core } ]
    ]
  where
    core_on : (y : List ℕ) → IsCoreNode s y → (y ≡ x) ⊎ IsCoreNode s' y
    core_on y core =
        elim (done.others y) [
          | inl here ↦ inl here
          | inr same ↦ inr (record { state = core.state; is = same ∙ core.is; core = core.core })
        ]

pub ended_kept : EndedKept
ended_kept s s' x after sent done none ended = record {
  none = λ y t kind link.
      elim (done.others y) [
        | inl here ↦
            let there : s'.node y ≡ Some after = rw here done.is in
            let is = link.is in
            let same : link.state ≡ after = cc in
            let apart = none t kind (rw same at link.link) in
            let status = status_at s' y after there in (
              λ gone. apart.0 (same_status after.status Gone (sym status ∙ gone)),
              λ ceased. apart.1 (same_status after.status Ceased (sym status ∙ ceased)),
            )
        | inr same ↦
            let was = ended.none y t kind (record { state = link.state; is = sym same ∙ link.is; link = link.link }) in
            let status : status_of s' y ≡ status_of s y =
            status_at s' y link.state link.is ∙ sym (status_at s y link.state (sym same ∙ link.is)) in
            (λ gone. was.0 (sym status ∙ gone), λ ceased. was.1 (sym status ∙ ceased))
      ];
}
  where
    same_status : (one two : Status) → ◌≡◌ {A = Option Status} (Some one) (Some two) → one ≡ two
    same_status one two same = cc

-- ---- frames

-- a frame after the step was under way, or is sent
abbrev Came : System → System → List Frame → Type 0
Came s s' sent =
    (m : ℕ) (f : Frame) → AmongFrames m f s'.frames → AmongFrames m f s.frames ⊎ AmongFrames m f (numbered_from s.next sent)

came_frame : (s s' : System) (number : ℕ) (frame : Frame) (sent : List Frame) → IsTaken s s' number frame sent → Came s s' sent
came_frame s s' number frame sent taken m f among =
    elim (among_was m number f frame taken.front taken.back (numbered_from s.next sent) (rw taken.after at among)) [
      | inl old ↦ inl (rw taken.before old)
      | inr new ↦ inr new
    ]

came_start : (s s' : System) (sent : List Frame) → HasSent s s' sent → Came s s' sent
came_start s s' sent has m f among = among_either m f s.frames (numbered_from s.next sent) (rw has.after at among)

spelled : (p : SettingsValue) (s s' : System) (sent : List Frame) → Came s s' sent → SendsSpelled p sent → AreSpelled p s → AreSpelled p s'
spelled p s s' sent came sends are = record {
  each = λ m f among. elim (came m f among) [ inl old ↦ are.each m f old | inr new ↦ sends f (among_sent s.next sent m f new) ];
}

pub spelled_frame : SpelledKeptByFrame
spelled_frame p s s' number frame sent taken = spelled p s s' sent (came_frame s s' number frame sent taken)

pub spelled_start : SpelledKeptByStart
spelled_start p s s' sent has = spelled p s s' sent (came_start s s' sent has)

-- ---- ends

module _ (s s' : System) (x : List ℕ) (after : NodeState) (sent : List Frame) (came : Came s s' sent) (done : HasDone s s' x after sent)
    (away : SendsAway s x sent) (seats : SeatsNodes s s') (ends : HaveEnds s) where
  here : HasNode s' x
  here = record { state = after; is = done.is }

  node_on : (y : List ℕ) → HasNode s y → HasNode s' y
  node_on = done_node s s' x after sent done

  known : (m : ℕ) (f : Frame) → AmongFrames m f s'.frames → HasNode s' f.from × HasNode s' f.to
  known m f among =
      elim (came m f among) [
        | inl old ↦ let both = ends.known m f old in (node_on f.from both.0, node_on f.to both.1)
        | inr new ↦ let goes = away f (among_sent s.next sent m f new) in (rw goes.0 here, node_on f.to goes.2)
      ]

  heard : (y t : List ℕ) (word : TieWord) → s'.last y t ≡ Some word → HasNode s' t
  heard y t word last =
      elim (done.others_words y t) [
        | inr same ↦ node_on t (ends.receivers y t word (sym same ∙ last))
        | inl same ↦
            let now : last_after sent t (s.last x t) ≡ Some word = sym (done.words t) ∙ (rw same at last) in
            elim (last_cases sent t (s.last x t)) [
              | inl none ↦ node_on t (ends.receivers x t word (sym none.0 ∙ now))
              | inr some ↦ node_on t (away (word_frame some.2.from t some.0) some.2.among).2
            ]
      ]

  ends_kept : HaveEnds s'
  ends_kept = record {
    apart = λ m f among same.
        elim (came m f among) [
          | inl old ↦ ends.apart m f old same
          | inr new ↦ let goes = away f (among_sent s.next sent m f new) in goes.1 (sym same ∙ goes.0)
        ];
    known = known;
    senders = λ y t word is.
        elim (done.others_words y t) [
          | inl same ↦ rw same here
          | inr same ↦ node_on y (ends.senders y t word (sym same ∙ is))
        ];
    receivers = heard;
    surrogates = λ b w is. elim (seats b w is) [ inl old ↦ node_on b (ends.surrogates b w old) | inr node ↦ node_on b node ];
  }

pub ends_frame : EndsKeptByFrame
ends_frame s s' number frame x after sent taken = ends_kept s s' x after sent (came_frame s s' number frame sent taken)

pub ends_start : EndsKeptByStart
ends_start s s' x after sent has = ends_kept s s' x after sent (came_start s s' sent has)

-- ---- stamps

-- a word has one number among these
links_once : (n : ℕ) (sent : List Frame) (x t : List ℕ) (word : TieWord) (m k : ℕ) → LinksAreOnce sent
    → AmongFrames m (word_frame x t word) (numbered_from n sent) → AmongFrames k (word_frame x t word) (numbered_from n sent) → m ≡ k
links_once n [] x t word m k once one two = absurd one
links_once n (f ∷ fs) x t word m k (fresh, once) (inl one) (inl two) = one.0 ∙ sym two.0
links_once n (f ∷ fs) x t word m k (fresh, once) (inl one) (inr two) =
    absurd (fresh word.version word.on (sym (ap (λ f. f.body) one.1))
    (rw one.1 at (among_sent (n + 1) fs k (word_frame x t word) two)))
links_once n (f ∷ fs) x t word m k (fresh, once) (inr one) (inl two) =
    absurd (fresh word.version word.on (sym (ap (λ f. f.body) two.1))
    (rw two.1 at (among_sent (n + 1) fs m (word_frame x t word) one)))
links_once n (f ∷ fs) x t word m k (fresh, once) (inr one) (inr two) = links_once (n + 1) fs x t word m k once one two

module _ (s s' : System) (x : List ℕ) (before after : NodeState) (sent : List Frame) (came : Came s s' sent)
    (at : ChangesAt s s' x before after) (done : HasDone s s' x after sent) (stamps : Stamps before after x sent)
    (versions : Versions s) (are : AreStamped s) where
  -- a word that was under way isn't sent again
  not_again : (y t : List ℕ) (word : TieWord) (m k : ℕ) → AmongFrames m (word_frame y t word) s.frames
      → AmongFrames k (word_frame y t word) (numbered_from s.next sent) → ⊥
  not_again y t word m k old new =
      let comes = among_sent s.next sent k (word_frame y t word) new in
      let mine = stamps.from y t word.version word.on comes in
      let newer = stamps.new y t word.version word.on comes in
      let was = versions.ways y t word (record { number = m; among = old }) in
      let most = was.most in
      let there : s.node y ≡ Some before = rw mine.0 at.was in
      let given = are.stamp y t was.last before there mine.1 was.is in
      absurd (omega arith)

  once : (y t : List ℕ) (word : TieWord) (m k : ℕ) → AmongFrames m (word_frame y t word) s'.frames
      → AmongFrames k (word_frame y t word) s'.frames → m ≡ k
  once y t word m k one two =
      elim (came m (word_frame y t word) one) [
        | inl old ↦
            elim (came k (word_frame y t word) two) [
              | inl other ↦ are.once y t word m k old other
              | inr new ↦ absurd (not_again y t word m k old new)
            ]
        | inr new ↦
            elim (came k (word_frame y t word) two) [
              | inl old ↦ absurd (not_again y t word k m old new)
              | inr other ↦ links_once s.next sent y t word m k stamps.once new other
            ]
      ]

  mine : (y t : List ℕ) (word : TieWord) (state : NodeState) → y ≡ x → s'.node y ≡ Some state → has_table state.status
      → s'.last y t ≡ Some word → word.version ≤ state.stamp
  mine y t word state same is table last =
      let there : s'.node y ≡ Some after = rw same at.is in
      let state_is : state ≡ after = cc in
      let holds : has_table after.status = rw state_is at table in
      let now : last_after sent t (s.last x t) ≡ Some word = sym (done.words t) ∙ (rw same at last) in
      let rises = (stamps.table holds).1 in
      rw state_is (elim (last_cases sent t (s.last x t)) [
        | inl none ↦
            let old = are.stamp x t word before at.was (stamps.table holds).0 (sym none.0 ∙ now) in
            omega arith
        | inr some ↦
            let said = some.1 in
            let word_is : some.0 ≡ word = cc in
            let least = stamps.given holds some.2.from t some.0.version some.0.on some.2.among in
            rw word_is at least
      ])

  stamped : AreStamped s'
  stamped = record {
    once = once;
    stamp = λ y t word state is table last.
        elim (done.others y) [
          | inl same ↦ mine y t word state same is table last
          | inr stays ↦
              elim (done.others_words y t) [
                | inl same ↦ mine y t word state same is table last
                | inr words ↦ are.stamp y t word state (sym stays ∙ is) table (sym words ∙ last)
              ]
        ];
  }

pub stamps_frame : StampsKeptByFrame
stamps_frame s s' number frame x before after sent taken = stamped s s' x before after sent (came_frame s s' number frame sent taken)

pub stamps_start : StampsKeptByStart
stamps_start s s' x before after sent has = stamped s s' x before after sent (came_start s s' sent has)

-- ---- the start of a join

module _ (s s' : System) (x : List ℕ) (after : NodeState) (sent : List Frame) (has : HasSent s s' sent)
    (done : HasDone s s' x after sent) (fresh : s.node x ≡ None)
    (silent : (w t : List ℕ) (version : ℕ) (on : Bool) → IsSent sent w t (Link version on) → ⊥) (ends : HaveEnds s)
    (are : AreStamped s) where
  link_was : (y t : List ℕ) (word : TieWord) (m : ℕ) → AmongFrames m (word_frame y t word) s'.frames
      → AmongFrames m (word_frame y t word) s.frames
  link_was y t word m among =
      elim (came_start s s' sent has m (word_frame y t word) among) [
        | inl old ↦ old
        | inr new ↦ absurd (silent y t word.version word.on (among_sent s.next sent m (word_frame y t word) new))
      ]

  -- the new name has said nothing
  says_nothing : (t : List ℕ) (word : TieWord) → s'.last x t ≡ Some word → ⊥
  says_nothing t word last =
      let now : last_after sent t (s.last x t) ≡ Some word = sym (done.words t) ∙ last in
      elim (last_cases sent t (s.last x t)) [
        | inl none ↦
            let node = ends.senders x t word (sym none.0 ∙ now) in
            let is = node.is in
            let no : None ≡ Some node.state = sym fresh ∙ is in
            cc
        | inr some ↦ silent some.2.from t some.0.version some.0.on some.2.among
      ]

  pub join_stamped : AreStamped s'
  join_stamped = record {
    once = λ y t word m k one two. are.once y t word m k (link_was y t word m one) (link_was y t word k two);
    stamp = λ y t word state is table last.
        elim (done.others y) [
          | inl same ↦ absurd (says_nothing t word (rw same at last))
          | inr stays ↦
              elim (done.others_words y t) [
                | inl same ↦ absurd (says_nothing t word (rw same at last))
                | inr words ↦ are.stamp y t word state (sym stays ∙ is) table (sym words ∙ last)
              ]
        ];
  }

pub stamps_join : StampsKeptByJoin
stamps_join = join_stamped
