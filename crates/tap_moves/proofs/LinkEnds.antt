-- What is said of links stands after a Link: at a node that hears words, and at one that has ended.
use Rattle.std.proofs.Common.{◌≡◌, ◌⊎◌, ℕ, Bool, true, false, List, Some, ap, sym, subst, ◌∙◌, inl, inr}
use Rattle.tap_link.specs.declared.kind.Kind.TheVariants.{Pin}
use Rattle.tap_register.specs.Registers.{entry_of}
use Rattle.tap_name.specs.Order.{name_cmp}
use Rattle.tap_table.specs.Table.{kind_in}
use Rattle.tap_table.specs.Ties.{TiesValue}
use Rattle.tap_wire.specs.declared.frame.Body.{Body}
use Rattle.tap_wire.specs.declared.frame.Body.TheVariants.{Forget, Link, Release}
use Rattle.tap_wire.specs.declared.frame.Frame.{Frame}
use Rattle.tap_rule.specs.Event.{Acted}
use Rattle.tap_rule.specs.Node.{NodeState}
use Rattle.tap_rule.specs.Node.Status.{Ceased as CeasedStatus, Core, Joining}
use Rattle.tap_safety.specs.Ceased.{Ceased, CoreOrJoining, IsRegistered, SaysSo}
use Rattle.tap_safety.specs.Moved.{HasDone, last_after}
use Rattle.tap_safety.specs.Remembered.{TieWord}
use Rattle.tap_safety.specs.Exchanges.{ChangesAt, IsSent, IsTaken}
use Rattle.tap_safety.specs.System.{System, IsUnderWay}
use Rattle.tap_safety.specs.Ties.{IsNoNewer, IsOnWay, LastIs, Stands, TakesLink, TiesAreTold, Versions, hears_words, link_in, link_of, register_in, register_of, status_in, status_of, tie_word_kept, word_frame}
use Rattle.tap_safety.specs.Regions.{Pins}
use Rattle.tap_safety.proofs.FrameWords.{last_cases}
use Rattle.tap_safety.proofs.UnderWay.{sent_under_way, still_under_way, was_under_way}
use Rattle.tap_safety.proofs.WordsKept.{at_link, link_at}
use Rattle.tap_moves.specs.TiesLaws.{WordsStand}
use Rattle.tap_moves.proofs.Silent.{same_in}

-- ---- pins on joining nodes

-- if the ties stand, so does what is said of a pin to a node that joins
said_of : (s : System) (x n : List ℕ) → LastIs s x n true → IsRegistered s x n ⊎ SaysSo s x n
said_of s x n l = by l.stands
  where
    by : Stands s x n l.last → IsRegistered s x n ⊎ SaysSo s x n
    by (inl way) = inr (record { word = l.last; on = l.on_is; way = way })
    by (inr stood) = inl (record { word = l.last; on = l.on_is; is = stood })

pub joining_said : (s : System) → TiesAreTold s → (x n : List ℕ) → Pins s x n → status_of s n ≡ Some Joining → IsRegistered s x n ⊎ SaysSo s x n
joining_said s ties x n pin joins =
    said_of s x n (ties.linked x n Pin (subst hears_words (sym joins) tt) (link_at s x n Pin pin))

-- ---- a Link that is heard

module _ (s s' : System) (x t : List ℕ) (word : TieWord) (step : TakesLink s s' x t word) (hears : hears_words (status_of s t)) where
  -- a word to a node that has ceased isn't the one that is taken
  word_on : (y n : List ℕ) (w : TieWord) → status_of s n ≡ Some CeasedStatus → IsOnWay s (word_frame y n w) → IsOnWay s' (word_frame y n w)
  word_on y n w ended way =
      elim (step.still (word_frame y n w) way) [
        | inr on ↦ on
        | inl is ↦
            let to : n ≡ t = ap (λ (f : Frame). f.to) is in
            let never : ⊥ = subst hears_words (ap (status_of s) (sym to) ∙ ended) hears in
            absurd never
      ]

  forget_on : (n y : List ℕ) → IsUnderWay s n y Forget → IsUnderWay s' n y Forget
  forget_on n y way =
      elim (step.still (record { from = n; to = y; body = Forget }) way) [
        | inr on ↦ on
        | inl is ↦ let wrong : Forget ≡ Link word.version word.on = ap (λ (f : Frame). f.body) is in cc
      ]

  forget_was : (n y : List ℕ) → IsUnderWay s' n y Forget → IsUnderWay s n y Forget
  forget_was n y way =
      elim (step.was (record { from = n; to = y; body = Forget }) way) [
        | inl old ↦ old
        | inr is ↦ let wrong : Forget ≡ Release = ap (λ (f : Frame). f.body) is in cc
      ]

  either_was : (y : List ℕ) → CoreOrJoining s' y → CoreOrJoining s y
  either_was y (inl core) = inl (sym (step.status y) ∙ core)
  either_was y (inr joins) = inr (sym (step.status y) ∙ joins)

  pub heard_ceased : TiesAreTold s' → Ceased s → Ceased s'
  heard_ceased ties ceased = record {
    joining = λ y n either pin joins. joining_said s' ties y n pin joins;
    ceased = λ y n either pin ended.
        let was : status_of s n ≡ Some CeasedStatus = sym (step.status n) ∙ ended in
        let had : Pins s y n = at_link s y n Pin (sym (step.links y n) ∙ link_at s' y n Pin pin) in
        elim (ceased.ceased y n (either_was y either) had was) [
          | inl says ↦ inl (record { word = says.word; on = says.on; way = word_on y n says.word was says.way })
          | inr way ↦ inr (forget_on n y way)
        ];
    forgets = λ n y way. step.status n ∙ ceased.forgets n y (forget_was n y way);
  }

-- ---- a Link at a node that has ended

-- The node hears no words, and stays what it is; it sends no Link, and a Forget only to the sender, if it has ceased, and then if the word
-- is that there is a link.
pub record TakesUnheard (frame : Frame) (before : NodeState) (acted : Acted) (word : TieWord) : Type 0 where
  pub body : frame.body ≡ Link word.version word.on
  pub unheard : hears_words (Some before.status) → ⊥
  pub status : acted.state.status ≡ before.status
  pub ties : acted.state.ties ≡ before.ties
  pub no_link : (from to : List ℕ) (version : ℕ) (on : Bool) → IsSent acted.sent from to (Link version on) → ⊥
  pub forgets : before.status ≡ CeasedStatus → word.on ≡ true → IsSent acted.sent frame.to frame.from Forget
  pub forgotten : (from to : List ℕ) → IsSent acted.sent from to Forget → (from ≡ frame.to) × (before.status ≡ CeasedStatus)

module _ (s s' : System) (number : ℕ) (frame : Frame) (before : NodeState) (acted : Acted) (taken : IsTaken s s' number frame acted.sent)
    (at : ChangesAt s s' frame.to before acted.state) (done : HasDone s s' frame.to acted.state acted.sent) (word : TieWord)
    (step : TakesUnheard frame before acted word) where
  status_same : (y : List ℕ) → status_of s' y ≡ status_of s y
  unfolding status_of
  status_same y = same_in s s' frame.to before acted.state at status_in (ap (λ status. Some status) step.status) y

  status_here : status_of s frame.to ≡ Some before.status
  unfolding status_of
  status_here = ap status_in at.was

  register_same : (t y : List ℕ) → register_of s' t y ≡ register_of s t y
  unfolding register_of
  register_same t y =
      same_in s s' frame.to before acted.state at (λ node. register_in node y)
      (ap (λ (u : TiesValue). tie_word_kept (entry_of name_cmp u.holders y)) step.ties) t

  link_same : (y t : List ℕ) → link_of s' y t ≡ link_of s y t
  unfolding link_of
  link_same y t =
      same_in s s' frame.to before acted.state at (λ node. link_in node t) (ap (λ (u : TiesValue). kind_in u.table t) step.ties) y

  last_stays : (t : List ℕ) → last_after acted.sent t (s.last frame.to t) ≡ s.last frame.to t
  last_stays t =
      elim (last_cases acted.sent t (s.last frame.to t)) [
        | inl none ↦ none.0
        | inr some ↦ let said = some.0 in absurd (step.no_link some.2.from t said.version said.on some.2.among)
      ]

  last_same : (y t : List ℕ) → s'.last y t ≡ s.last y t
  last_same y t =
      elim (done.others_words y t) [
        | inr same ↦ same
        | inl here ↦ subst (λ z. s'.last z t ≡ s.last z t) (sym here) (done.words t ∙ last_stays t)
      ]

  -- a word to another node stays
  word_still : (y t : List ℕ) (w : TieWord) → (t ≡ frame.to → ⊥) → IsOnWay s (word_frame y t w) → IsOnWay s' (word_frame y t w)
  word_still y t w apart way =
      elim (still_under_way s s' number frame acted.sent taken y t (Link w.version w.on) way) [
        | inl on ↦ on
        | inr is ↦ absurd (apart (ap (λ (f : Frame). f.to) is))
      ]

  word_was : (y t : List ℕ) (w : TieWord) → IsOnWay s' (word_frame y t w) → IsOnWay s (word_frame y t w)
  word_was y t w way =
      elim (was_under_way s s' number frame acted.sent taken y t (Link w.version w.on) way) [
        | inl old ↦ old
        | inr sends ↦ absurd (step.no_link y t w.version w.on sends)
      ]

  -- a frame that is no Link stays
  other_still : (y t : List ℕ) (body : Body) → ((version : ℕ) (on : Bool) → body ≡ Link version on → ⊥) → IsUnderWay s y t body
      → IsUnderWay s' y t body
  other_still y t body apart way =
      elim (still_under_way s s' number frame acted.sent taken y t body way) [
        | inl on ↦ on
        | inr is ↦ absurd (apart word.version word.on (ap (λ (f : Frame). f.body) is ∙ step.body))
      ]

  hears_was : (t : List ℕ) → hears_words (status_of s' t) → hears_words (status_of s t)
  hears_was t hears = subst hears_words (status_same t) hears

  hearer_apart : (t : List ℕ) → hears_words (status_of s t) → t ≡ frame.to → ⊥
  hearer_apart t hears here = step.unheard (subst hears_words (ap (status_of s) here ∙ status_here) hears)

  stands_still : (y t : List ℕ) (w : TieWord) → hears_words (status_of s t) → Stands s y t w → Stands s' y t w
  stands_still y t w hears (inl way) = inl (word_still y t w (hearer_apart t hears) way)
  stands_still y t w hears (inr stood) = inr (register_same t y ∙ stood)

  last_still : (y t : List ℕ) (on : Bool) → hears_words (status_of s t) → LastIs s y t on → LastIs s' y t on
  last_still y t on hears l = record {
    last = l.last;
    is = last_same y t ∙ l.is;
    on_is = l.on_is;
    stands = stands_still y t l.last hears l.stands;
  }

  core_hears : (t : List ℕ) → status_of s t ≡ Some Core → hears_words (status_of s t)
  core_hears t core = subst hears_words (sym core) tt

  unheard_ties : TiesAreTold s → TiesAreTold s'
  unheard_ties ties = record {
    linked = λ y t kind hears link.
        let was = hears_was t hears in last_still y t true was (ties.linked y t kind was (sym (link_same y t) ∙ link));
    dropped = λ y t w hears none last.
        let was = hears_was t hears in
        last_still y t false was (ties.dropped y t w was (sym (link_same y t) ∙ none) (sym (last_same y t) ∙ last));
    pinned = λ y t core pin.
        let was = sym (status_same t) ∙ core in
        elim (ties.pinned y t was (sym (link_same y t) ∙ pin)) [
          | inl said ↦
              inl (said.0, last_same y t ∙ said.1, word_still y t said.0 (hearer_apart t (core_hears t was)) said.2)
          | inr released ↦ inr (other_still t y Release (λ version on is. cc) released)
        ];
  }

  within_still : (y t : List ℕ) (w : TieWord) → IsNoNewer s y t w → IsNoNewer s' y t w
  within_still y t w is = record { last = is.last; is = last_same y t ∙ is.is; most = is.most; same = is.same }

  unheard_versions : Versions s → Versions s'
  unheard_versions versions = record {
    ways = λ y t w way. within_still y t w (versions.ways y t w (word_was y t w way));
    registers = λ y t w is. within_still y t w (versions.registers y t w (sym (register_same t y) ∙ is));
    once = λ y t w kept last way is.
        versions.once y t w kept (sym (last_same y t) ∙ last) (word_was y t w way) (sym (register_same t y) ∙ is);
  }

  either_before : (y : List ℕ) → CoreOrJoining s' y → CoreOrJoining s y
  either_before y (inl core) = inl (sym (status_same y) ∙ core)
  either_before y (inr joins) = inr (sym (status_same y) ∙ joins)

  -- who says so to a node that has ceased is sent a Forget once it is taken
  says_or : (y n : List ℕ) → status_of s n ≡ Some CeasedStatus → SaysSo s y n → SaysSo s' y n ⊎ IsUnderWay s' n y Forget
  says_or y n ended says =
      elim (still_under_way s s' number frame acted.sent taken y n (Link says.word.version says.word.on) says.way) [
        | inl on ↦ inl (record { word = says.word; on = says.on; way = on })
        | inr is ↦
            let from : y ≡ frame.from = ap (λ (f : Frame). f.from) is in
            let to : n ≡ frame.to = ap (λ (f : Frame). f.to) is in
            let body : Link says.word.version says.word.on ≡ Link word.version word.on =
            ap (λ (f : Frame). f.body) is ∙ step.body in
            let same : says.word.on ≡ word.on = cc in
            let here : Some before.status ≡ Some CeasedStatus = sym status_here ∙ ap (status_of s) (sym to) ∙ ended in
            let ceased : before.status ≡ CeasedStatus = cc in
            let sends = step.forgets ceased (sym same ∙ says.on) in
            let way = sent_under_way s s' number frame acted.sent taken frame.to frame.from Forget sends in
            inr (subst (λ z. IsUnderWay s' z y Forget) (sym to) (subst (λ z. IsUnderWay s' frame.to z Forget) (sym from) way))
      ]

  unheard_ceased : TiesAreTold s' → Ceased s → Ceased s'
  unheard_ceased ties ceased = record {
    joining = λ y n either pin joins. joining_said s' ties y n pin joins;
    ceased = λ y n either pin ended.
        let was : status_of s n ≡ Some CeasedStatus = sym (status_same n) ∙ ended in
        let had : Pins s y n = at_link s y n Pin (sym (link_same y n) ∙ link_at s' y n Pin pin) in
        elim (ceased.ceased y n (either_before y either) had was) [
          | inl says ↦ says_or y n was says
          | inr way ↦ inr (other_still n y Forget (λ version on is. cc) way)
        ];
    forgets = λ n y way.
        elim (was_under_way s s' number frame acted.sent taken n y Forget way) [
          | inl old ↦ status_same n ∙ ceased.forgets n y old
          | inr sends ↦
              let mine = step.forgotten n y sends in
              status_same n ∙ ap (status_of s) mine.0 ∙ status_here ∙ ap (λ status. Some status) mine.1
        ];
  }

  pub unheard_stand : WordsStand s → WordsStand s'
  unheard_stand stand =
      let ties = unheard_ties stand.ties in
      record { ties = ties; versions = unheard_versions stand.versions; ceased = unheard_ceased ties stand.ceased }
