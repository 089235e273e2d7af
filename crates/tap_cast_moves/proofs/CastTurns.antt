-- What is said of sessions of casts, and of the ends of casts, after a step that opens, hands on or closes a session.
use Rattle.std.proofs.Common.{◌≡◌, ℕ, List, Option, None, Some, sym, ap, ◌∙◌, inl, inr}
use Rattle.tap_wire.specs.declared.frame.Frame.{Frame}
use Rattle.tap_safety.specs.Joins.{HasRoot}
use Rattle.tap_safety.specs.Remembered.{OpenSession}
use Rattle.tap_safety.specs.Sessions.{AreExact, IsOpen, IsRootless}
use Rattle.tap_safety.specs.SessionSteps.{ClosesChild, ClosesRoot, HandsOn, OpensChild, OpensRoot}
use Rattle.tap_safety.specs.System.{System}
use Rattle.tap_safety.specs.Turns.{Turns}

-- a root session of b is closed
abbrev pub ClosesRootOf : System → System → List ℕ → Type 0
ClosesRootOf v v' b = (y : List ℕ) (m : ℕ) (o : OpenSession) → IsOpen v y m o → o.parent ≡ None → o.joiner ≡ b → v'.session y m ≡ None → ⊥

-- a root session of b is opened
abbrev pub OpensRootOf : System → System → List ℕ → Type 0
OpensRootOf v v' b = (y : List ℕ) (m : ℕ) (o : OpenSession) → IsOpen v' y m o → v.session y m ≡ None → o.parent ≡ None → o.joiner ≡ b → ⊥

module _ (v v' : System) (sent : List (ℕ × Frame)) (turns : Turns v v' sent) where
  pub root_on : (b : List ℕ) → ClosesRootOf v v' b → HasRoot v b → HasRoot v' b
  root_on b stays root =
      elim (turns.fate root.at root.number root.session root.is) [
        | inl on ↦ record {
          at = root.at;
          number = root.number;
          session = on.now;
          is = on.is;
          joiner = on.joiner ∙ root.joiner;
          top = on.parent ∙ root.top;
        }
        | inr closed ↦ absurd (stays root.at root.number root.session root.is root.top root.joiner closed.gone)
      ]

  pub rootless_on : (b : List ℕ) → OpensRootOf v v' b → IsRootless v b → IsRootless v' b
  rootless_on b none rootless = record {
    none = λ y m o is joiner top. elim (turns.origin y m o is) [
      | inl was ↦ rootless.none y m was.old was.is (sym was.joiner ∙ joiner) (sym was.parent ∙ top)
      | inr new ↦ none y m o is new.none top joiner
    ];
  }

-- an open session isn't closed, nor was one that isn't open
gone : (v : System) (y : List ℕ) (m : ℕ) (o : OpenSession) → IsOpen v y m o → v.session y m ≡ None → ⊥
gone v y m o is none = let wrong : ◌≡◌ {A = Option OpenSession} (Some o) None = sym is ∙ none in cc

same_there : (v v' : System) (y w : List ℕ) (m k : ℕ) (o : OpenSession) → (y ≡ w) × (m ≡ k) → IsOpen v w k o → v.session y m ≡ None → ⊥
same_there v v' y w m k o here is none =
    let there : v.session y m ≡ Some o = rw (here.0, here.1) is in gone v y m o there none

module _ (v v' : System) (number : ℕ) (f : Frame) (sent : List (ℕ × Frame)) where
  -- a step that hands a session on opens and closes none
  pub hands_keeps : (w : List ℕ) (k : ℕ) (b : List ℕ) → HandsOn v v' number f w k sent → ClosesRootOf v v' b
  hands_keeps w k b step y m o is top joiner none = elim (step.others y m) [
    | inl here ↦ same_there v' v y w m k _ here step.is none
    | inr same ↦ gone v y m o is (sym same ∙ none)
  ]

  pub hands_opens : (w : List ℕ) (k : ℕ) (y : List ℕ) (m : ℕ) (o : OpenSession) → HandsOn v v' number f w k sent → IsOpen v' y m o
      → v.session y m ≡ None → ⊥
  hands_opens w k y m o step is none = elim (step.others y m) [
    | inl here ↦ same_there v v' y w m k step.before here step.was none
    | inr same ↦ gone v' y m o is (same ∙ none)
  ]

  -- one that opens a session below another closes none, and opens no root
  pub child_keeps : (w : List ℕ) (k : ℕ) (x : List ℕ) (l : ℕ) (b : List ℕ) → OpensChild v v' number f w k x l sent → ClosesRootOf v v' b
  child_keeps w k x l b step y m o is top joiner none = elim (step.others y m) [
    | inl here ↦ same_there v' v y w m k _ here step.parent_is none
    | inr (inl here) ↦ same_there v' v y x m l _ here step.child none
    | inr (inr same) ↦ gone v y m o is (sym same ∙ none)
  ]

  -- the session that it opens
  pub child_opens : (w : List ℕ) (k : ℕ) (x : List ℕ) (l : ℕ) (y : List ℕ) (m : ℕ) (o : OpenSession) → OpensChild v v' number f w k x l sent
      → IsOpen v' y m o → v.session y m ≡ None → (y ≡ x) × (m ≡ l)
  child_opens w k x l y m o step is none = elim (step.others y m) [
    | inl here ↦ absurd (same_there v v' y w m k step.before here step.parent_was none)
    | inr (inl here) ↦ here
    | inr (inr same) ↦ absurd (gone v' y m o is (same ∙ none))
  ]

  -- one that opens a root session closes none
  pub top_keeps : (x : List ℕ) (l : ℕ) (b : List ℕ) → OpensRoot v v' number f x l sent → ClosesRootOf v v' b
  top_keeps x l b step y m o is top joiner none = elim (step.others y m) [
    | inl here ↦ same_there v' v y x m l _ here step.is none
    | inr same ↦ gone v y m o is (sym same ∙ none)
  ]

  pub top_opens : (x : List ℕ) (l : ℕ) (y : List ℕ) (m : ℕ) (o : OpenSession) → OpensRoot v v' number f x l sent
      → IsOpen v' y m o → v.session y m ≡ None → (y ≡ x) × (m ≡ l)
  top_opens x l y m o step is none = elim (step.others y m) [
    | inl here ↦ here
    | inr same ↦ absurd (gone v' y m o is (same ∙ none))
  ]

  -- one that closes a session below another closes no root, and opens none
  pub closing_keeps : (x : List ℕ) (k : ℕ) (w : List ℕ) (n : ℕ) (b : List ℕ) → ClosesChild v v' number f x k w n sent → ClosesRootOf v v' b
  closing_keeps x k w n b step y m o is top joiner none = elim (step.others y m) [
    | inl here ↦
        let there : v.session x k ≡ Some o = ap (λ z. v.session z k) (sym here.0) ∙ ap (v.session y) (sym here.1) ∙ is in
        let one = step.closes.was in
        let same : o ≡ step.closes.session = cc in
        let wrong : ◌≡◌ {A = Option (List ℕ × ℕ)} None (Some (w, n)) = sym top ∙ ap (λ (c : OpenSession). c.parent) same ∙ step.above in
        cc
    | inr (inl here) ↦ same_there v' v y w m n _ here step.parent_is none
    | inr (inr same) ↦ gone v y m o is (sym same ∙ none)
  ]

  pub closing_opens : (x : List ℕ) (k : ℕ) (w : List ℕ) (n : ℕ) (y : List ℕ) (m : ℕ) (o : OpenSession) → ClosesChild v v' number f x k w n sent
      → IsOpen v' y m o → v.session y m ≡ None → ⊥
  closing_opens x k w n y m o step is none = elim (step.others y m) [
    | inl here ↦ same_there v v' y x m k step.closes.session here step.closes.was none
    | inr (inl here) ↦ same_there v v' y w m n step.before here step.parent_was none
    | inr (inr same) ↦ gone v' y m o is (same ∙ none)
  ]

  -- one that closes a root session closes no other, and opens none
  pub last_keeps : (x : List ℕ) (k : ℕ) (b : List ℕ) → (step : ClosesRoot v v' number f x k sent)
      → (step.closes.session.joiner ≡ b → ⊥) → ClosesRootOf v v' b
  last_keeps x k b step other y m o is top joiner none = elim (step.others y m) [
    | inl here ↦
        let there : v.session x k ≡ Some o = ap (λ z. v.session z k) (sym here.0) ∙ ap (v.session y) (sym here.1) ∙ is in
        let one = step.closes.was in
        let same : o ≡ step.closes.session = cc in
        other (ap (λ (c : OpenSession). c.joiner) (sym same) ∙ joiner)
    | inr same ↦ gone v y m o is (sym same ∙ none)
  ]

  pub last_opens : (x : List ℕ) (k : ℕ) (y : List ℕ) (m : ℕ) (o : OpenSession) → ClosesRoot v v' number f x k sent
      → IsOpen v' y m o → v.session y m ≡ None → ⊥
  last_opens x k y m o step is none = elim (step.others y m) [
    | inl here ↦ same_there v v' y x m k step.closes.session here step.closes.was none
    | inr same ↦ gone v' y m o is (same ∙ none)
  ]

  -- no root session of its joiner is left
  pub last_rootless : (x : List ℕ) (k : ℕ) → (step : ClosesRoot v v' number f x k sent) → AreExact v
      → IsRootless v' step.closes.session.joiner
  last_rootless x k step exact = record {
    none = λ y m o is joiner top. elim (step.others y m) [
      | inl here ↦
          let closed = step.closes.gone in
          let there : v'.session y m ≡ None = rw (here.0, here.1) closed in
          gone v' y m o is there
      | inr same ↦
          let was : v.session y m ≡ Some o = sym same ∙ is in
          let place = exact.roots y x m k o step.closes.session was step.closes.was top step.top joiner in
          let closed = step.closes.gone in
          let there : v'.session y m ≡ None = rw (place.0, place.1) closed in
          gone v' y m o is there
    ];
  }
