-- Whose the sessions are, what they await, where they stand, and that each join has one end: what turns of sessions keep of it.
-- Cited above: one_session
use Rattle.std.proofs.Common.{◌≡◌, inl, inr, ℕ, List, ◌⊎◌, None, Some, sym, ap, ◌∙◌}
use Rattle.tap_wire.specs.declared.frame.Body.TheVariants.{Done}
use Rattle.tap_wire.specs.declared.frame.Frame.{Frame}
use Rattle.tap_safety.specs.Remembered.{OpenSession}
use Rattle.tap_safety.specs.System.{System, AmongFrames, IsJoiner, IsUnderWay}
use Rattle.tap_safety.specs.Sessions.{AreExact, Belongs, IsOpen, IsRootless}
use Rattle.tap_safety.specs.Joins.{AreOfJoiners, EndsOnce, HasNoDone, HasOneDone, HasRoot, about}
use Rattle.tap_safety.specs.Turns.{Turns}

-- an open session is one
pub one_session : (s : System) (y : List ℕ) (m : ℕ) (o c : OpenSession) → IsOpen s y m o → IsOpen s y m c → o ≡ c
one_session s y m o c one two = cc

module _ (s s' : System) (sent : List (ℕ × Frame)) (t : Turns s s' sent) (sound : AreExact s) where
  -- a frame that stays under way is about the joiner of its session still
  module _ (of : AreOfJoiners s) (joiners : (b : List ℕ) → IsJoiner s b → IsJoiner s' b)
      (surrogates : (b : List ℕ) → IsJoiner s b → s'.surrogate b ≡ s.surrogate b)
      (new_joiner : (y : List ℕ) (m : ℕ) (o : OpenSession) → IsOpen s' y m o → s.session y m ≡ None → IsJoiner s' o.joiner)
      (new_root : (y : List ℕ) (m : ℕ) (o : OpenSession) → IsOpen s' y m o → s.session y m ≡ None → o.parent ≡ None
      → (s'.surrogate o.joiner ≡ Some y) × (o.depth ≡ 0))
      (new_about : (m : ℕ) (f : Frame) (y : List ℕ) (n : ℕ) (o : OpenSession) (b : List ℕ) → AmongFrames m f sent → Belongs f y n
      → IsOpen s' y n o → about f ≡ Some b → o.joiner ≡ b)
      (new_done : (w b : List ℕ) → IsUnderWay s' w b Done → IsUnderWay s w b Done ⊎ IsJoiner s' b) where
    opened : (y : List ℕ) (m : ℕ) (o : OpenSession) → IsOpen s' y m o → IsJoiner s' o.joiner
    opened y m o is =
        elim (t.origin y m o is) [
          | inl was ↦ rw was.joiner (joiners was.old.joiner (of.opened y m was.old was.is))
          | inr new ↦ new_joiner y m o is new.none
        ]

    root : (y : List ℕ) (m : ℕ) (o : OpenSession) → IsOpen s' y m o → o.parent ≡ None
        → (s'.surrogate o.joiner ≡ Some y) × (o.depth ≡ 0)
    root y m o is top =
        elim (t.origin y m o is) [
          | inr new ↦ new_root y m o is new.none top
          | inl was ↦
              let old = of.root y m was.old was.is (sym was.parent ∙ top) in
              let same = surrogates was.old.joiner (of.opened y m was.old was.is) in
              (rw was.joiner (same ∙ old.0), was.depth ∙ old.1)
        ]

    frames : (m : ℕ) (f : Frame) (y : List ℕ) (n : ℕ) (o : OpenSession) (b : List ℕ) → AmongFrames m f s'.frames → Belongs f y n
        → IsOpen s' y n o → about f ≡ Some b → o.joiner ≡ b
    frames m f y n o b among belongs is of_b =
        elim (t.was m f y n among belongs) [
          | inr comes ↦ new_about m f y n o b comes belongs is of_b
          | inl old ↦
              let awaited = sound.frames m f y n old belongs in
              let whose = of.frames m f y n awaited.session b old belongs awaited.is of_b in
              elim (t.fate y n awaited.session awaited.is) [
                | inl on ↦
                    let same = one_session s' y n o on.now is on.is in
                    ap (λ session. session.joiner) same ∙ on.joiner ∙ whose
                | inr closed ↦ let no : Some o ≡ None = sym is ∙ closed.gone in cc
              ]
        ]

    pub of_joiners_kept : AreOfJoiners s'
    of_joiners_kept = record {
      opened = opened;
      root = root;
      frames = frames;
      dones = λ w b done. elim (new_done w b done) [ inl old ↦ joiners b (of.dones w b old) | inr joiner ↦ joiner ];
    }

  -- if no root is opened or closed, and no Done goes or comes, the ends stay
  module _ (roots_stay : (y : List ℕ) (m : ℕ) (o : OpenSession) → IsOpen s y m o → o.parent ≡ None → s'.session y m ≡ None → ⊥)
      (no_new_root : (y : List ℕ) (m : ℕ) (o : OpenSession) → IsOpen s' y m o → s.session y m ≡ None → o.parent ≡ None → ⊥)
      (done_on : (w b : List ℕ) (m : ℕ) → AmongFrames m (record { from = w; to = b; body = Done }) s.frames
      → AmongFrames m (record { from = w; to = b; body = Done }) s'.frames)
      (done_was : (w b : List ℕ) (m : ℕ) → AmongFrames m (record { from = w; to = b; body = Done }) s'.frames
      → AmongFrames m (record { from = w; to = b; body = Done }) s.frames)
      (joiners_was : (b : List ℕ) → IsJoiner s' b → IsJoiner s b) where
    has_root_on : (b : List ℕ) → HasRoot s b → HasRoot s' b
    has_root_on b root =
        elim (t.fate root.at root.number root.session root.is) [
          | inl on ↦ record {
            at = root.at;
            number = root.number;
            session = on.now;
            is = on.is;
            joiner = on.joiner ∙ root.joiner;
            top = on.parent ∙ root.top;
          }
          | inr closed ↦ absurd (roots_stay root.at root.number root.session root.is root.top closed.gone)
        ]

    rootless_on : (b : List ℕ) → IsRootless s b → IsRootless s' b
    rootless_on b rootless = record {
      none = λ y m o is joiner top.
          elim (t.origin y m o is) [
            | inl was ↦ rootless.none y m was.old was.is (sym was.joiner ∙ joiner) (sym was.parent ∙ top)
            | inr new ↦ no_new_root y m o is new.none top
          ];
    }

    no_done_on : (b : List ℕ) → HasNoDone s b → HasNoDone s' b
    no_done_on b none = record { none = λ w way. none.none w (record { number = way.number; among = done_was w b way.number way.among }) }

    one_done_on : (b : List ℕ) → HasOneDone s b → HasOneDone s' b
    one_done_on b one = record {
      from = one.from;
      number = one.number;
      among = done_on one.from b one.number one.among;
      only = λ w m among. one.only w m (done_was w b m among);
    }

    pub ends_kept : EndsOnce s → EndsOnce s'
    ends_kept once = record {
      ends = λ b joiner.
          elim (once.ends b (joiners_was b joiner)) [
            | inl root ↦ inl (has_root_on b root.0, no_done_on b root.1)
            | inr done ↦ inr (rootless_on b done.0, one_done_on b done.1)
          ];
    }
