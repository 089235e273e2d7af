-- Whose the sessions are, and that each join has one end, once a root session is opened.
use Rattle.std.proofs.Common.{◌≡◌, inl, inr, ℕ, List, ◌⊎◌, None, Some, refl, sym, ap, ◌∙◌}
use Rattle.tap_wire.specs.declared.frame.Body.TheVariants.{Done}
use Rattle.tap_wire.specs.declared.frame.Frame.{Frame}
use Rattle.tap_safety.specs.Remembered.{OpenSession}
use Rattle.tap_safety.specs.System.{System, AmongFrames, IsJoiner, IsUnderWay}
use Rattle.tap_safety.specs.Sessions.{AreExact, IsOpen, IsRootless}
use Rattle.tap_safety.specs.SessionSteps.{OpensRoot}
use Rattle.tap_safety.specs.Joins.{
  AreAbout,
  AreOfJoiners,
  EndsOnce,
  HasNoDone,
  HasOneDone,
  HasRoot,
  JoinerIsNew,
  NoDoneAmong,
}
use Rattle.tap_safety.proofs.JoinSteps.{done_was, old_done}
use Rattle.tap_safety.proofs.JoinsKept.{of_joiners_kept}
use Rattle.tap_safety.proofs.SessionsKept.{is_root, opens_root_turns, root_place}

module _ (s s' : System) (number : ℕ) (f : Frame) (x : List ℕ) (l : ℕ) (sent : List (ℕ × Frame))
    (step : OpensRoot s s' number f x l sent) (sound : AreExact s) (new : JoinerIsNew s s' x step.root.joiner)
    (no_done : NoDoneAmong sent) (apart : f.body ≡ Done → ⊥) where
  abbrev of_whom : List ℕ
  of_whom = step.root.joiner

  -- a session where none was is the root
  root_at : (y : List ℕ) (m : ℕ) (o : OpenSession) → IsOpen s' y m o → s.session y m ≡ None → (y ≡ x) × (o ≡ step.root)
  root_at y m o is none =
      let here = root_place s s' number f x l sent step sound y m o is none in
      (here.0, is_root s s' number f x l sent step sound y m o here is)

  pub root_joiners : AreAbout s' sent → AreOfJoiners s → AreOfJoiners s'
  root_joiners about_them of =
      of_joiners_kept s s' sent (opens_root_turns s s' number f x l sent step sound) sound of new.on new.surrogates new_joiner new_root
      about_them (old_done s s' number f sent step.frames no_done)
    where
      new_joiner : (y : List ℕ) (m : ℕ) (o : OpenSession) → IsOpen s' y m o → s.session y m ≡ None → IsJoiner s' o.joiner
      new_joiner y m o is none =
          let at = root_at y m o is none in
          let joiner : o.joiner ≡ of_whom = ap (λ session. session.joiner) at.1 in
          rw joiner new.new

      new_root : (y : List ℕ) (m : ℕ) (o : OpenSession) → IsOpen s' y m o → s.session y m ≡ None → o.parent ≡ None
          → (s'.surrogate o.joiner ≡ Some y) × (o.depth ≡ 0)
      new_root y m o is none top =
          let at = root_at y m o is none in
          let joiner : o.joiner ≡ of_whom = ap (λ session. session.joiner) at.1 in
          let depth : o.depth ≡ step.root.depth = ap (λ session. session.depth) at.1 in
          (rw (joiner, at.0) new.seated, depth ∙ step.deep)

  -- Dones are as before
  dones_on : (w b : List ℕ) (m : ℕ) → AmongFrames m (record { from = w; to = b; body = Done }) s.frames
      → AmongFrames m (record { from = w; to = b; body = Done }) s'.frames
  dones_on w b m among =
      elim (step.frames.still m (record { from = w; to = b; body = Done }) among) [
        | inr still ↦ still
        | inl it ↦
            let there : AmongFrames number (record { from = w; to = b; body = Done }) s.frames = rw (← it) among in
            let same : f ≡ record { from = w; to = b; body = Done } =
            step.frames.was_one number f (record { from = w; to = b; body = Done }) step.frames.taken there in
            absurd (apart (ap (λ f. f.body) same))
      ]

  dones_were : (w b : List ℕ) (m : ℕ) → AmongFrames m (record { from = w; to = b; body = Done }) s'.frames
      → AmongFrames m (record { from = w; to = b; body = Done }) s.frames
  dones_were = done_was s s' number f sent step.frames no_done

  -- another joiner has what it had
  root_on : (b : List ℕ) → HasRoot s b → HasRoot s' b
  root_on b root =
      elim (step.others root.at root.number) [
        | inr same ↦
            record { at = root.at; number = root.number; session = root.session; is = same ∙ root.is; joiner = root.joiner; top = root.top }
        | inl here ↦
            let none : s.session root.at root.number ≡ None = rw (here.0, here.1) step.none in
            let is = root.is in
            let no : None ≡ Some root.session = sym none ∙ is in
            cc
      ]

  rootless_on : (b : List ℕ) → (b ≡ of_whom → ⊥) → IsRootless s b → IsRootless s' b
  rootless_on b other rootless = record {
    none = λ y m o is joiner top.
        elim (step.others y m) [
          | inr same ↦ rootless.none y m o (sym same ∙ is) joiner top
          | inl here ↦
              let root = is_root s s' number f x l sent step sound y m o here is in
              other (sym joiner ∙ ap (λ session. session.joiner) root)
        ];
  }

  ends_on : (b : List ℕ) → (b ≡ of_whom → ⊥) → (HasRoot s b × HasNoDone s b) ⊎ (IsRootless s b × HasOneDone s b)
      → (HasRoot s' b × HasNoDone s' b) ⊎ (IsRootless s' b × HasOneDone s' b)
  ends_on b other (inl root) = inl (
    root_on b root.0,
    record {
      none = λ w way. root.1.none w (record { number = way.number; among = dones_were w b way.number way.among });
    },
  )
  ends_on b other (inr ended) = inr (
    rootless_on b other ended.0,
    record {
      from = ended.1.from;
      number = ended.1.number;
      among = dones_on ended.1.from b ended.1.number ended.1.among;
      only = λ w m among. ended.1.only w m (dones_were w b m among);
    },
  )

  -- the new one has its root, and no Done
  mine : AreOfJoiners s → HasRoot s' of_whom × HasNoDone s' of_whom
  mine of = (
    record { at = x; number = l; session = step.root; is = step.is; joiner = refl; top = step.top },
    record {
      none = λ w way.
          let old : IsUnderWay s w of_whom Done =
          record { number = way.number; among = dones_were w of_whom way.number way.among } in
          new.fresh (of.dones w of_whom old);
    },
  )

  pub root_ends : AreOfJoiners s → EndsOnce s → EndsOnce s'
  root_ends of once = record {
    ends = λ b joiner.
        elim (new.was b joiner) [
          | inl was ↦ ends_on b (λ same. new.fresh (rw same at was)) (once.ends b was)
          | inr same ↦ rw same (inl (mine of))
        ];
  }
