-- Whose the sessions are, and that each join has one end, by the kinds of steps.
-- Cited above: done_was
use Rattle.std.proofs.Common.{◌≡◌, inl, inr, ℕ, List, [], ◌⊎◌, Option, None, Some, refl, sym, ap, ◌∙◌}
use Rattle.std.proofs.lemmas.Bool.{cases_Bool, true≢false}
use Rattle.std.proofs.lemmas.Slice.Eq.{bytes_eq-Decides}
use Rattle.std.specs.Prelude.{bytes_eq}
use Rattle.tap_wire.specs.declared.frame.Body.TheVariants.{Done}
use Rattle.tap_wire.specs.declared.frame.Frame.{Frame}
use Rattle.tap_safety.specs.Remembered.{OpenSession}
use Rattle.tap_safety.specs.System.{System, AmongFrames, IsJoiner, IsUnderWay}
use Rattle.tap_safety.specs.Sessions.{AreExact, Belongs, IsOpen, IsRootless}
use Rattle.tap_safety.specs.SessionSteps.{ClosesChild, ClosesRoot, Exchanges, HandsOn, LeavesSessions, OpensChild}
use Rattle.tap_safety.specs.Joins.{AreAbout, AreOfJoiners, EndsOnce, HasNoDone, HasOneDone, HasRoot, JoinersStay, NoDoneAmong, SendsDone}
use Rattle.tap_safety.proofs.JoinsKept.{ends_kept, of_joiners_kept, one_session}
use Rattle.tap_safety.proofs.SessionsKept.{
  closed_origin,
  closes_child_turns,
  closes_root_turns,
  hands_on_origin,
  hands_on_turns,
  is_new,
  last_origin,
  leaves_turns,
  new_place,
  opens_child_turns,
}
use Rattle.tap_safety.specs.Turns.{WasOpen}

-- a Done belongs to no session
done_apart : (w b x : List ℕ) (k : ℕ) → Belongs (record { from = w; to = b; body = Done }) x k → ⊥
done_apart w b x k belongs = let no : ◌≡◌ {A = Option (List ℕ × ℕ)} None (Some (x, k)) = belongs in cc

-- Dones stay if the frame that is taken belongs to a session
module _ (s s' : System) (number : ℕ) (f : Frame) (sent : List (ℕ × Frame)) (ex : Exchanges s s' number f sent) (x : List ℕ) (k : ℕ)
    (belongs : Belongs f x k) where
  done_on : (w b : List ℕ) (m : ℕ) → AmongFrames m (record { from = w; to = b; body = Done }) s.frames
      → AmongFrames m (record { from = w; to = b; body = Done }) s'.frames
  done_on w b m among =
      elim (ex.still m (record { from = w; to = b; body = Done }) among) [
        | inr still ↦ still
        | inl it ↦
            let there : AmongFrames number (record { from = w; to = b; body = Done }) s.frames = rw (← it) among in
            let same : f ≡ record { from = w; to = b; body = Done } =
            ex.was_one number f (record { from = w; to = b; body = Done }) ex.taken there in
            absurd (done_apart w b x k (rw same at belongs))
      ]

module _ (s s' : System) (number : ℕ) (f : Frame) (sent : List (ℕ × Frame)) (ex : Exchanges s s' number f sent)
    (none : NoDoneAmong sent) where
  pub done_was : (w b : List ℕ) (m : ℕ) → AmongFrames m (record { from = w; to = b; body = Done }) s'.frames
      → AmongFrames m (record { from = w; to = b; body = Done }) s.frames
  done_was w b m among =
      elim (ex.was m (record { from = w; to = b; body = Done }) among) [ inl old ↦ old | inr new ↦ absurd (none m w b new) ]

  pub old_done : (w b : List ℕ) → IsUnderWay s' w b Done → IsUnderWay s w b Done ⊎ IsJoiner s' b
  old_done w b way = inl (record { number = way.number; among = done_was w b way.number way.among })

-- where a session was open, none is new
not_new_place : (s s' : System) (sent : List (ℕ × Frame)) (y : List ℕ) (m : ℕ) (o : OpenSession) → WasOpen s s' sent y m o
    → s.session y m ≡ None → ⊥
not_new_place s s' sent y m o was none = let there = was.is in let no : Some was.old ≡ None = sym there ∙ none in cc

-- a session that is open isn't gone
still_open : (s' : System) (y w : List ℕ) (m k : ℕ) {c : OpenSession} → y ≡ w → m ≡ k → IsOpen s' w k c → s'.session y m ≡ None → ⊥
still_open s' y w m k {c = c} node number is gone =
    let there : s'.session y m ≡ Some c = rw (node, number) is in let no : None ≡ Some c = sym gone ∙ there in cc

-- ---- a frame is answered at once

module _ (s s' : System) (number : ℕ) (f : Frame) (w : List ℕ) (k : ℕ) (sent : List (ℕ × Frame))
    (step : HandsOn s s' number f w k sent) (sound : AreExact s) (stay : JoinersStay s s') (no_done : NoDoneAmong sent) where
  not_new : (y : List ℕ) (m : ℕ) (o : OpenSession) → IsOpen s' y m o → s.session y m ≡ None → ⊥
  not_new y m o is none = not_new_place s s' sent y m o (hands_on_origin s s' number f w k sent step sound y m o is) none

  pub hands_on_joiners : AreAbout s' sent → AreOfJoiners s → AreOfJoiners s'
  hands_on_joiners about_them of =
      of_joiners_kept s s' sent (hands_on_turns s s' number f w k sent step sound) sound of stay.on stay.surrogates
      (λ y m o is none. absurd (not_new y m o is none)) (λ y m o is none top. absurd (not_new y m o is none)) about_them
      (old_done s s' number f sent step.frames no_done)

  pub hands_on_ends : EndsOnce s → EndsOnce s'
  hands_on_ends =
      ends_kept s s' sent (hands_on_turns s s' number f w k sent step sound) sound root_stays
      (λ y m o is none top. not_new y m o is none) (done_on s s' number f sent step.frames w k step.belongs)
      (done_was s s' number f sent step.frames no_done) stay.was
    where
      root_stays : (y : List ℕ) (m : ℕ) (o : OpenSession) → IsOpen s y m o → o.parent ≡ None → s'.session y m ≡ None → ⊥
      root_stays y m o is top gone =
          elim (step.others y m) [
            | inl here ↦ still_open s' y w m k here.0 here.1 step.is gone
            | inr same ↦ let no : None ≡ Some o = sym gone ∙ same ∙ is in cc
          ]

-- ---- a session is opened for it

module _ (s s' : System) (number : ℕ) (f : Frame) (w : List ℕ) (k : ℕ) (x : List ℕ) (l : ℕ) (sent : List (ℕ × Frame))
    (step : OpensChild s s' number f w k x l sent) (sound : AreExact s) (stay : JoinersStay s s') (no_done : NoDoneAmong sent) where
  -- the new session is of the joiner of its parent, and is no root
  new_joiner : AreOfJoiners s → (y : List ℕ) (m : ℕ) (o : OpenSession) → IsOpen s' y m o → s.session y m ≡ None → IsJoiner s' o.joiner
  new_joiner of y m o is none =
      let here = new_place s s' number f w k x l sent step sound y m o is none in
      let same = is_new s s' number f w k x l sent step sound y m o here is in
      let joiner : o.joiner ≡ step.before.joiner = ap (λ session. session.joiner) same in
      rw joiner (stay.on step.before.joiner (of.opened w k step.before step.parent_was))

  new_below : (y : List ℕ) (m : ℕ) (o : OpenSession) → IsOpen s' y m o → s.session y m ≡ None → o.parent ≡ None → ⊥
  new_below y m o is none top =
      let here = new_place s s' number f w k x l sent step sound y m o is none in
      let same = is_new s s' number f w k x l sent step sound y m o here is in
      let parent : o.parent ≡ Some (w, k) = ap (λ session. session.parent) same in
      let no : ◌≡◌ {A = Option (List ℕ × ℕ)} None (Some (w, k)) = sym top ∙ parent in
      cc

  pub opens_child_joiners : AreAbout s' sent → AreOfJoiners s → AreOfJoiners s'
  opens_child_joiners about_them of =
      of_joiners_kept s s' sent (opens_child_turns s s' number f w k x l sent step sound) sound of stay.on stay.surrogates
      (new_joiner of) (λ y m o is none top. absurd (new_below y m o is none top)) about_them
      (old_done s s' number f sent step.frames no_done)

  pub opens_child_ends : EndsOnce s → EndsOnce s'
  opens_child_ends =
      ends_kept s s' sent (opens_child_turns s s' number f w k x l sent step sound) sound root_stays new_below
      (done_on s s' number f sent step.frames w k step.belongs) (done_was s s' number f sent step.frames no_done) stay.was
    where
      root_stays : (y : List ℕ) (m : ℕ) (o : OpenSession) → IsOpen s y m o → o.parent ≡ None → s'.session y m ≡ None → ⊥
      root_stays y m o is top gone =
          elim (step.others y m) [
            | inl here ↦ still_open s' y w m k here.0 here.1 step.parent_is gone
            | inr more ↦
                elim more [
                  | inl here ↦ still_open s' y x m l here.0 here.1 step.child gone
                  | inr same ↦ let no : None ≡ Some o = sym gone ∙ same ∙ is in cc
                ]
          ]

-- ---- a session that isn't the root is closed

module _ (s s' : System) (number : ℕ) (f : Frame) (x : List ℕ) (k : ℕ) (w : List ℕ) (m : ℕ) (sent : List (ℕ × Frame))
    (step : ClosesChild s s' number f x k w m sent) (sound : AreExact s) (stay : JoinersStay s s') (no_done : NoDoneAmong sent) where
  closed_not_new : (y : List ℕ) (n : ℕ) (o : OpenSession) → IsOpen s' y n o → s.session y n ≡ None → ⊥
  closed_not_new y n o is none =
      not_new_place s s' sent y n o (closed_origin s s' number f x k w m sent step sound y n o is) none

  pub closes_child_joiners : AreAbout s' sent → AreOfJoiners s → AreOfJoiners s'
  closes_child_joiners about_them of =
      of_joiners_kept s s' sent (closes_child_turns s s' number f x k w m sent step sound) sound of stay.on stay.surrogates
      (λ y n o is none. absurd (closed_not_new y n o is none)) (λ y n o is none top. absurd (closed_not_new y n o is none)) about_them
      (old_done s s' number f sent step.frames no_done)

  pub closes_child_ends : EndsOnce s → EndsOnce s'
  closes_child_ends =
      ends_kept s s' sent (closes_child_turns s s' number f x k w m sent step sound) sound root_stays
      (λ y n o is none top. closed_not_new y n o is none) (done_on s s' number f sent step.frames x k step.belongs)
      (done_was s s' number f sent step.frames no_done) stay.was
    where
      root_stays : (y : List ℕ) (n : ℕ) (o : OpenSession) → IsOpen s y n o → o.parent ≡ None → s'.session y n ≡ None → ⊥
      root_stays y n o is top gone =
          elim (step.others y n) [
            | inl here ↦
                let was : IsOpen s y n step.closes.session = rw (here.0, here.1) step.closes.was in
                let same = one_session s y n o step.closes.session is was in
                let above : o.parent ≡ Some (w, m) = ap (λ session. session.parent) same ∙ step.above in
                let no : ◌≡◌ {A = Option (List ℕ × ℕ)} None (Some (w, m)) = sym top ∙ above in
                cc
            | inr more ↦
                elim more [
                  | inl here ↦ still_open s' y w n m here.0 here.1 step.parent_is gone
                  | inr same ↦ let no : None ≡ Some o = sym gone ∙ same ∙ is in cc
                ]
          ]

-- ---- the root session is closed, and the joiner's Done is sent

module _ (s s' : System) (number : ℕ) (f : Frame) (x : List ℕ) (k : ℕ) (sent : List (ℕ × Frame))
    (step : ClosesRoot s s' number f x k sent) (sound : AreExact s) (stay : JoinersStay s s')
    (done : SendsDone sent step.closes.session.joiner) where
  abbrev of_whom : List ℕ
  of_whom = step.closes.session.joiner

  last_not_new : (y : List ℕ) (n : ℕ) (o : OpenSession) → IsOpen s' y n o → s.session y n ≡ None → ⊥
  last_not_new y n o is none = not_new_place s s' sent y n o (last_origin s s' number f x k sent step sound y n o is) none

  -- a Done was under way, or is the new one
  done_new : (w b : List ℕ) (n : ℕ) → AmongFrames n (record { from = w; to = b; body = Done }) s'.frames
      → AmongFrames n (record { from = w; to = b; body = Done }) s.frames ⊎ ((n ≡ done.number) × (b ≡ of_whom))
  done_new w b n among =
      elim (step.frames.was n (record { from = w; to = b; body = Done }) among) [
        | inl old ↦ inl old
        | inr new ↦ inr (done.only n w b new)
      ]

  pub closes_root_joiners : AreAbout s' sent → AreOfJoiners s → AreOfJoiners s'
  closes_root_joiners about_them of =
      of_joiners_kept s s' sent (closes_root_turns s s' number f x k sent step sound) sound of stay.on stay.surrogates
      (λ y n o is none. absurd (last_not_new y n o is none)) (λ y n o is none top. absurd (last_not_new y n o is none)) about_them
      (λ w b way.
      elim (done_new w b way.number way.among) [
        | inl old ↦ inl (record { number = way.number; among = old })
        | inr new ↦ inr (rw new.1 (stay.on of_whom (of.opened x k step.closes.session step.closes.was)))
      ])

  -- the joiner has no root any more
  rootless_now : IsRootless s' of_whom
  rootless_now = record {
    none = λ y n o is joiner top.
        let was = last_origin s s' number f x k sent step sound y n o is in
        let place = sound.roots y x n k was.old step.closes.session was.is step.closes.was (sym was.parent ∙ top) step.top
        (sym was.joiner ∙ joiner) in
        let gone : s'.session y n ≡ None = rw (place.0, place.1) step.closes.gone in
        let no : None ≡ Some o = sym gone ∙ is in
        cc;
  }

  one_done_now : HasNoDone s of_whom → HasOneDone s' of_whom
  one_done_now none = record {
    from = done.from;
    number = done.number;
    among = step.frames.sends done.number (record { from = done.from; to = of_whom; body = Done }) done.among;
    only = λ w n among.
        elim (done_new w of_whom n among) [
          | inl old ↦ absurd (none.none w (record { number = n; among = old }))
          | inr new ↦ new.0
        ];
  }

  -- other joiners have what they had
  root_on : (b : List ℕ) → (b ≡ of_whom → ⊥) → HasRoot s b → HasRoot s' b
  root_on b apart root =
      elim (step.others root.at root.number) [
        | inr same ↦
            record { at = root.at; number = root.number; session = root.session; is = same ∙ root.is; joiner = root.joiner; top = root.top }
        | inl here ↦
            let was : IsOpen s root.at root.number step.closes.session = rw (here.0, here.1) step.closes.was in
            let same = one_session s root.at root.number root.session step.closes.session root.is was in
            absurd (apart (sym root.joiner ∙ ap (λ session. session.joiner) same))
      ]

  rootless_on : (b : List ℕ) → IsRootless s b → IsRootless s' b
  rootless_on b rootless = record {
    none = λ y n o is joiner top.
        let was = last_origin s s' number f x k sent step sound y n o is in
        rootless.none y n was.old was.is (sym was.joiner ∙ joiner) (sym was.parent ∙ top);
  }

  other_ends : (b : List ℕ) → (b ≡ of_whom → ⊥) → (HasRoot s b × HasNoDone s b) ⊎ (IsRootless s b × HasOneDone s b)
      → (HasRoot s' b × HasNoDone s' b) ⊎ (IsRootless s' b × HasOneDone s' b)
  other_ends b apart (inl root) = inl (
    root_on b apart root.0,
    record {
      none = λ w way.
          elim (done_new w b way.number way.among) [
            | inl old ↦ root.1.none w (record { number = way.number; among = old })
            | inr new ↦ apart new.1
          ];
    },
  )
  other_ends b apart (inr ended) = inr (
    rootless_on b ended.0,
    record {
      from = ended.1.from;
      number = ended.1.number;
      among = done_on s s' number f sent step.frames x k step.belongs ended.1.from b ended.1.number ended.1.among;
      only = λ w n among.
          elim (done_new w b n among) [ inl old ↦ ended.1.only w n old | inr new ↦ absurd (apart new.1) ];
    },
  )

  -- the joiner had its root, and no Done
  no_done_yet : EndsOnce s → IsJoiner s of_whom → HasNoDone s of_whom
  no_done_yet once joiner =
      elim (once.ends of_whom joiner) [
        | inl root ↦ root.1
        | inr ended ↦ absurd (ended.0.none x k step.closes.session step.closes.was refl step.top)
      ]

  pub closes_root_ends : EndsOnce s → EndsOnce s'
  closes_root_ends once = record {
    ends = λ b joiner.
        let was = stay.was b joiner in
        elim (cases_Bool (bytes_eq b of_whom)) [
          | inl is ↦
              let same = (bytes_eq-Decides b of_whom).0 is in
              let mine : IsJoiner s of_whom = rw same at was in
              rw same (inr (rootless_now, one_done_now (no_done_yet once mine)))
          | inr not ↦
              other_ends b (λ same. true≢false (sym ((bytes_eq-Decides b of_whom).1 same) ∙ not)) (once.ends b was)
        ];
  }

-- ---- no session changes

module _ (s s' : System) (step : LeavesSessions s s') (sound : AreExact s) (stay : JoinersStay s s') where
  gone_new : (y : List ℕ) (m : ℕ) (o : OpenSession) → IsOpen s' y m o → s.session y m ≡ None → ⊥
  gone_new y m o is none = let no : Some o ≡ None = sym is ∙ step.sessions y m ∙ none in cc

  module _ (done_on : (w b : List ℕ) (m : ℕ) → AmongFrames m (record { from = w; to = b; body = Done }) s.frames
      → AmongFrames m (record { from = w; to = b; body = Done }) s'.frames)
      (done_was : (w b : List ℕ) (m : ℕ) → AmongFrames m (record { from = w; to = b; body = Done }) s'.frames
      → AmongFrames m (record { from = w; to = b; body = Done }) s.frames) where
    pub leaves_joiners : AreOfJoiners s → AreOfJoiners s'
    leaves_joiners of =
        of_joiners_kept s s' [] (leaves_turns s s' step) sound of stay.on stay.surrogates
        (λ y m o is none. absurd (gone_new y m o is none)) (λ y m o is none top. absurd (gone_new y m o is none))
        (λ m f y n o b among belongs is of_b. absurd among)
        (λ w b way. inl (record { number = way.number; among = done_was w b way.number way.among }))

    pub leaves_ends : EndsOnce s → EndsOnce s'
    leaves_ends =
        ends_kept s s' [] (leaves_turns s s' step) sound
        (λ y m o is top gone. let no : None ≡ Some o = sym gone ∙ step.sessions y m ∙ is in cc)
        (λ y m o is none top. gone_new y m o is none) done_on done_was stay.was
