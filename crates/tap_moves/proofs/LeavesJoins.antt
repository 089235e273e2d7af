-- A step that leaves the sessions alone keeps whose they are, and the one end of each join.
-- Cited above: joins_others_law
use Rattle.std.proofs.Common.{◌≡◌, ℕ, List, Some, ap, sym, ◌∙◌, inl, inr}
use Rattle.tap_wire.specs.declared.frame.Body.TheVariants.{Done}
use Rattle.tap_wire.specs.declared.frame.Frame.{Frame}
use Rattle.tap_safety.specs.Joins.{AreOfJoiners, EndsOnce, HasNoDone, HasOneDone, HasRoot, JoinersStay, NoDoneAmong, about}
use Rattle.tap_safety.specs.Remembered.{OpenSession}
use Rattle.tap_safety.specs.Sessions.{AreExact, Belongs, IsOpen, IsRootless}
use Rattle.tap_safety.specs.SessionSteps.{Exchanges, LeavesSessions}
use Rattle.tap_safety.specs.System.{System, AmongFrames, IsJoiner}
use Rattle.tap_safety.proofs.Chains.{no_session}
use Rattle.tap_safety.proofs.JoinSteps.{done_was}
use Rattle.tap_moves.specs.JoinMoves.{DonesStay, JoinerEnds, JoinsKeptByDone, JoinsKeptByOthers}

module _ (s s' : System) (leaves : LeavesSessions s s') where
  -- the open sessions are those of before
  was_open : (x : List ℕ) (k : ℕ) (session : OpenSession) → IsOpen s' x k session → IsOpen s x k session
  was_open x k session is = sym (leaves.sessions x k) ∙ is

  stays_open : (x : List ℕ) (k : ℕ) (session : OpenSession) → IsOpen s x k session → IsOpen s' x k session
  stays_open x k session is = leaves.sessions x k ∙ is

  root_on : (b : List ℕ) → HasRoot s b → HasRoot s' b
  root_on b root = record {
    at = root.at;
    number = root.number;
    session = root.session;
    is = stays_open root.at root.number root.session root.is;
    joiner = root.joiner;
    top = root.top;
  }

  rootless_on : (b : List ℕ) → IsRootless s b → IsRootless s' b
  rootless_on b rootless =
      record { none = λ x k session is joiner top. rootless.none x k session (was_open x k session is) joiner top }

  frames_on : AreOfJoiners s → (m : ℕ) (f : Frame) (x : List ℕ) (k : ℕ) (session : OpenSession) (b : List ℕ)
      → AmongFrames m f s'.frames → Belongs f x k → IsOpen s' x k session → about f ≡ Some b → session.joiner ≡ b
  frames_on of m f x k session b among belongs is of_b =
      of.frames m f x k session b (leaves.was m f x k among belongs) belongs (was_open x k session is) of_b

  -- ---- the joiners and the Dones stay

  module _ (stay : JoinersStay s s') (dones : DonesStay s s') where
    others_joiners : AreOfJoiners s → AreOfJoiners s'
    others_joiners of = record {
      opened = λ x k session is. stay.on session.joiner (of.opened x k session (was_open x k session is));
      root = λ x k session is top.
          let old = of.root x k session (was_open x k session is) top in
          (stay.surrogates session.joiner (of.opened x k session (was_open x k session is)) ∙ old.0, old.1);
      frames = frames_on of;
      dones = λ w b way. stay.on b (of.dones w b (record { number = way.number; among = dones.was w b way.number way.among }));
    }

    no_done_on : (b : List ℕ) → HasNoDone s b → HasNoDone s' b
    no_done_on b none =
        record { none = λ w way. none.none w (record { number = way.number; among = dones.was w b way.number way.among }) }

    one_done_on : (b : List ℕ) → HasOneDone s b → HasOneDone s' b
    one_done_on b one = record {
      from = one.from;
      number = one.number;
      among = dones.on one.from b one.number one.among;
      only = λ w m among. one.only w m (dones.was w b m among);
    }

    others_ends : EndsOnce s → EndsOnce s'
    others_ends once = record {
      ends = λ b joiner.
          elim (once.ends b (stay.was b joiner)) [
            | inl root ↦ inl (root_on b root.0, no_done_on b root.1)
            | inr done ↦ inr (rootless_on b done.0, one_done_on b done.1)
          ];
    }

  -- ---- a Done is taken

  module _ (number : ℕ) (f : Frame) (sent : List (ℕ × Frame)) (swap : Exchanges s s' number f sent) (done : f.body ≡ Done)
      (no_done : NoDoneAmong sent) (ends : JoinerEnds s s' f.to) (exact : AreExact s) (of : AreOfJoiners s) (once : EndsOnce s) where
    the_done : AmongFrames number (record { from = f.from; to = f.to; body = Done }) s.frames
    the_done = let there = swap.taken in rw done at there

    -- its joiner has no session
    ended : (x : List ℕ) (k : ℕ) (session : OpenSession) → IsOpen s x k session → session.joiner ≡ f.to → ⊥
    ended x k session is joiner =
        elim (once.ends f.to (of.dones f.from f.to (record { number = number; among = the_done }))) [
          | inl root ↦ root.1.none f.from (record { number = number; among = the_done })
          | inr last ↦ no_session s f.to exact last.0 x k session is joiner
        ]

    -- so each session that is open is of a joiner still
    of_others : (x : List ℕ) (k : ℕ) (session : OpenSession) → IsOpen s' x k session → IsJoiner s' session.joiner
    of_others x k session is =
        let old = was_open x k session is in
        elim (ends.on session.joiner (of.opened x k session old)) [
          | inl same ↦ absurd (ended x k session old same)
          | inr joiner ↦ joiner
        ]

    -- a Done that is left was under way
    left_was : (w b : List ℕ) (m : ℕ) → AmongFrames m (record { from = w; to = b; body = Done }) s'.frames
        → AmongFrames m (record { from = w; to = b; body = Done }) s.frames
    left_was = done_was s s' number f sent swap no_done

    -- and goes to another joiner, since that one had no other
    left_other : (w b : List ℕ) (m : ℕ) → AmongFrames m (record { from = w; to = b; body = Done }) s'.frames → b ≡ f.to → ⊥
    left_other w b m among same =
        let mine : AmongFrames m (record { from = w; to = f.to; body = Done }) s'.frames = rw (← same) among in
        elim (once.ends f.to (of.dones f.from f.to (record { number = number; among = the_done }))) [
          | inl root ↦ root.1.none f.from (record { number = number; among = the_done })
          | inr last ↦
              let one = last.1.only w m (left_was w f.to m mine) in
              let other = last.1.only f.from number the_done in
              let it : m ≡ number = one ∙ sym other in
              swap.gone (record { from = w; to = f.to; body = Done }) (rw (← it) mine)
        ]

    -- those of other joiners stay
    left_on : (w b : List ℕ) (m : ℕ) → (b ≡ f.to → ⊥) → AmongFrames m (record { from = w; to = b; body = Done }) s.frames
        → AmongFrames m (record { from = w; to = b; body = Done }) s'.frames
    left_on w b m other among =
        elim (swap.still m (record { from = w; to = b; body = Done }) among) [
          | inr still ↦ still
          | inl it ↦
              let there : AmongFrames number (record { from = w; to = b; body = Done }) s.frames = rw (← it) among in
              let same = swap.was_one number (record { from = w; to = b; body = Done }) f there swap.taken in
              absurd (other (ap (λ (g : Frame). g.to) same))
        ]

    done_joiners : AreOfJoiners s'
    done_joiners = record {
      opened = of_others;
      root = λ x k session is top.
          let old = of.root x k session (was_open x k session is) top in
          (ends.surrogates session.joiner (of.opened x k session (was_open x k session is)) ∙ old.0, old.1);
      frames = frames_on of;
      dones = λ w b way.
          let old = of.dones w b (record { number = way.number; among = left_was w b way.number way.among }) in
          elim (ends.on b old) [
            | inl same ↦ absurd (left_other w b way.number way.among same)
            | inr joiner ↦ joiner
          ];
    }

    done_ends : EndsOnce s'
    done_ends = record {
      ends = λ b joiner.
          let before = ends.was b joiner in
          elim (once.ends b before.0) [
            | inl root ↦ inl (
              root_on b root.0,
              record {
                none = λ w way. root.1.none w (record { number = way.number; among = left_was w b way.number way.among });
              },
            )
            | inr last ↦ inr (
              rootless_on b last.0,
              record {
                from = last.1.from;
                number = last.1.number;
                among = left_on last.1.from b last.1.number before.1 last.1.among;
                only = λ w m among. last.1.only w m (left_was w b m among);
              },
            )
          ];
    }

pub joins_others_law : JoinsKeptByOthers
joins_others_law s s' leaves stay dones = (others_joiners s s' leaves stay dones, others_ends s s' leaves stay dones)

pub joins_done_law : JoinsKeptByDone
joins_done_law s s' number f sent leaves swap done no_done ends exact of once = (
  done_joiners s s' leaves number f sent swap done no_done ends exact of once,
  done_ends s s' leaves number f sent swap done no_done ends exact of once,
)
