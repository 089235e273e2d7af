-- Sessions are exact after a step, if each open one goes on or is closed, each was open or is new, and what is sent is awaited.
use Rattle.std.proofs.Common.{◌≡◌, inl, inr, ℕ, List, None, Some, arith, sym, ◌∙◌}
use Rattle.tap_wire.specs.declared.frame.Frame.{Frame}
use Rattle.tap_safety.specs.Remembered.{OpenSession}
use Rattle.tap_safety.specs.Remembered.Token.{Way}
use Rattle.tap_safety.specs.System.{System, AmongFrames}
use Rattle.tap_safety.specs.Sessions.{AreExact, Awaits, Belongs, HasFrame, HasParent, IsOpen}
use Rattle.tap_safety.specs.Turns.{Turns}

module _ (s s' : System) (sent : List (ℕ × Frame)) (t : Turns s s' sent) (sound : AreExact s) where
  frames : (m : ℕ) (f : Frame) (y : List ℕ) (n : ℕ) → AmongFrames m f s'.frames → Belongs f y n → Awaits s' y n (Way m)
  frames m f y n among belongs =
      elim (t.was m f y n among belongs) [
        | inr comes ↦ t.asks m f y n comes belongs
        | inl old ↦
            let awaited = sound.frames m f y n old belongs in
            elim (t.fate y n awaited.session awaited.is) [
              | inl on ↦ record { session = on.now; is = on.is; among = on.ways m f among belongs awaited.among }
              | inr closed ↦ absurd (closed.ways m f among awaited.among)
            ]
      ]

  ways : (y : List ℕ) (n m : ℕ) → Awaits s' y n (Way m) → HasFrame s'.frames m y n
  ways y n m awaited =
      elim (t.origin y n awaited.session awaited.is) [
        | inr new ↦
            let has = new.ways m awaited.among in
            record { frame = has.frame; among = t.sends m has.frame has.among; belongs = has.belongs }
        | inl was ↦
            elim (was.ways m awaited.among) [
              | inl has ↦ record { frame = has.frame; among = t.sends m has.frame has.among; belongs = has.belongs }
              | inr old ↦
                  let has = sound.ways y n m (record { session = was.old; is = was.is; among = old.0 }) in
                  record { frame = has.frame; among = old.1 has.frame has.among has.belongs; belongs = has.belongs }
            ]
      ]

  parents : (y : List ℕ) (m : ℕ) (o : OpenSession) (z : List ℕ) (n : ℕ) → IsOpen s' y m o → o.parent ≡ Some (z, n)
      → HasParent s' y m o z n
  parents y m o z n is parent =
      elim (t.origin y m o is) [
        | inr new ↦ new.above z n parent
        | inl was ↦
            let up = sound.parents y m was.old z n was.is (sym was.parent ∙ parent) in
            elim (t.fate z n up.parent up.is) [
              | inl on ↦
                  let one = was.depth in
                  let two = up.depth in
                  let three = on.depth in
                  record {
                    parent = on.now;
                    is = on.is;
                    among = on.children y m o is up.among;
                    joiner = was.joiner ∙ up.joiner ∙ sym on.joiner;
                    depth = omega arith;
                  }
              | inr closed ↦ absurd (closed.children y m up.among)
            ]
      ]

  roots : (y z : List ℕ) (m n : ℕ) (one two : OpenSession) → IsOpen s' y m one → IsOpen s' z n two → one.parent ≡ None
      → two.parent ≡ None → one.joiner ≡ two.joiner → (y ≡ z) × (m ≡ n)
  roots y z m n one two open_one open_two top also same =
      elim (t.origin y m one open_one) [
        | inr new ↦
            elim (t.origin z n two open_two) [
              | inr other ↦ t.one y z m n one two open_one open_two new.none other.none
              | inl was ↦
                  absurd ((new.root top).none z n was.old was.is (sym was.joiner ∙ sym same) (sym was.parent ∙ also))
            ]
        | inl was ↦
            elim (t.origin z n two open_two) [
              | inr new ↦ absurd ((new.root also).none y m was.old was.is (sym was.joiner ∙ same) (sym was.parent ∙ top))
              | inl other ↦
                  sound.roots y z m n was.old other.old was.is other.is (sym was.parent ∙ top) (sym other.parent ∙ also)
                  (sym was.joiner ∙ same ∙ other.joiner)
            ]
      ]

  pub turned_exact : AreExact s'
  turned_exact = record { frames = frames; ways = ways; parents = parents; roots = roots; numbers = t.is_one }
