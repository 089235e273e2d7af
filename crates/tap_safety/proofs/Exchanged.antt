-- A frame that is taken goes for good, and what is sent comes with new numbers.
-- Cited above: exchanged
use Rattle.std.proofs.Common.{◌≡◌, inl, inr, ℕ, ◌+◌, ◌<◌, List, [], ◌∷◌, ◌++◌, ◌⊎◌, length, arith, refl}
use Rattle.tap_wire.specs.declared.frame.Frame.{Frame}
use Rattle.tap_safety.specs.System.{System, AmongFrames}
use Rattle.tap_safety.specs.Exchanges.{AreNumbered, Ascend, IsTaken, numbered_from}
use Rattle.tap_safety.specs.SessionSteps.{Exchanges}
use Rattle.tap_safety.proofs.Moved.{ascend_from, ascend_numbered, ascend_one, ascend_under, numbers_taken}
use Rattle.tap_safety.proofs.UnderWay.{among_either, among_out, among_right, among_there, among_was}

-- before a frame stand lesser numbers, and after it greater ones
pub ascend_before : (low : ℕ) (front : List (ℕ × Frame)) (f : ℕ × Frame) (back : List (ℕ × Frame)) (high m : ℕ) (g : Frame)
    → Ascend low (front ++ f ∷ back) high → AmongFrames m g front → m < f.0
ascend_before low [] f back high m g ascend among = absurd among
ascend_before low (h ∷ hs) f back high m g (least, later) (inl is) =
    let place = is.0 in
    let more = ascend_from (h.0 + 1) (hs ++ f ∷ back) high f.0 f.1 later (among_right f.0 f.1 hs (f ∷ back) (inl (refl, refl))) in
    omega arith
ascend_before low (h ∷ hs) f back high m g (least, later) (inr among) = ascend_before (h.0 + 1) hs f back high m g later among

pub ascend_after : (low : ℕ) (front : List (ℕ × Frame)) (f : ℕ × Frame) (back : List (ℕ × Frame)) (high m : ℕ) (g : Frame)
    → Ascend low (front ++ f ∷ back) high → AmongFrames m g back → f.0 < m
ascend_after low [] f back high m g (least, later) among = let more = ascend_from (f.0 + 1) back high m g later among in omega arith
ascend_after low (h ∷ hs) f back high m g (least, later) among = ascend_after (h.0 + 1) hs f back high m g later among

module _ (s s' : System) (number : ℕ) (frame : Frame) (sent : List Frame) (taken : IsTaken s s' number frame sent)
    (are : AreNumbered s) where
  abbrev new : List (ℕ × Frame)
  new = numbered_from s.next sent

  was_so : Ascend 0 (taken.front ++ (number, frame) ∷ taken.back) s.next
  was_so = rw taken.before at are.numbers

  gone : (g : Frame) → AmongFrames number g s'.frames → ⊥
  gone g among =
      let there : AmongFrames number g (taken.front ++ (taken.back ++ new)) = rw taken.after at among in
      elim (among_either number g taken.front (taken.back ++ new) there) [
        | inl front ↦
            let less = ascend_before 0 taken.front (number, frame) taken.back s.next number g was_so front in absurd (omega arith)
        | inr rest ↦
            elim (among_either number g taken.back new rest) [
              | inl back ↦
                  let more = ascend_after 0 taken.front (number, frame) taken.back s.next number g was_so back in absurd (omega arith)
              | inr comes ↦
                  let from = ascend_from s.next new (s.next + length sent) number g (ascend_numbered s.next sent) comes in
                  let under = ascend_under 0 s.frames s.next number frame are.numbers
                  (rw taken.before (among_there number frame taken.front taken.back)) in
                  absurd (omega arith)
            ]
      ]

  still : (m : ℕ) (g : Frame) → AmongFrames m g s.frames → (m ≡ number) ⊎ AmongFrames m g s'.frames
  still m g among =
      elim (among_out m number g frame taken.front taken.back new (rw taken.before at among)) [
        | inl on ↦ inr (rw taken.after on)
        | inr is ↦ inl is.0
      ]

  was : (m : ℕ) (g : Frame) → AmongFrames m g s'.frames → AmongFrames m g s.frames ⊎ AmongFrames m g new
  was m g among =
      elim (among_was m number g frame taken.front taken.back new (rw taken.after at among)) [
        | inl old ↦ inl (rw taken.before old)
        | inr comes ↦ inr comes
      ]

  pub exchanged : Exchanges s s' number frame new
  exchanged = record {
    taken = rw taken.before (among_there number frame taken.front taken.back);
    gone = gone;
    still = still;
    was = was;
    sends = λ m g among. rw taken.after (among_right m g taken.front (taken.back ++ new) (among_right m g taken.back new among));
    was_one = λ m g other one two. ascend_one 0 s.frames s.next m g other are.numbers one two;
    is_one = λ m g other one two.
        ascend_one 0 s'.frames s'.next m g other (numbers_taken s s' number frame sent taken are).numbers one two;
  }
