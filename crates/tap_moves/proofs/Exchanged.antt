-- A frame that is taken goes, those that are sent come, and no two frames under way have one number.
-- Cited above: exchanges, in_either, in_first, sent_numbered
use Rattle.std.proofs.Common.{◌≡◌, inl, inr, ℕ, ◌+◌, List, [], ◌∷◌, ◌++◌, ◌⊎◌, length, arith, refl}
use Rattle.tap_wire.specs.declared.frame.Frame.{Frame}
use Rattle.tap_rule.specs.Sent.{IsAmong}
use Rattle.tap_safety.specs.System.{System, AmongFrames}
use Rattle.tap_safety.specs.SessionSteps.{Exchanges}
use Rattle.tap_safety.specs.Exchanges.{AreNumbered, Ascend, IsTaken, numbered_from}
use Rattle.tap_safety.proofs.Moved.{ascend_from, ascend_numbered, ascend_one, ascend_under, numbers_taken}

-- ---- frames in two lists

pub in_first : (m : ℕ) (g : Frame) (xs ys : List (ℕ × Frame)) → AmongFrames m g xs → AmongFrames m g (xs ++ ys)
in_first m g [] ys among = absurd among
in_first m g (x ∷ xs) ys (inl is) = inl is
in_first m g (x ∷ xs) ys (inr later) = inr (in_first m g xs ys later)

in_second : (m : ℕ) (g : Frame) (xs ys : List (ℕ × Frame)) → AmongFrames m g ys → AmongFrames m g (xs ++ ys)
in_second m g [] ys among = among
in_second m g (x ∷ xs) ys among = inr (in_second m g xs ys among)

pub in_either : (m : ℕ) (g : Frame) (xs ys : List (ℕ × Frame)) → AmongFrames m g (xs ++ ys) → AmongFrames m g xs ⊎ AmongFrames m g ys
in_either m g [] ys among = inr among
in_either m g (x ∷ xs) ys (inl is) = inl (inl is)
in_either m g (x ∷ xs) ys (inr later) =
    elim (in_either m g xs ys later) [ inl first ↦ inl (inr first) | inr second ↦ inr second ]

-- what has a number was sent
pub sent_numbered : (m : ℕ) (g : Frame) (next : ℕ) (sent : List Frame) → AmongFrames m g (numbered_from next sent) → IsAmong g sent
sent_numbered m g next [] among = absurd among
sent_numbered m g next (f ∷ fs) (inl is) = inl is.1
sent_numbered m g next (f ∷ fs) (inr later) = inr (sent_numbered m g (next + 1) fs later)

-- ---- numbers that ascend

-- the number of a frame isn't that of one before it
not_before : (low : ℕ) (front : List (ℕ × Frame)) (number : ℕ) (f : Frame) (back : List (ℕ × Frame)) (high : ℕ)
    → Ascend low (front ++ (number, f) ∷ back) high → (g : Frame) → AmongFrames number g front → ⊥
not_before low [] number f back high ascend g among = among
not_before low (h ∷ hs) number f back high (least, later) g (inl is) =
    let place = is.0 in
    let more = ascend_from (h.0 + 1) (hs ++ (number, f) ∷ back) high number f later
    (in_second number f hs ((number, f) ∷ back) (inl (refl, refl))) in
    omega arith
not_before low (h ∷ hs) number f back high (least, later) g (inr among) =
    not_before (h.0 + 1) hs number f back high later g among

-- nor that of one after it
not_after : (low : ℕ) (front : List (ℕ × Frame)) (number : ℕ) (f : Frame) (back : List (ℕ × Frame)) (high : ℕ)
    → Ascend low (front ++ (number, f) ∷ back) high → (g : Frame) → AmongFrames number g back → ⊥
not_after low [] number f back high (least, later) g among =
    let more = ascend_from (number + 1) back high number g later among in omega arith
not_after low (h ∷ hs) number f back high (least, later) g among = not_after (h.0 + 1) hs number f back high later g among

module _ (s s' : System) (number : ℕ) (f : Frame) (sent : List Frame) (taken : IsTaken s s' number f sent) (are : AreNumbered s) where
  abbrev new : List (ℕ × Frame)
  new = numbered_from s.next sent

  ascends : Ascend 0 (taken.front ++ (number, f) ∷ taken.back) s.next
  ascends = rw taken.before at are.numbers

  is_taken : AmongFrames number f s.frames
  is_taken = rw taken.before (in_second number f taken.front ((number, f) ∷ taken.back) (inl (refl, refl)))

  -- a frame under way afterwards is sent, or stood before or after the one that is taken
  after_either : (m : ℕ) (g : Frame) → AmongFrames m g s'.frames
      → AmongFrames m g taken.front ⊎ (AmongFrames m g taken.back ⊎ AmongFrames m g new)
  after_either m g among =
      elim (in_either m g taken.front (taken.back ++ new) (rw taken.after at among)) [
        | inl front ↦ inl front
        | inr rest ↦ elim (in_either m g taken.back new rest) [ inl back ↦ inr (inl back) | inr comes ↦ inr (inr comes) ]
      ]

  was : (m : ℕ) (g : Frame) → AmongFrames m g s'.frames → AmongFrames m g s.frames ⊎ AmongFrames m g new
  was m g among =
      elim (after_either m g among) [
        | inl front ↦ inl (rw taken.before (in_first m g taken.front ((number, f) ∷ taken.back) front))
        | inr rest ↦ elim rest [
          | inl back ↦ inl (rw taken.before (in_second m g taken.front ((number, f) ∷ taken.back) (inr back)))
          | inr comes ↦ inr comes
        ]
      ]

  gone : (g : Frame) → AmongFrames number g s'.frames → ⊥
  gone g among =
      elim (after_either number g among) [
        | inl front ↦ not_before 0 taken.front number f taken.back s.next ascends g front
        | inr rest ↦ elim rest [
          | inl back ↦ not_after 0 taken.front number f taken.back s.next ascends g back
          | inr comes ↦
              let low = ascend_from s.next new (s.next + length sent) number g (ascend_numbered s.next sent) comes in
              let high = ascend_under 0 s.frames s.next number f are.numbers is_taken in
              omega arith
        ]
      ]

  still : (m : ℕ) (g : Frame) → AmongFrames m g s.frames → (m ≡ number) ⊎ AmongFrames m g s'.frames
  still m g among =
      elim (in_either m g taken.front ((number, f) ∷ taken.back) (rw taken.before at among)) [
        | inl front ↦ inr (rw taken.after (in_first m g taken.front (taken.back ++ new) front))
        | inr rest ↦ elim rest [
          | inl is ↦ inl is.0
          | inr back ↦ inr (rw taken.after (in_second m g taken.front (taken.back ++ new) (in_first m g taken.back new back)))
        ]
      ]

  sends : (m : ℕ) (g : Frame) → AmongFrames m g new → AmongFrames m g s'.frames
  sends m g comes = rw taken.after (in_second m g taken.front (taken.back ++ new) (in_second m g taken.back new comes))

  pub exchanges : Exchanges s s' number f new
  exchanges =
      let after = numbers_taken s s' number f sent taken are in
      record {
        taken = is_taken;
        gone = gone;
        still = still;
        was = was;
        sends = sends;
        was_one = λ m g other one two. ascend_one 0 s.frames s.next m g other are.numbers one two;
        is_one = λ m g other one two. ascend_one 0 s'.frames s'.next m g other after.numbers one two;
      }
