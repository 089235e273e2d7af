-- What is under way after a frame is taken and others are sent.
-- Cited above: among_either, among_left, among_numbered, among_out, among_right, among_sent, among_there, among_was, sent_under_way, still_under_way,
-- taken_under_way, told_by, was_under_way
use Rattle.std.proofs.Common.{◌≡◌, inl, inr, ℕ, ◌+◌, List, [], ◌∷◌, ◌++◌, ◌⊎◌, refl, ap}
use Rattle.tap_wire.specs.declared.frame.Body.{Body}
use Rattle.tap_wire.specs.declared.frame.Frame.{Frame}
use Rattle.tap_rule.specs.Sent.{IsAmong}
use Rattle.tap_safety.specs.Frames.{HelloFields, hello_body, tell_body}
use Rattle.tap_safety.specs.System.{System, AmongFrames, HelloNames, IsTold, IsUnderWay}
use Rattle.tap_safety.specs.Exchanges.{IsTaken, IsSent, numbered_from}

pub among_right : (n : ℕ) (f : Frame) (xs ys : List (ℕ × Frame)) → AmongFrames n f ys → AmongFrames n f (xs ++ ys)
among_right n f [] ys among = among
among_right n f (x ∷ xs) ys among = inr (among_right n f xs ys among)

pub among_left : (n : ℕ) (f : Frame) (xs ys : List (ℕ × Frame)) → AmongFrames n f xs → AmongFrames n f (xs ++ ys)
among_left n f [] ys among = absurd among
among_left n f (x ∷ xs) ys (inl first) = inl first
among_left n f (x ∷ xs) ys (inr later) = inr (among_left n f xs ys later)

pub among_either : (n : ℕ) (f : Frame) (xs ys : List (ℕ × Frame)) → AmongFrames n f (xs ++ ys) → AmongFrames n f xs ⊎ AmongFrames n f ys
among_either n f [] ys among = inr among
among_either n f (x ∷ xs) ys (inl is) = inl (inl is)
among_either n f (x ∷ xs) ys (inr later) =
    elim (among_either n f xs ys later) [ inl one ↦ inl (inr one) | inr two ↦ inr two ]

pub among_out : (n m : ℕ) (f g : Frame) (front back sent : List (ℕ × Frame)) → AmongFrames n f (front ++ (m, g) ∷ back)
    → AmongFrames n f (front ++ (back ++ sent)) ⊎ ((n ≡ m) × (f ≡ g))
among_out n m f g [] back sent (inl is) = inr is
among_out n m f g [] back sent (inr later) = inl (among_left n f back sent later)
among_out n m f g (x ∷ xs) back sent (inl is) = inl (inl is)
among_out n m f g (x ∷ xs) back sent (inr later) =
    elim (among_out n m f g xs back sent later) [ inl among ↦ inl (inr among) | inr is ↦ inr is ]

-- what is sent has a number
pub among_numbered : (n : ℕ) (sent : List Frame) (x t : List ℕ) (body : Body) → IsSent sent x t body
    → (number : ℕ) × AmongFrames number (record { from = x; to = t; body = body }) (numbered_from n sent)
among_numbered n [] x t body sends = absurd sends
among_numbered n (frame ∷ frames) x t body (inl is) = (n, inl (refl, is))
among_numbered n (frame ∷ frames) x t body (inr later) =
    let rest = among_numbered (n + 1) frames x t body later in (rest.0, inr rest.1)

pub among_was : (n m : ℕ) (f g : Frame) (front back sent : List (ℕ × Frame)) → AmongFrames n f (front ++ (back ++ sent))
    → AmongFrames n f (front ++ (m, g) ∷ back) ⊎ AmongFrames n f sent
among_was n m f g [] back sent among = elim (among_either n f back sent among) [ inl old ↦ inl (inr old) | inr new ↦ inr new ]
among_was n m f g (x ∷ xs) back sent (inl is) = inl (inl is)
among_was n m f g (x ∷ xs) back sent (inr later) =
    elim (among_was n m f g xs back sent later) [ inl old ↦ inl (inr old) | inr new ↦ inr new ]

-- what has a number is sent
pub among_sent : (n : ℕ) (sent : List Frame) (m : ℕ) (f : Frame) → AmongFrames m f (numbered_from n sent) → IsAmong f sent
among_sent n [] m f among = absurd among
among_sent n (frame ∷ frames) m f (inl is) = inl is.1
among_sent n (frame ∷ frames) m f (inr later) = inr (among_sent (n + 1) frames m f later)

pub among_there : (n : ℕ) (f : Frame) (front back : List (ℕ × Frame)) → AmongFrames n f (front ++ (n, f) ∷ back)
among_there n f [] back = inl (refl, refl)
among_there n f (x ∷ xs) back = inr (among_there n f xs back)

-- the frame that is taken was under way
pub taken_under_way : (s s' : System) (number : ℕ) (frame : Frame) (sent : List Frame) → IsTaken s s' number frame sent
    → IsUnderWay s frame.from frame.to frame.body
taken_under_way s s' number frame sent taken =
    record { number = number; among = rw taken.before (among_there number frame taken.front taken.back) }

module _ (s s' : System) (number : ℕ) (frame : Frame) (sent : List Frame) (taken : IsTaken s s' number frame sent)
    (from to : List ℕ) (body : Body) where
  abbrev of_these : Frame
  of_these = record { from = from; to = to; body = body }

  -- a frame stays under way, unless it is the one that is taken
  pub still_under_way : IsUnderWay s from to body → IsUnderWay s' from to body ⊎ (of_these ≡ frame)
  still_under_way way =
      elim (among_out way.number number of_these frame taken.front taken.back (numbered_from s.next sent) (rw taken.before at way.among)) [
        | inl among ↦ inl (record { number = way.number; among = rw taken.after among })
        | inr is ↦ inr is.1
      ]

  -- a frame that is under way was, or is sent
  pub was_under_way : IsUnderWay s' from to body → IsUnderWay s from to body ⊎ IsSent sent from to body
  was_under_way way =
      elim (among_was way.number number of_these frame taken.front taken.back (numbered_from s.next sent) (rw taken.after at way.among)) [
        | inl among ↦ inl (record { number = way.number; among = rw taken.before among })
        | inr new ↦ inr (among_sent s.next sent way.number of_these new)
      ]

  -- what is sent is under way
  pub sent_under_way : IsSent sent from to body → IsUnderWay s' from to body
  sent_under_way sends =
      let new = among_numbered s.next sent from to body sends in
      record {
        number = new.0;
        among = rw taken.after (among_right new.0 of_these taken.front (taken.back ++ numbered_from s.next sent)
            (among_right new.0 of_these taken.back (numbered_from s.next sent) new.1));
      }

-- a node is told in another system too, if the Tell is under way there
pub told_by : (s s' : System) (b x : List ℕ) (level : ℕ) → (told : IsTold s b x level)
    → IsUnderWay s' told.from x (tell_body told.fields told.watch) → IsTold s' b x level
told_by s s' b x level told way = record {
  from = told.from;
  fields = told.fields;
  watch = told.watch;
  way = way;
  joiner = told.joiner;
  level_is = told.level_is;
}

module _ (s s' : System) (number : ℕ) (frame : Frame) (sent : List Frame) (taken : IsTaken s s' number frame sent) where
  -- a Hello stays under way, if it is none that is taken
  pub named_still : ((fields : HelloFields) → hello_body fields ≡ frame.body → ⊥)
      → (v b x : List ℕ) → HelloNames s v b x → HelloNames s' v b x
  named_still apart v b x named =
      elim (still_under_way s s' number frame sent taken v b (hello_body named.fields) named.way) [
        | inl way ↦ record { fields = named.fields; way = way; named = named.named }
        | inr is ↦ absurd (apart named.fields (ap (λ f. f.body) is))
      ]

  -- a Tell stays under way, or says what the one says that is taken
  pub told_still : (b x : List ℕ) (level : ℕ) → (told : IsTold s b x level)
      → IsTold s' b x level ⊎ ((tell_body told.fields told.watch ≡ frame.body) × (x ≡ frame.to))
  told_still b x level told =
      elim (still_under_way s s' number frame sent taken told.from x (tell_body told.fields told.watch) told.way) [
        | inl way ↦ inl (told_by s s' b x level told way)
        | inr is ↦ inr (ap (λ f. f.body) is, ap (λ f. f.to) is)
      ]
