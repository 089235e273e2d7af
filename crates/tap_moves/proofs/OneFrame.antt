-- Of the frames that are sent, one alone is of some kind: its number is the only one.
use Rattle.std.proofs.Common.{◌≡◌, inl, inr, ℕ, ◌+◌, List, [], ◌∷◌, ◌++◌, ◌⊎◌, length, map, arith, refl, sym, ap, subst, ◌∙◌}
use Rattle.tap_name.specs.Names.{Among}
use Rattle.tap_name.specs.Order.{AreAscending, IsBelow}
use Rattle.tap_name.proofs.Names.{among-All}
use Rattle.tap_name.proofs.Orders.{below-itself}
use Rattle.tap_name.proofs.Sorted.{ascending-first, ascending-others}
use Rattle.tap_wire.specs.declared.frame.Frame.{Frame}
use Rattle.tap_rule.specs.Sent.{IsAmong}
use Rattle.tap_safety.specs.System.{AmongFrames}
use Rattle.tap_safety.specs.Exchanges.{numbered_from}
use Rattle.tap_safety.proofs.UnderWay.{among_sent}

-- a frame that is sent after some others has the next number after theirs
pub sent_after : (next : ℕ) (front : List Frame) (f : Frame) (back : List Frame)
    → AmongFrames (next + length front) f (numbered_from next (front ++ f ∷ back))
sent_after next [] f back = inl (omega arith, refl)
sent_after next (g ∷ gs) f back =
    let place : next + 1 + length gs ≡ next + length (g ∷ gs) = omega arith in
    inr (subst (λ k. AmongFrames k f (numbered_from (next + 1) (gs ++ f ∷ back))) place (sent_after (next + 1) gs f back))

-- and if no other is so, that number is the only one
pub only_after : (P : Frame → Type 0) (next : ℕ) (front : List Frame) (f : Frame) (back : List Frame)
    → ((g : Frame) → IsAmong g front → P g → ⊥) → ((g : Frame) → IsAmong g back → P g → ⊥)
    → (m : ℕ) (g : Frame) → AmongFrames m g (numbered_from next (front ++ f ∷ back)) → P g → m ≡ next + length front
only_after P next [] f back none_before none_after m g (inl is) so = let place = is.0 in omega arith
only_after P next [] f back none_before none_after m g (inr later) so =
    absurd (none_after g (among_sent (next + 1) back m g later) so)
only_after P next (h ∷ hs) f back none_before none_after m g (inl is) so = absurd (none_before g (inl is.1) so)
only_after P next (h ∷ hs) f back none_before none_after m g (inr later) so =
    let rest = only_after P (next + 1) hs f back (λ other among. none_before other (inr among)) none_after m g later so in
    omega arith

-- ---- one frame for each of some names

-- no name stands twice
abbrev pub AreApart : List (List ℕ) → Type 0
AreApart [] = Unit {0}
AreApart (name ∷ names) = (Among name names → ⊥) × AreApart names

-- ascending names are apart
pub ascending_apart : (names : List (List ℕ)) → AreAscending names → AreApart names
ascending_apart [] ascending = tt
ascending_apart (name ∷ names) ascending = (
  λ among. below-itself name (among-All (IsBelow name) names (ascending-first name names ascending) name among),
  ascending_apart names (ascending-others name names ascending),
)

-- the number of the frame of a name, with nothing else that is so
pub record HasOneNumber (P : Frame → Type 0) (f : Frame) (frames : List (ℕ × Frame)) : Type 0 where
  pub number : ℕ
  pub among : AmongFrames number f frames
  pub only : (m : ℕ) (g : Frame) → AmongFrames m g frames → P g → m ≡ number

-- what is among the frames of some names and others is a name's, or another
pub each_or_other : (frame_of : List ℕ → Frame) (names : List (List ℕ)) (back : List Frame) (g : Frame)
    → IsAmong g (map frame_of names ++ back) → ((b : List ℕ) × Among b names × (g ≡ frame_of b)) ⊎ IsAmong g back
each_or_other frame_of [] back g among = inr among
each_or_other frame_of (name ∷ names) back g (inl is) = inl (name, inl refl, is)
each_or_other frame_of (name ∷ names) back g (inr later) =
    elim (each_or_other frame_of names back g later) [
      | inl found ↦ inl (found.0, inr found.1, found.2)
      | inr other ↦ inr other
    ]

-- of a name that stands once, its frame has the one number
pub one_of_each : (frame_of : List ℕ → Frame) (a : List ℕ) (P : Frame → Type 0) (back : List Frame)
    → ((b : List ℕ) → P (frame_of b) → b ≡ a) → ((g : Frame) → IsAmong g back → P g → ⊥)
    → (next : ℕ) (names : List (List ℕ)) → AreApart names → Among a names
    → HasOneNumber P (frame_of a) (numbered_from next (map frame_of names ++ back))
one_of_each frame_of a P back mine other next [] apart among = absurd among
one_of_each frame_of a P back mine other next (name ∷ names) (fresh, apart) (inl here) = record {
  number = next;
  among = inl (refl, ap frame_of here);
  only = λ m g among so. elim among [
    | inl is ↦ is.0
    | inr later ↦ elim (each_or_other frame_of names back g (among_sent (next + 1) (map frame_of names ++ back) m g later)) [
      | inl found ↦
          let is : found.0 ≡ a = mine found.0 (subst P found.2 so) in
          absurd (fresh (subst (λ b. Among b names) (is ∙ here) found.1))
      | inr later ↦ absurd (other g later so)
    ]
  ];
}
one_of_each frame_of a P back mine other next (name ∷ names) (fresh, apart) (inr later) =
    let rest = one_of_each frame_of a P back mine other (next + 1) names apart later in
    record {
      number = rest.number;
      among = inr rest.among;
      only = λ m g among so. elim among [
        | inl is ↦
            let here : name ≡ a = mine name (subst P is.1 so) in
            absurd (fresh (subst (λ b. Among b names) (sym here) later))
        | inr there ↦ rest.only m g there so
      ];
    }
