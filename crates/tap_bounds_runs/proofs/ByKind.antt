-- The frames of a run of joins alone, by their kinds, their joiners and their ends: how many there are is at most a sum over these.
use Rattle.std.proofs.Common.{◌≡◌, inl, inr, ℕ, ◌+◌, ◌≤◌, Bool, true, false, cond, List, [], ◌∷◌, length, Some, arith, refl}
use Rattle.std.specs.Prelude.{◌&&◌, nat_eq, count_by}
use Rattle.std.specs.Cmp.Lexicographic.{pointwise}
use Rattle.std.specs.List.{sum_by}
use Rattle.std.proofs.lemmas.Bool.{and_from, and_parts}
use Rattle.std.proofs.lemmas.Slice.Eq.{bytes_eq-Decides}
use Rattle.tap_wire.specs.declared.frame.Body.{Body}
use Rattle.tap_wire.specs.declared.frame.Body.TheVariants.{Seek}
use Rattle.tap_wire.specs.declared.frame.Frame.{Frame}
use Rattle.tap_rule.specs.Sent.{IsAmong}
use Rattle.tap_bounds.specs.Acks.{is_ack, is_tell_body}
use Rattle.tap_bounds.specs.Dones.{is_done_body}
use Rattle.tap_bounds.specs.Few.{is_heard, is_hello}
use Rattle.tap_bounds.proofs.Counting.{count-cons}
use Rattle.tap_bounds.specs.LinkBounds.{links_off, links_on, releases_pin}
use Rattle.tap_bounds.specs.OfJoins.{IsJoinBody, joiner_said}
use Rattle.tap_bounds_runs.proofs.Sums.{count-at_one}
use Rattle.tap_safety.proofs.Said.{Said, said_of}
use Rattle.tap_safety.proofs.Said.Said.{IsAck, IsDone, IsHeard, IsHello, IsLink, IsRelease, IsSeek, IsTell}

-- ---- kinds

abbrev pub is_seek : Body → Bool
is_seek (Seek joiner) = true
is_seek other = false

-- how many of these frames have such a body
abbrev pub with_body : (Body → Bool) → List Frame → ℕ
with_body t frames = count_by (λ (f : Frame). t f.body) frames

-- one, if the body is so
abbrev as_one : (Body → Bool) → Body → ℕ
as_one t body = cond {A = ℕ} (t body) 1 0

-- each body of a join is of one of these kinds
one_kind : {body : Body} → Said body → IsJoinBody body
    → 1 ≤ as_one is_seek body + (as_one is_tell_body body + (as_one is_hello body + (as_one is_heard body + (as_one is_ack body
    + (as_one is_done_body body + (as_one releases_pin body + (as_one links_on body + as_one links_off body)))))))
one_kind (IsSeek joiner) is = omega arith
one_kind (IsTell tell watch) is = omega arith
one_kind (IsHello hello) is = omega arith
one_kind (IsHeard session) is = omega arith
one_kind (IsAck session) is = omega arith
one_kind IsDone is = omega arith
one_kind IsRelease is = omega arith
one_kind (IsLink version true) is = omega arith
one_kind (IsLink version false) is = omega arith
one_kind _ is = absurd is

-- so all frames of joins are at most those of these kinds
abbrev pub of_kinds : List Frame → ℕ
of_kinds frames =
    with_body is_seek frames + (with_body is_tell_body frames + (with_body is_hello frames + (with_body is_heard frames
    + (with_body is_ack frames + (with_body is_done_body frames + (with_body releases_pin frames + (with_body links_on frames
    + with_body links_off frames)))))))

pub all_kinds : (frames : List Frame) → ((f : Frame) → IsAmong f frames → IsJoinBody f.body) → length frames ≤ of_kinds frames
all_kinds [] of = omega arith
all_kinds (f ∷ frames) of =
    let here = one_kind (said_of f.body) (of f (inl refl)) in
    let rest = all_kinds frames (λ g among. of g (inr among)) in
    let one = count-cons (λ (g : Frame). is_seek g.body) f frames in
    let two = count-cons (λ (g : Frame). is_tell_body g.body) f frames in
    let three = count-cons (λ (g : Frame). is_hello g.body) f frames in
    let four = count-cons (λ (g : Frame). is_heard g.body) f frames in
    let five = count-cons (λ (g : Frame). is_ack g.body) f frames in
    let six = count-cons (λ (g : Frame). is_done_body g.body) f frames in
    let seven = count-cons (λ (g : Frame). releases_pin g.body) f frames in
    let eight = count-cons (λ (g : Frame). links_on g.body) f frames in
    let nine = count-cons (λ (g : Frame). links_off g.body) f frames in
    omega (arith, here, rest, one, two, three, four, five, six, seven, eight, nine)

-- ---- joiners and ends

pub itself : (x : List ℕ) → pointwise nat_eq x x ≡ true
itself x = (bytes_eq-Decides x x).1 refl

module _ (frames : List Frame) (joiners : List (List ℕ))
    (named : (f : Frame) (b : List ℕ) → IsAmong f frames → joiner_said f ≡ Some b → IsAmong b joiners) where
  -- whose join a frame is of that passes a test, and another test for this joiner
  pub record IsOf (u : List ℕ → Frame → Bool) (f : Frame) : Type 0 where
    pub joiner : List ℕ
    pub is : joiner_said f ≡ Some joiner
    pub passes : u joiner f ≡ true

  -- of the frames that pass a test there are at most as many as over all joiners pass the other one
  pub by_joiner : (t : Frame → Bool) (u : List ℕ → Frame → Bool) → ((f : Frame) → t f ≡ true → IsOf u f)
      → count_by t frames ≤ sum_by (λ b. count_by (u b) frames) joiners
  by_joiner t u of =
      count-at_one u t joiners frames (λ f among is.
      let one = of f is in record { at = one.joiner; among = named f one.joiner among one.is; passes = one.passes })

module _ (frames : List Frame) (names : List (List ℕ)) (from : (f : Frame) → IsAmong f frames → IsAmong f.from names)
    (to : (f : Frame) → IsAmong f frames → IsAmong f.to names) (t : Frame → Bool) where
  pub by_sender : count_by t frames ≤ sum_by (λ x. count_by (λ f. t f && pointwise nat_eq f.from x) frames) names
  by_sender =
      count-at_one (λ x f. t f && pointwise nat_eq f.from x) t names frames (λ f among is.
      record { at = f.from; among = from f among; passes = and_from (t f) (pointwise nat_eq f.from f.from) is (itself f.from) })

  pub by_receiver : (x : List ℕ) → count_by (λ f. t f && pointwise nat_eq f.from x) frames
      ≤ sum_by (λ y. count_by (λ f. t f && (pointwise nat_eq f.from x && pointwise nat_eq f.to y)) frames) names
  by_receiver x =
      count-at_one (λ y f. t f && (pointwise nat_eq f.from x && pointwise nat_eq f.to y)) (λ f. t f && pointwise nat_eq f.from x) names frames
      (λ f among is.
      let parts = and_parts (t f) (pointwise nat_eq f.from x) is in
      record {
        at = f.to;
        among = to f among;
        passes = and_from (t f) (pointwise nat_eq f.from x && pointwise nat_eq f.to f.to) parts.0
            (and_from (pointwise nat_eq f.from x) (pointwise nat_eq f.to f.to) parts.1 (itself f.to));
      })
