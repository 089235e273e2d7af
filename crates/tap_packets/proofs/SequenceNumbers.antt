-- A way and a sequence number tell a frame.
use Rattle.std.proofs.Common.{◌≡◌, ℕ, zero, suc, ◌+◌, ◌<◌, ◌≤◌, true, nat_eq, List, [], ◌∷◌, length, take, arith, inl, inr}
use Rattle.std.proofs.lemmas.Bool.{eqb-true, cases_order, and_parts}
use Rattle.tap_packets.specs.Sequence.{Way, is_way, way_count, way_at, sequence_in, has_sequence}
use Rattle.tap_packets.proofs.NumbersInRows.{less}
use Rattle.tap_packets.proofs.SameWays.{way_is}

-- one more of a way is counted
rises : (ws : List Way) (w : Way) (f g : ℕ) → f < g → g ≤ length ws → is_way (way_at ws f) w ≡ true
    → way_count (take f ws) w < way_count (take g ws) w
rises [] w f g less within h = absurd (omega arith)
rises (x ∷ ws) w f zero less within h = absurd (omega arith)
rises (x ∷ ws) w zero (suc g) less within h = rw h (omega arith)
rises (x ∷ ws) w (suc f) (suc g) less within h =
    let rest = rises ws w f g (omega arith) (omega arith) h in omega (arith, rest)

later : (ws : List Way) (w : Way) (seq f g : ℕ) → f < g → g < length ws → has_sequence ws w seq f ≡ true → has_sequence ws w seq g ≡ true → ⊥
later ws w seq f g less within one two =
    let first = and_parts (is_way (way_at ws f) w) (nat_eq (sequence_in ws f) seq) one in
    let second = and_parts (is_way (way_at ws g) w) (nat_eq (sequence_in ws g) seq) two in
    let here : way_at ws f ≡ w = way_is (way_at ws f) w first.0 in
    let there : way_at ws g ≡ w = way_is (way_at ws g) w second.0 in
    let a : way_count (take f ws) w + 1 ≡ seq = rw here at (eqb-true (sequence_in ws f) seq first.1) in
    let b : way_count (take g ws) w + 1 ≡ seq = rw there at (eqb-true (sequence_in ws g) seq second.1) in
    let more = rises ws w f g less (omega arith) first.0 in
    omega (arith, a, b, more)

pub tells_one : (ws : List Way) (w : Way) (seq f g : ℕ) → f < length ws → g < length ws
    → has_sequence ws w seq f ≡ true → has_sequence ws w seq g ≡ true → f ≡ g
tells_one ws w seq f g fin gin one two =
    elim (cases_order f g) [
      | inl same ↦ same
      | inr apart ↦
          elim apart [
            | inl less ↦ absurd (later ws w seq f g less gin one two)
            | inr more ↦ absurd (later ws w seq g f more fin two one)
          ]
    ]
