-- Packets under way, in the order of their numbers: what is there of each number after one is put and one is taken.
use Rattle.std.proofs.Common.{◌≡◌, ◌==◌, ℕ, zero, suc, ◌<◌, true, false, Bool, List, [], ◌∷◌, ◌++◌, get_or, All, AllPairs, None, Some, slice_get, refl, sym, ap, subst, ◌∙◌, inl, inr, arith, cond, if◌then◌else◌, eqb-true, eq-eqb}
use Rattle.std.specs.List.{remove}
use Rattle.std.proofs.lemmas.Bool.{cases_Bool, eqb-false, ne_eqb}
use Rattle.std.proofs.lemmas.List.Elements.{All-tail}
use Rattle.tap_carry.specs.declared.net.Packet.{Packet}
use Rattle.tap_carry.specs.declared.net.Numbered.{Numbered}
use Rattle.tap_carry.specs.Net.{numbered, packet_of, packets_less}

-- the numbers ascend
abbrev pub AreAscending : List Numbered → Type 0
AreAscending packets = AllPairs (λ a b. a.number < b.number) packets

pub ascending-tail : (p : Numbered) (packets : List Numbered) → AreAscending (p ∷ packets) → AreAscending packets
ascending-tail p packets are i j d lt within = are (suc i) (suc j) d (omega arith) (omega arith)

-- the numbers after the first are above its
pub above-first : (p : Numbered) (packets : List Numbered) → AreAscending (p ∷ packets) → All (λ q. p.number < q.number) packets
above-first p packets are k d within = are 0 (suc k) d (omega arith) (omega arith)

-- what holds of each element holds of the one at a place
pub All-at : {X : Type 0} (P : X → Type 0) (xs : List X) (place : ℕ) (x : X) → All P xs → slice_get xs place ≡ Some x → P x
All-at P [] place x all at = cc
All-at P (y ∷ xs) zero x all at = let same : y ≡ x = cc in subst P same (all 0 y (omega arith))
All-at P (y ∷ xs) (suc place) x all at = All-at P xs place x (All-tail P y xs all) at

-- a number that none has isn't found, and leaving it out changes nothing
pub packet_of-absent : (packets : List Numbered) (number : ℕ) → All (λ p. (number == p.number) ≡ false) packets → packet_of packets number ≡ None
packet_of-absent [] number all = refl
packet_of-absent (p ∷ packets) number all =
    let here : (number == p.number) ≡ false = all 0 p (omega arith) in
    rw here (packet_of-absent packets number (All-tail (λ p. (number == p.number) ≡ false) p packets all))

pub less-absent : (packets : List Numbered) (number : ℕ) → All (λ p. (number == p.number) ≡ false) packets → packets_less packets number ≡ packets
less-absent [] number all = refl
less-absent (p ∷ packets) number all =
    let here : (number == p.number) ≡ false = all 0 p (omega arith) in
    rw here (ap (λ (l : List Numbered). p ∷ l) (less-absent packets number (All-tail (λ p. (number == p.number) ≡ false) p packets all)))

-- taking the packet at a place leaves out its number
pub remove-less : (packets : List Numbered) (place : ℕ) (p : Numbered) → AreAscending packets → slice_get packets place ≡ Some p
    → remove packets place ≡ packets_less packets p.number
remove-less [] place p are at = cc
remove-less (q ∷ packets) zero p are at =
    let same : q ≡ p = cc in
    let number = ap (λ (x : Numbered). x.number) same in
    let here : (p.number == q.number) ≡ true = eq-eqb p.number q.number (sym number) in
    let others : All (λ r. (p.number == r.number) ≡ false) packets =
    λ k d within. let above = above-first q packets are k d within in ne_eqb p.number (get_or packets k d).number (λ e. absurd (omega (arith, e, number))) in
    rw here (sym (less-absent packets p.number others))
remove-less (q ∷ packets) (suc place) p are at =
    let above = All-at (λ (r : Numbered). q.number < r.number) packets place p (above-first q packets are) at in
    let here : (p.number == q.number) ≡ false = ne_eqb p.number q.number (λ e. absurd (omega (arith, e))) in
    rw here (ap (λ (l : List Numbered). q ∷ l) (remove-less packets place p (ascending-tail q packets are) at))

-- what is found of each number after one is left out
pub packet_of-less : (packets : List Numbered) (number n : ℕ)
    → packet_of (packets_less packets number) n ≡ (if n == number then None else packet_of packets n)
packet_of-less packets number n = by packets (n == number) refl
  where
    by : (packets : List Numbered) (b : Bool) → (n == number) ≡ b → packet_of (packets_less packets number) n ≡ cond b None (packet_of packets n)
    by [] true is = refl
    by [] false is = refl
    by (p ∷ packets) true is = elim (cases_Bool (number == p.number)) [
      | inl same ↦ rw same (by packets true is)
      | inr other ↦ let apart = eqb-false number p.number other in
          let n_is = eqb-true n number is in
          let differs : (n == p.number) ≡ false = ne_eqb n p.number (λ e. absurd (apart (sym n_is ∙ e))) in
          rw (other, differs) (by packets true is)
    ]
    by (p ∷ packets) false is = elim (cases_Bool (number == p.number)) [
      | inl same ↦ let p_is = eqb-true number p.number same in
          let differs : (n == p.number) ≡ false = ne_eqb n p.number (λ e. absurd (eqb-false n number is (e ∙ sym p_is))) in
          rw (same, differs) (by packets false is)
      | inr other ↦ elim (cases_Bool (n == p.number)) [
        | inl found ↦ rw (other, found) refl
        | inr not_here ↦ rw (other, not_here) (by packets false is)
      ]
    ]

-- what is found of each number after one is put
pub packet_of-put : (packets : List Numbered) (made : ℕ) (packet : Packet) (n : ℕ) → All (λ p. p.number < made) packets
    → packet_of (packets ++ numbered made packet ∷ []) n ≡ (if n == made then Some packet else packet_of packets n)
packet_of-put packets made packet n given = by packets given (n == made) refl
  where
    by : (packets : List Numbered) → All (λ p. p.number < made) packets → (b : Bool) → (n == made) ≡ b
        → packet_of (packets ++ numbered made packet ∷ []) n ≡ cond b (Some packet) (packet_of packets n)
    by [] given true is = rw is refl
    by [] given false is = rw is refl
    by (p ∷ packets) given true is =
        let below : p.number < made = given 0 p (omega arith) in
        let differs : (n == p.number) ≡ false = ne_eqb n p.number (λ e. absurd (omega (arith, e, eqb-true n made is))) in
        rw differs (by packets (All-tail (λ p. p.number < made) p packets given) true is)
    by (p ∷ packets) given false is = elim (cases_Bool (n == p.number)) [
      | inl found ↦ rw found refl
      | inr not_here ↦ rw not_here (by packets (All-tail (λ p. p.number < made) p packets given) false is)
    ]
