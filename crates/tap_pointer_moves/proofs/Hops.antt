-- What it says of a pair's hops that a Lay is due, or that none is due to a node.
use Rattle.std.proofs.Common.{◌≡◌, ◌==◌, ℕ, Bool, true, false, Option, None, Some, eqb-true, ap, refl, sym, ◌∙◌, inl, inr, List}
use Rattle.std.specs.Cmp.Lexicographic.{texts_ties}
use Rattle.std.proofs.lemmas.Bool.{and_parts, cases_Bool}
use Rattle.tap_name.proofs.Orders.{name_cmp-equal}
use Rattle.tap_pointer.specs.declared.hop.Hop.{Hop}
use Rattle.tap_pointer.specs.Due.{hop_due}
use Rattle.tap_pointer.specs.Reconcile.{is_same_hop, is_to}
use Rattle.tap_pointer.proofs.Layings.{to_itself}
use Rattle.tap_pointer_moves.specs.LaysTold.{hop_at}

to_same : (a b : Hop) → is_to a b ≡ true → a.to ≡ b.to
to_same a b same = name_cmp-equal a.to b.to (sym (texts_ties a.to b.to) ∙ same)

same_hop : (a b : Hop) → is_same_hop a b ≡ true → a ≡ b
same_hop a b same =
    let parts = and_parts (is_to a b) (a.level == b.level) same in
    let to = to_same a b parts.0 in
    let level : a.level ≡ b.level = eqb-true a.level b.level parts.1 in
    ap (λ name. record { to = name; level = a.level }) to ∙ ap (λ number. record { to = b.to; level = number }) level

-- a Lay that is on goes to where the pair is laid now
pub on_is : (laid now : Option Hop) (hop : Hop) → hop_due true laid now ≡ Some hop → now ≡ Some hop
on_is laid None hop due = let wrong : ◌≡◌ {A = Option Hop} None (Some hop) = due in cc
on_is None (Some now) hop due = due
on_is (Some laid) (Some now) hop due =
    elim (cases_Bool (is_same_hop laid now)) [
      | inl same ↦ let wrong : ◌≡◌ {A = Option Hop} None (Some hop) = rw same at due in cc
      | inr apart ↦ rw apart at due
    ]

-- and one that is off to where it was laid, and is laid no more
pub off_was : (laid now : Option Hop) (hop : Hop) → hop_due false laid now ≡ Some hop → laid ≡ Some hop
off_was None now hop due = let wrong : ◌≡◌ {A = Option Hop} None (Some hop) = due in cc
off_was (Some laid) None hop due = due
off_was (Some laid) (Some now) hop due =
    elim (cases_Bool (is_to laid now)) [
      | inl same ↦ let wrong : ◌≡◌ {A = Option Hop} None (Some hop) = rw same at due in cc
      | inr apart ↦ rw apart at due
    ]

same_to : (a b : Hop) → a.to ≡ b.to → is_to a b ≡ true
same_to a b same = ap (λ name. is_to a (record { to = name; level = b.level })) (sym same) ∙ to_itself a

pub off_now : (laid now : Option Hop) (hop : Hop) (level : ℕ) → hop_due false laid now ≡ Some hop → now ≡ Some (hop_at hop.to level) → ⊥
off_now laid None hop level due is = let wrong : ◌≡◌ {A = Option Hop} None (Some (hop_at hop.to level)) = is in cc
off_now None (Some now) hop level due is = let wrong : ◌≡◌ {A = Option Hop} None (Some hop) = due in cc
off_now (Some laid) (Some now) hop level due is =
    let there : now ≡ hop_at hop.to level = cc in
    let was : Some laid ≡ Some hop = off_was (Some laid) (Some now) hop due in
    let one : laid ≡ hop = cc in
    let to : laid.to ≡ now.to = ap (λ (h : Hop). h.to) one ∙ sym (ap (λ (h : Hop). h.to) there) in
    let wrong : ◌≡◌ {A = Option Hop} None (Some hop) = rw (same_to laid now to) at due in
    cc

-- no Lay is due to a node
abbrev pub IsNoneDue : List ℕ → Option Hop → Option Hop → Type 0
IsNoneDue t laid now = (on : Bool) (hop : Hop) → hop_due on laid now ≡ Some hop → hop.to ≡ t → ⊥

-- then where the pair is laid there now it was laid there
pub undue_was : (t : List ℕ) (level : ℕ) (laid now : Option Hop) → IsNoneDue t laid now → now ≡ Some (hop_at t level)
    → laid ≡ Some (hop_at t level)
undue_was t level laid None none is = let wrong : ◌≡◌ {A = Option Hop} None (Some (hop_at t level)) = is in cc
undue_was t level None (Some now) none is =
    let there : now ≡ hop_at t level = cc in absurd (none true now refl (ap (λ (h : Hop). h.to) there))
undue_was t level (Some laid) (Some now) none is =
    let there : now ≡ hop_at t level = cc in
    elim (cases_Bool (is_same_hop laid now)) [
      | inl same ↦ ap Some (same_hop laid now same) ∙ is
      | inr apart ↦ absurd (none true now (rw apart refl) (ap (λ (h : Hop). h.to) there))
    ]

-- and where it isn't laid there now it wasn't
pub undue_is : (t : List ℕ) (level : ℕ) (laid now : Option Hop) → IsNoneDue t laid now → laid ≡ Some (hop_at t level)
    → (other : ℕ) × (now ≡ Some (hop_at t other))
undue_is t level None now none was = let wrong : ◌≡◌ {A = Option Hop} None (Some (hop_at t level)) = was in absurd (cc)
undue_is t level (Some laid) None none was =
    let there : laid ≡ hop_at t level = cc in absurd (none false laid refl (ap (λ (h : Hop). h.to) there))
undue_is t level (Some laid) (Some now) none was =
    let there : laid ≡ hop_at t level = cc in
    elim (cases_Bool (is_to laid now)) [
      | inl same ↦
          let to : now.to ≡ t = sym (to_same laid now same) ∙ ap (λ (h : Hop). h.to) there in
          (now.level, ap (λ name. Some (record { to = name; level = now.level })) to)
      | inr apart ↦ absurd (none false laid (rw apart refl) (ap (λ (h : Hop). h.to) there))
    ]
