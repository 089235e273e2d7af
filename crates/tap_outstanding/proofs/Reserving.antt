-- Room that is asked for in one level of sums after the other.
use Rattle.std.proofs.Common.{◌≡◌, ℕ, ◌+◌, ◌<◌, ◌≤◌, List, length, get_or, set, Vec, refl, sym, ap, subst, ◌∙◌, inl, inr, arith}
use Rattle.std.specs.Vec.{vec_len, vec_capacity}
use Rattle.std.proofs.lemmas.Bool.{cases_order}
use Rattle.std.proofs.lemmas.List.{get_or-set_same, get_or-set_other}
use Rattle.std.proofs.lemmas.List.Elements.{All-set}
use Rattle.std.proofs.Math.Seq.{map-set_same}
use Rattle.tap_outstanding.specs.Levels.{vector_lists, HaveRoom}

-- a loop over the sums that has made room for so many counts more in the first `m` of them
pub record IsReservedUpTo {A : Type 0} (more : ℕ) (start now : List (Vec ℕ A)) (m : ℕ) : Type 0 where
  pub same : vector_lists now ≡ vector_lists start
  pub reserved : (k : ℕ) (d : Vec ℕ A) → k < m → vec_len (get_or now k d) + more ≤ vec_capacity (get_or now k d)
  pub room : (room : ℕ) → HaveRoom start room → HaveRoom now room

module _ {A : Type 0} (more : ℕ) (start : List (Vec ℕ A)) where
  pub nothing-reserved : IsReservedUpTo more start start 0
  nothing-reserved = record {
    same = refl;
    reserved = λ k d lt. absurd (omega arith);
    room = λ room have. have;
  }

  -- what stays if a further level asks for room
  pub asked-same : (now : List (Vec ℕ A)) (m : ℕ) (d w : Vec ℕ A) → IsReservedUpTo more start now m
      → w.items ≡ (get_or now m d).items → vector_lists (set now m w) ≡ vector_lists start
  asked-same now m d w s items = map-set_same (λ (v : Vec ℕ A). v.items) now m w d items ∙ s.same

  pub asked-room : (now : List (Vec ℕ A)) (m : ℕ) (d w : Vec ℕ A) → IsReservedUpTo more start now m → m < length now
      → vec_len w ≡ vec_len (get_or now m d) → vec_capacity (get_or now m d) ≤ vec_capacity w
      → (room : ℕ) → HaveRoom start room → HaveRoom (set now m w) room
  asked-room now m d w s within len capacity room have =
      let h = s.room room have m d within in
      All-set (λ (v : Vec ℕ A). vec_len v + room ≤ vec_capacity v) now m w (omega (arith, h, len, capacity)) (s.room room have)

  pub one-more-reserved : (now : List (Vec ℕ A)) (m : ℕ) (d w : Vec ℕ A) → IsReservedUpTo more start now m → m < length now
      → w.items ≡ (get_or now m d).items → vec_len w ≡ vec_len (get_or now m d) → vec_capacity (get_or now m d) ≤ vec_capacity w
      → vec_len w + more ≤ vec_capacity w → IsReservedUpTo more start (set now m w) (m + 1)
  one-more-reserved now m d w s within items len capacity fits = record {
    same = asked-same now m d w s items;
    reserved = λ k e' lt. elim (cases_order k m) [
      | inl here ↦ subst (λ (v : Vec ℕ A). vec_len v + more ≤ vec_capacity v)
          (sym (ap (λ (j : ℕ). get_or (set now m w) j e') here ∙ get_or-set_same now m w e' within)) fits
      | inr (inl before) ↦ subst (λ (v : Vec ℕ A). vec_len v + more ≤ vec_capacity v)
          (sym (get_or-set_other now m k w e' (λ here. absurd (omega arith)))) (s.reserved k e' before)
      | inr (inr after) ↦ absurd (omega arith)
    ];
    room = asked-room now m d w s within len capacity;
  }

  pub all-reserved : (now : List (Vec ℕ A)) (m : ℕ) → IsReservedUpTo more start now m → length now ≤ m → HaveRoom now more
  all-reserved now m s whole k d within = s.reserved k d (omega arith)
