-- Distinct names with one more.
use Rattle.std.proofs.Common.{◌≡◌, inl, inr, ℕ, false, List, [], ◌∷◌, ◌++◌, length, get_or, sym, subst, ◌∙◌, arith, length-append}
use Rattle.std.proofs.Math.Seq.{get_or-append_seam}
use Rattle.std.proofs.lemmas.Bool.{cases_Bool, cases_lt, true≢false}
use Rattle.std.proofs.lemmas.List.{get_or_append_left, get_or_push}
use Rattle.tap_name.specs.Names.{Among, AreDistinct, has_name}
use Rattle.tap_name.proofs.Membership.{Contains-from_among, among_at, has_name-Decides}

-- a new name is none of those before it
pub distinct_push : (names : List (List ℕ)) (name : List ℕ) → AreDistinct names → has_name names name ≡ false → AreDistinct (names ++ name ∷ [])
distinct_push names name distinct new i j d less within same =
    let size = length-append names (name ∷ []) in
    elim (cases_lt j (length names)) [
      | inl inside ↦
          distinct i j d less inside
          (sym (get_or_append_left names (name ∷ []) d i (omega (arith, less, inside))) ∙ same ∙ get_or_append_left names (name ∷ []) d j inside)
      | inr last ↦
          let at : length names ≡ j = omega (arith, within, size, last) in
          let it : get_or names i d ≡ name =
          sym (get_or_append_left names (name ∷ []) d i (omega (arith, less, at))) ∙ same ∙ get_or_push names name d j at in
          let among : Among name names = subst (λ x. Among x names) it (among_at names i d (omega (arith, less, at))) in
          true≢false (sym ((has_name-Decides names name).1 among) ∙ new)
    ]

-- and of distinct names none is among those before it
pub new_after : (before names : List (List ℕ)) (name : List ℕ) → AreDistinct (before ++ name ∷ names) → has_name before name ≡ false
new_after before names name distinct =
    elim (cases_Bool (has_name before name)) [
      | inl there ↦
          let place = Contains-from_among before name ((has_name-Decides before name).0 there) in
          let inside = place.1 in
          let size = length-append before (name ∷ names) in
          absurd (distinct place.0 (length before) name inside (omega (arith, size))
          (get_or_append_left before (name ∷ names) name place.0 inside ∙ place.2 ∙ sym (get_or-append_seam before name names name)))
      | inr new ↦ new
    ]
