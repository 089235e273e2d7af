-- The level that is kept of each joiner, after a further word of one.
-- Cited above: cover_anew, kept_exactly, others_keep
use Rattle.std.proofs.Common.{◌≡◌, ◌≢◌, ◌↔◌, ℕ, ◌≤◌, true, false, if◌then◌else◌, List, Option, None, Some, [], ◌∷◌, arith, ap, refl, ◌∙◌, inl, inr}
use Rattle.std.specs.BTreeMap.{insert_entry}
use Rattle.std.specs.Ordering.{is_eq, ordering_reverse}
use Rattle.std.specs.declared.cmp.Ordering.{Ordering}
use Rattle.std.specs.declared.cmp.Ordering.TheVariants.{Less, Equal, Greater}
use Rattle.std.proofs.lemmas.Bool.{cases_Bool, cases_lt, le-leb, lt-leb}
use Rattle.std.proofs.lemmas.Cmp.{nat_list_cmp_total}
use Rattle.tap_name.specs.declared.slot.Slot.{Slot}
use Rattle.tap_name.specs.Order.{name_cmp}
use Rattle.tap_name.proofs.Orders.{name_cmp-equal}
use Rattle.tap_table.specs.Table.{TableValue}
use Rattle.tap_table.proofs.Near.{apart_names, tied_itself}
use Rattle.tap_table.specs.Levels.{is_kept}
use Rattle.tap_multicast.specs.declared.covers.Covered.TheVariants.{Already}
use Rattle.tap_multicast.specs.Covers.{CoversValue, begun_cover, cover_of, covered, level_kept, with_cover}

module _ (joiner : List ℕ) (level : ℕ) (other : List ℕ) where
  -- the joiner that is entered has its level, and others have theirs
  level_kept-inserted : (covers : CoversValue) → level_kept (insert_entry name_cmp covers joiner level) other
      ≡ (if is_eq (name_cmp other joiner) then Some level else level_kept covers other)
  level_kept-inserted [] = refl
  level_kept-inserted (e ∷ covers) = by_order (level_kept-inserted covers) (name_cmp joiner e.0) refl
    where
      by_order : level_kept (insert_entry name_cmp covers joiner level) other
          ≡ (if is_eq (name_cmp other joiner) then Some level else level_kept covers other)
          → (order : Ordering) → name_cmp joiner e.0 ≡ order → level_kept (insert_entry name_cmp (e ∷ covers) joiner level) other
          ≡ (if is_eq (name_cmp other joiner) then Some level else level_kept (e ∷ covers) other)
      by_order rest Less is = rw is refl
      by_order rest Equal is =
          let same : joiner ≡ e.0 = name_cmp-equal joiner e.0 (ap is_eq is) in
          elim (cases_Bool (is_eq (name_cmp other e.0))) [
            | inl tied ↦ rw (is, same, tied) refl
            | inr apart ↦ rw (is, same, apart) refl
          ]
      by_order rest Greater is =
          elim (cases_Bool (is_eq (name_cmp other e.0))) [
            | inl tied ↦
                let same = name_cmp-equal other e.0 tied in
                let below : name_cmp e.0 joiner ≡ Less = nat_list_cmp_total.antisymm e.0 joiner ∙ ap ordering_reverse is in
                let apart : is_eq (name_cmp other joiner) ≡ false = ap (λ n. is_eq (name_cmp n joiner)) same ∙ ap is_eq below in
                rw (is, tied, apart) refl
            | inr apart ↦ rw (is, apart) rest
          ]

-- a level is kept at most this one, in words
pub kept_exactly : (kept : Option ℕ) (level : ℕ) → (is_kept kept level ≡ true) ↔ ((least : ℕ) × (kept ≡ Some least) × (least ≤ level))
kept_exactly None level = (λ is. cc, λ (least, is, few). cc)
kept_exactly (Some least) level =
    elim (cases_lt level least) [
      | inl below ↦
          let test = lt-leb least level below in (
            λ is. let wrong : false ≡ true = rw test at is in cc,
            λ (other, is, few). let same : least ≡ other = cc in absurd (omega (arith, same, few, below)),
          )
      | inr above ↦ let test = le-leb least level above in (λ is. (least, refl, above), λ found. rw test refl)
    ]

module _ (covers : CoversValue) (t : TableValue) (watch : List Slot) (joiner : List ℕ) (prefix level : ℕ) where
  -- a word at the kept level, or above it, makes the node do nothing and changes nothing
  pub cover_again : is_kept (level_kept covers joiner) level ≡ true
      → (covered covers t watch joiner prefix level ≡ Already) × (with_cover covers joiner level ≡ covers)
  cover_again kept = (rw kept refl, rw kept refl)

  -- another one covers the joiner, and its level is kept
  pub cover_anew : is_kept (level_kept covers joiner) level ≡ false
      → (covered covers t watch joiner prefix level ≡ begun_cover t watch (cover_of t (level_kept covers joiner) joiner prefix level))
      × (level_kept (with_cover covers joiner level) joiner ≡ Some level)
  cover_anew fresh = (rw fresh refl, rw fresh (level_kept-inserted joiner level joiner covers ∙ rw (tied_itself joiner) refl))

  -- so a second word at a level that isn't less is answered with nothing
  pub covered_twice : (again : ℕ) → level ≤ again → is_kept (level_kept covers joiner) level ≡ false
      → covered (with_cover covers joiner level) t watch joiner prefix again ≡ Already
  covered_twice again above fresh =
      let kept = (cover_anew fresh).1 in
      let test : is_kept (level_kept (with_cover covers joiner level) joiner) again ≡ true =
      (kept_exactly (level_kept (with_cover covers joiner level) joiner) again).1 (level, kept, above) in
      rw test refl

  -- other joiners have the level that they had
  pub others_keep : (other : List ℕ) → other ≢ joiner → level_kept (with_cover covers joiner level) other ≡ level_kept covers other
  others_keep other differs =
      elim (cases_Bool (is_kept (level_kept covers joiner) level)) [
        | inl kept ↦ rw kept refl
        | inr fresh ↦ rw fresh (level_kept-inserted joiner level other covers ∙ rw (apart_names other joiner differs) refl)
      ]
