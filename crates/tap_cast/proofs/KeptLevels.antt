-- The level that is kept of each cast, after a further copy of one.
-- Cited above: cast_again, cast_anew, kept_exactly, others_keep
use Rattle.std.proofs.Common.{◌≡◌, ◌≢◌, ◌↔◌, ℕ, ◌<◌, ◌≤◌, nat_eq, true, false, if◌then◌else◌, Option, None, Some, [], ◌∷◌, arith, refl, ◌∙◌, inl, inr, eqb-true}
use Rattle.std.specs.BTreeMap.{insert_entry}
use Rattle.std.specs.Cmp.{ranked}
use Rattle.std.specs.Option.{is_none}
use Rattle.std.specs.Ordering.{is_eq, nat_cmp}
use Rattle.std.specs.declared.cmp.Ordering.{Ordering}
use Rattle.std.specs.declared.cmp.Ordering.TheVariants.{Less, Equal, Greater}
use Rattle.std.proofs.lemmas.Bool.{cases_Bool, cases_lt, le-leb, lt-leb}
use Rattle.std.proofs.lemmas.Bool.Decides.{nat_tests}
use Rattle.tap_table.specs.Table.{TableValue}
use Rattle.tap_table.specs.Levels.{is_kept, sent_from}
use Rattle.tap_cast.specs.declared.casts.CastTurn.TheVariants.{Already, Now}
use Rattle.tap_cast.specs.Casts.{CastsValue, level_of_cast, turn_of, with_cast}
use Rattle.tap_cast.specs.Targets.{cast_targets}

tied_numbers : (a b : ℕ) → is_eq (nat_cmp a b) ≡ true → a ≡ b
tied_numbers a b tied = eqb-true a b (let test : nat_eq a b ≡ is_eq (nat_cmp a b) = grind (arith, nat_tests) in test ∙ tied)

number_itself : (a : ℕ) → is_eq (nat_cmp a a) ≡ true
number_itself a = grind (arith, nat_tests)

apart_numbers : (a b : ℕ) → a ≢ b → is_eq (nat_cmp a b) ≡ false
apart_numbers a b apart =
    elim (cases_Bool (is_eq (nat_cmp a b))) [ inl tied ↦ absurd (apart (tied_numbers a b tied)) | inr is ↦ is ]

module _ (cast level other : ℕ) where
  -- the cast that is entered has its level, and others have theirs
  pub level_of_cast-inserted : (casts : CastsValue) → level_of_cast (insert_entry nat_cmp casts cast level) other
      ≡ (if is_eq (nat_cmp other cast) then Some level else level_of_cast casts other)
  level_of_cast-inserted [] = refl
  level_of_cast-inserted (e ∷ casts) = by_order (level_of_cast-inserted casts) (nat_cmp cast e.0) refl
    where
      by_order : level_of_cast (insert_entry nat_cmp casts cast level) other
          ≡ (if is_eq (nat_cmp other cast) then Some level else level_of_cast casts other)
          → (order : Ordering) → nat_cmp cast e.0 ≡ order → level_of_cast (insert_entry nat_cmp (e ∷ casts) cast level) other
          ≡ (if is_eq (nat_cmp other cast) then Some level else level_of_cast (e ∷ casts) other)
      by_order rest Less is = rw is refl
      by_order rest Equal is =
          let same : cast ≡ e.0 = rw is at (ranked cast e.0 (nat_cmp cast e.0) refl) in
          elim (cases_Bool (is_eq (nat_cmp other e.0))) [
            | inl tied ↦ rw (is, same, tied) refl
            | inr apart ↦ rw (is, same, apart) refl
          ]
      by_order rest Greater is =
          let above : e.0 < cast = rw is at (ranked cast e.0 (nat_cmp cast e.0) refl) in
          elim (cases_Bool (is_eq (nat_cmp other e.0))) [
            | inl tied ↦
                let named = tied_numbers other e.0 tied in
                let apart = apart_numbers other cast (λ same. absurd (omega (arith, named, same, above))) in
                rw (is, tied, apart) refl
            | inr apart ↦ rw (is, apart) rest
          ]

-- a level is kept at most this one, in words
pub kept_exactly : (kept : Option ℕ) (level : ℕ) → (is_kept kept level ≡ true) ↔ ((least : ℕ) × (kept ≡ Some least) × (least ≤ level))
kept_exactly None level = (λ is. cc, λ (least, is, few). cc)
kept_exactly (Some least) level =
    elim (cases_lt level least) [
      | inl below ↦
          let test = lt-leb least level below in (
            λ is. let wrong : false ≡ true = rw test at is in cc,
            λ (other, is, few). let same : least ≡ other = cc in absurd (omega (arith, same, few, below)),
          )
      | inr above ↦ let test = le-leb least level above in (λ is. (least, refl, above), λ found. rw test refl)
    ]

module _ (casts : CastsValue) (t : TableValue) (cast level : ℕ) where
  -- a copy at the kept level, or above it, goes nowhere and changes nothing
  pub cast_again : is_kept (level_of_cast casts cast) level ≡ true
      → (turn_of casts t cast level ≡ Already) × (with_cast casts cast level ≡ casts)
  cast_again kept = (rw kept refl, rw kept refl)

  -- another one goes on over the levels below those of the kept one, and its level is kept
  pub cast_anew : is_kept (level_of_cast casts cast) level ≡ false
      → (turn_of casts t cast level
      ≡ Now (is_none (level_of_cast casts cast)) (cast_targets t level (sent_from t.settings.digits (level_of_cast casts cast))))
      × (level_of_cast (with_cast casts cast level) cast ≡ Some level)
  cast_anew fresh = (rw fresh refl, rw fresh (level_of_cast-inserted cast level cast casts ∙ rw (number_itself cast) refl))

  -- other casts have the level that they had
  pub others_keep : (other : ℕ) → other ≢ cast → level_of_cast (with_cast casts cast level) other ≡ level_of_cast casts other
  others_keep other differs =
      elim (cases_Bool (is_kept (level_of_cast casts cast) level)) [
        | inl kept ↦ rw kept refl
        | inr fresh ↦ rw fresh (level_of_cast-inserted cast level other casts ∙ rw (apart_numbers other cast differs) refl)
      ]
