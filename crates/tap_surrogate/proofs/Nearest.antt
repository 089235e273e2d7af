-- the nearest of some names is their root
use Rattle.std.proofs.Common.{◌≡◌, ◌==◌, inl, inr, ℕ, ◌+◌, ◌<◌, ◌≤◌, zero, suc, List, [], ◌∷◌, length, take, drop, get_or, take_all, None, Some, All, add-one, filter, arith, ap, sym, refl, ◌∙◌}
use Rattle.std.proofs.lemmas.Bool.{cases_lt, eqb-true, eq-eqb}
use Rattle.std.proofs.lemmas.List.{drop_more, take_more}
use Rattle.std.proofs.lemmas.List.Elements.{All-push, All-cons, All-nil}
use Rattle.tap_name.specs.Settings.{SettingsValue}
use Rattle.tap_name.specs.Name.{IsName}
use Rattle.tap_name.specs.Cyclic.{first_cyclic}
use Rattle.tap_name.specs.Root.{Among, AreNames, has_digit, narrowed, first_of, root}
use Rattle.tap_surrogate.specs.Distance.{cyclic_distance, IsAsNear}
use Rattle.tap_surrogate.proofs.Cyclic.{same_distance, first_cyclic_is}
use Rattle.tap_name.proofs.Names.{has_digit-from, has_digit-to, among-All, All-among, among_item, among-take, among-filter, among-filter_from, only_left, share_more, share_fewer, same_at, share_all}

-- the first digit at which two names differ decides
pub as_near_at : (base : ℕ) (object a b : List ℕ) (level : ℕ) → take level a ≡ take level b
    → (get_or a level 0 ≡ get_or b level 0 → ⊥)
    → cyclic_distance base (get_or object level 0) (get_or a level 0) ≤ cyclic_distance base (get_or object level 0) (get_or b level 0)
    → IsAsNear base object a b
as_near_at base object a b level shared apart near at inside at_shared =
    elim (cases_lt level at) [
      | inl more ↦ absurd (apart (same_at level at a b more at_shared))
      | inr h ↦ elim (cases_lt at level) [
        | inl fewer ↦
            let same = ap (cyclic_distance base (get_or object at 0)) (same_at at level a b fewer shared) in omega (arith, same)
        | inr k ↦ let same : at ≡ level = omega arith in rw same near
      ]
    ]

-- two that share all digits are as near
pub as_near_same : (base : ℕ) (object a b : List ℕ) (many : ℕ) → length object ≤ many → take many a ≡ take many b
    → IsAsNear base object a b
as_near_same base object a b many all shared at inside at_shared =
    let same = ap (cyclic_distance base (get_or object at 0)) (same_at at many a b (omega arith) shared) in omega (arith, same)

-- between two that share some digits stands none that doesn't share them
shared_between : (p : SettingsValue) (object a b c : List ℕ) → IsName p object → IsName p a → IsName p b → IsName p c
    → IsAsNear p.base object a b → IsAsNear p.base object b c
    → (level many : ℕ) → level ≤ many → many ≤ p.digits → take many a ≡ take many c → take level a ≡ take level b
shared_between p object a b c object_name a_name b_name c_name near next zero many within most shared = refl
shared_between p object a b c object_name a_name b_name c_name near next (suc level) many within most shared =
    let before = shared_between p object a b c object_name a_name b_name c_name near next level many (omega arith) most shared in
    let inside : level < p.digits = omega arith in
    let in_object : level < length object = omega (arith, object_name.len) in
    let after = sym before ∙ share_fewer level many a c (omega arith) shared in
    let low = near level in_object before in
    let high = next level in_object after in
    let ends = ap (cyclic_distance p.base (get_or object level 0)) (same_at level many a c (omega arith) shared) in
    let same = same_distance p.base (get_or object level 0) (get_or a level 0) (get_or b level 0) (object_name.below level 0 in_object)
    (a_name.below level 0 (omega (arith, a_name.len))) (b_name.below level 0 (omega (arith, b_name.len)))
    (omega (arith, low, high, ends)) in
    rw add-one at (share_more p level a b a_name b_name inside before same)

-- to be as near is transitive
pub as_near-trans : (p : SettingsValue) (object a b c : List ℕ) → IsName p object → IsName p a → IsName p b → IsName p c
    → IsAsNear p.base object a b → IsAsNear p.base object b c → IsAsNear p.base object a c
as_near-trans p object a b c object_name a_name b_name c_name near next level inside shared =
    let before = shared_between p object a b c object_name a_name b_name c_name near next level level (omega arith)
    (omega (arith, object_name.len)) shared in
    let low = near level inside before in
    let high = next level inside (sym before ∙ shared) in
    omega (arith, low, high)

-- what is left of some names at a level, as the nearest of them sees it
record AreLeft (p : SettingsValue) (object nearest : List ℕ) (level : ℕ) (names : List (List ℕ)) : Type 0 where
  here : Among nearest names
  valid : (x : List ℕ) → Among x names → IsName p x
  share : (x : List ℕ) → Among x names → take level nearest ≡ take level x
  near : (x : List ℕ) → Among x names → IsAsNear p.base object nearest x

-- the digit that is kept at a level is the nearest name's
kept_digit : (p : SettingsValue) (object nearest : List ℕ) (level : ℕ) (names : List (List ℕ)) → IsName p object
    → level < p.digits → AreLeft p object nearest level names
    → first_cyclic p.base (has_digit names level) (get_or object level 0) ≡ get_or nearest level 0
kept_digit p object nearest level names object_name inside left =
    let name = left.valid nearest left.here in
    let in_object : level < length object = omega (arith, object_name.len) in
    first_cyclic_is p.base (has_digit names level) (get_or object level 0) (get_or nearest level 0) (object_name.below level 0 in_object)
    (name.below level 0 (omega (arith, name.len))) (has_digit-from names nearest level (get_or nearest level 0) left.here refl)
    (λ other other_below other_passes.
    let w = has_digit-to names level other other_passes in
    let near = left.near w.0 w.1 level in_object (left.share w.0 w.1) in
    let same = ap (cyclic_distance p.base (get_or object level 0)) w.2 in
    omega (arith, near, same))

left_more : (p : SettingsValue) (object nearest : List ℕ) (level : ℕ) (names : List (List ℕ)) → level < p.digits
    → AreLeft p object nearest level names
    → AreLeft p object nearest (level + 1) (filter (λ x. get_or x level 0 == get_or nearest level 0) names)
left_more p object nearest level names inside left =
    let test = λ (x : List ℕ). get_or x level 0 == get_or nearest level 0 in
    record {
      here = among-filter_from test names nearest left.here (eq-eqb (get_or nearest level 0) (get_or nearest level 0) refl);
      valid = λ x h. left.valid x (among-filter test names x h).0;
      share = λ x h.
          let w = among-filter test names x h in
          share_more p level nearest x (left.valid nearest left.here) (left.valid x w.0) inside (left.share x w.0)
          (sym (eqb-true (get_or x level 0) (get_or nearest level 0) w.1));
      near = λ x h. left.near x (among-filter test names x h).0;
    }

narrowed_to_nearest : (p : SettingsValue) (object nearest more : List ℕ) (level : ℕ) (names : List (List ℕ))
    → IsName p object → level + length more ≡ p.digits
    → more ≡ drop level object → AreLeft p object nearest level names
    → first_of (narrowed p.base level more names) ≡ Some nearest
narrowed_to_nearest p object nearest [] level names object_name len is left =
    only_left names nearest left.here
    (λ x h. sym (share_all p level nearest x (left.valid nearest left.here) (left.valid x h) (omega arith) (left.share x h)))
narrowed_to_nearest p object nearest (wanted ∷ more) level names object_name len is left =
    let inside : level < p.digits = omega arith in
    let split = is ∙ drop_more object level 0 (omega (arith, object_name.len)) in
    let head : wanted ≡ get_or object level 0 = cc in
    let tail : more ≡ drop (level + 1) object = cc in
    let digit = ap (first_cyclic p.base (has_digit names level)) head ∙ kept_digit p object nearest level names object_name inside left in
    rw digit (narrowed_to_nearest p object nearest more (level + 1)
    (filter (λ x. get_or x level 0 == get_or nearest level 0) names) object_name (omega arith) tail
    (left_more p object nearest level names inside left))

narrowed-nil : (base level : ℕ) (more : List ℕ) → narrowed base level more [] ≡ []
narrowed-nil base level [] = refl
narrowed-nil base level (wanted ∷ more) = narrowed-nil base (level + 1) more

-- no names have no root
pub root-nil : (base : ℕ) (object : List ℕ) → root base [] object ≡ None
root-nil base object = rw (narrowed-nil base 0 object) refl

-- a name that no other one comes before is the root
pub nearest_is_root : (p : SettingsValue) (names : List (List ℕ)) (object nearest : List ℕ) → AreNames p names
    → IsName p object → Among nearest names
    → ((x : List ℕ) → Among x names → IsAsNear p.base object nearest x) → root p.base names object ≡ Some nearest
nearest_is_root p names object nearest valid object_name here near =
    narrowed_to_nearest p object nearest object 0 names object_name (omega (arith, object_name.len)) refl
    (record { here = here; valid = valid; share = λ x h. refl; near = near })

-- The nearest of the names that were seen so far: the first one, and as many of the others as the index says.
pub record IsNearestSeen (p : SettingsValue) (object : List ℕ) (names : List (List ℕ)) (first : List ℕ) (others : List (List ℕ)) (i : ℕ)
    (nearest : List ℕ) : Type 0 where
  pub among : Among nearest names
  pub near : All (IsAsNear p.base object nearest) (first ∷ take i others)

pub first_is_nearest : (p : SettingsValue) (object : List ℕ) (names : List (List ℕ)) (first : List ℕ)
    (others : List (List ℕ)) → names ≡ first ∷ others
    → IsNearestSeen p object names first others 0 first
first_is_nearest p object names first others split =
    record {
      among = rw split (inl refl);
      near = All-cons (IsAsNear p.base object first) first [] (as_near_same p.base object first first (length object) (omega arith) refl)
          (All-nil (IsAsNear p.base object first));
    }

pub item_among : (names : List (List ℕ)) (first : List ℕ) (others : List (List ℕ)) (i : ℕ) (item : List ℕ)
    → names ≡ first ∷ others → i < length others → item ≡ get_or others i item
    → Among item names
item_among names first others i item split inside is = rw split (inr (among_item others i item inside is))

one_more : (P : List ℕ → Type 0) (first : List ℕ) (others : List (List ℕ)) (i : ℕ) (item : List ℕ) → i < length others
    → item ≡ get_or others i item
    → All P (first ∷ take i others) → P item → All P (first ∷ take (i + 1) others)
one_more P first others i item inside is all here =
    let pushed = All-push P (first ∷ take i others) item all here in
    rw (take_more others i item inside, ← is) pushed

-- the next name is no nearer
pub nearest_stays : (p : SettingsValue) (object : List ℕ) (names : List (List ℕ)) (first : List ℕ) (others : List (List ℕ))
    (i : ℕ) (item nearest : List ℕ) → i < length others
    → item ≡ get_or others i item → IsNearestSeen p object names first others i nearest
    → IsAsNear p.base object nearest item → IsNearestSeen p object names first others (i + 1) nearest
nearest_stays p object names first others i item nearest inside is seen near =
    record { among = seen.among; near = one_more (IsAsNear p.base object nearest) first others i item inside is seen.near near }

-- the next name is as near
pub nearest_changes : (p : SettingsValue) (object : List ℕ) (names : List (List ℕ)) (first : List ℕ)
    (others : List (List ℕ)) (i : ℕ) (item nearest : List ℕ) → AreNames p names → IsName p object
    → names ≡ first ∷ others → i < length others → item ≡ get_or others i item
    → IsNearestSeen p object names first others i nearest → IsAsNear p.base object item nearest
    → IsNearestSeen p object names first others (i + 1) item
nearest_changes p object names first others i item nearest valid object_name split inside is seen near =
    let among = item_among names first others i item split inside is in
    let before = All-among (IsAsNear p.base object item) (first ∷ take i others)
    (λ x h.
    let x_among : Among x names = rw split (elim h [ inl e ↦ inl e | inr later ↦ inr (among-take i others x later) ]) in
    as_near-trans p object item nearest x object_name (valid item among) (valid nearest seen.among) (valid x x_among) near
    (among-All (IsAsNear p.base object nearest) (first ∷ take i others) seen.near x h)) in
    record {
      among = among;
      near = one_more (IsAsNear p.base object item) first others i item inside is before
          (as_near_same p.base object item item (length object) (omega arith) refl);
    }

-- all names were seen
pub nearest_seen_is_root : (p : SettingsValue) (object : List ℕ) (names : List (List ℕ)) (first : List ℕ)
    (others : List (List ℕ)) (i : ℕ) (nearest : List ℕ) → AreNames p names → IsName p object
    → names ≡ first ∷ others → length others ≤ i → IsNearestSeen p object names first others i nearest
    → root p.base names object ≡ Some nearest
nearest_seen_is_root p object names first others i nearest valid object_name split end seen =
    let all = take_all i others end in
    let near : All (IsAsNear p.base object nearest) (first ∷ others) = rw all at seen.near in
    nearest_is_root p names object nearest valid object_name seen.among
    (λ x h. among-All (IsAsNear p.base object nearest) (first ∷ others) near x (rw split at h))
