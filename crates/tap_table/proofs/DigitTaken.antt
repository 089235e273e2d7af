-- The first digit that passes, as a loop finds it, and where a message stays for good.
use Rattle.std.proofs.Common.{◌≡◌, ◌↔◌, inl, inr, ℕ, ◌+◌, ◌-◌, ◌<◌, ◌≤◌, Bool, true, false, zero, suc, List, [], ◌∷◌, length, drop, get_or, All, Option, None, Some, arith, sym, subst, refl, ◌∙◌, eqb, is_some}
use Rattle.std.proofs.lemmas.Bool.{cases_Bool, eq-eqb, eqb-true, eqb-false, or_cases, true≢false}
use Rattle.std.proofs.lemmas.List.{get_or-drop, length-drop}
use Rattle.std.proofs.lemmas.List.Elements.{All-drop, All-head, All-tail}
use Rattle.tap_name.specs.Cyclic.{first_from, next_digit}
use Rattle.tap_name.specs.Name.{IsName}
use Rattle.tap_name.proofs.Cyclic.{first_cyclic-passes}
use Rattle.tap_table.specs.declared.next.Next.TheVariants.{Root}
use Rattle.tap_table.specs.Next.{TakesOwnFrom, can_take, hop_to, next_from, primary_at, taken_digit}
use Rattle.tap_table.specs.Table.{IsTable, TableValue}

pub taken_later : (base : ℕ) (p : ℕ → Bool) (left less digit : ℕ) → left ≡ suc less → p digit ≡ false
    → first_from base p left digit ≡ first_from base p less (next_digit base digit)
taken_later base p left less digit is h = rw (is, h) refl

pub taken_now : (base : ℕ) (p : ℕ → Bool) (left less digit : ℕ) → left ≡ suc less → p digit ≡ true
    → first_from base p left digit ≡ digit
taken_now base p left less digit is h = rw (is, h) refl

-- a digit that is taken and is not the owner's own leads to a hop
leads_on : (found : Option (List ℕ)) (level : ℕ) → is_some found ≡ true → hop_to found level ≡ Root → ⊥
leads_on None level some stays = true≢false (sym some)
leads_on (Some to) level some stays = cc

pub other_leads_on : (t : TableValue) (level wanted : ℕ) → IsTable t → level < t.settings.digits → wanted < t.settings.base
    → eqb (get_or t.owner level 0) (taken_digit t level wanted) ≡ false
    → is_some (primary_at t level (taken_digit t level wanted)) ≡ true
other_leads_on t level wanted valid inside below other =
    let own = get_or t.owner level 0 in
    let own_below = valid.owner.below level 0 (omega (arith, inside, valid.owner.len)) in
    let own_passes : can_take t level own ≡ true = rw (eq-eqb own own refl) refl in
    let passes = first_cyclic-passes t.settings.base (can_take t level) own wanted own_below own_passes below in
    elim (or_cases (eqb own (taken_digit t level wanted)) (is_some (primary_at t level (taken_digit t level wanted))) passes) [
      | inl same ↦ absurd (true≢false (sym same ∙ other))
      | inr some ↦ some
    ]

-- the message stays exactly where the owner's own digit is taken at each level that is left
abbrev OwnAt : TableValue → ℕ → List ℕ → Type 0
OwnAt t level digits = (k : ℕ) → k < length digits → taken_digit t (level + k) (get_or digits k 0) ≡ get_or t.owner (level + k) 0

own_cons : (t : TableValue) (level wanted : ℕ) (more : List ℕ) → taken_digit t level wanted ≡ get_or t.owner level 0
    → OwnAt t (level + 1) more
    → OwnAt t level (wanted ∷ more)
own_cons t level wanted more first rest zero inside =
    let At : ℕ → Type 0 = λ n. taken_digit t n wanted ≡ get_or t.owner n 0 in
    let at : level ≡ level + 0 = omega arith in
    subst At at first
own_cons t level wanted more first rest (suc k) inside =
    let At : ℕ → Type 0 = λ n. taken_digit t n (get_or more k 0) ≡ get_or t.owner n 0 in
    let at : (level + 1) + k ≡ level + suc k = omega arith in
    subst At at (rest k (omega arith))

own_first : (t : TableValue) (level wanted : ℕ) (more : List ℕ) → OwnAt t level (wanted ∷ more)
    → taken_digit t level wanted ≡ get_or t.owner level 0
own_first t level wanted more all =
    let At : ℕ → Type 0 = λ n. taken_digit t n wanted ≡ get_or t.owner n 0 in
    let at : level + 0 ≡ level = omega arith in
    subst At at (all 0 (omega arith))

own_after : (t : TableValue) (level wanted : ℕ) (more : List ℕ) → OwnAt t level (wanted ∷ more) → OwnAt t (level + 1) more
own_after t level wanted more all k inside =
    let At : ℕ → Type 0 = λ n. taken_digit t n (get_or more k 0) ≡ get_or t.owner n 0 in
    let at : level + suc k ≡ (level + 1) + k = omega arith in
    subst At at (all (suc k) (omega arith))

stays : (t : TableValue) → IsTable t → (digits : List ℕ) (level : ℕ) → level + length digits ≡ t.settings.digits
    → All (λ d. d < t.settings.base) digits
    → (next_from t level digits ≡ Root → OwnAt t level digits) × (OwnAt t level digits → next_from t level digits ≡ Root)
stays t valid [] level len below = (λ _ k inside. absurd (omega arith), λ _. refl)
stays t valid (wanted ∷ more) level len below =
    let taken = taken_digit t level wanted in
    let own = get_or t.owner level 0 in
    let digit = All-head (λ d. d < t.settings.base) wanted more below in
    let rest = stays t valid more (level + 1) (omega arith) (All-tail (λ d. d < t.settings.base) wanted more below) in
    elim (cases_Bool (eqb own taken)) [
      | inl e ↦
          let same = eqb-true own taken e in
          let further : next_from t level (wanted ∷ more) ≡ next_from t (level + 1) more = rw e refl in (
            λ root. own_cons t level wanted more (sym same) (rest.0 (sym further ∙ root)),
            λ all. further ∙ rest.1 (own_after t level wanted more all),
          )
      | inr e ↦
          let some = other_leads_on t level wanted valid (omega arith) digit e in
          let hop : next_from t level (wanted ∷ more) ≡ hop_to (primary_at t level taken) (level + 1) = rw e refl in (
            λ root. absurd (leads_on (primary_at t level taken) (level + 1) some (sym hop ∙ root)),
            λ all. absurd (eqb-false own taken e (sym (own_first t level wanted more all))),
          )
    ]

pub root_exactly : (t : TableValue) (level : ℕ) (object : List ℕ) → IsTable t → IsName t.settings object → level ≤ t.settings.digits
    → (next_from t level (drop level object) ≡ Root) ↔ TakesOwnFrom t level object
root_exactly t level object valid is_name inside =
    let len = length-drop level object in
    let both = stays t valid (drop level object) level (omega (arith, len, is_name.len))
    (All-drop (λ d. d < t.settings.base) level object is_name.below) in
    let At : ℕ → ℕ → Type 0 = λ n d. taken_digit t n d ≡ get_or t.owner n 0 in (
      λ root at from to.
          let k_is : level + (at - level) ≡ at = omega arith in
          let own = both.0 root (at - level) (omega (arith, len)) in
          let here : At (level + (at - level)) (get_or object (level + (at - level)) 0) =
          subst (At (level + (at - level))) (get_or-drop level object (at - level) 0) own in
          let AtLevel : ℕ → Type 0 = λ n. At n (get_or object n 0) in
          subst AtLevel k_is here,
      λ all. both.1 (λ k within. subst (At (level + k)) (sym (get_or-drop level object k 0))
          (all (level + k) (omega arith) (omega (arith, len)))),
    )
