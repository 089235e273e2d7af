-- Names, and pairs of a name and a number, as keys: a query finds a key exactly if they are the same.
use Rattle.std.proofs.Common.{◌≡◌, ℕ, true, false, Bool, nat_eq, ◌&&◌, List, [], ◌∷◌, slice_get, Option, Some, unwrap_or, refl, sym, ap, ◌∙◌, cond, true≢false, if◌then◌else◌}
use Rattle.std.specs.List.{list_any}
use Rattle.std.specs.Map.{keys_of, lookup, lookup_key}
use Rattle.std.specs.Option.{option_map}
use Rattle.std.specs.Cmp.Lexicographic.{same_text}
use Rattle.std.proofs.lemmas.Cmp.{nat_list_eq_equiv}
use Rattle.std.proofs.lemmas.Bool.{and_parts, eqb-true, eq-eqb}
use Rattle.std.proofs.lemmas.Option.{slice_get-map}
use Rattle.tap_carry.specs.Names.{is_name, is_same, is_same_way, number_of}
use Rattle.tap_carry.specs.Inbox.{has_pair}

pub same_name : (x y : List ℕ) → is_name x y ≡ true → x ≡ y
same_name x y e = same_text x y (sym e)

pub name-itself : (x : List ℕ) → is_name x x ≡ true
name-itself x = nat_list_eq_equiv.refl x

-- the name that is found for a name is that name
found-name : (numbers : List (List ℕ × ℕ)) (name found : List ℕ) → lookup_key (is_name name) numbers ≡ Some found → found ≡ name
found-name [] name found e = cc
found-name (p ∷ numbers) name found e = by (is_name name p.0) refl e (found-name numbers name found)
  where
    by : (b : Bool) → is_name name p.0 ≡ b → cond b (Some p.0) (lookup_key (is_name name) numbers) ≡ Some found
        → (lookup_key (is_name name) numbers ≡ Some found → found ≡ name) → found ≡ name
    by true is e rest = let first : p.0 ≡ found = cc in sym first ∙ sym (same_name name p.0 is)
    by false is e rest = rest e

-- so at the place where a name is found stands that name
pub found-at : (numbers : List (List ℕ × ℕ)) (name found : List ℕ) (at number : ℕ) → lookup_key (is_name name) numbers ≡ Some found
    → slice_get numbers at ≡ Some (found, number) → slice_get (keys_of numbers) at ≡ Some name
found-at numbers name found at number key entry =
    slice_get-map (λ (p : List ℕ × ℕ). p.0) numbers at
    ∙ ap (option_map (λ (p : List ℕ × ℕ). p.0)) entry
    ∙ ap Some (found-name numbers name found key)

-- and at the place of a name stands its number
pub entry-at : (numbers : List (List ℕ × ℕ)) (name found : List ℕ) (at number : ℕ) → slice_get (keys_of numbers) at ≡ Some name
    → slice_get numbers at ≡ Some (found, number) → slice_get numbers at ≡ Some (name, number)
entry-at numbers name found at number key entry =
    let both : Some found ≡ Some name =
    sym (ap (option_map (λ (p : List ℕ × ℕ). p.0)) entry) ∙ sym (slice_get-map (λ (p : List ℕ × ℕ). p.0) numbers at) ∙ key in
    let same : found ≡ name = cc in
    entry ∙ ap (λ (x : List ℕ). Some (x, number)) same

-- what is written at a name is its number, and other names keep theirs
pub number-updated : (before after : List (List ℕ × ℕ)) (name : List ℕ) (number : ℕ)
    → ((q : List ℕ) → lookup (is_name q) after ≡ cond (is_name name q) (Some number) (lookup (is_name q) before))
    → (x : List ℕ) → number_of after x ≡ (if is_name name x then number else number_of before x)
number-updated before after name number updates x =
    ap (λ (o : Option ℕ). unwrap_or o 0) (updates x) ∙ pick (is_name name x) (lookup (is_name x) before)
  where
    pick : (b : Bool) (o : Option ℕ) → unwrap_or (cond b (Some number) o) 0 ≡ cond b number (unwrap_or o 0)
    pick true o = refl
    pick false o = refl

-- a pair is put into a set or taken out of it
pub pair-updated : (before after : List (List ℕ × ℕ)) (name : List ℕ) (number : ℕ) (there : Bool)
    → ((q : List ℕ × ℕ) → list_any (is_same_way q) after ≡ cond (is_same_way (name, number) q) there (list_any (is_same_way q) before))
    → (x : List ℕ) (k : ℕ) → has_pair after x k ≡ cond (is_same name number x k) there (has_pair before x k)
pair-updated before after name number there updates x k = updates (x, k)

-- two pairs that are the same are one
pub one_pair : (x : List ℕ) (k : ℕ) (y : List ℕ) (m : ℕ) → is_same x k y m ≡ true → (x ≡ y) × (k ≡ m)
one_pair x k y m e = let both = and_parts (is_name x y) (nat_eq k m) e in (same_name x y both.0, eqb-true k m both.1)

pub pair-itself : (x : List ℕ) (k : ℕ) → is_same x k x k ≡ true
pair-itself x k = λ i. name-itself x i && eq-eqb k k refl i

-- either way round
pub same-turned : (x : List ℕ) (k : ℕ) (y : List ℕ) (m : ℕ) → is_same x k y m ≡ is_same y m x k
same-turned x k y m = by (is_same x k y m) refl (is_same y m x k) refl
  where
    by : (p : Bool) → is_same x k y m ≡ p → (q : Bool) → is_same y m x k ≡ q → p ≡ q
    by true e true f = refl
    by false e false f = refl
    by true e false f =
        let one = one_pair x k y m e in
        let there : is_same y m x k ≡ true = rw (one.0, one.1) (pair-itself y m) in
        absurd (true≢false (sym there ∙ f))
    by false e true f =
        let one = one_pair y m x k f in
        let there : is_same x k y m ≡ true = rw (one.0, one.1) (pair-itself x k) in
        absurd (true≢false (sym there ∙ e))
