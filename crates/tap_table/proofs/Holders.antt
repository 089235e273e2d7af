-- The holders that have a link, one after another.
-- Cited above: on
use Rattle.std.proofs.Common.{◌≡◌, ℕ, ◌+◌, ◌<◌, ◌≤◌, suc, None, Some, List, ◌∷◌, length, get_or, slice_get, map, filter, drop, Bool, true, false, arith, ap, sym, refl, ◌∙◌}
use Rattle.std.proofs.lemmas.List.{drop_all, drop_more, length-map}
use Rattle.std.specs.List.{count_by}
use Rattle.std.proofs.lemmas.List.Sums.{length-filter}
use Rattle.tap_register.specs.declared.registers.Entry.{Entry}
use Rattle.tap_table.proofs.RowLists.{got}

-- the names of those that have a link
abbrev pub on : List (Entry (List ℕ) Bool) → List (List ℕ)
on holders = map (λ e. e.key) (filter (λ e. e.value) holders)

pub length-on : (holders : List (Entry (List ℕ) Bool)) → length (on holders) ≡ count_by (λ e. e.value) holders
length-on holders = length-map (filter (λ e. e.value) holders) _ ∙ length-filter (λ e. e.value) holders

-- the holder at a place among those from an index on is this one of all
abbrev pub IsRest : List (Entry (List ℕ) Bool) → ℕ → ℕ → ℕ → Type 0
IsRest holders i n left = slice_get (on (drop n holders)) left ≡ slice_get (on holders) i

pub found_here : (holders : List (Entry (List ℕ) Bool)) (i n : ℕ) (e : Entry (List ℕ) Bool) → n < length holders → e ≡ get_or holders n e
    → e.value ≡ true → IsRest holders i n 0 → slice_get (on holders) i ≡ Some e.key
found_here holders i n e within is has rest =
    let parts : drop n holders ≡ e ∷ drop (n + 1) holders = drop_more holders n e within ∙ ap (λ x. x ∷ drop (n + 1) holders) (sym is) in
    let here : slice_get (on (drop n holders)) 0 ≡ Some e.key = rw (parts, has) refl in
    sym rest ∙ here

pub later : (holders : List (Entry (List ℕ) Bool)) (i n left : ℕ) (e : Entry (List ℕ) Bool) → n < length holders → e ≡ get_or holders n e
    → e.value ≡ true → IsRest holders i n (suc left) → IsRest holders i (n + 1) left
later holders i n left e within is has rest =
    let parts : drop n holders ≡ e ∷ drop (n + 1) holders = drop_more holders n e within ∙ ap (λ x. x ∷ drop (n + 1) holders) (sym is) in
    let here : slice_get (on (drop n holders)) (suc left) ≡ slice_get (on (drop (n + 1) holders)) left = rw (parts, has) refl in
    sym here ∙ rest

pub skipped : (holders : List (Entry (List ℕ) Bool)) (i n left : ℕ) (e : Entry (List ℕ) Bool) → n < length holders → e ≡ get_or holders n e
    → e.value ≡ false → IsRest holders i n left → IsRest holders i (n + 1) left
skipped holders i n left e within is has rest =
    let parts : drop n holders ≡ e ∷ drop (n + 1) holders = drop_more holders n e within ∙ ap (λ x. x ∷ drop (n + 1) holders) (sym is) in
    let here : slice_get (on (drop n holders)) left ≡ slice_get (on (drop (n + 1) holders)) left = rw (parts, has) refl in
    sym here ∙ rest

pub within : (holders : List (Entry (List ℕ) Bool)) (i n left : ℕ) → i < length (filter (λ e. e.value) holders) → IsRest holders i n left
    → length holders ≤ n → ⊥
within holders i n left inside rest past =
    let len : length (on holders) ≡ length (filter (λ e. e.value) holders) = length-map (filter (λ e. e.value) holders) _ in
    let key = got (on holders) i (omega arith) in
    let none : slice_get (on (drop n holders)) left ≡ None = rw (drop_all n holders past) refl in
    let wrong : None ≡ Some key.0 = sym none ∙ rest ∙ key.1 in
    cc
