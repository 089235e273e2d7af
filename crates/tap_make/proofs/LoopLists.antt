-- lists that a loop makes from a function of its index
use Rattle.std.proofs.Common.{◌≡◌, ℕ, ◌+◌, ◌<◌, List, [], ◌∷◌, ◌++◌, map, slice_get, Some, flat_map, sym, ap, ◌∙◌, arith, append_assoc, append-nil}
use Rattle.std.specs.List.{range_with_len}
use Rattle.std.proofs.lemmas.List.{map-id}
use Rattle.std.proofs.lemmas.List.Concat.{flat_map-append}
use Rattle.std.proofs.lemmas.List.FromFn.{get_or-map-range_with_len, length-map-range_with_len, map-range_with_len_more}
use Rattle.std.proofs.lemmas.Option.{slice_get-get_or}

-- one element more
pub more_mapped : {X : Type 0} (f : ℕ → X) (old before after : List X) (i : ℕ) (x : X) → before ≡ old ++ map f (range_with_len 0 i)
    → after ≡ before ++ x ∷ [] → x ≡ f i → after ≡ old ++ map f (range_with_len 0 (i + 1))
more_mapped f old before after i x so_far pushed is =
    pushed ∙ ap (λ l. l ++ x ∷ []) so_far ∙ append_assoc old (map f (range_with_len 0 i)) (x ∷ [])
    ∙ ap (λ y. old ++ (map f (range_with_len 0 i) ++ y ∷ [])) is
    ∙ ap (λ l. old ++ l) (sym (map-range_with_len_more f 0 i i (omega arith)))

-- one number more
range_more : (i : ℕ) → range_with_len 0 (i + 1) ≡ range_with_len 0 i ++ i ∷ []
range_more i =
    sym (map-id (range_with_len 0 (i + 1))) ∙ map-range_with_len_more (λ (k : ℕ). k) 0 i i (omega arith)
    ∙ ap (λ l. l ++ i ∷ []) (map-id (range_with_len 0 i))

-- one part more
pub more_flat : {X : Type 0} (f : ℕ → List X) (old before after part : List X) (i : ℕ)
    → before ≡ old ++ flat_map f (range_with_len 0 i) → after ≡ before ++ part → part ≡ f i
    → after ≡ old ++ flat_map f (range_with_len 0 (i + 1))
more_flat f old before after part i so_far added is =
    added ∙ ap (λ l. l ++ part) so_far ∙ append_assoc old (flat_map f (range_with_len 0 i)) part
    ∙ ap (λ l. old ++ (flat_map f (range_with_len 0 i) ++ l)) (is ∙ sym (append-nil (f i)))
    ∙ ap (λ l. old ++ l) (sym (ap (flat_map f) (range_more i) ∙ flat_map-append f (range_with_len 0 i) (i ∷ [])))

-- the element at a place
pub made_at : {X : Type 0} (f : ℕ → X) (n k : ℕ) (x : X) → k < n → slice_get (map f (range_with_len 0 n)) k ≡ Some x → x ≡ f k
made_at f n k x within e =
    let len = length-map-range_with_len f 0 n in
    let got = slice_get-get_or (map f (range_with_len 0 n)) k x (omega (arith, len)) in
    let at = get_or-map-range_with_len f 0 n k k x within (omega arith) in
    let same : Some x ≡ Some (f k) = sym e ∙ got ∙ ap Some at in
    cc
