use Rattle.std.proofs.Common.{◌≡◌, ◌≢◌, inl, inr, ℕ, ◌<◌, zero, suc, false, List, [], ◌∷◌, length, get_or, nat_eq, arith, sym, ◌∙◌}
use Rattle.std.specs.Cmp.Lexicographic.{pointwise}
use Rattle.std.specs.List.{list_any}
use Rattle.std.proofs.lemmas.Bool.{cases_Bool, true≢false}
use Rattle.std.proofs.lemmas.List.Elements.{All-push}
use Rattle.std.proofs.lemmas.List.Quantifiers.{all_pairs_push}
use Rattle.std.proofs.lemmas.Slice.Eq.{bytes_eq-Decides}
use Rattle.tap_name.specs.Name.{IsName}
use Rattle.tap_test_parts.proofs.surrogate.names_of.Goals as goal

-- none of the names is this one
none_is : (names : List (List ℕ)) (name : List ℕ) → list_any (λ y. pointwise nat_eq y name) names ≡ false → (k : ℕ) (d : List ℕ)
    → k < length names → get_or names k d ≢ name
none_is [] name none k d within = absurd (omega arith)
none_is (x ∷ xs) name none zero d within =
    elim (cases_Bool (pointwise nat_eq x name)) [
      | inl e ↦ absurd (true≢false (rw e at none))
      | inr e ↦ λ same. true≢false (sym ((bytes_eq-Decides x name).1 same) ∙ e)
    ]
none_is (x ∷ xs) name none (suc k) d within =
    elim (cases_Bool (pointwise nat_eq x name)) [
      | inl e ↦ absurd (true≢false (rw e at none))
      | inr e ↦ none_is xs name (rw e at none) k d (omega arith)
    ]

pub loop-text-preserved : goal.loop-text-preserved
loop-text-preserved g c =
    let names = c.loop-text.names in
    let name = c.name_of-name.result in
    let new : c.contains.result ≡ false = search in
    let none : list_any (λ y. pointwise nat_eq y name) names ≡ false = rw c.as_slice.ensures at (sym c.contains.ensures.value ∙ new) in
    rw c.push.ensures (record {
      names = All-push (IsName c.args.settings.now) names name c.loop-text.invariant.names c.name_of-name.ensures;
      distinct = all_pairs_push (λ x y. x ≢ y) names name c.loop-text.invariant.distinct (none_is names name none);
    })
