-- Lists of names and of pairs without one of them.
use Rattle.std.proofs.Common.{◌≡◌, ℕ, Bool, true, false, not, List, [], ◌∷◌, filter, nat_eq, refl, ap, sym, ◌∙◌, cond}
use Rattle.std.specs.Prelude.{◌&&◌, ◌||◌}
use Rattle.std.specs.Cmp.Lexicographic.{pointwise}
use Rattle.std.proofs.lemmas.List.Elements.{filter_agree}
use Rattle.std.proofs.lemmas.Slice.Eq.{bytes_eq-Decides}
use Rattle.tap_name.specs.Names.{has_name, names_without}
use Rattle.tap_history.proofs.Less.{less_by-none}
use Rattle.tap_ledger.proofs.Conditions.{and_no, or_no, passes_or}

-- without one name
pub without_one : (name : List ℕ) (names : List (List ℕ))
    → filter (λ other. not (pointwise nat_eq name other)) names ≡ names_without names (name ∷ [])
without_one name names =
    filter_agree (λ other. not (pointwise nat_eq name other)) (λ other. not (has_name (name ∷ []) other))
    (λ other. ap not (sym (or_no (pointwise nat_eq name other)))) names

-- without any
pub without_none : (names : List (List ℕ)) → names ≡ names_without names []
without_none names = sym (less_by-none (pointwise nat_eq) names)

-- a name is among those of which the first one stays or goes
has_first : (passes : Bool) (x : List ℕ) (names : List (List ℕ)) (q : List ℕ)
    → has_name (cond {A = List (List ℕ)} passes (x ∷ names) names) q
    ≡ cond {A = Bool} passes (pointwise nat_eq x q || has_name names q) (has_name names q)
has_first true x names q = refl
has_first false x names q = refl

-- a name goes, and others stay
pub name_goes : (name : List ℕ) (names : List (List ℕ)) (q : List ℕ)
    → has_name (filter (λ other. not (pointwise nat_eq name other)) names) q ≡ (not (pointwise nat_eq name q) && has_name names q)
name_goes name [] q = and_no (not (pointwise nat_eq name q))
name_goes name (x ∷ names) q =
    let stays : List ℕ → Bool = λ other. not (pointwise nat_eq name other) in
    has_first (stays x) x (filter (λ other. not (pointwise nat_eq name other)) names) q
    ∙ ap (λ f. cond {A = Bool} (stays x) (pointwise nat_eq x q || f) f) (name_goes name names q)
    ∙ passes_or (stays x) (pointwise nat_eq x q) (stays q) (has_name names q) (λ same. ap stays ((bytes_eq-Decides x q).0 same))
