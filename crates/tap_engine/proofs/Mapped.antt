-- A list that is mapped element by element.
use Rattle.std.proofs.Common.{◌≡◌, List, [], ◌∷◌, ◌++◌, map, ap, ◌∙◌}
use Rattle.tap_table.proofs.OneAdded.{added}

-- The first element left is mapped and added: what is done, and what is left, still make the whole.
pub one_more : {X Y : Type 0} (f : X → Y) (x : X) (left rest : List X) (done more whole : List Y) → left ≡ x ∷ rest
    → done ++ map f left ≡ whole → more ≡ done ++ f x ∷ [] → more ++ map f rest ≡ whole
one_more f x left rest done more whole first was grown =
    ap (λ l. l ++ map f rest) grown ∙ added done (f x ∷ []) (map f rest) (map f left) whole (ap (map f) first) was
