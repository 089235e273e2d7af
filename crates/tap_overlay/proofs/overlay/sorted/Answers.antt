use Rattle.std.proofs.Common.{ℕ, List, ◌∙◌, subst}
use Rattle.std.specs.List.Sorted.{IsPermutation}
use Rattle.tap_name.proofs.Sorted.{sorted-is}
use Rattle.tap_overlay.proofs.overlay.sorted.Goals as goal

pub returns : goal.returns
returns c =
    let From : List (List ℕ) → Type 0 = λ l. IsPermutation l c.sort.new.self.items in
    let copied = c.in_ok-names.ensures.items ∙ c.as_slice.ensures in
    c.from_vec.ensures
    ∙ sorted-is c.args.members.now c.sort.new.self.items (subst From copied c.in_ok-sort.ensures.permutation) c.in_ok-sort.ensures.sorted
