use Rattle.std.proofs.Common.{false, rules}
use Rattle.std.proofs.lemmas.Map.Made.{map_same_pairs}
use Rattle.tap_pointer.specs.Pointers.{with_published}
use Rattle.tap_pointer.proofs.walk.withdraw_all.Goals as goal

pub returns : goal.returns
returns c = map_same_pairs _ (λ s. with_published s false) _ (λ k v b w f' t. search rules) _ _ c.retain.ensures.filtered
