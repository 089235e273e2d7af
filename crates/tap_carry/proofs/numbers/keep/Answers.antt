use Rattle.std.proofs.Common.{◌≡◌, ℕ, false, List, Some, slice_get, cond, subst}
use Rattle.std.proofs.lemmas.Cmp.{nat_list_eq_equiv}
use Rattle.std.specs.Map.{KeepsOthers, lookup}
use Rattle.indexmap.specs.IndexMap.{keys}
use Rattle.indexmap.proofs.CallerLemmas.{updates-with_value_at}
use Rattle.tap_carry.specs.Names.{is_name}
use Rattle.tap_carry.proofs.Ways.{entry-at}
use Rattle.tap_carry.proofs.numbers.keep.Goals as goal

pub returns-in-Some-clause-updates : goal.returns-in-Some-clause-updates
returns-in-Some-clause-updates c =
    let e = c.pair_mut-kept.ensures in
    let there : slice_get (keys c.args.numbers.now) c.in-Some.at ≡ Some c.args.name = rw c.in-Some.is at c.requires in
    updates-with_value_at c.args.numbers.now c.in-Some.at c.args.number nat_list_eq_equiv e.unique c.args.name _
    (entry-at c.args.numbers.now.entries c.args.name _ c.in-Some.at _ there e.value)

pub returns-in_ok-insert-in-None-clause-updates : goal.returns-in_ok-insert-in-None-clause-updates
returns-in_ok-insert-in-None-clause-updates c =
    let name = c.args.name in
    let after = c.insert.new.self.entries in
    subst (λ (before : List (List ℕ × ℕ)).
    ((q : List ℕ) → lookup (is_name q) after ≡ cond (is_name name q) (Some c.args.number) (lookup (is_name q) before))
    × (lookup (is_name name) after ≡ Some c.args.number)
    × ((q : List ℕ) → is_name name q ≡ false → lookup (is_name q) after ≡ lookup (is_name q) before)
    × KeepsOthers is_name (is_name name) before after)
    c.make_first_room.ensures c.in_ok-insert-in-None.ensures.updates
