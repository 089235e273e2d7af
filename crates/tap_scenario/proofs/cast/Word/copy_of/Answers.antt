use Rattle.std.proofs.Common.{◌≡◌, ◌-◌, ◌++◌, ℕ, List, length, drop, replicate, sym, subst, refl}
use Rattle.std.proofs.lemmas.List.{drop-replicate}
use Rattle.tap_name.specs.Padded.{padded}
use Rattle.tap_scenario.specs.Word.{KeepsWord, KeepsWord-padded}
use Rattle.tap_scenario.proofs.cast.Word.copy_of.Goals as goal

pub invariant_of-result : goal.invariant_of-result
invariant_of-result c =
    let bytes = c.args.bytes.now in
    let zeros : drop (length bytes) (replicate 32 0) ≡ replicate (32 - length bytes) 0 = drop-replicate {X = ℕ} (length bytes) 32 0 in
    let places : c.copy_from_slice.new.self ++ drop (length bytes) (replicate 32 0) ≡ padded 32 bytes =
    rw (c.copy_from_slice.ensures.after, zeros) refl in
    let Kept : List ℕ → Type 0 = λ all. KeepsWord all (length bytes) in
    subst Kept (sym places) (KeepsWord-padded bytes c.requires)
