-- Two names or ways that a test says are the same are one.
-- Cited above: name_is, name_itself
use Rattle.std.proofs.Common.{◌≡◌, ℕ, true, List, ap, sym, ◌∙◌}
use Rattle.std.proofs.lemmas.Bool.{and_parts, and_from}
use Rattle.std.specs.Cmp.Lexicographic.{same_text}
use Rattle.std.proofs.lemmas.Cmp.{nat_list_eq_equiv}
use Rattle.tap_carry.specs.Names.{is_name}
use Rattle.tap_packets.specs.Sequence.{Way, way_between, is_way}

pub name_is : (a b : List ℕ) → is_name a b ≡ true → a ≡ b
name_is a b same = same_text a b (sym same)

pub name_itself : (a : List ℕ) → is_name a a ≡ true
name_itself a = nat_list_eq_equiv.refl a

pub way_is : (a b : Way) → is_way a b ≡ true → a ≡ b
way_is a b same =
    let parts = and_parts (is_name a.from b.from) (is_name a.to b.to) same in
    ap (λ from. way_between from a.to) (name_is a.from b.from parts.0) ∙ ap (way_between b.from) (name_is a.to b.to parts.1)

pub way_itself : (a : Way) → is_way a a ≡ true
way_itself a = and_from (is_name a.from a.from) (is_name a.to a.to) (name_itself a.from) (name_itself a.to)
