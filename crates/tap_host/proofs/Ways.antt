-- Names, and pairs of a name and a number, as keys: a query finds a key exactly if they are the same.
use Rattle.std.proofs.Common.{◌≡◌, ℕ, true, nat_eq, ◌&&◌, List, refl, sym}
use Rattle.std.specs.Cmp.Lexicographic.{same_text}
use Rattle.std.proofs.lemmas.Cmp.{nat_list_eq_equiv}
use Rattle.std.proofs.lemmas.Bool.{and_parts, eqb-true, eq-eqb}
use Rattle.tap_carry.specs.Names.{is_name, is_same}

pub same_name : (x y : List ℕ) → is_name x y ≡ true → x ≡ y
same_name x y e = same_text x y (sym e)

pub name-itself : (x : List ℕ) → is_name x x ≡ true
name-itself x = nat_list_eq_equiv.refl x

-- two pairs that are the same are one
pub one_pair : (x : List ℕ) (k : ℕ) (y : List ℕ) (m : ℕ) → is_same x k y m ≡ true → (x ≡ y) × (k ≡ m)
one_pair x k y m e = let both = and_parts (is_name x y) (nat_eq k m) e in (same_name x y both.0, eqb-true k m both.1)

pub pair-itself : (x : List ℕ) (k : ℕ) → is_same x k x k ≡ true
pair-itself x k = λ i. name-itself x i && eq-eqb k k refl i
