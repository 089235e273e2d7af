-- The pairs that a log tells of, and what one more record changes in them.
use Rattle.std.specs.Prelude.{ℕ, Bool, false, not, ◌&&◌, ◌||◌, List, nat_eq, Option, None, Some}
use Rattle.std.specs.List.{list_any}
use Rattle.std.specs.Cmp.Lexicographic.{pointwise}
use Rattle.tap_log.specs.declared.record.Pair.{Pair}
use Rattle.tap_name.specs.Names.{has_name}
use Rattle.tap_history.specs.Published.{same_pair}

-- pairs, each as its object and its server, and for how many more there is room
pub record PairsValue : Type 0 where
  pub keys : List (List ℕ × List ℕ)
  pub room : ℕ

-- whether a pair is among these, each of which is an object and a server
abbrev pub has_key : List (List ℕ × List ℕ) → Pair → Bool
has_key keys pair =
    list_any (λ key. pointwise nat_eq pair.object key.0 && pointwise nat_eq pair.server key.1) keys

-- the pair is this one, if there is one
abbrev pub is_this_pair : Option Pair → Pair → Bool
is_this_pair None pair = false
is_this_pair (Some one) pair = same_pair one pair

-- the name is this one, if there is one
abbrev pub is_name : Option (List ℕ) → List ℕ → Bool
is_name None name = false
is_name (Some one) name = pointwise nat_eq one name

-- the pair is among these, and its server isn't among those that departed
abbrev pub stays_published : List (List ℕ × List ℕ) → List (List ℕ) → Pair → Bool
stays_published keys departed pair = has_key keys pair && not (has_name departed pair.server)

-- whether a pair is among these once one is withdrawn and one is published
abbrev pub key_after : (Pair → Bool) → Option Pair → Option Pair → Pair → Bool
key_after has withdrawn published pair = is_this_pair published pair || (not (is_this_pair withdrawn pair) && has pair)

-- Whether a pair is there once this one is withdrawn, that one is published, unless its server has departed, and this server departs.
abbrev pub has_after : (Pair → Bool) → Option Pair → Option Pair → List (List ℕ) → Option (List ℕ) → Pair → Bool
has_after has withdrawn published departed departs pair =
    not (is_name departs pair.server)
    && ((not (is_this_pair withdrawn pair) && has pair) || (not (has_name departed pair.server) && is_this_pair published pair))
