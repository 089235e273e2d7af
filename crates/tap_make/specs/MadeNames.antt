-- The names in a made scenario. One mixer gives all numbers; each is found by its place: first those of the nodes, then those of
-- the objects.
use Rattle.std.specs.Prelude.{◌≡◌, ℕ, ◌+◌, ◌/◌, ◌%◌, ◌^◌, List, [], ◌∷◌, ◌++◌, map}
use Rattle.std.specs.List.{range_with_len}
use Rattle.tap_make.specs.declared.names.Names.{Names}
use Rattle.tap_make.specs.Mixer.{drawn}

-- how many members there are
abbrev pub member_count : ℕ
member_count = 28

-- how many objects there are
abbrev pub object_count : ℕ
object_count = 20

-- the hexadecimal digit of a number at this place, the lowest one being at 0
abbrev pub hexadecimal_digit : ℕ → ℕ → ℕ
hexadecimal_digit number place = number / 16 ^ place % 16

-- the six high hexadecimal digits of a number, and then two of a place
abbrev pub marked_name : ℕ → ℕ → List ℕ
marked_name number place = map (hexadecimal_digit number) (7 ∷ 6 ∷ 5 ∷ 4 ∷ 3 ∷ 2 ∷ []) ++ map (hexadecimal_digit place) (1 ∷ 0 ∷ [])

-- the node of a place: a member below 28, a newcomer from there on
abbrev pub made_node : ℕ → ℕ → List ℕ
made_node seed place = marked_name (drawn seed place) place

-- the newcomer of this number, from 0
abbrev pub newcomer : ℕ → ℕ → List ℕ
newcomer seed number = made_node seed (member_count + number)

-- the object of a place, with so many newcomers
abbrev pub made_object : ℕ → ℕ → ℕ → List ℕ
made_object joins seed place = marked_name (drawn seed (member_count + joins + place)) place

-- all nodes
abbrev pub made_nodes : ℕ → ℕ → List (List ℕ)
made_nodes joins seed = map (made_node seed) (range_with_len 0 (member_count + joins))

-- all members
abbrev pub made_members : ℕ → List (List ℕ)
made_members seed = map (made_node seed) (range_with_len 0 member_count)

-- all newcomers
abbrev pub made_newcomers : ℕ → ℕ → List (List ℕ)
made_newcomers joins seed = map (newcomer seed) (range_with_len 0 joins)

-- all objects
abbrev pub made_objects : ℕ → ℕ → List (List ℕ)
made_objects joins seed = map (made_object joins seed) (range_with_len 0 object_count)

-- these are all names of a scenario with so many joins
pub record HasMadeNames (joins seed : ℕ) (names : Names) : Type 0 where
  pub members : names.members ≡ made_members seed
  pub newcomers : names.newcomers ≡ made_newcomers joins seed
  pub objects : names.objects ≡ made_objects joins seed

-- the member that the number at a place draws
abbrev pub drawn_member : ℕ → ℕ → List ℕ
drawn_member seed place = made_node seed (drawn seed place % member_count)

-- the object that the number at a place draws
abbrev pub drawn_object : ℕ → ℕ → ℕ → List ℕ
drawn_object joins seed place = made_object joins seed (drawn seed place % object_count)
