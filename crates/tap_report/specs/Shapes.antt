-- the shapes of lines: what a line says after its word
use Rattle.std.specs.Prelude.{ℕ, List, ◌++◌, codes, decimal}
use Rattle.std.specs.List.{flat_map}
use Rattle.tap_name.specs.Name.{text_of_name}

-- a word and a name
abbrev pub name_after : List ℕ → List ℕ → List ℕ
name_after word name = word ++ text_of_name name

-- a word and a number
abbrev pub number_after : List ℕ → ℕ → List ℕ
number_after word number = word ++ decimal number

-- a name, and another after a word of its own
abbrev pub two_names_after : List ℕ → List ℕ → List ℕ → List ℕ → List ℕ
two_names_after word first link second = word ++ text_of_name first ++ link ++ text_of_name second

-- a number, and another after a word of its own
abbrev pub two_numbers_after : List ℕ → ℕ → List ℕ → ℕ → List ℕ
two_numbers_after word first link second = word ++ decimal first ++ link ++ decimal second

-- an object, and the node that has it
abbrev pub object_at : List ℕ → List ℕ → List ℕ → List ℕ
object_at word object node = two_names_after word object (codes " at ") node

-- an object, and the node that asks for it
abbrev pub object_from : List ℕ → List ℕ → List ℕ → List ℕ
object_from word object asker = two_names_after word object (codes " from ") asker

-- a name with a space before it
abbrev pub spaced_name : List ℕ → List ℕ
spaced_name name = codes " " ++ text_of_name name

-- names, each with a space before it
abbrev pub spaced_names : List (List ℕ) → List ℕ
spaced_names names = flat_map spaced_name names

-- a line with its end
abbrev pub line : List ℕ → List ℕ
line text = text ++ codes "\n"
