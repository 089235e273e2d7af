-- the words of a text
use Rattle.std.specs.Prelude.{◌≡◌, ℕ, ◌==◌, false, bytes_eq, All, List, [], ◌∷◌, Option, None, Some, if◌then◌else◌}
use Rattle.std.specs.List.{slice_split}

-- what stands before, between and after the spaces of a text
abbrev pub words : List ℕ → List (List ℕ)
words text = slice_split (λ byte. byte == 32) text

-- no byte of it is a space
abbrev pub HasNoSpace : List ℕ → Type 0
HasNoSpace word = All (λ byte. (byte == 32) ≡ false) word

-- the words of the part of a text that is left, if one is
abbrev pub words_left : Option (List ℕ) → List (List ℕ)
words_left None = []
words_left (Some text) = words text

-- the words before and after this one, if the three are all
abbrev pub words_around : List ℕ → List (List ℕ) → Option (List ℕ × List ℕ)
words_around link (first ∷ word ∷ second ∷ []) = if bytes_eq word link then Some (first, second) else None
words_around link _ = None
