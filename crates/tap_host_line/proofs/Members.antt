-- Members that are read one after another.
use Rattle.std.proofs.Common.{◌≡◌, ℕ, true, false, List, [], ◌∷◌, ◌++◌, length, None, Some, refl}
use Rattle.std.specs.Prelude.{nat_le}
use Rattle.tap_name.specs.Name.{name_of_word}
use Rattle.tap_name.specs.Names.{has_name}
use Rattle.tap_name.specs.Settings.{SettingsValue}
use Rattle.tap_host_line.specs.Line.{members_line_of_words, most_line_members}

module _ (p : SettingsValue) (names rest : List (List ℕ)) (word : List ℕ) where
  -- the word is no name
  pub no_member : None ≡ name_of_word p word → members_line_of_words p names (word ∷ rest) ≡ None
  no_member read = rw (← read) refl

  -- it is one too many
  pub many_members : (name : List ℕ) → Some name ≡ name_of_word p word → nat_le most_line_members (length names) ≡ true
      → members_line_of_words p names (word ∷ rest) ≡ None
  many_members name read many = rw (← read, many) refl

  -- it was there before
  pub same_member : (name : List ℕ) → Some name ≡ name_of_word p word → nat_le most_line_members (length names) ≡ false
      → has_name names name ≡ true → members_line_of_words p names (word ∷ rest) ≡ None
  same_member name read few there = rw (← read, few, there) refl

  -- it is one more
  pub more_members : (name : List ℕ) → Some name ≡ name_of_word p word → nat_le most_line_members (length names) ≡ false
      → has_name names name ≡ false → members_line_of_words p names (word ∷ rest) ≡ members_line_of_words p (names ++ name ∷ []) rest
  more_members name read few none = rw (← read, few, none) refl
