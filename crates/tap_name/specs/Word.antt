-- the words that casts spread
use Rattle.std.specs.Prelude.{ℕ, ◌≤◌, nat_le, Bool, ◌&&◌, ◌||◌, IsTrue, List, length, All}
use Rattle.std.specs.List.{list_all}

-- a lower-case letter or a digit
abbrev pub is_word_byte : ℕ → Bool
is_word_byte byte = (nat_le 97 byte && nat_le byte 122) || (nat_le 48 byte && nat_le byte 57)

-- whether bytes are a word
abbrev pub is_word : List ℕ → Bool
is_word bytes = nat_le 1 (length bytes) && nat_le (length bytes) 32 && list_all is_word_byte bytes

-- a word: 1 to 32 lower-case letters and digits
pub record IsWord (word : List ℕ) : Type 0 where
  pub some : 1 ≤ length word
  pub few : length word ≤ 32
  pub bytes : All (λ byte. IsTrue (is_word_byte byte)) word
