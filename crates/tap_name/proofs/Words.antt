-- the bytes of a word
-- Cited above: is_word-Decides, word-no_space, word_passes, word_where_passes
use Rattle.std.proofs.Common.{◌≡◌, ◌==◌, ◌&&◌, ℕ, ◌≤◌, nat_le, refl, false, List, length, All, arith}
use Rattle.std.specs.Prelude.{IsTrue}
use Rattle.std.specs.List.{list_all}
use Rattle.std.specs.Bool.{Decides}
use Rattle.std.proofs.lemmas.Bool.{and_parts, le-leb, leb-true}
use Rattle.std.proofs.lemmas.Bool.Decides.{nat_tests}
use Rattle.std.proofs.lemmas.List.Elements.{All-weaker}
use Rattle.std.proofs.lemmas.List.Sums.{AllPass-from_list_all, list_all-from_AllPass}
use Rattle.tap_name.specs.Word.{is_word, is_word_byte, IsWord}

-- a word passes the test of all its bytes
pub word_passes : (word : List ℕ) → IsWord word → IsTrue (list_all is_word_byte word)
word_passes word is = list_all-from_AllPass is_word_byte word is.bytes

-- 1 to 32 bytes that pass are a word
pub word_where_passes : (bytes : List ℕ) → 1 ≤ length bytes → length bytes ≤ 32 → IsTrue (list_all is_word_byte bytes) → IsWord bytes
word_where_passes bytes some few pass = record { some = some; few = few; bytes = AllPass-from_list_all is_word_byte bytes pass }

-- the test of a word
pub is_word-Decides : (bytes : List ℕ) → Decides (is_word bytes) (IsWord bytes)
is_word-Decides bytes = (
  λ passes.
      let parts = and_parts (nat_le 1 (length bytes) && nat_le (length bytes) 32) (list_all is_word_byte bytes) passes in
      let limits = and_parts (nat_le 1 (length bytes)) (nat_le (length bytes) 32) parts.0 in
      word_where_passes bytes (leb-true 1 (length bytes) limits.0) (leb-true (length bytes) 32 limits.1) parts.1,
  λ is. rw (le-leb 1 (length bytes) is.some, le-leb (length bytes) 32 is.few, word_passes bytes is) refl,
)

-- no byte of a word is a space
pub word-no_space : (word : List ℕ) → IsWord word → All (λ byte. (byte == 32) ≡ false) word
word-no_space word is = All-weaker (λ byte. IsTrue (is_word_byte byte)) (λ byte. (byte == 32) ≡ false) no_space_byte word is.bytes
  where
    no_space_byte : (byte : ℕ) → IsTrue (is_word_byte byte) → (byte == 32) ≡ false
    no_space_byte byte is = grind (arith, nat_tests)
