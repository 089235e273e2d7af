-- how a word is kept: in the first of 32 places
use Rattle.std.specs.Prelude.{◌≡◌, ℕ, ◌≤◌, IsTrue, List, length, take}
use Rattle.std.proofs.Common.{arith, length-take-le}
use Rattle.tap_name.specs.Padded.{IsPadded, IsPadded-padded, padded}
use Rattle.tap_name.specs.Word.{is_word_byte, IsWord}

-- the places in use hold a word's bytes, and there is one
pub record KeepsWord (places : List ℕ) (len : ℕ) : Type 0 where
  pub padded : IsPadded 32 (λ byte. IsTrue (is_word_byte byte)) places len
  pub some : 1 ≤ len

pub IsWord-kept : (places : List ℕ) (len : ℕ) → KeepsWord places len → IsWord (take len places)
IsWord-kept places len keeps =
    let is : length (take len places) ≡ len = length-take-le len places (omega (arith, keeps.padded.fits, keeps.padded.all)) in
    record { some = let least = keeps.some in omega arith; few = let most = keeps.padded.fits in omega arith; bytes = keeps.padded.used }

pub KeepsWord-padded : (word : List ℕ) → IsWord word → KeepsWord (padded 32 word) (length word)
KeepsWord-padded word is =
    record { padded = IsPadded-padded 32 (λ byte. IsTrue (is_word_byte byte)) word is.few is.bytes; some = is.some }
