-- a digest is 20 bytes, and so its halves are a name of 40 digits
-- Cited above: name_of_bytes-IsName
use Rattle.std.proofs.Common.{◌≡◌, ◌*◌, ◌<◌, ◌==◌, ◌∙◌, ℕ, zero, suc, true, List, length, slice_index, All, arith, refl, ap, sym, length-append}
use Rattle.std.specs.Int.{w32, byte_at, bytes_high_first, to_be_bytes}
use Rattle.std.proofs.lemmas.Bool.{and_parts, eqb-true}
use Rattle.std.proofs.lemmas.List.Elements.{All-nil, All-cons, All-append}
use Rattle.sha1.specs.Sha1.{digest_bytes, sha1}
use Rattle.tap_name.specs.Settings.{SettingsValue}
use Rattle.tap_name.specs.Name.{IsName}
use Rattle.tap_name.specs.Packed.{halves}
use Rattle.tap_name.proofs.Halves.{halves-length, halves-digits}
use Rattle.tap_salt.specs.Salt.{is_salted, name_of_bytes}

word_length : (word : ℕ) → length (to_be_bytes w32 word) ≡ 4
word_length word = refl

digest_bytes-length : (words : List ℕ) (n : ℕ) → length (digest_bytes words n) ≡ 4 * n
unfolding digest_bytes
digest_bytes-length words zero = refl
digest_bytes-length words (suc n) =
    let word = slice_index words n in
    omega (arith, length-append (digest_bytes words n) (to_be_bytes w32 word), digest_bytes-length words n, word_length word)

byte_below : (at word : ℕ) → byte_at at word < 256
byte_below zero word = omega arith
byte_below (suc at) word = omega arith

bytes_below : (many word : ℕ) → All (λ byte. byte < 256) (bytes_high_first many word)
bytes_below zero word = All-nil (λ byte. byte < 256)
bytes_below (suc many) word =
    All-cons (λ byte. byte < 256) (byte_at many word) (bytes_high_first many word) (byte_below many word) (bytes_below many word)

digest_bytes-below : (words : List ℕ) (n : ℕ) → All (λ byte. byte < 256) (digest_bytes words n)
unfolding digest_bytes
digest_bytes-below words zero = All-nil (λ byte. byte < 256)
digest_bytes-below words (suc n) =
    All-append (λ byte. byte < 256) (digest_bytes words n) (to_be_bytes w32 (slice_index words n)) (digest_bytes-below words n)
    (bytes_below 4 (slice_index words n))

-- a digest is 20 bytes
pub sha1-length : (bytes : List ℕ) → length (sha1 bytes) ≡ 20
unfolding sha1
sha1-length bytes = digest_bytes-length _ 5

-- each below 256
sha1-below : (bytes : List ℕ) → All (λ byte. byte < 256) (sha1 bytes)
unfolding sha1
sha1-below bytes = digest_bytes-below _ 5

-- the name of bytes has 40 digits
name_of_bytes-length : (bytes : List ℕ) → length (name_of_bytes bytes) ≡ 40
unfolding name_of_bytes
name_of_bytes-length bytes = omega (arith, halves-length (sha1 bytes), sha1-length bytes)

-- each below 16
pub name_of_bytes-digits : (bytes : List ℕ) → All (λ digit. digit < 16) (name_of_bytes bytes)
unfolding name_of_bytes
name_of_bytes-digits bytes = halves-digits (sha1 bytes) (sha1-below bytes)

-- if names are as long as a digest, the name of bytes is one
pub name_of_bytes-IsName : (p : SettingsValue) → is_salted p ≡ true → (bytes : List ℕ) → IsName p (name_of_bytes bytes)
name_of_bytes-IsName p salted bytes =
    let parts = and_parts (p.base == 16) (p.digits == 40) salted in
    let base = eqb-true p.base 16 parts.0 in
    let digits = eqb-true p.digits 40 parts.1 in
    record {
      len = name_of_bytes-length bytes ∙ sym digits;
      below = rw base (name_of_bytes-digits bytes);
    }

-- the halves of a digest are the name
pub name_of_bytes-is : (bytes digest : List ℕ) → digest ≡ sha1 bytes → halves digest ≡ name_of_bytes bytes
unfolding name_of_bytes
name_of_bytes-is bytes digest is = ap halves is
