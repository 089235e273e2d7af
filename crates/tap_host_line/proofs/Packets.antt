-- The first word of a line, and what stands at the end of a packet: the one word of a frame, or none.
use Rattle.std.proofs.Common.{◌≡◌, ◌==◌, ℕ, ◌+◌, ◌<◌, true, false, inl, inr, List, [], ◌∷◌, ◌++◌, length, take, drop, get_or, length-take, take-append-drop, Option, None, Some, refl, sym, ap, ◌∙◌, arith}
use Rattle.std.specs.Prelude.{Result, Ok, Err}
use Rattle.std.specs.Result.{result_ok}
use Rattle.std.specs.List.{join_with_byte}
use Rattle.std.proofs.lemmas.Bool.{cases_Bool, eqb-true}
use Rattle.std.proofs.lemmas.Bool.Decides.{nat_tests}
use Rattle.std.proofs.lemmas.List.{drop_more, get_or-take}
use Rattle.std.proofs.lemmas.List.Elements.{All-from_get_or, All-weaker}
use Rattle.std.proofs.lemmas.List.Splits.{join_with_byte-slice_split, slice_split_at, slice_split_none}
use Rattle.hex.specs.Hex.{decode_of, is_hex_digit}
use Rattle.hex.specs.declared.error.FromHexError.{FromHexError}
use Rattle.hex.proofs.HexLemmas.{decode_of-ok}
use Rattle.tap_name.specs.Name.{name_of_word}
use Rattle.tap_name.specs.Settings.{SettingsValue}
use Rattle.memchr.specs.Find.{IsFirstByte, Nowhere, Passes, is_byte}
use Rattle.tap_scenario.specs.Words.{HasNoSpace, words}
use Rattle.tap_host_line.specs.declared.line.Line.TheVariants.{Packet}
use Rattle.tap_host_line.specs.Line.{frame_of_word, packet_line_of_words, seq_of_word}

digit_no_space : (byte : ℕ) → is_hex_digit byte ≡ true → (byte == 32) ≡ false
digit_no_space byte digit = grind (arith, nat_tests)

decoded : (text : List ℕ) (answer : Result (List ℕ) FromHexError) (bytes : List ℕ) → result_ok answer ≡ Some bytes → answer ≡ Ok bytes
decoded text (Ok other) bytes is = let same : other ≡ bytes = cc in ap Ok same
decoded text (Err fault) bytes is = absurd (cc)

no_space_before : (text : List ℕ) (at k : ℕ) → Nowhere (Passes (is_byte 32) text) 0 at → k < at → (get_or text k 0 == 32) ≡ false
no_space_before text at k nowhere less =
    elim (cases_Bool (get_or text k 0 == 32)) [
      | inl here ↦ absurd (nowhere k (omega arith) less here)
      | inr other ↦ other
    ]

-- a word ends at the first space
pub word_at : (text : List ℕ) (at : ℕ) → IsFirstByte (is_byte 32) text (Some at) → words text ≡ take at text ∷ words (drop (at + 1) text)
word_at text at found =
    let inside : at < length text = found.0.high in
    let front = take at text in
    let rest = drop (at + 1) text in
    let space : get_or text at 0 ≡ 32 = eqb-true (get_or text at 0) 32 found.1 in
    let clear : HasNoSpace front =
    All-from_get_or (λ byte. (byte == 32) ≡ false) front 0 (λ k within.
    let less : k < at = omega (arith, within, length-take at text) in
    ap (λ byte. byte == 32) (get_or-take at text k 0 less) ∙ no_space_before text at k found.0.before less) in
    let split : front ++ 32 ∷ rest ≡ text =
    ap (λ (more : List ℕ). front ++ more) (sym (drop_more text at 0 inside ∙ ap (λ byte. byte ∷ rest) space)) ∙ take-append-drop at text in
    ap words (sym split) ∙ slice_split_at (λ byte. byte == 32) front 32 rest clear refl

-- what spells a frame is one word
pub one_word : (text bytes : List ℕ) → Some bytes ≡ frame_of_word text → words text ≡ text ∷ []
one_word text bytes is =
    let parts = decode_of-ok text bytes (decoded text (decode_of text) bytes (sym is)) in
    slice_split_none (λ byte. byte == 32) text (All-weaker (λ byte. is_hex_digit byte ≡ true) (λ byte. (byte == 32) ≡ false) digit_no_space text parts.1)

-- a packet is read
pub packet_read : (p : SettingsValue) (from seq text name : List ℕ) (number : ℕ) (frame : List ℕ) → Some name ≡ name_of_word p from
    → Some number ≡ seq_of_word seq → Some frame ≡ frame_of_word text
    → packet_line_of_words p (from ∷ seq ∷ words text) ≡ Some (Packet name number frame)
packet_read p from seq text name number frame named numbered framed =
    ap (λ (others : List (List ℕ)). packet_line_of_words p (from ∷ seq ∷ others)) (one_word text frame framed)
    ∙ rw (← named, ← numbered, ← framed) refl

module _ (p : SettingsValue) (from seq text : List ℕ) (none : None ≡ frame_of_word text) where
  unframed : (name : Option (List ℕ)) (number : Option ℕ) → name ≡ name_of_word p from → number ≡ seq_of_word seq
      → packet_line_of_words p (from ∷ seq ∷ text ∷ []) ≡ None
  unframed None number named numbered = rw (← named) refl
  unframed (Some name) None named numbered = rw (← named, ← numbered) refl
  unframed (Some name) (Some number) named numbered = rw (← named, ← numbered, ← none) refl

  -- and what spells none ends no packet, whichever words it has
  among : (others : List (List ℕ)) → words text ≡ others → packet_line_of_words p (from ∷ seq ∷ others) ≡ None
  among [] are = refl
  among (word ∷ []) are =
      let same : word ≡ text = ap (join_with_byte 32) (sym are) ∙ join_with_byte-slice_split 32 text in
      ap (λ w. packet_line_of_words p (from ∷ seq ∷ w ∷ [])) same ∙ unframed (name_of_word p from) (seq_of_word seq) refl refl
  among (word ∷ other ∷ others) are = refl

  pub no_packet : packet_line_of_words p (from ∷ seq ∷ words text) ≡ None
  no_packet = among (words text) refl
