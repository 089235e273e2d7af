-- the words that are left, and their text
use Rattle.std.proofs.Common.{◌≡◌, ◌==◌, ℕ, ◌<◌, ◌≤◌, Bool, false, bytes_eq, arith, List, [], ◌∷◌, length, Some, ap, sym, subst, ◌∙◌, inl, inr}
use Rattle.std.specs.List.{AllByRecursion, join_with_byte, onto_first}
use Rattle.std.proofs.lemmas.Bool.{cases_Bool}
use Rattle.std.proofs.lemmas.List.Elements.{All-cons, All-nil}
use Rattle.std.proofs.lemmas.List.Splits.{join_with_byte-slice_split, length-slice_split, slice_split-cons_no, slice_split-cons_yes}
use Rattle.std.proofs.lemmas.Slice.Eq.{bytes_eq-Decides}
use Rattle.tap_name.specs.Settings.{SettingsValue}
use Rattle.tap_scenario.specs.Step.{IsStep, step_of_text, step_of_words, text_of_step}
use Rattle.tap_scenario.specs.Words.{HasNoSpace, words}
use Rattle.tap_scenario.specs.declared.step.Step.{Step}
use Rattle.tap_scenario.proofs.StepTexts.{step_of_text-back}
use Rattle.tap_line.specs.Front.{is_rest, told}
use Rattle.tap_scenario.proofs.Splits.{words-join}

-- ---- words without spaces

onto_unspaced : (byte : ℕ) (texts : List (List ℕ)) → (byte == 32) ≡ false → AllByRecursion HasNoSpace texts
    → AllByRecursion HasNoSpace (onto_first byte texts)
onto_unspaced byte [] is are = (All-cons (λ b. (b == 32) ≡ false) byte [] is (All-nil (λ b. (b == 32) ≡ false)), tt)
onto_unspaced byte (text ∷ texts) is are = (All-cons (λ b. (b == 32) ≡ false) byte text is are.0, are.1)

-- no word of a text has a space
pub words_unspaced : (text : List ℕ) → AllByRecursion HasNoSpace (words text)
words_unspaced [] = (All-nil (λ b. (b == 32) ≡ false), tt)
words_unspaced (byte ∷ text) =
    elim (cases_Bool (byte == 32)) [
      | inl space ↦
          subst (AllByRecursion HasNoSpace) (sym (slice_split-cons_yes (λ b. b == 32) byte text space))
          (All-nil (λ b. (b == 32) ≡ false), words_unspaced text)
      | inr other ↦
          subst (AllByRecursion HasNoSpace) (sym (slice_split-cons_no (λ b. b == 32) byte text other))
          (onto_unspaced byte (words text) other (words_unspaced text))
    ]

joined_rest : (phrase text : List ℕ) (texts : List (List ℕ)) → 0 < length texts → join_with_byte 32 texts ≡ text
    → is_rest phrase texts ≡ bytes_eq text phrase
joined_rest phrase text [] some whole = absurd (omega (arith, some))
joined_rest phrase text (first ∷ texts) some whole = ap (λ t. bytes_eq t phrase) whole

-- the words of a text are this, with a space between them, exactly if the text is
pub is_rest-words : (phrase text : List ℕ) → is_rest phrase (words text) ≡ bytes_eq text phrase
is_rest-words phrase text =
    joined_rest phrase text (words text) (omega (arith, length-slice_split (λ byte. byte == 32) text)) (join_with_byte-slice_split 32 text)

-- words that are this, with a space between them, are its words
pub told_taken : {A : Type 0} (phrase : List ℕ) (value other : A) (texts : List (List ℕ)) → AllByRecursion HasNoSpace texts
    → told phrase value texts ≡ Some other → (texts ≡ words phrase) × (value ≡ other)
told_taken phrase value other [] unspaced is = absurd (cc)
told_taken phrase value other (text ∷ texts) unspaced is =
    elim (cases_Bool (bytes_eq (join_with_byte 32 (text ∷ texts)) phrase)) [
      | inr differs ↦ absurd (let failed = rw differs at is in cc)
      | inl same ↦
          let whole : join_with_byte 32 (text ∷ texts) ≡ phrase = (bytes_eq-Decides (join_with_byte 32 (text ∷ texts)) phrase).0 same in
          let found : Some value ≡ Some other = rw same at is in
          (sym (words-join text texts unspaced.0 unspaced.1) ∙ ap words whole, cc)
    ]

-- words that are read as a step are those of its text
pub step_taken : (p : SettingsValue) (carrier : Bool) (step : Step) (texts : List (List ℕ)) → p.base ≤ 16 → AllByRecursion HasNoSpace texts
    → step_of_words p carrier texts ≡ Some step → (texts ≡ words (text_of_step step)) × IsStep p carrier step
step_taken p carrier step [] small unspaced is = absurd (cc)
step_taken p carrier step (text ∷ texts) small unspaced is =
    let whole = words-join text texts unspaced.0 unspaced.1 in
    let read : step_of_text p carrier (join_with_byte 32 (text ∷ texts)) ≡ Some step = ap (step_of_words p carrier) whole ∙ is in
    let back = step_of_text-back p carrier (join_with_byte 32 (text ∷ texts)) step small read in
    (sym whole ∙ ap words back.0, back.1)
