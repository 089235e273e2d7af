-- The registers of holders over ascending names, and whether a member's table has a link to the owner.
-- Cited above: word_of
use Rattle.std.proofs.Common.{◌≡◌, inl, inr, ℕ, ◌+◌, ◌<◌, nat_eq, eqb, cond, Bool, true, false, List, [], ◌∷◌, ◌++◌, length, map, take, filter, get_or, All, AllPairs, refl, ap, sym, ◌∙◌}
use Rattle.std.specs.List.{common_prefix_len}
use Rattle.std.specs.declared.cmp.Ordering.TheVariants.{Less}
use Rattle.std.proofs.Math.Seq.{take-nil}
use Rattle.std.proofs.lemmas.Bool.{cases_Bool}
use Rattle.std.proofs.lemmas.List.{append-nil, map-append}
use Rattle.std.proofs.lemmas.List.Elements.{All-filter, All-map, filter_more}
use Rattle.tap_name.specs.Settings.{SettingsValue}
use Rattle.tap_name.specs.Slot.{slot_at}
use Rattle.tap_name.proofs.Prefix.{prefix_of_itself}
use Rattle.tap_register.specs.declared.registers.Entry.{Entry}
use Rattle.tap_table.specs.Members.{IsBelow, holders_at_rest, holds, is_slot}
use Rattle.tap_table.specs.Table.{name_cmp, place_of}
use Rattle.tap_table.proofs.SettledOn.{IsAbove, above_the_first}

-- a holder that says with version 0 that it has a link
abbrev pub word_of : List ℕ → Entry (List ℕ) Bool
word_of name = record { key = name; version = 0; value = true }

-- the words of names that are below another have their keys below it
pub words_below : (name : List ℕ) (names : List (List ℕ)) → IsAbove name names
    → All (λ e. name_cmp e.key name ≡ Less) (map word_of names)
words_below name names all = All-map (λ (e : Entry (List ℕ) Bool). name_cmp e.key name ≡ Less) word_of names all

-- one name more
module _ (p : SettingsValue) (owner : List ℕ) (names : List (List ℕ)) (i : ℕ) (name : List ℕ) where
  pub above_holders : AllPairs IsBelow names → i < length names → name ≡ get_or names i name
      → IsAbove name (filter (holds p owner names) (take i names))
  above_holders ascending within is =
      let all : IsAbove name (take i names) = rw (← is) at (above_the_first names i name ascending within) in
      All-filter (holds p owner names) (λ t. IsBelow t name) (take i names) all

  more_holders : i < length names → name ≡ get_or names i name
      → filter (holds p owner names) (take (i + 1) names) ≡ filter (holds p owner names) (take i names)
      ++ cond (holds p owner names name) (name ∷ []) []
  more_holders within is =
      let front = filter (holds p owner names) (take i names) in
      let end : List ℕ → List (List ℕ) = λ x. front ++ cond (holds p owner names x) (x ∷ []) [] in
      filter_more (holds p owner names) names i name within ∙ ap end (sym is)

  pub holder-more : (old new : List (Entry (List ℕ) Bool)) → i < length names → name ≡ get_or names i name
      → holds p owner names name ≡ true → old ≡ holders_at_rest p owner names (take i names) → new ≡ old ++ word_of name ∷ []
      → new ≡ holders_at_rest p owner names (take (i + 1) names)
  holder-more old new within is has old_is new_is =
      let front = filter (holds p owner names) (take i names) in
      let more = more_holders within is ∙ ap (λ b. front ++ cond b (name ∷ []) []) has in
      new_is ∙ ap (λ l. l ++ word_of name ∷ []) old_is ∙ sym (map-append word_of front (name ∷ [])) ∙ ap (map word_of) (sym more)

  pub holder-skip : i < length names → name ≡ get_or names i name → holds p owner names name ≡ false
      → holders_at_rest p owner names (take i names) ≡ holders_at_rest p owner names (take (i + 1) names)
  holder-skip within is has =
      let front = filter (holds p owner names) (take i names) in
      let more = more_holders within is ∙ ap (λ b. front ++ cond b (name ∷ []) []) has ∙ append-nil front in
      ap (map word_of) (sym more)

filter_none : (test : List ℕ → Bool) (names : List (List ℕ)) → ((name : List ℕ) → test name ≡ false) → filter test names ≡ []
filter_none test [] none = refl
filter_none test (x ∷ xs) none = rw (none x) (filter_none test xs none)

-- the owner's own table has no link to it
pub not_held_by_itself : (p : SettingsValue) (owner : List ℕ) (names : List (List ℕ)) → holds p owner names owner ≡ false
not_held_by_itself p owner names =
    let none_stands : (name : List ℕ) → is_slot (place_of owner owner) (slot_at owner name) ≡ false = λ name.
    elim (cases_Bool (eqb (common_prefix_len nat_eq owner name) (length owner))) [
      | inl e ↦ rw e refl
      | inr e ↦ rw (e, prefix_of_itself owner, e) refl
    ] in
    rw (filter_none (λ name. is_slot (place_of owner owner) (slot_at owner name)) names none_stands, take-nil {A = List ℕ} p.width) refl
