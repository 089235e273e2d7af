-- the slots of a Tell, one after the other
use Rattle.std.proofs.Common.{◌≡◌, ◌<◌, ◌≤◌, ◌++◌, ◌+◌, ◌*◌, ℕ, zero, suc, true, List, [], ◌∷◌, length, drop, get_or, slice_index, All, Option, None, Some, Ok, arith, refl, ap, sym, subst, ◌∙◌, append_assoc}
use Rattle.std.specs.List.{flat_map}
use Rattle.std.proofs.lemmas.Bool.Decides.{nat_tests}
use Rattle.std.proofs.lemmas.List.Concat.{flat_map-cons}
use Rattle.std.proofs.lemmas.List.Elements.{All-cons, All-nil}
use Rattle.std.proofs.lemmas.List.Kept.{AllPairs-cons}
use Rattle.tap_name.specs.Settings.{SettingsValue}
use Rattle.tap_name.specs.declared.slot.Slot.{Slot}
use Rattle.tap_watch.specs.Watch.{Precedes, SlotsAscend}
use Rattle.tap_wire.specs.Fields.{◌>>=◌, field, is_next_level, is_next_digit, watch_slot_at, slots_at}
use Rattle.tap_wire.specs.Spelling.{slot_bytes}
use Rattle.tap_wire.proofs.ReadingSteps.{bind_ok, bind_is, field_ok, ok_is}
use Rattle.tap_wire.proofs.Pieces.{byte_is, past_byte, byte_taken, moved}

-- each slot may follow the one before it
abbrev pub Follow : ℕ → ℕ → Option Slot → List Slot → Type 0
Follow base prefix before [] = Unit {0}
Follow base prefix before (s ∷ ss) =
    (is_next_level prefix before s.level ≡ true) × (is_next_digit base before s.level s.digit ≡ true) × Follow base prefix (Some s) ss

-- ---- what is written is read

slot_is : (p : SettingsValue) (prefix : ℕ) (before : Option Slot) (place : ℕ) (bytes : List ℕ) (s : Slot)
    → slice_index bytes place ≡ s.level → slice_index bytes (place + 1) ≡ s.digit
    → is_next_level prefix before s.level ≡ true → is_next_digit p.base before s.level s.digit ≡ true
    → watch_slot_at p prefix before place bytes ≡ Ok s
slot_is p prefix before place bytes s level digit rises rises_on = rw (level, digit, rises, rises_on) refl

pub slots_again : (p : SettingsValue) (prefix : ℕ) (ss : List Slot) (before : Option Slot) (place : ℕ) (bytes rest : List ℕ)
    → Follow p.base prefix before ss
    → drop place bytes ≡ flat_map slot_bytes ss ++ rest → slots_at p prefix (length ss) before place bytes ≡ Ok ss
unfolding slots_at
slots_again p prefix [] before place bytes rest follow here = refl
slots_again p prefix (s ∷ ss) before place bytes rest follow here =
    let after = flat_map slot_bytes ss ++ rest in
    let split : drop place bytes ≡ s.level ∷ s.digit ∷ after =
    here ∙ ap (λ (xs : List ℕ). xs ++ rest) (flat_map-cons slot_bytes s ss) ∙ append_assoc (slot_bytes s) (flat_map slot_bytes ss) rest in
    let level = byte_is bytes place s.level (s.digit ∷ after) split in
    let second = past_byte bytes place s.level (s.digit ∷ after) split in
    let digit = byte_is bytes (place + 1) s.digit after second in
    let third = moved bytes after (place + 1 + 1) (place + 2) (omega arith) (past_byte bytes (place + 1) s.digit after second) in
    bind_is (watch_slot_at p prefix before place bytes) (λ slot. slots_at p prefix (length ss) (Some slot) (place + 2) bytes >>=
    λ slots. Ok (slot ∷ slots)) s (Ok (s ∷ ss))
    (slot_is p prefix before place bytes s level digit follow.0 follow.1)
    (bind_is (slots_at p prefix (length ss) (Some s) (place + 2) bytes) (λ slots. Ok (s ∷ slots)) ss (Ok (s ∷ ss))
    (slots_again p prefix ss (Some s) (place + 2) bytes rest follow.2 third) refl)

-- ---- what is read was written

-- what reading slots has taken
pub record Takes (base prefix count : ℕ) (before : Option Slot) (place : ℕ) (bytes : List ℕ) (ss : List Slot) : Type 0 where
  pub parts : drop place bytes ≡ flat_map slot_bytes ss ++ drop (place + 2 * count) bytes
  pub many : length ss ≡ count
  pub follow : Follow base prefix before ss

-- what reading one slot has taken
record TakesOne (base prefix : ℕ) (before : Option Slot) (place : ℕ) (bytes : List ℕ) (s : Slot) : Type 0 where
  pub level : slice_index bytes place ≡ s.level
  pub digit : slice_index bytes (place + 1) ≡ s.digit
  pub rises : is_next_level prefix before s.level ≡ true
  pub rises_on : is_next_digit base before s.level s.digit ≡ true

slot_taken : (p : SettingsValue) (prefix : ℕ) (before : Option Slot) (place : ℕ) (bytes : List ℕ) (s : Slot)
    → watch_slot_at p prefix before place bytes ≡ Ok s → TakesOne p.base prefix before place bytes s
slot_taken p prefix before place bytes s e =
    let level = slice_index bytes place in
    let digit = slice_index bytes (place + 1) in
    let made : ℕ → Slot = λ l. record { level = l; digit = digit } in
    let a = bind_ok (field (is_next_level prefix before level) place level)
    (λ l. field (is_next_digit p.base before l digit) (place + 1) (made l)) s e in
    let b = field_ok (is_next_level prefix before level) place level a.0 a.1 in
    let c = field_ok (is_next_digit p.base before a.0 digit) (place + 1) (made a.0) s a.2 in
    let level_is : level ≡ s.level = b.1 ∙ ap (λ (x : Slot). x.level) c.1 in
    let digit_is : digit ≡ s.digit = ap (λ (x : Slot). x.digit) c.1 in
    record {
      level = level_is;
      digit = digit_is;
      rises = subst (λ l. is_next_level prefix before l ≡ true) level_is b.0;
      rises_on = subst (λ d. is_next_digit p.base before s.level d ≡ true) digit_is
          (subst (λ l. is_next_digit p.base before l digit ≡ true) (ap (λ (x : Slot). x.level) c.1) c.0);
    }

pub slots_taken : (p : SettingsValue) (prefix count : ℕ) (before : Option Slot) (place : ℕ) (bytes : List ℕ) (ss : List Slot)
    → place + 2 * count ≤ length bytes
    → slots_at p prefix count before place bytes ≡ Ok ss → Takes p.base prefix count before place bytes ss
unfolding slots_at
slots_taken p prefix zero before place bytes ss room e =
    let none : [] ≡ ss = ok_is [] ss e in
    let same : place ≡ place + 2 * 0 = omega arith in
    subst (Takes p.base prefix 0 before place bytes) none (record { parts = ap (λ k. drop k bytes) same; many = refl; follow = tt })
slots_taken p prefix (suc count) before place bytes ss room e =
    let a = bind_ok (watch_slot_at p prefix before place bytes)
    (λ slot. slots_at p prefix count (Some slot) (place + 2) bytes >>= λ slots. Ok (slot ∷ slots)) ss e in
    let s = a.0 in
    let b = bind_ok (slots_at p prefix count (Some s) (place + 2) bytes) (λ slots. Ok (s ∷ slots)) ss a.2 in
    let one = slot_taken p prefix before place bytes s a.1 in
    let more = slots_taken p prefix count (Some s) (place + 2) bytes b.0 (omega arith) b.1 in
    let after = drop (place + 2 * suc count) bytes in
    let level : drop place bytes ≡ s.level ∷ drop (place + 1) bytes = byte_taken bytes place (omega arith)
    ∙ ap (λ l. l ∷ drop (place + 1) bytes) one.level in
    let third : drop (place + 1 + 1) bytes ≡ flat_map slot_bytes b.0 ++ after =
    moved_place bytes (place + 1 + 1) (place + 2) (omega arith) ∙ more.parts
    ∙ ap (λ (xs : List ℕ). flat_map slot_bytes b.0 ++ xs)
    (moved_place bytes (place + 2 + 2 * count) (place + 2 * suc count) (omega arith)) in
    let digit : drop (place + 1) bytes ≡ s.digit ∷ (flat_map slot_bytes b.0 ++ after) =
    byte_taken bytes (place + 1) (omega arith) ∙ ap (λ d. d ∷ drop (place + 1 + 1) bytes) one.digit
    ∙ ap (λ (xs : List ℕ). s.digit ∷ xs) third in
    let whole : drop place bytes ≡ flat_map slot_bytes (s ∷ b.0) ++ after =
    level ∙ ap (λ (xs : List ℕ). s.level ∷ xs) digit ∙ sym (append_assoc (slot_bytes s) (flat_map slot_bytes b.0) after)
    ∙ ap (λ (xs : List ℕ). xs ++ after) (sym (flat_map-cons slot_bytes s b.0)) in
    subst (Takes p.base prefix (suc count) before place bytes) (ok_is (s ∷ b.0) ss b.2)
    (record { parts = whole; many = ap suc more.many; follow = (one.rises, one.rises_on, more.follow) })
  where
    moved_place : (bytes : List ℕ) (here there : ℕ) → here ≡ there → drop here bytes ≡ drop there bytes
    moved_place bytes here there e = ap (λ k. drop k bytes) e

-- ---- the rules of slots one by one, and of all

next_level : (prefix : ℕ) (before : Option Slot) (level : ℕ) → is_next_level prefix before level ≡ true → level ≤ prefix
next_level prefix None level h = grind (arith, nat_tests)
next_level prefix (Some b) level h = grind (arith, nat_tests)

next_digit : (base : ℕ) (before : Option Slot) (level digit : ℕ) → is_next_digit base before level digit ≡ true → digit < base
next_digit base None level digit h = grind (arith, nat_tests)
next_digit base (Some b) level digit h = grind (arith, nat_tests)

next_rises : (prefix : ℕ) (b : Slot) (level : ℕ) → is_next_level prefix (Some b) level ≡ true → b.level ≤ level
next_rises prefix b level h = grind (arith, nat_tests)

next_rises_on : (base : ℕ) (b : Slot) (level digit : ℕ) → is_next_digit base (Some b) level digit ≡ true → b.level ≡ level → b.digit < digit
next_rises_on base b level digit h same = grind (arith, nat_tests)

pub Precedes-trans : (a b c : Slot) → Precedes a b → Precedes b c → Precedes a c
Precedes-trans a b c h k = record {
  level = omega (arith, h.level, k.level);
  digit =
      λ e. omega (arith, h.level, k.level, h.digit, k.digit);
}

pub follow_levels : (base prefix : ℕ) (before : Option Slot) (ss : List Slot) → Follow base prefix before ss
    → All (λ s. s.level ≤ prefix) ss
follow_levels base prefix before [] follow = All-nil (λ s. s.level ≤ prefix)
follow_levels base prefix before (s ∷ ss) follow =
    All-cons (λ s. s.level ≤ prefix) s ss (next_level prefix before s.level follow.0) (follow_levels base prefix (Some s) ss follow.2)

pub follow_digits : (base prefix : ℕ) (before : Option Slot) (ss : List Slot) → Follow base prefix before ss → All (λ s. s.digit < base) ss
follow_digits base prefix before [] follow = All-nil (λ s. s.digit < base)
follow_digits base prefix before (s ∷ ss) follow =
    All-cons (λ s. s.digit < base) s ss (next_digit base before s.level s.digit follow.1) (follow_digits base prefix (Some s) ss follow.2)

all_follow : (base prefix : ℕ) (b : Slot) (ss : List Slot) → Follow base prefix (Some b) ss → All (Precedes b) ss
all_follow base prefix b [] follow = All-nil (Precedes b)
all_follow base prefix b (s ∷ ss) follow =
    let here : Precedes b s = record { level = next_rises prefix b s.level follow.0; digit = next_rises_on base b s.level s.digit follow.1 }
    in
    let after = all_follow base prefix s ss follow.2 in
    All-cons (Precedes b) s ss here (λ k d h. Precedes-trans b s (get_or ss k d) here (after k d h))

pub follow_ascends : (base prefix : ℕ) (before : Option Slot) (ss : List Slot) → Follow base prefix before ss → SlotsAscend ss
follow_ascends base prefix before [] follow = λ i j d lt within. absurd (omega arith)
follow_ascends base prefix before (s ∷ ss) follow =
    AllPairs-cons Precedes s ss (all_follow base prefix s ss follow.2) (follow_ascends base prefix (Some s) ss follow.2)

-- the first of these slots follows the one before
abbrev FirstFollows : Option Slot → List Slot → Type 0
FirstFollows None ss = Unit {0}
FirstFollows (Some b) ss = All (Precedes b) ss

first_level : (prefix : ℕ) (before : Option Slot) (s : Slot) (ss : List Slot) → FirstFollows before (s ∷ ss) → s.level ≤ prefix
    → is_next_level prefix before s.level ≡ true
first_level prefix None s ss after low = grind (arith, nat_tests)
first_level prefix (Some b) s ss after low = let h = after 0 s (omega arith) in grind (arith, nat_tests, h.level)

first_digit : (base : ℕ) (before : Option Slot) (s : Slot) (ss : List Slot) → FirstFollows before (s ∷ ss) → s.digit < base
    → is_next_digit base before s.level s.digit ≡ true
first_digit base None s ss after low = grind (arith, nat_tests)
first_digit base (Some b) s ss after low = let h = after 0 s (omega arith) in grind (arith, nat_tests, h.level, h.digit)

pub follow_from : (base prefix : ℕ) (before : Option Slot) (ss : List Slot) → FirstFollows before ss → All (λ s. s.level ≤ prefix) ss
    → All (λ s. s.digit < base) ss → SlotsAscend ss
    → Follow base prefix before ss
follow_from base prefix before [] after levels digits ascending = tt
follow_from base prefix before (s ∷ ss) after levels digits ascending = (
  first_level prefix before s ss after (levels 0 s (omega arith)),
  first_digit base before s ss after (digits 0 s (omega arith)),
  follow_from base prefix (Some s) ss (λ k d h. ascending 0 (suc k) d (omega arith) (omega arith)) (λ k d h. levels (suc k) d (omega arith))
      (λ k d h. digits (suc k) d (omega arith))
      (λ i j d lt within. ascending (suc i) (suc j) d (omega arith) (omega arith)),
)
