-- the fields of a body: what stands at a place, and the place of the first field that breaks its rule
use Rattle.std.specs.Prelude.{◌==◌, ℕ, zero, suc, ◌+◌, nat_le, nat_lt, Bool, true, not, ◌&&◌, ◌||◌, if◌then◌else◌, List, [], ◌∷◌, length, take, drop, slice_index, position, Option, None, Some, Result, Ok, Err}
use Rattle.std.specs.List.{list_all}
use Rattle.std.specs.Ordering.{nat_cmp, is_lt}
use Rattle.std.specs.Cmp.Lexicographic.{slice_cmp}
use Rattle.byteorder.specs.Endian.{big_number}
use Rattle.tap_name.specs.Settings.{SettingsValue}
use Rattle.tap_name.specs.declared.slot.Slot.{Slot}
use Rattle.tap_name.specs.declared.slot.Offered.{Offered}
use Rattle.tap_name.specs.Word.{is_word_byte}
use Rattle.tap_wire.specs.declared.fault.Broken.{Broken}

-- one step of reading after another, up to the first that fails
infixl 10 ◌>>=◌
abbrev pub ◌>>=◌ : {X Y E : Type 0} → Result X E → (X → Result Y E) → Result Y E
(Ok x) >>= next = next x
(Err e) >>= next = Err e

-- the field at this place breaks its rule
abbrev pub broken : {X : Type 0} → ℕ → Result X Broken
broken place = Err (record { at = place })

-- the field at this place has this value, if the value keeps the field's rule
abbrev pub field : {X : Type 0} → Bool → ℕ → X → Result X Broken
field holds place value = if holds then Ok value else broken place

-- the number in the bytes from a place on
abbrev pub number_at : ℕ → ℕ → List ℕ → ℕ
number_at width place bytes = big_number width (drop place bytes)

-- a session is at least 1
abbrev pub session_at : ℕ → List ℕ → Result ℕ Broken
session_at place bytes = field (nat_le 1 (number_at 4 place bytes)) place (number_at 4 place bytes)

-- a level is from 1 to the number of digits
abbrev pub is_level : SettingsValue → ℕ → Bool
is_level p level = nat_le 1 level && nat_le level p.digits

-- the level at a place
abbrev pub level_at : SettingsValue → ℕ → List ℕ → Result ℕ Broken
level_at p place bytes = field (is_level p (slice_index bytes place)) place (slice_index bytes place)

-- a flag is 0 or 1
abbrev pub flag_at : ℕ → List ℕ → Result Bool Broken
flag_at place bytes = field (nat_le (slice_index bytes place) 1) place (slice_index bytes place == 1)

-- the digits, if none is bad
abbrev pub digits_unless : {E : Type 0} → (ℕ → E) → List ℕ → Option ℕ → Result (List ℕ) E
digits_unless bad digits None = Ok digits
digits_unless bad digits (Some at) = Err (bad at)

-- a name is so many digits below the base; if one isn't, the fault carries its place
abbrev pub digits_at : {E : Type 0} → (ℕ → E) → SettingsValue → ℕ → List ℕ → Result (List ℕ) E
digits_at bad p place bytes =
    let digits = take p.digits (drop place bytes)
    in digits_unless (λ at. bad (place + at)) digits (position (λ d. nat_le p.base d) digits)

-- the name at a place
abbrev pub name_at : SettingsValue → ℕ → List ℕ → Result (List ℕ) Broken
name_at p place bytes = digits_at (λ at. record { at = at }) p place bytes

-- a flag that is 1 exactly if bytes follow it, and then a name
abbrev pub optional_at : SettingsValue → ℕ → List ℕ → Result (Option (List ℕ)) Broken
optional_at p place bytes =
    if length bytes == place + 1
    then field (slice_index bytes place == 0) place None
    else (field (slice_index bytes place == 1) place (place + 1) >>= λ after. name_at p after bytes >>= λ name. Ok (Some name))

-- the level of a slot is at most the prefix, and not below that of the slot before
abbrev pub is_next_level : ℕ → Option Slot → ℕ → Bool
is_next_level prefix None level = nat_le level prefix
is_next_level prefix (Some before) level = nat_le level prefix && nat_le before.level level

-- its digit is below the base, and above that of the slot before if that one has the same level
abbrev pub is_next_digit : ℕ → Option Slot → ℕ → ℕ → Bool
is_next_digit base None level digit = nat_lt digit base
is_next_digit base (Some before) level digit = nat_lt digit base && (not (level == before.level) || nat_lt before.digit digit)

-- a slot has two fields, its level and its digit
abbrev pub watch_slot_at : SettingsValue → ℕ → Option Slot → ℕ → List ℕ → Result Slot Broken
watch_slot_at p prefix before place bytes =
    let level = slice_index bytes place in
    let digit = slice_index bytes (place + 1) in
    field (is_next_level prefix before level) place level >>= λ level.
    field (is_next_digit p.base before level digit) (place + 1) (record { level = level; digit = digit })

-- so many slots that follow the one before
unfoldable pub slots_at : SettingsValue → ℕ → ℕ → Option Slot → ℕ → List ℕ → Result (List Slot) Broken
slots_at p prefix zero before place bytes = Ok []
slots_at p prefix (suc count) before place bytes =
    watch_slot_at p prefix before place bytes >>= λ slot.
    slots_at p prefix count (Some slot) (place + 2) bytes >>= λ slots.
    Ok (slot ∷ slots)

-- the name of a link is above the name before
abbrev pub is_next_name : Option (List ℕ) → List ℕ → Bool
is_next_name None name = true
is_next_name (Some before) name = is_lt (slice_cmp nat_cmp before name)

-- a link has two fields, its name and whether it is settled
abbrev pub hello_link_at : SettingsValue → Option (List ℕ) → ℕ → List ℕ → Result Offered Broken
hello_link_at p before place bytes =
    name_at p place bytes >>= λ name.
    field (is_next_name before name) place name >>= λ name.
    flag_at (place + p.digits) bytes >>= λ settled.
    Ok (record { name = name; settled = settled })

-- so many links that follow the name before
unfoldable pub hello_links_at : SettingsValue → ℕ → Option (List ℕ) → ℕ → List ℕ → Result (List Offered) Broken
hello_links_at p zero before place bytes = Ok []
hello_links_at p (suc count) before place bytes =
    hello_link_at p before place bytes >>= λ link.
    hello_links_at p count (Some link.name) (place + p.digits + 1) bytes >>= λ links.
    Ok (link ∷ links)

-- a word is the rest of the bytes, all lower-case letters and digits
abbrev pub word_at : ℕ → List ℕ → Result (List ℕ) Broken
word_at place bytes = field (list_all is_word_byte (drop place bytes)) place (drop place bytes)
