-- Of bytes that are no frame, the number that their fault tells is in range.
use Rattle.std.proofs.Common.{◌≡◌, ℕ, zero, suc, ◌+◌, ◌-◌, ◌*◌, ◌/◌, ◌<◌, ◌≤◌, ◌^◌, Bool, true, false, List, length, take, drop, slice_index, Option, None, Some, refl, subst, arith}
use Rattle.std.specs.Prelude.{IfSome, Result, Ok, Err, nat_le, nat_lt, if◌then◌else◌, not, ◌&&◌, ◌==◌, position}
use Rattle.std.specs.List.{AllByRecursion, list_all}
use Rattle.std.proofs.Math.Nat.{div-le_self}
use Rattle.std.proofs.lemmas.List.{length-take}
use Rattle.std.proofs.lemmas.List.Elements.{All-from_recursion}
use Rattle.std.proofs.lemmas.List.Quantifiers.{position-Some}
use Rattle.tap_name.specs.Settings.{AreWithinLimits, SettingsValue}
use Rattle.tap_name.specs.Word.{is_word_byte}
use Rattle.tap_name.specs.declared.slot.Slot.{Slot}
use Rattle.tap_wire.specs.declared.fault.HeadFault.TheVariants.{Short, BadVersion, BadLength, BadCount, Trailing, BadDigit}
use Rattle.tap_wire.specs.declared.fault.HeadFault.{HeadFault}
use Rattle.tap_wire.specs.declared.fault.WireFault.{WireFault}
use Rattle.tap_wire.specs.Fault.{fault_of_head}
use Rattle.tap_wire.specs.Fields.{◌>>=◌, digits_at, digits_unless, field, flag_at, hello_link_at, hello_links_at, is_level, is_next_digit, is_next_level, is_next_name, level_at, name_at, number_at, optional_at, session_at, slots_at, watch_slot_at, word_at}
use Rattle.tap_wire.specs.Kind.{frame_kinds, kind_of_code}
use Rattle.tap_wire.specs.Layout.{body_start, head_len, is_length, is_long, version_of}
use Rattle.tap_wire.specs.Reading.{body_at, cast_at, find_at, frame_of, hello_at, in_frame, lay_at, level_above_at, of_kind, opening_of, prefix_at, sized, tell_at}
use Rattle.tap_line.specs.Line.{AreBytes, IsFault}
use Rattle.tap_lawful_shapes.proofs.Bytes.{All-at, bytes_small, length_small, start_few}

-- ---- results

-- the one holds of a fault, and the other of what is read
abbrev Both : {X E : Type 0} → (E → Type 0) → (X → Type 0) → Result X E → Type 0
Both P Q (Ok x) = Q x
Both P Q (Err e) = P e

either : {A : Type 0} (P : A → Type 0) (b : Bool) (x y : A) → P x → P y → P (if b then x else y)
either P true x y one other = one
either P false x y one other = other

-- it holds of a fault
abbrev Fails : {X E : Type 0} → (E → Type 0) → Result X E → Type 0
Fails P (Ok x) = Unit {0}
Fails P (Err e) = P e

fails_then : {X Y E : Type 0} (P : E → Type 0) (r : Result X E) (next : X → Result Y E) → Fails P r → ((x : X) → Fails P (next x))
    → Fails P (r >>= next)
fails_then P (Ok x) next is others = others x
fails_then P (Err e) next is others = is

-- ---- fields

-- the place of a field that breaks its rule
abbrev IsEarly : ℕ → Type 0
IsEarly at = at < 2 ^ 40

digits_fail : {E : Type 0} (P : E → Type 0) (bad : ℕ → E) (digits : List ℕ) (base : ℕ) → ((at : ℕ) → at < length digits → P (bad at))
    → Fails P (digits_unless bad digits (position (λ d. nat_le base d) digits))
digits_fail P bad digits base all = by_place (position (λ d. nat_le base d) digits) refl
  where
    by_place : (o : Option ℕ) → position (λ d. nat_le base d) digits ≡ o → Fails P (digits_unless bad digits o)
    by_place None is = tt
    by_place (Some at) is = all at (position-Some (λ d. nat_le base d) digits at 0 is).0

digits_at_fail : {E : Type 0} (P : E → Type 0) (bad : ℕ → E) (p : SettingsValue) (place : ℕ) (bytes : List ℕ)
    → ((at : ℕ) → at < place + p.digits → P (bad at)) → Fails P (digits_at bad p place bytes)
digits_at_fail P bad p place bytes all =
    let digits = take p.digits (drop place bytes) in
    let size = length-take p.digits (drop place bytes) in
    let few : length digits ≤ p.digits = omega (arith, size) in
    digits_fail P (λ at. bad (place + at)) digits p.base (λ at within. all (place + at) (omega (arith, few, within)))

module _ (p : SettingsValue) (limits : AreWithinLimits p) (bytes : List ℕ) (small : AreBytes bytes) (short : length bytes < 2 ^ 32) where
  field_fails : {X : Type 0} (holds : Bool) (place : ℕ) (x : X) → place < 2 ^ 40 → Fails (λ b. IsEarly b.at) (field holds place x)
  field_fails true place x low = tt
  field_fails false place x low = low

  name_fails : (place : ℕ) → place < 2 ^ 39 → Fails (λ b. IsEarly b.at) (name_at p place bytes)
  name_fails place low =
      let few = limits.digits_to in
      digits_at_fail (λ b. IsEarly b.at) (λ at. record { at = at }) p place bytes (λ at below. omega (arith, low, few, below))

  session_fails : (place : ℕ) → place < 2 ^ 40 → Fails (λ b. IsEarly b.at) (session_at place bytes)
  session_fails place low = field_fails (nat_le 1 (number_at 4 place bytes)) place (number_at 4 place bytes) low

  level_fails : (place : ℕ) → place < 2 ^ 40 → Fails (λ b. IsEarly b.at) (level_at p place bytes)
  level_fails place low = field_fails (is_level p (slice_index bytes place)) place (slice_index bytes place) low

  flag_fails : (place : ℕ) → place < 2 ^ 40 → Fails (λ b. IsEarly b.at) (flag_at place bytes)
  flag_fails place low = field_fails (nat_le (slice_index bytes place) 1) place (slice_index bytes place == 1) low

  optional_fails : (place : ℕ) → place < 2 ^ 38 → Fails (λ b. IsEarly b.at) (optional_at p place bytes)
  optional_fails place low =
      either (Fails (λ b. IsEarly b.at)) (length bytes == place + 1) _ _
      (field_fails (slice_index bytes place == 0) place None (omega (arith, low)))
      (by_flag (slice_index bytes place == 1))
    where
      by_flag : (there : Bool)
          → Fails (λ b. IsEarly b.at) (field there place (place + 1) >>= λ after. name_at p after bytes >>= λ name. Ok (Some name))
      by_flag true = fails_then (λ b. IsEarly b.at) (name_at p (place + 1) bytes) _ (name_fails (place + 1) (omega (arith, low))) (λ name. tt)
      by_flag false = omega (arith, low)

  word_fails : (place : ℕ) → place < 2 ^ 40 → Fails (λ b. IsEarly b.at) (word_at place bytes)
  word_fails place low = field_fails (list_all is_word_byte (drop place bytes)) place (drop place bytes) low

  slot_fails : (prefix : ℕ) (before : Option Slot) (place : ℕ) → place < 2 ^ 39
      → Fails (λ b. IsEarly b.at) (watch_slot_at p prefix before place bytes)
  slot_fails prefix before place low =
      fails_then (λ b. IsEarly b.at) (field (is_next_level prefix before (slice_index bytes place)) place (slice_index bytes place)) _
      (field_fails (is_next_level prefix before (slice_index bytes place)) place (slice_index bytes place) (omega (arith, low)))
      (λ level. field_fails (is_next_digit p.base before level (slice_index bytes (place + 1))) (place + 1) _ (omega (arith, low)))

  slots_fail : (prefix count : ℕ) (before : Option Slot) (place : ℕ) → place + 2 * count < 2 ^ 38
      → Fails (λ b. IsEarly b.at) (slots_at p prefix count before place bytes)
  unfolding slots_at
  slots_fail prefix zero before place low = tt
  slots_fail prefix (suc count) before place low =
      fails_then (λ b. IsEarly b.at) (watch_slot_at p prefix before place bytes) _ (slot_fails prefix before place (omega (arith, low)))
      (λ slot.
      fails_then (λ b. IsEarly b.at) (slots_at p prefix count (Some slot) (place + 2) bytes) _
      (slots_fail prefix count (Some slot) (place + 2) (omega (arith, low))) (λ slots. tt))

  link_fails : (before : Option (List ℕ)) (place : ℕ) → place < 2 ^ 38 → Fails (λ b. IsEarly b.at) (hello_link_at p before place bytes)
  link_fails before place low =
      let few = limits.digits_to in
      fails_then (λ b. IsEarly b.at) (name_at p place bytes) _ (name_fails place (omega (arith, low)))
      (λ name.
      fails_then (λ b. IsEarly b.at) (field (is_next_name before name) place name) _
      (field_fails (is_next_name before name) place name (omega (arith, low)))
      (λ same. fails_then (λ b. IsEarly b.at) (flag_at (place + p.digits) bytes) _ (flag_fails (place + p.digits) (omega (arith, low, few))) (λ settled. tt)))

  links_fail : (count : ℕ) (before : Option (List ℕ)) (place : ℕ) → place + 41 * count < 2 ^ 38
      → Fails (λ b. IsEarly b.at) (hello_links_at p count before place bytes)
  unfolding hello_links_at
  links_fail zero before place low = tt
  links_fail (suc count) before place low =
      let few = limits.digits_to in
      fails_then (λ b. IsEarly b.at) (hello_link_at p before place bytes) _ (link_fails before place (omega (arith, low)))
      (λ link.
      fails_then (λ b. IsEarly b.at) (hello_links_at p count (Some link.name) (place + p.digits + 1) bytes) _
      (links_fail count (Some link.name) (place + p.digits + 1) (omega (arith, low, few))) (λ links. tt))

  -- ---- bodies

  module _ (start : ℕ) (early : start ≤ 85) where
    tell_fails : Fails (λ b. IsEarly b.at) (tell_at p start bytes)
    unfolding tell_at
    tell_fails =
        let few = limits.digits_to in
        let at = start + p.digits in
        fails_then (λ b. IsEarly b.at) (name_at p start bytes) _ (name_fails start (omega (arith, early)))
        (λ joiner. fails_then (λ b. IsEarly b.at) (prefix_at p at bytes) _
        (field_fails (nat_lt (slice_index bytes at) p.digits) at (slice_index bytes at) (omega (arith, early, few)))
        (λ prefix. fails_then (λ b. IsEarly b.at) (level_above_at p prefix (at + 1) bytes) _
        (field_fails (nat_lt prefix (slice_index bytes (at + 1)) && nat_le (slice_index bytes (at + 1)) p.digits) (at + 1)
        (slice_index bytes (at + 1)) (omega (arith, early, few)))
        (λ level. fails_then (λ b. IsEarly b.at) (session_at (at + 2) bytes) _ (session_fails (at + 2) (omega (arith, early, few)))
        (λ session.
        let count = (length bytes - (at + 8)) / 2 in
        fails_then (λ b. IsEarly b.at) (slots_at p prefix count None (at + 8) bytes) _
        (slots_fail prefix count None (at + 8) (omega (arith, early, few, short)))
        (λ watch. tt)))))

    hello_fails : Fails (λ b. IsEarly b.at) (hello_at p start bytes)
    unfolding hello_at
    hello_fails =
        fails_then (λ b. IsEarly b.at) (session_at start bytes) _ (session_fails start (omega (arith, early)))
        (λ session. fails_then (λ b. IsEarly b.at) (flag_at (start + 4) bytes) _ (flag_fails (start + 4) (omega (arith, early)))
        (λ core.
        let all = length bytes - (start + 5) in
        let few = div-le_self all (p.digits + 1) in
        fails_then (λ b. IsEarly b.at) (hello_links_at p (all / (p.digits + 1)) None (start + 5) bytes) _
        (links_fail (all / (p.digits + 1)) None (start + 5) (omega (arith, early, few, short)))
        (λ links. tt)))

    lay_fails : Fails (λ b. IsEarly b.at) (lay_at p start bytes)
    unfolding lay_at
    lay_fails =
        let few = limits.digits_to in
        let at = start + 2 * p.digits in
        fails_then (λ b. IsEarly b.at) (name_at p start bytes) _ (name_fails start (omega (arith, early)))
        (λ object. fails_then (λ b. IsEarly b.at) (name_at p (start + p.digits) bytes) _ (name_fails (start + p.digits) (omega (arith, early, few)))
        (λ server. fails_then (λ b. IsEarly b.at) (level_at p at bytes) _ (level_fails at (omega (arith, early, few)))
        (λ level. fails_then (λ b. IsEarly b.at) (flag_at (at + 5) bytes) _ (flag_fails (at + 5) (omega (arith, early, few))) (λ on. tt))))

    find_fails : Fails (λ b. IsEarly b.at) (find_at p start bytes)
    unfolding find_at
    find_fails =
        let few = limits.digits_to in
        fails_then (λ b. IsEarly b.at) (name_at p (start + 4) bytes) _ (name_fails (start + 4) (omega (arith, early)))
        (λ object. fails_then (λ b. IsEarly b.at) (name_at p (start + 4 + p.digits) bytes) _
        (name_fails (start + 4 + p.digits) (omega (arith, early, few)))
        (λ asker. fails_then (λ b. IsEarly b.at) (level_at p (start + 4 + 2 * p.digits) bytes) _
        (level_fails (start + 4 + 2 * p.digits) (omega (arith, early, few))) (λ level. tt)))

    cast_fails : Fails (λ b. IsEarly b.at) (cast_at p start bytes)
    unfolding cast_at
    cast_fails =
        fails_then (λ b. IsEarly b.at) (level_at p (start + 4) bytes) _ (level_fails (start + 4) (omega (arith, early)))
        (λ level. fails_then (λ b. IsEarly b.at) (session_at (start + 5) bytes) _ (session_fails (start + 5) (omega (arith, early)))
        (λ session. fails_then (λ b. IsEarly b.at) (word_at (start + 11) bytes) _ (word_fails (start + 11) (omega (arith, early))) (λ word. tt)))

    -- a session alone
    alone_fails : {Y : Type 0} (made : ℕ → Y) → Fails (λ b. IsEarly b.at) (session_at start bytes >>= λ session. Ok (made session))
    alone_fails made = fails_then (λ b. IsEarly b.at) (session_at start bytes) _ (session_fails start (omega (arith, early))) (λ session. tt)

    -- a name alone, a flag after a version, and a name that may be missing
    named_fails : {Y : Type 0} (made : List ℕ → Y) → Fails (λ b. IsEarly b.at) (name_at p start bytes >>= λ name. Ok (made name))
    named_fails made = fails_then (λ b. IsEarly b.at) (name_at p start bytes) _ (name_fails start (omega (arith, early))) (λ name. tt)

    flagged_fails : {Y : Type 0} (made : Bool → Y) → Fails (λ b. IsEarly b.at) (flag_at (start + 4) bytes >>= λ on. Ok (made on))
    flagged_fails made = fails_then (λ b. IsEarly b.at) (flag_at (start + 4) bytes) _ (flag_fails (start + 4) (omega (arith, early))) (λ on. tt)

    may_fail : {Y : Type 0} (place : ℕ) (made : Option (List ℕ) → Y) → place < 2 ^ 38
        → Fails (λ b. IsEarly b.at) (optional_at p place bytes >>= λ name. Ok (made name))
    may_fail place made low = fails_then (λ b. IsEarly b.at) (optional_at p place bytes) _ (optional_fails place low) (λ name. tt)

    -- a body of each kind, in the order of the kinds
    kinds_fail : AllByRecursion (λ kind. Fails (λ b. IsEarly b.at) (body_at p kind start bytes)) frame_kinds
    kinds_fail = (
      named_fails _,
      (
        tell_fails,
        (
          hello_fails,
          (
            alone_fails _,
            (
              alone_fails _,
              (
                tt,
                (
                  tt,
                  (
                    flagged_fails _,
                    (
                      lay_fails,
                      (
                        find_fails,
                        (
                          may_fail (start + 4) _ (omega (arith, early)),
                          (may_fail start _ (omega (arith, early)), (tt, (tt, (tt, (cast_fails, (alone_fails _, tt)))))),
                        ),
                      ),
                    ),
                  ),
                ),
              ),
            ),
          ),
        ),
      ),
    )

    bodies_fail : (code : ℕ) → IfSome (kind_of_code code) (λ kind. Fails (λ b. IsEarly b.at) (body_at p kind start bytes))
    bodies_fail zero = tt
    bodies_fail (suc before) =
        All-at (λ kind. Fails (λ b. IsEarly b.at) (body_at p kind start bytes)) frame_kinds before
        (All-from_recursion (λ kind. Fails (λ b. IsEarly b.at) (body_at p kind start bytes)) frame_kinds kinds_fail)

  -- ---- heads

  module _ (start : ℕ) (is_start : start ≡ body_start p) where
    early : start ≤ 85
    early = let few = start_few p limits in omega (arith, few, is_start)

    fails_both : {X Y E : Type 0} (P : E → Type 0) (R : Y → Type 0) (r : Result X E) (next : X → Result Y E) → Fails P r
        → ((x : X) → Both P R (next x)) → Both P R (r >>= next)
    fails_both P R (Ok x) next is others = others x
    fails_both P R (Err e) next is others = is

    place_small : (i : ℕ) → slice_index bytes i < 256
    place_small = bytes_small bytes small

    digits_head : (place : ℕ) → place < 2 ^ 40 → Fails (λ e. IsFault (fault_of_head e)) (digits_at BadDigit p place bytes)
    digits_head place low =
        let few = limits.digits_to in
        digits_at_fail (λ e. IsFault (fault_of_head e)) BadDigit p place bytes (λ at below. omega (arith, low, few, below))

    head_few : head_len p ≤ 5
    head_few = by_version (is_long p)
      where
        by_version : (long : Bool) → (if long then 5 else 4) ≤ 5
        by_version true = omega arith
        by_version false = omega arith

    if_both : {X : Type 0} (Q : X → Type 0) (b : Bool) (e : HeadFault) (r : Result X HeadFault) → IsFault (fault_of_head e)
        → Both (λ e. IsFault (fault_of_head e)) Q r → Both (λ e. IsFault (fault_of_head e)) Q (if b then Err e else r)
    if_both Q true e r fault others = fault
    if_both Q false e r fault others = others

    sized_both : (kind : _) → Fails (λ b. IsEarly b.at) (body_at p kind start bytes)
        → Both (λ e. IsFault (fault_of_head e)) (λ o. Fails (λ b. IsEarly b.at) (body_at p o.kind start bytes))
        (sized p kind (number_at 2 2 bytes) bytes)
    sized_both kind fails =
        let P : HeadFault → Type 0 = λ e. IsFault (fault_of_head e) in
        let few = limits.digits_to in
        let first = head_few in
        let begun = start_few p limits in
        let len = number_at 2 2 bytes in
        let low : len < 65536 = length_small bytes small in
        let missing : (body_start p + len - length bytes) < 2 ^ 64 = omega (arith, low, begun) in
        let more : (length bytes - (body_start p + len)) < 2 ^ 64 = omega (arith, short) in
        if_both _ (not (is_length p kind len)) (BadLength len) _ low
        (if_both _ (is_long p && not (slice_index bytes 4 == p.digits)) (BadCount (slice_index bytes 4)) _ (place_small 4)
        (if_both _ (nat_lt (length bytes) (body_start p + len)) (Short (body_start p + len - length bytes)) _ missing
        (if_both _ (nat_lt (body_start p + len) (length bytes)) (Trailing (length bytes - (body_start p + len))) _ more
        (fails_both P _ (digits_at BadDigit p (head_len p) bytes) _ (digits_head (head_len p) (omega (arith, first)))
        (λ sender. fails_both P _ (digits_at BadDigit p (head_len p + p.digits) bytes) _
        (digits_head (head_len p + p.digits) (omega (arith, first, few))) (λ receiver. fails))))))

    of_both : (o : _) → IfSome o (λ kind. Fails (λ b. IsEarly b.at) (body_at p kind start bytes))
        → Both (λ e. IsFault (fault_of_head e)) (λ o. Fails (λ b. IsEarly b.at) (body_at p o.kind start bytes)) (of_kind p o bytes)
    of_both None fails = place_small 1
    of_both (Some kind) fails = sized_both kind fails

    opening_both : Both (λ e. IsFault (fault_of_head e)) (λ o. Fails (λ b. IsEarly b.at) (body_at p o.kind start bytes)) (opening_of p bytes)
    opening_both =
        let first = head_few in
        let missing : (head_len p - length bytes) < 2 ^ 64 = omega (arith, first) in
        if_both _ (nat_lt (length bytes) (head_len p)) (Short (head_len p - length bytes)) _ missing
        (if_both _ (not (slice_index bytes 0 == version_of p)) (BadVersion (slice_index bytes 0)) _ (place_small 0)
        (of_both (kind_of_code (slice_index bytes 1)) (bodies_fail start early (slice_index bytes 1))))

in_both : {X E : Type 0} (of : E → WireFault) (P : E → Type 0) (Q : X → Type 0) (r : Result X E) → ((e : E) → P e → IsFault (of e)) → Both P Q r
    → Both IsFault Q (in_frame of r)
in_both of P Q (Ok x) all is = is
in_both of P Q (Err e) all is = all e is

in_fails : {X E : Type 0} (of : E → WireFault) (P : E → Type 0) (r : Result X E) → ((e : E) → P e → IsFault (of e)) → Fails P r
    → Fails IsFault (in_frame of r)
in_fails of P (Ok x) all is = tt
in_fails of P (Err e) all is = all e is

both_fails : {X Y E : Type 0} (P : E → Type 0) (Q : X → Type 0) (r : Result X E) (next : X → Result Y E) → Both P Q r
    → ((x : X) → Q x → Fails P (next x)) → Fails P (r >>= next)
both_fails P Q (Ok x) next is others = others x is
both_fails P Q (Err e) next is others = is

frame_fails : (p : SettingsValue) (bytes : List ℕ) → AreWithinLimits p → AreBytes bytes → length bytes < 2 ^ 32 → Fails IsFault (frame_of p bytes)
frame_fails p bytes limits small short =
    both_fails IsFault (λ o. Fails (λ b. IsEarly b.at) (body_at p o.kind (body_start p) bytes)) (in_frame fault_of_head (opening_of p bytes)) _
    (in_both fault_of_head (λ e. IsFault (fault_of_head e)) _ (opening_of p bytes) (λ e is. is)
    (opening_both p limits bytes small short (body_start p) refl))
    (λ o fails. fails_then IsFault _ _ (in_fails _ (λ b. IsEarly b.at) (body_at p o.kind (body_start p) bytes) (λ b low. omega (arith, low)) fails)
    (λ body. tt))

-- so it is of a whole frame
pub faults_in_range : (p : SettingsValue) (bytes : List ℕ) (fault : WireFault) → AreWithinLimits p → AreBytes bytes → length bytes < 2 ^ 32
    → frame_of p bytes ≡ Err fault → IsFault fault
faults_in_range p bytes fault limits small short is =
    let all = frame_fails p bytes limits small short in
    subst (Fails IsFault) is all
