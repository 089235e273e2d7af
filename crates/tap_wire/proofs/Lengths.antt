-- how many bytes a body has, and that its kind may have so many
use Rattle.std.proofs.Common.{◌≡◌, ◌<◌, ◌≤◌, ◌++◌, ◌+◌, ◌*◌, ◌-◌, ◌/◌, ◌%◌, ℕ, Bool, true, false, eqb, nat_le, ◌&&◌, ◌||◌, List, [], ◌∷◌, length, Option, None, Some, IfSome, arith, refl, ap, length-append}
use Rattle.std.specs.List.{flat_map}
use Rattle.std.proofs.lemmas.Bool.{eq-eqb, le-leb, and_from}
use Rattle.std.proofs.Math.Nat.{div-add-mod}
use Rattle.byteorder.specs.Endian.{big_bytes}
use Rattle.byteorder.specs.Numbers.{length-bytes_high_first}
use Rattle.tap_name.specs.Settings.{SettingsValue, AreWithinLimits}
use Rattle.tap_name.specs.Name.{IsName}
use Rattle.tap_wire.specs.declared.frame.Body.{Body}
use Rattle.tap_wire.specs.declared.frame.Body.TheVariants.{Seek, Tell, Hello, Heard, Ack, Done, Release, Link, Lay, Find, Answer, Leave, Left, Gone, Forget, Cast, CastAck}
use Rattle.tap_wire.specs.Kind.{kind_of}
use Rattle.tap_wire.specs.Spelling.{flag, slot_bytes, link_bytes, optional_bytes, body_bytes, IsBody}
use Rattle.tap_wire.specs.Layout.{is_length, is_parts, name_len, body_len}
use Rattle.tap_wire.proofs.ListBodies.{length-slots, length-links, quotient}

-- ---- the bytes of a body are as many

three_parts : (a b c : List ℕ) → length (a ++ b ++ c) ≡ length a + length b + length c
three_parts a b c = omega (arith, length-append (a ++ b) c, length-append a b)

four_parts : (a b c d : List ℕ) → length (a ++ b ++ c ++ d) ≡ length a + length b + length c + length d
four_parts a b c d = omega (arith, length-append (a ++ b ++ c) d, three_parts a b c)

five_parts : (a b c d e : List ℕ) → length (a ++ b ++ c ++ d ++ e) ≡ length a + length b + length c + length d + length e
five_parts a b c d e = omega (arith, length-append (a ++ b ++ c ++ d) e, four_parts a b c d)

pub length-optional : (p : SettingsValue) (name : Option (List ℕ)) → IfSome name (IsName p)
    → length (optional_bytes name) ≡ 1 + name_len p name
length-optional p None is = refl
length-optional p (Some name) is = omega (arith, is.len)

pub length-body : (p : SettingsValue) (body : Body) → IsBody p body → length (body_bytes body) ≡ body_len p body
length-body p (Seek joiner) is = omega (arith, is.len)
length-body p (Tell joiner prefix level session depth watch) is =
    omega (
      arith,
      five_parts joiner (prefix ∷ level ∷ []) (big_bytes 4 session) (big_bytes 2 depth) (flat_map slot_bytes watch),
      is.joiner_is.len,
      length-bytes_high_first 4 session,
      length-bytes_high_first 2 depth,
      length-slots watch,
    )
length-body p (Hello session core links) is =
    omega (
      arith,
      three_parts (big_bytes 4 session) (flag core ∷ []) (flat_map link_bytes links),
      length-bytes_high_first 4 session,
      length-links p links is.1.names,
    )
length-body p (Heard session) is = length-bytes_high_first 4 session
length-body p (Ack session) is = length-bytes_high_first 4 session
length-body p Done is = refl
length-body p Release is = refl
length-body p (Link version on) is = omega (arith, length-append (big_bytes 4 version) (flag on ∷ []), length-bytes_high_first 4 version)
length-body p (Lay object server level version on) is =
    omega (
      arith,
      five_parts object server (level ∷ []) (big_bytes 4 version) (flag on ∷ []),
      is.0.len,
      is.1.len,
      length-bytes_high_first 4 version,
    )
length-body p (Find ticket object asker level) is =
    omega (arith, four_parts (big_bytes 4 ticket) object asker (level ∷ []), is.0.len, is.1.len, length-bytes_high_first 4 ticket)
length-body p (Answer ticket server) is =
    omega (arith, length-append (big_bytes 4 ticket) (optional_bytes server), length-bytes_high_first 4 ticket, length-optional p server is)
length-body p (Leave replacement) is = length-optional p replacement is
length-body p Left is = refl
length-body p Gone is = refl
length-body p Forget is = refl
length-body p (Cast cast level session depth word) is =
    omega (
      arith,
      five_parts (big_bytes 4 cast) (level ∷ []) (big_bytes 4 session) (big_bytes 2 depth) word,
      length-bytes_high_first 4 cast,
      length-bytes_high_first 4 session,
      length-bytes_high_first 2 depth,
    )
length-body p (CastAck session) is = length-bytes_high_first 4 session

-- ---- and its kind may have so many

parts_hold : (fixed size most count len : ℕ) → 0 < size → count ≤ most → len ≡ fixed + size * count → is_parts len fixed size most ≡ true
parts_hold fixed size most count len positive few e =
    let rest : len - fixed ≡ size * count = omega (arith, e) in
    let many : (len - fixed) / size ≡ count = quotient size count (len - fixed) positive rest in
    let product : size * ((len - fixed) / size) ≡ size * count = ap (λ k. size * k) many in
    let whole : (len - fixed) % size ≡ 0 = omega (arith, div-add-mod (len - fixed) size, product, rest) in
    and_from (nat_le fixed len) (eqb ((len - fixed) % size) 0 && nat_le ((len - fixed) / size) most) (le-leb fixed len (omega (arith, e)))
    (and_from (eqb ((len - fixed) % size) 0) (nat_le ((len - fixed) / size) most) (eq-eqb ((len - fixed) % size) 0 whole)
    (le-leb ((len - fixed) / size) most (omega (arith, many, few))))

or_second : (a b : Bool) → b ≡ true → (a || b) ≡ true
or_second true b e = refl
or_second false b e = e

pub long_body : (p : SettingsValue) (body : Body) → AreWithinLimits p → IsBody p body
    → is_length p (kind_of body) (body_len p body) ≡ true
long_body p (Seek joiner) limits is = eq-eqb (p.digits + 0) p.digits (omega arith)
long_body p (Tell joiner prefix level session depth watch) limits is =
    parts_hold (p.digits + 8) 2 (p.digits * (p.base - 1)) (length watch) (p.digits + 8 + 2 * length watch) (omega arith) is.slots.few refl
long_body p (Hello session core links) limits is =
    parts_hold 5 (p.digits + 1) 255 (length links) (5 + (p.digits + 1) * length links) (omega arith) is.1.few refl
long_body p (Heard session) limits is = refl
long_body p (Ack session) limits is = refl
long_body p Done limits is = refl
long_body p Release limits is = refl
long_body p (Link version on) limits is = refl
long_body p (Lay object server level version on) limits is = eq-eqb (2 * p.digits + 6 + 0) (2 * p.digits + 6) (omega arith)
long_body p (Find ticket object asker level) limits is = eq-eqb (2 * p.digits + 5 + 0) (2 * p.digits + 5) (omega arith)
long_body p (Answer ticket None) limits is = refl
long_body p (Answer ticket (Some name)) limits is =
    let len = 5 + p.digits in or_second (eqb len 5) (eqb len (p.digits + 5)) (eq-eqb len (p.digits + 5) (omega arith))
long_body p (Leave None) limits is = refl
long_body p (Leave (Some name)) limits is =
    let len = 1 + p.digits in or_second (eqb len 1) (eqb len (p.digits + 1)) (eq-eqb len (p.digits + 1) (omega arith))
long_body p Left limits is = refl
long_body p Gone limits is = refl
long_body p Forget limits is = refl
long_body p (Cast cast level session depth word) limits is =
    let len = 11 + length word in
    and_from (nat_le 12 len) (nat_le len 43) (le-leb 12 len (omega (arith, is.2.some))) (le-leb len 43 (omega (arith, is.2.few)))
long_body p (CastAck session) limits is = refl

product_most : (a b c d : ℕ) → a ≤ c → b ≤ d → a * b ≤ c * d
product_most a b c d h k = grind arith

-- a length that a kind may have fits two bytes
pub short_enough : (p : SettingsValue) (body : Body) → AreWithinLimits p → IsBody p body → body_len p body < 65536
short_enough p (Seek joiner) limits is = omega (arith, limits.digits_to)
short_enough p (Tell joiner prefix level session depth watch) limits is =
    omega (arith, is.slots.few, limits.digits_to, product_most p.digits (p.base - 1) 40 15 limits.digits_to (omega (arith, limits.base_to)))
short_enough p (Hello session core links) limits is =
    omega (arith, product_most (p.digits + 1) (length links) 41 255 (omega (arith, limits.digits_to)) is.1.few)
short_enough p (Heard session) limits is = omega arith
short_enough p (Ack session) limits is = omega arith
short_enough p Done limits is = omega arith
short_enough p Release limits is = omega arith
short_enough p (Link version on) limits is = omega arith
short_enough p (Lay object server level version on) limits is = omega (arith, limits.digits_to)
short_enough p (Find ticket object asker level) limits is = omega (arith, limits.digits_to)
short_enough p (Answer ticket None) limits is = omega arith
short_enough p (Answer ticket (Some name)) limits is = omega (arith, limits.digits_to)
short_enough p (Leave None) limits is = omega arith
short_enough p (Leave (Some name)) limits is = omega (arith, limits.digits_to)
short_enough p Left limits is = omega arith
short_enough p Gone limits is = omega arith
short_enough p Forget limits is = omega arith
short_enough p (Cast cast level session depth word) limits is = omega (arith, is.2.few)
short_enough p (CastAck session) limits is = omega arith
