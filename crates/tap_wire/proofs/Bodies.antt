-- the bodies of all kinds: read where they were written, and written as they are read
use Rattle.std.proofs.Common.{◌≡◌, ◌<◌, ◌≤◌, ◌++◌, ◌+◌, ◌*◌, ◌-◌, ◌/◌, ◌%◌, ◌^◌, ℕ, true, eqb, nat_le, ◌&&◌, ◌||◌, List, [], length, drop, All, Ok, arith, refl, subst, inl, inr, length-append}
use Rattle.std.proofs.lemmas.Bool.{eqb-true, leb-true, and_parts, or_cases}
use Rattle.byteorder.specs.Endian.{big_bytes}
use Rattle.byteorder.specs.Numbers.{length-bytes_high_first}
use Rattle.tap_name.specs.Settings.{SettingsValue, AreWithinLimits}
use Rattle.tap_wire.specs.declared.frame.Body.{Body}
use Rattle.tap_wire.specs.declared.frame.Body.TheVariants.{Seek, Tell, Hello, Heard, Ack, Done, Release, Link, Lay, Find, Answer, Leave, Left, Gone, Forget, Cast, CastAck}
use Rattle.tap_wire.specs.declared.kind.Kind.{Kind}
use Rattle.tap_wire.specs.declared.kind.Kind.TheVariants as kinds
use Rattle.tap_wire.specs.Kind.{kind_of}
use Rattle.tap_wire.specs.Fields.{◌>>=◌, session_at}
use Rattle.tap_wire.specs.Reading.{body_at}
use Rattle.tap_wire.specs.Spelling.{optional_bytes, body_bytes, IsBody, IsTyped}
use Rattle.tap_wire.specs.Layout.{is_length, is_parts}
use Rattle.tap_wire.proofs.ReadingSteps.{bind_ok, bind_is, ok_is}
use Rattle.tap_wire.proofs.TakesParts.{Takes}
use Rattle.tap_wire.proofs.ShortBodies.{nothing, left, seek_again, seek_taken, alone_again, alone_taken, TakesSession, link_again, link_taken, answer_again, answer_taken, leave_again, leave_taken}
use Rattle.tap_wire.proofs.LongBodies.{lay_again, lay_taken, find_again, find_taken, cast_again, cast_taken}
use Rattle.tap_wire.proofs.ListBodies.{tell_again, tell_taken, hello_again, hello_taken}

-- ---- what is written is read

session_again : (made : ℕ → Body) (start : ℕ) (bytes : List ℕ) (session : ℕ) → 1 ≤ session → session < 2 ^ 32
    → drop start bytes ≡ big_bytes 4 session
    → (session_at start bytes >>= λ s. Ok (made s)) ≡ Ok (made session)
session_again made start bytes session least fits here =
    bind_is (session_at start bytes) (λ s. Ok (made s)) session (Ok (made session)) (alone_again start bytes session least fits here) refl

pub body_again : (p : SettingsValue) (start : ℕ) (bytes : List ℕ) (body : Body) → AreWithinLimits p → start ≤ length bytes → IsBody p body
    → IsTyped body → drop start bytes ≡ body_bytes body
    → body_at p (kind_of body) start bytes ≡ Ok body
body_again p start bytes (Seek joiner) limits within is typed here = seek_again p start bytes joiner is here
body_again p start bytes (Tell joiner prefix level session depth watch) limits within is typed here =
    tell_again p start bytes joiner prefix level session depth watch is typed.2 typed.0 typed.1 here
body_again p start bytes (Hello session core links) limits within is typed here =
    hello_again p start bytes session core links is.0 is.1 typed here
body_again p start bytes (Heard session) limits within is typed here = session_again Heard start bytes session is typed here
body_again p start bytes (Ack session) limits within is typed here = session_again Ack start bytes session is typed here
body_again p start bytes Done limits within is typed here = refl
body_again p start bytes Release limits within is typed here = refl
body_again p start bytes (Link version on) limits within is typed here = link_again start bytes version on typed here
body_again p start bytes (Lay object server level version on) limits within is typed here =
    lay_again p start bytes object server level version on is.0 is.1 is.2 typed here
body_again p start bytes (Find ticket object asker level) limits within is typed here =
    find_again p start bytes ticket object asker level is.0 is.1 is.2 typed here
body_again p start bytes (Answer ticket server) limits within is typed here =
    let long = left bytes (big_bytes 4 ticket ++ optional_bytes server) start within here in
    let joined = length-append (big_bytes 4 ticket) (optional_bytes server) in
    let number = length-bytes_high_first 4 ticket in
    answer_again p start bytes ticket server limits.digits_from (omega (arith, long, joined, number)) typed is here
body_again p start bytes (Leave replacement) limits within is typed here =
    leave_again p start bytes replacement limits.digits_from within is here
body_again p start bytes Left limits within is typed here = refl
body_again p start bytes Gone limits within is typed here = refl
body_again p start bytes Forget limits within is typed here = refl
body_again p start bytes (Cast cast level session depth word) limits within is typed here =
    cast_again p start bytes cast level session depth word is.0 is.1 is.2 typed.0 typed.1 typed.2 here
body_again p start bytes (CastAck session) limits within is typed here = session_again CastAck start bytes session is typed here

-- ---- what is read was written

-- a body of no bytes
none_taken : (start : ℕ) (bytes : List ℕ) → start ≤ length bytes → eqb (length bytes - start) 0 ≡ true → drop start bytes ≡ []
none_taken start bytes within e = nothing bytes start (omega (arith, eqb-true (length bytes - start) 0 e))

-- a body of one session
session_taken : (p : SettingsValue) (made : ℕ → Body) (kind : Kind) (start : ℕ) (bytes : List ℕ) (body : Body) → All (λ b. b < 256) bytes
    → start ≤ length bytes → eqb (length bytes - start) 4 ≡ true
    → ((session : ℕ) → TakesSession start bytes session → Takes p kind start bytes (made session))
    → (session_at start bytes >>= λ s. Ok (made s)) ≡ Ok body → Takes p kind start bytes body
session_taken p made kind start bytes body all within long made_of e =
    let a = bind_ok (session_at start bytes) (λ s. Ok (made s)) body e in
    let len : length bytes ≡ start + 4 = omega (arith, eqb-true (length bytes - start) 4 long) in
    subst (Takes p kind start bytes) (ok_is (made a.0) body a.2) (made_of a.0 (alone_taken start bytes a.0 all len a.1))

either_length : (start digits fixed : ℕ) (bytes : List ℕ) → start ≤ length bytes
    → (eqb (length bytes - start) fixed || eqb (length bytes - start) (digits + fixed)) ≡ true
    → (start + fixed ≤ length bytes) × (start + fixed < length bytes → length bytes ≡ start + fixed + digits)
either_length start digits fixed bytes within e =
    let l = length bytes - start in
    elim (or_cases (eqb l fixed) (eqb l (digits + fixed)) e) [
      | inl short ↦ let is = eqb-true l fixed short in (omega arith, λ lt. absurd (omega arith))
      | inr long ↦ let is = eqb-true l (digits + fixed) long in (omega arith, λ lt. omega arith)
    ]

record IsParts (fixed size most : ℕ) (start : ℕ) (bytes : List ℕ) : Type 0 where
  pub least : start + fixed ≤ length bytes
  pub whole : (length bytes - (start + fixed)) % size ≡ 0
  pub few : (length bytes - (start + fixed)) / size ≤ most

parts_of : (fixed size most start : ℕ) (bytes : List ℕ) → start ≤ length bytes → is_parts (length bytes - start) fixed size most ≡ true
    → IsParts fixed size most start bytes
parts_of fixed size most start bytes within e =
    let l = length bytes - start in
    let a = and_parts (nat_le fixed l) (eqb ((l - fixed) % size) 0 && nat_le ((l - fixed) / size) most) e in
    let b = and_parts (eqb ((l - fixed) % size) 0) (nat_le ((l - fixed) / size) most) a.1 in
    let same : l - fixed ≡ length bytes - (start + fixed) = omega arith in
    record {
      least = omega (arith, leb-true fixed l a.0);
      whole = subst (λ x. x % size ≡ 0) same (eqb-true ((l - fixed) % size) 0 b.0);
      few = subst (λ x. x / size ≤ most) same (leb-true ((l - fixed) / size) most b.1);
    }

pub body_taken : (p : SettingsValue) (kind : Kind) (start : ℕ) (bytes : List ℕ) (body : Body) → All (λ b. b < 256) bytes
    → start ≤ length bytes → is_length p kind (length bytes - start) ≡ true
    → body_at p kind start bytes ≡ Ok body → Takes p kind start bytes body
body_taken p kinds.Seek start bytes body all within long e =
    seek_taken p start bytes body (omega (arith, eqb-true (length bytes - start) p.digits long)) e
body_taken p kinds.Tell start bytes body all within long e =
    let parts = parts_of (p.digits + 8) 2 (p.digits * (p.base - 1)) start bytes within long in
    let same : start + (p.digits + 8) ≡ start + p.digits + 8 = omega arith in
    tell_taken p start bytes body all (omega (arith, parts.least)) (subst (λ k. (length bytes - k) % 2 ≡ 0) same parts.whole)
    (subst (λ k. (length bytes - k) / 2 ≤ p.digits * (p.base - 1)) same parts.few) e
body_taken p kinds.Hello start bytes body all within long e =
    let parts = parts_of 5 (p.digits + 1) 255 start bytes within long in
    hello_taken p start bytes body all parts.least parts.whole parts.few e
body_taken p kinds.Heard start bytes body all within long e =
    session_taken p Heard kinds.Heard start bytes body all within long
    (λ session is. record { parts = is.parts; same = refl; rules = is.least; typed = is.fits }) e
body_taken p kinds.Ack start bytes body all within long e =
    session_taken p Ack kinds.Ack start bytes body all within long
    (λ session is. record { parts = is.parts; same = refl; rules = is.least; typed = is.fits }) e
body_taken p kinds.Done start bytes body all within long e =
    subst (Takes p kinds.Done start bytes) (ok_is Done body e)
    (record { parts = none_taken start bytes within long; same = refl; rules = tt; typed = tt })
body_taken p kinds.Release start bytes body all within long e =
    subst (Takes p kinds.Release start bytes) (ok_is Release body e)
    (record { parts = none_taken start bytes within long; same = refl; rules = tt; typed = tt })
body_taken p kinds.Link start bytes body all within long e =
    link_taken p start bytes body all (omega (arith, eqb-true (length bytes - start) 5 long)) e
body_taken p kinds.Lay start bytes body all within long e =
    lay_taken p start bytes body all (omega (arith, eqb-true (length bytes - start) (2 * p.digits + 6) long)) e
body_taken p kinds.Find start bytes body all within long e =
    find_taken p start bytes body all (omega (arith, eqb-true (length bytes - start) (2 * p.digits + 5) long)) e
body_taken p kinds.Answer start bytes body all within long e =
    let either = either_length start p.digits 5 bytes within long in answer_taken p start bytes body all either.0 either.1 e
body_taken p kinds.Leave start bytes body all within long e =
    let either = either_length start p.digits 1 bytes within long in leave_taken p start bytes body either.0 either.1 e
body_taken p kinds.Left start bytes body all within long e =
    subst (Takes p kinds.Left start bytes) (ok_is Left body e)
    (record { parts = none_taken start bytes within long; same = refl; rules = tt; typed = tt })
body_taken p kinds.Gone start bytes body all within long e =
    subst (Takes p kinds.Gone start bytes) (ok_is Gone body e)
    (record { parts = none_taken start bytes within long; same = refl; rules = tt; typed = tt })
body_taken p kinds.Forget start bytes body all within long e =
    subst (Takes p kinds.Forget start bytes) (ok_is Forget body e)
    (record { parts = none_taken start bytes within long; same = refl; rules = tt; typed = tt })
body_taken p kinds.Cast start bytes body all within long e =
    let l = length bytes - start in
    let parts = and_parts (nat_le 12 l) (nat_le l 43) long in
    cast_taken p start bytes body all (omega (arith, leb-true 12 l parts.0)) (omega (arith, leb-true l 43 parts.1)) e
body_taken p kinds.CastAck start bytes body all within long e =
    session_taken p CastAck kinds.CastAck start bytes body all within long
    (λ session is. record { parts = is.parts; same = refl; rules = is.least; typed = is.fits }) e
