-- the heads of frames: read where they were written, and written as they are read
-- Cited above: opening_parts
use Rattle.std.proofs.Common.{◌≡◌, ◌≤◌, ◌++◌, ◌+◌, ◌-◌, ℕ, zero, suc, Bool, true, false, cond, eqb, nat_lt, not, ◌&&◌, List, [], ◌∷◌, length, drop, slice_index, slice_get, Option, None, Some, Result, Ok, Err, arith, refl, ap, sym, subst, ◌∙◌}
use Rattle.std.proofs.lemmas.Bool.{eqb-true, eq-eqb, ltb-false, le-ltb, not-false}
use Rattle.tap_name.specs.Settings.{SettingsValue}
use Rattle.tap_wire.specs.declared.fault.HeadFault.{HeadFault}
use Rattle.tap_wire.specs.declared.fault.HeadFault.TheVariants.{Short, BadVersion, BadLength, BadCount, Trailing, BadDigit}
use Rattle.tap_wire.specs.declared.kind.Kind.{Kind}
use Rattle.tap_wire.specs.declared.kind.Kind.TheVariants.{Seek, Tell, Hello, Heard, Ack, Done, Release, Link, Lay, Find, Answer, Leave, Left, Gone, Forget, Cast, CastAck}
use Rattle.tap_wire.specs.declared.opening.Opening.{Opening}
use Rattle.tap_wire.specs.Kind.{code_of, frame_kinds, kind_of_code}
use Rattle.tap_wire.specs.Fields.{◌>>=◌, number_at, digits_at}
use Rattle.tap_wire.specs.Reading.{names_at, sized, of_kind, opening_of}
use Rattle.tap_wire.specs.Layout.{is_length, is_long, version_of, head_len, body_start}
use Rattle.tap_wire.proofs.ReadingSteps.{bind_ok, bind_is}
use Rattle.tap_wire.proofs.Pieces.{byte_is, past_byte, byte_taken}

-- ---- codes

pub code_kind : (kind : Kind) → kind_of_code (code_of kind) ≡ Some kind
code_kind Seek = refl
code_kind Tell = refl
code_kind Hello = refl
code_kind Heard = refl
code_kind Ack = refl
code_kind Done = refl
code_kind Release = refl
code_kind Link = refl
code_kind Lay = refl
code_kind Find = refl
code_kind Answer = refl
code_kind Leave = refl
code_kind Left = refl
code_kind Gone = refl
code_kind Forget = refl
code_kind Cast = refl
code_kind CastAck = refl

abbrev some_kind : Kind → Option Kind
some_kind kind = Some kind

same_code : (a b : Kind) → some_kind a ≡ some_kind b → code_of b ≡ code_of a
same_code a b e = let same : a ≡ b = cc in ap code_of (sym same)

-- a list's element at a place is one of its elements
abbrev Coded : List Kind → ℕ → Type 0
Coded [] first = Unit {0}
Coded (k ∷ ks) first = (code_of k ≡ first) × Coded ks (suc first)

coded_at : (ks : List Kind) (first place : ℕ) (chosen : Kind) → Coded ks first → slice_get ks place ≡ Some chosen
    → code_of chosen ≡ first + place
coded_at [] first place chosen coded e = absurd cc
coded_at (k ∷ ks) first zero chosen coded e = same_code k chosen e ∙ coded.0 ∙ omega arith
coded_at (k ∷ ks) first (suc place) chosen coded e = coded_at ks (suc first) place chosen coded.1 e ∙ omega arith

kinds_coded : Coded frame_kinds 1
kinds_coded = (
  refl,
  (
    refl,
    (
      refl,
      (
        refl,
        (
          refl,
          (
            refl,
            (refl, (refl, (refl, (refl, (refl, (refl, (refl, (refl, (refl, (refl, (refl, tt))))))))))),
          ),
        ),
      ),
    ),
  ),
)

pub code_back : (code : ℕ) (chosen : Kind) → kind_of_code code ≡ Some chosen → code_of chosen ≡ code
code_back zero chosen e = absurd cc
code_back (suc place) chosen e = coded_at frame_kinds 1 place chosen kinds_coded e ∙ omega arith

-- ---- tests one after the other

passes : {X E : Type 0} (test : Bool) (fault : E) (next : Result X E) (x : X) → test ≡ false → next ≡ Ok x
    → cond test (Err fault) next ≡ Ok x
passes true fault next x h e = absurd cc
passes false fault next x h e = e

passed : {X E : Type 0} (test : Bool) (fault : E) (next : Result X E) (x : X) → cond test (Err fault) next ≡ Ok x → (test ≡ false)
    × (next ≡ Ok x)
passed true fault next x e = absurd cc
passed false fault next x e = (refl, e)

both_false : (a b : Bool) → (a ≡ true → b ≡ false) → (a && b) ≡ false
both_false true b h = h refl
both_false false b h = refl

pub second_false : (a b : Bool) → (a && b) ≡ false → a ≡ true → b ≡ false
second_false true b h e = h
second_false false b h e = absurd cc

not_from : (a : Bool) → a ≡ true → not a ≡ false
not_from true e = refl
not_from false e = absurd cc

-- ---- the number of digits in a head

abbrev pub count_bytes : Bool → ℕ → List ℕ
count_bytes long digits = cond {A = List ℕ} long (digits ∷ []) []

abbrev pub head_bytes_of : Bool → ℕ
head_bytes_of long = cond {A = ℕ} long 5 4

pub count_is : (long : Bool) (digits : ℕ) (bytes rest : List ℕ) → drop 4 bytes ≡ count_bytes long digits ++ rest → long ≡ true
    → slice_index bytes 4 ≡ digits
count_is true digits bytes rest here h = byte_is bytes 4 digits rest here
count_is false digits bytes rest here h = absurd cc

pub past_count : (long : Bool) (digits : ℕ) (bytes rest : List ℕ) → drop 4 bytes ≡ count_bytes long digits ++ rest
    → drop (head_bytes_of long) bytes ≡ rest
past_count true digits bytes rest here = past_byte bytes 4 digits rest here
past_count false digits bytes rest here = here

pub count_taken : (long : Bool) (digits : ℕ) (bytes : List ℕ) → head_bytes_of long ≤ length bytes
    → (long ≡ true → slice_index bytes 4 ≡ digits)
    → drop 4 bytes ≡ count_bytes long digits ++ drop (head_bytes_of long) bytes
count_taken true digits bytes within h = byte_taken bytes 4 (omega arith) ∙ ap (λ x. x ∷ drop 5 bytes) (h refl)
count_taken false digits bytes within h = refl

-- ---- what a head says

-- the bytes have this head, and their names
pub record HasHead (p : SettingsValue) (bytes : List ℕ) (o : Opening) (len : ℕ) : Type 0 where
  pub version : slice_index bytes 0 ≡ version_of p
  pub kind : slice_index bytes 1 ≡ code_of o.kind
  pub stated : number_at 2 2 bytes ≡ len
  pub possible : is_length p o.kind len ≡ true
  pub count : is_long p ≡ true → slice_index bytes 4 ≡ p.digits
  pub whole : length bytes ≡ body_start p + len
  pub sender : digits_at BadDigit p (head_len p) bytes ≡ Ok o.sender
  pub receiver : digits_at BadDigit p (head_len p + p.digits) bytes ≡ Ok o.receiver

head_most : (p : SettingsValue) → head_len p ≤ body_start p
head_most p = omega arith

names_is : (p : SettingsValue) (bytes : List ℕ) (o : Opening) (len : ℕ) → HasHead p bytes o len → names_at p o.kind bytes ≡ Ok o
names_is p bytes o len h =
    let made : List ℕ → List ℕ → Result Opening HeadFault =
    λ sender receiver. Ok (record { kind = o.kind; sender = sender; receiver = receiver }) in
    bind_is (digits_at BadDigit p (head_len p) bytes) (λ sender. digits_at BadDigit p (head_len p + p.digits) bytes >>=
    λ receiver. made sender receiver) o.sender (Ok o) h.sender
    (bind_is (digits_at BadDigit p (head_len p + p.digits) bytes) (λ receiver. made o.sender receiver) o.receiver (Ok o) h.receiver refl)

sized_is : (p : SettingsValue) (bytes : List ℕ) (o : Opening) (len : ℕ) → HasHead p bytes o len → sized p o.kind len bytes ≡ Ok o
sized_is p bytes o len h =
    let whole = body_start p + len in
    let other = is_long p && not (eqb (slice_index bytes 4) p.digits) in
    let short = nat_lt (length bytes) whole in
    let more = nat_lt whole (length bytes) in
    let names = names_at p o.kind bytes in
    let fourth : Result Opening HeadFault = cond more (Err (Trailing (length bytes - whole))) names in
    let third : Result Opening HeadFault = cond short (Err (Short (whole - length bytes))) fourth in
    let second : Result Opening HeadFault = cond other (Err (BadCount (slice_index bytes 4))) third in
    passes (not (is_length p o.kind len)) (BadLength len) second o (not_from (is_length p o.kind len) h.possible)
    (passes other (BadCount (slice_index bytes 4)) third o
    (both_false (is_long p) (not (eqb (slice_index bytes 4) p.digits))
    (λ long. not_from (eqb (slice_index bytes 4) p.digits) (eq-eqb (slice_index bytes 4) p.digits (h.count long))))
    (passes short (Short (whole - length bytes)) fourth o (le-ltb (length bytes) whole (omega (arith, h.whole)))
    (passes more (Trailing (length bytes - whole)) names o (le-ltb whole (length bytes) (omega (arith, h.whole)))
    (names_is p bytes o len h))))

pub opening_is : (p : SettingsValue) (bytes : List ℕ) (o : Opening) (len : ℕ) → HasHead p bytes o len → opening_of p bytes ≡ Ok o
opening_is p bytes o len h =
    let b0 = slice_index bytes 0 in
    let b1 = slice_index bytes 1 in
    let rest = of_kind p (kind_of_code b1) bytes in
    let second : Result Opening HeadFault = cond (not (eqb b0 (version_of p))) (Err (BadVersion b0)) rest in
    let kind : kind_of_code b1 ≡ Some o.kind = ap kind_of_code h.kind ∙ code_kind o.kind in
    let last : rest ≡ Ok o = ap (λ k. of_kind p k bytes) kind ∙ ap (λ l. sized p o.kind l bytes) h.stated ∙ sized_is p bytes o len h in
    passes (nat_lt (length bytes) (head_len p)) (Short (head_len p - length bytes)) second o
    (le-ltb (length bytes) (head_len p) (omega (arith, h.whole, head_most p)))
    (passes (not (eqb b0 (version_of p))) (BadVersion b0) rest o
    (not_from (eqb b0 (version_of p)) (eq-eqb b0 (version_of p) h.version)) last)

names_parts : (p : SettingsValue) (kind : Kind) (bytes : List ℕ) (o : Opening) → names_at p kind bytes ≡ Ok o
    → (kind ≡ o.kind) × (digits_at BadDigit p (head_len p) bytes ≡ Ok o.sender)
    × (digits_at BadDigit p (head_len p + p.digits) bytes ≡ Ok o.receiver)
names_parts p kind bytes o e =
    let made : List ℕ → List ℕ → Opening = λ sender receiver. record { kind = kind; sender = sender; receiver = receiver } in
    let ok : Opening → Result Opening HeadFault = λ x. Ok x in
    let a = bind_ok (digits_at BadDigit p (head_len p) bytes)
    (λ sender. digits_at BadDigit p (head_len p + p.digits) bytes >>= λ receiver. ok (made sender receiver)) o e in
    let b = bind_ok (digits_at BadDigit p (head_len p + p.digits) bytes) (λ receiver. ok (made a.0 receiver)) o a.2 in
    let is : made a.0 b.0 ≡ o = opening_same (made a.0 b.0) o b.2 in
    (ap (λ (x : Opening). x.kind) is, a.1 ∙ ap (λ (x : Opening). Ok x.sender) is, b.1 ∙ ap (λ (x : Opening). Ok x.receiver) is)
  where
    opened : Opening → Result Opening HeadFault
    opened x = Ok x

    opening_same : (x y : Opening) → ◌≡◌ {A = Result Opening HeadFault} (Ok x) (Ok y) → x ≡ y
    opening_same x y e = cc

sized_parts : (p : SettingsValue) (kind : Kind) (bytes : List ℕ) (o : Opening) → slice_index bytes 0 ≡ version_of p
    → slice_index bytes 1 ≡ code_of kind → sized p kind (number_at 2 2 bytes) bytes ≡ Ok o
    → HasHead p bytes o (number_at 2 2 bytes)
sized_parts p kind bytes o version code e =
    let len = number_at 2 2 bytes in
    let whole = body_start p + len in
    let other = is_long p && not (eqb (slice_index bytes 4) p.digits) in
    let short = nat_lt (length bytes) whole in
    let more = nat_lt whole (length bytes) in
    let names = names_at p kind bytes in
    let fourth : Result Opening HeadFault = cond more (Err (Trailing (length bytes - whole))) names in
    let third : Result Opening HeadFault = cond short (Err (Short (whole - length bytes))) fourth in
    let second : Result Opening HeadFault = cond other (Err (BadCount (slice_index bytes 4))) third in
    let a = passed (not (is_length p kind len)) (BadLength len) second o e in
    let b = passed other (BadCount (slice_index bytes 4)) third o a.1 in
    let c = passed short (Short (whole - length bytes)) fourth o b.1 in
    let d = passed more (Trailing (length bytes - whole)) names o c.1 in
    let parts = names_parts p kind bytes o d.1 in
    record {
      version = version;
      kind = code ∙ ap code_of parts.0;
      stated = refl;
      possible = subst (λ k. is_length p k len ≡ true) parts.0 (not-false (is_length p kind len) a.0);
      count = λ long. eqb-true (slice_index bytes 4) p.digits
          (not-false (eqb (slice_index bytes 4) p.digits) (second_false (is_long p) (not (eqb (slice_index bytes 4) p.digits)) b.0 long));
      whole = omega (arith, ltb-false (length bytes) whole c.0, ltb-false whole (length bytes) d.0);
      sender = parts.1;
      receiver = parts.2;
    }

of_kind_parts : (p : SettingsValue) (found : Option Kind) (bytes : List ℕ) (o : Opening) → slice_index bytes 0 ≡ version_of p
    → kind_of_code (slice_index bytes 1) ≡ found → of_kind p found bytes ≡ Ok o
    → HasHead p bytes o (number_at 2 2 bytes)
of_kind_parts p None bytes o version code e = absurd cc
of_kind_parts p (Some kind) bytes o version code e = sized_parts p kind bytes o version (sym (code_back (slice_index bytes 1) kind code)) e

pub opening_parts : (p : SettingsValue) (bytes : List ℕ) (o : Opening) → opening_of p bytes ≡ Ok o → HasHead p bytes o (number_at 2 2 bytes)
opening_parts p bytes o e =
    let b0 = slice_index bytes 0 in
    let rest = of_kind p (kind_of_code (slice_index bytes 1)) bytes in
    let second : Result Opening HeadFault = cond (not (eqb b0 (version_of p))) (Err (BadVersion b0)) rest in
    let a = passed (nat_lt (length bytes) (head_len p)) (Short (head_len p - length bytes)) second o e in
    let b = passed (not (eqb b0 (version_of p))) (BadVersion b0) rest o a.1 in
    of_kind_parts p (kind_of_code (slice_index bytes 1)) bytes o
    (eqb-true b0 (version_of p) (not-false (eqb b0 (version_of p)) b.0)) refl b.1
