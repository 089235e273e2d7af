-- heads of which each test holds
use Rattle.std.proofs.Common.{◌≡◌, ◌<◌, ◌≤◌, ◌+◌, ◌-◌, ℕ, Bool, cond, true, false, eqb, not, ◌&&◌, List, length, take, drop, slice_index, All, Some, Ok, arith, refl, ap, sym, subst, ◌∙◌}
use Rattle.std.proofs.lemmas.Bool.{eqb-true, not-false}
use Rattle.std.proofs.lemmas.List.{take_at}
use Rattle.tap_name.specs.Settings.{SettingsValue}
use Rattle.tap_name.specs.Name.{IsName}
use Rattle.tap_wire.specs.declared.fault.HeadFault.TheVariants.{BadDigit}
use Rattle.tap_wire.specs.declared.kind.Kind.{Kind}
use Rattle.tap_wire.specs.declared.opening.Opening.{Opening}
use Rattle.tap_wire.specs.Kind.{kind_of_code}
use Rattle.tap_wire.specs.Fields.{number_at, digits_at, digits_unless}
use Rattle.tap_wire.specs.Layout.{is_length, is_long, version_of, head_len, body_start}
use Rattle.tap_wire.specs.Names.{HeadHasNames, opened, receiver_in, sender_in}
use Rattle.tap_wire.specs.Reading.{opening_of}
use Rattle.tap_wire.proofs.Openings.{HasHead, code_back, code_kind, opening_is, opening_parts, second_false}
use Rattle.tap_wire.proofs.Pieces.{are_name, name_taken, none_bad}

-- digits below the base are a name
name_right : (p : SettingsValue) (bytes : List ℕ) (place : ℕ) → place + p.digits ≤ length bytes
    → All (λ d. d < p.base) (take p.digits (drop place bytes))
    → (digits_at BadDigit p place bytes ≡ Ok (take p.digits (drop place bytes))) × IsName p (take p.digits (drop place bytes))
name_right p bytes place room below =
    let digits = take p.digits (drop place bytes) in
    let none = none_bad true p.base digits refl below in
    (ap (digits_unless (λ at. BadDigit (place + at)) digits) none, are_name p bytes place digits refl room none)

-- a head of which each test holds is read
pub head_right : (p : SettingsValue) (bytes : List ℕ) (kind : Kind) → slice_index bytes 0 ≡ version_of p
    → kind_of_code (slice_index bytes 1) ≡ Some kind → is_length p kind (number_at 2 2 bytes) ≡ true
    → (is_long p && not (eqb (slice_index bytes 4) p.digits)) ≡ false → length bytes ≡ body_start p + number_at 2 2 bytes
    → All (λ d. d < p.base) (sender_in p bytes) → All (λ d. d < p.base) (receiver_in p bytes)
    → (opening_of p bytes ≡ Ok (opened p kind bytes)) × HeadHasNames p bytes
head_right p bytes kind version code possible count whole sender receiver =
    let o = opened p kind bytes in
    let len = number_at 2 2 bytes in
    let first = name_right p bytes (head_len p) (omega (arith, whole)) sender in
    let second = name_right p bytes (head_len p + p.digits) (omega (arith, whole)) receiver in
    let head : HasHead p bytes o len = record {
      version = version;
      kind = sym (code_back (slice_index bytes 1) kind code);
      stated = refl;
      possible = possible;
      count = λ long. eqb-true (slice_index bytes 4) p.digits
          (not-false (eqb (slice_index bytes 4) p.digits) (second_false (is_long p) (not (eqb (slice_index bytes 4) p.digits)) count long));
      whole = whole;
      sender = first.0;
      receiver = second.0;
    } in
    (opening_is p bytes o len head, record { sender = first.1; receiver = second.1 })

-- digits that are read as a name are one, in place
name_kept : (p : SettingsValue) (bytes name : List ℕ) (place : ℕ) → place + p.digits ≤ length bytes
    → digits_at BadDigit p place bytes ≡ Ok name
    → (name ≡ take p.digits (drop place bytes)) × IsName p (take p.digits (drop place bytes))
name_kept p bytes name place room read =
    let taken = name_taken BadDigit p bytes place name room read in
    let same : take p.digits (drop place bytes) ≡ name =
    ap (take p.digits) taken.0 ∙ take_at name (drop (place + p.digits) bytes) p.digits taken.1.len in
    (sym same, subst (IsName p) (sym same) taken.1)

two_most : (long : Bool) → 2 ≤ cond {A = ℕ} long 5 4
two_most true = omega arith
two_most false = omega arith

-- a head that was read, with the names in place
pub record HeadIsKnown (p : SettingsValue) (bytes : List ℕ) (kind : Kind) : Type 0 where
  pub code : kind_of_code (slice_index bytes 1) ≡ Some kind
  pub second : 1 < length bytes
  pub gives : (opening_of p bytes ≡ Ok (opened p kind bytes)) × HeadHasNames p bytes
  pub long : is_length p kind (length bytes - body_start p) ≡ true
  pub within : body_start p ≤ length bytes

pub head_known : (p : SettingsValue) (bytes : List ℕ) (o : Opening) → opening_of p bytes ≡ Ok o → HeadIsKnown p bytes o.kind
head_known p bytes o e =
    let h = opening_parts p bytes o e in
    let first = name_kept p bytes o.sender (head_len p) (omega (arith, h.whole)) h.sender in
    let second = name_kept p bytes o.receiver (head_len p + p.digits) (omega (arith, h.whole)) h.receiver in
    let len : length bytes - body_start p ≡ number_at 2 2 bytes = omega (arith, h.whole) in
    record {
      code = ap kind_of_code h.kind ∙ code_kind o.kind;
      second = omega (arith, h.whole, two_most (is_long p));
      gives = (
        e ∙ ap (λ (name : List ℕ). Ok (record { kind = o.kind; sender = name; receiver = o.receiver })) first.0
            ∙ ap (λ (name : List ℕ). Ok (record { kind = o.kind; sender = sender_in p bytes; receiver = name })) second.0,
        record { sender = first.1; receiver = second.1 },
      );
      long = ap (is_length p o.kind) len ∙ h.possible;
      within = omega (arith, h.whole);
    }
