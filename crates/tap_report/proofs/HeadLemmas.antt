-- Where the kind and the names stand in the bytes of a frame whose head is read, so that they are printed from there.
use Rattle.std.proofs.Common.{◌≡◌, ◌≤◌, ◌<◌, ℕ, ◌+◌, ◌-◌, ◌*◌, List, take, drop, length, slice_index, slice_range, All, Result, Ok, Err, IsOk, refl, ap, sym, ◌∙◌, subst, arith}
use Rattle.std.proofs.lemmas.List.{drop-drop, drop-take, take-append-drop, take-take}
use Rattle.std.proofs.lemmas.List.Elements.{All-append, All-weaker}
use Rattle.tap_name.specs.Settings.{AreWithinLimits, SettingsValue}
use Rattle.tap_name.specs.Name.{IsName}
use Rattle.tap_wire.specs.declared.fault.HeadFault.{HeadFault}
use Rattle.tap_wire.specs.declared.fault.HeadFault.TheVariants.{BadDigit}
use Rattle.tap_wire.specs.declared.frame.Head.{Head}
use Rattle.tap_wire.specs.Fields.{digits_at}
use Rattle.tap_wire.specs.Kind.{code_of}
use Rattle.tap_wire.specs.Layout.{body_start, head_len}
use Rattle.tap_wire.specs.Names.{receiver_in, sender_in}
use Rattle.tap_wire.specs.Reading.{head_of, opening_of}
use Rattle.tap_wire.proofs.Openings.{opening_parts}
use Rattle.tap_wire.proofs.Pieces.{name_taken}
use Rattle.tap_wire.proofs.ReadingSteps.{bind_ok, digits_ok}

-- the head that is read in place
abbrev pub head_in : SettingsValue → List ℕ → Head
head_in p bytes = record { kind = slice_index bytes 1; from = sender_in p bytes; to = receiver_in p bytes }

-- the bytes have a head and two names
pub record StandsIn (p : SettingsValue) (bytes : List ℕ) : Type 0 where
  pub within : body_start p ≤ length bytes
  pub sender : IsName p (sender_in p bytes)
  pub receiver : IsName p (receiver_in p bytes)
  pub head : head_of p bytes ≡ Ok (head_in p bytes)

name_in : (p : SettingsValue) (bytes : List ℕ) (place : ℕ) (name : List ℕ) → digits_at BadDigit p place bytes ≡ Ok name
    → take p.digits (drop place bytes) ≡ name
name_in p bytes place name is = (digits_ok _ (take p.digits (drop place bytes)) name _ is).0

abbrev head_with : ℕ → List ℕ → List ℕ → Result Head HeadFault
head_with kind from to = Ok (record { kind = kind; from = from; to = to })

same_heads : (kind kind' : ℕ) (from from' to to' : List ℕ) → kind ≡ kind' → from ≡ from' → to ≡ to'
    → head_with kind from to ≡ head_with kind' from' to'
same_heads kind kind' from from' to to' k f t = rw (k, f, t) refl

stands_by : (p : SettingsValue) (bytes : List ℕ) (read : Result Head HeadFault) → head_of p bytes ≡ read → IsOk read → StandsIn p bytes
stands_by p bytes (Ok head) is ok =
    let o = bind_ok (opening_of p bytes) _ head is in
    let h = opening_parts p bytes o.0 o.1 in
    let sender = name_in p bytes (head_len p) o.0.sender h.sender in
    let receiver = name_in p bytes (head_len p + p.digits) o.0.receiver h.receiver in
    record {
      within = omega (arith, h.whole);
      sender = subst (IsName p) (sym sender) (name_taken BadDigit p bytes (head_len p) o.0.sender (omega (arith, h.whole)) h.sender).1;
      receiver =
          subst (IsName p) (sym receiver)
          (name_taken BadDigit p bytes (head_len p + p.digits) o.0.receiver (omega (arith, h.whole)) h.receiver).1;
      head =
          is ∙ sym o.2
          ∙ sym (same_heads (slice_index bytes 1) (code_of o.0.kind) (sender_in p bytes) o.0.sender (receiver_in p bytes) o.0.receiver h.kind
          sender receiver);
    }
stands_by p bytes (Err fault) is ok = absurd cc

-- the kind and the names of a head that is read
pub head_stands : (p : SettingsValue) (bytes : List ℕ) → IsOk (head_of p bytes) → StandsIn p bytes
head_stands p bytes ok = stands_by p bytes (head_of p bytes) refl ok

-- the digits of both names
abbrev pub names_in : SettingsValue → List ℕ → List ℕ
names_in p bytes = take (2 * p.digits) (drop (head_len p) bytes)

-- the piece of the bytes in which the names stand
pub names_piece : (p : SettingsValue) (bytes : List ℕ) (from to : ℕ) → from ≡ head_len p → to ≡ from + 2 * p.digits
    → slice_range bytes from to ≡ names_in p bytes
names_piece p bytes from to starts ends =
    let len : to - from ≡ 2 * p.digits = omega arith in rw (len, starts) refl

-- the first name is the sender's, and the second one the receiver's
pub first_is_sender : (p : SettingsValue) (bytes : List ℕ) → take p.digits (names_in p bytes) ≡ sender_in p bytes
first_is_sender p bytes = take-take p.digits (2 * p.digits) (drop (head_len p) bytes) (omega arith)

pub second_is_receiver : (p : SettingsValue) (bytes : List ℕ) → drop p.digits (names_in p bytes) ≡ receiver_in p bytes
second_is_receiver p bytes =
    let two : 2 * p.digits ≡ p.digits + p.digits = omega arith in
    ap (λ n. drop p.digits (take n (drop (head_len p) bytes))) two
    ∙ drop-take p.digits p.digits (drop (head_len p) bytes)
    ∙ ap (take p.digits) (drop-drop p.digits (head_len p) bytes)

-- the digits of a piece can be printed, if it is a name
pub piece_below : (p : SettingsValue) (name piece : List ℕ) → AreWithinLimits p → IsName p name → piece ≡ name
    → All (λ d. d < 16) piece
piece_below p name piece limits is same =
    rw same (All-weaker (λ d. d < p.base) (λ d. d < 16) (λ d below. omega (arith, limits.base_to)) name is.below)

-- their digits can be printed
pub names_below : (p : SettingsValue) (bytes : List ℕ) → AreWithinLimits p → StandsIn p bytes → All (λ d. d < 16) (names_in p bytes)
names_below p bytes limits stands =
    let first = piece_below p (sender_in p bytes) (take p.digits (names_in p bytes)) limits stands.sender (first_is_sender p bytes) in
    let second = piece_below p (receiver_in p bytes) (drop p.digits (names_in p bytes)) limits stands.receiver (second_is_receiver p bytes) in
    subst (All (λ d. d < 16)) (take-append-drop p.digits (names_in p bytes))
    (All-append (λ d. d < 16) (take p.digits (names_in p bytes)) (drop p.digits (names_in p bytes)) first second)
