-- Where the names of a head stand in the bytes of its frame.
use Rattle.std.proofs.Common.{◌≡◌, ℕ, ◌+◌, List, take, drop, Ok}
use Rattle.tap_name.specs.Settings.{SettingsValue}
use Rattle.tap_wire.specs.declared.fault.HeadFault.TheVariants.{BadDigit}
use Rattle.tap_wire.specs.declared.frame.Head.{Head}
use Rattle.tap_wire.specs.Fields.{digits_at}
use Rattle.tap_wire.specs.Layout.{head_len}
use Rattle.tap_wire.specs.Names.{receiver_in, sender_in}
use Rattle.tap_wire.specs.Reading.{head_of, opening_of}
use Rattle.tap_wire.proofs.Openings.{opening_parts}
use Rattle.tap_wire.proofs.ReadingSteps.{bind_ok, digits_ok}

name_in : (p : SettingsValue) (bytes : List ℕ) (place : ℕ) (name : List ℕ) → digits_at BadDigit p place bytes ≡ Ok name
    → take p.digits (drop place bytes) ≡ name
name_in p bytes place name is = (digits_ok _ (take p.digits (drop place bytes)) name _ is).0

-- the head that is read has the names in place
pub names_of_head : (p : SettingsValue) (bytes : List ℕ) (head : Head) → head_of p bytes ≡ Ok head
    → (sender_in p bytes ≡ head.from) × (receiver_in p bytes ≡ head.to)
names_of_head p bytes head is =
    let o = bind_ok (opening_of p bytes) _ head is in
    let h = opening_parts p bytes o.0 o.1 in
    let sender = name_in p bytes (head_len p) o.0.sender h.sender in
    let receiver = name_in p bytes (head_len p + p.digits) o.0.receiver h.receiver in
    (cc (sender, o.2), cc (receiver, o.2))
