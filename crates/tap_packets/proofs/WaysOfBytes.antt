-- The way of a frame is what its bytes say.
use Rattle.std.proofs.Common.{◌≡◌, ℕ, suc, ◌+◌, ◌-◌, ◌≤◌, true, nat_eq, List, [], ◌∷◌, None, Some, ap, sym, ◌∙◌, arith, inl, inr}
use Rattle.std.specs.Prelude.{if◌then◌else◌, slice_get}
use Rattle.std.specs.List.{filter_map, cons_option}
use Rattle.std.proofs.lemmas.Option.{none-some, same_Some}
use Rattle.std.proofs.lemmas.Bool.{eqb-true, cases_Bool}
use Rattle.tap_name.specs.Settings.{SettingsValue}
use Rattle.tap_log.specs.declared.record.Record.{Record}
use Rattle.tap_log.specs.declared.record.Record.TheVariants.{Sent}
use Rattle.tap_log.specs.Kinds.{sent_number}
use Rattle.tap_wire.specs.Names.{receiver_in, sender_in}
use Rattle.tap_log.specs.Frames.{bytes_of, sent_bytes}
use Rattle.tap_packets.specs.PacketLaws.{WaysOfBytes}
use Rattle.tap_packets.specs.Packets.{frames_sent}
use Rattle.tap_packets.specs.Sequence.{Way, way_between, sent_way, frame_ways, way_at}
use Rattle.tap_packets.proofs.KeptForms.{keeps_from}
use Rattle.tap_packets.proofs.NumbersInRows.{AreFrom}

-- the way that a frame's bytes say
abbrev way_in : SettingsValue → List ℕ → Way
way_in settings bytes = way_between (sender_in settings bytes) (receiver_in settings bytes)

-- of frames that are numbered from this number on
record IsWayOf (settings : SettingsValue) (log : List Record) (start frame : ℕ) (bytes : List ℕ) : Type 0 where
  low : start ≤ frame
  is : way_at (frame_ways settings log) (frame - start) ≡ way_in settings bytes

way-here : (settings : SettingsValue) (log : List Record) (start number frame : ℕ) (sent bytes : List ℕ) → number ≡ start
    → nat_eq number frame ≡ true → sent ≡ bytes
    → (start ≤ frame) × (way_at (way_in settings sent ∷ frame_ways settings log) (frame - start) ≡ way_in settings bytes)
way-here settings log start number frame sent bytes first here same =
    let is = eqb-true number frame here in
    let none : frame - start ≡ 0 = omega (arith, is, first) in
    (omega (arith, is, first), ap (way_at (way_in settings sent ∷ frame_ways settings log)) none ∙ ap (way_in settings) same)

way-later : (settings : SettingsValue) (log : List Record) (start frame : ℕ) (way : Way) (bytes : List ℕ)
    → IsWayOf settings log (start + 1) frame bytes
    → (start ≤ frame) × (way_at (way ∷ frame_ways settings log) (frame - start) ≡ way_in settings bytes)
way-later settings log start frame way bytes rest =
    let low = rest.low in
    let more : frame - start ≡ suc (frame - (start + 1)) = omega (arith, low) in
    (omega (arith, low), ap (way_at (way ∷ frame_ways settings log)) more ∙ rest.is)

ways-from : (settings : SettingsValue) (log : List Record) (start frame : ℕ) (bytes : List ℕ) → AreFrom start (frames_sent log)
    → bytes_of log frame ≡ Some bytes → IsWayOf settings log start frame bytes
unfolding sent_number sent_way sent_bytes
ways-from settings [] start frame bytes from is = absurd (none-some bytes is)
ways-from settings (Sent number sent ∷ log) start frame bytes from is =
    elim (cases_Bool (nat_eq number frame)) [
      | inl here ↦
          let same =
          ap (λ b. slice_get (cons_option (if b then Some sent else None) (filter_map (sent_bytes frame) log)) 0) (sym here) ∙ is in
          let parts = way-here settings log start number frame sent bytes from.0 here (same_Some sent bytes same) in
          record { low = parts.0; is = parts.1 }
      | inr apart ↦
          let later =
          ap (λ b. slice_get (cons_option (if b then Some sent else None) (filter_map (sent_bytes frame) log)) 0) (sym apart) ∙ is in
          let parts =
          way-later settings log start frame (way_in settings sent) bytes (ways-from settings log (start + 1) frame bytes from.1 later) in
          record { low = parts.0; is = parts.1 }
    ]
ways-from settings (item ∷ log) start frame bytes from is =
    let rest = ways-from settings log start frame bytes from is in record { low = rest.low; is = rest.is }

pub ways_of_bytes_holds : WaysOfBytes
ways_of_bytes_holds settings log frame bytes kept is =
    let same : frame ≡ frame - 0 = omega arith in
    ap (way_at (frame_ways settings log)) same ∙ (ways-from settings log 0 frame bytes (keeps_from log kept).numbered is).is
