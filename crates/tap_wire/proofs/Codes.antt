-- the kinds by their codes
use Rattle.std.proofs.Common.{◌≡◌, ◌≤◌, ◌-◌, ℕ, zero, suc, length, get_or, Some, arith, refl, sym}
use Rattle.std.proofs.lemmas.Option.{slice_get-get_or}
use Rattle.tap_wire.specs.declared.kind.Kind.{Kind}
use Rattle.tap_wire.specs.Kind.{frame_kinds, kind_of_code}

-- the kind of a code stands at its place
pub kind_there : (code : ℕ) (d : Kind) → 1 ≤ code → code ≤ 17 → Some (get_or frame_kinds (code - 1) d) ≡ kind_of_code code
kind_there zero d least most = absurd (omega arith)
kind_there (suc place) d least most =
    let same : suc place - 1 ≡ place = omega arith in
    let len : length frame_kinds ≡ 17 = refl in
    rw same (sym (slice_get-get_or frame_kinds place d (omega arith)))
