-- A shape can be printed.
use Rattle.std.proofs.Common.{◌≢◌, ◌<◌, Bool, List, [], ◌∷◌, Some, refl, sym, subst}
use Rattle.std.specs.List.{AllByRecursion}
use Rattle.std.proofs.lemmas.List.Elements.{All-weaker, recursion_from_All}
use Rattle.tap_name.specs.Settings.{SettingsValue}
use Rattle.tap_wire.specs.declared.fault.WireFault.{WireFault}
use Rattle.tap_wire.specs.declared.fault.WireFault.TheVariants.{NoMemory}
use Rattle.tap_log.specs.declared.record.LinkLine.{LinkLine}
use Rattle.tap_log.specs.declared.record.Record.{Record}
use Rattle.tap_log.specs.declared.record.Record.TheVariants.{Begin, Sent, Walked, TableOf, Garbled}
use Rattle.tap_log.specs.Kinds.{is_carried}
use Rattle.tap_line.specs.Line.{IsFault, IsLink}
use Rattle.tap_report.specs.Text.{ArePrintable, IsBegin, IsPrintable, IsPrintableLog}
use Rattle.tap_report.proofs.TextLemmas.{same_settings}
use Rattle.tap_shape.specs.Shape.{IsShape, IsShaped}

fault_never : (fault : WireFault) → IsFault fault → fault ≢ NoMemory
fault_never NoMemory is = absurd is
fault_never fault is = λ same. cc

module _ (p : SettingsValue) (carrier : Bool) where
  one_printable : (item : Record) → IsShaped p carrier item → IsPrintable (Some p) item
  unfolding IsShaped
  one_printable (Sent number bytes) is = is.1.head
  one_printable (Walked object path) is = is.1.some
  one_printable (TableOf name status links) is =
      All-weaker (IsLink p) (λ (link : LinkLine). link.slot.digit < p.base) (λ link fits. fits.digit) links is.1.each
  one_printable (Garbled number fault) is = fault_never fault is.1
  one_printable item is = tt

  pub no_begin : (item : Record) → IsShaped p carrier item → IsBegin item → ⊥
  unfolding IsShaped
  no_begin (Begin settings frames members) is begins = is
  no_begin item is begins = absurd (cc)

  all_printable : (items : List Record) → AllByRecursion (IsShaped p carrier) items → ArePrintable (Some p) items
  all_printable [] all = tt
  all_printable (item ∷ items) all = (
    one_printable item all.0,
    subst (λ settings. ArePrintable settings items) (sym (same_settings (Some p) item (no_begin item all.0))) (all_printable items all.1),
  )

pub shapes_print : (log : List Record) → IsShape log → IsPrintableLog log
shapes_print log shape =
    let p = shape.settings in
    let c = is_carried log in
    subst IsPrintableLog (sym shape.is) (record {
      begins = (refl, All-weaker (IsShaped p c) (λ item. IsBegin item → ⊥) (no_begin p c) shape.items shape.shaped);
      each = (tt, all_printable p c shape.items (recursion_from_All (IsShaped p c) shape.items shape.shaped));
    })
