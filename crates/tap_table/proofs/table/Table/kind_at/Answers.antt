use Rattle.std.proofs.Common.{◌∙◌, ap}
use Rattle.std.specs.Option.{option_map}
use Rattle.std.proofs.lemmas.Option.{slice_get-map}
use Rattle.tap_table.specs.Table.{Row, rows}
use Rattle.tap_table.proofs.table.Table.kind_at.Goals as goal

pub returns : goal.returns
returns c =
    slice_get-map (λ (r : Row). r.entry.kind) (rows c.args.self.now) c.args.i
    ∙ ap (option_map (λ (r : Row). r.entry.kind)) c.row_at.ensures
