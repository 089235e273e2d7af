use Rattle.std.proofs.Common.{sym, ap, ◌∙◌}
use Rattle.std.specs.List.{count_by}
use Rattle.tap_table.proofs.Holders.{length-on}
use Rattle.tap_table.proofs.ties.Ties.holder_count.Goals as goal

pub returns : goal.returns
returns c =
    rw (← c.self.view_is)
    (c.count_on.ensures ∙ ap (count_by (λ e. e.value)) c.as_slice.ensures.entries ∙ sym (length-on c.self.inside.holders))
