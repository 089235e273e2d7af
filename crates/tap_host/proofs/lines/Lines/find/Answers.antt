use Rattle.std.proofs.Common.{◌≡◌, ◌∙◌, ap}
use Rattle.std.specs.Prelude.{Err}
use Rattle.std.proofs.lemmas.Result.{err_from_is_err_and}
use Rattle.tap_host.specs.declared.status.HostStatus.TheVariants.{NoMemory}
use Rattle.tap_host.proofs.Finding.{loses}
use Rattle.tap_host.proofs.lines.Lines.find.Goals as goal

pub returns-in_err-read_more : goal.returns-in_err-read_more
returns-in_err-read_more g c =
    let made = err_from_is_err_and c.from_residual-in_err-read_more.result c.from_residual-in_err-read_more.ensures.1 in
    let refused : c.from_residual-in_err-read_more.result ≡ Err NoMemory = made.1 ∙ ap Err made.2 in
    loses c.args.self.now c.loop-len.self _ _ _ _ _ refused c.loop-len.invariant c.in_err-read_more.ensures
