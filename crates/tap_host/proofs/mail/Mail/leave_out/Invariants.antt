use Rattle.std.proofs.Common.{◌≡◌, ◌++◌, drop, map}
use Rattle.tap_host.proofs.Numbered.{kept_frame}
use Rattle.tap_host.proofs.mail.Mail.leave_out.Given as goal

abbrev pub invariant-loop-item : goal.invariant-loop-item
invariant-loop-item l =
    l.kept.items ++ map (kept_frame l.self-inside.frames.items) (drop l.item-index l.item-items)
    ≡ map (kept_frame l.self-inside.frames.items) l.item-items
