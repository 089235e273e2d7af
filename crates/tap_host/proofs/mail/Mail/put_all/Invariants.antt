use Rattle.std.proofs.Common.{◌≡◌, ◌++◌, drop, map}
use Rattle.tap_host.specs.Mail.{letter_in, text_of_letters}
use Rattle.tap_host.proofs.mail.Mail.put_all.Given as goal

abbrev pub invariant-loop-item : goal.invariant-loop-item
invariant-loop-item l =
    l.out.items ++ text_of_letters (map (letter_in l.self-inside.frames.items) (drop l.item-index l.item-items))
    ≡ l.initial.out.items ++ text_of_letters l.self.letters
