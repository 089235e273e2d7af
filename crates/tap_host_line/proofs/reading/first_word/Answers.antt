use Rattle.std.proofs.Common.{sym, ◌∙◌}
use Rattle.std.proofs.lemmas.List.{take_rest}
use Rattle.tap_host_line.proofs.Packets.{word_at}
use Rattle.tap_host_line.proofs.reading.first_word.Goals as goal

pub returns-in-Some : goal.returns-in-Some
returns-in-Some c =
    rw (c.of.ensures, take_rest) (sym c.in_ok-text.ensures ∙ word_at c.in_ok-text.text.now c.in-Some.at c.in-Some.ensures)
