use Rattle.std.proofs.Common.{arith}
use Rattle.tap_name.proofs.Alike.{by_words}
use Rattle.tap_name.proofs.name.are_same_bytes.Goals as goal

pub returns : goal.returns
returns c =
    by_words c.args.mine.now c.args.theirs.now c.told-mine c.told-theirs c.fits-mine c.fits-theirs c.last_word.result c.last_word-2.result
    (omega (arith, c.word_at.ensures, c.word_at-2.ensures, c.if-word_at.false))
    (omega (arith, c.word_at-else-word_at.ensures, c.word_at-else-word_at-2.ensures, c.if-word_at-2.false))
    c.last_word.ensures c.last_word-2.ensures
