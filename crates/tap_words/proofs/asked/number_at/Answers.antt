use Rattle.std.proofs.Common.{◌∙◌, ap}
use Rattle.std.specs.Str.Parse.{ExplainsUnsignedError, HasUnsignedDigitsIfOk, ParsesUnsigned}
use Rattle.clap.proofs.WalkLemmas.{one_text-rows}
use Rattle.clap.specs.Words.{found_of}
use Rattle.tap_words.specs.Words.{number_of}
use Rattle.tap_words.proofs.Numbers.{reads_number}
use Rattle.tap_words.proofs.asked.number_at.Goals as goal

pub returns : goal.returns
returns c =
    reads_number _ (λ bs r. ParsesUnsigned 64 10 bs r × ExplainsUnsignedError 10 bs r × HasUnsignedDigitsIfOk bs r) _ c.get_one.result
    c.get_one.ensures.none c.get_one.ensures.value (λ u x g. g.0)
    ∙ ap number_of (one_text-rows (found_of c.args.matches.now) c.args.id.now)
