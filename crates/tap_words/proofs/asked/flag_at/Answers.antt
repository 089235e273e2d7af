use Rattle.std.proofs.Common.{◌∙◌, ap, false, sym}
use Rattle.std.specs.Prelude.{unwrap_or}
use Rattle.std.specs.Str.Parse.{ParsesBool}
use Rattle.clap.proofs.WalkLemmas.{one_text-rows}
use Rattle.clap.specs.Words.{found_of}
use Rattle.tap_words.specs.Words.{bool_of}
use Rattle.tap_words.proofs.Numbers.{reads_flag}
use Rattle.tap_words.proofs.asked.flag_at.Goals as goal

pub returns-in-Some : goal.returns-in-Some
returns-in-Some c =
    sym (ap (λ o. unwrap_or o false) c.in-Some.is)
    ∙ reads_flag _ ParsesBool _ c.get_one.result c.get_one.ensures.none c.get_one.ensures.value (λ u x g. g)
    ∙ ap bool_of (one_text-rows (found_of c.args.matches.now) c.args.id.now)

pub returns-in-None : goal.returns-in-None
returns-in-None c =
    sym (ap (λ o. unwrap_or o false) c.in-None.is)
    ∙ reads_flag _ ParsesBool _ c.get_one.result c.get_one.ensures.none c.get_one.ensures.value (λ u x g. g)
    ∙ ap bool_of (one_text-rows (found_of c.args.matches.now) c.args.id.now)
