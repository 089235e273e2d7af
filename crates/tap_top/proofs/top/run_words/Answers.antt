use Rattle.std.proofs.Common.{◌≡◌, None, Option, Some, ap, map, sym}
use Rattle.std.specs.Prelude.{Ok, Result, ok_or}
use Rattle.std.specs.String.{string_bytes}
use Rattle.tap_words.specs.Words.{asked_by}
use Rattle.tap_words.specs.declared.asked.Asked.{Asked}
use Rattle.tap_words.specs.declared.asked.WordsRefusal.{WordsRefusal}
use Rattle.tap_words.specs.declared.asked.WordsRefusal.TheVariants.{Usage}
use Rattle.tap_top.proofs.top.run_words.Goals as goal

-- what accepted words ask for
accepted : (words : Option Asked) (asked : Asked) → ◌≡◌ {A = Result Asked WordsRefusal} (Ok asked) (ok_or words Usage) → words ≡ Some asked
accepted None asked is = absurd (cc)
accepted (Some other) asked is = let same : asked ≡ other = cc in ap Some (sym same)

pub returns-in-Ok-clause-cause : goal.returns-in-Ok-clause-cause
returns-in-Ok-clause-cause g c =
    let is = accepted (asked_by (map string_bytes c.args.words.now)) c.in-Ok.asked (c.in-Ok.ensures.value (λ h. cc)) in
    rw is c.run_asked.ensures.cause

pub returns-in-Ok-clause-written : goal.returns-in-Ok-clause-written
returns-in-Ok-clause-written g c =
    let is = accepted (asked_by (map string_bytes c.args.words.now)) c.in-Ok.asked (c.in-Ok.ensures.value (λ h. cc)) in
    rw is c.run_asked.ensures.written
