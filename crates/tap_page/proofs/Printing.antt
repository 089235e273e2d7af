-- What the words of a page ask for, what is handed over of what was written, and what that makes of a run.
use Rattle.std.proofs.Common.{◌≡◌, ◌≤◌, ◌⊎◌, inl, inr, ℕ, Bool, true, false, IfSome, List, [], ◌∷◌, Option, Some, length, take, arith, ap, refl, ◌∙◌}
use Rattle.std.proofs.lemmas.List.{length-take-le, take-take}
use Rattle.std.proofs.lemmas.List.Elements.{All-cons, All-nil}
use Rattle.tap_io.specs.Sink.{SinkState}
use Rattle.tap_io.specs.Source.{SourceState}
use Rattle.tap_engine.specs.World.{WorldValue}
use Rattle.tap_words.specs.Plain.{IsInLimits, PlainWordsAreAccepted}
use Rattle.tap_words.specs.Plain.Choice.{brief}
use Rattle.tap_words.specs.Words.{asked_by}
use Rattle.tap_words.specs.declared.asked.Asked.{Asked}
use Rattle.tap_top.specs.AskedLog.{IsLogAsked}
use Rattle.tap_top.specs.Ending.{HasCause, HasWritten, log_of, mode_asked, text_of_run}
use Rattle.tap_top.specs.Status.{exit_code}
use Rattle.tap_top.specs.declared.status.Status.{Status}
use Rattle.tap_page.specs.Page.{HasPrinted, HasRunText, IsFirstPartOf, page_asked, page_words, source_of}

-- The words of a page are accepted.
pub page_words_accepted : (is_brief : Bool) → PlainWordsAreAccepted → asked_by (page_words is_brief) ≡ Some (page_asked is_brief)
page_words_accepted true law = law (brief ∷ []) (refl, tt) (All-cons IsInLimits brief [] tt (All-nil IsInLimits))
page_words_accepted false law = law [] tt (All-nil IsInLimits)

-- a sink that holds these bytes
abbrev holding : List ℕ → ℕ → SinkState
holding held faults = record { held = Some held; faults = faults; behind = [] }

-- Some first bytes of some first bytes are some first bytes.
first_of_first : (text held printed : List ℕ) → IsFirstPartOf text held → IsFirstPartOf held printed → IsFirstPartOf text printed
first_of_first text held printed some fewer =
    let long : length held ≡ some.count = ap length some.bytes ∙ length-take-le some.count text some.within in
    let within : fewer.count ≤ some.count = omega (arith, fewer.within, long) in
    record {
      count = fewer.count;
      within = omega (arith, within, some.within);
      bytes = fewer.bytes ∙ ap (take fewer.count) some.bytes ∙ take-take fewer.count some.count text within;
    }

-- What is handed over of what a sink holds is the text that was written, or some first bytes of it.
printed_so : (held printed text : List ℕ) (faults code : ℕ) (before status : Status)
    → HasWritten (holding [] 0) (holding held faults) text before status → HasPrinted printed held status code → HasPrinted printed text before code
printed_so held printed text faults code before status (inl (is, all)) (inl (answer, whole)) = inl (answer ∙ ap exit_code is, whole ∙ all.appends)
printed_so held printed text faults code before status (inl (is, all)) (inr (answer, part)) =
    inr (answer, record { count = part.count; within = omega (arith, part.within, ap length all.appends); bytes = part.bytes ∙ ap (take part.count) all.appends })
printed_so held printed text faults code before status (inr (is, some)) (inl (answer, whole)) =
    inr (
      answer ∙ ap exit_code is,
      record { count = some.prefix.count; within = some.prefix.within; bytes = whole ∙ some.prefix.appends },
    )
printed_so held printed text faults code before status (inr (is, some)) (inr (answer, part)) =
    inr (
      answer,
      first_of_first text held printed
          (record { count = some.prefix.count; within = some.prefix.within; bytes = some.prefix.appends }) part,
    )

-- What the top call says of a run whose words and source are a page's.
pub has_run : (is_brief : Bool) (text printed held : List ℕ) (faults code : ℕ) (asked : Option Asked) (old left : SourceState)
    (world : Option WorldValue) (before status : Status)
    → asked ≡ Some (page_asked is_brief) → old ≡ source_of text → HasCause asked old left world before
    → (log_of world ≡ []) ⊎ IfSome asked (λ asked. IsLogAsked asked old left (log_of world))
    → HasWritten (holding [] 0) (holding held faults) (text_of_run (mode_asked asked) (log_of world) before) before status
    → HasPrinted printed held status code → HasRunText is_brief text printed code
has_run is_brief text printed held faults code asked old left world before status accepted from cause headline written handed = record {
  before = before;
  world = world;
  left = left;
  cause = rw from at (rw accepted at cause);
  headline = rw from at (rw accepted at headline);
  written = rw accepted at (printed_so held printed (text_of_run (mode_asked asked) (log_of world) before) faults code before status written handed);
}
