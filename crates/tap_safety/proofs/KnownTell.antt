-- A Tell keeps Cover at a core node that covers its joiner so already.
use Rattle.std.proofs.Common.{◌≡◌, ℕ, List}
use Rattle.tap_name.specs.declared.slot.Slot.{Slot}
use Rattle.tap_name.specs.Settings.{SettingsValue}
use Rattle.tap_wire.specs.declared.frame.Frame.{Frame}
use Rattle.tap_wire.specs.declared.frame.TellFields.{TellFields}
use Rattle.tap_safety.specs.Frames.{hello_body, tell_body}
use Rattle.tap_safety.specs.System.{System, CoversAt}
use Rattle.tap_safety.specs.Parts.{Cover}
use Rattle.tap_safety.specs.TellStep.{BeforeTell, IsTellOf, TakesKnownTell}
use Rattle.tap_safety.proofs.CoverKept.{core_or_joiner}
use Rattle.tap_safety.proofs.CoverStep.{cover_already}
use Rattle.tap_safety.proofs.KeptParts.{AddsNone, Keeps, TakesOne}
use Rattle.tap_safety.proofs.KeepsAll.{keeps_all}
use Rattle.tap_safety.proofs.TellKeeps.{core_kept, core_was, covers_same, joiner_was, links_same, told_but_one}
use Rattle.tap_safety.proofs.UnderWay.{named_still}

module _ (p : SettingsValue) (s s' : System) (number : ℕ) (w x : List ℕ) (tell : TellFields) (watch : List Slot)
    (step : TakesKnownTell s s' number w x tell watch) (before : BeforeTell p s)
    (is : IsTellOf p s x tell.joiner tell.prefix tell.level) where
  abbrev taken_tell : Frame
  taken_tell = record { from = w; to = x; body = tell_body tell watch }

  pub keeps : Keeps s s'
  keeps =
      keeps_all s s' (core_kept s s' x step.before step.after step.at step.status)
      (links_same s s' x step.before step.after step.at step.links)
      (named_still s s' number taken_tell step.sent step.taken
      (λ fields same. let no : hello_body fields ≡ tell_body tell watch = same in cc))
      step.surrogate

  pub adds_none : AddsNone s s'
  adds_none = record {
    cores = core_was s s' x step.before step.after step.at step.status;
    joiners = joiner_was s s' x step.before step.after step.at step.status step.surrogate;
  }

  pub takes_one : TakesOne s s' x tell.joiner tell.level
  takes_one = record {
    told = told_but_one s s' number w x tell watch step.sent step.taken;
    joiner = λ joiner. absurd (core_or_joiner s x is.core joiner);
  }

  pub cover_known : Cover p s'
  cover_known =
      let covers : CoversAt s x tell.joiner step.kept = record { state = step.before; is = step.at.was; cover = step.covered } in
      cover_already p s s' x tell.joiner tell.level keeps adds_none takes_one before.names is.core before.cover before.covered step.kept
      covers step.most (covers_same s s' x step.before step.after step.at step.covers)
