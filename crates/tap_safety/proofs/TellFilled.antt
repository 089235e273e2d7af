-- A Tell at a core node keeps tables without holes, and what leads to them.
use Rattle.std.proofs.Common.{sym, ◌∙◌}
use Rattle.tap_name.specs.Settings.{SettingsValue}
use Rattle.tap_safety.specs.System.{System}
use Rattle.tap_safety.specs.Filled.{AreFilled}
use Rattle.tap_safety.specs.TellStep.{KnownTellIsTaken, TellIsTaken}
use Rattle.tap_safety.proofs.Calm.{AddsNoCover, covered_calm, meet_calm}
use Rattle.tap_safety.proofs.CoverKept.{cover_kept}
use Rattle.tap_safety.proofs.FrameKeeps.{covers_on, pins_back}
use Rattle.tap_safety.proofs.KeptParts.{hole_free_kept, low_kept, met_stays}
use Rattle.tap_safety.proofs.KnownTell.{adds_none, cover_known, keeps, takes_one}
use Rattle.tap_safety.proofs.MeetKept.{covered_kept, meet_kept}
use Rattle.tap_safety.proofs.TellKeeps as anew
use Rattle.tap_safety.proofs.TellKeeps.{covers_same}

pub filled_tell : (p : SettingsValue) (s s' : System) → TellIsTaken p s s' → AreFilled p s → AreFilled p s'
filled_tell p s s' t filled =
    let keeps = anew.keeps s s' t.number t.from t.to t.tell t.watch t.step in
    let none = anew.adds_none s s' t.number t.from t.to t.tell t.watch t.step in
    record {
      covered = covered_kept s s' t.number t.from t.to t.tell t.watch t.step p t.before t.is;
      meet = meet_kept s s' t.number t.from t.to t.tell t.watch t.step p t.before t.is filled.meet;
      cover = cover_kept s s' t.number t.from t.to t.tell t.watch t.step p t.before t.is;
      low = low_kept s s' keeps none filled.low;
      hole_free = hole_free_kept p s s' keeps none filled.hole_free;
    }

pub filled_known : (p : SettingsValue) (s s' : System) → KnownTellIsTaken p s s' → AreFilled p s → AreFilled p s'
filled_known p s s' t filled =
    let step = t.step in
    let kept = keeps p s s' t.number t.from t.to t.tell t.watch t.step t.before t.is in
    let none = adds_none p s s' t.number t.from t.to t.tell t.watch t.step t.before t.is in
    let takes = takes_one p s s' t.number t.from t.to t.tell t.watch t.step t.before t.is in
    let calm : AddsNoCover s s' = record {
      kept = λ y d level core covers. covers_on s s' t.to step.before step.after step.at step.covers y d level covers;
      was = covers_same s s' t.to step.before step.after step.at step.covers;
      pins = λ y e core pin. pins_back s s' t.to step.before step.after step.at (λ u is. sym (step.links u) ∙ is) y e pin;
      surrogate = step.surrogate;
    } in
    record {
      covered = covered_calm p s s' kept none calm filled.covered;
      meet = meet_calm p s s' kept none calm (met_stays s s' t.to t.tell.joiner t.tell.level kept takes) filled.meet;
      cover = cover_known p s s' t.number t.from t.to t.tell t.watch t.step t.before t.is;
      low = low_kept s s' kept none filled.low;
      hole_free = hole_free_kept p s s' kept none filled.hole_free;
    }
