-- At each moment of a run the system has the frames and nodes that the log says; and so it stays with the ending of the log.
use Rattle.std.proofs.Common.{ℕ, List, ◌++◌, not, take, ap, sym, subst, ◌∙◌}
use Rattle.std.specs.Prelude.{◌&&◌}
use Rattle.std.proofs.lemmas.List.Elements.{All-weaker}
use Rattle.tap_name.specs.Names.{has_name}
use Rattle.tap_name.specs.Settings.{SettingsValue}
use Rattle.tap_wire.specs.declared.frame.Frame.{Frame}
use Rattle.tap_log.specs.declared.record.Record.{Record}
use Rattle.tap_log.specs.Frames.{bytes_of}
use Rattle.tap_log.specs.MoreRecords.{first_of_both}
use Rattle.tap_log.proofs.MoreRecords.{bytes_of-append}
use Rattle.tap_history.specs.Core.{core_of, present_of}
use Rattle.tap_runs.specs.Course.{system_of}
use Rattle.tap_runs.specs.CourseLaws.{FramesAgree, HasBytes, NodesAgree}
use Rattle.tap_runs.proofs.Departing.{course_nodes_holds}
use Rattle.tap_runs.proofs.Frames.{course_frames_holds}
use Rattle.tap_safe_runs.specs.Moments.{AtEachMoment}
use Rattle.tap_safe_runs.proofs.Safe.{runs_grow}
use Rattle.tap_headline.specs.AsLogged.{FramesAreAsLogged, NodesAreAsLogged}
use Rattle.tap_headline.proofs.FewStay.{same_sent}
use Rattle.tap_headline.proofs.KeptByEnds.{IsKept}

pub frames_at : AtEachMoment FramesAreAsLogged
frames_at b log m run is =
    let before = runs_grow.moments b log m run is in
    course_frames_holds b (take m log) before.course before.going

pub nodes_at : AtEachMoment NodesAreAsLogged
nodes_at b log m run is =
    let before = runs_grow.moments b log m run is in
    course_nodes_holds b (take m log) before.course before.going

-- the bytes that a log has, the longer one has
still_has : (p : SettingsValue) (log ending : List Record) (f : ℕ × Frame) → HasBytes p log f → HasBytes p (log ++ ending) f
still_has p log ending f has =
    bytes_of-append log ending f.0 ∙ ap (λ bytes. first_of_both bytes (bytes_of ending f.0)) has

pub frames_stay : IsKept FramesAreAsLogged
frames_stay b log ending ended moment agree =
    let p = b.settings in
    let longer = log ++ ending in
    let s = system_of log in
    subst (FramesAgree p longer) (sym ended.same.system) (record {
      numbers = agree.numbers ∙ sym ended.same.frames;
      bytes = All-weaker (HasBytes p log) (HasBytes p longer) (still_has p log ending) s.frames agree.bytes;
      next = agree.next ∙ sym (same_sent b log ending ended);
    })

pub nodes_stay : IsKept NodesAreAsLogged
nodes_stay b log ending ended moment agree =
    let longer = log ++ ending in
    let same = ended.same in
    subst (NodesAgree longer) (sym same.system) (record {
      core = λ x. ap (λ l. has_name l x) same.core ∙ agree.core x;
      present = λ x. ap (λ l. has_name l x) same.present ∙ agree.present x;
      gone = λ x. ap (λ l. has_name l x) same.gone ∙ agree.gone x;
      ever = λ x. ap (λ l. has_name l x) same.names ∙ agree.ever x;
      joining = λ x.
          ap (λ l. has_name l x && not (has_name (core_of longer) x)) same.present
          ∙ ap (λ l. has_name (present_of log) x && not (has_name l x)) same.core ∙ agree.joining x;
      departing = same.departing ∙ agree.departing;
    })
