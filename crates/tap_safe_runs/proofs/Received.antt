-- What a run says of a frame that is taken.
-- Cited above: frames_are_received
use Rattle.std.proofs.Common.{◌≡◌, ℕ, List, ◌∷◌, Some, ap, ◌∙◌}
use Rattle.tap_log.specs.declared.record.Record.{Record}
use Rattle.tap_log.specs.declared.record.Record.TheVariants.{Taken}
use Rattle.tap_rule.specs.Event.Event.{Takes}
use Rattle.tap_safety.specs.Moved.{numbered_frame}
use Rattle.tap_safety.proofs.Moved.{found}
use Rattle.tap_runs.specs.Beginning.{Beginning}
use Rattle.tap_runs.specs.Course.{Follows, FollowTaken, MayFollow, system_of}
use Rattle.tap_runs.specs.Group.{received_records, records_of_act}
use Rattle.tap_safety_moves.proofs.Consequences.{none_is_strange}
use Rattle.tap_safe_runs.specs.Safe.{IsRun}
use Rattle.tap_safe_runs.specs.Taken.{FramesAreReceived, IsReceived}
use Rattle.tap_safe_runs.proofs.Possible.{may_take}
use Rattle.tap_safe_runs.proofs.Safe.{runs_are_sound}

module _ (b : Beginning) (log : List Record) (number : ℕ) (items : List Record) (run : IsRun b log) where
  -- the frame is under way, its receiver is a node, and this node acts
  receives : FollowTaken b.settings log (system_of log) number items → IsReceived b.settings log (system_of log) number items
  receives follows =
      let p = b.settings in
      let s = system_of log in
      let sound = runs_are_sound b log run in
      let inv = sound.invariant.basis in
      let arrives = may_take b log run.course run.going inv number follows.waits in
      let frame = arrives.frame in
      let receiver = arrives.receiver in
      let is : numbered_frame number s.frames ≡ Some frame = found number frame 0 s.frames s.next inv.numbered.numbers arrives.among in
      record {
        frame = frame;
        node = receiver.state;
        among = arrives.among;
        receiver = receiver.is;
        fits = none_is_strange p s number frame receiver.state sound arrives.among receiver.is;
        acts =
            follows.are ∙ ap (received_records p log s) is
            ∙ ap (λ node. records_of_act p log frame.to node (Takes frame)) receiver.is;
      }

  -- what follows a `Taken`
  taken_received : Follows b log (Taken number ∷ items) → IsReceived b.settings log (system_of log) number items
  unfolding MayFollow
  taken_received follows = receives follows.may

pub frames_are_received : FramesAreReceived
frames_are_received b log number items run follows = taken_received b log number items run follows
