-- What holds of the sessions of joins.
-- Cited above: opened_law, quiet_law
use Rattle.tap_safety.specs.KeptLaws.{NoSessionWithoutRoot, OnlyTheLastFrameIsLeft, OnlyTheRootIsLeft, QuietOnceDone, SessionsKeptByOpening}
use Rattle.tap_safety.proofs.Chains.{no_session, only_frame, only_session}
use Rattle.tap_safety.proofs.Quiet.{quiet}
use Rattle.tap_safety.proofs.SessionsKept.{child_exact}

pub opened_law : SessionsKeptByOpening
opened_law s s' number f w k x l sent step sound = child_exact s s' number f w k x l sent step sound

pub rootless_law : NoSessionWithoutRoot
rootless_law s b sound rootless y l o is joiner = no_session s b sound rootless y l o is joiner

pub root_law : OnlyTheRootIsLeft
root_law s x k number sound last y l o is joiner = only_session s x k number sound last y l o is joiner

pub frame_law : OnlyTheLastFrameIsLeft
frame_law s x k number sound last m f y l o among belongs is joiner =
    only_frame s x k number sound last m f y l o among belongs is joiner

pub quiet_law : QuietOnceDone
quiet_law s w e sound whose once joiner done = quiet s e sound whose joiner once w done
