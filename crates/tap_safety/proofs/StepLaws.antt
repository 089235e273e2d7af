-- What the steps keep that change no cover, and what moves are.
-- Cited above: await_closing_law, await_handing_on_law, await_last_law, await_opening_law, await_others_law, await_root_law, awaited_closing_law,
-- awaited_handing_on_law, awaited_last_law, awaited_opening_law, awaited_others_law, awaited_root_law, ceased_words_law, closing_law,
-- closing_turns_law, depths_law, exchanged_law, filled_done_law, filled_known_law, filled_seat_law, filled_tell_law, forget_filled_law,
-- gives_quiet_law, handing_on_law, handing_on_turns_law, hello_filled_law, join_filled_law, joins_closing_law, joins_handing_on_law, joins_last_law,
-- joins_opening_law, joins_root_law, last_answer_law, last_turns_law, numbers_new_law, opening_turns_law, others_law, places_law, plain_law,
-- release_filled_law, root_opened_law, root_turns_law, seek_on_law, seeking_done_law, seeking_frame_law, seeking_join_law, seeking_law,
-- seeking_seat_law, seeking_tell_law, soft_ceased_law, soft_done_law, soft_forget_law, soft_hello_law, soft_join_law, soft_joining_law,
-- soft_plain_law, soft_release_law, soft_seat_law, soft_tell_law, start_filled_law, tell_ceased_law, tell_joining_law, tells_frame_law, tells_law,
-- ties_words_law, versions_words_law, words_said_law
use Rattle.tap_safety.specs.StepLaws.{InvariantGivesBefore, InvariantGivesQuiet, InvariantGivesSeat, InvariantGivesTell}
use Rattle.tap_safety.specs.StepLaws.{SeekingKeptByDone, SeekingKeptByKnownTell, SeekingKeptBySeat, SeekingKeptByTell}
use Rattle.tap_safety.specs.StepLaws.{JoinerIsNewBySeat, JoinsKeptByRoot, SeekingKeptBySeek, SoftKeptBySeat}
use Rattle.tap_safety.specs.StepLaws.{CeasedKeptByWords, TiesKeptByWords, VersionsKeptByWords}
use Rattle.tap_safety.specs.StepLaws.{JoinsKeptByClosing, JoinsKeptByHandingOn, JoinsKeptByLastAnswer, JoinsKeptByOpening}
use Rattle.tap_safety.specs.StepLaws.{SeekingKept, SoftKeptByForget, SoftKeptByHello, SoftKeptByPlainFrame, SoftKeptByRelease}
use Rattle.tap_safety.specs.StepLaws.{SoftKeptByTellCeased, SoftKeptByTellJoining, TellsKept}
use Rattle.tap_safety.specs.StepLaws.{FilledKeptByDone, JoinersStayByFrame, SeekingKeptByFrame, SoftKeptByDone, SoftKeptByJoin}
use Rattle.tap_safety.specs.StepLaws.{SoftKeptByKnownTell, SoftKeptByStart, SoftKeptByTell, TellsKeptByFrame}
use Rattle.tap_safety.specs.StepLaws.{AwaitKeptByClosing, AwaitKeptByHandingOn, AwaitKeptByLastAnswer, AwaitKeptByOpening}
use Rattle.tap_safety.specs.StepLaws.{AwaitedKeptByClosing, AwaitedKeptByHandingOn, AwaitedKeptByLastAnswer, AwaitedKeptByOpening}
use Rattle.tap_safety.specs.StepLaws.{AwaitedKeptByOthers, AwaitedKeptByRoot, NumbersAreNew}
use Rattle.tap_safety.specs.StepLaws.{AwaitKeptByOthers, AwaitKeptByRoot, ClosingTurns, DepthsKeptByTurn, HandingOnTurns}
use Rattle.tap_safety.specs.StepLaws.{LastAnswerTurns, OpeningTurns, PlacesKeptByTurn, RootTurns}
use Rattle.tap_safety.specs.StepLaws.{FilledKeptByKnownTell, FilledKeptBySeat, FilledKeptByTell, FramesAreExchanged, SeekingKeptByJoin, WordsSaidByFrame}
use Rattle.tap_safety.specs.StepLaws.{
  DeliveryIsStep,
  FilledKeptByForget,
  FilledKeptByHello,
  FilledKeptByJoin,
  FilledKeptByPlainFrame,
  FilledKeptByRelease,
  FilledKeptByStart,
  FilledKeptByTellCeased,
  FilledKeptByTellJoining,
  NumberIsFound,
  NumbersKeptByFrame,
  NumbersKeptByStart,
  SessionsKeptByClosing,
  SessionsKeptByHandingOn,
  SessionsKeptByLastAnswer,
  SessionsKeptByOthers,
  SessionsKeptByRoot,
  StartIsStep,
  StrayIsLost,
}
use Rattle.tap_safety.proofs.FrameKeeps.{ceased_filled, joining_filled, plain_filled}
use Rattle.tap_safety.proofs.Exchanged.{exchanged}
use Rattle.tap_safety.proofs.JoinSeeking.{join_seekers, join_seeking}
use Rattle.tap_safety.proofs.DoneCalm.{filled_done}
use Rattle.tap_safety.proofs.FrameWords.{frame_forgets, frame_says}
use Rattle.tap_safety.proofs.RootSteps.{root_ends, root_joiners}
use Rattle.tap_safety.proofs.FromInvariant.{before_done, before_seat, before_tell, quiet_of, tell_of}
use Rattle.tap_safety.proofs.SeekOn.{goes_on_seekers, goes_on_seeking}
use Rattle.tap_safety.proofs.CoverSeeking.{done_leaves_seekers, done_tells, known_leaves_seekers, known_leaves_tells}
use Rattle.tap_safety.proofs.CoverSeeking.{seat_leaves_seekers, seat_leaves_tells, tell_leaves_seekers, tell_leaves_tells}
use Rattle.tap_safety.proofs.SeatSoft.{joiner_is_new, seat_soft}
use Rattle.tap_safety.proofs.TellFilled.{filled_known, filled_tell}
use Rattle.tap_safety.proofs.SeekFilled.{filled_seat}
use Rattle.tap_safety.proofs.FrameSeeking.{frame_joiners_stay, frame_leaves_seekers, frame_leaves_tells}
use Rattle.tap_safety.proofs.SoftSteps.{done_soft, join_soft, known_soft, start_soft, tell_soft}
use Rattle.tap_safety.proofs.JoinSteps.{closes_child_ends, closes_child_joiners, closes_root_ends, closes_root_joiners}
use Rattle.tap_safety.proofs.JoinSteps.{hands_on_ends, hands_on_joiners, opens_child_ends, opens_child_joiners}
use Rattle.tap_safety.proofs.SeekingKept.{seekers_kept, seeking_kept, tells_kept}
use Rattle.tap_safety.proofs.SoftKept.{ceased_soft, forget_soft, hello_soft, joining_soft, plain_soft, release_soft}
use Rattle.tap_safety.proofs.WordsKept.{words_ceased, words_ties, words_versions}
use Rattle.tap_safety.proofs.LinkKeeps.{forget_filled, forget_way, hello_filled, release_filled}
use Rattle.tap_safety.proofs.AwaitedKept.{closed_awaited, handed_on_awaited, last_awaited, left_awaited, opened_awaited, root_awaited}
use Rattle.tap_safety.proofs.Moved.{ascend_numbered, delivers, found, lost, numbers_sent, numbers_taken, starts}
use Rattle.tap_safety.proofs.PlacesKept.{closes_child_await, closes_root_await, deeper_kept, hands_on_await, leaves_await}
use Rattle.tap_safety.proofs.PlacesKept.{opens_child_await, opens_root_await, places_kept}
use Rattle.tap_safety.proofs.SessionsKept.{closes_child_turns, closes_root_turns, hands_on_turns, opens_child_turns, opens_root_turns}
use Rattle.tap_safety.proofs.SessionsKept.{closed_exact, handed_on_exact, last_exact, left_exact, root_exact}
use Rattle.tap_safety.proofs.StartKeeps.{join_filled, start_filled}

pub delivery_law : DeliveryIsStep
delivery_law p s number frame node is at = delivers p s number frame node is at

pub stray_law : StrayIsLost
stray_law p s number frame is nobody = lost p s number frame is nobody

pub start_is_law : StartIsStep
start_is_law p s x start node is = starts p s x start node is

pub found_law : NumberIsFound
found_law s number frame are among = found number frame 0 s.frames s.next are.numbers among

pub numbers_frame_law : NumbersKeptByFrame
numbers_frame_law s s' number frame sent taken are = numbers_taken s s' number frame sent taken are

pub numbers_start_law : NumbersKeptByStart
numbers_start_law s s' sent has are = numbers_sent s s' sent has are

pub plain_law : FilledKeptByPlainFrame
plain_law p s s' number frame step filled = plain_filled s s' number frame step p filled

pub tell_ceased_law : FilledKeptByTellCeased
tell_ceased_law p s s' number w x tell watch step filled = ceased_filled s s' number w x tell watch step p filled

pub tell_joining_law : FilledKeptByTellJoining
tell_joining_law p s s' number w x tell watch step filled = joining_filled s s' number w x tell watch step p filled

pub hello_filled_law : FilledKeptByHello
hello_filled_law p s s' number w b hello step soft filled = hello_filled s s' number w b hello step soft p filled

pub release_filled_law : FilledKeptByRelease
release_filled_law p s s' number t x step soft filled = release_filled s s' number t x step soft p filled

pub forget_filled_law : FilledKeptByForget
forget_filled_law p s s' number n x step ceased filled =
    forget_filled s s' number n x step (ceased.forgets n x (forget_way s s' number n x step)) p filled

pub start_filled_law : FilledKeptByStart
start_filled_law p s s' x start filled = start_filled s s' x start p filled

pub join_filled_law : FilledKeptByJoin
join_filled_law p s s' x start filled = join_filled s s' x start p filled

pub handing_on_law : SessionsKeptByHandingOn
handing_on_law s s' number f w k sent step sound = handed_on_exact s s' number f w k sent step sound

pub root_opened_law : SessionsKeptByRoot
root_opened_law s s' number f x l sent step sound = root_exact s s' number f x l sent step sound

pub closing_law : SessionsKeptByClosing
closing_law s s' number f x k w m sent step sound = closed_exact s s' number f x k w m sent step sound

pub last_answer_law : SessionsKeptByLastAnswer
last_answer_law s s' number f x k sent step sound = last_exact s s' number f x k sent step sound

pub others_law : SessionsKeptByOthers
others_law s s' step sound = left_exact s s' step sound

pub awaited_handing_on_law : AwaitedKeptByHandingOn
awaited_handing_on_law s s' number f w k sent step new exact numbered sound =
    handed_on_awaited s s' number f w k sent step s'.next exact numbered new sound

pub awaited_opening_law : AwaitedKeptByOpening
awaited_opening_law s s' number f w k x l sent step new sound = opened_awaited s s' number f w k x l sent step s'.next new sound

pub awaited_root_law : AwaitedKeptByRoot
awaited_root_law s s' number f x l sent step new sound = root_awaited s s' number f x l sent step s'.next new sound

pub awaited_closing_law : AwaitedKeptByClosing
awaited_closing_law s s' number f x k w m sent step new exact numbered sound =
    closed_awaited s s' number f x k w m sent step s'.next exact numbered new sound

pub awaited_last_law : AwaitedKeptByLastAnswer
awaited_last_law s s' number f x k sent step sound = last_awaited s s' number f x k sent step sound

pub awaited_others_law : AwaitedKeptByOthers
awaited_others_law s s' step sound = left_awaited s s' step sound

pub numbers_new_law : NumbersAreNew
numbers_new_law s s' number frame sent taken = rw taken.next (ascend_numbered s.next sent)

pub joins_handing_on_law : JoinsKeptByHandingOn
joins_handing_on_law s s' number f w k sent step sound stay none about_them =
    (hands_on_joiners s s' number f w k sent step sound stay none about_them, hands_on_ends s s' number f w k sent step sound stay none)

pub joins_opening_law : JoinsKeptByOpening
joins_opening_law s s' number f w k x l sent step sound stay none about_them = (
  opens_child_joiners s s' number f w k x l sent step sound stay none about_them,
  opens_child_ends s s' number f w k x l sent step sound stay none,
)

pub joins_closing_law : JoinsKeptByClosing
joins_closing_law s s' number f x k w m sent step sound stay none about_them = (
  closes_child_joiners s s' number f x k w m sent step sound stay none about_them,
  closes_child_ends s s' number f x k w m sent step sound stay none,
)

pub joins_last_law : JoinsKeptByLastAnswer
joins_last_law s s' number f x k sent step sound stay done about_them = (
  closes_root_joiners s s' number f x k sent step sound stay done about_them,
  closes_root_ends s s' number f x k sent step sound stay done,
)

pub soft_plain_law : SoftKeptByPlainFrame
soft_plain_law s s' number frame plain sound soft = plain_soft s s' number frame plain sound soft

pub soft_ceased_law : SoftKeptByTellCeased
soft_ceased_law s s' number w x tell watch step soft = ceased_soft s s' number w x tell watch step soft

pub soft_joining_law : SoftKeptByTellJoining
soft_joining_law s s' number w x tell watch step joiner here apart soft =
    joining_soft s s' number w x tell watch step joiner here apart soft

pub soft_hello_law : SoftKeptByHello
soft_hello_law s s' number w b hello step soft = hello_soft s s' number w b hello step soft

pub soft_release_law : SoftKeptByRelease
soft_release_law s s' number t x step soft = release_soft s s' number t x step soft

pub soft_forget_law : SoftKeptByForget
soft_forget_law s s' number n x step soft = forget_soft s s' number n x step soft

pub seeking_law : SeekingKept
seeking_law s s' leaves = (seeking_kept s s' leaves, seekers_kept s s' leaves)

pub tells_law : TellsKept
tells_law p s s' leaves tells = tells_kept p s s' leaves tells

pub ties_words_law : TiesKeptByWords
ties_words_law s s' x step ties = words_ties s s' x step ties

pub versions_words_law : VersionsKeptByWords
versions_words_law s s' x step versions = words_versions s s' x step versions

pub ceased_words_law : CeasedKeptByWords
ceased_words_law s s' x step forgets ceased = words_ceased s s' x step forgets ceased

pub filled_done_law : FilledKeptByDone
filled_done_law p s s' d = filled_done p s s' d.number d.from d.to d.before d.quiet d.step

pub soft_tell_law : SoftKeptByTell
soft_tell_law s s' number w x tell watch step joiner sound soft = tell_soft s s' number w x tell watch step joiner sound soft

pub soft_known_law : SoftKeptByKnownTell
soft_known_law s s' number w x tell watch step sound soft = known_soft s s' number w x tell watch step sound soft

pub soft_done_law : SoftKeptByDone
soft_done_law s s' number w e step sound soft = done_soft s s' number w e step sound soft

pub soft_start_law : SoftKeptByStart
soft_start_law s s' x start sound soft = start_soft s s' x start sound soft

pub soft_join_law : SoftKeptByJoin
soft_join_law s s' x start sound soft = join_soft s s' x start sound soft

pub seeking_frame_law : SeekingKeptByFrame
seeking_frame_law s s' number frame step quiet apart new =
    let leaves = frame_leaves_seekers s s' number frame step quiet apart new in
    (seeking_kept s s' leaves, seekers_kept s s' leaves)

pub tells_frame_law : TellsKeptByFrame
tells_frame_law p s s' number frame step quiet tells = tells_kept p s s' (frame_leaves_tells s s' number frame step quiet p) tells

pub joiners_frame_law : JoinersStayByFrame
joiners_frame_law s s' number frame step = frame_joiners_stay s s' number frame step

pub handing_on_turns_law : HandingOnTurns
handing_on_turns_law s s' number f w k sent step sound = hands_on_turns s s' number f w k sent step sound

pub opening_turns_law : OpeningTurns
opening_turns_law s s' number f w k x l sent step sound = opens_child_turns s s' number f w k x l sent step sound

pub root_turns_law : RootTurns
root_turns_law s s' number f x l sent step sound = opens_root_turns s s' number f x l sent step sound

pub closing_turns_law : ClosingTurns
closing_turns_law s s' number f x k w m sent step sound = closes_child_turns s s' number f x k w m sent step sound

pub last_turns_law : LastAnswerTurns
last_turns_law s s' number f x k sent step sound = closes_root_turns s s' number f x k sent step sound

pub places_law : PlacesKeptByTurn
places_law s s' sent turns keeps have = places_kept s s' sent turns keeps have

pub depths_law : DepthsKeptByTurn
depths_law s s' sent turns sound sends deeper = deeper_kept s s' sent turns sound sends deeper

pub await_handing_on_law : AwaitKeptByHandingOn
await_handing_on_law s s' number f w k sent step some await = hands_on_await s s' number f w k sent step some await

pub await_opening_law : AwaitKeptByOpening
await_opening_law s s' number f w k x l sent step sound some await = opens_child_await s s' number f w k x l sent step sound some await

pub await_root_law : AwaitKeptByRoot
await_root_law s s' number f x l sent step sound some await = opens_root_await s s' number f x l sent step sound some await

pub await_closing_law : AwaitKeptByClosing
await_closing_law s s' number f x k w m sent step sound some await = closes_child_await s s' number f x k w m sent step sound some await

pub await_last_law : AwaitKeptByLastAnswer
await_last_law s s' number f x k sent step await = closes_root_await s s' number f x k sent step await

pub await_others_law : AwaitKeptByOthers
await_others_law s s' step await = leaves_await s s' step await

pub exchanged_law : FramesAreExchanged
exchanged_law s s' number frame sent taken are = exchanged s s' number frame sent taken are

pub seeking_join_law : SeekingKeptByJoin
seeking_join_law p s s' x via start seeks before seeking of =
    (join_seeking p s s' x via start seeks before seeking of, join_seekers p s s' x via start seeks before seeking of)

pub words_said_law : WordsSaidByFrame
words_said_law s s' number frame step done says no_more stamped table = (
  frame_says s s' number frame step done says no_more stamped table,
  frame_forgets s s' number frame step done says no_more stamped table,
)

pub filled_seat_law : FilledKeptBySeat
filled_seat_law p s s' number w x b step before filled = filled_seat p s s' number w x b step before filled

pub filled_tell_law : FilledKeptByTell
filled_tell_law p s s' t filled = filled_tell p s s' t filled

pub filled_known_law : FilledKeptByKnownTell
filled_known_law p s s' t filled = filled_known p s s' t filled

pub joins_root_law : JoinsKeptByRoot
joins_root_law s s' number f x l sent step sound new none apart about_them of = (
  root_joiners s s' number f x l sent step sound new none apart about_them of,
  root_ends s s' number f x l sent step sound new none apart of,
)

pub joiner_seat_law : JoinerIsNewBySeat
joiner_seat_law p s s' number w x b step seeker = joiner_is_new p s s' number w x b step seeker

pub soft_seat_law : SoftKeptBySeat
soft_seat_law p s s' number w x b step seeker sound soft = seat_soft p s s' number w x b step seeker sound soft

pub seek_on_law : SeekingKeptBySeek
seek_on_law s s' number w x b t goes are =
    (goes_on_seeking s s' number w x b t goes are, goes_on_seekers s s' number w x b t goes are)

pub seeking_tell_law : SeekingKeptByTell
seeking_tell_law p s s' number w x tell watch step core joiner sends =
    let leaves = tell_leaves_seekers p s s' number w x tell watch joiner step sends core in (
      (seeking_kept s s' leaves, seekers_kept s s' leaves),
      tells_kept p s s' (tell_leaves_tells p s s' number w x tell watch joiner step sends),
    )

pub seeking_known_law : SeekingKeptByKnownTell
seeking_known_law p s s' number w x tell watch step core joiner sends =
    let leaves = known_leaves_seekers p s s' number w x tell watch joiner step sends core in (
      (seeking_kept s s' leaves, seekers_kept s s' leaves),
      tells_kept p s s' (known_leaves_tells p s s' number w x tell watch joiner step sends),
    )

pub seeking_seat_law : SeekingKeptBySeat
seeking_seat_law p s s' number w x b step core seeker sends numbered seeking =
    let leaves = seat_leaves_seekers p s s' number w x b step seeker sends core seeking numbered in (
      seeking_kept s s' leaves seeking,
      seekers_kept s s' leaves,
      tells_kept p s s' (seat_leaves_tells p s s' number w x b step seeker sends),
    )

pub seeking_done_law : SeekingKeptByDone
seeking_done_law p s s' number w e step quiet sends =
    let leaves = done_leaves_seekers p s s' number w e step quiet.joiner sends in
    ((seeking_kept s s' leaves, seekers_kept s s' leaves), done_tells p s s' number w e step quiet.joiner sends quiet)

pub gives_tell_law : InvariantGivesTell
gives_tell_law p s from x fields watch invariant way core = tell_of p s invariant from x fields watch way core

pub gives_quiet_law : InvariantGivesQuiet
gives_quiet_law p s w e invariant done = quiet_of p s invariant w e done

pub gives_before_law : InvariantGivesBefore
gives_before_law p s invariant none =
    (before_tell p s invariant.basis none invariant.filled, before_done p s invariant.basis none invariant.filled)

pub gives_seat_law : InvariantGivesSeat
gives_seat_law p s from x b invariant none way core = before_seat p s invariant none from x b way core
